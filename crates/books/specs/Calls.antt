-- Calls: what the parts of the call list_book promise each other; no public contract cites it.
--
--   ListsBook    what listing a book that is accepted does
--
use Rattle.std.specs.Prelude.{List, ℕ}
use Rattle.terms.specs.Productive.{whole_of}
use Rattle.wire.specs.Reply.{Reply}
use Rattle.wire.specs.Effect.{HasEffect}
use Rattle.wire.specs.Vocabulary.{signature}
use Rattle.wire.specs.BookLeftovers.{most_listed}
use Rattle.wire.specs.BookComputed.{first_past, book_into}
use Rattle.std.specs.Prelude.{Option}
use Rattle.books.specs.Turning.{BookAt}

abbrev pub ListsBook : List ℕ → ℕ → List ℕ → Option ℕ → List ℕ → List ℕ → Reply → Type 0
ListsBook book words settled missing before after r =
    (h : BookAt book words settled missing) →
    HasEffect
    (book_into h.vocabulary before (record { kind = h.kind; patterns = h.patterns })
    (first_past h.vocabulary h.kind most_listed 0 (whole_of (signature h.vocabulary) h.kind) h.patterns)) r after
