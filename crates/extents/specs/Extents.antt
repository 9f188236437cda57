-- Extents: where a term ends, by its bytes alone.
--
--   most_extent      so many bytes are looked at (65,536)
--   term_size l      how many bytes the term at the front of l takes
--   TermExtent      of a term that is written there, it is the number of its bytes
--
use Rattle.std.specs.Prelude.{◌≡◌, false, List, ◌++◌, ℕ, ◌≤◌, length, take}
use Rattle.terms.specs.Term.{Term, Sorted}
use Rattle.wire.specs.Map.{is_open}
use Rattle.wire.specs.Vocabulary.{Vocabulary, InOrder, signature}
use Rattle.wire.specs.TermBytes.{encode_at}
use Rattle.wire.specs.EntryCut.{due_size}

abbrev pub most_extent : ℕ
most_extent = 65536

abbrev pub term_size : List ℕ → ℕ
term_size l = due_size (take most_extent l) 1

abbrev pub TermExtent : Type 0
TermExtent = (W : Vocabulary) → InOrder W → (t : Term) (s : ℕ) → Sorted (signature W) t s → is_open t ≡ false →
    length (encode_at W t) ≤ most_extent → (r : List ℕ) → term_size (encode_at W t ++ r) ≡ length (encode_at W t)
