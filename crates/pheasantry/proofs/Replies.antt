-- Replies: the numbers of an answer say which reply it is, and keep the promise of its call.
use mathlib.Core.Path.{◌≡◌, sym, ap, ◌∙◌, subst}
use mathlib.Core.List.{List}
use Prim.Native.Nat.{ℕ}
use Rattle.std.specs.Prelude.{Bool, Result}
use Rattle.wire.specs.Reply.{Reply}
use Rattle.wire.specs.Checking.{VocabularyPromise, TermPromise}
use Rattle.wire.specs.Matching.{MatchPromise}
use Rattle.wire.specs.Leftovers.{ListPromise}
use Rattle.wire.specs.Filled.{FillPromise}
use Rattle.wire.specs.BookLeftovers.{BookPromise}
use Rattle.wire.specs.Effect.{HasEffect}
use Rattle.wire.specs.CheckComputed.{vocabulary_reply, term_reply}
use Rattle.wire.specs.MatchComputed.{matched}
use Rattle.wire.specs.ListComputed.{listed}
use Rattle.wire.specs.FillComputed.{filled}
use Rattle.signature.specs.Answers.{vocabulary_numbers}
use Rattle.std.specs.Prelude.{⊤, Result}
use Rattle.signature.specs.declared.VocabularyRefusal.{VocabularyRefusal}
use Rattle.reader.specs.Answers.{term_numbers}
use Rattle.reader.specs.declared.CheckedTerm.{CheckedTerm}
use Rattle.reader.specs.declared.CheckRefusal.{CheckRefusal}
use Rattle.matcher.specs.Answers.{match_numbers}
use Rattle.matcher.specs.declared.MatchRefusal.{MatchRefusal}
use Rattle.complement.specs.Answers.{list_numbers}
use Rattle.sizes.specs.declared.Size.{Size}
use Rattle.complement.specs.declared.ListRefusal.{ListRefusal}
use Rattle.filler.specs.Answers.{fill_numbers}
use Rattle.filler.specs.declared.FillRefusal.{FillRefusal}
use Rattle.books.specs.Answers.{book_list_numbers}
use Rattle.books.specs.declared.BookListRefusal.{BookListRefusal}
use Rattle.numbers.specs.Numbers.{reply_numbers, reply_in}
use Rattle.numbers.proofs.Said.{vocabulary_said, term_said, match_said, list_said, fill_said, book_said}
use Rattle.pheasantry.specs.Replies.{VocabularyReplied, TermReplied, MatchReplied, ListReplied, FillReplied, BookReplied}

-- The numbers of an answer that can be read back are those of the reply that they say.
formed : (k : ℕ) {numbers : List ℕ} (r : Reply) → numbers ≡ reply_numbers r → reply_in k (reply_numbers r) ≡ r →
    (numbers ≡ reply_numbers (reply_in k numbers)) × (reply_in k numbers ≡ r)
formed k r e back = let said = ap (reply_in k) e ∙ back in (e ∙ ap reply_numbers (sym said), said)

pub vocabulary_replied : {v numbers : List ℕ} (a : Result ⊤ VocabularyRefusal) → numbers ≡ reply_numbers (vocabulary_numbers a) →
    VocabularyPromise v (vocabulary_numbers a) × (vocabulary_numbers a ≡ vocabulary_reply v) →
    VocabularyReplied v numbers × (reply_in 0 numbers ≡ vocabulary_reply v)
vocabulary_replied {v} a e (promise, shown) =
    let f = formed 0 (vocabulary_numbers a) e (vocabulary_said a) in
    (record { form = f.0; promise = subst (VocabularyPromise v) (sym f.1) promise }, f.1 ∙ shown)

pub term_replied : {v b numbers : List ℕ} (a : Result CheckedTerm CheckRefusal) → numbers ≡ reply_numbers (term_numbers a) →
    TermPromise v b (term_numbers a) × (term_numbers a ≡ term_reply v b) →
    TermReplied v b numbers × (reply_in 4 numbers ≡ term_reply v b)
term_replied {v} {b} a e (promise, shown) =
    let f = formed 4 (term_numbers a) e (term_said a) in
    (record { form = f.0; promise = subst (TermPromise v b) (sym f.1) promise }, f.1 ∙ shown)

pub match_replied : {v p s before after numbers : List ℕ} (a : Result Bool MatchRefusal) → numbers ≡ reply_numbers (match_numbers a) →
    MatchPromise v p s before after (match_numbers a) × HasEffect (matched v p s before) (match_numbers a) after →
    MatchReplied v p s before after numbers × HasEffect (matched v p s before) (reply_in 1 numbers) after
match_replied {v} {p} {s} {before} {after} a e (promise, shown) =
    let f = formed 1 (match_numbers a) e (match_said a) in (
      record { form = f.0; promise = subst (MatchPromise v p s before after) (sym f.1) promise },
      record { reply = f.1 ∙ shown.reply; after = shown.after },
    )

pub list_replied : {v p before after numbers : List ℕ} (a : Result Size ListRefusal) → numbers ≡ reply_numbers (list_numbers a) →
    ListPromise v p before after (list_numbers a) × HasEffect (listed v p before) (list_numbers a) after →
    ListReplied v p before after numbers × HasEffect (listed v p before) (reply_in 2 numbers) after
list_replied {v} {p} {before} {after} a e (promise, shown) =
    let f = formed 2 (list_numbers a) e (list_said a) in (
      record { form = f.0; promise = subst (ListPromise v p before after) (sym f.1) promise },
      record { reply = f.1 ∙ shown.reply; after = shown.after },
    )

pub fill_replied : {v p b before after numbers : List ℕ} (a : Result ℕ FillRefusal) → numbers ≡ reply_numbers (fill_numbers a) →
    FillPromise v p b before after (fill_numbers a) × HasEffect (filled v p b before) (fill_numbers a) after →
    FillReplied v p b before after numbers × HasEffect (filled v p b before) (reply_in 1 numbers) after
fill_replied {v} {p} {b} {before} {after} a e (promise, shown) =
    let f = formed 1 (fill_numbers a) e (fill_said a) in (
      record { form = f.0; promise = subst (FillPromise v p b before after) (sym f.1) promise },
      record { reply = f.1 ∙ shown.reply; after = shown.after },
    )

pub book_replied : {v b before after numbers : List ℕ} (a : Result Size BookListRefusal) → numbers ≡ reply_numbers (book_list_numbers a) →
    BookPromise v b before after (book_list_numbers a) → BookReplied v b before after numbers
book_replied {v} {b} {before} {after} a e promise =
    let f = formed 2 (book_list_numbers a) e (book_said a) in
    record { form = f.0; promise = subst (BookPromise v b before after) (sym f.1) promise }
