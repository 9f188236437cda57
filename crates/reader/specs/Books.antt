-- Books: what reading a vocabulary and a book gives; the contract of `read_book` cites BookRead, the rest is what private
-- functions promise each other.
--
--   BookRead v b          the reply of reading the vocabulary v and the book b under it, and the table by which listings go before
--                         and after, each for every v and b
--   patterns_numbers r     the reply of reading the patterns of a book
--   book_reply W b         the reply of reading the book b under an accepted vocabulary
--   count_of b             how many patterns the book b has, 0 where that is missing or more than 64
--   Counted b r            r tells that number, where it is not 0
--   in_window n why        why a pattern is refused of which 4,096 bytes are looked at, where n are left: one that is due behind
--                         them makes it too long
--   placed_at at why       why it is refused, with places in the book, where it begins at an offset
--   PatternEnds, PatternStops, PatternRead    what reading the pattern at an offset of b gives, where the first one has the kind
--                         that stands behind the count
--   Fronted W b n         the first n bytes of b write a good term of the kind in front, and it is read
--   PatternJudged         the same, where between two offsets of b a term was read
--
use Rattle.std.specs.Prelude.{⊤, Option, Some, None, Result, Ok, Err, ◌≡◌, cond, List, [], ◌∷◌, ℕ, ◌+◌, ◌-◌, ◌<◌, ◌≤◌, ltb, length, get_or, take, drop}
use Rattle.std.proofs.Math.Option.{some}
use Rattle.terms.specs.Term.{Term}
use Rattle.wire.specs.Reply.{Reply, accepted, refused, Kinded, kinded}
use Rattle.wire.specs.Vocabulary.{Vocabulary, InOrder}
use Rattle.wire.specs.TermBytes.{encode_term, GoodTerm, least_bytes, most_bytes}
use Rattle.wire.specs.BookBytes.{most_patterns}
use Rattle.wire.specs.Parser.{got, stop}
use Rattle.wire.specs.BookComputed.{read_front, read_pattern, read_book, judged_book, book_judged, book_clear}
use Rattle.signature.specs.declared.VocabularyRefusal.{VocabularyRefusal}
use Rattle.reader.specs.Loaded.{SettledTable}
use Rattle.reader.specs.Answers.{book_refused, book_numbers}
use Rattle.reader.specs.declared.refusal.TermRefusal.{TermRefusal}
use Rattle.reader.specs.declared.refusal.TermRefusal.TheVariants as T
use Rattle.reader.specs.declared.book.BookRefusal.{BookRefusal}
use Rattle.reader.specs.declared.book.BookInputRefusal.{BookInputRefusal}
use Rattle.reader.specs.declared.book.BookInputRefusal.TheVariants as A

pub record BookRead (v b before after : List ℕ) (a : Result (Option ℕ) BookInputRefusal) : Type 0 where
  pub answer : book_numbers a ≡ book_clear (book_judged v b)
  pub settles : (k : Option ℕ) → a ≡ Ok k → SettledTable v after k
  pub refused : (why : BookRefusal) → a ≡ Err (A.Book why) → (k : Option ℕ) × SettledTable v after k
  pub kept : (why : VocabularyRefusal) → a ≡ Err (A.Vocabulary why) → after ≡ before

abbrev pub patterns_numbers : Result ⊤ BookRefusal → Reply
patterns_numbers (Ok u) = accepted []
patterns_numbers (Err why) = book_refused why

abbrev pub book_reply : Vocabulary → List ℕ → Reply
book_reply W b = book_clear (judged_book W (read_book W b))

abbrev pub count_of : List ℕ → ℕ
count_of [] = 0
count_of (c ∷ l) = cond (ltb most_patterns c) 0 c

abbrev pub Counted : List ℕ → Option ℕ → Type 0
Counted b (Some n) = (n ≡ count_of b) × (0 < n)
Counted b None = 0 ≡ count_of b

abbrev pub in_window : ℕ → TermRefusal → TermRefusal
in_window n T.Size = T.Size
in_window n T.NoSuchKind = T.NoSuchKind
in_window n (T.Ends q) = cond (ltb n most_bytes) (T.Ends q) T.Size
in_window n (T.TooDeep q) = T.TooDeep q
in_window n (T.NoWordOrName q) = T.NoWordOrName q
in_window n (T.WrongKind q) = T.WrongKind q
in_window n (T.Clashes q) = T.Clashes q
in_window n (T.StrayBit q) = T.StrayBit q
in_window n (T.Continues q) = T.Continues q

-- The pattern begins at an offset of the book.
abbrev pub placed_at : ℕ → TermRefusal → TermRefusal
placed_at at T.Size = T.Size
placed_at at T.NoSuchKind = T.NoSuchKind
placed_at at (T.Ends q) = T.Ends (at + q)
placed_at at (T.TooDeep q) = T.TooDeep (at + q)
placed_at at (T.NoWordOrName q) = T.NoWordOrName (at + q)
placed_at at (T.WrongKind q) = T.WrongKind (at + q)
placed_at at (T.Clashes q) = T.Clashes (at + q)
placed_at at (T.StrayBit q) = T.StrayBit (at + q)
placed_at at (T.Continues q) = T.Continues (at + q)

pub record PatternEnds (W : Vocabulary) (b : List ℕ) (at end : ℕ) : Type 0 where
  pub pattern : Kinded
  pub same : read_pattern W (some (get_or b 1 0)) (drop at b) ≡ got pattern (drop end b)
  pub inside : end ≤ length b

pub record PatternStops (W : Vocabulary) (b : List ℕ) (at : ℕ) (why : BookRefusal) : Type 0 where
  pub number : ℕ
  pub place : ℕ
  pub reply : book_refused why ≡ refused number 5 place
  pub same : read_pattern W (some (get_or b 1 0)) (drop at b) ≡ stop number (drop place b)
  pub inside : place ≤ length b

abbrev pub PatternRead : Vocabulary → List ℕ → ℕ → Result ℕ BookRefusal → Type 0
PatternRead W b at (Ok end) = PatternEnds W b at end
PatternRead W b at (Err why) = PatternStops W b at why

pub record Fronted (W : Vocabulary) (b : List ℕ) (n : ℕ) : Type 0 where
  pub term : Term
  pub same : read_front W b ≡ got (kinded (get_or b 0 0) term) (drop n b)
  pub good : GoodTerm W (get_or b 0 0) term
  pub bytes : take n b ≡ encode_term W (get_or b 0 0) term
  pub long : least_bytes ≤ length b
  pub inside : n ≤ length b

abbrev pub PatternJudged : List ℕ → ℕ → ℕ → ℕ → Result ℕ BookRefusal → Type 0
PatternJudged b at end n r = (W : Vocabulary) → InOrder W → n ≡ length W.words → Fronted W (drop at b) (end - at) → PatternRead W b at r
