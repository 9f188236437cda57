-- Said: the numbers of an answer say which reply it is.
--
--   vocabulary_said, term_said, match_said, list_said, book_said, fill_said
--                                  the reply read back from the numbers of an answer
--   accepted_said, refused_said    which one with two values it is, by the first number
--
use mathlib.Core.Path.{◌≡◌, refl, sym, ap, subst, ◌∙◌}
use mathlib.Core.Bool.{Bool, true, false, cond}
use mathlib.Core.List.{List, [], ◌∷◌}
use Prim.Native.Nat.{ℕ}
use lib.Dec.{eqb}
use lib.ListN.{get_or, take, drop}
use borrow.Author.Tests.{eq-eqb, ne_eqb}
use Rattle.wire.specs.Reply.{Reply, accepted, refused}
use Rattle.signature.specs.Answers.{vocabulary_refused, vocabulary_numbers}
use Rattle.signature.specs.declared.VocabularyRefusal.{VocabularyRefusal}
use Rattle.signature.specs.declared.VocabularyRefusal.TheVariants as W
use Rattle.std.specs.Prelude.{⊤, Result, Ok, Err}
use Rattle.reader.specs.Answers.{term_refused_at, term_numbers, filling_refused, book_refused}
use Rattle.reader.specs.declared.refusal.TermRefusal.{TermRefusal}
use Rattle.reader.specs.declared.refusal.TermRefusal.TheVariants as T
use Rattle.reader.specs.declared.CheckedTerm.{CheckedTerm}
use Rattle.reader.specs.declared.CheckRefusal.{CheckRefusal}
use Rattle.reader.specs.declared.CheckRefusal.TheVariants as A
use Rattle.reader.specs.declared.filling.FillingRefusal.{FillingRefusal}
use Rattle.reader.specs.declared.filling.FillingRefusal.TheVariants as F
use Rattle.reader.specs.declared.book.BookRefusal.{BookRefusal}
use Rattle.reader.specs.declared.book.BookRefusal.TheVariants as B
use Rattle.inputs.specs.Answers.{inputs_refused}
use Rattle.inputs.specs.declared.InputsRefusal.{InputsRefusal}
use Rattle.inputs.specs.declared.InputsRefusal.TheVariants as I
use Rattle.matcher.specs.Answers.{match_numbers}
use Rattle.matcher.specs.declared.MatchRefusal.{MatchRefusal}
use Rattle.matcher.specs.declared.MatchRefusal.TheVariants as M
use Rattle.complement.specs.Answers.{list_numbers}
use Rattle.sizes.specs.declared.Size.{Size}
use Rattle.complement.specs.declared.ListRefusal.{ListRefusal}
use Rattle.complement.specs.declared.ListRefusal.TheVariants as L
use Rattle.books.specs.Answers.{book_list_numbers}
use Rattle.books.specs.declared.BookListRefusal.{BookListRefusal}
use Rattle.books.specs.declared.BookListRefusal.TheVariants as K
use Rattle.filler.specs.Answers.{fill_numbers}
use Rattle.filler.specs.declared.FillRefusal.{FillRefusal}
use Rattle.filler.specs.declared.FillRefusal.TheVariants as G
use Rattle.numbers.specs.Numbers.{reply_numbers, reply_in}

-- ---- refusals

module _ (k : ℕ) where
  vocabulary_refused_said : (why : VocabularyRefusal) → reply_in k (reply_numbers (vocabulary_refused why)) ≡ vocabulary_refused why
  vocabulary_refused_said W.Head = refl
  vocabulary_refused_said W.WordCount = refl
  vocabulary_refused_said (W.Ends q) = refl
  vocabulary_refused_said (W.NoSuchKind q) = refl
  vocabulary_refused_said (W.Continues q) = refl

  term_refused_said : (i at : ℕ) (why : TermRefusal) → reply_in k (reply_numbers (term_refused_at i at why)) ≡ term_refused_at i at why
  term_refused_said i at T.Size = refl
  term_refused_said i at T.NoSuchKind = refl
  term_refused_said i at (T.Ends q) = refl
  term_refused_said i at (T.TooDeep q) = refl
  term_refused_said i at (T.NoWordOrName q) = refl
  term_refused_said i at (T.WrongKind q) = refl
  term_refused_said i at (T.Clashes q) = refl
  term_refused_said i at (T.StrayBit q) = refl
  term_refused_said i at (T.Continues q) = refl

  inputs_refused_said : (why : InputsRefusal) → reply_in k (reply_numbers (inputs_refused why)) ≡ inputs_refused why
  inputs_refused_said (I.Vocabulary why) = vocabulary_refused_said why
  inputs_refused_said (I.Pattern why) = term_refused_said 1 0 why
  inputs_refused_said (I.Situation why) = term_refused_said 2 0 why
  inputs_refused_said (I.Incomplete q) = refl
  inputs_refused_said I.KindsDiffer = refl

  filling_refused_said : (why : FillingRefusal) → reply_in k (reply_numbers (filling_refused why)) ≡ filling_refused why
  filling_refused_said (F.Vocabulary why) = vocabulary_refused_said why
  filling_refused_said (F.Pattern why) = term_refused_said 1 0 why
  filling_refused_said (F.Names n) = refl
  filling_refused_said (F.Value q) = refl

  book_refused_said : (why : BookRefusal) → reply_in k (reply_numbers (book_refused why)) ≡ book_refused why
  book_refused_said B.Count = refl
  book_refused_said (B.Pattern at why) = term_refused_said 5 at why
  book_refused_said (B.Repeated q) = refl
  book_refused_said (B.OtherKind q) = refl
  book_refused_said (B.Continues q) = refl

-- ---- answers

pub vocabulary_said : (a : Result ⊤ VocabularyRefusal) → reply_in 0 (reply_numbers (vocabulary_numbers a)) ≡ vocabulary_numbers a
vocabulary_said (Ok u) = refl
vocabulary_said (Err why) = vocabulary_refused_said 0 why

pub term_said : (a : Result CheckedTerm CheckRefusal) → reply_in 4 (reply_numbers (term_numbers a)) ≡ term_numbers a
term_said (Ok x) = refl
term_said (Err (A.Vocabulary why)) = vocabulary_refused_said 4 why
term_said (Err (A.Term why)) = term_refused_said 4 1 0 why

pub match_said : (a : Result Bool MatchRefusal) → reply_in 1 (reply_numbers (match_numbers a)) ≡ match_numbers a
match_said (Ok true) = refl
match_said (Ok false) = refl
match_said (Err (M.Inputs why)) = inputs_refused_said 1 why
match_said (Err M.TableLength) = refl

pub list_said : (a : Result Size ListRefusal) → reply_in 2 (reply_numbers (list_numbers a)) ≡ list_numbers a
list_said (Ok size) = refl
list_said (Err (L.Vocabulary why)) = vocabulary_refused_said 2 why
list_said (Err (L.Pattern why)) = term_refused_said 2 1 0 why
list_said (Err (L.Repeated q)) = refl
list_said (Err (L.NoRoom m)) = refl

pub book_said : (a : Result Size BookListRefusal) → reply_in 2 (reply_numbers (book_list_numbers a)) ≡ book_list_numbers a
book_said (Ok size) = refl
book_said (Err (K.Vocabulary why)) = vocabulary_refused_said 2 why
book_said (Err (K.Book why)) = book_refused_said 2 why
book_said (Err (K.TooLarge i)) = refl
book_said (Err (K.NoRoom m)) = refl

pub fill_said : (a : Result ℕ FillRefusal) → reply_in 1 (reply_numbers (fill_numbers a)) ≡ fill_numbers a
fill_said (Ok m) = refl
fill_said (Err (G.Inputs why)) = filling_refused_said 1 why
fill_said (Err G.TooLarge) = refl
fill_said (Err (G.NoRoom m)) = refl

-- ---- by the first number

module _ {numbers : List ℕ} (r : Reply) (e : numbers ≡ reply_numbers r) (said : reply_in 2 (reply_numbers r) ≡ r) where
  -- The reply of such numbers, where b tells whether the first of them is 0.
  abbrev told : List ℕ → Bool → Reply
  told l b = cond b (accepted (take 2 (drop 1 l))) (refused (get_or l 0 0) (get_or l 1 0) (get_or l 2 0))

  by_first : (b : Bool) → eqb (get_or numbers 0 0) 0 ≡ b → r ≡ told numbers b
  by_first b h = sym said ∙ ap (reply_in 2) (sym e) ∙ ap (told numbers) h

  values : take 2 (drop 1 numbers) ≡ get_or numbers 1 0 ∷ get_or numbers 2 0 ∷ []
  values = subst (λ l. take 2 (drop 1 l) ≡ get_or l 1 0 ∷ get_or l 2 0 ∷ []) (sym e) (go r)
    where
      go : (r : Reply) → take 2 (drop 1 (reply_numbers r)) ≡ get_or (reply_numbers r) 1 0 ∷ get_or (reply_numbers r) 2 0 ∷ []
      go (accepted l) = refl
      go (refused n i q) = refl

  pub accepted_said : get_or numbers 0 0 ≡ 0 → r ≡ accepted (get_or numbers 1 0 ∷ get_or numbers 2 0 ∷ [])
  accepted_said zero = by_first true (eq-eqb (get_or numbers 0 0) 0 zero) ∙ ap accepted values

  pub refused_said : (get_or numbers 0 0 ≡ 0 → ⊥) → r ≡ refused (get_or numbers 0 0) (get_or numbers 1 0) (get_or numbers 2 0)
  refused_said some = by_first false (ne_eqb (get_or numbers 0 0) 0 some)
