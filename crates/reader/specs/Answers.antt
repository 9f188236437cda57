-- Answers: the papers' number and values for each case of checking a term, and of reading the inputs of fill and a book.
--
--   term_refused_at input at why    the reply that refuses a term of the given input, which begins at an offset of it
--   term_refused input why    the same of a term that is the whole input
--   check_refused why         the reply that refuses a vocabulary or a term under it
--   term_numbers a            the reply of checking a term
--   TermAnswersDiffer        different answers have different numbers or values
--   pattern_numbers a         the reply of reading a vocabulary and a pattern to be listed
--   filling_refused why       the reply that refuses the inputs of fill
--   filling_numbers a         the reply of reading the inputs of fill, with the pattern's deepest level
--   book_refused why          the reply that refuses a book
--   book_numbers a            the reply of reading a vocabulary and a book
--
use Rattle.std.specs.Prelude.{Option, Result, Ok, Err, ◌≡◌, [], ◌∷◌, ℕ}
use Rattle.wire.specs.Reply.{Reply, accepted, refused}
use Rattle.wire.specs.Map.{bit}
use Rattle.signature.specs.Answers.{vocabulary_refused}
use Rattle.reader.specs.declared.refusal.TermRefusal.{TermRefusal}
use Rattle.reader.specs.declared.refusal.TermRefusal.TheVariants as T
use Rattle.reader.specs.declared.CheckedTerm.{CheckedTerm}
use Rattle.reader.specs.declared.CheckRefusal.{CheckRefusal}
use Rattle.reader.specs.declared.CheckRefusal.TheVariants as A
use Rattle.reader.specs.declared.filling.FillingRefusal.{FillingRefusal}
use Rattle.reader.specs.declared.filling.FillingRefusal.TheVariants as F
use Rattle.reader.specs.declared.book.BookRefusal.{BookRefusal}
use Rattle.reader.specs.declared.book.BookRefusal.TheVariants as B
use Rattle.reader.specs.declared.book.BookInputRefusal.{BookInputRefusal}
use Rattle.reader.specs.declared.book.BookInputRefusal.TheVariants as C

-- Lines 7 to 15, of the given input. 7 and 8 name the term's first byte.
abbrev pub term_refused_at : ℕ → ℕ → TermRefusal → Reply
term_refused_at input at T.Size = refused 7 input at
term_refused_at input at T.NoSuchKind = refused 8 input at
term_refused_at input at (T.Ends q) = refused 9 input q
term_refused_at input at (T.TooDeep q) = refused 10 input q
term_refused_at input at (T.NoWordOrName q) = refused 11 input q
term_refused_at input at (T.WrongKind q) = refused 12 input q
term_refused_at input at (T.Clashes q) = refused 13 input q
term_refused_at input at (T.StrayBit q) = refused 14 input q
term_refused_at input at (T.Continues q) = refused 15 input q

abbrev pub term_refused : ℕ → TermRefusal → Reply
term_refused input why = term_refused_at input 0 why

-- The vocabulary is input 0, and the term input 1.
abbrev pub check_refused : CheckRefusal → Reply
check_refused (A.Vocabulary why) = vocabulary_refused why
check_refused (A.Term why) = term_refused 1 why

-- Document 01's two values, and document 02's: 1 for a complete term and 0 for any other, and the gap.
abbrev pub term_numbers : Result CheckedTerm CheckRefusal → Reply
term_numbers (Ok x) = accepted (x.words ∷ x.deepest ∷ bit x.complete ∷ x.gap ∷ [])
term_numbers (Err why) = check_refused why

abbrev pub TermAnswersDiffer : Type 0
TermAnswersDiffer = (a b : Result CheckedTerm CheckRefusal) → term_numbers a ≡ term_numbers b → a ≡ b

abbrev pub pattern_numbers : Result (Option ℕ) CheckRefusal → Reply
pattern_numbers (Ok k) = accepted []
pattern_numbers (Err why) = check_refused why

-- Lines 1 to 5 and 7 to 15, and document 02's 21 and 22.
abbrev pub filling_refused : FillingRefusal → Reply
filling_refused (F.Vocabulary why) = vocabulary_refused why
filling_refused (F.Pattern why) = term_refused 1 why
filling_refused (F.Names n) = refused 21 4 n
filling_refused (F.Value q) = refused 22 4 q

abbrev pub filling_numbers : Result ℕ FillingRefusal → Reply
filling_numbers (Ok deepest) = accepted (deepest ∷ [])
filling_numbers (Err why) = filling_refused why

-- Lines 7 to 14 of a pattern, 15 and 18, and document 02's 24 and 25: "with input 5 and places counted in the book".
abbrev pub book_refused : BookRefusal → Reply
book_refused B.Count = refused 24 5 0
book_refused (B.Pattern at why) = term_refused_at 5 at why
book_refused (B.Repeated q) = refused 18 5 q
book_refused (B.OtherKind q) = refused 25 5 q
book_refused (B.Continues q) = refused 15 5 q

abbrev pub book_numbers : Result (Option ℕ) BookInputRefusal → Reply
book_numbers (Ok k) = accepted []
book_numbers (Err (C.Vocabulary why)) = vocabulary_refused why
book_numbers (Err (C.Book why)) = book_refused why
