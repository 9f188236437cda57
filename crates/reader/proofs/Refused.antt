-- Refused: the reply for an input that is refused refuses.
--
--   Refuses r             the reply r refuses
--   vocabulary-refuses, term-refuses, book_refuses    the reply for a vocabulary, a term or a book that is refused does
--
use Prim.Native.Nat.{ℕ}
use Rattle.wire.specs.Reply.{Reply, accepted, refused}
use Rattle.signature.specs.Answers.{vocabulary_refused}
use Rattle.signature.specs.declared.VocabularyRefusal.{VocabularyRefusal}
use Rattle.signature.specs.declared.VocabularyRefusal.TheVariants.{Head, WordCount, Ends, NoSuchKind, Continues}
use Rattle.reader.specs.Answers.{term_refused_at, book_refused}
use Rattle.reader.specs.declared.refusal.TermRefusal.{TermRefusal}
use Rattle.reader.specs.declared.refusal.TermRefusal.TheVariants as T
use Rattle.reader.specs.declared.book.BookRefusal.{BookRefusal}
use Rattle.reader.specs.declared.book.BookRefusal.TheVariants as B

abbrev pub Refuses : Reply → Type 0
Refuses (accepted l) = ⊥
Refuses (refused n i q) = Unit {0}

pub vocabulary-refuses : (why : VocabularyRefusal) → Refuses (vocabulary_refused why)
vocabulary-refuses Head = tt
vocabulary-refuses WordCount = tt
vocabulary-refuses (Ends q) = tt
vocabulary-refuses (NoSuchKind q) = tt
vocabulary-refuses (Continues q) = tt

pub term-refuses : (input at : ℕ) (why : TermRefusal) → Refuses (term_refused_at input at why)
term-refuses input at T.Size = tt
term-refuses input at T.NoSuchKind = tt
term-refuses input at (T.Ends q) = tt
term-refuses input at (T.TooDeep q) = tt
term-refuses input at (T.NoWordOrName q) = tt
term-refuses input at (T.WrongKind q) = tt
term-refuses input at (T.Clashes q) = tt
term-refuses input at (T.StrayBit q) = tt
term-refuses input at (T.Continues q) = tt

pub book_refuses : (why : BookRefusal) → Refuses (book_refused why)
book_refuses B.Count = tt
book_refuses (B.Pattern at why) = term-refuses 5 at why
book_refuses (B.Repeated q) = tt
book_refuses (B.OtherKind q) = tt
book_refuses (B.Continues q) = tt
