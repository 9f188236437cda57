-- Loaded: what reading a vocabulary and a pattern to be listed gives; the contract of `load_pattern` cites it.
--
--   without_values r         the reply r without its values
--   SettledTable v table k  the table by which listings under v go, where k is the lowest kind without complete situations
--   PatternLoaded v b       the reply of reading the vocabulary v and the pattern b, and that table before and after, each for
--                           every v and b
--
use Rattle.std.specs.Prelude.{Option, Result, Ok, Err, ◌≡◌, List, [], ℕ, replicate}
use Rattle.wire.specs.Reply.{Reply, accepted, refused}
use Rattle.wire.specs.Vocabulary.{most_words}
use Rattle.wire.specs.VocabularyLines.{byte_at}
use Rattle.wire.specs.CheckComputed.{term_reply}
use Rattle.signature.specs.Tables.{words_before, results_of, laid}
use Rattle.signature.specs.Settled.{Settles}
use Rattle.signature.specs.declared.VocabularyRefusal.{VocabularyRefusal}
use Rattle.reader.specs.Answers.{pattern_numbers}
use Rattle.reader.specs.declared.refusal.TermRefusal.{TermRefusal}
use Rattle.reader.specs.declared.CheckRefusal.{CheckRefusal}
use Rattle.reader.specs.declared.CheckRefusal.TheVariants.{Vocabulary, Term}

abbrev pub without_values : Reply → Reply
without_values (accepted values) = accepted []
without_values (refused n i q) = refused n i q

abbrev pub SettledTable : List ℕ → List ℕ → Option ℕ → Type 0
SettledTable v table k = Settles v (byte_at v 1) (laid (results_of (words_before v)) (replicate most_words 0)) table k

pub record PatternLoaded (v b before after : List ℕ) (a : Result (Option ℕ) CheckRefusal) : Type 0 where
  pub answer : pattern_numbers a ≡ without_values (term_reply v b)
  pub settles : (k : Option ℕ) → a ≡ Ok k → SettledTable v after k
  pub refused : (why : TermRefusal) → a ≡ Err (Term why) → (k : Option ℕ) × SettledTable v after k
  pub kept : (why : VocabularyRefusal) → a ≡ Err (Vocabulary why) → after ≡ before
