-- Settled: what loading a vocabulary for a listing gives; the contract of `load_settled` cites it.
--
--   found_kind r             the kind that is found, where there is one
--   settled_numbers a        the reply of loading
--   SettledOf W n table k   the first n entries of the table are the result kinds of the settled words of W, and k is the lowest
--                           kind without complete situations
--   Settles v n             the table that settle fills from that of the words' result kinds; behind the words it has the same entries
--   SettledFrom v           what loading v gives: answer and tables, each for every v
--
use Rattle.std.specs.Prelude as std
use Rattle.std.specs.Prelude.{Some, None, Result, Ok, Err, ◌≡◌, List, [], ℕ, ◌≤◌, get_or}
use Rattle.std.proofs.Math.Option.{Option, some, none}
use Rattle.terms.specs.Emptiness.{first_empty}
use Rattle.wire.specs.Reply.{Reply, accepted}
use Rattle.wire.specs.Vocabulary.{Vocabulary, signature}
use Rattle.wire.specs.VocabularyLines.{byte_at}
use Rattle.wire.specs.CheckComputed.{vocabulary_reply}
use Rattle.wire.specs.Settling.{settled_vocabulary}
use Rattle.signature.specs.Answers.{vocabulary_refused}
use Rattle.signature.specs.Tables.{vocabulary_in, words_before, Laid, Tabled, Tables}
use Rattle.signature.specs.declared.VocabularyRefusal.{VocabularyRefusal}

abbrev pub found_kind : std.Option ℕ → Option ℕ
found_kind (Some k) = some k
found_kind None = none

abbrev pub settled_numbers : Result (std.Option ℕ) VocabularyRefusal → Reply
settled_numbers (Ok k) = accepted []
settled_numbers (Err why) = vocabulary_refused why

pub record SettledOf (W : Vocabulary) (n : ℕ) (table : List ℕ) (k : std.Option ℕ) : Type 0 where
  pub tabled : Tabled (settled_vocabulary W) n table
  pub found : found_kind k ≡ first_empty (signature W)

-- The words' result kinds before, and the table after.
pub record Settles (v : List ℕ) (n : ℕ) (results settled : List ℕ) (k : std.Option ℕ) : Type 0 where
  pub of : SettledOf (vocabulary_in v) n settled k
  pub behind : (f : ℕ) → n ≤ f → get_or settled f 0 ≡ get_or results f 0

pub record SettledFrom (v o r m s o' r' m' s' : List ℕ) (a : Result (std.Option ℕ) VocabularyRefusal) : Type 0 where
  pub answer : settled_numbers a ≡ vocabulary_reply v
  pub holds : Laid v (words_before v) o r m o' r' m'
  pub tables : (k : std.Option ℕ) → a ≡ Ok k → Tables v (byte_at v 1) o' r' m'
  pub settles : (k : std.Option ℕ) → a ≡ Ok k → Settles v (byte_at v 1) r' s' k
  pub kept : (why : VocabularyRefusal) → a ≡ Err why → s' ≡ s
