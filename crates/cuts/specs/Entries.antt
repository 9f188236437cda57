-- Entries: what an entry, a pattern and the table of the words' siblings are.
--
--   EntryOf W s e           e is an entry of kind s, without names, within the limits
--   PatternOf W s t         t is a pattern of kind s, within the limits
--   TablesOf W table        the table has the siblings of W's words
--
use Rattle.std.specs.Prelude.{◌≡◌, List, [], ℕ, ◌≤◌, length}
use Rattle.terms.specs.Term.{Term, Sorted, names}
use Rattle.wire.specs.Vocabulary.{Vocabulary, InOrder, signature}
use Rattle.wire.specs.TermBytes.{encode_term, levels, most_bytes, most_levels}
use Rattle.kinds.specs.Kinds.{SiblingTable}
use Rattle.signature.specs.Tables.{Tabled}

pub record EntryOf (W : Vocabulary) (s : ℕ) (e : Term) : Type 0 where
  pub sorted : Sorted (signature W) e s
  pub nameless : names e ≡ []
  pub low : levels e ≤ most_levels
  pub short : length (encode_term W s e) ≤ most_bytes

pub record PatternOf (W : Vocabulary) (s : ℕ) (t : Term) : Type 0 where
  pub sorted : Sorted (signature W) t s
  pub low : levels t ≤ most_levels
  pub short : length (encode_term W s t) ≤ most_bytes

pub record TablesOf (W : Vocabulary) (table : List ℕ) : Type 0 where
  pub results : List ℕ
  pub in_order : InOrder W
  pub tabled : Tabled W (length W.words) results
  pub siblings : SiblingTable (length W.words) results table
