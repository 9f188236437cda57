-- Pairs: what reading a pattern and a situation gives; the contract of `read_pair` cites PairRead, the rest is what private
-- functions promise each other.
--
--   pair_numbers r         the reply of reading a pattern and a situation
--   both_told              the reply where the two terms tell that: the second must be complete
--   pair_under p s r       the same where r is the reading of the vocabulary
--   pair_reply v p s       the reply of reading the pattern p and the situation s under the vocabulary v: document 01's numbers
--                         and places, of the vocabulary (input 0), the pattern (1) and the situation (2), in this order, up to
--                         line 16
--   PairRead v p s spans agreed r    r is that reply, for every v, p and s, where p and s agree by the spans if they are said to
--   SecondRead W s r      the same of the situation, where the pattern is in order
--   BothRead W p s spans agreed r    the same of both, under an accepted vocabulary
--   ByParts agreed x n    the two are said to agree, the pattern, of which x is told, has words and no short map, and the
--                         situation's n bytes are not too many
--   Chosen agreed x n r   where r is true, that is so
--   Part v s from n k most      n bytes of s from an offset on are a complete term of kind k, with at most so many levels
--   PartRead, PartsRead   where the answer is true, such a part stands there, and at the span of each name of the table
--
use Rattle.std.specs.Prelude.{⊤, Result, Ok, Err, ◌≡◌, Bool, true, false, cond, List, [], ℕ, suc, ◌-◌, ◌<◌, ◌≤◌, get_or, take, drop}
use Rattle.terms.specs.Term.{Ground, SortedG, as_term}
use Rattle.wire.specs.Reply.{Reply, accepted, refused}
use Rattle.wire.specs.Vocabulary.{Vocabulary, signature}
use Rattle.wire.specs.TermBytes.{name_count, encode_at, levels, most_bytes, most_levels}
use Rattle.wire.specs.Parser.{Reading, accept, refuse, read_vocabulary}
use Rattle.wire.specs.Splicing.{Agrees, PartStands}
use Rattle.signature.specs.Answers.{vocabulary_refused}
use Rattle.signature.specs.Tables.{vocabulary_in}
use Rattle.reader.specs.Answers.{term_refused}
use Rattle.reader.specs.Names.{listed}
use Rattle.reader.specs.Whole.{told}
use Rattle.reader.specs.declared.whole.Extent.{Extent}
use Rattle.reader.specs.declared.pair.PairRefusal.{PairRefusal}
use Rattle.reader.specs.declared.pair.PairRefusal.TheVariants as P

abbrev pub pair_numbers : Result ⊤ PairRefusal → Reply
pair_numbers (Ok u) = accepted []
pair_numbers (Err (P.Vocabulary why)) = vocabulary_refused why
pair_numbers (Err (P.First why)) = term_refused 1 why
pair_numbers (Err (P.Second why)) = term_refused 2 why
pair_numbers (Err (P.Incomplete q)) = refused 16 2 q

abbrev pub both_told : Reading Extent → Reading Extent → Reply
both_told (refuse n q) y = refused n 1 q
both_told (accept x) (refuse n q) = refused n 2 q
both_told (accept x) (accept y) = cond y.complete (accepted []) (refused 16 2 y.gap)

abbrev pub pair_under : List ℕ → List ℕ → Reading Vocabulary → Reply
pair_under p s (refuse n q) = refused n 0 q
pair_under p s (accept U) = both_told (told U p) (told U s)

abbrev pub pair_reply : List ℕ → List ℕ → List ℕ → Reply
pair_reply v p s = pair_under p s (read_vocabulary v)

abbrev pub PairRead : List ℕ → List ℕ → List ℕ → List ℕ → Bool → Result ⊤ PairRefusal → Type 0
PairRead v p s spans agreed r = (agreed ≡ true → Agrees p s spans) → pair_numbers r ≡ pair_reply v p s

abbrev pub SecondRead : Vocabulary → List ℕ → Result ⊤ PairRefusal → Type 0
SecondRead U s r = (x : Extent) → pair_numbers r ≡ both_told (accept x) (told U s)

abbrev pub BothRead : Vocabulary → List ℕ → List ℕ → List ℕ → Bool → Result ⊤ PairRefusal → Type 0
BothRead U p s spans agreed r = (agreed ≡ true → Agrees p s spans) → pair_numbers r ≡ both_told (told U p) (told U s)

pub record ByParts (agreed : Bool) (x : Extent) (n : ℕ) : Type 0 where
  pub agrees : agreed ≡ true
  pub full : x.short ≡ false
  pub some : 0 < x.words
  pub most : n ≤ most_bytes

abbrev pub Chosen : Bool → Extent → ℕ → Bool → Type 0
Chosen agreed x n r = r ≡ true → ByParts agreed x n

pub record Part (v s : List ℕ) (from n k most : ℕ) : Type 0 where
  pub value : Ground
  pub sorted : SortedG (signature (vocabulary_in v)) value k
  pub bytes : take n (drop from s) ≡ encode_at (vocabulary_in v) (as_term value)
  pub shallow : levels (as_term value) ≤ most

abbrev pub PartRead : List ℕ → List ℕ → ℕ → ℕ → ℕ → ℕ → Bool → Type 0
PartRead v s from n k deepest r = r ≡ true → Part v s from n k (suc most_levels - deepest)

abbrev pub PartsRead : List ℕ → List ℕ → List ℕ → List ℕ → ℕ → Bool → Type 0
PartsRead v s names spans deepest r =
    r ≡ true → (n : ℕ) → n < name_count → listed names n ≡ true → PartStands (vocabulary_in v) s spans (get_or names n 0) n (suc most_levels - deepest)
