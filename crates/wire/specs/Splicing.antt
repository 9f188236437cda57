-- Splicing: a pattern's bytes with parts of a situation in place of its names.
--
-- This file is an algorithm, and nothing in it has to be believed: spliced-situation (proofs/Splicing) says what follows for the
-- situation.
--
--   spliced F l            the nodes l, with the bytes F n in place of the name n
--   part_in s spans n       the bytes of s at the span that a table gives the name n
--   Agrees p s spans       the bytes s are the pattern p, with the parts that the table gives in place of its names
--   PartStands W s spans k n most    the part of s that the table gives the name n is a complete term of kind k, with at most
--                          so many levels
--
use Rattle.std.specs.Prelude.{◌≡◌, cond, List, [], ◌∷◌, ◌++◌, ℕ, ◌-◌, ◌≤◌, ltb, get_or, drop}
use Rattle.terms.specs.Term.{Ground, SortedG, as_term}
use Rattle.wire.specs.Vocabulary.{Vocabulary, signature}
use Rattle.wire.specs.TermBytes.{first_name_byte, encode_at, levels}
use Rattle.wire.specs.Matching.{span_in, cut_out}

-- A word has its map behind it.
abbrev pub spliced : (ℕ → List ℕ) → List ℕ → List ℕ
spliced F [] = []
spliced F (b ∷ []) = cond (ltb b first_name_byte) (b ∷ []) (F (b - first_name_byte))
spliced F (b ∷ m ∷ l) = cond (ltb b first_name_byte) (b ∷ m ∷ spliced F l) (F (b - first_name_byte) ++ spliced F (m ∷ l))

abbrev pub part_in : List ℕ → List ℕ → ℕ → List ℕ
part_in s spans n = cut_out s (span_in spans n)

pub record Agrees (p s spans : List ℕ) : Type 0 where
  pub kind : get_or s 0 0 ≡ get_or p 0 0
  pub nodes : drop 1 s ≡ spliced (part_in s spans) (drop 1 p)

pub record PartStands (W : Vocabulary) (s spans : List ℕ) (k n most : ℕ) : Type 0 where
  pub value : Ground
  pub sorted : SortedG (signature W) value k
  pub bytes : part_in s spans n ≡ encode_at W (as_term value)
  pub shallow : levels (as_term value) ≤ most
