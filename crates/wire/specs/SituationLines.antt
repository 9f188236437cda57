-- SituationLines: lines 16 and 17 of the refusal list, behind lines 7 to 15, which a situation meets as every term does.
--
--   GapAt W t at q             t, which begins at offset at, has a name or a short map at q
--   GapsAt W ts at q           the same for the terms of a word's places
--   Gap W t q                  the term t with its kind byte has a name, 255 or short map at q
--   FirstGap W t q             q is the first of them
--   SituationLine W k b n q    line n, of 7 to 17, fits the bytes b of a situation for a pattern of kind k at the place q
--
use Rattle.std.specs.Prelude.{◌≡◌, List, ◌∷◌, ◌++◌, ◌⊎◌, ℕ, ◌+◌, ◌≤◌, length}
use Rattle.terms.specs.Term.{Term, any, var, app, Terms, nil, cons}
use Rattle.wire.specs.Map.{map_bytes}
use Rattle.wire.specs.Vocabulary.{Vocabulary, map_of}
use Rattle.wire.specs.TermBytes.{written_map, encode_at, encode_term, GoodTerm}
use Rattle.wire.specs.TermLines.{TermLine}

-- An open place is its word's gap: the map is short of the place's bit.
abbrev mutual
  pub GapAt : Vocabulary → Term → ℕ → ℕ → Type 0
  GapAt W any at q = ⊥
  GapAt W (var n) at q = q ≡ at
  GapAt W (app f ts) at q =
      ((written_map W f ts ≡ map_of W f → ⊥) × (q ≡ at + 1)) ⊎ GapsAt W ts (at + 1 + map_bytes) q

  pub GapsAt : Vocabulary → Terms → ℕ → ℕ → Type 0
  GapsAt W nil at q = ⊥
  GapsAt W (cons t ts) at q = GapAt W t at q ⊎ GapsAt W ts (at + length (encode_at W t)) q

-- The kind byte is byte 0, so the term itself begins at 1.
abbrev pub Gap : Vocabulary → Term → ℕ → Type 0
Gap W any q = q ≡ 1
Gap W (var n) q = GapAt W (var n) 1 q
Gap W (app f ts) q = GapAt W (app f ts) 1 q

pub record FirstGap (W : Vocabulary) (t : Term) (q : ℕ) : Type 0 where
  pub gap : Gap W t q
  pub first : (r : ℕ) → Gap W t r → q ≤ r

pub data SituationLine (W : Vocabulary) (k : ℕ) (b : List ℕ) : ℕ → ℕ → Type 0 where
  -- 7 to 15.
  every_term : (n q : ℕ) → TermLine W b n q → SituationLine W k b n q
  -- 16. "The situation is not complete (its first name, 255 or short map)."
  incomplete : (s : ℕ) (t : Term) (r : List ℕ) (q : ℕ) → GoodTerm W s t → b ≡ encode_term W s t ++ r → FirstGap W t q →
      SituationLine W k b 16 q
  -- 17. "Pattern and situation have different kinds (input 2, place 0)."
  other_kind : (s : ℕ) (l : List ℕ) → b ≡ s ∷ l → (s ≡ k → ⊥) → SituationLine W k b 17 0
