-- PatternLines: line 18 of the refusal list, behind lines 7 to 15, which a pattern to be listed meets as every term does.
--
--   Sighting                      a name and the offset of its byte
--   sightings_from, sightings_all   the names of a term, or of the terms of a word's places, that begin at an offset
--   sightings W t                 the names of a term with its kind byte, from left to right
--   no_sighting                    what is read off a list that has no such entry
--   RepeatedAt l q                q is the earliest byte at which a name stands for the second time
--   PatternLine W b n q           line n, of 7 to 15 and 18, fits the bytes b of a pattern to be listed at the place q
--
use Rattle.std.specs.Prelude.{◌≡◌, true, false, List, [], ◌∷◌, ◌++◌, map, ℕ, ◌+◌, ◌<◌, length, get_or, take}
use Rattle.terms.specs.Lists.{occurs}
use Rattle.terms.specs.Term.{Term, any, var, app, Terms, nil, cons}
use Rattle.wire.specs.Map.{map_bytes}
use Rattle.wire.specs.Vocabulary.{Vocabulary}
use Rattle.wire.specs.TermBytes.{encode_at, encode_term, GoodTerm}
use Rattle.wire.specs.TermLines.{TermLine}

pub record Sighting : Type 0 where
  pub name : ℕ
  pub offset : ℕ

abbrev mutual
  pub sightings_from : Vocabulary → Term → ℕ → List Sighting
  sightings_from W any at = []
  sightings_from W (var n) at = record { name = n; offset = at } ∷ []
  sightings_from W (app f ts) at = sightings_all W ts (at + 1 + map_bytes)

  pub sightings_all : Vocabulary → Terms → ℕ → List Sighting
  sightings_all W nil at = []
  sightings_all W (cons t ts) at = sightings_from W t at ++ sightings_all W ts (at + length (encode_at W t))

-- The kind byte is byte 0, so the term itself begins at 1.
abbrev pub sightings : Vocabulary → Term → List Sighting
sightings W t = sightings_from W t 1

abbrev pub no_sighting : Sighting
no_sighting = record { name = 0; offset = 0 }

-- Of all occurrences of names that stood before, the one at q is the first.
pub record RepeatedAt (l : List Sighting) (q : ℕ) : Type 0 where
  pub index : ℕ
  pub below : index < length l
  pub here : (get_or l index no_sighting).offset ≡ q
  pub again : occurs (get_or l index no_sighting).name (map (λ o. o.name) (take index l)) ≡ true
  pub first : (j : ℕ) → j < index → occurs (get_or l j no_sighting).name (map (λ o. o.name) (take j l)) ≡ false

pub data PatternLine (W : Vocabulary) (b : List ℕ) : ℕ → ℕ → Type 0 where
  -- 7 to 15.
  every_term : (n q : ℕ) → TermLine W b n q → PatternLine W b n q
  -- 18. "A name stands twice in a pattern to be listed (its second occurrence)."
  twice : (s : ℕ) (t : Term) (r : List ℕ) (q : ℕ) → GoodTerm W s t → b ≡ encode_term W s t ++ r → RepeatedAt (sightings W t) q →
      PatternLine W b 18 q
