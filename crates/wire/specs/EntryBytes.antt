-- EntryBytes: the bytes of a listing's entries, as the pattern is walked from left to right.
--
-- This file is an algorithm, and nothing in it has to be believed: EntriesBySpots fixes what it gives.
--
--   above lower us              the terms lower at the lower places, and us at the places above them
--   up_to W f lower t ts         the written map of the word f that keeps only the places up to that of t: below
--                               it stand the terms lower, above it ts
--   Spot                        a word of the pattern, and the bytes that its entries have before it
--   spots W t front             the words of t from left to right, where an entry has the bytes front before t
--   spots_all W ts f lower front the same for the terms ts, above the terms lower at the places of the word f, which
--                               stands behind the bytes front
--   others_bytes front hs        for each of the words hs the bytes front, the word and the map 0, one behind the other
--   spots_bytes W l              the bytes of the entries at the spots l, one behind the other
--   EntriesBySpots              the entries of a pattern are those at its words
--
use Rattle.std.specs.Prelude.{◌≡◌, List, [], ◌∷◌, ◌++◌, ℕ}
use Rattle.terms.specs.Term.{Term, any, var, app, Terms, nil, cons}
use Rattle.terms.specs.Listing.{others, open_every}
use Rattle.wire.specs.Map.{write_map}
use Rattle.wire.specs.Vocabulary.{Vocabulary, signature}
use Rattle.wire.specs.TermBytes.{written_map, encode_all}
use Rattle.wire.specs.ListComputed.{listing_bytes}

abbrev pub above : Terms → Terms → Terms
above nil us = us
above (cons t ts) us = cons t (above ts us)

abbrev pub up_to : Vocabulary → ℕ → Terms → Term → Terms → ℕ
up_to W f lower t ts = written_map W f (above lower (cons t (open_every ts)))

pub record Spot : Type 0 where
  pub front : List ℕ
  pub word : ℕ

abbrev mutual
  pub spots : Vocabulary → Term → List ℕ → List Spot
  spots W any front = []
  spots W (var n) front = []
  spots W (app f ts) front = record { front = front; word = f } ∷ spots_all W ts f nil front

  pub spots_all : Vocabulary → Terms → ℕ → Terms → List ℕ → List Spot
  spots_all W nil f lower front = []
  spots_all W (cons t ts) f lower front =
      spots W t (front ++ (f ∷ (write_map (up_to W f lower t ts) ++ encode_all W lower)))
      ++ spots_all W ts f (above lower (cons t nil)) front

abbrev pub others_bytes : List ℕ → List ℕ → List ℕ
others_bytes front [] = []
others_bytes front (h ∷ hs) = (front ++ (h ∷ write_map 0)) ++ others_bytes front hs

abbrev pub spots_bytes : Vocabulary → List Spot → List ℕ
spots_bytes W [] = []
spots_bytes W (x ∷ l) = others_bytes x.front (others (signature W) x.word) ++ spots_bytes W l

-- The kind byte stands before the root.
abbrev pub EntriesBySpots : Type 0
EntriesBySpots = (W : Vocabulary) (s : ℕ) (t : Term) → listing_bytes W s t ≡ spots_bytes W (spots W t (s ∷ []))
