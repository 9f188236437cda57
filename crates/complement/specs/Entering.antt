-- Entering: what the functions that list promise each other; no public contract cites it.
--
--   Byte b n                   n is the byte b
--   OthersAt, ListsOthers      where write_others begins, the other words of f's result kind being chained from their lowest
--                              on, and what it does: the entries of these words are written
--   TablesOf W results chains  the tables have the result kinds of W's words, and their chains
--   TermAt                     a term stands at an offset of the copy, at most `left` levels deep, and its entries have room
--   TermListed, ListsTerm      what list_term does to such a copy and the lent slice
--   PlacesAt                   a word stands at an offset of the copy, with the terms of its written bits
--   PlacesListed, ListsPlaces  what list_places does to such a copy and the lent slice
--
use Rattle.std.specs.Prelude.{◌≡◌, false, List, [], ◌∷◌, ◌++◌, ℕ, suc, ◌+◌, ◌<◌, ◌≤◌, length, take}
use Rattle.terms.specs.Term.{Term, Terms, Sorted}
use Rattle.wire.specs.Map.{map_bytes, write_map, flags, is_open}
use Rattle.wire.specs.Vocabulary.{Vocabulary, InOrder, signature, most_words}
use Rattle.wire.specs.TermBytes.{encode_at, encode_all, levels, levels_all, most_bytes}
use Rattle.wire.specs.EntryBytes.{others_bytes, spots, spots_bytes}
use Rattle.wire.specs.EntryMaps.{Stands, bit_spots}
use Rattle.kinds.specs.Kinds.{kind_in, others_in, lowest, Chained}
use Rattle.signature.specs.Tables.{Tabled}
use Rattle.slices.specs.Written.{Written}

pub record Byte (b n : ℕ) : Type 0 where
  pub same : n ≡ b
  pub small : n < 256

pub record OthersAt (copy : List ℕ) (at f first : ℕ) (chains : List ℕ) (room : ℕ) : Type 0 where
  pub words : ℕ
  pub results : List ℕ
  pub few : words ≤ most_words
  pub chained : Chained words results chains
  pub starts : first ≡ lowest words results (kind_in results f) 0
  pub inside : at ≤ length copy
  pub small : at ≤ most_bytes
  pub fits : length (others_bytes (take at copy) (others_in words results f)) ≤ room

abbrev pub ListsOthers : List ℕ → ℕ → ℕ → ℕ → List ℕ → List ℕ → ℕ → List ℕ → Type 0
ListsOthers copy at f first chains before n after =
    (o : OthersAt copy at f first chains (length before)) → Written (others_bytes (take at copy) (others_in o.words o.results f)) before n after

pub record TablesOf (W : Vocabulary) (results chains : List ℕ) : Type 0 where
  pub in_order : InOrder W
  pub tabled : Tabled W (length W.words) results
  pub chained : Chained (length W.words) results chains

-- The bytes before the term are those that its entries have before it.
pub record TermAt (copy : List ℕ) (at : ℕ) (results chains : List ℕ) (left room : ℕ) : Type 0 where
  pub vocabulary : Vocabulary
  pub front : List ℕ
  pub term : Term
  pub kind : ℕ
  pub rest : List ℕ
  pub tables : TablesOf vocabulary results chains
  pub size : length copy ≤ most_bytes
  pub begins : length front ≡ at
  pub sorted : Sorted (signature vocabulary) term kind
  pub closed : is_open term ≡ false
  pub stands : copy ≡ front ++ (encode_at vocabulary term ++ rest)
  pub deep : levels term ≤ left
  pub fits : length (spots_bytes vocabulary (spots vocabulary term front)) ≤ room

-- The copy is as before, and the entries are written.
pub record TermListed {copy : List ℕ} {at : ℕ} {results chains : List ℕ} {left room : ℕ} (h : TermAt copy at results chains left room)
    (copied before after : List ℕ) (end n : ℕ) : Type 0 where
  pub passed : end ≡ at + length (encode_at h.vocabulary h.term)
  pub restored : copied ≡ copy
  pub written : Written (spots_bytes h.vocabulary (spots h.vocabulary h.term h.front)) before n after

abbrev pub ListsTerm : List ℕ → ℕ → List ℕ → List ℕ → ℕ → List ℕ → List ℕ → List ℕ → ℕ → ℕ → Type 0
ListsTerm copy at results chains left before copied after end n =
    (h : TermAt copy at results chains left (length before)) → TermListed h copied before after end n

-- The word stands at the offset `at`, and behind its map the terms of the written bits.
pub record PlacesAt (copy : List ℕ) (at map : ℕ) (results chains : List ℕ) (left room : ℕ) : Type 0 where
  pub vocabulary : Vocabulary
  pub front : List ℕ
  pub top : ℕ
  pub terms : Terms
  pub rest : List ℕ
  pub tables : TablesOf vocabulary results chains
  pub size : length copy ≤ most_bytes
  pub begins : length front ≡ at
  pub stands : copy ≡ front ++ (top ∷ (write_map map ++ (encode_all vocabulary terms ++ rest)))
  pub due : Stands vocabulary (flags map) terms
  pub deep : suc (levels_all terms) ≤ left
  pub fits : length (spots_bytes vocabulary (bit_spots vocabulary top map front (flags map) 0 [] terms)) ≤ room

-- The copy is as before, and the entries are written.
pub record PlacesListed {copy : List ℕ} {at map : ℕ} {results chains : List ℕ} {left room : ℕ} (h : PlacesAt copy at map results chains left room)
    (copied before after : List ℕ) (end n : ℕ) : Type 0 where
  pub passed : end ≡ at + 1 + map_bytes + length (encode_all h.vocabulary h.terms)
  pub restored : copied ≡ copy
  pub written :
      Written (spots_bytes h.vocabulary (bit_spots h.vocabulary h.top map h.front (flags map) 0 [] h.terms)) before n after

abbrev pub ListsPlaces : List ℕ → ℕ → ℕ → List ℕ → List ℕ → ℕ → List ℕ → List ℕ → List ℕ → ℕ → ℕ → Type 0
ListsPlaces copy at map results chains left before copied after end n =
    (h : PlacesAt copy at map results chains left (length before)) → PlacesListed h copied before after end n
