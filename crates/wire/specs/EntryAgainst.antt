-- EntryAgainst: the bytes of an entry's leftovers against a pattern (document 02 (ii)), as both are walked from left to right.
--
-- This file is an algorithm, and nothing in it has to be believed: CutByBytes fixes what it gives.
--
--   place_bits b fs           the places of a map whose bits from bit b on are fs, by their bits
--   bit_of t b                the bit b where the term t is written, 0 where it is an open place
--   written_bits bs ts        the map of the places bs at which the terms ts are written
--   places_of_word W f         the places of the word f
--   others_at W f front tail  an entry for every other word of f's result kind: the bytes front, the word with map 0, the bytes tail
--   cut_at W p e front tail   the entries that the entry's term e leaves against the pattern's term p; an entry has the bytes front
--                            before this term, and tail behind it
--   cut_all_at W ps es f bs low body front tail   the same of the terms at the places bs of the word f, which stands behind the bytes
--                            front; of the lower places, low is the map of what both allow, and body are its bytes
--   CutByBytes               the entries are those of the definition
--
use Rattle.std.specs.Prelude.{◌≡◌, Bool, true, false, List, [], ◌∷◌, ◌++◌, map, ℕ, suc, ◌+◌, ◌^◌}
use Rattle.terms.specs.Term.{Term, any, var, app, Terms, nil, cons, Sorted}
use Rattle.terms.specs.Listing.{others, open_every}
use Rattle.terms.specs.Book.{disjoint, both, cut}
use Rattle.wire.specs.Map.{write_map, flags, is_open}
use Rattle.wire.specs.Vocabulary.{Vocabulary, InOrder, signature, map_of}
use Rattle.wire.specs.TermBytes.{encode_at, encode_all}

abbrev pub place_bits : ℕ → List Bool → List ℕ
place_bits b [] = []
place_bits b (true ∷ fs) = b ∷ place_bits (suc b) fs
place_bits b (false ∷ fs) = place_bits (suc b) fs

abbrev pub bit_of : Term → ℕ → ℕ
bit_of t b =
    elim (is_open t) [
      | true ↦ 0
      | false ↦ 2 ^ b
    ]

abbrev pub written_bits : List ℕ → Terms → ℕ
written_bits bs nil = 0
written_bits [] (cons t ts) = 0
written_bits (b ∷ bs) (cons t ts) = bit_of t b + written_bits bs ts

abbrev pub places_of_word : Vocabulary → ℕ → List ℕ
places_of_word W f = place_bits 0 (flags (map_of W f))

abbrev pub others_at : Vocabulary → ℕ → List ℕ → List ℕ → List (List ℕ)
others_at W f front tail = map (λ h. front ++ ((h ∷ write_map 0) ++ tail)) (others (signature W) f)

-- Below an open place of the entry all its places are open. The map keeps the lower places that both allow, the place itself, and
-- the entry's higher ones.
abbrev mutual
  pub cut_at : Vocabulary → Term → Term → List ℕ → List ℕ → List (List ℕ)
  cut_at W any e front tail = []
  cut_at W (var n) e front tail = []
  cut_at W (app f ps) any front tail = others_at W f front tail ++ cut_all_at W ps (open_every ps) f (places_of_word W f) 0 [] front tail
  cut_at W (app f ps) (var n) front tail = others_at W f front tail ++ cut_all_at W ps (open_every ps) f (places_of_word W f) 0 [] front tail
  cut_at W (app f ps) (app h es) front tail = cut_all_at W ps es f (places_of_word W f) 0 [] front tail

  pub cut_all_at : Vocabulary → Terms → Terms → ℕ → List ℕ → ℕ → List ℕ → List ℕ → List ℕ → List (List ℕ)
  cut_all_at W nil es f bs low body front tail = []
  cut_all_at W (cons p ps) nil f bs low body front tail = []
  cut_all_at W (cons p ps) (cons e es) f [] low body front tail = []
  cut_all_at W (cons p ps) (cons e es) f (b ∷ bs) low body front tail =
      cut_at W p e (front ++ (f ∷ (write_map (low + (2 ^ b + written_bits bs es)) ++ body))) (encode_all W es ++ tail)
      ++ cut_all_at W ps es f bs (low + bit_of (both e p) b) (body ++ encode_at W (both e p)) front tail

abbrev pub CutByBytes : Type 0
CutByBytes =
    (W : Vocabulary) → InOrder W → (e p : Term) (s : ℕ) → Sorted (signature W) e s → Sorted (signature W) p s → disjoint e p ≡ false →
    (front tail : List ℕ) → map (λ c. front ++ (encode_at W c ++ tail)) (cut (signature W) e p) ≡ cut_at W p e front tail
