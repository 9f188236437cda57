-- EntryMaps: an entry keeps of the map of a word above it the bits up to one of them, so a listing goes over the written
-- bits of each word.
--
-- This file is an algorithm, and nothing in it has to be believed: SpotsByBits fixes what it gives.
--
--   closed ts                         the terms of ts that are written
--   Stands W ws ts                    ts are sorted terms, one for each bit of ws that stands, and none of them is an
--                                     open place
--   bit_spots W f m front ws b body ts the words below the word f with map m, behind the bytes front: ws are the bits
--                                     of m from bit b on, ts the terms of those that stand, and body the bytes of
--                                     the terms below bit b
--   SpotsByBits                       the words of a term, by the bits of its written map
--
use Rattle.std.specs.Prelude.{◌≡◌, Bool, true, false, cond, List, [], ◌∷◌, ◌++◌, ℕ, suc, ◌%◌, ◌^◌}
use Rattle.terms.specs.Term.{app, Terms, nil, cons, Sorted}
use Rattle.wire.specs.Map.{write_map, flags, is_open}
use Rattle.wire.specs.Vocabulary.{Vocabulary, InOrder, signature}
use Rattle.wire.specs.TermBytes.{written_map, encode_at}
use Rattle.wire.specs.EntryBytes.{Spot, spots}

abbrev pub closed : Terms → Terms
closed nil = nil
closed (cons t ts) = cond (is_open t) (closed ts) (cons t (closed ts))

abbrev pub Stands : Vocabulary → List Bool → Terms → Type 0
Stands W [] nil = Unit {0}
Stands W [] (cons t ts) = ⊥
Stands W (false ∷ ws) ts = Stands W ws ts
Stands W (true ∷ ws) nil = ⊥
Stands W (true ∷ ws) (cons t ts) = ((k : ℕ) × Sorted (signature W) t k) × (is_open t ≡ false) × Stands W ws ts

abbrev pub bit_spots : Vocabulary → ℕ → ℕ → List ℕ → List Bool → ℕ → List ℕ → Terms → List Spot
bit_spots W f m front [] b body ts = []
bit_spots W f m front (false ∷ ws) b body ts = bit_spots W f m front ws (suc b) body ts
bit_spots W f m front (true ∷ ws) b body nil = []
bit_spots W f m front (true ∷ ws) b body (cons t ts) =
    spots W t (front ++ (f ∷ (write_map (m % 2 ^ suc b) ++ body))) ++ bit_spots W f m front ws (suc b) (body ++ encode_at W t) ts

abbrev pub SpotsByBits : Type 0
SpotsByBits = (W : Vocabulary) → InOrder W → (f : ℕ) (ts : Terms) (s : ℕ) → Sorted (signature W) (app f ts) s → (front : List ℕ) →
    spots W (app f ts) front
    ≡ record { front = front; word = f } ∷ bit_spots W f (written_map W f ts) front (flags (written_map W f ts)) 0 [] (closed ts)
