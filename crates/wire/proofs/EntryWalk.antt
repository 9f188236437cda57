-- EntryWalk: what a walk over the written bits of a word needs: the bits by their numbers, a written term for each bit
-- that stands, and the copy of the pattern in which the maps are kept up to a bit.
--
--   closed-stands             the written terms of a word stand at the bits of its map
--   flags-at                  the bits of a map by their numbers
--   word-bytes, copy_patched  a word in the copy, and the copy with another map of it
--
use mathlib.Core.Path.{◌≡◌, refl, sym, ap, ap₂, subst, ◌∙◌}
use mathlib.Core.Bool.{Bool, true, false}
use mathlib.Core.List.{List, [], ◌∷◌, ◌++◌, append_assoc}
use Prim.Native.Nat.{ℕ, zero, suc, ◌+◌, ◌-◌, ◌/◌, ◌%◌, ◌^◌, ◌<◌, ◌≤◌}
use native.Mathlib.Nat.{pow-suc, pow-succ', div-div-eq-div-mul}
use native.Mathlib.Omega.{arith}
use lib.Dec.{eqb}
use lib.ListN.{length, take, drop, set, length-append}
use lib.Seq.{take_at, set_at}
use Rattle.terms.specs.Term.{Term, any, var, app, Terms, nil, cons, Sorted, SortedAll}
use Rattle.wire.specs.Map.{map_bits, map_bytes, write_map, flags_in, flags, ones, written_flags}
use Rattle.wire.specs.Vocabulary.{Vocabulary, InOrder, signature, word, map_of}
use Rattle.wire.specs.TermBytes.{written_map, encode_at, encode_all}
use Rattle.wire.specs.EntryMaps.{closed, Stands}
use Rattle.wire.proofs.Map.{flags-written}
use Rattle.wire.proofs.Words.{length_symbols, arguments-word, word-in_order}
use Rattle.wire.proofs.EntryMaps.{closed-bytes}

-- ---- the terms of the written bits

written_stands : (W : Vocabulary) (ps : List Bool) (ts : Terms) (ks : List ℕ) → length ks ≡ ones ps → SortedAll (signature W) ts ks →
    Stands W (written_flags ps ts) (closed ts)
written_stands W [] nil [] n h = tt
written_stands W [] nil (k ∷ ks) n h = absurd h
written_stands W [] (cons t ts) [] n h = absurd h
written_stands W [] (cons t ts) (k ∷ ks) n h = absurd (omega arith)
written_stands W (false ∷ ps) ts ks n h = written_stands W ps ts ks (omega arith) h
written_stands W (true ∷ ps) nil [] n h = absurd (omega arith)
written_stands W (true ∷ ps) nil (k ∷ ks) n h = absurd h
written_stands W (true ∷ ps) (cons t ts) [] n h = absurd h
written_stands W (true ∷ ps) (cons t ts) (k ∷ ks) n h = go t h.0 (written_stands W ps ts ks (omega arith) h.1)
  where
    go : (t : Term) → Sorted (signature W) t k → Stands W (written_flags ps ts) (closed ts) →
        Stands W (written_flags (true ∷ ps) (cons t ts)) (closed (cons t ts))
    go any s rest = rest
    go (var m) s rest = ((k, s), refl, rest)
    go (app g us) s rest = ((k, s), refl, rest)

pub closed-stands : (W : Vocabulary) → InOrder W → (f : ℕ) (ts : Terms) (s : ℕ) → Sorted (signature W) (app f ts) s →
    Stands W (flags (written_map W f ts)) (closed ts)
closed-stands W in_order f ts s sorted =
    let known : f < length W.words = rw (length_symbols W) at sorted.0 in
    subst (λ ws. Stands W ws (closed ts)) (sym (flags-written (map_of W f) ts))
    (written_stands W (flags (map_of W f)) ts (word W f).kinds (word-in_order W f in_order known).count
    (subst (SortedAll (signature W) ts) (arguments-word W f) sorted.2))

-- ---- the bits of a map by their numbers

flags_in-drop : (b d m : ℕ) → b ≤ d → drop b (flags_in d m) ≡ flags_in (d - b) (m / 2 ^ b)
flags_in-drop zero d m h = ap₂ flags_in (let e : d ≡ d - 0 = omega arith in e) (let e : m ≡ m / 2 ^ 0 = omega arith in e)
flags_in-drop (suc b) zero m h = absurd (omega arith)
flags_in-drop (suc b) (suc d) m h =
    flags_in-drop b d (m / 2) (omega arith)
    ∙ ap₂ flags_in (let e : d - b ≡ suc d - suc b = omega arith in e)
    (div-div-eq-div-mul m 2 (2 ^ b) ∙ ap (λ k. m / k) (sym (pow-succ' 2 b)))

-- Bit b of a map, and the bits above it.
pub flags-at : (b m : ℕ) → b < map_bits → drop b (flags m) ≡ eqb (m / 2 ^ b % 2) 1 ∷ drop (suc b) (flags m)
flags-at b m h =
    flags_in-drop b map_bits m (omega arith)
    ∙ ap (λ d. flags_in d (m / 2 ^ b)) (let e : map_bits - b ≡ suc (map_bits - suc b) = omega arith in e)
    ∙ ap (λ n. eqb (m / 2 ^ b % 2) 1 ∷ flags_in (map_bits - suc b) n) (div-div-eq-div-mul m (2 ^ b) 2 ∙ ap (λ k. m / k) (sym (pow-suc 2 b)))
    ∙ ap (λ l. eqb (m / 2 ^ b % 2) 1 ∷ l) (sym (flags_in-drop (suc b) map_bits m (omega arith)))

-- ---- one copy of the pattern for all entries

-- A word in the pattern: behind its map stand its written terms.
pub word-bytes : (W : Vocabulary) (f : ℕ) (ts : Terms) (r : List ℕ) →
    encode_at W (app f ts) ++ r ≡ f ∷ (write_map (written_map W f ts) ++ (encode_all W (closed ts) ++ r))
word-bytes W f ts r =
    ap (λ l. f ∷ l)
    (append_assoc (write_map (written_map W f ts)) (encode_all W ts) r
    ∙ ap (λ l. write_map (written_map W f ts) ++ (l ++ r)) (sym (closed-bytes W ts)))

-- The map of a word behind the bytes front is replaced by another.
pub copy_patched : (front : List ℕ) (f m k : ℕ) (r : List ℕ) →
    set (front ++ (f ∷ (write_map m ++ r))) (length front + 1) k ≡ front ++ (f ∷ (write_map k ++ r))
copy_patched front f m k r =
    ap (λ l. set l (length front + 1) k) (sym (append_assoc front (f ∷ []) (m ∷ r)))
    ∙ set_at (front ++ (f ∷ [])) m r k (length front + 1) (length-append front (f ∷ []))
    ∙ append_assoc front (f ∷ []) (k ∷ r)

-- The bytes of an entry before a place of that word are the copy's up to there.
pub copy-front : (front : List ℕ) (f k : ℕ) (body r : List ℕ) →
    take (length front + 1 + map_bytes + length body) (front ++ (f ∷ (write_map k ++ (body ++ r)))) ≡ front ++ (f ∷ (write_map k ++ body))
copy-front front f k body r =
    let p : List ℕ = front ++ (f ∷ (write_map k ++ body)) in
    ap (take (length front + 1 + map_bytes + length body)) (sym (append_assoc front (f ∷ (write_map k ++ body)) r))
    ∙ take_at p r (length front + 1 + map_bytes + length body) (omega (arith, length-append front (f ∷ (write_map k ++ body))))
