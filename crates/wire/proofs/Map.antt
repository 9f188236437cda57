-- Map: the laws of maps: their bits, their bytes, and what they tell of the terms at a word's places.
--
--   bit_odd .. ones-few, ones-count     the bits of a number
--   read-write_map .. read_map_lt    the bytes of a map
--   length-written, within-written, flags-written    the written bits of terms
--   sorts, Marked, sorts-slots, marked-written, written-marked    slots
--
use mathlib.Core.Path.{◌≡◌, refl, sym, ap, ap₂, subst, ◌∙◌}
use mathlib.Core.Bool.{Bool, true, false, not, cond, false≢true}
use mathlib.Core.List.{List, [], ◌∷◌, ◌++◌, map}
use mathlib.Core.Logic.{◌⊎◌, inl, inr}
use Prim.Native.Nat.{ℕ, zero, suc, ◌+◌, ◌*◌, ◌/◌, ◌%◌, ◌^◌, ◌<◌, ◌≤◌}
use native.Mathlib.Nat.{pow-suc}
use native.Mathlib.Omega.{arith}
use lib.Count
use lib.Dec.{eqb}
use lib.ListN.{length}
use borrow.Author.Tests.{eqb-true, eqb-false, eq-eqb, ne_eqb}
use Rattle.terms.specs.Signature.{Signature}
use Rattle.terms.specs.Term.{Terms, nil, cons, SortedAll}
use Rattle.wire.specs.Reply.{IsBytes}
use Rattle.wire.specs.Map.{map_bits, map_bytes, write_map, map_got, map_missing, read_map, flags_in, flags, bit, number, ones, rest_flags, within, Slot, slots, is_open, written_flags}

-- ---- the bits of a number

pub bit_odd : (m : ℕ) → bit (eqb (m % 2) 1) ≡ m % 2
bit_odd m = go (eqb (m % 2) 1) refl
  where
    go : (b : Bool) → eqb (m % 2) 1 ≡ b → bit b ≡ m % 2
    go true e = sym (eqb-true (m % 2) 1 e)
    go false e = let h = eqb-false (m % 2) 1 e in omega arith

pub length-flags_in : (d m : ℕ) → length (flags_in d m) ≡ d
length-flags_in zero m = refl
length-flags_in (suc d) m = ap suc (length-flags_in d (m / 2))

pub number-flags_in : (d m : ℕ) → m < 2 ^ d → number (flags_in d m) ≡ m
number-flags_in zero m h = omega arith
number-flags_in (suc d) m h =
    let ih = number-flags_in d (m / 2) (omega (arith, pow-suc 2 d)) in
    omega (arith, bit_odd m)

pub number-flags : (m : ℕ) → m < 2 ^ map_bits → number (flags m) ≡ m
number-flags m h = number-flags_in map_bits m h

pub flags_in-number : (fs : List Bool) → flags_in (length fs) (number fs) ≡ fs
flags_in-number [] = refl
flags_in-number (true ∷ fs) =
    ap₂ {C = List Bool} ◌∷◌ (eq-eqb ((1 + 2 * number fs) % 2) 1 (omega arith))
    (ap (flags_in (length fs)) (let e : (1 + 2 * number fs) / 2 ≡ number fs = omega arith in e) ∙ flags_in-number fs)
flags_in-number (false ∷ fs) =
    ap₂ {C = List Bool} ◌∷◌ (ne_eqb ((0 + 2 * number fs) % 2) 1 (omega arith))
    (ap (flags_in (length fs)) (let e : (0 + 2 * number fs) / 2 ≡ number fs = omega arith in e) ∙ flags_in-number fs)

pub flags-number : (d : ℕ) (fs : List Bool) → length fs ≡ d → flags_in d (number fs) ≡ fs
flags-number d fs e = subst (λ (k : ℕ). flags_in k (number fs) ≡ fs) e (flags_in-number fs)

pub number_lt : (fs : List Bool) → number fs < 2 ^ length fs
number_lt [] = omega arith
number_lt (true ∷ fs) = let ih = number_lt fs in omega (arith, pow-suc 2 (length fs))
number_lt (false ∷ fs) = let ih = number_lt fs in omega (arith, pow-suc 2 (length fs))

-- The bits that stand are what the library counts.
ones_count_in : (d m : ℕ) → m < 2 ^ d → Count.ones m ≡ ones (flags_in d m)
unfolding Count.ones Count.ones_in
ones_count_in zero m h = ap Count.ones (let e : m ≡ 0 = omega arith in e)
ones_count_in (suc d) m h =
    let ih = ones_count_in d (m / 2) (omega (arith, pow-suc 2 d)) in
    Count.ones_step m ∙ ap₂ ◌+◌ (sym (bit_odd m)) ih

-- A map has eight places at most.
ones-most : (fs : List Bool) → ones fs ≤ length fs
ones-most [] = omega arith
ones-most (true ∷ fs) = omega (arith, ones-most fs)
ones-most (false ∷ fs) = omega (arith, ones-most fs)

pub ones-few : (m : ℕ) → ones (flags m) ≤ map_bits
ones-few m = omega (arith, ones-most (flags m), length-flags_in map_bits m)

pub ones-count : (m : ℕ) → m < 256 → Count.ones m ≡ ones (flags m)
ones-count m h = ones_count_in map_bits m h

-- ---- the bytes of a map

pub read-write_map : (m : ℕ) (l : List ℕ) → read_map (write_map m ++ l) ≡ map_got m l
read-write_map m l = refl

pub write-read_map : (l : List ℕ) (m : ℕ) (r : List ℕ) → read_map l ≡ map_got m r → l ≡ write_map m ++ r
write-read_map [] m r e = let z : ◌≡◌ {A = ℕ} 0 1 = cc in absurd (omega arith)
write-read_map (b ∷ l) m r e = cc

pub map-got : (l : List ℕ) (m : ℕ) (r : List ℕ) → read_map l ≡ map_got m r → length l ≡ map_bytes + length r
map-got l m r e = omega (arith, ap length (write-read_map l m r e))

pub map_missing_lem : (l r : List ℕ) → read_map l ≡ map_missing r → length r ≡ 0
map_missing_lem [] r e = let h : [] ≡ r = cc in sym (ap length h)
map_missing_lem (m ∷ l) r e = let z : ◌≡◌ {A = ℕ} 0 1 = cc in absurd (omega arith)

pub map-lacks : (l : List ℕ) → length l < map_bytes → (r : List ℕ) × (read_map l ≡ map_missing r)
map-lacks [] h = ([], refl)
map-lacks (m ∷ l) h = absurd (omega arith)

pub map-short : (l r : List ℕ) → read_map l ≡ map_missing r → length l < map_bytes
map-short [] r e = omega arith
map-short (m ∷ l) r e = let z : ◌≡◌ {A = ℕ} 0 1 = cc in absurd (omega arith)

-- With bytes x behind it a map is read all the same; a map that is read with them is read without them, or a byte of it is missing.
pub map_longer : (l x : List ℕ) (m : ℕ) (r : List ℕ) → read_map l ≡ map_got m r → read_map (l ++ x) ≡ map_got m (r ++ x)
map_longer [] x m r e = let z : ◌≡◌ {A = ℕ} 0 1 = cc in absurd (omega arith)
map_longer (b ∷ l) x m r e = let p : b ≡ m = cc in let q : l ≡ r = cc in ap₂ (λ m r. map_got m (r ++ x)) p q

pub map-cut : (l x : List ℕ) (m : ℕ) (r : List ℕ) → read_map (l ++ x) ≡ map_got m r →
    ((r' : List ℕ) × (read_map l ≡ map_got m r') × (r ≡ r' ++ x)) ⊎ ((r' : List ℕ) × (read_map l ≡ map_missing r'))
map-cut [] x m r e = inr ([], refl)
map-cut (b ∷ l) x m r e = let p : b ≡ m = cc in inl (l, ap (λ m. map_got m l) p, cc)

pub map_cut_missing : (l x r : List ℕ) → read_map (l ++ x) ≡ map_missing r → (r' : List ℕ) × (read_map l ≡ map_missing r')
map_cut_missing [] x r e = ([], refl)
map_cut_missing (b ∷ l) x r e = let z : ◌≡◌ {A = ℕ} 0 1 = cc in absurd (omega arith)

-- A map that is read off bytes has no bit past the last place.
pub read_map_lt : (m : ℕ) (r : List ℕ) → IsBytes (write_map m ++ r) → m < 2 ^ map_bits
read_map_lt m r h = h.0

pub write-map_bytes : (m : ℕ) → m < 2 ^ map_bits → IsBytes (write_map m)
write-map_bytes m h = (h, tt)

-- ---- the written bits of terms

pub length-written : (ps : List Bool) (ts : Terms) → length (written_flags ps ts) ≡ length ps
length-written [] ts = refl
length-written (false ∷ ps) ts = ap suc (length-written ps ts)
length-written (true ∷ ps) nil = ap suc (length-written ps nil)
length-written (true ∷ ps) (cons t ts) = ap suc (length-written ps ts)

either_true : (b : Bool) → cond b true true ≡ true
either_true true = refl
either_true false = refl

pub within-written : (ps : List Bool) (ts : Terms) → within (written_flags ps ts) ps ≡ true
within-written [] ts = refl
within-written (false ∷ ps) ts = within-written ps ts
within-written (true ∷ ps) nil = within-written ps nil
within-written (true ∷ ps) (cons t ts) = rw (either_true (not (is_open t))) (within-written ps ts)

-- The bits of a written map are those of the terms.
pub flags-written : (p : ℕ) (ts : Terms) → flags (number (written_flags (flags p) ts)) ≡ written_flags (flags p) ts
flags-written p ts = flags-number map_bits (written_flags (flags p) ts) (length-written (flags p) ts ∙ length-flags_in map_bits p)

pub written_lt : (p : ℕ) (ts : Terms) → number (written_flags (flags p) ts) < 2 ^ map_bits
written_lt p ts =
    subst (λ (k : ℕ). number (written_flags (flags p) ts) < 2 ^ k) (length-written (flags p) ts ∙ length-flags_in map_bits p)
    (number_lt (written_flags (flags p) ts))

-- ---- slots

abbrev pub sorts : List Slot → List ℕ
sorts ks = map (λ k. k.sort) ks

-- A slot for each term, and each is written exactly where its term is no open place.
abbrev pub Marked : Terms → List Slot → Type 0
Marked nil [] = Unit {0}
Marked nil (k ∷ ks) = ⊥
Marked (cons t ts) [] = ⊥
Marked (cons t ts) (k ∷ ks) = (not (is_open t) ≡ k.written) × Marked ts ks

-- There are as many slots as bits in the place map, and they are of the word's sorts.
pub sorts-slots : (ps ws : List Bool) (ks : List ℕ) → length ks ≡ ones ps → sorts (slots ps ws ks) ≡ ks
sorts-slots [] ws [] e = refl
sorts-slots [] ws (k ∷ ks) e = absurd (omega arith)
sorts-slots (false ∷ ps) ws ks e = sorts-slots ps (rest_flags ws) ks (omega arith)
sorts-slots (true ∷ ps) ws [] e = absurd (omega arith)
sorts-slots (true ∷ ps) ws (k ∷ ks) e = ap {B = List ℕ} (λ l. k ∷ l) (sorts-slots ps (rest_flags ws) ks (omega arith))

-- The slots of the written bits of terms tell which of the terms are written.
pub marked-written : (S : Signature) (ps : List Bool) (ts : Terms) (ks : List ℕ) → length ks ≡ ones ps → SortedAll S ts ks →
    Marked ts (slots ps (written_flags ps ts) ks)
marked-written S [] nil [] e h = tt
marked-written S [] nil (k ∷ ks) e h = absurd h
marked-written S [] (cons t ts) [] e h = absurd h
marked-written S [] (cons t ts) (k ∷ ks) e h = absurd (omega arith)
marked-written S (false ∷ ps) ts ks e h = marked-written S ps ts ks (omega arith) h
marked-written S (true ∷ ps) nil [] e h = absurd (omega arith)
marked-written S (true ∷ ps) nil (k ∷ ks) e h = absurd h
marked-written S (true ∷ ps) (cons t ts) [] e h = absurd h
marked-written S (true ∷ ps) (cons t ts) (k ∷ ks) e h = (refl, marked-written S ps ts ks (omega arith) h.1)

-- And no other bits tell so.
pub written-marked : (ps ws : List Bool) (ts : Terms) (ks : List ℕ) → length ws ≡ length ps → within ws ps ≡ true →
    length ks ≡ ones ps → Marked ts (slots ps ws ks) → ws ≡ written_flags ps ts
written-marked [] [] ts ks n w e h = refl
written-marked [] (b ∷ ws) ts ks n w e h = absurd (omega arith)
written-marked (false ∷ ps) [] ts ks n w e h = absurd (omega arith)
written-marked (false ∷ ps) (false ∷ ws) ts ks n w e h =
    ap {B = List Bool} (λ l. false ∷ l) (written-marked ps ws ts ks (omega arith) w (omega arith) h)
written-marked (false ∷ ps) (true ∷ ws) ts ks n w e h = absurd (false≢true w)
written-marked (true ∷ ps) [] ts ks n w e h = absurd (omega arith)
written-marked (true ∷ ps) (b ∷ ws) ts [] n w e h = absurd (omega arith)
written-marked (true ∷ ps) (b ∷ ws) nil (k ∷ ks) n w e h = absurd h
written-marked (true ∷ ps) (b ∷ ws) (cons t ts) (k ∷ ks) n w e h =
    ap₂ {C = List Bool} ◌∷◌ (sym h.0) (written-marked ps ws ts ks (omega arith) (rw (either_true b) at w) (omega arith) h.1)
