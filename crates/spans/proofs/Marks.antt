-- Marks: what maps and frames say of the terms that are due: whether each is written, and at which level.
--
--   Mark                        a term that is due: whether it is written, and its level
--   marks_in d n p w             those of the d lowest bits of a place map p and a written map w, at level n
--   marks n p w                 those of two maps
--   marks_of xs n                those of the frames 1 to n of xs, the last of them first
--   marks_due x xs n             those of the frame x at level n, and of the frames below it
--   Marked ts ms                the first of the terms ts are as the marks ms say, and no deeper than 32 levels allow; the rest is shut
--   marked-word                 the arguments of a word are as its maps say
--   shut-word                   they are shut where its maps are the same
--
use mathlib.Core.Path.{◌≡◌, refl, sym, ap, ap₂, ◌∙◌, subst}
use mathlib.Core.Bool.{Bool, true, false, not, ◌||◌}
use mathlib.Core.List.{List, [], ◌∷◌, ◌++◌}
use mathlib.Core.Logic.{◌≢◌}
use Prim.Native.Nat.{ℕ, zero, suc, ◌+◌, ◌*◌, ◌/◌, ◌%◌, ◌^◌, ◌<◌, ◌≤◌}
use native.Mathlib.Nat.{pow-suc}
use native.Mathlib.Omega.{arith}
use lib.Dec.{eqb}
use lib.ListN.{length, get_or, set}
use lib.Seq.{get_or-set_same, get_or-set_other}
use borrow.Author.Tests.{eq-eqb, ne_eqb}
use Rattle.terms.specs.Signature.{Signature}
use Rattle.terms.specs.Term.{Terms, nil, cons, SortedAll}
use Rattle.wire.specs.Map.{map_bits, flags_in, flags, bit, number, ones, is_open, written_flags}
use Rattle.wire.specs.TermBytes.{levels, levels_all}
use Rattle.wire.specs.GapComputed.{some_open}
use Rattle.spans.specs.Frames.{written_in, places_in, TwoMaps}
use Rattle.spans.specs.Walking.{Shut}
use Rattle.spans.proofs.Joined.{chained}

pub record Mark : Type 0 where
  pub written : Bool
  pub level : ℕ

abbrev mark_if : Bool → Mark → List Mark → List Mark
mark_if true m l = m ∷ l
mark_if false m l = l

marks_in : ℕ → ℕ → ℕ → ℕ → List Mark
marks_in zero n p w = []
marks_in (suc d) n p w = mark_if (eqb (p % 2) 1) (record { written = eqb (w % 2) 1; level = n }) (marks_in d n (p / 2) (w / 2))

pub marks : ℕ → ℕ → ℕ → List Mark
marks n p w = marks_in map_bits n p w

abbrev pub marks_of : List ℕ → ℕ → List Mark
marks_of xs zero = []
marks_of xs (suc n) = marks (suc n) (places_in (get_or xs (suc n) 0)) (written_in (get_or xs (suc n) 0)) ++ marks_of xs n

abbrev pub marks_due : ℕ → List ℕ → ℕ → List Mark
marks_due x xs zero = []
marks_due x xs (suc n) = marks (suc n) (places_in x) (written_in x) ++ marks_of xs n

-- ---- a frame

marks_wider : (d n p w : ℕ) → p < 2 ^ d → marks_in d n p w ≡ marks_in (suc d) n p w
unfolding marks_in
marks_wider zero n p w h = rw (ne_eqb (p % 2) 1 (λ e. omega arith))
marks_wider (suc d) n p w h =
    let half : p / 2 < 2 ^ d = omega (arith, pow-suc 2 d) in
    ap (mark_if (eqb (p % 2) 1) (record { written = eqb (w % 2) 1; level = n })) (marks_wider d n (p / 2) (w / 2) half)

no-marks : (d n w : ℕ) → marks_in d n 0 w ≡ []
unfolding marks_in
no-marks zero n w = refl
no-marks (suc d) n w = no-marks d n (w / 2)

pub marks_none : (n p w : ℕ) → p ≡ 0 → marks n p w ≡ []
unfolding marks
marks_none n p w e = ap (λ q. marks_in map_bits n q w) e ∙ no-marks map_bits n w

-- y is the frame x without its lowest place.
abbrev pub Shifted : ℕ → ℕ → Type 0
Shifted x y = TwoMaps y (written_in x / 2) (places_in x / 2)

marks_halves : (n x y : ℕ) → Shifted x y → marks_in 7 n (places_in x / 2) (written_in x / 2) ≡ marks n (places_in y) (written_in y)
unfolding marks
marks_halves n x y h =
    marks_wider 7 n (places_in x / 2) (written_in x / 2) (omega arith)
    ∙ ap₂ (λ p w. marks_in map_bits n p w) (sym h.places) (sym h.written)

pub marks-place : (n x y : ℕ) → Shifted x y → places_in x % 2 ≡ 1 →
    marks n (places_in x) (written_in x) ≡ record { written = eqb (written_in x % 2) 1; level = n } ∷ marks n (places_in y) (written_in y)
unfolding marks marks_in
marks-place n x y h e =
    ap (λ b. mark_if b (record { written = eqb (written_in x % 2) 1; level = n }) (marks_in 7 n (places_in x / 2) (written_in x / 2))) (eq-eqb (places_in x % 2) 1 e)
    ∙ ap {B = List Mark} (λ l. record { written = eqb (written_in x % 2) 1; level = n } ∷ l) (marks_halves n x y h)

pub marks-gap : (n x y : ℕ) → Shifted x y → (places_in x % 2 ≡ 1 → ⊥) → marks n (places_in x) (written_in x) ≡ marks n (places_in y) (written_in y)
unfolding marks marks_in
marks-gap n x y h e =
    ap (λ b. mark_if b (record { written = eqb (written_in x % 2) 1; level = n }) (marks_in 7 n (places_in x / 2) (written_in x / 2))) (ne_eqb (places_in x % 2) 1 e)
    ∙ marks_halves n x y h

-- ---- the frames below

marks_agree : (xs ys : List ℕ) (n : ℕ) → ((i : ℕ) → i ≤ n → get_or xs i 0 ≡ get_or ys i 0) → marks_of xs n ≡ marks_of ys n
marks_agree xs ys zero h = refl
marks_agree xs ys (suc n) h =
    ap₂ (λ x l. marks (suc n) (places_in x) (written_in x) ++ l) (h (suc n) (omega arith)) (marks_agree xs ys n (λ i p. h i (omega arith)))

-- A frame is put aside, or is taken up again.
pub marks-kept : (xs : List ℕ) (n y : ℕ) → suc n < length xs → marks_of (set xs (suc n) y) (suc n) ≡ marks_due y xs (suc n)
marks-kept xs n y h =
    ap₂ (λ x l. marks (suc n) (places_in x) (written_in x) ++ l) (get_or-set_same xs (suc n) y 0 h)
    (marks_agree (set xs (suc n) y) xs n (λ i p. let apart : i ≢ suc n = (λ e. omega arith) in get_or-set_other xs (suc n) i y 0 apart))

pub marks-again : (xs : List ℕ) (n : ℕ) → marks_of xs n ≡ marks_due (get_or xs n 0) xs n
marks-again xs zero = refl
marks-again xs (suc n) = refl

-- ---- the terms that are due

abbrev pub Marked : Terms → List Mark → Type 0
Marked ts [] = Shut ts
Marked nil (m ∷ ms) = ⊥
Marked (cons t ts) (m ∷ ms) = (not (is_open t) ≡ m.written) × (levels t + m.level ≤ 32) × Marked ts ms

odd_bit : (b : Bool) (k : ℕ) → b ≡ eqb ((bit b + 2 * k) % 2) 1
odd_bit true k = sym (eq-eqb ((1 + 2 * k) % 2) 1 (omega arith))
odd_bit false k = sym (ne_eqb ((0 + 2 * k) % 2) 1 (λ e. omega arith))

half_bit : (b : Bool) (k : ℕ) → k ≡ (bit b + 2 * k) / 2
half_bit true k = omega arith
half_bit false k = omega arith

module _ (S : Signature) (us : Terms) (ms : List Mark) (rest : Marked us ms) where
  -- A word's places, whose written map is that of its terms, and us behind them; then one place more, of which b tells
  -- whether it is one.
  abbrev MarkedPlaces : ℕ → ℕ → ℕ → Type 0
  MarkedPlaces d n p =
      (ts : Terms) (ks : List ℕ) → SortedAll S ts ks → length ks ≡ ones (flags_in d p) → levels_all ts + n ≤ 32 →
      Marked (chained ts us) (marks_in d n p (number (written_flags (flags_in d p) ts)) ++ ms)

  marked_more : (d n p : ℕ) → MarkedPlaces d n p → (b : Bool) (ts : Terms) (ks : List ℕ) → SortedAll S ts ks →
      length ks ≡ ones (b ∷ flags_in d p) → levels_all ts + n ≤ 32 →
      Marked (chained ts us) (mark_if b (record { written = eqb (number (written_flags (b ∷ flags_in d p) ts) % 2) 1; level = n })
      (marks_in d n p (number (written_flags (b ∷ flags_in d p) ts) / 2)) ++ ms)
  marked_more d n p on false ts ks h c l =
      subst (λ w. Marked (chained ts us) (marks_in d n p w ++ ms)) (half_bit false (number (written_flags (flags_in d p) ts))) (on ts ks h (omega arith) l)
  marked_more d n p on true nil [] h c l = absurd (omega arith)
  marked_more d n p on true nil (k ∷ ks) h c l = absurd h
  marked_more d n p on true (cons t ts) [] h c l = absurd h
  marked_more d n p on true (cons t ts) (k ∷ ks) h c l = (
    odd_bit (not (is_open t)) (number (written_flags (flags_in d p) ts)),
    omega arith,
    subst (λ w. Marked (chained ts us) (marks_in d n p w ++ ms)) (half_bit (not (is_open t)) (number (written_flags (flags_in d p) ts)))
        (on ts ks h.1 (omega arith) (omega arith)),
  )

  marked-places : (d n p : ℕ) → MarkedPlaces d n p
  unfolding marks_in
  marked-places zero n p nil [] h c l = rest
  marked-places zero n p nil (k ∷ ks) h c l = absurd h
  marked-places zero n p (cons t ts) [] h c l = absurd h
  marked-places zero n p (cons t ts) (k ∷ ks) h c l = absurd (omega arith)
  marked-places (suc d) n p ts ks h c l = marked_more d n (p / 2) (marked-places d n (p / 2)) (eqb (p % 2) 1) ts ks h c l

  pub marked-word : (n p : ℕ) (ts : Terms) (ks : List ℕ) → SortedAll S ts ks → length ks ≡ ones (flags p) → levels_all ts + n ≤ 32 →
      Marked (chained ts us) (marks n p (number (written_flags (flags p) ts)) ++ ms)
  unfolding marks
  marked-word n p ts ks h c l = marked-places map_bits n p ts ks h c l

pub shut-word : (ts us : Terms) → some_open ts ≡ false → levels_all ts ≤ 32 → Shut us → Shut (chained ts us)
shut-word ts us w l h = record { written = written ts w; shallow = shallow ts l }
  where
    open_more : (a b c : Bool) → (a || b) ≡ false → (b ≡ false → c ≡ false) → (a || c) ≡ false
    open_more true b c e k = e
    open_more false b c e k = k e

    written : (ts : Terms) → some_open ts ≡ false → some_open (chained ts us) ≡ false
    written nil e = h.written
    written (cons t ts) e = open_more (is_open t) (some_open ts) (some_open (chained ts us)) e (written ts)

    shallow : (ts : Terms) → levels_all ts ≤ 32 → levels_all (chained ts us) ≤ 32
    shallow nil e = h.shallow
    shallow (cons t ts) e = let k = shallow ts (omega arith) in omega arith
