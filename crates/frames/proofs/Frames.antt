-- Frames: what is due of a frame without its first place, of one with no place left, and of a list of frames.
--
--   framed                    a frame is made of four numbers, and they are read back
--   passed_framed, advanced_framed    the frames that `passed` and `advanced` make
--   the -fits                 no number on the way there passes 2 ^ 64
--   due-behind, due_advanced, due-done    what is due of them
--   frame_behind, frame_advanced      they are frames of the same vocabulary
--   due-bare                  where nothing is written, nothing is due
--   saved-last                a list of frames in which one is set
--   all-last                  what holds of each of the first frames and of the next
--   full_made, part_made      the frames that `full` and `of_word` make
--
use Rattle.std.proofs.Common.{◌≡◌, ℕ, zero, suc, ◌+◌, ◌-◌, ◌*◌, ◌/◌, ◌%◌, ◌^◌, ◌<◌, ◌≤◌, Bool, true, false, eqb, ◌≢◌, List, [], ◌∷◌, ◌++◌, length, get_or, drop, set, sym, refl, ap, ◌∙◌, ap₂, true≢false, add-zero, pow-suc, add-one, arith, drop-cons, get_or-set_other, get_or-set_same, eq-eqb, ne_eqb, eqb-true}
use mathlib.Core.Bool.{false≢true}
use native.Mathlib.Decide.{ℕ_discrete}
use lib.Bits.{bit_and, and_step, and_self, and_block, and_le_l}
use lib.Count
use Rattle.wire.specs.Map.{flags_in, flags, bit, first_flag, rest_flags, Slot, slots}
use Rattle.wire.specs.TermLines.{Due, due_at}
use Rattle.wire.proofs.Map.{bit_odd}
use Rattle.wire.proofs.Ones.{no_ones, lowest_falls}
use Rattle.frames.specs.Frames.{run_in, kinds_in, written_in, places_in, Framed, Behind, Advanced, WordFrame, FrameIn, places_due, frame_due, saved_due}

-- ---- the four numbers

frame_parts : (x : ℕ) → x / 256 ≡ kinds_in x + 1048576 * (written_in x + 256 * places_in x)
frame_parts x = omega arith

pub framed : (b k w p : ℕ) → b < 256 → k < 1048576 → w < 256 → Framed (b + 256 * (k + 1048576 * (w + 256 * p))) (Count.ones b) k w p
framed b k w p hb hk hw =
    let x : ℕ = b + 256 * (k + 1048576 * (w + 256 * p)) in
    let upper : x / 256 ≡ k + 1048576 * (w + 256 * p) = omega arith in
    let maps : x / 256 / 1048576 ≡ w + 256 * p = ap (λ y. y / 1048576) upper ∙ omega arith in
    let low : x % 256 ≡ b = omega arith in
    record {
      run = ap Count.ones low;
      kinds = ap (λ y. y % 1048576) upper ∙ omega arith;
      written = ap (λ y. y % 256) maps ∙ omega arith;
      places = ap (λ y. y / 256) maps ∙ omega arith;
    }

-- Where a place is left in the run a bit stands for it.
run_bits : (x : ℕ) → 0 < run_in x → 0 < x % 256
run_bits x some = go (ℕ_discrete (x % 256) 0)
  where
    go : Dec (x % 256 ≡ 0) → 0 < x % 256
    go (yes e) = absurd (omega (arith, no_ones (x % 256) e))
    go (no d) = omega (arith, d)

pub passed_framed : (x : ℕ) → 0 < run_in x → kinds_in x < 131072 → Behind x (bit_and x (x - 1) + 256)
passed_framed x some near =
    let bits = run_bits x some in
    let upper : ℕ = x / 256 in
    let low : ℕ = x % 256 in
    let parts = frame_parts x in
    let whole : x ≡ upper * 2 ^ 8 + low = omega arith in
    let before : x - 1 ≡ upper * 2 ^ 8 + (low - 1) = omega arith in
    let fallen : bit_and x (x - 1) ≡ upper * 2 ^ 8 + bit_and low (low - 1) =
    ap₂ bit_and whole before ∙ and_block 8 upper upper low (low - 1) (omega arith) (omega arith) ∙ ap (λ y. y * 2 ^ 8 + bit_and low (low - 1)) (and_self upper) in
    let less = and_le_l low (low - 1) in
    let e : bit_and x (x - 1) + 256 ≡ bit_and low (low - 1) + 256 * ((kinds_in x + 1) + 1048576 * (written_in x + 256 * places_in x)) = omega (arith, fallen) in
    let f = framed (bit_and low (low - 1)) (kinds_in x + 1) (written_in x) (places_in x) (omega arith) (omega arith) (omega arith) in
    rw e (record { run = f.run ∙ (let one = lowest_falls low bits in omega arith); kinds = f.kinds; written = f.written; places = f.places })

-- Neither the difference nor the sum that `passed` makes wraps.
pub before-fits : (x : ℕ) → 0 < run_in x → x < 2 ^ 64 → (x + 18446744073709551615) % 2 ^ 64 ≡ x - 1
before-fits x some fits = let bits = run_bits x some in omega arith

pub passed-fits : (x : ℕ) → places_in x < 256 → (bit_and x (x - 1) + 256) % 2 ^ 64 ≡ bit_and x (x - 1) + 256
passed-fits x map = let less = and_le_l x (x - 1) in omega arith

-- The frame x with its lowest place taken off its maps, as a number.
abbrev pub advanced_from : ℕ → ℕ
advanced_from x = written_in x % 2 + 256 * ((kinds_in x + places_in x % 2 - written_in x % 2) + 1048576 * (written_in x / 2 + 256 * (places_in x / 2)))

-- The number of the next kind, as `advanced` makes it of any frame.
abbrev pub next_kind : ℕ → ℕ
next_kind x = (kinds_in x + places_in x % 2 + 1048576 - written_in x % 2) % 1048576

pub next-kind : (x : ℕ) → kinds_in x < 131072 → written_in x % 2 ≤ places_in x % 2 → kinds_in x + places_in x % 2 - written_in x % 2 ≡ next_kind x
next-kind x near within = go (kinds_in x) (places_in x % 2) (written_in x % 2) near within (omega arith)
  where
    go : (k p w : ℕ) → k < 131072 → w ≤ p → p < 2 → k + p - w ≡ (k + p + 1048576 - w) % 1048576
    go k p w near within low = omega arith

-- What it makes above the run of any frame is at most 2 ^ 55.
pub upper_fits : (x : ℕ) → x < 18446744073709551616 → next_kind x + 1048576 * (written_in x / 2 + 256 * (places_in x / 2)) < 36028797018963969
upper_fits x fits =
    sum_fits (next_kind x) (written_in x / 2 + 256 * (places_in x / 2)) (omega arith)
    (maps_fit (written_in x) (places_in x) (omega arith) (places_fit x fits))
  where
    places_fit : (x : ℕ) → x < 18446744073709551616 → places_in x < 268435456
    places_fit x fits = omega arith

    maps_fit : (w p : ℕ) → w < 256 → p < 268435456 → w / 2 + 256 * (p / 2) < 34359738368
    maps_fit w p few fits = omega arith

    sum_fits : (n m : ℕ) → n < 1048577 → m < 34359738368 → n + 1048576 * m < 36028797018963969
    sum_fits n m few fits = omega arith

pub times_fits : (u : ℕ) → u < 36028797018963969 → 256 * u < 18446744073709551616
times_fits u fits = omega arith

pub last_fits : (r u : ℕ) → r < 2 → u < 36028797018963969 → r + 256 * u < 18446744073709551616
last_fits r u small fits = omega arith

one_bit : (b : ℕ) → b < 2 → Count.ones b ≡ b
one_bit b h =
    let none : Count.ones (b / 2) ≤ 0 = Count.ones-le 0 (b / 2) (omega arith) in
    omega (arith, Count.ones_step b)

pub advanced_framed : (x : ℕ) → kinds_in x < 131072 → Advanced x (advanced_from x)
advanced_framed x near =
    let f = framed (written_in x % 2) (kinds_in x + places_in x % 2 - written_in x % 2) (written_in x / 2) (places_in x / 2) (omega arith) (omega arith) (omega arith) in
    record { run = f.run ∙ one_bit (written_in x % 2) (omega arith); kinds = f.kinds; written = f.written; places = f.places }

-- ---- bits past the last one that stands

slots-places : (b : Bool) (ps qs ws : List Bool) (l : List ℕ) → ((ws : List Bool) (l : List ℕ) → slots ps ws l ≡ slots qs ws l) →
    slots (b ∷ ps) ws l ≡ slots (b ∷ qs) ws l
slots-places false ps qs ws l e = e (rest_flags ws) l
slots-places true ps qs ws [] e = refl
slots-places true ps qs ws (k ∷ l) e = ap {B = List Slot} (λ z. record { sort = k; written = first_flag ws } ∷ z) (e (rest_flags ws) l)

slots-written : (b : Bool) (ps ws us : List Bool) (l : List ℕ) → ((ps : List Bool) (l : List ℕ) → slots ps ws l ≡ slots ps us l) →
    slots ps (b ∷ ws) l ≡ slots ps (b ∷ us) l
slots-written b [] ws us l e = refl
slots-written b (false ∷ ps) ws us l e = e ps l
slots-written b (true ∷ ps) ws us [] e = refl
slots-written b (true ∷ ps) ws us (k ∷ l) e = ap {B = List Slot} (λ z. record { sort = k; written = b } ∷ z) (e ps l)

no-bit : (m : ℕ) → m < 1 → eqb (m % 2) 1 ≡ false
no-bit m h = ne_eqb (m % 2) 1 (λ e. omega arith)

wider_places : (d m : ℕ) (ws : List Bool) (l : List ℕ) → m < 2 ^ d → slots (flags_in d m) ws l ≡ slots (flags_in (suc d) m) ws l
wider_places zero m ws l h = rw (no-bit m h)
wider_places (suc d) m ws l h =
    let half : m / 2 < 2 ^ d = omega (arith, pow-suc 2 d) in
    slots-places (eqb (m % 2) 1) (flags_in d (m / 2)) (flags_in (suc d) (m / 2)) ws l (λ ws l. wider_places d (m / 2) ws l half)

none_written : (ps : List Bool) (l : List ℕ) → slots ps [] l ≡ slots ps (false ∷ []) l
none_written [] l = refl
none_written (false ∷ ps) l = refl
none_written (true ∷ ps) [] = refl
none_written (true ∷ ps) (k ∷ l) = refl

wider_written : (d m : ℕ) (ps : List Bool) (l : List ℕ) → m < 2 ^ d → slots ps (flags_in d m) l ≡ slots ps (flags_in (suc d) m) l
wider_written zero m ps l h = rw (no-bit m h) (none_written ps l)
wider_written (suc d) m ps l h =
    let half : m / 2 < 2 ^ d = omega (arith, pow-suc 2 d) in
    slots-written (eqb (m % 2) 1) ps (flags_in d (m / 2)) (flags_in (suc d) (m / 2)) l (λ ps l. wider_written d (m / 2) ps l half)

-- The slots behind the lowest bit are those of the halves.
slots_halves : (p w : ℕ) (l : List ℕ) → p < 256 → w < 256 →
    slots (flags_in 7 (p / 2)) (flags_in 7 (w / 2)) l ≡ slots (flags (p / 2)) (flags (w / 2)) l
slots_halves p w l hp hw = wider_places 7 (p / 2) (flags_in 7 (w / 2)) l (omega arith) ∙ wider_written 7 (w / 2) (flags (p / 2)) l (omega arith)

-- ---- the lowest place of the maps

module _ (level : ℕ) (ps ws : List Bool) (v : List ℕ) (k : ℕ) where
  due_open : (b c : Bool) → c ≡ false → (b ≡ true → k < length v) →
      due_at level (slots (b ∷ ps) (c ∷ ws) (drop k v)) ≡ due_at level (slots ps ws (drop (k + bit b) v))
  due_open false c e h = ap (λ n. due_at level (slots ps ws (drop n v))) (sym (add-zero k))
  due_open true true e h = absurd (true≢false e)
  due_open true false e h =
      ap (λ l. due_at level (slots (true ∷ ps) (false ∷ ws) l)) (drop-cons v k 0 (h refl))
      ∙ ap (λ n. due_at level (slots ps ws (drop n v))) (sym (add-one k))

  due-written : (b c : Bool) → b ≡ true → c ≡ true → k < length v →
      due_at level (slots (b ∷ ps) (c ∷ ws) (drop k v)) ≡
      record { sort = get_or v k 0; level = level; root = false } ∷ due_at level (slots ps ws (drop (k + bit b) v))
  due-written false c e f h = absurd (false≢true e)
  due-written true false e f h = absurd (false≢true f)
  due-written true true e f h =
      ap (λ l. due_at level (slots (true ∷ ps) (true ∷ ws) l)) (drop-cons v k 0 h)
      ∙ ap (λ n. record { sort = get_or v k 0; level = level; root = false } ∷ due_at level (slots ps ws (drop n v))) (sym (add-one k))

-- What is due of the maps p and w, their kinds from the offset k on.
abbrev pub maps_due : List ℕ → ℕ → ℕ → ℕ → ℕ → List Due
maps_due v level k p w = due_at level (slots (flags p) (flags w) (drop k v))

module _ (v : List ℕ) (level k p w : ℕ) (hp : p < 256) (hw : w < 256) where
  halves : due_at level (slots (flags_in 7 (p / 2)) (flags_in 7 (w / 2)) (drop (k + bit (eqb (p % 2) 1)) v)) ≡ maps_due v level (k + p % 2) (p / 2) (w / 2)
  halves =
      ap (λ n. due_at level (slots (flags_in 7 (p / 2)) (flags_in 7 (w / 2)) (drop (k + n) v))) (bit_odd p)
      ∙ ap (due_at level) (slots_halves p w (drop (k + p % 2) v) hp hw)

  maps_skip : (w % 2 ≡ 1 → ⊥) → (p % 2 ≡ 1 → k < length v) → maps_due v level k p w ≡ maps_due v level (k + p % 2) (p / 2) (w / 2)
  maps_skip e h =
      due_open level (flags_in 7 (p / 2)) (flags_in 7 (w / 2)) v k (eqb (p % 2) 1) (eqb (w % 2) 1) (ne_eqb (w % 2) 1 e) (λ o. h (eqb-true (p % 2) 1 o))
      ∙ halves

  maps-take : w % 2 ≡ 1 → p % 2 ≡ 1 → k < length v →
      maps_due v level k p w ≡ record { sort = get_or v k 0; level = level; root = false } ∷ maps_due v level (k + p % 2) (p / 2) (w / 2)
  maps-take e o h =
      due-written level (flags_in 7 (p / 2)) (flags_in 7 (w / 2)) v k (eqb (p % 2) 1) (eqb (w % 2) 1) (eq-eqb (p % 2) 1 o) (eq-eqb (w % 2) 1 e) h
      ∙ ap {B = List Due} (λ z. record { sort = get_or v k 0; level = level; root = false } ∷ z) halves

  -- The lowest place is a run of its own where it is written.
  maps-first : w % 2 ≤ p % 2 → (p % 2 ≡ 1 → k < length v) →
      maps_due v level k p w ≡ places_due v level (w % 2) (k + p % 2 - w % 2) ++ maps_due v level (k + p % 2) (p / 2) (w / 2)
  maps-first within inside = go (ℕ_discrete (w % 2) 1)
    where
      go : Dec (w % 2 ≡ 1) → maps_due v level k p w ≡ places_due v level (w % 2) (k + p % 2 - w % 2) ++ maps_due v level (k + p % 2) (p / 2) (w / 2)
      go (yes o) =
          let odd : p % 2 ≡ 1 = omega arith in
          let here : k ≡ k + p % 2 - w % 2 = omega arith in
          maps-take o odd (inside odd)
          ∙ ap₂ (λ n j. places_due v level n j ++ maps_due v level (k + p % 2) (p / 2) (w / 2)) (sym o) here
      go (no e) =
          let none : 0 ≡ w % 2 = omega arith in
          maps_skip e inside
          ∙ ap (λ n. places_due v level n (k + p % 2 - w % 2) ++ maps_due v level (k + p % 2) (p / 2) (w / 2)) none

due_none : (ps : List Bool) (d level : ℕ) (l : List ℕ) → due_at level (slots ps (flags_in d 0) l) ≡ []
due_none [] d level l = refl
due_none (false ∷ ps) zero level l = due_none ps zero level l
due_none (false ∷ ps) (suc d) level l = due_none ps d level l
due_none (true ∷ ps) d level [] = refl
due_none (true ∷ ps) zero level (k ∷ l) = due_none ps zero level l
due_none (true ∷ ps) (suc d) level (k ∷ l) = due_none ps d level l

-- Where nothing is written, nothing is due.
pub due-bare : (ps : List Bool) (m level : ℕ) (l : List ℕ) → m ≡ 0 → due_at level (slots ps (flags m) l) ≡ []
due-bare ps m level l e = ap (λ w. due_at level (slots ps (flags w) l)) e ∙ due_none ps 8 level l

-- ---- what is due of a frame

-- The same by the frame's four numbers.
abbrev pub parts_due : List ℕ → ℕ → ℕ → ℕ → ℕ → ℕ → List Due
parts_due v level n k w p = places_due v level n k ++ maps_due v level (k + n) p w

pub due-parts : (v : List ℕ) (level x n k w p : ℕ) → Framed x n k w p → frame_due v level x ≡ parts_due v level n k w p
due-parts v level x n k w p f =
    ap₂ (λ n k. parts_due v level n k (written_in x) (places_in x)) f.run f.kinds
    ∙ ap₂ (parts_due v level n k) f.written f.places

module _ (v : List ℕ) (level x : ℕ) where
  pub due-done : run_in x ≡ 0 → written_in x ≡ 0 → frame_due v level x ≡ []
  due-done e h =
      ap (λ n. places_due v level n (kinds_in x) ++ maps_due v level (kinds_in x + n) (places_in x) (written_in x)) e
      ∙ due-bare (flags (places_in x)) (written_in x) level (drop (kinds_in x + 0) v) h

  -- The first place of the run is due first.
  pub due-behind : (y : ℕ) → Behind x y → 0 < run_in x →
      frame_due v level x ≡ record { sort = get_or v (kinds_in x) 0; level = level; root = false } ∷ frame_due v level y
  due-behind y b some =
      let e : run_in x ≡ suc (run_in x - 1) = omega arith in
      let next : kinds_in x + run_in x ≡ kinds_in x + 1 + (run_in x - 1) = omega arith in
      ap₂ (λ n k. places_due v level n (kinds_in x) ++ maps_due v level k (places_in x) (written_in x)) e next
      ∙ ap {B = List Due} (λ z. record { sort = get_or v (kinds_in x) 0; level = level; root = false } ∷ z)
      (sym (due-parts v level y (run_in x - 1) (kinds_in x + 1) (written_in x) (places_in x) b))

  module _ (h : FrameIn v x) where
    pub low-within : written_in x % 2 ≤ places_in x % 2
    low-within =
        let step = and_step (written_in x) (places_in x) in
        let same = h.within in
        omega arith

    pub due_advanced : (y : ℕ) → Advanced x y → run_in x ≡ 0 → frame_due v level x ≡ frame_due v level y
    due_advanced y a none =
        let k : ℕ = kinds_in x in
        let p : ℕ = places_in x in
        let w : ℕ = written_in x in
        let within = low-within in
        let map = h.map in
        let inside = h.inside in
        let here : k + 0 ≡ k = omega arith in
        let behind : k + p % 2 ≡ k + p % 2 - w % 2 + w % 2 = omega arith in
        ap (λ n. places_due v level n k ++ maps_due v level (k + n) p w) none
        ∙ ap (λ n. maps_due v level n p w) here
        ∙ maps-first v level k p w map (omega arith) within (λ o. omega (arith, Count.ones_step p))
        ∙ ap (λ n. places_due v level (w % 2) (k + p % 2 - w % 2) ++ maps_due v level n (p / 2) (w / 2)) behind
        ∙ sym (due-parts v level y (w % 2) (k + p % 2 - w % 2) (w / 2) (p / 2) a)

-- ---- frames of a vocabulary

module _ (v : List ℕ) (x y : ℕ) (h : FrameIn v x) where
  pub frame_behind : Behind x y → 0 < run_in x → FrameIn v y
  frame_behind b some =
      let run = b.run in
      let kinds = b.kinds in
      let few = h.few in
      let ones : Count.ones (places_in y) ≡ Count.ones (places_in x) = ap Count.ones b.places in
      let map = h.map in
      let places = b.places in
      record {
        few = omega arith;
        map = omega arith;
        within = ap₂ bit_and b.written b.places ∙ h.within ∙ sym b.written;
        inside = omega (arith, h.inside, ones);
        near = omega (arith, h.near, ones);
      }

  pub frame_advanced : Advanced x y → run_in x ≡ 0 → FrameIn v y
  frame_advanced a none =
      let step = and_step (written_in x) (places_in x) in
      let same = h.within in
      let half : bit_and (written_in x / 2) (places_in x / 2) ≡ written_in x / 2 = omega arith in
      let run = a.run in
      let kinds = a.kinds in
      let places = a.places in
      let map = h.map in
      let low = low-within v 0 x h in
      let ones : Count.ones (places_in y) ≡ Count.ones (places_in x / 2) = ap Count.ones a.places in
      record {
        few = omega arith;
        map = omega arith;
        within = ap₂ bit_and a.written a.places ∙ half ∙ sym a.written;
        inside = omega (arith, h.inside, ones, Count.ones_step (places_in x));
        near = omega (arith, h.near, ones, Count.ones_step (places_in x));
      }

-- The frame of no place at all.
pub frame_none : (v : List ℕ) → FrameIn v 0
frame_none v =
    let none = no_ones 0 refl in
    record { few = omega arith; map = omega arith; within = refl; inside = omega arith; near = omega arith }

-- ---- a list of frames

module _ (v : List ℕ) where
  saved_agree : (xs ys : List ℕ) (n : ℕ) → ((i : ℕ) → i < n → get_or xs i 0 ≡ get_or ys i 0) → saved_due v xs n ≡ saved_due v ys n
  saved_agree xs ys zero h = refl
  saved_agree xs ys (suc n) h =
      ap₂ (λ x l. frame_due v (suc n) x ++ l) (h n (omega arith)) (saved_agree xs ys n (λ i p. h i (omega arith)))

  -- A frame does not matter to what is due of the frames before it.
  pub saved-last : (xs : List ℕ) (n y : ℕ) → n < length xs → saved_due v (set xs n y) (suc n) ≡ frame_due v (suc n) y ++ saved_due v xs n
  saved-last xs n y h =
      ap₂ (λ x l. frame_due v (suc n) x ++ l) (get_or-set_same xs n y 0 h)
      (saved_agree (set xs n y) xs n (λ i p. let apart : i ≢ n = (λ e. omega arith) in get_or-set_other xs n i y 0 apart))

-- What holds of each of the first n elements and of the next holds of all of them.
pub all-last : (P : ℕ → Type 0) (xs : List ℕ) (n y : ℕ) → n < length xs → ((i : ℕ) → i < n → P (get_or xs i 0)) → P y →
    (i : ℕ) → i < suc n → P (get_or (set xs n y) i 0)
all-last P xs n y h before last i below = go (ℕ_discrete i n)
  where
    go : Dec (i ≡ n) → P (get_or (set xs n y) i 0)
    go (yes e) = rw (e, get_or-set_same xs n y 0 h) last
    go (no d) = let apart : i ≢ n = d in rw (get_or-set_other xs n i y 0 apart) (before i (omega arith))

-- ---- the frame of a word

-- The frame of a word with all its places.
pub full_made : (m o : ℕ) → m < 256 → o < 65536 → WordFrame (m + 256 * (o + 2)) m m o
full_made m o map near =
    let e : m + 256 * (o + 2) ≡ m + 256 * ((o + 2) + 1048576 * (0 + 256 * 0)) = omega arith in
    record {
      full = λ same. rw e (framed m (o + 2) 0 0 (omega arith) (omega arith) (omega arith));
      part = λ other. absurd (other refl);
      near = near;
      map = map;
    }

-- The frame of a word at another written map than its place map.
pub part_made : (w p o : ℕ) → (w ≡ p → ⊥) → w < 256 → p < 256 → o < 65536 → WordFrame (256 * (o + 2 + 1048576 * (w + 256 * p))) w p o
part_made w p o other written map near =
    let e : 256 * (o + 2 + 1048576 * (w + 256 * p)) ≡ 0 + 256 * ((o + 2) + 1048576 * (w + 256 * p)) = omega arith in
    let f = framed 0 (o + 2) w p (omega arith) (omega arith) written in
    record {
      full = λ same. absurd (other same);
      part = λ other. rw e (record { run = f.run ∙ no_ones 0 refl; kinds = f.kinds; written = f.written; places = f.places });
      near = near;
      map = map;
    }
