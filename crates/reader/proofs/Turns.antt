-- Turns: how the loop over full words goes on, and that it comes to an end.
--
--   Turned                    what holds at each turn: the reading from there on gives what it gave from the beginning on
--   turned_none, turned_as    the beginning, and the same cursor named otherwise
--   turned_up, turned_advanced, turned-bare, turned_down    the four turns
--   WordTurn                  a turn at which a full word stands
--   turns_left and the less-   the measure
--   the -asks                 what the calls in a turn ask for
--
use mathlib.Core.Path.{◌≡◌, refl, sym, ap, ap₂, subst, ◌∙◌}
use mathlib.Core.Bool.{true, false}
use mathlib.Core.List.{List, ◌∷◌}
use mathlib.Core.Logic.{◌≢◌, ◌⊎◌}
use Prim.Native.Nat.{ℕ, zero, suc, ◌+◌, ◌-◌, ◌*◌, ◌%◌, ◌<◌, ◌≤◌}
use native.Mathlib.Numerals.{add-one}
use native.Mathlib.Omega.{arith}
use lib.ListN.{length, get_or, drop, set}
use lib.Seq.{get_or-set_same, get_or-set_other}
use Rattle.terms.specs.Term.{Occurrence}
use Rattle.wire.specs.Map.{map_bytes}
use Rattle.signature.specs.Tables.{Tables, vocabulary_in}
use Rattle.frames.specs.Frames.{run_in, kinds_in, written_in, places_in, Behind, Advanced, WordFrame, FrameIn}
use Rattle.cursors.specs.Cursors.{past_word, went_down, went_up, at_frame}
use Rattle.reader.specs.Cursors.{open_due, rest_run, Going}
use Rattle.reader.specs.Full.{NotFull, Passes}
use Rattle.reader.specs.Terms.{Passed, node_due, node_run}
use Rattle.cursors.specs.declared.Cursor.{Cursor}
use Rattle.wire.proofs.Ones.{no_ones, some_ones}
use Rattle.frames.proofs.Frames.{low-within, frame_behind, frame_advanced}
use Rattle.reader.proofs.Full.{passes_none, passes_as, FullHere}
use Rattle.reader.proofs.FullSteps.{FullNode, bare-going, bare-same, bare-path, down_framed, down_going, down_same, down_path}
use Rattle.reader.proofs.Cursors.{going_onto, going-up, open_place, open_advanced, open_up, run-place, run_advanced, run_up}

pub record Turned (v t frames₀ : List ℕ) (c₀ : Cursor) (frames : List ℕ) (c : Cursor) : Type 0 where
  pub going : Going v t frames c
  pub same : (seen : List Occurrence) → rest_run (vocabulary_in v) v t frames seen c ≡ rest_run (vocabulary_in v) v t frames₀ seen c₀
  pub further : c₀.at ≤ c.at
  pub path : Passes (vocabulary_in v) (open_due v frames₀ c₀) (drop c₀.at t) (open_due v frames c) (drop c.at t)

pub turned_none : {v t frames : List ℕ} {c : Cursor} → Going v t frames c → Turned v t frames c frames c
turned_none g = record { going = g; same = λ seen. refl; further = omega arith; path = passes_none }

pub turned_as : {v t frames₀ frames : List ℕ} {c₀ c d : Cursor} → d ≡ c → Turned v t frames₀ c₀ frames c → Turned v t frames₀ c₀ frames d
turned_as {v} {t} {frames₀} {frames} {c₀} e x = subst (Turned v t frames₀ c₀ frames) (sym e) x

-- Where the loop is left a place is due, or nothing at all.
pub turned-ends : {v t frames₀ frames : List ℕ} {c₀ c : Cursor} → Turned v t frames₀ c₀ frames c → (0 < c.depth → 0 < run_in c.due) →
    (0 < c.depth → (31 < c.depth) ⊎ NotFull (vocabulary_in v) (get_or v (kinds_in c.due) 0) (drop c.at t)) → Passed v t frames₀ c₀ frames c
turned-ends x due stuck = record { going = x.going; same = x.same; further = x.further; due = due; path = x.path; stuck = stuck }

module _ {v t frames₀ frames : List ℕ} {c₀ c : Cursor} (x : Turned v t frames₀ c₀ frames c) (low : 0 < c.depth) where
  pub turned_up : run_in c.due ≡ 0 → written_in c.due ≡ 0 → Turned v t frames₀ c₀ frames (went_up (get_or frames (c.depth - 1) 0) c)
  turned_up over bare = record {
    going = going-up x.going low;
    same = λ seen. run_up (vocabulary_in v) v t frames seen c low over bare ∙ x.same seen;
    further = x.further;
    path = passes_as (open_up v frames c low over bare) refl x.path;
  }

  pub turned_advanced : {y : ℕ} → Advanced c.due y → run_in c.due ≡ 0 → Turned v t frames₀ c₀ frames (at_frame y c)
  turned_advanced {y} a over = record {
    going = going_onto x.going low (frame_advanced v c.due y x.going.due a over);
    same = λ seen. run_advanced (vocabulary_in v) v t frames seen c y x.going.due a over ∙ x.same seen;
    further = x.further;
    path = passes_as (open_advanced v frames c y x.going.due a over) refl x.path;
  }

-- ---- a full word

-- A turn at a place of the run where the word f stands, full; y is the frame behind the place.
pub record WordTurn (v t frames₀ frames : List ℕ) (c₀ c : Cursor) (n : ℕ) (offsets results maps : List ℕ) (f y : ℕ) : Type 0 where
  pub turned : Turned v t frames₀ c₀ frames c
  pub low : 0 < c.depth
  pub first : 0 < run_in c.due
  pub behind : Behind c.due y
  pub room : c.depth ≤ 31
  pub tables : Tables v n offsets results maps
  pub bytes : (i : ℕ) → get_or v i 0 < 256
  pub here : FullHere v t n c.at (get_or v (kinds_in c.due) 0) f

module _ {v t frames₀ frames : List ℕ} {c₀ c : Cursor} {n : ℕ} {offsets results maps : List ℕ} {f y : ℕ}
    (x : WordTurn v t frames₀ frames c₀ c n offsets results maps f y) where
  -- The word stands where the place was due.
  pub turn_node : FullNode v t frames (at_frame y c) n offsets results maps (get_or v (kinds_in c.due) 0) f
  turn_node = record {
    going = going_onto x.turned.going x.low (frame_behind v c.due y x.turned.going.due x.behind x.first);
    room = x.room;
    tables = x.tables;
    bytes = x.bytes;
    here = x.here;
  }

  place_same : (seen : List Occurrence) →
      node_run (vocabulary_in v) v t frames seen false (get_or v (kinds_in c.due) 0) (at_frame y c) ≡ rest_run (vocabulary_in v) v t frames₀ seen c₀
  place_same seen = sym (run-place (vocabulary_in v) v t frames seen c y x.behind x.first) ∙ x.turned.same seen

  place-path : Passes (vocabulary_in v) (open_due v frames₀ c₀) (drop c₀.at t) (node_due false (get_or v (kinds_in c.due) 0) c ∷ open_due v frames (at_frame y c)) (drop c.at t)
  place-path = passes_as (sym (open_place v frames c y x.behind x.first)) refl x.turned.path

  pub turned-bare : get_or maps f 0 ≡ 0 → Turned v t frames₀ c₀ frames (past_word true (at_frame y c))
  turned-bare e = record {
    going = bare-going turn_node;
    same = λ seen. bare-same turn_node e seen ∙ place_same seen;
    further = omega (arith, x.turned.further);
    path = bare-path turn_node e place-path;
  }

  pub turned_down : {z : ℕ} → (get_or maps f 0 ≡ 0 → ⊥) → WordFrame z (get_or maps f 0) (get_or maps f 0) (get_or offsets f 0) →
      Turned v t frames₀ c₀ (set frames c.depth y) (went_down z (past_word true (at_frame y c)))
  turned_down other made = record {
    going = down_going turn_node made;
    same = λ seen. down_same turn_node made other seen ∙ place_same seen;
    further = omega (arith, x.turned.further);
    path = down_path turn_node made place-path;
  }

-- ---- the measure

-- A bound on the turns for a frame: one to leave it, one for each place of its run, and two for each bit of its maps.
abbrev turns_at : ℕ → ℕ
turns_at x = 1 + 2 * written_in x + run_in x

abbrev turns_saved : List ℕ → ℕ → ℕ
turns_saved xs zero = 0
turns_saved xs (suc n) = turns_at (get_or xs n 0) + turns_saved xs n

-- Each byte that is left may bring a frame.
abbrev pub turns_left : List ℕ → List ℕ → Cursor → ℕ
turns_left t frames c = 1024 * (length t - c.at) + turns_at c.due + turns_saved frames c.depth

saved-same : (xs ys : List ℕ) (n : ℕ) → ((i : ℕ) → i < n → get_or xs i 0 ≡ get_or ys i 0) → turns_saved xs n ≡ turns_saved ys n
saved-same xs ys zero h = refl
saved-same xs ys (suc n) h = ap₂ (λ x m. turns_at x + m) (h n (omega arith)) (saved-same xs ys n (λ i p. h i (omega arith)))

saved-more : (xs : List ℕ) (n y : ℕ) → n < length xs → turns_saved (set xs n y) (n + 1) ≡ turns_at y + turns_saved xs n
saved-more xs n y h =
    ap (turns_saved (set xs n y)) (add-one n)
    ∙ ap₂ (λ x m. turns_at x + m) (get_or-set_same xs n y 0 h)
    (saved-same (set xs n y) xs n (λ i p. let apart : i ≢ n = (λ e. omega arith) in get_or-set_other xs n i y 0 apart))

module _ (t frames : List ℕ) (c : Cursor) where
  pub less_up : 0 < c.depth → turns_left t frames (went_up (get_or frames (c.depth - 1) 0) c) < turns_left t frames c
  less_up low =
      let e : c.depth ≡ suc (c.depth - 1) = omega arith in
      omega (arith, ap (turns_saved frames) e)

  pub less_advanced : {y : ℕ} → Advanced c.due y → run_in c.due ≡ 0 → (written_in c.due ≡ 0 → ⊥) →
      turns_left t frames (at_frame y c) < turns_left t frames c
  less_advanced a over other =
      let run = a.run in
      let written = a.written in
      let more : 0 < written_in c.due = omega (arith, other) in
      omega arith

module _ {v t frames₀ frames : List ℕ} {c₀ c : Cursor} {n : ℕ} {offsets results maps : List ℕ} {f y : ℕ}
    (x : WordTurn v t frames₀ frames c₀ c n offsets results maps f y) where
  pub less_bare : turns_left t frames (past_word true (at_frame y c)) < turns_left t frames c
  less_bare =
      let run = x.behind.run in
      let written = x.behind.written in
      let first = x.first in
      omega (arith, x.here.long)

  pub less_down : (z : ℕ) → WordFrame z (get_or maps f 0) (get_or maps f 0) (get_or offsets f 0) →
      turns_left t (set frames c.depth y) (went_down z (past_word true (at_frame y c))) < turns_left t frames c
  less_down z made =
      let short = (down_framed (turn_node x) made).fits.few in
      let run = x.behind.run in
      let written = x.behind.written in
      let few : written_in z < 256 = omega arith in
      let entries = x.turned.going.entries in
      let room = x.room in
      omega (arith, saved-more frames c.depth y (omega arith), x.here.long)

-- ---- what the calls in a turn ask for

pub less_as : (t frames : List ℕ) {c d : Cursor} {m : ℕ} → d ≡ c → turns_left t frames c < m → turns_left t frames d < m
less_as t frames {m = m} e h = subst (λ c. turns_left t frames c < m) (sym e) h

pub first-due : (x : ℕ) → (x % 256 ≡ 0 → ⊥) → 0 < run_in x
first-due x other = some_ones (x % 256) other

pub none_due : (x : ℕ) → x % 256 ≡ 0 → run_in x ≡ 0
none_due x none = no_ones (x % 256) none

pub advance_asks : {v : List ℕ} {x : ℕ} → FrameIn v x → (kinds_in x < 131072) × (places_in x < 256) × (written_in x % 2 ≤ places_in x % 2)
advance_asks {v} {x} h = let near = h.near in (omega arith, h.map, low-within v 0 x h)

pub pass_asks : {v : List ℕ} {x : ℕ} → FrameIn v x → 0 < run_in x → (0 < run_in x) × (kinds_in x < 131072) × (places_in x < 256)
pass_asks h first = let near = h.near in (first, omega arith, h.map)

pub kind-inside : {v : List ℕ} {x j : ℕ} → FrameIn v x → 0 < run_in x → j ≡ kinds_in x → j < length v
kind-inside h first e = omega (arith, h.inside)

pub word_asks : {v t frames : List ℕ} {c : Cursor} (d : Cursor) → Going v t frames c → d.at ≡ c.at → d.words ≡ c.words → c.at + (1 + map_bytes) ≤ length t →
    length t < 18446744073709551616 → (d.at + 2 < 18446744073709551616) × (d.words + 1 < 18446744073709551616)
word_asks d g e w long fits = let fewer = g.fewer in (omega arith, omega arith)
