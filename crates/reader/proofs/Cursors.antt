-- Cursors: how a reading goes on from a cursor, by what stands there.
--
--   gap-full, gap-new, gap-word    the first gap behind a node
--   going_onto, going-up, going_leaf, going-word, going_down    a cursor that moves is one that a reading comes to
--   open_place, open_advanced, open_up, open_down    what is due from a cursor on: at the first place of its frame, where the
--                   frame has no run or nothing left, and at the written places of a word
--   run-place, run_advanced, run_up    reading on there
--   run-bare, run_down      behind a word without written places, and with some
--   run-name, run-clash, run-fault, run-deep    at a name, and where something is wrong
--
use mathlib.Core.Path.{◌≡◌, refl, sym, ap, ap₂, ◌∙◌}
use mathlib.Core.Bool.{Bool, true, false, not, ◌||◌, cond}
use mathlib.Core.List.{List, [], ◌∷◌, ◌++◌}
use mathlib.Core.Option.{some, none}
use Prim.Native.Nat.{ℕ, zero, suc, ◌+◌, ◌-◌, ◌*◌, ◌<◌, ◌≤◌}
use native.Mathlib.Numerals.{add-one}
use native.Mathlib.Omega.{arith}
use lib.ListN.{length, get_or, drop, set, length-set, length-drop}
use lib.Seq.{drop-drop, get_or-set_same, get_or-set_other}
use Rattle.terms.specs.Lists.{or_else}
use Rattle.terms.specs.Term.{Occurrence}
use Rattle.wire.specs.Map.{map_bytes, Slot}
use Rattle.wire.specs.Vocabulary.{Vocabulary}
use Rattle.wire.specs.TermBytes.{most_bytes}
use Rattle.wire.specs.TermLines.{Due, due_at}
use Rattle.wire.specs.Parser.{Got, stop, Node, word_here, name_here, fault, node, at_limit, clash}
use Rattle.wire.specs.Scan.{every_written, Tally, with_word, with_leaf, Scanned, scan_node, run}
use Rattle.wire.proofs.Scan.{run-node, run-limit, same-tally}
use Rattle.frames.specs.Frames.{run_in, kinds_in, written_in, Behind, Advanced, FrameIn, frame_due, saved_due}
use Rattle.cursors.specs.Cursors.{unbroken, complete_in, gap_in, short_in, past_leaf, past_word, went_down, went_up, at_frame, Tells}
use Rattle.reader.specs.Cursors.{gap_left, tally_at, open_due, rest_run, Going}
use Rattle.reader.specs.Terms.{node_due, node_run}
use Rattle.cursors.specs.declared.Cursor.{Cursor}
use Rattle.cursors.proofs.Laws.{leaf_tells, word_tells}
use Rattle.frames.proofs.Frames.{due-behind, due_advanced, due-done, saved-last, all-last}
use Rattle.reader.proofs.Levels.{with_level, frame_reaches}
use Rattle.reader.proofs.Nodes.{seen_node, node_seen}

-- ---- what is told behind a node

-- A gap by the number of the n bytes from it on, m of them from the offset q on.
pub gap-told : (n q m : ℕ) (c : Cursor) {d : Cursor} {k : Bool} → Tells d false (cond (complete_in c) q (gap_in c)) k → q + m ≡ n → gap_left n d ≡ or_else (gap_left n c) (some m)
gap-told n q m c {d} x e =
    ap (λ b. cond b none (some (n - gap_in d))) x.complete ∙ ap (λ g. some (n - g)) (x.gap x.complete) ∙ go (complete_in c)
  where
    go : (b : Bool) → some (n - cond b q (gap_in c)) ≡ or_else (cond b none (some (n - gap_in c))) (some m)
    go true = ap some (let e : n - q ≡ m = omega arith in e)
    go false = refl

-- Behind a word at an offset and its map, m bytes before the end.
word_gap : (n m : ℕ) (c : Cursor) (full : Bool) →
    Tells (past_word full c) (cond full (complete_in c) false) (cond full (gap_in c) (cond (complete_in c) (c.at + 1) (gap_in c))) (short_in c || not full) →
    c.at + (1 + map_bytes) + m ≡ n → gap_left n (past_word full c) ≡ or_else (gap_left n c) (cond full none (some (map_bytes + m)))
word_gap n m c true x e = go (complete_in c)
  where
    go : (b : Bool) → cond b none (some (n - gap_in c)) ≡ or_else (cond b none (some (n - gap_in c))) none
    go true = refl
    go false = refl
word_gap n m c false x e = gap-told n (c.at + 1) (map_bytes + m) c x (omega arith)

-- Offsets in a term within the limits are far from `unbroken`.
pub far_leaf : {n at : ℕ} → n ≤ most_bytes → at ≤ n → 2 * at < unbroken
far_leaf most inside = omega arith

far_word : {n at : ℕ} → n ≤ most_bytes → at ≤ n → 2 * at + 3 < unbroken
far_word most inside = omega arith

-- ---- cursors that a reading comes to

module _ {v t frames : List ℕ} {c : Cursor} (g : Going v t frames c) where
  pub going_onto : {y : ℕ} → 0 < c.depth → FrameIn v y → Going v t frames (at_frame y c)
  going_onto low fits = record {
    due = fits;
    saved = g.saved;
    root = λ e. absurd (omega arith);
    root_saved = g.root_saved;
    shallow = g.shallow;
    reached = g.reached;
    inside = g.inside;
    fewer = g.fewer;
    near = g.near;
    entries = g.entries;
  }

  pub going-up : 0 < c.depth → Going v t frames (went_up (get_or frames (c.depth - 1) 0) c)
  going-up low = record {
    due = g.saved (c.depth - 1) (omega arith);
    saved = λ i p. g.saved i (omega arith);
    root = λ e. ap (λ i. get_or frames i 0) e ∙ g.root_saved low;
    root_saved = λ h. g.root_saved low;
    shallow = let shallow = g.shallow in omega arith;
    reached = let reached = g.reached in omega arith;
    inside = g.inside;
    fewer = g.fewer;
    near = g.near;
    entries = g.entries;
  }

  pub going_leaf : length t ≤ most_bytes → c.at < length t → Going v t frames (past_leaf c)
  going_leaf most long = record {
    due = g.due;
    saved = g.saved;
    root = g.root;
    root_saved = g.root_saved;
    shallow = g.shallow;
    reached = g.reached;
    inside = omega arith;
    fewer = let fewer = g.fewer in omega arith;
    near = (leaf_tells c g.near (far_leaf most g.inside)).sound;
    entries = g.entries;
  }

  pub going-word : (full : Bool) → (full ≡ false → length t ≤ most_bytes) → c.at + (1 + map_bytes) ≤ length t → Going v t frames (past_word full c)
  going-word full most long = record {
    due = g.due;
    saved = g.saved;
    root = g.root;
    root_saved = g.root_saved;
    shallow = g.shallow;
    reached = g.reached;
    inside = long;
    fewer = let fewer = g.fewer in omega arith;
    near = (word_tells c full g.near (λ e. far_word (most e) g.inside)).sound;
    entries = g.entries;
  }

  pub going_down : {z : ℕ} → c.depth < 32 → FrameIn v z → Going v t (set frames c.depth c.due) (went_down z c)
  going_down room fits = record {
    due = fits;
    saved = λ i p. all-last (FrameIn v) frames c.depth c.due (omega (arith, g.entries)) g.saved g.due i (omega arith);
    root = λ e. absurd (omega arith);
    root_saved = λ h. bottom c.depth refl;
    shallow = omega arith;
    reached = let reached = g.reached in omega arith;
    inside = g.inside;
    fewer = g.fewer;
    near = g.near;
    entries = length-set frames c.depth c.due ∙ g.entries;
  }
    where
      bottom : (d : ℕ) → c.depth ≡ d → get_or (set frames c.depth c.due) 0 0 ≡ 0
      bottom zero e = ap (λ d. get_or (set frames d c.due) 0 0) e ∙ get_or-set_same frames 0 c.due 0 (omega (arith, g.entries)) ∙ g.root e
      bottom (suc d) e = get_or-set_other frames c.depth 0 c.due 0 (λ z. omega arith) ∙ g.root_saved (omega arith)

-- ---- what is due from a cursor on

module _ (v frames : List ℕ) (c : Cursor) where
  -- The first place of the run is the node that is due.
  pub open_place : (y : ℕ) → Behind c.due y → 0 < run_in c.due →
      open_due v frames c ≡ node_due false (get_or v (kinds_in c.due) 0) c ∷ open_due v frames (at_frame y c)
  open_place y b first = ap (λ ds. ds ++ saved_due v frames c.depth) (due-behind v (suc c.depth) c.due y b first)

  pub open_advanced : (y : ℕ) → FrameIn v c.due → Advanced c.due y → run_in c.due ≡ 0 → open_due v frames (at_frame y c) ≡ open_due v frames c
  open_advanced y fits a over =
      ap (λ ds. ds ++ saved_due v frames c.depth) (sym (due_advanced v (suc c.depth) c.due fits y a over))

  pub open_up : 0 < c.depth → run_in c.due ≡ 0 → written_in c.due ≡ 0 →
      open_due v frames (went_up (get_or frames (c.depth - 1) 0) c) ≡ open_due v frames c
  open_up low over bare =
      let e : c.depth ≡ suc (c.depth - 1) = omega arith in
      ap (λ ds. ds ++ saved_due v frames (suc (c.depth - 1))) (sym (due-done v (suc c.depth) c.due over bare))
      ∙ ap (λ d. frame_due v (suc c.depth) c.due ++ saved_due v frames d) (sym e)

  pub open_down : (z : ℕ) → c.depth < length frames →
      open_due v (set frames c.depth c.due) (went_down z c) ≡ frame_due v (suc (suc c.depth)) z ++ open_due v frames c
  open_down z room =
      ap (λ d. frame_due v (suc d) z ++ saved_due v (set frames c.depth c.due) d) (add-one c.depth)
      ∙ ap (λ ds. frame_due v (suc (suc c.depth)) z ++ ds) (saved-last v frames c.depth c.due room)

-- ---- reading on

module _ (W : Vocabulary) (v t frames : List ℕ) (seen : List Occurrence) (c : Cursor) where
  -- The same reading, by what is due.
  abbrev reading_on : List Due → Got Scanned
  reading_on due = run W due seen (tally_at (length t) c) (drop c.at t)

  pub run-place : (y : ℕ) → Behind c.due y → 0 < run_in c.due →
      rest_run W v t frames seen c ≡ node_run W v t frames seen false (get_or v (kinds_in c.due) 0) (at_frame y c)
  run-place y b first = ap reading_on (open_place v frames c y b first)

  pub run_advanced : (y : ℕ) → FrameIn v c.due → Advanced c.due y → run_in c.due ≡ 0 →
      rest_run W v t frames seen (at_frame y c) ≡ rest_run W v t frames seen c
  run_advanced y fits a over = ap reading_on (open_advanced v frames c y fits a over)

  pub run_up : 0 < c.depth → run_in c.due ≡ 0 → written_in c.due ≡ 0 →
      rest_run W v t frames seen (went_up (get_or frames (c.depth - 1) 0) c) ≡ rest_run W v t frames seen c
  run_up low over bare = ap reading_on (open_up v frames c low over bare)

module _ (W : Vocabulary) (v t frames : List ℕ) (seen : List Occurrence) (k : ℕ) {c : Cursor} (g : Going v t frames c) where
  abbrev rest : List ℕ
  rest = drop c.at t

  abbrev told : Tally
  told = tally_at (length t) c

  pub run-deep : 31 < c.depth → node_run W v t frames seen false k c ≡ at_limit rest
  run-deep h = run-limit W (node_due false k c) (open_due v frames c) seen told rest (omega arith)

  -- The level is allowed, and x stands there, no names seen.
  module _ (room : c.depth ≤ 31) {x : Node} (stands : node W false k [] rest ≡ x) where
    run-stands : node_run W v t frames seen false k c ≡ scan_node (run W) (node_due false k c) (open_due v frames c) seen told (seen_node seen k rest x)
    run-stands =
        run-node W (node_due false k c) (open_due v frames c) seen told rest (omega arith)
        ∙ ap (scan_node (run W) (node_due false k c) (open_due v frames c) seen told) (node_seen W false k seen rest ∙ ap (seen_node seen k rest) stands)

  pub run-fault : c.depth ≤ 31 → (m : ℕ) (r : List ℕ) → node W false k [] rest ≡ fault m r → node_run W v t frames seen false k c ≡ stop m r
  run-fault room m r e = run-stands room e

  module _ (room : c.depth ≤ 31) (j : ℕ) (most : length t ≤ most_bytes) (long : c.at < length t) (stands : node W false k [] rest ≡ name_here j (drop 1 rest)) where
    pub run-clash : clash seen j k ≡ true → node_run W v t frames seen false k c ≡ stop 13 rest
    run-clash e =
        run-stands room stands
        ∙ ap (λ b. scan_node (run W) (node_due false k c) (open_due v frames c) seen told (cond b (fault 13 rest) (name_here j (drop 1 rest)))) e

    leaf_told : with_leaf (suc c.depth) (drop 1 rest) told ≡ tally_at (length t) (past_leaf c)
    leaf_told =
        let size : c.at + suc (length (drop 1 rest)) ≡ length t = omega (arith, length-drop c.at t, length-drop 1 rest) in
        let tells = leaf_tells c g.near (far_leaf most g.inside) in
        same-tally _ _ refl (omega (arith, g.reached)) (sym (gap-told (length t) c.at (suc (length (drop 1 rest))) c tells size)) (sym tells.short)

    pub run-name : clash seen j k ≡ false →
        rest_run W v t frames (seen ++ (record { name = j; sort = k } ∷ [])) (past_leaf c) ≡ node_run W v t frames seen false k c
    run-name e =
        ap₂ (run W (open_due v frames c) (seen ++ (record { name = j; sort = k } ∷ []))) (sym leaf_told) (sym (drop-drop 1 c.at t))
        ∙ sym (run-stands room stands
        ∙ ap (λ b. scan_node (run W) (node_due false k c) (open_due v frames c) seen told (cond b (fault 13 rest) (name_here j (drop 1 rest)))) e)

  module _ (room : c.depth ≤ 31) (f : ℕ) (ks : List Slot) (full : Bool) (most : full ≡ false → length t ≤ most_bytes) (whole : full ≡ every_written ks) (long : c.at + (1 + map_bytes) ≤ length t)
      (stands : node W false k [] rest ≡ word_here f ks (drop (1 + map_bytes) rest)) where
    word-told : with_word (suc c.depth) ks (drop (1 + map_bytes) rest) told ≡ tally_at (length t) (past_word full c)
    word-told =
        let size : c.at + (1 + map_bytes) + length (drop (1 + map_bytes) rest) ≡ length t = omega (arith, length-drop c.at t, length-drop (1 + map_bytes) rest) in
        let tells = word_tells c full g.near (λ e. far_word (most e) g.inside) in
        same-tally _ _ refl (omega (arith, g.reached))
        (ap (λ b. or_else (gap_left (length t) c) (cond b none (some (map_bytes + length (drop (1 + map_bytes) rest))))) (sym whole)
        ∙ sym (word_gap (length t) (length (drop (1 + map_bytes) rest)) c full tells size))
        (ap (λ b. short_in c || not b) (sym whole) ∙ sym tells.short)

    -- Its written places, and then what was due behind it.
    word-behind : run W (due_at (suc (suc c.depth)) ks ++ open_due v frames c) seen (tally_at (length t) (past_word full c)) (drop (c.at + (1 + map_bytes)) t) ≡ node_run W v t frames seen false k c
    word-behind =
        ap₂ (run W (due_at (suc (suc c.depth)) ks ++ open_due v frames c) seen) (sym word-told) (sym (drop-drop (1 + map_bytes) c.at t))
        ∙ sym (run-stands room stands)

    pub run-bare : due_at (suc (suc c.depth)) ks ≡ [] → rest_run W v t frames seen (past_word full c) ≡ node_run W v t frames seen false k c
    run-bare e =
        ap (λ ds. run W (ds ++ open_due v frames c) seen (tally_at (length t) (past_word full c)) (drop (c.at + (1 + map_bytes)) t)) (sym e)
        ∙ word-behind

    pub run_down : (z : ℕ) → FrameIn v z → 0 < run_in z + written_in z → ((level : ℕ) → frame_due v level z ≡ due_at level ks) →
        rest_run W v t (set frames c.depth c.due) seen (went_down z (past_word full c)) ≡ node_run W v t frames seen false k c
    run_down z fits first dues =
        let next : Tally = tally_at (length t) (past_word full c) in
        let l : List ℕ = drop (c.at + (1 + map_bytes)) t in
        let level : c.depth + 2 ≡ suc (suc c.depth) = omega arith in
        ap₂ (λ ds d. run W ds seen (with_level d next) l) (open_down v frames (past_word full c) z (omega (arith, g.entries))) level
        ∙ frame_reaches W v (suc (suc c.depth)) z fits first (open_due v frames c) seen next l
        ∙ ap (λ ds. run W (ds ++ open_due v frames c) seen next l) (dues (suc (suc c.depth)))
        ∙ word-behind
