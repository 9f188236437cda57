-- Values: a complete term, read over its first full word and those behind it.
--
--   open_none                 nothing is due at the root
--   Came                      what reading a value came to
--   came_bare, came_down      behind its first word, and at its places
--   came_passed               further on, over full words
--   came_ends                 at its end: the value, its bytes and its levels
--   came_stuck, value-stops   where no full word stands
--
use mathlib.Core.Path.{◌≡◌, refl, sym, ap, ap₂, subst, ◌∙◌}
use mathlib.Core.Bool.{true, false}
use mathlib.Core.List.{List, [], ◌∷◌, ◌++◌, append-nil}
use mathlib.Core.Logic.{◌⊎◌, inr}
use Prim.Native.Nat.{ℕ, suc, ◌+◌, ◌-◌, ◌<◌, ◌≤◌}
use native.Mathlib.Omega.{arith}
use lib.Bits.{bit_and}
use lib.ListN.{length, get_or, take, drop, replicate, length-drop, length-append}
use Rattle.terms.specs.Term.{Ground, gapp, Grounds, gnil, gcons, SortedG, as_term}
use Rattle.wire.specs.Vocabulary.{Vocabulary, InOrder, signature}
use Rattle.wire.specs.TermBytes.{encode_at, levels, most_levels}
use Rattle.wire.specs.TermLines.{Due}
use Rattle.wire.specs.Parser.{Got, got, stop, and_then}
use Rattle.wire.specs.Scan.{Scanned, run}
use Rattle.wire.specs.FillComputed.{read_values}
use Rattle.wire.proofs.Complete.{ground-good}
use Rattle.wire.proofs.GroundBytes.{sort-below}
use Rattle.wire.proofs.WriteRead.{read-term}
use Rattle.wire.proofs.Scan.{with_term, run-reads}
use Rattle.wire.proofs.FullTerms.{HasValues, Values, values-read}
use Rattle.signature.specs.Tables.{Tabled, vocabulary_in}
use Rattle.frames.specs.Frames.{run_in, kinds_in, WordFrame, frame_due, saved_due}
use Rattle.cursors.specs.Cursors.{started, past_word, went_down, at_frame}
use Rattle.reader.specs.Cursors.{tally_at, open_due, rest_run, Going}
use Rattle.reader.specs.Full.{NotFull, Passes}
use Rattle.reader.specs.Terms.{Passed, node_due}
use Rattle.reader.specs.Fillings.{value_due, FaultAt, ValueEnds, ValueStops}
use Rattle.cursors.specs.declared.Cursor.{Cursor}
use Rattle.wire.proofs.Ones.{no_ones}
use Rattle.frames.proofs.Frames.{passed_framed, due-done}
use Rattle.reader.proofs.Full.{passes_none, passes_as, passes_then, passes-all, passes-stop}
use Rattle.reader.proofs.FullSteps.{FullNode, bare-going, bare-same, bare-path, down_going, down_same, down_path}
use Rattle.reader.proofs.Cursors.{open_place}
use Rattle.reader.proofs.Faults.{fault-stops}

pub open_none : (v frames : List ℕ) (c : Cursor) → c.depth ≡ 0 → c.due ≡ 0 → open_due v frames c ≡ []
open_none v frames c e h =
    ap₂ (λ d x. frame_due v (suc d) x ++ saved_due v frames d) e h
    ∙ ap (λ ds. ds ++ saved_due v frames 0) (due-done v 1 0 (no_ones 0 refl) refl)

module _ (v b : List ℕ) (from k : ℕ) where
  abbrev W : Vocabulary
  W = vocabulary_in v

  abbrev begun : Cursor
  begun = started from

  -- What is told of the value, from its first byte on.
  abbrev value_run : List ℕ → Got Scanned
  value_run l = run W (value_due k ∷ []) [] (tally_at (length b) begun) l

  pub record Came (frames : List ℕ) (c : Cursor) : Type 0 where
    pub going : Going v b frames c
    pub path : Passes W (value_due k ∷ []) (drop from b) (open_due v frames c) (drop c.at b)
    pub same : rest_run W v b frames [] c ≡ value_run (drop from b)

abbrev deepest_in : Got Scanned → ℕ
deepest_in (got x r) = x.tally.deepest
deepest_in (stop n r) = 0

-- What is told of a value where it stands.
value-run : (v b : List ℕ) (from k : ℕ) → InOrder (vocabulary_in v) → (g : Ground) (r : List ℕ) → SortedG (signature (vocabulary_in v)) g k →
    levels (as_term g) ≤ most_levels → deepest_in (value_run v b from k (encode_at (vocabulary_in v) (as_term g) ++ r)) ≡ levels (as_term g)
value-run v b from k in_order (gapp f gs) r sorted shallow =
    let U : Vocabulary = vocabulary_in v in
    let g : Ground = gapp f gs in
    let good = ground-good U k g (sort-below U in_order g k sorted) sorted in
    let l : List ℕ = encode_at U (as_term g) ++ r in
    ap deepest_in
    (run-reads U most_levels (value_due k) [] [] (tally_at (length b) (begun v b from k)) l (omega arith) refl
    ∙ ap (λ x. and_then x (λ a r. run U [] a.seen (with_term U 1 (length l) (tally_at (length b) (begun v b from k)) a.term) r))
    (read-term U in_order (as_term g) most_levels false k [] r good.sorted.sorted good.named good.sorted.consistent shallow refl))
    ∙ omega arith

module _ {v b : List ℕ} {from k : ℕ} where
  -- ---- the first word

  module _ {n : ℕ} {offsets results maps : List ℕ} {f : ℕ} (x : FullNode v b (replicate 32 0) (started from) n offsets results maps k f) where
    begins : node_due false k (begun v b from k) ∷ open_due v (replicate 32 0) (begun v b from k) ≡ value_due k ∷ []
    begins = ap {B = List Due} (λ ds. value_due k ∷ ds) (open_none v (replicate 32 0) (begun v b from k) refl refl)

    first-path : Passes (vocabulary_in v) (value_due k ∷ []) (drop from b) (node_due false k (begun v b from k) ∷ open_due v (replicate 32 0) (begun v b from k)) (drop from b)
    first-path = passes_as begins refl passes_none

    first_run : run (vocabulary_in v) (node_due false k (begun v b from k) ∷ open_due v (replicate 32 0) (begun v b from k)) [] (tally_at (length b) (begun v b from k)) (drop from b) ≡ value_run v b from k (drop from b)
    first_run = ap (λ ds. run (vocabulary_in v) ds [] (tally_at (length b) (begun v b from k)) (drop from b)) begins

    pub came_bare : get_or maps f 0 ≡ 0 → Came v b from k (replicate 32 0) (past_word true (started from))
    came_bare e = record { going = bare-going x; path = bare-path x e first-path; same = bare-same x e [] ∙ first_run }

    pub came_down : {z : ℕ} → (get_or maps f 0 ≡ 0 → ⊥) → WordFrame z (get_or maps f 0) (get_or maps f 0) (get_or offsets f 0) →
        Came v b from k (replicate 32 0) (went_down z (past_word true (started from)))
    came_down other made = record { going = down_going x made; path = down_path x made first-path; same = down_same x made other [] ∙ first_run }

  -- ---- further on

  pub came_as : {frames : List ℕ} {c d : Cursor} → d ≡ c → Came v b from k frames c → Came v b from k frames d
  came_as {frames} e x = subst (Came v b from k frames) (sym e) x

  pub came_passed : {frames frames' : List ℕ} {c c' : Cursor} → Came v b from k frames c → Passed v b frames c frames' c' → Came v b from k frames' c'
  came_passed x p = record { going = p.going; path = passes_then x.path p.path; same = p.same [] ∙ x.same }

  -- ---- the end

  module _ (in_order : InOrder (vocabulary_in v)) where
    module _ {frames : List ℕ} {c : Cursor} (x : Came v b from k frames c) (inside : from ≤ length b) (e : c.depth ≡ 0) where
      none_due : open_due v frames c ≡ []
      none_due = open_none v frames c e (x.going.root e)

      told : deepest_in (value_run v b from k (drop from b)) ≡ c.deepest
      told = ap deepest_in (sym x.same ∙ ap (λ ds. run (vocabulary_in v) ds [] (tally_at (length b) c) (drop c.at b)) none_due)

      ended : (gs : Grounds) → read_values (vocabulary_in v) (value_due k ∷ []) (drop from b) ≡ got gs (drop c.at b) →
          HasValues (vocabulary_in v) (value_due k ∷ []) (drop from b) gs (drop c.at b) → ValueEnds v b from k c.at c.deepest
      ended gnil same h = absurd h.sorted
      ended (gcons g (gcons g' gs)) same h = absurd h.sorted.1
      ended (gcons g gnil) same h =
          let U : Vocabulary = vocabulary_in v in
          let bytes : drop from b ≡ encode_at U (as_term g) ++ drop c.at b = h.bytes ∙ ap (λ l. l ++ drop c.at b) (append-nil (encode_at U (as_term g))) in
          let shallow : levels (as_term g) ≤ most_levels = let fits = h.fits.0 in omega arith in
          let reached : c.deepest ≡ levels (as_term g) =
          sym told ∙ ap (λ l. deepest_in (value_run v b from k l)) bytes ∙ value-run v b from k in_order g (drop c.at b) h.sorted.0 shallow in
          let within = x.going.inside in
          record {
            value = g;
            same = same;
            sorted = h.sorted.0;
            bytes = bytes;
            inside = within;
            span = omega (arith, ap length bytes, length-append (encode_at U (as_term g)) (drop c.at b), length-drop from b, length-drop c.at b);
            reached = reached;
            shallow = omega arith;
          }

      pub came_ends : ValueEnds v b from k c.at c.deepest
      came_ends =
          let p = passes_as (sym none_due) refl x.path in
          let same = passes-all p in
          ended (p.built gnil) same
          (subst (Values (vocabulary_in v) (value_due k ∷ []) (drop from b)) same (values-read (vocabulary_in v) in_order (value_due k ∷ []) (drop from b)))

  -- ---- where no full word stands

  module _ {n : ℕ} {results : List ℕ} (tabled : Tabled (vocabulary_in v) n results) {q : ℕ} where
    pub value-stops : FaultAt (take (length b - from) (drop from b)) from 0 k n results q → from ≤ length b → NotFull (vocabulary_in v) k (drop from b) → ValueStops v b from k q
    value-stops f inside none =
        let r = fault-stops b f inside (vocabulary_in v) tabled (inr none) [] in
        record { same = r.0; inside = r.1 }

    pub came_stuck : {frames : List ℕ} {c : Cursor} → Came v b from k frames c → 0 < run_in c.due →
        (31 < c.depth) ⊎ NotFull (vocabulary_in v) (get_or v (kinds_in c.due) 0) (drop c.at b) →
        FaultAt (take (length b - c.at) (drop c.at b)) c.at c.depth (get_or v (kinds_in c.due) 0) n results q → ValueStops v b from k q
    came_stuck {frames} {c} x first why f =
        let near = x.going.due.near in
        let y : ℕ = bit_and c.due (c.due - 1) + 256 in
        let due = open_place v frames c y (passed_framed c.due first (omega arith)) first in
        let r = fault-stops b f x.going.inside (vocabulary_in v) tabled why (open_due v frames (at_frame y c)) in
        record { same = passes-stop (passes_as (sym due) refl x.path) r.0; inside = r.1 }
