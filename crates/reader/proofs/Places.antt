-- Places: how the loop over the nodes of a term goes on, and the root.
--
--   AtNode, Onward            what holds before a node and behind it: the reading from there on gives what it gave at first
--   node-first, node-under, node-follows, node-refused    before a node
--   onward-passed, onward-ends, onward-node               behind it
--   node_less                 the measure
--   whole-ends, whole_tested  whether 255 stands at an offset
--   root-begins, root-whole, root-at, root-read    a term from its first byte on
--
use mathlib.Core.Path.{◌≡◌, refl, sym, ap, ap₂, subst, ◌∙◌}
use mathlib.Core.Bool.{false, true≢false, false≢true}
use mathlib.Core.Logic.{inl, inr}
use mathlib.Core.List.{List, [], ◌∷◌}
use mathlib.Core.Option.{some}
use Prim.Native.Nat.{ℕ, suc, ◌-◌, ◌<◌, ◌≤◌}
use native.Mathlib.Nat.{add-zero}
use native.Mathlib.Omega.{arith}
use lib.Count
use lib.Dec.{eqb}
use lib.ListN.{length, get_or, drop, replicate, length-drop, get_or-eq_default}
use lib.Seq.{get_or-drop, drop-drop}
use borrow.Author.Tests.{eqb-true, eqb-false, eq-eqb}
use Rattle.terms.specs.Term.{Occurrence}
use Rattle.wire.specs.Vocabulary.{Vocabulary}
use Rattle.wire.specs.TermBytes.{most_bytes}
use Rattle.wire.specs.Parser.{Got, got, Node, word_here, name_here, whole_here, fault, node}
use Rattle.wire.specs.Scan.{Scanned, scan_node, run, root_due, no_tally, with_leaf}
use Rattle.wire.proofs.Scan.{run-node, same-tally}
use Rattle.signature.specs.Tables.{Tables, vocabulary_in}
use Rattle.frames.specs.Frames.{run_in, kinds_in, Behind}
use Rattle.reader.specs.Names.{Named}
use Rattle.cursors.specs.Cursors.{unbroken, complete_in, gap_in, started, past_leaf, moved, at_frame, Sound, Tells}
use Rattle.reader.specs.Cursors.{gap_left, tally_at, open_due, Going}
use Rattle.reader.specs.Terms.{Passed, node_run, Leads, Refuses, Follows, Under, Ends, Answers, NodesRead, WholeAt}
use Rattle.reader.specs.declared.refusal.TermRefusal.{TermRefusal}
use Rattle.cursors.specs.declared.Cursor.{Cursor}
use Rattle.cursors.proofs.Laws.{leaf_tells}
use Rattle.std.specs.Prelude.{Result, Ok}
use Rattle.frames.proofs.Frames.{frame_behind, frame_none}
use Rattle.reader.proofs.Nodes.{node-root, node-whole}
use Rattle.reader.proofs.Cursors.{gap-told, far_leaf, going_onto, run-place}

-- What the whole reading gives, by the names seen before it.
abbrev Whole : Type 0
Whole = List Occurrence → Got Scanned

-- What is due from the cursor on leads there.
pub record Onward (v t names₀ : List ℕ) (whole : Whole) (names frames : List ℕ) (c : Cursor) : Type 0 where
  pub going : Going v t frames c
  pub entries : length names ≡ 64
  pub leads : (seen : List Occurrence) → Named names₀ seen → Leads v t names frames c (whole seen)

-- The node of kind k that is due at the cursor, and what is due behind it, lead there.
pub record AtNode (v t names₀ : List ℕ) (whole : Whole) (names frames : List ℕ) (c : Cursor) (k : ℕ) : Type 0 where
  pub going : Going v t frames c
  pub entries : length names ≡ 64
  pub small : k < 256
  pub seen : (before : List Occurrence) → Named names₀ before → List Occurrence
  pub named : (before : List Occurrence) (n : Named names₀ before) → Named names (seen before n)
  pub same : (before : List Occurrence) (n : Named names₀ before) → node_run (vocabulary_in v) v t frames (seen before n) false k c ≡ whole before

pub node-first : {v t names frames : List ℕ} {c : Cursor} (k : ℕ) → k < 256 → length names ≡ 64 → Going v t frames c →
    AtNode v t names (λ seen. node_run (vocabulary_in v) v t frames seen false k c) names frames c k
node-first k small size g = record { going = g; entries = size; small = small; seen = λ before n. before; named = λ before n. n; same = λ before n. refl }

module _ {v t names₀ : List ℕ} {whole : Whole} {names frames : List ℕ} {c : Cursor} {k : ℕ} (x : AtNode v t names₀ whole names frames c k) where
  pub node-under : {n : ℕ} {offsets results maps : List ℕ} → length t ≤ most_bytes → Tables v n offsets results maps → ((i : ℕ) → get_or v i 0 < 256) → Under v t n offsets results maps frames c
  node-under most tables bytes = record { most = most; tables = tables; bytes = bytes; going = x.going }

  pub node-follows : {c' : Cursor} {names' frames' : List ℕ} → Follows v t k c names frames names' frames' c' → Onward v t names₀ whole names' frames' c'
  node-follows f = record {
    going = f.going;
    entries = f.entries ∙ x.entries;
    leads = λ before n.
        let m = f.leads (x.seen before n) (x.named before n) in
        record { seen = m.seen; named = m.named; same = m.same ∙ x.same before n };
  }

  pub node-refused : {why : TermRefusal} → ((seen : List Occurrence) → Named names seen → Refuses t why (node_run (vocabulary_in v) v t frames seen false k c)) →
      (before : List Occurrence) → Named names₀ before → Refuses t why (whole before)
  node-refused f before n =
      let m = f (x.seen before n) (x.named before n) in
      record { inside = m.inside; same = m.same ∙ x.same before n }

-- The gap stands among the bytes that are read.
sound-near : {n : ℕ} (c : Cursor) → Sound c → c.at ≤ n → complete_in c ≡ false → gap_in c ≤ n
sound-near c (inl e) inside h = absurd (true≢false (sym (eq-eqb c.gaps unbroken e) ∙ h))
sound-near c (inr low) inside h = omega arith

module _ {v t names₀ : List ℕ} {whole : Whole} {names frames : List ℕ} {c : Cursor} (x : Onward v t names₀ whole names frames c) where
  abbrev W : Vocabulary
  W = vocabulary_in v

  pub onward-passed : {frames' : List ℕ} {c' : Cursor} → Passed v t frames c frames' c' → Onward v t names₀ whole names frames' c'
  onward-passed p = record {
    going = p.going;
    entries = x.entries;
    leads = λ seen named.
        let l = x.leads seen named in
        record { seen = l.seen; named = l.named; same = p.same l.seen ∙ l.same };
  }

  -- Nothing is due any more.
  pub onward-ends : c.depth ≡ 0 → (seen : List Occurrence) → Named names₀ seen → Answers t names (whole seen) (Ok c)
  unfolding Count.ones
  onward-ends e seen named =
      let l = x.leads seen named in
      record {
        seen = l.seen;
        named = l.named;
        same =
            ap₂ (λ d y. run W (open_due v frames (moved c.deepest d y c))
            l.seen (tally_at (length t) c) (drop c.at t)) (sym e) (sym (x.going.root e))
            ∙ l.same;
        inside = x.going.inside;
        near = sound-near c x.going.near x.going.inside;
      }

  -- The first place of the frame is the next node; d is the cursor behind it.
  pub onward-node : {y j : ℕ} {d : Cursor} → 0 < c.depth → 0 < run_in c.due → Behind c.due y → d ≡ at_frame y c → j ≡ kinds_in c.due → get_or v j 0 < 256 →
      AtNode v t names₀ whole names frames d (get_or v j 0)
  onward-node {y} {j} {d} low first behind e h small = record {
    going = subst (Going v t frames) (sym e) (going_onto x.going low (frame_behind v c.due y x.going.due behind first));
    entries = x.entries;
    small = small;
    seen = λ before n. (x.leads before n).seen;
    named = λ before n. (x.leads before n).named;
    same = λ before n.
        ap₂ (λ k d. node_run W v t frames (x.leads before n).seen false k d) (ap (λ j. get_or v j 0) h) e
        ∙ sym (run-place W v t frames (x.leads before n).seen c y behind first)
        ∙ (x.leads before n).same;
  }

pub positive : (d : ℕ) → (d ≡ 0 → ⊥) → 0 < d
positive d other = let some : 0 < d = omega (arith, other) in some

-- A node that is read and full words that are passed leave fewer bytes.
pub node_less : (t : List ℕ) {v names frames names' frames' frames'' : List ℕ} {k : ℕ} {c c' c'' : Cursor} (y : ℕ) (d : Cursor) → Follows v t k c names frames names' frames' c' →
    Passed v t frames' c' frames'' c'' → d ≡ at_frame y c'' → length t - d.at < length t - c.at
node_less t y d f p e =
    let further = f.further in
    let beyond = p.further in
    let inside = p.going.inside in
    omega (arith, ap (λ (d : Cursor). d.at) e)

pub ends_as : {t names : List ℕ} {g : Got Scanned} {c d : Cursor} → d ≡ c → Ends t names c g → Ends t names d g
ends_as {t} {names} {g} e x = subst (λ c. Ends t names c g) (sym e) x

-- ---- the root

whole-first : (t : List ℕ) (at : ℕ) → get_or (drop at t) 0 0 ≡ get_or t at 0
whole-first t at = get_or-drop at t 0 0 ∙ ap (λ n. get_or t n 0) (add-zero at)

pub whole-ends : (t : List ℕ) (at : ℕ) → length t ≤ at → WholeAt t at false
whole-ends t at h = record {
  there = λ e. absurd (false≢true e);
  other = λ e b. let z : ◌≡◌ {A = ℕ} 0 255 = sym (get_or-eq_default t 0 h) ∙ sym (whole-first t at) ∙ b in omega arith;
}

pub whole_tested : (t : List ℕ) (at : ℕ) → at < length t → WholeAt t at (eqb (get_or t at 0) 255)
whole_tested t at h = record {
  there = λ e. (h, eqb-true (get_or t at 0) 255 e);
  other = λ e b. eqb-false (get_or t at 0) 255 e (sym (whole-first t at) ∙ b);
}

module _ (v t : List ℕ) (from k : ℕ) (inside : from ≤ length t) where
  abbrev U : Vocabulary
  U = vocabulary_in v

  pub root-going : Going v t (replicate 32 0) (started from)
  root-going = record {
    due = frame_none v;
    saved = λ i p. absurd (omega arith);
    root = λ e. refl;
    root_saved = λ h. absurd (omega arith);
    shallow = omega arith;
    reached = omega arith;
    inside = inside;
    fewer = omega arith;
    near = inl refl;
    entries = refl;
  }

  -- Below the root and at it a node that is no 255 leads to the same.
  root-node : (seen : List Occurrence) (x : Node) →
      scan_node (run U) (root_due k) [] seen no_tally x ≡
      scan_node (run U) (record { sort = k; level = 1; root = false }) [] seen (tally_at (length t) (started from)) x
  root-node seen (word_here f ks r) = refl
  root-node seen (name_here j r) = refl
  root-node seen (whole_here r) = refl
  root-node seen (fault j r) = refl

  pub root-begins : (get_or (drop from t) 0 0 ≡ 255 → ⊥) → (seen : List Occurrence) →
      node_run U v t (replicate 32 0) seen false k (started from) ≡ run U (root_due k ∷ []) seen no_tally (drop from t)
  unfolding Count.ones
  root-begins other seen =
      run-node U (record { sort = k; level = 1; root = false }) [] seen (tally_at (length t) (started from)) (drop from t) (omega arith)
      ∙ sym (root-node seen (node U false k seen (drop from t)))
      ∙ ap (scan_node (run U) (root_due k) [] seen no_tally) (sym (node-root U k seen (drop from t) other))
      ∙ sym (run-node U (root_due k) [] seen no_tally (drop from t) (omega arith))

  pub root-whole : {names : List ℕ} → length t ≤ most_bytes → from < length t → get_or t from 0 ≡ 255 → length U.words ≤ 96 → (seen : List Occurrence) → Named names seen →
      Ends t names (past_leaf (started from)) (run U (root_due k ∷ []) seen no_tally (drop from t))
  root-whole {names} most long e few seen named = record {
    seen = seen;
    named = named;
    same =
        ap₂ (λ y l. got (record { tally = y; seen = seen }) l)
        (same-tally (tally_at (length t) (past_leaf (started from))) (with_leaf 1 (drop 1 (drop from t)) no_tally) refl refl leaf_gap tells.short)
        (sym (drop-drop 1 from t))
        ∙ ap (scan_node (run U) (root_due k) [] seen no_tally) (sym (node-whole U k seen (drop from t) (omega (arith, length-drop from t)) (whole-first t from ∙ e) few))
        ∙ sym (run-node U (root_due k) [] seen no_tally (drop from t) (omega arith));
    inside = omega arith;
    near = λ h. let gap = tells.gap h in omega arith;
  }
    where
      tells : Tells (past_leaf (started from)) false from false
      tells = leaf_tells (started from) (inl refl) (far_leaf most inside)

      leaf_gap : gap_left (length t) (past_leaf (started from)) ≡ some (suc (length (drop 1 (drop from t))))
      leaf_gap =
          gap-told (length t) from (suc (length (drop 1 (drop from t)))) (started from) tells
          (omega (arith, length-drop from t, length-drop 1 (drop from t)))

  module _ {d : Cursor} (e : d ≡ started from) where
    pub root-at : Going v t (replicate 32 0) d
    root-at = subst (Going v t (replicate 32 0)) (sym e) root-going

    pub root-read : (names names' : List ℕ) (r : Result Cursor TermRefusal) → (get_or (drop from t) 0 0 ≡ 255 → ⊥) → NodesRead v t names d k names' r →
        (seen : List Occurrence) → Named names seen → Answers t names' (run U (root_due k ∷ []) seen no_tally (drop from t)) r
    root-read names names' r other h seen named =
        subst (λ g. Answers t names' g r) (ap (node_run U v t (replicate 32 0) seen false k) e ∙ root-begins other seen) (h seen named)
