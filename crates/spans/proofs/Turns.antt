-- Turns: the turns of the walk over bytes that nobody has read yet.
--
--   front-begins                                   from the root on
--   front-words                                    words that both share
--   words-pattern, words-situation, pattern-fits, situation-fits    .. end in both
--   front-named, front-covered                     a name, whose part is noted then
--   front_ends                                     the end of both: the situation is the pattern, with the parts in place of its names
--   front_pauses, front-blank          where the walk stops, it can go on later
--
use mathlib.Core.Path.{◌≡◌, refl, sym, ap, ap₂, ◌∙◌, subst, subst₂}
use mathlib.Core.Bool.{cond}
use mathlib.Core.List.{List, [], ◌∷◌, ◌++◌, append-nil}
use Prim.Native.Nat.{ℕ, zero, suc, ◌+◌, ◌-◌, ◌*◌, ◌/◌, ◌<◌, ◌≤◌}
use native.Mathlib.Decide.{ℕ_discrete}
use native.Mathlib.Numerals.{add-one}
use native.Mathlib.Omega.{arith}
use mir.Syntax.{w64}
use mir.Val.{Fits}
use lib.ListN.{length, get_or, take, drop, set, replicate, length-set, length-replicate, get_or-replicate, take-append-drop, drop_of_length-le}
use lib.Seq.{drop-cons, drop-drop}
use borrow.Author.Tests.{lt-ltb, le-ltb}
use Rattle.wire.specs.Map.{map_bytes}
use Rattle.wire.specs.Splicing.{spliced, part_in, Agrees}
use Rattle.runs.specs.Alike.{Alike}
use Rattle.runs.specs.Shared.{SharedWords}
use Rattle.spans.specs.Frames.{map_at}
use Rattle.spans.specs.Spans.{with_span, Covered}
use Rattle.spans.specs.Front.{PartsInside, PartsGiven, AtFront, PausedAt}
use Rattle.spans.proofs.Offsets.{offset-fits}
use Rattle.spans.proofs.Noted.{set-length, set-offset, set_elsewhere}
use Rattle.spans.proofs.Begin.{going-begins}
use Rattle.spans.proofs.Going.{going-full, going-named}

-- ---- what is spliced, by the byte that stands first

spliced-node : (F : ℕ → List ℕ) (b m : ℕ) (l : List ℕ) → b < 128 → spliced F (b ∷ m ∷ l) ≡ b ∷ m ∷ spliced F l
spliced-node F b m l low = ap (λ t. cond t (b ∷ m ∷ spliced F l) (F (b - 128) ++ spliced F (m ∷ l))) (lt-ltb b 128 low)

spliced-name : (F : ℕ → List ℕ) (b : ℕ) (l : List ℕ) → 128 ≤ b → spliced F (b ∷ l) ≡ F (b - 128) ++ spliced F l
spliced-name F b [] high = ap (λ t. cond t (b ∷ []) (F (b - 128))) (le-ltb b 128 high) ∙ sym (append-nil (F (b - 128)))
spliced-name F b (m ∷ l) high = ap (λ t. cond t (b ∷ m ∷ spliced F l) (F (b - 128) ++ spliced F (m ∷ l))) (le-ltb b 128 high)

one_off : (l : List ℕ) (i : ℕ) → i < length l → drop i l ≡ get_or l i 0 ∷ drop (i + 1) l
one_off l i h = drop-cons l i 0 h ∙ ap (λ n. get_or l i 0 ∷ drop n l) (sym (add-one i))

node_off : (l : List ℕ) (i : ℕ) → i + (1 + map_bytes) ≤ length l → drop i l ≡ get_or l i 0 ∷ map_at l i ∷ drop (i + (1 + map_bytes)) l
node_off l i h =
    one_off l i (omega arith)
    ∙ ap (λ r. get_or l i 0 ∷ r) (one_off l (i + 1) (omega arith) ∙ ap (λ n. map_at l i ∷ drop n l) (let e : i + 1 + 1 ≡ i + (1 + map_bytes) = omega arith in e))

-- ---- the beginning

pub front-begins : (p s spans : List ℕ) → Alike p s → spans ≡ replicate 128 0 → AtFront p s spans 1 1
front-begins p s spans alike blank = record {
  alike = alike;
  parts = record {
    entries = ap length blank ∙ length-replicate {A = ℕ} 128 0;
    inside = λ n l. omega (arith, at (2 * n) (omega arith), at (2 * n + 1) (omega arith));
  };
  inside_pattern = let long = alike.pattern.least in omega arith;
  inside_situation = let long = alike.situation.least in omega arith;
  so_far = λ F given e. e;
  going = going-begins p s spans blank alike.word;
}
  where
    at : (k : ℕ) → k < 128 → get_or spans k 0 ≡ 0
    at k l = ap (λ t. get_or t k 0) blank ∙ get_or-replicate 128 k 0 0 l

-- ---- words that both share

module _ {p s spans : List ℕ} where
  front-node : {i j : ℕ} → AtFront p s spans i j → i + (1 + map_bytes) ≤ length p → j + (1 + map_bytes) ≤ length s → get_or p i 0 < 128 →
      get_or p i 0 ≡ get_or s j 0 → map_at p i ≡ map_at s j → AtFront p s spans (i + (1 + map_bytes)) (j + (1 + map_bytes))
  front-node {i} {j} c inside inside2 low same map = record {
    alike = c.alike;
    parts = c.parts;
    inside_pattern = inside;
    inside_situation = inside2;
    so_far = λ F given e. c.so_far F given (
        node_off s j inside2
        ∙ ap₂ (λ b m. b ∷ m ∷ drop (j + (1 + map_bytes)) s) (sym same) (sym map)
        ∙ ap (λ r. get_or p i 0 ∷ map_at p i ∷ r) e
        ∙ sym (ap (spliced F) (node_off p i inside) ∙ spliced-node F (get_or p i 0) (map_at p i) (drop (i + (1 + map_bytes)) p) low)
        );
    going = going-full c.going (omega arith) low same map;
  }

  module _ {i j n : ℕ} (c : AtFront p s spans i j) (h : SharedWords p s i j n) where
    pub words-pattern : i + n ≤ length p
    words-pattern = h.inside_first c.inside_pattern

    pub words-situation : j + n ≤ length s
    words-situation = h.inside_second c.inside_situation

    pub pattern-fits : Fits w64 (i + n)
    pattern-fits = offset-fits words-pattern c.alike.pattern.most

    pub situation-fits : Fits w64 (j + n)
    situation-fits = offset-fits words-situation c.alike.situation.most

    pub front-words : AtFront p s spans (i + n) (j + n)
    front-words = subst (λ n. AtFront p s spans (i + n) (j + n)) (sym h.whole) (go h.nodes (omega arith))
      where
        go : (k : ℕ) → k ≤ h.nodes → AtFront p s spans (i + (1 + map_bytes) * k) (j + (1 + map_bytes) * k)
        go zero l = subst₂ (AtFront p s spans) (start i) (start j) c
          where
            start : (b : ℕ) → b ≡ b + (1 + map_bytes) * 0
            start b = omega arith
        go (suc k) l =
            let node = h.each k (omega arith) in
            subst₂ (AtFront p s spans) (further i k) (further j k)
            (front-node (go k (omega arith)) (omega (arith, h.whole, words-pattern)) (omega (arith, h.whole, words-situation)) node.word node.same
            node.map)
          where
            further : (b k : ℕ) → b + (1 + map_bytes) * k + (1 + map_bytes) ≡ b + (1 + map_bytes) * suc k
            further b k = omega arith

-- ---- a name

module _ {p s spans after : List ℕ} {i j r : ℕ} (c : AtFront p s spans i j) (some : i < length p) (high : 128 ≤ get_or p i 0) (low : get_or p i 0 - 128 < 64)
    (covered : Covered s spans after (get_or p i 0 - 128) j r) where
  abbrev name : ℕ
  name = get_or p i 0 - 128

  -- What the spans have to be then.
  record Kept : Type 0 where
    parts : PartsInside s after
    later : j ≤ r
    given : (F : ℕ → List ℕ) → PartsGiven s after F → PartsGiven s spans F × (F name ≡ take (r - j) (drop j s))

  module _ (none : get_or spans (2 * name + 1) 0 ≡ 0) where
    abbrev new : List ℕ
    new = with_span spans name j (r - j)

    noted : after ≡ new
    noted = (covered.noting none).1

    elsewhere : (n k : ℕ) → (n ≡ name → ⊥) → k < 2 → get_or new (2 * n + k) 0 ≡ get_or spans (2 * n + k) 0
    elsewhere n k d l = set_elsewhere spans name j (r - j) c.parts.entries low (2 * n + k) (λ e. d (omega arith)) (λ e. d (omega arith))

    offset-kept : (n : ℕ) → (n ≡ name → ⊥) → get_or new (2 * n) 0 ≡ get_or spans (2 * n) 0
    offset-kept n d = subst (λ k. get_or new k 0 ≡ get_or spans k 0) (let e : 2 * n + 0 ≡ 2 * n = omega arith in e) (elsewhere n 0 d (omega arith))

    inside-new : (n : ℕ) → n < 64 → Dec (n ≡ name) → get_or new (2 * n) 0 + get_or new (2 * n + 1) 0 ≤ length s
    inside-new n l (yes e) =
        subst (λ n. get_or new (2 * n) 0 + get_or new (2 * n + 1) 0 ≤ length s) (sym e)
        (omega (
          arith,
          set-offset spans name j (r - j) c.parts.entries low,
          set-length spans name j (r - j) c.parts.entries low,
          (covered.noting none).0,
          covered.inside,
        ))
    inside-new n l (no d) = omega (arith, offset-kept n d, elsewhere n 1 d (omega arith), c.parts.inside n l)

    kept_new : Kept
    kept_new = record {
      parts = subst (PartsInside s) (sym noted) (record {
        entries = length-set (set spans (2 * name) j) (2 * name + 1) (r - j) ∙ length-set spans (2 * name) j ∙ c.parts.entries;
        inside = λ n l. inside-new n l (ℕ_discrete n name);
      });
      later = omega (arith, (covered.noting none).0);
      given = λ F given. told F (subst (λ t. PartsGiven s t F) noted given);
    }
      where
        told : (F : ℕ → List ℕ) → PartsGiven s new F → PartsGiven s spans F × (F name ≡ take (r - j) (drop j s))
        told F given = (
          λ n d.
              let other : n ≡ name → ⊥ = (λ e. d (ap (λ n. get_or spans (2 * n + 1) 0) e ∙ none)) in
              given n (λ e. d (sym (elsewhere n 1 other (omega arith)) ∙ e))
              ∙ ap₂ (λ o l. take l (drop o s)) (offset-kept n other) (elsewhere n 1 other (omega arith)),
          given name (λ e. omega (arith, set-length spans name j (r - j) c.parts.entries low, (covered.noting none).0))
              ∙ ap₂ (λ o l. take l (drop o s)) (set-offset spans name j (r - j) c.parts.entries low) (set-length spans name j (r - j) c.parts.entries low),
        )

  kept_again : (get_or spans (2 * name + 1) 0 ≡ 0 → ⊥) → Kept
  kept_again again =
      let same = covered.kept again in
      let stands = covered.yes again in
      record {
        parts = subst (PartsInside s) (sym same) c.parts;
        later = omega (arith, stands.0);
        given = λ F given.
            let given2 = subst (λ t. PartsGiven s t F) same given in (
              given2,
              given2 name again ∙ stands.1 ∙ ap (λ n. take n (drop j s)) (let e : get_or spans (2 * name + 1) 0 ≡ r - j = omega (arith, stands.0) in e),
            );
      }

  kept : Kept
  kept = go (ℕ_discrete (get_or spans (2 * name + 1) 0) 0)
    where
      go : Dec (get_or spans (2 * name + 1) 0 ≡ 0) → Kept
      go (yes e) = kept_new e
      go (no d) = kept_again d

  pub front-named : AtFront p s after (i + 1) r
  front-named = record {
    alike = c.alike;
    parts = kept.parts;
    inside_pattern = omega arith;
    inside_situation = covered.inside;
    so_far = λ F given e.
        let told = kept.given F given in
        c.so_far F told.0 (
        sym (take-append-drop (r - j) (drop j s))
        ∙ ap₂ {C = List ℕ} (λ x y. x ++ y) (sym told.1) (drop-drop (r - j) j s ∙ ap (λ n. drop n s) (let n : j + (r - j) ≡ r = omega (arith, kept.later) in n) ∙ e)
        ∙ sym (ap (spliced F) (one_off p i some) ∙ spliced-name F (get_or p i 0) (drop (i + 1) p) high)
        );
    going = going-named c.going some high refl covered;
  }

pub front-covered : {p s spans after : List ℕ} {i j b r : ℕ} → AtFront p s spans i j → i < length p → get_or p i 0 / 64 ≡ 2 → b ≡ get_or p i 0 →
    Covered s spans after (b - 128) j r → AtFront p s after (i + 1) r
front-covered {s = s} {spans = spans} {after = after} {j = j} {r = r} c some group byte covered =
    front-named c some (omega arith) (omega arith) (subst (λ b. Covered s spans after (b - 128) j r) byte covered)

-- ---- where the walk stops

module _ {p s spans : List ℕ} where
  pub front_ends : {i j : ℕ} → AtFront p s spans i j → length p ≤ i → length s ≤ j → Agrees p s spans
  front_ends c over over2 = record {
    kind = c.alike.kind;
    nodes = c.so_far (part_in s spans) (λ n d. refl) (drop_of_length-le s over2 ∙ sym (ap (spliced (part_in s spans)) (drop_of_length-le p over)));
  }

  pub front_pauses : {i j : ℕ} → AtFront p s spans i j → PausedAt p s spans i j
  front_pauses c = record { on = λ low. c.going; root = λ high. absurd (let low = c.alike.word in omega arith) }

  -- Nothing is looked at.
  pub front-blank : spans ≡ replicate 128 0 → PausedAt p s spans 1 1
  front-blank blank = record { on = λ low. going-begins p s spans blank low; root = λ high. blank }
