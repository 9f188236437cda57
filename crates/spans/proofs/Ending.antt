-- Ending: where a ground term ends, and the terms that are due until then.
--
--   ends-inside                           it ends in the situation
--   Ending s at i k                       k terms are due at i
--   ending_begins, ending_turn, ending_four, ending_ends    so the end is found, node by node
--   nodes_left s end due                   more than the nodes that are left to pass, in any bytes
--   Seeking s at end due                  the state while an end is looked for, in any bytes
--   seeking_begins, seeking_one, seeking_four    its turns
--
use mathlib.Core.Path.{◌≡◌, refl, sym, ap, ap₂, ◌∙◌, subst}
use mathlib.Core.Bool.{Bool, true, false}
use mathlib.Core.List.{List}
use Prim.Native.Nat.{ℕ, suc, ◌+◌, ◌-◌, ◌*◌, ◌<◌, ◌≤◌}
use native.Mathlib.Omega.{arith}
use lib.Count
use lib.Dec.{ltb}
use lib.ListN.{length, length-append, length-drop, get_or-eq_default}
use borrow.Author.Tests.{ltb-true, ltb-false}
use Rattle.terms.specs.Term.{as_term}
use Rattle.wire.specs.Map.{map_bytes, flags, ones}
use Rattle.wire.specs.Vocabulary.{Vocabulary, map_of}
use Rattle.wire.specs.TermBytes.{encode_at}
use Rattle.wire.proofs.Map.{ones-count}
use Rattle.wire.proofs.Words.{word-in_order}
use Rattle.wire.proofs.Pending.{Pending, Turn, pending_begins, pending_turn, pending_ends}
use Rattle.spans.specs.Frames.{map_at}
use Rattle.spans.specs.Spans.{Standing, ends}

pub ends-inside : {s : List ℕ} {at : ℕ} (a : Standing s at) → ends a ≤ length s
ends-inside {s} {at} a =
    omega (arith, a.inside, length-drop at s, ap length a.stands, length-append (encode_at a.vocabulary (as_term a.ground)) a.behind)

-- What is due at place i of the bytes s, while the end of what stands at `at` is looked for.
abbrev pub Ending : List ℕ → ℕ → ℕ → ℕ → Type 0
Ending s at i k = (a : Standing s at) → Pending a.vocabulary s (ends a) i k

pub ending_begins : (s : List ℕ) (at : ℕ) → Ending s at at 1
ending_begins s at a = pending_begins a.vocabulary s at a.ground a.sort a.behind a.sorted a.stands a.inside

pub ending_turn : {s : List ℕ} {at i k : ℕ} → Ending s at i k → 0 < k → Ending s at (i + (1 + map_bytes)) (k - 1 + Count.ones (map_at s i))
ending_turn {s} {at} {i} {k} e some a = go (pending_turn W a.in_order s (ends a) i (k - 1) (subst (Pending W s (ends a) i) same (e a)))
  where
    W : Vocabulary
    W = a.vocabulary

    same : k ≡ suc (k - 1)
    same = omega arith

    go : Turn W s (ends a) i (k - 1) → Pending W s (ends a) (i + (1 + map_bytes)) (k - 1 + Count.ones (map_at s i))
    go t =
        let small = (word-in_order W t.symbol a.in_order t.known).place_map in
        let many : Count.ones (map_at s i) ≡ ones (flags (map_of W t.symbol)) = ap Count.ones t.map ∙ ones-count (map_of W t.symbol) small in
        let place : i + 1 + map_bytes ≡ i + (1 + map_bytes) = omega arith in
        let count : ones (flags (map_of W t.symbol)) + (k - 1) ≡ k - 1 + Count.ones (map_at s i) = omega arith in
        subst (λ n. Pending W s (ends a) n (k - 1 + Count.ones (map_at s i))) place
        (subst (Pending W s (ends a) (i + 1 + map_bytes)) count t.next)

-- Four nodes in one go.
pub ending_four : {s : List ℕ} {at i k : ℕ} → Ending s at i k → 4 ≤ k →
    Ending s at (i + (1 + map_bytes) + (1 + map_bytes) + (1 + map_bytes) + (1 + map_bytes))
    (k - 4 + (Count.ones (map_at s i) + Count.ones (map_at s (i + (1 + map_bytes))) + Count.ones (map_at s (i + (1 + map_bytes) + (1 + map_bytes)))
    + Count.ones (map_at s (i + (1 + map_bytes) + (1 + map_bytes) + (1 + map_bytes)))))
ending_four {s} {at} {i} {k} e four =
    subst (Ending s at (i + (1 + map_bytes) + (1 + map_bytes) + (1 + map_bytes) + (1 + map_bytes)))
    (let n : k - 1 + first - 1 + second - 1 + third - 1 + fourth ≡ k - 4 + (first + second + third + fourth) = omega arith in n)
    (ending_turn (ending_turn (ending_turn (ending_turn e (omega arith)) (omega arith)) (omega arith)) (omega arith))
  where
    first : ℕ
    first = Count.ones (map_at s i)

    second : ℕ
    second = Count.ones (map_at s (i + (1 + map_bytes)))

    third : ℕ
    third = Count.ones (map_at s (i + (1 + map_bytes) + (1 + map_bytes)))

    fourth : ℕ
    fourth = Count.ones (map_at s (i + (1 + map_bytes) + (1 + map_bytes) + (1 + map_bytes)))

pub ending_ends : {s : List ℕ} {at i k : ℕ} → Ending s at i k → k ≤ 0 → (a : Standing s at) → i ≡ ends a
ending_ends {s} {at} {i} {k} e none a =
    let zero : k ≡ 0 = omega arith in
    pending_ends a.vocabulary s (ends a) i (subst (Pending a.vocabulary s (ends a) i) zero (e a))

-- ---- any bytes

-- Behind the last byte each map is 0.
map-behind : (s : List ℕ) (at : ℕ) → length s ≤ at + 1 → Count.ones (map_at s at) ≡ 0
unfolding Count.ones
map-behind s at h = ap Count.ones (get_or-eq_default s 0 h)

-- More than the nodes that are left to pass, where so many terms are due: each map has at most 8 ones.
abbrev pub nodes_left : List ℕ → ℕ → ℕ → ℕ
nodes_left s end due = 32 * (length s - end) + due

-- What is due while the end of what stands at `at` is looked for; the offsets stay small in any bytes.
pub record Seeking (s : List ℕ) (at end due : ℕ) : Type 0 where
  pub ending : Ending s at end due
  pub later : at < end
  pub near : end + (1 + map_bytes) * nodes_left s end due ≤ 262144

-- The state behind a turn, and that fewer nodes are left.
pub record Sought (s : List ℕ) (at end due next more : ℕ) : Type 0 where
  pub seeking : Seeking s at next more
  pub fewer : nodes_left s next more < nodes_left s end due

pub seeking_begins : (s : List ℕ) (at : ℕ) {m n : ℕ} → at ≤ length s → length s ≤ 4096 → m ≡ map_at s at → n ≡ Count.ones m → n ≤ 8 →
    Seeking s at (at + (1 + map_bytes)) n
seeking_begins s at {m} {n} inside small map ones few = record {
  ending = subst (Ending s at (at + (1 + map_bytes))) (let e : 1 - 1 + Count.ones (map_at s at) ≡ n = omega (arith, ap Count.ones map) in e)
      (ending_turn (ending_begins s at) (omega arith));
  later = omega arith;
  near = omega arith;
}

-- So many nodes are passed, whose maps have n ones.
module _ {s : List ℕ} {at end due : ℕ} (c : Seeking s at end due) (nodes n : ℕ) (some : 0 < nodes) (more : nodes ≤ due) (few : n ≤ 32)
    (none : length s ≤ end + 1 → n ≡ 0) (next : ℕ) (behind : next ≡ end + (1 + map_bytes) * nodes) where
  fewer : nodes_left s next (due - nodes + n) + nodes ≤ nodes_left s end due
  fewer = go (ltb (end + 1) (length s)) refl
    where
      go : (t : Bool) → ltb (end + 1) (length s) ≡ t → nodes_left s next (due - nodes + n) + nodes ≤ nodes_left s end due
      go true e = let room = ltb-true (end + 1) (length s) e in omega arith
      go false e = let zero = none (ltb-false (end + 1) (length s) e) in omega arith

  passed : Ending s at next (due - nodes + n) → Sought s at end due next (due - nodes + n)
  passed e = record {
    seeking = record { ending = e; later = omega (arith, c.later); near = omega (arith, fewer, c.near) };
    fewer = omega (arith, fewer);
  }

pub seeking_one : {s : List ℕ} {at end due m n : ℕ} → Seeking s at end due → 0 < due → m ≡ map_at s end → n ≡ Count.ones m → n ≤ 8 →
    Sought s at end due (end + (1 + map_bytes)) (due - 1 + n)
seeking_one {s} {at} {end} {due} {m} {n} c some map ones few =
    passed c 1 n (omega arith) some (omega arith) (λ h. counted ∙ map-behind s end h) (end + (1 + map_bytes)) (omega arith)
    (subst (λ n. Ending s at (end + (1 + map_bytes)) (due - 1 + n)) (sym counted) (ending_turn c.ending some))
  where
    counted : n ≡ Count.ones (map_at s end)
    counted = ones ∙ ap Count.ones map

pub seeking_four : {s : List ℕ} {at end due a b d e n : ℕ} → Seeking s at end due → 4 ≤ due →
    a ≡ map_at s end → b ≡ map_at s (end + (1 + map_bytes)) → d ≡ map_at s (end + (1 + map_bytes) + (1 + map_bytes)) →
    e ≡ map_at s (end + (1 + map_bytes) + (1 + map_bytes) + (1 + map_bytes)) →
    n ≡ Count.ones a + Count.ones b + Count.ones d + Count.ones e → n ≤ 32 →
    Sought s at end due (end + (1 + map_bytes) + (1 + map_bytes) + (1 + map_bytes) + (1 + map_bytes)) (due - 4 + n)
seeking_four {s} {at} {end} {due} {a} {b} {d} {e} {n} c four first second third fourth ones few =
    passed c 4 n (omega arith) four few (λ h. none h) (end + (1 + map_bytes) + (1 + map_bytes) + (1 + map_bytes) + (1 + map_bytes)) (omega arith)
    (subst (λ n. Ending s at (end + (1 + map_bytes) + (1 + map_bytes) + (1 + map_bytes) + (1 + map_bytes)) (due - 4 + n)) (sym counted)
    (ending_four c.ending four))
  where
    counted : n ≡ Count.ones (map_at s end) + Count.ones (map_at s (end + (1 + map_bytes))) + Count.ones (map_at s (end + (1 + map_bytes) + (1 + map_bytes)))
        + Count.ones (map_at s (end + (1 + map_bytes) + (1 + map_bytes) + (1 + map_bytes)))
    counted =
        ones
        ∙ ap₂ ◌+◌ (ap₂ ◌+◌ (ap₂ ◌+◌ (ap Count.ones first) (ap Count.ones second)) (ap Count.ones third)) (ap Count.ones fourth)

    none : length s ≤ end + 1 → n ≡ 0
    none h =
        let at2 : ℕ = end + (1 + map_bytes) in
        let at3 : ℕ = at2 + (1 + map_bytes) in
        omega (
          arith,
          counted,
          map-behind s end h,
          map-behind s at2 (omega arith),
          map-behind s at3 (omega arith),
          map-behind s (at3 + (1 + map_bytes)) (omega arith),
        )
