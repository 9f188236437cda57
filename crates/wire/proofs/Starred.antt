-- Starred: document 01's starred cases hold, by one computation over the whole table.
use mathlib.Core.Path.{◌≡◌, refl, ap, ap₂}
use mathlib.Core.Bool.{Bool, true, false, ◌&&◌, false≢true}
use mathlib.Core.List.{List, [], ◌∷◌}
use Prim.Native.Nat.{ℕ}
use lib.Dec.{eqb}
use borrow.Author.Tests.{eqb-true}
use Rattle.terms.specs.Lists.{All}
use Rattle.terms.proofs.Bools.{and_parts}
use Rattle.wire.specs.Reply.{Reply, accepted, refused}
use Rattle.wire.specs.Starred.{Outcome, answers, prints, outcome, Row, starred, StarredHold}

abbrev same_numbers : List ℕ → List ℕ → Bool
same_numbers [] [] = true
same_numbers [] (n ∷ ns) = false
same_numbers (m ∷ ms) [] = false
same_numbers (m ∷ ms) (n ∷ ns) = eqb m n && same_numbers ms ns

same_numbers_lem : (l k : List ℕ) → same_numbers l k ≡ true → l ≡ k
same_numbers_lem [] [] e = refl
same_numbers_lem [] (n ∷ ns) e = absurd (false≢true e)
same_numbers_lem (m ∷ ms) [] e = absurd (false≢true e)
same_numbers_lem (m ∷ ms) (n ∷ ns) e =
    let c = and_parts (eqb m n) (same_numbers ms ns) e in
    ap₂ ◌∷◌ (eqb-true m n c.0) (same_numbers_lem ms ns c.1)

abbrev same_reply : Reply → Reply → Bool
same_reply (accepted l) (accepted k) = same_numbers l k
same_reply (accepted l) (refused n i q) = false
same_reply (refused n i q) (accepted l) = false
same_reply (refused n i q) (refused m j r) = eqb n m && (eqb i j && eqb q r)

same-reply : (x y : Reply) → same_reply x y ≡ true → x ≡ y
same-reply (accepted l) (accepted k) e = ap accepted (same_numbers_lem l k e)
same-reply (accepted l) (refused n i q) e = absurd (false≢true e)
same-reply (refused n i q) (accepted l) e = absurd (false≢true e)
same-reply (refused n i q) (refused m j r) e =
    let c = and_parts (eqb n m) (eqb i j && eqb q r) e in
    let d = and_parts (eqb i j) (eqb q r) c.1 in
    let x = eqb-true n m c.0 in
    let y = eqb-true i j d.0 in
    let z = eqb-true q r d.1 in
    cc

abbrev same_outcome : Outcome → Outcome → Bool
same_outcome (answers r l) (answers s k) = same_reply r s && same_numbers l k
same_outcome (answers r l) (prints t) = false
same_outcome (prints t) (answers s k) = false
same_outcome (prints t) (prints u) = same_numbers t u

same_outcome_lem : (x y : Outcome) → same_outcome x y ≡ true → x ≡ y
same_outcome_lem (answers r l) (answers s k) e =
    let c = and_parts (same_reply r s) (same_numbers l k) e in
    ap₂ answers (same-reply r s c.0) (same_numbers_lem l k c.1)
same_outcome_lem (answers r l) (prints t) e = absurd (false≢true e)
same_outcome_lem (prints t) (answers s k) e = absurd (false≢true e)
same_outcome_lem (prints t) (prints u) e = ap prints (same_numbers_lem t u e)

-- The one test over all rows.
abbrev all_hold : List Row → Bool
all_hold [] = true
all_hold (r ∷ rs) = same_outcome (outcome r.call) r.outcome && all_hold rs

all_hold_lem : (rs : List Row) → all_hold rs ≡ true → All (λ r. outcome r.call ≡ r.outcome) rs
all_hold_lem [] e = tt
all_hold_lem (r ∷ rs) e =
    let c = and_parts (same_outcome (outcome r.call) r.outcome) (all_hold rs) e in
    (same_outcome_lem (outcome r.call) r.outcome c.0, all_hold_lem rs c.1)

pub starred_hold : StarredHold
starred_hold = all_hold_lem starred refl
