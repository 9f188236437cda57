-- Seen: names and the sorts at which they stood: a list of occurrences stays consistent exactly where the next one does not clash.
use mathlib.Core.Path.{◌≡◌, refl, sym, ap, ap₂, ◌∙◌}
use mathlib.Core.Bool.{Bool, true, false, not, ◌&&◌, ◌||◌, true≢false, false≢true, or-true}
use mathlib.Core.List.Memᴰ
use mathlib.Core.List.{List, [], ◌∷◌, ◌++◌, Memᴰ}
use mathlib.Core.Logic.{◌⊎◌, inl, inr}
use Prim.Native.Nat.{ℕ}
use lib.Dec.{eqb}
use borrow.Author.Tests.{eq-eqb, ne_eqb, eqb-true, eqb-false}
use Rattle.terms.specs.Lists.{All}
use Rattle.terms.specs.Term.{Occurrence, Consistent}
use Rattle.terms.proofs.Bools.{or_parts, or_neither, false_of_not}
use Rattle.terms.proofs.All.{all_implies, all_both, all_append, all_left, all_right}
use Rattle.wire.specs.Parser.{clash}
use Rattle.wire.specs.TermLines.{Clash}

-- ---- the test of a clash is its meaning

pub clash_meant : (seen : List Occurrence) (n s : ℕ) → clash seen n s ≡ true → Clash seen n s
clash_meant [] n s e = absurd (false≢true e)
clash_meant (o ∷ seen) n s e = go (clash_meant seen n s) (eqb o.name n) (eqb o.sort s) refl refl
  where
    later : Clash seen n s → Clash (o ∷ seen) n s
    later c = (c.0, Memᴰ.tail c.1, c.2, c.3)

    behind : (a b : Bool) → eqb o.name n ≡ a → eqb o.sort s ≡ b → ((a && not b) || clash seen n s) ≡ true
    behind a b p q = sym (ap₂ (λ a b. (a && not b) || clash seen n s) p q) ∙ e

    go : (clash seen n s ≡ true → Clash seen n s) → (a b : Bool) → eqb o.name n ≡ a → eqb o.sort s ≡ b → Clash (o ∷ seen) n s
    go rest true false p q = (o, Memᴰ.head refl, eqb-true _ _ p, eqb-false _ _ q)
    go rest true true p q = later (rest (behind true true p q))
    go rest false b p q = later (rest (behind false b p q))

pub clash_tested : (seen : List Occurrence) (n s : ℕ) → Clash seen n s → clash seen n s ≡ true
clash_tested [] n s c = absurd (Memᴰ.not-nil c.1)
clash_tested (o ∷ seen) n s c = go (clash_tested seen n s) (Memᴰ.cases_cons c.1)
  where
    go : (Clash seen n s → clash seen n s ≡ true) → (c.0 ≡ o) ⊎ Memᴰ c.0 seen → clash (o ∷ seen) n s ≡ true
    go rest (inl e) =
        ap₂ (λ a b. (a && not b) || clash seen n s)
        (eq-eqb o.name n (sym (ap (λ o. o.name) e) ∙ c.2))
        (ne_eqb o.sort s (λ h. c.3 (ap (λ o. o.sort) e ∙ h)))
    go rest (inr m) = ap (λ t. (eqb o.name n && not (eqb o.sort s)) || t) (rest (c.0, m, c.2, c.3)) ∙ or-true (eqb o.name n && not (eqb o.sort s))

pub clash_none : (seen : List Occurrence) (n s : ℕ) → (Clash seen n s → ⊥) → clash seen n s ≡ false
clash_none seen n s h = false_of_not (clash seen n s) (λ e. h (clash_meant seen n s e))

pub clash_not : (seen : List Occurrence) (n s : ℕ) → clash seen n s ≡ false → Clash seen n s → ⊥
clash_not seen n s e c = true≢false (sym (clash_tested seen n s c) ∙ e)

-- ---- consistent lists

-- Two occurrences of one name have one sort.
abbrev pub Agree : Occurrence → Occurrence → Type 0
Agree o o' = o.name ≡ o'.name → o.sort ≡ o'.sort

clashes : Occurrence → ℕ → ℕ → Bool
clashes o n s = eqb o.name n && not (eqb o.sort s)

agree_clashes : (o x : Occurrence) → Agree o x → clashes o x.name x.sort ≡ false
unfolding clashes
agree_clashes o x a = go (eqb o.name x.name) refl
  where
    go : (b : Bool) → eqb o.name x.name ≡ b → (b && not (eqb o.sort x.sort)) ≡ false
    go false e = refl
    go true e = rw (eq-eqb o.sort x.sort (a (eqb-true o.name x.name e)))

clashes_agree : (o x : Occurrence) → clashes o x.name x.sort ≡ false → Agree o x
unfolding clashes
clashes_agree o x h e = go (eqb o.sort x.sort) refl (rw (eq-eqb o.name x.name e) at h)
  where
    go : (b : Bool) → eqb o.sort x.sort ≡ b → not (eqb o.sort x.sort) ≡ false → o.sort ≡ x.sort
    go true q k = eqb-true o.sort x.sort q
    go false q k = let z : true ≡ false = cc in absurd (true≢false z)

pub agree_clash : (seen : List Occurrence) (x : Occurrence) → All (λ o. Agree o x) seen → clash seen x.name x.sort ≡ false
unfolding clashes
agree_clash [] x h = refl
agree_clash (o ∷ seen) x h =
    or_neither (clashes o x.name x.sort) (clash seen x.name x.sort) (agree_clashes o x h.0) (agree_clash seen x h.1)

pub clash_agree : (seen : List Occurrence) (x : Occurrence) → clash seen x.name x.sort ≡ false → All (λ o. Agree o x) seen
unfolding clashes
clash_agree [] x h = tt
clash_agree (o ∷ seen) x h =
    let k = or_parts (clashes o x.name x.sort) (clash seen x.name x.sort) h in
    (clashes_agree o x k.0, clash_agree seen x k.1)

pub consistent-left : (l r : List Occurrence) → Consistent (l ++ r) → Consistent l
consistent-left l r h =
    all_implies (λ o. All (Agree o) (l ++ r)) (λ o. All (Agree o) l) (λ o k. all_left (Agree o) l r k) l
    (all_left (λ o. All (Agree o) (l ++ r)) l r h)

-- One occurrence more.
pub consistent-clash : (seen : List Occurrence) (n s : ℕ) → Consistent (seen ++ (record { name = n; sort = s } ∷ [])) → clash seen n s ≡ false
consistent-clash seen n s h =
    let x : Occurrence = record { name = n; sort = s } in
    agree_clash seen x
    (all_implies (λ o. All (Agree o) (seen ++ (x ∷ []))) (λ o. Agree o x) (λ o k. (all_right (Agree o) seen (x ∷ []) k).0) seen
    (all_left (λ o. All (Agree o) (seen ++ (x ∷ []))) seen (x ∷ []) h))

pub clash-consistent : (seen : List Occurrence) (n s : ℕ) → Consistent seen → clash seen n s ≡ false →
    Consistent (seen ++ (record { name = n; sort = s } ∷ []))
clash-consistent seen n s h c =
    let a : All (λ o. Agree o x) seen = clash_agree seen x c in
    let back : All (Agree x) seen = all_implies (λ o. Agree o x) (Agree x) (λ o k e. sym (k (sym e))) seen a in
    all_append (λ o. All (Agree o) (seen ++ (x ∷ []))) seen (x ∷ [])
    (all_implies (λ o. All (Agree o) seen × Agree o x) (λ o. All (Agree o) (seen ++ (x ∷ [])))
    (λ o k. all_append (Agree o) seen (x ∷ []) k.0 (k.1, tt)) seen
    (all_both (λ o. All (Agree o) seen) (λ o. Agree o x) seen h a))
    (all_append (Agree x) seen (x ∷ []) back ((λ e. refl), tt), tt)
  where
    x : Occurrence
    x = record { name = n; sort = s }
