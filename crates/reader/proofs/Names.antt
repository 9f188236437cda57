-- Names: the table of names answers as the list of the names seen does.
--
--   clashing-new, clashing-same, clashing-other    what the test of an entry gives
--   named-clash, named_none, named_more    of the table: its answer, no names yet, and a name more
--
use mathlib.Core.Path.{◌≡◌, refl, sym, ap, ap₂, ◌∙◌}
use mathlib.Core.Bool.{Bool, true, false, not, ◌&&◌, ◌||◌, true≢false, and-false, or-false, or_self, or_assoc}
use mathlib.Core.List.{List, [], ◌∷◌, ◌++◌}
use mathlib.Core.Logic.{◌≢◌}
use Prim.Native.Nat.{ℕ, ◌<◌}
use native.Mathlib.Decide.{ℕ_discrete}
use native.Mathlib.Omega.{arith}
use lib.Dec.{eqb}
use lib.ListN.{length, get_or, set, replicate, get_or-replicate}
use lib.Seq.{get_or-set_same, get_or-set_other}
use borrow.Author.Tests.{eqb-true, eq-eqb, ne_eqb}
use Rattle.terms.specs.Term.{Occurrence}
use Rattle.wire.specs.Parser.{clash}
use Rattle.reader.specs.Names.{clashing, Named}

pub clashing-new : (k s : ℕ) → k ≡ 65535 → false ≡ clashing k s
clashing-new k s e = rw (eq-eqb k 65535 e)

pub clashing-same : (k s : ℕ) → k ≡ s → false ≡ clashing k s
clashing-same k s e = rw (eq-eqb k s e) (sym (and-false (not (eqb k 65535))))

pub clashing-other : (k s : ℕ) → (k ≡ 65535 → ⊥) → (k ≡ s → ⊥) → true ≡ clashing k s
clashing-other k s d e = rw (ne_eqb k 65535 d, ne_eqb k s e)

clash-append : (seen : List Occurrence) (o : Occurrence) (n s : ℕ) →
    clash (seen ++ (o ∷ [])) n s ≡ (clash seen n s || (eqb o.name n && not (eqb o.sort s)))
clash-append [] o n s = or-false (eqb o.name n && not (eqb o.sort s))
clash-append (x ∷ seen) o n s =
    ap (λ z. (eqb x.name n && not (eqb x.sort s)) || z) (clash-append seen o n s)
    ∙ sym (or_assoc (eqb x.name n && not (eqb x.sort s)) (clash seen n s) (eqb o.name n && not (eqb o.sort s)))

pub named-clash : (names : List ℕ) (seen : List Occurrence) (n s : ℕ) → n < 64 → Named names seen → clash seen n s ≡ clashing (get_or names n 0) s
unfolding Named
named-clash names seen n s h named = named n s h

-- No name has stood yet.
pub named_none : Named (replicate 64 65535) []
unfolding Named
named_none n s h = sym (ap (λ k. clashing k s) (get_or-replicate 64 n 65535 0 h))

-- A name at a kind that agrees with its entry, which is that kind from then on.
same_name : (k j s : ℕ) → k < 256 → clashing j k ≡ false → (clashing j s || not (eqb k s)) ≡ clashing k s
same_name k j s small agrees = go (eqb j 65535) (eqb j k) refl refl
  where
    new : eqb k 65535 ≡ false
    new = ne_eqb k 65535 (λ e. omega arith)

    go : (b c : Bool) → eqb j 65535 ≡ b → eqb j k ≡ c → (clashing j s || not (eqb k s)) ≡ clashing k s
    go true c p q = rw (p, new)
    go false true p q = rw (p, new, eqb-true j k q) (or_self (not (eqb k s)))
    go false false p q = absurd (true≢false (sym (ap₂ (λ a b. not a && not b) p q) ∙ agrees))

pub named_more : (names : List ℕ) (seen : List Occurrence) (n k : ℕ) → length names ≡ 64 → n < 64 → k < 256 →
    clashing (get_or names n 0) k ≡ false → Named names seen → Named (set names n k) (seen ++ (record { name = n; sort = k } ∷ []))
unfolding Named
named_more names seen n k size h small agrees named m s below = clash-append seen (record { name = n; sort = k }) m s ∙ go (ℕ_discrete m n)
  where
    go : Dec (m ≡ n) → (clash seen m s || (eqb n m && not (eqb k s))) ≡ clashing (get_or (set names n k) m 0) s
    go (yes e) =
        rw (e, eq-eqb n n refl, named n s h, get_or-set_same names n k 0 (omega arith)) (same_name k (get_or names n 0) s small agrees)
    go (no d) =
        let apart : m ≢ n = d in
        rw (ne_eqb n m (λ e. d (sym e)), get_or-set_other names n m k 0 apart) (or-false (clash seen m s) ∙ named m s below)
