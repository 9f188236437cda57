-- Cut: the leftovers of an entry that shares something with a pattern.
--
--   cut-entries      they are entries of the sort
--   count_cut        what fits the entry fits what both allow, or exactly one of them
--   remains_cases    what holds of an entry that is kept, and of the leftovers of one that is not, holds of what remains
--   remains-entries  .. so what remains are entries
--   count-remains    .. and what fits the entry fits exactly one of them, or the pattern and none of them
--
use mathlib.Core.Path.{◌≡◌, refl, sym, ap, subst}
use mathlib.Core.Bool.{Bool, true, false, ◌&&◌, and_comm}
use mathlib.Core.List.{List, [], ◌∷◌, map}
use Prim.Native.Nat.{ℕ, ◌+◌}
use native.Mathlib.Omega.{arith}
use lib.Dec.{eqb}
use borrow.Author.Tests.{eqb-true}
use Rattle.terms.specs.Lists.{All}
use Rattle.terms.specs.Signature.{Signature, arguments}
use Rattle.terms.specs.Term.{Term, any, var, app, Terms, nil, cons, Ground, gapp, Grounds, gnil, gcons, Sorted, SortedAll, SortedG, SortedGs, names, names_all}
use Rattle.terms.specs.Listing.{listing}
use Rattle.terms.specs.Book.{nameless, disjoint, disjoint_all, both, both_all, cut, cut_all, remains}
use Rattle.terms.proofs.Bools.{or_parts}
use Rattle.terms.proofs.All.{all_implies, all_map, all-maps}
use Rattle.terms.proofs.Count.{bit, unless, bit_unless, count, count_same, count_beside, count_map, count-maps}
use Rattle.terms.proofs.Fit.{fit, fit_all}
use Rattle.terms.proofs.Entries.{entries_sorted}
use Rattle.terms.proofs.Partition.{counted-once}
use Rattle.terms.proofs.Nameless.{Entry, EntryAll, none_parts, none_append, fit_nameless, nameless-entry}
use Rattle.terms.proofs.Sharing.{fit_disjoint, fit_shared, same-symbol, both-sorted}

-- A pattern's own leftovers, with their names opened, are entries ..
pub nameless-entries : (S : Signature) (p : Term) (s : ℕ) → Sorted S p s → All (Entry S s) (map nameless (listing S p))
nameless-entries S p s h =
    all_map (Entry S s) nameless (listing S p)
    (all_implies (λ e. Sorted S e s) (λ e. Entry S s (nameless e)) (λ e k. nameless-entry S e s k) (listing S p) (entries_sorted S p s h))

-- .. and are counted as they were.
pub count-nameless : (S : Signature) (p : Term) (s : ℕ) (g : Ground) → Sorted S p s → SortedG S g s →
    bit (fit (nameless p) g) + count (λ e. fit e g) (map nameless (listing S p)) ≡ 1
count-nameless S p s g h a =
    rw (fit_nameless p g, count_map (λ e. fit e g) nameless (listing S p), count_same _ _ (listing S p) (λ e. fit_nameless e g)) (counted-once S p s g h a)

mutual
  pub cut-entries : (S : Signature) (e p : Term) (s : ℕ) → Entry S s e → Sorted S p s → disjoint e p ≡ false → All (Entry S s) (cut S e p)
  cut-entries S any p s h k d = nameless-entries S p s k
  cut-entries S (var n) p s h k d = nameless-entries S p s k
  cut-entries S (app f es) any s h k d = tt
  cut-entries S (app f es) (var n) s h k d = tt
  cut-entries S (app f es) (app q ps) s h k d =
      let places = same-symbol S f q es ps d k.2 in
      all_map (Entry S s) (app f) (cut_all S es ps)
      (all_implies (EntryAll S (arguments S f)) (λ cs. Entry S s (app f cs)) (λ cs c. ((h.0.0, h.0.1, c.0), c.1)) (cut_all S es ps)
      (cut_entries-all S es ps (arguments S f) (h.0.2, h.1) places.0 places.1))

  cut_entries-all : (S : Signature) (es ps : Terms) (ks : List ℕ) → EntryAll S ks es → SortedAll S ps ks → disjoint_all es ps ≡ false →
      All (EntryAll S ks) (cut_all S es ps)
  cut_entries-all S nil ps ks h k d = tt
  cut_entries-all S (cons e es) nil ks h k d = tt
  cut_entries-all S (cons e es) (cons p ps) [] h k d = absurd k
  cut_entries-all S (cons e es) (cons p ps) (i ∷ ks) h k d =
      let apart = or_parts (disjoint e p) (disjoint_all es ps) d in
      let none = none_parts (names e) (names_all es) h.1 in
      let shared = both-sorted S e p i h.0.0 k.0 apart.0 in
      all-maps (EntryAll S (i ∷ ks)) (λ c. cons c es) (cons (both e p)) (cut S e p) (cut_all S es ps)
      (all_implies (Entry S i) (λ c. EntryAll S (i ∷ ks) (cons c es))
      (λ c a. ((a.0, h.0.1), none_append (names c) (names_all es) a.1 none.1)) (cut S e p)
      (cut-entries S e p i (h.0.0, none.0) k.0 apart.0))
      (all_implies (EntryAll S ks) (λ cs. EntryAll S (i ∷ ks) (cons (both e p) cs))
      (λ cs a. ((shared.0, a.0), none_append (names (both e p)) (names_all cs) (shared.1 none.0) a.1)) (cut_all S es ps)
      (cut_entries-all S es ps ks (h.0.1, none.1) k.1 apart.1))

-- The leftovers of one more place, counted by the two parts of the cut.
count_cut_cons : (S : Signature) (e p : Term) (es ps : Terms) (g : Ground) (gs : Grounds) →
    bit (fit (both e p) g) + count (λ c. fit c g) (cut S e p) ≡ bit (fit e g) →
    bit (fit_all (both_all es ps) gs) + count (λ cs. fit_all cs gs) (cut_all S es ps) ≡ bit (fit_all es gs) →
    bit (fit_all (both_all (cons e es) (cons p ps)) (gcons g gs)) + count (λ cs. fit_all cs (gcons g gs)) (cut_all S (cons e es) (cons p ps)) ≡
    bit (fit_all (cons e es) (gcons g gs))
count_cut_cons S e p es ps g gs one rest =
    rw (count-maps (λ cs. fit_all cs (gcons g gs)) (λ c. cons c es) (cons (both e p)) (cut S e p) (cut_all S es ps))
    (omega (arith, here, behind, ap bit (and_comm b a), ap bit (and_comm b (fit e g))))
  where
    a : Bool
    a = fit (both e p) g

    b : Bool
    b = fit_all es gs

    here : bit (b && a) + count (λ c. fit c g && b) (cut S e p) ≡ bit (b && fit e g)
    here = count_beside b a (fit e g) (λ c. fit c g) (λ c. fit c g && b) (cut S e p) (λ c. and_comm (fit c g) b) (λ t. one)

    behind : bit (a && fit_all (both_all es ps) gs) + count (λ cs. a && fit_all cs gs) (cut_all S es ps) ≡ bit (a && b)
    behind = count_beside a (fit_all (both_all es ps) gs) b (λ cs. fit_all cs gs) (λ cs. a && fit_all cs gs) (cut_all S es ps) (λ cs. refl) (λ t. rest)

mutual
  pub count_cut : (S : Signature) (e p : Term) (s : ℕ) (g : Ground) → Sorted S e s → Sorted S p s → SortedG S g s → disjoint e p ≡ false →
      bit (fit (both e p) g) + count (λ c. fit c g) (cut S e p) ≡ bit (fit e g)
  count_cut S any p s g h k a d = count-nameless S p s g k a
  count_cut S (var n) p s g h k a d = count-nameless S p s g k a
  count_cut S (app f es) any s g h k a d = omega arith
  count_cut S (app f es) (var n) s g h k a d = omega arith
  count_cut S (app f es) (app q ps) s (gapp j gs) h k a d =
      let places = same-symbol S f q es ps d k.2 in
      rw (count_map (λ c. fit c (gapp j gs)) (app f) (cut_all S es ps))
      (count_beside (eqb f j) (fit_all (both_all es ps) gs) (fit_all es gs) (λ cs. fit_all cs gs) (λ cs. eqb f j && fit_all cs gs) (cut_all S es ps) (λ cs. refl)
      (λ e. count-cut_all S es ps (arguments S f) gs h.2 places.0 (subst (λ n. SortedGs S gs (arguments S n)) (sym (eqb-true f j e)) a.2) places.1))

  count-cut_all : (S : Signature) (es ps : Terms) (ks : List ℕ) (gs : Grounds) → SortedAll S es ks → SortedAll S ps ks → SortedGs S gs ks →
      disjoint_all es ps ≡ false → bit (fit_all (both_all es ps) gs) + count (λ cs. fit_all cs gs) (cut_all S es ps) ≡ bit (fit_all es gs)
  count-cut_all S nil ps ks gs h k a d = omega arith
  count-cut_all S (cons e es) nil [] gs h k a d = absurd h
  count-cut_all S (cons e es) nil (i ∷ ks) gs h k a d = absurd k
  count-cut_all S (cons e es) (cons p ps) [] gs h k a d = absurd h
  count-cut_all S (cons e es) (cons p ps) (i ∷ ks) gnil h k a d = absurd a
  count-cut_all S (cons e es) (cons p ps) (i ∷ ks) (gcons g gs) h k a d =
      let apart = or_parts (disjoint e p) (disjoint_all es ps) d in
      count_cut_cons S e p es ps g gs
      (count_cut S e p i g h.0 k.0 a.0 apart.0) (count-cut_all S es ps ks gs h.1 k.1 a.1 apart.1)

pub remains_cases : (S : Signature) (p e : Term) (P : List Term → Type 0) → (disjoint e p ≡ true → P (e ∷ [])) → (disjoint e p ≡ false → P (cut S e p)) → P (remains S p e)
remains_cases S p e P kept leftovers = go (disjoint e p) refl
  where
    go : (b : Bool) → disjoint e p ≡ b →
        P (elim b [
          | true ↦ e ∷ []
          | false ↦ cut S e p
        ])
    go true d = kept d
    go false d = leftovers d

pub remains-entries : (S : Signature) (p e : Term) (s : ℕ) → Sorted S p s → Entry S s e → All (Entry S s) (remains S p e)
remains-entries S p e s k h = remains_cases S p e (All (Entry S s)) (λ d. (h, tt)) (λ d. cut-entries S e p s h k d)

pub count-remains : (S : Signature) (p e : Term) (s : ℕ) (g : Ground) → Sorted S p s → Sorted S e s → SortedG S g s →
    count (λ c. fit c g) (remains S p e) ≡ unless (fit p g) (bit (fit e g))
count-remains S p e s g k h a = bit_unless (fit e g) (fit p g) (count (λ c. fit c g) (remains S p e)) shared
  where
    shared : bit (fit e g && fit p g) + count (λ c. fit c g) (remains S p e) ≡ bit (fit e g)
    shared =
        remains_cases S p e (λ l. bit (fit e g && fit p g) + count (λ c. fit c g) l ≡ bit (fit e g))
        (λ d. omega (arith, ap bit (fit_disjoint S e p s g h k d)))
        (λ d. omega (arith, ap bit (fit_shared S e p s g h k d), count_cut S e p s g h k a d))
