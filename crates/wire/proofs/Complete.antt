-- Complete: complete terms are the ground terms of the theory.
use mathlib.Core.Path.{◌≡◌, refl, sym, ap, ap₂, ◌∙◌, subst}
use mathlib.Core.Bool.{Bool, true, false, cond, false≢true}
use mathlib.Core.Option.{Option, some, none, some-ne-none}
use Prim.Native.Nat.{ℕ, ◌+◌, ◌<◌}
use lib.ListN.{length}
use Rattle.terms.specs.Term.{Term, any, var, app, Terms, nil, cons, Ground, gapp, Grounds, gnil, gcons, Sorted, SortedG, as_term, as_terms}
use Rattle.terms.proofs.Bools.{and_parts, or_parts}
use Rattle.terms.proofs.Ground.{ground-sorted, sorted-ground, ground-names, ground-occurrences}
use Rattle.wire.specs.Map.{map_bytes, is_open}
use Rattle.wire.specs.Vocabulary.{Vocabulary, signature}
use Rattle.wire.specs.TermBytes.{GoodTerm, complete, complete_all, encode_at}
use Rattle.wire.specs.GapComputed.{some_open, gap_from, gap_all}
use Rattle.wire.specs.SituationComputed.{ground, grounds}
use Rattle.terms.specs.Lists.{or_else}
use Rattle.wire.specs.Laws.{CompleteIsGround, NoGapIsComplete}

-- A complete term is its ground term.
mutual
  pub complete-ground : (t : Term) → complete t ≡ true → t ≡ as_term (ground t)
  complete-ground any e = absurd (false≢true e)
  complete-ground (var n) e = absurd (false≢true e)
  complete-ground (app f ts) e = ap (app f) (complete-grounds ts e)

  complete-grounds : (ts : Terms) → complete_all ts ≡ true → ts ≡ as_terms (grounds ts)
  complete-grounds nil e = refl
  complete-grounds (cons t ts) e =
      ap₂ cons (complete-ground t (and_parts (complete t) (complete_all ts) e).0)
      (complete-grounds ts (and_parts (complete t) (complete_all ts) e).1)

mutual
  pub ground-complete : (g : Ground) → complete (as_term g) ≡ true
  ground-complete (gapp f gs) = grounds-complete gs

  pub grounds-complete : (gs : Grounds) → complete_all (as_terms gs) ≡ true
  grounds-complete gnil = refl
  grounds-complete (gcons g gs) = rw (ground-complete g) (grounds-complete gs)

pub ground-good : (W : Vocabulary) (s : ℕ) (g : Ground) → s < W.kinds → SortedG (signature W) g s → GoodTerm W s (as_term g)
ground-good W s g h k =
    record {
      kind = h;
      sorted = record { sorted = ground-sorted (signature W) g s k; consistent = rw (ground-occurrences (signature W) g s) tt };
      named = rw (ground-names g) tt;
    }

pub complete_is_ground : CompleteIsGround
complete_is_ground W s t h = (forward, backward)
  where
    forward : GoodTerm W s t × (complete t ≡ true) → (g : Ground) × SortedG (signature W) g s × (t ≡ as_term g)
    forward p =
        let e = complete-ground t p.1 in
        (ground t, sorted-ground (signature W) (ground t) s (subst (λ u. Sorted (signature W) u s) e p.0.sorted.sorted), e)

    backward : (g : Ground) × SortedG (signature W) g s × (t ≡ as_term g) → GoodTerm W s t × (complete t ≡ true)
    backward p =
        (subst (λ u. GoodTerm W s u) (sym p.2) (ground-good W s p.0 h p.1), ap complete p.2 ∙ ground-complete p.0)

first_none : (a b : Option ℕ) → or_else a b ≡ none → (a ≡ none) × (b ≡ none)
first_none none b e = (refl, e)
first_none (some q) b e = absurd (some-ne-none _ e)

-- A test that leads to a place where it holds, and to none elsewhere.
cond_none : (b : Bool) (q : ℕ) (o : Option ℕ) → cond b (some q) o ≡ none → (b ≡ false) × (o ≡ none)
cond_none true q o e = absurd (some-ne-none _ e)
cond_none false q o e = (refl, e)

mutual
  gap-complete : (W : Vocabulary) (t : Term) (at : ℕ) → is_open t ≡ false → gap_from W t at ≡ none → complete t ≡ true
  gap-complete W any at h e = sym h
  gap-complete W (var n) at h e = absurd (some-ne-none _ e)
  gap-complete W (app f ts) at h e =
      let c = cond_none (some_open ts) (at + 1) (gap_all W ts (at + 1 + map_bytes)) e in
      gaps-complete W ts (at + 1 + map_bytes) c.0 c.1

  gaps-complete : (W : Vocabulary) (ts : Terms) (at : ℕ) → some_open ts ≡ false → gap_all W ts at ≡ none → complete_all ts ≡ true
  gaps-complete W nil at h e = refl
  gaps-complete W (cons t ts) at h e =
      let o = or_parts (is_open t) (some_open ts) h in
      let c = first_none (gap_from W t at) (gap_all W ts (at + length (encode_at W t))) e in
      rw (gap-complete W t at o.0 c.0) (gaps-complete W ts (at + length (encode_at W t)) o.1 c.1)

complete-shut : (t : Term) → complete t ≡ true → is_open t ≡ false
complete-shut any e = sym e
complete-shut (var n) e = refl
complete-shut (app f ts) e = refl

completes_shut : (ts : Terms) → complete_all ts ≡ true → some_open ts ≡ false
completes_shut nil e = refl
completes_shut (cons t ts) e =
    let c = and_parts (complete t) (complete_all ts) e in
    rw (complete-shut t c.0) (completes_shut ts c.1)

mutual
  complete-gap : (W : Vocabulary) (t : Term) (at : ℕ) → complete t ≡ true → gap_from W t at ≡ none
  complete-gap W any at e = absurd (false≢true e)
  complete-gap W (var n) at e = absurd (false≢true e)
  complete-gap W (app f ts) at e = rw (completes_shut ts e) (completes_gap W ts (at + 1 + map_bytes) e)

  completes_gap : (W : Vocabulary) (ts : Terms) (at : ℕ) → complete_all ts ≡ true → gap_all W ts at ≡ none
  completes_gap W nil at e = refl
  completes_gap W (cons t ts) at e =
      let c = and_parts (complete t) (complete_all ts) e in
      rw (complete-gap W t at c.0) (completes_gap W ts (at + length (encode_at W t)) c.1)

pub no_gap_is_complete : NoGapIsComplete
no_gap_is_complete W any = (λ e. absurd (some-ne-none _ e), λ e. absurd (false≢true e))
no_gap_is_complete W (var n) = (λ e. absurd (some-ne-none _ e), λ e. absurd (false≢true e))
no_gap_is_complete W (app f ts) = (gap-complete W (app f ts) 1 refl, complete-gap W (app f ts) 1)
