-- TermRefusals: a term handed to a call is refused by lines 7 to 15 of the refusal list.
--
--   same_bytes                the states to which bytes lead are told by the bytes
--   term_refusals             a number is given exactly where its line decides
--
use mathlib.Core.Path.{◌≡◌, refl, sym, ap, ◌∙◌, subst₂}
use mathlib.Core.Bool.{Bool, true, false}
use mathlib.Core.List.{List, [], ◌∷◌}
use mathlib.Core.Logic.{inl, inr}
use Prim.Native.Nat.{ℕ, suc, ◌-◌, ◌<◌}
use native.Mathlib.Omega.{arith}
use lib.Dec.{ltb}
use lib.ListN.{length}
use borrow.Author.Tests.{ltb-true, ltb-false, lt-ltb}
use Rattle.wire.specs.Parser.{refuse, Got, got, stop, Read, line15, read_term}
use Rattle.wire.specs.Reply.{outside, Outside}
use Rattle.wire.specs.Vocabulary.{Vocabulary, InOrder}
use Rattle.wire.specs.TermBytes.{most_bytes, most_levels, least_bytes}
use Rattle.wire.specs.CheckComputed.{checked_term}
use Rattle.wire.specs.Refusals.{Sooner}
use Rattle.wire.specs.Laws.{RefusesBy, TermRefusals}
use Rattle.wire.specs.TermLines.{State, LeadsTo, TermLine, size, kind, inside, more}
use Rattle.wire.proofs.Cond.{cond_true, cond_false}
use Rattle.wire.proofs.Outside.{outside_true, outside_false, no-outside}
use Rattle.wire.proofs.Refusals.{refuses-one, refuses_none}
use Rattle.wire.proofs.LinesRead.{node-rank, LineIn, StopsAt, EndsAt, LinesJudged, lines_judged, ends-once}

-- Line 7 comes before every other, line 8 before those behind it.
size-first : (W : Vocabulary) (b : List ℕ) {m r : ℕ} → TermLine W b m r → Sooner 7 0 m r
size-first W b (size o) = inr (refl, inr (refl, omega arith))
size-first W b (kind s l e h) = inl (omega arith)
size-first W b (inside s l x d ds n q e p u h) = inl (omega (arith, node-rank W x d h))
size-first W b (more s l x c r e p u v) = inl (omega arith)

pub same_bytes : (W : Vocabulary) (s s' : ℕ) (l l' : List ℕ) (x : State) → ◌≡◌ {A = List ℕ} (s ∷ l) (s' ∷ l') → LeadsTo W s' l' x → LeadsTo W s l x
same_bytes W s s' l l' x e p = let u : s' ≡ s = cc in let v : l' ≡ l = cc in subst₂ (λ s l. LeadsTo W s l x) u v p

-- The bytes are as many as allowed.
module _ (W : Vocabulary) (in_order : InOrder W) (s : ℕ) (l : List ℕ) (fits : outside least_bytes most_bytes (suc (length l)) ≡ false) where
  fair : Outside least_bytes most_bytes (suc (length l)) → ⊥
  fair = let h = outside_false least_bytes most_bytes (suc (length l)) fits in no-outside least_bytes most_bytes (suc (length l)) h.0 h.1

  kind-first : {m r : ℕ} → TermLine W (s ∷ l) m r → Sooner 8 0 m r
  kind-first (size o) = absurd (fair o)
  kind-first (kind s l e h) = inr (refl, inr (refl, omega arith))
  kind-first (inside s l x d ds n q e p u h) = inl (omega (arith, node-rank W x d h))
  kind-first (more s l x c r e p u v) = inl (omega arith)

  module _ (below : s < W.kinds) where
    -- What holds of the lines 9 to 14 and of line 15 holds of every line that fits.
    every_line : (P : ℕ → ℕ → Type 0) → ((n q : ℕ) → LineIn W s l n q → P n q) →
        ((x : State) (c : ℕ) (r : List ℕ) → LeadsTo W s l x → x.due ≡ [] → x.rest ≡ c ∷ r → P 15 x.at) →
        {m r : ℕ} → TermLine W (s ∷ l) m r → P m r
    every_line P f g (size o) = absurd (fair o)
    every_line P f g (kind s' l' e h) = let p : s' ≡ s = cc in absurd (omega arith)
    every_line P f g (inside s' l' x d ds n q e p u h) =
        f n q (record { state = x; first = d; later = ds; leads = same_bytes W s s' l l' x e p; due = u; fits = h })
    every_line P f g (more s' l' x c r e p u v) = g x c r (same_bytes W s s' l l' x e p) u v

    checked : (x : Got Read) → read_term W most_levels true s [] l ≡ x → checked_term W (s ∷ l) ≡ line15 (s ∷ l) s x
    checked x e =
        cond_false (outside least_bytes most_bytes (suc (length l))) _ _ fits
        ∙ cond_true (ltb s W.kinds) _ _ (lt-ltb s W.kinds below)
        ∙ ap (line15 (s ∷ l) s) e

    refuses-stop : (n : ℕ) (r : List ℕ) → read_term W most_levels true s [] l ≡ stop n r → StopsAt W s l n r →
        RefusesBy (TermLine W (s ∷ l)) (checked_term W (s ∷ l))
    refuses-stop n r e t =
        let line = t.fits in
        let nine = node-rank W _ _ line.fits in
        let o : suc (length l) - length r ≡ t.place = omega (arith, t.placed) in
        refuses-one (TermLine W (s ∷ l)) (checked_term W (s ∷ l)) n t.place (checked _ e ∙ ap (refuse n) o)
        (record {
          fits = inside s l line.state line.first line.later n t.place refl line.leads line.due line.fits;
          first = λ m q h.
              every_line (Sooner n t.place) (λ m q k. inr (nine ∙ sym (node-rank W _ _ k.fits), t.first m q k)) (λ x c r' p u v. inl (omega arith)) h;
        })

    refuses-got : (a : Read) (r : List ℕ) → read_term W most_levels true s [] l ≡ got a r → EndsAt W s l r →
        RefusesBy (TermLine W (s ∷ l)) (checked_term W (s ∷ l))
    refuses-got a [] e t =
        refuses_none (TermLine W (s ∷ l)) (checked_term W (s ∷ l)) (record { kind = s; term = a.term }) (checked _ e)
        (λ m q h. every_line (λ m q. ⊥) t.clear
        (λ x c r p u v. let same = ends-once W in_order s l x _ p t.leads u refl in let z : ◌≡◌ {A = ℕ} 0 1 = cc same.0 in omega arith) h)
    refuses-got a (c ∷ r) e t =
        let o : suc (length l) - suc (length r) ≡ t.at = omega (arith, t.placed) in
        refuses-one (TermLine W (s ∷ l)) (checked_term W (s ∷ l)) 15 t.at (checked _ e ∙ ap (refuse 15) o)
        (record {
          fits = more s l _ c r refl t.leads refl refl;
          first = λ m q h. every_line (Sooner 15 t.at) (λ m q k. absurd (t.clear m q k))
              (λ x c r p u v. let same = ends-once W in_order s l x _ p t.leads u refl in inr (refl, inr (sym same.1, omega arith))) h;
        })

    refuses-read : (x : Got Read) → read_term W most_levels true s [] l ≡ x → LinesJudged W s l x →
        RefusesBy (TermLine W (s ∷ l)) (checked_term W (s ∷ l))
    refuses-read (stop n r) e t = refuses-stop n r e t
    refuses-read (got a r) e t = refuses-got a r e t

pub term_refusals : TermRefusals
term_refusals W b in_order = long b (outside least_bytes most_bytes (length b)) refl
  where
    kinds : (s : ℕ) (l : List ℕ) → outside least_bytes most_bytes (suc (length l)) ≡ false → (t : Bool) → ltb s W.kinds ≡ t →
        RefusesBy (TermLine W (s ∷ l)) (checked_term W (s ∷ l))
    kinds s l f true e = refuses-read W in_order s l f (ltb-true _ _ e) (read_term W most_levels true s [] l) refl (lines_judged W in_order s l)
    kinds s l f false e =
        refuses-one (TermLine W (s ∷ l)) (checked_term W (s ∷ l)) 8 0
        (cond_false (outside least_bytes most_bytes (suc (length l))) _ _ f ∙ cond_false (ltb s W.kinds) _ _ e)
        (record { fits = kind s l refl (ltb-false _ _ e); first = λ m q h. kind-first W in_order s l f h })

    long : (b : List ℕ) (t : Bool) → outside least_bytes most_bytes (length b) ≡ t → RefusesBy (TermLine W b) (checked_term W b)
    long b true e =
        refuses-one (TermLine W b) (checked_term W b) 7 0 (cond_true (outside least_bytes most_bytes (length b)) _ _ e)
        (record { fits = size (outside_true least_bytes most_bytes (length b) e); first = λ m q h. size-first W b h })
    long [] false e = let z : ◌≡◌ {A = ℕ} 0 1 = cc in absurd (omega arith)
    long (s ∷ l) false e = kinds s l e (ltb s W.kinds) refl
