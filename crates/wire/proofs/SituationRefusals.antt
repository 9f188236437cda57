-- SituationRefusals: a situation handed to a call is refused by lines 7 to 17 of the refusal list.
use mathlib.Core.Path.{◌≡◌, refl, sym, ◌∙◌, subst}
use mathlib.Core.Bool.{Bool, true, false, cond}
use mathlib.Core.List.{List, [], ◌++◌, append-nil}
use mathlib.Core.Logic.{inl, inr}
use mathlib.Core.Option.{Option, some, none}
use Prim.Native.Nat.{ℕ, ◌≤◌}
use native.Mathlib.Omega.{arith}
use lib.Dec.{eqb}
use borrow.Author.Tests.{eqb-true, eqb-false}
use Rattle.terms.specs.Term.{Term}
use Rattle.wire.specs.Parser.{Reading, accept, refuse}
use Rattle.wire.specs.Vocabulary.{Vocabulary, InOrder}
use Rattle.wire.specs.TermBytes.{encode_root, encode_term, GoodTerm}
use Rattle.wire.specs.GapComputed.{first_gap}
use Rattle.wire.specs.SituationComputed.{ground, situation_of, situation_in, checked_situation}
use Rattle.wire.specs.Reply.{Kinded}
use Rattle.wire.specs.CheckComputed.{checked_term}
use Rattle.wire.specs.Refusals.{rank, Sooner, Decides}
use Rattle.wire.specs.Laws.{RefusesBy, SituationRefusals}
use Rattle.wire.specs.TermLines.{TermLine, size, kind, inside, more}
use Rattle.wire.specs.SituationLines.{FirstGap, SituationLine, every_term, incomplete, other_kind}
use Rattle.wire.proofs.Refusals.{sooner_place, refuses_by, Judged}
use Rattle.wire.proofs.Front.{term-front}
use Rattle.wire.proofs.Gaps.{first_gap_is_exact}
use Rattle.wire.proofs.Limits.{limits_are_a_test}
use Rattle.wire.proofs.TermsInverse.{terms_inverse}
use Rattle.wire.proofs.LinesRead.{node-rank}
use Rattle.wire.proofs.TermRefusals.{term_refusals}

-- Lines 7 to 15 come before 16 to 18.
pub term-rank : (W : Vocabulary) (b : List ℕ) {n q : ℕ} → TermLine W b n q → rank n ≤ 15
term-rank W b (size o) = omega arith
term-rank W b (kind s l e h) = omega arith
term-rank W b (inside s l x d ds n q e p u h) = omega (arith, node-rank W x d h)
term-rank W b (more s l x c r e p u v) = omega arith

-- The term is refused, so the situation is.
term_decides : (W : Vocabulary) (k : ℕ) (b : List ℕ) (n q : ℕ) → Decides (TermLine W b) n q → Decides (SituationLine W k b) n q
term_decides W k b n q d = record { fits = every_term n q d.fits; first = λ m r h. first h }
  where
    low : rank n ≤ 15
    low = term-rank W b d.fits

    first : {m r : ℕ} → SituationLine W k b m r → Sooner n q m r
    first (every_term m r h) = d.first m r h
    first (incomplete s t l r good e g) = inl (omega (arith, low))
    first (other_kind s l e h) = inl (omega (arith, low))

-- The bytes are the writing of a good term, and none of lines 7 to 15 fits.
module _ (W : Vocabulary) (in_order : InOrder W) (k : ℕ) (b : List ℕ) (s : ℕ) (t : Term) (good : GoodTerm W s t)
    (written : b ≡ encode_term W s t) (clear : (n q : ℕ) → TermLine W b n q → ⊥) where
  -- Only the gap of this very term is a gap.
  gap_here_lem : (s' : ℕ) (u : Term) (r : List ℕ) (q : ℕ) → GoodTerm W s' u → b ≡ encode_term W s' u ++ r → FirstGap W u q → FirstGap W t q
  gap_here_lem s' u r q good' e g =
      let front = term-front W in_order s s' t u [] r good good' (append-nil (encode_term W s t) ∙ sym written ∙ e) in
      subst (λ u. FirstGap W u q) (sym front.1) g

  gap_decides : (q : ℕ) → first_gap W t ≡ some q → Decides (SituationLine W k b) 16 q
  gap_decides q e = record {
    fits = incomplete s t [] q good (written ∙ sym (append-nil (encode_term W s t))) gap;
    first = λ m r h. first h;
  }
    where
      gap : FirstGap W t q
      gap = (first_gap_is_exact W s t in_order good q).0 e

      first : {m r : ℕ} → SituationLine W k b m r → Sooner 16 q m r
      first (every_term m r h) = absurd (clear m r h)
      first (incomplete s' u l r good' e g) = sooner_place 16 q r (gap.first r (gap_here_lem s' u l r good' e g).gap)
      first (other_kind s' l e h) = inl (omega arith)

  module _ (full : first_gap W t ≡ none) where
    other_lines : (P : ℕ → ℕ → Type 0) → ((s ≡ k → ⊥) → P 17 0) → {m r : ℕ} → SituationLine W k b m r → P m r
    other_lines P f (every_term m r h) = absurd (clear m r h)
    other_lines P f (incomplete s' u l r good' e g) =
        let h = (first_gap_is_exact W s t in_order good r).1 (gap_here_lem s' u l r good' e g) in
        let z : ◌≡◌ {A = ℕ} 0 1 = cc in absurd (omega arith)
    other_lines P f (other_kind s' l e h) =
        let same : s' ≡ s = cc in
        f (λ q. h (same ∙ q))

    kind-judged : (c : Bool) → eqb s k ≡ c → Judged (SituationLine W k b) (cond c (accept (ground t)) (refuse 17 0))
    kind-judged true e = λ n q h. other_lines (λ n q. ⊥) (λ d. d (eqb-true s k e)) h
    kind-judged false e = record {
      fits = other_kind s (encode_root W t) written (eqb-false s k e);
      first = λ m r h. other_lines (Sooner 17 0) (λ d. inr (refl, inr (refl, omega arith))) h;
    }

  gap-judged : (o : Option ℕ) → first_gap W t ≡ o → Judged (SituationLine W k b) (situation_of k (record { kind = s; term = t }) o)
  gap-judged (some q) e = gap_decides q e
  gap-judged none e = kind-judged e (eqb s k) refl

pub situation_refusals : SituationRefusals
situation_refusals W k b in_order bytes = refuses_by (SituationLine W k b) (checked_situation W k b) (go (checked_term W b) refl)
  where
    refusals : RefusesBy (TermLine W b) (checked_term W b)
    refusals = term_refusals W b in_order

    go : (r : Reading Kinded) → checked_term W b ≡ r → Judged (SituationLine W k b) (situation_in W k r)
    go (refuse n q) e = term_decides W k b n q ((refusals.given n q).0 e)
    go (accept x) e =
        let read = (terms_inverse W b x.kind x.term in_order bytes).0 ((limits_are_a_test W b x).0 e).0 in
        gap-judged W in_order k b x.kind x.term read.0 read.1
        (λ n q h. refusals.some.0 (n, q, h) x e) (first_gap W x.term) refl
