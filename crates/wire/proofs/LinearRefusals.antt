-- LinearRefusals: a pattern to be listed is refused by lines 7 to 15 and 18 of the refusal list.
use mathlib.Core.Path.{◌≡◌, refl, sym, ◌∙◌, subst}
use mathlib.Core.List.{List, [], ◌++◌, append-nil}
use mathlib.Core.Logic.{inl}
use mathlib.Core.Option.{Option, some, none}
use Prim.Native.Nat.{ℕ, ◌≤◌}
use native.Mathlib.Omega.{arith}
use Rattle.terms.specs.Term.{Term}
use Rattle.wire.specs.Parser.{Reading, accept, refuse}
use Rattle.wire.specs.Vocabulary.{Vocabulary, InOrder}
use Rattle.wire.specs.TermBytes.{encode_term, GoodTerm}
use Rattle.wire.specs.Reply.{Kinded, kinded}
use Rattle.wire.specs.CheckComputed.{checked_term}
use Rattle.wire.specs.Refusals.{rank, Sooner, Decides}
use Rattle.wire.specs.Laws.{RefusesBy, LinearRefusals}
use Rattle.wire.specs.TermLines.{TermLine}
use Rattle.wire.specs.PatternLines.{sightings, RepeatedAt, PatternLine, every_term, twice}
use Rattle.wire.specs.ListComputed.{repeated_in, linear_of, linear_in, checked_linear}
use Rattle.wire.proofs.Refusals.{sooner_place, refuses_by, Judged}
use Rattle.wire.proofs.Front.{term-front}
use Rattle.wire.proofs.Limits.{limits_are_a_test}
use Rattle.wire.proofs.TermsInverse.{terms_inverse}
use Rattle.wire.proofs.TermRefusals.{term_refusals}
use Rattle.wire.proofs.SituationRefusals.{term-rank}
use Rattle.wire.proofs.Repeats.{repeated_is_exact}

-- The term is refused, so the pattern is.
term_decides : (W : Vocabulary) (b : List ℕ) (n q : ℕ) → Decides (TermLine W b) n q → Decides (PatternLine W b) n q
term_decides W b n q d = record { fits = every_term n q d.fits; first = λ m r h. first h }
  where
    low : rank n ≤ 15
    low = term-rank W b d.fits

    first : {m r : ℕ} → PatternLine W b m r → Sooner n q m r
    first (every_term m r h) = d.first m r h
    first (twice s t l r good e g) = inl (omega (arith, low))

-- The bytes are the writing of a good term, and none of lines 7 to 15 fits.
module _ (W : Vocabulary) (in_order : InOrder W) (b : List ℕ) (s : ℕ) (t : Term) (good : GoodTerm W s t)
    (written : b ≡ encode_term W s t) (clear : (n q : ℕ) → TermLine W b n q → ⊥) where
  -- Only the names of this very term are repeated, and one place is the earliest.
  repeated_here : (s' : ℕ) (u : Term) (r : List ℕ) (q : ℕ) → GoodTerm W s' u → b ≡ encode_term W s' u ++ r →
      RepeatedAt (sightings W u) q → repeated_in [] (sightings W t) ≡ some q
  repeated_here s' u r q good' e g =
      let front = term-front W in_order s s' t u [] r good good' (append-nil (encode_term W s t) ∙ sym written ∙ e) in
      (repeated_is_exact (sightings W t) q).1 (subst (λ u. RepeatedAt (sightings W u) q) (sym front.1) g)

  repeated_judged : (o : Option ℕ) → repeated_in [] (sightings W t) ≡ o → Judged (PatternLine W b) (linear_of (kinded s t) o)
  repeated_judged (some q) e = record {
    fits = twice s t [] q good (written ∙ sym (append-nil (encode_term W s t))) ((repeated_is_exact (sightings W t) q).0 e);
    first = λ m r h. first h;
  }
    where
      first : {m r : ℕ} → PatternLine W b m r → Sooner 18 q m r
      first (every_term m r h) = absurd (clear m r h)
      first (twice s' u l r good' e' g) =
          let h = repeated_here s' u l r good' e' g in
          let same : q ≡ r = cc in
          sooner_place 18 q r (omega arith)
  repeated_judged none e = λ n q h. line h
    where
      line : {m r : ℕ} → PatternLine W b m r → ⊥
      line (every_term m r h) = clear m r h
      line (twice s' u l r good' e' g) =
          let h = repeated_here s' u l r good' e' g in
          let z : ◌≡◌ {A = ℕ} 0 1 = cc in omega arith

pub linear_refusals : LinearRefusals
linear_refusals W b in_order bytes = refuses_by (PatternLine W b) (checked_linear W b) (go (checked_term W b) refl)
  where
    refusals : RefusesBy (TermLine W b) (checked_term W b)
    refusals = term_refusals W b in_order

    go : (r : Reading Kinded) → checked_term W b ≡ r → Judged (PatternLine W b) (linear_in W r)
    go (refuse n q) e = term_decides W b n q ((refusals.given n q).0 e)
    go (accept x) e =
        let read = (terms_inverse W b x.kind x.term in_order bytes).0 ((limits_are_a_test W b x).0 e).0 in
        repeated_judged W in_order b x.kind x.term read.0 read.1
        (λ n q h. refusals.some.0 (n, q, h) x e) (repeated_in [] (sightings W x.term)) refl
