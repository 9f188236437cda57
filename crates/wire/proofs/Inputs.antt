-- Inputs: the inputs of match are in order exactly where they are the writings of good ones within the limits.
use mathlib.Core.Path.{◌≡◌, refl, ap, ◌∙◌, subst, subst₂}
use mathlib.Core.Bool.{Bool, true, false, cond}
use mathlib.Core.List.{List}
use mathlib.Core.Logic.{◌↔◌}
use mathlib.Core.Option.{Option, some, none}
use Prim.Native.Nat.{ℕ, ◌≤◌}
use native.Mathlib.Omega.{arith}
use lib.Dec.{eqb}
use lib.ListN.{length}
use borrow.Author.Tests.{eqb-true}
use Rattle.terms.specs.Term.{Ground, as_term}
use Rattle.terms.proofs.Bools.{eqb_refl}
use Rattle.wire.specs.Parser.{Reading, accept, refuse, read_vocabulary}
use Rattle.wire.specs.Reply.{IsBytes, Kinded, kinded}
use Rattle.wire.specs.Vocabulary.{Vocabulary, InOrder, HoldsVocabulary}
use Rattle.wire.specs.TermBytes.{least_bytes, HoldsTerm, complete}
use Rattle.wire.specs.GapComputed.{first_gap}
use Rattle.wire.specs.SituationComputed.{ground, situation_of, situation_in, checked_situation}
use Rattle.wire.specs.CheckComputed.{checked_term}
use Rattle.wire.specs.Matching.{Inputs, HoldsInputs}
use Rattle.wire.specs.MatchComputed.{Judged, clear, refusal, judged_situation, judged_pattern, judged_vocabulary, judged}
use Rattle.wire.proofs.Cond.{cond_true}
use Rattle.wire.proofs.Levels.{deepest-bytes}
use Rattle.wire.proofs.VocabulariesInverse.{vocabularies_inverse}
use Rattle.wire.proofs.TermsInverse.{terms_inverse}
use Rattle.wire.proofs.Limits.{limits_are_a_test}
use Rattle.wire.proofs.GroundBytes.{ground_back}
use Rattle.wire.proofs.Complete.{complete-ground, ground-complete, no_gap_is_complete}

-- A term handed to a call is accepted exactly where it is the writing of a good one within the limits.
pub checked_in : (W : Vocabulary) (b : List ℕ) (x : Kinded) → InOrder W → IsBytes b → checked_term W b ≡ accept x → HoldsTerm W b x.kind x.term
checked_in W b x in_order bytes e =
    let read = (limits_are_a_test W b x).0 e in
    let inverse = (terms_inverse W b x.kind x.term in_order bytes).0 read.0 in
    let least : least_bytes ≤ length b = omega (arith, deepest-bytes W x.term, ap length inverse.1) in
    record { good = inverse.0; written = inverse.1; limits = record { least = least; most = read.1; levels = read.2 } }

pub in_checked : (W : Vocabulary) (b : List ℕ) (x : Kinded) → InOrder W → IsBytes b → HoldsTerm W b x.kind x.term → checked_term W b ≡ accept x
in_checked W b x in_order bytes h =
    (limits_are_a_test W b x).1
    ((terms_inverse W b x.kind x.term in_order bytes).1 (h.good, h.written), h.limits.most, h.limits.levels)

-- The same of a situation for a pattern of kind k, which is a ground term.
abbrev AcceptedIn : Vocabulary → List ℕ → ℕ → Reading Ground → Type 0
AcceptedIn W b k (refuse n q) = Unit {0}
AcceptedIn W b k (accept g) = HoldsTerm W b k (as_term g)

situation_in-of : (W : Vocabulary) (b : List ℕ) (k : ℕ) → InOrder W → IsBytes b → AcceptedIn W b k (checked_situation W k b)
situation_in-of W b k in_order bytes = go (checked_term W b) refl
  where
    kinds : (x : Kinded) → HoldsTerm W b x.kind x.term → complete x.term ≡ true → (c : Bool) → eqb x.kind k ≡ c →
        AcceptedIn W b k (cond c (accept (ground x.term)) (refuse 17 0))
    kinds x h full true e = subst₂ (HoldsTerm W b) (eqb-true x.kind k e) (complete-ground x.term full) h
    kinds x h full false e = tt

    gaps : (x : Kinded) → HoldsTerm W b x.kind x.term → (o : Option ℕ) → first_gap W x.term ≡ o → AcceptedIn W b k (situation_of k x o)
    gaps x h (some q) e = tt
    gaps x h none e = kinds x h ((no_gap_is_complete W x.term).0 e) (eqb x.kind k) refl

    go : (r : Reading Kinded) → checked_term W b ≡ r → AcceptedIn W b k (situation_in W k r)
    go (refuse n q) e = tt
    go (accept x) e = gaps x (checked_in W b x in_order bytes e) (first_gap W x.term) refl

pub situation_in_lem : (W : Vocabulary) (b : List ℕ) (k : ℕ) (g : Ground) → InOrder W → IsBytes b →
    checked_situation W k b ≡ accept g → HoldsTerm W b k (as_term g)
situation_in_lem W b k g in_order bytes e = subst (AcceptedIn W b k) e (situation_in-of W b k in_order bytes)

pub in_situation : (W : Vocabulary) (b : List ℕ) (k : ℕ) (g : Ground) → InOrder W → IsBytes b →
    HoldsTerm W b k (as_term g) → checked_situation W k b ≡ accept g
in_situation W b k g in_order bytes h =
    let x : Kinded = kinded k (as_term g) in
    ap (situation_in W k) (in_checked W b x in_order bytes h)
    ∙ ap (situation_of k x) ((no_gap_is_complete W (as_term g)).1 (ground-complete g))
    ∙ cond_true (eqb k k) _ _ (eqb_refl k)
    ∙ ap accept (ground_back g)

abbrev ClearHolds : List ℕ → List ℕ → List ℕ → Judged → Type 0
ClearHolds v p s (refusal n i q) = Unit {0}
ClearHolds v p s (clear x) = HoldsInputs v p s x

-- A vocabulary that is read, and what follows from it.
module _ (v p s : List ℕ) (bp : IsBytes p) (bs : IsBytes s) (W : Vocabulary) (held : HoldsVocabulary v W) where
  situations-clear : (x : Kinded) → HoldsTerm W p x.kind x.term → (r : Reading Ground) → checked_situation W x.kind s ≡ r →
      ClearHolds v p s (judged_situation W x r)
  situations-clear x h (refuse n q) e = tt
  situations-clear x h (accept g) e =
      record { vocabulary = held; pattern = h; situation = situation_in_lem W s x.kind g held.in_order bs e }

  patterns-clear : (r : Reading Kinded) → checked_term W p ≡ r → ClearHolds v p s (judged_pattern W s r)
  patterns-clear (refuse n q) e = tt
  patterns-clear (accept x) e = situations-clear x (checked_in W p x held.in_order bp e) (checked_situation W x.kind s) refl

judged-clear : (v p s : List ℕ) → IsBytes v → IsBytes p → IsBytes s → ClearHolds v p s (judged v p s)
judged-clear v p s bv bp bs = go (read_vocabulary v) refl
  where
    go : (r : Reading Vocabulary) → read_vocabulary v ≡ r → ClearHolds v p s (judged_vocabulary p s r)
    go (refuse n q) e = tt
    go (accept W) e = patterns-clear v p s bp bs W ((vocabularies_inverse v W bv).0 e) (checked_term W p) refl

held-judged : (v p s : List ℕ) (x : Inputs) → IsBytes v → IsBytes p → IsBytes s → HoldsInputs v p s x → judged v p s ≡ clear x
held-judged v p s x bv bp bs h =
    let W : Vocabulary = x.vocabulary in
    let k : Kinded = kinded x.kind x.pattern in
    let in_order = h.vocabulary.in_order in
    ap (judged_vocabulary p s) ((vocabularies_inverse v W bv).1 h.vocabulary)
    ∙ ap (judged_pattern W s) (in_checked W p k in_order bp h.pattern)
    ∙ ap (judged_situation W k) (in_situation W s x.kind x.situation in_order bs h.situation)

pub clear_is_held : (v p s : List ℕ) (x : Inputs) → IsBytes v → IsBytes p → IsBytes s → (judged v p s ≡ clear x) ↔ HoldsInputs v p s x
clear_is_held v p s x bv bp bs = (
  (λ e. subst (ClearHolds v p s) e (judged-clear v p s bv bp bs)),
  held-judged v p s x bv bp bs,
)
