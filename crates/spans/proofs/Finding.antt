-- Finding: the answers of finding the spans are those of match for a blank table.
--
--   Lent v p s, lent_bytes                the lent inputs are bytes
--   judged-clear, inputs_read             inputs that are not refused are read
--   Ensured                               what finding the spans ensures of a reply
--   find_refused, find_fits, find_differs    it does so of each answer
--   walked_as                             what a walk says, by its answer
--
use mathlib.Core.Path.{◌≡◌, refl, sym, ap, subst}
use mathlib.Core.Bool.{Bool, true, false, true≢false, false≢true}
use mathlib.Core.List.{List, []}
use mathlib.Core.Option.{Option, some, none}
use Prim.Native.Nat.{ℕ}
use native.Mathlib.Omega.{arith}
use mir.Syntax.{w8}
use mir.Val.{Fits}
use lib.ListN.{get_or, replicate}
use Rattle.terms.specs.Filling.{Filling}
use Rattle.terms.specs.Matcher.{matcher}
use Rattle.wire.specs.Reply.{Reply, accepted, IsBytes}
use Rattle.wire.specs.Matching.{Inputs, yes, no}
use Rattle.wire.specs.Effect.{Effect, HasEffect}
use Rattle.wire.specs.MatchComputed.{Judged, clear, refusal, judged, clear_reply, verdict, matched_with, matched}
use Rattle.wire.proofs.Bytes.{bytes_of}
use Rattle.wire.proofs.Inputs.{clear_is_held}
use Rattle.inputs.specs.Answers.{inputs_refused}
use Rattle.inputs.specs.declared.InputsRefusal.{InputsRefusal}
use Rattle.spans.specs.Walking.{InputsRead, found, Walked, WalkedOver}
use Rattle.spans.proofs.Answers.{not_accepted}

-- The lent inputs are bytes.
pub record Lent (v p s : List ℕ) : Type 0 where
  pub vocabulary : IsBytes v
  pub pattern : IsBytes p
  pub situation : IsBytes s

pub lent_bytes : (v p s : List ℕ) → ((i : ℕ) → Fits w8 (get_or v i 0)) → ((i : ℕ) → Fits w8 (get_or p i 0)) → ((i : ℕ) → Fits w8 (get_or s i 0)) → Lent v p s
lent_bytes v p s h k l = record {
  vocabulary = bytes_of v (λ i. (h i).fits);
  pattern = bytes_of p (λ i. (k i).fits);
  situation = bytes_of s (λ i. (l i).fits);
}

judged-clear : (j : Judged) → accepted [] ≡ clear_reply j → (x : Inputs) × (j ≡ clear x)
judged-clear (clear x) e = (x, refl)
judged-clear (refusal n i q) e = absurd (let z : ◌≡◌ {A = ℕ} 0 1 = cc in omega arith)

pub inputs_read : {v p s : List ℕ} → Lent v p s → accepted [] ≡ clear_reply (judged v p s) → InputsRead p s
inputs_read {v} {p} {s} lent e =
    let j = judged-clear (judged v p s) e in
    record { bytes = v; inputs = j.0; held = (clear_is_held v p s j.0 lent.vocabulary lent.pattern lent.situation).0 j.1 }

abbrev blank : List ℕ
blank = replicate 128 0

module _ (v p s after : List ℕ) where
  -- What is ensured of a reply.
  abbrev Ensured : Reply → Type 0
  Ensured r = HasEffect (matched v p s blank) r after

  pub find_refused : (why : InputsRefusal) → inputs_refused why ≡ clear_reply (judged v p s) → after ≡ blank → Ensured (inputs_refused why)
  find_refused why e t = go (judged v p s) e
    where
      go : (j : Judged) → inputs_refused why ≡ clear_reply j → HasEffect (matched_with blank j) (inputs_refused why) after
      go (clear x) e = absurd (not_accepted why [] e)
      go (refusal n i q) e = record { reply = e; after = t }

  module _ (lent : Lent v p s) (clears : accepted [] ≡ clear_reply (judged v p s)) where
    here : Inputs
    here = (inputs_read lent clears).inputs

    matched-here : matched v p s blank ≡ verdict blank here (matcher here.pattern here.situation)
    unfolding here inputs_read
    matched-here = ap (matched_with blank) (judged-clear (judged v p s) clears).1

    ensured : {r : Reply} → HasEffect (verdict blank here (matcher here.pattern here.situation)) r after → Ensured r
    ensured {r} h = subst (λ (m : Effect). HasEffect m r after) (sym matched-here) h

    walked_here : {spans : List ℕ} {r : Bool} → Walked p s spans r → WalkedOver here spans r
    unfolding here
    walked_here walked = walked (inputs_read lent clears)

    pub find_fits : Walked p s after true → Ensured yes
    find_fits walked = ensured (go (matcher here.pattern here.situation) (walked_here walked).answer)
      where
        go : (o : Option Filling) → true ≡ found o → HasEffect (verdict blank here o) yes after
        go (some f) e = record { reply = refl; after = (walked_here walked).table refl }
        go none e = absurd (true≢false e)

    pub find_differs : {spans : List ℕ} → Walked p s spans false → after ≡ blank → Ensured no
    find_differs walked t = ensured (go (matcher here.pattern here.situation) (walked_here walked).answer)
      where
        go : (o : Option Filling) → false ≡ found o → HasEffect (verdict blank here o) no after
        go (some f) e = absurd (false≢true e)
        go none e = record { reply = refl; after = t }

-- ---- what a walk says, by its answer

pub walked_as : {p s spans : List ℕ} {r : Bool} (b : Bool) → r ≡ b → Walked p s spans r → Walked p s spans b
walked_as {p} {s} {spans} b e h = subst (λ q. Walked p s spans q) e h
