-- MatchExample: a yes and a no of document 01, derived from what match promises.
--
--   says-yes    of pair(n0, n0) with pair(a, a) the promise gives: the reply is yes, and there is a filling
--   covers-a    .. which gives n0 the term that stands at offset 3, two bytes long
--   says-no     of pair(n0, n0) with pair(a, b) it gives: the reply is no, the table is as it was, and no substitution
--               turns the one into the other
--
use mathlib.Core.Path.{◌≡◌, refl, sym, ap, ◌∙◌}
use mathlib.Core.List.{List, [], ◌∷◌}
use mathlib.Core.Logic.{◌⊎◌, inl, inr}
use mathlib.Core.Option.{none-ne-some}
use Prim.Native.Nat.{ℕ, ◌<◌}
use native.Mathlib.Omega.{arith}
use lib.ListN.{take, drop}
use Rattle.terms.specs.Term.{Term, var, app, nil, cons, Ground, gapp, gnil, gcons, as_term}
use Rattle.terms.specs.Filling.{Filling, value_of, Fits}
use Rattle.terms.specs.Substitution.{Matches, as_tm, with_variables}
use Rattle.terms.proofs.Theorems.{matcher_is_exact}
use Rattle.wire.specs.Reply.{Reply, IsBytes}
use Rattle.wire.specs.Vocabulary.{Word, Vocabulary, signature}
use Rattle.wire.specs.TermBytes.{encode_at}
use Rattle.wire.specs.Matching.{Inputs, HoldsInputs, TurnsInputs, yes, no, cut_out, MatchPromise}
use Rattle.wire.specs.Starred.{C, lent}
use Rattle.wire.proofs.Inputs.{clear_is_held}

abbrev word : ℕ → List ℕ → Word
word m ks = record { result = 0; place_map = m; kinds = ks }

-- Vocabulary C: a, b and pair.
abbrev W : Vocabulary
W = record { kinds = 1; words = word 0 [] ∷ word 0 [] ∷ word 3 (0 ∷ 0 ∷ []) ∷ [] }

abbrev pattern : Term
pattern = app 2 (cons (var 0) (cons (var 0) nil))

-- pair of a and the constant f.
abbrev pair_with : ℕ → Ground
pair_with f = gapp 2 (gcons (gapp 0 gnil) (gcons (gapp f gnil) gnil))

abbrev inputs : ℕ → Inputs
inputs f = record { vocabulary = W; kind = 0; pattern = pattern; situation = pair_with f }

abbrev p : List ℕ
p = 0x00 ∷ 0x02 ∷ 0x03 ∷ 0x80 ∷ 0x80 ∷ []

abbrev s : ℕ → List ℕ
s f = 0x00 ∷ 0x02 ∷ 0x03 ∷ 0x00 ∷ 0x00 ∷ f ∷ 0x00 ∷ []

C-bytes : IsBytes C
C-bytes = omega arith

p-bytes : IsBytes p
p-bytes = omega arith

s-bytes : (f : ℕ) → f < 256 → IsBytes (s f)
s-bytes f h = omega arith

held-a : HoldsInputs C p (s 0) (inputs 0)
held-a = (clear_is_held C p (s 0) (inputs 0) C-bytes p-bytes (s-bytes 0 (omega arith))).0 refl

held-b : HoldsInputs C p (s 1) (inputs 1)
held-b = (clear_is_held C p (s 1) (inputs 1) C-bytes p-bytes (s-bytes 1 (omega arith))).0 refl

-- The matcher finds a filling for pair(a, a), and none for pair(a, b).
fits-a : Fits (signature W) pattern 0 (pair_with 0)
fits-a = let f : Filling = record { named = record { name = 0; value = gapp 0 gnil } ∷ []; opened = [] } in
    (f, (matcher_is_exact (signature W) pattern 0 (pair_with 0) f held-a.pattern.good.sorted.sorted (omega arith)).0 refl)

fits-b : Fits (signature W) pattern 0 (pair_with 1) → ⊥
fits-b (f, turns) =
    let found = (matcher_is_exact (signature W) pattern 0 (pair_with 1) f held-b.pattern.good.sorted.sorted (omega arith)).1 turns in
    none-ne-some f found

module _ (after : List ℕ) (r : Reply) where
  pub says-yes : MatchPromise C p (s 0) lent after r → (r ≡ yes) × Fits (signature W) pattern 0 (pair_with 0)
  says-yes m = ((m.fits (inputs 0) held-a refl).1 fits-a, fits-a)

  pub covers-a :
      MatchPromise C p (s 0) lent after r → (f : Filling) → TurnsInputs (inputs 0) f →
      take 2 (drop 3 (s 0)) ≡ encode_at W (as_term (value_of f.named 0))
  covers-a m f h =
      let t = m.parts (inputs 0) held-a (says-yes m).0 f h in
      sym (ap (cut_out (s 0)) (t.first 0 (omega arith))) ∙ t.named 0 (omega arith) refl

  pub says-no : MatchPromise C p (s 1) lent after r →
      (r ≡ no) × (after ≡ lent) × (Matches (with_variables (signature W) pattern 0) (as_tm (pair_with 1)) → ⊥)
  says-no m = (answer (m.answered.1 (inputs 1, held-b, refl)), m.kept not_yes, λ h. not_yes ((m.agrees (inputs 1) held-b refl).1 h))
    where
      not_yes : r ≡ yes → ⊥
      not_yes e = fits-b ((m.fits (inputs 1) held-b refl).0 e)

      answer : (r ≡ yes) ⊎ (r ≡ no) → r ≡ no
      answer (inl e) = absurd (not_yes e)
      answer (inr e) = e
