-- Turns: the loop over the places of a word.
--
--   Reached       how far it has come: a cut of the places from here on ends that of the places from the first on
--   reached_none  it begins
--   reached-on    the next place is cut, and entries are due later
--
use mathlib.Core.Path.{◌≡◌, refl, sym, ◌∙◌, subst}
use mathlib.Core.List.{List}
use Prim.Native.Nat.{ℕ, ◌+◌, ◌%◌, ◌≤◌}
use lib.Dec.{eqb}
use lib.ListN.{length}
use Rattle.extents.specs.Extents.{most_extent}
use Rattle.cuts.specs.declared.own.Walk.{Walk}
use Rattle.cuts.specs.declared.walk.Bits.{Bits}
use Rattle.std.specs.Prelude.{Ok}
use Rattle.cuts.specs.Walking.{Step, Inside, InMap}
use Rattle.cuts.specs.Cutting.{PutsMap, above_of, CutsTerms, CutsPlaces}
use Rattle.cuts.proofs.Places.{places-on}

pub record Reached (entry pattern siblings : List ℕ) (left : ℕ) (copy₀ : List ℕ) (w₀ : Walk) (bits₀ : Bits) (out₀ copy : List ℕ) (w : Walk) (bits : Bits) (out : List ℕ) : Type 0 where
  pub inside : Inside (length copy₀) (length entry) (length pattern) (length out₀) w
  pub map : InMap bits.low bits.bit bits.entry bits.pattern
  pub top : bits.top ≤ most_extent
  pub copy_length : length copy ≡ length copy₀
  pub out_length : length out ≡ length out₀
  pub ends : (copied after : List ℕ) (r : Step) → CutsPlaces copy w bits entry pattern siblings left out copied after r → CutsPlaces copy₀ w₀ bits₀ entry pattern siblings left out₀ copied after r

pub reached_none : {entry pattern siblings : List ℕ} {left : ℕ} {copy : List ℕ} {w : Walk} {bits : Bits} {out : List ℕ} →
    Inside (length copy) (length entry) (length pattern) (length out) w → InMap bits.low bits.bit bits.entry bits.pattern → bits.top ≤ most_extent →
    Reached entry pattern siblings left copy w bits out copy w bits out
reached_none i m t = record { inside = i; map = m; top = t; copy_length = refl; out_length = refl; ends = λ copied after r x. x }

pub reached-on : {entry pattern siblings : List ℕ} {left : ℕ} {copy₀ : List ℕ} {w₀ : Walk} {bits₀ : Bits} {out₀ copy : List ℕ} {w : Walk} {bits : Bits} {out : List ℕ} →
    Reached entry pattern siblings left copy₀ w₀ bits₀ out₀ copy w bits out → (bits.entry + bits.pattern ≡ 0 → ⊥) →
    {copied : List ℕ} → PutsMap bits copy copied → length copied ≡ length copy →
    (copied' mid : List ℕ) {r : Step} {next : Walk} → r ≡ Ok next →
    CutsTerms copied w (eqb (bits.entry % 2) 0) entry (eqb (bits.pattern % 2) 0) pattern siblings left out copied' mid r → (next.todo ≡ 0 → ⊥) →
    length copied' ≡ length copied → length mid ≡ length out → Inside (length copy₀) (length entry) (length pattern) (length out₀) next →
    {higher : Bits} → higher ≡ above_of bits w.at next.at → InMap higher.low higher.bit higher.entry higher.pattern →
    Reached entry pattern siblings left copy₀ w₀ bits₀ out₀ copied' next higher mid
reached-on {out = out} h some-bit puts put-kept copied' mid told cut goes_on_lem kept written i is m = record {
  inside = i;
  map = m;
  top = subst (λ u. u.top ≤ most_extent) (sym is) h.top;
  copy_length = kept ∙ (put-kept ∙ h.copy_length);
  out_length = written ∙ h.out_length;
  ends = λ copied'' after r x. h.ends copied'' after r (λ p. places-on out p some-bit puts copied' mid told cut goes_on_lem kept is copied'' after r x);
}
