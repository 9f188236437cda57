-- Kept: the list from which elements are left out is what a test that decides them keeps.
--
--   Decides P test x      the test says of x whether P holds of it
--   kept-keep, keep-kept  what is kept, against `keep`
--   kept-all              what holds of each element holds of each that is kept
--   kept-holds            P holds of each element that is kept
--
use mathlib.Core.Path.{◌≡◌, refl, sym, ◌∙◌, ap}
use mathlib.Core.Bool.{Bool, true, false, cond, true≢false}
use mathlib.Core.List.{List, [], ◌∷◌}
use mathlib.Core.Logic.{◌↔◌}
use Rattle.terms.specs.Lists.{All, keep, Kept, nothing, stays, goes}
use Rattle.terms.proofs.Bools.{false_of_not}

module _ {A : Type 0} (P : A → Type 0) where
  abbrev pub Decides : (A → Bool) → A → Type 0
  Decides test x = (test x ≡ true) ↔ P x

  pub kept-keep : (test : A → Bool) (l m : List A) → All (Decides test) l → Kept P l m → m ≡ keep test l
  kept-keep test l m a nothing = refl
  kept-keep test l m a (stays x l' m' h k) = rw (a.0.1 h) (ap (λ r. x ∷ r) (kept-keep test l' m' a.1 k))
  kept-keep test l m a (goes x l' m' h k) =
      let e : test x ≡ false = false_of_not (test x) (λ t. h (a.0.0 t)) in
      rw e (kept-keep test l' m a.1 k)

  pub keep-kept : (test : A → Bool) (l : List A) → All (Decides test) l → Kept P l (keep test l)
  keep-kept test [] a = nothing
  keep-kept test (x ∷ l) a = go (test x) refl (keep-kept test l a.1)
    where
      go : (b : Bool) → test x ≡ b → Kept P l (keep test l) → Kept P (x ∷ l) (cond b (x ∷ keep test l) (keep test l))
      go true e rest = stays x l (keep test l) (a.0.0 e) rest
      go false e rest = goes x l (keep test l) (λ h. true≢false (sym (a.0.1 h) ∙ e)) rest

  pub kept-all : (Q : A → Type 0) (l m : List A) → All Q l → Kept P l m → All Q m
  kept-all Q l m a nothing = tt
  kept-all Q l m a (stays x l' m' h k) = (a.0, kept-all Q l' m' a.1 k)
  kept-all Q l m a (goes x l' m' h k) = kept-all Q l' m a.1 k

  pub kept-holds : (l m : List A) → Kept P l m → All P m
  kept-holds l m nothing = tt
  kept-holds l m (stays x l' m' h k) = (h, kept-holds l' m' k)
  kept-holds l m (goes x l' m' h k) = kept-holds l' m k
