-- Pages: texts are put on a page one behind the other.
--
--   holds_none                 a page holds no text before the first piece
--   holds-all                  the text that the page holds, where it is not full
--   adds-nothing               no text is put
--   adds_is                    the same, said of another form of the piece
--   adds_then, adds_then_is    a piece, and one behind it
--
use mathlib.Core.Path.{◌≡◌, refl, sym, subst, ◌∙◌}
use mathlib.Core.Logic.{inl, inr}
use mathlib.Core.List.{List, [], ◌++◌, append-nil, append_assoc}
use Prim.Native.Nat.{ℕ, ◌≤◌}
use native.Mathlib.Omega.{arith}
use lib.ListN.{length, take}
use Rattle.pages.specs.Pages.{Holds, Adds}

pub holds_none : (out : List ℕ) → Holds out 0 []
holds_none out = inl (omega arith, refl)

pub holds-all : (out : List ℕ) (at : ℕ) (g : List ℕ) → Holds out at g → at ≤ length out → take at out ≡ g
holds-all out at g (inl h) few = h.1
holds-all out at g (inr h) few = absurd (omega (arith, h.0))

pub adds-nothing : (out : List ℕ) (at : ℕ) → Adds out at out at []
adds-nothing out at = record { same = refl; adds = λ g h. subst (λ l. Holds out at l) (sym (append-nil g)) h }

pub adds_is : {a : List ℕ} {i : ℕ} {b : List ℕ} {j : ℕ} {x y : List ℕ} → x ≡ y → Adds a i b j x → Adds a i b j y
adds_is {a} {i} {b} {j} e h = subst (λ l. Adds a i b j l) e h

module _ {a : List ℕ} {i : ℕ} {b : List ℕ} {j : ℕ} {x : List ℕ} (h : Adds a i b j x) {c : List ℕ} {k : ℕ} {y : List ℕ} (l : Adds b j c k y) where
  pub adds_then : Adds a i c k (x ++ y)
  adds_then = record {
    same = l.same ∙ h.same;
    adds = λ g m. subst (λ z. Holds c k z) (append_assoc g x y) (l.adds (g ++ x) (h.adds g m));
  }

  pub adds_then_is : {z : List ℕ} → x ++ y ≡ z → Adds a i c k z
  adds_then_is e = adds_is e adds_then
