-- Said: a token at fault and what stands behind it.
--
--   then_some                what is put is what is said
--
use Rattle.std.proofs.Common.{◌≡◌, ℕ, List, [], ◌∷◌, ◌++◌, length, refl}
use Rattle.texts.specs.Complaints.{token_then}

pub then_some : (u l : List ℕ) → (length l ≡ 0 → ⊥) → u ++ l ≡ token_then u l
then_some u [] h = absurd (h refl)
then_some u (b ∷ l) h = refl
