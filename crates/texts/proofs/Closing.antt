-- Closing: the lexemes of a text end with an empty one.
--
--   closes_cons, closes_next     one lexeme more, and one less
--   closes_end                   lexemes with an empty one behind them
--   text_closes                  the lexemes of every text
--
use mathlib.Core.Path.{◌≡◌, refl}
use mathlib.Core.Bool.{cond}
use mathlib.Core.List.{List, [], ◌∷◌, ◌++◌}
use Prim.Native.Nat.{ℕ, zero, suc, ◌+◌, ◌≤◌}
use native.Mathlib.Omega.{arith}
use lib.ListN.{length, take, drop, length-drop}
use Rattle.texts.specs.Lexemes.{Lexeme, blanks, is_run, run_size, token_size, lexemes_in, lexemes_behind, lexemes}
use Rattle.texts.specs.Laws.{Closes}

pub closes_cons : (x : Lexeme) (l : List Lexeme) → Closes l → Closes (x ∷ l)
closes_cons x [] c = absurd c
closes_cons x (y ∷ l) c = c

pub closes_next : (x : Lexeme) (l : List Lexeme) → Closes (x ∷ l) → (x.token ≡ [] → ⊥) → Closes l
closes_next x [] c n = n c
closes_next x (y ∷ l) c n = c

pub closes_end : (l : List Lexeme) (e : Lexeme) → e.token ≡ [] → Closes (l ++ (e ∷ []))
closes_end [] e t = t
closes_end (y ∷ l) e t = closes_cons y (l ++ (e ∷ [])) (closes_end l e t)

drop_le : (n : ℕ) (l : List ℕ) → length (drop n l) ≤ length l
drop_le n l = omega (arith, length-drop n l)

closes_in : (n at : ℕ) (l : List ℕ) → length l ≤ n → Closes (lexemes_in (suc n) at l)
closes_in zero at l h = go (drop (blanks l) l) (omega (arith, drop_le (blanks l) l))
  where
    go : (m : List ℕ) → length m ≤ 0 → Closes (lexemes_behind (lexemes_in zero) (at + blanks l) m)
    go [] h = refl
    go (b ∷ m) h = absurd (omega arith)
closes_in (suc n) at l h = go (closes_in n) (drop (blanks l) l) (omega (arith, drop_le (blanks l) l))
  where
    go : ((at : ℕ) (l : List ℕ) → length l ≤ n → Closes (lexemes_in (suc n) at l)) → (m : List ℕ) → length m ≤ suc n →
        Closes (lexemes_behind (lexemes_in (suc n)) (at + blanks l) m)
    go more [] h = refl
    go more (b ∷ m) h =
        let k : ℕ = token_size (b ∷ m) in
        closes_cons (record { at = at + blanks l; token = take k (b ∷ m) }) (lexemes_in (suc n) (at + blanks l + k) (drop k (b ∷ m)))
        (more (at + blanks l + k) (drop k (b ∷ m)) (omega (arith, drop_le (cond (is_run b) (run_size m) 0) m)))

pub text_closes : (b : List ℕ) → Closes (lexemes b)
text_closes b = closes_in (length b) 0 b (omega arith)
