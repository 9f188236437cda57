-- Rising: the offsets of a text's lexemes rise.
--
--   rises_cons                    one lexeme more, before those behind it
--   rises_rest                    one lexeme less
--   rises_right, rises_drop, rises_behind     what stands behind some of them
--   rises_before                  each lexeme stands before those behind it
--   lexemes_ascend, from_ascend   the lexemes of every text, and those from an offset on
--
use mathlib.Core.Path.{subst}
use mathlib.Core.List.{List, [], ◌∷◌, ◌++◌}
use Prim.Native.Nat.{ℕ, zero, suc, ◌+◌, ◌-◌, ◌<◌, ◌≤◌}
use native.Mathlib.Omega.{arith}
use lib.ListN.{length, take, drop}
use Rattle.terms.specs.Lists.{All}
use Rattle.texts.specs.Lexemes.{Token, Lexeme, blanks, token_size, lexemes_in, lexemes_behind, lexemes, lexemes_from}
use Rattle.texts.specs.Laws.{Ascending}
use Rattle.texts.proofs.Standing.{Stands}

-- The first of the lexemes l, where there is one, does not stand before the offset q.
abbrev From : ℕ → List Lexeme → Type 0
From q [] = Unit {0}
From q (x ∷ l) = q ≤ x.at

rises_cons : (x : Lexeme) (l : List Lexeme) → From (suc x.at) l → Ascending l → Ascending (x ∷ l)
rises_cons x [] h a = tt
rises_cons x (y ∷ l) h a = (omega arith, a)

pub rises_rest : (x : Lexeme) (l : List Lexeme) → Ascending (x ∷ l) → Ascending l
rises_rest x [] a = tt
rises_rest x (y ∷ l) a = a.1

pub rises_right : (l m : List Lexeme) → Ascending (l ++ m) → Ascending m
rises_right [] m a = a
rises_right (x ∷ l) m a = rises_right l m (rises_rest x (l ++ m) a)

pub rises_drop : (n : ℕ) (l : List Lexeme) → Ascending l → Ascending (drop n l)
rises_drop zero l a = a
rises_drop (suc n) [] a = tt
rises_drop (suc n) (x ∷ l) a = rises_drop n l (rises_rest x l a)

pub rises_behind : (us : List Token) (l r : List Lexeme) → Stands us l r → Ascending l → Ascending r
rises_behind [] l r h a = subst Ascending h a
rises_behind (u ∷ us) [] r h a = absurd h
rises_behind (u ∷ us) (x ∷ l) r h a = rises_behind us l r h.1 (rises_rest x l a)

pub rises_before : (l : List Lexeme) (y : Lexeme) (r : List Lexeme) → Ascending (l ++ (y ∷ r)) → All (λ (x : Lexeme). x.at < y.at) l
rises_before [] y r a = tt
rises_before (x ∷ []) y r a = (a.0, tt)
rises_before (x ∷ z ∷ l) y r a = let h = rises_before (z ∷ l) y r a.1 in let first = a.0 in let next = h.0 in (omega arith, h)

-- ---- the lexemes of a text

from_in : (n at : ℕ) (l : List ℕ) → From at (lexemes_in n at l)
from_in zero at l = tt
from_in (suc n) at l = go (drop (blanks l) l)
  where
    go : (m : List ℕ) → From at (lexemes_behind (lexemes_in n) (at + blanks l) m)
    go [] = omega arith
    go (b ∷ m) = omega arith

from-later : (p q : ℕ) (l : List Lexeme) → p ≤ q → From q l → From p l
from-later p q [] h f = tt
from-later p q (x ∷ l) h f = omega arith

ascend_in : (n at : ℕ) (l : List ℕ) → Ascending (lexemes_in n at l)
ascend_in zero at l = tt
ascend_in (suc n) at l = go (ascend_in n) (drop (blanks l) l)
  where
    go : ((at : ℕ) (l : List ℕ) → Ascending (lexemes_in n at l)) → (m : List ℕ) → Ascending (lexemes_behind (lexemes_in n) (at + blanks l) m)
    go more [] = tt
    go more (b ∷ m) =
        let k : ℕ = token_size (b ∷ m) in
        let next : List Lexeme = lexemes_in n (at + blanks l + k) (drop k (b ∷ m)) in
        rises_cons (record { at = at + blanks l; token = take k (b ∷ m) }) next
        (from-later (suc (at + blanks l)) (at + blanks l + k) next (omega arith) (from_in n (at + blanks l + k) (drop k (b ∷ m))))
        (more (at + blanks l + k) (drop k (b ∷ m)))

pub lexemes_ascend : (b : List ℕ) → Ascending (lexemes b)
lexemes_ascend b = ascend_in (suc (length b)) 0 b

pub from_ascend : (b : List ℕ) (at : ℕ) → Ascending (lexemes_from b at)
from_ascend b at = ascend_in (suc (length b - at)) at (drop at b)
