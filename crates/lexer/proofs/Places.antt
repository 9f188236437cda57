-- Places: counts that the definitions of texts make by recursion, as places in a list.
--
--   place_or_all            the place of the first that passes, or the length where none does
--   run_place               how long a run is: the place of the first byte that is no character of names
--   index_place             the number of a word among tokens: the place of the first that is the same
--
use Rattle.std.proofs.Common.{◌≡◌, ℕ, ◌+◌, suc, Bool, true, false, not, ◌&&◌, cond, ltb, List, [], ◌∷◌, length, map, Option, Some, None, unwrap_or, refl, ap, ap₂, ◌∙◌, arith}
use Rattle.std.specs.List.{position, position_or_len}
use Rattle.std.proofs.lemmas.List.Sums.{prefix_len-le-length}
use Rattle.std.proofs.lemmas.List.Recursion.{is_position_or_len}
use borrow.Author.Tests.{ltb-false}
use Rattle.terms.proofs.Bools.{eqb_sym}
use Rattle.texts.specs.Lexemes.{Token, is_name_byte, run_size, token_at}
use Rattle.texts.specs.Names.{same, index_in}

pub place_or_all : {X : Type 0} (p : X → Bool) (xs : List X) (r : Option ℕ) → r ≡ position p xs → unwrap_or r (length xs) ≡ position_or_len p xs
place_or_all p xs r e = ap (λ o. unwrap_or o (length xs)) e ∙ go (ltb (position_or_len p xs) (length xs)) refl
  where
    go : (t : Bool) → ltb (position_or_len p xs) (length xs) ≡ t → unwrap_or (cond t (Some (position_or_len p xs)) None) (length xs) ≡ position_or_len p xs
    go true h = refl
    go false h =
        let k = ltb-false (position_or_len p xs) (length xs) h in
        omega (arith, prefix_len-le-length (λ x. not (p x)) xs)

turned : (t : Bool) (n : ℕ) → cond t (suc n) 0 ≡ cond (not t) 0 (1 + n)
turned true n = omega arith
turned false n = refl

pub run_place : (l : List ℕ) → run_size l ≡ position_or_len (λ b. not (is_name_byte b)) l
run_place = is_position_or_len run_size (λ b. not (is_name_byte b)) refl (λ b l. turned (is_name_byte b) (run_size l))

same_turned : (t u : Token) → same t u ≡ same u t
same_turned [] [] = refl
same_turned [] (b ∷ u) = refl
same_turned (a ∷ t) [] = refl
same_turned (a ∷ t) (b ∷ u) = ap₂ (λ x y. x && y) (eqb_sym a b) (same_turned t u)

pub index_place : (text : List ℕ) (word : Token) (l : List ℕ) → index_in word (map (token_at text) l) ≡ position_or_len (λ i. same (token_at text i) word) l
index_place text word =
    is_position_or_len (λ l. index_in word (map (token_at text) l)) (λ i. same (token_at text i) word) refl (λ i l. next i (index_in word (map (token_at text) l)))
  where
    next : (i n : ℕ) → cond (same word (token_at text i)) 0 (suc n) ≡ cond (same (token_at text i) word) 0 (1 + n)
    next i n = ap₂ (λ t m. cond t 0 m) (same_turned word (token_at text i)) (let e : suc n ≡ 1 + n = omega arith in e)
