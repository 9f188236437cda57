-- Comparing: a pattern and a situation side by side, by their tokens, from left to right.
--
-- This file is an algorithm, and nothing in it has to be believed: WalksAreComparisons (Laws) fixes what it gives.
--
--   closing_size d us       how many of the tokens us stand up to the ) that closes the last of d open parentheses
--   term_size us            how many tokens the term has that us begin with: a name, and what stands in parentheses behind it
--   Cover                  a variable, and the tokens of the term that it covers
--   Walked                 the situation fits, or differs behind so many of its tokens, where the pattern has another token
--   walked_behind m w       w behind m tokens of the situation
--   walked_over u us w      w, where the open place or variable u covers the tokens us before it
--   walk n us vs           the tokens us, with which a pattern begins, beside those of a situation, where n steps are enough
--   as_walked N vs c        what is walked where c is compared, N are the names of the words and vs those of the variables
--
use Rattle.std.specs.Prelude.{cond, List, [], ◌∷◌, map, ℕ, zero, suc, ◌+◌, length, take, drop}
use Rattle.terms.specs.Filling.{Binding}
use Rattle.texts.specs.Lexemes.{Token}
use Rattle.texts.specs.Names.{same, mark, opening, closing, is_variable, name_at}
use Rattle.texts.specs.Questions.{ground_tokens}
use Rattle.texts.specs.Verdicts.{Compared, covers, differs}
use Rattle.texts.specs.QuestionReading.{is_open}

abbrev pub closing_size : ℕ → List Token → ℕ
closing_size d [] = 0
closing_size zero (u ∷ us) = 0
closing_size (suc d) (u ∷ us) =
    suc
    (cond (same u (mark opening)) (closing_size (suc (suc d)) us)
    (cond (same u (mark closing)) (closing_size d us) (closing_size (suc d) us)))

abbrev pub term_size : List Token → ℕ
term_size [] = 0
term_size (u ∷ us) = suc (cond (same (name_at us 0) (mark opening)) (suc (closing_size 1 (drop 1 us))) 0)

pub record Cover : Type 0 where
  pub variable : Token
  pub tokens : List Token

pub data Walked : Type 0 where
  fits : List Cover → Walked
  unlike : ℕ → Token → Walked

abbrev pub walked_behind : ℕ → Walked → Walked
walked_behind m (fits cs) = fits cs
walked_behind m (unlike n u) = unlike (m + n) u

abbrev pub walked_over : Token → List Token → Walked → Walked
walked_over u us (unlike n v) = unlike n v
walked_over u us (fits cs) = cond (is_variable u) (fits (record { variable = u; tokens = us } ∷ cs)) (fits cs)

abbrev pub walk : ℕ → List Token → List Token → Walked
walk zero us vs = fits []
walk (suc n) us [] = fits []
walk (suc n) us (v ∷ vs) =
    let m : ℕ = term_size (v ∷ vs) in
    cond (is_open (name_at us 0))
    (walked_over (name_at us 0) (take m (v ∷ vs)) (walked_behind m (walk n (drop 1 us) (drop m (v ∷ vs)))))
    (cond (same (name_at us 0) v) (walked_behind 1 (walk n (drop 1 us) vs)) (unlike 0 (name_at us 0)))

abbrev pub as_walked : List Token → List Token → Compared → Walked
as_walked N vs (covers bs) =
    fits (map (λ (b : Binding). record { variable = name_at vs b.name; tokens = ground_tokens N b.value }) bs)
as_walked N vs (differs us f) = unlike (length us) (name_at N f)
