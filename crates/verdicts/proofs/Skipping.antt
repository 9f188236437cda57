-- Skipping: how many tokens a term has, and how its end is found.
--
--   closing-few, places-few, step-few     no more tokens are passed than stand there
--   level-few                             behind a token one more parenthesis is open at most
--   close_turn                            a turn of the loop that finds the ) of a (
--   places_some                           the places behind a word
--
use mathlib.Core.Path.{◌≡◌, refl, sym, ap, ap₂, ◌∙◌}
use mathlib.Core.Bool.{Bool, true, false, cond}
use mathlib.Core.List.{List, [], ◌∷◌}
use Prim.Native.Nat.{ℕ, zero, suc, ◌+◌, ◌-◌, ◌<◌, ◌≤◌, min}
use native.Mathlib.Omega.{arith}
use lib.Dec.{ltb}
use lib.ListN.{length, drop}
use Rattle.wire.proofs.Cond.{cond_true, choice}
use Rattle.texts.specs.Lexemes.{Token, token_size, token_at}
use Rattle.texts.specs.Names.{same, mark, opening, closing}
use Rattle.texts.specs.QuestionReading.{is_open}
use Rattle.texts.specs.Comparing.{closing_size}
use Rattle.verdicts.specs.Steps.{start_from, behind_token, passed, tokens_in, level_behind, places_size, step_size}
use Rattle.verdicts.proofs.Steps.{behind_is, stands-more}

-- ---- no more tokens than there are

closing-few : (us : List Token) (d : ℕ) → closing_size d us ≤ length us
closing-few [] d = omega arith
closing-few (u ∷ us) zero = omega arith
closing-few (u ∷ us) (suc d) =
    let deeper = closing-few us (suc (suc d)) in
    let higher = closing-few us d in
    let level = closing-few us (suc d) in
    choice (λ n. suc n ≤ suc (length us)) (same u (mark opening)) (closing_size (suc (suc d)) us) (cond (same u (mark closing)) (closing_size d us) (closing_size (suc d) us))
    (λ p. omega arith)
    (λ p. choice (λ n. suc n ≤ suc (length us)) (same u (mark closing)) (closing_size d us) (closing_size (suc d) us) (λ q. omega arith) (λ q. omega arith))

places-few : (us : List Token) → places_size us ≤ length us
places-few [] = omega arith
places-few (u ∷ us) =
    let inner = closing-few us 1 in
    choice (λ n. n ≤ suc (length us)) (same u (mark opening)) (suc (closing_size 1 us)) 0 (λ p. omega arith) (λ p. omega arith)

pub step-few : (u : Token) (us : List Token) → step_size u us ≤ length us
step-few u us = choice (λ n. n ≤ length us) (is_open u) (places_size us) 0 (λ p. places-few us) (λ p. omega arith)

-- ---- parentheses

pub level-few : (u : Token) (d : ℕ) → level_behind u d ≤ suc d
level-few u d =
    choice (λ n. n ≤ suc d) (same u (mark opening)) (suc d) (cond (same u (mark closing)) (d - 1) d) (λ p. omega arith)
    (λ p. choice (λ n. n ≤ suc d) (same u (mark closing)) (d - 1) d (λ q. omega arith) (λ q. omega arith))

closing_turn : (u : Token) (us : List Token) (d : ℕ) → 0 < d → closing_size d (u ∷ us) ≡ suc (closing_size (level_behind u d) us)
closing_turn u us zero h = absurd (omega arith)
closing_turn u us (suc d) h = ap suc (go (same u (mark opening)) (same u (mark closing)))
  where
    go : (p q : Bool) → cond p (closing_size (suc (suc d)) us) (cond q (closing_size d us) (closing_size (suc d) us)) ≡
        closing_size (cond p (suc (suc d)) (cond q (suc d - 1) (suc d))) us
    go true q = refl
    go false true = ap (λ n. closing_size n us) (let e : d ≡ suc d - 1 = omega arith in e)
    go false false = refl

module _ (b : List ℕ) (e i d : ℕ) {m : ℕ} (inv : passed b i (closing_size d (tokens_in b i e)) ≡ m) where
  module _ {s : ℕ} {r : Bool} (is : s ≡ start_from b i) (test : r ≡ ltb s (min e (length b))) where
    pub close_turn : r ≡ true → 0 < d → {d' j : ℕ} → d' ≡ level_behind (token_at b s) d → j ≡ s + token_size (drop s b) →
        passed b j (closing_size d' (tokens_in b j e)) ≡ m
    close_turn h k {d'} {j} l f =
        ap₂ (λ x y. passed b x (closing_size y (tokens_in b x e))) (behind_is b i is f) l
        ∙ sym
        (ap (λ us. passed b i (closing_size d us)) (stands-more b i e is test h)
        ∙ ap (passed b i) (closing_turn (token_at b s) (tokens_in b (behind_token b i) e) d k))
        ∙ inv

-- ---- the places behind a word

module _ (b : List ℕ) (at e : ℕ) {s : ℕ} {r : Bool} (is : s ≡ start_from b at) (test : r ≡ ltb s (min e (length b))) where
  module _ (h : r ≡ true) {p : Bool} (o : p ≡ same (token_at b s) (mark opening)) where
    pub places_some : p ≡ true → {j n : ℕ} → j ≡ s + token_size (drop s b) → n ≡ passed b j (closing_size 1 (tokens_in b j e)) →
        n ≡ passed b at (places_size (tokens_in b at e))
    places_some k f g =
        g ∙ ap (λ x. passed b x (closing_size 1 (tokens_in b x e))) (behind_is b at is f)
        ∙ sym
        (ap (λ us. passed b at (places_size us)) (stands-more b at e is test h)
        ∙ ap (passed b at) (cond_true _ _ _ (sym o ∙ k)))
