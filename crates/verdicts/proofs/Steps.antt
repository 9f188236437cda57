-- Steps: the tokens of a text between offsets, and the offsets behind them.
--
--   behind_is                    the offset behind a token, where its beginning is known
--   later                        a step goes on
--   tokens-more, tokens_none     the tokens between two offsets: the first one and those behind it, or none
--   stands_less, stands-more, stands_none     the same by the test of an offset
--   all_first, all-next          the first of the tokens from an offset on, and those behind it
--   passed_add                   steps behind one another
--   steps_less                   steps from a token on leave less of the text
--   passed-drop, passed-take     the tokens behind the first n, and the first n
--   tokens-all                   the tokens of the lexemes from an offset on
--
use mathlib.Core.Path.{◌≡◌, refl, sym, ap, ◌∙◌}
use mathlib.Core.Bool.{Bool, true, false}
use mathlib.Core.List.{List, [], ◌∷◌, ◌++◌}
use mathlib.Core.Logic.{◌⊎◌, inl, inr, ⊎_elim}
use Prim.Native.Nat.{ℕ, zero, suc, ◌+◌, ◌-◌, ◌<◌, ◌≤◌, min}
use native.Mathlib.Omega.{arith}
use lib.Dec.{ltb}
use lib.ListN.{length, take, drop, length-drop}
use borrow.Author.Tests.{ltb-true, ltb-false, lt-ltb, le-ltb}
use Rattle.wire.proofs.Cond.{cond_true, cond_false}
use Rattle.texts.specs.Lexemes.{token_size, token_at, lexemes_from}
use Rattle.texts.specs.Names.{name_at}
use Rattle.texts.specs.Laws.{tokens_of}
use Rattle.texts.proofs.Scanning.{token_some, token_none, lexemes-first, lexemes-next, lexemes-end}
use Rattle.verdicts.specs.Steps.{start_from, behind_token, passed, tokens_before, tokens_in, all_tokens}

-- An offset stands before another one, or it does not.
side : (m n : ℕ) → (m < n) ⊎ (n ≤ m)
side m n = go (ltb m n) refl
  where
    go : (t : Bool) → ltb m n ≡ t → (m < n) ⊎ (n ≤ m)
    go true h = inl (ltb-true m n h)
    go false h = inr (ltb-false m n h)

pub behind_is : (b : List ℕ) (i : ℕ) {s j : ℕ} → s ≡ start_from b i → j ≡ s + token_size (drop s b) → j ≡ behind_token b i
behind_is b i e f = f ∙ ap (λ s. s + token_size (drop s b)) e

module _ (b : List ℕ) (i : ℕ) where
  pub later : start_from b i < length b → start_from b i < behind_token b i
  later h = omega (arith, length-drop (start_from b i) b, token_some (drop (start_from b i) b) (omega (arith, length-drop (start_from b i) b)))

  module _ (e : ℕ) where
    pub tokens-more : start_from b i < min e (length b) → tokens_in b i e ≡ token_at b (start_from b i) ∷ tokens_in b (behind_token b i) e
    tokens-more h = ap (tokens_before (min e (length b))) (lexemes-next b i (omega arith)) ∙ cond_true _ _ _ (lt-ltb _ _ h)

    pub tokens_none : min e (length b) ≤ start_from b i → tokens_in b i e ≡ []
    tokens_none h = ap (tokens_before (min e (length b))) (lexemes-first b i) ∙ cond_false _ _ _ (le-ltb _ _ h)

    -- What the test of the first token's offset says.
    module _ {s : ℕ} {r : Bool} (is : s ≡ start_from b i) (test : r ≡ ltb s (min e (length b))) where
      pub stands_less : r ≡ true → start_from b i < min e (length b)
      stands_less h = ltb-true _ _ (ap (λ n. ltb n (min e (length b))) (sym is) ∙ sym test ∙ h)

      pub stands-more : r ≡ true → tokens_in b i e ≡ token_at b s ∷ tokens_in b (behind_token b i) e
      stands-more h = tokens-more (stands_less h) ∙ ap (λ n. token_at b n ∷ tokens_in b (behind_token b i) e) (sym is)

      pub stands_none : r ≡ false → tokens_in b i e ≡ []
      stands_none h = tokens_none (ltb-false _ _ (ap (λ n. ltb n (min e (length b))) (sym is) ∙ sym test ∙ h))

  pub all_first : name_at (all_tokens b i) 0 ≡ token_at b (start_from b i)
  all_first =
      ⊎_elim (λ h. ap (λ us. name_at us 0) (tokens-more (length b) (omega arith)))
      (λ h. ap (λ us. name_at us 0) (tokens_none (length b) (omega arith)) ∙ sym (token_none b (start_from b i) h))
      (side (start_from b i) (length b))

pub all-next : (b : List ℕ) (i : ℕ) → drop 1 (all_tokens b i) ≡ all_tokens b (behind_token b i)
all-next b i =
    ⊎_elim (λ h. ap (drop 1) (tokens-more b i (length b) (omega arith)))
    (λ h. ap (drop 1) (tokens_none b i (length b) (omega arith)) ∙ sym (tokens_none b (behind_token b i) (length b) (omega arith)))
    (side (start_from b i) (length b))

-- ---- several steps

module _ (b : List ℕ) where
  passed-from : (n i : ℕ) → i ≤ passed b i n
  passed-from zero i = omega arith
  passed-from (suc n) i = let h = passed-from n (behind_token b i) in omega arith

  pub passed_add : (m n i : ℕ) → passed b (passed b i m) n ≡ passed b i (m + n)
  passed_add zero n i = ap (passed b i) (let k : n ≡ 0 + n = omega arith in k)
  passed_add (suc m) n i = passed_add m n (behind_token b i) ∙ ap (passed b i) (let k : suc (m + n) ≡ suc m + n = omega arith in k)

  pub steps_less : (n i e : ℕ) → start_from b i < min e (length b) → {j : ℕ} → j ≡ passed b i (suc n) → length b - j < length b - i
  steps_less n i e h k = omega (arith, later b i (omega arith), passed-from n (behind_token b i))

  module _ (e : ℕ) where
    pub passed-drop : (n i : ℕ) → n ≤ length (tokens_in b i e) → tokens_in b (passed b i n) e ≡ drop n (tokens_in b i e)
    passed-drop zero i h = refl
    passed-drop (suc n) i h =
        ⊎_elim (λ k.
        let more = tokens-more b i e k in
        passed-drop n (behind_token b i) (omega (arith, ap length more)) ∙ sym (ap (drop (suc n)) more))
        (λ k. absurd (omega (arith, ap length (tokens_none b i e k))))
        (side (start_from b i) (min e (length b)))

    pub passed-take : (n i : ℕ) → n ≤ length (tokens_in b i e) → tokens_in b i (passed b i n) ≡ take n (tokens_in b i e)
    passed-take zero i h = tokens_none b i i (omega arith)
    passed-take (suc n) i h =
        ⊎_elim (λ k.
        let more = tokens-more b i e k in
        tokens-more b i (passed b i (suc n)) (omega (arith, later b i (omega arith), passed-from n (behind_token b i)))
        ∙ ap (λ us. token_at b (start_from b i) ∷ us) (passed-take n (behind_token b i) (omega (arith, ap length more)))
        ∙ sym (ap (take (suc n)) more))
        (λ k. absurd (omega (arith, ap length (tokens_none b i e k))))
        (side (start_from b i) (min e (length b)))

-- ---- the tokens of lexemes

all_end : (b : List ℕ) (i : ℕ) → length b ≤ start_from b i → tokens_of (lexemes_from b i) ≡ all_tokens b i ++ ([] ∷ [])
all_end b i h = ap tokens_of (lexemes-end b i h) ∙ sym (ap (λ us. us ++ ([] ∷ [])) (tokens_none b i (length b) (omega arith)))

all-within : (b : List ℕ) (n i : ℕ) → length b ≤ i + n → tokens_of (lexemes_from b i) ≡ all_tokens b i ++ ([] ∷ [])
all-within b zero i h = all_end b i (omega arith)
all-within b (suc n) i h =
    ⊎_elim (λ k.
    ap tokens_of (lexemes-next b i k)
    ∙ ap (λ us. token_at b (start_from b i) ∷ us) (all-within b n (behind_token b i) (omega (arith, later b i k)))
    ∙ sym (ap (λ us. us ++ ([] ∷ [])) (tokens-more b i (length b) (omega arith))))
    (all_end b i)
    (side (start_from b i) (length b))

pub tokens-all : (b : List ℕ) (i : ℕ) → tokens_of (lexemes_from b i) ≡ all_tokens b i ++ ([] ∷ [])
tokens-all b i = all-within b (length b) i (omega arith)
