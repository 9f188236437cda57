-- Walking: a pattern and a situation are walked over side by side, by offsets.
--
--   uncovered w                        w, where what variables cover is left out
--   walk-on, walk_off, walk_end        the pattern's token admits the situation's, it does not, and there is none
--   Walking b from at e a s            what is left to walk from the offsets a and s on
--   walking_turn, walking_fits, walking_differs      the loop
--   first, found                       the tokens at which a step begins
--   next-drop, next-take, next-all, next-fewer     the tokens behind a step, and those that it passes
--
use mathlib.Core.Path.{◌≡◌, refl, sym, ap, ap₂, ◌∙◌}
use mathlib.Core.Bool.{Bool, true, false, ◌||◌, cond}
use mathlib.Core.List.{List, [], ◌∷◌}
use Prim.Native.Nat.{ℕ, zero, suc, ◌+◌, ◌-◌, ◌<◌, ◌≤◌, min}
use native.Mathlib.Omega.{arith}
use lib.Dec.{ltb}
use lib.ListN.{length, take, drop, length-drop}
use Rattle.terms.proofs.Bools.{or_parts}
use Rattle.wire.proofs.Cond.{cond_true, cond_false}
use Rattle.texts.specs.Lexemes.{Token, token_size, token_at}
use Rattle.texts.specs.Names.{same, is_variable, name_at}
use Rattle.texts.specs.QuestionReading.{is_open}
use Rattle.texts.specs.Comparing.{term_size, Cover, Walked, fits, unlike, walked_behind, walked_over, walk}
use Rattle.verdicts.specs.Steps.{start_from, behind_token, passed, tokens_in, all_tokens, step_size, walked, DiffersAt}
use Rattle.verdicts.proofs.Steps.{behind_is, stands-more, stands_none, all_first, all-next, passed_add, passed-drop, passed-take}
use Rattle.verdicts.proofs.Skipping.{step-few}

abbrev pub uncovered : Walked → Walked
uncovered (fits cs) = fits []
uncovered (unlike n u) = unlike n u

-- ---- a step

behind_add : (m n : ℕ) (w : Walked) → walked_behind m (walked_behind n w) ≡ walked_behind (m + n) w
behind_add m n (fits cs) = refl
behind_add m n (unlike k u) = ap (λ i. unlike i u) (let e : m + (n + k) ≡ m + n + k = omega arith in e)

uncovered_behind : (m : ℕ) (w : Walked) → uncovered (walked_behind m w) ≡ walked_behind m (uncovered w)
uncovered_behind m (fits cs) = refl
uncovered_behind m (unlike n u) = refl

uncovered_over : (u : Token) (us : List Token) (w : Walked) → uncovered (walked_over u us w) ≡ uncovered w
uncovered_over u us (unlike n v) = refl
uncovered_over u us (fits cs) = go (is_variable u)
  where
    go : (t : Bool) → uncovered (cond t (fits (record { variable = u; tokens = us } ∷ cs)) (fits cs)) ≡ fits []
    go true = refl
    go false = refl

module _ (n : ℕ) (us : List Token) (v : Token) (vs : List Token) where
  -- What is walked behind the pattern's first token, and what that one stands for.
  abbrev behind : ℕ → Walked
  behind m = walk n (drop 1 us) (drop m vs)

  walk_step : (is_open (name_at us 0) || same (name_at us 0) v) ≡ true →
      uncovered (walk (suc n) us (v ∷ vs)) ≡
      walked_behind (suc (step_size (name_at us 0) vs)) (uncovered (behind (step_size (name_at us 0) vs)))
  walk_step h = go (is_open (name_at us 0)) refl h
    where
      go : (t : Bool) → is_open (name_at us 0) ≡ t → (t || same (name_at us 0) v) ≡ true →
          uncovered (walk (suc n) us (v ∷ vs)) ≡
          walked_behind (suc (step_size (name_at us 0) vs)) (uncovered (behind (step_size (name_at us 0) vs)))
      go true e k =
          ap uncovered (cond_true _ _ _ e)
          ∙ uncovered_over (name_at us 0) (take (term_size (v ∷ vs)) (v ∷ vs)) (walked_behind (term_size (v ∷ vs)) (walk n (drop 1 us) (drop (term_size (v ∷ vs)) (v ∷ vs))))
          ∙ uncovered_behind (term_size (v ∷ vs)) (walk n (drop 1 us) (drop (term_size (v ∷ vs)) (v ∷ vs)))
          ∙ sym (ap (λ m. walked_behind (suc m) (uncovered (behind m))) (cond_true _ _ _ e))
      go false e k =
          ap uncovered (cond_false _ _ _ e ∙ cond_true _ _ _ k)
          ∙ uncovered_behind 1 (behind 0)
          ∙ sym (ap (λ m. walked_behind (suc m) (uncovered (behind m))) (cond_false _ _ _ e))

  walk-other : (is_open (name_at us 0) || same (name_at us 0) v) ≡ false → walk (suc n) us (v ∷ vs) ≡ unlike 0 (name_at us 0)
  walk-other h =
      let k = or_parts (is_open (name_at us 0)) (same (name_at us 0) v) h in
      cond_false _ _ _ k.0 ∙ cond_false _ _ _ k.1

-- The same for any number of steps that is enough for one.
walk-on : (n : ℕ) (us : List Token) (v : Token) (vs : List Token) → 0 < n → (is_open (name_at us 0) || same (name_at us 0) v) ≡ true →
    uncovered (walk n us (v ∷ vs)) ≡
    walked_behind (suc (step_size (name_at us 0) vs)) (uncovered (walk (n - 1) (drop 1 us) (drop (step_size (name_at us 0) vs) vs)))
walk-on zero us v vs h k = absurd (omega arith)
walk-on (suc n) us v vs h k =
    walk_step n us v vs k
    ∙ ap (λ m. walked_behind (suc (step_size (name_at us 0) vs)) (uncovered (walk m (drop 1 us) (drop (step_size (name_at us 0) vs) vs))))
    (let e : n ≡ suc n - 1 = omega arith in e)

walk_off : (n : ℕ) (us : List Token) (v : Token) (vs : List Token) → 0 < n → (is_open (name_at us 0) || same (name_at us 0) v) ≡ false →
    walk n us (v ∷ vs) ≡ unlike 0 (name_at us 0)
walk_off zero us v vs h k = absurd (omega arith)
walk_off (suc n) us v vs h k = walk-other n us v vs k

walk_end : (n : ℕ) (us : List Token) → walk n us [] ≡ fits []
walk_end zero us = refl
walk_end (suc n) us = refl

-- ---- the loop

pub record Walking (b : List ℕ) (from at e a s : ℕ) : Type 0 where
  -- So many tokens of the situation are passed, and so many steps are enough for the others.
  pub count : ℕ
  pub steps : ℕ
  pub here : s ≡ passed b at count
  pub within : count ≤ length (tokens_in b at e)
  pub enough : length (tokens_in b s e) ≤ steps
  pub rest : walked_behind count (uncovered (walk steps (all_tokens b a) (tokens_in b s e))) ≡ uncovered (walked b from at e)

-- The step from the offsets a and s, where the tokens at due and here stand.
module _ (b : List ℕ) (e a s : ℕ) {here due : ℕ} {r : Bool} (is : here ≡ start_from b s) (test : r ≡ ltb here (min e (length b))) (more : r ≡ true) (owed : due ≡ start_from b a) where
  abbrev step : ℕ
  step = step_size (token_at b due) (tokens_in b (behind_token b s) e)

  pub first : name_at (all_tokens b a) 0 ≡ token_at b due
  first = all_first b a ∙ ap (token_at b) (sym owed)

  pub found : tokens_in b s e ≡ token_at b here ∷ tokens_in b (behind_token b s) e
  found = stands-more b s e is test more

  few : suc step ≤ length (tokens_in b s e)
  few = omega (arith, ap length found, step-few (token_at b due) (tokens_in b (behind_token b s) e))

  module _ {s' a' : ℕ} (to : s' ≡ passed b s (suc step)) (on : a' ≡ due + token_size (drop due b)) where
    pub next-drop : drop step (tokens_in b (behind_token b s) e) ≡ tokens_in b s' e
    next-drop = sym (ap (λ x. tokens_in b x e) to ∙ passed-drop b e (suc step) s few ∙ ap (drop (suc step)) found)

    pub next-take : token_at b here ∷ take step (tokens_in b (behind_token b s) e) ≡ tokens_in b s s'
    next-take = sym (ap (tokens_in b s) to ∙ passed-take b e (suc step) s few ∙ ap (take (suc step)) found)

    pub next-all : drop 1 (all_tokens b a) ≡ all_tokens b a'
    next-all = all-next b a ∙ ap (all_tokens b) (sym (behind_is b a owed on))

    pub next-fewer : suc (length (tokens_in b s' e)) ≤ length (tokens_in b s e)
    next-fewer = omega (arith, ap length next-drop, length-drop step (tokens_in b (behind_token b s) e), ap length found)

    walk-next : (n : ℕ) → 0 < n → (is_open (token_at b due) || same (token_at b due) (token_at b here)) ≡ true →
        uncovered (walk n (all_tokens b a) (tokens_in b s e)) ≡ walked_behind (suc step) (uncovered (walk (n - 1) (all_tokens b a') (tokens_in b s' e)))
    walk-next n h k =
        ap (λ us. uncovered (walk n (all_tokens b a) us)) found
        ∙ walk-on n (all_tokens b a) (token_at b here) (tokens_in b (behind_token b s) e) h (ap (λ u. is_open u || same u (token_at b here)) first ∙ k)
        ∙ ap (λ u. walked_behind (suc (step_size u (tokens_in b (behind_token b s) e))) (uncovered (walk (n - 1) (drop 1 (all_tokens b a)) (drop (step_size u (tokens_in b (behind_token b s) e)) (tokens_in b (behind_token b s) e))))) first
        ∙ ap₂ (λ us vs. walked_behind (suc step) (uncovered (walk (n - 1) us vs))) next-all next-drop

fits-of : (x : Walked) → uncovered x ≡ fits [] → (cs : List Cover) × (x ≡ fits cs)
fits-of (fits cs) h = (cs, refl)
fits-of (unlike n u) h = let z : ◌≡◌ {A = ℕ} 0 1 = cc in absurd (omega arith)

unlike-of : (x : Walked) (n : ℕ) (u : Token) → uncovered x ≡ unlike n u → x ≡ unlike n u
unlike-of (fits cs) n u h = let z : ◌≡◌ {A = ℕ} 0 1 = cc in absurd (omega arith)
unlike-of (unlike m v) n u h = h

module _ (b : List ℕ) (from at e a s : ℕ) (w : Walking b from at e a s) {here : ℕ} {r : Bool} (is : here ≡ start_from b s) (test : r ≡ ltb here (min e (length b))) where
  pub walking_fits : r ≡ false → (cs : List Cover) × (walked b from at e ≡ fits cs)
  walking_fits h =
      fits-of (walked b from at e)
      (sym w.rest
      ∙ ap (λ us. walked_behind w.count (uncovered (walk w.steps (all_tokens b a) us))) (stands_none b s e is test h)
      ∙ ap (λ x. walked_behind w.count (uncovered x)) (walk_end w.steps (all_tokens b a)))

  module _ (more : r ≡ true) {due : ℕ} (owed : due ≡ start_from b a) {p : Bool} (o : p ≡ (is_open (token_at b due) || same (token_at b due) (token_at b here))) where
    some : 0 < w.steps
    some = let h = w.enough in omega (arith, ap length (found b e a s is test more owed))

    pub walking_differs : p ≡ false → DiffersAt b at e (walked b from at e) due s
    walking_differs h = record {
      before = w.count;
      differs =
          unlike-of (walked b from at e) w.count (token_at b due)
          (sym w.rest
          ∙ ap (λ us. walked_behind w.count (uncovered (walk w.steps (all_tokens b a) us))) (found b e a s is test more owed)
          ∙ ap (λ x. walked_behind w.count (uncovered x))
          (walk_off w.steps (all_tokens b a) (token_at b here) (tokens_in b (behind_token b s) e) some
          (ap (λ u. is_open u || same u (token_at b here)) (first b e a s is test more owed) ∙ sym o ∙ h))
          ∙ ap₂ unlike (let z : w.count + 0 ≡ w.count = omega arith in z) (first b e a s is test more owed));
      same = ap (tokens_in b at) w.here ∙ passed-take b e w.count at w.within;
    }

    pub walking_turn : p ≡ true → {s' a' : ℕ} → s' ≡ passed b s (suc (step_size (token_at b due) (tokens_in b (behind_token b s) e))) →
        a' ≡ due + token_size (drop due b) → Walking b from at e a' s'
    walking_turn h {s'} {a'} to on =
        let k = step_size (token_at b due) (tokens_in b (behind_token b s) e) in
        record {
          count = w.count + suc k;
          steps = w.steps - 1;
          here = to ∙ ap (λ x. passed b x (suc k)) w.here ∙ passed_add b w.count (suc k) at;
          within =
              let left = ap length (ap (λ x. tokens_in b x e) w.here ∙ passed-drop b e w.count at w.within) in
              let few = w.within in
              omega (arith, left, length-drop w.count (tokens_in b at e), ap length (found b e a s is test more owed), step-few (token_at b due) (tokens_in b (behind_token b s) e));
          enough = let h = w.enough in omega (arith, next-fewer b e a s is test more owed to on);
          rest =
              sym (behind_add w.count (suc k) (uncovered (walk (w.steps - 1) (all_tokens b a') (tokens_in b s' e))))
              ∙ ap (walked_behind w.count) (sym (walk-next b e a s is test more owed to on w.steps some (sym o ∙ h)))
              ∙ w.rest;
        }
