-- Series: things are read off lexemes one behind the other, while one begins, up to a fault.
--
--   then_same                two readers that go on alike
--   several begins one n l   what is read so, where `one` reads one thing, and n are enough
--   Run begins one l xs r    how the things xs were read off l, and r stands behind them
--   several_goes             what is passed over so
--   enough                   the fuel does not matter once it is as many as the lexemes
--   several_end, several_bad, several_more     where none begins, where one is at fault, and where one is read
--   several_run, run-passed  what was read was read so, and what was passed over
--   several_fails            where a fault was met, things were read so up to it
--
use mathlib.Core.Path.{◌≡◌, refl, sym, ap, subst, subst₂, ◌∙◌}
use mathlib.Core.Bool.{Bool, true, false, cond, true≢false}
use mathlib.Core.List.{List, [], ◌∷◌}
use Prim.Native.Nat.{ℕ, zero, suc, ◌<◌, ◌≤◌}
use native.Mathlib.Omega.{arith}
use lib.ListN.{length}
use Rattle.wire.proofs.Cond.{cond_true, cond_false, choice}
use Rattle.texts.specs.Lexemes.{Lexeme}
use Rattle.texts.specs.Faults.{Fault, Parsed, parsed, bad, parse_then}
use Rattle.texts.proofs.Passing.{Passed, Takes, Goes, goes_then, takes_goes, passed_none, passed-more}

pub then_same : {A B : Type 0} (y : Parsed A) (f g : A → List Lexeme → Parsed B) → ((a : A) (r : List Lexeme) → f a r ≡ g a r) →
    parse_then y f ≡ parse_then y g
then_same (parsed a r) f g e = e a r
then_same (bad x) f g e = refl

module _ {A : Type 0} (begins : List Lexeme → Bool) (one : List Lexeme → Parsed A) where
  abbrev first : A → Parsed (List A) → Parsed (List A)
  first a y = parse_then y (λ xs r. parsed (a ∷ xs) r)

  abbrev pub several : ℕ → List Lexeme → Parsed (List A)
  several zero l = parsed [] l
  several (suc n) l = cond (begins l) (parse_then (one l) (λ a r. first a (several n r))) (parsed [] l)

  abbrev whole : List Lexeme → Parsed (List A)
  whole l = several (length l) l

  pub data Run : List Lexeme → List A → List Lexeme → Type 0 where
    stop : (l : List Lexeme) → begins l ≡ false → Run l [] l
    more : (l m r : List Lexeme) (a : A) (xs : List A) → begins l ≡ true → one l ≡ parsed a m → Run m xs r → Run l (a ∷ xs) r

  module _ (none : begins [] ≡ false) (takes : (l : List Lexeme) → begins l ≡ true → Takes l (one l)) where
    several_none : (n : ℕ) → several n [] ≡ parsed [] []
    several_none zero = refl
    several_none (suc n) = cond_false (begins []) _ (parsed [] []) none

    pub several_goes : (n : ℕ) (l : List Lexeme) → Goes l (several n l)
    several_goes zero l = passed_none l
    several_goes (suc n) l =
        choice (Goes l) (begins l) _ (parsed [] l)
        (λ e. goes_then l (one l) (λ a r. first a (several n r)) (takes_goes l (one l) (takes l e))
        (λ a r. goes_then r (several n r) (λ xs r'. parsed (a ∷ xs) r') (several_goes n r) (λ xs r'. passed_none r')))
        (λ e. passed_none l)

    shorter : (l r : List Lexeme) (a : A) → begins l ≡ true → one l ≡ parsed a r → length r < length l
    shorter l r a b e = (subst (Takes l) e (takes l b)).1

    abbrev Enough : ℕ → Type 0
    Enough n = (m : ℕ) (l : List Lexeme) → length l ≤ n → length l ≤ m → several n l ≡ several m l

    enough : (n : ℕ) → Enough n
    enough zero m [] h k = sym (several_none m)
    enough zero m (x ∷ l) h k = absurd (omega arith)
    enough (suc n) m [] h k = several_none (suc n) ∙ sym (several_none m)
    enough (suc n) zero (x ∷ l) h k = absurd (omega arith)
    enough (suc n) (suc m) (x ∷ l) h k = go (begins (x ∷ l)) refl (enough n)
      where
        behind : Enough n → (y : Parsed A) → Takes (x ∷ l) y →
            parse_then y (λ a r. first a (several n r)) ≡ parse_then y (λ a r. first a (several m r))
        behind ih (bad z) t = refl
        behind ih (parsed a r) t = let s = t.1 in ap (first a) (ih m r (omega arith) (omega arith))

        go : (b : Bool) → begins (x ∷ l) ≡ b → Enough n →
            cond b (parse_then (one (x ∷ l)) (λ a r. first a (several n r))) (parsed [] (x ∷ l)) ≡
            cond b (parse_then (one (x ∷ l)) (λ a r. first a (several m r))) (parsed [] (x ∷ l))
        go true e ih = behind ih (one (x ∷ l)) (takes (x ∷ l) e)
        go false e ih = refl

    stopped : (l : List Lexeme) (xs : List A) (r : List Lexeme) → begins l ≡ false → parsed [] l ≡ parsed xs r → Run l xs r
    stopped l xs r b e = let same : [] ≡ xs = cc in let here : l ≡ r = cc in subst₂ (Run l) same here (stop l b)

    pub several_end : (l : List Lexeme) → begins l ≡ false → whole l ≡ parsed [] l
    several_end [] e = refl
    several_end (x ∷ l) e = cond_false (begins (x ∷ l)) _ (parsed [] (x ∷ l)) e

    pub several_bad : (l : List Lexeme) (x : Fault) → begins l ≡ true → one l ≡ bad x → whole l ≡ bad x
    several_bad [] x e h = absurd (true≢false (sym e ∙ none))
    several_bad (y ∷ l) x e h =
        cond_true (begins (y ∷ l)) _ (parsed [] (y ∷ l)) e ∙ ap (λ z. parse_then z (λ a r. first a (several (length l) r))) h

    pub several_more : (l r : List Lexeme) (a : A) → begins l ≡ true → one l ≡ parsed a r → whole l ≡ first a (whole r)
    several_more [] r a e h = absurd (true≢false (sym e ∙ none))
    several_more (y ∷ l) r a e h =
        let s = shorter (y ∷ l) r a e h in
        cond_true (begins (y ∷ l)) _ (parsed [] (y ∷ l)) e ∙ ap (λ z. parse_then z (λ a r. first a (several (length l) r))) h
        ∙ ap (first a) (enough (length l) (length r) r (omega arith) (omega arith))

    pub several_run : (n : ℕ) (l : List Lexeme) (xs : List A) (r : List Lexeme) → length l ≤ n → several n l ≡ parsed xs r → Run l xs r
    several_run zero [] xs r h e = stopped [] xs r none e
    several_run zero (x ∷ l) xs r h e = absurd (omega arith)
    several_run (suc n) l xs r h e = go (begins l) refl (several_run n) e
      where
        Runs : Type 0
        Runs = (m : List Lexeme) (ys : List A) (r : List Lexeme) → length m ≤ n → several n m ≡ parsed ys r → Run m ys r

        behind : begins l ≡ true → Runs → (a : A) (m : List Lexeme) → one l ≡ parsed a m → (y : Parsed (List A)) → several n m ≡ y →
            first a y ≡ parsed xs r → Run l xs r
        behind b ih a m q (bad x) k e = let z : ◌≡◌ {A = ℕ} 0 1 = cc in absurd (omega arith)
        behind b ih a m q (parsed ys r') k e =
            let s = shorter l m a b q in
            let same : a ∷ ys ≡ xs = cc in
            let here : r' ≡ r = cc in
            subst₂ (Run l) same here (more l m r' a ys b q (ih m ys r' (omega arith) k))

        here : begins l ≡ true → Runs → (y : Parsed A) → one l ≡ y → parse_then y (λ a r. first a (several n r)) ≡ parsed xs r → Run l xs r
        here b ih (bad x) q e = let z : ◌≡◌ {A = ℕ} 0 1 = cc in absurd (omega arith)
        here b ih (parsed a m) q e = behind b ih a m q (several n m) refl e

        go : (b : Bool) → begins l ≡ b → Runs → cond b (parse_then (one l) (λ a r. first a (several n r))) (parsed [] l) ≡ parsed xs r → Run l xs r
        go true b ih e = here b ih (one l) refl e
        go false b ih e = stopped l xs r b e

    pub run-passed : {l r : List Lexeme} {xs : List A} → Run l xs r → Passed l r
    run-passed (stop l e) = passed_none l
    run-passed (more l m r a xs b e run) = passed-more l m r (subst (Takes l) e (takes l b)).0 (run-passed run)

  -- What holds where one thing is at fault, and before a thing where it holds behind it, holds where a fault was met.
  pub several_fails : (P : List Lexeme → Type 0) (x : Fault) → ((l : List Lexeme) → begins l ≡ true → one l ≡ bad x → P l) →
      ((l m : List Lexeme) (a : A) → begins l ≡ true → one l ≡ parsed a m → P m → P l) → (n : ℕ) (l : List Lexeme) → several n l ≡ bad x → P l
  several_fails P x last before zero l e = let z : ◌≡◌ {A = ℕ} 0 1 = cc in absurd (omega arith)
  several_fails P x last before (suc n) l e = go (begins l) refl (several_fails P x last before n) e
    where
      Fails : Type 0
      Fails = (m : List Lexeme) → several n m ≡ bad x → P m

      behind : (m : List Lexeme) (a : A) (y : Parsed (List A)) → several n m ≡ y → first a y ≡ bad x → several n m ≡ bad x
      behind m a (parsed xs r) k e = let z : ◌≡◌ {A = ℕ} 0 1 = cc in absurd (omega arith)
      behind m a (bad z) k e = k ∙ cc

      here : begins l ≡ true → Fails → (y : Parsed A) → one l ≡ y → parse_then y (λ a r. first a (several n r)) ≡ bad x → P l
      here b ih (bad z) q e = let f : z ≡ x = cc in last l b (q ∙ ap bad f)
      here b ih (parsed a m) q e = before l m a b q (ih m (behind m a (several n m) refl e))

      go : (b : Bool) → begins l ≡ b → Fails → cond b (parse_then (one l) (λ a r. first a (several n r))) (parsed [] l) ≡ bad x → P l
      go true b ih e = here b ih (one l) refl e
      go false b ih e = let z : ◌≡◌ {A = ℕ} 0 1 = cc in absurd (omega arith)
