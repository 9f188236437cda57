-- Placing: the places of a word are written one by one.
--
--   Placing                                    of all that is to be said, the first i places are on the page
--   placing_none, placing_turn, placing_all    how that begins, goes on and ends
--
use mathlib.Core.Path.{◌≡◌, sym, ap, ap₂, ◌∙◌}
use mathlib.Core.List.{List, [], ◌++◌, append_assoc}
use Prim.Native.Nat.{ℕ, suc, ◌+◌, ◌-◌, ◌/◌, ◌<◌, ◌≤◌}
use native.Mathlib.Omega.{arith}
use borrow.Author.Tests.{ne_eqb}
use Rattle.wire.proofs.Cond.{cond_false}
use Rattle.texts.specs.Names.{mark, opening, closing}
use Rattle.texts.specs.Saying.{Said, comma_text, say_places}
use Rattle.pages.specs.declared.Page.{Page}
use Rattle.pages.specs.Pages.{Puts}
use Rattle.pages.proofs.Pages.{adds-nothing, adds_then, adds_then_is}
use Rattle.wording.specs.Says.{Says, separator, say_place}

separator-other : (i : ℕ) → (i ≡ 0 → ⊥) → comma_text ≡ separator i
separator-other i h = sym (cond_false _ _ _ (ne_eqb i 0 h))

-- What is said of the places from number i on.
abbrev pub behind : (List ℕ → Said) → ℕ → ℕ → ℕ → List ℕ → Said
behind sayer n i m l = say_places sayer (n - i) (separator i) m l

pub record Placing (sayer : List ℕ → Said) (n : ℕ) (whole : Said) (before : Page) (i m : ℕ) (l : List ℕ) (now : Page) : Type 0 where
  pub within : i ≤ n
  pub done : List ℕ
  pub put : Puts before now done
  pub text : whole.text ≡ done ++ (behind sayer n i m l).text
  pub rest : whole.rest ≡ (behind sayer n i m l).rest

module _ {sayer : List ℕ → Said} {n : ℕ} {whole : Said} {before : Page} where
  pub placing_none : {m : ℕ} {l : List ℕ} → whole ≡ say_places sayer n (mark opening) m l → Placing sayer n whole before 0 m l before
  placing_none {m} {l} e =
      let e' = e ∙ ap (λ k. say_places sayer k (mark opening) m l) (let z : n ≡ n - 0 = omega arith in z) in
      record {
        within = omega arith;
        done = [];
        put = adds-nothing before.bytes before.end;
        text = ap (λ (s : Said). s.text) e';
        rest = ap (λ (s : Said). s.rest) e';
      }

  module _ {i m : ℕ} {l : List ℕ} {now : Page} (h : Placing sayer n whole before i m l now) where
    module _ (more : i < n) {now' now'' : Page} {rest : List ℕ} (p : Puts now now' (separator i))
        (k : Says (say_place sayer m l) now' now'' rest) where
      abbrev said : Said
      said = say_place sayer m l

      -- The place of number i, and those behind it.
      step : behind sayer n i m l ≡ record {
        text = separator i ++ (said.text ++ (behind sayer n (i + 1) (m / 2) rest).text);
        rest = (behind sayer n (i + 1) (m / 2) rest).rest;
      }
      step =
          ap (λ j. say_places sayer j (separator i) m l) (let r = more in let z : n - i ≡ suc (n - (i + 1)) = omega arith in z)
          ∙ ap₂ (λ (l c : List ℕ). place (say_places sayer (n - (i + 1)) c (m / 2) l)) k.rest (separator-other (i + 1) (λ z. omega arith))
        where
          place : Said → Said
          place x = record { text = separator i ++ (said.text ++ x.text); rest = x.rest }

      pub placing_turn : Placing sayer n whole before (i + 1) (m / 2) rest now''
      placing_turn = record {
        within = let r = more in omega arith;
        done = h.done ++ (separator i ++ said.text);
        put = adds_then h.put (adds_then p k.text);
        text =
            h.text ∙ ap (λ (s : Said). h.done ++ s.text) step
            ∙ ap (λ l. h.done ++ l) (sym (append_assoc (separator i) said.text (behind sayer n (i + 1) (m / 2) rest).text))
            ∙ sym (append_assoc h.done (separator i ++ said.text) (behind sayer n (i + 1) (m / 2) rest).text);
        rest = h.rest ∙ ap (λ (s : Said). s.rest) step;
      }

    pub placing_all : n ≤ i → {after : Page} → Puts now after (mark closing) → Says whole before after l
    placing_all e p =
        let none = ap (λ j. say_places sayer j (separator i) m l) (let z : n - i ≡ 0 = omega arith in z) in
        record {
          text = adds_then_is h.put p (sym (h.text ∙ ap (λ (s : Said). h.done ++ s.text) none));
          rest = h.rest ∙ ap (λ (s : Said). s.rest) none;
        }
