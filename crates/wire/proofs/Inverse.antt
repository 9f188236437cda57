-- Inverse: reading things off the front of bytes is inverse to writing them.
--
--   ReadOff write Good b g      what is read off the front of b as g is good and written there
--   Inverse reader write Good   what is written of a good thing is read as it, and what is read is good and written there
--   whole-read, inverse_whole   all of some bytes are read as a thing exactly where they are its writing
--   inverse_front               no two good things are written alike
--   inverse_as                  the same for another way to say what is good and how it is written
--
use mathlib.Core.Path.{◌≡◌, sym, ap, subst, ◌∙◌}
use mathlib.Core.List.{List, [], ◌++◌, append-nil}
use mathlib.Core.Logic.{◌↔◌}
use Prim.Native.Nat.{ℕ}
use Rattle.wire.specs.Reply.{IsBytes}
use Rattle.wire.specs.Parser.{Got, got, stop}

abbrev pub ReadOff : {A : Type 0} → (A → List ℕ) → (A → Type 0) → List ℕ → Got A → Type 0
ReadOff write Good b (got a r) = Good a × (b ≡ write a ++ r)
ReadOff write Good b (stop n r) = Unit {0}

pub record Inverse {A : Type 0} (reader : List ℕ → Got A) (write : A → List ℕ) (Good : A → Type 0) : Type 0 where
  pub written : (a : A) (r : List ℕ) → Good a → reader (write a ++ r) ≡ got a r
  pub read : (b : List ℕ) → IsBytes b → ReadOff write Good b (reader b)

module _ {A : Type 0} {reader : List ℕ → Got A} {write : A → List ℕ} {Good : A → Type 0} (inverse : Inverse reader write Good) where
  pub whole-read : (a : A) → Good a → reader (write a) ≡ got a []
  whole-read a good = ap reader (sym (append-nil (write a))) ∙ inverse.written a [] good

  pub inverse_whole : (b : List ℕ) (a : A) → IsBytes b → (reader b ≡ got a []) ↔ (Good a × (b ≡ write a))
  inverse_whole b a bytes = (
    (λ e.
        let h : ReadOff write Good b (got a []) = subst (ReadOff write Good b) e (inverse.read b bytes) in
        (h.0, h.1 ∙ append-nil (write a))),
    (λ h. ap reader h.1 ∙ whole-read a h.0),
  )

  -- Two good things whose writings are the front of the same bytes are the same thing.
  pub inverse_front : (a c : A) (r r' : List ℕ) → Good a → Good c → write a ++ r ≡ write c ++ r' → (a ≡ c) × (r ≡ r')
  inverse_front a c r r' good good' e =
      let same : got a r ≡ got c r' = sym (inverse.written a r good) ∙ ap reader e ∙ inverse.written c r' good' in
      (cc, cc)

pub inverse_as : {A : Type 0} (reader : List ℕ → Got A) (write write' : A → List ℕ) (Good Good' : A → Type 0) →
    ((a : A) → write a ≡ write' a) → ((a : A) → Good a ↔ Good' a) → Inverse reader write Good → Inverse reader write' Good'
inverse_as {A} reader write write' Good Good' same alike inverse = record {
  written = λ a r good. ap (λ z. reader (z ++ r)) (sym (same a)) ∙ inverse.written a r ((alike a).1 good);
  read = λ b bytes. go b (reader b) (inverse.read b bytes);
}
  where
    go : (b : List ℕ) (g : Got A) → ReadOff write Good b g → ReadOff write' Good' b g
    go b (got a r) (good, e) = ((alike a).0 good, e ∙ ap (λ z. z ++ r) (same a))
    go b (stop m r) h = tt
