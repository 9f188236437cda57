-- Fronts: the lexemes of a text from an offset on begin with the token behind the blanks.
--
--   start b at                 where that token begins
--   behind_front b s            the lexemes behind a token
--   front                      the lexemes are that token and those behind it
--   front-token, front-place   the token, and where it stands
--   behind-inside              where the token is in the text, the others are those from its end on
--   end_later, end-inside      a token's end is behind the offset that it was looked for from, and in the text
--   some_inside                a token with a byte is in the text
--
use mathlib.Core.Path.{◌≡◌, refl, sym, ap, ◌∙◌}
use mathlib.Core.Bool.{Bool, true, false, cond, true≢false}
use mathlib.Core.List.{List, [], ◌∷◌}
use Prim.Native.Nat.{ℕ, ◌+◌, ◌<◌, ◌≤◌}
use native.Mathlib.Omega.{arith}
use lib.Dec.{ltb}
use lib.ListN.{length, drop, length-drop}
use borrow.Author.Tests.{ltb-true, ltb-false, lt-ltb, le-ltb}
use Rattle.wire.proofs.Cond.{cond_true, cond_false}
use Rattle.texts.specs.Lexemes.{Token, Lexeme, blanks, token_size, lexemes_from, token_at}
use Rattle.texts.specs.Faults.{token, place}
use Rattle.texts.proofs.Scanning.{start-within, end-within, token_some, token_none, lexemes-next, lexemes-end}

abbrev pub start : List ℕ → ℕ → ℕ
start b at = at + blanks (drop at b)

abbrev pub behind_front : List ℕ → ℕ → List Lexeme
behind_front b s = cond (ltb s (length b)) (lexemes_from b (s + token_size (drop s b))) []

abbrev pub front_of : List ℕ → ℕ → List Lexeme
front_of b s = record { at = s; token = token_at b s } ∷ behind_front b s

module _ (b : List ℕ) where
  pub behind-inside : {s e : ℕ} → e ≡ s + token_size (drop s b) → s < length b → behind_front b s ≡ lexemes_from b e
  behind-inside {s} {e} g h = cond_true (ltb s (length b)) _ [] (lt-ltb s (length b) h) ∙ ap (lexemes_from b) (sym g)

  pub behind-end : {s : ℕ} → length b ≤ s → behind_front b s ≡ []
  behind-end {s} h = cond_false (ltb s (length b)) _ [] (le-ltb s (length b) h)

  here : (at : ℕ) → (t : Bool) → ltb (start b at) (length b) ≡ t → lexemes_from b at ≡ front_of b (start b at)
  here at true e =
      let inside = ltb-true (start b at) (length b) e in
      lexemes-next b at inside ∙ ap (λ l. record { at = start b at; token = token_at b (start b at) } ∷ l) (sym (behind-inside {s = start b at} refl inside))
  here at false e =
      let outside = ltb-false (start b at) (length b) e in
      lexemes-end b at outside
      ∙ ap (λ u. record { at = start b at; token = u } ∷ []) (sym (token_none b (start b at) outside))
      ∙ ap (λ l. record { at = start b at; token = token_at b (start b at) } ∷ l) (sym (behind-end {s = start b at} outside))

  pub front : (at : ℕ) {s : ℕ} → s ≡ start b at → lexemes_from b at ≡ front_of b s
  front at {s} e = here at (ltb (start b at) (length b)) refl ∙ ap (front_of b) (sym e)

  pub front-token : (at : ℕ) {s : ℕ} → s ≡ start b at → token (lexemes_from b at) ≡ token_at b s
  front-token at e = ap token (front at e)

  pub front-place : (at : ℕ) {s : ℕ} → s ≡ start b at → place (lexemes_from b at) ≡ s
  front-place at e = ap place (front at e)

  -- A test that an empty token fails.
  pub some_inside : (f : Token → Bool) → f [] ≡ false → (s : ℕ) → f (token_at b s) ≡ true → s < length b
  some_inside f e s h = go (ltb s (length b)) refl
    where
      go : (t : Bool) → ltb s (length b) ≡ t → s < length b
      go true g = ltb-true s (length b) g
      go false g = absurd (true≢false (sym h ∙ ap f (token_none b s (ltb-false s (length b) g)) ∙ e))

  module _ (at : ℕ) {s : ℕ} (within : at ≤ length b) (from : s ≡ start b at) where
    pub start-inside : s ≤ length b
    start-inside = omega (arith, start-within b at within)

    module _ {e : ℕ} (end : e ≡ s + token_size (drop s b)) where
      pub end-inside : e ≤ length b
      end-inside = let h = start-inside in omega (arith, end-within b s h)

      pub end-behind : s < length b → at < e
      end-behind h = omega (arith, token_some (drop s b) (omega (arith, length-drop s b)))

      pub end_later : at < length b → at < e
      end_later h = go (ltb s (length b)) refl
        where
          go : (t : Bool) → ltb s (length b) ≡ t → at < e
          go true g = end-behind (ltb-true s (length b) g)
          go false g = let k = ltb-false s (length b) g in omega arith
