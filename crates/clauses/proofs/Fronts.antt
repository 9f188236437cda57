-- Fronts: the first lexeme from an offset on, by the offset at which its token begins.
--
--   front-token, front-place     its token and its offset
--   front                        the lexemes behind it, where it is not the last
--   mark_some, variable_some, identifier_some     tokens that are not empty
--
use mathlib.Core.Path.{◌≡◌, refl, sym, ap, subst}
use mathlib.Core.Bool.{Bool, true, false, false≢true}
use mathlib.Core.List.{List, [], ◌∷◌}
use Prim.Native.Nat.{ℕ, ◌+◌, ◌<◌, ◌≤◌}
use native.Mathlib.Omega.{arith}
use lib.Dec.{ltb}
use lib.ListN.{length, drop}
use borrow.Author.Tests.{ltb-true, ltb-false}
use Rattle.texts.specs.Lexemes.{Token, blanks, lexemes_from, token_at}
use Rattle.texts.specs.Names.{same, is_identifier, is_variable}
use Rattle.texts.specs.Faults.{token, place, rest}
use Rattle.texts.proofs.Fronts as fronts
use Rattle.texts.proofs.Scanning.{start-within, end-within, token_none, lexemes-next}
use Rattle.clauses.specs.Reading.{Front}

module _ (b : List ℕ) (at : ℕ) where
  abbrev begin : ℕ
  begin = at + blanks (drop at b)

  behind-first : at ≤ length b → 0 < length (token_at b begin) → Front b begin (lexemes_from b at)
  behind-first inside some = go (ltb begin (length b)) refl
    where
      go : (t : Bool) → ltb begin (length b) ≡ t → Front b begin (lexemes_from b at)
      go true e = record {
        token = fronts.front-token b at refl;
        place = fronts.front-place b at refl;
        behind = ap rest (lexemes-next b at (ltb-true begin (length b) e));
        inside = end-within b begin (start-within b at inside);
      }
      go false e = absurd (omega (arith, ap length (token_none b begin (ltb-false begin (length b) e))))

pub front-token : (b : List ℕ) (at s : ℕ) → s ≡ at + blanks (drop at b) → token (lexemes_from b at) ≡ token_at b s
front-token b at s e = fronts.front-token b at e

pub front-place : (b : List ℕ) (at s : ℕ) → s ≡ at + blanks (drop at b) → place (lexemes_from b at) ≡ s
front-place b at s e = fronts.front-place b at e

pub front : (b : List ℕ) (at s : ℕ) → at ≤ length b → s ≡ at + blanks (drop at b) → 0 < length (token_at b s) → Front b s (lexemes_from b at)
front b at s inside e some =
    subst (λ (i : ℕ). Front b i (lexemes_from b at)) (sym e) (behind-first b at inside (subst (λ (i : ℕ). 0 < length (token_at b i)) e some))

pub front-inside : (b : List ℕ) (at s : ℕ) → at ≤ length b → s ≡ at + blanks (drop at b) → s ≤ length b
front-inside b at s inside e = omega (arith, start-within b at inside)

pub mark_some : (u : Token) (c : ℕ) → same u (c ∷ []) ≡ true → 0 < length u
mark_some [] c e = absurd (false≢true e)
mark_some (a ∷ u) c e = omega arith

pub variable_some : (u : Token) → is_variable u ≡ true → 0 < length u
variable_some [] e = absurd (false≢true e)
variable_some (a ∷ u) e = omega arith

pub identifier_some : (u : Token) → is_identifier u ≡ true → 0 < length u
identifier_some [] e = absurd (false≢true e)
identifier_some (a ∷ u) e = omega arith
