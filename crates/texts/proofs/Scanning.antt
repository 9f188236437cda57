-- Scanning: a text is read from an offset on, a lexeme at a time.
--
--   blanks-within, run-within, token-within     the blanks, the run and the token at the front of a list lie in it
--   token_some                  a list that is not empty begins with a token that is not empty
--   start-within, end-within    the token behind blanks begins, and ends, in the text
--   token-length                the token at an offset has the size that is counted there
--   token_none, token_begins    no token begins at the end of a text; elsewhere one does, with the byte that stands there
--   behind b at                 the bytes of the token at an offset behind its first
--   lexemes-next, lexemes-end   the lexemes from an offset on: the first one and those behind it, or the last one
--   lexemes_after b s            the lexemes behind the one that begins at the offset s
--   lexemes-first               the lexemes from an offset on, with a token or at the end: the first one and those after it
--   lexemes-whole               from offset 0 on they are those of the text
--   same-exact, same_refl       tokens that test as the same are the same
--
use mathlib.Core.Path.{◌≡◌, refl, sym, ap, ap₂, ◌∙◌}
use mathlib.Core.Bool.{Bool, true, false, not, cond}
use mathlib.Core.List.{List, [], ◌∷◌}
use Prim.Native.Nat.{ℕ, zero, suc, ◌+◌, ◌-◌, ◌<◌, ◌≤◌}
use native.Mathlib.Omega.{arith}
use lib.Dec.{eqb, ltb}
use lib.ListN.{length, get_or, take, drop, length-drop, drop_of_length-le}
use lib.Seq.{drop-cons, drop-drop, length-take-le}
use borrow.Author.Tests.{eqb-true, ltb-true, ltb-false}
use Rattle.terms.proofs.Bools.{eqb_refl, and_parts, and_both}
use Rattle.wire.proofs.Cond.{choice}
use Rattle.texts.specs.Lexemes.{Token, Lexeme, is_blank, is_name_byte, is_run, comment, blanks_in, blanks, run_size, token_size, lexemes_behind, lexemes_in, lexemes, lexemes_from, token_at}
use Rattle.texts.specs.Names.{same}

-- ---- what stands at the front of a list lies in it

blanks_in-within : (c : Bool) (l : List ℕ) → blanks_in c l ≤ length l
blanks_in-within c [] = omega arith
blanks_in-within true (b ∷ l) = let h = blanks_in-within (not (eqb b 10)) l in omega arith
blanks_in-within false (b ∷ l) =
    let without = blanks_in-within false l in
    let within = blanks_in-within true l in
    choice (λ n. n ≤ suc (length l)) (is_blank b) (suc (blanks_in false l)) (cond (eqb b comment) (suc (blanks_in true l)) 0) (λ e. omega arith) (λ e. choice (λ n. n ≤ suc (length l)) (eqb b comment) (suc (blanks_in true l)) 0 (λ f. omega arith) (λ f. omega arith))

pub blanks-within : (l : List ℕ) → blanks l ≤ length l
blanks-within l = blanks_in-within false l

pub run-within : (l : List ℕ) → run_size l ≤ length l
run-within [] = omega arith
run-within (b ∷ l) =
    let h = run-within l in
    choice (λ n. n ≤ suc (length l)) (is_name_byte b) (suc (run_size l)) 0 (λ e. omega arith) (λ e. omega arith)

pub token-within : (l : List ℕ) → token_size l ≤ length l
token-within [] = omega arith
token-within (b ∷ l) =
    let h = run-within l in
    choice (λ n. suc n ≤ suc (length l)) (is_run b) (run_size l) 0 (λ e. omega arith) (λ e. omega arith)

pub token_some : (l : List ℕ) → 0 < length l → 0 < token_size l
token_some [] h = omega arith
token_some (b ∷ l) h = omega arith

-- ---- the token at an offset

pub start-within : (b : List ℕ) (at : ℕ) → at ≤ length b → at + blanks (drop at b) ≤ length b
start-within b at h = omega (arith, blanks-within (drop at b), length-drop at b)

pub end-within : (b : List ℕ) (at : ℕ) → at ≤ length b → at + token_size (drop at b) ≤ length b
end-within b at h = omega (arith, token-within (drop at b), length-drop at b)

pub token_none : (b : List ℕ) (at : ℕ) → length b ≤ at → token_at b at ≡ []
token_none b at h = ap (λ l. take (token_size l) l) (drop_of_length-le b h)

pub token-length : (b : List ℕ) (at : ℕ) → length (token_at b at) ≡ token_size (drop at b)
token-length b at = length-take-le (token_size (drop at b)) (drop at b) (token-within (drop at b))

-- The bytes behind the first.
abbrev pub behind : List ℕ → ℕ → List ℕ
behind b at = take (cond (is_run (get_or b at 0)) (run_size (drop (suc at) b)) 0) (drop (suc at) b)

pub token_begins : (b : List ℕ) (at : ℕ) → at < length b → token_at b at ≡ get_or b at 0 ∷ behind b at
token_begins b at h = ap (λ l. take (token_size l) l) (drop-cons b at 0 h)

-- ---- the lexemes from an offset on

behind_more : (f g : ℕ → List ℕ → List Lexeme) (n : ℕ) → ((at : ℕ) (l : List ℕ) → length l < n → f at l ≡ g at l) →
    (at : ℕ) (l : List ℕ) → length l ≤ n → lexemes_behind f at l ≡ lexemes_behind g at l
behind_more f g n agree at [] h = refl
behind_more f g n agree at (b ∷ l) h =
    let k = cond (is_run b) (run_size l) 0 in
    let e = length-drop k l in
    ap (λ t. record { at = at; token = take (suc k) (b ∷ l) } ∷ t) (agree (at + suc k) (drop k l) (omega arith))

-- How many lexemes are enough does not matter, once it exceeds the bytes.
enough : (n m at : ℕ) (l : List ℕ) → length l < n → length l < m → lexemes_in n at l ≡ lexemes_in m at l
enough zero m at l p q = absurd (omega arith)
enough (suc n) zero at l p q = absurd (omega arith)
enough (suc n) (suc m) at l p q =
    let e = length-drop (blanks l) l in
    behind_more (lexemes_in n) (lexemes_in m) (length l) (λ i k h. enough n m i k (omega arith) (omega arith)) (at + blanks l) (drop (blanks l) l) (omega arith)

behind-next : (more : ℕ → List ℕ → List Lexeme) (at : ℕ) (l : List ℕ) → 0 < length l →
    lexemes_behind more at l ≡ record { at = at; token = take (token_size l) l } ∷ more (at + token_size l) (drop (token_size l) l)
behind-next more at [] h = absurd (omega arith)
behind-next more at (b ∷ l) h = refl

from-behind : (b : List ℕ) (at : ℕ) →
    lexemes_from b at ≡ lexemes_behind (lexemes_in (length b - at)) (at + blanks (drop at b)) (drop (at + blanks (drop at b)) b)
from-behind b at =
    ap (lexemes_behind (lexemes_in (length b - at)) (at + blanks (drop at b))) (drop-drop (blanks (drop at b)) at b)

pub lexemes-next : (b : List ℕ) (at : ℕ) → at + blanks (drop at b) < length b →
    let s = at + blanks (drop at b) in
    lexemes_from b at ≡ record { at = s; token = token_at b s } ∷ lexemes_from b (s + token_size (drop s b))
lexemes-next b at h =
    let s = at + blanks (drop at b) in
    let n = token_size (drop s b) in
    let e = length-drop s b in
    let some = token_some (drop s b) (omega arith) in
    let left = length-drop (s + n) b in
    from-behind b at
    ∙ behind-next (lexemes_in (length b - at)) s (drop s b) (omega arith)
    ∙ ap (λ t. record { at = s; token = token_at b s } ∷ t) (ap (lexemes_in (length b - at) (s + n)) (drop-drop n s b) ∙ enough (length b - at) (suc (length b - (s + n))) (s + n) (drop (s + n) b) (omega arith) (omega arith))

pub lexemes-end : (b : List ℕ) (at : ℕ) → length b ≤ at + blanks (drop at b) →
    lexemes_from b at ≡ record { at = at + blanks (drop at b); token = [] } ∷ []
lexemes-end b at h =
    from-behind b at ∙ ap (lexemes_behind (lexemes_in (length b - at)) (at + blanks (drop at b))) (drop_of_length-le b h)

-- The lexemes behind the one that begins at an offset.
abbrev pub lexemes_after : List ℕ → ℕ → List Lexeme
lexemes_after b s = cond (ltb s (length b)) (lexemes_from b (s + token_size (drop s b))) []

pub lexemes-first : (b : List ℕ) (at : ℕ) →
    let s = at + blanks (drop at b) in
    lexemes_from b at ≡ record { at = s; token = token_at b s } ∷ lexemes_after b s
lexemes-first b at = go (ltb (at + blanks (drop at b)) (length b)) refl
  where
    go : (t : Bool) → ltb (at + blanks (drop at b)) (length b) ≡ t →
        let s = at + blanks (drop at b) in
        lexemes_from b at ≡ record { at = s; token = token_at b s } ∷ cond t (lexemes_from b (s + token_size (drop s b))) []
    go true e = lexemes-next b at (ltb-true (at + blanks (drop at b)) (length b) e)
    go false e =
        let s = at + blanks (drop at b) in
        let past = ltb-false s (length b) e in
        lexemes-end b at past ∙ ap (λ t. record { at = s; token = t } ∷ []) (sym (token_none b s past))

pub lexemes-whole : (b : List ℕ) → lexemes_from b 0 ≡ lexemes b
lexemes-whole b =
    let e : length b - 0 ≡ length b = omega arith in
    ap (λ n. lexemes_in (suc n) 0 b) e

-- ---- tokens that are the same

pub same_refl : (t : Token) → same t t ≡ true
same_refl [] = refl
same_refl (a ∷ t) = and_both (eqb a a) (same t t) (eqb_refl a) (same_refl t)

pub same-exact : (t u : Token) → same t u ≡ true → t ≡ u
same-exact [] [] e = refl
same-exact [] (b ∷ u) e = let z : ◌≡◌ {A = Bool} true false = sym e in cc
same-exact (a ∷ t) [] e = let z : ◌≡◌ {A = Bool} true false = sym e in cc
same-exact (a ∷ t) (b ∷ u) e =
    let both = and_parts (eqb a b) (same t u) e in
    ap₂ (λ x y. x ∷ y) (eqb-true a b both.0) (same-exact t u both.1)
