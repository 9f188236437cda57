-- Commas: the loop that counts the , before the ) that ends some places.
--
--   deeper_few                   what stands behind a token is in one parenthesis more at most
--   comma-small                  a token counts once at most
--   here b s                     the lexemes from the offset s on, where a token begins there or the text ends
--   commas_begin, commas_turn, commas_stop, commas_end     the loop: its beginning, a turn, the mark that ends it, and the end of the text
--   next_start                   the next token begins further on
--
use mathlib.Core.Path.{◌≡◌, refl, sym, ap, ap₂, ◌∙◌}
use mathlib.Core.Bool.{Bool, true, false, ◌&&◌, cond, and-false}
use mathlib.Core.List.{List, [], ◌∷◌}
use Prim.Native.Nat.{ℕ, zero, suc, ◌+◌, ◌-◌, ◌<◌, ◌≤◌}
use native.Mathlib.Omega.{arith}
use lib.Dec.{eqb}
use lib.ListN.{length, drop, length-drop}
use borrow.Author.Tests.{ne_eqb, lt-ltb, le-ltb}
use Rattle.wire.proofs.Cond.{cond_true, cond_false, choice}
use Rattle.texts.specs.Lexemes.{Token, Lexeme, blanks, token_size, lexemes_from, token_at}
use Rattle.texts.specs.Names.{same, mark, opening, comma, closing, colon}
use Rattle.texts.specs.Complaints.{begins_term, first_token, commas_in}
use Rattle.texts.proofs.Scanning.{token_some, token_none, lexemes_after, lexemes-first, same-exact}
use Rattle.dues.specs.Parts.{deeper_at, comma_at}

module _ (d : ℕ) (u : Token) where
  pub deeper_few : deeper_at d u ≤ d + 1
  deeper_few =
      choice (λ n. n ≤ d + 1) (same u (mark colon)) 0 (cond (same u (mark closing)) (d - 1) (cond (same u (mark opening)) (d + 1) d)) (λ g. omega arith)
      (λ g. choice (λ n. n ≤ d + 1) (same u (mark closing)) (d - 1) (cond (same u (mark opening)) (d + 1) d) (λ e. omega arith)
      (λ e. choice (λ n. n ≤ d + 1) (same u (mark opening)) (d + 1) d (λ f. omega arith) (λ f. omega arith)))

module _ (d : ℕ) (u v : Token) where
  pub comma-small : comma_at d u v ≤ 1
  comma-small = choice (λ n. n ≤ 1) (eqb d 1 && (same u (mark comma) && begins_term v)) 1 0 (λ e. omega arith) (λ e. omega arith)

-- ---- a token

-- The count at a token by four tests, where f counts what stands behind it.
abbrev count : ℕ → Bool → Bool → Bool → Bool → (ℕ → ℕ) → ℕ
count zero z c o m f = cond z 0 (cond c 0 (cond o (f 1) (cond m (suc (f 0)) (f 0))))
count (suc d) z c o m f = cond z 0 (cond c (f d) (cond o (f (suc (suc d))) (f (suc d))))

abbrev after : ℕ → Bool → Bool → Bool → ℕ
after d z c o = cond z 0 (cond c (suc d - 1) (cond o (suc d + 1) (suc d)))

counted : (d : ℕ) (x : Lexeme) (l : List Lexeme) →
    commas_in d (x ∷ l) ≡ count d (same x.token (mark colon)) (same x.token (mark closing)) (same x.token (mark opening)) (same x.token (mark comma) && begins_term (first_token l)) (λ k. commas_in k l)
counted zero x l = refl
counted (suc d) x l = refl

stops : (d : ℕ) (z c o m : Bool) (f : ℕ → ℕ) → after d z c o ≡ 0 → count d z c o m f ≡ 0
stops zero true c o m f h = refl
stops zero false true o m f h = refl
stops zero false false true m f h = absurd (omega arith)
stops zero false false false m f h = absurd (omega arith)
stops (suc d) true c o m f h = refl
stops (suc d) false true o m f h = absurd (omega arith)
stops (suc d) false false true m f h = absurd (omega arith)
stops (suc d) false false false m f h = absurd (omega arith)

nothing : (f : ℕ → ℕ) (d e : ℕ) (t : Bool) → t ≡ false → e ≡ suc d → f d ≡ cond t 1 0 + f (e - 1)
nothing f d e t h k =
    let n : e - 1 ≡ d = omega arith in
    let z = cond_false {A = ℕ} t 1 0 h in
    let y = ap f n in omega arith

goes : (d : ℕ) (z c o m : Bool) (f : ℕ → ℕ) → (c ≡ true → m ≡ false) → (after d z c o ≡ 0 → ⊥) →
    count d z c o m f ≡ cond (eqb (after d z c o) 1 && m) 1 0 + f (after d z c o - 1)
goes zero true c o m f k h = absurd (h refl)
goes zero false true o m f k h = absurd (h refl)
goes zero false false true m f k h = omega arith
goes zero false false false true f k h = omega arith
goes zero false false false false f k h = omega arith
goes (suc d) true c o m f k h = absurd (h refl)
goes (suc d) false true o m f k h = nothing f d (suc (suc d) - 1) (eqb (suc (suc d) - 1) 1 && m) (ap (λ t. eqb (suc (suc d) - 1) 1 && t) (k refl) ∙ and-false (eqb (suc (suc d) - 1) 1)) (omega arith)
goes (suc d) false false true m f k h = nothing f (suc (suc d)) (suc (suc d) + 1) (eqb (suc (suc d) + 1) 1 && m) (ap (λ t. t && m) (ne_eqb (suc (suc d) + 1) 1 (λ e. omega arith))) (omega arith)
goes (suc d) false false false m f k h = nothing f (suc d) (suc (suc d)) (eqb (suc (suc d)) 1 && m) (ap (λ t. t && m) (ne_eqb (suc (suc d)) 1 (λ e. omega arith))) refl

-- The same by the parentheses that a token is in, from 1.
module _ (x : Lexeme) (l : List Lexeme) where
  token-stops : (d : ℕ) → 0 < d → deeper_at d x.token ≡ 0 → commas_in (d - 1) (x ∷ l) ≡ 0
  token-stops zero p h = absurd (omega arith)
  token-stops (suc d) p h =
      ap (λ k. commas_in k (x ∷ l)) (let e : suc d - 1 ≡ d = omega arith in e)
      ∙ counted d x l ∙ stops d (same x.token (mark colon)) (same x.token (mark closing)) (same x.token (mark opening)) (same x.token (mark comma) && begins_term (first_token l)) (λ k. commas_in k l) h

  token-goes : (d : ℕ) → 0 < d → (deeper_at d x.token ≡ 0 → ⊥) →
      commas_in (d - 1) (x ∷ l) ≡ comma_at (deeper_at d x.token) x.token (first_token l) + commas_in (deeper_at d x.token - 1) l
  token-goes zero p h = absurd (omega arith)
  token-goes (suc d) p h =
      ap (λ k. commas_in k (x ∷ l)) (let e : suc d - 1 ≡ d = omega arith in e)
      ∙ counted d x l
      ∙ goes d (same x.token (mark colon)) (same x.token (mark closing)) (same x.token (mark opening)) (same x.token (mark comma) && begins_term (first_token l)) (λ k. commas_in k l)
      (λ e. ap (λ t. same t (mark comma) && begins_term (first_token l)) (same-exact x.token (mark closing) e)) h

-- ---- the loop

abbrev pub here : List ℕ → ℕ → List Lexeme
here b s = record { at = s; token = token_at b s } ∷ lexemes_after b s

from-here : (b : List ℕ) (from s : ℕ) → s ≡ from + blanks (drop from b) → here b s ≡ lexemes_from b from
from-here b from s e = ap (here b) e ∙ sym (lexemes-first b from)

alone : (d s : ℕ) → commas_in d (record { at = s; token = [] } ∷ []) ≡ 0
alone zero s = refl
alone (suc d) s = refl

pub commas_begin : (b : List ℕ) (from s : ℕ) → s ≡ from + blanks (drop from b) → 0 + commas_in (1 - 1) (here b s) ≡ commas_in 0 (lexemes_from b from)
commas_begin b from s e = let k = ap (commas_in 0) (from-here b from s e) in omega arith

module _ (b : List ℕ) (s d n : ℕ) {m : ℕ} (inv : n + commas_in (d - 1) (here b s) ≡ m) where
  pub commas_end : length b ≤ s → n ≡ m
  commas_end h =
      let e = ap₂ (λ u t. commas_in (d - 1) (record { at = s; token = u } ∷ cond t (lexemes_from b (s + token_size (drop s b))) [])) (token_none b s h) (le-ltb s (length b) h) in
      omega (arith, alone (d - 1) s)

  module _ (p : 0 < d) {d' : ℕ} (deeper : d' ≡ deeper_at d (token_at b s)) where
    pub commas_stop : d' ≡ 0 → n ≡ m
    commas_stop h = let e = token-stops (record { at = s; token = token_at b s }) (lexemes_after b s) d p (sym deeper ∙ h) in omega arith

    pub commas_turn : s < length b → (d' ≡ 0 → ⊥) → {e s' : ℕ} → e ≡ s + token_size (drop s b) → s' ≡ e + blanks (drop e b) → {k : ℕ} → k ≡ comma_at d' (token_at b s) (token_at b s') →
        n + k + commas_in (d' - 1) (here b s') ≡ m
    commas_turn h z {e} {s'} f g {k} c =
        let first = token-goes (record { at = s; token = token_at b s }) (lexemes_after b s) d p (λ y. z (deeper ∙ y)) in
        let behind : lexemes_after b s ≡ here b s' = cond_true _ _ _ (lt-ltb s (length b) h) ∙ ap (lexemes_from b) (sym f) ∙ sym (from-here b e s' g) in
        let same-comma = c ∙ ap₂ (λ y l. comma_at y (token_at b s) (first_token l)) deeper (sym behind) in
        let last = ap₂ (λ y l. commas_in (y - 1) l) (sym deeper) behind in
        omega arith

pub next_start : (b : List ℕ) (s : ℕ) {e s' : ℕ} → s < length b → e ≡ s + token_size (drop s b) → s' ≡ e + blanks (drop e b) → s < s'
next_start b s h f g = omega (arith, token_some (drop s b) (let e = length-drop s b in omega arith))
