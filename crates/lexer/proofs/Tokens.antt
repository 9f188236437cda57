-- Tokens: what the token at an offset is, by its end.
--
--   equal_same              what comparing two tokens answers is whether they are the same
--   token-part              the part of a text from the offset to the end of its token
--   rest_behind             what stands from an offset on, empty behind the end
--   word_front              a list begins with a word, and its token has the word's length, where that token is the word
--   front_same              what comparing a word with the bytes at the front answers
--   word-begins, word-other the token at an offset is a word where the text there begins with the word and the token has its length
--   mark-alone              the token at an offset is a mark where the byte there is that mark and the token ends behind it
--
use Rattle.std.proofs.Common.{◌≡◌, ℕ, suc, ◌+◌, ◌-◌, ◌<◌, ◌≤◌, min, Bool, true, false, ◌&&◌, ◌⊎◌, inl, inr, eqb, List, [], ◌∷◌, length, get_or, take, drop, Option, Some, None, unwrap_or, Bor, sym, refl, ap, ap₂, ◌∙◌, arith, drop_of_length-le, length-take-le, eq-eqb, ne_eqb, eqb-true}
use Rattle.std.specs.List.{slice_range}
use Rattle.std.specs.Option.{MatchOption}
use Rattle.std.proofs.Math.Bool.{and-true}
use Rattle.std.proofs.lemmas.Bool.{and_right}
use Rattle.std.proofs.lemmas.List.{take_min, take_rest}
use Rattle.slices.specs.Equal.{Equal}
use Rattle.texts.specs.Lexemes.{Token, token_size, token_at}
use Rattle.texts.specs.Names.{same}
use Rattle.texts.proofs.Scanning.{same_refl, same-exact, token_begins, token-length, token-within, behind}

pub equal_same : (t u : Token) (r : Bool) → Equal t u r → r ≡ same t u
equal_same t u true h = sym (ap (same t) (sym (h.yes refl)) ∙ same_refl t)
equal_same t u false h = go (same t u) refl
  where
    go : (b : Bool) → same t u ≡ b → false ≡ b
    go true e = absurd (h.no refl (same-exact t u e))
    go false e = refl

pub token-part : (l : List ℕ) (at e : ℕ) → e ≡ at + token_size (drop at l) → take (e - at) (drop at l) ≡ token_at l at
token-part l at e h =
    let k : e - at ≡ token_size (drop at l) = omega arith in
    ap (λ n. take n (drop at l)) k

-- ---- words

pub rest_behind : (l : List ℕ) (at : ℕ) (r : Option (Bor (List ℕ))) (d : Bor (List ℕ)) {t : Bor (List ℕ)} → t ≡ unwrap_or r d → d.now ≡ [] →
    MatchOption r ((length l < at) ⊎ (length l < length l)) (λ x. (at ≤ length l) × (length l ≤ length l) × (x.now ≡ slice_range l at (length l)) × (length x.now + at ≡ length l)) →
    t.now ≡ drop at l
rest_behind l at None d is e (inl h) = ap (λ t. t.now) is ∙ e ∙ sym (drop_of_length-le l (omega arith))
rest_behind l at None d is e (inr h) = absurd (omega arith)
rest_behind l at (Some x) d is e h = ap (λ t. t.now) is ∙ h.2 ∙ take_rest l at

length_other : (t w : Token) → eqb (length t) (length w) ≡ false → same t w ≡ false
length_other t w e = go (same t w) refl
  where
    go : (x : Bool) → same t w ≡ x → x ≡ false
    go true s = sym (eq-eqb (length t) (length w) (ap length (same-exact t w s))) ∙ e
    go false s = refl

word_front : (l : List ℕ) (n : ℕ) (w : Token) → n ≤ length l → (same (take (length w) l) w && eqb n (length w)) ≡ same (take n l) w
word_front l n w h = go (eqb n (length w)) refl
  where
    go : (x : Bool) → eqb n (length w) ≡ x → (same (take (length w) l) w && x) ≡ same (take n l) w
    go true e = and-true (same (take (length w) l) w) ∙ ap (λ m. same (take m l) w) (sym (eqb-true n (length w) e))
    go false e =
        and_right (same (take (length w) l) w) false refl
        ∙ sym (length_other (take n l) w (ap (λ m. eqb m (length w)) (length-take-le n l h) ∙ e))

pub front_same : (l w : List ℕ) (n : ℕ) {r : List ℕ} {s : Bool} → r ≡ l → n ≡ min (length w) (length r) → Equal (take n r) w s → s ≡ same (take (length w) l) w
front_same l w n {r} e m compared =
    equal_same _ _ _ compared
    ∙ ap (λ t. same t w) (ap (λ n. take n r) m ∙ take_min (length w) r ∙ ap (take (length w)) e)

module _ (l : List ℕ) (at : ℕ) (w : Token) {s : Bool} (begins : s ≡ same (take (length w) (drop at l)) w) where
  pub word-begins : s ≡ true → (e : ℕ) → e ≡ at + token_size (drop at l) → eqb (e - at) (length w) ≡ same (token_at l at) w
  word-begins h e end =
      let k : e - at ≡ token_size (drop at l) = omega arith in
      ap₂ (λ x n. x && eqb n (length w)) (sym h ∙ begins) k
      ∙ word_front (drop at l) (token_size (drop at l)) w (token-within (drop at l))

  pub word-other : s ≡ false → s ≡ same (token_at l at) w
  word-other h =
      h
      ∙ ap (λ x. x && eqb (token_size (drop at l)) (length w)) (sym h ∙ begins)
      ∙ word_front (drop at l) (token_size (drop at l)) w (token-within (drop at l))

-- ---- marks

alone : (u : Token) (e at : ℕ) → e ≡ at + suc (length u) → eqb e (at + 1) ≡ same u []
alone [] e at h = eq-eqb e (at + 1) (omega arith)
alone (b ∷ u) e at h = ne_eqb e (at + 1) (λ k. omega arith)

pub mark-alone : (l : List ℕ) (at mark e : ℕ) → at < length l → get_or l at 0 ≡ mark → e ≡ at + token_size (drop at l) → eqb e (at + 1) ≡ same (token_at l at) (mark ∷ [])
mark-alone l at mark e h first end =
    let size = token-length l at in
    let sizes = ap length (token_begins l at h) in
    alone (behind l at) e at (omega arith)
    ∙ sym (ap (λ t. same t (mark ∷ [])) (token_begins l at h) ∙ ap (λ b. b && same (behind l at) []) (eq-eqb _ _ first))
