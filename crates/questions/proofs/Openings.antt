-- Openings: a question's beginning, and what stands open from an offset on.
--
--   begins_not, begins_is           a name and a ? stand there, by the tokens at their offsets
--   question_behind                 the lexemes behind the ?
--   open_end, open_past, open_found, open_turn     the first open place or variable, by the tokens at their offsets
--   open_less                       less is left of the text behind a token
--
use mathlib.Core.Path.{◌≡◌, refl, sym, ap, ap₂, ◌∙◌}
use mathlib.Core.Bool.{Bool, true, false, ◌&&◌, cond}
use mathlib.Core.List.{List, [], ◌∷◌}
use mathlib.Core.Option.{Option, some, none}
use Prim.Native.Nat.{ℕ, ◌+◌, ◌-◌, ◌<◌, ◌≤◌}
use native.Mathlib.Omega.{arith}
use lib.Dec.{ltb}
use lib.ListN.{length, drop, length-drop}
use borrow.Author.Tests.{ltb-true, ltb-false, lt-ltb, le-ltb}
use Rattle.terms.proofs.Bools.{and_parts}
use Rattle.wire.proofs.Cond.{cond_true, cond_false}
use Rattle.texts.specs.Lexemes.{Token, asking, blanks, token_size, lexemes_from, token_at}
use Rattle.texts.specs.Names.{same, mark, is_identifier}
use Rattle.texts.specs.Faults.{token, rest}
use Rattle.texts.specs.QuestionReading.{is_open, open_before, begins_question}
use Rattle.texts.proofs.Scanning.{token_some, token_none, lexemes_after, lexemes-first, lexemes-end}
use Rattle.clauses.specs.Reading.{Front}
use Rattle.clauses.proofs.Fronts.{front-token, front, mark_some, identifier_some}

module _ (b : List ℕ) (at s : ℕ) (start : s ≡ at + blanks (drop at b)) where
  -- ---- the beginning of a question

  pub begins_not : is_identifier (token_at b s) ≡ false → false ≡ begins_question (lexemes_from b at)
  begins_not h =
      sym (ap (λ (t : Bool). t && same (token (rest (lexemes_from b at))) (mark asking)) (ap is_identifier (front-token b at s start) ∙ h))

  module _ (named : is_identifier (token_at b s) ≡ true) where
    some_inside : at ≤ length b
    some_inside = go (ltb s (length b)) refl
      where
        go : (t : Bool) → ltb s (length b) ≡ t → at ≤ length b
        go true e = omega (arith, ltb-true s (length b) e)
        go false e = absurd (omega (arith, identifier_some (token_at b s) named, ap length (token_none b s (ltb-false s (length b) e))))

    name-front : Front b s (lexemes_from b at)
    name-front = front b at s some_inside start (identifier_some (token_at b s) named)

    pub begins_is : (e q : ℕ) (t : Bool) → e ≡ s + token_size (drop s b) → q ≡ e + blanks (drop e b) → t ≡ same (token_at b q) (63 ∷ []) →
        t ≡ begins_question (lexemes_from b at)
    begins_is e q t end next is =
        is
        ∙ sym
        (ap₂ (λ (t : Bool) (u : Token). t && same u (mark asking)) (ap is_identifier name-front.token ∙ named)
        (ap token (name-front.behind ∙ ap (lexemes_from b) (sym end)) ∙ front-token b e q next))

  pub question_behind : (e q f : ℕ) → begins_question (lexemes_from b at) ≡ true → e ≡ s + token_size (drop s b) → q ≡ e + blanks (drop e b) →
      f ≡ q + token_size (drop q b) → (rest (rest (lexemes_from b at)) ≡ lexemes_from b f) × (f ≤ length b)
  question_behind e q f begun end next end₂ =
      let parts = and_parts (is_identifier (token (lexemes_from b at))) (same (token (rest (lexemes_from b at))) (mark asking)) begun in
      let first : Front b s (lexemes_from b at) = name-front (sym (ap is_identifier (front-token b at s start)) ∙ parts.0) in
      let behind : rest (lexemes_from b at) ≡ lexemes_from b e = first.behind ∙ ap (lexemes_from b) (sym end) in
      let asks : same (token_at b q) (63 ∷ []) ≡ true = sym (ap (λ (u : Token). same u (mark asking)) (ap token behind ∙ front-token b e q next)) ∙ parts.1 in
      let second : Front b q (lexemes_from b e) = front b e q (omega (arith, first.inside)) next (mark_some (token_at b q) 63 asks) in
      (ap rest behind ∙ second.behind ∙ ap (lexemes_from b) (sym end₂), omega (arith, second.inside))

-- ---- what stands open

module _ (b : List ℕ) (e : ℕ) where
  cond_same : {A : Type 0} (t : Bool) (a : A) → cond t a a ≡ a
  cond_same true a = refl
  cond_same false a = refl

  pub open_end : (at : ℕ) → length b ≤ at → open_before e (lexemes_from b at) ≡ none
  open_end at h =
      ap (open_before e) (lexemes-end b at (omega arith)) ∙ cond_same (ltb (at + blanks (drop at b)) e) none

  module _ (at s : ℕ) (start : s ≡ at + blanks (drop at b)) where
    abbrev found : Option ℕ
    found = cond (is_open (token_at b s)) (some s) (open_before e (lexemes_after b s))

    open_first : open_before e (lexemes_from b at) ≡ cond (ltb s e) found none
    open_first = ap (open_before e) (lexemes-first b at) ∙ ap (λ (i : ℕ). cond (ltb i e) (cond (is_open (token_at b i)) (some i) (open_before e (lexemes_after b i))) none) (sym start)

    pub open_past : e ≤ s → open_before e (lexemes_from b at) ≡ none
    open_past h = open_first ∙ cond_false (ltb s e) found none (le-ltb s e h)

    pub open_found : s < e → is_open (token_at b s) ≡ true → open_before e (lexemes_from b at) ≡ some s
    open_found h o = open_first ∙ cond_true (ltb s e) found none (lt-ltb s e h) ∙ cond_true (is_open (token_at b s)) (some s) _ o

    after_first : open_before e (lexemes_after b s) ≡ open_before e (lexemes_from b (s + token_size (drop s b)))
    after_first = go (ltb s (length b)) refl
      where
        go : (t : Bool) → ltb s (length b) ≡ t →
            open_before e (cond t (lexemes_from b (s + token_size (drop s b))) []) ≡ open_before e (lexemes_from b (s + token_size (drop s b)))
        go true h = refl
        go false h = sym (open_end (s + token_size (drop s b)) (omega (arith, ltb-false s (length b) h)))

    pub open_less : (next : ℕ) → next ≡ s + token_size (drop s b) → at < length b → length b - next < length b - at
    open_less next end h = go (ltb s (length b)) refl
      where
        go : (t : Bool) → ltb s (length b) ≡ t → length b - next < length b - at
        go true k =
            let less = ltb-true s (length b) k in
            let size = length-drop s b in
            omega (arith, token_some (drop s b) (omega arith))
        go false k = omega (arith, ltb-false s (length b) k)

    pub open_turn : (next : ℕ) → next ≡ s + token_size (drop s b) → s < e → is_open (token_at b s) ≡ false →
        open_before e (lexemes_from b next) ≡ open_before e (lexemes_from b at)
    open_turn next end h o =
        ap (λ (i : ℕ). open_before e (lexemes_from b i)) end
        ∙ sym
        (open_first
        ∙ cond_true (ltb s e) found none (lt-ltb s e h)
        ∙ cond_false (is_open (token_at b s)) (some s) (open_before e (lexemes_after b s)) o
        ∙ after_first)
