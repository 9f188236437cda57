-- Asked: what is put for a question is its text.
--
--   front_of             tokens that stand at the front of a text's are the front of those before its end
--   situation-tokens, pattern-tokens     the tokens of a situation and of a pattern are tokens
--   asked_text            what is put where a pattern's label stands at an offset and its root at another one, for a situation between two
--   asked_is             it is the question's text
--   puts_question        so what is put is promised
--
use mathlib.Core.Path.{◌≡◌, refl, sym, ap, ap₂, ◌∙◌}
use mathlib.Core.Bool.{false}
use mathlib.Core.List.{List, [], ◌∷◌, ◌++◌, append_assoc}
use Prim.Native.Nat.{ℕ, ◌<◌}
use native.Mathlib.Omega.{arith}
use lib.ListN.{length, take, drop, length-append}
use lib.Seq.{take_at}
use Rattle.terms.specs.Lists.{All}
use Rattle.terms.specs.Term.{Term, any, var, app, Ground, gapp, as_term}
use Rattle.terms.proofs.Ground.{ground-names}
use Rattle.wire.specs.Text.{ascii, newline}
use Rattle.texts.specs.Lexemes.{Token, lexemes_from, token_at}
use Rattle.texts.specs.Names.{same, mark, opening, colon, IsIdentifier, name_at}
use Rattle.texts.specs.Spelling.{IsToken, single}
use Rattle.texts.specs.Lexicon.{Lexicon, word_names, GoodLexicon}
use Rattle.texts.specs.Phrases.{Phrase, label_tokens, term_tokens, phrase_tokens, whole_tokens, spell, GoodWhole}
use Rattle.texts.specs.Questions.{ground_tokens, GoodQuestion}
use Rattle.texts.specs.Verdicts.{compare, verdict_text, question_text}
use Rattle.texts.specs.Comparing.{term_size, walk, as_walked}
use Rattle.texts.specs.Laws.{tokens_of}
use Rattle.texts.proofs.Spelling.{some_token}
use Rattle.texts.proofs.Spelt.{token-name, phrases_are_spelled}
use Rattle.texts.proofs.Passing.{spelled-tokens}
use Rattle.texts.proofs.Walks.{walks_are_comparisons, situations-end}
use Rattle.pages.specs.Pages.{Adds}
use Rattle.pages.proofs.Pages.{adds_is}
use Rattle.verdicts.specs.Steps.{behind_token, passed, tokens_in, all_tokens, places_size, walked}
use Rattle.verdicts.specs.Parts.{walked_text}
use Rattle.verdicts.specs.Putting.{PutsQuestion}
use Rattle.verdicts.proofs.Steps.{all-next, passed-take, tokens-all}
use Rattle.verdicts.proofs.Fronts.{front-term, verdict-text}

-- ---- the tokens at the front of a text's

-- The last token of a text is empty, and the others are not.
record Front (us vs rest : List Token) : Type 0 where
  more : List Token
  front : us ≡ vs ++ more
  ended : rest ≡ more ++ ([] ∷ [])

front_of : (vs us rest : List Token) → All IsToken vs → us ++ ([] ∷ []) ≡ vs ++ rest → Front us vs rest
front_of [] us rest a e = record { more = us; front = refl; ended = sym e }
front_of (v ∷ vs) [] rest a e = absurd (some_token a.0 (cc))
front_of (v ∷ vs) (u ∷ us) rest a e =
    let h = front_of vs us rest a.1 (cc) in
    let same : u ≡ v = cc in
    record { more = h.more; front = ap₂ (λ x l. x ∷ l) same h.front; ended = h.ended }

all_of : (b : List ℕ) (i : ℕ) (vs rest : List Token) → All IsToken vs → tokens_of (lexemes_from b i) ≡ vs ++ rest → Front (all_tokens b i) vs rest
all_of b i vs rest a e = front_of vs (all_tokens b i) rest a (sym (tokens-all b i) ∙ e)

-- ---- the tokens of situations and patterns

module _ (X : Lexicon) (p : Phrase) (good : GoodLexicon X) where
  situation-tokens : (g : Ground) → GoodQuestion X p g → All IsToken (ground_tokens (word_names X) g)
  situation-tokens (gapp f gs) q =
      spelled-tokens
      (phrases_are_spelled X [] p.kind (as_term (gapp f gs)) good
      (record { term = q.situation; numbered = ground-names (gapp f gs); variables = tt; different = tt; few = omega arith }))

  pattern-tokens : GoodWhole X p → All IsToken (phrase_tokens X p.variables p.kind p.term)
  pattern-tokens whole = spelled-tokens (phrases_are_spelled X p.variables p.kind p.term good whole.phrase)

-- A root that is no word is followed by its kind.
root-term : (X : Lexicon) (vs : List Token) (s : ℕ) (t : Term) (rest : List Token) →
    (more : List Token) × (phrase_tokens X vs s t ++ rest ≡ term_tokens (word_names X) vs t ++ more)
root-term X vs s any rest = (_, refl)
root-term X vs s (var n) rest = (_, refl)
root-term X vs s (app f ts) rest = (rest, refl)

label-front : (l : Token) (us : List Token) → IsIdentifier l → label_tokens l ++ us ≡ l ∷ mark colon ∷ us
label-front [] us h = absurd (some_token (token-name [] h) refl)
label-front (c ∷ l) us h = refl

-- ---- the question

abbrev end_of : List ℕ → ℕ → ℕ
end_of b at = passed b (behind_token b at) (places_size (all_tokens b (behind_token b at)))

abbrev root_of : List ℕ → ℕ → ℕ
root_of b label = behind_token b (behind_token b label)

abbrev pub asked_text : List ℕ → ℕ → ℕ → ℕ → ℕ → List ℕ
asked_text b label root at e =
    ascii "# "
    ++ (token_at b label
    ++ (ascii " ? " ++ (spell (tokens_in b at e) ++ (newline ++ (walked_text (token_at b label) (tokens_in b at e) (walked b root at e) ++ newline)))))

-- The end of the first term from an offset on.
end-of : (b : List ℕ) (at : ℕ) (us : List Token) → all_tokens b at ≡ us → 0 < length us → end_of b at ≡ passed b at (term_size us)
end-of b at [] e h = absurd (omega arith)
end-of b at (u ∷ us) e h = ap (λ l. passed b (behind_token b at) (places_size l)) (sym (all-next b at) ∙ ap (drop 1) e)

no-opening : (more rest : List Token) → rest ≡ more ++ ([] ∷ []) → same (name_at rest 0) (mark opening) ≡ false → same (name_at more 0) (mark opening) ≡ false
no-opening [] rest e h = refl
no-opening (u ∷ more) rest e h = sym (ap (λ l. same (name_at l 0) (mark opening)) e) ∙ h

module _ (b : List ℕ) (label at : ℕ) (X : Lexicon) (p : Phrase) (g : Ground) (R S : List Token)
    (good : GoodLexicon X) (whole : GoodWhole X p) (q : GoodQuestion X p g)
    (named : token_at b label ≡ p.label) (pattern : tokens_of (lexemes_from b label) ≡ whole_tokens X p ++ R)
    (situation : tokens_of (lexemes_from b at) ≡ ground_tokens (word_names X) g ++ S) (ends : same (name_at S 0) (mark opening) ≡ false) where
  abbrev vs : List Token
  vs = ground_tokens (word_names X) g

  abbrev us : List Token
  us = phrase_tokens X p.variables p.kind p.term

  standing : Front (all_tokens b at) vs S
  standing = all_of b at vs S (situation-tokens X p good g q) situation

  some : (h : Ground) → 0 < length (ground_tokens (word_names X) h)
  some (gapp f gs) = omega arith

  ends_at : end_of b at ≡ passed b at (length vs)
  ends_at =
      let t = standing in
      end-of b at (vs ++ t.more) t.front (omega (arith, length-append vs t.more, some g))
      ∙ ap (passed b at) (situations-end X p g t.more good q (no-opening t.more S t.ended ends))

  situation_is : tokens_in b at (end_of b at) ≡ vs
  situation_is =
      let t = standing in
      ap (tokens_in b at) ends_at
      ∙ passed-take b (length b) (length vs) at (omega (arith, ap length t.front, length-append vs t.more))
      ∙ ap (take (length vs)) t.front
      ∙ take_at vs t.more (length vs) refl

  root_is : (more : List Token) × (all_tokens b (root_of b label) ≡ us ++ more)
  root_is =
      let t = all_of b label (p.label ∷ mark colon ∷ us) R
      (token-name p.label q.label, (single colon refl refl refl, pattern-tokens X p good whole))
      (pattern ∙ ap (λ l. l ++ R) (label-front p.label us q.label)) in
      (t.more, sym (all-next b (behind_token b label)) ∙ ap (drop 1) (sym (all-next b label)) ∙ ap (λ l. drop 1 (drop 1 l)) t.front)

  walked_is : walked b (root_of b label) at (end_of b at) ≡ as_walked (word_names X) p.variables (compare (word_names X) p.term g)
  walked_is =
      let r = root_is in
      let m = root-term X p.variables p.kind p.term r.0 in
      ap₂ (λ ws l. walk (length ws) l ws) situation_is (r.1 ∙ m.1)
      ∙ walks_are_comparisons X p g m.0 good whole q

  verdict_is : walked_text (token_at b label) (tokens_in b at (end_of b at)) (walked b (root_of b label) at (end_of b at)) ≡ verdict_text X p (compare (word_names X) p.term g)
  verdict_is =
      ap₂ (λ l ws. walked_text l ws (walked b (root_of b label) at (end_of b at))) named situation_is
      ∙ ap (walked_text p.label vs) walked_is
      ∙ verdict-text X p vs (compare (word_names X) p.term g) (front-term (word_names X) p.term g)

  asked_is : asked_text b label (root_of b label) at (end_of b at) ≡ question_text X p g
  asked_is =
      ap₂ (λ l ws. ascii "# " ++ (l ++ (ascii " ? " ++ (spell ws ++ (newline ++ (walked_text (token_at b label) (tokens_in b at (end_of b at)) (walked b (root_of b label) at (end_of b at)) ++ newline)))))) named situation_is
      ∙ ap (λ t. ascii "# " ++ (p.label ++ (ascii " ? " ++ (spell vs ++ (newline ++ (t ++ newline)))))) verdict_is
      ∙ ap (λ l. ascii "# " ++ l) (sym (append_assoc p.label (ascii " ? ") (spell vs ++ (newline ++ (verdict_text X p (compare (word_names X) p.term g) ++ newline)))))

-- The offsets are found on the way.
pub puts_question : (b : List ℕ) (label at : ℕ) {j e k root : ℕ} → j ≡ behind_token b at → e ≡ passed b j (places_size (tokens_in b j (length b))) →
    k ≡ behind_token b label → root ≡ behind_token b k → {before : List ℕ} {to : ℕ} {after : List ℕ} {next : ℕ} →
    Adds before to after next (asked_text b label root at e) → PutsQuestion b label at before to after next
puts_question b label at {j} {e} {k} {root} first ends second third put = record {
  kept = put.same;
  puts = λ X p g R S good whole q in-label in-at named pattern situation last.
      adds_is
      (ap₂ (λ x y. asked_text b label x at y) (third ∙ ap (behind_token b) second) (ends ∙ ap (λ x. passed b x (places_size (tokens_in b x (length b)))) first)
      ∙ asked_is b label at X p g R S good whole q named pattern situation last)
      put;
}
