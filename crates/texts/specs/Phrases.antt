-- Phrases: patterns and entries in the engineers' own words.
--
--   bracketed ts us          us, where there is a term among ts
--   term_tokens N vs t        the tokens of a term, where N are the names of the words and vs the tokens of the variables
--   places_tokens N vs c ts   .. of the terms of a word's places, with the mark c before the first
--   phrase_tokens X vs s t    the tokens of a pattern or entry of kind s
--   spelled u                a token as it is written, with the space that follows it
--   spell us                 tokens as they are written
--   phrase_text X vs s t      a pattern or entry of kind s in words
--   Numbered t n             the variables of t are 0, 1, .. n - 1, from left to right
--   GoodPhrase X vs s t      t is a pattern of kind s in the words of X and the variables vs, which list accepts
--   Phrase                   a pattern as it stands in a text: it may have a label
--   IsLabel u, label_tokens u     u is a label or none, and its tokens
--   whole_tokens X p          the tokens of a pattern with its label
--   GoodWhole X p            label and pattern are good
--
use Rattle.std.specs.Prelude.{◌≡◌, ◌||◌, cond, List, [], ◌∷◌, ◌++◌, ◌⊎◌, ℕ, ◌≤◌, length}
use Rattle.terms.specs.Lists.{All, range}
use Rattle.terms.specs.Term.{Term, any, var, app, Terms, nil, cons, names}
use Rattle.wire.specs.TermBytes.{encode_term, name_count, HoldsTerm}
use Rattle.wire.specs.Text.{ascii}
use Rattle.texts.specs.Lexemes.{Token}
use Rattle.texts.specs.Names.{opened, mark, opening, closing, comma, colon, same, name_at, IsIdentifier, IsVariable, Distinct}
use Rattle.texts.specs.Lexicon.{Lexicon, kind_names, word_names, vocabulary_of}

abbrev pub bracketed : Terms → List Token → List Token
bracketed nil us = []
bracketed (cons t ts) us = us

-- `wait(up, _)`: an open place is written as _, and a word without places has no parentheses.
abbrev mutual
  pub term_tokens : List Token → List Token → Term → List Token
  term_tokens N vs any = opened ∷ []
  term_tokens N vs (var n) = name_at vs n ∷ []
  term_tokens N vs (app f ts) = name_at N f ∷ bracketed ts (places_tokens N vs opening ts)

  pub places_tokens : List Token → List Token → ℕ → Terms → List Token
  places_tokens N vs c nil = mark closing ∷ []
  places_tokens N vs c (cons t ts) = mark c ∷ (term_tokens N vs t ++ places_tokens N vs comma ts)

-- Where a word stands at the root its kind is known; for an open place or a variable it is written, as in `_: step`.
abbrev pub phrase_tokens : Lexicon → List Token → ℕ → Term → List Token
phrase_tokens X vs s any = opened ∷ mark colon ∷ name_at (kind_names X) s ∷ []
phrase_tokens X vs s (var n) = name_at vs n ∷ mark colon ∷ name_at (kind_names X) s ∷ []
phrase_tokens X vs s (app f ts) = term_tokens (word_names X) vs (app f ts)

-- A space follows a comma and a colon.
abbrev pub spelled : Token → List ℕ
spelled u = u ++ cond (same u (mark comma) || same u (mark colon)) (ascii " ") []

abbrev pub spell : List Token → List ℕ
spell [] = []
spell (u ∷ us) = spelled u ++ spell us

abbrev pub phrase_text : Lexicon → List Token → ℕ → Term → List ℕ
phrase_text X vs s t = spell (phrase_tokens X vs s t)

abbrev pub Numbered : Term → ℕ → Type 0
Numbered t n = names t ≡ range 0 n

pub record GoodPhrase (X : Lexicon) (vs : List Token) (s : ℕ) (t : Term) : Type 0 where
  pub term : HoldsTerm (vocabulary_of X) (encode_term (vocabulary_of X) s t) s t
  pub numbered : Numbered t (length vs)
  pub variables : All IsVariable vs
  pub different : Distinct vs
  pub few : length vs ≤ name_count

-- A pattern as it stands in a text: it may have a label.
pub record Phrase : Type 0 where
  pub label : Token
  pub kind : ℕ
  pub term : Term
  pub variables : List Token

abbrev pub IsLabel : Token → Type 0
IsLabel u = (u ≡ []) ⊎ IsIdentifier u

-- `go:`
abbrev pub label_tokens : Token → List Token
label_tokens [] = []
label_tokens (b ∷ u) = (b ∷ u) ∷ mark colon ∷ []

abbrev pub whole_tokens : Lexicon → Phrase → List Token
whole_tokens X p = label_tokens p.label ++ phrase_tokens X p.variables p.kind p.term

pub record GoodWhole (X : Lexicon) (p : Phrase) : Type 0 where
  pub label : IsLabel p.label
  pub phrase : GoodPhrase X p.variables p.kind p.term
