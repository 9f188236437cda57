-- Lines: what has no end of a line, so that it may stand in a comment, and comments before and behind what is spelt.
--
--   Line c                          the bytes c have no end of a line
--   line-blank                      a comment on a line of its own is blank
--   spells-append                   two texts with the end of a line between them
--   remark-behind                   a comment on a line of its own behind what is spelt
--   line_by, line-append            a text, and two of them
--   line-names, line-label, line-variable, line-decimal     a name, a label, a variable, a number
--   line-counted                    a number between two texts
--   line_at, line-spell             one of several tokens, and tokens
--   term-line, phrase-line, label-line     the tokens of a term, of a pattern, and of its label
--   kinds-line, words-line, variables-line     the names of a vocabulary, and variables
--
use mathlib.Core.Path.{◌≡◌, refl, sym, ap, subst, ◌∙◌}
use mathlib.Core.Bool.{Bool, true, false, not, ◌&&◌, ◌||◌, cond}
use mathlib.Core.List.{List, [], ◌∷◌, ◌++◌, append_assoc}
use mathlib.Core.Logic.{inl, inr}
use Prim.Native.Nat.{ℕ, zero, suc, ◌≤◌}
use native.Mathlib.Omega.{arith}
use lib.Dec.{eqb}
use borrow.Author.Tests.{ne_eqb, not-true}
use Rattle.terms.specs.Lists.{All}
use Rattle.terms.specs.Term.{Term, any, var, app, Terms, nil, cons}
use Rattle.terms.proofs.All.{all_implies, all_append}
use Rattle.terms.proofs.Bools.{and_parts}
use Rattle.wire.specs.Text.{ascii, newline, decimal}
use Rattle.wire.proofs.Text.{decimal_is_exact}
use Rattle.texts.specs.Lexemes.{Token, is_name_byte, comment, asking}
use Rattle.texts.specs.Names.{same, mark, opening, comma, colon, name_at, IsIdentifier, IsVariable}
use Rattle.texts.specs.Spelling.{Blank, none, space, remark, whole as ended, unended, Ends, Spells, end, next}
use Rattle.texts.specs.Lexicon.{Lexicon, kind_names, word_names, GoodLexicon}
use Rattle.texts.specs.Phrases.{IsLabel, label_tokens, bracketed, term_tokens, places_tokens, phrase_tokens, spell}
use Rattle.texts.proofs.Plain.{apart}
use Rattle.texts.proofs.Telling.{lexicon-named}
use Rattle.texts.proofs.Spelt.{blank-append, blank-before}

-- ---- comments

abbrev pub Line : List ℕ → Type 0
Line c = All (λ b. eqb b 10 ≡ false) c

pub line-append : (a b : List ℕ) → Line a → Line b → Line (a ++ b)
line-append = all_append (λ b. eqb b 10 ≡ false)

pub line-blank : (c : List ℕ) → Line c → Blank (comment ∷ (c ++ newline))
line-blank c all = remark c [] (c ++ newline) all refl none

ends-behind : (u : Token) (r : List ℕ) (d : ℕ) (b : List ℕ) → is_name_byte d ≡ false → Ends u r → Ends u (r ++ (d ∷ b))
ends-behind [] r d b e h = tt
ends-behind (c ∷ u) [] d b e h = λ q. e
ends-behind (c ∷ u) (f ∷ r) d b e h = h

token-behind : (a w : List ℕ) (u : Token) (r b : List ℕ) → a ≡ w ++ (u ++ r) → a ++ b ≡ w ++ (u ++ (r ++ b))
token-behind a w u r b q =
    ap (λ (x : List ℕ). x ++ b) q ∙ append_assoc w (u ++ r) b ∙ ap (λ (x : List ℕ). w ++ x) (append_assoc u r b)

-- A comment that lacks the end of its line gets it.
remark-ended : (a w c d : List ℕ) → a ≡ w ++ (comment ∷ c) → Blank w → Line c → Line d → Blank (a ++ (d ++ newline))
remark-ended a w c d q h all more =
    subst Blank (sym (ap (λ (x : List ℕ). x ++ (d ++ newline)) q ∙ append_assoc w (comment ∷ c) (d ++ newline)))
    (blank-append h (subst (λ (x : List ℕ). Blank (comment ∷ x)) (append_assoc c d newline) (line-blank (c ++ d) (line-append c d all more))))

pub spells-append : {a b : List ℕ} {us ws : List Token} → Spells a us → Spells b ws → Spells (a ++ (10 ∷ b)) (us ++ ws)
spells-append (end a (ended h)) s = blank-before h (blank-before (space 10 [] refl none) s)
spells-append {b = b} {ws = ws} (end a (unended w c h all q)) s =
    subst (λ (x : List ℕ). Spells x ws) (append_assoc a newline b) (blank-before (remark-ended a w c [] q h all tt) s)
spells-append {b = b} {ws = ws} (next a w u r us q h token ends t) s =
    next (a ++ (10 ∷ b)) w u (r ++ (10 ∷ b)) (us ++ ws) (token-behind a w u r (10 ∷ b) q) h token (ends-behind u r 10 b refl ends)
    (spells-append t s)

pub remark-behind : (d : List ℕ) → Line d → {a : List ℕ} {us : List Token} → Spells a us → Spells (a ++ (comment ∷ (d ++ newline))) us
remark-behind d line (end a (ended h)) = end (a ++ (comment ∷ (d ++ newline))) (ended (blank-append h (line-blank d line)))
remark-behind d line (end a (unended w c h all q)) =
    end (a ++ (comment ∷ (d ++ newline))) (ended (remark-ended a w c (comment ∷ d) q h all (refl, line)))
remark-behind d line (next a w u r us q h token ends t) =
    let b : List ℕ = comment ∷ (d ++ newline) in
    next (a ++ b) w u (r ++ b) us (token-behind a w u r b q) h token (ends-behind u r comment (d ++ newline) refl ends) (remark-behind d line t)

-- ---- what has no end of a line

abbrev pub on_line : List ℕ → Bool
on_line [] = true
on_line (b ∷ c) = not (eqb b 10) && on_line c

pub line_by : (c : List ℕ) → on_line c ≡ true → Line c
line_by [] e = tt
line_by (b ∷ c) e = let h = and_parts (not (eqb b 10)) (on_line c) e in (not-true (eqb b 10) h.0, line_by c h.1)

pub line-names : (u : Token) → All (λ b. is_name_byte b ≡ true) u → Line u
line-names = all_implies (λ b. is_name_byte b ≡ true) (λ b. eqb b 10 ≡ false) (λ b e. apart is_name_byte b 10 e refl)

pub line-label : (u : Token) → IsLabel u → Line u
line-label u (inl e) = subst Line (sym e) tt
line-label u (inr h) = line-names u h.characters

line-variable : (u : Token) → IsVariable u → Line u
line-variable [] h = tt
line-variable (b ∷ u) h =
    (apart (λ c. eqb c asking) b 10 (and_parts (eqb b asking) _ h.variable).0 refl, line-names u h.characters)

line-decimal : (n : ℕ) → Line (decimal n)
line-decimal n =
    all_implies (λ c. (48 ≤ c) × (c ≤ 57)) (λ b. eqb b 10 ≡ false) (λ c h. ne_eqb c 10 (omega (arith, h.0))) (decimal n)
    (decimal_is_exact n).1

pub line-counted : (t u : List ℕ) → on_line t ≡ true → Line u → (n : ℕ) → Line (t ++ (decimal n ++ u))
line-counted t u e h n = line-append t (decimal n ++ u) (line_by t e) (line-append (decimal n) u (line-decimal n) h)

pub line_at : (l : List Token) → All Line l → (i : ℕ) → Line (name_at l i)
line_at [] h i = tt
line_at (u ∷ l) h zero = h.0
line_at (u ∷ l) h (suc i) = line_at l h.1 i

line-gap : (t : Bool) → Line (cond t (ascii " ") [])
line-gap true = (refl, tt)
line-gap false = tt

pub line-spell : (us : List Token) → All Line us → Line (spell us)
line-spell [] h = tt
line-spell (u ∷ us) h =
    let t = same u (mark comma) || same u (mark colon) in
    line-append (u ++ cond t (ascii " ") []) (spell us) (line-append u (cond t (ascii " ") []) h.0 (line-gap t)) (line-spell us h.1)

-- ---- tokens

module _ (N vs : List Token) (names : All Line N) (variables : All Line vs) where
  bracketed-line : (ts : Terms) (us : List Token) → All Line us → All Line (bracketed ts us)
  bracketed-line nil us h = tt
  bracketed-line (cons t ts) us h = h

  mutual
    pub term-line : (t : Term) → All Line (term_tokens N vs t)
    term-line any = ((refl, tt), tt)
    term-line (var n) = (line_at vs variables n, tt)
    term-line (app f ts) = (line_at N names f, bracketed-line ts _ (places-line opening ts refl))

    places-line : (c : ℕ) (ts : Terms) → eqb c 10 ≡ false → All Line (places_tokens N vs c ts)
    places-line c nil e = ((refl, tt), tt)
    places-line c (cons t ts) e =
        ((e, tt), all_append Line (term_tokens N vs t) (places_tokens N vs comma ts) (term-line t) (places-line comma ts refl))

identifiers_line : (l : List Token) → All IsIdentifier l → All Line l
identifiers_line = all_implies IsIdentifier Line (λ u h. line-names u h.characters)

pub variables-line : (vs : List Token) → All IsVariable vs → All Line vs
variables-line = all_implies IsVariable Line line-variable

pub kinds-line : (X : Lexicon) → GoodLexicon X → All Line (kind_names X)
kinds-line X good = identifiers_line (kind_names X) (lexicon-named X good).kinds

pub words-line : (X : Lexicon) → GoodLexicon X → All Line (word_names X)
words-line X good = identifiers_line (word_names X) (lexicon-named X good).words

pub phrase-line : (X : Lexicon) (vs : List Token) (s : ℕ) (t : Term) → GoodLexicon X → All IsVariable vs → All Line (phrase_tokens X vs s t)
phrase-line X vs s t good variables = go t
  where
    kind : Line (name_at (kind_names X) s)
    kind = line_at (kind_names X) (kinds-line X good) s

    go : (t : Term) → All Line (phrase_tokens X vs s t)
    go any = ((refl, tt), ((refl, tt), (kind, tt)))
    go (var n) = (line_at vs (variables-line vs variables) n, ((refl, tt), (kind, tt)))
    go (app f ts) = term-line (word_names X) vs (words-line X good) (variables-line vs variables) (app f ts)

pub label-line : (u : Token) → IsLabel u → All Line (label_tokens u)
label-line [] h = tt
label-line (b ∷ u) h = (line-label (b ∷ u) h, ((refl, tt), tt))
