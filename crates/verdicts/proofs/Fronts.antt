-- Fronts: where a situation differs, the tokens before that are the front of its tokens; and the answer that is walked is the verdict.
--
--   FrontOf c vs            where c differs, the tokens before that are the front of vs
--   front-term, front-places     a pattern beside a situation, and terms at places beside ground terms
--   verdict-text            the answer by what is walked is the answer by what is compared
--
use mathlib.Core.Path.{◌≡◌, refl, sym, ap, ◌∙◌}
use mathlib.Core.List.{List, [], ◌∷◌, ◌++◌, map, append_assoc}
use Prim.Native.Nat.{ℕ}
use lib.Dec.{eqb}
use lib.ListN.{length, take}
use lib.Seq.{take_at}
use Rattle.terms.specs.Term.{Term, any, var, app, Terms, nil, cons, Ground, gapp, Grounds, gnil, gcons, as_terms}
use Rattle.terms.specs.Filling.{Binding}
use Rattle.wire.specs.Row.{write_row}
use Rattle.wire.specs.Text.{ascii}
use Rattle.wire.proofs.Cond.{choice}
use Rattle.texts.specs.Lexemes.{Token}
use Rattle.texts.specs.Names.{mark, opening, comma, name_at}
use Rattle.texts.specs.Lexicon.{Lexicon, word_names}
use Rattle.texts.specs.Phrases.{Phrase, bracketed, places_tokens}
use Rattle.texts.specs.Questions.{ground_tokens}
use Rattle.texts.specs.Verdicts.{Compared, covers, differs, behind_tokens, and_covers, first_of, compare, compare_all, cover_line as line_of, verdict_text}
use Rattle.texts.specs.Comparing.{Cover, as_walked}
use Rattle.verdicts.specs.Parts.{cover_line, no_text, walked_text}

abbrev pub FrontOf : Compared → List Token → Type 0
FrontOf (covers bs) vs = Unit {0}
FrontOf (differs us f) vs = (rest : List Token) × (vs ≡ us ++ rest)

front-behind : (ws : List Token) (c : Compared) (vs : List Token) → FrontOf c vs → FrontOf (behind_tokens ws c) (ws ++ vs)
front-behind ws (covers bs) vs h = tt
front-behind ws (differs us f) vs h = (h.0, ap (λ l. ws ++ l) h.1 ∙ sym (append_assoc ws us h.0))

front-covers : (bs : List Binding) (c : Compared) (vs : List Token) → FrontOf c vs → FrontOf (and_covers bs c) vs
front-covers bs (covers cs) vs h = tt
front-covers bs (differs us f) vs h = h

front-first : (vs ws : List Token) (c d : Compared) → FrontOf c vs → FrontOf d ws → FrontOf (first_of vs c d) (vs ++ ws)
front-first vs ws (covers bs) d h k = front-covers bs (behind_tokens vs d) (vs ++ ws) (front-behind vs d ws k)
front-first vs ws (differs us f) d h k = (h.0 ++ ws, ap (λ l. l ++ ws) h.1 ∙ append_assoc us h.0 ws)

module _ (N : List Token) where
  -- A word without places has no parentheses, and nothing in them is compared.
  front-bracketed : (ts : Terms) (gs : Grounds) → FrontOf (compare_all N opening ts gs) (places_tokens N [] opening (as_terms gs)) →
      FrontOf (compare_all N opening ts gs) (bracketed (as_terms gs) (places_tokens N [] opening (as_terms gs)))
  front-bracketed nil gs h = tt
  front-bracketed (cons t ts) gnil h = tt
  front-bracketed (cons t ts) (gcons g gs) h = h

  mutual
    pub front-term : (t : Term) (g : Ground) → FrontOf (compare N t g) (ground_tokens N g)
    front-term any g = tt
    front-term (var n) g = tt
    front-term (app f ts) (gapp h gs) =
        choice (λ c. FrontOf c (ground_tokens N (gapp h gs))) (eqb f h) (behind_tokens (name_at N h ∷ []) (compare_all N opening ts gs)) (differs [] f)
        (λ e.
        front-behind (name_at N h ∷ []) (compare_all N opening ts gs) (bracketed (as_terms gs) (places_tokens N [] opening (as_terms gs)))
        (front-bracketed ts gs (front-places opening ts gs)))
        (λ e. (ground_tokens N (gapp h gs), refl))

    front-places : (c : ℕ) (ts : Terms) (gs : Grounds) → FrontOf (compare_all N c ts gs) (places_tokens N [] c (as_terms gs))
    front-places c nil gs = tt
    front-places c (cons t ts) gnil = tt
    front-places c (cons t ts) (gcons g gs) =
        front-behind (mark c ∷ []) (first_of (ground_tokens N g) (compare N t g) (compare_all N comma ts gs)) (ground_tokens N g ++ places_tokens N [] comma (as_terms gs))
        (front-first (ground_tokens N g) (places_tokens N [] comma (as_terms gs)) (compare N t g) (compare_all N comma ts gs) (front-term t g) (front-places comma ts gs))

module _ (X : Lexicon) (p : Phrase) where
  abbrev cover : Binding → Cover
  cover b = record { variable = name_at p.variables b.name; tokens = ground_tokens (word_names X) b.value }

  cover_lines : (bs : List Binding) → write_row cover_line (map cover bs) ≡ write_row (line_of X p.variables) bs
  cover_lines [] = refl
  cover_lines (b ∷ bs) = ap (λ l. cover_line (cover b) ++ l) (cover_lines bs)

  pub verdict-text : (vs : List Token) (c : Compared) → FrontOf c vs →
      walked_text p.label vs (as_walked (word_names X) p.variables c) ≡ verdict_text X p c
  verdict-text vs (covers bs) h = ap (λ l. ascii "# yes\n" ++ l) (cover_lines bs)
  verdict-text vs (differs us f) h =
      ap (λ l. no_text p.label l (name_at (word_names X) f)) (ap (take (length us)) h.1 ∙ take_at us h.0 (length us) refl)
