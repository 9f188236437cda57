-- Spelt: a pattern or entry in words spells its tokens.
--
--   token-name, token-variable     names and variables are tokens
--   Spelt us           the tokens us as they are written spell us
--   blank-append, blank-before     blanks before blanks, and before what is spelt
--   ends-name          a token ends before what begins with no name
--   put-name, put-mark     a name, a mark before what is spelt
--   place_spelt, places_spelt     a term before what begins with no name, and the terms of a word's places
--   terms_are_spelled, phrases_are_spelled     the laws
--
use mathlib.Core.Path.{◌≡◌, refl, sym, ap, subst, ◌∙◌}
use mathlib.Core.Bool.{Bool, true, false, ◌||◌, cond, false≢true}
use mathlib.Core.List.{List, [], ◌∷◌, ◌++◌, append-nil, append_assoc}
use Prim.Native.Nat.{ℕ, ◌<◌}
use lib.Dec.{eqb}
use lib.ListN.{length}
use Rattle.terms.specs.Lists.{All}
use Rattle.terms.specs.Signature.{arguments}
use Rattle.terms.specs.Term.{Term, any, var, app, Terms, nil, cons, Sorted, SortedAll, names, names_all}
use Rattle.terms.proofs.All.{all-at, all_left, all_right, all_implies}
use Rattle.terms.proofs.Bools.{and_parts, or_left, or_right}
use Rattle.wire.specs.Vocabulary.{signature}
use Rattle.wire.specs.TermBytes.{name_count}
use Rattle.wire.specs.Text.{ascii}
use Rattle.texts.specs.Lexemes.{Token, is_blank, is_name_byte, comment, asking, is_run, run_size}
use Rattle.texts.specs.Names.{same, opened, mark, opening, closing, comma, colon, name_at, IsIdentifier, IsVariable}
use Rattle.texts.specs.Spelling.{Blank, none, space, remark, whole, unended, IsToken, run, single, Ends, Spells, end, next}
use Rattle.texts.specs.Lexicon.{Lexicon, kind_names, word_names, all_words, vocabulary_of, GoodLexicon}
use Rattle.texts.specs.Phrases.{term_tokens, places_tokens, phrase_tokens, spell}
use Rattle.texts.specs.Laws.{TermsAreSpelled, PhrasesAreSpelled}
use Rattle.texts.proofs.Lexicon.{count-records, word-name, kind-name}
use Rattle.texts.proofs.Plain.{Plain, plain-name, plain-variable}
use Rattle.texts.proofs.Saying.{phrase_sayable}
use Rattle.texts.proofs.Spelling.{ends-run, ends-single}

-- ---- tokens

pub token-name : (u : Token) → IsIdentifier u → IsToken u
token-name [] h = absurd (false≢true h.identifier)
token-name (b ∷ u) h = run b u (or_left (is_name_byte b) (eqb b asking) h.characters.0) h.characters.1

pub token-variable : (u : Token) → IsVariable u → IsToken u
token-variable [] h = absurd (false≢true h.variable)
token-variable (b ∷ u) h = run b u (or_right (is_name_byte b) (eqb b asking) (and_parts (eqb b asking) _ h.variable).0) h.characters

-- ---- one token more

abbrev Spelt : List Token → Type 0
Spelt us = Spells (spell us) us

-- Blanks before the first token.
pub blank-append : {w v : List ℕ} → Blank w → Blank v → Blank (w ++ v)
blank-append none k = k
blank-append {v = v} (space b w e h) k = space b (w ++ v) e (blank-append h k)
blank-append {v = v} (remark c w x all q h) k =
    remark c (w ++ v) (x ++ v) all (ap (λ (y : List ℕ). y ++ v) q ∙ append_assoc c (10 ∷ w) v) (blank-append h k)

pub blank-before : {v b : List ℕ} {us : List Token} → Blank v → Spells b us → Spells (v ++ b) us
blank-before {v} k (end b (whole h)) = end (v ++ b) (whole (blank-append k h))
blank-before {v} k (end b (unended w c h all q)) =
    end (v ++ b) (unended (v ++ w) c (blank-append k h) all (ap (λ (x : List ℕ). v ++ x) q ∙ sym (append_assoc v w (comment ∷ c))))
blank-before {v} k (next b w u r us q h token ends s) =
    next (v ++ b) (v ++ w) u r us (ap (λ (x : List ℕ). v ++ x) q ∙ sym (append_assoc v w (u ++ r))) (blank-append k h) token ends s

pub ends-name : {u : Token} (r : List ℕ) → IsToken u → run_size r ≡ 0 → Ends u r
ends-name r (run b u e all) h = ends-run b u r h
ends-name r (single b e h k) g = ends-single b [] r e

put-name : (u : Token) (us : List Token) → IsToken u → Plain u → run_size (spell us) ≡ 0 → Spelt us → Spelt (u ∷ us)
put-name u us token plain stops s = next (spell (u ∷ us)) [] u (spell us) us (ap (λ (x : List ℕ). x ++ spell us) plain) none token (ends-name (spell us) token stops) s

-- The space behind a mark is a blank before what follows.
spelt_gap : (t : Bool) (us : List Token) → Spelt us → Spells (cond t (ascii " ") [] ++ spell us) us
spelt_gap true us s = blank-before (space 32 [] refl none) s
spelt_gap false us s = s

-- A mark is no name, no blank and no comment.
record IsMark (c : ℕ) : Type 0 where
  no_run : is_run c ≡ false
  no_blank : is_blank c ≡ false
  no_comment : eqb c comment ≡ false

put-mark : (c : ℕ) (us : List Token) → IsMark c → Spelt us → Spelt (mark c ∷ us)
put-mark c us m s =
    let t = same (mark c) (mark comma) || same (mark c) (mark colon) in
    let r = cond t (ascii " ") [] ++ spell us in
    next (spell (mark c ∷ us)) [] (mark c) r us refl none (single c m.no_run m.no_blank m.no_comment) (ends-single c [] r m.no_run)
    (spelt_gap t us s)

a-mark : (c : ℕ) → is_run c ≡ false → is_blank c ≡ false → eqb c comment ≡ false → IsMark c
a-mark c e h k = record { no_run = e; no_blank = h; no_comment = k }

token-opened : IsToken opened
token-opened = run 95 [] refl tt

-- ---- terms

module _ (X : Lexicon) (vs : List Token) (good : GoodLexicon X) (variables : All IsVariable vs) where
  put_word : (f : ℕ) (us : List Token) → f < length (all_words X) → run_size (spell us) ≡ 0 → Spelt us → Spelt (name_at (word_names X) f ∷ us)
  put_word f us h stops s =
      let name = word-name X good f h in
      put-name (name_at (word_names X) f) us (token-name _ name) (plain-name _ name) stops s

  put-variable : (n : ℕ) (us : List Token) → n < length vs → run_size (spell us) ≡ 0 → Spelt us → Spelt (name_at vs n ∷ us)
  put-variable n us h stops s =
      let variable = all-at IsVariable [] vs variables n h in
      put-name (name_at vs n) us (token-variable _ variable) (plain-variable _ variable) stops s

  -- The terms of places begin with a mark.
  places-stop : (ts : Terms) (us : List Token) → run_size (spell (places_tokens (word_names X) vs comma ts ++ us)) ≡ 0
  places-stop nil us = refl
  places-stop (cons t ts) us = refl

  -- A word without places has no parentheses.
  word_spelt : (f : ℕ) (ts : Terms) (us : List Token) → f < length (all_words X) → run_size (spell us) ≡ 0 → Spelt us →
      Spelt (places_tokens (word_names X) vs opening ts ++ us) → Spelt (term_tokens (word_names X) vs (app f ts) ++ us)
  word_spelt f nil us known stops h places = put_word f us known stops h
  word_spelt f (cons t ts) us known stops h places = put_word f (places_tokens (word_names X) vs opening (cons t ts) ++ us) known refl places

  mutual
    place_spelt : (t : Term) (s : ℕ) (us : List Token) → Sorted (signature (vocabulary_of X)) t s → All (λ n. n < length vs) (names t) →
        run_size (spell us) ≡ 0 → Spelt us → Spelt (term_tokens (word_names X) vs t ++ us)
    place_spelt any s us sorted named stops h = put-name opened us token-opened refl stops h
    place_spelt (var n) s us sorted named stops h = put-variable n us named.0 stops h
    place_spelt (app f ts) s us sorted named stops h =
        word_spelt f ts us (rw (← count-records X) sorted.0) stops h
        (places_spelt opening ts (arguments (signature (vocabulary_of X)) f) us (a-mark opening refl refl refl) sorted.2 named h)

    places_spelt : (c : ℕ) (ts : Terms) (ks : List ℕ) (us : List Token) → IsMark c → SortedAll (signature (vocabulary_of X)) ts ks →
        All (λ n. n < length vs) (names_all ts) → Spelt us → Spelt (places_tokens (word_names X) vs c ts ++ us)
    places_spelt c nil ks us m sorted named h = put-mark closing us (a-mark closing refl refl refl) h
    places_spelt c (cons t ts) [] us m sorted named h = absurd sorted
    places_spelt c (cons t ts) (k ∷ ks) us m sorted named h =
        let behind = places_spelt comma ts ks us (a-mark comma refl refl refl) sorted.1 (all_right (λ n. n < length vs) (names t) (names_all ts) named) h in
        let here = place_spelt t k (places_tokens (word_names X) vs comma ts ++ us) sorted.0 (all_left (λ n. n < length vs) (names t) (names_all ts) named) (places-stop ts us) behind in
        put-mark c _ m (subst Spelt (sym (append_assoc (term_tokens (word_names X) vs t) (places_tokens (word_names X) vs comma ts) us)) here)

  nothing_spelt : Spelt []
  nothing_spelt = end [] (whole none)

  kind_spelt : (s : ℕ) → s < length X → Spelt (mark colon ∷ name_at (kind_names X) s ∷ [])
  kind_spelt s h =
      let name = kind-name X good s h in
      put-mark colon (name_at (kind_names X) s ∷ []) (a-mark colon refl refl refl)
      (put-name (name_at (kind_names X) s) [] (token-name _ name) (plain-name _ name) refl nothing_spelt)

  root_spelt : (t : Term) (s : ℕ) → s < length X → Sorted (signature (vocabulary_of X)) t s → All (λ n. n < length vs) (names t) →
      Spelt (phrase_tokens X vs s t)
  root_spelt any s k sorted named = put-name opened _ token-opened refl refl (kind_spelt s k)
  root_spelt (var n) s k sorted named = put-variable n _ named.0 refl (kind_spelt s k)
  root_spelt (app f ts) s k sorted named =
      subst Spelt (append-nil (term_tokens (word_names X) vs (app f ts))) (place_spelt (app f ts) s [] sorted named refl nothing_spelt)

pub terms_are_spelled : TermsAreSpelled
terms_are_spelled X vs s t good q =
    root_spelt X vs good q.variables t s q.kind q.sorted
    (all_implies (λ n. (n < length vs) × (n < name_count)) (λ n. n < length vs) (λ n h. h.0) (names t) q.named)

pub phrases_are_spelled : PhrasesAreSpelled
phrases_are_spelled X vs s t good p = terms_are_spelled X vs s t good (phrase_sayable X vs s t p)
