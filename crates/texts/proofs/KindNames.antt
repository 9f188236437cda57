-- KindNames: the names that stand behind each `kind` of a vocabulary are the names of its kinds.
--
--   NameFits, name-fits, fits-name   what it means that a name may stand behind others, and that name_why tests it
--   Tokened u                        u is a token, or empty
--   identifier                       a token that passes the tests of an identifier is one
--   first us, first-token            the first token
--   first_tokened, text_tokened      the tokens of a text are tokens
--   Quiet us, mark-no_kind           no `kind` is among us; a mark is none
--   names-kinds                      for the tokens of declarations, those are the names of the kinds
--   names_quiet                      a list without `kind` has none
--
use mathlib.Core.Path.{◌≡◌, refl, sym, ◌∙◌, ap}
use mathlib.Core.Bool.{Bool, true, false, ◌||◌, cond, and-false, true≢false, false≢true}
use mathlib.Core.List.{List, [], ◌∷◌, ◌++◌, append-nil, append_assoc}
use mathlib.Core.Logic.{◌⊎◌, inl, inr}
use Prim.Native.Nat.{ℕ, suc, ◌<◌, ◌≤◌}
use native.Mathlib.Omega.{arith}
use lib.Dec.{eqb, ltb, leb}
use lib.ListN.{length}
use borrow.Author.Tests.{ltb-true, ltb-false, leb-true, lt-ltb, le-ltb, le-leb}
use Rattle.terms.specs.Lists.{All}
use Rattle.terms.proofs.All.{all-at, all_append, all_left, all_right}
use Rattle.terms.proofs.Bools.{and_parts}
use Rattle.wire.proofs.Cond.{cond_true, cond_false}
use Rattle.texts.specs.Lexemes.{Token, Lexeme, is_name_byte, is_run, asking}
use Rattle.texts.specs.Names.{same, kind_word, mark, comma, bar, equals, opening, closing, most_name, begins_name, is_identifier, IsIdentifier, index_in, name_at}
use Rattle.texts.specs.Spelling.{IsToken, run, single}
use Rattle.texts.specs.Lexicon.{WordText, KindText, Lexicon, kind_names, all_words, place_kind_tokens, with_places, words_tokens, kinds_tokens, GoodWord}
use Rattle.texts.specs.Faults.{token, long_name}
use Rattle.texts.specs.LexiconReading.{name_why}
use Rattle.texts.specs.Laws.{tokens_of, names_behind}
use Rattle.texts.proofs.Lookups.{identifier-no_kind, index-le}

pub record NameFits (most : ℕ) (seen : List Token) (u : Token) : Type 0 where
  pub identifier : is_identifier u ≡ true
  pub short : length u ≤ most_name
  pub new : index_in u seen ≡ length seen
  pub room : length seen < most

pub fits-name : (d t m most : ℕ) (seen : List Token) (u : Token) → NameFits most seen u → name_why d t m most seen u ≡ 0
fits-name d t m most seen u f =
    cond_true (is_identifier u) _ d f.identifier ∙
    cond_true (leb (length u) most_name) _ long_name (le-leb _ _ f.short) ∙
    cond_false (ltb (index_in u seen) (length seen)) t _ (le-ltb (index_in u seen) (length seen) (omega (arith, f.new))) ∙
    cond_true (ltb (length seen) most) 0 m (lt-ltb _ _ f.room)

pub name-fits : (d t m most : ℕ) (seen : List Token) (u : Token) → name_why (suc d) (suc t) (suc m) most seen u ≡ 0 → NameFits most seen u
name-fits d t m most seen u e =
    go (is_identifier u) (leb (length u) most_name) (ltb (index_in u seen) (length seen)) (ltb (length seen) most) refl refl refl refl e
  where
    go : (a b c f : Bool) → is_identifier u ≡ a → leb (length u) most_name ≡ b → ltb (index_in u seen) (length seen) ≡ c →
        ltb (length seen) most ≡ f → cond a (cond b (cond c (suc t) (cond f 0 (suc m))) long_name) (suc d) ≡ 0 → NameFits most seen u
    go false b c f p q r s e = absurd (omega arith)
    go true false c f p q r s e = absurd (omega arith)
    go true true true f p q r s e = absurd (omega arith)
    go true true false false p q r s e = absurd (omega arith)
    go true true false true p q r s e = record {
      identifier = p;
      short = leb-true _ _ q;
      new = omega (arith, ltb-false (index_in u seen) (length seen) r, index-le u seen);
      room = ltb-true _ _ s;
    }

name-run : (b : ℕ) → is_name_byte b ≡ true → is_run b ≡ true
name-run b e = ap (λ (c : Bool). c || eqb b asking) e

-- A text has an empty token at its end alone.
abbrev pub Tokened : Token → Type 0
Tokened u = (u ≡ []) ⊎ IsToken u

-- The first character of a run is one of names; a token that is no run has none.
pub identifier : (u : Token) → Tokened u → is_identifier u ≡ true → length u ≤ most_name → IsIdentifier u
identifier u t e s = record { characters = go u t e; identifier = e; short = s }
  where
    within : (u : Token) → IsToken u → begins_name u ≡ true → All (λ b. is_name_byte b ≡ true) u
    within u (run b v r a) e = (e, a)
    within u (single b n x y) e = absurd (true≢false (sym (name-run b e) ∙ n))

    go : (u : Token) → Tokened u → is_identifier u ≡ true → All (λ b. is_name_byte b ≡ true) u
    go u (inl z) e = absurd (false≢true (sym (ap is_identifier z) ∙ e))
    go u (inr t) e = within u t (and_parts (begins_name u) _ e).0

abbrev pub first : List Token → Token
first us = name_at us 0

pub first-token : (l : List Lexeme) → token l ≡ first (tokens_of l)
first-token [] = refl
first-token (x ∷ l) = refl

pub first_tokened : (l : List Lexeme) → All Tokened (tokens_of l) → Tokened (token l)
first_tokened [] a = inl refl
first_tokened (x ∷ l) a = a.0

pub text_tokened : (l : List Lexeme) (e : Lexeme) → All (λ (y : Lexeme). IsToken y.token) l → e.token ≡ [] →
    All Tokened (tokens_of (l ++ (e ∷ [])))
text_tokened [] e a t = (inl t, tt)
text_tokened (x ∷ l) e a t = (inr a.0, text_tokened l e a.1 t)

abbrev pub Quiet : List Token → Type 0
Quiet us = All (λ u. same u kind_word ≡ false) us

quiet_skips : (us vs : List Token) → Quiet us → names_behind (us ++ vs) ≡ names_behind vs
quiet_skips [] vs q = refl
quiet_skips (u ∷ us) vs q = cond_false (same u kind_word) _ _ q.0 ∙ quiet_skips us vs q.1

pub names_quiet : (us : List Token) → Quiet us → names_behind us ≡ []
names_quiet us q = ap names_behind (sym (append-nil us)) ∙ quiet_skips us [] q

pub mark-no_kind : (c : ℕ) → same (mark c) kind_word ≡ false
mark-no_kind c = and-false (eqb c 107)

module _ (K : List Token) (good : All (λ u. is_identifier u ≡ true) K) where
  quiet_places : (c : ℕ) (ps : List ℕ) → All (λ k. k < length K) ps → Quiet (place_kind_tokens K c ps)
  quiet_places c [] a = (mark-no_kind closing, tt)
  quiet_places c (p ∷ ps) a = (
    mark-no_kind c,
    (identifier-no_kind (name_at K p) (all-at (λ u. is_identifier u ≡ true) [] K good p a.0), quiet_places comma ps a.1),
  )

  quiet_with_places : (ps : List ℕ) → All (λ k. k < length K) ps → Quiet (with_places ps (place_kind_tokens K opening ps))
  quiet_with_places [] a = tt
  quiet_with_places (p ∷ ps) a = quiet_places opening (p ∷ ps) a

  quiet_words : (c : ℕ) (ws : List WordText) → All (GoodWord (length K)) ws → Quiet (words_tokens K c ws)
  quiet_words c [] a = tt
  quiet_words c (w ∷ ws) a = (
    mark-no_kind c,
    (
      identifier-no_kind w.name a.0.name.identifier,
      all_append (λ u. same u kind_word ≡ false) (with_places w.places (place_kind_tokens K opening w.places)) (words_tokens K bar ws)
          (quiet_with_places w.places a.0.places) (quiet_words bar ws a.1),
    ),
  )

  pub names-kinds : (X : Lexicon) (us : List Token) → All (λ (x : KindText). is_identifier x.name ≡ true) X →
      All (GoodWord (length K)) (all_words X) → names_behind (kinds_tokens K X ++ us) ≡ kind_names X ++ names_behind us
  names-kinds [] us k w = refl
  names-kinds (x ∷ X) us k w =
      ap (λ (r : List Token). x.name ∷ r)
      (cond_false (same x.name kind_word) _ _ (identifier-no_kind x.name k.0) ∙
      ap names_behind (append_assoc (words_tokens K equals x.words) (kinds_tokens K X) us) ∙
      quiet_skips (words_tokens K equals x.words) (kinds_tokens K X ++ us)
      (quiet_words equals x.words (all_left (GoodWord (length K)) x.words (all_words X) w)) ∙
      names-kinds X us k.1 (all_right (GoodWord (length K)) x.words (all_words X) w))
