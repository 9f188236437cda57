-- Telling: how names, variables and open places are told apart, and what a good vocabulary says of its names.
--
--   begins-name                           a name begins with a character of names
--   not_opened, not_variable              a name is neither an open place nor a variable
--   variable_not_opened, variable_not_name    a variable is neither an open place nor a name
--   variable-no_kind                      a variable is not the word kind
--   Named K N W                           K are the names of W's kinds, N those of its words
--   lexicon-named                         those of a good vocabulary
--   GoodVariables vs                      vs are variables, none stands twice, and there are not too many
--
use mathlib.Core.Path.{◌≡◌, refl, sym, ap, subst, ◌∙◌}
use mathlib.Core.Bool.{true, false, not, ◌&&◌, true≢false, false≢true}
use mathlib.Core.List.{List, [], ◌∷◌, map}
use Prim.Native.Nat.{ℕ, suc, ◌+◌, ◌<◌, ◌≤◌}
use native.Mathlib.Omega.{arith}
use lib.Dec.{eqb}
use lib.ListN.{length, length-append, length-map}
use borrow.Author.Tests.{eqb-true, not-true}
use Rattle.terms.specs.Lists.{All}
use Rattle.terms.proofs.All.{all_append, all_implies, all_map, all_always}
use Rattle.terms.proofs.Bools.{and_parts, false_of_not}
use Rattle.wire.specs.Vocabulary.{Word, Vocabulary}
use Rattle.wire.specs.TermBytes.{name_count}
use Rattle.texts.specs.Lexemes.{Token, is_name_byte, asking}
use Rattle.texts.specs.Names.{same, opened, kind_word, begins_name, is_identifier, is_variable, IsIdentifier, IsVariable, Distinct}
use Rattle.texts.specs.Lexicon.{WordText, KindText, Lexicon, kind_names, all_words, word_names, as_word, records_from, vocabulary_of, GoodWord, GoodLexicon}
use Rattle.texts.proofs.Finding.{same-exact}

pub not_opened : (u : Token) → is_identifier u ≡ true → same u opened ≡ false
not_opened u e =
    not-true (same u opened)
    (and_parts (not (same u opened)) (not (same u kind_word)) (and_parts (begins_name u) (not (same u opened) && not (same u kind_word)) e).1).0

pub begins-name : (u : Token) → is_identifier u ≡ true → begins_name u ≡ true
begins-name u e = (and_parts (begins_name u) (not (same u opened) && not (same u kind_word)) e).0

pub not_variable : (u : Token) → is_identifier u ≡ true → is_variable u ≡ false
not_variable [] e = refl
not_variable (b ∷ u) e = false_of_not (eqb b asking && begins_name u) asks
  where
    asks : (eqb b asking && begins_name u) ≡ true → ⊥
    asks h =
        let at : b ≡ asking = eqb-true b asking (and_parts (eqb b asking) (begins_name u) h).0 in
        false≢true (subst (λ (c : ℕ). is_name_byte c ≡ true) at (begins-name (b ∷ u) e))

pub variable_not_opened : (u : Token) → is_variable u ≡ true → same u opened ≡ false
variable_not_opened u e =
    false_of_not (same u opened) (λ h. false≢true (subst (λ (z : Token). is_variable z ≡ true) (same-exact u opened h) e))

pub variable_not_name : (u : Token) → is_variable u ≡ true → is_identifier u ≡ false
variable_not_name u e = false_of_not (is_identifier u) (λ h. true≢false (sym e ∙ not_variable u h))

pub variable-no_kind : (u : Token) → is_variable u ≡ true → same u kind_word ≡ false
variable-no_kind u e =
    false_of_not (same u kind_word) (λ q. true≢false (sym e ∙ ap is_variable (same-exact u kind_word q)))

-- ---- vocabularies

pub record Named (K N : List Token) (W : Vocabulary) : Type 0 where
  pub kind_count : length K ≡ W.kinds
  pub kinds : All IsIdentifier K
  pub different_kinds : Distinct K
  pub count : length N ≡ length W.words
  pub words : All IsIdentifier N
  pub different : Distinct N
  pub results : All (λ (w : Word). w.result < W.kinds) W.words

length-records : (k : ℕ) (X : Lexicon) → length (records_from k X) ≡ length (all_words X)
length-records k [] = refl
length-records k (x ∷ X) =
    let h = length-records (suc k) X in
    let a = length-append (map (as_word k) x.words) (records_from (suc k) X) in
    let b = length-append x.words (all_words X) in
    let c = length-map x.words (as_word k) in omega arith

results-below : (k : ℕ) (X : Lexicon) → All (λ (w : Word). w.result < k + length X) (records_from k X)
results-below k [] = tt
results-below k (x ∷ X) =
    all_append (λ (w : Word). w.result < k + suc (length X)) (map (as_word k) x.words) (records_from (suc k) X)
    (all_map (λ (w : Word). w.result < k + suc (length X)) (as_word k) x.words
    (all_always (λ (w : WordText). k < k + suc (length X)) (λ w. omega arith) x.words))
    (all_implies (λ (w : Word). w.result < suc k + length X) (λ (w : Word). w.result < k + suc (length X)) (λ w h. omega arith)
    (records_from (suc k) X) (results-below (suc k) X))

pub lexicon-named : (X : Lexicon) → GoodLexicon X → Named (kind_names X) (word_names X) (vocabulary_of X)
lexicon-named X good = record {
  kind_count = length-map X (λ (x : KindText). x.name);
  kinds = all_map IsIdentifier (λ (x : KindText). x.name) X good.kinds;
  different_kinds = good.different_kinds;
  count = length-map (all_words X) (λ (w : WordText). w.name) ∙ sym (length-records 0 X);
  words =
      all_map IsIdentifier (λ (w : WordText). w.name) (all_words X)
      (all_implies (GoodWord (length X)) (λ (w : WordText). IsIdentifier w.name) (λ w g. g.name) (all_words X) good.words);
  different = good.different_words;
  results =
      all_implies (λ (w : Word). w.result < 0 + length X) (λ (w : Word). w.result < length X) (λ w h. omega arith) (records_from 0 X)
      (results-below 0 X);
}

-- ---- variables

pub record GoodVariables (vs : List Token) : Type 0 where
  pub variables : All IsVariable vs
  pub different : Distinct vs
  pub few : length vs ≤ name_count
