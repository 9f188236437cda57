-- Lexicon: the words of a lexicon as the records of its vocabulary, and their names.
--
--   word_at X f               the word f
--   word-kinds, word-map     its places, and its map
--   count-records, count-names     there are as many records, and as many names, as words
--   places_count             the number of places of word f
--   word-name, kind-name     words and kinds have names
--   few-places               a word has at most eight places
--
use mathlib.Core.Path.{◌≡◌, refl, sym, ap, ap₂, ◌∙◌}
use mathlib.Core.List.{List, [], ◌∷◌, ◌++◌, map}
use Prim.Native.Nat.{ℕ, suc, ◌<◌, ◌≤◌}
use lib.ListN.{length, get_or, length-map, get_or-map}
use Rattle.terms.specs.Signature.{arguments}
use Rattle.terms.proofs.All.{all-at, all_map, all_implies}
use Rattle.wire.specs.Vocabulary.{Word, no_word, signature, word, map_of}
use Rattle.wire.proofs.Words.{length_symbols, arguments-word}
use Rattle.texts.specs.Names.{name_at, IsIdentifier}
use Rattle.texts.specs.Lexicon.{WordText, KindText, Lexicon, kind_names, all_words, word_names, gapless_map, as_word, records_from, vocabulary_of, most_places, GoodWord, GoodLexicon}
use Rattle.texts.specs.Saying.{place_counts}

abbrev no_text : WordText
no_text = record { name = []; places = [] }

abbrev pub word_at : Lexicon → ℕ → WordText
word_at X f = get_or (all_words X) f no_text

map-append : {A B : Type 0} (g : A → B) (l m : List A) → map g (l ++ m) ≡ map g l ++ map g m
map-append g [] m = refl
map-append {B = B} g (x ∷ l) m = ap {B = List B} (λ r. g x ∷ r) (map-append g l m)

-- What is told of a record without its kind is told of the word.
module _ {A : Type 0} (g : Word → A) (h : WordText → A) (same : (k : ℕ) (w : WordText) → g (as_word k w) ≡ h w) where
  map-words : (k : ℕ) (ws : List WordText) → map g (map (as_word k) ws) ≡ map h ws
  map-words k [] = refl
  map-words k (w ∷ ws) = ap₂ {C = List A} ◌∷◌ (same k w) (map-words k ws)

  map-records : (k : ℕ) (X : Lexicon) → map g (records_from k X) ≡ map h (all_words X)
  map-records k [] = refl
  map-records k (x ∷ X) =
      map-append g (map (as_word k) x.words) (records_from (suc k) X)
      ∙ (ap₂ ◌++◌ (map-words k x.words) (map-records (suc k) X) ∙ sym (map-append h x.words (all_words X)))

  told : (X : Lexicon) (f : ℕ) → g no_word ≡ h no_text → g (word (vocabulary_of X) f) ≡ h (word_at X f)
  told X f e =
      sym (get_or-map g (records_from 0 X) f no_word)
      ∙ (ap₂ (λ l d. get_or l f d) (map-records 0 X) e ∙ get_or-map h (all_words X) f no_text)

pub word-kinds : (X : Lexicon) (f : ℕ) → arguments (signature (vocabulary_of X)) f ≡ (word_at X f).places
word-kinds X f = arguments-word (vocabulary_of X) f ∙ told (λ w. w.kinds) (λ w. w.places) (λ k w. refl) X f refl

pub word-map : (X : Lexicon) (f : ℕ) → map_of (vocabulary_of X) f ≡ gapless_map (length (word_at X f).places)
word-map X f = told (λ w. w.place_map) (λ w. gapless_map (length w.places)) (λ k w. refl) X f refl

pub count-records : (X : Lexicon) → length (signature (vocabulary_of X)).symbols ≡ length (all_words X)
count-records X =
    length_symbols (vocabulary_of X)
    ∙ (sym (length-map (records_from 0 X) (λ w. w.kinds))
    ∙ (ap length (map-records (λ w. w.kinds) (λ w. w.places) (λ k w. refl) 0 X) ∙ length-map (all_words X) (λ w. w.places)))

pub count-names : (X : Lexicon) → length (word_names X) ≡ length (all_words X)
count-names X = length-map (all_words X) (λ w. w.name)

pub places_count : (X : Lexicon) (f : ℕ) → get_or (place_counts X) f 0 ≡ length (word_at X f).places
places_count X f = get_or-map (λ w. length w.places) (all_words X) f no_text

module _ (X : Lexicon) (good : GoodLexicon X) where
  pub word-name : (f : ℕ) → f < length (all_words X) → IsIdentifier (name_at (word_names X) f)
  word-name f h =
      all-at IsIdentifier [] (word_names X)
      (all_map IsIdentifier (λ w. w.name) (all_words X)
      (all_implies (GoodWord (length X)) (λ w. IsIdentifier w.name) (λ w g. g.name) (all_words X) good.words)) f
      (rw (count-names X) h)

  pub kind-name : (k : ℕ) → k < length X → IsIdentifier (name_at (kind_names X) k)
  kind-name k h =
      all-at IsIdentifier [] (kind_names X) (all_map IsIdentifier (λ (x : KindText). x.name) X good.kinds) k
      (rw (length-map X (λ (x : KindText). x.name)) h)

  pub few-places : (f : ℕ) → f < length (all_words X) → length (word_at X f).places ≤ most_places
  few-places f h = (all-at (GoodWord (length X)) no_text (all_words X) good.words f h).few
