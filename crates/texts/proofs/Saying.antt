-- Saying: the walk over the bytes of a term says it in words.
--
--   count, bits_of      how many terms there are, and which of them are written
--   some_power         a power of 2 is not 0
--   written_bits_lem       the written map of a word without gaps has the bits of its terms
--   say_place_lem, say_places_lem     the walk over a term, and over the terms of a word's places
--   says-terms, says_phrases     the laws
--   phrase_sayable     a good pattern can be said
--   tables-of          the tables of a lexicon are tables for it
--
use mathlib.Core.Path.{◌≡◌, refl, sym, ap, ap₂, ◌∙◌}
use mathlib.Core.Bool.{Bool, true, false, not, cond}
use mathlib.Core.List.{List, [], ◌∷◌, ◌++◌, append-nil, append_assoc}
use Prim.Native.Nat.{ℕ, zero, suc, ◌+◌, ◌-◌, ◌*◌, ◌/◌, ◌%◌, ◌^◌, ◌<◌, ◌≤◌}
use native.Mathlib.Nat.{pow-suc}
use native.Mathlib.Omega.{arith}
use lib.Dec.{eqb}
use lib.ListN.{length, get_or}
use borrow.Author.Tests.{eq-eqb, ne_eqb, lt-ltb, le-ltb}
use Rattle.terms.specs.Lists.{All, range}
use Rattle.terms.specs.Signature.{Signature}
use Rattle.terms.specs.Term.{Term, any, var, app, Terms, nil, cons, Sorted, SortedAll, names, names_all}
use Rattle.terms.proofs.All.{all-at, all_left, all_right, all_implies, all_both, all-range}
use Rattle.wire.specs.Map.{map_bits, map_got, flags_in, bit, number, is_open, written_flags}
use Rattle.wire.specs.Vocabulary.{signature}
use Rattle.wire.specs.TermBytes.{name_count, first_name_byte, whole_byte, most_levels, encode_at, encode_all, encode_term, written_map, levels, levels_all}
use Rattle.wire.specs.Text.{ascii}
use Rattle.wire.proofs.Cond.{cond_true, cond_false}
use Rattle.texts.specs.Lexemes.{Token}
use Rattle.texts.specs.Names.{opened, mark, opening, comma, colon, name_at, IsVariable}
use Rattle.texts.specs.Lexicon.{Lexicon, kind_names, word_names, all_words, gapless_map, vocabulary_of, GoodLexicon}
use Rattle.texts.specs.Phrases.{term_tokens, places_tokens, spelled, spell, phrase_text, GoodPhrase}
use Rattle.texts.specs.Saying.{Tables, tables_of, TablesFor, Said, comma_text, say_places, say_behind, say_word, say_term, say_phrase}
use Rattle.texts.specs.Laws.{Sayable, SaysTerms, SaysPhrases}
use Rattle.texts.proofs.Lexicon.{word_at, word-kinds, word-map, count-records, count-names, places_count, word-name, kind-name, few-places}
use Rattle.texts.proofs.Plain.{plain-name, plain-variable, spell-append}

-- ---- the written map

abbrev count : Terms → ℕ
count nil = 0
count (cons t ts) = suc (count ts)

abbrev bits_of : Terms → List Bool
bits_of nil = []
bits_of (cons t ts) = not (is_open t) ∷ bits_of ts

pub some_power : (n : ℕ) → 0 < 2 ^ n
some_power zero = omega arith
some_power (suc n) = omega (arith, some_power n, pow-suc 2 n)

written_bits_lem : (d : ℕ) (ts : Terms) → count ts ≤ d → number (written_flags (flags_in d (gapless_map (count ts))) ts) ≡ number (bits_of ts)
written_bits_lem zero nil h = refl
written_bits_lem zero (cons t ts) h = absurd (omega arith)
written_bits_lem (suc d) nil h = let ih = written_bits_lem d nil (omega arith) in omega arith
written_bits_lem (suc d) (cons t ts) h =
    let low : (2 ^ suc (count ts) - 1) % 2 ≡ 1 = omega (arith, some_power (count ts), pow-suc 2 (count ts)) in
    let high : (2 ^ suc (count ts) - 1) / 2 ≡ 2 ^ count ts - 1 = omega (arith, some_power (count ts), pow-suc 2 (count ts)) in
    rw (eq-eqb ((2 ^ suc (count ts) - 1) % 2) 1 low, high)
    (ap (λ n. bit (not (is_open t)) + 2 * n) (written_bits_lem d ts (omega arith)))

count-sorted : (S : Signature) (ts : Terms) (ks : List ℕ) → SortedAll S ts ks → count ts ≡ length ks
count-sorted S nil [] h = refl
count-sorted S nil (k ∷ ks) h = absurd h
count-sorted S (cons t ts) [] h = absurd h
count-sorted S (cons t ts) (k ∷ ks) h = ap suc (count-sorted S ts ks h.1)

low_bit : (b : Bool) (n : ℕ) → eqb ((bit b + 2 * n) % 2) 1 ≡ b
low_bit true n = eq-eqb ((1 + 2 * n) % 2) 1 (omega arith)
low_bit false n = ne_eqb ((0 + 2 * n) % 2) 1 (omega arith)

high_bits : (b : Bool) (n : ℕ) → (bit b + 2 * n) / 2 ≡ n
high_bits true n = omega arith
high_bits false n = omega arith

-- ---- the walk

abbrev said : List ℕ → List ℕ → Said
said x r = record { text = x; rest = r }

-- A place and those behind it.
one_place : (sayer : List ℕ → Said) (n : ℕ) (c : List ℕ) (b : Bool) (m : ℕ) (l l' r x y : List ℕ) →
    cond b (sayer l) (said opened l) ≡ said x l' → say_places sayer n comma_text m l' ≡ said y r →
    say_places sayer (suc n) c (bit b + 2 * m) l ≡ said (c ++ (x ++ y)) r
one_place sayer n c b m l l' r x y here behind =
    rw (low_bit b m, high_bits b m, here, behind)

module _ (X : Lexicon) (vs : List Token) (T : Tables) (good : GoodLexicon X) (variables : All IsVariable vs) (tables : TablesFor X vs T) where
  abbrev Named : List ℕ → Type 0
  Named ns = All (λ n. n < length vs) ns

  variable_said : (n : ℕ) → n < length vs → name_at T.variables n ≡ spell (name_at vs n ∷ [])
  variable_said n h =
      tables.variables n h
      ∙ (sym (plain-variable (name_at vs n) (all-at IsVariable [] vs variables n h)) ∙ sym (append-nil (spelled (name_at vs n))))

  word_said : (f : ℕ) → f < length (all_words X) → name_at T.words f ≡ spelled (name_at (word_names X) f)
  word_said f h = tables.words f (rw (count-names X) h) ∙ sym (plain-name (name_at (word_names X) f) (word-name X good f h))

  -- A word, where the walk over its places is right.
  word-walk : (sayer : List ℕ → Said) (f m : ℕ) (ts : Terms) (r : List ℕ) → f < length (all_words X) →
      get_or T.places f 0 ≡ count ts → m ≡ number (bits_of ts) →
      say_places sayer (count ts) (mark opening) (number (bits_of ts)) (encode_all (vocabulary_of X) ts ++ r) ≡
      said (spell (places_tokens (word_names X) vs opening ts)) r →
      say_word T sayer f (m ∷ (encode_all (vocabulary_of X) ts ++ r)) ≡ said (spell (term_tokens (word_names X) vs (app f ts))) r
  word-walk sayer f m nil r h places e walk =
      rw places (ap (λ x. said (x ++ []) r) (word_said f h))
  word-walk sayer f m (cons t ts) r h places e walk =
      let l = encode_all (vocabulary_of X) (cons t ts) ++ r in
      let behind : say_behind sayer (get_or T.places f 0) (map_got m l) ≡ said (spell (places_tokens (word_names X) vs opening (cons t ts))) r =
      ap₂ (λ n m. say_behind sayer n (map_got m l)) places e ∙ walk in
      ap₂ (λ x (d : Said). said (x ++ d.text) d.rest) (word_said f h) behind

  mutual
    say_place_lem : (left : ℕ) (t : Term) (s : ℕ) (r : List ℕ) → levels t ≤ left → Sorted (signature (vocabulary_of X)) t s → Named (names t) →
        cond (not (is_open t)) (say_term T left (encode_at (vocabulary_of X) t ++ r)) (said opened (encode_at (vocabulary_of X) t ++ r)) ≡
        said (spell (term_tokens (word_names X) vs t)) r
    say_place_lem left any s r h sorted named = refl
    say_place_lem zero (var n) s r h sorted named = absurd (omega arith)
    say_place_lem (suc left) (var n) s r h sorted named =
        cond_false _ _ _ (le-ltb (first_name_byte + n) first_name_byte (omega arith))
        ∙ ap (λ x. said x r)
        (ap (name_at T.variables) (let e : first_name_byte + n - first_name_byte ≡ n = omega arith in e) ∙ variable_said n named.0)
    say_place_lem zero (app f ts) s r h sorted named = absurd (omega arith)
    say_place_lem (suc left) (app f ts) s r h sorted named =
        let W = vocabulary_of X in
        let known : f < length (all_words X) = rw (← count-records X) sorted.0 in
        let few = good.few_words in
        let kinds : SortedAll (signature W) ts (word_at X f).places = rw (← word-kinds X f) sorted.2 in
        let size : count ts ≡ length (word_at X f).places = count-sorted (signature W) ts (word_at X f).places kinds in
        let bits : written_map W f ts ≡ number (bits_of ts) =
        rw (word-map X f, ← size) (written_bits_lem map_bits ts (omega (arith, few-places X good f known))) in
        cond_true _ _ _ (lt-ltb f first_name_byte (omega arith))
        ∙ word-walk (say_term T left) f (written_map W f ts) ts r known
        (tables.places f (rw (count-names X) known) ∙ (places_count X f ∙ sym size)) bits
        (say_places_lem left ts (word_at X f).places opening (mark opening) r refl (omega arith) kinds named)

    say_places_lem : (left : ℕ) (ts : Terms) (ks : List ℕ) (c : ℕ) (x r : List ℕ) → x ≡ spelled (mark c) → levels_all ts ≤ left →
        SortedAll (signature (vocabulary_of X)) ts ks → Named (names_all ts) →
        say_places (say_term T left) (count ts) x (number (bits_of ts)) (encode_all (vocabulary_of X) ts ++ r) ≡
        said (spell (places_tokens (word_names X) vs c ts)) r
    say_places_lem left nil ks c x r e h sorted named = refl
    say_places_lem left (cons t ts) [] c x r e h sorted named = absurd sorted
    say_places_lem left (cons t ts) (k ∷ ks) c x r e h sorted named =
        let W = vocabulary_of X in
        let here = say_place_lem left t k (encode_all W ts ++ r) (omega arith) sorted.0 (all_left (λ n. n < length vs) (names t) (names_all ts) named) in
        let behind = say_places_lem left ts ks comma comma_text r refl (omega arith) sorted.1 (all_right (λ n. n < length vs) (names t) (names_all ts) named) in
        rw (append_assoc (encode_at W t) (encode_all W ts) r)
        (one_place (say_term T left) (count ts) x (not (is_open t)) (number (bits_of ts)) _ _ r _ _ here behind
        ∙ ap (λ y. said y r)
        (ap₂ ◌++◌ e (sym (spell-append (term_tokens (word_names X) vs t) (places_tokens (word_names X) vs comma ts)))))

  kind_said : (s : ℕ) → s < length X → name_at T.kinds s ≡ spell (name_at (kind_names X) s ∷ [])
  kind_said s h =
      tables.kinds s h
      ∙ (sym (plain-name (name_at (kind_names X) s) (kind-name X good s h)) ∙ sym (append-nil (spelled (name_at (kind_names X) s))))

  -- A term at the root that is not open, with nothing behind it.
  root-text : (t : Term) (s : ℕ) → is_open t ≡ false → levels t ≤ most_levels → Sorted (signature (vocabulary_of X)) t s → Named (names t) →
      (say_term T most_levels (encode_at (vocabulary_of X) t)).text ≡ spell (term_tokens (word_names X) vs t)
  root-text t s shut h sorted named =
      ap (λ (d : Said). d.text)
      (ap (say_term T most_levels) (sym (append-nil (encode_at (vocabulary_of X) t)))
      ∙ (sym (cond_true (not (is_open t)) _ _ (ap not shut)) ∙ say_place_lem most_levels t s [] h sorted named))

  say_root_lem : (t : Term) (s : ℕ) → s < length X → levels t ≤ most_levels → Sorted (signature (vocabulary_of X)) t s → Named (names t) →
      All (λ n. n < name_count) (names t) → say_phrase T (encode_term (vocabulary_of X) s t) ≡ phrase_text X vs s t
  say_root_lem any s k h sorted named low = ap (λ x. opened ++ (mark colon ++ (ascii " " ++ x))) (kind_said s k)
  say_root_lem (var n) s k h sorted named low =
      let first = low.0 in
      cond_false _ _ _ (ne_eqb (first_name_byte + n) whole_byte (omega arith))
      ∙ (cond_false _ _ _ (le-ltb (first_name_byte + n) first_name_byte (omega arith))
      ∙ (ap₂ (λ x y. x ++ (mark colon ++ (ascii " " ++ y))) (root-text (var n) s refl h sorted named) (kind_said s k)
      ∙ append_assoc (spelled (name_at vs n)) [] (mark colon ++ (ascii " " ++ spell (name_at (kind_names X) s ∷ [])))))
  say_root_lem (app f ts) s k h sorted named low =
      let known : f < length (all_words X) = rw (← count-records X) sorted.0 in
      let few = good.few_words in
      cond_false _ _ _ (ne_eqb f whole_byte (omega arith))
      ∙ (cond_true _ _ _ (lt-ltb f first_name_byte (omega arith)) ∙ root-text (app f ts) s refl h sorted named)

pub says-terms : SaysTerms
says-terms X vs s t T good q tables =
    say_root_lem X vs T good q.variables tables t s q.kind q.levels q.sorted
    (all_implies Both (λ n. n < length vs) (λ n h. h.0) (names t) q.named)
    (all_implies Both (λ n. n < name_count) (λ n h. h.1) (names t) q.named)
  where
    Both : ℕ → Type 0
    Both n = (n < length vs) × (n < name_count)

pub phrase_sayable : (X : Lexicon) (vs : List Token) (s : ℕ) (t : Term) → GoodPhrase X vs s t → Sayable X vs s t
phrase_sayable X vs s t p = record {
  kind = p.term.good.kind;
  sorted = p.term.good.sorted.sorted;
  levels = let h = p.term.limits.levels in omega arith;
  named = all_both (λ n. n < length vs) (λ n. n < name_count) (names t) (rw p.numbered (all_implies (λ k. k < 0 + length vs) (λ k. k < length vs) (λ k h. omega arith) (range 0 (length vs)) (all-range 0 (length vs)))) p.term.good.named;
  variables = p.variables;
}

pub says_phrases : SaysPhrases
says_phrases X vs s t T good p tables = says-terms X vs s t T good (phrase_sayable X vs s t p) tables

pub tables-of : (X : Lexicon) (vs : List Token) → TablesFor X vs (tables_of X vs)
tables-of X vs = record { kinds = λ k h. refl; words = λ f h. refl; places = λ f h. refl; variables = λ n h. refl }
