-- LexiconsSpelt: a vocabulary in words spells its tokens.
--
--   put-token, put-name, put-mark, put-space     a token, a name, a mark, a space before what is spelt
--   Puts c cs              the text cs, before what is spelt, spells the mark c, and no name goes on into it
--   puts-opening, puts-comma, puts-equals, puts-bar     of each mark of declarations; puts-apart: with a space on either side
--   words-stop             no name goes on into the words of a kind
--   places_spelt, word_spelt, words_spelt, kind_spelt, kinds_spelt     the parts of a vocabulary before what is spelt
--   lexicons_are_spelled   the law
--
use mathlib.Core.Path.{◌≡◌, refl, sym, ap, subst, ◌∙◌}
use mathlib.Core.Bool.{false}
use mathlib.Core.List.{List, [], ◌∷◌, ◌++◌, append_assoc}
use Prim.Native.Nat.{ℕ, ◌<◌}
use lib.Dec.{eqb}
use lib.ListN.{length}
use Rattle.terms.specs.Lists.{All}
use Rattle.terms.proofs.All.{all_left, all_right}
use Rattle.wire.specs.Text.{ascii, newline}
use Rattle.texts.specs.Lexemes.{Token, is_blank, comment, is_run, run_size}
use Rattle.texts.specs.Names.{kind_word, mark, opening, closing, comma, bar, equals, name_at, IsIdentifier}
use Rattle.texts.specs.Spelling.{none, space, whole, IsToken, run, single, Spells, end, next}
use Rattle.texts.specs.Lexicon.{WordText, KindText, Lexicon, kind_names, all_words, place_kind_tokens, with_places, word_tokens, words_tokens, kind_tokens, kinds_tokens, places_declared, word_declared, words_declared, kind_line, kind_lines, GoodWord}
use Rattle.texts.specs.Laws.{LexiconsAreSpelled}
use Rattle.texts.proofs.Lexicon.{kind-name}
use Rattle.texts.proofs.Spelling.{ends-single}
use Rattle.texts.proofs.Spelt.{token-name, blank-before, ends-name}

-- ---- one token more

put-token : (u : Token) (r : List ℕ) (us : List Token) → IsToken u → run_size r ≡ 0 → Spells r us → Spells (u ++ r) (u ∷ us)
put-token u r us token stops s = next (u ++ r) [] u r us refl none token (ends-name r token stops) s

put-name : (u : Token) (r : List ℕ) (us : List Token) → IsIdentifier u → run_size r ≡ 0 → Spells r us → Spells (u ++ r) (u ∷ us)
put-name u r us name stops s = put-token u r us (token-name u name) stops s

put-mark : (c : ℕ) (r : List ℕ) (us : List Token) → is_run c ≡ false → is_blank c ≡ false → eqb c comment ≡ false → Spells r us →
    Spells (c ∷ r) (mark c ∷ us)
put-mark c r us e h k s = next (c ∷ r) [] (mark c) r us refl none (single c e h k) (ends-single c [] r e) s

put-space : (r : List ℕ) (us : List Token) → Spells r us → Spells (32 ∷ r) us
put-space r us s = blank-before (space 32 [] refl none) s

record Puts (c : ℕ) (cs : List ℕ) : Type 0 where
  spells : (r : List ℕ) (us : List Token) → Spells r us → Spells (cs ++ r) (mark c ∷ us)
  stops : (r : List ℕ) → run_size (cs ++ r) ≡ 0

puts-opening : Puts opening (mark opening)
puts-opening = record { spells = λ r us s. put-mark opening r us refl refl refl s; stops = λ r. refl }

puts-comma : Puts comma (ascii ", ")
puts-comma = record { spells = λ r us s. put-mark comma (32 ∷ r) us refl refl refl (put-space r us s); stops = λ r. refl }

puts-apart : (c : ℕ) → is_run c ≡ false → is_blank c ≡ false → eqb c comment ≡ false → Puts c (32 ∷ c ∷ 32 ∷ [])
puts-apart c e h k = record {
  spells = λ r us s. put-space (c ∷ 32 ∷ r) (mark c ∷ us) (put-mark c (32 ∷ r) us e h k (put-space r us s));
  stops = λ r. refl;
}

puts-equals : Puts equals (ascii " = ")
puts-equals = puts-apart equals refl refl refl

puts-bar : Puts bar (ascii " | ")
puts-bar = puts-apart bar refl refl refl

-- ---- the parts of a vocabulary

module _ (n : ℕ) (K : List Token) (names : (k : ℕ) → k < n → IsIdentifier (name_at K k)) where
  places_spelt : (c : ℕ) (cs : List ℕ) → Puts c cs → (ps : List ℕ) → All (λ k. k < n) ps → (z : List ℕ) (us : List Token) →
      Spells z us → Spells (places_declared K cs ps ++ z) (place_kind_tokens K c ps ++ us)
  places_spelt c cs puts [] h z us s = put-mark closing z us refl refl refl s
  places_spelt c cs puts (p ∷ ps) h z us s =
      let rest = places_declared K (ascii ", ") ps in
      subst (λ (x : List ℕ). Spells x (place_kind_tokens K c (p ∷ ps) ++ us))
      (sym (append_assoc cs (name_at K p ++ rest) z ∙ ap (λ (x : List ℕ). cs ++ x) (append_assoc (name_at K p) rest z)))
      (puts.spells (name_at K p ++ (rest ++ z)) (name_at K p ∷ (place_kind_tokens K comma ps ++ us))
      (put-name (name_at K p) (rest ++ z) (place_kind_tokens K comma ps ++ us) (names p h.0) (stops ps)
      (places_spelt comma (ascii ", ") puts-comma ps h.1 z us s)))
    where
      stops : (ps : List ℕ) → run_size (places_declared K (ascii ", ") ps ++ z) ≡ 0
      stops [] = refl
      stops (p ∷ ps) = refl

  word_spelt : (u : Token) (ps : List ℕ) → IsIdentifier u → All (λ k. k < n) ps → (z : List ℕ) (us : List Token) → run_size z ≡ 0 →
      Spells z us → Spells (word_declared K u ps ++ z) (u ∷ (with_places ps (place_kind_tokens K opening ps) ++ us))
  word_spelt u [] name h z us stops s = put-name u z us name stops s
  word_spelt u (p ∷ ps) name h z us stops s =
      let places = places_declared K (mark opening) (p ∷ ps) in
      let all = place_kind_tokens K opening (p ∷ ps) ++ us in
      subst (λ (x : List ℕ). Spells x (u ∷ all)) (sym (append_assoc u places z))
      (put-name u (places ++ z) all name refl (places_spelt opening (mark opening) puts-opening (p ∷ ps) h z us s))

  words-stop : (c : ℕ) (cs : List ℕ) → Puts c cs → (ws : List WordText) (z : List ℕ) → run_size z ≡ 0 → run_size (words_declared K cs ws ++ z) ≡ 0
  words-stop c cs puts [] z stops = stops
  words-stop c cs puts (w ∷ ws) z stops =
      let text = word_declared K w.name w.places ++ words_declared K (ascii " | ") ws in
      ap run_size (append_assoc cs text z) ∙ puts.stops (text ++ z)

  words_spelt : (c : ℕ) (cs : List ℕ) → Puts c cs → (ws : List WordText) → All (GoodWord n) ws → (z : List ℕ) (us : List Token) →
      run_size z ≡ 0 → Spells z us → Spells (words_declared K cs ws ++ z) (words_tokens K c ws ++ us)
  words_spelt c cs puts [] good z us stops s = s
  words_spelt c cs puts (w ∷ ws) good z us stops s =
      let text = word_declared K w.name w.places in
      let rest = words_declared K (ascii " | ") ws in
      let behind = words_tokens K bar ws in
      subst (λ (x : List ℕ). Spells x (words_tokens K c (w ∷ ws) ++ us))
      (sym (append_assoc cs (text ++ rest) z ∙ ap (λ (x : List ℕ). cs ++ x) (append_assoc text rest z)))
      (puts.spells (text ++ (rest ++ z)) ((word_tokens K w ++ behind) ++ us)
      (subst (λ (x : List Token). Spells (text ++ (rest ++ z)) x) (sym (append_assoc (word_tokens K w) behind us))
      (word_spelt w.name w.places good.0.name good.0.places (rest ++ z) (behind ++ us)
      (words-stop bar (ascii " | ") puts-bar ws z stops) (words_spelt bar (ascii " | ") puts-bar ws good.1 z us stops s))))

  kind_spelt : (x : KindText) → IsIdentifier x.name → All (GoodWord n) x.words → (z : List ℕ) (us : List Token) → Spells z us →
      Spells (kind_line K x ++ z) (kind_tokens K x ++ us)
  kind_spelt x name good z us s =
      let words = words_declared K (ascii " = ") x.words in
      let behind = words_tokens K equals x.words ++ us in
      subst (λ (y : List ℕ). Spells (ascii "kind " ++ y) (kind_word ∷ x.name ∷ behind))
      (sym (append_assoc x.name (words ++ newline) z ∙ ap (λ (y : List ℕ). x.name ++ y) (append_assoc words newline z)))
      (put-token kind_word (32 ∷ (x.name ++ (words ++ (10 ∷ z)))) (x.name ∷ behind) (run 107 (ascii "ind") refl (refl, (refl, (refl, tt)))) refl
      (put-space (x.name ++ (words ++ (10 ∷ z))) (x.name ∷ behind)
      (put-name x.name (words ++ (10 ∷ z)) behind name (words-stop equals (ascii " = ") puts-equals x.words (10 ∷ z) refl)
      (words_spelt equals (ascii " = ") puts-equals x.words good (10 ∷ z) us refl (blank-before (space 10 [] refl none) s)))))

  kinds_spelt : (X : Lexicon) → All (λ (x : KindText). IsIdentifier x.name) X → All (GoodWord n) (all_words X) →
      Spells (kind_lines K X) (kinds_tokens K X)
  kinds_spelt [] named good = end [] (whole none)
  kinds_spelt (x ∷ X) named good =
      kind_spelt x named.0 (all_left (GoodWord n) x.words (all_words X) good) (kind_lines K X) (kinds_tokens K X)
      (kinds_spelt X named.1 (all_right (GoodWord n) x.words (all_words X) good))

pub lexicons_are_spelled : LexiconsAreSpelled
lexicons_are_spelled X good = kinds_spelt (length X) (kind_names X) (kind-name X good) X good.kinds good.words
