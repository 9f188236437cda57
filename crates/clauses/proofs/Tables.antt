-- Tables: a word by its record, and how many names there are.
--
--   word-record           a word of the vocabulary is its record
--   result-at             its kind
--   kinds-count           how many kinds of places it has
--   kinds-next            the kinds of its places from one on
--   names-count           the first n names are n
--
use mathlib.Core.Path.{◌≡◌, ap, ◌∙◌}
use mathlib.Core.List.{List, [], ◌∷◌, map}
use Prim.Native.Nat.{ℕ, zero, suc, ◌+◌, ◌*◌, ◌<◌, ◌≤◌}
use native.Mathlib.Omega.{arith}
use lib.ListN.{length, get_or, take, drop, length-drop, length-map, drop_of_length-le}
use lib.Seq.{drop-cons, get_or-take, get_or-drop, length-take-le}
use Rattle.terms.specs.Lists.{range}
use Rattle.wire.specs.Vocabulary.{Word, word, no_word, map_of, most_words}
use Rattle.texts.specs.Lexicon.{gapless_map, most_places}
use Rattle.texts.specs.Lexemes.{token_at}
use Rattle.texts.specs.Tabled.{names_in, record_size, tabled_places, word_in, tabled_vocabulary}

-- ---- the words

range_at : {A : Type 0} (g : ℕ → A) (from n i : ℕ) (d : A) → i < n → get_or (map g (range from n)) i d ≡ g (from + i)
range_at g from zero i d h = absurd (omega arith)
range_at g from (suc n) zero d h = ap g (let e : from ≡ from + 0 = omega arith in e)
range_at g from (suc n) (suc i) d h =
    range_at g (suc from) n i d (omega arith) ∙ ap g (let e : suc from + i ≡ from + suc i = omega arith in e)

pub word-record : (k n : ℕ) (r : List ℕ) (f : ℕ) → f < n → word (tabled_vocabulary k n r) f ≡ word_in r f
word-record k n r f h = range_at (word_in r) 0 n f no_word h ∙ ap (word_in r) (let e : 0 + f ≡ f = omega arith in e)

pub result-at : (k n : ℕ) (r : List ℕ) (f : ℕ) → f < n → (word (tabled_vocabulary k n r) f).result ≡ get_or r (record_size * f) 0
result-at k n r f h = ap (λ (w : Word). w.result) (word-record k n r f h)

pub map_at_lem : (k n : ℕ) (r : List ℕ) (f : ℕ) → f < n → map_of (tabled_vocabulary k n r) f ≡ gapless_map (tabled_places r f)
map_at_lem k n r f h = ap (λ (w : Word). w.place_map) (word-record k n r f h)

pub places-few : (r : List ℕ) (f : ℕ) → tabled_places r f ≤ most_places
places-few r f = omega arith

module _ (k n : ℕ) (r : List ℕ) (f : ℕ) (known : f < n) (few : n ≤ most_words) (size : length r ≡ record_size * most_words) where
  abbrev kinds_of : List ℕ
  kinds_of = (word (tabled_vocabulary k n r) f).kinds

  abbrev kinds_in : List ℕ
  kinds_in = take (tabled_places r f) (drop (record_size * f + 2) r)

  kinds_in_lem : kinds_of ≡ kinds_in
  kinds_in_lem = ap (λ (w : Word). w.kinds) (word-record k n r f known)

  pub kinds-count : length kinds_of ≡ tabled_places r f
  kinds-count =
      ap length kinds_in_lem ∙ length-take-le (tabled_places r f) (drop (record_size * f + 2) r) (omega (arith, length-drop (record_size * f + 2) r))

  pub kinds-next : (i : ℕ) → i < tabled_places r f → drop i kinds_of ≡ get_or r (record_size * f + 2 + i) 0 ∷ drop (suc i) kinds_of
  kinds-next i h =
      drop-cons kinds_of i 0 (omega (arith, kinds-count))
      ∙ ap (λ (x : ℕ). x ∷ drop (suc i) kinds_of) (ap (λ (l : List ℕ). get_or l i 0) kinds_in_lem ∙ get_or-take (tabled_places r f) (drop (record_size * f + 2) r) i 0 h ∙ get_or-drop (record_size * f + 2) r i 0)

  pub kinds_none : (i : ℕ) → i ≡ tabled_places r f → drop i kinds_of ≡ []
  kinds_none i h = let e : length kinds_of ≤ i = omega (arith, kinds-count) in drop_of_length-le kinds_of e

-- ---- the names

pub names-count : (b : List ℕ) (n : ℕ) (q : List ℕ) → n ≤ length q → length (names_in b (take n q)) ≡ n
names-count b n q h = length-map (take n q) (token_at b) ∙ length-take-le n q h
