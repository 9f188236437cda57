-- Entries: a good vocabulary in words is in order as bytes, and each entry of a good pattern can be said.
--
--   lexicon-in_order       the vocabulary of a good lexicon is in order
--   phrase-linear          no name stands twice in a good pattern
--   Front a b              the list b begins with a
--   front-names, listing-front     the names of an entry are the first of the pattern's
--   Entry X s t e          what is known of an entry e of the pattern t
--   entries-known          it is known of each
--   entry_sayable          such an entry can be said
--
use mathlib.Core.Path.{◌≡◌, refl, sym, ap, subst, ◌∙◌}
use mathlib.Core.List.{List, [], ◌∷◌, ◌++◌, map, append-nil, append_assoc}
use Prim.Native.Nat.{ℕ, zero, suc, ◌-◌, ◌/◌, ◌%◌, ◌^◌, ◌<◌, ◌≤◌}
use native.Mathlib.Nat.{pow-suc}
use native.Mathlib.Omega.{arith}
use lib.ListN.{length}
use borrow.Author.Tests.{eq-eqb}
use Rattle.terms.specs.Lists.{All, NoneTwice}
use Rattle.terms.specs.Signature.{Signature, arguments}
use Rattle.terms.specs.Term.{Term, any, var, app, Terms, nil, cons, names, names_all, Linear}
use Rattle.terms.specs.Listing.{others, bare, open_every, listing, listing_all, Fitted, IsListing, fits_something, fits_nothing, none_to_fit}
use Rattle.terms.proofs.All.{all_always, all_implies, all_both, all_append, all_map, all-maps, all_left, all_right}
use Rattle.terms.proofs.Occurs.{none_twice_range}
use Rattle.terms.proofs.Kept.{kept-all}
use Rattle.terms.proofs.Entries.{open_names, open_every-names}
use Rattle.wire.specs.Map.{map_bits, flags_in, ones}
use Rattle.wire.specs.Vocabulary.{Word, Vocabulary, WordInOrder, InOrder, signature}
use Rattle.wire.specs.TermBytes.{encode_term, deepest, name_count, GoodTerm, HoldsTerm}
use Rattle.wire.proofs.Levels.{deepest-bytes}
use Rattle.wire.proofs.Entries.{entries_are_good}
use Rattle.wire.proofs.EntryLevels.{listing-deepest}
use Rattle.texts.specs.Lexemes.{Token}
use Rattle.texts.specs.Lexicon.{WordText, Lexicon, all_words, gapless_map, as_word, records_from, vocabulary_of, GoodWord, GoodLexicon}
use Rattle.texts.specs.Phrases.{GoodPhrase}
use Rattle.texts.specs.Laws.{Sayable}
use Rattle.texts.proofs.Lexicon.{count-names}
use Rattle.texts.proofs.Saying.{some_power, phrase_sayable}
use Rattle.texts.proofs.Telling.{lexicon-named}

-- ---- the vocabulary

full-ones : (d n : ℕ) → n ≤ d → ones (flags_in d (gapless_map n)) ≡ n
full-ones zero zero h = refl
full-ones zero (suc n) h = absurd (omega arith)
full-ones (suc d) zero h = let ih = full-ones d zero (omega arith) in omega arith
full-ones (suc d) (suc n) h =
    let low : (2 ^ suc n - 1) % 2 ≡ 1 = omega (arith, some_power n, pow-suc 2 n) in
    let high : (2 ^ suc n - 1) / 2 ≡ 2 ^ n - 1 = omega (arith, some_power n, pow-suc 2 n) in
    rw (eq-eqb ((2 ^ suc n - 1) % 2) 1 low, high) (let ih = full-ones d n (omega arith) in omega arith)

full-small : (d n : ℕ) → n ≤ d → 2 ^ n ≤ 2 ^ d
full-small zero zero h = omega arith
full-small zero (suc n) h = absurd (omega arith)
full-small (suc d) zero h = omega (arith, some_power (suc d))
full-small (suc d) (suc n) h = omega (arith, full-small d n (omega arith), pow-suc 2 n, pow-suc 2 d)

-- A record beside its kind.
record Places (kinds : ℕ) (w : Word) : Type 0 where
  place_map : w.place_map < 2 ^ map_bits
  count : length w.kinds ≡ ones (flags_in map_bits w.place_map)
  places : All (λ s. s < kinds) w.kinds

word-places : (kinds k : ℕ) (w : WordText) → GoodWord kinds w → Places kinds (as_word k w)
word-places kinds k w good = record {
  place_map = let n = length w.places in omega (arith, full-small map_bits n good.few, some_power n);
  count = sym (full-ones map_bits (length w.places) good.few);
  places = good.places;
}

records-places : (kinds k : ℕ) (X : Lexicon) → All (GoodWord kinds) (all_words X) → All (Places kinds) (records_from k X)
records-places kinds k [] h = tt
records-places kinds k (x ∷ X) h =
    all_append (Places kinds) (map (as_word k) x.words) (records_from (suc k) X)
    (all_map (Places kinds) (as_word k) x.words
    (all_implies (GoodWord kinds) (λ w. Places kinds (as_word k w)) (word-places kinds k) x.words
    (all_left (GoodWord kinds) x.words (all_words X) h)))
    (records-places kinds (suc k) X (all_right (GoodWord kinds) x.words (all_words X) h))

pub lexicon-in_order : (X : Lexicon) → GoodLexicon X → InOrder (vocabulary_of X)
lexicon-in_order X good =
    let named = lexicon-named X good in
    let n : length (records_from 0 X) ≡ length (all_words X) = sym named.count ∙ count-names X in
    record {
      some_kind = good.some_kind;
      few_kinds = good.few_kinds;
      some_word = let h = good.some_word in omega arith;
      few_words = let h = good.few_words in omega arith;
      words =
          all_implies (λ w. (w.result < length X) × Places (length X) w) (WordInOrder (length X))
          (λ w h. record { result = h.0; place_map = h.1.place_map; count = h.1.count; kinds = h.1.places })
          (records_from 0 X)
          (all_both (λ w. w.result < length X) (Places (length X)) (records_from 0 X) named.results
          (records-places (length X) 0 X good.words));
    }

-- ---- the names of an entry

abbrev pub Front : List ℕ → List ℕ → Type 0
Front a b = (r : List ℕ) × (a ++ r ≡ b)

front_none : (a b : List ℕ) → a ≡ [] → Front a b
front_none a b e = (b, ap (λ (x : List ℕ). x ++ b) e)

front-more : (a b c d : List ℕ) → c ≡ [] → Front a b → Front (a ++ c) (b ++ d)
front-more a b c d e (r, h) =
    (r ++ d, ap (λ (x : List ℕ). (a ++ x) ++ (r ++ d)) e ∙ ap (λ (x : List ℕ). x ++ (r ++ d)) (append-nil a) ∙ sym (append_assoc a r d) ∙ ap (λ (x : List ℕ). x ++ d) h)

front-behind : (a b c : List ℕ) → Front b c → Front (a ++ b) (a ++ c)
front-behind a b c (r, h) = (r, append_assoc a b r ∙ ap (λ (x : List ℕ). a ++ x) h)

-- An entry keeps lower places as they are and opens the higher ones.
mutual
  front-names : (S : Signature) (t : Term) → All (λ e. Front (names e) (names t)) (listing S t)
  front-names S any = tt
  front-names S (var n) = tt
  front-names S (app f ts) =
      all-maps (λ e. Front (names e) (names_all ts)) (bare S) (app f) (others S f) (listing_all S ts)
      (all_always (λ h. Front (names (bare S h)) (names_all ts)) (λ h. front_none _ (names_all ts) (open_names (arguments S h))) (others S f))
      (front-names_all S ts)

  front-names_all : (S : Signature) (ts : Terms) → All (λ es. Front (names_all es) (names_all ts)) (listing_all S ts)
  front-names_all S nil = tt
  front-names_all S (cons t ts) =
      all-maps (λ es. Front (names_all es) (names t ++ names_all ts)) (λ e. cons e (open_every ts)) (cons t) (listing S t) (listing_all S ts)
      (all_implies (λ e. Front (names e) (names t)) (λ e. Front (names e ++ names_all (open_every ts)) (names t ++ names_all ts))
      (λ e h. front-more (names e) (names t) (names_all (open_every ts)) (names_all ts) (open_every-names ts) h) (listing S t) (front-names S t))
      (all_implies (λ es. Front (names_all es) (names_all ts)) (λ es. Front (names t ++ names_all es) (names t ++ names_all ts))
      (λ es h. front-behind (names t) (names_all es) (names_all ts) h) (listing_all S ts) (front-names_all S ts))

listing-front : (S : Signature) (s : ℕ) (t : Term) {l : List Term} → IsListing S s t l → All (λ e. Front (names e) (names t)) l
listing-front S s t (fits_something l fitted kept) = kept-all (Fitted S s) (λ e. Front (names e) (names t)) (listing S t) l (front-names S t) kept
listing-front S s t (fits_nothing none ground) = ((names t, refl), tt)
listing-front S s t (none_to_fit empty) = tt

-- ---- entries

pub record Entry (X : Lexicon) (s : ℕ) (t e : Term) : Type 0 where
  pub term : HoldsTerm (vocabulary_of X) (encode_term (vocabulary_of X) s e) s e
  pub front : Front (names e) (names t)

module _ (X : Lexicon) (vs : List Token) (s : ℕ) (t : Term) (phrase : GoodPhrase X vs s t) where
  pub phrase-linear : Linear t
  phrase-linear = subst NoneTwice (sym phrase.numbered) (none_twice_range 0 (length vs))

  pub entries-known : (l : List Term) → IsListing (signature (vocabulary_of X)) s t l → All (Entry X s t) l
  entries-known l h =
      all_implies Known (Entry X s t) entry l
      (all_both _ _ l (entries_are_good W s t phrase.term.good phrase-linear l h)
      (all_both _ _ l (listing-deepest (signature W) s t h) (listing-front (signature W) s t h)))
    where
      W : Vocabulary
      W = vocabulary_of X

      Known : Term → Type 0
      Known e =
          (GoodTerm (vocabulary_of X) s e × Linear e × (length (encode_term (vocabulary_of X) s e) ≤ length (encode_term (vocabulary_of X) s t)))
          × ((deepest e ≤ deepest t) × Front (names e) (names t))

      entry : (e : Term) → Known e → Entry X s t e
      entry e ((good, alone, short), (low, front)) =
          let limits = phrase.term.limits in
          let most = limits.most in
          let deep = limits.levels in
          let size = deepest-bytes (vocabulary_of X) e in record {
            term = record { good = good; written = refl; limits = record { least = omega arith; most = omega arith; levels = omega arith } };
            front = front;
          }

  pub entry_sayable : (e : Term) → Entry X s t e → Sayable X vs s e
  entry_sayable e h =
      let whole = phrase_sayable X vs s t phrase in record {
        kind = whole.kind;
        sorted = h.term.good.sorted.sorted;
        levels = let k = h.term.limits.levels in omega arith;
        named = all_left (λ n. (n < length vs) × (n < name_count)) (names e) h.front.0 (subst (All (λ n. (n < length vs) × (n < name_count))) (sym h.front.1) whole.named);
        variables = whole.variables;
      }
