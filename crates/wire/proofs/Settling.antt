-- Settling: what settled_vocabulary is, and that listings may go by it (document 02 (iv)).
--
--   settled-kinds, settled-map, settled-count   a settled word has its kinds and its place map, and there are as many words
--   settled-word, settled_same  a settled word, where some kind has no situations, and that nothing is moved where none has none
--   settled-symbols             the symbols of the settled words are the settled symbols
--   settled_is_settled          .. so its signature is the settled one
--   settled-result              a word's result kind is its symbol's in the settled signature
--   settled_barren              .. and is the lowest kind without situations exactly where the word is not productive
--   settled-in_order            it is in order
--   settled_at, settled-all, settled_root, settled_writes    it writes every term as the vocabulary does
--   settled-patterns, settled-entries                        .. and every row of patterns or entries
--   settled-arguments           a word has the same argument kinds over it
--   settled-occurrences, settled-occurrences_all             .. and a term the same occurrences
--   fruitful-settled            a fruitful term has its kind over it, and what is listed for it is document 01's listing
--   settled-good, settled-holds     .. so it holds these terms
--   fruitful-leftovers              .. and their entries are document 01's over it
--
use mathlib.Core.Path.{◌≡◌, refl, sym, ◌∙◌, ap, ap₂, subst, fun_ext}
use mathlib.Core.Bool.{true, false}
use mathlib.Core.List.{List, [], ◌∷◌, ◌++◌, map}
use mathlib.Core.Logic.{◌↔◌}
use mathlib.Core.Option.{Option, some, none}
use Prim.Native.Nat.{ℕ, ◌<◌}
use lib.ListN.{length, length-map, get_or-map}
use Rattle.terms.specs.Lists.{All}
use Rattle.terms.specs.Signature.{Signature, result, arguments}
use Rattle.terms.specs.Term.{Term, any, var, app, Terms, nil, cons, Sorted, Consistent, occurrences, occurrences_all}
use Rattle.terms.specs.Listing.{listing}
use Rattle.terms.specs.Emptiness.{covered, reached, first_empty}
use Rattle.terms.specs.Productive.{productive, fruitful, listing_of, settled_symbol, settled_by, settled}
use Rattle.terms.proofs.All.{all_implies, all_map}
use Rattle.terms.proofs.Inhabited.{emptiness_is_exact}
use Rattle.terms.proofs.Settled.{barren_settled, fruitful-listing}
use Rattle.wire.specs.Reply.{Kinded, kinded}
use Rattle.wire.specs.Map.{write_map, flags, number, written_flags}
use Rattle.wire.specs.Row.{write_row}
use Rattle.wire.specs.Vocabulary.{Word, Vocabulary, symbol_of, signature, no_word, word, map_of, WordInOrder, InOrder}
use Rattle.wire.specs.TermBytes.{encode_at, encode_all, encode_root, GoodTerm}
use Rattle.wire.specs.BookBytes.{patterns_bytes}
use Rattle.wire.specs.Leftovers.{entries_bytes}
use Rattle.wire.specs.Settling.{settled_word, settled_words_by, settled_vocabulary, SettledInOrder, SettledIsSettled, SettledWrites, SettledHolds, FruitfulLeftovers}
use Rattle.wire.proofs.Cond.{choice}
use Rattle.wire.proofs.Words.{length_symbols, result-word, arguments-word, in_order_well_formed}

-- ---- the words

module _ (W : Vocabulary) where
  -- W with the words that settled_words_by gives.
  abbrev by : Option ℕ → Vocabulary
  by o = record { kinds = W.kinds; words = settled_words_by W o }

  word_moved : (e f : ℕ) → word (by (some e)) f ≡ settled_word (signature W) e (word W f)
  word_moved e f = get_or-map (settled_word (signature W) e) W.words f no_word

  pub settled-kinds : (f : ℕ) → (word (settled_vocabulary W) f).kinds ≡ (word W f).kinds
  settled-kinds f = go (first_empty (signature W))
    where
      go : (o : Option ℕ) → (word (by o) f).kinds ≡ (word W f).kinds
      go none = refl
      go (some e) = ap (λ (w : Word). w.kinds) (word_moved e f)

  pub settled-map : (f : ℕ) → map_of (settled_vocabulary W) f ≡ map_of W f
  settled-map f = go (first_empty (signature W))
    where
      go : (o : Option ℕ) → map_of (by o) f ≡ map_of W f
      go none = refl
      go (some e) = ap (λ (w : Word). w.place_map) (word_moved e f)

  pub settled-count : length (settled_vocabulary W).words ≡ length W.words
  settled-count = go (first_empty (signature W))
    where
      go : (o : Option ℕ) → length (settled_words_by W o) ≡ length W.words
      go none = refl
      go (some e) = length-map W.words (settled_word (signature W) e)

  pub settled-word : (e f : ℕ) → first_empty (signature W) ≡ some e → word (settled_vocabulary W) f ≡ settled_word (signature W) e (word W f)
  settled-word e f q = ap (λ o. word (by o) f) q ∙ word_moved e f

  pub settled_same : first_empty (signature W) ≡ none → settled_vocabulary W ≡ W
  settled_same q = ap by q

-- ---- the signature

settled-symbols : (S : Signature) (e : ℕ) (ws : List Word) → map symbol_of (map (settled_word S e) ws) ≡ map (settled_symbol S e) (map symbol_of ws)
settled-symbols S e [] = refl
settled-symbols S e (w ∷ ws) = ap (λ l. settled_symbol S e (symbol_of w) ∷ l) (settled-symbols S e ws)

pub settled_is_settled : SettledIsSettled
settled_is_settled W = go (first_empty (signature W))
  where
    go : (o : Option ℕ) → signature (by W o) ≡ settled_by (signature W) o
    go none = refl
    go (some e) = ap (λ l. record { sorts = W.kinds; symbols = l }) (settled-symbols (signature W) e W.words)

pub settled-result : (W : Vocabulary) (f : ℕ) → (word (settled_vocabulary W) f).result ≡ result (settled (signature W)) f
settled-result W f = sym (result-word (settled_vocabulary W) f) ∙ ap (λ S. result S f) (settled_is_settled W)

pub settled_barren : (W : Vocabulary) → InOrder W → (e : ℕ) → first_empty (signature W) ≡ some e → (f : ℕ) → f < length W.words →
    (productive (signature W) f ≡ false) ↔ ((word (settled_vocabulary W) f).result ≡ e)
settled_barren W in_order e q f b = (
  λ n. let w = barren.0 n in settled-result W f ∙ w.2 ∙ same w.0 (sym w.1 ∙ q),
  λ r. barren.1 (e, q, sym (settled-result W f) ∙ r),
)
  where
    barren : (productive (signature W) f ≡ false) ↔ ((d : ℕ) × (first_empty (signature W) ≡ some d) × (result (settled (signature W)) f ≡ d))
    barren = barren_settled (signature W) (in_order_well_formed W in_order) f (subst (λ n. f < n) (sym (length_symbols W)) b)

    same : (d : ℕ) → some d ≡ some e → d ≡ e
    same d z = cc

-- ---- being in order

pub settled-in_order : SettledInOrder
settled-in_order W in_order = record {
  some_kind = in_order.some_kind;
  few_kinds = in_order.few_kinds;
  some_word = rw (settled-count W) in_order.some_word;
  few_words = rw (settled-count W) in_order.few_words;
  words = go (first_empty (signature W)) refl;
}
  where
    moved-in_order : (e : ℕ) → e < W.kinds → (w : Word) → WordInOrder W.kinds w → WordInOrder W.kinds (settled_word (signature W) e w)
    moved-in_order e low w h = record {
      result = choice (λ r. r < W.kinds) (covered w.kinds (reached (signature W) W.kinds)) w.result e (λ z. h.result) (λ z. low);
      place_map = h.place_map;
      count = h.count;
      kinds = h.kinds;
    }

    go : (o : Option ℕ) → first_empty (signature W) ≡ o → All (WordInOrder W.kinds) (settled_words_by W o)
    go none q = in_order.words
    go (some e) q =
        let low = ((emptiness_is_exact (signature W) (in_order_well_formed W in_order)).found e q).0 in
        all_map (WordInOrder W.kinds) (settled_word (signature W) e) W.words
        (all_implies (WordInOrder W.kinds) _ (moved-in_order e low) W.words in_order.words)

-- ---- writing

module _ (W : Vocabulary) where
  mutual
    pub settled_at : (t : Term) → encode_at (settled_vocabulary W) t ≡ encode_at W t
    settled_at any = refl
    settled_at (var n) = refl
    settled_at (app f ts) = ap₂ (λ m l. f ∷ (write_map (number (written_flags (flags m) ts)) ++ l)) (settled-map W f) (settled-all ts)

    pub settled-all : (ts : Terms) → encode_all (settled_vocabulary W) ts ≡ encode_all W ts
    settled-all nil = refl
    settled-all (cons t ts) = ap₂ (λ l m. l ++ m) (settled_at t) (settled-all ts)

  pub settled_root : (t : Term) → encode_root (settled_vocabulary W) t ≡ encode_root W t
  settled_root any = refl
  settled_root (var n) = refl
  settled_root (app f ts) = settled_at (app f ts)

pub settled_writes : SettledWrites
settled_writes W s t = ap (λ l. s ∷ l) (settled_root W t)

pub settled-patterns : (W : Vocabulary) (s : ℕ) (l : List Term) → patterns_bytes (settled_vocabulary W) s l ≡ patterns_bytes W s l
settled-patterns W s l = ap (λ w. write_row w l) (fun_ext (settled_writes W s))

pub settled-entries : (W : Vocabulary) (l : List Kinded) → entries_bytes (settled_vocabulary W) l ≡ entries_bytes W l
settled-entries W l = ap (λ w. write_row w l) (fun_ext (λ (k : Kinded). settled_writes W k.kind k.term))

-- ---- holding

module _ (W : Vocabulary) where
  abbrev U : Vocabulary
  U = settled_vocabulary W

  settled-arguments : (f : ℕ) → arguments (signature U) f ≡ arguments (signature W) f
  settled-arguments f = arguments-word U f ∙ settled-kinds W f ∙ sym (arguments-word W f)

  mutual
    pub settled-occurrences : (t : Term) (s : ℕ) → occurrences (signature U) t s ≡ occurrences (signature W) t s
    settled-occurrences any s = refl
    settled-occurrences (var n) s = refl
    settled-occurrences (app f ts) s =
        ap (occurrences_all (signature U) ts) (settled-arguments f) ∙ settled-occurrences_all ts (arguments (signature W) f)

    pub settled-occurrences_all : (ts : Terms) (ks : List ℕ) → occurrences_all (signature U) ts ks ≡ occurrences_all (signature W) ts ks
    settled-occurrences_all nil ks = refl
    settled-occurrences_all (cons t ts) [] = refl
    settled-occurrences_all (cons t ts) (k ∷ ks) = ap₂ (λ l m. l ++ m) (settled-occurrences t k) (settled-occurrences_all ts ks)

  module _ (in_order : InOrder W) (s : ℕ) (t : Term) (h : Sorted (signature W) t s) (e : fruitful (signature W) t ≡ true) where
    -- Over the settled signature the term has its kind, and document 01's listing is what is listed for it.
    fruitful-settled : (listing_of (signature W) s t ≡ listing (signature U) t) × Sorted (signature U) t s
    fruitful-settled =
        subst (λ S. (listing_of (signature W) s t ≡ listing S t) × Sorted S t s) (sym (settled_is_settled W))
        (fruitful-listing (signature W) t s (in_order_well_formed W in_order) h e)

pub settled-good : (W : Vocabulary) (s : ℕ) (t : Term) → InOrder W → GoodTerm W s t → fruitful (signature W) t ≡ true → GoodTerm (settled_vocabulary W) s t
settled-good W s t in_order good e = record {
  kind = good.kind;
  sorted = record {
    sorted = (fruitful-settled W in_order s t good.sorted.sorted e).1;
    consistent = subst Consistent (sym (settled-occurrences W t s)) good.sorted.consistent;
  };
  named = good.named;
}

pub settled-holds : SettledHolds
settled-holds W b s t in_order h e = record {
  good = settled-good W s t in_order h.good e;
  written = h.written ∙ sym (settled_writes W s t);
  limits = h.limits;
}

pub fruitful-leftovers : FruitfulLeftovers
fruitful-leftovers W b s t in_order h e = ap (map (kinded s)) (fruitful-settled W in_order s t h.good.sorted.sorted e).0
