-- Tabled: the two tests, where the table is that of a vocabulary in order.
--
--   each-other, each-bytes, each_bytes_all   the pass over the bytes of a term meets its words, and no other byte is one
--   each-alone, each-pattern                 .. and so over a whole pattern
--   bears-productive                         a word has another kind than the lowest empty one exactly where it is productive
--   not_lowest, inhabited-word               a kind with a complete situation is not the lowest empty one, and some word has it
--   word-inhabited                           .. and any other kind that some word has is one
--   inhabited_by                             so the test of a kind is exact
--   few_words                                none of the words is cut off
--   fruitful-test, inhabited-test            the two laws
--
use mathlib.Core.Path.{◌≡◌, refl, sym, ap, ap₂, ◌∙◌, subst}
use mathlib.Core.Bool.{Bool, true, false, not, ◌&&◌, and_assoc, and-true, true≢false}
use mathlib.Core.List.{List, [], ◌∷◌, ◌++◌, append_assoc, append-nil}
use mathlib.Core.Logic.{◌↔◌}
use mathlib.Core.Option.{some}
use Prim.Native.Nat.{ℕ, ◌<◌, ◌≤◌, min}
use native.Mathlib.Nat.{min-eq_left}
use native.Mathlib.Omega.{arith}
use lib.Dec.{eqb}
use lib.ListN.{length, get_or}
use lib.Seq.{take_all}
use borrow.Author.Tests.{lt-ltb, le-ltb, eq-eqb, ne_eqb, eqb-true, eqb-false}
use Rattle.terms.specs.Signature.{Signature, arguments, WellFormed}
use Rattle.terms.specs.Term.{Term, any, var, app, Terms, nil, cons, Sorted, SortedAll, SortedG}
use Rattle.terms.specs.Emptiness.{inhabited, first_empty}
use Rattle.terms.specs.Productive.{productive, fruitful, fruitful_all}
use Rattle.terms.proofs.Bools.{and_both, false_of_not}
use Rattle.terms.proofs.Inhabited.{emptiness_is_exact}
use Rattle.terms.proofs.Settled.{inhabited-settled}
use Rattle.wire.specs.Vocabulary.{Vocabulary, InOrder, signature, word, most_words}
use Rattle.wire.specs.TermBytes.{first_name_byte, name_byte, whole_byte, encode_at, encode_all, encode_term, most_bytes}
use Rattle.wire.specs.Settling.{settled_vocabulary}
use Rattle.wire.proofs.Cond.{cond_true, cond_false}
use Rattle.wire.proofs.Words.{length_symbols, in_order_well_formed}
use Rattle.wire.proofs.Settling.{settled-result, settled_barren}
use Rattle.productive.specs.Tests.{settled_to, bears, each_word, some_below, FruitfulTest, InhabitedTest}
use Rattle.productive.proofs.Searching.{some_below-at, below_some}

-- ---- the words of a pattern

module _ (W : Vocabulary) (in_order : InOrder W) (test : ℕ → Bool) (same : (f : ℕ) → f < length W.words → test f ≡ productive (signature W) f) where
  abbrev each : List ℕ → Bool
  each l = each_word (length W.words) test 0 l

  each-other : (b : ℕ) (l : List ℕ) → first_name_byte ≤ b → each (b ∷ l) ≡ each l
  each-other b l high = cond_false _ _ _ (le-ltb b (length W.words) (let few = in_order.few_words in omega arith))

  mutual
    each-bytes : (t : Term) (s : ℕ) → Sorted (signature W) t s → (r : List ℕ) → each (encode_at W t ++ r) ≡ (fruitful (signature W) t && each r)
    each-bytes any s h r = refl
    each-bytes (var n) s h r = each-other (name_byte n) r (omega arith)
    each-bytes (app f ts) s h r =
        let low : f < length W.words = rw (length_symbols W) at h.0 in
        cond_true _ _ _ (lt-ltb f (length W.words) low)
        ∙ ap₂ ◌&&◌ (same f low) (each_bytes_all ts (arguments (signature W) f) h.2 r)
        ∙ sym (and_assoc (productive (signature W) f) (fruitful_all (signature W) ts) (each r))

    each_bytes_all : (ts : Terms) (ks : List ℕ) → SortedAll (signature W) ts ks → (r : List ℕ) →
        each (encode_all W ts ++ r) ≡ (fruitful_all (signature W) ts && each r)
    each_bytes_all nil ks h r = refl
    each_bytes_all (cons t ts) [] h r = absurd h
    each_bytes_all (cons t ts) (k ∷ ks) h r =
        ap each (append_assoc (encode_at W t) (encode_all W ts) r)
        ∙ each-bytes t k h.0 (encode_all W ts ++ r)
        ∙ ap (λ b. fruitful (signature W) t && b) (each_bytes_all ts ks h.1 r)
        ∙ sym (and_assoc (fruitful (signature W) t) (fruitful_all (signature W) ts) (each r))

  each-alone : (t : Term) (s : ℕ) → Sorted (signature W) t s → each (encode_at W t) ≡ fruitful (signature W) t
  each-alone t s h = ap each (sym (append-nil (encode_at W t))) ∙ each-bytes t s h [] ∙ and-true (fruitful (signature W) t)

  -- The kind byte is passed over, and an open place at the root is no word.
  each-pattern : (s : ℕ) (t : Term) → Sorted (signature W) t s → each_word (length W.words) test 1 (encode_term W s t) ≡ fruitful (signature W) t
  each-pattern s any h = each-other whole_byte [] (omega arith)
  each-pattern s (var n) h = each-alone (var n) s h
  each-pattern s (app f ts) h = each-alone (app f ts) s h

-- ---- the table

module _ (W : Vocabulary) (in_order : InOrder W) (e : ℕ) (lowest : first_empty (signature W) ≡ some e) (table : List ℕ)
    (tabled : (f : ℕ) → f < length W.words → get_or table f 0 ≡ (word (settled_vocabulary W) f).result) where
  bears-productive : (f : ℕ) → f < length W.words → bears table e f ≡ productive (signature W) f
  bears-productive f low = go (productive (signature W) f) refl
    where
      barren : (productive (signature W) f ≡ false) ↔ ((word (settled_vocabulary W) f).result ≡ e)
      barren = settled_barren W in_order e lowest f low

      go : (b : Bool) → productive (signature W) f ≡ b → bears table e f ≡ b
      go true z = ap not (ne_eqb (get_or table f 0) e (λ r. true≢false (sym z ∙ barren.1 (sym (tabled f low) ∙ r))))
      go false z = ap not (eq-eqb (get_or table f 0) e (tabled f low ∙ barren.0 z))

  module _ (k : ℕ) where
    abbrev S : Signature
    S = signature W

    abbrev some_word : Bool
    some_word = some_below (length W.words) (settled_to table k)

    well_formed : WellFormed S
    well_formed = in_order_well_formed W in_order

    -- The lowest kind without situations has none.
    not_lowest : inhabited S k ≡ true → k ≡ e → ⊥
    not_lowest i z =
        let exact = emptiness_is_exact S well_formed in
        let g = (exact.ground k).0 i in
        (exact.found e lowest).1 g.0 (subst (SortedG S g.0) z g.1)

    inhabited-word : inhabited S k ≡ true → some_word ≡ true
    inhabited-word i =
        let (f, b, p, r) = (inhabited-settled S well_formed k).0 i in
        let low : f < length W.words = rw (length_symbols W) at b in
        some_below-at (length W.words) (settled_to table k) f low (eq-eqb (get_or table f 0) k (tabled f low ∙ settled-result W f ∙ r))

    word-inhabited : (k ≡ e → ⊥) → some_word ≡ true → inhabited S k ≡ true
    word-inhabited other z =
        let (f, low, c) = below_some (length W.words) (settled_to table k) z in
        let here : get_or table f 0 ≡ k = eqb-true (get_or table f 0) k c in
        (inhabited-settled S well_formed k).1 (
          f,
          subst (λ m. f < m) (sym (length_symbols W)) low,
          sym (bears-productive f low) ∙ ap not (ne_eqb (get_or table f 0) e (λ r. other (sym here ∙ r))),
          sym (settled-result W f) ∙ sym (tabled f low) ∙ here,
        )

    inhabited_by : (b : Bool) → inhabited S k ≡ b → (not (eqb k e) && some_word) ≡ b
    inhabited_by true i = and_both (not (eqb k e)) some_word (ap not (ne_eqb k e (not_lowest i))) (inhabited-word i)
    inhabited_by false i = miss (eqb k e) refl
      where
        miss : (c : Bool) → eqb k e ≡ c → (not c && some_word) ≡ false
        miss true z = refl
        miss false z = false_of_not some_word (λ y. true≢false (sym (word-inhabited (eqb-false k e z) y) ∙ i))

-- ---- the laws

few_words : (W : Vocabulary) → InOrder W → (n : ℕ) → n ≡ length W.words → min n most_words ≡ length W.words
few_words W in_order n counted = min-eq_left (let few = in_order.few_words in omega arith) ∙ counted

pub fruitful-test : FruitfulTest
fruitful-test W in_order e lowest s t good most n table counted tabled =
    ap₂ (λ m p. each_word m (bears table e) 1 p) (few_words W in_order n counted) (take_all most_bytes (encode_term W s t) most)
    ∙ each-pattern W in_order (bears table e) (bears-productive W in_order e lowest table (λ f low. tabled f (omega arith))) s t good.sorted.sorted

pub inhabited-test : InhabitedTest
inhabited-test W in_order e lowest n table counted tabled k =
    ap (λ m. not (eqb k e) && some_below m (settled_to table k)) (few_words W in_order n counted)
    ∙ inhabited_by W in_order e lowest table (λ f low. tabled f (omega arith)) k (inhabited (signature W) k) refl
