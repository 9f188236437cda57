-- Words: the turn at a word: it stands in the situation too, and its places are due, or there is no filling.
--
--   AtWord x p s spans l ms i j    a word is due first, at level l, and behind it what the marks ms say
--   at-word                        a byte below 128 is a word
--   word-pattern, word-situation   both nodes are there to read
--   word-differs                   another word in the situation: there is no filling
--   word-goes, word-marked         the same word: its arguments are due, as its maps say
--   word-shut                      .. and are shut where its maps are the same
--
use mathlib.Core.Path.{◌≡◌, sym, ap, ap₂, ◌∙◌, subst, subst₂}
use mathlib.Core.Bool.{true, false, false≢true}
use mathlib.Core.List.{List, ◌∷◌, ◌++◌}
use mathlib.Core.Option.{Option, none}
use Prim.Native.Nat.{ℕ, suc, ◌+◌, ◌<◌, ◌≤◌}
use native.Mathlib.Omega.{arith}
use lib.ListN.{length, get_or}
use borrow.Author.Tests.{ne_eqb}
use Rattle.terms.specs.Lists.{All, or_else}
use Rattle.terms.specs.Signature.{arguments}
use Rattle.terms.specs.Term.{Term, any, var, app, Terms, cons, Ground, gapp, Grounds, gcons, SortedAll, as_terms}
use Rattle.terms.specs.Filling.{Filling}
use Rattle.terms.specs.Matcher.{match_all, matcher}
use Rattle.terms.proofs.Bools.{eqb_refl}
use Rattle.terms.proofs.Matcher.{match_app}
use Rattle.wire.specs.Map.{map_bytes}
use Rattle.wire.specs.Vocabulary.{Vocabulary, signature, map_of, InOrder}
use Rattle.wire.specs.TermBytes.{name_count, written_map, encode_all, levels}
use Rattle.wire.specs.Matching.{Inputs, size, span_all}
use Rattle.wire.proofs.Words.{arguments-word}
use Rattle.wire.proofs.FullMap.{full_map_means_no_open_place}
use Rattle.wire.proofs.GroundBytes.{node-bytes, known-word, count-arguments, joined, joined-sorted, joined_bytes}
use Rattle.spans.specs.Frames.{map_at}
use Rattle.spans.specs.Spans.{span_at}
use Rattle.spans.specs.Walking.{Side, Shut}
use Rattle.spans.proofs.Joined.{chained, onward, match_first, match_chained, span-chained, chained-bytes, chained-sorted, chained-names}
use Rattle.spans.proofs.Offsets.{one_byte, Node, node}
use Rattle.spans.proofs.Marks.{Mark, marks, Marked, marked-word, shut-word}
use Rattle.spans.proofs.Side.{Facing, due}

-- ---- a word in the pattern

module _ {x : Inputs} {p s spans : List ℕ} {k : ℕ} {us ts : Terms} {h : ℕ} {hs gs : Grounds} {i j : ℕ}
    (c : Side x p s spans (cons (app k us) ts) (gcons (gapp h hs) gs) i j) where
  abbrev W : Vocabulary
  W = x.vocabulary

  pattern-word : Node p i k (written_map W k us) (encode_all W us ++ encode_all W ts)
  pattern-word = node p i k (written_map W k us) _ c.pattern

  situation-word : InOrder W → Node s j h (map_of W h) (encode_all W (as_terms (joined hs gs)))
  situation-word in_order =
      node s j h (map_of W h) _
      (c.situation ∙ ap (λ l. l ++ encode_all W (as_terms gs)) (node-bytes W in_order h hs (due c).0 (due c).1.1.ground.0)
      ∙ ap {B = List ℕ} (λ l. h ∷ (map_of W h ∷ l)) (sym (joined_bytes W hs gs)))

  words-differ : (k ≡ h → ⊥) → matcher x.pattern x.situation ≡ none
  words-differ d =
      sym c.outcome ∙ match_first (app k us) ts (gapp h hs) gs c.filling
      ∙ ap (λ o. onward o (match_all ts gs)) (ap (λ b. elim b as (λ c. Option Filling) [ true ↦ match_all us hs c.filling | false ↦ none ]) (ne_eqb k h d))

-- The same word in both: its places are due.
module _ {x : Inputs} {p s spans : List ℕ} {k : ℕ} {us ts : Terms} {hs gs : Grounds} {i j : ℕ}
    (c : Side x p s spans (cons (app k us) ts) (gcons (gapp k hs) gs) i j) (in_order : InOrder x.vocabulary) where
  known : k < length x.vocabulary.words
  known = known-word x.vocabulary in_order k hs (due c).0 (due c).1.1.ground.0

  turn_word : Side x p s spans (chained us ts) (joined hs gs) (i + (1 + map_bytes)) (j + (1 + map_bytes))
  turn_word =
      let voc = x.vocabulary in
      let first = (due c).1.1 in
      let args = arguments (signature voc) k in
      record {
        filling = c.filling;
        sorts = args ++ (due c).1.0;
        sorted = chained-sorted (signature voc) us ts args (due c).1.0 first.term.0.2 first.term.1;
        sorted_grounds = joined-sorted (signature voc) hs gs args (due c).1.0 first.ground.0.2 first.ground.1;
        named = subst (All (λ n. n < name_count)) (sym (chained-names us ts)) c.named;
        outcome =
            match_chained (signature voc) us ts hs gs args c.filling first.term.0.2 first.ground.0.2
            ∙ ap (λ o. onward o (match_all ts gs)) (sym (match_app k k us hs c.filling (eqb_refl k)))
            ∙ sym (match_first (app k us) ts (gapp k hs) gs c.filling) ∙ c.outcome;
        pattern = (pattern-word c).behind ∙ sym (chained-bytes voc us ts);
        situation = (situation-word c in_order).behind;
        told = c.told;
        reported = λ n l.
            ap (or_else (span_at spans n))
            (span-chained voc (signature voc) us ts hs gs args n (j + (1 + map_bytes)) first.term.0.2 first.ground.0.2
            ∙ ap₂ (λ a b. or_else (span_all voc us hs n a) (span_all voc ts gs n b))
            (let e : j + (1 + map_bytes) ≡ j + 1 + map_bytes = omega arith in e)
            (let e : j + (1 + map_bytes) + length (encode_all voc (as_terms hs)) ≡ j + size voc (gapp k hs) = omega arith in e))
            ∙ c.reported n l;
        blank = c.blank;
        inside_pattern = (pattern-word c).inside;
        inside_situation = (situation-word c in_order).inside;
        span_entries = c.span_entries;
      }

  turn_marked : (l : ℕ) (ms : List Mark) → levels (app k us) + l ≤ 32 → Marked ts ms →
      Marked (chained us ts) (marks (suc l) (map_of x.vocabulary k) (written_map x.vocabulary k us) ++ ms)
  turn_marked l ms deep rest =
      let voc = x.vocabulary in
      marked-word (signature voc) ts ms rest (suc l) (map_of voc k) us (arguments (signature voc) k) (due c).1.1.term.0.2
      (count-arguments voc in_order k known) (omega arith)

  turn_shut : levels (app k us) ≤ 32 → Shut ts → written_map x.vocabulary k us ≡ map_of x.vocabulary k → Shut (chained us ts)
  turn_shut deep rest full =
      let voc = x.vocabulary in
      let sorted : SortedAll (signature voc) us (arguments (signature voc) k) = (due c).1.1.term.0.2 in
      shut-word us ts ((full_map_means_no_open_place voc k us in_order known (subst (SortedAll (signature voc) us) (arguments-word voc k) sorted)).0 full)
      (omega arith) rest

-- ---- a word that is due

pub record AtWord (x : Inputs) (p s spans : List ℕ) (l : ℕ) (ms : List Mark) (i j : ℕ) : Type 0 where
  pub symbol : ℕ
  pub arguments : Terms
  pub terms : Terms
  pub head : ℕ
  pub parts : Grounds
  pub grounds : Grounds
  pub side : Side x p s spans (cons (app symbol arguments) terms) (gcons (gapp head parts) grounds) i j
  pub deep : levels (app symbol arguments) + l ≤ 32
  pub rest : Marked terms ms

pub at-word : {x : Inputs} {p s spans : List ℕ} {l : ℕ} {ms : List Mark} {i j : ℕ} → Facing x p s spans (record { written = true; level = l }) ms i j →
    get_or p i 0 < 128 → AtWord x p s spans l ms i j
at-word {x} {p} {s} {spans} {l} {ms} {i} {j} f low = go f.term f.ground f.side f.marked
  where
    go : (t : Term) (g : Ground) → Side x p s spans (cons t f.terms) (gcons g f.grounds) i j →
        Marked (cons t f.terms) (record { written = true; level = l } ∷ ms) → AtWord x p s spans l ms i j
    go any g c m = absurd (false≢true m.0)
    go (var n) g c m = absurd (let b = (one_byte p i _ _ c.pattern).first in omega arith)
    go (app k us) (gapp h hs) c m = record {
      symbol = k;
      arguments = us;
      terms = f.terms;
      head = h;
      parts = hs;
      grounds = f.grounds;
      side = c;
      deep = m.1;
      rest = m.2;
    }

module _ {x : Inputs} {p s spans : List ℕ} {l : ℕ} {ms : List Mark} {i j : ℕ} (in_order : InOrder x.vocabulary) (at : AtWord x p s spans l ms i j) where
  pub word-pattern : i + (1 + map_bytes) ≤ length p
  word-pattern = (pattern-word at.side).inside

  pub word-situation : j + (1 + map_bytes) ≤ length s
  word-situation = (situation-word at.side in_order).inside

  pub word-differs : (get_or p i 0 ≡ get_or s j 0 → ⊥) → matcher x.pattern x.situation ≡ none
  word-differs d = words-differ at.side (λ e. d ((pattern-word at.side).first ∙ e ∙ sym (situation-word at.side in_order).first))

  module _ (shared : get_or p i 0 ≡ get_or s j 0) where
    same : at.head ≡ at.symbol
    same = sym (situation-word at.side in_order).first ∙ sym shared ∙ (pattern-word at.side).first

    here : Side x p s spans (cons (app at.symbol at.arguments) at.terms) (gcons (gapp at.symbol at.parts) at.grounds) i j
    here = subst (λ h. Side x p s spans (cons (app at.symbol at.arguments) at.terms) (gcons (gapp h at.parts) at.grounds) i j) same at.side

    written-here : map_at p i ≡ written_map x.vocabulary at.symbol at.arguments
    written-here = (pattern-word at.side).map

    places-here : map_at s j ≡ map_of x.vocabulary at.symbol
    places-here = (situation-word at.side in_order).map ∙ ap (map_of x.vocabulary) same

    pub word-goes : Side x p s spans (chained at.arguments at.terms) (joined at.parts at.grounds) (i + (1 + map_bytes)) (j + (1 + map_bytes))
    word-goes = turn_word here in_order

    pub word-marked : Marked (chained at.arguments at.terms) (marks (suc l) (map_at s j) (map_at p i) ++ ms)
    word-marked =
        subst₂ (λ q w. Marked (chained at.arguments at.terms) (marks (suc l) q w ++ ms)) (sym places-here) (sym written-here)
        (turn_marked here in_order l ms at.deep at.rest)

    pub word-shut : Shut at.terms → map_at p i ≡ map_at s j → Shut (chained at.arguments at.terms)
    word-shut rest full =
        let deep = at.deep in
        turn_shut here in_order (omega arith) rest (sym written-here ∙ full ∙ places-here)
