-- Pairs: a situation that agrees with a pattern is in order where its parts are.
--
--   no-openings            a term whose maps are full has no open place
--   chosen_not, part_not, parts_not    a test that says no promises nothing
--   part_made, part_spanned    a value that ends where its span does is a part, and so is the part of a name
--   parts_none, parts_more the parts of no name, and of one name more
--   second_refused, second_whole, second_short    the reply by what reading the situation tells
--   first-refused, first_read    the same by what reading the pattern tells
--   told-levels            a pattern that is read has at most 32 levels
--   spliced-read, spliced-whole    the reply where the situation's parts are read, and where there are none
--
use mathlib.Core.Path.{◌≡◌, refl, sym, ap, ap₂, subst, ◌∙◌}
use mathlib.Core.Bool.{Bool, true, false, true≢false, false≢true}
use mathlib.Core.List.{List, [], ◌∷◌, ◌++◌}
use mathlib.Core.Option.{Option, some, none}
use Prim.Native.Nat.{ℕ, suc, ◌+◌, ◌-◌, ◌*◌, ◌<◌, ◌≤◌}
use native.Mathlib.Omega.{arith}
use borrow.Author.Count.{below_more}
use lib.ListN.{length, get_or, take, drop}
use Rattle.terms.specs.Lists.{occurs}
use Rattle.terms.specs.Term.{names as names_of}
use Rattle.terms.specs.Term.{Term, any, var, app, Terms, nil, cons, Ground, as_term, occurrences, sort_in, openings, openings_all}
use Rattle.terms.proofs.Bools.{or_parts}
use Rattle.terms.proofs.Ground.{ground-names}
use Rattle.wire.specs.Reply.{IsBytes, Reply, accepted, refused, Kinded}
use Rattle.wire.specs.Map.{is_open}
use Rattle.wire.specs.Vocabulary.{Vocabulary, signature, InOrder}
use Rattle.wire.specs.TermBytes.{name_count, encode_at, word_count, most_levels, complete}
use Rattle.wire.specs.Parser.{Reading, accept, refuse}
use Rattle.wire.specs.GapComputed.{some_open, first_gap, gap_or}
use Rattle.wire.specs.CheckComputed.{checked_term}
use Rattle.wire.specs.SituationComputed.{situation_of, situation_in}
use Rattle.wire.specs.Scan.{has_short, some_short}
use Rattle.wire.specs.Splicing.{Agrees, PartStands}
use Rattle.wire.proofs.Inputs.{checked_in}
use Rattle.wire.proofs.Cond.{cond_true, cond_false}
use Rattle.wire.proofs.Splicing.{spliced-situation}
use Rattle.wire.proofs.Theorems.{complete_is_ground}
use Rattle.wire.proofs.VocabulariesInverse.{accept-same}
use Rattle.signature.specs.Tables.{vocabulary_in}
use Rattle.reader.specs.Answers.{term_refused}
use Rattle.reader.specs.Fillings.{ValueEnds}
use Rattle.reader.specs.Names.{listed, TableOf}
use Rattle.reader.specs.Nodes.{number_of, place_of}
use Rattle.reader.specs.Pairs.{both_told, ByParts, Chosen, Part, PartRead, PartsRead}
use Rattle.reader.specs.Whole.{no_gap, extent_of, told_by, told}
use Rattle.reader.specs.declared.refusal.TermRefusal.{TermRefusal}
use Rattle.reader.specs.declared.whole.Extent.{Extent}
use Rattle.reader.proofs.NameTables.{refuse_never}
use Rattle.reader.proofs.Told.{refusal-reply, complete-told}

-- ---- full maps

mutual
  pub no-openings : (t : Term) → is_open t ≡ false → has_short t ≡ false → openings t ≡ 0
  no-openings any e h = absurd (true≢false e)
  no-openings (var n) e h = refl
  no-openings (app f ts) e h = let none = or_parts (some_open ts) (some_short ts) h in none_open ts none.0 none.1

  none_open : (ts : Terms) → some_open ts ≡ false → some_short ts ≡ false → openings_all ts ≡ 0
  none_open nil e h = refl
  none_open (cons t ts) e h =
      let closed = or_parts (is_open t) (some_open ts) e in
      let full = or_parts (has_short t) (some_short ts) h in
      omega (arith, no-openings t closed.0 full.0, none_open ts closed.1 full.1)

-- ---- parts

pub chosen_not : (agreed : Bool) (x : Extent) (n : ℕ) → Chosen agreed x n false
chosen_not agreed x n e = absurd (false≢true e)

pub part_not : (v s : List ℕ) (from n k deepest : ℕ) → PartRead v s from n k deepest false
part_not v s from n k deepest e = absurd (false≢true e)

pub parts_not : (v s names spans : List ℕ) (deepest : ℕ) → PartsRead v s names spans deepest false
parts_not v s names spans deepest e = absurd (false≢true e)

front_taken : (l r : List ℕ) → take (length l) (l ++ r) ≡ l
front_taken [] r = refl
front_taken (x ∷ l) r = ap (λ l. x ∷ l) (front_taken l r)

pub part_made : {v s : List ℕ} {from n k end deep : ℕ} (deepest : ℕ) → ValueEnds v s from k end deep → end ≡ from + n → deepest + deep ≤ 33 → Part v s from n k (suc most_levels - deepest)
part_made {v} {s} {from} {n} {k} {end} {deep} deepest x e h =
    let l : List ℕ = encode_at (vocabulary_in v) (as_term x.value) in
    let size : n ≡ length l = omega (arith, x.span) in
    record {
      value = x.value;
      sorted = x.sorted;
      bytes = ap₂ take size x.bytes ∙ front_taken l (drop end s);
      shallow = omega (arith, x.reached);
    }

-- The part at the span that a table gives a name.
pub part_spanned : {v s : List ℕ} (spans : List ℕ) (n : ℕ) {from bytes k most : ℕ} → from ≡ get_or spans (2 * n) 0 → bytes ≡ get_or spans (2 * n + 1) 0 →
    Part v s from bytes k most → PartStands (vocabulary_in v) s spans k n most
part_spanned {v} {s} spans n e h x = record {
  value = x.value;
  sorted = x.sorted;
  bytes = ap₂ (λ from bytes. take bytes (drop from s)) (sym e) (sym h) ∙ x.bytes;
  shallow = x.shallow;
}

abbrev pub PartsTo : List ℕ → List ℕ → List ℕ → List ℕ → ℕ → ℕ → Type 0
PartsTo v s names spans deepest n =
    (m : ℕ) → m < n → listed names m ≡ true → PartStands (vocabulary_in v) s spans (get_or names m 0) m (suc most_levels - deepest)

pub parts_none : (v s names spans : List ℕ) (deepest : ℕ) → PartsTo v s names spans deepest 0
parts_none v s names spans deepest m h = absurd (omega arith)

pub parts_more : (v s names spans : List ℕ) (deepest n : ℕ) → PartsTo v s names spans deepest n →
    (listed names n ≡ true → PartStands (vocabulary_in v) s spans (get_or names n 0) n (suc most_levels - deepest)) → PartsTo v s names spans deepest (n + 1)
parts_more v s names spans deepest n before here = below_more _ n before here

-- ---- the situation

module _ (W : Vocabulary) (s : List ℕ) (x : Extent) where
  pub second_refused : (why : TermRefusal) → refuse (number_of why) (place_of why) ≡ told W s → term_refused 2 why ≡ both_told (accept x) (told W s)
  second_refused why e = refusal-reply 2 why ∙ ap (both_told (accept x)) e

  module _ (y : Extent) (e : accept y ≡ told W s) where
    pub second_whole : y.complete ≡ true → accepted [] ≡ both_told (accept x) (told W s)
    second_whole h = sym (cond_true y.complete (accepted []) (refused 16 2 y.gap) h) ∙ ap (both_told (accept x)) e

    pub second_short : y.complete ≡ false → refused 16 2 y.gap ≡ both_told (accept x) (told W s)
    second_short h = sym (cond_false y.complete (accepted []) (refused 16 2 y.gap) h) ∙ ap (both_told (accept x)) e

-- ---- both

module _ (W : Vocabulary) (p s : List ℕ) where
  pub first-refused : (why : TermRefusal) → refuse (number_of why) (place_of why) ≡ told W p → term_refused 1 why ≡ both_told (told W p) (told W s)
  first-refused why e = refusal-reply 1 why ∙ ap (λ r. both_told r (told W s)) e

  pub first_read : (x : Extent) {r : Reply} → accept x ≡ told W p → r ≡ both_told (accept x) (told W s) → r ≡ both_told (told W p) (told W s)
  first_read x e h = h ∙ ap (λ z. both_told z (told W s)) e

-- A situation that is accepted as complete tells so.
situation-told : (W : Vocabulary) (s : List ℕ) (k : ℕ) (x : Extent) (g : Ground) (r : Reading Kinded) → situation_in W k r ≡ accept g →
    accepted [] ≡ both_told (accept x) (told_by W (length s) r)
situation-told W s k x g (refuse n q) e = absurd (refuse_never e)
situation-told W s k x g (accept j) e = go (first_gap W j.term) refl e
  where
    go : (o : Option ℕ) → first_gap W j.term ≡ o → situation_of k j o ≡ accept g → accepted [] ≡ both_told (accept x) (accept (extent_of W (length s) j))
    go (some q) h e = absurd (refuse_never e)
    go none h e = ap (λ o. both_told (accept x) (accept (record {
      words = (extent_of W (length s) j).words;
      deepest = (extent_of W (length s) j).deepest;
      complete = no_gap o;
      gap = gap_or (length s) o;
      short = (extent_of W (length s) j).short;
    }))) (sym h)

some_words : (t : Term) → 0 < word_count t → is_open t ≡ false
some_words any h = absurd (omega arith)
some_words (var n) h = refl
some_words (app f ts) h = refl

pub told-levels : {W : Vocabulary} (p : List ℕ) {x : Extent} → InOrder W → IsBytes p → accept x ≡ told W p → x.deepest ≤ 32
told-levels {W} p {x} in_order bytes e = go (checked_term W p) refl e
  where
    go : (c : Reading Kinded) → checked_term W p ≡ c → accept x ≡ told_by W (length p) c → x.deepest ≤ 32
    go (refuse n q) f h = absurd (refuse_never (sym h))
    go (accept k) f h = omega (arith, ap (λ y. y.deepest) (accept-same x (extent_of W (length p) k) h), (checked_in W p k in_order bytes f).limits.levels)

pub spliced-read : {W : Vocabulary} {p s spans names : List ℕ} (x : Extent) → InOrder W → IsBytes p → IsBytes s → accept x ≡ told W p →
    ((k : Kinded) → checked_term W p ≡ accept k → TableOf W k.kind k.term names) → Agrees p s spans → {agreed : Bool} → ByParts agreed x (length s) →
    ((n : ℕ) → n < name_count → listed names n ≡ true → PartStands W s spans (get_or names n 0) n (suc most_levels - x.deepest)) →
    accepted [] ≡ both_told (told W p) (told W s)
spliced-read {W} {p} {s} {spans} {names} x in_order bytes_p bytes_s e table agrees chosen parts = go (checked_term W p) refl e
  where
    go : (c : Reading Kinded) → checked_term W p ≡ c → accept x ≡ told_by W (length p) c → accepted [] ≡ both_told (told_by W (length p) c) (told W s)
    go (refuse n q) f h = absurd (refuse_never (sym h))
    go (accept k) f h =
        let same : x ≡ extent_of W (length p) k = accept-same x (extent_of W (length p) k) h in
        let held = checked_in W p k in_order bytes_p f in
        let closed = some_words k.term (subst (λ n. 0 < n) (ap (λ y. y.words) same) chosen.some) in
        let full : has_short k.term ≡ false = sym (ap (λ y. y.short) same) ∙ chosen.full in
        let tabled = table k f in
        let situation = spliced-situation in_order bytes_s held (no-openings k.term closed full) agrees chosen.most
        (λ n h o. subst (λ (d : ℕ). PartStands W s spans (sort_in (occurrences (signature W) k.term k.kind) n) n (suc most_levels - d)) (ap (λ y. y.deepest) same)
        (subst (λ (j : ℕ). PartStands W s spans j n (suc most_levels - x.deepest)) (tabled.kinds n h o) (parts n h (tabled.stands n h ∙ o)))) in
        situation-told W s k.kind (extent_of W (length p) k) situation.0 (checked_term W s) situation.1

-- A complete pattern has no names, and so the situation has no parts.
pub spliced-whole : {W : Vocabulary} {p s spans names : List ℕ} (x : Extent) → InOrder W → IsBytes p → IsBytes s → accept x ≡ told W p →
    ((k : Kinded) → checked_term W p ≡ accept k → TableOf W k.kind k.term names) → Agrees p s spans → {agreed : Bool} → ByParts agreed x (length s) →
    x.complete ≡ true → accepted [] ≡ both_told (told W p) (told W s)
spliced-whole {W} {p} {s} {spans} {names} x in_order bytes_p bytes_s e table agrees chosen whole =
    spliced-read x in_order bytes_p bytes_s e table agrees chosen (λ n h o. absurd (go (checked_term W p) refl e n h o))
  where
    go : (c : Reading Kinded) → checked_term W p ≡ c → accept x ≡ told_by W (length p) c → (n : ℕ) → n < name_count → listed names n ≡ true → ⊥
    go (refuse i q) f g n h o = absurd (refuse_never (sym g))
    go (accept k) f g n h o =
        let same : x ≡ extent_of W (length p) k = accept-same x (extent_of W (length p) k) g in
        let held = checked_in W p k in_order bytes_p f in
        let full : complete k.term ≡ true = sym (complete-told W k.term) ∙ sym (ap (λ y. y.complete) same) ∙ whole in
        let ground = (complete_is_ground W k.kind k.term held.good.kind).0 (held.good, full) in
        let none : names_of k.term ≡ [] = ap names_of ground.2 ∙ ground-names ground.0 in
        true≢false (sym o ∙ (table k f).stands n h ∙ ap (occurs n) none)
