-- Leftovers: what is computed of list's reply and lent slice keeps what list promises.
--
--   LinearIn, linear_in_lem, in_linear    where a pattern to be listed is accepted
--   pattern-read, read-pattern, pattern_is_one, pattern-listed    what is read and what is written
--   patterns-entries, into_patterns    entries of one kind are written, and answered, as patterns of that kind
--   Listable, Decided, decided    a refusal or an answer
--   list-keeps                the reply and the slice that are computed keep the promise
--
use mathlib.Core.Path.{◌≡◌, refl, sym, ap, ap₂, ◌∙◌, subst}
use mathlib.Core.Bool.{Bool, true, false, cond}
use mathlib.Core.List.{List, [], ◌∷◌, ◌++◌, map}
use mathlib.Core.Logic.{◌↔◌}
use mathlib.Core.Option.{Option, some, none}
use Prim.Native.Nat.{ℕ, ◌≤◌}
use native.Mathlib.Omega.{arith}
use lib.Dec.{leb}
use lib.ListN.{length, take, drop, length-append, length-map}
use lib.Seq.{take_at, drop_at}
use borrow.Author.Tests.{leb-true, leb-false, le-leb, lt-leb}
use Rattle.terms.specs.Lists.{All}
use Rattle.terms.specs.Term.{Term, Linear}
use Rattle.terms.specs.Signature.{WellFormed}
use Rattle.terms.specs.Listing.{IsListing}
use Rattle.terms.specs.Productive.{listing_of}
use Rattle.terms.proofs.All.{all_implies, all_both, all_map}
use Rattle.terms.proofs.Theorems.{listing_is_one, partition, strike_out, listing-represents}
use Rattle.wire.specs.Reply.{Reply, accepted, refused, IsBytes, Kinded, kinded}
use Rattle.wire.specs.Parser.{Reading, accept, refuse, read_vocabulary}
use Rattle.wire.specs.Vocabulary.{Vocabulary, signature, InOrder, HoldsVocabulary}
use Rattle.wire.specs.TermBytes.{encode_term, GoodTerm, deepest, least_bytes, HoldsTerm}
use Rattle.wire.specs.CheckComputed.{checked_term}
use Rattle.wire.specs.PatternLines.{sightings}
use Rattle.wire.specs.ListComputed.{repeated_in, linear_of, linear_in, checked_linear, leftovers_of, listed_into, listed_pattern, listed_vocabulary, listed}
use Rattle.wire.specs.BookBytes.{patterns_bytes}
use Rattle.wire.specs.Leftovers.{HoldsPattern, entries_bytes, Entries, ListUnder, of_pattern, no_room, ListRefusal}
use Rattle.wire.specs.VocabularyLines.{of_vocabulary, under}
use Rattle.wire.specs.Effect.{Effect}
use Rattle.wire.specs.Laws.{PatternIsOne, ListKeeps}
use Rattle.wire.proofs.Cond.{cond_true, cond_false, choice}
use Rattle.wire.proofs.Levels.{deepest-bytes}
use Rattle.wire.proofs.Words.{in_order_well_formed}
use Rattle.wire.proofs.VocabulariesInverse.{vocabularies_inverse, vocabulary_is_one}
use Rattle.wire.proofs.Front.{term_is_one}
use Rattle.wire.proofs.VocabularyRefusals.{vocabulary_refusals}
use Rattle.wire.proofs.LinearRefusals.{linear_refusals}
use Rattle.wire.proofs.Inputs.{checked_in, in_checked}
use Rattle.wire.proofs.Entries.{entries_are_good}
use Rattle.wire.proofs.EntryLevels.{listing-deepest}
use Rattle.wire.proofs.EntriesRead.{GoodKinded, entries-same}
use Rattle.wire.proofs.Matching.{not_accepted}
use Rattle.wire.proofs.Repeats.{unrepeated_is_linear}

-- ---- a pattern to be listed is accepted exactly where it is linear and the writing of a good one within the limits

pub record LinearIn (W : Vocabulary) (b : List ℕ) (s : ℕ) (t : Term) : Type 0 where
  pub term : HoldsTerm W b s t
  pub linear : Linear t

abbrev AcceptedLinear : Vocabulary → List ℕ → Reading Kinded → Type 0
AcceptedLinear W b (refuse n q) = Unit {0}
AcceptedLinear W b (accept x) = LinearIn W b x.kind x.term

linear_in-of : (W : Vocabulary) (b : List ℕ) → InOrder W → IsBytes b → AcceptedLinear W b (checked_linear W b)
linear_in-of W b in_order bytes = go (checked_term W b) refl
  where
    names : (x : Kinded) → HoldsTerm W b x.kind x.term → (o : Option ℕ) → repeated_in [] (sightings W x.term) ≡ o →
        AcceptedLinear W b (linear_of x o)
    names x h (some q) e = tt
    names x h none e = record { term = h; linear = (unrepeated_is_linear W x.term).0 e }

    go : (r : Reading Kinded) → checked_term W b ≡ r → AcceptedLinear W b (linear_in W r)
    go (refuse n q) e = tt
    go (accept x) e = names x (checked_in W b x in_order bytes e) (repeated_in [] (sightings W x.term)) refl

pub linear_in_lem : (W : Vocabulary) (b : List ℕ) (x : Kinded) → InOrder W → IsBytes b → checked_linear W b ≡ accept x → LinearIn W b x.kind x.term
linear_in_lem W b x in_order bytes e = subst (AcceptedLinear W b) e (linear_in-of W b in_order bytes)

pub in_linear : (W : Vocabulary) (b : List ℕ) (x : Kinded) → InOrder W → IsBytes b → LinearIn W b x.kind x.term → checked_linear W b ≡ accept x
in_linear W b x in_order bytes h =
    ap (linear_in W) (in_checked W b x in_order bytes h.term)
    ∙ ap (linear_of x) ((unrepeated_is_linear W x.term).1 h.linear)

-- ---- what is read and what is written

pub pattern-read : (v p : List ℕ) (W : Vocabulary) (x : Kinded) → IsBytes v → IsBytes p →
    read_vocabulary v ≡ accept W → checked_linear W p ≡ accept x → HoldsPattern v p W x.kind x.term
pattern-read v p W x bv bp e f =
    let read = (vocabularies_inverse v W bv).0 e in
    let h = linear_in_lem W p x read.in_order bp f in
    record { vocabulary = read; pattern = h.term; linear = h.linear }

-- A pattern that is accepted is read again.
pub read-pattern : (v p : List ℕ) (W : Vocabulary) (s : ℕ) (t : Term) → IsBytes v → IsBytes p → HoldsPattern v p W s t →
    (read_vocabulary v ≡ accept W) × (checked_linear W p ≡ accept (kinded s t))
read-pattern v p W s t bv bp h = (
  (vocabularies_inverse v W bv).1 h.vocabulary,
  in_linear W p (kinded s t) h.vocabulary.in_order bp (record { term = h.pattern; linear = h.linear }),
)

pub pattern_is_one : PatternIsOne
pattern_is_one v p W W' s s' t t' bv bp h h' =
    let same : W ≡ W' = vocabulary_is_one v W W' bv h.vocabulary h'.vocabulary in
    let one = term_is_one W h.vocabulary.in_order p s s' t t' h.pattern (subst (λ U. HoldsTerm U p s' t') (sym same) h'.pattern) in
    (same, one.0, one.1)

-- The reply and the lent slice of a pattern that is accepted.
pub pattern-listed : (v p out : List ℕ) (W : Vocabulary) (s : ℕ) (t : Term) → IsBytes v → IsBytes p → HoldsPattern v p W s t →
    listed v p out ≡ listed_into out (length (leftovers_of W s t)) (entries_bytes W (leftovers_of W s t))
pattern-listed v p out W s t bv bp h =
    let r = read-pattern v p W s t bv bp h in
    ap (listed_vocabulary p out) r.0 ∙ ap (listed_pattern W out) r.1

-- ---- an answer

-- Where the entries are written, they are as many and as long as answered.
pub record Answer (out : List ℕ) (n : ℕ) (b : List ℕ) (n' m : ℕ) (after : List ℕ) : Type 0 where
  pub count : n ≡ n'
  pub size : length b ≡ m
  pub written : after ≡ b ++ drop (length b) out

-- The lent slice and the reply by the test for room.
abbrev pub into_if : Bool → List ℕ → ℕ → List ℕ → Effect
into_if c out n b =
    cond c
    (record { reply = accepted (n ∷ length b ∷ []); after = b ++ drop (length b) out })
    (record { reply = refused 20 3 (length b); after = out })

pub answer-of : (out : List ℕ) (n : ℕ) (b : List ℕ) (n' m : ℕ) → (listed_into out n b).reply ≡ accepted (n' ∷ m ∷ []) →
    Answer out n b n' m (listed_into out n b).after
answer-of out n b n' m e = go (leb (length b) (length out)) refl e
  where
    go : (c : Bool) → leb (length b) (length out) ≡ c → (into_if c out n b).reply ≡ accepted (n' ∷ m ∷ []) →
        Answer out n b n' m (into_if c out n b).after
    go true h e = record { count = cc; size = cc; written = refl }
    go false h e = absurd (not_accepted 20 3 (length b) (n' ∷ m ∷ []) e)

-- ---- the entries

pub patterns-entries : (W : Vocabulary) (s : ℕ) (l : List Term) → patterns_bytes W s l ≡ entries_bytes W (map (kinded s) l)
patterns-entries W s [] = refl
patterns-entries W s (t ∷ l) = ap (λ z. encode_term W s t ++ z) (patterns-entries W s l)

into_patterns : (W : Vocabulary) (s : ℕ) (l : List Term) (out : List ℕ) →
    listed_into out (length (map (kinded s) l)) (entries_bytes W (map (kinded s) l)) ≡ listed_into out (length l) (patterns_bytes W s l)
into_patterns W s l out = ap₂ (listed_into out) (length-map l (kinded s)) (sym (patterns-entries W s l))

module _ (v p : List ℕ) (W : Vocabulary) (s : ℕ) (t : Term) (h : HoldsPattern v p W s t) where
  abbrev entries : List Term
  entries = listing_of (signature W) s t

  abbrev bytes : List ℕ
  bytes = entries_bytes W (leftovers_of W s t)

  in_order : InOrder W
  in_order = h.vocabulary.in_order

  well_formed : WellFormed (signature W)
  well_formed = in_order_well_formed W in_order

  -- What is computed is the listing, and there is no other.
  pub the_listing : (l : List Term) → IsListing (signature W) s t l ↔ (l ≡ entries)
  the_listing = listing_is_one (signature W) t s well_formed h.pattern.good.sorted.sorted h.linear

  pub is_listing_lem : IsListing (signature W) s t entries
  is_listing_lem = (the_listing entries).1 refl

  good-entries : All (λ e. GoodTerm W s e × Linear e × (length (encode_term W s e) ≤ length (encode_term W s t))) entries
  good-entries = entries_are_good W s t h.pattern.good h.linear entries is_listing_lem

  good-kinded : All (GoodKinded W) (leftovers_of W s t)
  good-kinded = all_map (GoodKinded W) (kinded s) entries (all_implies _ (λ e. GoodTerm W s e) (λ e g. g.0) entries good-entries)

  each-entry : All (λ e. HoldsTerm W (encode_term W s e) s e × Linear e × (length (encode_term W s e) ≤ length p)) entries
  each-entry = all_implies Known _ entry entries (all_both _ _ entries good-entries (listing-deepest (signature W) s t is_listing_lem))
    where
      Known : Term → Type 0
      Known e = (GoodTerm W s e × Linear e × (length (encode_term W s e) ≤ length (encode_term W s t))) × (deepest e ≤ deepest t)

      entry : (e : Term) → Known e → HoldsTerm W (encode_term W s e) s e × Linear e × (length (encode_term W s e) ≤ length p)
      entry e ((good, alone, short), deep) =
          let same : length p ≡ length (encode_term W s t) = ap length h.pattern.written in
          let limits = h.pattern.limits in
          let most = limits.most in
          let low = limits.levels in
          let least : least_bytes ≤ length (encode_term W s e) = omega (arith, deepest-bytes W e) in
          (record { good = good; written = refl; limits = record { least = least; most = omega arith; levels = omega arith } }, alone, omega arith)

  entries-kept : (n m : ℕ) (after : List ℕ) → length (leftovers_of W s t) ≡ n → m ≤ length after → take m after ≡ bytes →
      Entries W s t p n m after
  entries-kept n m after count inside written = record {
    entries = entries;
    count = sym (length-map entries (kinded s)) ∙ count;
    inside = inside;
    written = written ∙ sym (patterns-entries W s entries);
    one = λ l long good e. entries-same W in_order l (leftovers_of W s t) good good-kinded (long ∙ sym count) (sym e ∙ written);
    order = is_listing_lem;
    each = each-entry;
    once = partition (signature W) t s entries well_formed h.pattern.good.sorted.sorted h.linear is_listing_lem;
    needed = strike_out (signature W) t s entries well_formed h.pattern.good.sorted.sorted h.linear is_listing_lem;
    represents = listing-represents (signature W) t s entries well_formed h.pattern.good.sorted.sorted h.linear is_listing_lem;
  }

-- ---- a refusal or an answer

module _ (v p out : List ℕ) (bv : IsBytes v) (bp : IsBytes p) where
  -- A vocabulary and a pattern that are accepted, with a listing that fits, and the values that answer it.
  abbrev pub Listable : List ℕ → Type 0
  Listable values =
      (W : Vocabulary) × (s : ℕ) × (t : Term) × (l : List Term) × HoldsPattern v p W s t × IsListing (signature W) s t l ×
      (length (patterns_bytes W s l) ≤ length out) × (values ≡ length l ∷ length (patterns_bytes W s l) ∷ [])

  -- What a reply comes of.
  abbrev pub Decided : Reply → Type 0
  Decided (accepted values) = Listable values
  Decided (refused n i q) = ListRefusal v p out n i q

  pub decided : Decided (listed v p out).reply
  decided = vocabulary (read_vocabulary v) refl
    where
      room : (W : Vocabulary) (s : ℕ) (t : Term) → HoldsPattern v p W s t → (l : List Term) → IsListing (signature W) s t l →
          (c : Bool) → leb (length (patterns_bytes W s l)) (length out) ≡ c →
          Decided (into_if c out (length l) (patterns_bytes W s l)).reply
      room W s t h l is_listing true e = (W, s, t, l, h, is_listing, leb-true (length (patterns_bytes W s l)) (length out) e, refl)
      room W s t h l is_listing false e =
          under W 20 3 _ h.vocabulary
          (no_room s t l h.pattern h.linear is_listing (leb-false (length (patterns_bytes W s l)) (length out) e))

      pattern : (W : Vocabulary) → read_vocabulary v ≡ accept W → (r : Reading Kinded) → checked_linear W p ≡ r →
          Decided (listed_pattern W out r).reply
      pattern W e (refuse n q) f =
          let held = (vocabularies_inverse v W bv).0 e in
          under W n 1 q held (of_pattern n q (((linear_refusals W p held.in_order bp).given n q).0 f))
      pattern W e (accept x) f =
          let h = pattern-read v p W x bv bp e f in
          let l : List Term = listing_of (signature W) x.kind x.term in
          subst (λ (r : Effect). Decided r.reply) (sym (into_patterns W x.kind l out))
          (room W x.kind x.term h l (is_listing_lem v p W x.kind x.term h) (leb _ (length out)) refl)

      vocabulary : (r : Reading Vocabulary) → read_vocabulary v ≡ r → Decided (listed_vocabulary p out r).reply
      vocabulary (refuse n q) e = of_vocabulary n q (((vocabulary_refusals v bv).given n q).0 e)
      vocabulary (accept W) e = pattern W e (checked_linear W p) refl

  -- The reply and the lent slice by whatever is the listing of an accepted pattern.
  one-listing : (W : Vocabulary) (s : ℕ) (t : Term) → HoldsPattern v p W s t → (l : List Term) → IsListing (signature W) s t l →
      listed v p out ≡ listed_into out (length l) (patterns_bytes W s l)
  one-listing W s t h l is_listing =
      pattern-listed v p out W s t bv bp h
      ∙ into_patterns W s (listing_of (signature W) s t) out
      ∙ ap (λ x. listed_into out (length x) (patterns_bytes W s x)) (sym ((the_listing v p W s t h l).0 is_listing))

  refused-under : (W : Vocabulary) → HoldsVocabulary v W → {n i q : ℕ} → ListUnder p out W n i q → (listed v p out).reply ≡ refused n i q
  refused-under W held (of_pattern n q d) =
      ap (λ r. (listed_vocabulary p out r).reply) ((vocabularies_inverse v W bv).1 held)
      ∙ ap (λ r. (listed_pattern W out r).reply) (((linear_refusals W p held.in_order bp).given n q).1 d)
  refused-under W held (no_room s t l h linear is_listing short) =
      let pattern : HoldsPattern v p W s t = record { vocabulary = held; pattern = h; linear = linear } in
      let b : List ℕ = patterns_bytes W s l in
      ap (λ (r : Effect). r.reply) (one-listing W s t pattern l is_listing)
      ∙ ap (λ (r : Effect). r.reply) (cond_false (leb (length b) (length out)) _ _ (lt-leb (length b) (length out) short))

  refused_by : {n i q : ℕ} → ListRefusal v p out n i q → (listed v p out).reply ≡ refused n i q
  refused_by (of_vocabulary n q d) = ap (λ r. (listed_vocabulary p out r).reply) (((vocabulary_refusals v bv).given n q).1 d)
  refused_by (under W n i q held d) = refused-under W held d

  answered_by : (values : List ℕ) → Listable values → (listed v p out).reply ≡ accepted values
  answered_by values (W, s, t, l, h, is_listing, fits, e) =
      let b : List ℕ = patterns_bytes W s l in
      ap (λ (r : Effect). r.reply) (one-listing W s t h l is_listing)
      ∙ ap (λ (r : Effect). r.reply) (cond_true (leb (length b) (length out)) _ _ (le-leb (length b) (length out) fits))
      ∙ ap accepted (sym e)

  -- Where the reply is accepted, the entries stand in front of what stood there before.
  written_by : (n m : ℕ) → (listed v p out).reply ≡ accepted (n ∷ m ∷ []) →
      (W : Vocabulary) (s : ℕ) (t : Term) → HoldsPattern v p W s t →
      Answer out (length (leftovers_of W s t)) (entries_bytes W (leftovers_of W s t)) n m (listed v p out).after
  written_by n m e W s t h =
      let known = pattern-listed v p out W s t bv bp h in
      let a = answer-of out (length (leftovers_of W s t)) (entries_bytes W (leftovers_of W s t)) n m (sym (ap (λ (r : Effect). r.reply) known) ∙ e) in
      record { count = a.count; size = a.size; written = ap (λ (r : Effect). r.after) known ∙ a.written }

-- A refusal leaves the lent slice as it was.
refused-kept : (v p out : List ℕ) (n i q : ℕ) → (listed v p out).reply ≡ refused n i q → (listed v p out).after ≡ out
refused-kept v p out n i q e = vocabulary (read_vocabulary v) e
  where
    pattern : (W : Vocabulary) (r : Reading Kinded) → (listed_pattern W out r).reply ≡ refused n i q → (listed_pattern W out r).after ≡ out
    pattern W (refuse m r) e = refl
    pattern W (accept x) e =
        choice (λ (l : Effect). l.reply ≡ refused n i q → l.after ≡ out) (leb (length (entries_bytes W (leftovers_of W x.kind x.term))) (length out)) _ _
        (λ c e. absurd (not_accepted n i q _ (sym e))) (λ c e. refl) e

    vocabulary : (r : Reading Vocabulary) → (listed_vocabulary p out r).reply ≡ refused n i q → (listed_vocabulary p out r).after ≡ out
    vocabulary (refuse m r) e = refl
    vocabulary (accept W) e = pattern W (checked_linear W p) e

pub list-keeps : ListKeeps
list-keeps v p out bv bp = record {
  refuses = λ n i q. ((λ e. subst (Decided v p out bv bp) e (decided v p out bv bp)), refused_by v p out bv bp);
  answered = λ values. ((λ e. subst (Decided v p out bv bp) e (decided v p out bv bp)), answered_by v p out bv bp values);
  entries = λ n m e W s t h.
      let a = written_by v p out bv bp n m e W s t h in
      let b : List ℕ = entries_bytes W (leftovers_of W s t) in
      entries-kept v p W s t h n m (listed v p out).after a.count
      (let long = ap length a.written ∙ length-append b (drop (length b) out) in let size = a.size in omega arith)
      (ap (take m) a.written ∙ take_at b (drop (length b) out) m a.size);
  behind_last = λ n m e.
      let x : Listable v p out bv bp (n ∷ m ∷ []) = subst (Decided v p out bv bp) e (decided v p out bv bp) in
      let a = written_by v p out bv bp n m e x.0 x.1 x.2 x.4 in
      let b : List ℕ = entries_bytes x.0 (leftovers_of x.0 x.1 x.2) in
      ap (drop m) a.written ∙ drop_at b (drop (length b) out) m a.size ∙ ap (λ k. drop k out) a.size;
  kept = refused-kept v p out;
}
