-- BookLeftovers: what is computed of list_book's reply and lent slice keeps what list_book promises.
--
--   same-order                a list is its own reordering
--   entries-kept              what holds of the entries of a book that is accepted
--   Answering, decided        a refusal or an answer
--   book_keeps                the reply and the slice that are computed keep the promise
--
use mathlib.Core.Path.{◌≡◌, refl, sym, ap, ◌∙◌, subst}
use mathlib.Core.Bool.{Bool, true, false}
use mathlib.Core.List.{List, [], ◌∷◌, map}
use mathlib.Core.Logic.{◌↔◌, inr}
use mathlib.Core.Option.{Option, some, none}
use Prim.Native.Nat.{ℕ, suc, ◌-◌, ◌<◌, ◌≤◌}
use native.Mathlib.Omega.{arith}
use lib.Dec.{leb}
use lib.ListN.{length, get_or, take, drop, length-append, length-map}
use lib.Seq.{take_all, take_at, drop_at}
use borrow.Author.Tests.{leb-true, leb-false, le-leb, lt-leb}
use Rattle.terms.specs.Lists.{All, Reordered, empty, moved}
use Rattle.terms.specs.Term.{Term, any, names}
use Rattle.terms.specs.Signature.{WellFormed}
use Rattle.terms.specs.Book.{IsBookListing}
use Rattle.terms.specs.Laws.{PatternsOfSort}
use Rattle.terms.proofs.All.{all_implies, all_both, all_map, at_all}
use Rattle.terms.proofs.Theorems.{book_listing_is_one, book_partition, book_strike_out, book_represents, book_entries_are_patterns}
use Rattle.wire.specs.Reply.{Reply, accepted, refused, IsBytes, kinded}
use Rattle.wire.specs.Parser.{Reading, accept, refuse, read_vocabulary}
use Rattle.wire.specs.Vocabulary.{Vocabulary, signature, HoldsVocabulary}
use Rattle.wire.specs.TermBytes.{encode_term, GoodTerm, levels, least_bytes, most_bytes, most_levels, HoldsTerm}
use Rattle.wire.specs.BookBytes.{patterns_bytes, Listable, HoldsBook}
use Rattle.wire.specs.BookLeftovers.{PassesBehind, WithinLimits, BookEntries, BookUnder, of_book, too_large, no_room, BookRefusal}
use Rattle.wire.specs.VocabularyLines.{of_vocabulary, under}
use Rattle.wire.specs.Effect.{Effect}
use Rattle.wire.specs.ListComputed.{listed_into}
use Rattle.wire.specs.BookComputed.{Book, read_book, book_entries, BookJudged, listable, unlistable, judged_book, judged_under, book_judged, book_into, book_with, book_listed}
use Rattle.wire.specs.Laws.{BookKeeps}
use Rattle.wire.proofs.Cond.{cond_true, cond_false, choice}
use Rattle.wire.proofs.Levels.{deepest-bytes}
use Rattle.wire.proofs.AgainstGood.{entry-good}
use Rattle.wire.proofs.Words.{in_order_well_formed}
use Rattle.wire.proofs.VocabulariesInverse.{vocabularies_inverse}
use Rattle.wire.proofs.VocabularyRefusals.{vocabulary_refusals}
use Rattle.wire.proofs.EntriesRead.{GoodKinded, entries-same}
use Rattle.wire.proofs.Leftovers.{patterns-entries, Answer, into_if, answer-of}
use Rattle.wire.proofs.Matching.{not_accepted}
use Rattle.wire.proofs.BooksInverse.{books_inverse}
use Rattle.wire.proofs.BookRefusals.{book_refusals}
use Rattle.wire.proofs.BookLimits.{Found, search, found, past_is, within_is}
use Rattle.wire.proofs.BookLevels.{book_levels}

-- ---- the entries

-- A list is its own reordering.
pub same-order : {A : Type 0} (l : List A) → Reordered l l
same-order [] = empty
same-order (x ∷ l) = moved x [] l l (x ∷ l) refl (same-order l)

-- The patterns of an accepted book, and the listing of it that is computed: there is no other.
module _ {v b : List ℕ} {W : Vocabulary} {s : ℕ} {ts : List Term} (held : HoldsVocabulary v W) (book : HoldsBook W b s ts) where
  pub sorted : PatternsOfSort (signature W) s ts
  sorted = all_implies (Listable W s) _ (λ t h. (h.holds.good.sorted.sorted, h.linear)) ts book.patterns

  pub well_formed : WellFormed (signature W)
  well_formed = in_order_well_formed W held.in_order

  pub the_listing : (l : List Term) → IsBookListing (signature W) s ts l ↔ (l ≡ book_entries W s ts)
  the_listing = book_listing_is_one (signature W) ts s well_formed sorted

module _ (v b : List ℕ) (W : Vocabulary) (s : ℕ) (ts : List Term) (held : HoldsVocabulary v W) (book : HoldsBook W b s ts) (limits : WithinLimits W s ts) where
  abbrev entries : List Term
  entries = book_entries W s ts

  is_listing_lem : IsBookListing (signature W) s ts entries
  is_listing_lem = (the_listing held book entries).1 refl

  -- A book has a pattern, so its kind is one of the vocabulary's.
  kind : (l : List Term) → 1 ≤ length l → All (Listable W s) l → s < W.kinds
  kind [] low h = absurd (omega arith)
  kind (t ∷ l) low h = h.0.holds.good.kind

  good-entries : All (λ e. GoodTerm W s e × (names e ≡ [])) entries
  good-entries =
      all_implies _ _ (λ e h. (entry-good W s e (kind ts book.some book.patterns) (h.0, h.1), h.1)) entries
      (book_entries_are_patterns (signature W) ts s entries (well_formed held book) (sorted held book) is_listing_lem)

  good-kinded : All (GoodKinded W) (map (kinded s) entries)
  good-kinded = all_map (GoodKinded W) (kinded s) entries (all_implies _ (λ e. GoodTerm W s e) (λ e g. g.0) entries good-entries)

  low-entries : All (λ e. levels e ≤ most_levels) entries
  low-entries =
      book_levels (signature W) most_levels s ts
      (all_implies (Listable W s) _ (λ t h. let low = h.holds.limits.levels in omega arith) ts book.patterns)

  abbrev last : ℕ
  last = length ts - 1

  whole : take (suc last) ts ≡ ts
  whole = take_all (suc last) ts (let low = book.some in omega arith)

  not_longer : (n : ℕ) → (most_bytes < n → ⊥) → n ≤ most_bytes
  not_longer n h = omega arith

  -- Behind the last pattern no entry is too long.
  short-entries : All (λ e. length (encode_term W s e) ≤ most_bytes) entries
  short-entries =
      at_all _ any entries
      (λ i below. not_longer (length (encode_term W s (get_or entries i any))) (λ long. limits last (let low = book.some in omega arith) (subst (PassesBehind W s) (sym whole) (entries, is_listing_lem, inr (i, below, long)))))

  each-entry : All (λ e. HoldsTerm W (encode_term W s e) s e × (names e ≡ [])) entries
  each-entry =
      all_implies _ _ entry entries
      (all_both _ _ entries good-entries (all_both _ _ entries low-entries short-entries))
    where
      entry : (e : Term) → (GoodTerm W s e × (names e ≡ [])) × ((levels e ≤ most_levels) × (length (encode_term W s e) ≤ most_bytes)) →
          HoldsTerm W (encode_term W s e) s e × (names e ≡ [])
      entry e ((g, bare), (low, short)) =
          let least : least_bytes ≤ length (encode_term W s e) = omega (arith, deepest-bytes W e) in
          (record { good = g; written = refl; limits = record { least = least; most = short; levels = omega arith } }, bare)

  entries-kept : (n m : ℕ) (after : List ℕ) → length entries ≡ n → m ≤ length after → take m after ≡ patterns_bytes W s entries →
      BookEntries W s ts n m after
  entries-kept n m after count inside written = record {
    entries = entries;
    count = count;
    inside = inside;
    written = written;
    one = λ l long goods e.
        entries-same W held.in_order l (map (kinded s) entries) goods good-kinded (long ∙ sym count ∙ sym (length-map entries (kinded s)))
        (sym e ∙ written ∙ patterns-entries W s entries);
    as_defined = entries;
    is_listing = is_listing_lem;
    fixed = same-order entries;
    each = each-entry;
    once = book_partition (signature W) ts s entries (well_formed held book) (sorted held book) is_listing_lem;
    needed = book_strike_out (signature W) ts s entries (well_formed held book) (sorted held book) is_listing_lem;
    represents = book_represents (signature W) ts s entries (well_formed held book) (sorted held book) is_listing_lem;
  }

-- ---- a refusal or an answer

module _ (v b out : List ℕ) (bv : IsBytes v) (bb : IsBytes b) where
  -- A vocabulary and a book that are accepted, with entries that fit, and the values that answer it.
  abbrev Answering : List ℕ → Type 0
  Answering values =
      (W : Vocabulary) × (s : ℕ) × (ts : List Term) × (l : List Term) × HoldsVocabulary v W × HoldsBook W b s ts × WithinLimits W s ts ×
      IsBookListing (signature W) s ts l × (length (patterns_bytes W s l) ≤ length out) ×
      (values ≡ length l ∷ length (patterns_bytes W s l) ∷ [])

  -- What a reply comes of.
  abbrev Decided : Reply → Type 0
  Decided (accepted values) = Answering values
  Decided (refused n i q) = BookRefusal v b out n i q

  module _ (W : Vocabulary) (x : Book) (held : HoldsVocabulary v W) (book : HoldsBook W b x.kind x.patterns) where
    abbrev left : List Term
    left = book_entries W x.kind x.patterns

    abbrev size : ℕ
    size = length (patterns_bytes W x.kind left)

    is_left : IsBookListing (signature W) x.kind x.patterns left
    is_left = (the_listing held book left).1 refl

    room : WithinLimits W x.kind x.patterns → (c : Bool) → leb size (length out) ≡ c →
        Decided (into_if c out (length left) (patterns_bytes W x.kind left)).reply
    room limits true e = (W, x.kind, x.patterns, left, held, book, limits, is_left, leb-true size (length out) e, refl)
    room limits false e = under W 20 3 size held (no_room x.kind x.patterns left book limits is_left (leb-false size (length out) e))

    past : (o : Option ℕ) → Found W x.kind x.patterns o → Decided (book_into W out x o).reply
    past (some i) h = under W 26 5 i held (too_large x.kind x.patterns i book h)
    past none limits = room limits (leb size (length out)) refl

  decided : Decided (book_listed v b out).reply
  decided = vocabulary (read_vocabulary v) refl
    where
      book : (W : Vocabulary) → read_vocabulary v ≡ accept W → (r : Reading Book) → read_book W b ≡ r → Decided (book_with out (judged_book W r)).reply
      book W e (refuse n q) f =
          let held = (vocabularies_inverse v W bv).0 e in
          under W n 5 q held (of_book n q ((book_refusals W b held.in_order bb n q).0 f))
      book W e (accept x) f =
          let held = (vocabularies_inverse v W bv).0 e in
          let holds = (books_inverse W b x.kind x.patterns held.in_order bb).0 f in
          past W x held holds (search W x.kind x.patterns) (found W x.kind (well_formed held holds) x.patterns (sorted held holds))

      vocabulary : (r : Reading Vocabulary) → read_vocabulary v ≡ r → Decided (book_with out (judged_under b r)).reply
      vocabulary (refuse n q) e = of_vocabulary n q (((vocabulary_refusals v bv).given n q).0 e)
      vocabulary (accept W) e = book W e (read_book W b) refl

  -- The inputs are read again where they are accepted.
  judged : (W : Vocabulary) (s : ℕ) (ts : List Term) → HoldsVocabulary v W → HoldsBook W b s ts →
      book_judged v b ≡ listable W (record { kind = s; patterns = ts })
  judged W s ts held book =
      ap (judged_under b) ((vocabularies_inverse v W bv).1 held)
      ∙ ap (judged_book W) ((books_inverse W b s ts held.in_order bb).1 book)

  -- The reply and the lent slice of a book that is accepted, by the pattern that the search finds.
  listed : (W : Vocabulary) (s : ℕ) (ts : List Term) (o : Option ℕ) → HoldsVocabulary v W → HoldsBook W b s ts → search W s ts ≡ o →
      book_listed v b out ≡ book_into W out (record { kind = s; patterns = ts }) o
  listed W s ts o held book e =
      ap (book_with out) (judged W s ts held book) ∙ ap (book_into W out (record { kind = s; patterns = ts })) e

  -- The reply and the lent slice by whatever is the listing of an accepted book.
  one-listing : (W : Vocabulary) (s : ℕ) (ts l : List Term) → HoldsVocabulary v W → HoldsBook W b s ts → WithinLimits W s ts →
      IsBookListing (signature W) s ts l → book_listed v b out ≡ listed_into out (length l) (patterns_bytes W s l)
  one-listing W s ts l held book limits is_listing =
      listed W s ts none held book (within_is W s (well_formed held book) ts (sorted held book) limits)
      ∙ ap (λ x. listed_into out (length x) (patterns_bytes W s x)) (sym ((the_listing held book l).0 is_listing))

  refused-under : (W : Vocabulary) → HoldsVocabulary v W → {n i q : ℕ} → BookUnder b out W n i q → (book_listed v b out).reply ≡ refused n i q
  refused-under W held (of_book n q d) =
      ap (λ r. (book_with out (judged_under b r)).reply) ((vocabularies_inverse v W bv).1 held)
      ∙ ap (λ r. (book_with out (judged_book W r)).reply) ((book_refusals W b held.in_order bb n q).1 d)
  refused-under W held (too_large s ts i book h) = ap (λ (r : Effect). r.reply) (listed W s ts (some i) held book (past_is W s (well_formed held book) ts (sorted held book) i h))
  refused-under W held (no_room s ts l book limits is_listing short) =
      let n : ℕ = length (patterns_bytes W s l) in
      ap (λ (r : Effect). r.reply) (one-listing W s ts l held book limits is_listing)
      ∙ ap (λ (r : Effect). r.reply) (cond_false (leb n (length out)) _ _ (lt-leb n (length out) short))

  refused_by : {n i q : ℕ} → BookRefusal v b out n i q → (book_listed v b out).reply ≡ refused n i q
  refused_by (of_vocabulary n q d) = ap (λ r. (book_with out (judged_under b r)).reply) (((vocabulary_refusals v bv).given n q).1 d)
  refused_by (under W n i q held d) = refused-under W held d

  answered_by : (values : List ℕ) → Answering values → (book_listed v b out).reply ≡ accepted values
  answered_by values (W, s, ts, l, held, book, limits, is_listing, fits, e) =
      let n : ℕ = length (patterns_bytes W s l) in
      ap (λ (r : Effect). r.reply) (one-listing W s ts l held book limits is_listing)
      ∙ ap (λ (r : Effect). r.reply) (cond_true (leb n (length out)) _ _ (le-leb n (length out) fits))
      ∙ ap accepted (sym e)

  -- Where the reply is accepted, the entries stand in front of what stood there before.
  written_by : (n m : ℕ) → (book_listed v b out).reply ≡ accepted (n ∷ m ∷ []) →
      (W : Vocabulary) (s : ℕ) (ts : List Term) → HoldsVocabulary v W → HoldsBook W b s ts →
      WithinLimits W s ts × Answer out (length (book_entries W s ts)) (patterns_bytes W s (book_entries W s ts)) n m (book_listed v b out).after
  written_by n m e W s ts held book = go (search W s ts) refl (found W s (well_formed held book) ts (sorted held book))
    where
      go : (o : Option ℕ) → search W s ts ≡ o → Found W s ts o →
          WithinLimits W s ts × Answer out (length (book_entries W s ts)) (patterns_bytes W s (book_entries W s ts)) n m (book_listed v b out).after
      go (some i) f h = absurd (not_accepted 26 5 i (n ∷ m ∷ []) (sym (ap (λ (r : Effect). r.reply) (listed W s ts (some i) held book f)) ∙ e))
      go none f limits =
          let known = listed W s ts none held book f in
          let a = answer-of out (length (book_entries W s ts)) (patterns_bytes W s (book_entries W s ts)) n m (sym (ap (λ (r : Effect). r.reply) known) ∙ e) in
          (limits, record { count = a.count; size = a.size; written = ap (λ (r : Effect). r.after) known ∙ a.written })

-- A refusal leaves the lent slice as it was.
refused-kept : (v b out : List ℕ) (n i q : ℕ) → (book_listed v b out).reply ≡ refused n i q → (book_listed v b out).after ≡ out
refused-kept v b out n i q e = judgement (book_judged v b) e
  where
    past : (W : Vocabulary) (x : Book) (o : Option ℕ) → (book_into W out x o).reply ≡ refused n i q → (book_into W out x o).after ≡ out
    past W x (some j) e = refl
    past W x none e =
        choice (λ (l : Effect). l.reply ≡ refused n i q → l.after ≡ out) (leb (length (patterns_bytes W x.kind (book_entries W x.kind x.patterns))) (length out)) _ _
        (λ c e. absurd (not_accepted n i q _ (sym e))) (λ c e. refl) e

    judgement : (j : BookJudged) → (book_with out j).reply ≡ refused n i q → (book_with out j).after ≡ out
    judgement (unlistable m k r) e = refl
    judgement (listable W x) e = past W x (search W x.kind x.patterns) e

pub book_keeps : BookKeeps
book_keeps v b out bv bb = record {
  refuses = λ n i q. ((λ e. subst (Decided v b out bv bb) e (decided v b out bv bb)), refused_by v b out bv bb);
  answered = λ values. ((λ e. subst (Decided v b out bv bb) e (decided v b out bv bb)), answered_by v b out bv bb values);
  entries = λ n m e W s ts held book.
      let (limits, a) = written_by v b out bv bb n m e W s ts held book in
      let l : List ℕ = patterns_bytes W s (book_entries W s ts) in
      entries-kept v b W s ts held book limits n m (book_listed v b out).after a.count
      (let long = ap length a.written ∙ length-append l (drop (length l) out) in let size = a.size in omega arith)
      (ap (take m) a.written ∙ take_at l (drop (length l) out) m a.size);
  behind_last = λ n m e.
      let x : Answering v b out bv bb (n ∷ m ∷ []) = subst (Decided v b out bv bb) e (decided v b out bv bb) in
      let (limits, a) = written_by v b out bv bb n m e x.0 x.1 x.2 x.4 x.5 in
      let l : List ℕ = patterns_bytes x.0 x.1 (book_entries x.0 x.1 x.2) in
      ap (drop m) a.written ∙ drop_at l (drop (length l) out) m a.size ∙ ap (λ k. drop k out) a.size;
  kept = refused-kept v b out;
}
