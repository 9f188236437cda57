-- Taking: what is left behind a pattern, by the settled vocabulary or as it was.
--
--   together-patterns      entries one behind the other are a row of patterns
--   area-full, area-left   an area has no room, or is copied
--   settled-tables         the table of siblings is the settled vocabulary's
--   settled-entry, settled-pattern    entries, and patterns all of whose words are productive, are such under it too
--   settled_leaves         .. and what they leave there is what is left
--   told                   the test tells whether all words of the pattern are productive
--   settled-area           the area and the pattern under the settled vocabulary
--   struck_taken           so a pattern whose words are all productive is taken by striking
--   left_taken             .. and any other leaves the entries as they are
--
use mathlib.Core.Path.{◌≡◌, refl, sym, ap, ◌∙◌, subst, fun_ext}
use mathlib.Core.Bool.{true, false}
use mathlib.Core.List.{List, [], ◌∷◌, ◌++◌, map}
use Prim.Native.Nat.{ℕ, ◌+◌, ◌<◌, ◌≤◌}
use native.Mathlib.Nat.{min-eq_left}
use native.Mathlib.Omega.{arith}
use lib.ListN.{length, length-map}
use Rattle.terms.specs.Lists.{All}
use Rattle.terms.specs.Term.{Term, Sorted}
use Rattle.terms.specs.Book.{against}
use Rattle.terms.specs.Productive.{fruitful, BookEntry}
use Rattle.terms.specs.Emptiness.{inhabited}
use Rattle.terms.proofs.All.{all_implies, all_map}
use Rattle.terms.proofs.Bools.{and_parts}
use Rattle.terms.proofs.Settled.{fruitful-listing}
use Rattle.terms.proofs.BookTurns.{fruitful_turn, barren_turn}
use Rattle.wire.specs.Vocabulary.{Vocabulary, signature, most_words}
use Rattle.wire.specs.TermBytes.{encode_term, most_bytes}
use Rattle.wire.specs.BookBytes.{patterns_bytes, Listable}
use Rattle.wire.specs.Settling.{settled_vocabulary}
use Rattle.wire.proofs.Words.{in_order_well_formed}
use Rattle.wire.proofs.Settling.{settled-count, settled_is_settled, settled-in_order, settled_writes, settled-patterns}
use Rattle.slices.specs.Copied.{copied}
use Rattle.slices.specs.Written.{Written}
use Rattle.slices.proofs.Copying.{copied-whole}
use Rattle.kinds.specs.Kinds.{SiblingTable}
use Rattle.others.specs.Listed.{together}
use Rattle.signature.specs.Tables.{Tabled}
use Rattle.std.specs.Prelude.{Option}
use Rattle.cuts.specs.Entries.{EntryOf, PatternOf, TablesOf}
use Rattle.strikes.specs.Calls.{Struck, leaving, full, LeftOf, leaves_of, AreaAt, StrikesArea}
use Rattle.takes.specs.Told.{fruitful_by}
use Rattle.takes.specs.Taking.{ListingTables, BookEntryOf, behind_bytes, TakeAt, TakesPattern, LeavesArea}
use Rattle.takes.proofs.Tests.{fruitful-told}

pub together-patterns : (W : Vocabulary) (s : ℕ) (l : List Term) → together (map (encode_term W s) l) ≡ patterns_bytes W s l
together-patterns W s [] = refl
together-patterns W s (t ∷ l) = ap (λ z. encode_term W s t ++ z) (together-patterns W s l)

-- ---- an area that stays

module _ (area : List ℕ) (entries : ℕ) (before : List ℕ) where
  pub area-full : length before < length area → LeavesArea area entries before before full
  area-full less ls e count short f = let a = f.all in let l = ap length e in omega arith

  pub area-left : length area ≤ length before → {after : List ℕ} → after ≡ copied area before → LeavesArea area entries before after (leaving (length area) entries)
  area-left room {after} c ls e count short = record {
    listed = record {
      fits = record { each = short; all = let l = ap length e in omega arith };
      written = subst (λ b. Written b before (length area) after) e (record { count = refl; same = c ∙ copied-whole area before room });
    };
    count = count;
  }

-- ---- the settled vocabulary

module _ {W : Vocabulary} {siblings settled : List ℕ} {words : ℕ} {missing : Option ℕ} (h : ListingTables W siblings settled words missing) where
  abbrev U : Vocabulary
  U = settled_vocabulary W

  settled-tables : TablesOf U siblings
  settled-tables = record {
    results = settled;
    in_order = settled-in_order W h.in_order;
    tabled = subst (λ n. Tabled U n settled) h.settled_of.tabled.words h.settled_of.tabled;
    siblings = subst (λ n. SiblingTable n settled siblings) (min-eq_left few ∙ h.settled_of.tabled.words) h.siblings_of;
  }
    where
      few : words ≤ most_words
      few = let w = h.settled_of.tabled.words in let c = settled-count W in let k = h.in_order.few_words in omega arith

  module _ (s : ℕ) where
    settled-sorted : (t : Term) → Sorted (signature W) t s → fruitful (signature W) t ≡ true → Sorted (signature U) t s
    settled-sorted t k f =
        subst (λ S. Sorted S t s) (sym (settled_is_settled W)) (fruitful-listing (signature W) t s (in_order_well_formed W h.in_order) k f).1

    settled-entry : (e : Term) → BookEntryOf W s e → EntryOf U s e
    settled-entry e k = record {
      sorted = settled-sorted e k.entry.0 (and_parts (inhabited (signature W) s) (fruitful (signature W) e) k.entry.2).1;
      nameless = k.entry.1;
      low = k.low;
      short = subst (λ b. length b ≤ most_bytes) (sym (settled_writes W s e)) k.short;
    }

    settled-pattern : (t : Term) → Listable W s t → fruitful (signature W) t ≡ true → PatternOf U s t
    settled-pattern t k f = record {
      sorted = settled-sorted t k.holds.good.sorted.sorted f;
      low = let d = k.holds.limits.levels in omega arith;
      short = subst (λ b. length b ≤ most_bytes) (sym (settled_writes W s t)) k.holds.limits.most;
    }

    settled_leaves : (t : Term) (es : List Term) → Listable W s t → fruitful (signature W) t ≡ true → All (BookEntryOf W s) es →
        leaves_of U s t es ≡ behind_bytes W s t es
    settled_leaves t es k f a =
        ap (λ w. map w (against (signature U) t es)) (fun_ext (settled_writes W s))
        ∙ ap (λ S. map (encode_term W s) (against S t es)) (settled_is_settled W)
        ∙ ap (map (encode_term W s))
        (sym
        (fruitful_turn (signature W) s t es (in_order_well_formed W h.in_order) k.holds.good.sorted.sorted f
        (all_implies (BookEntryOf W s) (BookEntry (signature W) s) (λ e x. x.entry) es a)).0)

-- ---- a pattern is taken

module _ {area pattern siblings settled : List ℕ} {entries copied words : ℕ} {missing : Option ℕ}
    (h : TakeAt area entries pattern copied siblings settled words missing) where
  abbrev W : Vocabulary
  W = h.vocabulary

  abbrev s : ℕ
  s = h.kind

  told : fruitful_by words settled missing pattern ≡ fruitful (signature W) h.term
  told =
      ap (fruitful_by words settled missing) h.begins
      ∙ fruitful-told W h.tables.in_order words settled missing h.tables.settled_of s h.term h.listable.holds.good h.listable.holds.limits.most

  settled-area : fruitful (signature W) h.term ≡ true → AreaAt area pattern siblings copied
  settled-area f = record {
    vocabulary = settled_vocabulary W;
    kind = s;
    entries = h.es;
    term = h.term;
    tables = settled-tables h.tables;
    each = all_implies (BookEntryOf W s) (EntryOf (settled_vocabulary W) s) (settled-entry h.tables s) h.es h.each;
    pattern_of = settled-pattern h.tables s h.term h.listable f;
    stands = h.stands ∙ sym (settled-patterns W s h.es);
    begins = h.begins ∙ sym (settled_writes W s h.term);
    copy =
        subst (λ (w : Term → List ℕ). All (λ e. length (w e) + length (w h.term) ≤ copied) h.es) (sym (fun_ext (settled_writes W s))) h.copy;
    small = h.small;
  }

module _ {area pattern siblings settled : List ℕ} {entries marked copied words : ℕ} {missing : Option ℕ} (before after : List ℕ) (r : Struck) where
  pub struck_taken : fruitful_by words settled missing pattern ≡ true → StrikesArea area pattern marked siblings copied before after r →
      TakesPattern area entries pattern marked copied siblings settled words missing before after r
  unfolding settled-area
  struck_taken bearing strikes h enough =
      let f : fruitful (signature h.vocabulary) h.term ≡ true = sym (told h) ∙ bearing in
      subst (λ ls. LeftOf ls 0 before after r)
      (settled_leaves h.tables h.kind h.term h.es h.listable f h.each) (strikes (settled-area h f) enough)

  pub left_taken : fruitful_by words settled missing pattern ≡ false → LeavesArea area entries before after r →
      TakesPattern area entries pattern marked copied siblings settled words missing before after r
  left_taken barren leaves h enough =
      let W = h.vocabulary in
      let s = h.kind in
      subst (λ l. LeftOf (map (encode_term W s) l) 0 before after r)
      (sym
      (barren_turn (signature W) s h.term h.es (sym (told h) ∙ barren)
      (all_implies (BookEntryOf W s) (BookEntry (signature W) s) (λ e x. x.entry) h.es h.each)))
      (leaves (map (encode_term W s) h.es) (h.stands ∙ sym (together-patterns W s h.es)) (h.many ∙ sym (length-map h.es (encode_term W s)))
      (all_map (λ b. length b ≤ most_bytes) (encode_term W s) h.es (all_implies (BookEntryOf W s) _ (λ e x. x.short) h.es h.each)))
