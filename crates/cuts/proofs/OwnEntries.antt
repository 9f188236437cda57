-- OwnEntries: the entries of the other words, where the entry is open.
--
--   own_reach               write_others gets offsets and lengths that it begins with
--   own_open, own_at        the entries, and where write_others begins
--   own_none, own-cut       there is none where the entry is not open, and they are written or do not fit where it is
--   own-ends, own_moves     the walk behind them
--
use mathlib.Core.Path.{◌≡◌, refl, sym, ap, ◌∙◌, subst}
use mathlib.Core.Bool.{Bool, true, false}
use mathlib.Core.List.{List, []}
use Prim.Native.Nat.{ℕ, ◌+◌, ◌≤◌}
use native.Mathlib.Omega.{arith}
use lib.ListN.{length, take, length-map}
use Rattle.terms.specs.Listing.{others}
use Rattle.wire.specs.Vocabulary.{Vocabulary, signature}
use Rattle.kinds.specs.Kinds.{others_in}
use Rattle.kinds.proofs.Others.{others-tabled}
use Rattle.extents.specs.Extents.{most_extent}
use Rattle.slices.proofs.Writing.{part, part_length}
use Rattle.std.specs.Prelude.{Result, Ok, Err}
use Rattle.others.specs.declared.Filled.{Filled}
use Rattle.others.specs.declared.Full.{Full}
use Rattle.others.specs.Listed.{Listed}
use Rattle.others.specs.Others.{entry_of, others_of, LengthsAgree, SiblingsAt, OthersCut, BytesInside}
use Rattle.others.proofs.Entries.{listed_none}
use Rattle.cuts.specs.declared.own.Walk.{Walk}
use Rattle.cuts.specs.Walking.{Step, passed, Moves}
use Rattle.cuts.specs.Own.{own, behind_of, OpenAt, OwnEnds}

pub own_reach : (i : ℕ) (entry : List ℕ) {top copied n out : ℕ} → top ≤ copied → copied ≤ most_extent → length entry ≤ most_extent → n ≤ out →
    LengthsAgree top copied (length (part i entry)) n out
own_reach i entry h k l w = record { inside = h; copy_small = k; tail_small = omega (arith, l, part_length i entry); written = w }

module _ {copy : List ℕ} {top : ℕ} {blank : Bool} {tail : List ℕ} {f : ℕ} {siblings : List ℕ} {w : Walk} (o : OpenAt copy top blank tail f siblings w) where
  abbrev W : Vocabulary
  W = o.vocabulary

  abbrev hs : List ℕ
  hs = others_in (length W.words) o.tables.results f

  abbrev entries : List (List ℕ)
  entries = own blank W f (take top copy) tail

  others_are : others (signature W) f ≡ hs
  others_are = others-tabled W o.tables.in_order (length W.words) o.tables.results refl o.tables.tabled.result f o.known

  pub own_open : blank ≡ true → entries ≡ others_of (take top copy) tail hs
  own_open e = ap (λ b. own b W f (take top copy) tail) e ∙ ap (others_of (take top copy) tail) others_are

  abbrev pub own_at : blank ≡ true → SiblingsAt f siblings w.todo
  own_at e = record {
    words = length W.words;
    results = o.tables.results;
    later = o.later;
    few = o.tables.in_order.few_words;
    table = o.tables.siblings;
    known = o.known;
    due =
        o.due
        ∙ ap (λ ls. length ls + o.later) (own_open e)
        ∙ ap (λ n. n + o.later) (length-map hs (entry_of (take top copy) tail));
  }

  -- Where the entry is not open there is none.
  none : blank ≡ false → entries ≡ []
  none e = ap (λ b. own b W f (take top copy) tail) e

  pub own_none : (before : List ℕ) → w.written ≤ length before → blank ≡ false → OthersCut entries o.later w.written before before (Ok (record { bytes = w.written; due = w.todo }))
  own_none before s e = record {
    listed = subst (λ ls. Listed ls w.written w.written before before) (sym (none e)) (listed_none before s);
    due = omega (arith, o.due, ap length (none e));
  }

  pub own-cut : (before after : List ℕ) (r : Result Filled Full) → blank ≡ true → {tail' : List ℕ} → tail' ≡ tail →
      OthersCut (others_of (take top copy) tail' hs) o.later w.written before after r → OthersCut entries o.later w.written before after r
  own-cut before after r e same h = subst (λ ls. OthersCut ls o.later w.written before after r) (ap (λ t. others_of (take top copy) t hs) same ∙ sym (own_open e)) h

  pub own-ends : (size : ℕ) (before after : List ℕ) (r : Result Filled Full) {s : Step} → s ≡ behind_of w size r → OthersCut entries o.later w.written before after r →
      OwnEnds entries o.later w before after s
  own-ends size before after r told h = subst (OwnEnds entries o.later w before after) (sym told) (go r h)
    where
      go : (r : Result Filled Full) → OthersCut entries o.later w.written before after r → OwnEnds entries o.later w before after (behind_of w size r)
      go (Ok f) x = record { listed = x.listed; todo = x.due }
      go (Err e) x = x

pub own_moves : (w : Walk) (size out : ℕ) (r : Result Filled Full) {s : Step} → s ≡ behind_of w size r → BytesInside out r → Moves (passed w size) out s
own_moves w size out r told h = subst (Moves (passed w size) out) (sym told) (go r h)
  where
    go : (r : Result Filled Full) → BytesInside out r → Moves (passed w size) out (behind_of w size r)
    go (Ok f) x = record { at = refl; entry = refl; pattern = refl; written = x }
    go (Err e) x = tt
