-- BookEntries: what patterns leave together carries no names, and can be said without variables.
--
--   Bare X s e         an entry that carries no names, as list_book promises of each
--   bare_sayable       it can be said
--   book_sayable       so can what patterns together leave
--   reordered_all      what holds of each of some things holds of them in another order
--
use mathlib.Core.Path.{◌≡◌, sym, subst}
use mathlib.Core.List.{List, [], ◌∷◌}
use Prim.Native.Nat.{ℕ, ◌<◌, ◌≤◌}
use native.Mathlib.Omega.{arith}
use lib.ListN.{length}
use Rattle.terms.specs.Lists.{All, Reordered, empty, moved}
use Rattle.terms.specs.Signature.{WellFormed}
use Rattle.terms.specs.Term.{Term, names, Sorted}
use Rattle.terms.specs.Book.{IsBookListing}
use Rattle.terms.specs.Laws.{PatternsOfSort}
use Rattle.terms.proofs.All.{all_implies, all_both, all_append, all_left, all_right}
use Rattle.terms.proofs.Theorems.{book_listing_is_one, book_entries_are_patterns}
use Rattle.wire.specs.Vocabulary.{Vocabulary, signature}
use Rattle.wire.specs.TermBytes.{name_count, most_levels, levels, encode_term, HoldsTerm}
use Rattle.wire.specs.BookBytes.{Listable}
use Rattle.wire.proofs.Words.{in_order_well_formed}
use Rattle.wire.proofs.BookLevels.{book_levels}
use Rattle.texts.specs.Lexicon.{Lexicon, vocabulary_of, GoodLexicon}
use Rattle.texts.specs.Laws.{Sayable}
use Rattle.texts.proofs.Entries.{lexicon-in_order}

nameless_sayable : (X : Lexicon) (s : ℕ) (e : Term) → s < length X → Sorted (signature (vocabulary_of X)) e s → levels e ≤ most_levels →
    names e ≡ [] → Sayable X [] s e
nameless_sayable X s e kind sorted low none = record {
  kind = kind;
  sorted = sorted;
  levels = low;
  named = subst (All (λ n. (n < 0) × (n < name_count))) (sym none) tt;
  variables = tt;
}

abbrev pub Bare : Lexicon → ℕ → Term → Type 0
Bare X s e = HoldsTerm (vocabulary_of X) (encode_term (vocabulary_of X) s e) s e × (names e ≡ [])

pub bare_sayable : (X : Lexicon) (s : ℕ) (e : Term) → Bare X s e → Sayable X [] s e
bare_sayable X s e (h, none) =
    nameless_sayable X s e h.good.kind h.good.sorted.sorted (let low = h.limits.levels in omega arith) none

pub book_sayable : (X : Lexicon) (s : ℕ) (ts l : List Term) → GoodLexicon X → s < length X → All (Listable (vocabulary_of X) s) ts →
    IsBookListing (signature (vocabulary_of X)) s ts l → All (Sayable X [] s) l
book_sayable X s ts l good kind listable listing =
    all_implies _ (Sayable X [] s) (λ e h. nameless_sayable X s e kind h.0.0 h.1 h.0.1) l
    (all_both _ Low l (book_entries_are_patterns (signature W) ts s l formed patterns listing) low)
  where
    W : Vocabulary
    W = vocabulary_of X

    Low : Term → Type 0
    Low e = levels e ≤ most_levels

    formed : WellFormed (signature W)
    formed = in_order_well_formed W (lexicon-in_order X good)

    patterns : PatternsOfSort (signature W) s ts
    patterns = all_implies (Listable W s) _ (λ t h. (h.holds.good.sorted.sorted, h.linear)) ts listable

    low : All Low l
    low =
        subst (All Low) (sym ((book_listing_is_one (signature W) ts s formed patterns l).0 listing))
        (book_levels (signature W) most_levels s ts (all_implies (Listable W s) Low (λ t h. let k = h.holds.limits.levels in omega arith) ts listable))

pub reordered_all : {A : Type 0} (P : A → Type 0) {l m : List A} → Reordered l m → All P m → All P l
reordered_all P empty h = tt
reordered_all P (moved x k r m l e more) h =
    let others = reordered_all P more h.1 in
    subst (All P) (sym e) (all_append P k (x ∷ r) (all_left P k r others) (h.0, all_right P k r others))
