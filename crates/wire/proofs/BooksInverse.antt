-- BooksInverse: a book is accepted exactly where it is the writing of a good one, and bytes write one only.
--
--   book_read, read_book_lem      what is accepted is a good book, and a good book is accepted
--   books_inverse, book_is_one   the two laws
--
use mathlib.Core.Path.{◌≡◌, refl, sym, ap, ap₂, ◌∙◌, subst}
use mathlib.Core.List.{List, [], ◌∷◌, append-nil}
use Prim.Native.Nat.{ℕ, ◌≤◌}
use native.Mathlib.Omega.{arith}
use lib.ListN.{length}
use Rattle.terms.specs.Term.{Term}
use Rattle.wire.specs.Reply.{IsBytes, Kinded, outside}
use Rattle.wire.specs.Vocabulary.{Vocabulary, InOrder}
use Rattle.wire.specs.BookBytes.{most_patterns, patterns_bytes, encode_book, HoldsBook}
use Rattle.wire.specs.Parser.{Reading, accept, refuse, Got, got, stop}
use Rattle.wire.specs.BookComputed.{Book, book_of, after_last, read_book}
use Rattle.wire.specs.Laws.{BooksInverse, BookIsOne}
use Rattle.wire.proofs.Cond.{cond_false, choice}
use Rattle.wire.proofs.Outside.{outside_false, inside-outside}
use Rattle.wire.proofs.VocabulariesInverse.{accept-same, vocabulary_is_one}
use Rattle.wire.proofs.BookRows.{read_patterns, book_of_lem, read-patterns, patterns-read, patterns-count}

-- Where the count is in order, the patterns are read.
pub counted : (W : Vocabulary) (c : ℕ) (l : List ℕ) → 1 ≤ c → c ≤ most_patterns → read_book W (c ∷ l) ≡ after_last (c ∷ l) (read_patterns W c l)
counted W c l some few = cond_false (outside 1 most_patterns c) _ _ (inside-outside 1 most_patterns c some few)

module _ (W : Vocabulary) (in_order : InOrder W) where
  abbrev HeldBook : List ℕ → Reading Book → Type 0
  HeldBook b (accept x) = HoldsBook W b x.kind x.patterns
  HeldBook b (refuse n q) = Unit {0}

  book_read : (b : List ℕ) → IsBytes b → HeldBook b (read_book W b)
  book_read [] bytes = tt
  book_read (c ∷ l) bytes =
      choice (HeldBook (c ∷ l)) (outside 1 most_patterns c) (refuse 24 0) (after_last (c ∷ l) (read_patterns W c l)) (λ e. tt)
      (λ e. go (outside_false 1 most_patterns c e) (read_patterns W c l) refl)
    where
      go : (1 ≤ c) × (c ≤ most_patterns) → (g : Got (List Kinded)) → read_patterns W c l ≡ g → HeldBook (c ∷ l) (after_last (c ∷ l) g)
      go (some, few) (stop n r) e = tt
      go (some, few) (got k (x ∷ r)) e = tt
      go (some, few) (got k []) e =
          let h = patterns-read W in_order c l k [] bytes.1 e in
          let count : length (book_of k).patterns ≡ c = patterns-count k ∙ h.count in
          record {
            some = omega arith;
            few = omega arith;
            patterns = h.kinds.patterns;
            written = ap₂ (λ c l. c ∷ l) (sym count) (h.bytes ∙ append-nil _);
          }

  read_book_lem : (b : List ℕ) (s : ℕ) (ts : List Term) → HoldsBook W b s ts → read_book W b ≡ accept (record { kind = s; patterns = ts })
  read_book_lem b s ts h =
      ap (read_book W) h.written
      ∙ counted W (length ts) (patterns_bytes W s ts) h.some h.few
      ∙ ap (after_last (encode_book W s ts))
      (ap (read_patterns W (length ts)) (sym (append-nil (patterns_bytes W s ts))) ∙ read-patterns W in_order s ts [] h.patterns)
      ∙ ap accept (book_of_lem s ts h.some)

pub books_inverse : BooksInverse
books_inverse W b s ts in_order bytes = (
  (λ e. subst (HeldBook W in_order b) e (book_read W in_order b bytes)),
  read_book_lem W in_order b s ts,
)

pub book_is_one : BookIsOne
book_is_one v b W W' s s' ts ts' bv bb vocabulary book vocabulary' book' =
    let same : W ≡ W' = vocabulary_is_one v W W' bv vocabulary vocabulary' in
    let in_order = vocabulary.in_order in
    let first = read_book_lem W in_order b s ts book in
    let second = read_book_lem W in_order b s' ts' (subst (λ U. HoldsBook U b s' ts') (sym same) book') in
    let one = accept-same _ _ (sym first ∙ second) in
    (same, ap (λ x. x.kind) one, ap (λ x. x.patterns) one)
