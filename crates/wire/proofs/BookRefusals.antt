-- BookRefusals: a book is refused by line 24, then by lines 7 to 14, 18 and 25 for each pattern in turn, then by line 15.
--
--   offset-begins             the place of the bytes that are left
--   before-kind               the kind of the patterns before the next
--   stop-line, line-stop      where the next pattern is refused the book is, by one of its lines
--   book_line, line_book      what is given is a line's, and what is a line's is given
--   book_refusals             a number is given exactly where its line is the one
--
use mathlib.Core.Path.{◌≡◌, refl, sym, ap, ◌∙◌, subst}
use mathlib.Core.List.{List, [], ◌∷◌, ◌++◌}
use mathlib.Core.Option.{Option, some, none, none-ne-some}
use Prim.Native.Nat.{ℕ, suc, ◌+◌, ◌-◌, ◌≤◌, ◌<◌}
use native.Mathlib.Omega.{arith}
use lib.ListN.{length, length-append, length-map}
use Rattle.terms.specs.Term.{Term}
use Rattle.wire.specs.Reply.{IsBytes, Kinded, kinded, outside}
use Rattle.wire.specs.Vocabulary.{Vocabulary, InOrder}
use Rattle.wire.specs.BookBytes.{most_patterns, patterns_bytes}
use Rattle.wire.specs.BookLines.{Begun, begins, BookLine}
use Rattle.wire.specs.Parser.{Reading, accept, refuse, Got, got, stop, offset}
use Rattle.wire.specs.BookComputed.{read_pattern, kind_behind, Book, book_of, after_last, read_book}
use Rattle.wire.specs.Laws.{BookRefusals}
use Rattle.wire.proofs.Bytes.{rest-bytes}
use Rattle.wire.proofs.Cond.{cond_true, choice}
use Rattle.wire.proofs.Outside.{outside_true, outside_false, outside_tested}
use Rattle.wire.proofs.Row.{StopsBehind, row_stops, row_stopped}
use Rattle.wire.proofs.BookPatterns.{PatternStop, pattern-stops, stops-pattern}
use Rattle.wire.proofs.BookRows.{read_patterns, of_kind, behind, kind-behind, book_of_lem, PatternsRead, read-patterns, patterns-read, patterns-count}
use Rattle.wire.proofs.BooksInverse.{counted}

-- Where bytes r are left of a book that begins with these patterns.
offset-begins : (W : Vocabulary) (s : ℕ) (ts : List Term) (c : ℕ) (rest r : List ℕ) (q : ℕ) → q + length r ≡ length rest →
    offset (c ∷ (patterns_bytes W s ts ++ rest)) r ≡ begins W s ts + q
offset-begins W s ts c rest r q e = omega (arith, length-append (patterns_bytes W s ts) rest)

-- The kind of the patterns before, where there are any.
before-kind : (W : Vocabulary) (k : List Kinded) (i : ℕ) → behind W none k ≡ some i → (1 ≤ length (book_of k).patterns) × (i ≡ (book_of k).kind)
before-kind W [] i e = absurd (none-ne-some i e)
before-kind W (x ∷ k) i e = (omega arith, cc (kind-behind W (x ∷ k) (omega arith)))

module _ (W : Vocabulary) (in_order : InOrder W) where
  -- The next pattern is refused, and so the book, by one of its lines.
  stop-line : (b : List ℕ) (c s : ℕ) (ts : List Term) (r : List ℕ) → Begun W b c s ts r → length ts < c →
      (o : Option ℕ) → ((i : ℕ) → o ≡ some i → (1 ≤ length ts) × (i ≡ s)) → {n q : ℕ} → PatternStop W o r n q → BookLine W b n (begins W s ts + q)
  stop-line b c s ts r begun few o kind (PatternStop.front n q d) = BookLine.front c s ts r n q begun few d
  stop-line b c s ts r begun few o kind (PatternStop.twice k t r' q written holds again) =
      BookLine.twice c s ts k t r' q (subst (Begun W b c s ts) written begun) few holds again
  stop-line b c s ts r begun few o kind (PatternStop.other_kind i k t r' e written good differs) =
      let same = kind i e in
      let at : begins W s ts ≡ begins W s ts + 0 = omega arith in
      subst (BookLine W b 25) at
      (BookLine.other_kind c s ts k t r' (subst (Begun W b c s ts) written begun) same.0 few good (λ z. differs (z ∙ sym same.1)))

  -- ---- from the reading to the lines

  abbrev LineOf : List ℕ → Reading Book → Type 0
  LineOf b (accept x) = Unit {0}
  LineOf b (refuse n q) = BookLine W b n q

  module _ (c : ℕ) (l : List ℕ) (bytes : IsBytes (c ∷ l)) (least : 1 ≤ c) (most : c ≤ most_patterns) where
    begun-at : (n : ℕ) (k : List Kinded) (r : List ℕ) → PatternsRead W n l k r → Begun W (c ∷ l) c (book_of k).kind (book_of k).patterns r
    begun-at n k r h =
        record { some = least; few = most; patterns = h.kinds.patterns; written = ap {B = List ℕ} (λ z. c ∷ z) h.bytes }

    stopped_line : (n : ℕ) (r : List ℕ) → StopsBehind (read_pattern W) kind_behind none c l n r → BookLine W (c ∷ l) n (offset (c ∷ l) r)
    stopped_line n r h =
        let k : List Kinded = h.before in
        let read = patterns-read W in_order (length k) l k h.rest bytes.1 h.read in
        let s : ℕ = (book_of k).kind in
        let ts : List Term = (book_of k).patterns in
        let stops = pattern-stops W in_order (behind W none k) h.rest (rest-bytes l (patterns_bytes W s ts) h.rest read.bytes bytes.1) n r h.stops in
        let at : begins W s ts + stops.0 ≡ offset (c ∷ l) r =
        sym (ap (λ z. offset (c ∷ z) r) read.bytes ∙ offset-begins W s ts c h.rest r stops.0 stops.2) in
        subst (BookLine W (c ∷ l) n) at
        (stop-line (c ∷ l) c s ts h.rest (begun-at (length k) k h.rest read) (omega (arith, patterns-count k, h.fewer)) (behind W none k) (before-kind W k) stops.1)

    more-line : (k : List Kinded) (x : ℕ) (r : List ℕ) → PatternsRead W c l k (x ∷ r) → BookLine W (c ∷ l) 15 (offset (c ∷ l) (x ∷ r))
    more-line k x r h =
        let s : ℕ = (book_of k).kind in
        let ts : List Term = (book_of k).patterns in
        let count : c ≡ length ts = sym (patterns-count k ∙ h.count) in
        let at : begins W s ts ≡ offset (c ∷ l) (x ∷ r) =
        omega (arith, ap (λ z. offset (c ∷ z) (x ∷ r)) h.bytes ∙ offset-begins W s ts c (x ∷ r) (x ∷ r) 0 (omega arith)) in
        subst (BookLine W (c ∷ l) 15) at (BookLine.more s ts x r (subst (λ n. Begun W (c ∷ l) n s ts (x ∷ r)) count (begun-at c k (x ∷ r) h)))

  book_line : (b : List ℕ) → IsBytes b → LineOf b (read_book W b)
  book_line [] bytes = BookLine.no_count refl
  book_line (c ∷ l) bytes =
      choice (LineOf (c ∷ l)) (outside 1 most_patterns c) (refuse 24 0) (after_last (c ∷ l) (read_patterns W c l))
      (λ e. BookLine.count c l refl (outside_true 1 most_patterns c e)) (λ e. go (outside_false 1 most_patterns c e) (read_patterns W c l) refl)
    where
      go : (1 ≤ c) × (c ≤ most_patterns) → (g : Got (List Kinded)) → read_patterns W c l ≡ g → LineOf (c ∷ l) (after_last (c ∷ l) g)
      go (least, most) (stop n r) e = stopped_line c l bytes least most n r (row_stops (read_pattern W) kind_behind none c l n r e)
      go (least, most) (got k []) e = tt
      go (least, most) (got k (x ∷ r)) e = more-line c l bytes least most k x r (patterns-read W in_order c l k (x ∷ r) bytes.1 e)

  -- ---- from the lines to the reading

  -- The patterns ts are read, and so the next one is looked at.
  line-stop : (b : List ℕ) (c s : ℕ) (ts : List Term) (r : List ℕ) → Begun W b c s ts r → length ts < c → {n q : ℕ} →
      PatternStop W (behind W none (of_kind s ts)) r n q → read_book W b ≡ refuse n (begins W s ts + q)
  line-stop b c s ts r begun few {n} {q} t =
      let l : List ℕ = patterns_bytes W s ts ++ r in
      let stops = stops-pattern W in_order (behind W none (of_kind s ts)) r t in
      let left : length ts + suc (c - length ts - 1) ≡ c = omega arith in
      let row : read_patterns W c l ≡ stop n stops.0 =
      ap (λ i. read_patterns W i l) (sym left)
      ∙ row_stopped (read_pattern W) kind_behind none (length ts) l (of_kind s ts) r (read-patterns W in_order s ts r begun.patterns)
      (c - length ts - 1) n stops.0 stops.1 in
      ap (read_book W) begun.written
      ∙ counted W c l begun.some begun.few
      ∙ ap (after_last (c ∷ l)) row
      ∙ ap (refuse n) (offset-begins W s ts c r stops.0 q stops.2)

  line_book : (b : List ℕ) {n q : ℕ} → BookLine W b n q → read_book W b ≡ refuse n q
  line_book b (BookLine.no_count e) = ap (read_book W) e
  line_book b (BookLine.count c l e o) = ap (read_book W) e ∙ cond_true (outside 1 most_patterns c) _ _ (outside_tested 1 most_patterns c o)
  line_book b (BookLine.front c s ts r n q begun few d) = line-stop b c s ts r begun few (PatternStop.front n q d)
  line_book b (BookLine.twice c s ts k t r q begun few holds again) =
      line-stop b c s ts _ begun few (PatternStop.twice k t r q refl holds again)
  line_book b (BookLine.other_kind c s ts k t r begun before few good differs) =
      let kind : behind W none (of_kind s ts) ≡ some s =
      kind-behind W (of_kind s ts) (omega (arith, length-map ts (kinded s))) ∙ ap (λ x. some x.kind) (book_of_lem s ts before) in
      line-stop b c s ts _ begun few (PatternStop.other_kind s k t r kind refl good differs)
      ∙ ap (refuse 25) (let e : begins W s ts + 0 ≡ begins W s ts = omega arith in e)
  line_book b (BookLine.more s ts x r begun) =
      let l : List ℕ = patterns_bytes W s ts ++ (x ∷ r) in
      ap (read_book W) begun.written
      ∙ counted W (length ts) l begun.some begun.few
      ∙ ap (after_last (length ts ∷ l)) (read-patterns W in_order s ts (x ∷ r) begun.patterns)
      ∙ ap (refuse 15) (omega (arith, offset-begins W s ts (length ts) (x ∷ r) (x ∷ r) 0 (omega arith)))

pub book_refusals : BookRefusals
book_refusals W b in_order bytes n q = ((λ e. subst (LineOf W in_order b) e (book_line W in_order b bytes)), line_book W in_order b)
