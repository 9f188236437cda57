-- BookComputed: the reply of document 02's call "list_book" and the lent slice after it, computed.
--
-- This file is an algorithm, and nothing in it has to be believed: BooksInverse, BookRefusals and BookKeeps (Laws) fix what it
-- gives.
--
--   behind_window b r           the bytes r left of a pattern's first 4,096 bytes, and those of b behind these
--   front_of b s g              what was read as g of a pattern of kind s that begins the bytes b
--   read_front W b              a whole pattern off the front of the bytes b, within the limits
--   line18 b x r o, line25 k b x r     lines 18 and 25 for the pattern x that was read off the front of the bytes b, r being left
--   read_pattern W k b          a pattern of a book, where k is the kind of the patterns before it, if there are any
--   kind_behind k x             this kind behind the pattern x
--   Book, book_of l             a kind and the patterns of a book
--   after_last b g              line 15, once the patterns of the book b are read as g
--   read_book W b               a book
--   some_long W s l             some entry of l has more bytes than a pattern may have
--   passes W s room l          the entries l have more bytes than there is room for, or one of them more than a pattern may have
--   first_past W s room i l ts  the first of the patterns ts, counted from i, behind which this holds of what is left of the entries l
--   book_entries W s ts         the entries of a book
--   BookJudged                 the inputs of list_book as they are read, or a refusal's number, input and place
--   judged_book, judged_under, book_judged v b    these inputs, in the order in which they are judged
--   book_clear j                the reply that says whether the inputs are in order
--   book_into, book_with, book_listed v b out     the reply of list_book, and the lent slice after it
--
use Rattle.std.specs.Prelude.{Bool, true, false, ◌||◌, ◌&&◌, not, cond, List, [], ◌∷◌, ◌++◌, map, ℕ, suc, eqb, ltb, length, take, drop}
use Rattle.std.proofs.Math.Option.{Option, some, none}
use Rattle.terms.specs.Lists.{or_else}
use Rattle.terms.specs.Term.{Term}
use Rattle.terms.specs.Productive.{whole_of, left_behind, book_listing_of}
use Rattle.wire.specs.Reply.{Reply, accepted, refused, Kinded, kinded, outside}
use Rattle.wire.specs.Vocabulary.{Vocabulary, signature}
use Rattle.wire.specs.TermBytes.{encode_term, most_bytes, most_levels}
use Rattle.wire.specs.BookBytes.{most_patterns, patterns_bytes}
use Rattle.wire.specs.PatternLines.{sightings}
use Rattle.wire.specs.BookLeftovers.{most_listed}
use Rattle.wire.specs.Effect.{Effect}
use Rattle.wire.specs.Parser.{Reading, accept, refuse, Got, got, stop, and_then, offset, read_row, Read, read_term, read_vocabulary}
use Rattle.wire.specs.ListComputed.{repeated_in, listed_into}

abbrev pub behind_window : List ℕ → List ℕ → List ℕ
behind_window b r = r ++ drop most_bytes b

-- A pattern that goes on where its first 4,096 bytes end is too long, or ends there with the book.
abbrev pub front_of : List ℕ → ℕ → Got Read → Got Kinded
front_of b s (got a r) = got (kinded s a.term) (behind_window b r)
front_of b s (stop n r) = cond (eqb n 9 && not (ltb (length b) most_bytes)) (stop 7 b) (stop n (behind_window b r))

abbrev pub read_front : Vocabulary → List ℕ → Got Kinded
read_front W [] = stop 7 []
read_front W (s ∷ []) = stop 7 (s ∷ [])
read_front W (s ∷ x ∷ l) =
    let b : List ℕ = s ∷ x ∷ l in
    cond (ltb s W.kinds) (front_of b s (read_term W most_levels true s [] (drop 1 (take most_bytes b)))) (stop 8 b)

abbrev pub line18 : List ℕ → Kinded → List ℕ → Option ℕ → Got Kinded
line18 b x r (some q) = stop 18 (drop q b)
line18 b x r none = got x r

abbrev pub line25 : Option ℕ → List ℕ → Kinded → List ℕ → Got Kinded
line25 none b x r = got x r
line25 (some k) b x r = cond (eqb x.kind k) (got x r) (stop 25 b)

abbrev pub read_pattern : Vocabulary → Option ℕ → List ℕ → Got Kinded
read_pattern W k b =
    and_then (and_then (read_front W b) (λ x r. line18 b x r (repeated_in [] (sightings W x.term)))) (line25 k b)

abbrev pub kind_behind : Option ℕ → Kinded → Option ℕ
kind_behind k x = or_else k (some x.kind)

pub record Book : Type 0 where
  pub kind : ℕ
  pub patterns : List Term

abbrev pub book_of : List Kinded → Book
book_of [] = record { kind = 0; patterns = [] }
book_of (x ∷ l) = record { kind = x.kind; patterns = map (λ y. y.term) (x ∷ l) }

abbrev pub after_last : List ℕ → Got (List Kinded) → Reading Book
after_last b (stop n r) = refuse n (offset b r)
after_last b (got l []) = accept (book_of l)
after_last b (got l (x ∷ r)) = refuse 15 (offset b (x ∷ r))

abbrev pub read_book : Vocabulary → List ℕ → Reading Book
read_book W [] = refuse 24 0
read_book W (c ∷ l) =
    cond (outside 1 most_patterns c) (refuse 24 0) (after_last (c ∷ l) (read_row (read_pattern W) kind_behind none c l))

abbrev pub some_long : Vocabulary → ℕ → List Term → Bool
some_long W s [] = false
some_long W s (e ∷ l) = ltb most_bytes (length (encode_term W s e)) || some_long W s l

abbrev pub passes : Vocabulary → ℕ → ℕ → List Term → Bool
passes W s room l = ltb room (length (patterns_bytes W s l)) || some_long W s l

abbrev pub first_past : Vocabulary → ℕ → ℕ → ℕ → List Term → List Term → Option ℕ
first_past W s room i l [] = none
first_past W s room i l (t ∷ ts) =
    let left : List Term = left_behind (signature W) s t l in
    cond (passes W s room left) (some i) (first_past W s room (suc i) left ts)

abbrev pub book_entries : Vocabulary → ℕ → List Term → List Term
book_entries W s ts = book_listing_of (signature W) s ts

pub data BookJudged : Type 0 where
  listable : Vocabulary → Book → BookJudged
  unlistable : ℕ → ℕ → ℕ → BookJudged

abbrev pub judged_book : Vocabulary → Reading Book → BookJudged
judged_book W (refuse n q) = unlistable n 5 q
judged_book W (accept x) = listable W x

abbrev pub judged_under : List ℕ → Reading Vocabulary → BookJudged
judged_under b (refuse n q) = unlistable n 0 q
judged_under b (accept W) = judged_book W (read_book W b)

abbrev pub book_judged : List ℕ → List ℕ → BookJudged
book_judged v b = judged_under b (read_vocabulary v)

abbrev pub book_clear : BookJudged → Reply
book_clear (listable W x) = accepted []
book_clear (unlistable n i q) = refused n i q

abbrev pub book_into : Vocabulary → List ℕ → Book → Option ℕ → Effect
book_into W out x (some i) = record { reply = refused 26 5 i; after = out }
book_into W out x none =
    let entries : List Term = book_entries W x.kind x.patterns in
    listed_into out (length entries) (patterns_bytes W x.kind entries)

abbrev pub book_with : List ℕ → BookJudged → Effect
book_with out (unlistable n i q) = record { reply = refused n i q; after = out }
book_with out (listable W x) = book_into W out x (first_past W x.kind most_listed 0 (whole_of (signature W) x.kind) x.patterns)

abbrev pub book_listed : List ℕ → List ℕ → List ℕ → Effect
book_listed v b out = book_with out (book_judged v b)
