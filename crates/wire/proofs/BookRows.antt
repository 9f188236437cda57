-- BookRows: the patterns of a book are read in a row exactly where they are of one kind and list accepts each.
--
--   read_patterns W n b        n patterns, none being before them
--   of_kind s ts               the terms ts, each with the kind s
--   kind-behind               behind such a row, the kind of the patterns before
--   book_of_lem                   such a row as a book
--   OneKind W l               the row l is of one kind, and list accepts each of its patterns
--   row_kind, kind_row        the good rows are these
--   read-patterns, patterns-read   a row is read from its writing, and what is read is written there
--
use mathlib.Core.Path.{◌≡◌, refl, sym, ap, ap₂, ◌∙◌, subst}
use mathlib.Core.List.{List, [], ◌∷◌, ◌++◌, map}
use mathlib.Core.Option.{Option, some, none}
use Prim.Native.Nat.{ℕ, suc, ◌≤◌}
use native.Mathlib.Omega.{arith}
use lib.ListN.{length, length-map}
use Rattle.terms.specs.Lists.{All}
use Rattle.terms.specs.Term.{Term}
use Rattle.wire.specs.Reply.{IsBytes, Kinded, kinded}
use Rattle.wire.specs.Row.{write_row}
use Rattle.wire.specs.Vocabulary.{Vocabulary, InOrder}
use Rattle.wire.specs.TermBytes.{encode_term}
use Rattle.wire.specs.BookBytes.{patterns_bytes, Listable}
use Rattle.wire.specs.Parser.{Got, got, read_row}
use Rattle.wire.specs.BookComputed.{read_pattern, kind_behind, book_of}
use Rattle.wire.proofs.Inverse.{ReadOff, Inverse}
use Rattle.wire.proofs.Row.{GoodRow, row_inverse, behind_row}
use Rattle.wire.proofs.FrontReading.{front_bytes}
use Rattle.wire.proofs.BookPatterns.{GoodPattern, pattern_inverse}

abbrev pub read_patterns : Vocabulary → ℕ → List ℕ → Got (List Kinded)
read_patterns W n b = read_row (read_pattern W) kind_behind none n b

abbrev pub of_kind : ℕ → List Term → List Kinded
of_kind s ts = map (kinded s) ts

-- ---- rows of one kind

terms-of : (s : ℕ) (ts : List Term) → map (λ y. y.term) (of_kind s ts) ≡ ts
terms-of s [] = refl
terms-of s (t ∷ ts) = ap (λ z. t ∷ z) (terms-of s ts)

pub book_of_lem : (s : ℕ) (ts : List Term) → 1 ≤ length ts → book_of (of_kind s ts) ≡ record { kind = s; patterns = ts }
book_of_lem s [] h = absurd (omega arith)
book_of_lem s (t ∷ ts) h = λ i. record { kind = s; patterns = t ∷ terms-of s ts i }

module _ (W : Vocabulary) where
  abbrev pub GoodPatterns : Option ℕ → List Kinded → Type 0
  GoodPatterns o l = GoodRow (GoodPattern W) kind_behind o l

  -- The state behind a row.
  abbrev pub behind : Option ℕ → List Kinded → Option ℕ
  behind o l = behind_row (read_pattern W) kind_behind o l

  kept-kind : (s : ℕ) (l : List Kinded) → behind (some s) l ≡ some s
  kept-kind s [] = refl
  kept-kind s (x ∷ l) = kept-kind s l

  pub kind-behind : (l : List Kinded) → 1 ≤ length l → behind none l ≡ some (book_of l).kind
  kind-behind [] h = absurd (omega arith)
  kind-behind (x ∷ l) h = kept-kind x.kind l

  row_bytes : (s : ℕ) (ts : List Term) → write_row (front_bytes W) (of_kind s ts) ≡ patterns_bytes W s ts
  row_bytes s [] = refl
  row_bytes s (t ∷ ts) = ap (λ z. encode_term W s t ++ z) (row_bytes s ts)

  pub record OneKind (l : List Kinded) (s : ℕ) (ts : List Term) : Type 0 where
    pub row : l ≡ of_kind s ts
    pub patterns : All (Listable W s) ts

  pub kind_row : (s : ℕ) (ts : List Term) → All (Listable W s) ts → GoodPatterns none (of_kind s ts)
  kind_row s [] h = tt
  kind_row s (t ∷ ts) h = ((h.0, tt), go ts h.1)
    where
      go : (ts : List Term) → All (Listable W s) ts → GoodPatterns (some s) (of_kind s ts)
      go [] h = tt
      go (t ∷ ts) h = ((h.0, refl), go ts h.1)

  pub row_kind : (l : List Kinded) → GoodPatterns none l → OneKind l (book_of l).kind (book_of l).patterns
  row_kind [] h = record { row = refl; patterns = tt }
  row_kind (x ∷ l) h =
      let rest = go x.kind l h.1 in
      record { row = ap (λ z. x ∷ z) rest.row; patterns = (h.0.0, rest.patterns) }
    where
      go : (s : ℕ) (l : List Kinded) → GoodPatterns (some s) l → OneKind l s (map (λ y. y.term) l)
      go s [] h = record { row = refl; patterns = tt }
      go s (x ∷ l) h =
          let rest = go s l h.1 in
          let same : x.kind ≡ s = h.0.1 in
          record {
            row = ap₂ (λ k z. kinded k x.term ∷ z) same rest.row;
            patterns = (subst (λ k. Listable W k x.term) same h.0.0, rest.patterns);
          }

-- ---- reading

-- The patterns of the row l were read off b, and r is left.
pub record PatternsRead (W : Vocabulary) (n : ℕ) (b : List ℕ) (l : List Kinded) (r : List ℕ) : Type 0 where
  pub count : length l ≡ n
  pub kinds : OneKind W l (book_of l).kind (book_of l).patterns
  pub bytes : b ≡ patterns_bytes W (book_of l).kind (book_of l).patterns ++ r

module _ (W : Vocabulary) (in_order : InOrder W) where
  rows_inverse : (n : ℕ) → Inverse (read_patterns W n) (write_row (front_bytes W)) (λ l. (length l ≡ n) × GoodPatterns W none l)
  rows_inverse n = row_inverse (read_pattern W) kind_behind (front_bytes W) (GoodPattern W) (pattern_inverse W in_order) none n

  pub read-patterns : (s : ℕ) (ts : List Term) (r : List ℕ) → All (Listable W s) ts →
      read_patterns W (length ts) (patterns_bytes W s ts ++ r) ≡ got (of_kind s ts) r
  read-patterns s ts r good =
      ap (λ z. read_patterns W (length ts) (z ++ r)) (sym (row_bytes W s ts))
      ∙ (rows_inverse (length ts)).written (of_kind s ts) r (length-map ts (kinded s), kind_row W s ts good)

  pub patterns-read : (n : ℕ) (b : List ℕ) (l : List Kinded) (r : List ℕ) → IsBytes b → read_patterns W n b ≡ got l r → PatternsRead W n b l r
  patterns-read n b l r bytes e =
      let h : ReadOff (write_row (front_bytes W)) (λ l. (length l ≡ n) × GoodPatterns W none l) b (got l r) =
      subst (ReadOff (write_row (front_bytes W)) (λ l. (length l ≡ n) × GoodPatterns W none l) b) e ((rows_inverse n).read b bytes) in
      let one = row_kind W l h.0.1 in
      record {
        count = h.0.0;
        kinds = one;
        bytes = h.1 ∙ ap (λ z. write_row (front_bytes W) z ++ r) one.row ∙ ap (λ z. z ++ r) (row_bytes W (book_of l).kind (book_of l).patterns);
      }

pub patterns-count : (l : List Kinded) → length (book_of l).patterns ≡ length l
patterns-count [] = refl
patterns-count (x ∷ l) = ap suc (length-map l (λ y. y.term))
