-- Beginning: the first turn of a book.
--
--   book_kind, book_length       the first kind byte of a book that is accepted, and that it has one
--   small_areas, large_areas     the areas are long enough: no pattern is longer than its book, nor than 4,096 bytes
--   first_turn, first-listed     where the first turn begins, and that its answer is the book's
--
use mathlib.Core.Path.{◌≡◌, refl, sym, ap, ◌∙◌, subst}
use mathlib.Core.Bool.{Bool, true, false, cond}
use mathlib.Core.List.{List, [], ◌∷◌}
use Prim.Native.Nat.{ℕ, ◌+◌, ◌*◌, ◌<◌, ◌≤◌, min}
use native.Mathlib.Omega.{arith}
use lib.ListN.{length, get_or, take, drop, set, length-append, length-set}
use Rattle.terms.specs.Lists.{All}
use Rattle.terms.specs.Term.{Term, any}
use Rattle.terms.specs.Emptiness.{inhabited}
use Rattle.terms.specs.Productive.{whole_of, BookEntry}
use Rattle.terms.proofs.LeftBehind.{whole-entries}
use Rattle.wire.specs.Effect.{HasEffect}
use Rattle.wire.specs.Vocabulary.{Vocabulary, signature}
use Rattle.wire.specs.TermBytes.{encode_term, most_bytes}
use Rattle.wire.specs.BookBytes.{patterns_bytes, Listable}
use Rattle.wire.specs.BookLeftovers.{most_listed}
use Rattle.std.specs.Prelude.{Option}
use Rattle.slices.proofs.Writing.{part, part_is}
use Rattle.takes.specs.Told.{whole_count}
use Rattle.takes.specs.Taking.{BookEntryOf}
use Rattle.takes.proofs.Tests.{whole-told}
use Rattle.books.specs.Turning.{Turned, turn_numbers, turned, TurnAt, Turns, ReadAt, AreasFor}

pub small_areas : (book : List ℕ) → length book ≤ 256 → AreasFor book 1024 1024 1280 256
small_areas book h = record { span = 256; same = refl; some = omega arith; spans = omega arith; copy = omega arith; small = omega arith; marks = omega arith }

pub large_areas : (book : List ℕ) → AreasFor book most_listed most_listed 8192 4096
large_areas book = record { span = 4096; same = refl; some = omega arith; spans = omega arith; copy = omega arith; small = omega arith; marks = omega arith }

stored_two : (l : List ℕ) (a b : ℕ) → 2 ≤ length l → take 2 (set (set l 0 a) 1 b) ≡ a ∷ b ∷ []
stored_two [] a b h = absurd (omega arith)
stored_two (x ∷ []) a b h = absurd (omega arith)
stored_two (x ∷ y ∷ l) a b h = refl

module _ {book siblings settled : List ℕ} {words : ℕ} {missing : Option ℕ} (h : ReadAt book siblings settled words missing) where
  abbrev W : Vocabulary
  W = h.vocabulary

  abbrev s : ℕ
  s = h.kind

  rest : drop 1 book ≡ patterns_bytes W s h.patterns
  rest = ap (drop 1) h.held.written

  -- A book has a pattern, which begins with its kind.
  first_kind : (l : List Term) → 1 ≤ length l → get_or (patterns_bytes W s l) 0 0 ≡ s
  first_kind [] k = absurd (omega arith)
  first_kind (t ∷ l) k = refl

  pub book_kind : get_or book 1 0 ≡ s
  book_kind = ap (λ l. get_or l 1 0) h.held.written ∙ first_kind h.patterns h.held.some

  some_pattern : (l : List Term) → 1 ≤ length l → 1 ≤ length (patterns_bytes W s l)
  some_pattern [] k = absurd (omega arith)
  some_pattern (t ∷ l) k = let a = length-append (encode_term W s t) (patterns_bytes W s l) in omega arith

  pub book_length : 2 ≤ length book
  book_length = let e = ap length h.held.written in let k = some_pattern h.patterns h.held.some in omega arith

  -- A book's patterns say that the vocabulary has its kind.
  kind-below : s < W.kinds
  kind-below = go h.patterns h.held.some h.held.patterns
    where
      go : (l : List Term) → 1 ≤ length l → All (Listable W s) l → s < W.kinds
      go [] k a = absurd (omega arith)
      go (t ∷ l) k a = a.0.holds.good.kind

  -- The entry 255, or none.
  first-entries : All (BookEntryOf W s) (whole_of (signature W) s)
  first-entries = go (inhabited (signature W) s) (whole-entries (signature W) s)
    where
      go : (b : Bool) → All (BookEntry (signature W) s) (cond b (any ∷ []) []) → All (BookEntryOf W s) (cond b (any ∷ []) [])
      go true a = (record { entry = a.0; low = omega arith; short = omega arith }, tt)
      go false a = tt

  -- No pattern is longer than the book.
  spans_in : (span : ℕ) (l : List Term) → min (1 + length (patterns_bytes W s l)) most_bytes ≤ span → All (Listable W s) l →
      All (λ t. length (encode_term W s t) ≤ span) l
  spans_in span [] k g = tt
  spans_in span (t ∷ l) k g =
      let a = length-append (encode_term W s t) (patterns_bytes W s l) in
      let b = g.0.holds.limits.most in
      (omega arith, spans_in span l (omega arith) g.1)

  -- The kind and 255 are stored, and counted as an entry where the kind has a situation.
  module _ (near : List ℕ) {entries far copied marked : ℕ} (areas : AreasFor book (length near) far copied marked)
      (counted : entries ≡ whole_count words settled missing (get_or book 1 0)) where
    abbrev begun : List ℕ
    begun = set (set near 0 (get_or book 1 0)) 1 255

    pub begun-length : length begun ≡ length near
    begun-length = length-set (set near 0 (get_or book 1 0)) 1 255 ∙ length-set near 0 (get_or book 1 0)

    first-many : entries ≡ length (whole_of (signature W) s)
    first-many =
        counted ∙ ap (whole_count words settled missing) book_kind
        ∙ whole-told W h.tables.in_order words settled missing h.tables.settled_of s kind-below

    pub few-entries : entries ≤ 1
    few-entries = go (inhabited (signature W) s) first-many
      where
        go : (b : Bool) → entries ≡ length {A = Term} (cond b (any ∷ []) []) → entries ≤ 1
        go true e = omega arith
        go false e = omega arith

    first-area : take (2 * entries) begun ≡ patterns_bytes W s (whole_of (signature W) s)
    first-area = go (inhabited (signature W) s) first-many
      where
        go : (b : Bool) → entries ≡ length {A = Term} (cond b (any ∷ []) []) → take (2 * entries) begun ≡ patterns_bytes W s (cond b (any ∷ []) [])
        go true e =
            ap (λ n. take (2 * n) begun) e ∙ stored_two near (get_or book 1 0) 255 areas.some ∙ ap (λ k. k ∷ 255 ∷ []) book_kind
        go false e = ap (λ n. take (2 * n) begun) e

    pub first_turn : TurnAt (part 1 book) 0 begun (2 * entries) entries far copied marked siblings settled words missing
    first_turn = record {
      vocabulary = W;
      kind = s;
      es = whole_of (signature W) s;
      ts = h.patterns;
      span = areas.span;
      tables = h.tables;
      entries_of = first-entries;
      patterns_of = h.held.patterns;
      few = let k = h.held.few in omega arith;
      stands = part_is 1 book ∙ rest;
      area = first-area;
      inside = let k = areas.some in let l = begun-length in let f = few-entries in omega arith;
      many = first-many;
      rooms = begun-length ∙ areas.same;
      spans =
          spans_in areas.span h.patterns (let k = areas.spans in let e = ap length h.held.written in omega arith) h.held.patterns;
      copy = let c = areas.copy in let e = areas.same in omega arith;
      small = areas.small;
      marks = areas.marks;
    }

    pub first-listed : (out after : List ℕ) (r : Turned) →
        Turns (part 1 book) 0 begun (2 * entries) entries far copied marked siblings settled words missing out after r →
        HasEffect (turned W s (length near) 0 (whole_of (signature W) s) h.patterns out) (turn_numbers r) after
    unfolding first_turn
    first-listed out after r turns =
        subst (λ m. HasEffect (turned W s m 0 (whole_of (signature W) s) h.patterns out) (turn_numbers r) after) (sym areas.same) (turns first_turn)
