-- BookLeftovers: what document 02's call "list_book" (request ii) promises of its reply and of the lent slice.
--
--   most_listed                 the entries of a book have at most so many bytes in all (32,768)
--   PassesLimit W s l          the entries l pass it, or one of them has more bytes than a pattern may have
--   PassesBehind W s ts        the entries that the patterns ts leave pass a limit
--   FirstPast W s ts i         pattern i is the first behind which the entries that are left pass a limit
--   WithinLimits W s ts        behind no pattern do they pass one
--   BookEntries W s ts n m after   what holds of the n entries in the first m bytes of the lent slice
--   BookUnder, BookRefusal     the number, input and place that the refusal list decides on
--   BookPromise                what list_book promises of its reply and the lent slice
--
use Rattle.std.specs.Prelude.{◌≡◌, List, [], ◌∷◌, map, ◌↔◌, ◌⊎◌, ℕ, suc, ◌<◌, ◌≤◌, length, get_or, take, drop}
use Rattle.terms.specs.Lists.{All, Reordered}
use Rattle.terms.specs.Term.{Term, any, Ground, SortedG, names}
use Rattle.terms.specs.Substitution.{with_variables}
use Rattle.terms.specs.Book.{IsBookListing, FitsEither, NeededBeside, RepresentsAll}
use Rattle.wire.specs.Reply.{Reply, accepted, refused, Kinded, kinded}
use Rattle.wire.specs.Vocabulary.{Vocabulary, signature, HoldsVocabulary}
use Rattle.wire.specs.TermBytes.{encode_term, GoodTerm, most_bytes, HoldsTerm}
use Rattle.wire.specs.BookBytes.{patterns_bytes, HoldsBook}
use Rattle.wire.specs.VocabularyLines.{VocabularyFirst}
use Rattle.wire.specs.BookLines.{BookLine}
use Rattle.wire.specs.Leftovers.{entries_bytes}

abbrev pub most_listed : ℕ
most_listed = 32768

-- The entries "exceed 32,768 bytes, or one of them 4,096", kind bytes counted.
abbrev pub PassesLimit : Vocabulary → ℕ → List Term → Type 0
PassesLimit W s l = (most_listed < length (patterns_bytes W s l)) ⊎ ((i : ℕ) × (i < length l) × (most_bytes < length (encode_term W s (get_or l i any))))

abbrev pub PassesBehind : Vocabulary → ℕ → List Term → Type 0
PassesBehind W s ts = (l : List Term) × IsBookListing (signature W) s ts l × PassesLimit W s l

-- "the entries left after some pattern": those of the patterns up to it.
pub record FirstPast (W : Vocabulary) (s : ℕ) (ts : List Term) (i : ℕ) : Type 0 where
  pub below : i < length ts
  pub passes : PassesBehind W s (take (suc i) ts)
  pub first : (j : ℕ) → j < i → PassesBehind W s (take (suc j) ts) → ⊥

abbrev pub WithinLimits : Vocabulary → ℕ → List Term → Type 0
WithinLimits W s ts = (i : ℕ) → i < length ts → PassesBehind W s (take (suc i) ts) → ⊥

pub record BookEntries (W : Vocabulary) (s : ℕ) (ts : List Term) (n m : ℕ) (after : List ℕ) : Type 0 where
  -- The first bytes, as many as answered, are the answered number of whole patterns: these, and no others.
  pub entries : List Term
  pub count : length entries ≡ n
  pub inside : m ≤ length after
  pub written : take m after ≡ patterns_bytes W s entries
  pub one : (l : List Kinded) → length l ≡ n → All (λ k. GoodTerm W k.kind k.term) l →
      take m after ≡ entries_bytes W l → l ≡ map (kinded s) entries
  -- "The order of entries is left open, and the contract says so; the entries themselves are fixed, each standing once." They are
  -- those of the definition, in some order that is not promised.
  pub as_defined : List Term
  pub is_listing : IsBookListing (signature W) s ts as_defined
  pub fixed : Reordered entries as_defined
  -- Each is a pattern that the term check accepts. "Entries here carry no names".
  pub each : All (λ e. HoldsTerm W (encode_term W s e) s e × (names e ≡ [])) entries
  -- "Every complete situation of the kind fits some pattern or, by one filling only, a single entry, never both": of any size.
  pub once : (g : Ground) → SortedG (signature W) g s → FitsEither (signature W) ts entries s g
  -- "no entry can be struck."
  pub needed : (i : ℕ) → i < length entries → NeededBeside (signature W) ts entries s i
  -- They represent what the patterns leave, in source 000's sense for a set of patterns.
  pub represents : RepresentsAll (signature W) s (map (λ t. with_variables (signature W) t s) ts) (map (λ e. with_variables (signature W) e s) entries)

-- After the vocabulary the book, "26, in a listing, .. before 20. 24 to 26 have input 5."
pub data BookUnder (b out : List ℕ) (W : Vocabulary) : ℕ → ℕ → ℕ → Type 0 where
  of_book : (n q : ℕ) → BookLine W b n q → BookUnder b out W n 5 q
  -- 26 "when the entries left after some pattern exceed 32,768 bytes, or one of them 4,096 (place: the first such pattern's
  -- number, from 0)".
  too_large : (s : ℕ) (ts : List Term) (i : ℕ) → HoldsBook W b s ts → FirstPast W s ts i → BookUnder b out W 26 5 i
  -- 20. "The listing, or other output that a call is to write, is longer than the lent slice (input 3, place: that output's
  -- length in bytes)."
  no_room : (s : ℕ) (ts l : List Term) → HoldsBook W b s ts → WithinLimits W s ts → IsBookListing (signature W) s ts l →
      length out < length (patterns_bytes W s l) → BookUnder b out W 20 3 (length (patterns_bytes W s l))

abbrev pub BookRefusal : List ℕ → List ℕ → List ℕ → ℕ → ℕ → ℕ → Type 0
BookRefusal v b out = VocabularyFirst v (BookUnder b out)

pub record BookPromise (v b before after : List ℕ) (r : Reply) : Type 0 where
  -- Demand 1: "a faulty one gets the number that its refusal list decides, with the input and place".
  pub refuses : (n i q : ℕ) → (r ≡ refused n i q) ↔ BookRefusal v b before n i q
  -- It is accepted exactly where vocabulary and book are and the entries fit; the answer is their number and that of their bytes.
  pub answered : (values : List ℕ) →
      (r ≡ accepted values) ↔
      ((W : Vocabulary) × (s : ℕ) × (ts : List Term) × (l : List Term) × HoldsVocabulary v W × HoldsBook W b s ts × WithinLimits W s ts ×
      IsBookListing (signature W) s ts l × (length (patterns_bytes W s l) ≤ length before) ×
      (values ≡ length l ∷ length (patterns_bytes W s l) ∷ []))
  -- About the bytes that stand in the lent slice after the call, wherever the reply is no refusal.
  pub entries : (n m : ℕ) → r ≡ accepted (n ∷ m ∷ []) →
      (W : Vocabulary) (s : ℕ) (ts : List Term) → HoldsVocabulary v W → HoldsBook W b s ts → BookEntries W s ts n m after
  -- "lent bytes behind what a call writes stay unchanged".
  pub behind_last : (n m : ℕ) → r ≡ accepted (n ∷ m ∷ []) → drop m after ≡ drop m before
  -- Demand 1: "a refusal changes nothing lent to the call".
  pub kept : (n i q : ℕ) → r ≡ refused n i q → after ≡ before
