-- Turning: what the functions that take the patterns of a book in turn promise each other; no public contract cites it.
--
--   Turned                    a turn's answer
--   turn_numbers r            its reply
--   turned W s room i es ts out    the reply where the entries es are taken against the patterns ts, of which the first has the
--                            number i, by areas of `room` bytes, and the lent slice after it
--   TurnAt, Turns            where turn begins, and what it does
--   BookAt book words settled missing    the book is accepted under a vocabulary in order, whose settled result kinds the table
--                            has, and `missing` is its lowest kind without complete situations
--   ReadAt                   the same, and a table has the siblings of its words
--   AreasFor                 the areas, the copy and the table of marks are long enough for a book
--   ListsIn                  what list_in does
--
use Rattle.std.specs.Prelude.{◌≡◌, List, [], ◌∷◌, ℕ, ◌+◌, ◌≤◌, min, length, take}
use Rattle.std.proofs.Math.Option.{Option, some, none}
use Rattle.terms.specs.Lists.{All}
use Rattle.terms.specs.Term.{Term}
use Rattle.terms.specs.Productive.{whole_of, left_in_turn}
use Rattle.wire.specs.Reply.{Reply, accepted, refused}
use Rattle.wire.specs.Effect.{Effect, HasEffect}
use Rattle.wire.specs.Vocabulary.{Vocabulary, InOrder, signature}
use Rattle.wire.specs.TermBytes.{encode_term, most_bytes}
use Rattle.wire.specs.BookBytes.{most_patterns, patterns_bytes, Listable, HoldsBook}
use Rattle.wire.specs.ListComputed.{listed_into}
use Rattle.wire.specs.BookComputed.{first_past}
use Rattle.extents.specs.Extents.{most_extent}
use Rattle.signature.specs.Settled.{SettledOf}
use Rattle.std.specs.Prelude as std
use Rattle.takes.specs.Taking.{ListingTables, BookEntryOf}
use Rattle.std.specs.Prelude.{Result, Ok, Err}
use Rattle.sizes.specs.declared.Size.{Size}
use Rattle.books.specs.declared.turns.TurnRefusal.{TurnRefusal}
use Rattle.books.specs.declared.turns.TurnRefusal.TheVariants.{NoRoom, Past}

abbrev pub Turned : Type 0
Turned = Result Size TurnRefusal

abbrev pub turn_numbers : Turned → Reply
turn_numbers (Ok size) = accepted (size.entries ∷ size.bytes ∷ [])
turn_numbers (Err (NoRoom bytes)) = refused 20 3 bytes
turn_numbers (Err (Past i)) = refused 26 5 i

abbrev pub turned_by : Vocabulary → ℕ → List Term → List ℕ → Option ℕ → Effect
turned_by W s left out (some i) = record { reply = refused 26 5 i; after = out }
turned_by W s left out none = listed_into out (length left) (patterns_bytes W s left)

abbrev pub turned : Vocabulary → ℕ → ℕ → ℕ → List Term → List Term → List ℕ → Effect
turned W s room i es ts out = turned_by W s (left_in_turn (signature W) s ts es) out (first_past W s room i es ts)

-- Every pattern has at most `span` bytes, and an entry no more than an area or a pattern may have.
pub record TurnAt (book : List ℕ) (i : ℕ) (from : List ℕ) (n entries room copied marked : ℕ) (siblings settled : List ℕ) (words : ℕ) (missing : std.Option ℕ) :
    Type 0 where
  pub vocabulary : Vocabulary
  pub kind : ℕ
  pub es : List Term
  pub ts : List Term
  pub span : ℕ
  pub tables : ListingTables vocabulary siblings settled words missing
  pub entries_of : All (BookEntryOf vocabulary kind) es
  pub patterns_of : All (Listable vocabulary kind) ts
  pub few : i + length ts ≤ most_patterns
  pub stands : book ≡ patterns_bytes vocabulary kind ts
  pub area : take n from ≡ patterns_bytes vocabulary kind es
  pub inside : n ≤ length from
  pub many : entries ≡ length es
  pub rooms : length from ≡ room
  pub spans : All (λ t. length (encode_term vocabulary kind t) ≤ span) ts
  pub copy : min room most_bytes + span ≤ copied
  pub small : copied ≤ most_extent
  pub marks : span ≤ marked

abbrev pub Turns : List ℕ → ℕ → List ℕ → ℕ → ℕ → ℕ → ℕ → ℕ → List ℕ → List ℕ → ℕ → std.Option ℕ → List ℕ → List ℕ → Turned → Type 0
Turns book i from n entries room copied marked siblings settled words missing before after r =
    (h : TurnAt book i from n entries room copied marked siblings settled words missing) →
    HasEffect (turned h.vocabulary h.kind room i h.es h.ts before) (turn_numbers r) after

pub record BookAt (book : List ℕ) (words : ℕ) (settled : List ℕ) (missing : std.Option ℕ) : Type 0 where
  pub vocabulary : Vocabulary
  pub kind : ℕ
  pub patterns : List Term
  pub in_order : InOrder vocabulary
  pub settled_of : SettledOf vocabulary words settled missing
  pub held : HoldsBook vocabulary book kind patterns

pub record ReadAt (book siblings settled : List ℕ) (words : ℕ) (missing : std.Option ℕ) : Type 0 where
  pub vocabulary : Vocabulary
  pub kind : ℕ
  pub patterns : List Term
  pub tables : ListingTables vocabulary siblings settled words missing
  pub held : HoldsBook vocabulary book kind patterns

pub record AreasFor (book : List ℕ) (near far copied marked : ℕ) : Type 0 where
  pub span : ℕ
  pub same : near ≡ far
  pub some : 2 ≤ near
  pub spans : min (length book) most_bytes ≤ span
  pub copy : min near most_bytes + span ≤ copied
  pub small : copied ≤ most_extent
  pub marks : span ≤ marked

abbrev pub ListsIn : List ℕ → List ℕ → List ℕ → ℕ → std.Option ℕ → ℕ → List ℕ → List ℕ → Turned → Type 0
ListsIn book siblings settled words missing room before after r =
    (h : ReadAt book siblings settled words missing) →
    HasEffect (turned h.vocabulary h.kind room 0 (whole_of (signature h.vocabulary) h.kind) h.patterns before) (turn_numbers r) after
