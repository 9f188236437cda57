-- Taking: what take_pattern promises.
--
--   ListingTables            the tables by which the listings under W go: the words' settled result kinds, the lowest kind without
--                            complete situations, and the words' siblings by these kinds
--   BookEntryOf W s e        e is an entry of a book of kind s, within the limits
--   behind_bytes W s t es     the bytes of what is left of the entries es behind the pattern t
--   TakeAt                   an area of entries and a pattern of one kind; the copy has room for each entry with the pattern
--   TakesPattern             what is left behind the pattern is put, if there are marks enough for its bytes
--   LeavesArea               the entries of an area are put, and counted as they are said to be
--
use Rattle.std.specs.Prelude.{◌≡◌, List, map, ℕ, ◌+◌, ◌≤◌, min, length}
use Rattle.terms.specs.Lists.{All}
use Rattle.terms.specs.Term.{Term}
use Rattle.terms.specs.Productive.{left_behind, BookEntry}
use Rattle.wire.specs.Vocabulary.{Vocabulary, InOrder, signature, most_words}
use Rattle.wire.specs.TermBytes.{encode_term, levels, most_bytes, most_levels}
use Rattle.wire.specs.BookBytes.{patterns_bytes, Listable}
use Rattle.extents.specs.Extents.{most_extent}
use Rattle.kinds.specs.Kinds.{SiblingTable}
use Rattle.others.specs.Listed.{together}
use Rattle.signature.specs.Settled.{SettledOf}
use Rattle.std.specs.Prelude.{Option}
use Rattle.strikes.specs.Calls.{Struck, LeftOf}

pub record ListingTables (W : Vocabulary) (siblings settled : List ℕ) (words : ℕ) (missing : Option ℕ) : Type 0 where
  pub in_order : InOrder W
  pub settled_of : SettledOf W words settled missing
  pub siblings_of : SiblingTable (min words most_words) settled siblings

pub record BookEntryOf (W : Vocabulary) (s : ℕ) (e : Term) : Type 0 where
  pub entry : BookEntry (signature W) s e
  pub low : levels e ≤ most_levels
  pub short : length (encode_term W s e) ≤ most_bytes

abbrev pub behind_bytes : Vocabulary → ℕ → Term → List Term → List (List ℕ)
behind_bytes W s t es = map (encode_term W s) (left_behind (signature W) s t es)

pub record TakeAt (area : List ℕ) (entries : ℕ) (pattern : List ℕ) (copied : ℕ) (siblings settled : List ℕ) (words : ℕ) (missing : Option ℕ) : Type 0 where
  pub vocabulary : Vocabulary
  pub kind : ℕ
  pub es : List Term
  pub term : Term
  pub tables : ListingTables vocabulary siblings settled words missing
  pub each : All (BookEntryOf vocabulary kind) es
  pub listable : Listable vocabulary kind term
  pub stands : area ≡ patterns_bytes vocabulary kind es
  pub many : entries ≡ length es
  pub begins : pattern ≡ encode_term vocabulary kind term
  pub copy : All (λ e. length (encode_term vocabulary kind e) + length (encode_term vocabulary kind term) ≤ copied) es
  pub small : copied ≤ most_extent

abbrev pub TakesPattern : List ℕ → ℕ → List ℕ → ℕ → ℕ → List ℕ → List ℕ → ℕ → Option ℕ → List ℕ → List ℕ → Struck → Type 0
TakesPattern area entries pattern marked copied siblings settled words missing before after r =
    (h : TakeAt area entries pattern copied siblings settled words missing) → length pattern ≤ marked →
    LeftOf (behind_bytes h.vocabulary h.kind h.term h.es) 0 before after r

abbrev pub LeavesArea : List ℕ → ℕ → List ℕ → List ℕ → Struck → Type 0
LeavesArea area entries before after r =
    (ls : List (List ℕ)) → area ≡ together ls → entries ≡ length ls → All (λ l. length l ≤ most_bytes) ls → LeftOf ls 0 before after r
