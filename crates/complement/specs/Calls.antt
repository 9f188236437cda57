-- Calls: what the parts of the call list promise each other; no public contract cites it.
--
--   Patterned p n results    the bytes p are accepted under a vocabulary in order, whose result kinds the table has
--   bytes_of h                the bytes of its entries
--   HasRoom                  where list_in begins: there are entries, and room for them
--   WritesEntries            what list_in does: the entries are written
--   ListsLinear              what list_linear does: the entries are written, or there is no room
--
use Rattle.std.specs.Prelude.{◌≡◌, List, ◌++◌, ℕ, ◌<◌, ◌≤◌, length, drop}
use Rattle.terms.specs.Term.{Term}
use Rattle.wire.specs.Reply.{Reply}
use Rattle.wire.specs.Effect.{HasEffect}
use Rattle.wire.specs.Vocabulary.{Vocabulary, InOrder}
use Rattle.wire.specs.TermBytes.{HoldsTerm}
use Rattle.wire.specs.ListComputed.{entries_of, listing_bytes, listed_into}
use Rattle.signature.specs.Tables.{Tabled}

pub record Patterned (p : List ℕ) (words : ℕ) (results : List ℕ) : Type 0 where
  pub vocabulary : Vocabulary
  pub kind : ℕ
  pub term : Term
  pub in_order : InOrder vocabulary
  pub tabled : Tabled vocabulary words results
  pub held : HoldsTerm vocabulary p kind term

abbrev pub bytes_of : {p : List ℕ} {words : ℕ} {results : List ℕ} → Patterned p words results → List ℕ
bytes_of h = listing_bytes h.vocabulary h.kind h.term

abbrev pub HasRoom : List ℕ → ℕ → List ℕ → ℕ → Type 0
HasRoom p words results room = (h : Patterned p words results) → (0 < length (bytes_of h)) × (length (bytes_of h) ≤ room)

abbrev pub WritesEntries : List ℕ → ℕ → List ℕ → List ℕ → List ℕ → Type 0
WritesEntries p words results before after = (h : Patterned p words results) → after ≡ bytes_of h ++ drop (length (bytes_of h)) before

abbrev pub ListsLinear : List ℕ → ℕ → List ℕ → List ℕ → List ℕ → Reply → Type 0
ListsLinear p words results before after r =
    (h : Patterned p words results) →
    HasEffect (listed_into before (length (entries_of h.vocabulary h.kind h.term)) (bytes_of h)) r after
