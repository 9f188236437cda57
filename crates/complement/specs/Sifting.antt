-- Sifting: what the parts of the call list promise each other of entries that no complete situation fits (document 02 (iv)); no
-- public contract cites it.
--
--   SettledPattern p n table k   the bytes p are accepted under a vocabulary in order, whose settled result kinds the table has,
--                                and k is its lowest kind without complete situations
--   MissingKind                  the same, where there is such a kind
--   whole_only kind some          the bytes of the entry 255 of a kind, where some situation has the kind
--   ListsWhole                   what list_whole does: this entry is written, if it is one, or there is no room
--   left_of h, left_bytes h        the entries of the pattern, and their bytes
--   ListsSettled                 what list_settled does: the entries are written, or there is no room
--   ListsPattern                 what list_pattern does: the same, or a name stands twice
--
use Rattle.std.specs.Prelude.{Bool, true, false, List, [], ◌∷◌, ℕ, length}
use Rattle.terms.specs.Term.{Term}
use Rattle.wire.specs.Reply.{Reply, Kinded, kinded}
use Rattle.wire.specs.Effect.{HasEffect}
use Rattle.wire.specs.Map.{bit}
use Rattle.wire.specs.Parser.{accept}
use Rattle.wire.specs.Vocabulary.{Vocabulary, InOrder}
use Rattle.wire.specs.TermBytes.{whole_byte, HoldsTerm}
use Rattle.wire.specs.Leftovers.{entries_bytes}
use Rattle.wire.specs.ListComputed.{linear_in, leftovers_of, listed_into, listed_pattern}
use Rattle.signature.specs.Settled.{SettledOf}
use Rattle.std.specs.Prelude.{Option}
use Rattle.std.specs.Prelude.{Some}

pub record SettledPattern (p : List ℕ) (words : ℕ) (table : List ℕ) (k : Option ℕ) : Type 0 where
  pub vocabulary : Vocabulary
  pub kind : ℕ
  pub term : Term
  pub in_order : InOrder vocabulary
  pub settled : SettledOf vocabulary words table k
  pub held : HoldsTerm vocabulary p kind term

abbrev pub MissingKind : List ℕ → ℕ → List ℕ → ℕ → Type 0
MissingKind p words table e = SettledPattern p words table (Some e)

abbrev pub whole_only : ℕ → Bool → List ℕ
whole_only kind true = kind ∷ whole_byte ∷ []
whole_only kind false = []

abbrev pub ListsWhole : ℕ → Bool → List ℕ → List ℕ → Reply → Type 0
ListsWhole kind some before after r = HasEffect (listed_into before (bit some) (whole_only kind some)) r after

abbrev pub left_of : {p : List ℕ} {words : ℕ} {table : List ℕ} {k : Option ℕ} → SettledPattern p words table k → List Kinded
left_of h = leftovers_of h.vocabulary h.kind h.term

abbrev pub left_bytes : {p : List ℕ} {words : ℕ} {table : List ℕ} {k : Option ℕ} → SettledPattern p words table k → List ℕ
left_bytes h = entries_bytes h.vocabulary (left_of h)

abbrev pub ListsSettled : List ℕ → ℕ → List ℕ → ℕ → List ℕ → List ℕ → Reply → Type 0
ListsSettled p words table e before after r =
    (h : MissingKind p words table e) → HasEffect (listed_into before (length (left_of h)) (left_bytes h)) r after

abbrev pub ListsPattern : List ℕ → ℕ → List ℕ → Option ℕ → List ℕ → List ℕ → Reply → Type 0
ListsPattern p words table k before after r =
    (h : SettledPattern p words table k) →
    HasEffect (listed_pattern h.vocabulary before (linear_in h.vocabulary (accept (kinded h.kind h.term)))) r after
