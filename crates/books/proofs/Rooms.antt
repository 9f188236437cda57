-- Rooms: what a book's turns by areas of some size answer of the whole.
--
--   read_at            a book that is accepted, and the table of siblings
--   large-listed       areas as large as the entries may be
--   small-listed       smaller ones, where the entries have room in them
--   past-listed        and where they have none there, large ones behind them: the lent slice is as before
--
use mathlib.Core.Path.{◌≡◌, refl, sym, ap, ap₂, ◌∙◌, subst}
use mathlib.Core.Bool.{Bool, true, false, ◌||◌, cond, true≢false, false≢true}
use mathlib.Core.List.{List, [], ◌∷◌}
use mathlib.Core.Option.{Option, some, none, some-ne-none}
use Prim.Native.Nat.{ℕ, suc, ◌≤◌, min}
use native.Mathlib.Omega.{arith}
use lib.Dec.{ltb, leb, eqb}
use lib.ListN.{length}
use borrow.Author.Tests.{le-ltb, ltb-false}
use Rattle.terms.specs.Term.{Term}
use Rattle.terms.specs.Productive.{whole_of, left_behind, left_in_turn}
use Rattle.terms.proofs.Bools.{or_parts}
use Rattle.wire.specs.Reply.{Reply, accepted, refused}
use Rattle.wire.specs.Effect.{Effect, HasEffect}
use Rattle.wire.specs.Vocabulary.{Vocabulary, signature, most_words}
use Rattle.kinds.specs.Kinds.{SiblingTable}
use Rattle.std.specs.Prelude as std
use Rattle.wire.specs.BookBytes.{patterns_bytes}
use Rattle.wire.specs.BookLeftovers.{most_listed}
use Rattle.wire.specs.ListComputed.{listed_into}
use Rattle.wire.specs.BookComputed.{some_long, passes, first_past, book_into}
use Rattle.wire.proofs.Cond.{cond_false, choice}
use Rattle.books.specs.Turning.{Turned, turn_numbers, turned_by, BookAt, ReadAt, ListsIn}
use Rattle.books.specs.Calls.{ListsBook}
use Rattle.books.specs.declared.turns.TurnRefusal.TheVariants.{Past}

-- ---- larger areas

-- Entries that have room in a smaller area have room in a larger one.
passes_less : (W : Vocabulary) (s room more : ℕ) (l : List Term) → room ≤ more → passes W s room l ≡ false → passes W s more l ≡ false
passes_less W s room more l h e =
    let p = or_parts (ltb room (length (patterns_bytes W s l))) (some_long W s l) e in
    ap₂ (λ a b. a || b)
    (le-ltb more (length (patterns_bytes W s l)) (let a = ltb-false room (length (patterns_bytes W s l)) p.0 in omega arith)) p.1

-- A search that finds nothing finds nothing here, and nothing further on.
none_parts : (b : Bool) (i : ℕ) (o : Option ℕ) → cond b (some i) o ≡ none → (b ≡ false) × (o ≡ none)
none_parts true i o e = absurd (some-ne-none i e)
none_parts false i o e = (refl, e)

past_less : (W : Vocabulary) (s room more : ℕ) → room ≤ more → (i : ℕ) (l ts : List Term) → first_past W s room i l ts ≡ none → first_past W s more i l ts ≡ none
past_less W s room more h i l [] e = refl
past_less W s room more h i l (t ∷ ts) e =
    let left : List Term = left_behind (signature W) s t l in
    let (none_here, later) = none_parts (passes W s room left) i (first_past W s room (suc i) left ts) e in
    cond_false (passes W s more left) (some i) (first_past W s more (suc i) left ts) (passes_less W s room more left h none_here)
    ∙ past_less W s room more h (suc i) left ts later

-- ---- the reply of line 26

abbrev is_past : Reply → Bool
is_past (accepted l) = false
is_past (refused n i q) = eqb n 26

listed_no_past : (out : List ℕ) (n : ℕ) (b : List ℕ) → is_past (listed_into out n b).reply ≡ false
listed_no_past out n b = choice (λ (e : Effect). is_past e.reply ≡ false) (leb (length b) (length out)) _ _ (λ h. refl) (λ h. refl)

module _ (W : Vocabulary) (s : ℕ) (left : List Term) (out : List ℕ) (r : Reply) (after : List ℕ) where
  -- Where the reply is another, no pattern was found.
  no-past : (o : Option ℕ) → HasEffect (turned_by W s left out o) r after → is_past r ≡ false → o ≡ none
  no-past (some i) e p = absurd (true≢false (sym (ap is_past e.reply) ∙ p))
  no-past none e p = refl

  past-kept : (o : Option ℕ) → HasEffect (turned_by W s left out o) r after → is_past r ≡ true → after ≡ out
  past-kept (some i) e p = e.after
  past-kept none e p = absurd (false≢true (sym (listed_no_past out (length left) (patterns_bytes W s left)) ∙ sym (ap is_past e.reply) ∙ p))

-- What is turned by large areas is the listing.
same_effect : (W : Vocabulary) (s : ℕ) (ts : List Term) (out : List ℕ) (o : Option ℕ) →
    turned_by W s (left_in_turn (signature W) s ts (whole_of (signature W) s)) out o ≡ book_into W out (record { kind = s; patterns = ts }) o
same_effect W s ts out (some i) = refl
same_effect W s ts out none = refl

-- ---- the calls

-- The table of siblings is made.
pub read_at : {book settled : List ℕ} {words : ℕ} {missing : std.Option ℕ} → BookAt book words settled missing → (siblings : List ℕ) →
    SiblingTable (min words most_words) settled siblings → ReadAt book siblings settled words missing
read_at h siblings table = record {
  vocabulary = h.vocabulary;
  kind = h.kind;
  patterns = h.patterns;
  tables = record { in_order = h.in_order; settled_of = h.settled_of; siblings_of = table };
  held = h.held;
}

module _ {book settled : List ℕ} {words : ℕ} {missing : std.Option ℕ} (siblings : List ℕ) (made : SiblingTable (min words most_words) settled siblings)
    (out after : List ℕ) (t : Turned) where
  pub large-listed : ListsIn book siblings settled words missing most_listed out after t → ListsBook book words settled missing out after (turn_numbers t)
  unfolding read_at
  large-listed lists h =
      subst (λ e. HasEffect e (turn_numbers t) after)
      (same_effect h.vocabulary h.kind h.patterns out (first_past h.vocabulary h.kind most_listed 0 (whole_of (signature h.vocabulary) h.kind) h.patterns))
      (lists (read_at h siblings made))

  pub small-listed : (room : ℕ) → ListsIn book siblings settled words missing room out after t → room ≤ most_listed → is_past (turn_numbers t) ≡ false →
      ListsBook book words settled missing out after (turn_numbers t)
  small-listed room lists less p = large-listed large
    where
      large : ListsIn book siblings settled words missing most_listed out after t
      large h =
          let W = h.vocabulary in
          let s = h.kind in
          let ts = h.patterns in
          let left : List Term = left_in_turn (signature W) s ts (whole_of (signature W) s) in
          let e : first_past W s room 0 (whole_of (signature W) s) ts ≡ none =
          no-past W s left out (turn_numbers t) after (first_past W s room 0 (whole_of (signature W) s) ts) (lists h) p in
          subst (λ o. HasEffect (turned_by W s left out o) (turn_numbers t) after) (e ∙ sym (past_less W s room most_listed less 0 (whole_of (signature W) s) ts e)) (lists h)

  pub past-listed : (mid : List ℕ) (t₀ : Turned) (room : ℕ) {i : ℕ} → ListsIn book siblings settled words missing room out mid t₀ → t₀ ≡ std.Err (Past i) →
      ListsIn book siblings settled words missing most_listed mid after t → ListsBook book words settled missing out after (turn_numbers t)
  unfolding read_at
  past-listed mid t₀ room small e lists h =
      large-listed (subst (λ l. ListsIn book siblings settled words missing most_listed l after t) kept lists) h
    where
      kept : mid ≡ out
      kept =
          past-kept h.vocabulary h.kind (left_in_turn (signature h.vocabulary) h.kind h.patterns (whole_of (signature h.vocabulary) h.kind)) out (turn_numbers t₀) mid
          (first_past h.vocabulary h.kind room 0 (whole_of (signature h.vocabulary) h.kind) h.patterns) (small (read_at h siblings made)) (ap (λ x. is_past (turn_numbers x)) e)
