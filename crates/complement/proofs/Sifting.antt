-- Sifting: the listing of an accepted pattern by the table of settled kinds (document 02 (iv)).
--
--   fruitful_patterned, fruitful-listed         where all words of the pattern are productive its listing is document 01's by
--                                               the table
--   none_missing                                .. as they are where every kind has complete situations
--   barren_left, whole-count, whole-bytes       any other pattern leaves 255 alone, or nothing
--   whole-kind, barren_listed                   .. of the pattern's first byte, by whether its kind has a situation
--   kind_missing, kind-listed                   the same pattern and listing, once the lowest kind without situations is known
--   counted, fruitful-told, inhabited-told      what the two tests by the table tell
--   whole_none, whole-no_room, whole-written    the three answers of list_whole
--
use mathlib.Core.Path.{◌≡◌, refl, sym, ap, ap₂, ◌∙◌, subst}
use mathlib.Core.Bool.{Bool, true, false, cond, not, ◌&&◌, and-false, true≢false}
use mathlib.Core.List.{List, [], ◌∷◌, map}
use Prim.Native.Nat.{ℕ, ◌<◌, ◌≤◌}
use native.Mathlib.Omega.{arith}
use lib.ListN.{length, get_or, set, drop}
use Rattle.terms.specs.Signature.{Signature}
use Rattle.terms.specs.Term.{Term, any}
use Rattle.terms.specs.Emptiness.{inhabited}
use Rattle.terms.specs.Productive.{fruitful, whole_of}
use Rattle.terms.proofs.Fitted.{all-fruitful}
use Rattle.terms.proofs.Inhabited.{emptiness_is_exact}
use Rattle.wire.specs.Reply.{Reply, accepted, refused, kinded}
use Rattle.wire.specs.Effect.{HasEffect}
use Rattle.wire.specs.Map.{bit}
use Rattle.wire.specs.Vocabulary.{Vocabulary, signature}
use Rattle.wire.specs.TermBytes.{whole_byte}
use Rattle.wire.specs.Leftovers.{entries_bytes}
use Rattle.wire.specs.ListComputed.{entries_of, listed_into}
use Rattle.wire.specs.Settling.{settled_vocabulary}
use Rattle.wire.proofs.Cond.{cond_false}
use Rattle.wire.proofs.Settling.{settled-count, settled-in_order, settled-entries, settled-holds, fruitful-leftovers}
use Rattle.wire.proofs.Words.{in_order_well_formed}
use Rattle.signature.specs.Settled.{found_kind}
use Rattle.std.specs.Prelude.{Option}
use Rattle.std.specs.Prelude.{Some, None}
use Rattle.productive.specs.Tests.{fruitful_in, inhabited_in}
use Rattle.productive.proofs.Tabled.{fruitful-test, inhabited-test}
use Rattle.complement.specs.Calls.{Patterned, ListsLinear}
use Rattle.complement.specs.Sifting.{SettledPattern, MissingKind, whole_only, ListsWhole, left_of, left_bytes, ListsSettled}
use Rattle.complement.proofs.Linear.{shows_no_room, shows_written}

module _ {p : List ℕ} {words : ℕ} {table : List ℕ} {k : Option ℕ} (h : SettledPattern p words table k) where
  abbrev W : Vocabulary
  W = h.vocabulary

  abbrev S : Signature
  S = signature W

  abbrev s : ℕ
  s = h.kind

  abbrev t : Term
  t = h.term

  abbrev pub Fruitful : Bool → Type 0
  Fruitful b = fruitful S t ≡ b

  -- ---- a pattern all of whose words are productive

  pub fruitful_patterned : Fruitful true → Patterned p words table
  fruitful_patterned e = record {
    vocabulary = settled_vocabulary W;
    kind = s;
    term = t;
    in_order = settled-in_order W h.in_order;
    tabled = h.settled.tabled;
    held = settled-holds W p s t h.in_order h.held e;
  }

  pub fruitful-listed : Fruitful true → (before : List ℕ) {r : Reply} {after : List ℕ} → ListsLinear p words table before after r →
      HasEffect (listed_into before (length (left_of h)) (left_bytes h)) r after
  unfolding fruitful_patterned
  fruitful-listed e before {r} {after} l =
      let same : entries_of (settled_vocabulary W) s t ≡ left_of h = sym (fruitful-leftovers W p s t h.in_order h.held e) in
      subst (λ x. HasEffect x r after)
      (ap (λ x. listed_into before (length x) (entries_bytes (settled_vocabulary W) x)) same
      ∙ ap (listed_into before (length (left_of h))) (settled-entries W (left_of h)))
      (l (fruitful_patterned e))

  pub none_missing : k ≡ None → Fruitful true
  none_missing e =
      let wf = in_order_well_formed W h.in_order in
      all-fruitful S wf ((emptiness_is_exact S wf).missed.0 (sym h.settled.found ∙ ap found_kind e)) t s h.held.good.sorted.sorted

  -- ---- any other

  barren_left : Fruitful false → left_of h ≡ map (kinded s) (whole_of S s)
  barren_left e = ap (map (kinded s)) (cond_false _ _ _ (ap (λ b. inhabited S s && b) e ∙ and-false (inhabited S s)))

  whole-count : (b : Bool) → length (map (kinded s) (cond b (any ∷ []) [])) ≡ bit b
  whole-count true = refl
  whole-count false = refl

  whole-bytes : (b : Bool) → entries_bytes W (map (kinded s) (cond b (any ∷ []) [])) ≡ whole_only s b
  whole-bytes true = refl
  whole-bytes false = refl

  pub whole-kind : get_or p 0 0 ≡ s
  whole-kind = ap (λ l. get_or l 0 0) h.held.written

  pub barren_listed : Fruitful false → (before : List ℕ) {b : Bool} {r : Reply} {after : List ℕ} → b ≡ inhabited S s →
      ListsWhole (get_or p 0 0) b before after r → HasEffect (listed_into before (length (left_of h)) (left_bytes h)) r after
  barren_listed e before {b} {r} {after} i l =
      subst (λ x. HasEffect x r after)
      (ap₂ (λ n x. listed_into before (bit x) (whole_only n x)) whole-kind i
      ∙ sym (ap₂ (listed_into before) (whole-count (inhabited S s)) (whole-bytes (inhabited S s)))
      ∙ sym (ap (λ x. listed_into before (length x) (entries_bytes W x)) (barren_left e)))
      l

-- ---- the lowest kind without complete situations is known

module _ {p : List ℕ} {words : ℕ} {table : List ℕ} {k : Option ℕ} {e : ℕ} (known : k ≡ Some e) where
  pub kind_missing : SettledPattern p words table k → MissingKind p words table e
  kind_missing = subst (SettledPattern p words table) known

  pub kind-listed : (before : List ℕ) {r : Reply} {after : List ℕ} → ListsSettled p words table e before after r →
      (h : SettledPattern p words table k) → HasEffect (listed_into before (length (left_of h)) (left_bytes h)) r after
  kind-listed before {r} {after} =
      subst (λ k. (h : SettledPattern p words table k) → HasEffect (listed_into before (length (left_of h)) (left_bytes h)) r after) (sym known)

-- ---- the tests by the table

module _ {p : List ℕ} {words : ℕ} {table : List ℕ} {e : ℕ} (h : MissingKind p words table e) where
  counted : words ≡ length h.vocabulary.words
  counted = h.settled.tabled.words ∙ settled-count h.vocabulary

  pub fruitful-told : {b : Bool} → b ≡ fruitful_in words table e p → {c : Bool} → b ≡ c → Fruitful h c
  fruitful-told told is =
      sym
      (fruitful-test h.vocabulary h.in_order e (sym h.settled.found) h.kind h.term h.held.good
      (omega (arith, h.held.limits.most, ap length h.held.written)) words table counted h.settled.tabled.result)
      ∙ ap (fruitful_in words table e) (sym h.held.written)
      ∙ sym told
      ∙ is

  pub inhabited-told : {n : ℕ} → n ≡ get_or p 0 0 → {b : Bool} → b ≡ inhabited_in words table e n → b ≡ inhabited (signature h.vocabulary) h.kind
  inhabited-told first told =
      told
      ∙ ap (inhabited_in words table e) (first ∙ whole-kind h)
      ∙ inhabited-test h.vocabulary h.in_order e (sym h.settled.found) words table counted h.settled.tabled.result h.kind

-- ---- what list_whole writes

module _ (kind : ℕ) (before : List ℕ) where
  pub whole_none : (b : Bool) → not b ≡ true → ListsWhole kind b before before (accepted (0 ∷ 0 ∷ []))
  whole_none true e = absurd (true≢false (sym e))
  whole_none false e = shows_written before 0 [] 0 0 refl refl (omega arith) refl

  pub whole-no_room : (b : Bool) → not b ≡ false → length before < 2 → ListsWhole kind b before before (refused 20 3 2)
  whole-no_room true e short = shows_no_room before 1 (whole_only kind true) 1 2 refl refl short
  whole-no_room false e short = absurd (true≢false e)

  pub whole-written : (b : Bool) → not b ≡ false → 2 ≤ length before →
      ListsWhole kind b before (set (set before 0 kind) 1 whole_byte) (accepted (1 ∷ 2 ∷ []))
  whole-written false e fits = absurd (true≢false e)
  whole-written true e fits = shows_written before 1 (whole_only kind true) 1 2 refl refl fits (go before fits)
    where
      go : (l : List ℕ) → 2 ≤ length l → set (set l 0 kind) 1 whole_byte ≡ kind ∷ whole_byte ∷ drop 2 l
      go [] few = absurd (omega arith)
      go (x ∷ []) few = absurd (omega arith)
      go (x ∷ y ∷ l) few = refl
