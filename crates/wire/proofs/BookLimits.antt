-- BookLimits: the first pattern of a book behind which what is left passes a limit.
--
--   long_is, passes_is     the tests say what the definitions say
--   PastOf, first_past_lem     what the search for such a pattern finds, from some pattern on
--   Found, found           what it finds in a book
--   past_is, within_is     it finds what there is
--
use mathlib.Core.Path.{◌≡◌, refl, sym, ap, ◌∙◌, subst}
use mathlib.Core.Bool.{Bool, true, false, ◌||◌, true≢false, false≢true}
use mathlib.Core.List.{List, [], ◌∷◌}
use mathlib.Core.Logic.{◌↔◌, ◌⊎◌, inl, inr}
use mathlib.Core.Option.{Option, some, none}
use Prim.Native.Nat.{ℕ, zero, suc, ◌+◌, ◌<◌}
use native.Mathlib.Omega.{arith}
use lib.Dec.{ltb}
use lib.ListN.{length, get_or, take}
use borrow.Author.Tests.{lt-ltb, ltb-true}
use Rattle.terms.specs.Term.{Term, any}
use Rattle.terms.specs.Signature.{WellFormed}
use Rattle.terms.specs.Book.{IsBookListing}
use Rattle.terms.specs.Productive.{whole_of, left_behind, left_in_turn, book_listing_of}
use Rattle.terms.specs.Laws.{PatternsOfSort}
use Rattle.terms.proofs.All.{all_take}
use Rattle.terms.proofs.Theorems.{book_listing_is_one}
use Rattle.wire.specs.Vocabulary.{Vocabulary, signature}
use Rattle.wire.specs.TermBytes.{encode_term, most_bytes}
use Rattle.wire.specs.BookBytes.{patterns_bytes}
use Rattle.wire.specs.BookLeftovers.{most_listed, PassesLimit, PassesBehind, FirstPast, WithinLimits}
use Rattle.wire.specs.BookComputed.{some_long, passes, first_past}
use Rattle.wire.proofs.Cond.{choice}

-- A test of two is passed where one of them is.
or_is : (a b : Bool) (P Q : Type 0) → (a ≡ true) ↔ P → (b ≡ true) ↔ Q → ((a || b) ≡ true) ↔ (P ⊎ Q)
or_is true b P Q p q = ((λ e. inl (p.0 refl)), (λ h. refl))
or_is false b P Q p q = (
  (λ e. inr (q.0 e)),
  λ h. elim h [
    | inl x ↦ absurd (false≢true (p.1 x))
    | inr y ↦ q.1 y
  ],
)

antisymmetric : {i j : ℕ} → (j < i → ⊥) → (i < j → ⊥) → j ≡ i
antisymmetric f g = omega arith

module _ (W : Vocabulary) (s : ℕ) where
  abbrev long : Term → Bool
  long e = ltb most_bytes (length (encode_term W s e))

  abbrev SomeLong : List Term → Type 0
  SomeLong l = (i : ℕ) × (i < length l) × (most_bytes < length (encode_term W s (get_or l i any)))

  ltb_is : (a b : ℕ) → (ltb a b ≡ true) ↔ (a < b)
  ltb_is a b = (ltb-true a b, lt-ltb a b)

  -- Some entry of e ∷ l is long where e is, or one of l.
  long-more : (e : Term) (l : List Term) → ((most_bytes < length (encode_term W s e)) ⊎ SomeLong l) ↔ SomeLong (e ∷ l)
  long-more e l = (
    (λ h. elim h [
      | inl b ↦ (0, omega arith, b)
      | inr (i, below, b) ↦ (suc i, omega arith, b)
    ]),
    λ h. back h.0 h.1 h.2,
  )
    where
      back : (i : ℕ) → i < suc (length l) → most_bytes < length (encode_term W s (get_or (e ∷ l) i any)) → (most_bytes < length (encode_term W s e)) ⊎ SomeLong l
      back zero below b = inl b
      back (suc i) below b = inr (i, omega arith, b)

  long_is : (l : List Term) → (some_long W s l ≡ true) ↔ SomeLong l
  long_is [] = ((λ e. absurd (false≢true e)), λ (i, below, b). absurd (omega arith))
  long_is (e ∷ l) =
      let one = or_is (long e) (some_long W s l) _ _ (ltb_is most_bytes (length (encode_term W s e))) (long_is l) in
      let more = long-more e l in
      ((λ h. more.0 (one.0 h)), λ h. one.1 (more.1 h))

  pub passes_is : (l : List Term) → (passes W s most_listed l ≡ true) ↔ PassesLimit W s l
  passes_is l =
      or_is (ltb most_listed (length (patterns_bytes W s l))) (some_long W s l) _ _ (ltb_is most_listed (length (patterns_bytes W s l))) (long_is l)

  -- What is left of the entries l behind the first patterns of ts, up to the k-th.
  abbrev PassesAt : List Term → List Term → ℕ → Type 0
  PassesAt l ts k = PassesLimit W s (left_in_turn (signature W) s (take (suc k) ts) l)

  -- The search for the first such pattern of ts, counted from i, found o.
  abbrev PastOf : ℕ → List Term → List Term → Option ℕ → Type 0
  PastOf i l ts (some j) =
      (k : ℕ) × (j ≡ i + k) × (k < length ts) × PassesAt l ts k × ((m : ℕ) → m < k → PassesAt l ts m → ⊥)
  PastOf i l ts none = (m : ℕ) → m < length ts → PassesAt l ts m → ⊥

  -- What is left of the entries l behind t passes no limit.
  module _ (l : List Term) (t : Term) (ts : List Term) (e : passes W s most_listed (left_behind (signature W) s t l) ≡ false) where
    earlier : (k : ℕ) → ((m : ℕ) → m < k → PassesAt (left_behind (signature W) s t l) ts m → ⊥) →
        (m : ℕ) → m < suc k → PassesAt l (t ∷ ts) m → ⊥
    earlier k h zero below p = true≢false (sym ((passes_is (left_behind (signature W) s t l)).1 p) ∙ e)
    earlier k h (suc m) below p = h m (omega arith) p

    later : (i : ℕ) (o : Option ℕ) → PastOf (suc i) (left_behind (signature W) s t l) ts o → PastOf i l (t ∷ ts) o
    later i (some j) (k, at, below, p, h) = (suc k, omega arith, omega arith, p, earlier k h)
    later i none h = earlier (length ts) h

  first_past_lem : (i : ℕ) (l ts : List Term) → PastOf i l ts (first_past W s most_listed i l ts)
  first_past_lem i l [] = λ m below. absurd (omega arith)
  first_past_lem i l (t ∷ ts) =
      let left : List Term = left_behind (signature W) s t l in
      choice (PastOf i l (t ∷ ts)) (passes W s most_listed left) (some i) (first_past W s most_listed (suc i) left ts)
      (λ e. (0, omega arith, omega arith, (passes_is left).0 e, λ m below. absurd (omega arith)))
      (λ e. later l t ts e i (first_past W s most_listed (suc i) left ts) (first_past_lem (suc i) left ts))

  -- The search in the book of the patterns ts found o.
  abbrev pub Found : List Term → Option ℕ → Type 0
  Found ts (some i) = FirstPast W s ts i
  Found ts none = WithinLimits W s ts

  abbrev pub search : List Term → Option ℕ
  search ts = first_past W s most_listed 0 (whole_of (signature W) s) ts

  module _ (wf : WellFormed (signature W)) (ts : List Term) (hs : PatternsOfSort (signature W) s ts) where
    -- What is left behind the first patterns is computed.
    behind_is : (k : ℕ) → PassesBehind W s (take (suc k) ts) ↔ PassesAt (whole_of (signature W) s) ts k
    behind_is k = (
      (λ (l, h, p). subst (PassesLimit W s) ((one l).0 h) p),
      λ p. (book_listing_of (signature W) s (take (suc k) ts), (one _).1 refl, p),
    )
      where
        one : (l : List Term) → IsBookListing (signature W) s (take (suc k) ts) l ↔ (l ≡ book_listing_of (signature W) s (take (suc k) ts))
        one = book_listing_is_one (signature W) (take (suc k) ts) s wf (all_take _ (suc k) ts hs)

    pub found : Found ts (search ts)
    found = go (search ts) (first_past_lem 0 (whole_of (signature W) s) ts)
      where
        go : (o : Option ℕ) → PastOf 0 (whole_of (signature W) s) ts o → Found ts o
        go (some j) (k, at, below, p, h) =
            subst (FirstPast W s ts) (omega arith)
            (record { below = below; passes = (behind_is k).1 p; first = λ m low q. h m low ((behind_is m).0 q) })
        go none h = λ m below q. h m below ((behind_is m).0 q)

    pub past_is : (i : ℕ) → FirstPast W s ts i → search ts ≡ some i
    past_is i h = go (search ts) found
      where
        -- Neither of two first ones is before the other.
        go : (o : Option ℕ) → Found ts o → o ≡ some i
        go (some j) k = ap some (antisymmetric (λ less. h.first j less k.passes) (λ less. k.first i less h.passes))
        go none limits = absurd (limits i h.below h.passes)

    pub within_is : WithinLimits W s ts → search ts ≡ none
    within_is limits = go (search ts) found
      where
        go : (o : Option ℕ) → Found ts o → o ≡ none
        go (some j) k = absurd (limits j k.below k.passes)
        go none h = refl
