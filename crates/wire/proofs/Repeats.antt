-- Repeats: the earliest byte at which a name stands for the second time is found, and none is found exactly where no name stands twice.
--
--   names_of, placed-names     the names of a term, with their places
--   repeated_is_exact         the byte that is found is the earliest
--   repeated_inside           it is one of the term's bytes
--   unrepeated_is_linear      none is found exactly where no name stands twice
--
use mathlib.Core.Path.{◌≡◌, refl, sym, ap, ap₂, ◌∙◌, subst}
use mathlib.Core.Bool.{Bool, true, false, cond, ◌||◌}
use mathlib.Core.List.{List, [], ◌∷◌, ◌++◌, map}
use mathlib.Core.Logic.{◌↔◌}
use mathlib.Core.Option.{some, none, none-ne-some}
use Prim.Native.Nat.{ℕ, zero, suc, ◌+◌, ◌<◌, ◌≤◌}
use native.Mathlib.Omega.{arith}
use lib.Dec.{eqb}
use lib.ListN.{length, get_or, take, length-append}
use Rattle.terms.specs.Lists.{All, occurs, NoneTwice}
use Rattle.terms.specs.Term.{Term, any, var, app, Terms, nil, cons, names, names_all, Linear}
use Rattle.terms.proofs.All.{all_append, all-at}
use Rattle.terms.proofs.Bools.{eqb_sym, or_parts, or_neither}
use Rattle.wire.specs.Map.{map_bytes}
use Rattle.wire.specs.Vocabulary.{Vocabulary}
use Rattle.wire.specs.TermBytes.{encode_at, encode_all, encode_root, encode_term}
use Rattle.wire.specs.PatternLines.{Sighting, sightings_from, sightings_all, sightings, no_sighting, RepeatedAt}
use Rattle.wire.specs.ListComputed.{repeated_in}
use Rattle.wire.proofs.Cond.{cond_true, cond_false}

abbrev pub names_of : List Sighting → List ℕ
names_of l = map (λ o. o.name) l

-- ---- the names of a term

names-append : (l m : List Sighting) → names_of (l ++ m) ≡ names_of l ++ names_of m
names-append [] m = refl
names-append (o ∷ l) m = ap (λ z. o.name ∷ z) (names-append l m)

mutual
  pub placed-names : (W : Vocabulary) (t : Term) (at : ℕ) → names_of (sightings_from W t at) ≡ names t
  placed-names W any at = refl
  placed-names W (var n) at = refl
  placed-names W (app f ts) at = placed-names_all W ts (at + 1 + map_bytes)

  placed-names_all : (W : Vocabulary) (ts : Terms) (at : ℕ) → names_of (sightings_all W ts at) ≡ names_all ts
  placed-names_all W nil at = refl
  placed-names_all W (cons t ts) at =
      names-append (sightings_from W t at) (sightings_all W ts (at + length (encode_at W t)))
      ∙ ap₂ (λ l m. l ++ m) (placed-names W t at) (placed-names_all W ts (at + length (encode_at W t)))

-- A name's byte is one of the term's.
module _ (W : Vocabulary) (end : ℕ) where
  abbrev Before : Sighting → Type 0
  Before o = o.offset < end

  mutual
    placed-before : (t : Term) (at : ℕ) → at + length (encode_at W t) ≤ end → All Before (sightings_from W t at)
    placed-before any at h = tt
    placed-before (var n) at h = (omega arith, tt)
    placed-before (app f ts) at h = placed_before_all ts (at + 1 + map_bytes) (omega arith)

    placed_before_all : (ts : Terms) (at : ℕ) → at + length (encode_all W ts) ≤ end → All Before (sightings_all W ts at)
    placed_before_all nil at h = tt
    placed_before_all (cons t ts) at h =
        let size = length-append (encode_at W t) (encode_all W ts) in
        all_append Before (sightings_from W t at) (sightings_all W ts (at + length (encode_at W t))) (placed-before t at (omega arith))
        (placed_before_all ts (at + length (encode_at W t)) (omega arith))

root_longer : (W : Vocabulary) (t : Term) → length (encode_at W t) ≤ length (encode_root W t)
root_longer W any = omega arith
root_longer W (var n) = omega arith
root_longer W (app f ts) = omega arith

-- ---- names that stood before, here or among `seen`

abbrev before : List ℕ → List Sighting → ℕ → Bool
before seen l j = occurs (get_or l j no_sighting).name (names_of (take j l)) || occurs (get_or l j no_sighting).name seen

or_swap : (a b c : Bool) → ((a || b) || c) ≡ (b || (a || c))
or_swap true true c = refl
or_swap true false c = refl
or_swap false b c = refl

before_shift : (seen : List ℕ) (o : Sighting) (l : List Sighting) (j : ℕ) → before seen (o ∷ l) (suc j) ≡ before (o.name ∷ seen) l j
before_shift seen o l j =
    let n : ℕ = (get_or l j no_sighting).name in
    or_swap (eqb n o.name) (occurs n (names_of (take j l))) (occurs n seen)

record RepeatedFrom (seen : List ℕ) (l : List Sighting) (q : ℕ) : Type 0 where
  index : ℕ
  below : index < length l
  here : (get_or l index no_sighting).offset ≡ q
  again : before seen l index ≡ true
  first : (j : ℕ) → j < index → before seen l j ≡ false

found_repeated : (seen : List ℕ) (l : List Sighting) (q : ℕ) → repeated_in seen l ≡ some q → RepeatedFrom seen l q
found_repeated seen [] q e = absurd (none-ne-some q e)
found_repeated seen (o ∷ l) q e = go (occurs o.name seen) refl e (found_repeated (o.name ∷ seen) l q)
  where
    go : (b : Bool) → occurs o.name seen ≡ b → cond b (some o.offset) (repeated_in (o.name ∷ seen) l) ≡ some q →
        (repeated_in (o.name ∷ seen) l ≡ some q → RepeatedFrom (o.name ∷ seen) l q) → RepeatedFrom seen (o ∷ l) q
    go true h e rest = record { index = 0; below = omega arith; here = cc; again = h; first = λ j k. absurd (omega arith) }
    go false h e rest =
        let r = rest e in
        record {
          index = suc r.index;
          below = let b = r.below in omega arith;
          here = r.here;
          again = before_shift seen o l r.index ∙ r.again;
          first = first_of r;
        }
      where
        first_of : (r : RepeatedFrom (o.name ∷ seen) l q) (j : ℕ) → j < suc r.index → before seen (o ∷ l) j ≡ false
        first_of r zero k = h
        first_of r (suc j) k = before_shift seen o l j ∙ r.first j (omega arith)

repeated_found : (seen : List ℕ) (l : List Sighting) (q i : ℕ) → i < length l → (get_or l i no_sighting).offset ≡ q → before seen l i ≡ true →
    ((j : ℕ) → j < i → before seen l j ≡ false) → repeated_in seen l ≡ some q
repeated_found seen [] q i below here again first = absurd (omega arith)
repeated_found seen (o ∷ l) q zero below here again first = cond_true (occurs o.name seen) _ _ again ∙ ap some here
repeated_found seen (o ∷ l) q (suc i) below here again first =
    cond_false (occurs o.name seen) _ _ (first 0 (omega arith))
    ∙ repeated_found (o.name ∷ seen) l q i (omega arith) here (sym (before_shift seen o l i) ∙ again)
    (λ j k. sym (before_shift seen o l j) ∙ first (suc j) (omega arith))

or-false : (b : Bool) → (b || false) ≡ b
or-false true = refl
or-false false = refl

-- The search gives the earliest byte at which a name stands for the second time.
pub repeated_is_exact : (l : List Sighting) (q : ℕ) → (repeated_in [] l ≡ some q) ↔ RepeatedAt l q
repeated_is_exact l q = (
  (λ e.
      let r = found_repeated [] l q e in
      record {
        index = r.index;
        below = r.below;
        here = r.here;
        again = sym (or-false _) ∙ r.again;
        first = λ j k. sym (or-false _) ∙ r.first j k;
      }),
  (λ r. repeated_found [] l q r.index r.below r.here (or-false _ ∙ r.again) (λ j k. or-false _ ∙ r.first j k)),
)

pub repeated_inside : (W : Vocabulary) (s : ℕ) (t : Term) (q : ℕ) → RepeatedAt (sightings W t) q → q < length (encode_term W s t)
repeated_inside W s t q r =
    let all = placed-before W (length (encode_term W s t)) t 1 (omega (arith, root_longer W t)) in
    let inside = all-at (Before W (length (encode_term W s t))) no_sighting (sightings W t) all r.index r.below in
    omega (arith, r.here)

-- ---- no name stands twice

-- A number that is none of l occurs nowhere in it, and the other way round.
occurs_none : (n : ℕ) (l seen : List ℕ) → All (λ m. occurs m (n ∷ seen) ≡ false) l → (occurs n l ≡ false) × All (λ m. occurs m seen ≡ false) l
occurs_none n [] seen h = (refl, tt)
occurs_none n (m ∷ l) seen h =
    let a = or_parts (eqb m n) (occurs m seen) h.0 in
    let r = occurs_none n l seen h.1 in
    (or_neither (eqb n m) (occurs n l) (eqb_sym n m ∙ a.0) r.0, (a.1, r.1))

none_occurs : (n : ℕ) (l seen : List ℕ) → occurs n l ≡ false → All (λ m. occurs m seen ≡ false) l → All (λ m. occurs m (n ∷ seen) ≡ false) l
none_occurs n [] seen h a = tt
none_occurs n (m ∷ l) seen h a =
    let r = or_parts (eqb n m) (occurs n l) h in
    (or_neither (eqb m n) (occurs m seen) (eqb_sym m n ∙ r.0) a.0, none_occurs n l seen r.1 a.1)

missed_none_twice : (seen : List ℕ) (l : List Sighting) → repeated_in seen l ≡ none →
    NoneTwice (names_of l) × All (λ n. occurs n seen ≡ false) (names_of l)
missed_none_twice seen [] e = (tt, tt)
missed_none_twice seen (o ∷ l) e = go (occurs o.name seen) refl e (missed_none_twice (o.name ∷ seen) l)
  where
    go : (b : Bool) → occurs o.name seen ≡ b → cond b (some o.offset) (repeated_in (o.name ∷ seen) l) ≡ none →
        (repeated_in (o.name ∷ seen) l ≡ none → NoneTwice (names_of l) × All (λ n. occurs n (o.name ∷ seen) ≡ false) (names_of l)) →
        NoneTwice (names_of (o ∷ l)) × All (λ n. occurs n seen ≡ false) (names_of (o ∷ l))
    go true h e rest = absurd (none-ne-some o.offset (sym e))
    go false h e rest =
        let r = rest e in
        let a = occurs_none o.name (names_of l) seen r.1 in
        ((a.0, r.0), (h, a.1))

none_twice_missed : (seen : List ℕ) (l : List Sighting) → NoneTwice (names_of l) → All (λ n. occurs n seen ≡ false) (names_of l) →
    repeated_in seen l ≡ none
none_twice_missed seen [] u a = refl
none_twice_missed seen (o ∷ l) u a =
    cond_false (occurs o.name seen) _ _ a.0
    ∙ none_twice_missed (o.name ∷ seen) l u.1 (none_occurs o.name (names_of l) seen u.0 a.1)

all_unseen : (l : List ℕ) → All (λ n. occurs n [] ≡ false) l
all_unseen [] = tt
all_unseen (n ∷ l) = (refl, all_unseen l)

-- Nothing is found in a term exactly where no name stands twice in it.
pub unrepeated_is_linear : (W : Vocabulary) (t : Term) → (repeated_in [] (sightings W t) ≡ none) ↔ Linear t
unrepeated_is_linear W t = (
  (λ e. subst NoneTwice (placed-names W t 1) (missed_none_twice [] (sightings W t) e).0),
  (λ h. none_twice_missed [] (sightings W t) (subst NoneTwice (sym (placed-names W t 1)) h) (all_unseen (names_of (sightings W t)))),
)
