-- Filling: each choice of values is a filling's, fillings are known by their values, and by what they turn a pattern into.
use mathlib.Core.Path.{◌≡◌, refl, sym, ◌∙◌, ap, ap₂}
use mathlib.Core.Bool.{true}
use mathlib.Core.List.{List, [], ◌∷◌}
use mathlib.Core.Option.{some-injective}
use Prim.Native.Nat.{ℕ, zero, suc, ◌<◌}
use native.Mathlib.Omega.{arith}
use lib.ListN.{length, get_or}
use lib.Seq.{ext_get_or}
use Rattle.terms.specs.Lists.{occurs, distinct}
use Rattle.terms.specs.Signature.{Signature}
use Rattle.terms.specs.Term.{Ground, SortedG, occurrences, names, open_sorts}
use Rattle.terms.specs.Filling.{Filling, no_ground, value_of, SortedEach, IsFilling}
use Rattle.terms.specs.Laws.{open_at, Gives, EachChoiceHasAFilling, EqualWhereTheyAgree, OneFilling}
use Rattle.terms.specs.Matcher.{matcher}
use Rattle.terms.proofs.All.{all_implies, all_both}
use Rattle.terms.proofs.Distinct.{occurs-distinct, none_twice_distinct}
use Rattle.terms.proofs.Term.{occurrences-named}
use Rattle.terms.proofs.Binding.{given, keys-given, value-given, bindings_equal}
use Rattle.terms.proofs.Fill.{Bound, sorted_each_length}
use Rattle.terms.proofs.Matcher.{matcher_finds}

-- The first n values of w.
abbrev values_of : ℕ → (ℕ → Ground) → List Ground
values_of zero w = []
values_of (suc n) w = w 0 ∷ values_of n (λ i. w (suc i))

values-at : (n : ℕ) (w : ℕ → Ground) (i : ℕ) → i < n → get_or (values_of n w) i no_ground ≡ w i
values-at zero w i h = absurd (omega arith)
values-at (suc n) w zero h = refl
values-at (suc n) w (suc i) h = values-at n (λ j. w (suc j)) i (omega arith)

values-sorted :
    (S : Signature) (ks : List ℕ) (w : ℕ → Ground) → ((i : ℕ) → i < length ks → SortedG S (w i) (get_or ks i 0)) → SortedEach S (values_of (length ks) w) ks
values-sorted S [] w h = tt
values-sorted S (k ∷ ks) w h = (h 0 (omega arith), values-sorted S ks (λ i. w (suc i)) (λ i l. h (suc i) (omega arith)))

pub each_choice_has_a_filling : EachChoiceHasAFilling
each_choice_has_a_filling S p s well v w vs ws = (f, record { keys = keys-given v ns; bound = bound; placed = values-sorted S (open_sorts S p s) w ws }, gives)
  where
    ns : List ℕ
    ns = distinct (names p)

    f : Filling
    f = record { named = given v ns; opened = values_of (length (open_sorts S p s)) w }

    value : (n : ℕ) → occurs n (names p) ≡ true → value_of (given v ns) n ≡ v n
    value n o = value-given v ns n (occurs-distinct n (names p) ∙ o)

    bound : Bound S (given v ns) p s
    bound = all_implies _ _ (λ o h. rw (value o.name h.0) h.1) (occurrences S p s) (all_both _ _ (occurrences S p s) (occurrences-named S p s well) vs)

    gives : Gives S p s v w f
    gives = record { named = value; opened = values-at (length (open_sorts S p s)) w }

pub equal_where_they_agree : EqualWhereTheyAgree
equal_where_they_agree S p s f h i j = (agree, equal)
  where
    size : (k : Filling) → IsFilling S p s k → length k.opened ≡ length (open_sorts S p s)
    size k filling = sorted_each_length S k.opened (open_sorts S p s) filling.placed

    agree : f ≡ h → Gives S p s (value_of h.named) (open_at h) f
    agree e = record { named = λ n o. ap (λ k. value_of k.named n) e; opened = λ n l. ap (λ k. open_at k n) e }

    equal : Gives S p s (value_of h.named) (open_at h) f → f ≡ h
    equal c =
        ap₂ (λ bs gs. record { named = bs; opened = gs })
        (bindings_equal f.named h.named (i.keys ∙ sym j.keys)
        (rw i.keys (none_twice_distinct (names p))) (rw j.keys (none_twice_distinct (names p)))
        (λ n o. c.named n (sym (occurs-distinct n (names p)) ∙ ap (occurs n) (sym i.keys) ∙ o)))
        (ext_get_or no_ground f.opened h.opened (size f i ∙ sym (size h j)) (λ n l. c.opened n (omega (arith, size f i))))

pub one-filling : OneFilling
one-filling S p s f h well i j e =
    some-injective f h (sym (matcher_finds S p s f well i) ∙ ap (matcher p) e ∙ matcher_finds S p s h well j)
