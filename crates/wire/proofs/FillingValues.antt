-- FillingValues: the values of a filling, one for each name of the pattern, as the terms that are due behind the bit map.
--
--   values_of bs             the values of the bindings bs
--   bindings-parts, bindings-joined, bindings_back    names and values put together, and taken apart
--   row_values              the values are written as those terms
--   names_hold              what holds of each name at the kind due holds of each occurrence
--   due_of l n               what is due for the name n, whose occurrences l tells
--   values-good, good-sorted, good-fits    bindings of the pattern's names are a good filling exactly where their values
--                           are of the kinds due, and fit
--
use mathlib.Core.Path.{◌≡◌, refl, sym, ap, subst, ◌∙◌}
use mathlib.Core.Bool.{true, false}
use mathlib.Core.List.{List, [], ◌∷◌, ◌++◌, map}
use Prim.Native.Nat.{ℕ, ◌<◌, ◌≤◌}
use native.Mathlib.Omega.{arith}
use Rattle.terms.specs.Lists.{All, occurs, NoneTwice, range}
use Rattle.terms.specs.Signature.{Signature}
use Rattle.terms.specs.Term.{Term, Ground, Grounds, gnil, gcons, SortedG, SortedGs, as_term, as_terms, Occurrence, occurrences, names, sort_in}
use Rattle.terms.specs.Filling.{Binding, value_of}
use Rattle.terms.proofs.All.{all_implies, all_both, all_always, all_keep}
use Rattle.terms.proofs.Binding.{keys_of, given, given-values}
use Rattle.terms.proofs.Occurs.{occurs-all}
use Rattle.terms.proofs.Term.{names-occurrences, occurrences-named}
use Rattle.terms.proofs.Sorts.{sort_in_lem, sorts_in}
use Rattle.wire.specs.Row.{write_row}
use Rattle.wire.specs.Vocabulary.{Vocabulary, signature}
use Rattle.wire.specs.TermBytes.{name_count, encode_at, encode_all, GoodTerm, levels, most_levels}
use Rattle.wire.specs.TermLines.{Due}
use Rattle.wire.specs.FillingFile.{ascending, write_value, GoodFilling}
use Rattle.wire.specs.FillingLines.{values_due}
use Rattle.wire.specs.FillComputed.{bindings}
use Rattle.wire.proofs.GroundBytes.{joined}
use Rattle.wire.proofs.FullTerms.{sorts_due, FitsDue}
use Rattle.wire.proofs.NameMaps.{occurs-ascending, ascending-once}

abbrev pub values_of : List Binding → Grounds
values_of [] = gnil
values_of (b ∷ bs) = gcons b.value (values_of bs)

pub row_values : (W : Vocabulary) (bs : List Binding) → write_row (write_value W) bs ≡ encode_all W (as_terms (values_of bs))
row_values W [] = refl
row_values W (b ∷ bs) = ap (λ l. encode_at W (as_term b.value) ++ l) (row_values W bs)

pub bindings_back : (bs : List Binding) → bindings (keys_of bs) (values_of bs) ≡ bs
bindings_back [] = refl
bindings_back (b ∷ bs) = ap {B = List Binding} (λ l. b ∷ l) (bindings_back bs)

module _ (d : ℕ → Due) where
  pub bindings-parts : (gs : Grounds) (ns : List ℕ) → FitsDue gs (map d ns) → (keys_of (bindings ns gs) ≡ ns) × (values_of (bindings ns gs) ≡ gs)
  bindings-parts gnil [] f = (refl, refl)
  bindings-parts gnil (n ∷ ns) f = absurd f
  bindings-parts (gcons g gs) [] f = absurd f
  bindings-parts (gcons g gs) (n ∷ ns) f =
      let r = bindings-parts gs ns f.1 in
      (ap {B = List ℕ} (λ l. n ∷ l) r.0, ap (gcons g) r.1)

  -- Names and values in two parts are bound part by part.
  pub bindings-joined : (gs hs : Grounds) (ns ms : List ℕ) → FitsDue gs (map d ns) → bindings (ns ++ ms) (joined gs hs) ≡ bindings ns gs ++ bindings ms hs
  bindings-joined gnil hs [] ms f = refl
  bindings-joined gnil hs (n ∷ ns) ms f = absurd f
  bindings-joined (gcons g gs) hs [] ms f = absurd f
  bindings-joined (gcons g gs) hs (n ∷ ns) ms f = ap {B = List Binding} (λ l. record { name = n; value = g } ∷ l) (bindings-joined gs hs ns ms f.1)

-- ---- the kinds at which names stand

module _ (W : Vocabulary) (s : ℕ) (t : Term) (good : GoodTerm W s t) (P : ℕ → ℕ → Type 0) where
  abbrev seen : List Occurrence
  seen = occurrences (signature W) t s

  -- What holds of each occurrence holds of each name at the kind due, and the other way round.
  occurrences-names : All (λ o. P o.name o.sort) seen → All (λ n. P n (sort_in seen n)) (ascending t)
  occurrences-names a =
      all_implies (λ n. Unit {0} × (occurs n (names t) ≡ true)) (λ n. P n (sort_in seen n))
      (λ n k. sort_in_lem P n seen (ap (occurs n) (names-occurrences (signature W) t s good.sorted.sorted) ∙ k.1) a)
      (ascending t) (all_keep (λ n. Unit {0}) (λ n. occurs n (names t)) (range 0 name_count) (all_always (λ n. Unit {0}) (λ n. tt) (range 0 name_count)))

  -- For any names among which each of the pattern's is.
  pub names_hold : (ns : List ℕ) → ((n : ℕ) → occurs n (names t) ≡ true → occurs n ns ≡ true) →
      All (λ n. P n (sort_in seen n)) ns → All (λ o. P o.name o.sort) seen
  names_hold ns among a =
      all_implies (λ o. (occurs o.name (names t) ≡ true) × (sort_in seen o.name ≡ o.sort)) (λ o. P o.name o.sort)
      (λ o k. subst (P o.name) k.1 (occurs-all (λ n. P n (sort_in seen n)) o.name ns (among o.name k.0) a)) seen
      (all_both (λ o. occurs o.name (names t) ≡ true) (λ o. sort_in seen o.name ≡ o.sort) seen
      (occurrences-named (signature W) t s good.sorted.sorted) (sorts_in seen good.sorted.consistent))

  names_occurrences_hold : All (λ n. P n (sort_in seen n)) (ascending t) → All (λ o. P o.name o.sort) seen
  names_occurrences_hold a =
      names_hold (ascending t) (λ n k. occurs-ascending t n (occurs-all (λ n. n < name_count) n (names t) k good.named) ∙ k) a

-- ---- what is due, and the values

module _ (l : List Occurrence) where
  -- A value is due for the name n, at the first level.
  abbrev pub due_of : ℕ → Due
  due_of n = record { sort = sort_in l n; level = 1; root = false }

  shallow_fits : (bs : List Binding) → All (λ b. levels (as_term b.value) ≤ most_levels) bs → FitsDue (values_of bs) (map due_of (keys_of bs))
  shallow_fits [] a = tt
  shallow_fits (b ∷ bs) a = (let h = a.0 in omega arith, shallow_fits bs a.1)

  fits-shallow : (bs : List Binding) → FitsDue (values_of bs) (map due_of (keys_of bs)) → All (λ b. levels (as_term b.value) ≤ most_levels) bs
  fits-shallow [] f = tt
  fits-shallow (b ∷ bs) f = (let h = f.0 in omega arith, fits-shallow bs f.1)

  module _ (S : Signature) (v : ℕ → Ground) where
    given-sorted : (ns : List ℕ) → All (λ n. SortedG S (v n) (sort_in l n)) ns → SortedGs S (values_of (given v ns)) (sorts_due (map due_of ns))
    given-sorted [] a = tt
    given-sorted (n ∷ ns) a = (a.0, given-sorted ns a.1)

    sorted-given : (ns : List ℕ) → SortedGs S (values_of (given v ns)) (sorts_due (map due_of ns)) → All (λ n. SortedG S (v n) (sort_in l n)) ns
    sorted-given [] h = tt
    sorted-given (n ∷ ns) h = (h.0, sorted-given ns h.1)

module _ (W : Vocabulary) (s : ℕ) (t : Term) (good : GoodTerm W s t) (bs : List Binding) (keys : keys_of bs ≡ ascending t) where
  abbrev l : List Occurrence
  l = occurrences (signature W) t s

  abbrev Valued : ℕ → ℕ → Type 0
  Valued n k = SortedG (signature W) (value_of bs n) k

  -- Each name's value, in the order of the names.
  values-given : values_of (given (value_of bs) (ascending t)) ≡ values_of bs
  values-given =
      ap (λ ns. values_of (given (value_of bs) ns)) (sym keys)
      ∙ ap values_of (given-values bs (subst NoneTwice (sym keys) (ascending-once t)))

  pub values-good : SortedGs (signature W) (values_of bs) (sorts_due (values_due W s t)) → FitsDue (values_of bs) (values_due W s t) → GoodFilling W s t bs
  values-good h f = record {
    keys = keys;
    sorted =
        names_occurrences_hold W s t good Valued
        (sorted-given l (signature W) (value_of bs) (ascending t)
        (subst (λ gs. SortedGs (signature W) gs (sorts_due (values_due W s t))) (sym values-given) h));
    shallow = fits-shallow l bs (subst (λ ns. FitsDue (values_of bs) (map (due_of l) ns)) (sym keys) f);
  }

  pub good-sorted : GoodFilling W s t bs → SortedGs (signature W) (values_of bs) (sorts_due (values_due W s t))
  good-sorted g =
      subst (λ gs. SortedGs (signature W) gs (sorts_due (values_due W s t))) values-given
      (given-sorted l (signature W) (value_of bs) (ascending t) (occurrences-names W s t good Valued g.sorted))

  pub good-fits : GoodFilling W s t bs → FitsDue (values_of bs) (values_due W s t)
  good-fits g = subst (λ ns. FitsDue (values_of bs) (map (due_of l) ns)) keys (shallow_fits l bs g.shallow)
