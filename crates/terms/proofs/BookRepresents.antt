-- BookRepresents: the entries of a book represent what is no instance of any of its patterns.
use mathlib.Core.List.{List, map}
use mathlib.Core.Logic.{⊎_elim}
use Prim.Native.Nat.{ℕ}
use Rattle.terms.specs.Lists.{All}
use Rattle.terms.specs.Signature.{Signature, WellFormed}
use Rattle.terms.specs.Term.{Term, Ground, SortedG}
use Rattle.terms.specs.Substitution.{as_tm, with_variables}
use Rattle.terms.specs.Instance.{Instance}
use Rattle.terms.specs.Book.{IsBookListing}
use Rattle.terms.specs.Laws.{PatternsOfSort, BookRepresents}
use Rattle.terms.proofs.Members.{all_mem, mem_all}
use Rattle.terms.proofs.Represents.{SomeInstance, some_instance, variables-sorted}
use Rattle.terms.proofs.Book.{book_linear, book_partition}

module _ (S : Signature) (ps : List Term) (s : ℕ) (l : List Term) (wf : WellFormed S) (hs : PatternsOfSort S s ps) (is : IsBookListing S s ps l)
    (g : Ground) (k : SortedG S g s) where
  abbrev NoInstance : Type 0
  NoInstance = All (λ t. Instance S t (as_tm g) → ⊥) (map (λ p. with_variables S p s) ps)

  -- What is an instance of no pattern fits the entry that BookPartition finds.
  some_entry : NoInstance → SomeInstance S l s g
  some_entry none =
      ⊎_elim (λ f. let (t, m, i) = (some_instance S ps s hs g).0 f in absurd (all_mem _ t _ none m i))
      (λ one. (some_instance S l s (book_linear S ps s l wf hs is) g).0 (one.index, one.below, (one.once.filling, one.once.turns)))
      (book_partition S ps s l wf hs is g k).either

  -- An instance of an entry is none of a pattern: nothing fits both.
  no-pattern : SomeInstance S l s g → NoInstance
  no-pattern some =
      mem_all _ (map (λ p. with_variables S p s) ps)
      (λ t m i.
      (book_partition S ps s l wf hs is g k).not_both ((some_instance S ps s hs g).1 (t, m, i)) ((some_instance S l s (book_linear S ps s l wf hs is) g).1 some))

pub book_represents : BookRepresents
book_represents S ps s l wf hs is =
    record {
      terms = variables-sorted S ps s hs;
      each = variables-sorted S l s (book_linear S ps s l wf hs is);
      exact = λ g k. (some_entry S ps s l wf hs is g k, no-pattern S ps s l wf hs is g k);
    }
