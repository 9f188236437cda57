-- FillingsInverse: a filling file is accepted for a pattern exactly where it is the writing of a good filling.
use mathlib.Core.Path.{◌≡◌, refl, sym, ap, ap₂, subst, ◌∙◌}
use mathlib.Core.List.{List, [], ◌∷◌, ◌++◌, append-nil}
use mathlib.Core.Option.{Option, some, none}
use Prim.Native.Nat.{ℕ, ◌≤◌}
use native.Mathlib.Omega.{arith}
use lib.Dec.{ltb}
use lib.ListN.{length, drop}
use borrow.Author.Tests.{ltb-false, le-ltb}
use Rattle.terms.specs.Term.{Term, Grounds, SortedGs, as_terms, occurrences}
use Rattle.terms.specs.Filling.{Binding}
use Rattle.terms.specs.Emptiness.{first}
use Rattle.terms.proofs.Binding.{keys_of}
use Rattle.wire.specs.Reply.{IsBytes}
use Rattle.wire.specs.Row.{write_row}
use Rattle.wire.specs.Vocabulary.{Vocabulary, InOrder, signature}
use Rattle.wire.specs.TermBytes.{encode_all, GoodTerm}
use Rattle.wire.specs.FillingFile.{name_map_bytes, write_names, ascending, write_value, HoldsFilling}
use Rattle.wire.specs.FillingLines.{values_due}
use Rattle.wire.specs.Parser.{Reading, accept, refuse, Got, got, stop}
use Rattle.wire.specs.FillComputed.{read_values, bindings, unlike, line22, line21, read_filling}
use Rattle.wire.specs.Laws.{FillingsInverse}
use Rattle.wire.proofs.Cond.{cond_false, choice}
use Rattle.wire.proofs.FullTerms.{sorts_due, FitsDue, HasValues, Values, values-read, values-written}
use Rattle.wire.proofs.NameMaps.{unlike-names}
use Rattle.wire.proofs.FillingValues.{values_of, row_values, bindings_back, bindings-parts, due_of, values-good, good-sorted, good-fits}

-- What the reading of the file b accepts is written there.
abbrev Accepts : Vocabulary → ℕ → Term → List ℕ → Reading (List Binding) → Type 0
Accepts W s t b (accept bs) = HoldsFilling W s t b bs
Accepts W s t b (refuse n q) = Unit {0}

module _ (W : Vocabulary) (s : ℕ) (t : Term) (in_order : InOrder W) (good : GoodTerm W s t) (b : List ℕ) (bytes : IsBytes b) where
  abbrev value_bytes : List ℕ
  value_bytes = drop name_map_bytes b

  -- ---- what is accepted is written

  -- Bindings of the pattern's names to the terms that are read behind the map.
  values_hold : (bs : List Binding) (gs : Grounds) → keys_of bs ≡ ascending t → values_of bs ≡ gs → b ≡ write_names (ascending t) ++ value_bytes →
      HasValues W (values_due W s t) value_bytes gs [] → HoldsFilling W s t b bs
  values_hold bs gs keys values e h = record {
    good =
        values-good W s t good bs keys
        (subst (λ gs. SortedGs (signature W) gs (sorts_due (values_due W s t))) (sym values) h.sorted)
        (subst (λ gs. FitsDue gs (values_due W s t)) (sym values) h.fits);
    written =
        e
        ∙ ap₂ (λ ns l. write_names ns ++ l) (sym keys)
        (h.bytes ∙ append-nil (encode_all W (as_terms gs)) ∙ ap (λ gs. encode_all W (as_terms gs)) (sym values) ∙ sym (row_values W bs));
  }

  values-accepted : (x : Got Grounds) → b ≡ write_names (ascending t) ++ value_bytes → Values W (values_due W s t) value_bytes x →
      Accepts W s t b (line22 b (ascending t) x)
  values-accepted (stop n r) e h = tt
  values-accepted (got gs (x ∷ r)) e h = tt
  values-accepted (got gs []) e h =
      let parts = bindings-parts (due_of (occurrences (signature W) t s)) gs (ascending t) h.fits in
      values_hold (bindings (ascending t) gs) gs parts.0 parts.1 e h

  map-accepted : (o : Option ℕ) → name_map_bytes ≤ length b → first (unlike b t) ≡ o → Accepts W s t b (line21 W s t b o)
  map-accepted (some n) long e = tt
  map-accepted none long e =
      values-accepted (read_values W (values_due W s t) value_bytes) ((unlike-names b t long bytes).0 e)
      (values-read W in_order (values_due W s t) value_bytes)

  accepted-holds : Accepts W s t b (read_filling W s t b)
  accepted-holds =
      choice (Accepts W s t b) (ltb (length b) name_map_bytes) (refuse 21 0) (line21 W s t b (first (unlike b t))) (λ e. tt)
      (λ e. map-accepted (first (unlike b t)) (ltb-false (length b) name_map_bytes e) refl)

  -- ---- what is written is accepted

  module _ (bs : List Binding) (h : HoldsFilling W s t b bs) where
    written : b ≡ write_names (ascending t) ++ write_row (write_value W) bs
    written = h.written ∙ ap (λ ns. write_names ns ++ write_row (write_value W) bs) h.good.keys

    long : name_map_bytes ≤ length b
    long = omega (arith, ap length written)

    rest : value_bytes ≡ write_row (write_value W) bs
    rest = ap (drop name_map_bytes) written

    holds-accepted : read_filling W s t b ≡ accept bs
    holds-accepted =
        cond_false (ltb (length b) name_map_bytes) (refuse 21 0) (line21 W s t b (first (unlike b t))) (le-ltb (length b) name_map_bytes long)
        ∙ ap (line21 W s t b) ((unlike-names b t long bytes).1 (written ∙ ap (λ l. write_names (ascending t) ++ l) (sym rest)))
        ∙ ap (λ l. line22 b (ascending t) (read_values W (values_due W s t) l))
        (rest ∙ row_values W bs ∙ sym (append-nil (encode_all W (as_terms (values_of bs)))))
        ∙ ap (line22 b (ascending t))
        (values-written W in_order (values_due W s t) (values_of bs) [] (good-sorted W s t good bs h.good.keys h.good)
        (good-fits W s t good bs h.good.keys h.good))
        ∙ ap (λ ns. accept (bindings ns (values_of bs))) (sym h.good.keys)
        ∙ ap accept (bindings_back bs)

pub fillings_inverse : FillingsInverse
fillings_inverse W s t b bs in_order good bytes = (
  (λ e. subst (Accepts W s t b) e (accepted-holds W s t in_order good b bytes)),
  (λ h. holds-accepted W s t in_order good b bytes bs h),
)
