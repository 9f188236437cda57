-- FilledMatches: matching a complete result of fill with the pattern says yes, and gives back the parts filled in.
--
--   value-covers      the span of a name's value in a filling file holds that value
--   given-bytes       so its bytes are those of the value
--   matches_back      whatever match's promise allows is a yes with the parts that the file gave
--   filled-matches    and so is what match computes
--
use mathlib.Core.Path.{◌≡◌, refl, sym, ap, ◌∙◌, subst}
use mathlib.Core.Bool.{Bool, true, false, cond, ◌||◌, false≢true}
use mathlib.Core.List.{List, [], ◌∷◌}
use Prim.Native.Nat.{ℕ, ◌+◌, ◌<◌}
use native.Mathlib.Omega.{arith}
use lib.Dec.{eqb}
use lib.ListN.{drop}
use lib.Seq.{drop_at, drop-drop}
use Rattle.terms.specs.Lists.{occurs, range}
use Rattle.terms.specs.Term.{Term, as_term, names, openings}
use Rattle.terms.specs.Filling.{Binding, Filling, no_ground, value_of, fill, IsFilling}
use Rattle.terms.specs.Laws.{Gives}
use Rattle.terms.proofs.Bools.{and_both}
use Rattle.terms.proofs.Occurs.{occurs-all, occurs-range}
use Rattle.terms.proofs.Keep.{occurs-keep}
use Rattle.terms.proofs.Term.{length-open_sorts}
use Rattle.terms.proofs.Binding.{keys_of}
use Rattle.terms.proofs.Theorems.{each_choice_has_a_filling, replacing_is_filling}
use Rattle.wire.specs.Reply.{IsBytes}
use Rattle.wire.specs.Row.{write_row}
use Rattle.wire.specs.Vocabulary.{Vocabulary, signature}
use Rattle.wire.specs.TermBytes.{name_count, encode_at, GoodTerm, Limits, HoldsTerm, complete}
use Rattle.wire.specs.Matching.{Inputs, HoldsInputs, size, cut_out, span_in, yes}
use Rattle.wire.specs.MatchComputed.{matched}
use Rattle.wire.specs.FillingFile.{name_map_bytes, write_value, HoldsFilling}
use Rattle.wire.specs.Filled.{FillInputs, HoldsFillInputs, filled_term, filled_bytes, value_span_from, value_span, MatchesBack}
use Rattle.wire.specs.Laws.{FilledMatches}
use Rattle.wire.proofs.TermBytes.{term-bytes}
use Rattle.wire.proofs.Spans.{Covers, covers-cut}
use Rattle.wire.proofs.Matching.{match_keeps}
use Rattle.wire.proofs.FilledTerms.{filled_is_good, complete_without_open_place}

-- ---- the parts in the file

value-covers : (W : Vocabulary) (b : List ℕ) (bs : List Binding) (n at : ℕ) → occurs n (keys_of bs) ≡ true →
    drop at b ≡ write_row (write_value W) bs → Covers W b (value_span_from W bs n at) (value_of bs n)
value-covers W b [] n at o e = absurd (false≢true o)
value-covers W b (c ∷ bs) n at o e = go (eqb n c.name) o (λ o'. value-covers W b bs n (at + size W c.value) o' rest)
  where
    rest : drop (at + size W c.value) b ≡ write_row (write_value W) bs
    rest =
        sym (drop-drop (size W c.value) at b) ∙ ap (drop (size W c.value)) e
        ∙ drop_at (write_value W c) (write_row (write_value W) bs) (size W c.value) refl

    go : (d : Bool) → (d || occurs n (keys_of bs)) ≡ true →
        (occurs n (keys_of bs) ≡ true → Covers W b (value_span_from W bs n (at + size W c.value)) (value_of bs n)) →
        Covers W b (cond d (record { offset = at; bytes = size W c.value }) (value_span_from W bs n (at + size W c.value)))
        (cond d c.value (value_of bs n))
    go true q below = record { behind = write_row (write_value W) bs; stands = e; long = refl }
    go false q below = below q

given-bytes : (W : Vocabulary) (s : ℕ) (t : Term) (b : List ℕ) (bs : List Binding) → HoldsFilling W s t b bs →
    (n : ℕ) → n < name_count → occurs n (names t) ≡ true → cut_out b (value_span_from W bs n name_map_bytes) ≡ encode_at W (as_term (value_of bs n))
given-bytes W s t b bs h n low o =
    covers-cut W b (value_span_from W bs n name_map_bytes) (value_of bs n)
    (value-covers W b bs n name_map_bytes key (ap (drop name_map_bytes) h.written))
  where
    key : occurs n (keys_of bs) ≡ true
    key =
        ap (occurs n) h.good.keys ∙ occurs-keep (λ m. occurs m (names t)) n (range 0 name_count)
        ∙ and_both (occurs n (names t)) (occurs n (range 0 name_count)) o (occurs-range 0 name_count n (omega arith) low)

-- ---- matching the result

pub matches_back : (v p b : List ℕ) (x : FillInputs) → IsBytes v → IsBytes p → IsBytes b → HoldsFillInputs v p b x →
    Limits (filled_bytes x) (filled_term x) → complete (filled_term x) ≡ true → MatchesBack v p b x (filled_bytes x)
matches_back v p b x bv bp bb h limits full before after r l promise = (answer, part)
  where
    W : Vocabulary
    W = x.vocabulary

    t : Term
    t = x.pattern

    good : GoodTerm W x.kind t
    good = h.pattern.good

    shut : openings t ≡ 0
    shut = (complete_without_open_place t x.values).0 full

    -- The filling that gives the names what the file gives them; there is no open place.
    choice : (f : Filling) × IsFilling (signature W) t x.kind f × Gives (signature W) t x.kind (value_of x.values) (λ i. no_ground) f
    choice =
        each_choice_has_a_filling (signature W) t x.kind good.sorted.sorted (value_of x.values) (λ i. no_ground) h.filling.good.sorted
        (λ i below. absurd (omega (arith, shut, length-open_sorts (signature W) t x.kind good.sorted.sorted)))

    f : Filling
    f = choice.0

    result : filled_term x ≡ as_term (fill t f)
    result = replacing_is_filling t x.values f shut choice.2.named

    inputs : Inputs
    inputs = record { vocabulary = W; kind = x.kind; pattern = t; situation = fill t f }

    held : HoldsInputs v p (filled_bytes x) inputs
    held = record {
      vocabulary = h.vocabulary;
      pattern = h.pattern;
      situation =
          subst (HoldsTerm W (filled_bytes x) x.kind) result
          (record { good = filled_is_good W x.kind t x.values good h.filling.good; written = refl; limits = limits });
    }

    answer : r ≡ yes
    answer = (promise.fits inputs held l).1 (f, (choice.1, refl))

    part : (n : ℕ) → occurs n (names t) ≡ true → cut_out (filled_bytes x) (span_in after n) ≡ cut_out b (value_span x n)
    part n o =
        let low = occurs-all (λ m. m < name_count) n (names t) o good.named in
        (promise.parts inputs held answer f (choice.1, refl)).named n low o
        ∙ ap (λ g. encode_at W (as_term g)) (choice.2.named n o)
        ∙ sym (given-bytes W x.kind t b x.values h.filling n low o)

pub filled-matches : FilledMatches
filled-matches v p b x bv bp bb h limits full table l =
    matches_back v p b x bv bp bb h limits full table (matched v p (filled_bytes x) table).after (matched v p (filled_bytes x) table).reply l
    (match_keeps v p (filled_bytes x) table bv bp
    (term-bytes x.vocabulary h.vocabulary.in_order x.kind (filled_term x)
    (filled_is_good x.vocabulary x.kind x.pattern x.values h.pattern.good h.filling.good)))
