-- Calls: the answers of match and part are those of the definitions, which keep the calls' promises.
--
--   Lent v p s                            the lent inputs are bytes
--   Found v p s spans a                   what finding the spans ensures of its answer and the table of spans
--   passed_on                             the refusal that is passed on
--   found-long                            the table of spans has 128 numbers
--   Ensured                               what match ensures of a reply
--   match_refused, match_length, match_answers    it does so of each answer
--   part-inside, found_inside             part's span lies in the situation
--   Stands                                what part ensures of where its answer stands
--   part-above, part-found                it does so of each answer
--
use mathlib.Core.Path.{◌≡◌, refl, sym, ap, ap₂, ◌∙◌, subst, subst₂}
use mathlib.Core.Bool.{Bool, true, false, cond, ◌&&◌}
use mathlib.Core.List.{List, [], ◌++◌, append-nil}
use mathlib.Core.Logic.{inr}
use mathlib.Core.Option.{Option, some, none}
use Prim.Native.Nat.{ℕ, ◌+◌, ◌-◌, ◌*◌, ◌<◌, ◌≤◌}
use native.Mathlib.Omega.{arith}
use lib.Dec.{ltb}
use lib.ListN.{length, get_or, take, drop, replicate, length-drop, length-append}
use lib.Seq.{length-take-le, take_all}
use borrow.Author.Tests.{ne_eqb, eq-eqb}
use Rattle.terms.specs.Lists.{occurs}
use Rattle.terms.specs.Term.{Ground, names, as_term}
use Rattle.terms.specs.Filling.{Filling}
use Rattle.terms.specs.Matcher.{matcher}
use Rattle.std.specs.Prelude.{Result, Ok, Err, IsErrAnd}
use Rattle.wire.specs.Reply.{Reply, accepted, refused}
use Rattle.wire.specs.TermBytes.{name_count, encode_at}
use Rattle.wire.specs.Matching.{Inputs, HoldsInputs, table_length, Span, no_span, or_no_span, span, span_from, span_in, yes, no, cut_out, MatchPromise, PartPromise}
use Rattle.wire.specs.Effect.{Effect, HasEffect}
use Rattle.wire.specs.MatchComputed.{Judged, clear, refusal, judged, verdict, matched_with, matched, span_found, span_with, part_span}
use Rattle.wire.proofs.Inputs.{clear_is_held}
use Rattle.wire.proofs.Matching as W
use Rattle.wire.proofs.GroundBytes.{size-least, root-ground}
use Rattle.wire.proofs.Spans.{cover_from, SpanHolds, span-covers}
use Rattle.wire.proofs.SpanTable.{length-table}
use Rattle.wire.proofs.PartTable.{part_is_table, blank_part}
use Rattle.inputs.specs.Answers.{inputs_refused}
use Rattle.inputs.specs.declared.InputsRefusal.{InputsRefusal}
use Rattle.spans.specs.Answers.{spans_numbers}
use Rattle.spans.proofs.Answers.{not_accepted}
pub use Rattle.spans.proofs.Finding.{Lent, lent_bytes}
use Rattle.matcher.specs.Answers.{match_numbers}
use Rattle.matcher.specs.declared.MatchRefusal.{MatchRefusal}
use Rattle.matcher.specs.declared.MatchRefusal.TheVariants as M
use Rattle.matcher.specs.Places.{part_at}

abbrev blank : List ℕ
blank = replicate 128 0

-- What finding the spans ensures of its answer and the table of spans.
abbrev pub Found : List ℕ → List ℕ → List ℕ → List ℕ → Result Bool InputsRefusal → Type 0
Found v p s spans a = HasEffect (matched v p s blank) (spans_numbers a) spans

-- A refusal that is passed on.
pub passed_on : (r : Result Bool MatchRefusal) (why : InputsRefusal) → IsErrAnd r (λ e. e ≡ M.Inputs why) → r ≡ Err (M.Inputs why)
passed_on (Ok fits) why h = absurd h
passed_on (Err e) why h = ap Err h

module _ {v p s : List ℕ} (lent : Lent v p s) where
  pub found-long : {spans : List ℕ} → spans ≡ (matched v p s blank).after → length spans ≡ 128
  found-long table = ap length table ∙ go (judged v p s)
    where
      answer : (x : Inputs) (o : Option Filling) → length (verdict blank x o).after ≡ 128
      answer x (some f) = length-table x.vocabulary x.pattern x.situation
      answer x none = refl

      go : (j : Judged) → length (matched_with blank j).after ≡ 128
      go (clear x) = answer x (matcher x.pattern x.situation)
      go (refusal n i q) = refl

  -- ---- match

  module _ (before after : List ℕ) where
    -- What match ensures of a reply.
    abbrev Ensured : Reply → Type 0
    Ensured r = MatchPromise v p s before after r × HasEffect (matched v p s before) r after

    promised : {r : Reply} → HasEffect (matched v p s before) r after → Ensured r
    promised {r} h = (
      subst₂ (λ a r. MatchPromise v p s before a r) (sym h.after) (sym h.reply)
          (W.match_keeps v p s before lent.vocabulary lent.pattern lent.situation),
      h,
    )

    -- What match says of inputs in order, by whether the table has the right length.
    abbrev cleared : Inputs → Bool → Effect
    cleared x b = cond b (verdict before x (matcher x.pattern x.situation)) (record { reply = refused 19 3 0; after = before })

    -- The verdict, where the table has the right length.
    judged-here : length before ≡ table_length → (x : Inputs) {r : Reply} →
        HasEffect (verdict before x (matcher x.pattern x.situation)) r after → HasEffect (matched_with before (clear x)) r after
    judged-here long x {r} h = subst (λ b. HasEffect (cleared x b) r after) (sym (eq-eqb (length before) table_length long)) h

    module _ {spans : List ℕ} where
      pub match_refused : (why : InputsRefusal) → Found v p s spans (Err why) → after ≡ before → Ensured (inputs_refused why)
      match_refused why found t = promised (go (judged v p s) found.reply)
        where
          answered : (x : Inputs) (o : Option Filling) → inputs_refused why ≡ (verdict blank x o).reply → ⊥
          answered x (some f) e = not_accepted why _ e
          answered x none e = not_accepted why _ e

          go : (j : Judged) → inputs_refused why ≡ (matched_with blank j).reply → HasEffect (matched_with before j) (inputs_refused why) after
          go (clear x) e = absurd (answered x (matcher x.pattern x.situation) e)
          go (refusal n i q) e = record { reply = e; after = t }

      pub match_length : (fits : Bool) → Found v p s spans (Ok fits) → (length before ≡ table_length → ⊥) → after ≡ before → Ensured (refused 19 3 0)
      match_length fits found short t = promised (either fits found)
        where
          go : (l : List ℕ) (j : Judged) → accepted l ≡ (matched_with blank j).reply → HasEffect (matched_with before j) (refused 19 3 0) after
          go l (refusal n i q) e = absurd (W.not_accepted n i q l (sym e))
          go l (clear x) e =
              subst (λ b. HasEffect (cleared x b) (refused 19 3 0) after) (sym (ne_eqb (length before) table_length short))
              (record { reply = refl; after = t })

          either : (fits : Bool) → Found v p s spans (Ok fits) → HasEffect (matched v p s before) (refused 19 3 0) after
          either true found = go _ (judged v p s) found.reply
          either false found = go _ (judged v p s) found.reply

      module _ (long : length before ≡ table_length) where
        match_yes : Found v p s spans (Ok true) → after ≡ spans → Ensured yes
        match_yes found t = promised (go (judged v p s) found.reply (t ∙ found.after))
          where
            answer : (x : Inputs) (o : Option Filling) → yes ≡ (verdict blank x o).reply → after ≡ (verdict blank x o).after →
                HasEffect (verdict before x o) yes after
            answer x (some f) e t = record { reply = refl; after = t }
            answer x none e t = absurd (W.no_not_yes (sym e))

            go : (j : Judged) → yes ≡ (matched_with blank j).reply → after ≡ (matched_with blank j).after → HasEffect (matched_with before j) yes after
            go (refusal n i q) e t = absurd (W.not_accepted n i q _ (sym e))
            go (clear x) e t = judged-here long x (answer x (matcher x.pattern x.situation) e t)

        match_no : Found v p s spans (Ok false) → after ≡ before → Ensured no
        match_no found t = promised (go (judged v p s) found.reply)
          where
            answer : (x : Inputs) (o : Option Filling) → no ≡ (verdict blank x o).reply → HasEffect (verdict before x o) no after
            answer x (some f) e = absurd (W.no_not_yes e)
            answer x none e = record { reply = refl; after = t }

            go : (j : Judged) → no ≡ (matched_with blank j).reply → HasEffect (matched_with before j) no after
            go (refusal n i q) e = absurd (W.not_accepted n i q _ (sym e))
            go (clear x) e = judged-here long x (answer x (matcher x.pattern x.situation) e)

        -- Yes fills the table, and no leaves it.
        pub match_answers : (fits : Bool) → Found v p s spans (Ok fits) → after ≡ cond fits spans before → Ensured (match_numbers (Ok fits))
        match_answers true found t = match_yes found t
        match_answers false found t = match_no found t

  -- ---- part

  module _ (n : ℕ) where
    -- A span of the situation.
    abbrev Inside : Span → Type 0
    Inside y = y.offset + y.bytes ≤ length s

    module _ (x : Inputs) (held : HoldsInputs v p s x) where
      covered : (o : Option Span) (c : Option Ground) → SpanHolds x.vocabulary s o c → Inside (or_no_span o)
      covered none c h = omega arith
      covered (some y) none h = absurd h
      covered (some y) (some g) h =
          let W = x.vocabulary in
          let long = h.long in
          omega (
            arith,
            size-least W g,
            length-drop y.offset s,
            ap length h.stands,
            length-append (encode_at W (as_term g)) h.behind,
          )

      -- The situation's bytes behind its kind byte.
      root : drop 1 s ≡ encode_at x.vocabulary (as_term x.situation) ++ []
      root =
          ap (drop 1) held.situation.written ∙ root-ground x.vocabulary x.situation
          ∙ sym (append-nil (encode_at x.vocabulary (as_term x.situation)))

      inside : Inside (span x.vocabulary x.pattern x.situation n)
      inside =
          covered (span_from x.vocabulary x.pattern x.situation n 1) (cover_from x.pattern x.situation n)
          (span-covers x.vocabulary x.pattern x.situation n 1 s [] root)

      either : (b : Bool) → Inside (cond b (span x.vocabulary x.pattern x.situation n) no_span)
      either true = inside
      either false = omega arith

      answer-inside : (o : Option Filling) → Inside (span_found x n o)
      answer-inside none = omega arith
      answer-inside (some f) = either (ltb n name_count && occurs n (names x.pattern))

    pub part-inside : Inside (part_span v p s n)
    part-inside = go (judged v p s) refl
      where
        go : (j : Judged) → judged v p s ≡ j → Inside (span_with n j)
        go (refusal m i q) e = omega arith
        go (clear x) e =
            answer-inside x ((clear_is_held v p s x lent.vocabulary lent.pattern lent.situation).0 e) (matcher x.pattern x.situation)

    -- The part has these bytes and stands at this offset of the situation, wherever that is lent.
    abbrev Stands : ℕ → List ℕ → Type 0
    Stands from r = (base : ℕ) →
        PartPromise v p s n (part_at base (from + base) r) r × (part_at base (from + base) r ≡ part_span v p s n)

    stands : (y : Span) → part_span v p s n ≡ y → length (cut_out s y) ≡ y.bytes → Stands y.offset (cut_out s y)
    stands y e long base =
        let back : y.offset + base - base ≡ y.offset = omega arith in
        let same : part_at base (y.offset + base) (cut_out s y) ≡ y = ap₂ {C = Span} (λ o b. record { offset = o; bytes = b }) back long in (
          subst₂ (PartPromise v p s n) (e ∙ sym same) (ap (cut_out s) e)
              (W.part-keeps v p s n lent.vocabulary lent.pattern lent.situation),
          same ∙ sym e,
        )

    pub part-above : 63 < n → Stands 0 []
    part-above high = stands no_span ((part_is_table v p s blank n refl).1 (inr (omega arith))) refl

    module _ {spans : List ℕ} (table : spans ≡ (matched v p s blank).after) (low : n < name_count)
        {from long : ℕ} (offset : from ≡ get_or spans (2 * n) 0) (bytes : long ≡ get_or spans (2 * n + 1) 0) where
      here : part_span v p s n ≡ record { offset = from; bytes = long }
      here =
          sym (blank_part v p s n low) ∙ ap (λ t. span_in t n) (sym table)
          ∙ sym (ap₂ {C = Span} (λ o l. record { offset = o; bytes = l }) offset bytes)

      pub found_inside : from + long ≤ length s
      found_inside = subst Inside here part-inside

      pub part-found : Stands from (take long (take (length s - from) (drop from s)))
      part-found =
          let inside = found_inside in
          let size : length (take long (drop from s)) ≡ long = length-take-le long (drop from s) (omega (arith, length-drop from s)) in
          let rest : take (length s - from) (drop from s) ≡ drop from s = take_all (length s - from) (drop from s) (omega (arith, length-drop from s)) in
          subst (λ l. Stands from (take long l)) (sym rest) (stands (record { offset = from; bytes = long }) here size)
