-- Matching: what is computed of match and part keeps what the calls promise.
--
--   not_accepted, no_not_yes, yes_or_kept    where match answers
--   match_keeps, part-keeps   what is computed of match and of part keeps its promise
--
use mathlib.Core.Path.{◌≡◌, refl, sym, ap, ◌∙◌, subst}
use mathlib.Core.Bool.{Bool, true, false, cond, ◌&&◌}
use mathlib.Core.List.{List, [], ◌++◌, append-nil}
use mathlib.Core.Logic.{◌↔◌, ◌⊎◌, inl, inr}
use mathlib.Core.Option.{Option, some, none, none-ne-some}
use Prim.Native.Nat.{ℕ, ◌≤◌, ◌<◌}
use native.Mathlib.Omega.{arith}
use lib.Dec.{eqb, ltb}
use lib.ListN.{length, drop}
use borrow.Author.Tests.{eqb-true, eq-eqb, lt-ltb, ltb-true}
use Rattle.terms.specs.Lists.{occurs}
use Rattle.terms.specs.Term.{SortedG, names, as_term}
use Rattle.terms.specs.Filling.{Filling, value_of}
use Rattle.terms.specs.Matcher.{matcher}
use Rattle.terms.proofs.Bools.{and_parts, and_both}
use Rattle.terms.proofs.Occurs.{occurs-all}
use Rattle.terms.proofs.Ground.{sorted-ground}
use Rattle.terms.proofs.Theorems.{matcher_is_exact, matching_is_fitting}
use Rattle.wire.specs.Reply.{accepted, refused, IsBytes}
use Rattle.wire.specs.Vocabulary.{signature}
use Rattle.wire.specs.TermBytes.{name_count, encode_at}
use Rattle.wire.specs.Matching.{Inputs, table_length, or_no_span, span, yes, no, cut_out, no_span, HoldsInputs, FitsInputs, TurnsInputs, SpansOf}
use Rattle.wire.specs.Effect.{Effect}
use Rattle.wire.specs.MatchComputed.{Judged, clear, refusal, judged, span_table, verdict, matched_with, matched, span_found, span_with, part_span}
use Rattle.wire.specs.Laws.{MatchKeeps, PartKeeps}
use Rattle.wire.proofs.Cond.{cond_true, choice}
use Rattle.wire.proofs.MatchRefusals.{match_refuses, match_refused}
use Rattle.wire.proofs.Inputs.{clear_is_held}
use Rattle.wire.proofs.GroundBytes.{size-least, root-ground}
use Rattle.wire.proofs.Spans.{covers-cut, span_value, span-absent}
use Rattle.wire.proofs.SpanTable.{length-table, table-span}

pub not_accepted : (n i q : ℕ) (l : List ℕ) → refused n i q ≡ accepted l → ⊥
not_accepted n i q l e = let z : ◌≡◌ {A = ℕ} 0 1 = cc in omega arith

pub no_not_yes : no ≡ yes → ⊥
no_not_yes e = let z : ◌≡◌ {A = ℕ} 0 1 = cc in omega arith

-- ---- where match answers

verdict-answers : (table : List ℕ) (x : Inputs) (o : Option Filling) → ((verdict table x o).reply ≡ yes) ⊎ ((verdict table x o).reply ≡ no)
verdict-answers table x (some f) = inl refl
verdict-answers table x none = inr refl

answered-clear : (table : List ℕ) (j : Judged) → ((matched_with table j).reply ≡ yes) ⊎ ((matched_with table j).reply ≡ no) →
    (x : Inputs) × (j ≡ clear x) × (length table ≡ table_length)
answered-clear table (refusal n i q) (inl e) = absurd (not_accepted n i q _ e)
answered-clear table (refusal n i q) (inr e) = absurd (not_accepted n i q _ e)
answered-clear table (clear x) h = (x, refl, go (eqb (length table) table_length) refl h)
  where
    answer : Bool → Effect
    answer c = cond {A = Effect} c (verdict table x (matcher x.pattern x.situation)) (record { reply = refused 19 3 0; after = table })

    go : (c : Bool) → eqb (length table) table_length ≡ c → ((answer c).reply ≡ yes) ⊎ ((answer c).reply ≡ no) → length table ≡ table_length
    go true e h = eqb-true (length table) table_length e
    go false e (inl k) = absurd (not_accepted 19 3 0 _ k)
    go false e (inr k) = absurd (not_accepted 19 3 0 _ k)

accepted-answers : (table : List ℕ) (j : Judged) (values : List ℕ) → (matched_with table j).reply ≡ accepted values →
    ((matched_with table j).reply ≡ yes) ⊎ ((matched_with table j).reply ≡ no)
accepted-answers table (refusal n i q) values e = absurd (not_accepted n i q _ e)
accepted-answers table (clear x) values e =
    choice (λ (m : Effect). m.reply ≡ accepted values → (m.reply ≡ yes) ⊎ (m.reply ≡ no)) (eqb (length table) table_length) _ _
    (λ c e. verdict-answers table x (matcher x.pattern x.situation)) (λ c e. absurd (not_accepted 19 3 0 _ e)) e

matched-clear : (v p s table : List ℕ) (x : Inputs) → judged v p s ≡ clear x → length table ≡ table_length →
    matched v p s table ≡ verdict table x (matcher x.pattern x.situation)
matched-clear v p s table x e l = ap (matched_with table) e ∙ cond_true (eqb (length table) table_length) _ _ (eq-eqb (length table) table_length l)

-- Where match does not say yes, the table is as it was.
pub yes_or_kept : (v p s table : List ℕ) →
    ((matched v p s table).reply ≡ yes) ⊎ (((matched v p s table).reply ≡ yes → ⊥) × ((matched v p s table).after ≡ table))
yes_or_kept v p s table = go (judged v p s)
  where
    Kept : Effect → Type 0
    Kept m = (m.reply ≡ yes) ⊎ ((m.reply ≡ yes → ⊥) × (m.after ≡ table))

    answer : (x : Inputs) (o : Option Filling) → Kept (verdict table x o)
    answer x (some f) = inl refl
    answer x none = inr (no_not_yes, refl)

    go : (j : Judged) → Kept (matched_with table j)
    go (refusal n i q) = inr (not_accepted n i q _, refl)
    go (clear x) =
        choice Kept (eqb (length table) table_length) _ _ (λ e. answer x (matcher x.pattern x.situation))
        (λ e. inr (not_accepted 19 3 0 _, refl))

-- ---- inputs in order

module _ (v p s : List ℕ) (x : Inputs) (held : HoldsInputs v p s x) where
  situation-sorted : SortedG (signature x.vocabulary) x.situation x.kind
  situation-sorted = sorted-ground (signature x.vocabulary) x.situation x.kind held.situation.good.sorted.sorted

  found-turns : (f : Filling) → (matcher x.pattern x.situation ≡ some f) ↔ TurnsInputs x f
  found-turns f =
      matcher_is_exact (signature x.vocabulary) x.pattern x.kind x.situation f held.pattern.good.sorted.sorted situation-sorted

  -- Yes exactly where there is a filling.
  verdict-fits : (table : List ℕ) → ((verdict table x (matcher x.pattern x.situation)).reply ≡ yes) ↔ FitsInputs x
  verdict-fits table = go (matcher x.pattern x.situation) refl
    where
      go : (o : Option Filling) → matcher x.pattern x.situation ≡ o → ((verdict table x o).reply ≡ yes) ↔ FitsInputs x
      go (some f) e = ((λ q. (f, (found-turns f).0 e)), (λ q. refl))
      go none e = (
        (λ q. absurd (no_not_yes q)),
        (λ (f, turns). absurd (none-ne-some f (sym e ∙ (found-turns f).1 turns))),
      )

  -- The situation's term begins behind its kind byte.
  situation-stands : drop 1 s ≡ encode_at x.vocabulary (as_term x.situation) ++ []
  situation-stands =
      ap (drop 1) held.situation.written ∙ root-ground x.vocabulary x.situation
      ∙ sym (append-nil (encode_at x.vocabulary (as_term x.situation)))

  -- A name that stands in the pattern has a number below 64.
  name-low : (n : ℕ) → occurs n (names x.pattern) ≡ true → n < name_count
  name-low n o = occurs-all (λ n. n < name_count) n (names x.pattern) o held.pattern.good.named

  module _ (f : Filling) (h : TurnsInputs x f) where
    part_bytes : (n : ℕ) → occurs n (names x.pattern) ≡ true →
        cut_out s (span x.vocabulary x.pattern x.situation n) ≡ encode_at x.vocabulary (as_term (value_of f.named n))
    part_bytes n o =
        let covered = span_value x.vocabulary x.pattern f.named f.opened n 1 s [] o
        (situation-stands ∙ ap (λ g. encode_at x.vocabulary (as_term g) ++ []) (sym h.1)) in
        ap (λ g. cut_out s (span x.vocabulary x.pattern g n)) (sym h.1)
        ∙ ap (λ y. cut_out s (or_no_span y)) covered.1
        ∙ covers-cut x.vocabulary s covered.0 (value_of f.named n) covered.2

    table-parts : SpansOf x s f (span_table x.vocabulary x.pattern x.situation)
    table-parts = record {
      long = length-table x.vocabulary x.pattern x.situation;
      first = table-span x.vocabulary x.pattern x.situation;
      named = λ n l o. ap (cut_out s) (table-span x.vocabulary x.pattern x.situation n l) ∙ part_bytes n o;
      absent = λ n l o.
          table-span x.vocabulary x.pattern x.situation n l
          ∙ ap or_no_span (span-absent x.vocabulary x.pattern x.situation n 1 o);
    }

    part-covered : (n : ℕ) → occurs n (names x.pattern) ≡ true →
        span_found x n (matcher x.pattern x.situation) ≡ span x.vocabulary x.pattern x.situation n
    part-covered n o =
        ap (span_found x n) ((found-turns f).1 h)
        ∙ cond_true (ltb n name_count && occurs n (names x.pattern)) _ _
        (and_both (ltb n name_count) (occurs n (names x.pattern)) (lt-ltb n name_count (name-low n o)) o)

-- ---- match

pub match_keeps : MatchKeeps
match_keeps v p s table bv bp bs = record {
  refuses = λ n i q. (match_refuses v p s table bv bp bs n i q, match_refused v p s table bv bp bs);
  answered = (
    (λ h. let a = answered-clear table (judged v p s) h in (a.0, (clear_is_held v p s a.0 bv bp bs).0 a.1, a.2)),
    (λ h.
        subst (λ m. (m.reply ≡ yes) ⊎ (m.reply ≡ no)) (sym (known h.0 h.1 h.2))
        (verdict-answers table h.0 (matcher h.0.pattern h.0.situation))),
  );
  only = accepted-answers table (judged v p s);
  fits = fits;
  agrees = λ x held l.
      let a = fits x held l in
      let b = matching_is_fitting (signature x.vocabulary) x.pattern x.kind x.situation held.pattern.good.sorted (situation-sorted v p s x held) in
      ((λ e. b.0 (a.0 e)), (λ m. a.1 (b.1 m)));
  parts = λ x held e f h.
      let l = (answered-clear table (judged v p s) (inl e)).2 in
      subst (SpansOf x s f)
      (sym (ap (λ m. m.after) (known x held l)
      ∙ ap (λ o. (verdict table x o).after) ((found-turns v p s x held f).1 h)))
      (table-parts v p s x held f h);
  kept = λ not. go not (yes_or_kept v p s table);
}
  where
    known : (x : Inputs) → HoldsInputs v p s x → length table ≡ table_length →
        matched v p s table ≡ verdict table x (matcher x.pattern x.situation)
    known x held l = matched-clear v p s table x ((clear_is_held v p s x bv bp bs).1 held) l

    fits : (x : Inputs) → HoldsInputs v p s x → length table ≡ table_length → ((matched v p s table).reply ≡ yes) ↔ FitsInputs x
    fits x held l =
        subst (λ m. (m.reply ≡ yes) ↔ FitsInputs x) (sym (known x held l))
        (verdict-fits v p s x held table)

    go : ((matched v p s table).reply ≡ yes → ⊥) →
        ((matched v p s table).reply ≡ yes) ⊎ (((matched v p s table).reply ≡ yes → ⊥) × ((matched v p s table).after ≡ table)) →
        (matched v p s table).after ≡ table
    go not (inl e) = absurd (not e)
    go not (inr h) = h.1

-- ---- part

module _ (v p s : List ℕ) (n : ℕ) (bv : IsBytes v) (bp : IsBytes p) (bs : IsBytes s) where
  -- A part is empty, or has two bytes at least and comes of inputs that fit.
  abbrev PartKept : List ℕ → Type 0
  PartKept r = (r ≡ []) ⊎ ((2 ≤ length r) × ((x : Inputs) × HoldsInputs v p s x × (occurs n (names x.pattern) ≡ true) × FitsInputs x))

  -- Inputs that fit and a pattern that has the name are not there, or the name is above 63.
  abbrev Uncovered : Type 0
  Uncovered = ((x : Inputs) → HoldsInputs v p s x → occurs n (names x.pattern) ≡ true → FitsInputs x → ⊥) ⊎ (name_count ≤ n)

  part_at : (x : Inputs) → HoldsInputs v p s x → part_span v p s n ≡ span_found x n (matcher x.pattern x.situation)
  part_at x held = ap (span_with n) ((clear_is_held v p s x bv bp bs).1 held)

  found-kept : (x : Inputs) → HoldsInputs v p s x → (o : Option Filling) → matcher x.pattern x.situation ≡ o → PartKept (cut_out s (span_found x n o))
  found-kept x held none e = inl refl
  found-kept x held (some f) e = go (ltb n name_count && occurs n (names x.pattern)) refl
    where
      go : (c : Bool) → (ltb n name_count && occurs n (names x.pattern)) ≡ c →
          PartKept (cut_out s (cond c (span x.vocabulary x.pattern x.situation n) no_span))
      go false q = inl refl
      go true q =
          let o = (and_parts (ltb n name_count) (occurs n (names x.pattern)) q).1 in
          let turns = (found-turns v p s x held f).0 e in
          let part = part_bytes v p s x held f turns n o in
          inr (
            rw part (size-least x.vocabulary (value_of f.named n)),
            (x, held, o, (f, turns)),
          )

  found-empty : Uncovered → (x : Inputs) → HoldsInputs v p s x → (o : Option Filling) → matcher x.pattern x.situation ≡ o → span_found x n o ≡ no_span
  found-empty u x held none e = refl
  found-empty u x held (some f) e = go (ltb n name_count && occurs n (names x.pattern)) refl u
    where
      go : (c : Bool) → (ltb n name_count && occurs n (names x.pattern)) ≡ c → Uncovered →
          cond c (span x.vocabulary x.pattern x.situation n) no_span ≡ no_span
      go false q h = refl
      go true q (inl none-fits) =
          absurd (none-fits x held (and_parts (ltb n name_count) (occurs n (names x.pattern)) q).1 (f, (found-turns v p s x held f).0 e))
      go true q (inr high) =
          absurd (omega (arith, high, ltb-true n name_count (and_parts (ltb n name_count) (occurs n (names x.pattern)) q).0))

pub part-keeps : PartKeeps
part-keeps v p s n bv bp bs = record {
  cut = refl;
  covered = λ x held o (f, turns). part_at v p s n bv bp bs x held ∙ part-covered v p s x held f turns n o;
  value = λ x held o f h.
      ap (cut_out s) (part_at v p s n bv bp bs x held ∙ part-covered v p s x held f h n o) ∙ part_bytes v p s x held f h n o;
  empty = λ u. empty u (judged v p s) refl;
  empty_or_covered = kept (judged v p s) refl;
}
  where
    empty : Uncovered v p s n bv bp bs → (j : Judged) → judged v p s ≡ j → span_with n j ≡ no_span
    empty u (refusal m i q) e = refl
    empty u (clear x) e =
        found-empty v p s n bv bp bs u x ((clear_is_held v p s x bv bp bs).0 e) (matcher x.pattern x.situation) refl

    kept : (j : Judged) → judged v p s ≡ j → PartKept v p s n bv bp bs (cut_out s (span_with n j))
    kept (refusal m i q) e = inl refl
    kept (clear x) e = found-kept v p s n bv bp bs x ((clear_is_held v p s x bv bp bs).0 e) (matcher x.pattern x.situation) refl
