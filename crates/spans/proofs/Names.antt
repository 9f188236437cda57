-- Names: the turn at a name: the part is noted for it, or is the part that is noted, or there is no filling.
--
--   AtName x p s spans ms i j    a name is due first, and behind it what the marks ms say
--   at_name                      a byte from 128 on is a name
--   name-inside, name-known, name-spans    its byte is there to read, its number is low, and its span lies in the situation
--   name-first                   the first time the part is noted
--   name-goes, name_none         what covering the part answers: the walk goes on, or there is no filling
--
use mathlib.Core.Path.{◌≡◌, refl, sym, ap, ap₂, ◌∙◌, subst, subst₂}
use mathlib.Core.Bool.{true, cond, false≢true}
use mathlib.Core.List.{List, ◌∷◌, ◌++◌}
use mathlib.Core.Logic.{◌⊎◌, inl, inr}
use mathlib.Core.Option.{Option, some, none}
use Prim.Native.Nat.{ℕ, ◌+◌, ◌-◌, ◌*◌, ◌<◌, ◌≤◌}
use native.Mathlib.Decide.{ℕ_discrete}
use native.Mathlib.Omega.{arith}
use lib.Dec.{eqb}
use lib.ListN.{length, get_or, take, drop, set, length-set, take-append-drop}
use lib.Seq.{take_at}
use borrow.Author.Tests.{ne_eqb}
use Rattle.terms.specs.Lists.{or_else}
use Rattle.terms.specs.Term.{Term, any, var, app, Terms, cons, Ground, gapp, Grounds, gcons, as_term, as_terms}
use Rattle.terms.specs.Filling.{Filling}
use Rattle.terms.specs.Matcher.{same as sameGround, with_name, match_name, match_all, matcher}
use Rattle.terms.proofs.Bools.{eqb_refl, false_of_not}
use Rattle.terms.proofs.Term.{same_true, same_refl}
use Rattle.wire.specs.Vocabulary.{Vocabulary, signature, InOrder}
use Rattle.wire.specs.TermBytes.{name_count, name_byte, encode_at, encode_all}
use Rattle.wire.specs.Matching.{Inputs, size, span_all, span_from, span_in}
use Rattle.wire.proofs.Words.{length_symbols}
use Rattle.wire.proofs.GroundBytes.{size-least, ground-front}
use Rattle.wire.proofs.Spans.{cover_else}
use Rattle.spans.specs.Spans.{with_span, span_at, Covered, Uncovered, bound, Told}
use Rattle.spans.specs.Walking.{Side}
use Rattle.spans.proofs.Joined.{onward, match_first}
use Rattle.spans.proofs.Bound.{name_new, name-again, name-other, bound-more}
use Rattle.spans.proofs.Offsets.{OneByte, one_byte}
use Rattle.spans.proofs.Marks.{Mark, Marked}
use Rattle.spans.proofs.Noted.{NotYet, Noted, noted_cases, span-new, span-noted, holding_inside, set-length, set_elsewhere, set-span, set_other}
use Rattle.spans.proofs.Side.{Facing, due, stands, situation-behind, situation-inside}

else_none : (o : Option Ground) → cover_else o none ≡ o
else_none none = refl
else_none (some h) = refl

-- ---- the turn

module _ {x : Inputs} {p s spans : List ℕ} {n : ℕ} {ts : Terms} {g : Ground} {gs : Grounds} {i j : ℕ}
    (c : Side x p s spans (cons (var n) ts) (gcons g gs) i j) where
  abbrev W : Vocabulary
  W = x.vocabulary

  -- How many bytes the part has, and where it ends.
  abbrev long : ℕ
  long = size W g

  abbrev end : ℕ
  end = j + size W g

  pattern-name : OneByte p i (name_byte n) (encode_all W ts)
  pattern-name = one_byte p i (name_byte n) _ c.pattern

  name-low : n < 64
  name-low = c.named.0

  cases : NotYet spans (bound c.filling.named n) n ⊎ Noted W s spans (bound c.filling.named n) n
  cases = noted_cases W s spans (bound c.filling.named n) n (c.told n name-low)

  spans-inside : get_or spans (2 * n) 0 + get_or spans (2 * n + 1) 0 ≤ length s
  spans-inside = go cases
    where
      go : NotYet spans (bound c.filling.named n) n ⊎ Noted W s spans (bound c.filling.named n) n → get_or spans (2 * n) 0 + get_or spans (2 * n + 1) 0 ≤ length s
      go (inl h) = let z = h.zero in omega (arith, c.blank n name-low h.zero)
      go (inr h) = holding_inside W s (span_in spans n) h.ground h.holding

  -- What is reported of the name k, where the spans are `after`.
  abbrev Reported : List ℕ → ℕ → Type 0
  Reported after k = or_else (span_at after k) (span_all W ts gs k end) ≡ span_from W x.pattern x.situation k 1

  -- What is due next, where the name is bound by f and noted in `after`.
  next : (f : Filling) (after : List ℕ) → match_name n g c.filling ≡ some f →
      ((m : ℕ) → m < name_count → Told W s (span_at after m) (bound f.named m)) →
      ((m : ℕ) → m < name_count → Reported after m) →
      ((m : ℕ) → m < name_count → get_or after (2 * m + 1) 0 ≡ 0 → get_or after (2 * m) 0 ≡ 0) → length after ≡ 128 →
      Side x p s after ts gs (i + 1) end
  next f after e told reported blank entries = record {
    filling = f;
    sorts = (due c).1.0;
    sorted = (due c).1.1.term.1;
    sorted_grounds = (due c).1.1.ground.1;
    named = c.named.1;
    outcome = sym (ap (λ o. onward o (match_all ts gs)) e) ∙ sym (match_first (var n) ts g gs c.filling) ∙ c.outcome;
    pattern = pattern-name.behind;
    situation = situation-behind c;
    told = told;
    reported = reported;
    blank = blank;
    inside_pattern = pattern-name.inside;
    inside_situation = situation-inside c;
    span_entries = entries;
  }

  report_other : (k : ℕ) → k < name_count → (k ≡ n → ⊥) → Reported spans k
  report_other k l d =
      ap (λ b. or_else (span_at spans k) (or_else (cond b (some (record { offset = j; bytes = long })) none) (span_all W ts gs k end))) (sym (ne_eqb k n d))
      ∙ c.reported k l

  turn_new : NotYet spans (bound c.filling.named n) n → Side x p s (with_span spans n j long) ts gs (i + 1) end
  turn_new h =
      next (with_name c.filling n g) after (name_new c.filling n g h.unbound)
      (λ k l. told k l (ℕ_discrete k n)) (λ k l. reported k l (ℕ_discrete k n)) (λ k l. blank k l (ℕ_discrete k n))
      (length-set (set spans (2 * n) j) (2 * n + 1) long ∙ length-set spans (2 * n) j ∙ c.span_entries)
    where
      after : List ℕ
      after = with_span spans n j long

      bindings : ℕ → Option Ground
      bindings k = bound (with_name c.filling n g).named k

      some_bytes : long ≡ 0 → ⊥
      some_bytes e = omega (arith, size-least W g)

      here : span_at after n ≡ some (record { offset = j; bytes = long })
      here = set-span spans n j long c.span_entries name-low some_bytes

      told : (k : ℕ) → k < name_count → Dec (k ≡ n) → Told W s (span_at after k) (bindings k)
      told k l (yes e) =
          subst (λ k. Told W s (span_at after k) (bindings k)) (sym e)
          (subst₂ (λ x o. Told W s x o) (sym here)
          (sym (bound-more c.filling.named n g n ∙ ap₂ (λ o b. cover_else o (cond b (some g) none)) h.unbound (eqb_refl n)))
          (record {
            sort = (due c).0;
            sorted = (due c).1.1.ground.0;
            behind = encode_all W (as_terms gs);
            stands = c.situation;
            long = refl;
          }))
      told k l (no d) =
          subst₂ (λ x o. Told W s x o) (sym (set_other spans n j long c.span_entries name-low k d))
          (sym (bound-more c.filling.named n g k
          ∙ ap (λ b. cover_else (bound c.filling.named k) (cond b (some g) none)) (ne_eqb k n d)
          ∙ else_none (bound c.filling.named k)))
          (c.told k l)

      reported : (k : ℕ) → k < name_count → Dec (k ≡ n) → Reported after k
      reported k l (yes e) =
          subst (Reported after) (sym e)
          (ap (λ x. or_else x (span_all W ts gs n end)) here
          ∙ ap₂ (λ x b. or_else x (or_else (cond b (some (record { offset = j; bytes = long })) none) (span_all W ts gs n end)))
          (sym (span-new spans n h.zero)) (sym (eqb_refl n))
          ∙ c.reported n name-low)
      reported k l (no d) =
          ap (λ x. or_else x (span_all W ts gs k end)) (set_other spans n j long c.span_entries name-low k d)
          ∙ report_other k l d

      blank : (k : ℕ) → k < name_count → Dec (k ≡ n) → get_or after (2 * k + 1) 0 ≡ 0 → get_or after (2 * k) 0 ≡ 0
      blank k l (yes e) z =
          absurd (some_bytes (sym (set-length spans n j long c.span_entries name-low) ∙ ap (λ k. get_or after (2 * k + 1) 0) (sym e) ∙ z))
      blank k l (no d) z =
          let low = name-low in
          set_elsewhere spans n j long c.span_entries name-low (2 * k) (λ e. d (omega arith)) (λ e. omega arith)
          ∙ c.blank k l (sym (set_elsewhere spans n j long c.span_entries name-low (2 * k + 1) (λ e. omega arith) (λ e. d (omega arith))) ∙ z)

  module _ (h : Noted W s spans (bound c.filling.named n) n) where
    abbrev first : ℕ
    first = get_or spans (2 * n) 0

    abbrev length-noted : ℕ
    length-noted = get_or spans (2 * n + 1) 0

    part-noted : take length-noted (drop first s) ≡ encode_at W (as_term h.ground)
    part-noted =
        ap (take length-noted) h.holding.stands
        ∙ take_at (encode_at W (as_term h.ground)) h.holding.behind length-noted (sym h.holding.long)

    -- Where the bytes of the noted part stand here too this is that part: no term's writing goes on in another one's.
    same-part : InOrder W → take length-noted (drop first s) ≡ take length-noted (drop j s) → h.ground ≡ g
    same-part in_order e =
        (ground-front W in_order h.ground g h.holding.sort (due c).0 (drop length-noted (drop j s)) (encode_all W (as_terms gs)) h.holding.sorted
        (due c).1.1.ground.0
        (ap (λ l. l ++ drop length-noted (drop j s)) (sym part-noted ∙ e) ∙ take-append-drop length-noted (drop j s) ∙ c.situation)).0

    turn_again : h.ground ≡ g → Side x p s spans ts gs (i + 1) end
    turn_again e =
        next c.filling spans
        (name-again c.filling n g h.ground h.bound (subst (λ k. sameGround h.ground k ≡ true) e (same_refl h.ground)))
        c.told (λ k l. reported k l (ℕ_discrete k n)) c.blank c.span_entries
      where
        reported : (k : ℕ) → k < name_count → Dec (k ≡ n) → Reported spans k
        reported k l (yes e) =
            subst (Reported spans) (sym e)
            (ap (λ x. or_else x (span_all W ts gs n end)) (span-noted spans n h.long)
            ∙ ap (λ x. or_else x (or_else (cond (eqb n n) (some (record { offset = j; bytes = long })) none) (span_all W ts gs n end)))
            (sym (span-noted spans n h.long))
            ∙ c.reported n name-low)
        reported k l (no d) = report_other k l d

    turn_other : (h.ground ≡ g → ⊥) → matcher x.pattern x.situation ≡ none
    turn_other d =
        sym c.outcome ∙ match_first (var n) ts g gs c.filling
        ∙ ap (λ o. onward o (match_all ts gs))
        (name-other c.filling n g h.ground h.bound (false_of_not (sameGround h.ground g) (λ e. d (same_true h.ground g e))))

  turn_first : (after : List ℕ) → get_or spans (2 * n + 1) 0 ≡ 0 → after ≡ with_span spans n j long → Side x p s after ts gs (i + 1) end
  turn_first after zero e = go cases
    where
      go : NotYet spans (bound c.filling.named n) n ⊎ Noted W s spans (bound c.filling.named n) n → Side x p s after ts gs (i + 1) end
      go (inl h) = subst (λ a. Side x p s a ts gs (i + 1) end) (sym e) (turn_new h)
      go (inr h) = absurd (h.long zero)

  module _ (in_order : InOrder W) {after : List ℕ} where
    turn_name : {r : ℕ} → Covered s spans after n j r → (r ≡ end) × Side x p s after ts gs (i + 1) end
    turn_name {r} covered = go cases
      where
        go : NotYet spans (bound c.filling.named n) n ⊎ Noted W s spans (bound c.filling.named n) n → (r ≡ end) × Side x p s after ts gs (i + 1) end
        go (inl h) =
            let new = covered.new h.zero (stands c in_order) in
            let bytes : r - j ≡ long = omega (arith, new) in
            (new, turn_first after h.zero ((covered.noting h.zero).1 ∙ ap (with_span spans n j) bytes))
        go (inr h) =
            let again = covered.yes h.long in
            let e = same-part h in_order again.1 in
            let bytes : get_or spans (2 * n + 1) 0 ≡ long = h.holding.long ∙ ap (size W) e in
            (again.0 ∙ ap (λ l. j + l) bytes, subst (λ a. Side x p s a ts gs (i + 1) end) (sym (covered.kept h.long)) (turn_again h e))

    turn_none : Uncovered s spans after n j → matcher x.pattern x.situation ≡ none
    turn_none stopped = go cases
      where
        go : NotYet spans (bound c.filling.named n) n ⊎ Noted W s spans (bound c.filling.named n) n → matcher x.pattern x.situation ≡ none
        go (inl h) = absurd (stopped.new h.zero (stands c in_order))
        go (inr h) =
            turn_other h (λ e.
            let bytes : get_or spans (2 * n + 1) 0 ≡ long = h.holding.long ∙ ap (size W) e in
            let here : take (get_or spans (2 * n + 1) 0) (drop j s) ≡ encode_at W (as_term g) =
            ap (take (get_or spans (2 * n + 1) 0)) c.situation ∙ take_at (encode_at W (as_term g)) (encode_all W (as_terms gs)) (get_or spans (2 * n + 1) 0) (sym bytes) in
            stopped.no h.long (omega (arith, situation-inside c)) (part-noted h ∙ ap (λ k. encode_at W (as_term k)) e ∙ sym here))

-- ---- a name that is due

pub record AtName (x : Inputs) (p s spans : List ℕ) (ms : List Mark) (i j : ℕ) : Type 0 where
  pub name : ℕ
  pub terms : Terms
  pub ground : Ground
  pub grounds : Grounds
  pub side : Side x p s spans (cons (var name) terms) (gcons ground grounds) i j
  pub rest : Marked terms ms

pub at_name : {x : Inputs} {p s spans : List ℕ} {l : ℕ} {ms : List Mark} {i j : ℕ} → InOrder x.vocabulary →
    Facing x p s spans (record { written = true; level = l }) ms i j → 128 ≤ get_or p i 0 → AtName x p s spans ms i j
at_name {x} {p} {s} {spans} {l} {ms} {i} {j} in_order f high = go f.term f.ground f.side f.marked
  where
    go : (t : Term) (g : Ground) → Side x p s spans (cons t f.terms) (gcons g f.grounds) i j →
        Marked (cons t f.terms) (record { written = true; level = l } ∷ ms) → AtName x p s spans ms i j
    go any g c m = absurd (false≢true m.0)
    go (var n) g c m = record {
      name = n;
      terms = f.terms;
      ground = g;
      grounds = f.grounds;
      side = c;
      rest = m.2;
    }
    go (app k us) (gapp h hs) c m = absurd (omega (arith, (one_byte p i _ _ c.pattern).first, few (due c).1.1.term.0.0))
      where
        few : k < length (signature x.vocabulary).symbols → k < 96
        few q = omega (arith, length_symbols x.vocabulary, in_order.few_words)

module _ {x : Inputs} {p s spans : List ℕ} {ms : List Mark} {i j : ℕ} (at : AtName x p s spans ms i j) where
  name-here : get_or p i 0 - 128 ≡ at.name
  name-here = omega (arith, (pattern-name at.side).first)

  pub name-inside : i + 1 ≤ length p
  name-inside = (pattern-name at.side).inside

  pub name-known : get_or p i 0 - 128 < 64
  name-known = omega (arith, name-here, name-low at.side)

  pub name-spans : get_or spans (2 * (get_or p i 0 - 128)) 0 + get_or spans (2 * (get_or p i 0 - 128) + 1) 0 ≤ length s
  name-spans = rw name-here (spans-inside at.side)

  pub name-first : (after : List ℕ) (end : ℕ) → end ≡ j + size x.vocabulary at.ground → get_or spans (2 * (get_or p i 0 - 128) + 1) 0 ≡ 0 →
      after ≡ with_span spans (get_or p i 0 - 128) j (end - j) → Side x p s after at.terms at.grounds (i + 1) end
  name-first after end e zero set =
      let bytes : end - j ≡ size x.vocabulary at.ground = omega arith in
      subst (Side x p s after at.terms at.grounds (i + 1)) (sym e)
      (turn_first at.side after (rw name-here at zero) (set ∙ ap₂ (λ n l. with_span spans n j l) name-here bytes))

  module _ (in_order : InOrder x.vocabulary) {after : List ℕ} where
    covered-here : {r : ℕ} → Covered s spans after (get_or p i 0 - 128) j r → (r ≡ j + size x.vocabulary at.ground) × Side x p s after at.terms at.grounds (i + 1) (j + size x.vocabulary at.ground)
    covered-here {r} covered = turn_name at.side in_order (subst (λ n. Covered s spans after n j r) name-here covered)

    pub name-goes : {r : ℕ} → Covered s spans after (get_or p i 0 - 128) j r → Side x p s after at.terms at.grounds (i + 1) r
    name-goes covered =
        let go = covered-here covered in
        subst (Side x p s after at.terms at.grounds (i + 1)) (sym go.0) go.1

    pub name-later : {r : ℕ} → Covered s spans after (get_or p i 0 - 128) j r → j ≤ r
    name-later covered = omega (arith, (covered-here covered).0)

    pub name_none : Uncovered s spans after (get_or p i 0 - 128) j → matcher x.pattern x.situation ≡ none
    name_none stopped = turn_none at.side in_order (subst (λ n. Uncovered s spans after n j) name-here stopped)
