-- Spans: the span of a name cuts out of the situation the writing of what the name covers.
--
--   cover_from t g n, cover_all ts gs n   what the name n covers where t, or ts, is laid over g, or gs: at its first occurrence
--   Covers W s x h           the span x of the bytes s holds the writing of the ground term h
--   spans_cover              the span of a name holds what it covers
--   cover_fill               in a filled pattern a name covers what the filling gives it
--   span-absent              a name that does not stand in the pattern has no span
--
use mathlib.Core.Path.{◌≡◌, refl, sym, ap, ◌∙◌, subst}
use mathlib.Core.Bool.{Bool, true, false, cond, ◌||◌}
use mathlib.Core.List.{List, ◌++◌, append_assoc}
use mathlib.Core.Option.{Option, some, none}
use Prim.Native.Nat.{ℕ, ◌+◌}
use native.Mathlib.Omega.{arith}
use lib.Dec.{eqb}
use lib.ListN.{length, take, drop}
use lib.Seq.{take_at, drop_at, drop-drop}
use borrow.Author.Tests.{eqb-true}
use Rattle.terms.specs.Lists.{occurs}
use Rattle.terms.specs.Term.{Term, any, var, app, Terms, nil, cons, Ground, gapp, Grounds, gnil, gcons, names, names_all, openings, as_term, as_terms}
use Rattle.terms.specs.Filling.{Binding, value_of, fill_from, fill_all}
use Rattle.terms.proofs.Bools.{or_parts}
use Rattle.terms.proofs.Occurs.{occurs-append}
use Rattle.wire.specs.Map.{map_bytes}
use Rattle.wire.specs.Vocabulary.{Vocabulary}
use Rattle.wire.specs.TermBytes.{encode_at, encode_all}
use Rattle.wire.specs.Matching.{size, Span, span_from, span_all, cut_out}
use Rattle.terms.specs.Lists.{or_else}
use Rattle.wire.proofs.Cond.{cond_false}

-- The first of two ground terms that may be missing.
abbrev pub cover_else : Option Ground → Option Ground → Option Ground
cover_else (some h) o = some h
cover_else none o = o

abbrev mutual
  pub cover_from : Term → Ground → ℕ → Option Ground
  cover_from any g n = none
  cover_from (var m) g n = cond (eqb n m) (some g) none
  cover_from (app f ts) (gapp h gs) n = cover_all ts gs n

  pub cover_all : Terms → Grounds → ℕ → Option Ground
  cover_all nil gs n = none
  cover_all (cons t ts) gnil n = none
  cover_all (cons t ts) (gcons g gs) n = cover_else (cover_from t g n) (cover_all ts gs n)

pub record Covers (W : Vocabulary) (s : List ℕ) (x : Span) (h : Ground) : Type 0 where
  pub behind : List ℕ
  pub stands : drop x.offset s ≡ encode_at W (as_term h) ++ behind
  pub long : x.bytes ≡ size W h

pub covers-cut : (W : Vocabulary) (s : List ℕ) (x : Span) (h : Ground) → Covers W s x h → cut_out s x ≡ encode_at W (as_term h)
covers-cut W s x h c =
    ap (take x.bytes) c.stands ∙ take_at (encode_at W (as_term h)) c.behind x.bytes (sym c.long)

-- There is a span exactly where there is something covered, and it holds that.
abbrev pub SpanHolds : Vocabulary → List ℕ → Option Span → Option Ground → Type 0
SpanHolds W s none none = Unit {0}
SpanHolds W s none (some h) = ⊥
SpanHolds W s (some x) none = ⊥
SpanHolds W s (some x) (some h) = Covers W s x h

else_holds : (W : Vocabulary) (s : List ℕ) (a b : Option Span) (c d : Option Ground) → SpanHolds W s a c → SpanHolds W s b d →
    SpanHolds W s (or_else a b) (cover_else c d)
else_holds W s none b none d h k = k
else_holds W s none b (some g) d h k = absurd h
else_holds W s (some x) b none d h k = absurd h
else_holds W s (some x) b (some g) d h k = h

name-holds : (W : Vocabulary) (s : List ℕ) (c : Bool) (g : Ground) (at : ℕ) (r : List ℕ) → drop at s ≡ encode_at W (as_term g) ++ r →
    SpanHolds W s (cond c (some (record { offset = at; bytes = size W g })) none) (cond c (some g) none)
name-holds W s true g at r e = record { behind = r; stands = e; long = refl }
name-holds W s false g at r e = tt

-- What stands behind bytes that are known.
drop-behind : (s b r : List ℕ) (at n : ℕ) → drop at s ≡ b ++ r → length b ≡ n → drop (at + n) s ≡ r
drop-behind s b r at n e l = sym (drop-drop n at s) ∙ ap (drop n) e ∙ drop_at b r n l

mutual
  pub span-covers : (W : Vocabulary) (t : Term) (g : Ground) (n at : ℕ) (s r : List ℕ) → drop at s ≡ encode_at W (as_term g) ++ r →
      SpanHolds W s (span_from W t g n at) (cover_from t g n)
  span-covers W any g n at s r e = tt
  span-covers W (var m) g n at s r e = name-holds W s (eqb n m) g at r e
  span-covers W (app f ts) (gapp h gs) n at s r e =
      spans_cover W ts gs n (at + 1 + map_bytes) s r
      (ap (λ (c : ℕ). drop c s) (let c : at + 1 + map_bytes ≡ at + 2 = omega arith in c) ∙ sym (drop-drop 2 at s) ∙ ap (drop 2) e)

  pub spans_cover : (W : Vocabulary) (ts : Terms) (gs : Grounds) (n at : ℕ) (s r : List ℕ) → drop at s ≡ encode_all W (as_terms gs) ++ r →
      SpanHolds W s (span_all W ts gs n at) (cover_all ts gs n)
  spans_cover W nil gs n at s r e = tt
  spans_cover W (cons t ts) gnil n at s r e = tt
  spans_cover W (cons t ts) (gcons g gs) n at s r e =
      let e' : drop at s ≡ encode_at W (as_term g) ++ (encode_all W (as_terms gs) ++ r) =
      e ∙ append_assoc (encode_at W (as_term g)) (encode_all W (as_terms gs)) r in
      else_holds W s (span_from W t g n at) (span_all W ts gs n (at + size W g)) (cover_from t g n) (cover_all ts gs n)
      (span-covers W t g n at s (encode_all W (as_terms gs) ++ r) e')
      (spans_cover W ts gs n (at + size W g) s r
      (drop-behind s (encode_at W (as_term g)) (encode_all W (as_terms gs) ++ r) at (size W g) e' refl))

-- ---- a name that does not stand in the pattern

none_else : (a b : Option Span) → a ≡ none → b ≡ none → or_else a b ≡ none
none_else none b e h = h
none_else (some x) b e h = e

mutual
  pub span-absent : (W : Vocabulary) (t : Term) (g : Ground) (n at : ℕ) → occurs n (names t) ≡ false → span_from W t g n at ≡ none
  span-absent W any g n at o = refl
  span-absent W (var m) g n at o = cond_false (eqb n m) _ _ (or_parts (eqb n m) false o).0
  span-absent W (app f ts) (gapp h gs) n at o = spans-absent W ts gs n (at + 1 + map_bytes) o

  pub spans-absent : (W : Vocabulary) (ts : Terms) (gs : Grounds) (n at : ℕ) → occurs n (names_all ts) ≡ false → span_all W ts gs n at ≡ none
  spans-absent W nil gs n at o = refl
  spans-absent W (cons t ts) gnil n at o = refl
  spans-absent W (cons t ts) (gcons g gs) n at o =
      let h = or_parts (occurs n (names t)) (occurs n (names_all ts)) (sym (occurs-append n (names t) (names_all ts)) ∙ o) in
      none_else (span_from W t g n at) (span_all W ts gs n (at + size W g))
      (span-absent W t g n at h.0) (spans-absent W ts gs n (at + size W g) h.1)

-- ---- a name that stands in a filled pattern

-- What is covered, where anything is, is the ground term h.
abbrev Only : Ground → Bool → Option Ground → Type 0
Only h true o = o ≡ some h
Only h false o = o ≡ none

only_else : (h : Ground) (a b : Bool) (o p : Option Ground) → Only h a o → Only h b p → Only h (a || b) (cover_else o p)
only_else h true b o p e k = ap (λ z. cover_else z p) e
only_else h false b o p e k = subst (λ z. Only h b (cover_else z p)) (sym e) k

only-name : (bs : List Binding) (n m : ℕ) (c : Bool) → eqb n m ≡ c → Only (value_of bs n) (c || false) (cond c (some (value_of bs m)) none)
only-name bs n m true e = ap (λ k. some (value_of bs k)) (sym (eqb-true n m e))
only-name bs n m false e = refl

mutual
  cover_only : (t : Term) (bs : List Binding) (os : List Ground) (n : ℕ) →
      Only (value_of bs n) (occurs n (names t)) (cover_from t (fill_from bs t os) n)
  cover_only any bs os n = refl
  cover_only (var m) bs os n = only-name bs n m (eqb n m) refl
  cover_only (app f ts) bs os n = covers-only ts bs os n

  covers-only : (ts : Terms) (bs : List Binding) (os : List Ground) (n : ℕ) →
      Only (value_of bs n) (occurs n (names_all ts)) (cover_all ts (fill_all bs ts os) n)
  covers-only nil bs os n = refl
  covers-only (cons t ts) bs os n =
      subst (λ b. Only (value_of bs n) b (cover_all (cons t ts) (fill_all bs (cons t ts) os) n)) (sym (occurs-append n (names t) (names_all ts)))
      (only_else (value_of bs n) (occurs n (names t)) (occurs n (names_all ts))
      (cover_from t (fill_from bs t os) n) (cover_all ts (fill_all bs ts (drop (openings t) os)) n)
      (cover_only t bs os n) (covers-only ts bs (drop (openings t) os) n))

pub cover_fill : (t : Term) (bs : List Binding) (os : List Ground) (n : ℕ) → occurs n (names t) ≡ true →
    cover_from t (fill_from bs t os) n ≡ some (value_of bs n)
cover_fill t bs os n o = subst (λ b. Only (value_of bs n) b (cover_from t (fill_from bs t os) n)) o (cover_only t bs os n)

-- The span of a name of a pattern that is filled.
span-known : (W : Vocabulary) (s : List ℕ) (o : Option Span) (h : Ground) → SpanHolds W s o (some h) → (x : Span) × (o ≡ some x) × Covers W s x h
span-known W s none h k = absurd k
span-known W s (some x) h k = (x, refl, k)

pub span_value : (W : Vocabulary) (t : Term) (bs : List Binding) (os : List Ground) (n at : ℕ) (s r : List ℕ) → occurs n (names t) ≡ true →
    drop at s ≡ encode_at W (as_term (fill_from bs t os)) ++ r →
    (x : Span) × (span_from W t (fill_from bs t os) n at ≡ some x) × Covers W s x (value_of bs n)
span_value W t bs os n at s r o e =
    span-known W s (span_from W t (fill_from bs t os) n at) (value_of bs n)
    (subst (SpanHolds W s (span_from W t (fill_from bs t os) n at)) (cover_fill t bs os n o)
    (span-covers W t (fill_from bs t os) n at s r e))
