-- Spans: what is noted of names while a pattern and a situation are gone through; no public contract cites it.
--
--   with_span spans n at l       the spans with that of the name n set
--   noted l x                   the span x, unless its length l is 0: then nothing is noted
--   span_at spans n              the span noted for the name n, where there is one
--   Standing s at               a ground term stands in the bytes s at an offset
--   ends a                      where it ends
--   Covered, Uncovered          what covering the part at an offset by a name does to the spans, where it ends and where it does not
--   Covers                      one of these, by the answer
--   KnownEnd s spans name at r  .. where a part is noted already; there is an end only then
--   bound bs n                  what the bindings bs give the name n
--   Holding W s x h             the span x of the bytes s holds the ground term h
--   Told W s x o                a span is noted exactly where the name is bound, and it holds what the name is bound to
--
use Rattle.std.specs.Prelude as P
use Rattle.std.specs.Prelude.{Some, None, ◌≡◌, cond, List, [], ◌∷◌, ◌++◌, ℕ, ◌+◌, ◌-◌, ◌*◌, ◌<◌, ◌≤◌, eqb, length, get_or, take, drop, set}
use Rattle.std.proofs.Math.Option.{Option, some, none}
use Rattle.terms.specs.Term.{Ground, SortedG, as_term}
use Rattle.terms.specs.Filling.{Binding}
use Rattle.wire.specs.Vocabulary.{Vocabulary, signature, InOrder}
use Rattle.wire.specs.TermBytes.{encode_at}
use Rattle.wire.specs.Matching.{size, Span, span_in}

abbrev pub with_span : List ℕ → ℕ → ℕ → ℕ → List ℕ
with_span spans n at l = set (set spans (2 * n) at) (2 * n + 1) l

abbrev pub noted : ℕ → Span → Option Span
noted l x = cond (eqb l 0) none (some x)

abbrev pub span_at : List ℕ → ℕ → Option Span
span_at spans n = noted (get_or spans (2 * n + 1) 0) (span_in spans n)

pub record Standing (s : List ℕ) (at : ℕ) : Type 0 where
  pub vocabulary : Vocabulary
  pub in_order : InOrder vocabulary
  pub ground : Ground
  pub sort : ℕ
  pub sorted : SortedG (signature vocabulary) ground sort
  pub behind : List ℕ
  pub stands : drop at s ≡ encode_at vocabulary (as_term ground) ++ behind
  pub inside : at ≤ length s

abbrev pub ends : {s : List ℕ} {at : ℕ} → Standing s at → ℕ
ends {at} a = at + size a.vocabulary a.ground

pub record Covered (s before after : List ℕ) (name at end : ℕ) : Type 0 where
  -- The first time the part is noted.
  pub new : get_or before (2 * name + 1) 0 ≡ 0 → (a : Standing s at) → end ≡ ends a
  pub noting : get_or before (2 * name + 1) 0 ≡ 0 → (at < end) × (after ≡ with_span before name at (end - at))
  pub inside : end ≤ length s
  -- Later it must be the part that is noted.
  pub kept : (get_or before (2 * name + 1) 0 ≡ 0 → ⊥) → after ≡ before
  pub yes : (get_or before (2 * name + 1) 0 ≡ 0 → ⊥) →
      (end ≡ at + get_or before (2 * name + 1) 0)
      × (take (get_or before (2 * name + 1) 0) (drop (get_or before (2 * name) 0) s) ≡ take (get_or before (2 * name + 1) 0) (drop at s))

-- The bytes end before the part does, or another part is noted.
pub record Uncovered (s before after : List ℕ) (name at : ℕ) : Type 0 where
  pub kept : after ≡ before
  pub new : get_or before (2 * name + 1) 0 ≡ 0 → Standing s at → ⊥
  pub no : (get_or before (2 * name + 1) 0 ≡ 0 → ⊥) → at + get_or before (2 * name + 1) 0 ≤ length s →
      take (get_or before (2 * name + 1) 0) (drop (get_or before (2 * name) 0) s) ≡ take (get_or before (2 * name + 1) 0) (drop at s) → ⊥

abbrev pub Covers : List ℕ → List ℕ → List ℕ → ℕ → ℕ → P.Option ℕ → Type 0
Covers s before after name at None = Uncovered s before after name at
Covers s before after name at (Some end) = Covered s before after name at end

abbrev pub KnownEnd : List ℕ → List ℕ → ℕ → ℕ → P.Option ℕ → Type 0
KnownEnd s spans name at None = (get_or spans (2 * name + 1) 0 ≡ 0 → ⊥) → Uncovered s spans spans name at
KnownEnd s spans name at (Some end) = Covered s spans spans name at end

abbrev pub bound : List Binding → ℕ → Option Ground
bound [] n = none
bound (b ∷ bs) n = cond (eqb n b.name) (some b.value) (bound bs n)

pub record Holding (W : Vocabulary) (s : List ℕ) (x : Span) (h : Ground) : Type 0 where
  pub sort : ℕ
  pub sorted : SortedG (signature W) h sort
  pub behind : List ℕ
  pub stands : drop x.offset s ≡ encode_at W (as_term h) ++ behind
  pub long : x.bytes ≡ size W h

abbrev pub Told : Vocabulary → List ℕ → Option Span → Option Ground → Type 0
Told W s none none = Unit {0}
Told W s none (some h) = ⊥
Told W s (some x) none = ⊥
Told W s (some x) (some h) = Holding W s x h
