-- Filled: what document 02's call "fill" (request i) promises of its reply and of the lent slice.
--
--   FillInputs               a vocabulary, a pattern of a kind, and bindings for its names
--   HoldsFillInputs v p b x  the bytes v, p and b are accepted: they write these inputs
--   filled_term x             the pattern with each name replaced
--   filled_bytes x            its bytes
--   value_span_from, value_span x n    where the value of the name n stands in the filling file; 0 and 0 where it has none
--   FillUnder, FillRefusal   the number, input and place that the refusal list decides on: lines 1 to 5 and 7 to 15, 21, 22, 23 and 20
--   MatchesBack v p b x m    match says yes to the situation m, with the parts that the file gave
--   Result v p b x m after   what stands in the first m bytes of the lent slice
--   FillPromise              what fill promises of its reply and the lent slice
--
use Rattle.std.specs.Prelude.{◌≡◌, true, cond, List, [], ◌∷◌, ◌↔◌, ◌⊎◌, ℕ, ◌+◌, ◌<◌, ◌≤◌, eqb, length, take, drop}
use Rattle.terms.specs.Lists.{occurs}
use Rattle.terms.specs.Term.{Term, names}
use Rattle.terms.specs.Filling.{Binding}
use Rattle.terms.specs.Substitution.{Substitution, carry, with_variables}
use Rattle.terms.specs.Replacing.{replace, Applies}
use Rattle.wire.specs.Reply.{Reply, accepted, refused}
use Rattle.wire.specs.Vocabulary.{Vocabulary, signature, HoldsVocabulary}
use Rattle.wire.specs.TermBytes.{encode_term, deepest, most_bytes, most_levels, Limits, HoldsTerm, complete}
use Rattle.wire.specs.Refusals.{Decides}
use Rattle.wire.specs.VocabularyLines.{VocabularyFirst}
use Rattle.wire.specs.TermLines.{TermLine}
use Rattle.wire.specs.Matching.{table_length, size, Span, no_span, span_in, cut_out, yes, MatchPromise}
use Rattle.wire.specs.FillingFile.{name_map_bytes, HoldsFilling}
use Rattle.wire.specs.FillingLines.{FillingLine}

pub record FillInputs : Type 0 where
  pub vocabulary : Vocabulary
  pub kind : ℕ
  pub pattern : Term
  pub values : List Binding

pub record HoldsFillInputs (v p b : List ℕ) (x : FillInputs) : Type 0 where
  pub vocabulary : HoldsVocabulary v x.vocabulary
  pub pattern : HoldsTerm x.vocabulary p x.kind x.pattern
  pub filling : HoldsFilling x.vocabulary x.kind x.pattern b x.values

-- "the pattern with each name replaced".
abbrev pub filled_term : FillInputs → Term
filled_term x = replace x.values x.pattern

abbrev pub filled_bytes : FillInputs → List ℕ
filled_bytes x = encode_term x.vocabulary x.kind (filled_term x)

-- The values stand behind the map, each directly behind the one before it.
abbrev pub value_span_from : Vocabulary → List Binding → ℕ → ℕ → Span
value_span_from W [] n at = no_span
value_span_from W (b ∷ bs) n at = cond (eqb n b.name) (record { offset = at; bytes = size W b.value }) (value_span_from W bs n (at + size W b.value))

abbrev pub value_span : FillInputs → ℕ → Span
value_span x n = value_span_from x.vocabulary x.values n name_map_bytes

-- "After vocabulary and pattern come 21 ..; then 22 ..; 23 .., and then 20. 21 to 23 have input 4."
pub data FillUnder (p b out : List ℕ) (W : Vocabulary) : ℕ → ℕ → ℕ → Type 0 where
  of_pattern : (n q : ℕ) → Decides (TermLine W p) n q → FillUnder p b out W n 1 q
  of_filling : (s : ℕ) (t : Term) (n q : ℕ) → HoldsTerm W p s t → Decides (FillingLine W s t b) n q → FillUnder p b out W n 4 q
  -- 23 "when the result is longer than 4,096 bytes or deeper than 32 levels (place 0)".
  too_large : (s : ℕ) (t : Term) (bs : List Binding) → HoldsTerm W p s t → HoldsFilling W s t b bs →
      (most_bytes < length (encode_term W s (replace bs t))) ⊎ (most_levels < deepest (replace bs t)) → FillUnder p b out W 23 4 0
  -- 20. "The listing, or other output that a call is to write, is longer than the lent slice (input 3, place: that output's
  -- length in bytes)."
  no_room : (s : ℕ) (t : Term) (bs : List Binding) → HoldsTerm W p s t → HoldsFilling W s t b bs →
      Limits (encode_term W s (replace bs t)) (replace bs t) → length out < length (encode_term W s (replace bs t)) →
      FillUnder p b out W 20 3 (length (encode_term W s (replace bs t)))

abbrev pub FillRefusal : List ℕ → List ℕ → List ℕ → List ℕ → ℕ → ℕ → ℕ → Type 0
FillRefusal v p b out = VocabularyFirst v (FillUnder p b out)

-- "matching it with the pattern gives back the parts filled in": whatever match's promise allows is a yes, and the part of
-- each name is the very bytes that the file gave for it.
abbrev pub MatchesBack : List ℕ → List ℕ → List ℕ → FillInputs → List ℕ → Type 0
MatchesBack v p b x situation =
    (before after : List ℕ) (r : Reply) → length before ≡ table_length → MatchPromise v p situation before after r →
    (r ≡ yes) ×
    ((n : ℕ) → occurs n (names x.pattern) ≡ true → cut_out situation (span_in after n) ≡ cut_out b (value_span x n))

pub record Result (v p b : List ℕ) (x : FillInputs) (m : ℕ) (after : List ℕ) : Type 0 where
  -- "The call writes the pattern with each name replaced": a term that the term check accepts.
  pub inside : m ≤ length after
  pub written : HoldsTerm x.vocabulary (take m after) x.kind (filled_term x)
  -- It is what source 004's application of the substitution that the file stands for gives.
  pub applied : (σ : Substitution) → Applies (signature x.vocabulary) x.pattern x.kind x.values σ →
      carry σ.value (with_variables (signature x.vocabulary) x.pattern x.kind)
      ≡ with_variables (signature x.vocabulary) (filled_term x) x.kind
  -- "If the result is complete, matching it with the pattern gives back the parts filled in."
  pub matches : complete (filled_term x) ≡ true → MatchesBack v p b x (take m after)

pub record FillPromise (v p b before after : List ℕ) (r : Reply) : Type 0 where
  -- Demand 1: "a faulty one gets the number that its refusal list decides, with the input and place".
  pub refuses : (n i q : ℕ) → (r ≡ refused n i q) ↔ FillRefusal v p b before n i q
  -- It is accepted exactly where the inputs are in order and the result fits; "its answer is the result's length".
  pub answered : (values : List ℕ) →
      (r ≡ accepted values) ↔
      ((x : FillInputs) × HoldsFillInputs v p b x × Limits (filled_bytes x) (filled_term x) × (length (filled_bytes x) ≤ length before) ×
      (values ≡ length (filled_bytes x) ∷ []))
  pub result : (m : ℕ) → r ≡ accepted (m ∷ []) → (x : FillInputs) → HoldsFillInputs v p b x → Result v p b x m after
  -- "lent bytes behind what a call writes stay unchanged".
  pub behind : (m : ℕ) → r ≡ accepted (m ∷ []) → drop m after ≡ drop m before
  -- Demand 1: "a refusal changes nothing lent to the call".
  pub kept : (n i q : ℕ) → r ≡ refused n i q → after ≡ before
