-- Matching: what document 01's calls "match" and "part" promise: demand 2 of the reply and of the lent table.
--
--   Inputs                   a vocabulary, a pattern and a ground term of the pattern's kind
--   HoldsInputs v p s x      the bytes v, p and s are accepted: they write these inputs
--   table_length              the table has this many numbers (128)
--   size W g                 how many bytes the ground term g takes
--   Span, no_span             an offset and a length; 0 and 0
--   span_from, span_all        where the term at a name's first occurrence stands
--   or_no_span                 a span, or 0 and 0
--   span W t g n             the same from the kind byte on, for the pattern t and the situation g
--   span_in table n           the span that a table gives a name
--   cut_out s x               the bytes of s at a span
--   yes, no                  the replies
--   FitsInputs x             some filling turns the pattern into the situation
--   TurnsInputs x f          the filling f does
--   SpansOf x s f table      the table gives the parts that a filling gives the names
--   MatchUnder, MatchRefusal    the number, input and place that the refusal list decides on: lines 1 to 5 and 7 to 17 and 19
--   MatchPromise             what match promises of its reply and table
--   PartPromise              what part promises of its reply and where in the situation it stands
--
use Rattle.std.specs.Prelude.{◌≡◌, true, false, cond, List, [], ◌∷◌, ◌↔◌, ◌⊎◌, ℕ, ◌+◌, ◌*◌, ◌<◌, ◌≤◌, eqb, length, get_or, take, drop}
use Rattle.std.proofs.Math.Option.{Option, some, none}
use Rattle.terms.specs.Lists.{occurs, or_else}
use Rattle.terms.specs.Term.{Term, any, var, app, Terms, nil, cons, Ground, gapp, Grounds, gnil, gcons, names, as_term}
use Rattle.terms.specs.Filling.{Filling, value_of, TurnsInto, Fits}
use Rattle.terms.specs.Substitution.{Matches, as_tm, with_variables}
use Rattle.wire.specs.Reply.{Reply, accepted, refused}
use Rattle.wire.specs.Map.{map_bytes}
use Rattle.wire.specs.Vocabulary.{Vocabulary, signature, HoldsVocabulary}
use Rattle.wire.specs.TermBytes.{name_count, encode_at, HoldsTerm}
use Rattle.wire.specs.Refusals.{Decides}
use Rattle.wire.specs.VocabularyLines.{VocabularyFirst}
use Rattle.wire.specs.TermLines.{TermLine}
use Rattle.wire.specs.SituationLines.{SituationLine}

pub record Inputs : Type 0 where
  pub vocabulary : Vocabulary
  pub kind : ℕ
  pub pattern : Term
  pub situation : Ground

-- The situation is complete and has the pattern's kind: it writes a ground term of that kind.
pub record HoldsInputs (v p s : List ℕ) (x : Inputs) : Type 0 where
  pub vocabulary : HoldsVocabulary v x.vocabulary
  pub pattern : HoldsTerm x.vocabulary p x.kind x.pattern
  pub situation : HoldsTerm x.vocabulary s x.kind (as_term x.situation)

-- "a lent table of 128 u16".
abbrev pub table_length : ℕ
table_length = 128

abbrev pub size : Vocabulary → Ground → ℕ
size W g = length (encode_at W (as_term g))

pub record Span : Type 0 where
  pub offset : ℕ
  pub bytes : ℕ

abbrev pub no_span : Span
no_span = record { offset = 0; bytes = 0 }

-- "the offset in the situation of the term at name n's first occurrence": the pattern t and the ground
-- term g are gone through side by side, g beginning at an offset.
abbrev mutual
  pub span_from : Vocabulary → Term → Ground → ℕ → ℕ → Option Span
  span_from W any g n at = none
  span_from W (var m) g n at = cond (eqb n m) (some (record { offset = at; bytes = size W g })) none
  span_from W (app f ts) (gapp h gs) n at = span_all W ts gs n (at + 1 + map_bytes)

  pub span_all : Vocabulary → Terms → Grounds → ℕ → ℕ → Option Span
  span_all W nil gs n at = none
  span_all W (cons t ts) gnil n at = none
  span_all W (cons t ts) (gcons g gs) n at = or_else (span_from W t g n at) (span_all W ts gs n (at + size W g))

-- "Names absent from the pattern get 0 and 0."
abbrev pub or_no_span : Option Span → Span
or_no_span (some x) = x
or_no_span none = no_span

-- The situation's kind byte is byte 0, so its term begins at 1.
abbrev pub span : Vocabulary → Term → Ground → ℕ → Span
span W t g n = or_no_span (span_from W t g n 1)

-- "at 2n the offset .., at 2n + 1 its length".
abbrev pub span_in : List ℕ → ℕ → Span
span_in table n = record { offset = get_or table (2 * n) 0; bytes = get_or table (2 * n + 1) 0 }

-- "that very part of the lent situation": the bytes s from a span's offset on, as many as it is long.
abbrev pub cut_out : List ℕ → Span → List ℕ
cut_out s x = take x.bytes (drop x.offset s)

abbrev pub yes : Reply
yes = accepted (1 ∷ [])

abbrev pub no : Reply
no = accepted (0 ∷ [])

abbrev pub FitsInputs : Inputs → Type 0
FitsInputs x = Fits (signature x.vocabulary) x.pattern x.kind x.situation

abbrev pub TurnsInputs : Inputs → Filling → Type 0
TurnsInputs x f = TurnsInto (signature x.vocabulary) x.pattern x.kind f x.situation

-- Each name of the pattern has the part that the filling f gives it, at its first occurrence; other names have 0 and 0.
-- `long` and `first` fix the table; `named` and `absent` say what that means.
pub record SpansOf (x : Inputs) (s : List ℕ) (f : Filling) (table : List ℕ) : Type 0 where
  pub long : length table ≡ table_length
  pub first : (n : ℕ) → n < name_count → span_in table n ≡ span x.vocabulary x.pattern x.situation n
  pub named : (n : ℕ) → n < name_count → occurs n (names x.pattern) ≡ true →
      cut_out s (span_in table n) ≡ encode_at x.vocabulary (as_term (value_of f.named n))
  pub absent : (n : ℕ) → n < name_count → occurs n (names x.pattern) ≡ false → span_in table n ≡ no_span

-- "then the pattern, then the situation, then the rest", under the vocabulary W.
pub data MatchUnder (p s table : List ℕ) (W : Vocabulary) : ℕ → ℕ → ℕ → Type 0 where
  of_pattern : (n q : ℕ) → Decides (TermLine W p) n q → MatchUnder p s table W n 1 q
  of_situation : (k : ℕ) (t : Term) (n q : ℕ) → HoldsTerm W p k t → Decides (SituationLine W k s) n q → MatchUnder p s table W n 2 q
  -- 19. "The table's length is not 128 numbers (input 3, place 0)."
  of_table : (k : ℕ) (t : Term) (g : Ground) → HoldsTerm W p k t → HoldsTerm W s k (as_term g) → (length table ≡ table_length → ⊥) →
      MatchUnder p s table W 19 3 0

abbrev pub MatchRefusal : List ℕ → List ℕ → List ℕ → List ℕ → ℕ → ℕ → ℕ → Type 0
MatchRefusal v p s table = VocabularyFirst v (MatchUnder p s table)

pub record MatchPromise (v p s before after : List ℕ) (r : Reply) : Type 0 where
  -- Demand 1: "a faulty one gets the number that its refusal list decides, with the input and place".
  pub refuses : (n i q : ℕ) → (r ≡ refused n i q) ↔ MatchRefusal v p s before n i q
  -- Yes or no is answered exactly where the inputs are in order and the table has 128 numbers.
  pub answered : ((r ≡ yes) ⊎ (r ≡ no)) ↔ ((x : Inputs) × HoldsInputs v p s x × (length before ≡ table_length))
  -- There is no other answer.
  pub only : (values : List ℕ) → r ≡ accepted values → (r ≡ yes) ⊎ (r ≡ no)
  -- Demand 2: yes "when some filling turns the pattern into the situation, and no when there is none".
  pub fits : (x : Inputs) → HoldsInputs v p s x → length before ≡ table_length → (r ≡ yes) ↔ FitsInputs x
  -- Demand 2: "A match agrees with Kulaš's definition of term matching". A no says that no substitution at all turns the
  -- pattern into the situation.
  pub agrees : (x : Inputs) → HoldsInputs v p s x → length before ≡ table_length →
      (r ≡ yes) ↔ Matches (with_variables (signature x.vocabulary) x.pattern x.kind) (as_tm x.situation)
  -- Demand 2: ".. with the part that each name covers".
  pub parts : (x : Inputs) → HoldsInputs v p s x → r ≡ yes → (f : Filling) → TurnsInputs x f → SpansOf x s f after
  -- "No leaves the table unchanged." Demand 1: "a refusal changes nothing lent to the call".
  pub kept : (r ≡ yes → ⊥) → after ≡ before

-- `at` is where the answer r stands in the situation.
pub record PartPromise (v p s : List ℕ) (n : ℕ) (at : Span) (r : List ℕ) : Type 0 where
  -- "the answer is that very part of the lent situation".
  pub cut : r ≡ cut_out s at
  -- Where the pattern has the name and the situation fits, it is the part at the name's first occurrence ..
  pub covered : (x : Inputs) → HoldsInputs v p s x → occurs n (names x.pattern) ≡ true → FitsInputs x →
      at ≡ span x.vocabulary x.pattern x.situation n
  -- .. which writes the filling's value, "without the kind byte".
  pub value : (x : Inputs) → HoldsInputs v p s x → occurs n (names x.pattern) ≡ true → (f : Filling) → TurnsInputs x f →
      r ≡ encode_at x.vocabulary (as_term (value_of f.named n))
  -- "It is empty if match, given a table of the right length, would not say yes, or the name does not stand in the
  -- pattern, or its number is above 63."
  pub empty : ((x : Inputs) → HoldsInputs v p s x → occurs n (names x.pattern) ≡ true → FitsInputs x → ⊥) ⊎ (name_count ≤ n) → at ≡ no_span
  -- "A covered part has at least 2 bytes, so empty is never ambiguous."
  pub empty_or_covered : (r ≡ []) ⊎ ((2 ≤ length r) × ((x : Inputs) × HoldsInputs v p s x × (occurs n (names x.pattern) ≡ true) × FitsInputs x))
