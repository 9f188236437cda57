-- Walking: what the functions that go through a pattern and a situation side by side promise each other; no public
-- contract cites it.
--
--   InputsRead p s                inputs that the bytes p and s write
--   found o                       there is a filling
--   WalkedOver x after r          r tells whether there is a filling of the inputs x, and the spans are those of match's table
--   Walked p s after r            the same of whatever inputs p and s write
--   Side x p s spans ts gs i j    the terms ts of the pattern and gs of the situation are still due, at i and j
--   Shut ts                       none of the terms ts is an open place, or too deep
--   GoingOver x p s spans i j     such terms are due; behind the pattern's last byte open places may be due too
--   Going p s spans i j           the same of whatever inputs p and s write
--   AtSharedWord p s spans i j    .. and the first two begin with the same word
--   WordBehind                    the same state behind a word
--   WordWalked                    what going through a word answers: how far the walk has come then, if there is a filling
--   AtPlace p s spans i j         a word or a name stands in the pattern at i, over a part of the situation at j
--   WordPassed, NamePassed        how far the walk has come behind it
--   PlacePassed, PlaceStopped     one of these, by the byte that stands there; it does not fit
--   PlaceTold                     one of these, by what passing it answers
--
use Rattle.std.specs.Prelude as P
use Rattle.std.specs.Prelude.{Some, None, ◌≡◌, Bool, true, false, List, ℕ, ◌*◌, ◌+◌, ◌-◌, ◌<◌, ◌≤◌, length, get_or, drop}
use Rattle.std.proofs.Math.Option.{Option, some, none}
use Rattle.terms.specs.Lists.{All, or_else}
use Rattle.terms.specs.Term.{Terms, Grounds, SortedAll, SortedGs, names_all, as_terms}
use Rattle.terms.specs.Filling.{Filling}
use Rattle.terms.specs.Matcher.{match_all, matcher}
use Rattle.wire.specs.Map.{map_bytes}
use Rattle.wire.specs.Vocabulary.{signature}
use Rattle.wire.specs.TermBytes.{name_count, encode_all, levels_all}
use Rattle.wire.specs.GapComputed.{some_open}
use Rattle.wire.specs.Matching.{Inputs, HoldsInputs, span_from, span_all}
use Rattle.wire.specs.MatchComputed.{span_table}
use Rattle.spans.specs.Spans.{span_at, Standing, Covered, Uncovered, bound, Told}
use Rattle.spans.specs.declared.Reached.{Reached}

pub record InputsRead (p s : List ℕ) : Type 0 where
  pub bytes : List ℕ
  pub inputs : Inputs
  pub held : HoldsInputs bytes p s inputs

abbrev pub found : Option Filling → Bool
found (some f) = true
found none = false

pub record WalkedOver (x : Inputs) (after : List ℕ) (r : Bool) : Type 0 where
  pub answer : r ≡ found (matcher x.pattern x.situation)
  pub table : r ≡ true → after ≡ span_table x.vocabulary x.pattern x.situation

abbrev pub Walked : List ℕ → List ℕ → List ℕ → Bool → Type 0
Walked p s after r = (a : InputsRead p s) → WalkedOver a.inputs after r

-- What is due leads to the same filling and the same spans.
pub record Side (x : Inputs) (p s spans : List ℕ) (ts : Terms) (gs : Grounds) (i j : ℕ) : Type 0 where
  pub filling : Filling
  pub sorts : List ℕ
  pub sorted : SortedAll (signature x.vocabulary) ts sorts
  pub sorted_grounds : SortedGs (signature x.vocabulary) gs sorts
  pub named : All (λ n. n < name_count) (names_all ts)
  pub outcome : match_all ts gs filling ≡ matcher x.pattern x.situation
  pub pattern : drop i p ≡ encode_all x.vocabulary ts
  pub situation : drop j s ≡ encode_all x.vocabulary (as_terms gs)
  pub told : (n : ℕ) → n < name_count → Told x.vocabulary s (span_at spans n) (bound filling.named n)
  pub reported : (n : ℕ) → n < name_count →
      or_else (span_at spans n) (span_all x.vocabulary ts gs n j) ≡ span_from x.vocabulary x.pattern x.situation n 1
  pub blank : (n : ℕ) → n < name_count → get_or spans (2 * n + 1) 0 ≡ 0 → get_or spans (2 * n) 0 ≡ 0
  pub inside_pattern : i ≤ length p
  pub inside_situation : j ≤ length s
  pub span_entries : length spans ≡ 128

pub record Shut (ts : Terms) : Type 0 where
  pub written : some_open ts ≡ false
  pub shallow : levels_all ts ≤ 32

pub record GoingOver (x : Inputs) (p s spans : List ℕ) (i j : ℕ) : Type 0 where
  pub terms : Terms
  pub grounds : Grounds
  pub side : Side x p s spans terms grounds i j
  pub shut : i < length p → Shut terms

abbrev pub Going : List ℕ → List ℕ → List ℕ → ℕ → ℕ → Type 0
Going p s spans i j = (a : InputsRead p s) → GoingOver a.inputs p s spans i j

pub record AtSharedWord (p s spans : List ℕ) (i j : ℕ) : Type 0 where
  pub going : Going p s spans i j
  pub some : i < length p
  pub word : get_or p i 0 < 128
  pub shared : get_or p i 0 ≡ get_or s j 0

pub record WordBehind (p s after : List ℕ) (i pattern situation : ℕ) : Type 0 where
  pub further : i < pattern
  pub on : Going p s after pattern situation

abbrev pub WordWalked : List ℕ → List ℕ → List ℕ → ℕ → P.Option Reached → Type 0
WordWalked p s after i None = Walked p s after false
WordWalked p s after i (Some r) = WordBehind p s after i r.pattern r.situation

pub record AtPlace (p s spans : List ℕ) (i j : ℕ) : Type 0 where
  pub inside : i < length p
  pub most : (length p ≤ 4096) × (length s ≤ 4096)
  pub nodes : get_or p i 0 < 128 → (i + (1 + map_bytes) ≤ length p) × (j + (1 + map_bytes) ≤ length s)
  pub part : 128 ≤ get_or p i 0 → Standing s j
  pub known : 128 ≤ get_or p i 0 → get_or p i 0 - 128 < 64
  pub spans_inside : 128 ≤ get_or p i 0 → get_or spans (2 * (get_or p i 0 - 128)) 0 + get_or spans (2 * (get_or p i 0 - 128) + 1) 0 ≤ length s

pub record WordPassed (p s before after : List ℕ) (i j pattern situation : ℕ) : Type 0 where
  pub kept : after ≡ before
  pub shared : get_or p i 0 ≡ get_or s j 0
  pub behind : (pattern ≡ i + (1 + map_bytes)) × (situation ≡ j + (1 + map_bytes))

pub record NamePassed (p s before after : List ℕ) (i j pattern situation : ℕ) : Type 0 where
  pub covered : Covered s before after (get_or p i 0 - 128) j situation
  pub behind : pattern ≡ i + 1

pub record PlacePassed (p s before after : List ℕ) (i j pattern situation : ℕ) : Type 0 where
  pub word : get_or p i 0 < 128 → WordPassed p s before after i j pattern situation
  pub name : 128 ≤ get_or p i 0 → NamePassed p s before after i j pattern situation

pub record PlaceStopped (p s before after : List ℕ) (i j : ℕ) : Type 0 where
  pub word : get_or p i 0 < 128 → get_or p i 0 ≡ get_or s j 0 → ⊥
  pub name : 128 ≤ get_or p i 0 → Uncovered s before after (get_or p i 0 - 128) j

abbrev pub PlaceTold : List ℕ → List ℕ → List ℕ → List ℕ → ℕ → ℕ → P.Option Reached → Type 0
PlaceTold p s before after i j None = PlaceStopped p s before after i j
PlaceTold p s before after i j (Some r) = PlacePassed p s before after i j r.pattern r.situation
