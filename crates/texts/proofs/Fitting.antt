-- Fitting: what it says that a token passes a test, or that there is no reason against it.
--
--   Lexed l                          each of the lexemes l is a token or empty
--   first_fine                       a choice that gives no reason
--   identifier-good, variable-good   a token that passes the test is a name, a variable
--   WordFits, word_fits              there is no reason against a word
--   VariableFits, variable-fits      there is no reason against a variable
--
use mathlib.Core.Path.{◌≡◌, refl}
use mathlib.Core.Bool.{Bool, true, false, cond, false≢true}
use mathlib.Core.List.{List, [], ◌∷◌}
use mathlib.Core.Logic.{◌⊎◌, inl, inr}
use Prim.Native.Nat.{ℕ, zero, suc, ◌+◌, ◌<◌, ◌≤◌}
use native.Mathlib.Omega.{arith}
use lib.Dec.{eqb, ltb, leb}
use lib.ListN.{length, drop}
use borrow.Author.Tests.{ltb-true, ltb-false, leb-true, eqb-true, eqb-false}
use Rattle.terms.specs.Lists.{All}
use Rattle.wire.specs.Vocabulary.{Vocabulary, word}
use Rattle.wire.specs.TermBytes.{name_count, most_bytes}
use Rattle.texts.specs.Lexemes.{Token, Lexeme, is_name_byte}
use Rattle.texts.specs.Names.{most_name, is_identifier, is_variable, index_in, IsIdentifier, IsVariable}
use Rattle.texts.specs.Spelling.{IsToken, run, single}
use Rattle.texts.specs.Faults.{term_due, unknown_word, other_kind, too_deep, too_long, variable_twice, many_variables, long_name}
use Rattle.texts.specs.PhraseReading.{Seen, word_bytes, word_why, variable_why}
use Rattle.texts.proofs.Telling.{begins-name}

-- ---- tokens that pass a test

abbrev pub Lexed : List Lexeme → Type 0
Lexed l = All (λ (x : Lexeme). (x.token ≡ []) ⊎ IsToken x.token) l

behind-names : {u : Token} → IsToken u → All (λ c. is_name_byte c ≡ true) (drop 1 u)
behind-names (run b u r a) = a
behind-names (single b r e c) = tt

pub identifier-good : (u : Token) → (u ≡ []) ⊎ IsToken u → is_identifier u ≡ true → length u ≤ most_name → IsIdentifier u
identifier-good [] t e n = absurd (false≢true e)
identifier-good (b ∷ u) (inl z) e n = let z : ◌≡◌ {A = ℕ} 0 1 = cc in absurd (omega arith)
identifier-good (b ∷ u) (inr t) e n =
    record { characters = (begins-name (b ∷ u) e, behind-names t); identifier = e; short = n }

pub variable-good : (u : Token) → (u ≡ []) ⊎ IsToken u → is_variable u ≡ true → length u ≤ suc most_name → IsVariable u
variable-good [] t e n = absurd (false≢true e)
variable-good (b ∷ u) (inl z) e n = let z : ◌≡◌ {A = ℕ} 0 1 = cc in absurd (omega arith)
variable-good (b ∷ u) (inr t) e n = record { characters = behind-names t; variable = e; short = n }

-- ---- a reason that is none

pub first_fine : (b : Bool) (m k : ℕ) → 0 < k → cond b m k ≡ 0 → (b ≡ true) × (m ≡ 0)
first_fine true m k h e = (refl, e)
first_fine false m k h e = absurd (omega arith)

second_fine : (b : Bool) (m k : ℕ) → 0 < k → cond b k m ≡ 0 → (b ≡ false) × (m ≡ 0)
second_fine true m k h e = absurd (omega arith)
second_fine false m k h e = (refl, e)

positive : (n : ℕ) → (n ≡ 0 → ⊥) → 1 ≤ n
positive zero h = absurd (h refl)
positive (suc n) h = omega arith

pub record WordFits (N : List Token) (W : Vocabulary) (left due : ℕ) (s : Seen) (u : Token) : Type 0 where
  pub known : index_in u N < length N
  pub kind : (word W (index_in u N)).result ≡ due
  pub deep : 1 ≤ left
  pub fits : s.used + word_bytes ≤ most_bytes

pub word_fits : (N : List Token) (W : Vocabulary) (left due : ℕ) (s : Seen) (u : Token) → word_why N W left due s u ≡ 0 → WordFits N W left due s u
word_fits N W left due s u e =
    let a = first_fine (is_identifier u) _ term_due (omega arith) e in
    let b = first_fine (ltb (index_in u N) (length N)) _ unknown_word (omega arith) a.1 in
    let c = first_fine (eqb (word W (index_in u N)).result due) _ other_kind (omega arith) b.1 in
    let d = second_fine (eqb left 0) _ too_deep (omega arith) c.1 in
    let f = first_fine (leb (s.used + word_bytes) most_bytes) 0 too_long (omega arith) d.1 in
    record {
      known = ltb-true (index_in u N) (length N) b.0;
      kind = eqb-true (word W (index_in u N)).result due c.0;
      deep = positive left (eqb-false left 0 d.0);
      fits = leb-true (s.used + word_bytes) most_bytes f.0;
    }

pub record VariableFits (left : ℕ) (s : Seen) (u : Token) : Type 0 where
  pub short : length u ≤ suc most_name
  pub fresh : length s.variables ≤ index_in u s.variables
  pub deep : 1 ≤ left
  pub few : length s.variables < name_count
  pub fits : s.used + 1 ≤ most_bytes

pub variable-fits : (left : ℕ) (s : Seen) (u : Token) → variable_why left s u ≡ 0 → VariableFits left s u
variable-fits left s u e =
    let a = first_fine (leb (length u) (suc most_name)) _ long_name (omega arith) e in
    let b = second_fine (ltb (index_in u s.variables) (length s.variables)) _ variable_twice (omega arith) a.1 in
    let c = second_fine (eqb left 0) _ too_deep (omega arith) b.1 in
    let d = first_fine (ltb (length s.variables) name_count) _ many_variables (omega arith) c.1 in
    let f = first_fine (leb (s.used + 1) most_bytes) 0 too_long (omega arith) d.1 in
    record {
      short = leb-true (length u) (suc most_name) a.0;
      fresh = ltb-false (index_in u s.variables) (length s.variables) b.0;
      deep = positive left (eqb-false left 0 c.0);
      few = ltb-true (length s.variables) name_count d.0;
      fits = leb-true (s.used + 1) most_bytes f.0;
    }
