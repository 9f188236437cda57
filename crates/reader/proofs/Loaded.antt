-- Loaded: what reading a vocabulary and a pattern to be listed gives, by what reading each gives.
--
--   settled-table                   the table of a vocabulary that is loaded into blank ones
--   cleared                         a refusal has no values
--   pattern-vocabulary, pattern-refused, pattern_loaded    the vocabulary is refused, the pattern is, or neither
--
use mathlib.Core.Path.{◌≡◌, refl, sym, ap, ◌∙◌, subst}
use mathlib.Core.List.{List}
use Prim.Native.Nat.{ℕ}
use native.Mathlib.Omega.{arith}
use lib.ListN.{replicate}
use Rattle.wire.specs.Reply.{Reply, accepted, refused}
use Rattle.wire.specs.Vocabulary.{most_words}
use Rattle.wire.specs.VocabularyLines.{byte_at}
use Rattle.signature.specs.Answers.{vocabulary_refused}
use Rattle.signature.specs.Tables.{vocabulary_in}
use Rattle.signature.specs.Settled.{settled_numbers, Settles, SettledFrom}
use Rattle.signature.specs.declared.VocabularyRefusal.{VocabularyRefusal}
use Rattle.std.specs.Prelude.{Option, Result, Ok, Err}
use Rattle.reader.specs.Answers.{term_refused}
use Rattle.reader.specs.Whole.{told, whole_told}
use Rattle.reader.specs.Loaded.{without_values, SettledTable, PatternLoaded}
use Rattle.reader.specs.declared.refusal.TermRefusal.{TermRefusal}
use Rattle.reader.specs.declared.whole.Extent.{Extent}
use Rattle.reader.specs.declared.CheckRefusal.TheVariants as P
use Rattle.reader.proofs.Calls.{term-refused, term-accepted}
use Rattle.reader.proofs.Refused.{Refuses, vocabulary-refuses, term-refuses}
use Rattle.reader.proofs.Told.{told-refused, told-accepted}

cleared : (r : Reply) → Refuses r → r ≡ without_values r
cleared (accepted l) h = absurd h
cleared (refused n i q) h = refl

module _ {v o m s o' r' m' s' : List ℕ} {a : Result (Option ℕ) VocabularyRefusal} (loaded : SettledFrom v o (replicate most_words 0) m s o' r' m' s' a) where
  pub settled-table : (k : Option ℕ) → a ≡ Ok k → SettledTable v s' k
  settled-table k e = subst (λ r. Settles v (byte_at v 1) r s' k) loaded.holds.results (loaded.settles k e)

  pub pattern-vocabulary : (b : List ℕ) (why : VocabularyRefusal) → a ≡ Err why → PatternLoaded v b s s' (Err (P.Vocabulary why))
  pattern-vocabulary b why e = record {
    answer = cleared (vocabulary_refused why) (vocabulary-refuses why) ∙ ap without_values (term-refused v b why (sym (ap settled_numbers e) ∙ loaded.answer));
    settles = λ k d. absurd (let z : ◌≡◌ {A = ℕ} 0 1 = cc in omega arith);
    refused = λ why d. absurd (let z : ◌≡◌ {A = ℕ} 0 1 = cc in omega arith);
    kept = λ _ _. loaded.kept why e;
  }

  module _ (b : List ℕ) (k : Option ℕ) (e : a ≡ Ok k) (x : Result Extent TermRefusal) (read : whole_told x ≡ told (vocabulary_in v) b) where
    pub pattern-refused : (why : TermRefusal) → x ≡ Err why → PatternLoaded v b s s' (Err (P.Term why))
    pattern-refused why d = record {
      answer = cleared (term_refused 1 why) (term-refuses 1 0 why) ∙ ap without_values (term-accepted v b (vocabulary_in v) (loaded.tables k e).accepted (told-refused (vocabulary_in v) b why (sym (ap whole_told d) ∙ read)));
      settles = λ k d. absurd (let z : ◌≡◌ {A = ℕ} 0 1 = cc in omega arith);
      refused = λ _ _. (k, settled-table k e);
      kept = λ why d. absurd (let z : ◌≡◌ {A = ℕ} 0 1 = cc in omega arith);
    }

    pub pattern_loaded : (y : Extent) → x ≡ Ok y → PatternLoaded v b s s' (Ok k)
    pattern_loaded y d = record {
      answer = ap without_values (term-accepted v b (vocabulary_in v) (loaded.tables k e).accepted (told-accepted (vocabulary_in v) b y (sym (ap whole_told d) ∙ read)));
      settles = λ j d. let same : k ≡ j = cc in subst (SettledTable v s') same (settled-table k e);
      refused = λ why d. absurd (let z : ◌≡◌ {A = ℕ} 0 1 = cc in omega arith);
      kept = λ why d. absurd (let z : ◌≡◌ {A = ℕ} 0 1 = cc in omega arith);
    }
