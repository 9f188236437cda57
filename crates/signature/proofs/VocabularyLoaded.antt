-- VocabularyLoaded: what the parts of loading a vocabulary answer makes up what loading it promises.
use mathlib.Core.Path.{◌≡◌, refl, sym, ◌∙◌, ap}
use mathlib.Core.Bool.{true, false}
use mathlib.Core.List.{List, [], ◌∷◌}
use Prim.Native.Nat.{ℕ, ◌<◌, ◌≤◌}
use native.Mathlib.Omega.{arith}
use lib.ListN.{length}
use borrow.Author.Tests.{lt-ltb, le-ltb}
use Rattle.wire.specs.Reply.{refused, outside}
use Rattle.wire.specs.Parser.{accept, refuse, line5, read_vocabulary}
use Rattle.wire.specs.CheckComputed.{reply_of}
use Rattle.wire.specs.VocabularyLines.{byte_at}
use Rattle.signature.specs.Answers.{vocabulary_refused}
use Rattle.signature.specs.Tables.{words_before, place_count, LoadedFrom, CountedFrom}
use Rattle.signature.specs.declared.VocabularyRefusal.{VocabularyRefusal}
use Rattle.signature.specs.declared.VocabularyRefusal.TheVariants.{Head, WordCount}
use Rattle.std.specs.Prelude.{⊤, Result, Ok, Err}
use Rattle.signature.specs.Loading.{records_in, vocabulary_of, checks_in, WordsLoaded, WordsCounted}
use Rattle.signature.proofs.Laid.{laid-at}

-- Lines 1 and 2.

in_range : (low high n : ℕ) → low ≤ n → n ≤ high → outside low high n ≡ false
in_range low high n h l = rw (le-ltb n low h, le-ltb high n l)

pub below-range : (low high n : ℕ) → n < low → outside low high n ≡ true
below-range low high n h = rw (lt-ltb n low h)

pub above-range : (low high n : ℕ) → low ≤ n → high < n → outside low high n ≡ true
above-range low high n h l = rw (le-ltb n low h, lt-ltb high n l)

-- Lines 1 and 2 refuse v, and no record is read.
abbrev HeadRefused : List ℕ → ℕ → ℕ → Type 0
HeadRefused v n q = (read_vocabulary v ≡ refuse n q) × (words_before v ≡ [])

head-short : (v : List ℕ) → length v < 2 → HeadRefused v 1 0
head-short [] h = (refl, refl)
head-short (k ∷ []) h = (refl, refl)
head-short (k ∷ n ∷ l) h = absurd (omega arith)

head-kinds : (v : List ℕ) → 2 ≤ length v → outside 1 16 (byte_at v 0) ≡ true → HeadRefused v 1 0
head-kinds [] h e = absurd (omega arith)
head-kinds (k ∷ []) h e = absurd (omega arith)
head-kinds (k ∷ n ∷ l) h e = (rw e, rw e)

head-words : (v : List ℕ) → 2 ≤ length v → outside 1 16 (byte_at v 0) ≡ false → outside 1 96 (byte_at v 1) ≡ true → HeadRefused v 2 1
head-words [] h e d = absurd (omega arith)
head-words (k ∷ []) h e d = absurd (omega arith)
head-words (k ∷ n ∷ l) h e d = (rw (e, d), rw (e, d))

head-rest : (v : List ℕ) → 2 ≤ length v → outside 1 16 (byte_at v 0) ≡ false → outside 1 96 (byte_at v 1) ≡ false →
    (read_vocabulary v ≡ checks_in v (byte_at v 1)) × (words_before v ≡ records_in v (byte_at v 1))
head-rest [] h e d = absurd (omega arith)
head-rest (k ∷ []) h e d = absurd (omega arith)
head-rest (k ∷ n ∷ l) h e d = (rw (e, d), rw (e, d))

-- What loading v gives: answer and tables.
abbrev Gives : (v o r m c o' r' m' c' : List ℕ) → Result ⊤ VocabularyRefusal → Type 0
Gives v o r m c o' r' m' c' a = LoadedFrom v o r m o' r' m' a × CountedFrom v c c' a

module _ (v o r m c : List ℕ) where
  refused-head : (n q : ℕ) (why : VocabularyRefusal) → HeadRefused v n q → vocabulary_refused why ≡ refused n 0 q → Gives v o r m c o r m c (Err why)
  refused-head n q why e h = (
    record {
      answer = rw e.0 h;
      holds = rw e.1 (record { offsets = refl; results = refl; maps = refl });
      tables = λ d. absurd (let z : ◌≡◌ {A = ℕ} 0 1 = cc in omega arith);
    },
    record { holds = rw e.1 refl; counted = λ d. absurd (let z : ◌≡◌ {A = ℕ} 0 1 = cc in omega arith) },
  )

  pub refused-short : length v < 2 → Gives v o r m c o r m c (Err Head)
  refused-short h = refused-head 1 0 Head (head-short v h) refl

  module _ (long : 2 ≤ length v) where
    pub refused-kinds : outside 1 16 (byte_at v 0) ≡ true → Gives v o r m c o r m c (Err Head)
    refused-kinds h = refused-head 1 0 Head (head-kinds v long h) refl

    module _ (some : 1 ≤ byte_at v 0) (few : byte_at v 0 ≤ 16) (n : ℕ) (number : n ≡ byte_at v 1) where
      pub refused-words : outside 1 96 n ≡ true → Gives v o r m c o r m c (Err WordCount)
      refused-words h = refused-head 2 1 WordCount (head-words v long (in_range 1 16 (byte_at v 0) some few) (rw number at h)) refl

      -- What is left to lines 3 to 5.
      module _ (low : 1 ≤ n) (high : n ≤ 96) where
        left : (read_vocabulary v ≡ checks_in v n) × (words_before v ≡ records_in v n)
        left =
            rw number
            (head-rest v long (in_range 1 16 (byte_at v 0) some few) (in_range 1 96 (byte_at v 1) (omega arith) (omega arith)))

        pub loaded_rest : (o' r' m' c' : List ℕ) (a : Result ⊤ VocabularyRefusal) → WordsLoaded v n o r m o' r' m' a → WordsCounted v n c c' →
            Gives v o r m c o' r' m' c' a
        loaded_rest o' r' m' c' (Err why) loaded counts = (
          record {
            answer = rw left.0 (loaded.refused why refl);
            holds = rw left.1 loaded.holds;
            tables = λ d. absurd (let z : ◌≡◌ {A = ℕ} 0 1 = cc in omega arith);
          },
          record { holds = rw left.1 counts; counted = λ d. absurd (let z : ◌≡◌ {A = ℕ} 0 1 = cc in omega arith) },
        )
        loaded_rest o' r' m' c' (Ok u) loaded counts =
            let filled = loaded.filled refl in
            let whole : read_vocabulary v ≡ accept (vocabulary_of v n) = left.0 ∙ ap (line5 v (byte_at v 0)) filled.read in
            let number_of : byte_at v 1 ≡ length (records_in v n) = sym number ∙ sym filled.count in (
              record {
                answer = sym (ap (reply_of 0 (λ W. [])) whole);
                holds = rw left.1 loaded.holds;
                tables = λ d.
                    record {
                      accepted = rw whole;
                      tabled = record { words = rw whole number_of; result = λ f b. rw whole (filled.entries f (omega arith)).result };
                      place_map = λ f b. rw whole (filled.entries f (omega arith)).place_map;
                      inside = λ f b. rw whole (filled.entries f (omega arith)).inside;
                      kinds = λ f b. rw whole (filled.entries f (omega arith)).kinds;
                    };
              },
              record {
                holds = rw left.1 counts;
                counted = λ d. record { words = rw whole number_of; count = λ f b. rw whole (laid-at place_count refl (records_in v n) c c' counts f (omega (arith, number_of))) };
              },
            )
