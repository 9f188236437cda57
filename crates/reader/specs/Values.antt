-- Values: what reading the inputs of fill gives; the contract of `read_filling` cites it.
--
--   FillingTold j starts depths r       the answer r is that of the judgement j, and where the inputs are in order the tables
--                                       tell of the values
--   PatternFilling, FillingJudged       the same of reading pattern and file, and of reading all inputs; no public contract
--                                       cites them
--   FillingRead v p b starts depths r   what reading the inputs of fill gives
--
use Rattle.std.specs.Prelude.{Result, ◌≡◌, List, ℕ, ◌+◌, replicate}
use Rattle.wire.specs.TermBytes.{name_count}
use Rattle.wire.specs.Filled.{FillInputs}
use Rattle.wire.specs.FillComputed.{ValuesIn, FillJudged, fillable, refusal, fill_pattern, fill_judged, fill_clear}
use Rattle.wire.specs.CheckComputed.{checked_term}
use Rattle.signature.specs.Tables.{vocabulary_in}
use Rattle.reader.specs.Answers.{filling_numbers}
use Rattle.reader.specs.declared.filling.FillingRefusal.{FillingRefusal}

pub record FillingTold (j : FillJudged) (starts depths : List ℕ) (r : Result ℕ FillingRefusal) : Type 0 where
  pub answer : filling_numbers r ≡ fill_clear j
  pub read : (x : FillInputs) → j ≡ fillable x → ValuesIn x starts depths

abbrev pub PatternFilling : List ℕ → List ℕ → List ℕ → List ℕ → List ℕ → Result ℕ FillingRefusal → Type 0
PatternFilling v p b starts depths r = FillingTold (fill_pattern (vocabulary_in v) b (checked_term (vocabulary_in v) p)) starts depths r

abbrev pub FillingJudged : List ℕ → List ℕ → List ℕ → List ℕ → List ℕ → Result ℕ FillingRefusal → Type 0
FillingJudged v p b starts depths r = FillingTold (fill_judged v p b) starts depths r

-- Where the inputs are refused the tables are blank.
pub record FillingRead (v p b starts depths : List ℕ) (r : Result ℕ FillingRefusal) : Type 0 where
  pub answer : filling_numbers r ≡ fill_clear (fill_judged v p b)
  pub read : (x : FillInputs) → fill_judged v p b ≡ fillable x → ValuesIn x starts depths
  pub blank : (n i q : ℕ) → fill_judged v p b ≡ refusal n i q → (starts ≡ replicate (name_count + 1) 0) × (depths ≡ replicate name_count 0)
