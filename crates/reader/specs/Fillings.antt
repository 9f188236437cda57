-- Fillings: what the functions that read a filling file promise each other; no public contract cites it.
--
--   value_due k              a value of kind k is due, at the first level
--   FaultAt                 q is the place of the first byte at fault, in the rest of a file that begins at an offset, where a
--                           term of kind k is due below so many words and no full word stands or level 33 would begin
--   ValueEnds               the complete term of kind k that stands at an offset of b, where it ends and how many levels it has
--   ValueStops              no complete term stands there, and q is the place of the first byte at fault
--   ValueRead               what reading the value at an offset gives
--   EntryRead               the same where the table of names has the entry k, which may be none
--   listed_to names n        the names below n for which the table has a kind, ascending
--   due_for names n, dues_to names n    the value that is due for the name n, and those for the names below it
--   values_in W names b      the values in the file b, for all names of the table
--   Skips b n r             where r is true, n is the first of eight names whose byte in the map at the front of b is 0
--   starts_passed starts n at k    the starts with each of the k behind the n-th at the offset
--   TablesTo                tables that tell of the names below n where the values begin and end, and how many levels they have
--   ValuesRead              what reading the values gives, where the pattern's deepest level is that
--   FileTold, FileRead      what reading a filling file for a pattern with that table of names gives
--
use Rattle.std.specs.Prelude.{Result, Ok, Err, ◌≡◌, Bool, true, false, List, [], ◌∷◌, ◌++◌, map, ◌⊎◌, ℕ, zero, suc, ◌+◌, ◌-◌, ◌/◌, ◌%◌, ◌<◌, ◌≤◌, length, get_or, drop, set}
use Rattle.terms.specs.Lists.{range, keep}
use Rattle.terms.specs.Term.{Term, Ground, gnil, gcons, SortedG, as_term}
use Rattle.terms.specs.Filling.{Binding, value_of}
use Rattle.wire.specs.Vocabulary.{Vocabulary, signature}
use Rattle.wire.specs.TermBytes.{name_count, encode_at, levels, most_levels}
use Rattle.wire.specs.VocabularyLines.{byte_at}
use Rattle.wire.specs.TermLines.{Due}
use Rattle.wire.specs.Matching.{size}
use Rattle.wire.specs.Parser.{Reading, accept, got, stop}
use Rattle.wire.specs.CheckComputed.{reply_of}
use Rattle.wire.specs.FillingFile.{name_map_bytes}
use Rattle.wire.specs.FillComputed.{read_values, line22, read_filling, ValuesIn}
use Rattle.signature.specs.Tables.{Tabled, vocabulary_in}
use Rattle.reader.specs.Full.{NotFull}
use Rattle.reader.specs.Names.{listed, TableOf}
use Rattle.reader.specs.Answers.{filling_numbers}
use Rattle.reader.specs.declared.filling.FillingRefusal.{FillingRefusal}
use Rattle.reader.specs.declared.filling.Value.{Value}

abbrev pub value_due : ℕ → Due
value_due k = record { sort = k; level = 1; root = false }

pub record FaultAt (rest : List ℕ) (at depth k n : ℕ) (results : List ℕ) (q : ℕ) : Type 0 where
  pub from : at ≤ q
  pub up_to : q ≤ at + length rest
  pub stops : (W : Vocabulary) → Tabled W n results → (31 < depth) ⊎ NotFull W k rest → (ds : List Due) →
      read_values W (record { sort = k; level = suc depth; root = false } ∷ ds) rest ≡ stop 22 (drop (q - at) rest)

pub record ValueEnds (v b : List ℕ) (from k at deep : ℕ) : Type 0 where
  pub value : Ground
  pub same : read_values (vocabulary_in v) (value_due k ∷ []) (drop from b) ≡ got (gcons value gnil) (drop at b)
  pub sorted : SortedG (signature (vocabulary_in v)) value k
  pub bytes : drop from b ≡ encode_at (vocabulary_in v) (as_term value) ++ drop at b
  pub inside : at ≤ length b
  pub span : at ≡ from + size (vocabulary_in v) value
  pub reached : deep ≡ levels (as_term value)
  pub shallow : deep ≤ most_levels

pub record ValueStops (v b : List ℕ) (from k q : ℕ) : Type 0 where
  pub same : read_values (vocabulary_in v) (value_due k ∷ []) (drop from b) ≡ stop 22 (drop q b)
  pub inside : q ≤ length b

abbrev pub ValueRead : List ℕ → List ℕ → ℕ → ℕ → Result Value ℕ → Type 0
ValueRead v b from k (Ok x) = ValueEnds v b from k x.end x.levels
ValueRead v b from k (Err q) = ValueStops v b from k q

pub record EntryRead (v b : List ℕ) (from k : ℕ) (r : Result Value ℕ) : Type 0 where
  pub listed : k < 256 → ValueRead v b from k r
  pub absent : 256 ≤ k → r ≡ Ok (record { end = from; levels = 0 })

abbrev pub listed_to : List ℕ → ℕ → List ℕ
listed_to names n = keep (listed names) (range 0 n)

abbrev pub due_for : List ℕ → ℕ → Due
due_for names n = value_due (get_or names n 0)

abbrev pub dues_to : List ℕ → ℕ → List Due
dues_to names n = map (due_for names) (listed_to names n)

abbrev pub values_in : Vocabulary → List ℕ → List ℕ → Reading (List Binding)
values_in W names b = line22 b (listed_to names name_count) (read_values W (dues_to names name_count) (drop name_map_bytes b))

abbrev pub Skips : List ℕ → ℕ → Bool → Type 0
Skips b n r = r ≡ true → (n % 8 ≡ 0) × (byte_at b (n / 8) ≡ 0)

abbrev pub starts_passed : List ℕ → ℕ → ℕ → ℕ → List ℕ
starts_passed starts n at zero = starts
starts_passed starts n at (suc k) = set (starts_passed starts n at k) (n + suc k) at

pub record TablesTo (W : Vocabulary) (names : List ℕ) (n : ℕ) (bs : List Binding) (starts depths : List ℕ) : Type 0 where
  pub many_starts : length starts ≡ name_count + 1
  pub many_depths : length depths ≡ name_count
  pub begins : get_or starts 0 0 ≡ name_map_bytes
  pub named : (m : ℕ) → m < n → listed names m ≡ true →
      (get_or starts (m + 1) 0 ≡ get_or starts m 0 + size W (value_of bs m)) × (get_or depths m 0 ≡ levels (as_term (value_of bs m)))
  pub absent : (m : ℕ) → m < n → listed names m ≡ false → (get_or starts (m + 1) 0 ≡ get_or starts m 0) × (get_or depths m 0 ≡ 0)

pub record ValuesRead (v b names : List ℕ) (deepest : ℕ) (starts depths : List ℕ) (r : Result ℕ FillingRefusal) : Type 0 where
  pub answer : filling_numbers r ≡ reply_of 4 (λ bs. deepest ∷ []) (values_in (vocabulary_in v) names b)
  pub tables : (bs : List Binding) → values_in (vocabulary_in v) names b ≡ accept bs → TablesTo (vocabulary_in v) names name_count bs starts depths

pub record FileTold (W : Vocabulary) (s : ℕ) (t : Term) (b : List ℕ) (deepest : ℕ) (starts depths : List ℕ) (r : Result ℕ FillingRefusal) : Type 0 where
  pub answer : filling_numbers r ≡ reply_of 4 (λ bs. deepest ∷ []) (read_filling W s t b)
  pub tables : (bs : List Binding) → read_filling W s t b ≡ accept bs →
      ValuesIn (record { vocabulary = W; kind = s; pattern = t; values = bs }) starts depths

abbrev pub FileRead : List ℕ → List ℕ → List ℕ → ℕ → List ℕ → List ℕ → Result ℕ FillingRefusal → Type 0
FileRead v b names deepest starts depths r = (s : ℕ) (t : Term) → TableOf (vocabulary_in v) s t names → FileTold (vocabulary_in v) s t b deepest starts depths r
