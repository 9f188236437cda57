-- Files: what reading a filling file tells for a pattern, and the inputs of fill together.
--
--   file_short, file_differs, file_values    a filling file, by its length, its map and its values
--   pattern-refused, pattern-read    the same behind the pattern
--   inputs-refused, inputs-judged    and behind the vocabulary
--   filling_never                    a refusal accepts nothing
--   filling-read, filling-refused    the tables at last
--
use mathlib.Core.Path.{◌≡◌, refl, sym, ap, ap₂, subst, ◌∙◌}
use mathlib.Core.List.{List, [], ◌∷◌}
use mathlib.Core.Option.{none}
use Prim.Native.Nat.{ℕ, ◌+◌, ◌<◌, ◌≤◌}
use native.Mathlib.Omega.{arith}
use lib.Dec.{ltb}
use lib.ListN.{length, drop, replicate}
use borrow.Author.Tests.{lt-ltb, le-ltb}
use Rattle.terms.specs.Emptiness.{first}
use Rattle.terms.specs.Term.{Term}
use Rattle.terms.specs.Filling.{Binding}
use Rattle.wire.specs.Reply.{accepted, refused, Kinded}
use Rattle.wire.specs.Vocabulary.{Vocabulary}
use Rattle.wire.specs.TermBytes.{name_count, deepest}
use Rattle.wire.specs.Parser.{Reading, accept, refuse, read_vocabulary}
use Rattle.wire.specs.CheckComputed.{reply_of, checked_term, vocabulary_reply}
use Rattle.wire.specs.Filled.{FillInputs}
use Rattle.wire.specs.FillingFile.{name_map_bytes}
use Rattle.wire.specs.FillComputed.{read_values, unlike, line22, line21, read_filling, ValuesIn, FillJudged, fillable, refusal, judged_filling, fill_pattern, fill_vocabulary, fill_judged, fill_clear}
use Rattle.wire.proofs.Cond.{cond_true, cond_false}
use Rattle.wire.proofs.Matching.{not_accepted}
use Rattle.wire.proofs.VocabulariesInverse.{accept-same}
use Rattle.wire.proofs.NameMaps.{unlike-same, unlike_some}
use Rattle.namemaps.specs.Difference.{DifferenceAt}
use Rattle.signature.specs.Answers.{vocabulary_refused}
use Rattle.signature.specs.Tables.{vocabulary_in}
use Rattle.signature.specs.declared.VocabularyRefusal.{VocabularyRefusal}
use Rattle.reader.specs.Answers.{filling_refused, filling_numbers}
use Rattle.reader.specs.Names.{TableOf}
use Rattle.reader.specs.Nodes.{number_of, place_of}
use Rattle.reader.specs.Fillings.{values_in, ValuesRead, FileTold, FileRead}
use Rattle.reader.specs.Values.{FillingTold, FillingRead}
use Rattle.reader.specs.Whole.{extent_of, told_by, told}
use Rattle.reader.specs.declared.refusal.TermRefusal.{TermRefusal}
use Rattle.reader.specs.declared.whole.Extent.{Extent}
use Rattle.reader.specs.declared.filling.FillingRefusal.{FillingRefusal}
use Rattle.reader.specs.declared.filling.FillingRefusal.TheVariants as F
use Rattle.std.specs.Prelude.{Result, Ok, Err}
use Rattle.reader.proofs.Calls.{refused_never}
use Rattle.reader.proofs.Listed.{table-names, table_dues}
use Rattle.reader.proofs.NameTables.{refuse_never}
use Rattle.reader.proofs.Told.{refusal-reply}

-- ---- a filling file

module _ {W : Vocabulary} {s : ℕ} {t : Term} {b : List ℕ} {deep : ℕ} {starts depths : List ℕ} where
  file_refused : {n q : ℕ} {r : Result ℕ FillingRefusal} → filling_numbers r ≡ refused n 4 q → read_filling W s t b ≡ refuse n q → FileTold W s t b deep starts depths r
  file_refused e h = record { answer = e ∙ ap (reply_of 4 (λ bs. deep ∷ [])) (sym h); tables = λ bs f. absurd (refuse_never (sym h ∙ f)) }

  pub file_short : length b < name_map_bytes → FileTold W s t b deep starts depths (Err (F.Names 0))
  file_short short = file_refused refl (cond_true (ltb (length b) name_map_bytes) (refuse 21 0) _ (lt-ltb (length b) name_map_bytes short))

long_file : (W : Vocabulary) (s : ℕ) (t : Term) (b : List ℕ) → name_map_bytes ≤ length b → read_filling W s t b ≡ line21 W s t b (first (unlike b t))
long_file W s t b long = cond_false (ltb (length b) name_map_bytes) (refuse 21 0) _ (le-ltb (length b) name_map_bytes long)

pub file_differs : {W : Vocabulary} {s : ℕ} {t : Term} {b names starts depths : List ℕ} {deep n : ℕ} → name_map_bytes ≤ length b → TableOf W s t names → DifferenceAt b names n →
    n < name_count → FileTold W s t b deep starts depths (Err (F.Names n))
file_differs {W} {s} {t} {b} {n = n} long x d below =
    file_refused refl
    (long_file W s t b long
    ∙ ap (line21 W s t b)
    ((unlike_some b t n).1
    ((below, λ e. d.differs below (e ∙ sym (x.stands n below))), λ m h k. k.1 (d.alike m h ∙ x.stands m k.0))))

pub file_values : (v : List ℕ) {s : ℕ} {t : Term} {b names starts depths : List ℕ} {deep n : ℕ} {r : Result ℕ FillingRefusal} → name_map_bytes ≤ length b → TableOf (vocabulary_in v) s t names →
    DifferenceAt b names n → name_count ≤ n → ValuesRead v b names deep starts depths r → FileTold (vocabulary_in v) s t b deep starts depths r
file_values v {s} {t} {b} {names} {starts} {depths} {deep} {n} long x d high y = record {
  answer = y.answer ∙ ap (reply_of 4 (λ bs. deep ∷ [])) (sym same);
  tables = λ bs f.
      let told = y.tables bs (sym same ∙ f) in
      record {
        many_starts = told.many_starts;
        many_depths = told.many_depths;
        begins = told.begins;
        named = λ m h o. told.named m h (x.stands m h ∙ o);
        absent = λ m h o. told.absent m h (x.stands m h ∙ o);
      };
}
  where
    same_names : first (unlike b t) ≡ none
    same_names = (unlike-same b t).1 (λ m h. d.alike m (omega arith) ∙ x.stands m h)

    same : read_filling (vocabulary_in v) s t b ≡ values_in (vocabulary_in v) names b
    same =
        long_file (vocabulary_in v) s t b long
        ∙ ap (line21 (vocabulary_in v) s t b) same_names
        ∙ ap₂ (λ ns due. line22 b ns (read_values (vocabulary_in v) due (drop name_map_bytes b))) (sym (table-names x)) (sym (table_dues x))

-- ---- behind the pattern

refusal_never : {n i q : ℕ} {x : FillInputs} → refusal n i q ≡ fillable x → ⊥
refusal_never {n} {i} {q} {x} e = not_accepted n i q (deepest x.pattern ∷ []) (ap fill_clear e)

pub pattern-refused : (W : Vocabulary) (p b : List ℕ) {starts depths : List ℕ} {why : TermRefusal} → refuse (number_of why) (place_of why) ≡ told W p →
    FillingTold (fill_pattern W b (checked_term W p)) starts depths (Err (F.Pattern why))
pattern-refused W p b {starts} {depths} {why} e = go (checked_term W p) e
  where
    go : (c : Reading Kinded) → refuse (number_of why) (place_of why) ≡ told_by W (length p) c →
        FillingTold (fill_pattern W b c) starts depths (Err (F.Pattern why))
    go (accept k) h = absurd (refuse_never h)
    go (refuse n q) h = record { answer = refusal-reply 1 why ∙ ap (reply_of 1 (λ l. [])) h; read = λ x f. absurd (refusal_never f) }

abbrev inputs_in : FillInputs → FillJudged → FillInputs
inputs_in d (fillable x) = x
inputs_in d (refusal n i q) = d

file_judged : {W : Vocabulary} {b starts depths : List ℕ} {deep : ℕ} {r : Result ℕ FillingRefusal} (k : Kinded) → deep ≡ deepest k.term → FileTold W k.kind k.term b deep starts depths r →
    FillingTold (judged_filling W k (read_filling W k.kind k.term b)) starts depths r
file_judged {W} {b} {starts} {depths} {deep} k level f = record {
  answer = f.answer ∙ replies (read_filling W k.kind k.term b);
  read = λ x e. values x (read_filling W k.kind k.term b) refl e;
}
  where
    replies : (z : Reading (List Binding)) → reply_of 4 (λ bs. deep ∷ []) z ≡ fill_clear (judged_filling W k z)
    replies (accept bs) = ap (λ n. accepted (n ∷ [])) level
    replies (refuse n q) = refl

    values : (x : FillInputs) (z : Reading (List Binding)) → read_filling W k.kind k.term b ≡ z → judged_filling W k z ≡ fillable x → ValuesIn x starts depths
    values x (refuse n q) h e = absurd (refusal_never e)
    values x (accept bs) h e = subst (λ x. ValuesIn x starts depths) (ap (inputs_in x) e) (f.tables bs h)

pub pattern-read : (v p b : List ℕ) {names starts depths : List ℕ} {x : Extent} {r : Result ℕ FillingRefusal} → accept x ≡ told (vocabulary_in v) p →
    ((k : Kinded) → checked_term (vocabulary_in v) p ≡ accept k → TableOf (vocabulary_in v) k.kind k.term names) → FileRead v b names x.deepest starts depths r →
    FillingTold (fill_pattern (vocabulary_in v) b (checked_term (vocabulary_in v) p)) starts depths r
pattern-read v p b {names} {starts} {depths} {x} {r} e table file = go (checked_term (vocabulary_in v) p) refl e
  where
    go : (c : Reading Kinded) → checked_term (vocabulary_in v) p ≡ c → accept x ≡ told_by (vocabulary_in v) (length p) c →
        FillingTold (fill_pattern (vocabulary_in v) b c) starts depths r
    go (refuse n q) f h = absurd (refuse_never (sym h))
    go (accept k) f h =
        let level : x.deepest ≡ deepest k.term = ap (λ y. y.deepest) (accept-same x (extent_of (vocabulary_in v) (length p) k) h) in
        file_judged k level (file k.kind k.term (table k f))

-- ---- behind the vocabulary

pub inputs-refused : (v p b : List ℕ) {starts depths : List ℕ} {why : VocabularyRefusal} → vocabulary_refused why ≡ vocabulary_reply v →
    FillingTold (fill_judged v p b) starts depths (Err (F.Vocabulary why))
inputs-refused v p b {starts} {depths} {why} e = go (read_vocabulary v) e
  where
    go : (c : Reading Vocabulary) → vocabulary_refused why ≡ reply_of 0 (λ W. []) c → FillingTold (fill_vocabulary p b c) starts depths (Err (F.Vocabulary why))
    go (accept W) h = absurd (refused_never why [] h)
    go (refuse n q) h = record { answer = h; read = λ x f. absurd (refusal_never f) }

pub inputs-judged : (v p b : List ℕ) {starts depths : List ℕ} {r : Result ℕ FillingRefusal} → read_vocabulary v ≡ accept (vocabulary_in v) →
    FillingTold (fill_pattern (vocabulary_in v) b (checked_term (vocabulary_in v) p)) starts depths r → FillingTold (fill_judged v p b) starts depths r
inputs-judged v p b {starts} {depths} {r} e x =
    subst (λ c. FillingTold (fill_vocabulary p b c) starts depths r) (sym e) x

-- ---- the tables at last

pub filling_never : (why : FillingRefusal) (l : List ℕ) → filling_refused why ≡ accepted l → ⊥
filling_never (F.Vocabulary why) l e = refused_never why l e
filling_never (F.Pattern why) l e = not_accepted (number_of why) 1 (place_of why) l (sym (refusal-reply 1 why) ∙ e)
filling_never (F.Names n) l e = not_accepted 21 4 n l e
filling_never (F.Value q) l e = not_accepted 22 4 q l e

pub filling-read : {v p b starts depths : List ℕ} {deep : ℕ} {r : Result ℕ FillingRefusal} → FillingTold (fill_judged v p b) starts depths r → r ≡ Ok deep →
    FillingRead v p b starts depths (Ok deep)
filling-read {v} {p} {b} {deep = deep} x e =
    let answer : accepted (deep ∷ []) ≡ fill_clear (fill_judged v p b) = ap filling_numbers (sym e) ∙ x.answer in
    record { answer = answer; read = x.read; blank = λ n i q f. absurd (not_accepted n i q (deep ∷ []) (sym (answer ∙ ap fill_clear f))) }

pub filling-refused : {v p b starts depths : List ℕ} {r : Result ℕ FillingRefusal} {why : FillingRefusal} → FillingTold (fill_judged v p b) starts depths r → r ≡ Err why →
    FillingRead v p b (replicate (name_count + 1) 0) (replicate name_count 0) (Err why)
filling-refused {v} {p} {b} {why = why} x e =
    let answer : filling_refused why ≡ fill_clear (fill_judged v p b) = ap filling_numbers (sym e) ∙ x.answer in
    record { answer = answer; read = λ y f. absurd (filling_never why (deepest y.pattern ∷ []) (answer ∙ ap fill_clear f)); blank = λ n i q f. (refl, refl) }
