-- Noting: whether a kind has a complete situation, and what is put.
--
--   held_in                        bytes of a vocabulary in order are read as it
--   too_short, too_high, refused-told     inputs that are none of a vocabulary and one of its kinds
--   loaded_told                    what the table of settled result kinds tells
--   note_none, note_said           nothing is put, or what is said of the kind
--
use mathlib.Core.Path.{◌≡◌, refl, sym, ap, subst, ◌∙◌}
use mathlib.Core.Bool.{Bool, true, false, not, cond, true≢false, false≢true}
use mathlib.Core.List.{List, [], ◌∷◌, ◌++◌, map}
use Prim.Native.Nat.{ℕ, ◌<◌}
use native.Mathlib.Omega.{arith}
use lib.Dec.{eqb}
use lib.ListN.{length}
use Rattle.terms.specs.Term.{any}
use Rattle.terms.specs.Emptiness.{inhabited, EmptinessExact}
use Rattle.terms.proofs.Theorems.{emptiness_is_exact}
use Rattle.wire.specs.Reply.{accepted}
use Rattle.wire.specs.Vocabulary.{Vocabulary, signature, HoldsVocabulary}
use Rattle.wire.specs.VocabularyLines.{byte_at}
use Rattle.wire.specs.Parser.{accept, read_vocabulary}
use Rattle.wire.specs.CheckComputed.{reply_of}
use Rattle.wire.specs.Text.{ascii}
use Rattle.wire.proofs.Bytes.{bytes_of}
use Rattle.wire.proofs.Words.{in_order_well_formed}
use Rattle.wire.proofs.Theorems.{vocabularies_inverse}
use Rattle.signature.specs.Answers.{vocabulary_refused}
use Rattle.signature.specs.Tables.{accepted_in}
use Rattle.signature.specs.Settled.{settled_numbers, SettledOf, SettledFrom}
use Rattle.signature.specs.declared.VocabularyRefusal.{VocabularyRefusal}
use Rattle.signature.specs.declared.VocabularyRefusal.TheVariants.{Head, WordCount, Ends, NoSuchKind, Continues}
use Rattle.std.specs.Prelude.{Option}
use Rattle.std.specs.Prelude.{Result, Ok, Err}
use Rattle.takes.specs.Told.{whole_count}
use Rattle.takes.proofs.Tests.{whole-told}
use Rattle.texts.specs.Lexemes.{token_at}
use Rattle.texts.specs.Names.{name_at}
use Rattle.texts.specs.Lexicon.{Lexicon, vocabulary_of, GoodLexicon}
use Rattle.texts.specs.Notes as note
use Rattle.texts.proofs.Entries.{lexicon-in_order}
use Rattle.pages.specs.Pages.{Adds}
use Rattle.pages.proofs.Pages.{adds_is, adds-nothing}
use Rattle.notes.specs.Notes.{EmptyTold, PutsNote}

-- ---- whether a kind has a complete situation

refusal : (why : VocabularyRefusal) → vocabulary_refused why ≡ accepted [] → ⊥
refusal Head e = let z : ◌≡◌ {A = ℕ} 0 1 = cc in omega arith
refusal WordCount e = let z : ◌≡◌ {A = ℕ} 0 1 = cc in omega arith
refusal (Ends q) e = let z : ◌≡◌ {A = ℕ} 0 1 = cc in omega arith
refusal (NoSuchKind q) e = let z : ◌≡◌ {A = ℕ} 0 1 = cc in omega arith
refusal (Continues q) e = let z : ◌≡◌ {A = ℕ} 0 1 = cc in omega arith

none_whole : (b : Bool) → eqb (length (cond b (any ∷ []) [])) 0 ≡ not b
none_whole true = refl
none_whole false = refl

held_in : (v : List ℕ) → ((i : ℕ) → byte_at v i < 256) → (W : Vocabulary) → HoldsVocabulary v W → read_vocabulary v ≡ accept W
held_in v fit W held = (vocabularies_inverse v W (bytes_of v fit)).1 held

module _ {v : List ℕ} {s : ℕ} where
  pub too_short : length v < 2 → EmptyTold v s false
  too_short h W held few = absurd (omega (arith, ap length held.written))

  pub too_high : 15 < s → EmptyTold v s false
  too_high h W held few = let most = held.in_order.few_kinds in absurd (omega arith)

  module _ (fit : (i : ℕ) → byte_at v i < 256) where
    module _ {o r m t o' r' m' t' : List ℕ} {a : Result (Option ℕ) VocabularyRefusal} (loaded : SettledFrom v o r m t o' r' m' t' a) where
      pub refused-told : (why : VocabularyRefusal) → a ≡ Err why → EmptyTold v s false
      refused-told why e W held few =
          absurd (refusal why (sym (ap settled_numbers e) ∙ loaded.answer ∙ ap (reply_of 0 (λ W. [])) (held_in v fit W held)))

      pub loaded_told : (k : Option ℕ) → a ≡ Ok k → {n c : ℕ} → n ≡ byte_at v 1 → c ≡ whole_count n t' k s → EmptyTold v s (eqb c 0)
      loaded_told k e {n} is count W held few =
          let settled : SettledOf W (byte_at v 1) t' k =
          subst (λ (U : Vocabulary). SettledOf U (byte_at v 1) t' k) (ap accepted_in (held_in v fit W held)) (loaded.settles k e).of in
          ap (λ i. eqb i 0)
          (count ∙ ap (λ i. whole_count i t' k s) is ∙ whole-told W held.in_order (byte_at v 1) t' k settled s few) ∙
          none_whole (inhabited (signature W) s)

-- ---- what is put

exact : (X : Lexicon) → GoodLexicon X → EmptinessExact (signature (vocabulary_of X))
exact X good = emptiness_is_exact (signature (vocabulary_of X)) (in_order_well_formed (vocabulary_of X) (lexicon-in_order X good))

module _ {b ks v : List ℕ} {s : ℕ} where
  pub note_none : {r : Bool} → EmptyTold v s r → r ≡ false → {page : List ℕ} {to : ℕ} → PutsNote b ks v s page to page to
  note_none told e {page} {to} = record {
    same = refl;
    puts = λ X good few name bytes.
        let held : HoldsVocabulary v (vocabulary_of X) = record { in_order = lexicon-in_order X good; written = bytes } in
        ([], note.inhabited (((exact X good).ground s).0 (some _ (sym (told (vocabulary_of X) held few) ∙ e))), adds-nothing page to);
  }
    where
      some : (t : Bool) → not t ≡ false → t ≡ true
      some true h = refl
      some false h = absurd (true≢false h)

  pub note_said : {r : Bool} → EmptyTold v s r → r ≡ true → {page page' : List ℕ} {to to' : ℕ} →
      Adds page to page' to' (ascii "# kind " ++ (name_at (map (token_at b) ks) s ++ ascii " has no complete situation\n\n")) →
      PutsNote b ks v s page to page' to'
  note_said told e put = record {
    same = put.same;
    puts = λ X good few name bytes.
        let held : HoldsVocabulary v (vocabulary_of X) = record { in_order = lexicon-in_order X good; written = bytes } in (
          note.note_text X s,
          note.empty (λ g sorted. false≢true (sym (none _ (((exact X good).ground s).1 (g, sorted))) ∙ sym (told (vocabulary_of X) held few) ∙ e)),
          adds_is (ap (λ u. ascii "# kind " ++ (u ++ ascii " has no complete situation\n\n")) name) put,
        );
  }
    where
      none : (t : Bool) → t ≡ true → not t ≡ false
      none t h = ap not h
