-- Settling: the tables of an accepted vocabulary, and the table that listings go by.
--
--   tables-filled      the tables of an accepted vocabulary are filled with its records
--   tables-vocabulary  .. which make it up
--   tables-counted     .. beside the numbers of their places
--   tables-limits      .. within its limits
--   settles-same       no kind is without complete situations: the table is that of the result kinds
--   settles-moved      a kind is: every word that no complete situation has is moved to it
--   tables_as, counted_as    tables for a number of words are those for an equal one
--   refused-settled, loaded_settled    what loading a vocabulary for a listing gives, by what loading it gives
--
use mathlib.Core.Path.{◌≡◌, refl, sym, ◌∙◌, ap, subst}
use mathlib.Core.Bool.{Bool, cond}
use mathlib.Core.List.{List, []}
use Prim.Native.Nat.{ℕ, ◌≤◌}
use native.Mathlib.Omega.{arith}
use lib.ListN.{length, get_or, drop}
use Rattle.terms.specs.Signature.{Signature}
use Rattle.terms.specs.Emptiness.{covered, reached, first_empty}
use Rattle.wire.specs.Reply.{IsBytes}
use Rattle.wire.specs.Parser.{got, read_words}
use Rattle.wire.specs.Vocabulary.{Word, Vocabulary, signature, no_word, word, HoldsVocabulary}
use Rattle.wire.specs.VocabularyLines.{byte_at}
use Rattle.wire.proofs.Inverse.{whole-read}
use Rattle.wire.proofs.Words.{word-in_order}
use Rattle.wire.proofs.WordsInverse.{words_inverse}
use Rattle.wire.proofs.VocabulariesInverse.{vocabularies_inverse}
use Rattle.wire.proofs.Settling.{settled-word, settled_same, settled-count}
use Rattle.wire.specs.CheckComputed.{vocabulary_reply}
use Rattle.signature.specs.Answers.{vocabulary_refused, vocabulary_numbers}
use Rattle.signature.specs.Tables.{vocabulary_in, Tabled, Tables, PlacesCounted, LoadedFrom}
use Rattle.signature.specs.Settled.{found_kind, Settles, SettledFrom}
use Rattle.signature.specs.declared.VocabularyRefusal.{VocabularyRefusal}
use Rattle.std.specs.Prelude.{⊤, Option, Some, None, Result, Ok, Err}
use Rattle.signature.specs.Loading.{records_in, vocabulary_of, Filled, FilledCounted, Marks, Searched, MovesWords}
use Rattle.signature.proofs.WordsUpTo.{UpTo, words-up_to}

module _ (v : List ℕ) (bytes : IsBytes v) (n : ℕ) (o r m : List ℕ) (tables : Tables v n o r m) where
  abbrev W : Vocabulary
  W = vocabulary_in v

  held : HoldsVocabulary v W
  held = (vocabularies_inverse v W bytes).0 tables.accepted

  kinds : byte_at v 0 ≡ W.kinds
  kinds = ap (λ l. get_or l 0 0) held.written

  read : read_words (byte_at v 0) n (drop 2 v) ≡ got W.words []
  read =
      ap (λ l. read_words (byte_at v 0) n l) (ap (drop 2) held.written)
      ∙ rw (kinds, tables.tabled.words) (whole-read (words_inverse W.kinds (length W.words)) W.words (refl, held.in_order.words))

  records : records_in v n ≡ W.words
  records = (subst (UpTo (byte_at v 0) n (drop 2 v)) read (words-up_to (byte_at v 0) n (drop 2 v))).0

  pub tables-filled : Filled v n o r m
  tables-filled = record {
    read = read ∙ ap (λ ws. got ws []) (sym records);
    count = ap length records ∙ sym tables.tabled.words;
    entries = λ f b.
        rw (ap (λ ws. get_or ws f no_word) records) (record {
          result = tables.tabled.result f b;
          place_map = tables.place_map f b;
          inside = tables.inside f b;
          kinds = tables.kinds f b;
          sound = rw kinds (word-in_order W f held.in_order (let e = tables.tabled.words in omega arith));
        });
  }

  pub tables-vocabulary : vocabulary_of v n ≡ W
  tables-vocabulary = λ i. record { kinds = kinds i; words = records i }

  pub tables-counted : (c : List ℕ) → PlacesCounted W n c → FilledCounted v n o r c
  tables-counted c counted = record { maps = m; filled = tables-filled; counted = subst (λ U. PlacesCounted U n c) (sym tables-vocabulary) counted }

  pub tables-limits : (2 ≤ length v) × (byte_at v 0 ≤ 16) × (n ≤ 96)
  tables-limits = (
    let e = ap length held.written in omega arith,
    let e = held.in_order.few_kinds in omega (arith, kinds),
    let e = held.in_order.few_words in omega (arith, tables.tabled.words),
  )

  module _ (marked : List Bool) (x : Option ℕ) (searched : Searched v n marked x) where
    found : {y : Option ℕ} → x ≡ y → found_kind y ≡ first_empty (signature W)
    found e = ap found_kind (sym e) ∙ searched.found ∙ ap (λ U. first_empty (signature U)) tables-vocabulary

    marks : (k : ℕ) → x ≡ Some k → Marks marked (reached (signature W) W.kinds)
    marks k e = subst (λ (U : Vocabulary). Marks marked (reached (signature U) U.kinds)) tables-vocabulary (searched.marks k e)

    pub settles-same : x ≡ None → Settles v n r r x
    settles-same e =
        let q : first_empty (signature W) ≡ found_kind None = sym (found e) in
        subst (Settles v n r r) (sym e) (record {
          of = record { tabled = subst (λ U. Tabled U n r) (sym (settled_same W q)) tables.tabled; found = sym q };
          behind = λ f b. refl;
        })

    pub settles-moved : (k : ℕ) → x ≡ Some k → (s : List ℕ) → MovesWords v n k marked r s → Settles v n r s (Some k)
    settles-moved k e s moves =
        let q : first_empty (signature W) ≡ found_kind (Some k) = sym (found e) in
        let S : Signature = signature W in
        record {
          of = record {
            tabled = record {
              words = tables.tabled.words ∙ sym (settled-count W);
              result = λ f b.
                  moves.2 (reached S S.sorts) (marks k e) f b
                  ∙ ap (λ ws. cond (covered (get_or ws f no_word).kinds (reached S S.sorts)) (get_or r f 0) k) records
                  ∙ ap (λ x. cond (covered (word W f).kinds (reached S S.sorts)) x k) (tables.tabled.result f b)
                  ∙ sym (ap (λ (w : Word). w.result) (settled-word W k f q));
            };
            found = sym q;
          };
          behind = moves.1;
        }

pub tables_as : {v o r m : List ℕ} {n n' : ℕ} → n ≡ n' → Tables v n' o r m → Tables v n o r m
tables_as {v} {o} {r} {m} e tables = subst (λ n. Tables v n o r m) (sym e) tables

pub counted_as : {W : Vocabulary} {c : List ℕ} {n n' : ℕ} → n ≡ n' → PlacesCounted W n' c → PlacesCounted W n c
counted_as {W} {c} e counted = subst (λ n. PlacesCounted W n c) (sym e) counted

module _ {v o r m s o' r' m' : List ℕ} where
  pub refused-settled : {a : Result ⊤ VocabularyRefusal} {why : VocabularyRefusal} → LoadedFrom v o r m o' r' m' a → vocabulary_refused why ≡ vocabulary_reply v →
      SettledFrom v o r m s o' r' m' s (Err why)
  refused-settled loaded told = record {
    answer = told;
    holds = loaded.holds;
    tables = λ k d. absurd (let z : ◌≡◌ {A = ℕ} 0 1 = cc in omega arith);
    settles = λ k d. absurd (let z : ◌≡◌ {A = ℕ} 0 1 = cc in omega arith);
    kept = λ why d. refl;
  }

  pub loaded_settled : {a : Result ⊤ VocabularyRefusal} {n : ℕ} {s' : List ℕ} {k : Option ℕ} → LoadedFrom v o r m o' r' m' a → a ≡ Ok tt →
      n ≡ byte_at v 1 → Settles v n r' s' k → SettledFrom v o r m s o' r' m' s' (Ok k)
  loaded_settled {n = n} {s' = s'} {k = k} loaded e number settles = record {
    answer = sym (ap vocabulary_numbers e) ∙ loaded.answer;
    holds = loaded.holds;
    tables = λ j d. loaded.tables e;
    settles = λ j d.
        let same : k ≡ j = ap missing_in d in
        subst (λ j. Settles v (byte_at v 1) r' s' j) same (subst (λ n. Settles v n r' s' k) number settles);
    kept = λ why d. absurd (let z : ◌≡◌ {A = ℕ} 0 1 = cc in omega arith);
  }
    where
      missing_in : Result (Option ℕ) VocabularyRefusal → Option ℕ
      missing_in (Ok j) = j
      missing_in (Err why) = None
