-- RecordsRead: the records that are read so far stand in the tables, and what is left to read decides the rest.
--
--   Tabled v n w at          w of n records of v are read, up to the offset `at`, into the tables o, r, m and c; behind
--                            their entries the tables are as before
--
use mathlib.Core.Path.{◌≡◌, refl, sym, ◌∙◌, ap, subst}
use mathlib.Core.List.{List, [], ◌∷◌, ◌++◌, map, map-append}
use Prim.Native.Nat.{ℕ, suc, ◌+◌, ◌-◌, ◌*◌, ◌<◌, ◌≤◌}
use native.Mathlib.Numerals.{add-one}
use native.Mathlib.Decide.{ℕ_discrete}
use native.Mathlib.Omega.{arith}
use lib.ListN.{length, get_or, take, drop, set, length-append, length-drop, length-map, length-set, drop_of_length-le, get_or-append}
use lib.Seq.{drop-cons, get_or-set_same, get_or-set_other, get_or_at, length-take-le}
use Rattle.terms.specs.Lists.{range}
use Rattle.terms.proofs.Count.{length-range}
use Rattle.wire.specs.Map.{flags, ones}
use Rattle.wire.specs.Vocabulary.{Word, no_word, WordInOrder}
use Rattle.wire.specs.Parser.{got, stop, read_word, read_words}
use Rattle.wire.specs.Reply.{refused}
use Rattle.wire.specs.VocabularyLines.{byte_at, places_of, record_at}
use Rattle.wire.proofs.Map.{ones-few}
use Rattle.wire.proofs.Row.{row_last, row_stopped}
use Rattle.wire.proofs.Records.{behind, behind_is, places-at, record-behind}
use Rattle.maps.specs.Reading.{map_at}
use Rattle.maps.proofs.Reading.{map_at_lem}
use Rattle.signature.specs.Answers.{vocabulary_refused}
use Rattle.signature.specs.Tables.{offsets_of, results_of, maps_of, place_count, counts_of, laid, Laid}
use Rattle.signature.specs.declared.VocabularyRefusal.{VocabularyRefusal}
use Rattle.signature.specs.declared.VocabularyRefusal.TheVariants as R
use Rattle.std.specs.Prelude.{⊤, Result, Ok, Err}
use Rattle.signature.specs.Loading.{RecordRead, word_at, records_in, checks_reply, Entry, Filled, Sized, WordsLoaded, WordsCounted}
use Rattle.signature.proofs.Laid.{laid_more, map_range_more}
use Rattle.signature.proofs.WordsUpTo.{UpTo, words-up_to}

-- What is answered of a record, by the answer's case.
pub record_as : {v : List ℕ} {at k j : ℕ} {r s : Result ℕ VocabularyRefusal} → RecordRead v at k r → r ≡ s → k ≡ j → RecordRead v at j s
record_as read e d = rw (e, d) at read

pub whole-inside : {v : List ℕ} {at k : ℕ} {r : Result ℕ VocabularyRefusal} {p : ℕ} → RecordRead v at k r → r ≡ Ok p → at + 2 + p ≤ length v
whole-inside read e = (record_as read e refl).inside.0

-- The tables o₀, r₀, m₀ and c₀ were lent.
pub record Tabled (v : List ℕ) (n w at : ℕ) (o₀ r₀ m₀ c₀ o r m c : List ℕ) : Type 0 where
  pub words : List Word
  pub passed : w ≤ n
  pub inside : at ≤ length v
  pub near : at ≤ 2 + 10 * w
  pub start : at ≡ record_at v w
  pub count : length words ≡ w
  pub read : read_words (byte_at v 0) w (drop 2 v) ≡ got words (drop at v)
  pub entries : (f : ℕ) → f < w → Entry v (get_or o f 0) (get_or r f 0) (get_or m f 0) (get_or words f no_word)
  pub holds : Laid v words o₀ r₀ m₀ o r m
  pub counts : c ≡ laid (counts_of words) c₀
  pub same_offsets : length o ≡ length o₀
  pub same_results : length r ≡ length r₀
  pub same_maps : length m ≡ length m₀
  pub same_counts : length c ≡ length c₀

pub tabled_none : (v : List ℕ) (n : ℕ) (o r m c : List ℕ) → 2 ≤ length v → Tabled v n 0 2 o r m c o r m c
tabled_none v n o r m c h = record {
  words = [];
  passed = omega arith;
  inside = h;
  near = omega arith;
  start = refl;
  count = refl;
  read = refl;
  entries = λ f b. absurd (omega arith);
  holds = record { offsets = refl; results = refl; maps = refl };
  counts = refl;
  same_offsets = refl;
  same_results = refl;
  same_maps = refl;
  same_counts = refl;
}

-- What loading the records answers.
module _ {v : List ℕ} {n : ℕ} {o₀ r₀ m₀ o r m : List ℕ} where
  loaded_refused : (why : VocabularyRefusal) → vocabulary_refused why ≡ checks_reply v n → Laid v (records_in v n) o₀ r₀ m₀ o r m →
      WordsLoaded v n o₀ r₀ m₀ o r m (Err why)
  loaded_refused why h holds = record {
    refused = λ other d. let same : why ≡ other = cc in rw same at h;
    filled = λ d. absurd (let z : ◌≡◌ {A = ℕ} 0 1 = cc in omega arith);
    holds = holds;
  }

  loaded_filled : Filled v n o r m → Laid v (records_in v n) o₀ r₀ m₀ o r m → WordsLoaded v n o₀ r₀ m₀ o r m (Ok tt)
  loaded_filled filled holds = record {
    refused = λ why d. absurd (let z : ◌≡◌ {A = ℕ} 0 1 = cc in omega arith);
    filled = λ d. filled;
    holds = holds;
  }

-- The record at an offset, as an entry of the tables.
module _ (v : List ℕ) (at p : ℕ) (fits : at + 2 + p ≤ length v) (sound : WordInOrder (byte_at v 0) (word_at v at p)) where
  place-count : length (take p (drop (at + 2) v)) ≡ p
  place-count = length-take-le p (drop (at + 2) v) (rw length-drop (omega arith))

  pub places-few : p ≤ 8
  places-few = omega (arith, place-count, sound.count, ones-few (map_at v (at + 1)))

  -- The word has p places, as many as its map has ones.
  places-ones : place_count (word_at v at p) ≡ p
  places-ones = sym sound.count ∙ place-count

  pub places-there : places_of v at ≡ p
  places-there =
      places-at v at (byte_at v (suc at)) (drop (suc (suc at)) v) (drop-cons v (suc at) 0 (omega arith))
      ∙ ap (λ (i : ℕ). ones (flags (byte_at v i))) (sym (add-one at))
      ∙ ap (λ (m : ℕ). ones (flags m)) (map_at_lem v (at + 1)) ∙ places-ones

  entry_at : Entry v at (byte_at v at) (map_at v (at + 1)) (word_at v at p)
  entry_at = record { result = refl; place_map = refl; inside = rw place-count fits; kinds = rw place-count; sound = sound }

module _ (v : List ℕ) (n w at : ℕ) (o₀ r₀ m₀ c₀ o r m c : List ℕ) (tabled : Tabled v n w at o₀ r₀ m₀ c₀ o r m c) where
  -- What is to hold of the words up to the first record that is not in order.
  up_to : UpTo (byte_at v 0) w (drop 2 v) (got tabled.words (drop at v))
  up_to = subst (UpTo (byte_at v 0) w (drop 2 v)) tabled.read (words-up_to (byte_at v 0) w (drop 2 v))

  -- The record at `at` is refused.
  module _ (i : ℕ) (rest : List ℕ) (b : w < n) (e : stop i rest ≡ read_word (byte_at v 0) (drop at v)) where
    one_more : w + suc (n - (w + 1)) ≡ n
    one_more = omega arith

    stopped : read_words (byte_at v 0) n (drop 2 v) ≡ stop i rest
    stopped =
        ap (λ j. read_words (byte_at v 0) j (drop 2 v)) (sym one_more)
        ∙ row_stopped (λ s. read_word (byte_at v 0)) (λ s x. s) tt w (drop 2 v) tabled.words (drop at v) tabled.read (n - (w + 1)) i rest (sym e)

    stopped_words : records_in v n ≡ tabled.words
    stopped_words = ap (records_in v) (sym one_more) ∙ up_to.1 (n - (w + 1)) i rest (sym e)

  laid_as : records_in v n ≡ tabled.words → Laid v (records_in v n) o₀ r₀ m₀ o r m
  laid_as e = rw e tabled.holds

  -- What loading the records gives: answer and tables.
  abbrev RecordsGive : Result ⊤ VocabularyRefusal → Type 0
  RecordsGive a = WordsLoaded v n o₀ r₀ m₀ o r m a × WordsCounted v n c₀ c

  counts_as : records_in v n ≡ tabled.words → WordsCounted v n c₀ c
  counts_as e = rw e tabled.counts

  -- The record at `at` is not in order.
  pub tabled-stops : w < n → (why : VocabularyRefusal) → RecordRead v at (byte_at v 0) (Err why) → RecordsGive (Err why)
  tabled-stops b R.Head read = absurd read.inside
  tabled-stops b R.WordCount read = absurd read.inside
  tabled-stops b (R.Ends q) read =
      let words = stopped_words 3 [] b read.reads in (
        loaded_refused (R.Ends q) (rw (stopped 3 [] b read.reads) (ap (refused 3 0) (read.inside ∙ omega arith))) (laid_as words),
        counts_as words,
      )
  tabled-stops b (R.NoSuchKind q) read =
      let words = stopped_words 4 (drop q v) b read.reads in (
        loaded_refused (R.NoSuchKind q)
            (rw (stopped 4 (drop q v) b read.reads) (ap (refused 4 0) (omega (arith, read.inside, length-drop q v)))) (laid_as words),
        counts_as words,
      )
  tabled-stops b (R.Continues q) read = absurd read.inside

  module _ (h : n ≤ w) where
    done : w ≡ n
    done = omega (arith, tabled.passed)

    all : read_words (byte_at v 0) n (drop 2 v) ≡ got tabled.words (drop at v)
    all = ap (λ j. read_words (byte_at v 0) j (drop 2 v)) (sym done) ∙ tabled.read

    all_words : records_in v n ≡ tabled.words
    all_words = ap (records_in v) (sym done) ∙ up_to.0

    continues_reply : at < length v → vocabulary_refused (R.Continues at) ≡ checks_reply v n
    continues_reply b = rw (all, drop-cons v at 0 b) (ap (refused 5 0) (omega (arith, length-drop (suc at) v)))

    pub tabled_continues : at < length v → RecordsGive (Err (R.Continues at))
    tabled_continues b = (loaded_refused (R.Continues at) (continues_reply b) (laid_as all_words), counts_as all_words)

    filled : length v ≤ at → Filled v n o r m
    filled b = record {
      read = rw all_words (all ∙ rw (drop_of_length-le v b));
      count = rw all_words (tabled.count ∙ done);
      entries = λ f c. rw all_words (tabled.entries f (omega arith));
    }

    pub tabled-filled : length v ≤ at → RecordsGive (Ok tt)
    tabled-filled b = (loaded_filled (filled b) (laid_as all_words), counts_as all_words)

  -- The tables have an entry for the next record.
  pub tabled-room : n ≤ 96 → Sized o₀ r₀ m₀ c₀ → w < n → (w < length o) × (w < length r) × (w < length m) × (w < length c)
  tabled-room few sized b = (
    omega (arith, sized.offsets, tabled.same_offsets),
    omega (arith, sized.results, tabled.same_results),
    omega (arith, sized.maps, tabled.same_maps),
    omega (arith, sized.counts, tabled.same_counts),
  )

  -- One record more.
  module _ (few : n ≤ 96) (sized : Sized o₀ r₀ m₀ c₀) (b : w < n) (p : ℕ) (read : RecordRead v at (byte_at v 0) (Ok p)) where
    room : w < 96
    room = omega arith

    offset-count : length (offsets_of v (length tabled.words)) ≡ w
    offset-count = length-map (range 0 (length tabled.words)) (record_at v) ∙ length-range 0 (length tabled.words) ∙ tabled.count

    next-offsets : offsets_of v (length tabled.words) ++ (at ∷ []) ≡ offsets_of v (length (tabled.words ++ (word_at v at p ∷ [])))
    next-offsets =
        let here : at ≡ record_at v (length tabled.words) = tabled.start ∙ ap (record_at v) (sym tabled.count) in
        ap (λ (i : ℕ). offsets_of v (length tabled.words) ++ (i ∷ [])) here ∙ map_range_more (record_at v) (length tabled.words)
        ∙ ap (offsets_of v) (sym (length-append tabled.words (word_at v at p ∷ [])))

    -- The column of a field of the words.
    column_count : (field : Word → ℕ) → length (map field tabled.words) ≡ w
    column_count field = length-map tabled.words field ∙ tabled.count

    next_column : (field : Word → ℕ) → map field tabled.words ++ (field (word_at v at p) ∷ []) ≡ map field (tabled.words ++ (word_at v at p ∷ []))
    next_column field = sym (map-append field tabled.words (word_at v at p ∷ []))

    next-laid : Laid v (tabled.words ++ (word_at v at p ∷ [])) o₀ r₀ m₀ (set o w at) (set r w (byte_at v at)) (set m w (map_at v (at + 1)))
    next-laid =
        let held = tabled.holds in
        record {
          offsets =
              laid_more o₀ o (offsets_of v (length tabled.words)) _ w at held.offsets offset-count (omega (arith, room, sized.offsets)) next-offsets;
          results =
              laid_more r₀ r (results_of tabled.words) _ w (byte_at v at) held.results (column_count (λ x. x.result))
              (omega (arith, room, sized.results)) (next_column (λ x. x.result));
          maps =
              laid_more m₀ m (maps_of tabled.words) _ w (map_at v (at + 1)) held.maps (column_count (λ x. x.place_map))
              (omega (arith, room, sized.maps)) (next_column (λ x. x.place_map));
        }

    next-counts : set c w p ≡ laid (counts_of (tabled.words ++ (word_at v at p ∷ []))) c₀
    next-counts =
        laid_more c₀ c (counts_of tabled.words) _ w p tabled.counts (column_count place_count) (omega (arith, room, sized.counts))
        (ap (λ (k : ℕ). counts_of tabled.words ++ (k ∷ [])) (sym (places-ones v at p read.inside.0 read.inside.1)) ∙ next_column place_count)

    next-entries : (f : ℕ) → f < w + 1 →
        Entry v (get_or (set o w at) f 0) (get_or (set r w (byte_at v at)) f 0) (get_or (set m w (map_at v (at + 1))) f 0)
        (get_or (tabled.words ++ (word_at v at p ∷ [])) f no_word)
    next-entries f c = go (ℕ_discrete f w)
      where
        go : Dec (f ≡ w) →
            Entry v (get_or (set o w at) f 0) (get_or (set r w (byte_at v at)) f 0) (get_or (set m w (map_at v (at + 1))) f 0)
            (get_or (tabled.words ++ (word_at v at p ∷ [])) f no_word)
        go (yes e) =
            let inside = tabled-room few sized b in
            rw (
              e,
              get_or-set_same o w at 0 inside.0,
              get_or-set_same r w (byte_at v at) 0 inside.1,
              get_or-set_same m w (map_at v (at + 1)) 0 inside.2,
              get_or_at tabled.words (word_at v at p) [] no_word w tabled.count,
            )
            (entry_at v at p read.inside.0 read.inside.1)
        go (no e) =
            let old : f < w = omega arith in
            let inside : f < length tabled.words = omega (arith, tabled.count) in
            rw (
              get_or-set_other o w f at 0 e,
              get_or-set_other r w f (byte_at v at) 0 e,
              get_or-set_other m w f (map_at v (at + 1)) 0 e,
              get_or-append tabled.words (word_at v at p ∷ []) no_word f inside,
            )
            (tabled.entries f old)

    tabled-more : Tabled v n (w + 1) (at + 2 + p) o₀ r₀ m₀ c₀ (set o w at) (set r w (byte_at v at)) (set m w (map_at v (at + 1))) (set c w p)
    tabled-more = record {
      words = tabled.words ++ (word_at v at p ∷ []);
      passed = omega arith;
      inside = read.inside.0;
      near = omega (arith, tabled.near, places-few v at p read.inside.0 read.inside.1);
      start =
          sym (ap (record_at v) (add-one w) ∙ record-behind v w ∙ ap (behind v) (sym tabled.start)
          ∙ behind_is v at p (places-there v at p read.inside.0 read.inside.1));
      count = rw length-append (omega (arith, tabled.count));
      read =
          row_last (λ s. read_word (byte_at v 0)) (λ s x. s) tt w (drop 2 v) tabled.words (drop at v) tabled.read
          (word_at v at p) (drop (at + 2 + p) v) (sym read.reads);
      entries = next-entries;
      holds = next-laid;
      counts = next-counts;
      same_offsets = length-set o w at ∙ tabled.same_offsets;
      same_results = length-set r w (byte_at v at) ∙ tabled.same_results;
      same_maps = length-set m w (map_at v (at + 1)) ∙ tabled.same_maps;
      same_counts = length-set c w p ∙ tabled.same_counts;
    }

    -- The map as it is read.
    pub tabled-next : (map : ℕ) → map ≡ map_at v (at + 1) →
        Tabled v n (w + 1) (at + 2 + p) o₀ r₀ m₀ c₀ (set o w at) (set r w (byte_at v at)) (set m w map) (set c w p)
    tabled-next map e = rw e tabled-more
