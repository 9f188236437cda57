-- Words: the bytes of a vocabulary, one word after the other.
--
--   word-put                 the bytes of a word
--   PutTo k n records f at out     the first f words are written, up to an offset
--   put_none, put-more, put_all    no word is written, one more is, all are
--
use Rattle.std.proofs.Common.{◌≡◌, ℕ, ◌+◌, ◌-◌, ◌*◌, ◌<◌, ◌≤◌, suc, List, [], ◌∷◌, ◌++◌, length, get_or, set, take, drop, map, append_assoc, refl, sym, ap, ap₂, ◌∙◌, arith, add-one, length-drop}
use Rattle.std.proofs.lemmas.List.{length-take-le}
use Rattle.std.proofs.lemmas.Slice.{take-put_mid}
use borrow.Rule.Slice.PartMut.{put_mid, same_len_mid}
use mathlib.Core.List.{map-append, append-nil}
use lib.ListN.{length-set, length-map}
use lib.Seq.{take-suc-set}
use Rattle.terms.specs.Lists.{range}
use Rattle.terms.proofs.Count.{length-range}
use Rattle.terms.proofs.Keep.{range-append}
use Rattle.wire.specs.Vocabulary.{Word, most_words, encode_word, encode_words}
use Rattle.texts.specs.Lexicon.{gapless_map, most_places}
use Rattle.texts.specs.Tabled.{record_size, tabled_places, word_in, words_in}
use Rattle.encoder.specs.Encoded.{table_size, most_encoded, PutWord, Encoded}

-- ---- a word

module _ (records out : List ℕ) (f at : ℕ) (inside : f < most_words) (table : length records ≡ table_size) (room : at + record_size ≤ length out) where
  abbrev kind : ℕ
  kind = get_or records (record_size * f) 0

  abbrev headed : ℕ → List ℕ
  headed mask = set (set out at kind) (at + 1) mask

  pub headed_size : (mask : ℕ) → length (headed mask) ≡ length out
  headed_size mask = length-set (set out at kind) (at + 1) mask ∙ length-set out at kind

  headed_take : (mask : ℕ) → take (at + 2) (headed mask) ≡ (take at out ++ (kind ∷ [])) ++ (mask ∷ [])
  headed_take mask =
      let size = length-set out at kind in
      ap (λ i. take i (headed mask)) (let e : at + 2 ≡ suc (at + 1) = omega arith in e)
      ∙ take-suc-set (set out at kind) (at + 1) mask (omega arith)
      ∙ ap (λ l. l ++ (mask ∷ [])) (ap (λ i. take i (set out at kind)) (add-one at) ∙ take-suc-set out at kind (omega arith))

  pub word-put : {m mask : ℕ} {copied : List ℕ} → m ≡ tabled_places records f → mask ≡ gapless_map m →
      copied ≡ take (record_size * f + 2 + m - (record_size * f + 2)) (drop (record_size * f + 2) records) →
      PutWord records f at out (at + 2 + m) (put_mid (at + 2) (at + 2 + m - (at + 2)) (headed mask) copied)
  word-put {m} {mask} {copied} e g h =
      let few : m ≤ most_places = omega arith in
      let size = headed_size mask in
      let source = length-drop (record_size * f + 2) records in
      let is : copied ≡ take m (drop (record_size * f + 2) records) =
      h ∙ ap (λ n. take n (drop (record_size * f + 2) records)) (let k : record_size * f + 2 + m - (record_size * f + 2) ≡ m = omega arith in k) in
      let long : length copied ≡ m = ap length is ∙ length-take-le m (drop (record_size * f + 2) records) (omega arith) in
      let part : length (take (at + 2 + m - (at + 2)) (drop (at + 2) (headed mask))) ≡ at + 2 + m - (at + 2) =
      length-take-le (at + 2 + m - (at + 2)) (drop (at + 2) (headed mask)) (omega (arith, length-drop (at + 2) (headed mask))) in
      record {
        size = same_len_mid (at + 2) (at + 2 + m - (at + 2)) (headed mask) copied (omega arith) ∙ size;
        bytes =
            take-put_mid (at + 2) (at + 2 + m - (at + 2)) (headed mask) copied (at + 2 + m) (omega arith) (omega arith)
            ∙ ap (λ l. l ++ copied) (headed_take mask)
            ∙ append_assoc (take at out ++ (kind ∷ [])) (mask ∷ []) copied
            ∙ append_assoc (take at out) (kind ∷ []) (mask ∷ copied)
            ∙ ap₂ (λ i j. take at out ++ (kind ∷ i ∷ j)) (g ∙ ap gapless_map e) (is ∙ ap (λ j. take j (drop (record_size * f + 2) records)) e);
        short = omega arith;
      }

-- ---- all words

row_last : (l : List Word) (w : Word) → encode_words (l ++ (w ∷ [])) ≡ encode_words l ++ encode_word w
row_last [] w = append-nil (encode_word w)
row_last (x ∷ l) w = ap (λ r. encode_word x ++ r) (row_last l w) ∙ sym (append_assoc (encode_word x) (encode_words l) (encode_word w))

words_last : (f : ℕ) (records : List ℕ) → encode_words (words_in (f + 1) records) ≡ encode_words (words_in f records) ++ encode_word (word_in records f)
words_last f records =
    ap encode_words (ap (map (word_in records)) (range-append 0 f 1 ∙ ap (λ i. range 0 f ++ (i ∷ [])) (let e : 0 + f ≡ f = omega arith in e)) ∙ map-append (word_in records) (range 0 f) (f ∷ []))
    ∙ row_last (words_in f records) (word_in records f)

pub record PutTo (k n : ℕ) (records : List ℕ) (f at : ℕ) (out : List ℕ) : Type 0 where
  pub upto : f ≤ n
  pub size : length out ≡ most_encoded
  pub short : at ≤ 2 + record_size * f
  pub bytes : take at out ≡ k ∷ n ∷ encode_words (words_in f records)

pub put_none : (k n : ℕ) (records out : List ℕ) → length out ≡ most_encoded → PutTo k n records 0 2 (set (set out 0 k) 1 n)
put_none k n records [] h = absurd (omega arith)
put_none k n records (a ∷ []) h = absurd (omega arith)
put_none k n records (a ∷ c ∷ l) h = record { upto = omega arith; size = h; short = omega arith; bytes = refl }

module _ {k n : ℕ} {records : List ℕ} {f at : ℕ} {out : List ℕ} (t : PutTo k n records f at out) where
  pub put-more : f < n → {r : ℕ} {after : List ℕ} → PutWord records f at out r after → PutTo k n records (f + 1) r after
  put-more h p = record {
    upto = omega arith;
    size = p.size ∙ t.size;
    short = let s = t.short in let q = p.short in omega arith;
    bytes = p.bytes ∙ ap (λ l. l ++ encode_word (word_in records f)) t.bytes ∙ ap (λ l. k ∷ n ∷ l) (sym (words_last f records));
  }

  pub put_all : n ≤ most_words → n ≤ f → Encoded k n records at out
  put_all few h =
      let u = t.upto in
      let e : f ≡ n = omega arith in
      let s = t.short in
      record {
        size = t.size;
        short = omega arith;
        bytes =
            t.bytes
            ∙ ap₂ (λ i l. k ∷ i ∷ l) (sym (length-map (range 0 n) (word_in records) ∙ length-range 0 n)) (ap (λ i. encode_words (words_in i records)) e);
      }
