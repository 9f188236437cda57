-- RecordBytes: reading one record, from what stands at its bytes.
use mathlib.Core.Path.{◌≡◌, refl, sym, ◌∙◌, ap, subst}
use mathlib.Core.List.{List, ◌∷◌}
use Prim.Native.Nat.{ℕ, suc, ◌+◌, ◌<◌, ◌≤◌}
use native.Mathlib.Omega.{arith}
use lib.ListN.{length, drop, drop_of_length-le}
use lib.Seq.{drop-cons}
use borrow.Author.Count.{below_none}
use borrow.Author.Tests.{lt-ltb, le-ltb}
use Rattle.terms.proofs.All.{all_drop}
use Rattle.wire.specs.Map.{flags, ones}
use Rattle.wire.specs.Vocabulary.{Word, WordInOrder, encode_word}
use Rattle.wire.specs.Parser.{Got, got, and_then, read_kinds, read_word}
use Rattle.wire.specs.VocabularyLines.{byte_at}
use Rattle.wire.proofs.Bytes.{bytes_of}
use Rattle.wire.proofs.Inverse.{ReadOff}
use Rattle.wire.proofs.WordsInverse.{word_inverse}
use Rattle.maps.specs.Reading.{map_at}
use Rattle.maps.proofs.Reading.{map_at_lem}
use Rattle.std.specs.Prelude.{Result, Ok, Err}
use Rattle.signature.specs.declared.VocabularyRefusal.{VocabularyRefusal}
use Rattle.signature.specs.declared.VocabularyRefusal.TheVariants.{Head, WordCount, Ends, NoSuchKind, Continues}
use Rattle.signature.specs.Loading.{kinds_got, KindsRead, word_got, RecordRead}
use Rattle.signature.proofs.KindBytes.{kinds-read_whole}

-- The bytes from an offset on, where there are some.
byte-cons : (v : List ℕ) (i j : ℕ) → suc i ≡ j → i < length v → drop i v ≡ byte_at v i ∷ drop j v
byte-cons v i j e h = rw (← e) (drop-cons v i 0 h)

module _ (v : List ℕ) (at k : ℕ) where
  first_byte : at < length v → drop at v ≡ byte_at v at ∷ drop (at + 1) v
  first_byte h = byte-cons v at (at + 1) (omega arith) h

  pub record_missing : length v ≤ at → RecordRead v at k (Err (Ends (length v)))
  record_missing h = record { reads = rw (drop_of_length-le v h); inside = refl }

  pub record-unknown : at < length v → k ≤ byte_at v at → RecordRead v at k (Err (NoSuchKind at))
  record-unknown h e = record { reads = rw (first_byte h, le-ltb (byte_at v at) k e); inside = h }

  pub record-short : at < length v → byte_at v at < k → length v ≤ at + 1 → RecordRead v at k (Err (Ends (length v)))
  record-short h e s = record {
    reads = rw (first_byte h, lt-ltb (byte_at v at) k e, drop_of_length-le v s);
    inside = refl;
  }

  -- Behind a result kind and a map stand the kinds of the places.
  module _ (small : (i : ℕ) → byte_at v i < 256) (long : at + 2 ≤ length v) (result : byte_at v at < k) where
    n : ℕ
    n = ones (flags (map_at v (at + 1)))

    map-small : map_at v (at + 1) < 256
    map-small = subst (λ m. m < 256) (map_at_lem v (at + 1)) (small (at + 1))

    map-cons : drop (at + 1) v ≡ map_at v (at + 1) ∷ drop (at + 2) v
    map-cons = byte-cons v (at + 1) (at + 2) (omega arith) (omega arith) ∙ ap (λ m. m ∷ drop (at + 2) v) (map_at_lem v (at + 1))

    with_kinds : List ℕ → List ℕ → Got Word
    with_kinds ks r = got (record { result = byte_at v at; place_map = map_at v (at + 1); kinds = ks }) r

    word_read_lem : read_word k (drop at v) ≡ and_then (read_kinds k n (drop (at + 2) v)) with_kinds
    unfolding n with_kinds
    word_read_lem = rw (first_byte (omega arith), lt-ltb (byte_at v at) k result, map-cons)

    -- The record is read as its kinds are.
    reads_as : (r : Result ℕ VocabularyRefusal) → KindsRead v (at + 2) n k r → and_then (kinds_got v (at + 2) r) with_kinds ≡ read_word k (drop at v)
    reads_as r read = sym (word_read_lem ∙ ap (λ g. and_then g with_kinds) (sym read.reads))

    behind-map : (r : Result ℕ VocabularyRefusal) → KindsRead v (at + 2) n k r → RecordRead v at k r
    unfolding n with_kinds
    behind-map (Ok m) read =
        let reads : word_got v at (Ok m) ≡ read_word k (drop at v) = reads_as (Ok m) read in
        record {
          reads = reads;
          inside = (
            omega (arith, read.inside.0, read.inside.1),
            (subst (ReadOff encode_word (WordInOrder k) (drop at v)) (sym reads) ((word_inverse k).read (drop at v) (all_drop (λ b. b < 256) at v (bytes_of v small)))).0,
          );
        }
    behind-map (Err Head) read = absurd read.inside
    behind-map (Err WordCount) read = absurd read.inside
    behind-map (Err (Ends q)) read = record { reads = reads_as (Err (Ends q)) read; inside = read.inside }
    behind-map (Err (NoSuchKind q)) read = record { reads = reads_as (Err (NoSuchKind q)) read; inside = read.inside }
    behind-map (Err (Continues q)) read = absurd read.inside

    -- The map as it is read.
    module _ (map : ℕ) (is : map ≡ map_at v (at + 1)) where
      pub record-kinds : (r : Result ℕ VocabularyRefusal) (places : ℕ) → places ≡ ones (flags map) → KindsRead v (at + 2) places k r → RecordRead v at k r
      unfolding n
      record-kinds r places counted read = behind-map r (rw (counted, is) at read)

      -- A map of no places.
      pub record-bare : map ≡ 0 → RecordRead v at k (Ok 0)
      record-bare e = record-kinds (Ok 0) 0 (sym (ap (λ m. ones (flags m)) e)) (kinds-read_whole v (at + 2) k 0 (omega arith) (below_none _))
