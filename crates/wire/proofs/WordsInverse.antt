-- WordsInverse: the readers of kinds and of records are inverse to how these are written.
use mathlib.Core.Path.{◌≡◌, refl, ap}
use mathlib.Core.List.{List, [], ◌∷◌}
use Prim.Native.Nat.{ℕ, ◌<◌}
use lib.Dec.{ltb}
use lib.ListN.{length}
use borrow.Author.Tests.{lt-ltb, ltb-true}
use Rattle.terms.specs.Lists.{All}
use Rattle.wire.specs.Reply.{IsBytes}
use Rattle.wire.specs.Map.{read_map, flags, ones}
use Rattle.wire.specs.Row.{write_row}
use Rattle.wire.specs.Vocabulary.{WordInOrder, encode_word, encode_words}
use Rattle.wire.specs.Parser.{Got, got, stop, and_then, read_kind, read_kinds, read_places, read_word, read_words}
use Rattle.wire.proofs.Cond.{choice}
use Rattle.wire.proofs.Inverse.{ReadOff, Inverse, inverse_as}
use Rattle.wire.proofs.Row.{alike_inverse}

-- A kind is its byte, so kinds are their bytes.
abbrev kind_byte : ℕ → List ℕ
kind_byte s = s ∷ []

kinds-bytes : (ks : List ℕ) → write_row kind_byte ks ≡ ks
kinds-bytes [] = refl
kinds-bytes (s ∷ ks) = ap (λ z. s ∷ z) (kinds-bytes ks)

module _ (k : ℕ) where
  kind_off : (b : List ℕ) → ReadOff kind_byte (λ s. s < k) b (read_kind k b)
  kind_off [] = tt
  kind_off (s ∷ l) =
      choice (ReadOff kind_byte (λ s. s < k) (s ∷ l)) (ltb s k) (got s l) (stop 4 (s ∷ l)) (λ e. (ltb-true s k e, refl)) (λ e. tt)

  kind_inverse : Inverse (read_kind k) kind_byte (λ s. s < k)
  kind_inverse = record { written = λ s r low. rw (lt-ltb s k low); read = λ b bytes. kind_off b }

  pub kinds_inverse : (n : ℕ) → Inverse (read_kinds k n) (λ ks. ks) (λ ks. (length ks ≡ n) × All (λ s. s < k) ks)
  kinds_inverse n = inverse_as (read_kinds k n) (write_row kind_byte) (λ ks. ks) _ _ kinds-bytes (λ ks. ((λ h. h), (λ h. h))) (alike_inverse kind_inverse n)

  places_off : (s : ℕ) (l : List ℕ) → s < k → IsBytes l → ReadOff encode_word (WordInOrder k) (s ∷ l) (read_places k s (read_map l))
  places_off s [] low bytes = tt
  places_off s (m ∷ l) low bytes = go (read_kinds k (ones (flags m)) l) ((kinds_inverse (ones (flags m))).read l bytes.1)
    where
      go : (g : Got (List ℕ)) → ReadOff (λ ks. ks) (λ ks. (length ks ≡ ones (flags m)) × All (λ s. s < k) ks) l g →
          ReadOff encode_word (WordInOrder k) (s ∷ m ∷ l) (and_then g (λ ks r. got (record { result = s; place_map = m; kinds = ks }) r))
      go (got ks r) ((count, kinds), e) =
          (record { result = low; place_map = bytes.0; count = count; kinds = kinds }, ap (λ z. s ∷ m ∷ z) e)
      go (stop n r) h = tt

  word_off : (b : List ℕ) → IsBytes b → ReadOff encode_word (WordInOrder k) b (read_word k b)
  word_off [] bytes = tt
  word_off (s ∷ l) bytes =
      choice (ReadOff encode_word (WordInOrder k) (s ∷ l)) (ltb s k) (read_places k s (read_map l)) (stop 4 (s ∷ l))
      (λ e. places_off s l (ltb-true s k e) bytes.1) (λ e. tt)

  pub word_inverse : Inverse (read_word k) encode_word (WordInOrder k)
  word_inverse = record {
    written = λ w r good.
        rw (lt-ltb w.result k good.result, (kinds_inverse (ones (flags w.place_map))).written w.kinds r (good.count, good.kinds));
    read = word_off;
  }

  pub words_inverse : (n : ℕ) → Inverse (read_words k n) encode_words (λ ws. (length ws ≡ n) × All (WordInOrder k) ws)
  words_inverse n = alike_inverse word_inverse n
