-- VocabularyWritten: a vocabulary that is written is read again.
use mathlib.Core.Path.{◌≡◌, refl}
use lib.ListN.{length}
use Rattle.wire.specs.Vocabulary.{Vocabulary, InOrder, encode_vocabulary, most_kinds, most_words}
use Rattle.wire.specs.Parser.{accept, read_vocabulary}
use Rattle.wire.proofs.Outside.{inside-outside}
use Rattle.wire.proofs.Inverse.{whole-read}
use Rattle.wire.proofs.WordsInverse.{words_inverse}

-- A vocabulary in order is read again from its writing.
pub read-written : (W : Vocabulary) → InOrder W → read_vocabulary (encode_vocabulary W) ≡ accept W
read-written W s =
    rw (
      inside-outside 1 most_kinds W.kinds s.some_kind s.few_kinds,
      inside-outside 1 most_words (length W.words) s.some_word s.few_words,
      whole-read (words_inverse W.kinds (length W.words)) W.words (refl, s.words),
    )
