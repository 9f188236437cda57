-- `signature::load_counted` meets its contract: lines 1 and 2 from the first two bytes, the others from what `read_words` ensures.
use mathlib.Core.Path.{refl}
use Rattle.signature.proofs.VocabularyLoaded.{loaded_rest}
use Rattle.signature.proofs.load_counted.Goals as goal

pub returns-clause-loaded_from : goal.returns-clause-loaded_from
returns-clause-loaded_from c = (loaded_rest _ _ _ _ _ c.if-v-lt2.false c.if-kinds-lt1.false c.if-kinds-gt16.false _ refl
    c.if-words-lt1.false c.if-words-gt96.false _ _ _ _ _ c.read_words.ensures.words_loaded c.read_words.ensures.words_counted).0

pub returns-clause-counted_from : goal.returns-clause-counted_from
returns-clause-counted_from c = (loaded_rest _ _ _ _ _ c.if-v-lt2.false c.if-kinds-lt1.false c.if-kinds-gt16.false _ refl
    c.if-words-lt1.false c.if-words-gt96.false _ _ _ _ _ c.read_words.ensures.words_loaded c.read_words.ensures.words_counted).1
