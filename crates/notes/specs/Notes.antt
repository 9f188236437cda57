-- Notes: what saying which kinds have no complete situation promises.
--
--   EmptyTold v s r              r says whether no complete situation has the kind s, under the bytes v; no public contract cites it
--   PutsNote                     what put_note promises
--
use Rattle.std.specs.Prelude.{◌≡◌, Bool, not, List, map, ℕ, ◌<◌, length}
use Rattle.terms.specs.Emptiness.{inhabited}
use Rattle.wire.specs.Vocabulary.{Vocabulary, signature, encode_vocabulary, HoldsVocabulary}
use Rattle.texts.specs.Lexemes.{token_at}
use Rattle.texts.specs.Names.{name_at}
use Rattle.texts.specs.Lexicon.{Lexicon, kind_names, vocabulary_of, GoodLexicon}
use Rattle.texts.specs.Notes.{IsNote}
use Rattle.pages.specs.Pages.{Adds}

abbrev pub EmptyTold : List ℕ → ℕ → Bool → Type 0
EmptyTold v s r = (W : Vocabulary) → HoldsVocabulary v W → s < W.kinds → r ≡ not (inhabited (signature W) s)

-- The name of the kind stands at an offset of the text b that the table ks has, and v are the bytes of a good vocabulary.
pub record PutsNote (b ks v : List ℕ) (s : ℕ) (before : List ℕ) (to : ℕ) (after : List ℕ) (to' : ℕ) : Type 0 where
  pub same : length after ≡ length before
  pub puts : (X : Lexicon) → GoodLexicon X → s < length X → name_at (map (token_at b) ks) s ≡ name_at (kind_names X) s →
      v ≡ encode_vocabulary (vocabulary_of X) → (text : List ℕ) × IsNote X s text × Adds before to after to' text
