-- Putting: what is promised where a question is put on a page.
--
--   PutsQuestion b label at before to after next     the question of the label at an offset of the text b, about the situation that
--                                                    is read from the offset at on, is put on the page with its answer
--
use Rattle.std.specs.Prelude.{◌≡◌, false, List, ◌++◌, ℕ, ◌≤◌, length}
use Rattle.terms.specs.Term.{Ground}
use Rattle.texts.specs.Lexemes.{Token, lexemes_from, token_at}
use Rattle.texts.specs.Names.{same, mark, opening, name_at}
use Rattle.texts.specs.Lexicon.{Lexicon, word_names, GoodLexicon}
use Rattle.texts.specs.Phrases.{Phrase, whole_tokens, GoodWhole}
use Rattle.texts.specs.Questions.{ground_tokens, GoodQuestion}
use Rattle.texts.specs.Verdicts.{question_text}
use Rattle.texts.specs.Laws.{tokens_of}
use Rattle.pages.specs.Pages.{Adds}

pub record PutsQuestion (b : List ℕ) (label at : ℕ) (before : List ℕ) (to : ℕ) (after : List ℕ) (next : ℕ) : Type 0 where
  pub kept : length after ≡ length before
  pub puts : (X : Lexicon) (p : Phrase) (g : Ground) (R S : List Token) → GoodLexicon X → GoodWhole X p → GoodQuestion X p g →
      label ≤ length b → at ≤ length b → token_at b label ≡ p.label →
      tokens_of (lexemes_from b label) ≡ whole_tokens X p ++ R →
      tokens_of (lexemes_from b at) ≡ ground_tokens (word_names X) g ++ S → same (name_at S 0) (mark opening) ≡ false →
      Adds before to after next (question_text X p g)
