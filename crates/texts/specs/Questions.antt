-- Questions: the situations that a pattern is asked about, in the engineers' own words.
--
--   ground_tokens N g         the tokens of a situation, where N are the names of the words
--   question_tokens X p g     the tokens of a question: the pattern's label, ? and the situation
--   questions_tokens X p gs   .. of questions about each of the situations gs
--   GoodQuestion X p g       p has a label, and g is a complete situation of its kind
--
use Rattle.std.specs.Prelude.{List, [], ◌∷◌, ◌++◌}
use Rattle.terms.specs.Term.{Ground, as_term}
use Rattle.wire.specs.TermBytes.{encode_term, HoldsTerm}
use Rattle.texts.specs.Lexemes.{Token, asking}
use Rattle.texts.specs.Names.{mark, IsIdentifier}
use Rattle.texts.specs.Lexicon.{Lexicon, word_names, vocabulary_of}
use Rattle.texts.specs.Phrases.{Phrase, term_tokens}

abbrev pub ground_tokens : List Token → Ground → List Token
ground_tokens N g = term_tokens N [] (as_term g)

-- `go ? wait(up, full)`. It stands behind its pattern.
abbrev pub question_tokens : Lexicon → Phrase → Ground → List Token
question_tokens X p g = p.label ∷ mark asking ∷ ground_tokens (word_names X) g

abbrev pub questions_tokens : Lexicon → Phrase → List Ground → List Token
questions_tokens X p [] = []
questions_tokens X p (g ∷ gs) = question_tokens X p g ++ questions_tokens X p gs

-- The situation is one that match accepts.
pub record GoodQuestion (X : Lexicon) (p : Phrase) (g : Ground) : Type 0 where
  pub label : IsIdentifier p.label
  pub situation : HoldsTerm (vocabulary_of X) (encode_term (vocabulary_of X) p.kind (as_term g)) p.kind (as_term g)
