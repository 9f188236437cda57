-- Steps: a text is walked over token by token, by offsets; no public contract cites it.
--
--   start_from b i          the offset of the first token from the offset i on
--   behind_token b i        the offset behind it
--   passed b i n           the offset behind the first n tokens from the offset i on
--   tokens_before e l       the tokens of the lexemes l that begin before the offset e
--   tokens_in b i e         the tokens of a text from the offset i on that begin before the offset e
--   all_tokens b i          the tokens of a text from the offset i on
--   level_behind u d        how many parentheses are open behind the token u, where d are open before it
--   places_size us          how many tokens the places have that stand behind a word, where us stand there
--   step_size u us          how many tokens more than one the pattern's token u stands for, where us stand behind the first
--   walked b from at e     the pattern from an offset on beside the situation from the offset at up to the offset e
--   DiffersAt b at e w due here     w differs behind the tokens up to the offset here, where the pattern has the token at due
--   Compares b at e w r    the answer r says what w says
--
use Rattle.std.specs.Prelude.{◌≡◌, cond, Option, Some, None, List, [], ◌∷◌, ℕ, zero, suc, ◌+◌, ◌-◌, min, ltb, length, take, drop}
use Rattle.texts.specs.Lexemes.{Token, Lexeme, blanks, token_size, lexemes_from, token_at}
use Rattle.texts.specs.Names.{same, mark, opening, closing, name_at}
use Rattle.texts.specs.QuestionReading.{is_open}
use Rattle.texts.specs.Comparing.{closing_size, Cover, Walked, fits, unlike, walk}
use Rattle.verdicts.specs.declared.Difference.{Difference}

abbrev pub start_from : List ℕ → ℕ → ℕ
start_from b i = i + blanks (drop i b)

abbrev pub behind_token : List ℕ → ℕ → ℕ
behind_token b i = start_from b i + token_size (drop (start_from b i) b)

abbrev pub passed : List ℕ → ℕ → ℕ → ℕ
passed b i zero = i
passed b i (suc n) = passed b (behind_token b i) n

abbrev pub tokens_before : ℕ → List Lexeme → List Token
tokens_before e [] = []
tokens_before e (x ∷ l) = cond (ltb x.at e) (x.token ∷ tokens_before e l) []

-- The empty token at the end of the text is none of them.
abbrev pub tokens_in : List ℕ → ℕ → ℕ → List Token
tokens_in b i e = tokens_before (min e (length b)) (lexemes_from b i)

abbrev pub all_tokens : List ℕ → ℕ → List Token
all_tokens b i = tokens_in b i (length b)

abbrev pub level_behind : Token → ℕ → ℕ
level_behind u d = cond (same u (mark opening)) (suc d) (cond (same u (mark closing)) (d - 1) d)

abbrev pub places_size : List Token → ℕ
places_size us = cond (same (name_at us 0) (mark opening)) (suc (closing_size 1 (drop 1 us))) 0

abbrev pub step_size : Token → List Token → ℕ
step_size u us = cond (is_open u) (places_size us) 0

abbrev pub walked : List ℕ → ℕ → ℕ → ℕ → Walked
walked b from at e = walk (length (tokens_in b at e)) (all_tokens b from) (tokens_in b at e)

pub record DiffersAt (b : List ℕ) (at e : ℕ) (w : Walked) (due here : ℕ) : Type 0 where
  pub before : ℕ
  pub differs : w ≡ unlike before (token_at b due)
  pub same : tokens_in b at here ≡ take before (tokens_in b at e)

abbrev pub Compares : List ℕ → ℕ → ℕ → Walked → Option Difference → Type 0
Compares b at e w None = (cs : List Cover) × (w ≡ fits cs)
Compares b at e w (Some d) = DiffersAt b at e w d.due d.here
