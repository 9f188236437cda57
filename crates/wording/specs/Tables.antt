-- Tables: the tables of tokens that are lent as offsets in a text.
--
--   tables_in text ks ws ps vs    the tokens of kinds, words and variables that begin at the offsets ks, ws and vs of a text, and
--                                how many places each word has
--   tables_of t                   the same, of tables that are lent together
--
use Rattle.std.specs.Prelude.{List, map, ℕ}
use Rattle.texts.specs.Lexemes.{token_at}
use Rattle.texts.specs.Saying.{Tables}
use Rattle.wording.specs.declared.Tables as lent

abbrev pub tables_in : List ℕ → List ℕ → List ℕ → List ℕ → List ℕ → Tables
tables_in text ks ws ps vs = record {
  kinds = map (token_at text) ks;
  words = map (token_at text) ws;
  places = ps;
  variables = map (token_at text) vs;
}

abbrev pub tables_of : lent.Tables → Tables
tables_of t = tables_in t.text.now t.kinds.now t.words.now t.places.now t.variables.now
