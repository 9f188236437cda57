-- PhraseReading: patterns in words, read off the lexemes of a text.
--
-- This file is an algorithm: PhrasesRead and PhrasesExact (Laws) fix what it accepts, PhraseFaultsAreFirst where a fault is. Which
-- reason is given there is by its tests (word_why, variable_why).
--
--   Seen                     what was read so far: the variables in their order, and how many bytes the pattern has up to here
--   TermRead, TermsRead      a term, or the terms of a word's places, and what was read up to their end
--   word_bytes                how many bytes a word takes, its map with it
--   word_why N W left due s u       why the token u is no word that may stand there; 0 where it is
--   variable_why left s u           why the token u is no variable that may stand there; 0 where it is
--   fault_at why of l               a fault at the first of the lexemes l
--   parse_places below f c ks s l    the terms of the places ks of the word f, c before the first, each read by `below`
--   read_behind below f ks s l      what stands behind the word f: its places, where it has any
--   parse_word, read_variable         a term that begins with a word, a variable
--   read_node below N W left due s l    a term; `below` reads those of its places
--   parse_term N W left due s l      a term of kind due, at most `left` levels deep
--   PhraseRead               a pattern with its kind, its variables and its label, which may be missing
--   put_first t a            the term t before the terms of a
--   phrase_read k a           a pattern of kind k without label
--   read_root_kind K a l       the kind of a root that is open or a variable
--   read_root K N W l         a pattern without label
--   labelled u p             the pattern p with the label u
--   read_phrase K N W l       a pattern, where K are the names of the kinds, N those of the words, and W is the vocabulary
--
use Rattle.std.specs.Prelude.{◌&&◌, cond, List, [], ◌∷◌, ◌++◌, ℕ, zero, suc, ◌+◌, eqb, ltb, leb, length}
use Rattle.terms.specs.Term.{Term, any, var, app, Terms, nil, cons}
use Rattle.wire.specs.Map.{map_bytes}
use Rattle.wire.specs.Vocabulary.{Vocabulary, word}
use Rattle.wire.specs.TermBytes.{name_count, most_bytes, most_levels}
use Rattle.texts.specs.Lexemes.{Token, Lexeme}
use Rattle.texts.specs.Names.{same, opened, mark, opening, closing, comma, colon, most_name, is_identifier, is_variable, index_in}
use Rattle.texts.specs.Phrases.{Phrase}
use Rattle.texts.specs.Faults.{Parsed, parsed, bad, parse_then, token, place, rest, long_name, not_declared, place_due, pattern_due, term_due, unknown_word, other_kind, places_wrong, places_over, too_deep, too_long, variable_twice, many_variables, colon_due}

pub record Seen : Type 0 where
  pub variables : List Token
  pub used : ℕ

pub record TermRead : Type 0 where
  pub term : Term
  pub seen : Seen

pub record TermsRead : Type 0 where
  pub terms : Terms
  pub seen : Seen

abbrev pub word_bytes : ℕ
word_bytes = 1 + map_bytes

abbrev pub word_why : List Token → Vocabulary → ℕ → ℕ → Seen → Token → ℕ
word_why N W left due s u =
    cond (is_identifier u)
    (cond (ltb (index_in u N) (length N))
    (cond (eqb (word W (index_in u N)).result due) (cond (eqb left 0) too_deep (cond (leb (s.used + word_bytes) most_bytes) 0 too_long)) other_kind)
    unknown_word)
    term_due

abbrev pub variable_why : ℕ → Seen → Token → ℕ
variable_why left s u =
    cond (leb (length u) (suc most_name))
    (cond (ltb (index_in u s.variables) (length s.variables)) variable_twice
    (cond (eqb left 0) too_deep
    (cond (ltb (length s.variables) name_count) (cond (leb (s.used + 1) most_bytes) 0 too_long) many_variables)))
    long_name

abbrev pub fault_at : {A : Type 0} → ℕ → ℕ → List Lexeme → Parsed A
fault_at why of l = bad (record { why = why; at = place l; of = of })

abbrev pub put_first : Term → TermsRead → TermsRead
put_first t a = record { terms = cons t a.terms; seen = a.seen }

abbrev pub parse_places : (ℕ → Seen → List Lexeme → Parsed TermRead) → ℕ → ℕ → List ℕ → Seen → List Lexeme → Parsed TermsRead
parse_places below f c [] s l =
    cond (same (token l) (mark closing)) (parsed (record { terms = nil; seen = s }) (rest l)) (fault_at places_over f l)
parse_places below f c (k ∷ ks) s l =
    cond (same (token l) (mark c))
    (parse_then (below k s (rest l))
    (λ a r. parse_then (parse_places below f comma ks a.seen r) (λ ts r'. parsed (put_first a.term ts) r')))
    (fault_at places_wrong f l)

abbrev pub read_behind : (ℕ → Seen → List Lexeme → Parsed TermRead) → ℕ → List ℕ → Seen → List Lexeme → Parsed TermsRead
read_behind below f [] s l = parsed (record { terms = nil; seen = s }) l
read_behind below f (k ∷ ks) s l = parse_places below f opening (k ∷ ks) s l

abbrev pub parse_word : (ℕ → Seen → List Lexeme → Parsed TermRead) → List Token → Vocabulary → ℕ → ℕ → Seen → List Lexeme → ℕ → Parsed TermRead
parse_word below N W left due s l zero =
    let f : ℕ = index_in (token l) N in
    parse_then (read_behind below f (word W f).kinds (record { variables = s.variables; used = s.used + word_bytes }) (rest l))
    (λ ts r. parsed (record { term = app f ts.terms; seen = ts.seen }) r)
parse_word below N W left due s l (suc why) = fault_at (suc why) due l

abbrev pub read_variable : ℕ → Seen → List Lexeme → ℕ → Parsed TermRead
read_variable due s l zero =
    parsed
    (record { term = var (length s.variables); seen = record { variables = s.variables ++ (token l ∷ []); used = s.used + 1 } })
    (rest l)
read_variable due s l (suc why) = fault_at (suc why) due l

abbrev pub read_node : (ℕ → Seen → List Lexeme → Parsed TermRead) → List Token → Vocabulary → ℕ → ℕ → Seen → List Lexeme → Parsed TermRead
read_node below N W left due s l =
    cond (same (token l) opened) (parsed (record { term = any; seen = s }) (rest l))
    (cond (is_variable (token l)) (read_variable due s l (variable_why left s (token l)))
    (parse_word below N W left due s l (word_why N W left due s (token l))))

abbrev pub parse_term : List Token → Vocabulary → ℕ → ℕ → Seen → List Lexeme → Parsed TermRead
parse_term N W zero due s l = read_node (λ k s' l'. fault_at too_deep k l') N W zero due s l
parse_term N W (suc left) due s l = read_node (parse_term N W left) N W (suc left) due s l

abbrev pub PhraseRead : Type 0
PhraseRead = Phrase

abbrev pub phrase_read : ℕ → TermRead → PhraseRead
phrase_read k a = record { label = []; kind = k; term = a.term; variables = a.seen.variables }

-- `: step`
abbrev pub read_root_kind : List Token → TermRead → List Lexeme → Parsed PhraseRead
read_root_kind K a l =
    cond (same (token l) (mark colon))
    (cond (is_identifier (token (rest l)))
    (cond (ltb (index_in (token (rest l)) K) (length K)) (parsed (phrase_read (index_in (token (rest l)) K) a) (rest (rest l)))
    (fault_at not_declared 0 (rest l)))
    (fault_at place_due 0 (rest l)))
    (fault_at colon_due 0 l)

-- The kind byte is counted, and an open root takes a byte.
abbrev pub read_root : List Token → List Token → Vocabulary → List Lexeme → Parsed PhraseRead
read_root K N W l =
    let s : Seen = record { variables = []; used = 1 } in
    cond (same (token l) opened) (read_root_kind K (record { term = any; seen = s }) (rest l))
    (cond (is_variable (token l))
    (parse_then (read_variable 0 s l (variable_why most_levels s (token l))) (read_root_kind K))
    (cond (is_identifier (token l))
    (parse_then (parse_term N W most_levels (word W (index_in (token l) N)).result s l)
    (λ a r. parsed (phrase_read (word W (index_in (token l) N)).result a) r))
    (fault_at pattern_due 0 l)))

abbrev pub labelled : Token → PhraseRead → PhraseRead
labelled u p = record { label = u; kind = p.kind; term = p.term; variables = p.variables }

-- `go: wait(up, free)`, or `wait(up, free)`.
abbrev pub read_phrase : List Token → List Token → Vocabulary → List Lexeme → Parsed PhraseRead
read_phrase K N W l =
    cond (is_identifier (token l) && same (token (rest l)) (mark colon))
    (cond (leb (length (token l)) most_name)
    (parse_then (read_root K N W (rest (rest l))) (λ p r. parsed (labelled (token l) p) r))
    (fault_at long_name 0 l))
    (read_root K N W l)
