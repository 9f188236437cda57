-- Phrases: what reading a pattern promises.
--
--   PhraseAnswer                what reading a pattern gives
--   PhraseTo                    what was read of a pattern, with its bytes and its variables
--   ReadsPhrase                 the answer is what a reading says
--   PhrasePromise               what read_phrase promises
--   ReadsKind, ReadsLeaf, ReadsRootVariable, ReadsRootWord, ReadsRoot, ReadsLabelled     what its parts promise each other; no
--                               public contract cites them
--   kind_of r n f                the kind of the word f
--   root_read kind a r           a term of this kind as a pattern
--   labelled_by s a              the answer a with the label at the offset s
--
use Rattle.std.specs.Prelude.{◌≡◌, true, cond, List, [], ◌∷◌, ℕ, ◌+◌, ◌*◌, ◌<◌, ◌≤◌, ltb, length, get_or, take, drop, Result, Ok, Err}
use Rattle.wire.specs.Vocabulary.{Vocabulary, word, most_kinds, most_words}
use Rattle.wire.specs.TermBytes.{encode_root, encode_term, name_count, most_bytes, most_levels}
use Rattle.texts.specs.Lexemes.{Token, Lexeme, blanks, lexemes_from, token_at}
use Rattle.texts.specs.Names.{is_identifier, index_in}
use Rattle.texts.specs.Files.{most_text}
use Rattle.texts.specs.Faults.{Parsed, parsed, bad, parse_then}
use Rattle.texts.specs.PhraseReading.{TermRead, PhraseRead, phrase_read, variable_why, read_variable, parse_term, read_root_kind, read_root, read_phrase}
use Rattle.texts.specs.Tabled.{names_in, record_size, tabled_vocabulary}
use Rattle.faults.specs.declared.Fault.{Fault}
use Rattle.faults.specs.Reasons.{fault_of}
use Rattle.clauses.specs.Reading.{seen_at, Front}
use Rattle.phrases.specs.declared.Phrase.{Phrase}

pub record PhraseTo (W : Vocabulary) (b o v : List ℕ) (p : PhraseRead) (r : List Lexeme) (x : Phrase) : Type 0 where
  pub label : p.label ≡ token_at b x.label
  pub kind : p.kind ≡ x.kind
  pub bytes : take x.size o ≡ encode_term W p.kind p.term
  pub variables : p.variables ≡ names_in b (take x.seen v)
  pub behind : r ≡ lexemes_from b x.at
  pub inside : x.at ≤ length b
  pub room : x.size ≤ most_bytes
  pub few : x.seen ≤ name_count

abbrev pub PhraseAnswer : Type 0
PhraseAnswer = Result Phrase Fault

abbrev pub ReadsPhrase : Vocabulary → List ℕ → List ℕ → List ℕ → Parsed PhraseRead → PhraseAnswer → Type 0
ReadsPhrase W b o v (parsed p r) (Ok x) = PhraseTo W b o v p r x
ReadsPhrase W b o v (parsed p r) (Err x) = ⊥
ReadsPhrase W b o v (bad f) (Ok x) = ⊥
ReadsPhrase W b o v (bad f) (Err x) = f ≡ fault_of x

-- The text b is read from the offset `at` on; the first k of the offsets g are those of the kinds' names, the first n of q those of
-- the words', whose records are r. Behind that, o holds the bytes and v the offsets of the variables.
abbrev pub PhrasePromise : List ℕ → ℕ → List ℕ → ℕ → List ℕ → ℕ → List ℕ → List ℕ → List ℕ → PhraseAnswer → Type 0
PhrasePromise b at g k q n r o v a =
    length b ≤ most_text → at ≤ length b → k ≤ most_kinds → n ≤ most_words →
    ReadsPhrase (tabled_vocabulary k n r) b o v (read_phrase (names_in b (take k g)) (names_in b (take n q)) (tabled_vocabulary k n r) (lexemes_from b at)) a

-- ---- the parts

abbrev pub ReadsKind : List ℕ → ℕ → List ℕ → ℕ → Result (ℕ × ℕ) Fault → Type 0
ReadsKind b at g k (Ok (kind, e)) =
    (kind < k) × (e ≤ length b) × ((a : TermRead) → read_root_kind (names_in b (take k g)) a (lexemes_from b at) ≡ parsed (phrase_read kind a) (lexemes_from b e))
ReadsKind b at g k (Err x) = (a : TermRead) → read_root_kind (names_in b (take k g)) a (lexemes_from b at) ≡ bad (fault_of x)

abbrev pub ReadsLeaf : List ℕ → ℕ → List ℕ → ℕ → ℕ → ℕ → List ℕ → PhraseAnswer → Type 0
ReadsLeaf b at g k byte seen o x =
    (W : Vocabulary) (v : List ℕ) (a : TermRead) → encode_root W a.term ≡ byte ∷ [] → a.seen.variables ≡ names_in b (take seen v) →
    ReadsPhrase W b o v (read_root_kind (names_in b (take k g)) a (lexemes_from b at)) x

-- A root that is a variable, where the lexemes l begin with the one at the offset s; v is the table before.
abbrev pub ReadsRootVariable : List ℕ → ℕ → List ℕ → ℕ → List ℕ → List ℕ → List ℕ → PhraseAnswer → Type 0
ReadsRootVariable b s g k v o' v' x =
    (W : Vocabulary) (l : List Lexeme) → Front b s l →
    ReadsPhrase W b o' v'
    (parse_then (read_variable 0 (seen_at b v 0 1) l (variable_why most_levels (seen_at b v 0 1) (token_at b s))) (read_root_kind (names_in b (take k g)))) x

-- The kind of a word, and 0 for what is none.
abbrev pub kind_of : List ℕ → ℕ → ℕ → ℕ
kind_of r n f = cond (ltb f n) (get_or r (record_size * f) 0) 0

abbrev pub root_read : ℕ → TermRead → List Lexeme → Parsed PhraseRead
root_read kind a r = parsed (phrase_read kind a) r

-- A root that is a word, which is the token at the offset s.
abbrev pub ReadsRootWord : List ℕ → ℕ → ℕ → List ℕ → ℕ → List ℕ → List ℕ → List ℕ → PhraseAnswer → Type 0
ReadsRootWord b at s q n r o v x =
    s ≡ at + blanks (drop at b) → is_identifier (token_at b s) ≡ true → (k : ℕ) →
    let N : List Token = names_in b (take n q) in
    let W : Vocabulary = tabled_vocabulary k n r in
    let kind : ℕ = (word W (index_in (token_at b s) N)).result in
    ReadsPhrase W b o v (parse_then (parse_term N W most_levels kind (record { variables = []; used = 1 }) (lexemes_from b at)) (root_read kind)) x

abbrev pub ReadsRoot : List ℕ → ℕ → List ℕ → ℕ → List ℕ → ℕ → List ℕ → List ℕ → List ℕ → PhraseAnswer → Type 0
ReadsRoot b at g k q n r o v a =
    ReadsPhrase (tabled_vocabulary k n r) b o v (read_root (names_in b (take k g)) (names_in b (take n q)) (tabled_vocabulary k n r) (lexemes_from b at)) a

abbrev pub labelled_by : ℕ → PhraseAnswer → PhraseAnswer
labelled_by s (Ok x) = Ok (record { label = s; kind = x.kind; size = x.size; seen = x.seen; at = x.at })
labelled_by s (Err x) = Err x

abbrev pub ReadsLabelled : List ℕ → ℕ → List ℕ → ℕ → List ℕ → ℕ → List ℕ → List ℕ → List ℕ → PhraseAnswer → Type 0
ReadsLabelled b at g k q n r o v a =
    ReadsPhrase (tabled_vocabulary k n r) b o v (read_phrase (names_in b (take k g)) (names_in b (take n q)) (tabled_vocabulary k n r) (lexemes_from b at)) a
