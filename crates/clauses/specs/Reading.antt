-- Reading: what the functions that read a term promise each other; the contract of `read` cites ReadsTerm.
--
--   Within b at n to seen       where reading stands is in the text and in the tables
--   Lent o v                    the lent bytes and the table of variables have their sizes
--   Tables q r                  .. and so have the table of the words' names and their records
--   Fits                        all of that
--   seen_at b v seen to          what was read so far, by the table of variables
--   Answer                      what reading gives
--   Reads P g a                 the answer a is what g says; P is what holds of what was read
--   place_flags ts               a bit for each of the terms ts, which stands where the term is written
--   ReadTo                      what was read up to a point, with its bytes and bits
--   TermTo, TermsTo             the same of a term, of the terms of a word's places
--   Front b s l                 the first of the lexemes l is the token at the offset s, and those behind it are the text's
--   word_reason, variable_reason  word_why and variable_why, by numbers
--   ReadsVariable               a variable is read
--   Below                       what reads the terms of a word's places
--   word_read f ts r             the word f with the terms ts at its places
--   WordAt                      a term begins with the word f, whose places are to be read from the offset e on
--   HeadIs, HeadRead            a term is read whole or refused, or begins with a word
--   read_from below f i ks s l   the places ks of the word f, from the one of number i on
--   mark_before i                the mark before the place of number i
--   Closes                      behind the last place
--   ReadsPlaces, ReadsTerm      the places of a word from a number on, a term
--   Small, joined               the bit of a place, and the bits of those behind it
--
use Rattle.std.specs.Prelude.{◌≡◌, Bool, not, cond, List, [], ◌∷◌, ◌++◌, ℕ, zero, suc, ◌+◌, ◌*◌, ◌<◌, ◌≤◌, eqb, ltb, leb, length, take, drop, Result, Ok, Err}
use Rattle.terms.specs.Term.{Term, Terms, nil, cons}
use Rattle.wire.specs.Map.{number, is_open}
use Rattle.wire.specs.Vocabulary.{Vocabulary, word, most_words}
use Rattle.wire.specs.TermBytes.{encode_at, encode_all, name_count, most_bytes}
use Rattle.texts.specs.Lexemes.{Lexeme, token_size, lexemes_from, token_at}
use Rattle.texts.specs.Names.{opening, comma, most_name}
use Rattle.texts.specs.Files.{most_text}
use Rattle.texts.specs.Faults.{Parsed, parsed, bad, parse_then, token, place, rest, long_name, term_due, unknown_word, other_kind, too_deep, too_long, variable_twice, many_variables}
use Rattle.texts.specs.PhraseReading.{Seen, TermRead, TermsRead, word_bytes, variable_why, parse_places, read_behind, read_variable, read_node, parse_term}
use Rattle.texts.specs.Tabled.{names_in, record_size, tabled_vocabulary}
use Rattle.faults.specs.declared.Fault.{Fault}
use Rattle.faults.specs.Reasons.{fault_of}
use Rattle.clauses.specs.declared.Reached.{Reached}
use Rattle.clauses.specs.declared.Head.{Head}
use Rattle.clauses.specs.declared.Head.TheVariants.{Leaf, Word}

pub record Within (b : List ℕ) (at n to seen : ℕ) : Type 0 where
  pub short : length b ≤ most_text
  pub inside : at ≤ length b
  pub words : n ≤ most_words
  pub room : to ≤ most_bytes
  pub few : seen ≤ name_count

pub record Lent (o v : List ℕ) : Type 0 where
  pub bytes : length o ≡ most_bytes
  pub variables : length v ≡ name_count

pub record Tables (q r : List ℕ) : Type 0 where
  pub names : length q ≡ most_words
  pub records : length r ≡ record_size * most_words

pub record Fits (b : List ℕ) (at : ℕ) (q : List ℕ) (n : ℕ) (r o : List ℕ) (to : ℕ) (v : List ℕ) (seen : ℕ) : Type 0 where
  pub within : Within b at n to seen
  pub lent : Lent o v
  pub tables : Tables q r

abbrev pub seen_at : List ℕ → List ℕ → ℕ → ℕ → Seen
seen_at b v seen to = record { variables = names_in b (take seen v); used = to }

abbrev pub Answer : Type 0
Answer = Result Reached Fault

abbrev pub Reads : {A : Type 0} → (A → List Lexeme → Reached → Type 0) → Parsed A → Answer → Type 0
Reads P (parsed a r) (Ok p) = P a r p
Reads P (parsed a r) (Err x) = ⊥
Reads P (bad f) (Ok p) = ⊥
Reads P (bad f) (Err x) = f ≡ fault_of x

abbrev pub place_flags : Terms → List Bool
place_flags nil = []
place_flags (cons t ts) = not (is_open t) ∷ place_flags ts

pub record ReadTo (b o : List ℕ) (to : ℕ) (o' v' : List ℕ) (s : Seen) (bytes : List ℕ) (fs : List Bool) (m : ℕ) (r : List Lexeme) (p : Reached) : Type 0 where
  pub behind : r ≡ lexemes_from b p.at
  pub inside : p.at ≤ length b
  pub room : p.to ≤ most_bytes
  pub few : p.seen ≤ name_count
  pub seen : s ≡ seen_at b v' p.seen p.to
  pub written : take p.to o' ≡ take to o ++ bytes
  pub map : p.map ≡ number fs
  pub count : length fs ≡ m
  pub lent : Lent o' v'

abbrev pub TermTo : Vocabulary → List ℕ → List ℕ → ℕ → List ℕ → List ℕ → TermRead → List Lexeme → Reached → Type 0
TermTo W b o to o' v' a r p =
    ReadTo b o to o' v' a.seen (encode_at W a.term) (place_flags (cons a.term nil)) 1 r p

abbrev pub TermsTo : Vocabulary → List ℕ → List ℕ → ℕ → List ℕ → List ℕ → ℕ → TermsRead → List Lexeme → Reached → Type 0
TermsTo W b o to o' v' m a r p =
    ReadTo b o to o' v' a.seen (encode_all W a.terms) (place_flags a.terms) m r p

pub record Front (b : List ℕ) (s : ℕ) (l : List Lexeme) : Type 0 where
  pub token : token l ≡ token_at b s
  pub place : place l ≡ s
  pub behind : rest l ≡ lexemes_from b (s + token_size (drop s b))
  pub inside : s + token_size (drop s b) ≤ length b

abbrev pub word_reason : Bool → ℕ → ℕ → ℕ → ℕ → ℕ → ℕ → ℕ
word_reason named f n kind left due to =
    cond named
    (cond (ltb f n)
    (cond (eqb kind due) (cond (eqb left 0) too_deep (cond (leb (to + word_bytes) most_bytes) 0 too_long)) other_kind)
    unknown_word)
    term_due

abbrev pub variable_reason : ℕ → ℕ → ℕ → ℕ → ℕ → ℕ
variable_reason size found seen left to =
    cond (leb size (suc most_name))
    (cond (ltb found seen) variable_twice
    (cond (eqb left 0) too_deep
    (cond (ltb seen name_count) (cond (leb (to + 1) most_bytes) 0 too_long) many_variables)))
    long_name

abbrev pub ReadsVariable : List ℕ → ℕ → ℕ → ℕ → List ℕ → ℕ → List ℕ → ℕ → List ℕ → List ℕ → Answer → Type 0
ReadsVariable b s left due o to v seen o' v' a =
    (W : Vocabulary) (l : List Lexeme) → Front b s l →
    Reads (TermTo W b o to o' v') (read_variable due (seen_at b v seen to) l (variable_why left (seen_at b v seen to) (token_at b s))) a

-- What reads the places of a word.
abbrev pub Below : Type 0
Below = ℕ → Seen → List Lexeme → Parsed TermRead

abbrev pub word_read : ℕ → TermsRead → List Lexeme → Parsed TermRead
word_read f ts r = parsed (record { term = Term.app f ts.terms; seen = ts.seen }) r

pub record WordAt (W : Vocabulary) (b : List ℕ) (n left to : ℕ) (v : List ℕ) (seen : ℕ) (node : Below → Parsed TermRead) (f e : ℕ) : Type 0 where
  pub some : 0 < left
  pub known : f < n
  pub fits : to + word_bytes ≤ most_bytes
  pub inside : e ≤ length b
  pub behind : (below : Below) →
      node below ≡ parse_then (read_behind below f (word W f).kinds (seen_at b v seen (to + word_bytes)) (lexemes_from b e)) (word_read f)

abbrev pub HeadIs : Vocabulary → List ℕ → ℕ → ℕ → List ℕ → ℕ → List ℕ → ℕ → List ℕ → List ℕ → (Below → Parsed TermRead) → Result Head Fault → Type 0
HeadIs W b n left o to v seen o' v' node (Ok (Leaf p)) = (below : Below) → Reads (TermTo W b o to o' v') (node below) (Ok p)
HeadIs W b n left o to v seen o' v' node (Ok (Word f e)) = (o' ≡ o) × (v' ≡ v) × WordAt W b n left to v seen node f e
HeadIs W b n left o to v seen o' v' node (Err x) = (below : Below) → Reads (TermTo W b o to o' v') (node below) (Err x)

abbrev pub HeadRead : List ℕ → ℕ → ℕ → ℕ → List ℕ → ℕ → List ℕ → List ℕ → ℕ → List ℕ → ℕ → List ℕ → List ℕ → Result Head Fault → Type 0
HeadRead b at left due q n r o to v seen o' v' h =
    (k : ℕ) →
    HeadIs (tabled_vocabulary k n r) b n left o to v seen o' v'
    (λ below. read_node below (names_in b (take n q)) (tabled_vocabulary k n r) left due (seen_at b v seen to) (lexemes_from b at)) h

abbrev pub read_from : Below → ℕ → ℕ → List ℕ → Seen → List Lexeme → Parsed TermsRead
read_from below f zero ks s l = read_behind below f ks s l
read_from below f (suc i) ks s l = parse_places below f comma ks s l

abbrev pub mark_before : ℕ → ℕ
mark_before zero = opening
mark_before (suc i) = comma

abbrev pub Closes : List ℕ → ℕ → ℕ → ℕ → ℕ → ℕ → Answer → Type 0
Closes b at i f to seen a =
    (W : Vocabulary) (below : Below) (o v : List ℕ) → Lent o v →
    Reads (TermsTo W b o to o v 0) (read_from below f i [] (seen_at b v seen to) (lexemes_from b at)) a

abbrev pub ReadsPlaces : List ℕ → ℕ → ℕ → ℕ → ℕ → List ℕ → ℕ → List ℕ → List ℕ → ℕ → List ℕ → ℕ → List ℕ → List ℕ → Answer → Type 0
ReadsPlaces b at left f i q n r o to v seen o' v' a =
    (k : ℕ) →
    let W : Vocabulary = tabled_vocabulary k n r in
    let ks : List ℕ = drop i (word W f).kinds in
    Reads (TermsTo W b o to o' v' (length ks))
    (read_from (parse_term (names_in b (take n q)) W left) f i ks (seen_at b v seen to) (lexemes_from b at)) a

abbrev pub ReadsTerm : List ℕ → ℕ → ℕ → ℕ → List ℕ → ℕ → List ℕ → List ℕ → ℕ → List ℕ → ℕ → List ℕ → List ℕ → Answer → Type 0
ReadsTerm b at left due q n r o to v seen o' v' a =
    (k : ℕ) →
    let W : Vocabulary = tabled_vocabulary k n r in
    Reads (TermTo W b o to o' v') (parse_term (names_in b (take n q)) W left due (seen_at b v seen to) (lexemes_from b at)) a

abbrev pub Small : ℕ → Answer → Type 0
Small bit (Ok p) = (bit ≤ 1) × (p.map ≤ 127)
Small bit (Err x) = Unit {0}

abbrev pub joined : ℕ → Answer → Answer
joined bit (Ok p) = Ok (record { at = p.at; to = p.to; seen = p.seen; map = bit + 2 * p.map })
joined bit (Err x) = Err x
