-- Laws: what is proved of texts.
--
--   tokens_of l              the tokens of the lexemes l
--   SpellingIsExact         the tokens of a text are those that it spells
--   Sayable X vs s t        t is a term of kind s in the words of X, with variables among vs: a pattern or an entry
--   TermsAreSpelled         a pattern or entry in words spells its tokens
--   PhrasesAreSpelled       .. and so does a good pattern
--   PhrasesRead             the tokens of a good pattern are read as that pattern
--   PhrasesExact            what is read is a good pattern, and its tokens are those that were read
--   Stops l                 no declaration goes on with the lexemes l, and no `kind` is among them
--   rows_from k X            the words of X as they are read, where the first kind of X has the number k
--   lexicon_read X           what is read of X
--   LexiconsRead            the tokens of a good vocabulary are read as that vocabulary
--   Closes l                the last of the lexemes l is empty, as that of a text is
--   LexiconsExact           what is read is a good vocabulary, and its tokens are those that were read
--   FirstFault Good l q     of the lexemes l the one at offset q is the first at fault
--   begins_label l           the lexemes l begin with a label
--   PhraseFirst X c us      the tokens us begin with a good pattern, which may have a label where c is true
--   PhraseFaultsAreFirst    a fault of a pattern is at the first byte at fault
--   BlocksAreAnswers        what is printed by bytes is what Answers says
--   entries_tokens X vs s l  the tokens of the entries l of kind s, where vs are the variables
--   BlocksSpellLeftovers    what is printed for a pattern spells its leftovers and nothing else
--   EntriesArePhrases       each leftover is a good pattern
--   FilesAreRead, FilesAreExact     a text is accepted exactly where it is a text of a file, and read as that file
--   VocabulariesAreRead     the vocabulary that is read is the one that the lexicon stands for
--   SaysTerms               the walk over the bytes of a pattern or entry says it in words
--   SaysPhrases             .. of a good pattern
--   FirstFaultIn Sound Good l q     as FirstFault, where less is asked of what begins with the tokens before the fault
--   SoundWord, SoundLexicon X       as GoodWord and GoodLexicon, without the limits on how many kinds, places and words there are
--   LexiconFirst Fine K us  the tokens us begin with a vocabulary that is Fine, whose kinds are K
--   names_behind us          the tokens behind each `kind` of us
--   may_be_named u, first_ones seen l     u may be the name of a kind; the tokens of l, each once, without those of `seen`
--   kinds_named us           the kinds that a text names: the first 16 different ones behind each `kind`
--   KindsAreGathered        these are the names of kinds that are gathered
--   KindNameFault K l q     the lexeme at offset q is the first at fault, and no name that a kind may have there
--   GoodBefore K us         something good begins with the tokens us, but for the last of them
--   LexiconFault K l q      the lexeme at offset q is the first at fault in a vocabulary, where K are the kinds that the text names
--   LexiconFaultsAreFirst   a fault of a vocabulary is at the first byte at fault; a kind, word or place too many where it stands
--   LexiconsAreSpelled      a vocabulary in words spells its tokens
--   LexiconIsOne            two good vocabularies with the same tokens are one
--   TextIsOne               a text is a text of one file alone
--   PrintedAlike            two good patterns that are printed alike are one
--   EntriesPrintedAlike     .. and so are two leftovers of one pattern
--   NamesAreNoWords         no variable is a word, a kind or a label
--   leftovers_tokens X ps ls     the tokens of all leftovers of the patterns ps, one behind the other
--   ListingsFit X ps ls     each list of leftovers is short enough to be printed
--   TogetherSpellsLeftovers     what is printed of patterns together spells their leftovers and nothing else
--   NotesAreComments        what is said of kinds without complete situations spells nothing
--   DeskSpellsLeftovers     the whole answer spells the leftovers of each pattern, and then what its tail spells
--   Ascending l             the offsets of the lexemes l rise
--   QuestionsRead           the tokens of a good question are read as that question
--   QuestionsExact          what is read is a good question, and its tokens are those that were read
--   QuestionBegun, QuestionFirst    the tokens begin with a question, which may have something open, or with a good one
--   QuestionFault X p l q   the lexeme at offset q is the first at fault, and nothing open stands before it
--   QuestionFaultsAreFirst  a fault of a question is at the first byte at fault
--   bare_kinds us            kinds of the names us, without words
--   ReadBefore l X qs r     a good vocabulary X and good paragraphs qs are read off l, and r is left
--   AskedBefore l X p gs r  a good pattern p and good questions about gs are read off l, and r is left
--   FileFault l q           the lexeme at offset q is the first at fault in a text, and all that stands before what it stands in is good
--   FileFaultsAreFirst      a text is refused at the first byte at fault
--   VerdictsAreMatches      the answer to a question is document 01's match
--   WalksAreComparisons     by tokens, a pattern and a situation are compared as by terms
--   SituationsEnd           where the tokens of a situation end
--
use Rattle.std.specs.Prelude.{◌≡◌, Bool, true, false, ◌&&◌, cond, List, [], ◌∷◌, ◌++◌, map, ◌⊎◌, ◌↔◌, ℕ, suc, ◌<◌, ◌≤◌, ltb, leb, length, take, drop}
use Rattle.terms.specs.Lists.{All, Reordered, keep}
use Rattle.terms.specs.Term.{Term, Ground, Sorted, names}
use Rattle.terms.specs.Filling.{Binding, Filling, TurnsInto}
use Rattle.terms.specs.Book.{IsBookListing}
use Rattle.terms.specs.Listing.{IsListing}
use Rattle.wire.specs.Vocabulary.{most_kinds, signature, encode_vocabulary}
use Rattle.wire.specs.TermBytes.{name_count, most_levels, levels, encode_term, HoldsTerm}
use Rattle.wire.specs.BookBytes.{patterns_bytes, Listable}
use Rattle.wire.specs.BookLeftovers.{WithinLimits}
use Rattle.wire.specs.Printing.{listing_space}
use Rattle.texts.specs.Lexemes.{Token, Lexeme, asking, tokens, lexemes}
use Rattle.texts.specs.Names.{same, kind_word, mark, opening, bar, equals, colon, most_name, is_identifier, IsIdentifier, IsVariable, index_in, name_at, Distinct}
use Rattle.texts.specs.Spelling.{IsToken, Spells}
use Rattle.texts.specs.Lexicon.{WordText, KindText, Lexicon, kind_names, all_words, word_names, vocabulary_of, kinds_tokens, lexicon_tokens, lexicon_text, GoodLexicon}
use Rattle.texts.specs.Phrases.{Phrase, IsLabel, label_tokens, term_tokens, phrase_tokens, phrase_text, GoodPhrase, whole_tokens, GoodWhole}
use Rattle.texts.specs.Saying.{Tables, TablesFor, say_phrase}
use Rattle.texts.specs.Questions.{ground_tokens, question_tokens, questions_tokens, GoodQuestion}
use Rattle.texts.specs.Files.{most_text, Paragraph, File, phrases_of, paragraphs_tokens, GoodParagraph, IsText}
use Rattle.texts.specs.Faults.{Fault, parsed, bad, token, rest}
use Rattle.texts.specs.Complaints.{Known}
use Rattle.texts.specs.Verdicts.{covers, compare}
use Rattle.texts.specs.Notes.{IsNote}
use Rattle.texts.specs.Together.{together_text}
use Rattle.texts.specs.Answers.{block_text, desk_text, AreListings}
use Rattle.texts.specs.LexiconReading.{names_from, WordRow, LexiconRead, read_lexicon}
use Rattle.texts.specs.PhraseReading.{PhraseRead, read_phrase}
use Rattle.texts.specs.QuestionReading.{is_open, begins_question, read_question, read_questions}
use Rattle.texts.specs.Comparing.{term_size, walk, as_walked}
use Rattle.texts.specs.Answering.{block_by, read_well, read_ill, read_paragraphs, vocabulary_read, read_file}

abbrev pub SpellingIsExact : Type 0
SpellingIsExact = (b : List ℕ) (us : List Token) → (tokens b ≡ us ++ ([] ∷ [])) ↔ Spells b us

-- A variable may stand at any number of places, or at none.
pub record Sayable (X : Lexicon) (vs : List Token) (s : ℕ) (t : Term) : Type 0 where
  pub kind : s < length X
  pub sorted : Sorted (signature (vocabulary_of X)) t s
  pub levels : levels t ≤ most_levels
  pub named : All (λ n. (n < length vs) × (n < name_count)) (names t)
  pub variables : All IsVariable vs

abbrev pub TermsAreSpelled : Type 0
TermsAreSpelled =
    (X : Lexicon) (vs : List Token) (s : ℕ) (t : Term) → GoodLexicon X → Sayable X vs s t →
    Spells (phrase_text X vs s t) (phrase_tokens X vs s t)

abbrev pub PhrasesAreSpelled : Type 0
PhrasesAreSpelled =
    (X : Lexicon) (vs : List Token) (s : ℕ) (t : Term) → GoodLexicon X → GoodPhrase X vs s t →
    Spells (phrase_text X vs s t) (phrase_tokens X vs s t)

abbrev pub tokens_of : List Lexeme → List Token
tokens_of l = map (λ (x : Lexeme). x.token) l

-- The lexemes behind the pattern are those behind so many tokens; a colon directly behind it would make a label of what was read.
abbrev pub PhrasesRead : Type 0
PhrasesRead =
    (X : Lexicon) (u : Token) (vs : List Token) (s : ℕ) (t : Term) (l r : List Lexeme) → GoodLexicon X → IsLabel u →
    GoodPhrase X vs s t → tokens_of l ≡ label_tokens u ++ (phrase_tokens X vs s t ++ tokens_of r) →
    same (token r) (mark colon) ≡ false →
    read_phrase (kind_names X) (word_names X) (vocabulary_of X) l ≡
    parsed (record { label = u; kind = s; term = t; variables = vs }) (drop (length (label_tokens u ++ phrase_tokens X vs s t)) l)

abbrev pub PhrasesExact : Type 0
PhrasesExact =
    (X : Lexicon) (l r : List Lexeme) (p : PhraseRead) → GoodLexicon X →
    All (λ (x : Lexeme). (x.token ≡ []) ⊎ IsToken x.token) l →
    read_phrase (kind_names X) (word_names X) (vocabulary_of X) l ≡ parsed p r →
    IsLabel p.label × GoodPhrase X p.variables p.kind p.term ×
    (tokens_of l ≡ label_tokens p.label ++ (phrase_tokens X p.variables p.kind p.term ++ tokens_of r))

abbrev pub SaysTerms : Type 0
SaysTerms =
    (X : Lexicon) (vs : List Token) (s : ℕ) (t : Term) (T : Tables) → GoodLexicon X → Sayable X vs s t → TablesFor X vs T →
    say_phrase T (encode_term (vocabulary_of X) s t) ≡ phrase_text X vs s t

abbrev pub SaysPhrases : Type 0
SaysPhrases =
    (X : Lexicon) (vs : List Token) (s : ℕ) (t : Term) (T : Tables) → GoodLexicon X → GoodPhrase X vs s t → TablesFor X vs T →
    say_phrase T (encode_term (vocabulary_of X) s t) ≡ phrase_text X vs s t

abbrev pub rows_from : ℕ → Lexicon → List WordRow
rows_from k [] = []
rows_from k (x ∷ X) = map (λ (w : WordText). record { kind = k; places = w.places }) x.words ++ rows_from (suc k) X

abbrev pub lexicon_read : Lexicon → LexiconRead
lexicon_read X = record { kind_names = kind_names X; word_names = word_names X; rows = rows_from 0 X }

-- No mark of declarations stands there, and no `kind` there or later.
pub record Stops (l : List Lexeme) : Type 0 where
  pub no_kind : All (λ (x : Lexeme). same x.token kind_word ≡ false) l
  pub no_equals : same (token l) (mark equals) ≡ false
  pub no_bar : same (token l) (mark bar) ≡ false
  pub no_opening : same (token l) (mark opening) ≡ false

abbrev pub LexiconsRead : Type 0
LexiconsRead =
    (X : Lexicon) (l r : List Lexeme) → GoodLexicon X → tokens_of l ≡ lexicon_tokens X ++ tokens_of r → Stops r →
    read_lexicon l ≡ parsed (lexicon_read X) (drop (length (lexicon_tokens X)) l)

abbrev pub Closes : List Lexeme → Type 0
Closes [] = ⊥
Closes (x ∷ []) = x.token ≡ []
Closes (x ∷ y ∷ l) = Closes (y ∷ l)

-- A `kind` behind the first pattern is found when the patterns are read.
abbrev pub LexiconsExact : Type 0
LexiconsExact =
    (l r : List Lexeme) (a : LexiconRead) → All (λ (x : Lexeme). (x.token ≡ []) ⊎ IsToken x.token) l → Closes l →
    read_lexicon l ≡ parsed a r → All (λ (x : Lexeme). same x.token kind_word ≡ false) r →
    (X : Lexicon) × GoodLexicon X × (a ≡ lexicon_read X) × (tokens_of l ≡ lexicon_tokens X ++ tokens_of r)

-- ---- where a fault is

-- Of the lexemes l the one at offset q is the first at fault: something good begins with the tokens before it, and nothing good with
-- these and its own.
pub record FirstFault (Good : List Token → Type 0) (l : List Lexeme) (q : ℕ) : Type 0 where
  pub before : List Lexeme
  pub here : Lexeme
  pub behind : List Lexeme
  pub all : l ≡ before ++ (here ∷ behind)
  pub place : here.at ≡ q
  pub so_far : (more : List Token) × Good (tokens_of before ++ more)
  pub no_further : (more : List Token) → Good (tokens_of before ++ (here.token ∷ more)) → ⊥

-- A name is a label where a colon stands behind it, and a word where none does.
abbrev pub begins_label : List Lexeme → Bool
begins_label l = is_identifier (token l) && same (token (rest l)) (mark colon)

-- The tokens us are those of a good pattern, and others behind it; a colon there would make a label of what stands before it.
-- The pattern has a label only where c is true.
pub record PhraseFirst (X : Lexicon) (c : Bool) (us : List Token) : Type 0 where
  pub phrase : Phrase
  pub rest : List Token
  pub good : GoodWhole X phrase
  pub tokens : us ≡ whole_tokens X phrase ++ rest
  pub no_colon : same (name_at rest 0) (mark colon) ≡ false
  pub label : (phrase.label ≡ []) ⊎ (c ≡ true)

-- A text ends with an empty lexeme e, behind which nothing is read. A first name without a colon behind it is read as a word, so that
-- `foo`, which is none, is at fault there, although `foo: up` would be good.
abbrev pub PhraseFaultsAreFirst : Type 0
PhraseFaultsAreFirst =
    (X : Lexicon) (l : List Lexeme) (e : Lexeme) (x : Fault) → GoodLexicon X →
    All (λ (y : Lexeme). IsToken y.token) l → e.token ≡ [] →
    read_phrase (kind_names X) (word_names X) (vocabulary_of X) (l ++ (e ∷ [])) ≡ bad x →
    FirstFault (PhraseFirst X (begins_label (l ++ (e ∷ [])))) (l ++ (e ∷ [])) x.at

-- ---- the answer

-- What is printed by the bytes of a pattern and of its leftovers is what Answers says.
abbrev pub BlocksAreAnswers : Type 0
BlocksAreAnswers =
    (X : Lexicon) (p : Phrase) (T : Tables) (l : List Term) → GoodLexicon X → GoodWhole X p → TablesFor X p.variables T →
    IsListing (signature (vocabulary_of X)) p.kind p.term l →
    block_by T p.label (encode_vocabulary (vocabulary_of X)) (encode_term (vocabulary_of X) p.kind p.term) ≡ block_text X p l

-- The tokens of the entries l, one behind the other.
abbrev pub entries_tokens : Lexicon → List Token → ℕ → List Term → List Token
entries_tokens X vs s [] = []
entries_tokens X vs s (e ∷ l) = phrase_tokens X vs s e ++ entries_tokens X vs s l

-- What is printed for a pattern, read as a text, is its leftovers and nothing else ..
abbrev pub BlocksSpellLeftovers : Type 0
BlocksSpellLeftovers =
    (X : Lexicon) (p : Phrase) (l : List Term) → GoodLexicon X → GoodWhole X p →
    IsListing (signature (vocabulary_of X)) p.kind p.term l →
    length (patterns_bytes (vocabulary_of X) p.kind l) ≤ listing_space → Spells (block_text X p l) (entries_tokens X p.variables p.kind l)

-- .. and each line is a good pattern, whose variables are the first n of the pattern's: by PhrasesRead it is read as that entry.
abbrev pub EntriesArePhrases : Type 0
EntriesArePhrases =
    (X : Lexicon) (p : Phrase) (l : List Term) → GoodLexicon X → GoodWhole X p →
    IsListing (signature (vocabulary_of X)) p.kind p.term l →
    All
    (λ (e : Term).
    (n : ℕ) × GoodPhrase X (take n p.variables) p.kind e ×
    (phrase_tokens X p.variables p.kind e ≡ phrase_tokens X (take n p.variables) p.kind e)) l

-- ---- the text as a whole

-- A text is accepted exactly where it is a text of a file: white space and comments change nothing, as IsText speaks of what is spelled.
abbrev pub FilesAreRead : Type 0
FilesAreRead = (b : List ℕ) (F : File) → IsText b F → read_file b ≡ read_well (lexicon_read F.lexicon) F.paragraphs

abbrev pub FilesAreExact : Type 0
FilesAreExact =
    (b : List ℕ) (a : LexiconRead) (qs : List Paragraph) → read_file b ≡ read_well a qs →
    (F : File) × IsText b F × (a ≡ lexicon_read F.lexicon) × (qs ≡ F.paragraphs)

abbrev pub VocabulariesAreRead : Type 0
VocabulariesAreRead = (X : Lexicon) → GoodLexicon X → vocabulary_read (lexicon_read X) ≡ vocabulary_of X

-- ---- where a fault of a vocabulary is

-- Something sound begins with the tokens before the lexeme at offset q, and nothing good with these and its own.
pub record FirstFaultIn (Sound Good : List Token → Type 0) (l : List Lexeme) (q : ℕ) : Type 0 where
  pub before : List Lexeme
  pub here : Lexeme
  pub behind : List Lexeme
  pub all : l ≡ before ++ (here ∷ behind)
  pub place : here.at ≡ q
  pub so_far : (more : List Token) × Sound (tokens_of before ++ more)
  pub no_further : (more : List Token) → Good (tokens_of before ++ (here.token ∷ more)) → ⊥

-- A kind, a place or a word too many is refused where it stands, although nothing good could follow the `kind`, the , or the | before it.
-- So the numbers of kinds, places and words are no part of what is sound.
pub record SoundWord (kinds : ℕ) (w : WordText) : Type 0 where
  pub name : IsIdentifier w.name
  pub places : All (λ k. k < kinds) w.places

pub record SoundLexicon (X : Lexicon) : Type 0 where
  pub kinds : All (λ (x : KindText). IsIdentifier x.name) X
  pub different_kinds : Distinct (kind_names X)
  pub some_kind : 1 ≤ length X
  pub words : All (SoundWord (length X)) (all_words X)
  pub different_words : Distinct (word_names X)
  pub some_word : 1 ≤ length (all_words X)

-- The tokens us are those of a vocabulary, and others behind it with which no declaration goes on. Its kinds are K, or any where K is
-- empty.
pub record LexiconFirst (Fine : Lexicon → Type 0) (K us : List Token) : Type 0 where
  pub lexicon : Lexicon
  pub rest : List Token
  pub fine : Fine lexicon
  pub kinds : (K ≡ []) ⊎ (kind_names lexicon ≡ K)
  pub tokens : us ≡ lexicon_tokens lexicon ++ rest
  pub no_kind : same (name_at rest 0) kind_word ≡ false
  pub no_equals : same (name_at rest 0) (mark equals) ≡ false
  pub no_bar : same (name_at rest 0) (mark bar) ≡ false
  pub no_opening : same (name_at rest 0) (mark opening) ≡ false

abbrev pub names_behind : List Token → List Token
names_behind [] = []
names_behind (u ∷ us) = cond (same u kind_word) (name_at us 0 ∷ names_behind us) (names_behind us)

-- The token u may be the name of a kind.
abbrev pub may_be_named : Token → Bool
may_be_named u = is_identifier u && leb (length u) most_name

-- The tokens of l in their order, each where it stands first, without those of `seen`.
abbrev pub first_ones : List Token → List Token → List Token
first_ones seen [] = []
first_ones seen (u ∷ l) = cond (ltb (index_in u seen) (length seen)) (first_ones seen l) (u ∷ first_ones (seen ++ (u ∷ [])) l)

-- The kinds that a text names, as they may be used before they are declared: of the tokens behind each `kind` that may be names of kinds
-- the first 16 different ones.
abbrev pub kinds_named : List Token → List Token
kinds_named us = take most_kinds (first_ones [] (keep may_be_named (names_behind us)))

abbrev pub KindsAreGathered : Type 0
KindsAreGathered = (us : List Token) → names_from [] us ≡ kinds_named us

-- The last token before the lexeme at offset q is `kind`. Something good whose kinds are K begins with the tokens before that, and
-- something sound with `kind` behind them. The lexeme's own token may not follow the names of kinds among them: it is no name, too long,
-- one of them, or one too many.
pub record KindNameFault (K : List Token) (l : List Lexeme) (q : ℕ) : Type 0 where
  pub before : List Lexeme
  pub here : Lexeme
  pub behind : List Lexeme
  pub all : l ≡ before ++ (here ∷ behind)
  pub place : here.at ≡ q
  pub declared : List Token
  pub due : tokens_of before ≡ declared ++ (kind_word ∷ [])
  pub so_far : (more : List Token) × LexiconFirst GoodLexicon K (declared ++ more)
  pub another : (more : List Token) × LexiconFirst SoundLexicon [] (declared ++ (kind_word ∷ more))
  pub wrong : (is_identifier here.token ≡ false) ⊎
      ((most_name < length here.token) ⊎
      ((index_in here.token (names_behind declared) < length (names_behind declared)) ⊎ (length (names_behind declared) ≡ most_kinds)))

-- Something good whose kinds are K begins with the tokens us, but for the last of them: so no limit is passed among them.
pub record GoodBefore (K us : List Token) : Type 0 where
  pub init : List Token
  pub last : List Token
  pub tokens : us ≡ init ++ last
  pub one : length last ≤ 1
  pub good : (more : List Token) × LexiconFirst GoodLexicon K (init ++ more)

-- Something sound whose kinds are K begins with the tokens before the fault, and something good but for the last of them. A name that is
-- none of K is at fault where a place's kind is due, as nothing good with these kinds goes on so; elsewhere nothing good at all does.
pub data LexiconFault (K : List Token) (l : List Lexeme) (q : ℕ) : Type 0 where
  in_name : KindNameFault K l q → LexiconFault K l q
  in_place : (f : FirstFaultIn (LexiconFirst SoundLexicon K) (LexiconFirst GoodLexicon K) l q) → GoodBefore K (tokens_of f.before) →
      is_identifier f.here.token ≡ true → index_in f.here.token K ≡ length K → LexiconFault K l q
  in_rest : (f : FirstFaultIn (LexiconFirst SoundLexicon K) (LexiconFirst GoodLexicon []) l q) → GoodBefore K (tokens_of f.before) →
      LexiconFault K l q

abbrev pub LexiconFaultsAreFirst : Type 0
LexiconFaultsAreFirst =
    (l : List Lexeme) (e : Lexeme) (x : Fault) → All (λ (y : Lexeme). IsToken y.token) l → e.token ≡ [] →
    read_lexicon (l ++ (e ∷ [])) ≡ bad x → LexiconFault (kinds_named (tokens_of (l ++ (e ∷ [])))) (l ++ (e ∷ [])) x.at

-- ---- what fixes what

-- A line a kind, as it is written by hand.
abbrev pub LexiconsAreSpelled : Type 0
LexiconsAreSpelled = (X : Lexicon) → GoodLexicon X → Spells (lexicon_text X) (lexicon_tokens X)

abbrev pub LexiconIsOne : Type 0
LexiconIsOne = (X Y : Lexicon) → GoodLexicon X → GoodLexicon Y → lexicon_tokens X ≡ lexicon_tokens Y → X ≡ Y

abbrev pub TextIsOne : Type 0
TextIsOne = (b : List ℕ) (F G : File) → IsText b F → IsText b G → F ≡ G

abbrev pub PrintedAlike : Type 0
PrintedAlike =
    (X : Lexicon) (vs ws : List Token) (s r : ℕ) (t u : Term) → GoodLexicon X → GoodPhrase X vs s t → GoodPhrase X ws r u →
    phrase_text X vs s t ≡ phrase_text X ws r u → (t ≡ u) × (vs ≡ ws) × (s ≡ r)

-- .. also where the pattern has variables that one of them has not.
abbrev pub EntriesPrintedAlike : Type 0
EntriesPrintedAlike =
    (X : Lexicon) (p : Phrase) (l : List Term) → GoodLexicon X → GoodWhole X p →
    IsListing (signature (vocabulary_of X)) p.kind p.term l →
    All
    (λ (e : Term).
    All (λ (f : Term). phrase_text X p.variables p.kind e ≡ phrase_text X p.variables p.kind f → e ≡ f) l) l

abbrev pub NamesAreNoWords : Type 0
NamesAreNoWords = (u : Token) → IsIdentifier u → IsVariable u → ⊥

-- ---- the whole answer

abbrev pub leftovers_tokens : Lexicon → List Phrase → List (List Term) → List Token
leftovers_tokens X [] ls = []
leftovers_tokens X (p ∷ ps) [] = []
leftovers_tokens X (p ∷ ps) (l ∷ ls) = entries_tokens X p.variables p.kind l ++ leftovers_tokens X ps ls

abbrev pub ListingsFit : Lexicon → List Phrase → List (List Term) → Type 0
ListingsFit X [] ls = Unit {0}
ListingsFit X (p ∷ ps) [] = Unit {0}
ListingsFit X (p ∷ ps) (l ∷ ls) = (length (patterns_bytes (vocabulary_of X) p.kind l) ≤ listing_space) × ListingsFit X ps ls

-- What is printed of patterns together, read as a text, is their leftovers and nothing else.
abbrev pub TogetherSpellsLeftovers : Type 0
TogetherSpellsLeftovers =
    (X : Lexicon) (s : ℕ) (ts es l : List Term) → GoodLexicon X → s < length X → All (Listable (vocabulary_of X) s) ts →
    WithinLimits (vocabulary_of X) s ts → IsBookListing (signature (vocabulary_of X)) s ts l → Reordered es l →
    Spells (together_text X s (length ts) es) (entries_tokens X [] s es)

-- What is said of a kind that no complete situation has is a comment.
abbrev pub NotesAreComments : Type 0
NotesAreComments = (X : Lexicon) (s : ℕ) (text : List ℕ) → GoodLexicon X → IsNote X s text → Spells text []

-- Read as a text, the answer is the leftovers of the first pattern, then those of the second, and so on, and then what `tail` spells.
-- What is asked, and the answers, are comments.
abbrev pub DeskSpellsLeftovers : Type 0
DeskSpellsLeftovers =
    (F : File) (ls : List (List Term)) (tail : List ℕ) (us : List Token) → GoodLexicon F.lexicon →
    All (GoodParagraph F.lexicon) F.paragraphs → AreListings F.lexicon (phrases_of F.paragraphs) ls →
    ListingsFit F.lexicon (phrases_of F.paragraphs) ls → Spells tail us →
    Spells (desk_text F ls tail) (leftovers_tokens F.lexicon (phrases_of F.paragraphs) ls ++ us)

-- ---- questions

-- Offsets rise, as those of a text do.
abbrev pub Ascending : List Lexeme → Type 0
Ascending [] = Unit {0}
Ascending (x ∷ []) = Unit {0}
Ascending (x ∷ y ∷ l) = (x.at < y.at) × Ascending (y ∷ l)

abbrev pub QuestionsRead : Type 0
QuestionsRead =
    (X : Lexicon) (p : Phrase) (g : Ground) (l r : List Lexeme) → GoodLexicon X → GoodQuestion X p g →
    tokens_of l ≡ question_tokens X p g ++ tokens_of r →
    read_question (word_names X) (vocabulary_of X) p l ≡ parsed g (drop (length (question_tokens X p g)) l)

abbrev pub QuestionsExact : Type 0
QuestionsExact =
    (X : Lexicon) (p : Phrase) (g : Ground) (l r : List Lexeme) → GoodLexicon X → GoodWhole X p →
    All (λ (x : Lexeme). (x.token ≡ []) ⊎ IsToken x.token) l → Closes l → Ascending l → begins_question l ≡ true →
    read_question (word_names X) (vocabulary_of X) p l ≡ parsed g r →
    GoodQuestion X p g × (tokens_of l ≡ question_tokens X p g ++ tokens_of r)

-- The tokens us are those of a question about a pattern of kind k, which may have open places and variables, and others behind it.
pub record QuestionBegun (X : Lexicon) (k : ℕ) (us : List Token) : Type 0 where
  pub label : Token
  pub term : Term
  pub variables : List Token
  pub rest : List Token
  pub named : IsIdentifier label
  pub good : HoldsTerm (vocabulary_of X) (encode_term (vocabulary_of X) k term) k term
  pub tokens : us ≡ label ∷ mark asking ∷ (term_tokens (word_names X) variables term ++ rest)

-- The tokens us are those of a good question, and others behind it.
pub record QuestionFirst (X : Lexicon) (p : Phrase) (us : List Token) : Type 0 where
  pub situation : Ground
  pub rest : List Token
  pub good : GoodQuestion X p situation
  pub tokens : us ≡ question_tokens X p situation ++ rest

-- Where a kind has no situation none begins with its words, so a pattern is enough before the fault; but nothing open stands there, and
-- another label than the pattern's is itself at fault.
pub record QuestionFault (X : Lexicon) (p : Phrase) (l : List Lexeme) (q : ℕ) : Type 0 where
  pub first : FirstFaultIn (QuestionBegun X p.kind) (QuestionFirst X p) l q
  pub closed : All (λ (x : Lexeme). is_open x.token ≡ false) first.before
  pub asked : (first.before ≡ []) ⊎ (token l ≡ p.label)

abbrev pub QuestionFaultsAreFirst : Type 0
QuestionFaultsAreFirst =
    (X : Lexicon) (p : Phrase) (l : List Lexeme) (e : Lexeme) (x : Fault) → GoodLexicon X → GoodWhole X p →
    All (λ (y : Lexeme). IsToken y.token) l → e.token ≡ [] → Ascending (l ++ (e ∷ [])) → begins_question (l ++ (e ∷ [])) ≡ true →
    read_question (word_names X) (vocabulary_of X) p (l ++ (e ∷ [])) ≡ bad x → QuestionFault X p (l ++ (e ∷ [])) x.at

-- The answer is yes exactly where the situation fits, and what the variables cover is what the filling gives them.
abbrev pub VerdictsAreMatches : Type 0
VerdictsAreMatches =
    (X : Lexicon) (p : Phrase) (g : Ground) → GoodLexicon X → GoodWhole X p → GoodQuestion X p g → (bs : List Binding) →
    (compare (word_names X) p.term g ≡ covers bs) ↔
    ((f : Filling) × TurnsInto (signature (vocabulary_of X)) p.term p.kind f g × (f.named ≡ bs))

-- By tokens, the walk finds what `compare` finds. R is what stands behind the pattern.
abbrev pub WalksAreComparisons : Type 0
WalksAreComparisons =
    (X : Lexicon) (p : Phrase) (g : Ground) (R : List Token) → GoodLexicon X → GoodWhole X p → GoodQuestion X p g →
    let us : List Token = ground_tokens (word_names X) g in
    walk (length us) (term_tokens (word_names X) p.variables p.term ++ R) us ≡
    as_walked (word_names X) p.variables (compare (word_names X) p.term g)

-- The first term of a situation's tokens is all of them, and what follows does not matter where it is no (.
abbrev pub SituationsEnd : Type 0
SituationsEnd =
    (X : Lexicon) (p : Phrase) (g : Ground) (R : List Token) → GoodLexicon X → GoodQuestion X p g →
    same (name_at R 0) (mark opening) ≡ false →
    term_size (ground_tokens (word_names X) g ++ R) ≡ length (ground_tokens (word_names X) g)

-- ---- the place of a fault in the text as a whole

abbrev pub bare_kinds : List Token → Lexicon
bare_kinds us = map (λ (u : Token). record { name = u; words = [] }) us

-- The vocabulary X and the paragraphs qs are read off the lexemes l, and r is left: all of it is good, and its tokens are those before r.
-- A `kind` behind the first pattern is itself at fault, but something before it may be at fault first. As the names of the kinds are
-- gathered from the whole text, its kind is one of X then, without words; where no `kind` stands there, `declared` is X.
pub record ReadBefore (l : List Lexeme) (X : Lexicon) (qs : List Paragraph) (r : List Lexeme) : Type 0 where
  pub declared : Lexicon
  pub late : List Token
  pub whole : X ≡ declared ++ bare_kinds late
  pub kinds : kind_names X ≡ kinds_named (tokens_of l)
  pub lexicon : GoodLexicon X
  pub paragraphs : All (GoodParagraph X) qs
  pub before : List Lexeme
  pub all : l ≡ before ++ r
  pub tokens : tokens_of before ≡ kinds_tokens (kind_names X) declared ++ paragraphs_tokens X qs
  pub behind : List Lexeme
  pub read_first : read_lexicon l ≡ parsed (lexicon_read X) behind
  pub read_then : read_paragraphs (kind_names X) (word_names X) (vocabulary_of X) (length qs) behind ≡ parsed qs r

-- The pattern p and questions about the situations gs are read off the lexemes l, and r is left.
pub record AskedBefore (l : List Lexeme) (X : Lexicon) (p : Phrase) (gs : List Ground) (r : List Lexeme) : Type 0 where
  pub phrase : GoodWhole X p
  pub questions : All (GoodQuestion X p) gs
  pub before : List Lexeme
  pub all : l ≡ before ++ r
  pub tokens : tokens_of before ≡ whole_tokens X p ++ questions_tokens X p gs
  pub behind : List Lexeme
  pub read_first : read_phrase (kind_names X) (word_names X) (vocabulary_of X) l ≡ parsed p behind
  pub read_then : read_questions (word_names X) (vocabulary_of X) p (length gs) behind ≡ parsed gs r

-- Of the lexemes l of a text the one at offset q is the first at fault: all vocabulary, patterns and questions before the one in which
-- it stands are good, and it is the first at fault in that one. Which one that is, is fixed by what the readers make of what stands before it.
pub data FileFault (l : List Lexeme) (q : ℕ) : Type 0 where
  in_lexicon : (x : Fault) → read_lexicon l ≡ bad x → LexiconFault (kinds_named (tokens_of l)) l q → FileFault l q
  in_phrase : (X : Lexicon) (qs : List Paragraph) (r : List Lexeme) → ReadBefore l X qs r → 1 ≤ length (token r) →
      FirstFault (PhraseFirst X (begins_label r)) r q → FileFault l q
  in_question : (X : Lexicon) (qs : List Paragraph) (m : List Lexeme) (p : Phrase) (gs : List Ground) (r : List Lexeme) →
      ReadBefore l X qs m → AskedBefore m X p gs r → begins_question r ≡ true → QuestionFault X p r q → FileFault l q

-- A text that is not too long is refused at the first byte at fault.
abbrev pub FileFaultsAreFirst : Type 0
FileFaultsAreFirst = (b : List ℕ) (x : Fault) (T : Known) → length b ≤ most_text → read_file b ≡ read_ill x T → FileFault (lexemes b) x.at
