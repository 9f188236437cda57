-- Unique: tokens fix the vocabulary, a text its file, and what is printed of a pattern that pattern.
--
--   row_of k w              the row of a word of kind k
--   rows_of, rows_above    the rows of kind k, and of later kinds, have no smaller number
--   no_row                 so that none of a later kind is one of kind k
--   cons-one               lists that are equal, entry by entry
--   Words, words-one       where the rows of one kind end, those of later kinds begin
--   kinds-one, read_one    what is read of a vocabulary fixes it
--   parsed-one, well-one      what is parsed, or read, is one thing
--   printed-read           what is printed of a pattern is read as that pattern
--   lexicon_is_one, text_is_one, printed-alike, entries_printed_alike, names_are_no_words     the laws
--
use mathlib.Core.Path.{◌≡◌, refl, sym, ap, ap₂, subst, ◌∙◌}
use mathlib.Core.Bool.{true≢false}
use mathlib.Core.List.{List, [], ◌∷◌, ◌++◌, map, append-nil}
use mathlib.Core.Logic.{inl}
use Prim.Native.Nat.{ℕ, suc, ◌≤◌}
use native.Mathlib.Omega.{arith}
use lib.ListN.{take}
use Rattle.terms.specs.Lists.{All}
use Rattle.terms.specs.Term.{Term}
use Rattle.terms.proofs.All.{all_append, all_implies}
use Rattle.texts.specs.Lexemes.{Token, Lexeme, lexemes, tokens}
use Rattle.texts.specs.Lexicon.{WordText, KindText, Lexicon, kind_names, all_words, word_names, vocabulary_of, lexicon_tokens, GoodLexicon}
use Rattle.texts.specs.Phrases.{Phrase, phrase_tokens, phrase_text, spell, GoodPhrase}
use Rattle.texts.specs.Files.{Paragraph, File}
use Rattle.texts.specs.Faults.{Parsed, parsed, bad}
use Rattle.texts.specs.LexiconReading.{WordRow, LexiconRead}
use Rattle.texts.specs.PhraseReading.{read_phrase}
use Rattle.texts.specs.Answering.{read_well}
use Rattle.texts.specs.Laws.{tokens_of, rows_from, lexicon_read, Stops, LexiconIsOne, TextIsOne, PrintedAlike, EntriesPrintedAlike, NamesAreNoWords}
use Rattle.texts.proofs.Spelling.{spelling_is_exact}
use Rattle.texts.proofs.Telling.{not_variable}
use Rattle.texts.proofs.Spelt.{phrases_are_spelled}
use Rattle.texts.proofs.LexiconsRead.{lexicons_read}
use Rattle.texts.proofs.PhrasesRead.{phrases_read}
use Rattle.texts.proofs.Locality.{as_lexemes, as_tokens}
use Rattle.texts.proofs.FilesRead.{files_are_read}
use Rattle.texts.proofs.EntryPhrases.{entries_are_phrases}

-- ---- vocabularies

abbrev row_of : ℕ → WordText → WordRow
row_of k w = record { kind = k; places = w.places }

rows_of : (k : ℕ) (ws : List WordText) → All (λ (x : WordRow). k ≤ x.kind) (map (row_of k) ws)
rows_of k [] = tt
rows_of k (w ∷ ws) = (omega arith, rows_of k ws)

rows_above : (k : ℕ) (X : Lexicon) → All (λ (x : WordRow). k ≤ x.kind) (rows_from k X)
rows_above k [] = tt
rows_above k (x ∷ X) =
    all_append (λ (y : WordRow). k ≤ y.kind) (map (row_of k) x.words) (rows_from (suc k) X) (rows_of k x.words)
    (all_implies (λ (y : WordRow). suc k ≤ y.kind) (λ (y : WordRow). k ≤ y.kind) (λ y h. omega arith) (rows_from (suc k) X) (rows_above (suc k) X))

-- A row of kind k is none of a later kind.
no_row : (k : ℕ) (X : Lexicon) (w : WordText) (l : List WordRow) → rows_from (suc k) X ≡ row_of k w ∷ l → ⊥
no_row k X w l e =
    let h : suc k ≤ k = (subst (All (λ (x : WordRow). suc k ≤ x.kind)) e (rows_above (suc k) X)).0 in omega arith

cons-one : {A : Type 0} {x y : A} {l m : List A} → x ∷ l ≡ y ∷ m → (x ≡ y) × (l ≡ m)
cons-one e = (cc, cc)

-- The words of kind k are one, and so is what is told of later kinds.
record Words (k : ℕ) (ws vs : List WordText) (X Y : Lexicon) : Type 0 where
  words : ws ≡ vs
  names : word_names X ≡ word_names Y
  rows : rows_from (suc k) X ≡ rows_from (suc k) Y

abbrev name_of : WordText → Token
name_of w = w.name

words-one : (k : ℕ) (ws vs : List WordText) (X Y : Lexicon) → map name_of (ws ++ all_words X) ≡ map name_of (vs ++ all_words Y) →
    map (row_of k) ws ++ rows_from (suc k) X ≡ map (row_of k) vs ++ rows_from (suc k) Y → Words k ws vs X Y
words-one k [] [] X Y e h = record { words = refl; names = e; rows = h }
words-one k [] (v ∷ vs) X Y e h = absurd (no_row k X v _ h)
words-one k (w ∷ ws) [] X Y e h = absurd (no_row k Y w _ (sym h))
words-one k (w ∷ ws) (v ∷ vs) X Y e h =
    let name = cons-one e in
    let row = cons-one h in
    let below = words-one k ws vs X Y name.1 row.1 in
    record {
      words = ap₂ {C = List WordText} ◌∷◌ (ap₂ made name.0 (ap (λ (x : WordRow). x.places) row.0)) below.words;
      names = below.names;
      rows = below.rows;
    }
  where
    made : Token → List ℕ → WordText
    made u ps = record { name = u; places = ps }

kinds-one : (k : ℕ) (X Y : Lexicon) → kind_names X ≡ kind_names Y → word_names X ≡ word_names Y → rows_from k X ≡ rows_from k Y → X ≡ Y
kinds-one k [] [] e h q = refl
kinds-one k [] (y ∷ Y) e h q = let z : ◌≡◌ {A = ℕ} 0 1 = cc in absurd (omega arith)
kinds-one k (x ∷ X) [] e h q = let z : ◌≡◌ {A = ℕ} 0 1 = cc in absurd (omega arith)
kinds-one k (x ∷ X) (y ∷ Y) e h q =
    let one = words-one k x.words y.words X Y h q in
    let name = cons-one e in
    ap₂ {C = Lexicon} ◌∷◌ (ap₂ made name.0 one.words) (kinds-one (suc k) X Y name.1 one.names one.rows)
  where
    made : Token → List WordText → KindText
    made u ws = record { name = u; words = ws }

read_one : (X Y : Lexicon) → lexicon_read X ≡ lexicon_read Y → X ≡ Y
read_one X Y e =
    kinds-one 0 X Y (ap (λ (a : LexiconRead). a.kind_names) e) (ap (λ (a : LexiconRead). a.word_names) e) (ap (λ (a : LexiconRead). a.rows) e)

-- What is parsed is one thing.
parsed-one : {A : Type 0} {g : Parsed A} (a b : A) (l r : List Lexeme) → g ≡ parsed a l → g ≡ parsed b r → a ≡ b
parsed-one {A} a b l r e h = ap first (sym e ∙ h)
  where
    first : Parsed A → A
    first (parsed c m) = c
    first (bad x) = a

nothing_stops : Stops []
nothing_stops = record { no_kind = tt; no_equals = refl; no_bar = refl; no_opening = refl }

-- The lexemes of the tokens us, behind which nothing stands.
as_all : (us : List Token) → tokens_of (as_lexemes us) ≡ us ++ []
as_all us = subst (λ (l : List Lexeme). tokens_of l ≡ us ++ []) (append-nil (as_lexemes us)) (as_tokens us [])

pub lexicon_is_one : LexiconIsOne
lexicon_is_one X Y goodX goodY e =
    let l = as_lexemes (lexicon_tokens X) in
    let readX = lexicons_read X l [] goodX (as_all (lexicon_tokens X)) nothing_stops in
    let read_y = lexicons_read Y l [] goodY (as_all (lexicon_tokens X) ∙ ap (λ (us : List Token). us ++ []) e) nothing_stops in
    read_one X Y (parsed-one (lexicon_read X) (lexicon_read Y) _ _ readX read_y)

-- ---- texts

well-one : (a b : LexiconRead) (ps qs : List Paragraph) → read_well a ps ≡ read_well b qs → (a ≡ b) × (ps ≡ qs)
well-one a b ps qs e = (cc, cc)

pub text_is_one : TextIsOne
text_is_one b F G isF isG =
    let one = well-one _ _ _ _ (sym (files_are_read b F isF) ∙ files_are_read b G isG) in
    ap₂ made (read_one F.lexicon G.lexicon one.0) one.1
  where
    made : Lexicon → List Paragraph → File
    made X qs = record { lexicon = X; paragraphs = qs }

-- ---- patterns

printed-read : (X : Lexicon) (vs : List Token) (s : ℕ) (t : Term) (b : List ℕ) → GoodLexicon X → GoodPhrase X vs s t →
    b ≡ phrase_text X vs s t → (r : List Lexeme) ×
    (read_phrase (kind_names X) (word_names X) (vocabulary_of X) (lexemes b) ≡ parsed (record { label = []; kind = s; term = t; variables = vs }) r)
printed-read X vs s t b good phrase e = (
  _,
  phrases_read X [] vs s t (lexemes b) (record { at = 0; token = [] } ∷ []) good (inl refl) phrase
      (ap tokens e ∙ (spelling_is_exact (phrase_text X vs s t) (phrase_tokens X vs s t)).1 (phrases_are_spelled X vs s t good phrase)) refl,
)

pub printed-alike : PrintedAlike
printed-alike X vs ws s r t u good one other e =
    let readOne = printed-read X vs s t (phrase_text X vs s t) good one refl in
    let readOther = printed-read X ws r u (phrase_text X vs s t) good other e in
    let p : Phrase = record { label = []; kind = s; term = t; variables = vs } in
    let q : Phrase = record { label = []; kind = r; term = u; variables = ws } in
    let all = parsed-one p q _ _ readOne.1 readOther.1 in
    (ap (λ (x : Phrase). x.term) all, ap (λ (x : Phrase). x.variables) all, ap (λ (x : Phrase). x.kind) all)

pub entries_printed_alike : EntriesPrintedAlike
entries_printed_alike X p l good whole listing =
    all_implies Told (λ e. All (λ f. text e ≡ text f → e ≡ f) l)
    (λ e a. all_implies Told (λ f. text e ≡ text f → e ≡ f) (λ f b q. one e f a b q) l phrases) l phrases
  where
    text : Term → List ℕ
    text e = phrase_text X p.variables p.kind e

    Told : Term → Type 0
    Told e =
        (n : ℕ) × GoodPhrase X (take n p.variables) p.kind e ×
        (phrase_tokens X p.variables p.kind e ≡ phrase_tokens X (take n p.variables) p.kind e)

    phrases : All Told l
    phrases = entries_are_phrases X p l good whole listing

    one : (e f : Term) → Told e → Told f → text e ≡ text f → e ≡ f
    one e f a b q =
        (printed-alike X (take a.0 p.variables) (take b.0 p.variables) p.kind p.kind e f good a.1 b.1
        (sym (ap spell a.2) ∙ (q ∙ ap spell b.2))).0

-- ---- tokens

pub names_are_no_words : NamesAreNoWords
names_are_no_words u name variable = true≢false (sym variable.variable ∙ not_variable u name.identifier)
