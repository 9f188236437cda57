-- Checking: paragraphs are read one by one, and how many they are is counted.
--
--   paragraph_bad, paragraph_goes    a paragraph is read, by what read_phrase and read_questions promise
--   takes_less                 what is left behind a thing is shorter
--   and_same, and_more         paragraphs read behind others
--   whole K N W b at           the paragraphs from the offset at on
--   Counted                    so many paragraphs were read, and the others stand from the offset at on
--   counted_none, counted_turn, counted-all, counted-bad     how that begins, goes on and ends
--   Checking, checking_none, ..     the same, by what read_paragraph promises
--
use mathlib.Core.Path.{◌≡◌, refl, sym, ap, subst, ◌∙◌}
use mathlib.Core.List.{List, [], ◌∷◌, ◌++◌, append_assoc}
use Prim.Native.Nat.{ℕ, ◌+◌, ◌<◌, ◌≤◌}
use native.Mathlib.Omega.{arith}
use lib.ListN.{length, take, drop, length-append}
use Rattle.terms.specs.Term.{Ground}
use Rattle.wire.specs.Vocabulary.{Vocabulary}
use Rattle.texts.specs.Lexemes.{Token, Lexeme, blanks, lexemes_from}
use Rattle.texts.specs.Phrases.{Phrase}
use Rattle.texts.specs.Files.{Paragraph}
use Rattle.texts.specs.Faults.{Parsed, parsed, bad, parse_then, token}
use Rattle.texts.specs.PhraseReading.{read_phrase}
use Rattle.texts.specs.QuestionReading.{read_questions}
use Rattle.texts.specs.Tabled.{names_in, tabled_vocabulary}
use Rattle.texts.specs.Answering.{as_paragraph, read_paragraph, read_paragraphs}
use Rattle.texts.proofs.Passing.{Takes}
use Rattle.texts.proofs.Course.{paragraph_phrase, paragraph_takes, paragraphs-end, paragraphs-bad, paragraphs-more}
use Rattle.std.specs.Prelude.{Ok, Err}
use Rattle.faults.specs.declared.Fault as faults-fault
use Rattle.faults.specs.Reasons.{fault_of}
use Rattle.phrases.specs.declared.Phrase as phrases-phrase
use Rattle.phrases.specs.Phrases.{PhraseAnswer, ReadsPhrase, PhrasePromise}
use Rattle.questions.specs.Asking.{QuestionAnswer, ReadsTo, QuestionsPromise}
use Rattle.gatherings.specs.Courses.{Readable}
use Rattle.gatherings.proofs.Readings.{phrase-bad, phrase-read, reads-bad, reads-well}
use Rattle.paragraphs.specs.Paragraphs.{Says, Checks, ReadsParagraph}
use Rattle.paragraphs.proofs.Offsets.{few-lexemes, here_some, here_none}

-- ---- a paragraph

module _ (b : List ℕ) (at : ℕ) (ks : List ℕ) (k : ℕ) (ws : List ℕ) (n : ℕ) (r : List ℕ) (fits : Readable b at k n) (o v : List ℕ) (a : PhraseAnswer) (says : PhrasePromise b at ks k ws n r o v a) where
  abbrev names : List Token
  names = names_in b (take n ws)

  abbrev words : Vocabulary
  words = tabled_vocabulary k n r

  abbrev phrase : Parsed Phrase
  phrase = read_phrase (names_in b (take k ks)) names words (lexemes_from b at)

  reads : ReadsPhrase words b o v phrase a
  reads = says fits.short fits.inside fits.kinds fits.words

  pub paragraph_bad : {x : faults-fault.Fault} → a ≡ Err x → ReadsParagraph b at ks k ws n r (Err x)
  paragraph_bad {x} e = record {
    reads =
        subst (λ (y : Parsed Paragraph). ReadsTo b y (Err x))
        (sym (paragraph_phrase (names_in b (take k ks)) names words (lexemes_from b at) (fault_of x) (phrase-bad words b o v phrase a reads e))) refl;
  }

  pub paragraph_goes : {x : phrases-phrase.Phrase} → a ≡ Ok x → (c : QuestionAnswer) → QuestionsPromise b x.at x.label x.kind ws n r c →
      ReadsParagraph b at ks k ws n r c
  paragraph_goes {x} e c asks =
      let read = phrase-read words b o v phrase a reads e in
      let p : Phrase = read.0 in
      let l : List Lexeme = lexemes_from b x.at in
      let behind : Phrase → List Lexeme → Parsed Paragraph = λ p m. parse_then (read_questions names words p (length m) m) (λ gs r'. parsed (as_paragraph p gs) r') in
      let is : parse_then phrase behind ≡ behind p l = ap (λ y. parse_then y behind) read.2 ∙ ap (behind p) read.3.behind in
      record {
        reads =
            subst (λ (y : Parsed Paragraph). ReadsTo b y c) (sym is)
            (told p (read_questions names words p (length l) l) c (asks fits.short read.3.inside fits.words k p read.3.label read.3.kind));
      }
    where
      told : (p : Phrase) (y : Parsed (List Ground)) (c : QuestionAnswer) → ReadsTo b y c → ReadsTo b (parse_then y (λ gs r'. parsed (as_paragraph p gs) r')) c
      told p (parsed gs m) (Ok e) h = h
      told p (parsed gs m) (Err x) h = h
      told p (bad f) (Ok e) h = h
      told p (bad f) (Err x) h = h

-- ---- the count

pub takes_less : {A : Type 0} (l : List Lexeme) (y : Parsed A) → Takes l y → {q : A} {m : List Lexeme} → y ≡ parsed q m → length m < length l
takes_less l (bad x) t e = let z : ◌≡◌ {A = ℕ} 0 1 = cc in absurd (omega arith)
takes_less l (parsed p r) t {q} {m} e = let s = t.1 in let same : r ≡ m = cc in omega (arith, ap length same)

and_same : (y : Parsed (List Paragraph)) → y ≡ parse_then y (λ qs r. parsed qs r)
and_same (parsed qs r) = refl
and_same (bad x) = refl

and_more : (y : Parsed (List Paragraph)) (q : Paragraph) (done : List Paragraph) →
    parse_then (parse_then y (λ qs r. parsed (q ∷ qs) r)) (λ qs r. parsed (done ++ qs) r) ≡ parse_then y (λ qs r. parsed ((done ++ (q ∷ [])) ++ qs) r)
and_more (parsed qs r) q done = ap (λ (l : List Paragraph). parsed l r) (sym (append_assoc done (q ∷ []) qs))
and_more (bad x) q done = refl

module _ (K N : List Token) (W : Vocabulary) (b : List ℕ) where
  abbrev pub whole : ℕ → Parsed (List Paragraph)
  whole at = read_paragraphs K N W (length (lexemes_from b at)) (lexemes_from b at)

  pub record Counted (from count at : ℕ) : Type 0 where
    pub done : List Paragraph
    pub many : length done ≡ count
    pub others : whole from ≡ parse_then (whole at) (λ qs r. parsed (done ++ qs) r)
    pub fewer : count + length (lexemes_from b at) ≤ length (lexemes_from b from)
    pub inside : at ≤ length b

  pub counted_none : (from : ℕ) → from ≤ length b → Counted from 0 from
  counted_none from h = record {
    done = [];
    many = refl;
    others = and_same (whole from);
    fewer = omega arith;
    inside = h;
  }

  module _ {from count at : ℕ} (h : Counted from count at) where
    pub counted-all : length (token (lexemes_from b at)) ≡ 0 → Says (whole from) (Ok count)
    counted-all e =
        subst (λ y. Says y (Ok count))
        (sym (h.others ∙ ap (λ y. parse_then y (λ qs r. parsed (h.done ++ qs) r)) (paragraphs-end K N W (lexemes_from b at) e)))
        (length-append h.done [] ∙ omega (arith, h.many))

    module _ (some : 0 < length (token (lexemes_from b at))) where
      pub counted-bad : (x : faults-fault.Fault) → read_paragraph K N W (lexemes_from b at) ≡ bad (fault_of x) → Says (whole from) (Err x)
      counted-bad x e =
          subst (λ y. Says y (Err x))
          (sym (h.others ∙ ap (λ y. parse_then y (λ qs r. parsed (h.done ++ qs) r)) (paragraphs-bad K N W (lexemes_from b at) (fault_of x) some e))) refl

      module _ {q : Paragraph} {m : List Lexeme} (e : read_paragraph K N W (lexemes_from b at) ≡ parsed q m) where
        pub counted_less : length m < length (lexemes_from b at)
        counted_less = takes_less (lexemes_from b at) (read_paragraph K N W (lexemes_from b at)) (paragraph_takes K N W (lexemes_from b at)) e

        pub counted_turn : {next : ℕ} → m ≡ lexemes_from b next → next ≤ length b → Counted from (count + 1) next
        counted_turn {next} is few = record {
          done = h.done ++ (q ∷ []);
          many = length-append h.done (q ∷ []) ∙ omega (arith, h.many);
          others =
              h.others
              ∙ ap (λ y. parse_then y (λ qs r. parsed (h.done ++ qs) r))
              (paragraphs-more K N W (lexemes_from b at) m q some e
              ∙ ap (λ (l : List Lexeme). parse_then (read_paragraphs K N W (length l) l) (λ qs r. parsed (q ∷ qs) r)) is)
              ∙ and_more (whole next) q h.done;
          fewer = let l = counted_less in omega (arith, h.fewer, ap length is);
          inside = few;
        }

-- ---- one turn

module _ (b ks : List ℕ) (k : ℕ) (ws : List ℕ) (n : ℕ) (r : List ℕ) (from : ℕ) (fits : Readable b from k n) where
  abbrev K : List Token
  K = names_in b (take k ks)

  abbrev N : List Token
  N = names_in b (take n ws)

  abbrev W : Vocabulary
  W = tabled_vocabulary k n r

  -- How far the paragraphs are read, and that s is where the next token stands.
  pub record Checking (count at s : ℕ) : Type 0 where
    pub counted : Counted K N W b from count at
    pub start : s ≡ at + blanks (drop at b)

  pub checking_none : {s : ℕ} → s ≡ from + blanks (drop from b) → Checking 0 from s
  checking_none e = record { counted = counted_none K N W b from fits.inside; start = e }

  module _ {count at s : ℕ} (h : Checking count at s) where
    pub checking_readable : Readable b at k n
    checking_readable = record { short = fits.short; inside = h.counted.inside; kinds = fits.kinds; words = fits.words }

    pub checking_all : length b ≤ s → Checks b from ks k ws n r (Ok count)
    checking_all e readable = counted-all K N W b h.counted (here_none b at h.start e)

    module _ (more : s < length b) (a : QuestionAnswer) (says : ReadsParagraph b at ks k ws n r a) where
      abbrev read : Parsed Paragraph
      read = read_paragraph K N W (lexemes_from b at)

      pub checking_bad : {x : faults-fault.Fault} → a ≡ Err x → Checks b from ks k ws n r (Err x)
      checking_bad {x} e readable = counted-bad K N W b h.counted (here_some b at h.start more) x (reads-bad b read a says.reads e)

      module _ {e : ℕ} (is : a ≡ Ok e) where
        well : (q : Paragraph) × (m : List Lexeme) × (read ≡ parsed q m) × (m ≡ lexemes_from b e) × (e ≤ length b)
        well = reads-well b read a says.reads is

        less : length well.1 < length (lexemes_from b at)
        less = counted_less K N W b h.counted (here_some b at h.start more) well.2

        pub checking_count : count + 1 ≤ 65536
        checking_count =
            let f = fits.short in
            let c = h.counted.fewer in
            let l = less in
            omega (arith, few-lexemes b from)

        pub checking_less : length (lexemes_from b e) < length (lexemes_from b at)
        checking_less = let l = less in omega (arith, ap length well.3)

        pub checking_turn : {s' : ℕ} → s' ≡ e + blanks (drop e b) → Checking (count + 1) e s'
        checking_turn start = record {
          counted = counted_turn K N W b h.counted (here_some b at h.start more) well.2 well.3 well.4;
          start = start;
        }
