-- Readings: a paragraph is read, by what read_phrase and read_questions promise.
--
--   phrase-bad, phrase-read    what reading a pattern answers
--   reads-bad, reads-well      what reading questions answers
--   one_none                   the pattern is at fault
--   one-refused, one-read      a question is at fault, or none is
--
use mathlib.Core.Path.{◌≡◌, refl, sym, ap, subst, ◌∙◌}
use mathlib.Core.List.{List}
use Prim.Native.Nat.{ℕ, ◌≤◌}
use native.Mathlib.Omega.{arith}
use lib.ListN.{length, take}
use Rattle.terms.specs.Term.{Ground}
use Rattle.wire.specs.Vocabulary.{Vocabulary}
use Rattle.texts.specs.Lexemes.{Token, Lexeme, lexemes_from}
use Rattle.texts.specs.Phrases.{Phrase}
use Rattle.texts.specs.Files.{Paragraph}
use Rattle.texts.specs.Faults.{Parsed, parsed, bad}
use Rattle.texts.specs.PhraseReading.{read_phrase}
use Rattle.texts.specs.QuestionReading.{read_questions}
use Rattle.texts.specs.Tabled.{names_in, tabled_vocabulary}
use Rattle.texts.specs.Answering.{as_paragraph}
use Rattle.texts.proofs.Course.{paragraph_phrase, paragraph_questions, paragraph_read}
use Rattle.faults.specs.declared.Fault.{Fault}
use Rattle.faults.specs.Reasons.{fault_of}
use Rattle.phrases.specs.declared.Phrase as phrases-phrase
use Rattle.std.specs.Prelude.{Ok, Err}
use Rattle.phrases.specs.Phrases.{PhraseAnswer, PhraseTo, ReadsPhrase, PhrasePromise}
use Rattle.questions.specs.Asking.{QuestionAnswer, ReadsTo, QuestionsPromise}
use Rattle.gatherings.specs.Courses.{Readable}
use Rattle.gatherings.specs.Gathering.{paragraph_at, OneTo, ReadsOne}

-- ---- what reading a pattern answers

module _ (W : Vocabulary) (b o v : List ℕ) (y : Parsed Phrase) (a : PhraseAnswer) (h : ReadsPhrase W b o v y a) where
  pub phrase-bad : {x : Fault} → a ≡ Err x → y ≡ bad (fault_of x)
  phrase-bad {x} e = go y (subst (ReadsPhrase W b o v y) e h)
    where
      go : (y : Parsed Phrase) → ReadsPhrase W b o v y (Err x) → y ≡ bad (fault_of x)
      go (parsed p r) k = absurd k
      go (bad f) k = ap bad k

  pub phrase-read : {x : phrases-phrase.Phrase} → a ≡ Ok x → (p : Phrase) × (r : List Lexeme) × (y ≡ parsed p r) × PhraseTo W b o v p r x
  phrase-read e = go y (subst (ReadsPhrase W b o v y) e h)
    where
      go : {x : phrases-phrase.Phrase} → (y : Parsed Phrase) → ReadsPhrase W b o v y (Ok x) →
          (p : Phrase) × (r : List Lexeme) × (y ≡ parsed p r) × PhraseTo W b o v p r x
      go (parsed p r) k = (p, r, refl, k)
      go (bad f) k = absurd k

-- ---- what reading questions answers

module _ {A : Type 0} (b : List ℕ) (y : Parsed A) (a : QuestionAnswer) (h : ReadsTo b y a) where
  pub reads-bad : {x : Fault} → a ≡ Err x → y ≡ bad (fault_of x)
  reads-bad {x} e = go y (subst (ReadsTo b y) e h)
    where
      go : (y : Parsed A) → ReadsTo b y (Err x) → y ≡ bad (fault_of x)
      go (parsed q r) k = absurd k
      go (bad f) k = ap bad k

  pub reads-well : {e : ℕ} → a ≡ Ok e → (q : A) × (r : List Lexeme) × (y ≡ parsed q r) × (r ≡ lexemes_from b e) × (e ≤ length b)
  reads-well e = go y (subst (ReadsTo b y) e h)
    where
      go : {e : ℕ} → (y : Parsed A) → ReadsTo b y (Ok e) → (q : A) × (r : List Lexeme) × (y ≡ parsed q r) × (r ≡ lexemes_from b e) × (e ≤ length b)
      go (parsed q r) k = (q, r, refl, k.0, k.1)
      go (bad f) k = absurd k

-- ---- a paragraph

module _ (b : List ℕ) (at : ℕ) (ks : List ℕ) (k : ℕ) (ws : List ℕ) (n : ℕ) (r : List ℕ) (fits : Readable b at k n) (o v : List ℕ) (a : PhraseAnswer) (says : PhrasePromise b at ks k ws n r o v a) where
  abbrev kinds_named : List Token
  kinds_named = names_in b (take k ks)

  abbrev words_named : List Token
  words_named = names_in b (take n ws)

  abbrev W : Vocabulary
  W = tabled_vocabulary k n r

  abbrev l : List Lexeme
  l = lexemes_from b at

  faulty : {f : _} (x : Fault) → paragraph_at b at ks k ws n r ≡ bad f → ReadsOne b at ks k ws n r o (Err x)
  faulty x e q m read = let z : ◌≡◌ {A = ℕ} 0 1 = cc in omega arith

  pub one_none : {x : Fault} → a ≡ Err x → ReadsOne b at ks k ws n r o (Err x)
  one_none {x} e =
      faulty x
      (paragraph_phrase kinds_named words_named W l (fault_of x)
      (phrase-bad W b o v (read_phrase kinds_named words_named W l) a (says fits.short fits.inside fits.kinds fits.words) e))

  module _ {x : phrases-phrase.Phrase} (e : a ≡ Ok x) (c : QuestionAnswer) (asks : QuestionsPromise b x.at x.label x.kind ws n r c) where
    abbrev phrase : (p : Phrase) × (m : List Lexeme) × (read_phrase kinds_named words_named W l ≡ parsed p m) × PhraseTo W b o v p m x
    phrase = phrase-read W b o v (read_phrase kinds_named words_named W l) a (says fits.short fits.inside fits.kinds fits.words) e

    abbrev p : Phrase
    p = phrase.0

    abbrev between : List Lexeme
    between = lexemes_from b x.at

    first : read_phrase kinds_named words_named W l ≡ parsed p between
    first = phrase.2 ∙ ap (parsed p) phrase.3.behind

    abbrev questions : Parsed (List Ground)
    questions = read_questions words_named W p (length between) between

    asked : ReadsTo b questions c
    asked = asks fits.short phrase.3.inside fits.words k p phrase.3.label phrase.3.kind

    pub one-refused : {f : Fault} → c ≡ Err f → ReadsOne b at ks k ws n r o (Err f)
    one-refused {f} is =
        faulty f (paragraph_questions kinds_named words_named W l between p (fault_of f) first (reads-bad b questions c asked is))

    pub one-read : {i : ℕ} → c ≡ Ok i → ReadsOne b at ks k ws n r o (Ok (record { kind = x.kind; size = x.size; at = i }))
    one-read {i} is =
        let well = reads-well b questions c asked is in
        let whole = paragraph_read kinds_named words_named W l between well.1 p well.0 first well.2 in
        (phrase.3.room, well.4, λ q m read. told phrase.3 well.3 whole read)
      where
        told : {p : Phrase} {m' : List Lexeme} → PhraseTo W b o v p m' x → {gs : List Ground} {m'' : List Lexeme} → m'' ≡ lexemes_from b i →
            paragraph_at b at ks k ws n r ≡ parsed (as_paragraph p gs) m'' → {q : Paragraph} {m : List Lexeme} →
            paragraph_at b at ks k ws n r ≡ parsed q m → OneTo b k n r o q m x.kind x.size i
        told {p} to {gs} {m''} behind is {q} {m} read =
            let same : as_paragraph p gs ≡ q = cc in
            let end : m'' ≡ m = cc in
            subst (λ (q : Paragraph). OneTo b k n r o q m x.kind x.size i) same
            (record { same = to.kind; bytes = to.bytes; behind = sym end ∙ behind })
