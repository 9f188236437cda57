-- Putting: what is put for paragraphs that are read again.
--
--   names-alike, tables_for    the tables that are lent say what a good vocabulary and the variables of a pattern say
--   reader_is, block_is        reading and printing by the tables is what the vocabulary says
--   phrase-fails, phrase-puts  what is put for a pattern
--   about                      the pattern that was read is the one that is asked
--   paragraph_puts             what is put for a paragraph
--   Remains                    these paragraphs are left, and what was put is finished by what is put for them
--   Going                      so many paragraphs were put
--   going_none, going_turn, going-all    how that begins, goes on and ends
--
use mathlib.Core.Path.{◌≡◌, refl, sym, ap, subst, ◌∙◌}
use mathlib.Core.List.{List, [], ◌∷◌, append_assoc}
use Prim.Native.Nat.{ℕ, zero, suc, ◌+◌, ◌-◌, ◌<◌, ◌≤◌}
use native.Mathlib.Omega.{arith}
use lib.ListN.{length, get_or, take, drop, length-map}
use Rattle.terms.specs.Term.{Term}
use Rattle.terms.specs.Listing.{IsListing}
use Rattle.wire.specs.Vocabulary.{Vocabulary, signature, encode_vocabulary}
use Rattle.wire.specs.TermBytes.{encode_term}
use Rattle.texts.specs.Lexemes.{Token, Lexeme, blanks, lexemes_from, token_at}
use Rattle.texts.specs.Names.{name_at}
use Rattle.texts.specs.Lexicon.{KindText, Lexicon, kind_names, word_names, vocabulary_of}
use Rattle.texts.specs.Phrases.{Phrase, label_tokens, phrase_tokens, GoodWhole}
use Rattle.texts.specs.Files.{Paragraph}
use Rattle.texts.specs.Saying.{Tables, TablesFor}
use Rattle.texts.specs.Faults.{Parsed, parsed, bad}
use Rattle.texts.specs.Verdicts.{questions_text}
use Rattle.texts.specs.Answers.{block_text, blocks_text}
use Rattle.texts.specs.Answering.{block_by}
use Rattle.texts.specs.PhraseReading.{read_phrase}
use Rattle.texts.specs.QuestionReading.{read_questions}
use Rattle.texts.specs.Tabled.{names_in, tabled_vocabulary}
use Rattle.texts.specs.Laws.{tokens_of}
use Rattle.texts.proofs.Scanning.{start-within}
use Rattle.texts.proofs.PhrasesExact.{phrases_exact}
use Rattle.texts.proofs.Course.{paragraph_parts}
use Rattle.texts.proofs.Blocks.{blocks_are_answers}
use Rattle.wording.specs.Tables.{tables_in}
use Rattle.pages.specs.Pages.{Adds}
use Rattle.pages.proofs.Pages.{adds_is, adds_then, adds-nothing}
use Rattle.std.specs.Prelude.{Ok, Err}
use Rattle.faults.specs.declared.Fault as faults-fault
use Rattle.faults.specs.Reasons.{fault_of}
use Rattle.phrases.specs.declared.Phrase as phrases-phrase
use Rattle.phrases.specs.Phrases.{PhraseAnswer, PhraseTo, PhrasePromise}
use Rattle.paragraphs.specs.declared.Head.{Head}
use Rattle.gatherings.specs.Courses.{Readable, Courses}
use Rattle.paragraphs.specs.Paragraphs.{places_table, Stands, Due, PutsPhrase, About, PutsQuestions, PutsParagraph, PutsBlocks}
use Rattle.paragraphs.proofs.Offsets.{start-same, start-token, from_lexed}
use Rattle.gatherings.proofs.Readings.{phrase-bad, phrase-read}
use Rattle.paragraphs.proofs.Courses.{course-clear}

-- ---- the tables

names-alike : (b : List ℕ) (n : ℕ) (l : List ℕ) (i : ℕ) → i < length (names_in b (take n l)) → name_at (names_in b l) i ≡ name_at (names_in b (take n l)) i
names-alike b zero [] i h = refl
names-alike b zero (x ∷ l) i h = absurd (omega (arith, h))
names-alike b (suc n) [] i h = refl
names-alike b (suc n) (x ∷ l) zero h = refl
names-alike b (suc n) (x ∷ l) (suc i) h = names-alike b n l i (omega (arith, h))

names_are : (b : List ℕ) (n : ℕ) (l : List ℕ) {us : List Token} → names_in b (take n l) ≡ us → (i : ℕ) → i < length us → name_at (names_in b l) i ≡ name_at us i
names_are b n l e i h = names-alike b n l i (omega (arith, h, ap length e)) ∙ ap (λ (us : List Token). name_at us i) e

module _ {b ks : List ℕ} {k : ℕ} {ws : List ℕ} {n : ℕ} {r : List ℕ} {X : Lexicon} (h : Stands b ks k ws n r X) where
  pub tables_for : {vs : List Token} {ps : List ℕ} (v : List ℕ) (seen : ℕ) → ps ≡ places_table r → vs ≡ names_in b (take seen v) → TablesFor X vs (tables_in b ks ws ps v)
  tables_for {vs} {ps} v seen places is = record {
    kinds = λ i few. names_are b k ks h.kinds i (omega (arith, few, length-map X (λ (x : KindText). x.name)));
    words = λ i few. names_are b n ws h.words i few;
    places = λ f few. ap (λ (l : List ℕ). get_or l f 0) places ∙ h.places f few;
    variables = λ i few. names_are b seen v (sym is) i few;
  }

  pub reader_is : (l : List Lexeme) →
      read_phrase (names_in b (take k ks)) (names_in b (take n ws)) (tabled_vocabulary k n r) l ≡ read_phrase (kind_names X) (word_names X) (vocabulary_of X) l
  reader_is l =
      ap (λ (K : List Token). read_phrase K (names_in b (take n ws)) (tabled_vocabulary k n r) l) h.kinds
      ∙ ap (λ (N : List Token). read_phrase (kind_names X) N (tabled_vocabulary k n r) l) h.words
      ∙ ap (λ (W : Vocabulary). read_phrase (kind_names X) (word_names X) W l) h.vocabulary

  block_is : {o v ps voc : List ℕ} {p : Phrase} {m : List Lexeme} {x : phrases-phrase.Phrase} → PhraseTo (tabled_vocabulary k n r) b o v p m x →
      ps ≡ places_table r → voc ≡ encode_vocabulary (vocabulary_of X) → (l : List Term) → GoodWhole X p →
      IsListing (signature (vocabulary_of X)) p.kind p.term l →
      block_by (tables_in b ks ws ps v) (token_at b x.label) voc (take x.size o) ≡ block_text X p l
  block_is {o} {v} {ps} {voc} {p} {m} {x} to places is l whole listing =
      let T : Tables = tables_in b ks ws ps v in
      ap (λ (u : Token). block_by T u voc (take x.size o)) (sym to.label)
      ∙ ap (λ (c : List ℕ). block_by T p.label c (take x.size o)) is
      ∙ ap (block_by T p.label (encode_vocabulary (vocabulary_of X)))
      (to.bytes ∙ ap (λ (W : Vocabulary). encode_term W p.kind p.term) h.vocabulary)
      ∙ blocks_are_answers X p T l h.good whole (tables_for v x.seen places to.variables) listing

-- ---- a pattern

parsed-alike : {y : Parsed Phrase} {p q : Phrase} {m l : List Lexeme} → y ≡ parsed p m → y ≡ parsed q l → (p ≡ q) × (m ≡ l)
parsed-alike {y} {p} {q} {m} {l} e f = (cc, cc)

module _ (b : List ℕ) (at : ℕ) (ks : List ℕ) (k : ℕ) (ws : List ℕ) (n : ℕ) (r o v : List ℕ) (a : PhraseAnswer) (h : Readable b at k n) (says : PhrasePromise b at ks k ws n r o v a) where
  abbrev y : Parsed Phrase
  y = read_phrase (names_in b (take k ks)) (names_in b (take n ws)) (tabled_vocabulary k n r) (lexemes_from b at)

  pub phrase-fails : {ps voc page : List ℕ} {to : ℕ} {x : faults-fault.Fault} → a ≡ Err x → PutsPhrase b at ks k ws n r ps voc page to page to (record { label = 0; kind = 0; at = at })
  phrase-fails {ps} {voc} {page} {to} {x} e = record {
    inside = h.inside;
    puts = λ X p m l s places is read whole listing.
        never (phrase-bad (tabled_vocabulary k n r) b o v y a (says h.short h.inside h.kinds h.words) e) (reader_is s (lexemes_from b at) ∙ read);
  }
    where
      never : {A : Type 0} {p : Phrase} {m : List Lexeme} → y ≡ bad (fault_of x) → y ≡ parsed p m → A
      never e f = let z : ◌≡◌ {A = ℕ} 0 1 = cc in absurd (omega arith)

  module _ {x : phrases-phrase.Phrase} (e : a ≡ Ok x) where
    abbrev read : (p : Phrase) × (m : List Lexeme) × (y ≡ parsed p m) × PhraseTo (tabled_vocabulary k n r) b o v p m x
    read = phrase-read (tabled_vocabulary k n r) b o v y a (says h.short h.inside h.kinds h.words) e

    -- The bytes of the pattern are the first ones of those that were written.
    pub phrase-puts : {bytes : List ℕ} → (x.size ≤ 4096 → bytes ≡ take x.size o) → {ps voc page page' : List ℕ} {to to' : ℕ} →
        Adds page to page' to' (block_by (tables_in b ks ws ps v) (token_at b x.label) voc bytes) →
        PutsPhrase b at ks k ws n r ps voc page to page' to' (record { label = x.label; kind = x.kind; at = x.at })
    phrase-puts front {ps} {voc} {page} {page'} {to} {to'} adds = record {
      inside = read.3.inside;
      puts = λ X p m l s places is again whole listing.
          let one = parsed-alike read.2 (reader_is s (lexemes_from b at) ∙ again) in
          let to : PhraseTo (tabled_vocabulary k n r) b o v p read.1 x = subst (λ (q : Phrase). PhraseTo (tabled_vocabulary k n r) b o v q read.1 x) one.0 read.3 in (
            to.label,
            to.kind,
            sym one.1 ∙ read.3.behind,
            adds_is
                (ap (block_by (tables_in b ks ws ps v) (token_at b x.label) voc) (front to.room) ∙ block_is s to places is l whole listing) adds,
          );
    }

-- ---- a paragraph

module _ {b : List ℕ} {at : ℕ} {ks : List ℕ} {k : ℕ} {ws : List ℕ} {n : ℕ} {r ps v before : List ℕ} {to : ℕ} {after : List ℕ} {next : ℕ} {head : Head} (fits : Readable b at k n)
    (put : PutsPhrase b at ks k ws n r ps v before to after next head) {s : ℕ} (is : s ≡ at + blanks (drop at b)) where
  pub paragraph_readable : Readable b head.at 0 n
  paragraph_readable = record { short = fits.short; inside = put.inside; kinds = omega arith; words = fits.words }

  about : {X : Lexicon} {p : Phrase} {m : List Lexeme} → Stands b ks k ws n r X →
      read_phrase (kind_names X) (word_names X) (vocabulary_of X) (lexemes_from b at) ≡ parsed p m → GoodWhole X p →
      p.label ≡ token_at b head.label → p.kind ≡ head.kind → About b s head.label head.kind ws n r X p
  about {X} {p} {m} stands read whole named of_kind = record {
    count = k;
    good = stands.good;
    words = stands.words;
    vocabulary = stands.vocabulary;
    whole = whole;
    named = named;
    of_kind = of_kind;
    inside = let w = start-within b at fits.inside in omega arith;
    first = start-token b at is;
    behind = tokens_of m;
    tokens =
        ap tokens_of (start-same b at is)
        ∙ (phrases_exact X (lexemes_from b at) m p stands.good (from_lexed b at) read).2
        ∙ sym (append_assoc (label_tokens p.label) (phrase_tokens X p.variables p.kind p.term) (tokens_of m));
  }

  pub paragraph_puts : {last : List ℕ} {at' to' : ℕ} → PutsQuestions b s head.label head.kind head.at ws n r after next last at' to' →
      PutsParagraph b at ks k ws n r ps v before to last at' to'
  paragraph_puts asks = record {
    inside = asks.inside;
    puts = λ X q m l stands places same read good listing clear.
        let parts = paragraph_parts (kind_names X) (word_names X) (vocabulary_of X) (lexemes_from b at) q m read in
        let block = put.puts X q.phrase parts.between l stands places same parts.phrase good.phrase listing in
        let answers =
        asks.puts X q.phrase q.situations m (about stands parts.phrase good.phrase block.0 block.1)
        (subst (λ (t : List Lexeme). read_questions (word_names X) (vocabulary_of X) q.phrase (length t) t ≡ parsed q.situations m) block.2 parts.questions)
        clear in
        (answers.0, adds_then block.3 answers.1);
  }

-- ---- the paragraphs

-- What was put is finished, whatever is put for the others behind it.
pub record Remains (b : List ℕ) (at : ℕ) (X : Lexicon) (m : ℕ) (page₀ : List ℕ) (to₀ : ℕ) (page : List ℕ) (to : ℕ) (text : List ℕ) : Type 0 where
  pub paragraphs : List Paragraph
  pub listings : List (List Term)
  pub due : Due b at X m paragraphs listings
  pub finish : (last : List ℕ) (j : ℕ) → Adds page to last j (blocks_text X paragraphs listings) → Adds page₀ to₀ last j text

pub record Going (b : List ℕ) (from : ℕ) (ks : List ℕ) (k : ℕ) (ws : List ℕ) (n : ℕ) (r ps v : List ℕ) (m : ℕ) (page₀ : List ℕ) (to₀ i at to : ℕ) (page : List ℕ) : Type 0 where
  pub inside : at ≤ length b
  pub below : i ≤ m
  pub goes : (X : Lexicon) (qs : List Paragraph) (ls : List (List Term)) → Stands b ks k ws n r X → ps ≡ places_table r →
      v ≡ encode_vocabulary (vocabulary_of X) → Due b from X m qs ls → Remains b at X (m - i) page₀ to₀ page to (blocks_text X qs ls)

module _ {b : List ℕ} {from : ℕ} {ks : List ℕ} {k : ℕ} {ws : List ℕ} {n : ℕ} {r ps v : List ℕ} {m : ℕ} {page₀ : List ℕ} {to₀ : ℕ} where
  pub going_none : Readable b from k n → Going b from ks k ws n r ps v m page₀ to₀ 0 from to₀ page₀
  going_none h = record {
    inside = h.inside;
    below = omega arith;
    goes = λ X qs ls s places is due. record {
      paragraphs = qs;
      listings = ls;
      due = subst (λ (j : ℕ). Due b from X j qs ls) (omega arith) due;
      finish = λ last j adds. adds;
    };
  }

  module _ {i at to : ℕ} {page : List ℕ} (h : Going b from ks k ws n r ps v m page₀ to₀ i at to page) where
    pub going-readable : Readable b from k n → Readable b at k n
    going-readable known = record { short = known.short; inside = h.inside; kinds = known.kinds; words = known.words }

    pub going_turn : i < m → {at' to' : ℕ} {page' : List ℕ} → PutsParagraph b at ks k ws n r ps v page to page' at' to' →
        Going b from ks k ws n r ps v m page₀ to₀ (i + 1) at' to' page'
    going_turn more {at'} {to'} {page'} put = record {
      inside = put.inside;
      below = omega (arith, more);
      goes = λ X qs ls s places is due.
          let rest = h.goes X qs ls s places is due in
          turn X s places is rest.paragraphs rest.listings rest.due rest.finish;
    }
      where
        turn : (X : Lexicon) → Stands b ks k ws n r X → ps ≡ places_table r → v ≡ encode_vocabulary (vocabulary_of X) → {text : List ℕ} →
            (qs : List Paragraph) (ls : List (List Term)) → Due b at X (m - i) qs ls →
            ((last : List ℕ) (j : ℕ) → Adds page to last j (blocks_text X qs ls) → Adds page₀ to₀ last j text) →
            Remains b at' X (m - (i + 1)) page₀ to₀ page' to' text
        turn X s places is [] ls due finish = absurd (omega (arith, more, due.count))
        turn X s places is (q ∷ qs) [] due finish = absurd due.listings
        turn X s places is (q ∷ qs) (l ∷ ls) due finish =
            let next = due.course in
            let clear = course-clear (kind_names X) (word_names X) (vocabulary_of X) next.0 qs next.2 in
            let done = put.puts X q next.0 l s places is next.1 due.goods.0 due.listings.0 clear in
            record {
              paragraphs = qs;
              listings = ls;
              due = record {
                count = omega (arith, more, due.count);
                course = subst (λ (t : List Lexeme). Courses (kind_names X) (word_names X) (vocabulary_of X) t qs) done.0 next.2;
                goods = due.goods.1;
                listings = due.listings.1;
              };
              finish = λ last j adds.
                  finish last j
                  (adds_is (append_assoc (block_text X q.phrase l) (questions_text X q.phrase q.situations) (blocks_text X qs ls)) (adds_then done.1 adds));
            }

    pub going-all : m ≤ i → PutsBlocks b from ks k ws n r ps v m page₀ to₀ page to
    going-all none = record {
      puts = λ X qs ls fits s places is due.
          let rest = h.goes X qs ls s places is due in
          end X rest.paragraphs rest.listings rest.due rest.finish;
    }
      where
        end : (X : Lexicon) {text : List ℕ} (qs : List Paragraph) (ls : List (List Term)) → Due b at X (m - i) qs ls →
            ((last : List ℕ) (j : ℕ) → Adds page to last j (blocks_text X qs ls) → Adds page₀ to₀ last j text) →
            Adds page₀ to₀ page to text
        end X [] ls due finish = finish page to (adds-nothing page to)
        end X (q ∷ qs) ls due finish = absurd (omega (arith, none, due.count))
