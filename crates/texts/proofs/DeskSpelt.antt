-- DeskSpelt: the whole answer, read as a text, is leftovers and nothing else: what is asked, and the answers, are comments.
--
--   spaces_line                                 spaces are on a line
--   ground-line                                 so is a situation
--   covers-blank, verdict-blank, question_blank, questions-blank     the answer to a question, and to several
--   paragraphs_spelt                            all paragraphs before what is spelt
--   desk_spells_leftovers                       the law
--
use mathlib.Core.Path.{◌≡◌, refl, sym, ap, subst, ◌∙◌}
use mathlib.Core.List.{List, [], ◌∷◌, ◌++◌, append_assoc}
use Prim.Native.Nat.{ℕ, zero, suc}
use lib.ListN.{length, replicate}
use Rattle.terms.specs.Lists.{All}
use Rattle.terms.specs.Term.{Term, Ground, as_term}
use Rattle.terms.specs.Filling.{Binding}
use Rattle.wire.specs.Row.{write_row}
use Rattle.wire.specs.Text.{ascii, newline, decimal}
use Rattle.texts.specs.Lexemes.{Token, comment}
use Rattle.texts.specs.Names.{name_at}
use Rattle.texts.specs.Spelling.{Blank, none, space, Spells}
use Rattle.texts.specs.Lexicon.{Lexicon, word_names, GoodLexicon}
use Rattle.texts.specs.Phrases.{Phrase, spell, GoodWhole}
use Rattle.texts.specs.Questions.{ground_tokens}
use Rattle.texts.specs.Files.{Paragraph, phrases_of, GoodParagraph}
use Rattle.texts.specs.Complaints.{columns}
use Rattle.texts.specs.Verdicts.{Compared, covers, differs, compare, cover_line, ask_text, verdict_text, question_text, questions_text}
use Rattle.texts.specs.Answers.{block_text, blocks_text, AreListings}
use Rattle.texts.specs.Laws.{entries_tokens, leftovers_tokens, ListingsFit, DeskSpellsLeftovers}
use Rattle.texts.proofs.Spelt.{blank-append, blank-before}
use Rattle.texts.proofs.Lines.{Line, line-append, line-blank, remark-behind, line_by, line-label, line-counted, line_at, line-spell, term-line, words-line, variables-line}
use Rattle.texts.proofs.BlocksSpelt.{block_before}

-- ---- questions

spaces_line : (n : ℕ) → Line (replicate n 32)
spaces_line zero = tt
spaces_line (suc n) = (refl, spaces_line n)

module _ (X : Lexicon) (p : Phrase) (good : GoodLexicon X) (whole : GoodWhole X p) where
  ground-line : (g : Ground) → Line (spell (ground_tokens (word_names X) g))
  ground-line g = line-spell (ground_tokens (word_names X) g) (term-line (word_names X) [] (words-line X good) tt (as_term g))

  covers-blank : (bs : List Binding) → Blank (write_row (cover_line X p.variables) bs)
  covers-blank [] = none
  covers-blank (b ∷ bs) =
      let name = name_at p.variables b.name in
      let value = spell (ground_tokens (word_names X) b.value) in
      blank-append
      (subst (λ (x : List ℕ). Blank (comment ∷ 32 ∷ x)) (one_line name (ascii " = ") value)
      (line-blank (32 ∷ (name ++ (ascii " = " ++ value))) (
        refl,
        line-append name (ascii " = " ++ value) (line_at p.variables (variables-line p.variables whole.phrase.variables) b.name)
            (line-append (ascii " = ") value (line_by (ascii " = ") refl) (ground-line b.value)),
      )))
      (covers-blank bs)
    where
      one_line : (a e v : List ℕ) → (a ++ (e ++ v)) ++ newline ≡ a ++ (e ++ (v ++ newline))
      one_line a e v = simp append_assoc

  verdict-blank : (c : Compared) → Blank (verdict_text X p c)
  verdict-blank (covers bs) = blank-append (line-blank (ascii " yes") (line_by (ascii " yes") refl)) (covers-blank bs)
  verdict-blank (differs us f) =
      let n = columns (ask_text p.label ++ spell us) in
      let gap : List ℕ = replicate n 32 in
      let word = name_at (word_names X) f in
      subst (λ (x : List ℕ). Blank (comment ∷ 32 ∷ x)) (one_line gap (ascii "^ no: ") word (ascii " is due here"))
      (line-blank (32 ∷ (gap ++ (ascii "^ no: " ++ (word ++ ascii " is due here")))) (
        refl,
        line-append gap (ascii "^ no: " ++ (word ++ ascii " is due here")) (spaces_line n)
            (line-append (ascii "^ no: ") (word ++ ascii " is due here") (line_by (ascii "^ no: ") refl)
            (line-append word (ascii " is due here") (line_at (word_names X) (words-line X good) f) (line_by (ascii " is due here") refl))),
      ))
    where
      one_line : (a b c d : List ℕ) → (a ++ (b ++ (c ++ d))) ++ newline ≡ a ++ (b ++ (c ++ (d ++ newline)))
      one_line a b c d = simp append_assoc

  question_blank : (g : Ground) → Blank (question_text X p g)
  question_blank g =
      let ask = ask_text p.label in
      let situation = spell (ground_tokens (word_names X) g) in
      let verdict = verdict_text X p (compare (word_names X) p.term g) in
      subst (λ (x : List ℕ). Blank (comment ∷ 32 ∷ x)) (lines ask situation verdict)
      (blank-append
      (line-blank (32 ∷ (ask ++ situation)) (
        refl,
        line-append ask situation
            (line-append p.label (ascii " ? ") (line-label p.label whole.label) (line_by (ascii " ? ") refl)) (ground-line g),
      ))
      (blank-append (verdict-blank (compare (word_names X) p.term g)) (space 10 [] refl none)))
    where
      lines : (a s v : List ℕ) → ((a ++ s) ++ newline) ++ (v ++ newline) ≡ a ++ (s ++ (newline ++ (v ++ newline)))
      lines a s v = simp append_assoc

  questions-blank : (gs : List Ground) → Blank (questions_text X p gs)
  questions-blank [] = none
  questions-blank (g ∷ gs) = blank-append (question_blank g) (questions-blank gs)

-- ---- the whole answer

paragraphs_spelt : (X : Lexicon) (qs : List Paragraph) (ls : List (List Term)) (z : List ℕ) (us : List Token) → GoodLexicon X →
    All (GoodParagraph X) qs → AreListings X (phrases_of qs) ls → ListingsFit X (phrases_of qs) ls → Spells z us →
    Spells (blocks_text X qs ls ++ z) (leftovers_tokens X (phrases_of qs) ls ++ us)
paragraphs_spelt X [] ls z us good all listings fit s = s
paragraphs_spelt X (q ∷ qs) [] z us good all listings fit s = absurd listings
paragraphs_spelt X (q ∷ qs) (l ∷ ls) z us good all listings fit s =
    let p = q.phrase in
    let block = block_text X p l in
    let answers = questions_text X p q.situations in
    let blocks = blocks_text X qs ls in
    let own = entries_tokens X p.variables p.kind l in
    let others = leftovers_tokens X (phrases_of qs) ls in
    subst (λ (x : List ℕ). Spells x ((own ++ others) ++ us))
    (sym (append_assoc block (answers ++ blocks) z ∙ ap (λ (x : List ℕ). block ++ x) (append_assoc answers blocks z)))
    (subst (Spells (block ++ (answers ++ (blocks ++ z)))) (sym (append_assoc own others us))
    (block_before X p good all.0.phrase l (answers ++ (blocks ++ z)) (others ++ us) listings.0 fit.0
    (blank-before (questions-blank X p good all.0.phrase q.situations)
    (paragraphs_spelt X qs ls z us good all.1 listings.1 fit.1 s))))

pub desk_spells_leftovers : DeskSpellsLeftovers
desk_spells_leftovers F ls tail us good all listings fit s =
    let d = decimal (length F.paragraphs) in
    paragraphs_spelt F.lexicon F.paragraphs ls _ us good all listings fit
    (subst (λ (x : List ℕ). Spells (tail ++ (comment ∷ x)) us) (last_line (ascii " end of ") d (ascii " patterns"))
    (remark-behind (ascii " end of " ++ (d ++ ascii " patterns"))
    (line-counted (ascii " end of ") (ascii " patterns") refl (line_by (ascii " patterns") refl) (length F.paragraphs)) s))
  where
    last_line : (a d c : List ℕ) → (a ++ (d ++ c)) ++ newline ≡ a ++ (d ++ (c ++ newline))
    last_line a d c = simp append_assoc
