-- BlocksSpelt: what is printed for a pattern, or for patterns together, is leftovers and nothing else when it is read as a text.
--
--   rows_spelt                      the entries
--   leftovers_lines, leftovers_spelt    the leftovers, under a comment
--   head-line                       the pattern
--   block_before                    a block before what is spelt
--   together-line                   how many patterns there are together
--   blocks_spell_leftovers, together_spells_leftovers, notes_are_comments     the laws
--
use mathlib.Core.Path.{◌≡◌, refl, sym, ap, subst, subst₂, ◌∙◌}
use mathlib.Core.List.{List, [], ◌∷◌, ◌++◌, append-nil, append_assoc}
use Prim.Native.Nat.{ℕ, ◌≤◌}
use lib.Dec.{leb}
use lib.ListN.{length}
use borrow.Author.Tests.{le-leb}
use Rattle.terms.specs.Lists.{All}
use Rattle.terms.specs.Term.{Term}
use Rattle.terms.specs.Listing.{IsListing}
use Rattle.terms.proofs.All.{all_implies, all_append}
use Rattle.wire.specs.Row.{write_row}
use Rattle.wire.specs.Vocabulary.{signature}
use Rattle.wire.specs.Text.{ascii, newline, decimal}
use Rattle.wire.specs.BookBytes.{patterns_bytes}
use Rattle.wire.specs.Printing.{listing_space}
use Rattle.wire.proofs.Cond.{cond_true}
use Rattle.texts.specs.Lexemes.{Token, comment}
use Rattle.texts.specs.Names.{name_at}
use Rattle.texts.specs.Spelling.{none, space, whole as ended, Spells, end}
use Rattle.texts.specs.Lexicon.{Lexicon, kind_names, vocabulary_of, GoodLexicon}
use Rattle.texts.specs.Phrases.{Phrase, label_tokens, whole_tokens, phrase_tokens, phrase_text, spell, GoodWhole}
use Rattle.texts.specs.Leftovers.{leftover_line, leftovers_text}
use Rattle.texts.specs.Notes.{inhabited, empty}
use Rattle.texts.specs.Together.{together_of}
use Rattle.texts.specs.Answers.{head_text, too_many_text, block_text}
use Rattle.texts.specs.Laws.{Sayable, entries_tokens, BlocksSpellLeftovers, TogetherSpellsLeftovers, NotesAreComments}
use Rattle.texts.proofs.Spelt.{blank-before, terms_are_spelled}
use Rattle.texts.proofs.Entries.{Entry, entries-known, entry_sayable}
use Rattle.texts.proofs.BookEntries.{book_sayable, reordered_all}
use Rattle.texts.proofs.Lines.{Line, line-append, line-blank, spells-append, line_by, line-counted, line_at, line-spell, kinds-line, phrase-line, label-line}

-- ---- leftovers

-- A line with d in it, rows, another line with d in it, and z.
leftovers_lines : (a d b r e c z : List ℕ) →
    (a ++ (d ++ ((b ++ newline) ++ (r ++ (e ++ (d ++ (c ++ newline))))))) ++ z ≡
    ((a ++ (d ++ b)) ++ newline) ++ (r ++ (((e ++ (d ++ c)) ++ newline) ++ z))
leftovers_lines a d b r e c z = simp append_assoc

module _ (X : Lexicon) (vs : List Token) (s : ℕ) (good : GoodLexicon X) where
  rows_spelt : (l : List Term) (z : List ℕ) (us : List Token) → All (Sayable X vs s) l → Spells z us →
      Spells (write_row (leftover_line X vs s) l ++ z) (entries_tokens X vs s l ++ us)
  rows_spelt [] z us h t = t
  rows_spelt (e ∷ l) z us h t =
      let text = phrase_text X vs s e in
      let rows = write_row (leftover_line X vs s) l in
      subst (λ (x : List ℕ). Spells x (entries_tokens X vs s (e ∷ l) ++ us))
      (sym (append_assoc (text ++ newline) rows z ∙ append_assoc text newline (rows ++ z)))
      (subst (λ (ws : List Token). Spells (text ++ (10 ∷ (rows ++ z))) ws) (sym (append_assoc (phrase_tokens X vs s e) (entries_tokens X vs s l) us))
      (spells-append (terms_are_spelled X vs s e good h.0) (rows_spelt l z us h.1 t)))

  leftovers_spelt : (c : List ℕ) (l : List Term) (z : List ℕ) (us : List Token) → Line c → All (Sayable X vs s) l → Spells z us →
      Spells ((comment ∷ (c ++ newline)) ++ (leftovers_text X vs s l ++ (10 ∷ z))) (entries_tokens X vs s l ++ us)
  leftovers_spelt c l z us line sayable t =
      let n = decimal (length l) in
      let opens = line-counted (ascii " ") (ascii " leftovers:") refl (line_by (ascii " leftovers:") refl) (length l) in
      let closes = line-counted (ascii " end of ") (ascii " leftovers") refl (line_by (ascii " leftovers") refl) (length l) in
      subst (λ (x : List ℕ). Spells ((comment ∷ (c ++ newline)) ++ x) (entries_tokens X vs s l ++ us))
      (sym (leftovers_lines (ascii "# ") n (ascii " leftovers:") (write_row (leftover_line X vs s) l) (ascii "# end of ") (ascii " leftovers") (10 ∷ z)))
      (blank-before (line-blank c line)
      (blank-before (line-blank (ascii " " ++ (n ++ ascii " leftovers:")) opens)
      (rows_spelt l _ us sayable
      (blank-before (line-blank (ascii " end of " ++ (n ++ ascii " leftovers")) closes) (blank-before (space 10 [] refl none) t)))))

-- ---- a pattern

module _ (X : Lexicon) (p : Phrase) (good : GoodLexicon X) (whole : GoodWhole X p) where
  head-line : Line (32 ∷ spell (whole_tokens X p))
  head-line =
      let phrase = phrase_tokens X p.variables p.kind p.term in (
        refl,
        line-spell (whole_tokens X p)
            (all_append Line (label_tokens p.label) phrase (label-line p.label whole.label)
            (phrase-line X p.variables p.kind p.term good whole.phrase.variables)),
      )

  pub block_before : (l : List Term) (z : List ℕ) (us : List Token) → IsListing (signature (vocabulary_of X)) p.kind p.term l →
      length (patterns_bytes (vocabulary_of X) p.kind l) ≤ listing_space → Spells z us →
      Spells (block_text X p l ++ z) (entries_tokens X p.variables p.kind l ++ us)
  block_before l z us listing fits t =
      let n = length (patterns_bytes (vocabulary_of X) p.kind l) in
      let text = leftovers_text X p.variables p.kind l in
      subst (λ (x : List ℕ). Spells x (entries_tokens X p.variables p.kind l ++ us))
      (sym (parts (head_text X p) _ text z (cond_true (leb n listing_space) text (too_many_text n) (le-leb n listing_space fits))))
      (leftovers_spelt X p.variables p.kind good (32 ∷ spell (whole_tokens X p)) l z us head-line
      (all_implies (Entry X p.kind p.term) (Sayable X p.variables p.kind)
      (entry_sayable X p.variables p.kind p.term whole.phrase) l
      (entries-known X p.variables p.kind p.term whole.phrase l listing))
      t)
    where
      parts : (h c t z : List ℕ) → c ≡ t → (h ++ (c ++ newline)) ++ z ≡ h ++ (t ++ (10 ∷ z))
      parts h c t z e = append_assoc h (c ++ newline) z ∙ ap (λ (x : List ℕ). h ++ x) (append_assoc c newline z ∙ ap (λ (x : List ℕ). x ++ (10 ∷ z)) e)

pub blocks_spell_leftovers : BlocksSpellLeftovers
blocks_spell_leftovers X p l good whole listing fits =
    subst₂ Spells (append-nil (block_text X p l)) (append-nil (entries_tokens X p.variables p.kind l))
    (block_before X p good whole l [] [] listing fits (end [] (ended none)))

-- ---- patterns together

together-line : (X : Lexicon) (s n : ℕ) → GoodLexicon X → Line (32 ∷ together_of X s n)
together-line X s n good =
    let kind = name_at (kind_names X) s in
    line-counted (ascii " all ") (ascii " patterns of " ++ (kind ++ ascii " together")) refl
    (line-append (ascii " patterns of ") (kind ++ ascii " together") (line_by (ascii " patterns of ") refl)
    (line-append kind (ascii " together") (line_at (kind_names X) (kinds-line X good) s) (line_by (ascii " together") refl)))
    n

pub together_spells_leftovers : TogetherSpellsLeftovers
together_spells_leftovers X s ts es l good kind listable limits listing reordered =
    let n = length ts in
    let text = leftovers_text X [] s es in
    subst₂ (λ (x : List ℕ) (us : List Token). Spells (comment ∷ 32 ∷ x) us) (append_assoc (together_of X s n) newline (text ++ newline)) (append-nil (entries_tokens X [] s es))
    (leftovers_spelt X [] s good (32 ∷ together_of X s n) es [] [] (together-line X s n good)
    (reordered_all (Sayable X [] s) reordered (book_sayable X s ts l good kind listable listing))
    (end [] (ended none)))

-- ---- kinds without complete situations

pub notes_are_comments : NotesAreComments
notes_are_comments X s text good (inhabited h) = end [] (ended none)
notes_are_comments X s text good (empty h) =
    let kind = name_at (kind_names X) s in
    let said = ascii " has no complete situation" in
    subst (λ (x : List ℕ). Spells (comment ∷ x) []) (append_assoc (ascii " kind ") (kind ++ said) (10 ∷ 10 ∷ []) ∙ ap (λ (x : List ℕ). ascii " kind " ++ x) (append_assoc kind said (10 ∷ 10 ∷ [])))
    (subst (λ (x : List ℕ). Spells (comment ∷ x) []) (append_assoc (ascii " kind " ++ (kind ++ said)) newline newline)
    (blank-before
    (line-blank (ascii " kind " ++ (kind ++ said))
    (line-append (ascii " kind ") (kind ++ said) (line_by (ascii " kind ") refl)
    (line-append kind said (line_at (kind_names X) (kinds-line X good) s) (line_by said refl))))
    (end newline (ended (space 10 [] refl none)))))
