-- Courses: paragraphs that were read stand one behind the other.
--
--   courses                    what is read of a text up to its end
--   opening-bad                no pattern begins with (
--   course-clear               what stands where paragraphs are read begins with no (
--
use mathlib.Core.Path.{◌≡◌, refl, ap}
use mathlib.Core.Bool.{Bool, true, false, not}
use mathlib.Core.List.{List, [], ◌∷◌}
use Prim.Native.Nat.{ℕ}
use native.Mathlib.Omega.{arith}
use lib.Dec.{eqb}
use lib.ListN.{length}
use borrow.Author.Tests.{eqb-true}
use Rattle.terms.proofs.Bools.{false_of_not}
use Rattle.wire.specs.Vocabulary.{Vocabulary}
use Rattle.texts.specs.Lexemes.{Token, Lexeme}
use Rattle.texts.specs.Names.{same, mark, opening}
use Rattle.texts.specs.Files.{Paragraph}
use Rattle.texts.specs.Faults.{parsed, token, pattern_due}
use Rattle.texts.specs.PhraseReading.{fault_at, read_phrase}
use Rattle.texts.specs.Answering.{read_paragraph, read_paragraphs}
use Rattle.texts.proofs.Scanning.{same-exact}
use Rattle.texts.proofs.Series.{Run, stop, more}
use Rattle.texts.proofs.Course.{goes_on, paragraph_parts, paragraphs-run}
use Rattle.gatherings.specs.Courses.{Courses}

module _ (K N : List Token) (W : Vocabulary) where
  run_courses : {l r : List Lexeme} {qs : List Paragraph} → Run goes_on (read_paragraph K N W) l qs r → Courses K N W l qs
  run_courses (stop l e) = ends (eqb (length (token l)) 0) refl e
    where
      ends : (t : Bool) → eqb (length (token l)) 0 ≡ t → not t ≡ false → length (token l) ≡ 0
      ends true h e = eqb-true (length (token l)) 0 h
      ends false h e = let z : ◌≡◌ {A = Bool} true false = e in cc
  run_courses (more l m r q qs b e run) = (m, e, run_courses run)

  pub courses : (l : List Lexeme) (qs : List Paragraph) (r : List Lexeme) → read_paragraphs K N W (length l) l ≡ parsed qs r → Courses K N W l qs
  courses l qs r e = run_courses (paragraphs-run K N W l qs r e)

  opening-bad : (l : List Lexeme) → token l ≡ mark opening → read_phrase K N W l ≡ fault_at pattern_due 0 l
  opening-bad [] e = let z : ◌≡◌ {A = ℕ} 0 1 = cc in absurd (omega arith)
  opening-bad (x ∷ l) e = ap (λ (u : Token). read_phrase K N W (record { at = x.at; token = u } ∷ l)) e

  pub course-clear : (l : List Lexeme) (qs : List Paragraph) → Courses K N W l qs → same (token l) (mark opening) ≡ false
  course-clear l [] c = empty (token l) c
    where
      empty : (u : Token) → length u ≡ 0 → same u (mark opening) ≡ false
      empty [] e = refl
      empty (a ∷ u) e = absurd (omega arith)
  course-clear l (q ∷ qs) c =
      false_of_not (same (token l) (mark opening))
      (λ e. let read = (paragraph_parts K N W l q c.0 c.1).phrase in
      let wrong = opening-bad l (same-exact (token l) (mark opening) e) in
      let z : ◌≡◌ {A = ℕ} 0 1 = cc in omega arith)
