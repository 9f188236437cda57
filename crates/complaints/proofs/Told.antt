-- Told: the parts of a complaint make up the complaint.
--
--   behind_is                                    the token behind another one
--   unknown_question, unknown-blank, unknown-plain     what is said of a name that is no word
--   other-marked                                 what is said of a byte order mark
--   reason_opens                                 what is wrong where a ( stands and no place is due
--   told                                         the place, the reason and the picture
--
use mathlib.Core.Path.{◌≡◌, sym, ap, ap₂, ◌∙◌}
use mathlib.Core.Bool.{Bool, true, false, ◌||◌, ◌&&◌, cond}
use mathlib.Core.List.{List, [], ◌++◌, append_assoc}
use Prim.Native.Nat.{ℕ, suc, ◌+◌}
use lib.ListN.{take, drop}
use lib.Dec.{eqb}
use borrow.Author.Tests.{ne_eqb}
use Rattle.wire.specs.Text.{ascii, decimal}
use Rattle.wire.proofs.Cond.{cond_true, cond_false}
use Rattle.texts.specs.Lexemes.{Token, asking, blanks, token_size, lexemes_from, token_at}
use Rattle.texts.specs.Names.{same, mark, opening, is_variable}
use Rattle.texts.specs.Faults.{kind_due, pattern_due, term_due, unknown_word, other_kind}
use Rattle.texts.specs.Complaints.{Known, commas_in, token_behind, unknown_text, order_marked, reason_text, newlines, columns, line_start, complaint}
use Rattle.complaints.specs.Parts.{fault, about_places, other_text, place_text, picture_text}

pub behind_is : (b : List ℕ) (at : ℕ) {e s : ℕ} → e ≡ at + token_size (drop at b) → s ≡ e + blanks (drop e b) → token_at b s ≡ token_behind b at
behind_is b at f g = ap (token_at b) (g ∙ ap (λ x. x + blanks (drop x b)) f)

module _ (u : Token) {v w : Token} (b : w ≡ v) {q : Bool} (e : q ≡ same w (mark asking)) where
  pub unknown_question : q ≡ true → ascii "a question stands behind its pattern, and begins with its label" ≡ unknown_text u v
  unknown_question h = sym (cond_true (same w (mark asking)) _ _ (sym e ∙ h)) ∙ ap (unknown_text u) b

  module _ (h : q ≡ false) {i : Bool} (f : i ≡ is_variable w) where
    abbrev so : List ℕ → List ℕ
    so l = ascii "no word " ++ (u ++ (ascii " in this vocabulary" ++ l))

    ends : (l : List ℕ) → cond (is_variable w) (ascii "; in a question a blank is due behind the ?") [] ≡ l → so l ≡ unknown_text u v
    ends l k = sym (cond_false (same w (mark asking)) _ _ (sym e ∙ h) ∙ ap so k) ∙ ap (unknown_text u) b

    pub unknown-blank : i ≡ true → so (ascii "; in a question a blank is due behind the ?") ≡ unknown_text u v
    unknown-blank k = ends _ (cond_true (is_variable w) _ _ (sym f ∙ k))

    pub unknown-plain : i ≡ false → so [] ≡ unknown_text u v
    unknown-plain k = ends _ (cond_false (is_variable w) _ _ (sym f ∙ k))

module _ (u v : Token) (why : ℕ) where
  module _ (p : why ≡ pattern_due → ⊥) where
    module _ (w : why ≡ unknown_word → ⊥) {t : Bool} (e : t ≡ (eqb why kind_due && order_marked u)) where
      pub other-marked : t ≡ true → ascii "a byte order mark stands here, and a text begins with `kind`" ≡ other_text u v why
      other-marked d =
          sym
          (cond_false (eqb why pattern_due) _ _ (ne_eqb why pattern_due p)
          ∙ cond_false (eqb why unknown_word) _ _ (ne_eqb why unknown_word w)
          ∙ cond_true (eqb why kind_due && order_marked u) _ _ (sym e ∙ d))

module _ (T : Known) (why at of : ℕ) (u v : Token) (c : ℕ) {t : Bool} (e : t ≡ (eqb why term_due || eqb why other_kind)) where
  module _ (d : t ≡ false) {o : Bool} (f : o ≡ (about_places why && same u (mark opening))) where
    pub reason_opens : o ≡ true → ascii "no places are due here, as what stands before takes none or has them all" ≡ reason_text T (fault why at of) u v c
    reason_opens g =
        sym
        (cond_false (eqb why term_due || eqb why other_kind) _ _ (sym e ∙ d)
        ∙ cond_true (about_places why && same u (mark opening)) _ _ (sym f ∙ g))

regroup : (a b c d e r : List ℕ) → (a ++ (b ++ (c ++ (d ++ e)))) ++ r ≡ a ++ (b ++ (c ++ (d ++ (e ++ r))))
regroup a b c d e r = simp append_assoc

module _ (reason : List ℕ) where
  abbrev whole : List ℕ → List ℕ → List ℕ → List ℕ
  whole before last line =
      ascii "line "
      ++ (decimal (suc (newlines before))
      ++ (ascii ", column " ++ (decimal (suc (columns last)) ++ (ascii ": " ++ (reason ++ picture_text line last)))))

  placed : (before last line : List ℕ) → place_text before last ++ (reason ++ picture_text line last) ≡ whole before last line
  placed before last line =
      regroup (ascii "line ") (decimal (suc (newlines before))) (ascii ", column ") (decimal (suc (columns last))) (ascii ": ") (reason ++ picture_text line last)

pub told : (text : List ℕ) (T : Known) (why at of : ℕ) {before last line : List ℕ} {start : ℕ} →
    before ≡ take at text → start ≡ line_start before → last ≡ drop start before → line ≡ drop start text →
    place_text before last ++ (reason_text T (fault why at of) (token_at text at) (token_behind text at) (commas_in 0 (lexemes_from text at)) ++ picture_text line last) ≡ complaint text T (fault why at of)
told text T why at of {before} {last} {line} {start} b s l n =
    let said : List ℕ = reason_text T (fault why at of) (token_at text at) (token_behind text at) (commas_in 0 (lexemes_from text at)) in
    let front : List ℕ = take at text in
    let begins : start ≡ line_start front = s ∙ ap line_start b in
    placed said before last line
    ∙ ap (λ x. whole said x last line) b
    ∙ ap (λ x. whole said front x line) (l ∙ ap₂ drop begins b)
    ∙ ap (whole said front (drop (line_start front) front)) (n ∙ ap (λ x. drop x text) begins)
