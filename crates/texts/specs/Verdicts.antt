-- Verdicts: what is answered where a pattern is asked about a situation: yes, with what each variable covers, or no, with the first
-- word that differs.
--
--   Compared                 a situation fits, with what each variable covers, or differs
--   behind_tokens us c        c behind the tokens us, which pattern and situation share
--   and_covers bs c           c, where what stands before covers bs
--   first_of us c d           c where it differs, and otherwise d, before which the tokens us stand
--   compare N t g, compare_all N c ts gs     the pattern t and the situation g side by side, or ts and gs, with the mark c before the first
--   cover_line X vs b         what a variable covers, on a line of its own
--   ask_text u                what stands before the situation, where u is the label
--   verdict_text X p c        yes, and what each variable covers; or no, below the first word that differs
--   question_text X p g       the question as it was read, and the answer
--   questions_text X p gs     .. for each of the situations gs
--
use Rattle.std.specs.Prelude.{cond, List, [], ◌∷◌, ◌++◌, ℕ, eqb, replicate}
use Rattle.terms.specs.Term.{Term, any, var, app, Terms, nil, cons, Ground, gapp, Grounds, gnil, gcons}
use Rattle.terms.specs.Filling.{Binding}
use Rattle.wire.specs.Row.{write_row}
use Rattle.wire.specs.Text.{ascii, newline}
use Rattle.texts.specs.Lexemes.{Token}
use Rattle.texts.specs.Names.{mark, opening, comma, name_at}
use Rattle.texts.specs.Lexicon.{Lexicon, word_names}
use Rattle.texts.specs.Phrases.{Phrase, spell}
use Rattle.texts.specs.Questions.{ground_tokens}
use Rattle.texts.specs.Complaints.{columns}

pub data Compared : Type 0 where
  -- What each variable covers, from left to right.
  covers : List Binding → Compared
  -- The tokens of the situation before the first word that differs, and the word that the pattern has there.
  differs : List Token → ℕ → Compared

abbrev pub behind_tokens : List Token → Compared → Compared
behind_tokens us (covers bs) = covers bs
behind_tokens us (differs vs f) = differs (us ++ vs) f

abbrev pub and_covers : List Binding → Compared → Compared
and_covers bs (covers cs) = covers (bs ++ cs)
and_covers bs (differs vs f) = differs vs f

abbrev pub first_of : List Token → Compared → Compared → Compared
first_of us (differs vs f) d = differs vs f
first_of us (covers bs) d = and_covers bs (behind_tokens us d)

-- An open place and a variable fit any term of the situation.
abbrev mutual
  pub compare : List Token → Term → Ground → Compared
  compare N any g = covers []
  compare N (var n) g = covers (record { name = n; value = g } ∷ [])
  compare N (app f ts) (gapp h gs) =
      cond (eqb f h) (behind_tokens (name_at N h ∷ []) (compare_all N opening ts gs)) (differs [] f)

  pub compare_all : List Token → ℕ → Terms → Grounds → Compared
  compare_all N c nil gs = covers []
  compare_all N c (cons t ts) gnil = covers []
  compare_all N c (cons t ts) (gcons g gs) =
      behind_tokens (mark c ∷ []) (first_of (ground_tokens N g) (compare N t g) (compare_all N comma ts gs))

-- `# ?colour = red`
abbrev pub cover_line : Lexicon → List Token → Binding → List ℕ
cover_line X vs b =
    ascii "# " ++ (name_at vs b.name ++ (ascii " = " ++ (spell (ground_tokens (word_names X) b.value) ++ newline)))

-- `go ? `
abbrev pub ask_text : Token → List ℕ
ask_text u = u ++ ascii " ? "

-- `# yes`, or `#      ^ no: free is due here`.
abbrev pub verdict_text : Lexicon → Phrase → Compared → List ℕ
verdict_text X p (covers bs) = ascii "# yes\n" ++ write_row (cover_line X p.variables) bs
verdict_text X p (differs us f) =
    ascii "# "
    ++ (replicate (columns (ask_text p.label ++ spell us)) 32 ++ (ascii "^ no: " ++ (name_at (word_names X) f ++ ascii " is due here\n")))

-- `# go ? wait(up, full)`, and the answer.
abbrev pub question_text : Lexicon → Phrase → Ground → List ℕ
question_text X p g =
    ascii "# "
    ++ (ask_text p.label
    ++ (spell (ground_tokens (word_names X) g)
    ++ (newline ++ (verdict_text X p (compare (word_names X) p.term g) ++ newline))))

abbrev pub questions_text : Lexicon → Phrase → List Ground → List ℕ
questions_text X p gs = write_row (question_text X p) gs
