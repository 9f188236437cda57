-- Parts: the parts of an answer that functions of their own put; no public contract cites it.
--
--   drawn i l              the text l, or where i says so a space for each of its characters
--   cover_line c            what a variable covers, on a line of its own
--   cover_text u us         .. where the pattern's token u is a variable, and nothing where it is none
--   covers_text n us vs     what the variables among the pattern's tokens us cover of the situation's tokens vs, in n steps
--   no_text l us u          that the token u is due, below the place behind the tokens us, where l is the label
--   walked_text l vs w      the answer, where vs are the tokens of the situation
--
use Rattle.std.specs.Prelude.{cond, List, [], ◌∷◌, ◌++◌, ℕ, zero, suc, take, drop, replicate}
use Rattle.wire.specs.Row.{write_row}
use Rattle.wire.specs.Text.{ascii, newline}
use Rattle.texts.specs.Lexemes.{Token}
use Rattle.texts.specs.Names.{is_variable, name_at}
use Rattle.texts.specs.Phrases.{spell}
use Rattle.texts.specs.Complaints.{columns}
use Rattle.texts.specs.Verdicts.{ask_text}
use Rattle.texts.specs.Comparing.{Cover, Walked, fits, unlike}
use Rattle.verdicts.specs.Steps.{step_size}
use Rattle.verdicts.specs.declared.Ink.{Ink}
use Rattle.verdicts.specs.declared.Ink.TheVariants.{Letters, Spaces}

abbrev pub drawn : Ink → List ℕ → List ℕ
drawn Letters l = l
drawn Spaces l = replicate (columns l) 32

abbrev pub cover_line : Cover → List ℕ
cover_line c = ascii "# " ++ (c.variable ++ (ascii " = " ++ (spell c.tokens ++ newline)))

abbrev pub cover_text : Token → List Token → List ℕ
cover_text u us = cond (is_variable u) (cover_line (record { variable = u; tokens = us })) []

abbrev pub covers_text : ℕ → List Token → List Token → List ℕ
covers_text zero us vs = []
covers_text (suc n) us [] = []
covers_text (suc n) us (v ∷ vs) =
    let m : ℕ = step_size (name_at us 0) vs in
    cover_text (name_at us 0) (v ∷ take m vs) ++ covers_text n (drop 1 us) (drop m vs)

abbrev pub no_text : Token → List Token → Token → List ℕ
no_text l us u =
    ascii "# "
    ++ (replicate (columns (ask_text l ++ spell us)) 32 ++ (ascii "^ no: " ++ (u ++ ascii " is due here\n")))

abbrev pub walked_text : Token → List Token → Walked → List ℕ
walked_text l vs (fits cs) = ascii "# yes\n" ++ write_row cover_line cs
walked_text l vs (unlike n u) = no_text l (take n vs) u
