-- QuestionExamples: questions and their answers, run on the bench example.
--
--   asked             the lexemes of questions are read, or at fault
--   answered          what is printed for a question
--
use mathlib.Core.Path.{◌≡◌, refl}
use mathlib.Core.List.{List, [], ◌∷◌, ◌++◌}
use Prim.Native.Nat.{ℕ}
use Rattle.terms.specs.Term.{any, var, app, nil, cons, Ground, gapp, gnil, gcons}
use Rattle.wire.specs.Text.{ascii}
use Rattle.texts.specs.Lexemes.{tokens, lexemes}
use Rattle.texts.specs.Lexicon.{word_names, vocabulary_of}
use Rattle.texts.specs.Phrases.{Phrase, term_tokens}
use Rattle.texts.specs.Questions.{ground_tokens, question_tokens}
use Rattle.texts.specs.Faults.{Parsed, parsed, bad, situation_open, other_label, other_kind}
use Rattle.texts.specs.Verdicts.{compare, question_text}
use Rattle.texts.specs.QuestionReading.{read_question}
use Rattle.texts.specs.Comparing.{walk, as_walked, unlike}
use Rattle.texts.proofs.Examples.{bench_lexicon}

abbrev go : Phrase
go = record { label = ascii "go"; kind = 0; term = app 0 (cons (app 2 nil) (cons (app 4 nil) nil)); variables = [] }

abbrev named : Phrase
named = record { label = ascii "go"; kind = 0; term = app 0 (cons (var 0) (cons any nil)); variables = ascii "?b" ∷ [] }

abbrev full : Ground
full = gapp 0 (gcons (gapp 2 gnil) (gcons (gapp 5 gnil) gnil))

abbrev read : List ℕ → Parsed Ground
read b = read_question (word_names bench_lexicon) (vocabulary_of bench_lexicon) go (lexemes b)

spelt : tokens (ascii "go ? wait(up,full)") ≡ question_tokens bench_lexicon go full ++ ([] ∷ [])
spelt = refl

asked : read (ascii "go ? wait(up, full)") ≡ parsed full (record { at = 19; token = [] } ∷ [])
asked = refl

asked_open : read (ascii "go ? wait(_, up)") ≡ bad (record { why = situation_open; at = 10; of = 0 })
asked_open = refl

asked-kind : read (ascii "go ? wait(up, up)") ≡ bad (record { why = other_kind; at = 14; of = 2 })
asked-kind = refl

asked-other : read (ascii "stop ? wait(up, full)") ≡ bad (record { why = other_label; at = 0; of = 0 })
asked-other = refl

answered-no : question_text bench_lexicon go full ≡ ascii "# go ? wait(up, full)\n#               ^ no: free is due here\n\n"
answered-no = refl

answered-root : question_text bench_lexicon go (gapp 1 gnil) ≡ ascii "# go ? done\n#      ^ no: wait is due here\n\n"
answered-root = refl

answered-yes : question_text bench_lexicon named full ≡ ascii "# go ? wait(up, full)\n# yes\n# ?b = up\n\n"
answered-yes = refl

walked : walk 6 (term_tokens (word_names bench_lexicon) named.variables named.term) (ground_tokens (word_names bench_lexicon) full) ≡
    as_walked (word_names bench_lexicon) named.variables (compare (word_names bench_lexicon) named.term full)
walked = refl

walked-no : walk 6 (term_tokens (word_names bench_lexicon) [] go.term) (ground_tokens (word_names bench_lexicon) full) ≡ unlike 4 (ascii "free")
walked-no = refl
