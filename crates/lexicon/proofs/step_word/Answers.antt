-- `lexicon::step_word` meets its contract.
use Rattle.faults.proofs.Numbers.{reason-absent}
use Rattle.lexicon.proofs.Steps.{word-fails, word_room, word_stored}
use Rattle.lexicon.proofs.step_word.Goals as goal

pub returns-in-Some : goal.returns-in-Some
returns-in-Some c = word-fails c.args.text.now c.args.c c.args.at c.requires.tables c.in-Some.ensures

pub begin_word-requires-clause-n_lt_most_words : goal.begin_word-requires-clause-n_lt_most_words
begin_word-requires-clause-n_lt_most_words c =
    word_room c.args.text.now c.args.c c.args.at c.requires.tables (reason-absent _ _ c.name_why.ensures c.in_default.not-Some)

pub returns : goal.returns
returns c =
    word_stored c.args.text.now c.args.c c.args.at c.requires.tables (reason-absent _ _ c.name_why.ensures c.in_default.not-Some) c.last_kind.ensures c.begin_word.ensures.0 c.begin_word.ensures.1
