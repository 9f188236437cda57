-- `paragraphs::put_phrase` meets its contract.
use Rattle.paragraphs.proofs.Asking.{no_ok}
use Rattle.paragraphs.proofs.Putting.{phrase-fails, phrase-puts}
use Rattle.paragraphs.proofs.put_phrase.Goals as goal

pub returns-in_default : goal.returns-in_default
returns-in_default c =
    let a = c.args in let g = a.glossary.now in
    let failed = no_ok c.read_phrase.result c.in_default.not-Ok in
    phrase-fails g.text.now a.at a.kinds.now a.k g.words.now g.n g.records.now c.read_phrase.new.out c.read_phrase.new.variables c.read_phrase.result c.requires c.read_phrase.ensures failed.1

pub returns : goal.returns
returns c =
    let a = c.args in let g = a.glossary.now in
    phrase-puts g.text.now a.at a.kinds.now a.k g.words.now g.n g.records.now c.read_phrase.new.out c.read_phrase.new.variables c.read_phrase.result c.requires c.read_phrase.ensures c.in-Ok.is
    c.front.ensures c.put_block.ensures
