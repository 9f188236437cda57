-- `questions::read_situation` meets its contract.
use mathlib.Core.List.{[]}
use mathlib.Core.Path.{refl}
use Rattle.questions.proofs.Situations.{situation-refused, situation-read}
use Rattle.questions.proofs.read_situation.Goals as goal

pub returns-in-Err : goal.returns-in-Err
returns-in-Err c = let a = c.args in let g = a.glossary.now in
    situation-refused g.text.now g.words.now g.records.now _ [] c.read.new.out c.read.new.variables a.from g.n a.kind c.in-Err.x _ c.unless_open.result c.in-Err.ensures refl c.unless_open.ensures

pub returns-in-Ok : goal.returns-in-Ok
returns-in-Ok c = let a = c.args in let g = a.glossary.now in
    situation-read g.text.now g.words.now g.records.now _ [] c.read.new.out c.read.new.variables a.from g.n a.kind c.in-Ok.p c.start.result c.unless_open-in-Ok.result c.in-Ok.ensures c.start.ensures c.unless_open-in-Ok.ensures
