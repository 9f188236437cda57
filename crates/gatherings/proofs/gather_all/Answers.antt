-- `gatherings::gather_all` meets its contract. The loop's invariant: so many paragraphs were read and their patterns gathered, and the others stand from the offset on.
use Rattle.gatherings.proofs.Gathering.{going_none, going-all, going-stuck, going_turn}
use native.Mathlib.Omega.{arith}
use Rattle.gatherings.proofs.gather_all.Goals as goal

pub loop-init : goal.loop-init
loop-init c =
    let a = c.args in let g = a.glossary.now in
    going_none g.text.now a.from a.kinds.now a.k g.words.now g.n g.records.now a.m a.s c.requires.inside a.book.now

pub returns-in_default : goal.returns-in_default
returns-in_default c =
    let a = c.args in let g = a.glossary.now in
    going-stuck g.text.now a.from a.kinds.now a.k g.words.now g.n g.records.now a.m a.s c.loop.invariant c.loop-test.true c.read_one.new.out c.read_one.result c.in_default.not-Ok c.read_one.ensures

pub keep-gathered-requires-clause-sized : goal.keep-gathered-requires-clause-sized
keep-gathered-requires-clause-sized c = c.loop.invariant.sized

pub keep-gathered-requires-clause-n_bound : goal.keep-gathered-requires-clause-n_bound
keep-gathered-requires-clause-n_bound c = omega (arith, c.in-Ok.ensures.0)

pub keep-gathered-requires-clause-count_bound : goal.keep-gathered-requires-clause-count_bound
keep-gathered-requires-clause-count_bound c = omega (arith, c.loop.invariant.most)

pub loop-preserved : goal.loop-preserved
loop-preserved c =
    let a = c.args in let g = a.glossary.now in
    going_turn g.text.now a.from a.kinds.now a.k g.words.now g.n g.records.now a.m a.s c.loop.invariant c.loop-test.true c.read_one.new.out {x = c.in-Ok.one} c.in-Ok.ensures c.keep-gathered.ensures

pub returns : goal.returns
returns c =
    let a = c.args in let g = a.glossary.now in
    going-all g.text.now a.from a.kinds.now a.k g.words.now g.n g.records.now a.m a.s c.loop.invariant c.loop-test.false
