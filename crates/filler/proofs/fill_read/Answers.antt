-- `filler::fill_read` meets its contract.
use mathlib.Core.Path.{refl}
use Rattle.filler.proofs.Calls.{measurable, size-known, writable, fill-large, fill-short, fill-written}
use Rattle.filler.proofs.fill_read.Goals as goal

pub measure-requires : goal.measure-requires
measure-requires c =
    measurable c.requires c.args.out.now c.most_levels.ensures refl

pub returns-in_default : goal.returns-in_default
returns-in_default c = λ a.
    let out = c.args.out.now in
    fill-large a out (size-known a out c.most_levels.ensures refl c.in_default.ensures)

pub returns-then-out-n : goal.returns-then-out-n
returns-then-out-n c = λ a.
    let out = c.args.out.now in
    fill-short a out _ (size-known a out c.most_levels.ensures refl c.in-Some.ensures) c.if-out-n.true

pub write-requires : goal.write-requires
write-requires c =
    let out = c.args.out.now in
    writable c.requires out _ (size-known c.requires out c.most_levels.ensures refl c.in-Some.ensures) c.if-out-n.false

pub returns : goal.returns
returns c = λ a.
    let out = c.args.out.now in
    fill-written a out _ (size-known a out c.most_levels.ensures refl c.in-Some.ensures) c.if-out-n.false _ c.write.ensures
