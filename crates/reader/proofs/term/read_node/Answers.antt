-- `reader::term::read_node` meets its contract.
--
--   stood-at                  what stands there, under the vocabulary of the tables
--   name-known, word-known, word-shallow    what the table of names and the tables of words have room for
--   returns to returns-5      a clash, a word without written places, a fault, a name, a word with written places
--
use mathlib.Core.Path.{sym, ap, ◌∙◌}
use Prim.Native.Nat.{◌<◌}
use native.Mathlib.Omega.{arith}
use Rattle.std.proofs.lemmas.Result.{err_from_is_err_and}
use Rattle.std.specs.Prelude.{Ok}
use Rattle.cursors.specs.Cursors.{went_down}
use Rattle.reader.proofs.Tables.{tables-of}
use Rattle.reader.proofs.Standing.{stood, node-room}
use Rattle.reader.proofs.Steps.{answers-went, answers-fault, follows_as, step-fault, step-clash, step-name, step-bare, step_down}
use Rattle.reader.proofs.term.read_node.Goals as goal

pub returns-then-clashes : goal.returns-then-clashes
returns-then-clashes c =
    let found = c.in_ok-n.was ∙ ap Ok c.in-Name.is in
    λ v u small.
    answers-fault
    (λ seen named. step-clash u c.args.kind (stood c.args.t.now c.node_at.ensures (tables-of u.tables) found) c.args.names.now (sym c.clashes.ensures ∙ c.if-clashes.true) seen named)

pub returns-then-written-eq0 : goal.returns-then-written-eq0
returns-then-written-eq0 c =
    let found = c.in_ok-n.was ∙ ap Ok c.in-Word.is in
    let inside = c.requires.at_in_bounds.0 in
    let fewer = c.requires.at_in_bounds.1 in
    let fits = c.well_formed.0.0 in
    λ v u small. answers-went (follows_as (c.word-past.ensures (omega arith) (omega arith)) (step-bare u c.args.kind (stood c.args.t.now c.node_at.ensures (tables-of u.tables) found) (omega arith) c.if-written-eq0.true))

pub returns-in_err-n : goal.returns-in_err-n
returns-in_err-n c =
    let p = err_from_is_err_and c.from_residual.result c.from_residual.ensures.1 in
    rw (p.1, p.2)
    (λ v u small. answers-fault (λ seen named. step-fault u c.args.kind (stood c.args.t.now c.node_at.ensures (tables-of u.tables) c.in_err-n.was) seen))

pub returns-else-clashes : goal.returns-else-clashes
returns-else-clashes c =
    let found = c.in_ok-n.was ∙ ap Ok c.in-Name.is in
    λ v u small.
    answers-went
    (follows_as (c.leaf.ensures (let inside = c.requires.at_in_bounds.0 in let most = c.requires.at_in_bounds.2 in omega arith) (let inside = c.requires.at_in_bounds.0 in let most = c.requires.at_in_bounds.2 in omega arith))
    (step-name u c.args.kind (stood c.args.t.now c.node_at.ensures (tables-of u.tables) found) c.args.names.now c.requires.names_len.0 small
    (sym c.clashes.ensures ∙ c.if-clashes.false)))

pub returns-else-written-eq0 : goal.returns-else-written-eq0
returns-else-written-eq0 c =
    let map-byte : c.in-Word.written < 256 = omega arith in
    let found = c.in_ok-n.was ∙ ap Ok c.in-Word.is in
    let inside = c.requires.at_in_bounds.0 in
    let fewer = c.requires.at_in_bounds.1 in
    let fits = c.well_formed.0.0 in
    let past = c.word-past.ensures (omega arith) (omega arith) in
    let depth = ap (λ d. d.depth) past in
    let room = node-room c.node_at.ensures found (λ e. e) in
    λ v u small.
    answers-went
    (follows_as (c.down.ensures (omega arith) ∙ ap (went_down c.of_word.result) past)
    (step_down u c.args.kind (stood c.args.t.now c.node_at.ensures (tables-of u.tables) found)
    (map-byte) c.if-written-eq0.false c.of_word.ensures))
