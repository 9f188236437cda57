-- `wording::Tables::write_term` and `write_behind` meet their contracts.
use native.Mathlib.Omega.{arith}
use Rattle.texts.specs.Saying.{say_term}
use Rattle.wording.specs.Tables.{tables_of}
use Rattle.wording.specs.Says.{Says, say_place}
use Rattle.wording.proofs.Saying.{says-variable, says-word, behind_none, behind_some, place-written, place_open}
use Rattle.wording.proofs.Placing.{placing_none, placing_turn, placing_all}
use Rattle.wording.proofs.Tables.+terms.Goals as goal
use Rattle.wording.proofs.Tables.+terms.Goals.{write_behind-then-map-eq1, write_behind-else-map-eq1}

pub write_behind-returns-then-n-eq0 : goal.write_behind-returns-then-n-eq0
write_behind-returns-then-n-eq0 t c =
    behind_none (say_term (tables_of c.args.self.now) c.args.left) c.args.n c.args.bytes.now (omega arith) _ c.if-n-eq0.true

pub write_behind-loop-i-init : goal.write_behind-loop-i-init
write_behind-loop-i-init t c =
    placing_none (behind_some (say_term (tables_of c.args.self.now) c.args.left) c.args.n c.args.bytes.now (omega arith) c.if-n-eq0.false c.read-map.ensures)

pub write_behind-loop-i-preserved : goal.write_behind-loop-i-preserved
write_behind-loop-i-preserved t c =
    let sayer = say_term (tables_of c.args.self.now) c.args.left in
    let placed : Says (say_place sayer c.loop-i.map c.loop-i.rest.now) c.put_separator.new.page c.if-map-eq1.page c.if-map-eq1.rest.now =
    elim c.if-map-eq1.branch [
      | write_behind-then-map-eq1 w ↦ rw (w.page-is, w.rest-is) (place-written sayer c.loop-i.map c.loop-i.rest.now w.if-map-eq1.true w.write_term-rest.ensures)
      | write_behind-else-map-eq1 w ↦ rw (w.page-is, w.rest-is) (place_open sayer c.loop-i.map c.loop-i.rest.now w.if-map-eq1.false w.put.ensures)
    ]
    in
    placing_turn c.loop-i.invariant c.loop-i-test.true c.put_separator.ensures placed

pub write_behind-returns : goal.write_behind-returns
write_behind-returns t c = placing_all c.loop-i.invariant (omega arith) c.put-2.ensures

pub write_term-returns-then-first-lt-FIRST_NAME_BYTE : goal.write_term-returns-then-first-lt-FIRST_NAME_BYTE
write_term-returns-then-first-lt-FIRST_NAME_BYTE t c =
    says-word (tables_of c.args.self.now) c.args.left c.args.bytes.now c.if-left-eq0.false (omega arith) (omega arith) c.from-word.ensures c.put_name.ensures c.place_count.ensures c.write_behind.ensures

pub write_term-returns : goal.write_term-returns
write_term-returns t c =
    says-variable (tables_of c.args.self.now) c.args.left c.args.bytes.now c.if-left-eq0.false (omega arith) c.if-first-lt-FIRST_NAME_BYTE.false c.from.ensures c.put_name-2.ensures
