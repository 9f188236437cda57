-- `lexicon::step_place` meets its contract.
use lib.ListN.{take}
use Rattle.texts.specs.Tabled.{names_in}
use native.Mathlib.Omega.{arith}
use Rattle.faults.proofs.Numbers.{reason-absent}
use Rattle.lexicon.proofs.Steps.{place-fails, place-known, place_stored}
use Rattle.lexicon.proofs.Whys.{names-length}
use borrow.Author.Rules.{rules}
use Rattle.lexicon.proofs.step_place.Goals as goal

pub returns-in-Some : goal.returns-in-Some
returns-in-Some c =
    place-fails c.args.text.now c.args.c c.args.at c.requires.tables (names_in c.args.text.now (take c.args.k c.args.kinds.now)) c.places_last-m.ensures c.in-Some.ensures

pub overflow_cast-kind : goal.overflow_cast-kind
overflow_cast-kind c =
    record { fits = omega (arith, (place-known c.args.text.now c.args.c c.args.at c.requires.tables (names_in c.args.text.now (take c.args.k c.args.kinds.now)) c.places_last-m.ensures (reason-absent _ _ c.place_why.ensures c.in_default.not-Some)).0, names-length c.args.text.now c.args.kinds.now c.args.k (search rules), c.find-kind.ensures, c.requires.k_le_most_kinds) }

pub returns : goal.returns
returns c =
    place_stored c.args.text.now c.args.c c.args.at c.requires.tables (names_in c.args.text.now (take c.args.k c.args.kinds.now)) c.places_last-m.ensures (reason-absent _ _ c.place_why.ensures c.in_default.not-Some) c.find-kind.ensures c.add_place.ensures
