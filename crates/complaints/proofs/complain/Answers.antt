-- `complaints::complain` meets its contract.
use Rattle.pages.proofs.Pages.{adds_then, adds_then_is}
use Rattle.dues.specs.Parts.{known_of}
use Rattle.complaints.proofs.Told.{told}
use Rattle.complaints.proofs.complain.Goals as goal

pub returns : goal.returns
returns c = let s = c.args in
    adds_then_is c.put_place.ensures (adds_then c.put_reason.ensures c.put_picture.ensures)
    (told s.known.now.text.now (known_of s.known.now) s.why s.at s.of c.front-before.ensures c.line_start-start.ensures c.rest-last.ensures c.rest.ensures)
