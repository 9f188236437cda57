-- `complaints::put_reason` meets its contract.
use Rattle.texts.specs.Lexemes.{lexemes_from, token_at}
use Rattle.texts.specs.Complaints.{token_behind, commas_in}
use Rattle.pages.proofs.Pages.{adds_is}
use Rattle.dues.specs.Parts.{known_of}
use Rattle.complaints.proofs.Told.{reason_opens}
use Rattle.complaints.proofs.put_reason.Goals as goal

pub returns-then-opens : goal.returns-then-opens
returns-then-opens c = let s = c.args in
    let text = s.known.now.text.now in
    adds_is (reason_opens (known_of s.known.now) s.why s.at s.of (token_at text s.at) (token_behind text s.at) (commas_in 0 (lexemes_from text s.at)) c.names_kind.ensures c.if-names_kind.false c.opens.ensures c.if-opens.true) c.put.ensures
