-- `paragraphs::behind_asking` meets its contract.
use Rattle.paragraphs.proofs.Offsets.{behind-asking}
use Rattle.paragraphs.proofs.behind_asking.Goals as goal

pub returns : goal.returns
returns c = behind-asking _ _ _ _ _ _ c.requires c.start-label.ensures c.end.ensures c.start-asking.ensures c.end-2.ensures
