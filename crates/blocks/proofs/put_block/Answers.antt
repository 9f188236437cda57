-- `blocks::put_block` meets its contract.
use Rattle.pages.proofs.Pages.{adds_is, adds_then}
use Rattle.blocks.proofs.Blocks.{effect_is}
use Rattle.blocks.proofs.put_block.Goals as goal

pub returns : goal.returns
returns c = adds_then c.put.ensures (adds_then c.put_label.ensures (adds_then c.write_phrase.ensures (adds_then c.put-2.ensures (adds_then (adds_is (effect_is _ c.list-answer.ensures.has_effect) c.put_answer.ensures) c.put-3.ensures))))
