-- `encoder::put_words` meets its contract.
use Rattle.encoder.proofs.Words.{put_none, put-more, put_all}
use Rattle.encoder.proofs.put_words.Goals as goal

pub loop-f-init : goal.loop-f-init
loop-f-init c = put_none c.args.k c.args.n c.args.records.now c.args.out.now c.told-out

pub loop-f-preserved : goal.loop-f-preserved
loop-f-preserved c = put-more c.loop-f.invariant c.loop-f-test.true c.put_word-at.ensures

pub returns : goal.returns
returns c = put_all c.loop-f.invariant c.requires c.loop-f-test.false
