-- `verdicts::put_question` meets its contract.
use Rattle.pages.proofs.Pages.{adds_then}
use Rattle.verdicts.proofs.Asked.{puts_question}
use Rattle.verdicts.proofs.put_question.Goals as goal

pub returns : goal.returns
returns c = puts_question c.args.text.now c.args.label c.args.at c.next.ensures c.skip_places-end.ensures c.next-2.ensures c.next-from.ensures
    (adds_then c.put.ensures (adds_then c.put_token.ensures (adds_then c.put-2.ensures (adds_then c.put_tokens.ensures (adds_then c.put-3.ensures (adds_then c.put_verdict.ensures c.put-4.ensures))))))
