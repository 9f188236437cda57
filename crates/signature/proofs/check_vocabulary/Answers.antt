-- `signature::check_vocabulary` meets its contract.
use Rattle.wire.proofs.Checking.{vocabulary_promised}
use Rattle.signature.proofs.check_vocabulary.Goals as goal

pub returns-clause-vocabulary_promise : goal.returns-clause-vocabulary_promise
returns-clause-vocabulary_promise c = vocabulary_promised c.args.vocabulary.now _ (λ i. (c.type_inv.vocabulary i).fits) c.load.ensures.answer
