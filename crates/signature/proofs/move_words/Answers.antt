-- `signature::move_words` meets its contract. The loop's invariant: the words passed had their turn. The measure is the number of words left.
use Rattle.signature.proofs.Rounds.{turn_inside}
use Rattle.signature.proofs.move_words.Goals as goal

pub places_covered-requires-clause-places_inside : goal.places_covered-requires-clause-places_inside
places_covered-requires-clause-places_inside c = turn_inside _ _ _ _ _ c.requires.filled_counted _ c.loop-w-test.true c.requires.v_bound
