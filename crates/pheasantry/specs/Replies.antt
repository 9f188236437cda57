-- Replies: what each exported call promises of the numbers in which it replies.
--
--   VocabularyReplied      what checking a vocabulary promises
--   TermReplied            what checking a term promises
--   MatchReplied           what match promises
--   PartReplied            what part promises
--   ListReplied            what list promises
--   FillReplied            what fill promises
--   BookReplied            what list_book promises
--
-- In each, `form` says that the numbers are those of the reply that they say, and `promise` is what the call
-- promises of that reply.
--
use Rattle.std.specs.Prelude.{◌≡◌, List, [], ◌∷◌, ℕ}
use Rattle.wire.specs.Reply.{accepted}
use Rattle.wire.specs.Checking.{VocabularyPromise, TermPromise}
use Rattle.wire.specs.Matching.{cut_out, MatchPromise, PartPromise}
use Rattle.wire.specs.Leftovers.{ListPromise}
use Rattle.wire.specs.Filled.{FillPromise}
use Rattle.wire.specs.BookLeftovers.{BookPromise}
use Rattle.numbers.specs.Numbers.{reply_numbers, reply_in, span_said}

pub record VocabularyReplied (v numbers : List ℕ) : Type 0 where
  pub form : numbers ≡ reply_numbers (reply_in 0 numbers)
  pub promise : VocabularyPromise v (reply_in 0 numbers)

pub record TermReplied (v b numbers : List ℕ) : Type 0 where
  pub form : numbers ≡ reply_numbers (reply_in 4 numbers)
  pub promise : TermPromise v b (reply_in 4 numbers)

pub record MatchReplied (v p s before after numbers : List ℕ) : Type 0 where
  pub form : numbers ≡ reply_numbers (reply_in 1 numbers)
  pub promise : MatchPromise v p s before after (reply_in 1 numbers)

-- Part is never refused. The numbers cut the very part out of the lent situation.
pub record PartReplied (v p s : List ℕ) (n : ℕ) (numbers : List ℕ) : Type 0 where
  pub form : numbers ≡ reply_numbers (accepted ((span_said numbers).offset ∷ (span_said numbers).bytes ∷ []))
  pub promise : PartPromise v p s n (span_said numbers) (cut_out s (span_said numbers))

pub record ListReplied (v p before after numbers : List ℕ) : Type 0 where
  pub form : numbers ≡ reply_numbers (reply_in 2 numbers)
  pub promise : ListPromise v p before after (reply_in 2 numbers)

pub record FillReplied (v p b before after numbers : List ℕ) : Type 0 where
  pub form : numbers ≡ reply_numbers (reply_in 1 numbers)
  pub promise : FillPromise v p b before after (reply_in 1 numbers)

pub record BookReplied (v b before after numbers : List ℕ) : Type 0 where
  pub form : numbers ≡ reply_numbers (reply_in 2 numbers)
  pub promise : BookPromise v b before after (reply_in 2 numbers)
