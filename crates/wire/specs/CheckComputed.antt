-- CheckComputed: the replies of document 01's calls "check", computed.
--
-- This file is an algorithm, and nothing in it has to be believed: LimitsAreATest, VocabularyKeeps and TermKeeps (Laws) fix
-- what it gives.
--
--   reply_of i v r           the reading r of input i as a reply, with the values v of what is accepted
--   checked_term W b         reading a term handed to a call, with its limits
--   vocabulary_reply v       the reply of checking a vocabulary
--   term_values W n k        the values that the reply of an accepted term of n bytes holds
--   term_reply_under b r      the reply of checking a term, where r is the reading of the vocabulary
--   term_reply v b           the reply of checking a term under a vocabulary
--
use Rattle.std.specs.Prelude.{cond, List, [], ◌∷◌, ℕ, length}
use Rattle.wire.specs.Reply.{Reply, accepted, refused, Kinded, outside}
use Rattle.wire.specs.Map.{bit}
use Rattle.wire.specs.Vocabulary.{Vocabulary}
use Rattle.wire.specs.TermBytes.{word_count, deepest, least_bytes, most_bytes, most_levels, complete}
use Rattle.wire.specs.Parser.{Reading, accept, refuse, read_vocabulary, read_whole}
use Rattle.wire.specs.GapComputed.{first_gap, gap_or}

abbrev pub reply_of : {A : Type 0} → ℕ → (A → List ℕ) → Reading A → Reply
reply_of input values (accept a) = accepted (values a)
reply_of input values (refuse n q) = refused n input q

abbrev pub checked_term : Vocabulary → List ℕ → Reading Kinded
checked_term W b = cond (outside least_bytes most_bytes (length b)) (refuse 7 0) (read_whole W most_levels b)

abbrev pub vocabulary_reply : List ℕ → Reply
vocabulary_reply v = reply_of 0 (λ W. []) (read_vocabulary v)

abbrev pub term_values : Vocabulary → ℕ → Kinded → List ℕ
term_values W n k = word_count k.term ∷ deepest k.term ∷ bit (complete k.term) ∷ gap_or n (first_gap W k.term) ∷ []

abbrev pub term_reply_under : List ℕ → Reading Vocabulary → Reply
term_reply_under b (refuse n q) = refused n 0 q
term_reply_under b (accept W) = reply_of 1 (term_values W (length b)) (checked_term W b)

abbrev pub term_reply : List ℕ → List ℕ → Reply
term_reply v b = term_reply_under b (read_vocabulary v)
