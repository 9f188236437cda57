-- PrintComputed: the text that document 01's program `leftovers` prints for its standard input, computed.
--
-- This file is an algorithm, and nothing in it has to be believed: PrintKeeps and MoreAltersNothing (Laws) fix what it gives.
--
--   entries_under, entries_with, entries_left v p    the bytes of each entry of the listing; none where an input is refused
--   reported r es              the text of a reply
--   printed_from v p            the text for a vocabulary and a pattern
--   printed b                  the text for the standard input b
--
use Rattle.std.specs.Prelude.{List, [], map, ℕ, take, replicate}
use Rattle.wire.specs.Reply.{Reply, accepted, refused, Kinded}
use Rattle.wire.specs.Vocabulary.{Vocabulary}
use Rattle.wire.specs.TermBytes.{encode_term}
use Rattle.wire.specs.Printing.{most_input, listing_space, vocabulary_part, pattern_part, listing_text, refusal_text}
use Rattle.wire.specs.Parser.{Reading, accept, refuse, read_vocabulary}
use Rattle.wire.specs.ListComputed.{checked_linear, leftovers_of, listed}

abbrev pub entries_under : Vocabulary → Reading Kinded → List (List ℕ)
entries_under W (refuse n q) = []
entries_under W (accept k) = map (λ (e : Kinded). encode_term W e.kind e.term) (leftovers_of W k.kind k.term)

abbrev pub entries_with : List ℕ → Reading Vocabulary → List (List ℕ)
entries_with p (refuse n q) = []
entries_with p (accept W) = entries_under W (checked_linear W p)

abbrev pub entries_left : List ℕ → List ℕ → List (List ℕ)
entries_left v p = entries_with p (read_vocabulary v)

abbrev pub reported : Reply → List (List ℕ) → List ℕ
reported (refused n i q) es = refusal_text n i q
reported (accepted values) es = listing_text es

abbrev pub printed_from : List ℕ → List ℕ → List ℕ
printed_from v p = reported (listed v p (replicate listing_space 0)).reply (entries_left v p)

abbrev pub printed : List ℕ → List ℕ
printed b = let taken : List ℕ = take most_input b in printed_from (vocabulary_part taken) (pattern_part taken)
