-- ListComputed: the reply of document 01's call "list" and the lent slice after it, computed.
--
-- This file is an algorithm, and nothing in it has to be believed: LinearRefusals, ListKeeps and EntriesInverse (Laws) fix
-- what it gives.
--
--   repeated_in seen l        the earliest byte at which a name stands again, found from left to right
--   linear_of, linear_in       line 18, once the term is read
--   checked_linear W b        reading a pattern to be listed
--   entries_of W s t          document 01's entries of a pattern, each with its kind
--   listing_bytes W s t       the bytes of these entries
--   leftovers_of W s t        the entries of a pattern, as document 02 (iv) has them, each with its kind
--   listed_vocabulary, listed_pattern, listed_into    the parts of the next, in the order in which they are judged
--   listed v p out           the reply of list, and the lent slice after it
--   read_entry, read_entries   whole patterns read off the front of some bytes
--
use Rattle.std.specs.Prelude.{true, cond, List, [], ◌∷◌, ◌++◌, map, ℕ, leb, ltb, length, drop}
use Rattle.std.proofs.Math.Option.{Option, some, none}
use Rattle.terms.specs.Lists.{occurs}
use Rattle.terms.specs.Term.{Term}
use Rattle.terms.specs.Listing.{listing}
use Rattle.terms.specs.Productive.{listing_of}
use Rattle.wire.specs.Reply.{accepted, refused, Kinded, kinded}
use Rattle.wire.specs.Vocabulary.{Vocabulary, signature}
use Rattle.wire.specs.PatternLines.{Sighting, sightings}
use Rattle.wire.specs.Leftovers.{entries_bytes}
use Rattle.wire.specs.Effect.{Effect}
use Rattle.wire.specs.Parser.{Reading, accept, refuse, Got, got, stop, and_then, read_alike, read_term, read_vocabulary}
use Rattle.wire.specs.CheckComputed.{checked_term}

abbrev pub repeated_in : List ℕ → List Sighting → Option ℕ
repeated_in seen [] = none
repeated_in seen (o ∷ l) = cond (occurs o.name seen) (some o.offset) (repeated_in (o.name ∷ seen) l)

abbrev pub linear_of : Kinded → Option ℕ → Reading Kinded
linear_of k (some q) = refuse 18 q
linear_of k none = accept k

abbrev pub linear_in : Vocabulary → Reading Kinded → Reading Kinded
linear_in W (refuse n q) = refuse n q
linear_in W (accept k) = linear_of k (repeated_in [] (sightings W k.term))

abbrev pub checked_linear : Vocabulary → List ℕ → Reading Kinded
checked_linear W b = linear_in W (checked_term W b)

abbrev pub entries_of : Vocabulary → ℕ → Term → List Kinded
entries_of W s t = map (kinded s) (listing (signature W) t)

abbrev pub listing_bytes : Vocabulary → ℕ → Term → List ℕ
listing_bytes W s t = entries_bytes W (entries_of W s t)

abbrev pub leftovers_of : Vocabulary → ℕ → Term → List Kinded
leftovers_of W s t = map (kinded s) (listing_of (signature W) s t)

-- "the answer is the number of entries and of bytes"; "Bytes behind the last entry stay unchanged."
abbrev pub listed_into : List ℕ → ℕ → List ℕ → Effect
listed_into out n b =
    cond (leb (length b) (length out))
    (record { reply = accepted (n ∷ length b ∷ []); after = b ++ drop (length b) out })
    (record { reply = refused 20 3 (length b); after = out })

abbrev pub listed_pattern : Vocabulary → List ℕ → Reading Kinded → Effect
listed_pattern W out (refuse n q) = record { reply = refused n 1 q; after = out }
listed_pattern W out (accept k) =
    let entries : List Kinded = leftovers_of W k.kind k.term in
    listed_into out (length entries) (entries_bytes W entries)

abbrev pub listed_vocabulary : List ℕ → List ℕ → Reading Vocabulary → Effect
listed_vocabulary p out (refuse n q) = record { reply = refused n 0 q; after = out }
listed_vocabulary p out (accept W) = listed_pattern W out (checked_linear W p)

abbrev pub listed : List ℕ → List ℕ → List ℕ → Effect
listed v p out = listed_vocabulary p out (read_vocabulary v)

-- One whole pattern off the front of some bytes; a term has no more levels than bytes.
abbrev pub read_entry : Vocabulary → List ℕ → Got Kinded
read_entry W [] = stop 7 []
read_entry W (s ∷ l) =
    cond (ltb s W.kinds) (and_then (read_term W (length l) true s [] l) (λ a r. got (kinded s a.term) r)) (stop 8 (s ∷ l))

-- n whole patterns, one behind the other.
abbrev pub read_entries : Vocabulary → ℕ → List ℕ → Got (List Kinded)
read_entries W n b = read_alike (read_entry W) n b
