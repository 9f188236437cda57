-- EntryCut: where an entry of a listing ends, found without the vocabulary by counting the terms that are still due.
--
-- This file is an algorithm, and nothing in it has to be believed: no promise cites it, and `cut-entries` (proofs/EntryCut)
-- fixes what it gives.
--
--   due_by m           how many terms a map that is read makes due; none where a byte of it is missing
--   due_in skip l k    how many bytes the first `skip` bytes of l and k terms behind them take
--   due_size l k       how many bytes k terms take at the front of l
--   entry_size l       how many bytes an entry takes at the front of l, with its kind byte
--   cut_entries n l    n entries off the front of l
--
use Rattle.std.specs.Prelude.{cond, List, [], ◌∷◌, ℕ, zero, suc, ◌+◌, ltb, take, drop}
use Rattle.wire.specs.Map.{map_bytes, MapRead, map_got, map_missing, read_map, flags, ones}
use Rattle.wire.specs.TermBytes.{first_name_byte}

abbrev pub due_by : MapRead → ℕ
due_by (map_got m r) = ones (flags m)
due_by (map_missing r) = 0

-- A word's number is followed by its map, which makes as many terms due as it has ones; every other byte is a term.
abbrev pub due_in : ℕ → List ℕ → ℕ → ℕ
due_in skip [] k = 0
due_in (suc skip) (b ∷ l) k = suc (due_in skip l k)
due_in zero (b ∷ l) zero = 0
due_in zero (b ∷ l) (suc k) = suc (cond (ltb b first_name_byte) (due_in map_bytes l (due_by (read_map l) + k)) (due_in zero l k))

abbrev pub due_size : List ℕ → ℕ → ℕ
due_size l k = due_in zero l k

abbrev pub entry_size : List ℕ → ℕ
entry_size [] = 0
entry_size (s ∷ l) = suc (due_size l 1)

abbrev pub cut_entries : ℕ → List ℕ → List (List ℕ)
cut_entries zero l = []
cut_entries (suc n) l = take (entry_size l) l ∷ cut_entries n (drop (entry_size l) l)
