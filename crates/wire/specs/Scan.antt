-- Scan: a term read node by node, with a list of what is due, and what is told of it.
--
-- This file is an algorithm, and nothing in it has to be believed: scan-reads (proofs/Scan) says that it tells what Parser
-- reads.
--
--   every_written ks           each of the slots ks is written
--   Tally                     words and deepest level so far, where the first gap was, and whether a map was short
--   with_word, with_leaf        the tally behind a word, and behind a name or 255
--   Scanned                   what a scan gives: a tally and the names seen
--   scan_node, scan W n due seen y l    what is due, read off the bytes l in at most n steps
--   run                       scan with a step for each byte, and one to end
--   root_due s, no_tally        a scan's beginning, of a term of kind s
--   gap_here W t               the first gap of the term t, counted from its own first byte
--   left_from n o              the offset o of n bytes as the number of bytes from there on
--   has_short t, some_short ts  some word of t, or of ts, has a short map
--   tallied W l x             what read_term gives off the bytes l, told as a scan tells it
--
use Rattle.std.specs.Prelude.{Bool, true, false, not, ◌&&◌, ◌||◌, cond, List, [], ◌∷◌, ◌++◌, ℕ, zero, suc, ◌+◌, ◌-◌, max, ltb, length}
use Rattle.std.proofs.Math.Option.{Option, some, none}
use Rattle.terms.specs.Lists.{or_else}
use Rattle.terms.specs.Term.{Term, any, var, app, Terms, nil, cons, Occurrence}
use Rattle.wire.specs.Map.{map_bytes, Slot}
use Rattle.wire.specs.Vocabulary.{Vocabulary}
use Rattle.wire.specs.TermBytes.{word_count, deepest, most_levels}
use Rattle.wire.specs.TermLines.{Due, due_at}
use Rattle.wire.specs.Parser.{Got, got, stop, Node, word_here, name_here, whole_here, fault, node, at_limit, Read}
use Rattle.wire.specs.GapComputed.{some_open, gap_from}

abbrev pub every_written : List Slot → Bool
every_written [] = true
every_written (k ∷ ks) = k.written && every_written ks

-- The gap is told by the number of bytes from it on.
pub record Tally : Type 0 where
  pub words : ℕ
  pub deepest : ℕ
  pub gap : Option ℕ
  pub short : Bool

-- A word at a level with the slots ks, its map just before the bytes r.
abbrev pub with_word : ℕ → List Slot → List ℕ → Tally → Tally
with_word level ks r y = record {
  words = y.words + 1;
  deepest = max y.deepest level;
  gap = or_else y.gap (cond (every_written ks) none (some (map_bytes + length r)));
  short = y.short || not (every_written ks);
}

-- A name or 255 at a level, just before the bytes r.
abbrev pub with_leaf : ℕ → List ℕ → Tally → Tally
with_leaf level r y = record {
  words = y.words;
  deepest = max y.deepest level;
  gap = or_else y.gap (some (suc (length r)));
  short = y.short;
}

pub record Scanned : Type 0 where
  pub tally : Tally
  pub seen : List Occurrence

-- How a scan goes on behind a node of what is due first.
abbrev pub scan_node : (List Due → List Occurrence → Tally → List ℕ → Got Scanned) → Due → List Due → List Occurrence → Tally → Node → Got Scanned
scan_node go d ds seen y (word_here f ks r) = go (due_at (suc d.level) ks ++ ds) seen (with_word d.level ks r y) r
scan_node go d ds seen y (name_here k r) = go ds (seen ++ (record { name = k; sort = d.sort } ∷ [])) (with_leaf d.level r y) r
scan_node go d ds seen y (whole_here r) = go ds seen (with_leaf d.level r y) r
scan_node go d ds seen y (fault k r) = stop k r

abbrev pub scan : Vocabulary → ℕ → List Due → List Occurrence → Tally → List ℕ → Got Scanned
scan W zero due seen y l = stop 0 l
scan W (suc n) [] seen y l = got (record { tally = y; seen = seen }) l
scan W (suc n) (d ∷ ds) seen y l =
    elim (ltb most_levels d.level) [
      | true ↦ at_limit l
      | false ↦ scan_node (scan W n) d ds seen y (node W d.root d.sort seen l)
    ]

abbrev pub run : Vocabulary → List Due → List Occurrence → Tally → List ℕ → Got Scanned
run W due seen y l = scan W (suc (length l)) due seen y l

abbrev pub root_due : ℕ → Due
root_due s = record { sort = s; level = 1; root = true }

abbrev pub no_tally : Tally
no_tally = record { words = 0; deepest = 0; gap = none; short = false }

abbrev pub gap_here : Vocabulary → Term → Option ℕ
gap_here W any = some 0
gap_here W (var n) = some 0
gap_here W (app f ts) = gap_from W (app f ts) 0

abbrev pub left_from : ℕ → Option ℕ → Option ℕ
left_from n none = none
left_from n (some q) = some (n - q)

abbrev mutual
  pub has_short : Term → Bool
  has_short any = false
  has_short (var n) = false
  has_short (app f ts) = some_open ts || some_short ts

  pub some_short : Terms → Bool
  some_short nil = false
  some_short (cons t ts) = has_short t || some_short ts

abbrev pub tallied : Vocabulary → List ℕ → Got Read → Got Scanned
tallied W l (got a r) = got (record {
  tally = record {
    words = word_count a.term;
    deepest = deepest a.term;
    gap = left_from (length l) (gap_here W a.term);
    short = has_short a.term;
  };
  seen = a.seen;
}) r
tallied W l (stop n r) = stop n r
