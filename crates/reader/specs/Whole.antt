-- Whole: what reading a term that is handed to a call tells; no public contract cites it.
--
--   no_gap o            there is no gap o
--   extent_of W n k     what is told of the term k of n bytes: its words, its deepest level, whether it is complete, its first
--                      gap, its length where it has none, and whether a map in it is short
--   told_by W n r       the same of the reading r of a term of n bytes, or the number and the place with which it is refused
--   told W b           what reading the term b tells
--   whole_told r        the same of an answer
--   WholeRead W b names r   the answer r tells that, and where b is accepted names is the table of its names
--
use Rattle.std.specs.Prelude.{Result, Ok, Err, ◌≡◌, Bool, true, false, List, ℕ, length}
use Rattle.std.proofs.Math.Option.{Option, some, none}
use Rattle.wire.specs.Reply.{Kinded}
use Rattle.wire.specs.Vocabulary.{Vocabulary}
use Rattle.wire.specs.TermBytes.{word_count, deepest}
use Rattle.wire.specs.Parser.{Reading, accept, refuse}
use Rattle.wire.specs.CheckComputed.{checked_term}
use Rattle.wire.specs.GapComputed.{first_gap, gap_or}
use Rattle.wire.specs.Scan.{has_short}
use Rattle.reader.specs.Names.{TableOf}
use Rattle.reader.specs.Nodes.{number_of, place_of}
use Rattle.reader.specs.declared.whole.Extent.{Extent}
use Rattle.reader.specs.declared.refusal.TermRefusal.{TermRefusal}

abbrev pub no_gap : Option ℕ → Bool
no_gap none = true
no_gap (some q) = false

abbrev pub extent_of : Vocabulary → ℕ → Kinded → Extent
extent_of U n k = record {
  words = word_count k.term;
  deepest = deepest k.term;
  complete = no_gap (first_gap U k.term);
  gap = gap_or n (first_gap U k.term);
  short = has_short k.term;
}

abbrev pub told_by : Vocabulary → ℕ → Reading Kinded → Reading Extent
told_by U n (accept k) = accept (extent_of U n k)
told_by U n (refuse m q) = refuse m q

abbrev pub told : Vocabulary → List ℕ → Reading Extent
told U b = told_by U (length b) (checked_term U b)

abbrev pub whole_told : Result Extent TermRefusal → Reading Extent
whole_told (Ok x) = accept x
whole_told (Err why) = refuse (number_of why) (place_of why)

pub record WholeRead (U : Vocabulary) (b names : List ℕ) (r : Result Extent TermRefusal) : Type 0 where
  pub told : whole_told r ≡ told U b
  pub table : (k : Kinded) → checked_term U b ≡ accept k → TableOf U k.kind k.term names
