-- Cursors: what a reading that stands at a cursor has to read from there on; no public contract cites it.
--
--   gap_left n c            the gap by the number of the n bytes from it on, where the term is not complete so far
--   tally_at n c            what is told so far of the term, in n bytes
--   open_due v frames c     what is due from the cursor on
--   rest_run W v t frames seen c   what reading on gives, names seen being those
--   Going v t frames c     the cursor is one that a reading of t comes to
--
use Rattle.std.specs.Prelude.{◌≡◌, cond, List, ◌++◌, ℕ, suc, ◌-◌, ◌<◌, ◌≤◌, length, get_or, drop}
use Rattle.std.proofs.Math.Option.{Option, some, none}
use Rattle.terms.specs.Term.{Occurrence}
use Rattle.wire.specs.Vocabulary.{Vocabulary}
use Rattle.wire.specs.TermLines.{Due}
use Rattle.wire.specs.Parser.{Got}
use Rattle.wire.specs.Scan.{Tally, Scanned, run}
use Rattle.frames.specs.Frames.{FrameIn, frame_due, saved_due}
use Rattle.cursors.specs.Cursors.{complete_in, gap_in, short_in, Sound}
use Rattle.cursors.specs.declared.Cursor.{Cursor}

abbrev pub gap_left : ℕ → Cursor → Option ℕ
gap_left n c = cond (complete_in c) none (some (n - gap_in c))

abbrev pub tally_at : ℕ → Cursor → Tally
tally_at n c = record { words = c.words; deepest = c.deepest; gap = gap_left n c; short = short_in c }

-- A place below `depth` words is due at the next level.
abbrev pub open_due : List ℕ → List ℕ → Cursor → List Due
open_due v frames c = frame_due v (suc c.depth) c.due ++ saved_due v frames c.depth

abbrev pub rest_run : Vocabulary → List ℕ → List ℕ → List ℕ → List Occurrence → Cursor → Got Scanned
rest_run W v t frames seen c = run W (open_due v frames c) seen (tally_at (length t) c) (drop c.at t)

pub record Going (v t frames : List ℕ) (c : Cursor) : Type 0 where
  pub due : FrameIn v c.due
  pub saved : (i : ℕ) → i < c.depth → FrameIn v (get_or frames i 0)
  pub root : c.depth ≡ 0 → c.due ≡ 0
  pub root_saved : 0 < c.depth → get_or frames 0 0 ≡ 0
  pub shallow : c.depth ≤ 32
  pub reached : c.depth < c.deepest
  pub inside : c.at ≤ length t
  pub fewer : c.words ≤ c.at
  pub near : Sound c
  pub entries : length frames ≡ 32
