-- Putting: what the functions that put a text together promise each other; no public contract cites it.
--
--   Put bytes before at next after   the bytes are put at an offset; those before and behind them are as before
--   cut_text n l                      the text for n entries that stand at the front of l
--   answer_text r l                   the text for the reply r of list, with l in the lent slice
--   TextFits r l m                   that text is at most m bytes long, unless it is a refusal's
--
use Rattle.std.specs.Prelude.{◌≡◌, List, [], ◌∷◌, ◌++◌, ℕ, ◌+◌, ◌≤◌, length, take, drop}
use Rattle.wire.specs.Reply.{Reply, accepted, refused}
use Rattle.wire.specs.Printing.{listing_text, refusal_text}
use Rattle.wire.specs.EntryCut.{cut_entries}

pub record Put (bytes before : List ℕ) (at next : ℕ) (after : List ℕ) : Type 0 where
  pub behind : next ≡ at + length bytes
  pub same : after ≡ take at before ++ (bytes ++ drop next before)

abbrev pub cut_text : ℕ → List ℕ → List ℕ
cut_text n l = listing_text (cut_entries n l)

abbrev pub answer_text : Reply → List ℕ → List ℕ
answer_text (refused n i q) l = refusal_text n i q
answer_text (accepted []) l = []
answer_text (accepted (n ∷ values)) l = cut_text n l

abbrev pub TextFits : Reply → List ℕ → ℕ → Type 0
TextFits (refused n i q) l m = Unit {0}
TextFits (accepted []) l m = Unit {0}
TextFits (accepted (n ∷ values)) l m = length (cut_text n l) ≤ m
