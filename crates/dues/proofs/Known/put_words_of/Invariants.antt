-- `dues::Known::put_words_of` meets its contract. The loop's invariant: with the words from i on behind what the page holds, all words of
-- the kind are behind what it held.
use Prim.Native.Nat.{◌-◌, min}
use lib.ListN.{length}
use Rattle.texts.specs.Complaints.{alternatives}
use Rattle.dues.specs.Parts.{known_of, due_words}
use Rattle.pages.proofs.Turns.{Left}
use Rattle.dues.proofs.Known.put_words_of.Given as goal

abbrev pub invariant-loop-i : goal.invariant-loop-i
invariant-loop-i l =
    Left l.initial.page.bytes l.initial.page.end l.page.bytes l.page.end (alternatives (known_of l.self) l.kind (min l.self.word_count (length l.self.words.now) - l.i) l.i l.again) (due_words (known_of l.self) l.kind)
