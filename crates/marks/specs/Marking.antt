-- Marking: for each subterm of a pattern's term its size in bytes and how many entries its listing has, noted at its offset.
--
-- The first part is an algorithm, and nothing in it has to be believed: MarksRight fixes what it gives.
--
--   mark_scale                  a note is the size and so many times the entries (8192)
--   sibling_at siblings f       how many others the result kind of the word f has, by a table of siblings; 0 where f is no word's byte
--   Marking                    how far the notes have come: the offset behind a term, its entries, and the table
--   then x next                what is noted next
--   with_note at x              x, with its size from the offset `at` on and its entries noted there
--   mark_places rec fs at n m   the terms of the written bits fs from the offset `at` on, each noted by rec; n entries so far
--   head_size l at              how many bytes the term of l at the offset `at` has before those below it
--   bits_below l at             the map of the word at the offset `at`, no bit where no word stands there
--   mark_below rec s l at m     the terms below the word of l at the offset `at`, with the word's own entries
--   mark_term left s l at m     the term of l at the offset `at`, with so many levels left
--   table_of x                  the table
--   marked siblings l m        what mark leaves in the table
--   entry_count S t              how many entries the listing of t has
--   MarksOf W t m, MarksOfAll W ts m   the table m has at its front the notes of t, or of ts
--   MarksRight                 a pattern's notes are right
--
use Rattle.std.specs.Prelude.{◌≡◌, Bool, true, false, cond, List, [], ◌∷◌, ◌++◌, ℕ, zero, suc, ◌+◌, ◌-◌, ◌*◌, ◌<◌, ◌≤◌, ltb, length, get_or, take, drop, set}
use Rattle.terms.specs.Signature.{Signature}
use Rattle.terms.specs.Term.{Term, any, var, app, Terms, nil, cons, Sorted}
use Rattle.terms.specs.Listing.{listing}
use Rattle.wire.specs.Map.{map_bytes, flags}
use Rattle.wire.specs.Vocabulary.{Vocabulary, InOrder, signature, word}
use Rattle.wire.specs.TermBytes.{first_name_byte, encode_at, encode_root, levels, most_bytes, most_levels}
use Rattle.maps.specs.Reading.{map_at}
use Rattle.extents.specs.Bytes.{term_byte}
use Rattle.kinds.specs.Kinds.{SiblingTable}

abbrev pub mark_scale : ℕ
mark_scale = 8192

abbrev pub sibling_at : List ℕ → ℕ → ℕ
sibling_at siblings f = cond (ltb f first_name_byte) (get_or siblings (256 + f) 0) 0

pub data Marking : Type 0 where
  marking : ℕ → ℕ → List ℕ → Marking

abbrev pub then : Marking → (ℕ → ℕ → List ℕ → Marking) → Marking
then (marking at n m) next = next at n m

abbrev pub with_note : ℕ → Marking → Marking
with_note at (marking end n m) = marking end n (set m at (end - at + mark_scale * n))

abbrev pub mark_places : (ℕ → List ℕ → Marking) → List Bool → ℕ → ℕ → List ℕ → Marking
mark_places rec [] at n m = marking at n m
mark_places rec (false ∷ fs) at n m = mark_places rec fs at n m
mark_places rec (true ∷ fs) at n m = then (rec at m) (λ end k r. mark_places rec fs end (n + k) r)

abbrev pub head_size : List ℕ → ℕ → ℕ
head_size l at = cond (ltb at (length l)) (cond (ltb (term_byte l at) first_name_byte) (1 + map_bytes) 1) 0

abbrev pub bits_below : List ℕ → ℕ → ℕ
bits_below l at = cond (ltb (term_byte l at) first_name_byte) (map_at l (at + 1)) 0

unfoldable pub mark_below : (ℕ → List ℕ → Marking) → List ℕ → List ℕ → ℕ → List ℕ → Marking
mark_below rec siblings l at m = mark_places rec (flags (bits_below l at)) (at + head_size l at) (sibling_at siblings (term_byte l at)) m

unfoldable pub mark_term : ℕ → List ℕ → List ℕ → ℕ → List ℕ → Marking
mark_term zero siblings l at m = marking at 0 m
mark_term (suc left) siblings l at m = with_note at (mark_below (mark_term left siblings l) siblings l at m)

abbrev pub table_of : Marking → List ℕ
table_of (marking at n m) = m

abbrev pub marked : List ℕ → List ℕ → List ℕ → List ℕ
marked siblings l m = table_of (mark_term most_levels siblings (take most_bytes l) 0 m)

-- ---- on trees

abbrev pub entry_count : Signature → Term → ℕ
entry_count S t = length (listing S t)

-- An open place has no note.
abbrev mutual
  pub MarksOf : Vocabulary → Term → List ℕ → Type 0
  MarksOf W any m = Unit {0}
  MarksOf W (var n) m = get_or m 0 0 ≡ 1
  MarksOf W (app f ts) m =
      (get_or m 0 0 ≡ length (encode_at W (app f ts)) + mark_scale * entry_count (signature W) (app f ts)) × MarksOfAll W ts (drop (1 + map_bytes) m)

  pub MarksOfAll : Vocabulary → Terms → List ℕ → Type 0
  MarksOfAll W nil m = Unit {0}
  MarksOfAll W (cons t ts) m = MarksOf W t m × MarksOfAll W ts (drop (length (encode_at W t)) m)

abbrev pub MarksRight : Type 0
MarksRight = (W : Vocabulary) → InOrder W → (results siblings : List ℕ) →
    ((f : ℕ) → f < length W.words → get_or results f 0 ≡ (word W f).result) → SiblingTable (length W.words) results siblings →
    (p : Term) (s : ℕ) → Sorted (signature W) p s → levels p ≤ most_levels → length (encode_root W p) < most_bytes →
    (r m : List ℕ) → length (encode_root W p) ≤ length m → MarksOf W p (marked siblings (encode_root W p ++ r) m)
