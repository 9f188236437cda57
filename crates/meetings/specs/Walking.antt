-- Walking: whether an entry and a pattern share a situation, and by how many entries the entry is then replaced; both are
-- walked at once.
--
-- The first part is an algorithm, and nothing in it has to be believed: MeetingRight fixes what it gives.
--
--   Walk                       a walk over an entry and a pattern parts, or it has come to an offset of the entry with so many entries
--   reached i n                the latter
--   size_in x, entries_in x      the size and the number of entries of a note
--   onward w next              what is met behind w
--   meet_places rec e m es ps i j n   the terms of the written bits es of the entry e from the offset i on, and ps of the pattern
--                              from j on; where both are written they are met by rec; n entries so far
--   meet_word rec e p m i j     what stands below the words at the offsets i and j
--   meet_term left e p m i j    the terms of e and p at the offsets i and j, with so many levels left
--   answer w                   what meet says of a walk
--   meeting e p m              what meet answers
--   meeting_of S e p            the same on trees
--   MeetingRight               meet answers what the trees say
--
use Rattle.std.specs.Prelude.{◌≡◌, Bool, true, false, cond, Option, Some, None, List, [], ◌∷◌, ◌++◌, ℕ, zero, suc, ◌+◌, ◌/◌, ◌%◌, ◌<◌, ◌≤◌, ltb, eqb, length, get_or, take}
use Rattle.terms.specs.Signature.{Signature}
use Rattle.terms.specs.Term.{Term, Sorted}
use Rattle.terms.specs.Book.{disjoint, cut}
use Rattle.wire.specs.Map.{map_bytes, flags}
use Rattle.wire.specs.Vocabulary.{Vocabulary, InOrder, signature}
use Rattle.wire.specs.TermBytes.{first_name_byte, encode_root, levels, most_bytes, most_levels}
use Rattle.maps.specs.Reading.{map_at}
use Rattle.extents.specs.Bytes.{term_byte}
use Rattle.meetings.specs.Passing.{passed}
use Rattle.marks.specs.Marking.{mark_scale, MarksOf}
use Rattle.meetings.specs.declared.Reached.{Reached}

abbrev pub Walk : Type 0
Walk = Option Reached

abbrev pub reached : ℕ → ℕ → Walk
reached i n = Some (record { at = i; entries = n })

abbrev pub size_in : ℕ → ℕ
size_in x = x % mark_scale

abbrev pub entries_in : ℕ → ℕ
entries_in x = x / mark_scale

abbrev pub onward : Walk → (ℕ → ℕ → Walk) → Walk
onward None next = None
onward (Some w) next = next w.at w.entries

abbrev pub meet_places : (ℕ → ℕ → Walk) → List ℕ → List ℕ → List Bool → List Bool → ℕ → ℕ → ℕ → Walk
meet_places rec e m [] ps i j n = reached i n
meet_places rec e m (w ∷ es) [] i j n = reached i n
meet_places rec e m (false ∷ es) (false ∷ ps) i j n = meet_places rec e m es ps i j n
meet_places rec e m (true ∷ es) (false ∷ ps) i j n = meet_places rec e m es ps (passed e i) j n
meet_places rec e m (false ∷ es) (true ∷ ps) i j n =
    meet_places rec e m es ps i (j + size_in (get_or m j 0)) (n + entries_in (get_or m j 0))
meet_places rec e m (true ∷ es) (true ∷ ps) i j n =
    onward (rec i j) (λ end k. meet_places rec e m es ps end (j + size_in (get_or m j 0)) (n + k))

unfoldable pub meet_word : (ℕ → ℕ → Walk) → List ℕ → List ℕ → List ℕ → ℕ → ℕ → Walk
meet_word rec e p m i j =
    meet_places rec e m (flags (map_at e (i + 1))) (flags (map_at p (j + 1))) (i + 1 + map_bytes) (j + 1 + map_bytes) 0

-- Where the pattern has a name or 255 nothing of the entry is replaced; where the entry has one, all entries of the pattern's
-- term stand for it.
unfoldable pub meet_term : ℕ → List ℕ → List ℕ → List ℕ → ℕ → ℕ → Walk
meet_term zero e p m i j = None
meet_term (suc left) e p m i j =
    cond (ltb (term_byte p j) first_name_byte)
    (cond (ltb (term_byte e i) first_name_byte)
    (cond (eqb (term_byte e i) (term_byte p j)) (meet_word (meet_term left e p m) e p m i j) None)
    (reached (passed e i) (entries_in (get_or m j 0))))
    (reached (passed e i) 0)

abbrev pub answer : Walk → Option ℕ
answer None = None
answer (Some w) = Some w.entries

abbrev pub meeting : List ℕ → List ℕ → List ℕ → Option ℕ
meeting e p m = answer (meet_term most_levels (take most_bytes e) (take most_bytes p) m 0 0)

-- ---- on trees

abbrev pub meeting_of : Signature → Term → Term → Option ℕ
meeting_of S e p = cond (disjoint e p) None (Some (length (cut S e p)))

abbrev pub MeetingRight : Type 0
MeetingRight = (W : Vocabulary) → InOrder W → (e p : Term) (s : ℕ) → Sorted (signature W) e s → Sorted (signature W) p s →
    levels p ≤ most_levels → length (encode_root W e) < most_bytes → length (encode_root W p) < most_bytes →
    (r q m : List ℕ) → MarksOf W p m → meeting (encode_root W e ++ r) (encode_root W p ++ q) m ≡ meeting_of (signature W) e p
