-- Cutting: what the functions that walk an entry and a pattern promise each other; no public contract cites it.
--
--   From bytes rest i          behind the first i of the bytes stand the bytes rest
--   Pair W e p                 the terms e of an entry and p of a pattern are of one kind, they share something, and e has no name
--   Pairs W fs es ps           such terms stand at the places of a word, whose map has the bits fs
--   PassedBoth bytes i q copied w   the copy begins with the bytes, and i bytes of the entry and q of the pattern are passed
--   Finished, CutEnds          what a cut does: all entries are written, and what both allow stands in the copy if entries are due
--                              later; or not all fit
--   Room, Lacks                there is a level for a word, and room in the pattern, the entry and the copy; and the test of that
--   NodesAt, NodesRead         where read_maps reads, a word of the pattern and what the entry has there, and what it reads
--   NodesFound                 what read_node reads: the same, or that there is no room
--   MapIs, PutsMap             the word's map in the copy, at the next place or at the end, and it is put there
--   Last bit e p r             r says whether no place is left, as e + p is 0 or a map has no such bit
--   above_of bits at end        the places above the next one, whose term in the copy goes from one offset to the other
--   wordless_at gap pattern q   how many bytes the pattern has there for nothing or a name; None for a word
--   extent_at l i               how many bytes the term at the offset i of l takes
--   OverAt                     where take_over begins: a term of the entry is written there, or it is open
--   TakenOver, OverEnds, TakesOver   what it does
--   TermsAt                    where cut_place and cut_node begin, at a term of the entry and one of the pattern
--   TermsEnd, CutsTerms, CutsWord   what they do
--   CutPlacesAt                where cut_places begins, at the places of a word from some bit on
--   PlacesEnd, CutsPlaces      what it does
--
use Rattle.std.specs.Prelude.{◌≡◌, Option, Some, None, Ok, Err, Bool, true, false, cond, List, [], ◌∷◌, ◌++◌, ℕ, ◌+◌, ◌-◌, ◌*◌, ◌/◌, ◌^◌, ◌<◌, ◌≤◌, ltb, length, get_or, take, drop}
use Rattle.terms.specs.Term.{Term, Terms, nil, cons, Sorted, names}
use Rattle.terms.specs.Book.{disjoint, both, both_all}
use Rattle.wire.specs.Map.{map_bits, map_bytes, write_map, number, is_open, written_flags}
use Rattle.wire.specs.Vocabulary.{Vocabulary, signature}
use Rattle.wire.specs.TermBytes.{encode_at, encode_all, levels, levels_all}
use Rattle.wire.specs.EntryAgainst.{place_bits, written_bits, cut_at, cut_all_at}
use Rattle.maps.specs.Reading.{map_at}
use Rattle.maps.specs.Writing.{map_put}
use Rattle.extents.specs.Extents.{most_extent, term_size}
use Rattle.others.specs.Listed.{FitBehind, Listed}
use Rattle.cuts.specs.declared.own.Walk.{Walk}
use Rattle.cuts.specs.declared.walk.Bits.{Bits}
use Rattle.cuts.specs.declared.walk.Node.{Node}
use Rattle.cuts.specs.Walking.{Step}
use Rattle.cuts.specs.Entries.{TablesOf}

pub record From (bytes rest : List ℕ) (i : ℕ) : Type 0 where
  pub inside : i ≤ length bytes
  pub same : drop i bytes ≡ rest

pub record Pair (W : Vocabulary) (e p : Term) : Type 0 where
  pub kind : ℕ
  pub entry : Sorted (signature W) e kind
  pub pattern : Sorted (signature W) p kind
  pub shares : disjoint e p ≡ false
  pub nameless : names e ≡ []

abbrev pub Pairs : Vocabulary → List Bool → Terms → Terms → Type 0
Pairs W [] nil nil = Unit {0}
Pairs W [] nil (cons p ps) = ⊥
Pairs W [] (cons e es) ps = ⊥
Pairs W (false ∷ fs) es ps = Pairs W fs es ps
Pairs W (true ∷ fs) nil ps = ⊥
Pairs W (true ∷ fs) (cons e es) nil = ⊥
Pairs W (true ∷ fs) (cons e es) (cons p ps) = Pair W e p × Pairs W fs es ps

-- ---- what a cut does

pub record PassedBoth (bytes : List ℕ) (i q : ℕ) (copied : List ℕ) (w : Walk) : Type 0 where
  pub at : w.at ≡ length bytes
  pub stands : take w.at copied ≡ bytes
  pub entry : w.entry ≡ i
  pub pattern : w.pattern ≡ q

pub record Finished (ls : List (List ℕ)) (bytes : List ℕ) (i q later n : ℕ) (before copied after : List ℕ) (w : Walk) : Type 0 where
  pub listed : Listed ls n w.written before after
  pub todo : w.todo ≡ later
  pub passed : 0 < later → PassedBoth bytes i q copied w

-- Of no room nothing is said but that the entries do not fit.
abbrev pub CutEnds : List (List ℕ) → List ℕ → ℕ → ℕ → ℕ → ℕ → List ℕ → List ℕ → List ℕ → Step → Type 0
CutEnds ls bytes i q later n before copied after (Ok w) = Finished ls bytes i q later n before copied after w
CutEnds ls bytes i q later n before copied after (Err e) = FitBehind ls n (length before) → ⊥

-- ---- a word of the pattern

-- So many levels and bytes are left. Where the entry is not open, it has a word too.
pub record Room (left : ℕ) (blank : Bool) (entry pattern copy : ℕ) : Type 0 where
  pub level : 1 ≤ left
  pub mine : blank ≡ false → 1 + map_bytes ≤ entry
  pub other : 1 + map_bytes ≤ pattern
  pub put : 1 + map_bytes ≤ copy

pub record Lacks (left : ℕ) (blank : Bool) (entry pattern copy : ℕ) (r : Bool) : Type 0 where
  pub yes : r ≡ true → Room left blank entry pattern copy → ⊥
  pub no : r ≡ false → Room left blank entry pattern copy

pub record NodesAt (blank : Bool) (entry : List ℕ) (i : ℕ) (pattern : List ℕ) (q : ℕ) : Type 0 where
  pub mine : blank ≡ false → i + (1 + map_bytes) ≤ length entry
  pub other : q + (1 + map_bytes) ≤ length pattern

pub record NodesRead (blank : Bool) (entry : List ℕ) (i : ℕ) (pattern : List ℕ) (q : ℕ) (r : Node) : Type 0 where
  pub word : r.word ≡ get_or pattern q 0
  pub opened : blank ≡ true → (r.size ≡ 0) × (r.entry ≡ 0)
  pub closed : blank ≡ false → (r.size ≡ 1 + map_bytes) × (r.entry ≡ map_at entry (i + 1))
  pub other : r.pattern ≡ map_at pattern (q + 1)
  pub byte : r.word < 256
  pub mine : r.entry < 256
  pub small : r.pattern < 256

abbrev pub NodesFound : ℕ → Bool → List ℕ → ℕ → List ℕ → ℕ → ℕ → Option Node → Type 0
NodesFound left blank entry i pattern q room (Some node) =
    Room left blank (length entry - i) (length pattern - q) room × NodesRead blank entry i pattern q node
NodesFound left blank entry i pattern q room None = Room left blank (length entry - i) (length pattern - q) room → ⊥

-- ---- the map of a word in the copy

-- e and p are the bits of both maps from the next place on.
pub record MapIs (low bit e p r : ℕ) : Type 0 where
  pub none : e + p ≡ 0 → r ≡ low
  pub here : (e + p ≡ 0 → ⊥) → low + (bit + e / 2 * (2 * bit)) < 256 → r ≡ low + (bit + e / 2 * (2 * bit))

pub record PutsMap (bits : Bits) (before after : List ℕ) : Type 0 where
  pub map : ℕ
  pub is : MapIs bits.low bits.bit bits.entry bits.pattern map
  pub put : after ≡ map_put map before (bits.top + 1)

pub record Last (bit e p : ℕ) (r : Bool) : Type 0 where
  pub yes : r ≡ true → (e + p ≡ 0 → ⊥) → bit ≤ 128 → ⊥
  pub no : r ≡ false → (e + p ≡ 0 → ⊥) × (bit ≤ 128)

abbrev pub above_of : Bits → ℕ → ℕ → Bits
above_of bits at end = record {
  top = bits.top;
  low = bits.low + cond (ltb at end) bits.bit 0;
  bit = 2 * bits.bit;
  entry = bits.entry / 2;
  pattern = bits.pattern / 2;
}

-- ---- a term of the entry is taken over

abbrev pub wordless_at : Bool → List ℕ → ℕ → Option ℕ
wordless_at true pattern q = Some 0
wordless_at false pattern q = cond (ltb 127 (get_or pattern q 0)) (Some 1) None

unfoldable pub extent_at : List ℕ → ℕ → ℕ
extent_at l i = term_size (drop i l)

-- It has no bytes where it is open.
pub record OverAt (copy : List ℕ) (w : Walk) (blank : Bool) (entry : List ℕ) : Type 0 where
  pub term : List ℕ
  pub tail : List ℕ
  pub from : From entry (term ++ tail) w.entry
  pub none : blank ≡ true → term ≡ []
  pub size : blank ≡ false → extent_at entry w.entry ≡ length term
  pub room : w.at + length term ≤ length copy

pub record TakenOver (copy : List ℕ) (w : Walk) (term copied : List ℕ) (end : Walk) : Type 0 where
  pub at : end.at ≡ w.at + length term
  pub stands : take end.at copied ≡ take w.at copy ++ term
  pub entry : end.entry ≡ w.entry + length term

abbrev pub OverEnds : List ℕ → Walk → List ℕ → List ℕ → Step → Type 0
OverEnds copy w term copied (Ok end) = TakenOver copy w term copied end
OverEnds copy w term copied (Err e) = ⊥

abbrev pub TakesOver : List ℕ → Walk → Bool → List ℕ → List ℕ → Step → Type 0
TakesOver copy w blank entry copied r = (h : OverAt copy w blank entry) → OverEnds copy w h.term copied r

-- ---- a term of the entry and one of the pattern

-- The walk is at the term `mine` of the entry and the term `other` of the pattern. The copy holds the bytes that an entry has before
-- them, and has room for what both have.
pub record TermsAt (copy : List ℕ) (w : Walk) (blank : Bool) (entry : List ℕ) (gap : Bool) (pattern siblings : List ℕ) (left size : ℕ) : Type 0 where
  pub vocabulary : Vocabulary
  pub mine : Term
  pub other : Term
  pub front : List ℕ
  pub tail : List ℕ
  pub rest : List ℕ
  pub later : ℕ
  pub tables : TablesOf vocabulary siblings
  pub pair : Pair vocabulary mine other
  pub blanks : is_open mine ≡ blank
  pub gaps : is_open other ≡ gap
  pub deep : levels other ≤ left
  pub begins : length front ≡ w.at
  pub copied : take w.at copy ≡ front
  pub entry_from : From entry (encode_at vocabulary mine ++ tail) w.entry
  pub pattern_from : From pattern (encode_at vocabulary other ++ rest) w.pattern
  pub room : w.at + (length (encode_at vocabulary mine ++ tail) + length (encode_at vocabulary other ++ rest)) ≤ length copy
  pub small : length copy ≤ most_extent
  pub inside : w.written ≤ size
  pub due : w.todo ≡ length (cut_at vocabulary other mine front tail) + later

abbrev pub TermsEnd : {copy : List ℕ} {w : Walk} {blank : Bool} {entry : List ℕ} {gap : Bool} {pattern siblings : List ℕ} {left size : ℕ} →
    TermsAt copy w blank entry gap pattern siblings left size → List ℕ → List ℕ → List ℕ → Step → Type 0
TermsEnd {w = w} h before copied after r =
    CutEnds (cut_at h.vocabulary h.other h.mine h.front h.tail) (h.front ++ encode_at h.vocabulary (both h.mine h.other))
    (w.entry + length (encode_at h.vocabulary h.mine)) (w.pattern + length (encode_at h.vocabulary h.other))
    h.later w.written before copied after r

abbrev pub CutsTerms : List ℕ → Walk → Bool → List ℕ → Bool → List ℕ → List ℕ → ℕ → List ℕ → List ℕ → List ℕ → Step → Type 0
CutsTerms copy w blank entry gap pattern siblings left before copied after r =
    (h : TermsAt copy w blank entry gap pattern siblings left (length before)) → TermsEnd h before copied after r

-- The pattern has a word there.
abbrev pub CutsWord : List ℕ → Walk → Bool → List ℕ → List ℕ → List ℕ → ℕ → List ℕ → List ℕ → List ℕ → Step → Type 0
CutsWord copy w blank entry pattern siblings left before copied after r =
    (h : TermsAt copy w blank entry false pattern siblings left (length before)) → get_or pattern w.pattern 0 ≤ 127 → TermsEnd h before copied after r

-- ---- the places of a word

-- The walk is at the terms of the word's places from bit b on, which are the places fs: those of the entry are `mine`, those of the
-- pattern `other`. The copy holds the bytes front, the word, some map, and the bytes body of what both allow at the places below.
pub record CutPlacesAt (copy : List ℕ) (w : Walk) (bits : Bits) (entry pattern siblings : List ℕ) (left size : ℕ) : Type 0 where
  pub vocabulary : Vocabulary
  pub word : ℕ
  pub b : ℕ
  pub fs : List Bool
  pub mine : Terms
  pub other : Terms
  pub current : ℕ
  pub front : List ℕ
  pub body : List ℕ
  pub tail : List ℕ
  pub rest : List ℕ
  pub later : ℕ
  pub tables : TablesOf vocabulary siblings
  pub pairs : Pairs vocabulary fs mine other
  pub places : b + length fs ≡ map_bits
  pub bit : bits.bit ≡ 2 ^ b
  pub low : bits.low < 2 ^ b
  pub mine_bits : bits.entry ≡ number (written_flags fs mine)
  pub other_bits : bits.pattern ≡ number (written_flags fs other)
  pub deep : levels_all other ≤ left
  pub top : length front ≡ bits.top
  pub begins : w.at ≡ length front + (1 + map_bytes) + length body
  pub copied : take w.at copy ≡ front ++ (word ∷ (write_map current ++ body))
  pub entry_from : From entry (encode_all vocabulary mine ++ tail) w.entry
  pub pattern_from : From pattern (encode_all vocabulary other ++ rest) w.pattern
  pub room : w.at + (length (encode_all vocabulary mine ++ tail) + length (encode_all vocabulary other ++ rest)) ≤ length copy
  pub small : length copy ≤ most_extent
  pub inside : w.written ≤ size
  pub due : w.todo ≡ length (cut_all_at vocabulary other mine word (place_bits b fs) bits.low body front tail) + later

abbrev pub PlacesEnd : {copy : List ℕ} {w : Walk} {bits : Bits} {entry pattern siblings : List ℕ} {left size : ℕ} →
    CutPlacesAt copy w bits entry pattern siblings left size → List ℕ → List ℕ → List ℕ → Step → Type 0
PlacesEnd {w = w} {bits = bits} h before copied after r =
    CutEnds (cut_all_at h.vocabulary h.other h.mine h.word (place_bits h.b h.fs) bits.low h.body h.front h.tail)
    (h.front ++ (h.word ∷ (write_map (bits.low + written_bits (place_bits h.b h.fs) (both_all h.mine h.other))
    ++ (h.body ++ encode_all h.vocabulary (both_all h.mine h.other)))))
    (w.entry + length (encode_all h.vocabulary h.mine)) (w.pattern + length (encode_all h.vocabulary h.other))
    h.later w.written before copied after r

abbrev pub CutsPlaces : List ℕ → Walk → Bits → List ℕ → List ℕ → List ℕ → ℕ → List ℕ → List ℕ → List ℕ → Step → Type 0
CutsPlaces copy w bits entry pattern siblings left before copied after r =
    (h : CutPlacesAt copy w bits entry pattern siblings left (length before)) → PlacesEnd h before copied after r
