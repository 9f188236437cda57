-- Rounds: one round of marking follows one round of grow, record by record.
--
--   Marked v n w before after     from the marks `before` to the marks `after`, the first w of n records had their turn
--   Reached v n kinds round m     the kinds that so many rounds reach are marked in m
--
use mathlib.Core.Path.{◌≡◌, refl, sym, ◌∙◌, ap, subst}
use mathlib.Core.Bool.{Bool, true, false, not}
use mathlib.Core.List.{List, [], ◌∷◌, ◌++◌}
use mathlib.Core.Option.{none}
use Prim.Native.Nat.{ℕ, zero, suc, ◌+◌, ◌-◌, ◌<◌, ◌≤◌}
use native.Mathlib.Numerals.{add-one}
use native.Mathlib.Omega.{arith}
use lib.ListN.{length, get_or, take, drop, set, replicate, length-map, get_or-map}
use lib.Seq.{take-suc, take_all, get_or-take, get_or-drop}
use borrow.Author.Tests.{not-false}
use Rattle.terms.specs.Lists.{occurs}
use Rattle.terms.specs.Signature.{Symbol, Signature, no_symbol}
use Rattle.terms.specs.Emptiness.{covered, joined, grow, reached}
use Rattle.terms.proofs.All.{all-at}
use Rattle.terms.proofs.First.{first_of, first-least, first_nowhere, nowhere_first}
use Rattle.terms.proofs.Inhabited.{reached_mono}
use Rattle.terms.proofs.Occurs.{missing}
use Rattle.wire.specs.Vocabulary.{Word, no_word, symbol_of, signature}
use Rattle.wire.specs.VocabularyLines.{byte_at}
use Rattle.std.specs.Prelude.{Option, Some, None, is_some}
use Rattle.signature.specs.Loading.{records_in, vocabulary_of, Entry, Filled, Marks, Markable, FilledCounted, PlacesInside, PlacesCovered, symbols_in, Grows, FirstMissing, signature_in, Searched}
use Rattle.signature.specs.Settled.{found_kind}
use Rattle.signature.proofs.Marking.{marks_none, marks-joined, marks_stay, marks_had}

-- An entry of the tables, as the marking reads it.
module _ (v : List ℕ) (o r m k : ℕ) (w : Word) (entry : Entry v o r m w) (counted : k ≡ length w.kinds) where
  places-inside : o + 2 + k ≤ length v
  places-inside = omega (arith, counted, entry.inside)

  kind_at : (j : ℕ) → j < length w.kinds → get_or w.kinds j 0 ≡ byte_at v (o + 2 + j)
  kind_at j h =
      ap (λ l. get_or l j 0) (sym entry.kinds) ∙ get_or-take (length w.kinds) (drop (o + 2) v) j 0 h ∙ get_or-drop (o + 2) v j 0

  places-markable : byte_at v 0 ≤ 16 → Markable v (o + 2) k
  places-markable few j h =
      let b : j < length w.kinds = omega (arith, counted) in
      omega (arith, kind_at j b, all-at _ 0 w.kinds entry.sound.kinds j b)

  result-markable : byte_at v 0 ≤ 16 → r < 16
  result-markable few = omega (arith, entry.result, entry.sound.result)

  pub entry-covers : (marked : List Bool) (l : List ℕ) (t : Bool) → PlacesCovered v o k marked t → Marks marked l → t ≡ covered w.kinds l
  entry-covers marked l t h marks = h l marks ∙ rw (counted, entry.kinds)

grow-append : (ks ls : List Symbol) (l : List ℕ) → grow (ks ++ ls) l ≡ grow ls (grow ks l)
grow-append [] ls l = refl
grow-append (k ∷ ks) ls l = grow-append ks ls (joined k l)

grow-more : (ks : List Symbol) (w : ℕ) (l : List ℕ) → w < length ks → grow (take (w + 1) ks) l ≡ joined (get_or ks w no_symbol) (grow (take w ks) l)
grow-more ks w l h = rw (add-one, take-suc ks w no_symbol h, grow-append)

pub record Marked (v : List ℕ) (n w : ℕ) (before after : List Bool) : Type 0 where
  pub passed : w ≤ n
  pub marks : (l : List ℕ) → Marks before l → Marks after (grow (take w (symbols_in v n)) l)

pub marked_none : (v : List ℕ) (n : ℕ) (marked : List Bool) → Marked v n 0 marked marked
marked_none v n marked = record { passed = omega arith; marks = λ l h. h }

module _ (v : List ℕ) (n : ℕ) (o r c : List ℕ) (reach : FilledCounted v n o r c) where
  abbrev filled : Filled v n o r reach.maps
  filled = reach.filled

  -- "A word has as many places as its map has ones."
  pub places_are : (w : ℕ) → w < n → get_or c w 0 ≡ length (get_or (records_in v n) w no_word).kinds
  places_are w b = reach.counted.count w b ∙ sym (filled.entries w b).sound.count

  symbol-count : length (symbols_in v n) ≡ n
  symbol-count = length-map (records_in v n) symbol_of ∙ filled.count

  symbol_is : (w : ℕ) → get_or (symbols_in v n) w no_symbol ≡ symbol_of (get_or (records_in v n) w no_word)
  symbol_is w = get_or-map symbol_of (records_in v n) w no_word

  pub marked_all : (w : ℕ) (before after : List Bool) → Marked v n w before after → n ≤ w → Grows v n before after
  marked_all w before after marked h l marks =
      rw (take_all w (symbols_in v n) (omega (arith, symbol-count))) at (marked.marks l marks)

  -- What the record of the word w asks of the marking.
  module _ (w : ℕ) (b : w < n) where
    pub turn_inside : byte_at v 0 ≤ 16 → PlacesInside v (get_or o w 0) (get_or c w 0)
    turn_inside few = record {
      inside = places-inside v _ _ _ _ _ (filled.entries w b) (places_are w b);
      markable = places-markable v _ _ _ _ _ (filled.entries w b) (places_are w b) few;
    }

    pub turn_result : byte_at v 0 ≤ 16 → get_or r w 0 < 16
    turn_result = result-markable v _ _ _ _ _ (filled.entries w b) (places_are w b)

  module _ (w : ℕ) (b : w < n) (before after : List Bool) (marked : Marked v n w before after) where
    here : Symbol
    here = symbol_of (get_or (records_in v n) w no_word)

    grown : (l : List ℕ) → grow (take (w + 1) (symbols_in v n)) l ≡ joined here (grow (take w (symbols_in v n)) l)
    unfolding here
    grown l = grow-more (symbols_in v n) w l (omega (arith, symbol-count)) ∙ rw (symbol_is w)

    pub marked_had : byte_at v 0 ≤ 16 → (k : ℕ) → k ≡ get_or r w 0 → get_or after k false ≡ true →
        (next : List Bool) → next ≡ after → Marked v n (w + 1) before next
    unfolding here
    marked_had few k d had next s =
        let e : k ≡ here.result = d ∙ (filled.entries w b).result in
        record {
          passed = omega arith;
          marks = λ l h. rw (grown l, s)
              (marks_had after (grow (take w (symbols_in v n)) l) here (omega (arith, turn_result w b few)) (rw e at had) (marked.marks l h));
        }

    module _ (t : Bool) (covers : PlacesCovered v (get_or o w 0) (get_or c w 0) after t) where
      is_covered : (l : List ℕ) → Marks before l → t ≡ covered here.arguments (grow (take w (symbols_in v n)) l)
      unfolding here
      is_covered l h =
          entry-covers v (get_or o w 0) (get_or r w 0) _ (get_or c w 0) (get_or (records_in v n) w no_word) (filled.entries w b) (places_are w b)
          after (grow (take w (symbols_in v n)) l) t covers (marked.marks l h)

      pub marked-joined : t ≡ true → (k : ℕ) → k ≡ get_or r w 0 → (next : List Bool) → next ≡ set after k true → Marked v n (w + 1) before next
      unfolding here
      marked-joined e k d next s = record {
        passed = omega arith;
        marks = λ l h. rw (grown l, s, d, (filled.entries w b).result)
            (marks-joined after (grow (take w (symbols_in v n)) l) here (sym (is_covered l h) ∙ e) (marked.marks l h));
      }

      pub marked_stay : t ≡ false → (next : List Bool) → next ≡ after → Marked v n (w + 1) before next
      marked_stay e next s = record {
        passed = omega arith;
        marks = λ l h. rw (grown l, s) (marks_stay after (grow (take w (symbols_in v n)) l) here (sym (is_covered l h) ∙ e) (marked.marks l h));
      }

-- Round by round.

pub record Reached (v : List ℕ) (n kinds round : ℕ) (marked : List Bool) : Type 0 where
  pub passed : round ≤ kinds
  pub marks : Marks marked (reached (signature (vocabulary_of v n)) round)

pub reached_none : (v : List ℕ) (n kinds : ℕ) → Reached v n kinds 0 (replicate 16 false)
reached_none v n kinds = record { passed = omega arith; marks = marks_none }

pub reached-more : (v : List ℕ) (n kinds round : ℕ) (before after : List Bool) → Reached v n kinds round before → round < kinds →
    Grows v n before after → Reached v n kinds (round + 1) after
reached-more v n kinds round before after reach b grows = record { passed = omega arith; marks = rw add-one (grows _ reach.marks) }

pub reached-all : (v : List ℕ) (n kinds round : ℕ) (marked : List Bool) (r : Option ℕ) → Reached v n kinds round marked → kinds ≤ round →
    kinds ≡ byte_at v 0 → FirstMissing kinds marked r → Searched v n marked r
reached-all v n kinds round marked r reach h k first =
    let e : round ≡ byte_at v 0 = omega (arith, reach.passed) in
    record {
      found = rw (k, e) at (first (reached (signature_in v n) round) reach.marks);
      marks = λ _ _. rw e at reach.marks;
    }

-- Where no kind is missing, none is after further rounds.

still_none : (S : Signature) (n m kinds : ℕ) → n ≤ m → first_of (missing (reached S n)) 0 kinds ≡ none → first_of (missing (reached S m)) 0 kinds ≡ none
still_none S n m kinds h e =
    nowhere_first (missing (reached S m)) 0 kinds λ j lo hi.
    ap not (reached_mono S n m h j (not-false (occurs j (reached S n)) (first_nowhere (missing (reached S n)) 0 kinds e j lo hi)))

pub reached_early : (v : List ℕ) (n kinds round : ℕ) (marked : List Bool) (r : Option ℕ) → Reached v n kinds round marked →
    kinds ≡ byte_at v 0 → FirstMissing kinds marked r → is_some r ≡ false → Searched v n marked r
reached_early v n kinds round marked None reach k first e =
    let S : Signature = signature_in v n in
    record {
      found = sym (rw k at (still_none S round kinds kinds reach.passed (sym (first (reached S round) reach.marks))));
      marks = λ j d. absurd (let z : ◌≡◌ {A = ℕ} 0 1 = cc in omega arith);
    }
reached_early v n kinds round marked (Some j) reach k first e = absurd (let z : ◌≡◌ {A = ℕ} 0 1 = cc in omega arith)

-- A round that marks nothing changes nothing, and so do all behind it.
still_marks : (v : List ℕ) (n : ℕ) (marked : List Bool) → Grows v n marked marked → (round i : ℕ) → Marks marked (reached (signature_in v n) round) →
    Marks marked (reached (signature_in v n) (round + i))
still_marks v n marked grows round zero h = rw (let e : round + 0 ≡ round = omega arith in e) h
still_marks v n marked grows round (suc i) h =
    rw (let e : round + suc i ≡ suc (round + i) = omega arith in e) (grows _ (still_marks v n marked grows round i h))

pub reached_still : (v : List ℕ) (n kinds round : ℕ) (before after : List Bool) (r : Option ℕ) → Reached v n kinds round before → Grows v n before after →
    after ≡ before → kinds ≡ byte_at v 0 → FirstMissing kinds after r → Searched v n after r
reached_still v n kinds round before after r reach grows same k first =
    let i : ℕ = kinds - round in
    let e : round + i ≡ byte_at v 0 = let p = reach.passed in omega arith in
    let marks : Marks before (reached (signature_in v n) (byte_at v 0)) =
    subst (λ j. Marks before (reached (signature_in v n) j)) e (still_marks v n before (subst (Grows v n before) same grows) round i reach.marks) in
    let now : Marks after (reached (signature_in v n) (byte_at v 0)) = subst (λ m. Marks m (reached (signature_in v n) (byte_at v 0))) (sym same) marks in
    record { found = rw k at (first (reached (signature_in v n) (byte_at v 0)) now); marks = λ _ _. now }

-- The kind that is found is one of the vocabulary's.
pub searched_below : (v : List ℕ) (n : ℕ) (marked : List Bool) (r : Option ℕ) → Searched v n marked r → (k : ℕ) → r ≡ Some k → k < byte_at v 0
searched_below v n marked r searched k e =
    let l : List ℕ = reached (signature_in v n) (byte_at v 0) in
    let found = first-least (missing l) 0 (byte_at v 0) k (sym searched.found ∙ ap found_kind e) in
    omega (arith, found.high)
