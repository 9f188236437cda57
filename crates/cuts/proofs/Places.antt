-- Places: the places of a word, one bit after the other.
--
--   halved, open_bit, kept-bit   the bits of a map, and the bit of what both allow
--   patched                      the copy with another map of the word
--   places_none                  no bit is left: the map is that of what both allow
--   map-here, map-small          the map at the next bit is one
--   place-terms                  the terms at the next bit, in the copy with this map
--   places-full, places_early    what the cut at the next bit ends
--   next-places, places-on       the places above the next bit, and the cut there
--   places-last                  what the test for the last place tells
--
use mathlib.Core.Path.{◌≡◌, refl, sym, ap, ap₂, ◌∙◌, subst}
use mathlib.Core.Bool.{Bool, true, false, not, cond}
use mathlib.Core.List.{List, [], ◌∷◌, ◌++◌, append-nil, append_assoc}
use Prim.Native.Nat.{ℕ, suc, ◌+◌, ◌*◌, ◌/◌, ◌%◌, ◌^◌, ◌<◌, ◌≤◌}
use native.Mathlib.Nat.{pow-suc, pow-succ', pow-le-pow_right}
use native.Mathlib.Omega.{arith}
use lib.Dec.{eqb, ltb}
use lib.ListN.{length, take, set, length-append, length-set}
use lib.Seq.{take-set-lt}
use borrow.Author.Tests.{lt-ltb, le-ltb, eqb-true, eqb-false}
use Rattle.terms.specs.Term.{Term, any, var, app, Terms}
use Rattle.terms.specs.Book.{both, both_all}
use Rattle.wire.specs.Map.{write_map, bit, number, is_open, written_flags}
use Rattle.wire.specs.Vocabulary.{Vocabulary}
use Rattle.wire.specs.TermBytes.{encode_at, encode_all}
use Rattle.wire.specs.EntryAgainst.{place_bits, bit_of, written_bits, cut_at, cut_all_at}
use Rattle.wire.proofs.Cond.{cond_true, cond_false}
use Rattle.wire.proofs.EntryWalk.{copy_patched}
use Rattle.maps.specs.Writing.{map_put}
use Rattle.maps.proofs.Writing.{map-set}
use Rattle.others.specs.Listed.{FitBehind, Listed}
use Rattle.others.proofs.Entries.{listed_none, listed-inside, listed-length}
use Rattle.cuts.specs.declared.own.Walk.{Walk}
use Rattle.cuts.specs.declared.walk.Bits.{Bits}
use Rattle.std.specs.Prelude.{Ok}
use Rattle.cuts.specs.Walking.{Step, full}
use Rattle.cuts.specs.Cutting.{From, Finished, CutEnds, PutsMap, Last, above_of, TermsAt, TermsEnd, CutsTerms, CutPlacesAt, PlacesEnd, CutsPlaces}
use Rattle.cuts.proofs.Pairs.{both-short, placed, placed_below, Split, split, NoneLeft, none_left}
use Rattle.cuts.proofs.Ending.{ends_on, ends_early, ends-full, from_on}

-- ---- bits

halved : (x : Bool) (n m : ℕ) → m ≡ bit x + 2 * n → (m / 2 ≡ n) × (m % 2 ≡ bit x)
halved true n m e = (omega arith, omega arith)
halved false n m e = (omega arith, omega arith)

open_bit : (x : Bool) (m : ℕ) → m ≡ bit (not x) → x ≡ eqb m 0
open_bit true m e = sym (ap (λ n. eqb n 0) e)
open_bit false m e = sym (ap (λ n. eqb n 0) e)

-- The bit of a term is kept where the term has bytes.
kept-bit : (W : Vocabulary) (t : Term) (b k at end : ℕ) → k ≡ 2 ^ b → end ≡ at + length (encode_at W t) → cond (ltb at end) k 0 ≡ bit_of t b
kept-bit W any b k at end p e = cond_false (ltb at end) k 0 (le-ltb at end (omega arith))
kept-bit W (var n) b k at end p e = cond_true (ltb at end) k 0 (lt-ltb at end (omega arith)) ∙ p
kept-bit W (app f ts) b k at end p e = cond_true (ltb at end) k 0 (lt-ltb at end (omega arith)) ∙ p

bit_of-below : (t : Term) (b : ℕ) → bit_of t b ≤ 2 ^ b
bit_of-below any b = omega arith
bit_of-below (var n) b = omega arith
bit_of-below (app f ts) b = omega arith

power_below : (b : ℕ) → b ≤ 8 → 2 ^ b ≤ 256
power_below b h = pow-le-pow_right {n = 2} (let e : 0 < 2 = omega arith in e) {i = b} {j = 8} h

module _ {copy : List ℕ} {w : Walk} {bits : Bits} {entry pattern siblings : List ℕ} {left : ℕ} (before : List ℕ)
    (h : CutPlacesAt copy w bits entry pattern siblings left (length before)) where
  abbrev W : Vocabulary
  W = h.vocabulary

  abbrev f : ℕ
  f = h.word

  abbrev front : List ℕ
  front = h.front

  abbrev body : List ℕ
  body = h.body

  abbrev allowed : Terms
  allowed = both_all h.mine h.other

  abbrev entries : List (List ℕ)
  entries = cut_all_at W h.other h.mine f (place_bits h.b h.fs) bits.low body front h.tail

  abbrev bytes : List ℕ
  bytes = front ++ (f ∷ (write_map (bits.low + written_bits (place_bits h.b h.fs) allowed) ++ (body ++ encode_all W allowed)))

  -- The copy with another map of the word.
  patched : (m : ℕ) {copied : List ℕ} → copied ≡ map_put m copy (bits.top + 1) → take w.at copied ≡ front ++ (f ∷ (write_map m ++ body))
  patched m e =
      ap (take w.at) (e ∙ sym (map-set copy (bits.top + 1) m))
      ∙ take-set-lt w.at copy (bits.top + 1) m (omega (arith, h.top, h.begins))
      ∙ ap₂ (λ l i. set l (i + 1) m) h.copied (sym h.top)
      ∙ copy_patched front f h.current m body

  pub patched_length : (m : ℕ) {copied : List ℕ} → copied ≡ map_put m copy (bits.top + 1) → length copied ≡ length copy
  patched_length m e = ap length (e ∙ sym (map-set copy (bits.top + 1) m)) ∙ length-set copy (bits.top + 1) m

  -- ---- no bit is left

  places_none : bits.entry + bits.pattern ≡ 0 → {copied : List ℕ} → PutsMap bits copy copied →
      PlacesEnd h before copied before (Ok w)
  places_none z {copied} puts =
      let n : NoneLeft W h.b h.fs h.mine h.other = none_left W h.b h.fs h.mine h.other h.pairs (omega (arith, h.mine_bits, h.other_bits)) in
      let none : entries ≡ [] = n.cuts f bits.low body front h.tail in
      let same : front ++ (f ∷ (write_map bits.low ++ body)) ≡ bytes =
      ap₂ (λ k l. front ++ (f ∷ (write_map k ++ l))) (let z : bits.low ≡ bits.low + written_bits (place_bits h.b h.fs) allowed = omega (arith, n.bits) in z)
      (sym (ap (λ l. body ++ l) n.bytes ∙ append-nil body)) in
      record {
        listed = subst (λ ls. Listed ls w.written w.written before before) (sym none) (listed_none before h.inside);
        todo = omega (arith, h.due, ap length none);
        passed = λ later. record {
          at = omega (arith, h.begins, sym (ap length same), length-append front (f ∷ (write_map bits.low ++ body)));
          stands = patched puts.map puts.put ∙ ap (λ m. front ++ (f ∷ (write_map m ++ body))) (puts.is.none z) ∙ same;
          entry = omega (arith, ap length n.mine);
          pattern = omega (arith, ap length n.other);
        };
      }

  -- ---- the next bit

  module _ (some-bit : bits.entry + bits.pattern ≡ 0 → ⊥) where
    pub next_bit : Split W h.b h.fs h.mine h.other
    next_bit = split W h.b h.fs h.mine h.other h.pairs (λ z. some-bit (omega (arith, h.mine_bits, h.other_bits)))

    abbrev s : Split W h.b h.fs h.mine h.other
    s = next_bit

    abbrev higher : ℕ
    higher = written_bits (place_bits (suc h.b) s.above) s.es'

    abbrev map : ℕ
    map = bits.low + (2 ^ h.b + higher)

    mine_halved : (bits.entry / 2 ≡ number (written_flags s.above s.es')) × (bits.entry % 2 ≡ bit (not (is_open s.e)))
    mine_halved = halved (not (is_open s.e)) (number (written_flags s.above s.es')) bits.entry (h.mine_bits ∙ s.mine_bits)

    other_halved : (bits.pattern / 2 ≡ number (written_flags s.above s.ps')) × (bits.pattern % 2 ≡ bit (not (is_open s.p)))
    other_halved = halved (not (is_open s.p)) (number (written_flags s.above s.ps')) bits.pattern (h.other_bits ∙ s.other_bits)

    doubled : 2 * bits.bit ≡ 2 ^ suc h.b
    doubled = ap (λ k. 2 * k) h.bit ∙ sym (pow-succ' 2 h.b)

    map-here : bits.low + (bits.bit + bits.entry / 2 * (2 * bits.bit)) ≡ map
    map-here =
        ap₂ (λ k l. bits.low + (k + l)) h.bit
        (ap₂ ◌*◌ mine_halved.0 doubled ∙ sym (placed s.above (suc h.b) s.es'))

    map-small : map < 256
    map-small =
        let l = h.places in
        omega (arith, h.low, placed_below s.above (suc h.b) s.es', pow-suc 2 h.b, power_below (suc h.b + length s.above) (omega (arith, s.size)))

    here-small : bits.low + (bits.bit + bits.entry / 2 * (2 * bits.bit)) < 256
    here-small = omega (arith, map-here, map-small)

    bit-small : bits.bit ≤ 128
    bit-small = let l = h.places in omega (arith, doubled, power_below (suc h.b) (omega (arith, s.size)))

    abbrev here-front : List ℕ
    here-front = front ++ (f ∷ (write_map map ++ body))

    abbrev here : List (List ℕ)
    here = cut_at W s.p s.e here-front (encode_all W s.es' ++ h.tail)

    abbrev low-next : ℕ
    low-next = bits.low + bit_of (both s.e s.p) h.b

    abbrev body-next : List ℕ
    body-next = body ++ encode_at W (both s.e s.p)

    abbrev above : List (List ℕ)
    above = cut_all_at W s.ps' s.es' f (place_bits (suc h.b) s.above) low-next body-next front h.tail

    split_entries : entries ≡ here ++ above
    split_entries = s.cuts f bits.low body front h.tail

    mine-bytes : encode_all W h.mine ++ h.tail ≡ encode_at W s.e ++ (encode_all W s.es' ++ h.tail)
    mine-bytes = ap (λ l. l ++ h.tail) s.mine ∙ append_assoc (encode_at W s.e) (encode_all W s.es') h.tail

    other-bytes : encode_all W h.other ++ h.rest ≡ encode_at W s.p ++ (encode_all W s.ps' ++ h.rest)
    other-bytes = ap (λ l. l ++ h.rest) s.other ∙ append_assoc (encode_at W s.p) (encode_all W s.ps') h.rest

    module _ {copied : List ℕ} (puts : PutsMap bits copy copied) where
      front_length : length here-front ≡ w.at
      front_length = length-append front (f ∷ (write_map map ++ body)) ∙ omega (arith, h.begins)

      stands_here : take w.at copied ≡ here-front
      stands_here = patched puts.map puts.put ∙ ap (λ m. front ++ (f ∷ (write_map m ++ body))) (puts.is.here some-bit here-small ∙ map-here)

      -- The terms at the next bit.
      place-terms : TermsAt copied w (eqb (bits.entry % 2) 0) entry (eqb (bits.pattern % 2) 0) pattern siblings left (length before)
      place-terms = record {
        vocabulary = W;
        mine = s.e;
        other = s.p;
        front = here-front;
        tail = encode_all W s.es' ++ h.tail;
        rest = encode_all W s.ps' ++ h.rest;
        later = length above + h.later;
        tables = h.tables;
        pair = s.pair;
        blanks = open_bit (is_open s.e) (bits.entry % 2) mine_halved.1;
        gaps = open_bit (is_open s.p) (bits.pattern % 2) other_halved.1;
        deep = let d = h.deep in let l = s.deep in omega arith;
        begins = front_length;
        copied = stands_here;
        entry_from = subst (λ l. From entry l w.entry) mine-bytes h.entry_from;
        pattern_from = subst (λ l. From pattern l w.pattern) other-bytes h.pattern_from;
        room = omega (arith, h.room, ap length mine-bytes, ap length other-bytes, patched_length puts.map puts.put);
        small = omega (arith, h.small, patched_length puts.map puts.put);
        inside = h.inside;
        due = omega (arith, h.due, ap length split_entries, length-append here above);
      }

      abbrev CutsNext : List ℕ → List ℕ → Step → Type 0
      CutsNext copied' mid r = CutsTerms copied w (eqb (bits.entry % 2) 0) entry (eqb (bits.pattern % 2) 0) pattern siblings left before copied' mid r

      -- The next entries do not fit.
      pub places-full : (copied' mid : List ℕ) {r : Step} → r ≡ full → CutsNext copied' mid r → PlacesEnd h before copied' mid full
      unfolding place-terms
      places-full copied' mid told cut =
          subst (λ ls. FitBehind ls w.written (length before) → ⊥) (sym split_entries)
          (ends-full here above (subst (λ r. TermsEnd place-terms before copied' mid r) told (cut place-terms)))

      -- They are written.
      module _ (copied' mid : List ℕ) {r : Step} {next : Walk} (told : r ≡ Ok next) (cut : CutsNext copied' mid r) where
        d : Finished here (here-front ++ encode_at W (both s.e s.p)) (w.entry + length (encode_at W s.e)) (w.pattern + length (encode_at W s.p))
            (length above + h.later) w.written before copied' mid next
        unfolding place-terms
        d = subst (λ r. TermsEnd place-terms before copied' mid r) told (cut place-terms)

        -- No entry is due any more.
        pub places_early : next.todo ≡ 0 → PlacesEnd h before copied' mid (Ok next)
        places_early z =
            let i : ℕ = w.entry + length (encode_all W h.mine) in
            let q : ℕ = w.pattern + length (encode_all W h.other) in
            subst (λ ls. Finished ls bytes i q h.later w.written before copied' mid next) (sym split_entries)
            (ends_early here above bytes i q h.later next d.listed d.todo z copied')

        module _ (goes_on_lem : next.todo ≡ 0 → ⊥) where
          due-later : 0 < length above + h.later
          due-later = omega (arith, d.todo)

          at_next : next.at ≡ w.at + length (encode_at W (both s.e s.p))
          at_next = (d.passed due-later).at ∙ length-append here-front (encode_at W (both s.e s.p)) ∙ ap (λ n. n + length (encode_at W (both s.e s.p))) front_length

          abbrev higher_bits : Bits
          higher_bits = above_of bits w.at next.at

          low_is : higher_bits.low ≡ low-next
          low_is = ap (λ n. bits.low + n) (kept-bit W (both s.e s.p) h.b bits.bit w.at next.at h.bit at_next)

          above_is : cut_all_at W s.ps' s.es' f (place_bits (suc h.b) s.above) higher_bits.low body-next front h.tail ≡ above
          above_is = ap (λ l. cut_all_at W s.ps' s.es' f (place_bits (suc h.b) s.above) l body-next front h.tail) low_is

          module _ (kept : length copied' ≡ length copied) where
            next-places : CutPlacesAt copied' next higher_bits entry pattern siblings left (length mid)
            next-places = record {
              vocabulary = W;
              word = f;
              b = suc h.b;
              fs = s.above;
              mine = s.es';
              other = s.ps';
              current = map;
              front = front;
              body = body-next;
              tail = h.tail;
              rest = h.rest;
              later = h.later;
              tables = h.tables;
              pairs = s.pairs;
              places = omega (arith, h.places, s.size);
              bit = doubled;
              low = omega (arith, low_is, bit_of-below (both s.e s.p) h.b, h.low, pow-suc 2 h.b);
              mine_bits = mine_halved.0;
              other_bits = other_halved.0;
              deep = let e = h.deep in let l = s.deep in omega arith;
              top = h.top;
              begins = omega (arith, at_next, h.begins, length-append body (encode_at W (both s.e s.p)));
              copied = (d.passed due-later).stands ∙ simp append_assoc;
              entry_from = from_on (encode_at W s.e) (encode_all W s.es' ++ h.tail) (subst (λ l. From entry l w.entry) mine-bytes h.entry_from) (d.passed due-later).entry;
              pattern_from = from_on (encode_at W s.p) (encode_all W s.ps' ++ h.rest) (subst (λ l. From pattern l w.pattern) other-bytes h.pattern_from) (d.passed due-later).pattern;
              room =
                  omega (
                    arith,
                    at_next,
                    both-short W s.e s.p,
                    h.room,
                    ap length mine-bytes,
                    ap length other-bytes,
                    kept,
                    patched_length puts.map puts.put,
                    length-append (encode_at W s.e) (encode_all W s.es' ++ h.tail),
                    length-append (encode_at W s.p) (encode_all W s.ps' ++ h.rest),
                  );
              small = omega (arith, h.small, kept, patched_length puts.map puts.put);
              inside = omega (arith, listed-inside d.listed, listed-length d.listed);
              due = omega (arith, d.todo, ap length above_is);
            }

            bytes_next : front ++ (f ∷ (write_map (higher_bits.low + written_bits (place_bits (suc h.b) s.above) (both_all s.es' s.ps')) ++ (body-next ++ encode_all W (both_all s.es' s.ps')))) ≡ bytes
            bytes_next =
                ap₂ (λ m l. front ++ (f ∷ (write_map m ++ l))) (omega (arith, low_is, s.bits))
                (append_assoc body (encode_at W (both s.e s.p)) (encode_all W (both_all s.es' s.ps')) ∙ ap (λ l. body ++ l) (sym s.bytes))

            -- The entries of the places above are cut.
            pub places-on : {higher' : Bits} → higher' ≡ higher_bits → (copied'' after : List ℕ) (r : Step) →
                CutsPlaces copied' next higher' entry pattern siblings left mid copied'' after r → PlacesEnd h before copied'' after r
            unfolding next-places
            places-on is copied'' after r x =
                subst (λ ls. CutEnds ls bytes (w.entry + length (encode_all W h.mine)) (w.pattern + length (encode_all W h.other)) h.later w.written before copied'' after r)
                (ap (λ ls. here ++ ls) above_is ∙ sym split_entries)
                (ends_on here (cut_all_at W s.ps' s.es' f (place_bits (suc h.b) s.above) higher_bits.low body-next front h.tail) h.later bytes_next entry_next pattern-next
                d.listed copied'' after r (subst (λ u. CutsPlaces copied' next u entry pattern siblings left mid copied'' after r) is x next-places))
              where
                entry_next : next.entry + length (encode_all W s.es') ≡ w.entry + length (encode_all W h.mine)
                entry_next = omega (arith, (d.passed due-later).entry, ap length s.mine, length-append (encode_at W s.e) (encode_all W s.es'))

                pattern-next : next.pattern + length (encode_all W s.ps') ≡ w.pattern + length (encode_all W h.other)
                pattern-next = omega (arith, (d.passed due-later).pattern, ap length s.other, length-append (encode_at W s.p) (encode_all W s.ps'))

  -- No place is left: the next bit would be one of a map.
  pub places-last : {r : Bool} → Last bits.bit bits.entry bits.pattern r → r ≡ true → {copied : List ℕ} → PutsMap bits copy copied →
      PlacesEnd h before copied before (Ok w)
  places-last t e {copied} puts = go (eqb (bits.entry + bits.pattern) 0) refl
    where
      go : (b : Bool) → eqb (bits.entry + bits.pattern) 0 ≡ b → PlacesEnd h before copied before (Ok w)
      go true z = places_none (eqb-true (bits.entry + bits.pattern) 0 z) puts
      go false z = let some-bit = eqb-false (bits.entry + bits.pattern) 0 z in absurd (t.yes e some-bit (bit-small some-bit))
