-- Places: how far list_places has come before a bit: at the start, behind a bit that is clear, behind one that stands, and
-- at the end.
--
--   First, first_of, none_above   the terms of the bits, where the next bit stands and where none does
--   low_bit, halved, bit_at, kept-all   the bits of the map, by their numbers
--   map-inside                    the word's map stands inside the copy
--   Reached                       the loop: the terms below a bit are listed
--   reached_none, reached-all     it begins, and it ends
--   copied-length, out-length, done-inside   the copy and the lent slice keep their lengths
--   is_bit, reached-clear         a turn at a bit that is clear
--   place-term                    the term of a bit that stands, in the copy whose map is kept up to it
--   reached-term, both-inside     a turn at such a bit
--
use mathlib.Core.Path.{◌≡◌, refl, sym, ap, ap₂, ◌∙◌, subst}
use mathlib.Core.Bool.{Bool, true, false, true≢false}
use mathlib.Core.List.{List, [], ◌∷◌, ◌++◌, append-nil, append_assoc}
use Prim.Native.Nat.{ℕ, zero, suc, ◌+◌, ◌-◌, ◌*◌, ◌/◌, ◌%◌, ◌^◌, ◌<◌, ◌≤◌, max}
use native.Mathlib.Nat.{le-max_left, le-max_right, pow-suc, zero-mul, div-div-eq-div-mul, mod-eq-sub-div-mul}
use native.Mathlib.Numerals.{add-one}
use native.Mathlib.Omega.{arith}
use lib.Dec.{eqb, ltb}
use lib.ListN.{length, drop, set, length-append, length-set}
use borrow.Author.Tests.{ltb-true, ltb-false}
use Rattle.terms.specs.Lists.{All}
use Rattle.terms.specs.Term.{Term, Terms, nil, cons}
use Rattle.wire.specs.Map.{map_bits, map_bytes, write_map, flags}
use Rattle.wire.specs.Vocabulary.{Vocabulary}
use Rattle.wire.specs.TermBytes.{encode_at, encode_all, levels, levels_all}
use Rattle.wire.specs.EntryBytes.{spots, spots_bytes}
use Rattle.wire.specs.EntryMaps.{Stands, bit_spots}
use Rattle.wire.proofs.EntryBytes.{spots_bytes-append}
use Rattle.wire.proofs.EntryWalk.{flags-at, copy_patched}
use Rattle.maps.specs.Writing.{map_put}
use Rattle.maps.proofs.Writing.{map-set}
use Rattle.slices.specs.Written.{Written}
use Rattle.complement.specs.Entering.{TermAt, TermListed, PlacesAt, PlacesListed}
use Rattle.slices.proofs.Writing.{part, back, part_room, written_none, written-more, written-length}

-- ---- the terms of the bits

no_bits : (W : Vocabulary) (ts : Terms) → Stands W [] ts → ts ≡ nil
no_bits W nil h = refl
no_bits W (cons t ts) h = absurd h

pub record First (ts : Terms) : Type 0 where
  pub term : Term
  pub others : Terms
  pub same : ts ≡ cons term others

first_of : (W : Vocabulary) (ws : List Bool) (ts : Terms) → Stands W (true ∷ ws) ts → First ts
first_of W ws nil h = absurd h
first_of W ws (cons t ts) h = record { term = t; others = ts; same = refl }

-- Where no bit stands from b on there is no term and no entry.
none_above : (k b m : ℕ) → b + k ≡ map_bits → m / 2 ^ b ≡ 0 → All (λ w. w ≡ false) (drop b (flags m))
none_above zero b m e z = subst (λ i. All (λ w. w ≡ false) (drop i (flags m))) (let s : map_bits ≡ b = omega arith in s) tt
none_above (suc k) b m e z =
    subst (All (λ w. w ≡ false)) (sym (flags-at b m (omega arith))) (
      ap (λ n. eqb (n % 2) 1) z,
      none_above k (suc b) m (omega arith)
          (ap (λ k. m / k) (pow-suc 2 b) ∙ sym (div-div-eq-div-mul m (2 ^ b) 2) ∙ ap (λ n. n / 2) z),
    )

terms_none : (W : Vocabulary) (ws : List Bool) (ts : Terms) → All (λ w. w ≡ false) ws → Stands W ws ts → ts ≡ nil
terms_none W [] ts a h = no_bits W ts h
terms_none W (false ∷ ws) ts a h = terms_none W ws ts a.1 h
terms_none W (true ∷ ws) ts a h = absurd (true≢false a.0)

spots_none : (W : Vocabulary) (f m : ℕ) (front : List ℕ) (ws : List Bool) (b : ℕ) (body : List ℕ) (ts : Terms) → All (λ w. w ≡ false) ws →
    bit_spots W f m front ws b body ts ≡ []
spots_none W f m front [] b body ts a = refl
spots_none W f m front (false ∷ ws) b body ts a = spots_none W f m front ws (suc b) body ts a.1
spots_none W f m front (true ∷ ws) b body ts a = absurd (true≢false a.0)

-- ---- the bits of the map

-- n is the number of the bits from b on: where it is not 0, b is a bit.
low_bit : {m b n : ℕ} → m < 256 → b ≤ map_bits → n ≡ m / 2 ^ b → (n ≡ 0 → ⊥) → b < map_bits
low_bit {m} {b} {n} small h e some-bit = go (ltb b map_bits) refl
  where
    go : (c : Bool) → ltb b map_bits ≡ c → b < map_bits
    go true k = ltb-true b map_bits k
    go false k =
        let last : b ≡ map_bits = omega (arith, ltb-false b map_bits k) in
        absurd (some-bit (e ∙ ap (λ i. m / 2 ^ i) last ∙ omega arith))

halved : (m b : ℕ) → m / 2 ^ b / 2 ≡ m / 2 ^ (b + 1)
halved m b = div-div-eq-div-mul m (2 ^ b) 2 ∙ ap (λ k. m / k) (sym (pow-suc 2 b)) ∙ ap (λ i. m / 2 ^ i) (sym (add-one b))

bit_at : (m b x : ℕ) → b < map_bits → m / 2 ^ b % 2 ≡ x → drop b (flags m) ≡ eqb x 1 ∷ drop (b + 1) (flags m)
bit_at m b x h e = flags-at b m h ∙ ap₂ (λ x i. eqb x 1 ∷ drop i (flags m)) e (sym (add-one b))

-- Where no bit stands above b, the bits up to b are all.
kept-all : (b m : ℕ) → m / 2 ^ (b + 1) ≡ 0 → m % 2 ^ suc b ≡ m
kept-all b m z =
    ap (λ i. m % 2 ^ i) (sym (add-one b))
    ∙ mod-eq-sub-div-mul m (2 ^ (b + 1))
    ∙ ap (λ q. m - q * 2 ^ (b + 1)) z
    ∙ ap (λ q. m - q) (zero-mul (2 ^ (b + 1)))
    ∙ omega arith

-- ---- the loop

-- The word's map stands inside the copy.
pub map-inside : {copy : List ℕ} {at map : ℕ} {results chains : List ℕ} {left room : ℕ} → PlacesAt copy at map results chains left room → at + 1 < length copy
map-inside {copy} {at} {map} h =
    let l : List ℕ = h.top ∷ (write_map map ++ (encode_all h.vocabulary h.terms ++ h.rest)) in
    omega (arith, ap length h.stands, length-append h.front l, h.begins)

module _ {copy : List ℕ} {at map : ℕ} {results chains : List ℕ} {left : ℕ} (before : List ℕ) (h : PlacesAt copy at map results chains left (length before)) where
  abbrev W : Vocabulary
  W = h.vocabulary

  abbrev f : ℕ
  f = h.top

  abbrev from : List Bool → ℕ → List ℕ → Terms → List ℕ
  from ws b body ts = spots_bytes W (bit_spots W f map h.front ws b body ts)

  abbrev kept-up_to : ℕ → List ℕ
  kept-up_to k = h.front ++ (f ∷ (write_map k ++ (encode_all W h.terms ++ h.rest)))

  -- The terms below bit b have the bytes body, and their entries are written: done. The word's map is kept up to some bit.
  pub record Reached (b next n bits : ℕ) (copied out : List ℕ) : Type 0 where
    pub current : ℕ
    pub body : List ℕ
    pub terms : Terms
    pub done : List ℕ
    pub low : b ≤ map_bits
    pub shifted : bits ≡ map / 2 ^ b
    pub full : bits ≡ 0 → current ≡ map
    pub whole : body ++ encode_all W terms ≡ encode_all W h.terms
    pub stands : copied ≡ kept-up_to current
    pub offset : next ≡ at + 1 + map_bytes + length body
    pub due : Stands W (drop b (flags map)) terms
    pub deep : suc (levels_all terms) ≤ left
    pub bytes : from (flags map) 0 [] h.terms ≡ done ++ from (drop b (flags map)) b body terms
    pub written : Written done before n out

  pub reached_none : {bits : ℕ} → bits ≡ map → Reached 0 (at + 2) 0 bits copy before
  reached_none {bits} e = record {
    current = map;
    body = [];
    terms = h.terms;
    done = [];
    low = omega arith;
    shifted = e ∙ (let z : map ≡ map / 2 ^ 0 = omega arith in z);
    full = λ z. refl;
    whole = refl;
    stands = h.stands;
    offset = omega arith;
    due = h.due;
    deep = h.deep;
    bytes = refl;
    written = written_none before;
  }

  module _ {b next n bits : ℕ} {copied out : List ℕ} (r : Reached b next n bits copied out) where
    put_map : (k : ℕ) → map_put k copied (at + 1) ≡ kept-up_to k
    put_map k =
        sym (map-set copied (at + 1) k)
        ∙ ap₂ (λ l i. set l (i + 1) k) r.stands (sym h.begins)
        ∙ copy_patched h.front f r.current k (encode_all W h.terms ++ h.rest)

    pub copied-length : length copied ≡ length copy
    copied-length =
        let l : ℕ → List ℕ = λ k. f ∷ (write_map k ++ (encode_all W h.terms ++ h.rest)) in
        omega (arith, ap length r.stands, ap length h.stands, length-append h.front (l r.current), length-append h.front (l map))

    abbrev to_do : List ℕ
    to_do = from (drop b (flags map)) b r.body r.terms

    room-both : length r.done + length to_do ≤ length before
    room-both = let fits = h.fits in omega (arith, ap length r.bytes, length-append r.done to_do)

    room-done : length r.done ≤ length before
    room-done = omega (arith, room-both)

    pub out-length : length out ≡ length before
    out-length = written-length r.written room-done

    pub done-inside : n ≤ length out
    done-inside = omega (arith, r.written.count, room-done, out-length)

    -- No bit stands from b on.
    pub reached-all : bits ≡ 0 → PlacesListed h copied before out next n
    reached-all z =
        let low = r.low in
        let off = none_above (map_bits - b) b map (omega arith) (sym r.shifted ∙ z) in
        let none : r.terms ≡ nil = terms_none W (drop b (flags map)) r.terms off r.due in
        let body_is : r.body ≡ encode_all W h.terms =
        sym (append-nil r.body) ∙ ap (λ ts. r.body ++ encode_all W ts) (sym none) ∙ r.whole in
        let all_done : from (flags map) 0 [] h.terms ≡ r.done =
        r.bytes
        ∙ ap (λ l. r.done ++ spots_bytes W l) (spots_none W f map h.front (drop b (flags map)) b r.body r.terms off)
        ∙ append-nil r.done in
        record {
          passed = omega (arith, r.offset, ap length body_is);
          restored = r.stands ∙ ap kept-up_to (r.full z) ∙ sym h.stands;
          written = subst (λ bytes. Written bytes before n out) (sym all_done) r.written;
        }

    -- Bit b is clear, or it stands.
    module _ (small : map < 256) (some-bit : bits ≡ 0 → ⊥) where
      pub is_bit : b < map_bits
      is_bit = low_bit small r.low r.shifted some-bit

      shifted_next : bits / 2 ≡ map / 2 ^ (b + 1)
      shifted_next = ap (λ n. n / 2) r.shifted ∙ halved map b

      pub reached-clear : (bits % 2 ≡ 1 → ⊥) → Reached (b + 1) next n (bits / 2) copied out
      reached-clear e =
          let clear = bit_at map b 0 is_bit (ap (λ n. n % 2) (sym r.shifted) ∙ (let z : bits % 2 ≡ 0 = omega arith in z)) in
          record {
            current = r.current;
            body = r.body;
            terms = r.terms;
            done = r.done;
            low = omega (arith, is_bit);
            shifted = shifted_next;
            full = λ z. absurd (some-bit (omega arith));
            whole = r.whole;
            stands = r.stands;
            offset = r.offset;
            due = subst (λ ws. Stands W ws r.terms) clear r.due;
            deep = r.deep;
            bytes =
                r.bytes
                ∙ ap (λ ws. r.done ++ from ws b r.body r.terms) clear
                ∙ ap (λ i. r.done ++ from (drop (b + 1) (flags map)) i r.body r.terms) (sym (add-one b));
            written = r.written;
          }

      module _ {k : ℕ} (one : bits % 2 ≡ 1) (keeps : k ≡ map % 2 ^ suc b) {patched : List ℕ} (put : patched ≡ map_put k copied (at + 1)) where
        abbrev ws : List Bool
        ws = drop (b + 1) (flags map)

        stands_here : drop b (flags map) ≡ true ∷ ws
        stands_here = bit_at map b 1 is_bit (ap (λ n. n % 2) (sym r.shifted) ∙ one)

        split : First r.terms
        split = first_of W ws r.terms (subst (λ ws. Stands W ws r.terms) stands_here r.due)

        abbrev t : Term
        t = split.term

        abbrev us : Terms
        us = split.others

        here : Stands W (true ∷ ws) (cons t us)
        here = subst (Stands W (true ∷ ws)) split.same (subst (λ ws. Stands W ws r.terms) stands_here r.due)

        abbrev next-front : List ℕ
        next-front = h.front ++ (f ∷ (write_map k ++ r.body))

        abbrev term-bytes : List ℕ
        term-bytes = spots_bytes W (spots W t next-front)

        abbrev other-bytes : List ℕ
        other-bytes = from ws (b + 1) (r.body ++ encode_at W t) us

        -- The entries of the term at this bit, and then those above.
        both_bytes : to_do ≡ term-bytes ++ other-bytes
        both_bytes =
            ap₂ (λ ws ts. from ws b r.body ts) stands_here split.same
            ∙ ap (λ k. spots_bytes W (spots W t (h.front ++ (f ∷ (write_map k ++ r.body))) ++ bit_spots W f map h.front ws (suc b) (r.body ++ encode_at W t) us))
            (sym keeps)
            ∙ spots_bytes-append W (spots W t next-front) (bit_spots W f map h.front ws (suc b) (r.body ++ encode_at W t) us)
            ∙ ap (λ i. term-bytes ++ from ws i (r.body ++ encode_at W t) us) (sym (add-one b))

        room-here : length term-bytes ≤ length (part n out)
        room-here =
            omega (arith, room-both, ap length both_bytes, length-append term-bytes other-bytes, part_room r.written room-done)

        whole_here : r.body ++ (encode_at W t ++ encode_all W us) ≡ encode_all W h.terms
        whole_here = ap (λ ts. r.body ++ encode_all W ts) (sym split.same) ∙ r.whole

        deep-both : suc (max (levels t) (levels_all us)) ≤ left
        deep-both = subst (λ ts. suc (levels_all ts) ≤ left) split.same r.deep

        -- The term at this bit, in the copy whose map is kept up to it.
        pub place-term : TermAt patched next results chains (left - 1) (length (part n out))
        place-term = record {
          vocabulary = W;
          front = next-front;
          term = t;
          kind = here.0.0;
          rest = encode_all W us ++ h.rest;
          tables = h.tables;
          size = omega (arith, ap length (put ∙ sym (map-set copied (at + 1) k)), length-set copied (at + 1) k, copied-length, h.size);
          begins = omega (arith, length-append h.front (f ∷ (write_map k ++ r.body)), h.begins, r.offset);
          sorted = here.0.1;
          closed = here.1;
          stands =
              put
              ∙ put_map k
              ∙ ap (λ l. h.front ++ (f ∷ (write_map k ++ (l ++ h.rest)))) (sym whole_here)
              ∙ simp append_assoc;
          deep = let d = deep-both in omega (arith, le-max_left (levels t) (levels_all us));
          fits = room-here;
        }

        module _ {copied' ys : List ℕ} {end m : ℕ} (l : TermListed place-term copied' (part n out) ys end m) where
          pub reached-term : Reached (b + 1) end (n + m) (bits / 2) copied' (back n out ys)
          unfolding place-term
          reached-term = record {
            current = k;
            body = r.body ++ encode_at W t;
            terms = us;
            done = r.done ++ term-bytes;
            low = omega (arith, is_bit);
            shifted = shifted_next;
            full = λ z. keeps ∙ kept-all b map (sym shifted_next ∙ z);
            whole = append_assoc r.body (encode_at W t) (encode_all W us) ∙ whole_here;
            stands = l.restored ∙ put ∙ put_map k;
            offset = omega (arith, l.passed, r.offset, length-append r.body (encode_at W t));
            due = here.2;
            deep = let d = deep-both in omega (arith, le-max_right (levels t) (levels_all us));
            bytes = r.bytes ∙ ap (λ l. r.done ++ l) both_bytes ∙ sym (append_assoc r.done term-bytes other-bytes);
            written = written-more r.written room-done l.written;
          }

          pub both-inside : n + m ≤ length before
          unfolding place-term
          both-inside = omega (arith, l.written.count, r.written.count, room-here, part_room r.written room-done, room-done)
