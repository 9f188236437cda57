-- Area: the entries of an area, taken one after the other.
--
--   no-patterns      a row without bytes has no pattern
--   entry_whole      the size of the entry at the front of some bytes
--   still_few, more-few    the number of entries, of which there may be as many as the slice has bytes
--   Walked           the first entries of an area are taken
--   walked_none      none of them
--   entry-ends, next-bytes, next-left    an entry more has bytes and ends inside the area, whatever stands there
--   walked_more, walked-full, walked-over    there is one and it is taken, or does not fit
--   walked_all       all of them
--   Taken            the same whatever stands in the area, with the lengths of the copy and the slice
--
use mathlib.Core.Path.{◌≡◌, refl, sym, ap, ◌∙◌, subst}
use mathlib.Core.List.{List, [], ◌∷◌, ◌++◌, map, map-append, append-nil, append_assoc}
use Prim.Native.Nat.{ℕ, zero, suc, ◌+◌, ◌-◌, ◌<◌, ◌≤◌}
use native.Mathlib.Omega.{arith}
use lib.ListN.{length, take, drop, length-append, length-drop}
use lib.Seq.{take_at, drop_at, drop-drop, length-take-le}
use Rattle.terms.specs.Lists.{All}
use Rattle.terms.specs.Signature.{Signature}
use Rattle.terms.specs.Term.{Term, any, var, app, Sorted}
use Rattle.terms.specs.Book.{remains, against}
use Rattle.terms.proofs.All.{all_right}
use Rattle.wire.specs.Vocabulary.{Vocabulary, InOrder, signature}
use Rattle.wire.specs.TermBytes.{encode_root, encode_term, most_bytes}
use Rattle.wire.specs.BookBytes.{patterns_bytes}
use Rattle.wire.specs.EntryCut.{due_size}
use Rattle.wire.proofs.EntryCut.{due_none}
use Rattle.extents.specs.Extents.{most_extent, term_size}
use Rattle.extents.proofs.Extents.{term-inside, term_extent}
use Rattle.slices.proofs.Writing.{part, part_is}
use Rattle.others.specs.Listed.{FitBehind}
use Rattle.cuts.specs.Entries.{EntryOf}
use Rattle.strikes.specs.Calls.{Struck, leaving, full, Put, LeftOf, leaves_of}
use Rattle.strikes.specs.Striking.{StrikeAt, StrikesEntry, EntryEnds, NotedAt}
use Rattle.others.proofs.Entries.{fits-first}
use Rattle.strikes.proofs.Putting.{put_none, put_count, put-length, put_then, full-then, entries-few}

-- ---- rows

pub patterns-append : (W : Vocabulary) (s : ℕ) (l m : List Term) → patterns_bytes W s (l ++ m) ≡ patterns_bytes W s l ++ patterns_bytes W s m
patterns-append W s [] m = refl
patterns-append W s (t ∷ l) m = ap (λ z. encode_term W s t ++ z) (patterns-append W s l m) ∙ sym (append_assoc (encode_term W s t) _ _)

against-append : (S : Signature) (p : Term) (l m : List Term) → against S p (l ++ m) ≡ against S p l ++ against S p m
against-append S p [] m = refl
against-append S p (e ∷ l) m = ap (λ z. remains S p e ++ z) (against-append S p l m) ∙ sym (append_assoc (remains S p e) _ _)

leaves_append : (W : Vocabulary) (s : ℕ) (t : Term) (l m : List Term) → leaves_of W s t (l ++ m) ≡ leaves_of W s t l ++ leaves_of W s t m
leaves_append W s t l m =
    ap (map (encode_term W s)) (against-append (signature W) t l m)
    ∙ map-append (encode_term W s) (against (signature W) t l) (against (signature W) t m)

leaves_more : (W : Vocabulary) (s : ℕ) (t : Term) (done : List Term) (e : Term) →
    leaves_of W s t (done ++ (e ∷ [])) ≡ leaves_of W s t done ++ map (encode_term W s) (remains (signature W) t e)
leaves_more W s t done e =
    leaves_append W s t done (e ∷ []) ∙ ap (λ z. leaves_of W s t done ++ map (encode_term W s) z) (append-nil (remains (signature W) t e))

-- ---- the size of an entry

-- A byte of 128 or more is a term by itself.
whole-size : (n : ℕ) (r : List ℕ) → 0 < n → due_size (take n (255 ∷ r)) 1 ≡ 1
whole-size zero r h = absurd (omega arith)
whole-size (suc n) r h = ap suc (due_none (take n r))

entry-size : (W : Vocabulary) → InOrder W → (s : ℕ) (e : Term) → Sorted (signature W) e s → length (encode_term W s e) ≤ most_bytes → (r : List ℕ) →
    term_size (encode_root W e ++ r) ≡ length (encode_root W e)
entry-size W in_order s any sorted short r = whole-size most_extent r (omega arith)
entry-size W in_order s (var n) sorted short r = term_extent W in_order (var n) s sorted refl (omega arith) r
entry-size W in_order s (app f ts) sorted short r = term_extent W in_order (app f ts) s sorted refl (omega arith) r

-- An entry is its kind byte and a term, whose size is found behind it.
pub entry_whole : (W : Vocabulary) → InOrder W → (s : ℕ) (e : Term) → Sorted (signature W) e s → length (encode_term W s e) ≤ most_bytes → (r l : List ℕ) →
    l ≡ encode_root W e ++ r → (size : ℕ) → size ≡ term_size l → 1 + size ≡ length (encode_term W s e)
entry_whole W in_order s e sorted short r l stands size sized =
    ap (λ n. 1 + n) (sized ∙ ap term_size stands ∙ entry-size W in_order s e sorted short r) ∙ add_one_left (length (encode_root W e))
  where
    add_one_left : (n : ℕ) → 1 + n ≡ suc n
    add_one_left n = omega arith

-- Every pattern has bytes.
pub no-patterns : (W : Vocabulary) (s : ℕ) (l : List Term) → length (patterns_bytes W s l) ≡ 0 → l ≡ []
no-patterns W s [] e = refl
no-patterns W s (t ∷ l) e = absurd (let n = length-append (encode_term W s t) (patterns_bytes W s l) in omega arith)

-- ---- the walk over an area

-- Plain numbers: omega would look into what is known of a size.
inside : (all at size : ℕ) → at < all → size ≤ all - (at + 1) → at + 1 + size ≤ all
inside all at size below h = omega arith

above : (at size : ℕ) → at < at + 1 + size
above at size = omega arith

pub entry-ends : (area : List ℕ) (at size : ℕ) → at < length area → size ≡ term_size (part (at + 1) area) → EntryEnds area at (at + 1 + size)
entry-ends area at size below e =
    let sized : size ≡ term_size (drop (at + 1) area) = e ∙ ap term_size (part_is (at + 1) area) in
    record {
      some = above at size;
      inside =
          inside (length area) at size below
          (subst (λ n. n ≤ length area - (at + 1)) (sym sized) (subst (λ n. term_size (drop (at + 1) area) ≤ n) (length-drop (at + 1) area) (term-inside (drop (at + 1) area))));
      sized = ap (λ n. at + 1 + n) sized;
    }

module _ {area : List ℕ} {at end : ℕ} (ends : EntryEnds area at end) where
  pub next-bytes : 1 ≤ length (take (end - at) (drop at area))
  next-bytes =
      let some = ends.some in
      let inside = ends.inside in
      let l = length-drop at area in
      omega (arith, length-take-le (end - at) (drop at area) (omega arith))

  pub next-left : length area - end < length area - at
  next-left = let some = ends.some in let inside = ends.inside in omega arith

-- The number of entries stays at most that of the slice's bytes.
pub still_few : (k all now new : ℕ) → k ≤ all → now ≡ all → new ≡ now → k ≤ new
still_few k all now new h e f = omega arith

pub more-few : (k j all now new : ℕ) → k ≤ all → now ≡ all → new ≡ now → j ≤ new - k → k + j ≤ all
more-few k j all now new h e f g = omega arith

-- Where an entry ends by its bytes.
behind-kind : (at size one : ℕ) → 1 + size ≡ one → at + 1 + size ≡ at + one
behind-kind at size one e = omega arith

apart : (at end one : ℕ) → end ≡ at + one → one ≡ end - at
apart at end one e = omega arith

behind-one : (at end done one rest whole : ℕ) → at ≡ done → end ≡ at + one → whole ≡ done + rest → rest ≡ one + 0 → end ≡ whole
behind-one at end done one rest whole e f g k = omega arith

module _ {area pattern marks siblings : List ℕ} {copied : ℕ} (h : NotedAt area pattern marks siblings copied) where
  abbrev W : Vocabulary
  W = h.at.vocabulary

  abbrev s : ℕ
  s = h.at.kind

  abbrev Fit : Term → Type 0
  Fit e = length (encode_term W s e) + length (encode_term W s h.at.term) ≤ copied

  -- The entries `done` are taken, which end at the offset `at`, and what remains of them is put.
  pub record Walked (at n k : ℕ) (before now : List ℕ) : Type 0 where
    pub done : List Term
    pub rest : List Term
    pub split : h.at.entries ≡ done ++ rest
    pub place : at ≡ length (patterns_bytes W s done)
    pub put : Put (leaves_of W s h.at.term done) 0 before now n k

  -- No more entries are put than the slice has bytes.
  walked-few : {at n k : ℕ} {before now : List ℕ} → Walked at n k before now → k ≤ length before
  walked-few w =
      let c = put_count w.put in
      let m = w.put.count in
      let l = w.put.listed.fits.all in
      let f = entries-few W s (against (signature W) h.at.term w.done) in
      omega arith

  pub walked_none : (before : List ℕ) → Walked 0 0 0 before before
  walked_none before = record { done = []; rest = h.at.entries; split = refl; place = refl; put = put_none 0 before (omega arith) }

  module _ {at n k : ℕ} {before now : List ℕ} (w : Walked at n k before now) where
    behind : drop at area ≡ patterns_bytes W s w.rest
    behind =
        ap (drop at) (h.at.stands ∙ ap (patterns_bytes W s) w.split ∙ patterns-append W s w.done w.rest)
        ∙ drop_at (patterns_bytes W s w.done) _ at (sym w.place)

    left : length area - at ≡ length (patterns_bytes W s w.rest)
    left = sym (length-drop at area) ∙ ap length behind

    -- Behind the last entry the area ends.
    pub walked_all : length area ≤ at → LeftOf (leaves_of W s h.at.term h.at.entries) 0 before now (leaving n k)
    walked_all end =
        subst (λ l. Put (leaves_of W s h.at.term l) 0 before now n k)
        (sym (w.split ∙ ap (λ l. w.done ++ l) (no-patterns W s w.rest (let l = left in omega arith)) ∙ append-nil w.done)) w.put

    -- What is put has room in the slice.
    walked-room : n ≤ length now
    walked-room = let c = put_count w.put in let l = put-length w.put in let f = w.put.listed.fits.all in omega arith

    -- The entry that stands at the offset.
    record Next : Type 0 where
      one : Term
      more : List Term
      is : w.rest ≡ one ∷ more
      good : EntryOf W s one
      copy : Fit one

    walked_next : at < length area → Next
    walked_next below = go w.rest refl
      where
        go : (l : List Term) → w.rest ≡ l → Next
        go [] e = absurd (let l = left ∙ ap (λ z. length (patterns_bytes W s z)) e in omega arith)
        go (t ∷ l) e =
            let whole : h.at.entries ≡ w.done ++ (t ∷ l) = w.split ∙ ap (λ z. w.done ++ z) e in
            record {
              one = t;
              more = l;
              is = e;
              good = (all_right (EntryOf W s) w.done (t ∷ l) (subst (All (EntryOf W s)) whole h.at.each)).0;
              copy = (all_right (Fit) w.done (t ∷ l) (subst (All Fit) whole h.at.copy)).0;
            }

    -- Where it ends was found by its size, and the copy is as long as at first.
    module _ (below : at < length area) {end : ℕ} (ends : EntryEnds area at end) where
      x : Next
      x = walked_next below

      abbrev bytes : List ℕ
      bytes = encode_term W s x.one

      here : drop at area ≡ bytes ++ patterns_bytes W s x.more
      here = behind ∙ ap (patterns_bytes W s) x.is

      whole : end ≡ at + length bytes
      whole =
          ends.sized
          ∙ behind-kind at _ (length bytes)
          (entry_whole W h.at.tables.in_order s x.one x.good.sorted x.good.short (patterns_bytes W s x.more) (drop (at + 1) area)
          (sym (drop-drop 1 at area) ∙ ap (drop 1) here) _ refl)

      next_slice : take (end - at) (drop at area) ≡ bytes
      next_slice = ap (take (end - at)) here ∙ take_at bytes (patterns_bytes W s x.more) (end - at) (apart at end (length bytes) whole)

      -- The entries up to this one, and those behind it.
      further : h.at.entries ≡ (w.done ++ (x.one ∷ [])) ++ x.more
      further = w.split ∙ ap (λ z. w.done ++ z) x.is ∙ sym (append_assoc w.done (x.one ∷ []) x.more)

      module _ (copies : ℕ) (kept : copies ≡ copied) where
        next_strike : StrikeAt (take (end - at) (drop at area)) pattern marks siblings copies
        next_strike = record {
          vocabulary = W;
          kind = s;
          one = x.one;
          term = h.at.term;
          tables = h.at.tables;
          entry_of = x.good;
          pattern_of = h.at.pattern_of;
          stands = next_slice;
          begins = h.at.begins;
          marked = h.marked;
          copy = subst (λ c. length bytes + length (encode_term W s h.at.term) ≤ c) (sym kept) x.copy;
          small = subst (λ c. c ≤ most_extent) (sym kept) h.at.small;
        }

        module _ (after : List ℕ) (r : Struck) (strikes : StrikesEntry (take (end - at) (drop at area)) pattern marks siblings copies n now after r) where
          abbrev ones : List (List ℕ)
          ones = map (encode_term W s) (remains (signature W) h.at.term x.one)

          struck : LeftOf ones n now after r
          unfolding next_strike
          struck = strikes next_strike walked-room

          pub walked_more : {n' j : ℕ} → r ≡ leaving n' j → Walked end n' (k + j) before after
          walked_more {n'} {j} e = record {
            done = w.done ++ (x.one ∷ []);
            rest = x.more;
            split = further;
            place =
                behind-one at end (length (patterns_bytes W s w.done)) (length bytes) (length (patterns_bytes W s (x.one ∷ []))) _ w.place whole
                (ap length (patterns-append W s w.done (x.one ∷ [])) ∙ length-append (patterns_bytes W s w.done) (patterns_bytes W s (x.one ∷ [])))
                (length-append bytes []);
            put =
                subst (λ l. Put l 0 before after n' (k + j)) (sym (leaves_more W s h.at.term w.done x.one))
                (put_then w.put (subst (LeftOf ones n now after) e struck));
          }

          pub walked-full : r ≡ full → LeftOf (leaves_of W s h.at.term h.at.entries) 0 before after full
          walked-full e f =
              full-then w.put ones (subst (LeftOf ones n now after) e struck)
              (subst (λ l. FitBehind l 0 (length before)) (leaves_more W s h.at.term w.done x.one)
              (fits-first (leaves_of W s h.at.term (w.done ++ (x.one ∷ []))) (leaves_of W s h.at.term x.more)
              (subst (λ l. FitBehind l 0 (length before)) (ap (leaves_of W s h.at.term) further ∙ leaves_append W s h.at.term (w.done ++ (x.one ∷ [])) x.more) f)))

          -- The slice is as long as before.
          pub walked-over : {n' j : ℕ} → r ≡ leaving n' j → length after - k < j → LeftOf (leaves_of W s h.at.term h.at.entries) 0 before after full
          walked-over e over f = let few = walked-few (walked_more e) in let same = put-length (walked_more e).put in omega arith

-- What the loop keeps. The number of entries is at most that of the slice's bytes.
pub record Taken (area pattern marks siblings : List ℕ) (copy₀ out₀ : List ℕ) (at n k : ℕ) (copy out : List ℕ) : Type 0 where
  pub copy_length : length copy ≡ length copy₀
  pub out_length : length out ≡ length out₀
  pub few : k ≤ length out₀
  pub walked : (h : NotedAt area pattern marks siblings (length copy₀)) → Walked h at n k out₀ out
