-- Terms: what list_term does at a name and at a word.
--
--   Shape, shape              a term that is no open place is a name or a word
--   term-inside               its first byte stands in the copy
--   name-listed               a name has no entries
--   Word, term-word           the word that stands there, with its map and terms
--   own-others_at, own-length, own-inside   its own entries have room and are written
--   word-places               the terms of its bits stand in the copy, and have room behind these entries
--   word-listed               the word is listed, with its terms
--
use mathlib.Core.Path.{◌≡◌, refl, sym, ap, ap₂, ◌∙◌, subst}
use mathlib.Core.Bool.{false, true≢false}
use mathlib.Core.List.{List, [], ◌∷◌, ◌++◌, append_assoc}
use Prim.Native.Nat.{ℕ, suc, ◌+◌, ◌<◌, ◌≤◌, max}
use native.Mathlib.Nat.{zero-max}
use native.Mathlib.Omega.{arith}
use lib.ListN.{length, get_or, take, length-append}
use lib.Seq.{take_at, get_or_at}
use Rattle.terms.specs.Term.{Term, any, var, app, Terms, nil, cons, Sorted}
use Rattle.terms.specs.Listing.{others}
use Rattle.wire.specs.Map.{write_map, flags, is_open}
use Rattle.wire.specs.Vocabulary.{Vocabulary, signature, most_words}
use Rattle.wire.specs.TermBytes.{name_byte, written_map, encode_at, encode_all, levels, levels_all}
use Rattle.wire.proofs.Words.{length_symbols}
use Rattle.wire.specs.EntryBytes.{others_bytes, spots, spots_bytes}
use Rattle.wire.specs.EntryMaps.{closed, Stands, bit_spots}
use Rattle.wire.proofs.EntryMaps.{closed-bytes, spots_by_bits}
use Rattle.wire.proofs.EntryWalk.{closed-stands, word-bytes}
use Rattle.kinds.specs.Kinds.{kind_in, others_in}
use Rattle.kinds.proofs.Others.{others-tabled}
use Rattle.slices.specs.Written.{Written}
use Rattle.complement.specs.Entering.{OthersAt, TermAt, TermListed, PlacesAt, PlacesListed}
use Rattle.slices.proofs.Writing.{part, back, part_room, written_none, written-more, written-length}

-- A term that is no open place is a name or a word.
data Shape (t : Term) : Type 0 where
  name : (n : ℕ) → t ≡ var n → Shape t
  symbol : (f : ℕ) (ts : Terms) → t ≡ app f ts → Shape t

shape : (t : Term) → is_open t ≡ false → Shape t
shape any h = absurd (true≢false h)
shape (var n) h = name n refl
shape (app f ts) h = symbol f ts refl

closed-levels : (ts : Terms) → levels_all (closed ts) ≡ levels_all ts
closed-levels nil = refl
closed-levels (cons any ts) = closed-levels ts ∙ sym (zero-max (levels_all ts))
closed-levels (cons (var n) ts) = ap (max 1) (closed-levels ts)
closed-levels (cons (app f us) ts) = ap (max (suc (levels_all us))) (closed-levels ts)

-- The byte where a term stands.
module _ {copy : List ℕ} {at : ℕ} {results chains : List ℕ} {left room : ℕ} (h : TermAt copy at results chains left room) where
  abbrev W : Vocabulary
  W = h.vocabulary

  byte_of : (b : ℕ) (l : List ℕ) → encode_at W h.term ≡ b ∷ l → get_or copy at 0 ≡ b
  byte_of b l e =
      ap (λ z. get_or z at 0) (h.stands ∙ ap (λ z. h.front ++ (z ++ h.rest)) e)
      ∙ get_or_at h.front b (l ++ h.rest) 0 at h.begins

  longer : (b : ℕ) (l : List ℕ) → encode_at W h.term ≡ b ∷ l → at + suc (length l) ≤ length copy
  longer b l e =
      let z : length copy ≡ length h.front + length ((b ∷ l) ++ h.rest) =
      ap length (h.stands ∙ ap (λ z. h.front ++ (z ++ h.rest)) e) ∙ length-append h.front ((b ∷ l) ++ h.rest) in
      omega (arith, h.begins, length-append (b ∷ l) h.rest)

  few_words : length W.words ≤ 96
  few_words = h.tables.in_order.few_words

  known : (f : ℕ) (ts : Terms) → h.term ≡ app f ts → f < length W.words
  known f ts e =
      let s = subst (λ t. Sorted (signature W) t h.kind) e h.sorted in
      omega (arith, s.0, length_symbols W)

  -- The term's first byte stands in the copy.
  pub term-inside : at < length copy
  term-inside = go (shape h.term h.closed)
    where
      go : Shape h.term → at < length copy
      go (name n e) = let z = longer (name_byte n) [] (ap (encode_at W) e) in omega arith
      go (symbol f ts e) = let z = longer f (write_map (written_map W f ts) ++ encode_all W ts) (ap (encode_at W) e) in omega arith

  -- A name has no entries.
  pub name-listed : 127 < get_or copy at 0 → (before : List ℕ) → TermListed h copy before before (at + 1) 0
  name-listed k before = go (shape h.term h.closed)
    where
      go : Shape h.term → TermListed h copy before before (at + 1) 0
      go (name n e) = record {
        passed = ap (λ t. at + length (encode_at W t)) (sym e);
        restored = refl;
        written = subst (λ t. Written (spots_bytes W (spots W t h.front)) before 0 before) (sym e) (written_none before);
      }
      go (symbol f ts e) = absurd (omega (arith, byte_of f (write_map (written_map W f ts) ++ encode_all W ts) (ap (encode_at W) e), known f ts e, few_words))

  pub record Word : Type 0 where
    pub terms : Terms
    pub same : h.term ≡ app (get_or copy at 0) terms
    pub map : get_or copy (at + 1) 0 ≡ written_map W (get_or copy at 0) terms
    pub inside : at + 1 < length copy
    pub known : get_or copy at 0 < length W.words

  pub term-word : get_or copy at 0 ≤ 127 → Word
  term-word k = go (shape h.term h.closed)
    where
      go : Shape h.term → Word
      go (name n e) = absurd (omega (arith, byte_of (name_byte n) [] (ap (encode_at W) e)))
      go (symbol f ts e) =
          let m : ℕ = written_map W f ts in
          let first : f ≡ get_or copy at 0 = sym (byte_of f (m ∷ encode_all W ts) (ap (encode_at W) e)) in
          let second : get_or copy (at + 1) 0 ≡ m =
          ap (λ z. get_or z (at + 1) 0)
          (h.stands
          ∙ ap (λ t. h.front ++ (encode_at W t ++ h.rest)) e
          ∙ sym (append_assoc h.front (f ∷ []) (m ∷ (encode_all W ts ++ h.rest))))
          ∙ get_or_at (h.front ++ (f ∷ [])) m (encode_all W ts ++ h.rest) 0 (at + 1)
          (omega (arith, length-append h.front (f ∷ []), h.begins)) in
          record {
            terms = ts;
            same = e ∙ ap (λ f. app f ts) first;
            map = second ∙ ap (λ f. written_map W f ts) first;
            inside = let z = longer f (m ∷ encode_all W ts) (ap (encode_at W) e) in omega arith;
            known = subst (λ f. f < length W.words) first (known f ts e);
          }

-- A word: its own entries, then those of its places.
module _ {copy : List ℕ} {at : ℕ} {results chains : List ℕ} {left : ℕ} (before : List ℕ)
    (h : TermAt copy at results chains left (length before)) (w : Word h) {g : ℕ} (same : g ≡ get_or copy at 0) {m : ℕ} (mapped : m ≡ get_or copy (at + 1) 0) where
  abbrev U : Vocabulary
  U = h.vocabulary

  abbrev f : ℕ
  f = get_or copy at 0

  abbrev ts : Terms
  ts = closed w.terms

  sorted : Sorted (signature U) (app f w.terms) h.kind
  sorted = subst (λ t. Sorted (signature U) t h.kind) w.same h.sorted

  map_is : m ≡ written_map U f w.terms
  map_is = mapped ∙ w.map

  abbrev own-bytes : List ℕ
  own-bytes = others_bytes (take at copy) (others_in (length U.words) results g)

  abbrev place-bytes : List ℕ
  place-bytes = spots_bytes U (bit_spots U f m h.front (flags m) 0 [] ts)

  front_is : take at copy ≡ h.front
  front_is = ap (take at) h.stands ∙ take_at h.front (encode_at U h.term ++ h.rest) at h.begins

  own-others : others_bytes h.front (others (signature U) f) ≡ own-bytes
  own-others =
      ap₂ others_bytes (sym front_is)
      (others-tabled U h.tables.in_order (length U.words) results refl h.tables.tabled.result f w.known
      ∙ ap (others_in (length U.words) results) (sym same))

  all-bytes : spots_bytes U (spots U h.term h.front) ≡ own-bytes ++ place-bytes
  all-bytes =
      ap (λ t. spots_bytes U (spots U t h.front)) w.same
      ∙ ap (spots_bytes U) (spots_by_bits U h.tables.in_order f w.terms h.kind sorted h.front)
      ∙ ap₂ (λ l m. l ++ spots_bytes U (bit_spots U f m h.front (flags m) 0 [] ts)) own-others (sym map_is)

  room-both : length own-bytes + length place-bytes ≤ length before
  room-both = let fits = h.fits in omega (arith, ap length all-bytes, length-append own-bytes place-bytes)

  pub own_room : length own-bytes ≤ length before
  own_room = omega (arith, room-both)

  -- The other words are chained from their lowest on, and their entries have room.
  abbrev pub own-others_at : {first : ℕ} → first ≡ get_or chains (most_words + kind_in results g) 0 → OthersAt copy at g first chains (length before)
  own-others_at e = record {
    words = length U.words;
    results = results;
    few = h.tables.in_order.few_words;
    chained = h.tables.chained;
    starts = e ∙ h.tables.chained.first (kind_in results g) (omega arith);
    inside = let i = w.inside in omega arith;
    small = let i = w.inside in let s = h.size in omega arith;
    fits = own_room;
  }

  stands_here : copy ≡ h.front ++ (f ∷ (write_map m ++ (encode_all U ts ++ h.rest)))
  stands_here =
      h.stands
      ∙ ap (λ t. h.front ++ (encode_at U t ++ h.rest)) w.same
      ∙ ap (λ l. h.front ++ l) (word-bytes U f w.terms h.rest)
      ∙ ap (λ m. h.front ++ (f ∷ (write_map m ++ (encode_all U ts ++ h.rest)))) (sym map_is)

  module _ {after : List ℕ} {n : ℕ} (l : Written own-bytes before n after) where
    own-length : length after ≡ length before
    own-length = written-length l own_room

    pub own-inside : n ≤ length after
    own-inside = omega (arith, l.count, own_room, own-length)

    pub word-places : PlacesAt copy at m results chains left (length (part n after))
    word-places = record {
      vocabulary = U;
      front = h.front;
      top = f;
      terms = ts;
      rest = h.rest;
      tables = h.tables;
      size = h.size;
      begins = h.begins;
      stands = stands_here;
      due = subst (λ m. Stands U (flags m) ts) (sym map_is) (closed-stands U h.tables.in_order f w.terms h.kind sorted);
      deep = omega (arith, h.deep, ap levels w.same, closed-levels w.terms);
      fits = omega (arith, room-both, part_room l own_room);
    }

    pub word-listed : {copied ys : List ℕ} {end n' : ℕ} → PlacesListed word-places copied (part n after) ys end n' →
        TermListed h copied before (back n after ys) end (n + n')
    unfolding word-places
    word-listed {copied} {ys} {end} {n'} p = record {
      passed =
          omega (arith, p.passed, ap (λ t. length (encode_at U t)) w.same, ap length (closed-bytes U w.terms));
      restored = p.restored;
      written = subst (λ bytes. Written bytes before (n + n') (back n after ys)) (sym all-bytes) (written-more l own_room p.written);
    }
