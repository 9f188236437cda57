-- Tables: the laws of the tables of an accepted vocabulary, of its bytes, and of the frames of its words.
--
--   tables-of                 the same tables, named otherwise
--   in_order, few_words, kind-count, some_bytes    of the vocabulary and its bytes
--   WordFramed, word_framed   the frame of a word at a written map
--   full-slots                a word whose written map is its place map has every place written
--
use mathlib.Core.Path.{◌≡◌, refl, sym, ap, ap₂, ◌∙◌}
use mathlib.Core.Bool.{Bool, true, false}
use mathlib.Core.List.{List, [], ◌∷◌, ◌++◌, append-nil}
use Prim.Native.Nat.{ℕ, suc, ◌+◌, ◌<◌, ◌≤◌}
use native.Mathlib.Decide.{ℕ_discrete}
use native.Mathlib.Numerals.{add-one}
use native.Mathlib.Omega.{arith}
use lib.Bits.{bit_and}
use lib.Count
use lib.ListN.{length, get_or, take, drop, take-append-drop}
use lib.Seq.{drop-cons}
use Rattle.wire.specs.Map.{map_bytes, flags, ones, first_flag, rest_flags, Slot, slots}
use Rattle.wire.specs.Vocabulary.{Vocabulary, word, map_of, InOrder, HoldsVocabulary}
use Rattle.wire.specs.TermLines.{Due, due_at}
use Rattle.wire.specs.Scan.{every_written}
use Rattle.wire.proofs.Bytes.{bytes_of}
use Rattle.wire.proofs.Map.{ones-count}
use Rattle.wire.proofs.Words.{word-in_order}
use Rattle.wire.proofs.Theorems.{vocabularies_inverse}
use Rattle.signature.specs.Tables.{Tables, vocabulary_in}
use Rattle.frames.specs.Frames.{run_in, written_in, places_in, WordFrame, FrameIn, places_due, frame_due}
use Rattle.reader.specs.Nodes.{TablesOf}
use Rattle.wire.proofs.Ones.{no_ones, some_ones}
use Rattle.frames.proofs.Frames.{due-parts, due-bare}

-- ---- kinds that stand in a vocabulary

-- Where each place is written, each is due: as many kinds as places stand in v from the offset k on.
full-due : (v : List ℕ) (level : ℕ) (ps : List Bool) (ks : List ℕ) (k : ℕ) → length ks ≡ ones ps → k + length ks ≤ length v →
    take (length ks) (drop k v) ≡ ks → due_at level (slots ps ps ks) ≡ places_due v level (length ks) k
full-due v level [] [] k e h t = refl
full-due v level [] (s ∷ ks) k e h t = absurd (omega arith)
full-due v level (false ∷ ps) ks k e h t = full-due v level ps ks k (omega arith) h t
full-due v level (true ∷ ps) [] k e h t = absurd (omega arith)
full-due v level (true ∷ ps) (s ∷ ks) k e h t =
    let stand : get_or v k 0 ∷ take (length ks) (drop (suc k) v) ≡ s ∷ ks = sym (ap (take (suc (length ks))) (drop-cons v k 0 (omega arith))) ∙ t in
    let rest : take (length ks) (drop (k + 1) v) ≡ ks = ap (λ n. take (length ks) (drop n v)) (add-one k) ∙ ap (drop 1) stand in
    ap₂ {C = List Due} (λ s l. record { sort = s; level = level; root = false } ∷ l) (sym (ap (λ l. get_or l 0 0) stand))
    (full-due v level ps ks (k + 1) (omega arith) (omega arith) rest)

pub full-slots : (ps : List Bool) (ks : List ℕ) → every_written (slots ps ps ks) ≡ true
full-slots [] ks = refl
full-slots (false ∷ ps) ks = full-slots ps ks
full-slots (true ∷ ps) [] = refl
full-slots (true ∷ ps) (k ∷ ks) = full-slots ps ks

-- Kinds behind those of the places do not matter.
slots-front : (ps ws : List Bool) (ks r : List ℕ) → ones ps ≤ length ks → slots ps ws (ks ++ r) ≡ slots ps ws ks
slots-front [] ws ks r h = refl
slots-front (false ∷ ps) ws ks r h = slots-front ps (rest_flags ws) ks r (omega arith)
slots-front (true ∷ ps) ws [] r h = absurd (omega arith)
slots-front (true ∷ ps) ws (k ∷ ks) r h =
    ap {B = List Slot} (λ z. record { sort = k; written = first_flag ws } ∷ z) (slots-front ps (rest_flags ws) ks r (omega arith))

-- ---- the tables

-- z is the frame of the word f of W at the written map m.
pub record WordFramed (v : List ℕ) (W : Vocabulary) (f m z : ℕ) : Type 0 where
  pub fits : FrameIn v z
  pub some : (m ≡ 0 → ⊥) → 0 < run_in z + written_in z
  pub dues : (level : ℕ) → frame_due v level z ≡ due_at level (slots (flags (map_of W f)) (flags m) (word W f).kinds)

module _ {v : List ℕ} {n : ℕ} {offsets results maps : List ℕ} (t : Tables v n offsets results maps) where
  abbrev W : Vocabulary
  W = vocabulary_in v

  pub tables-of : TablesOf W n results maps
  tables-of = record { tabled = t.tabled; place_map = t.place_map }

  pub known-word : {f : ℕ} → f < n → f < length W.words
  known-word h = omega (arith, t.tabled.words)

  module _ (bytes : (i : ℕ) → get_or v i 0 < 256) where
    held : HoldsVocabulary v W
    held = (vocabularies_inverse v W (bytes_of v bytes)).0 t.accepted

    pub in_order : InOrder W
    in_order = held.in_order

    pub few_words : n ≤ 96
    few_words = omega (arith, t.tabled.words, in_order.few_words)

    pub kind-count : get_or v 0 0 ≡ W.kinds
    kind-count = ap (λ l. get_or l 0 0) held.written

    pub some_bytes : 2 ≤ length v
    some_bytes = let e = ap length held.written in omega arith

    module _ {f : ℕ} (known : f < n) where
      -- A word has as many kinds as its map has places.
      pub kinds-counted : length (word W f).kinds ≡ ones (flags (map_of W f))
      kinds-counted = (word-in_order W f in_order (known-word known)).count

      pub map-byte : map_of W f < 256
      map-byte = (word-in_order W f in_order (known-word known)).place_map

      places-counted : length (word W f).kinds ≡ Count.ones (map_of W f)
      places-counted = kinds-counted ∙ sym (ones-count (map_of W f) map-byte)

      module _ {m z : ℕ} (made : WordFrame z m (map_of W f) (get_or offsets f 0)) where
        abbrev from : ℕ
        from = get_or offsets f 0 + (1 + map_bytes)

        full_framed : m ≡ map_of W f → WordFramed v W f m z
        full_framed e =
            let p : ℕ = map_of W f in
            let f4 = made.full e in
            let run = f4.run in
            let kinds = f4.kinds in
            let places = f4.places in
            let none = no_ones (places_in z) f4.places in
            let few = Count.ones-le 8 p map-byte in
            let near = made.near in
            let inside = t.inside f known in
            record {
              fits = record {
                few = omega arith;
                map = omega arith;
                within = ap₂ bit_and f4.written f4.places ∙ refl ∙ sym f4.written;
                inside = omega (arith, places-counted);
                near = omega (arith, places-counted);
              };
              some = λ other. omega (arith, some_ones p (λ none. other (e ∙ none)));
              dues = λ level.
                  due-parts v level z (Count.ones p) from 0 0 f4
                  ∙ ap (λ ds. places_due v level (Count.ones p) from ++ ds) (due-bare (flags 0) 0 level (drop (from + Count.ones p) v) refl)
                  ∙ append-nil (places_due v level (Count.ones p) from)
                  ∙ ap (λ k. places_due v level k from) (sym places-counted)
                  ∙ sym (full-due v level (flags p) (word W f).kinds from kinds-counted (t.inside f known) (t.kinds f known))
                  ∙ ap (λ m. due_at level (slots (flags p) (flags m) (word W f).kinds)) (sym e);
            }

        part_framed : (m ≡ map_of W f → ⊥) → bit_and m (map_of W f) ≡ m → WordFramed v W f m z
        part_framed d within =
            let p : ℕ = map_of W f in
            let ks : List ℕ = (word W f).kinds in
            let f4 = made.part d in
            let run = f4.run in
            let kinds = f4.kinds in
            let places = f4.places in
            let count : Count.ones (places_in z) ≡ Count.ones p = ap Count.ones f4.places in
            let few = Count.ones-le 8 p map-byte in
            let near = made.near in
            let inside = t.inside f known in
            let map = map-byte in
            let written = f4.written in
            let here : from + 0 ≡ from = omega arith in
            record {
              fits = record {
                few = omega arith;
                map = omega arith;
                within = ap₂ bit_and f4.written f4.places ∙ within ∙ sym f4.written;
                inside = omega (arith, places-counted, count);
                near = omega (arith, places-counted, count);
              };
              some = λ other. let some : 0 < m = omega (arith, other) in omega arith;
              dues = λ level.
                  due-parts v level z 0 from m p f4
                  ∙ ap (λ n. due_at level (slots (flags p) (flags m) (drop n v))) here
                  ∙ ap (λ l. due_at level (slots (flags p) (flags m) l))
                  (sym (take-append-drop (length ks) (drop from v)) ∙ ap (λ l. l ++ drop (length ks) (drop from v)) (t.kinds f known))
                  ∙ ap (due_at level) (slots-front (flags p) (flags m) ks (drop (length ks) (drop from v)) (omega (arith, kinds-counted)));
            }

        pub word_framed : bit_and m (map_of W f) ≡ m → WordFramed v W f m z
        word_framed within = go (ℕ_discrete m (map_of W f))
          where
            go : Dec (m ≡ map_of W f) → WordFramed v W f m z
            go (yes e) = full_framed e
            go (no d) = part_framed d within
