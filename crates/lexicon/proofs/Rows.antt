-- Rows: what the stores into a table of records do to the rows.
--
--   rows-front                 the first rows depend only on the front of the table
--   rows_of                    all rows are those before the last, and the last
--   begun_row, placed_row      the row of a new word; the row with a place more
--   row_places                 the count of a record is the number of its row's places
--   count-places               the count of the last row is the number of its places
--   count-last, placed-last    the last row's count, and a place more in it, as the code writes their offsets
--   words-rows                 the words of a table are those of its rows
--   tables-begun, tables-placed    the tables stay in order
--
use mathlib.Core.Path.{◌≡◌, refl, sym, ap, ap₂, ◌∙◌}
use mathlib.Core.List.{List, [], ◌∷◌, ◌++◌, map, map-append}
use Prim.Native.Nat.{ℕ, zero, suc, ◌+◌, ◌*◌, ◌<◌, ◌≤◌, min, ◌-◌}
use native.Mathlib.Decide.{ℕ_discrete}
use native.Mathlib.Numerals.{add-one}
use native.Mathlib.Omega.{arith}
use lib.ListN.{length, get_or, set, take, drop, length-set, length-drop}
use lib.Seq.{take-take, take-nil, get_or-take, get_or-set_same, get_or-set_other, take-set-le, drop-set-lt, drop-set-add, take-suc-set, length-take-le}
use Rattle.terms.specs.Lists.{range}
use Rattle.terms.proofs.All.{all_implies, all-range, map_agree}
use Rattle.terms.proofs.Keep.{range-append}
use Rattle.wire.specs.Vocabulary.{most_words}
use Rattle.texts.specs.Lexicon.{gapless_map, most_places}
use Rattle.texts.specs.LexiconReading.{WordRow, row_word, places_last, grown}
use Rattle.texts.specs.Tabled.{record_size, tabled_places, word_in, words_in}
use Rattle.lexicon.specs.Rows.{row_in, rows_in, last_in, count_last, begun, placed, Tables}

-- ---- ranges

map_range : {A : Type 0} (f g : ℕ → A) (n : ℕ) → ((i : ℕ) → i < n → f i ≡ g i) → map f (range 0 n) ≡ map g (range 0 n)
map_range f g n h = map_agree f g (range 0 n) (all_implies _ _ (λ i k. h i (omega arith)) (range 0 n) (all-range 0 n))

pub map_last : {A : Type 0} (f : ℕ → A) (n : ℕ) → map f (range 0 (suc n)) ≡ map f (range 0 n) ++ (f n ∷ [])
map_last f n =
    ap (λ i. map f (range 0 i)) (sym (add-one n))
    ∙ ap (map f) (range-append 0 n 1 ∙ ap (λ i. range 0 n ++ (i ∷ [])) (let e : 0 + n ≡ n = omega arith in e))
    ∙ map-append f (range 0 n) (n ∷ [])

-- ---- rows

window : (p a z : ℕ) (r : List ℕ) → a + p ≤ z → take p (drop a (take z r)) ≡ take p (drop a r)
window p zero z r h = take-take p z r (omega arith)
window p (suc a) z [] h = ap (λ l. take p (drop (suc a) l)) (take-nil z)
window p (suc a) zero (x ∷ r) h = absurd (omega arith)
window p (suc a) (suc z) (x ∷ r) h = window p a z r (omega arith)

row_front : (n f : ℕ) (r : List ℕ) → f < n → row_in (take (record_size * n) r) f ≡ row_in r f
row_front n f r h =
    let kind = get_or-take (record_size * n) r (record_size * f) 0 (omega arith) in
    let count = get_or-take (record_size * n) r (record_size * f + 1) 0 (omega arith) in
    let places = window (tabled_places r f) (record_size * f + 2) (record_size * n) r (omega arith) in
    ap₂ (λ k (ps : List ℕ). record { kind = k; places = ps }) kind
    (ap (λ c. take (min c most_places) (drop (record_size * f + 2) (take (record_size * n) r))) count ∙ places)

pub rows-front : (n : ℕ) (r r' : List ℕ) → take (record_size * n) r' ≡ take (record_size * n) r → rows_in n r' ≡ rows_in n r
rows-front n r r' e =
    map_range (row_in r') (row_in r) n (λ f h. sym (row_front n f r' (omega arith)) ∙ ap (λ l. row_in l f) e ∙ row_front n f r (omega arith))

pub rows_of : (n : ℕ) (r : List ℕ) → rows_in (n - 1) r ++ last_in n r ≡ rows_in n r
rows_of zero r = refl
rows_of (suc f) r =
    ap (λ n. rows_in n r ++ (row_in r f ∷ [])) (let e : suc f - 1 ≡ f = omega arith in e) ∙ sym (map_last (row_in r) f)

-- ---- stores

module _ (kind n : ℕ) (r : List ℕ) (room : record_size * n + 2 ≤ length r) where
  pub begun_row : row_in (begun kind n r) n ≡ record { kind = kind; places = [] }
  begun_row =
      let half = set r (record_size * n) kind in
      let size = length-set r (record_size * n) kind in
      ap₂ (λ k c. record { kind = k; places = take (min c most_places) (drop (record_size * n + 2) (begun kind n r)) })
      (get_or-set_other half (record_size * n + 1) (record_size * n) 0 0 (λ e. omega arith) ∙ get_or-set_same r (record_size * n) kind 0 (omega arith))
      (get_or-set_same half (record_size * n + 1) 0 0 (omega arith))

  pub begun-front : take (record_size * n) (begun kind n r) ≡ take (record_size * n) r
  begun-front =
      take-set-le (record_size * n) (set r (record_size * n) kind) (record_size * n + 1) 0 (omega arith)
      ∙ take-set-le (record_size * n) r (record_size * n) kind (omega arith)

module _ (kind m f : ℕ) (r : List ℕ) (count : get_or r (record_size * f + 1) 0 ≡ m) (low : m < most_places) (room : record_size * f + record_size ≤ length r) where
  abbrev half : List ℕ
  half = set r (record_size * f + 2 + m) kind

  half_size : length half ≡ length r
  half_size = length-set r (record_size * f + 2 + m) kind

  pub placed_row : row_in (placed kind m (suc f) r) f ≡ grown kind (row_in r f)
  placed_row =
      let size = half_size in
      let left = length-drop (record_size * f + 2) r in
      let many : min (m + 1) most_places ≡ suc m = omega arith in
      let few : m ≡ tabled_places r f = omega arith in
      ap₂ (λ k (ps : List ℕ). record { kind = k; places = ps })
      (get_or-set_other half (record_size * f + 1) (record_size * f) (m + 1) 0 (λ e. omega arith) ∙ get_or-set_other r (record_size * f + 2 + m) (record_size * f) kind 0 (λ e. omega arith))
      (ap₂ (λ c l. take (min c most_places) l) (get_or-set_same half (record_size * f + 1) (m + 1) 0 (omega arith))
      (drop-set-lt (record_size * f + 2) half (record_size * f + 1) (m + 1) (omega arith) ∙ drop-set-add (record_size * f + 2) r m kind)
      ∙ ap (λ c. take c (set (drop (record_size * f + 2) r) m kind)) many
      ∙ take-suc-set (drop (record_size * f + 2) r) m kind (omega arith)
      ∙ ap (λ c. take c (drop (record_size * f + 2) r) ++ (kind ∷ [])) few)

  pub placed-front : take (record_size * f) (placed kind m (suc f) r) ≡ take (record_size * f) r
  placed-front =
      take-set-le (record_size * f) half (record_size * f + 1) (m + 1) (omega arith)
      ∙ take-set-le (record_size * f) r (record_size * f + 2 + m) kind (omega arith)

-- The last of n words has the number n - 1.
pub count-last : (n : ℕ) (r : List ℕ) → (n ≡ 0 → ⊥) → get_or r (record_size * (n - 1) + 1) 0 ≡ count_last n r
count-last zero r some = absurd (some refl)
count-last (suc f) r some = ap (λ i. get_or r (record_size * i + 1) 0) (let e : suc f - 1 ≡ f = omega arith in e)

pub placed-last : (kind m n : ℕ) (r : List ℕ) → (n ≡ 0 → ⊥) →
    set (set r (record_size * (n - 1) + 2 + m) kind) (record_size * (n - 1) + 1) (m + 1) ≡ placed kind m n r
placed-last kind m zero r some = absurd (some refl)
placed-last kind m (suc f) r some =
    ap (λ i. set (set r (record_size * i + 2 + m) kind) (record_size * i + 1) (m + 1)) (let e : suc f - 1 ≡ f = omega arith in e)

-- ---- tables in order

module _ {n : ℕ} {words records : List ℕ} (t : Tables n words records) where
  room : (f : ℕ) → f < n → record_size * f + record_size ≤ length records
  room f h = let few = t.few in let size = t.records_size in omega arith

  places-length : (f : ℕ) → f < n → length (row_in records f).places ≡ tabled_places records f
  places-length f h =
      let r = room f h in
      let left = length-drop (record_size * f + 2) records in
      length-take-le (tabled_places records f) (drop (record_size * f + 2) records) (omega arith)

  -- The count of a record is the number of its row's places.
  pub row_places : (f : ℕ) → f < n → length (row_in records f).places ≡ get_or records (record_size * f + 1) 0
  row_places f h =
      let c = t.counts f h in
      places-length f h ∙ (let z : tabled_places records f ≡ get_or records (record_size * f + 1) 0 = omega arith in z)

  pub words-rows : words_in n records ≡ map row_word (rows_in n records)
  words-rows =
      map_range (word_in records) (λ f. row_word (row_in records f)) n
      (λ f h. ap (λ c. record { result = get_or records (record_size * f) 0; place_map = gapless_map c; kinds = take (tabled_places records f) (drop (record_size * f + 2) records) }) (sym (places-length f (omega arith))))
      ∙ map-map (row_in records) (range 0 n)
    where
      map-map : (g : ℕ → WordRow) (l : List ℕ) → map (λ f. row_word (g f)) l ≡ map row_word (map g l)
      map-map g [] = refl
      map-map g (f ∷ l) = ap (λ k. row_word (g f) ∷ k) (map-map g l)

  pub count-places : places_last (last_in n records) ≡ count_last n records
  count-places = go n refl
    where
      go : (i : ℕ) → i ≡ n → places_last (last_in i records) ≡ count_last i records
      go zero e = refl
      go (suc f) e = row_places f (omega arith)

  -- A count of a row that is not stored to.
  other-count : (f i j v w : ℕ) → f < n → (record_size * f + 1 ≡ i → ⊥) → (record_size * f + 1 ≡ j → ⊥) →
      get_or (set (set records i v) j w) (record_size * f + 1) 0 ≤ most_places
  other-count f i j v w h p q =
      let a = get_or-set_other (set records i v) j (record_size * f + 1) w 0 q in
      let b = get_or-set_other records i (record_size * f + 1) v 0 p in
      let c = t.counts f h in
      omega arith

  pub tables-begun : (kind s : ℕ) → n < most_words → Tables (n + 1) (set words n s) (begun kind n records)
  tables-begun kind s h = record {
    few = omega arith;
    words_size = length-set words n s ∙ t.words_size;
    records_size = length-set (set records (record_size * n) kind) (record_size * n + 1) 0 ∙ length-set records (record_size * n) kind ∙ t.records_size;
    counts = λ f k. elim (ℕ_discrete f n) [ yes e ↦ here f e | no e ↦ other-count f (record_size * n) (record_size * n + 1) kind 0 (omega arith) (λ z. omega arith) (λ z. omega arith) ];
  }
    where
      here : (f : ℕ) → f ≡ n → get_or (begun kind n records) (record_size * f + 1) 0 ≤ most_places
      here f e =
          let size = t.records_size in
          let half = length-set records (record_size * n) kind in
          let g = ap (λ i. get_or (begun kind n records) (record_size * i + 1) 0) e in
          let z = get_or-set_same (set records (record_size * n) kind) (record_size * n + 1) 0 0 (omega arith) in
          omega arith

  pub tables-placed : (kind m : ℕ) → m < most_places → Tables n words (placed kind m n records)
  tables-placed kind m low = go n refl
    where
      go : (i : ℕ) → i ≡ n → Tables n words (placed kind m i records)
      go zero e = t
      go (suc j) e = record {
        few = t.few;
        words_size = t.words_size;
        records_size = length-set (set records (record_size * j + 2 + m) kind) (record_size * j + 1) (m + 1) ∙ length-set records (record_size * j + 2 + m) kind ∙ t.records_size;
        counts = λ f k. elim (ℕ_discrete f j) [ yes g ↦ here f g | no g ↦ other-count f (record_size * j + 2 + m) (record_size * j + 1) kind (m + 1) k (λ z. omega arith) (λ z. omega arith) ];
      }
        where
          here : (f : ℕ) → f ≡ j → get_or (placed kind m (suc j) records) (record_size * f + 1) 0 ≤ most_places
          here f g =
              let size = t.records_size in
              let few = t.few in
              let half = length-set records (record_size * j + 2 + m) kind in
              let same = ap (λ i. get_or (placed kind m (suc j) records) (record_size * i + 1) 0) g in
              let z = get_or-set_same (set records (record_size * j + 2 + m) kind) (record_size * j + 1) (m + 1) 0 (omega arith) in
              omega arith
