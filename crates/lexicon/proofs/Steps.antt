-- Steps: what the code does with a token is a step of LexiconReading.
--
--   word-fails, word_stored      a token that is no new word, and one that is
--   place-fails, place_stored    a token that is no place, and one that is
--   kind-step                    the name of a kind
--   Unstored p                   the stages in which a token is not stored
--   unstored                     those that are none of the three others
--   mark-step                    a token that is not stored
--   in_stage, any-names          a promise for a stage that is known, and for other names of kinds
--
use mathlib.Core.Path.{◌≡◌, refl, sym, ap, ap₂, subst, ◌∙◌}
use mathlib.Core.Logic.{inl, inr}
use mathlib.Core.Bool.{Bool, true, false, cond}
use mathlib.Core.List.{List, [], ◌∷◌, map}
use Prim.Native.Nat.{ℕ, zero, suc, ◌+◌, ◌<◌, ◌≤◌, ◌-◌}
use native.Mathlib.Numerals.{add-one}
use native.Mathlib.Omega.{arith}
use denote.Enum.Declared.{tag_of}
use types.Run.{OneOf, miss}
use lib.ListN.{length, set, take}
use lib.Seq.{take-take}
use Rattle.wire.specs.Vocabulary.{most_words}
use Rattle.texts.specs.Lexemes.{Token, token_at}
use Rattle.texts.specs.Names.{same, kind_word, mark, opening, closing, comma, bar, equals, index_in}
use Rattle.texts.specs.Lexicon.{most_places}
use Rattle.texts.specs.LexiconReading as reading
use Rattle.texts.specs.LexiconReading.{Declaring, WordRow, Phase, on, fails, go_to, step_kind, step_word, step_place, step_on, grown, kind_name_why, word_name_why, place_why, places_last}
use Rattle.texts.specs.Tabled.{names_in}
use Rattle.std.specs.Prelude.{Option, Some, None}
use Rattle.faults.specs.declared.Reason.{Reason}
use Rattle.faults.specs.declared.Reason.TheVariants.{KindDue, PlaceEnd}
use Rattle.faults.specs.Reasons.{number_of, reason_of}
use Rattle.faults.proofs.Numbers.{number-some}
use Rattle.lexicon.specs.declared.Stage.{Stage}
use Rattle.lexicon.specs.declared.Stage.TheVariants.{AtStart, AtKind, BehindKind, AtWord, BehindWord, AtPlace, BehindPlace, BehindPlaces}
use Rattle.lexicon.specs.declared.Turn.{Turn}
use Rattle.lexicon.specs.declared.Turn.TheVariants.{To, Ends, Wrong}
use Rattle.lexicon.specs.declared.Stepped.{Stepped}
use Rattle.lexicon.specs.declared.Stepped.TheVariants.{On, Fails}
use Rattle.lexicon.specs.Rows.{rows_in, last_in, count_last, begun, placed, Tables}
use Rattle.lexicon.specs.Stages.{declaring, turn_of, on_turn, word_turn, stepped_of, stepped_kind, stepping, StepKeeps, KindPromise, StepPromise, WordPromise, PlacePromise}
use Rattle.lexicon.specs.contracts.Stage.{the_type}
use Rattle.lexicon.proofs.Whys.{names-length, name-sound, place-sound}
use Rattle.lexicon.proofs.Names.{names_suc}
use Rattle.lexicon.proofs.Rows.{rows-front, rows_of, begun_row, begun-front, placed_row, placed-front, count-places, tables-begun, tables-placed}

-- By their numbers, as the code tells them.
abbrev pub Unstored : Stage → Type 0
Unstored p = OneOf (0 ∷ 2 ∷ 4 ∷ 6 ∷ 7 ∷ []) (tag_of the_type p)

pub unstored : (p : Stage) → (p ≡ AtKind → ⊥) → (p ≡ AtWord → ⊥) → (p ≡ AtPlace → ⊥) → Unstored p
unstored AtStart k w l = inl refl
unstored AtKind k w l = absurd (k refl)
unstored BehindKind k w l = inr (inl refl)
unstored AtWord k w l = absurd (w refl)
unstored BehindWord k w l = inr (inr (inl refl))
unstored AtPlace k w l = absurd (l refl)
unstored BehindPlace k w l = inr (inr (inr (inl refl)))
unstored BehindPlaces k w l = inr (inr (inr (inr refl)))

on_same : (p : Phase) (c : ℕ) {K K' : List Token} {d d' l l' : List WordRow} → K ≡ K' → d ≡ d' → l ≡ l' →
    on (record { phase = p; kinds = c; names = K; done = d; last = l }) ≡ on (record { phase = p; kinds = c; names = K'; done = d'; last = l' })
on_same p c {K} {K'} {d} {d'} {l} {l'} e f g =
    ap (λ x. on (record { phase = p; kinds = c; names = x; done = d; last = l })) e
    ∙ ap₂ (λ x y. on (record { phase = p; kinds = c; names = K'; done = x; last = y })) f g

names-front : (b : List ℕ) (c : ℕ) (q : List ℕ) → names_in b (take c q) ≡ take c (names_in b q)
names-front b zero q = refl
names-front b (suc c) [] = refl
names-front b (suc c) (i ∷ q) = ap (λ l. token_at b i ∷ l) (names-front b c q)

module _ (b : List ℕ) (c s : ℕ) {n : ℕ} {words records : List ℕ} (t : Tables n words records) where
  abbrev u : Token
  u = token_at b s

  abbrev names : List Token
  names = names_in b (take n words)

  pub word-fails : {why : Reason} → number_of why ≡ word_name_why names u → WordPromise b c n s words records words records (Fails why)
  word-fails {why} known = record {
    same = go (number_of why) (number-some why) ∙ ap (step_word (declaring b AtWord c n words records) u) known;
    keeps = tt;
  }
    where
      go : (w : ℕ) → 0 < w → fails w ≡ step_word (declaring b AtWord c n words records) u w
      go zero some = absurd (omega arith)
      go (suc w) some = refl

  module _ (known : 0 ≡ word_name_why names u) where
    pub word_room : n < most_words
    word_room =
        omega (arith, name-sound 5 6 7 most_words names u (sym known), names-length b words n (omega (arith, t.few, t.words_size)))

    pub word_stored : {kind : ℕ} → kind ≡ c - 1 → {words' records' : List ℕ} → words' ≡ set words n s → records' ≡ begun kind n records →
        WordPromise b c n s words records words' records' (On BehindWord c (n + 1))
    word_stored {kind} k {words'} {records'} e f =
        let inside = word_room in
        let size = t.words_size in
        let large = t.records_size in
        let x = declaring b AtWord c n words records in
        record {
          same =
              on_same reading.behind_word c
              (ap (λ w. names_in b (take (n + 1) w)) e ∙ names_suc b words n s (omega arith))
              (ap₂ rows_in (let i : n + 1 - 1 ≡ n = omega arith in i) f ∙ rows-front n records (begun kind n records) (begun-front kind n records (omega arith)) ∙ sym (rows_of n records))
              (ap₂ last_in (add-one n) f ∙ ap (λ r. r ∷ []) (begun_row kind n records (omega arith) ∙ ap (λ i. record { kind = i; places = [] }) k))
              ∙ ap (step_word x u) known;
          keeps = ap_tables (sym e) (sym f) (tables-begun t kind s inside);
        }
      where
        ap_tables : {m : ℕ} {w w' r r' : List ℕ} → w ≡ w' → r ≡ r' → Tables m w r → Tables m w' r'
        ap_tables {m} {w} {w'} {r} {r'} p q x = subst (λ y. Tables m w' y) q (subst (λ y. Tables m y r) p x)

  module _ (K : List Token) {m : ℕ} (count : m ≡ count_last n records) where
    abbrev state : Declaring
    state = declaring b AtPlace c n words records

    places : m ≡ places_last (last_in n records)
    places = count ∙ sym (count-places t)

    step-why : {why : ℕ} → why ≡ place_why K m u → (k : ℕ) → step_place state k why ≡ step_place state k (place_why K (places_last (last_in n records)) u)
    step-why known k = ap (step_place state k) (known ∙ ap (λ i. place_why K i u) places)

    pub place-fails : {why : Reason} → number_of why ≡ place_why K m u → PlacePromise b K c n s words records records (Fails why)
    place-fails {why} known = record { same = go (number_of why) (number-some why) ∙ step-why known (index_in u K); keeps = tt }
      where
        go : (w : ℕ) → 0 < w → fails w ≡ step_place state (index_in u K) w
        go zero some = absurd (omega arith)
        go (suc w) some = refl

    pub place-known : 0 ≡ place_why K m u → (index_in u K < length K) × (m < most_places)
    place-known known = place-sound K m u (sym known)

    pub place_stored : 0 ≡ place_why K m u → {kind : ℕ} → kind ≡ index_in u K → {records' : List ℕ} → records' ≡ placed kind m n records →
        PlacePromise b K c n s words records records' (On BehindPlace c n)
    place_stored known {kind} k {records'} e =
        let low = (place-known known).1 in
        record {
          same =
              on_same reading.behind_place c refl
              (ap (rows_in (n - 1)) e ∙ rows-kept n refl count)
              (ap (last_in n) e ∙ row_grown n refl count)
              ∙ ap (λ i. step_place state i 0) k
              ∙ step-why known (index_in u K);
          keeps = subst (λ r. Tables n words r) (sym e) (tables-placed t kind m low);
        }
      where
        rows-kept : (i : ℕ) → i ≡ n → m ≡ count_last i records → rows_in (i - 1) (placed kind m i records) ≡ rows_in (i - 1) records
        rows-kept zero h q = refl
        rows-kept (suc f) h q =
            let low = (place-known known).1 in
            let few = t.few in
            let large = t.records_size in
            ap (λ j. rows_in j (placed kind m (suc f) records)) (let g : suc f - 1 ≡ f = omega arith in g)
            ∙ rows-front f records (placed kind m (suc f) records) (placed-front kind m f records (sym q) low (omega arith))
            ∙ ap (λ j. rows_in j records) (let g : f ≡ suc f - 1 = omega arith in g)

        row_grown : (i : ℕ) → i ≡ n → m ≡ count_last i records → last_in i (placed kind m i records) ≡ map (grown kind) (last_in i records)
        row_grown zero h q = refl
        row_grown (suc f) h q =
            let low = (place-known known).1 in
            let few = t.few in
            let large = t.records_size in
            ap (λ r. r ∷ []) (placed_row kind m f records (sym q) low (omega arith))

  -- The kinds that have begun are the first ones of all.
  module _ (kinds : List ℕ) (k : ℕ) (begun : c ≤ k) where
    front-names : names_in b (take c kinds) ≡ take c (names_in b (take k kinds))
    front-names = ap (names_in b) (sym (take-take c k kinds begun)) ∙ names-front b c (take k kinds)

    pub kind-step : {r : Stepped} → KindPromise c n (kind_name_why (names_in b (take c kinds)) u) r →
        StepPromise b (names_in b (take k kinds)) AtKind c n s words records words records r
    kind-step {r} e = record {
      same =
          ap (stepping b words records) e.same
          ∙ says-kind e.reason
          ∙ ap (step_kind (declaring b AtKind c n words records)) (e.number ∙ ap (λ names. kind_name_why names u) front-names);
      keeps = subst (StepKeeps words records words records) (sym e.same) (kind-keeps e.reason);
    }
      where
        says-kind : (why : Option Reason) → stepping b words records (stepped_kind c n why) ≡ step_kind (declaring b AtKind c n words records) (reason_of why)
        says-kind None = ap (λ i. on (record { phase = reading.behind_kind; kinds = i; names = names; done = rows_in (n - 1) records; last = last_in n records })) (add-one c)
        says-kind (Some why) = go (number_of why) (number-some why)
          where
            go : (w : ℕ) → 0 < w → fails w ≡ step_kind (declaring b AtKind c n words records) w
            go zero some = absurd (omega arith)
            go (suc w) some = refl

        kind-keeps : (why : Option Reason) → StepKeeps words records words records (stepped_kind c n why)
        kind-keeps None = t
        kind-keeps (Some why) = tt

  -- ---- tokens that are not stored

  abbrev says : Turn → reading.Stepped
  says r = stepping b words records (stepped_of c n r)

  both : (t : Bool) (x y : Turn) {x' y' : reading.Stepped} → says x ≡ x' → says y ≡ y' → says (cond t x y) ≡ cond t x' y'
  both true x y e f = e
  both false x y e f = f

  module _ (p : Stage) where
    abbrev x : Declaring
    x = declaring b p c n words records

    goes_on_lem : says (on_turn u) ≡ step_on x u
    goes_on_lem = both (same u kind_word) (To AtKind) Ends refl refl

    word_or_on : (c : ℕ) → says (word_turn c u) ≡ cond (same u (mark c)) (go_to reading.at_word x) (step_on x u)
    word_or_on c = both (same u (mark c)) (To AtWord) (on_turn u) refl goes_on_lem

  turn_keeps : (r : Turn) → StepKeeps words records words records (stepped_of c n r)
  turn_keeps (To p) = t
  turn_keeps Ends = (refl, refl)
  turn_keeps (Wrong why) = tt

  module _ (K : List Token) where
    abbrev Turns : Stage → Type 0
    Turns p = says (turn_of u p) ≡ reading.step K (declaring b p c n words records) u

    starts : Turns AtStart
    starts = both (same u kind_word) (To AtKind) (Wrong KindDue) refl refl

    behind-word : Turns BehindWord
    behind-word = both (same u (mark opening)) (To AtPlace) (word_turn bar u) refl (word_or_on BehindWord bar)

    behind-place : Turns BehindPlace
    behind-place =
        both (same u (mark comma)) (To AtPlace) (cond (same u (mark closing)) (To BehindPlaces) (Wrong PlaceEnd)) refl (both (same u (mark closing)) (To BehindPlaces) (Wrong PlaceEnd) refl refl)

    turns : (p : Stage) → Unstored p → Turns p
    turns AtStart h = starts
    turns AtKind h = absurd (miss (0 ∷ 2 ∷ 4 ∷ 6 ∷ 7 ∷ []) 1 tt h)
    turns BehindKind h = word_or_on BehindKind equals
    turns AtWord h = absurd (miss (0 ∷ 2 ∷ 4 ∷ 6 ∷ 7 ∷ []) 3 tt h)
    turns BehindWord h = behind-word
    turns AtPlace h = absurd (miss (0 ∷ 2 ∷ 4 ∷ 6 ∷ 7 ∷ []) 5 tt h)
    turns BehindPlace h = behind-place
    turns BehindPlaces h = word_or_on BehindPlaces bar

    pub mark-step : (p : Stage) → Unstored p → {r : Stepped} → r ≡ stepped_of c n (turn_of u p) →
        StepPromise b K p c n s words records words records r
    mark-step p h {r} e = record {
      same = ap (stepping b words records) e ∙ turns p h;
      keeps = subst (StepKeeps words records words records) (sym e) (turn_keeps (turn_of u p));
    }

pub in_stage : {b : List ℕ} {K : List Token} {p q : Stage} {c n s : ℕ} {words records words' records' : List ℕ} {r : Stepped} → p ≡ q →
    StepPromise b K q c n s words records words' records' r → StepPromise b K p c n s words records words' records' r
in_stage {b} {K} {p} {q} {c} {n} {s} {words} {records} {words'} {records'} {r} e h =
    subst (λ i. StepPromise b K i c n s words records words' records' r) (sym e) h

-- The names of the kinds do not count where a word is due.
pub any-names : {b : List ℕ} {K : List Token} {c n s : ℕ} {words records words' records' : List ℕ} {r : Stepped} →
    WordPromise b c n s words records words' records' r → StepPromise b K AtWord c n s words records words' records' r
any-names h = record { same = h.same; keeps = h.keeps }
