-- LexiconSoFar: what was read of a vocabulary without a fault is the beginning of one, with no more words and places than need be.
--
--   KindsLeft, WordsLeft, PlacesLeft, PlaceLeft     what some tokens stand for, by what may come next, behind the words N; Ks are the kinds
--   Outcome p Ks N us           one of these, by the phase
--   no_words_lem, no-places         nothing of a thing
--   one_place, one_word, one-kind      one thing more
--   LimitedWord most kinds w    a word with at most so many places
--   bare-left, new_word, enough     the kinds that are left without words, with a word more, and with one where there is none yet
--   new-kind                    a kind with such a word
--   Due, Fits                   what has to follow, and that there is room for it
--   complete                    what may follow at once, by the phase
--   Ready p L                   what is known of the word that was begun
--   follow, so_far_lem              what may follow tokens that were read
--
use mathlib.Core.Path.{◌≡◌, refl, sym, ◌∙◌, ap, subst}
use mathlib.Core.Bool.{Bool, true, false, cond}
use mathlib.Core.List.{List, [], ◌∷◌, ◌++◌, map, append-nil, append_assoc, map-append}
use Prim.Native.Nat.{ℕ, zero, suc, ◌+◌, ◌-◌, ◌<◌, ◌≤◌}
use native.Mathlib.Omega.{arith}
use lib.ListN.{length, take, drop, length-append, get_or-append}
use Rattle.terms.specs.Lists.{All}
use Rattle.terms.proofs.All.{all_append}
use Rattle.wire.specs.Vocabulary.{most_words}
use Rattle.texts.specs.Lexemes.{Token}
use Rattle.texts.specs.Names.{same, kind_word, mark, comma, bar, equals, opening, closing, IsIdentifier, index_in, name_at, Distinct}
use Rattle.texts.specs.Lexicon.{WordText, Lexicon, kind_names, all_words, word_names, place_kind_tokens, with_places, words_tokens, kinds_tokens, most_places}
use Rattle.texts.specs.Faults.{kind_due, place_end}
use Rattle.texts.specs.LexiconReading.{kind_name_why, word_name_why, place_why, names_from, WordRow, Phase, at_start, at_kind, behind_kind, at_word, behind_word, at_place, behind_place, behind_places, Declaring, beginning, Stepped, on, over, fails, go_to, step_kind, step_word, places_last, grown, step_place, step_on}
use Rattle.texts.specs.Laws.{bare_kinds}
use Rattle.texts.proofs.Lookups.{same-eq, identifier-no_kind, at-index, distinct_more}
use Rattle.texts.proofs.KindNames.{NameFits, name-fits, Tokened, identifier, mark-no_kind}
use Rattle.texts.proofs.Gathering.{Left, Naming, Coming, naming, left_skip, left-kind, left-named, named-drop}
use Rattle.texts.proofs.LexiconsRead.{state, name, and_on, walk}
use Rattle.texts.proofs.LexiconsExact.{PlaceFits, place-fits, Fine, bare-names, bare-words}
use Rattle.texts.proofs.FreshNames.{fresh}

-- A word with at most so many places.
pub record LimitedWord (most kinds : ℕ) (w : WordText) : Type 0 where
  pub name : IsIdentifier w.name
  pub places : All (λ k. k < kinds) w.places
  pub few : length w.places ≤ most

-- W words and P places in each are the most, and K are the kinds.
module _ (W P : ℕ) (K : List Token) where
  pub record KindsLeft (Ks N us : List Token) : Type 0 where
    pub kinds : Lexicon
    pub tokens : us ≡ kinds_tokens K kinds
    pub names : kind_names kinds ≡ Ks
    pub words : All (LimitedWord P (length K)) (all_words kinds)
    pub different : Distinct (N ++ word_names kinds)
    pub some : 1 ≤ length (N ++ word_names kinds)
    pub few : length (N ++ word_names kinds) ≤ W

  record WordsLeft (c : ℕ) (Ks N us : List Token) : Type 0 where
    words : List WordText
    behind : List Token
    tokens : us ≡ words_tokens K c words ++ behind
    sound : All (LimitedWord P (length K)) words
    left : KindsLeft Ks (N ++ map name words) behind

  -- m places stand before these.
  record PlacesLeft (spell : List ℕ → List Token) (m : ℕ) (Ks N us : List Token) : Type 0 where
    places : List ℕ
    behind : List Token
    tokens : us ≡ spell places ++ behind
    sound : All (λ k. k < length K) places
    few : m + length places ≤ P
    left : WordsLeft bar Ks N behind

  record PlaceLeft (m : ℕ) (Ks N us : List Token) : Type 0 where
    place : ℕ
    behind : List Token
    tokens : us ≡ name_at K place ∷ behind
    below : place < length K
    left : PlacesLeft (place_kind_tokens K comma) (suc m) Ks N behind

  abbrev spelt : List ℕ → List Token
  spelt ps = with_places ps (place_kind_tokens K opening ps)

  abbrev Outcome : Phase → ℕ → List Token → List Token → List Token → Type 0
  Outcome at_start m Ks N us = KindsLeft Ks N us
  Outcome at_kind m Ks N us = KindsLeft Ks N (kind_word ∷ us)
  Outcome behind_kind m Ks N us = WordsLeft equals Ks N us
  Outcome at_word m Ks N us = (c : ℕ) → WordsLeft c Ks N (mark c ∷ us)
  Outcome behind_word m Ks N us = PlacesLeft spelt 0 Ks N us
  Outcome at_place m Ks N us = PlaceLeft m Ks N us
  Outcome behind_place m Ks N us = PlacesLeft (place_kind_tokens K comma) m Ks N us
  Outcome behind_places m Ks N us = WordsLeft bar Ks N us

  no_words_lem : (c : ℕ) (Ks N us : List Token) → KindsLeft Ks N us → WordsLeft c Ks N us
  no_words_lem c Ks N us k = record {
    words = [];
    behind = us;
    tokens = refl;
    sound = tt;
    left = subst (λ (M : List Token). KindsLeft Ks M us) (sym (append-nil N)) k;
  }

  no-places : (spell : List ℕ → List Token) (m : ℕ) (Ks N us vs : List Token) → m ≤ P → us ≡ spell [] ++ vs → WordsLeft bar Ks N vs →
      PlacesLeft spell m Ks N us
  no-places spell m Ks N us vs f e w = record { places = []; behind = vs; tokens = e; sound = tt; few = omega arith; left = w }

  one_place : (spell : List ℕ → List Token) (c m : ℕ) (Ks N us : List Token) →
      ((p : ℕ) (ps : List ℕ) → spell (p ∷ ps) ≡ place_kind_tokens K c (p ∷ ps)) → PlaceLeft m Ks N us → PlacesLeft spell m Ks N (mark c ∷ us)
  one_place spell c m Ks N us h p =
      let q = p.left in
      record {
        places = p.place ∷ q.places;
        behind = q.behind;
        tokens =
            ap (λ (t : List Token). mark c ∷ t) (p.tokens ∙ ap (λ (t : List Token). name_at K p.place ∷ t) q.tokens) ∙
            ap (λ (t : List Token). t ++ q.behind) (sym (h p.place q.places));
        sound = (p.below, q.sound);
        few = omega (arith, q.few);
        left = q.left;
      }

  one_word : (c : ℕ) (Ks N : List Token) (u : Token) (us : List Token) → IsIdentifier u → PlacesLeft spelt 0 Ks (N ++ (u ∷ [])) us →
      WordsLeft c Ks N (mark c ∷ u ∷ us)
  one_word c Ks N u us i q =
      let m = q.left in
      let own : List Token = spelt q.places in
      record {
        words = record { name = u; places = q.places } ∷ m.words;
        behind = m.behind;
        tokens =
            ap (λ (t : List Token). mark c ∷ u ∷ t)
            (q.tokens ∙ ap (λ (t : List Token). own ++ t) m.tokens ∙ sym (append_assoc own (words_tokens K bar m.words) m.behind));
        sound = (record { name = i; places = q.sound; few = omega (arith, q.few) }, m.sound);
        left = subst (λ (M : List Token). KindsLeft Ks M m.behind) (append_assoc N (u ∷ []) (map name m.words)) m.left;
      }

  one-kind : (Ks N : List Token) (u : Token) (us : List Token) → WordsLeft equals Ks N us → KindsLeft (u ∷ Ks) N (kind_word ∷ u ∷ us)
  one-kind Ks N u us w =
      let k = w.left in
      let own : List Token = words_tokens K equals w.words in
      let names : (N ++ map name w.words) ++ word_names k.kinds ≡ N ++ map name (w.words ++ all_words k.kinds) =
      append_assoc N (map name w.words) (word_names k.kinds) ∙
      ap (λ (t : List Token). N ++ t) (sym (map-append name w.words (all_words k.kinds))) in
      record {
        kinds = record { name = u; words = w.words } ∷ k.kinds;
        tokens = ap (λ (t : List Token). kind_word ∷ u ∷ t) (w.tokens ∙ ap (λ (t : List Token). own ++ t) k.tokens);
        names = ap (λ (t : List Token). u ∷ t) k.names;
        words = all_append (LimitedWord P (length K)) w.words (all_words k.kinds) w.sound k.words;
        different = subst Distinct names k.different;
        some = subst (λ (M : List Token). 1 ≤ length M) names k.some;
        few = subst (λ (M : List Token). length M ≤ W) names k.few;
      }

  -- ---- what may follow

  bare-left : (Ks N : List Token) → Distinct N → 1 ≤ length N → length N ≤ W → KindsLeft Ks N (kinds_tokens K (bare_kinds Ks))
  bare-left Ks N d s f =
      let none : N ≡ N ++ word_names (bare_kinds Ks) =
      sym (append-nil N) ∙ ap (λ (ws : List WordText). N ++ map name ws) (sym (bare-words [] Ks)) in
      record {
        kinds = bare_kinds Ks;
        tokens = refl;
        names = bare-names [] Ks;
        words = subst (All (LimitedWord P (length K))) (sym (bare-words [] Ks)) tt;
        different = subst Distinct none d;
        some = subst (λ (M : List Token). 1 ≤ length M) none s;
        few = subst (λ (M : List Token). length M ≤ W) none f;
      }

  new_word : (Ks N : List Token) → Fine N → length N < W → (us : List Token) × ((c : ℕ) → WordsLeft c Ks N (mark c ∷ us))
  new_word Ks N f low =
      let u = fresh N f.few in
      let rest : List Token = kinds_tokens K (bare_kinds Ks) in
      let M : List Token = N ++ (u.name ∷ []) in
      let many : length M ≡ length N + 1 = length-append N (u.name ∷ []) in
      let left : KindsLeft Ks M rest =
      bare-left Ks M (distinct_more u.name N f.different u.new) (omega (arith, many)) (omega (arith, many)) in (
        u.name ∷ rest,
        λ c. one_word c Ks N u.name rest u.identifier (no-places spelt 0 Ks M rest rest (omega arith) refl (no_words_lem bar Ks M rest left)),
      )

  -- Where there is a word no other is needed.
  enough : 1 ≤ W → (c : ℕ) (Ks N : List Token) → Fine N → length N ≤ W → (us : List Token) × WordsLeft c Ks N us
  enough one c Ks [] f low = let w = new_word Ks [] f (omega arith) in (mark c ∷ w.0, w.1 c)
  enough one c Ks (n ∷ N) f low =
      let rest : List Token = kinds_tokens K (bare_kinds Ks) in
      (rest, no_words_lem c Ks (n ∷ N) rest (bare-left Ks (n ∷ N) f.different (omega arith) low))

  abbrev pub Due : Phase → List Token → Type 0
  Due at_start Ks = 1 ≤ length Ks
  Due at_kind Ks = 1 ≤ length Ks
  Due behind_kind Ks = Unit {0}
  Due at_word Ks = Unit {0}
  Due behind_word Ks = Unit {0}
  Due at_place Ks = Unit {0}
  Due behind_place Ks = Unit {0}
  Due behind_places Ks = Unit {0}

  -- There is room for what has to follow, where m places stand in the word that was begun.
  abbrev pub Fits : Phase → ℕ → List Token → Type 0
  Fits at_start m N = length N < W
  Fits at_kind m N = length N < W
  Fits behind_kind m N = length N ≤ W
  Fits at_word m N = length N < W
  Fits behind_word m N = length N ≤ W
  Fits at_place m N = (length N ≤ W) × (m < P)
  Fits behind_place m N = (length N ≤ W) × (m ≤ P)
  Fits behind_places m N = length N ≤ W

  pub new-kind : (Ks N : List Token) → Fine N → length N < W → 1 ≤ length Ks → (us : List Token) × KindsLeft Ks N (kind_word ∷ us)
  new-kind [] N f low h = absurd (omega arith)
  new-kind (u ∷ Ks) N f low h =
      let w = new_word Ks N f low in (u ∷ mark equals ∷ w.0, one-kind Ks N u (mark equals ∷ w.0) (w.1 equals))

  complete : 1 ≤ W → 1 ≤ length K → (p : Phase) (m : ℕ) (Ks N : List Token) → Fine N → Due p Ks → Fits p m N → (us : List Token) × Outcome p m Ks N us
  complete one s at_start m Ks N f d t = let w = new-kind Ks N f t d in (kind_word ∷ w.0, w.1)
  complete one s at_kind m Ks N f d t = new-kind Ks N f t d
  complete one s behind_kind m Ks N f d t = enough one equals Ks N f t
  complete one s at_word m Ks N f d t = new_word Ks N f t
  complete one s behind_word m Ks N f d t =
      let w = enough one bar Ks N f t in (w.0, no-places spelt 0 Ks N w.0 w.0 (omega arith) refl w.1)
  complete one s at_place m Ks N f d t =
      let w = enough one bar Ks N f t.0 in
      let us : List Token = mark closing ∷ w.0 in (
        name_at K 0 ∷ us,
        record {
          place = 0;
          behind = us;
          tokens = refl;
          below = omega arith;
          left = no-places (place_kind_tokens K comma) (suc m) Ks N us w.0 (omega (arith, t.1)) refl w.1;
        },
      )
  complete one s behind_place m Ks N f d t =
      let w = enough one bar Ks N f t.0 in
      let us : List Token = mark closing ∷ w.0 in
      (us, no-places (place_kind_tokens K comma) m Ks N us w.0 t.1 refl w.1)
  complete one s behind_places m Ks N f d t = enough one bar Ks N f t

-- What is known of the word that was begun.
abbrev pub Ready : Phase → List WordRow → Type 0
Ready at_start L = Unit {0}
Ready at_kind L = Unit {0}
Ready behind_kind L = Unit {0}
Ready at_word L = Unit {0}
Ready behind_word L = (1 ≤ length L) × (places_last L ≡ 0)
Ready at_place L = (1 ≤ length L) × (places_last L ≤ most_places)
Ready behind_place L = (1 ≤ length L) × (places_last L ≤ most_places)
Ready behind_places L = Unit {0}

grown-last : (k : ℕ) (L : List WordRow) → 1 ≤ length L → places_last (map (grown k) L) ≡ suc (places_last L)
grown-last k [] h = absurd (omega arith)
grown-last k (r ∷ L) h = omega (arith, length-append r.places (k ∷ []))

grown_some : (k : ℕ) (L : List WordRow) → 1 ≤ length L → 1 ≤ length (map (grown k) L)
grown_some k [] h = absurd (omega arith)
grown_some k (r ∷ L) h = omega arith

-- ---- what was read

-- K are the names that were gathered, and `extra` may be kinds behind them. The tokens vs stand behind those that are read.
module _ (W P : ℕ) (one : 1 ≤ W) (room : most_places ≤ P) (K extra : List Token) (some : 1 ≤ length (K ++ extra)) (vs : List Token) (y : Declaring) where
  abbrev J : List Token
  J = K ++ extra

  -- The kinds that are to come where n have begun.
  abbrev ahead : ℕ → List Token
  ahead n = drop n K ++ extra

  module _ (due : Due W P J y.phase (ahead y.kinds))
      (fit : (N : List Token) (L : List WordRow) → Fine N → Ready y.phase L → Fits W P J y.phase (places_last L) N) where
    abbrev More : List Token → Type 0
    More us =
        (p : Phase) (n : ℕ) (N : List Token) (D L : List WordRow) → Fine N → Ready p L → All Tokened us → Coming K (naming p) n (us ++ vs) →
        walk K (state p n N D L) us ≡ on y → (m : List Token) × Outcome W P J p (places_last L) (ahead n) N (us ++ m)

    module _ (u : Token) (us : List Token) (more : More us) (n : ℕ) (N : List Token) (fine : Fine N) (D L : List WordRow)
        (tokens : All Tokened (u ∷ us)) where
      abbrev Follows : Stepped → Type 0
      Follows s = and_on s (λ z. walk K z us) ≡ on y

      fails_not : {A : Type 0} (why : ℕ) → Follows (fails why) → A
      fails_not why e = let z : ◌≡◌ {A = ℕ} 0 1 = cc in absurd (omega arith)

      over_not : {A : Type 0} → Follows over → A
      over_not e = let z : ◌≡◌ {A = ℕ} 0 1 = cc in absurd (omega arith)

      skip : same u kind_word ≡ false → Left K n (u ∷ (us ++ vs)) → Left K n (us ++ vs)
      skip h t = left_skip K n u (us ++ vs) h t

      skip_mark : (c : ℕ) → u ≡ mark c → Left K n (u ∷ (us ++ vs)) → Left K n (us ++ vs)
      skip_mark c h t = skip (ap (λ t. same t kind_word) h ∙ mark-no_kind c) t

      -- A `kind`, where nothing else may stand.
      kind_or : (s : Stepped) → Left K n (u ∷ (us ++ vs)) → (Follows s → ⊥) →
          Follows (cond (same u kind_word) (on (state at_kind n N D L)) s) → (m : List Token) × KindsLeft W P J (ahead n) N (u ∷ (us ++ m))
      kind_or s t other f = go (same u kind_word) refl f
        where
          go : (b : Bool) → same u kind_word ≡ b → Follows (cond b (on (state at_kind n N D L)) s) →
              (m : List Token) × KindsLeft W P J (ahead n) N (u ∷ (us ++ m))
          go false h f = absurd (other f)
          go true h f =
              let r = more at_kind n N D L fine tt tokens.1 (left-kind K n u (us ++ vs) h t) f in
              (r.0, subst (λ t. KindsLeft W P J (ahead n) N (t ∷ (us ++ r.0))) (sym (same-eq u kind_word h)) r.1)

      -- The mark c and a word, or none.
      word_or : (p : Phase) (c : ℕ) → Left K n (u ∷ (us ++ vs)) →
          Follows (cond (same u (mark c)) (go_to at_word (state p n N D L)) (step_on (state p n N D L) u)) →
          (m : List Token) × WordsLeft W P J c (ahead n) N (u ∷ (us ++ m))
      word_or p c t f = go (same u (mark c)) refl f
        where
          go : (b : Bool) → same u (mark c) ≡ b → Follows (cond b (go_to at_word (state p n N D L)) (step_on (state p n N D L) u)) →
              (m : List Token) × WordsLeft W P J c (ahead n) N (u ∷ (us ++ m))
          go false h f = let r = kind_or over t over_not f in (r.0, no_words_lem W P J c (ahead n) N (u ∷ (us ++ r.0)) r.1)
          go true h f =
              let q : u ≡ mark c = same-eq u (mark c) h in
              let r = more at_word n N D L fine tt tokens.1 (skip_mark c q t) f in
              (r.0, subst (λ t. WordsLeft W P J c (ahead n) N (t ∷ (us ++ r.0))) (sym q) (r.1 c))

      -- The mark c and a place, or what comes where c does not stand.
      place_or : (p : Phase) (spell : List ℕ → List Token) (c k : ℕ) (s : Stepped) →
          ((p : ℕ) (ps : List ℕ) → spell (p ∷ ps) ≡ place_kind_tokens J c (p ∷ ps)) → Ready at_place L → places_last L ≡ k → Left K n (u ∷ (us ++ vs)) →
          (Follows s → (m : List Token) × PlacesLeft W P J spell k (ahead n) N (u ∷ (us ++ m))) →
          Follows (cond (same u (mark c)) (go_to at_place (state p n N D L)) s) → (m : List Token) × PlacesLeft W P J spell k (ahead n) N (u ∷ (us ++ m))
      place_or p spell c k s spells ready now t other f = go (same u (mark c)) refl f
        where
          go : (b : Bool) → same u (mark c) ≡ b → Follows (cond b (go_to at_place (state p n N D L)) s) →
              (m : List Token) × PlacesLeft W P J spell k (ahead n) N (u ∷ (us ++ m))
          go false h f = other f
          go true h f =
              let q : u ≡ mark c = same-eq u (mark c) h in
              let r = more at_place n N D L fine ready tokens.1 (skip_mark c q t) f in (
                r.0,
                subst (λ t. PlacesLeft W P J spell k (ahead n) N (t ∷ (us ++ r.0))) (sym q)
                    (one_place W P J spell c k (ahead n) N (us ++ r.0) spells
                    (subst (λ i. PlaceLeft W P J i (ahead n) N (us ++ r.0)) now r.1)),
              )

      closing_or : (p : Phase) → places_last L ≤ most_places → Left K n (u ∷ (us ++ vs)) →
          Follows (cond (same u (mark closing)) (go_to behind_places (state p n N D L)) (fails place_end)) →
          (m : List Token) × PlacesLeft W P J (place_kind_tokens J comma) (places_last L) (ahead n) N (u ∷ (us ++ m))
      closing_or p low t f = go (same u (mark closing)) refl f
        where
          go : (b : Bool) → same u (mark closing) ≡ b → Follows (cond b (go_to behind_places (state p n N D L)) (fails place_end)) →
              (m : List Token) × PlacesLeft W P J (place_kind_tokens J comma) (places_last L) (ahead n) N (u ∷ (us ++ m))
          go false h f = fails_not place_end f
          go true h f =
              let q : u ≡ mark closing = same-eq u (mark closing) h in
              let r = more behind_places n N D L fine tt tokens.1 (skip_mark closing q t) f in (
                r.0,
                no-places W P J (place_kind_tokens J comma) (places_last L) (ahead n) N (u ∷ (us ++ r.0)) (us ++ r.0) (omega (arith, low, room)) (ap (λ (t : Token). t ∷ (us ++ r.0)) q) r.1,
              )

      named-kind : (why : ℕ) → kind_name_why (take n K) u ≡ why → Naming K n (u ∷ (us ++ vs)) → Follows (step_kind (state at_kind n N D L) why) →
          (m : List Token) × KindsLeft W P J (ahead n) N (kind_word ∷ u ∷ (us ++ m))
      named-kind (suc why) h t f = fails_not (suc why) f
      named-kind zero h t f =
          let r = more behind_kind (suc n) N D L fine tt tokens.1 (left-named K n u (us ++ vs) h t) f in (
            r.0,
            subst (λ (M : List Token). KindsLeft W P J M N (kind_word ∷ u ∷ (us ++ r.0)))
                (ap (λ (M : List Token). M ++ extra) (sym (named-drop K n u (us ++ vs) h t)))
                (one-kind W P J (ahead (suc n)) N u (us ++ r.0) r.1),
          )

      named-word : (why : ℕ) → word_name_why N u ≡ why → Left K n (u ∷ (us ++ vs)) → Follows (step_word (state at_word n N D L) u why) →
          (m : List Token) × ((c : ℕ) → WordsLeft W P J c (ahead n) N (mark c ∷ u ∷ (us ++ m)))
      named-word (suc why) h t f = fails_not (suc why) f
      named-word zero h t f =
          let i : NameFits most_words N u = name-fits 5 6 7 most_words N u h in
          let r =
          more behind_word n (N ++ (u ∷ [])) (D ++ L) (record { kind = n - 1; places = [] } ∷ [])
          (record {
            different = distinct_more u N fine.different i.new;
            few = omega (arith, i.room, length-append N (u ∷ []));
          })
          (omega arith, refl) tokens.1 (skip (identifier-no_kind u i.identifier) t) f in
          (r.0, λ c. one_word W P J c (ahead n) N u (us ++ r.0) (identifier u tokens.0 i.identifier i.short) r.1)

      named-place : (why : ℕ) → 1 ≤ length L → place_why K (places_last L) u ≡ why → Left K n (u ∷ (us ++ vs)) →
          Follows (step_place (state at_place n N D L) (index_in u K) why) → (m : List Token) × PlaceLeft W P J (places_last L) (ahead n) N (u ∷ (us ++ m))
      named-place (suc why) some h t f = fails_not (suc why) f
      named-place zero some h t f =
          let i : PlaceFits K (places_last L) u = place-fits K (places_last L) u h in
          let grew = grown-last (index_in u K) L some in
          let r =
          more behind_place n N D (map (grown (index_in u K)) L) fine (grown_some (index_in u K) L some, omega (arith, grew, i.room)) tokens.1 (skip (identifier-no_kind u i.identifier) t) f in (
            r.0,
            record {
              place = index_in u K;
              behind = us ++ r.0;
              tokens =
                  ap (λ (t : Token). t ∷ (us ++ r.0))
                  (sym (get_or-append K extra [] (index_in u K) i.declared ∙ at-index u K i.declared));
              below = omega (arith, i.declared, length-append K extra);
              left = subst (λ j. PlacesLeft W P J (place_kind_tokens J comma) j (ahead n) N (us ++ r.0)) grew r.1;
            },
          )

    follow : (us : List Token) → More us
    follow [] p n N D L fine ready tokens t f =
        let h : y ≡ state p n N D L = cc in
        complete W P J one some p (places_last L) (ahead n) N fine (subst (λ (z : Declaring). Due W P J z.phase (ahead z.kinds)) h due)
        (subst (λ (z : Declaring). Ready z.phase L → Fits W P J z.phase (places_last L) N) h (fit N L fine) ready)
    follow (u ∷ us) at_start n N D L fine ready tokens t f =
        kind_or u us (follow us) n N fine D L tokens (fails kind_due) t (λ g. fails_not u us (follow us) n N fine D L tokens kind_due g) f
    follow (u ∷ us) at_kind n N D L fine ready tokens t f =
        named-kind u us (follow us) n N fine D L tokens (kind_name_why (take n K) u) refl t f
    follow (u ∷ us) behind_kind n N D L fine ready tokens t f = word_or u us (follow us) n N fine D L tokens behind_kind equals t f
    follow (u ∷ us) at_word n N D L fine ready tokens t f = named-word u us (follow us) n N fine D L tokens (word_name_why N u) refl t f
    follow (u ∷ us) behind_word n N D L fine ready tokens t f =
        place_or u us (follow us) n N fine D L tokens behind_word (spelt W P J) opening 0 _ (λ p ps. refl) (ready.0, omega (arith, ready.1))
        ready.1 t
        (λ f.
        let r = word_or u us (follow us) n N fine D L tokens behind_word bar t f in
        (r.0, no-places W P J (spelt W P J) 0 (ahead n) N (u ∷ (us ++ r.0)) (u ∷ (us ++ r.0)) (omega arith) refl r.1))
        f
    follow (u ∷ us) at_place n N D L fine ready tokens t f =
        named-place u us (follow us) n N fine D L tokens (place_why K (places_last L) u) ready.0 refl t f
    follow (u ∷ us) behind_place n N D L fine ready tokens t f =
        place_or u us (follow us) n N fine D L tokens behind_place (place_kind_tokens J comma) comma (places_last L) _ (λ p ps. refl) ready refl t
        (closing_or u us (follow us) n N fine D L tokens behind_place ready.1 t) f
    follow (u ∷ us) behind_places n N D L fine ready tokens t f = word_or u us (follow us) n N fine D L tokens behind_places bar t f

    pub so_far_lem : (us : List Token) → All Tokened us → names_from [] (us ++ vs) ≡ K → walk K beginning us ≡ on y →
        (m : List Token) × KindsLeft W P J J [] (us ++ m)
    so_far_lem us tokens e f =
        follow us at_start 0 [] [] [] (record { different = tt; few = omega arith }) tt tokens (record { few = omega arith; rest = e }) f
