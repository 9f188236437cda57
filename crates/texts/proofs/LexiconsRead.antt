-- LexiconsRead: the tokens of a good vocabulary are read as that vocabulary.
--
--   state p n N D L            what was read so far
--   row_of k w, name w          the row of the word w of kind k, and its name
--   walk K x us                what follows the tokens us
--   rows-walk                  lexemes are read as their tokens are walked over
--   after ps                   the phase behind a word with the places ps
--   Room N us                  the names us may follow the names N
--   Rests p                    a declaration may end in the phase p
--   Reached K x us n N R       behind the tokens us, n kinds with the words N and the rows R are read
--   walk-places, walk-word     the tokens of a word's places and of a word
--   walk-words, walk-kinds     the tokens of words and of kinds
--   Over u                     no declaration goes on with the token u
--   step-over, ends, stop      the vocabulary ends there
--   rows-read                  a vocabulary is read where the names of its kinds are known
--   lexicons_read              the law
--
use mathlib.Core.Path.{◌≡◌, refl, sym, ◌∙◌, ap, ap₂, subst}
use mathlib.Core.Bool.{true, false}
use mathlib.Core.List.{List, [], ◌∷◌, ◌++◌, map, append-nil, append_assoc, map-append}
use Prim.Native.Nat.{ℕ, suc, ◌-◌, ◌<◌, ◌≤◌}
use native.Mathlib.Numerals.{add-one}
use native.Mathlib.Omega.{arith}
use lib.Dec.{eqb, ltb, leb}
use lib.ListN.{length, take, drop, length-append, length-map, take-append-drop}
use lib.Seq.{drop-drop}
use borrow.Author.Tests.{lt-ltb, le-leb, ne_eqb}
use Rattle.terms.specs.Lists.{All}
use Rattle.terms.proofs.All.{all-at, all_left, all_right, all_map, all_implies}
use Rattle.wire.specs.Vocabulary.{most_kinds, most_words}
use Rattle.wire.proofs.Cond.{cond_true, cond_false}
use Rattle.texts.specs.Lexemes.{Token, Lexeme}
use Rattle.texts.specs.Names.{same, kind_word, mark, comma, bar, equals, opening, most_name, is_identifier, IsIdentifier, index_in, name_at, Distinct}
use Rattle.texts.specs.Lexicon.{WordText, KindText, Lexicon, kind_names, all_words, word_names, place_kind_tokens, with_places, word_tokens, words_tokens, kinds_tokens, lexicon_tokens, most_places, GoodWord, GoodLexicon}
use Rattle.texts.specs.Faults.{Parsed, parsed, kind_name_due, kind_twice, many_kinds, long_name, word_due, word_twice, many_words, place_due, many_places}
use Rattle.texts.specs.LexiconReading.{kind_name_why, place_why, WordRow, Phase, at_start, at_kind, behind_kind, at_word, behind_word, at_place, behind_place, behind_places, Declaring, rows_of, beginning, Stepped, on, over, fails, step_kind, step_word, step_place, step_in, step, LexiconRead, ended, stepped, names_from, read_rows}
use Rattle.texts.specs.Laws.{tokens_of, rows_from, lexicon_read, Stops, LexiconsRead, names_behind}
use Rattle.texts.proofs.Lookups.{index_at, distinct-front}
use Rattle.texts.proofs.KindNames.{NameFits, fits-name, names-kinds, names_quiet}
use Rattle.texts.proofs.Gathering.{KindsFine, names-read}

abbrev pub state : Phase → ℕ → List Token → List WordRow → List WordRow → Declaring
state p n N D L = record { phase = p; kinds = n; names = N; done = D; last = L }

abbrev pub row_of : ℕ → WordText → WordRow
row_of k w = record { kind = k; places = w.places }

abbrev pub and_on : Stepped → (Declaring → Stepped) → Stepped
and_on (on y) k = k y
and_on over k = over
and_on (fails why) k = fails why

abbrev pub walk : List Token → Declaring → List Token → Stepped
walk K x [] = on x
walk K x (u ∷ us) = and_on (step K x u) (λ z. walk K z us)

walk-append : (K us vs : List Token) (x y : Declaring) → walk K x us ≡ on y → walk K x (us ++ vs) ≡ walk K y vs
walk-append K [] vs x y e =
    let h : x ≡ y = cc in
    ap (λ z. walk K z vs) h
walk-append K (u ∷ us) vs x y e = go (step K x u) (λ z. walk-append K us vs z y) e
  where
    go : (s : Stepped) → ((z : Declaring) → walk K z us ≡ on y → walk K z (us ++ vs) ≡ walk K y vs) →
        and_on s (λ z. walk K z us) ≡ on y → and_on s (λ z. walk K z (us ++ vs)) ≡ walk K y vs
    go (on z) more e = more z e
    go over more e = let z : ◌≡◌ {A = ℕ} 0 1 = cc in absurd (omega arith)
    go (fails why) more e = let z : ◌≡◌ {A = ℕ} 0 1 = cc in absurd (omega arith)

pub rows-walk : (K us vs : List Token) (x y : Declaring) (l : List Lexeme) → walk K x us ≡ on y → tokens_of l ≡ us ++ vs →
    (read_rows K x l ≡ read_rows K y (drop (length us) l)) × (tokens_of (drop (length us) l) ≡ vs)
rows-walk K [] vs x y l e t =
    let h : x ≡ y = cc in
    (ap (λ z. read_rows K z l) h, t)
rows-walk K (u ∷ us) vs x y [] e t = let z : ◌≡◌ {A = ℕ} 0 1 = cc in absurd (omega arith)
rows-walk K (u ∷ us) vs x y (b ∷ l) e t =
    let same : u ≡ b.token = cc in
    go (step K x b.token) (λ z e. rows-walk K us vs z y l e (cc)) (subst (λ v. and_on (step K x v) (λ z. walk K z us) ≡ on y) same e)
  where
    Goal : Parsed LexiconRead → Type 0
    Goal g = (g ≡ read_rows K y (drop (length us) l)) × (tokens_of (drop (length us) l) ≡ vs)

    go : (s : Stepped) → ((z : Declaring) → walk K z us ≡ on y → Goal (read_rows K z l)) → and_on s (λ z. walk K z us) ≡ on y →
        Goal (stepped (λ z. read_rows K z l) K x (b ∷ l) s)
    go (on z) more e = more z e
    go over more e = let z : ◌≡◌ {A = ℕ} 0 1 = cc in absurd (omega arith)
    go (fails why) more e = let z : ◌≡◌ {A = ℕ} 0 1 = cc in absurd (omega arith)

abbrev after : List ℕ → Phase
after [] = behind_word
after (p ∷ ps) = behind_places

-- Names us that may follow the names N.
pub record Room (N us : List Token) : Type 0 where
  pub different : Distinct (N ++ us)
  pub few : length (N ++ us) ≤ most_words

room_next : (N us vs : List Token) → Room N (us ++ vs) → Room (N ++ us) vs
room_next N us vs r =
    let e : N ++ (us ++ vs) ≡ (N ++ us) ++ vs = sym (append_assoc N us vs) in
    record { different = subst Distinct e r.different; few = subst (λ (n : List Token). length n ≤ most_words) e r.few }

room_fits : (N us : List Token) (u : Token) → IsIdentifier u → Room N (u ∷ us) → NameFits most_words N u
room_fits N us u i r = record {
  identifier = i.identifier;
  short = i.short;
  new = distinct-front u N us r.different;
  room = omega (arith, r.few, length-append N (u ∷ us));
}

abbrev Rests : Phase → Type 0
Rests at_start = ⊥
Rests at_kind = ⊥
Rests behind_kind = Unit {0}
Rests at_word = ⊥
Rests behind_word = Unit {0}
Rests at_place = ⊥
Rests behind_place = ⊥
Rests behind_places = Unit {0}

record Reached (K : List Token) (x : Declaring) (us : List Token) (n : ℕ) (N : List Token) (R : List WordRow) : Type 0 where
  state : Declaring
  walked : walk K x us ≡ on state
  rests : Rests state.phase
  kinds : state.kinds ≡ n
  names : state.names ≡ N
  rows : rows_of state ≡ R

chain : (K : List Token) (x y : Declaring) (us vs : List Token) (n : ℕ) (N : List Token) (R : List WordRow) → walk K x us ≡ on y →
    Reached K y vs n N R → Reached K x (us ++ vs) n N R
chain K x y us vs n N R e r = record {
  state = r.state;
  walked = walk-append K us vs x y e ∙ r.walked;
  rests = r.rests;
  kinds = r.kinds;
  names = r.names;
  rows = r.rows;
}

-- The same place, with what was read said in another way.
said : (K : List Token) (x : Declaring) (us : List Token) (n m : ℕ) (N M : List Token) (R S : List WordRow) → n ≡ m → N ≡ M → R ≡ S →
    Reached K x us n N R → Reached K x us m M S
said K x us n m N M R S e f g r = record {
  state = r.state;
  walked = r.walked;
  rests = r.rests;
  kinds = r.kinds ∙ e;
  names = r.names ∙ f;
  rows = r.rows ∙ g;
}

abbrev pub name : WordText → Token
name w = w.name

rests_after : (ps : List ℕ) → Rests (after ps)
rests_after [] = tt
rests_after (p ∷ ps) = tt

bar-step : (K : List Token) (ps : List ℕ) (n : ℕ) (N : List Token) (D L : List WordRow) →
    step K (state (after ps) n N D L) (mark bar) ≡ on (state at_word n N D L)
bar-step K [] n N D L = refl
bar-step K (p ∷ ps) n N D L = refl

kind-step : (K : List Token) (p : Phase) (n : ℕ) (N : List Token) (D L : List WordRow) → Rests p →
    step K (state p n N D L) kind_word ≡ on (state at_kind n N D L)
kind-step K behind_kind n N D L h = refl
kind-step K behind_word n N D L h = refl
kind-step K behind_places n N D L h = refl
kind-step K at_start n N D L h = absurd h
kind-step K at_kind n N D L h = absurd h
kind-step K at_word n N D L h = absurd h
kind-step K at_place n N D L h = absurd h
kind-step K behind_place n N D L h = absurd h

module _ (K : List Token) (fine : KindsFine K) where
  different : Distinct K
  different = fine.different

  place-fits : (m p : ℕ) → p < length K → m < most_places → place_why K m (name_at K p) ≡ 0
  place-fits m p h f =
      let i : IsIdentifier (name_at K p) = all-at IsIdentifier [] K fine.identifiers p h in
      cond_true (is_identifier (name_at K p)) _ place_due i.identifier ∙
      cond_true (leb (length (name_at K p)) most_name) _ long_name (le-leb _ _ i.short) ∙
      cond_true (ltb (index_in (name_at K p) K) (length K)) _ _
      (lt-ltb _ _ (subst (λ i. i < length K) (sym (index_at K p different h)) h)) ∙
      cond_true (ltb m most_places) 0 many_places (lt-ltb _ _ f)

  -- The kinds whose names are Ks are those of K behind the first n.
  abbrev Behind : ℕ → List Token → Type 0
  Behind n Ks = drop n K ≡ Ks

  behind_more : (n : ℕ) (u : Token) (Ks : List Token) → Behind n (u ∷ Ks) → Behind (suc n) Ks
  behind_more n u Ks e = ap (λ i. drop i K) (sym (add-one n)) ∙ sym (drop-drop 1 n K) ∙ ap (drop 1) e

  kind_fits : (n : ℕ) (u : Token) (Ks : List Token) → Behind n (u ∷ Ks) → kind_name_why (take n K) u ≡ 0
  kind_fits n u Ks e =
      let parts : take n K ++ (u ∷ Ks) ≡ K = ap (λ (l : List Token). take n K ++ l) (sym e) ∙ take-append-drop n K in
      let i : IsIdentifier u = (all_right IsIdentifier (take n K) (u ∷ Ks) (subst (All IsIdentifier) (sym parts) fine.identifiers)).0 in
      fits-name kind_name_due kind_twice many_kinds most_kinds (take n K) u
      (record {
        identifier = i.identifier;
        short = i.short;
        new = distinct-front u (take n K) Ks (subst Distinct (sym parts) different);
        room = omega (arith, fine.few, ap length parts, length-append (take n K) (u ∷ Ks));
      })

  place-step : (us : List Token) (p k n : ℕ) (N : List Token) (D : List WordRow) (qs : List ℕ) → p < length K → length qs < most_places →
      walk K (state at_place n N D (record { kind = k; places = qs } ∷ [])) (name_at K p ∷ us) ≡
      walk K (state behind_place n N D (record { kind = k; places = qs ++ (p ∷ []) } ∷ [])) us
  place-step us p k n N D qs h f =
      ap (λ s. and_on s (λ z. walk K z us))
      (ap₂ (step_place (state at_place n N D (record { kind = k; places = qs } ∷ []))) (index_at K p different h) (place-fits (length qs) p h f))

  walk-places : (ps : List ℕ) (k n : ℕ) (N : List Token) (D : List WordRow) (qs : List ℕ) → All (λ i. i < length K) ps →
      length (qs ++ ps) ≤ most_places →
      walk K (state behind_place n N D (record { kind = k; places = qs } ∷ [])) (place_kind_tokens K comma ps) ≡
      on (state behind_places n N D (record { kind = k; places = qs ++ ps } ∷ []))
  walk-places [] k n N D qs a f = ap (λ ps. on (state behind_places n N D (record { kind = k; places = ps } ∷ []))) (sym (append-nil qs))
  walk-places (p ∷ ps) k n N D qs a f =
      let e : (qs ++ (p ∷ [])) ++ ps ≡ qs ++ (p ∷ ps) = append_assoc qs (p ∷ []) ps in
      place-step (place_kind_tokens K comma ps) p k n N D qs a.0 (omega (arith, length-append qs (p ∷ ps))) ∙
      walk-places ps k n N D (qs ++ (p ∷ [])) a.1 (subst (λ (l : List ℕ). length l ≤ most_places) (sym e) f) ∙
      ap (λ l. on (state behind_places n N D (record { kind = k; places = l } ∷ []))) e

  walk-with_places : (ps : List ℕ) (k n : ℕ) (N : List Token) (D : List WordRow) → All (λ i. i < length K) ps → length ps ≤ most_places →
      walk K (state behind_word n N D (record { kind = k; places = [] } ∷ [])) (with_places ps (place_kind_tokens K opening ps)) ≡
      on (state (after ps) n N D (record { kind = k; places = ps } ∷ []))
  walk-with_places [] k n N D a f = refl
  walk-with_places (p ∷ ps) k n N D a f =
      place-step (place_kind_tokens K comma ps) p k n N D [] a.0 (omega arith) ∙ walk-places ps k n N D (p ∷ []) a.1 f

  walk-word : (w : WordText) (n : ℕ) (N : List Token) (D L : List WordRow) → GoodWord (length K) w → NameFits most_words N w.name →
      walk K (state at_word n N D L) (word_tokens K w) ≡
      on (state (after w.places) n (N ++ (w.name ∷ [])) (D ++ L) (row_of (n - 1) w ∷ []))
  walk-word w n N D L g f =
      ap (λ s. and_on s (λ z. walk K z (with_places w.places (place_kind_tokens K opening w.places))))
      (ap (step_word (state at_word n N D L) w.name) (fits-name word_due word_twice many_words most_words N w.name f)) ∙
      walk-with_places w.places (n - 1) n (N ++ (w.name ∷ [])) (D ++ L) g.places g.few

  -- A word, and those behind it.
  word-then : (w : WordText) (ws : List WordText) (vs : List Token) (n : ℕ) (N : List Token) (D L : List WordRow) →
      ((ps : List ℕ) (N : List Token) (D L : List WordRow) → Room N (map name ws ++ vs) →
      Reached K (state (after ps) n N D L) (words_tokens K bar ws) n (N ++ map name ws) ((D ++ L) ++ map (row_of (n - 1)) ws)) →
      GoodWord (length K) w → Room N (map name (w ∷ ws) ++ vs) →
      Reached K (state at_word n N D L) (word_tokens K w ++ words_tokens K bar ws) n (N ++ map name (w ∷ ws))
      ((D ++ L) ++ map (row_of (n - 1)) (w ∷ ws))
  word-then w ws vs n N D L more g r =
      chain K (state at_word n N D L) (state (after w.places) n (N ++ (w.name ∷ [])) (D ++ L) (row_of (n - 1) w ∷ [])) (word_tokens K w)
      (words_tokens K bar ws) n _ _
      (walk-word w n N D L g (room_fits N (map name ws ++ vs) w.name g.name r))
      (said K _ (words_tokens K bar ws) n n ((N ++ (w.name ∷ [])) ++ map name ws) _
      (((D ++ L) ++ (row_of (n - 1) w ∷ [])) ++ map (row_of (n - 1)) ws) _ refl (append_assoc N (w.name ∷ []) (map name ws))
      (append_assoc (D ++ L) (row_of (n - 1) w ∷ []) (map (row_of (n - 1)) ws))
      (more w.places (N ++ (w.name ∷ [])) (D ++ L) (row_of (n - 1) w ∷ []) (room_next N (w.name ∷ []) (map name ws ++ vs) r)))

  walk-words : (ws : List WordText) (vs : List Token) (n : ℕ) → All (GoodWord (length K)) ws → (ps : List ℕ) (N : List Token) (D L : List WordRow) →
      Room N (map name ws ++ vs) →
      Reached K (state (after ps) n N D L) (words_tokens K bar ws) n (N ++ map name ws) ((D ++ L) ++ map (row_of (n - 1)) ws)
  walk-words [] vs n a ps N D L r = record {
    state = state (after ps) n N D L;
    walked = refl;
    rests = rests_after ps;
    kinds = refl;
    names = sym (append-nil N);
    rows = sym (append-nil (D ++ L));
  }
  walk-words (w ∷ ws) vs n a ps N D L r =
      chain K (state (after ps) n N D L) (state at_word n N D L) (mark bar ∷ []) (word_tokens K w ++ words_tokens K bar ws) n _ _
      (ap (λ s. and_on s on) (bar-step K ps n N D L))
      (word-then w ws vs n N D L (walk-words ws vs n a.1) a.0 r)

  walk_first : (ws : List WordText) (vs : List Token) (n : ℕ) → All (GoodWord (length K)) ws → (N : List Token) (D L : List WordRow) →
      Room N (map name ws ++ vs) →
      Reached K (state behind_kind n N D L) (words_tokens K equals ws) n (N ++ map name ws) ((D ++ L) ++ map (row_of (n - 1)) ws)
  walk_first [] vs n a N D L r = record {
    state = state behind_kind n N D L;
    walked = refl;
    rests = tt;
    kinds = refl;
    names = sym (append-nil N);
    rows = sym (append-nil (D ++ L));
  }
  walk_first (w ∷ ws) vs n a N D L r =
      chain K (state behind_kind n N D L) (state at_word n N D L) (mark equals ∷ []) (word_tokens K w ++ words_tokens K bar ws) n _ _ refl
      (word-then w ws vs n N D L (walk-words ws vs n a.1) a.0 r)

  kind-then : (x : KindText) (X : Lexicon) (n : ℕ) (N : List Token) (D L : List WordRow) → Behind n (kind_names (x ∷ X)) →
      ((y : Declaring) → Rests y.phase → Behind y.kinds (kind_names X) → Room y.names (word_names X) →
      (m : ℕ) × Reached K y (kinds_tokens K X) m (y.names ++ word_names X) (rows_of y ++ rows_from y.kinds X)) →
      All (GoodWord (length K)) x.words → Room N (word_names (x ∷ X)) →
      (m : ℕ) ×
      Reached K (state at_kind n N D L) (x.name ∷ (words_tokens K equals x.words ++ kinds_tokens K X)) m (N ++ word_names (x ∷ X))
      ((D ++ L) ++ rows_from n (x ∷ X))
  kind-then x X n N D L left more a r = (
    rest.0,
    chain K (state at_kind n N D L) (state behind_kind (suc n) N D L) (x.name ∷ [])
        (words_tokens K equals x.words ++ kinds_tokens K X) rest.0 _ _
        (ap (λ w. and_on (step_kind (state at_kind n N D L) w) on) (kind_fits n x.name (kind_names X) left))
        (said K _ _ rest.0 rest.0 _ _ _ _ refl
        (ap (λ (M : List Token). M ++ word_names X) front.names ∙ append_assoc N (map name x.words) (word_names X) ∙
        ap (λ (M : List Token). N ++ M) (sym (map-append name x.words (all_words X))))
        (ap₂ (λ (R : List WordRow) (k : ℕ). R ++ rows_from k X) front.rows front.kinds ∙
        ap (λ (k : ℕ). ((D ++ L) ++ map (row_of k) x.words) ++ rows_from (suc n) X) before ∙
        append_assoc (D ++ L) (map (row_of n) x.words) (rows_from (suc n) X))
        (chain K (state behind_kind (suc n) N D L) front.state (words_tokens K equals x.words) (kinds_tokens K X) rest.0 _ _
        front.walked rest.1)),
  )
    where
      before : suc n - 1 ≡ n
      before = omega arith

      split : Room N (map name x.words ++ word_names X)
      split = subst (Room N) (map-append name x.words (all_words X)) r

      front : Reached K (state behind_kind (suc n) N D L) (words_tokens K equals x.words) (suc n) (N ++ map name x.words)
          ((D ++ L) ++ map (row_of (suc n - 1)) x.words)
      front = walk_first x.words (word_names X) (suc n) a N D L split

      rest : (m : ℕ) ×
          Reached K front.state (kinds_tokens K X) m (front.state.names ++ word_names X)
          (rows_of front.state ++ rows_from front.state.kinds X)
      rest =
          more front.state front.rests
          (ap (λ i. drop i K) front.kinds ∙ behind_more n x.name (kind_names X) left)
          (subst (λ M. Room M (word_names X)) (sym front.names) (room_next N (map name x.words) (word_names X) split))

  walk-kinds : (X : Lexicon) → All (GoodWord (length K)) (all_words X) → (y : Declaring) → Rests y.phase →
      Behind y.kinds (kind_names X) → Room y.names (word_names X) →
      (m : ℕ) × Reached K y (kinds_tokens K X) m (y.names ++ word_names X) (rows_of y ++ rows_from y.kinds X)
  walk-kinds [] a y h left r = (
    y.kinds,
    record {
      state = y;
      walked = refl;
      rests = h;
      kinds = refl;
      names = sym (append-nil y.names);
      rows = sym (append-nil (rows_of y));
    },
  )
  walk-kinds (x ∷ X) a y h left r =
      let b = kind-then x X y.kinds y.names y.done y.last left
      (walk-kinds X (all_right (GoodWord (length K)) x.words (all_words X) a))
      (all_left (GoodWord (length K)) x.words (all_words X) a) r in (
        b.0,
        chain K y (state at_kind y.kinds y.names y.done y.last) (kind_word ∷ [])
            (x.name ∷ (words_tokens K equals x.words ++ kinds_tokens K X)) b.0 _ _
            (ap (λ s. and_on s on) (kind-step K y.phase y.kinds y.names y.done y.last h)) b.1,
      )

  walk-all : (X : Lexicon) → 1 ≤ length X → K ≡ kind_names X → All (GoodWord (length K)) (all_words X) → Room [] (word_names X) →
      (m : ℕ) × Reached K beginning (kinds_tokens K X) m (word_names X) (rows_from 0 X)
  walk-all [] h left a r = absurd (omega arith)
  walk-all (x ∷ X) h left a r =
      let b = kind-then x X 0 [] [] [] left (walk-kinds X (all_right (GoodWord (length K)) x.words (all_words X) a))
      (all_left (GoodWord (length K)) x.words (all_words X) a) r in (
        b.0,
        chain K beginning (state at_kind 0 [] [] []) (kind_word ∷ []) (x.name ∷ (words_tokens K equals x.words ++ kinds_tokens K X)) b.0
            _ _ refl b.1,
      )

-- ---- the end

step-over : (K : List Token) (x : Declaring) (u : Token) (p : Phase) → Rests p → same u kind_word ≡ false → same u (mark equals) ≡ false →
    same u (mark bar) ≡ false → same u (mark opening) ≡ false → step_in K x u p ≡ over
step-over K x u behind_kind h k e b o = cond_false (same u (mark equals)) _ _ e ∙ cond_false (same u kind_word) _ over k
step-over K x u behind_word h k e b o =
    cond_false (same u (mark opening)) _ _ o ∙ cond_false (same u (mark bar)) _ _ b ∙ cond_false (same u kind_word) _ over k
step-over K x u behind_places h k e b o = cond_false (same u (mark bar)) _ _ b ∙ cond_false (same u kind_word) _ over k
step-over K x u at_start h k e b o = absurd h
step-over K x u at_kind h k e b o = absurd h
step-over K x u at_word h k e b o = absurd h
step-over K x u at_place h k e b o = absurd h
step-over K x u behind_place h k e b o = absurd h

ends : (K : List Token) (y : Declaring) (l : List Lexeme) → 1 ≤ length y.names →
    ended K y l ≡ parsed (record { kind_names = K; word_names = y.names; rows = rows_of y }) l
ends K y l h = cond_false (eqb (length y.names) 0) _ _ (ne_eqb (length y.names) 0 (λ e. omega arith))

-- No declaration goes on with the token u.
pub record Over (u : Token) : Type 0 where
  pub no_kind : same u kind_word ≡ false
  pub no_equals : same u (mark equals) ≡ false
  pub no_bar : same u (mark bar) ≡ false
  pub no_opening : same u (mark opening) ≡ false

stop : (K : List Token) (y : Declaring) (l : List Lexeme) → Rests y.phase → Over (name_at (tokens_of l) 0) → 1 ≤ length y.names →
    read_rows K y l ≡ parsed (record { kind_names = K; word_names = y.names; rows = rows_of y }) l
stop K y [] p o h = ends K y [] h
stop K y (b ∷ l) p o h =
    ap (stepped (λ z. read_rows K z l) K y (b ∷ l))
    (step-over K y b.token y.phase p o.no_kind o.no_equals o.no_bar o.no_opening) ∙
    ends K y (b ∷ l) h

module _ (X : Lexicon) (g : GoodLexicon X) where
  identifiers : All IsIdentifier (kind_names X)
  identifiers = all_map IsIdentifier (λ (x : KindText). x.name) X g.kinds

  kinds-fine : KindsFine (kind_names X)
  kinds-fine = record {
    identifiers = identifiers;
    different = g.different_kinds;
    few = subst (λ n. n ≤ most_kinds) (sym (length-map X (λ (x : KindText). x.name))) g.few_kinds;
  }

  plain : All (λ u. is_identifier u ≡ true) (kind_names X)
  plain = all_implies IsIdentifier (λ u. is_identifier u ≡ true) (λ u i. i.identifier) (kind_names X) identifiers

  words : All (GoodWord (length (kind_names X))) (all_words X)
  words = subst (λ n. All (GoodWord n) (all_words X)) (sym (length-map X (λ (x : KindText). x.name))) g.words

  -- Where the names of the kinds are known, the rest is read whatever stands behind it.
  pub rows-read : (l : List Lexeme) (us : List Token) → tokens_of l ≡ lexicon_tokens X ++ us → Over (name_at us 0) →
      read_rows (kind_names X) beginning l ≡ parsed (lexicon_read X) (drop (length (lexicon_tokens X)) l)
  rows-read l us e o =
      along.0 ∙
      stop K y.state behind y.rests (subst (λ (r : List Token). Over (name_at r 0)) (sym along.1) o) some ∙
      ap₂ (λ (N : List Token) (R : List WordRow). parsed (record { kind_names = K; word_names = N; rows = R }) behind) y.names y.rows
    where
      K : List Token
      K = kind_names X

      behind : List Lexeme
      behind = drop (length (lexicon_tokens X)) l

      room : Room [] (word_names X)
      room = record { different = g.different_words; few = subst (λ n. n ≤ most_words) (sym (length-map (all_words X) name)) g.few_words }

      reached : (m : ℕ) × Reached K beginning (kinds_tokens K X) m (word_names X) (rows_from 0 X)
      reached = walk-all K kinds-fine X g.some_kind refl words room

      y : Reached K beginning (kinds_tokens K X) reached.0 (word_names X) (rows_from 0 X)
      y = reached.1

      along : (read_rows K beginning l ≡ read_rows K y.state behind) × (tokens_of behind ≡ us)
      along = rows-walk K (lexicon_tokens X) us beginning y.state l y.walked e

      some : 1 ≤ length y.state.names
      some = subst (λ (N : List Token). 1 ≤ length N) (sym y.names) (subst (λ n. 1 ≤ n) (sym (length-map (all_words X) name)) g.some_word)

stops-over : (r : List Lexeme) → Stops r → Over (name_at (tokens_of r) 0)
stops-over [] s = record { no_kind = refl; no_equals = refl; no_bar = refl; no_opening = refl }
stops-over (b ∷ r) s = record { no_kind = s.no_kind.0; no_equals = s.no_equals; no_bar = s.no_bar; no_opening = s.no_opening }

pub lexicons_read : LexiconsRead
lexicons_read X l r g e s =
    ap (λ (M : List Token). read_rows M beginning l) gathered ∙ rows-read X g l (tokens_of r) e (stops-over r s)
  where
    K : List Token
    K = kind_names X

    behind : names_behind (tokens_of l) ≡ K
    behind =
        ap names_behind e ∙
        names-kinds K (plain X g) X (tokens_of r)
        (all_implies (λ (x : KindText). IsIdentifier x.name) (λ (x : KindText). is_identifier x.name ≡ true) (λ x i. i.identifier) X g.kinds)
        (words X g) ∙
        ap (λ (us : List Token). K ++ us)
        (names_quiet (tokens_of r) (all_map (λ u. same u kind_word ≡ false) (λ (x : Lexeme). x.token) r s.no_kind)) ∙
        append-nil K

    gathered : names_from [] (tokens_of l) ≡ K
    gathered =
        names-read (tokens_of l) [] (subst (All IsIdentifier) (sym behind) (identifiers X g)) (subst Distinct (sym behind) g.different_kinds)
        (subst (λ (us : List Token). length us ≤ most_kinds) (sym behind) (kinds-fine X g).few) ∙
        behind
