-- LexiconsExact: what is read as a vocabulary is a good one, and its tokens are those that were read.
--
--   Plain l                    what is known of the lexemes l alone
--   Fine N                     the names of words N are different and not too many
--   Ready p L                  what is known in the phase p
--   longer ps ρ                the row ρ with the places ps more
--   PlaceFits, place-fits      what place_why tests
--   KindsLeft, WordsLeft, PlacesLeft, PlaceLeft     what the tokens that are still to be read stand for, by what may come next
--   Outcome p n N D L us       one of these, by the phase
--   one_place, one_word, one-kind      one thing more
--   outcome                    what is read of l has an outcome
--   bare-names, bare-words, bare_rows      kinds without words behind others
--   with_late, LexiconBefore, lexicon-before     what is read of a vocabulary, where a `kind` may stand behind it
--   lexicons_exact             the law
--
use mathlib.Core.Path.{◌≡◌, refl, sym, ◌∙◌, ap, ap₂, subst}
use mathlib.Core.Bool.{Bool, true, false, cond}
use mathlib.Core.List.{List, [], ◌∷◌, ◌++◌, map, append-nil, append_assoc, map-append}
use mathlib.Core.Logic.{◌⊎◌}
use Prim.Native.Nat.{ℕ, zero, suc, ◌+◌, ◌-◌, ◌<◌, ◌≤◌}
use native.Mathlib.Omega.{arith}
use lib.Dec.{eqb, ltb, leb}
use lib.ListN.{length, take, drop, length-append, length-map, drop_of_length-le}
use lib.Seq.{length-take-le}
use borrow.Author.Tests.{ltb-true, leb-true, eqb-false}
use Rattle.terms.specs.Lists.{All}
use Rattle.terms.proofs.All.{all_append, all_map, all_unmap}
use Rattle.wire.specs.Vocabulary.{most_kinds, most_words}
use Rattle.texts.specs.Lexemes.{Token, Lexeme}
use Rattle.texts.specs.Names.{same, kind_word, mark, comma, bar, equals, opening, closing, most_name, is_identifier, IsIdentifier, index_in, name_at, Distinct}
use Rattle.texts.specs.Spelling.{IsToken}
use Rattle.texts.specs.Lexicon.{WordText, KindText, Lexicon, kind_names, all_words, word_names, place_kind_tokens, with_places, words_tokens, kinds_tokens, most_places, GoodWord, GoodLexicon}
use Rattle.texts.specs.Faults.{parsed, bad, place, kind_due, kind_beyond, long_name, place_due, not_declared, many_places, place_end, no_words}
use Rattle.texts.specs.LexiconReading.{kind_name_why, word_name_why, place_why, names_from, WordRow, Phase, at_start, at_kind, behind_kind, at_word, behind_word, at_place, behind_place, behind_places, Declaring, Stepped, over, fails, go_to, step_kind, step_word, grown, step_place, step_on, LexiconRead, stepped, read_rows, read_lexicon}
use Rattle.texts.specs.Laws.{tokens_of, rows_from, lexicon_read, Closes, LexiconsExact, bare_kinds}
use Rattle.texts.proofs.Lookups.{same-eq, identifier-no_kind, identifier_some, at-index, distinct_more}
use Rattle.texts.proofs.Closing.{closes_next}
use Rattle.texts.proofs.KindNames.{NameFits, name-fits, identifier, Quiet, mark-no_kind}
use Rattle.texts.proofs.Gathering.{KindsFine, names-fine, none_more, Left, Naming, Coming, naming, left_skip, left-kind, left-named, named-drop}
use Rattle.texts.proofs.LexiconsRead.{state, row_of, name}

abbrev Tokened : Lexeme → Type 0
Tokened x = (x.token ≡ []) ⊎ IsToken x.token

record Plain (l : List Lexeme) : Type 0 where
  tokens : All Tokened l
  closes : Closes l

plain-next : (x : Lexeme) (l : List Lexeme) → Plain (x ∷ l) → (x.token ≡ [] → ⊥) → Plain l
plain-next x l p n = record { tokens = p.tokens.1; closes = closes_next x l p.closes n }

-- A mark and the word kind are not empty.
some_token : (u v : Token) (b : ℕ) (w : Token) → u ≡ v → v ≡ b ∷ w → u ≡ [] → ⊥
some_token u v b w e f h = let z : ◌≡◌ {A = ℕ} 0 1 = cc in omega arith

pub record Fine (N : List Token) : Type 0 where
  pub different : Distinct N
  pub few : length N ≤ most_words

abbrev Some : List WordRow → Type 0
Some [] = ⊥
Some (ρ ∷ L) = length ρ.places ≤ most_places

abbrev Ready : Phase → List WordRow → Type 0
Ready at_start L = Unit {0}
Ready at_kind L = Unit {0}
Ready behind_kind L = Unit {0}
Ready at_word L = Unit {0}
Ready behind_word L = Some L
Ready at_place L = Some L
Ready behind_place L = Some L
Ready behind_places L = Unit {0}

-- A row with the places ps behind those that it has.
abbrev longer : List ℕ → WordRow → WordRow
longer ps ρ = record { kind = ρ.kind; places = ρ.places ++ ps }

longer_none : (L : List WordRow) → L ≡ map (longer []) L
longer_none [] = refl
longer_none (ρ ∷ L) =
    ap₂ (λ (p : List ℕ) (M : List WordRow). record { kind = ρ.kind; places = p } ∷ M) (sym (append-nil ρ.places)) (longer_none L)

longer_grown : (p : ℕ) (ps : List ℕ) (L : List WordRow) → map (longer ps) (map (grown p) L) ≡ map (longer (p ∷ ps)) L
longer_grown p ps [] = refl
longer_grown p ps (ρ ∷ L) =
    ap₂ (λ (p : List ℕ) (M : List WordRow). record { kind = ρ.kind; places = p } ∷ M) (append_assoc ρ.places (p ∷ []) ps) (longer_grown p ps L)

pub record PlaceFits (K : List Token) (m : ℕ) (u : Token) : Type 0 where
  pub identifier : is_identifier u ≡ true
  pub short : length u ≤ most_name
  pub declared : index_in u K < length K
  pub room : m < most_places

pub place-fits : (K : List Token) (m : ℕ) (u : Token) → place_why K m u ≡ 0 → PlaceFits K m u
place-fits K m u e =
    go (is_identifier u) (leb (length u) most_name) (ltb (index_in u K) (length K)) (ltb m most_places) (ltb (length K) most_kinds) refl refl refl refl e
  where
    go : (b s c f g : Bool) → is_identifier u ≡ b → leb (length u) most_name ≡ s → ltb (index_in u K) (length K) ≡ c → ltb m most_places ≡ f →
        cond b (cond s (cond c (cond f 0 many_places) (cond g not_declared kind_beyond)) long_name) place_due ≡ 0 → PlaceFits K m u
    go false s c f g p q r t e = absurd (omega arith)
    go true false c f g p q r t e = absurd (omega arith)
    go true true false f true p q r t e = absurd (omega arith)
    go true true false f false p q r t e = absurd (omega arith)
    go true true true false g p q r t e = absurd (omega arith)
    go true true true true g p q r t e = record {
      identifier = p;
      short = leb-true (length u) most_name q;
      declared = ltb-true _ _ r;
      room = ltb-true _ _ t;
    }

module _ (K : List Token) (r : List Lexeme) (a : LexiconRead) where
  record End : Type 0 where
    kinds : a.kind_names ≡ K
    different : Distinct a.word_names
    some : 1 ≤ length a.word_names
    few : length a.word_names ≤ most_words
    closes : Closes r
    late : List Token
    quiet : Quiet (tokens_of r) → late ≡ []

  record KindsLeft (n : ℕ) (N : List Token) (R : List WordRow) (us : List Token) : Type 0 where
    kinds : Lexicon
    tokens : us ≡ kinds_tokens K kinds ++ tokens_of r
    names : a.word_names ≡ N ++ word_names kinds
    rows : a.rows ≡ R ++ rows_from n kinds
    good_words : All (GoodWord (length K)) (all_words kinds)
    end : End
    listed : drop n K ≡ kind_names kinds ++ end.late

  record WordsLeft (c n : ℕ) (N : List Token) (R : List WordRow) (us : List Token) : Type 0 where
    words : List WordText
    behind : List Token
    tokens : us ≡ words_tokens K c words ++ behind
    good : All (GoodWord (length K)) words
    left : KindsLeft n (N ++ map name words) (R ++ map (row_of (n - 1)) words) behind

  record PlacesLeft (spell : List ℕ → List Token) (n : ℕ) (N : List Token) (D : List WordRow) (ρ : WordRow) (L : List WordRow) (us : List Token) : Type 0 where
    places : List ℕ
    behind : List Token
    tokens : us ≡ spell places ++ behind
    good : All (λ k. k < length K) places
    few : length ρ.places + length places ≤ most_places
    left : WordsLeft bar n N (D ++ map (longer places) (ρ ∷ L)) behind

  record PlaceLeft (n : ℕ) (N : List Token) (D : List WordRow) (ρ : WordRow) (L : List WordRow) (us : List Token) : Type 0 where
    place : ℕ
    behind : List Token
    tokens : us ≡ name_at K place ∷ behind
    below : place < length K
    left : PlacesLeft (place_kind_tokens K comma) n N D (grown place ρ) (map (grown place) L) behind

  abbrev Outcome : Phase → ℕ → List Token → List WordRow → List WordRow → List Token → Type 0
  Outcome at_start n N D L us = KindsLeft n N (D ++ L) us
  Outcome at_kind n N D L us = KindsLeft n N (D ++ L) (kind_word ∷ us)
  Outcome behind_kind n N D L us = WordsLeft equals n N (D ++ L) us
  Outcome at_word n N D L us = (c : ℕ) → WordsLeft c n N (D ++ L) (mark c ∷ us)
  Outcome behind_word n N D [] us = Unit {0}
  Outcome behind_word n N D (ρ ∷ L) us = PlacesLeft (λ ps. with_places ps (place_kind_tokens K opening ps)) n N D ρ L us
  Outcome at_place n N D [] us = Unit {0}
  Outcome at_place n N D (ρ ∷ L) us = PlaceLeft n N D ρ L us
  Outcome behind_place n N D [] us = Unit {0}
  Outcome behind_place n N D (ρ ∷ L) us = PlacesLeft (place_kind_tokens K comma) n N D ρ L us
  Outcome behind_places n N D L us = WordsLeft bar n N (D ++ L) us

  abbrev More : List Lexeme → Type 0
  More l =
      (p : Phase) (n : ℕ) (N : List Token) (D L : List WordRow) → Plain l → Coming K (naming p) n (tokens_of l) → Fine N → Ready p L →
      read_rows K (state p n N D L) l ≡ parsed a r → Outcome p n N D L (tokens_of l)

  -- ---- the same, said in another way

  kinds_said : (n : ℕ) (N M : List Token) (R S : List WordRow) (us : List Token) → N ≡ M → R ≡ S → KindsLeft n N R us → KindsLeft n M S us
  kinds_said n N M R S us e f k = record {
    kinds = k.kinds;
    tokens = k.tokens;
    names = k.names ∙ ap (λ (T : List Token). T ++ word_names k.kinds) e;
    rows = k.rows ∙ ap (λ (T : List WordRow). T ++ rows_from n k.kinds) f;
    good_words = k.good_words;
    end = k.end;
    listed = k.listed;
  }

  no_words_lem : (c n : ℕ) (N : List Token) (R : List WordRow) (us : List Token) → KindsLeft n N R us → WordsLeft c n N R us
  no_words_lem c n N R us k = record {
    words = [];
    behind = us;
    tokens = refl;
    good = tt;
    left = kinds_said n N (N ++ []) R (R ++ []) us (sym (append-nil N)) (sym (append-nil R)) k;
  }

  no-places : (spell : List ℕ → List Token) (n : ℕ) (N : List Token) (D : List WordRow) (ρ : WordRow) (L : List WordRow) (us vs : List Token) →
      length ρ.places ≤ most_places → us ≡ spell [] ++ vs → WordsLeft bar n N (D ++ (ρ ∷ L)) vs → PlacesLeft spell n N D ρ L us
  no-places spell n N D ρ L us vs h e w = record {
    places = [];
    behind = vs;
    tokens = e;
    good = tt;
    few = omega arith;
    left = subst (λ (M : List WordRow). WordsLeft bar n N (D ++ M) vs) (longer_none (ρ ∷ L)) w;
  }

  one_place : (spell : List ℕ → List Token) (c n : ℕ) (N : List Token) (D : List WordRow) (ρ : WordRow) (L : List WordRow) (us : List Token) →
      ((p : ℕ) (ps : List ℕ) → spell (p ∷ ps) ≡ place_kind_tokens K c (p ∷ ps)) → PlaceLeft n N D ρ L us →
      PlacesLeft spell n N D ρ L (mark c ∷ us)
  one_place spell c n N D ρ L us h p =
      let q = p.left in
      record {
        places = p.place ∷ q.places;
        behind = q.behind;
        tokens =
            ap (λ (t : List Token). mark c ∷ t) (p.tokens ∙ ap (λ (t : List Token). name_at K p.place ∷ t) q.tokens) ∙
            ap (λ (t : List Token). t ++ q.behind) (sym (h p.place q.places));
        good = (p.below, q.good);
        few = omega (arith, q.few, length-append ρ.places (p.place ∷ []));
        left = subst (λ (M : List WordRow). WordsLeft bar n N (D ++ M) q.behind) (longer_grown p.place q.places (ρ ∷ L)) q.left;
      }

  one_word : (c n : ℕ) (N : List Token) (R : List WordRow) (u : Token) (us : List Token) → IsIdentifier u →
      PlacesLeft (λ ps. with_places ps (place_kind_tokens K opening ps)) n (N ++ (u ∷ [])) R (record { kind = n - 1; places = [] }) [] us →
      WordsLeft c n N R (mark c ∷ u ∷ us)
  one_word c n N R u us i q =
      let m = q.left in
      let w : WordText = record { name = u; places = q.places } in
      let own : List Token = with_places q.places (place_kind_tokens K opening q.places) in
      record {
        words = w ∷ m.words;
        behind = m.behind;
        tokens =
            ap (λ (t : List Token). mark c ∷ u ∷ t)
            (q.tokens ∙ ap (λ (t : List Token). own ++ t) m.tokens ∙ sym (append_assoc own (words_tokens K bar m.words) m.behind));
        good = (record { name = i; places = q.good; few = omega (arith, q.few) }, m.good);
        left =
            kinds_said n _ (N ++ (u ∷ map name m.words)) _ (R ++ (row_of (n - 1) w ∷ map (row_of (n - 1)) m.words)) m.behind
            (append_assoc N (u ∷ []) (map name m.words)) (append_assoc R (row_of (n - 1) w ∷ []) (map (row_of (n - 1)) m.words))
            m.left;
      }

  one-kind : (n : ℕ) (N : List Token) (R : List WordRow) (u : Token) (us : List Token) → drop n K ≡ u ∷ drop (suc n) K →
      WordsLeft equals (suc n) N R us → KindsLeft n N R (kind_word ∷ u ∷ us)
  one-kind n N R u us d w =
      let k = w.left in
      let own : List Token = words_tokens K equals w.words in
      let before : suc n - 1 ≡ n = omega arith in
      record {
        kinds = record { name = u; words = w.words } ∷ k.kinds;
        tokens =
            ap (λ (t : List Token). kind_word ∷ u ∷ t)
            (w.tokens ∙ ap (λ (t : List Token). own ++ t) k.tokens ∙ sym (append_assoc own (kinds_tokens K k.kinds) (tokens_of r)));
        names =
            k.names ∙ append_assoc N (map name w.words) (word_names k.kinds) ∙
            ap (λ (t : List Token). N ++ t) (sym (map-append name w.words (all_words k.kinds)));
        rows =
            k.rows ∙ append_assoc R (map (row_of (suc n - 1)) w.words) (rows_from (suc n) k.kinds) ∙
            ap (λ (m : ℕ). R ++ (map (row_of m) w.words ++ rows_from (suc n) k.kinds)) before;
        good_words = all_append (GoodWord (length K)) w.words (all_words k.kinds) w.good k.good_words;
        end = k.end;
        listed = d ∙ ap (λ (t : List Token). u ∷ t) k.listed;
      }

  -- ---- one token

  module _ (y : Lexeme) (l : List Lexeme) (more : More l) (plain : Plain (y ∷ l)) (n : ℕ) (N : List Token) (fine : Fine N) (D : List WordRow) where
    abbrev here : List Token
    here = tokens_of (y ∷ l)

    skip : same y.token kind_word ≡ false → Left K n here → Left K n (tokens_of l)
    skip h t = left_skip K n y.token (tokens_of l) h t

    skip_mark : (c : ℕ) → y.token ≡ mark c → Left K n here → Left K n (tokens_of l)
    skip_mark c u t = skip (ap (λ v. same v kind_word) u ∙ mark-no_kind c) t

    abbrev Follows : Declaring → Stepped → Type 0
    Follows x s = stepped (λ z. read_rows K z l) K x (y ∷ l) s ≡ parsed a r

    fails_not : {A : Type 0} (x : Declaring) (why : ℕ) → Follows x (fails why) → A
    fails_not x why e = let z : ◌≡◌ {A = ℕ} 0 1 = cc in absurd (omega arith)

    finish : (p : Phase) (L : List WordRow) → Left K n here → Follows (state p n N D L) over → KindsLeft n N (D ++ L) (tokens_of (y ∷ l))
    finish p L t e = go (eqb (length N) 0) refl e
      where
        read : LexiconRead
        read = record { kind_names = K; word_names = N; rows = D ++ L }

        go : (b : Bool) → eqb (length N) 0 ≡ b →
            cond b (bad (record { why = no_words; at = place (y ∷ l); of = 0 })) (parsed read (y ∷ l)) ≡ parsed a r →
            KindsLeft n N (D ++ L) (tokens_of (y ∷ l))
        go true h e = let z : ◌≡◌ {A = ℕ} 0 1 = cc in absurd (omega arith)
        go false h e =
            let same : read ≡ a = cc in
            let names : N ≡ a.word_names = ap (λ (x : LexiconRead). x.word_names) same in
            let rest : y ∷ l ≡ r = cc in
            record {
              kinds = [];
              tokens = ap tokens_of rest;
              names = sym names ∙ sym (append-nil N);
              rows = ap (λ (x : LexiconRead). x.rows) (sym same) ∙ sym (append-nil (D ++ L));
              good_words = tt;
              end = record {
                kinds = ap (λ (x : LexiconRead). x.kind_names) (sym same);
                different = subst Distinct names fine.different;
                some = subst (λ (M : List Token). 1 ≤ length M) names (positive (length N) (eqb-false (length N) 0 h));
                few = subst (λ (M : List Token). length M ≤ most_words) names fine.few;
                closes = subst Closes rest plain.closes;
                late = drop n K;
                quiet = λ q.
                    let all : take n K ≡ K =
                    sym (none_more here (take n K) (subst (λ (m : List Lexeme). Quiet (tokens_of m)) (sym rest) q)) ∙ t.rest in
                    drop_of_length-le K {i = n} (omega (arith, ap length all, length-take-le n K t.few));
              };
              listed = refl;
            }
          where
            positive : (m : ℕ) → (m ≡ 0 → ⊥) → 1 ≤ m
            positive zero f = absurd (f refl)
            positive (suc m) f = omega arith

    -- A `kind`, or what comes where none stands.
    kind_or : (p : Phase) (L : List WordRow) (s : Stepped) → Left K n here →
        (Follows (state p n N D L) s → KindsLeft n N (D ++ L) (tokens_of (y ∷ l))) →
        Follows (state p n N D L) (cond (same y.token kind_word) (go_to at_kind (state p n N D L)) s) →
        KindsLeft n N (D ++ L) (tokens_of (y ∷ l))
    kind_or p L s t other e = go (same y.token kind_word) refl e
      where
        go : (b : Bool) → same y.token kind_word ≡ b → Follows (state p n N D L) (cond b (go_to at_kind (state p n N D L)) s) →
            KindsLeft n N (D ++ L) (tokens_of (y ∷ l))
        go false h e = other e
        go true h e =
            let u : y.token ≡ kind_word = same-eq y.token kind_word h in
            subst (λ t. KindsLeft n N (D ++ L) (t ∷ tokens_of l)) (sym u)
            (more at_kind n N D L (plain-next y l plain (some_token y.token kind_word _ _ u refl)) (left-kind K n y.token (tokens_of l) h t) fine tt e)

    -- The mark c and a word, or none.
    word_or : (p : Phase) (L : List WordRow) (c : ℕ) → Left K n here →
        Follows (state p n N D L)
        (cond (same y.token (mark c)) (go_to at_word (state p n N D L)) (step_on (state p n N D L) y.token)) →
        WordsLeft c n N (D ++ L) (tokens_of (y ∷ l))
    word_or p L c t e = go (same y.token (mark c)) refl e
      where
        go : (b : Bool) → same y.token (mark c) ≡ b →
            Follows (state p n N D L) (cond b (go_to at_word (state p n N D L)) (step_on (state p n N D L) y.token)) →
            WordsLeft c n N (D ++ L) (tokens_of (y ∷ l))
        go false h e = no_words_lem c n N (D ++ L) (tokens_of (y ∷ l)) (kind_or p L over t (finish p L t) e)
        go true h e =
            let u : y.token ≡ mark c = same-eq y.token (mark c) h in
            subst (λ t. WordsLeft c n N (D ++ L) (t ∷ tokens_of l)) (sym u)
            (more at_word n N D L (plain-next y l plain (some_token y.token (mark c) _ _ u refl)) (skip_mark c u t) fine tt e c)

    -- The mark c and a place, or what comes where c does not stand.
    place_or : (p : Phase) (ρ : WordRow) (L : List WordRow) (c : ℕ) (spell : List ℕ → List Token) (s : Stepped) →
        ((p : ℕ) (ps : List ℕ) → spell (p ∷ ps) ≡ place_kind_tokens K c (p ∷ ps)) → Left K n here → length ρ.places ≤ most_places →
        (Follows (state p n N D (ρ ∷ L)) s → PlacesLeft spell n N D ρ L (tokens_of (y ∷ l))) →
        Follows (state p n N D (ρ ∷ L)) (cond (same y.token (mark c)) (go_to at_place (state p n N D (ρ ∷ L))) s) →
        PlacesLeft spell n N D ρ L (tokens_of (y ∷ l))
    place_or p ρ L c spell s spelt t ready other e = go (same y.token (mark c)) refl e
      where
        go : (b : Bool) → same y.token (mark c) ≡ b →
            Follows (state p n N D (ρ ∷ L)) (cond b (go_to at_place (state p n N D (ρ ∷ L))) s) →
            PlacesLeft spell n N D ρ L (tokens_of (y ∷ l))
        go false h e = other e
        go true h e =
            let u : y.token ≡ mark c = same-eq y.token (mark c) h in
            subst (λ t. PlacesLeft spell n N D ρ L (t ∷ tokens_of l)) (sym u)
            (one_place spell c n N D ρ L (tokens_of l) spelt
            (more at_place n N D (ρ ∷ L) (plain-next y l plain (some_token y.token (mark c) _ _ u refl)) (skip_mark c u t) fine ready e))

    named-kind : (L : List WordRow) (why : ℕ) → kind_name_why (take n K) y.token ≡ why → Naming K n here →
        Follows (state at_kind n N D L) (step_kind (state at_kind n N D L) why) → KindsLeft n N (D ++ L) (kind_word ∷ tokens_of (y ∷ l))
    named-kind L (suc why) h t e = fails_not (state at_kind n N D L) (suc why) e
    named-kind L zero h t e =
        let f : NameFits most_kinds (take n K) y.token = name-fits 1 3 4 most_kinds (take n K) y.token h in
        one-kind n N (D ++ L) y.token (tokens_of l) (named-drop K n y.token (tokens_of l) h t)
        (more behind_kind (suc n) N D L (plain-next y l plain (identifier_some y.token f.identifier))
        (left-named K n y.token (tokens_of l) h t) fine tt e)

    named-word : (L : List WordRow) (why c : ℕ) → word_name_why N y.token ≡ why → Left K n here →
        Follows (state at_word n N D L) (step_word (state at_word n N D L) y.token why) → WordsLeft c n N (D ++ L) (mark c ∷ tokens_of (y ∷ l))
    named-word L (suc why) c h t e = fails_not (state at_word n N D L) (suc why) e
    named-word L zero c h t e =
        let f : NameFits most_words N y.token = name-fits 5 6 7 most_words N y.token h in
        one_word c n N (D ++ L) y.token (tokens_of l) (identifier y.token plain.tokens.0 f.identifier f.short)
        (more behind_word n (N ++ (y.token ∷ [])) (D ++ L) (record { kind = n - 1; places = [] } ∷ [])
        (plain-next y l plain (identifier_some y.token f.identifier))
        (skip (identifier-no_kind y.token f.identifier) t)
        (record {
          different = distinct_more y.token N fine.different f.new;
          few = omega (arith, f.room, length-append N (y.token ∷ []));
        })
        (omega arith) e)

    named-place : (ρ : WordRow) (L : List WordRow) (why : ℕ) → place_why K (length ρ.places) y.token ≡ why → Left K n here →
        Follows (state at_place n N D (ρ ∷ L)) (step_place (state at_place n N D (ρ ∷ L)) (index_in y.token K) why) →
        PlaceLeft n N D ρ L (tokens_of (y ∷ l))
    named-place ρ L (suc why) h t e = fails_not (state at_place n N D (ρ ∷ L)) (suc why) e
    named-place ρ L zero h t e =
        let f : PlaceFits K (length ρ.places) y.token = place-fits K (length ρ.places) y.token h in
        record {
          place = index_in y.token K;
          behind = tokens_of l;
          tokens = ap (λ (t : Token). t ∷ tokens_of l) (sym (at-index y.token K f.declared));
          below = f.declared;
          left =
              more behind_place n N D (map (grown (index_in y.token K)) (ρ ∷ L))
              (plain-next y l plain (identifier_some y.token f.identifier))
              (skip (identifier-no_kind y.token f.identifier) t) fine
              (omega (arith, f.room, length-append ρ.places (index_in y.token K ∷ []))) e;
        }

    closing_or : (ρ : WordRow) (L : List WordRow) → Left K n here → length ρ.places ≤ most_places →
        Follows (state behind_place n N D (ρ ∷ L))
        (cond (same y.token (mark closing)) (go_to behind_places (state behind_place n N D (ρ ∷ L))) (fails place_end)) →
        PlacesLeft (place_kind_tokens K comma) n N D ρ L (tokens_of (y ∷ l))
    closing_or ρ L t ready e = go (same y.token (mark closing)) refl e
      where
        go : (b : Bool) → same y.token (mark closing) ≡ b →
            Follows (state behind_place n N D (ρ ∷ L)) (cond b (go_to behind_places (state behind_place n N D (ρ ∷ L))) (fails place_end)) →
            PlacesLeft (place_kind_tokens K comma) n N D ρ L (tokens_of (y ∷ l))
        go false h e = fails_not (state behind_place n N D (ρ ∷ L)) place_end e
        go true h e =
            let u : y.token ≡ mark closing = same-eq y.token (mark closing) h in
            no-places (place_kind_tokens K comma) n N D ρ L (tokens_of (y ∷ l)) (tokens_of l) ready (ap (λ (t : Token). t ∷ tokens_of l) u)
            (more behind_places n N D (ρ ∷ L) (plain-next y l plain (some_token y.token (mark closing) _ _ u refl)) (skip_mark closing u t) fine tt e)

  outcome : (l : List Lexeme) → More l
  outcome [] p n N D L plain t fine ready e = absurd plain.closes
  outcome (y ∷ l) at_start n N D L plain t fine ready e =
      kind_or y l (outcome l) plain n N fine D at_start L (fails kind_due) t
      (fails_not y l (outcome l) plain n N fine D (state at_start n N D L) kind_due) e
  outcome (y ∷ l) at_kind n N D L plain t fine ready e =
      named-kind y l (outcome l) plain n N fine D L (kind_name_why (take n K) y.token) refl t e
  outcome (y ∷ l) behind_kind n N D L plain t fine ready e = word_or y l (outcome l) plain n N fine D behind_kind L equals t e
  outcome (y ∷ l) at_word n N D L plain t fine ready e =
      λ c. named-word y l (outcome l) plain n N fine D L (word_name_why N y.token) c refl t e
  outcome (y ∷ l) behind_word n N D [] plain t fine ready e = tt
  outcome (y ∷ l) behind_word n N D (ρ ∷ L) plain t fine ready e =
      place_or y l (outcome l) plain n N fine D behind_word ρ L opening (λ ps. with_places ps (place_kind_tokens K opening ps)) _ (λ p ps. refl) t
      ready
      (λ e. no-places (λ ps. with_places ps (place_kind_tokens K opening ps)) n N D ρ L (tokens_of (y ∷ l)) (tokens_of (y ∷ l)) ready refl
      (word_or y l (outcome l) plain n N fine D behind_word (ρ ∷ L) bar t e))
      e
  outcome (y ∷ l) at_place n N D [] plain t fine ready e = tt
  outcome (y ∷ l) at_place n N D (ρ ∷ L) plain t fine ready e =
      named-place y l (outcome l) plain n N fine D ρ L (place_why K (length ρ.places) y.token) refl t e
  outcome (y ∷ l) behind_place n N D [] plain t fine ready e = tt
  outcome (y ∷ l) behind_place n N D (ρ ∷ L) plain t fine ready e =
      place_or y l (outcome l) plain n N fine D behind_place ρ L comma (place_kind_tokens K comma) _ (λ p ps. refl) t ready
      (closing_or y l (outcome l) plain n N fine D ρ L t ready) e
  outcome (y ∷ l) behind_places n N D L plain t fine ready e = word_or y l (outcome l) plain n N fine D behind_places L bar t e

some_kind_lem : (X : Lexicon) → 1 ≤ length (all_words X) → 1 ≤ length X
some_kind_lem [] h = h
some_kind_lem (x ∷ X) h = omega arith

-- ---- kinds without words, behind the others

pub bare-names : (X : Lexicon) (us : List Token) → kind_names (X ++ bare_kinds us) ≡ kind_names X ++ us
bare-names [] [] = refl
bare-names [] (u ∷ us) = ap (λ (vs : List Token). u ∷ vs) (bare-names [] us)
bare-names (x ∷ X) us = ap (λ (vs : List Token). x.name ∷ vs) (bare-names X us)

pub bare-words : (X : Lexicon) (us : List Token) → all_words (X ++ bare_kinds us) ≡ all_words X
bare-words [] [] = refl
bare-words [] (u ∷ us) = bare-words [] us
bare-words (x ∷ X) us = ap (λ (ws : List WordText). x.words ++ ws) (bare-words X us)

bare_rows : (k : ℕ) (X : Lexicon) (us : List Token) → rows_from k (X ++ bare_kinds us) ≡ rows_from k X
bare_rows k [] [] = refl
bare_rows k [] (u ∷ us) = bare_rows (suc k) [] us
bare_rows k (x ∷ X) us = ap (λ (R : List WordRow). map (row_of k) x.words ++ R) (bare_rows (suc k) X us)

-- ---- the vocabulary as a whole

-- The vocabulary Y, and kinds without words behind it.
abbrev pub with_late : Lexicon → List Token → Lexicon
with_late Y late = Y ++ bare_kinds late

pub record LexiconBefore (l r : List Lexeme) (a : LexiconRead) : Type 0 where
  pub before : Lexicon
  pub late : List Token
  pub good : GoodLexicon (with_late before late)
  pub kinds : kind_names (with_late before late) ≡ names_from [] (tokens_of l)
  pub read : a ≡ lexicon_read (with_late before late)
  pub tokens : tokens_of l ≡ kinds_tokens (kind_names (with_late before late)) before ++ tokens_of r
  pub closes : Closes r
  pub quiet : Quiet (tokens_of r) → late ≡ []

before : (l r : List Lexeme) (a : LexiconRead) (K : List Token) → K ≡ names_from [] (tokens_of l) → KindsFine K →
    KindsLeft K r a 0 [] [] (tokens_of l) → LexiconBefore l r a
before l r a K gathered fine k = record {
  before = Y;
  late = late;
  good = record {
    kinds = all_unmap IsIdentifier (λ (x : KindText). x.name) X (subst (All IsIdentifier) kinds fine.identifiers);
    different_kinds = subst Distinct kinds fine.different;
    some_kind = some_kind_lem X some;
    few_kinds = omega (arith, fine.few, count);
    words =
        subst (All (GoodWord (length X))) (sym (bare-words Y late)) (subst (λ n. All (GoodWord n) (all_words Y)) count k.good_words);
    different_words = subst Distinct names k.end.different;
    some_word = some;
    few_words = omega (arith, k.end.few, words);
  };
  kinds = sym kinds ∙ gathered;
  read = λ i. record { kind_names = (k.end.kinds ∙ kinds) i; word_names = names i; rows = (k.rows ∙ sym (bare_rows 0 Y late)) i };
  tokens = k.tokens ∙ ap (λ (M : List Token). kinds_tokens M Y ++ tokens_of r) kinds;
  closes = k.end.closes;
  quiet = k.end.quiet;
}
  where
    Y : Lexicon
    Y = k.kinds

    late : List Token
    late = k.end.late

    X : Lexicon
    X = with_late Y late

    kinds : K ≡ kind_names X
    kinds = k.listed ∙ sym (bare-names Y late)

    count : length K ≡ length X
    count = ap length kinds ∙ length-map X (λ (x : KindText). x.name)

    names : a.word_names ≡ word_names X
    names = k.names ∙ ap (map name) (sym (bare-words Y late))

    words : length a.word_names ≡ length (all_words X)
    words = ap length names ∙ length-map (all_words X) name

    some : 1 ≤ length (all_words X)
    some = omega (arith, k.end.some, words)

pub lexicon-before : (l r : List Lexeme) (a : LexiconRead) → All Tokened l → Closes l → read_lexicon l ≡ parsed a r → LexiconBefore l r a
lexicon-before l r a tokened closes e =
    let K : List Token = names_from [] (tokens_of l) in
    before l r a K refl
    (names-fine (tokens_of l) (all_map (λ u. (u ≡ []) ⊎ IsToken u) (λ (x : Lexeme). x.token) l tokened))
    (outcome K r a l at_start 0 [] [] [] (record { tokens = tokened; closes = closes }) (record { few = omega arith; rest = refl })
    (record { different = tt; few = omega arith }) tt e)

pub lexicons_exact : LexiconsExact
lexicons_exact l r a tokened closes e quiet = (
  Y,
  subst GoodLexicon whole h.good,
  h.read ∙ ap lexicon_read whole,
  h.tokens ∙ ap (λ (X : Lexicon). kinds_tokens (kind_names X) Y ++ tokens_of r) whole,
)
  where
    h : LexiconBefore l r a
    h = lexicon-before l r a tokened closes e

    Y : Lexicon
    Y = h.before

    whole : with_late Y h.late ≡ Y
    whole =
        ap (λ (us : List Token). Y ++ bare_kinds us)
        (h.quiet (all_map (λ u. same u kind_word ≡ false) (λ (x : Lexeme). x.token) r quiet)) ∙
        append-nil Y
