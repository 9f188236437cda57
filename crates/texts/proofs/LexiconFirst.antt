-- LexiconFirst: a fault of a vocabulary is at the first byte at fault.
--
--   lexicon-first, is_sound, is_good     what is left where nothing is read yet is a vocabulary, a sound or a good one
--   any-good, any-sound       there are such vocabularies
--   walk_split                what is read up to a place before the last
--   closable p, marked p      a declaration or its places may end in the phase p; a word or a place is due
--   kind-follows, mark-follows     where a `kind` stands, and the mark before a word or a place
--   begun                     where nothing was read, or a `kind` and its name
--   sound, later, before      something sound begins with what was read
--   within, good-there, good_start, good_but_one     something good does, or does but for the last token
--   in_name_lem, in_rest_lem, in_place_lem     a fault in the name of a kind, one whatever kinds there are, and a kind that is not known
--   at-place, at_rest, elsewhere, by_phase  which of them
--   lexicon_faults_are_first  the law
--
use mathlib.Core.Path.{◌≡◌, refl, sym, ◌∙◌, ap, subst}
use mathlib.Core.Bool.{Bool, true, false, cond, true≢false, false≢true}
use mathlib.Core.List.{List, [], ◌∷◌, ◌++◌, append-nil, append_assoc, map-append}
use mathlib.Core.Logic.{◌⊎◌, inl, inr}
use Prim.Native.Nat.{ℕ, zero, suc, ◌≤◌}
use native.Mathlib.Omega.{arith}
use lib.ListN.{length, take, drop, length-append, length-map, take-append-drop}
use Rattle.terms.specs.Lists.{All}
use Rattle.terms.proofs.All.{all_implies, all_append, all_unmap, all_left}
use Rattle.wire.specs.Vocabulary.{most_kinds, most_words}
use Rattle.texts.specs.Lexemes.{Token, Lexeme}
use Rattle.texts.specs.Names.{same, kind_word, is_identifier, IsIdentifier, index_in, Distinct}
use Rattle.texts.specs.Spelling.{IsToken}
use Rattle.texts.specs.Lexicon.{KindText, Lexicon, kind_names, all_words, kinds_tokens, lexicon_tokens, most_places, GoodWord, GoodLexicon}
use Rattle.texts.specs.Faults.{Fault, kind_due}
use Rattle.texts.specs.LexiconReading.{kind_name_why, word_name_why, place_why, names_from, WordRow, Phase, at_start, at_kind, behind_kind, at_word, behind_word, at_place, behind_place, behind_places, Declaring, beginning, Stepped, fails, on, over, go_to, step_kind, step_word, places_last, step_place, step_in, step}
use Rattle.texts.specs.Laws.{tokens_of, SoundWord, SoundLexicon, LexiconFirst, GoodBefore, LexiconFault, in_name, in_place, in_rest, LexiconFaultsAreFirst}
use Rattle.texts.proofs.Lookups.{distinct_more}
use Rattle.texts.proofs.KindNames.{Tokened, text_tokened}
use Rattle.texts.proofs.Gathering.{KindsFine, names-fine, Left, Naming, naming, left-kind, left-named, kinds_are_gathered}
use Rattle.texts.proofs.LexiconsRead.{state, name, and_on, walk}
use Rattle.texts.proofs.LexiconsExact.{Fine}
use Rattle.texts.proofs.FreshNames.{fresh}
use Rattle.texts.proofs.LexiconSoFar.{LimitedWord, KindsLeft, Due, Fits, Ready, new-kind, so_far_lem}
use Rattle.texts.proofs.LexiconFaults.{Stuck, Split, split, no-further}
use Rattle.texts.proofs.Alike.{exact, Barred, barred_exact, barred_place, PlaceWrong, no_name, long, full, unknown, place-wrong, no_other}
use Rattle.texts.proofs.Begun.{starting, name-due, walk-later}
use Rattle.texts.proofs.KindNameFaults.{Named, named_by, Wrong, why-wrong}

-- What is left where nothing is read yet is a vocabulary, with as many words and places as there are.
module _ (W P : ℕ) (Fine : Lexicon → Type 0) (K us M : List Token) (which : (M ≡ []) ⊎ (K ≡ M)) (k : KindsLeft W P K K [] us) where
  lexicon-first : Fine k.kinds → LexiconFirst Fine M us
  lexicon-first fine = record {
    lexicon = k.kinds;
    rest = [];
    fine = fine;
    kinds = kinds which;
    tokens = k.tokens ∙ ap (λ (M : List Token). kinds_tokens M k.kinds) (sym k.names) ∙ sym (append-nil (lexicon_tokens k.kinds));
    no_kind = refl;
    no_equals = refl;
    no_bar = refl;
    no_opening = refl;
  }
    where
      kinds : (M ≡ []) ⊎ (K ≡ M) → (M ≡ []) ⊎ (kind_names k.kinds ≡ M)
      kinds (inl e) = inl e
      kinds (inr e) = inr (k.names ∙ e)

module _ (W P : ℕ) (K us : List Token) (ids : All IsIdentifier K) (different : Distinct K) (some : 1 ≤ length K) (k : KindsLeft W P K K [] us) where
  abbrev X : Lexicon
  X = k.kinds

  count : length K ≡ length X
  count = ap length (sym k.names) ∙ length-map X (λ (x : KindText). x.name)

  named : All (λ (x : KindText). IsIdentifier x.name) X
  named = all_unmap IsIdentifier (λ (x : KindText). x.name) X (subst (All IsIdentifier) (sym k.names) ids)

  limited : All (LimitedWord P (length X)) (all_words X)
  limited = subst (λ n. All (LimitedWord P n) (all_words X)) count k.words

  is_sound : SoundLexicon X
  is_sound = record {
    kinds = named;
    different_kinds = subst Distinct (sym k.names) different;
    some_kind = subst (λ n. 1 ≤ n) count some;
    words =
        all_implies (LimitedWord P (length X)) (SoundWord (length X)) (λ w h. record { name = h.name; places = h.places }) (all_words X) limited;
    different_words = k.different;
    some_word = subst (λ n. 1 ≤ n) (length-map (all_words X) name) k.some;
  }

  is_good : W ≡ most_words → P ≡ most_places → length K ≤ most_kinds → GoodLexicon X
  is_good w p few = record {
    kinds = named;
    different_kinds = subst Distinct (sym k.names) different;
    some_kind = subst (λ n. 1 ≤ n) count some;
    few_kinds = omega (arith, few, count);
    words =
        all_implies (LimitedWord P (length X)) (GoodWord (length X))
        (λ w h. record { name = h.name; places = h.places; few = subst (λ n. length w.places ≤ n) p h.few }) (all_words X) limited;
    different_words = k.different;
    some_word = subst (λ n. 1 ≤ n) (length-map (all_words X) name) k.some;
    few_words = omega (arith, k.few, length-map (all_words X) name, w);
  }

-- There are good vocabularies, with the kinds K if there are any.
any-good : (K : List Token) → KindsFine K → (us : List Token) × LexiconFirst GoodLexicon K us
any-good [] fine =
    let u = fresh [] (omega arith) in
    let J : List Token = u.name ∷ [] in
    let k = new-kind most_words most_places J J [] (record { different = tt; few = omega arith }) (omega arith) (omega arith) in (
      kind_word ∷ k.0,
      lexicon-first most_words most_places GoodLexicon J (kind_word ∷ k.0) [] (inl refl) k.1
          (is_good most_words most_places J (kind_word ∷ k.0) (u.identifier, tt) (refl, tt) (omega arith) k.1 refl refl (omega arith)),
    )
any-good (v ∷ K) fine =
    let k = new-kind most_words most_places (v ∷ K) (v ∷ K) [] (record { different = tt; few = omega arith }) (omega arith) (omega arith) in (
      kind_word ∷ k.0,
      lexicon-first most_words most_places GoodLexicon (v ∷ K) (kind_word ∷ k.0) (v ∷ K) (inr refl) k.1
          (is_good most_words most_places (v ∷ K) (kind_word ∷ k.0) fine.identifiers fine.different (omega arith) k.1 refl refl fine.few),
    )

good-sound : (X : Lexicon) → GoodLexicon X → SoundLexicon X
good-sound X g = record {
  kinds = g.kinds;
  different_kinds = g.different_kinds;
  some_kind = g.some_kind;
  words =
      all_implies (GoodWord (length X)) (SoundWord (length X)) (λ w h. record { name = h.name; places = h.places }) (all_words X) g.words;
  different_words = g.different_words;
  some_word = g.some_word;
}

any-sound : (K : List Token) → KindsFine K → (us : List Token) × LexiconFirst SoundLexicon K us
any-sound K fine =
    let h = any-good K fine in
    let f = h.1 in (
      h.0,
      record {
        lexicon = f.lexicon;
        rest = f.rest;
        fine = good-sound f.lexicon f.fine;
        kinds = f.kinds;
        tokens = f.tokens;
        no_kind = f.no_kind;
        no_equals = f.no_equals;
        no_bar = f.no_bar;
        no_opening = f.no_opening;
      },
    )

length_take_most : (n : ℕ) (l : List Token) → length (take n l) ≤ length l
length_take_most n l = omega (arith, ap length (take-append-drop n l), length-append (take n l) (drop n l))

-- What is read up to some place is read up to each place before it.
walk_split : (K us vs : List Token) (x y : Declaring) → walk K x (us ++ vs) ≡ on y → (z : Declaring) × (walk K x us ≡ on z) × (walk K z vs ≡ on y)
walk_split K [] vs x y w = (x, refl, w)
walk_split K (u ∷ us) vs x y w = go (λ z. walk_split K us vs z y) (step K x u) w
  where
    go : ((z : Declaring) → walk K z (us ++ vs) ≡ on y → (t : Declaring) × (walk K z us ≡ on t) × (walk K t vs ≡ on y)) → (s : Stepped) →
        and_on s (λ z. walk K z (us ++ vs)) ≡ on y → (t : Declaring) × (and_on s (λ z. walk K z us) ≡ on t) × (walk K t vs ≡ on y)
    go more (on z) w = more z w
    go more over w = let z : ◌≡◌ {A = ℕ} 0 1 = cc in absurd (omega arith)
    go more (fails why) w = let z : ◌≡◌ {A = ℕ} 0 1 = cc in absurd (omega arith)

-- A declaration may end in the phase p, or its places may.
abbrev closable : Phase → Bool
closable at_start = false
closable at_kind = false
closable behind_kind = true
closable at_word = false
closable behind_word = true
closable at_place = false
closable behind_place = true
closable behind_places = true

closable_later : (p : Phase) → closable p ≡ true → (naming p ≡ false) × (starting p ≡ false)
closable_later at_start e = absurd (false≢true e)
closable_later at_kind e = absurd (false≢true e)
closable_later behind_kind e = (refl, refl)
closable_later at_word e = absurd (false≢true e)
closable_later behind_word e = (refl, refl)
closable_later at_place e = absurd (false≢true e)
closable_later behind_place e = (refl, refl)
closable_later behind_places e = (refl, refl)

-- A `kind` stands where nothing was read, or where a declaration may end.
kind-follows : (K : List Token) (x y : Declaring) → walk K x (kind_word ∷ []) ≡ on y → (starting x.phase ≡ true) ⊎ (closable x.phase ≡ true)
kind-follows K x y w = go x.phase refl w
  where
    go : (p : Phase) → x.phase ≡ p → and_on (step_in K x kind_word p) on ≡ on y → (starting x.phase ≡ true) ⊎ (closable x.phase ≡ true)
    go at_start e w = inl (ap starting e)
    go at_kind e w = let z : ◌≡◌ {A = ℕ} 0 1 = cc in absurd (omega arith)
    go behind_kind e w = inr (ap closable e)
    go at_word e w = let z : ◌≡◌ {A = ℕ} 0 1 = cc in absurd (omega arith)
    go behind_word e w = inr (ap closable e)
    go at_place e w = let z : ◌≡◌ {A = ℕ} 0 1 = cc in absurd (omega arith)
    go behind_place e w = let z : ◌≡◌ {A = ℕ} 0 1 = cc in absurd (omega arith)
    go behind_places e w = inr (ap closable e)

-- A word or a place is due.
abbrev marked : Phase → Bool
marked at_start = false
marked at_kind = false
marked behind_kind = false
marked at_word = true
marked behind_word = false
marked at_place = true
marked behind_place = false
marked behind_places = false

-- It is due behind one mark, before which a declaration or its places may end.
mark-follows : (K : List Token) (x y : Declaring) (u : Token) → walk K x (u ∷ []) ≡ on y → marked y.phase ≡ true → closable x.phase ≡ true
mark-follows K x y u w m = go x.phase refl w
  where
    other : (z : Declaring) → marked z.phase ≡ false → on z ≡ on y → closable x.phase ≡ true
    other z n e =
        let same : z ≡ y = cc in
        absurd (true≢false (sym (ap (λ (d : Declaring). marked d.phase) same ∙ m) ∙ n))

    by_kind : (b : Bool) → and_on (cond b (go_to at_kind x) (fails kind_due)) on ≡ on y → closable x.phase ≡ true
    by_kind true w = other _ refl w
    by_kind false w = let z : ◌≡◌ {A = ℕ} 0 1 = cc in absurd (omega arith)

    by_name : (why : ℕ) → and_on (step_kind x why) on ≡ on y → closable x.phase ≡ true
    by_name zero w = other _ refl w
    by_name (suc why) w = let z : ◌≡◌ {A = ℕ} 0 1 = cc in absurd (omega arith)

    by_word : (why : ℕ) → and_on (step_word x u why) on ≡ on y → closable x.phase ≡ true
    by_word zero w = other _ refl w
    by_word (suc why) w = let z : ◌≡◌ {A = ℕ} 0 1 = cc in absurd (omega arith)

    by_place : (k why : ℕ) → and_on (step_place x k why) on ≡ on y → closable x.phase ≡ true
    by_place k zero w = other _ refl w
    by_place k (suc why) w = let z : ◌≡◌ {A = ℕ} 0 1 = cc in absurd (omega arith)

    go : (p : Phase) → x.phase ≡ p → and_on (step_in K x u p) on ≡ on y → closable x.phase ≡ true
    go at_start e w = by_kind (same u kind_word) w
    go at_kind e w = by_name (kind_name_why (take x.kinds K) u) w
    go behind_kind e w = ap closable e
    go at_word e w = by_word (word_name_why x.names u) w
    go behind_word e w = ap closable e
    go at_place e w = by_place (index_in u K) (place_why K (places_last x.last) u) w
    go behind_place e w = ap closable e
    go behind_places e w = ap closable e

-- All tokens but the last.
parted : (u : Token) (us : List Token) → (init : List Token) × (last : Token) × (u ∷ us ≡ init ++ (last ∷ []))
parted u [] = ([], u, refl)
parted u (v ∷ us) = let h = parted v us in (u ∷ h.0, h.1, ap (λ (ws : List Token). u ∷ ws) h.2)

module _ (l : List Lexeme) (e : Lexeme) (x : Fault) (tokened : All (λ (y : Lexeme). IsToken y.token) l) (t : e.token ≡ []) where
  abbrev L : List Lexeme
  L = l ++ (e ∷ [])

  abbrev K : List Token
  K = names_from [] (tokens_of L)

  tokens : All Tokened (tokens_of L)
  tokens = text_tokened l e tokened t

  fine : KindsFine K
  fine = names-fine (tokens_of L) tokens

  -- ---- what stands before some place

  module _ (us vs : List Token) (parts : tokens_of L ≡ us ++ vs) (y : Declaring) (walked : walk K beginning us ≡ on y) where
    own : All Tokened us
    own = all_left Tokened us vs (subst (All Tokened) parts tokens)

    gathered : names_from [] (us ++ vs) ≡ K
    gathered = ap (names_from []) (sym parts)

    sound : (extra M : List Token) → (M ≡ []) ⊎ (K ++ extra ≡ M) → All IsIdentifier (K ++ extra) → Distinct (K ++ extra) →
        1 ≤ length (K ++ extra) → Due (suc most_words) (suc most_places) (K ++ extra) y.phase (drop y.kinds K ++ extra) →
        (m : List Token) × LexiconFirst SoundLexicon M (us ++ m)
    sound extra M which ids different some due =
        let J : List Token = K ++ extra in
        let m = so_far_lem (suc most_words) (suc most_places) (omega arith) (omega arith) K extra some vs y due (fit y.phase) us own gathered walked in (
          m.0,
          lexicon-first (suc most_words) (suc most_places) SoundLexicon J (us ++ m.0) M which m.1
              (is_sound (suc most_words) (suc most_places) J (us ++ m.0) ids different some m.1),
        )
      where
        fit : (p : Phase) (N : List Token) (L : List WordRow) → Fine N → Ready p L → Fits (suc most_words) (suc most_places) (K ++ extra) p (places_last L) N
        fit at_start N L f r = omega (arith, f.few)
        fit at_kind N L f r = omega (arith, f.few)
        fit behind_kind N L f r = omega (arith, f.few)
        fit at_word N L f r = omega (arith, f.few)
        fit behind_word N L f r = omega (arith, f.few)
        fit at_place N L f r = (omega (arith, f.few), omega (arith, r.1))
        fit behind_place N L f r = (omega (arith, f.few), omega (arith, r.1))
        fit behind_places N L f r = omega (arith, f.few)

    ids_of : All IsIdentifier (K ++ [])
    ids_of = subst (All IsIdentifier) (sym (append-nil K)) fine.identifiers

    apart_of : Distinct (K ++ [])
    apart_of = subst Distinct (sym (append-nil K)) fine.different

    -- Behind a `kind` and its name.
    later : naming y.phase ≡ false → starting y.phase ≡ false → 1 ≤ length K → (m : List Token) × LexiconFirst SoundLexicon K (us ++ m)
    later q f some =
        sound [] K (inr (append-nil K)) ids_of apart_of (subst (λ (M : List Token). 1 ≤ length M) (sym (append-nil K)) some) (due y.phase q f)
      where
        due : (p : Phase) → naming p ≡ false → starting p ≡ false → Due (suc most_words) (suc most_places) (K ++ []) p (drop y.kinds K ++ [])
        due at_start q f = absurd (true≢false f)
        due at_kind q f = absurd (true≢false q)
        due behind_kind q f = tt
        due at_word q f = tt
        due behind_word q f = tt
        due at_place q f = tt
        due behind_place q f = tt
        due behind_places q f = tt

    -- Where a declaration or its places may end, nothing has to be added that passes a limit.
    within : closable y.phase ≡ true → 1 ≤ length K → (m : List Token) × LexiconFirst GoodLexicon K (us ++ m)
    within q some =
        let J : List Token = K ++ [] in
        let many : 1 ≤ length J = subst (λ (M : List Token). 1 ≤ length M) (sym (append-nil K)) some in
        let m =
        so_far_lem most_words most_places (omega arith) (omega arith) K [] many vs y (due y.phase q) (λ N L. fit y.phase q N L) us own gathered walked in (
          m.0,
          lexicon-first most_words most_places GoodLexicon J (us ++ m.0) K (inr (append-nil K)) m.1
              (is_good most_words most_places J (us ++ m.0) ids_of apart_of many m.1 refl refl
              (subst (λ (M : List Token). length M ≤ most_kinds) (sym (append-nil K)) fine.few)),
        )
      where
        due : (p : Phase) → closable p ≡ true → Due most_words most_places (K ++ []) p (drop y.kinds K ++ [])
        due at_start q = absurd (false≢true q)
        due at_kind q = absurd (false≢true q)
        due behind_kind q = tt
        due at_word q = tt
        due behind_word q = tt
        due at_place q = tt
        due behind_place q = tt
        due behind_places q = tt

        fit : (p : Phase) → closable p ≡ true → (N : List Token) (L : List WordRow) → Fine N → Ready p L →
            Fits most_words most_places (K ++ []) p (places_last L) N
        fit at_start q N L f r = absurd (false≢true q)
        fit at_kind q N L f r = absurd (false≢true q)
        fit behind_kind q N L f r = f.few
        fit at_word q N L f r = absurd (false≢true q)
        fit behind_word q N L f r = f.few
        fit at_place q N L f r = absurd (false≢true q)
        fit behind_place q N L f r = (f.few, r.1)
        fit behind_places q N L f r = f.few

  -- Where no name of a kind is due, nothing was read, or a `kind` and its name.
  begun : (us vs : List Token) → tokens_of L ≡ us ++ vs → (y : Declaring) → walk K beginning us ≡ on y → naming y.phase ≡ false →
      ((us ≡ []) × (beginning ≡ y)) ⊎ ((1 ≤ length K) × (starting y.phase ≡ false))
  begun [] vs parts y w q = let h : beginning ≡ y = cc in inl (refl, h)
  begun (u ∷ []) vs parts y w q = absurd (by_kind (same u kind_word) w)
    where
      by_kind : (b : Bool) → and_on (cond b (go_to at_kind beginning) (fails kind_due)) (λ z. on z) ≡ on y → ⊥
      by_kind false w = let z : ◌≡◌ {A = ℕ} 0 1 = cc in omega arith
      by_kind true w =
          let same : state at_kind 0 [] [] [] ≡ y = cc in
          true≢false (ap (λ (d : Declaring). naming d.phase) same ∙ q)
  begun (u ∷ v ∷ ws) vs parts y w q =
      inr (by_kind (same u kind_word) refl (record { few = omega arith; rest = ap (names_from []) (sym parts) }) w)
    where
      Goal : Type 0
      Goal = (1 ≤ length K) × (starting y.phase ≡ false)

      by_name : (why : ℕ) → kind_name_why [] v ≡ why → Naming K 0 (v ∷ (ws ++ vs)) →
          and_on (step_kind (state at_kind 0 [] [] []) why) (λ z. walk K z ws) ≡ on y → Goal
      by_name (suc why) h t w = let z : ◌≡◌ {A = ℕ} 0 1 = cc in absurd (omega arith)
      by_name zero h t w = ((left-named K 0 v (ws ++ vs) h t).few, walk-later K ws (state behind_kind 1 [] [] []) y refl w)

      by_kind : (b : Bool) → same u kind_word ≡ b → Left K 0 (u ∷ v ∷ (ws ++ vs)) →
          and_on (cond b (go_to at_kind beginning) (fails kind_due)) (λ z. walk K z (v ∷ ws)) ≡ on y → Goal
      by_kind false h t w = let z : ◌≡◌ {A = ℕ} 0 1 = cc in absurd (omega arith)
      by_kind true h t w = by_name (kind_name_why [] v) refl (left-kind K 0 u (v ∷ (ws ++ vs)) h t) w

  -- Something sound with the kinds K begins with what was read there.
  before : (us vs : List Token) → tokens_of L ≡ us ++ vs → (y : Declaring) → walk K beginning us ≡ on y → naming y.phase ≡ false →
      (m : List Token) × LexiconFirst SoundLexicon K (us ++ m)
  before us vs parts y w q = go (begun us vs parts y w q)
    where
      go : ((us ≡ []) × (beginning ≡ y)) ⊎ ((1 ≤ length K) × (starting y.phase ≡ false)) → (m : List Token) × LexiconFirst SoundLexicon K (us ++ m)
      go (inl (e, h)) =
          subst (λ (ws : List Token). (m : List Token) × LexiconFirst SoundLexicon K (ws ++ m)) (sym e) (any-sound K fine)
      go (inr (some, f)) = later us vs parts y w q f some

  -- Something good does where a declaration or its places may end ..
  good-there : (us vs : List Token) → tokens_of L ≡ us ++ vs → (y : Declaring) → walk K beginning us ≡ on y → closable y.phase ≡ true →
      (m : List Token) × LexiconFirst GoodLexicon K (us ++ m)
  good-there us vs parts y w c = go (begun us vs parts y w (closable_later y.phase c).0)
    where
      go : ((us ≡ []) × (beginning ≡ y)) ⊎ ((1 ≤ length K) × (starting y.phase ≡ false)) → (m : List Token) × LexiconFirst GoodLexicon K (us ++ m)
      go (inl (e, h)) = absurd (false≢true (ap (λ (d : Declaring). closable d.phase) h ∙ c))
      go (inr (some, f)) = within us vs parts y w c some

  good_start : (us vs : List Token) → tokens_of L ≡ us ++ vs → (y : Declaring) → walk K beginning us ≡ on y → starting y.phase ≡ true →
      naming y.phase ≡ false → (m : List Token) × LexiconFirst GoodLexicon K (us ++ m)
  good_start us vs parts y w t q = go (begun us vs parts y w q)
    where
      go : ((us ≡ []) × (beginning ≡ y)) ⊎ ((1 ≤ length K) × (starting y.phase ≡ false)) → (m : List Token) × LexiconFirst GoodLexicon K (us ++ m)
      go (inl (e, h)) = subst (λ (ws : List Token). (m : List Token) × LexiconFirst GoodLexicon K (ws ++ m)) (sym e) (any-good K fine)
      go (inr (some, f)) = absurd (true≢false (sym t ∙ f))

  -- .. and elsewhere but for the mark before it.
  good_but_one : (us vs : List Token) → tokens_of L ≡ us ++ vs → (y : Declaring) → walk K beginning us ≡ on y → marked y.phase ≡ true → GoodBefore K us
  good_but_one [] vs parts y w m =
      let h : beginning ≡ y = cc in
      absurd (false≢true (ap (λ (d : Declaring). marked d.phase) h ∙ m))
  good_but_one (u ∷ us) vs parts y w m =
      let h = parted u us in
      let z = walk_split K h.0 (h.1 ∷ []) beginning y (subst (λ (ws : List Token). walk K beginning ws ≡ on y) h.2 w) in
      record {
        init = h.0;
        last = h.1 ∷ [];
        tokens = h.2;
        one = omega arith;
        good =
            good-there h.0 (h.1 ∷ vs) (parts ∙ ap (λ (ws : List Token). ws ++ vs) h.2 ∙ append_assoc h.0 (h.1 ∷ []) vs) z.0 z.1
            (mark-follows K z.0 y h.1 z.2 m);
      }

  all-good : (us : List Token) → (m : List Token) × LexiconFirst GoodLexicon K (us ++ m) → GoodBefore K us
  all-good us g = record { init = us; last = []; tokens = sym (append-nil us); one = omega arith; good = g }

  module _ (s : Split K beginning L x.at) where
    abbrev us : List Token
    us = tokens_of s.before

    abbrev vs : List Token
    vs = s.here.token ∷ tokens_of s.behind

    parts : tokens_of L ≡ us ++ vs
    parts = ap tokens_of s.all ∙ map-append (λ (y : Lexeme). y.token) s.before (s.here ∷ s.behind)

    -- ---- the name of a kind

    in_name_lem : s.state.phase ≡ at_kind → LexiconFault K L x.at
    in_name_lem q =
        let u = fresh K (omega (arith, fine.few)) in
        let extra : List Token = u.name ∷ [] in
        let named : Named K false 0 s.state us =
        named_by K vs s.state q us beginning refl (record { few = omega arith; rest = ap (names_from []) (sym parts) }) s.walked in
        let front : (z : Declaring) × (walk K beginning named.front ≡ on z) × (walk K z (kind_word ∷ []) ≡ on s.state) =
        walk_split K named.front (kind_word ∷ []) beginning s.state
        (subst (λ (ws : List Token). walk K beginning ws ≡ on s.state) named.tokens s.walked) in
        let another =
        sound us vs parts s.state s.walked extra [] (inl refl) (all_append IsIdentifier K extra fine.identifiers (u.identifier, tt))
        (distinct_more u.name K fine.different u.new) (omega (arith, length-append K extra))
        (subst (λ (p : Phase). Due (suc most_words) (suc most_places) (K ++ extra) p (drop s.state.kinds K ++ extra)) (sym q)
        (omega (arith, length-append (drop s.state.kinds K) extra))) in
        in_name
        (record {
          before = s.before;
          here = s.here;
          behind = s.behind;
          all = s.all;
          place = s.place;
          declared = named.front;
          due = named.tokens;
          so_far = so_good named.front front.0 front.1 named.tokens (kind-follows K front.0 s.state front.2);
          another = (
            another.0,
            subst (LexiconFirst SoundLexicon [])
                (ap (λ (ws : List Token). ws ++ another.0) named.tokens ∙ append_assoc named.front (kind_word ∷ []) another.0)
                another.1,
          );
          wrong = wrong named.names;
        })
      where
        so_good : (ws : List Token) (z : Declaring) → walk K beginning ws ≡ on z → us ≡ ws ++ (kind_word ∷ []) →
            (starting z.phase ≡ true) ⊎ (closable z.phase ≡ true) → (m : List Token) × LexiconFirst GoodLexicon K (ws ++ m)
        so_good ws z w e (inl t) =
            good_start ws (kind_word ∷ vs) (parts ∙ ap (λ (m : List Token). m ++ vs) e ∙ append_assoc ws (kind_word ∷ []) vs) z w t (quiet z.phase t)
          where
            quiet : (p : Phase) → starting p ≡ true → naming p ≡ false
            quiet at_start t = refl
            quiet at_kind t = absurd (false≢true t)
            quiet behind_kind t = refl
            quiet at_word t = refl
            quiet behind_word t = refl
            quiet at_place t = refl
            quiet behind_place t = refl
            quiet behind_places t = refl
        so_good ws z w e (inr c) =
            good-there ws (kind_word ∷ vs) (parts ∙ ap (λ (m : List Token). m ++ vs) e ∙ append_assoc ws (kind_word ∷ []) vs) z w c

        few : length (take s.state.kinds K) ≤ most_kinds
        few = omega (arith, fine.few, length_take_most s.state.kinds K)

        stuck : (why : ℕ) → kind_name_why (take s.state.kinds K) s.here.token ≡ why → Stuck s.state (step_kind s.state why) →
            Wrong (take s.state.kinds K) s.here.token
        stuck zero h z = absurd z
        stuck (suc why) h z = why-wrong (take s.state.kinds K) s.here.token why few h

        wrong : {N : List Token} → take s.state.kinds K ≡ N → Wrong N s.here.token
        wrong h =
            subst (λ (N : List Token). Wrong N s.here.token) h
            (stuck (kind_name_why (take s.state.kinds K) s.here.token) refl
            (subst (λ (p : Phase). Stuck s.state (step_in K s.state s.here.token p)) q s.stuck))

    -- ---- elsewhere

    module _ (q : naming s.state.phase ≡ false) where
      so : (m : List Token) × LexiconFirst SoundLexicon K (us ++ m)
      so = before us vs parts s.state s.walked q

      in_rest_lem : GoodBefore K us → Barred s.state s.here.token → LexiconFault K L x.at
      in_rest_lem g b =
          in_rest
          (record {
            before = s.before;
            here = s.here;
            behind = s.behind;
            all = s.all;
            place = s.place;
            so_far = so;
            no_further = λ M F. no_other K us M s.state s.here.token s.walked b F;
          })
          g

      -- A name that is no kind's: it has those of K before it, so there are some.
      in_place_lem : s.state.phase ≡ at_place → is_identifier s.here.token ≡ true → index_in s.here.token K ≡ length K →
          LexiconFault K L x.at
      in_place_lem p i n =
          in_place
          (record {
            before = s.before;
            here = s.here;
            behind = s.behind;
            all = s.all;
            place = s.place;
            so_far = so;
            no_further = λ M F. further M F F.kinds;
          })
          (good_but_one us vs parts s.state s.walked (ap marked p)) i n
        where
          none : K ≡ [] → ((us ≡ []) × (beginning ≡ s.state)) ⊎ ((1 ≤ length K) × (starting s.state.phase ≡ false)) → ⊥
          none z (inl (e, h)) =
              true≢false (ap (λ (d : Declaring). starting d.phase) h ∙ ap starting p)
          none z (inr (some, f)) = omega (arith, ap length z)

          further : (M : List Token) (F : LexiconFirst GoodLexicon K (us ++ (s.here.token ∷ M))) →
              (K ≡ []) ⊎ (kind_names F.lexicon ≡ K) → ⊥
          further M F (inl z) = none z (begun us vs parts s.state s.walked q)
          further M F (inr k) = no-further K us M s.state s.here.token s.walked s.stuck F k

      at-place : s.state.phase ≡ at_place → LexiconFault K L x.at
      at-place p =
          go (place_why K (places_last s.state.last) s.here.token) refl
          (subst (λ (q : Phase). Stuck s.state (step_in K s.state s.here.token q)) p s.stuck)
        where
          g : GoodBefore K us
          g = good_but_one us vs parts s.state s.walked (ap marked p)

          by : PlaceWrong K (places_last s.state.last) s.here.token → LexiconFault K L x.at
          by (no_name h) = in_rest_lem g (barred_place s.state s.here.token p (inl h))
          by (long h) = in_rest_lem g (barred_place s.state s.here.token p (inr (inl h)))
          by (full h) = in_rest_lem g (barred_place s.state s.here.token p (inr (inr h)))
          by (unknown i n) = in_place_lem p i n

          go : (why : ℕ) → place_why K (places_last s.state.last) s.here.token ≡ why →
              Stuck s.state (step_place s.state (index_in s.here.token K) why) → LexiconFault K L x.at
          go zero h z = absurd z
          go (suc why) h z = by (place-wrong K (places_last s.state.last) s.here.token why h)

      at_rest : closable s.state.phase ≡ true → exact s.state.phase ≡ true → LexiconFault K L x.at
      at_rest c e =
          in_rest_lem (all-good us (good-there us vs parts s.state s.walked c)) (barred_exact K s.state s.here.token e s.stuck)

      elsewhere : (p : Phase) → s.state.phase ≡ p → naming p ≡ false → LexiconFault K L x.at
      elsewhere at_place e n = at-place e
      elsewhere at_kind e n = absurd (true≢false n)
      elsewhere at_start e n =
          in_rest_lem (all-good us (good_start us vs parts s.state s.walked (ap starting e) q)) (barred_exact K s.state s.here.token (ap exact e) s.stuck)
      elsewhere at_word e n =
          in_rest_lem (good_but_one us vs parts s.state s.walked (ap marked e)) (barred_exact K s.state s.here.token (ap exact e) s.stuck)
      elsewhere behind_kind e n = at_rest (ap closable e) (ap exact e)
      elsewhere behind_word e n = at_rest (ap closable e) (ap exact e)
      elsewhere behind_place e n = at_rest (ap closable e) (ap exact e)
      elsewhere behind_places e n = at_rest (ap closable e) (ap exact e)

    by_phase : (b : Bool) → naming s.state.phase ≡ b → LexiconFault K L x.at
    by_phase true q = in_name_lem (name-due s.state.phase q)
    by_phase false q = elsewhere q s.state.phase refl q

pub lexicon_faults_are_first : LexiconFaultsAreFirst
lexicon_faults_are_first l e x tokened t h =
    let s = split (names_from [] (tokens_of (l ++ (e ∷ [])))) e t l beginning x h in
    subst (λ (N : List Token). LexiconFault N (l ++ (e ∷ [])) x.at) (kinds_are_gathered (tokens_of (l ++ (e ∷ []))))
    (by_phase l e x tokened t s (naming s.state.phase) refl)
