-- Begun: the kinds that have begun are the first ones of those that are gathered, since each `kind` of the declarations has a name.
--
--   starting p                 in the phase p nothing is read yet
--   Moves x z u                a token u that is no name of a kind: a `kind`, or none, and as many kinds have begun as before
--   moves                      which is what a step does where no name of a kind is due
--   name-due                   where one is due
--   walk-later                 behind the first token the text has begun
--   coming_few, coming_move, coming_step     what is known of the kinds to come, and that it holds behind a step
--
use mathlib.Core.Path.{◌≡◌, refl, sym, ◌∙◌, ap, subst}
use mathlib.Core.Bool.{Bool, true, false, cond, true≢false, false≢true}
use mathlib.Core.List.{List, [], ◌∷◌}
use Prim.Native.Nat.{ℕ, zero, suc, ◌≤◌}
use native.Mathlib.Omega.{arith}
use lib.ListN.{length, take}
use Rattle.wire.specs.Vocabulary.{most_words}
use Rattle.wire.proofs.Cond.{choice}
use Rattle.texts.specs.Lexemes.{Token}
use Rattle.texts.specs.Names.{same, kind_word, mark, opening, closing, comma, bar, equals, index_in}
use Rattle.texts.specs.Faults.{kind_due, place_end}
use Rattle.texts.specs.LexiconReading.{kind_name_why, word_name_why, place_why, Phase, at_start, at_kind, behind_kind, at_word, behind_word, at_place, behind_place, behind_places, Declaring, Stepped, on, over, fails, go_to, step_kind, step_word, places_last, step_place, step_in, step}
use Rattle.texts.proofs.Lookups.{same-eq, identifier-no_kind}
use Rattle.texts.proofs.KindNames.{name-fits, mark-no_kind}
use Rattle.texts.proofs.Gathering.{Left, Naming, Coming, naming, left_skip, left-kind, left-named}
use Rattle.texts.proofs.LexiconsRead.{and_on, walk}
use Rattle.texts.proofs.LexiconsExact.{place-fits}

-- ---- one token

abbrev pub starting : Phase → Bool
starting at_start = true
starting at_kind = false
starting behind_kind = false
starting at_word = false
starting behind_word = false
starting at_place = false
starting behind_place = false
starting behind_places = false

pub data Moves (x z : Declaring) (u : Token) : Type 0 where
  to_name : same u kind_word ≡ true → z.phase ≡ at_kind → z.kinds ≡ x.kinds → Moves x z u
  past : same u kind_word ≡ false → naming z.phase ≡ false → starting z.phase ≡ false → z.kinds ≡ x.kinds → Moves x z u

module _ (K : List Token) (x z : Declaring) (u : Token) where
  abbrev Goes : Stepped → Type 0
  Goes s = s ≡ on z → Moves x z u

  over-goes : Goes over
  over-goes e = let w : ◌≡◌ {A = ℕ} 0 1 = cc in absurd (omega arith)

  fails-goes : (why : ℕ) → Goes (fails why)
  fails-goes why e = let w : ◌≡◌ {A = ℕ} 0 1 = cc in absurd (omega arith)

  past-goes : (y : Declaring) → same u kind_word ≡ false → naming y.phase ≡ false → starting y.phase ≡ false → y.kinds ≡ x.kinds →
      Goes (on y)
  past-goes y h n f k e =
      let same : y ≡ z = cc in
      past h (ap (λ (d : Declaring). naming d.phase) (sym same) ∙ n) (ap (λ (d : Declaring). starting d.phase) (sym same) ∙ f)
      (ap (λ (d : Declaring). d.kinds) (sym same) ∙ k)

  -- The mark c, or what comes where it does not stand.
  mark-goes : (c : ℕ) (p : Phase) (s : Stepped) → naming p ≡ false → starting p ≡ false → Goes s → Goes (cond (same u (mark c)) (go_to p x) s)
  mark-goes c p s n f more =
      choice Goes (same u (mark c)) (go_to p x) s
      (λ h. past-goes _ (ap (λ v. same v kind_word) (same-eq u (mark c) h) ∙ mark-no_kind c) n f refl) (λ h. more)

  kind-goes : (s : Stepped) → Goes s → Goes (cond (same u kind_word) (go_to at_kind x) s)
  kind-goes s more =
      choice Goes (same u kind_word) (go_to at_kind x) s
      (λ h e.
      let same : record { phase = at_kind; kinds = x.kinds; names = x.names; done = x.done; last = x.last } ≡ z = cc in
      to_name h (ap (λ (d : Declaring). d.phase) (sym same)) (ap (λ (d : Declaring). d.kinds) (sym same)))
      (λ h. more)

  word-goes : (why : ℕ) → word_name_why x.names u ≡ why → Goes (step_word x u why)
  word-goes zero h = past-goes _ (identifier-no_kind u (name-fits 5 6 7 most_words x.names u h).identifier) refl refl refl
  word-goes (suc why) h = fails-goes (suc why)

  place-goes : (why : ℕ) → place_why K (places_last x.last) u ≡ why → Goes (step_place x (index_in u K) why)
  place-goes zero h = past-goes _ (identifier-no_kind u (place-fits K (places_last x.last) u h).identifier) refl refl refl
  place-goes (suc why) h = fails-goes (suc why)

  pub moves : (p : Phase) → naming p ≡ false → Goes (step_in K x u p)
  moves at_start n = kind-goes _ (fails-goes kind_due)
  moves at_kind n = absurd (true≢false n)
  moves behind_kind n = mark-goes equals at_word _ refl refl (kind-goes over over-goes)
  moves at_word n = word-goes (word_name_why x.names u) refl
  moves behind_word n = mark-goes opening at_place _ refl refl (mark-goes bar at_word _ refl refl (kind-goes over over-goes))
  moves at_place n = place-goes (place_why K (places_last x.last) u) refl
  moves behind_place n = mark-goes comma at_place _ refl refl (mark-goes closing behind_places _ refl refl (fails-goes place_end))
  moves behind_places n = mark-goes bar at_word _ refl refl (kind-goes over over-goes)

pub name-due : (p : Phase) → naming p ≡ true → p ≡ at_kind
name-due at_start e = absurd (false≢true e)
name-due at_kind e = refl
name-due behind_kind e = absurd (false≢true e)
name-due at_word e = absurd (false≢true e)
name-due behind_word e = absurd (false≢true e)
name-due at_place e = absurd (false≢true e)
name-due behind_place e = absurd (false≢true e)
name-due behind_places e = absurd (false≢true e)

-- ---- all tokens

moves_on : (x z : Declaring) (u : Token) → Moves x z u → starting z.phase ≡ false
moves_on x z u (to_name h p k) = ap starting p
moves_on x z u (past h p f k) = f

named-on : (x z : Declaring) (why : ℕ) → step_kind x why ≡ on z → starting z.phase ≡ false
named-on x z zero e =
    let same : record { phase = behind_kind; kinds = suc x.kinds; names = x.names; done = x.done; last = x.last } ≡ z = cc in
    ap (λ (d : Declaring). starting d.phase) (sym same)
named-on x z (suc why) e = let w : ◌≡◌ {A = ℕ} 0 1 = cc in absurd (omega arith)

step-on : (K : List Token) (x z : Declaring) (u : Token) (b : Bool) → naming x.phase ≡ b → step K x u ≡ on z → starting z.phase ≡ false
step-on K x z u true q e =
    named-on x z (kind_name_why (take x.kinds K) u) (subst (λ (p : Phase). step_in K x u p ≡ on z) (name-due x.phase q) e)
step-on K x z u false q e = moves_on x z u (moves K x z u x.phase q e)

pub walk-later : (K us : List Token) (x y : Declaring) → starting x.phase ≡ false → walk K x us ≡ on y → starting y.phase ≡ false
walk-later K [] x y h w =
    let same : x ≡ y = cc in
    ap (λ (d : Declaring). starting d.phase) (sym same) ∙ h
walk-later K (u ∷ us) x y h w = go (λ z. walk-later K us z y) (step K x u) refl w
  where
    go : ((z : Declaring) → starting z.phase ≡ false → walk K z us ≡ on y → starting y.phase ≡ false) → (s : Stepped) → step K x u ≡ s →
        and_on s (λ z. walk K z us) ≡ on y → starting y.phase ≡ false
    go more (on z) e w = more z (step-on K x z u (naming x.phase) refl e) w
    go more over e w = let z : ◌≡◌ {A = ℕ} 0 1 = cc in absurd (omega arith)
    go more (fails why) e w = let z : ◌≡◌ {A = ℕ} 0 1 = cc in absurd (omega arith)

-- ---- the kinds to come

pub coming_few : (K : List Token) (b : Bool) (n : ℕ) (us : List Token) → Coming K b n us → n ≤ length K
coming_few K true n us t = t.few
coming_few K false n us t = t.few

pub coming_move : (K : List Token) (x z : Declaring) (u : Token) (us : List Token) → Moves x z u → Left K x.kinds (u ∷ us) →
    Coming K (naming z.phase) z.kinds us
coming_move K x z u us (to_name h p k) t =
    subst (λ (q : Phase). Coming K (naming q) z.kinds us) (sym p)
    (subst (λ m. Naming K m us) (sym k) (left-kind K x.kinds u us h t))
coming_move K x z u us (past h p f k) t =
    subst (λ (c : Bool). Coming K c z.kinds us) (sym p) (subst (λ m. Left K m us) (sym k) (left_skip K x.kinds u us h t))

pub coming_step : (K : List Token) (x z : Declaring) (u : Token) (us : List Token) → Coming K (naming x.phase) x.kinds (u ∷ us) →
    step K x u ≡ on z → Coming K (naming z.phase) z.kinds us
coming_step K x z u us t e = go (naming x.phase) refl t
  where
    named : (why : ℕ) → kind_name_why (take x.kinds K) u ≡ why → Naming K x.kinds (u ∷ us) → step_kind x why ≡ on z →
        Coming K (naming z.phase) z.kinds us
    named (suc why) h t e = let w : ◌≡◌ {A = ℕ} 0 1 = cc in absurd (omega arith)
    named zero h t e =
        let same : record { phase = behind_kind; kinds = suc x.kinds; names = x.names; done = x.done; last = x.last } ≡ z = cc in
        subst (λ (d : Declaring). Coming K (naming d.phase) d.kinds us) same (left-named K x.kinds u us h t)

    go : (b : Bool) → naming x.phase ≡ b → Coming K b x.kinds (u ∷ us) → Coming K (naming z.phase) z.kinds us
    go true q t =
        named (kind_name_why (take x.kinds K) u) refl t (subst (λ (p : Phase). step_in K x u p ≡ on z) (name-due x.phase q) e)
    go false q t = coming_move K x z u us (moves K x z u x.phase q e) t
