-- Alike: readings of the same tokens by different kinds, and faults that are faults whatever kinds there are.
--
--   Alike x x'               what was read is the same but for the kinds of places
--   exact p                  in the phase p the kinds do not matter
--   Like b s s'              the steps s and s' are alike; b: also where a token is at fault
--   alike                    one token leads to such steps
--   Barred y u               the reading stops at u behind what is like y, whatever kinds there are
--   barred_exact, barred_place     where it does
--   PlaceWrong, place-wrong  why a token is no kind of a place
--   no_other                 no good vocabulary begins with the tokens up to such a fault
--
use mathlib.Core.Path.{◌≡◌, refl, sym, ◌∙◌, ap, ap₂, subst}
use mathlib.Core.Bool.{Bool, true, false, cond, true≢false}
use mathlib.Core.List.{List, [], ◌∷◌, ◌++◌, map}
use mathlib.Core.Logic.{◌⊎◌, inl, inr}
use Prim.Native.Nat.{ℕ, zero, suc, ◌<◌, ◌≤◌}
use native.Mathlib.Omega.{arith}
use lib.Dec.{ltb, leb}
use lib.ListN.{length, take, drop, length-append}
use borrow.Author.Tests.{ltb-false, leb-false}
use Rattle.wire.specs.Vocabulary.{most_kinds}
use Rattle.texts.specs.Lexemes.{Token, Lexeme}
use Rattle.texts.specs.Names.{same, kind_word, mark, opening, closing, comma, bar, equals, most_name, is_identifier, index_in}
use Rattle.texts.specs.Lexicon.{kind_names, lexicon_tokens, most_places, GoodLexicon}
use Rattle.texts.specs.Faults.{parsed, bad, long_name, kind_beyond, place_due, not_declared, many_places, kind_due}
use Rattle.texts.specs.LexiconReading.{kind_name_why, word_name_why, place_why, WordRow, Phase, at_start, at_kind, behind_kind, at_word, behind_word, at_place, behind_place, behind_places, Declaring, beginning, Stepped, on, over, fails, go_to, step_kind, step_word, places_last, grown, step_place, step_in, step, LexiconRead, stepped, read_rows}
use Rattle.texts.specs.Laws.{tokens_of, lexicon_read, LexiconFirst}
use Rattle.texts.proofs.Lookups.{index-le}
use Rattle.texts.proofs.LexiconsRead.{and_on, walk, rows-read}
use Rattle.texts.proofs.LexiconsExact.{place-fits}
use Rattle.texts.proofs.LexiconFaults.{Stuck, text_of, tokens-text, stuck-bad}

abbrev pub sizes : List WordRow → List ℕ
sizes rs = map (λ (r : WordRow). length r.places) rs

pub record Alike (x x' : Declaring) : Type 0 where
  pub phase : x'.phase ≡ x.phase
  pub kinds : x'.kinds ≡ x.kinds
  pub names : x'.names ≡ x.names
  pub last : sizes x'.last ≡ sizes x.last

abbrev pub exact : Phase → Bool
exact at_start = true
exact at_kind = false
exact behind_kind = true
exact at_word = true
exact behind_word = true
exact at_place = false
exact behind_place = true
exact behind_places = true

abbrev Like : Bool → Stepped → Stepped → Type 0
Like b (on z) (on z') = Alike z z'
Like b (on z) over = ⊥
Like true (on z) (fails why) = ⊥
Like false (on z) (fails why) = Unit {0}
Like b over (on z) = ⊥
Like b over over = Unit {0}
Like b over (fails why) = ⊥
Like true (fails why) (on z) = ⊥
Like false (fails why) (on z) = Unit {0}
Like b (fails why) over = ⊥
Like b (fails why) (fails why') = Unit {0}

grown-sizes : (k k' : ℕ) (l l' : List WordRow) → sizes l' ≡ sizes l → sizes (map (grown k') l') ≡ sizes (map (grown k) l)
grown-sizes k k' [] [] e = refl
grown-sizes k k' [] (r' ∷ l') e = let z : ◌≡◌ {A = ℕ} 0 1 = cc in absurd (omega arith)
grown-sizes k k' (r ∷ l) [] e = let z : ◌≡◌ {A = ℕ} 0 1 = cc in absurd (omega arith)
grown-sizes k k' (r ∷ l) (r' ∷ l') e =
    let first : length r'.places ≡ length r.places = cc in
    let rest : sizes l' ≡ sizes l = cc in
    ap₂ {C = List ℕ} ◌∷◌ (omega (arith, first, length-append r.places (k ∷ []), length-append r'.places (k' ∷ []))) (grown-sizes k k' l l' rest)

module _ (K K' : List Token) (x x' : Declaring) (h : Alike x x') (u : Token) where
  to : (p : Phase) → Like true (go_to p x) (go_to p x')
  to p = record { phase = refl; kinds = h.kinds; names = h.names; last = h.last }

  -- A choice by the same test.
  either : (t : Bool) (s s' r r' : Stepped) → Like true s s' → Like true r r' → Like true (cond t s r) (cond t s' r')
  either true s s' r r' a b = a
  either false s s' r r' a b = b

  turn : (c : ℕ) (p : Phase) (r r' : Stepped) → Like true r r' →
      Like true (cond (same u (mark c)) (go_to p x) r) (cond (same u (mark c)) (go_to p x') r')
  turn c p r r' b = either (same u (mark c)) (go_to p x) (go_to p x') r r' (to p) b

  kind_or : (r r' : Stepped) → Like true r r' → Like true (cond (same u kind_word) (go_to at_kind x) r) (cond (same u kind_word) (go_to at_kind x') r')
  kind_or r r' b = either (same u kind_word) (go_to at_kind x) (go_to at_kind x') r r' (to at_kind) b

  by_kind : (why why' : ℕ) → Like false (step_kind x why) (step_kind x' why')
  by_kind zero zero = record { phase = refl; kinds = ap suc h.kinds; names = h.names; last = h.last }
  by_kind zero (suc why') = tt
  by_kind (suc why) zero = tt
  by_kind (suc why) (suc why') = tt

  by_word : (why : ℕ) → Like true (step_word x u why) (step_word x' u why)
  by_word zero = record { phase = refl; kinds = h.kinds; names = ap (λ (N : List Token). N ++ (u ∷ [])) h.names; last = refl }
  by_word (suc why) = tt

  by_place : (k k' why why' : ℕ) → Like false (step_place x k why) (step_place x' k' why')
  by_place k k' zero zero = record { phase = refl; kinds = h.kinds; names = h.names; last = grown-sizes k k' x.last x'.last h.last }
  by_place k k' zero (suc why') = tt
  by_place k k' (suc why) zero = tt
  by_place k k' (suc why) (suc why') = tt

  alike : (p : Phase) → Like (exact p) (step_in K x u p) (step_in K' x' u p)
  alike at_start = kind_or (fails kind_due) (fails kind_due) tt
  alike at_kind = by_kind (kind_name_why (take x.kinds K) u) (kind_name_why (take x'.kinds K') u)
  alike behind_kind = turn equals at_word _ _ (kind_or over over tt)
  alike at_word =
      subst (λ (N : List Token). Like true (step_word x u (word_name_why x.names u)) (step_word x' u (word_name_why N u))) (sym h.names)
      (by_word (word_name_why x.names u))
  alike behind_word = turn opening at_place _ _ (turn bar at_word _ _ (kind_or over over tt))
  alike at_place =
      by_place (index_in u K) (index_in u K') (place_why K (places_last x.last) u) (place_why K' (places_last x'.last) u)
  alike behind_place = turn comma at_place _ _ (turn closing behind_places _ _ tt)
  alike behind_places = turn bar at_word _ _ (kind_or over over tt)

  alike-step : Like (exact x.phase) (step K x u) (step K' x' u)
  alike-step = subst (λ (p : Phase). Like (exact x.phase) (step K x u) (step_in K' x' u p)) (sym h.phase) (alike x.phase)

-- ---- where a reading stops whatever kinds there are

abbrev pub Barred : Declaring → Token → Type 0
Barred y u = (K' : List Token) (y' : Declaring) → Alike y y' → Stuck y' (step K' y' u)

pub barred_exact : (K : List Token) (y : Declaring) (u : Token) → exact y.phase ≡ true → Stuck y (step K y u) → Barred y u
barred_exact K y u e s K' y' h =
    go (step K y u) (step K' y' u) s (subst (λ (b : Bool). Like b (step K y u) (step K' y' u)) e (alike-step K K' y y' h u))
  where
    go : (r r' : Stepped) → Stuck y r → Like true r r' → Stuck y' r'
    go (on z) r' s l = absurd s
    go over (on z) s l = absurd l
    go over over s l = ap length h.names ∙ s
    go over (fails why) s l = absurd l
    go (fails why) (on z) s l = absurd l
    go (fails why) over s l = absurd l
    go (fails why) (fails why') s l = tt

-- Why a token is no kind of a place behind m others, where K are the kinds.
pub data PlaceWrong (K : List Token) (m : ℕ) (u : Token) : Type 0 where
  no_name : is_identifier u ≡ false → PlaceWrong K m u
  long : most_name < length u → PlaceWrong K m u
  full : most_places ≤ m → PlaceWrong K m u
  unknown : is_identifier u ≡ true → index_in u K ≡ length K → PlaceWrong K m u

pub place-wrong : (K : List Token) (m : ℕ) (u : Token) (why : ℕ) → place_why K m u ≡ suc why → PlaceWrong K m u
place-wrong K m u why e =
    go (is_identifier u) (leb (length u) most_name) (ltb (index_in u K) (length K)) (ltb m most_places) (ltb (length K) most_kinds) refl refl refl refl e
  where
    go : (b s c f g : Bool) → is_identifier u ≡ b → leb (length u) most_name ≡ s → ltb (index_in u K) (length K) ≡ c → ltb m most_places ≡ f →
        cond b (cond s (cond c (cond f 0 many_places) (cond g not_declared kind_beyond)) long_name) place_due ≡ suc why → PlaceWrong K m u
    go false s c f g p q r t e = no_name p
    go true false c f g p q r t e = long (omega (arith, leb-false (length u) most_name q))
    go true true false f g p q r t e = unknown p (omega (arith, ltb-false (index_in u K) (length K) r, index-le u K))
    go true true true false g p q r t e = full (omega (arith, ltb-false m most_places t))
    go true true true true g p q r t e = absurd (omega arith)

last-places : (l l' : List WordRow) → sizes l' ≡ sizes l → places_last l' ≡ places_last l
last-places [] [] e = refl
last-places [] (r' ∷ l') e = let z : ◌≡◌ {A = ℕ} 0 1 = cc in absurd (omega arith)
last-places (r ∷ l) [] e = let z : ◌≡◌ {A = ℕ} 0 1 = cc in absurd (omega arith)
last-places (r ∷ l) (r' ∷ l') e = cc

-- At a place, but for a kind that is not known.
pub barred_place : (y : Declaring) (u : Token) → y.phase ≡ at_place →
    (is_identifier u ≡ false) ⊎ ((most_name < length u) ⊎ (most_places ≤ places_last y.last)) → Barred y u
barred_place y u p w K' y' h =
    subst (λ (q : Phase). Stuck y' (step_in K' y' u q)) (sym (h.phase ∙ p))
    (go (place_why K' (places_last y'.last) u) refl w)
  where
    go : (why : ℕ) → place_why K' (places_last y'.last) u ≡ why →
        (is_identifier u ≡ false) ⊎ ((most_name < length u) ⊎ (most_places ≤ places_last y.last)) →
        Stuck y' (step_place y' (index_in u K') why)
    go (suc why) e w = tt
    go zero e (inl n) = let f = place-fits K' (places_last y'.last) u e in absurd (true≢false (sym f.identifier ∙ n))
    go zero e (inr (inl n)) = let f = place-fits K' (places_last y'.last) u e in absurd (omega (arith, f.short))
    go zero e (inr (inr n)) =
        let f = place-fits K' (places_last y'.last) u e in
        absurd (omega (arith, f.room, last-places y.last y'.last h.last))

-- ---- no good vocabulary begins so

module _ (K K' : List Token) (y : Declaring) (u : Token) (vs : List Token) (a : LexiconRead) (r : List Lexeme) (barred : Barred y u) where
  abbrev Goes : List Token → Type 0
  Goes us =
      (x x' : Declaring) (l : List Lexeme) → Alike x x' → walk K x us ≡ on y → tokens_of l ≡ us ++ (u ∷ vs) → read_rows K' x' l ≡ parsed a r → ⊥

  stops : (x x' : Declaring) (l : List Lexeme) → Alike x x' → on x ≡ on y → tokens_of l ≡ u ∷ vs → read_rows K' x' l ≡ parsed a r → ⊥
  stops x x' l h w t e =
      let same : x ≡ y = cc in
      let fault = stuck-bad K' x' u vs l (barred K' x' (subst (λ (z : Declaring). Alike z x') same h)) t in
      let no : parsed a r ≡ bad fault.0 = sym e ∙ fault.1 in
      let z : ◌≡◌ {A = ℕ} 0 1 = cc in omega arith

  more : (v : Token) (us : List Token) → Goes us → Goes (v ∷ us)
  more v us rest x x' [] h w t e = let z : ◌≡◌ {A = ℕ} 0 1 = cc in omega arith
  more v us rest x x' (c ∷ l) h w t e =
      let token : c.token ≡ v = cc in
      go (exact x.phase) (step K x v) (step K' x' c.token) w
      (subst (λ (q : Token). Like (exact x.phase) (step K x v) (step K' x' q)) (sym token) (alike-step K K' x x' h v)) e
    where
      go : (b : Bool) (s s' : Stepped) → and_on s (λ z. walk K z us) ≡ on y → Like b s s' →
          stepped (λ z. read_rows K' z l) K' x' (c ∷ l) s' ≡ parsed a r → ⊥
      go b (on z) (on z') w k e = rest z z' l k w (cc) e
      go b (on z) over w k e = k
      go b (on z) (fails why) w k e = let z : ◌≡◌ {A = ℕ} 0 1 = cc in omega arith
      go b over s' w k e = let z : ◌≡◌ {A = ℕ} 0 1 = cc in omega arith
      go b (fails why) s' w k e = let z : ◌≡◌ {A = ℕ} 0 1 = cc in omega arith

  goes : (us : List Token) → Goes us
  goes [] x x' l h w t e = stops x x' l h w t e
  goes (v ∷ us) x x' l h w t e = more v us (goes us) x x' l h w t e

pub no_other : (K us vs : List Token) (y : Declaring) (u : Token) → walk K beginning us ≡ on y → Barred y u →
    LexiconFirst GoodLexicon [] (us ++ (u ∷ vs)) → ⊥
no_other K us vs y u w b F =
    let l : List Lexeme = text_of (us ++ (u ∷ vs)) in
    let spelt : tokens_of l ≡ us ++ (u ∷ vs) = tokens-text (us ++ (u ∷ vs)) in
    let good =
    rows-read F.lexicon F.fine l F.rest (spelt ∙ F.tokens)
    (record { no_kind = F.no_kind; no_equals = F.no_equals; no_bar = F.no_bar; no_opening = F.no_opening }) in
    goes K (kind_names F.lexicon) y u vs (lexicon_read F.lexicon) (drop (length (lexicon_tokens F.lexicon)) l) b us beginning beginning l
    (record { phase = refl; kinds = refl; names = refl; last = refl }) w spelt good
