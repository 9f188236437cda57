-- Settled: what is listed for a fruitful pattern is document 01's listing over the settled signature.
--
--   arguments-settled, count-settled, sorts-settled    the settled signature has the same argument sorts, symbols and sorts
--   bare-settled         .. so a symbol with every place open is the same
--   result-settled       a productive symbol keeps its result sort
--   result_barren        any other has the lowest empty sort
--   settled_well_formed  the settled signature is well_formed
--   barren_empty         the settled result sort of a symbol that is not productive is empty
--   productive-ground    .. and that of a productive symbol has a ground term
--   barren_settled       a symbol is not productive exactly where its settled result sort is the lowest empty sort
--   inhabited-settled    a sort is inhabited exactly where a productive symbol has it as settled result sort
--   is_other S f h        h is another symbol of f's result sort
--   others-settled       the other symbols of a productive symbol's sort are those of the signature that are productive
--   open_fruitful, open_every-fruitful    open places are fruitful
--   listing-settled      document 01's listing over the settled signature keeps the fruitful entries
--   sorted-settled       a fruitful term has its sort over the settled signature
--   fruitful-listing     what is listed for a fruitful pattern
--
use mathlib.Core.Path.{◌≡◌, refl, sym, ◌∙◌, ap, ap₂, subst}
use mathlib.Core.Bool.{Bool, true, false, not, ◌&&◌, cond, true≢false}
use mathlib.Core.List.{List, [], ◌∷◌, ◌++◌, map}
use mathlib.Core.Logic.{◌↔◌}
use mathlib.Core.Option.{Option, some, none}
use Prim.Native.Nat.{ℕ, ◌<◌}
use native.Mathlib.Omega.{arith}
use lib.Dec.{eqb}
use lib.ListN.{length, length-map, get_or-map}
use borrow.Author.Tests.{ne_eqb}
use Rattle.terms.specs.Lists.{keep, range}
use Rattle.terms.specs.Signature.{Symbol, Signature, no_symbol, symbol, result, arguments, WellFormed}
use Rattle.terms.specs.Term.{Term, any, var, app, Terms, nil, cons, gapp, Sorted, SortedAll, SortedG}
use Rattle.terms.specs.Inhabited.{HasGround, Empty}
use Rattle.terms.specs.Listing.{others, all_open, bare, open_every, listing, listing_all}
use Rattle.terms.specs.Emptiness.{covered, reached, inhabited, first_empty}
use Rattle.terms.specs.Productive.{productive, fruitful, fruitful_all, fitted, listing_of, settled_symbol, settled_by, settled}
use Rattle.terms.specs.Laws.{FruitfulListing}
use Rattle.terms.proofs.Bools.{and_parts, and_both, and_always, and_fails}
use Rattle.terms.proofs.All.{all_implies, all_map, all-range, map_same}
use Rattle.terms.proofs.Keep.{keep-keep, keep_same, keep_agree, keep-maps}
use Rattle.terms.proofs.Inhabited.{emptiness_is_exact, inhabited-ground, ground-inhabited, ground-productive, productive-result, all-productive}
use Rattle.terms.proofs.Listing.{listing_of-fitted, listing_of_none}

-- ---- a symbol of the settled signature

module _ (S : Signature) where
  symbol-moved : (e f : ℕ) → symbol (settled_by S (some e)) f ≡ settled_symbol S e (symbol S f)
  symbol-moved e f = get_or-map (settled_symbol S e) S.symbols f no_symbol

  pub arguments-settled : (f : ℕ) → arguments (settled S) f ≡ arguments S f
  arguments-settled f = go (first_empty S)
    where
      go : (o : Option ℕ) → arguments (settled_by S o) f ≡ arguments S f
      go none = refl
      go (some e) = ap (λ (k : Symbol). k.arguments) (symbol-moved e f)

  pub bare-settled : (f : ℕ) → bare (settled S) f ≡ bare S f
  bare-settled f = ap (λ ks. app f (all_open ks)) (arguments-settled f)

  pub result-settled : (f : ℕ) → productive S f ≡ true → result (settled S) f ≡ result S f
  result-settled f p = go (first_empty S)
    where
      go : (o : Option ℕ) → result (settled_by S o) f ≡ result S f
      go none = refl
      go (some e) = ap (λ (k : Symbol). k.result) (symbol-moved e f) ∙ ap (λ b. cond b (result S f) e) p

  pub result_barren : (e f : ℕ) → first_empty S ≡ some e → productive S f ≡ false → result (settled S) f ≡ e
  result_barren e f q n =
      ap (λ o. result (settled_by S o) f) q ∙ ap (λ (k : Symbol). k.result) (symbol-moved e f) ∙ ap (λ b. cond b (result S f) e) n

  pub count-settled : length (settled S).symbols ≡ length S.symbols
  count-settled = go (first_empty S)
    where
      go : (o : Option ℕ) → length (settled_by S o).symbols ≡ length S.symbols
      go none = refl
      go (some e) = length-map S.symbols (settled_symbol S e)

  pub sorts-settled : (settled S).sorts ≡ S.sorts
  sorts-settled = go (first_empty S)
    where
      go : (o : Option ℕ) → (settled_by S o).sorts ≡ S.sorts
      go none = refl
      go (some e) = refl

module _ (S : Signature) (wf : WellFormed S) where
  pub settled_well_formed : WellFormed (settled S)
  settled_well_formed = go (first_empty S) refl
    where
      either : (r e : ℕ) (b : Bool) → r < S.sorts → e < S.sorts → cond b r e < S.sorts
      either r e true h low = h
      either r e false h low = low

      go : (o : Option ℕ) → first_empty S ≡ o → WellFormed (settled_by S o)
      go none q = wf
      go (some e) q =
          let low = ((emptiness_is_exact S wf).found e q).0 in
          all_map _ (settled_symbol S e) S.symbols
          (all_implies _ _ (λ k h. (either k.result e (covered k.arguments (reached S S.sorts)) h.0 low, h.1)) S.symbols wf)

  -- Where a symbol is not productive there is an empty sort, the lowest of which it has as result sort.
  barren_lowest : (f : ℕ) → f < length S.symbols → productive S f ≡ false → (e : ℕ) × (first_empty S ≡ some e) × (result (settled S) f ≡ e)
  barren_lowest f b n = go (first_empty S) refl
    where
      go : (o : Option ℕ) → first_empty S ≡ o → (e : ℕ) × (first_empty S ≡ some e) × (result (settled S) f ≡ e)
      go none q = absurd (true≢false (sym (all-productive S wf ((emptiness_is_exact S wf).missed.0 q) f b) ∙ n))
      go (some e) q = (e, q, result_barren S e f q n)

  pub barren_empty : (f : ℕ) → f < length S.symbols → productive S f ≡ false → Empty S (result (settled S) f)
  barren_empty f b n = let w = barren_lowest f b n in subst (Empty S) (sym w.2) ((emptiness_is_exact S wf).found w.0 w.1).1

  pub productive-ground : (f : ℕ) → f < length S.symbols → productive S f ≡ true → HasGround S (result (settled S) f)
  productive-ground f b p = subst (HasGround S) (sym (result-settled S f p)) (inhabited-ground S (result S f) (productive-result S wf f b p))

  pub barren_settled : (f : ℕ) → f < length S.symbols →
      (productive S f ≡ false) ↔ ((e : ℕ) × (first_empty S ≡ some e) × (result (settled S) f ≡ e))
  barren_settled f b = (barren_lowest f b, λ w. go w (productive S f) refl)
    where
      go : (e : ℕ) × (first_empty S ≡ some e) × (result (settled S) f ≡ e) → (c : Bool) → productive S f ≡ c → productive S f ≡ false
      go (e, q, r) true p =
          let g = subst (HasGround S) r (productive-ground f b p) in
          absurd (((emptiness_is_exact S wf).found e q).1 g.0 g.1)
      go w false p = p

  pub inhabited-settled : (s : ℕ) →
      (inhabited S s ≡ true) ↔ ((f : ℕ) × (f < length S.symbols) × (productive S f ≡ true) × (result (settled S) f ≡ s))
  inhabited-settled s = (λ i. symbol-of (inhabited-ground S s i), back)
    where
      symbol-of : HasGround S s → (f : ℕ) × (f < length S.symbols) × (productive S f ≡ true) × (result (settled S) f ≡ s)
      symbol-of (gapp f gs, k) = let p = ground-productive S wf f gs k.2 in (f, k.0, p, result-settled S f p ∙ k.1)

      back : (f : ℕ) × (f < length S.symbols) × (productive S f ≡ true) × (result (settled S) f ≡ s) → inhabited S s ≡ true
      back (f, b, p, r) = let g = productive-ground f b p in ground-inhabited S wf g.0 s (subst (SortedG S g.0) r g.1)

-- ---- the other symbols of a sort

-- The test by which `others` keeps h beside f.
abbrev is_other : Signature → ℕ → ℕ → Bool
is_other S f h = not (eqb h f) && eqb (result S h) (result S f)

module _ (S : Signature) (wf : WellFormed S) (f : ℕ) (below : f < length S.symbols) (p : productive S f ≡ true) where
  barren_apart : (h : ℕ) → h < length S.symbols → productive S h ≡ false → eqb (result (settled S) h) (result (settled S) f) ≡ false
  barren_apart h b n = ne_eqb (result (settled S) h) (result (settled S) f) apart
    where
      apart : result (settled S) h ≡ result (settled S) f → ⊥
      apart q = let g = productive-ground S wf f below p in barren_empty S wf h b n g.0 (subst (SortedG S g.0) (sym q) g.1)

  other-settled : (h : ℕ) → h < length S.symbols → is_other (settled S) f h ≡ (is_other S f h && productive S h)
  other-settled h b = go (productive S h) refl
    where
      go : (d : Bool) → productive S h ≡ d → is_other (settled S) f h ≡ (is_other S f h && productive S h)
      go true e =
          ap₂ (λ x y. not (eqb h f) && eqb x y) (result-settled S h e) (result-settled S f p) ∙ sym (and_always (is_other S f h) (productive S h) e)
      go false e = and_fails (not (eqb h f)) (is_other S f h) _ (productive S h) (barren_apart h b e) e

  pub others-settled : others (settled S) f ≡ keep (productive S) (others S f)
  others-settled =
      let n = length S.symbols in
      ap (λ m. keep (is_other (settled S) f) (range 0 m)) (count-settled S)
      ∙ keep_agree (is_other (settled S) f) _ (range 0 n) (all_implies _ _ (λ h b. other-settled h (omega arith)) (range 0 n) (all-range 0 n))
      ∙ sym (keep-keep (productive S) (is_other S f) (range 0 n))

-- ---- listings

pub open_fruitful : (S : Signature) (ks : List ℕ) → fruitful_all S (all_open ks) ≡ true
open_fruitful S [] = refl
open_fruitful S (k ∷ ks) = open_fruitful S ks

pub open_every-fruitful : (S : Signature) (ts : Terms) → fruitful_all S (open_every ts) ≡ true
open_every-fruitful S nil = refl
open_every-fruitful S (cons t ts) = open_every-fruitful S ts

module _ (S : Signature) (wf : WellFormed S) where
  mutual
    pub listing-settled : (p : Term) (s : ℕ) → Sorted S p s → fruitful S p ≡ true → listing (settled S) p ≡ keep (fruitful S) (listing S p)
    listing-settled any s h e = refl
    listing-settled (var n) s h e = refl
    listing-settled (app f ts) s h e =
        let r = and_parts (productive S f) (fruitful_all S ts) e in
        ap₂ (λ l m. l ++ map (app f) m)
        (map_same (bare (settled S)) (bare S) (others (settled S) f) (bare-settled S) ∙ ap (map (bare S)) (others-settled S wf f h.0 r.0))
        (listing_settled_all ts (arguments S f) h.2 r.1)
        ∙ sym (keep-maps (fruitful S) (bare S) (app f) (productive S) (fruitful_all S) (others S f) (listing_all S ts)
        (λ h. and_always (productive S h) _ (open_fruitful S (arguments S h))) (λ es. ap (λ b. b && fruitful_all S es) r.0))

    listing_settled_all : (ts : Terms) (ks : List ℕ) → SortedAll S ts ks → fruitful_all S ts ≡ true →
        listing_all (settled S) ts ≡ keep (fruitful_all S) (listing_all S ts)
    listing_settled_all nil ks h e = refl
    listing_settled_all (cons t ts) [] h e = absurd h
    listing_settled_all (cons t ts) (k ∷ ks) h e =
        let r = and_parts (fruitful S t) (fruitful_all S ts) e in
        ap₂ (λ l m. map (λ e. cons e (open_every ts)) l ++ map (cons t) m)
        (listing-settled t k h.0 r.0) (listing_settled_all ts ks h.1 r.1)
        ∙ sym (keep-maps (fruitful_all S) (λ e. cons e (open_every ts)) (cons t) (fruitful S) (fruitful_all S) (listing S t) (listing_all S ts)
        (λ e. and_always (fruitful S e) _ (open_every-fruitful S ts)) (λ es. ap (λ b. b && fruitful_all S es) r.0))

  mutual
    pub sorted-settled : (t : Term) (s : ℕ) → Sorted S t s → fruitful S t ≡ true → Sorted (settled S) t s
    sorted-settled any s h e = tt
    sorted-settled (var n) s h e = tt
    sorted-settled (app f ts) s h e =
        let r = and_parts (productive S f) (fruitful_all S ts) e in (
          subst (λ n. f < n) (sym (count-settled S)) h.0,
          result-settled S f r.0 ∙ h.1,
          subst (SortedAll (settled S) ts) (sym (arguments-settled S f)) (sorted_settled_all ts (arguments S f) h.2 r.1),
        )

    sorted_settled_all : (ts : Terms) (ks : List ℕ) → SortedAll S ts ks → fruitful_all S ts ≡ true → SortedAll (settled S) ts ks
    sorted_settled_all nil [] h e = tt
    sorted_settled_all nil (k ∷ ks) h e = absurd h
    sorted_settled_all (cons t ts) [] h e = absurd h
    sorted_settled_all (cons t ts) (k ∷ ks) h e =
        let r = and_parts (fruitful S t) (fruitful_all S ts) e in
        (sorted-settled t k h.0 r.0, sorted_settled_all ts ks h.1 r.1)

  -- Only a variable may be fruitful and have an empty sort: it has no entry.
  empty-settled : (p : Term) (s : ℕ) → Sorted S p s → fruitful S p ≡ true → inhabited S s ≡ false → listing (settled S) p ≡ []
  empty-settled any s h e n = refl
  empty-settled (var m) s h e n = refl
  empty-settled (app f ts) s h e n =
      let p = (and_parts (productive S f) (fruitful_all S ts) e).0 in
      absurd (true≢false (sym (productive-result S wf f h.0 p) ∙ ap (inhabited S) h.1 ∙ n))

pub fruitful-listing : FruitfulListing
fruitful-listing S p s wf h e = (go (inhabited S s) refl, sorted-settled S wf p s h e)
  where
    go : (b : Bool) → inhabited S s ≡ b → listing_of S s p ≡ listing (settled S) p
    go true i =
        listing_of-fitted S s p (and_both (inhabited S s) (fruitful S p) i e)
        ∙ keep_same (fitted S s) (fruitful S) (listing S p) (λ t. ap (λ b. b && fruitful S t) i)
        ∙ sym (listing-settled S wf p s h e)
    go false n = listing_of_none S s p n ∙ sym (empty-settled S wf p s h e n)
