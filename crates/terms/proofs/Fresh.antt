-- Fresh: an entry that is not disjoint from a pattern has the pattern's word or is open, and an open entry leaves what every
-- other word and the pattern's word with its places open leave.
--
--   meeting-words    two words that are not disjoint are the same, and so nowhere disjoint at their places
--   open_disjoint    open places are nowhere disjoint from a pattern's terms
--   cut_open_all     the places of a listing, their names opened, are what open places leave against the pattern's
--   cut_open         what an open entry leaves
--
use mathlib.Core.Path.{◌≡◌, refl, sym, ap, ap₂, ◌∙◌}
use mathlib.Core.Bool.{false, not}
use mathlib.Core.List.{List, [], ◌∷◌, ◌++◌, map, map-map, map-append}
use Prim.Native.Nat.{ℕ}
use lib.Dec.{eqb}
use borrow.Author.Tests.{eqb-true, not-false}
use Rattle.terms.specs.Signature.{Signature, arguments}
use Rattle.terms.specs.Term.{any, app, Terms, nil, cons}
use Rattle.terms.specs.Listing.{others, all_open, bare, open_every, listing, listing_all}
use Rattle.terms.specs.Book.{nameless, nameless_all, disjoint, disjoint_all, cut, cut_all}
use Rattle.terms.proofs.Bools.{or_parts}
use Rattle.terms.proofs.All.{all_always, map_agree}

pub meeting-words : (f h : ℕ) (es ps : Terms) → disjoint (app f es) (app h ps) ≡ false → (f ≡ h) × (disjoint_all es ps ≡ false)
meeting-words f h es ps d =
    let r = or_parts (not (eqb f h)) (disjoint_all es ps) d in (eqb-true f h (not-false (eqb f h) r.0), r.1)

pub open_disjoint : (ts : Terms) → disjoint_all (open_every ts) ts ≡ false
open_disjoint nil = refl
open_disjoint (cons t ts) = open_disjoint ts

-- Open places have no name to open.
open_nameless : (ks : List ℕ) → nameless_all (all_open ks) ≡ all_open ks
open_nameless [] = refl
open_nameless (k ∷ ks) = ap (cons any) (open_nameless ks)

open_every-nameless : (ts : Terms) → nameless_all (open_every ts) ≡ open_every ts
open_every-nameless nil = refl
open_every-nameless (cons t ts) = ap (cons any) (open_every-nameless ts)

-- Two ways around a square of functions.
map_square : {A B C D : Type 0} (g : B → D) (f : A → B) (k : C → D) (h : A → C) → ((x : A) → g (f x) ≡ k (h x)) → (l : List A) →
    map g (map f l) ≡ map k (map h l)
map_square g f k h e l = map-map g f l ∙ map_agree _ _ l (all_always _ e l) ∙ sym (map-map k h l)

pub cut_open_all : (S : Signature) (ts : Terms) → map nameless_all (listing_all S ts) ≡ cut_all S (open_every ts) ts
cut_open_all S nil = refl
cut_open_all S (cons t ts) =
    map-append nameless_all (map (λ e. cons e (open_every ts)) (listing S t)) (map (cons t) (listing_all S ts))
    ∙ ap₂ (λ l m. l ++ m)
    (map_square nameless_all (λ e. cons e (open_every ts)) (λ c. cons c (open_every ts)) nameless
    (λ e. ap (cons (nameless e)) (open_every-nameless ts)) (listing S t))
    (map_square nameless_all (cons t) (cons (nameless t)) nameless_all (λ es. refl) (listing_all S ts)
    ∙ ap (map (cons (nameless t))) (cut_open_all S ts))

pub cut_open : (S : Signature) (f : ℕ) (ps : Terms) →
    cut S any (app f ps) ≡ map (bare S) (others S f) ++ map (app f) (cut_all S (open_every ps) ps)
cut_open S f ps =
    map-append nameless (map (bare S) (others S f)) (map (app f) (listing_all S ps))
    ∙ ap₂ (λ l m. l ++ m)
    (map-map nameless (bare S) (others S f)
    ∙ map_agree _ _ (others S f) (all_always _ (λ h. ap (app h) (open_nameless (arguments S h))) (others S f)))
    (map_square nameless (app f) (app f) nameless_all (λ es. refl) (listing_all S ps) ∙ ap (map (app f)) (cut_open_all S ps))
