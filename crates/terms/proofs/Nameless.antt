-- Nameless: a term with its names opened has the symbols and the sort that it had, and no names.
--
--   Entry S s e, EntryAll S ks es    e is a term of sort s without names, es are terms of the sorts ks without names
--   fit_nameless                     it fits what the term fits
--   nameless-entry                   .. and is an entry of the term's sort
--   none_parts, none_append          two lists in a row are empty exactly where both are
--
use mathlib.Core.Path.{◌≡◌, refl, sym, ap, ap₂}
use mathlib.Core.Bool.{◌&&◌}
use mathlib.Core.List.{List, [], ◌∷◌, ◌++◌, nil≢cons}
use Prim.Native.Nat.{ℕ}
use lib.Dec.{eqb}
use Rattle.terms.specs.Signature.{Signature, arguments}
use Rattle.terms.specs.Term.{Term, any, var, app, Terms, nil, cons, Ground, gapp, Grounds, gnil, gcons, Sorted, SortedAll, names, names_all, Linear}
use Rattle.terms.specs.Book.{nameless, nameless_all}
use Rattle.terms.proofs.Fit.{fit, fit_all}

abbrev pub Entry : Signature → ℕ → Term → Type 0
Entry S s e = Sorted S e s × (names e ≡ [])

abbrev pub EntryAll : Signature → List ℕ → Terms → Type 0
EntryAll S ks es = SortedAll S es ks × (names_all es ≡ [])

pub none_parts : (l m : List ℕ) → l ++ m ≡ [] → (l ≡ []) × (m ≡ [])
none_parts [] m e = (refl, e)
none_parts (n ∷ l) m e = absurd (nil≢cons (sym e))

pub none_append : (l m : List ℕ) → l ≡ [] → m ≡ [] → l ++ m ≡ []
none_append l m e h = rw e h

-- Where no name stands, none stands twice.
pub entry-linear : (S : Signature) (s : ℕ) (e : Term) → Entry S s e → Sorted S e s × Linear e
entry-linear S s e h = (h.0, rw h.1 tt)

mutual
  pub fit_nameless : (t : Term) (g : Ground) → fit (nameless t) g ≡ fit t g
  fit_nameless any g = refl
  fit_nameless (var n) g = refl
  fit_nameless (app f ts) (gapp h gs) = ap (λ b. eqb f h && b) (fit_nameless_all ts gs)

  fit_nameless_all : (ts : Terms) (gs : Grounds) → fit_all (nameless_all ts) gs ≡ fit_all ts gs
  fit_nameless_all nil gs = refl
  fit_nameless_all (cons t ts) gnil = refl
  fit_nameless_all (cons t ts) (gcons g gs) = ap₂ ◌&&◌ (fit_nameless t g) (fit_nameless_all ts gs)

mutual
  pub nameless-entry : (S : Signature) (t : Term) (s : ℕ) → Sorted S t s → Entry S s (nameless t)
  nameless-entry S any s h = (tt, refl)
  nameless-entry S (var n) s h = (tt, refl)
  nameless-entry S (app f ts) s h =
      let r = nameless_entry_all S ts (arguments S f) h.2 in
      ((h.0, h.1, r.0), r.1)

  nameless_entry_all : (S : Signature) (ts : Terms) (ks : List ℕ) → SortedAll S ts ks → EntryAll S ks (nameless_all ts)
  nameless_entry_all S nil [] h = (tt, refl)
  nameless_entry_all S nil (k ∷ ks) h = absurd h
  nameless_entry_all S (cons t ts) [] h = absurd h
  nameless_entry_all S (cons t ts) (k ∷ ks) h =
      let r = nameless-entry S t k h.0 in
      let q = nameless_entry_all S ts ks h.1 in
      ((r.0, q.0), none_append (names (nameless t)) (names_all (nameless_all ts)) r.1 q.1)
