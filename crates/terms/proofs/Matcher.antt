-- Matcher: the matcher finds a filling exactly where there is one, and that one.
--
--   match_name-new, match_app, match_cons    the matcher's steps
--   matcher_finds             it finds the filling that turns the pattern into the ground term
--   matcher-sound             what it finds is such a filling
--   matcher_is_exact          the two together
--
use mathlib.Core.Path.{◌≡◌, refl, sym, ◌∙◌, ap, ap₂, subst}
use mathlib.Core.Bool.{Bool, true, false, cond}
use mathlib.Core.List.{List, [], ◌∷◌, ◌++◌, append-nil, append_assoc, map-append}
use mathlib.Core.Option.{Option, some, none}
use Prim.Native.Nat.{ℕ, ◌+◌, ◌≤◌}
use native.Mathlib.Omega.{arith}
use lib.Dec.{eqb}
use lib.ListN.{length, take, drop, length-drop, length-append}
use lib.Seq.{take-add, take_all, drop_at, append_snoc}
use borrow.Author.Tests.{eqb-true}
use Rattle.terms.specs.Lists.{occurs, distinct}
use Rattle.terms.specs.Signature.{Signature}
use Rattle.terms.specs.Term.{Term, any, var, app, Terms, nil, cons, Ground, gapp, Grounds, gnil, gcons, SortedG, Sorted, names, names_all, open_sorts, openings, openings_all}
use Rattle.terms.specs.Matcher.{same, with_open, with_name, match_name, match_from, match_all, matcher, no_filling, MatcherIsExact}
use Rattle.terms.specs.Filling.{Binding, Filling, value_of, fill_from, fill_all, fill, SortedEach, IsFilling, TurnsInto}
use Rattle.terms.proofs.Bools.{eqb_refl}
use Rattle.terms.proofs.Distinct.{add_name, add_names, add_names_append, add_names_none, none_twice_distinct}
use Rattle.terms.proofs.Term.{same_true, same_refl, length-open_sorts}
use Rattle.terms.proofs.Binding.{keys_of, bind, given, keys-given, value-given, value_append_known, value_append_new, given-values}
use Rattle.terms.proofs.Fill.{sorted_each_length, Bound, bound-sorted, placed-sorted}

-- What the matcher does, case by case.

match_name-known : (n : ℕ) (g : Ground) (f : Filling) → occurs n (keys_of f.named) ≡ true → value_of f.named n ≡ g → match_name n g f ≡ some f
match_name-known n g f o e = rw (o, match_name) (rw (e, same_refl g))

pub match_name-new : (n : ℕ) (g : Ground) (f : Filling) → occurs n (keys_of f.named) ≡ false → match_name n g f ≡ some (with_name f n g)
match_name-new n g f o = rw (o, match_name)

pub match_app : (k h : ℕ) (ts : Terms) (gs : Grounds) (f : Filling) → eqb k h ≡ true → match_from (app k ts) (gapp h gs) f ≡ match_all ts gs f
match_app k h ts gs f e = ap (λ b. elim b as (λ c. Option Filling) [ true ↦ match_all ts gs f | false ↦ none ]) e

pub match_cons :
    (t : Term) (ts : Terms) (g : Ground) (gs : Grounds) (f h : Filling) → match_from t g f ≡ some h →
    match_all (cons t ts) (gcons g gs) f ≡ match_all ts gs h
match_cons t ts g gs f h e = ap (λ o. elim o as (λ c. Option Filling) [ none ↦ none | some f' ↦ match_all ts gs f' ]) e

-- Finding: the part of bs that a reading from left to right has gathered, and the matcher's step on it.

abbrev part : List Binding → List ℕ → List Ground → Filling
part bs ks gs = record { named = given (value_of bs) ks; opened = gs }

match_name-part : (n : ℕ) (bs : List Binding) (ks : List ℕ) (os : List Ground) → match_name n (value_of bs n) (part bs ks os) ≡ some (part bs (add_name ks n) os)
match_name-part n bs ks os = go (occurs n ks) refl
  where
    go : (b : Bool) → occurs n ks ≡ b → match_name n (value_of bs n) (part bs ks os) ≡ some (part bs (cond b ks (ks ++ (n ∷ []))) os)
    go true e = match_name-known n (value_of bs n) (part bs ks os) (rw (keys-given (value_of bs) ks) e) (value-given (value_of bs) ks n e)
    go false e =
        match_name-new n (value_of bs n) (part bs ks os) (rw (keys-given (value_of bs) ks) e) ∙
        ap (λ l. some (record { named = l; opened = os })) (sym (map-append (bind (value_of bs)) ks (n ∷ [])))

mutual
  match_fill :
      (t : Term) (bs : List Binding) (ks : List ℕ) (os gs : List Ground) → openings t ≤ length gs →
      match_from t (fill_from bs t gs) (part bs ks os) ≡ some (part bs (add_names ks (names t)) (os ++ take (openings t) gs))
  match_fill any bs ks os [] l = absurd (omega arith)
  match_fill any bs ks os (g ∷ gs) l = refl
  match_fill (var n) bs ks os gs l = match_name-part n bs ks os ∙ ap (λ r. some (part bs (add_name ks n) r)) (sym (append-nil os))
  match_fill (app k ts) bs ks os gs l = match_app k k ts (fill_all bs ts gs) (part bs ks os) (eqb_refl k) ∙ match_fill_all ts bs ks os gs l

  match_fill_all :
      (ts : Terms) (bs : List Binding) (ks : List ℕ) (os gs : List Ground) → openings_all ts ≤ length gs →
      match_all ts (fill_all bs ts gs) (part bs ks os) ≡ some (part bs (add_names ks (names_all ts)) (os ++ take (openings_all ts) gs))
  match_fill_all nil bs ks os gs l = ap (λ r. some (part bs ks r)) (sym (append-nil os))
  match_fill_all (cons t ts) bs ks os gs l =
      match_cons t ts (fill_from bs t gs) (fill_all bs ts (drop (openings t) gs)) (part bs ks os) _ (match_fill t bs ks os gs (omega arith)) ∙
      match_fill_all ts bs (add_names ks (names t)) (os ++ take (openings t) gs) (drop (openings t) gs) (omega (arith, length-drop (openings t) gs)) ∙
      ap₂ (λ l r. some (part bs l r)) (sym (add_names_append ks (names t) (names_all ts)))
      (append_assoc os _ _ ∙ ap (λ r. os ++ r) (sym (take-add (openings t) (openings_all ts) gs)))

-- Any bindings with the names of p each once, and as many ground terms as p has open places, are found again.
match_back :
    (p : Term) (f : Filling) → keys_of f.named ≡ distinct (names p) → length f.opened ≡ openings p → matcher p (fill p f) ≡ some f
match_back p f k l =
    match_fill p f.named [] [] f.opened (omega arith) ∙
    ap₂ (λ bs gs. some (record { named = bs; opened = gs }))
    (ap (given (value_of f.named)) (add_names_none (names p) ∙ sym k) ∙ given-values f.named (rw k (none_twice_distinct (names p))))
    (take_all (openings p) f.opened (omega arith))

pub matcher_finds : (S : Signature) (p : Term) (s : ℕ) (f : Filling) → Sorted S p s → IsFilling S p s f → matcher p (fill p f) ≡ some f
matcher_finds S p s f w i =
    match_back p f i.keys (sorted_each_length S f.opened (open_sorts S p s) i.placed ∙ length-open_sorts S p s w)

-- What is found: f with bindings and ground terms added, which turn the term, here given by what it is
-- filled to, its names and its number of open places, into g.
record Found {T : Type 0} (into : List Binding → List Ground → T) (ns : List ℕ) (k : ℕ) (g : T) (f h : Filling) : Type 0 where
  bound : List Binding
  placed : List Ground
  named : h.named ≡ f.named ++ bound
  opened : h.opened ≡ f.opened ++ placed
  keys : keys_of h.named ≡ add_names (keys_of f.named) ns
  size : length placed ≡ k
  fills : (bs : List Binding) (gs : List Ground) → into (h.named ++ bs) (placed ++ gs) ≡ g

abbrev FoundTerm : Term → Ground → Filling → Filling → Type 0
FoundTerm t = Found (λ bs gs. fill_from bs t gs) (names t) (openings t)

abbrev FoundTerms : Terms → Grounds → Filling → Filling → Type 0
FoundTerms ts = Found (λ bs gs. fill_all bs ts gs) (names_all ts) (openings_all ts)

abbrev OnSome : (Filling → Type 0) → Option Filling → Type 0
OnSome P none = Unit {0}
OnSome P (some f) = P f

found-nil : (f : Filling) → FoundTerms nil gnil f f
found-nil f = record {
  bound = [];
  placed = [];
  named = sym (append-nil f.named);
  opened = sym (append-nil f.opened);
  keys = refl;
  size = refl;
  fills = λ bs gs. refl;
}

found-any : (g : Ground) (f : Filling) → FoundTerm any g f (with_open f g)
found-any g f = record {
  bound = [];
  placed = g ∷ [];
  named = sym (append-nil f.named);
  opened = refl;
  keys = refl;
  size = refl;
  fills = λ bs gs. refl;
}

found-known : (n : ℕ) (g : Ground) (f : Filling) → occurs n (keys_of f.named) ≡ true → value_of f.named n ≡ g → FoundTerm (var n) g f f
found-known n g f o e = record {
  bound = [];
  placed = [];
  named = sym (append-nil f.named);
  opened = sym (append-nil f.opened);
  keys = ap (λ b. cond b (keys_of f.named) (keys_of f.named ++ (n ∷ []))) (sym o);
  size = refl;
  fills = λ bs gs. value_append_known f.named bs n o ∙ e;
}

found-new : (n : ℕ) (g : Ground) (f : Filling) → occurs n (keys_of f.named) ≡ false → FoundTerm (var n) g f (with_name f n g)
found-new n g f o = record {
  bound = record { name = n; value = g } ∷ [];
  placed = [];
  named = refl;
  opened = sym (append-nil f.opened);
  keys = map-append _ f.named (record { name = n; value = g } ∷ []) ∙ ap (λ b. cond b (keys_of f.named) (keys_of f.named ++ (n ∷ []))) (sym o);
  size = refl;
  fills = λ bs gs.
      ap (λ l. value_of l n) (append_snoc f.named (record { name = n; value = g }) bs) ∙
      value_append_new f.named (record { name = n; value = g } ∷ bs) n o ∙
      ap (λ b. cond b g (value_of bs n)) (eqb_refl n);
}

found-cons :
    (t : Term) (ts : Terms) (g : Ground) (gs : Grounds) (f h k : Filling) →
    FoundTerm t g f h → FoundTerms ts gs h k → FoundTerms (cons t ts) (gcons g gs) f k
found-cons t ts g gs f h k a b = record {
  bound = a.bound ++ b.bound;
  placed = a.placed ++ b.placed;
  named = b.named ∙ ap (λ l. l ++ b.bound) a.named ∙ append_assoc f.named a.bound b.bound;
  opened = b.opened ∙ ap (λ l. l ++ b.placed) a.opened ∙ append_assoc f.opened a.placed b.placed;
  keys = b.keys ∙ ap (λ l. add_names l (names_all ts)) a.keys ∙ sym (add_names_append (keys_of f.named) (names t) (names_all ts));
  size = length-append a.placed b.placed ∙ ap₂ ◌+◌ a.size b.size;
  fills = λ bs os.
      ap₂ gcons
      (ap₂ (λ l r. fill_from l t r) (ap (λ l. l ++ bs) b.named ∙ append_assoc h.named b.bound bs) (append_assoc a.placed b.placed os)
      ∙ a.fills (b.bound ++ bs) (b.placed ++ os))
      (ap (λ r. fill_all (k.named ++ bs) ts r)
      (ap (drop (openings t)) (append_assoc a.placed b.placed os) ∙ drop_at a.placed (b.placed ++ os) (openings t) a.size)
      ∙ b.fills bs os);
}

on_some_map : (P Q : Filling → Type 0) (o : Option Filling) → ((h : Filling) → P h → Q h) → OnSome P o → OnSome Q o
on_some_map P Q none i h = tt
on_some_map P Q (some f) i h = i f h

on_some_then :
    (P R : Filling → Type 0) (m : Filling → Option Filling) (o : Option Filling) → OnSome P o → ((h : Filling) → P h → OnSome R (m h)) →
    OnSome R (elim o as (λ c. Option Filling) [ none ↦ none | some h ↦ m h ])
on_some_then P R m none h i = tt
on_some_then P R m (some f) h i = i f h

found_name : (n : ℕ) (g : Ground) (f : Filling) → OnSome (FoundTerm (var n) g f) (match_name n g f)
found_name n g f = go (occurs n (keys_of f.named)) (same (value_of f.named n) g) refl refl
  where
    go : (b c : Bool) → occurs n (keys_of f.named) ≡ b → same (value_of f.named n) g ≡ c →
        OnSome (FoundTerm (var n) g f)
        (elim b as (λ z. Option Filling) [ true ↦ elim c as (λ z. Option Filling) [ true ↦ some f | false ↦ none ] | false ↦ some (with_name f n g) ])
    go true true o e = found-known n g f o (same_true (value_of f.named n) g e)
    go true false o e = tt
    go false true o e = found-new n g f o
    go false false o e = found-new n g f o

found-app :
    (k : ℕ) (ts : Terms) (h : ℕ) (gs : Grounds) (f : Filling) →
    OnSome (FoundTerms ts gs f) (match_all ts gs f) →
    OnSome (FoundTerm (app k ts) (gapp h gs) f) (match_from (app k ts) (gapp h gs) f)
found-app k ts h gs f a = go (eqb k h) refl
  where
    headed : (f' : Filling) → k ≡ h → FoundTerms ts gs f f' →
        FoundTerm (app k ts) (gapp h gs) f f'
    headed f' e b = record {
      bound = b.bound;
      placed = b.placed;
      named = b.named;
      opened = b.opened;
      keys = b.keys;
      size = b.size;
      fills = λ bs os. ap₂ gapp e (b.fills bs os);
    }

    go : (b : Bool) → eqb k h ≡ b →
        OnSome (FoundTerm (app k ts) (gapp h gs) f)
        (elim b as (λ z. Option Filling) [ true ↦ match_all ts gs f | false ↦ none ])
    go true e = on_some_map _ _ (match_all ts gs f) (λ f'. headed f' (eqb-true k h e)) a
    go false e = tt

mutual
  found : (t : Term) (g : Ground) (f : Filling) → OnSome (FoundTerm t g f) (match_from t g f)
  found any g f = found-any g f
  found (var n) g f = found_name n g f
  found (app k ts) (gapp h gs) f = found-app k ts h gs f (found_all ts gs f)

  found_all : (ts : Terms) (gs : Grounds) (f : Filling) → OnSome (FoundTerms ts gs f) (match_all ts gs f)
  found_all nil gnil f = found-nil f
  found_all nil (gcons g gs) f = tt
  found_all (cons t ts) gnil f = tt
  found_all (cons t ts) (gcons g gs) f =
      on_some_then (FoundTerm t g f) _ (λ h. match_all ts gs h) (match_from t g f) (found t g f)
      (λ h a. on_some_map _ _ (match_all ts gs h) (λ k b. found-cons t ts g gs f h k a b) (found_all ts gs h))

pub matcher-sound :
    (S : Signature) (p : Term) (s : ℕ) (g : Ground) (f : Filling) → SortedG S g s → matcher p g ≡ some f → TurnsInto S p s f g
matcher-sound S p s g f sorted e = (record { keys = a.keys ∙ add_names_none (names p); bound = bound; placed = placed }, filled)
  where
    a : FoundTerm p g no_filling f
    a = subst (OnSome (FoundTerm p g no_filling)) e (found p g no_filling)

    filled : fill p f ≡ g
    filled = ap₂ (λ bs gs. fill_from bs p gs) (sym (append-nil f.named)) (a.opened ∙ sym (append-nil a.placed)) ∙ a.fills [] []

    result : SortedG S (fill p f) s
    result = subst (λ h. SortedG S h s) (sym filled) sorted

    size : length f.opened ≡ openings p
    size = ap length a.opened ∙ a.size

    bound : Bound S f.named p s
    bound = bound-sorted S p s f.named f.opened result

    placed : SortedEach S f.opened (open_sorts S p s)
    placed = rw (take_all (openings p) f.opened (omega (arith, size))) at (placed-sorted S p s f.named f.opened (omega (arith, size)) result)

pub matcher_is_exact : MatcherIsExact
matcher_is_exact S p s g f w sg = (
  matcher-sound S p s g f sg,
  λ h. ap (matcher p) (sym h.1) ∙ matcher_finds S p s f w h.0,
)
