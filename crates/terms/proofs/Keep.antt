-- Keep: laws of the elements that pass a test, and of ranges in two parts.
use mathlib.Core.Path.{◌≡◌, refl, sym, ◌∙◌, ap, ap₂, fun_ext}
use mathlib.Core.Bool.{Bool, true, false, cond, ◌&&◌, ◌||◌, and-false}
use mathlib.Core.List.{List, [], ◌∷◌, ◌++◌, map}
use Prim.Native.Nat.{ℕ, zero, suc, ◌+◌}
use native.Mathlib.Omega.{arith}
use lib.Dec.{eqb}
use borrow.Author.Tests.{eqb-true}
use Rattle.terms.specs.Lists.{All, occurs, NoneTwice, range, keep}

module _ {A : Type 0} where
  pub keep-keep : (p q : A → Bool) (l : List A) → keep p (keep q l) ≡ keep (λ x. q x && p x) l
  keep-keep p q [] = refl
  keep-keep p q (x ∷ l) = go (q x) (keep-keep p q l)
    where
      go : (b : Bool) → keep p (keep q l) ≡ keep (λ x. q x && p x) l →
          keep p (cond b (x ∷ keep q l) (keep q l)) ≡ cond (b && p x) (x ∷ keep (λ x. q x && p x) l) (keep (λ x. q x && p x) l)
      go true e = ap (λ k. cond (p x) (x ∷ k) k) e
      go false e = e

  pub keep_same : (p q : A → Bool) (l : List A) → ((x : A) → p x ≡ q x) → keep p l ≡ keep q l
  keep_same p q l e = ap (λ test. keep test l) (fun_ext e)

  -- Two tests that agree on each element.
  pub keep_agree : (p q : A → Bool) (l : List A) → All (λ x. p x ≡ q x) l → keep p l ≡ keep q l
  keep_agree p q [] a = refl
  keep_agree p q (x ∷ l) a = ap₂ (λ b k. cond b (x ∷ k) k) a.0 (keep_agree p q l a.1)

  pub keep_all : (l : List A) → keep (λ x. true) l ≡ l
  keep_all [] = refl
  keep_all (x ∷ l) = ap (λ k. x ∷ k) (keep_all l)

  pub keep_append : (p : A → Bool) (l m : List A) → keep p (l ++ m) ≡ keep p l ++ keep p m
  keep_append p [] m = refl
  keep_append p (x ∷ l) m = go (p x) (keep_append p l m)
    where
      go : (b : Bool) → keep p (l ++ m) ≡ keep p l ++ keep p m →
          cond b (x ∷ keep p (l ++ m)) (keep p (l ++ m)) ≡ cond b (x ∷ keep p l) (keep p l) ++ keep p m
      go true e = ap (λ k. x ∷ k) e
      go false e = e

pub keep-map : {A B : Type 0} (p : B → Bool) (f : A → B) (l : List A) → keep p (map f l) ≡ map f (keep (λ x. p (f x)) l)
keep-map p f [] = refl
keep-map {A = A} {B = B} p f (x ∷ l) = go (p (f x)) (keep-map p f l)
  where
    go : (b : Bool) → keep p (map f l) ≡ map f (keep (λ x. p (f x)) l) →
        cond b (f x ∷ keep p (map f l)) (keep p (map f l)) ≡ map {A = A} {B = B} f (cond b (x ∷ keep (λ x. p (f x)) l) (keep (λ x. p (f x)) l))
    go true e = ap (λ k. f x ∷ k) e
    go false e = e

-- Of two mapped lists, the elements are kept whose origins pass the test.
pub keep-maps : {A B C : Type 0} (p : C → Bool) (f : A → C) (h : B → C) (q : A → Bool) (r : B → Bool) (l : List A) (m : List B) →
    ((x : A) → p (f x) ≡ q x) → ((y : B) → p (h y) ≡ r y) → keep p (map f l ++ map h m) ≡ map f (keep q l) ++ map h (keep r m)
keep-maps p f h q r l m a b =
    keep_append p (map f l) (map h m)
    ∙ ap₂ ◌++◌ (keep-map p f l ∙ ap (map f) (keep_same _ q l a)) (keep-map p h m ∙ ap (map h) (keep_same _ r m b))

pub range-append : (from n m : ℕ) → range from (n + m) ≡ range from n ++ range (from + n) m
range-append from zero m = ap₂ range (let e : from ≡ from + 0 = omega arith in e) (let e : 0 + m ≡ m = omega arith in e)
range-append from (suc n) m =
    ap (range from) (let e : suc n + m ≡ suc (n + m) = omega arith in e)
    ∙ ap (λ l. from ∷ l) (range-append (suc from) n m ∙ ap (λ k. range (suc from) n ++ range k m) (let e : suc from + n ≡ from + suc n = omega arith in e))

pub occurs-keep : (p : ℕ → Bool) (n : ℕ) (l : List ℕ) → occurs n (keep p l) ≡ (p n && occurs n l)
occurs-keep p n [] = sym (and-false (p n))
occurs-keep p n (m ∷ l) = go (p m) (eqb n m) refl refl (occurs-keep p n l)
  where
    go : (b c : Bool) → p m ≡ b → eqb n m ≡ c → occurs n (keep p l) ≡ (p n && occurs n l) →
        occurs n (cond b (m ∷ keep p l) (keep p l)) ≡ (p n && (c || occurs n l))
    go true true e f ih = let pn : p n ≡ true = ap p (eqb-true n m f) ∙ e in rw (f, pn)
    go true false e f ih = rw f ih
    go false true e f ih =
        let pn : p n ≡ false = ap p (eqb-true n m f) ∙ e in
        ih ∙ ap (λ b. b && occurs n l) pn ∙ ap (λ b. b && true) (sym pn)
    go false false e f ih = ih

pub none_twice_keep : (p : ℕ → Bool) (l : List ℕ) → NoneTwice l → NoneTwice (keep p l)
none_twice_keep p [] h = tt
none_twice_keep p (n ∷ l) h = go (p n) (none_twice_keep p l h.1)
  where
    go : (b : Bool) → NoneTwice (keep p l) → NoneTwice (cond b (n ∷ keep p l) (keep p l))
    go true k = (occurs-keep p n l ∙ ap (λ b. p n && b) h.0 ∙ and-false (p n), k)
    go false k = k
