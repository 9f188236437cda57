-- Binding: laws of bindings: what they give a variable, and that they are known by their names and values.
use mathlib.Core.Path.{◌≡◌, refl, sym, ◌∙◌, ap, ap₂}
use mathlib.Core.Bool.{Bool, true, false, cond, ◌||◌, true≢false}
use mathlib.Core.List.{List, [], ◌∷◌, ◌++◌, map}
use Prim.Native.Nat.{ℕ}
use lib.Dec.{eqb}
use borrow.Author.Tests.{eqb-true}
use Rattle.terms.specs.Lists.{occurs, NoneTwice}
use Rattle.terms.specs.Term.{Ground}
use Rattle.terms.specs.Filling.{Binding, value_of}
use Rattle.terms.proofs.Bools.{eqb_refl}
use Rattle.terms.proofs.Occurs.{occurs-head, occurs-tail}

abbrev pub keys_of : List Binding → List ℕ
keys_of bs = map (λ b. b.name) bs

abbrev pub bind : (ℕ → Ground) → ℕ → Binding
bind v n = record { name = n; value = v n }

-- The values v of the variables ks.
abbrev pub given : (ℕ → Ground) → List ℕ → List Binding
given v ks = map (bind v) ks

pub keys-given : (v : ℕ → Ground) (ks : List ℕ) → keys_of (given v ks) ≡ ks
keys-given v [] = refl
keys-given v (k ∷ ks) = ap (λ r. k ∷ r) (keys-given v ks)

pub value-given : (v : ℕ → Ground) (ks : List ℕ) (n : ℕ) → occurs n ks ≡ true → value_of (given v ks) n ≡ v n
value-given v [] n h = cc
value-given v (k ∷ ks) n h = go (eqb n k) refl h (value-given v ks n)
  where
    go : (b : Bool) → eqb n k ≡ b → (b || occurs n ks) ≡ true → (occurs n ks ≡ true → value_of (given v ks) n ≡ v n) →
        cond b (v k) (value_of (given v ks) n) ≡ v n
    go true e h' ih = ap v (sym (eqb-true n k e))
    go false e h' ih = ih h'

given-same : (v w : ℕ → Ground) (ks : List ℕ) → ((n : ℕ) → occurs n ks ≡ true → v n ≡ w n) → given v ks ≡ given w ks
given-same v w [] h = refl
given-same v w (k ∷ ks) h =
    ap₂ ◌∷◌ (ap (λ g. record { name = k; value = g }) (h k (occurs-head k ks))) (given-same v w ks (λ n o. h n (occurs-tail n k ks o)))

pub value_append_known : (bs cs : List Binding) (n : ℕ) → occurs n (keys_of bs) ≡ true → value_of (bs ++ cs) n ≡ value_of bs n
value_append_known [] cs n h = cc
value_append_known (b ∷ bs) cs n h = go (eqb n b.name) h (value_append_known bs cs n)
  where
    go : (c : Bool) → (c || occurs n (keys_of bs)) ≡ true → (occurs n (keys_of bs) ≡ true → value_of (bs ++ cs) n ≡ value_of bs n) →
        cond c b.value (value_of (bs ++ cs) n) ≡ cond c b.value (value_of bs n)
    go true h' ih = refl
    go false h' ih = ih h'

pub value_append_new : (bs cs : List Binding) (n : ℕ) → occurs n (keys_of bs) ≡ false → value_of (bs ++ cs) n ≡ value_of cs n
value_append_new [] cs n h = refl
value_append_new (b ∷ bs) cs n h = go (eqb n b.name) h (value_append_new bs cs n)
  where
    go : (c : Bool) → (c || occurs n (keys_of bs)) ≡ false → (occurs n (keys_of bs) ≡ false → value_of (bs ++ cs) n ≡ value_of cs n) →
        cond c b.value (value_of (bs ++ cs) n) ≡ value_of cs n
    go true h' ih = cc
    go false h' ih = ih h'

-- Bindings of which no two have one name are read off their own values.
pub given-values : (bs : List Binding) → NoneTwice (keys_of bs) → given (value_of bs) (keys_of bs) ≡ bs
given-values [] h = refl
given-values (b ∷ bs) h =
    ap₂ ◌∷◌
    (ap (λ c. record { name = b.name; value = cond c b.value (value_of bs b.name) }) (eqb_refl b.name))
    (given-same (value_of (b ∷ bs)) (value_of bs) (keys_of bs) (λ n o. go n o (eqb n b.name) refl) ∙ given-values bs h.1)
  where
    go : (n : ℕ) → occurs n (keys_of bs) ≡ true → (c : Bool) → eqb n b.name ≡ c → cond c b.value (value_of bs n) ≡ value_of bs n
    go n o true e = absurd (true≢false (sym o ∙ ap (λ k. occurs k (keys_of bs)) (eqb-true n b.name e) ∙ h.0))
    go n o false e = refl

pub bindings_equal :
    (bs cs : List Binding) → keys_of bs ≡ keys_of cs → NoneTwice (keys_of bs) → NoneTwice (keys_of cs) →
    ((n : ℕ) → occurs n (keys_of bs) ≡ true → value_of bs n ≡ value_of cs n) → bs ≡ cs
bindings_equal bs cs e h k v =
    sym (given-values bs h) ∙ given-same (value_of bs) (value_of cs) (keys_of bs) v ∙ ap (given (value_of cs)) e ∙ given-values cs k
