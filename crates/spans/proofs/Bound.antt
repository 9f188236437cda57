-- Bound: what matching a name does to what a filling gives it.
use mathlib.Core.Path.{◌≡◌, refl}
use mathlib.Core.Bool.{Bool, true, false, cond, ◌||◌}
use mathlib.Core.List.{List, [], ◌∷◌, ◌++◌, map}
use mathlib.Core.Option.{Option, some, none}
use Prim.Native.Nat.{ℕ}
use lib.Dec.{eqb}
use Rattle.terms.specs.Lists.{occurs}
use Rattle.terms.specs.Term.{Ground}
use Rattle.terms.specs.Matcher.{same, with_name, match_name}
use Rattle.terms.specs.Filling.{Binding, Filling, value_of}
use Rattle.wire.proofs.Spans.{cover_else}
use Rattle.spans.specs.Spans.{bound}

abbrev KeysTell : List Binding → ℕ → Option Ground → Type 0
KeysTell bs n none = occurs n (map (λ b. b.name) bs) ≡ false
KeysTell bs n (some h) = (occurs n (map (λ b. b.name) bs) ≡ true) × (value_of bs n ≡ h)

abbrev KeysTold : List Binding → ℕ → Binding → Bool → Option Ground → Type 0
KeysTold bs n b c none = (c || occurs n (map (λ b. b.name) bs)) ≡ false
KeysTold bs n b c (some h) = ((c || occurs n (map (λ b. b.name) bs)) ≡ true) × (cond c b.value (value_of bs n) ≡ h)

keys-told : (bs : List Binding) (n : ℕ) (b : Binding) (c : Bool) (o : Option Ground) → KeysTell bs n o → KeysTold bs n b c (cond c (some b.value) o)
keys-told bs n b true o h = (refl, refl)
keys-told bs n b false none h = h
keys-told bs n b false (some g) h = h

keys-whole : (bs : List Binding) (n : ℕ) (b : Binding) (o : Option Ground) → KeysTold bs n b (eqb n b.name) o → KeysTell (b ∷ bs) n o
keys-whole bs n b none h = h
keys-whole bs n b (some g) h = h

keys_tell : (bs : List Binding) (n : ℕ) → KeysTell bs n (bound bs n)
keys_tell [] n = refl
keys_tell (b ∷ bs) n = keys-whole bs n b (bound (b ∷ bs) n) (keys-told bs n b (eqb n b.name) (bound bs n) (keys_tell bs n))

-- ---- matching a name

pub name_new : (f : Filling) (n : ℕ) (g : Ground) → bound f.named n ≡ none → match_name n g f ≡ some (with_name f n g)
name_new f n g e =
    let o : KeysTell f.named n none = rw e at (keys_tell f.named n) in
    rw (o, match_name)

pub name-again : (f : Filling) (n : ℕ) (g h : Ground) → bound f.named n ≡ some h → same h g ≡ true → match_name n g f ≡ some f
name-again f n g h e q =
    let o : KeysTell f.named n (some h) = rw e at (keys_tell f.named n) in
    rw (o.0, match_name) (rw (o.1, q))

pub name-other : (f : Filling) (n : ℕ) (g h : Ground) → bound f.named n ≡ some h → same h g ≡ false → match_name n g f ≡ none
name-other f n g h e q =
    let o : KeysTell f.named n (some h) = rw e at (keys_tell f.named n) in
    rw (o.0, match_name) (rw (o.1, q))

more_else : (c : Bool) (v : Ground) (o q r : Option Ground) → o ≡ cover_else q r → cond c (some v) o ≡ cover_else (cond c (some v) q) r
more_else true v o q r e = refl
more_else false v o q r e = e

pub bound-more : (bs : List Binding) (n : ℕ) (g : Ground) (m : ℕ) →
    bound (bs ++ (record { name = n; value = g } ∷ [])) m ≡ cover_else (bound bs m) (cond (eqb m n) (some g) none)
bound-more [] n g m = refl
bound-more (b ∷ bs) n g m = more_else (eqb m b.name) b.value _ (bound bs m) _ (bound-more bs n g m)
