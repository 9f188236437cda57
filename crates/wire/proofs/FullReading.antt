-- FullReading: complete terms are read word by word, each with its whole map.
--
--   FullStands, Stands, full-stands   what it means that a full word was read
--   full-word                 where one stands it is read
--   full_fuel                 once there are more steps than bytes, their number does not matter
--   put f gs r                the first of gs put below the word f, before the bytes r
--   values-node, values-limit the first step of a reading
--
use mathlib.Core.Path.{◌≡◌, refl, ap, ◌∙◌}
use mathlib.Core.Bool.{Bool, true, false, ◌&&◌, cond}
use mathlib.Core.List.{List, [], ◌∷◌, ◌++◌}
use Prim.Native.Nat.{ℕ, zero, suc, ◌<◌, ◌≤◌}
use native.Mathlib.Omega.{arith}
use lib.Dec.{eqb, ltb}
use lib.ListN.{length}
use borrow.Author.Tests.{lt-ltb, le-ltb, ltb-true, eqb-true, eq-eqb}
use Rattle.terms.specs.Term.{Grounds}
use Rattle.terms.proofs.Bools.{and_parts}
use Rattle.wire.specs.Map.{write_map, MapRead, map_got, map_missing, read_map}
use Rattle.wire.specs.Vocabulary.{Vocabulary, word, map_of}
use Rattle.wire.specs.TermBytes.{most_levels}
use Rattle.wire.specs.TermLines.{Due, due_at, Word?}
use Rattle.wire.specs.Parser.{Got, got, stop, and_then, is_word}
use Rattle.wire.specs.FillComputed.{full_slots, full_map, full_word, with_node, read_full, read_values}
use Rattle.wire.proofs.Cond.{cond_true, first_arm, second_arm, either}
use Rattle.wire.proofs.Map.{write-read_map, read-write_map}

-- ---- a full word

-- The word f of kind k stands with its whole map at the front of l, and r is left.
pub record FullStands (W : Vocabulary) (k : ℕ) (l : List ℕ) (f : ℕ) (r : List ℕ) : Type 0 where
  pub bytes : l ≡ f ∷ (write_map (map_of W f) ++ r)
  pub known : Word? W f
  pub due : (word W f).result ≡ k

abbrev pub Stands : Vocabulary → ℕ → List ℕ → Got ℕ → Type 0
Stands W k l (got f r) = FullStands W k l f r
Stands W k l (stop n r) = Unit {0}

pub full-stands : (W : Vocabulary) (k : ℕ) (l : List ℕ) → Stands W k l (full_word W k l)
full-stands W k [] = tt
full-stands W k (f ∷ l) = kind (is_word W f && eqb (word W f).result k) refl
  where
    whole : (m : ℕ) (r : List ℕ) → read_map l ≡ map_got m r → Word? W f → (word W f).result ≡ k → (b : Bool) → eqb m (map_of W f) ≡ b →
        Stands W k (f ∷ l) (cond b (got f r) (stop 22 l))
    whole m r e known due false same = tt
    whole m r e known due true same = record {
      bytes = ap {B = List ℕ} (λ z. f ∷ z) (write-read_map l m r e ∙ ap (λ m. write_map m ++ r) (eqb-true m (map_of W f) same));
      known = known;
      due = due;
    }

    places : (m : MapRead) → read_map l ≡ m → Word? W f → (word W f).result ≡ k → Stands W k (f ∷ l) (full_map W f l m)
    places (map_missing r) e known due = tt
    places (map_got m r) e known due = whole m r e known due (eqb m (map_of W f)) refl

    kind : (b : Bool) → (is_word W f && eqb (word W f).result k) ≡ b → Stands W k (f ∷ l) (cond b (full_map W f l (read_map l)) (stop 22 (f ∷ l)))
    kind false e = tt
    kind true e =
        let both = and_parts (is_word W f) (eqb (word W f).result k) e in
        places (read_map l) refl (ltb-true f (length W.words) both.0) (eqb-true (word W f).result k both.1)

both_true : (a b : Bool) → a ≡ true → b ≡ true → (a && b) ≡ true
both_true a b p q = rw (p, q)

pub full-word : (W : Vocabulary) (k f : ℕ) (r : List ℕ) → Word? W f → (word W f).result ≡ k →
    full_word W k (f ∷ (write_map (map_of W f) ++ r)) ≡ got f r
full-word W k f r known due =
    cond_true (is_word W f && eqb (word W f).result k) _ _
    (both_true (is_word W f) (eqb (word W f).result k) (lt-ltb f (length W.words) known) (eq-eqb (word W f).result k due))
    ∙ ap (full_map W f (write_map (map_of W f) ++ r)) (read-write_map (map_of W f) r)
    ∙ cond_true (eqb (map_of W f) (map_of W f)) _ _ (eq-eqb (map_of W f) (map_of W f) refl)

-- ---- steps

-- What is read of the places of the word f and of what is due behind it, the word put above its places.
abbrev pub put : Vocabulary → ℕ → Grounds → List ℕ → Got Grounds
put W f gs r = got (with_node (length (word W f).kinds) f gs) r

-- Two ways of going on that agree on fewer than n bytes agree behind a full word.
abbrev pub Below : ℕ → Got ℕ → Type 0
Below n (got f r) = length r < n
Below n (stop k r) = Unit {0}

full-below : (W : Vocabulary) (k : ℕ) (l : List ℕ) → Below (length l) (full_word W k l)
full-below W k l = go (full_word W k l) (full-stands W k l)
  where
    go : (x : Got ℕ) → Stands W k l x → Below (length l) x
    go (got f r) h = omega (arith, ap length h.bytes)
    go (stop n r) h = tt

then-below : {A : Type 0} (n : ℕ) (x : Got ℕ) (g h : ℕ → List ℕ → Got A) → Below n x →
    ((f : ℕ) (r : List ℕ) → length r < n → g f r ≡ h f r) → and_then x g ≡ and_then x h
then-below n (got f r) g h p e = e f r p
then-below n (stop k r) g h p e = refl

-- Behind the word f, where d was due and then ds.
abbrev pub behind : Vocabulary → Due → List Due → ℕ → List Due
behind W d ds f = due_at (suc d.level) (full_slots W f) ++ ds

pub full_fuel : (W : Vocabulary) (n m : ℕ) (due : List Due) (l : List ℕ) → length l < n → length l < m → read_full W n due l ≡ read_full W m due l
full_fuel W zero m due l p q = absurd (omega arith)
full_fuel W (suc n) zero due l p q = absurd (omega arith)
full_fuel W (suc n) (suc m) [] l p q = refl
full_fuel W (suc n) (suc m) (d ∷ ds) l p q =
    either (ltb most_levels d.level) (stop 22 l) _ _
    (then-below (length l) (full_word W d.sort l) _ _ (full-below W d.sort l)
    (λ f r h. ap (λ x. and_then x (put W f)) (full_fuel W n m (behind W d ds f) r (omega arith) (omega arith))))

module _ (W : Vocabulary) (d : Due) (ds : List Due) (l : List ℕ) where
  pub values-node : d.level ≤ most_levels →
      read_values W (d ∷ ds) l ≡ and_then (full_word W d.sort l) (λ f r. and_then (read_values W (behind W d ds f) r) (put W f))
  values-node h =
      second_arm (ltb most_levels d.level) (stop 22 l) _ (le-ltb _ _ h)
      ∙ then-below (length l) (full_word W d.sort l) _ _ (full-below W d.sort l)
      (λ f r p. ap (λ x. and_then x (put W f)) (full_fuel W (length l) (suc (length r)) (behind W d ds f) r p (omega arith)))

  pub values-limit : most_levels < d.level → read_values W (d ∷ ds) l ≡ stop 22 l
  values-limit h = first_arm (ltb most_levels d.level) (stop 22 l) _ (lt-ltb _ _ h)
