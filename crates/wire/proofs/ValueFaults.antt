-- ValueFaults: where a complete term is due, either a byte is at fault, and reading stops at the first such, or there is a step and no byte is at fault.
--
--   FaultAt                   the faults at a state where a term is due
--   Stuck                     the first byte at fault there, and reading stops at it
--   Moves                     there is a step, and no byte is at fault
--   look                      one of the two holds
--   full-got                  a word with its whole map is read
--
use mathlib.Core.Path.{◌≡◌, refl, ap, ap₂, ◌∙◌}
use mathlib.Core.Bool.{Bool, true, false, ◌&&◌}
use mathlib.Core.List.{List, [], ◌∷◌}
use mathlib.Core.Logic.{◌⊎◌, inl, inr}
use Prim.Native.Nat.{ℕ, suc, ◌+◌, ◌<◌, ◌≤◌}
use native.Mathlib.Omega.{arith}
use lib.Dec.{eqb, ltb}
use lib.ListN.{length}
use borrow.Author.Tests.{ltb-true, ltb-false, lt-ltb, eqb-true, eqb-false, eq-eqb}
use Rattle.terms.specs.Term.{Occurrence}
use Rattle.terms.proofs.Bools.{and_both}
use Rattle.wire.specs.Map.{MapRead, read_map, map_got, map_missing}
use Rattle.wire.specs.Vocabulary.{Vocabulary, word, map_of}
use Rattle.wire.specs.TermBytes.{most_levels}
use Rattle.wire.specs.TermLines.{Due, State, Word?}
use Rattle.wire.specs.Parser.{got, stop, and_then, is_word}
use Rattle.wire.specs.FillingLines.{FullStep, ValueFault}
use Rattle.wire.specs.FillComputed.{full_map, full_word, read_values}
use Rattle.wire.proofs.Cond.{cond_true, cond_false}
use Rattle.wire.proofs.Map.{write-read_map, map_missing_lem}
use Rattle.wire.proofs.NodeLines.{at_due}
use Rattle.wire.proofs.FullReading.{full-word, behind, put, values-node, values-limit}

abbrev pub FaultAt : Vocabulary → Due → List Due → List Occurrence → ℕ → List ℕ → ℕ → Type 0
FaultAt W d ds seen at rest = ValueFault W (at_due d ds seen at rest) d

-- A byte is at fault there, none before it is, and reading stops at the bytes from it on.
pub record Stuck (W : Vocabulary) (d : Due) (ds : List Due) (seen : List Occurrence) (at : ℕ) (rest : List ℕ) : Type 0 where
  pub place : ℕ
  pub from : List ℕ
  pub stops : read_values W (d ∷ ds) rest ≡ stop 22 from
  pub placed : place + length from ≡ at + length rest
  pub fits : FaultAt W d ds seen at rest place
  pub first : (q : ℕ) → FaultAt W d ds seen at rest q → place ≤ q

-- No byte is at fault there, and there is a step.
pub record Moves (W : Vocabulary) (d : Due) (ds : List Due) (seen : List Occurrence) (at : ℕ) (rest : List ℕ) : Type 0 where
  pub next : State
  pub step : FullStep W (at_due d ds seen at rest) next
  pub clear : (q : ℕ) → FaultAt W d ds seen at rest q → ⊥

-- ---- from what stands to what is read of a word

module _ (W : Vocabulary) (k f : ℕ) (l : List ℕ) where
  full-stray : (is_word W f && eqb (word W f).result k) ≡ false → full_word W k (f ∷ l) ≡ stop 22 (f ∷ l)
  full-stray e = cond_false (is_word W f && eqb (word W f).result k) _ _ e

  full-map : (m : MapRead) → Word? W f → (word W f).result ≡ k → read_map l ≡ m → full_word W k (f ∷ l) ≡ full_map W f l m
  full-map m w e h =
      cond_true (is_word W f && eqb (word W f).result k) _ _
      (and_both (is_word W f) (eqb (word W f).result k) (lt-ltb f _ w) (eq-eqb _ _ e))
      ∙ ap (full_map W f l) h

  pub full-got : (r : List ℕ) → Word? W f → (word W f).result ≡ k → read_map l ≡ map_got (map_of W f) r → full_word W k (f ∷ l) ≡ got f r
  full-got r w e h = ap (λ z. full_word W k (f ∷ z)) (write-read_map l (map_of W f) r h) ∙ full-word W k f r w e

-- ---- the faults where the bytes b ∷ l begin, in terms of b and l

data ByteFault (W : Vocabulary) (d : Due) (at b : ℕ) (l : List ℕ) : ℕ → Type 0 where
  deep : most_levels < d.level → ByteFault W d at b l at
  not_aWord : (Word? W b → ⊥) → ByteFault W d at b l at
  other_kind : Word? W b → ((word W b).result ≡ d.sort → ⊥) → ByteFault W d at b l at
  ends_in_map : (r : List ℕ) → Word? W b → read_map l ≡ map_missing r → ByteFault W d at b l (at + suc (length l))
  other_map : (m : ℕ) (r : List ℕ) → Word? W b → read_map l ≡ map_got m r → (m ≡ map_of W b → ⊥) → ByteFault W d at b l (at + 1)

byte-fault : (W : Vocabulary) (d : Due) (ds : List Due) (seen : List Occurrence) (at b : ℕ) (l : List ℕ) {q : ℕ} →
    FaultAt W d ds seen at (b ∷ l) q → ByteFault W d at b l q
byte-fault W d ds seen at b l (ValueFault.ends e) = let z : ◌≡◌ {A = ℕ} 0 1 = cc in absurd (omega arith)
byte-fault W d ds seen at b l (ValueFault.deep f l' e h) = deep h
byte-fault W d ds seen at b l (ValueFault.not_aWord f l' e h) = let p : f ≡ b = cc in not_aWord (rw p at h)
byte-fault W d ds seen at b l (ValueFault.other_kind f l' e h k) = let p : f ≡ b = cc in other_kind (rw p at h) (rw p at k)
byte-fault W d ds seen at b l (ValueFault.ends_in_map f l' r e h k) =
    let p : f ≡ b = cc in let q : l' ≡ l = cc in ends_in_map r (rw p at h) (rw q at k)
byte-fault W d ds seen at b l (ValueFault.other_map f m l' r e h k n) =
    let p : f ≡ b = cc in let q : l' ≡ l = cc in other_map m r (rw p at h) (rw q at k) (rw p at n)

-- No fault stands before the state.
fault-behind : (W : Vocabulary) (d : Due) (at b : ℕ) (l : List ℕ) {q : ℕ} → ByteFault W d at b l q → at ≤ q
fault-behind W d at b l (deep h) = omega arith
fault-behind W d at b l (not_aWord h) = omega arith
fault-behind W d at b l (other_kind h k) = omega arith
fault-behind W d at b l (ends_in_map r h k) = omega arith
fault-behind W d at b l (other_map m r h k n) = omega arith

-- Nothing is left: the missing byte is at fault, and no other.
stuck-empty : (W : Vocabulary) (d : Due) (ds : List Due) (seen : List Occurrence) (at : ℕ) → Stuck W d ds seen at []
stuck-empty W d ds seen at = record {
  place = at;
  from = [];
  stops = go (ltb most_levels d.level) refl;
  placed = refl;
  fits = ValueFault.ends refl;
  first = λ q h. first h;
}
  where
    go : (b : Bool) → ltb most_levels d.level ≡ b → read_values W (d ∷ ds) [] ≡ stop 22 []
    go true e = values-limit W d ds [] (ltb-true _ _ e)
    go false e = values-node W d ds [] (ltb-false _ _ e)

    first : {q : ℕ} → FaultAt W d ds seen at [] q → at ≤ q
    first (ValueFault.ends e) = omega arith
    first (ValueFault.deep f l' e h) = omega arith
    first (ValueFault.not_aWord f l' e h) = omega arith
    first (ValueFault.other_kind f l' e h k) = omega arith
    first (ValueFault.ends_in_map f l' r e h k) = omega arith
    first (ValueFault.other_map f m l' r e h k n) = omega arith

module _ (W : Vocabulary) (d : Due) (ds : List Due) (seen : List Occurrence) (at b : ℕ) (l : List ℕ) where
  -- A fault at the first byte.
  stuck-here : read_values W (d ∷ ds) (b ∷ l) ≡ stop 22 (b ∷ l) → FaultAt W d ds seen at (b ∷ l) at → Stuck W d ds seen at (b ∷ l)
  stuck-here e fits = record {
    place = at;
    from = b ∷ l;
    stops = e;
    placed = refl;
    fits = fits;
    first = λ q h. fault-behind W d at b l (byte-fault W d ds seen at b l h);
  }

  stuck-deep : most_levels < d.level → Stuck W d ds seen at (b ∷ l)
  stuck-deep o = stuck-here (values-limit W d ds (b ∷ l) o) (ValueFault.deep b l refl o)

  module _ (o : d.level ≤ most_levels) where
    word-stops : (from : List ℕ) → full_word W d.sort (b ∷ l) ≡ stop 22 from → read_values W (d ∷ ds) (b ∷ l) ≡ stop 22 from
    word-stops from e =
        values-node W d ds (b ∷ l) o ∙ ap (λ x. and_then x (λ f r. and_then (read_values W (behind W d ds f) r) (put W f))) e

    stuck-stray : (is_word W b && eqb (word W b).result d.sort) ≡ false → FaultAt W d ds seen at (b ∷ l) at → Stuck W d ds seen at (b ∷ l)
    stuck-stray e fits = stuck-here (word-stops (b ∷ l) (full-stray W d.sort b l e)) fits

    -- The word is known and of the kind that is due.
    module _ (w : Word? W b) (e : (word W b).result ≡ d.sort) where
      stuck-short : (r : List ℕ) → read_map l ≡ map_missing r → Stuck W d ds seen at (b ∷ l)
      stuck-short r k = record {
        place = at + suc (length l);
        from = r;
        stops = word-stops r (full-map W d.sort b l (map_missing r) w e k);
        placed = omega (arith, map_missing_lem l r k);
        fits = ValueFault.ends_in_map b l r refl w k;
        first = λ q h. first (byte-fault W d ds seen at b l h);
      }
        where
          first : {q : ℕ} → ByteFault W d at b l q → at + suc (length l) ≤ q
          first (deep h) = absurd (omega arith)
          first (not_aWord h) = absurd (h w)
          first (other_kind h n) = absurd (n e)
          first (ends_in_map r' h k') = omega arith
          first (other_map m r' h k' n) = let z : ◌≡◌ {A = ℕ} 0 1 = cc in absurd (omega arith)

      stuck-map : (m : ℕ) (r : List ℕ) → read_map l ≡ map_got m r → eqb m (map_of W b) ≡ false → Stuck W d ds seen at (b ∷ l)
      stuck-map m r k n = record {
        place = at + 1;
        from = l;
        stops = word-stops l (full-map W d.sort b l (map_got m r) w e k ∙ cond_false (eqb m (map_of W b)) _ _ n);
        placed = omega arith;
        fits = ValueFault.other_map b m l r refl w k (eqb-false m (map_of W b) n);
        first = λ q h. first (byte-fault W d ds seen at b l h);
      }
        where
          first : {q : ℕ} → ByteFault W d at b l q → at + 1 ≤ q
          first (deep h) = absurd (omega arith)
          first (not_aWord h) = absurd (h w)
          first (other_kind h n) = absurd (n e)
          first (ends_in_map r' h k') = omega arith
          first (other_map m' r' h k' n') = omega arith

      moves_word : (r : List ℕ) → read_map l ≡ map_got (map_of W b) r → Moves W d ds seen at (b ∷ l)
      moves_word r k = record { next = _; step = FullStep.on_full_word b l r o w e k; clear = λ q h. clear (byte-fault W d ds seen at b l h) }
        where
          clear : {q : ℕ} → ByteFault W d at b l q → ⊥
          clear (deep h) = omega arith
          clear (not_aWord h) = h w
          clear (other_kind h n) = n e
          clear (ends_in_map r' h k') = let z : ◌≡◌ {A = ℕ} 0 1 = cc in omega arith
          clear (other_map m r' h k' n) = let p : m ≡ map_of W b = cc in n p

      look_map : (v : MapRead) → read_map l ≡ v → Stuck W d ds seen at (b ∷ l) ⊎ Moves W d ds seen at (b ∷ l)
      look_map (map_missing r) k = inl (stuck-short r k)
      look_map (map_got m r) k = go (eqb m (map_of W b)) refl
        where
          go : (t : Bool) → eqb m (map_of W b) ≡ t → Stuck W d ds seen at (b ∷ l) ⊎ Moves W d ds seen at (b ∷ l)
          go true h = inr (moves_word r (k ∙ ap (λ m. map_got m r) (eqb-true m (map_of W b) h)))
          go false h = inl (stuck-map m r k h)

    look_word : (t u : Bool) → is_word W b ≡ t → eqb (word W b).result d.sort ≡ u → Stuck W d ds seen at (b ∷ l) ⊎ Moves W d ds seen at (b ∷ l)
    look_word true true p q = look_map (ltb-true _ _ p) (eqb-true _ _ q) (read_map l) refl
    look_word true false p q =
        inl (stuck-stray (ap₂ ◌&&◌ p q) (ValueFault.other_kind b l refl (ltb-true _ _ p) (eqb-false _ _ q)))
    look_word false u p q =
        inl (stuck-stray (ap₂ ◌&&◌ p q) (ValueFault.not_aWord b l refl (λ h. omega (arith, ltb-false b (length W.words) p))))

-- What there is at a state where a term is due.
pub look : (W : Vocabulary) (d : Due) (ds : List Due) (seen : List Occurrence) (at : ℕ) (rest : List ℕ) →
    Stuck W d ds seen at rest ⊎ Moves W d ds seen at rest
look W d ds seen at [] = inl (stuck-empty W d ds seen at)
look W d ds seen at (b ∷ l) = level (ltb most_levels d.level) refl
  where
    level : (t : Bool) → ltb most_levels d.level ≡ t → Stuck W d ds seen at (b ∷ l) ⊎ Moves W d ds seen at (b ∷ l)
    level true e = inl (stuck-deep W d ds seen at b l (ltb-true _ _ e))
    level false e = look_word W d ds seen at b l (ltb-false _ _ e) (is_word W b) (eqb (word W b).result d.sort) refl refl
