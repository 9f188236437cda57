-- Moving: the words that are moved to a kind without complete situations, record by record.
--
--   Moved v n w e marked before after    the first w of n words had their turn
--
use mathlib.Core.Path.{◌≡◌, refl, ◌∙◌, ap}
use mathlib.Core.Bool.{Bool, true, false, cond}
use mathlib.Core.List.{List}
use Prim.Native.Nat.{ℕ, ◌+◌, ◌<◌, ◌≤◌}
use native.Mathlib.Omega.{arith}
use native.Mathlib.Decide.{ℕ_discrete}
use lib.ListN.{length, get_or, set, length-set}
use lib.Seq.{get_or-set_same, get_or-set_other}
use Rattle.terms.specs.Emptiness.{covered}
use Rattle.wire.specs.Vocabulary.{no_word}
use Rattle.signature.specs.Loading.{records_in, Marks, FilledCounted, PlacesCovered, MovesWords}
use Rattle.signature.proofs.Rounds.{entry-covers, places_are}

abbrev kinds_at : List ℕ → ℕ → ℕ → List ℕ
kinds_at v n f = (get_or (records_in v n) f no_word).kinds

pub record Moved (v : List ℕ) (n w e : ℕ) (marked : List Bool) (before after : List ℕ) : Type 0 where
  pub passed : w ≤ n
  pub size : length after ≡ length before
  pub behind : (f : ℕ) → w ≤ f → get_or after f 0 ≡ get_or before f 0
  pub done : (l : List ℕ) → Marks marked l → (f : ℕ) → f < w → get_or after f 0 ≡ cond (covered (kinds_at v n f) l) (get_or before f 0) e

pub moved_none : (v : List ℕ) (n e : ℕ) (marked : List Bool) (before : List ℕ) → Moved v n 0 e marked before before
moved_none v n e marked before = record { passed = omega arith; size = refl; behind = λ f h. refl; done = λ l m f h. absurd (omega arith) }

pub moved_all : (v : List ℕ) (n w e : ℕ) (marked : List Bool) (before after : List ℕ) → Moved v n w e marked before after → n ≤ w → MovesWords v n e marked before after
moved_all v n w e marked before after m h =
    (m.size, (λ f b. m.behind f (let p = m.passed in omega arith)), λ l k f b. m.done l k f (omega arith))

module _ (v : List ℕ) (n : ℕ) (o r c : List ℕ) (reach : FilledCounted v n o r c) (w e : ℕ) (b : w < n) (marked : List Bool) (before after : List ℕ)
    (moved : Moved v n w e marked before after) (t : Bool) (covers : PlacesCovered v (get_or o w 0) (get_or c w 0) marked t) where
  covered-here : (l : List ℕ) → Marks marked l → t ≡ covered (kinds_at v n w) l
  covered-here l marks = entry-covers v _ _ _ _ _ (reach.filled.entries w b) (places_are v n o r c reach w b) marked l t covers marks

  -- Below w nothing changes, and at w it is what the places' kinds say.
  step : (next : List ℕ) → length next ≡ length after → ((f : ℕ) → (f ≡ w → ⊥) → get_or next f 0 ≡ get_or after f 0) →
      get_or next w 0 ≡ cond t (get_or before w 0) e → Moved v n (w + 1) e marked before next
  step next size others here = record {
    passed = omega arith;
    size = size ∙ moved.size;
    behind = λ f h. others f (λ d. omega arith) ∙ moved.behind f (omega arith);
    done = λ l marks f h. at l marks f h (ℕ_discrete f w);
  }
    where
      at : (l : List ℕ) → Marks marked l → (f : ℕ) → f < w + 1 → Dec (f ≡ w) → get_or next f 0 ≡ cond (covered (kinds_at v n f) l) (get_or before f 0) e
      at l marks f h (yes d) = rw d (here ∙ ap (λ c. cond c (get_or before w 0) e) (covered-here l marks))
      at l marks f h (no d) = others f d ∙ moved.done l marks f (omega arith)

  pub moved_stay : t ≡ true → (next : List ℕ) → next ≡ after → Moved v n (w + 1) e marked before next
  moved_stay d next s =
      step next (ap length s) (λ f _. ap (λ l. get_or l f 0) s) (ap (λ l. get_or l w 0) s ∙ moved.behind w (omega arith) ∙ rw d)

  pub moved-set : t ≡ false → w < length before → (next : List ℕ) → next ≡ set after w e → Moved v n (w + 1) e marked before next
  moved-set d room next s =
      step next (ap length s ∙ length-set after w e) (λ f apart. ap (λ l. get_or l f 0) s ∙ get_or-set_other after w f e 0 (λ q. apart q))
      (ap (λ l. get_or l w 0) s ∙ get_or-set_same after w e 0 (let z = moved.size in omega arith) ∙ rw d)
