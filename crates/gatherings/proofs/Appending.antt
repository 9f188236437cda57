-- Appending: a pattern is put behind those that were gathered.
--
--   appended                   bytes are copied to the part behind those that stand there
--   kept-other                 a pattern of another kind is left out
--   kept-many                  there are too many patterns, and it is only counted
--   kept                       the pattern is put behind the others
--   sealed                     the count is written before the patterns
--
use mathlib.Core.Path.{◌≡◌, refl, sym, ap, ◌∙◌}
use mathlib.Core.List.{List, [], ◌∷◌, ◌++◌}
use Prim.Native.Nat.{ℕ, zero, suc, ◌+◌, ◌<◌, ◌≤◌}
use native.Mathlib.Omega.{arith}
use lib.ListN.{length, take, drop, set, length-append, take-append-drop}
use lib.Seq.{length-take-le, take_at, drop-append-le}
use Rattle.slices.specs.Copied.{copied}
use Rattle.slices.specs.Written.{Written}
use Rattle.slices.proofs.Writing.{part, back, written-copied}
use Rattle.gatherings.specs.Gathering.{Sized, row_in, Appends, Keeps}

module _ (pattern : List ℕ) (n : ℕ) (book : List ℕ) (at : ℕ) (long : n ≤ length pattern) (some : 1 ≤ at) (room : at + n ≤ length book) {ys : List ℕ} (is : ys ≡ copied (take n pattern) (part at book)) where
  abbrev both : List ℕ
  both = take at book ++ take n pattern

  front-size : length (take at book) ≡ at
  front-size = length-take-le at book (let r = room in omega arith)

  both-size : length both ≡ at + n
  both-size = length-append (take at book) (take n pattern) ∙ omega (arith, front-size, length-take-le n pattern long)

  -- What stands before the offset is written over the same.
  stood : Written (take at book) book at book
  stood = record {
    count = sym front-size;
    same = sym (ap (λ (i : ℕ). take at book ++ drop i book) front-size ∙ take-append-drop at book);
  }

  written : Written both book (at + length (take n pattern)) (back at book ys)
  written =
      let r = room in
      written-copied stood (omega (arith, front-size)) (take n pattern) (omega (arith, front-size, length-take-le n pattern long))
      is

  pub appended : Appends pattern n book at (back at book ys)
  appended =
      ap (λ (l : List ℕ). row_in (at + n) l) written.same
      ∙ ap (drop 1) (take_at both (drop (length both) book) (at + n) both-size)
      ∙ drop-append-le 1 (take at book) (take n pattern) (let s = some in omega (arith, front-size))

module _ {kind s : ℕ} {pattern : List ℕ} {n : ℕ} {book : List ℕ} {count size : ℕ} (sized : Sized count size) where
  pub kept-other : (kind ≡ s → ⊥) → Keeps kind s pattern n book count size book (record { count = count; size = size })
  kept-other not = record {
    sized = sized;
    most = omega arith;
    other = λ _. (refl, refl);
    counts = λ e. absurd (not e);
    keeps = λ e _. absurd (not e);
  }

  module _ (same : kind ≡ s) where
    pub kept-many : 64 ≤ count → Keeps kind s pattern n book count size book (record { count = count + 1; size = size })
    kept-many many = record {
      sized = record { some = sized.some; few = let f = sized.few in omega arith; room = sized.room };
      most = omega arith;
      other = λ not. absurd (not same);
      counts = λ _. refl;
      keeps = λ _ few. absurd (omega arith);
    }

    pub kept : count < 64 → n ≤ 4096 → {after : List ℕ} → Appends pattern n book size after →
        Keeps kind s pattern n book count size after (record { count = count + 1; size = size + n })
    kept more short puts = record {
      sized = record {
        some = let h = sized.some in omega arith;
        few = let h = sized.few in omega arith;
        room = let h = sized.few in omega arith;
      };
      most = omega arith;
      other = λ not. absurd (not same);
      counts = λ _. refl;
      keeps = λ _ _. puts;
    }

pub sealed : (book : List ℕ) (size count : ℕ) → 1 ≤ size → 1 ≤ length book → take size (set book 0 count) ≡ count ∷ row_in size book
sealed [] size count some long = absurd (omega arith)
sealed (x ∷ book) zero count some long = absurd (omega arith)
sealed (x ∷ book) (suc size) count some long = refl
