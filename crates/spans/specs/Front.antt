-- Front: what the walk over a pattern and a situation promises that nobody has read yet; no public contract cites it.
--
--   PartsInside s spans        the spans have 128 numbers, and each lies in the bytes s
--   PartsGiven s spans F       F gives each name that is noted the bytes of its part
--   AtFront p s spans i j      up to i and j s is p, with the noted parts in place of the names, and these terms are due
--                              of whatever inputs p and s write
--   PausedAt p s spans i j     the walk can go on at i and j once p and s are read
--   Paused p s spans r         the same of how far the walk has come, or there is no filling
--
use Rattle.std.specs.Prelude as P
use Rattle.std.specs.Prelude.{Some, None, ◌≡◌, false, List, ℕ, ◌+◌, ◌*◌, ◌<◌, ◌≤◌, length, get_or, drop, replicate}
use Rattle.wire.specs.Splicing.{spliced, part_in}
use Rattle.runs.specs.Alike.{Alike}
use Rattle.spans.specs.Walking.{Walked, Going}
use Rattle.spans.specs.declared.Reached.{Reached}

pub record PartsInside (s spans : List ℕ) : Type 0 where
  pub entries : length spans ≡ 128
  pub inside : (n : ℕ) → n < 64 → get_or spans (2 * n) 0 + get_or spans (2 * n + 1) 0 ≤ length s

abbrev pub PartsGiven : List ℕ → List ℕ → (ℕ → List ℕ) → Type 0
PartsGiven s spans F = (n : ℕ) → (get_or spans (2 * n + 1) 0 ≡ 0 → ⊥) → F n ≡ part_in s spans n

pub record AtFront (p s spans : List ℕ) (i j : ℕ) : Type 0 where
  pub alike : Alike p s
  pub parts : PartsInside s spans
  pub inside_pattern : i ≤ length p
  pub inside_situation : j ≤ length s
  -- What is left of s is what is left of p only where all of s is all of p.
  pub so_far : (F : ℕ → List ℕ) → PartsGiven s spans F → drop j s ≡ spliced F (drop i p) → drop 1 s ≡ spliced F (drop 1 p)
  pub going : Going p s spans i j

pub record PausedAt (p s spans : List ℕ) (i j : ℕ) : Type 0 where
  pub on : get_or p 1 0 < 128 → Going p s spans i j
  pub root : 128 ≤ get_or p 1 0 → spans ≡ replicate 128 0

abbrev pub Paused : List ℕ → List ℕ → List ℕ → P.Option Reached → Type 0
Paused p s spans None = Walked p s spans false
Paused p s spans (Some r) = PausedAt p s spans r.pattern r.situation
