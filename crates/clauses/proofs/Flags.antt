-- Flags: the bits of the places that are read, as a map.
--
--   written-full     they are the written map of a word whose places are counted without gaps
--   flags-small      so many bits are a number below 256, and with one less below 128
--
use mathlib.Core.Path.{◌≡◌, refl, ap, ◌∙◌}
use mathlib.Core.Bool.{Bool, true, false}
use mathlib.Core.List.{List, ◌++◌}
use Prim.Native.Nat.{ℕ, zero, suc, ◌+◌, ◌-◌, ◌^◌, ◌<◌, ◌≤◌}
use native.Mathlib.Omega.{arith}
use native.Mathlib.Nat.{pow-suc}
use lib.ListN.{length, replicate}
use Rattle.terms.specs.Term.{Terms, nil, cons}
use Rattle.wire.specs.Map.{map_bits, flags, number, written_flags}
use Rattle.wire.proofs.Map.{number_lt}
use Rattle.texts.specs.Lexicon.{gapless_map}
use Rattle.clauses.specs.Reading.{place_flags}

full-flags : (c : ℕ) → c ≤ map_bits → flags (gapless_map c) ≡ replicate c true ++ replicate (map_bits - c) false
full-flags zero h = refl
full-flags (suc zero) h = refl
full-flags (suc (suc zero)) h = refl
full-flags (suc (suc (suc zero))) h = refl
full-flags (suc (suc (suc (suc zero)))) h = refl
full-flags (suc (suc (suc (suc (suc zero))))) h = refl
full-flags (suc (suc (suc (suc (suc (suc zero)))))) h = refl
full-flags (suc (suc (suc (suc (suc (suc (suc zero))))))) h = refl
full-flags (suc (suc (suc (suc (suc (suc (suc (suc zero)))))))) h = refl
full-flags (suc (suc (suc (suc (suc (suc (suc (suc (suc c))))))))) h = absurd (omega arith)

none_written : (d : ℕ) (ts : Terms) → number (written_flags (replicate d false) ts) ≡ 0
none_written zero ts = refl
none_written (suc d) ts = let h = none_written d ts in omega arith

some_written : (c d : ℕ) (ts : Terms) → length (place_flags ts) ≡ c → number (written_flags (replicate c true ++ replicate d false) ts) ≡ number (place_flags ts)
some_written zero d nil e = none_written d nil
some_written zero d (cons t ts) e = absurd (omega arith)
some_written (suc c) d nil e = absurd (omega arith)
some_written (suc c) d (cons t ts) e = let h = some_written c d ts (omega arith) in omega arith

pub written-full : (c : ℕ) (ts : Terms) → c ≤ map_bits → length (place_flags ts) ≡ c →
    number (written_flags (flags (gapless_map c)) ts) ≡ number (place_flags ts)
written-full c ts h e = ap (λ fs. number (written_flags fs ts)) (full-flags c h) ∙ some_written c (map_bits - c) ts e

power_le : (d e : ℕ) → 2 ^ d ≤ 2 ^ (d + e)
power_le d zero = let z : d + 0 ≡ d = omega arith in omega (arith, ap (λ n. 2 ^ n) z)
power_le d (suc e) =
    let z : d + suc e ≡ suc (d + e) = omega arith in
    omega (arith, ap (λ n. 2 ^ n) z, pow-suc 2 (d + e), power_le d e)

pub flags-below : (fs : List Bool) (m : ℕ) → length fs ≤ m → number fs < 2 ^ m
flags-below fs m h =
    let z : length fs + (m - length fs) ≡ m = omega arith in
    omega (arith, number_lt fs, power_le (length fs) (m - length fs), ap (λ n. 2 ^ n) z)
