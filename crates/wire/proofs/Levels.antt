-- Levels: a level takes a byte at least: a term has no more levels than bytes.
use Prim.Native.Nat.{◌≤◌}
use native.Mathlib.Omega.{arith}
use lib.ListN.{length, length-append}
use Rattle.terms.specs.Term.{Term, any, var, app, Terms, nil, cons}
use Rattle.wire.specs.Map.{write_map}
use Rattle.wire.specs.Vocabulary.{Vocabulary}
use Rattle.wire.specs.TermBytes.{written_map, encode_at, encode_all, encode_root, levels, levels_all, deepest}

module _ (W : Vocabulary) where
  mutual
    pub levels-bytes : (t : Term) → levels t ≤ length (encode_at W t)
    levels-bytes any = omega arith
    levels-bytes (var n) = omega arith
    levels-bytes (app f ts) =
        let h = levels_bytes_all ts in omega (arith, length-append (write_map (written_map W f ts)) (encode_all W ts))

    pub levels_bytes_all : (ts : Terms) → levels_all ts ≤ length (encode_all W ts)
    levels_bytes_all nil = omega arith
    levels_bytes_all (cons t ts) =
        let h = levels-bytes t in let k = levels_bytes_all ts in omega (arith, length-append (encode_at W t) (encode_all W ts))

  pub deepest-bytes : (t : Term) → deepest t ≤ length (encode_root W t)
  deepest-bytes any = omega arith
  deepest-bytes (var n) = omega arith
  deepest-bytes (app f ts) = let h = levels-bytes (app f ts) in omega arith
