-- AgainstSizes: what both allow, and each leftover, has no more bytes than the entry and the pattern have together, and no more
-- levels than the deeper of them.
--
--   nameless-short, nameless-levels   a term with its names opened is no longer and no deeper
--   both-short, both-levels           what both allow
--   cut_short, cut-levels             each leftover
--
use mathlib.Core.Path.{ap}
use Prim.Native.Nat.{◌+◌, ◌≤◌, max}
use native.Mathlib.Omega.{arith}
use lib.ListN.{length, length-append}
use Rattle.terms.specs.Lists.{All}
use Rattle.terms.specs.Signature.{Signature, arguments}
use Rattle.terms.specs.Term.{Term, any, var, app, Terms, nil, cons}
use Rattle.terms.specs.Listing.{others}
use Rattle.terms.specs.Book.{nameless, nameless_all, both, both_all, cut}
use Rattle.terms.proofs.All.{all_always}
use Rattle.terms.proofs.CutEach.{cut-each}
use Rattle.wire.specs.Vocabulary.{Vocabulary}
use Rattle.wire.specs.TermBytes.{encode_at, encode_all, levels, levels_all}
use Rattle.wire.proofs.Entries.{open_bytes, open_every-bytes}
use Rattle.wire.proofs.EntryLevels.{open_levels, open_every-levels}

-- ---- levels

mutual
  pub nameless-levels : (t : Term) → levels (nameless t) ≤ levels t
  nameless-levels any = omega arith
  nameless-levels (var n) = omega arith
  nameless-levels (app f ts) = omega (arith, nameless-levels_all ts)

  nameless-levels_all : (ts : Terms) → levels_all (nameless_all ts) ≤ levels_all ts
  nameless-levels_all nil = omega arith
  nameless-levels_all (cons t ts) = omega (arith, nameless-levels t, nameless-levels_all ts)

mutual
  pub both-levels : (e p : Term) → levels (both e p) ≤ max (levels e) (levels p)
  both-levels any p = omega (arith, nameless-levels p)
  both-levels (var n) p = omega (arith, nameless-levels p)
  both-levels (app f es) any = omega arith
  both-levels (app f es) (var n) = omega arith
  both-levels (app f es) (app h ps) = omega (arith, both-levels_all es ps)

  both-levels_all : (es ps : Terms) → levels_all (both_all es ps) ≤ max (levels_all es) (levels_all ps)
  both-levels_all nil ps = omega arith
  both-levels_all (cons e es) nil = omega arith
  both-levels_all (cons e es) (cons p ps) = omega (arith, both-levels e p, both-levels_all es ps)

pub cut-levels : (S : Signature) (e p : Term) → All (λ c. levels c ≤ max (levels e) (levels p)) (cut S e p)
cut-levels S e p =
    cut-each S (λ e p c. levels c ≤ max (levels e) (levels p)) (λ es ps cs. levels_all cs ≤ max (levels_all es) (levels_all ps))
    record {
      other = λ f ps. all_always _ (λ h. omega (arith, open_levels (arguments S h))) (others S f);
      opened = λ f ps cs h. omega (arith, open_every-levels ps);
      named = λ n p c h. omega arith;
      word = λ f g es ps cs h. omega arith;
      here = λ e p c es ps h. omega arith;
      above = λ e p es ps cs h. omega (arith, both-levels e p);
    }
    p e

-- ---- bytes

module _ (W : Vocabulary) where
  mutual
    pub nameless-short : (t : Term) → length (encode_at W (nameless t)) ≤ length (encode_at W t)
    nameless-short any = omega arith
    nameless-short (var n) = omega arith
    nameless-short (app f ts) = omega (arith, nameless_short_all ts)

    nameless_short_all : (ts : Terms) → length (encode_all W (nameless_all ts)) ≤ length (encode_all W ts)
    nameless_short_all nil = omega arith
    nameless_short_all (cons t ts) =
        simp length-append (omega (arith, nameless-short t, nameless_short_all ts))

  mutual
    pub both-short : (e p : Term) → length (encode_at W (both e p)) ≤ length (encode_at W e) + length (encode_at W p)
    both-short any p = omega (arith, nameless-short p)
    both-short (var n) p = omega (arith, nameless-short p)
    both-short (app f es) any = omega arith
    both-short (app f es) (var n) = omega arith
    both-short (app f es) (app h ps) = omega (arith, both_short_all es ps)

    both_short_all : (es ps : Terms) → length (encode_all W (both_all es ps)) ≤ length (encode_all W es) + length (encode_all W ps)
    both_short_all nil ps = omega arith
    both_short_all (cons e es) nil = omega arith
    both_short_all (cons e es) (cons p ps) = simp length-append (omega (arith, both-short e p, both_short_all es ps))

  pub cut_short : (S : Signature) (e p : Term) → All (λ c. length (encode_at W c) ≤ length (encode_at W e) + length (encode_at W p)) (cut S e p)
  cut_short S e p =
      cut-each S (λ e p c. length (encode_at W c) ≤ length (encode_at W e) + length (encode_at W p))
      (λ es ps cs. length (encode_all W cs) ≤ length (encode_all W es) + length (encode_all W ps))
      record {
        other = λ f ps. all_always _ (λ h. omega (arith, ap length (open_bytes W (arguments S h)))) (others S f);
        opened = λ f ps cs h. omega (arith, ap length (open_every-bytes W ps));
        named = λ n p c h. omega arith;
        word = λ f g es ps cs h. omega arith;
        here = λ e p c es ps h. simp length-append (omega arith);
        above = λ e p es ps cs h. simp length-append (omega (arith, both-short e p));
      }
      p e
