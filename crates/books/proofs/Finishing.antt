-- Finishing: the first bytes of an area are written into the lent slice, or have no room there.
--
--   finish_short, finish_written    the two answers
--
use mathlib.Core.Path.{◌≡◌, sym, ap, ◌∙◌}
use mathlib.Core.List.{List, [], ◌∷◌, ◌++◌}
use Prim.Native.Nat.{ℕ, ◌<◌, ◌≤◌}
use native.Mathlib.Omega.{arith}
use lib.Dec.{leb}
use lib.ListN.{length, take, drop}
use lib.Seq.{length-take-le}
use borrow.Author.Tests.{le-leb, lt-leb}
use Rattle.wire.specs.Reply.{accepted, refused}
use Rattle.wire.specs.Effect.{Effect, HasEffect}
use Rattle.wire.specs.ListComputed.{listed_into}
use Rattle.wire.proofs.Cond.{cond_true, cond_false}
use Rattle.slices.specs.Copied.{copied}
use Rattle.slices.proofs.Copying.{copied-whole}

module _ (area : List ℕ) (n k : ℕ) (out : List ℕ) (inside : n ≤ length area) where
  abbrev b : List ℕ
  b = take n area

  size : length b ≡ n
  size = length-take-le n area inside

  pub finish_short : length out < n → HasEffect (listed_into out k b) (refused 20 3 n) out
  finish_short h =
      let e : listed_into out k b ≡ record { reply = refused 20 3 (length b); after = out } =
      cond_false (leb (length b) (length out)) _ _ (lt-leb (length b) (length out) (omega (arith, size))) in
      record { reply = ap (refused 20 3) (sym size) ∙ sym (ap (λ (l : Effect). l.reply) e); after = sym (ap (λ (l : Effect). l.after) e) }

  pub finish_written : n ≤ length out → {after : List ℕ} → after ≡ copied b out → HasEffect (listed_into out k b) (accepted (k ∷ n ∷ [])) after
  finish_written h {after} a =
      let e : listed_into out k b ≡ record { reply = accepted (k ∷ length b ∷ []); after = b ++ drop (length b) out } =
      cond_true (leb (length b) (length out)) _ _ (le-leb (length b) (length out) (omega (arith, size))) in
      record {
        reply = ap (λ y. accepted (k ∷ y ∷ [])) (sym size) ∙ sym (ap (λ (l : Effect). l.reply) e);
        after = a ∙ copied-whole b out (omega (arith, size)) ∙ sym (ap (λ (l : Effect). l.after) e);
      }
