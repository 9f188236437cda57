-- TermsInverse: a term is read exactly where it is the writing of a good one.
use mathlib.Core.Path.{◌≡◌, ap}
use mathlib.Core.List.{List}
use Prim.Native.Nat.{ℕ, ◌≤◌}
use native.Mathlib.Omega.{arith}
use lib.ListN.{length}
use Rattle.terms.specs.Term.{Term}
use Rattle.wire.specs.Vocabulary.{Vocabulary}
use Rattle.wire.specs.TermBytes.{encode_term, deepest}
use Rattle.wire.specs.Laws.{TermsInverse}
use Rattle.wire.proofs.Levels.{deepest-bytes}
use Rattle.wire.proofs.WholeTerms.{writes_whole, whole_writes}

-- With no limit the levels always fit.
pub deepest-length : (W : Vocabulary) (b : List ℕ) (s : ℕ) (t : Term) → b ≡ encode_term W s t → deepest t ≤ length b
deepest-length W b s t e = let h = deepest-bytes W t in let n = ap length e in omega arith

pub terms_inverse : TermsInverse
terms_inverse W b s t in_order bytes = (
  λ e. let w = whole_writes W (length b) b (record { kind = s; term = t }) in_order bytes e in (w.good, w.bytes),
  λ h. writes_whole W (length b) b (record { kind = s; term = t }) in_order
      (record { good = h.0; bytes = h.1; fits = deepest-length W b s t h.1 }),
)
