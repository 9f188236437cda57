-- AgainstGood: an entry without names, of a kind of the vocabulary, is a good term.
use mathlib.Core.Path.{sym, subst}
use Prim.Native.Nat.{ℕ, ◌<◌}
use Rattle.terms.specs.Lists.{All}
use Rattle.terms.specs.Term.{Term}
use Rattle.terms.proofs.Term.{linear_well_sorted}
use Rattle.terms.proofs.Nameless.{Entry, entry-linear}
use Rattle.wire.specs.Vocabulary.{Vocabulary, signature}
use Rattle.wire.specs.TermBytes.{name_count, GoodTerm}

pub entry-good : (W : Vocabulary) (s : ℕ) (e : Term) → s < W.kinds → Entry (signature W) s e → GoodTerm W s e
entry-good W s e kind h = record {
  kind = kind;
  sorted = let u = entry-linear (signature W) s e h in linear_well_sorted (signature W) e s u.0 u.1;
  named = subst (All (λ n. n < name_count)) (sym h.1) tt;
}
