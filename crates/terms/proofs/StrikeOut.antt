-- StrikeOut: each entry has a ground term that fits it and nothing else.
use mathlib.Core.Path.{◌≡◌}
use Prim.Native.Nat.{suc}
use native.Mathlib.Omega.{arith}
use Rattle.terms.specs.Term.{any}
use Rattle.terms.specs.Listing.{Fitted}
use Rattle.terms.specs.Laws.{StrikeOut}
use Rattle.terms.proofs.All.{all-at}
use Rattle.terms.proofs.Listing.{entries-fitted}
use Rattle.terms.proofs.Partition.{partition}

pub strike_out : StrikeOut
strike_out S p s l wf h u is i b =
    let w = all-at (Fitted S s) any l (entries-fitted S p s l is) i b in
    let one = partition S p s l wf h u is w.0 w.1 in
    let here : suc i ≡ one.index = one.only (suc i) (omega arith) w.2 in
    record {
      situation = w.0;
      sorted = w.1;
      fits = w.2;
      not_pattern = λ e. omega (arith, one.only 0 (omega arith) e);
      only = λ j k e. omega (arith, one.only (suc j) (omega arith) e);
    }
