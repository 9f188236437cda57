-- ScanPath: the states to which a term's bytes lead lie on one path, which the scan goes along.
use mathlib.Core.Path.{◌≡◌, refl, ap, ◌∙◌, subst}
use mathlib.Core.List.{List, [], ◌∷◌}
use mathlib.Core.Logic.{◌⊎◌, inl, inr}
use Prim.Native.Nat.{ℕ, zero, suc, ◌+◌, ◌<◌}
use native.Mathlib.Omega.{arith}
use lib.ListN.{length}
use Rattle.terms.specs.Term.{Occurrence}
use Rattle.wire.specs.Map.{flags, slots}
use Rattle.wire.specs.Vocabulary.{Vocabulary, InOrder, word, map_of}
use Rattle.wire.specs.TermBytes.{whole_byte}
use Rattle.wire.specs.Refusals.{Sooner}
use Rattle.wire.specs.TermLines.{Due, State, Step, on_word, on_name, on_whole, LeadsTo, here, next, NodeLine}
use Rattle.wire.specs.Parser.{Got, stop}
use Rattle.wire.proofs.Map.{map-got}
use Rattle.wire.proofs.Node.{node-symbol, node-name, node-whole}
use Rattle.wire.specs.Scan.{Tally, Scanned, with_word, with_leaf, run, scan_node, root_due, no_tally}
use Rattle.wire.proofs.Scan.{run-node}
use Rattle.wire.proofs.NodeLines.{at_due, Stuck, Moves, look}

-- What a scan of the bytes l from a term's first byte gives.
abbrev pub scanned : Vocabulary → ℕ → List ℕ → Got Scanned
scanned W s l = run W (root_due s ∷ []) [] no_tally l

abbrev pub run_at : Vocabulary → State → Tally → Got Scanned
run_at W x y = run W x.due x.seen y x.rest

-- A step keeps what the scan gives.
pub step_runs : (W : Vocabulary) → InOrder W → {x x' : State} → Step W x x' → (y : Tally) → (z : Tally) × (run_at W x y ≡ run_at W x' z)
step_runs W in_order (on_word {d = d} {ds = ds} {seen = seen} f m l r o w e k h) y = (
  with_word d.level (slots (flags (map_of W f)) (flags m) (word W f).kinds) r y,
  run-node W d ds seen y (f ∷ l) o ∙ ap (scan_node (run W) d ds seen y) (node-symbol W d.root d.sort seen f m l r w e k h),
)
step_runs W in_order (on_name {d = d} {ds = ds} {seen = seen} b n l o h c) y = (
  with_leaf d.level l y,
  run-node W d ds seen y (b ∷ l) o ∙ ap (scan_node (run W) d ds seen y) (node-name W d.root d.sort seen in_order b n l h c),
)
step_runs W in_order (on_whole {d = d} {ds = ds} {seen = seen} l o h) y = (
  with_leaf d.level l y,
  run-node W d ds seen y (whole_byte ∷ l) o ∙ ap (scan_node (run W) d ds seen y) (node-whole W d.root d.sort seen in_order l h),
)

-- A step takes bytes, and counts them.
pub step-places : (W : Vocabulary) {x x' : State} → Step W x x' →
    (x'.at + length x'.rest ≡ x.at + length x.rest) × (length x'.rest < length x.rest)
step-places W (on_word f m l r o w e k h) = let p = map-got l m r k in (omega arith, omega arith)
step-places W (on_name b n l o h c) = (omega arith, omega arith)
step-places W (on_whole l o h) = (omega arith, omega arith)

pub record OnPath (W : Vocabulary) (s : ℕ) (l : List ℕ) (x : State) : Type 0 where
  pub tally : Tally
  pub runs : scanned W s l ≡ run_at W x tally
  pub placed : x.at + length x.rest ≡ suc (length l)

pub leads_to_path : (W : Vocabulary) → InOrder W → (s : ℕ) (l : List ℕ) {x : State} → LeadsTo W s l x → OnPath W s l x
leads_to_path W in_order s l here = record { tally = no_tally; runs = refl; placed = omega arith }
leads_to_path W in_order s l (next p q) =
    let o = leads_to_path W in_order s l p in
    let k = step_runs W in_order q o.tally in
    let h = step-places W q in
    record { tally = k.0; runs = o.runs ∙ k.1; placed = omega arith }

-- The scan stops, with a number that comes no later than n at q.
pub record ScanStops (W : Vocabulary) (s : ℕ) (l : List ℕ) (n q : ℕ) : Type 0 where
  pub number : ℕ
  pub place : ℕ
  pub from : List ℕ
  pub stops : scanned W s l ≡ stop number from
  pub placed : place + length from ≡ suc (length l)
  pub sooner : Sooner number place n q

-- Where a line fits at a state to which the bytes lead, the scan stops.
pub line-stops : (W : Vocabulary) → InOrder W → (s : ℕ) (l : List ℕ) (x : State) (d : Due) (ds : List Due) (n q : ℕ) →
    LeadsTo W s l x → x.due ≡ d ∷ ds → NodeLine W x d n q → ScanStops W s l n q
line-stops W in_order s l x d ds n q p e h = at_fields (look W in_order d ds x.seen x.at x.rest)
  where
    same : x ≡ at_due d ds x.seen x.at x.rest
    same = λ i. record { due = e i; seen = x.seen; at = x.at; rest = x.rest }

    line : NodeLine W (at_due d ds x.seen x.at x.rest) d n q
    line = subst (λ x. NodeLine W x d n q) same h

    at_fields : Stuck W d ds x.seen x.at x.rest ⊎ Moves W d ds x.seen x.at x.rest → ScanStops W s l n q
    at_fields (inl k) =
        let o = leads_to_path W in_order s l p in
        let a = o.placed in
        let b = k.placed in
        record {
          number = k.number;
          place = k.place;
          from = k.from;
          stops = o.runs ∙ ap (λ due. run W due x.seen o.tally x.rest) e ∙ k.stops o.tally;
          placed = omega arith;
          sooner = k.decides.first n q line;
        }
    at_fields (inr k) = absurd (k.clear n q line)

-- Where the path ends: at a line that decides, or with nothing due.
pub record EndsStuck (W : Vocabulary) (s : ℕ) (l : List ℕ) : Type 0 where
  pub first : Due
  pub due : List Due
  pub seen : List Occurrence
  pub at : ℕ
  pub rest : List ℕ
  pub leads : LeadsTo W s l (at_due first due seen at rest)
  pub stuck : Stuck W first due seen at rest

pub record EndsDone (W : Vocabulary) (s : ℕ) (l : List ℕ) : Type 0 where
  pub seen : List Occurrence
  pub at : ℕ
  pub rest : List ℕ
  pub leads : LeadsTo W s l (record { due = []; seen = seen; at = at; rest = rest })

walk : (W : Vocabulary) → InOrder W → (s : ℕ) (l : List ℕ) (k : ℕ) (due : List Due) (seen : List Occurrence) (at : ℕ) (rest : List ℕ) →
    length rest < k → LeadsTo W s l (record { due = due; seen = seen; at = at; rest = rest }) → EndsStuck W s l ⊎ EndsDone W s l
walk W in_order s l zero due seen at rest h p = absurd (omega arith)
walk W in_order s l (suc k) [] seen at rest h p = inr (record { seen = seen; at = at; rest = rest; leads = p })
walk W in_order s l (suc k) (d ∷ ds) seen at rest h p =
    go (λ x u q. walk W in_order s l k x.due x.seen x.at x.rest u q) (look W in_order d ds seen at rest)
  where
    go : ((x : State) → length x.rest < k → LeadsTo W s l x → EndsStuck W s l ⊎ EndsDone W s l) →
        Stuck W d ds seen at rest ⊎ Moves W d ds seen at rest → EndsStuck W s l ⊎ EndsDone W s l
    go on (inl t) = inl (record { first = d; due = ds; seen = seen; at = at; rest = rest; leads = p; stuck = t })
    go on (inr m) = on m.next (omega (arith, step-places W m.step)) (next p m.step)

pub path-ends : (W : Vocabulary) → InOrder W → (s : ℕ) (l : List ℕ) → EndsStuck W s l ⊎ EndsDone W s l
path-ends W in_order s l = walk W in_order s l (suc (length l)) (root_due s ∷ []) [] 1 l (omega arith) here
