-- FillingPath: the states to which the values of a filling file lead lie on one path, which reading goes along.
--
--   ending x                  where a reading ends or stops, without what was read
--   ending_stop, ending_got   what the reading is, where its ending is known
--   ending_at W x              the ending of a reading from the state x on
--   values_ending W s t b      the ending for the values of the file b
--   OnPath x                  they are the same, and the state's place is counted from the file's first byte
--   ends_stuck, ends-done     what the ending is, at a fault and where nothing is due any more
--   ValuesStop, fault-stops   where a byte is at fault, reading stops, no later
--   EndsStuck, EndsDone, path-ends   the path ends at a fault, or with nothing due
--
use mathlib.Core.Path.{◌≡◌, refl, ap, ◌∙◌, subst}
use mathlib.Core.List.{List, [], ◌∷◌}
use mathlib.Core.Logic.{◌⊎◌, inl, inr}
use Prim.Native.Nat.{ℕ, zero, suc, ◌+◌, ◌<◌, ◌≤◌}
use native.Mathlib.Omega.{arith}
use lib.ListN.{length, drop}
use Rattle.terms.specs.Term.{Term, Occurrence}
use Rattle.wire.specs.Vocabulary.{Vocabulary, map_of}
use Rattle.wire.specs.TermLines.{Due, State}
use Rattle.wire.specs.Parser.{Got, got, stop, and_then}
use Rattle.wire.specs.FillingFile.{name_map_bytes}
use Rattle.wire.specs.FillingLines.{values_due, FullStep, FullTo, here, next, ValueFault}
use Rattle.wire.specs.FillComputed.{read_values}
use Rattle.wire.proofs.Map.{map-got}
use Rattle.wire.proofs.NodeLines.{at_due}
use Rattle.wire.proofs.FullReading.{behind, put, values-node}
use Rattle.wire.proofs.ValueFaults.{full-got, Stuck, Moves, look}

-- ---- endings

abbrev pub ending : {A : Type 0} → Got A → Got (Unit {0})
ending (got a r) = got tt r
ending (stop n r) = stop n r

pub ending_stop : {A : Type 0} (x : Got A) (n : ℕ) (r : List ℕ) → ending x ≡ stop n r → x ≡ stop n r
ending_stop (got a r') n r e = let z : ◌≡◌ {A = ℕ} 0 1 = cc in absurd (omega arith)
ending_stop (stop n' r') n r e = let p : n' ≡ n = cc in let q : r' ≡ r = cc in cc

pub ending_got : {A : Type 0} (x : Got A) (r : List ℕ) → ending x ≡ got tt r → (a : A) × (x ≡ got a r)
ending_got (got a r') r e = let q : r' ≡ r = cc in (a, ap (got a) q)
ending_got (stop n' r') r e = let z : ◌≡◌ {A = ℕ} 0 1 = cc in absurd (omega arith)

-- Behind a thing that is only put together anew the ending is the same.
ending_then : {A B : Type 0} (x : Got A) (f : A → B) → ending (and_then x (λ a r. got (f a) r)) ≡ ending x
ending_then (got a r) f = refl
ending_then (stop n r) f = refl

-- ---- the path

abbrev ending_at : Vocabulary → State → Got (Unit {0})
ending_at W x = ending (read_values W x.due x.rest)

abbrev pub values_ending : Vocabulary → ℕ → Term → List ℕ → Got (Unit {0})
values_ending W s t b = ending (read_values W (values_due W s t) (drop name_map_bytes b))

-- A step keeps the ending.
step-ends : (W : Vocabulary) {x y : State} → FullStep W x y → ending_at W x ≡ ending_at W y
step-ends W (FullStep.on_full_word {d = d} {ds = ds} f l r o w e k) =
    ap ending
    (values-node W d ds (f ∷ l) o
    ∙ ap (λ x. and_then x (λ f r. and_then (read_values W (behind W d ds f) r) (put W f))) (full-got W d.sort f l r w e k))
    ∙ ending_then (read_values W (behind W d ds f) r) _

-- A step takes bytes, and counts them.
step-places : (W : Vocabulary) {x y : State} → FullStep W x y →
    (y.at + length y.rest ≡ x.at + length x.rest) × (length y.rest < length x.rest)
step-places W (FullStep.on_full_word f l r o w e k) = let p = map-got l (map_of W f) r k in (omega arith, omega arith)

module _ (W : Vocabulary) (s : ℕ) (t : Term) (b : List ℕ) where
  record OnPath (x : State) : Type 0 where
    pub ends : values_ending W s t b ≡ ending_at W x
    pub placed : x.at + length x.rest ≡ name_map_bytes + length (drop name_map_bytes b)

  leads_to_path : {x : State} → FullTo W s t b x → OnPath x
  leads_to_path here = record { ends = refl; placed = refl }
  leads_to_path (next p q) =
      let o = leads_to_path p in
      let h = step-places W q in
      let k = o.placed in
      record { ends = o.ends ∙ step-ends W q; placed = omega arith }

  -- What the path's end at a fault, or with nothing due, says of the whole reading.
  pub ends_stuck : (d : Due) (ds : List Due) (x : State) → FullTo W s t b x → x.due ≡ d ∷ ds → (k : Stuck W d ds x.seen x.at x.rest) →
      (values_ending W s t b ≡ stop 22 k.from) × (k.place + length k.from ≡ name_map_bytes + length (drop name_map_bytes b))
  ends_stuck d ds x p e k =
      let o = leads_to_path p in
      (o.ends ∙ ap (λ due. ending (read_values W due x.rest)) e ∙ ap ending k.stops, omega (arith, o.placed, k.placed))

  pub ends-done : (x : State) → FullTo W s t b x → x.due ≡ [] →
      (values_ending W s t b ≡ got tt x.rest) × (x.at + length x.rest ≡ name_map_bytes + length (drop name_map_bytes b))
  ends-done x p e =
      let o = leads_to_path p in
      (o.ends ∙ ap (λ due. ending (read_values W due x.rest)) e, o.placed)

  -- Reading stops, at a place no later than q.
  pub record ValuesStop (q : ℕ) : Type 0 where
    pub place : ℕ
    pub from : List ℕ
    pub stops : values_ending W s t b ≡ stop 22 from
    pub placed : place + length from ≡ name_map_bytes + length (drop name_map_bytes b)
    pub sooner : place ≤ q

  -- Where a byte is at fault at a state to which the bytes lead, reading stops.
  pub fault-stops : (x : State) (d : Due) (ds : List Due) (q : ℕ) → FullTo W s t b x → x.due ≡ d ∷ ds → ValueFault W x d q → ValuesStop q
  fault-stops x d ds q p e h = at_fields (look W d ds x.seen x.at x.rest)
    where
      same : x ≡ at_due d ds x.seen x.at x.rest
      same = λ i. record { due = e i; seen = x.seen; at = x.at; rest = x.rest }

      fault : ValueFault W (at_due d ds x.seen x.at x.rest) d q
      fault = subst (λ x. ValueFault W x d q) same h

      at_fields : Stuck W d ds x.seen x.at x.rest ⊎ Moves W d ds x.seen x.at x.rest → ValuesStop q
      at_fields (inl k) =
          let i = ends_stuck d ds x p e k in
          record { place = k.place; from = k.from; stops = i.0; placed = i.1; sooner = k.first q fault }
      at_fields (inr k) = absurd (k.clear q fault)

  -- Where the path ends: at a fault, or with nothing due.
  pub record EndsStuck : Type 0 where
    pub first : Due
    pub due : List Due
    pub seen : List Occurrence
    pub at : ℕ
    pub rest : List ℕ
    pub leads : FullTo W s t b (at_due first due seen at rest)
    pub stuck : Stuck W first due seen at rest

  pub record EndsDone : Type 0 where
    pub seen : List Occurrence
    pub at : ℕ
    pub rest : List ℕ
    pub leads : FullTo W s t b (record { due = []; seen = seen; at = at; rest = rest })

  walk : (k : ℕ) (due : List Due) (seen : List Occurrence) (at : ℕ) (rest : List ℕ) →
      length rest < k → FullTo W s t b (record { due = due; seen = seen; at = at; rest = rest }) → EndsStuck ⊎ EndsDone
  walk zero due seen at rest h p = absurd (omega arith)
  walk (suc k) [] seen at rest h p = inr (record { seen = seen; at = at; rest = rest; leads = p })
  walk (suc k) (d ∷ ds) seen at rest h p =
      go (λ x u q. walk k x.due x.seen x.at x.rest u q) (look W d ds seen at rest)
    where
      go : ((x : State) → length x.rest < k → FullTo W s t b x → EndsStuck ⊎ EndsDone) →
          Stuck W d ds seen at rest ⊎ Moves W d ds seen at rest → EndsStuck ⊎ EndsDone
      go on (inl i) = inl (record { first = d; due = ds; seen = seen; at = at; rest = rest; leads = p; stuck = i })
      go on (inr m) = on m.next (omega (arith, step-places W m.step)) (next p m.step)

  pub path-ends : EndsStuck ⊎ EndsDone
  path-ends = walk (suc (length (drop name_map_bytes b))) (values_due W s t) [] name_map_bytes (drop name_map_bytes b) (omega arith) here
