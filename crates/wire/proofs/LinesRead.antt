-- LinesRead: what is read of a term is decided by lines 9 to 14.
--
--   node-rank, node-number, node-place   a line that fits at a state decides by its byte, has a number from 9 on and no earlier place
--   NoByte, nine_ends         what line 9 says
--   LineIn W s l n q          line n fits at place q at a state to which the bytes l lead, behind the kind byte s
--   nine_place                line 9 names the end of the bytes
--   StopsAt W s l n r         line n decides, at the place where the bytes r begin
--   EndsAt W s l r            no line fits, and the bytes lead to a state where nothing is due and r is left
--   LinesJudged W s l g       one of the two, by what is read of the bytes l as g
--   lines_judged              it holds of what read_term gives
--   ends-once                 there is one such state only
--
use mathlib.Core.Path.{◌≡◌, refl, sym, ap, ◌∙◌, subst, subst₂}
use mathlib.Core.Bool.{true}
use mathlib.Core.List.{List, [], ◌∷◌}
use mathlib.Core.Logic.{◌⊎◌, inl, inr}
use Prim.Native.Nat.{ℕ, suc, ◌+◌, ◌≤◌}
use native.Mathlib.Omega.{arith}
use lib.ListN.{length}
use Rattle.terms.specs.Term.{Occurrence}
use Rattle.wire.specs.Map.{map_missing, read_map}
use Rattle.wire.specs.Parser.{Got, got, stop, Read, read_term}
use Rattle.wire.specs.Vocabulary.{Vocabulary, InOrder}
use Rattle.wire.specs.TermBytes.{most_levels}
use Rattle.wire.specs.Refusals.{rank, Earlier, Sooner}
use Rattle.wire.specs.TermLines.{Due, State, Word?, LeadsTo, NodeLine}
use Rattle.wire.specs.Scan.{Scanned, run, tallied}
use Rattle.wire.proofs.Refusals.{same_rank}
use Rattle.wire.proofs.Scan.{scan-reads}
use Rattle.wire.proofs.ScanPath.{scanned, leads_to_path, line-stops, EndsStuck, EndsDone, path-ends}

pub node-rank : (W : Vocabulary) (x : State) (d : Due) {n q : ℕ} → NodeLine W x d n q → rank n ≡ 9
node-rank W x d (NodeLine.ends e) = refl
node-rank W x d (NodeLine.ends_in_map f l r e h k) = refl
node-rank W x d (NodeLine.deep b l e h) = refl
node-rank W x d (NodeLine.unknown b l e h k n) = refl
node-rank W x d (NodeLine.differs f l e h k) = refl
node-rank W x d (NodeLine.clashes b n l e h k) = refl
node-rank W x d (NodeLine.stray f m l r e h k n) = refl

pub node-number : (W : Vocabulary) (x : State) (d : Due) {n q : ℕ} → NodeLine W x d n q → 9 ≤ n
node-number W x d (NodeLine.ends e) = omega arith
node-number W x d (NodeLine.ends_in_map f l r e h k) = omega arith
node-number W x d (NodeLine.deep b l e h) = omega arith
node-number W x d (NodeLine.unknown b l e h k n) = omega arith
node-number W x d (NodeLine.differs f l e h k) = omega arith
node-number W x d (NodeLine.clashes b n l e h k) = omega arith
node-number W x d (NodeLine.stray f m l r e h k n) = omega arith

pub node-place : (W : Vocabulary) (x : State) (d : Due) {n q : ℕ} → NodeLine W x d n q → x.at ≤ q
node-place W x d (NodeLine.ends e) = omega arith
node-place W x d (NodeLine.ends_in_map f l r e h k) = omega arith
node-place W x d (NodeLine.deep b l e h) = omega arith
node-place W x d (NodeLine.unknown b l e h k n) = omega arith
node-place W x d (NodeLine.differs f l e h k) = omega arith
node-place W x d (NodeLine.clashes b n l e h k) = omega arith
node-place W x d (NodeLine.stray f m l r e h k n) = omega arith

-- The bytes end in the map of a word, or before it.
pub record NoMap (W : Vocabulary) (y : State) : Type 0 where
  pub word : ℕ
  pub behind : List ℕ
  pub left : List ℕ
  pub bytes : y.rest ≡ word ∷ behind
  pub known : Word? W word
  pub missing : read_map behind ≡ map_missing left

-- What line 9 says: the bytes end before a term's first byte, or so.
abbrev pub NoByte : Vocabulary → State → ℕ → Type 0
NoByte W y q = (q ≡ y.at + length y.rest) × ((y.rest ≡ []) ⊎ NoMap W y)

pub nine_ends : (W : Vocabulary) (y : State) (d : Due) {n q : ℕ} → NodeLine W y d n q → n ≡ 9 → NoByte W y q
nine_ends W y d (NodeLine.ends e) z = (omega (arith, ap length e), inl e)
nine_ends W y d (NodeLine.ends_in_map f l r e h k) z = (refl, inr (record { word = f; behind = l; left = r; bytes = e; known = h; missing = k }))
nine_ends W y d (NodeLine.deep b l e h) z = absurd (omega arith)
nine_ends W y d (NodeLine.unknown b l e h k n) z = absurd (omega arith)
nine_ends W y d (NodeLine.differs f l e h k) z = absurd (omega arith)
nine_ends W y d (NodeLine.clashes b n l e h k) z = absurd (omega arith)
nine_ends W y d (NodeLine.stray f m l r e h k n) z = absurd (omega arith)

pub record LineIn (W : Vocabulary) (s : ℕ) (l : List ℕ) (n q : ℕ) : Type 0 where
  pub state : State
  pub first : Due
  pub later : List Due
  pub leads : LeadsTo W s l state
  pub due : state.due ≡ first ∷ later
  pub fits : NodeLine W state first n q

pub nine_place : (W : Vocabulary) → InOrder W → (s : ℕ) (l : List ℕ) (q : ℕ) → LineIn W s l 9 q → q ≡ suc (length l)
nine_place W in_order s l q h = (nine_ends W h.state h.first h.fits refl).0 ∙ (leads_to_path W in_order s l h.leads).placed

-- A scan that stops tells where read_term stops, and one that ends what it leaves.
tallied-stop : (W : Vocabulary) (l : List ℕ) (x : Got Read) (n : ℕ) (r : List ℕ) → tallied W l x ≡ stop n r → x ≡ stop n r
tallied-stop W l (got a r') n r e = let z : ◌≡◌ {A = ℕ} 0 1 = cc in absurd (omega arith)
tallied-stop W l (stop n' r') n r e = let p : n' ≡ n = cc in let q : r' ≡ r = cc in cc

tallied-got : (W : Vocabulary) (l : List ℕ) (x : Got Read) (y : Scanned) (r : List ℕ) → tallied W l x ≡ got y r → (a : Read) × (x ≡ got a r)
tallied-got W l (got a r') y r e = let q : r' ≡ r = cc in (a, ap (got a) q)
tallied-got W l (stop n' r') y r e = let z : ◌≡◌ {A = ℕ} 0 1 = cc in absurd (omega arith)

pub record StopsAt (W : Vocabulary) (s : ℕ) (l : List ℕ) (n : ℕ) (r : List ℕ) : Type 0 where
  pub place : ℕ
  pub fits : LineIn W s l n place
  pub first : (m q : ℕ) → LineIn W s l m q → Earlier n place m q
  pub placed : place + length r ≡ suc (length l)

pub record EndsAt (W : Vocabulary) (s : ℕ) (l r : List ℕ) : Type 0 where
  pub seen : List Occurrence
  pub at : ℕ
  pub leads : LeadsTo W s l (record { due = []; seen = seen; at = at; rest = r })
  pub clear : (m q : ℕ) → LineIn W s l m q → ⊥
  pub placed : at + length r ≡ suc (length l)

abbrev pub LinesJudged : Vocabulary → ℕ → List ℕ → Got Read → Type 0
LinesJudged W s l (got a r) = EndsAt W s l r
LinesJudged W s l (stop n r) = StopsAt W s l n r

module _ (W : Vocabulary) (in_order : InOrder W) (s : ℕ) (l : List ℕ) where
  abbrev read : Got Read
  read = read_term W most_levels true s [] l

  -- Where nothing is due the scan ends.
  done-scan : (x : State) → LeadsTo W s l x → x.due ≡ [] →
      (y : Scanned) × (scanned W s l ≡ got y x.rest) × (x.at + length x.rest ≡ suc (length l))
  done-scan x p u =
      let o = leads_to_path W in_order s l p in
      (record { tally = o.tally; seen = x.seen }, o.runs ∙ ap (λ due. run W due x.seen o.tally x.rest) u, o.placed)

  pub ends-once : (x y : State) → LeadsTo W s l x → LeadsTo W s l y → x.due ≡ [] → y.due ≡ [] → (x.rest ≡ y.rest) × (x.at ≡ y.at)
  ends-once x y p q u v =
      let a = done-scan x p u in
      let b = done-scan y q v in
      let same : x.rest ≡ y.rest = cc (a.1, b.1) in
      (same, omega (arith, ap length same, a.2, b.2))

  stuck-judged : EndsStuck W s l → LinesJudged W s l read
  stuck-judged t =
      subst (LinesJudged W s l) (sym (tallied-stop W l read _ _ (sym (scan-reads W s [] l) ∙ stops)))
      (record { place = t.stuck.place; fits = fits; first = first; placed = placed })
    where
      stops : scanned W s l ≡ stop t.stuck.number t.stuck.from
      stops = let o = leads_to_path W in_order s l t.leads in o.runs ∙ t.stuck.stops o.tally

      placed : t.stuck.place + length t.stuck.from ≡ suc (length l)
      placed = omega (arith, (leads_to_path W in_order s l t.leads).placed, t.stuck.placed)

      fits : LineIn W s l t.stuck.number t.stuck.place
      fits = record { state = _; first = t.first; later = t.due; leads = t.leads; due = refl; fits = t.stuck.decides.fits }

      first : (m q : ℕ) → LineIn W s l m q → Earlier t.stuck.number t.stuck.place m q
      first m q h =
          let k = line-stops W in_order s l h.state h.first h.later m q h.leads h.due h.fits in
          let a : k.number ≡ t.stuck.number = cc (k.stops, stops) in
          let b : k.from ≡ t.stuck.from = cc (k.stops, stops) in
          let c : k.place ≡ t.stuck.place = omega (arith, ap length b, k.placed, placed) in
          same_rank _ _ m q (node-rank W _ _ t.stuck.decides.fits ∙ sym (node-rank W _ _ h.fits))
          (subst₂ (λ n' q'. Sooner n' q' m q) a c k.sooner)

  done-judged : EndsDone W s l → LinesJudged W s l read
  done-judged t =
      let d = done-scan _ t.leads refl in
      let a = tallied-got W l read _ _ (sym (scan-reads W s [] l) ∙ d.1) in
      subst (LinesJudged W s l) (sym a.1)
      (record {
        seen = t.seen;
        at = t.at;
        leads = t.leads;
        clear = λ m q h.
            let k = line-stops W in_order s l h.state h.first h.later m q h.leads h.due h.fits in
            let z : ◌≡◌ {A = ℕ} 0 1 = cc (k.stops, d.1) in omega arith;
        placed = d.2;
      })

  pub lines_judged : LinesJudged W s l (read_term W most_levels true s [] l)
  lines_judged = go (path-ends W in_order s l)
    where
      go : EndsStuck W s l ⊎ EndsDone W s l → LinesJudged W s l read
      go (inl t) = stuck-judged t
      go (inr t) = done-judged t
