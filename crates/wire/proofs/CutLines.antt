-- CutLines: the lines 9 to 14 that fit a term's bytes, with bytes x behind them and without.
--
--   with_rest y r              the state y with r as its rest
--   leads_longer              a state to which the cut bytes lead, with x behind its rest
--   line_longer               a line that fits the cut bytes fits the whole ones, unless it says that the cut ones end
--   Ends W s l                the bytes l end where another one is due
--   EndsBy q, ends_by         .. and that is no later than q
--   CutTo y, leads-cut        a state to which the whole bytes lead is one of the cut ones, or these end before it
--   line-cut                  a line that fits the whole bytes fits the cut ones, or these end before its place
--
use mathlib.Core.Path.{◌≡◌, refl, sym, ap, ◌∙◌, subst}
use mathlib.Core.Bool.{false}
use mathlib.Core.List.{List, [], ◌∷◌, ◌++◌}
use mathlib.Core.Logic.{◌⊎◌, inl, inr}
use Prim.Native.Nat.{ℕ, suc, ◌+◌, ◌≤◌}
use native.Mathlib.Omega.{arith}
use lib.ListN.{length, length-append}
use Rattle.terms.specs.Term.{Occurrence}
use Rattle.wire.specs.Map.{map_bytes, map_got, map_missing, read_map, flags, within, slots}
use Rattle.wire.specs.Vocabulary.{Vocabulary, InOrder, word, map_of}
use Rattle.wire.specs.TermBytes.{whole_byte}
use Rattle.wire.specs.TermLines.{Due, State, due_at, Step, on_word, on_name, on_whole, Word?, LeadsTo, here, next, NodeLine}
use Rattle.wire.proofs.Map.{map-short, map_longer, map-cut, map_cut_missing}
use Rattle.wire.proofs.NodeLines.{at_due}
use Rattle.wire.proofs.LinesRead.{LineIn, node-place}
use Rattle.wire.proofs.ScanPath.{step-places, leads_to_path}

abbrev pub with_rest : State → List ℕ → State
with_rest y r = record { due = y.due; seen = y.seen; at = y.at; rest = r }

-- ---- from the cut bytes to the whole ones

module _ (W : Vocabulary) (x : List ℕ) where
  abbrev longer : State → State
  longer y = with_rest y (y.rest ++ x)

  step_longer : {y z : State} → Step W y z → Step W (longer y) (longer z)
  step_longer (on_word f m l r o w e k h) = on_word f m (l ++ x) (r ++ x) o w e (map_longer l x m r k) h
  step_longer (on_name b n l o h c) = on_name b n (l ++ x) o h c
  step_longer (on_whole l o h) = on_whole (l ++ x) o h

  pub leads_longer : (s : ℕ) (l : List ℕ) {y : State} → LeadsTo W s l y → LeadsTo W s (l ++ x) (longer y)
  leads_longer s l here = here
  leads_longer s l (next p q) = next (leads_longer s l p) (step_longer q)

  node_longer : (y : State) (d : Due) {n q : ℕ} → NodeLine W y d n q →
      ((n ≡ 9) × (q ≡ y.at + length y.rest)) ⊎ NodeLine W (longer y) d n q
  node_longer y d (NodeLine.ends e) = inl (refl, omega (arith, ap length e))
  node_longer y d (NodeLine.ends_in_map f l r e h k) = inl (refl, refl)
  node_longer y d (NodeLine.deep b l e h) = inr (NodeLine.deep b (l ++ x) (ap (λ z. z ++ x) e) h)
  node_longer y d (NodeLine.unknown b l e h k n) = inr (NodeLine.unknown b (l ++ x) (ap (λ z. z ++ x) e) h k n)
  node_longer y d (NodeLine.differs f l e h k) = inr (NodeLine.differs f (l ++ x) (ap (λ z. z ++ x) e) h k)
  node_longer y d (NodeLine.clashes b n l e h k) = inr (NodeLine.clashes b n (l ++ x) (ap (λ z. z ++ x) e) h k)
  node_longer y d (NodeLine.stray f m l r e h k n) =
      inr (NodeLine.stray f m (l ++ x) (r ++ x) (ap (λ z. z ++ x) e) h (map_longer l x m r k) n)

  pub line_longer : InOrder W → (s : ℕ) (l : List ℕ) (n q : ℕ) → LineIn W s l n q →
      ((n ≡ 9) × (q ≡ suc (length l))) ⊎ LineIn W s (l ++ x) n q
  line_longer in_order s l n q h = go (node_longer h.state h.first h.fits)
    where
      go : ((n ≡ 9) × (q ≡ h.state.at + length h.state.rest)) ⊎ NodeLine W (longer h.state) h.first n q →
          ((n ≡ 9) × (q ≡ suc (length l))) ⊎ LineIn W s (l ++ x) n q
      go (inl e) = inl (e.0, e.1 ∙ (leads_to_path W in_order s l h.leads).placed)
      go (inr k) = inr (record {
        state = longer h.state;
        first = h.first;
        later = h.later;
        leads = leads_longer s l h.leads;
        due = h.due;
        fits = k;
      })

-- ---- from the whole bytes to the cut ones

module _ (W : Vocabulary) (x : List ℕ) where
  -- A line at a state of both says the same of the cut bytes, unless it asks for one behind them: then line 9 does.
  node-cut : (y : State) (d : Due) {n q : ℕ} → NodeLine W y d n q → (r : List ℕ) → y.rest ≡ r ++ x →
      NodeLine W (with_rest y r) d n q ⊎ (NodeLine W (with_rest y r) d 9 (y.at + length r) × (y.at + length r ≤ q))
  node-cut y d h [] same =
      let e : y.at ≡ y.at + 0 = omega arith in
      inr (subst (NodeLine W (with_rest y []) d 9) e (NodeLine.ends refl), omega (arith, node-place W y d h))
  node-cut y d (NodeLine.ends e) (b ∷ r) same = let z : ◌≡◌ {A = ℕ} 0 1 = cc in absurd (omega arith)
  node-cut y d (NodeLine.ends_in_map f l r' e h k) (b ∷ r) same =
      let first : f ≡ b = cc in
      let behind : l ≡ r ++ x = cc in
      let missing = map_cut_missing r x r' (ap read_map (sym behind) ∙ k) in
      inr (
        NodeLine.ends_in_map b r missing.0 refl (rw first at h) missing.1,
        omega (arith, ap length same, length-append r x),
      )
  node-cut y d (NodeLine.deep b' l e h) (b ∷ r) same = inl (NodeLine.deep b r refl h)
  node-cut y d (NodeLine.unknown b' l e h k n) (b ∷ r) same =
      let first : b' ≡ b = cc in inl (NodeLine.unknown b r refl (rw first at h) (rw first at k) (rw first at n))
  node-cut y d (NodeLine.differs f l e h k) (b ∷ r) same =
      let first : f ≡ b = cc in inl (NodeLine.differs b r refl (rw first at h) (rw first at k))
  node-cut y d (NodeLine.clashes b' n l e h k) (b ∷ r) same =
      let first : b' ≡ b = cc in inl (NodeLine.clashes b n r refl (rw first at h) k)
  node-cut y d (NodeLine.stray f m l r' e h k n) (b ∷ r) same =
      let first : f ≡ b = cc in
      let behind : l ≡ r ++ x = cc in
      go (rw first at h) (rw first at n) (map-cut r x m r' (ap read_map (sym behind) ∙ k))
    where
      go : Word? W b → within (flags m) (flags (map_of W b)) ≡ false →
          ((r'' : List ℕ) × (read_map r ≡ map_got m r'') × (r' ≡ r'' ++ x)) ⊎ ((r'' : List ℕ) × (read_map r ≡ map_missing r'')) →
          NodeLine W (with_rest y (b ∷ r)) d 14 (y.at + 1) ⊎ (NodeLine W (with_rest y (b ∷ r)) d 9 (y.at + suc (length r)) × (y.at + suc (length r) ≤ y.at + 1))
      go h n (inl c) = inl (NodeLine.stray b m r c.0 refl h c.1 n)
      go h n (inr c) = inr (NodeLine.ends_in_map b r c.0 refl h c.1, omega (arith, map-short r c.0 c.1))

abbrev pub Ends : Vocabulary → ℕ → List ℕ → Type 0
Ends W s l = LineIn W s l 9 (suc (length l))

module _ (W : Vocabulary) (in_order : InOrder W) (s : ℕ) (l x : List ℕ) where
  -- Of the cut bytes r are left there.
  abbrev pub CutTo : State → Type 0
  CutTo y = (r : List ℕ) × (y.rest ≡ r ++ x) × LeadsTo W s l (with_rest y r)

  abbrev pub EndsBy : ℕ → Type 0
  EndsBy q = Ends W s l × (suc (length l) ≤ q)

  pub ends_by : (y : State) (d : Due) (ds : List Due) (n q : ℕ) → LeadsTo W s l y → y.due ≡ d ∷ ds → NodeLine W y d 9 n →
      n ≡ y.at + length y.rest → n ≤ q → EndsBy q
  ends_by y d ds n q p e h same late =
      let o = leads_to_path W in_order s l p in (
        record { state = y; first = d; later = ds; leads = p; due = e; fits = subst (NodeLine W y d 9) (same ∙ o.placed) h },
        omega (arith, o.placed),
      )

  -- The first byte that is left is known.
  first-known : {d : Due} {ds : List Due} {seen : List Occurrence} {at b c : ℕ} {r : List ℕ} → b ≡ c →
      LeadsTo W s l (at_due d ds seen at (b ∷ r)) → LeadsTo W s l (at_due d ds seen at (c ∷ r))
  first-known {d} {ds} {seen} {at} {r = r} e p = subst (λ b. LeadsTo W s l (at_due d ds seen at (b ∷ r))) e p

  step_cut : {y z : State} → Step W y z → (r : List ℕ) → y.rest ≡ r ++ x → LeadsTo W s l (with_rest y r) → CutTo z ⊎ EndsBy z.at
  step_cut (on_word {d} {ds} {seen} {at} f m l' r' o w e k h) [] same p =
      inr (ends_by _ d ds at _ p refl (NodeLine.ends refl) (omega arith) (omega arith))
  step_cut (on_word {d} {ds} {seen} {at} f m l' r' o w e k h) (b ∷ r) same p =
      let first : b ≡ f = cc in
      let behind : l' ≡ r ++ x = cc in
      go (map-cut r x m r' (ap read_map (sym behind) ∙ k)) (first-known first p)
    where
      go : ((r'' : List ℕ) × (read_map r ≡ map_got m r'') × (r' ≡ r'' ++ x)) ⊎ ((r'' : List ℕ) × (read_map r ≡ map_missing r'')) →
          LeadsTo W s l (at_due d ds seen at (f ∷ r)) →
          CutTo (record { due = due_at (suc d.level) (slots (flags (map_of W f)) (flags m) (word W f).kinds) ++ ds; seen = seen; at = at + 1 + map_bytes; rest = r' })
          ⊎ EndsBy (at + 1 + map_bytes)
      go (inl c) leads = inl (c.0, c.2, next leads (on_word f m r c.0 o w e c.1 h))
      go (inr c) leads =
          inr (ends_by _ d ds _ _ leads refl (NodeLine.ends_in_map f r c.0 refl w c.1) refl (omega (arith, map-short r c.0 c.1)))
  step_cut (on_name {d} {ds} {seen} {at} b n l' o h c) [] same p =
      inr (ends_by _ d ds at _ p refl (NodeLine.ends refl) (omega arith) (omega arith))
  step_cut (on_name {d} {ds} b n l' o h c) (b' ∷ r) same p =
      let first : b' ≡ b = cc in
      inl (r, cc, next (first-known first p) (on_name b n r o h c))
  step_cut (on_whole {d} {ds} {seen} {at} l' o h) [] same p =
      inr (ends_by _ d ds at _ p refl (NodeLine.ends refl) (omega arith) (omega arith))
  step_cut (on_whole {d} {ds} l' o h) (b ∷ r) same p =
      let first : b ≡ whole_byte = cc in
      inl (r, cc, next (first-known first p) (on_whole r o h))

  pub leads-cut : {y : State} → LeadsTo W s (l ++ x) y → CutTo y ⊎ EndsBy y.at
  leads-cut here = inl (l, refl, here)
  leads-cut (next {x = y} {y = z} p q) = go (leads-cut p)
    where
      go : CutTo y ⊎ EndsBy y.at → CutTo z ⊎ EndsBy z.at
      go (inl c) = step_cut q c.0 c.1 c.2
      go (inr h) = inr (h.0, omega (arith, h.1, step-places W q))

  pub line-cut : (n q : ℕ) → LineIn W s (l ++ x) n q → LineIn W s l n q ⊎ EndsBy q
  line-cut n q h = go (leads-cut h.leads)
    where
      go : CutTo h.state ⊎ EndsBy h.state.at → LineIn W s l n q ⊎ EndsBy q
      go (inr e) = inr (e.0, omega (arith, e.1, node-place W h.state h.first h.fits))
      go (inl c) = at (node-cut W x h.state h.first h.fits c.0 c.1)
        where
          at : NodeLine W (with_rest h.state c.0) h.first n q
              ⊎ (NodeLine W (with_rest h.state c.0) h.first 9 (h.state.at + length c.0) × (h.state.at + length c.0 ≤ q)) →
              LineIn W s l n q ⊎ EndsBy q
          at (inl k) = inl (record { state = with_rest h.state c.0; first = h.first; later = h.later; leads = c.2; due = h.due; fits = k })
          at (inr k) = inr (ends_by (with_rest h.state c.0) h.first h.later _ q c.2 h.due k.0 refl k.1)
