-- Inhabited: the rounds of grow reach exactly the sorts with a ground term, so the first sort that is not
-- reached has none.
--
--   Within l m         whatever is in l is in m
--   Sound S l          every sort in l has a ground term
--   Closed ks l        each of the symbols ks whose argument sorts are in l has its result sort in l
--   Of S s             s is a symbol of S
--   size S l           how many sorts of S are in l
--   adds s l           the symbol s has its argument sorts in l, and not yet its result sort
--   Gain ks l m        the result sort of one of the symbols ks is in m and not in l
--   emptiness_is_exact what the search finds is exact
--   inhabited-ground   an inhabited sort has a ground term, in any signature
--   productive-result  the result sort of a productive symbol is inhabited
--   ground-inhabited   the sort of a ground term is inhabited
--   ground-productive  the symbol of a ground term is productive
--   all-productive     over inhabited sorts every symbol is productive
--
use mathlib.Core.Path.{◌≡◌, refl, sym, ◌∙◌, ap, subst}
use mathlib.Core.Bool.{Bool, true, false, not, ◌&&◌, ◌||◌, true≢false, false≢true}
use mathlib.Core.List.{List, [], ◌∷◌}
use mathlib.Core.Logic.{◌↔◌, ◌⊎◌, inl, inr}
use mathlib.Core.Option.{some, none}
use Prim.Native.Nat.{ℕ, zero, suc, ◌≤◌, ◌<◌, zero-le, suc-le-suc}
use native.Mathlib.Nat.{zero-lt-suc}
use native.Mathlib.Decide.{le_ind}
use native.Mathlib.Omega.{arith}
use lib.Dec.{eqb}
use lib.ListN.{length, get_or}
use borrow.Author.Tests.{eqb-true, not-true, not-false}
use Rattle.terms.specs.Lists.{All, occurs, range}
use Rattle.terms.specs.Signature.{Symbol, Signature, no_symbol, symbol, result, arguments, WellFormed}
use Rattle.terms.specs.Term.{Ground, gapp, Grounds, gnil, gcons, SortedG, SortedGs}
use Rattle.terms.specs.Inhabited.{HasGround, Inhabited, Empty}
use Rattle.terms.specs.Emptiness.{covered, joined, grow, reached, inhabited, EmptinessIsExact}
use Rattle.terms.specs.Productive.{productive}
use Rattle.terms.proofs.Signature.{symbol-sorts}
use Rattle.terms.proofs.Bools.{and_parts, and_both, false_of_not}
use Rattle.terms.proofs.All.{all_implies, all-at, at_all}
use Rattle.terms.proofs.Occurs.{missing, occurs-head, occurs-tail, occurs_cases, occurs-range}
use Rattle.terms.proofs.Count.{count, count_raise, count-full, length-range}
use Rattle.terms.proofs.First.{first_of, first-least, first_nowhere, nowhere_first}

abbrev pub Within : List ℕ → List ℕ → Type 0
Within l m = (k : ℕ) → occurs k l ≡ true → occurs k m ≡ true

abbrev pub Sound : Signature → List ℕ → Type 0
Sound S l = (k : ℕ) → occurs k l ≡ true → HasGround S k

abbrev pub ClosedAt : List ℕ → Symbol → Type 0
ClosedAt l s = covered s.arguments l ≡ true → occurs s.result l ≡ true

abbrev pub Closed : List Symbol → List ℕ → Type 0
Closed ks l = All (ClosedAt l) ks

abbrev pub Of : Signature → Symbol → Type 0
Of S s = (f : ℕ) × (f < length S.symbols) × (symbol S f ≡ s)

abbrev pub size : Signature → List ℕ → ℕ
size S l = count (λ k. occurs k l) (range 0 S.sorts)

-- One symbol's turn.

abbrev pub adds : Symbol → List ℕ → Bool
adds s l = covered s.arguments l && missing l s.result

module _ (s : Symbol) (l : List ℕ) where
  pub joined-adds : adds s l ≡ true → joined s l ≡ s.result ∷ l
  joined-adds e = rw e

  pub joined-stays : adds s l ≡ false → joined s l ≡ l
  joined-stays e = rw e

  -- A symbol that adds nothing is closed, and a closed symbol adds nothing.
  pub stays_closed : adds s l ≡ false → ClosedAt l s
  stays_closed e c = not-false (occurs s.result l) (sym (ap (λ (b : Bool). b && missing l s.result) c) ∙ e)

  pub closed-stays : ClosedAt l s → adds s l ≡ false
  closed-stays h =
      false_of_not (adds s l) (λ e.
      let r = and_parts (covered s.arguments l) (missing l s.result) e in
      true≢false (sym (h r.0) ∙ not-true (occurs s.result l) r.1))

  pub joined-within : Within l (joined s l)
  joined-within k o = go (adds s l) refl
    where
      go : (b : Bool) → adds s l ≡ b → occurs k (joined s l) ≡ true
      go true e = rw (joined-adds e) (occurs-tail k s.result l o)
      go false e = rw (joined-stays e) o

-- One round.

pub grow-within : (ks : List Symbol) (l : List ℕ) → Within l (grow ks l)
grow-within [] l k o = o
grow-within (s ∷ ks) l k o = grow-within ks (joined s l) k (joined-within s l k o)

pub grow-closed : (ks : List Symbol) (l : List ℕ) → Closed ks l → grow ks l ≡ l
grow-closed [] l h = refl
grow-closed (s ∷ ks) l h = ap (grow ks) (joined-stays s l (closed-stays s l h.0)) ∙ grow-closed ks l h.1

pub record Gain (ks : List Symbol) (l m : List ℕ) : Type 0 where
  pub index : ℕ
  pub inside : index < length ks
  pub old : occurs (get_or ks index no_symbol).result l ≡ false
  pub new : occurs (get_or ks index no_symbol).result m ≡ true

-- A round over symbols that are not closed adds a sort.
pub grow_gains : (ks : List Symbol) (l : List ℕ) → Closed ks l ⊎ Gain ks l (grow ks l)
grow_gains [] l = inl tt
grow_gains (s ∷ ks) l = go (grow_gains ks l) (adds s l) refl
  where
    go : Closed ks l ⊎ Gain ks l (grow ks l) → (b : Bool) → adds s l ≡ b → Closed (s ∷ ks) l ⊎ Gain (s ∷ ks) l (grow ks (joined s l))
    go rest true e = inr (record {
      index = zero;
      inside = zero-lt-suc (length ks);
      old = not-true (occurs s.result l) (and_parts (covered s.arguments l) (missing l s.result) e).1;
      new = grow-within ks (joined s l) s.result (rw (joined-adds s l e) (occurs-head s.result l));
    })
    go (inl c) false e = inl (stays_closed s l e, c)
    go (inr g) false e = inr (record {
      index = suc g.index;
      inside = suc-le-suc g.inside;
      old = g.old;
      new = rw (joined-stays s l e) g.new;
    })

-- Soundness: only sorts with a ground term are reached.

pub sound-covered : (S : Signature) (l : List ℕ) → Sound S l → (ks : List ℕ) → covered ks l ≡ true → (gs : Grounds) × SortedGs S gs ks
sound-covered S l h [] c = (gnil, tt)
sound-covered S l h (k ∷ ks) c =
    let r = and_parts (occurs k l) (covered ks l) c in
    let g = h k r.0 in
    let gs = sound-covered S l h ks r.1 in
    (gcons g.0 gs.0, (g.1, gs.1))

pub joined-sound : (S : Signature) (s : Symbol) (l : List ℕ) → Of S s → Sound S l → Sound S (joined s l)
joined-sound S s l o h = go (adds s l) refl
  where
    made : covered s.arguments l ≡ true → HasGround S s.result
    made c =
        let gs = sound-covered S l h s.arguments c in
        let sorted = subst (λ (t : Symbol). SortedGs S gs.0 t.arguments) (sym o.2) gs.1 in
        (gapp o.0 gs.0, (o.1, ap (λ (t : Symbol). t.result) o.2, sorted))

    go : (b : Bool) → adds s l ≡ b → Sound S (joined s l)
    go true e =
        rw (joined-adds s l e)
        λ k i. occurs_cases k s.result l i (λ q. rw q (made (and_parts (covered s.arguments l) (missing l s.result) e).0)) (h k)
    go false e = rw (joined-stays s l e) h

pub grow-sound : (S : Signature) (ks : List Symbol) (l : List ℕ) → All (Of S) ks → Sound S l → Sound S (grow ks l)
grow-sound S [] l o h = h
grow-sound S (s ∷ ks) l o h = grow-sound S ks (joined s l) o.1 (joined-sound S s l o.0 h)

pub symbols-of : (S : Signature) → All (Of S) S.symbols
symbols-of S = at_all (Of S) no_symbol S.symbols (λ i h. (i, h, refl))

pub reached-sound : (S : Signature) (n : ℕ) → Sound S (reached S n)
reached-sound S zero k o = absurd (false≢true o)
reached-sound S (suc n) k o = grow-sound S S.symbols (reached S n) (symbols-of S) (reached-sound S n) k o

-- Completeness: a closed list holds the sort of every ground term.

module _ (S : Signature) (l : List ℕ) (closed : Closed S.symbols l) where
  mutual
    pub closed-complete : (g : Ground) (k : ℕ) → SortedG S g k → occurs k l ≡ true
    closed-complete (gapp f gs) k h =
        rw (← h.1) (all-at (ClosedAt l) no_symbol S.symbols closed f h.0 (closed-covered gs (arguments S f) h.2))

    pub closed-covered : (gs : Grounds) (ks : List ℕ) → SortedGs S gs ks → covered ks l ≡ true
    closed-covered gnil [] h = refl
    closed-covered gnil (k ∷ ks) h = absurd h
    closed-covered (gcons g gs) [] h = absurd h
    closed-covered (gcons g gs) (k ∷ ks) h = and_both (occurs k l) (covered ks l) (closed-complete g k h.0) (closed-covered gs ks h.1)

-- Progress: after as many rounds as there are sorts the symbols are closed.

-- A round over a list that is not closed adds a sort of the signature.
pub grow_raises : (S : Signature) (l : List ℕ) → WellFormed S → Closed S.symbols l ⊎ (size S l < size S (grow S.symbols l))
grow_raises S l w = go (grow_gains S.symbols l)
  where
    go : Closed S.symbols l ⊎ Gain S.symbols l (grow S.symbols l) → Closed S.symbols l ⊎ (size S l < size S (grow S.symbols l))
    go (inl c) = inl c
    go (inr g) =
        let below : result S g.index < S.sorts = (symbol-sorts S w g.index g.inside).0 in
        inr (count_raise (λ k. occurs k l) (λ k. occurs k (grow S.symbols l)) (range 0 S.sorts) (result S g.index)
        (grow-within S.symbols l) (occurs-range 0 S.sorts (result S g.index) zero-le (omega arith)) g.old g.new)

-- A round over a closed list changes nothing, so the next list is closed too.
pub closed-next : (S : Signature) (n : ℕ) → Closed S.symbols (reached S n) → Closed S.symbols (reached S (suc n))
closed-next S n c = rw (grow-closed S.symbols (reached S n) c) c

pub reached_raises : (S : Signature) → WellFormed S → (n : ℕ) → Closed S.symbols (reached S n) ⊎ (n ≤ size S (reached S n))
reached_raises S w zero = inr zero-le
reached_raises S w (suc n) = go (reached_raises S w n) (grow_raises S (reached S n) w)
  where
    go : Closed S.symbols (reached S n) ⊎ (n ≤ size S (reached S n)) →
        Closed S.symbols (reached S n) ⊎ (size S (reached S n) < size S (reached S (suc n))) →
        Closed S.symbols (reached S (suc n)) ⊎ (suc n ≤ size S (reached S (suc n)))
    go (inl c) r = inl (closed-next S n c)
    go (inr h) (inl c) = inl (closed-next S n c)
    go (inr h) (inr r) = inr (omega arith)

-- Where every sort is in l, nothing is left to add.
pub full-closed : (S : Signature) (l : List ℕ) → WellFormed S → S.sorts ≤ size S l → Closed S.symbols l
full-closed S l w h =
    all_implies _ (ClosedAt l) (λ s p c. every s.result p.0) S.symbols w
  where
    every : (k : ℕ) → k < S.sorts → occurs k l ≡ true
    every k b = count-full (λ j. occurs j l) (range 0 S.sorts) k (rw length-range h) (occurs-range 0 S.sorts k zero-le (omega arith))

pub reached-closed : (S : Signature) → WellFormed S → Closed S.symbols (reached S S.sorts)
reached-closed S w = go (reached_raises S w S.sorts)
  where
    go : Closed S.symbols (reached S S.sorts) ⊎ (S.sorts ≤ size S (reached S S.sorts)) → Closed S.symbols (reached S S.sorts)
    go (inl c) = c
    go (inr h) = full-closed S (reached S S.sorts) w h

-- A list that is sound and closed holds exactly the sorts with a ground term, and shows an empty one.

module _ (S : Signature) (l : List ℕ) (sound : Sound S l) (closed : Closed S.symbols l) where
  pub occurs-exact : (k : ℕ) → (occurs k l ≡ true) ↔ HasGround S k
  occurs-exact k = (sound k, λ g. closed-complete S l closed g.0 k g.1)

  pub missing_empty : (k : ℕ) → missing l k ≡ true → Empty S k
  missing_empty k e g h = true≢false (sym (closed-complete S l closed g k h) ∙ not-true (occurs k l) e)

  pub present_ground : (k : ℕ) → (missing l k ≡ false) ↔ HasGround S k
  present_ground k = (λ e. sound k (not-false (occurs k l) e), λ g. ap not ((occurs-exact k).1 g))

  pub missing_found : (k : ℕ) → first_of (missing l) 0 S.sorts ≡ some k →
      (k < S.sorts) × Empty S k × ((j : ℕ) → j < k → HasGround S j)
  missing_found k e =
      let r = first-least (missing l) 0 S.sorts k e in
      (omega arith, missing_empty k r.passes, λ j h. sound j (not-false (occurs j l) (r.lower j zero-le h)))

  pub missing_none : (first_of (missing l) 0 S.sorts ≡ none) ↔ Inhabited S
  missing_none = (
    λ e k h. (present_ground k).0 (first_nowhere (missing l) 0 S.sorts e k zero-le (omega arith)),
    λ i. nowhere_first (missing l) 0 S.sorts (λ j lo hi. (present_ground j).1 (i j (omega arith))),
  )

pub emptiness_is_exact : EmptinessIsExact
emptiness_is_exact S w = record {
  ground = occurs-exact S (reached S S.sorts) (reached-sound S S.sorts) (reached-closed S w);
  found = missing_found S (reached S S.sorts) (reached-sound S S.sorts) (reached-closed S w);
  missed = missing_none S (reached S S.sorts) (reached-sound S S.sorts) (reached-closed S w);
}

-- What it says of the sort and the symbol of a ground term.

pub inhabited-ground : (S : Signature) (k : ℕ) → inhabited S k ≡ true → HasGround S k
inhabited-ground S = reached-sound S S.sorts

module _ (S : Signature) (w : WellFormed S) where
  pub productive-result : (f : ℕ) → f < length S.symbols → productive S f ≡ true → inhabited S (result S f) ≡ true
  productive-result f b = all-at (ClosedAt (reached S S.sorts)) no_symbol S.symbols (reached-closed S w) f b

  pub ground-inhabited : (g : Ground) (k : ℕ) → SortedG S g k → inhabited S k ≡ true
  ground-inhabited = closed-complete S (reached S S.sorts) (reached-closed S w)

  pub ground-productive : (f : ℕ) (gs : Grounds) → SortedGs S gs (arguments S f) → productive S f ≡ true
  ground-productive f gs = closed-covered S (reached S S.sorts) (reached-closed S w) gs (arguments S f)

  pub all-productive : Inhabited S → (f : ℕ) → f < length S.symbols → productive S f ≡ true
  all-productive full f b = go (arguments S f) (symbol-sorts S w f b).1
    where
      go : (ks : List ℕ) → All (λ k. k < S.sorts) ks → covered ks (reached S S.sorts) ≡ true
      go [] a = refl
      go (k ∷ ks) a = and_both _ _ (((emptiness_is_exact S w).ground k).1 (full k a.0)) (go ks a.1)

-- More rounds lose nothing.

pub reached_mono : (S : Signature) (n m : ℕ) → n ≤ m → Within (reached S n) (reached S m)
reached_mono S n m h =
    le_ind (λ (i : ℕ). Within (reached S n) (reached S i)) (λ k o. o)
    (λ i p r k o. grow-within S.symbols (reached S i) k (r k o)) m h

pub joined-occurs : (s : Symbol) (l : List ℕ) (k : ℕ) → occurs k (joined s l) ≡ ((covered s.arguments l && eqb k s.result) || occurs k l)
joined-occurs s l k = go (covered s.arguments l) (occurs s.result l) refl refl
  where
    there : occurs s.result l ≡ true → (b : Bool) → eqb k s.result ≡ b → occurs k l ≡ (b || occurs k l)
    there o true e = rw (eqb-true k s.result e) o
    there o false e = refl

    go : (a b : Bool) → covered s.arguments l ≡ a → occurs s.result l ≡ b →
        occurs k (joined s l) ≡ ((covered s.arguments l && eqb k s.result) || occurs k l)
    go false b c o = rw c
    go true false c o = rw (c, o)
    go true true c o = rw (c, o) (there o (eqb k s.result) refl)
