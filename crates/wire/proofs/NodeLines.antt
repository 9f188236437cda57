-- NodeLines: where a term is due, either one of the lines 9 to 14 decides, and a scan stops with it, or there is a step and no line fits.
--
--   at_due, LineAt             a state at which a term is due, and the lines that fit there
--   Stuck                     a line decides there, and a scan stops with it
--   Moves                     there is a step, and no line fits
--   look                      one of the two holds
--
use mathlib.Core.Path.{◌≡◌, refl, sym, ap, ap₂, ◌∙◌, subst}
use mathlib.Core.Bool.{Bool, true, false, ◌&&◌}
use mathlib.Core.List.{List, [], ◌∷◌}
use mathlib.Core.Logic.{◌⊎◌, inl, inr}
use Prim.Native.Nat.{ℕ, suc, ◌+◌, ◌-◌, ◌<◌, ◌≤◌}
use native.Mathlib.Omega.{arith}
use lib.Dec.{eqb, ltb}
use lib.ListN.{length}
use borrow.Author.Tests.{ltb-true, ltb-false, eqb-true, eqb-false, eq-eqb}
use Rattle.terms.specs.Term.{Occurrence}
use Rattle.wire.specs.Map.{MapRead, read_map, flags, within, map_got, map_missing}
use Rattle.wire.specs.Vocabulary.{Vocabulary, InOrder, word, map_of}
use Rattle.wire.specs.TermBytes.{first_name_byte, whole_byte, most_levels}
use Rattle.wire.specs.Refusals.{Sooner, Decides}
use Rattle.wire.specs.TermLines.{Due, State, Step, on_word, on_name, on_whole, Word?, Name?, Clash, NodeLine}
use Rattle.wire.specs.Parser.{stop, fault, is_word, is_name, clash, node}
use Rattle.wire.proofs.Map.{map_missing_lem}
use Rattle.wire.proofs.Seen.{clash_meant, clash_not}
use Rattle.wire.proofs.Node.{name_meant, name_tested, node-short, node-differs, node-stray, node-clash, node-unknown}
use Rattle.wire.specs.Scan.{Tally, run, scan_node}
use Rattle.wire.proofs.Scan.{run-node, run-limit}

-- A state at which a term is due.
abbrev pub at_due : Due → List Due → List Occurrence → ℕ → List ℕ → State
at_due d ds seen at rest = record { due = d ∷ ds; seen = seen; at = at; rest = rest }

abbrev pub LineAt : Vocabulary → Due → List Due → List Occurrence → ℕ → List ℕ → ℕ → ℕ → Type 0
LineAt W d ds seen at rest = NodeLine W (at_due d ds seen at rest) d

-- A number decides there, and a run stops with it at the bytes from its place on.
pub record Stuck (W : Vocabulary) (d : Due) (ds : List Due) (seen : List Occurrence) (at : ℕ) (rest : List ℕ) : Type 0 where
  pub number : ℕ
  pub place : ℕ
  pub from : List ℕ
  pub stops : (y : Tally) → run W (d ∷ ds) seen y rest ≡ stop number from
  pub placed : place + length from ≡ at + length rest
  pub decides : Decides (LineAt W d ds seen at rest) number place

-- No line fits there, and there is a step.
pub record Moves (W : Vocabulary) (d : Due) (ds : List Due) (seen : List Occurrence) (at : ℕ) (rest : List ℕ) : Type 0 where
  pub next : State
  pub step : Step W (at_due d ds seen at rest) next
  pub clear : (m r : ℕ) → LineAt W d ds seen at rest m r → ⊥

-- The lines that fit where the bytes b ∷ l begin, in terms of b and l.
data ByteLine (W : Vocabulary) (d : Due) (seen : List Occurrence) (at b : ℕ) (l : List ℕ) : ℕ → ℕ → Type 0 where
  short : (r : List ℕ) → Word? W b → read_map l ≡ map_missing r → ByteLine W d seen at b l 9 (at + suc (length l))
  deep : most_levels < d.level → ByteLine W d seen at b l 10 at
  unknown : (Word? W b → ⊥) → ((n : ℕ) → Name? b n → ⊥) → ((b ≡ whole_byte) × (d.root ≡ true) → ⊥) → ByteLine W d seen at b l 11 at
  differs : Word? W b → ((word W b).result ≡ d.sort → ⊥) → ByteLine W d seen at b l 12 at
  clashes : (n : ℕ) → Name? b n → Clash seen n d.sort → ByteLine W d seen at b l 13 at
  stray : (m : ℕ) (r : List ℕ) → Word? W b → read_map l ≡ map_got m r → within (flags m) (flags (map_of W b)) ≡ false → ByteLine W d seen at b l 14 (at + 1)

byte-line : (W : Vocabulary) (d : Due) (ds : List Due) (seen : List Occurrence) (at b : ℕ) (l : List ℕ) {m r : ℕ} →
    LineAt W d ds seen at (b ∷ l) m r → ByteLine W d seen at b l m r
byte-line W d ds seen at b l (NodeLine.ends e) = let z : ◌≡◌ {A = ℕ} 0 1 = cc in absurd (omega arith)
byte-line W d ds seen at b l (NodeLine.ends_in_map f l' r e h k) =
    let p : f ≡ b = cc in let q : l' ≡ l = cc in short r (rw p at h) (rw q at k)
byte-line W d ds seen at b l (NodeLine.deep f l' e h) = deep h
byte-line W d ds seen at b l (NodeLine.unknown f l' e h k n) =
    let p : f ≡ b = cc in unknown (rw p at h) (rw p at k) (rw p at n)
byte-line W d ds seen at b l (NodeLine.differs f l' e h k) =
    let p : f ≡ b = cc in differs (rw p at h) (rw p at k)
byte-line W d ds seen at b l (NodeLine.clashes f n l' e h k) =
    let p : f ≡ b = cc in clashes n (rw p at h) k
byte-line W d ds seen at b l (NodeLine.stray f m l' r e h k n) =
    let p : f ≡ b = cc in let q : l' ≡ l = cc in stray m r (rw p at h) (rw q at k) (rw p at n)

-- Nothing is left: line 9, and no other, fits.
stuck-empty : (W : Vocabulary) (d : Due) (ds : List Due) (seen : List Occurrence) (at : ℕ) → Stuck W d ds seen at []
stuck-empty W d ds seen at = record {
  number = 9;
  place = at;
  from = [];
  stops = λ y. go y (ltb most_levels d.level) refl;
  placed = refl;
  decides = record { fits = NodeLine.ends refl; first = λ m r h. first h };
}
  where
    go : (y : Tally) (b : Bool) → ltb most_levels d.level ≡ b → run W (d ∷ ds) seen y [] ≡ stop 9 []
    go y true e = run-limit W d ds seen y [] (ltb-true _ _ e)
    go y false e = run-node W d ds seen y [] (ltb-false _ _ e)

    first : {m r : ℕ} → LineAt W d ds seen at [] m r → Sooner 9 at m r
    first (NodeLine.ends e) = inr (refl, inr (refl, omega arith))
    first (NodeLine.ends_in_map f l' r e h k) = let z : ◌≡◌ {A = ℕ} 0 1 = cc in absurd (omega arith)
    first (NodeLine.deep f l' e h) = let z : ◌≡◌ {A = ℕ} 0 1 = cc in absurd (omega arith)
    first (NodeLine.unknown f l' e h k n) = let z : ◌≡◌ {A = ℕ} 0 1 = cc in absurd (omega arith)
    first (NodeLine.differs f l' e h k) = let z : ◌≡◌ {A = ℕ} 0 1 = cc in absurd (omega arith)
    first (NodeLine.clashes f n l' e h k) = let z : ◌≡◌ {A = ℕ} 0 1 = cc in absurd (omega arith)
    first (NodeLine.stray f m l' r e h k n) = let z : ◌≡◌ {A = ℕ} 0 1 = cc in absurd (omega arith)

module _ (W : Vocabulary) (in_order : InOrder W) (d : Due) (ds : List Due) (seen : List Occurrence) (at b : ℕ) (l : List ℕ) where
  not_both_lem : (n : ℕ) → Word? W b → Name? b n → ⊥
  not_both_lem n h k = omega (arith, in_order.few_words)

  -- A level too deep.
  stuck-deep : most_levels < d.level → Stuck W d ds seen at (b ∷ l)
  stuck-deep o = record {
    number = 10;
    place = at;
    from = b ∷ l;
    stops = λ y. run-limit W d ds seen y (b ∷ l) o;
    placed = refl;
    decides = record { fits = NodeLine.deep b l refl o; first = λ m r h. first (byte-line W d ds seen at b l h) };
  }
    where
      first : {m r : ℕ} → ByteLine W d seen at b l m r → Sooner 10 at m r
      first (short r h k) = inr (refl, inl (omega arith))
      first (deep h) = inr (refl, inr (refl, omega arith))
      first (unknown h k n) = inr (refl, inr (refl, omega arith))
      first (differs h k) = inr (refl, inr (refl, omega arith))
      first (clashes n h k) = inr (refl, inr (refl, omega arith))
      first (stray m r h k n) = inr (refl, inl (omega arith))

  -- A fault of the node, at a level that is allowed.
  stuck-fault : d.level ≤ most_levels → (n q : ℕ) (from : List ℕ) → node W d.root d.sort seen (b ∷ l) ≡ fault n from →
      q + length from ≡ at + suc (length l) → LineAt W d ds seen at (b ∷ l) n q →
      ((m r : ℕ) → ByteLine W d seen at b l m r → Sooner n q m r) → Stuck W d ds seen at (b ∷ l)
  stuck-fault o n q from e p fits first = record {
    number = n;
    place = q;
    from = from;
    stops = λ y. run-node W d ds seen y (b ∷ l) o ∙ ap (scan_node (run W) d ds seen y) e;
    placed = p;
    decides = record { fits = fits; first = λ m r h. first m r (byte-line W d ds seen at b l h) };
  }

  moves_on : (next : State) → Step W (at_due d ds seen at (b ∷ l)) next → ((m r : ℕ) → ByteLine W d seen at b l m r → ⊥) →
      Moves W d ds seen at (b ∷ l)
  moves_on next step clear = record { next = next; step = step; clear = λ m r h. clear m r (byte-line W d ds seen at b l h) }

  module _ (o : d.level ≤ most_levels) where
    stuck-differs : Word? W b → ((word W b).result ≡ d.sort → ⊥) → Stuck W d ds seen at (b ∷ l)
    stuck-differs w h =
        stuck-fault o 12 at (b ∷ l) (node-differs W d.root d.sort seen b l w h) refl (NodeLine.differs b l refl w h) (λ m r k. first k)
      where
        first : {m r : ℕ} → ByteLine W d seen at b l m r → Sooner 12 at m r
        first (short r h k) = inr (refl, inl (omega arith))
        first (deep h) = absurd (omega arith)
        first (unknown h k n) = absurd (h w)
        first (differs h k) = inr (refl, inr (refl, omega arith))
        first (clashes n h k) = inr (refl, inr (refl, omega arith))
        first (stray m r h k n) = inr (refl, inl (omega arith))

    stuck-short : Word? W b → (word W b).result ≡ d.sort → (r : List ℕ) → read_map l ≡ map_missing r → Stuck W d ds seen at (b ∷ l)
    stuck-short w e r k =
        stuck-fault o 9 (at + suc (length l)) r (node-short W d.root d.sort seen b l r w e k) (omega (arith, map_missing_lem l r k))
        (NodeLine.ends_in_map b l r refl w k) (λ m r h. first h)
      where
        first : {m q : ℕ} → ByteLine W d seen at b l m q → Sooner 9 (at + suc (length l)) m q
        first (short r h k) = inr (refl, inr (refl, omega arith))
        first (deep h) = absurd (omega arith)
        first (unknown h k n) = absurd (h w)
        first (differs h k) = absurd (k e)
        first (clashes n h k) = absurd (not_both_lem n w h)
        first (stray m r' h k' n) = let z : ◌≡◌ {A = ℕ} 0 1 = cc in absurd (omega arith)

    stuck-stray : Word? W b → (word W b).result ≡ d.sort → (m : ℕ) (r : List ℕ) → read_map l ≡ map_got m r →
        within (flags m) (flags (map_of W b)) ≡ false → Stuck W d ds seen at (b ∷ l)
    stuck-stray w e m r k h =
        stuck-fault o 14 (at + 1) l (node-stray W d.root d.sort seen b m l r w e k h) (omega arith)
        (NodeLine.stray b m l r refl w k h) (λ m r h. first h)
      where
        first : {n q : ℕ} → ByteLine W d seen at b l n q → Sooner 14 (at + 1) n q
        first (short r' h k') = let z : ◌≡◌ {A = ℕ} 0 1 = cc in absurd (omega arith)
        first (deep h) = absurd (omega arith)
        first (unknown h k n) = absurd (h w)
        first (differs h k) = absurd (k e)
        first (clashes n h k) = absurd (not_both_lem n w h)
        first (stray m' r' h k' n) = inr (refl, inr (refl, omega arith))

    moves_word : Word? W b → (word W b).result ≡ d.sort → (m : ℕ) (r : List ℕ) → read_map l ≡ map_got m r →
        within (flags m) (flags (map_of W b)) ≡ true → Moves W d ds seen at (b ∷ l)
    moves_word w e m r k h = moves_on _ (on_word b m l r o w e k h) (λ n q h. clear h)
      where
        clear : {n q : ℕ} → ByteLine W d seen at b l n q → ⊥
        clear (short r' h k') = let z : ◌≡◌ {A = ℕ} 0 1 = cc in omega arith
        clear (deep h) = omega arith
        clear (unknown h k n) = h w
        clear (differs h k) = k e
        clear (clashes n h k) = not_both_lem n w h
        clear (stray m' r' h' k' n) =
            let p : m' ≡ m = cc in
            let t : within (flags m) (flags (map_of W b)) ≡ false = rw p at n in
            let z : ◌≡◌ {A = ℕ} 0 1 = cc in omega arith

    look_word : Word? W b → Stuck W d ds seen at (b ∷ l) ⊎ Moves W d ds seen at (b ∷ l)
    look_word w = sorted (eqb (word W b).result d.sort) refl
      where
        mapped : (word W b).result ≡ d.sort → (v : MapRead) → read_map l ≡ v → Stuck W d ds seen at (b ∷ l) ⊎ Moves W d ds seen at (b ∷ l)
        mapped e (map_missing r) k = inl (stuck-short w e r k)
        mapped e (map_got m r) k = go (within (flags m) (flags (map_of W b))) refl
          where
            go : (t : Bool) → within (flags m) (flags (map_of W b)) ≡ t → Stuck W d ds seen at (b ∷ l) ⊎ Moves W d ds seen at (b ∷ l)
            go true h = inr (moves_word w e m r k h)
            go false h = inl (stuck-stray w e m r k h)

        sorted : (t : Bool) → eqb (word W b).result d.sort ≡ t → Stuck W d ds seen at (b ∷ l) ⊎ Moves W d ds seen at (b ∷ l)
        sorted true e = mapped (eqb-true _ _ e) (read_map l) refl
        sorted false e = inl (stuck-differs w (eqb-false _ _ e))

    stuck-clash : (Word? W b → ⊥) → (n : ℕ) → Name? b n → Clash seen n d.sort → Stuck W d ds seen at (b ∷ l)
    stuck-clash nw n h c =
        stuck-fault o 13 at (b ∷ l) (node-clash W d.root d.sort seen in_order b n l h c) refl (NodeLine.clashes b n l refl h c) (λ m r k. first k)
      where
        first : {m r : ℕ} → ByteLine W d seen at b l m r → Sooner 13 at m r
        first (short r h k) = absurd (nw h)
        first (deep h) = absurd (omega arith)
        first (unknown h' k _) = absurd (k n h)
        first (differs h k) = absurd (nw h)
        first (clashes n h k) = inr (refl, inr (refl, omega arith))
        first (stray m r h k n) = absurd (nw h)

    moves_name : (Word? W b → ⊥) → (n : ℕ) → Name? b n → (Clash seen n d.sort → ⊥) → Moves W d ds seen at (b ∷ l)
    moves_name nw n h c = moves_on _ (on_name b n l o h c) (λ m q h. clear h)
      where
        clear : {m q : ℕ} → ByteLine W d seen at b l m q → ⊥
        clear (short r h k) = nw h
        clear (deep h) = omega arith
        clear (unknown h' k _) = k n h
        clear (differs h k) = nw h
        clear (clashes n' h' k) = let e : n' ≡ n = omega arith in c (rw e at k)
        clear (stray m r h k n) = nw h

    moves_whole : (Word? W b → ⊥) → b ≡ whole_byte → d.root ≡ true → Moves W d ds seen at (b ∷ l)
    moves_whole nw e h =
        moves_on (record { due = ds; seen = seen; at = at + 1; rest = l })
        (subst (λ b. Step W (at_due d ds seen at (b ∷ l)) (record { due = ds; seen = seen; at = at + 1; rest = l })) (sym e) (on_whole l o h))
        (λ m q h. clear h)
      where
        clear : {m q : ℕ} → ByteLine W d seen at b l m q → ⊥
        clear (short r h k) = nw h
        clear (deep h) = omega arith
        clear (unknown h' k n) = n (e, h)
        clear (differs h k) = nw h
        clear (clashes n h k) = omega arith
        clear (stray m r h k n) = nw h

    stuck-unknown : (Word? W b → ⊥) → is_name b ≡ false → (d.root && eqb b whole_byte) ≡ false → Stuck W d ds seen at (b ∷ l)
    stuck-unknown nw nn e =
        stuck-fault o 11 at (b ∷ l) (node-unknown W d.root d.sort seen b l nw nn e) refl
        (NodeLine.unknown b l refl nw (λ n h. let z : ◌≡◌ {A = ℕ} 0 1 = cc (name_tested b n h) in omega arith) not_root) (λ m r k. first k)
      where
        not_root : (b ≡ whole_byte) × (d.root ≡ true) → ⊥
        not_root h =
            let t : (d.root && eqb b whole_byte) ≡ true = ap₂ ◌&&◌ h.1 (eq-eqb b whole_byte h.0) in
            let z : ◌≡◌ {A = ℕ} 0 1 = cc in omega arith

        first : {m r : ℕ} → ByteLine W d seen at b l m r → Sooner 11 at m r
        first (short r h k) = absurd (nw h)
        first (deep h) = absurd (omega arith)
        first (unknown h k n) = inr (refl, inr (refl, omega arith))
        first (differs h k) = absurd (nw h)
        first (clashes n h k) = inr (refl, inr (refl, omega arith))
        first (stray m r h k n) = absurd (nw h)

    look_leaf : (Word? W b → ⊥) → Stuck W d ds seen at (b ∷ l) ⊎ Moves W d ds seen at (b ∷ l)
    look_leaf nw = named (is_name b) refl
      where
        seen-before : Name? b (b - first_name_byte) → (t : Bool) → clash seen (b - first_name_byte) d.sort ≡ t → Stuck W d ds seen at (b ∷ l) ⊎ Moves W d ds seen at (b ∷ l)
        seen-before h true e = inl (stuck-clash nw (b - first_name_byte) h (clash_meant seen _ _ e))
        seen-before h false e = inr (moves_name nw (b - first_name_byte) h (clash_not seen (b - first_name_byte) d.sort e))

        at-root : is_name b ≡ false → (t u : Bool) → d.root ≡ t → eqb b whole_byte ≡ u → Stuck W d ds seen at (b ∷ l) ⊎ Moves W d ds seen at (b ∷ l)
        at-root nn true true p q = inr (moves_whole nw (eqb-true b whole_byte q) p)
        at-root nn true false p q = inl (stuck-unknown nw nn (ap₂ ◌&&◌ p q))
        at-root nn false u p q = inl (stuck-unknown nw nn (ap₂ ◌&&◌ p q))

        named : (t : Bool) → is_name b ≡ t → Stuck W d ds seen at (b ∷ l) ⊎ Moves W d ds seen at (b ∷ l)
        named true e = seen-before (name_meant b e) (clash seen (b - first_name_byte) d.sort) refl
        named false e = at-root e d.root (eqb b whole_byte) refl refl

-- What there is at a state where a term is due.
pub look : (W : Vocabulary) → InOrder W → (d : Due) (ds : List Due) (seen : List Occurrence) (at : ℕ) (rest : List ℕ) →
    Stuck W d ds seen at rest ⊎ Moves W d ds seen at rest
look W in_order d ds seen at [] = inl (stuck-empty W d ds seen at)
look W in_order d ds seen at (b ∷ l) = level (ltb most_levels d.level) refl
  where
    byte : d.level ≤ most_levels → (t : Bool) → is_word W b ≡ t → Stuck W d ds seen at (b ∷ l) ⊎ Moves W d ds seen at (b ∷ l)
    byte o true e = look_word W in_order d ds seen at b l o (ltb-true _ _ e)
    byte o false e = look_leaf W in_order d ds seen at b l o (λ h. omega (arith, ltb-false b (length W.words) e))

    level : (t : Bool) → ltb most_levels d.level ≡ t → Stuck W d ds seen at (b ∷ l) ⊎ Moves W d ds seen at (b ∷ l)
    level true e = inl (stuck-deep W in_order d ds seen at b l (ltb-true _ _ e))
    level false e = byte (ltb-false _ _ e) (is_word W b) refl
