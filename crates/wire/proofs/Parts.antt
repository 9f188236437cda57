-- Parts: a part of a vocabulary's bytes was read, or reading stopped in it, with the kind bytes below the kind count up to there;
-- and so for a row of parts, from each of them.
use mathlib.Core.Path.{◌≡◌}
use mathlib.Core.List.{List, ◌∷◌}
use mathlib.Core.Logic.{◌⊎◌, inl, inr, ⊎_elim}
use Prim.Native.Nat.{ℕ, zero, suc, ◌<◌, ◌≤◌}
use native.Mathlib.Omega.{arith}
use lib.ListN.{length, drop}
use Rattle.wire.specs.Parser.{Got, got, stop, and_then, read_alike}
use Rattle.wire.specs.VocabularyLines.{byte_at}
use Rattle.wire.proofs.Row.{row_by}

-- Why reading stops with the number n at q: a byte is missing, or a kind byte is not below the kind count k.
abbrev pub Why : List ℕ → ℕ → ℕ → (ℕ → Type 0) → ℕ → ℕ → Type 0
Why b k e Kind n q =
    ((n ≡ 3) × (q ≡ length b) × (length b < e)) ⊎ ((n ≡ 4) × (q < length b) × Kind q × (k ≤ byte_at b q))

-- Reading stopped with the number n at the bytes r, in a part of the bytes b that ends before e and
-- whose kind bytes are those of Kind: all kind bytes before that one are below k.
pub record Stopped (b : List ℕ) (k e : ℕ) (Kind : ℕ → Type 0) (n : ℕ) (r : List ℕ) : Type 0 where
  pub place : ℕ
  pub rest : r ≡ drop place b
  pub inside : place < e
  pub clean : (q : ℕ) → Kind q → q < place → byte_at b q < k
  pub why : Why b k e Kind n place

why-within : (b : List ℕ) (k e e' : ℕ) (Kind Kind' : ℕ → Type 0) (n q : ℕ) →
    e ≤ e' → ((q : ℕ) → Kind q → Kind' q) → Why b k e Kind n q → Why b k e' Kind' n q
why-within b k e e' Kind Kind' n q h f (inl (m, a, l)) = inl (m, a, omega arith)
why-within b k e e' Kind Kind' n q h f (inr (m, a, l, c)) = inr (m, a, f q l, c)

-- Stopped in a part is stopped in the whole, where all kind bytes before the part are below k.
pub stopped_within : (b : List ℕ) (k e e' : ℕ) (Kind Kind' : ℕ → Type 0) (n : ℕ) (r : List ℕ) →
    e ≤ e' → ((q : ℕ) → Kind q → Kind' q) → ((q : ℕ) → Kind' q → (q < e) → Kind q ⊎ (byte_at b q < k)) →
    Stopped b k e Kind n r → Stopped b k e' Kind' n r
stopped_within b k e e' Kind Kind' n r h f g s = record {
  place = s.place;
  rest = s.rest;
  inside = omega (arith, s.inside);
  clean = λ q y l. ⊎_elim (λ z. s.clean q z l) (λ z. z) (g q y (omega (arith, s.inside)));
  why = why-within b k e e' Kind Kind' n s.place h f s.why;
}

-- A part of the bytes b that ends before e and whose kind bytes are those of Kind was read up to r.
pub record Passed (b : List ℕ) (k e : ℕ) (Kind : ℕ → Type 0) (r : List ℕ) : Type 0 where
  pub rest : r ≡ drop e b
  pub inside : e ≤ length b
  pub clean : (q : ℕ) → Kind q → byte_at b q < k

pub passed-within : (b : List ℕ) (k e : ℕ) (Kind Kind' : ℕ → Type 0) (r : List ℕ) →
    ((q : ℕ) → Kind' q → Kind q ⊎ (byte_at b q < k)) → Passed b k e Kind r → Passed b k e Kind' r
passed-within b k e Kind Kind' r f p = record {
  rest = p.rest;
  inside = p.inside;
  clean = λ q y. ⊎_elim (p.clean q) (λ z. z) (f q y);
}

-- Such a part was read as g.
abbrev pub Came : {A : Type 0} → List ℕ → ℕ → ℕ → (ℕ → Type 0) → Got A → Type 0
Came b k e Kind (got a r) = Passed b k e Kind r
Came b k e Kind (stop n r) = Stopped b k e Kind n r

pub came_within : {A : Type 0} (b : List ℕ) (k e : ℕ) (Kind Kind' : ℕ → Type 0) → ((q : ℕ) → Kind q → Kind' q) →
    ((q : ℕ) → Kind' q → Kind q ⊎ (byte_at b q < k)) → (g : Got A) → Came b k e Kind g → Came b k e Kind' g
came_within b k e Kind Kind' f h (got a r) came = passed-within b k e Kind Kind' r h came
came_within b k e Kind Kind' f h (stop n r) came = stopped_within b k e e Kind Kind' n r (omega arith) f (λ q y l. h q y) came

-- A thing may be made of what was read.
pub came_as : {A B : Type 0} (b : List ℕ) (k e : ℕ) (Kind : ℕ → Type 0) (f : A → B) (g : Got A) → Came b k e Kind g →
    Came b k e Kind (and_then g (λ a r. got (f a) r))
came_as b k e Kind f (got a r) came = came
came_as b k e Kind f (stop n r) came = came

-- ---- n parts, one behind the other, of which the first stands at offset i; the part at i ends before `to i`

abbrev pub behind_parts : (ℕ → ℕ) → ℕ → ℕ → ℕ
behind_parts to zero i = i
behind_parts to (suc n) i = behind_parts to n (to i)

-- One of them has a kind byte at q; those of the part at i are at In i.
abbrev pub InParts : (ℕ → ℕ) → (ℕ → ℕ → Type 0) → ℕ → ℕ → ℕ → Type 0
InParts to In zero i q = ⊥
InParts to In (suc n) i q = In i q ⊎ InParts to In n (to i) q

module _ (to : ℕ → ℕ) (In : ℕ → ℕ → Type 0) (onward : (i : ℕ) → i ≤ to i) (inside : (i q : ℕ) → In i q → i ≤ q) where
  parts-onward : (n i : ℕ) → i ≤ behind_parts to n i
  parts-onward zero i = omega arith
  parts-onward (suc n) i = omega (arith, parts-onward n (to i), onward i)

  parts-inside : (n i q : ℕ) → InParts to In n i q → i ≤ q
  parts-inside zero i q h = absurd h
  parts-inside (suc n) i q (inl h) = inside i q h
  parts-inside (suc n) i q (inr h) = omega (arith, parts-inside n (to i) q h, onward i)

  -- Where each part comes as it should, so does the row of them.
  module _ {A : Type 0} (b : List ℕ) (k : ℕ) (reader : List ℕ → Got A) where
    abbrev PartCame : List ℕ → Got A → Type 0
    PartCame l g = (i : ℕ) → l ≡ drop i b → i ≤ length b → Came b k (to i) (In i) g

    abbrev RowCame : ℕ → List ℕ → Got (List A) → Type 0
    RowCame n l g = (i : ℕ) → l ≡ drop i b → i ≤ length b → Came b k (behind_parts to n i) (InParts to In n i) g

    pub row_came : ((l : List ℕ) → PartCame l (reader l)) → (n : ℕ) (l : List ℕ) → RowCame n l (read_alike reader n l)
    row_came each =
        row_by (λ s. reader) (λ s a. s) (λ s. PartCame) (λ s. RowCame) (λ s. each)
        (λ s l i d h. record { rest = d; inside = h; clean = λ q y. absurd y }) (λ s. stops) (λ s. more) tt
      where
        stops : (n : ℕ) (l : List ℕ) (m : ℕ) (r : List ℕ) → PartCame l (stop m r) → RowCame (suc n) l (stop m r)
        stops n l m r came i d h =
            stopped_within b k (to i) (behind_parts to n (to i)) (In i) (InParts to In (suc n) i) m r
            (parts-onward n (to i)) (λ q y. inl y)
            (λ q y l. ⊎_elim inl (λ y. absurd (omega (arith, parts-inside n (to i) q y))) y) (came i d h)

        behind : (i n : ℕ) (r : List ℕ) → Passed b k (to i) (In i) r → (g : Got (List A)) → RowCame n r g → (a : A) →
            Came b k (behind_parts to n (to i)) (InParts to In (suc n) i) (and_then g (λ rest r'. got (a ∷ rest) r'))
        behind i n r first g came a =
            came_as b k (behind_parts to n (to i)) (InParts to In (suc n) i) (λ rest. a ∷ rest) g
            (came_within b k (behind_parts to n (to i)) (InParts to In n (to i)) (InParts to In (suc n) i) (λ q y. inr y)
            (λ q y. ⊎_elim (λ y. inr (first.clean q y)) inl y) g (came (to i) first.rest first.inside))

        more : (n : ℕ) (l : List ℕ) (a : A) (r : List ℕ) → PartCame l (got a r) →
            (g : Got (List A)) → RowCame n r g → RowCame (suc n) l (and_then g (λ rest r'. got (a ∷ rest) r'))
        more n l a r part g came i d h = behind i n r (part i d h) g came a
