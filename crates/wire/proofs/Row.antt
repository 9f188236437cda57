-- Row: where the reader of one thing is inverse to its writer, the reader of a row of them is inverse to the row's writer.
--
--   row_by                      what holds of what is read of a row, from what holds of each thing
--   GoodRow Good next s l       the things of l are good, each under the state that next gives it
--   row_inverse, alike_inverse  the reader of a row is inverse to the row's writer
--   behind_row s l               the state behind the row l
--   row_last, row_stopped       the first things of a row are read, then one more, or the next is refused
--   StopsBehind, row_stops      where a row stops, the first things of it are read and the next is refused
--   Same n x g h                the bytes x behind those that are read change nothing, and n bytes are left
--   then_same, row_same         the same of what is read on behind, and of a row
--
use mathlib.Core.Path.{◌≡◌, refl, sym, ap, subst, ◌∙◌}
use mathlib.Core.List.{List, [], ◌∷◌, ◌++◌, append_assoc}
use mathlib.Core.Logic.{◌↔◌}
use Prim.Native.Nat.{ℕ, zero, suc, ◌+◌, ◌*◌, ◌≤◌, ◌<◌}
use native.Mathlib.Nat.{zero-add, suc-add}
use native.Mathlib.Omega.{arith}
use lib.ListN.{length}
use Rattle.terms.specs.Lists.{All}
use Rattle.wire.specs.Reply.{IsBytes}
use Rattle.wire.specs.Row.{write_row}
use Rattle.wire.specs.Parser.{Got, got, stop, and_then, read_row, read_alike}
use Rattle.wire.proofs.Bytes.{rest-bytes}
use Rattle.wire.proofs.Inverse.{ReadOff, Inverse, inverse_as}

abbrev pub GoodRow : {S A : Type 0} → (S → A → Type 0) → (S → A → S) → S → List A → Type 0
GoodRow Good next s [] = Unit {0}
GoodRow Good next s (a ∷ l) = Good s a × GoodRow Good next (next s a) l

module _ {S A : Type 0} (reader : S → List ℕ → Got A) (next : S → A → S) where
  -- T holds of what is read of each thing, and R is to hold of what is read of a row.
  pub row_by : (T : S → List ℕ → Got A → Type 0) (R : S → ℕ → List ℕ → Got (List A) → Type 0) →
      ((s : S) (l : List ℕ) → T s l (reader s l)) →
      ((s : S) (l : List ℕ) → R s 0 l (got [] l)) →
      ((s : S) (n : ℕ) (l : List ℕ) (m : ℕ) (r : List ℕ) → T s l (stop m r) → R s (suc n) l (stop m r)) →
      ((s : S) (n : ℕ) (l : List ℕ) (a : A) (r : List ℕ) → T s l (got a r) →
      (g : Got (List A)) → R (next s a) n r g → R s (suc n) l (and_then g (λ rest r'. got (a ∷ rest) r'))) →
      (s : S) (n : ℕ) (l : List ℕ) → R s n l (read_row reader next s n l)
  row_by T R thing none stops more s zero l = none s l
  row_by T R thing none stops more s (suc n) l = go (reader s l) (thing s l) (λ s l. row_by T R thing none stops more s n l)
    where
      go : (g : Got A) → T s l g → ((s : S) (l : List ℕ) → R s n l (read_row reader next s n l)) →
          R s (suc n) l (and_then g (λ a r. and_then (read_row reader next (next s a) n r) (λ rest r'. got (a ∷ rest) r')))
      go (got a r) t again = more s n l a r t (read_row reader next (next s a) n r) (again (next s a) r)
      go (stop m r) t again = stops s n l m r t

  module _ (write : A → List ℕ) (Good : S → A → Type 0) (each : (s : S) → Inverse (reader s) write (Good s)) where
    row_written : (s : S) (l : List A) (r : List ℕ) → GoodRow Good next s l → read_row reader next s (length l) (write_row write l ++ r) ≡ got l r
    row_written s [] r good = refl
    row_written s (a ∷ l) r good =
        ap (read_row reader next s (suc (length l))) (append_assoc (write a) (write_row write l) r)
        ∙ rw ((each s).written a (write_row write l ++ r) good.0, row_written (next s a) l r good.1)

    abbrev RowOff : S → ℕ → List ℕ → Got (List A) → Type 0
    RowOff s n b g = IsBytes b → ReadOff (write_row write) (λ l. (length l ≡ n) × GoodRow Good next s l) b g

    row_off : (s : S) (n : ℕ) (b : List ℕ) → RowOff s n b (read_row reader next s n b)
    row_off =
        row_by (λ s b g. IsBytes b → ReadOff write (Good s) b g) RowOff (λ s b. (each s).read b)
        (λ s b bytes. ((refl, tt), refl)) (λ s n b m r t bytes. tt) more
      where
        more : (s : S) (n : ℕ) (b : List ℕ) (a : A) (r : List ℕ) → (IsBytes b → ReadOff write (Good s) b (got a r)) →
            (g : Got (List A)) → RowOff (next s a) n r g → RowOff s (suc n) b (and_then g (λ rest r'. got (a ∷ rest) r'))
        more s n b a r t (got l r') h bytes =
            let first = t bytes in
            let rest = h (rest-bytes b (write a) r first.1 bytes) in (
              (ap suc rest.0.0, (first.0, rest.0.1)),
              first.1 ∙ ap (λ z. write a ++ z) rest.1 ∙ sym (append_assoc (write a) (write_row write l) r'),
            )
        more s n b a r t (stop m r') h bytes = tt

    pub row_inverse : (s : S) (n : ℕ) → Inverse (read_row reader next s n) (write_row write) (λ l. (length l ≡ n) × GoodRow Good next s l)
    row_inverse s n = record {
      written = λ l r h. ap (λ i. read_row reader next s i (write_row write l ++ r)) (sym h.0) ∙ row_written s l r h.1;
      read = row_off s n;
    }

  -- ---- what is read behind the first things of a row

  abbrev pub behind_row : S → List A → S
  behind_row s [] = s
  behind_row s (a ∷ l) = behind_row (next s a) l

  -- Where the first w things are read as g, one more is read behind them, or the row stops there.
  abbrev Next : S → ℕ → List ℕ → Got (List A) → Type 0
  Next s w b (got l r) =
      ((a : A) (r' : List ℕ) → reader (behind_row s l) r ≡ got a r' → read_row reader next s (w + 1) b ≡ got (l ++ (a ∷ [])) r')
      × ((j m : ℕ) (r' : List ℕ) → reader (behind_row s l) r ≡ stop m r' → read_row reader next s (w + suc j) b ≡ stop m r')
  Next s w b (stop m r) = Unit {0}

  row_next : (s : S) (w : ℕ) (b : List ℕ) → Next s w b (read_row reader next s w b)
  row_next =
      row_by (λ s b g. reader s b ≡ g) Next (λ s b. refl)
      (λ s b. ((λ a r e. rw e), (λ j m r e. ap (λ i. read_row reader next s i b) (zero-add (suc j)) ∙ rw e))) (λ s w b m r e. tt) more
    where
      more : (s : S) (w : ℕ) (b : List ℕ) (a : A) (r : List ℕ) → reader s b ≡ got a r →
          (g : Got (List A)) → Next (next s a) w r g → Next s (suc w) b (and_then g (λ rest r'. got (a ∷ rest) r'))
      more s w b a r e (got l r') h = (
        (λ c r'' f. ap (λ i. read_row reader next s i b) (suc-add w 1) ∙ rw (e, h.0 c r'' f)),
        (λ j m r'' f. ap (λ i. read_row reader next s i b) (suc-add w (suc j)) ∙ rw (e, h.1 j m r'' f)),
      )
      more s w b a r e (stop m r') h = tt

  module _ (s : S) (w : ℕ) (b : List ℕ) (l : List A) (r : List ℕ) (read : read_row reader next s w b ≡ got l r) where
    pub row_last : (a : A) (r' : List ℕ) → reader (behind_row s l) r ≡ got a r' → read_row reader next s (w + 1) b ≡ got (l ++ (a ∷ [])) r'
    row_last = (subst (Next s w b) read (row_next s w b)).0

    pub row_stopped : (j m : ℕ) (r' : List ℕ) → reader (behind_row s l) r ≡ stop m r' → read_row reader next s (w + suc j) b ≡ stop m r'
    row_stopped = (subst (Next s w b) read (row_next s w b)).1

  -- Where a row stops, its first things are read, and the next one is refused.
  pub record StopsBehind (s : S) (n : ℕ) (b : List ℕ) (m : ℕ) (r : List ℕ) : Type 0 where
    pub before : List A
    pub rest : List ℕ
    pub fewer : length before < n
    pub read : read_row reader next s (length before) b ≡ got before rest
    pub stops : reader (behind_row s before) rest ≡ stop m r

  abbrev Stopped : S → ℕ → List ℕ → Got (List A) → Type 0
  Stopped s n b (got l r) = Unit {0}
  Stopped s n b (stop m r) = StopsBehind s n b m r

  row_stopped_of : (s : S) (n : ℕ) (b : List ℕ) → Stopped s n b (read_row reader next s n b)
  row_stopped_of =
      row_by (λ s b g. reader s b ≡ g) Stopped (λ s b. refl) (λ s b. tt)
      (λ s n b m r e. record { before = []; rest = b; fewer = omega arith; read = refl; stops = e }) more
    where
      more : (s : S) (n : ℕ) (b : List ℕ) (a : A) (r : List ℕ) → reader s b ≡ got a r →
          (g : Got (List A)) → Stopped (next s a) n r g → Stopped s (suc n) b (and_then g (λ rest r'. got (a ∷ rest) r'))
      more s n b a r e (got l r') h = tt
      more s n b a r e (stop m r') h =
          let few = h.fewer in
          record { before = a ∷ h.before; rest = h.rest; fewer = omega arith; read = rw (e, h.read); stops = h.stops }

  pub row_stops : (s : S) (n : ℕ) (b : List ℕ) (m : ℕ) (r : List ℕ) → read_row reader next s n b ≡ stop m r → StopsBehind s n b m r
  row_stops s n b m r e = subst (Stopped s n b) e (row_stopped_of s n b)

-- ---- rows of things that are read alike

module _ {A : Type 0} {reader : List ℕ → Got A} {write : A → List ℕ} {Good : A → Type 0} (each : Inverse reader write Good) where
  alike-good : (l : List A) → GoodRow (λ (s : Unit {0}). Good) (λ s a. s) tt l ↔ All Good l
  alike-good [] = ((λ good. tt), (λ good. tt))
  alike-good (a ∷ l) = let rest = alike-good l in ((λ good. (good.0, rest.0 good.1)), (λ good. (good.0, rest.1 good.1)))

  pub alike_inverse : (n : ℕ) → Inverse (read_alike reader n) (write_row write) (λ l. (length l ≡ n) × All Good l)
  alike_inverse n =
      inverse_as (read_alike reader n) (write_row write) (write_row write) _ _ (λ l. refl) (λ l. let same = alike-good l in ((λ h. (h.0, same.0 h.1)), (λ h. (h.0, same.1 h.1))))
      (row_inverse (λ (s : Unit {0}). reader) (λ s a. s) write (λ s. Good) (λ s. each) tt n)

-- ---- bytes x behind those that are read

-- The second reading is the first with x behind the rest, of which at least n bytes are left.
abbrev pub Same : {A : Type 0} → ℕ → List ℕ → Got A → Got A → Type 0
Same n x (got a r) g = (n ≤ length r) × (g ≡ got a (r ++ x))
Same n x (stop m r) g = g ≡ stop m (r ++ x)

pub then_same : {A B : Type 0} (n m : ℕ) (x : List ℕ) (k : A → List ℕ → Got B) (g h : Got A) → Same n x g h →
    ((a : A) (r : List ℕ) → n ≤ length r → Same m x (k a r) (k a (r ++ x))) → Same m x (and_then g k) (and_then h k)
then_same n m x k (got a r) h (left, e) more = subst (λ z. Same m x (k a r) (and_then z k)) (sym e) (more a r left)
then_same n m x k (stop i r) h e more = ap (λ z. and_then z k) e

-- Where each thing takes at most w bytes.
pub row_same : {S A : Type 0} (reader : S → List ℕ → Got A) (next : S → A → S) (w : ℕ) (x : List ℕ) →
    ((s : S) (j : ℕ) (l : List ℕ) → w + j ≤ length l → Same j x (reader s l) (reader s (l ++ x))) →
    (s : S) (n j : ℕ) (l : List ℕ) → w * n + j ≤ length l → Same j x (read_row reader next s n l) (read_row reader next s n (l ++ x))
row_same reader next w x each s zero j l h = (omega arith, refl)
row_same reader next w x each s (suc n) j l h =
    then_same (w * n + j) j x (λ a r. and_then (read_row reader next (next s a) n r) (λ rest r'. got (a ∷ rest) r')) (reader s l) (reader s (l ++ x))
    (each s (w * n + j) l (omega arith))
    (λ a r left.
    then_same j j x (λ rest r'. got (a ∷ rest) r') (read_row reader next (next s a) n r) (read_row reader next (next s a) n (r ++ x))
    (row_same reader next w x each (next s a) n j r left) (λ rest r' left'. (left', refl)))
