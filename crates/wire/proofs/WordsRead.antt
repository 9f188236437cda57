-- WordsRead: reading a vocabulary's records passes only kind bytes below the kind count, and a refusal says where they fail.
use mathlib.Core.Path.{◌≡◌, refl, sym}
use mathlib.Core.Bool.{Bool, true, false, cond}
use mathlib.Core.List.{List, [], ◌∷◌}
use mathlib.Core.Logic.{◌⊎◌, inl, inr, ⊎_elim, ◌≢◌}
use Prim.Native.Nat.{ℕ, zero, suc, ◌+◌, ◌<◌, ◌≤◌}
use native.Mathlib.Omega.{arith}
use native.Mathlib.Decide.{ℕ_discrete}
use lib.Dec.{ltb}
use lib.ListN.{length, drop}
use borrow.Author.Tests.{ltb-true, ltb-false}
use Rattle.wire.specs.Map.{read_map, flags, ones}
use Rattle.wire.specs.Parser.{got, stop, read_kind, read_kinds, read_places, read_word, read_words}
use Rattle.wire.specs.VocabularyLines.{byte_at, places_of}
use Rattle.wire.proofs.Bytes.{Begins, drop-begins, drop-ends}
use Rattle.wire.proofs.Parts.{Stopped, Came, came_within, came_as, behind_parts, InParts, row_came}
use Rattle.wire.proofs.Records.{behind, behind_is, places-at, behind_beyond, after, KindIn, KindFrom}

-- The offsets from i up to e.
abbrev Span : ℕ → ℕ → ℕ → Type 0
Span i e q = (i ≤ q) × (q < e)

-- A kind is a part of one byte, so the kind bytes of n kinds are those of a span.
abbrev KindAt : ℕ → ℕ → Type 0
KindAt i q = q ≡ i

behind-kinds : (n i e : ℕ) → i + n ≡ e → behind_parts suc n i ≡ e
behind-kinds zero i e h = omega arith
behind-kinds (suc n) i e h = behind-kinds n (suc i) e (omega arith)

in_kinds : (n i e q : ℕ) → i + n ≡ e → InParts suc KindAt n i q → Span i e q
in_kinds zero i e q h y = absurd y
in_kinds (suc n) i e q h (inl y) = (omega arith, omega arith)
in_kinds (suc n) i e q h (inr y) = let s = in_kinds n (suc i) e q (omega arith) y in (omega (arith, s.0), s.1)

kinds_in_lem : (n i e q : ℕ) → i + n ≡ e → Span i e q → InParts suc KindAt n i q
kinds_in_lem zero i e q h (from, before) = absurd (omega arith)
kinds_in_lem (suc n) i e q h (from, before) = go (ℕ_discrete q i) (λ more. kinds_in_lem n (suc i) e q (omega arith) (more, before))
  where
    go : Dec (q ≡ i) → (suc i ≤ q → InParts suc KindAt n (suc i) q) → InParts suc KindAt (suc n) i q
    go (yes p) rest = inl p
    go (no d) rest = let apart : q ≢ i = d in inr (rest (omega arith))

-- Reading stops at a part's first byte: it is missing, or a kind byte that is not below the kind count.
stopped_missing : (b : List ℕ) (k i e : ℕ) (Kind : ℕ → Type 0) → ((q : ℕ) → Kind q → i ≤ q) → i < e → [] ≡ drop i b → i ≤ length b → Stopped b k e Kind 3 []
stopped_missing b k i e Kind from before d h = record {
  place = i;
  rest = d;
  inside = before;
  clean = λ q y l. absurd (omega (arith, from q y));
  why = inl (refl, omega (arith, drop-ends b i (sym d)), omega (arith, drop-ends b i (sym d)));
}

stopped_unknown : (b : List ℕ) (k i e x : ℕ) (l : List ℕ) (Kind : ℕ → Type 0) → ((q : ℕ) → Kind q → i ≤ q) → Kind i → i < e →
    (x ∷ l) ≡ drop i b → ltb x k ≡ false → Stopped b k e Kind 4 (x ∷ l)
stopped_unknown b k i e x l Kind from here before d t =
    let begins = drop-begins b i x l (sym d) in
    record {
      place = i;
      rest = d;
      inside = before;
      clean = λ q y l. absurd (omega (arith, from q y));
      why = inr (refl, begins.inside, here, omega (arith, ltb-false x k t, begins.byte));
    }

kind-read : (b : List ℕ) (k : ℕ) (l : List ℕ) (i : ℕ) → l ≡ drop i b → i ≤ length b → Came b k (suc i) (KindAt i) (read_kind k l)
kind-read b k [] i d h = stopped_missing b k i (suc i) (KindAt i) (λ q y. omega arith) (omega arith) d h
kind-read b k (x ∷ l) i d h = go (ltb x k) refl
  where
    go : (t : Bool) → ltb x k ≡ t → Came b k (suc i) (KindAt i) (cond t (got x l) (stop 4 (x ∷ l)))
    go true t =
        let begins = drop-begins b i x l (sym d) in
        let byte = begins.byte in
        record {
          rest = sym begins.rest;
          inside = begins.inside;
          clean = λ q y. rw y (omega (arith, ltb-true x k t));
        }
    go false t = stopped_unknown b k i (suc i) x l (KindAt i) (λ q y. omega arith) refl (omega arith) d t

-- n kind bytes from offset i up to e.
kinds-read : (b : List ℕ) (k n i e : ℕ) (l : List ℕ) → l ≡ drop i b → i ≤ length b → i + n ≡ e → Came b k e (Span i e) (read_kinds k n l)
kinds-read b k n i e l d h p =
    came_within b k e (InParts suc KindAt n i) (Span i e) (λ q. in_kinds n i e q p) (λ q s. inl (kinds_in_lem n i e q p s)) (read_kinds k n l)
    (rw (behind-kinds n i e p) at
    (row_came suc KindAt (λ i. omega arith) (λ i q y. omega arith) b k (read_kind k) (kind-read b k) n l i d h))

-- A record's kind bytes are its result kind and those behind its map.
kind-first : (b : List ℕ) (k i : ℕ) → byte_at b i < k → (q : ℕ) → KindIn b i q → Span (suc (suc i)) (behind b i) q ⊎ (byte_at b q < k)
kind-first b k i h q s = go (ℕ_discrete q i)
  where
    go : Dec (q ≡ i) → Span (suc (suc i)) (behind b i) q ⊎ (byte_at b q < k)
    go (yes p) = inr (rw p h)
    go (no d) =
        let apart : q ≢ i = d in
        let no_map : q ≢ suc i = s.no_map in
        inl (omega (arith, s.from), s.before)

places-end : (b : List ℕ) (i p : ℕ) → places_of b i ≡ p → suc (suc i) + p ≡ behind b i
places-end b i p e = rw (behind_is b i p e) (omega arith)

places-read : (b : List ℕ) (k i x : ℕ) (l : List ℕ) → Begins b i x l → x < k → Came b k (behind b i) (KindIn b i) (read_places k x (read_map l))
places-read b k i x [] begins h = record {
  place = suc i;
  rest = sym begins.rest;
  inside = omega (arith, behind_beyond b i);
  clean = λ q s l. let byte = begins.byte in ⊎_elim (λ z. absurd (omega arith)) (λ z. z) (kind-first b k i (omega arith) q s);
  why = inl (refl, omega (arith, drop-ends b (suc i) begins.rest, begins.inside), omega (arith, drop-ends b (suc i) begins.rest, behind_beyond b i));
}
places-read b k i x (m ∷ l) begins h =
    let byte = begins.byte in
    let map = drop-begins b (suc i) m l begins.rest in
    came_as b k (behind b i) (KindIn b i) (λ ks. record { result = x; place_map = m; kinds = ks }) (read_kinds k (ones (flags m)) l)
    (came_within b k (behind b i) (Span (suc (suc i)) (behind b i)) (KindIn b i)
    (λ q s. record { from = omega arith; no_map = omega arith; before = omega arith })
    (kind-first b k i (omega arith)) (read_kinds k (ones (flags m)) l)
    (kinds-read b k (ones (flags m)) (suc (suc i)) (behind b i) l (sym map.rest) map.inside (places-end b i (ones (flags m)) (places-at b i m l begins.rest))))

-- The record at offset i.
word_read_lem : (b : List ℕ) (k : ℕ) (l : List ℕ) (i : ℕ) → l ≡ drop i b → i ≤ length b → Came b k (behind b i) (KindIn b i) (read_word k l)
word_read_lem b k [] i d h = stopped_missing b k i (behind b i) (KindIn b i) (λ q y. y.from) (omega (arith, behind_beyond b i)) d h
word_read_lem b k (x ∷ l) i d h = go (ltb x k) refl
  where
    go : (t : Bool) → ltb x k ≡ t → Came b k (behind b i) (KindIn b i) (cond t (read_places k x (read_map l)) (stop 4 (x ∷ l)))
    go true t = places-read b k i x l (drop-begins b i x l (sym d)) (ltb-true x k t)
    go false t =
        let beyond = behind_beyond b i in
        stopped_unknown b k i (behind b i) x l (KindIn b i) (λ q y. y.from)
        (record { from = omega arith; no_map = omega arith; before = omega arith }) (omega arith) d t

-- The n records from offset i on.
pub words-read : (b : List ℕ) (k n i : ℕ) (l : List ℕ) → l ≡ drop i b → i ≤ length b → Came b k (after b n i) (KindFrom b n i) (read_words k n l)
words-read b k n i l d h =
    row_came (behind b) (KindIn b) (λ i. omega (arith, behind_beyond b i)) (λ i q y. y.from) b k (read_word k) (word_read_lem b k) n l i d h
