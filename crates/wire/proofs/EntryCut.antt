-- EntryCut: where an entry ends is found without the vocabulary, by counting the terms that are still due.
--
--   length_cut                                so many entries are cut off as are asked for
--   due_none, due-name, due-last, due-word    the count, a byte or a word a turn
--   due-more                                  some terms, and then the others
--   due-within, entry-within                  it never goes past the end
--   written ts, map-ones                      how many terms are written, by the written map
--   due-at, due_all, due-root, entry-size     it ends where what is written does
--   cut-entries                               whole patterns one behind the other are cut into these patterns
--
use mathlib.Core.Path.{◌≡◌, refl, ap, ap₂, subst, ◌∙◌}
use mathlib.Core.Bool.{Bool, true, false, not, cond}
use mathlib.Core.List.{List, [], ◌∷◌, ◌++◌, map, append_assoc}
use Prim.Native.Nat.{ℕ, zero, suc, ◌+◌, ◌<◌, ◌≤◌}
use native.Mathlib.Omega.{arith}
use lib.Dec.{ltb}
use lib.ListN.{length, take, drop, length-append}
use lib.Seq.{take_at, drop_at}
use borrow.Author.Tests.{lt-ltb, le-ltb}
use Rattle.terms.specs.Lists.{All}
use Rattle.terms.specs.Term.{Term, any, var, app, Terms, nil, cons, Sorted, SortedAll}
use Rattle.wire.specs.Map.{map_bytes, read_map, flags, bit, ones, is_open, written_flags}
use Rattle.wire.specs.Vocabulary.{Vocabulary, InOrder, signature, word, map_of}
use Rattle.wire.specs.TermBytes.{first_name_byte, written_map, encode_at, encode_all, encode_root, encode_term}
use Rattle.wire.specs.Reply.{Kinded}
use Rattle.wire.specs.Leftovers.{entries_bytes}
use Rattle.wire.specs.EntryCut.{due_by, due_in, due_size, entry_size, cut_entries}
use Rattle.wire.proofs.Cond.{cond_true, cond_false, choice}
use Rattle.wire.proofs.Map.{flags-written}
use Rattle.wire.proofs.Words.{length_symbols, arguments-word, word-in_order}
use Rattle.wire.proofs.EntriesRead.{GoodKinded}

pub length_cut : (n : ℕ) (l : List ℕ) → length (cut_entries n l) ≡ n
length_cut zero l = refl
length_cut (suc n) l = ap suc (length_cut n (drop (entry_size l) l))

-- ---- the count

pub due_none : (l : List ℕ) → due_size l 0 ≡ 0
due_none [] = refl
due_none (b ∷ l) = refl

pub due-name : (b : ℕ) (l : List ℕ) (k : ℕ) → first_name_byte ≤ b → due_size (b ∷ l) (suc k) ≡ suc (due_size l k)
due-name b l k h = ap suc (cond_false (ltb b first_name_byte) _ _ (le-ltb b first_name_byte h))

-- The bytes end where a map is due.
pub due-last : (b k : ℕ) → due_size (b ∷ []) (suc k) ≡ 1
due-last b k = choice (λ n. suc n ≡ 1) (ltb b first_name_byte) 0 0 (λ e. refl) (λ e. refl)

pub due-word : (b m : ℕ) (l : List ℕ) (k : ℕ) → b < first_name_byte → due_size (b ∷ m ∷ l) (suc k) ≡ 1 + map_bytes + due_size l (ones (flags m) + k)
due-word b m l k h = ap suc (cond_true (ltb b first_name_byte) _ _ (lt-ltb b first_name_byte h)) ∙ omega arith

-- Some terms, and behind them the others.
more_in : (skip : ℕ) (l : List ℕ) (j k : ℕ) → due_in skip l (j + k) ≡ due_in skip l j + due_in zero (drop (due_in skip l j) l) k
more_in skip [] j k = refl
more_in (suc skip) (b ∷ l) j k = omega (arith, more_in skip l j k)
more_in zero (b ∷ l) zero k = ap (due_in zero (b ∷ l)) (let e : 0 + k ≡ k = omega arith in e) ∙ omega arith
more_in zero (b ∷ l) (suc j) k =
    ap (due_in zero (b ∷ l)) (let e : suc j + k ≡ suc (j + k) = omega arith in e)
    ∙ go (ltb b first_name_byte)
    (ap (due_in map_bytes l) (let e : due_by (read_map l) + (j + k) ≡ due_by (read_map l) + j + k = omega arith in e) ∙ more_in map_bytes l (due_by (read_map l) + j) k)
    (more_in zero l j k)
  where
    terms : Bool → ℕ → ℕ
    terms t n = cond t (due_in map_bytes l (due_by (read_map l) + n)) (due_in zero l n)

    Then : Bool → Type 0
    Then t = terms t (j + k) ≡ terms t j + due_in zero (drop (terms t j) l) k

    go : (t : Bool) → Then true → Then false → suc (terms t (j + k)) ≡ suc (terms t j) + due_in zero (drop (terms t j) l) k
    go true below behind = omega (arith, below)
    go false below behind = omega (arith, behind)

pub due-more : (l : List ℕ) (j k : ℕ) → due_size l (j + k) ≡ due_size l j + due_size (drop (due_size l j) l) k
due-more = more_in zero

-- It never goes past the end.
pub due-within : (skip : ℕ) (l : List ℕ) (k : ℕ) → due_in skip l k ≤ length l
due-within skip [] k = omega arith
due-within (suc skip) (b ∷ l) k = let h = due-within skip l k in omega arith
due-within zero (b ∷ l) zero = omega arith
due-within zero (b ∷ l) (suc k) =
    choice (λ n. suc n ≤ suc (length l)) (ltb b first_name_byte) (due_in map_bytes l (due_by (read_map l) + k)) (due_in zero l k)
    (λ e. let h = due-within map_bytes l (due_by (read_map l) + k) in omega arith)
    (λ e. let h = due-within zero l k in omega arith)

pub entry-within : (l : List ℕ) → entry_size l ≤ length l
entry-within [] = omega arith
entry-within (s ∷ l) = let h = due-within zero l 1 in omega arith

-- ---- the count over what is written

-- How many of the terms ts are written.
abbrev pub written : Terms → ℕ
written nil = 0
written (cons t ts) = bit (not (is_open t)) + written ts

ones-written : (W : Vocabulary) (ps : List Bool) (ts : Terms) (ks : List ℕ) → length ks ≡ ones ps → SortedAll (signature W) ts ks →
    ones (written_flags ps ts) ≡ written ts
ones-written W [] nil [] e h = refl
ones-written W [] nil (k ∷ ks) e h = absurd h
ones-written W [] (cons t ts) [] e h = absurd h
ones-written W [] (cons t ts) (k ∷ ks) e h = absurd (omega arith)
ones-written W (false ∷ ps) ts ks e h = let r = ones-written W ps ts ks (omega arith) h in omega arith
ones-written W (true ∷ ps) nil [] e h = absurd (omega arith)
ones-written W (true ∷ ps) nil (k ∷ ks) e h = absurd h
ones-written W (true ∷ ps) (cons t ts) [] e h = absurd h
ones-written W (true ∷ ps) (cons t ts) (k ∷ ks) e h = let r = ones-written W ps ts ks (omega arith) h.1 in omega arith

module _ (W : Vocabulary) (in_order : InOrder W) where
  known : (f : ℕ) (ts : Terms) (s : ℕ) → Sorted (signature W) (app f ts) s → f < length W.words
  known f ts s h = rw (length_symbols W) at h.0

  -- A written map has a bit for each of them.
  pub map-ones : (f : ℕ) (ts : Terms) (s : ℕ) → Sorted (signature W) (app f ts) s → ones (flags (written_map W f ts)) ≡ written ts
  map-ones f ts s h =
      ap ones (flags-written (map_of W f) ts)
      ∙ ones-written W (flags (map_of W f)) ts (word W f).kinds (word-in_order W f in_order (known f ts s h)).count
      (subst (SortedAll (signature W) ts) (arguments-word W f) h.2)

  mutual
    pub due-at : (t : Term) (s : ℕ) → Sorted (signature W) t s → (k : ℕ) (r : List ℕ) →
        due_size (encode_at W t ++ r) (bit (not (is_open t)) + k) ≡ length (encode_at W t) + due_size r k
    due-at any s h k r = ap (due_size r) (let e : 0 + k ≡ k = omega arith in e) ∙ omega arith
    due-at (var n) s h k r =
        ap (due_size ((first_name_byte + n) ∷ r)) (let e : 1 + k ≡ suc k = omega arith in e)
        ∙ due-name (first_name_byte + n) r k (omega arith) ∙ omega arith
    due-at (app f ts) s h k r =
        let few = in_order.few_words in
        let low = known f ts s h in
        let l : List ℕ = encode_all W ts ++ r in
        ap (due_size (f ∷ written_map W f ts ∷ l)) (let e : 1 + k ≡ suc k = omega arith in e)
        ∙ due-word f (written_map W f ts) l k (omega arith)
        ∙ ap (λ (n : ℕ). 1 + map_bytes + due_size l (n + k)) (map-ones f ts s h)
        ∙ ap (λ (n : ℕ). 1 + map_bytes + n) (due_all ts _ h.2 k r)
        ∙ omega arith

    due_all : (ts : Terms) (ks : List ℕ) → SortedAll (signature W) ts ks → (k : ℕ) (r : List ℕ) →
        due_size (encode_all W ts ++ r) (written ts + k) ≡ length (encode_all W ts) + due_size r k
    due_all nil ks h k r = ap (due_size r) (let e : 0 + k ≡ k = omega arith in e) ∙ omega arith
    due_all (cons t ts) [] h k r = absurd h
    due_all (cons t ts) (j ∷ ks) h k r =
        let b : ℕ = bit (not (is_open t)) in
        ap₂ due_size (append_assoc (encode_at W t) (encode_all W ts) r) (let e : b + written ts + k ≡ b + (written ts + k) = omega arith in e)
        ∙ due-at t j h.0 (written ts + k) (encode_all W ts ++ r)
        ∙ ap (λ (n : ℕ). length (encode_at W t) + n) (due_all ts ks h.1 k r)
        ∙ omega (arith, length-append (encode_at W t) (encode_all W ts))

  due-root : (t : Term) (s : ℕ) → Sorted (signature W) t s → (r : List ℕ) → due_size (encode_root W t ++ r) 1 ≡ length (encode_root W t)
  due-root any s h r = due-name 255 r 0 (omega arith) ∙ ap suc (due_none r)
  due-root (var n) s h r = due-at (var n) s h 0 r ∙ omega (arith, due_none r)
  due-root (app f ts) s h r = due-at (app f ts) s h 0 r ∙ omega (arith, due_none r)

  entry-size : (k : Kinded) (r : List ℕ) → GoodKinded W k →
      entry_size (encode_term W k.kind k.term ++ r) ≡ length (encode_term W k.kind k.term)
  entry-size k r good = ap suc (due-root k.term k.kind good.sorted.sorted r)

  pub cut-entries : (l : List Kinded) (r : List ℕ) → All (GoodKinded W) l →
      cut_entries (length l) (entries_bytes W l ++ r) ≡ map (λ (e : Kinded). encode_term W e.kind e.term) l
  cut-entries [] r good = refl
  cut-entries (k ∷ l) r good =
      let e : List ℕ = encode_term W k.kind k.term in
      let b : List ℕ = entries_bytes W l ++ r in
      ap (cut_entries (suc (length l))) (append_assoc e (entries_bytes W l) r)
      ∙ ap (λ (n : ℕ). take n (e ++ b) ∷ cut_entries (length l) (drop n (e ++ b))) (entry-size k b good.0)
      ∙ ap₂ (λ (x y : List ℕ). x ∷ cut_entries (length l) y) (take_at e b (length e) refl) (drop_at e b (length e) refl)
      ∙ ap {B = List (List ℕ)} (λ ls. e ∷ ls) (cut-entries l r good.1)
