-- Putting: a word, or the value of a name, is put at an offset of a lent slice.
--
--   written-word            a word's byte and its map are stored behind what is written
--   put_word, put-copied    a value that is a word alone, and one that is copied
--   put-length              the length of the slice stays
--   written-put             a value is put behind what is written
--
use mathlib.Core.Path.{◌≡◌, refl, sym, ap, ap₂, subst, ◌∙◌}
use mathlib.Core.List.{List, [], ◌∷◌, ◌++◌, append_assoc}
use Prim.Native.Nat.{ℕ, suc, ◌+◌, ◌-◌, ◌≤◌}
use native.Mathlib.Numerals.{add-one}
use native.Mathlib.Omega.{arith}
use lib.ListN.{length, get_or, take, drop, set, length-append, length-drop, take-append-drop}
use lib.Seq.{length-take-le, take_at, drop_at, drop-cons, drop-drop}
use Rattle.wire.specs.Map.{map_bytes, write_map}
use Rattle.maps.specs.Reading.{map_at}
use Rattle.maps.specs.Writing.{map_put}
use Rattle.maps.proofs.Writing.{map-set}
use Rattle.slices.specs.Copied.{copied}
use Rattle.slices.specs.Written.{Written}
use Rattle.slices.proofs.Writing.{part, back, written_byte, written-copied, written-length}
use Rattle.filler.specs.Ready.{Puttable, PutsValue}

pub written-word : {bytes before out : List ℕ} {n : ℕ} → Written bytes before n out → (f m : ℕ) → length bytes + (1 + map_bytes) ≤ length before →
    Written (bytes ++ (f ∷ write_map m)) before (n + (1 + map_bytes)) (map_put m (set out n f) (n + 1))
written-word {bytes} {before} {out} {n} h f m room =
    subst (λ l. Written (bytes ++ (f ∷ (m ∷ []))) before (n + 2) l) (map-set (set out n f) (n + 1) m)
    (subst (λ l. Written l before (n + 2) after) (append_assoc bytes (f ∷ []) (m ∷ []))
    (subst (λ k. Written ((bytes ++ (f ∷ [])) ++ (m ∷ [])) before k after) (let e : n + 1 + 1 ≡ n + 2 = omega arith in e)
    (written_byte (written_byte h f (omega arith)) m (omega (arith, length-append bytes (f ∷ []))))))
  where
    after : List ℕ
    after = set (set out n f) (n + 1) m

-- The word at an offset.
cut_word : (b : List ℕ) (from : ℕ) → from + (1 + map_bytes) ≤ length b → take (1 + map_bytes) (drop from b) ≡ get_or b from 0 ∷ write_map (map_at b (from + 1))
cut_word b from h =
    ap (take 2) (drop-cons b from 0 (omega arith))
    ∙ ap {B = List ℕ} (λ l. get_or b from 0 ∷ l)
    (ap (take 1) next ∙ ap {B = List ℕ} (λ k. k ∷ []) (sym (ap (λ l. map_at l 0) next) ∙ ap (map_at b) (sym (add-one from))))
  where
    next : drop (suc from) b ≡ get_or b (suc from) 0 ∷ drop (suc (suc from)) b
    next = drop-cons b (suc from) 0 (omega arith)

-- The slice itself, up to an offset.
written-here : (out : List ℕ) (at : ℕ) → at ≤ length out → Written (take at out) out at out
written-here out at h =
    let e = length-take-le at out h in
    record { count = sym e; same = sym (take-append-drop at out) ∙ ap (λ i. take at out ++ drop i out) (sym e) }

module _ {b out : List ℕ} {from to at : ℕ} (r : Puttable b from to out at) where
  abbrev cut : List ℕ
  cut = take (to - from) (drop from b)

  front : length (take at out) ≡ at
  front = length-take-le at out (omega (arith, r.room))

  size : length cut ≡ to - from
  size = length-take-le (to - from) (drop from b) (omega (arith, length-drop from b, r.inside))

  pub put_word : to - from ≡ 1 + map_bytes → {m : ℕ} {after : List ℕ} → m ≡ map_at b (from + 1) → after ≡ map_put m (set out at (get_or b from 0)) (at + 1) →
      PutsValue b from to out at after
  put_word e {m} {after} g k =
      subst (λ l. Written (take at out ++ cut) out (at + (to - from)) l) (sym (k ∙ ap (λ m. map_put m (set out at (get_or b from 0)) (at + 1)) g))
      (subst (λ l. Written (take at out ++ l) out (at + (to - from)) put) (sym (ap (λ n. take n (drop from b)) e ∙ cut_word b from (omega (arith, r.up, r.inside))))
      (subst (λ n. Written (take at out ++ (get_or b from 0 ∷ write_map (map_at b (from + 1)))) out (at + n) put) (sym e)
      (written-word (written-here out at (omega (arith, r.room))) (get_or b from 0) (map_at b (from + 1)) (omega (arith, r.room, front)))))
    where
      put : List ℕ
      put = map_put (map_at b (from + 1)) (set out at (get_or b from 0)) (at + 1)

  pub put-copied : {ys : List ℕ} → ys ≡ copied cut (part at out) → PutsValue b from to out at (back at out ys)
  put-copied {ys} e =
      subst (λ n. Written (take at out ++ cut) out (at + n) (back at out ys)) size
      (written-copied (written-here out at (omega (arith, r.room))) (omega (arith, r.room, front)) cut (omega (arith, r.room, front, size)) e)

  pub put-length : {after : List ℕ} → PutsValue b from to out at after → length after ≡ length out
  put-length w = written-length w (omega (arith, r.room, length-append (take at out) cut, front, size))

pub written-put : {bytes before out after : List ℕ} {n m : ℕ} → Written bytes before n out → (value : List ℕ) → Written (take n out ++ value) out m after →
    Written (bytes ++ value) before m after
written-put {bytes} {before} {out} {after} {n} {m} h value k = record {
  count = k.count ∙ ap (λ l. length (l ++ value)) in_front;
  same =
      k.same
      ∙ ap₂ (λ l r. (l ++ value) ++ drop (length (l ++ value)) r) in_front h.same
      ∙ ap (λ i. (bytes ++ value) ++ drop i (bytes ++ rest)) (length-append bytes value)
      ∙ ap (λ l. (bytes ++ value) ++ l)
      (sym (drop-drop (length value) (length bytes) (bytes ++ rest))
      ∙ ap (drop (length value)) (drop_at bytes rest (length bytes) refl)
      ∙ drop-drop (length value) (length bytes) before
      ∙ ap (λ i. drop i before) (sym (length-append bytes value)));
}
  where
    rest : List ℕ
    rest = drop (length bytes) before

    in_front : take n out ≡ bytes
    in_front = ap₂ take h.count h.same ∙ take_at bytes rest (length bytes) refl
