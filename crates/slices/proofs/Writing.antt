-- Writing: bytes are written into a lent slice one behind the other, each time into the part behind those before.
--
--   part n out, back n out ys       the part from offset n on that is lent, and the whole when it is back as ys
--   written_none, written-more      nothing is written, and more into the part behind
--   written_byte, written-copied    a byte is stored behind, and a slice is copied there
--   written-length                  the length stays
--
use mathlib.Core.Path.{◌≡◌, refl, sym, ap, ap₂, ◌∙◌}
use mathlib.Core.List.{List, [], ◌∷◌, ◌++◌, append-nil, append_assoc}
use Prim.Native.Nat.{ℕ, suc, ◌+◌, ◌-◌, ◌<◌, ◌≤◌}
use native.Mathlib.Omega.{arith}
use lib.ListN.{length, take, drop, set, length-append, length-drop}
use lib.Seq.{take_all, take_at, drop_at, drop-drop, drop-length}
use Rattle.slices.specs.Copied.{copied}
use Rattle.slices.specs.Written.{Written}
use Rattle.slices.proofs.Copying.{copied-whole, stored}

pub written_none : (before : List ℕ) → Written [] before 0 before
written_none before = record { count = refl; same = refl }

pub written-length : {bytes before after : List ℕ} {n : ℕ} → Written bytes before n after → length bytes ≤ length before → length after ≡ length before
written-length {bytes} {before} {after} h room =
    ap length h.same ∙ length-append bytes (drop (length bytes) before) ∙ omega (arith, length-drop (length bytes) before)

abbrev pub part : ℕ → List ℕ → List ℕ
part n out = take (length out - n) (drop n out)

abbrev pub back : ℕ → List ℕ → List ℕ → List ℕ
back n out ys = take n out ++ (ys ++ drop (length out - n) (drop n out))

pub part_is : (n : ℕ) (out : List ℕ) → part n out ≡ drop n out
part_is n out = take_all (length out - n) (drop n out) (let e = length-drop n out in omega arith)

part_end : (n : ℕ) (out : List ℕ) → drop (length out - n) (drop n out) ≡ []
part_end n out = ap (λ k. drop k (drop n out)) (sym (length-drop n out)) ∙ drop-length (drop n out)

pub part_length : (n : ℕ) (out : List ℕ) → length (part n out) ≡ length out - n
part_length n out = ap length (part_is n out) ∙ length-drop n out

module _ {bytes before out : List ℕ} {n : ℕ} (h : Written bytes before n out) (room : length bytes ≤ length before) where
  behind : drop n out ≡ drop (length bytes) before
  behind = ap₂ drop h.count h.same ∙ drop_at bytes (drop (length bytes) before) (length bytes) refl

  in_front : take n out ≡ bytes
  in_front = ap₂ take h.count h.same ∙ take_at bytes (drop (length bytes) before) (length bytes) refl

  pub part_room : length (part n out) ≡ length before - length bytes
  part_room = ap length (part_is n out ∙ behind) ∙ length-drop (length bytes) before

  -- More bytes are written into the part.
  pub written-more : {more ys : List ℕ} {m : ℕ} → Written more (part n out) m ys → Written (bytes ++ more) before (n + m) (back n out ys)
  written-more {more} {ys} {m} k = record {
    count = omega (arith, h.count, k.count, length-append bytes more);
    same =
        ap₂ (λ l r. l ++ (ys ++ r)) in_front (part_end n out)
        ∙ ap (λ l. bytes ++ l) (append-nil ys ∙ k.same ∙ ap (λ l. more ++ drop (length more) l) (part_is n out ∙ behind)
        ∙ ap (λ l. more ++ l) (drop-drop (length more) (length bytes) before))
        ∙ sym (append_assoc bytes more (drop (length bytes + length more) before))
        ∙ ap (λ i. (bytes ++ more) ++ drop i before) (sym (length-append bytes more));
  }

  pub written-copied : (from : List ℕ) {ys : List ℕ} → length bytes + length from ≤ length before → ys ≡ copied from (part n out) →
      Written (bytes ++ from) before (n + length from) (back n out ys)
  written-copied from {ys} fits e =
      written-more (record { count = refl; same = e ∙ copied-whole from (part n out) (omega (arith, part_room)) })

pub written_byte : {bytes before out : List ℕ} {n : ℕ} → Written bytes before n out → (b : ℕ) → length bytes < length before →
    Written (bytes ++ (b ∷ [])) before (n + 1) (set out n b)
written_byte {bytes} {before} {out} {n} h b fits = record {
  count = omega (arith, h.count, length-append bytes (b ∷ []));
  same =
      ap₂ (λ l i. set l i b) h.same h.count
      ∙ stored before (length bytes) b fits bytes refl
      ∙ ap (λ i. (bytes ++ (b ∷ [])) ++ drop i before) (let e : suc (length bytes) ≡ length (bytes ++ (b ∷ [])) = omega (arith, length-append bytes (b ∷ [])) in e);
}
