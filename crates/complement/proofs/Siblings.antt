-- Siblings: the entries that differ at one word, written one by one.
use mathlib.Core.Path.{◌≡◌, refl, sym, ap, ◌∙◌, subst}
use mathlib.Core.List.{List, [], ◌∷◌, ◌++◌, append-nil, append_assoc}
use Prim.Native.Nat.{ℕ, ◌+◌, ◌≤◌}
use native.Mathlib.Omega.{arith}
use lib.ListN.{length, drop, length-append}
use Rattle.wire.specs.Map.{write_map}
use Rattle.wire.specs.EntryBytes.{others_bytes}
use Rattle.slices.specs.Written.{Written}
use Rattle.slices.proofs.Writing.{part, back, part_room, written-more, written_none, written-length}

others_bytes-append : (front l m : List ℕ) → others_bytes front (l ++ m) ≡ others_bytes front l ++ others_bytes front m
others_bytes-append front [] m = refl
others_bytes-append front (h ∷ l) m =
    ap (λ z. (front ++ (h ∷ write_map 0)) ++ z) (others_bytes-append front l m)
    ∙ sym (append_assoc (front ++ (h ∷ write_map 0)) (others_bytes front l) (others_bytes front m))

module _ (front all : List ℕ) where
  entry_length : (h : ℕ) → length (front ++ (h ∷ write_map 0)) ≡ length front + 2
  entry_length h = length-append front (h ∷ write_map 0)

  split_length : (done left : List ℕ) → all ≡ done ++ left →
      length (others_bytes front all) ≡ length (others_bytes front done) + length (others_bytes front left)
  split_length done left e =
      ap (λ l. length (others_bytes front l)) e
      ∙ ap length (others_bytes-append front done left)
      ∙ length-append (others_bytes front done) (others_bytes front left)

  -- All words but those that are left have their entries.
  pub record Listed (before left : List ℕ) (n : ℕ) (out : List ℕ) : Type 0 where
    pub done : List ℕ
    pub split : all ≡ done ++ left
    pub size : length out ≡ length before
    pub inside : n ≤ length before
    pub written : Written (others_bytes front done) before n out

  module _ {before : List ℕ} (room : length (others_bytes front all) ≤ length before) where
    listed_of : (done left : List ℕ) → all ≡ done ++ left → (n : ℕ) (out : List ℕ) → Written (others_bytes front done) before n out →
        Listed before left n out
    listed_of done left e n out w =
        let fits = split_length done left e in
        record {
          done = done;
          split = e;
          size = written-length w (omega arith);
          inside = let c = w.count in omega arith;
          written = w;
        }

    pub listed_none : Listed before all 0 before
    listed_none = listed_of [] all refl 0 before (written_none before)

    -- The next entry has room in the part that is left.
    pub listed-room : {at : ℕ} → length front ≡ at → {left out : List ℕ} {h n : ℕ} → Listed before (h ∷ left) n out →
        at + 2 ≤ length (part n out)
    listed-room begins {left} {out} {h} {n} l =
        let fits = split_length l.done (h ∷ left) l.split in
        let long = length-append (front ++ (h ∷ write_map 0)) (others_bytes front left) in
        omega (arith, entry_length h, part_room l.written (let z : length (others_bytes front l.done) ≤ length before = omega arith in z))

    pub listed_taken : {at : ℕ} → length front ≡ at → {left out ys : List ℕ} {h n : ℕ} → Listed before (h ∷ left) n out →
        ys ≡ (front ++ (h ∷ write_map 0)) ++ drop (at + 2) (part n out) →
        Listed before left (n + at + 2) (back n out ys)
    listed_taken {at} begins {left} {out} {ys} {h} {n} l y =
        let entry : List ℕ = front ++ (h ∷ write_map 0) in
        let fits = split_length l.done (h ∷ left) l.split in
        let long : at + 2 ≡ length entry = omega (arith, entry_length h) in
        let more : Written entry (part n out) (at + 2) ys = record { count = long; same = y ∙ ap (λ i. entry ++ drop i (part n out)) long } in
        let bytes : others_bytes front l.done ++ entry ≡ others_bytes front (l.done ++ (h ∷ [])) =
        sym (others_bytes-append front l.done (h ∷ []) ∙ ap (λ z. others_bytes front l.done ++ z) (append-nil entry)) in
        listed_of (l.done ++ (h ∷ [])) left (l.split ∙ sym (append_assoc l.done (h ∷ []) left)) (n + at + 2) (back n out ys)
        (subst (λ b. Written b before (n + at + 2) (back n out ys)) bytes
        (subst (λ i. Written (others_bytes front l.done ++ entry) before i (back n out ys)) (let z : n + (at + 2) ≡ n + at + 2 = omega arith in z)
        (written-more l.written (omega arith) more)))

    pub listed-all : {out : List ℕ} {n : ℕ} → Listed before [] n out → Written (others_bytes front all) before n out
    listed-all {out} {n} l =
        subst (λ d. Written (others_bytes front d) before n out) (sym (l.split ∙ append-nil l.done)) l.written
