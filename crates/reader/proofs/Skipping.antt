-- Skipping: the loop over the names of a filling file goes on by eight names, where the map's byte is 0.
--
--   no_difference     map and table do not differ
--   skip_room         there is room for eight names
--   starts_filled     the starts of eight names that are filled with one offset are passed
--   values_pass       names that have no value, one after the other
--   values_skip       the eight names
--
use mathlib.Core.Path.{◌≡◌, refl, sym, ap, subst, ◌∙◌}
use mathlib.Core.Bool.{Bool, true, false}
use mathlib.Core.List.{List, ◌++◌, append-nil}
use Prim.Native.Nat.{ℕ, zero, suc, ◌+◌, ◌/◌, ◌%◌, ◌<◌, ◌≤◌}
use native.Mathlib.Numerals.{add-one}
use native.Mathlib.Omega.{arith}
use lib.ListN.{length, get_or, take, drop, set, replicate, length-drop}
use lib.Seq.{set-get_or, paste, length-take-le}
use borrow.Rule.Slice.PartMut.{mid_of, put_mid}
use Rattle.std.proofs.lemmas.List.{take-append-drop}
use Rattle.std.proofs.lemmas.Slice.{put_mid-paste}
use Rattle.std.proofs.lemmas.List.Edits.{fill_from_more}
use Rattle.wire.specs.Map.{flags_in}
use Rattle.wire.specs.VocabularyLines.{byte_at}
use Rattle.wire.specs.TermBytes.{name_count}
use Rattle.namemaps.specs.Difference.{DifferenceAt}
use Rattle.reader.specs.Names.{listed}
use Rattle.reader.specs.Fillings.{Skips, starts_passed}
use Rattle.reader.proofs.Tabling.{ValuesTo, values-absent}

pub no_difference : {b names : List ℕ} {n : ℕ} → DifferenceAt b names n → name_count ≤ n → DifferenceAt b names name_count
no_difference {b} {names} {n} d high =
    let most = d.up_to in
    subst (DifferenceAt b names) (let e : n ≡ name_count = omega arith in e) d

-- No bit of 0 stands.
no_flag : (d j : ℕ) → get_or (flags_in d 0) j false ≡ false
no_flag zero j = refl
no_flag (suc d) zero = refl
no_flag (suc d) (suc j) = no_flag d j

-- None of eight names has a value whose byte in the map is 0.
none_listed : {b names : List ℕ} {n : ℕ} → DifferenceAt b names name_count → n < name_count → n % 8 ≡ 0 → byte_at b (n / 8) ≡ 0 →
    (m : ℕ) → n ≤ m → m < n + 8 → listed names m ≡ false
none_listed {b} {names} {n} d below first none m low high =
    let byte : m / 8 ≡ n / 8 = omega arith in
    sym (d.alike m (omega arith)) ∙ ap (λ k. get_or (flags_in 8 k) (m % 8) false) (ap (byte_at b) byte ∙ none) ∙ no_flag 8 (m % 8)

pub skip_room : (n : ℕ) → n < name_count → n % 8 ≡ 0 → n + 8 ≤ name_count
skip_room n below first = omega arith

starts_pasted : (starts : List ℕ) (n at k : ℕ) → n + k < length starts → starts_passed starts n at k ≡ paste starts (n + 1) (replicate k at) k
starts_pasted starts n at zero h =
    let place : n + 1 + 0 ≡ n + 1 = omega arith in
    sym (ap (λ l. l ++ drop (n + 1 + 0) starts) (append-nil (take (n + 1) starts))
    ∙ ap (λ i. take (n + 1) starts ++ drop i starts) place
    ∙ take-append-drop (n + 1) starts)
starts_pasted starts n at (suc k) h =
    let place : n + suc k ≡ n + 1 + k = omega arith in
    ap (λ l. set l (n + suc k) at) (starts_pasted starts n at k (omega arith))
    ∙ ap (λ i. set (paste starts (n + 1) (replicate k at) k) i at) place
    ∙ fill_from_more starts (n + 1) k at (omega arith)
    ∙ ap (λ i. paste starts (n + 1) (replicate i at) i) (add-one k)

pub starts_filled : (starts new : List ℕ) (n at k : ℕ) → n + 8 < length starts → new ≡ replicate (length (mid_of (n + 1) k starts)) at → k ≡ 8 →
    put_mid (n + 1) k starts new ≡ starts_passed starts n at 8
starts_filled starts new n at k h e eight =
    let many : length (mid_of (n + 1) k starts) ≡ k = length-take-le k (drop (n + 1) starts) (rw length-drop (omega arith)) in
    put_mid-paste (n + 1) k starts new (replicate 8 at) 8 (e ∙ ap (λ i. replicate i at) (many ∙ eight)) (sym eight) refl
    ∙ sym (starts_pasted starts n at 8 h)

module _ {v b names : List ℕ} {n at : ℕ} {starts depths : List ℕ} (x : ValuesTo v b names n at starts depths) where
  values_pass : (k : ℕ) → n + k ≤ name_count → ((m : ℕ) → n ≤ m → m < n + k → listed names m ≡ false) →
      ValuesTo v b names (n + k) at (starts_passed starts n at k) depths
  values_pass zero h none = subst (λ m. ValuesTo v b names m at starts depths) (let e : n ≡ n + 0 = omega arith in e) x
  values_pass (suc k) h none =
      let y = values_pass k (omega arith) (λ m low high. none m low (omega arith)) in
      let same : set depths (n + k) 0 ≡ depths = ap (set depths (n + k)) (sym (y.ahead (n + k) (omega arith) (omega arith))) ∙ set-get_or depths (n + k) 0 in
      subst (λ m. ValuesTo v b names m at (set (starts_passed starts n at k) m at) depths) (let e : n + k + 1 ≡ n + suc k = omega arith in e)
      (subst (ValuesTo v b names (n + k + 1) at (set (starts_passed starts n at k) (n + k + 1) at)) same
      (values-absent y (omega arith) (none (n + k) (omega arith) (omega arith))))

  pub values_skip : {starts' : List ℕ} {r : Bool} → DifferenceAt b names name_count → n < name_count → Skips b n r → r ≡ true →
      starts' ≡ starts_passed starts n at 8 → ValuesTo v b names (n + 8) at starts' depths
  values_skip d below s e same =
      subst (λ l. ValuesTo v b names (n + 8) at l depths) (sym same)
      (values_pass 8 (skip_room n below (s e).0) (none_listed d below (s e).0 (s e).1))
