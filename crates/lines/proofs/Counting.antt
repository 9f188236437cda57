-- Counting: what the definitions of texts count by recursion, as std counts it.
--
--   line_place              the size of a line: the place of the first end of a line
--   newlines_count, columns_count      how many ends of lines, and how many characters
--   columns-few, line-few   no more is counted than there are bytes
--   start_none, start_behind            where the last line begins: at the beginning, or behind the last end of a line
--
use Rattle.std.proofs.Common.{◌≡◌, ℕ, ◌+◌, ◌<◌, ◌≤◌, ◌≢◌, suc, length-drop, sym, Bool, true, false, not, cond, eqb, List, [], ◌∷◌, length, get_or, drop, count_by, All, refl, ap, ◌∙◌, subst, zero, add-one, arith}
use Rattle.std.specs.List.{position_or_len}
use Rattle.std.proofs.lemmas.List.{get_or-drop}
use Rattle.std.proofs.lemmas.List.Elements.{All-head, All-tail, All-from_get_or}
use Rattle.std.proofs.lemmas.List.Recursion.{is_position_or_len, is_count_by}
use Rattle.std.proofs.lemmas.List.Sums.{prefix_len-le-length, count_by-le-length}
use borrow.Author.Tests.{eq-eqb, ne_eqb}
use Rattle.texts.specs.Complaints.{newlines, columns, follows, line_start_from, line_start, line_size}

one_more : (n : ℕ) → suc n ≡ 1 + n
one_more n = omega arith

pub line_place : (l : List ℕ) → line_size l ≡ position_or_len (λ b. eqb b 10) l
line_place = is_position_or_len line_size (λ b. eqb b 10) refl (λ b l. ap (cond (eqb b 10) 0) (one_more (line_size l)))

pub newlines_count : (l : List ℕ) → newlines l ≡ count_by (λ b. eqb b 10) l
newlines_count = is_count_by newlines (λ b. eqb b 10) refl (λ b l. ap (λ n. cond (eqb b 10) n (newlines l)) (one_more (newlines l)))

turned : (t : Bool) (n : ℕ) → cond t n (suc n) ≡ cond (not t) (1 + n) n
turned true n = refl
turned false n = one_more n

pub columns_count : (l : List ℕ) → columns l ≡ count_by (λ b. not (follows b)) l
columns_count = is_count_by columns (λ b. not (follows b)) refl (λ b l. turned (follows b) (columns l))

pub columns-few : (l : List ℕ) → columns l ≤ length l
columns-few l = omega (arith, columns_count l, count_by-le-length (λ b. not (follows b)) l)

pub line-few : (l : List ℕ) → line_size l ≤ length l
line-few l = omega (arith, line_place l, prefix_len-le-length (λ b. not (eqb b 10)) l)

start_kept : (l : List ℕ) (at s : ℕ) → All (λ b. b ≢ 10) l → line_start_from at s l ≡ s
start_kept [] at s h = refl
start_kept (b ∷ l) at s h =
    ap (λ t. line_start_from (suc at) (cond t (suc at) s) l) (ne_eqb b 10 (All-head (λ x. x ≢ 10) b l h))
    ∙ start_kept l (suc at) s (All-tail (λ x. x ≢ 10) b l h)

pub start_none : (l : List ℕ) → All (λ b. b ≢ 10) l → line_start l ≡ 0
start_none l = start_kept l 0 0

start_found : (l : List ℕ) (i at s : ℕ) → i < length l → get_or l i 0 ≡ 10 → All (λ b. b ≢ 10) (drop (suc i) l) → line_start_from at s l ≡ at + suc i
start_found [] i at s h e none = absurd (omega arith)
start_found (b ∷ l) zero at s h e none =
    ap (λ t. line_start_from (suc at) (cond t (suc at) s) l) (eq-eqb b 10 e)
    ∙ start_kept l (suc at) (suc at) none
    ∙ (let k : suc at ≡ at + suc zero = omega arith in k)
start_found (b ∷ l) (suc i) at s h e none =
    start_found l i (suc at) (cond (eqb b 10) (suc at) s) (omega arith) e none
    ∙ (let k : suc at + suc i ≡ at + suc (suc i) = omega arith in k)

rest_from_reads : (P : ℕ → Type 0) (l : List ℕ) (i : ℕ) → ((k : ℕ) → i ≤ k → k < length l → P (get_or l k 0)) → All P (drop i l)
rest_from_reads P l i reads =
    All-from_get_or P (drop i l) 0 (λ k h. subst P (sym (get_or-drop i l k 0)) (reads (i + k) (omega arith) (let e = length-drop i l in omega arith)))

pub start_behind : (l : List ℕ) (i : ℕ) → i < length l → get_or l i 0 ≡ 10 → ((k : ℕ) → i + 1 ≤ k → k < length l → get_or l k 0 ≢ 10) → line_start l ≡ i + 1
start_behind l i h e none =
    start_found l i 0 0 h e (subst (λ n. All (λ b. b ≢ 10) (drop n l)) (add-one i) (rest_from_reads (λ b. b ≢ 10) l (i + 1) none))
    ∙ (let k : 0 + suc i ≡ i + 1 = omega arith in k)
