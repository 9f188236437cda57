-- Lines: the texts that are put together from pieces.
--
--   line_is, listing_is, refusal_is    the pieces of a text
--   refusal-short                      how long the line of a refusal can be
--   digits-next                        the digits of bytes are those of the first, and then of the others
--   lines-next                         the lines of entries are that of the first, and then those of the others
--
use mathlib.Core.Path.{◌≡◌, sym, ap, ap₂, ◌∙◌}
use mathlib.Core.List.{List, [], ◌∷◌, ◌++◌, append_assoc}
use Prim.Native.Nat.{ℕ, suc, ◌+◌, ◌-◌, ◌/◌, ◌%◌, ◌^◌, ◌<◌, ◌≤◌}
use native.Mathlib.Numerals.{add-one}
use native.Mathlib.Omega.{arith}
use lib.ListN.{length, get_or, take, drop, length-append}
use lib.Seq.{drop-cons}
use Rattle.wire.specs.Text.{ascii, newline, digit, decimal, hexadecimal}
use Rattle.wire.specs.Printing.{entry_lines, refusal_text, entry_line}
use Rattle.wire.specs.EntryCut.{entry_size, cut_entries}
use Rattle.wire.proofs.Text.{decimal-short}
use Rattle.wire.proofs.EntryCut.{length_cut}
use Rattle.report.specs.Putting.{cut_text}

pub line_is : (i : ℕ) (e : List ℕ) → (decimal i ++ ascii " ") ++ (hexadecimal e ++ newline) ≡ entry_line i e
line_is i e = append_assoc (decimal i) (ascii " ") (hexadecimal e ++ newline)

pub listing_is : (n : ℕ) (l : List ℕ) → ascii "leftovers " ++ ((decimal n ++ newline) ++ entry_lines 1 (cut_entries n l)) ≡ cut_text n l
listing_is n l =
    ap (λ (t : List ℕ). ascii "leftovers " ++ t) (append_assoc (decimal n) newline (entry_lines 1 (cut_entries n l)))
    ∙ ap (λ (k : ℕ). ascii "leftovers " ++ (decimal k ++ (newline ++ entry_lines 1 (cut_entries n l)))) (sym (length_cut n l))

module _ (n i q : ℕ) where
  pub refusal_is : ascii "refused " ++ ((decimal n ++ ascii " ") ++ ((decimal i ++ ascii " ") ++ (decimal q ++ newline))) ≡ refusal_text n i q
  refusal_is =
      ap (λ (t : List ℕ). ascii "refused " ++ t)
      (append_assoc (decimal n) (ascii " ") ((decimal i ++ ascii " ") ++ (decimal q ++ newline))
      ∙ ap (λ (t : List ℕ). decimal n ++ (ascii " " ++ t)) (append_assoc (decimal i) (ascii " ") (decimal q ++ newline)))

  -- A number of 64 bits has at most 20 digits.
  pub refusal-short : n < 2 ^ 64 → i < 2 ^ 64 → q < 2 ^ 64 → length (refusal_text n i q) ≤ 128
  refusal-short small_n small_i small_q =
      omega (
        arith,
        decimal-short 19 n (omega arith),
        decimal-short 19 i (omega arith),
        decimal-short 19 q (omega arith),
        length-append (decimal n) (ascii " " ++ (decimal i ++ (ascii " " ++ (decimal q ++ newline)))),
        length-append (decimal i) (ascii " " ++ (decimal q ++ newline)),
        length-append (decimal q) newline,
      )

pub digits-next : (l : List ℕ) (i : ℕ) → i < length l →
    hexadecimal (drop i l) ≡ (digit (get_or l i 0 / 16) ∷ digit (get_or l i 0 % 16) ∷ []) ++ hexadecimal (drop (i + 1) l)
digits-next l i h = ap hexadecimal (drop-cons l i 0 h ∙ ap (λ (n : ℕ). get_or l i 0 ∷ drop n l) (sym (add-one i)))

-- The entry at the front of what is left has r bytes.
module _ (n i : ℕ) (more : i < n) (l : List ℕ) {entry others : List ℕ} {r : ℕ} (sized : r ≡ entry_size l) (front : entry ≡ take r l) (back : others ≡ drop r l) where
  pub lines-next : entry_lines (i + 1) (cut_entries (n - i) l) ≡ entry_line (i + 1) entry ++ entry_lines (i + 1 + 1) (cut_entries (n - (i + 1)) others)
  lines-next =
      ap (λ (k : ℕ). entry_lines (i + 1) (cut_entries k l)) (let m = more in let e : n - i ≡ suc (n - (i + 1)) = omega arith in e)
      ∙ ap₂ (λ (x y : List ℕ). entry_line (i + 1) x ++ entry_lines (suc (i + 1)) (cut_entries (n - (i + 1)) y))
      (ap (λ (k : ℕ). take k l) (sym sized) ∙ sym front) (ap (λ (k : ℕ). drop k l) (sym sized) ∙ sym back)
      ∙ ap (λ (k : ℕ). entry_line (i + 1) entry ++ entry_lines k (cut_entries (n - (i + 1)) others)) (sym (add-one (i + 1)))
