-- Laid: a table that is filled from the front, entry by entry.
use mathlib.Core.Path.{◌≡◌, sym, ◌∙◌, ap}
use mathlib.Core.List.{List, [], ◌∷◌, ◌++◌, append_assoc, map, map-append}
use Prim.Native.Nat.{ℕ, zero, suc, ◌+◌, ◌<◌}
use native.Mathlib.Numerals.{add-one}
use native.Mathlib.Omega.{arith}
use lib.ListN.{length, get_or, drop, set, length-append, length-map, get_or-append, get_or-map}
use lib.Seq.{drop-cons, set_at}
use Rattle.terms.specs.Lists.{range}
use Rattle.wire.specs.Vocabulary.{Word, no_word}
use Rattle.signature.specs.Tables.{laid}

laid-set : (l table : List ℕ) (w a : ℕ) → length l ≡ w → w < length table → set (laid l table) w a ≡ laid (l ++ (a ∷ [])) table
laid-set l table w a e h =
    let behind : length l + 1 ≡ suc (length l) = omega arith in
    rw (
      length-append,
      behind,
      drop-cons table (length l) 0 (omega arith),
      set_at l (get_or table (length l) 0) (drop (suc (length l)) table) a w e,
      append_assoc,
    )

-- One entry more, over the first of those behind.
pub laid_more : (before table l next : List ℕ) (w a : ℕ) → table ≡ laid l before → length l ≡ w → w < length before → l ++ (a ∷ []) ≡ next →
    set table w a ≡ laid next before
laid_more before table l next w a t e h n = ap (λ k. set k w a) t ∙ laid-set l before w a e h ∙ ap (λ k. laid k before) n

range-more : (from n : ℕ) → range from (suc n) ≡ range from n ++ ((from + n) ∷ [])
range-more from zero = rw (let e : from + 0 ≡ from = omega arith in e)
range-more from (suc n) = ap (λ l. from ∷ l) (range-more (suc from) n ∙ ap (λ k. range (suc from) n ++ (k ∷ [])) (omega arith))

pub map_range_more : (f : ℕ → ℕ) (n : ℕ) → map f (range 0 n) ++ (f n ∷ []) ≡ map f (range 0 (n + 1))
map_range_more f n =
    let first : 0 + n ≡ n = omega arith in
    sym (ap (λ (k : ℕ). map f (range 0 k)) (add-one n) ∙ ap (map f) (range-more 0 n) ∙ map-append f (range 0 n) ((0 + n) ∷ [])
    ∙ ap (λ (k : ℕ). map f (range 0 n) ++ (f k ∷ [])) first)

-- A column of the words that is laid in a table, at one of them.
pub laid-at : (field : Word → ℕ) → field no_word ≡ 0 → (ws : List Word) (before table : List ℕ) → table ≡ laid (map field ws) before → (f : ℕ) →
    f < length ws → get_or table f 0 ≡ field (get_or ws f no_word)
laid-at field none ws before table t f h =
    ap (λ l. get_or l f 0) t
    ∙ get_or-append (map field ws) (drop (length (map field ws)) before) 0 f (omega (arith, length-map ws field))
    ∙ ap (get_or (map field ws) f) (sym none) ∙ get_or-map field ws f no_word
