-- EntrySizes: how many entries and bytes a listing has, by the words of the pattern and by one pass over its bytes.
--
-- This file is an algorithm, and nothing in it has to be believed: PatternCount and PatternLength fix what it gives.
--
--   summed W g t at, summed_all W g ts at   the sum of g f q over the words f of t or ts, where q is the offset of f and
--                                          t or ts begins at the offset `at`
--   count_at W f q, size_at W f q            how many entries begin to differ at the word f at offset q, and their bytes
--   counted W t, measured W t              how many entries and bytes the listing of t has
--   summed_in W g skip l at                 the same sum over bytes l at the offset `at`, of which the first `skip` are no words
--   PatternCount, PatternLength            one pass over a good pattern counts its entries and their bytes
--
use Rattle.std.specs.Prelude.{◌≡◌, cond, List, [], ◌∷◌, ℕ, zero, suc, ◌+◌, ◌*◌, length}
use Rattle.terms.specs.Term.{Term, any, var, app, Terms, nil, cons}
use Rattle.terms.specs.Listing.{others}
use Rattle.wire.specs.Map.{map_bytes}
use Rattle.wire.specs.Vocabulary.{Vocabulary, InOrder, signature}
use Rattle.wire.specs.TermBytes.{encode_at, encode_term, GoodTerm}
use Rattle.wire.specs.ListComputed.{entries_of, listing_bytes}
use Rattle.wire.specs.Parser.{is_word}

abbrev mutual
  pub summed : Vocabulary → (ℕ → ℕ → ℕ) → Term → ℕ → ℕ
  summed W g any at = 0
  summed W g (var n) at = 0
  summed W g (app f ts) at = g f at + summed_all W g ts (at + 1 + map_bytes)

  pub summed_all : Vocabulary → (ℕ → ℕ → ℕ) → Terms → ℕ → ℕ
  summed_all W g nil at = 0
  summed_all W g (cons t ts) at = summed W g t at + summed_all W g ts (at + length (encode_at W t))

abbrev pub count_at : Vocabulary → ℕ → ℕ → ℕ
count_at W f q = length (others (signature W) f)

abbrev pub size_at : Vocabulary → ℕ → ℕ → ℕ
size_at W f q = length (others (signature W) f) * (q + 1 + map_bytes)

-- The kind byte is byte 0, so the term itself begins at 1.
abbrev pub counted : Vocabulary → Term → ℕ
counted W t = summed W (count_at W) t 1

abbrev pub measured : Vocabulary → Term → ℕ
measured W t = summed W (size_at W) t 1

abbrev pub summed_in : Vocabulary → (ℕ → ℕ → ℕ) → ℕ → List ℕ → ℕ → ℕ
summed_in W g skip [] at = 0
summed_in W g (suc skip) (b ∷ l) at = summed_in W g skip l (at + 1)
summed_in W g zero (b ∷ l) at = cond (is_word W b) (g b at + summed_in W g map_bytes l (at + 1)) (summed_in W g zero l (at + 1))

abbrev pub PatternCount : Type 0
PatternCount = (W : Vocabulary) → InOrder W → (s : ℕ) (t : Term) → GoodTerm W s t →
    length (entries_of W s t) ≡ summed_in W (count_at W) 1 (encode_term W s t) 0

abbrev pub PatternLength : Type 0
PatternLength = (W : Vocabulary) → InOrder W → (s : ℕ) (t : Term) → GoodTerm W s t →
    length (listing_bytes W s t) ≡ summed_in W (size_at W) 1 (encode_term W s t) 0
