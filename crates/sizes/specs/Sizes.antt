-- Sizes: how many entries and bytes a listing has, by the bytes of its pattern and a table of the words' result kinds.
--
-- This file is an algorithm, and nothing in it has to be believed: PatternSizes fixes what it gives.
--
--   summed_by n g skip l at   the sum of g f q over the words f of the bytes l at the offset `at`, where q is the offset of f, n
--                            numbers are words' and the first `skip` bytes are no words
--   entries_at, bytes_at       how many entries begin to differ at the word f at the offset q, and their bytes
--   Summed n r p e m         these two are summed up to e and m, over the bytes p
--   Measured n r p e m       the same, of the first 4,096 bytes and the first 96 words
--   PatternSizes             of a good pattern these are the number of its entries and of their bytes
--
use Rattle.std.specs.Prelude.{◌≡◌, cond, List, [], ◌∷◌, ℕ, zero, suc, ◌+◌, ◌*◌, ◌<◌, ◌≤◌, min, ltb, length, get_or, take}
use Rattle.terms.specs.Term.{Term}
use Rattle.wire.specs.Map.{map_bytes}
use Rattle.wire.specs.Vocabulary.{Vocabulary, InOrder, word, most_words}
use Rattle.wire.specs.TermBytes.{encode_term, GoodTerm, most_bytes}
use Rattle.wire.specs.ListComputed.{entries_of, listing_bytes}
use Rattle.kinds.specs.Kinds.{others_in}

abbrev pub summed_by : ℕ → (ℕ → ℕ → ℕ) → ℕ → List ℕ → ℕ → ℕ
summed_by n g skip [] at = 0
summed_by n g (suc skip) (b ∷ l) at = summed_by n g skip l (at + 1)
summed_by n g zero (b ∷ l) at = cond (ltb b n) (g b at + summed_by n g map_bytes l (at + 1)) (summed_by n g zero l (at + 1))

abbrev pub entries_at : ℕ → List ℕ → ℕ → ℕ → ℕ
entries_at n results f q = length (others_in n results f)

abbrev pub bytes_at : ℕ → List ℕ → ℕ → ℕ → ℕ
bytes_at n results f q = length (others_in n results f) * (q + 1 + map_bytes)

-- The kind byte is passed over.
pub record Summed (n : ℕ) (results p : List ℕ) (entries bytes : ℕ) : Type 0 where
  pub counts : entries ≡ summed_by n (entries_at n results) 1 p 0
  pub sizes : bytes ≡ summed_by n (bytes_at n results) 1 p 0

abbrev pub Measured : ℕ → List ℕ → List ℕ → ℕ → ℕ → Type 0
Measured words results p entries bytes = Summed (min words most_words) results (take most_bytes p) entries bytes

abbrev pub PatternSizes : Type 0
PatternSizes = (W : Vocabulary) → InOrder W → (s : ℕ) (t : Term) → GoodTerm W s t → length (encode_term W s t) ≤ most_bytes →
    (n : ℕ) (results : List ℕ) → n ≡ length W.words → ((f : ℕ) → f < n → get_or results f 0 ≡ (word W f).result) →
    (entries bytes : ℕ) → Measured n results (encode_term W s t) entries bytes →
    (entries ≡ length (entries_of W s t)) × (bytes ≡ length (listing_bytes W s t))
