-- Printing: what document 01's program `leftovers` prints for its standard input.
--
--   most_input, listing_space    how many bytes of the input are taken, and how long the space for the listing is
--   vocabulary_length b         the length that the first two bytes give
--   vocabulary_part b, pattern_part b      the vocabulary and the pattern in the bytes b that are taken
--   entry_line i e              the line of an entry
--   entry_lines i es            a line an entry, numbered from i
--   listing_text es             the text for a listing of the entries es
--   refusal_text n i q          the text for a refusal
--   PrintPromise v p text      the text for a vocabulary and a pattern is that of list's refusal or of its entries
--
use Rattle.std.specs.Prelude.{◌≡◌, List, [], ◌∷◌, ◌++◌, map, ◌⊎◌, ℕ, suc, ◌+◌, ◌*◌, ◌≤◌, length, take, drop, replicate}
use Rattle.terms.specs.Term.{Term}
use Rattle.terms.specs.Listing.{IsListing}
use Rattle.wire.specs.Vocabulary.{Vocabulary, signature}
use Rattle.wire.specs.TermBytes.{encode_term}
use Rattle.wire.specs.BookBytes.{patterns_bytes}
use Rattle.wire.specs.Leftovers.{HoldsPattern, ListRefusal}
use Rattle.wire.specs.Text.{ascii, newline, decimal, hexadecimal}

-- "Only the first 65,536 bytes are taken"
abbrev pub most_input : ℕ
most_input = 65536

-- "Its listing space is 65,536 bytes."
abbrev pub listing_space : ℕ
listing_space = 65536

-- "two bytes, high byte first, the vocabulary's length"
abbrev pub vocabulary_length : List ℕ → ℕ
vocabulary_length [] = 0
vocabulary_length (high ∷ []) = 0
vocabulary_length (high ∷ low ∷ b) = 256 * high + low

-- "the vocabulary; the pattern as the rest. If fewer bytes come, the vocabulary is what came after the
-- length, or empty."
abbrev pub vocabulary_part : List ℕ → List ℕ
vocabulary_part b = take (vocabulary_length b) (drop 2 b)

abbrev pub pattern_part : List ℕ → List ℕ
pattern_part b = drop (vocabulary_length b) (drop 2 b)

-- "a line an entry: its number from 1, a space, its bytes in lowercase hexadecimal without gaps"; "Every line ends
-- with a newline"
abbrev pub entry_line : ℕ → List ℕ → List ℕ
entry_line i e = decimal i ++ (ascii " " ++ (hexadecimal e ++ newline))

abbrev pub entry_lines : ℕ → List (List ℕ) → List ℕ
entry_lines i [] = []
entry_lines i (e ∷ es) = entry_line i e ++ entry_lines (suc i) es

-- "It prints `leftovers` and the entry count, then a line an entry"
abbrev pub listing_text : List (List ℕ) → List ℕ
listing_text es = ascii "leftovers " ++ (decimal (length es) ++ (newline ++ entry_lines 1 es))

-- "A refusal prints `refused`, number, input, place, in decimal, with single spaces."
abbrev pub refusal_text : ℕ → ℕ → ℕ → List ℕ
refusal_text n i q =
    ascii "refused " ++ (decimal n ++ (ascii " " ++ (decimal i ++ (ascii " " ++ (decimal q ++ newline)))))

-- What stands in the space before the call does not matter to the text; zeros are taken.
pub record PrintPromise (v p text : List ℕ) : Type 0 where
  -- One of the two cases below holds of every input.
  pub one : ((n : ℕ) × (i : ℕ) × (q : ℕ) × ListRefusal v p (replicate listing_space 0) n i q) ⊎
      ((W : Vocabulary) × (s : ℕ) × (t : Term) × (l : List Term) × HoldsPattern v p W s t × IsListing (signature W) s t l ×
      (length (patterns_bytes W s l) ≤ listing_space))
  pub refuses : (n i q : ℕ) → ListRefusal v p (replicate listing_space 0) n i q → text ≡ refusal_text n i q
  -- The pattern's listing, where it fits the space.
  pub lists : (W : Vocabulary) (s : ℕ) (t : Term) (l : List Term) → HoldsPattern v p W s t → IsListing (signature W) s t l →
      length (patterns_bytes W s l) ≤ listing_space → text ≡ listing_text (map (encode_term W s) l)
