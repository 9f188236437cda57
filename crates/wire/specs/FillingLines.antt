-- FillingLines: lines 21 and 22 of the refusal list (document 02, request i), each a predicate on the bytes of a filling file.
--
--   name_stands b n          the bit of name n stands in the map at the front of b
--   Differs b t n           the map and the set of names in the pattern t differ at the name n
--   values_due W s t         what is due behind the map: a term of its kind for each name of the pattern, ascending
--   FullStep W x y          the byte at state x begins a word with all its places written, which is in order: then state y
--   values_start W s t b     the state behind the map of the file b
--   FullTo W s t b x        from there the bytes lead to state x
--   ValueFault W x d q      at state x, where d is due, the first byte at fault or missing stands at q
--   FillingLine W s t b n q line n, of 21 and 22, fits the file b for the pattern t of kind s at the place q
--
use Rattle.std.specs.Prelude.{◌≡◌, Bool, false, List, [], ◌∷◌, ◌++◌, map, ℕ, suc, ◌+◌, ◌/◌, ◌%◌, ◌<◌, ◌≤◌, length, get_or, drop}
use Rattle.terms.specs.Lists.{occurs}
use Rattle.terms.specs.Term.{Term, Occurrence, occurrences, sort_in, names}
use Rattle.wire.specs.Map.{map_bytes, map_got, map_missing, read_map, flags_in, flags, slots}
use Rattle.wire.specs.Vocabulary.{Vocabulary, signature, word, map_of}
use Rattle.wire.specs.TermBytes.{name_count, most_levels}
use Rattle.wire.specs.VocabularyLines.{byte_at}
use Rattle.wire.specs.TermLines.{Due, State, due_at, Word?}
use Rattle.wire.specs.FillingFile.{name_map_bytes, ascending}

-- "byte 0 holding names 0 to 7 lowest bit first".
abbrev pub name_stands : List ℕ → ℕ → Bool
name_stands b n = get_or (flags_in 8 (byte_at b (n / 8))) (n % 8) false

abbrev pub Differs : List ℕ → Term → ℕ → Type 0
Differs b t n = (n < name_count) × (name_stands b n ≡ occurs n (names t) → ⊥)

-- "for each standing bit in ascending order, one complete term", "of its name's kind", with "levels of its own".
abbrev pub values_due : Vocabulary → ℕ → Term → List Due
values_due W s t = map (λ n. record { sort = sort_in (occurrences (signature W) t s) n; level = 1; root = false }) (ascending t)

-- "A term is complete if .. every written map equals its word's place map."
pub data FullStep (W : Vocabulary) : State → State → Type 0 where
  on_full_word : {d : Due} {ds : List Due} {seen : List Occurrence} {at : ℕ} (f : ℕ) (l r : List ℕ) →
      d.level ≤ most_levels → Word? W f → (word W f).result ≡ d.sort → read_map l ≡ map_got (map_of W f) r →
      FullStep W
      (record { due = d ∷ ds; seen = seen; at = at; rest = f ∷ l })
      (record { due = due_at (suc d.level) (slots (flags (map_of W f)) (flags (map_of W f)) (word W f).kinds) ++ ds; seen = seen; at = at + 1 + map_bytes; rest = r })

-- Places count from the file's first byte.
abbrev pub values_start : Vocabulary → ℕ → Term → List ℕ → State
values_start W s t b = record { due = values_due W s t; seen = []; at = name_map_bytes; rest = drop name_map_bytes b }

pub data FullTo (W : Vocabulary) (s : ℕ) (t : Term) (b : List ℕ) : State → Type 0 where
  here : FullTo W s t b (values_start W s t b)
  next : {x y : State} → FullTo W s t b x → FullStep W x y → FullTo W s t b y

-- "the first byte at fault, missing or extra": a term's first byte, or its map.
pub data ValueFault (W : Vocabulary) (x : State) (d : Due) : ℕ → Type 0 where
  -- Missing.
  ends : x.rest ≡ [] → ValueFault W x d x.at
  -- Level 33 would begin.
  deep : (b : ℕ) (l : List ℕ) → x.rest ≡ b ∷ l → most_levels < d.level → ValueFault W x d x.at
  -- A name, a 255 or any other byte that is no word.
  not_aWord : (b : ℕ) (l : List ℕ) → x.rest ≡ b ∷ l → (Word? W b → ⊥) → ValueFault W x d x.at
  -- A word of another kind.
  other_kind : (f : ℕ) (l : List ℕ) → x.rest ≡ f ∷ l → Word? W f → ((word W f).result ≡ d.sort → ⊥) → ValueFault W x d x.at
  -- Its map is missing.
  ends_in_map : (f : ℕ) (l r : List ℕ) → x.rest ≡ f ∷ l → Word? W f → read_map l ≡ map_missing r → ValueFault W x d (x.at + length x.rest)
  -- Its map is short, or has a bit that the place map lacks.
  other_map : (f m : ℕ) (l r : List ℕ) → x.rest ≡ f ∷ l → Word? W f → read_map l ≡ map_got m r → (m ≡ map_of W f → ⊥) →
      ValueFault W x d (x.at + 1)

pub data FillingLine (W : Vocabulary) (s : ℕ) (t : Term) (b : List ℕ) : ℕ → ℕ → Type 0 where
  -- 21 "when the bit map differs from the set of names in the pattern or has fewer than eight bytes (place: the lowest
  -- differing name, or 0 if short)".
  short : length b < name_map_bytes → FillingLine W s t b 21 0
  differs : (n : ℕ) → name_map_bytes ≤ length b → Differs b t n → ((m : ℕ) → m < n → Differs b t m → ⊥) → FillingLine W s t b 21 n
  -- 22 "when a filling is not a complete term of its name's kind with at most 32 levels of its own ..
  value : (x : State) (d : Due) (ds : List Due) (q : ℕ) → FullTo W s t b x → x.due ≡ d ∷ ds → ValueFault W x d q → FillingLine W s t b 22 q
  -- .. or bytes follow the last or a bare map (place: the first byte at fault, missing or extra)".
  more : (x : State) (c : ℕ) (r : List ℕ) → FullTo W s t b x → x.due ≡ [] → x.rest ≡ c ∷ r → FillingLine W s t b 22 x.at
