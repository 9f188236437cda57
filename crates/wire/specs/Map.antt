-- Map: place maps and written maps. The width of a map stands here and nowhere else.
--
--   map_bits              a map has bits for this many places (8)
--   map_bytes             a map is written as this many bytes (1)
--   write_map m           the bytes of the map m
--   MapRead, read_map l   the map at the front of l and the bytes behind it, or from where a byte is missing
--   flags_in d m          the d lowest bits of the map m, place 0 first
--   flags m              the bits of the map m, place 0 first
--   bit b                1 for a bit that stands, 0 for one that does not
--   number fs            the map whose bits are fs
--   ones fs              how many bits of fs stand
--   first_flag fs, rest_flags fs   the first bit and the bits behind it; past the end no bit stands
--   within ws ps         every bit that stands in ws stands in ps
--   Slot                 a place of a word: the sort due there, and whether it is written
--   slots ps ws ks       a slot for each place, lowest first: the bits ps of the place map, the bits ws of
--                        the written map, and the places' sorts ks
--   is_open t             t is an open place
--   written_flags ps ts   the bits of the places in ps whose term in ts is written
--
use Rattle.std.specs.Prelude.{Bool, true, false, not, ◌&&◌, cond, List, [], ◌∷◌, ℕ, zero, suc, ◌+◌, ◌*◌, ◌/◌, ◌%◌, eqb}
use Rattle.terms.specs.Term.{Term, any, var, app, Terms, nil, cons}

-- Document 01: "Bit 0 (worth 1) is place 0, bit 7 place 7; gaps are allowed."
abbrev pub map_bits : ℕ
map_bits = 8

abbrev pub map_bytes : ℕ
map_bytes = 1

abbrev pub write_map : ℕ → List ℕ
write_map m = m ∷ []

pub data MapRead : Type 0 where
  map_got : ℕ → List ℕ → MapRead
  map_missing : List ℕ → MapRead

abbrev pub read_map : List ℕ → MapRead
read_map [] = map_missing []
read_map (m ∷ l) = map_got m l

abbrev pub flags_in : ℕ → ℕ → List Bool
flags_in zero m = []
flags_in (suc d) m = eqb (m % 2) 1 ∷ flags_in d (m / 2)

abbrev pub flags : ℕ → List Bool
flags m = flags_in map_bits m

abbrev pub bit : Bool → ℕ
bit true = 1
bit false = 0

abbrev pub number : List Bool → ℕ
number [] = 0
number (b ∷ fs) = bit b + 2 * number fs

abbrev pub ones : List Bool → ℕ
ones [] = 0
ones (b ∷ fs) = bit b + ones fs

abbrev pub first_flag : List Bool → Bool
first_flag [] = false
first_flag (b ∷ fs) = b

abbrev pub rest_flags : List Bool → List Bool
rest_flags [] = []
rest_flags (b ∷ fs) = fs

-- Document 01: "The written map may hold only bits of the word's place map."
abbrev pub within : List Bool → List Bool → Bool
within [] ps = true
within (b ∷ ws) ps = cond b (first_flag ps) true && within ws (rest_flags ps)

pub record Slot : Type 0 where
  pub sort : ℕ
  pub written : Bool

abbrev pub slots : List Bool → List Bool → List ℕ → List Slot
slots [] ws ks = []
slots (false ∷ ps) ws ks = slots ps (rest_flags ws) ks
slots (true ∷ ps) ws [] = []
slots (true ∷ ps) ws (k ∷ ks) = record { sort = k; written = first_flag ws } ∷ slots ps (rest_flags ws) ks

-- Document 01: "A place whose bit is clear is open".
abbrev pub is_open : Term → Bool
is_open any = true
is_open (var n) = false
is_open (app f ts) = false

abbrev pub written_flags : List Bool → Terms → List Bool
written_flags [] ts = []
written_flags (false ∷ ps) ts = false ∷ written_flags ps ts
written_flags (true ∷ ps) nil = false ∷ written_flags ps nil
written_flags (true ∷ ps) (cons t ts) = not (is_open t) ∷ written_flags ps ts
