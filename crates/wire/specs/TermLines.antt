-- TermLines: lines 7 to 15 of the refusal list, each a predicate on the bytes of a term.
--
--   Due                     what is due: a term of a kind, at a level, perhaps the root
--   State                   what is due from some byte on, lowest place first, and the names seen
--   due_at level ks          what is due for the written places among ks, each at that level
--   Word? W b               the byte b is a word's number
--   Name? b n               the byte b is the name n
--   Clash seen n s          the name n stood earlier at a place of another kind than s
--   Step W x y              the byte at state x begins a word or name that is in order, or is a 255: then state y
--   start s l               the state behind the kind byte s, before the bytes l
--   LeadsTo W s l x         from there the bytes l lead to state x
--   NodeLine W x d n q      line n, of 9 to 14, fits at state x, where d is due, and place q
--   TermLine W b n q        line n fits the bytes b at the place q
--
use Rattle.std.specs.Prelude.{◌≡◌, Bool, true, false, ℕ, suc, ◌+◌, ◌<◌, ◌≤◌, length}
use mathlib.Core.List.{List, [], ◌∷◌, ◌++◌, Memᴰ}
use Rattle.terms.specs.Term.{Occurrence}
use Rattle.wire.specs.Map.{map_bytes, map_got, map_missing, read_map, flags, within, Slot, slots}
use Rattle.wire.specs.Vocabulary.{Vocabulary, word, map_of}
use Rattle.wire.specs.TermBytes.{name_count, name_byte, whole_byte, least_bytes, most_bytes, most_levels}
use Rattle.wire.specs.Reply.{Outside}

pub record Due : Type 0 where
  pub sort : ℕ
  pub level : ℕ
  pub root : Bool

-- `at` is the offset of the bytes `rest`.
pub record State : Type 0 where
  pub due : List Due
  pub seen : List Occurrence
  pub at : ℕ
  pub rest : List ℕ

abbrev pub due_at : ℕ → List Slot → List Due
due_at level [] = []
due_at level (k ∷ ks) =
    elim k.written [
      | true ↦ record { sort = k.sort; level = level; root = false } ∷ due_at level ks
      | false ↦ due_at level ks
    ]

abbrev pub Word? : Vocabulary → ℕ → Type 0
Word? W b = b < length W.words

abbrev pub Name? : ℕ → ℕ → Type 0
Name? b n = (n < name_count) × (b ≡ name_byte n)

-- "The name stood earlier at a place of another kind."
abbrev pub Clash : List Occurrence → ℕ → ℕ → Type 0
Clash seen n s = (o : Occurrence) × Memᴰ o seen × (o.name ≡ n) × (o.sort ≡ s → ⊥)

-- "for 9 to 14 the earliest byte decides": what is due at a byte is known once all before it is in order.
pub data Step (W : Vocabulary) : State → State → Type 0 where
  on_word : {d : Due} {ds : List Due} {seen : List Occurrence} {at : ℕ} (f m : ℕ) (l r : List ℕ) →
      d.level ≤ most_levels → Word? W f → (word W f).result ≡ d.sort →
      read_map l ≡ map_got m r → within (flags m) (flags (map_of W f)) ≡ true →
      Step W
      (record { due = d ∷ ds; seen = seen; at = at; rest = f ∷ l })
      (record { due = due_at (suc d.level) (slots (flags (map_of W f)) (flags m) (word W f).kinds) ++ ds; seen = seen; at = at + 1 + map_bytes; rest = r })
  on_name : {d : Due} {ds : List Due} {seen : List Occurrence} {at : ℕ} (b n : ℕ) (l : List ℕ) →
      d.level ≤ most_levels → Name? b n → (Clash seen n d.sort → ⊥) →
      Step W
      (record { due = d ∷ ds; seen = seen; at = at; rest = b ∷ l })
      (record { due = ds; seen = seen ++ (record { name = n; sort = d.sort } ∷ []); at = at + 1; rest = l })
  on_whole : {d : Due} {ds : List Due} {seen : List Occurrence} {at : ℕ} (l : List ℕ) →
      d.level ≤ most_levels → d.root ≡ true →
      Step W
      (record { due = d ∷ ds; seen = seen; at = at; rest = whole_byte ∷ l })
      (record { due = ds; seen = seen; at = at + 1; rest = l })

-- "its kind, then one term": behind the kind byte s a term of kind s is due.
abbrev pub start : ℕ → List ℕ → State
start s l = record { due = record { sort = s; level = 1; root = true } ∷ []; seen = []; at = 1; rest = l }

pub data LeadsTo (W : Vocabulary) (s : ℕ) (l : List ℕ) : State → Type 0 where
  here : LeadsTo W s l (start s l)
  next : {x y : State} → LeadsTo W s l x → Step W x y → LeadsTo W s l y

pub data NodeLine (W : Vocabulary) (x : State) (d : Due) : ℕ → ℕ → Type 0 where
  -- 9. "The term ends where a byte is due": a term's first byte, or a word's map.
  ends : x.rest ≡ [] → NodeLine W x d 9 x.at
  ends_in_map : (f : ℕ) (l r : List ℕ) → x.rest ≡ f ∷ l → Word? W f → read_map l ≡ map_missing r →
      NodeLine W x d 9 (x.at + length x.rest)
  -- 10. "A word, name or other byte stands where level 33 begins."
  deep : (b : ℕ) (l : List ℕ) → x.rest ≡ b ∷ l → most_levels < d.level → NodeLine W x d 10 x.at
  -- 11. "That byte is no word, no name, nor 255 at the root."
  unknown : (b : ℕ) (l : List ℕ) → x.rest ≡ b ∷ l → (Word? W b → ⊥) → ((n : ℕ) → Name? b n → ⊥) →
      ((b ≡ whole_byte) × (d.root ≡ true) → ⊥) → NodeLine W x d 11 x.at
  -- 12. "The word's result kind differs from the kind due there."
  differs : (f : ℕ) (l : List ℕ) → x.rest ≡ f ∷ l → Word? W f → ((word W f).result ≡ d.sort → ⊥) →
      NodeLine W x d 12 x.at
  -- 13. "The name stood earlier at a place of another kind."
  clashes : (b n : ℕ) (l : List ℕ) → x.rest ≡ b ∷ l → Name? b n → Clash x.seen n d.sort → NodeLine W x d 13 x.at
  -- 14. "A written map has a bit that the word's place map lacks."
  stray : (f m : ℕ) (l r : List ℕ) → x.rest ≡ f ∷ l → Word? W f → read_map l ≡ map_got m r →
      within (flags m) (flags (map_of W f)) ≡ false → NodeLine W x d 14 (x.at + 1)

pub data TermLine (W : Vocabulary) (b : List ℕ) : ℕ → ℕ → Type 0 where
  -- 7. "The term has fewer than 2 or more than 4,096 bytes (place 0)."
  size : Outside least_bytes most_bytes (length b) → TermLine W b 7 0
  -- 8. "Its first byte is not below the kind count."
  kind : (s : ℕ) (l : List ℕ) → b ≡ s ∷ l → W.kinds ≤ s → TermLine W b 8 0
  -- 9 to 14, at a byte to which the term leads.
  inside : (s : ℕ) (l : List ℕ) (x : State) (d : Due) (ds : List Due) (n q : ℕ) → b ≡ s ∷ l → LeadsTo W s l x →
      x.due ≡ d ∷ ds → NodeLine W x d n q → TermLine W b n q
  -- 15. "Bytes follow the term (the first of them)."
  more : (s : ℕ) (l : List ℕ) (x : State) (c : ℕ) (r : List ℕ) → b ≡ s ∷ l → LeadsTo W s l x →
      x.due ≡ [] → x.rest ≡ c ∷ r → TermLine W b 15 x.at
