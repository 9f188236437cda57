-- Parser: vocabularies and terms read off their bytes.
--
-- This file is an algorithm, and nothing in it has to be believed. VocabulariesInverse and TermsInverse (Laws) fix what it
-- accepts, VocabularyRefusals and TermRefusals what it refuses and with which number and place.
--
--   Reading A                 what reading one input gives: a thing that is accepted, or a number and a place
--   Got A                     what is read off the front of some bytes: a thing and the bytes behind it,
--                             or a refusal's number and the bytes from the offending one on
--   and_then r k               k goes on behind r
--   offset whole rest         where the bytes rest begin in the bytes whole
--   read_row reader next s n l  n things, one behind the other, where what is read may depend on what was read before it
--   read_alike reader n l      n things, one behind the other, each read alike
--   read_kind k l              a kind byte, below the kind count k
--   read_kinds k n l           n kind bytes
--   read_places k r m          what follows a record's result kind r: its map, which was read as m, and its kinds
--   read_word k l              a record
--   read_words k n l           n records
--   line5 b k g               line 5, once the records of the bytes b are read as g
--   read_vocabulary b          a vocabulary
--   Node                      what stands where a term is due
--   clash seen n s            the name n stood earlier at a place of another kind than s
--   is_word W b, is_name b      the byte b is a word's number, a name's byte
--   map_node W f l m           behind the word f, whose map was read off l as m
--   word_node W s f l          the word f, where kind s is due
--   name_node s seen b l       the name of byte b, where kind s is due
--   node W root s seen l      what stands where a term of kind s is due: it decides lines 9 and 11 to 14
--   at_limit l                 where no level is left: line 10, and line 9 too where the bytes end there
--   Read, ReadAll             a term, or the terms of a word's places, with the names seen up to its end
--   with_first t a             the term t before the terms of a
--   read_slots reader ks seen l     the terms of the places ks, each read by reader
--   from_node reader s seen x       the term that begins with the node x
--   read_term W left root s seen l  a term of kind s, at most `left` levels deep
--   line15 b s g              line 15, once the term of the bytes b is read as g
--   read_whole W left b        kind byte and term, at most `left` levels deep
--   read_any W b               the same with no limit on levels
--
use Rattle.std.specs.Prelude.{Bool, true, false, not, ◌&&◌, ◌||◌, cond, List, [], ◌∷◌, ◌++◌, ℕ, zero, suc, ◌+◌, ◌-◌, eqb, ltb, length}
use Rattle.terms.specs.Term.{Term, any, var, app, Terms, nil, cons, Occurrence}
use Rattle.wire.specs.Reply.{Kinded, kinded, outside}
use Rattle.wire.specs.Map.{MapRead, map_got, map_missing, read_map, flags, ones, within, Slot, slots}
use Rattle.wire.specs.Vocabulary.{Word, Vocabulary, word, map_of, most_kinds, most_words}
use Rattle.wire.specs.TermBytes.{name_count, first_name_byte, whole_byte}

pub data Reading (A : Type 0) : Type 0 where
  accept : A → Reading A
  refuse : ℕ → ℕ → Reading A

pub data Got (A : Type 0) : Type 0 where
  got : A → List ℕ → Got A
  stop : ℕ → List ℕ → Got A

abbrev pub and_then : {A B : Type 0} → Got A → (A → List ℕ → Got B) → Got B
and_then (got a r) k = k a r
and_then (stop n r) k = stop n r

abbrev pub offset : List ℕ → List ℕ → ℕ
offset whole rest = length whole - length rest

-- Each thing is read under a state: s for the first, and behind a thing the one that `next` gives.
abbrev pub read_row : {S A : Type 0} → (S → List ℕ → Got A) → (S → A → S) → S → ℕ → List ℕ → Got (List A)
read_row reader next s zero l = got [] l
read_row reader next s (suc n) l =
    and_then (reader s l) (λ a r. and_then (read_row reader next (next s a) n r) (λ rest r'. got (a ∷ rest) r'))

abbrev pub read_alike : {A : Type 0} → (List ℕ → Got A) → ℕ → List ℕ → Got (List A)
read_alike reader n l = read_row (λ (s : Unit {0}). reader) (λ s a. s) tt n l

abbrev pub read_kind : ℕ → List ℕ → Got ℕ
read_kind k [] = stop 3 []
read_kind k (b ∷ l) = cond (ltb b k) (got b l) (stop 4 (b ∷ l))

abbrev pub read_kinds : ℕ → ℕ → List ℕ → Got (List ℕ)
read_kinds k n l = read_alike (read_kind k) n l

abbrev pub read_places : ℕ → ℕ → MapRead → Got Word
read_places k r (map_missing l) = stop 3 l
read_places k r (map_got m l) =
    and_then (read_kinds k (ones (flags m)) l) (λ ks l'. got (record { result = r; place_map = m; kinds = ks }) l')

abbrev pub read_word : ℕ → List ℕ → Got Word
read_word k [] = stop 3 []
read_word k (r ∷ l) = cond (ltb r k) (read_places k r (read_map l)) (stop 4 (r ∷ l))

abbrev pub read_words : ℕ → ℕ → List ℕ → Got (List Word)
read_words k n l = read_alike (read_word k) n l

-- Line 5, once the records are read: bytes that follow.
abbrev pub line5 : List ℕ → ℕ → Got (List Word) → Reading Vocabulary
line5 b k (stop n r) = refuse n (offset b r)
line5 b k (got ws (x ∷ r)) = refuse 5 (offset b (x ∷ r))
line5 b k (got ws []) = accept (record { kinds = k; words = ws })

abbrev pub read_vocabulary : List ℕ → Reading Vocabulary
read_vocabulary [] = refuse 1 0
read_vocabulary (k ∷ []) = refuse 1 0
read_vocabulary (k ∷ n ∷ l) =
    cond (outside 1 most_kinds k) (refuse 1 0)
    (cond (outside 1 most_words n) (refuse 2 1) (line5 (k ∷ n ∷ l) k (read_words k n l)))

pub data Node : Type 0 where
  -- A word, its slots, and the bytes behind its map.
  word_here : ℕ → List Slot → List ℕ → Node
  name_here : ℕ → List ℕ → Node
  -- 255 at the root.
  whole_here : List ℕ → Node
  fault : ℕ → List ℕ → Node

abbrev pub clash : List Occurrence → ℕ → ℕ → Bool
clash [] n s = false
clash (o ∷ seen) n s = (eqb o.name n && not (eqb o.sort s)) || clash seen n s

abbrev pub is_word : Vocabulary → ℕ → Bool
is_word W b = ltb b (length W.words)

abbrev pub is_name : ℕ → Bool
is_name b = not (outside first_name_byte (first_name_byte + name_count - 1) b)

abbrev pub map_node : Vocabulary → ℕ → List ℕ → MapRead → Node
map_node W f l (map_missing r) = fault 9 r
map_node W f l (map_got m r) =
    cond (within (flags m) (flags (map_of W f))) (word_here f (slots (flags (map_of W f)) (flags m) (word W f).kinds) r) (fault 14 l)

abbrev pub word_node : Vocabulary → ℕ → ℕ → List ℕ → Node
word_node W s f l = cond (eqb (word W f).result s) (map_node W f l (read_map l)) (fault 12 (f ∷ l))

abbrev pub name_node : ℕ → List Occurrence → ℕ → List ℕ → Node
name_node s seen b l = cond (clash seen (b - first_name_byte) s) (fault 13 (b ∷ l)) (name_here (b - first_name_byte) l)

-- `root` tells whether it is the root, `seen` which names stood earlier, and at which kinds.
abbrev pub node : Vocabulary → Bool → ℕ → List Occurrence → List ℕ → Node
node W root s seen [] = fault 9 []
node W root s seen (b ∷ l) =
    cond (is_word W b) (word_node W s b l)
    (cond (is_name b) (name_node s seen b l) (cond (root && eqb b whole_byte) (whole_here l) (fault 11 (b ∷ l))))

-- A byte that is due is missing, or any byte is one too many.
abbrev pub at_limit : {A : Type 0} → List ℕ → Got A
at_limit [] = stop 9 []
at_limit (b ∷ l) = stop 10 (b ∷ l)

pub record Read : Type 0 where
  pub term : Term
  pub seen : List Occurrence

pub record ReadAll : Type 0 where
  pub terms : Terms
  pub seen : List Occurrence

abbrev pub with_first : Term → ReadAll → ReadAll
with_first t a = record { terms = cons t a.terms; seen = a.seen }

-- "then the terms of the written places, lowest bit first"; `reader` reads one term of a kind.
abbrev pub read_slots : (ℕ → List Occurrence → List ℕ → Got Read) → List Slot → List Occurrence → List ℕ → Got ReadAll
read_slots reader [] seen l = got (record { terms = nil; seen = seen }) l
read_slots reader (k ∷ ks) seen l =
    elim k.written [
      | true ↦
          and_then (reader k.sort seen l)
          (λ a r. and_then (read_slots reader ks a.seen r) (λ ts r'. got (with_first a.term ts) r'))
      | false ↦ and_then (read_slots reader ks seen l) (λ ts r. got (with_first any ts) r)
    ]

abbrev pub from_node : (ℕ → List Occurrence → List ℕ → Got Read) → ℕ → List Occurrence → Node → Got Read
from_node reader s seen (word_here f ks r) =
    and_then (read_slots reader ks seen r) (λ ts r'. got (record { term = app f ts.terms; seen = ts.seen }) r')
from_node reader s seen (name_here n r) =
    got (record { term = var n; seen = seen ++ (record { name = n; sort = s } ∷ []) }) r
from_node reader s seen (whole_here r) = got (record { term = any; seen = seen }) r
from_node reader s seen (fault n r) = stop n r

abbrev pub read_term : Vocabulary → ℕ → Bool → ℕ → List Occurrence → List ℕ → Got Read
read_term W zero root s seen l = at_limit l
read_term W (suc left) root s seen l = from_node (read_term W left false) s seen (node W root s seen l)

-- Line 15: bytes that follow.
abbrev pub line15 : List ℕ → ℕ → Got Read → Reading Kinded
line15 b s (stop n r) = refuse n (offset b r)
line15 b s (got a []) = accept (kinded s a.term)
line15 b s (got a (x ∷ r)) = refuse 15 (offset b (x ∷ r))

abbrev pub read_whole : Vocabulary → ℕ → List ℕ → Reading Kinded
read_whole W left [] = refuse 7 0
read_whole W left (s ∷ l) =
    cond (ltb s W.kinds) (line15 (s ∷ l) s (read_term W left true s [] l)) (refuse 8 0)

-- A level takes a byte at least, so a term has no more levels than bytes.
abbrev pub read_any : Vocabulary → List ℕ → Reading Kinded
read_any W b = read_whole W (length b) b
