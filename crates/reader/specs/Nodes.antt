-- Nodes: what the functions that read a term promise each other; no public contract cites it.
--
--   number_in r, place_in r        a reply's number and place; 0 where it is accepted
--   number_of why, place_of why    a refusal's number and place
--   TablesOf W n results maps    the first n entries of the tables are W's result kinds and place maps
--   node_of W at rest x           what x says that stands at the front of the bytes rest, which begin at an offset
--   WordInside, NameInside, PlaceInside    a word, a name or a place that x names is there
--   Inside n maps at rest x      what x names is there
--   Limited at rest x            x is the fault where level 33 begins
--   NodeAt                       x is what stands where a term of kind s is due below so many words, no names seen
--   WordAt                       the same, of a word
--
use Rattle.std.specs.Prelude.{Result, Ok, Err, ◌≡◌, false, List, [], ℕ, ◌+◌, ◌-◌, ◌<◌, ◌≤◌, length, get_or, drop}
use Rattle.std.specs.Int.Bits.{bit_and}
use Rattle.wire.specs.Reply.{Reply, accepted, refused}
use Rattle.wire.specs.Map.{map_bytes, flags, slots}
use Rattle.wire.specs.Vocabulary.{Vocabulary, word, map_of}
use Rattle.wire.specs.Parser.{stop, Node, word_here, name_here, fault, node, at_limit}
use Rattle.wire.specs.Scan.{Scanned}
use Rattle.signature.specs.Tables.{Tabled}
use Rattle.reader.specs.Answers.{term_refused}
use Rattle.reader.specs.declared.refusal.TermRefusal.{TermRefusal}
use Rattle.reader.specs.declared.node.Node.{Node as Standing}
use Rattle.reader.specs.declared.node.Node.TheVariants.{Word, Name}

abbrev number_in : Reply → ℕ
number_in (accepted values) = 0
number_in (refused n i q) = n

abbrev place_in : Reply → ℕ
place_in (accepted values) = 0
place_in (refused n i q) = q

abbrev pub number_of : TermRefusal → ℕ
number_of why = number_in (term_refused 1 why)

abbrev pub place_of : TermRefusal → ℕ
place_of why = place_in (term_refused 1 why)

pub record TablesOf (W : Vocabulary) (n : ℕ) (results maps : List ℕ) : Type 0 where
  pub tabled : Tabled W n results
  pub place_map : (f : ℕ) → f < n → get_or maps f 0 ≡ map_of W f

abbrev pub node_of : Vocabulary → ℕ → List ℕ → Result Standing TermRefusal → Node
node_of W at rest (Ok (Word f m)) = word_here f (slots (flags (map_of W f)) (flags m) (word W f).kinds) (drop (1 + map_bytes) rest)
node_of W at rest (Ok (Name n)) = name_here n (drop 1 rest)
node_of W at rest (Err why) = fault (number_of why) (drop (place_of why - at) rest)

pub record WordInside (n : ℕ) (maps rest : List ℕ) (f m : ℕ) : Type 0 where
  pub known : f < n
  pub long : 1 + map_bytes ≤ length rest
  pub within : bit_and m (get_or maps f 0) ≡ m

pub record NameInside (rest : List ℕ) (n : ℕ) : Type 0 where
  pub known : n < 64
  pub long : 1 ≤ length rest

pub record PlaceInside (at : ℕ) (rest : List ℕ) (q : ℕ) : Type 0 where
  pub from : at ≤ q
  pub up_to : q ≤ at + length rest

abbrev pub Inside : ℕ → List ℕ → ℕ → List ℕ → Result Standing TermRefusal → Type 0
Inside n maps at rest (Ok (Word f m)) = WordInside n maps rest f m
Inside n maps at rest (Ok (Name k)) = NameInside rest k
Inside n maps at rest (Err why) = PlaceInside at rest (place_of why)

abbrev pub Limited : ℕ → List ℕ → Result Standing TermRefusal → Type 0
Limited at rest (Ok (Word f m)) = ⊥
Limited at rest (Ok (Name k)) = ⊥
Limited at rest (Err why) = at_limit {A = Scanned} rest ≡ stop (number_of why) (drop (place_of why - at) rest)

pub record NodeAt (depth n : ℕ) (results maps : List ℕ) (s at : ℕ) (rest : List ℕ) (x : Result Standing TermRefusal) : Type 0 where
  pub inside : Inside n maps at rest x
  pub limit : 31 < depth → Limited at rest x
  pub same : depth ≤ 31 → (W : Vocabulary) → TablesOf W n results maps → node W false s [] rest ≡ node_of W at rest x

-- The same of a word of number f, with its result kind and place map at hand.
pub record WordAt (f result map s at : ℕ) (rest : List ℕ) (x : Result Standing TermRefusal) : Type 0 where
  pub inside : (n : ℕ) (maps : List ℕ) → f < n → get_or maps f 0 ≡ map → Inside n maps at rest x
  pub same : (W : Vocabulary) → f < length W.words → result ≡ (word W f).result → map ≡ map_of W f →
      node W false s [] rest ≡ node_of W at rest x
