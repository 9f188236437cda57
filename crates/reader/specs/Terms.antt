-- Terms: what the functions that read a term promise each other; no public contract cites it.
--
--   Passed                  reading on from one cursor is reading on over full words from another, further one, where
--                           nothing is due, or a place at which no full word stands or level 33 would begin
--   node_due b k c           a term of kind k that is due at the cursor's level; b tells whether it is the root
--   node_run W v t frames seen b k c    what reading that term and then what is due behind it gives
--   Leads W v names frames c g     some names seen are those of the table, and reading on from the cursor gives g
--   Refuses t why g         g refuses with the number of why, at its place in t
--   Follows, NodeAnswers    what reading the node that stands at a cursor gives, under a vocabulary
--   Under, NodeRead         the same under every vocabulary whose tables are those
--   Ends, Answers           what reading a whole term gives
--   NodesRead               what reading the node at a cursor and all that is due behind it gives
--   WholeAt                 255 stands at an offset of t
--   TermRead                what reading the term of kind k that stands at an offset of t gives
--   root_run W t             what reading the term behind the kind byte of t gives
--   front_run W t            the same, with lines 7 and 8 for what stands in front of it
--   FrontRead               what reading the kind and the term in front of t gives, from a blank table of names on
--
use Rattle.std.specs.Prelude.{Result, Ok, Err, ◌≡◌, Bool, true, false, cond, List, [], ◌∷◌, ◌⊎◌, ℕ, suc, ◌<◌, ◌≤◌, ltb, length, get_or, drop, replicate}
use Rattle.terms.specs.Term.{Occurrence}
use Rattle.wire.specs.Reply.{outside}
use Rattle.wire.specs.Vocabulary.{Vocabulary}
use Rattle.wire.specs.TermBytes.{whole_byte, least_bytes, most_bytes}
use Rattle.wire.specs.TermLines.{Due}
use Rattle.wire.specs.Parser.{Got, got, stop}
use Rattle.wire.specs.Scan.{Scanned, run, root_due, no_tally}
use Rattle.signature.specs.Tables.{Tables, vocabulary_in}
use Rattle.frames.specs.Frames.{run_in, kinds_in}
use Rattle.reader.specs.Full.{NotFull, Passes}
use Rattle.reader.specs.Names.{Named}
use Rattle.reader.specs.Cursors.{tally_at, open_due, rest_run, Going}
use Rattle.reader.specs.Nodes.{number_of, place_of}
use Rattle.reader.specs.declared.refusal.TermRefusal.{TermRefusal}
use Rattle.cursors.specs.Cursors.{complete_in, gap_in}
use Rattle.cursors.specs.declared.Cursor.{Cursor}

pub record Passed (v t frames : List ℕ) (c : Cursor) (frames' : List ℕ) (c' : Cursor) : Type 0 where
  pub going : Going v t frames' c'
  pub same : (seen : List Occurrence) → rest_run (vocabulary_in v) v t frames' seen c' ≡ rest_run (vocabulary_in v) v t frames seen c
  pub further : c.at ≤ c'.at
  pub due : 0 < c'.depth → 0 < run_in c'.due
  pub path : Passes (vocabulary_in v) (open_due v frames c) (drop c.at t) (open_due v frames' c') (drop c'.at t)
  pub stuck : 0 < c'.depth → (31 < c'.depth) ⊎ NotFull (vocabulary_in v) (get_or v (kinds_in c'.due) 0) (drop c'.at t)

abbrev pub node_due : Bool → ℕ → Cursor → Due
node_due b k c = record { sort = k; level = suc c.depth; root = b }

abbrev pub node_run : Vocabulary → List ℕ → List ℕ → List ℕ → List Occurrence → Bool → ℕ → Cursor → Got Scanned
node_run W v t frames seen b k c = run W (node_due b k c ∷ open_due v frames c) seen (tally_at (length t) c) (drop c.at t)

pub record Leads (v t names frames : List ℕ) (c : Cursor) (g : Got Scanned) : Type 0 where
  pub seen : List Occurrence
  pub named : Named names seen
  pub same : rest_run (vocabulary_in v) v t frames seen c ≡ g

pub record Refuses (t : List ℕ) (why : TermRefusal) (g : Got Scanned) : Type 0 where
  pub inside : place_of why ≤ length t
  pub same : stop (number_of why) (drop (place_of why) t) ≡ g

-- The reading goes on from c', and whatever names were seen, to the same end.
pub record Follows (v t : List ℕ) (k : ℕ) (c : Cursor) (names frames names' frames' : List ℕ) (c' : Cursor) : Type 0 where
  pub going : Going v t frames' c'
  pub further : c.at < c'.at
  pub entries : length names' ≡ length names
  pub leads : (seen : List Occurrence) → Named names seen → Leads v t names' frames' c' (node_run (vocabulary_in v) v t frames seen false k c)

pub record NodeAnswers (v t : List ℕ) (k : ℕ) (c : Cursor) (names frames names' frames' : List ℕ) (x : Result Cursor TermRefusal) : Type 0 where
  pub went : (c' : Cursor) → x ≡ Ok c' → Follows v t k c names frames names' frames' c'
  pub fault : (why : TermRefusal) → x ≡ Err why → (seen : List Occurrence) → Named names seen →
      Refuses t why (node_run (vocabulary_in v) v t frames seen false k c)

-- A vocabulary whose tables these are, and under which the cursor is one that a reading comes to.
pub record Under (v t : List ℕ) (n : ℕ) (offsets results maps frames : List ℕ) (c : Cursor) : Type 0 where
  pub most : length t ≤ most_bytes
  pub tables : Tables v n offsets results maps
  pub bytes : (i : ℕ) → get_or v i 0 < 256
  pub going : Going v t frames c

abbrev pub NodeRead : List ℕ → ℕ → List ℕ → List ℕ → List ℕ → ℕ → Cursor → List ℕ → List ℕ → List ℕ → List ℕ → Result Cursor TermRefusal → Type 0
NodeRead t n offsets results maps k c names frames names' frames' x =
    (v : List ℕ) → Under v t n offsets results maps frames c → k < 256 → NodeAnswers v t k c names frames names' frames' x

-- Behind the last byte of a term: what is told of it, and the names seen.
pub record Ends (t names : List ℕ) (c : Cursor) (g : Got Scanned) : Type 0 where
  pub seen : List Occurrence
  pub named : Named names seen
  pub same : got (record { tally = tally_at (length t) c; seen = seen }) (drop c.at t) ≡ g
  pub inside : c.at ≤ length t
  pub near : complete_in c ≡ false → gap_in c ≤ length t

abbrev pub Answers : List ℕ → List ℕ → Got Scanned → Result Cursor TermRefusal → Type 0
Answers t names g (Ok c) = Ends t names c g
Answers t names g (Err why) = Refuses t why g

abbrev pub NodesRead : List ℕ → List ℕ → List ℕ → Cursor → ℕ → List ℕ → Result Cursor TermRefusal → Type 0
NodesRead v t names c k names' r =
    (seen : List Occurrence) → Named names seen → Answers t names' (node_run (vocabulary_in v) v t (replicate 32 0) seen false k c) r

pub record WholeAt (t : List ℕ) (at : ℕ) (r : Bool) : Type 0 where
  pub there : r ≡ true → (at < length t) × (get_or t at 0 ≡ whole_byte)
  pub other : r ≡ false → get_or (drop at t) 0 0 ≡ whole_byte → ⊥

abbrev pub TermRead : List ℕ → List ℕ → ℕ → ℕ → List ℕ → List ℕ → Result Cursor TermRefusal → Type 0
TermRead v t from k names names' r =
    (seen : List Occurrence) → Named names seen → Answers t names' (run (vocabulary_in v) (root_due k ∷ []) seen no_tally (drop from t)) r

abbrev pub root_run : Vocabulary → List ℕ → Got Scanned
root_run W t = run W (root_due (get_or t 0 0) ∷ []) [] no_tally (drop 1 t)

abbrev pub front_run : Vocabulary → List ℕ → Got Scanned
front_run W t = cond (outside least_bytes most_bytes (length t)) (stop 7 t) (cond (ltb (get_or t 0 0) W.kinds) (root_run W t) (stop 8 t))

abbrev pub FrontRead : List ℕ → List ℕ → List ℕ → Result Cursor TermRefusal → Type 0
FrontRead v t names r = Answers t names (front_run (vocabulary_in v) t) r
