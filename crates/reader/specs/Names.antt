-- Names: the table of names, which tells at which kind each of them stood; no public contract cites it.
--
--   clashing k s         the entry k of the table is another kind than s
--   Named names seen     the table answers as the list of the names seen does
--   listed names n       the table has a kind for the name n
--   TableOf W s t names  it has one for each name of the term t of kind s, and for no other: the kind at which the name stands
--
use Rattle.std.specs.Prelude.{◌≡◌, Bool, true, not, ◌&&◌, List, ℕ, ◌<◌, eqb, ltb, get_or}
use Rattle.terms.specs.Lists.{occurs}
use Rattle.terms.specs.Term.{Term, Occurrence, occurrences, sort_in}
use Rattle.terms.specs.Term.{names as names_of}
use Rattle.wire.specs.Vocabulary.{Vocabulary, signature}
use Rattle.wire.specs.TermBytes.{name_count}
use Rattle.wire.specs.Parser.{clash}

-- A name that has not stood yet has the entry 65535.
abbrev pub clashing : ℕ → ℕ → Bool
clashing k s = not (eqb k 65535) && not (eqb k s)

unfoldable pub Named : List ℕ → List Occurrence → Type 0
Named names seen = (n s : ℕ) → n < 64 → clash seen n s ≡ clashing (get_or names n 0) s

-- Kinds are bytes.
abbrev pub listed : List ℕ → ℕ → Bool
listed names n = ltb (get_or names n 0) 256

pub record TableOf (W : Vocabulary) (s : ℕ) (t : Term) (names : List ℕ) : Type 0 where
  pub stands : (n : ℕ) → n < name_count → listed names n ≡ occurs n (names_of t)
  pub kinds : (n : ℕ) → n < name_count → occurs n (names_of t) ≡ true → get_or names n 0 ≡ sort_in (occurrences (signature W) t s) n
