-- Parts: the parts of what is due that functions of their own put.
--
--   fault why at of        a fault, by its three numbers
--   known_of t             what is known of a vocabulary that is lent
--   due_words T s           the words of kind s, listed
--   deeper_at d u           in how many parentheses what stands behind the token u is, 0 behind a :; u itself is in d
--   comma_at d u v          1 where the token u is a , in one pair of parentheses and v, behind it, begins a term, and else 0
--
use Rattle.std.specs.Prelude.{false, ◌&&◌, cond, List, ℕ, ◌+◌, ◌-◌, eqb, length}
use Rattle.texts.specs.Lexemes.{Token}
use Rattle.texts.specs.Names.{same, mark, opening, comma, closing, colon}
use Rattle.texts.specs.Faults.{Fault}
use Rattle.texts.specs.Complaints.{Known, alternatives, begins_term}
use Rattle.texts.specs.Tabled.{known_in}
use Rattle.dues.specs.declared.Known as lent

abbrev pub fault : ℕ → ℕ → ℕ → Fault
fault why at of = record { why = why; at = at; of = of }

abbrev pub known_of : lent.Known → Known
known_of t = known_in t.text.now t.kinds.now t.kind_count t.words.now t.word_count t.records.now

abbrev pub due_words : Known → ℕ → List ℕ
due_words T s = alternatives T s (length T.words) 0 false

abbrev pub deeper_at : ℕ → Token → ℕ
deeper_at d u = cond (same u (mark colon)) 0 (cond (same u (mark closing)) (d - 1) (cond (same u (mark opening)) (d + 1) d))

abbrev pub comma_at : ℕ → Token → Token → ℕ
comma_at d u v = cond (eqb d 1 && (same u (mark comma) && begins_term v)) 1 0
