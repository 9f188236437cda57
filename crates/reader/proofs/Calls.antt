-- Calls: the replies of checking a term and of reading two terms, by what the vocabulary's check answers.
--
--   refused_never                  a refusal is no acceptance
--   term-refused, term-accepted    the reply of checking a term
--   pair-refused, pair-accepted    the reply of reading two terms
--
use mathlib.Core.Path.{◌≡◌, sym, ap, ◌∙◌}
use mathlib.Core.List.{List, []}
use Prim.Native.Nat.{ℕ}
use lib.ListN.{length}
use Rattle.wire.specs.Reply.{Reply, accepted}
use Rattle.wire.specs.Parser.{Reading, accept, refuse, read_vocabulary}
use Rattle.wire.specs.CheckComputed.{reply_of, checked_term, vocabulary_reply, term_values, term_reply_under, term_reply}
use Rattle.wire.specs.Vocabulary.{Vocabulary}
use Rattle.wire.proofs.Matching.{not_accepted}
use Rattle.signature.specs.Answers.{vocabulary_refused}
use Rattle.signature.specs.declared.VocabularyRefusal.{VocabularyRefusal}
use Rattle.signature.specs.declared.VocabularyRefusal.TheVariants.{Head, WordCount, Ends, NoSuchKind, Continues}
use Rattle.reader.specs.Whole.{told}
use Rattle.reader.specs.Pairs.{both_told, pair_under, pair_reply}

pub refused_never : (why : VocabularyRefusal) (l : List ℕ) → vocabulary_refused why ≡ accepted l → ⊥
refused_never Head = not_accepted 1 0 0
refused_never WordCount = not_accepted 2 0 1
refused_never (Ends q) = not_accepted 3 0 q
refused_never (NoSuchKind q) = not_accepted 4 0 q
refused_never (Continues q) = not_accepted 5 0 q

-- ---- a term

refused-under : (b : List ℕ) (why : VocabularyRefusal) (r : Reading Vocabulary) →
    vocabulary_refused why ≡ reply_of 0 (λ W. []) r → vocabulary_refused why ≡ term_reply_under b r
refused-under b why (accept W) e = absurd (refused_never why [] e)
refused-under b why (refuse n q) e = e

pub term-refused : (v b : List ℕ) (why : VocabularyRefusal) → vocabulary_refused why ≡ vocabulary_reply v → vocabulary_refused why ≡ term_reply v b
term-refused v b why e = refused-under b why (read_vocabulary v) e

pub term-accepted : (v b : List ℕ) (W : Vocabulary) {r : Reply} → read_vocabulary v ≡ accept W → r ≡ reply_of 1 (term_values W (length b)) (checked_term W b) → r ≡ term_reply v b
term-accepted v b W e h = h ∙ ap (term_reply_under b) (sym e)

-- ---- two terms

pair_refused_under : (p s : List ℕ) (why : VocabularyRefusal) (r : Reading Vocabulary) →
    vocabulary_refused why ≡ reply_of 0 (λ W. []) r → vocabulary_refused why ≡ pair_under p s r
pair_refused_under p s why (accept W) e = absurd (refused_never why [] e)
pair_refused_under p s why (refuse n q) e = e

pub pair-refused : (v p s : List ℕ) (why : VocabularyRefusal) → vocabulary_refused why ≡ vocabulary_reply v → vocabulary_refused why ≡ pair_reply v p s
pair-refused v p s why e = pair_refused_under p s why (read_vocabulary v) e

pub pair-accepted : (v p s : List ℕ) (W : Vocabulary) {r : Reply} → read_vocabulary v ≡ accept W → r ≡ both_told (told W p) (told W s) → r ≡ pair_reply v p s
pair-accepted v p s W e h = h ∙ ap (pair_under p s) (sym e)
