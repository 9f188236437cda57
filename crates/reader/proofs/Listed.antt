-- Listed: the names for which a table has a kind, one after the other.
--
--   listed_more, listed_same, listed-rest    a name more, one that is not listed, and those behind a name
--   listed-known, listed-new  of the names below n: one that is listed, and n itself
--   table-names, table_dues   the names of a pattern, and the values that are due for them
--
use mathlib.Core.Path.{◌≡◌, ap, subst, ◌∙◌}
use mathlib.Core.Bool.{true, false, cond}
use mathlib.Core.List.{List, [], ◌∷◌, ◌++◌, map, append-nil}
use Prim.Native.Nat.{ℕ, suc, ◌+◌, ◌-◌, ◌<◌}
use native.Mathlib.Omega.{arith}
use Rattle.terms.specs.Lists.{occurs, range, keep, NoneTwice}
use Rattle.terms.specs.Term.{Term, occurrences}
use Rattle.terms.specs.Term.{names as names_of}
use Rattle.terms.proofs.All.{all_implies, all-range, all_keep, map_agree}
use Rattle.terms.proofs.Bools.{and_both}
use Rattle.terms.proofs.Keep.{keep_append, keep_agree, range-append, occurs-keep, none_twice_keep}
use Rattle.terms.proofs.Occurs.{occurs-range, none_twice_last}
use Rattle.wire.specs.Vocabulary.{Vocabulary, signature}
use Rattle.wire.specs.TermBytes.{name_count}
use Rattle.wire.specs.FillingFile.{ascending}
use Rattle.wire.specs.FillingLines.{values_due}
use Rattle.wire.proofs.Cond.{cond_true, cond_false}
use Rattle.wire.proofs.FillingValues.{due_of}
use Rattle.wire.proofs.NameMaps.{range-once}
use Rattle.reader.specs.Names.{listed, TableOf}
use Rattle.reader.specs.Fillings.{value_due, listed_to, due_for, dues_to}

module _ (names : List ℕ) (n : ℕ) where
  -- The names below n, n and those behind it.
  listed-parts : (m : ℕ) → listed_to names (n + suc m) ≡ listed_to names n ++ cond (listed names n) (n ∷ keep (listed names) (range (suc n) m)) (keep (listed names) (range (suc n) m))
  listed-parts m =
      ap (keep (listed names)) (range-append 0 n (suc m))
      ∙ keep_append (listed names) (range 0 n) (range (0 + n) (suc m))
      ∙ ap (λ k. listed_to names n ++ keep (listed names) (range k (suc m))) (let e : 0 + n ≡ n = omega arith in e)

  pub listed-rest : n < name_count → listed names n ≡ true →
      listed_to names name_count ≡ listed_to names n ++ (n ∷ keep (listed names) (range (suc n) (63 - n)))
  listed-rest below e =
      ap (listed_to names) (let e : name_count ≡ n + suc (63 - n) = omega arith in e)
      ∙ listed-parts (63 - n)
      ∙ ap (λ l. listed_to names n ++ l) (cond_true (listed names n) _ _ e)

  pub listed_more : listed names n ≡ true → listed_to names (n + 1) ≡ listed_to names n ++ (n ∷ [])
  listed_more e = listed-parts 0 ∙ ap (λ l. listed_to names n ++ l) (cond_true (listed names n) (n ∷ []) [] e)

  pub listed_same : listed names n ≡ false → listed_to names (n + 1) ≡ listed_to names n
  listed_same e =
      listed-parts 0 ∙ ap (λ l. listed_to names n ++ l) (cond_false (listed names n) (n ∷ []) [] e) ∙ append-nil (listed_to names n)

  pub listed-known : (m : ℕ) → m < n → listed names m ≡ true → occurs m (listed_to names n) ≡ true
  listed-known m h e = occurs-keep (listed names) m (range 0 n) ∙ and_both (listed names m) (occurs m (range 0 n)) e (occurs-range 0 n m (omega arith) (omega arith))

  pub listed-new : listed names n ≡ true → occurs n (listed_to names n) ≡ false
  listed-new e =
      none_twice_last (listed_to names n) n
      (subst NoneTwice (listed_more e) (none_twice_keep (listed names) (range 0 (n + 1)) (range-once 0 (n + 1))))

-- ---- the table of a pattern's names

module _ {W : Vocabulary} {s : ℕ} {t : Term} {names : List ℕ} (x : TableOf W s t names) where
  pub table-names : listed_to names name_count ≡ ascending t
  table-names =
      keep_agree (listed names) (λ n. occurs n (names_of t)) (range 0 name_count)
      (all_implies (λ n. n < 0 + name_count) (λ n. listed names n ≡ occurs n (names_of t)) (λ n h. x.stands n (omega arith)) (range 0 name_count) (all-range 0 name_count))

  pub table_dues : dues_to names name_count ≡ values_due W s t
  table_dues =
      ap (map (due_for names)) table-names
      ∙ map_agree (due_for names) (due_of (occurrences (signature W) t s)) (ascending t)
      (all_implies (λ n. (n < 0 + name_count) × (occurs n (names_of t) ≡ true)) (λ n. due_for names n ≡ due_of (occurrences (signature W) t s) n)
      (λ n h. let below = h.0 in ap value_due (x.kinds n (omega arith) h.1)) (ascending t)
      (all_keep (λ n. n < 0 + name_count) (λ n. occurs n (names_of t)) (range 0 name_count) (all-range 0 name_count)))
