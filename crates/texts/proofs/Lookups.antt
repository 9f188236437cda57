-- Lookups: laws of the same token, of a token's number in a list, and of lists in which none stands twice.
--
--   same_refl, same-eq, same-other      same tests whether two tokens are equal
--   identifier-no_kind, identifier_some an identifier is not the word kind, and is not empty
--   absent-cons, absent-first           a token that is not in a list is neither its first nor behind it, and the other way
--   index-le, at-index, index_at        the number of a token, and the token of a number
--   absent_more, distinct_more          a list with one token more, which it had not
--   distinct-front                      in a list in which none stands twice, a token is not among those before it
--
use mathlib.Core.Path.{◌≡◌, refl, sym, ◌∙◌, ap}
use mathlib.Core.Bool.{Bool, true, false, not, ◌&&◌, cond, true≢false, false≢true}
use mathlib.Core.List.{List, [], ◌∷◌, ◌++◌}
use Prim.Native.Nat.{ℕ, zero, suc, ◌<◌}
use native.Mathlib.Omega.{arith}
use lib.ListN.{length}
use borrow.Author.Tests.{not-true}
use Rattle.terms.proofs.Bools.{and_parts}
use Rattle.wire.proofs.Cond.{cond_false}
use Rattle.texts.specs.Lexemes.{Token}
use Rattle.texts.specs.Names.{same, opened, kind_word, begins_name, is_identifier, index_in, name_at, Distinct}
pub use Rattle.texts.proofs.Finding.{same_refl, same-exact as same-eq, index-most as index-le, at-index, index_at}

pub same-other : (t u : Token) → same t u ≡ false → same u t ≡ false
same-other t u e = go (same u t) refl
  where
    go : (b : Bool) → same u t ≡ b → b ≡ false
    go true h = absurd (true≢false (sym (same_refl t) ∙ ap (same t) (sym (same-eq u t h)) ∙ e))
    go false h = refl

pub identifier-no_kind : (u : Token) → is_identifier u ≡ true → same u kind_word ≡ false
identifier-no_kind u e =
    not-true (same u kind_word)
    (and_parts (not (same u opened)) (not (same u kind_word))
    (and_parts (begins_name u) (not (same u opened) && not (same u kind_word)) e).1).1

pub identifier_some : (u : Token) → is_identifier u ≡ true → u ≡ [] → ⊥
identifier_some u e h = false≢true (sym (ap is_identifier h) ∙ e)

pub absent-cons : (t u : Token) (l : List Token) → index_in t (u ∷ l) ≡ length (u ∷ l) → (same t u ≡ false) × (index_in t l ≡ length l)
absent-cons t u l e = go (same t u) refl e
  where
    go : (b : Bool) → same t u ≡ b → cond b zero (suc (index_in t l)) ≡ suc (length l) → (same t u ≡ false) × (index_in t l ≡ length l)
    go true h e = absurd (omega arith)
    go false h e = (h, omega arith)

pub absent-first : (t u : Token) (l : List Token) → same t u ≡ false → index_in t l ≡ length l → index_in t (u ∷ l) ≡ length (u ∷ l)
absent-first t u l h e = cond_false (same t u) zero (suc (index_in t l)) h ∙ ap suc e

-- A token of a list is not one that the list has not.
absent-at : (t : Token) (l : List Token) (i : ℕ) → index_in t l ≡ length l → i < length l → same (name_at l i) t ≡ false
absent-at t [] i e h = absurd (omega arith)
absent-at t (u ∷ l) zero e h = same-other t u (absent-cons t u l e).0
absent-at t (u ∷ l) (suc i) e h = absent-at t l i (absent-cons t u l e).1 (omega arith)

pub absent_more : (t u : Token) (l : List Token) → index_in t l ≡ length l → same t u ≡ false →
    index_in t (l ++ (u ∷ [])) ≡ length (l ++ (u ∷ []))
absent_more t u [] e h = absent-first t u [] h refl
absent_more t u (v ∷ l) e h =
    let p = absent-cons t v l e in
    absent-first t v (l ++ (u ∷ [])) p.0 (absent_more t u l p.1 h)

pub distinct_more : (u : Token) (l : List Token) → Distinct l → index_in u l ≡ length l → Distinct (l ++ (u ∷ []))
distinct_more u [] d e = (refl, tt)
distinct_more u (v ∷ l) d e =
    let p = absent-cons u v l e in
    (absent_more v u l d.0 (same-other u v p.0), distinct_more u l d.1 p.1)

absent_in : (t u : Token) (l r : List Token) → index_in t (l ++ (u ∷ r)) ≡ length (l ++ (u ∷ r)) → same t u ≡ false
absent_in t u [] r e = (absent-cons t u r e).0
absent_in t u (v ∷ l) r e = absent_in t u l r (absent-cons t v (l ++ (u ∷ r)) e).1

pub distinct-front : (u : Token) (l r : List Token) → Distinct (l ++ (u ∷ r)) → index_in u l ≡ length l
distinct-front u [] r d = refl
distinct-front u (v ∷ l) r d =
    absent-first u v l (same-other v u (absent_in v u l r d.0)) (distinct-front u l r d.1)
