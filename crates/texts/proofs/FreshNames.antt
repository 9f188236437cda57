-- FreshNames: there is always another name for a word.
--
--   small k               a name of one byte
--   others u N            the names of N that are not u
--   free                  of n + 1 such names one is not among n names
--   fresh                 a name that is not among those of a vocabulary
--
use mathlib.Core.Path.{◌≡◌, refl, sym, ◌∙◌, ap}
use mathlib.Core.Bool.{Bool, true, false, not, ◌&&◌, cond, and-false, or-true}
use mathlib.Core.List.{List, [], ◌∷◌}
use Prim.Native.Nat.{ℕ, zero, suc, ◌+◌, ◌<◌, ◌≤◌}
use native.Mathlib.Omega.{arith}
use lib.Dec.{eqb, ltb}
use lib.ListN.{length}
use borrow.Author.Tests.{lt-ltb, ltb-true, ltb-false, ne_eqb}
use Rattle.terms.specs.Lists.{All, keep}
use Rattle.terms.proofs.Bools.{and_both}
use Rattle.wire.specs.Vocabulary.{most_words}
use Rattle.texts.specs.Lexemes.{Token, is_name_byte}
use Rattle.texts.specs.Names.{same, opened, IsIdentifier, index_in}
use Rattle.texts.proofs.Lookups.{same-eq, same-other, absent-cons, absent-first, index-le}

-- A byte beyond ASCII.
abbrev small : ℕ → Token
small k = (128 + k) ∷ []

beyond : (b : ℕ) → ltb 127 b ≡ true → is_name_byte b ≡ true
beyond b e = simp (e, or-true)

small-name : (k : ℕ) → IsIdentifier (small k)
small-name k = record {
  characters = (begins, tt);
  identifier =
      and_both (is_name_byte (128 + k)) _ begins
      (and_both (not (same (small k) opened)) _ (ap not (ap (λ (b : Bool). b && true) (ne_eqb (128 + k) 95 (λ e. omega arith))))
      (ap not (and-false (eqb (128 + k) 107))));
  short = omega arith;
}
  where
    begins : is_name_byte (128 + k) ≡ true
    begins = beyond (128 + k) (lt-ltb 127 (128 + k) (omega arith))

small-other : (k m : ℕ) → k < m → same (small k) (small m) ≡ false
small-other k m h = ap (λ (b : Bool). b && true) (ne_eqb (128 + k) (128 + m) (λ e. omega arith))

abbrev others : Token → List Token → List Token
others u N = keep (λ v. not (same u v)) N

others_le : (u : Token) (N : List Token) → length (others u N) ≤ length N
others_le u [] = omega arith
others_le u (v ∷ N) = go (same u v) (others_le u N)
  where
    go : (b : Bool) → length (others u N) ≤ length N → length (cond (not b) (v ∷ others u N) (others u N)) ≤ suc (length N)
    go true h = omega arith
    go false h = omega arith

others_less : (u : Token) (N : List Token) → index_in u N < length N → length (others u N) < length N
others_less u [] h = h
others_less u (v ∷ N) h = go (same u v) (others_less u N) h
  where
    go : (b : Bool) → (index_in u N < length N → length (others u N) < length N) → cond b zero (suc (index_in u N)) < suc (length N) →
        length (cond (not b) (v ∷ others u N) (others u N)) < suc (length N)
    go true more h = omega (arith, others_le u N)
    go false more h = let m = more (omega arith) in omega arith

absent-others : (u t : Token) (N : List Token) → same u t ≡ false → index_in t (others u N) ≡ length (others u N) → index_in t N ≡ length N
absent-others u t [] h e = refl
absent-others u t (v ∷ N) h e = go (same u v) refl (absent-others u t N h) e
  where
    go : (b : Bool) → same u v ≡ b → (index_in t (others u N) ≡ length (others u N) → index_in t N ≡ length N) →
        index_in t (cond (not b) (v ∷ others u N) (others u N)) ≡ length (cond (not b) (v ∷ others u N) (others u N)) →
        index_in t (v ∷ N) ≡ length (v ∷ N)
    go true p more e = absent-first t v N (ap (same t) (sym (same-eq u v p)) ∙ same-other u t h) (more e)
    go false p more e =
        let q = absent-cons t v (others u N) e in
        absent-first t v N q.0 (more q.1)

record Free (from n : ℕ) (N : List Token) : Type 0 where
  number : ℕ
  least : from ≤ number
  most : number ≤ from + n
  new : index_in (small number) N ≡ length N

free : (n from : ℕ) (N : List Token) → length N ≤ n → Free from n N
free zero from [] h = record { number = from; least = omega arith; most = omega arith; new = refl }
free zero from (v ∷ N) h = absurd (omega arith)
free (suc n) from N h = go (ltb (index_in (small from) N) (length N)) refl (free n (suc from))
  where
    go : (b : Bool) → ltb (index_in (small from) N) (length N) ≡ b → ((M : List Token) → length M ≤ n → Free (suc from) n M) → Free from (suc n) N
    go false e more = record {
      number = from;
      least = omega arith;
      most = omega arith;
      new = omega (arith, ltb-false (index_in (small from) N) (length N) e, index-le (small from) N);
    }
    go true e more =
        let f = more (others (small from) N) (omega (arith, others_less (small from) N (ltb-true (index_in (small from) N) (length N) e))) in
        record {
          number = f.number;
          least = omega (arith, f.least);
          most = omega (arith, f.most);
          new = absent-others (small from) (small f.number) N (small-other from f.number (omega (arith, f.least))) f.new;
        }

pub record Fresh (N : List Token) : Type 0 where
  pub name : Token
  pub identifier : IsIdentifier name
  pub bytes : All (λ b. b < 256) name
  pub new : index_in name N ≡ length N

pub fresh : (N : List Token) → length N ≤ most_words → Fresh N
fresh N h =
    let f = free most_words 0 N h in
    record { name = small f.number; identifier = small-name f.number; bytes = (omega (arith, f.most), tt); new = f.new }
