-- Standing: which tokens stand at the front of some lexemes, and which numbers are counted.
--
--   Stands us l r                  the tokens us stand at the front of l, and r is what stands behind them
--   stands-append, stands_split    tokens behind one another
--   stands-tokens, tokens_stand    the same said by the tokens of l
--   stands-all                     what holds of each lexeme of l holds of those behind
--   Counts m l                     l is m, m + 1, ..
--   counts-append, counts_split    counted lists behind one another
--   counts-range, range-counts     the same said by range
--
use mathlib.Core.Path.{◌≡◌, refl, sym, ap, ap₂, subst}
use mathlib.Core.List.{List, [], ◌∷◌, ◌++◌}
use Prim.Native.Nat.{ℕ, zero, suc, ◌+◌}
use native.Mathlib.Omega.{arith}
use lib.ListN.{length, drop}
use Rattle.terms.specs.Lists.{All, range}
use Rattle.texts.specs.Lexemes.{Token, Lexeme}
use Rattle.texts.specs.Laws.{tokens_of}

abbrev pub Stands : List Token → List Lexeme → List Lexeme → Type 0
Stands [] l r = l ≡ r
Stands (u ∷ us) [] r = ⊥
Stands (u ∷ us) (x ∷ l) r = (x.token ≡ u) × Stands us l r

pub stands-append : (us ws : List Token) (l m r : List Lexeme) → Stands us l m → Stands ws m r → Stands (us ++ ws) l r
stands-append [] ws l m r h k = subst (λ (z : List Lexeme). Stands ws z r) (sym h) k
stands-append (u ∷ us) ws [] m r h k = absurd h
stands-append (u ∷ us) ws (x ∷ l) m r h k = (h.0, stands-append us ws l m r h.1 k)

pub stands_split : (us ws : List Token) (l r : List Lexeme) → Stands (us ++ ws) l r → (m : List Lexeme) × Stands us l m × Stands ws m r
stands_split [] ws l r h = (l, refl, h)
stands_split (u ∷ us) ws [] r h = absurd h
stands_split (u ∷ us) ws (x ∷ l) r h = let k = stands_split us ws l r h.1 in (k.0, (h.0, k.1), k.2)

pub stands-tokens : (us : List Token) (l r : List Lexeme) → Stands us l r → tokens_of l ≡ us ++ tokens_of r
stands-tokens [] l r h = ap tokens_of h
stands-tokens (u ∷ us) [] r h = absurd h
stands-tokens (u ∷ us) (x ∷ l) r h = ap₂ {C = List Token} ◌∷◌ h.0 (stands-tokens us l r h.1)

pub tokens_stand : (us : List Token) (l : List Lexeme) (q : List Token) → tokens_of l ≡ us ++ q → Stands us l (drop (length us) l)
tokens_stand [] l q e = refl
tokens_stand (u ∷ us) [] q e = let z : ◌≡◌ {A = ℕ} 0 1 = cc in omega arith
tokens_stand (u ∷ us) (x ∷ l) q e = (cc, tokens_stand us l q (cc))

pub stands-all : (P : Lexeme → Type 0) (us : List Token) (l r : List Lexeme) → Stands us l r → All P l → All P r
stands-all P [] l r h a = subst (All P) h a
stands-all P (u ∷ us) [] r h a = absurd h
stands-all P (u ∷ us) (x ∷ l) r h a = stands-all P us l r h.1 a.1

abbrev pub Counts : ℕ → List ℕ → Type 0
Counts m [] = Unit {0}
Counts m (n ∷ l) = (n ≡ m) × Counts (suc m) l

pub counts-append : (m : ℕ) (a b : List ℕ) → Counts m a → Counts (m + length a) b → Counts m (a ++ b)
counts-append m [] b h k = subst (λ (n : ℕ). Counts n b) (omega arith) k
counts-append m (n ∷ a) b h k = (h.0, counts-append (suc m) a b h.1 (subst (λ (n : ℕ). Counts n b) (omega arith) k))

pub counts_split : (m : ℕ) (a b : List ℕ) → Counts m (a ++ b) → Counts m a × Counts (m + length a) b
counts_split m [] b h = (tt, subst (λ (n : ℕ). Counts n b) (omega arith) h)
counts_split m (n ∷ a) b h =
    let k = counts_split (suc m) a b h.1 in ((h.0, k.0), subst (λ (n : ℕ). Counts n b) (omega arith) k.1)

pub counts-range : (m : ℕ) (l : List ℕ) → Counts m l → l ≡ range m (length l)
counts-range m [] h = refl
counts-range m (n ∷ l) h = ap₂ {C = List ℕ} ◌∷◌ h.0 (counts-range (suc m) l h.1)

pub range-counts : (m n : ℕ) → Counts m (range m n)
range-counts m zero = tt
range-counts m (suc n) = (refl, range-counts (suc m) n)
