-- Front: the writing of a term tells the term, also with bytes behind it; so bytes write one term only.
use mathlib.Core.Path.{◌≡◌, sym, ap, ◌∙◌}
use mathlib.Core.Bool.{true}
use mathlib.Core.List.{List, [], ◌++◌}
use Prim.Native.Nat.{ℕ, max}
use native.Mathlib.Omega.{arith}
use Rattle.terms.specs.Term.{Term}
use Rattle.wire.specs.Vocabulary.{Vocabulary, InOrder}
use Rattle.wire.specs.TermBytes.{encode_root, encode_term, GoodTerm, deepest, HoldsTerm}
use Rattle.wire.specs.Parser.{got, Read, read_term}
use Rattle.wire.proofs.WriteRead.{read-root}

pub got_same : (a b : Read) (r r' : List ℕ) → got a r ≡ got b r' → (a.term ≡ b.term) × (r ≡ r')
got_same a b r r' e = let x : a ≡ b = cc in let y : r ≡ r' = cc in (ap (λ z. z.term) x, y)

-- Two good terms of one kind that are written one for the other, whatever bytes are behind each.
pub root-front : (W : Vocabulary) → InOrder W → (s : ℕ) (t u : Term) (r r' : List ℕ) → GoodTerm W s t → GoodTerm W s u →
    encode_root W t ++ r ≡ encode_root W u ++ r' → (t ≡ u) × (r ≡ r')
root-front W in_order s t u r r' good good' e =
    let left : ℕ = max (deepest t) (deepest u) in
    let a = read-root W in_order t left s r good.sorted.sorted good.named good.sorted.consistent (omega arith) in
    let b = read-root W in_order u left s r' good'.sorted.sorted good'.named good'.sorted.consistent (omega arith) in
    got_same _ _ r r' (sym a ∙ ap (read_term W left true s []) e ∙ b)

pub term-front : (W : Vocabulary) → InOrder W → (s s' : ℕ) (t u : Term) (r r' : List ℕ) → GoodTerm W s t → GoodTerm W s' u →
    encode_term W s t ++ r ≡ encode_term W s' u ++ r' → (s ≡ s') × (t ≡ u) × (r ≡ r')
term-front W in_order s s' t u r r' good good' e =
    let k : s ≡ s' = cc in
    let l : encode_root W t ++ r ≡ encode_root W u ++ r' = cc in
    let f = root-front W in_order s t u r r' good (rw (← k) at good') l in
    (k, f.0, f.1)

-- The bytes of a term write no other, whatever kind it has.
pub term_is_one : (W : Vocabulary) → InOrder W → (b : List ℕ) (s s' : ℕ) (t u : Term) → HoldsTerm W b s t → HoldsTerm W b s' u → (s ≡ s') × (t ≡ u)
term_is_one W in_order b s s' t u h h' =
    let f = term-front W in_order s s' t u [] [] h.good h'.good (ap (λ z. z ++ []) (sym h.written ∙ h'.written)) in
    (f.0, f.1)
