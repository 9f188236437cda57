-- WholeTerms: kind byte and term are accepted within some levels exactly where they are the writing of a good term that has no more levels.
use mathlib.Core.Path.{◌≡◌, sym, ap, subst, ◌∙◌}
use mathlib.Core.Bool.{true}
use mathlib.Core.List.{List, [], ◌∷◌, append-nil}
use Prim.Native.Nat.{ℕ, ◌≤◌, ◌<◌}
use lib.Dec.{ltb}
use borrow.Author.Tests.{ltb-true, lt-ltb}
use Rattle.terms.specs.Term.{Term}
use Rattle.wire.specs.Parser.{Reading, accept, refuse, Got, got, stop, Read, read_term, line15, read_whole}
use Rattle.wire.specs.Reply.{IsBytes, Kinded}
use Rattle.wire.specs.Vocabulary.{Vocabulary, InOrder}
use Rattle.wire.specs.TermBytes.{encode_root, encode_term, GoodTerm, deepest}
use Rattle.wire.proofs.Cond.{choice}
use Rattle.wire.proofs.WriteRead.{read-root}
use Rattle.wire.proofs.ReadWrite.{Reads, term-reads, read-good}

-- The bytes b write the term of k, which is good and fits the levels.
pub record Writes (W : Vocabulary) (left : ℕ) (b : List ℕ) (k : Kinded) : Type 0 where
  pub good : GoodTerm W k.kind k.term
  pub bytes : b ≡ encode_term W k.kind k.term
  pub fits : deepest k.term ≤ left

-- ---- writing then reading

pub writes_whole : (W : Vocabulary) (left : ℕ) (b : List ℕ) (k : Kinded) → InOrder W → Writes W left b k → read_whole W left b ≡ accept k
writes_whole W left b k in_order w =
    let s : ℕ = k.kind in
    let t : Term = k.term in
    let l : List ℕ = encode_root W t in
    ap (read_whole W left) w.bytes
    ∙ rw (lt-ltb s W.kinds w.good.kind)
    (ap (λ (z : List ℕ). line15 (s ∷ l) s (read_term W left true s [] z)) (sym (append-nil l))
    ∙ ap (line15 (s ∷ l) s)
    (read-root W in_order t left s [] w.good.sorted.sorted w.good.named w.good.sorted.consistent w.fits))

-- ---- reading then writing

abbrev WritesOf : Vocabulary → ℕ → List ℕ → Reading Kinded → Type 0
WritesOf W left b (accept k) = Writes W left b k
WritesOf W left b (refuse n q) = Unit {0}

line15_writes : (W : Vocabulary) (left s : ℕ) (l : List ℕ) → s < W.kinds → (x : Got Read) → Reads W left true s [] l x →
    WritesOf W left (s ∷ l) (line15 (s ∷ l) s x)
line15_writes W left s l h (stop n r) g = tt
line15_writes W left s l h (got a (c ∷ r)) g = tt
line15_writes W left s l h (got a []) g = record {
  good = read-good W left s l a [] h g;
  bytes = ap {B = List ℕ} (λ z. s ∷ z) (g.bytes ∙ append-nil (encode_root W a.term));
  fits = g.deep;
}

whole_writes_of : (W : Vocabulary) (left : ℕ) (b : List ℕ) → InOrder W → IsBytes b → WritesOf W left b (read_whole W left b)
whole_writes_of W left [] in_order h = tt
whole_writes_of W left (s ∷ l) in_order h =
    choice (WritesOf W left (s ∷ l)) (ltb s W.kinds) (line15 (s ∷ l) s (read_term W left true s [] l)) (refuse 8 0)
    (λ e. line15_writes W left s l (ltb-true s W.kinds e) (read_term W left true s [] l) (term-reads W in_order left true s [] l h.1))
    (λ e. tt)

pub whole_writes : (W : Vocabulary) (left : ℕ) (b : List ℕ) (k : Kinded) → InOrder W → IsBytes b → read_whole W left b ≡ accept k → Writes W left b k
whole_writes W left b k in_order h e = subst (WritesOf W left b) e (whole_writes_of W left b in_order h)
