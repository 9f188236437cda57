-- Writing: an entry is written: bytes are copied to the front, and behind them stand a word and the map 0.
use mathlib.Core.Path.{◌≡◌, sym, ap, ap₂, ◌∙◌}
use mathlib.Core.List.{List, [], ◌∷◌, ◌++◌, append-nil, append_assoc}
use Prim.Native.Nat.{ℕ, suc, ◌+◌, ◌≤◌}
use native.Mathlib.Numerals.{add-one}
use native.Mathlib.Omega.{arith}
use lib.ListN.{length, take, drop, set, length-append}
use lib.Seq.{length-take-le, drop-length}
use Rattle.slices.specs.Copied.{copied}
use Rattle.slices.proofs.Copying.{copied-whole, stored}

pub entry-written : (bytes out : List ℕ) (n word : ℕ) {front : List ℕ} → length bytes ≡ n → n + 2 ≤ length out → front ≡ copied bytes (take n out) →
    set (set (front ++ drop n out) n word) (n + 1) 0 ≡ (bytes ++ (word ∷ 0 ∷ [])) ++ drop (n + 2) out
entry-written bytes out n word {front} long room e =
    ap (λ l. set (set (l ++ drop n out) n word) (n + 1) 0) whole
    ∙ ap (λ l. set l (n + 1) 0) (stored out n word (omega arith) bytes long)
    ∙ ap (λ i. set ((bytes ++ (word ∷ [])) ++ drop (suc n) out) i 0) (add-one n)
    ∙ stored out (suc n) 0 (omega arith) (bytes ++ (word ∷ [])) (length-append bytes (word ∷ []) ∙ omega arith)
    ∙ ap₂ (λ l i. l ++ drop i out) (append_assoc bytes (word ∷ []) (0 ∷ [])) (let e : suc (suc n) ≡ n + 2 = omega arith in e)
  where
    exact : length (take n out) ≡ length bytes
    exact = length-take-le n out (omega arith) ∙ sym long

    whole : front ≡ bytes
    whole =
        e
        ∙ copied-whole bytes (take n out) (let s = exact in omega arith)
        ∙ ap (λ i. bytes ++ drop i (take n out)) (sym exact)
        ∙ ap (λ l. bytes ++ l) (drop-length (take n out))
        ∙ append-nil bytes
