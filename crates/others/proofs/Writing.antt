-- Writing: an entry is written: bytes are copied to the front, behind them stand a word and the map 0, and the tail is copied.
use mathlib.Core.Path.{◌≡◌, sym, ap, ap₂, ◌∙◌, subst}
use mathlib.Core.List.{List, [], ◌∷◌, ◌++◌, append-nil, append_assoc}
use Prim.Native.Nat.{ℕ, suc, ◌+◌, ◌≤◌}
use native.Mathlib.Numerals.{add-one}
use native.Mathlib.Omega.{arith}
use lib.ListN.{length, take, drop, set, length-append}
use lib.Seq.{length-take-le, drop-length}
use Rattle.slices.specs.Copied.{copied}
use Rattle.slices.specs.Written.{Written}
use Rattle.slices.proofs.Copying.{copied-whole, stored}
use Rattle.slices.proofs.Writing.{part, back, written-copied}
use Rattle.others.specs.Others.{entry_of}

module _ (bytes out : List ℕ) (n word : ℕ) {front : List ℕ} (long : length bytes ≡ n) (room : n + 2 ≤ length out)
    (e : front ≡ copied bytes (take n out)) where
  exact : length (take n out) ≡ length bytes
  exact = length-take-le n out (omega arith) ∙ sym long

  whole : front ≡ bytes
  whole =
      e
      ∙ copied-whole bytes (take n out) (let s = exact in omega arith)
      ∙ ap (λ i. bytes ++ drop i (take n out)) (sym exact)
      ∙ ap (λ l. bytes ++ l) (drop-length (take n out))
      ∙ append-nil bytes

  abbrev stored_word : List ℕ
  stored_word = set (set (front ++ drop n out) n word) (n + 1) 0

  -- The bytes and the word are written.
  pub word-written : Written (bytes ++ (word ∷ 0 ∷ [])) out (n + 2) stored_word
  word-written = record {
    count = omega (arith, length-append bytes (word ∷ 0 ∷ []));
    same =
        ap (λ l. set (set (l ++ drop n out) n word) (n + 1) 0) whole
        ∙ ap (λ l. set l (n + 1) 0) (stored out n word (omega arith) bytes long)
        ∙ ap (λ i. set ((bytes ++ (word ∷ [])) ++ drop (suc n) out) i 0) (add-one n)
        ∙ stored out (suc n) 0 (omega arith) (bytes ++ (word ∷ [])) (length-append bytes (word ∷ []) ∙ omega arith)
        ∙ ap₂ (λ l i. l ++ drop i out) (append_assoc bytes (word ∷ []) (0 ∷ []))
        (let e : suc (suc n) ≡ length (bytes ++ (word ∷ 0 ∷ [])) = omega (arith, length-append bytes (word ∷ 0 ∷ [])) in e);
  }

  pub entry-written : (tail : List ℕ) {ys : List ℕ} → n + 2 + length tail ≤ length out → ys ≡ copied tail (part (n + 2) stored_word) →
      Written (entry_of bytes tail word) out (n + 2 + length tail) (back (n + 2) stored_word ys)
  entry-written tail {ys} fits c =
      subst (λ l. Written l out (n + 2 + length tail) (back (n + 2) stored_word ys)) (append_assoc bytes (word ∷ 0 ∷ []) tail)
      (written-copied word-written (omega (arith, word-written.count)) tail (omega (arith, word-written.count)) c)
