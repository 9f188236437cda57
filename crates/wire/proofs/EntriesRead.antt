-- EntriesRead: whole patterns written one behind the other are read as these patterns, and what is read is written so.
use mathlib.Core.Path.{◌≡◌, refl, ap, ◌∙◌}
use mathlib.Core.Bool.{true}
use mathlib.Core.List.{List, [], ◌∷◌, ◌++◌}
use Prim.Native.Nat.{ℕ, ◌≤◌, ◌<◌}
use native.Mathlib.Omega.{arith}
use lib.Dec.{ltb}
use lib.ListN.{length, length-append}
use borrow.Author.Tests.{ltb-true, lt-ltb}
use Rattle.terms.specs.Lists.{All}
use Rattle.wire.specs.Reply.{IsBytes, Kinded, kinded}
use Rattle.wire.specs.Vocabulary.{Vocabulary, InOrder}
use Rattle.wire.specs.TermBytes.{encode_root, encode_term, GoodTerm, deepest}
use Rattle.wire.specs.Parser.{Got, got, stop, and_then, Read, read_term}
use Rattle.wire.specs.Leftovers.{entries_bytes}
use Rattle.wire.specs.ListComputed.{read_entry, read_entries}
use Rattle.wire.specs.Laws.{EntriesInverse}
use Rattle.wire.proofs.Cond.{cond_true, choice}
use Rattle.wire.proofs.Inverse.{ReadOff, Inverse, inverse_whole, inverse_front}
use Rattle.wire.proofs.Row.{alike_inverse}
use Rattle.wire.proofs.Levels.{deepest-bytes}
use Rattle.wire.proofs.WriteRead.{read-root}
use Rattle.wire.proofs.ReadWrite.{Reads, term-reads, read-good}

abbrev pub GoodKinded : Vocabulary → Kinded → Type 0
GoodKinded W k = GoodTerm W k.kind k.term

module _ (W : Vocabulary) (in_order : InOrder W) where
  abbrev written : Kinded → List ℕ
  written k = encode_term W k.kind k.term

  read-entry : (k : Kinded) (r : List ℕ) → GoodKinded W k → read_entry W (written k ++ r) ≡ got k r
  read-entry k r good =
      let l : List ℕ = encode_root W k.term in
      let deep : deepest k.term ≤ length (l ++ r) = omega (arith, deepest-bytes W k.term, length-append l r) in
      cond_true (ltb k.kind W.kinds) _ _ (lt-ltb k.kind W.kinds good.kind)
      ∙ ap (λ (x : Got Read). and_then x (λ a r. got (kinded k.kind a.term) r))
      (read-root W in_order k.term (length (l ++ r)) k.kind r good.sorted.sorted good.named good.sorted.consistent deep)

  entry_read : (b : List ℕ) → IsBytes b → ReadOff written (GoodKinded W) b (read_entry W b)
  entry_read [] bytes = tt
  entry_read (s ∷ l) bytes =
      choice (ReadOff written (GoodKinded W) (s ∷ l)) (ltb s W.kinds) (and_then (read_term W (length l) true s [] l) (λ a r. got (kinded s a.term) r))
      (stop 8 (s ∷ l))
      (λ e. go (ltb-true s W.kinds e) (read_term W (length l) true s [] l) (term-reads W in_order (length l) true s [] l bytes.1))
      (λ e. tt)
    where
      go : s < W.kinds → (x : Got Read) → Reads W (length l) true s [] l x →
          ReadOff written (GoodKinded W) (s ∷ l) (and_then x (λ a r. got (kinded s a.term) r))
      go low (stop n r) h = tt
      go low (got a r) h = (read-good W (length l) s l a r low h, ap {B = List ℕ} (λ z. s ∷ z) h.bytes)

  entry_inverse : Inverse (read_entry W) written (GoodKinded W)
  entry_inverse = record { written = read-entry; read = entry_read }

  entries_row : (n : ℕ) → Inverse (read_entries W n) (entries_bytes W) (λ l. (length l ≡ n) × All (GoodKinded W) l)
  entries_row n = alike_inverse entry_inverse n

  -- As many good patterns with the same bytes are the same patterns.
  pub entries-same : (l m : List Kinded) → All (GoodKinded W) l → All (GoodKinded W) m → length l ≡ length m →
      entries_bytes W l ≡ entries_bytes W m → l ≡ m
  entries-same l m good good' n e = (inverse_front (entries_row (length m)) l m [] [] (n, good) (refl, good') (ap (λ z. z ++ []) e)).0

pub entries_inverse : EntriesInverse
entries_inverse W n b l in_order bytes =
    let whole = inverse_whole (entries_row W in_order n) b l bytes in
    ((λ e. let h = whole.0 e in (h.0.0, h.0.1, h.1)), (λ h. whole.1 ((h.0, h.1), h.2)))
