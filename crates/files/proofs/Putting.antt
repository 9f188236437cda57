-- Putting: the answer for a text is put: its paragraphs, the patterns together, and the last line.
--
--   file_puts                  how it is put
--
use mathlib.Core.Path.{◌≡◌, sym, ap, ◌∙◌}
use mathlib.Core.List.{List}
use Prim.Native.Nat.{ℕ, ◌<◌, ◌≤◌}
use native.Mathlib.Omega.{arith}
use lib.ListN.{take}
use Rattle.wire.specs.Vocabulary.{most_words, encode_vocabulary}
use Rattle.wire.specs.Text.{ascii, decimal}
use Rattle.pages.specs.Pages.{Adds}
use Rattle.pages.proofs.Pages.{adds_is, adds_then}
use Rattle.encoder.specs.Encoded.{Encoded}
use Rattle.paragraphs.specs.Paragraphs.{places_table, PutsBlocks}
use Rattle.tails.specs.Tails.{PutsTails}
use Rattle.files.specs.Puts.{PutsFile}

pub file_puts : {b : List ℕ} {from k n : ℕ} {r : List ℕ} {size : ℕ} {voc ks ws ps : List ℕ} {m : ℕ} {page₀ page₁ page₂ page₃ page₄ page₅ : List ℕ} {to a c d e f : ℕ} →
    (k < 256 → n ≤ most_words → Encoded k n r size voc) → ps ≡ places_table r → PutsBlocks b from ks k ws n r ps (take size voc) m page₀ to page₁ a →
    PutsTails b from ks k ws n r ps (take size voc) m page₁ a page₂ c → Adds page₂ c page₃ d (ascii "# end of ") → Adds page₃ d page₄ e (decimal m) →
    Adds page₄ e page₅ f (ascii " patterns\n") → PutsFile b from ks k ws n r m page₀ to page₅ f
file_puts {size = size} {voc = voc} encodes places put tails first second third = record {
  puts = λ X qs ls h s due.
      let encoded = encodes (omega (arith, h.kinds)) h.words in
      let bytes = encoded.bytes ∙ ap encode_vocabulary s.vocabulary in
      let tail = tails.puts X qs ls (record { readable = h; stands = s; places = places; bytes = bytes; due = due }) in (
        tail.0,
        tail.1,
        adds_then (put.puts X qs ls h s places bytes due)
            (adds_then tail.2 (adds_then first (adds_then (adds_is (ap decimal (sym due.count)) second) third))),
      );
}
