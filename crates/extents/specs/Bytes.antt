-- Bytes: what stands at an offset of some bytes.
--
--   missing_byte       what is read where a byte is missing (255)
--   term_byte l i      the byte of l at the offset i
--   Small r v         r is v, which is below 256
--
use Rattle.std.specs.Prelude.{◌≡◌, List, ℕ, ◌<◌, get_or}

abbrev pub missing_byte : ℕ
missing_byte = 255

abbrev pub term_byte : List ℕ → ℕ → ℕ
term_byte l i = get_or l i missing_byte

pub record Small (r v : ℕ) : Type 0 where
  pub same : r ≡ v
  pub low : r < 256
