-- Passing: a term of some bytes that is passed.
--
--   passed l i        the offset behind the term at the offset i
--   passed_if b l i    the same where a term is due there, and else i
--
use Rattle.std.specs.Prelude.{Bool, true, false, List, ℕ, ◌+◌, drop}
use Rattle.extents.specs.Extents.{term_size}

unfoldable pub passed : List ℕ → ℕ → ℕ
passed l i = i + term_size (drop i l)

abbrev pub passed_if : Bool → List ℕ → ℕ → ℕ
passed_if true l i = passed l i
passed_if false l i = i
