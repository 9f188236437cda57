-- Places: where in the lent situation the answer of part stands.
--
--   part_at from at r    the span of the bytes r at the address `at`, in bytes that are lent from the address `from` on
--
use Rattle.std.specs.Prelude.{List, ℕ, ◌-◌, length}
use Rattle.wire.specs.Matching.{Span}

abbrev pub part_at : ℕ → ℕ → List ℕ → Span
part_at from at r = record { offset = at - from; bytes = length r }
