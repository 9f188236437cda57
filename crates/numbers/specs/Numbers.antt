-- Numbers: the numbers in which other languages get a reply.
--
--   reply_numbers r         the numbers of a reply
--   reply_in k numbers      the reply that such numbers say, where an accepted one has k values
--   span_said numbers       the span that such numbers say
--
use Rattle.std.specs.Prelude.{cond, List, [], ◌∷◌, ℕ, eqb, get_or, take, drop}
use Rattle.wire.specs.Reply.{Reply, accepted, refused}
use Rattle.wire.specs.Matching.{Span}

-- Accepted: 0 and the values, 0 where there is none. Refused: number, input, place, and 0 behind them.
abbrev pub reply_numbers : Reply → List ℕ
reply_numbers (accepted l) = 0 ∷ get_or l 0 0 ∷ get_or l 1 0 ∷ get_or l 2 0 ∷ get_or l 3 0 ∷ []
reply_numbers (refused n i q) = n ∷ i ∷ q ∷ 0 ∷ 0 ∷ []

-- No line of the refusal list has number 0.
abbrev pub reply_in : ℕ → List ℕ → Reply
reply_in k l = cond (eqb (get_or l 0 0) 0) (accepted (take k (drop 1 l))) (refused (get_or l 0 0) (get_or l 1 0) (get_or l 2 0))

abbrev pub span_said : List ℕ → Span
span_said numbers = record { offset = get_or numbers 1 0; bytes = get_or numbers 2 0 }
