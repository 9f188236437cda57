-- MatchComputed: the reply and the table of document 01's call "match", and the answer of "part", computed.
--
-- This file is an algorithm, and nothing in it has to be believed: MatchKeeps, PartKeeps and PartIsTable (Laws) fix what it
-- gives.
--
--   Judged                   inputs in order, or a refusal's number, input and place
--   judged_situation, judged_pattern, judged_vocabulary    the parts of the next
--   judged v p s             the inputs of match, in the order in which they are judged
--   clear_reply j             the reply that says whether the inputs are in order, with no values
--   span_numbers, span_table W t g    the table of a yes
--   verdict, matched_with     the parts of the next
--   matched v p s table      the reply and the table of match
--   span_found, span_with      the parts of the next
--   part_span v p s n         where the part of the name n stands in the situation; 0 and 0 where there is none
--   part_of v p s n           the bytes of that part
--
use Rattle.std.specs.Prelude.{cond, ◌&&◌, List, [], ◌∷◌, ℕ, eqb, ltb, length}
use Rattle.std.proofs.Math.Option.{Option, some, none}
use Rattle.terms.specs.Lists.{occurs, range}
use Rattle.terms.specs.Term.{Term, Ground, names}
use Rattle.terms.specs.Filling.{Filling}
use Rattle.terms.specs.Matcher.{matcher}
use Rattle.wire.specs.Reply.{Reply, accepted, refused, Kinded}
use Rattle.wire.specs.Vocabulary.{Vocabulary}
use Rattle.wire.specs.TermBytes.{name_count}
use Rattle.wire.specs.Matching.{Inputs, table_length, Span, no_span, span, cut_out, yes, no}
use Rattle.wire.specs.Effect.{Effect}
use Rattle.wire.specs.Parser.{Reading, accept, refuse, read_vocabulary}
use Rattle.wire.specs.CheckComputed.{checked_term}
use Rattle.wire.specs.SituationComputed.{checked_situation}

pub data Judged : Type 0 where
  clear : Inputs → Judged
  refusal : ℕ → ℕ → ℕ → Judged

-- "The vocabulary is checked first, then the pattern, then the situation, then the rest."
abbrev pub judged_situation : Vocabulary → Kinded → Reading Ground → Judged
judged_situation W k (refuse n q) = refusal n 2 q
judged_situation W k (accept g) = clear (record { vocabulary = W; kind = k.kind; pattern = k.term; situation = g })

abbrev pub judged_pattern : Vocabulary → List ℕ → Reading Kinded → Judged
judged_pattern W s (refuse n q) = refusal n 1 q
judged_pattern W s (accept k) = judged_situation W k (checked_situation W k.kind s)

abbrev pub judged_vocabulary : List ℕ → List ℕ → Reading Vocabulary → Judged
judged_vocabulary p s (refuse n q) = refusal n 0 q
judged_vocabulary p s (accept W) = judged_pattern W s (checked_term W p)

abbrev pub judged : List ℕ → List ℕ → List ℕ → Judged
judged v p s = judged_vocabulary p s (read_vocabulary v)

abbrev pub clear_reply : Judged → Reply
clear_reply (clear x) = accepted []
clear_reply (refusal n i q) = refused n i q

-- "at 2n the offset .., at 2n + 1 its length", for each n of ns.
abbrev pub span_numbers : Vocabulary → Term → Ground → List ℕ → List ℕ
span_numbers W t g [] = []
span_numbers W t g (n ∷ ns) = (span W t g n).offset ∷ (span W t g n).bytes ∷ span_numbers W t g ns

abbrev pub span_table : Vocabulary → Term → Ground → List ℕ
span_table W t g = span_numbers W t g (range 0 name_count)

-- "Yes fills a lent table .. No leaves the table unchanged."
abbrev pub verdict : List ℕ → Inputs → Option Filling → Effect
verdict table x (some f) = record { reply = yes; after = span_table x.vocabulary x.pattern x.situation }
verdict table x none = record { reply = no; after = table }

-- A refusal changes nothing.
abbrev pub matched_with : List ℕ → Judged → Effect
matched_with table (refusal n i q) = record { reply = refused n i q; after = table }
matched_with table (clear x) =
    cond (eqb (length table) table_length) (verdict table x (matcher x.pattern x.situation))
    (record { reply = refused 19 3 0; after = table })

abbrev pub matched : List ℕ → List ℕ → List ℕ → List ℕ → Effect
matched v p s table = matched_with table (judged v p s)

abbrev pub span_found : Inputs → ℕ → Option Filling → Span
span_found x n none = no_span
span_found x n (some f) =
    cond (ltb n name_count && occurs n (names x.pattern)) (span x.vocabulary x.pattern x.situation n) no_span

-- "It is empty if match, given a table of the right length, would not say yes, or the name does not
-- stand in the pattern, or its number is above 63."
abbrev pub span_with : ℕ → Judged → Span
span_with n (refusal m i q) = no_span
span_with n (clear x) = span_found x n (matcher x.pattern x.situation)

abbrev pub part_span : List ℕ → List ℕ → List ℕ → ℕ → Span
part_span v p s n = span_with n (judged v p s)

abbrev pub part_of : List ℕ → List ℕ → List ℕ → ℕ → List ℕ
part_of v p s n = cut_out s (part_span v p s n)
