-- Reasons: the numbers of the reasons by which a text is refused.
--
--   number_of r    the number of a reason
--   reason_of r    the same where there is one, and else 0
--   fault_of x     a fault with its reason's number
--
use Rattle.std.specs.Prelude.{ℕ, Option, Some, None}
use Rattle.texts.specs.Faults.{Fault as Faults·Fault, kind_due, kind_name_due, long_name, kind_twice, many_kinds, word_due, word_twice, many_words, place_due, not_declared, many_places, place_end, no_words, pattern_due, term_due, unknown_word, other_kind, places_wrong, too_deep, too_long, variable_twice, many_variables, colon_due, long_text, places_over, situation_open, other_label, kind_beyond}
use Rattle.faults.specs.declared.Fault.{Fault}
use Rattle.faults.specs.declared.Reason.{Reason}
use Rattle.faults.specs.declared.Reason.TheVariants as R

abbrev pub number_of : Reason → ℕ
number_of R.KindDue = kind_due
number_of R.KindNameDue = kind_name_due
number_of R.LongName = long_name
number_of R.KindTwice = kind_twice
number_of R.ManyKinds = many_kinds
number_of R.WordDue = word_due
number_of R.WordTwice = word_twice
number_of R.ManyWords = many_words
number_of R.PlaceDue = place_due
number_of R.NotDeclared = not_declared
number_of R.ManyPlaces = many_places
number_of R.PlaceEnd = place_end
number_of R.NoWords = no_words
number_of R.PatternDue = pattern_due
number_of R.TermDue = term_due
number_of R.UnknownWord = unknown_word
number_of R.OtherKind = other_kind
number_of R.PlacesWrong = places_wrong
number_of R.TooDeep = too_deep
number_of R.TooLong = too_long
number_of R.VariableTwice = variable_twice
number_of R.ManyVariables = many_variables
number_of R.ColonDue = colon_due
number_of R.LongText = long_text
number_of R.PlacesOver = places_over
number_of R.SituationOpen = situation_open
number_of R.OtherLabel = other_label
number_of R.KindBeyond = kind_beyond

abbrev pub reason_of : Option Reason → ℕ
reason_of None = 0
reason_of (Some r) = number_of r

abbrev pub fault_of : Fault → Faults·Fault
fault_of x = record { why = number_of x.why; at = x.at; of = x.of }
