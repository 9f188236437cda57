-- Stages: how far the code has come with the declarations, as LexiconReading has it.
--
--   phase_of p                 what may come next
--   declaring b p c n words records    what was read: c kinds have begun, and the tables have n words
--   on_turn, start_turn, word_turn, behind_word_turn, behind_place_turn, turn_of    what a mark or `kind` leads to
--   stepped_of c n t           the same with the counts, as they were
--   stepped_kind c n why       a kind more has begun, where nothing speaks against its name
--   KindPromise c n why r      the same, by the number of what speaks against it
--   stepping b words records r   what the code says of a token, as a step
--   StepKeeps words records words' records' r    what is kept of the tables: in order where it goes on, as they were where it is over
--   StepPromise               what the code does with a token
--   WordPromise, PlacePromise     the same for the name of a word and the kind of a place
--
use Rattle.std.specs.Prelude.{◌≡◌, cond, List, [], ℕ, ◌+◌, ◌-◌, take, Option, Some, None}
use Rattle.texts.specs.Lexemes.{Token, token_at}
use Rattle.texts.specs.Names.{same, kind_word, mark, opening, closing, comma, bar, equals}
use Rattle.texts.specs.LexiconReading as reading
use Rattle.texts.specs.LexiconReading.{Declaring, step}
use Rattle.texts.specs.Tabled.{names_in}
use Rattle.faults.specs.declared.Reason.{Reason}
use Rattle.faults.specs.declared.Reason.TheVariants.{KindDue, PlaceEnd}
use Rattle.faults.specs.Reasons.{number_of, reason_of}
use Rattle.lexicon.specs.declared.Stage.{Stage}
use Rattle.lexicon.specs.declared.Stage.TheVariants.{AtStart, AtKind, BehindKind, AtWord, BehindWord, AtPlace, BehindPlace, BehindPlaces}
use Rattle.lexicon.specs.declared.Turn.{Turn}
use Rattle.lexicon.specs.declared.Turn.TheVariants.{To, Ends, Wrong}
use Rattle.lexicon.specs.declared.Stepped.{Stepped}
use Rattle.lexicon.specs.declared.Stepped.TheVariants.{On, Over, Fails}
use Rattle.lexicon.specs.Rows.{rows_in, last_in, Tables}

abbrev pub phase_of : Stage → reading.Phase
phase_of AtStart = reading.at_start
phase_of AtKind = reading.at_kind
phase_of BehindKind = reading.behind_kind
phase_of AtWord = reading.at_word
phase_of BehindWord = reading.behind_word
phase_of AtPlace = reading.at_place
phase_of BehindPlace = reading.behind_place
phase_of BehindPlaces = reading.behind_places

abbrev pub declaring : List ℕ → Stage → ℕ → ℕ → List ℕ → List ℕ → Declaring
declaring b p c n words records = record {
  phase = phase_of p;
  kinds = c;
  names = names_in b (take n words);
  done = rows_in (n - 1) records;
  last = last_in n records;
}

abbrev pub on_turn : Token → Turn
on_turn u = cond (same u kind_word) (To AtKind) Ends

abbrev pub start_turn : Token → Turn
start_turn u = cond (same u kind_word) (To AtKind) (Wrong KindDue)

abbrev pub word_turn : ℕ → Token → Turn
word_turn c u = cond (same u (mark c)) (To AtWord) (on_turn u)

abbrev pub behind_word_turn : Token → Turn
behind_word_turn u = cond (same u (mark opening)) (To AtPlace) (word_turn bar u)

abbrev pub behind_place_turn : Token → Turn
behind_place_turn u =
    cond (same u (mark comma)) (To AtPlace) (cond (same u (mark closing)) (To BehindPlaces) (Wrong PlaceEnd))

-- Names are not looked at here, and `step` does not come here with them.
abbrev pub turn_of : Token → Stage → Turn
turn_of u AtStart = start_turn u
turn_of u AtKind = To BehindKind
turn_of u BehindKind = word_turn equals u
turn_of u AtWord = To BehindWord
turn_of u BehindWord = behind_word_turn u
turn_of u AtPlace = To BehindPlace
turn_of u BehindPlace = behind_place_turn u
turn_of u BehindPlaces = word_turn bar u

abbrev pub stepping : List ℕ → List ℕ → List ℕ → Stepped → reading.Stepped
stepping b words records (On p c n) = reading.on (declaring b p c n words records)
stepping b words records Over = reading.over
stepping b words records (Fails why) = reading.fails (number_of why)

abbrev pub StepKeeps : List ℕ → List ℕ → List ℕ → List ℕ → Stepped → Type 0
StepKeeps words records words' records' (On p c n) = Tables n words' records'
StepKeeps words records words' records' Over = (words' ≡ words) × (records' ≡ records)
StepKeeps words records words' records' (Fails why) = Unit {0}

-- The code may go on to another stage where nothing is stored.
abbrev pub stepped_of : ℕ → ℕ → Turn → Stepped
stepped_of c n (To p) = On p c n
stepped_of c n Ends = Over
stepped_of c n (Wrong why) = Fails why

abbrev pub stepped_kind : ℕ → ℕ → Option Reason → Stepped
stepped_kind c n None = On BehindKind (c + 1) n
stepped_kind c n (Some why) = Fails why

pub record KindPromise (c n why : ℕ) (r : Stepped) : Type 0 where
  pub reason : Option Reason
  pub number : reason_of reason ≡ why
  pub same : r ≡ stepped_kind c n reason

pub record StepPromise (b : List ℕ) (K : List Token) (p : Stage) (c n s : ℕ) (words records words' records' : List ℕ) (r : Stepped) : Type 0 where
  pub same : stepping b words' records' r ≡ step K (declaring b p c n words records) (token_at b s)
  pub keeps : StepKeeps words records words' records' r

abbrev pub WordPromise : List ℕ → ℕ → ℕ → ℕ → List ℕ → List ℕ → List ℕ → List ℕ → Stepped → Type 0
WordPromise b c n s words records words' records' r =
    StepPromise b [] AtWord c n s words records words' records' r

abbrev pub PlacePromise : List ℕ → List Token → ℕ → ℕ → ℕ → List ℕ → List ℕ → List ℕ → Stepped → Type 0
PlacePromise b K c n s words records records' r = StepPromise b K AtPlace c n s words records words records' r
