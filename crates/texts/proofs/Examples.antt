-- Examples: the definitions, run on the bench example.
--
--   bench           its text: kinds step, button and queue
--   bench_lexicon    the vocabulary that it stands for
--   reads-tokens    its tokens are those of the vocabulary
--   writes_lexicon  the vocabulary in words
--   writes          an entry in words
--
use mathlib.Core.Path.{◌≡◌, refl}
use mathlib.Core.List.{List, [], ◌∷◌, ◌++◌}
use Prim.Native.Nat.{ℕ}
use Rattle.terms.specs.Term.{any, var, app, nil, cons}
use Rattle.wire.specs.Vocabulary.{encode_vocabulary}
use Rattle.wire.specs.Text.{ascii}
use Rattle.texts.specs.Lexemes.{tokens, lexemes}
use Rattle.texts.specs.Lexicon.{WordText, Lexicon, kind_names, word_names, lexicon_tokens, lexicon_text, vocabulary_of}
use Rattle.texts.specs.Phrases.{phrase_tokens, phrase_text}
use Rattle.texts.specs.Faults.{parsed, bad, other_kind, unknown_word, places_over, not_declared, kind_twice, kind_name_due}
use Rattle.texts.specs.Complaints.{Known, complaint}
use Rattle.texts.specs.LexiconReading.{read_lexicon}
use Rattle.texts.specs.PhraseReading.{read_phrase}

abbrev pub bench : List ℕ
bench = ascii "# a step\nkind step = wait(button, queue) | done\nkind button = up | down\n  kind queue =\tfree|full"

abbrev plain : List ℕ → WordText
plain n = record { name = n; places = [] }

abbrev pub bench_lexicon : Lexicon
bench_lexicon =
    record {
      name = ascii "step";
      words = record { name = ascii "wait"; places = 1 ∷ 2 ∷ [] } ∷ plain (ascii "done") ∷ [];
    }
    ∷ record { name = ascii "button"; words = plain (ascii "up") ∷ plain (ascii "down") ∷ [] }
    ∷ record { name = ascii "queue"; words = plain (ascii "free") ∷ plain (ascii "full") ∷ [] }
    ∷ []

reads-tokens : tokens bench ≡ lexicon_tokens bench_lexicon ++ ([] ∷ [])
reads-tokens = refl

writes_lexicon : lexicon_text bench_lexicon ≡
    ascii "kind step = wait(button, queue) | done\nkind button = up | down\nkind queue = free | full\n"
writes_lexicon = refl

writes_empty : lexicon_text (record { name = ascii "lamp"; words = [] } ∷ []) ≡ ascii "kind lamp\n"
writes_empty = refl

numbers : encode_vocabulary (vocabulary_of bench_lexicon) ≡ 3 ∷ 6 ∷ 0 ∷ 3 ∷ 1 ∷ 2 ∷ 0 ∷ 0 ∷ 1 ∷ 0 ∷ 1 ∷ 0 ∷ 2 ∷ 0 ∷ 2 ∷ 0 ∷ []
numbers = refl

writes : phrase_text bench_lexicon (ascii "?n" ∷ []) 0 (app 0 (cons (var 0) (cons any nil))) ≡ ascii "wait(?n, _)"
writes = refl

writes_whole : phrase_text bench_lexicon [] 0 any ≡ ascii "_: step"
writes_whole = refl

reads_back : tokens (ascii "wait (?n ,\n _ )") ≡ phrase_tokens bench_lexicon (ascii "?n" ∷ []) 0 (app 0 (cons (var 0) (cons any nil))) ++ ([] ∷ [])
reads_back = refl

reads-phrase : read_phrase (kind_names bench_lexicon) (word_names bench_lexicon) (vocabulary_of bench_lexicon) (lexemes (ascii "go: wait(?n,free)")) ≡
    parsed (record { label = ascii "go"; kind = 0; term = app 0 (cons (var 0) (cons (app 4 nil) nil)); variables = ascii "?n" ∷ [] }) (record { at = 17; token = [] } ∷ [])
reads-phrase = refl

wrong-kind : read_phrase (kind_names bench_lexicon) (word_names bench_lexicon) (vocabulary_of bench_lexicon) (lexemes (ascii "wait(up, up)")) ≡
    bad (record { why = other_kind; at = 9; of = 2 })
wrong-kind = refl

one-over : read_phrase (kind_names bench_lexicon) (word_names bench_lexicon) (vocabulary_of bench_lexicon) (lexemes (ascii "wait(up, free, up)")) ≡
    bad (record { why = places_over; at = 13; of = 0 })
one-over = refl

reads-lexicon : read_lexicon (lexemes bench) ≡
    parsed
    (record {
      kind_names = kind_names bench_lexicon;
      word_names = word_names bench_lexicon;
      rows =
          record { kind = 0; places = 1 ∷ 2 ∷ [] }
          ∷ record { kind = 0; places = [] }
          ∷ record { kind = 1; places = [] }
          ∷ record { kind = 1; places = [] }
          ∷ record { kind = 2; places = [] }
          ∷ record { kind = 2; places = [] }
          ∷ [];
    })
    (record { at = 96; token = [] } ∷ [])
reads-lexicon = refl

undeclared : read_lexicon (lexemes (ascii "kind a = b(lamp)")) ≡ bad (record { why = not_declared; at = 11; of = 0 })
undeclared = refl

-- From left to right: a fault before a name of a kind that is at fault, an undeclared place, and the name itself. A kind that is
-- declared behind such a name is declared.
earlier : read_lexicon (lexemes (ascii "kind a = b(lamp) kind a = c")) ≡ bad (record { why = not_declared; at = 11; of = 0 })
earlier = refl

itself : read_lexicon (lexemes (ascii "kind a = b(lamp) kind a = c kind lamp")) ≡ bad (record { why = kind_twice; at = 22; of = 0 })
itself = refl

unnamed : read_lexicon (lexemes (ascii "kind a = b kind")) ≡ bad (record { why = kind_name_due; at = 15; of = 0 })
unnamed = refl

abbrev known : Known
known = record {
  kinds = kind_names bench_lexicon;
  words = word_names bench_lexicon;
  results = 0 ∷ 0 ∷ 1 ∷ 1 ∷ 2 ∷ 2 ∷ [];
  places = 2 ∷ 0 ∷ 0 ∷ 0 ∷ 0 ∷ 0 ∷ [];
}

complains : complaint (ascii "# x\nwait(up, up)\n") known (record { why = other_kind; at = 13; of = 2 }) ≡
    ascii "line 2, column 10: queue is due here: free or full\nwait(up, up)\n         ^\n"
complains = refl

complains-twice : complaint (ascii "kind a\n\tkind a") known (record { why = kind_twice; at = 13; of = 0 }) ≡
    ascii "line 2, column 7: kind a is declared twice\n\tkind a\n\t     ^\n"
complains-twice = refl

complains-over : complaint (ascii "wait(up, free, up)\r\n") known (record { why = places_over; at = 13; of = 0 }) ≡
    ascii "line 1, column 14: wait takes 2 places, and 3 are written\nwait(up, free, up)\n             ^\n"
complains-over = refl

complains-comma : complaint (ascii "wait(up, free,)") known (record { why = places_over; at = 13; of = 0 }) ≡
    ascii "line 1, column 14: wait takes 2 places, and no , is due here\nwait(up, free,)\n             ^\n"
complains-comma = refl

complains_open : complaint (ascii "wait(up, free, _\ngo: done, up") known (record { why = places_over; at = 13; of = 0 }) ≡
    ascii "line 1, column 14: wait takes 2 places, and 3 are written\nwait(up, free, _\n             ^\n"
complains_open = refl

complains_question : complaint (ascii "go ? done") known (record { why = unknown_word; at = 0; of = 0 }) ≡
    ascii "line 1, column 1: a question stands behind its pattern, and begins with its label\ngo ? done\n^\n"
complains_question = refl

complains-blank : complaint (ascii "go ?done") known (record { why = unknown_word; at = 0; of = 0 }) ≡
    ascii "line 1, column 1: no word go in this vocabulary; in a question a blank is due behind the ?\ngo ?done\n^\n"
complains-blank = refl

complains_return : complaint (ascii "wait(\rup, up)\r\n") known (record { why = other_kind; at = 10; of = 2 }) ≡
    ascii "line 1, column 10: queue is due here: free or full\nwait(up, up)\n         ^\n"
complains_return = refl
