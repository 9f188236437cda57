-- Starred: document 01's starred cases, one table.
--
--   Call           a call with its inputs, a lent slice's content before the call among them, or a run of the program
--   Outcome        a reply and the lent slice's content after the call, or what the program prints
--   outcome c      the outcome of a call, by the definitions that the contracts cite
--   Row, starred   a case: a call, and the outcome that document 01 gives, the last as document 02 (iv) changed it
--   A, B, C        document 01's vocabularies
--   wait_up_free     wait(up, free) under A
--   pair_twice      pair(n0, n0) under C
--   lent           a table of 128 numbers before the call
--   line s         a line of text, with the newline behind it
--   StarredHold    every row holds
--
use Rattle.std.specs.Prelude.{◌≡◌, List, [], ◌∷◌, ◌++◌, ℕ, replicate}
use Prim.Native.String.{String}
use Rattle.terms.specs.Lists.{All}
use Rattle.wire.specs.Reply.{Reply, accepted, refused}
use Rattle.wire.specs.Matching.{yes, no, table_length}
use Rattle.wire.specs.CheckComputed.{vocabulary_reply}
use Rattle.wire.specs.MatchComputed.{matched}
use Rattle.wire.specs.ListComputed.{listed}
use Rattle.wire.specs.Text.{ascii, newline}
use Rattle.wire.specs.PrintComputed.{printed}

pub data Call : Type 0 where
  check_vocabulary : List ℕ → Call
  match_pattern : List ℕ → List ℕ → List ℕ → List ℕ → Call
  list : List ℕ → List ℕ → List ℕ → Call
  leftovers : List ℕ → Call

pub data Outcome : Type 0 where
  answers : Reply → List ℕ → Outcome
  prints : List ℕ → Outcome

abbrev pub outcome : Call → Outcome
outcome (check_vocabulary v) = answers (vocabulary_reply v) []
outcome (match_pattern v p s table) = answers (matched v p s table).reply (matched v p s table).after
outcome (list v p out) = answers (listed v p out).reply (listed v p out).after
outcome (leftovers b) = prints (printed b)

pub record Row : Type 0 where
  pub call : Call
  pub outcome : Outcome

-- Kinds step 0, button 1, queue 2; words wait(button, queue) 0, up 1, down 2, free 3, full 4, done 5.
abbrev pub A : List ℕ
A =
    0x03 ∷ 0x06 ∷ 0x00 ∷ 0x03 ∷ 0x01 ∷ 0x02 ∷ 0x01 ∷ 0x00 ∷ 0x01 ∷ 0x00 ∷ 0x02 ∷ 0x00 ∷ 0x02 ∷ 0x00 ∷ 0x00 ∷ 0x00 ∷ []

-- Words none 0, more(.) 1.
abbrev pub B : List ℕ
B = 0x01 ∷ 0x02 ∷ 0x00 ∷ 0x00 ∷ 0x00 ∷ 0x01 ∷ 0x00 ∷ []

-- Words a 0, b 1, pair(.,.) 2.
abbrev pub C : List ℕ
C = 0x01 ∷ 0x03 ∷ 0x00 ∷ 0x00 ∷ 0x00 ∷ 0x00 ∷ 0x00 ∷ 0x03 ∷ 0x00 ∷ 0x00 ∷ []

abbrev pub wait_up_free : List ℕ
wait_up_free = 0x00 ∷ 0x00 ∷ 0x03 ∷ 0x01 ∷ 0x00 ∷ 0x03 ∷ 0x00 ∷ []

abbrev pub pair_twice : List ℕ
pair_twice = 0x00 ∷ 0x02 ∷ 0x03 ∷ 0x80 ∷ 0x80 ∷ []

abbrev pub lent : List ℕ
lent = replicate table_length 7

abbrev pub line : String → List ℕ
line s = ascii s ++ newline

abbrev pub starred : List Row
starred =
    -- "A, wait(up, free) .. With `00 10` and A in front, the program prints whole:"
    record {
      call = leftovers (0x00 ∷ 0x10 ∷ (A ++ wait_up_free));
      outcome = prints (line "leftovers 3" ++ (line "1 000500" ++ (line "2 0000010200" ++ line "3 00000301000400")));
    }
    -- "A, wait(up, free), `00 00 03 01 00 03 00`: 3 entries, 15 bytes." "Bytes behind the last entry stay unchanged."
    ∷ record {
      call = list A wait_up_free (replicate 17 7);
      outcome =
          answers (accepted (3 ∷ 15 ∷ []))
          (0x00 ∷ 0x05 ∷ 0x00 ∷ 0x00 ∷ 0x00 ∷ 0x01 ∷ 0x02 ∷ 0x00 ∷ 0x00 ∷ 0x00 ∷ 0x03 ∷ 0x01 ∷ 0x00 ∷ 0x04 ∷ 0x00 ∷ 7 ∷ 7 ∷ []);
    }
    -- "The same with 15 bytes lent is accepted;"
    ∷ record {
      call = list A wait_up_free (replicate 15 7);
      outcome =
          answers (accepted (3 ∷ 15 ∷ []))
          (0x00 ∷ 0x05 ∷ 0x00 ∷ 0x00 ∷ 0x00 ∷ 0x01 ∷ 0x02 ∷ 0x00 ∷ 0x00 ∷ 0x00 ∷ 0x03 ∷ 0x01 ∷ 0x00 ∷ 0x04 ∷ 0x00 ∷ []);
    }
    -- "with 14: 20, input 3, place 15."
    ∷ record { call = list A wait_up_free (replicate 14 7); outcome = answers (refused 20 3 15) (replicate 14 7) }
    -- "B, more(more(none)), `00 01 01 01 01 00 00`: entries `000000`, `0001010000`, `00010101010100`."
    ∷ record {
      call = list B (0x00 ∷ 0x01 ∷ 0x01 ∷ 0x01 ∷ 0x01 ∷ 0x00 ∷ 0x00 ∷ []) (replicate 15 7);
      outcome =
          answers (accepted (3 ∷ 15 ∷ []))
          (0x00 ∷ 0x00 ∷ 0x00 ∷ 0x00 ∷ 0x01 ∷ 0x01 ∷ 0x00 ∷ 0x00 ∷ 0x00 ∷ 0x01 ∷ 0x01 ∷ 0x01 ∷ 0x01 ∷ 0x01 ∷ 0x00 ∷ []);
    }
    -- "C, `00 ff`: 0 entries, 0 bytes."
    ∷ record { call = list C (0x00 ∷ 0xff ∷ []) []; outcome = answers (accepted (0 ∷ 0 ∷ [])) [] }
    -- "C, pair(n0, n0), `00 02 03 80 80`, with `00 02 03 00 00 00 00`: yes, name 0 at 3, length 2."
    ∷ record {
      call = match_pattern C pair_twice (0x00 ∷ 0x02 ∷ 0x03 ∷ 0x00 ∷ 0x00 ∷ 0x00 ∷ 0x00 ∷ []) lent;
      outcome = answers yes (3 ∷ 2 ∷ replicate 126 0);
    }
    -- "With `00 02 03 00 00 01 00`: no."
    ∷ record {
      call = match_pattern C pair_twice (0x00 ∷ 0x02 ∷ 0x03 ∷ 0x00 ∷ 0x00 ∷ 0x01 ∷ 0x00 ∷ []) lent;
      outcome = answers no lent;
    }
    -- "Listed: 18, input 1, place 4."
    ∷ record { call = list C pair_twice (replicate 5 7); outcome = answers (refused 18 1 4) (replicate 5 7) }
    -- "C, `00 80` with `00 02 03 00 00 00 00`: name 0 at 1, length 6."
    ∷ record {
      call =
          match_pattern C (0x00 ∷ 0x80 ∷ []) (0x00 ∷ 0x02 ∷ 0x03 ∷ 0x00 ∷ 0x00 ∷ 0x00 ∷ 0x00 ∷ []) lent;
      outcome = answers yes (1 ∷ 6 ∷ replicate 126 0);
    }
    -- "C, `00 ff` with situation `00 02 01 00 00`: 16, input 2, place 2."
    ∷ record {
      call = match_pattern C (0x00 ∷ 0xff ∷ []) (0x00 ∷ 0x02 ∷ 0x01 ∷ 0x00 ∷ 0x00 ∷ []) lent;
      outcome = answers (refused 16 2 2) lent;
    }
    -- "Vocabulary `01 01 00 01 00`: 6, input 0, place 0." Document 02 (iv): "its starred case is now accepted".
    ∷ record {
      call = check_vocabulary (0x01 ∷ 0x01 ∷ 0x00 ∷ 0x01 ∷ 0x00 ∷ []);
      outcome = answers (accepted []) [];
    }
    ∷ []

abbrev pub StarredHold : Type 0
StarredHold = All (λ r. outcome r.call ≡ r.outcome) starred
