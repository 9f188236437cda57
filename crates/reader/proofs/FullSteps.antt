-- FullSteps: how a reading goes on over a full word.
--
--   FullNode                  a full word stands where a term is due at a cursor
--   bare-going, bare-same, bare-path    behind a word without places
--   down_going, down_same, down_path    at the places of a word that has some
--
use mathlib.Core.Path.{◌≡◌, refl, sym, ap, subst, ◌∙◌}
use mathlib.Core.Bool.{true, false, true≢false}
use mathlib.Core.List.{List, [], ◌∷◌, ◌++◌}
use Prim.Native.Nat.{ℕ, suc, ◌+◌, ◌<◌, ◌≤◌}
use native.Mathlib.Omega.{arith}
use lib.Bits.{and_self}
use lib.ListN.{get_or, drop, set}
use lib.Seq.{drop-drop}
use Rattle.terms.specs.Term.{Occurrence}
use Rattle.wire.specs.Map.{map_bytes, flags}
use Rattle.wire.specs.Vocabulary.{Vocabulary, word, map_of}
use Rattle.wire.specs.TermLines.{Due, due_at}
use Rattle.wire.specs.Scan.{every_written}
use Rattle.wire.specs.FillComputed.{full_slots}
use Rattle.signature.specs.Tables.{Tables, vocabulary_in}
use Rattle.frames.specs.Frames.{WordFrame}
use Rattle.cursors.specs.Cursors.{past_word, went_down}
use Rattle.reader.specs.Cursors.{open_due, rest_run, Going}
use Rattle.reader.specs.Full.{Passes}
use Rattle.reader.specs.Terms.{node_due, node_run}
use Rattle.cursors.specs.declared.Cursor.{Cursor}
use Rattle.frames.proofs.Frames.{due-bare}
use Rattle.reader.proofs.Tables.{WordFramed, word_framed, full-slots}
use Rattle.reader.proofs.Full.{passes_as, passes-word, FullHere}
use Rattle.reader.proofs.Cursors.{going-word, going_down, open_down, run-bare, run_down}

-- The word f stands, full, where a term of kind k is due at the cursor.
pub record FullNode (v t frames : List ℕ) (c : Cursor) (n : ℕ) (offsets results maps : List ℕ) (k f : ℕ) : Type 0 where
  pub going : Going v t frames c
  pub room : c.depth ≤ 31
  pub tables : Tables v n offsets results maps
  pub bytes : (i : ℕ) → get_or v i 0 < 256
  pub here : FullHere v t n c.at k f

module _ {v t frames : List ℕ} {c : Cursor} {n : ℕ} {offsets results maps : List ℕ} {k f : ℕ} (x : FullNode v t frames c n offsets results maps k f) where
  abbrev W : Vocabulary
  W = vocabulary_in v

  mapped : get_or maps f 0 ≡ map_of W f
  mapped = x.tables.place_map f x.here.known

  whole : true ≡ every_written (full_slots W f)
  whole = sym (full-slots (flags (map_of W f)) (word W f).kinds)

  -- Over the word, to what is due below it and behind it.
  word-path : {due : List Due} {l : List ℕ} → Passes W due l (node_due false k c ∷ open_due v frames c) (drop c.at t) →
      Passes W due l (due_at (suc (suc c.depth)) (full_slots W f) ++ open_due v frames c) (drop (c.at + (1 + map_bytes)) t)
  word-path p =
      passes_as refl (sym (drop-drop (1 + map_bytes) c.at t))
      (passes-word {d = node_due false k c} (let room = x.room in omega arith) x.here.read p)

  pub bare-going : Going v t frames (past_word true c)
  bare-going = going-word x.going true (λ e. absurd (true≢false e)) x.here.long

  module _ (e : get_or maps f 0 ≡ 0) where
    none_below : due_at (suc (suc c.depth)) (full_slots W f) ≡ []
    none_below = due-bare (flags (map_of W f)) (map_of W f) (suc (suc c.depth)) (word W f).kinds (sym mapped ∙ e)

    pub bare-same : (seen : List Occurrence) → rest_run W v t frames seen (past_word true c) ≡ node_run W v t frames seen false k c
    bare-same seen = run-bare W v t frames seen k x.going x.room f (full_slots W f) true (λ e. absurd (true≢false e)) whole x.here.long x.here.stands none_below

    pub bare-path : {due : List Due} {l : List ℕ} → Passes W due l (node_due false k c ∷ open_due v frames c) (drop c.at t) →
        Passes W due l (open_due v frames (past_word true c)) (drop (c.at + (1 + map_bytes)) t)
    bare-path p = passes_as (ap (λ ds. ds ++ open_due v frames c) (sym none_below)) refl (word-path p)

  module _ {z : ℕ} (made : WordFrame z (get_or maps f 0) (get_or maps f 0) (get_or offsets f 0)) where
    pub down_framed : WordFramed v W f (map_of W f) z
    down_framed =
        word_framed x.tables x.bytes x.here.known (subst (λ m. WordFrame z m m (get_or offsets f 0)) mapped made) (and_self (map_of W f))

    pub down_going : Going v t (set frames c.depth c.due) (went_down z (past_word true c))
    down_going = going_down bare-going (let room = x.room in omega arith) down_framed.fits

    pub down_same : (get_or maps f 0 ≡ 0 → ⊥) → (seen : List Occurrence) →
        rest_run W v t (set frames c.depth c.due) seen (went_down z (past_word true c)) ≡ node_run W v t frames seen false k c
    down_same other seen =
        run_down W v t frames seen k x.going x.room f (full_slots W f) true (λ e. absurd (true≢false e)) whole x.here.long x.here.stands
        z down_framed.fits (down_framed.some (λ e. other (mapped ∙ e))) down_framed.dues

    pub down_path : {due : List Due} {l : List ℕ} → Passes W due l (node_due false k c ∷ open_due v frames c) (drop c.at t) →
        Passes W due l (open_due v (set frames c.depth c.due) (went_down z (past_word true c))) (drop (c.at + (1 + map_bytes)) t)
    down_path p =
        passes_as
        (open_down v frames (past_word true c) z (let room = x.room in omega (arith, x.going.entries))
        ∙ ap (λ ds. ds ++ open_due v frames c) (down_framed.dues (suc (suc c.depth)))) refl (word-path p)
