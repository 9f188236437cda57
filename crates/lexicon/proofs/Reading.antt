-- Reading: the declarations, token by token.
--
--   Reading           what is read before an offset, and what is left of the text make up the vocabulary
--   reading_none      nothing is read
--   told              a promise for an answer that is known
--   reading_few       no more kinds have begun than there are names
--   reading_on_lem, reading_later     a token that goes on, and is passed
--   reading_over      the vocabulary ends
--   reading_fails     a token at fault
--
use mathlib.Core.Path.{◌≡◌, refl, sym, ap, ap₂, subst, ◌∙◌}
use mathlib.Core.Bool.{Bool, true, false}
use mathlib.Core.List.{List, []}
use Prim.Native.Nat.{ℕ, zero, suc, ◌+◌, ◌<◌, ◌≤◌}
use native.Mathlib.Omega.{arith}
use lib.Dec.{eqb, ltb}
use lib.ListN.{length, take, drop}
use borrow.Author.Tests.{ltb-true, ltb-false, ne_eqb}
use Rattle.wire.proofs.Cond.{cond_false}
use Rattle.texts.specs.Lexemes.{Token, token_size, lexemes, lexemes_from, token_at}
use Rattle.texts.specs.Faults.{parsed}
use Rattle.texts.specs.LexiconReading as reading
use Rattle.texts.specs.LexiconReading.{Declaring, beginning, names_from, read_rows, read_lexicon, step}
use Rattle.texts.specs.Tabled.{names_in}
use Rattle.texts.specs.Laws.{tokens_of}
use Rattle.texts.proofs.Scanning.{token_none, lexemes-whole}
use Rattle.texts.proofs.Gathering.{Coming, naming}
use Rattle.texts.proofs.Begun.{coming_few, coming_step}
use Rattle.texts.proofs.LexiconFaults.{end_on}
use Rattle.lexicon.specs.declared.Stage.{Stage}
use Rattle.lexicon.specs.declared.Stage.TheVariants.{AtStart}
use Rattle.lexicon.specs.declared.Stepped.{Stepped}
use Rattle.lexicon.specs.declared.Stepped.TheVariants.{On, Over, Fails}
use Rattle.std.specs.Prelude.{Err}
use Rattle.faults.specs.declared.Reason.{Reason}
use Rattle.lexicon.specs.Rows.{Tables}
use Rattle.lexicon.specs.Stages.{phase_of, declaring, StepPromise}
use Rattle.lexicon.specs.Answers.{LexiconAnswer, KindsKnown, ended_of, LexiconPromise}
use Rattle.lexicon.proofs.Whys.{names-length}
use Rattle.texts.proofs.Fronts.{start, behind_front, front_of, front, behind-inside, end-inside, end-behind}
use Rattle.lexicon.proofs.Rows.{rows_of, words-rows}

module _ (b kinds : List ℕ) (k : ℕ) where
  abbrev pub kind_names : List Token
  kind_names = names_in b (take k kinds)

pub record Reading (b kinds : List ℕ) (k at : ℕ) (p : Stage) (c n : ℕ) (words records : List ℕ) : Type 0 where
  pub known : KindsKnown b kinds k
  pub within : at ≤ length b
  pub tables : Tables n words records
  pub ahead : Coming (kind_names b kinds k) (naming (phase_of p)) c (tokens_of (lexemes_from b at))
  pub same : read_rows (kind_names b kinds k) (declaring b p c n words records) (lexemes_from b at) ≡ read_lexicon (lexemes b)

pub reading_none : {b kinds words records : List ℕ} {k : ℕ} → KindsKnown b kinds k → Tables 0 words records →
    Reading b kinds k 0 AtStart 0 0 words records
reading_none {b} {kinds} {words} {records} {k} h t = record {
  known = h;
  within = omega arith;
  tables = t;
  ahead = record { few = omega arith; rest = ap (λ l. names_from [] (tokens_of l)) (lexemes-whole b) ∙ h.same };
  same = ap (read_rows (kind_names b kinds k) beginning) (lexemes-whole b) ∙ ap (λ names. read_rows names beginning (lexemes b)) (sym h.same);
}

-- A step that goes on is made by a token of the text: behind its end no reading goes on.
on-inside : (b : List ℕ) (K : List Token) (x : Declaring) {z : Declaring} (s : ℕ) → reading.on z ≡ step K x (token_at b s) → s < length b
on-inside b K x {z} s e = go (ltb s (length b)) refl
  where
    go : (t : Bool) → ltb s (length b) ≡ t → s < length b
    go true g = ltb-true s (length b) g
    go false g = absurd (end_on K x z x.phase (ap (step K x) (sym (token_none b s (ltb-false s (length b) g))) ∙ sym e))

-- What a function's answer is known to be.
pub told : {b : List ℕ} {K : List Token} {p : Stage} {c n s : ℕ} {words records words' records' : List ℕ} {r q : Stepped} →
    StepPromise b K p c n s words records words' records' r → r ≡ q → StepPromise b K p c n s words records words' records' q
told {b} {K} {p} {c} {n} {s} {words} {records} {words'} {records'} h e = subst (StepPromise b K p c n s words records words' records') e h

reading_ends : {b kinds : List ℕ} {k at : ℕ} {p : Stage} {c : ℕ} {words records : List ℕ} (n : ℕ) → Reading b kinds k at p c n words records →
    {s : ℕ} → s ≡ start b at → read_lexicon (lexemes b) ≡ reading.ended (kind_names b kinds k) (declaring b p c n words records) (front_of b s) →
    LexiconPromise b kinds words records (ended_of k n at s)
reading_ends zero t from e = record { same = e; fits = tt }
reading_ends {b} {kinds} {k} {at} {p} {c} {words} {records} (suc m) t from e =
    let names = names_in b (take (suc m) words) in
    let many : length names ≡ suc m = names-length b words (suc m) (omega (arith, t.tables.few, t.tables.words_size)) in
    record {
      same =
          e
          ∙ cond_false (eqb (length names) 0) _ _ (ne_eqb (length names) 0 (λ z. omega arith))
          ∙ ap₂ (λ r l. parsed (record { kind_names = kind_names b kinds k; word_names = names; rows = r }) l) (rows_of (suc m) records) (sym (front b at from));
      fits = record {
        few_kinds = t.known.few;
        kinds_size = t.known.size;
        some_word = omega arith;
        tables = t.tables;
        rows = words-rows t.tables;
        within = t.within;
      };
    }

module _ {b kinds : List ℕ} {k at : ℕ} {p : Stage} {c n : ℕ} {words records : List ℕ} (t : Reading b kinds k at p c n words records) where
  abbrev K : List Token
  K = kind_names b kinds k

  abbrev x : Declaring
  x = declaring b p c n words records

  pub reading_few : c ≤ k
  reading_few =
      omega (arith, coming_few K (naming (phase_of p)) c (tokens_of (lexemes_from b at)) t.ahead, names-length b kinds k (omega (arith, t.known.few, t.known.size)))

  module _ {s : ℕ} (from : s ≡ start b at) where
    here : (r : reading.Stepped) → r ≡ step K x (token_at b s) →
        read_lexicon (lexemes b) ≡ reading.stepped (λ z. read_rows K z (behind_front b s)) K x (front_of b s) r
    here r e =
        sym t.same
        ∙ ap (read_rows K x) (front b at from)
        ∙ ap (reading.stepped (λ z. read_rows K z (behind_front b s)) K x (front_of b s)) (sym e)

    module _ {words' records' : List ℕ} where
      module _ {p' : Stage} {c' n' : ℕ} (h : StepPromise b K p c n s words records words' records' (On p' c' n')) {e : ℕ} (end : e ≡ s + token_size (drop s b)) where
        inside : s < length b
        inside = on-inside b K x s h.same

        pub reading_later : at < e
        reading_later = end-behind b at t.within from end inside

        pub reading_on_lem : Reading b kinds k e p' c' n' words' records'
        reading_on_lem = record {
          known = t.known;
          within = end-inside b at t.within from end;
          tables = h.keeps;
          ahead =
              subst (λ l. Coming K (naming (phase_of p')) c' (tokens_of l)) (behind-inside b end inside)
              (coming_step K x (declaring b p' c' n' words' records') (token_at b s) (tokens_of (behind_front b s))
              (subst (λ l. Coming K (naming (phase_of p)) c (tokens_of l)) (front b at from) t.ahead) (sym h.same));
          same = sym (here _ h.same ∙ ap (read_rows K (declaring b p' c' n' words' records')) (behind-inside b end inside));
        }

      pub reading_fails : {why : Reason} → StepPromise b K p c n s words records words' records' (Fails why) → LexiconPromise b kinds words' records' (Err (record { why = why; at = s }))
      reading_fails {why} h = record { same = here _ h.same; fits = tt }

      pub reading_over : StepPromise b K p c n s words records words' records' Over → {r : LexiconAnswer} → r ≡ ended_of k n at s →
          LexiconPromise b kinds words' records' r
      reading_over h {r} e =
          subst (λ w. LexiconPromise b kinds w records' r) (sym h.keeps.0)
          (subst (λ w. LexiconPromise b kinds words w r) (sym h.keeps.1) (subst (LexiconPromise b kinds words records) (sym e) (reading_ends n t from (here _ h.same))))
