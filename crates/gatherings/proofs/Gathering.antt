-- Gathering: the patterns of a kind are gathered one by one.
--
--   row_none                   a book of one byte has no patterns
--   same_kind, other-kind      one paragraph more
--   Remains                    what stands to be gathered, and what was
--   Going                      i of m paragraphs were read, and the others stand from the offset at on
--   going_none, going-stuck, going-short, going_turn, going-all     how that begins, goes on and ends
--   gathers                    the count is written at the end
--
use mathlib.Core.Path.{◌≡◌, refl, sym, ap, subst, ◌∙◌}
use mathlib.Core.List.{List, [], ◌∷◌, ◌++◌, append-nil, append_assoc}
use Prim.Native.Nat.{ℕ, ◌+◌, ◌-◌, ◌<◌, ◌≤◌}
use native.Mathlib.Omega.{arith}
use native.Mathlib.Decide.{ℕ_discrete}
use lib.ListN.{length, take}
use borrow.Author.Tests.{eq-eqb, ne_eqb}
use Rattle.terms.specs.Term.{Term}
use Rattle.wire.specs.Vocabulary.{Vocabulary}
use Rattle.wire.specs.TermBytes.{encode_term, most_bytes}
use Rattle.wire.specs.BookBytes.{most_patterns, patterns_bytes}
use Rattle.wire.proofs.Cond.{cond_true, cond_false}
use Rattle.texts.specs.Lexemes.{Lexeme, lexemes_from}
use Rattle.texts.specs.Files.{Paragraph}
use Rattle.texts.specs.Tabled.{names_in, tabled_vocabulary}
use Rattle.gatherings.specs.Courses.{Courses}
use Rattle.gatherings.specs.Gathering.{patterns_in, Gathers, OneTo, ReadsOne, Sized, row_in, Keeps, GathersRow, Seals}
use Rattle.gatherings.specs.declared.Gathered.{Gathered}
use Rattle.gatherings.specs.declared.One.{One}
use Rattle.faults.specs.declared.Fault.{Fault}
use Rattle.std.specs.Prelude.{Result, Ok, Err}
use Rattle.gatherings.proofs.Appending.{sealed}

row_none : (book : List ℕ) → row_in 1 book ≡ []
row_none [] = refl
row_none (x ∷ book) = refl

module _ (s : ℕ) (q : Paragraph) (qs : List Paragraph) where
  same_kind : q.phrase.kind ≡ s → patterns_in s (q ∷ qs) ≡ q.phrase.term ∷ patterns_in s qs
  same_kind e = cond_true _ _ _ (eq-eqb q.phrase.kind s e)

  other-kind : (q.phrase.kind ≡ s → ⊥) → patterns_in s (q ∷ qs) ≡ patterns_in s qs
  other-kind not = cond_false _ _ _ (ne_eqb q.phrase.kind s not)

module _ (b : List ℕ) (from : ℕ) (ks : List ℕ) (k : ℕ) (ws : List ℕ) (n : ℕ) (r : List ℕ) (m s : ℕ) where
  abbrev W : Vocabulary
  W = tabled_vocabulary k n r

  abbrev StandFrom : ℕ → List Paragraph → Type 0
  StandFrom at qs = Courses (names_in b (take k ks)) (names_in b (take n ws)) W (lexemes_from b at) qs

  pub record Remains (qs : List Paragraph) (left at count size : ℕ) (book : List ℕ) : Type 0 where
    pub others : List Paragraph
    pub many : length others ≡ left
    pub course : StandFrom at others
    pub counted : length (patterns_in s qs) ≡ count + length (patterns_in s others)
    pub bytes : count ≤ most_patterns → patterns_bytes W s (patterns_in s qs) ≡ row_in size book ++ patterns_bytes W s (patterns_in s others)

  pub record Going (i at count size : ℕ) (book : List ℕ) : Type 0 where
    pub inside : at ≤ length b
    pub below : i ≤ m
    pub most : count ≤ i
    pub sized : Sized count size
    pub goes : (qs : List Paragraph) → length qs ≡ m → StandFrom from qs → Remains qs (m - i) at count size book

  pub going_none : from ≤ length b → (book : List ℕ) → Going 0 from 0 1 book
  going_none h book = record {
    inside = h;
    below = omega arith;
    most = omega arith;
    sized = record { some = omega arith; few = omega arith; room = omega arith };
    goes = λ qs many course. record {
      others = qs;
      many = omega (arith, many);
      course = course;
      counted = omega arith;
      bytes = λ _. sym (ap (λ (l : List ℕ). l ++ patterns_bytes W s (patterns_in s qs)) (row_none book));
    };
  }

  module _ {i at count size : ℕ} {book : List ℕ} (h : Going i at count size book) where
    pub going-all : m ≤ i → GathersRow b from ks k ws n r m s book (record { count = count; size = size })
    going-all none = record {
      sized = h.sized;
      gathers = λ qs many course. let rest = h.goes qs many course in end qs rest.others rest.many rest.counted rest.bytes;
    }
      where
        end : (qs others : List Paragraph) → length others ≡ m - i → length (patterns_in s qs) ≡ count + length (patterns_in s others) →
            (count ≤ most_patterns → patterns_bytes W s (patterns_in s qs) ≡ row_in size book ++ patterns_bytes W s (patterns_in s others)) →
            (count ≡ length (patterns_in s qs)) × (count ≤ most_patterns → row_in size book ≡ patterns_bytes W s (patterns_in s qs))
        end qs [] many counted bytes = (omega arith, λ few. sym (bytes few ∙ append-nil (row_in size book)))
        end qs (q ∷ others) many counted bytes = absurd (omega arith)

    module _ (more : i < m) (o : List ℕ) where
      -- A paragraph that stands there is read.
      pub going-stuck : (one : Result One Fault) → ((x : One) → one ≡ Ok x → ⊥) → ReadsOne b at ks k ws n r o one → GathersRow b from ks k ws n r m s book (record { count = count; size = size })
      going-stuck (Ok x) none read = absurd (none x refl)
      going-stuck (Err x) none read = record {
        sized = h.sized;
        gathers = λ qs many course.
            let rest = h.goes qs many course in
            never rest.others rest.many rest.course;
      }
        where
          never : {A : Type 0} (others : List Paragraph) → length others ≡ m - i → StandFrom at others → A
          never [] many course = absurd (omega arith)
          never (q ∷ others) many course = absurd (read q course.0 course.1)

      module _ {x : One} (reads : ReadsOne b at ks k ws n r o (Ok x)) where
        abbrev kind : ℕ
        kind = x.kind

        abbrev bytes : ℕ
        bytes = x.size

        abbrev e : ℕ
        e = x.at

        pub going-short : bytes ≤ most_bytes
        going-short = reads.0

        module _ {book' : List ℕ} {g : Gathered} (keeps : Keeps kind s o bytes book count size book' g) where
          kept-one : {qs : List Paragraph} (q : Paragraph) (l : List Lexeme) (others : List Paragraph) → OneTo b k n r o q l kind bytes e →
              length others + 1 ≡ m - i → StandFrom e others → length (patterns_in s qs) ≡ count + length (patterns_in s (q ∷ others)) →
              (count ≤ most_patterns → patterns_bytes W s (patterns_in s qs) ≡ row_in size book ++ patterns_bytes W s (patterns_in s (q ∷ others))) →
              Remains qs (m - (i + 1)) e g.count g.size book'
          kept-one {qs} q l others one many course counted is = elim (ℕ_discrete kind s) [ yes same ↦ here same | no not ↦ there not ]
            where
              here : kind ≡ s → Remains qs (m - (i + 1)) e g.count g.size book'
              here same =
                  let all = same_kind s q others (one.same ∙ same) in
                  let now : g.count ≡ count + 1 = keeps.counts same in
                  let first : take bytes o ≡ encode_term W s q.phrase.term =
                  one.bytes ∙ ap (λ (j : ℕ). encode_term W j q.phrase.term) (one.same ∙ same) in
                  record {
                    others = others;
                    many = omega arith;
                    course = course;
                    counted = omega (arith, ap length all);
                    bytes = λ few.
                        is (omega arith)
                        ∙ ap (λ (ts : List Term). row_in size book ++ patterns_bytes W s ts) all
                        ∙ ap (λ (u : List ℕ). row_in size book ++ (u ++ patterns_bytes W s (patterns_in s others))) (sym first)
                        ∙ sym (append_assoc (row_in size book) (take bytes o) (patterns_bytes W s (patterns_in s others)))
                        ∙ ap (λ (u : List ℕ). u ++ patterns_bytes W s (patterns_in s others)) (sym (keeps.keeps same (omega arith)));
                  }

              there : (kind ≡ s → ⊥) → Remains qs (m - (i + 1)) e g.count g.size book'
              there not =
                  let all = other-kind s q others (λ same. not (sym one.same ∙ same)) in
                  let now : g.count ≡ count = (keeps.other not).0 in
                  record {
                    others = others;
                    many = omega arith;
                    course = course;
                    counted = omega (arith, ap length all);
                    bytes = λ few.
                        is (omega arith)
                        ∙ ap (λ (ts : List Term). row_in size book ++ patterns_bytes W s ts) all
                        ∙ ap (λ (u : List ℕ). u ++ patterns_bytes W s (patterns_in s others)) (sym (keeps.other not).1);
                  }

          turn : (qs others : List Paragraph) → length others ≡ m - i → StandFrom at others → length (patterns_in s qs) ≡ count + length (patterns_in s others) →
              (count ≤ most_patterns → patterns_bytes W s (patterns_in s qs) ≡ row_in size book ++ patterns_bytes W s (patterns_in s others)) →
              Remains qs (m - (i + 1)) e g.count g.size book'
          turn qs [] many course counted is = absurd (omega arith)
          turn qs (q ∷ others) many course counted is =
              let one = reads.2 q course.0 course.1 in
              kept-one q course.0 others one (omega arith)
              (subst (λ (l : List Lexeme). Courses (names_in b (take k ks)) (names_in b (take n ws)) W l others) one.behind course.2) counted is

          pub going_turn : Going (i + 1) e g.count g.size book'
          going_turn = record {
            inside = reads.1;
            below = omega arith;
            most = omega (arith, h.most, keeps.most);
            sized = keeps.sized;
            goes = λ qs many course. let rest = h.goes qs many course in turn qs rest.others rest.many rest.course rest.counted rest.bytes;
          }

  -- ---- the count byte

  pub gathers : {book book' : List ℕ} {g : Gathered} → GathersRow b from ks k ws n r m s book g → Seals g.count book book' →
      Gathers b from ks k ws n r m s book' g
  gathers {book} {book'} {g} row seals = record {
    room = row.sized.room;
    gathers = λ qs readable many course.
        let told = row.gathers qs many course in (
          told.0,
          λ few.
              ap (take g.size) (seals.seals few)
              ∙ sealed book g.size g.count row.sized.some (omega (arith, seals.long))
              ∙ ap (λ (c : ℕ). c ∷ row_in g.size book) told.0
              ∙ ap (λ (l : List ℕ). length (patterns_in s qs) ∷ l) (told.1 few),
        );
  }
