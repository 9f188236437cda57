-- Tailing: what is put behind the patterns, kind by kind.
--
--   course-moved               paragraphs that are read by the same names and words
--   listable                   the patterns of a kind are such as a book may have
--   good_phrases               the patterns of good paragraphs are good
--   kind-puts                  what is put for a kind
--   tails_more                 .. behind what is put for others
--   kinds-many                 there are k kinds
--   Tailing                    this was put for the first kinds
--   tailing_none, tailing_turn, tailing_all    how that begins, goes on and ends
--
use mathlib.Core.Path.{◌≡◌, refl, sym, ap, subst, ◌∙◌}
use mathlib.Core.List.{List, [], ◌∷◌, ◌++◌, append-nil, append_assoc}
use Prim.Native.Nat.{ℕ, zero, suc, ◌+◌, ◌<◌, ◌≤◌}
use native.Mathlib.Numerals.{add-one}
use native.Mathlib.Omega.{arith}
use lib.Dec.{eqb}
use lib.ListN.{length, take}
use borrow.Author.Tests.{eqb-true}
use Rattle.terms.specs.Lists.{All}
use Rattle.terms.specs.Term.{Term}
use Rattle.terms.proofs.All.{all_implies, all_map}
use Rattle.wire.specs.Vocabulary.{Vocabulary}
use Rattle.wire.specs.BookBytes.{encode_book, Listable}
use Rattle.wire.proofs.Cond.{choice}
use Rattle.texts.specs.Lexemes.{Token, Lexeme, lexemes_from}
use Rattle.texts.specs.Lexicon.{Lexicon, vocabulary_of}
use Rattle.texts.specs.Phrases.{Phrase, GoodWhole}
use Rattle.texts.specs.Files.{Paragraph, phrases_of, GoodParagraph}
use Rattle.texts.specs.Together.{of_kind}
use Rattle.texts.specs.Tails.{IsTail, AreTails}
use Rattle.texts.proofs.Entries.{phrase-linear}
use Rattle.pages.specs.Pages.{Adds}
use Rattle.pages.proofs.Pages.{adds_then, adds-nothing}
use Rattle.gatherings.specs.declared.Gathered.{Gathered}
use Rattle.gatherings.specs.Courses.{Courses}
use Rattle.gatherings.specs.Gathering.{Gathers}
use Rattle.paragraphs.proofs.Putting.{tables_for}
use Rattle.together.specs.Together.{PutsTogether}
use Rattle.notes.specs.Notes.{PutsNote}
use Rattle.tails.specs.Tails.{Given, PutsKind, PutsTails}

pub course-moved : {K K' N N' : List Token} {W W' : Vocabulary} → K ≡ K' → N ≡ N' → W ≡ W' → (l : List Lexeme) (qs : List Paragraph) →
    Courses K N W l qs → Courses K' N' W' l qs
course-moved {K} {K'} {N} {N'} {W} {W'} e f g l qs c =
    subst (λ (K : List Token). Courses K N' W' l qs) e
    (subst (λ (N : List Token). Courses K N W' l qs) f (subst (λ (W : Vocabulary). Courses K N W l qs) g c))

-- ---- the patterns of a kind

listable : (X : Lexicon) (s : ℕ) (ps : List Phrase) → All (GoodWhole X) ps → All (Listable (vocabulary_of X) s) (of_kind s ps)
listable X s [] h = tt
listable X s (p ∷ ps) h =
    let others = listable X s ps h.1 in
    choice (All (Listable (vocabulary_of X) s)) (eqb p.kind s) (p.term ∷ of_kind s ps) (of_kind s ps)
    (λ e. (subst (λ k. Listable (vocabulary_of X) k p.term) (eqb-true p.kind s e) own, others)) (λ e. others)
  where
    own : Listable (vocabulary_of X) p.kind p.term
    own = record { holds = h.0.phrase.term; linear = phrase-linear X p.variables p.kind p.term h.0.phrase }

pub good_phrases : (X : Lexicon) (qs : List Paragraph) → All (GoodParagraph X) qs → All (GoodWhole X) (phrases_of qs)
good_phrases X qs h =
    all_map (GoodWhole X) (λ (q : Paragraph). q.phrase) qs
    (all_implies (GoodParagraph X) (λ q. GoodWhole X q.phrase) (λ q g. g.phrase) qs h)

module _ {b : List ℕ} {at : ℕ} {ks : List ℕ} {k : ℕ} {ws : List ℕ} {n : ℕ} {r ps v : List ℕ} {m s : ℕ} where
  pub kind-puts : {book bytes page noted page' : List ℕ} {g : Gathered} {to next to' : ℕ} → PutsNote b ks v s page to noted next →
      Gathers b at ks k ws n r m s book g → (g.size ≤ 262145 → bytes ≡ take g.size book) →
      PutsTogether b ks ws ps v s g.count bytes noted next page' to' → PutsKind b at ks k ws n r ps v m s page to page' to'
  kind-puts note gathers front put = record {
    puts = λ X qs ls g few.
        let st = g.stands in
        let course = course-moved (sym st.kinds) (sym st.words) (sym st.vocabulary) (lexemes_from b at) qs g.due.course in
        let got = gathers.gathers qs g.readable g.due.count course in
        let tables = tables_for st [] 0 g.places refl in
        let said = note.puts X st.good few (tables.kinds s few) g.bytes in
        let left =
        put.puts X (of_kind s (phrases_of qs)) st.good few tables g.bytes got.0
        (listable X s (phrases_of qs) (good_phrases X qs g.due.goods))
        (λ most. front gathers.room ∙ got.1 most ∙ ap (λ (W : Vocabulary). encode_book W s (of_kind s (phrases_of qs))) st.vocabulary) in
        (said.0 ++ left.0, (said.0, left.0, said.1, left.1, refl), adds_then said.2 left.2);
  }

-- ---- the kinds

tails_more : (X : Lexicon) (ps : List Phrase) (a n : ℕ) (done : List ℕ) {here : List ℕ} → AreTails X ps a n done → {s : ℕ} → s ≡ a + n →
    IsTail X ps s here → AreTails X ps a (suc n) (done ++ here)
tails_more X ps a zero done {here} e {s} is one = (
  here,
  [],
  subst (λ i. IsTail X ps i here) (omega (arith, is)) one,
  refl,
  ap (λ (l : List ℕ). l ++ here) e ∙ sym (append-nil here),
)
tails_more X ps a (suc n) done {here} (first, behind, one, more, e) {s} is last = (
  first,
  behind ++ here,
  one,
  tails_more X ps (suc a) n behind more (omega (arith, is)) last,
  ap (λ (l : List ℕ). l ++ here) e ∙ append_assoc first behind here,
)

kinds-many : {b : List ℕ} {at : ℕ} {ks : List ℕ} {k : ℕ} {ws : List ℕ} {n : ℕ} {r ps v : List ℕ} {m : ℕ} {X : Lexicon} {qs : List Paragraph} {ls : List (List Term)} →
    Given b at ks k ws n r ps v m X qs ls → k ≡ length X
kinds-many g = ap (λ (W : Vocabulary). W.kinds) g.stands.vocabulary

pub record Tailing (b : List ℕ) (at : ℕ) (ks : List ℕ) (k : ℕ) (ws : List ℕ) (n : ℕ) (r ps v : List ℕ) (m : ℕ) (page₀ : List ℕ) (to₀ s to : ℕ) (page : List ℕ) : Type 0 where
  pub below : s ≤ k
  pub goes : (X : Lexicon) (qs : List Paragraph) (ls : List (List Term)) → Given b at ks k ws n r ps v m X qs ls →
      (done : List ℕ) × AreTails X (phrases_of qs) 0 s done × Adds page₀ to₀ page to done

module _ {b : List ℕ} {at : ℕ} {ks : List ℕ} {k : ℕ} {ws : List ℕ} {n : ℕ} {r ps v : List ℕ} {m : ℕ} {page₀ : List ℕ} {to₀ : ℕ} where
  pub tailing_none : Tailing b at ks k ws n r ps v m page₀ to₀ 0 to₀ page₀
  tailing_none = record { below = omega arith; goes = λ X qs ls g. ([], refl, adds-nothing page₀ to₀) }

  module _ {s to : ℕ} {page : List ℕ} (h : Tailing b at ks k ws n r ps v m page₀ to₀ s to page) where
    pub tailing_turn : s < k → {page' : List ℕ} {to' : ℕ} → PutsKind b at ks k ws n r ps v m s page to page' to' →
        Tailing b at ks k ws n r ps v m page₀ to₀ (s + 1) to' page'
    tailing_turn more put = record {
      below = omega arith;
      goes = λ X qs ls g.
          let had = h.goes X qs ls g in
          let new = put.puts X qs ls g (omega (arith, kinds-many g)) in (
            had.0 ++ new.0,
            subst (λ i. AreTails X (phrases_of qs) 0 i (had.0 ++ new.0)) (sym (add-one s))
                (tails_more X (phrases_of qs) 0 s had.0 had.1 (omega arith) new.1),
            adds_then had.2 new.2,
          );
    }

    pub tailing_all : k ≤ s → PutsTails b at ks k ws n r ps v m page₀ to₀ page to
    tailing_all none = record {
      puts = λ X qs ls g.
          let had = h.goes X qs ls g in
          let b = h.below in
          let many : s ≡ length X = omega (arith, kinds-many g) in
          (had.0, subst (λ i. AreTails X (phrases_of qs) 0 i had.0) many had.1, had.2);
    }
