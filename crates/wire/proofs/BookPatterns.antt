-- BookPatterns: a pattern of a book is read exactly where it is one that list accepts, of the kind of those before it, and is refused by lines 7 to 14, 18 and 25.
--
--   KindFits o k              the kind k is that of the patterns before, which is o, if there are any
--   GoodPattern W o x         what is accepted behind these
--   pattern_inverse           reading it is inverse to writing it
--   PatternStop W o b n q     the number n with the place q is given for the pattern that begins b
--   pattern-stops, stops-pattern   it is given exactly there
--
use mathlib.Core.Path.{◌≡◌, refl, sym, ap, ◌∙◌, subst}
use mathlib.Core.List.{List, [], ◌++◌}
use mathlib.Core.Option.{Option, some, none}
use Prim.Native.Nat.{ℕ, ◌+◌}
use native.Mathlib.Omega.{arith}
use lib.Dec.{eqb}
use lib.ListN.{length, drop, length-append, length-drop}
use borrow.Author.Tests.{eqb-true, eqb-false, eq-eqb, ne_eqb}
use Rattle.terms.specs.Term.{Term}
use Rattle.wire.specs.Reply.{IsBytes, Kinded, kinded}
use Rattle.wire.specs.Vocabulary.{Vocabulary, InOrder}
use Rattle.wire.specs.TermBytes.{encode_term, HoldsTerm}
use Rattle.wire.specs.PatternLines.{sightings, RepeatedAt}
use Rattle.wire.specs.BookBytes.{Listable}
use Rattle.wire.specs.BookLines.{FrontDecides}
use Rattle.wire.specs.Parser.{Got, got, stop, and_then}
use Rattle.wire.specs.ListComputed.{repeated_in}
use Rattle.wire.specs.BookComputed.{read_front, line18, line25, read_pattern}
use Rattle.wire.proofs.Cond.{cond_true, cond_false, choice}
use Rattle.wire.proofs.Inverse.{ReadOff, Inverse}
use Rattle.wire.proofs.Repeats.{repeated_is_exact, repeated_inside, unrepeated_is_linear}
use Rattle.wire.proofs.FrontReading.{front_bytes, HoldsFront, front_inverse}
use Rattle.wire.proofs.FrontLines.{FrontJudged, front-judged, stops-front}

abbrev pub KindFits : Option ℕ → ℕ → Type 0
KindFits none k = Unit {0}
KindFits (some s) k = k ≡ s

abbrev pub GoodPattern : Vocabulary → Option ℕ → Kinded → Type 0
GoodPattern W o x = Listable W x.kind x.term × KindFits o x.kind

pub data PatternStop (W : Vocabulary) (o : Option ℕ) (b : List ℕ) : ℕ → ℕ → Type 0 where
  front : (n q : ℕ) → FrontDecides W b n q → PatternStop W o b n q
  twice : (k : ℕ) (t : Term) (r : List ℕ) (q : ℕ) → b ≡ encode_term W k t ++ r → HoldsTerm W (encode_term W k t) k t →
      RepeatedAt (sightings W t) q → PatternStop W o b 18 q
  other_kind : (s k : ℕ) (t : Term) (r : List ℕ) → o ≡ some s → b ≡ encode_term W k t ++ r → Listable W k t → (k ≡ s → ⊥) →
      PatternStop W o b 25 0

module _ (W : Vocabulary) (o : Option ℕ) where
  -- Lines 18 and 25, once the front of b is read as g.
  abbrev judged_as : List ℕ → Got Kinded → Got Kinded
  judged_as b g = and_then (and_then g (λ x r. line18 b x r (repeated_in [] (sightings W x.term)))) (line25 o b)

  -- What is read behind a front, where a name stands twice and where none does.
  behind18 : (b : List ℕ) (x : Kinded) (r : List ℕ) (u : Option ℕ) → repeated_in [] (sightings W x.term) ≡ u →
      judged_as b (got x r) ≡ and_then (line18 b x r u) (line25 o b)
  behind18 b x r u e = ap (λ z. and_then (line18 b x r z) (line25 o b)) e

fits25 : (o : Option ℕ) (b : List ℕ) (x : Kinded) (r : List ℕ) → KindFits o x.kind → line25 o b x r ≡ got x r
fits25 none b x r h = refl
fits25 (some s) b x r h = cond_true (eqb x.kind s) _ _ (eq-eqb x.kind s h)

module _ (W : Vocabulary) (in_order : InOrder W) (o : Option ℕ) where
  read-written : (b : List ℕ) (x : Kinded) (r : List ℕ) → b ≡ front_bytes W x ++ r → HoldsFront W x → read_front W b ≡ got x r
  read-written b x r written holds = ap (read_front W) written ∙ (front_inverse W in_order).written x r holds

  read-pattern : (x : Kinded) (r : List ℕ) → GoodPattern W o x → read_pattern W o (front_bytes W x ++ r) ≡ got x r
  read-pattern x r (good, fits) =
      ap (judged_as W o (front_bytes W x ++ r)) (read-written _ x r refl good.holds)
      ∙ behind18 W o (front_bytes W x ++ r) x r none ((unrepeated_is_linear W x.term).1 good.linear)
      ∙ fits25 o (front_bytes W x ++ r) x r fits

  -- ---- what is given

  abbrev PatternJudged : List ℕ → Got Kinded → Type 0
  PatternJudged b (got x r) = GoodPattern W o x × (b ≡ front_bytes W x ++ r)
  PatternJudged b (stop n r) = (q : ℕ) × PatternStop W o b n q × (q + length r ≡ length b)

  pattern-judged : (b : List ℕ) → IsBytes b → PatternJudged b (read_pattern W o b)
  pattern-judged b bytes = go (read_front W b) ((front_inverse W in_order).read b bytes) (front-judged W in_order b)
    where
      kind : (x : Kinded) (r : List ℕ) (u : Option ℕ) → u ≡ o → Listable W x.kind x.term → b ≡ front_bytes W x ++ r → PatternJudged b (line25 u b x r)
      kind x r none e good written = ((good, subst (λ u. KindFits u x.kind) e tt), written)
      kind x r (some s) e good written =
          choice (PatternJudged b) (eqb x.kind s) (got x r) (stop 25 b)
          (λ t. ((good, subst (λ u. KindFits u x.kind) e (eqb-true x.kind s t)), written))
          (λ t. (0, other_kind s x.kind x.term r (sym e) written good (eqb-false x.kind s t), omega arith))

      names : (x : Kinded) (r : List ℕ) (u : Option ℕ) → repeated_in [] (sightings W x.term) ≡ u → HoldsFront W x → b ≡ front_bytes W x ++ r →
          PatternJudged b (and_then (line18 b x r u) (line25 o b))
      names x r (some q) e holds written =
          let again = (repeated_is_exact (sightings W x.term) q).0 e in
          let inside = repeated_inside W x.kind x.term q again in (
            q,
            twice x.kind x.term r q written holds again,
            omega (arith, length-drop q b, ap length written, length-append (front_bytes W x) r),
          )
      names x r none e holds written = kind x r o refl (record { holds = holds; linear = (unrepeated_is_linear W x.term).0 e }) written

      go : (g : Got Kinded) → ReadOff (front_bytes W) (HoldsFront W) b g → FrontJudged W b g → PatternJudged b (judged_as W o b g)
      go (got x r) (holds, written) clear = names x r (repeated_in [] (sightings W x.term)) refl holds written
      go (stop n r) h (q, decides, placed) = (q, front n q decides, placed)

  pub pattern_inverse : Inverse (read_pattern W o) (front_bytes W) (GoodPattern W o)
  pattern_inverse = record { written = read-pattern; read = λ b bytes. off b (read_pattern W o b) (pattern-judged b bytes) }
    where
      off : (b : List ℕ) (g : Got Kinded) → PatternJudged b g → ReadOff (front_bytes W) (GoodPattern W o) b g
      off b (got x r) h = h
      off b (stop n r) h = tt

  -- A number is given exactly where its line is the one, at its place.
  pub pattern-stops : (b : List ℕ) → IsBytes b → (n : ℕ) (r : List ℕ) → read_pattern W o b ≡ stop n r →
      (q : ℕ) × PatternStop W o b n q × (q + length r ≡ length b)
  pattern-stops b bytes n r e = subst (PatternJudged b) e (pattern-judged b bytes)

  pub stops-pattern : (b : List ℕ) {n q : ℕ} → PatternStop W o b n q → (r : List ℕ) × (read_pattern W o b ≡ stop n r) × (q + length r ≡ length b)
  stops-pattern b (front n q d) =
      let s = stops-front W in_order b n q d in
      (s.0, ap (judged_as W o b) s.1, s.2)
  stops-pattern b (twice k t r q written holds again) = (
    drop q b,
    ap (judged_as W o b) (read-written b (kinded k t) r written holds) ∙ behind18 W o b (kinded k t) r (some q) ((repeated_is_exact (sightings W t) q).1 again),
    omega (arith, length-drop q b, ap length written, length-append (encode_term W k t) r, repeated_inside W k t q again),
  )
  stops-pattern b (other_kind s k t r e written good differs) = (
    b,
    ap (judged_as W o b) (read-written b (kinded k t) r written good.holds)
        ∙ behind18 W o b (kinded k t) r none ((unrepeated_is_linear W t).1 good.linear)
        ∙ ap (λ u. line25 u b (kinded k t) r) e ∙ cond_false (eqb k s) _ _ (ne_eqb k s differs),
    omega arith,
  )
