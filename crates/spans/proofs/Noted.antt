-- Noted: what is noted of a name, and what noting another part changes.
--
--   NotYet, Noted              no part is noted for a name, which is unbound; one is, and it holds what the name is bound to
--   noted_cases                one of the two
--   span-new, span-noted       the span noted in either case
--   holding_inside             a span that holds a term lies in the situation
--   set-length, set_elsewhere, set-span, set_other    the spans with one name's span set
--
use mathlib.Core.Path.{◌≡◌, refl, sym, ap, ap₂, ◌∙◌}
use mathlib.Core.Bool.{Bool, true, false, cond, false≢true}
use mathlib.Core.List.{List}
use mathlib.Core.Logic.{◌≢◌, ◌⊎◌, inl, inr}
use mathlib.Core.Option.{Option, some, none}
use Prim.Native.Nat.{ℕ, ◌+◌, ◌*◌, ◌<◌, ◌≤◌}
use native.Mathlib.Omega.{arith}
use lib.Dec.{eqb}
use lib.ListN.{length, get_or, set, length-set, length-drop, length-append}
use lib.Seq.{get_or-set_same, get_or-set_other}
use borrow.Author.Tests.{eqb-true, eq-eqb, ne_eqb}
use Rattle.terms.specs.Term.{Ground, as_term}
use Rattle.wire.specs.Vocabulary.{Vocabulary}
use Rattle.wire.specs.TermBytes.{encode_at}
use Rattle.wire.specs.Matching.{Span, span_in}
use Rattle.wire.proofs.GroundBytes.{size-least}
use Rattle.spans.specs.Spans.{with_span, noted, span_at, Holding, Told}

pub record NotYet (spans : List ℕ) (o : Option Ground) (n : ℕ) : Type 0 where
  pub zero : get_or spans (2 * n + 1) 0 ≡ 0
  pub unbound : o ≡ none

pub record Noted (W : Vocabulary) (s spans : List ℕ) (o : Option Ground) (n : ℕ) : Type 0 where
  pub long : get_or spans (2 * n + 1) 0 ≡ 0 → ⊥
  pub ground : Ground
  pub bound : o ≡ some ground
  pub holding : Holding W s (span_in spans n) ground

pub noted_cases : (W : Vocabulary) (s spans : List ℕ) (o : Option Ground) (n : ℕ) → Told W s (span_at spans n) o →
    NotYet spans o n ⊎ Noted W s spans o n
noted_cases W s spans o n h = go o (eqb (get_or spans (2 * n + 1) 0) 0) refl h
  where
    go : (o : Option Ground) (b : Bool) → eqb (get_or spans (2 * n + 1) 0) 0 ≡ b → Told W s (cond b none (some (span_in spans n))) o →
        NotYet spans o n ⊎ Noted W s spans o n
    go none true e h = inl (record { zero = eqb-true (get_or spans (2 * n + 1) 0) 0 e; unbound = refl })
    go none false e h = absurd h
    go (some g) true e h = absurd h
    go (some g) false e h = inr (record {
      long = λ z. false≢true (sym e ∙ eq-eqb (get_or spans (2 * n + 1) 0) 0 z);
      ground = g;
      bound = refl;
      holding = h;
    })

pub span-new : (spans : List ℕ) (n : ℕ) → get_or spans (2 * n + 1) 0 ≡ 0 → span_at spans n ≡ none
span-new spans n e = ap (λ b. cond b none (some (span_in spans n))) (eq-eqb (get_or spans (2 * n + 1) 0) 0 e)

pub span-noted : (spans : List ℕ) (n : ℕ) → (get_or spans (2 * n + 1) 0 ≡ 0 → ⊥) → span_at spans n ≡ some (span_in spans n)
span-noted spans n d = ap (λ b. cond b none (some (span_in spans n))) (ne_eqb (get_or spans (2 * n + 1) 0) 0 d)

pub holding_inside : (W : Vocabulary) (s : List ℕ) (x : Span) (h : Ground) → Holding W s x h → x.offset + x.bytes ≤ length s
holding_inside W s x h c =
    let l = c.long in
    omega (arith, size-least W h, length-drop x.offset s, ap length c.stands, length-append (encode_at W (as_term h)) c.behind)

-- ---- the spans with one name's span set

module _ (spans : List ℕ) (n at l : ℕ) (long : length spans ≡ 128) (low : n < 64) where
  pub set-length : get_or (with_span spans n at l) (2 * n + 1) 0 ≡ l
  set-length = get_or-set_same (set spans (2 * n) at) (2 * n + 1) l 0 (omega (arith, length-set spans (2 * n) at))

  pub set-offset : get_or (with_span spans n at l) (2 * n) 0 ≡ at
  set-offset =
      let apart : 2 * n ≢ 2 * n + 1 = (λ e. omega arith) in
      get_or-set_other (set spans (2 * n) at) (2 * n + 1) (2 * n) l 0 apart ∙ get_or-set_same spans (2 * n) at 0 (omega arith)

  pub set_elsewhere : (k : ℕ) → (k ≡ 2 * n → ⊥) → (k ≡ 2 * n + 1 → ⊥) → get_or (with_span spans n at l) k 0 ≡ get_or spans k 0
  set_elsewhere k d e =
      let apart : k ≢ 2 * n = d in
      let apart2 : k ≢ 2 * n + 1 = e in
      get_or-set_other (set spans (2 * n) at) (2 * n + 1) k l 0 apart2 ∙ get_or-set_other spans (2 * n) k at 0 apart

  pub set-span : (l ≡ 0 → ⊥) → span_at (with_span spans n at l) n ≡ some (record { offset = at; bytes = l })
  set-span d =
      ap₂ {C = Option Span} (λ a b. noted b (record { offset = a; bytes = b })) set-offset set-length
      ∙ ap (λ b. cond b none (some (record { offset = at; bytes = l }))) (ne_eqb l 0 d)

  pub set_other : (m : ℕ) → (m ≡ n → ⊥) → span_at (with_span spans n at l) m ≡ span_at spans m
  set_other m d =
      ap₂ {C = Option Span} (λ a b. noted b (record { offset = a; bytes = b }))
      (set_elsewhere (2 * m) (λ e. d (omega arith)) (λ e. omega arith))
      (set_elsewhere (2 * m + 1) (λ e. omega arith) (λ e. d (omega arith)))
