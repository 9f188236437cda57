-- Side: the two terms that are due first, and the turn at an open place.
--
--   Facing x p s spans m ms i j    they are as the mark m says, and the rest as the marks ms
--   facing, facing_shut            the first two of marked terms, and of shut ones
--   facing_inside                  a written term has a byte
--   due                            they have one sort
--   stands                         the second stands in the situation
--   situation-behind, situation-inside    what stands behind it
--   turn_open                      an open place takes the part
--   open_all                       where the pattern ends, open places take the rest of the situation
--
use mathlib.Core.Path.{◌≡◌, refl, sym, ap, subst, ◌∙◌}
use mathlib.Core.Bool.{true, false, not, true≢false}
use mathlib.Core.List.{List, [], ◌∷◌}
use Prim.Native.Nat.{ℕ, ◌+◌, ◌<◌, ◌≤◌}
use native.Mathlib.Omega.{arith}
use lib.ListN.{length, length-drop, length-append, drop}
use lib.Seq.{drop-drop, drop_at}
use Rattle.terms.specs.Term.{Term, any, var, app, Terms, nil, cons, Ground, Grounds, gnil, gcons, SortedAll, SortedGs, as_term, as_terms}
use Rattle.terms.specs.Matcher.{with_open}
use Rattle.terms.proofs.Bools.{or_parts}
use Rattle.wire.specs.Vocabulary.{Vocabulary, signature, InOrder}
use Rattle.wire.specs.Map.{is_open}
use Rattle.wire.specs.TermBytes.{encode_at, encode_all}
use Rattle.wire.specs.GapComputed.{some_open}
use Rattle.wire.specs.Matching.{Inputs, size}
use Rattle.spans.specs.Spans.{Standing}
use Rattle.spans.specs.Walking.{Side, Shut}
use Rattle.spans.proofs.Marks.{Mark, Marked}

pub record Facing (x : Inputs) (p s spans : List ℕ) (m : Mark) (ms : List Mark) (i j : ℕ) : Type 0 where
  pub term : Term
  pub terms : Terms
  pub ground : Ground
  pub grounds : Grounds
  pub side : Side x p s spans (cons term terms) (gcons ground grounds) i j
  pub marked : Marked (cons term terms) (m ∷ ms)

no-ground : (W : Vocabulary) (t : Term) (ts : Terms) (ks : List ℕ) → SortedAll (signature W) (cons t ts) ks → SortedGs (signature W) gnil ks → ⊥
no-ground W t ts [] h k = h
no-ground W t ts (x ∷ ks) h k = k

module _ {x : Inputs} {p s spans : List ℕ} {i j : ℕ} where
  pub facing : {ts : Terms} {gs : Grounds} {m : Mark} {ms : List Mark} → Side x p s spans ts gs i j → Marked ts (m ∷ ms) → Facing x p s spans m ms i j
  facing {ts = nil} c k = absurd k
  facing {ts = cons t ts} {gs = gnil} c k = absurd (no-ground x.vocabulary t ts c.sorts c.sorted c.sorted_grounds)
  facing {ts = cons t ts} {gs = gcons g gs} c k = record { term = t; terms = ts; ground = g; grounds = gs; side = c; marked = k }

  pub facing_shut : {ts : Terms} {gs : Grounds} → Side x p s spans ts gs i j → Shut ts → i < length p →
      Facing x p s spans (record { written = true; level = 0 }) [] i j
  facing_shut {ts = nil} c k l = absurd (omega (arith, length-drop i p, ap length c.pattern))
  facing_shut {ts = cons t ts} c k l =
      let shut = or_parts (is_open t) (some_open ts) k.written in
      let deep = k.shallow in
      facing c (ap not shut.0, omega arith, record { written = shut.1; shallow = omega arith })

  -- A written term has a byte.
  pub facing_inside : {l : ℕ} {ms : List Mark} → Facing x p s spans (record { written = true; level = l }) ms i j → i < length p
  facing_inside {l} {ms} f = go f.term f.side f.marked
    where
      go : (t : Term) → Side x p s spans (cons t f.terms) (gcons f.ground f.grounds) i j →
          Marked (cons t f.terms) (record { written = true; level = l } ∷ ms) → i < length p
      go any c m = absurd (true≢false (sym m.0))
      go (var n) c m = omega (arith, length-drop i p, ap length c.pattern)
      go (app k us) c m = omega (arith, length-drop i p, ap length c.pattern)

-- What is due first has one sort.
pub record Firsts (W : Vocabulary) (t : Term) (ts : Terms) (g : Ground) (gs : Grounds) (k : ℕ) (ks : List ℕ) : Type 0 where
  pub term : SortedAll (signature W) (cons t ts) (k ∷ ks)
  pub ground : SortedGs (signature W) (gcons g gs) (k ∷ ks)

pub firsts : (W : Vocabulary) (t : Term) (ts : Terms) (g : Ground) (gs : Grounds) (ks : List ℕ) → SortedAll (signature W) (cons t ts) ks →
    SortedGs (signature W) (gcons g gs) ks → (k : ℕ) × ((js : List ℕ) × Firsts W t ts g gs k js)
firsts W t ts g gs [] h k = absurd h
firsts W t ts g gs (x ∷ ks) h k = (x, (ks, record { term = h; ground = k }))

module _ {x : Inputs} {p s spans : List ℕ} {t : Term} {ts : Terms} {g : Ground} {gs : Grounds} {i j : ℕ}
    (c : Side x p s spans (cons t ts) (gcons g gs) i j) where
  abbrev W : Vocabulary
  W = x.vocabulary

  abbrev pub due : (k : ℕ) × ((js : List ℕ) × Firsts W t ts g gs k js)
  due = firsts W t ts g gs c.sorts c.sorted c.sorted_grounds

  abbrev pub stands : InOrder W → Standing s j
  stands in_order = record {
    vocabulary = W;
    in_order = in_order;
    ground = g;
    sort = due.0;
    sorted = due.1.1.ground.0;
    behind = encode_all W (as_terms gs);
    stands = c.situation;
    inside = c.inside_situation;
  }

  pub situation-behind : drop (j + size W g) s ≡ encode_all W (as_terms gs)
  situation-behind =
      sym (drop-drop (size W g) j s) ∙ ap (drop (size W g)) c.situation
      ∙ drop_at (encode_at W (as_term g)) (encode_all W (as_terms gs)) (size W g) refl

  pub situation-inside : j + size W g ≤ length s
  situation-inside =
      omega (arith, c.inside_situation, length-drop j s, ap length c.situation, length-append (encode_at W (as_term g)) (encode_all W (as_terms gs)))

-- ---- an open place

pub turn_open : {x : Inputs} {p s spans : List ℕ} {t : Term} {ts : Terms} {g : Ground} {gs : Grounds} {i j : ℕ} →
    Side x p s spans (cons t ts) (gcons g gs) i j → not (is_open t) ≡ false → Side x p s spans ts gs i (j + size x.vocabulary g)
turn_open {t = any} {g = g} c e = record {
  filling = with_open c.filling g;
  sorts = (due c).1.0;
  sorted = (due c).1.1.term.1;
  sorted_grounds = (due c).1.1.ground.1;
  named = c.named;
  outcome = c.outcome;
  pattern = c.pattern;
  situation = situation-behind c;
  told = c.told;
  reported = c.reported;
  blank = c.blank;
  inside_pattern = c.inside_pattern;
  inside_situation = situation-inside c;
  span_entries = c.span_entries;
}
turn_open {t = var n} c e = absurd (true≢false e)
turn_open {t = app k us} c e = absurd (true≢false e)

-- ---- nothing but open places

no-term : (W : Vocabulary) (g : Ground) (gs : Grounds) (ks : List ℕ) → SortedAll (signature W) nil ks → SortedGs (signature W) (gcons g gs) ks → ⊥
no-term W g gs [] h k = k
no-term W g gs (x ∷ ks) h k = h

-- Behind the last byte of the pattern open places take the rest of the situation.
pub open_all : {x : Inputs} {p s spans : List ℕ} (ts : Terms) {gs : Grounds} {i j : ℕ} → Side x p s spans ts gs i j → i ≡ length p →
    Side x p s spans nil gnil i (length s)
open_all {x} {p} {s} {spans} nil {gs = gnil} {i = i} {j = j} c e =
    let inside = c.inside_situation in
    let whole : j ≡ length s = omega (arith, length-drop j s, ap length c.situation) in
    subst (λ j. Side x p s spans nil gnil i j) whole c
open_all {x} nil {gs = gcons g gs} c e = absurd (no-term x.vocabulary g gs c.sorts c.sorted c.sorted_grounds)
open_all {x} (cons t ts) {gs = gnil} c e = absurd (no-ground x.vocabulary t ts c.sorts c.sorted c.sorted_grounds)
open_all (cons any ts) {gs = gcons g gs} c e = open_all ts (turn_open c refl) e
open_all {p = p} (cons (var n) ts) {gs = gcons g gs} {i = i} c e = absurd (omega (arith, length-drop i p, ap length c.pattern))
open_all {p = p} (cons (app k us) ts) {gs = gcons g gs} {i = i} c e = absurd (omega (arith, length-drop i p, ap length c.pattern))
