-- Begin: what is due before the first turn of a walk, and what follows where nothing is due any more.
--
--   root_open                   the byte 255 at the root is an open place
--   side-begins, root-shut      another root is due, and is shut
--   side-ends                   nothing is due: there is a filling, and the spans are those of the table
--   going-begins, going-ends    the walk from the root, and at the pattern's last byte
--   walked_none                 there is no filling
--
use mathlib.Core.Path.{◌≡◌, refl, sym, ap, ap₂, ◌∙◌, subst}
use mathlib.Core.Bool.{Bool, true, false, cond, false≢true}
use mathlib.Core.List.{List, [], ◌∷◌, append-nil}
use mathlib.Core.Option.{Option, some, none}
use Prim.Native.Nat.{ℕ, zero, suc, ◌+◌, ◌*◌, ◌/◌, ◌%◌, ◌<◌, ◌≤◌}
use native.Mathlib.Omega.{arith}
use lib.Dec.{eqb}
use lib.ListN.{length, get_or, drop, replicate, get_or-replicate}
use lib.Seq.{ext_get_or}
use borrow.Author.Tests.{eqb-true}
use Rattle.terms.specs.Lists.{All, or_else}
use Rattle.terms.specs.Term.{Term, any, var, app, nil, cons, Ground, Grounds, gnil, gcons, Sorted, SortedAll, SortedGs, names, as_term}
use Rattle.terms.specs.Filling.{Filling}
use Rattle.terms.specs.Matcher.{match_all, matcher, no_filling}
use Rattle.terms.proofs.Ground.{sorted-ground}
use Rattle.wire.specs.Map.{is_open}
use Rattle.wire.specs.Vocabulary.{Vocabulary, signature}
use Rattle.wire.specs.TermBytes.{name_count, encode_at, encode_all, encode_root}
use Rattle.wire.specs.Matching.{Inputs, Span, or_no_span, span_from, span_in}
use Rattle.wire.specs.MatchComputed.{span_table}
use Rattle.wire.proofs.Words.{length_symbols}
use Rattle.wire.proofs.GroundBytes.{root-ground}
use Rattle.wire.proofs.SpanTable.{length-table, table-span}
use Rattle.spans.specs.Spans.{span_at, Told}
use Rattle.spans.specs.Walking.{InputsRead, found, Walked, WalkedOver, Side, Shut, Going}
use Rattle.spans.proofs.Joined.{onward, match_first}
use Rattle.spans.proofs.Noted.{span-new}
use Rattle.spans.proofs.Side.{open_all}

-- ---- the beginning

abbrev blank : List ℕ
blank = replicate 128 0

blank-at : (k : ℕ) → k < 128 → get_or blank k 0 ≡ 0
blank-at k l = get_or-replicate 128 k 0 0 l

onward_some : (o : Option Filling) → onward o (match_all nil gnil) ≡ o
onward_some none = refl
onward_some (some f) = refl

else_nothing : (o : Option Span) → or_else o none ≡ o
else_nothing none = refl
else_nothing (some x) = refl

root-bytes : (W : Vocabulary) (t : Term) → is_open t ≡ false → encode_root W t ≡ encode_all W (cons t nil)
root-bytes W any e = absurd (false≢true (sym e))
root-bytes W (var n) e = refl
root-bytes W (app f ts) e = sym (append-nil (encode_at W (app f ts)))

module _ {p s : List ℕ} (a : InputsRead p s) where
  abbrev x : Inputs
  x = a.inputs

  abbrev W : Vocabulary
  W = x.vocabulary

  root-byte : get_or p 1 0 ≡ get_or (encode_root W x.pattern) 0 0
  root-byte = ap (λ l. get_or l 1 0) a.held.pattern.written

  pub root_open : get_or p 1 0 ≡ 255 → x.pattern ≡ any
  root_open e = go x.pattern (sym root-byte ∙ e) a.held.pattern.good.named a.held.pattern.good.sorted.sorted
    where
      go : (t : Term) → get_or (encode_root W t) 0 0 ≡ 255 → All (λ n. n < name_count) (names t) → Sorted (signature W) t x.kind → t ≡ any
      go any b h k = refl
      go (var n) b h k = absurd (let low = h.0 in omega arith)
      go (app f ts) b h k = absurd (let low = k.0 in omega (arith, length_symbols W, a.held.vocabulary.in_order.few_words))

  root-written : (get_or p 1 0 ≡ 255 → ⊥) → is_open x.pattern ≡ false
  root-written d = go x.pattern (λ e. d (root-byte ∙ e))
    where
      go : (t : Term) → (get_or (encode_root W t) 0 0 ≡ 255 → ⊥) → is_open t ≡ false
      go any d = absurd (d refl)
      go (var n) d = refl
      go (app f ts) d = refl

  module _ (other : get_or p 1 0 ≡ 255 → ⊥) where
    pub side-begins : Side x p s blank (cons x.pattern nil) (gcons x.situation gnil) 1 1
    side-begins = record {
      filling = no_filling;
      sorts = x.kind ∷ [];
      sorted = (a.held.pattern.good.sorted.sorted, tt);
      sorted_grounds = (sorted-ground (signature W) x.situation x.kind a.held.situation.good.sorted.sorted, tt);
      named = subst (All (λ n. n < name_count)) (sym (append-nil (names x.pattern))) a.held.pattern.good.named;
      outcome = match_first x.pattern nil x.situation gnil no_filling ∙ onward_some (matcher x.pattern x.situation);
      pattern = ap (drop 1) a.held.pattern.written ∙ root-bytes W x.pattern (root-written other);
      situation = ap (drop 1) a.held.situation.written ∙ root-ground W x.situation ∙ sym (append-nil (encode_at W (as_term x.situation)));
      told = λ n l. subst (λ o. Told W s o none) (sym (span-new blank n (blank-at (2 * n + 1) (omega arith)))) tt;
      reported = λ n l.
          ap (λ o. or_else o (or_else (span_from W x.pattern x.situation n 1) none)) (span-new blank n (blank-at (2 * n + 1) (omega arith)))
          ∙ else_nothing (span_from W x.pattern x.situation n 1);
      blank = λ n l e. blank-at (2 * n) (omega arith);
      inside_pattern = let long = a.held.pattern.limits.least in omega arith;
      inside_situation = let long = a.held.situation.limits.least in omega arith;
      span_entries = refl;
    }

    pub root-shut : Shut (cons x.pattern nil)
    root-shut = record {
      written = rw (root-written other) refl;
      shallow = let deep = a.held.pattern.limits.levels in omega arith;
    }

pub going-begins : (p s spans : List ℕ) → spans ≡ replicate 128 0 → get_or p 1 0 < 128 → Going p s spans 1 1
going-begins p s spans e low a =
    let other : get_or p 1 0 ≡ 255 → ⊥ = (λ q. omega arith) in
    record {
      terms = cons a.inputs.pattern nil;
      grounds = gcons a.inputs.situation gnil;
      side = rw e (side-begins a other);
      shut = λ l. root-shut a other;
    }

-- ---- the end

noted-span : (spans : List ℕ) (n : ℕ) (b : Bool) → eqb (get_or spans (2 * n + 1) 0) 0 ≡ b →
    (get_or spans (2 * n + 1) 0 ≡ 0 → get_or spans (2 * n) 0 ≡ 0) → or_no_span (cond b none (some (span_in spans n))) ≡ span_in spans n
noted-span spans n true e h =
    let zero = eqb-true (get_or spans (2 * n + 1) 0) 0 e in
    ap₂ {C = Span} (λ o l. record { offset = o; bytes = l }) (sym (h zero)) (sym zero)
noted-span spans n false e h = refl

-- Two tables of 128 numbers are equal where they give each name the same span.
spans-same : (a b : List ℕ) → length a ≡ 128 → length b ≡ 128 → ((n : ℕ) → n < name_count → span_in a n ≡ span_in b n) → a ≡ b
spans-same a b la lb h = ext_get_or 0 a b (la ∙ sym lb) (λ k l. go k (omega arith) (k / 2) (k % 2) (omega arith) (omega arith))
  where
    go : (k : ℕ) → k < 128 → (n r : ℕ) → k ≡ 2 * n + r → r < 2 → get_or a k 0 ≡ get_or b k 0
    go k l n zero e q =
        let same : 2 * n ≡ k = omega arith in
        subst (λ k. get_or a k 0 ≡ get_or b k 0) same (ap (λ x. x.offset) (h n (omega arith)))
    go k l n (suc zero) e q =
        let same : 2 * n + 1 ≡ k = omega arith in
        subst (λ k. get_or a k 0 ≡ get_or b k 0) same (ap (λ x. x.bytes) (h n (omega arith)))
    go k l n (suc (suc r)) e q = absurd (omega arith)

pub no-term : (W : Vocabulary) (g : Ground) (gs : Grounds) (ks : List ℕ) → SortedAll (signature W) nil ks → SortedGs (signature W) (gcons g gs) ks → ⊥
no-term W g gs [] h k = k
no-term W g gs (x ∷ ks) h k = h

table-all : {x : Inputs} {p s spans : List ℕ} {i j : ℕ} → Side x p s spans nil gnil i j → spans ≡ span_table x.vocabulary x.pattern x.situation
table-all {x} {spans = spans} c =
    spans-same spans (span_table x.vocabulary x.pattern x.situation) c.span_entries (length-table x.vocabulary x.pattern x.situation)
    (λ n l. sym (noted-span spans n (eqb (get_or spans (2 * n + 1) 0) 0) refl (c.blank n l))
    ∙ ap or_no_span (sym (else_nothing (span_at spans n)) ∙ c.reported n l)
    ∙ sym (table-span x.vocabulary x.pattern x.situation n l))

pub side-ends : {x : Inputs} {p s spans : List ℕ} {gs : Grounds} {i j : ℕ} → Side x p s spans nil gs i j → WalkedOver x spans true
side-ends {gs = gnil} c = record { answer = ap found c.outcome; table = λ q. table-all c }
side-ends {x} {gs = gcons g gs} c = absurd (no-term x.vocabulary g gs c.sorts c.sorted c.sorted_grounds)

pub going-ends : {p s spans : List ℕ} {i j : ℕ} → Going p s spans i j → length p ≤ i → Walked p s spans true
going-ends c over a =
    let inside = (c a).side.inside_pattern in
    side-ends (open_all (c a).terms (c a).side (omega arith))

pub walked_none : {x : Inputs} {spans : List ℕ} → matcher x.pattern x.situation ≡ none → WalkedOver x spans false
walked_none e = record { answer = sym (ap found e); table = λ q. absurd (false≢true q) }
