-- Root: a name or 255 at the root covers the whole situation.
--
--   root-whole      255
--   root-known      a name's number is low
--   root-covered    a name
--
use mathlib.Core.Path.{◌≡◌, refl, sym, ap, ◌∙◌}
use mathlib.Core.Bool.{true, false, true≢false}
use mathlib.Core.List.{List, []}
use Prim.Native.Nat.{ℕ, ◌+◌, ◌-◌, ◌*◌, ◌<◌, ◌≤◌}
use native.Mathlib.Omega.{arith}
use lib.ListN.{length, get_or, replicate, length-drop, get_or-replicate}
use Rattle.terms.specs.Term.{Term, any, var, app, nil, cons, gnil, gcons}
use Rattle.terms.specs.Matcher.{matcher}
use Rattle.wire.specs.GapComputed.{some_open}
use Rattle.wire.specs.Matching.{Inputs, size}
use Rattle.wire.specs.MatchComputed.{span_table}
use Rattle.wire.proofs.Words.{length_symbols}
use Rattle.spans.specs.Spans.{with_span}
use Rattle.spans.specs.Walking.{InputsRead, found, Walked, WalkedOver, Side}
use Rattle.spans.proofs.Offsets.{one_byte}
use Rattle.spans.proofs.Side.{due, situation-behind, situation-inside}
use Rattle.spans.proofs.Names.{AtName, name-known, name-first}
use Rattle.spans.proofs.Begin.{root_open, side-begins, root-shut, side-ends}

pub root-whole : (p s spans : List ℕ) → spans ≡ replicate 128 0 → get_or p 1 0 ≡ 255 → Walked p s spans true
root-whole p s spans blank e a =
    let x = a.inputs in
    record {
      answer = sym (ap (λ t. found (matcher t x.situation)) (root_open a e));
      table = λ q. blank ∙ sym (ap (λ t. span_table x.vocabulary t x.situation) (root_open a e));
    }

module _ (p s spans : List ℕ) (blank : spans ≡ replicate 128 0) (high : 128 ≤ get_or p 1 0) (named : get_or p 1 0 ≡ 255 → ⊥) (a : InputsRead p s) where
  abbrev x : Inputs
  x = a.inputs

  -- A name is due, and nothing else.
  record Alone : Type 0 where
    name : ℕ
    side : Side x p s spans (cons (var name) nil) (gcons x.situation gnil) 1 1

  alone : Alone
  alone = go x.pattern (rw blank (side-begins a named)) (root-shut a named).written
    where
      go : (t : Term) → Side x p s spans (cons t nil) (gcons x.situation gnil) 1 1 → some_open (cons t nil) ≡ false → Alone
      go any c e = absurd (true≢false e)
      go (var n) c e = record { name = n; side = c }
      go (app f ts) c e =
          absurd (omega (arith, (one_byte p 1 _ _ c.pattern).first, (due c).1.1.term.0.0, length_symbols x.vocabulary, a.held.vocabulary.in_order.few_words))

  abbrev at-root : AtName x p s spans [] 1 1
  at-root = record {
    name = alone.name;
    terms = nil;
    ground = x.situation;
    grounds = gnil;
    side = alone.side;
    rest = record { written = refl; shallow = omega arith };
  }

  pub root-known : get_or p 1 0 - 128 < 64
  root-known = name-known at-root

  pub root-covered : {after : List ℕ} {b : ℕ} → b ≡ get_or p 1 0 → after ≡ with_span spans (b - 128) 1 (length s - 1) → WalkedOver x after true
  root-covered {after} byte set = side-ends (name-first at-root after (length s) ends new (rw byte at set))
    where
      ends : length s ≡ 1 + size x.vocabulary x.situation
      ends =
          let c = alone.side in
          omega (arith, situation-inside c, length-drop (1 + size x.vocabulary x.situation) s, ap length (situation-behind c))

      new : get_or spans (2 * (get_or p 1 0 - 128) + 1) 0 ≡ 0
      new =
          ap (λ l. get_or l (2 * (get_or p 1 0 - 128) + 1) 0) blank
          ∙ get_or-replicate 128 (2 * (get_or p 1 0 - 128) + 1) 0 0 (omega (arith, root-known))
