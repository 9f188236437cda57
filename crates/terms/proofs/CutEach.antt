-- CutEach: what holds of each leftover of an entry against a pattern, from what holds step by step.
--
--   EachStep S P Q            P e p c of a leftover c, and Q es ps cs of the terms cs at its places, hold step by step
--   cut-each, cut_each_all    so they hold of each leftover
--
use mathlib.Core.Path.{sym, subst}
use mathlib.Core.List.{map}
use Prim.Native.Nat.{ℕ}
use Rattle.terms.specs.Lists.{All}
use Rattle.terms.specs.Signature.{Signature}
use Rattle.terms.specs.Term.{Term, any, var, app, Terms, nil, cons}
use Rattle.terms.specs.Listing.{others, bare, open_every}
use Rattle.terms.specs.Book.{both, cut, cut_all}
use Rattle.terms.proofs.All.{all_implies, all_append, all_map}
use Rattle.terms.proofs.Fresh.{cut_open}

pub record EachStep (S : Signature) (P : Term → Term → Term → Type 0) (Q : Terms → Terms → Terms → Type 0) : Type 0 where
  -- Against a word, an open entry leaves every other word, and the word where its places leave something. A name is as open.
  pub other : (f : ℕ) (ps : Terms) → All (λ h. P any (app f ps) (bare S h)) (others S f)
  pub opened : (f : ℕ) (ps cs : Terms) → Q (open_every ps) ps cs → P any (app f ps) (app f cs)
  pub named : (n : ℕ) (p c : Term) → P any p c → P (var n) p c
  -- A word leaves something against the same word where their places do.
  pub word : (f h : ℕ) (es ps cs : Terms) → Q es ps cs → P (app f es) (app h ps) (app f cs)
  -- Places leave what their lowest leaves, with the higher ones as in the entry, and what the higher ones leave.
  pub here : (e p c : Term) (es ps : Terms) → P e p c → Q (cons e es) (cons p ps) (cons c es)
  pub above : (e p : Term) (es ps cs : Terms) → Q es ps cs → Q (cons e es) (cons p ps) (cons (both e p) cs)

module _ (S : Signature) (P : Term → Term → Term → Type 0) (Q : Terms → Terms → Terms → Type 0) (E : EachStep S P Q) where
  each-opened : (f : ℕ) (ps : Terms) → All (Q (open_every ps) ps) (cut_all S (open_every ps) ps) → All (P any (app f ps)) (cut S any (app f ps))
  each-opened f ps below =
      subst (All (P any (app f ps))) (sym (cut_open S f ps))
      (all_append (P any (app f ps)) (map (bare S) (others S f)) (map (app f) (cut_all S (open_every ps) ps))
      (all_map (P any (app f ps)) (bare S) (others S f) (E.other f ps))
      (all_map (P any (app f ps)) (app f) (cut_all S (open_every ps) ps)
      (all_implies (Q (open_every ps) ps) _ (E.opened f ps) (cut_all S (open_every ps) ps) below)))

  mutual
    pub cut-each : (p e : Term) → All (P e p) (cut S e p)
    cut-each any any = tt
    cut-each any (var n) = tt
    cut-each any (app f es) = tt
    cut-each (var n) any = tt
    cut-each (var n) (var m) = tt
    cut-each (var n) (app f es) = tt
    cut-each (app h ps) any = each-opened h ps (cut_each_all ps (open_every ps))
    cut-each (app h ps) (var n) =
        all_implies (P any (app h ps)) (P (var n) (app h ps)) (E.named n (app h ps)) (cut S any (app h ps))
        (each-opened h ps (cut_each_all ps (open_every ps)))
    cut-each (app h ps) (app f es) =
        all_map (P (app f es) (app h ps)) (app f) (cut_all S es ps)
        (all_implies (Q es ps) _ (E.word f h es ps) (cut_all S es ps) (cut_each_all ps es))

    pub cut_each_all : (ps es : Terms) → All (Q es ps) (cut_all S es ps)
    cut_each_all nil nil = tt
    cut_each_all nil (cons e es) = tt
    cut_each_all (cons p ps) nil = tt
    cut_each_all (cons p ps) (cons e es) =
        all_append (Q (cons e es) (cons p ps)) (map (λ c. cons c es) (cut S e p)) (map (cons (both e p)) (cut_all S es ps))
        (all_map (Q (cons e es) (cons p ps)) (λ c. cons c es) (cut S e p)
        (all_implies (P e p) _ (λ c. E.here e p c es ps) (cut S e p) (cut-each p e)))
        (all_map (Q (cons e es) (cons p ps)) (cons (both e p)) (cut_all S es ps)
        (all_implies (Q es ps) _ (E.above e p es ps) (cut_all S es ps) (cut_each_all ps es)))
