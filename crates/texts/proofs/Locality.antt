-- Locality: a reader of lexemes looks at what it takes and, where it stops, at the token there, and no further.
--
--   as_lexemes us                  lexemes with the tokens us
--   stands_same, stands-more      the tokens between two places of some lexemes
--   Ended l                       one of the lexemes l is empty: no reader goes on behind it
--   Took read l a r               `read` takes a off l, r stands behind it, and whatever else stood there would not matter
--   Stopped read Can l x          `read` stops in l with the fault x; the tokens before it are such as Can says
--   Ran read Can l y              either of the two, for what `read` gives of l
--   ran_weaker                    less is said of the tokens before a fault
--   ran_then                      a reader behind another
--   ran_cons, ran_fault           a reader that goes on behind the first token, or stops there
--   ran_return                    a reader that takes nothing
--
use mathlib.Core.Path.{◌≡◌, refl, sym, ap, ap₂, ◌∙◌}
use mathlib.Core.Bool.{Bool, true, false, true≢false}
use mathlib.Core.List.{List, [], ◌∷◌, ◌++◌, map}
use mathlib.Core.Logic.{◌⊎◌, inl, inr}
use Prim.Native.Nat.{ℕ, ◌+◌}
use native.Mathlib.Omega.{arith}
use lib.ListN.{length}
use Rattle.texts.specs.Lexemes.{Token, Lexeme}
use Rattle.texts.specs.Faults.{Fault, Parsed, parsed, bad, parse_then}
use Rattle.texts.specs.Laws.{tokens_of}
use Rattle.texts.proofs.Standing.{Stands, stands-append, stands_split}

-- ---- lexemes

abbrev pub as_lexemes : List Token → List Lexeme
as_lexemes us = map (λ (u : Token). record { at = 0; token = u }) us

pub as_tokens : (us : List Token) (r : List Lexeme) → tokens_of (as_lexemes us ++ r) ≡ us ++ tokens_of r
as_tokens [] r = refl
as_tokens (u ∷ us) r = ap (λ (z : List Token). u ∷ z) (as_tokens us r)

pub as_stands : (us : List Token) (r : List Lexeme) → Stands us (as_lexemes us ++ r) r
as_stands [] r = refl
as_stands (u ∷ us) r = (refl, as_stands us r)

stands-length : (us : List Token) (l r : List Lexeme) → Stands us l r → length l ≡ length us + length r
stands-length [] l r h = ap length h ∙ omega arith
stands-length (u ∷ us) [] r h = absurd h
stands-length (u ∷ us) (x ∷ l) r h = let e = stands-length us l r h.1 in omega arith

-- Between the same lexemes the same tokens stand.
pub stands_same : (us ws : List Token) (l r : List Lexeme) → Stands us l r → Stands ws l r → us ≡ ws
stands_same [] [] l r h k = refl
stands_same [] (w ∷ ws) l r h k =
    let a = stands-length [] l r h in let b = stands-length (w ∷ ws) l r k in absurd (omega arith)
stands_same (u ∷ us) [] l r h k =
    let a = stands-length (u ∷ us) l r h in let b = stands-length [] l r k in absurd (omega arith)
stands_same (u ∷ us) (w ∷ ws) [] r h k = absurd h
stands_same (u ∷ us) (w ∷ ws) (x ∷ l) r h k =
    ap₂ {C = List Token} ◌∷◌ (sym h.0 ∙ k.0) (stands_same us ws l r h.1 k.1)

pub stands-more : (us : List Token) (l r m : List Lexeme) → Stands us l r → Stands us (l ++ m) (r ++ m)
stands-more [] l r m h = ap (λ (z : List Lexeme). z ++ m) h
stands-more (u ∷ us) [] r m h = absurd h
stands-more (u ∷ us) (x ∷ l) r m h = (h.0, stands-more us l r m h.1)

abbrev pub Ended : List Lexeme → Type 0
Ended [] = ⊥
Ended (x ∷ l) = (x.token ≡ []) ⊎ Ended l

-- A token that passes a test which the empty one does not pass is not the last.
pub ended-rest : (test : Token → Bool) (x : Lexeme) (l : List Lexeme) → test [] ≡ false → test x.token ≡ true → Ended (x ∷ l) → Ended l
ended-rest test x l n e (inl z) = absurd (true≢false (sym e ∙ (ap test z ∙ n)))
ended-rest test x l n e (inr h) = h

-- ---- what a reader does

pub record Took {A : Type 0} (read : List Lexeme → Parsed A) (l : List Lexeme) (a : A) (r : List Lexeme) : Type 0 where
  pub us : List Token
  pub stands : Stands us l r
  pub ended : Ended r
  pub again : (l' r' : List Lexeme) → Stands us l' r' → read l' ≡ parsed a r'

pub record Stopped {A : Type 0} (read : List Lexeme → Parsed A) (Can : List Token → Type 0) (l : List Lexeme) (x : Fault) : Type 0 where
  pub us : List Token
  pub here : Lexeme
  pub behind : List Lexeme
  pub stands : Stands us l (here ∷ behind)
  pub place : here.at ≡ x.at
  pub can : Can us
  pub never : (l' : List Lexeme) (at : ℕ) (r' : List Lexeme) → Stands us l' (record { at = at; token = here.token } ∷ r') →
      (y : Fault) × (read l' ≡ bad y)

abbrev pub Ran : {A : Type 0} → (List Lexeme → Parsed A) → (List Token → Type 0) → List Lexeme → Parsed A → Type 0
Ran read Can l (parsed a r) = Took read l a r
Ran read Can l (bad x) = Stopped read Can l x

module _ {A : Type 0} (read : List Lexeme → Parsed A) (l : List Lexeme) (Can Can' : List Token → Type 0) (weaker : (us : List Token) → Can us → Can' us) where
  pub ran_weaker : (y : Parsed A) → Ran read Can l y → Ran read Can' l y
  ran_weaker (parsed a r) h = h
  ran_weaker (bad x) h = record {
    us = h.us;
    here = h.here;
    behind = h.behind;
    stands = h.stands;
    place = h.place;
    can = weaker h.us h.can;
    never = h.never;
  }

-- ---- a reader behind another

module _ {A B : Type 0} (read : List Lexeme → Parsed A) (k : A → List Lexeme → Parsed B) (Can : List Token → Type 0) (l : List Lexeme) where
  took_then : (a : A) (r : List Lexeme) (t : Took read l a r) (y : Parsed B) → Ran (k a) (λ ws. Can (t.us ++ ws)) r y →
      Ran (λ l'. parse_then (read l') k) Can l y
  took_then a r t (parsed b q) h = record {
    us = t.us ++ h.us;
    stands = stands-append t.us h.us l r q t.stands h.stands;
    ended = h.ended;
    again = λ l' r' s.
        let cut = stands_split t.us h.us l' r' s in
        ap (λ (z : Parsed A). parse_then z k) (t.again l' cut.0 cut.1) ∙ h.again cut.0 r' cut.2;
  }
  took_then a r t (bad x) h = record {
    us = t.us ++ h.us;
    here = h.here;
    behind = h.behind;
    stands = stands-append t.us h.us l r (h.here ∷ h.behind) t.stands h.stands;
    place = h.place;
    can = h.can;
    never = λ l' at r' s.
        let cut = stands_split t.us h.us l' (record { at = at; token = h.here.token } ∷ r') s in
        let n = h.never cut.0 at r' cut.2 in
        (n.0, ap (λ (z : Parsed A). parse_then z k) (t.again l' cut.0 cut.1) ∙ n.1);
  }

  pub ran_then : (Can' : List Token → Type 0) (y : Parsed A) → Ran read Can' l y → ((us : List Token) → Can' us → Can us) →
      ((a : A) (r : List Lexeme) (t : Took read l a r) → y ≡ parsed a r → Ran (k a) (λ ws. Can (t.us ++ ws)) r (k a r)) →
      Ran (λ l'. parse_then (read l') k) Can l (parse_then y k)
  ran_then Can' (parsed a r) t first behind = took_then a r t (k a r) (behind a r t refl)
  ran_then Can' (bad x) h first behind = record {
    us = h.us;
    here = h.here;
    behind = h.behind;
    stands = h.stands;
    place = h.place;
    can = first h.us h.can;
    never = λ l' at r' s.
        let n = h.never l' at r' s in (n.0, ap (λ (z : Parsed A). parse_then z k) n.1);
  }

-- ---- a reader by its first token

module _ {A : Type 0} (read : List Lexeme → Parsed A) (Can : List Token → Type 0) (x : Lexeme) (l : List Lexeme) where
  pub ran_cons : (below : List Lexeme → Parsed A) →
      ((at : ℕ) (l' : List Lexeme) → read (record { at = at; token = x.token } ∷ l') ≡ below l') → (y : Parsed A) →
      Ran below (λ ws. Can (x.token ∷ ws)) l y → Ran read Can (x ∷ l) y
  ran_cons below same (parsed a r) h = record {
    us = x.token ∷ h.us;
    stands = (refl, h.stands);
    ended = h.ended;
    again = λ l' r' s. again l' r' s;
  }
    where
      again : (l' r' : List Lexeme) → Stands (x.token ∷ h.us) l' r' → read l' ≡ parsed a r'
      again [] r' s = absurd s
      again (y ∷ l') r' s =
          ap (λ (u : Token). read (record { at = y.at; token = u } ∷ l')) s.0 ∙ (same y.at l' ∙ h.again l' r' s.1)
  ran_cons below same (bad f) h = record {
    us = x.token ∷ h.us;
    here = h.here;
    behind = h.behind;
    stands = (refl, h.stands);
    place = h.place;
    can = h.can;
    never = λ l' at r' s. never l' at r' s;
  }
    where
      never : (l' : List Lexeme) (at : ℕ) (r' : List Lexeme) →
          Stands (x.token ∷ h.us) l' (record { at = at; token = h.here.token } ∷ r') → (y : Fault) × (read l' ≡ bad y)
      never [] at r' s = absurd s
      never (y ∷ l') at r' s =
          let n = h.never l' at r' s.1 in
          (n.0, ap (λ (u : Token). read (record { at = y.at; token = u } ∷ l')) s.0 ∙ (same y.at l' ∙ n.1))

  pub ran_fault : (why : ℕ → Fault) → ((why x.at).at ≡ x.at) →
      ((at : ℕ) (l' : List Lexeme) → read (record { at = at; token = x.token } ∷ l') ≡ bad (why at)) → Can [] →
      Stopped read Can (x ∷ l) (why x.at)
  ran_fault why place same can = record {
    us = [];
    here = x;
    behind = l;
    stands = refl;
    place = sym place;
    can = can;
    never = λ l' at r' s. (why at, ap read s ∙ same at r');
  }

pub ran_return : {A : Type 0} (a : A) (l : List Lexeme) → Ended l → Took (λ l'. parsed a l') l a l
ran_return a l e = record { us = []; stands = refl; ended = e; again = λ l' r' s. ap (λ (z : List Lexeme). parsed a z) s }
