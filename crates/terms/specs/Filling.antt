-- Filling: what turns a pattern into a ground term (document 01: filling, fits).
--
--   Binding, Filling        the ground term of each variable, and of each open place from left to right
--   no_ground                what is read off a list that has no such entry
--   value_of bs n            what the bindings bs give the variable n
--   fill_from bs t gs, fill_all bs ts gs   the bindings bs and the ground terms gs put into t, into ts
--   fill p f                the filling f carried out on p
--   SortedEach S gs ks      the ground terms gs have the sorts ks, one each
--   IsFilling S p s f       f is a filling of the pattern p of sort s
--   TurnsInto S p s f g     f is a filling of p, and turns it into g
--   Fits S p s g            some filling turns p into g (document 01: g fits p)
--   FitsOnce S p s g        exactly one filling turns p into g
--
use Rattle.std.specs.Prelude.{◌≡◌, cond, List, [], ◌∷◌, map, ℕ, eqb, get_or, drop}
use Rattle.terms.specs.Lists.{All, distinct}
use Rattle.terms.specs.Signature.{Signature}
use Rattle.terms.specs.Term.{Term, any, var, app, Terms, nil, cons, Ground, gapp, Grounds, gnil, gcons, SortedG, occurrences, names, open_sorts, openings}

pub record Binding : Type 0 where
  pub name : ℕ
  pub value : Ground

pub record Filling : Type 0 where
  pub named : List Binding
  pub opened : List Ground

abbrev pub no_ground : Ground
no_ground = gapp 0 gnil

abbrev pub value_of : List Binding → ℕ → Ground
value_of [] n = no_ground
value_of (b ∷ bs) n = cond (eqb n b.name) b.value (value_of bs n)

-- Document 01: "it puts that term in wherever the name stands, at the open place .. or at the root".
-- The ground terms gs are those of the open places of the term, and of places behind it.
abbrev mutual
  pub fill_from : List Binding → Term → List Ground → Ground
  fill_from bs any gs = get_or gs 0 no_ground
  fill_from bs (var n) gs = value_of bs n
  fill_from bs (app f ts) gs = gapp f (fill_all bs ts gs)

  pub fill_all : List Binding → Terms → List Ground → Grounds
  fill_all bs nil gs = gnil
  fill_all bs (cons t ts) gs = gcons (fill_from bs t gs) (fill_all bs ts (drop (openings t) gs))

abbrev pub fill : Term → Filling → Ground
fill p f = fill_from f.named p f.opened

abbrev pub SortedEach : Signature → List Ground → List ℕ → Type 0
SortedEach S [] [] = Unit {0}
SortedEach S [] (k ∷ ks) = ⊥
SortedEach S (g ∷ gs) [] = ⊥
SortedEach S (g ∷ gs) (k ∷ ks) = SortedG S g k × SortedEach S gs ks

-- Document 01: a filling "gives each of its names, each of its open places and a 255 at its root
-- one complete term of the kind due there, and nothing else". Bindings stand by first occurrence.
pub record IsFilling (S : Signature) (p : Term) (s : ℕ) (f : Filling) : Type 0 where
  pub keys : map (λ b. b.name) f.named ≡ distinct (names p)
  pub bound : All (λ o. SortedG S (value_of f.named o.name) o.sort) (occurrences S p s)
  pub placed : SortedEach S f.opened (open_sorts S p s)

-- The filling f of p, carried out, gives g.
abbrev pub TurnsInto : Signature → Term → ℕ → Filling → Ground → Type 0
TurnsInto S p s f g = IsFilling S p s f × (fill p f ≡ g)

-- Document 01: "A complete situation fits a pattern .. when some filling turns it into that situation."
abbrev pub Fits : Signature → Term → ℕ → Ground → Type 0
Fits S p s g = (f : Filling) × TurnsInto S p s f g

-- A filling that turns p into g, and every filling that does is that one.
pub record FitsOnce (S : Signature) (p : Term) (s : ℕ) (g : Ground) : Type 0 where
  pub filling : Filling
  pub turns : TurnsInto S p s filling g
  pub only : (f : Filling) → TurnsInto S p s f g → f ≡ filling
