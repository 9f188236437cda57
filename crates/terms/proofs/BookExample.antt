-- BookExample: what books over document 01's vocabulary C leave.
--
--   C                      document 01's vocabulary C as a signature: one sort, and the words a, b and pair
--   narrow_first           {pair(a, b), pair(_, b)} leaves 8 entries
--   wide_first             .. and in the other order 4, the narrower pattern taking nothing more
--   once_is_enough         the same pattern twice leaves what it leaves once
--   name_takes_all         a name leaves nothing
--   named-place            pair(n3, b) leaves a, b, pair(_, a) and pair(_, pair(_, _)): no entry has the name
--
use mathlib.Core.Path.{◌≡◌, refl}
use mathlib.Core.List.{List, [], ◌∷◌}
use Prim.Native.Nat.{ℕ}
use lib.ListN.{length}
use Rattle.terms.specs.Signature.{Symbol, Signature}
use Rattle.terms.specs.Term.{Term, any, var, app, nil, cons}
use Rattle.terms.specs.Book.{book_listing}

abbrev word : List ℕ → Symbol
word ks = record { result = 0; arguments = ks }

abbrev C : Signature
C = record { sorts = 1; symbols = word [] ∷ word [] ∷ word (0 ∷ 0 ∷ []) ∷ [] }

abbrev a : Term
a = app 0 nil

abbrev b : Term
b = app 1 nil

abbrev pair : Term → Term → Term
pair t u = app 2 (cons t (cons u nil))

narrow_first : length (book_listing C (pair a b ∷ pair any b ∷ [])) ≡ 8
narrow_first = refl

wide_first : length (book_listing C (pair any b ∷ pair a b ∷ [])) ≡ 4
wide_first = refl

once_is_enough : book_listing C (pair a b ∷ pair a b ∷ []) ≡ book_listing C (pair a b ∷ [])
once_is_enough = refl

name_takes_all : book_listing C (var 3 ∷ []) ≡ []
name_takes_all = refl

named-place : book_listing C (pair (var 3) b ∷ []) ≡ a ∷ b ∷ pair any a ∷ pair any (pair any any) ∷ []
named-place = refl
