-- EmptyExample: what is listed where a sort is empty: the readings' example of document 02 (iv).
--
--   S                      sorts 0 and 1, of which 1 is empty, and the words a, g(0, 1) and h(0) of sort 0
--   part_missing           g(a, _), which nothing fits, lists 255 alone
--   book_keeps             .. and in a book it changes nothing
--   other_left_out         a lists h(_) alone: nothing fits g(_, _)
--   deep_left_out          h(a) lists a and h(h(_)): neither g(_, _) nor h(g(_, _)) stands there
--   after-each             {a, h(a)} leaves h(h(_)) alone
--   no-situation           of sort 1 nothing is listed, by 255 and by a name
--   no_start               a book of sort 1 starts with no entry
--
use mathlib.Core.Path.{◌≡◌, refl}
use mathlib.Core.List.{List, [], ◌∷◌}
use Prim.Native.Nat.{ℕ}
use Rattle.terms.specs.Signature.{Symbol, Signature}
use Rattle.terms.specs.Term.{Term, any, var, app, nil, cons}
use Rattle.terms.specs.Productive.{listing_of, book_listing_of}

abbrev word : List ℕ → Symbol
word ks = record { result = 0; arguments = ks }

abbrev S : Signature
S = record { sorts = 2; symbols = word [] ∷ word (0 ∷ 1 ∷ []) ∷ word (0 ∷ []) ∷ [] }

abbrev a : Term
a = app 0 nil

abbrev g : Term → Term → Term
g t u = app 1 (cons t (cons u nil))

abbrev h : Term → Term
h t = app 2 (cons t nil)

part_missing : listing_of S 0 (g a any) ≡ any ∷ []
part_missing = refl

book_keeps : book_listing_of S 0 (g a any ∷ []) ≡ any ∷ []
book_keeps = refl

other_left_out : listing_of S 0 a ≡ h any ∷ []
other_left_out = refl

deep_left_out : listing_of S 0 (h a) ≡ a ∷ h (h any) ∷ []
deep_left_out = refl

after-each : book_listing_of S 0 (a ∷ h a ∷ []) ≡ h (h any) ∷ []
after-each = refl

no-situation : listing_of S 1 any ≡ []
no-situation = refl

no_situation_name : listing_of S 1 (var 3) ≡ []
no_situation_name = refl

no_start : book_listing_of S 1 (any ∷ []) ≡ []
no_start = refl
