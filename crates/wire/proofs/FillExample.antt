-- FillExample: what is computed of fill, on examples worked out from document 02 and its readings by hand.
use mathlib.Core.Path.{◌≡◌, refl}
use mathlib.Core.List.{List, [], ◌∷◌, ◌++◌}
use Prim.Native.Nat.{ℕ}
use lib.ListN.{replicate}
use Rattle.wire.specs.Reply.{Reply, accepted, refused}
use Rattle.wire.specs.FillComputed.{filled}

abbrev C : List ℕ
C = 1 ∷ 3 ∷ 0 ∷ 0 ∷ 0 ∷ 0 ∷ 0 ∷ 3 ∷ 0 ∷ 0 ∷ []

-- The bit map of names 0 to 7 alone.
abbrev low : ℕ → List ℕ
low m = m ∷ replicate 7 0

abbrev gives : List ℕ → List ℕ → List ℕ → Reply → List ℕ → Type 0
gives p b out r after = filled C p b out ≡ record { reply = r; after = after }

-- pair(n0, n0) with a: a name that stands twice is written twice, and a byte behind the result stays.
twice : gives (0 ∷ 2 ∷ 3 ∷ 128 ∷ 128 ∷ []) (low 1 ++ (0 ∷ 0 ∷ [])) (replicate 8 9) (accepted (7 ∷ [])) (0 ∷ 2 ∷ 3 ∷ 0 ∷ 0 ∷ 0 ∷ 0 ∷ 9 ∷ [])
twice = refl

-- pair(n3, _): the open place stays open.
open_stays : gives (0 ∷ 2 ∷ 1 ∷ 131 ∷ []) (low 8 ++ (1 ∷ 0 ∷ [])) (replicate 5 9) (accepted (5 ∷ [])) (0 ∷ 2 ∷ 1 ∷ 1 ∷ 0 ∷ [])
open_stays = refl

-- 255 with an empty map.
whole : gives (0 ∷ 255 ∷ []) (low 0) (replicate 2 9) (accepted (2 ∷ [])) (0 ∷ 255 ∷ [])
whole = refl

no_room : gives (0 ∷ 2 ∷ 3 ∷ 128 ∷ 128 ∷ []) (low 1 ++ (0 ∷ 0 ∷ [])) (replicate 6 9) (refused 20 3 7) (replicate 6 9)
no_room = refl

missing : gives (0 ∷ 2 ∷ 3 ∷ 128 ∷ 130 ∷ []) (low 1 ++ (0 ∷ 0 ∷ [])) [] (refused 21 4 2) []
missing = refl

extra : gives (0 ∷ 128 ∷ []) (low 9 ++ (0 ∷ 0 ∷ [])) [] (refused 21 4 3) []
extra = refl

-- A short map that also differs.
short : gives (0 ∷ 128 ∷ []) (0 ∷ 1 ∷ []) [] (refused 21 4 0) []
short = refl

-- `02 01 00 00`: a short written map, at that map.
short_map : gives (0 ∷ 128 ∷ []) (low 1 ++ (2 ∷ 1 ∷ 0 ∷ 0 ∷ [])) [] (refused 22 4 9) []
short_map = refl

cut_in_map : gives (0 ∷ 128 ∷ []) (low 1 ++ (0 ∷ [])) [] (refused 22 4 9) []
cut_in_map = refl

cut_in_term : gives (0 ∷ 128 ∷ []) (low 1 ++ (2 ∷ 3 ∷ 0 ∷ 0 ∷ [])) [] (refused 22 4 12) []
cut_in_term = refl

named : gives (0 ∷ 128 ∷ []) (low 1 ++ (2 ∷ 3 ∷ 0 ∷ 0 ∷ 128 ∷ [])) [] (refused 22 4 12) []
named = refl

follows : gives (0 ∷ 128 ∷ []) (low 1 ++ (0 ∷ 0 ∷ 0 ∷ [])) [] (refused 22 4 10) []
follows = refl

bare : gives (0 ∷ 255 ∷ []) (low 0 ++ (0 ∷ [])) [] (refused 22 4 8) []
bare = refl

-- Two names, ascending: n1 gets what stands second, though it stands first in the pattern.
two : gives (0 ∷ 2 ∷ 3 ∷ 129 ∷ 128 ∷ []) (low 3 ++ (0 ∷ 0 ∷ 1 ∷ 0 ∷ [])) (replicate 7 9) (accepted (7 ∷ [])) (0 ∷ 2 ∷ 3 ∷ 1 ∷ 0 ∷ 0 ∷ 0 ∷ [])
two = refl

-- The pattern's own lines come first.
pattern : gives (0 ∷ 2 ∷ 3 ∷ 128 ∷ []) [] [] (refused 9 1 4) []
pattern = refl
