-- FillComputed: the reply of document 02's call "fill" and the lent slice after it, computed.
--
-- This file is an algorithm, and nothing in it has to be believed: FillingsInverse, FillingRefusals, FillKeeps and FillFixed
-- (Laws) fix what it gives.
--
--   full_slots W f              the places of the word f, all of them written
--   full_map W f l m            behind the word f, whose map was read off l as m: it must be the place map
--   full_word W k l             a word of kind k with its whole map, off the front of l
--   take_first n gs, drop_first n gs   the first n of gs, and those behind
--   with_node n f gs            the first n of gs put below the word f
--   read_full W fuel due l      complete terms for what is due, read off the bytes l
--   read_values W due l         the same with a step for each byte, and one to end
--   bindings ns gs             the names ns bound to the terms gs
--   apart a b                  two truth values differ
--   unlike b t                 the names at which the map of b and the set of names in t differ
--   line22 b ns g              line 22 behind the last value, once the values are read as g
--   read_filling W s t b        a filling file for the pattern t of kind s
--   FillJudged                 inputs in order, or a refusal's number, input and place
--   judged_filling, fill_pattern, fill_vocabulary, fill_judged v p b   the inputs of fill, in the order in which they are judged
--   fill_clear j                the reply that says whether the inputs are in order, with the pattern's deepest level
--   ValuesIn x starts depths   tables that tell where the value of each name begins and ends in the filling file, and how many
--                              levels it has
--   large x                    the result passes a limit
--   filled_into, filled_with, filled v p b out   the reply of fill, and the lent slice after it
--
use Rattle.std.specs.Prelude.{◌≡◌, Bool, true, false, not, ◌&&◌, ◌||◌, cond, List, [], ◌∷◌, ◌++◌, ℕ, zero, suc, ◌+◌, ◌<◌, eqb, ltb, length, get_or, drop}
use Rattle.std.proofs.Math.Option.{Option, some, none}
use Rattle.terms.specs.Lists.{occurs, range, keep}
use Rattle.terms.specs.Term.{Term, gapp, Grounds, gnil, gcons, as_term, names}
use Rattle.terms.specs.Filling.{Binding, value_of}
use Rattle.terms.specs.Emptiness.{first}
use Rattle.wire.specs.Reply.{Reply, accepted, refused, Kinded}
use Rattle.wire.specs.Map.{MapRead, map_got, map_missing, read_map, flags, Slot, slots}
use Rattle.wire.specs.Vocabulary.{Vocabulary, word, map_of}
use Rattle.wire.specs.TermBytes.{name_count, levels, deepest, most_bytes, most_levels}
use Rattle.wire.specs.TermLines.{Due, due_at}
use Rattle.wire.specs.Matching.{size}
use Rattle.wire.specs.FillingFile.{name_map_bytes, ascending}
use Rattle.wire.specs.FillingLines.{name_stands, values_due}
use Rattle.wire.specs.Filled.{FillInputs, filled_term, filled_bytes}
use Rattle.wire.specs.Effect.{Effect}
use Rattle.wire.specs.Parser.{Reading, accept, refuse, Got, got, stop, and_then, offset, is_word, read_vocabulary}
use Rattle.wire.specs.CheckComputed.{checked_term}

abbrev pub full_slots : Vocabulary → ℕ → List Slot
full_slots W f = slots (flags (map_of W f)) (flags (map_of W f)) (word W f).kinds

abbrev pub full_map : Vocabulary → ℕ → List ℕ → MapRead → Got ℕ
full_map W f l (map_missing r) = stop 22 r
full_map W f l (map_got m r) = cond (eqb m (map_of W f)) (got f r) (stop 22 l)

abbrev pub full_word : Vocabulary → ℕ → List ℕ → Got ℕ
full_word W k [] = stop 22 []
full_word W k (f ∷ l) = cond (is_word W f && eqb (word W f).result k) (full_map W f l (read_map l)) (stop 22 (f ∷ l))

abbrev pub take_first : ℕ → Grounds → Grounds
take_first zero gs = gnil
take_first (suc n) gnil = gnil
take_first (suc n) (gcons g gs) = gcons g (take_first n gs)

abbrev pub drop_first : ℕ → Grounds → Grounds
drop_first zero gs = gs
drop_first (suc n) gnil = gnil
drop_first (suc n) (gcons g gs) = drop_first n gs

abbrev pub with_node : ℕ → ℕ → Grounds → Grounds
with_node n f gs = gcons (gapp f (take_first n gs)) (drop_first n gs)

abbrev pub read_full : Vocabulary → ℕ → List Due → List ℕ → Got Grounds
read_full W zero due l = stop 22 l
read_full W (suc n) [] l = got gnil l
read_full W (suc n) (d ∷ ds) l =
    elim (ltb most_levels d.level) [
      | true ↦ stop 22 l
      | false ↦
          and_then (full_word W d.sort l)
          (λ f r.
          and_then (read_full W n (due_at (suc d.level) (full_slots W f) ++ ds) r)
          (λ gs r'. got (with_node (length (word W f).kinds) f gs) r'))
    ]

abbrev pub read_values : Vocabulary → List Due → List ℕ → Got Grounds
read_values W due l = read_full W (suc (length l)) due l

abbrev pub bindings : List ℕ → Grounds → List Binding
bindings [] gs = []
bindings (n ∷ ns) gnil = []
bindings (n ∷ ns) (gcons g gs) = record { name = n; value = g } ∷ bindings ns gs

abbrev pub apart : Bool → Bool → Bool
apart true b = not b
apart false b = b

abbrev pub unlike : List ℕ → Term → List ℕ
unlike b t = keep (λ n. apart (name_stands b n) (occurs n (names t))) (range 0 name_count)

abbrev pub line22 : List ℕ → List ℕ → Got Grounds → Reading (List Binding)
line22 b ns (stop n r) = refuse n (offset b r)
line22 b ns (got gs []) = accept (bindings ns gs)
line22 b ns (got gs (x ∷ r)) = refuse 22 (offset b (x ∷ r))

-- Line 21, where o is the lowest name at which map and pattern differ, and then the values.
abbrev pub line21 : Vocabulary → ℕ → Term → List ℕ → Option ℕ → Reading (List Binding)
line21 W s t b (some n) = refuse 21 n
line21 W s t b none = line22 b (ascending t) (read_values W (values_due W s t) (drop name_map_bytes b))

abbrev pub read_filling : Vocabulary → ℕ → Term → List ℕ → Reading (List Binding)
read_filling W s t b = cond (ltb (length b) name_map_bytes) (refuse 21 0) (line21 W s t b (first (unlike b t)))

pub data FillJudged : Type 0 where
  fillable : FillInputs → FillJudged
  refusal : ℕ → ℕ → ℕ → FillJudged

-- "After vocabulary and pattern come 21 ..".
abbrev pub judged_filling : Vocabulary → Kinded → Reading (List Binding) → FillJudged
judged_filling W k (refuse n q) = refusal n 4 q
judged_filling W k (accept bs) = fillable (record { vocabulary = W; kind = k.kind; pattern = k.term; values = bs })

abbrev pub fill_pattern : Vocabulary → List ℕ → Reading Kinded → FillJudged
fill_pattern W b (refuse n q) = refusal n 1 q
fill_pattern W b (accept k) = judged_filling W k (read_filling W k.kind k.term b)

abbrev pub fill_vocabulary : List ℕ → List ℕ → Reading Vocabulary → FillJudged
fill_vocabulary p b (refuse n q) = refusal n 0 q
fill_vocabulary p b (accept W) = fill_pattern W b (checked_term W p)

abbrev pub fill_judged : List ℕ → List ℕ → List ℕ → FillJudged
fill_judged v p b = fill_vocabulary p b (read_vocabulary v)

abbrev pub fill_clear : FillJudged → Reply
fill_clear (fillable x) = accepted (deepest x.pattern ∷ [])
fill_clear (refusal n i q) = refused n i q

-- The value of name n begins at the n-th start and ends at the next. A name that does not stand in the pattern has none.
pub record ValuesIn (x : FillInputs) (starts depths : List ℕ) : Type 0 where
  pub many_starts : length starts ≡ name_count + 1
  pub many_depths : length depths ≡ name_count
  pub begins : get_or starts 0 0 ≡ name_map_bytes
  pub named : (n : ℕ) → n < name_count → occurs n (names x.pattern) ≡ true →
      (get_or starts (n + 1) 0 ≡ get_or starts n 0 + size x.vocabulary (value_of x.values n))
      × (get_or depths n 0 ≡ levels (as_term (value_of x.values n)))
  pub absent : (n : ℕ) → n < name_count → occurs n (names x.pattern) ≡ false →
      (get_or starts (n + 1) 0 ≡ get_or starts n 0) × (get_or depths n 0 ≡ 0)

abbrev pub large : FillInputs → Bool
large x = ltb most_bytes (length (filled_bytes x)) || ltb most_levels (deepest (filled_term x))

-- "lent bytes behind what a call writes stay unchanged".
abbrev pub filled_into : List ℕ → List ℕ → Effect
filled_into out b =
    cond (ltb (length out) (length b)) (record { reply = refused 20 3 (length b); after = out })
    (record { reply = accepted (length b ∷ []); after = b ++ drop (length b) out })

abbrev pub filled_with : List ℕ → FillJudged → Effect
filled_with out (refusal n i q) = record { reply = refused n i q; after = out }
filled_with out (fillable x) = cond (large x) (record { reply = refused 23 4 0; after = out }) (filled_into out (filled_bytes x))

abbrev pub filled : List ℕ → List ℕ → List ℕ → List ℕ → Effect
filled v p b out = filled_with out (fill_judged v p b)
