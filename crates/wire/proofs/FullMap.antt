-- FullMap: a written map equals its word's place map exactly where no place is open.
use mathlib.Core.Path.{◌≡◌, refl, sym, ap, ap₂, ◌∙◌}
use mathlib.Core.Bool.{Bool, true, false, not}
use mathlib.Core.List.{List, [], ◌∷◌}
use Prim.Native.Nat.{ℕ}
use native.Mathlib.Omega.{arith}
use lib.ListN.{length}
use borrow.Author.Tests.{not-true}
use Rattle.terms.specs.Signature.{Signature}
use Rattle.terms.specs.Term.{Terms, nil, cons, SortedAll}
use Rattle.terms.proofs.Bools.{or_parts, or_neither}
use Rattle.wire.specs.Map.{flags, number, ones, is_open, written_flags}
use Rattle.wire.specs.Vocabulary.{map_of, word}
use Rattle.wire.specs.GapComputed.{some_open}
use Rattle.wire.specs.Laws.{FullMapMeansNoOpenPlace}
use Rattle.wire.proofs.Map.{number-flags, flags-written}
use Rattle.wire.proofs.Words.{word-in_order}

-- Bits for as many places as there are terms: they all stand exactly where no term is an open place.
full-shut : (S : Signature) (ps : List Bool) (ts : Terms) (ks : List ℕ) → length ks ≡ ones ps → SortedAll S ts ks →
    written_flags ps ts ≡ ps → some_open ts ≡ false
full-shut S [] nil [] e h q = refl
full-shut S [] nil (k ∷ ks) e h q = absurd h
full-shut S [] (cons t ts) [] e h q = absurd h
full-shut S [] (cons t ts) (k ∷ ks) e h q = absurd (omega arith)
full-shut S (false ∷ ps) ts ks e h q = full-shut S ps ts ks (omega arith) h (let r : written_flags ps ts ≡ ps = cc in r)
full-shut S (true ∷ ps) nil [] e h q = absurd (omega arith)
full-shut S (true ∷ ps) nil (k ∷ ks) e h q = absurd h
full-shut S (true ∷ ps) (cons t ts) [] e h q = absurd h
full-shut S (true ∷ ps) (cons t ts) (k ∷ ks) e h q =
    let first : not (is_open t) ≡ true = cc in
    let rest : written_flags ps ts ≡ ps = cc in
    or_neither (is_open t) (some_open ts) (not-true (is_open t) first) (full-shut S ps ts ks (omega arith) h.1 rest)

shut-full : (S : Signature) (ps : List Bool) (ts : Terms) (ks : List ℕ) → length ks ≡ ones ps → SortedAll S ts ks →
    some_open ts ≡ false → written_flags ps ts ≡ ps
shut-full S [] ts ks e h q = refl
shut-full S (false ∷ ps) ts ks e h q = ap {B = List Bool} (λ l. false ∷ l) (shut-full S ps ts ks (omega arith) h q)
shut-full S (true ∷ ps) nil [] e h q = absurd (omega arith)
shut-full S (true ∷ ps) nil (k ∷ ks) e h q = absurd h
shut-full S (true ∷ ps) (cons t ts) [] e h q = absurd h
shut-full S (true ∷ ps) (cons t ts) (k ∷ ks) e h q =
    let o = or_parts (is_open t) (some_open ts) q in
    ap₂ {C = List Bool} ◌∷◌ (ap not o.0) (shut-full S ps ts ks (omega arith) h.1 o.1)

pub full_map_means_no_open_place : FullMapMeansNoOpenPlace
full_map_means_no_open_place W f ts in_order known sorted =
    let w = word-in_order W f in_order known in (
      (λ e.
          full-shut _ (flags (map_of W f)) ts (word W f).kinds w.count sorted
          (sym (flags-written (map_of W f) ts) ∙ ap flags e)),
      (λ e.
          ap number (shut-full _ (flags (map_of W f)) ts (word W f).kinds w.count sorted e)
          ∙ number-flags (map_of W f) w.place_map),
    )
