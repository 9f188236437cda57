-- FilledTerms: a pattern with each name replaced: it is good, where it is complete, and its written maps and bytes.
--
--   replaced-good              it is good where the values are of the kinds due
--   filled_is_good, complete_without_open_place    the laws
--   filled_open, filled-map    an open place stays open, and everything else stays written
--   filled-bytes               the bytes of a word with its names replaced
--
use mathlib.Core.Path.{◌≡◌, refl, ap, ap₂}
use mathlib.Core.Bool.{Bool, true, false, not, false≢true}
use mathlib.Core.List.{List, [], ◌∷◌, ◌++◌}
use mathlib.Core.Logic.{◌↔◌}
use Prim.Native.Nat.{ℕ, ◌+◌}
use native.Mathlib.Omega.{arith}
use Rattle.terms.specs.Term.{Term, any, var, app, Terms, nil, cons, openings_all}
use Rattle.terms.specs.Filling.{Binding, value_of}
use Rattle.terms.specs.Replacing.{replace, replace_all}
use Rattle.terms.proofs.Bools.{and_parts, and_both}
use Rattle.terms.proofs.Fill.{Bound}
use Rattle.terms.proofs.Replacing.{replace-names, replace-occurrences, replace-sorted}
use Rattle.wire.specs.Map.{write_map, flags, number, is_open, written_flags}
use Rattle.wire.specs.Vocabulary.{Vocabulary, signature, map_of}
use Rattle.wire.specs.TermBytes.{written_map, encode_at, encode_all, GoodTerm, complete, complete_all}
use Rattle.wire.specs.Laws.{FilledIsGood, CompleteWithoutOpenPlace}
use Rattle.wire.proofs.Complete.{ground-complete}
use Rattle.wire.proofs.GroundBytes.{ground-shut}

-- The values' kinds are all that counts.
pub replaced-good : (W : Vocabulary) (s : ℕ) (t : Term) (bs : List Binding) → GoodTerm W s t → Bound (signature W) bs t s →
    GoodTerm W s (replace bs t)
replaced-good W s t bs good bound =
    record {
      kind = good.kind;
      sorted = record {
        sorted = replace-sorted (signature W) bs t s good.sorted.sorted bound;
        consistent = rw (replace-occurrences (signature W) bs t s) tt;
      };
      named = rw (replace-names bs t) tt;
    }

pub filled_is_good : FilledIsGood
filled_is_good W s t bs good filling = replaced-good W s t bs good filling.sorted

mutual
  pub complete_without_open_place : CompleteWithoutOpenPlace
  complete_without_open_place any bs = (λ e. absurd (false≢true e), λ e. absurd (omega arith))
  complete_without_open_place (var n) bs = (λ e. refl, λ e. ground-complete (value_of bs n))
  complete_without_open_place (app f ts) bs = complete_without_open_places ts bs

  complete_without_open_places : (ts : Terms) (bs : List Binding) → (complete_all (replace_all bs ts) ≡ true) ↔ (openings_all ts ≡ 0)
  complete_without_open_places nil bs = (λ e. refl, λ e. refl)
  complete_without_open_places (cons t ts) bs =
      let first = complete_without_open_place t bs in
      let rest = complete_without_open_places ts bs in (
        (λ e.
            let both = and_parts (complete (replace bs t)) (complete_all (replace_all bs ts)) e in
            ap₂ ◌+◌ (first.0 both.0) (rest.0 both.1)),
        (λ e. and_both (complete (replace bs t)) (complete_all (replace_all bs ts)) (first.1 (omega arith)) (rest.1 (omega arith))),
      )

-- ---- what is written

pub filled_open : (bs : List Binding) (t : Term) → is_open (replace bs t) ≡ is_open t
filled_open bs any = refl
filled_open bs (var n) = ground-shut (value_of bs n)
filled_open bs (app f ts) = refl

filled-flags : (bs : List Binding) (ps : List Bool) (ts : Terms) → written_flags ps (replace_all bs ts) ≡ written_flags ps ts
filled-flags bs [] ts = refl
filled-flags bs (false ∷ ps) ts = ap {B = List Bool} (λ l. false ∷ l) (filled-flags bs ps ts)
filled-flags bs (true ∷ ps) nil = ap {B = List Bool} (λ l. false ∷ l) (filled-flags bs ps nil)
filled-flags bs (true ∷ ps) (cons t ts) = ap₂ {C = List Bool} ◌∷◌ (ap not (filled_open bs t)) (filled-flags bs ps ts)

module _ (W : Vocabulary) (bs : List Binding) (f : ℕ) (ts : Terms) where
  pub filled-map : written_map W f (replace_all bs ts) ≡ written_map W f ts
  filled-map = ap number (filled-flags bs (flags (map_of W f)) ts)

  pub filled-bytes : encode_at W (replace bs (app f ts)) ≡ f ∷ (write_map (written_map W f ts) ++ encode_all W (replace_all bs ts))
  filled-bytes = ap {B = List ℕ} (λ m. f ∷ (write_map m ++ encode_all W (replace_all bs ts))) filled-map
