-- FillingRefusals: a filling file is refused by lines 21 and 22 of the refusal list.
--
--   filling_refusals          a number is given exactly where its line decides
--
use mathlib.Core.Path.{◌≡◌, refl, ap, ◌∙◌, subst}
use mathlib.Core.Bool.{Bool, true, false}
use mathlib.Core.List.{List, [], ◌∷◌}
use mathlib.Core.Logic.{◌⊎◌, inl, inr}
use mathlib.Core.Option.{Option, some, none}
use Prim.Native.Nat.{ℕ, suc, ◌+◌, ◌-◌, ◌<◌, ◌≤◌}
use native.Mathlib.Omega.{arith}
use lib.Dec.{ltb}
use lib.ListN.{length, drop, length-drop}
use borrow.Author.Tests.{ltb-true, ltb-false}
use Rattle.terms.specs.Term.{Term, Grounds, Occurrence}
use Rattle.terms.specs.Emptiness.{first}
use Rattle.wire.specs.Vocabulary.{Vocabulary}
use Rattle.wire.specs.Parser.{refuse, Got, stop}
use Rattle.wire.specs.Refusals.{Sooner}
use Rattle.wire.specs.Laws.{RefusesBy, FillingRefusals}
use Rattle.wire.specs.FillingFile.{name_map_bytes, ascending}
use Rattle.wire.specs.FillingLines.{Differs, values_due, FullTo, FillingLine, short, differs, value, more}
use Rattle.wire.specs.FillComputed.{bindings, unlike, read_values, line22, line21, read_filling}
use Rattle.wire.proofs.Cond.{cond_true, cond_false}
use Rattle.wire.proofs.Refusals.{sooner_place, refuses-one, refuses_none}
use Rattle.wire.proofs.NameMaps.{unlike_none, unlike_some}
use Rattle.wire.proofs.FillingPath.{ending_stop, ending_got, values_ending, ends_stuck, ends-done, fault-stops, EndsStuck, EndsDone, path-ends}

module _ (W : Vocabulary) (s : ℕ) (t : Term) (b : List ℕ) where
  -- A short map comes before every other line.
  short-first : length b < name_map_bytes → {m r : ℕ} → FillingLine W s t b m r → Sooner 21 0 m r
  short-first o (short h) = sooner_place 21 0 0 (omega arith)
  short-first o (differs n h d l) = absurd (omega arith)
  short-first o (value x d ds q p e h) = inl (omega arith)
  short-first o (more x c r p e h) = inl (omega arith)

  refuses-short : length b < name_map_bytes → ltb (length b) name_map_bytes ≡ true → RefusesBy (FillingLine W s t b) (read_filling W s t b)
  refuses-short o e =
      refuses-one (FillingLine W s t b) (read_filling W s t b) 21 0 (cond_true (ltb (length b) name_map_bytes) _ _ e)
      (record { fits = short o; first = λ m r h. short-first o h })

  -- The map is whole.
  module _ (long : name_map_bytes ≤ length b) (whole : ltb (length b) name_map_bytes ≡ false) where
    -- The lowest differing name comes before every line.
    differs-first : (n : ℕ) → Differs b t n → ((m : ℕ) → m < n → Differs b t m → ⊥) → {m r : ℕ} → FillingLine W s t b m r → Sooner 21 n m r
    differs-first n d l (short h) = absurd (omega arith)
    differs-first n d l (differs n' h d' l') = go (ltb n' n) refl
      where
        go : (c : Bool) → ltb n' n ≡ c → Sooner 21 n 21 n'
        go true e = absurd (l n' (ltb-true n' n e) d')
        go false e = sooner_place 21 n n' (ltb-false n' n e)
    differs-first n d l (value x d' ds q p e h) = inl (omega arith)
    differs-first n d l (more x c r p e h) = inl (omega arith)

    read21 : (o : Option ℕ) → first (unlike b t) ≡ o → read_filling W s t b ≡ line21 W s t b o
    read21 o e = cond_false (ltb (length b) name_map_bytes) _ _ whole ∙ ap (line21 W s t b) e

    refuses-differs : (n : ℕ) → first (unlike b t) ≡ some n → RefusesBy (FillingLine W s t b) (read_filling W s t b)
    refuses-differs n e =
        let h = (unlike_some b t n).0 e in
        refuses-one (FillingLine W s t b) (read_filling W s t b) 21 n (read21 (some n) e)
        (record { fits = differs n long h.0 h.1; first = λ m r k. differs-first n h.0 h.1 k })

    -- No name differs.
    module _ (alike : first (unlike b t) ≡ none) where
      abbrev values : Got Grounds
      values = read_values W (values_due W s t) (drop name_map_bytes b)

      counted : name_map_bytes + length (drop name_map_bytes b) ≡ length b
      counted = omega (arith, length-drop name_map_bytes b)

      -- Reading stops at a fault.
      module _ (from : List ℕ) (place : ℕ) (stops : values_ending W s t b ≡ stop 22 from) (placed : place + length from ≡ length b) where
        stuck-first : {m r : ℕ} → FillingLine W s t b m r → Sooner 22 place m r
        stuck-first (short h) = absurd (omega arith)
        stuck-first (differs n h d l) = absurd ((unlike_none b t).0 alike n d)
        stuck-first (value x d ds q p e h) =
            let k = fault-stops W s t b x d ds q p e h in
            let a : k.from ≡ from = cc (k.stops, stops) in
            let c : place ≤ q = omega (arith, counted, ap length a, k.placed, k.sooner) in
            sooner_place 22 place q c
        stuck-first (more x c r p e h) =
            let z : ◌≡◌ {A = ℕ} 0 1 = cc ((ends-done W s t b x p e).0, stops) in absurd (omega arith)

        refuses-stuck : FillingLine W s t b 22 place → RefusesBy (FillingLine W s t b) (read_filling W s t b)
        refuses-stuck fits =
            let o : length b - length from ≡ place = omega arith in
            refuses-one (FillingLine W s t b) (read_filling W s t b) 22 place
            (read21 none alike ∙ ap (line22 b (ascending t)) (ending_stop values 22 from stops) ∙ ap (refuse 22) o)
            (record { fits = fits; first = λ m r h. stuck-first h })

      -- Nothing is due at the end, and the bytes rest are left.
      module _ (seen : List Occurrence) (at : ℕ) (rest : List ℕ) (leads : FullTo W s t b (record { due = []; seen = seen; at = at; rest = rest })) where
        done_lines : (P : ℕ → ℕ → Type 0) → ((c : ℕ) (r : List ℕ) → rest ≡ c ∷ r → P 22 at) → {m r : ℕ} → FillingLine W s t b m r → P m r
        done_lines P f (short h) = absurd (omega arith)
        done_lines P f (differs n h d l) = absurd ((unlike_none b t).0 alike n d)
        done_lines P f (value x d ds q p e h) =
            let k = fault-stops W s t b x d ds q p e h in
            let z : ◌≡◌ {A = ℕ} 0 1 = cc (k.stops, (ends-done W s t b _ leads refl).0) in absurd (omega arith)
        done_lines P f (more x c r p e h) =
            let i = ends-done W s t b x p e in
            let j = ends-done W s t b _ leads refl in
            let a : rest ≡ x.rest = cc (i.0, j.0) in
            let o : at ≡ x.at = omega (arith, ap length a, i.1, j.1) in
            subst (P 22) o (f c r (a ∙ h))

      refuses-done : (seen : List Occurrence) (at : ℕ) (rest : List ℕ) → FullTo W s t b (record { due = []; seen = seen; at = at; rest = rest }) →
          RefusesBy (FillingLine W s t b) (read_filling W s t b)
      refuses-done seen at [] p =
          let a = ending_got values [] (ends-done W s t b _ p refl).0 in
          refuses_none (FillingLine W s t b) (read_filling W s t b) (bindings (ascending t) a.0)
          (read21 none alike ∙ ap (line22 b (ascending t)) a.1)
          (λ m q h. done_lines seen at [] p (λ m q. ⊥) (λ c r e. let z : ◌≡◌ {A = ℕ} 0 1 = cc in omega arith) h)
      refuses-done seen at (c ∷ r) p =
          let j = ends-done W s t b _ p refl in
          let a = ending_got values (c ∷ r) j.0 in
          let o : length b - suc (length r) ≡ at = omega (arith, counted, j.1) in
          refuses-one (FillingLine W s t b) (read_filling W s t b) 22 at
          (read21 none alike ∙ ap (line22 b (ascending t)) a.1 ∙ ap (refuse 22) o)
          (record {
            fits = more _ c r p refl refl;
            first = λ m q h. done_lines seen at (c ∷ r) p (Sooner 22 at) (λ c' r' e. sooner_place 22 at at (omega arith)) h;
          })

      refuses-values : RefusesBy (FillingLine W s t b) (read_filling W s t b)
      refuses-values = go (path-ends W s t b)
        where
          go : EndsStuck W s t b ⊎ EndsDone W s t b → RefusesBy (FillingLine W s t b) (read_filling W s t b)
          go (inl i) =
              let k = ends_stuck W s t b i.first i.due _ i.leads refl i.stuck in
              refuses-stuck i.stuck.from i.stuck.place k.0 (omega (arith, counted, k.1))
              (value _ i.first i.due i.stuck.place i.leads refl i.stuck.fits)
          go (inr i) = refuses-done i.seen i.at i.rest i.leads

    refuses-whole : (o : Option ℕ) → first (unlike b t) ≡ o → RefusesBy (FillingLine W s t b) (read_filling W s t b)
    refuses-whole (some n) e = refuses-differs n e
    refuses-whole none e = refuses-values e

pub filling_refusals : FillingRefusals
filling_refusals W s t b in_order = go (ltb (length b) name_map_bytes) refl
  where
    go : (c : Bool) → ltb (length b) name_map_bytes ≡ c → RefusesBy (FillingLine W s t b) (read_filling W s t b)
    go true e = refuses-short W s t b (ltb-true _ _ e) e
    go false e = refuses-whole W s t b (ltb-false _ _ e) e (first (unlike b t)) refl
