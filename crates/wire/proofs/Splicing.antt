-- Splicing: a pattern's bytes with complete terms in place of its names are the bytes of the pattern with each name replaced.
--
--   chosen               bindings whose values have what some value of each name has
--   spliced-term         what splicing makes of a term's bytes, whatever bytes are behind
--   replaced-levels      a value adds its levels, but for the one that its name had
--   spliced-situation    a situation that agrees with a pattern without open places is accepted where each part stands
--
use mathlib.Core.Path.{◌≡◌, refl, sym, ap, ap₂, ◌∙◌, subst}
use mathlib.Core.Bool.{true, cond}
use mathlib.Core.List.{List, [], ◌∷◌, ◌++◌, append_assoc, append-nil, map-id}
use Prim.Native.Nat.{ℕ, suc, ◌+◌, ◌-◌, ◌<◌, ◌≤◌}
use native.Mathlib.Omega.{arith}
use lib.Dec.{eqb, ltb}
use lib.ListN.{length, get_or, drop, length-drop}
use lib.Seq.{drop-cons}
use borrow.Author.Tests.{eqb-true, lt-ltb, le-ltb}
use Rattle.terms.specs.Lists.{All, occurs}
use Rattle.terms.specs.Signature.{arguments}
use Rattle.terms.specs.Term.{Term, any, var, app, Terms, nil, cons, Ground, SortedG, Sorted, SortedAll, as_term, names, names_all, occurrences, sort_in, openings}
use Rattle.terms.specs.Filling.{Binding, value_of}
use Rattle.terms.specs.Replacing.{replace, replace_all}
use Rattle.terms.proofs.All.{all_left, all_right, all_both, all_implies}
use Rattle.terms.proofs.Bools.{eqb_refl}
use Rattle.terms.proofs.Fill.{Bound}
use Rattle.terms.proofs.Occurs.{all-occurs}
use Rattle.wire.specs.Reply.{IsBytes}
use Rattle.wire.specs.Vocabulary.{Vocabulary, signature, InOrder}
use Rattle.wire.specs.TermBytes.{name_count, first_name_byte, name_byte, encode_at, encode_all, encode_root, encode_term, GoodTerm, levels, levels_all, deepest, most_bytes, most_levels, HoldsTerm}
use Rattle.wire.specs.Parser.{accept}
use Rattle.wire.specs.SituationComputed.{ground, checked_situation}
use Rattle.wire.specs.Splicing.{spliced, part_in, Agrees, PartStands}
use Rattle.wire.proofs.Cond.{cond_true, cond_false, choice}
use Rattle.wire.proofs.Words.{length_symbols}
use Rattle.wire.proofs.Levels.{deepest-bytes}
use Rattle.wire.proofs.Complete.{complete-ground}
use Rattle.wire.proofs.GroundBytes.{root-ground}
use Rattle.wire.proofs.Inputs.{in_situation}
use Rattle.wire.proofs.FillingValues.{names_hold}
use Rattle.wire.proofs.FilledTerms.{replaced-good, complete_without_open_place, filled-map}

-- ---- bindings

chosen : (P : ℕ → Ground → Type 0) (ns : List ℕ) → All (λ n. (g : Ground) × P n g) ns → (bs : List Binding) × All (λ n. P n (value_of bs n)) ns
chosen P [] a = ([], tt)
chosen P (m ∷ ns) a =
    let r = chosen P ns a.1 in
    let g : Ground = a.0.0 in (
      record { name = m; value = g } ∷ r.0,
      (
        subst (λ c. P m (cond c g (value_of r.0 m))) (sym (eqb_refl m)) a.0.1,
        all_implies _ _ (λ n q. choice (P n) (eqb n m) g (value_of r.0 n) (λ e. subst (λ k. P k g) (sym (eqb-true n m e)) a.0.1) (λ e. q)) ns r.1,
      ),
    )

-- ---- bytes

-- A name's byte is no word's, and tells the name.
at_name : (G : ℕ → List ℕ) (n : ℕ) (l : List ℕ) → cond (ltb (name_byte n) first_name_byte) l (G (name_byte n - first_name_byte)) ≡ G n
at_name G n l = cond_false (ltb (name_byte n) first_name_byte) l _ (le-ltb (name_byte n) first_name_byte (omega arith)) ∙ ap G (omega arith)

spliced-name : (F : ℕ → List ℕ) (n : ℕ) (l : List ℕ) → spliced F (name_byte n ∷ l) ≡ F n ++ spliced F l
spliced-name F n [] = at_name F n _ ∙ sym (append-nil (F n))
spliced-name F n (m ∷ l) = at_name (λ k. F k ++ spliced F (m ∷ l)) n _

module _ (W : Vocabulary) (in_order : InOrder W) (F : ℕ → List ℕ) (bs : List Binding) where
  abbrev Given : ℕ → Type 0
  Given n = F n ≡ encode_at W (as_term (value_of bs n))

  mutual
    spliced-term : (t : Term) (s : ℕ) (l : List ℕ) → Sorted (signature W) t s → All Given (names t) →
        spliced F (encode_at W t ++ l) ≡ encode_at W (replace bs t) ++ spliced F l
    spliced-term any s l h a = refl
    spliced-term (var n) s l h a = spliced-name F n l ∙ ap (λ b. b ++ spliced F l) a.0
    spliced-term (app f ts) s l h a =
        cond_true (ltb f first_name_byte) _ _ (lt-ltb f first_name_byte (omega (arith, h.0, length_symbols W, in_order.few_words)))
        ∙ ap₂ {C = List ℕ} (λ m r. f ∷ m ∷ r) (sym (filled-map W bs f ts)) (spliced-terms ts (arguments (signature W) f) l h.2 a)

    spliced-terms : (ts : Terms) (ks l : List ℕ) → SortedAll (signature W) ts ks → All Given (names_all ts) →
        spliced F (encode_all W ts ++ l) ≡ encode_all W (replace_all bs ts) ++ spliced F l
    spliced-terms nil ks l h a = refl
    spliced-terms (cons t ts) [] l h a = absurd h
    spliced-terms (cons t ts) (k ∷ ks) l h a =
        ap (spliced F) (append_assoc (encode_at W t) (encode_all W ts) l)
        ∙ spliced-term t k (encode_all W ts ++ l) h.0 (all_left Given (names t) (names_all ts) a)
        ∙ ap (λ r. encode_at W (replace bs t) ++ r) (spliced-terms ts ks l h.1 (all_right Given (names t) (names_all ts) a))
        ∙ sym (append_assoc (encode_at W (replace bs t)) (encode_all W (replace_all bs ts)) (spliced F l))

  spliced-root : (t : Term) (s : ℕ) → Sorted (signature W) t s → openings t ≡ 0 → All Given (names t) →
      spliced F (encode_root W t) ≡ encode_at W (replace bs t)
  spliced-root t s h z a =
      ap (spliced F) (root t z ∙ sym (append-nil (encode_at W t))) ∙ spliced-term t s [] h a ∙ append-nil (encode_at W (replace bs t))
    where
      root : (t : Term) → openings t ≡ 0 → encode_root W t ≡ encode_at W t
      root any z = absurd (omega arith)
      root (var n) z = refl
      root (app f ts) z = refl

-- ---- levels

module _ (bs : List Binding) (most : ℕ) (some : 1 ≤ most) where
  abbrev Low : ℕ → Type 0
  Low n = levels (as_term (value_of bs n)) ≤ most

  mutual
    replaced-levels : (t : Term) → All Low (names t) → suc (levels (replace bs t)) ≤ levels t + most
    replaced-levels any a = omega arith
    replaced-levels (var n) a = omega (arith, a.0)
    replaced-levels (app f ts) a = omega (arith, replaced-levels_all ts a)

    replaced-levels_all : (ts : Terms) → All Low (names_all ts) → suc (levels_all (replace_all bs ts)) ≤ levels_all ts + most
    replaced-levels_all nil a = omega arith
    replaced-levels_all (cons t ts) a =
        omega
        (arith, replaced-levels t (all_left Low (names t) (names_all ts) a), replaced-levels_all ts (all_right Low (names t) (names_all ts) a))

-- ---- the situation

-- Bytes whose first and later ones are known.
rest-known : (s r : List ℕ) (k : ℕ) → 1 ≤ length r → get_or s 0 0 ≡ k → drop 1 s ≡ r → s ≡ k ∷ r
rest-known s r k some first rest = drop-cons s 0 0 (omega (arith, ap length rest, length-drop 1 s)) ∙ ap₂ {C = List ℕ} ◌∷◌ first rest

-- The term g can stand for the name n of the pattern t of kind k.
abbrev Stood : Vocabulary → List ℕ → List ℕ → ℕ → Term → ℕ → Ground → Type 0
Stood W s spans k t n g =
    SortedG (signature W) g (sort_in (occurrences (signature W) t k) n) × (part_in s spans n ≡ encode_at W (as_term g)) ×
    (levels (as_term g) ≤ suc most_levels - deepest t)

module _ {W : Vocabulary} (in_order : InOrder W) {p s spans : List ℕ} {k : ℕ} {t : Term} (pattern : HoldsTerm W p k t) (shut : openings t ≡ 0)
    (agrees : Agrees p s spans) (bs : List Binding) (stand : All (λ n. Stood W s spans k t n (value_of bs n)) (names t)) where
  abbrev g : Ground
  g = ground (replace bs t)

  result : replace bs t ≡ as_term g
  result = complete-ground (replace bs t) ((complete_without_open_place t bs).1 shut)

  bound : Bound (signature W) bs t k
  bound =
      names_hold W k t pattern.good (λ n j. SortedG (signature W) (value_of bs n) j) (names t) (λ n o. o)
      (all_implies _ _ (λ n h. h.0) (names t) stand)

  written : s ≡ encode_term W k (as_term g)
  written =
      rest-known s (encode_root W (as_term g)) k (omega (arith, deepest-bytes W (as_term g)))
      (agrees.kind ∙ ap (λ b. get_or b 0 0) pattern.written)
      (agrees.nodes
      ∙ ap (λ b. spliced (part_in s spans) (drop 1 b)) pattern.written
      ∙ spliced-root W in_order (part_in s spans) bs t k pattern.good.sorted.sorted shut (all_implies _ _ (λ n h. h.1) (names t) stand)
      ∙ ap (encode_at W) result
      ∙ sym (root-ground W g))

  low : deepest (as_term g) ≤ most_levels
  low =
      let own = pattern.limits.levels in
      let same = ap levels result in
      omega (arith, replaced-levels bs (suc most_levels - deepest t) (omega arith) t (all_implies _ _ (λ n h. h.2) (names t) stand))

  held : length s ≤ most_bytes → HoldsTerm W s k (as_term g)
  held short = record {
    good = subst (GoodTerm W k) result (replaced-good W k t bs pattern.good bound);
    written = written;
    limits = record { least = omega (arith, ap length written, deepest-bytes W (as_term g)); most = short; levels = low };
  }

pub spliced-situation : {W : Vocabulary} → InOrder W → {p s spans : List ℕ} {k : ℕ} {t : Term} → IsBytes s → HoldsTerm W p k t →
    openings t ≡ 0 → Agrees p s spans → length s ≤ most_bytes →
    ((n : ℕ) → n < name_count → occurs n (names t) ≡ true →
    PartStands W s spans (sort_in (occurrences (signature W) t k) n) n (suc most_levels - deepest t)) →
    (g : Ground) × (checked_situation W k s ≡ accept g)
spliced-situation {W} in_order {p} {s} {spans} {k} {t} bytes pattern shut agrees short stand =
    let (bs, stood) = chosen (Stood W s spans k t) (names t) values in
    (ground (replace bs t), in_situation W s k (ground (replace bs t)) in_order bytes (held in_order pattern shut agrees bs stood short))
  where
    values : All (λ n. (g : Ground) × Stood W s spans k t n g) (names t)
    values =
        all_implies (λ n. (n < name_count) × (occurs n (names t) ≡ true)) _
        (λ n h. let x = stand n h.0 h.1 in (x.value, (x.sorted, x.bytes, x.shallow))) (names t)
        (all_both (λ n. n < name_count) (λ n. occurs n (names t) ≡ true) (names t) pattern.good.named
        (subst (λ l. All (λ n. occurs n l ≡ true) (names t)) (map-id (names t)) (all-occurs (λ n. n) (names t))))
