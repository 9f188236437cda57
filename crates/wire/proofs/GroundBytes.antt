-- GroundBytes: how ground terms are written: node, size, and that the bytes tell the term.
--
--   node-bytes          a ground term's word, its whole place map, and its arguments
--   size-words          a ground term takes 1 + map_bytes bytes a word
--   ground-front        two ground terms that are written one for the other are equal, whatever bytes are behind
--   ground-same         two ground terms are equal exactly where their bytes are
--   first-node          a list of ground terms with the first node taken off: its arguments stand in front
--
use mathlib.Core.Path.{◌≡◌, refl, sym, ap, ap₂, ◌∙◌, subst}
use mathlib.Core.Bool.{false}
use mathlib.Core.List.{List, [], ◌∷◌, ◌++◌, append_assoc, append-nil}
use mathlib.Core.Logic.{◌↔◌}
use Prim.Native.Nat.{ℕ, ◌+◌, ◌*◌, ◌≤◌, ◌<◌}
use native.Mathlib.Omega.{arith}
use lib.ListN.{length, length-append}
use Rattle.terms.specs.Signature.{Signature, result, arguments}
use Rattle.terms.specs.Term.{Ground, gapp, Grounds, gnil, gcons, SortedAll, SortedG, SortedGs, as_term, as_terms}
use Rattle.terms.proofs.Ground.{ground-sorted}
use Rattle.wire.specs.Map.{map_bytes, write_map, flags, ones, is_open}
use Rattle.wire.specs.Vocabulary.{Vocabulary, signature, map_of, InOrder}
use Rattle.wire.specs.TermBytes.{written_map, encode_at, encode_all, encode_root, word_count, word_count_all}
use Rattle.wire.specs.GapComputed.{some_open}
use Rattle.wire.specs.SituationComputed.{ground, grounds}
use Rattle.wire.specs.Matching.{size}
use Rattle.wire.proofs.Complete.{ground-good}
use Rattle.wire.proofs.Front.{root-front}
use Rattle.wire.proofs.FullMap.{full_map_means_no_open_place}
use Rattle.wire.proofs.Words.{length_symbols, result-word, arguments-word, word-in_order}

-- A ground term is that of its term.
mutual
  pub ground_back : (g : Ground) → ground (as_term g) ≡ g
  ground_back (gapp f gs) = ap (gapp f) (grounds_back gs)

  pub grounds_back : (gs : Grounds) → grounds (as_terms gs) ≡ gs
  grounds_back gnil = refl
  grounds_back (gcons g gs) = ap₂ gcons (ground_back g) (grounds_back gs)

-- No place of a ground term is open.
pub ground-shut : (g : Ground) → is_open (as_term g) ≡ false
ground-shut (gapp f gs) = refl

pub grounds-shut : (gs : Grounds) → some_open (as_terms gs) ≡ false
grounds-shut gnil = refl
grounds-shut (gcons g gs) = rw (ground-shut g) (grounds-shut gs)

-- ---- size

module _ (W : Vocabulary) where
  mutual
    pub size-words : (g : Ground) → size W g ≡ (1 + map_bytes) * word_count (as_term g)
    size-words (gapp f gs) = let h = sizes-words gs in omega arith

    pub sizes-words : (gs : Grounds) → length (encode_all W (as_terms gs)) ≡ (1 + map_bytes) * word_count_all (as_terms gs)
    sizes-words gnil = refl
    sizes-words (gcons g gs) =
        let h = size-words g in
        let k = sizes-words gs in
        omega (arith, length-append (encode_at W (as_term g)) (encode_all W (as_terms gs)))

  pub size-least : (g : Ground) → 2 ≤ size W g
  size-least (gapp f gs) = omega arith

  -- At the root a ground term is written as elsewhere.
  pub root-ground : (g : Ground) → encode_root W (as_term g) ≡ encode_at W (as_term g)
  root-ground (gapp f gs) = refl

-- ---- the first node

-- The ground terms gs, then hs.
abbrev pub joined : Grounds → Grounds → Grounds
joined gnil hs = hs
joined (gcons g gs) hs = gcons g (joined gs hs)

pub joined-sorted : (S : Signature) (gs hs : Grounds) (ks js : List ℕ) → SortedGs S gs ks → SortedGs S hs js → SortedGs S (joined gs hs) (ks ++ js)
joined-sorted S gnil hs [] js h k = k
joined-sorted S gnil hs (i ∷ ks) js h k = absurd h
joined-sorted S (gcons g gs) hs [] js h k = absurd h
joined-sorted S (gcons g gs) hs (i ∷ ks) js h k = (h.0, joined-sorted S gs hs ks js h.1 k)

pub joined_bytes : (W : Vocabulary) (gs hs : Grounds) →
    encode_all W (as_terms (joined gs hs)) ≡ encode_all W (as_terms gs) ++ encode_all W (as_terms hs)
joined_bytes W gnil hs = refl
joined_bytes W (gcons g gs) hs =
    ap (λ l. encode_at W (as_term g) ++ l) (joined_bytes W gs hs)
    ∙ sym (append_assoc (encode_at W (as_term g)) (encode_all W (as_terms gs)) (encode_all W (as_terms hs)))

module _ (W : Vocabulary) (in_order : InOrder W) where
  pub known-word : (f : ℕ) (gs : Grounds) (s : ℕ) → SortedG (signature W) (gapp f gs) s → f < length W.words
  known-word f gs s h = rw (length_symbols W) at h.0

  -- A ground term's written map is its word's place map.
  pub full-map : (f : ℕ) (gs : Grounds) (s : ℕ) → SortedG (signature W) (gapp f gs) s → written_map W f (as_terms gs) ≡ map_of W f
  full-map f gs s h =
      (full_map_means_no_open_place W f (as_terms gs) in_order (known-word f gs s h)
      (subst (SortedAll (signature W) (as_terms gs)) (arguments-word W f) (ground-sorted (signature W) (gapp f gs) s h).2)).1
      (grounds-shut gs)

  pub node-bytes : (f : ℕ) (gs : Grounds) (s : ℕ) → SortedG (signature W) (gapp f gs) s →
      encode_at W (as_term (gapp f gs)) ≡ f ∷ (write_map (map_of W f) ++ encode_all W (as_terms gs))
  node-bytes f gs s h = ap {B = List ℕ} (λ m. f ∷ (write_map m ++ encode_all W (as_terms gs))) (full-map f gs s h)

  -- A word has as many arguments as its place map has bits.
  pub count-arguments : (f : ℕ) → f < length W.words → length (arguments (signature W) f) ≡ ones (flags (map_of W f))
  count-arguments f h = ap length (arguments-word W f) ∙ (word-in_order W f in_order h).count

  pub first-node : (f : ℕ) (hs gs : Grounds) (s : ℕ) (r : List ℕ) → SortedG (signature W) (gapp f hs) s →
      encode_all W (as_terms (gcons (gapp f hs) gs)) ++ r ≡ f ∷ (write_map (map_of W f) ++ (encode_all W (as_terms (joined hs gs)) ++ r))
  first-node f hs gs s r h =
      ap (λ l. (l ++ encode_all W (as_terms gs)) ++ r) (node-bytes f hs s h)
      ∙ ap {B = List ℕ} (λ l. f ∷ (map_of W f ∷ (l ++ r))) (sym (joined_bytes W hs gs))

  -- ---- the bytes tell the term

  pub sort-below : (g : Ground) (s : ℕ) → SortedG (signature W) g s → s < W.kinds
  sort-below (gapp f gs) s h =
      let low = (word-in_order W f in_order (known-word f gs s h)).result in
      let e = result-word W f in
      let d = h.1 in omega arith

  one-sort : (g h : Ground) (s s' : ℕ) (r r' : List ℕ) → SortedG (signature W) g s → SortedG (signature W) h s' →
      encode_at W (as_term g) ++ r ≡ encode_at W (as_term h) ++ r' → s ≡ s'
  one-sort (gapp f gs) (gapp k hs) s s' r r' x y e =
      sym x.1 ∙ ap (result (signature W)) (heads f k _ _ e) ∙ y.1
    where
      heads : (a b : ℕ) (l m : List ℕ) → ◌≡◌ {A = List ℕ} (a ∷ l) (b ∷ m) → a ≡ b
      heads a b l m e = cc

  pub ground-front : (g h : Ground) (s s' : ℕ) (r r' : List ℕ) → SortedG (signature W) g s → SortedG (signature W) h s' →
      encode_at W (as_term g) ++ r ≡ encode_at W (as_term h) ++ r' → (g ≡ h) × (r ≡ r')
  ground-front g h s s' r r' x y e =
      let k : s' ≡ s = sym (one-sort g h s s' r r' x y e) in
      let low = sort-below g s x in
      let same =
      root-front W in_order s (as_term g) (as_term h) r r' (ground-good W s g low x)
      (ground-good W s h low (subst (SortedG (signature W) h) k y))
      (ap (λ l. l ++ r) (root-ground W g) ∙ e ∙ ap (λ l. l ++ r') (sym (root-ground W h))) in
      (sym (ground_back g) ∙ ap ground same.0 ∙ ground_back h, same.1)

  pub ground-same : (g h : Ground) (s s' : ℕ) → SortedG (signature W) g s → SortedG (signature W) h s' →
      (encode_at W (as_term g) ≡ encode_at W (as_term h)) ↔ (g ≡ h)
  ground-same g h s s' x y = (
    (λ e.
        (ground-front g h s s' [] [] x y
        (append-nil (encode_at W (as_term g)) ∙ e ∙ sym (append-nil (encode_at W (as_term h))))).0),
    (λ e. ap (λ k. encode_at W (as_term k)) e),
  )
