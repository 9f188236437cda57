-- FullTerms: the complete terms that are read are those whose bytes stand there, and those due one behind the other are read so.
--
--   places_at level ks         a term due at that level for each of the kinds ks
--   sorts_due due              the kinds that are due
--   full-due, behind-due, behind-sorts    what is due behind a full word
--   FitsDue gs due            a term of gs for each that is due, none of which reaches a level past the last
--   HasValues, Values, values-read    what it means to have read complete terms
--   values-written            the bytes of complete terms are read as these terms
--   values-append             what is due in two parts is read part by part
--
use mathlib.Core.Path.{◌≡◌, refl, sym, ap, ap₂, subst, ◌∙◌}
use mathlib.Core.Bool.{Bool, true, false}
use mathlib.Core.List.{List, [], ◌∷◌, ◌++◌, map, append_assoc}
use Prim.Native.Nat.{ℕ, zero, suc, ◌+◌, ◌<◌, ◌≤◌}
use native.Mathlib.Omega.{arith}
use lib.Dec.{ltb}
use lib.ListN.{length}
use borrow.Author.Tests.{ltb-true, ltb-false}
use Rattle.terms.specs.Signature.{Signature}
use Rattle.terms.specs.Term.{gapp, Grounds, gnil, gcons, SortedG, SortedGs, as_term, as_terms}
use Rattle.wire.specs.Map.{write_map, flags, ones, slots}
use Rattle.wire.specs.Vocabulary.{Vocabulary, InOrder, signature, word, map_of}
use Rattle.wire.specs.TermBytes.{encode_all, levels, levels_all, most_levels}
use Rattle.wire.specs.TermLines.{Due, due_at, Word?}
use Rattle.wire.specs.Parser.{Got, got, stop, and_then}
use Rattle.wire.specs.FillComputed.{full_slots, full_word, take_first, drop_first, with_node, read_full, read_values}
use Rattle.wire.proofs.Words.{length_symbols, result-word, arguments-word, word-in_order}
use Rattle.wire.proofs.GroundBytes.{joined, joined-sorted, known-word, first-node}
use Rattle.wire.proofs.FullReading.{FullStands, Stands, full-stands, full-word, put, behind, values-node, values-limit}

-- ---- what is due behind a full word

abbrev pub places_at : ℕ → List ℕ → List Due
places_at level [] = []
places_at level (s ∷ ks) = record { sort = s; level = level; root = false } ∷ places_at level ks

abbrev pub sorts_due : List Due → List ℕ
sorts_due due = map (λ d. d.sort) due

pub full-due : (level : ℕ) (ps : List Bool) (ks : List ℕ) → length ks ≡ ones ps → due_at level (slots ps ps ks) ≡ places_at level ks
full-due level [] [] e = refl
full-due level [] (s ∷ ks) e = absurd (omega arith)
full-due level (false ∷ ps) ks e = full-due level ps ks (omega arith)
full-due level (true ∷ ps) [] e = absurd (omega arith)
full-due level (true ∷ ps) (s ∷ ks) e =
    ap {B = List Due} (λ l. record { sort = s; level = level; root = false } ∷ l) (full-due level ps ks (omega arith))

places-sorts : (level : ℕ) (ks : List ℕ) (ds : List Due) → sorts_due (places_at level ks ++ ds) ≡ ks ++ sorts_due ds
places-sorts level [] ds = refl
places-sorts level (s ∷ ks) ds = ap {B = List ℕ} (λ l. s ∷ l) (places-sorts level ks ds)

-- ---- ground terms, part by part

abbrev pub FitsDue : Grounds → List Due → Type 0
FitsDue gnil [] = Unit {0}
FitsDue gnil (d ∷ ds) = ⊥
FitsDue (gcons g gs) [] = ⊥
FitsDue (gcons g gs) (d ∷ ds) = (d.level + levels (as_term g) ≤ suc most_levels) × FitsDue gs ds

parts-joined : (n : ℕ) (gs : Grounds) → joined (take_first n gs) (drop_first n gs) ≡ gs
parts-joined zero gs = refl
parts-joined (suc n) gnil = refl
parts-joined (suc n) (gcons g gs) = ap (gcons g) (parts-joined n gs)

parts-sorted : (S : Signature) (gs : Grounds) (ks js : List ℕ) → SortedGs S gs (ks ++ js) →
    SortedGs S (take_first (length ks) gs) ks × SortedGs S (drop_first (length ks) gs) js
parts-sorted S gs [] js h = (tt, h)
parts-sorted S gnil (k ∷ ks) js h = absurd h
parts-sorted S (gcons g gs) (k ∷ ks) js h =
    let r = parts-sorted S gs ks js h.1 in
    ((h.0, r.0), r.1)

parts_fit : (gs : Grounds) (level : ℕ) (ks : List ℕ) (ds : List Due) → level ≤ suc most_levels → FitsDue gs (places_at level ks ++ ds) →
    (level + levels_all (as_terms (take_first (length ks) gs)) ≤ suc most_levels) × FitsDue (drop_first (length ks) gs) ds
parts_fit gs level [] ds h f = (omega arith, f)
parts_fit gnil level (k ∷ ks) ds h f = absurd f
parts_fit (gcons g gs) level (k ∷ ks) ds h f =
    let r = parts_fit gs level ks ds h f.1 in
    let p = f.0 in
    let q = r.0 in
    (omega arith, r.1)

joined_fit : (S : Signature) (hs gs : Grounds) (level : ℕ) (ks : List ℕ) (ds : List Due) → SortedGs S hs ks →
    level + levels_all (as_terms hs) ≤ suc most_levels → FitsDue gs ds → FitsDue (joined hs gs) (places_at level ks ++ ds)
joined_fit S gnil gs level [] ds s h f = f
joined_fit S gnil gs level (k ∷ ks) ds s h f = absurd s
joined_fit S (gcons g hs) gs level [] ds s h f = absurd s
joined_fit S (gcons g hs) gs level (k ∷ ks) ds s h f = (omega arith, joined_fit S hs gs level ks ds s.1 (omega arith) f)

-- The first of the joined terms are those in front, and the rest those behind.
joined-parts : (S : Signature) (hs gs : Grounds) (ks : List ℕ) → SortedGs S hs ks →
    (take_first (length ks) (joined hs gs) ≡ hs) × (drop_first (length ks) (joined hs gs) ≡ gs)
joined-parts S gnil gs [] s = (refl, refl)
joined-parts S gnil gs (k ∷ ks) s = absurd s
joined-parts S (gcons g hs) gs [] s = absurd s
joined-parts S (gcons g hs) gs (k ∷ ks) s =
    let r = joined-parts S hs gs ks s.1 in
    (ap (gcons g) r.0, r.1)

-- Terms behind those that are put below a word stay behind.
with_joined : (S : Signature) (f : ℕ) (gs hs : Grounds) (ks js : List ℕ) → SortedGs S gs (ks ++ js) →
    with_node (length ks) f (joined gs hs) ≡ joined (with_node (length ks) f gs) hs
with_joined S f gs hs ks js s =
    let r = both gs ks s in
    ap₂ (λ a b. gcons (gapp f a) b) r.0 r.1
  where
    both : (gs : Grounds) (ks : List ℕ) → SortedGs S gs (ks ++ js) →
        (take_first (length ks) (joined gs hs) ≡ take_first (length ks) gs) × (drop_first (length ks) (joined gs hs) ≡ joined (drop_first (length ks) gs) hs)
    both gs [] s = (refl, refl)
    both gnil (k ∷ ks) s = absurd s
    both (gcons g gs) (k ∷ ks) s =
        let r = both gs ks s.1 in
        (ap (gcons g) r.0, r.1)

-- ---- what is read

-- The complete terms gs were read off l, one for each that is due, and r is left.
pub record HasValues (W : Vocabulary) (due : List Due) (l : List ℕ) (gs : Grounds) (r : List ℕ) : Type 0 where
  pub bytes : l ≡ encode_all W (as_terms gs) ++ r
  pub sorted : SortedGs (signature W) gs (sorts_due due)
  pub fits : FitsDue gs due

abbrev pub Values : Vocabulary → List Due → List ℕ → Got Grounds → Type 0
Values W due l (got gs r) = HasValues W due l gs r
Values W due l (stop n r) = Unit {0}

module _ (W : Vocabulary) (in_order : InOrder W) where
  pub behind-due : (d : Due) (ds : List Due) (f : ℕ) → Word? W f → behind W d ds f ≡ places_at (suc d.level) (word W f).kinds ++ ds
  behind-due d ds f known =
      ap (λ l. l ++ ds) (full-due (suc d.level) (flags (map_of W f)) (word W f).kinds (word-in_order W f in_order known).count)

  pub behind-sorts : (d : Due) (ds : List Due) (f : ℕ) → Word? W f → sorts_due (behind W d ds f) ≡ (word W f).kinds ++ sorts_due ds
  behind-sorts d ds f known = ap sorts_due (behind-due d ds f known) ∙ places-sorts (suc d.level) (word W f).kinds ds

  -- The terms behind a full word, the first of them put below it.
  node-values : (d : Due) (ds : List Due) (l : List ℕ) (f : ℕ) (r : List ℕ) (gs : Grounds) (r' : List ℕ) → d.level ≤ most_levels →
      FullStands W d.sort l f r → HasValues W (behind W d ds f) r gs r' → HasValues W (d ∷ ds) l (with_node (length (word W f).kinds) f gs) r'
  node-values d ds l f r gs r' low w h =
      let n : ℕ = length (word W f).kinds in
      let s =
      parts-sorted (signature W) gs (word W f).kinds (sorts_due ds) (subst (SortedGs (signature W) gs) (behind-sorts d ds f w.known) h.sorted) in
      let p =
      parts_fit gs (suc d.level) (word W f).kinds ds (omega arith) (subst (FitsDue gs) (behind-due d ds f w.known) h.fits) in
      let deep = p.0 in
      let of : SortedG (signature W) (gapp f (take_first n gs)) d.sort = (
        subst (λ k. f < k) (sym (length_symbols W)) w.known,
        result-word W f ∙ w.due,
        subst (SortedGs (signature W) (take_first n gs)) (sym (arguments-word W f)) s.0,
      ) in
      record {
        bytes =
            w.bytes
            ∙ ap {B = List ℕ} (λ z. f ∷ (write_map (map_of W f) ++ z)) h.bytes
            ∙ ap {B = List ℕ} (λ z. f ∷ (write_map (map_of W f) ++ (encode_all W (as_terms z) ++ r'))) (sym (parts-joined n gs))
            ∙ sym (first-node W in_order f (take_first n gs) (drop_first n gs) d.sort r' of);
        sorted = (of, s.1);
        fits = (omega arith, p.1);
      }

  full-read : (n : ℕ) (due : List Due) (l : List ℕ) → Values W due l (read_full W n due l)
  full-read zero due l = tt
  full-read (suc n) [] l = record { bytes = refl; sorted = tt; fits = tt }
  full-read (suc n) (d ∷ ds) l = level (ltb most_levels d.level) refl (full-read n)
    where
      places : (f : ℕ) (r : List ℕ) → d.level ≤ most_levels → FullStands W d.sort l f r → (x : Got Grounds) → Values W (behind W d ds f) r x →
          Values W (d ∷ ds) l (and_then x (put W f))
      places f r low w (stop k r') h = tt
      places f r low w (got gs r') h = node-values d ds l f r gs r' low w h

      node : (x : Got ℕ) → Stands W d.sort l x → d.level ≤ most_levels →
          ((due : List Due) (l : List ℕ) → Values W due l (read_full W n due l)) →
          Values W (d ∷ ds) l (and_then x (λ f r. and_then (read_full W n (behind W d ds f) r) (put W f)))
      node (stop k r) w low ih = tt
      node (got f r) w low ih = places f r low w (read_full W n (behind W d ds f) r) (ih (behind W d ds f) r)

      level : (b : Bool) → ltb most_levels d.level ≡ b → ((due : List Due) (l : List ℕ) → Values W due l (read_full W n due l)) →
          Values W (d ∷ ds) l
          (elim b [
            | true ↦ stop 22 l
            | false ↦ and_then (full_word W d.sort l) (λ f r. and_then (read_full W n (behind W d ds f) r) (put W f))
          ])
      level true e ih = tt
      level false e ih = node (full_word W d.sort l) (full-stands W d.sort l) (let h = ltb-false most_levels d.level e in omega arith) ih

  pub values-read : (due : List Due) (l : List ℕ) → Values W due l (read_values W due l)
  values-read due l = full-read (suc (length l)) due l

  -- ---- what is written

  written_below : (n : ℕ) (due : List Due) (gs : Grounds) (r : List ℕ) → length (encode_all W (as_terms gs) ++ r) < n →
      SortedGs (signature W) gs (sorts_due due) → FitsDue gs due → read_values W due (encode_all W (as_terms gs) ++ r) ≡ got gs r
  written_below zero due gs r m s f = absurd (omega arith)
  written_below (suc n) [] gnil r m s f = refl
  written_below (suc n) [] (gcons g gs) r m s f = absurd s
  written_below (suc n) (d ∷ ds) gnil r m s f = absurd s
  written_below (suc n) (d ∷ ds) (gcons (gapp h hs) gs) r m s f =
      let known = known-word W in_order h hs d.sort s.0 in
      let args : SortedGs (signature W) hs (word W h).kinds = subst (SortedGs (signature W) hs) (arguments-word W h) s.0.2 in
      let bytes = first-node W in_order h hs gs d.sort r s.0 in
      let deep = f.0 in
      let parts = joined-parts (signature W) hs gs (word W h).kinds args in
      ap (read_values W (d ∷ ds)) bytes
      ∙ values-node W d ds (h ∷ (write_map (map_of W h) ++ (encode_all W (as_terms (joined hs gs)) ++ r))) (omega arith)
      ∙ ap (λ x. and_then x (λ k z. and_then (read_values W (behind W d ds k) z) (put W k)))
      (full-word W d.sort h (encode_all W (as_terms (joined hs gs)) ++ r) known (sym (result-word W h) ∙ s.0.1))
      ∙ ap (λ x. and_then x (put W h))
      (written_below n (behind W d ds h) (joined hs gs) r (omega (arith, ap length bytes))
      (subst (SortedGs (signature W) (joined hs gs)) (sym (behind-sorts d ds h known))
      (joined-sorted (signature W) hs gs (word W h).kinds (sorts_due ds) args s.1))
      (subst (FitsDue (joined hs gs)) (sym (behind-due d ds h known))
      (joined_fit (signature W) hs gs (suc d.level) (word W h).kinds ds args (omega arith) f.1)))
      ∙ ap₂ (λ a b. got (gcons (gapp h a) b) r) parts.0 parts.1

  pub values-written : (due : List Due) (gs : Grounds) (r : List ℕ) → SortedGs (signature W) gs (sorts_due due) → FitsDue gs due →
      read_values W due (encode_all W (as_terms gs) ++ r) ≡ got gs r
  values-written due gs r s f = written_below (suc (length (encode_all W (as_terms gs) ++ r))) due gs r (omega arith) s f

  -- ---- part by part

  -- Behind the terms gs those that are due as es.
  abbrev pub then_due : List Due → Grounds → List ℕ → Got Grounds
  then_due es gs r = and_then (read_values W es r) (λ hs r'. got (joined gs hs) r')

  append-below : (n : ℕ) (ds es : List Due) (l : List ℕ) → length l < n → read_values W (ds ++ es) l ≡ and_then (read_values W ds l) (then_due es)
  append-below zero ds es l m = absurd (omega arith)
  append-below (suc n) [] es l m = sym (same (read_values W es l))
    where
      same : (x : Got Grounds) → and_then x (λ hs r'. got hs r') ≡ x
      same (got gs r) = refl
      same (stop k r) = refl
  append-below (suc n) (d ∷ ds) es l m = level (ltb most_levels d.level) refl (append-below n)
    where
      Shorter : Type 0
      Shorter = (ds es : List Due) (l : List ℕ) → length l < n → read_values W (ds ++ es) l ≡ and_then (read_values W ds l) (then_due es)

      last : (f : ℕ) (gs : Grounds) → SortedGs (signature W) gs ((word W f).kinds ++ sorts_due ds) → (x : Got Grounds) →
          and_then (and_then x (λ hs r'. got (joined gs hs) r')) (put W f)
          ≡ and_then x (λ hs r'. got (joined (with_node (length (word W f).kinds) f gs) hs) r')
      last f gs s (stop k r) = refl
      last f gs s (got hs r) = ap (λ z. got z r) (with_joined (signature W) f gs hs (word W f).kinds (sorts_due ds) s)

      places : (f : ℕ) (r : List ℕ) → Word? W f → (x : Got Grounds) → Values W (behind W d ds f) r x →
          and_then (and_then x (then_due es)) (put W f) ≡ and_then (and_then x (put W f)) (then_due es)
      places f r known (stop k r') h = refl
      places f r known (got gs r') h = last f gs (subst (SortedGs (signature W) gs) (behind-sorts d ds f known) h.sorted) (read_values W es r')

      node : (x : Got ℕ) → Stands W d.sort l x → Shorter →
          and_then x (λ f r. and_then (read_values W (behind W d (ds ++ es) f) r) (put W f))
          ≡ and_then (and_then x (λ f r. and_then (read_values W (behind W d ds f) r) (put W f))) (then_due es)
      node (stop k r) w ih = refl
      node (got f r) w ih =
          ap (λ due. and_then (read_values W due r) (put W f)) (sym (append_assoc (due_at (suc d.level) (full_slots W f)) ds es))
          ∙ ap (λ x. and_then x (put W f)) (ih (behind W d ds f) es r (omega (arith, ap length w.bytes)))
          ∙ places f r w.known (read_values W (behind W d ds f) r) (values-read (behind W d ds f) r)

      level : (b : Bool) → ltb most_levels d.level ≡ b → Shorter → read_values W (d ∷ (ds ++ es)) l ≡ and_then (read_values W (d ∷ ds) l) (then_due es)
      level true e ih =
          let h = ltb-true most_levels d.level e in
          values-limit W d (ds ++ es) l h ∙ ap (λ x. and_then x (then_due es)) (sym (values-limit W d ds l h))
      level false e ih =
          let h : d.level ≤ most_levels = ltb-false most_levels d.level e in
          values-node W d (ds ++ es) l h
          ∙ node (full_word W d.sort l) (full-stands W d.sort l) ih
          ∙ ap (λ x. and_then x (then_due es)) (sym (values-node W d ds l h))

  pub values-append : (ds es : List Due) (l : List ℕ) →
      read_values W (ds ++ es) l ≡ and_then (read_values W ds l) (λ gs r. and_then (read_values W es r) (λ hs r'. got (joined gs hs) r'))
  values-append ds es l = append-below (suc (length l)) ds es l (omega arith)
