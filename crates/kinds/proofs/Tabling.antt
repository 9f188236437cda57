-- Tabling: one table of each word's siblings, from the chains and the tally.
--
--   cleared               a table with no word: the counts are 0, the words are 255
--   SiblingsTo            the words below h have their siblings
--   siblings_none, siblings_turn, siblings-all   how that begins, goes on and ends
--
use mathlib.Core.Path.{◌≡◌, sym, ap, ◌∙◌, subst}
use mathlib.Core.List.{List, [], ◌++◌, append-nil}
use Prim.Native.Nat.{ℕ, ◌+◌, ◌-◌, ◌<◌, ◌≤◌}
use native.Mathlib.Decide.{ℕ_discrete}
use native.Mathlib.Omega.{arith}
use lib.ListN.{length, get_or, set, replicate, length-set, length-append, length-replicate, get_or-append, get_or-replicate}
use Rattle.std.proofs.lemmas.List.{get_or-append-add}
use lib.Seq.{get_or-set_same, get_or-set_other}
use Rattle.wire.specs.Vocabulary.{most_words}
use Rattle.kinds.specs.Kinds.{kind_in, lowest, others_in, Tallied, Chained, SiblingTable}
use Rattle.kinds.proofs.Others.{siblings-here}

-- ---- no word

abbrev words : List ℕ
words = replicate 256 255

-- The counts of a table are 0, its words are 255.
pub cleared : {ys : List ℕ} → ys ≡ replicate 128 0 → SiblingTable 0 [] (words ++ (ys ++ []))
cleared {ys} e = record {
  size = length-append words (ys ++ []) ∙ ap (λ n. length words + n) (ap length (append-nil ys ∙ e) ∙ length-replicate {A = ℕ} 128 0) ∙ ap (λ n. n + 128) (length-replicate {A = ℕ} 256 255);
  next = λ h k. absurd (omega arith);
  first = λ h k. absurd (omega arith);
  many = λ h k. absurd (omega arith);
  none = λ h a b. (word h (omega arith), (word (128 + h) (omega arith), count h b));
}
  where
    word : (i : ℕ) → i < 256 → get_or (words ++ (ys ++ [])) i 0 ≡ 255
    word i k = get_or-append words (ys ++ []) 0 i (omega (arith, length-replicate {A = ℕ} 256 255)) ∙ get_or-replicate 256 i 255 0 k

    count : (i : ℕ) → i < 128 → get_or (words ++ (ys ++ [])) (256 + i) 0 ≡ 0
    count i k =
        ap (λ n. get_or (words ++ (ys ++ [])) (n + i) 0) (sym (length-replicate {A = ℕ} 256 255))
        ∙ get_or-append-add words (ys ++ []) i 0
        ∙ ap (λ l. get_or l i 0) (append-nil ys ∙ e)
        ∙ get_or-replicate 128 i 0 0 k

-- ---- word by word

pub record SiblingsTo (n : ℕ) (results table : List ℕ) (h : ℕ) : Type 0 where
  pub below : h ≤ n
  pub size : length table ≡ 384
  pub next : (g : ℕ) → g < h → get_or table g 0 ≡ lowest n results (kind_in results g) (g + 1)
  pub first : (g : ℕ) → g < h → get_or table (128 + g) 0 ≡ lowest n results (kind_in results g) 0
  pub many : (g : ℕ) → g < h → get_or table (256 + g) 0 ≡ length (others_in n results g)
  pub none : (g : ℕ) → h ≤ g → g < 128 → (get_or table g 0 ≡ 255) × ((get_or table (128 + g) 0 ≡ 255) × (get_or table (256 + g) 0 ≡ 0))

pub siblings_none : (n : ℕ) (results : List ℕ) {table : List ℕ} → SiblingTable 0 [] table → SiblingsTo n results table 0
siblings_none n results t = record {
  below = omega arith;
  size = t.size;
  next = λ g k. absurd (omega arith);
  first = λ g k. absurd (omega arith);
  many = λ g k. absurd (omega arith);
  none = t.none;
}

pub siblings-all : {n h : ℕ} {results table : List ℕ} → SiblingsTo n results table h → n ≤ h → SiblingTable n results table
siblings-all s done =
    let below = s.below in
    record {
      size = s.size;
      next = λ g k. s.next g (omega arith);
      first = λ g k. s.first g (omega arith);
      many = λ g k. s.many g (omega arith);
      none = λ g k. s.none g (omega arith);
    }

-- Three entries are set: those of the word h.
module _ (table : List ℕ) (h a b c : ℕ) (size : length table ≡ 384) (low : h < 128) where
  abbrev one : List ℕ
  one = set table h a

  abbrev two : List ℕ
  two = set one (128 + h) b

  abbrev three : List ℕ
  three = set two (256 + h) c

  one_size : length one ≡ 384
  one_size = length-set table h a ∙ size

  two_size : length two ≡ 384
  two_size = length-set one (128 + h) b ∙ one_size

  pub three_size : length three ≡ 384
  three_size = length-set two (256 + h) c ∙ two_size

  pub own-next : get_or three h 0 ≡ a
  own-next =
      get_or-set_other two (256 + h) h c 0 (λ e. omega arith) ∙ get_or-set_other one (128 + h) h b 0 (λ e. omega arith)
      ∙ get_or-set_same table h a 0 (omega arith)

  pub own_first : get_or three (128 + h) 0 ≡ b
  own_first = get_or-set_other two (256 + h) (128 + h) c 0 (λ e. omega arith) ∙ get_or-set_same one (128 + h) b 0 (omega (arith, one_size))

  pub own-many : get_or three (256 + h) 0 ≡ c
  own-many = get_or-set_same two (256 + h) c 0 (omega (arith, two_size))

  pub other_word : (i : ℕ) → (i ≡ h → ⊥) → (i ≡ 128 + h → ⊥) → (i ≡ 256 + h → ⊥) → get_or three i 0 ≡ get_or table i 0
  other_word i x y z = get_or-set_other two (256 + h) i c 0 z ∙ get_or-set_other one (128 + h) i b 0 y ∙ get_or-set_other table h i a 0 x

module _ {n h k : ℕ} {results table chains counts : List ℕ} (s : SiblingsTo n results table h) (few : n ≤ most_words) (inside : h < n)
    (chained : Chained n results chains) (tallied : Tallied n results counts) (same : k ≡ kind_in results h) where
  abbrev a : ℕ
  a = get_or chains h 0

  abbrev b : ℕ
  b = get_or chains (most_words + k) 0

  abbrev c : ℕ
  c = get_or counts k 0 - 1

  abbrev turned : List ℕ
  turned = three table h a b c s.size (omega arith)

  pub some_sibling : get_or counts k 0 ≡ 1 + length (others_in n results h)
  some_sibling = siblings-here h k tallied inside same

  abbrev Entries : ℕ → Type 0
  Entries g =
      (get_or turned g 0 ≡ lowest n results (kind_in results g) (g + 1)) ×
      ((get_or turned (128 + g) 0 ≡ lowest n results (kind_in results g) 0) × (get_or turned (256 + g) 0 ≡ length (others_in n results g)))

  own : Entries h
  own = (
    own-next table h a b c s.size (omega arith) ∙ chained.next h (omega arith),
    (
      own_first table h a b c s.size (omega arith) ∙ chained.first k (omega arith) ∙ ap (λ i. lowest n results i 0) same,
      own-many table h a b c s.size (omega arith) ∙ omega (arith, some_sibling),
    ),
  )

  kept : (i : ℕ) → (i ≡ h → ⊥) → (i ≡ 128 + h → ⊥) → (i ≡ 256 + h → ⊥) → get_or turned i 0 ≡ get_or table i 0
  kept = other_word table h a b c s.size (omega arith)

  before : (g : ℕ) → g < h → Entries g
  before g l = (
    kept g (λ z. omega arith) (λ z. omega arith) (λ z. omega arith) ∙ s.next g l,
    (
      kept (128 + g) (λ z. omega arith) (λ z. omega arith) (λ z. omega arith) ∙ s.first g l,
      kept (256 + g) (λ z. omega arith) (λ z. omega arith) (λ z. omega arith) ∙ s.many g l,
    ),
  )

  entries : (g : ℕ) → g < h + 1 → Entries g
  entries g l = elim (ℕ_discrete g h) [ yes e ↦ subst Entries (sym e) own | no e ↦ before g (omega arith) ]

  pub siblings_turn : SiblingsTo n results turned (h + 1)
  siblings_turn = record {
    below = omega arith;
    size = three_size table h a b c s.size (omega arith);
    next = λ g l. (entries g l).0;
    first = λ g l. (entries g l).1.0;
    many = λ g l. (entries g l).1.1;
    none = λ g l w.
        let t = s.none g (omega arith) w in (
          kept g (λ z. omega arith) (λ z. omega arith) (λ z. omega arith) ∙ t.0,
          (
            kept (128 + g) (λ z. omega arith) (λ z. omega arith) (λ z. omega arith) ∙ t.1.0,
            kept (256 + g) (λ z. omega arith) (λ z. omega arith) (λ z. omega arith) ∙ t.1.1,
          ),
        );
  }
