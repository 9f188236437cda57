-- Nodes: what stands where a term is due, by the facts that the code tests.
--
--   within_and, within_not    a written map against a place map
--   node-ends .. node-unknown     what the bytes say, no names seen
--   seen_node, node_seen       the same once names have been seen
--   node-root, node-whole     at the root
--
use mathlib.Core.Path.{◌≡◌, refl, sym, ap, ◌∙◌}
use mathlib.Core.Bool.{Bool, true, false, not, ◌&&◌, cond}
use mathlib.Core.List.{List, [], ◌∷◌}
use Prim.Native.Nat.{ℕ, zero, suc, ◌-◌, ◌/◌, ◌%◌, ◌^◌, ◌<◌, ◌≤◌, min}
use native.Mathlib.Nat.{pow-suc}
use native.Mathlib.Omega.{arith}
use lib.Bits.{bit_and, and_step, and_zero_l}
use lib.Dec.{eqb}
use lib.ListN.{length, get_or, drop}
use borrow.Author.Tests.{lt-ltb, le-ltb, eq-eqb, ne_eqb, eqb-true, eqb-false}
use Rattle.terms.specs.Term.{Occurrence}
use Rattle.terms.proofs.Bools.{and_parts, and_both}
use Rattle.wire.specs.Map.{MapRead, read_map, flags_in, flags, within, slots, map_got, map_missing}
use Rattle.wire.specs.Vocabulary.{Vocabulary, word, map_of}
use Rattle.wire.specs.Reply.{outside}
use Rattle.wire.specs.Parser.{Node, word_here, name_here, whole_here, fault, map_node, word_node, name_node, node, clash, is_word, is_name}
use Rattle.wire.proofs.Outside.{inside-outside, outside_false}

-- ---- a written map against a place map

-- A lowest bit that stands in both, or not in the first, and the bits above it.
low-within : (b c : ℕ) → min (b % 2) (c % 2) ≡ b % 2 → cond (eqb (b % 2) 1) (eqb (c % 2) 1) true ≡ true
low-within b c e = go (eqb (b % 2) 1) refl
  where
    go : (t : Bool) → eqb (b % 2) 1 ≡ t → cond t (eqb (c % 2) 1) true ≡ true
    go true p = let q = eqb-true (b % 2) 1 p in eq-eqb (c % 2) 1 (omega arith)
    go false p = refl

pub within_and : (d m p : ℕ) → m < 2 ^ d → bit_and m p ≡ m → within (flags_in d m) (flags_in d p) ≡ true
within_and zero m p h e = refl
within_and (suc d) m p h e =
    let step = and_step m p in
    and_both _ _ (low-within m p (omega arith)) (within_and d (m / 2) (p / 2) (omega (arith, pow-suc 2 d)) (omega arith))

within_low : (b c : ℕ) → cond (eqb (b % 2) 1) (eqb (c % 2) 1) true ≡ true → min (b % 2) (c % 2) ≡ b % 2
within_low b c e = go (eqb (b % 2) 1) refl
  where
    go : (t : Bool) → eqb (b % 2) 1 ≡ t → min (b % 2) (c % 2) ≡ b % 2
    go true p =
        let q = eqb-true (b % 2) 1 p in
        let r = eqb-true (c % 2) 1 (sym (ap (λ t. cond t (eqb (c % 2) 1) true) p) ∙ e) in
        omega arith
    go false p = let q = eqb-false (b % 2) 1 p in omega arith

and_within : (d m p : ℕ) → m < 2 ^ d → within (flags_in d m) (flags_in d p) ≡ true → bit_and m p ≡ m
and_within zero m p h e = let q : m ≡ 0 = omega arith in rw q (and_zero_l p)
and_within (suc d) m p h e =
    let both = and_parts _ _ e in
    let low = within_low m p both.0 in
    let high = and_within d (m / 2) (p / 2) (omega (arith, pow-suc 2 d)) both.1 in
    let step = and_step m p in
    omega arith

pub within_not : (m p : ℕ) → m < 256 → (bit_and m p ≡ m → ⊥) → within (flags m) (flags p) ≡ false
within_not m p h n = go (within (flags m) (flags p)) refl
  where
    go : (b : Bool) → within (flags m) (flags p) ≡ b → b ≡ false
    go true e = absurd (n (and_within 8 m p h e))
    go false e = refl

-- ---- what the bytes say

module _ (W : Vocabulary) (s : ℕ) where
  pub node-ends : (l : List ℕ) → length l ≡ 0 → node W false s [] l ≡ fault 9 []
  node-ends [] h = refl
  node-ends (b ∷ l) h = absurd (omega arith)

  pub node-differs : (l : List ℕ) → 0 < length l → get_or l 0 0 < length W.words → ((word W (get_or l 0 0)).result ≡ s → ⊥) →
      node W false s [] l ≡ fault 12 l
  node-differs [] h k d = absurd (omega arith)
  node-differs (b ∷ l) h k d = rw (lt-ltb b (length W.words) k, ne_eqb (word W b).result s d)

  pub node-short : (l : List ℕ) → 0 < length l → length l < 2 → get_or l 0 0 < length W.words → (word W (get_or l 0 0)).result ≡ s →
      node W false s [] l ≡ fault 9 (drop 1 l)
  node-short [] h g k e = absurd (omega arith)
  node-short (b ∷ []) h g k e = rw (lt-ltb b (length W.words) k, eq-eqb (word W b).result s e)
  node-short (b ∷ m ∷ l) h g k e = absurd (omega arith)

  pub node-stray : (l : List ℕ) → 2 ≤ length l → get_or l 0 0 < length W.words → (word W (get_or l 0 0)).result ≡ s →
      within (flags (get_or l 1 0)) (flags (map_of W (get_or l 0 0))) ≡ false → node W false s [] l ≡ fault 14 (drop 1 l)
  node-stray [] h k e w = absurd (omega arith)
  node-stray (b ∷ []) h k e w = absurd (omega arith)
  node-stray (b ∷ m ∷ l) h k e w = rw (lt-ltb b (length W.words) k, eq-eqb (word W b).result s e, w)

  pub node-word : (l : List ℕ) → 2 ≤ length l → get_or l 0 0 < length W.words → (word W (get_or l 0 0)).result ≡ s →
      within (flags (get_or l 1 0)) (flags (map_of W (get_or l 0 0))) ≡ true →
      node W false s [] l ≡ word_here (get_or l 0 0) (slots (flags (map_of W (get_or l 0 0))) (flags (get_or l 1 0)) (word W (get_or l 0 0)).kinds) (drop 2 l)
  node-word [] h k e w = absurd (omega arith)
  node-word (b ∷ []) h k e w = absurd (omega arith)
  node-word (b ∷ m ∷ l) h k e w = rw (lt-ltb b (length W.words) k, eq-eqb (word W b).result s e, w)

  pub node-name : (l : List ℕ) → 0 < length l → length W.words ≤ get_or l 0 0 → 128 ≤ get_or l 0 0 → get_or l 0 0 < 192 →
      node W false s [] l ≡ name_here (get_or l 0 0 - 128) (drop 1 l)
  node-name [] h k p q = absurd (omega arith)
  node-name (b ∷ l) h k p q = rw (le-ltb b (length W.words) k, inside-outside 128 191 b p (omega arith))

  pub node-unknown : (l : List ℕ) → 0 < length l → length W.words ≤ get_or l 0 0 → (128 ≤ get_or l 0 0 → get_or l 0 0 < 192 → ⊥) →
      node W false s [] l ≡ fault 11 l
  node-unknown [] h k n = absurd (omega arith)
  node-unknown (b ∷ l) h k n = rw (le-ltb b (length W.words) k) (go (outside 128 191 b) refl)
    where
      go : (t : Bool) → outside 128 191 b ≡ t → cond (not t) (cond (clash [] (b - 128) s) (fault 13 (b ∷ l)) (name_here (b - 128) l)) (fault 11 (b ∷ l)) ≡ fault 11 (b ∷ l)
      go true e = refl
      go false e = absurd (n (outside_false 128 191 b e).0 (omega (arith, (outside_false 128 191 b e).1)))

-- ---- names seen, and the root

-- What stands there once names have been seen.
abbrev pub seen_node : List Occurrence → ℕ → List ℕ → Node → Node
seen_node seen s l (word_here f ks r) = word_here f ks r
seen_node seen s l (name_here k r) = cond (clash seen k s) (fault 13 l) (name_here k r)
seen_node seen s l (whole_here r) = whole_here r
seen_node seen s l (fault k r) = fault k r

seen_cond : (seen : List Occurrence) (s : ℕ) (l : List ℕ) (b : Bool) (x y z : Node) → x ≡ seen_node seen s l x → y ≡ seen_node seen s l z →
    cond b x y ≡ seen_node seen s l (cond b x z)
seen_cond seen s l true x y z e f = e
seen_cond seen s l false x y z e f = f

-- A word, a 255 and a fault do not ask for names.
Nameless : Node → Type 0
Nameless x = (seen : List Occurrence) (s : ℕ) (l : List ℕ) → x ≡ seen_node seen s l x

nameless_cond : (b : Bool) (x y : Node) → Nameless x → Nameless y → Nameless (cond b x y)
unfolding Nameless
nameless_cond true x y p q = p
nameless_cond false x y p q = q

nameless-map : (W : Vocabulary) (f : ℕ) (l : List ℕ) (m : MapRead) → Nameless (map_node W f l m)
unfolding Nameless
nameless-map W f l (map_missing r) = λ seen s l. refl
nameless-map W f l (map_got m r) = nameless_cond (within (flags m) (flags (map_of W f))) _ _ (λ seen s l. refl) (λ seen s l. refl)

nameless-word : (W : Vocabulary) (s f : ℕ) (l : List ℕ) → Nameless (word_node W s f l)
unfolding Nameless
nameless-word W s f l = nameless_cond (eqb (word W f).result s) _ _ (nameless-map W f l (read_map l)) (λ seen s l. refl)

pub node_seen : (W : Vocabulary) (root : Bool) (s : ℕ) (seen : List Occurrence) (l : List ℕ) →
    node W root s seen l ≡ seen_node seen s l (node W root s [] l)
unfolding Nameless
node_seen W root s seen [] = refl
node_seen W root s seen (b ∷ l) =
    seen_cond seen s (b ∷ l) (is_word W b) (word_node W s b l) _ _ (nameless-word W s b l seen s (b ∷ l)) (go (is_name b))
  where
    last : Node
    last = cond (root && eqb b 255) (whole_here l) (fault 11 (b ∷ l))

    go : (t : Bool) → cond t (name_node s seen b l) last ≡ seen_node seen s (b ∷ l) (cond t (name_here (b - 128) l) last)
    go true = refl
    go false = nameless_cond (root && eqb b 255) (whole_here l) (fault 11 (b ∷ l)) (λ seen s l. refl) (λ seen s l. refl) seen s (b ∷ l)

-- Only 255 is another thing at the root than below it.
pub node-root : (W : Vocabulary) (s : ℕ) (seen : List Occurrence) (l : List ℕ) → (get_or l 0 0 ≡ 255 → ⊥) → node W true s seen l ≡ node W false s seen l
node-root W s seen [] n = refl
node-root W s seen (b ∷ l) n = rw (ne_eqb b 255 n)

pub node-whole : (W : Vocabulary) (s : ℕ) (seen : List Occurrence) (l : List ℕ) → 0 < length l → get_or l 0 0 ≡ 255 → length W.words ≤ 96 →
    node W true s seen l ≡ whole_here (drop 1 l)
node-whole W s seen [] h e few = absurd (omega arith)
node-whole W s seen (b ∷ l) h e few = rw (e, le-ltb 255 (length W.words) (omega arith))
