-- Node: what stands where a term is due, from facts about its bytes, and those facts from what stands.
use mathlib.Core.Path.{◌≡◌, refl, ap, ◌∙◌}
use mathlib.Core.Bool.{Bool, true, false, not, cond, ◌&&◌}
use mathlib.Core.List.{List, [], ◌∷◌, ◌++◌}
use Prim.Native.Nat.{ℕ, ◌+◌, ◌-◌, ◌<◌}
use native.Mathlib.Omega.{arith}
use lib.Dec.{eqb}
use lib.ListN.{length}
use borrow.Author.Tests.{ltb-true, lt-ltb, le-ltb, eq-eqb, ne_eqb, eqb-true, not-true}
use Rattle.terms.specs.Term.{Occurrence}
use Rattle.terms.proofs.Bools.{and_parts}
use Rattle.wire.specs.Map.{MapRead, write_map, read_map, flags, within, Slot, slots, map_got, map_missing}
use Rattle.wire.specs.Vocabulary.{Vocabulary, InOrder, word, map_of}
use Rattle.wire.specs.TermBytes.{name_byte, name_count, first_name_byte, whole_byte}
use Rattle.wire.specs.Parser.{Node, word_here, name_here, whole_here, fault, clash, is_word, is_name, map_node, word_node, name_node, node}
use Rattle.wire.specs.TermLines.{Word?, Name?, Clash}
use Rattle.wire.proofs.Cond.{cond_true, cond_false, choice}
use Rattle.wire.proofs.Outside.{outside_false, inside-outside}
use Rattle.wire.proofs.Map.{write-read_map}
use Rattle.wire.proofs.Seen.{clash_tested, clash_none}

-- ---- a name's byte, tested

pub name_tested : (b n : ℕ) → Name? b n → is_name b ≡ true
name_tested b n h = ap not (inside-outside first_name_byte (first_name_byte + name_count - 1) b (omega arith) (omega arith))

pub name_meant : (b : ℕ) → is_name b ≡ true → Name? b (b - first_name_byte)
name_meant b e = let h = outside_false first_name_byte (first_name_byte + name_count - 1) b (not-true _ e) in (omega arith, omega arith)

-- ---- from what stands to the node

module _ (W : Vocabulary) (root : Bool) (s : ℕ) (seen : List Occurrence) where
  node-word : (f : ℕ) (l : List ℕ) → Word? W f → node W root s seen (f ∷ l) ≡ word_node W s f l
  node-word f l h = cond_true (is_word W f) _ _ (lt-ltb f _ h)

  node-map : (f : ℕ) (l : List ℕ) (v : MapRead) → Word? W f → (word W f).result ≡ s → read_map l ≡ v →
      node W root s seen (f ∷ l) ≡ map_node W f l v
  node-map f l v h k e =
      node-word f l h ∙ cond_true (eqb (word W f).result s) _ _ (eq-eqb _ _ k) ∙ ap (map_node W f l) e

  pub node-short : (f : ℕ) (l r : List ℕ) → Word? W f → (word W f).result ≡ s → read_map l ≡ map_missing r →
      node W root s seen (f ∷ l) ≡ fault 9 r
  node-short f l r h k e = node-map f l (map_missing r) h k e

  pub node-differs : (f : ℕ) (l : List ℕ) → Word? W f → ((word W f).result ≡ s → ⊥) → node W root s seen (f ∷ l) ≡ fault 12 (f ∷ l)
  node-differs f l h k = node-word f l h ∙ cond_false (eqb (word W f).result s) _ _ (ne_eqb _ _ k)

  pub node-stray : (f m : ℕ) (l r : List ℕ) → Word? W f → (word W f).result ≡ s → read_map l ≡ map_got m r →
      within (flags m) (flags (map_of W f)) ≡ false → node W root s seen (f ∷ l) ≡ fault 14 l
  node-stray f m l r h k e p = node-map f l (map_got m r) h k e ∙ cond_false (within (flags m) (flags (map_of W f))) _ _ p

  pub node-symbol : (f m : ℕ) (l r : List ℕ) → Word? W f → (word W f).result ≡ s → read_map l ≡ map_got m r →
      within (flags m) (flags (map_of W f)) ≡ true →
      node W root s seen (f ∷ l) ≡ word_here f (slots (flags (map_of W f)) (flags m) (word W f).kinds) r
  node-symbol f m l r h k e p = node-map f l (map_got m r) h k e ∙ cond_true (within (flags m) (flags (map_of W f))) _ _ p

  node-name_node : InOrder W → (b n : ℕ) (l : List ℕ) → Name? b n → node W root s seen (b ∷ l) ≡ name_node s seen b l
  node-name_node in_order b n l h =
      cond_false (is_word W b) _ _ (le-ltb b _ (omega (arith, in_order.few_words)))
      ∙ cond_true (is_name b) _ _ (name_tested b n h)

  pub node-clash : InOrder W → (b n : ℕ) (l : List ℕ) → Name? b n → Clash seen n s → node W root s seen (b ∷ l) ≡ fault 13 (b ∷ l)
  node-clash in_order b n l h c =
      let e : b - first_name_byte ≡ n = omega arith in
      node-name_node in_order b n l h ∙ cond_true (clash seen (b - first_name_byte) s) _ _ (ap (λ k. clash seen k s) e ∙ clash_tested seen n s c)

  pub node-name : InOrder W → (b n : ℕ) (l : List ℕ) → Name? b n → (Clash seen n s → ⊥) → node W root s seen (b ∷ l) ≡ name_here n l
  node-name in_order b n l h c =
      let e : b - first_name_byte ≡ n = omega arith in
      node-name_node in_order b n l h ∙ cond_false (clash seen (b - first_name_byte) s) _ _ (ap (λ k. clash seen k s) e ∙ clash_none seen n s c)
      ∙ ap (λ k. name_here k l) e

  node-other : (b : ℕ) (l : List ℕ) → (Word? W b → ⊥) → is_name b ≡ false →
      node W root s seen (b ∷ l) ≡ cond (root && eqb b whole_byte) (whole_here l) (fault 11 (b ∷ l))
  node-other b l h k = cond_false (is_word W b) _ _ (le-ltb b _ (omega arith)) ∙ cond_false (is_name b) _ _ k

  pub node-whole : InOrder W → (l : List ℕ) → root ≡ true → node W root s seen (whole_byte ∷ l) ≡ whole_here l
  node-whole in_order l h =
      node-other whole_byte l (λ k. omega (arith, in_order.few_words)) refl ∙ cond_true (root && true) _ _ (ap (λ t. t && true) h)

  pub node-unknown : (b : ℕ) (l : List ℕ) → (Word? W b → ⊥) → is_name b ≡ false → (root && eqb b whole_byte) ≡ false →
      node W root s seen (b ∷ l) ≡ fault 11 (b ∷ l)
  node-unknown b l h k e = node-other b l h k ∙ cond_false (root && eqb b whole_byte) _ _ e

-- ---- from the node to what stands

pub record WordStands (W : Vocabulary) (s : ℕ) (l : List ℕ) (f : ℕ) (ks : List Slot) (r : List ℕ) : Type 0 where
  pub known : f < length W.words
  pub due : (word W f).result ≡ s
  pub mask : ℕ
  pub bytes : l ≡ f ∷ (write_map mask ++ r)
  pub allowed : within (flags mask) (flags (map_of W f)) ≡ true
  pub marks : ks ≡ slots (flags (map_of W f)) (flags mask) (word W f).kinds

pub record NameStands (s : ℕ) (seen : List Occurrence) (l : List ℕ) (n : ℕ) (r : List ℕ) : Type 0 where
  pub known : n < name_count
  pub bytes : l ≡ name_byte n ∷ r
  pub agrees : clash seen n s ≡ false

pub record WholeStands (root : Bool) (l r : List ℕ) : Type 0 where
  pub at_root : root ≡ true
  pub bytes : l ≡ whole_byte ∷ r

abbrev pub NodeStands : Vocabulary → Bool → ℕ → List Occurrence → List ℕ → Node → Type 0
NodeStands W root s seen l (word_here f ks r) = WordStands W s l f ks r
NodeStands W root s seen l (name_here n r) = NameStands s seen l n r
NodeStands W root s seen l (whole_here r) = WholeStands root l r
NodeStands W root s seen l (fault n r) = Unit {0}

module _ (W : Vocabulary) (root : Bool) (s : ℕ) (seen : List Occurrence) where
  map-stands : (f : ℕ) (l : List ℕ) → f < length W.words → (word W f).result ≡ s → (x : MapRead) → read_map l ≡ x →
      NodeStands W root s seen (f ∷ l) (map_node W f l x)
  map-stands f l h e (map_missing r) q = tt
  map-stands f l h e (map_got m r) q =
      choice (NodeStands W root s seen (f ∷ l)) (within (flags m) (flags (map_of W f)))
      (word_here f (slots (flags (map_of W f)) (flags m) (word W f).kinds) r) (fault 14 l)
      (λ w. record { known = h; due = e; mask = m; bytes = ap {B = List ℕ} (λ b. f ∷ b) (write-read_map l m r q); allowed = w; marks = refl })
      (λ w. tt)

  word_stands : (f : ℕ) (l : List ℕ) → f < length W.words → NodeStands W root s seen (f ∷ l) (word_node W s f l)
  word_stands f l h =
      choice (NodeStands W root s seen (f ∷ l)) (eqb (word W f).result s) (map_node W f l (read_map l)) (fault 12 (f ∷ l))
      (λ e. map-stands f l h (eqb-true (word W f).result s e) (read_map l) refl) (λ e. tt)

  name-stands : (b : ℕ) (l : List ℕ) → Name? b (b - first_name_byte) → NodeStands W root s seen (b ∷ l) (name_node s seen b l)
  name-stands b l h =
      choice (NodeStands W root s seen (b ∷ l)) (clash seen (b - first_name_byte) s) (fault 13 (b ∷ l)) (name_here (b - first_name_byte) l)
      (λ c. tt)
      (λ c. record { known = h.0; bytes = ap {B = List ℕ} (λ x. x ∷ l) h.1; agrees = c })

  pub node-stands : (l : List ℕ) → NodeStands W root s seen l (node W root s seen l)
  node-stands [] = tt
  node-stands (b ∷ l) =
      choice (NodeStands W root s seen (b ∷ l)) (is_word W b) (word_node W s b l)
      (cond (is_name b) (name_node s seen b l) (cond (root && eqb b whole_byte) (whole_here l) (fault 11 (b ∷ l))))
      (λ e. word_stands b l (ltb-true b (length W.words) e))
      (λ e. choice (NodeStands W root s seen (b ∷ l)) (is_name b) (name_node s seen b l) (cond (root && eqb b whole_byte) (whole_here l) (fault 11 (b ∷ l)))
      (λ q. name-stands b l (name_meant b q))
      (λ q. choice (NodeStands W root s seen (b ∷ l)) (root && eqb b whole_byte) (whole_here l) (fault 11 (b ∷ l))
      (λ w. let h = and_parts root (eqb b whole_byte) w in record { at_root = h.0; bytes = ap {B = List ℕ} (λ x. x ∷ l) (eqb-true b whole_byte h.1) })
      (λ w. tt)))
