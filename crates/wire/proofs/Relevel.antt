-- Relevel: a term that is read within some levels is read within any levels that it fits, and has no more levels than bytes.
--
--   Relevels, RelevelsAll     a term, or terms, read within some levels are read within others
--   WholeRelevels, whole_relevels    the same of kind byte and term
--
use mathlib.Core.Path.{◌≡◌, refl, sym, ap, subst, ◌∙◌}
use mathlib.Core.Bool.{Bool, true, false, true≢false}
use mathlib.Core.List.{List, [], ◌∷◌}
use Prim.Native.Nat.{ℕ, zero, suc, ◌+◌, ◌≤◌}
use native.Mathlib.Omega.{arith}
use lib.Dec.{ltb}
use lib.ListN.{length}
use Rattle.terms.specs.Term.{any, app, Occurrence}
use Rattle.wire.specs.Parser.{Reading, accept, refuse, Got, got, stop, and_then, Node, word_here, name_here, whole_here, fault, node, Read, ReadAll, with_first, read_slots, from_node, read_term, line15, read_whole}
use Rattle.wire.specs.Map.{Slot}
use Rattle.wire.specs.Vocabulary.{Vocabulary}
use Rattle.wire.specs.TermBytes.{levels, levels_all, deepest}
use Rattle.wire.specs.Reply.{Kinded}
use Rattle.wire.proofs.Cond.{cond_true, choice}
use Rattle.wire.proofs.Node.{NodeStands, node-stands}
use Rattle.wire.proofs.WriteRead.{slots_open, slots-written}

-- The term of a was read off l within some levels, and r is left.
pub record Relevels (W : Vocabulary) (left : ℕ) (root : Bool) (s : ℕ) (seen : List Occurrence) (l : List ℕ) (a : Read) (r : List ℕ) : Type 0 where
  pub fits : deepest a.term ≤ left
  pub bytes : deepest a.term + length r ≤ length l
  pub closed : root ≡ false → 1 ≤ levels a.term
  pub again : (n : ℕ) → deepest a.term ≤ n → read_term W n root s seen l ≡ got a r

pub record RelevelsAll (W : Vocabulary) (left : ℕ) (ks : List Slot) (seen : List Occurrence) (l : List ℕ) (a : ReadAll) (r : List ℕ) : Type 0 where
  pub fits : levels_all a.terms ≤ left
  pub bytes : levels_all a.terms + length r ≤ length l
  pub again : (n : ℕ) → levels_all a.terms ≤ n → read_slots (read_term W n false) ks seen l ≡ got a r

abbrev RelevelsOf : Vocabulary → ℕ → Bool → ℕ → List Occurrence → List ℕ → Got Read → Type 0
RelevelsOf W left root s seen l (got a r) = Relevels W left root s seen l a r
RelevelsOf W left root s seen l (stop n r) = Unit {0}

abbrev RelevelsAllOf : Vocabulary → ℕ → List Slot → List Occurrence → List ℕ → Got ReadAll → Type 0
RelevelsAllOf W left ks seen l (got a r) = RelevelsAll W left ks seen l a r
RelevelsAllOf W left ks seen l (stop n r) = Unit {0}

-- ---- the places of a word

module _ (W : Vocabulary) (left : ℕ) (k : Slot) (ks : List Slot) (seen : List Occurrence) (l : List ℕ) where
  open_relevels : k.written ≡ false → (x : Got ReadAll) → RelevelsAllOf W left ks seen l x →
      RelevelsAllOf W left (k ∷ ks) seen l (and_then x (λ ts r. got (with_first any ts) r))
  open_relevels e (stop n r) h = tt
  open_relevels e (got a r) h = record {
    fits = let d = h.fits in omega arith;
    bytes = let d = h.bytes in omega arith;
    again = λ n d.
        slots_open (read_term W n false) k ks seen l e
        ∙ ap (λ x. and_then x (λ ts r'. got (with_first any ts) r')) (h.again n (omega arith));
  }

  written_relevels : k.written ≡ true → (a : Read) (r : List ℕ) → Relevels W left false k.sort seen l a r →
      (x : Got ReadAll) → RelevelsAllOf W left ks a.seen r x →
      RelevelsAllOf W left (k ∷ ks) seen l (and_then x (λ ts r'. got (with_first a.term ts) r'))
  written_relevels e a r h (stop n r') g = tt
  written_relevels e a r h (got b r') g =
      let c = h.closed refl in
      record {
        fits = let d = h.fits in let d' = g.fits in omega arith;
        bytes = let d = h.bytes in let d' = g.bytes in omega arith;
        again = λ n d.
            slots-written (read_term W n false) k ks seen l e
            ∙ ap (λ x. and_then x (λ c q. and_then (read_slots (read_term W n false) ks c.seen q) (λ ts q'. got (with_first c.term ts) q')))
            (h.again n (omega arith))
            ∙ ap (λ x. and_then x (λ ts q. got (with_first a.term ts) q)) (g.again n (omega arith));
      }

module _ (W : Vocabulary) (left : ℕ)
    (term : (s : ℕ) (seen : List Occurrence) (l : List ℕ) → RelevelsOf W left false s seen l (read_term W left false s seen l)) where
  slot_relevels : (k : Slot) (ks : List Slot) →
      ((seen : List Occurrence) (l : List ℕ) → RelevelsAllOf W left ks seen l (read_slots (read_term W left false) ks seen l)) →
      (seen : List Occurrence) (l : List ℕ) (w : Bool) → k.written ≡ w →
      RelevelsAllOf W left (k ∷ ks) seen l (read_slots (read_term W left false) (k ∷ ks) seen l)
  slot_relevels k ks ih seen l false e =
      subst (RelevelsAllOf W left (k ∷ ks) seen l) (sym (slots_open (read_term W left false) k ks seen l e))
      (open_relevels W left k ks seen l e (read_slots (read_term W left false) ks seen l) (ih seen l))
  slot_relevels k ks ih seen l true e =
      subst (RelevelsAllOf W left (k ∷ ks) seen l) (sym (slots-written (read_term W left false) k ks seen l e))
      (go (read_term W left false k.sort seen l) (term k.sort seen l))
    where
      go : (x : Got Read) → RelevelsOf W left false k.sort seen l x →
          RelevelsAllOf W left (k ∷ ks) seen l
          (and_then x (λ a r. and_then (read_slots (read_term W left false) ks a.seen r) (λ ts r'. got (with_first a.term ts) r')))
      go (stop n r) h = tt
      go (got a r) h = written_relevels W left k ks seen l e a r h (read_slots (read_term W left false) ks a.seen r) (ih a.seen r)

  slots_relevel : (ks : List Slot) (seen : List Occurrence) (l : List ℕ) → RelevelsAllOf W left ks seen l (read_slots (read_term W left false) ks seen l)
  slots_relevel [] seen l = record { fits = omega arith; bytes = omega arith; again = λ n d. refl }
  slots_relevel (k ∷ ks) seen l = slot_relevels k ks (λ z m. slots_relevel ks z m) seen l k.written refl

-- ---- a term from its node

module _ (W : Vocabulary) (left : ℕ) (root : Bool) (s : ℕ) (seen : List Occurrence) (l : List ℕ) where
  -- What a node gives within any levels, the term gives within one more.
  again-from : (x : Node) → node W root s seen l ≡ x → (a : Read) (r : List ℕ) →
      ((n : ℕ) → deepest a.term ≤ suc n → from_node (read_term W n false) s seen x ≡ got a r) →
      (n : ℕ) → deepest a.term ≤ n → read_term W n root s seen l ≡ got a r
  again-from x e a r f zero h = absurd (omega arith)
  again-from x e a r f (suc n) h = ap (from_node (read_term W n false) s seen) e ∙ f n h

  word_relevels : (f : ℕ) (ks : List Slot) (r : List ℕ) → node W root s seen l ≡ word_here f ks r → length l ≡ suc (suc (length r)) →
      (x : Got ReadAll) → RelevelsAllOf W left ks seen r x →
      RelevelsOf W (suc left) root s seen l (and_then x (λ ts r'. got (record { term = app f ts.terms; seen = ts.seen }) r'))
  word_relevels f ks r e size (stop n r') h = tt
  word_relevels f ks r e size (got a r') h = record {
    fits = let d = h.fits in omega arith;
    bytes = let d = h.bytes in omega arith;
    closed = λ z. omega arith;
    again =
        again-from (word_here f ks r) e (record { term = app f a.terms; seen = a.seen }) r'
        (λ n d. ap (λ x. and_then x (λ ts q. got (record { term = app f ts.terms; seen = ts.seen }) q)) (h.again n (omega arith)));
  }

  node_relevels : ((z : ℕ) (seen' : List Occurrence) (m : List ℕ) → RelevelsOf W left false z seen' m (read_term W left false z seen' m)) →
      (x : Node) → node W root s seen l ≡ x → NodeStands W root s seen l x →
      RelevelsOf W (suc left) root s seen l (from_node (read_term W left false) s seen x)
  node_relevels term (word_here f ks r) e w =
      word_relevels f ks r e (ap length w.bytes) (read_slots (read_term W left false) ks seen r) (slots_relevel W left term ks seen r)
  node_relevels term (name_here n r) e w = record {
    fits = omega arith;
    bytes = let d = ap length w.bytes in omega arith;
    closed = λ z. omega arith;
    again = again-from (name_here n r) e _ r (λ n d. refl);
  }
  node_relevels term (whole_here r) e w = record {
    fits = omega arith;
    bytes = let d = ap length w.bytes in omega arith;
    closed = λ z. absurd (true≢false (sym w.at_root ∙ z));
    again = again-from (whole_here r) e _ r (λ n d. refl);
  }
  node_relevels term (fault n r) e w = tt

limit_relevels : (W : Vocabulary) (root : Bool) (s : ℕ) (seen : List Occurrence) (l : List ℕ) →
    RelevelsOf W zero root s seen l (read_term W zero root s seen l)
limit_relevels W root s seen [] = tt
limit_relevels W root s seen (b ∷ l) = tt

term_relevels : (W : Vocabulary) (left : ℕ) (root : Bool) (s : ℕ) (seen : List Occurrence) (l : List ℕ) →
    RelevelsOf W left root s seen l (read_term W left root s seen l)
term_relevels W zero root s seen l = limit_relevels W root s seen l
term_relevels W (suc left) root s seen l =
    node_relevels W left root s seen l (λ z seen' m. term_relevels W left false z seen' m) (node W root s seen l) refl (node-stands W root s seen l)

-- ---- kind byte and term

pub record WholeRelevels (W : Vocabulary) (left : ℕ) (b : List ℕ) (k : Kinded) : Type 0 where
  pub fits : deepest k.term ≤ left
  pub bytes : deepest k.term + 1 ≤ length b
  pub again : (n : ℕ) → deepest k.term ≤ n → read_whole W n b ≡ accept k

abbrev WholeRelevelsOf : Vocabulary → ℕ → List ℕ → Reading Kinded → Type 0
WholeRelevelsOf W left b (accept k) = WholeRelevels W left b k
WholeRelevelsOf W left b (refuse n q) = Unit {0}

line15_relevels : (W : Vocabulary) (left s : ℕ) (l : List ℕ) → ltb s W.kinds ≡ true → (x : Got Read) → RelevelsOf W left true s [] l x →
    WholeRelevelsOf W left (s ∷ l) (line15 (s ∷ l) s x)
line15_relevels W left s l below (stop n r) h = tt
line15_relevels W left s l below (got a (c ∷ r)) h = tt
line15_relevels W left s l below (got a []) h = record {
  fits = h.fits;
  bytes = let d = h.bytes in omega arith;
  again = λ n d. cond_true (ltb s W.kinds) _ _ below ∙ ap (line15 (s ∷ l) s) (h.again n d);
}

whole_relevels_of : (W : Vocabulary) (left : ℕ) (b : List ℕ) → WholeRelevelsOf W left b (read_whole W left b)
whole_relevels_of W left [] = tt
whole_relevels_of W left (s ∷ l) =
    choice (WholeRelevelsOf W left (s ∷ l)) (ltb s W.kinds) (line15 (s ∷ l) s (read_term W left true s [] l)) (refuse 8 0)
    (λ e. line15_relevels W left s l e (read_term W left true s [] l) (term_relevels W left true s [] l))
    (λ e. tt)

pub whole_relevels : (W : Vocabulary) (left : ℕ) (b : List ℕ) (k : Kinded) → read_whole W left b ≡ accept k → WholeRelevels W left b k
whole_relevels W left b k e = subst (WholeRelevelsOf W left b) e (whole_relevels_of W left b)
