-- ReadWrite: what is read is a good term, its levels fit, and the bytes read are its bytes.
--
--   encode_from                the bytes of a term, at the root or below it
--   HasRead, HasReadAll, Reads, ReadsAll    what it means to have read a term, or terms
--   slots_read                the terms of a word's places
--   term-reads                any term
--   read-good                 at the root it is a good one
--
use mathlib.Core.Path.{◌≡◌, refl, sym, ap, subst, ◌∙◌}
use mathlib.Core.Bool.{Bool, true, false, not, true≢false}
use mathlib.Core.List.{List, [], ◌∷◌, ◌++◌, append-nil, append_assoc}
use Prim.Native.Nat.{ℕ, zero, suc, ◌≤◌, ◌<◌}
use native.Mathlib.Omega.{arith}
use Rattle.terms.specs.Lists.{All}
use Rattle.terms.specs.Signature.{arguments}
use Rattle.terms.specs.Term.{Term, any, var, app, Terms, Sorted, SortedAll, Occurrence, occurrences, occurrences_all, Consistent, names, names_all}
use Rattle.terms.proofs.All.{all_append}
use Rattle.wire.specs.Reply.{IsBytes}
use Rattle.wire.specs.Map.{map_bits, write_map, flags, number, Slot, is_open}
use Rattle.wire.specs.Vocabulary.{Vocabulary, InOrder, signature, word, map_of}
use Rattle.wire.specs.TermBytes.{name_byte, written_map, encode_at, encode_all, encode_root, GoodTerm, levels_all, deepest, name_count, whole_byte}
use Rattle.wire.specs.Parser.{Got, got, stop, and_then, Node, word_here, name_here, whole_here, fault, node, Read, ReadAll, with_first, read_slots, from_node, read_term}
use Rattle.wire.proofs.Bytes.{rest-bytes}
use Rattle.wire.proofs.Map.{number-flags, length-flags_in, read_map_lt, sorts, Marked, sorts-slots, written-marked}
use Rattle.wire.proofs.Seen.{clash-consistent}
use Rattle.wire.proofs.Words.{length_symbols, result-word, arguments-word, word-in_order}
use Rattle.wire.proofs.Node.{WordStands, NodeStands, node-stands}
use Rattle.wire.proofs.WriteRead.{slots_open, slots-written}

-- ---- what it means to have read a term, or terms

abbrev pub encode_from : Bool → Vocabulary → Term → List ℕ
encode_from true W t = encode_root W t
encode_from false W t = encode_at W t

-- The term a was read off l at a place of sort s, and r is left.
pub record HasRead (W : Vocabulary) (left : ℕ) (root : Bool) (s : ℕ) (seen : List Occurrence) (l : List ℕ) (a : Read) (r : List ℕ) : Type 0 where
  pub bytes : l ≡ encode_from root W a.term ++ r
  pub closed : root ≡ false → is_open a.term ≡ false
  pub sorted : Sorted (signature W) a.term s
  pub named : All (λ n. n < name_count) (names a.term)
  pub came : a.seen ≡ seen ++ occurrences (signature W) a.term s
  pub agrees : Consistent seen → Consistent a.seen
  pub deep : deepest a.term ≤ left

pub record HasReadAll (W : Vocabulary) (left : ℕ) (ks : List Slot) (seen : List Occurrence) (l : List ℕ) (a : ReadAll) (r : List ℕ) : Type 0 where
  pub bytes : l ≡ encode_all W a.terms ++ r
  pub marked : Marked a.terms ks
  pub sorted : SortedAll (signature W) a.terms (sorts ks)
  pub named : All (λ n. n < name_count) (names_all a.terms)
  pub came : a.seen ≡ seen ++ occurrences_all (signature W) a.terms (sorts ks)
  pub agrees : Consistent seen → Consistent a.seen
  pub deep : levels_all a.terms ≤ left

abbrev pub Reads : Vocabulary → ℕ → Bool → ℕ → List Occurrence → List ℕ → Got Read → Type 0
Reads W left root s seen l (got a r) = HasRead W left root s seen l a r
Reads W left root s seen l (stop n r) = Unit {0}

abbrev pub ReadsAll : Vocabulary → ℕ → List Slot → List Occurrence → List ℕ → Got ReadAll → Type 0
ReadsAll W left ks seen l (got a r) = HasReadAll W left ks seen l a r
ReadsAll W left ks seen l (stop n r) = Unit {0}

-- ---- going on

module _ (W : Vocabulary) (left : ℕ) (k : Slot) (ks : List Slot) (seen : List Occurrence) (l : List ℕ) where
  -- An open place, then the terms behind it.
  open_reads : k.written ≡ false → (x : Got ReadAll) → ReadsAll W left ks seen l x →
      ReadsAll W left (k ∷ ks) seen l (and_then x (λ ts r. got (with_first any ts) r))
  open_reads e (stop n r) h = tt
  open_reads e (got a r) h = record {
    bytes = h.bytes;
    marked = (sym e, h.marked);
    sorted = (tt, h.sorted);
    named = h.named;
    came = h.came;
    agrees = h.agrees;
    deep = let d = h.deep in omega arith;
  }

  -- A written term, then the terms behind it.
  written-reads : k.written ≡ true → (a : Read) (r : List ℕ) → HasRead W left false k.sort seen l a r →
      (x : Got ReadAll) → ReadsAll W left ks a.seen r x →
      ReadsAll W left (k ∷ ks) seen l (and_then x (λ ts r'. got (with_first a.term ts) r'))
  written-reads e a r h (stop n r') g = tt
  written-reads e a r h (got b r') g = record {
    bytes =
        h.bytes ∙ ap (λ (z : List ℕ). encode_at W a.term ++ z) g.bytes
        ∙ sym (append_assoc (encode_at W a.term) (encode_all W b.terms) r');
    marked = (ap not (h.closed refl) ∙ sym e, g.marked);
    sorted = (h.sorted, g.sorted);
    named = all_append (λ n. n < name_count) (names a.term) (names_all b.terms) h.named g.named;
    came =
        g.came ∙ ap (λ (z : List Occurrence). z ++ occurrences_all (signature W) b.terms (sorts ks)) h.came
        ∙ append_assoc seen (occurrences (signature W) a.term k.sort) (occurrences_all (signature W) b.terms (sorts ks));
    agrees = λ c. g.agrees (h.agrees c);
    deep = let d = h.deep in let d' = g.deep in omega arith;
  }

module _ (W : Vocabulary) (left : ℕ) (reader : ℕ → List Occurrence → List ℕ → Got Read)
    (good : (s : ℕ) (seen : List Occurrence) (l : List ℕ) → IsBytes l → Reads W left false s seen l (reader s seen l)) where
  slot_reads : (k : Slot) (ks : List Slot) →
      ((seen : List Occurrence) (l : List ℕ) → IsBytes l → ReadsAll W left ks seen l (read_slots reader ks seen l)) →
      (seen : List Occurrence) (l : List ℕ) → IsBytes l → (w : Bool) → k.written ≡ w →
      ReadsAll W left (k ∷ ks) seen l (read_slots reader (k ∷ ks) seen l)
  slot_reads k ks ih seen l b false e =
      subst (ReadsAll W left (k ∷ ks) seen l) (sym (slots_open reader k ks seen l e))
      (open_reads W left k ks seen l e (read_slots reader ks seen l) (ih seen l b))
  slot_reads k ks ih seen l b true e =
      subst (ReadsAll W left (k ∷ ks) seen l) (sym (slots-written reader k ks seen l e)) (go (reader k.sort seen l) (good k.sort seen l b))
    where
      go : (x : Got Read) → Reads W left false k.sort seen l x →
          ReadsAll W left (k ∷ ks) seen l (and_then x (λ a r. and_then (read_slots reader ks a.seen r) (λ ts r'. got (with_first a.term ts) r')))
      go (stop n r) h = tt
      go (got a r) h =
          written-reads W left k ks seen l e a r h (read_slots reader ks a.seen r)
          (ih a.seen r (rest-bytes l (encode_at W a.term) r h.bytes b))

  pub slots_read : (ks : List Slot) (seen : List Occurrence) (l : List ℕ) → IsBytes l → ReadsAll W left ks seen l (read_slots reader ks seen l)
  slots_read [] seen l b =
      record { bytes = refl; marked = tt; sorted = tt; named = tt; came = sym (append-nil seen); agrees = λ c. c; deep = omega arith }
  slots_read (k ∷ ks) seen l b = slot_reads k ks (λ z m c. slots_read ks z m c) seen l b k.written refl

-- ---- a term from its node

from-app : (root : Bool) (W : Vocabulary) (f : ℕ) (ts : Terms) → encode_from root W (app f ts) ≡ encode_at W (app f ts)
from-app true W f ts = refl
from-app false W f ts = refl

from-var : (root : Bool) (W : Vocabulary) (n : ℕ) → encode_from root W (var n) ≡ name_byte n ∷ []
from-var true W n = refl
from-var false W n = refl

from-any : (root : Bool) (W : Vocabulary) → root ≡ true → encode_from root W any ≡ whole_byte ∷ []
from-any true W e = refl
from-any false W e = absurd (true≢false (sym e))

module _ (W : Vocabulary) (in_order : InOrder W) (left : ℕ) (root : Bool) (s : ℕ) (seen : List Occurrence) (l : List ℕ) (b : IsBytes l) where
  -- The map that was read is the one that is written for the terms.
  mask_written : (f : ℕ) (ks : List Slot) (r : List ℕ) (w : WordStands W s l f ks r) (ts : Terms) → Marked ts ks → w.mask ≡ written_map W f ts
  mask_written f ks r w ts m =
      let small = read_map_lt w.mask r (subst IsBytes w.bytes b).1 in
      sym (number-flags w.mask small)
      ∙ ap number
      (written-marked (flags (map_of W f)) (flags w.mask) ts (word W f).kinds
      (length-flags_in map_bits w.mask ∙ sym (length-flags_in map_bits (map_of W f))) w.allowed (word-in_order W f in_order w.known).count
      (subst (Marked ts) w.marks m))

  sorts-word : (f : ℕ) (ks : List Slot) (r : List ℕ) → WordStands W s l f ks r → sorts ks ≡ arguments (signature W) f
  sorts-word f ks r w =
      ap sorts w.marks
      ∙ sorts-slots (flags (map_of W f)) (flags w.mask) (word W f).kinds (word-in_order W f in_order w.known).count
      ∙ sym (arguments-word W f)

  word-reads : (f : ℕ) (ks : List Slot) (r : List ℕ) → WordStands W s l f ks r → (x : Got ReadAll) → ReadsAll W left ks seen r x →
      Reads W (suc left) root s seen l (and_then x (λ ts r'. got (record { term = app f ts.terms; seen = ts.seen }) r'))
  word-reads f ks r w (stop n r') h = tt
  word-reads f ks r w (got a r') h =
      let M : ℕ = written_map W f a.terms in
      let ss = sorts-word f ks r w in
      record {
        bytes =
            w.bytes
            ∙ ap {B = List ℕ} (λ z. f ∷ (write_map w.mask ++ z)) h.bytes
            ∙ ap {B = List ℕ} (λ z. f ∷ (write_map z ++ (encode_all W a.terms ++ r'))) (mask_written f ks r w a.terms h.marked)
            ∙ ap {B = List ℕ} (λ z. f ∷ z) (sym (append_assoc (write_map M) (encode_all W a.terms) r'))
            ∙ ap (λ (z : List ℕ). z ++ r') (sym (from-app root W f a.terms));
        closed = λ e. refl;
        sorted = (
          subst (λ (n : ℕ). f < n) (sym (length_symbols W)) w.known,
          result-word W f ∙ w.due,
          subst (SortedAll (signature W) a.terms) ss h.sorted,
        );
        named = h.named;
        came = h.came ∙ ap (λ (z : List ℕ). seen ++ occurrences_all (signature W) a.terms z) ss;
        agrees = h.agrees;
        deep = let d = h.deep in omega arith;
      }

  node-reads : (reader : ℕ → List Occurrence → List ℕ → Got Read) →
      ((z : ℕ) (seen' : List Occurrence) (m : List ℕ) → IsBytes m → Reads W left false z seen' m (reader z seen' m)) →
      (n : Node) → NodeStands W root s seen l n → Reads W (suc left) root s seen l (from_node reader s seen n)
  node-reads reader good (word_here f ks r) w =
      word-reads f ks r w (read_slots reader ks seen r)
      (slots_read W left reader good ks seen r (rest-bytes l (f ∷ write_map w.mask) r w.bytes b))
  node-reads reader good (name_here n r) w = record {
    bytes = w.bytes ∙ ap (λ (z : List ℕ). z ++ r) (sym (from-var root W n));
    closed = λ e. refl;
    sorted = tt;
    named = (w.known, tt);
    came = refl;
    agrees = λ c. clash-consistent seen n s c w.agrees;
    deep = omega arith;
  }
  node-reads reader good (whole_here r) w = record {
    bytes = w.bytes ∙ ap (λ (z : List ℕ). z ++ r) (sym (from-any root W w.at_root));
    closed = λ e. sym w.at_root ∙ e;
    sorted = tt;
    named = tt;
    came = sym (append-nil seen);
    agrees = λ c. c;
    deep = omega arith;
  }
  node-reads reader good (fault n r) w = tt

-- ---- any term

limit-reads : (W : Vocabulary) (root : Bool) (s : ℕ) (seen : List Occurrence) (l : List ℕ) → Reads W zero root s seen l (read_term W zero root s seen l)
limit-reads W root s seen [] = tt
limit-reads W root s seen (b ∷ l) = tt

pub term-reads : (W : Vocabulary) → InOrder W → (left : ℕ) (root : Bool) (s : ℕ) (seen : List Occurrence) (l : List ℕ) → IsBytes l →
    Reads W left root s seen l (read_term W left root s seen l)
term-reads W in_order zero root s seen l b = limit-reads W root s seen l
term-reads W in_order (suc left) root s seen l b =
    node-reads W in_order left root s seen l b (read_term W left false) (λ z seen' m c. term-reads W in_order left false z seen' m c)
    (node W root s seen l) (node-stands W root s seen l)

-- What is read at the root, where no name stood before, is a good term.
pub read-good : (W : Vocabulary) (left s : ℕ) (l : List ℕ) (a : Read) (r : List ℕ) → s < W.kinds → HasRead W left true s [] l a r →
    GoodTerm W s a.term
read-good W left s l a r below h = record {
  kind = below;
  sorted = record { sorted = h.sorted; consistent = subst Consistent h.came (h.agrees tt) };
  named = h.named;
}
