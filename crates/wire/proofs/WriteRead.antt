-- WriteRead: the bytes of a good term are read as that term, wherever its levels fit.
--
--   slots_open, slots-written     one slot
--   read-term, read-terms, read-root    the bytes of a term below the root, of terms, and of a term at the root
--
use mathlib.Core.Path.{◌≡◌, refl, sym, ap, subst, ◌∙◌}
use mathlib.Core.Bool.{Bool, true, false, not, true≢false}
use mathlib.Core.List.{List, [], ◌∷◌, ◌++◌, append-nil, append_assoc}
use Prim.Native.Nat.{ℕ, zero, suc, ◌≤◌, ◌<◌}
use native.Mathlib.Omega.{arith}
use lib.ListN.{length}
use Rattle.terms.specs.Lists.{All}
use Rattle.terms.specs.Signature.{arguments}
use Rattle.terms.specs.Term.{Term, any, var, app, Terms, nil, cons, Sorted, SortedAll, Occurrence, occurrences, occurrences_all, Consistent, names, names_all}
use Rattle.terms.proofs.All.{all_left, all_right}
use Rattle.wire.specs.Map.{write_map, flags, within, Slot, slots, is_open, written_flags}
use Rattle.wire.specs.Vocabulary.{Vocabulary, InOrder, signature, word, map_of}
use Rattle.wire.specs.TermBytes.{name_byte, written_map, encode_at, encode_all, encode_root, levels, levels_all, deepest, name_count}
use Rattle.wire.specs.Parser.{Got, got, and_then, Read, ReadAll, with_first, read_slots, from_node, read_term}
use Rattle.wire.proofs.Map.{read-write_map, within-written, flags-written, sorts, Marked, sorts-slots, marked-written}
use Rattle.wire.proofs.Seen.{clash_not, consistent-left, consistent-clash}
use Rattle.wire.proofs.Words.{length_symbols, result-word, arguments-word, word-in_order}
use Rattle.wire.proofs.Node.{node-symbol, node-name, node-whole}

-- ---- one slot

module _ (reader : ℕ → List Occurrence → List ℕ → Got Read) (k : Slot) (ks : List Slot) (seen : List Occurrence) (l : List ℕ) where
  pub slots_open : k.written ≡ false →
      read_slots reader (k ∷ ks) seen l ≡ and_then (read_slots reader ks seen l) (λ ts r. got (with_first any ts) r)
  slots_open e =
      subst (λ (w : Bool). read_slots reader (record { sort = k.sort; written = w } ∷ ks) seen l
      ≡ and_then (read_slots reader ks seen l) (λ ts r. got (with_first any ts) r)) (sym e) refl

  pub slots-written : k.written ≡ true →
      read_slots reader (k ∷ ks) seen l
      ≡ and_then (reader k.sort seen l) (λ a r. and_then (read_slots reader ks a.seen r) (λ ts r'. got (with_first a.term ts) r'))
  slots-written e =
      subst (λ (w : Bool). read_slots reader (record { sort = k.sort; written = w } ∷ ks) seen l
      ≡ and_then (reader k.sort seen l) (λ a r. and_then (read_slots reader ks a.seen r) (λ ts r'. got (with_first a.term ts) r'))) (sym e) refl

-- ---- what is read where a term, or terms, are written

abbrev AsRead : Vocabulary → Term → ℕ → List Occurrence → Read
AsRead W t s seen = record { term = t; seen = seen ++ occurrences (signature W) t s }

abbrev AsReadAll : Vocabulary → Terms → List ℕ → List Occurrence → ReadAll
AsReadAll W ts ks seen = record { terms = ts; seen = seen ++ occurrences_all (signature W) ts ks }

module _ (W : Vocabulary) (in_order : InOrder W) where
  -- The terms of a word's places are read, so the word is.
  word_read_lem : (f : ℕ) (ts : Terms) (left : ℕ) (root : Bool) (s : ℕ) (seen : List Occurrence) (rest : List ℕ) →
      Sorted (signature W) (app f ts) s →
      Consistent (seen ++ occurrences (signature W) (app f ts) s) →
      ((ks : List Slot) → Marked ts ks → SortedAll (signature W) ts (sorts ks) →
      Consistent (seen ++ occurrences_all (signature W) ts (sorts ks)) →
      read_slots (read_term W left false) ks seen (encode_all W ts ++ rest) ≡ got (AsReadAll W ts (sorts ks) seen) rest) →
      read_term W (suc left) root s seen (encode_at W (app f ts) ++ rest) ≡ got (AsRead W (app f ts) s seen) rest
  word_read_lem f ts left root s seen rest h c ih =
      let M : ℕ = written_map W f ts in
      let known : f < length W.words = rw (length_symbols W) at h.0 in
      let sw = word-in_order W f in_order known in
      let due : (word W f).result ≡ s = sym (result-word W f) ∙ h.1 in
      let fs : flags M ≡ written_flags (flags (map_of W f)) ts = flags-written (map_of W f) ts in
      let allowed : within (flags M) (flags (map_of W f)) ≡ true =
      ap (λ (ws : List Bool). within ws (flags (map_of W f))) fs ∙ within-written (flags (map_of W f)) ts in
      let ks : List Slot = slots (flags (map_of W f)) (flags M) (word W f).kinds in
      let ss : sorts ks ≡ arguments (signature W) f =
      sorts-slots (flags (map_of W f)) (flags M) (word W f).kinds sw.count ∙ sym (arguments-word W f) in
      let marked : Marked ts ks =
      subst (λ (ws : List Bool). Marked ts (slots (flags (map_of W f)) ws (word W f).kinds)) (sym fs)
      (marked-written (signature W) (flags (map_of W f)) ts (word W f).kinds sw.count
      (subst (SortedAll (signature W) ts) (arguments-word W f) h.2)) in
      ap (λ (l : List ℕ). read_term W (suc left) root s seen (f ∷ l)) (append_assoc (write_map M) (encode_all W ts) rest)
      ∙ ap (from_node (read_term W left false) s seen)
      (node-symbol W root s seen f M (write_map M ++ (encode_all W ts ++ rest)) (encode_all W ts ++ rest) known due
      (read-write_map M (encode_all W ts ++ rest)) allowed)
      ∙ ap (λ (x : Got ReadAll). and_then x (λ us r'. got (record { term = app f us.terms; seen = us.seen }) r'))
      (subst (λ (xs : List ℕ). read_slots (read_term W left false) ks seen (encode_all W ts ++ rest) ≡ got (AsReadAll W ts xs seen) rest) ss
      (ih ks marked (subst (SortedAll (signature W) ts) (sym ss) h.2)
      (subst (λ (xs : List ℕ). Consistent (seen ++ occurrences_all (signature W) ts xs)) (sym ss) c)))

  -- A written term and the terms behind it are read, so both are.
  written_read : (t : Term) (ts : Terms) (left : ℕ) (k : Slot) (ks : List Slot) (seen : List Occurrence) (rest : List ℕ) →
      k.written ≡ true →
      read_term W left false k.sort seen (encode_at W t ++ (encode_all W ts ++ rest)) ≡ got (AsRead W t k.sort seen) (encode_all W ts ++ rest) →
      read_slots (read_term W left false) ks (seen ++ occurrences (signature W) t k.sort) (encode_all W ts ++ rest)
      ≡ got (AsReadAll W ts (sorts ks) (seen ++ occurrences (signature W) t k.sort)) rest →
      read_slots (read_term W left false) (k ∷ ks) seen (encode_all W (cons t ts) ++ rest) ≡ got (AsReadAll W (cons t ts) (sorts (k ∷ ks)) seen) rest
  written_read t ts left k ks seen rest w one all =
      slots-written (read_term W left false) k ks seen (encode_all W (cons t ts) ++ rest) w
      ∙ ap (λ (l : List ℕ). and_then (read_term W left false k.sort seen l) behind) (append_assoc (encode_at W t) (encode_all W ts) rest)
      ∙ ap (λ (x : Got Read). and_then x behind) one
      ∙ ap (λ (x : Got ReadAll). and_then x (λ us r'. got (with_first t us) r')) all
      ∙ ap (λ (z : List Occurrence). got (record { terms = cons t ts; seen = z }) rest)
      (append_assoc seen (occurrences (signature W) t k.sort) (occurrences_all (signature W) ts (sorts ks)))
    where
      behind : Read → List ℕ → Got ReadAll
      behind a r = and_then (read_slots (read_term W left false) ks a.seen r) (λ us r'. got (with_first a.term us) r')

  open_read_lem : (ts : Terms) (left : ℕ) (k : Slot) (ks : List Slot) (seen : List Occurrence) (rest : List ℕ) →
      k.written ≡ false →
      read_slots (read_term W left false) ks (seen ++ []) (encode_all W ts ++ rest) ≡ got (AsReadAll W ts (sorts ks) (seen ++ [])) rest →
      read_slots (read_term W left false) (k ∷ ks) seen (encode_all W (cons any ts) ++ rest) ≡ got (AsReadAll W (cons any ts) (sorts (k ∷ ks)) seen) rest
  open_read_lem ts left k ks seen rest w all =
      slots_open (read_term W left false) k ks seen (encode_all W ts ++ rest) w
      ∙ ap (λ (x : Got ReadAll). and_then x (λ us r. got (with_first any us) r))
      (subst (λ (z : List Occurrence). read_slots (read_term W left false) ks z (encode_all W ts ++ rest) ≡ got (AsReadAll W ts (sorts ks) z) rest)
      (append-nil seen) all)

  slot_read : (t : Term) (ts : Terms) (left : ℕ) (k : Slot) (ks : List Slot) (seen : List Occurrence) (rest : List ℕ) →
      not (is_open t) ≡ k.written →
      (is_open t ≡ false →
      read_term W left false k.sort seen (encode_at W t ++ (encode_all W ts ++ rest)) ≡ got (AsRead W t k.sort seen) (encode_all W ts ++ rest)) →
      read_slots (read_term W left false) ks (seen ++ occurrences (signature W) t k.sort) (encode_all W ts ++ rest)
      ≡ got (AsReadAll W ts (sorts ks) (seen ++ occurrences (signature W) t k.sort)) rest →
      read_slots (read_term W left false) (k ∷ ks) seen (encode_all W (cons t ts) ++ rest) ≡ got (AsReadAll W (cons t ts) (sorts (k ∷ ks)) seen) rest
  slot_read any ts left k ks seen rest m one all = open_read_lem ts left k ks seen rest (sym m) all
  slot_read (var n) ts left k ks seen rest m one all = written_read (var n) ts left k ks seen rest (sym m) (one refl) all
  slot_read (app f us) ts left k ks seen rest m one all = written_read (app f us) ts left k ks seen rest (sym m) (one refl) all

  mutual
    pub read-term : (t : Term) (left : ℕ) (root : Bool) (s : ℕ) (seen : List Occurrence) (rest : List ℕ) →
        Sorted (signature W) t s → All (λ n. n < name_count) (names t) → Consistent (seen ++ occurrences (signature W) t s) →
        levels t ≤ left → is_open t ≡ false →
        read_term W left root s seen (encode_at W t ++ rest) ≡ got (AsRead W t s seen) rest
    read-term any left root s seen rest h n c d o = absurd (true≢false o)
    read-term (var n) zero root s seen rest h b c d o = absurd (omega arith)
    read-term (var n) (suc left) root s seen rest h b c d o =
        ap (from_node (read_term W left false) s seen) (node-name W root s seen in_order (name_byte n) n rest (b.0, refl) (clash_not seen n s (consistent-clash seen n s c)))
    read-term (app f ts) zero root s seen rest h n c d o = absurd (omega arith)
    read-term (app f ts) (suc left) root s seen rest h n c d o =
        word_read_lem f ts left root s seen rest h c (λ ks m k q. read-terms ts left ks seen rest m k n q (omega arith))

    pub read-terms : (ts : Terms) (left : ℕ) (ks : List Slot) (seen : List Occurrence) (rest : List ℕ) →
        Marked ts ks → SortedAll (signature W) ts (sorts ks) → All (λ n. n < name_count) (names_all ts) →
        Consistent (seen ++ occurrences_all (signature W) ts (sorts ks)) → levels_all ts ≤ left →
        read_slots (read_term W left false) ks seen (encode_all W ts ++ rest) ≡ got (AsReadAll W ts (sorts ks) seen) rest
    read-terms nil left [] seen rest m h n c d = ap (λ (z : List Occurrence). got (record { terms = nil; seen = z }) rest) (sym (append-nil seen))
    read-terms nil left (k ∷ ks) seen rest m h n c d = absurd m
    read-terms (cons t ts) left [] seen rest m h n c d = absurd m
    read-terms (cons t ts) left (k ∷ ks) seen rest m h n c d =
        let c' : Consistent ((seen ++ occurrences (signature W) t k.sort) ++ occurrences_all (signature W) ts (sorts ks)) =
        subst Consistent (sym (append_assoc seen (occurrences (signature W) t k.sort) (occurrences_all (signature W) ts (sorts ks)))) c in
        slot_read t ts left k ks seen rest m.0
        (λ o. read-term t left false k.sort seen (encode_all W ts ++ rest) h.0 (all_left (λ n. n < name_count) (names t) (names_all ts) n)
        (consistent-left (seen ++ occurrences (signature W) t k.sort) (occurrences_all (signature W) ts (sorts ks)) c') (omega arith) o)
        (read-terms ts left ks (seen ++ occurrences (signature W) t k.sort) rest m.1 h.1
        (all_right (λ n. n < name_count) (names t) (names_all ts) n) c' (omega arith))

  -- At the root an open place is a 255.
  pub read-root : (t : Term) (left : ℕ) (s : ℕ) (rest : List ℕ) →
      Sorted (signature W) t s → All (λ n. n < name_count) (names t) → Consistent (occurrences (signature W) t s) → deepest t ≤ left →
      read_term W left true s [] (encode_root W t ++ rest) ≡ got (AsRead W t s []) rest
  read-root any zero s rest h n c d = absurd (omega arith)
  read-root any (suc left) s rest h n c d = ap (from_node (read_term W left false) s []) (node-whole W true s [] in_order rest refl)
  read-root (var n) left s rest h b c d = read-term (var n) left true s [] rest h b c (omega arith) refl
  read-root (app f ts) left s rest h n c d = read-term (app f ts) left true s [] rest h n c (omega arith) refl
