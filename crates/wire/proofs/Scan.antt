-- Scan: what a scan tells is what read_term reads.
--
--   NodeBelow, node-below     each node takes a byte at least
--   scan_fuel                 once there are more steps than bytes, their number does not matter
--   run-node, run-limit       the first step of a run
--   NodeTakes, node_takes     how many bytes each node takes
--   with_term, with_terms       the tally behind a whole term, and behind the terms of a word's places
--   Holds, then_agree, then_same, then-then, then-holds   of what is read off the front of some bytes
--   TermTaken, TermsTaken     of a term or terms that are read below the root: their bytes, levels and open places
--   run-reads                 a run goes on behind a term as read_term does
--   scan-reads                a scan from a term's first byte tells what read_term reads
--
use mathlib.Core.Path.{◌≡◌, refl, sym, ap, ◌∙◌}
use mathlib.Core.Bool.{Bool, true, false, not, ◌||◌, or-false, or_assoc, false≢true}
use mathlib.Core.List.{List, [], ◌∷◌, ◌++◌}
use mathlib.Core.Option.{Option, some, none}
use Prim.Native.Nat.{ℕ, zero, suc, pred, ◌+◌, ◌-◌, ◌<◌, ◌≤◌, max}
use native.Mathlib.Omega.{arith}
use lib.Dec.{ltb}
use lib.ListN.{length, length-append}
use borrow.Author.Tests.{lt-ltb, le-ltb}
use Rattle.terms.specs.Lists.{or_else}
use Rattle.terms.specs.Term.{Term, any, app, Terms, cons, Occurrence}
use Rattle.wire.specs.Map.{map_bytes, Slot, is_open}
use Rattle.wire.specs.Vocabulary.{Vocabulary}
use Rattle.wire.specs.TermBytes.{encode_at, encode_all, word_count, word_count_all, levels, levels_all, deepest, most_levels}
use Rattle.wire.specs.TermLines.{Due, due_at}
use Rattle.wire.specs.Parser.{Got, got, stop, and_then, Node, word_here, name_here, whole_here, fault, node, at_limit, Read, ReadAll, with_first, read_slots, from_node, read_term}
use Rattle.wire.specs.GapComputed.{some_open, gap_from, gap_all}
use Rattle.wire.specs.Scan.{every_written, Tally, with_word, Scanned, scan_node, scan, run, root_due, no_tally, gap_here, left_from, has_short, some_short, tallied}
use Rattle.wire.proofs.Cond.{first_arm, second_arm, either}
use Rattle.wire.proofs.Node.{NodeStands, node-stands}
use Rattle.wire.proofs.ScanGap.{left_else, else_assoc, gaps_shift, gap_here_lem, word_gap}

-- The bytes behind a node are fewer than n.
abbrev pub NodeBelow : ℕ → Node → Type 0
NodeBelow n (word_here f ks r) = length r < n
NodeBelow n (name_here k r) = length r < n
NodeBelow n (whole_here r) = length r < n
NodeBelow n (fault k r) = Unit {0}

stands-below : (W : Vocabulary) (root : Bool) (s : ℕ) (seen : List Occurrence) (l : List ℕ) (x : Node) → NodeStands W root s seen l x → NodeBelow (length l) x
stands-below W root s seen l (word_here f ks r) h = omega (arith, ap length h.bytes)
stands-below W root s seen l (name_here n r) h = omega (arith, ap length h.bytes)
stands-below W root s seen l (whole_here r) h = omega (arith, ap length h.bytes)
stands-below W root s seen l (fault n r) h = tt

-- Each node takes a byte at least.
pub node-below : (W : Vocabulary) (root : Bool) (s : ℕ) (seen : List Occurrence) (l : List ℕ) → NodeBelow (length l) (node W root s seen l)
node-below W root s seen l = stands-below W root s seen l (node W root s seen l) (node-stands W root s seen l)

-- Two ways of going on that agree on fewer than n bytes agree behind a node.
node_agree : (n : ℕ) (g h : List Due → List Occurrence → Tally → List ℕ → Got Scanned) (d : Due) (ds : List Due) (seen : List Occurrence) (y : Tally) (x : Node) →
    ((due : List Due) (seen : List Occurrence) (y : Tally) (r : List ℕ) → length r < n → g due seen y r ≡ h due seen y r) →
    NodeBelow n x → scan_node g d ds seen y x ≡ scan_node h d ds seen y x
node_agree n g h d ds seen y (word_here f ks r) e p = e _ _ _ r p
node_agree n g h d ds seen y (name_here k r) e p = e _ _ _ r p
node_agree n g h d ds seen y (whole_here r) e p = e _ _ _ r p
node_agree n g h d ds seen y (fault k r) e p = refl

pub scan_fuel : (W : Vocabulary) (n m : ℕ) (due : List Due) (seen : List Occurrence) (y : Tally) (l : List ℕ) →
    length l < n → length l < m → scan W n due seen y l ≡ scan W m due seen y l
scan_fuel W zero m due seen y l p q = absurd (omega arith)
scan_fuel W (suc n) zero due seen y l p q = absurd (omega arith)
scan_fuel W (suc n) (suc m) [] seen y l p q = refl
scan_fuel W (suc n) (suc m) (d ∷ ds) seen y l p q =
    either (ltb most_levels d.level) (at_limit l) _ _
    (node_agree (length l) (scan W n) (scan W m) d ds seen y (node W d.root d.sort seen l)
    (λ due seen y r h. scan_fuel W n m due seen y r (omega arith) (omega arith))
    (node-below W d.root d.sort seen l))

-- A run's first step, where its level is one of those allowed.
pub run-node : (W : Vocabulary) (d : Due) (ds : List Due) (seen : List Occurrence) (y : Tally) (l : List ℕ) → d.level ≤ most_levels →
    run W (d ∷ ds) seen y l ≡ scan_node (run W) d ds seen y (node W d.root d.sort seen l)
run-node W d ds seen y l h =
    second_arm (ltb most_levels d.level) (at_limit l) _ (le-ltb _ _ h)
    ∙ node_agree (length l) (scan W (length l)) (run W) d ds seen y (node W d.root d.sort seen l)
    (λ due seen y r p. scan_fuel W (length l) (suc (length r)) due seen y r p (omega arith))
    (node-below W d.root d.sort seen l)

-- Where it is not.
pub run-limit : (W : Vocabulary) (d : Due) (ds : List Due) (seen : List Occurrence) (y : Tally) (l : List ℕ) → most_levels < d.level →
    run W (d ∷ ds) seen y l ≡ at_limit l
run-limit W d ds seen y l h = first_arm (ltb most_levels d.level) (at_limit l) _ (lt-ltb _ _ h)

-- How many bytes a node takes.
abbrev pub NodeTakes : ℕ → Node → Type 0
NodeTakes n (word_here f ks r) = n ≡ suc (map_bytes + length r)
NodeTakes n (name_here k r) = n ≡ suc (length r)
NodeTakes n (whole_here r) = n ≡ suc (length r)
NodeTakes n (fault k r) = Unit {0}

stands_takes : (W : Vocabulary) (root : Bool) (s : ℕ) (seen : List Occurrence) (l : List ℕ) (x : Node) → NodeStands W root s seen l x → NodeTakes (length l) x
stands_takes W root s seen l (word_here f ks r) h = omega (arith, ap length h.bytes)
stands_takes W root s seen l (name_here n r) h = omega (arith, ap length h.bytes)
stands_takes W root s seen l (whole_here r) h = omega (arith, ap length h.bytes)
stands_takes W root s seen l (fault n r) h = tt

pub node_takes : (W : Vocabulary) (root : Bool) (s : ℕ) (seen : List Occurrence) (l : List ℕ) → NodeTakes (length l) (node W root s seen l)
node_takes W root s seen l = stands_takes W root s seen l (node W root s seen l) (node-stands W root s seen l)

-- ---- tallies

-- The tally behind a term that begins at a level and was read off n bytes, and behind the terms of a word's places.
abbrev pub with_term : Vocabulary → ℕ → ℕ → Tally → Term → Tally
with_term W level n y t = record {
  words = y.words + word_count t;
  deepest = max y.deepest (pred level + deepest t);
  gap = or_else y.gap (left_from n (gap_here W t));
  short = y.short || has_short t;
}

abbrev with_terms : Vocabulary → ℕ → ℕ → Tally → Terms → Tally
with_terms W level n y ts = record {
  words = y.words + word_count_all ts;
  deepest = max y.deepest (level + levels_all ts);
  gap = or_else y.gap (left_from n (gap_all W ts 0));
  short = y.short || some_short ts;
}

pub same-tally : (y z : Tally) → y.words ≡ z.words → y.deepest ≡ z.deepest → y.gap ≡ z.gap → y.short ≡ z.short → y ≡ z
same-tally y z p q o b = λ i. record { words = p i; deepest = q i; gap = o i; short = b i }

else_none : (o : Option ℕ) → or_else o none ≡ o
else_none none = refl
else_none (some q) = refl

-- ---- what is read off the front of some bytes

-- P holds of what is read and the bytes behind it.
abbrev pub Holds : {A : Type 0} → (A → List ℕ → Type 0) → Got A → Type 0
Holds P (got a r) = P a r
Holds P (stop n r) = Unit {0}

then_agree : {A B : Type 0} (P : A → List ℕ → Type 0) (x : Got A) (f g : A → List ℕ → Got B) → Holds P x →
    ((a : A) (r : List ℕ) → P a r → f a r ≡ g a r) → and_then x f ≡ and_then x g
then_agree P (got a r) f g h e = e a r h
then_agree P (stop n r) f g h e = refl

then_same : {A B : Type 0} (x : Got A) (f g : A → List ℕ → Got B) → ((a : A) (r : List ℕ) → f a r ≡ g a r) → and_then x f ≡ and_then x g
then_same (got a r) f g e = e a r
then_same (stop n r) f g e = refl

pub then-then : {A B C : Type 0} (x : Got A) (f : A → List ℕ → Got B) (g : B → List ℕ → Got C) →
    and_then (and_then x f) g ≡ and_then x (λ a r. and_then (f a r) g)
then-then (got a r) f g = refl
then-then (stop n r) f g = refl

then-holds : {A B : Type 0} (P : A → List ℕ → Type 0) (Q : B → List ℕ → Type 0) (x : Got A) (f : A → List ℕ → Got B) → Holds P x →
    ((a : A) (r : List ℕ) → P a r → Holds Q (f a r)) → Holds Q (and_then x f)
then-holds P Q (got a r) f h k = k a r h
then-holds P Q (stop n r) f h k = tt

-- ---- terms that are read below the root

-- A node that is no 255 at the root.
abbrev NoWhole : Node → Type 0
NoWhole (word_here f ks r) = Unit {0}
NoWhole (name_here k r) = Unit {0}
NoWhole (whole_here r) = ⊥
NoWhole (fault k r) = Unit {0}

stands_no_whole : (W : Vocabulary) (s : ℕ) (seen : List Occurrence) (l : List ℕ) (x : Node) → NodeStands W false s seen l x → NoWhole x
stands_no_whole W s seen l (word_here f ks r) h = tt
stands_no_whole W s seen l (name_here n r) h = tt
stands_no_whole W s seen l (whole_here r) h = false≢true h.at_root
stands_no_whole W s seen l (fault n r) h = tt

-- A term that is read off n bytes below the root is no open place, and has a level of its own.
pub record TermTaken (W : Vocabulary) (n : ℕ) (a : Read) (r : List ℕ) : Type 0 where
  pub closed : is_open a.term ≡ false
  pub level : 1 ≤ levels a.term
  pub bytes : n ≡ length (encode_at W a.term) + length r

-- Of the terms of the slots ks the open ones are those that are not written.
pub record TermsTaken (W : Vocabulary) (ks : List Slot) (n : ℕ) (a : ReadAll) (r : List ℕ) : Type 0 where
  pub opens : some_open a.terms ≡ not (every_written ks)
  pub bytes : n ≡ length (encode_all W a.terms) + length r

module _ (W : Vocabulary) (reader : ℕ → List Occurrence → List ℕ → Got Read) (reads : (s : ℕ) (seen : List Occurrence) (l : List ℕ) → Holds (TermTaken W (length l)) (reader s seen l)) where
  slots_taken : (ks : List Slot) (seen : List Occurrence) (l : List ℕ) → Holds (TermsTaken W ks (length l)) (read_slots reader ks seen l)
  slots_taken [] seen l = record { opens = refl; bytes = omega arith }
  slots_taken (k ∷ ks) seen l = go (slots_taken ks) k.written refl
    where
      go : ((seen : List Occurrence) (l : List ℕ) → Holds (TermsTaken W ks (length l)) (read_slots reader ks seen l)) → (b : Bool) → k.written ≡ b →
          Holds {A = ReadAll} (TermsTaken W (k ∷ ks) (length l)) (elim b [
            | true ↦
                and_then {B = ReadAll} (reader k.sort seen l)
                (λ a r. and_then {B = ReadAll} (read_slots reader ks a.seen r) (λ ts r'. got (with_first a.term ts) r'))
            | false ↦ and_then {B = ReadAll} (read_slots reader ks seen l) (λ ts r. got (with_first any ts) r)
          ])
      go ih true e =
          then-holds (TermTaken W (length l)) _ (reader k.sort seen l) _ (reads k.sort seen l)
          (λ a r h.
          then-holds (TermsTaken W ks (length r)) _ (read_slots reader ks a.seen r) _ (ih a.seen r)
          (λ ts r' g. record {
            opens = rw (h.closed, e) g.opens;
            bytes = omega (arith, h.bytes, g.bytes, length-append (encode_at W a.term) (encode_all W ts.terms));
          }))
      go ih false e =
          then-holds (TermsTaken W ks (length l)) _ (read_slots reader ks seen l) _ (ih seen l)
          (λ ts r g. record { opens = rw e; bytes = g.bytes })

term_taken : (W : Vocabulary) (left s : ℕ) (seen : List Occurrence) (l : List ℕ) → Holds (TermTaken W (length l)) (read_term W left false s seen l)
term_taken W zero s seen [] = tt
term_taken W zero s seen (b ∷ l) = tt
term_taken W (suc left) s seen l =
    go (slots_taken W (read_term W left false) (term_taken W left)) (node W false s seen l)
    (stands_no_whole W s seen l (node W false s seen l) (node-stands W false s seen l)) (node_takes W false s seen l)
  where
    go : ((ks : List Slot) (seen : List Occurrence) (l : List ℕ) → Holds (TermsTaken W ks (length l)) (read_slots (read_term W left false) ks seen l)) →
        (x : Node) → NoWhole x → NodeTakes (length l) x → Holds (TermTaken W (length l)) (from_node (read_term W left false) s seen x)
    go ih (word_here f ks r) h e =
        then-holds (TermsTaken W ks (length r)) _ (read_slots (read_term W left false) ks seen r) _ (ih ks seen r)
        (λ ts r' g. record { closed = refl; level = omega arith; bytes = omega (arith, e, g.bytes) })
    go ih (name_here k r) h e = record { closed = refl; level = omega arith; bytes = omega (arith, e) }
    go ih (whole_here r) h e = absurd h
    go ih (fault k r) h e = tt

-- ---- a run reads a term

-- A run goes on behind a term as read_term does with so many levels left.
abbrev pub RunReads : Vocabulary → ℕ → Type 0
RunReads W left =
    (d : Due) (ds : List Due) (seen : List Occurrence) (y : Tally) (l : List ℕ) → 1 ≤ d.level → d.level + left ≡ suc most_levels →
    run W (d ∷ ds) seen y l ≡
    and_then (read_term W left d.root d.sort seen l) (λ a r. run W ds a.seen (with_term W d.level (length l) y a.term) r)

-- The same behind the terms of a word's places.
abbrev RunReadsAll : Vocabulary → ℕ → ℕ → List Slot → Type 0
RunReadsAll W left level ks =
    (ds : List Due) (seen : List Occurrence) (y : Tally) (l : List ℕ) → level ≤ y.deepest →
    run W (due_at (suc level) ks ++ ds) seen y l ≡
    and_then (read_slots (read_term W left false) ks seen l) (λ a r. run W ds a.seen (with_terms W level (length l) y a.terms) r)

-- The gap of a first term and of those behind it, read off n bytes of which m are left behind the first.
first-gap : (W : Vocabulary) (o : Option ℕ) (t : Term) (ts : Terms) (n m : ℕ) → is_open t ≡ false → n ≡ length (encode_at W t) + m →
    or_else (or_else o (left_from n (gap_here W t))) (left_from m (gap_all W ts 0)) ≡ or_else o (left_from n (gap_all W (cons t ts) 0))
first-gap W o t ts n m closed e =
    else_assoc o (left_from n (gap_here W t)) (left_from m (gap_all W ts 0))
    ∙ ap (or_else o)
    (ap (λ g. or_else (left_from n g) (left_from m (gap_all W ts 0))) (gap_here_lem W t closed)
    ∙ ap (or_else (left_from n (gap_from W t 0)))
    (sym (gaps_shift W ts m (length (encode_at W t)) 0)
    ∙ ap (λ k. left_from k (gap_all W ts (0 + length (encode_at W t)))) (let e : m + length (encode_at W t) ≡ n = omega arith in e))
    ∙ sym (left_else n (gap_from W t 0) (gap_all W ts (0 + length (encode_at W t)))))

-- The first of n bytes, m being left behind it.
first-left : (n m : ℕ) → n ≡ suc m → suc m ≡ n - 0
first-left n m e = omega arith

run_slot : (W : Vocabulary) (left : ℕ) → RunReads W left → (level : ℕ) → suc level + left ≡ suc most_levels →
    (k : Slot) (ks : List Slot) → RunReadsAll W left level ks → RunReadsAll W left level (k ∷ ks)
run_slot W left ih level e k ks rest ds seen y l h = go k.written
  where
    reader : ℕ → List Occurrence → List ℕ → Got Read
    reader = read_term W left false

    go : (b : Bool) →
        run W (◌++◌ {A = Due} (elim b [ true ↦ record { sort = k.sort; level = suc level; root = false } ∷ due_at (suc level) ks | false ↦ due_at (suc level) ks ]) ds) seen y l ≡
        and_then {A = ReadAll} {B = Scanned} (elim b [
          | true ↦
              and_then {B = ReadAll} (reader k.sort seen l)
              (λ a r. and_then {B = ReadAll} (read_slots reader ks a.seen r) (λ ts r'. got (with_first a.term ts) r'))
          | false ↦ and_then {B = ReadAll} (read_slots reader ks seen l) (λ ts r. got (with_first any ts) r)
        ]) (λ a r. run W ds a.seen (with_terms W level (length l) y a.terms) r)
    go true =
        ih (record { sort = k.sort; level = suc level; root = false }) (due_at (suc level) ks ++ ds) seen y l (omega arith) e
        ∙ then_agree (TermTaken W (length l)) (reader k.sort seen l) _ _ (term_taken W left k.sort seen l)
        (λ a r p.
        let levels = p.level in
        rest ds a.seen (with_term W (suc level) (length l) y a.term) r (omega arith)
        ∙ then_same (read_slots reader ks a.seen r) _ _
        (λ ts r'. ap (λ z. run W ds ts.seen z r')
        (same-tally _ _ (omega arith) (omega arith) (first-gap W y.gap a.term ts.terms (length l) (length r) p.closed p.bytes)
        (or_assoc y.short (has_short a.term) (some_short ts.terms))))
        ∙ sym (then-then (read_slots reader ks a.seen r) _ _))
        ∙ sym (then-then (reader k.sort seen l) _ _)
    go false =
        rest ds seen y l h
        ∙ then_same (read_slots reader ks seen l) _ _
        (λ ts r'. ap (λ z. run W ds ts.seen z r') (same-tally _ _ (omega arith) (omega arith) refl refl))
        ∙ sym (then-then (read_slots reader ks seen l) _ _)

run-slots : (W : Vocabulary) (left : ℕ) → RunReads W left → (level : ℕ) → suc level + left ≡ suc most_levels →
    (ks : List Slot) → RunReadsAll W left level ks
run-slots W left ih level e [] ds seen y l h =
    ap (λ z. run W ds seen z l) (same-tally _ _ (omega arith) (omega arith) (sym (else_none y.gap)) (sym (or-false y.short)))
run-slots W left ih level e (k ∷ ks) ds seen y l h = run_slot W left ih level e k ks (run-slots W left ih level e ks) ds seen y l h

pub run-reads : (W : Vocabulary) (left : ℕ) → RunReads W left
run-reads W zero d ds seen y l o e = run-limit W d ds seen y l (omega arith) ∙ go l
  where
    go : (r : List ℕ) → at_limit r ≡ and_then {A = Read} (at_limit r) (λ a r'. run W ds a.seen (with_term W d.level (length l) y a.term) r')
    go [] = refl
    go (b ∷ r) = refl
run-reads W (suc left) d ds seen y l o e =
    run-node W d ds seen y l (omega arith)
    ∙ go (run-slots W left (run-reads W left)) (node W d.root d.sort seen l) (node_takes W d.root d.sort seen l)
  where
    go : ((level : ℕ) → suc level + left ≡ suc most_levels → (ks : List Slot) → RunReadsAll W left level ks) →
        (x : Node) → NodeTakes (length l) x → scan_node (run W) d ds seen y x ≡
        and_then (from_node (read_term W left false) d.sort seen x) (λ a r. run W ds a.seen (with_term W d.level (length l) y a.term) r)
    go ih (word_here f ks r) n =
        ih d.level (omega arith) ks ds seen (with_word d.level ks r y) r (omega arith)
        ∙ then_agree (TermsTaken W ks (length r)) (read_slots (read_term W left false) ks seen r) _ _
        (slots_taken W (read_term W left false) (term_taken W left) ks seen r)
        (λ ts r' h. ap (λ z. run W ds ts.seen z r')
        (same-tally _ _ (omega arith) (omega arith)
        (else_assoc y.gap _ (left_from (length r) (gap_all W ts.terms 0))
        ∙ ap (or_else y.gap) (word_gap W f ts.terms (length r) (every_written ks) h.opens ∙ ap (λ m. left_from m (gap_here W (app f ts.terms))) (sym n)))
        (or_assoc y.short (not (every_written ks)) (some_short ts.terms) ∙ ap (λ b. y.short || (b || some_short ts.terms)) (sym h.opens))))
        ∙ sym (then-then (read_slots (read_term W left false) ks seen r) _ _)
    go ih (name_here k r) n =
        ap (λ z. run W ds (seen ++ (record { name = k; sort = d.sort } ∷ [])) z r)
        (same-tally _ _ (omega arith) (omega arith) (ap (λ m. or_else y.gap (some m)) (first-left (length l) (length r) n)) (sym (or-false y.short)))
    go ih (whole_here r) n =
        ap (λ z. run W ds seen z r) (same-tally _ _ (omega arith) (omega arith) (ap (λ m. or_else y.gap (some m)) (first-left (length l) (length r) n)) (sym (or-false y.short)))
    go ih (fault k r) n = refl

pub scan-reads : (W : Vocabulary) (s : ℕ) (seen : List Occurrence) (l : List ℕ) →
    run W (root_due s ∷ []) seen no_tally l ≡ tallied W l (read_term W most_levels true s seen l)
scan-reads W s seen l = run-reads W most_levels (root_due s) [] seen no_tally l (omega arith) refl ∙ go (read_term W most_levels true s seen l)
  where
    go : (x : Got Read) → and_then x (λ a r. run W [] a.seen (with_term W 1 (length l) no_tally a.term) r) ≡ tallied W l x
    go (got a r) = ap (λ z. got (record { tally = z; seen = a.seen }) r) (same-tally _ _ (omega arith) (omega arith) refl refl)
    go (stop n r) = refl
