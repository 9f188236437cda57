-- Full: complete terms are read over full words, and where a full word stands, by the tables and by the vocabulary.
--
--   passes_none, passes_as, passes_then, passes-word    no word yet, the same named otherwise, two ways in a row, and a word more
--   passes-all, passes-stop   what is read where nothing is due any more, and where reading on is refused
--   the test-                 what testing for a full word answers
--   FullHere, full-here       a full word at an offset
--   not_full                  none there
--
use mathlib.Core.Path.{◌≡◌, refl, sym, ap, ap₂, subst, ◌∙◌}
use mathlib.Core.Bool.{Bool, true, false, false≢true}
use mathlib.Core.List.{List, [], ◌∷◌}
use Prim.Native.Nat.{ℕ, ◌+◌, ◌-◌, ◌<◌, ◌≤◌}
use native.Mathlib.Nat.{add-zero}
use native.Mathlib.Omega.{arith}
use lib.Dec.{eqb}
use lib.ListN.{length, get_or, take, drop, length-drop}
use lib.Seq.{get_or-drop}
use borrow.Author.Tests.{lt-ltb, eq-eqb, eqb-true, eqb-false}
use Rattle.terms.specs.Term.{gnil}
use Rattle.wire.specs.Map.{map_bytes, flags, within}
use Rattle.wire.specs.Vocabulary.{Vocabulary, word, map_of}
use Rattle.wire.specs.TermBytes.{most_levels}
use Rattle.wire.specs.TermLines.{Due}
use Rattle.wire.specs.Parser.{Got, got, stop, and_then, word_here, node}
use Rattle.wire.specs.FillComputed.{full_slots, full_word, with_node, read_values}
use Rattle.wire.proofs.Scan.{then-then}
use Rattle.wire.proofs.FullReading.{FullStands, Stands, full-stands, full-word, put, behind, values-node}
use Rattle.signature.specs.Tables.{Tables, vocabulary_in}
use Rattle.reader.specs.Full.{FullWord, FullTest, NotFull, Passes}
use Rattle.reader.proofs.Tables.{known-word}
use Rattle.reader.proofs.Standing.{rest-whole}

-- ---- over full words

then-got : {A : Type 0} (x : Got A) → x ≡ and_then x (λ a r. got a r)
then-got (got a r) = refl
then-got (stop n r) = refl

module _ {W : Vocabulary} {due : List Due} {l : List ℕ} where
  pub passes_none : Passes W due l due l
  passes_none = record { built = λ gs. gs; same = then-got (read_values W due l) }

  pub passes_as : {due' due'' : List Due} {l' l'' : List ℕ} → due'' ≡ due' → l'' ≡ l' → Passes W due l due' l' → Passes W due l due'' l''
  passes_as e h p = record {
    built = p.built;
    same = p.same ∙ ap₂ (λ due l. and_then (read_values W due l) (λ gs r. got (p.built gs) r)) (sym e) (sym h);
  }

  pub passes_then : {due' due'' : List Due} {l' l'' : List ℕ} → Passes W due l due' l' → Passes W due' l' due'' l'' → Passes W due l due'' l''
  passes_then {due'' = due''} {l'' = l''} p q = record {
    built = λ gs. p.built (q.built gs);
    same =
        p.same
        ∙ ap (λ x. and_then x (λ gs r. got (p.built gs) r)) q.same
        ∙ then-then (read_values W due'' l'') (λ gs r. got (q.built gs) r) (λ gs r. got (p.built gs) r);
  }

  pub passes-word : {d : Due} {ds : List Due} {l' r : List ℕ} {f : ℕ} → d.level ≤ most_levels → full_word W d.sort l' ≡ got f r →
      Passes W due l (d ∷ ds) l' → Passes W due l (behind W d ds f) r
  passes-word {d} {ds} {l'} {r} {f} low e p =
      passes_then p (record {
        built = with_node (length (word W f).kinds) f;
        same = values-node W d ds l' low ∙ ap (λ x. and_then x (λ f r. and_then (read_values W (behind W d ds f) r) (put W f))) e;
      })

  pub passes-all : {l' : List ℕ} (p : Passes W due l [] l') → read_values W due l ≡ got (p.built gnil) l'
  passes-all p = p.same

  pub passes-stop : {due' : List Due} {l' : List ℕ} {n : ℕ} {r : List ℕ} → Passes W due l due' l' → read_values W due' l' ≡ stop n r → read_values W due l ≡ stop n r
  passes-stop p e = p.same ∙ ap (λ x. and_then x (λ gs r. got (p.built gs) r)) e

-- ---- where a full word stands

-- The word f, which is the first byte's number.
module _ {l : List ℕ} {k n f : ℕ} {results maps : List ℕ} (e : f ≡ get_or l 0 0) where
  word_by_tables : 2 ≤ length l → f < n → get_or results f 0 ≡ k → get_or l 1 0 ≡ get_or maps f 0 → FullWord l k n results maps
  word_by_tables long known of full = record {
    long = long;
    known = omega arith;
    kind = ap (λ f. get_or results f 0) (sym e) ∙ of;
    full = full ∙ ap (λ f. get_or maps f 0) e;
  }

  test-no : (FullWord l k n results maps → ⊥) → FullTest l k n results maps false
  test-no none = record { stands = λ b. absurd (false≢true b); other = λ b. none }

  pub test-unknown : n ≤ f → FullTest l k n results maps false
  test-unknown high = test-no (λ w. let known = w.known in omega arith)

  pub test-differs : (get_or results f 0 ≡ k → ⊥) → FullTest l k n results maps false
  test-differs other = test-no (λ w. other (ap (λ f. get_or results f 0) e ∙ w.kind))

  pub test-map : 2 ≤ length l → f < n → get_or results f 0 ≡ k → {m : ℕ} → m ≡ get_or l 1 0 → FullTest l k n results maps (eqb m (get_or maps f 0))
  test-map long known of {m} second = record {
    stands = λ b. word_by_tables long known of (sym second ∙ eqb-true m (get_or maps f 0) b);
    other = λ b w. eqb-false m (get_or maps f 0) b (second ∙ w.full ∙ ap (λ f. get_or maps f 0) (sym e));
  }

pub test_short : {l : List ℕ} {k n : ℕ} {results maps : List ℕ} → length l < 2 → FullTest l k n results maps false
test_short short = record { stands = λ b. absurd (false≢true b); other = λ b w. let long = w.long in omega arith }

within_itself : (fs : List Bool) → within fs fs ≡ true
within_itself [] = refl
within_itself (true ∷ fs) = within_itself fs
within_itself (false ∷ fs) = within_itself fs

module _ (W : Vocabulary) (k f : ℕ) (known : f < length W.words) (result : (word W f).result ≡ k) where
  node-full : (l : List ℕ) → 2 ≤ length l → get_or l 0 0 ≡ f → get_or l 1 0 ≡ map_of W f → node W false k [] l ≡ word_here f (full_slots W f) (drop 2 l)
  node-full [] h first second = absurd (omega arith)
  node-full (b ∷ []) h first second = absurd (omega arith)
  node-full (b ∷ m ∷ l) h first second =
      rw (first, second, lt-ltb f (length W.words) known, eq-eqb (word W f).result k result, within_itself (flags (map_of W f)))

  word-full : (l : List ℕ) → 2 ≤ length l → get_or l 0 0 ≡ f → get_or l 1 0 ≡ map_of W f → full_word W k l ≡ got f (drop 2 l)
  word-full [] h first second = absurd (omega arith)
  word-full (b ∷ []) h first second = absurd (omega arith)
  word-full (b ∷ m ∷ l) h first second = ap₂ (λ b m. full_word W k (b ∷ m ∷ l)) first second ∙ full-word W k f l known result

-- The word f stands at an offset, full.
pub record FullHere (v t : List ℕ) (n at k f : ℕ) : Type 0 where
  pub long : at + (1 + map_bytes) ≤ length t
  pub known : f < n
  pub stands : node (vocabulary_in v) false k [] (drop at t) ≡ word_here f (full_slots (vocabulary_in v) f) (drop (1 + map_bytes) (drop at t))
  pub read : full_word (vocabulary_in v) k (drop at t) ≡ got f (drop (1 + map_bytes) (drop at t))

pub full-here : {v t : List ℕ} {n at k f : ℕ} {offsets results maps : List ℕ} → Tables v n offsets results maps →
    FullWord (take (length t - at) (drop at t)) k n results maps → f ≡ get_or t at 0 → FullHere v t n at k f
full-here {v} {t} {n} {at} {k} {f} {offsets} {results} {maps} tables lent e =
    let W : Vocabulary = vocabulary_in v in
    let x : FullWord (drop at t) k n results maps = subst (λ l. FullWord l k n results maps) (rest-whole t at) lent in
    let first : get_or (drop at t) 0 0 ≡ f = get_or-drop at t 0 0 ∙ ap (λ n. get_or t n 0) (add-zero at) ∙ sym e in
    let known : f < n = subst (λ f. f < n) first x.known in
    let long = x.long in
    let second : get_or (drop at t) 1 0 ≡ map_of W f = x.full ∙ ap (λ f. get_or maps f 0) first ∙ tables.place_map f known in
    let result : (word W f).result ≡ k = sym (tables.tabled.result f known) ∙ ap (λ f. get_or results f 0) (sym first) ∙ x.kind in
    record {
      long = omega (arith, length-drop at t);
      known = known;
      stands = node-full W k f (known-word tables known) result (drop at t) long first second;
      read = word-full W k f (known-word tables known) result (drop at t) long first second;
    }

module _ {v : List ℕ} {n k : ℕ} {offsets results maps : List ℕ} (tables : Tables v n offsets results maps) where
  full_by_tables : (l : List ℕ) (f : ℕ) (r : List ℕ) → FullStands (vocabulary_in v) k l f r → FullWord l k n results maps
  full_by_tables l f r s =
      let known : f < n = let h = s.known in omega (arith, tables.tabled.words) in
      word_by_tables (sym (ap (λ l. get_or l 0 0) s.bytes)) (omega (arith, ap length s.bytes)) known (tables.tabled.result f known ∙ s.due)
      (ap (λ l. get_or l 1 0) s.bytes ∙ sym (tables.place_map f known))

  pub not_full : (t : List ℕ) (at : ℕ) → (FullWord (take (length t - at) (drop at t)) k n results maps → ⊥) → NotFull (vocabulary_in v) k (drop at t)
  not_full t at none f r e =
      none (subst (λ l. FullWord l k n results maps) (sym (rest-whole t at))
      (full_by_tables (drop at t) f r (subst (Stands (vocabulary_in v) k (drop at t)) e (full-stands (vocabulary_in v) k (drop at t)))))

pub word-inside : {v t : List ℕ} {n at k f : ℕ} → FullHere v t n at k f → at < length t
word-inside x = omega (arith, x.long)
