-- Marks: a pattern's notes are right.
--
--   marks-kept           the notes of a term are kept where as many entries as it has bytes are
--   MarkedRight, AllRight   what is noted of a term, and of the terms at a word's places
--   all_right            the places of a word, where a term is noted right
--   term_right           a term
--   marks_right          a whole pattern
--
use mathlib.Core.Path.{◌≡◌, refl, sym, ap, ap₂, ◌∙◌, subst}
use mathlib.Core.Bool.{Bool, true, false, true≢false}
use mathlib.Core.List.{List, [], ◌∷◌, ◌++◌, map, append_assoc}
use Prim.Native.Nat.{ℕ, zero, suc, ◌+◌, ◌-◌, ◌*◌, ◌<◌, ◌≤◌}
use native.Mathlib.Nat.{le-max_left, le-max_right}
use native.Mathlib.Omega.{arith}
use lib.ListN.{length, get_or, take, drop, set, length-append, length-map, length-set}
use lib.Seq.{get_or-drop, drop-drop, drop-set-lt, get_or-set_same, get_or-set_other, take-append-add}
use borrow.Author.Tests.{lt-ltb, le-ltb}
use Rattle.terms.specs.Signature.{Signature}
use Rattle.terms.specs.Term.{Term, any, var, app, Terms, nil, cons, Sorted, SortedAll}
use Rattle.terms.specs.Listing.{others, bare, open_every, listing, listing_all}
use Rattle.wire.specs.Map.{map_bytes, flags, ones, is_open, written_flags}
use Rattle.wire.specs.Vocabulary.{Vocabulary, InOrder, signature, word, map_of}
use Rattle.wire.specs.TermBytes.{first_name_byte, name_byte, written_map, encode_at, encode_all, encode_root, levels, levels_all, most_bytes, most_levels}
use Rattle.wire.proofs.Cond.{cond_true, cond_false}
use Rattle.wire.proofs.Words.{length_symbols, arguments-word, word-in_order}
use Rattle.kinds.proofs.Others.{others-tabled}
use Rattle.extents.specs.Bytes.{term_byte}
use Rattle.marks.specs.Marking.{mark_scale, sibling_at, Marking, marking, then, with_note, mark_places, mark_below, mark_term, table_of, entry_count, MarksOf, MarksOfAll, MarksRight}
use Rattle.marks.proofs.Standing.{first_byte, inside, behind, flags-there}
use Rattle.marks.proofs.Noting.{mark_some, head-name, head-word, below-name, below_word}

-- ---- notes that are kept

abbrev Kept : ℕ → List ℕ → List ℕ → Type 0
Kept n m r = (i : ℕ) → i < n → get_or r i 0 ≡ get_or m i 0

kept-behind : (k n : ℕ) (m r : List ℕ) → Kept (k + n) m r → Kept n (drop k m) (drop k r)
kept-behind k n m r h i l = get_or-drop k r i 0 ∙ h (k + i) (omega arith) ∙ sym (get_or-drop k m i 0)

kept-front : (k n : ℕ) (m r : List ℕ) → k ≤ n → Kept n m r → Kept k m r
kept-front k n m r le h i l = h i (omega arith)

module _ (W : Vocabulary) where
  mutual
    pub marks-kept : (t : Term) (m r : List ℕ) → Kept (length (encode_at W t)) m r → MarksOf W t m → MarksOf W t r
    marks-kept any m r h k = tt
    marks-kept (var n) m r h k = h 0 (omega arith) ∙ k
    marks-kept (app f ts) m r h k = (
      h 0 (omega arith) ∙ k.0,
      marks_all_kept ts (drop 2 m) (drop 2 r)
          (kept-behind 2 (length (encode_all W ts)) m r (kept-front (2 + length (encode_all W ts)) (length (encode_at W (app f ts))) m r (omega arith) h)) k.1,
    )

    marks_all_kept : (ts : Terms) (m r : List ℕ) → Kept (length (encode_all W ts)) m r → MarksOfAll W ts m → MarksOfAll W ts r
    marks_all_kept nil m r h k = tt
    marks_all_kept (cons t ts) m r h k =
        let n = length-append (encode_at W t) (encode_all W ts) in (
          marks-kept t m r (kept-front (length (encode_at W t)) (length (encode_all W (cons t ts))) m r (omega arith) h) k.0,
          marks_all_kept ts (drop (length (encode_at W t)) m) (drop (length (encode_at W t)) r)
              (kept-behind (length (encode_at W t)) (length (encode_all W ts)) m r
              (kept-front (length (encode_at W t) + length (encode_all W ts)) (length (encode_all W (cons t ts))) m r (omega arith) h)) k.1,
        )

-- The note that is stored at an offset.
stored_note : (m : List ℕ) (at v : ℕ) → at < length m → get_or (drop at (set m at v)) 0 0 ≡ v
stored_note m at v h =
    get_or-drop at (set m at v) 0 0 ∙ ap (λ i. get_or (set m at v) i 0) (let e : at + 0 ≡ at = omega arith in e) ∙ get_or-set_same m at v 0 h

-- ---- what is noted

pub record MarkedRight (W : Vocabulary) (t : Term) (at : ℕ) (m : List ℕ) (x : Marking) : Type 0 where
  pub table : List ℕ
  pub same : x ≡ marking (at + length (encode_at W t)) (entry_count (signature W) t) table
  pub right : MarksOf W t (drop at table)
  pub before : Kept at m table
  pub long : length table ≡ length m

pub record AllRight (W : Vocabulary) (ts : Terms) (at n : ℕ) (m : List ℕ) (x : Marking) : Type 0 where
  pub table : List ℕ
  pub same : x ≡ marking (at + length (encode_all W ts)) (n + length (listing_all (signature W) ts)) table
  pub right : MarksOfAll W ts (drop at table)
  pub before : Kept at m table
  pub long : length table ≡ length m

module _ (W : Vocabulary) (in_order : InOrder W) (siblings l : List ℕ) where
  abbrev S : Signature
  S = signature W

  abbrev TermRight : ℕ → Type 0
  TermRight left =
      (t : Term) (s : ℕ) → Sorted S t s → is_open t ≡ false → levels t ≤ left → (at : ℕ) (r m : List ℕ) → drop at l ≡ encode_at W t ++ r →
      at + length (encode_at W t) ≤ length m → MarkedRight W t at m (mark_term left siblings l at m)

  module _ (left : ℕ) (ih : TermRight left) where
    abbrev PlacesRight : List Bool → Terms → Type 0
    PlacesRight fs ts =
        (at n : ℕ) (r m : List ℕ) → drop at l ≡ encode_all W ts ++ r → at + length (encode_all W ts) ≤ length m →
        AllRight W ts at n m (mark_places (mark_term left siblings l) (written_flags fs ts) at n m)

    -- A place that is not written.
    open_right : (fs : List Bool) (ts : Terms) → PlacesRight fs ts → PlacesRight (true ∷ fs) (cons any ts)
    open_right fs ts more at n r m h room =
        let x = more at n r m h room in
        record {
          table = x.table;
          same =
              x.same
              ∙ ap (λ k. marking (at + length (encode_all W ts)) (n + k) x.table) (sym (length-map (listing_all S ts) (cons any)));
          right = (tt, x.right);
          before = x.before;
          long = x.long;
        }

    -- One that is.
    closed_right : (fs : List Bool) (t : Term) (s : ℕ) (ts : Terms) → Sorted S t s → is_open t ≡ false → levels t ≤ left →
        PlacesRight fs ts → (at n : ℕ) (r m : List ℕ) → drop at l ≡ encode_all W (cons t ts) ++ r →
        at + length (encode_all W (cons t ts)) ≤ length m →
        AllRight W (cons t ts) at n m (mark_places (mark_term left siblings l) (true ∷ written_flags fs ts) at n m)
    closed_right fs t s ts sorted closed deep more at n r m h room =
        let k : ℕ = length (encode_at W t) in
        let sum = length-append (encode_at W t) (encode_all W ts) in
        let here : drop at l ≡ encode_at W t ++ (encode_all W ts ++ r) = h ∙ append_assoc (encode_at W t) (encode_all W ts) r in
        let x = ih t s sorted closed deep at (encode_all W ts ++ r) m here (omega arith) in
        let y = more (at + k) (n + entry_count S t) r x.table (behind l at (encode_at W t) (encode_all W ts ++ r) here) (omega (arith, x.long)) in
        record {
          table = y.table;
          same =
              ap (λ z. then z (λ end i q. mark_places (mark_term left siblings l) (written_flags fs ts) end (n + i) q)) x.same
              ∙ y.same
              ∙ ap₂ (λ i j. marking i j y.table)
              (let e : at + k + length (encode_all W ts) ≡ at + length (encode_all W (cons t ts)) = omega arith in e)
              (let both = length-append (map (λ e. cons e (open_every ts)) (listing S t)) (map (cons t) (listing_all S ts)) in
              let first = length-map (listing S t) (λ e. cons e (open_every ts)) in
              let rest = length-map (listing_all S ts) (cons t) in
              let e : n + entry_count S t + length (listing_all S ts) ≡ n + length (listing_all S (cons t ts)) = omega arith in e);
          right = (
            marks-kept W t (drop at x.table) (drop at y.table) (kept-behind at k x.table y.table y.before) x.right,
            subst (MarksOfAll W ts) (sym (drop-drop k at y.table)) y.right,
          );
          before = λ i less. y.before i (omega arith) ∙ x.before i less;
          long = y.long ∙ x.long;
        }

    all_right : (fs : List Bool) (ts : Terms) (ks : List ℕ) → length ks ≡ ones fs → SortedAll S ts ks → levels_all ts ≤ left → PlacesRight fs ts
    all_right [] nil [] e h deep at n r m here room = record {
      table = m;
      same = ap₂ (λ i j. marking i j m) (let e : at ≡ at + 0 = omega arith in e) (let e : n ≡ n + 0 = omega arith in e);
      right = tt;
      before = λ i less. refl;
      long = refl;
    }
    all_right [] nil (k ∷ ks) e h deep at n r m here room = absurd h
    all_right [] (cons t ts) [] e h deep at n r m here room = absurd h
    all_right [] (cons t ts) (k ∷ ks) e h deep at n r m here room = absurd (omega arith)
    all_right (false ∷ fs) ts ks e h deep at n r m here room = all_right fs ts ks (omega arith) h deep at n r m here room
    all_right (true ∷ fs) nil [] e h deep at n r m here room = absurd (omega arith)
    all_right (true ∷ fs) nil (k ∷ ks) e h deep at n r m here room = absurd h
    all_right (true ∷ fs) (cons t ts) [] e h deep at n r m here room = absurd h
    all_right (true ∷ fs) (cons any ts) (k ∷ ks) e h deep at n r m here room =
        open_right fs ts (all_right fs ts ks (omega arith) h.1 (omega (arith, le-max_right 0 (levels_all ts)))) at n r m here room
    all_right (true ∷ fs) (cons (var v) ts) (k ∷ ks) e h deep at n r m here room =
        closed_right fs (var v) k ts h.0 refl (omega (arith, le-max_left 1 (levels_all ts)))
        (all_right fs ts ks (omega arith) h.1 (omega (arith, le-max_right 1 (levels_all ts)))) at n r m here room
    all_right (true ∷ fs) (cons (app g us) ts) (k ∷ ks) e h deep at n r m here room =
        closed_right fs (app g us) k ts h.0 refl (omega (arith, le-max_left (levels (app g us)) (levels_all ts)))
        (all_right fs ts ks (omega arith) h.1 (omega (arith, le-max_right (levels (app g us)) (levels_all ts)))) at n r m here room

  -- A word's own note, behind those of the terms at its places.
  word-noted : (f : ℕ) (ts : Terms) (at : ℕ) (m : List ℕ) (x : Marking) → at + length (encode_at W (app f ts)) ≤ length m →
      AllRight W ts (at + 1 + map_bytes) (length (others S f)) m x → MarkedRight W (app f ts) at m (with_note at x)
  word-noted f ts at m x room below =
      let n : ℕ = length (encode_at W (app f ts)) in
      let e : ℕ = entry_count S (app f ts) in
      let size : at + 1 + map_bytes + length (encode_all W ts) ≡ at + n = omega arith in
      let count : length (others S f) + length (listing_all S ts) ≡ e =
      sym (length-append (map (bare S) (others S f)) (map (app f) (listing_all S ts))
      ∙ ap₂ ◌+◌ (length-map (others S f) (bare S)) (length-map (listing_all S ts) (app f))) in
      let note : ℕ = at + n - at + mark_scale * e in
      let last : List ℕ = below.table in
      record {
        table = set last at note;
        same = ap (with_note at) (below.same ∙ ap₂ (λ i j. marking i j last) size count);
        right = (
          stored_note last at note (omega (arith, below.long)) ∙ (let z : note ≡ n + mark_scale * e = omega arith in z),
          subst (MarksOfAll W ts)
              (sym (drop-drop 2 at (set last at note) ∙ drop-set-lt (at + 2) last at note (omega arith)
              ∙ ap (λ i. drop i last) (let z : at + 2 ≡ at + 1 + map_bytes = omega arith in z))) below.right,
        );
        before = λ i less. get_or-set_other last at i note 0 (λ z. omega arith) ∙ below.before i (omega arith);
        long = length-set last at note ∙ below.long;
      }

  module _ (counts : (f : ℕ) → f < length W.words → sibling_at siblings f ≡ length (others S f)) where
    -- A word, where the terms at its places are noted right.
    word_right : (left : ℕ) → TermRight left → (f : ℕ) (ts : Terms) (s : ℕ) → Sorted S (app f ts) s → levels_all ts ≤ left →
        (at : ℕ) (r m : List ℕ) → drop at l ≡ encode_at W (app f ts) ++ r → at + length (encode_at W (app f ts)) ≤ length m →
        MarkedRight W (app f ts) at m (mark_term (suc left) siblings l at m)
    unfolding mark_below
    word_right left ih f ts s sorted deep at r m h room =
        let known : f < length W.words = rw (length_symbols W) at sorted.0 in
        let few = in_order.few_words in
        let byte : term_byte l at ≡ f = first_byte l at h in
        let low : term_byte l at < first_name_byte = omega arith in
        let there : drop (at + 1 + map_bytes) l ≡ encode_all W ts ++ r =
        ap (λ i. drop i l) (let e : at + 1 + map_bytes ≡ at + 2 = omega arith in e) ∙ behind l at (f ∷ written_map W f ts ∷ []) (encode_all W ts ++ r) h in
        subst (MarkedRight W (app f ts) at m)
        (sym (mark_some (suc left) siblings l at m (λ e. omega arith)
        ∙ ap (λ k. with_note at (mark_below (mark_term k siblings l) siblings l at m)) (let e : suc left - 1 ≡ left = omega arith in e)
        ∙ ap₂ (λ b i. with_note at (mark_places (mark_term left siblings l) (flags b) i (sibling_at siblings (term_byte l at)) m)) (below_word l at low)
        (ap (λ i. at + i) (head-word l at (inside l at h) low) ∙ (let e : at + (1 + map_bytes) ≡ at + 1 + map_bytes = omega arith in e))
        ∙ ap₂ (λ fs i. with_note at (mark_places (mark_term left siblings l) fs (at + 1 + map_bytes) i m)) (flags-there l at W f ts (encode_all W ts ++ r) h)
        (ap (sibling_at siblings) byte ∙ counts f known)))
        (word-noted f ts at m _ room
        (all_right left ih (flags (map_of W f)) ts (word W f).kinds (word-in_order W f in_order known).count
        (subst (SortedAll S ts) (arguments-word W f) sorted.2) deep (at + 1 + map_bytes) (length (others S f)) r m there (omega arith)))

    name_right : (left n at : ℕ) (r m : List ℕ) → drop at l ≡ encode_at W (var n) ++ r → at + 1 ≤ length m →
        MarkedRight W (var n) at m (mark_term (suc left) siblings l at m)
    unfolding mark_below
    name_right left n at r m h room =
        let byte : term_byte l at ≡ name_byte n = first_byte l at h in
        let high : first_name_byte ≤ term_byte l at = omega arith in
        let none : sibling_at siblings (term_byte l at) ≡ 0 = cond_false _ _ _ (le-ltb (term_byte l at) first_name_byte high) in
        let size : at + 1 - at + mark_scale * 0 ≡ 1 = omega arith in
        record {
          table = set m at 1;
          same =
              mark_some (suc left) siblings l at m (λ e. omega arith)
              ∙ ap₂ (λ b i. with_note at (mark_places (mark_term (suc left - 1) siblings l) (flags b) (at + i) (sibling_at siblings (term_byte l at)) m))
              (below-name l at high) (head-name l at (inside l at h) high)
              ∙ ap (λ i. marking (at + 1) i (set m at (at + 1 - at + mark_scale * i))) none
              ∙ ap (λ i. marking (at + 1) 0 (set m at i)) size;
          right = stored_note m at 1 (omega arith);
          before = λ i less. get_or-set_other m at i 1 0 (λ e. omega arith);
          long = length-set m at 1;
        }

    term_right : (left : ℕ) → TermRight left
    term_right zero any s sorted closed deep at r m h room = absurd (true≢false closed)
    term_right zero (var n) s sorted closed deep at r m h room = absurd (omega arith)
    term_right zero (app f ts) s sorted closed deep at r m h room = absurd (omega arith)
    term_right (suc left) any s sorted closed deep at r m h room = absurd (true≢false closed)
    term_right (suc left) (var n) s sorted closed deep at r m h room = name_right left n at r m h room
    term_right (suc left) (app f ts) s sorted closed deep at r m h room =
        word_right left (term_right left) f ts s sorted (omega arith) at r m h room

-- ---- a whole pattern

-- The first bytes of what begins with fewer.
pub front_of : (x r : List ℕ) → length x < most_bytes → take most_bytes (x ++ r) ≡ x ++ take (most_bytes - length x) r
front_of x r h =
    ap (λ n. take n (x ++ r)) (let e : most_bytes ≡ length x + (most_bytes - length x) = omega arith in e) ∙ take-append-add x r (most_bytes - length x)

pub marks_right : MarksRight
marks_right W in_order results siblings tabled table p s sorted deep most r m room = go p sorted deep most room
  where
    counts : (f : ℕ) → f < length W.words → sibling_at siblings f ≡ length (others (signature W) f)
    counts f h =
        cond_true _ _ _ (lt-ltb f first_name_byte (omega (arith, in_order.few_words)))
        ∙ table.many f h
        ∙ ap length (sym (others-tabled W in_order (length W.words) results refl tabled f h))

    closed-marks : (p : Term) → Sorted (signature W) p s → is_open p ≡ false → levels p ≤ most_levels → length (encode_at W p) < most_bytes →
        length (encode_at W p) ≤ length m → MarksOf W p (table_of (mark_term most_levels siblings (take most_bytes (encode_at W p ++ r)) 0 m))
    closed-marks p sorted closed deep most room =
        let x = term_right W in_order siblings (take most_bytes (encode_at W p ++ r)) counts most_levels p s sorted closed deep 0
        (take (most_bytes - length (encode_at W p)) r) m (front_of (encode_at W p) r most) (omega arith) in
        subst (λ z. MarksOf W p (table_of z)) (sym x.same) x.right

    go : (p : Term) → Sorted (signature W) p s → levels p ≤ most_levels → length (encode_root W p) < most_bytes →
        length (encode_root W p) ≤ length m → MarksOf W p (table_of (mark_term most_levels siblings (take most_bytes (encode_root W p ++ r)) 0 m))
    go any sorted deep most room = tt
    go (var n) sorted deep most room = closed-marks (var n) sorted refl deep most room
    go (app f ts) sorted deep most room = closed-marks (app f ts) sorted refl deep most room
