-- Meets: meet answers what the trees say.
--
--   note_there, size-there, entries-there   the note of a term that is written
--   open_shares, name-shares     an open place or a name of the pattern shares all, and replaces nothing
--   walk_of, walk_of_all            what is met, on trees: two terms, and the terms at the places of one word
--   walk-shares, walk-parts      the first place, where it shares something and where not
--   place_neither .. place-both  a place by who has written it
--   all_met                      the places of a word, where two terms are met right
--   term_met                     two terms
--   meeting_right                an entry and a pattern
--
use mathlib.Core.Path.{◌≡◌, refl, sym, ap, ap₂, ◌∙◌, subst}
use mathlib.Core.Bool.{Bool, true, false, not, ◌||◌, cond, true≢false}
use mathlib.Core.List.{List, [], ◌∷◌, ◌++◌, map, append_assoc}
use Prim.Native.Nat.{ℕ, zero, suc, ◌+◌, ◌-◌, ◌*◌, ◌<◌, ◌≤◌}
use native.Mathlib.Nat.{le-max_left, le-max_right}
use native.Mathlib.Omega.{arith}
use lib.Dec.{eqb}
use lib.ListN.{length, get_or, take, drop, length-append, length-map, length-take}
use lib.Seq.{get_or-drop, drop-drop}
use borrow.Author.Tests.{eqb-true, eqb-false}
use Rattle.terms.specs.Signature.{Signature, arguments}
use Rattle.terms.specs.Term.{Term, any, var, app, Terms, nil, cons, Sorted, SortedAll}
use Rattle.terms.specs.Listing.{listing}
use Rattle.terms.specs.Book.{nameless, disjoint, disjoint_all, both, cut, cut_all}
use Rattle.wire.specs.Map.{map_bytes, flags, ones, is_open, written_flags}
use Rattle.wire.specs.Vocabulary.{Vocabulary, InOrder, signature, word, map_of}
use Rattle.wire.specs.TermBytes.{first_name_byte, whole_byte, written_map, encode_at, encode_all, encode_root, levels, levels_all, most_bytes, most_levels}
use Rattle.wire.proofs.Words.{length_symbols, arguments-word, word-in_order}
use Rattle.extents.specs.Bytes.{term_byte}
use Rattle.marks.specs.Marking.{mark_scale, entry_count, MarksOf, MarksOfAll}
use Rattle.std.specs.Prelude.{Some, None}
use Rattle.meetings.specs.Walking.{Walk, reached, size_in, entries_in, onward, meet_places, meet_word, meet_term, answer, meeting, meeting_of, MeetingRight}
use Rattle.marks.proofs.Standing.{first_byte, behind, fits, flags-there}
use Rattle.meetings.proofs.Passing.{passed-term}
use Rattle.marks.proofs.Marks.{front_of}
use Rattle.meetings.proofs.Coming.{meet_open, meet_name, meet_apart, meet_word_lem}

-- ---- notes

note_there : (W : Vocabulary) (p : Term) (m : List ℕ) → is_open p ≡ false → MarksOf W p m →
    get_or m 0 0 ≡ length (encode_at W p) + mark_scale * entry_count (signature W) p
note_there W any m closed h = absurd (true≢false closed)
note_there W (var n) m closed h = h
note_there W (app f ts) m closed h = h.0

module _ (W : Vocabulary) (p : Term) (m : List ℕ) (j : ℕ) (closed : is_open p ≡ false) (small : length (encode_at W p) < mark_scale)
    (h : MarksOf W p (drop j m)) where
  note_at : get_or m j 0 ≡ length (encode_at W p) + mark_scale * entry_count (signature W) p
  note_at =
      ap (λ i. get_or m i 0) (let e : j ≡ j + 0 = omega arith in e) ∙ sym (get_or-drop j m 0 0) ∙ note_there W p (drop j m) closed h

  size-there : size_in (get_or m j 0) ≡ length (encode_at W p)
  size-there = omega (arith, note_at)

  entries-there : entries_in (get_or m j 0) ≡ entry_count (signature W) p
  entries-there = omega (arith, note_at)

-- ---- open places and names

pub open_shares : (S : Signature) (e : Term) → (disjoint e any ≡ false) × (length (cut S e any) ≡ 0)
open_shares S any = (refl, refl)
open_shares S (var n) = (refl, refl)
open_shares S (app f es) = (refl, refl)

pub name-shares : (S : Signature) (e : Term) (n : ℕ) → (disjoint e (var n) ≡ false) × (length (cut S e (var n)) ≡ 0)
name-shares S any n = (refl, refl)
name-shares S (var k) n = (refl, refl)
name-shares S (app f es) n = (refl, refl)

-- ---- what is met

module _ (W : Vocabulary) where
  abbrev S : Signature
  S = signature W

  abbrev walk_of : Term → Term → ℕ → Walk
  walk_of e p i = cond (disjoint e p) None (reached (i + length (encode_at W e)) (length (cut S e p)))

  abbrev walk_of_all : Terms → Terms → ℕ → ℕ → Walk
  walk_of_all es ps i n = cond (disjoint_all es ps) None (reached (i + length (encode_all W es)) (n + length (cut_all S es ps)))

  module _ (e p : Term) (es ps : Terms) (i n : ℕ) where
    walk-shares : disjoint e p ≡ false →
        walk_of_all es ps (i + length (encode_at W e)) (n + length (cut S e p)) ≡ walk_of_all (cons e es) (cons p ps) i n
    walk-shares h =
        let bytes = length-append (encode_at W e) (encode_all W es) in
        let all = length-append (map (λ c. cons c es) (cut S e p)) (map (cons (both e p)) (cut_all S es ps)) in
        let first = length-map (cut S e p) (λ c. cons c es) in
        let rest = length-map (cut_all S es ps) (cons (both e p)) in
        ap (λ b. cond (b || disjoint_all es ps) None (reached (i + length (encode_at W e) + length (encode_all W es)) (n + length (cut S e p) + length (cut_all S es ps)))) (sym h)
        ∙ ap₂ (λ x y. cond (disjoint e p || disjoint_all es ps) None (reached x y))
        (let z : i + length (encode_at W e) + length (encode_all W es) ≡ i + length (encode_all W (cons e es)) = omega arith in z)
        (let z : n + length (cut S e p) + length (cut_all S es ps) ≡ n + length (cut_all S (cons e es) (cons p ps)) = omega arith in z)

    walk-parts : disjoint e p ≡ true → None ≡ walk_of_all (cons e es) (cons p ps) i n
    walk-parts h =
        ap (λ b. cond (b || disjoint_all es ps) None (reached (i + length (encode_all W (cons e es))) (n + length (cut_all S (cons e es) (cons p ps))))) (sym h)

  module _ (in_order : InOrder W) (E P M : List ℕ) (shortE : length E ≤ most_bytes) (shortP : length P ≤ most_bytes) where
    abbrev TermMet : ℕ → Type 0
    TermMet left =
        (e p : Term) (s : ℕ) → Sorted S e s → Sorted S p s → is_open e ≡ false → is_open p ≡ false → levels p ≤ left → (i j : ℕ) (r q : List ℕ) →
        drop i E ≡ encode_at W e ++ r → drop j P ≡ encode_at W p ++ q → MarksOf W p (drop j M) → meet_term left E P M i j ≡ walk_of e p i

    small-there : (p : Term) (j : ℕ) (q : List ℕ) → drop j P ≡ encode_at W p ++ q → length (encode_at W p) < mark_scale
    small-there p j q h = omega (arith, fits P j (encode_at W p) q h)

    module _ (left : ℕ) (ih : TermMet left) where
      abbrev PlacesMet : List Bool → Terms → Terms → Type 0
      PlacesMet fs es ps =
          (i j n : ℕ) (r q : List ℕ) → drop i E ≡ encode_all W es ++ r → drop j P ≡ encode_all W ps ++ q → MarksOfAll W ps (drop j M) →
          meet_places (meet_term left E P M) E M (written_flags fs es) (written_flags fs ps) i j n ≡ walk_of_all es ps i n

      module _ (fs : List Bool) (es ps : Terms) (more : PlacesMet fs es ps) where
        -- Neither has written the place.
        place_neither : PlacesMet (true ∷ fs) (cons any es) (cons any ps)
        place_neither i j n r q he hp hm =
            more i j n r q he hp hm.1
            ∙ ap₂ (walk_of_all es ps) (let z : i ≡ i + 0 = omega arith in z) (let z : n ≡ n + 0 = omega arith in z)
            ∙ walk-shares any any es ps i n refl

        -- Only the entry has.
        place_ours : (e : Term) (s : ℕ) → Sorted S e s → is_open e ≡ false → (i j n : ℕ) (r q : List ℕ) → drop i E ≡ encode_all W (cons e es) ++ r →
            drop j P ≡ encode_all W ps ++ q → MarksOfAll W ps (drop j M) →
            meet_places (meet_term left E P M) E M (true ∷ written_flags fs es) (false ∷ written_flags fs ps) i j n ≡ walk_of_all (cons e es) (cons any ps) i n
        place_ours e s sorted closed i j n r q he hp hm =
            let here : drop i E ≡ encode_at W e ++ (encode_all W es ++ r) = he ∙ append_assoc (encode_at W e) (encode_all W es) r in
            ap (λ k. meet_places (meet_term left E P M) E M (written_flags fs es) (written_flags fs ps) k j n)
            (passed-term E i W in_order e s sorted closed shortE (encode_all W es ++ r) here)
            ∙ more (i + length (encode_at W e)) j n r q (behind E i (encode_at W e) (encode_all W es ++ r) here) hp hm
            ∙ ap (walk_of_all es ps (i + length (encode_at W e))) (let z : n ≡ n + length (cut S e any) = omega (arith, (open_shares S e).1) in z)
            ∙ walk-shares e any es ps i n (open_shares S e).0

        -- The pattern has, and behind its term stand the others.
        module _ (p : Term) (closed : is_open p ≡ false) (j : ℕ) (q : List ℕ) (hp : drop j P ≡ encode_all W (cons p ps) ++ q)
            (hm : MarksOfAll W (cons p ps) (drop j M)) where
          there : drop j P ≡ encode_at W p ++ (encode_all W ps ++ q)
          there = hp ∙ append_assoc (encode_at W p) (encode_all W ps) q

          small : length (encode_at W p) < mark_scale
          small = small-there p j (encode_all W ps ++ q) there

          next-bytes : drop (j + length (encode_at W p)) P ≡ encode_all W ps ++ q
          next-bytes = behind P j (encode_at W p) (encode_all W ps ++ q) there

          next_marks : MarksOfAll W ps (drop (j + length (encode_at W p)) M)
          next_marks = subst (MarksOfAll W ps) (drop-drop (length (encode_at W p)) j M) hm.1

          -- Only the pattern.
          place_theirs : (i n : ℕ) (r : List ℕ) → drop i E ≡ encode_all W es ++ r →
              meet_places (meet_term left E P M) E M (false ∷ written_flags fs es) (true ∷ written_flags fs ps) i j n ≡ walk_of_all (cons any es) (cons p ps) i n
          place_theirs i n r he =
              ap₂ (λ x y. meet_places (meet_term left E P M) E M (written_flags fs es) (written_flags fs ps) i (j + x) (n + y))
              (size-there W p M j closed small hm.0) (entries-there W p M j closed small hm.0)
              ∙ more i (j + length (encode_at W p)) (n + entry_count S p) r q he next-bytes next_marks
              ∙ ap₂ (walk_of_all es ps) (let z : i ≡ i + 0 = omega arith in z) (ap (λ k. n + k) (sym (length-map (listing S p) nameless)))
              ∙ walk-shares any p es ps i n refl

          -- Both.
          place-both : (e : Term) (s : ℕ) → Sorted S e s → Sorted S p s → is_open e ≡ false → levels p ≤ left → (i n : ℕ) (r : List ℕ) →
              drop i E ≡ encode_all W (cons e es) ++ r →
              meet_places (meet_term left E P M) E M (true ∷ written_flags fs es) (true ∷ written_flags fs ps) i j n ≡ walk_of_all (cons e es) (cons p ps) i n
          place-both e s sorted sortedP ours deep i n r he =
              ap₂ (λ w x. onward w (λ end k. meet_places (meet_term left E P M) E M (written_flags fs es) (written_flags fs ps) end (j + x) (n + k)))
              (ih e p s sorted sortedP ours closed deep i j (encode_all W es ++ r) (encode_all W ps ++ q) here there hm.0)
              (size-there W p M j closed small hm.0)
              ∙ go (disjoint e p) refl
            where
              here : drop i E ≡ encode_at W e ++ (encode_all W es ++ r)
              here = he ∙ append_assoc (encode_at W e) (encode_all W es) r

              next : ℕ → ℕ → Walk
              next end k = meet_places (meet_term left E P M) E M (written_flags fs es) (written_flags fs ps) end (j + length (encode_at W p)) (n + k)

              go : (b : Bool) → disjoint e p ≡ b →
                  onward (cond b None (reached (i + length (encode_at W e)) (length (cut S e p)))) next ≡ walk_of_all (cons e es) (cons p ps) i n
              go true d = walk-parts e p es ps i n d
              go false d =
                  more (i + length (encode_at W e)) (j + length (encode_at W p)) (n + length (cut S e p)) r q
                  (behind E i (encode_at W e) (encode_all W es ++ r) here) next-bytes next_marks
                  ∙ walk-shares e p es ps i n d

      all_met : (fs : List Bool) (es ps : Terms) (ks : List ℕ) → length ks ≡ ones fs → SortedAll S es ks → SortedAll S ps ks → levels_all ps ≤ left →
          PlacesMet fs es ps
      all_met [] nil nil ks c a b deep i j n r q he hp hm = ap₂ reached (let z : i ≡ i + 0 = omega arith in z) (let z : n ≡ n + 0 = omega arith in z)
      all_met [] nil (cons p ps) [] c a b deep i j n r q he hp hm = absurd b
      all_met [] nil (cons p ps) (k ∷ ks) c a b deep i j n r q he hp hm = absurd a
      all_met [] (cons e es) ps [] c a b deep i j n r q he hp hm = absurd a
      all_met [] (cons e es) ps (k ∷ ks) c a b deep i j n r q he hp hm = absurd (omega arith)
      all_met (false ∷ fs) es ps ks c a b deep i j n r q he hp hm = all_met fs es ps ks (omega arith) a b deep i j n r q he hp hm
      all_met (true ∷ fs) es ps [] c a b deep i j n r q he hp hm = absurd (omega arith)
      all_met (true ∷ fs) nil ps (k ∷ ks) c a b deep i j n r q he hp hm = absurd a
      all_met (true ∷ fs) (cons e es) nil (k ∷ ks) c a b deep i j n r q he hp hm = absurd b
      all_met (true ∷ fs) (cons e es) (cons p ps) (k ∷ ks) c a b deep i j n r q he hp hm =
          let first : levels p ≤ left = omega (arith, le-max_left (levels p) (levels_all ps)) in
          let rest : levels_all ps ≤ left = omega (arith, le-max_right (levels p) (levels_all ps)) in
          go e p a.0 b.0 first (all_met fs es ps ks (omega arith) a.1 b.1 rest) i j n r q he hp hm
        where
          go : (e p : Term) → Sorted S e k → Sorted S p k → levels p ≤ left → PlacesMet fs es ps → PlacesMet (true ∷ fs) (cons e es) (cons p ps)
          go any any x y d more i j n r q he hp hm = place_neither fs es ps more i j n r q he hp hm
          go any (var v) x y d more i j n r q he hp hm = place_theirs fs es ps more (var v) refl j q hp hm i n r he
          go any (app g us) x y d more i j n r q he hp hm = place_theirs fs es ps more (app g us) refl j q hp hm i n r he
          go (var v) any x y d more i j n r q he hp hm = place_ours fs es ps more (var v) k x refl i j n r q he hp hm.1
          go (var v) (var w) x y d more i j n r q he hp hm = place-both fs es ps more (var w) refl j q hp hm (var v) k x y refl d i n r he
          go (var v) (app g us) x y d more i j n r q he hp hm = place-both fs es ps more (app g us) refl j q hp hm (var v) k x y refl d i n r he
          go (app f ts) any x y d more i j n r q he hp hm = place_ours fs es ps more (app f ts) k x refl i j n r q he hp hm.1
          go (app f ts) (var w) x y d more i j n r q he hp hm = place-both fs es ps more (var w) refl j q hp hm (app f ts) k x y refl d i n r he
          go (app f ts) (app g us) x y d more i j n r q he hp hm = place-both fs es ps more (app g us) refl j q hp hm (app f ts) k x y refl d i n r he

    -- The pattern's term is a name.
    name_met : (left : ℕ) (e : Term) (n s : ℕ) → Sorted S e s → is_open e ≡ false → (i j : ℕ) (r q : List ℕ) → drop i E ≡ encode_at W e ++ r →
        drop j P ≡ encode_at W (var n) ++ q → meet_term (suc left) E P M i j ≡ walk_of e (var n) i
    name_met left e n s sorted closed i j r q he hp =
        meet_open (suc left) E P M i j (omega arith) (omega (arith, first_byte P j hp))
        ∙ ap₂ reached (passed-term E i W in_order e s sorted closed shortE r he) (sym (name-shares S e n).1)
        ∙ ap (λ b. cond b None (reached (i + length (encode_at W e)) (length (cut S e (var n))))) (sym (name-shares S e n).0)

    module _ (left : ℕ) (ih : TermMet left) (h : ℕ) (ps : Terms) (s : ℕ) (sorted : Sorted S (app h ps) s) (deep : levels_all ps ≤ left)
        (i j : ℕ) (q : List ℕ) (hp : drop j P ≡ encode_at W (app h ps) ++ q) (hm : MarksOf W (app h ps) (drop j M)) where
      low : term_byte P j < first_name_byte
      low =
          let known : h < length W.words = rw (length_symbols W) at sorted.0 in
          omega (arith, first_byte P j hp, in_order.few_words)

      -- The entry's term is a name.
      var_met : (n : ℕ) (r : List ℕ) → drop i E ≡ encode_at W (var n) ++ r → meet_term (suc left) E P M i j ≡ walk_of (var n) (app h ps) i
      var_met n r he =
          meet_name (suc left) E P M i j (omega arith) low (omega (arith, first_byte E i he))
          ∙ ap₂ reached (passed-term E i W in_order (var n) s tt refl shortE r he)
          (entries-there W (app h ps) M j refl (small-there (app h ps) j q hp) hm ∙ sym (length-map (listing S (app h ps)) nameless))

      -- Both are words.
      word_met : (f : ℕ) (es : Terms) → Sorted S (app f es) s → (r : List ℕ) → drop i E ≡ encode_at W (app f es) ++ r →
          meet_term (suc left) E P M i j ≡ walk_of (app f es) (app h ps) i
      unfolding meet_word
      word_met f es ours r he = go (eqb f h) refl
        where
          known : f < length W.words
          known = rw (length_symbols W) at ours.0

          low_e : term_byte E i < first_name_byte
          low_e = omega (arith, first_byte E i he, in_order.few_words, known)

          end : ℕ
          end = i + length (encode_at W (app f es))

          count : ℕ
          count = length (cut S (app f es) (app h ps))

          below : f ≡ h → meet_word (meet_term left E P M) E P M i j ≡ walk_of_all es ps (i + 1 + map_bytes) 0
          below same =
              ap₂ (λ x y. meet_places (meet_term left E P M) E M x y (i + 1 + map_bytes) (j + 1 + map_bytes) 0) (flags-there E i W f es (encode_all W es ++ r) he)
              (flags-there P j W h ps (encode_all W ps ++ q) hp ∙ ap (λ g. written_flags (flags (map_of W g)) ps) (sym same))
              ∙ all_met left ih (flags (map_of W f)) es ps (word W f).kinds (word-in_order W f in_order known).count
              (subst (SortedAll S es) (arguments-word W f) ours.2)
              (subst (SortedAll S ps) (ap (arguments S) (sym same) ∙ arguments-word W f) sorted.2) deep
              (i + 1 + map_bytes) (j + 1 + map_bytes) 0 r q
              (ap (λ k. drop k E) (let z : i + 1 + map_bytes ≡ i + 2 = omega arith in z) ∙ behind E i (f ∷ written_map W f es ∷ []) (encode_all W es ++ r) he)
              (ap (λ k. drop k P) (let z : j + 1 + map_bytes ≡ j + 2 = omega arith in z) ∙ behind P j (h ∷ written_map W h ps ∷ []) (encode_all W ps ++ q) hp)
              (subst (MarksOfAll W ps) (drop-drop 2 j M ∙ ap (λ k. drop k M) (let z : j + 2 ≡ j + 1 + map_bytes = omega arith in z)) hm.1)

          go : (b : Bool) → eqb f h ≡ b → meet_term (suc left) E P M i j ≡ cond (not b || disjoint_all es ps) None (reached end count)
          go true d =
              let same = eqb-true f h d in
              meet_word_lem (suc left) E P M i j (omega arith) low low_e (first_byte E i he ∙ same ∙ sym (first_byte P j hp))
              ∙ ap (λ k. meet_word (meet_term k E P M) E P M i j) (let z : suc left - 1 ≡ left = omega arith in z)
              ∙ below same
              ∙ ap₂ (λ x y. cond (disjoint_all es ps) None (reached x y))
              (let z : i + 1 + map_bytes + length (encode_all W es) ≡ end = omega arith in z)
              (let z : 0 + length (cut_all S es ps) ≡ length (cut_all S es ps) = omega arith in z ∙ sym (length-map (cut_all S es ps) (app f)))
          go false d =
              meet_apart (suc left) E P M i j (omega arith) low low_e
              (λ z. eqb-false f h d (sym (first_byte E i he) ∙ z ∙ first_byte P j hp))

    term_met : (left : ℕ) → TermMet left
    term_met zero e any s a b ours theirs deep i j r q he hp hm = absurd (true≢false theirs)
    term_met zero e (var n) s a b ours theirs deep i j r q he hp hm = absurd (omega arith)
    term_met zero e (app h ps) s a b ours theirs deep i j r q he hp hm = absurd (omega arith)
    term_met (suc left) e any s a b ours theirs deep i j r q he hp hm = absurd (true≢false theirs)
    term_met (suc left) e (var n) s a b ours theirs deep i j r q he hp hm = name_met left e n s a ours i j r q he hp
    term_met (suc left) any (app h ps) s a b ours theirs deep i j r q he hp hm = absurd (true≢false ours)
    term_met (suc left) (var n) (app h ps) s a b ours theirs deep i j r q he hp hm =
        var_met left (term_met left) h ps s b (omega arith) i j q hp hm n r he
    term_met (suc left) (app f es) (app h ps) s a b ours theirs deep i j r q he hp hm =
        word_met left (term_met left) h ps s b (omega arith) i j q hp hm f es a r he

-- ---- an entry and a pattern

answer-of : (b : Bool) (i n : ℕ) → answer (cond b None (reached i n)) ≡ cond b None (Some n)
answer-of true i n = refl
answer-of false i n = refl

pub meeting_right : MeetingRight
meeting_right W in_order e p s a b deep mostE mostP r q m marks = go e p a b deep mostE mostP marks
  where
    short : (l : List ℕ) → length (take most_bytes l) ≤ most_bytes
    short l = omega (arith, length-take most_bytes l)

    -- What is written at the root as below it.
    closed_met : (e p : Term) → Sorted (signature W) e s → Sorted (signature W) p s → is_open e ≡ false → is_open p ≡ false → levels p ≤ most_levels →
        length (encode_at W e) < most_bytes → length (encode_at W p) < most_bytes → MarksOf W p m →
        meeting (encode_at W e ++ r) (encode_at W p ++ q) m ≡ meeting_of (signature W) e p
    closed_met e p a b ours theirs deep mostE mostP marks =
        ap answer
        (term_met W in_order (take most_bytes (encode_at W e ++ r)) (take most_bytes (encode_at W p ++ q)) m (short (encode_at W e ++ r)) (short (encode_at W p ++ q))
        most_levels e p s a b ours theirs deep 0 0 (take (most_bytes - length (encode_at W e)) r) (take (most_bytes - length (encode_at W p)) q)
        (front_of (encode_at W e) r mostE) (front_of (encode_at W p) q mostP) marks)
        ∙ answer-of (disjoint e p) (0 + length (encode_at W e)) (length (cut (signature W) e p))

    -- The pattern begins with a name or 255.
    open_met : (x y : ℕ) (l t : List ℕ) → first_name_byte ≤ y → meeting (x ∷ l) (y ∷ t) m ≡ Some 0
    open_met x y l t high =
        ap answer (meet_open most_levels (take most_bytes (x ∷ l)) (take most_bytes (y ∷ t)) m 0 0 (omega arith) high)

    -- The entry is 255, and the pattern begins with a word.
    any_met : (h : ℕ) (ps : Terms) → Sorted (signature W) (app h ps) s → length (encode_at W (app h ps)) < most_bytes → MarksOf W (app h ps) m →
        meeting (whole_byte ∷ r) (encode_at W (app h ps) ++ q) m ≡ Some (length (cut (signature W) any (app h ps)))
    any_met h ps b most marks =
        let known : h < length W.words = rw (length_symbols W) at b.0 in
        ap answer
        (meet_name most_levels (take most_bytes (whole_byte ∷ r)) (take most_bytes (encode_at W (app h ps) ++ q)) m 0 0 (omega arith)
        (omega (arith, in_order.few_words, known)) (omega arith))
        ∙ ap Some
        (entries-there W (app h ps) m 0 refl (omega arith) marks
        ∙ sym (length-map (listing (signature W) (app h ps)) nameless))

    go : (e p : Term) → Sorted (signature W) e s → Sorted (signature W) p s → levels p ≤ most_levels → length (encode_root W e) < most_bytes →
        length (encode_root W p) < most_bytes → MarksOf W p m → meeting (encode_root W e ++ r) (encode_root W p ++ q) m ≡ meeting_of (signature W) e p
    go any any a b deep mostE mostP marks = open_met whole_byte whole_byte r q (omega arith)
    go any (var n) a b deep mostE mostP marks = open_met whole_byte (first_name_byte + n) r q (omega arith)
    go any (app h ps) a b deep mostE mostP marks = any_met h ps b mostP marks
    go (var k) any a b deep mostE mostP marks = open_met (first_name_byte + k) whole_byte r q (omega arith)
    go (var k) (var n) a b deep mostE mostP marks = closed_met (var k) (var n) a b refl refl deep mostE mostP marks
    go (var k) (app h ps) a b deep mostE mostP marks = closed_met (var k) (app h ps) a b refl refl deep mostE mostP marks
    go (app f es) any a b deep mostE mostP marks = open_met f whole_byte (written_map W f es ∷ (encode_all W es ++ r)) q (omega arith)
    go (app f es) (var n) a b deep mostE mostP marks = closed_met (app f es) (var n) a b refl refl deep mostE mostP marks
    go (app f es) (app h ps) a b deep mostE mostP marks = closed_met (app f es) (app h ps) a b refl refl deep mostE mostP marks
