-- Books: the patterns of a book, one after the other, and the call.
--
--   count_none, count_high, count_some     what is counted
--   fault-inside, pattern-fault, pattern_repeated, pattern-other, pattern-ends    what a pattern of a book gives, by how its reading ends
--   patterns_from           what reading on from an offset gives, where so many patterns are due
--   BookTo                 the loop's invariant: reading on from there gives the reply of the book
--   book_uncounted, book_begins, book_turn, book_stops, book_continues, book_ends    its beginning, its turn and its end
--   books_refused, books_judged    the reply of the call, by what the vocabulary's check answers
--
use mathlib.Core.Path.{◌≡◌, refl, sym, ap, ap₂, subst, ◌∙◌}
use mathlib.Core.Bool.{Bool, true, false, not, ◌&&◌}
use mathlib.Core.List.{List, [], ◌∷◌}
use mathlib.Core.Option.{Option, some, none}
use Prim.Native.Nat.{ℕ, suc, ◌+◌, ◌-◌, ◌<◌, ◌≤◌}
use native.Mathlib.Omega.{arith}
use lib.Dec.{ltb, eqb}
use lib.ListN.{length, get_or, take, drop, length-drop, drop_of_length-le}
use lib.Seq.{drop-cons, drop-drop, get_or-drop}
use borrow.Author.Tests.{lt-ltb, le-ltb, ltb-false, eq-eqb, ne_eqb}
use Rattle.terms.proofs.Bools.{or_left, or_right}
use Rattle.wire.specs.Reply.{Reply, accepted, refused, Kinded, kinded, outside}
use Rattle.wire.specs.Vocabulary.{Vocabulary, InOrder}
use Rattle.wire.specs.TermBytes.{least_bytes, most_bytes, most_levels}
use Rattle.wire.specs.PatternLines.{sightings}
use Rattle.wire.specs.BookBytes.{most_patterns}
use Rattle.wire.specs.Parser.{Reading, accept, refuse, Got, got, stop, and_then, offset, Read, read_term, read_row, read_vocabulary}
use Rattle.wire.specs.CheckComputed.{reply_of, vocabulary_reply}
use Rattle.wire.specs.ListComputed.{repeated_in}
use Rattle.wire.specs.BookComputed.{behind_window, front_of, read_front, line18, line25, read_pattern, kind_behind, after_last, judged_book, judged_under, book_judged, book_clear}
use Rattle.wire.proofs.Bytes.{offset-drop}
use Rattle.wire.proofs.Cond.{cond_true, cond_false, choice}
use Rattle.wire.proofs.Outside.{inside-outside}
use Rattle.repeats.specs.FirstRepeat.{first_repeat, repeat_of}
use Rattle.std.specs.Prelude as std
use Rattle.std.specs.Prelude.{Some, None}
use Rattle.repeats.proofs.Passing.{pattern_repeats, repeat_inside}
use Rattle.signature.specs.Answers.{vocabulary_refused}
use Rattle.signature.specs.declared.VocabularyRefusal.{VocabularyRefusal}
use Rattle.reader.specs.Answers.{term_refused_at, book_refused}
use Rattle.reader.specs.Nodes.{number_of, place_of}
use Rattle.reader.specs.Terms.{Refuses, front_run}
use Rattle.reader.specs.Books.{book_reply, count_of, in_window, placed_at, PatternEnds, PatternStops, Fronted}
use Rattle.reader.specs.declared.refusal.TermRefusal.{TermRefusal}
use Rattle.reader.specs.declared.refusal.TermRefusal.TheVariants as T
use Rattle.reader.specs.declared.book.BookRefusal.{BookRefusal}
use Rattle.reader.specs.declared.book.BookRefusal.TheVariants as B
use Rattle.reader.proofs.Calls.{refused_never}
use Rattle.reader.proofs.Fronts.{window, take_short, front-fault, place-within}

-- ---- the count

pub count_none : (b : List ℕ) → length b ≡ 0 → 0 ≡ count_of b
count_none [] h = refl
count_none (c ∷ l) h = absurd (omega arith)

pub count_high : (b : List ℕ) → most_patterns < get_or b 0 0 → 0 ≡ count_of b
count_high [] h = refl
count_high (c ∷ l) h = sym (cond_true (ltb most_patterns c) 0 c (lt-ltb most_patterns c h))

pub count_some : (b : List ℕ) → get_or b 0 0 ≤ most_patterns → get_or b 0 0 ≡ count_of b
count_some [] h = refl
count_some (c ∷ l) h = sym (cond_false (ltb most_patterns c) 0 c (le-ltb most_patterns c h))

-- ---- a pattern

-- A name that stands again in a part of the book from an offset on.
pub repeat_within : (b : List ℕ) (at : ℕ) → at ≤ length b → (n words : ℕ) {q : ℕ} (r : std.Option ℕ) → repeat_of r ≡ first_repeat words (take n (drop at b)) → r ≡ Some q → at + q ≤ length b
repeat_within b at within n words {q} r e f =
    omega (arith, repeat_inside words (take n (drop at b)) q (sym e ∙ ap repeat_of f), take_short n (drop at b), length-drop at b)

placed-reply : (at : ℕ) (why : TermRefusal) → term_refused_at 5 at (placed_at at why) ≡ refused (number_of why) 5 (at + place_of why)
placed-reply at T.Size = ap (refused 7 5) (omega arith)
placed-reply at T.NoSuchKind = ap (refused 8 5) (omega arith)
placed-reply at (T.Ends q) = refl
placed-reply at (T.TooDeep q) = refl
placed-reply at (T.NoWordOrName q) = refl
placed-reply at (T.WrongKind q) = refl
placed-reply at (T.Clashes q) = refl
placed-reply at (T.StrayBit q) = refl
placed-reply at (T.Continues q) = refl

module _ (W : Vocabulary) (b : List ℕ) (at : ℕ) where
  abbrev rest : List ℕ
  rest = drop at b

  abbrev first : Option ℕ
  first = some (get_or b 1 0)

  left : length rest ≡ length b - at
  left = length-drop at b

  -- The place of a fault lies in the book, or behind its last byte.
  pub fault-inside : at ≤ length b → {why : TermRefusal} → Refuses (window rest) why (front_run W (window rest)) → {n : ℕ} → n ≡ length b - at →
      {x : TermRefusal} → x ≡ in_window n why → at + place_of x ≤ length b
  fault-inside within {why} h {n} e {x} f = omega (arith, h.inside, place-within n why, ap place_of f, take_short most_bytes rest, left)

  pub pattern-fault : at ≤ length b → {why : TermRefusal} → Refuses (window rest) why (front_run W (window rest)) → {n : ℕ} → n ≡ length b - at →
      {x y : TermRefusal} → x ≡ in_window n why → y ≡ placed_at at x → PatternStops W b at (B.Pattern at y)
  pattern-fault within {why} h {n} e {x} {y} f g = record {
    number = number_of x;
    place = at + place_of x;
    reply = ap (term_refused_at 5 at) g ∙ placed-reply at x;
    same =
        ap (λ g. and_then (and_then g (λ y r. line18 rest y r (repeated_in [] (sightings W y.term)))) (line25 first rest))
        (front-fault rest W h ∙ ap (λ y. stop (number_of y) (drop (place_of y) rest)) same ∙ ap (stop (number_of x)) (drop-drop (place_of x) at b));
    inside = fault-inside within h e f;
  }
    where
      same : in_window (length rest) why ≡ x
      same = ap (λ m. in_window m why) (left ∙ sym e) ∙ sym f

  pub pattern-spans : at ≤ length b → {n : ℕ} → Fronted W rest n → (at + least_bytes ≤ length b) × (at ≤ at + n) × (at + n ≤ length b)
  pattern-spans within x =
      let long = x.long in
      let inside = x.inside in
      (omega (arith, left), omega arith, omega (arith, left))

  pub pattern-between : {n : ℕ} → Fronted W rest n → Fronted W rest (at + n - at)
  pattern-between {n} x = subst (Fronted W rest) (let e : n ≡ at + n - at = omega arith in e) x

  -- ---- one whose term is read, up to an offset

  module _ (in_order : InOrder W) {words : ℕ} (known : words ≡ length W.words) {end : ℕ} (ordered : at ≤ end) (up_to : end ≤ length b) (x : Fronted W rest (end - at)) (r : std.Option ℕ)
      (e : repeat_of r ≡ first_repeat words (take (end - at) rest)) where
    within : at ≤ length b
    within = omega arith

    abbrev pattern : Kinded
    pattern = kinded (get_or rest 0 0) x.term

    behind : drop (end - at) rest ≡ drop end b
    behind = drop-drop (end - at) at b ∙ ap (λ n. drop n b) (let e : at + (end - at) ≡ end = omega arith in e)

    looked : repeated_in [] (sightings W x.term) ≡ repeat_of r
    looked = sym (e ∙ ap₂ first_repeat known x.bytes ∙ pattern_repeats W in_order (get_or rest 0 0) x.term x.good)

    judged : read_pattern W first rest ≡ and_then (line18 rest pattern (drop end b) (repeat_of r)) (line25 first rest)
    judged =
        ap (λ g. and_then (and_then g (λ y r. line18 rest y r (repeated_in [] (sightings W y.term)))) (line25 first rest)) x.same
        ∙ ap₂ (λ l o. and_then (line18 rest pattern l o) (line25 first rest)) behind looked

    pub pattern_repeated : {q : ℕ} → r ≡ Some q → PatternStops W b at (B.Repeated (at + q))
    pattern_repeated {q} f = record {
      number = 18;
      place = at + q;
      reply = refl;
      same = judged ∙ ap (λ r. and_then (line18 rest pattern (drop end b) (repeat_of r)) (line25 first rest)) f ∙ ap (stop 18) (drop-drop q at b);
      inside = repeat_within b at within (end - at) words r e f;
    }

    module _ (f : r ≡ None) where
      linear : read_pattern W first rest ≡ line25 first rest pattern (drop end b)
      linear = judged ∙ ap (λ r. and_then (line18 rest pattern (drop end b) (repeat_of r)) (line25 first rest)) f

      kind : get_or rest 0 0 ≡ get_or b at 0
      kind = get_or-drop at b 0 0 ∙ ap (λ i. get_or b i 0) (let e : at + 0 ≡ at = omega arith in e)

      pub pattern-other : (get_or b at 0 ≡ get_or b 1 0 → ⊥) → PatternStops W b at (B.OtherKind at)
      pattern-other other = record {
        number = 25;
        place = at;
        reply = refl;
        same = linear ∙ cond_false (eqb (get_or rest 0 0) (get_or b 1 0)) _ _ (ne_eqb (get_or rest 0 0) (get_or b 1 0) (λ h. other (sym kind ∙ h)));
        inside = within;
      }

      pub pattern-ends : get_or b at 0 ≡ get_or b 1 0 → PatternEnds W b at end
      pattern-ends alike = record {
        pattern = pattern;
        same = linear ∙ cond_true (eqb (get_or rest 0 0) (get_or b 1 0)) _ _ (eq-eqb (get_or rest 0 0) (get_or b 1 0) (kind ∙ alike));
        inside = up_to;
      }

-- ---- the first pattern's kind

abbrev KindIs : ℕ → Got Kinded → Type 0
KindIs k (got x r) = x.kind ≡ k
KindIs k (stop n r) = Unit {0}

front-kind : (W : Vocabulary) (l : List ℕ) → KindIs (get_or l 0 0) (read_front W l)
front-kind W [] = tt
front-kind W (s ∷ []) = tt
front-kind W (s ∷ x ∷ l) =
    choice (KindIs s) (ltb s W.kinds) _ _ (λ e. go (read_term W most_levels true s [] (drop 1 (window (s ∷ x ∷ l))))) (λ e. tt)
  where
    go : (g : Got Read) → KindIs s (front_of (s ∷ x ∷ l) s g)
    go (got a r) = refl
    go (stop n r) =
        choice (KindIs s) (eqb n 9 && not (ltb (length (s ∷ x ∷ l)) most_bytes)) (stop 7 (s ∷ x ∷ l)) (stop n (behind_window (s ∷ x ∷ l) r)) (λ e. tt) (λ e. tt)

-- The first pattern has its own kind.
row_kind : (W : Vocabulary) (n : ℕ) (l : List ℕ) →
    read_row (read_pattern W) kind_behind none (suc n) l ≡ read_row (read_pattern W) kind_behind (some (get_or l 0 0)) (suc n) l
row_kind W n l = go (read_front W l) (front-kind W l)
  where
    k : ℕ
    k = get_or l 0 0

    on : Option ℕ → Kinded → List ℕ → Got (List Kinded)
    on s x r = and_then (read_row (read_pattern W) kind_behind (kind_behind s x) n r) (λ rest r'. got (x ∷ rest) r')

    read : (x : Kinded) (r : List ℕ) → x.kind ≡ k → (o : Option ℕ) →
        and_then (and_then (line18 l x r o) (line25 none l)) (on none) ≡ and_then (and_then (line18 l x r o) (line25 (some k) l)) (on (some k))
    read x r e (some q) = refl
    read x r e none =
        ap (λ s. and_then (read_row (read_pattern W) kind_behind (some s) n r) (λ rest r'. got (x ∷ rest) r')) e
        ∙ ap (λ g. and_then g (on (some k))) (sym (cond_true (eqb x.kind k) (got x r) (stop 25 l) (eq-eqb x.kind k e)))

    go : (g : Got Kinded) → KindIs k g →
        and_then (and_then (and_then g (λ x r. line18 l x r (repeated_in [] (sightings W x.term)))) (line25 none l)) (on none)
        ≡ and_then (and_then (and_then g (λ x r. line18 l x r (repeated_in [] (sightings W x.term)))) (line25 (some k) l)) (on (some k))
    go (got x r) e = read x r e (repeated_in [] (sightings W x.term))
    go (stop m r) e = refl

-- ---- the loop

abbrev pub patterns_from : Vocabulary → List ℕ → ℕ → ℕ → Got (List Kinded)
patterns_from W b n at = read_row (read_pattern W) kind_behind (some (get_or b 1 0)) n (drop at b)

abbrev row_reply : List ℕ → Got (List Kinded) → Reply
row_reply b (stop n r) = refused n 5 (offset b r)
row_reply b (got l []) = accepted []
row_reply b (got l (x ∷ r)) = refused 15 5 (offset b (x ∷ r))

row_judged : (W : Vocabulary) (b : List ℕ) (g : Got (List Kinded)) → row_reply b g ≡ book_clear (judged_book W (after_last b g))
row_judged W b (stop n r) = refl
row_judged W b (got l []) = refl
row_judged W b (got l (x ∷ r)) = refl

-- What was read before does not show in the reply.
row_more : (b : List ℕ) (x : Kinded) (g : Got (List Kinded)) → row_reply b (and_then g (λ rest r. got (x ∷ rest) r)) ≡ row_reply b g
row_more b x (stop n r) = refl
row_more b x (got l []) = refl
row_more b x (got l (y ∷ r)) = refl

pub record BookTo (W : Vocabulary) (b : List ℕ) (n at : ℕ) : Type 0 where
  pub inside : at ≤ length b
  pub same : row_reply b (patterns_from W b n at) ≡ book_reply W b

pub book_uncounted : (W : Vocabulary) (b : List ℕ) → count_of b ≡ 0 → refused 24 5 0 ≡ book_reply W b
book_uncounted W [] e = refl
book_uncounted W (c ∷ l) e = ap (λ r. book_clear (judged_book W r)) (sym (cond_true (outside 1 most_patterns c) (refuse 24 0) _ (go (ltb most_patterns c) refl)))
  where
    go : (t : Bool) → ltb most_patterns c ≡ t → outside 1 most_patterns c ≡ true
    go true h = or_right (ltb c 1) (ltb most_patterns c) h
    go false h =
        let none : c ≡ 0 = sym (cond_false (ltb most_patterns c) 0 c h) ∙ e in
        or_left (ltb c 1) (ltb most_patterns c) (lt-ltb c 1 (omega arith))

pub book_begins : (W : Vocabulary) (b : List ℕ) → (count_of b ≡ 0 → ⊥) → BookTo W b (count_of b) 1
book_begins W [] counted = absurd (counted refl)
book_begins W (c ∷ l) counted = go (ltb most_patterns c) refl
  where
    go : (t : Bool) → ltb most_patterns c ≡ t → BookTo W (c ∷ l) (count_of (c ∷ l)) 1
    go true h = absurd (counted (cond_true (ltb most_patterns c) 0 c h))
    go false h =
        let count : count_of (c ∷ l) ≡ c = cond_false (ltb most_patterns c) 0 c h in
        let high : c ≤ most_patterns = ltb-false most_patterns c h in
        let other : c ≡ 0 → ⊥ = (λ z. counted (count ∙ z)) in
        let low : c ≡ suc (c - 1) = omega (arith, other) in
        record {
          inside = omega arith;
          same =
              ap (λ n. row_reply (c ∷ l) (patterns_from W (c ∷ l) n 1)) (count ∙ low)
              ∙ ap (row_reply (c ∷ l)) (sym (row_kind W (c - 1) l) ∙ ap (λ n. read_row (read_pattern W) kind_behind none n l) (sym low))
              ∙ row_judged W (c ∷ l) (read_row (read_pattern W) kind_behind none c l)
              ∙ ap (λ r. book_clear (judged_book W r)) (sym (cond_false (outside 1 most_patterns c) (refuse 24 0) _ (inside-outside 1 most_patterns c (omega arith) high)));
        }

module _ {W : Vocabulary} {b : List ℕ} {n at : ℕ} (x : BookTo W b n at) where
  module _ (more : 0 < n) where
    abbrev on : Kinded → List ℕ → Got (List Kinded)
    on y r = and_then (read_row (read_pattern W) kind_behind (some (get_or b 1 0)) (n - 1) r) (λ rest r'. got (y ∷ rest) r')

    one_more : patterns_from W b n at ≡ and_then (read_pattern W (some (get_or b 1 0)) (drop at b)) on
    one_more = ap (λ m. patterns_from W b m at) (let e : n ≡ suc (n - 1) = omega arith in e)

    pub book_turn : {end : ℕ} → PatternEnds W b at end → BookTo W b (n - 1) end
    book_turn {end} y = record {
      inside = y.inside;
      same =
          sym (row_more b y.pattern (patterns_from W b (n - 1) end))
          ∙ ap (row_reply b) (sym (one_more ∙ ap (λ g. and_then g on) y.same))
          ∙ x.same;
    }

    pub book_stops : {why : BookRefusal} → PatternStops W b at why → book_refused why ≡ book_reply W b
    book_stops y =
        y.reply
        ∙ ap (refused y.number 5) (sym (offset-drop b (drop y.place b) y.place refl y.inside))
        ∙ ap (row_reply b) (sym (one_more ∙ ap (λ g. and_then g on) y.same))
        ∙ x.same

  module _ (all : n ≤ 0) where
    none_more : got [] (drop at b) ≡ patterns_from W b n at
    none_more = ap (λ m. patterns_from W b m at) (let e : 0 ≡ n = omega arith in e)

    pub book_continues : at < length b → refused 15 5 at ≡ book_reply W b
    book_continues h =
        ap (refused 15 5) (sym (offset-drop b (get_or b at 0 ∷ drop (suc at) b) at (sym (drop-cons b at 0 h)) (omega arith)))
        ∙ ap (λ l. row_reply b (got [] l)) (sym (drop-cons b at 0 h))
        ∙ ap (row_reply b) none_more
        ∙ x.same

    pub book_ends : length b ≤ at → accepted [] ≡ book_reply W b
    book_ends h = ap (λ l. row_reply b (got [] l)) (sym (drop_of_length-le b h)) ∙ ap (row_reply b) none_more ∙ x.same

-- ---- the call

pub books_refused : (v b : List ℕ) (why : VocabularyRefusal) → vocabulary_refused why ≡ vocabulary_reply v → vocabulary_refused why ≡ book_clear (book_judged v b)
books_refused v b why = go (read_vocabulary v)
  where
    go : (r : Reading Vocabulary) → vocabulary_refused why ≡ reply_of 0 (λ W. []) r → vocabulary_refused why ≡ book_clear (judged_under b r)
    go (accept W) e = absurd (refused_never why [] e)
    go (refuse n q) e = e

pub books_judged : (v b : List ℕ) (W : Vocabulary) {r : Reply} → read_vocabulary v ≡ accept W → r ≡ book_reply W b → r ≡ book_clear (book_judged v b)
books_judged v b W e h = h ∙ ap (λ r. book_clear (judged_under b r)) (sym e)
