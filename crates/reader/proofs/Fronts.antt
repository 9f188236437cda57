-- Fronts: a pattern in front of the bytes left of a book, by what reading the first 4,096 of them gives.
--
--   window b                  these bytes
--   window_part               they are a part of the book
--   take_short                a part from the front on is no longer than the whole
--   front-fault               reading them stops, and so the pattern is refused
--   front_ends                reading them ends behind a term, which is the pattern's
--   part-fault, part-ends     the same of a part of a book
--
use mathlib.Core.Path.{◌≡◌, refl, sym, ap, subst, ◌∙◌}
use mathlib.Core.Bool.{Bool, true, false, not, cond, true≢false}
use mathlib.Core.List.{List, [], ◌∷◌, ◌++◌}
use mathlib.Core.Logic.{inl, inr}
use Prim.Native.Nat.{ℕ, ◌+◌, ◌-◌, ◌<◌, ◌≤◌, min}
use native.Mathlib.Decide.{dec_lt}
use native.Mathlib.Omega.{arith}
use lib.Dec.{ltb}
use lib.ListN.{length, get_or, take, drop, length-take, length-drop, length-append, take-append-drop}
use lib.Seq.{take_all, take-take, take_at, drop-append-le}
use Rattle.terms.specs.Term.{Consistent}
use Rattle.terms.proofs.All.{all_take, all_drop}
use Rattle.wire.specs.Reply.{IsBytes, Kinded, kinded, outside, Outside}
use Rattle.wire.specs.Vocabulary.{Vocabulary, InOrder}
use Rattle.wire.specs.TermBytes.{encode_term, least_bytes, most_bytes, most_levels}
use Rattle.wire.specs.Parser.{Got, got, stop, Read, read_term}
use Rattle.wire.specs.Scan.{Scanned, tallied}
use Rattle.wire.specs.BookComputed.{behind_window, front_of, read_front}
use Rattle.wire.proofs.Cond.{cond_true, cond_false, choice}
use Rattle.wire.proofs.Outside.{outside_true}
use Rattle.wire.proofs.ReadWrite.{Reads, term-reads}
use Rattle.wire.proofs.Scan.{scan-reads}
use borrow.Author.Tests.{lt-ltb, le-ltb}
use Rattle.signature.specs.Tables.{vocabulary_in}
use Rattle.reader.specs.Cursors.{tally_at}
use Rattle.reader.specs.Nodes.{number_of, place_of}
use Rattle.reader.specs.Terms.{Refuses, Ends, Answers, front_run, FrontRead}
use Rattle.reader.specs.Books.{in_window, Fronted}
use Rattle.reader.specs.declared.refusal.TermRefusal.{TermRefusal}
use Rattle.reader.specs.declared.refusal.TermRefusal.TheVariants as T
use Rattle.cursors.specs.declared.Cursor.{Cursor}
use Rattle.std.specs.Prelude.{Result, Ok, Err}
use Rattle.reader.proofs.Told.{front_cases}

abbrev pub window : List ℕ → List ℕ
window b = take most_bytes b

pub take_short : (n : ℕ) (b : List ℕ) → length (take n b) ≤ length b
take_short n b = omega (arith, length-take n b)

-- The part of a book from an offset on, up to 4,096 bytes further or its end.
pub window_part : (b : List ℕ) (at : ℕ) → at ≤ length b → {limit : ℕ} → limit ≡ min (length b) (at + most_bytes) → take (limit - at) (drop at b) ≡ window (drop at b)
window_part b at h {limit} e = go (dec_lt (length b) (at + most_bytes))
  where
    left : length (drop at b) ≡ length b - at
    left = length-drop at b

    go : Dec (length b < at + most_bytes) → take (limit - at) (drop at b) ≡ window (drop at b)
    go (yes less) = take_all (limit - at) (drop at b) (omega (arith, left)) ∙ sym (take_all most_bytes (drop at b) (omega (arith, left)))
    go (no other) = ap (λ n. take n (drop at b)) (let e : limit - at ≡ most_bytes = omega arith in e)

abbrev is_read : Got Scanned → Bool
is_read (got x r) = true
is_read (stop n r) = false

abbrev left_in : Got Scanned → List ℕ
left_in (got x r) = r
left_in (stop n r) = r

-- ---- what is read of a pattern, by its size and its kind

read_short : (W : Vocabulary) (b : List ℕ) → length b < least_bytes → read_front W b ≡ stop 7 b
read_short W [] h = refl
read_short W (s ∷ []) h = refl
read_short W (s ∷ x ∷ l) h = absurd (omega arith)

-- What was read behind the kind byte of b.
abbrev term_of : Vocabulary → List ℕ → Got Read
term_of W b = read_term W most_levels true (get_or (window b) 0 0) [] (drop 1 (window b))

read-kind : (W : Vocabulary) (b : List ℕ) → least_bytes ≤ length b → W.kinds ≤ get_or (window b) 0 0 → read_front W b ≡ stop 8 b
read-kind W [] long h = absurd (omega arith)
read-kind W (s ∷ []) long h = absurd (omega arith)
read-kind W (s ∷ x ∷ l) long h = cond_false (ltb s W.kinds) _ _ (le-ltb s W.kinds h)

read_known : (W : Vocabulary) (b : List ℕ) → least_bytes ≤ length b → get_or (window b) 0 0 < W.kinds → read_front W b ≡ front_of b (get_or b 0 0) (term_of W b)
read_known W [] long h = absurd (omega arith)
read_known W (s ∷ []) long h = absurd (omega arith)
read_known W (s ∷ x ∷ l) long h = cond_true (ltb s W.kinds) _ _ (lt-ltb s W.kinds h)

module _ (b : List ℕ) where
  abbrev t : List ℕ
  t = window b

  size : length t ≡ min most_bytes (length b)
  size = length-take most_bytes b

  behind : (q : ℕ) → q ≤ length t → behind_window b (drop q t) ≡ drop q b
  behind q h = sym (drop-append-le q t (drop most_bytes b) h) ∙ ap (drop q) (take-append-drop most_bytes b)

  window_inside : (n : ℕ) → n ≤ length t → n ≤ length b
  window_inside n h = omega (arith, size)

  -- A window is never too long.
  window_short : outside least_bytes most_bytes (length t) ≡ true → length b < least_bytes
  window_short e = go (outside_true least_bytes most_bytes (length t) e)
    where
      go : Outside least_bytes most_bytes (length t) → length b < least_bytes
      go (inl h) = omega (arith, size)
      go (inr h) = absurd (omega (arith, size))

  -- What is written in front of the bytes left of the window.
  front_taken : (n : ℕ) → n ≤ length t → (l r : List ℕ) → t ≡ l ++ r → drop n t ≡ r → take n b ≡ l
  front_taken n h l r written left =
      sym (take-take n most_bytes b (omega (arith, size)))
      ∙ ap (take n) written
      ∙ take_at l r n (omega (arith, ap length written, length-append l r, ap length left, length-drop n t))

  -- ---- where reading stops

  -- What a scan of the window that stops says of the pattern.
  abbrev stopped_of : Got Scanned → Got Read
  stopped_of (got x r) = stop 0 []
  stopped_of (stop n r) = stop n r

  module _ (W : Vocabulary) (n : ℕ) (r : List ℕ) where
    same_stop : (x : Got Read) → stop n r ≡ tallied W (drop 1 t) x → front_of b (get_or b 0 0) x ≡ front_of b 0 (stop n r)
    same_stop (got a r') e = absurd (true≢false (sym (ap is_read e)))
    same_stop (stop m r') e = ap (λ g. front_of b 0 (stopped_of g)) (sym e)

    front_stopped : stop n r ≡ front_run W t → read_front W b ≡ front_of b 0 (stop n r)
    front_stopped =
        front_cases W t (λ g. stop n r ≡ g → read_front W b ≡ front_of b 0 (stop n r))
        (λ h e. read_short W b (window_short h) ∙ ap (stop 7) (sym (behind 0 (omega arith))) ∙ ap (λ g. front_of b 0 (stopped_of g)) (sym e))
        (λ long short h e. read-kind W b (window_inside least_bytes long) h ∙ ap (stop 8) (sym (behind 0 (omega arith))) ∙ ap (λ g. front_of b 0 (stopped_of g)) (sym e))
        (λ long short h e. read_known W b (window_inside least_bytes long) h ∙ same_stop (term_of W b) (e ∙ scan-reads W (get_or t 0 0) [] (drop 1 t)))

  -- Of the numbers of refusals 9 alone is judged by how many bytes are left.
  ends-stop : (q : ℕ) → q ≤ length t → (c : Bool) →
      ◌≡◌ {A = Got Kinded} (cond (not c) (stop 7 b) (stop 9 (behind_window b (drop q t))))
      (stop (number_of (cond c (T.Ends q) T.Size)) (drop (place_of (cond c (T.Ends q) T.Size)) b))
  ends-stop q h true = ap (stop 9) (behind q h)
  ends-stop q h false = refl

  window_stop : (why : TermRefusal) → place_of why ≤ length t →
      front_of b 0 (stop (number_of why) (drop (place_of why) t)) ≡ stop (number_of (in_window (length b) why)) (drop (place_of (in_window (length b) why)) b)
  window_stop T.Size h = ap (stop 7) (behind 0 h)
  window_stop T.NoSuchKind h = ap (stop 8) (behind 0 h)
  window_stop (T.Ends q) h = ends-stop q h (ltb (length b) most_bytes)
  window_stop (T.TooDeep q) h = ap (stop 10) (behind q h)
  window_stop (T.NoWordOrName q) h = ap (stop 11) (behind q h)
  window_stop (T.WrongKind q) h = ap (stop 12) (behind q h)
  window_stop (T.Clashes q) h = ap (stop 13) (behind q h)
  window_stop (T.StrayBit q) h = ap (stop 14) (behind q h)
  window_stop (T.Continues q) h = ap (stop 15) (behind q h)

  pub front-fault : (W : Vocabulary) {why : TermRefusal} → Refuses t why (front_run W t) →
      read_front W b ≡ stop (number_of (in_window (length b) why)) (drop (place_of (in_window (length b) why)) b)
  front-fault W {why} h = front_stopped W (number_of why) (drop (place_of why) t) h.same ∙ window_stop why h.inside

pub place-within : (n : ℕ) (why : TermRefusal) → place_of (in_window n why) ≤ place_of why
place-within n T.Size = omega arith
place-within n T.NoSuchKind = omega arith
place-within n (T.Ends q) = choice (λ y. place_of y ≤ q) (ltb n most_bytes) (T.Ends q) T.Size (λ e. omega arith) (λ e. omega arith)
place-within n (T.TooDeep q) = omega arith
place-within n (T.NoWordOrName q) = omega arith
place-within n (T.WrongKind q) = omega arith
place-within n (T.Clashes q) = omega arith
place-within n (T.StrayBit q) = omega arith
place-within n (T.Continues q) = omega arith

-- ---- where reading ends

module _ (W : Vocabulary) (in_order : InOrder W) (n : ℕ) (y : Scanned) where
  -- The term was read off the window of s ∷ l.
  read_fronted : (s : ℕ) (l : List ℕ) → n ≤ length (window (s ∷ l)) → least_bytes ≤ length (s ∷ l) → s < W.kinds → (x : Got Read) →
      Reads W most_levels true s [] (drop 1 (window (s ∷ l))) x → got y (drop n (window (s ∷ l))) ≡ tallied W (drop 1 (window (s ∷ l))) x →
      term_of W (s ∷ l) ≡ x → Fronted W (s ∷ l) n
  read_fronted s l inside long known (stop m r) h e f = absurd (true≢false (ap is_read e))
  read_fronted s l inside long known (got a r) h e f = record {
    term = a.term;
    same = read_known W (s ∷ l) long known ∙ ap (front_of (s ∷ l) s) f ∙ ap (got (kinded s a.term)) (ap (behind_window (s ∷ l)) (sym left) ∙ behind (s ∷ l) n inside);
    good = record {
      kind = known;
      sorted = record { sorted = h.sorted; consistent = subst Consistent h.came (h.agrees tt) };
      named = h.named;
    };
    bytes = front_taken (s ∷ l) n inside (encode_term W s a.term) r (ap {B = List ℕ} (λ z. s ∷ z) h.bytes) left;
    long = long;
    inside = window_inside (s ∷ l) n inside;
  }
    where
      left : drop n (window (s ∷ l)) ≡ r
      left = ap left_in e

  got_never : {m : ℕ} {r r' : List ℕ} → got y r ≡ stop m r' → ⊥
  got_never e = true≢false (ap is_read e)

  scan_fronted : (b : List ℕ) → IsBytes b → n ≤ length (window b) → got y (drop n (window b)) ≡ front_run W (window b) → Fronted W b n
  scan_fronted [] bytes inside e = absurd (got_never e)
  scan_fronted (s ∷ l) bytes inside e =
      front_cases W (window (s ∷ l)) (λ g. got y (drop n (window (s ∷ l))) ≡ g → Fronted W (s ∷ l) n)
      (λ h e. absurd (got_never e)) (λ long short h e. absurd (got_never e))
      (λ long short known e. read_fronted s l inside (window_inside (s ∷ l) least_bytes long) known (term_of W (s ∷ l))
      (term-reads W in_order most_levels true s [] (drop 1 (window (s ∷ l))) (all_take (λ b. b < 256) most_bytes (s ∷ l) bytes).1)
      (e ∙ scan-reads W s [] (drop 1 (window (s ∷ l)))) refl) e

pub front_ends : (W : Vocabulary) → InOrder W → (b : List ℕ) → IsBytes b → {names : List ℕ} {c : Cursor} →
    Ends (window b) names c (front_run W (window b)) → Fronted W b c.at
front_ends W in_order b bytes {c = c} x =
    scan_fronted W in_order c.at (record { tally = tally_at (length (window b)) c; seen = x.seen }) b bytes x.inside x.same

-- ---- a part of a book

module _ (v b : List ℕ) (at : ℕ) (within : at ≤ length b) {limit : ℕ} (last : limit ≡ min (length b) (at + most_bytes)) (names : List ℕ) (r : Result Cursor TermRefusal)
    (reads : FrontRead v (take (limit - at) (drop at b)) names r) where
  answer : {y : Result Cursor TermRefusal} → r ≡ y → Answers (window (drop at b)) names (front_run (vocabulary_in v) (window (drop at b))) y
  answer e =
      subst (Answers (window (drop at b)) names (front_run (vocabulary_in v) (window (drop at b)))) e
      (subst (λ t. FrontRead v t names r) (window_part b at within last) reads)

  pub part-fault : {why : TermRefusal} → r ≡ Err why → Refuses (window (drop at b)) why (front_run (vocabulary_in v) (window (drop at b)))
  part-fault e = answer e

  pub part-ends : InOrder (vocabulary_in v) → IsBytes b → {c : Cursor} → r ≡ Ok c → Fronted (vocabulary_in v) (drop at b) c.at
  part-ends in_order bytes e = front_ends (vocabulary_in v) in_order (drop at b) (all_drop (λ b. b < 256) at b bytes) (answer e)
