-- Told: what reading a term that is handed to a call tells, by its size, its kind and what its reading ends with.
--
--   gap_back n o            a gap by the number of the n bytes from it on, as an offset; n where there is none
--   told_scan t g           what the scan g of the term t behind its kind byte tells
--   told-size, told-kind   what is told where the size or the kind is wrong
--   checked_root           where they are in order reading the term decides
--   front-short, front_long, front-kind, front-known, front_cases, front_read    what is read in front of t, by its size and its
--                          kind
--   told-fault, told_continues, told-read    what is told where reading what stands in front ends so
--   refusal-reply          the reply that a refusal gives
--   told-refused, told-accepted    the reply of checking a term that tells this
--
use mathlib.Core.Path.{◌≡◌, refl, sym, ap, ap₂, subst, ◌∙◌}
use mathlib.Core.Bool.{Bool, true, false, true≢false, cond}
use mathlib.Core.List.{List, [], ◌∷◌, append-nil}
use mathlib.Core.Option.{Option, some, none}
use Prim.Native.Nat.{ℕ, suc, ◌+◌, ◌-◌, ◌<◌, ◌≤◌}
use native.Mathlib.Omega.{arith}
use lib.Dec.{ltb}
use lib.ListN.{length, get_or, drop, replicate, drop_of_length-le}
use lib.Seq.{drop-cons}
use borrow.Author.Tests.{lt-ltb, le-ltb, ltb-true, ltb-false}
use Rattle.terms.specs.Term.{Term}
use Rattle.terms.proofs.Bools.{or_left, or_right}
use Rattle.wire.specs.Reply.{IsBytes, accepted, refused, Kinded, outside}
use Rattle.wire.specs.Map.{bit}
use Rattle.wire.specs.Vocabulary.{Vocabulary, InOrder}
use Rattle.wire.specs.TermBytes.{encode_root, word_count, deepest, least_bytes, most_bytes, most_levels, complete}
use Rattle.wire.specs.Parser.{Reading, accept, refuse, Got, got, stop, Read, offset, line15, read_term, read_whole}
use Rattle.wire.specs.CheckComputed.{reply_of, checked_term, term_values}
use Rattle.wire.specs.GapComputed.{first_gap, gap_or}
use Rattle.wire.specs.Scan.{Tally, Scanned, gap_here, left_from, has_short, tallied}
use Rattle.wire.proofs.Bytes.{offset-drop}
use Rattle.wire.proofs.Cond.{cond_true, cond_false, choice}
use Rattle.wire.proofs.Outside.{outside_false, inside-outside}
use Rattle.wire.proofs.ReadWrite.{Reads, term-reads}
use Rattle.wire.proofs.Scan.{scan-reads}
use Rattle.wire.proofs.ScanGap.{Near, whole-gap, whole-near}
use Rattle.wire.proofs.Theorems.{no_gap_is_complete}
use Rattle.signature.specs.Tables.{vocabulary_in}
use Rattle.reader.specs.Answers.{term_refused}
use Rattle.reader.specs.Cursors.{gap_left, tally_at}
use Rattle.reader.specs.Names.{Named}
use Rattle.reader.specs.Nodes.{number_of, place_of}
use Rattle.reader.specs.Terms.{Refuses, Ends, Answers, TermRead, root_run, front_run, FrontRead}
use Rattle.reader.specs.Whole.{no_gap, told_by, told}
use Rattle.reader.specs.declared.refusal.TermRefusal.{TermRefusal}
use Rattle.reader.specs.declared.refusal.TermRefusal.TheVariants as T
use Rattle.reader.specs.declared.whole.Extent.{Extent}
use Rattle.cursors.specs.Cursors.{complete_in, gap_in, gap_shown, short_in}
use Rattle.cursors.specs.declared.Cursor.{Cursor}
use Rattle.std.specs.Prelude.{Result, Ok, Err}
use Rattle.reader.proofs.Names.{named_none}

-- ---- a gap

abbrev pub gap_back : ℕ → Option ℕ → ℕ
gap_back n none = n
gap_back n (some m) = n - m

back_left : (n : ℕ) (o : Option ℕ) → Near n o → gap_back n (left_from n o) ≡ gap_or n o
back_left n none h = refl
back_left n (some q) h = omega arith

-- The first gap of a term in n bytes behind its kind byte.
gap-told : (W : Vocabulary) (t : Term) (n : ℕ) → n ≡ length (encode_root W t) → gap_back (suc n) (left_from n (gap_here W t)) ≡ gap_or (suc n) (first_gap W t)
gap-told W t n e =
    let more : n + 1 ≡ suc n = omega arith in
    let whole : 1 + length (encode_root W t) ≡ suc n = omega arith in
    ap (gap_back (suc n)) (sym (whole-gap W t n) ∙ ap (λ m. left_from m (first_gap W t)) more)
    ∙ back_left (suc n) (first_gap W t) (subst (λ m. Near m (first_gap W t)) whole (whole-near W t))

none_told : (W : Vocabulary) (t : Term) (n : ℕ) → no_gap (left_from n (gap_here W t)) ≡ no_gap (first_gap W t)
none_told W t n = ap no_gap (sym (whole-gap W t n)) ∙ left (n + 1) (first_gap W t)
  where
    left : (n : ℕ) (o : Option ℕ) → no_gap (left_from n o) ≡ no_gap o
    left n none = refl
    left n (some q) = refl

-- The gap that a cursor shows where all n bytes are read.
gap-read : (n : ℕ) (c : Cursor) → c.at ≡ n → (complete_in c ≡ false → gap_in c ≤ n) → gap_shown c ≡ gap_back n (gap_left n c)
gap-read n c e near = go (complete_in c) refl
  where
    go : (b : Bool) → complete_in c ≡ b → cond b c.at (gap_in c) ≡ gap_back n (cond b none (some (n - gap_in c)))
    go true h = e
    go false h = let low = near h in omega arith

none_read : (n : ℕ) (c : Cursor) → complete_in c ≡ no_gap (gap_left n c)
none_read n c = go (complete_in c)
  where
    go : (b : Bool) → b ≡ no_gap (cond b none (some (n - gap_in c)))
    go true = refl
    go false = refl

-- ---- what a scan tells

-- What a tally tells of a term of n bytes.
abbrev extent_by : ℕ → Tally → Extent
extent_by n y = record { words = y.words; deepest = y.deepest; complete = no_gap y.gap; gap = gap_back n y.gap; short = y.short }

abbrev pub told_scan : List ℕ → Got Scanned → Reading Extent
told_scan t (stop n r) = refuse n (offset t r)
told_scan t (got x []) = accept (extent_by (length t) x.tally)
told_scan t (got x (b ∷ r)) = refuse 15 (offset t (b ∷ r))

scan-told : (W : Vocabulary) (s : ℕ) (l : List ℕ) (x : Got Read) → Reads W most_levels true s [] l x →
    told_scan (s ∷ l) (tallied W l x) ≡ told_by W (length (s ∷ l)) (line15 (s ∷ l) s x)
scan-told W s l (stop n r) h = refl
scan-told W s l (got a (b ∷ r)) h = refl
scan-told W s l (got a []) h =
    let bytes : length l ≡ length (encode_root W a.term) = ap length (h.bytes ∙ append-nil (encode_root W a.term)) in
    ap₂ (λ b g. accept (record { words = word_count a.term; deepest = deepest a.term; complete = b; gap = g; short = has_short a.term }))
    (none_told W a.term (length l)) (gap-told W a.term (length l) bytes)

module _ (t : List ℕ) (at : ℕ) where
  scan_continues : (x : Scanned) → at < length t → refuse 15 at ≡ told_scan t (got x (drop at t))
  scan_continues x h =
      ap (refuse 15) (sym (ap (offset t) (sym (drop-cons t at 0 h)) ∙ offset-drop t (drop at t) at refl (omega arith)))
      ∙ ap (λ l. told_scan t (got x l)) (sym (drop-cons t at 0 h))

  scan-whole : (x : Scanned) → length t ≤ at → accept (extent_by (length t) x.tally) ≡ told_scan t (got x (drop at t))
  scan-whole x h = ap (λ l. told_scan t (got x l)) (sym (drop_of_length-le t h))

-- ---- the size and the kind

module _ (W : Vocabulary) (t : List ℕ) where
  pub told-size : outside least_bytes most_bytes (length t) ≡ true → refuse 7 0 ≡ told W t
  told-size e = ap (told_by W (length t)) (sym (cond_true (outside least_bytes most_bytes (length t)) (refuse 7 0) (read_whole W most_levels t) e))

  checked_sized : 2 ≤ length t → length t ≤ most_bytes → checked_term W t ≡ read_whole W most_levels t
  checked_sized long short =
      cond_false (outside 2 most_bytes (length t)) (refuse 7 0) (read_whole W most_levels t) (inside-outside 2 most_bytes (length t) long short)

  sized : 2 ≤ length t → length t ≤ most_bytes → told_by W (length t) (read_whole W most_levels t) ≡ told W t
  sized long short = ap (told_by W (length t)) (sym (checked_sized long short))

kind-refused : (W : Vocabulary) (t : List ℕ) → 2 ≤ length t → W.kinds ≤ get_or t 0 0 → refuse 8 0 ≡ told_by W (length t) (read_whole W most_levels t)
kind-refused W [] long h = absurd (omega arith)
kind-refused W (s ∷ l) long h =
    ap (told_by W (length (s ∷ l)))
    (sym (cond_false (ltb s W.kinds) (line15 (s ∷ l) s (read_term W most_levels true s [] l)) (refuse 8 0) (le-ltb s W.kinds h)))

known-whole : (W : Vocabulary) (s : ℕ) (l : List ℕ) → s < W.kinds →
    read_whole W most_levels (s ∷ l) ≡ line15 (s ∷ l) s (read_term W most_levels true s [] l)
known-whole W s l h = cond_true (ltb s W.kinds) (line15 (s ∷ l) s (read_term W most_levels true s [] l)) (refuse 8 0) (lt-ltb s W.kinds h)

kind-known : (W : Vocabulary) (t : List ℕ) → InOrder W → IsBytes t → 2 ≤ length t → get_or t 0 0 < W.kinds →
    told_scan t (root_run W t) ≡ told_by W (length t) (read_whole W most_levels t)
kind-known W [] in_order bytes long h = absurd (omega arith)
kind-known W (s ∷ l) in_order bytes long h =
    ap (told_scan (s ∷ l)) (scan-reads W s [] l)
    ∙ scan-told W s l (read_term W most_levels true s [] l) (term-reads W in_order most_levels true s [] l bytes.1)
    ∙ ap (told_by W (length (s ∷ l))) (sym (known-whole W s l h))

pub told-kind : (W : Vocabulary) (t : List ℕ) → 2 ≤ length t → length t ≤ most_bytes → W.kinds ≤ get_or t 0 0 → refuse 8 0 ≡ told W t
told-kind W t long short h = kind-refused W t long h ∙ sized W t long short

pub checked_root : (W : Vocabulary) (s : ℕ) (l : List ℕ) → 2 ≤ length (s ∷ l) → length (s ∷ l) ≤ most_bytes → s < W.kinds →
    checked_term W (s ∷ l) ≡ line15 (s ∷ l) s (read_term W most_levels true s [] l)
checked_root W s l long short known = checked_sized W (s ∷ l) long short ∙ known-whole W s l known

-- ---- what is read in front

module _ (W : Vocabulary) (t : List ℕ) where
  front-size : outside least_bytes most_bytes (length t) ≡ true → stop 7 t ≡ front_run W t
  front-size e = sym (cond_true (outside least_bytes most_bytes (length t)) _ _ e)

  pub front-short : length t < least_bytes → stop 7 t ≡ front_run W t
  front-short h = front-size (or_left (ltb (length t) least_bytes) (ltb most_bytes (length t)) (lt-ltb (length t) least_bytes h))

  pub front_long : most_bytes < length t → stop 7 t ≡ front_run W t
  front_long h = front-size (or_right (ltb (length t) least_bytes) (ltb most_bytes (length t)) (lt-ltb most_bytes (length t) h))

  module _ (long : least_bytes ≤ length t) (short : length t ≤ most_bytes) where
    front-sized : front_run W t ≡ cond (ltb (get_or t 0 0) W.kinds) (root_run W t) (stop 8 t)
    front-sized = cond_false (outside least_bytes most_bytes (length t)) _ _ (inside-outside least_bytes most_bytes (length t) long short)

    pub front-kind : W.kinds ≤ get_or t 0 0 → stop 8 t ≡ front_run W t
    front-kind h = sym (front-sized ∙ cond_false (ltb (get_or t 0 0) W.kinds) _ _ (le-ltb (get_or t 0 0) W.kinds h))

    pub front-known : get_or t 0 0 < W.kinds → root_run W t ≡ front_run W t
    front-known h = sym (front-sized ∙ cond_true (ltb (get_or t 0 0) W.kinds) _ _ (lt-ltb (get_or t 0 0) W.kinds h))

  pub front_cases : (P : Got Scanned → Type 0) → (outside least_bytes most_bytes (length t) ≡ true → P (stop 7 t)) →
      (least_bytes ≤ length t → length t ≤ most_bytes → W.kinds ≤ get_or t 0 0 → P (stop 8 t)) →
      (least_bytes ≤ length t → length t ≤ most_bytes → get_or t 0 0 < W.kinds → P (root_run W t)) → P (front_run W t)
  front_cases P size kind known =
      choice P (outside least_bytes most_bytes (length t)) (stop 7 t) _ size
      (λ e.
      let h = outside_false least_bytes most_bytes (length t) e in
      choice P (ltb (get_or t 0 0) W.kinds) (root_run W t) (stop 8 t) (λ f. known h.0 h.1 (ltb-true (get_or t 0 0) W.kinds f))
      (λ f. kind h.0 h.1 (ltb-false (get_or t 0 0) W.kinds f)))

-- The term behind the kind, read from a blank table of names on.
pub front_read : (v t : List ℕ) {names : List ℕ} (names' : List ℕ) (r : Result Cursor TermRefusal) → least_bytes ≤ length t → length t ≤ most_bytes → get_or t 0 0 < (vocabulary_in v).kinds → names ≡ replicate 64 65535 →
    TermRead v t 1 (get_or t 0 0) names names' r → FrontRead v t names' r
front_read v t names' r long short known blank reads =
    subst (λ g. Answers t names' g r) (front-known (vocabulary_in v) t long short known) (reads [] (subst (λ l. Named l []) (sym blank) named_none))

-- ---- where reading what stands in front ends

told-front : (W : Vocabulary) (t : List ℕ) → InOrder W → IsBytes t → told_scan t (front_run W t) ≡ told W t
told-front W t in_order bytes =
    front_cases W t (λ g. told_scan t g ≡ told W t) (λ e. ap (refuse 7) begins ∙ told-size W t e)
    (λ long short h. ap (refuse 8) begins ∙ told-kind W t long short h)
    (λ long short h. kind-known W t in_order bytes long h ∙ sized W t long short)
  where
    begins : offset t t ≡ 0
    begins = offset-drop t t 0 refl (omega arith)

module _ (v t names : List ℕ) (r : Result Cursor TermRefusal) (in_order : InOrder (vocabulary_in v)) (bytes : IsBytes t) (reads : FrontRead v t names r) where
  told-run : told_scan t (front_run (vocabulary_in v) t) ≡ told (vocabulary_in v) t
  told-run = told-front (vocabulary_in v) t in_order bytes

  answer : {y : Result Cursor TermRefusal} → r ≡ y → Answers t names (front_run (vocabulary_in v) t) y
  answer e = subst (Answers t names (front_run (vocabulary_in v) t)) e reads

  pub told-fault : (why : TermRefusal) → r ≡ Err why → refuse (number_of why) (place_of why) ≡ told (vocabulary_in v) t
  told-fault why e =
      let h : Refuses t why (front_run (vocabulary_in v) t) = answer e in
      ap (refuse (number_of why)) (sym (offset-drop t (drop (place_of why) t) (place_of why) refl h.inside))
      ∙ ap (told_scan t) h.same
      ∙ told-run

  module _ (c : Cursor) (e : r ≡ Ok c) where
    pub ends : Ends t names c (front_run (vocabulary_in v) t)
    ends = answer e

    abbrev scanned : Scanned
    scanned = record { tally = tally_at (length t) c; seen = ends.seen }

    pub told_continues : c.at < length t → refuse 15 c.at ≡ told (vocabulary_in v) t
    told_continues more = scan_continues t c.at scanned more ∙ ap (told_scan t) ends.same ∙ told-run

    pub told-read : length t ≤ c.at → {complete : Bool} {gap : ℕ} {short : Bool} → complete ≡ complete_in c → gap ≡ gap_shown c → short ≡ short_in c →
        accept (record { words = c.words; deepest = c.deepest; complete = complete; gap = gap; short = short }) ≡ told (vocabulary_in v) t
    told-read all {complete} {gap} {short} e f g =
        let inside = ends.inside in
        let at : c.at ≡ length t = omega arith in
        ap₂ (λ b g. accept (record { words = c.words; deepest = c.deepest; complete = b; gap = g; short = short }))
        (e ∙ none_read (length t) c) (f ∙ gap-read (length t) c at ends.near)
        ∙ ap (λ k. accept (record { words = c.words; deepest = c.deepest; complete = no_gap (gap_left (length t) c); gap = gap_back (length t) (gap_left (length t) c); short = k })) g
        ∙ scan-whole t c.at scanned all
        ∙ ap (told_scan t) ends.same
        ∙ told-run

-- ---- replies

pub refusal-reply : (input : ℕ) (why : TermRefusal) → term_refused input why ≡ refused (number_of why) input (place_of why)
refusal-reply input T.Size = refl
refusal-reply input T.NoSuchKind = refl
refusal-reply input (T.Ends q) = refl
refusal-reply input (T.TooDeep q) = refl
refusal-reply input (T.NoWordOrName q) = refl
refusal-reply input (T.WrongKind q) = refl
refusal-reply input (T.Clashes q) = refl
refusal-reply input (T.StrayBit q) = refl
refusal-reply input (T.Continues q) = refl

-- What check's answer has of an extent.
abbrev shown : Extent → List ℕ
shown x = x.words ∷ x.deepest ∷ bit x.complete ∷ x.gap ∷ []

pub complete-told : (W : Vocabulary) (t : Term) → no_gap (first_gap W t) ≡ complete t
complete-told W t = go (first_gap W t) refl (complete t) refl
  where
    go : (o : Option ℕ) → first_gap W t ≡ o → (b : Bool) → complete t ≡ b → no_gap o ≡ complete t
    go none e b h = sym ((no_gap_is_complete W t).0 e)
    go (some q) e false h = sym h
    go (some q) e true h = absurd (true≢false (ap no_gap (sym ((no_gap_is_complete W t).1 h) ∙ e)))

module _ (W : Vocabulary) where
  told-reply : (n : ℕ) (r : Reading Kinded) → reply_of 1 shown (told_by W n r) ≡ reply_of 1 (term_values W n) r
  told-reply n (accept k) = ap (λ b. accepted (word_count k.term ∷ deepest k.term ∷ bit b ∷ gap_or n (first_gap W k.term) ∷ [])) (complete-told W k.term)
  told-reply n (refuse m q) = refl

  module _ (b : List ℕ) where
    pub told-refused : (why : TermRefusal) → refuse (number_of why) (place_of why) ≡ told W b → term_refused 1 why ≡ reply_of 1 (term_values W (length b)) (checked_term W b)
    told-refused why e = refusal-reply 1 why ∙ ap (reply_of 1 shown) e ∙ told-reply (length b) (checked_term W b)

    pub told-accepted : (x : Extent) → accept x ≡ told W b →
        accepted (x.words ∷ x.deepest ∷ bit x.complete ∷ x.gap ∷ []) ≡ reply_of 1 (term_values W (length b)) (checked_term W b)
    told-accepted x e = ap (reply_of 1 shown) e ∙ told-reply (length b) (checked_term W b)
