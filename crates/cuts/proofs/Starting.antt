-- Starting: an entry and a pattern at their roots, and what the walk from there gives.
--
--   IsWord, root-low         a root is a word where its byte is below 128
--   some_bytes               a term has a kind byte and a root
--   cut-nothing              no entry replaces the entry
--   cut_reach                the lengths are as they are tested
--   cut-begins               the walk begins at the roots
--   cut-full, cut-done       what it ends with
--
use mathlib.Core.Path.{◌≡◌, refl, sym, ap, ◌∙◌, subst}
use mathlib.Core.Bool.{Bool, false, cond}
use mathlib.Core.List.{List, [], ◌∷◌, ◌++◌, map, append-nil, cons≢nil}
use Prim.Native.Nat.{ℕ, ◌+◌, ◌≤◌}
use native.Mathlib.Omega.{arith}
use lib.Dec.{ltb}
use lib.ListN.{length, get_or, take, drop, set, length-map, length-set}
use borrow.Author.Tests.{le-ltb}
use Rattle.terms.specs.Term.{Term, any, var, app, Sorted, names}
use Rattle.terms.specs.Book.{cut}
use Rattle.wire.specs.Map.{is_open}
use Rattle.wire.specs.Vocabulary.{Vocabulary, signature}
use Rattle.wire.specs.TermBytes.{encode_at, encode_term, most_levels}
use Rattle.wire.specs.EntryAgainst.{cut_at}
use Rattle.wire.proofs.Words.{length_symbols}
use Rattle.wire.proofs.AgainstBytes.{root_as_below, cut-written}
use Rattle.wire.proofs.AgainstCount.{cut_at-count}
use Rattle.others.specs.Listed.{FitBehind, Listed}
use Rattle.others.proofs.Entries.{listed_none}
use Rattle.cuts.specs.declared.own.Walk.{Walk}
use Rattle.std.specs.Prelude.{Ok}
use Rattle.cuts.specs.Calls.{CutAt}
use Rattle.cuts.specs.Walking.{Step, full, InReach}
use Rattle.cuts.specs.Cutting.{From, TermsAt, TermsEnd, CutsWord}
use Rattle.cuts.proofs.Ending.{none_of}

abbrev pub IsWord : Term → Type 0
IsWord any = ⊥
IsWord (var n) = ⊥
IsWord (app f ts) = Unit {0}

-- A name's byte is 128 or more, and so is 255.
pub root-low : (W : Vocabulary) (s : ℕ) (t : Term) → get_or (encode_term W s t) 1 0 ≤ 127 → IsWord t
root-low W s any low = absurd (omega arith)
root-low W s (var n) low = absurd (omega arith)
root-low W s (app f ts) low = tt

word-closed : (t : Term) → IsWord t → is_open t ≡ false
word-closed any h = absurd h
word-closed (var n) h = refl
word-closed (app f ts) h = refl

pub some_bytes : (W : Vocabulary) (s : ℕ) (t : Term) → 2 ≤ length (encode_term W s t)
some_bytes W s any = omega arith
some_bytes W s (var n) = omega arith
some_bytes W s (app f ts) = omega arith

first_byte : (l : List ℕ) (b : ℕ) → 1 ≤ length l → take 1 (set l 0 b) ≡ b ∷ []
first_byte [] b h = absurd (omega arith)
first_byte (x ∷ l) b h = refl

-- A walk that ends.
module _ {copy : List ℕ} {w : Walk} {blank : Bool} {entry : List ℕ} {gap : Bool} {pattern siblings : List ℕ} {left size : ℕ}
    (t : TermsAt copy w blank entry gap pattern siblings left size) (before copied after : List ℕ) (r : Step) (f : TermsEnd t before copied after r) where
  abbrev walked : List (List ℕ)
  walked = cut_at t.vocabulary t.other t.mine t.front t.tail

  ended-full : r ≡ full → FitBehind walked w.written (length before) → ⊥
  ended-full e = subst (TermsEnd t before copied after) e f

  ended-done : {end : Walk} → r ≡ Ok end → Listed walked w.written end.written before after
  ended-done {end} e = let g : TermsEnd t before copied after (Ok end) = subst (TermsEnd t before copied after) e f in g.listed

-- ---- the entry and the pattern

module _ {entry pattern siblings : List ℕ} {copied todo : ℕ} (c : CutAt entry pattern siblings copied todo) where
  abbrev W : Vocabulary
  W = c.vocabulary

  abbrev s : ℕ
  s = c.kind

  abbrev list : List (List ℕ)
  list = map (encode_term W s) (cut (signature W) c.one c.term)

  counted : length list ≡ todo
  counted = length-map (cut (signature W) c.one c.term) (encode_term W s) ∙ sym c.due

  pub cut-nothing : todo ≡ 0 → (n : ℕ) (out : List ℕ) → n ≤ length out → Listed list n n out out
  cut-nothing z n out room = subst (λ l. Listed l n n out out) (sym (none_of list (counted ∙ z))) (listed_none out room)

  entry-long : 2 ≤ length entry
  entry-long = subst (λ l. 2 ≤ length l) (sym c.stands) (some_bytes W s c.one)

  pattern-long : 2 ≤ length pattern
  pattern-long = subst (λ l. 2 ≤ length l) (sym c.begins) (some_bytes W s c.term)

  pub cut_reach : {n room : ℕ} → n ≤ room → InReach copied (length entry) (length pattern) n room
  cut_reach k = record {
    entry_long = entry-long;
    pattern_long = pattern-long;
    entry_fits = omega (arith, c.copy, ap length c.stands);
    pattern_fits = omega (arith, c.copy, ap length c.begins);
    small = c.small;
    written = k;
  }

  pattern-word : IsWord c.term
  pattern-word = root-low W s c.term (subst (λ l. get_or l 1 0 ≤ 127) c.begins c.word)

  -- The root's byte tells whether an entry is 255.
  root_open : (e : Term) → Sorted (signature W) e s → names e ≡ [] → is_open e ≡ ltb 127 (get_or (encode_term W s e) 1 0)
  root_open any k n = refl
  root_open (var v) k n = absurd (cons≢nil n)
  root_open (app f ts) k n = sym (le-ltb 127 f (let few = c.tables.in_order.few_words in let below = k.0 in omega (arith, length_symbols W)))

  -- What is passed of an entry at its root.
  root-from : (e : Term) → names e ≡ [] → (l : List ℕ) → l ≡ encode_term W s e → (i : ℕ) → i ≡ cond (is_open e) (length l) 1 → From l (encode_at W e ++ []) i
  root-from any n l q i p = record { inside = omega arith; same = ap (drop i) q ∙ ap (λ j. drop j (s ∷ 255 ∷ [])) (p ∙ ap length q) }
  root-from (var v) n l q i p = absurd (cons≢nil n)
  root-from (app f ts) n l q i p = record {
    inside = let a = ap length q in omega arith;
    same = ap (drop i) q ∙ ap (λ j. drop j (encode_term W s (app f ts))) p ∙ sym (append-nil (encode_at W (app f ts)));
  }

  root-size : (e : Term) → length (encode_at W e) + 1 ≤ length (encode_term W s e)
  root-size any = omega arith
  root-size (var v) = omega arith
  root-size (app f ts) = omega arith

  written : list ≡ cut_at W c.term c.one (s ∷ []) []
  written = cut-written W c.tables.in_order c.one c.term s c.pattern_of.sorted c.shares

  -- The kind byte is in the copy.
  module _ (copy : List ℕ) (long : length copy ≡ copied) (blank : Bool) (blanks : blank ≡ ltb 127 (get_or entry 1 0)) (w : Walk) (at : w.at ≡ 1)
      (passed : w.entry ≡ cond blank (length entry) 1) (first : w.pattern ≡ 1) (due : w.todo ≡ todo) (out : List ℕ) (room : w.written ≤ length out) where
    abbrev copy' : List ℕ
    copy' = set copy 0 (get_or entry 0 0)

    opens : is_open c.one ≡ blank
    opens = root_open c.one c.entry_of.sorted c.entry_of.nameless ∙ ap (λ l. ltb 127 (get_or l 1 0)) (sym c.stands) ∙ sym blanks

    closed : is_open c.term ≡ false
    closed = word-closed c.term pattern-word

    cut-begins : TermsAt copy' w blank entry false pattern siblings most_levels (length out)
    cut-begins = record {
      vocabulary = W;
      mine = c.one;
      other = c.term;
      front = s ∷ [];
      tail = [];
      rest = [];
      later = 0;
      tables = c.tables;
      pair = record { kind = s; entry = c.entry_of.sorted; pattern = c.pattern_of.sorted; shares = c.shares; nameless = c.entry_of.nameless };
      blanks = opens;
      gaps = closed;
      deep = c.pattern_of.low;
      begins = sym at;
      copied =
          ap (λ i. take i copy') at
          ∙ first_byte copy (get_or entry 0 0) (let r = cut_reach room in omega (arith, r.entry_long, r.entry_fits))
          ∙ ap (λ l. get_or l 0 0 ∷ []) c.stands;
      entry_from =
          root-from c.one c.entry_of.nameless entry c.stands w.entry (passed ∙ ap (λ b. cond b (length entry) 1) (sym opens));
      pattern_from = record {
        inside = omega (arith, pattern-long);
        same =
            ap (λ i. drop i pattern) first ∙ ap (drop 1) c.begins ∙ root_as_below W c.term closed
            ∙ sym (append-nil (encode_at W c.term));
      };
      room =
          let a = root-size c.one in
          let b = root-size c.term in
          let d = c.copy in
          omega (arith, length-set copy 0 (get_or entry 0 0), ap length (append-nil (encode_at W c.one)), ap length (append-nil (encode_at W c.term)));
      small = let a = c.small in omega (arith, length-set copy 0 (get_or entry 0 0));
      inside = room;
      due = due ∙ c.due ∙ sym (cut_at-count W c.tables.in_order c.term c.one s c.pattern_of.sorted (s ∷ []) []) ∙ omega arith;
    }

    root-byte : get_or pattern w.pattern 0 ≤ 127
    root-byte = subst (λ i. get_or pattern i 0 ≤ 127) (sym first) c.word

    module _ (copied' after : List ℕ) (r : Step) (does : CutsWord copy' w blank entry pattern siblings most_levels out copied' after r) where
      pub cut-full : r ≡ full → FitBehind list w.written (length out) → ⊥
      unfolding cut-begins
      cut-full e f =
          ended-full cut-begins out copied' after r (does cut-begins root-byte) e (subst (λ l. FitBehind l w.written (length out)) written f)

      pub cut-done : {end : Walk} → r ≡ Ok end → Listed list w.written end.written out after
      unfolding cut-begins
      cut-done {end} e =
          subst (λ l. Listed l w.written end.written out after) (sym written)
          (ended-done cut-begins out copied' after r (does cut-begins root-byte) e)
