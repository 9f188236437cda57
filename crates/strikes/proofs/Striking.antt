-- Striking: what an entry leaves against a pattern, by what stands at their roots.
--
--   struck_by_all            a name or 255 leaves nothing
--   struck_kept, struck_cut, struck_full, struck_put    a word leaves what it does by what meeting it with the entry tells
--   some_bytes, entry-short    how many bytes there are
--
use mathlib.Core.Path.{◌≡◌, refl, sym, ap, ◌∙◌, subst}
use mathlib.Core.Bool.{Bool, true, false, cond}
use mathlib.Core.List.{List, [], ◌∷◌, ◌++◌, map, append-nil}
use Prim.Native.Nat.{ℕ, ◌<◌, ◌≤◌}
use native.Mathlib.Omega.{arith}
use lib.ListN.{length, get_or, drop, length-map}
use Rattle.terms.specs.Term.{Term, any, var, app, Sorted}
use Rattle.terms.specs.Book.{disjoint, cut, remains}
use Rattle.wire.specs.Vocabulary.{Vocabulary, InOrder, signature}
use Rattle.wire.specs.TermBytes.{encode_root, encode_term, most_bytes}
use Rattle.wire.proofs.Words.{length_symbols}
use Rattle.wire.proofs.Cond.{first_arm, second_arm}
use Rattle.slices.proofs.Writing.{part, part_is}
use Rattle.meetings.specs.Walking.{meeting}
use Rattle.std.specs.Prelude.{Option, Some, None, Result, Ok, Err}
use Rattle.meetings.proofs.Meets.{meeting_right}
use Rattle.cuts.specs.Calls.{CutAt, CutOf, CutsEntry}
use Rattle.strikes.specs.Calls.{Struck, leaving, full, LeftOf}
use Rattle.strikes.specs.Striking.{StrikeAt}
use Rattle.others.specs.declared.Full.{Full}
use Rattle.strikes.proofs.Putting.{put_none}

abbrev IsWord : Term → Type 0
IsWord any = ⊥
IsWord (var n) = ⊥
IsWord (app f ts) = Unit {0}

-- A word's number is below 96; a name's byte is 128 or more, and so is 255.
root_high : (W : Vocabulary) → InOrder W → (s : ℕ) (t : Term) → Sorted (signature W) t s → 127 < get_or (encode_term W s t) 1 0 → IsWord t → ⊥
root_high W in_order s any h high w = w
root_high W in_order s (var n) h high w = w
root_high W in_order s (app f ts) h high w = let few = in_order.few_words in let below = h.0 in omega (arith, length_symbols W)

-- A term that is no word lists nothing and shares something with every term.
no_word : (W : Vocabulary) (e t : Term) → (IsWord t → ⊥) → remains (signature W) t e ≡ []
no_word W any any h = refl
no_word W any (var n) h = refl
no_word W (var m) any h = refl
no_word W (var m) (var n) h = refl
no_word W (app f es) any h = refl
no_word W (app f es) (var n) h = refl
no_word W any (app g ps) h = absurd (h tt)
no_word W (var m) (app g ps) h = absurd (h tt)
no_word W (app f es) (app g ps) h = absurd (h tt)

-- What a meeting tells.
abbrev Tells : Bool → ℕ → Option ℕ → Type 0
Tells apart n None = apart ≡ true
Tells apart n (Some k) = (apart ≡ false) × (k ≡ n)

tells : (apart : Bool) (n : ℕ) (m : Option ℕ) → m ≡ cond apart None (Some n) → Tells apart n m
tells true n m e = subst (Tells true n) (sym e) refl
tells false n m e = subst (Tells false n) (sym e) (refl, refl)

-- ---- the entry and the pattern

-- A kind byte, and what is written of the root.
pub some_bytes : (W : Vocabulary) (s : ℕ) (t : Term) → 2 ≤ length (encode_term W s t)
some_bytes W s any = omega arith
some_bytes W s (var n) = omega arith
some_bytes W s (app f ts) = omega arith

module _ {entry pattern marks siblings : List ℕ} {copied : ℕ} (h : StrikeAt entry pattern marks siblings copied) where
  abbrev W : Vocabulary
  W = h.vocabulary

  abbrev s : ℕ
  s = h.kind

  abbrev ones : List (List ℕ)
  ones = map (encode_term W s) (remains (signature W) h.term h.one)

  abbrev cuts : List (List ℕ)
  cuts = map (encode_term W s) (cut (signature W) h.one h.term)

  pattern-root : (P : ℕ → Type 0) → P (get_or pattern 1 0) → P (get_or (encode_term W s h.term) 1 0)
  pattern-root P = subst (λ l. P (get_or l 1 0)) h.begins

  pub entry-short : length entry ≤ most_bytes
  entry-short = subst (λ l. length l ≤ most_bytes) (sym h.stands) h.entry_of.short

  pub struck_by_all : 127 < get_or pattern 1 0 → (n : ℕ) (out : List ℕ) → n ≤ length out → LeftOf ones n out out (leaving n 0)
  struck_by_all high n out room =
      subst (λ l. LeftOf (map (encode_term W s) l) n out out (leaving n 0))
      (sym (no_word W h.one h.term (root_high W h.tables.in_order s h.term h.pattern_of.sorted (pattern-root (λ b. 127 < b) high))))
      (put_none n out room)

  -- What stands behind the kind bytes is met.
  module _ (m : Option ℕ) (meets : m ≡ meeting (part 1 entry) (part 1 pattern) marks) where
    behind : (t : Term) (l : List ℕ) → l ≡ encode_term W s t → part 1 l ≡ encode_root W t ++ []
    behind t l e = part_is 1 l ∙ ap (drop 1) e ∙ sym (append-nil (encode_root W t))

    met : Tells (disjoint h.one h.term) (length (cut (signature W) h.one h.term)) m
    met =
        let e = h.entry_of in
        let p = h.pattern_of in
        let short = e.short in
        let short' = p.short in
        let same : meeting (part 1 entry) (part 1 pattern) marks ≡ meeting (encode_root W h.one ++ []) (encode_root W h.term ++ []) marks =
        ap (λ l. meeting l (part 1 pattern) marks) (behind h.one entry h.stands)
        ∙ ap (λ l. meeting (encode_root W h.one ++ []) l marks) (behind h.term pattern h.begins) in
        tells _ _ m
        (meets ∙ same
        ∙ meeting_right W h.tables.in_order h.one h.term s e.sorted p.sorted p.low (omega arith) (omega arith) [] [] marks h.marked)

    module _ (n : ℕ) (out after : List ℕ) (r : Struck) where
      pub struck_kept : m ≡ None → LeftOf (entry ∷ []) n out after r → LeftOf ones n out after r
      struck_kept e = subst (λ l. LeftOf l n out after r) (sym same)
        where
          same : ones ≡ entry ∷ []
          same =
              ap (map (encode_term W s))
              (first_arm (disjoint h.one h.term) (h.one ∷ []) (cut (signature W) h.one h.term) (subst (Tells (disjoint h.one h.term) _) e met))
              ∙ ap (λ l. l ∷ []) (sym h.stands)

    module _ {todo : ℕ} (e : m ≡ Some todo) where
      told : (disjoint h.one h.term ≡ false) × (todo ≡ length (cut (signature W) h.one h.term))
      told = subst (Tells (disjoint h.one h.term) (length (cut (signature W) h.one h.term))) e met

      module _ (low : get_or pattern 1 0 ≤ 127) where
        struck_cut : CutAt entry pattern siblings copied todo
        struck_cut = record {
          vocabulary = W;
          kind = s;
          one = h.one;
          term = h.term;
          tables = h.tables;
          entry_of = h.entry_of;
          pattern_of = h.pattern_of;
          stands = h.stands;
          begins = h.begins;
          copy = h.copy;
          small = h.small;
          word = low;
          shares = told.0;
          due = told.1;
        }

        same-list : ones ≡ cuts
        same-list = ap (map (encode_term W s)) (second_arm (disjoint h.one h.term) (h.one ∷ []) (cut (signature W) h.one h.term) told.0)

        module _ (n : ℕ) (out after : List ℕ) (room : n ≤ length out) (r : Result ℕ Full) (does : CutsEntry entry pattern siblings copied todo n out after r) where
          done : CutOf ones n out after r
          unfolding struck_cut
          done = subst (λ l. CutOf l n out after r) (sym same-list) (does struck_cut room)

          pub struck_full : {e : Full} → r ≡ Err e → LeftOf ones n out after full
          struck_full e = subst (CutOf ones n out after) e done

          pub struck_put : {end : ℕ} → r ≡ Ok end → LeftOf ones n out after (leaving end todo)
          struck_put {end} e = record {
            listed = let l : CutOf ones n out after (Ok end) = subst (CutOf ones n out after) e done in l;
            count = told.1 ∙ sym (length-map (cut (signature W) h.one h.term) (encode_term W s)) ∙ sym (ap length same-list);
          }
