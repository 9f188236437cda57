-- Reported: the text of list's answer, put together from the bytes in the lent slice, is the text that is printed, and it is
-- never longer than what is lent for it.
--
--   lines_length, entries-long    how long the lines are, and how many
--   Shown r out text           the text for the reply r, with out in the lent slice, is the given one and has room
--   listing-shown, pattern-shown, vocabulary-shown, shown    it is for each reply that list computes
--   answer-put, answer-room    what is put for list's answer is what is printed, and has room
--   prints                     what is put keeps the promise of print
--
use mathlib.Core.Path.{◌≡◌, refl, sym, ap, subst, subst₂, ◌∙◌}
use mathlib.Core.Bool.{Bool, true, false, cond}
use mathlib.Core.List.{List, [], ◌∷◌, ◌++◌, map}
use Prim.Native.Nat.{ℕ, suc, ◌+◌, ◌*◌, ◌<◌, ◌≤◌}
use native.Mathlib.Omega.{arith}
use lib.Dec.{leb}
use lib.ListN.{length, get_or, take, drop, replicate, length-append, length-map, length-replicate}
use lib.Seq.{take_at, drop_at}
use borrow.Author.Tests.{leb-true}
use Rattle.terms.specs.Lists.{All}
use Rattle.terms.specs.Term.{Term}
use Rattle.terms.specs.Productive.{listing_of}
use Rattle.terms.proofs.All.{all_implies, all_map, all_take, all_drop}
use Rattle.wire.specs.Reply.{Reply, accepted, refused, IsBytes, Kinded, kinded}
use Rattle.wire.specs.Effect.{Effect, HasEffect}
use Rattle.wire.specs.Parser.{Reading, accept, refuse, read_vocabulary}
use Rattle.wire.specs.Vocabulary.{Vocabulary, InOrder, signature}
use Rattle.wire.specs.TermBytes.{encode_term, GoodTerm}
use Rattle.wire.specs.ListComputed.{leftovers_of, checked_linear, listed_into, listed_pattern, listed_vocabulary, listed}
use Rattle.wire.specs.Leftovers.{entries_bytes}
use Rattle.wire.specs.Text.{ascii, newline, decimal, hexadecimal}
use Rattle.wire.specs.Printing.{most_input, listing_space, vocabulary_length, vocabulary_part, pattern_part, entry_line, entry_lines, listing_text, PrintPromise}
use Rattle.wire.specs.PrintComputed.{entries_under, entries_with, reported, printed_from, printed}
use Rattle.wire.proofs.Bytes.{bytes_of}
use Rattle.wire.proofs.Text.{decimal-short, hexadecimal-length}
use Rattle.wire.proofs.Levels.{deepest-bytes}
use Rattle.wire.proofs.Entries.{entries_are_good}
use Rattle.wire.proofs.Words.{in_order_well_formed}
use Rattle.terms.proofs.Theorems.{listing_is_one}
use Rattle.wire.proofs.EntriesRead.{GoodKinded}
use Rattle.wire.proofs.EntryCut.{cut-entries}
use Rattle.wire.proofs.Leftovers.{linear_in_lem}
use Rattle.wire.proofs.Printing.{print_keeps}
use Rattle.wire.proofs.VocabulariesInverse.{vocabularies_inverse}
use Rattle.report.specs.Prints.{Prints}
use Rattle.report.specs.Putting.{Put, cut_text, answer_text, TextFits}

-- ---- how long the lines are

abbrev written : Vocabulary → Kinded → List ℕ
written W e = encode_term W e.kind e.term

-- A number below 100,000 has at most 5 digits.
lines_length : (W : Vocabulary) (i : ℕ) (l : List Kinded) → i + length l ≤ 100000 →
    length (entry_lines i (map (written W) l)) ≤ 7 * length l + 2 * length (entries_bytes W l)
lines_length W i [] h = omega arith
lines_length W i (e ∷ l) h =
    let rest = lines_length W (suc i) l (omega arith) in
    let line = entry_line i (written W e) in
    omega (
      arith,
      length-append line (entry_lines (suc i) (map (written W) l)),
      length-append (decimal i) (ascii " " ++ (hexadecimal (written W e) ++ newline)),
      length-append (hexadecimal (written W e)) newline,
      hexadecimal-length (written W e),
      decimal-short 4 i (omega arith),
      length-append (written W e) (entries_bytes W l),
    )

entries-long : (W : Vocabulary) (l : List Kinded) → 2 * length l ≤ length (entries_bytes W l)
entries-long W [] = omega arith
entries-long W (e ∷ l) =
    let r = entries-long W l in
    let d = deepest-bytes W e.term in
    omega (arith, length-append (written W e) (entries_bytes W l))

-- ---- the text

record Shown (r : Reply) (out text : List ℕ) : Type 0 where
  same : answer_text r out ≡ text
  room : TextFits r out 524288

module _ (before : List ℕ) (long : length before ≡ 65536) where
  listing-shown : (W : Vocabulary) → InOrder W → (l : List Kinded) → All (GoodKinded W) l →
      Shown (listed_into before (length l) (entries_bytes W l)).reply (listed_into before (length l) (entries_bytes W l)).after
      (reported (listed_into before (length l) (entries_bytes W l)).reply (map (written W) l))
  listing-shown W in_order l good = go (leb (length b) (length before)) refl
    where
      b : List ℕ
      b = entries_bytes W l

      into : Bool → Effect
      into t =
          cond t
          (record { reply = accepted (length l ∷ length b ∷ []); after = b ++ drop (length b) before })
          (record { reply = refused 20 3 (length b); after = before })

      go : (t : Bool) → leb (length b) (length before) ≡ t → Shown (into t).reply (into t).after (reported (into t).reply (map (written W) l))
      go false e = record { same = refl; room = tt }
      go true e = record { same = same; room = subst (λ (t : List ℕ). length t ≤ 524288) (sym same) fits }
        where
          es : List (List ℕ)
          es = map (written W) l

          same : cut_text (length l) (b ++ drop (length b) before) ≡ listing_text es
          same = ap listing_text (cut-entries W in_order l (drop (length b) before) good)

          fits : length (listing_text es) ≤ 524288
          fits =
              let count : length es ≡ length l = length-map l (written W) in
              let few = entries-long W l in
              let most = leb-true (length b) (length before) e in
              let whole = long in
              let digits = decimal-short 4 (length es) (omega arith) in
              let lines = lines_length W 1 l (omega arith) in
              omega (arith, length-append (decimal (length es)) (newline ++ entry_lines 1 es))

  module _ (p : List ℕ) (bp : IsBytes p) where
    pattern-shown : (W : Vocabulary) → InOrder W → (r : Reading Kinded) → checked_linear W p ≡ r →
        Shown (listed_pattern W before r).reply (listed_pattern W before r).after (reported (listed_pattern W before r).reply (entries_under W r))
    pattern-shown W in_order (refuse n q) e = record { same = refl; room = tt }
    pattern-shown W in_order (accept k) e =
        let h = linear_in_lem W p k in_order bp e in
        let s : ℕ = k.kind in
        let entries : List Term = listing_of (signature W) s k.term in
        let one = listing_is_one (signature W) k.term s (in_order_well_formed W in_order) h.term.good.sorted.sorted h.linear in
        listing-shown W in_order (leftovers_of W s k.term)
        (all_map (GoodKinded W) (kinded s) entries
        (all_implies _ (λ e. GoodTerm W s e) (λ e g. g.0) entries
        (entries_are_good W s k.term h.term.good h.linear entries ((one entries).1 refl))))

    vocabulary-shown : (v : List ℕ) → IsBytes v → (r : Reading Vocabulary) → read_vocabulary v ≡ r →
        Shown (listed_vocabulary p before r).reply (listed_vocabulary p before r).after
        (reported (listed_vocabulary p before r).reply (entries_with p r))
    vocabulary-shown v bv (refuse n q) e = record { same = refl; room = tt }
    vocabulary-shown v bv (accept W) e =
        pattern-shown W ((vocabularies_inverse v W bv).0 e).in_order (checked_linear W p) refl

module _ (v p : List ℕ) (vocabularyBytes : (i : ℕ) → get_or v i 0 < 256) (patternBytes : (i : ℕ) → get_or p i 0 < 256)
    {after : List ℕ} {r : Reply} (by : HasEffect (listed v p (replicate listing_space 0)) r after) where
  shown : Shown r after (printed_from v p)
  shown =
      subst (λ (r : Reply). Shown r after (printed_from v p)) (sym by.reply)
      (subst (λ (l : List ℕ). Shown (listed v p (replicate listing_space 0)).reply l (printed_from v p)) (sym by.after)
      (vocabulary-shown (replicate listing_space 0) (length-replicate {A = ℕ} listing_space 0) p (bytes_of p patternBytes) v
      (bytes_of v vocabularyBytes) (read_vocabulary v) refl))

  pub answer-put : {text last : List ℕ} {next : ℕ} → Put (answer_text r after) text 0 next last → Put (printed_from v p) text 0 next last
  answer-put {text} {last} {next} h = subst (λ (t : List ℕ). Put t text 0 next last) shown.same h

  pub answer-room : (m : ℕ) → 524288 ≤ m → TextFits r after m
  answer-room m h = go r shown.room
    where
      go : (r : Reply) → TextFits r after 524288 → TextFits r after m
      go (refused n i q) k = tt
      go (accepted []) k = tt
      go (accepted (n ∷ values)) k = omega arith

-- ---- the whole input

abbrev taken : List ℕ → List ℕ
taken b = take most_input b

pub prints : (b : List ℕ) → ((i : ℕ) → get_or b i 0 < 256) → {v p : List ℕ} → v ≡ vocabulary_part (taken b) → p ≡ pattern_part (taken b) →
    {text last : List ℕ} {next : ℕ} → Put (printed_from v p) text 0 next last → Prints b text next last × (take next last ≡ printed b)
prints b small first second {text} {last} {next} h = (
  record {
    promise = subst (PrintPromise (vocabulary_part (taken b)) (pattern_part (taken b))) (sym shown) (print_keeps (vocabulary_part (taken b)) (pattern_part (taken b)) part_bytes rest-bytes);
    behind = ap (drop next) put.same ∙ drop_at (printed b) (drop next text) next (sym count);
    inside =
        let long : length last ≡ length (printed b ++ drop next text) = ap length put.same in
        omega (arith, count, length-append (printed b) (drop next text));
  },
  shown,
)
  where
    bytes : IsBytes (drop 2 (taken b))
    bytes = all_drop (λ b. b < 256) 2 (take most_input b) (all_take (λ b. b < 256) most_input b (bytes_of b small))

    part_bytes : IsBytes (vocabulary_part (taken b))
    part_bytes = all_take (λ b. b < 256) (vocabulary_length (taken b)) (drop 2 (taken b)) bytes

    rest-bytes : IsBytes (pattern_part (taken b))
    rest-bytes = all_drop (λ b. b < 256) (vocabulary_length (taken b)) (drop 2 (taken b)) bytes

    put : Put (printed b) text 0 next last
    put = subst₂ (λ (v p : List ℕ). Put (printed_from v p) text 0 next last) first second h

    count : next ≡ length (printed b)
    count = omega (arith, put.behind)

    shown : take next last ≡ printed b
    shown = ap (take next) put.same ∙ take_at (printed b) (drop next text) next (sym count)
