-- Printing: what the program prints is the refusal or the listing that list's promise speaks of, and bytes beyond those taken would not change it.
use mathlib.Core.Path.{◌≡◌, refl, sym, ap, ap₂, ◌∙◌, subst}
use mathlib.Core.Bool.{Bool, true, false}
use mathlib.Core.List.{List, [], ◌∷◌, ◌++◌, map, map-map}
use mathlib.Core.Logic.{◌⊎◌, inl, inr}
use Prim.Native.Nat.{ℕ, zero, suc, ◌+◌, ◌*◌, ◌<◌, ◌≤◌}
use native.Mathlib.Omega.{arith}
use lib.Dec.{ltb}
use lib.ListN.{length, take, drop, replicate, length-replicate, take-append-drop, length-append, length-take, length-drop}
use lib.Seq.{take_all, take-append-le, drop-append-le}
use borrow.Author.Tests.{ltb-true, ltb-false, lt-ltb}
use Rattle.terms.specs.Term.{Term}
use Rattle.terms.specs.Listing.{IsListing}
use Rattle.terms.specs.Productive.{listing_of}
use Rattle.terms.proofs.Bools.{or_right}
use Rattle.wire.specs.Reply.{Reply, accepted, refused, IsBytes, outside, Kinded, kinded}
use Rattle.wire.specs.Parser.{Reading, accept, refuse, read_vocabulary}
use Rattle.wire.specs.Vocabulary.{Vocabulary, signature}
use Rattle.wire.specs.TermBytes.{encode_term, least_bytes, most_bytes}
use Rattle.wire.specs.ListComputed.{linear_in, checked_linear, listed_pattern, listed_vocabulary, listed}
use Rattle.wire.specs.BookBytes.{patterns_bytes}
use Rattle.wire.specs.Leftovers.{HoldsPattern, ListRefusal, ListPromise}
use Rattle.wire.specs.Printing.{most_input, listing_space, vocabulary_part, pattern_part, listing_text}
use Rattle.wire.specs.PrintComputed.{entries_under, entries_with, entries_left, reported, printed_from, printed}
use Rattle.wire.specs.Laws.{PrintKeeps, most_vocabulary, MoreAltersNothing}
use Rattle.wire.proofs.Cond.{cond_true}
use Rattle.wire.proofs.VocabularyMore.{refused-alike}
use Rattle.wire.proofs.Leftovers.{read-pattern, the_listing, Decided, decided, list-keeps}

-- The entries that are printed are those of the pattern.
entries-printed : (v p : List ℕ) (W : Vocabulary) (s : ℕ) (t : Term) → IsBytes v → IsBytes p → HoldsPattern v p W s t →
    entries_left v p ≡ map (encode_term W s) (listing_of (signature W) s t)
entries-printed v p W s t bv bp h =
    let read = read-pattern v p W s t bv bp h in
    ap (entries_with p) read.0
    ∙ ap (entries_under W) read.1
    ∙ map-map (λ (e : Kinded). encode_term W e.kind e.term) (kinded s) (listing_of (signature W) s t)

-- The space that is lent to list.
abbrev space : List ℕ
space = replicate listing_space 0

space-long : length space ≡ listing_space
space-long = length-replicate {A = ℕ} listing_space 0

pub print_keeps : PrintKeeps
print_keeps v p bv bp = record {
  one = one (listed v p space).reply (decided v p space bv bp);
  refuses = λ n i q h. ap (λ r. reported r (entries_left v p)) ((promise.refuses n i q).1 h);
  lists = lists;
}
  where
    promise : ListPromise v p space (listed v p space).after (listed v p space).reply
    promise = list-keeps v p space bv bp

    one : (r : Reply) → Decided v p space bv bp r →
        ((n : ℕ) × (i : ℕ) × (q : ℕ) × ListRefusal v p space n i q) ⊎
        ((W : Vocabulary) × (s : ℕ) × (t : Term) × (l : List Term) × HoldsPattern v p W s t × IsListing (signature W) s t l ×
        (length (patterns_bytes W s l) ≤ listing_space))
    one (refused n i q) h = inl (n, i, q, h)
    one (accepted values) (W, s, t, l, h, is_listing, fits, e) =
        inr (W, s, t, l, h, is_listing, subst (λ m. length (patterns_bytes W s l) ≤ m) space-long fits)

    lists : (W : Vocabulary) (s : ℕ) (t : Term) (l : List Term) → HoldsPattern v p W s t → IsListing (signature W) s t l →
        length (patterns_bytes W s l) ≤ listing_space → printed_from v p ≡ listing_text (map (encode_term W s) l)
    lists W s t l h is_listing fits =
        let room = subst (λ m. length (patterns_bytes W s l) ≤ m) (sym space-long) fits in
        ap₂ reported ((promise.answered _).1 (W, s, t, l, h, is_listing, room, refl))
        (entries-printed v p W s t bv bp h ∙ ap (map (encode_term W s)) (sym ((the_listing v p W s t h l).0 is_listing)))

-- ---- all bytes of the input in place of the first

-- A text is found by reading the vocabulary, then the pattern.
abbrev text_of : List ℕ → Reading Vocabulary → List ℕ
text_of p r = reported (listed_vocabulary p space r).reply (entries_with p r)

abbrev text_under : Vocabulary → Reading Kinded → List ℕ
text_under W r = reported (listed_pattern W space r).reply (entries_under W r)

-- Line 7 refuses a pattern of more than 4,096 bytes.
long-refused : (W : Vocabulary) (p : List ℕ) → most_bytes < length p → checked_linear W p ≡ refuse 7 0
long-refused W p h =
    ap (linear_in W)
    (cond_true (outside least_bytes most_bytes (length p)) _ _
    (or_right (ltb (length p) least_bytes) (ltb most_bytes (length p)) (lt-ltb most_bytes (length p) h)))

-- Under one vocabulary two such patterns have one text.
long-patterns : (v p p' : List ℕ) → most_bytes < length p → most_bytes < length p' → printed_from v p ≡ printed_from v p'
long-patterns v p p' h h' = go (read_vocabulary v)
  where
    go : (r : Reading Vocabulary) → text_of p r ≡ text_of p' r
    go (refuse n q) = refl
    go (accept W) = ap (text_under W) (long-refused W p h) ∙ sym (ap (text_under W) (long-refused W p' h'))

-- Behind a vocabulary that is too long, neither its further bytes nor the pattern matter.
long_vocabularies : (v x p p' : List ℕ) → most_vocabulary < length v → printed_from v p ≡ printed_from (v ++ x) p'
long_vocabularies v x p p' h =
    let alike = refused-alike v x h in
    ap (text_of p) alike.2 ∙ sym (ap (text_of p') alike.3)

take-front : (n : ℕ) (l x : List ℕ) → (y : List ℕ) × (take n (l ++ x) ≡ take n l ++ y)
take-front zero l x = ([], refl)
take-front (suc n) [] x = (take (suc n) x, refl)
take-front (suc n) (b ∷ l) x = let t = take-front n l x in (t.0, ap (λ z. b ∷ z) t.1)

-- Vocabulary and pattern lie in the bytes l that are taken, or go on in the bytes x behind them.
split_same : (n : ℕ) (l x : List ℕ) → most_vocabulary + most_bytes < length l →
    printed_from (take n l) (drop n l) ≡ printed_from (take n (l ++ x)) (drop n (l ++ x))
split_same n l x h = go (ltb most_vocabulary n) refl
  where
    go : (t : Bool) → ltb most_vocabulary n ≡ t → printed_from (take n l) (drop n l) ≡ printed_from (take n (l ++ x)) (drop n (l ++ x))
    go true t =
        let more = take-front n l x in
        long_vocabularies (take n l) more.0 (drop n l) (drop n (l ++ x)) (omega (arith, length-take n l, ltb-true most_vocabulary n t))
        ∙ ap (λ v. printed_from v (drop n (l ++ x))) (sym more.1)
    go false t =
        let few = ltb-false most_vocabulary n t in
        long-patterns (take n l) (drop n l) (drop n l ++ x) (omega (arith, length-drop n l))
        (omega (arith, length-drop n l, length-append (drop n l) x))
        ∙ ap₂ printed_from (sym (take-append-le n l x (omega arith))) (sym (drop-append-le n l x (omega arith)))

parts_same : (b x : List ℕ) → most_input ≤ length b →
    printed_from (vocabulary_part b) (pattern_part b) ≡ printed_from (vocabulary_part (b ++ x)) (pattern_part (b ++ x))
parts_same [] x h = absurd (omega arith)
parts_same (high ∷ []) x h = absurd (omega arith)
parts_same (high ∷ low ∷ b) x h = split_same (256 * high + low) b x (omega arith)

pub more_alters_nothing : MoreAltersNothing
more_alters_nothing b = go (ltb most_input (length b)) refl
  where
    text : List ℕ → List ℕ
    text b = printed_from (vocabulary_part b) (pattern_part b)

    go : (t : Bool) → ltb most_input (length b) ≡ t → printed b ≡ text b
    go true t =
        parts_same (take most_input b) (drop most_input b) (omega (arith, length-take most_input b, ltb-true most_input (length b) t))
        ∙ ap text (take-append-drop most_input b)
    go false t = ap text (take_all most_input b (ltb-false most_input (length b) t))
