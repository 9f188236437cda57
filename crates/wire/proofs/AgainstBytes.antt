-- AgainstBytes: the leftovers of an entry against a pattern are written as both are walked from left to right.
--
--   cut-closed, root_as_below   a leftover is no open place, so it is written at the root as below it
--   cut-bytes                   the leftovers, each between the bytes front and tail
--   cut_bytes_all               the same at the places of a word, above the terms at the lower places
--   cut_by_bytes                the law of specs/EntryAgainst
--   cut-written                 the leftovers as terms of a kind
--
use mathlib.Core.Path.{◌≡◌, refl, sym, ap, ap₂, ◌∙◌}
use mathlib.Core.Bool.{false, true≢false}
use mathlib.Core.List.{List, [], ◌∷◌, ◌++◌, map, append-nil, append_assoc, map-map, map-append}
use Prim.Native.Nat.{ℕ, ◌+◌, ◌^◌}
use native.Mathlib.Omega.{arith}
use lib.ListN.{length}
use Rattle.terms.specs.Lists.{All}
use Rattle.terms.specs.Signature.{Signature, arguments}
use Rattle.terms.specs.Term.{Term, any, var, app, Terms, nil, cons, Sorted, SortedAll}
use Rattle.terms.specs.Listing.{others, bare, open_every}
use Rattle.terms.specs.Book.{disjoint, disjoint_all, both, cut, cut_all}
use Rattle.terms.proofs.All.{all_always, all_implies, map_agree}
use Rattle.terms.proofs.Bools.{or_parts}
use Rattle.terms.proofs.Fresh.{meeting-words, open_disjoint, cut_open}
use Rattle.terms.proofs.CutEach.{cut-each}
use Rattle.wire.specs.Map.{write_map, is_open}
use Rattle.wire.specs.Vocabulary.{Vocabulary, InOrder, signature}
use Rattle.wire.specs.TermBytes.{encode_at, encode_all, encode_root, encode_term}
use Rattle.wire.specs.EntryBytes.{above}
use Rattle.wire.specs.EntryAgainst.{bit_of, written_bits, places_of_word, cut_at, cut_all_at, CutByBytes}
use Rattle.wire.proofs.EntryBytes.{above_snoc, above_bytes, opened-bytes}
use Rattle.wire.proofs.AgainstMaps.{places-sorted, closed-bit, MapBelow, map_below_none, map_below_next}

-- ---- leftovers begin with a word

pub cut-closed : (S : Signature) (e p : Term) → All (λ c. is_open c ≡ false) (cut S e p)
cut-closed S e p =
    cut-each S (λ e p c. is_open c ≡ false) (λ es ps cs. Unit {0})
    record {
      other = λ f ps. all_always _ (λ h. refl) (others S f);
      opened = λ f ps cs h. refl;
      named = λ n p c o. o;
      word = λ f h es ps cs k. refl;
      here = λ e p c es ps o. tt;
      above = λ e p es ps cs k. tt;
    }
    p e

pub root_as_below : (W : Vocabulary) (c : Term) → is_open c ≡ false → encode_root W c ≡ encode_at W c
root_as_below W any o = absurd (true≢false o)
root_as_below W (var n) o = refl
root_as_below W (app f ts) o = refl

-- ---- one leftover

regroup : (front : List ℕ) (f m : ℕ) (body c es tail : List ℕ) →
    front ++ ((f ∷ (write_map m ++ (body ++ (c ++ es)))) ++ tail) ≡ (front ++ (f ∷ (write_map m ++ body))) ++ (c ++ (es ++ tail))
regroup front f m body c es tail = simp append_assoc

-- A leftover c at the place b of a word, whose lower places hold the terms lower and whose higher ones hold es.
place-bytes : (W : Vocabulary) (f : ℕ) (lower : Terms) (low b : ℕ) (bs body : List ℕ) (c : Term) (es : Terms) (front tail : List ℕ) →
    MapBelow W f lower low (b ∷ bs) → encode_all W lower ≡ body → is_open c ≡ false →
    front ++ (encode_at W (app f (above lower (cons c es))) ++ tail)
    ≡ (front ++ (f ∷ (write_map (low + (2 ^ b + written_bits bs es)) ++ body))) ++ (encode_at W c ++ (encode_all W es ++ tail))
place-bytes W f lower low b bs body c es front tail below e o =
    ap₂ (λ m l. front ++ ((f ∷ (write_map m ++ l)) ++ tail))
    (below (cons c es) ∙ ap (λ k. low + (k + written_bits bs es)) (closed-bit c b o))
    (above_bytes W lower (cons c es) ∙ ap (λ l. l ++ (encode_at W c ++ encode_all W es)) e)
    ∙ regroup front f (low + (2 ^ b + written_bits bs es)) body (encode_at W c) (encode_all W es) tail

-- The bytes of one term more at the lower places.
body-next : (W : Vocabulary) (lower : Terms) (body : List ℕ) (t : Term) → encode_all W lower ≡ body →
    encode_all W (above lower (cons t nil)) ≡ body ++ encode_at W t
body-next W lower body t e = above_bytes W lower (cons t nil) ∙ ap₂ (λ l m. l ++ m) e (append-nil (encode_at W t))

-- ---- all leftovers

module _ (W : Vocabulary) (in_order : InOrder W) where
  opened-written : (f : ℕ) (ps : Terms) (front tail : List ℕ) →
      map (λ cs. front ++ (encode_at W (app f cs) ++ tail)) (cut_all (signature W) (open_every ps) ps)
      ≡ cut_all_at W ps (open_every ps) f (places_of_word W f) 0 [] front tail →
      map (λ c. front ++ (encode_at W c ++ tail)) (cut (signature W) any (app f ps)) ≡ cut_at W (app f ps) any front tail
  opened-written f ps front tail h =
      let S : Signature = signature W in
      let write : Term → List ℕ = λ c. front ++ (encode_at W c ++ tail) in
      ap (map write) (cut_open S f ps)
      ∙ map-append write (map (bare S) (others S f)) (map (app f) (cut_all S (open_every ps) ps))
      ∙ ap₂ (λ l m. l ++ m)
      (map-map write (bare S) (others S f)
      ∙ map_agree _ (λ h. front ++ ((h ∷ write_map 0) ++ tail)) (others S f)
      (all_always _ (λ h. ap (λ l. front ++ (l ++ tail)) (opened-bytes W h)) (others S f)))
      (map-map write (app f) (cut_all S (open_every ps) ps) ∙ h)

  mutual
    pub cut-bytes : (p e : Term) (s : ℕ) → Sorted (signature W) p s → disjoint e p ≡ false → (front tail : List ℕ) →
        map (λ c. front ++ (encode_at W c ++ tail)) (cut (signature W) e p) ≡ cut_at W p e front tail
    cut-bytes any any s h d front tail = refl
    cut-bytes any (var n) s h d front tail = refl
    cut-bytes any (app f es) s h d front tail = refl
    cut-bytes (var n) any s h d front tail = refl
    cut-bytes (var n) (var m) s h d front tail = refl
    cut-bytes (var n) (app f es) s h d front tail = refl
    cut-bytes (app f ps) any s h d front tail =
        opened-written f ps front tail
        (cut_bytes_all ps (open_every ps) (arguments (signature W) f) h.2 (open_disjoint ps) f (places_of_word W f) (places-sorted W in_order f ps s h)
        nil 0 [] (map_below_none W f) refl front tail)
    cut-bytes (app f ps) (var n) s h d front tail =
        opened-written f ps front tail
        (cut_bytes_all ps (open_every ps) (arguments (signature W) f) h.2 (open_disjoint ps) f (places_of_word W f) (places-sorted W in_order f ps s h)
        nil 0 [] (map_below_none W f) refl front tail)
    cut-bytes (app f ps) (app g es) s h d front tail =
        let meet = meeting-words g f es ps d in
        let cs : List Terms = cut_all (signature W) es ps in
        map-map (λ c. front ++ (encode_at W c ++ tail)) (app g) cs
        ∙ ap (λ k. map (λ us. front ++ (encode_at W (app k us) ++ tail)) cs) meet.0
        ∙ cut_bytes_all ps es (arguments (signature W) f) h.2 meet.1 f (places_of_word W f) (places-sorted W in_order f ps s h)
        nil 0 [] (map_below_none W f) refl front tail

    pub cut_bytes_all : (ps es : Terms) (ks : List ℕ) → SortedAll (signature W) ps ks → disjoint_all es ps ≡ false →
        (f : ℕ) (bs : List ℕ) → length bs ≡ length ks →
        (lower : Terms) (low : ℕ) (body : List ℕ) → MapBelow W f lower low bs → encode_all W lower ≡ body → (front tail : List ℕ) →
        map (λ cs. front ++ (encode_at W (app f (above lower cs)) ++ tail)) (cut_all (signature W) es ps)
        ≡ cut_all_at W ps es f bs low body front tail
    cut_bytes_all nil nil ks h d f bs n lower low body below e front tail = refl
    cut_bytes_all nil (cons u es) ks h d f bs n lower low body below e front tail = refl
    cut_bytes_all (cons p ps) nil ks h d f bs n lower low body below e front tail = refl
    cut_bytes_all (cons p ps) (cons u es) [] h d f bs n lower low body below e front tail = absurd h
    cut_bytes_all (cons p ps) (cons u es) (k ∷ ks) h d f [] n lower low body below e front tail = absurd (omega arith)
    cut_bytes_all (cons p ps) (cons u es) (k ∷ ks) h d f (b ∷ bs) n lower low body below e front tail =
        let S : Signature = signature W in
        let meet = or_parts (disjoint u p) (disjoint_all es ps) d in
        let t : Term = both u p in
        let write : Terms → List ℕ = λ cs. front ++ (encode_at W (app f (above lower cs)) ++ tail) in
        let next : List ℕ = front ++ (f ∷ (write_map (low + (2 ^ b + written_bits bs es)) ++ body)) in
        map-append write (map (λ c. cons c es) (cut S u p)) (map (cons t) (cut_all S es ps))
        ∙ ap₂ (λ l m. l ++ m)
        (map-map write (λ c. cons c es) (cut S u p)
        ∙ map_agree _ (λ c. next ++ (encode_at W c ++ (encode_all W es ++ tail))) (cut S u p)
        (all_implies _ _ (λ c o. place-bytes W f lower low b bs body c es front tail below e o) (cut S u p) (cut-closed S u p))
        ∙ cut-bytes p u k h.0 meet.0 next (encode_all W es ++ tail))
        (map-map write (cons t) (cut_all S es ps)
        ∙ map_agree _ (λ cs. front ++ (encode_at W (app f (above (above lower (cons t nil)) cs)) ++ tail)) (cut_all S es ps)
        (all_always _ (λ cs. ap (λ us. front ++ (encode_at W (app f us) ++ tail)) (above_snoc lower t cs)) (cut_all S es ps))
        ∙ cut_bytes_all ps es ks h.1 meet.1 f bs (omega arith) (above lower (cons t nil)) (low + bit_of t b) (body ++ encode_at W t)
        (map_below_next W f lower low b bs t below) (body-next W lower body t e) front tail)

pub cut_by_bytes : CutByBytes
cut_by_bytes W in_order e p s he hp d front tail = cut-bytes W in_order p e s hp d front tail

pub cut-written : (W : Vocabulary) → InOrder W → (e p : Term) (s : ℕ) → Sorted (signature W) p s → disjoint e p ≡ false →
    map (encode_term W s) (cut (signature W) e p) ≡ cut_at W p e (s ∷ []) []
cut-written W in_order e p s h d =
    map_agree (encode_term W s) (λ c. (s ∷ []) ++ (encode_at W c ++ [])) (cut (signature W) e p)
    (all_implies _ _ (λ c o. ap (λ l. s ∷ l) (root_as_below W c o ∙ sym (append-nil (encode_at W c)))) (cut (signature W) e p) (cut-closed (signature W) e p))
    ∙ cut-bytes W in_order p e s h d (s ∷ []) []
