-- AgainstCount: how many leftovers an entry has against a pattern: by bytes as many as on trees, whatever stands before and behind
-- them, and at a word's places the sum over the places.
--
--   cut_count_open, cut_count_word, cut_count_places   on trees: of an open entry, of a word, of its places
--   cut_at-count, cut_all_at-count                     by bytes
--
use mathlib.Core.Path.{◌≡◌, refl, sym, ap, ap₂, ◌∙◌}
use mathlib.Core.List.{List, [], ◌∷◌, ◌++◌, map}
use Prim.Native.Nat.{ℕ, ◌+◌, ◌^◌}
use native.Mathlib.Omega.{arith}
use lib.ListN.{length, length-append, length-map}
use Rattle.terms.specs.Signature.{Signature, arguments}
use Rattle.terms.specs.Term.{Term, any, var, app, Terms, nil, cons, Sorted, SortedAll}
use Rattle.terms.specs.Listing.{others, bare, open_every}
use Rattle.terms.specs.Book.{both, cut, cut_all}
use Rattle.terms.proofs.Fresh.{cut_open}
use Rattle.wire.specs.Map.{write_map}
use Rattle.wire.specs.Vocabulary.{Vocabulary, InOrder, signature}
use Rattle.wire.specs.TermBytes.{encode_at, encode_all}
use Rattle.wire.specs.EntryAgainst.{bit_of, written_bits, places_of_word, others_at, cut_at, cut_all_at}
use Rattle.wire.proofs.AgainstMaps.{places-sorted}

-- ---- on trees

pub cut_count_open : (S : Signature) (f : ℕ) (ps : Terms) →
    length (cut S any (app f ps)) ≡ length (others S f) + length (cut_all S (open_every ps) ps)
cut_count_open S f ps =
    ap length (cut_open S f ps)
    ∙ length-append (map (bare S) (others S f)) (map (app f) (cut_all S (open_every ps) ps))
    ∙ ap₂ ◌+◌ (length-map (others S f) (bare S)) (length-map (cut_all S (open_every ps) ps) (app f))

pub cut_count_word : (S : Signature) (f h : ℕ) (es ps : Terms) → length (cut S (app f es) (app h ps)) ≡ length (cut_all S es ps)
cut_count_word S f h es ps = length-map (cut_all S es ps) (app f)

pub cut_count_places : (S : Signature) (e p : Term) (es ps : Terms) →
    length (cut_all S (cons e es) (cons p ps)) ≡ length (cut S e p) + length (cut_all S es ps)
cut_count_places S e p es ps =
    length-append (map (λ c. cons c es) (cut S e p)) (map (cons (both e p)) (cut_all S es ps))
    ∙ ap₂ ◌+◌ (length-map (cut S e p) (λ c. cons c es)) (length-map (cut_all S es ps) (cons (both e p)))

-- ---- by bytes

module _ (W : Vocabulary) (in_order : InOrder W) where
  opened-count : (f : ℕ) (ps : Terms) (front tail : List ℕ) →
      length (cut_all_at W ps (open_every ps) f (places_of_word W f) 0 [] front tail) ≡ length (cut_all (signature W) (open_every ps) ps) →
      length (cut_at W (app f ps) any front tail) ≡ length (cut (signature W) any (app f ps))
  opened-count f ps front tail h =
      length-append (others_at W f front tail) (cut_all_at W ps (open_every ps) f (places_of_word W f) 0 [] front tail)
      ∙ ap₂ ◌+◌ (length-map (others (signature W) f) (λ h. front ++ ((h ∷ write_map 0) ++ tail))) h
      ∙ sym (cut_count_open (signature W) f ps)

  mutual
    pub cut_at-count : (p e : Term) (s : ℕ) → Sorted (signature W) p s → (front tail : List ℕ) →
        length (cut_at W p e front tail) ≡ length (cut (signature W) e p)
    cut_at-count any any s h front tail = refl
    cut_at-count any (var n) s h front tail = refl
    cut_at-count any (app f es) s h front tail = refl
    cut_at-count (var n) any s h front tail = refl
    cut_at-count (var n) (var m) s h front tail = refl
    cut_at-count (var n) (app f es) s h front tail = refl
    cut_at-count (app f ps) any s h front tail =
        opened-count f ps front tail
        (cut_all_at-count ps (open_every ps) (arguments (signature W) f) h.2 f (places_of_word W f) (places-sorted W in_order f ps s h) 0 [] front tail)
    cut_at-count (app f ps) (var n) s h front tail =
        opened-count f ps front tail
        (cut_all_at-count ps (open_every ps) (arguments (signature W) f) h.2 f (places_of_word W f) (places-sorted W in_order f ps s h) 0 [] front tail)
    cut_at-count (app f ps) (app g es) s h front tail =
        cut_all_at-count ps es (arguments (signature W) f) h.2 f (places_of_word W f) (places-sorted W in_order f ps s h) 0 [] front tail
        ∙ sym (cut_count_word (signature W) g f es ps)

    pub cut_all_at-count : (ps es : Terms) (ks : List ℕ) → SortedAll (signature W) ps ks → (f : ℕ) (bs : List ℕ) → length bs ≡ length ks →
        (low : ℕ) (body front tail : List ℕ) → length (cut_all_at W ps es f bs low body front tail) ≡ length (cut_all (signature W) es ps)
    cut_all_at-count nil nil ks h f bs n low body front tail = refl
    cut_all_at-count nil (cons e es) ks h f bs n low body front tail = refl
    cut_all_at-count (cons p ps) nil ks h f bs n low body front tail = refl
    cut_all_at-count (cons p ps) (cons e es) [] h f bs n low body front tail = absurd h
    cut_all_at-count (cons p ps) (cons e es) (k ∷ ks) h f [] n low body front tail = absurd (omega arith)
    cut_all_at-count (cons p ps) (cons e es) (k ∷ ks) h f (b ∷ bs) n low body front tail =
        let next : List ℕ = front ++ (f ∷ (write_map (low + (2 ^ b + written_bits bs es)) ++ body)) in
        let t : Term = both e p in
        length-append (cut_at W p e next (encode_all W es ++ tail)) (cut_all_at W ps es f bs (low + bit_of t b) (body ++ encode_at W t) front tail)
        ∙ ap₂ ◌+◌ (cut_at-count p e k h.0 next (encode_all W es ++ tail))
        (cut_all_at-count ps es ks h.1 f bs (omega arith) (low + bit_of t b) (body ++ encode_at W t) front tail)
        ∙ sym (cut_count_places (signature W) e p es ps)
