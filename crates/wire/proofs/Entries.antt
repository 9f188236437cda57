-- Entries: each entry of a good linear pattern is one, and is no longer than the pattern.
--
--   listing-good       .. of document 01's listing
--   whole-good         255 is a good pattern of every kind
--   entries_are_good   .. of the listing that document 02 (iv) leaves
--
use mathlib.Core.Path.{◌≡◌, refl, ap}
use mathlib.Core.List.{List, [], ◌∷◌, map}
use Prim.Native.Nat.{ℕ, ◌<◌, ◌≤◌}
use native.Mathlib.Omega.{arith}
use lib.ListN.{length, length-append}
use Rattle.terms.specs.Lists.{All}
use Rattle.terms.specs.Signature.{Signature, arguments}
use Rattle.terms.specs.Term.{Term, any, var, app, Terms, nil, cons, Sorted, names, Linear}
use Rattle.terms.specs.Listing.{others, all_open, bare, open_every, listing, listing_all, Fitted, IsListing, fits_something, fits_nothing, none_to_fit}
use Rattle.terms.proofs.All.{all_always, all_implies, all_both, all_append, all_map}
use Rattle.terms.proofs.Term.{linear_well_sorted}
use Rattle.terms.proofs.Kept.{kept-all}
use Rattle.terms.proofs.Entries.{entries-names, listing-linear}
use Rattle.wire.specs.Vocabulary.{Vocabulary, signature}
use Rattle.wire.specs.TermBytes.{encode_at, encode_all, encode_root, encode_term, GoodTerm, name_count}
use Rattle.wire.specs.Laws.{EntriesAreGood}
use Rattle.wire.proofs.Levels.{deepest-bytes}

module _ (W : Vocabulary) where
  -- Open places take no byte.
  pub open_bytes : (ks : List ℕ) → encode_all W (all_open ks) ≡ []
  open_bytes [] = refl
  open_bytes (k ∷ ks) = open_bytes ks

  pub open_every-bytes : (ts : Terms) → encode_all W (open_every ts) ≡ []
  open_every-bytes nil = refl
  open_every-bytes (cons t ts) = open_every-bytes ts

  opened-short : (S : Signature) (h f : ℕ) (ts : Terms) → length (encode_at W (bare S h)) ≤ length (encode_at W (app f ts))
  opened-short S h f ts = omega (arith, ap length (open_bytes (arguments S h)))

  first_short : (e t : Term) (ts : Terms) → length (encode_at W e) ≤ length (encode_at W t) →
      length (encode_all W (cons e (open_every ts))) ≤ length (encode_all W (cons t ts))
  first_short e t ts h =
      omega (arith, length-append (encode_at W e) (encode_all W (open_every ts)), ap length (open_every-bytes ts), length-append (encode_at W t) (encode_all W ts))

  rest-short : (t : Term) (es ts : Terms) → length (encode_all W es) ≤ length (encode_all W ts) →
      length (encode_all W (cons t es)) ≤ length (encode_all W (cons t ts))
  rest-short t es ts h = omega (arith, length-append (encode_at W t) (encode_all W es), length-append (encode_at W t) (encode_all W ts))

  mutual
    entries-short : (S : Signature) (p : Term) → All (λ e. length (encode_at W e) ≤ length (encode_at W p)) (listing S p)
    entries-short S any = tt
    entries-short S (var n) = tt
    entries-short S (app f ts) =
        all_append (λ e. length (encode_at W e) ≤ length (encode_at W (app f ts))) (map (bare S) (others S f)) (map (app f) (listing_all S ts))
        (all_map (λ e. length (encode_at W e) ≤ length (encode_at W (app f ts))) (bare S) (others S f)
        (all_always _ (λ h. opened-short S h f ts) (others S f)))
        (all_map (λ e. length (encode_at W e) ≤ length (encode_at W (app f ts))) (app f) (listing_all S ts)
        (all_implies (λ es. length (encode_all W es) ≤ length (encode_all W ts)) _ (λ es h. omega arith) (listing_all S ts) (entries_short_all S ts)))

    entries_short_all : (S : Signature) (ts : Terms) → All (λ es. length (encode_all W es) ≤ length (encode_all W ts)) (listing_all S ts)
    entries_short_all S nil = tt
    entries_short_all S (cons t ts) =
        all_append (λ es. length (encode_all W es) ≤ length (encode_all W (cons t ts))) (map (λ e. cons e (open_every ts)) (listing S t)) (map (cons t) (listing_all S ts))
        (all_map (λ es. length (encode_all W es) ≤ length (encode_all W (cons t ts))) (λ e. cons e (open_every ts)) (listing S t)
        (all_implies (λ e. length (encode_at W e) ≤ length (encode_at W t)) _ (λ e h. first_short e t ts h) (listing S t) (entries-short S t)))
        (all_map (λ es. length (encode_all W es) ≤ length (encode_all W (cons t ts))) (cons t) (listing_all S ts)
        (all_implies (λ es. length (encode_all W es) ≤ length (encode_all W ts)) _ (λ es h. rest-short t es ts h) (listing_all S ts) (entries_short_all S ts)))

  -- At the root an entry is no longer either: where there are entries, they and the pattern begin with a word.
  entries_short_root : (S : Signature) (p : Term) → All (λ e. length (encode_root W e) ≤ length (encode_root W p)) (listing S p)
  entries_short_root S any = tt
  entries_short_root S (var n) = tt
  entries_short_root S (app f ts) =
      all_append (λ e. length (encode_root W e) ≤ length (encode_root W (app f ts))) (map (bare S) (others S f)) (map (app f) (listing_all S ts))
      (all_map (λ e. length (encode_root W e) ≤ length (encode_root W (app f ts))) (bare S) (others S f)
      (all_always _ (λ h. opened-short S h f ts) (others S f)))
      (all_map (λ e. length (encode_root W e) ≤ length (encode_root W (app f ts))) (app f) (listing_all S ts)
      (all_implies (λ es. length (encode_all W es) ≤ length (encode_all W ts)) _ (λ es h. omega arith) (listing_all S ts) (entries_short_all S ts)))

pub listing-good : (W : Vocabulary) (s : ℕ) (p : Term) → GoodTerm W s p → Linear p →
    All (λ e. GoodTerm W s e × Linear e × (length (encode_term W s e) ≤ length (encode_term W s p))) (listing (signature W) p)
listing-good W s p good linear =
    all_implies Known (λ e. GoodTerm W s e × Linear e × (length (encode_term W s e) ≤ length (encode_term W s p))) entry (listing S p)
    (all_both _ _ (listing S p) (listing-linear S p s good.sorted.sorted linear)
    (all_both _ _ (listing S p) (entries-names S (λ n. n < name_count) p good.named) (entries_short_root W S p)))
  where
    S : Signature
    S = signature W

    Known : Term → Type 0
    Known e = (Sorted (signature W) e s × Linear e) × (All (λ n. n < name_count) (names e) × (length (encode_root W e) ≤ length (encode_root W p)))

    entry : (e : Term) → Known e →
        GoodTerm W s e × Linear e × (length (encode_term W s e) ≤ length (encode_term W s p))
    entry e ((sorted, alone), (named, short)) = (
      record { kind = good.kind; sorted = linear_well_sorted (signature W) e s sorted alone; named = named },
      alone,
      omega arith,
    )

pub whole-good : (W : Vocabulary) (s : ℕ) → s < W.kinds → GoodTerm W s any
whole-good W s below = record { kind = below; sorted = record { sorted = tt; consistent = tt }; named = tt }

module _ (W : Vocabulary) (s : ℕ) (p : Term) (good : GoodTerm W s p) (linear : Linear p) where
  abbrev GoodEntry : Term → Type 0
  GoodEntry e = GoodTerm W s e × Linear e × (length (encode_term W s e) ≤ length (encode_term W s p))

  each-good : {l : List Term} → IsListing (signature W) s p l → All GoodEntry l
  each-good (fits_something l fitted kept) = kept-all (Fitted (signature W) s) GoodEntry (listing (signature W) p) l (listing-good W s p good linear) kept
  each-good (fits_nothing none ground) = ((whole-good W s good.kind, tt, omega (arith, deepest-bytes W p)), tt)
  each-good (none_to_fit empty) = tt

pub entries_are_good : EntriesAreGood
entries_are_good W s p good linear l h = each-good W s p good linear h
