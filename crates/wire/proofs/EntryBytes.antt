-- EntryBytes: the entries of a listing are those at the pattern's words, as it is walked from left to right.
--
--   others_written front hs      for each of the words hs the bytes front, the word and the map 0
--   spots_written W l            the entries at the spots l, each by itself
--   bytes_of l                   some bytes one behind the other
--   above_snoc, above_bytes     terms above others, and their bytes
--   opened-bytes                a word with every place open
--   spots_bytes-append          the entries at spots one behind the other
--   entries-bytes               the entries of a pattern, whose kind byte stands before its root
--
use mathlib.Core.Path.{◌≡◌, refl, sym, ap, ap₂, ◌∙◌}
use mathlib.Core.Bool.{Bool, true, false, not, true≢false}
use mathlib.Core.List.{List, [], ◌∷◌, ◌++◌, map, append-nil, append_assoc, map-map, map-append}
use Prim.Native.Nat.{ℕ}
use native.Mathlib.Omega.{arith}
use Rattle.terms.specs.Lists.{All}
use Rattle.terms.specs.Signature.{Signature, arguments}
use Rattle.terms.specs.Term.{Term, any, var, app, Terms, nil, cons}
use Rattle.terms.specs.Listing.{others, all_open, bare, open_every, listing, listing_all}
use Rattle.terms.proofs.All.{all_always, all_implies, all_append, all_map}
use Rattle.wire.specs.Map.{write_map, flags, number, is_open, written_flags}
use Rattle.wire.specs.Vocabulary.{Vocabulary, signature, map_of}
use Rattle.wire.specs.TermBytes.{encode_at, encode_all, encode_term}
use Rattle.wire.specs.Reply.{kinded}
use Rattle.wire.specs.Leftovers.{entries_bytes}
use Rattle.wire.specs.EntryBytes.{above, up_to, Spot, spots, spots_all, others_bytes, spots_bytes, EntriesBySpots}
use Rattle.wire.proofs.Entries.{open_bytes, open_every-bytes}

abbrev pub others_written : List ℕ → List ℕ → List (List ℕ)
others_written front hs = map (λ h. front ++ (h ∷ write_map 0)) hs

abbrev pub spots_written : Vocabulary → List Spot → List (List ℕ)
spots_written W [] = []
spots_written W (x ∷ l) = others_written x.front (others (signature W) x.word) ++ spots_written W l

abbrev pub bytes_of : List (List ℕ) → List ℕ
bytes_of [] = []
bytes_of (b ∷ l) = b ++ bytes_of l

-- ---- lists

map_where : {A B : Type 0} (g h : A → B) (l : List A) → All (λ x. g x ≡ h x) l → map g l ≡ map h l
map_where g h [] a = refl
map_where g h (x ∷ l) a = ap₂ (λ y m. y ∷ m) a.0 (map_where g h l a.1)

map_always : {A B : Type 0} (g h : A → B) (l : List A) → ((x : A) → g x ≡ h x) → map g l ≡ map h l
map_always g h l e = map_where g h l (all_always _ e l)

-- ---- terms above others

pub above_snoc : (lower : Terms) (t : Term) (us : Terms) → above lower (cons t us) ≡ above (above lower (cons t nil)) us
above_snoc nil t us = refl
above_snoc (cons u lower) t us = ap (cons u) (above_snoc lower t us)

pub above_bytes : (W : Vocabulary) (lower us : Terms) → encode_all W (above lower us) ≡ encode_all W lower ++ encode_all W us
above_bytes W nil us = refl
above_bytes W (cons t lower) us =
    ap (λ l. encode_at W t ++ l) (above_bytes W lower us) ∙ sym (append_assoc (encode_at W t) (encode_all W lower) (encode_all W us))

-- Which bits are written depends on which places are open alone.
written_same : (ps : List Bool) (lower : Terms) (e t : Term) (us : Terms) → is_open e ≡ is_open t →
    written_flags ps (above lower (cons e us)) ≡ written_flags ps (above lower (cons t us))
written_same [] lower e t us o = refl
written_same (false ∷ ps) lower e t us o = ap (λ l. false ∷ l) (written_same ps lower e t us o)
written_same (true ∷ ps) nil e t us o = ap (λ b. not b ∷ written_flags ps us) o
written_same (true ∷ ps) (cons u lower) e t us o = ap (λ l. not (is_open u) ∷ l) (written_same ps lower e t us o)

written_none : (ps : List Bool) (ks : List ℕ) → number (written_flags ps (all_open ks)) ≡ 0
written_none [] ks = refl
written_none (false ∷ ps) ks = omega (arith, written_none ps ks)
written_none (true ∷ ps) [] = omega (arith, written_none ps [])
written_none (true ∷ ps) (k ∷ ks) = omega (arith, written_none ps ks)

-- ---- one entry

-- Another word with every place open is its number and the map 0.
pub opened-bytes : (W : Vocabulary) (h : ℕ) → encode_at W (bare (signature W) h) ≡ h ∷ write_map 0
opened-bytes W h =
    ap₂ (λ m l. h ∷ (write_map m ++ l)) (written_none (flags (map_of W h)) (arguments (signature W) h)) (open_bytes W (arguments (signature W) h))

-- An entry of the term t at a place is what the pattern has up to that place, the map kept up to it, and the entry.
place-bytes : (W : Vocabulary) (f : ℕ) (lower : Terms) (e t : Term) (ts : Terms) (front : List ℕ) → is_open e ≡ is_open t →
    front ++ encode_at W (app f (above lower (cons e (open_every ts))))
    ≡ (front ++ (f ∷ (write_map (up_to W f lower t ts) ++ encode_all W lower))) ++ encode_at W e
place-bytes W f lower e t ts front o =
    let m : ℕ = up_to W f lower t ts in
    ap₂ (λ k l. front ++ (f ∷ (write_map k ++ l))) (ap number (written_same (flags (map_of W f)) lower e t (open_every ts) o))
    (above_bytes W lower (cons e (open_every ts))
    ∙ ap (λ l. encode_all W lower ++ l) (ap (λ l. encode_at W e ++ l) (open_every-bytes W ts) ∙ append-nil (encode_at W e)))
    ∙ ap (λ l. front ++ (f ∷ l)) (sym (append_assoc (write_map m) (encode_all W lower) (encode_at W e)))
    ∙ sym (append_assoc front (f ∷ (write_map m ++ encode_all W lower)) (encode_at W e))

-- An entry is open where the term is: there is none of an open place, and every other begins with a word.
entries-closed : (S : Signature) (t : Term) → All (λ e. is_open e ≡ is_open t) (listing S t)
entries-closed S any = tt
entries-closed S (var n) = tt
entries-closed S (app f ts) =
    all_append (λ e. is_open e ≡ false) (map (bare S) (others S f)) (map (app f) (listing_all S ts))
    (all_map (λ e. is_open e ≡ false) (bare S) (others S f) (all_always _ (λ h. refl) (others S f)))
    (all_map (λ e. is_open e ≡ false) (app f) (listing_all S ts) (all_always _ (λ es. refl) (listing_all S ts)))

-- ---- all entries

spots_written_append : (W : Vocabulary) (l m : List Spot) → spots_written W (l ++ m) ≡ spots_written W l ++ spots_written W m
spots_written_append W [] m = refl
spots_written_append W (x ∷ l) m =
    ap (λ z. others_written x.front (others (signature W) x.word) ++ z) (spots_written_append W l m)
    ∙ sym (append_assoc (others_written x.front (others (signature W) x.word)) (spots_written W l) (spots_written W m))

module _ (W : Vocabulary) where
  mutual
    -- The entries of t, each with the bytes front before it.
    pub entries-written : (t : Term) (front : List ℕ) →
        map (λ e. front ++ encode_at W e) (listing (signature W) t) ≡ spots_written W (spots W t front)
    entries-written any front = refl
    entries-written (var n) front = refl
    entries-written (app f ts) front =
        let S : Signature = signature W in
        map-append (λ e. front ++ encode_at W e) (map (bare S) (others S f)) (map (app f) (listing_all S ts))
        ∙ ap₂ (λ l m. l ++ m)
        (map-map (λ e. front ++ encode_at W e) (bare S) (others S f)
        ∙ map_always _ (λ h. front ++ (h ∷ write_map 0)) (others S f) (λ h. ap (λ l. front ++ l) (opened-bytes W h)))
        (map-map (λ e. front ++ encode_at W e) (app f) (listing_all S ts) ∙ entries_written_all ts f nil front)

    pub entries_written_all : (ts : Terms) (f : ℕ) (lower : Terms) (front : List ℕ) →
        map (λ es. front ++ encode_at W (app f (above lower es))) (listing_all (signature W) ts) ≡ spots_written W (spots_all W ts f lower front)
    entries_written_all nil f lower front = refl
    entries_written_all (cons t ts) f lower front =
        let S : Signature = signature W in
        let write : Terms → List ℕ = λ es. front ++ encode_at W (app f (above lower es)) in
        let next : List ℕ = front ++ (f ∷ (write_map (up_to W f lower t ts) ++ encode_all W lower)) in
        map-append write (map (λ e. cons e (open_every ts)) (listing S t)) (map (cons t) (listing_all S ts))
        ∙ ap₂ (λ l m. l ++ m)
        (map-map write (λ e. cons e (open_every ts)) (listing S t)
        ∙ map_where _ (λ e. next ++ encode_at W e) (listing S t)
        (all_implies _ _ (λ e o. place-bytes W f lower e t ts front o) (listing S t) (entries-closed S t))
        ∙ entries-written t next)
        (map-map write (cons t) (listing_all S ts)
        ∙ map_always _ (λ es. front ++ encode_at W (app f (above (above lower (cons t nil)) es))) (listing_all S ts)
        (λ es. ap (λ us. front ++ encode_at W (app f us)) (above_snoc lower t es))
        ∙ entries_written_all ts f (above lower (cons t nil)) front)
        ∙ sym (spots_written_append W (spots W t next) (spots_all W ts f (above lower (cons t nil)) front))

-- ---- one behind the other

bytes-append : (l m : List (List ℕ)) → bytes_of (l ++ m) ≡ bytes_of l ++ bytes_of m
bytes-append [] m = refl
bytes-append (b ∷ l) m = ap (λ z. b ++ z) (bytes-append l m) ∙ sym (append_assoc b (bytes_of l) (bytes_of m))

others-bytes : (front hs : List ℕ) → bytes_of (others_written front hs) ≡ others_bytes front hs
others-bytes front [] = refl
others-bytes front (h ∷ hs) = ap (λ z. (front ++ (h ∷ write_map 0)) ++ z) (others-bytes front hs)

spots-bytes : (W : Vocabulary) (l : List Spot) → bytes_of (spots_written W l) ≡ spots_bytes W l
spots-bytes W [] = refl
spots-bytes W (x ∷ l) =
    bytes-append (others_written x.front (others (signature W) x.word)) (spots_written W l)
    ∙ ap₂ (λ a b. a ++ b) (others-bytes x.front (others (signature W) x.word)) (spots-bytes W l)

pub spots_bytes-append : (W : Vocabulary) (l m : List Spot) → spots_bytes W (l ++ m) ≡ spots_bytes W l ++ spots_bytes W m
spots_bytes-append W [] m = refl
spots_bytes-append W (x ∷ l) m =
    ap (λ z. others_bytes x.front (others (signature W) x.word) ++ z) (spots_bytes-append W l m)
    ∙ sym (append_assoc (others_bytes x.front (others (signature W) x.word)) (spots_bytes W l) (spots_bytes W m))

-- At the root an entry is written as below it: it begins with a word.
root-bytes : (W : Vocabulary) (s : ℕ) (l : List Term) → All (λ e. is_open e ≡ false) l →
    entries_bytes W (map (kinded s) l) ≡ bytes_of (map (λ e. (s ∷ []) ++ encode_at W e) l)
root-bytes W s [] a = refl
root-bytes W s (any ∷ l) a = absurd (true≢false a.0)
root-bytes W s (var n ∷ l) a = ap (λ z. encode_term W s (var n) ++ z) (root-bytes W s l a.1)
root-bytes W s (app f ts ∷ l) a = ap (λ z. encode_term W s (app f ts) ++ z) (root-bytes W s l a.1)

pub entries-bytes : EntriesBySpots
entries-bytes W s any = refl
entries-bytes W s (var n) = refl
entries-bytes W s (app f ts) =
    root-bytes W s (listing (signature W) (app f ts)) (entries-closed (signature W) (app f ts))
    ∙ ap bytes_of (entries-written W (app f ts) (s ∷ []))
    ∙ spots-bytes W (spots W (app f ts) (s ∷ []))
