-- Siblings: an entry for each other word of a kind is written, from one word of the kind to the next.
--
--   entry-size, closer       how many bytes an entry has, and the chain goes on
--   first_of                 where the table has the lowest word of a kind
--   Kept, kept-room          so many bytes are written, and an entry more
--   Followed                 the loop: h is the next word of the kind, and the others before it have their entries
--   followed_none, -all      it begins, and it ends
--   followed_inside          the next word is one
--   followed_full            the next entry is too long, or has no room
--   followed_taken, -left    a turn, at another word and at the word itself
--
use mathlib.Core.Path.{◌≡◌, refl, sym, ap, ◌∙◌, subst}
use mathlib.Core.Bool.{Bool, true}
use mathlib.Core.List.{List, [], ◌∷◌, ◌++◌, append-nil, append_assoc, map-append}
use Prim.Native.Nat.{ℕ, ◌+◌, ◌-◌, ◌%◌, ◌<◌, ◌≤◌}
use native.Mathlib.Omega.{arith}
use lib.ListN.{length, get_or, take, drop, length-append, length-drop}
use lib.Seq.{length-take-le}
use Rattle.wire.specs.Map.{map_bytes, write_map}
use Rattle.wire.specs.Vocabulary.{most_words}
use Rattle.kinds.specs.Kinds.{others_in}
use Rattle.kinds.proofs.Following.{Following, Step, following_inside, following_none, following_higher, following_other, following_self}
use Rattle.slices.specs.Written.{Written}
use Rattle.slices.proofs.Writing.{part, back, part_length, written-more}
use Rattle.others.specs.Listed.{together, FitBehind, Listed}
use Rattle.others.specs.Others.{entry_of, others_of, NextWord, Due, Exceeds}
use Rattle.others.proofs.Entries.{together-append, fits_both, fits_second, listed_none, listed-end, listed-inside, listed-length}

-- h is the next word of the kind of f, and the others before it have their entries.
pub record Followed (front tail : List ℕ) (words : ℕ) (results siblings : List ℕ) (f : ℕ) (before : List ℕ) (n₀ later h n todo : ℕ) (out : List ℕ) :
    Type 0 where
  pub done : List ℕ
  pub rest : List ℕ
  pub following : Following words results siblings f h rest
  pub split : others_in words results f ≡ done ++ rest
  pub due : todo ≡ length rest + later
  pub listed : Listed (others_of front tail done) n₀ n before out

-- n bytes are written, inside the slice, whose length stays.
pub record Kept (before : List ℕ) (n : ℕ) (out : List ℕ) : Type 0 where
  pub inside : n ≤ length out
  pub length : length out ≡ length before

back_length : (n : ℕ) (out ys : List ℕ) → n ≤ length out → length ys ≡ length (part n out) → length (back n out ys) ≡ length out
back_length n out ys i same =
    length-append (take n out) (ys ++ drop (length out - n) (drop n out))
    ∙ omega (
      arith,
      length-take-le n out i,
      length-append ys (drop (length out - n) (drop n out)),
      same,
      part_length n out,
      length-drop (length out - n) (drop n out),
      length-drop n out,
    )

-- An entry more is written into the part behind them.
pub kept-room : {before out : List ℕ} {n size : ℕ} (ys : List ℕ) → Kept before n out → size ≤ length out - n → length ys ≡ length (part n out) →
    Kept before (n + size) (back n out ys)
kept-room {before} {out} {n} {size} ys k fits same =
    let i = k.inside in
    let s : length (back n out ys) ≡ length out = back_length n out ys i same in
    record { inside = omega arith; length = s ∙ k.length }

-- How many bytes an entry has, whose first ones stand in the copy.
pub entry-size : (copy tail : List ℕ) (at h : ℕ) → at ≤ length copy →
    at + (1 + map_bytes) + length tail ≡ length (entry_of (take at copy) tail h)
entry-size copy tail at h i =
    omega (arith, length-append (take at copy) ((h ∷ write_map 0) ++ tail), length-take-le at copy i)

-- A word's number is its place in the table.
pub first_of : {f words first : ℕ} (siblings : List ℕ) → f < words → words ≤ most_words → first ≡ get_or siblings (128 + f % 128) 0 → first ≡ get_or siblings (128 + f) 0
first_of {f} siblings known few e = e ∙ ap (λ g. get_or siblings (128 + g) 0) (let z : f % 128 ≡ f = omega arith in z)

-- The chain goes on, to a higher word.
pub closer : {h m : ℕ} → h < m → h < 96 → 96 - m < 96 - h
closer k l = omega arith

module _ {front tail : List ℕ} {words : ℕ} {results siblings : List ℕ} {f : ℕ} {before : List ℕ} {n₀ later : ℕ} where
  pub followed_none : {h todo : ℕ} → Following words results siblings f h (others_in words results f) → todo ≡ length (others_in words results f) + later →
      n₀ ≤ length before → Followed front tail words results siblings f before n₀ later h n₀ todo before
  followed_none w d k = record { done = []; rest = others_in words results f; following = w; split = refl; due = d; listed = listed_none before k }

  module _ {h n todo : ℕ} {out : List ℕ} (w : Followed front tail words results siblings f before n₀ later h n todo out) where
    pub followed_all : 96 ≤ h → Listed (others_of front tail (others_in words results f)) n₀ n before out × (todo ≡ later)
    followed_all k =
        let none : w.rest ≡ [] = following_none w.following k in (
          subst (λ hs. Listed (others_of front tail hs) n₀ n before out)
              (sym (w.split ∙ ap (λ hs. w.done ++ hs) none ∙ append-nil w.done)) w.listed,
          omega (arith, w.due, ap length none),
        )

    pub followed_inside : h < 96 → h < words
    followed_inside k = following_inside w.following k

    module _ (inside : h < words) {m : ℕ} (goes : NextWord siblings h m) where
      step : m ≡ get_or siblings h 0
      step = goes.same (following_higher w.following inside (get_or siblings h 0) refl)

      pub followed_left : h ≡ f → Followed front tail words results siblings f before n₀ later m n todo out
      followed_left e = record { done = w.done; rest = w.rest; following = following_self w.following inside m step e; split = w.split; due = w.due; listed = w.listed }

      module _ (apart : h ≡ f → ⊥) where
        next : Step words results siblings f h m w.rest
        next = following_other w.following inside m step apart

        abbrev behind : List ℕ
        behind = next.rest

        split_here : others_in words results f ≡ w.done ++ (h ∷ behind)
        split_here = w.split ∙ ap (λ hs. w.done ++ hs) next.split

        some_due : 0 < todo
        some_due = omega (arith, w.due, ap length next.split)

        pub followed_full : {size : ℕ} → size ≡ length (entry_of front tail h) → {r : Bool} → Exceeds todo size (length out - n) r → r ≡ true →
            FitBehind (others_of front tail (others_in words results f)) n₀ (length before) → ⊥
        followed_full long over told fits =
            let e : List ℕ = entry_of front tail h in
            let later_ones : List (List ℕ) = others_of front tail behind in
            let all : FitBehind (others_of front tail w.done ++ (e ∷ later_ones)) n₀ (length before) =
            subst (λ ls. FitBehind ls n₀ (length before)) (ap (others_of front tail) split_here ∙ map-append (entry_of front tail) w.done (h ∷ behind)) fits in
            let here : FitBehind (e ∷ later_ones) (n₀ + length (together (others_of front tail w.done))) (length before) =
            fits_second (others_of front tail w.done) (e ∷ later_ones) all in
            let short = here.each.0 in
            let room = here.all in
            over.yes told (record {
              some = some_due;
              short = omega arith;
              fits = omega (arith, listed-end w.listed, listed-length w.listed, length-append e (together later_ones));
            })

        pub followed_taken : {size : ℕ} {ys : List ℕ} → size ≡ length (entry_of front tail h) → Due todo size (length out - n) →
            Written (entry_of front tail h) (part n out) size ys → Followed front tail words results siblings f before n₀ later m (n + size) (todo - 1) (back n out ys)
        followed_taken {size} {ys} long few y =
            let short = few.short in
            let room = few.fits in
            let l = w.listed in
            let e : List ℕ = entry_of front tail h in
            let d : List (List ℕ) = others_of front tail w.done in
            let inside : n ≤ length before = listed-inside l in
            let all-entries : others_of front tail w.done ++ (e ∷ []) ≡ others_of front tail (w.done ++ (h ∷ [])) = sym (map-append (entry_of front tail) w.done (h ∷ [])) in
            let one : FitBehind (e ∷ []) (n₀ + length (together d)) (length before) = record {
              each = (omega arith, tt);
              all = omega (arith, listed-end l, listed-length l, length-append e []);
            } in
            record {
              done = w.done ++ (h ∷ []);
              rest = behind;
              following = next.on;
              split = split_here ∙ sym (append_assoc w.done (h ∷ []) behind);
              due = omega (arith, w.due, ap length next.split);
              listed = subst (λ ls. Listed ls n₀ (n + size) before (back n out ys)) all-entries (record {
                fits = fits_both d (e ∷ []) l.fits one;
                written =
                    subst (λ z. Written z before (n + size) (back n out ys))
                    (append_assoc (take n₀ before) (together d) e
                    ∙ ap (λ z. take n₀ before ++ z) (sym (together-append d (e ∷ []) ∙ ap (λ z. together d ++ z) (append-nil e))))
                    (written-more l.written (omega (arith, l.written.count, inside)) y);
              });
            }
