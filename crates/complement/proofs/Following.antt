-- Following: the others of a word's result kind have their entries, along the chain of the kind.
--
--   Followed                  the loop: h is the next word of the kind, and the others before it have their entries
--   followed_none, -all       it begins, and it ends
--   followed_inside           where h is below 96 it is a word
--   followed_room, -less      the next entry has room, and the next word is a higher one
--   followed_taken, -left     a turn, at another word and at the word itself
--
use mathlib.Core.Path.{◌≡◌, refl, subst}
use mathlib.Core.List.{List, ◌∷◌, ◌++◌}
use Prim.Native.Nat.{ℕ, ◌+◌, ◌<◌, ◌≤◌}
use native.Mathlib.Omega.{arith}
use lib.ListN.{length, get_or, drop}
use Rattle.wire.specs.Map.{write_map}
use Rattle.wire.specs.EntryBytes.{others_bytes}
use Rattle.kinds.specs.Kinds.{kind_in, others_in, lowest, Chained}
use Rattle.kinds.proofs.Following.{Following, Step, following_first, following_none, following_inside, following_higher, following_other, following_self}
use Rattle.slices.specs.Written.{Written}
use Rattle.slices.proofs.Writing.{part, back}
use Rattle.complement.proofs.Siblings.{Listed, listed_none, listed-room, listed_taken, listed-all}

-- h is the next word of the kind of f, and the others before it have their entries.
pub record Followed (front : List ℕ) (words : ℕ) (results chains : List ℕ) (f : ℕ) (before : List ℕ) (h n : ℕ) (out : List ℕ) : Type 0 where
  pub room : length (others_bytes front (others_in words results f)) ≤ length before
  pub left : List ℕ
  pub following : Following words results chains f h left
  pub size : length out ≡ length before
  pub inside : n ≤ length before
  pub listed : Listed front (others_in words results f) before left n out

module _ {front : List ℕ} {words : ℕ} {results chains : List ℕ} {f : ℕ} {before : List ℕ} where
  pub followed_none : words ≤ 96 → Chained words results chains → length (others_bytes front (others_in words results f)) ≤ length before →
      {h : ℕ} → h ≡ lowest words results (kind_in results f) 0 → Followed front words results chains f before h 0 before
  followed_none small c room s = record {
    room = room;
    left = others_in words results f;
    following = following_first small c s;
    size = refl;
    inside = omega arith;
    listed = listed_none front (others_in words results f) room;
  }

  module _ {h n : ℕ} {out : List ℕ} (w : Followed front words results chains f before h n out) where
    pub followed_inside : h < 96 → h < words
    followed_inside k = following_inside w.following k

    pub followed_all : 96 ≤ h → Written (others_bytes front (others_in words results f)) before n out
    followed_all k =
        listed-all front (others_in words results f) w.room
        (subst (λ l. Listed front (others_in words results f) before l n out) (following_none w.following k) w.listed)

    module _ (inside : h < words) (m : ℕ) (step : m ≡ get_or chains h 0) where
      pub followed_less : h < m
      followed_less = following_higher w.following inside m step

      followed_on : {left : List ℕ} → Following words results chains f m left → {i : ℕ} {ys : List ℕ} → Listed front (others_in words results f) before left i ys →
          Followed front words results chains f before m i ys
      followed_on {left} g l = record { room = w.room; left = left; following = g; size = l.size; inside = l.inside; listed = l }

      -- The word is f itself.
      pub followed_left : h ≡ f → Followed front words results chains f before m n out
      followed_left e = followed_on (following_self w.following inside m step e) w.listed

      -- The word is another.
      module _ (apart : h ≡ f → ⊥) {at : ℕ} (begins : length front ≡ at) where
        next : Step words results chains f h m w.left
        next = following_other w.following inside m step apart

        next-listed : Listed front (others_in words results f) before (h ∷ next.rest) n out
        next-listed = subst (λ l. Listed front (others_in words results f) before l n out) next.split w.listed

        pub followed_room : at + 2 ≤ length (part n out)
        followed_room = listed-room front (others_in words results f) w.room begins next-listed

        pub followed_taken : {ys : List ℕ} → ys ≡ (front ++ (h ∷ write_map 0)) ++ drop (at + 2) (part n out) →
            Followed front words results chains f before m (n + at + 2) (back n out ys)
        followed_taken y = followed_on next.on (listed_taken front (others_in words results f) w.room begins next-listed y)
