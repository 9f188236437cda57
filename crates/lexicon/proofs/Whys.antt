-- Whys: why a token is no name or no kind, one law for each test of the code.
--
--   chosen, passed            a choice by a test whose outcome is known
--   names-length              the names of a table's front are as many as its entries
--   name-sound, place-sound   what is known of a token that is a name or a kind
--   spelt_due, -long, -so     the token is no name, or a long one, or is judged further
--   name-twice, -good, -many             the other answers of name_why
--   place-good, -many, -other, -full     the other answers of place_why
--
use mathlib.Core.Path.{◌≡◌, refl, sym, ◌∙◌}
use mathlib.Core.Bool.{Bool, true, false, cond}
use mathlib.Core.List.{List}
use Prim.Native.Nat.{ℕ, suc, ◌+◌, ◌<◌, ◌≤◌, ◌-◌}
use native.Mathlib.Omega.{arith}
use lib.Dec.{ltb, leb}
use lib.ListN.{length, take, drop, length-map}
use lib.Seq.{length-take-le}
use borrow.Author.Tests.{lt-ltb, le-ltb, le-leb, lt-leb}
use Rattle.wire.specs.Vocabulary.{most_kinds}
use Rattle.wire.proofs.Cond.{cond_true, cond_false}
use Rattle.texts.specs.Lexemes.{Token, token_size, token_at}
use Rattle.texts.specs.Names.{most_name, is_identifier, index_in}
use Rattle.texts.specs.Lexicon.{most_places}
use Rattle.texts.specs.Faults.{long_name, kind_beyond, place_due, not_declared, many_places}
use Rattle.texts.specs.LexiconReading.{name_why, place_why}
use Rattle.texts.proofs.KindNames.{name-fits}
use Rattle.texts.proofs.LexiconsExact.{place-fits}
use Rattle.texts.specs.Tabled.{names_in}
use Rattle.texts.proofs.Scanning.{token-length}

pub chosen : {A : Type 0} {r t : Bool} (a b : A) → r ≡ t → r ≡ true → a ≡ cond t a b
chosen {A} {r} {t} a b e f = sym (cond_true t a b (sym e ∙ f))

pub passed : {A : Type 0} {r t : Bool} {c : A} (a b : A) → r ≡ t → r ≡ false → c ≡ b → c ≡ cond t a b
passed {A} {r} {t} a b e f g = g ∙ sym (cond_false t a b (sym e ∙ f))

pub names-length : (b table : List ℕ) (n : ℕ) → n ≤ length table → length (names_in b (take n table)) ≡ n
names-length b table n h = length-map (take n table) (token_at b) ∙ length-take-le n table h

-- ---- what is known of a token that may stand there

-- There is room for the name.
pub name-sound : (due twice many most : ℕ) (K : List Token) (u : Token) → name_why (suc due) (suc twice) (suc many) most K u ≡ 0 →
    length K < most
name-sound due twice many most K u e = (name-fits due twice many most K u e).room

pub place-sound : (K : List Token) (n : ℕ) (u : Token) → place_why K n u ≡ 0 → (index_in u K < length K) × (n < most_places)
place-sound K n u e = let f = place-fits K n u e in (f.declared, f.room)

-- ---- how it is spelt

module _ (b : List ℕ) (at x due : ℕ) where
  abbrev spelt : ℕ
  spelt = cond (is_identifier (token_at b at)) (cond (leb (length (token_at b at)) most_name) x long_name) due

  pub spelt_due : {r : Bool} → r ≡ is_identifier (token_at b at) → r ≡ false → due ≡ spelt
  spelt_due e f = passed _ due e f refl

  module _ {r : Bool} (e : r ≡ is_identifier (token_at b at)) (f : r ≡ true) {end : ℕ} (g : end ≡ at + token_size (drop at b)) where
    pub spelt_long : 32 < end - at → 3 ≡ spelt
    spelt_long h =
        let l = token-length b at in
        sym (cond_true (is_identifier (token_at b at)) _ due (sym e ∙ f) ∙ cond_false (leb (length (token_at b at)) most_name) x long_name (lt-leb (length (token_at b at)) most_name (omega arith)))

    pub spelt_so : end - at ≤ 32 → {why : ℕ} → why ≡ x → why ≡ spelt
    spelt_so h k =
        let l = token-length b at in
        k ∙ sym (cond_true (is_identifier (token_at b at)) _ due (sym e ∙ f) ∙ cond_true (leb (length (token_at b at)) most_name) x long_name (le-leb (length (token_at b at)) most_name (omega arith)))

-- ---- whether it stands in the table

module _ (b : List ℕ) (at : ℕ) (table : List ℕ) (n : ℕ) (inside : n ≤ length table) where
  abbrev u : Token
  u = token_at b at

  abbrev seen : List Token
  seen = names_in b (take n table)

  found : (x y : ℕ) {i : ℕ} → i ≡ index_in u seen → i < n → x ≡ cond (ltb (index_in u seen) (length seen)) x y
  found x y e h =
      let l = names-length b table n inside in
      sym (cond_true (ltb (index_in u seen) (length seen)) x y (lt-ltb (index_in u seen) (length seen) (omega arith)))

  missing : (x y : ℕ) {i : ℕ} → i ≡ index_in u seen → n ≤ i → y ≡ cond (ltb (index_in u seen) (length seen)) x y
  missing x y e h =
      let l = names-length b table n inside in
      sym (cond_false (ltb (index_in u seen) (length seen)) x y (le-ltb (index_in u seen) (length seen) (omega arith)))

  room : (x y most : ℕ) → n < most → x ≡ cond (ltb (length seen) most) x y
  room x y most h =
      let l = names-length b table n inside in
      sym (cond_true (ltb (length seen) most) x y (lt-ltb (length seen) most (omega arith)))

  full : (x y most : ℕ) → most ≤ n → y ≡ cond (ltb (length seen) most) x y
  full x y most h =
      let l = names-length b table n inside in
      sym (cond_false (ltb (length seen) most) x y (le-ltb (length seen) most (omega arith)))

  module _ {r : Bool} (e : r ≡ is_identifier u) (f : r ≡ true) {end : ℕ} (g : end ≡ at + token_size (drop at b)) (short : end - at ≤ 32) where
    module _ (due twice many most : ℕ) where
      abbrev new : ℕ
      new = cond (ltb (length seen) most) 0 many

      named_so : {why : ℕ} → why ≡ cond (ltb (index_in u seen) (length seen)) twice new → why ≡ name_why due twice many most seen u
      named_so k = spelt_so b at _ due e f g short k

      pub name-twice : {i : ℕ} → i ≡ index_in u seen → i < n → twice ≡ name_why due twice many most seen u
      name-twice k h = named_so (found twice new k h)

      module _ {i : ℕ} (k : i ≡ index_in u seen) (other : n ≤ i) where
        pub name-good : n < most → 0 ≡ name_why due twice many most seen u
        name-good h = named_so (room 0 many most h ∙ missing twice new k other)

        pub name-many : most ≤ n → many ≡ name_why due twice many most seen u
        name-many h = named_so (full 0 many most h ∙ missing twice new k other)

    module _ (places : ℕ) {i : ℕ} (k : i ≡ index_in u seen) where
      abbrev stored : ℕ
      stored = cond (ltb places most_places) 0 many_places

      abbrev lacked : ℕ
      lacked = cond (ltb (length seen) most_kinds) not_declared kind_beyond

      placed_so : {why : ℕ} → why ≡ cond (ltb (index_in u seen) (length seen)) stored lacked → why ≡ place_why seen places u
      placed_so h = spelt_so b at _ place_due e f g short h

      module _ (known : i < n) where
        pub place-good : places < 8 → 0 ≡ place_why seen places u
        place-good h = placed_so (sym (cond_true (ltb places most_places) 0 many_places (lt-ltb places most_places h)) ∙ found stored lacked k known)

        pub place-many : 8 ≤ places → 11 ≡ place_why seen places u
        place-many h = placed_so (sym (cond_false (ltb places most_places) 0 many_places (le-ltb places most_places h)) ∙ found stored lacked k known)

      module _ (other : n ≤ i) where
        pub place_other : n < 16 → 10 ≡ place_why seen places u
        place_other h = placed_so (room not_declared kind_beyond most_kinds h ∙ missing stored lacked k other)

        pub place-full : 16 ≤ n → 28 ≡ place_why seen places u
        place-full h = placed_so (full not_declared kind_beyond most_kinds h ∙ missing stored lacked k other)
