-- Gathering: the names of kinds that are gathered from a text.
--
--   names_more                 they begin with those that are gathered already
--   names-few                  they are no more than may be
--   names-keep                 what holds of these, and of each name more, holds of all
--   KindsFine K, names-fine    K may be the names of kinds; those that are gathered may
--   names-read                 names of which each may follow those before it are all gathered
--   none_more                  where no `kind` follows, nothing more is gathered
--   Left K n us                n kinds have begun, and the tokens us follow, which name the others of K
--   Naming K n us              the same behind a `kind`
--   naming p                   in the phase p the name of a kind is due
--   Coming K b n us            one of the two, by that
--   left-start, left_skip, left-kind     where nothing is read yet; a token that is no `kind`; a `kind`
--   left-named, named-drop     a name of a kind
--   gathered_so                which names they are
--   kinds_are_gathered         the law
--
use mathlib.Core.Path.{◌≡◌, refl, sym, ◌∙◌, ap, subst}
use mathlib.Core.Bool.{Bool, true, false, ◌&&◌, cond}
use mathlib.Core.List.{List, [], ◌∷◌, ◌++◌, append-nil, append_assoc}
use mathlib.Core.Logic.{inl}
use Prim.Native.Nat.{ℕ, zero, suc, ◌-◌, ◌<◌, ◌≤◌}
use native.Mathlib.Omega.{arith}
use lib.Dec.{ltb, leb}
use lib.ListN.{length, take, drop, length-append}
use lib.Seq.{length-take-le, take-nil, take_at, drop_at}
use borrow.Author.Tests.{ltb-true, ltb-false}
use Rattle.terms.specs.Lists.{All, keep}
use Rattle.terms.proofs.All.{all_append}
use Rattle.wire.specs.Vocabulary.{most_kinds}
use Rattle.wire.proofs.Cond.{choice, cond_true, cond_false}
use Rattle.texts.specs.Lexemes.{Token}
use Rattle.texts.specs.Names.{same, kind_word, most_name, is_identifier, IsIdentifier, index_in, Distinct}
use Rattle.texts.specs.Faults.{long_name, kind_name_due, kind_twice, many_kinds}
use Rattle.texts.specs.LexiconReading.{kind_name_why, with_name, names_from, Phase, at_start, at_kind, behind_kind, at_word, behind_word, at_place, behind_place, behind_places}
use Rattle.texts.specs.Laws.{names_behind, may_be_named, first_ones, KindsAreGathered}
use Rattle.texts.proofs.Lookups.{identifier-no_kind, distinct_more, distinct-front}
use Rattle.texts.proofs.KindNames.{NameFits, fits-name, name-fits, Tokened, identifier, first, Quiet}

-- The names `seen`, with u or without it.
with_name_lem : (P : List Token → Type 0) (seen : List Token) (u : Token) → P seen → (NameFits most_kinds seen u → P (seen ++ (u ∷ []))) →
    P (with_name seen u (kind_name_why seen u))
with_name_lem P seen u without with = go (kind_name_why seen u) refl
  where
    go : (why : ℕ) → kind_name_why seen u ≡ why → P (with_name seen u why)
    go zero e = with (name-fits 1 3 4 most_kinds seen u e)
    go (suc why) e = without

-- The names `seen` behind one token.
abbrev behind_one : List Token → Token → List Token → List Token
behind_one seen u us = cond (same u kind_word) (with_name seen (first us) (kind_name_why seen (first us))) seen

one_more : (P : List Token → Type 0) (seen : List Token) (u : Token) (us : List Token) → P seen →
    (NameFits most_kinds seen (first us) → P (seen ++ (first us ∷ []))) → P (behind_one seen u us)
one_more P seen u us p more = choice P (same u kind_word) _ seen (λ h. with_name_lem P seen (first us) p more) (λ h. p)

pub names_more : (us seen : List Token) → (more : List Token) × (names_from seen us ≡ seen ++ more)
names_more [] seen = ([], sym (append-nil seen))
names_more (u ∷ us) seen =
    one_more (λ s. (more : List Token) × (names_from s us ≡ seen ++ more)) seen u us (names_more us seen)
    (λ f.
    let h = names_more us (seen ++ (first us ∷ [])) in
    (first us ∷ h.0, h.1 ∙ append_assoc seen (first us ∷ []) h.0))

pub names-few : (us seen : List Token) → length seen ≤ most_kinds → length (names_from seen us) ≤ most_kinds
names-few [] seen h = h
names-few (u ∷ us) seen h =
    names-few us (behind_one seen u us)
    (one_more (λ s. length s ≤ most_kinds) seen u us h (λ f. omega (arith, f.room, length-append seen (first us ∷ []))))

first_of : (us : List Token) → All Tokened us → Tokened (first us)
first_of [] a = inl refl
first_of (u ∷ us) a = a.0

names-keep : (P : List Token → Type 0) →
    ((seen : List Token) (u : Token) → Tokened u → NameFits most_kinds seen u → P seen → P (seen ++ (u ∷ []))) → (us seen : List Token) →
    All Tokened us → P seen → P (names_from seen us)
names-keep P one [] seen a p = p
names-keep P one (u ∷ us) seen a p =
    names-keep P one us (behind_one seen u us) a.1 (one_more P seen u us p (λ f. one seen (first us) (first_of us a.1) f p))

-- What may be the names of kinds.
pub record KindsFine (K : List Token) : Type 0 where
  pub identifiers : All IsIdentifier K
  pub different : Distinct K
  pub few : length K ≤ most_kinds

-- The names are names, and none stands twice.
abbrev Apart : List Token → Type 0
Apart K = All IsIdentifier K × Distinct K

pub names-fine : (us : List Token) → All Tokened us → KindsFine (names_from [] us)
names-fine us a =
    let h : Apart (names_from [] us) =
    names-keep Apart
    (λ seen u t f p. (
      all_append IsIdentifier seen (u ∷ []) p.0 (identifier u t f.identifier f.short, tt),
      distinct_more u seen p.1 f.new,
    ))
    us [] a (tt, tt) in
    record { identifiers = h.0; different = h.1; few = names-few us [] (omega arith) }

pub names-read : (us seen : List Token) → All IsIdentifier (names_behind us) → Distinct (seen ++ names_behind us) →
    length (seen ++ names_behind us) ≤ most_kinds → names_from seen us ≡ seen ++ names_behind us
names-read [] seen a d f = sym (append-nil seen)
names-read (u ∷ us) seen a d f = go (same u kind_word) (names-read us) a d f
  where
    behind : List Token
    behind = names_behind us

    Rest : Type 0
    Rest =
        (s : List Token) → All IsIdentifier behind → Distinct (s ++ behind) → length (s ++ behind) ≤ most_kinds → names_from s us ≡ s ++ behind

    go : (b : Bool) → Rest → All IsIdentifier (cond b (first us ∷ behind) behind) → Distinct (seen ++ cond b (first us ∷ behind) behind) →
        length (seen ++ cond b (first us ∷ behind) behind) ≤ most_kinds →
        names_from (cond b (with_name seen (first us) (kind_name_why seen (first us))) seen) us ≡ seen ++ cond b (first us ∷ behind) behind
    go false more a d f = more seen a d f
    go true more a d f =
        let fits : NameFits most_kinds seen (first us) = record {
          identifier = a.0.identifier;
          short = a.0.short;
          new = distinct-front (first us) seen behind d;
          room = omega (arith, length-append seen (first us ∷ behind));
        } in
        let joined : (seen ++ (first us ∷ [])) ++ behind ≡ seen ++ (first us ∷ behind) = append_assoc seen (first us ∷ []) behind in
        ap (λ w. names_from (with_name seen (first us) w) us)
        (fits-name kind_name_due kind_twice many_kinds most_kinds seen (first us) fits) ∙
        more (seen ++ (first us ∷ [])) a.1 (subst Distinct (sym joined) d)
        (subst (λ (n : List Token). length n ≤ most_kinds) (sym joined) f) ∙
        joined

pub none_more : (us seen : List Token) → Quiet us → names_from seen us ≡ seen
none_more [] seen q = refl
none_more (u ∷ us) seen q = ap (λ (s : List Token). names_from s us) (cond_false (same u kind_word) _ seen q.0) ∙ none_more us seen q.1

-- ---- how far the declarations have come

abbrev pub naming : Phase → Bool
naming at_start = false
naming at_kind = true
naming behind_kind = false
naming at_word = false
naming behind_word = false
naming at_place = false
naming behind_place = false
naming behind_places = false

module _ (K : List Token) where
  pub record Left (n : ℕ) (us : List Token) : Type 0 where
    pub few : n ≤ length K
    pub rest : names_from (take n K) us ≡ K

  pub record Naming (n : ℕ) (us : List Token) : Type 0 where
    pub few : n ≤ length K
    pub rest : names_from (with_name (take n K) (first us) (kind_name_why (take n K) (first us))) us ≡ K

  abbrev pub Coming : Bool → ℕ → List Token → Type 0
  Coming true n us = Naming n us
  Coming false n us = Left n us

  pub left_skip : (n : ℕ) (u : Token) (us : List Token) → same u kind_word ≡ false → Left n (u ∷ us) → Left n us
  left_skip n u us h t = record {
    few = t.few;
    rest = ap (λ (s : List Token). names_from s us) (sym (cond_false (same u kind_word) _ (take n K) h)) ∙ t.rest;
  }

  pub left-kind : (n : ℕ) (u : Token) (us : List Token) → same u kind_word ≡ true → Left n (u ∷ us) → Naming n us
  left-kind n u us h t = record {
    few = t.few;
    rest = ap (λ (s : List Token). names_from s us) (sym (cond_true (same u kind_word) _ (take n K) h)) ∙ t.rest;
  }

  module _ (n : ℕ) (u : Token) (us : List Token) (h : kind_name_why (take n K) u ≡ 0) (t : Naming n (u ∷ us)) where
    fits : NameFits most_kinds (take n K) u
    fits = name-fits 1 3 4 most_kinds (take n K) u h

    gathered : names_from (take n K ++ (u ∷ [])) us ≡ K
    gathered =
        ap (λ (s : List Token). names_from s us)
        (sym (cond_false (same u kind_word) _ (take n K ++ (u ∷ [])) (identifier-no_kind u fits.identifier))) ∙
        ap (λ w. names_from (with_name (take n K) u w) (u ∷ us)) (sym h) ∙ t.rest

    whole : (more : List Token) × (K ≡ (take n K ++ (u ∷ [])) ++ more)
    whole = let m = names_more us (take n K ++ (u ∷ [])) in (m.0, sym gathered ∙ m.1)

    size : length (take n K ++ (u ∷ [])) ≡ suc n
    size = omega (arith, length-append (take n K) (u ∷ []), length-take-le n K t.few)

    pub named-take : take (suc n) K ≡ take n K ++ (u ∷ [])
    named-take = ap (take (suc n)) whole.1 ∙ take_at (take n K ++ (u ∷ [])) whole.0 (suc n) size

    pub named-drop : drop n K ≡ u ∷ drop (suc n) K
    named-drop =
        ap (drop n) (whole.1 ∙ append_assoc (take n K) (u ∷ []) whole.0) ∙
        drop_at (take n K) (u ∷ whole.0) n (length-take-le n K t.few) ∙
        ap (λ (l : List Token). u ∷ l) (sym (ap (drop (suc n)) whole.1 ∙ drop_at (take n K ++ (u ∷ [])) whole.0 (suc n) size))

    pub left-named : Left (suc n) us
    left-named = record {
      few = omega (arith, ap length whole.1, length-append (take n K ++ (u ∷ [])) whole.0, size);
      rest = ap (λ (s : List Token). names_from s us) named-take ∙ gathered;
    }

-- ---- which names they are

-- How many there is room for behind those that are seen.
abbrev room : List Token → ℕ
room seen = most_kinds - length seen

taken : (n : ℕ) (u : Token) (l : List Token) (m : ℕ) → m ≡ suc n → take m (u ∷ l) ≡ u ∷ take n l
taken n u l m e = ap (λ i. take i (u ∷ l)) e

none_taken : (n : ℕ) (l : List Token) → n ≡ 0 → take n l ≡ []
none_taken n l e = ap (λ i. take i l) e

gathered_so : (us seen : List Token) → length seen ≤ most_kinds →
    names_from seen us ≡ seen ++ take (room seen) (first_ones seen (keep may_be_named (names_behind us)))
gathered_so [] seen h = sym (append-nil seen) ∙ ap (λ (l : List Token). seen ++ l) (sym (take-nil (room seen)))
gathered_so (v ∷ us) seen h = by_kind (same v kind_word) (gathered_so us)
  where
    behind : List Token
    behind = names_behind us

    u : Token
    u = first us

    Rest : Type 0
    Rest = (s : List Token) → length s ≤ most_kinds → names_from s us ≡ s ++ take (room s) (first_ones s (keep may_be_named behind))

    Goal : ℕ → Bool → Type 0
    Goal why named =
        names_from (with_name seen u why) us ≡
        seen ++ take (room seen) (first_ones seen (cond named (u ∷ keep may_be_named behind) (keep may_be_named behind)))

    by_name : Rest → (a b c d : Bool) → ltb (index_in u seen) (length seen) ≡ c → ltb (length seen) most_kinds ≡ d →
        Goal (cond a (cond b (cond c kind_twice (cond d 0 many_kinds)) long_name) kind_name_due) (a && b)
    by_name more false b c d r q = more seen h
    by_name more true false c d r q = more seen h
    by_name more true true true d r q =
        more seen h ∙
        ap (λ (l : List Token). seen ++ take (room seen) l) (sym (cond_true (ltb (index_in u seen) (length seen)) _ _ r))
    by_name more true true false true r q =
        let low : length seen < most_kinds = ltb-true (length seen) most_kinds q in
        let next : room seen ≡ suc (room (seen ++ (u ∷ []))) = omega (arith, length-append seen (u ∷ [])) in
        more (seen ++ (u ∷ [])) (omega (arith, length-append seen (u ∷ []))) ∙
        append_assoc seen (u ∷ []) (take (room (seen ++ (u ∷ []))) (first_ones (seen ++ (u ∷ [])) (keep may_be_named behind))) ∙
        ap (λ (l : List Token). seen ++ l)
        (sym (taken (room (seen ++ (u ∷ []))) u (first_ones (seen ++ (u ∷ [])) (keep may_be_named behind)) (room seen) next) ∙
        ap (take (room seen)) (sym (cond_false (ltb (index_in u seen) (length seen)) _ _ r)))
    by_name more true true false false r q =
        let full : room seen ≡ 0 = omega (arith, ltb-false (length seen) most_kinds q) in
        more seen h ∙ ap (λ (l : List Token). seen ++ l) (none_taken (room seen) _ full ∙ sym (none_taken (room seen) _ full))

    by_kind : (b : Bool) → Rest →
        names_from (cond b (with_name seen u (kind_name_why seen u)) seen) us ≡
        seen ++ take (room seen) (first_ones seen (keep may_be_named (cond b (u ∷ behind) behind)))
    by_kind false more = more seen h
    by_kind true more =
        by_name more (is_identifier u) (leb (length u) most_name) (ltb (index_in u seen) (length seen)) (ltb (length seen) most_kinds) refl refl

pub kinds_are_gathered : KindsAreGathered
kinds_are_gathered us = gathered_so us [] (omega arith)
