-- Names: the names of the kinds, one `kind` after the other.
--
--   NamesTo b kinds k at       the first k names are gathered off the text before the offset at
--   names_suc                  one name more in a table
--   names_none, -passed, -more, -other, -all     nothing is read; a token is passed, names one more kind, or none; the text ends
--
use mathlib.Core.Path.{◌≡◌, refl, sym, ap, ◌∙◌}
use mathlib.Core.Bool.{Bool, true, false, cond}
use mathlib.Core.List.{List, [], ◌∷◌, ◌++◌, map, map-append}
use Prim.Native.Nat.{ℕ, zero, suc, ◌+◌, ◌<◌, ◌≤◌}
use native.Mathlib.Numerals.{add-one}
use native.Mathlib.Omega.{arith}
use lib.Dec.{ltb}
use lib.ListN.{length, take, drop, set, length-set}
use lib.Seq.{take-suc-set}
use borrow.Author.Tests.{ltb-true, ltb-false}
use Rattle.wire.specs.Vocabulary.{most_kinds}
use Rattle.wire.proofs.Cond.{cond_true, cond_false}
use Rattle.texts.specs.Lexemes.{Token, token_size, tokens, lexemes_from, token_at}
use Rattle.texts.specs.Names.{same, kind_word, name_at}
use Rattle.texts.specs.LexiconReading.{with_name, names_from, kind_name_why}
use Rattle.texts.specs.Tabled.{names_in}
use Rattle.texts.specs.Laws.{tokens_of}
use Rattle.texts.proofs.Scanning.{lexemes-end, lexemes-whole}
use Rattle.lexicon.specs.Answers.{KindsKnown}
use Rattle.texts.proofs.Fronts.{start, behind_front, front, behind-inside, behind-end, some_inside, end-inside}
use Rattle.lexicon.proofs.Whys.{names-length, name-sound}

pub record NamesTo (b kinds : List ℕ) (k at : ℕ) : Type 0 where
  pub within : at ≤ length b
  pub few : k ≤ most_kinds
  pub size : length kinds ≡ most_kinds
  pub same : names_from (names_in b (take k kinds)) (tokens_of (lexemes_from b at)) ≡ names_from [] (tokens b)

pub names_none : (b kinds : List ℕ) → length kinds ≡ most_kinds → NamesTo b kinds 0 0
names_none b kinds h = record {
  within = omega arith;
  few = omega arith;
  size = h;
  same = ap (λ l. names_from [] (tokens_of l)) (lexemes-whole b);
}

-- One name more in a table.
pub names_suc : (b table : List ℕ) (n s : ℕ) → n < length table →
    names_in b (take (n + 1) (set table n s)) ≡ names_in b (take n table) ++ (token_at b s ∷ [])
names_suc b table n s h =
    ap (λ i. names_in b (take i (set table n s))) (add-one n)
    ∙ ap (map (token_at b)) (take-suc-set table n s h)
    ∙ map-append (token_at b) (take n table) (s ∷ [])

-- Behind the last token no name comes.
end_gathered : (b : List ℕ) (seen : List Token) (at : ℕ) → length b ≤ at → names_from seen (tokens_of (lexemes_from b at)) ≡ seen
end_gathered b seen at h =
    let outside : length b ≤ start b at = omega arith in
    ap (λ l. names_from seen (tokens_of l)) (lexemes-end b at outside)

module _ {b kinds : List ℕ} {k at : ℕ} (t : NamesTo b kinds k at) where
  abbrev seen : List Token
  seen = names_in b (take k kinds)

  module _ {s e : ℕ} (from : s ≡ start b at) (end : e ≡ s + token_size (drop s b)) where
    abbrev behind : List Token
    behind = tokens_of (behind_front b s)

    from_end : (names : List Token) (inside : Bool) → ltb s (length b) ≡ inside → names_from names behind ≡ names_from names (tokens_of (lexemes_from b e))
    from_end names true h = ap (λ l. names_from names (tokens_of l)) (behind-inside b end (ltb-true s (length b) h))
    from_end names false h =
        let outside = ltb-false s (length b) h in
        ap (λ l. names_from names (tokens_of l)) (behind-end b outside) ∙ sym (end_gathered b names e (omega arith))

    -- The names behind a token are those before it and what it adds.
    gathers : {names : List Token} → cond (same (token_at b s) kind_word) (with_name seen (name_at behind 0) (kind_name_why seen (name_at behind 0))) seen ≡ names →
        names_from names (tokens_of (lexemes_from b e)) ≡ names_from [] (tokens b)
    gathers {names} h =
        sym (ap (λ l. names_from seen (tokens_of l)) (front b at from) ∙ ap (λ m. names_from m behind) h ∙ from_end names (ltb s (length b)) refl)
        ∙ t.same

    pub names-passed : {r : Bool} → r ≡ same (token_at b s) kind_word → r ≡ false → NamesTo b kinds k e
    names-passed g h = record {
      within = end-inside b at t.within from end;
      few = t.few;
      size = t.size;
      same = gathers (cond_false (same (token_at b s) kind_word) _ seen (sym g ∙ h));
    }

    module _ {r : Bool} (g : r ≡ same (token_at b s) kind_word) (h : r ≡ true) {p why : ℕ} (next : p ≡ start b e) (good : why ≡ kind_name_why seen (token_at b p)) where
      name-here : name_at behind 0 ≡ token_at b p
      name-here =
          let inside = some_inside b (λ u. same u kind_word) refl s (sym g ∙ h) in
          ap (λ l. name_at (tokens_of l) 0) (behind-inside b end inside ∙ front b e next)

      adds : cond (same (token_at b s) kind_word) (with_name seen (name_at behind 0) (kind_name_why seen (name_at behind 0))) seen ≡ with_name seen (token_at b p) why
      adds =
          cond_true (same (token_at b s) kind_word) _ seen (sym g ∙ h)
          ∙ ap (λ u. with_name seen u (kind_name_why seen u)) name-here
          ∙ ap (with_name seen (token_at b p)) (sym good)

      pub names-room : why ≡ 0 → k < most_kinds
      names-room z =
          omega (arith, name-sound 1 3 4 most_kinds seen (token_at b p) (sym good ∙ z), names-length b kinds k (omega (arith, t.few, t.size)))

      pub names_more : why ≡ 0 → NamesTo b (set kinds k p) (k + 1) e
      names_more z =
          let low = names-room z in
          let size = t.size in
          record {
            within = end-inside b at t.within from end;
            few = omega arith;
            size = length-set kinds k p ∙ size;
            same = gathers (adds ∙ ap (with_name seen (token_at b p)) z ∙ sym (names_suc b kinds k p (omega arith)));
          }

      pub names-other : (why ≡ 0 → ⊥) → NamesTo b kinds k e
      names-other z = record {
        within = end-inside b at t.within from end;
        few = t.few;
        size = t.size;
        same = gathers (adds ∙ wrong why z);
      }
        where
          wrong : (w : ℕ) → (w ≡ 0 → ⊥) → with_name seen (token_at b p) w ≡ seen
          wrong zero n = absurd (n refl)
          wrong (suc w) n = refl

  pub names-all : length b ≤ at → KindsKnown b kinds k
  names-all h = record { size = t.size; few = t.few; same = sym t.same ∙ end_gathered b seen at h }
