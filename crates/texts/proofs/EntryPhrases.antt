-- EntryPhrases: each leftover is a good pattern, whose variables are the first of the pattern's.
--
--   distinct-take           no token stands twice in the front of a list where none does in the whole
--   front-range             the front of 0, 1, .. is such a list
--   same-tokens             the tokens of a term, by the tokens of its own variables
--   entries_are_phrases     the law
--
use mathlib.Core.Path.{◌≡◌, refl, sym, ap, ap₂, subst, ◌∙◌}
use mathlib.Core.Bool.{Bool, true, false, cond}
use mathlib.Core.List.{List, [], ◌∷◌, ◌++◌}
use Prim.Native.Nat.{ℕ, zero, suc, ◌+◌, ◌<◌, ◌≤◌}
use native.Mathlib.Omega.{arith}
use lib.ListN.{length, take, length-append}
use lib.Seq.{length-take-le, get_or-take}
use Rattle.terms.specs.Lists.{All, range}
use Rattle.terms.specs.Term.{Term, any, var, app, Terms, nil, cons, names, names_all}
use Rattle.terms.proofs.All.{all_implies, all_left, all_right, all_take, all-range}
use Rattle.terms.proofs.Count.{length-range}
use Rattle.texts.specs.Lexemes.{Token}
use Rattle.texts.specs.Names.{mark, opening, colon, comma, same, index_in, name_at, Distinct, IsVariable}
use Rattle.texts.specs.Lexicon.{Lexicon, kind_names, word_names}
use Rattle.texts.specs.Phrases.{Phrase, bracketed, term_tokens, places_tokens, phrase_tokens, GoodPhrase}
use Rattle.texts.specs.Laws.{EntriesArePhrases}
use Rattle.texts.proofs.Standing.{Counts, counts_split, counts-range, range-counts}
use Rattle.texts.proofs.Entries.{Front, Entry, entries-known}

-- ---- fronts

index-take : (n : ℕ) (t : Token) (l : List Token) → index_in t l ≡ length l → index_in t (take n l) ≡ length (take n l)
index-take zero t l h = refl
index-take (suc n) t [] h = refl
index-take (suc n) t (u ∷ l) h = go (same t u) h (index-take n t l)
  where
    go : (b : Bool) → cond b zero (suc (index_in t l)) ≡ suc (length l) →
        (index_in t l ≡ length l → index_in t (take n l) ≡ length (take n l)) →
        cond b zero (suc (index_in t (take n l))) ≡ suc (length (take n l))
    go true e ih = absurd (omega arith)
    go false e ih = ap suc (ih (omega arith))

distinct-take : (n : ℕ) (l : List Token) → Distinct l → Distinct (take n l)
distinct-take zero l h = tt
distinct-take (suc n) [] h = tt
distinct-take (suc n) (t ∷ l) h = (index-take n t l h.0, distinct-take n l h.1)

front-range : (a : List ℕ) (k : ℕ) → Front a (range 0 k) → (a ≡ range 0 (length a)) × (length a ≤ k)
front-range a k (r, e) = (
  counts-range 0 a (counts_split 0 a r (subst (Counts 0) (sym e) (range-counts 0 k))).0,
  omega (arith, ap length e, length-append a r, length-range 0 k),
)

-- ---- tokens

module _ (N vs ws : List Token) where
  abbrev Alike : ℕ → Type 0
  Alike n = name_at vs n ≡ name_at ws n

  same_brackets : (ts : Terms) (us xs : List Token) → us ≡ xs → bracketed ts us ≡ bracketed ts xs
  same_brackets nil us xs e = refl
  same_brackets (cons t ts) us xs e = e

  mutual
    same-tokens : (t : Term) → All Alike (names t) → term_tokens N vs t ≡ term_tokens N ws t
    same-tokens any h = refl
    same-tokens (var n) h = ap {B = List Token} (λ u. u ∷ []) h.0
    same-tokens (app f ts) h =
        ap {B = List Token} (λ us. name_at N f ∷ us) (same_brackets ts _ _ (same-places opening ts h))

    same-places : (c : ℕ) (ts : Terms) → All Alike (names_all ts) → places_tokens N vs c ts ≡ places_tokens N ws c ts
    same-places c nil h = refl
    same-places c (cons t ts) h =
        ap₂ {C = List Token} (λ us xs. mark c ∷ (us ++ xs)) (same-tokens t (all_left Alike (names t) (names_all ts) h))
        (same-places comma ts (all_right Alike (names t) (names_all ts) h))

same-phrase : (X : Lexicon) (vs ws : List Token) (s : ℕ) (t : Term) → All (Alike (word_names X) vs ws) (names t) →
    phrase_tokens X vs s t ≡ phrase_tokens X ws s t
same-phrase X vs ws s any h = refl
same-phrase X vs ws s (var n) h = ap {B = List Token} (λ u. u ∷ mark colon ∷ name_at (kind_names X) s ∷ []) h.0
same-phrase X vs ws s (app f ts) h = same-tokens (word_names X) vs ws (app f ts) h

-- ---- entries

abbrev Good : Lexicon → Phrase → Term → Type 0
Good X p e =
    (n : ℕ) × GoodPhrase X (take n p.variables) p.kind e
    × (phrase_tokens X p.variables p.kind e ≡ phrase_tokens X (take n p.variables) p.kind e)

module _ (X : Lexicon) (p : Phrase) (phrase : GoodPhrase X p.variables p.kind p.term) where
  entry-phrase : (e : Term) → Entry X p.kind p.term e → Good X p e
  entry-phrase e h =
      let vs = p.variables in
      let n = length (names e) in
      let first = front-range (names e) (length vs) (subst (Front (names e)) phrase.numbered h.front) in
      let numbered = first.0 in
      let size : length (take n vs) ≡ n = length-take-le n vs first.1 in
      let few = phrase.few in (
        n,
        record {
          term = h.term;
          numbered = numbered ∙ ap (range 0) (sym size);
          variables = all_take IsVariable n vs phrase.variables;
          different = distinct-take n vs phrase.different;
          few = omega (arith, first.1);
        },
        same-phrase X vs (take n vs) p.kind e
            (subst (All (λ k. name_at vs k ≡ name_at (take n vs) k)) (sym numbered)
            (all_implies (λ k. k < 0 + n) (λ k. name_at vs k ≡ name_at (take n vs) k) (λ k low. sym (get_or-take n vs k [] (omega arith))) (range 0 n)
            (all-range 0 n))),
      )

pub entries_are_phrases : EntriesArePhrases
entries_are_phrases X p l good whole listing =
    all_implies (Entry X p.kind p.term) (Good X p) (entry-phrase X p whole.phrase) l
    (entries-known X p.variables p.kind p.term whole.phrase l listing)
