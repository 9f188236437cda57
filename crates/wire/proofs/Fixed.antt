-- Fixed: a promise fixes the reply and what stands in the lent slices, with no word of how they are computed.
use mathlib.Core.Path.{◌≡◌, refl, sym, ap, ◌∙◌, subst}
use mathlib.Core.List.{List, [], ◌++◌, cons-ne-nil}
use mathlib.Core.Logic.{◌⊎◌, inl, inr}
use Prim.Native.Nat.{ℕ, zero, suc, ◌+◌, ◌*◌, ◌<◌}
use native.Mathlib.Omega.{arith}
use lib.ListN.{length, take, drop, take-append-drop, get_or}
use lib.Seq.{ext_get_or}
use Rattle.terms.specs.Term.{Ground, gapp, as_term}
use Rattle.terms.specs.Filling.{value_of}
use Rattle.wire.specs.Reply.{Reply, accepted, refused}
use Rattle.wire.specs.Vocabulary.{Vocabulary}
use Rattle.wire.specs.TermBytes.{name_count, encode_at}
use Rattle.wire.specs.Matching.{table_length, Span, no_span, span_in, cut_out, yes, MatchPromise, PartPromise}
use Rattle.wire.specs.BookBytes.{patterns_bytes}
use Rattle.wire.specs.Leftovers.{ListPromise}
use Rattle.wire.specs.Filled.{filled_bytes, FillPromise}
use Rattle.wire.specs.BookLeftovers.{BookPromise}
use Rattle.wire.specs.Laws.{VocabularyFixed, TermFixed, MatchFixed, PartFixed, ListFixed, FillFixed, BookFixed, PrintFixed}
use Rattle.wire.proofs.Matching.{not_accepted, no_not_yes}
use Rattle.wire.proofs.Leftovers.{the_listing}

-- ---- the checks

pub vocabulary-fixed : VocabularyFixed
vocabulary-fixed v (accepted values) r' m m' = sym ((m'.accepts values).1 ((m.accepts values).0 refl))
vocabulary-fixed v (refused n i q) r' m m' = sym ((m'.refuses n i q).1 ((m.refuses n i q).0 refl))

pub term-fixed : TermFixed
term-fixed v b (accepted values) r' m m' = sym ((m'.accepts values).1 ((m.accepts values).0 refl))
term-fixed v b (refused n i q) r' m m' = sym ((m'.refuses n i q).1 ((m.refuses n i q).0 refl))

-- ---- match

halves : (i : ℕ) → (n : ℕ) × ((i ≡ 2 * n) ⊎ (i ≡ 2 * n + 1))
halves zero = (0, inl refl)
halves (suc i) = let (n, h) = halves i in elim h [ inl e ↦ (n, inr (omega arith)) | inr e ↦ (suc n, inl (omega arith)) ]

-- Two tables that give each name the same span are the same.
table_same : (t u : List ℕ) → length t ≡ table_length → length u ≡ table_length →
    ((n : ℕ) → n < name_count → span_in t n ≡ span_in u n) → t ≡ u
table_same t u long long' h = ext_get_or 0 t u (long ∙ sym long') (λ i b. go i b (halves i))
  where
    go : (i : ℕ) → i < length t → (n : ℕ) × ((i ≡ 2 * n) ⊎ (i ≡ 2 * n + 1)) → get_or t i 0 ≡ get_or u i 0
    go i b (n, inl e) = ap (λ k. get_or t k 0) e ∙ ap (λ (x : Span). x.offset) (h n (omega arith)) ∙ sym (ap (λ k. get_or u k 0) e)
    go i b (n, inr e) = ap (λ k. get_or t k 0) e ∙ ap (λ (x : Span). x.bytes) (h n (omega arith)) ∙ sym (ap (λ k. get_or u k 0) e)

module _ (v p s before after after' : List ℕ) where
  match_reply : (r r' : Reply) → MatchPromise v p s before after r → MatchPromise v p s before after' r' → r ≡ r'
  match_reply (refused n i q) r' m m' = sym ((m'.refuses n i q).1 ((m.refuses n i q).0 refl))
  match_reply (accepted values) r' m m' = elim (m.only values refl) [
    | inl e ↦
        let (x, h, l) = m.answered.0 (inl e) in
        e ∙ sym ((m'.fits x h l).1 ((m.fits x h l).0 e))
    | inr e ↦
        let (x, h, l) = m.answered.0 (inr e) in
        elim (m'.answered.1 (x, h, l)) [
          | inr e' ↦ e ∙ sym e'
          | inl e' ↦ absurd (no_not_yes (sym e ∙ (m.fits x h l).1 ((m'.fits x h l).0 e')))
        ]
  ]

  match_yes : (r : Reply) → MatchPromise v p s before after r → MatchPromise v p s before after' r → r ≡ yes → after ≡ after'
  match_yes r m m' e =
      let (x, h, l) = m.answered.0 (inl e) in
      let (f, turns) = (m.fits x h l).0 e in
      let u = m.parts x h e f turns in
      let u' = m'.parts x h e f turns in
      table_same after after' u.long u'.long (λ n k. u.first n k ∙ sym (u'.first n k))

  match_table : (r : Reply) → MatchPromise v p s before after r → MatchPromise v p s before after' r → after ≡ after'
  match_table (refused n i q) m m' = m.kept (not_accepted n i q _) ∙ sym (m'.kept (not_accepted n i q _))
  match_table (accepted values) m m' = elim (m.only values refl) [
    | inl e ↦ match_yes (accepted values) m m' e
    | inr e ↦ m.kept (λ y. no_not_yes (sym e ∙ y)) ∙ sym (m'.kept (λ y. no_not_yes (sym e ∙ y)))
  ]

pub match_fixed : MatchFixed
match_fixed v p s before after after' r r' m m' =
    let same = match_reply v p s before after after' r r' m m' in
    (same, match_table v p s before after after' r m (subst (MatchPromise v p s before after') (sym same) m'))

-- ---- part

not_nil : (W : Vocabulary) (g : Ground) → encode_at W (as_term g) ≡ [] → ⊥
not_nil W (gapp f gs) e = cons-ne-nil f _ e

-- Where the answer is empty, no inputs are covered.
part-empty : (v p s : List ℕ) (n : ℕ) (at : Span) → PartPromise v p s n at [] → at ≡ no_span
part-empty v p s n at m =
    m.empty
    (inl (λ x h o (f, turns). not_nil x.vocabulary (value_of f.named n) (sym (m.value x h o f turns))))

part-place : (v p s : List ℕ) (n : ℕ) (at at' : Span) (r r' : List ℕ) → PartPromise v p s n at r → PartPromise v p s n at' r' → at ≡ at'
part-place v p s n at at' r r' m m' = elim m.empty_or_covered [
  | inr (k, (x, h, o, f)) ↦ m.covered x h o f ∙ sym (m'.covered x h o f)
  | inl e ↦ elim m'.empty_or_covered [
    | inr (k, (x, h, o, f)) ↦ m.covered x h o f ∙ sym (m'.covered x h o f)
    | inl e' ↦
        part-empty v p s n at (subst (PartPromise v p s n at) e m)
        ∙ sym (part-empty v p s n at' (subst (PartPromise v p s n at') e' m'))
  ]
]

pub part-fixed : PartFixed
part-fixed v p s n at at' r r' m m' =
    let place = part-place v p s n at at' r r' m m' in
    (place, m.cut ∙ ap (cut_out s) place ∙ sym m'.cut)

-- ---- list

module _ (v p before after after' : List ℕ) where
  list-reply : (r r' : Reply) → ListPromise v p before after r → ListPromise v p before after' r' → r ≡ r'
  list-reply (accepted values) r' m m' = sym ((m'.answered values).1 ((m.answered values).0 refl))
  list-reply (refused n i q) r' m m' = sym ((m'.refuses n i q).1 ((m.refuses n i q).0 refl))

  list_slice : (r : Reply) → ListPromise v p before after r → ListPromise v p before after' r → after ≡ after'
  list_slice (refused n i q) m m' = m.kept n i q refl ∙ sym (m'.kept n i q refl)
  list_slice (accepted values) m m' =
      let (W, s, t, l, h, is_listing, room, e) = (m.answered values).0 refl in
      let n : ℕ = length l in
      let k : ℕ = length (patterns_bytes W s l) in
      let u = m.entries n k (ap accepted e) W s t h in
      let u' = m'.entries n k (ap accepted e) W s t h in
      let front : take k after ≡ take k after' =
      u.written ∙ ap (patterns_bytes W s) ((the_listing v p W s t h u.entries).0 u.order ∙ sym ((the_listing v p W s t h u'.entries).0 u'.order)) ∙ sym u'.written in
      let rest : drop k after ≡ drop k after' = m.behind_last n k (ap accepted e) ∙ sym (m'.behind_last n k (ap accepted e)) in
      sym (take-append-drop k after) ∙ ap (λ x. x ++ drop k after) front ∙ ap (λ x. take k after' ++ x) rest ∙ take-append-drop k after'

pub list-fixed : ListFixed
list-fixed v p before after after' r r' m m' =
    let same = list-reply v p before after after' r r' m m' in
    (same, list_slice v p before after after' r m (subst (ListPromise v p before after') (sym same) m'))

-- ---- fill

module _ (v p b before after after' : List ℕ) where
  fill-reply : (r r' : Reply) → FillPromise v p b before after r → FillPromise v p b before after' r' → r ≡ r'
  fill-reply (accepted values) r' m m' = sym ((m'.answered values).1 ((m.answered values).0 refl))
  fill-reply (refused n i q) r' m m' = sym ((m'.refuses n i q).1 ((m.refuses n i q).0 refl))

  fill_slice : (r : Reply) → FillPromise v p b before after r → FillPromise v p b before after' r → after ≡ after'
  fill_slice (refused n i q) m m' = m.kept n i q refl ∙ sym (m'.kept n i q refl)
  fill_slice (accepted values) m m' =
      let (x, h, l, room, e) = (m.answered values).0 refl in
      let k : ℕ = length (filled_bytes x) in
      let u = m.result k (ap accepted e) x h in
      let u' = m'.result k (ap accepted e) x h in
      let front : take k after ≡ take k after' = u.written.written ∙ sym u'.written.written in
      let rest : drop k after ≡ drop k after' = m.behind k (ap accepted e) ∙ sym (m'.behind k (ap accepted e)) in
      sym (take-append-drop k after) ∙ ap (λ x. x ++ drop k after) front ∙ ap (λ x. take k after' ++ x) rest ∙ take-append-drop k after'

pub fill-fixed : FillFixed
fill-fixed v p b before after after' r r' m m' =
    let same = fill-reply v p b before after after' r r' m m' in
    (same, fill_slice v p b before after after' r m (subst (FillPromise v p b before after') (sym same) m'))

-- ---- list_book

-- Where the reply is accepted, the slice is fixed but for the order of the entries.
module _ (v b before after after' : List ℕ) where
  book_reply_lem : (r r' : Reply) → BookPromise v b before after r → BookPromise v b before after' r' → r ≡ r'
  book_reply_lem (accepted values) r' m m' = sym ((m'.answered values).1 ((m.answered values).0 refl))
  book_reply_lem (refused n i q) r' m m' = sym ((m'.refuses n i q).1 ((m.refuses n i q).0 refl))

pub book_fixed : BookFixed
book_fixed v b before after after' r r' m m' =
    let same = book_reply_lem v b before after after' r r' m m' in
    (same, λ n i q e. m.kept n i q e ∙ sym (m'.kept n i q (sym same ∙ e)))

-- ---- the program's text

pub print_fixed : PrintFixed
print_fixed v p text text' m m' = elim m.one [
  | inl (n, i, q, h) ↦ m.refuses n i q h ∙ sym (m'.refuses n i q h)
  | inr (W, s, t, l, h, is_listing, room) ↦ m.lists W s t l h is_listing room ∙ sym (m'.lists W s t l h is_listing room)
]
