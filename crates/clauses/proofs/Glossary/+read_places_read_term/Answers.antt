-- `clauses::Glossary::read_places` and `clauses::Glossary::read_term` meet their contracts.
use mathlib.Core.Path.{◌≡◌, sym, ◌∙◌}
use mathlib.Core.Bool.{true}
use mathlib.Core.List.{List, [], ◌∷◌}
use Prim.Native.Nat.{ℕ, ◌+◌, ◌*◌, ◌<◌, ◌≤◌}
use native.Mathlib.Omega.{arith}
use lib.ListN.{drop, get_or}
use Rattle.texts.specs.Lexemes.{blanks, token_size, token_at}
use Rattle.texts.specs.Names.{same}
use Rattle.texts.specs.Tabled.{tabled_places, record_size}
use Rattle.clauses.specs.Reading.{Within, Lent, Tables, mark_before}
use Rattle.std.specs.Prelude.{Ok, Err}
use Rattle.std.proofs.lemmas.Result.{err_from_is_err_and}
use Rattle.clauses.proofs.Tables.{places-few}
use Rattle.clauses.proofs.AtPlaces.{places-closed, places-wrong, AtPlace, place-refused, place-ends, place-small, place_read}
use Rattle.clauses.proofs.AtTerms.{term_leaf, term-whole, word-within, word_some, word-known, word-refused, word-map, word_read_lem}
use Rattle.clauses.proofs.Glossary.+read_places_read_term.Goals as goal

-- ---- read_places

-- A place that is not the one behind the last is before it.
earlier : {i m j : ℕ} → i ≤ m → j ≡ m → (i ≡ j → ⊥) → i < m
earlier le e ne = omega (arith, le, e, ne)

placed : {b q r o v : List ℕ} {at n f i to seen s m e x j : ℕ} (left : ℕ) → Within b at n to seen → Lent o v → Tables q r → f < n →
    i ≤ tabled_places r f → j ≡ tabled_places r f → (i ≡ j → ⊥) → s ≡ at + blanks (drop at b) → m ≡ mark_before i →
    same (token_at b s) (m ∷ []) ≡ true → e ≡ s + token_size (drop s b) → x ≡ get_or r (record_size * f + 2 + i) 0 →
    AtPlace b q r o v at n left f i to seen s m e x
placed left within lent tables known counted many more start before stands end kind = record {
  within = within;
  lent = lent;
  tables = tables;
  known = known;
  here = earlier counted many more;
  start = start;
  before = before;
  stands = stands;
  end = end;
  kind = kind;
}

pub read_places-returns-then-i-places : goal.read_places-returns-then-i-places
read_places-returns-then-i-places t c =
    let a = c.args in let g = a.self.now in
    let lent : Lent a.out.now a.variables.now = record { bytes = omega (arith, c.told-out); variables = omega (arith, c.told-variables) } in
    λ k.
    places-closed g.text.now g.words.now g.records.now a.out.now a.variables.now a.at k g.n a.left a.f a.i a.to a.seen c.requires.within lent c.requires.tables c.requires.f_lt_n c.close.result (c.if-i-places.true ∙ c.places.ensures) c.close.ensures

pub read_places-returns-then-not-is_mark : goal.read_places-returns-then-not-is_mark
read_places-returns-then-not-is_mark t c =
    let a = c.args in let g = a.self.now in
    let lent : Lent a.out.now a.variables.now = record { bytes = omega (arith, c.told-out); variables = omega (arith, c.told-variables) } in
    λ k.
    places-wrong g.text.now g.words.now g.records.now a.out.now a.variables.now a.at k g.n a.left a.f a.i a.to a.seen c.requires.within lent c.requires.tables c.requires.f_lt_n c.start-s.result c.mark_before.result (earlier c.requires.i_bound c.places.ensures c.if-i-places.false) c.start-s.ensures c.mark_before.ensures _ _ (sym c.is_mark.ensures ∙ c.if-not-is_mark.true)

pub read_places-returns-in_err-p : goal.read_places-returns-in_err-p
read_places-returns-in_err-p t c =
    let a = c.args in
    let lent : Lent a.out.now a.variables.now = record { bytes = omega (arith, c.told-out); variables = omega (arith, c.told-variables) } in
    let p = placed c.args.left c.requires.within lent c.requires.tables c.requires.f_lt_n c.requires.i_bound c.places.ensures c.if-i-places.false c.start-s.ensures c.mark_before.ensures (sym c.is_mark.ensures ∙ c.if-not-is_mark.false) c.end-e.ensures c.kind-due.ensures in
    let z = err_from_is_err_and c.from_residual.result c.from_residual.ensures.1 in
    rw (z.1, z.2) (place-refused p c.read_term.new.out c.read_term.new.variables _ _ c.in_err-p.field-0.0 c.in_err-p.ensures)

pub read_places-read_places-requires : goal.read_places-read_places-requires
read_places-read_places-requires t c =
    let a = c.args in
    let lent : Lent a.out.now a.variables.now = record { bytes = omega (arith, c.told-out); variables = omega (arith, c.told-variables) } in
    let p = placed c.args.left c.requires.within lent c.requires.tables c.requires.f_lt_n c.requires.i_bound c.places.ensures c.if-i-places.false c.start-s.ensures c.mark_before.ensures (sym c.is_mark.ensures ∙ c.if-not-is_mark.false) c.end-e.ensures c.kind-due.ensures in
    let ends = place-ends p c.read_term.new.out c.read_term.new.variables c.in_ok-p.p c.in_ok-p.ensures in
    let z = places-few c.args.self.now.records.now c.args.f in
    let y = p.here in
    (omega (arith, c.decreases), (ends.0, (p.tables, (p.known, omega arith))))

pub read_places-returns-in_err-behind : goal.read_places-returns-in_err-behind
read_places-returns-in_err-behind t c =
    let a = c.args in
    let lent : Lent a.out.now a.variables.now = record { bytes = omega (arith, c.told-out); variables = omega (arith, c.told-variables) } in
    let p = placed c.args.left c.requires.within lent c.requires.tables c.requires.f_lt_n c.requires.i_bound c.places.ensures c.if-i-places.false c.start-s.ensures c.mark_before.ensures (sym c.is_mark.ensures ∙ c.if-not-is_mark.false) c.end-e.ensures c.kind-due.ensures in
    let z = err_from_is_err_and c.from_residual-in_err-behind.result c.from_residual-in_err-behind.ensures.1 in
    rw (z.1, z.2) (place_read p c.read_term.new.out c.read_term.new.variables c.in_ok-p.p c.in_ok-p.ensures c.read_places.new.out c.read_places.new.variables (Err c.in_err-behind.field-0.0) c.in_err-behind.ensures)

pub read_places-overflow_mul-result : goal.read_places-overflow_mul-result
read_places-overflow_mul-result t c =
    let a = c.args in
    let lent : Lent a.out.now a.variables.now = record { bytes = omega (arith, c.told-out); variables = omega (arith, c.told-variables) } in
    let p = placed c.args.left c.requires.within lent c.requires.tables c.requires.f_lt_n c.requires.i_bound c.places.ensures c.if-i-places.false c.start-s.ensures c.mark_before.ensures (sym c.is_mark.ensures ∙ c.if-not-is_mark.false) c.end-e.ensures c.kind-due.ensures in
    let small = place-small p c.read_term.new.out c.read_term.new.variables c.in_ok-p.p c.in_ok-p.ensures c.read_places.new.out c.read_places.new.variables (Ok c.in_ok-behind.behind) c.in_ok-behind.ensures in
    omega (arith, small.0, small.1)

pub read_places-overflow_add-result : goal.read_places-overflow_add-result
read_places-overflow_add-result t c =
    let a = c.args in
    let lent : Lent a.out.now a.variables.now = record { bytes = omega (arith, c.told-out); variables = omega (arith, c.told-variables) } in
    let p = placed c.args.left c.requires.within lent c.requires.tables c.requires.f_lt_n c.requires.i_bound c.places.ensures c.if-i-places.false c.start-s.ensures c.mark_before.ensures (sym c.is_mark.ensures ∙ c.if-not-is_mark.false) c.end-e.ensures c.kind-due.ensures in
    let small = place-small p c.read_term.new.out c.read_term.new.variables c.in_ok-p.p c.in_ok-p.ensures c.read_places.new.out c.read_places.new.variables (Ok c.in_ok-behind.behind) c.in_ok-behind.ensures in
    omega (arith, small.0, small.1)

pub read_places-returns : goal.read_places-returns
read_places-returns t c =
    let a = c.args in
    let lent : Lent a.out.now a.variables.now = record { bytes = omega (arith, c.told-out); variables = omega (arith, c.told-variables) } in
    let p = placed c.args.left c.requires.within lent c.requires.tables c.requires.f_lt_n c.requires.i_bound c.places.ensures c.if-i-places.false c.start-s.ensures c.mark_before.ensures (sym c.is_mark.ensures ∙ c.if-not-is_mark.false) c.end-e.ensures c.kind-due.ensures in
    place_read p c.read_term.new.out c.read_term.new.variables c.in_ok-p.p c.in_ok-p.ensures c.read_places.new.out c.read_places.new.variables (Ok c.in_ok-behind.behind) c.in_ok-behind.ensures

-- ---- read_term

pub read_term-returns-in_err-head : goal.read_term-returns-in_err-head
read_term-returns-in_err-head t c =
    let a = c.args in let g = a.self.now in
    let lent : Lent a.out.now a.variables.now = record { bytes = omega (arith, c.told-out); variables = omega (arith, c.told-variables) } in
    let z = err_from_is_err_and c.from_residual.result c.from_residual.ensures.1 in
    rw (z.1, z.2) (λ k. term_leaf g.text.now g.words.now g.records.now a.out.now a.variables.now a.at k g.n a.left a.due a.to a.seen c.read_head.new.out c.read_head.new.variables (Err c.in_err-head.field-0.0) (c.in_err-head.ensures k))

pub read_term-overflow_sub-left : goal.read_term-overflow_sub-left
read_term-overflow_sub-left t c =
    let a = c.args in let g = a.self.now in
    let lent : Lent a.out.now a.variables.now = record { bytes = omega (arith, c.told-out); variables = omega (arith, c.told-variables) } in
    word_some g.text.now g.words.now g.records.now a.out.now a.variables.now a.at g.n a.left a.due a.to a.seen c.requires.within lent c.requires.tables c.read_head.new.out c.read_head.new.variables c.in_ok-head.head c.in-Word.f c.in-Word.e c.in-Word.is c.in_ok-head.ensures

pub read_term-read_places-requires : goal.read_term-read_places-requires
read_term-read_places-requires t c =
    let a = c.args in let g = a.self.now in
    let lent : Lent a.out.now a.variables.now = record { bytes = omega (arith, c.told-out); variables = omega (arith, c.told-variables) } in
    let some : 0 < a.left = word_some g.text.now g.words.now g.records.now a.out.now a.variables.now a.at g.n a.left a.due a.to a.seen c.requires.within lent c.requires.tables c.read_head.new.out c.read_head.new.variables c.in_ok-head.head c.in-Word.f c.in-Word.e c.in-Word.is c.in_ok-head.ensures in (
      omega (arith, c.decreases, some),
      (word-within g.text.now g.words.now g.records.now a.out.now a.variables.now a.at g.n a.left a.due a.to a.seen c.requires.within lent c.requires.tables c.read_head.new.out c.read_head.new.variables c.in_ok-head.head c.in-Word.f c.in-Word.e c.in-Word.is c.in_ok-head.ensures, (c.requires.tables, (word-known g.text.now g.words.now g.records.now a.out.now a.variables.now a.at g.n a.left a.due a.to a.seen c.requires.within lent c.requires.tables c.read_head.new.out c.read_head.new.variables c.in_ok-head.head c.in-Word.f c.in-Word.e c.in-Word.is c.in_ok-head.ensures, omega arith))),
    )

pub read_term-returns-in_err-p-in-Word : goal.read_term-returns-in_err-p-in-Word
read_term-returns-in_err-p-in-Word t c =
    let a = c.args in let g = a.self.now in
    let lent : Lent a.out.now a.variables.now = record { bytes = omega (arith, c.told-out); variables = omega (arith, c.told-variables) } in
    let z = err_from_is_err_and c.from_residual-in_err-p-in-Word.result c.from_residual-in_err-p-in-Word.ensures.1 in
    rw (z.1, z.2) (word-refused g.text.now g.words.now g.records.now a.out.now a.variables.now a.at g.n a.left a.due a.to a.seen c.requires.within lent c.requires.tables c.read_head.new.out c.read_head.new.variables c.in_ok-head.head c.in-Word.f c.in-Word.e c.in-Word.is c.in_ok-head.ensures
    c.read_places.new.out c.read_places.new.variables _ _ c.in_err-p-in-Word.field-0.0 c.in_err-p-in-Word.ensures)

pub read_term-put_word-requires-clause-to_bound : goal.read_term-put_word-requires-clause-to_bound
read_term-put_word-requires-clause-to_bound t c =
    let a = c.args in let g = a.self.now in
    let lent : Lent a.out.now a.variables.now = record { bytes = omega (arith, c.told-out); variables = omega (arith, c.told-variables) } in
    (word-within g.text.now g.words.now g.records.now a.out.now a.variables.now a.at g.n a.left a.due a.to a.seen c.requires.within lent c.requires.tables c.read_head.new.out c.read_head.new.variables c.in_ok-head.head c.in-Word.f c.in-Word.e c.in-Word.is c.in_ok-head.ensures).room

pub read_term-put_word-requires-clause-f_lt_most_words : goal.read_term-put_word-requires-clause-f_lt_most_words
read_term-put_word-requires-clause-f_lt_most_words t c =
    let a = c.args in let g = a.self.now in
    let lent : Lent a.out.now a.variables.now = record { bytes = omega (arith, c.told-out); variables = omega (arith, c.told-variables) } in
    let known : c.in-Word.f < g.n = word-known g.text.now g.words.now g.records.now a.out.now a.variables.now a.at g.n a.left a.due a.to a.seen c.requires.within lent c.requires.tables c.read_head.new.out c.read_head.new.variables c.in_ok-head.head c.in-Word.f c.in-Word.e c.in-Word.is c.in_ok-head.ensures in
    omega (arith, known, c.requires.within.words)

pub read_term-put_word-requires-clause-map_bound : goal.read_term-put_word-requires-clause-map_bound
read_term-put_word-requires-clause-map_bound t c =
    let a = c.args in let g = a.self.now in
    let lent : Lent a.out.now a.variables.now = record { bytes = omega (arith, c.told-out); variables = omega (arith, c.told-variables) } in
    word-map g.text.now g.words.now g.records.now a.out.now a.variables.now a.at g.n a.left a.due a.to a.seen c.requires.within lent c.requires.tables c.read_head.new.out c.read_head.new.variables c.in_ok-head.head c.in-Word.f c.in-Word.e c.in-Word.is c.in_ok-head.ensures
    c.read_places.new.out c.read_places.new.variables c.in_ok-p-in-Word.p c.in_ok-p-in-Word.ensures

pub read_term-returns-in-Leaf : goal.read_term-returns-in-Leaf
read_term-returns-in-Leaf t c =
    let a = c.args in let g = a.self.now in
    let lent : Lent a.out.now a.variables.now = record { bytes = omega (arith, c.told-out); variables = omega (arith, c.told-variables) } in
    λ k. term-whole g.text.now g.words.now g.records.now a.out.now a.variables.now a.at k g.n a.left a.due a.to a.seen c.read_head.new.out c.read_head.new.variables c.in_ok-head.head c.in-Leaf.leaf c.in-Leaf.is (c.in_ok-head.ensures k)

pub read_term-returns-in_ok-p-in-Word : goal.read_term-returns-in_ok-p-in-Word
read_term-returns-in_ok-p-in-Word t c =
    let a = c.args in let g = a.self.now in
    let lent : Lent a.out.now a.variables.now = record { bytes = omega (arith, c.told-out); variables = omega (arith, c.told-variables) } in
    word_read_lem g.text.now g.words.now g.records.now a.out.now a.variables.now a.at g.n a.left a.due a.to a.seen c.requires.within lent c.requires.tables c.read_head.new.out c.read_head.new.variables c.in_ok-head.head c.in-Word.f c.in-Word.e c.in-Word.is c.in_ok-head.ensures
    c.read_places.new.out c.read_places.new.variables c.in_ok-p-in-Word.p c.in_ok-p-in-Word.ensures c.put_word.new.out c.put_word.ensures
