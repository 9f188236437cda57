-- NameTables: the table of names behind a term that is accepted.
--
--   named-listed, named-absent    the entry of a name that stands, and of one that does not
--   table_of                  the table of a term's names
--   whole-refused, whole-read what reading a term leaves in the table
--
use mathlib.Core.Path.{◌≡◌, refl, sym, ap, subst, ◌∙◌}
use mathlib.Core.Bool.{Bool, true, false, true≢false, false≢true}
use mathlib.Core.List.{List, [], ◌∷◌, map}
use Prim.Native.Nat.{ℕ, suc, ◌<◌, ◌≤◌}
use native.Mathlib.Omega.{arith}
use lib.Dec.{eqb}
use lib.ListN.{length, get_or}
use borrow.Author.Tests.{lt-ltb, le-ltb, eqb-true, eqb-false, ne_eqb}
use Rattle.terms.specs.Lists.{All, occurs}
use Rattle.terms.specs.Term.{Term, Occurrence, occurrences, Consistent, WellSorted, sort_in}
use Rattle.terms.specs.Term.{names as names_of}
use Rattle.terms.proofs.All.{all_implies}
use Rattle.terms.proofs.Occurs.{all-other}
use Rattle.terms.proofs.Term.{names-occurrences, occurrences-sorts}
use Rattle.wire.specs.Reply.{IsBytes, Kinded, kinded}
use Rattle.wire.specs.Vocabulary.{Vocabulary, InOrder, signature}
use Rattle.wire.specs.TermBytes.{name_count, least_bytes, most_bytes, most_levels}
use Rattle.wire.specs.Parser.{accept, refuse, Got, got, stop, Read, clash, line15, read_term}
use Rattle.wire.specs.CheckComputed.{checked_term}
use Rattle.wire.specs.Scan.{Scanned, tallied}
use Rattle.wire.proofs.ReadWrite.{Reads, term-reads}
use Rattle.wire.proofs.Scan.{scan-reads}
use Rattle.wire.proofs.Seen.{Agree, agree_clash, clash_agree}
use Rattle.wire.proofs.Words.{length_symbols, arguments-word, word-in_order}
use Rattle.wire.proofs.VocabulariesInverse.{accept-same}
use Rattle.terms.proofs.Sorts.{sort_in_lem, sorts_in}
use Rattle.reader.specs.Names.{clashing, Named, listed, TableOf}
use Rattle.reader.specs.Terms.{Ends, root_run, front_run}
use Rattle.reader.specs.Whole.{told_by, told, whole_told, WholeRead}
use Rattle.cursors.specs.declared.Cursor.{Cursor}
use Rattle.std.specs.Prelude.{Result}
use Rattle.reader.specs.declared.whole.Extent.{Extent}
use Rattle.reader.specs.declared.refusal.TermRefusal.{TermRefusal}
use Rattle.reader.proofs.Names.{named-clash}
use Rattle.reader.proofs.Told.{told-size, told-kind, front_cases, checked_root}

-- ---- entries

-- What the test of an entry tells of it.
clashing_none : (k s : ℕ) → clashing k s ≡ false → (k ≡ 65535 → ⊥) → k ≡ s
clashing_none k s e other = go (eqb k s) refl
  where
    go : (b : Bool) → eqb k s ≡ b → k ≡ s
    go true h = eqb-true k s h
    go false h = absurd (true≢false (rw (ne_eqb k 65535 other, h) at e))

clashing_some : (k s : ℕ) → clashing k s ≡ true → k ≡ 65535 → ⊥
clashing_some k s e h = go (eqb k 65535) refl
  where
    go : (b : Bool) → eqb k 65535 ≡ b → ⊥
    go true q = false≢true (rw q at e)
    go false q = eqb-false k 65535 q h

module _ (names : List ℕ) (seen : List Occurrence) (named : Named names seen) (n : ℕ) (below : n < 64) where
  -- A name that stands has the kind at which it stands.
  module _ (h : occurs n (map (λ o. o.name) seen) ≡ true) (agree : Consistent seen) where
    no-clash : clash seen n (sort_in seen n) ≡ false
    no-clash =
        agree_clash seen (record { name = n; sort = sort_in seen n })
        (all_implies (λ o. sort_in seen o.name ≡ o.sort) (λ o. Agree o (record { name = n; sort = sort_in seen n }))
        (λ o k e. sym k ∙ ap (sort_in seen) e) seen (sorts_in seen agree))

    other-clash : (s : ℕ) → (sort_in seen n ≡ s → ⊥) → clash seen n s ≡ true
    other-clash s other = go (clash seen n s) refl
      where
        go : (b : Bool) → clash seen n s ≡ b → b ≡ true
        go true e = refl
        go false e = absurd (other (sort_in_lem (λ m j. m ≡ n → j ≡ s) n seen h (clash_agree seen (record { name = n; sort = s }) e) refl))

    pub named-listed : get_or names n 0 ≡ sort_in seen n
    named-listed =
        let k : ℕ = sort_in seen n in
        clashing_none (get_or names n 0) k (sym (named-clash names seen n k below named) ∙ no-clash)
        (clashing_some (get_or names n 0) (suc k) (sym (named-clash names seen n (suc k) below named) ∙ other-clash (suc k) (λ e. omega arith)))

  -- One that does not has none.
  pub named-absent : occurs n (map (λ o. o.name) seen) ≡ false → get_or names n 0 ≡ 65535
  named-absent h = go (eqb (get_or names n 0) 65535) refl
    where
      entry : ℕ
      entry = get_or names n 0

      none : clash seen n (suc entry) ≡ false
      none =
          agree_clash seen (record { name = n; sort = suc entry })
          (all_implies (λ o. n ≡ o.name → ⊥) (λ o. Agree o (record { name = n; sort = suc entry })) (λ o k e. absurd (k (sym e))) seen
          (all-other (λ o. o.name) n seen h))

      go : (b : Bool) → eqb entry 65535 ≡ b → entry ≡ 65535
      go true e = eqb-true entry 65535 e
      go false e =
          let z = clashing_none entry (suc entry) (sym (named-clash names seen n (suc entry) below named) ∙ none) (eqb-false entry 65535 e) in
          absurd (omega arith)

-- ---- the table of a term

module _ (W : Vocabulary) (in_order : InOrder W) (s : ℕ) (t : Term) (known : s < W.kinds) (sorted : WellSorted (signature W) t s) where
  abbrev all : List Occurrence
  all = occurrences (signature W) t s

  small-kinds : All (λ o. o.sort < 256) all
  small-kinds =
      all_implies (λ o. o.sort < W.kinds) (λ o. o.sort < 256) (λ o h. let few = in_order.few_kinds in omega arith) all
      (occurrences-sorts (signature W) (λ k. k < W.kinds)
      (λ f h. subst (All (λ k. k < W.kinds)) (sym (arguments-word W f)) (word-in_order W f in_order (rw (length_symbols W) at h)).kinds) t s sorted.sorted known)

  pub table_of : (names : List ℕ) → Named names all → TableOf W s t names
  table_of names named = record {
    stands = λ n h. stand n h (occurs n (names_of t)) refl;
    kinds = λ n h o. kind n h o;
  }
    where
      occurring : (n : ℕ) → occurs n (map (λ o. o.name) all) ≡ occurs n (names_of t)
      occurring n = ap (occurs n) (names-occurrences (signature W) t s sorted.sorted)

      kind : (n : ℕ) → n < name_count → occurs n (names_of t) ≡ true → get_or names n 0 ≡ sort_in all n
      kind n h o = named-listed names all named n h (occurring n ∙ o) sorted.consistent

      stand : (n : ℕ) → n < name_count → (b : Bool) → occurs n (names_of t) ≡ b → listed names n ≡ b
      stand n h true o =
          let small = sort_in_lem (λ n k. k < 256) n all (occurring n ∙ o) small-kinds in
          lt-ltb (get_or names n 0) 256 (omega (arith, kind n h o))
      stand n h false o = le-ltb (get_or names n 0) 256 (omega (arith, named-absent names all named n h (occurring n ∙ o)))

-- ---- behind a term

pub refuse_never : {A : Type 0} {n q : ℕ} {a : A} → refuse n q ≡ accept a → ⊥
refuse_never e = let z : ◌≡◌ {A = ℕ} 0 1 = cc in omega arith

-- A refusal leaves no table to tell of.
pub whole-refused : {U : Vocabulary} {b names : List ℕ} {r : Result Extent TermRefusal} {n q : ℕ} → whole_told r ≡ refuse n q → refuse n q ≡ told U b → WholeRead U b names r
whole-refused {U} {b} e h = record { told = e ∙ h; table = λ k f. absurd (refuse_never (h ∙ ap (told_by U (length b)) f)) }

abbrev seen_in : Got Scanned → List Occurrence
seen_in (got x r) = x.seen
seen_in (stop n r) = []

module _ (W : Vocabulary) (names : List ℕ) (seen : List Occurrence) (named : Named names seen) where
  -- The term that is accepted is the one whose reading ended.
  read_table : (s : ℕ) (l : List ℕ) → InOrder W → s < W.kinds → (x : Got Read) → Reads W most_levels true s [] l x → seen ≡ seen_in (tallied W l x) →
      (k : Kinded) → line15 (s ∷ l) s x ≡ accept k → TableOf W k.kind k.term names
  read_table s l in_order known (stop n r) h e k f = absurd (refuse_never f)
  read_table s l in_order known (got a (b ∷ r)) h e k f = absurd (refuse_never f)
  read_table s l in_order known (got a []) h e k f =
      subst (λ k. TableOf W k.kind k.term names) (accept-same (kinded s a.term) k f)
      (table_of W in_order s a.term known (record { sorted = h.sorted; consistent = subst Consistent h.came (h.agrees tt) }) names
      (subst (Named names) (e ∙ h.came) named))

  module _ (t : List ℕ) (in_order : InOrder W) (bytes : IsBytes t) where
    abbrev Tells : Got Scanned → Type 0
    Tells g = seen ≡ seen_in g → (k : Kinded) → checked_term W t ≡ accept k → TableOf W k.kind k.term names

    refused_tells : {n q : ℕ} (g : Got Scanned) → refuse n q ≡ told W t → Tells g
    refused_tells g h e k f = absurd (refuse_never (h ∙ ap (told_by W (length t)) f))

    pub whole-table : Tells (front_run W t)
    whole-table =
        front_cases W t Tells (λ e. refused_tells (stop 7 t) (told-size W t e))
        (λ long short h. refused_tells (stop 8 t) (told-kind W t long short h)) (go t bytes)
      where
        go : (t : List ℕ) → IsBytes t → least_bytes ≤ length t → length t ≤ most_bytes → get_or t 0 0 < W.kinds →
            seen ≡ seen_in (root_run W t) → (k : Kinded) → checked_term W t ≡ accept k → TableOf W k.kind k.term names
        go [] bytes long short known e k f = absurd (omega arith)
        go (s ∷ l) bytes long short known e k f =
            read_table s l in_order known (read_term W most_levels true s [] l)
            (term-reads W in_order most_levels true s [] l bytes.1) (e ∙ ap seen_in (scan-reads W s [] l)) k
            (sym (checked_root W s l long short known) ∙ f)

-- Where reading ended, what it told and the table that it left.
pub whole-read : {W : Vocabulary} {t names : List ℕ} {c : Cursor} {r : Result Extent TermRefusal} → whole_told r ≡ told W t → InOrder W → IsBytes t →
    Ends t names c (front_run W t) → WholeRead W t names r
whole-read {W} {t} {names} e in_order bytes ends =
    record { told = e; table = whole-table W names ends.seen ends.named t in_order bytes (ap seen_in ends.same) }
