-- Tabling: how the loop over the names of a filling file goes on.
--
--   ValuesTo              what holds before a name: the values of the names below it were read, and the tables tell of them;
--                         from it on no levels are noted
--   values_none           the beginning
--   entry_none, entry_value    an entry of the table of names
--   values_listed, values-absent, values-more    a name more, with a value and without one
--   values-stop, values-fault    a value is at fault
--   values_continue, values-all     the end
--
use mathlib.Core.Path.{◌≡◌, refl, sym, ap, ap₂, subst, ◌∙◌}
use mathlib.Core.Bool.{true, false, true≢false}
use mathlib.Core.List.{List, [], ◌∷◌, ◌++◌, map, map-append}
use mathlib.Core.Logic.{◌≢◌}
use Prim.Native.Nat.{ℕ, suc, ◌+◌, ◌-◌, ◌<◌, ◌≤◌}
use native.Mathlib.Decide.{dec_lt, ℕ_discrete}
use native.Mathlib.Omega.{arith}
use lib.Dec.{eqb}
use lib.ListN.{length, get_or, drop, set, length-set, drop_of_length-le}
use lib.Seq.{drop-cons, get_or-set_same, get_or-set_other}
use borrow.Author.Tests.{eq-eqb, lt-ltb, le-ltb}
use Rattle.terms.specs.Lists.{occurs, range, keep}
use Rattle.terms.specs.Term.{Grounds, gnil, gcons, as_term}
use Rattle.terms.specs.Filling.{Binding, value_of}
use Rattle.terms.proofs.Binding.{keys_of, value_append_known, value_append_new}
use Rattle.wire.specs.Vocabulary.{Vocabulary, InOrder}
use Rattle.wire.specs.TermBytes.{name_count, levels}
use Rattle.wire.specs.TermLines.{Due}
use Rattle.wire.specs.Matching.{size}
use Rattle.wire.specs.Parser.{accept, refuse, got, stop, and_then}
use Rattle.wire.specs.CheckComputed.{reply_of}
use Rattle.wire.specs.FillingFile.{name_map_bytes}
use Rattle.wire.specs.FillComputed.{read_values, bindings, line22}
use Rattle.wire.proofs.Bytes.{offset-drop}
use Rattle.wire.proofs.Cond.{cond_true}
use Rattle.wire.proofs.GroundBytes.{joined}
use Rattle.wire.proofs.VocabulariesInverse.{accept-same}
use Rattle.wire.proofs.FullTerms.{HasValues, Values, values-read, values-append}
use Rattle.wire.proofs.FillingValues.{bindings-parts, bindings-joined}
use Rattle.signature.specs.Tables.{vocabulary_in}
use Rattle.reader.specs.Names.{listed}
use Rattle.reader.specs.Fillings.{ValueEnds, ValueStops, ValueRead, EntryRead, listed_to, due_for, dues_to, values_in, TablesTo, ValuesRead}
use Rattle.reader.specs.declared.filling.FillingRefusal.TheVariants as F
use Rattle.std.specs.Prelude.{Result, Ok, Err}
use Rattle.reader.specs.declared.filling.Value.{Value}
use Rattle.reader.proofs.NameTables.{refuse_never}
use Rattle.reader.proofs.Listed.{listed_more, listed_same, listed-rest, listed-known, listed-new}

pub record ValuesTo (v b names : List ℕ) (n at : ℕ) (starts depths : List ℕ) : Type 0 where
  pub up_to : n ≤ name_count
  pub inside : at ≤ length b
  pub values : Grounds
  pub same : read_values (vocabulary_in v) (dues_to names n) (drop name_map_bytes b) ≡ got values (drop at b)
  pub tables : TablesTo (vocabulary_in v) names n (bindings (listed_to names n) values) starts depths
  pub last : get_or starts n 0 ≡ at
  pub ahead : (m : ℕ) → n ≤ m → m < name_count → get_or depths m 0 ≡ 0

pub values_none : {v b names starts depths : List ℕ} → name_map_bytes ≤ length b → length starts ≡ name_count + 1 → length depths ≡ name_count →
    get_or starts 0 0 ≡ name_map_bytes → ((m : ℕ) → m < name_count → get_or depths m 0 ≡ 0) → ValuesTo v b names 0 name_map_bytes starts depths
values_none long many deep first blank = record {
  up_to = omega arith;
  inside = long;
  values = gnil;
  same = refl;
  tables = record {
    many_starts = many;
    many_depths = deep;
    begins = first;
    named = λ m h. absurd (omega arith);
    absent = λ m h. absurd (omega arith);
  };
  last = first;
  ahead = λ m low high. blank m high;
}

-- ---- the tables

-- A name more, whose value ends at an offset and has so many levels. The values of the names before it stay.
tables_more : {W : Vocabulary} {names : List ℕ} {n : ℕ} {bs cs : List Binding} {starts depths : List ℕ} {at at' deep : ℕ} → TablesTo W names n bs starts depths →
    n < name_count → get_or starts n 0 ≡ at → ((m : ℕ) → m < n → listed names m ≡ true → value_of cs m ≡ value_of bs m) →
    (listed names n ≡ true → (at' ≡ at + size W (value_of cs n)) × (deep ≡ levels (as_term (value_of cs n)))) →
    (listed names n ≡ false → (at' ≡ at) × (deep ≡ 0)) → TablesTo W names (n + 1) cs (set starts (n + 1) at') (set depths n deep)
tables_more {W} {names} {n} {bs} {cs} {starts} {depths} {at} {at'} {deep} x below last stay there none = record {
  many_starts = length-set starts (n + 1) at' ∙ x.many_starts;
  many_depths = length-set depths n deep ∙ x.many_depths;
  begins = start-before 0 (omega arith) ∙ x.begins;
  named = λ m h e. named m h e (ℕ_discrete m n);
  absent = λ m h e. absent m h e (ℕ_discrete m n);
}
  where
    start-before : (m : ℕ) → m ≤ n → get_or (set starts (n + 1) at') m 0 ≡ get_or starts m 0
    start-before m h = let other : m ≢ n + 1 = (λ e. omega arith) in get_or-set_other starts (n + 1) m at' 0 other

    start-here : get_or (set starts (n + 1) at') (n + 1) 0 ≡ at'
    start-here = get_or-set_same starts (n + 1) at' 0 (omega (arith, x.many_starts))

    depth_before : (m : ℕ) → (m ≡ n → ⊥) → get_or (set depths n deep) m 0 ≡ get_or depths m 0
    depth_before m other = let apart : m ≢ n = other in get_or-set_other depths n m deep 0 apart

    depth_here : get_or (set depths n deep) n 0 ≡ deep
    depth_here = get_or-set_same depths n deep 0 (omega (arith, x.many_depths))

    named : (m : ℕ) → m < n + 1 → listed names m ≡ true → Dec (m ≡ n) →
        (get_or (set starts (n + 1) at') (m + 1) 0 ≡ get_or (set starts (n + 1) at') m 0 + size W (value_of cs m))
        × (get_or (set depths n deep) m 0 ≡ levels (as_term (value_of cs m)))
    named m h e (yes same) =
        rw same
        (let r = there (ap (listed names) (sym same) ∙ e) in
        (start-here ∙ r.0 ∙ ap (λ k. k + size W (value_of cs n)) (sym (start-before n (omega arith) ∙ last)), depth_here ∙ r.1))
    named m h e (no other) =
        let low : m < n = omega (arith, other) in
        let r = x.named m low e in
        let value = stay m low e in (
          start-before (m + 1) (omega arith) ∙ r.0 ∙ ap₂ (λ k g. k + size W g) (sym (start-before m (omega arith))) (sym value),
          depth_before m other ∙ r.1 ∙ ap (λ g. levels (as_term g)) (sym value),
        )

    absent : (m : ℕ) → m < n + 1 → listed names m ≡ false → Dec (m ≡ n) →
        (get_or (set starts (n + 1) at') (m + 1) 0 ≡ get_or (set starts (n + 1) at') m 0) × (get_or (set depths n deep) m 0 ≡ 0)
    absent m h e (yes same) =
        rw same
        (let r = none (ap (listed names) (sym same) ∙ e) in
        (start-here ∙ r.0 ∙ sym (start-before n (omega arith) ∙ last), depth_here ∙ r.1))
    absent m h e (no other) =
        let low : m < n = omega (arith, other) in
        let r = x.absent m low e in
        (start-before (m + 1) (omega arith) ∙ r.0 ∙ sym (start-before m (omega arith)), depth_before m other ∙ r.1)

-- ---- an entry of the table of names

pub entry_none : {v b : List ℕ} {from k : ℕ} → 256 ≤ k → EntryRead v b from k (Ok (record { end = from; levels = 0 }))
entry_none high = record { listed = λ low. absurd (omega arith); absent = λ h. refl }

pub entry_value : {v b : List ℕ} {from k : ℕ} {r : Result Value ℕ} → k < 256 → ValueRead v b from k r → EntryRead v b from k r
entry_value low x = record { listed = λ h. x; absent = λ high. absurd (omega arith) }

-- ---- a name more

module _ {v b names : List ℕ} {n at : ℕ} {starts depths : List ℕ} (x : ValuesTo v b names n at starts depths) (below : n < name_count) where
  abbrev W : Vocabulary
  W = vocabulary_in v

  abbrev before : List Binding
  before = bindings (listed_to names n) x.values

  still_ahead : (deep m : ℕ) → n + 1 ≤ m → m < name_count → get_or (set depths n deep) m 0 ≡ 0
  still_ahead deep m low high = let other : m ≢ n = (λ e. omega arith) in get_or-set_other depths n m deep 0 other ∙ x.ahead m (omega arith) high

  pub values-absent : listed names n ≡ false → ValuesTo v b names (n + 1) at (set starts (n + 1) at) (set depths n 0)
  values-absent e = record {
    up_to = omega arith;
    inside = x.inside;
    values = x.values;
    same = ap (λ ns. read_values W (map (due_for names) ns) (drop name_map_bytes b)) (listed_same names n e) ∙ x.same;
    tables =
        subst (λ ns. TablesTo W names (n + 1) (bindings ns x.values) (set starts (n + 1) at) (set depths n 0)) (sym (listed_same names n e))
        (tables_more x.tables below x.last (λ m h o. refl) (λ o. absurd (true≢false (sym o ∙ e))) (λ o. (refl, refl)));
    last = get_or-set_same starts (n + 1) at 0 (omega (arith, x.tables.many_starts));
    ahead = still_ahead 0;
  }

  module _ (in_order : InOrder (vocabulary_in v)) (e : listed names n ≡ true) where
    -- What was read so far has its place.
    held : HasValues W (dues_to names n) (drop name_map_bytes b) x.values (drop at b)
    held = subst (Values W (dues_to names n) (drop name_map_bytes b)) x.same (values-read W in_order (dues_to names n) (drop name_map_bytes b))

    pub values_listed : {at' deep : ℕ} → ValueEnds v b at (get_or names n 0) at' deep →
        ValuesTo v b names (n + 1) at' (set starts (n + 1) at') (set depths n deep)
    values_listed {at'} {deep} y = record {
      up_to = omega arith;
      inside = y.inside;
      values = joined x.values (gcons y.value gnil);
      same =
          ap (λ ns. read_values W (map (due_for names) ns) (drop name_map_bytes b)) (listed_more names n e)
          ∙ ap (λ ds. read_values W ds (drop name_map_bytes b)) (map-append (due_for names) (listed_to names n) (n ∷ []))
          ∙ values-append W in_order (dues_to names n) (due_for names n ∷ []) (drop name_map_bytes b)
          ∙ ap (λ z. and_then z (λ gs r. and_then (read_values W (due_for names n ∷ []) r) (λ hs r'. got (joined gs hs) r'))) x.same
          ∙ ap (λ z. and_then z (λ hs r'. got (joined x.values hs) r')) y.same;
      tables =
          subst (λ bs. TablesTo W names (n + 1) bs (set starts (n + 1) at') (set depths n deep)) (sym more)
          (tables_more x.tables below x.last
          (λ m h o. value_append_known before (new ∷ []) m (ap (occurs m) keys ∙ listed-known names n m h o))
          (λ o. (y.span ∙ ap (λ g. at + size W g) (sym value), y.reached ∙ ap (λ g. levels (as_term g)) (sym value)))
          (λ o. absurd (true≢false (sym e ∙ o))));
      last = get_or-set_same starts (n + 1) at' 0 (omega (arith, x.tables.many_starts));
      ahead = still_ahead deep;
    }
      where
        new : Binding
        new = record { name = n; value = y.value }

        more : bindings (listed_to names (n + 1)) (joined x.values (gcons y.value gnil)) ≡ before ++ (new ∷ [])
        more =
            ap (λ ns. bindings ns (joined x.values (gcons y.value gnil))) (listed_more names n e)
            ∙ bindings-joined (due_for names) x.values (gcons y.value gnil) (listed_to names n) (n ∷ []) held.fits

        keys : keys_of before ≡ listed_to names n
        keys = (bindings-parts (due_for names) x.values (listed_to names n) held.fits).0

        value : value_of (before ++ (new ∷ [])) n ≡ y.value
        value =
            value_append_new before (new ∷ []) n (ap (occurs n) keys ∙ listed-new names n e)
            ∙ cond_true (eqb n n) y.value (value_of [] n) (eq-eqb n n refl)

    pub values-stop : {deepest q : ℕ} → ValueStops v b at (get_or names n 0) q → ValuesRead v b names deepest starts depths (Err (F.Value q))
    values-stop {deepest} {q} y = record {
      answer = ap (reply_of 4 (λ bs. deepest ∷ [])) (sym refused);
      tables = λ bs f. absurd (refuse_never (sym refused ∙ f));
    }
      where
        rest : List ℕ
        rest = keep (listed names) (range (suc n) (63 - n))

        es : List Due
        es = map (due_for names) rest

        stopped : read_values W (dues_to names name_count) (drop name_map_bytes b) ≡ stop 22 (drop q b)
        stopped =
            ap (λ ns. read_values W (map (due_for names) ns) (drop name_map_bytes b)) (listed-rest names n below e)
            ∙ ap (λ ds. read_values W ds (drop name_map_bytes b)) (map-append (due_for names) (listed_to names n) (n ∷ rest))
            ∙ values-append W in_order (dues_to names n) (due_for names n ∷ es) (drop name_map_bytes b)
            ∙ ap (λ z. and_then z (λ gs r. and_then (read_values W (due_for names n ∷ es) r) (λ hs r'. got (joined gs hs) r'))) x.same
            ∙ ap (λ z. and_then z (λ hs r'. got (joined x.values hs) r'))
            (values-append W in_order (due_for names n ∷ []) es (drop at b)
            ∙ ap (λ z. and_then z (λ gs r. and_then (read_values W es r) (λ hs r'. got (joined gs hs) r'))) y.same)

        refused : values_in W names b ≡ refuse 22 q
        refused = ap (line22 b (listed_to names name_count)) stopped ∙ ap (refuse 22) (offset-drop b (drop q b) q refl y.inside)

-- What an entry's answer leads to.
module _ {v b names : List ℕ} {n at : ℕ} {starts depths : List ℕ} (in_order : InOrder (vocabulary_in v)) (x : ValuesTo v b names n at starts depths) (below : n < name_count)
    {r : Result Value ℕ} (read : EntryRead v b at (get_or names n 0) r) where
  pub values-more : {y : Value} → r ≡ Ok y → ValuesTo v b names (n + 1) y.end (set starts (n + 1) y.end) (set depths n y.levels)
  values-more {y} e = go (dec_lt (get_or names n 0) 256)
    where
      go : Dec (get_or names n 0 < 256) → ValuesTo v b names (n + 1) y.end (set starts (n + 1) y.end) (set depths n y.levels)
      go (yes low) = values_listed x below in_order (lt-ltb (get_or names n 0) 256 low) (subst (ValueRead v b at (get_or names n 0)) e (read.listed low))
      go (no other) =
          let high : 256 ≤ get_or names n 0 = omega arith in
          let none = read.absent high in
          let same : record { end = at; levels = 0 } ≡ y = cc in
          subst (λ (y : Value). ValuesTo v b names (n + 1) y.end (set starts (n + 1) y.end) (set depths n y.levels)) same
          (values-absent x below (le-ltb (get_or names n 0) 256 high))

  pub values-fault : {deepest q : ℕ} → r ≡ Err q → ValuesRead v b names deepest starts depths (Err (F.Value q))
  values-fault {deepest} {q} e = go (dec_lt (get_or names n 0) 256)
    where
      go : Dec (get_or names n 0 < 256) → ValuesRead v b names deepest starts depths (Err (F.Value q))
      go (yes low) = values-stop x below in_order (lt-ltb (get_or names n 0) 256 low) (subst (ValueRead v b at (get_or names n 0)) e (read.listed low))
      go (no other) =
          let high : 256 ≤ get_or names n 0 = omega arith in
          let none = read.absent high in
          absurd (let z : ◌≡◌ {A = ℕ} 0 1 = cc in omega arith)

-- ---- the end

module _ {v b names : List ℕ} {n at : ℕ} {starts depths : List ℕ} (x : ValuesTo v b names n at starts depths) (high : name_count ≤ n) where
  all : n ≡ name_count
  all = let most = x.up_to in omega arith

  ended : read_values (vocabulary_in v) (dues_to names name_count) (drop name_map_bytes b) ≡ got x.values (drop at b)
  ended = ap (λ n. read_values (vocabulary_in v) (dues_to names n) (drop name_map_bytes b)) (sym all) ∙ x.same

  pub values_continue : {deepest : ℕ} → at < length b → ValuesRead v b names deepest starts depths (Err (F.Value at))
  values_continue {deepest} more = record {
    answer = ap (reply_of 4 (λ bs. deepest ∷ [])) (sym refused);
    tables = λ bs f. absurd (refuse_never (sym refused ∙ f));
  }
    where
      refused : values_in (vocabulary_in v) names b ≡ refuse 22 at
      refused =
          ap (line22 b (listed_to names name_count)) (ended ∙ ap (got x.values) (drop-cons b at 0 more))
          ∙ ap (refuse 22) (offset-drop b (get_or b at 0 ∷ drop (suc at) b) at (sym (drop-cons b at 0 more)) (omega arith))

  pub values-all : {deepest : ℕ} → length b ≤ at → ValuesRead v b names deepest starts depths (Ok deepest)
  values-all {deepest} over = record {
    answer = ap (reply_of 4 (λ bs. deepest ∷ [])) (sym accepts);
    tables = λ bs f.
        subst (λ bs. TablesTo (vocabulary_in v) names name_count bs starts depths) (accept-same _ bs (sym accepts ∙ f))
        (subst (λ n. TablesTo (vocabulary_in v) names n (bindings (listed_to names n) x.values) starts depths) all x.tables);
  }
    where
      accepts : values_in (vocabulary_in v) names b ≡ accept (bindings (listed_to names name_count) x.values)
      accepts = ap (line22 b (listed_to names name_count)) (ended ∙ ap (got x.values) (drop_of_length-le b over))
