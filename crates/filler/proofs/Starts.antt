-- Starts: the table of starts tells where the value of each name stands in the filling file.
--
--   cut_value b starts n     the bytes from the n-th start up to the next
--   starts-up               a start is no further than the next
--   starts-inside           no start is behind the end
--   cut-size                so many bytes are cut out
--   each                    what is so of each name with a value is so of the pattern's names
--   cut-values              those of a name of the pattern are the bytes of its value
--   depth_values            and its depth is that of its value
--
use mathlib.Core.Path.{◌≡◌, refl, sym, ap, ap₂, subst, ◌∙◌}
use mathlib.Core.Bool.{Bool, true, false, cond, true≢false}
use mathlib.Core.List.{List, [], ◌∷◌, ◌++◌, map, map-id}
use Prim.Native.Nat.{ℕ, zero, suc, ◌+◌, ◌-◌, ◌<◌, ◌≤◌}
use native.Mathlib.Numerals.{add-one}
use native.Mathlib.Omega.{arith}
use lib.Dec.{eqb}
use lib.ListN.{length, get_or, take, drop, length-append, length-drop}
use lib.Seq.{length-take-le, take_at, drop_at, drop-drop}
use borrow.Author.Tests.{eq-eqb, ne_eqb}
use Rattle.terms.specs.Lists.{All, occurs, range, keep}
use Rattle.terms.specs.Term.{as_term, names}
use Rattle.terms.specs.Filling.{Binding, value_of}
use Rattle.terms.proofs.All.{all_implies, all_both}
use Rattle.terms.proofs.Occurs.{all-occurs}
use Rattle.wire.specs.Row.{write_row}
use Rattle.wire.specs.TermBytes.{name_count, levels, encode_at}
use Rattle.wire.specs.Matching.{size}
use Rattle.wire.specs.FillingFile.{name_map_bytes, write_names, write_value, encode_filling}
use Rattle.wire.specs.Filled.{FillInputs}
use Rattle.wire.proofs.Cond.{cond_true, cond_false}
use Rattle.filler.specs.Ready.{Ready}

abbrev pub cut_value : List ℕ → List ℕ → ℕ → List ℕ
cut_value b starts n = take (get_or starts (n + 1) 0 - get_or starts n 0) (drop (get_or starts n 0) b)

module _ {p b starts depths : List ℕ} (a : Ready p b starts depths) where
  abbrev x : FillInputs
  x = a.inputs

  abbrev stands : ℕ → Bool
  stands n = occurs n (names x.pattern)

  abbrev start : ℕ → ℕ
  start n = get_or starts n 0

  pub starts-up : (n : ℕ) → n < name_count → start n ≤ start (n + 1)
  starts-up n h = go (stands n) refl
    where
      go : (t : Bool) → stands n ≡ t → start n ≤ start (n + 1)
      go true e = omega (arith, (a.values.named n h e).0)
      go false e = omega (arith, (a.values.absent n h e).0)

  -- The values of the m names from n on, l, are the rest of the file from the n-th start on.
  record From (n m : ℕ) (l : List Binding) : Type 0 where
    pub keys : map (λ c. c.name) l ≡ keep stands (range n m)
    pub bytes : drop (start n) b ≡ write_row (write_value x.vocabulary) l
    pub values : (k : ℕ) → n ≤ k → value_of x.values k ≡ value_of l k
    pub inside : start n ≤ length b

  from_none : From 0 name_count x.values
  from_none = record {
    keys = a.held.filling.good.keys;
    bytes =
        ap₂ drop a.values.begins a.held.filling.written
        ∙ drop_at (write_names (map (λ c. c.name) x.values)) (write_row (write_value x.vocabulary) x.values) name_map_bytes refl;
    values = λ k h. refl;
    inside = omega (arith, a.values.begins, ap length a.held.filling.written, long);
  }
    where
      long : length (encode_filling x.vocabulary x.values) ≡ name_map_bytes + length (write_row (write_value x.vocabulary) x.values)
      long = length-append (write_names (map (λ c. c.name) x.values)) (write_row (write_value x.vocabulary) x.values)

  -- The value of the name n, where it has one, and the values behind it.
  record Next (n m : ℕ) : Type 0 where
    pub rest : List Binding
    pub from : From (suc n) m rest
    pub value : stands n ≡ true → drop (start n) b ≡ encode_at x.vocabulary (as_term (value_of x.values n)) ++ drop (start (suc n)) b

  next : (n m : ℕ) (l : List Binding) → n < name_count → From n (suc m) l → Next n m
  next n m l h f = go (stands n) refl l f.keys f.bytes f.values
    where
      to : start (suc n) ≡ start (n + 1)
      to = ap start (sym (add-one n))

      go : (t : Bool) → stands n ≡ t → (l : List Binding) → map (λ c. c.name) l ≡ cond (stands n) (n ∷ keep stands (range (suc n) m)) (keep stands (range (suc n) m)) →
          drop (start n) b ≡ write_row (write_value x.vocabulary) l → ((k : ℕ) → n ≤ k → value_of x.values k ≡ value_of l k) → Next n m
      go false e l keys bytes values =
          let same = to ∙ (a.values.absent n h e).0 in
          record {
            rest = l;
            from = record {
              keys = keys ∙ cond_false (stands n) _ _ e;
              bytes = ap (λ i. drop i b) same ∙ bytes;
              values = λ k below. values k (omega arith);
              inside = omega (arith, same, f.inside);
            };
            value = λ t. absurd (true≢false (sym t ∙ e));
          }
      go true e [] keys bytes values = absurd (let z = ap length (keys ∙ cond_true (stands n) _ _ e) in omega arith)
      go true e (c ∷ l) keys bytes values = record {
        rest = l;
        from = record {
          keys = heads.1;
          bytes = behind;
          values = λ k below. values k (omega arith) ∙ cond_false (eqb k c.name) _ _ (ne_eqb k c.name (λ same. omega (arith, heads.0)));
          inside = omega (arith, ends, f.inside, ap length bytes, length-drop (start n) b, length-append value (write_row (write_value x.vocabulary) l));
        };
        value = λ t. bytes ∙ ap₂ ◌++◌ (ap (λ g. encode_at x.vocabulary (as_term g)) (sym is)) (sym behind);
      }
        where
          value : List ℕ
          value = encode_at x.vocabulary (as_term c.value)

          heads : (c.name ≡ n) × (map (λ d. d.name) l ≡ keep stands (range (suc n) m))
          heads = let z = keys ∙ cond_true (stands n) _ _ e in (cc, cc)

          is : value_of x.values n ≡ c.value
          is = values n (omega arith) ∙ cond_true (eqb n c.name) _ _ (eq-eqb n c.name (sym heads.0))

          ends : start (suc n) ≡ start n + length value
          ends = to ∙ (a.values.named n h e).0 ∙ ap (λ g. start n + size x.vocabulary g) is

          behind : drop (start (suc n)) b ≡ write_row (write_value x.vocabulary) l
          behind =
              ap (λ i. drop i b) ends
              ∙ sym (drop-drop (length value) (start n) b)
              ∙ ap (drop (length value)) bytes
              ∙ drop_at value (write_row (write_value x.vocabulary) l) (length value) refl

  from : (n m : ℕ) → n + m ≡ name_count → (l : List Binding) × From n m l
  from zero m e = (x.values, subst (λ k. From 0 k x.values) (let f : name_count ≡ m = omega arith in f) from_none)
  from (suc n) m e =
      let (l, f) = from n (suc m) (omega arith) in
      let r = next n m l (omega arith) f in (r.rest, r.from)

  pub starts-inside : (n : ℕ) → n ≤ name_count → start n ≤ length b
  starts-inside n h = (from n (name_count - n) (omega arith)).1.inside

  pub cut-size : (n : ℕ) → n < name_count → length (cut_value b starts n) ≡ start (n + 1) - start n
  cut-size n h =
      length-take-le (start (n + 1) - start n) (drop (start n) b)
      (omega (arith, length-drop (start n) b, starts-inside (n + 1) (omega arith), starts-up n h))

  cut-value : (n : ℕ) → n < name_count → stands n ≡ true → cut_value b starts n ≡ encode_at x.vocabulary (as_term (value_of x.values n))
  cut-value n h e =
      let here = from n (suc (name_count - suc n)) (omega arith) in
      ap₂ take
      (let l : start (n + 1) - start n ≡ size x.vocabulary (value_of x.values n) = omega (arith, (a.values.named n h e).0) in l)
      ((next n (name_count - suc n) here.0 h here.1).value e)
      ∙ take_at (encode_at x.vocabulary (as_term (value_of x.values n))) (drop (start (suc n)) b) (size x.vocabulary (value_of x.values n)) refl

  -- Of each name of the pattern.
  pub each : (P : ℕ → Type 0) → ((n : ℕ) → n < name_count → stands n ≡ true → P n) → All P (names x.pattern)
  each P f =
      all_implies (λ n. (n < name_count) × (stands n ≡ true)) P (λ n h. f n h.0 h.1) (names x.pattern)
      (all_both (λ n. n < name_count) (λ n. stands n ≡ true) (names x.pattern) a.held.pattern.good.named
      (subst (λ l. All (λ n. occurs n l ≡ true) (names x.pattern)) (map-id (names x.pattern)) (all-occurs (λ n. n) (names x.pattern))))

  pub cut-values : All (λ n. cut_value b starts n ≡ encode_at x.vocabulary (as_term (value_of x.values n))) (names x.pattern)
  cut-values = each _ cut-value

  pub depth_values : All (λ n. get_or depths n 0 ≡ levels (as_term (value_of x.values n))) (names x.pattern)
  depth_values = each _ (λ n h e. (a.values.named n h e).1)
