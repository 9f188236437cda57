-- Turning: one pattern after the other.
--
--   fits-passes, passes-fits    entries fit into an area exactly where they pass no limit of it
--   turn_ends                no pattern is left
--   turn_few, turn_bytes, turn_size, turn_less, turn_short    one is left, and this is where the next one begins
--   turn_past                the entries that are taken against it do not fit
--   turn_next, turn_goes     they do, and this is due
--
use mathlib.Core.Path.{◌≡◌, refl, sym, ap, ap₂, ◌∙◌, subst}
use mathlib.Core.Bool.{Bool, true, false, ◌||◌}
use mathlib.Core.List.{List, [], ◌∷◌, ◌++◌, map}
use mathlib.Core.Option.{some}
use Prim.Native.Nat.{ℕ, suc, ◌+◌, ◌-◌, ◌<◌, ◌≤◌, min}
use native.Mathlib.Nat.{le_trans}
use native.Mathlib.Omega.{arith}
use lib.Dec.{ltb}
use lib.ListN.{length, take, drop, length-append, length-drop, length-map}
use lib.Seq.{take_at, drop_at, length-take-le}
use borrow.Author.Tests.{le-ltb, ltb-false}
use Rattle.terms.specs.Lists.{All}
use Rattle.terms.specs.Term.{Term, Sorted}
use Rattle.terms.specs.Productive.{left_behind, left_in_turn, BookEntry}
use Rattle.terms.proofs.Bools.{or_parts}
use Rattle.terms.proofs.All.{all_implies, all_both, all_map, all_unmap}
use Rattle.terms.proofs.LeftBehind.{left-entries}
use Rattle.wire.specs.Reply.{refused}
use Rattle.wire.specs.Effect.{HasEffect}
use Rattle.wire.specs.Vocabulary.{Vocabulary, signature}
use Rattle.wire.specs.TermBytes.{encode_root, encode_term, levels, most_bytes, most_levels}
use Rattle.wire.specs.BookBytes.{most_patterns, patterns_bytes, Listable}
use Rattle.wire.specs.ListComputed.{listed_into}
use Rattle.wire.specs.BookComputed.{some_long, passes, first_past}
use Rattle.wire.proofs.Cond.{cond_true, cond_false}
use Rattle.wire.proofs.BookLevels.{left-levels}
use Rattle.extents.specs.Extents.{term_size}
use Rattle.slices.proofs.Writing.{part, part_is}
use Rattle.others.specs.Listed.{together, FitBehind}
use Rattle.std.specs.Prelude.{Option}
use Rattle.strikes.specs.Calls.{Struck, leaving, Put, LeftOf}
use Rattle.takes.specs.Taking.{BookEntryOf, behind_bytes, TakeAt, TakesPattern}
use Rattle.books.specs.Turning.{Turned, turn_numbers, turned_by, turned, TurnAt, Turns}
use Rattle.others.specs.declared.Full.{Full}
use Rattle.std.specs.Prelude.{Err}
use Rattle.strikes.proofs.Putting.{put_count, put-length}
use Rattle.strikes.proofs.Area.{no-patterns, entry_whole}
use Rattle.takes.proofs.Taking.{together-patterns}

-- ---- entries that fit

all_short : (W : Vocabulary) (s : ℕ) (l : List Term) → some_long W s l ≡ false → All (λ e. length (encode_term W s e) ≤ most_bytes) l
all_short W s [] e = tt
all_short W s (t ∷ l) e =
    let p = or_parts (ltb most_bytes (length (encode_term W s t))) (some_long W s l) e in
    (ltb-false most_bytes (length (encode_term W s t)) p.0, all_short W s l p.1)

short-all : (W : Vocabulary) (s : ℕ) (l : List Term) → All (λ e. length (encode_term W s e) ≤ most_bytes) l → some_long W s l ≡ false
short-all W s [] h = refl
short-all W s (t ∷ l) h = ap₂ (λ a b. a || b) (le-ltb most_bytes (length (encode_term W s t)) h.0) (short-all W s l h.1)

module _ (W : Vocabulary) (s room : ℕ) (l : List Term) where
  pub fits-passes : FitBehind (map (encode_term W s) l) 0 room → passes W s room l ≡ false
  fits-passes f =
      ap₂ (λ a b. a || b)
      (le-ltb room (length (patterns_bytes W s l)) (let a = f.all in let e = ap length (together-patterns W s l) in omega arith))
      (short-all W s l (all_unmap (λ b. length b ≤ most_bytes) (encode_term W s) l f.each))

  pub passes-fits : passes W s room l ≡ false → FitBehind (map (encode_term W s) l) 0 room
  passes-fits e =
      let p = or_parts (ltb room (length (patterns_bytes W s l))) (some_long W s l) e in
      record {
        each = all_map (λ b. length b ≤ most_bytes) (encode_term W s) l (all_short W s l p.1);
        all = let a = ltb-false room (length (patterns_bytes W s l)) p.0 in let e = ap length (together-patterns W s l) in omega arith;
      }

  -- The test has one of two answers.
  pub full-passes : (FitBehind (map (encode_term W s) l) 0 room → ⊥) → passes W s room l ≡ true
  full-passes full = go (passes W s room l) refl
    where
      go : (b : Bool) → passes W s room l ≡ b → passes W s room l ≡ true
      go true e = e
      go false e = absurd (full (passes-fits e))

-- ---- a turn

-- Plain numbers: omega would look into what is known of a size.
fewer : (all size : ℕ) → 1 + size ≤ all → all - (1 + size) < all
fewer all size h = omega arith

first-inside : (all size one more : ℕ) → all ≡ one + more → 1 + size ≡ one → 1 + size ≤ all
first-inside all size one more e f = omega arith

module _ {book from siblings settled : List ℕ} {i n entries room copied marked words : ℕ} {missing : Option ℕ}
    (h : TurnAt book i from n entries room copied marked siblings settled words missing) where
  abbrev W : Vocabulary
  W = h.vocabulary

  abbrev s : ℕ
  s = h.kind

  area-size : length (patterns_bytes W s h.es) ≡ n
  area-size = sym (ap length h.area) ∙ length-take-le n from h.inside

  -- No pattern is left: what is there is the listing.
  pub turn_ends : length book ≡ 0 → (out after : List ℕ) (r : Turned) → HasEffect (listed_into out entries (take n from)) (turn_numbers r) after →
      HasEffect (turned W s room i h.es h.ts out) (turn_numbers r) after
  turn_ends e out after r =
      subst (λ l. HasEffect l (turn_numbers r) after)
      (sym
      (ap (λ ts. turned W s room i h.es ts out) (no-patterns W s h.ts (sym (ap length h.stands) ∙ e))
      ∙ ap₂ (listed_into out) (sym h.many) (sym h.area)))

  -- What is known of the first pattern.
  record Turning : Type 0 where
    first : Term
    others : List Term
    is : h.ts ≡ first ∷ others
    good : Listable W s first
    goods : All (Listable W s) others
    span : length (encode_term W s first) ≤ h.span
    spans : All (λ t. length (encode_term W s t) ≤ h.span) others
    begins : book ≡ encode_term W s first ++ patterns_bytes W s others

  turn_begins : (length book ≡ 0 → ⊥) → Turning
  turn_begins e = go h.ts refl
    where
      go : (l : List Term) → h.ts ≡ l → Turning
      go [] q = absurd (e (ap length (h.stands ∙ ap (patterns_bytes W s) q)))
      go (t ∷ l) q =
          let g = subst (All (Listable W s)) q h.patterns_of in
          let p = subst (All (λ t. length (encode_term W s t) ≤ h.span)) q h.spans in
          record {
            first = t;
            others = l;
            is = q;
            good = g.0;
            goods = g.1;
            span = p.0;
            spans = p.1;
            begins = h.stands ∙ ap (patterns_bytes W s) q;
          }

  module _ (x : Turning) where
    -- No entry of the area is longer than the area.
    short-entries : (l : List Term) → length (patterns_bytes W s l) ≤ room → All (BookEntryOf W s) l →
        All (λ e. length (encode_term W s e) + length (encode_term W s x.first) ≤ copied) l
    short-entries [] k g = tt
    short-entries (e ∷ l) k g =
        let a = length-append (encode_term W s e) (patterns_bytes W s l) in
        let b = g.0.short in
        let c = h.copy in
        let d = x.span in
        (omega arith, short-entries l (omega arith) g.1)

    taking_of : (pattern : List ℕ) → pattern ≡ encode_term W s x.first → TakeAt (take n from) entries pattern copied siblings settled words missing
    taking_of pattern b = record {
      vocabulary = W;
      kind = s;
      es = h.es;
      term = x.first;
      tables = h.tables;
      each = h.entries_of;
      listable = x.good;
      stands = h.area;
      many = h.many;
      begins = b;
      copy = short-entries h.es (let r = h.rooms in let i = h.inside in let a = area-size in omega arith) h.entries_of;
      small = h.small;
    }

    abbrev next : List Term
    next = left_behind (signature W) s x.first h.es

    unfolded : (out : List ℕ) → turned W s room i h.es h.ts out ≡ turned W s room i h.es (x.first ∷ x.others) out
    unfolded out = ap (λ ts. turned W s room i h.es ts out) x.is

    past_is : (out : List ℕ) → (FitBehind (behind_bytes W s x.first h.es) 0 room → ⊥) →
        turned W s room i h.es h.ts out ≡ record { reply = refused 26 5 i; after = out }
    past_is out full =
        unfolded out
        ∙ ap (turned_by W s (left_in_turn (signature W) s x.others next) out)
        (cond_true (passes W s room next) (some i) (first_past W s room (suc i) next x.others) (full-passes W s room next full))

    goes_on_lem : (out : List ℕ) → FitBehind (behind_bytes W s x.first h.es) 0 room →
        turned W s room i h.es h.ts out ≡ turned W s room (i + 1) next x.others out
    goes_on_lem out fits =
        unfolded out
        ∙ ap (turned_by W s (left_in_turn (signature W) s x.others next) out)
        (cond_false (passes W s room next) (some i) (first_past W s room (suc i) next x.others) (fits-passes W s room next fits)
        ∙ ap (λ j. first_past W s room j next x.others) (let e : suc i ≡ i + 1 = omega arith in e))

    sorted : Sorted (signature W) x.first s
    sorted = x.good.holds.good.sorted.sorted

    short : length (encode_term W s x.first) ≤ most_bytes
    short = x.good.holds.limits.most

    next-entries : FitBehind (behind_bytes W s x.first h.es) 0 room → All (BookEntryOf W s) next
    next-entries fits =
        all_implies _ (BookEntryOf W s) (λ e (k, (l, b)). record { entry = k; low = l; short = b }) next
        (all_both (BookEntry (signature W) s) _ next
        (left-entries (signature W) s x.first h.es sorted
        (all_implies (BookEntryOf W s) (BookEntry (signature W) s) (λ e k. k.entry) h.es h.entries_of))
        (all_both (λ e. levels e ≤ most_levels) _ next
        (left-levels (signature W) most_levels s x.first h.es (let d = x.good.holds.limits.levels in omega arith)
        (all_implies (BookEntryOf W s) _ (λ e k. k.low) h.es h.entries_of))
        (all_unmap (λ b. length b ≤ most_bytes) (encode_term W s) next fits.each)))

    -- The areas change places.
    next_turn : (to to' : List ℕ) (n' k' size : ℕ) → length to ≡ room → Put (behind_bytes W s x.first h.es) 0 to to' n' k' →
        size ≡ length (encode_term W s x.first) →
        TurnAt (drop size book) (i + 1) to' n' k' (length from) copied marked siblings settled words missing
    next_turn to to' n' k' size same put e = record {
      vocabulary = W;
      kind = s;
      es = next;
      ts = x.others;
      span = h.span;
      tables = h.tables;
      entries_of = next-entries (subst (FitBehind (behind_bytes W s x.first h.es) 0) same put.listed.fits);
      patterns_of = x.goods;
      few = let c = h.few in let l = ap length x.is in omega arith;
      stands = ap (drop size) x.begins ∙ drop_at (encode_term W s x.first) (patterns_bytes W s x.others) size (sym e);
      area =
          ap (take n') put.listed.written.same
          ∙ take_at (together (behind_bytes W s x.first h.es)) (drop (length (together (behind_bytes W s x.first h.es))) to) n' (sym put.listed.written.count)
          ∙ together-patterns W s next;
      inside = let c = put_count put in let l = put-length put in let f = put.listed.fits.all in omega arith;
      many = put.count ∙ length-map next (encode_term W s);
      rooms = put-length put ∙ same ∙ sym h.rooms;
      spans = x.spans;
      copy = subst (λ r. min r most_bytes + h.span ≤ copied) (sym h.rooms) h.copy;
      small = h.small;
      marks = h.marks;
    }

  -- A pattern is left.
  module _ (some : length book ≡ 0 → ⊥) where
    x : Turning
    x = turn_begins some

    behind-kind : part 1 book ≡ encode_root W x.first ++ patterns_bytes W s x.others
    behind-kind = part_is 1 book ∙ ap (drop 1) x.begins

    pub turn_bytes : 1 ≤ length book
    turn_bytes = subst (λ l. 1 ≤ length l) (sym x.begins) (omega arith)

    pub turn_few : i + 1 ≤ most_patterns
    turn_few = let c = h.few in let l = ap length x.is in omega arith

    -- Its size was found behind its kind byte.
    module _ (size : ℕ) (ends : size ≡ term_size (part 1 book)) where
      whole-size : 1 + size ≡ length (encode_term W s x.first)
      whole-size =
          entry_whole W h.tables.in_order s x.first (sorted x) (short x) (patterns_bytes W s x.others) (part 1 book) behind-kind size ends

      pub turn_size : 1 + size ≤ length book
      turn_size =
          first-inside (length book) size (length (encode_term W s x.first)) (length (patterns_bytes W s x.others))
          (ap length x.begins ∙ length-append (encode_term W s x.first) (patterns_bytes W s x.others)) whole-size

      pub turn_less : (t : ℕ) → length book ≡ t → length (part (1 + size) book) < t
      turn_less t e =
          subst (λ l. length l < t) (sym (part_is (1 + size) book))
          (subst (λ k. k < t) (sym (length-drop (1 + size) book)) (subst (λ k. length book - (1 + size) < k) e (fewer (length book) size turn_size)))

      pub turn_short : 1 + size ≤ most_bytes
      turn_short = subst (λ n. n ≤ most_bytes) (sym whole-size) (short x)

      pattern_is : take (1 + size) book ≡ encode_term W s x.first
      pattern_is = ap (take (1 + size)) x.begins ∙ take_at (encode_term W s x.first) (patterns_bytes W s x.others) (1 + size) (sym whole-size)

      turn_takes : TakeAt (take n from) entries (take (1 + size) book) copied siblings settled words missing
      turn_takes = taking_of x (take (1 + size) book) pattern_is

      turn_marks : length (take (1 + size) book) ≤ marked
      turn_marks = subst (λ l. length l ≤ marked) (sym pattern_is) (le_trans x.span h.marks)

      module _ (to to' : List ℕ) (same : length to ≡ room) (r : Struck)
          (takes : TakesPattern (take n from) entries (take (1 + size) book) marked copied siblings settled words missing to to' r) where
        taken : LeftOf (behind_bytes W s x.first h.es) 0 to to' r
        unfolding turn_takes taking_of
        taken = takes turn_takes turn_marks

        pub turn_past : {x : Full} → r ≡ Err x → (out : List ℕ) → HasEffect (turned W s room i h.es h.ts out) (refused 26 5 i) out
        turn_past e out =
            subst (λ l. HasEffect l (refused 26 5 i) out)
            (sym
            (past_is x out
            (λ f. subst (LeftOf (behind_bytes W s x.first h.es) 0 to to') e taken (subst (FitBehind (behind_bytes W s x.first h.es) 0) (sym same) f))))
            (record { reply = refl; after = refl })

        module _ {n' k' : ℕ} (e : r ≡ leaving n' k') where
          put : Put (behind_bytes W s x.first h.es) 0 to to' n' k'
          put = subst (LeftOf (behind_bytes W s x.first h.es) 0 to to') e taken

          -- The copy and the marks are as long as before.
          module _ (copied' marked' : ℕ) (copies : copied' ≡ copied) (marking : marked' ≡ marked) where
            pub turn_next : TurnAt (part (1 + size) book) (i + 1) to' n' k' (length from) copied' marked' siblings settled words missing
            turn_next =
                subst (λ l. TurnAt l (i + 1) to' n' k' (length from) copied' marked' siblings settled words missing) (sym (part_is (1 + size) book))
                (subst (λ c. TurnAt (drop (1 + size) book) (i + 1) to' n' k' (length from) c marked' siblings settled words missing) (sym copies)
                (subst (λ m. TurnAt (drop (1 + size) book) (i + 1) to' n' k' (length from) copied m siblings settled words missing) (sym marking)
                (next_turn x to to' n' k' (1 + size) same put whole-size)))

            pub turn_goes : (out after : List ℕ) (t : Turned) →
                Turns (part (1 + size) book) (i + 1) to' n' k' (length from) copied' marked' siblings settled words missing out after t →
                HasEffect (turned W s room i h.es h.ts out) (turn_numbers t) after
            unfolding next_turn
            turn_goes out after t goes =
                let turns =
                subst (λ m. Turns (drop (1 + size) book) (i + 1) to' n' k' (length from) copied m siblings settled words missing out after t) marking
                (subst (λ c. Turns (drop (1 + size) book) (i + 1) to' n' k' (length from) c marked' siblings settled words missing out after t) copies
                (subst (λ l. Turns l (i + 1) to' n' k' (length from) copied' marked' siblings settled words missing out after t) (part_is (1 + size) book) goes)) in
                let due : turned W s room i h.es h.ts out ≡ turned W s (length from) (i + 1) (next x) x.others out =
                goes_on_lem x out (subst (FitBehind (behind_bytes W s x.first h.es) 0) same put.listed.fits)
                ∙ ap (λ m. turned W s m (i + 1) (next x) x.others out) (sym h.rooms) in
                subst (λ l. HasEffect l (turn_numbers t) after) (sym due) (turns (next_turn x to to' n' k' (1 + size) same put whole-size))
