-- Terms: a term of the entry and one of the pattern.
--
--   over-at, over-cut              the pattern has no word there: the entry's term is taken over, and there are no entries
--   closed-cut                     the pattern has a word there, and it is cut
--   here-word .. map-here          the word, its bytes and its map
--   node-lacks                     its bytes are there, in the entry and in the copy too
--   own-terms                      the entries of the other words, where the entry is open
--   node-full, node_early          what these entries end
--   node-places, node-on           the places of the word, and the cut there
--
use mathlib.Core.Path.{◌≡◌, refl, sym, ap, ap₂, ◌∙◌, subst}
use mathlib.Core.Bool.{Bool, true, false, true≢false}
use mathlib.Core.List.{List, [], ◌∷◌, ◌++◌, append_assoc}
use Prim.Native.Nat.{ℕ, suc, ◌+◌, ◌-◌, ◌<◌, ◌≤◌}
use native.Mathlib.Omega.{arith}
use lib.ListN.{length, get_or, take, drop, set, length-append, length-drop, length-set}
use lib.Seq.{get_or-drop, take-suc, take-suc-set}
use Rattle.terms.specs.Term.{Term, any, var, app, Sorted}
use Rattle.terms.specs.Book.{both, both_all}
use Rattle.wire.specs.Map.{map_bits, map_bytes, write_map, flags, is_open}
use Rattle.wire.specs.Vocabulary.{Vocabulary, signature, map_of}
use Rattle.wire.specs.TermBytes.{written_map, encode_at, encode_all, levels}
use Rattle.wire.specs.EntryAgainst.{places_of_word, written_bits, cut_at, cut_all_at}
use Rattle.wire.proofs.Map.{length-flags_in}
use Rattle.wire.proofs.Words.{length_symbols}
use Rattle.maps.specs.Reading.{map_at}
use Rattle.maps.proofs.Reading.{map_at_lem}
use Rattle.extents.specs.Extents.{term_size}
use Rattle.extents.proofs.Extents.{term_extent}
use Rattle.others.specs.Listed.{FitBehind, Listed}
use Rattle.others.proofs.Entries.{listed_none, listed-inside, listed-length}
use Rattle.cuts.specs.declared.own.Walk.{Walk}
use Rattle.cuts.specs.declared.walk.Bits.{Bits}
use Rattle.cuts.specs.declared.walk.Node.{Node}
use Rattle.std.specs.Prelude.{Option, Some, None, Ok, Err}
use Rattle.cuts.specs.Walking.{Step, full, passed, Moved, Over, StaysOver}
use Rattle.cuts.specs.Own.{OwnListed, OwnEnds, own, OpenAt, ListsOwn}
use Rattle.cuts.specs.Cutting.{From, Finished, CutEnds, Room, NodesRead, NodesFound, wordless_at, extent_at, OverAt, TakenOver, TakesOver, TermsAt, TermsEnd, CutsWord, CutPlacesAt, CutsPlaces}
use Rattle.cuts.proofs.Walking.{Had, nothing, name, a_word, had}
use Rattle.cuts.proofs.Pairs.{placed}
use Rattle.cuts.proofs.Words.{both_open, both-name, Word, word_of}
use Rattle.cuts.proofs.Ending.{ends_on, ends_early, ends-full, from_on}

open_is : (t : Term) → is_open t ≡ true → t ≡ any
open_is any e = refl
open_is (var n) e = absurd (true≢false (sym e))
open_is (app f ts) e = absurd (true≢false (sym e))

no_bytes : (W : Vocabulary) (t : Term) → is_open t ≡ true → encode_at W t ≡ []
no_bytes W t e = ap (encode_at W) (open_is t e)

-- What stands at an offset.
byte_at : {bytes rest : List ℕ} {i : ℕ} → From bytes rest i → (k : ℕ) → get_or bytes (i + k) 0 ≡ get_or rest k 0
byte_at {bytes} {rest} {i} f k = sym (get_or-drop i bytes k 0) ∙ ap (λ l. get_or l k 0) f.same

room_at : {bytes rest : List ℕ} {i : ℕ} → From bytes rest i → i + length rest ≡ length bytes
room_at {bytes} {rest} {i} f = let k = f.inside in omega (arith, length-drop i bytes, ap length f.same)

module _ {copy : List ℕ} {w : Walk} {blank : Bool} {entry : List ℕ} {gap : Bool} {pattern siblings : List ℕ} {left : ℕ} (before : List ℕ)
    (h : TermsAt copy w blank entry gap pattern siblings left (length before)) where
  abbrev W : Vocabulary
  W = h.vocabulary

  abbrev entries : List (List ℕ)
  entries = cut_at W h.other h.mine h.front h.tail

  abbrev bytes : List ℕ
  bytes = h.front ++ encode_at W (both h.mine h.other)

  first_byte : get_or pattern w.pattern 0 ≡ get_or (encode_at W h.other ++ h.rest) 0 0
  first_byte = ap (λ i. get_or pattern i 0) (let e : w.pattern ≡ w.pattern + 0 = omega arith in e) ∙ byte_at h.pattern_from 0

  -- ---- the pattern has no word there

  over-at : OverAt copy w blank entry
  unfolding extent_at
  over-at = record {
    term = encode_at W h.mine;
    tail = h.tail;
    from = h.entry_from;
    none = λ e. no_bytes W h.mine (h.blanks ∙ e);
    size =
        λ e.
        ap term_size h.entry_from.same
        ∙ term_extent W h.tables.in_order h.mine h.pair.kind h.pair.entry (h.blanks ∙ e)
        (omega (arith, h.room, h.small, length-append (encode_at W h.mine) h.tail)) h.tail;
    room = omega (arith, h.room, length-append (encode_at W h.mine) h.tail);
  }

  abbrev Passes : ℕ → Walk → Type 0
  Passes q end = Over (length copy) (length entry) w q end

  over_finished : entries ≡ [] → both h.mine h.other ≡ h.mine → (q : ℕ) → q ≡ w.pattern + length (encode_at W h.other) →
      {copied : List ℕ} {end : Walk} → Passes q end → TakenOver copy w (encode_at W h.mine) copied end → TermsEnd h before copied before (Ok end)
  over_finished none same q passes {copied} {end} o t =
      let here : bytes ≡ h.front ++ encode_at W h.mine = ap (λ u. h.front ++ encode_at W u) same in
      record {
        listed = subst (λ ls. Listed ls w.written end.written before before) (sym none)
            (subst (λ n. Listed [] w.written n before before) (sym o.written) (listed_none before h.inside));
        todo = omega (arith, o.todo, h.due, ap length none);
        passed = λ later. record {
          at = omega (arith, t.at, ap length here, length-append h.front (encode_at W h.mine), h.begins);
          stands = t.stands ∙ ap (λ l. l ++ encode_at W h.mine) h.copied ∙ sym here;
          entry = t.entry;
          pattern = o.pattern ∙ passes;
        };
      }

  gap-over : gap ≡ true → {copied : List ℕ} {end : Walk} (q : ℕ) → q ≡ w.pattern → Passes q end → TakenOver copy w (encode_at W h.mine) copied end →
      TermsEnd h before copied before (Ok end)
  gap-over e q passes o t =
      let open-there : h.other ≡ any = open_is h.other (h.gaps ∙ e) in
      over_finished (ap (λ p. cut_at W p h.mine h.front h.tail) open-there)
      (ap (both h.mine) open-there ∙ both_open h.mine h.pair.nameless) q
      (omega (arith, ap (λ p. length (encode_at W p)) open-there)) o t

  name-over : gap ≡ false → 127 < get_or pattern w.pattern 0 → {copied : List ℕ} {end : Walk} (q : ℕ) → q ≡ w.pattern + 1 →
      Passes q end → TakenOver copy w (encode_at W h.mine) copied end → TermsEnd h before copied before (Ok end)
  name-over e k {copied} {end} q passes o t = go h.other refl
    where
      go : (p : Term) → h.other ≡ p → TermsEnd h before copied before (Ok end)
      go any s = absurd (true≢false (sym (ap is_open s) ∙ h.gaps ∙ e))
      go (var n) s =
          over_finished (ap (λ p. cut_at W p h.mine h.front h.tail) s) (ap (both h.mine) s ∙ both-name h.mine n h.pair.nameless) q
          (omega (arith, ap (λ p. length (encode_at W p)) s)) o t
      go (app f ps) s =
          let sorted = subst (λ p. Sorted (signature W) p h.pair.kind) s h.pair.pattern in
          absurd (omega (arith, first_byte, ap (λ p. get_or (encode_at W p ++ h.rest) 0 0) s, sorted.0, length_symbols W, h.tables.in_order.few_words))

  -- What the pattern has there.
  module _ {k : Option ℕ} (kind : k ≡ wordless_at gap pattern w.pattern) where
    pub over-cut : {size : ℕ} → k ≡ Some size → (copied : List ℕ) (r : Step) → StaysOver (length copy) (length entry) w (w.pattern + size) r →
        TakesOver copy w blank entry copied r → TermsEnd h before copied before r
    unfolding over-at
    over-cut {size} l copied (Ok end) o t = go (had gap pattern w.pattern kind)
      where
        go : Had gap pattern w.pattern k → TermsEnd h before copied before (Ok end)
        go (nothing e z) = gap-over e (w.pattern + size) (let n : size ≡ 0 = cc in omega arith) o (t over-at)
        go (name e b z) = name-over e b (w.pattern + size) (let n : size ≡ 1 = cc in omega arith) o (t over-at)
        go (a_word e b z) = cc
    over-cut l copied (Err x) o t = absurd (t over-at)

    word_had : k ≡ None → (gap ≡ false) × (get_or pattern w.pattern 0 ≤ 127)
    word_had l = go (had gap pattern w.pattern kind)
      where
        go : Had gap pattern w.pattern k → (gap ≡ false) × (get_or pattern w.pattern 0 ≤ 127)
        go (nothing e z) = cc
        go (name e b z) = cc
        go (a_word e b z) = (e, b)

  -- ---- the pattern has a word there

  closed-terms : gap ≡ false → TermsAt copy w blank entry false pattern siblings left (length before)
  closed-terms e = record {
    vocabulary = W;
    mine = h.mine;
    other = h.other;
    front = h.front;
    tail = h.tail;
    rest = h.rest;
    later = h.later;
    tables = h.tables;
    pair = h.pair;
    blanks = h.blanks;
    gaps = h.gaps ∙ e;
    deep = h.deep;
    begins = h.begins;
    copied = h.copied;
    entry_from = h.entry_from;
    pattern_from = h.pattern_from;
    room = h.room;
    small = h.small;
    inside = h.inside;
    due = h.due;
  }

  closed-end : (e : gap ≡ false) (copied after : List ℕ) (r : Step) → TermsEnd (closed-terms e) before copied after r → TermsEnd h before copied after r
  unfolding closed-terms
  closed-end e copied after r t = t

  pub closed-cut : {k : Option ℕ} → k ≡ wordless_at gap pattern w.pattern → k ≡ None → (copied after : List ℕ) (r : Step) →
      CutsWord copy w blank entry pattern siblings left before copied after r → TermsEnd h before copied after r
  closed-cut kind l copied after r does =
      let x = word_had kind l in
      closed-end x.0 copied after r (does (closed-terms x.0) x.1)

  module _ (closed : gap ≡ false) (low : get_or pattern w.pattern 0 ≤ 127) where
    here-word : Word W h.mine h.other
    here-word = word_of W h.tables.in_order h.mine h.other h.rest h.pair (h.gaps ∙ closed) (omega (arith, first_byte))

    abbrev x : Word W h.mine h.other
    x = here-word

    abbrev f : ℕ
    f = x.f

    other-bytes : encode_at W h.other ++ h.rest ≡ f ∷ (written_map W f x.ps ∷ (encode_all W x.ps ++ h.rest))
    other-bytes = ap (λ p. encode_at W p ++ h.rest) x.same

    mine-bytes : encode_at W h.mine ++ h.tail ≡ x.head ++ (encode_all W x.es ++ h.tail)
    mine-bytes = ap (λ l. l ++ h.tail) x.mine ∙ append_assoc x.head (encode_all W x.es) h.tail

    other_from : From pattern (f ∷ (written_map W f x.ps ∷ (encode_all W x.ps ++ h.rest))) w.pattern
    other_from = subst (λ l. From pattern l w.pattern) other-bytes h.pattern_from

    mine-from : From entry (x.head ++ (encode_all W x.es ++ h.tail)) w.entry
    mine-from = subst (λ l. From entry l w.entry) mine-bytes h.entry_from

    word-here : get_or pattern w.pattern 0 ≡ f
    word-here = first_byte ∙ ap (λ l. get_or l 0 0) other-bytes

    map-here : map_at pattern (w.pattern + 1) ≡ written_map W f x.ps
    map-here = sym (map_at_lem pattern (w.pattern + 1)) ∙ byte_at other_from 1

    copy-inside : w.at + (1 + map_bytes) ≤ length copy
    copy-inside = omega (arith, h.room, ap length other-bytes)

    room-here : Room left blank (length entry - w.entry) (length pattern - w.pattern) (length copy - w.at)
    room-here = record {
      level = omega (arith, h.deep, ap levels x.same);
      mine =
          λ e.
          omega (arith, room_at mine-from, length-append x.head (encode_all W x.es ++ h.tail), ap length (x.closed (h.blanks ∙ e)));
      other = omega (arith, room_at other_from);
      put = omega (arith, copy-inside);
    }

    pub node-lacks : NodesFound left blank entry w.entry pattern w.pattern (length copy - w.at) None →
        (copied after : List ℕ) → TermsEnd h before copied after full
    node-lacks n copied after fits = n room-here

    -- Both words are read.
    module _ {node : Node} (n : NodesRead blank entry w.entry pattern w.pattern node) where
      word_is : node.word ≡ f
      word_is = n.word ∙ word-here

      node_is : (node.size ≡ length x.head) × (node.entry ≡ written_map W f x.es)
      node_is = go blank refl
        where
          go : (b : Bool) → blank ≡ b → (node.size ≡ length x.head) × (node.entry ≡ written_map W f x.es)
          go true e =
              let o = x.opened (h.blanks ∙ e) in
              let r = n.opened e in
              (r.0 ∙ sym (ap length o.0), r.1 ∙ sym o.1)
          go false e =
              let o = x.closed (h.blanks ∙ e) in
              let r = n.closed e in (
                r.0 ∙ sym (ap length o),
                r.1 ∙ sym (map_at_lem entry (w.entry + 1)) ∙ byte_at mine-from 1
                    ∙ ap (λ l. get_or (l ++ (encode_all W x.es ++ h.tail)) 1 0) o,
              )

      abbrev above : List (List ℕ)
      above = cut_all_at W x.ps x.es f (places_of_word W f) 0 [] h.front h.tail

      abbrev mine-part : List ℕ
      mine-part = drop w.entry entry

      part-here : mine-part ≡ encode_at W h.mine ++ h.tail
      part-here = h.entry_from.same

      abbrev mine-own : List (List ℕ)
      mine-own = own blank W node.word (take w.at copy) mine-part

      own_is : mine-own ≡ own (is_open h.mine) W f h.front (encode_at W h.mine ++ h.tail)
      own_is =
          ap (λ g. own blank W g (take w.at copy) mine-part) word_is
          ∙ ap (λ b. own b W f (take w.at copy) mine-part) (sym h.blanks)
          ∙ ap₂ (own (is_open h.mine) W f) h.copied part-here

      split_entries : entries ≡ mine-own ++ above
      split_entries = x.cuts h.front h.tail ∙ ap (λ l. l ++ above) (sym own_is)

      own-terms : OpenAt copy w.at blank mine-part node.word siblings w
      own-terms = record {
        vocabulary = W;
        later = length above + h.later;
        tables = h.tables;
        known = omega (arith, word_is, x.known);
        due = omega (arith, h.due, ap length split_entries, length-append mine-own above);
      }

      abbrev ListsHere : List ℕ → Step → Type 0
      ListsHere mid r = ListsOwn copy w.at blank mine-part node.word siblings w before mid r

      abbrev OwnCut : List ℕ → Step → Type 0
      OwnCut mid r = OwnEnds (own blank own-terms.vocabulary node.word (take w.at copy) mine-part) own-terms.later w before mid r

      -- These entries do not fit.
      pub node-full : (mid : List ℕ) {r : Step} → r ≡ full → ListsHere mid r → (copied : List ℕ) → TermsEnd h before copied mid full
      unfolding own-terms
      node-full mid told lists copied =
          subst (λ ls. FitBehind ls w.written (length before) → ⊥) (sym split_entries) (ends-full mine-own above (subst (OwnCut mid) told (lists own-terms)))

      -- They are written.
      module _ (mid : List ℕ) {r : Step} {next : Walk} (told : r ≡ Ok next) (lists : ListsHere mid r) where
        d : OwnListed mine-own (length above + h.later) w before mid next
        unfolding own-terms
        d = subst (OwnCut mid) told (lists own-terms)

        pub node_early : next.todo ≡ 0 → (copied : List ℕ) → TermsEnd h before copied mid (Ok next)
        node_early z copied =
            let i : ℕ = w.entry + length (encode_at W h.mine) in
            let q : ℕ = w.pattern + length (encode_at W h.other) in
            subst (λ ls. Finished ls bytes i q h.later w.written before copied mid next) (sym split_entries)
            (ends_early mine-own above bytes i q h.later next d.listed d.todo z copied)

        abbrev bits : Bits
        bits = record { top = w.at; low = 0; bit = 1; entry = node.entry; pattern = node.pattern }

        abbrev word-copy : List ℕ
        word-copy = set copy w.at node.word

        abbrev current : ℕ
        current = get_or word-copy (w.at + 1) 0

        module _ (moved : Moved (passed w node.size) (length before) next) where
          stands : take next.at word-copy ≡ h.front ++ (f ∷ (write_map current ++ []))
          stands =
              ap (λ n. take n word-copy) (let e : next.at ≡ suc (suc w.at) = omega (arith, moved.at) in e)
              ∙ take-suc word-copy (suc w.at) 0 (omega (arith, length-set copy w.at node.word, copy-inside))
              ∙ ap₂ (λ l k. l ++ (get_or word-copy k 0 ∷ [])) (take-suc-set copy w.at node.word (omega (arith, copy-inside)))
              (let e : suc w.at ≡ w.at + 1 = omega arith in e)
              ∙ append_assoc (take w.at copy) (node.word ∷ []) (current ∷ [])
              ∙ ap₂ (λ l g. l ++ (g ∷ (current ∷ []))) h.copied word_is

          node-places : CutPlacesAt word-copy next bits entry pattern siblings (left - 1) (length mid)
          node-places = record {
            vocabulary = W;
            word = f;
            b = 0;
            fs = flags (map_of W f);
            mine = x.es;
            other = x.ps;
            current = current;
            front = h.front;
            body = [];
            tail = h.tail;
            rest = h.rest;
            later = h.later;
            tables = h.tables;
            pairs = x.pairs;
            places = omega (arith, length-flags_in map_bits (map_of W f));
            bit = refl;
            low = omega arith;
            mine_bits = node_is.1;
            other_bits = n.other ∙ map-here;
            deep = omega (arith, h.deep, ap levels x.same);
            top = h.begins;
            begins = omega (arith, moved.at, h.begins);
            copied = stands;
            entry_from = from_on x.head (encode_all W x.es ++ h.tail) mine-from (omega (arith, moved.entry, node_is.0));
            pattern_from =
                from_on (f ∷ (written_map W f x.ps ∷ [])) (encode_all W x.ps ++ h.rest) other_from (omega (arith, moved.pattern));
            room =
                omega (
                  arith,
                  moved.at,
                  h.room,
                  ap length other-bytes,
                  ap length mine-bytes,
                  length-append x.head (encode_all W x.es ++ h.tail),
                  length-set copy w.at node.word,
                );
            small = omega (arith, h.small, length-set copy w.at node.word);
            inside = omega (arith, listed-inside d.listed, listed-length d.listed);
            due = d.todo;
          }

          bytes-here : h.front ++ (f ∷ (write_map (0 + written_bits (places_of_word W f) (both_all x.es x.ps)) ++ ([] ++ encode_all W (both_all x.es x.ps)))) ≡ bytes
          bytes-here =
              ap (λ m. h.front ++ (f ∷ (write_map m ++ encode_all W (both_all x.es x.ps))))
              (omega (arith, placed (flags (map_of W f)) 0 (both_all x.es x.ps)))
              ∙ ap (λ l. h.front ++ l) (sym x.bytes)

          pub node-on : (copied after : List ℕ) (r : Step) → CutsPlaces word-copy next bits entry pattern siblings (left - 1) mid copied after r → TermsEnd h before copied after r
          unfolding node-places
          node-on copied after r does =
              subst (λ ls. CutEnds ls bytes (w.entry + length (encode_at W h.mine)) (w.pattern + length (encode_at W h.other)) h.later w.written before copied after r)
              (sym split_entries)
              (ends_on mine-own above h.later bytes-here entry_next pattern-next d.listed copied after r (does node-places))
            where
              entry_next : next.entry + length (encode_all W x.es) ≡ w.entry + length (encode_at W h.mine)
              entry_next = omega (arith, moved.entry, node_is.0, ap length x.mine, length-append x.head (encode_all W x.es))

              pattern-next : next.pattern + length (encode_all W x.ps) ≡ w.pattern + length (encode_at W h.other)
              pattern-next = omega (arith, moved.pattern, ap (λ p. length (encode_at W p)) x.same)
