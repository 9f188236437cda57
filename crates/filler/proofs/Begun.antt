-- Begun: the loop that writes the result: the nodes of the pattern before an offset are written.
--
--   bytes_from p b starts i              the bytes that the pattern's nodes from the offset i on give
--   result_bytes p b starts, bytes-all   those of all nodes, behind the kind byte: they are the result
--   Begun                               the invariant
--   begun-kind                          it holds once the kind byte is written
--   begun-length                        the length of the lent slice stays
--   word_room, name-room, byte-room     the node at the offset has room
--   begun-word, begun-name, begun-byte  the turns
--   begun_all                           behind the last byte all is written
--
use mathlib.Core.Path.{◌≡◌, refl, sym, ap, subst, ◌∙◌}
use mathlib.Core.List.{List, [], ◌∷◌, ◌++◌, append-nil, append_assoc}
use Prim.Native.Nat.{ℕ, ◌+◌, ◌-◌, ◌%◌, ◌<◌, ◌≤◌}
use native.Mathlib.Omega.{arith}
use lib.ListN.{length, get_or, drop, set, length-append, length-set, drop_of_length-le}
use lib.Seq.{drop-set-lt}
use Rattle.wire.specs.Map.{map_bytes, write_map}
use Rattle.wire.specs.Row.{write_row}
use Rattle.wire.specs.Filled.{filled_bytes}
use Rattle.maps.specs.Reading.{map_at}
use Rattle.maps.specs.Writing.{map_put}
use Rattle.slices.specs.Written.{Written}
use Rattle.slices.proofs.Writing.{written_byte, written-length}
use Rattle.filler.specs.Ready.{Ready, Writable, WritesResult, Puttable, PutsValue}
use Rattle.filler.proofs.Nodes.{Node, nodes_in, pass_word, pass_name, pass_other, nodes-pattern}
use Rattle.filler.proofs.Filled.{node_bytes, filled-root}
use Rattle.filler.proofs.Putting.{written-word, written-put}
use Rattle.filler.proofs.Starts.{cut_value, starts-up, starts-inside, cut-size, cut-values}

abbrev pub bytes_from : List ℕ → List ℕ → List ℕ → ℕ → List ℕ
bytes_from p b starts i = write_row (node_bytes (cut_value b starts)) (nodes_in 0 (drop i p))

abbrev pub result_bytes : List ℕ → List ℕ → List ℕ → List ℕ
result_bytes p b starts = get_or p 0 0 ∷ bytes_from p b starts 1

pub bytes-all : {p b starts depths : List ℕ} (a : Ready p b starts depths) → result_bytes p b starts ≡ filled_bytes a.inputs
bytes-all {p} {b} {starts} a =
    let x = a.inputs in
    let nodes = nodes-pattern x.vocabulary a.held.vocabulary.in_order x.kind x.pattern a.held.pattern.good in
    ap (λ l. result_bytes l b starts) a.held.pattern.written
    ∙ ap {B = List ℕ} (λ l. x.kind ∷ l)
    (ap (write_row (node_bytes (cut_value b starts))) nodes
    ∙ filled-root x.vocabulary x.values (cut_value b starts) x.pattern (cut-values a))

pub record Begun (p b starts before : List ℕ) (n i : ℕ) (out : List ℕ) : Type 0 where
  pub fits : length (result_bytes p b starts) ≤ length before
  pub done : List ℕ
  pub written : Written done before n out
  pub whole : done ++ bytes_from p b starts i ≡ result_bytes p b starts

pub begun-kind : (p b starts out : List ℕ) → Writable p b starts (length out) → Begun p b starts (set out 0 (get_or p 0 0)) 1 1 (set out 0 (get_or p 0 0))
begun-kind p b starts out a = record {
  fits = omega (arith, a.fits, ap length (bytes-all a.ready), length-set out 0 (get_or p 0 0));
  done = get_or p 0 0 ∷ [];
  written = go out (omega (arith, a.fits, ap length (bytes-all a.ready)));
  whole = refl;
}
  where
    go : (out : List ℕ) → 0 < length out → Written (get_or p 0 0 ∷ []) (set out 0 (get_or p 0 0)) 1 (set out 0 (get_or p 0 0))
    go [] h = absurd (omega arith)
    go (c ∷ out) h = record { count = refl; same = refl }

module _ {p b starts before out : List ℕ} {n i : ℕ} (h : Begun p b starts before n i out) where
  abbrev g : ℕ → List ℕ
  g = cut_value b starts

  short : length h.done ≤ length before
  short = omega (arith, h.fits, ap length h.whole, length-append h.done (bytes_from p b starts i))

  pub begun-length : length out ≡ length before
  begun-length = written-length h.written short

  done_all : length p ≤ i → h.done ≡ result_bytes p b starts
  done_all k =
      sym (append-nil h.done) ∙ ap (λ l. h.done ++ write_row (node_bytes g) (nodes_in 0 l)) (sym (drop_of_length-le p {i = i} k)) ∙ h.whole

  -- The node at the offset has its room.
  module _ (x : Node) (ns : List Node) (e : nodes_in 0 (drop i p) ≡ x ∷ ns) where
    rest : h.done ++ (node_bytes g x ++ write_row (node_bytes g) ns) ≡ result_bytes p b starts
    rest = ap (λ l. h.done ++ write_row (node_bytes g) l) (sym e) ∙ h.whole

    begun-room : length h.done + length (node_bytes g x) ≤ length before
    begun-room =
        omega (
          arith,
          h.fits,
          ap length rest,
          length-append h.done (node_bytes g x ++ write_row (node_bytes g) ns),
          length-append (node_bytes g x) (write_row (node_bytes g) ns),
        )

    begun_more : {m k : ℕ} {after : List ℕ} → ns ≡ nodes_in 0 (drop k p) → Written (h.done ++ node_bytes g x) before m after → Begun p b starts before m k after
    begun_more {m} {k} {after} same w = record {
      fits = h.fits;
      done = h.done ++ node_bytes g x;
      written = w;
      whole =
          ap (λ l. (h.done ++ node_bytes g x) ++ write_row (node_bytes g) l) (sym same)
          ∙ append_assoc h.done (node_bytes g x) (write_row (node_bytes g) ns)
          ∙ rest;
    }

  module _ (inside : i < length p) where
    abbrev c : ℕ
    c = get_or p i 0

    module _ (low : c < 128) where
      pub word_room : n + (1 + map_bytes) ≤ length out
      word_room =
          omega (arith, begun-length, h.written.count, begun-room _ _ (pass_word p i inside low))

      pub begun-word : {m : ℕ} {after : List ℕ} → m ≡ map_at p (i + 1) → after ≡ map_put m (set out n c) (n + 1) →
          Begun p b starts before (n + (1 + map_bytes)) (i + (1 + map_bytes)) after
      begun-word {m} {after} e k =
          begun_more _ _ (pass_word p i inside low) refl
          (subst (λ l. Written (h.done ++ (c ∷ write_map (map_at p (i + 1)))) before (n + (1 + map_bytes)) l)
          (sym (k ∙ ap (λ m. map_put m (set out n c) (n + 1)) e))
          (written-word h.written c (map_at p (i + 1)) (begun-room _ _ (pass_word p i inside low))))

    module _ {depths : List ℕ} (a : Ready p b starts depths) (low : 128 ≤ c) (high : c < 192) where
      abbrev from : ℕ
      from = get_or starts (c - 128) 0

      abbrev to : ℕ
      to = get_or starts (c - 128 + 1) 0

      size : length (g (c - 128)) ≡ to - from
      size = cut-size a (c - 128) (omega arith)

      room-here : Puttable b from to out n
      room-here = record {
        up = starts-up a (c - 128) (omega arith);
        inside = starts-inside a (c - 128 + 1) (omega arith);
        room = omega (arith, begun-length, h.written.count, size, begun-room _ _ (pass_name p i inside low high));
      }

      begun-here : {after : List ℕ} → PutsValue b from to out n after → Begun p b starts before (n + (to - from)) (i + 1) after
      begun-here w = begun_more _ _ (pass_name p i inside low high) refl (written-put h.written (g (c - 128)) w)

      -- The same of its number by the remainder, which is below 64 whatever byte it is.
      number : c % 64 ≡ c - 128
      number = omega arith

      pub name-room : Puttable b (get_or starts (c % 64) 0) (get_or starts (c % 64 + 1) 0) out n
      name-room = subst (λ m. Puttable b (get_or starts m 0) (get_or starts (m + 1) 0) out n) (sym number) room-here

      pub begun-name : {after : List ℕ} → PutsValue b (get_or starts (c % 64) 0) (get_or starts (c % 64 + 1) 0) out n after →
          Begun p b starts before (n + (get_or starts (c % 64 + 1) 0 - get_or starts (c % 64) 0)) (i + 1) after
      begun-name {after} =
          subst
          (λ m.
          PutsValue b (get_or starts m 0) (get_or starts (m + 1) 0) out n after →
          Begun p b starts before (n + (get_or starts (m + 1) 0 - get_or starts m 0)) (i + 1) after) (sym number) begun-here

    module _ (high : 192 ≤ c) where
      pub byte-room : n < length out
      byte-room = omega (arith, begun-length, h.written.count, begun-room _ _ (pass_other p i inside high))

      pub begun-byte : Begun p b starts before (n + 1) (i + 1) (set out n c)
      begun-byte =
          begun_more _ _ (pass_other p i inside high) refl
          (written_byte h.written c (omega (arith, begun-room _ _ (pass_other p i inside high))))

-- The kind byte, which is written before the loop, is none of those behind.
pub begun_all : {p b starts out : List ℕ} {n i : ℕ} (before : List ℕ) (k : ℕ) → Begun p b starts (set before 0 k) n i out → length p ≤ i →
    WritesResult p b starts before out
begun_all {p} {b} {starts} {out} {n} {i} before k h e a =
    h.written.same
    ∙ ap (λ l. l ++ drop (length l) (set before 0 k)) (done_all h e ∙ bytes-all a.ready)
    ∙ ap (λ l. filled_bytes a.ready.inputs ++ l) (drop-set-lt (length (filled_bytes a.ready.inputs)) before 0 k (omega arith))
