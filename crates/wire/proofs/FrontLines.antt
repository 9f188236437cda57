-- FrontLines: a pattern that begins some bytes is refused by lines 7 to 14, where a 4,097th byte is due by line 7.
--
--   front-once                one number at one place decides
--   every_line                the lines of some bytes, by those of the bytes in the window
--   FrontJudged W b g         the lines decide on what is read of the front of b as g
--   front-judged              they do
--   front-stops, stops-front  a number is given exactly where it decides
--
use mathlib.Core.Path.{◌≡◌, refl, sym, ap, ap₂, ◌∙◌, subst}
use mathlib.Core.Bool.{Bool, true, false, not, ◌&&◌, cond}
use mathlib.Core.List.{List, [], ◌∷◌, ◌++◌, append-nil}
use mathlib.Core.Logic.{◌⊎◌, inl, inr}
use Prim.Native.Nat.{ℕ, suc, ◌+◌, ◌≤◌, ◌<◌}
use native.Mathlib.Omega.{arith}
use lib.Dec.{eqb, ltb}
use lib.ListN.{length, drop, length-append}
use borrow.Author.Tests.{ltb-true, ltb-false, eqb-true, eqb-false, ne_eqb}
use Rattle.wire.specs.Map.{map_bytes}
use Rattle.wire.specs.Reply.{Kinded}
use Rattle.wire.specs.Vocabulary.{Vocabulary, InOrder}
use Rattle.wire.specs.TermBytes.{least_bytes, most_bytes}
use Rattle.wire.specs.Refusals.{Earlier}
use Rattle.wire.specs.TermLines.{Due, State, Word?, LeadsTo, NodeLine}
use Rattle.wire.specs.BookLines.{FrontLine, FrontDecides}
use Rattle.wire.specs.Parser.{Got, got, stop, Read}
use Rattle.wire.specs.BookComputed.{front_of, read_front}
use Rattle.wire.proofs.Cond.{cond_false, choice}
use Rattle.wire.proofs.Refusals.{earlier_later, no-later, earlier_byte, earlier_once}
use Rattle.wire.proofs.Map.{map-lacks, map-short}
use Rattle.wire.proofs.ScanPath.{leads_to_path}
use Rattle.wire.proofs.LinesRead.{node-number, NoMap, nine_ends, LineIn, nine_place, StopsAt, EndsAt, LinesJudged, lines_judged}
use Rattle.wire.proofs.TermRefusals.{same_bytes}
use Rattle.wire.proofs.CutLines.{with_rest, leads_longer, line_longer, Ends, CutTo, EndsBy, ends_by, leads-cut, line-cut}
use Rattle.wire.proofs.FrontReading.{window, Cut, window_cuts, in_window}

-- ---- one decides

-- The place of a line is told by its number and its byte.
abbrev place_of : ℕ → ℕ → ℕ
place_of n at = cond (eqb n 7) 0 at

line-place : (W : Vocabulary) (b : List ℕ) {n at q : ℕ} → FrontLine W b n at q → q ≡ place_of n at
line-place W b (FrontLine.short h) = refl
line-place W b (FrontLine.long s l x d ds e p u h) = refl
line-place W b (FrontLine.long_in_map s l x d ds f r e p u v w h k) = refl
line-place W b (FrontLine.kind s l e h) = refl
line-place W b (FrontLine.inside s l x d ds n q e p u h) =
    sym (cond_false (eqb n 7) 0 q (ne_eqb n 7 (λ z. omega (arith, node-number W x d h))))

pub front-once : (W : Vocabulary) (b : List ℕ) (n q m r : ℕ) → FrontDecides W b n q → FrontDecides W b m r → (n ≡ m) × (q ≡ r)
front-once W b n q m r x y =
    let same = earlier_once n x.at m y.at (x.first m y.at r y.fits) (y.first n x.at q x.fits) in
    (same.0, line-place W b x.fits ∙ ap₂ place_of same.0 same.1 ∙ sym (line-place W b y.fits))

-- ---- the lines of the whole bytes and of those in the window

abbrev pub FrontJudged : Vocabulary → List ℕ → Got Kinded → Type 0
FrontJudged W b (got k r) = (n at q : ℕ) → FrontLine W b n at q → ⊥
FrontJudged W b (stop n r) = (q : ℕ) × FrontDecides W b n q × (q + length r ≡ length b)

-- The kind byte s is in order; of the bytes behind it c are in the window and x behind it.
module _ (W : Vocabulary) (in_order : InOrder W) (s : ℕ) (c x : List ℕ) (below : s < W.kinds) (some : 1 ≤ length (c ++ x))
    (fits : suc (length c) ≤ most_bytes) (rest : (suc (length c) ≡ most_bytes) ⊎ (x ≡ [])) where
  abbrev b : List ℕ
  b = s ∷ (c ++ x)

  full : most_bytes ≤ suc (length (c ++ x)) → suc (length c) ≡ most_bytes
  full h = go rest
    where
      go : (suc (length c) ≡ most_bytes) ⊎ (x ≡ []) → suc (length c) ≡ most_bytes
      go (inl e) = e
      go (inr e) = omega (arith, length-append c x, ap length e)

  -- A state of all bytes that lies where the window ends.
  long-ends : (y : State) (d : Due) (ds : List Due) → LeadsTo W s (c ++ x) y → y.due ≡ d ∷ ds → y.at ≡ most_bytes → Ends W s c
  long-ends y d ds p u at = go (leads-cut W in_order s c x p)
    where
      go : CutTo W in_order s c x y ⊎ EndsBy W in_order s c x y.at → Ends W s c
      go (inr e) = e.0
      go (inl ([], same, leads)) = (ends_by W in_order s c x _ d ds y.at y.at leads u (NodeLine.ends refl) (omega arith) (omega arith)).0
      go (inl (◌∷◌ f r, same, leads)) = absurd (omega (arith, (leads_to_path W in_order s c leads).placed))

  -- A state of all bytes whose word has its map there.
  map-ends : (y : State) (d : Due) (ds : List Due) (f : ℕ) (r : List ℕ) → LeadsTo W s (c ++ x) y → y.due ≡ d ∷ ds → y.rest ≡ f ∷ r → Word? W f →
      y.at < most_bytes → most_bytes < y.at + 1 + map_bytes → Ends W s c
  map-ends y d ds f r p u v w low high = go (leads-cut W in_order s c x p)
    where
      long : suc (length c) ≡ most_bytes
      long = full (omega (arith, (leads_to_path W in_order s (c ++ x) p).placed, ap length v))

      go : CutTo W in_order s c x y ⊎ EndsBy W in_order s c x y.at → Ends W s c
      go (inr e) = e.0
      go (inl ([], same, leads)) = absurd (omega (arith, long, (leads_to_path W in_order s c leads).placed))
      go (inl (◌∷◌ g r', same, leads)) =
          let first : f ≡ g = cc in
          let missing = map-lacks r' (omega (arith, long, (leads_to_path W in_order s c leads).placed)) in
          let placed = (leads_to_path W in_order s c leads).placed in
          (ends_by W in_order s c x _ d ds _ most_bytes leads u (NodeLine.ends_in_map g r' missing.0 refl (rw first at w) missing.1) refl (omega arith)).0

  -- What holds of the lines in the window, and of others where it ends and another byte is due, holds of every line that fits.
  every_line : (P : ℕ → ℕ → ℕ → Type 0) → ((n q : ℕ) → LineIn W s c n q → P n q q) →
      ((n q : ℕ) → Ends W s c → 9 ≤ n → suc (length c) ≤ q → P n q q) →
      (Ends W s c → suc (length c) ≡ most_bytes → P 7 most_bytes 0) → {n at q : ℕ} → FrontLine W b n at q → P n at q
  every_line P f g h (FrontLine.short k) = absurd (omega arith)
  every_line P f g h (FrontLine.kind s' l e k) = let same : s' ≡ s = cc in absurd (omega arith)
  every_line P f g h (FrontLine.long s' l y d ds e p u at) =
      let leads = same_bytes W s s' (c ++ x) l y e p in
      h (long-ends y d ds leads u at) (full (omega (arith, (leads_to_path W in_order s (c ++ x) leads).placed)))
  every_line P f g h (FrontLine.long_in_map s' l y d ds w r e p u v k low high) =
      let leads = same_bytes W s s' (c ++ x) l y e p in
      h (map-ends y d ds w r leads u v k low high) (full (omega (arith, (leads_to_path W in_order s (c ++ x) leads).placed, ap length v)))
  every_line P f g h (FrontLine.inside s' l y d ds n q e p u k) =
      go (line-cut W in_order s c x n q (record { state = y; first = d; later = ds; leads = same_bytes W s s' (c ++ x) l y e p; due = u; fits = k }))
    where
      go : LineIn W s c n q ⊎ EndsBy W in_order s c x q → P n q q
      go (inl t) = f n q t
      go (inr t) = g n q t.0 (node-number W y d k) t.1

  -- A byte is due where the window ends: line 7, where the bytes go on or end just there.
  nine_long : (q : ℕ) → LineIn W s c 9 q → suc (length c) ≡ most_bytes → FrontLine W b 7 most_bytes 0
  nine_long q t long = go (nine_ends W t.state t.first t.fits refl).1
    where
      y : State
      y = with_rest t.state (t.state.rest ++ x)

      leads : LeadsTo W s (c ++ x) y
      leads = leads_longer W x s c t.leads

      placed : t.state.at + length t.state.rest ≡ most_bytes
      placed = (leads_to_path W in_order s c t.leads).placed ∙ long

      go : (t.state.rest ≡ []) ⊎ NoMap W t.state → FrontLine W b 7 most_bytes 0
      go (inl e) = FrontLine.long s (c ++ x) y t.first t.later refl leads t.due (omega (arith, placed, ap length e))
      go (inr m) =
          let size = ap length m.bytes in
          let short = map-short m.behind m.left m.missing in
          FrontLine.long_in_map s (c ++ x) y t.first t.later m.word (m.behind ++ x) refl leads t.due (ap (λ z. z ++ x) m.bytes) m.known
          (omega (arith, placed)) (omega (arith, placed))

  -- ---- what is read off the window

  got-judged : (a : Read) (r : List ℕ) → EndsAt W s c r → FrontJudged W b (front_of b s (got a r))
  got-judged a r t n at q h =
      every_line (λ n at q. ⊥) (λ n q k. t.clear n q k) (λ n q e _ _. t.clear 9 (suc (length c)) e) (λ e _. t.clear 9 (suc (length c)) e) h

  -- A 4,097th byte is due.
  long-judged : (r : List ℕ) → StopsAt W s c 9 r → suc (length c) ≡ most_bytes → FrontJudged W b (stop 7 b)
  long-judged r t long =
      let place = nine_place W in_order s c t.place t.fits in (
        0,
        record {
          at = most_bytes;
          fits = nine_long t.place t.fits long;
          first = λ m a q h.
              every_line (λ m a q. Earlier 7 most_bytes m a)
              (λ n q k.
              let byte = earlier_byte 9 t.place n q (t.first n q k) in
              no-later 7 most_bytes n q (omega arith) (omega (arith, node-number W k.state k.first k.fits)))
              (λ n q e nine late. no-later 7 most_bytes n q (omega arith) (omega arith)) (λ e _. no-later 7 most_bytes 7 most_bytes (omega arith) (omega arith)) h;
        },
        omega arith,
      )

  -- Any other line, or line 9 where the bytes end before the window does.
  line-judged : (n : ℕ) (r : List ℕ) → StopsAt W s c n r → (n ≡ 9 → suc (length (c ++ x)) < most_bytes) → FrontJudged W b (stop n (r ++ x))
  line-judged n r t other =
      let line : LineIn W s (c ++ x) n t.place = whole (line_longer W x in_order s c n t.place t.fits) in (
        t.place,
        record {
          at = t.place;
          fits = FrontLine.inside s (c ++ x) line.state line.first line.later n t.place refl line.leads line.due line.fits;
          first = λ m a q h.
              every_line (λ m a q. Earlier n t.place m a) (λ m q k. t.first m q k)
              (λ m q e nine late. earlier_later n t.place 9 (suc (length c)) m q (t.first 9 (suc (length c)) e) late nine)
              (λ e long. before long (t.first 9 (suc (length c)) e)) h;
        },
        omega (arith, t.placed, length-append c x, length-append r x),
      )
    where
      whole : ((n ≡ 9) × (t.place ≡ suc (length c))) ⊎ LineIn W s (c ++ x) n t.place → LineIn W s (c ++ x) n t.place
      whole (inr k) = k
      whole (inl e) = go rest
        where
          go : (suc (length c) ≡ most_bytes) ⊎ (x ≡ []) → LineIn W s (c ++ x) n t.place
          go (inl long) = absurd (omega (arith, other e.0, length-append c x))
          go (inr none) = subst (λ z. LineIn W s z n t.place) (sym (append-nil c) ∙ ap (λ z. c ++ z) (sym none)) t.fits

      before : suc (length c) ≡ most_bytes → Earlier n t.place 9 (suc (length c)) → Earlier n t.place 7 most_bytes
      before long (inl h) = inl (omega arith)
      before long (inr h) =
          let k = t.fits in
          let nine : n ≡ 9 = omega (arith, node-number W k.state k.first k.fits) in
          absurd (omega (arith, other nine, length-append c x))

  stop-judged : (n : ℕ) (r : List ℕ) → StopsAt W s c n r →
      FrontJudged W b (cond (eqb n 9 && not (ltb (suc (length (c ++ x))) most_bytes)) (stop 7 b) (stop n (r ++ x)))
  stop-judged n r t = go (eqb n 9) (ltb (suc (length (c ++ x))) most_bytes) refl refl
    where
      go : (u v : Bool) → eqb n 9 ≡ u → ltb (suc (length (c ++ x))) most_bytes ≡ v → FrontJudged W b (cond (u && not v) (stop 7 b) (stop n (r ++ x)))
      go true true e f = line-judged n r t (λ nine. ltb-true _ _ f)
      go true false e f = long-judged r (subst (λ n. StopsAt W s c n r) (eqb-true n 9 e) t) (full (ltb-false _ _ f))
      go false v e f = line-judged n r t (λ nine. absurd (eqb-false n 9 e nine))

  window_judged : drop most_bytes b ≡ x → (g : Got Read) → LinesJudged W s c g → FrontJudged W b (front_of b s g)
  window_judged behind (got a r) t = got-judged a r t
  window_judged behind (stop n r) t =
      subst (λ z. FrontJudged W b (cond (eqb n 9 && not (ltb (suc (length (c ++ x))) most_bytes)) (stop 7 b) (stop n (r ++ z)))) (sym behind) (stop-judged n r t)

-- ---- all bytes

module _ (W : Vocabulary) (in_order : InOrder W) where
  short-judged : (b : List ℕ) → length b < least_bytes → FrontJudged W b (stop 7 b)
  short-judged b few = (0, record { at = 0; fits = FrontLine.short few; first = λ m a q h. first h }, omega arith)
    where
      first : {m a q : ℕ} → FrontLine W b m a q → Earlier 7 0 m a
      first (FrontLine.short h) = no-later 7 0 7 0 (omega arith) (omega arith)
      first (FrontLine.long s l x d ds e p u h) = no-later 7 0 7 most_bytes (omega arith) (omega arith)
      first (FrontLine.long_in_map s l x d ds f r e p u v w h k) = no-later 7 0 7 most_bytes (omega arith) (omega arith)
      first (FrontLine.kind s l e h) = no-later 7 0 8 0 (omega arith) (omega arith)
      first (FrontLine.inside s l x d ds n q e p u h) = no-later 7 0 n q (omega arith) (omega (arith, node-number W x d h))

  kind-judged : (s : ℕ) (l : List ℕ) → 1 ≤ length l → W.kinds ≤ s → FrontJudged W (s ∷ l) (stop 8 (s ∷ l))
  kind-judged s l some high = (0, record { at = 0; fits = FrontLine.kind s l refl high; first = λ m a q h. first h }, omega arith)
    where
      first : {m a q : ℕ} → FrontLine W (s ∷ l) m a q → Earlier 8 0 m a
      first (FrontLine.short h) = absurd (omega arith)
      first (FrontLine.long s l x d ds e p u h) = inl (omega arith)
      first (FrontLine.long_in_map s l x d ds f r e p u v w h k) = inl (omega arith)
      first (FrontLine.kind s l e h) = no-later 8 0 8 0 (omega arith) (omega arith)
      first (FrontLine.inside s l x d ds n q e p u h) = no-later 8 0 n q (omega arith) (omega (arith, node-number W x d h))

  good-judged : (s : ℕ) (l : List ℕ) → 1 ≤ length l → s < W.kinds → FrontJudged W (s ∷ l) (front_of (s ∷ l) s (in_window W s l))
  good-judged s l some below = split (window (s ∷ l)) (drop most_bytes (s ∷ l)) (window_cuts s l) refl (in_window W s l) (lines_judged W in_order s (window (s ∷ l)))
    where
      split : (c x : List ℕ) → Cut most_bytes l c x → drop most_bytes (s ∷ l) ≡ x → (g : Got Read) → LinesJudged W s c g →
          FrontJudged W (s ∷ l) (front_of (s ∷ l) s g)
      split c x cut behind g t =
          subst (λ l. drop most_bytes (s ∷ l) ≡ x → FrontJudged W (s ∷ l) (front_of (s ∷ l) s g)) cut.whole
          (λ behind. window_judged W in_order s c x below (omega (arith, ap length cut.whole)) cut.fits cut.rest behind g t) behind

  pub front-judged : (b : List ℕ) → FrontJudged W b (read_front W b)
  front-judged [] = short-judged [] (omega arith)
  front-judged (s ∷ []) = short-judged (s ∷ []) (omega arith)
  front-judged (s ∷ x ∷ l) =
      choice (FrontJudged W (s ∷ x ∷ l)) (ltb s W.kinds) (front_of (s ∷ x ∷ l) s (in_window W s (x ∷ l))) (stop 8 (s ∷ x ∷ l))
      (λ e. good-judged s (x ∷ l) (omega arith) (ltb-true s W.kinds e)) (λ e. kind-judged s (x ∷ l) (omega arith) (ltb-false s W.kinds e))

  -- A number is given exactly where it decides, at its place.
  pub front-stops : (b : List ℕ) (n : ℕ) (r : List ℕ) → read_front W b ≡ stop n r → (q : ℕ) × FrontDecides W b n q × (q + length r ≡ length b)
  front-stops b n r e = subst (FrontJudged W b) e (front-judged b)

  pub stops-front : (b : List ℕ) (n q : ℕ) → FrontDecides W b n q → (r : List ℕ) × (read_front W b ≡ stop n r) × (q + length r ≡ length b)
  stops-front b n q d = go (read_front W b) (front-judged b)
    where
      go : (g : Got Kinded) → FrontJudged W b g → (r : List ℕ) × (g ≡ stop n r) × (q + length r ≡ length b)
      go (got k r) clear = absurd (clear n d.at q d.fits)
      go (stop m r) (p, t, placed) =
          let same = front-once W b m p n q t d in
          (r, ap (λ n. stop n r) same.0, ap (λ i. i + length r) (sym same.1) ∙ placed)
