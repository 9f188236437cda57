-- Going: the turns of a walk while no open place is due.
--
--   going_faces                         two terms are due first, at level 0
--   going-differs, going-shared         a word: there is no filling, or it stands in both
--   going-full, going-same              nodes that are the same: the walk goes on behind them
--   going-named, going_unnamed          a name: the walk goes on behind its part, or there is no filling
--   shared-pattern, shared-situation    the nodes of a word that stands in both are there to read
--
use mathlib.Core.Path.{◌≡◌, sym, ap, ◌∙◌, subst, subst₂}
use mathlib.Core.Bool.{true, false}
use mathlib.Core.List.{List, []}
use Prim.Native.Nat.{ℕ, zero, suc, ◌+◌, ◌-◌, ◌*◌, ◌<◌, ◌≤◌}
use native.Mathlib.Omega.{arith}
use lib.ListN.{length, get_or, drop, length-drop}
use lib.Seq.{get_or-take, get_or-drop, length-take-le}
use Rattle.terms.specs.Term.{Term, Terms, cons, Ground, gapp, Grounds, gcons}
use Rattle.nodes.specs.Same.{SameNodes}
use Rattle.wire.specs.Map.{map_bytes}
use Rattle.wire.specs.Vocabulary.{InOrder}
use Rattle.wire.proofs.GroundBytes.{known-word, joined}
use Rattle.spans.specs.Frames.{rest, map_at}
use Rattle.spans.specs.Spans.{Covered, Uncovered}
use Rattle.spans.specs.Walking.{InputsRead, Walked, Side, Going, AtSharedWord}
use Rattle.spans.proofs.Joined.{chained}
use Rattle.spans.proofs.Offsets.{one_byte}
use Rattle.spans.proofs.Side.{Facing, facing_shut, due}
use Rattle.spans.proofs.Words.{AtWord, at-word, word-pattern, word-situation, word-differs, word-goes, word-shut}
use Rattle.spans.proofs.Names.{AtName, at_name, name-inside, name-known, name-spans, name-goes, name_none}
use Rattle.spans.proofs.Begin.{walked_none}

abbrev pub in_order : {p s : List ℕ} (a : InputsRead p s) → InOrder a.inputs.vocabulary
in_order a = a.held.vocabulary.in_order

module _ {p s spans : List ℕ} {i j : ℕ} (c : Going p s spans i j) (some : i < length p) where
  pub going_faces : (a : InputsRead p s) → Facing a.inputs p s spans (record { written = true; level = 0 }) [] i j
  going_faces a = facing_shut (c a).side ((c a).shut some) some

  -- ---- a word

  module _ (low : get_or p i 0 < 128) where
    pub going-word : (a : InputsRead p s) → AtWord a.inputs p s spans 0 [] i j
    going-word a = at-word (going_faces a) low

    pub going-inside : InputsRead p s → j < length s
    going-inside a = omega (arith, word-situation (in_order a) (going-word a))

    pub going-differs : (get_or p i 0 ≡ get_or s j 0 → ⊥) → Walked p s spans false
    going-differs d a = walked_none (word-differs (in_order a) (going-word a) d)

    pub going-shared : get_or p i 0 ≡ get_or s j 0 → AtSharedWord p s spans i j
    going-shared e = record { going = c; some = some; word = low; shared = e }

    pub going-full : get_or p i 0 ≡ get_or s j 0 → map_at p i ≡ map_at s j → Going p s spans (i + (1 + map_bytes)) (j + (1 + map_bytes))
    going-full e full a =
        let at = going-word a in
        record {
          terms = chained at.arguments at.terms;
          grounds = joined at.parts at.grounds;
          side = word-goes (in_order a) at e;
          shut = λ l. word-shut (in_order a) at e at.rest full;
        }

  -- ---- a name

  module _ (high : 128 ≤ get_or p i 0) where
    pub going-name : (a : InputsRead p s) → AtName a.inputs p s spans [] i j
    going-name a = at_name (in_order a) (going_faces a) high

    pub going-behind : InputsRead p s → i + 1 ≤ length p
    going-behind a = name-inside (going-name a)

    module _ {b : ℕ} (byte : b ≡ get_or p i 0) where
      -- What covering the part asks for.
      pub going-covers : InputsRead p s →
          ((b - 128 < 64) × (j ≤ length s) × (length s ≤ 4096)) × (get_or spans (2 * (b - 128)) 0 + get_or spans (2 * (b - 128) + 1) 0 ≤ length s)
      going-covers a =
          let at = going-name a in
          ((rw byte (name-known at), at.side.inside_situation, a.held.situation.limits.most), rw byte (name-spans at))

      module _ {after : List ℕ} where
        pub going-named : {r : ℕ} → Covered s spans after (b - 128) j r → Going p s after (i + 1) r
        going-named {r} covered a =
            let at = going-name a in
            let here : Covered s spans after (get_or p i 0 - 128) j r = rw byte at covered in
            record { terms = at.terms; grounds = at.grounds; side = name-goes at (in_order a) here; shut = λ l. at.rest }

        pub going_unnamed : Uncovered s spans after (b - 128) j → Walked p s after false
        going_unnamed stopped a =
            let here : Uncovered s spans after (get_or p i 0 - 128) j = rw byte at stopped in
            walked_none (name_none (going-name a) (in_order a) here)

-- ---- nodes that are the same

-- A situation has words alone.
part_low : {p s spans : List ℕ} {i j : ℕ} → Going p s spans i j → i < length p → InputsRead p s → get_or s j 0 < 128
part_low {p} {s} {spans} {i} {j} c some a = go (going_faces c some a).ground (going_faces c some a).side
  where
    go : (g : Ground) {t : Term} {ts : Terms} {gs : Grounds} → Side a.inputs p s spans (cons t ts) (gcons g gs) i j → get_or s j 0 < 128
    go (gapp f hs) c =
        omega (
          arith,
          (one_byte s j _ _ c.situation).first,
          known-word a.inputs.vocabulary (in_order a) f hs (due c).0 (due c).1.1.ground.0,
          (in_order a).few_words,
        )

rest-inside : (t : List ℕ) (i n : ℕ) → i ≤ length t → n ≤ length (rest t i) → i + n ≤ length t
rest-inside t i n inside l = omega (arith, length-take-le (length t - i) (drop i t) (omega (arith, length-drop i t)))

rest-byte : (t : List ℕ) (i k : ℕ) → i + k < length t → get_or (rest t i) k 0 ≡ get_or t (i + k) 0
rest-byte t i k l = get_or-take (length t - i) (drop i t) k 0 (omega arith) ∙ get_or-drop i t k 0

module _ {p s spans : List ℕ} {i j n : ℕ} (a : InputsRead p s) (c : Going p s spans i j) (h : SameNodes (rest p i) (rest s j) n) where
  pub same-pattern : i + n ≤ length p
  same-pattern = rest-inside p i n (c a).side.inside_pattern h.inside_first

  pub same-situation : j + n ≤ length s
  same-situation = rest-inside s j n (c a).side.inside_situation h.inside_second

  same_byte : (k : ℕ) → k < n → get_or p (i + k) 0 ≡ get_or s (j + k) 0
  same_byte k l = sym (rest-byte p i k (omega (arith, same-pattern))) ∙ h.same k l ∙ rest-byte s j k (omega (arith, same-situation))

  pub going-same : Going p s spans (i + n) (j + n)
  going-same = subst (λ n. Going p s spans (i + n) (j + n)) (sym h.whole) (go h.nodes (omega (arith, h.whole)))
    where
      go : (k : ℕ) → (1 + map_bytes) * k ≤ n → Going p s spans (i + (1 + map_bytes) * k) (j + (1 + map_bytes) * k)
      go zero l = subst₂ (Going p s spans) (let e : i ≡ i + (1 + map_bytes) * 0 = omega arith in e) (let e : j ≡ j + (1 + map_bytes) * 0 = omega arith in e) c
      go (suc k) l =
          let before = go k (omega arith) in
          let at : ℕ = (1 + map_bytes) * k in
          let some : i + at < length p = omega (arith, same-pattern) in
          let word : get_or p (i + at) 0 ≡ get_or s (j + at) 0 = same_byte at (omega arith) in
          let low : get_or p (i + at) 0 < 128 = subst (λ b. b < 128) (sym word) (part_low before some a) in
          let map : map_at p (i + at) ≡ map_at s (j + at) = next p i at ∙ same_byte (at + 1) (omega arith) ∙ sym (next s j at) in
          subst₂ (Going p s spans) (further i k) (further j k) (going-full before some low word map)
        where
          next : (t : List ℕ) (b at : ℕ) → get_or t (b + at + 1) 0 ≡ get_or t (b + (at + 1)) 0
          next t b at = ap (λ k. get_or t k 0) (let e : b + at + 1 ≡ b + (at + 1) = omega arith in e)

          further : (b k : ℕ) → b + (1 + map_bytes) * k + (1 + map_bytes) ≡ b + (1 + map_bytes) * suc k
          further b k = omega arith

-- ---- a word that stands in both

module _ {p s spans : List ℕ} {i j : ℕ} (c : AtSharedWord p s spans i j) where
  pub shared-word : (a : InputsRead p s) → AtWord a.inputs p s spans 0 [] i j
  shared-word = going-word c.going c.some c.word

  pub shared-pattern : InputsRead p s → i + (1 + map_bytes) ≤ length p
  shared-pattern a = word-pattern (in_order a) (shared-word a)

  pub shared-situation : InputsRead p s → j + (1 + map_bytes) ≤ length s
  shared-situation a = word-situation (in_order a) (shared-word a)
