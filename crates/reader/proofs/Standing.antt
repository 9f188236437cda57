-- Standing: what the functions that read a node answer, case by case.
--
--   word-differs, word-ends, word-stray, word_stands    of a word
--   at-ends, at-deep, at-word, at_name, at-unknown      of what is due
--   Stood, stood, stood_room     an answer under a vocabulary
--   node-inside, node-room       an answer before any vocabulary
--   rest-whole                   the rest of a term, as it is lent
--
use mathlib.Core.Path.{◌≡◌, refl, sym, ap, subst, subst₂, ◌∙◌}
use mathlib.Core.Bool.{false}
use mathlib.Core.List.{List, [], ◌∷◌}
use Prim.Native.Nat.{ℕ, ◌+◌, ◌-◌, ◌/◌, ◌<◌, ◌≤◌}
use native.Mathlib.Omega.{arith}
use lib.Bits.{bit_and}
use lib.ListN.{length, get_or, take, drop, length-drop, drop_of_length-le}
use lib.Seq.{take_all}
use Rattle.wire.specs.Map.{flags, within}
use Rattle.wire.specs.Vocabulary.{Vocabulary}
use Rattle.wire.specs.Parser.{stop, name_here, fault, node, at_limit}
use Rattle.wire.specs.Scan.{Scanned}
use Rattle.reader.specs.Nodes.{TablesOf, node_of, Inside, Limited, NodeAt, WordAt}
use Rattle.reader.specs.declared.refusal.TermRefusal.TheVariants as T
use Rattle.std.specs.Prelude.{Result, Ok, Err}
use Rattle.reader.specs.declared.refusal.TermRefusal.{TermRefusal}
use Rattle.reader.specs.declared.node.Node.{Node as Standing}
use Rattle.reader.specs.declared.node.Node.TheVariants.{Word, Name}
use Rattle.reader.proofs.Nodes.{within_and, within_not, node-ends, node-differs, node-short, node-stray, node-word, node-name, node-unknown}

-- A fault k at a place, of bytes that begin at an offset.
fault-at : (k at q n : ℕ) (rest : List ℕ) → n ≡ q - at → fault k (drop n rest) ≡ fault k (drop (q - at) rest)
fault-at k at q n rest e = ap (λ n. fault k (drop n rest)) e

module _ (f result map s at : ℕ) (rest : List ℕ) (some : 0 < length rest) (first : get_or rest 0 0 ≡ f) where
  pub word-differs : (result ≡ s → ⊥) → WordAt f result map s at rest (Err (T.WrongKind at))
  word-differs d = subst (λ f. WordAt f result map s at rest (Err (T.WrongKind at))) first (record {
    inside = λ n maps k e. record { from = omega arith; up_to = omega arith };
    same = λ W k r m. node-differs W s rest some k (λ e. d (r ∙ e)) ∙ fault-at 12 at at 0 rest (omega arith);
  })

  pub word-ends : result ≡ s → length rest < 2 → WordAt f result map s at rest (Err (T.Ends (at + 1)))
  word-ends d h = subst (λ f. WordAt f result map s at rest (Err (T.Ends (at + 1)))) first (record {
    inside = λ n maps k e. record { from = omega arith; up_to = omega arith };
    same = λ W k r m. node-short W s rest some h k (sym r ∙ d) ∙ fault-at 9 at (at + 1) 1 rest (omega arith);
  })

  stray-there : result ≡ s → 2 ≤ length rest → get_or rest 1 0 < 256 → (bit_and (get_or rest 1 0) map ≡ get_or rest 1 0 → ⊥) →
      WordAt f result map s at rest (Err (T.StrayBit (at + 1)))
  stray-there d h small w = subst (λ f. WordAt f result map s at rest (Err (T.StrayBit (at + 1)))) first (record {
    inside = λ n maps k e. record { from = omega arith; up_to = omega arith };
    same = λ W k r m.
        node-stray W s rest h k (sym r ∙ d) (ap (λ p. within (flags (get_or rest 1 0)) (flags p)) (sym m) ∙ within_not (get_or rest 1 0) map small w)
        ∙ fault-at 14 at (at + 1) 1 rest (omega arith);
  })

  word-there : result ≡ s → 2 ≤ length rest → get_or rest 1 0 < 256 → bit_and (get_or rest 1 0) map ≡ get_or rest 1 0 →
      WordAt f result map s at rest (Ok (Word f (get_or rest 1 0)))
  word-there d h small w = subst (λ f. WordAt f result map s at rest (Ok (Word f (get_or rest 1 0)))) first (record {
    inside = λ n maps k e. record { known = k; long = h; within = ap (bit_and (get_or rest 1 0)) e ∙ w };
    same = λ W k r m.
        node-word W s rest h k (sym r ∙ d) (ap (λ p. within (flags (get_or rest 1 0)) (flags p)) (sym m) ∙ within_and 8 (get_or rest 1 0) map small w);
  })

  -- The same with the map read as m.
  module _ {m : ℕ} (second : m ≡ get_or rest 1 0) (d : result ≡ s) (h : 2 ≤ length rest) (small : m < 256) where
    pub word-stray : (bit_and m map ≡ m → ⊥) → WordAt f result map s at rest (Err (T.StrayBit (at + 1)))
    word-stray w = stray-there d h (omega arith) (subst (λ m. bit_and m map ≡ m → ⊥) second w)

    pub word_stands : bit_and m map ≡ m → WordAt f result map s at rest (Ok (Word f m))
    word_stands w =
        subst (λ m. WordAt f result map s at rest (Ok (Word f m))) (sym second) (word-there d h (omega arith) (subst (λ m. bit_and m map ≡ m) second w))

limit-ends : (rest : List ℕ) (n : ℕ) → length rest ≡ 0 → at_limit {A = Scanned} rest ≡ stop 9 (drop n rest)
limit-ends [] n h = ap (stop 9) (sym (drop_of_length-le [] {i = n} (omega arith)))
limit-ends (b ∷ l) n h = absurd (omega arith)

limit-deep : (rest : List ℕ) (n : ℕ) → 0 < length rest → 0 ≡ n → at_limit {A = Scanned} rest ≡ stop 10 (drop n rest)
limit-deep [] n some e = absurd (omega arith)
limit-deep (b ∷ l) n some e = ap (λ n. stop 10 (drop n (b ∷ l))) e

module _ (depth n : ℕ) (results maps : List ℕ) (s at : ℕ) (rest : List ℕ) where
  pub at-ends : length rest ≡ 0 → NodeAt depth n results maps s at rest (Err (T.Ends at))
  at-ends h = record {
    inside = record { from = omega arith; up_to = omega arith };
    limit = λ deep. limit-ends rest (at - at) h;
    same = λ shallow W t. node-ends W s rest h ∙ ap (fault 9) (sym (drop_of_length-le rest {i = at - at} (omega arith)));
  }

  module _ (some : 0 < length rest) where
    pub at-deep : 31 < depth → NodeAt depth n results maps s at rest (Err (T.TooDeep at))
    at-deep h = record {
      inside = record { from = omega arith; up_to = omega arith };
      limit = λ deep. limit-deep rest (at - at) some (omega arith);
      same = λ shallow. absurd (omega arith);
    }

    module _ (h : depth ≤ 31) (b : ℕ) where
      pub at-word : (x : Result Standing TermRefusal) → b < n → WordAt b (get_or results b 0) (get_or maps b 0) s at rest x → NodeAt depth n results maps s at rest x
      at-word x k w = record {
        inside = w.inside n maps k refl;
        limit = λ deep. absurd (omega arith);
        same = λ shallow W t. w.same W (let e = t.tabled.words in omega arith) (t.tabled.result b k) (t.place_map b k);
      }

      module _ (first : b ≡ get_or rest 0 0) (k : n ≤ b) where
        pub at_name : b / 64 ≡ 2 → NodeAt depth n results maps s at rest (Ok (Name (b - 128)))
        at_name p = record {
          inside = record { known = omega arith; long = some };
          limit = λ deep. absurd (omega arith);
          same = λ shallow W t.
              node-name W s rest some (let e = t.tabled.words in omega arith) (omega arith) (omega arith)
              ∙ ap (λ b. name_here (b - 128) (drop 1 rest)) (sym first);
        }

        pub at-unknown : (b / 64 ≡ 2 → ⊥) → NodeAt depth n results maps s at rest (Err (T.NoWordOrName at))
        at-unknown d = record {
          inside = record { from = omega arith; up_to = omega arith };
          limit = λ deep. absurd (omega arith);
          same = λ shallow W t.
              node-unknown W s rest some (let e = t.tabled.words in omega arith) (λ p q. d (omega arith))
              ∙ fault-at 11 at at 0 rest (omega arith);
        }

-- ---- an answer under a vocabulary

-- The answer y is what stands there under W, no names seen.
pub record Stood (W : Vocabulary) (depth n : ℕ) (maps : List ℕ) (s at : ℕ) (rest : List ℕ) (y : Result Standing TermRefusal) : Type 0 where
  pub inside : Inside n maps at rest y
  pub limit : 31 < depth → Limited at rest y
  pub same : depth ≤ 31 → node W false s [] rest ≡ node_of W at rest y

-- The rest of a term from an offset on, as it is lent.
pub rest-whole : (t : List ℕ) (at : ℕ) → take (length t - at) (drop at t) ≡ drop at t
rest-whole t at = take_all (length t - at) (drop at t) (omega (arith, length-drop at t))

pub stood : (t : List ℕ) {W : Vocabulary} {depth n : ℕ} {results maps : List ℕ} {s at : ℕ} {x y : Result Standing TermRefusal} →
    NodeAt depth n results maps s at (take (length t - at) (drop at t)) x → TablesOf W n results maps → x ≡ y → Stood W depth n maps s at (drop at t) y
stood t {W = W} {depth = depth} {n = n} {results = results} {maps = maps} {s = s} {at = at} a tables e =
    let whole = subst₂ (λ rest x. NodeAt depth n results maps s at rest x) (rest-whole t at) e a in
    record { inside = whole.inside; limit = whole.limit; same = λ shallow. whole.same shallow W tables }

-- A node that is no fault stands above level 33.
pub stood_room : {W : Vocabulary} {depth n : ℕ} {maps : List ℕ} {s at : ℕ} {rest : List ℕ} {y : Result Standing TermRefusal} →
    Stood W depth n maps s at rest y → (Limited at rest y → ⊥) → depth ≤ 31
stood_room {depth = depth} c never = let high : 31 < depth → ⊥ = λ deep. never (c.limit deep) in omega arith

-- The same of an answer before any vocabulary.
module _ {depth n : ℕ} {results maps : List ℕ} {s at : ℕ} {rest : List ℕ} {x y : Result Standing TermRefusal} (a : NodeAt depth n results maps s at rest x) (e : x ≡ y) where
  pub node-inside : Inside n maps at rest y
  node-inside = subst (Inside n maps at rest) e a.inside

  pub node-room : (Limited at rest y → ⊥) → depth ≤ 31
  node-room never = let high : 31 < depth → ⊥ = λ deep. never (subst (Limited at rest) e (a.limit deep)) in omega arith
