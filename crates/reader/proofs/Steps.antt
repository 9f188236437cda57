-- Steps: what reading one node gives, by what stands there.
--
--   written-full          a written map is the place map where every place is written
--   answers-went, answers-fault    the two answers
--   follows_as            the same cursor, named otherwise
--   step-fault, step-clash    something is wrong at the node
--   step-name, step-bare, step_down    a name, a word without written places, a word with some
--
use mathlib.Core.Path.{◌≡◌, refl, sym, ap, subst, ◌∙◌}
use mathlib.Core.Bool.{Bool, true, false, cond, true≢false, false≢true}
use mathlib.Core.List.{List, [], ◌∷◌, ◌++◌}
use Prim.Native.Nat.{ℕ, zero, suc, ◌+◌, ◌-◌, ◌/◌, ◌%◌, ◌^◌, ◌<◌, ◌≤◌}
use native.Mathlib.Nat.{pow-suc}
use native.Mathlib.Decide.{dec_le}
use native.Mathlib.Omega.{arith}
use lib.Bits.{bit_and}
use lib.Dec.{eqb}
use lib.ListN.{length, get_or, drop, set, length-set, length-drop}
use lib.Seq.{drop-drop}
use borrow.Author.Tests.{eqb-true, eqb-false}
use Rattle.terms.specs.Term.{Occurrence}
use Rattle.terms.proofs.Bools.{and_parts}
use Rattle.wire.specs.Map.{map_bytes, flags_in, flags, ones, within, Slot, slots}
use Rattle.wire.specs.Vocabulary.{Vocabulary, word, map_of}
use Rattle.wire.specs.Parser.{stop}
use Rattle.wire.specs.Scan.{every_written}
use Rattle.signature.specs.Tables.{Tables, vocabulary_in}
use Rattle.frames.specs.Frames.{WordFrame}
use Rattle.reader.specs.Names.{clashing, Named}
use Rattle.cursors.specs.Cursors.{past_leaf, past_word, went_down}
use Rattle.reader.specs.Nodes.{number_of, place_of}
use Rattle.reader.specs.Terms.{node_run, Refuses, Follows, NodeAnswers, Under}
use Rattle.reader.specs.declared.refusal.TermRefusal.{TermRefusal}
use Rattle.reader.specs.declared.refusal.TermRefusal.TheVariants as T
use Rattle.cursors.specs.declared.Cursor.{Cursor}
use Rattle.std.specs.Prelude.{Ok, Err}
use Rattle.reader.specs.declared.node.Node.TheVariants.{Word, Name}
use Rattle.frames.proofs.Frames.{due-bare}
use Rattle.reader.proofs.Names.{named-clash, named_more}
use Rattle.reader.proofs.Nodes.{within_and}
use Rattle.reader.proofs.Tables.{WordFramed, word_framed, full-slots, kinds-counted, map-byte}
use Rattle.reader.proofs.Standing.{Stood, stood_room}
use Rattle.reader.proofs.Cursors.{going_leaf, going-word, going_down, run-deep, run-fault, run-clash, run-name, run-bare, run_down}

-- ---- a written map and the places that it has

-- The lowest bits of the two maps, and the bits above them.
full_bits : (m p : ℕ) (b : Bool) → eqb (p % 2) 1 ≡ b → eqb (m % 2) 1 ≡ b → m / 2 ≡ p / 2 → m ≡ p
full_bits m p true e h half = omega (arith, eqb-true (p % 2) 1 e, eqb-true (m % 2) 1 h)
full_bits m p false e h half =
    let a = eqb-false (p % 2) 1 e in
    let b = eqb-false (m % 2) 1 h in
    let even : p % 2 ≡ 0 = omega (arith, a) in
    let even2 : m % 2 ≡ 0 = omega (arith, b) in
    omega arith

every_written_lem : (d m p : ℕ) (ks : List ℕ) → m < 2 ^ d → p < 2 ^ d → within (flags_in d m) (flags_in d p) ≡ true → ones (flags_in d p) ≤ length ks →
    every_written (slots (flags_in d p) (flags_in d m) ks) ≡ true → m ≡ p
every_written_lem zero m p ks hm hp w long e = omega arith
every_written_lem (suc d) m p ks hm hp w long e =
    let both = and_parts (cond (eqb (m % 2) 1) (eqb (p % 2) 1) true) (within (flags_in d (m / 2)) (flags_in d (p / 2))) w in
    go (eqb (p % 2) 1) (eqb (m % 2) 1) refl refl ks long e both
    (λ ks long e. every_written_lem d (m / 2) (p / 2) ks (omega (arith, pow-suc 2 d)) (omega (arith, pow-suc 2 d)) both.1 long e)
  where
    go : (b c : Bool) → eqb (p % 2) 1 ≡ b → eqb (m % 2) 1 ≡ c → (ks : List ℕ) → ones (b ∷ flags_in d (p / 2)) ≤ length ks →
        every_written (slots (b ∷ flags_in d (p / 2)) (c ∷ flags_in d (m / 2)) ks) ≡ true →
        (cond (eqb (m % 2) 1) (eqb (p % 2) 1) true ≡ true) × (within (flags_in d (m / 2)) (flags_in d (p / 2)) ≡ true) →
        ((ks : List ℕ) → ones (flags_in d (p / 2)) ≤ length ks → every_written (slots (flags_in d (p / 2)) (flags_in d (m / 2)) ks) ≡ true → m / 2 ≡ p / 2) →
        m ≡ p
    go false false hp hm ks long e w ih = full_bits m p false hp hm (ih ks (omega arith) e)
    go false true hp hm ks long e w ih = absurd (false≢true (sym hp ∙ sym (ap (λ c. cond c (eqb (p % 2) 1) true) hm) ∙ w.0))
    go true c hp hm [] long e w ih = absurd (omega arith)
    go true c hp hm (k ∷ ks) long e w ih = let both = and_parts c (every_written (slots (flags_in d (p / 2)) (flags_in d (m / 2)) ks)) e in full_bits m p true hp (hm ∙ both.0) (ih ks (omega arith) both.1)

module _ {v : List ℕ} {n : ℕ} {offsets results maps : List ℕ} (tables : Tables v n offsets results maps) (bytes : (i : ℕ) → get_or v i 0 < 256) where
  pub written-full : {f m : ℕ} → f < n → m < 256 → within (flags m) (flags (map_of (vocabulary_in v) f)) ≡ true →
      eqb m (map_of (vocabulary_in v) f) ≡ every_written (slots (flags (map_of (vocabulary_in v) f)) (flags m) (word (vocabulary_in v) f).kinds)
  written-full {f} {m} known small w = go (eqb m p) refl (every_written (slots (flags p) (flags m) ks)) refl
    where
      p : ℕ
      p = map_of (vocabulary_in v) f

      ks : List ℕ
      ks = (word (vocabulary_in v) f).kinds

      go : (b : Bool) → eqb m p ≡ b → (c : Bool) → every_written (slots (flags p) (flags m) ks) ≡ c → b ≡ c
      go true e true h = refl
      go false e false h = refl
      go true e false h =
          absurd (true≢false (sym (full-slots (flags p) ks) ∙ ap (λ m. every_written (slots (flags p) (flags m) ks)) (sym (eqb-true m p e)) ∙ h))
      go false e true h =
          absurd (eqb-false m p e (every_written_lem 8 m p ks small (map-byte tables bytes known) w (omega (arith, kinds-counted tables bytes known)) h))

-- ---- one node

module _ {v t : List ℕ} {k : ℕ} {c : Cursor} {names frames names' frames' : List ℕ} where
  pub answers-went : {d : Cursor} → Follows v t k c names frames names' frames' d → NodeAnswers v t k c names frames names' frames' (Ok d)
  answers-went {d} f = record {
    went = λ c' e. let same : d ≡ c' = cc in subst (Follows v t k c names frames names' frames') same f;
    fault = λ why e. absurd (let z : ◌≡◌ {A = ℕ} 0 1 = cc in omega arith);
  }

  pub answers-fault : {why : TermRefusal} →
      ((seen : List Occurrence) → Named names seen → Refuses t why (node_run (vocabulary_in v) v t frames seen false k c)) →
      NodeAnswers v t k c names frames names' frames' (Err why)
  answers-fault {why} f = record {
    went = λ c' e. absurd (let z : ◌≡◌ {A = ℕ} 0 1 = cc in omega arith);
    fault = λ other e seen named. let same : why ≡ other = cc in subst (λ why. Refuses t why (node_run (vocabulary_in v) v t frames seen false k c)) same (f seen named);
  }

pub follows_as : {v t : List ℕ} {k : ℕ} {c : Cursor} {names frames names' frames' : List ℕ} {d e : Cursor} → e ≡ d →
    Follows v t k c names frames names' frames' d → Follows v t k c names frames names' frames' e
follows_as {v} {t} {k} {c} {names} {frames} {names'} {frames'} same x = subst (Follows v t k c names frames names' frames') (sym same) x

module _ {v t : List ℕ} {n : ℕ} {offsets results maps frames : List ℕ} {c : Cursor} (u : Under v t n offsets results maps frames c) (k : ℕ) where
  abbrev W : Vocabulary
  W = vocabulary_in v

  pub step-fault : {why : TermRefusal} → Stood W c.depth n maps k c.at (drop c.at t) (Err why) → (seen : List Occurrence) →
      Refuses t why (node_run W v t frames seen false k c)
  step-fault {why} s seen =
      let from = s.inside.from in
      let up_to = s.inside.up_to in
      let before : c.at + (place_of why - c.at) ≡ place_of why = omega arith in
      record {
        inside = omega (arith, length-drop c.at t, u.going.inside);
        same =
            ap (stop (number_of why)) (ap (λ q. drop q t) (sym before) ∙ sym (drop-drop (place_of why - c.at) c.at t))
            ∙ sym (go (dec_le c.depth 31));
      }
    where
      go : Dec (c.depth ≤ 31) → node_run W v t frames seen false k c ≡ stop (number_of why) (drop (place_of why - c.at) (drop c.at t))
      go (yes room) = run-fault W v t frames seen k u.going room (number_of why) (drop (place_of why - c.at) (drop c.at t)) (s.same room)
      go (no deep) = let high : 31 < c.depth = omega arith in run-deep W v t frames seen k u.going high ∙ s.limit high

  module _ {j : ℕ} (s : Stood W c.depth n maps k c.at (drop c.at t) (Ok (Name j))) where
    room : c.depth ≤ 31
    room = stood_room s (λ e. e)

    long : c.at < length t
    long = let some = s.inside.long in omega (arith, length-drop c.at t)

    pub step-clash : (names : List ℕ) → clashing (get_or names j 0) k ≡ true → (seen : List Occurrence) → Named names seen →
        Refuses t (T.Clashes c.at) (node_run W v t frames seen false k c)
    step-clash names e seen named = record {
      inside = u.going.inside;
      same = sym (run-clash W v t frames seen k u.going room j u.most long (s.same room) (named-clash names seen j k s.inside.known named ∙ e));
    }

    pub step-name : (names : List ℕ) → length names ≡ 64 → k < 256 → clashing (get_or names j 0) k ≡ false →
        Follows v t k c names frames (set names j k) frames (past_leaf c)
    step-name names size small e = record {
      going = going_leaf u.going u.most long;
      further = omega arith;
      entries = length-set names j k;
      leads = λ seen named. record {
        seen = seen ++ (record { name = j; sort = k } ∷ []);
        named = named_more names seen j k size s.inside.known small e named;
        same = run-name W v t frames seen k u.going room j u.most long (s.same room) (named-clash names seen j k s.inside.known named ∙ e);
      };
    }

  module _ {f m : ℕ} (s : Stood W c.depth n maps k c.at (drop c.at t) (Ok (Word f m))) (small : m < 256) where
    abbrev places : List Slot
    places = slots (flags (map_of W f)) (flags m) (word W f).kinds

    shallow : c.depth ≤ 31
    shallow = stood_room s (λ e. e)

    fits : c.at + (1 + map_bytes) ≤ length t
    fits = let some = s.inside.long in omega (arith, length-drop c.at t, u.going.inside)

    mapped : get_or maps f 0 ≡ map_of W f
    mapped = u.tables.place_map f s.inside.known

    whole : eqb m (get_or maps f 0) ≡ every_written places
    whole =
        ap (eqb m) mapped
        ∙ written-full u.tables u.bytes s.inside.known small (within_and 8 m (map_of W f) small (ap (bit_and m) (sym mapped) ∙ s.inside.within))

    pub step-bare : {names : List ℕ} → m ≡ 0 → Follows v t k c names frames names frames (past_word (eqb m (get_or maps f 0)) c)
    step-bare e = record {
      going = going-word u.going (eqb m (get_or maps f 0)) (λ e. u.most) fits;
      further = omega arith;
      entries = refl;
      leads = λ seen named. record {
        seen = seen;
        named = named;
        same =
            run-bare W v t frames seen k u.going shallow f places (eqb m (get_or maps f 0)) (λ e. u.most) whole fits (s.same shallow)
            (due-bare (flags (map_of W f)) m (suc (suc c.depth)) (word W f).kinds e);
      };
    }

    pub step_down : {names : List ℕ} {z : ℕ} → (m ≡ 0 → ⊥) → WordFrame z m (get_or maps f 0) (get_or offsets f 0) →
        Follows v t k c names frames names (set frames c.depth c.due) (went_down z (past_word (eqb m (get_or maps f 0)) c))
    step_down {z = z} other made = record {
      going = going_down (going-word u.going (eqb m (get_or maps f 0)) (λ e. u.most) fits) (let room = shallow in omega arith) framed.fits;
      further = omega arith;
      entries = refl;
      leads = λ seen named. record {
        seen = seen;
        named = named;
        same =
            run_down W v t frames seen k u.going shallow f places (eqb m (get_or maps f 0)) (λ e. u.most) whole fits (s.same shallow) z framed.fits (framed.some other) framed.dues;
      };
    }
      where
        framed : WordFramed v W f m z
        framed =
            word_framed u.tables u.bytes s.inside.known (subst (λ p. WordFrame z m p (get_or offsets f 0)) mapped made)
            (ap (bit_and m) (sym mapped) ∙ s.inside.within)
