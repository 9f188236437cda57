-- Calls: the whole call from its parts.
--
--   Bytes, lent_bytes           the bytes of the inputs
--   passed_on                   the refusal that is passed on
--   promised                    what is computed keeps the promise
--   fill-refused                where the inputs are refused, so is fill, in the same way
--   known                       where they are not, they are held, and the tables tell of the values
--   fill_known                  the whole call then
--   measurable, size-known, writable        what measuring and writing ask for
--   fill-large, fill-short, fill-written    the answers for inputs that are read, by what was measured
--
use mathlib.Core.Path.{◌≡◌, refl, sym, ap, ◌∙◌, subst, subst₂}
use mathlib.Core.Bool.{Bool, true, false, cond}
use mathlib.Core.List.{List, [], ◌∷◌}
use Prim.Native.Nat.{ℕ, ◌+◌, ◌-◌, ◌<◌, ◌≤◌}
use native.Mathlib.Omega.{arith}
use lib.ListN.{length, get_or}
use mir.Syntax.{w8}
use mir.Val.{Fits}
use Rattle.wire.specs.Reply.{Reply, accepted, refused, IsBytes}
use Rattle.wire.specs.TermBytes.{deepest}
use Rattle.wire.specs.Effect.{Effect, HasEffect}
use Rattle.wire.specs.VocabularyLines.{byte_at}
use Rattle.wire.specs.Filled.{FillInputs, filled_bytes, FillPromise}
use Rattle.wire.specs.FillComputed.{FillJudged, fillable, refusal, fill_judged, fill_clear, large, filled_with, filled}
use Rattle.wire.proofs.Bytes.{bytes_of}
use Rattle.wire.proofs.FillJudging.{fillable-held}
use Rattle.wire.proofs.FillKeeps.{with_large, with_short, with_room, fill-keeps}
use Rattle.wire.proofs.Matching.{not_accepted}
use Rattle.reader.specs.Values.{FillingRead}
use Rattle.reader.specs.Answers.{filling_refused, filling_numbers}
use Rattle.reader.specs.declared.filling.FillingRefusal.{FillingRefusal}
use Rattle.std.specs.Prelude.{Option, Some, None, Result, Ok, Err, IsErrAnd}
use Rattle.reader.proofs.Files.{filling_never}
use Rattle.filler.specs.declared.FillRefusal.{FillRefusal}
use Rattle.filler.specs.declared.FillRefusal.TheVariants.{Inputs}
use Rattle.filler.specs.Ready.{Known, FillsRead, Measurable, measured, MostLevels, Writable, WritesResult}
use Rattle.filler.proofs.Reach.{measurable_wider, measurable_reach}

-- The bytes of the three inputs.
pub record Bytes (v p b : List ℕ) : Type 0 where
  pub vocabulary : IsBytes v
  pub pattern : IsBytes p
  pub filling : IsBytes b

bytes-all : {v p b : List ℕ} → ((i : ℕ) → byte_at v i < 256) → ((i : ℕ) → byte_at p i < 256) → ((i : ℕ) → byte_at b i < 256) → Bytes v p b
bytes-all {v} {p} {b} hv hp hb = record { vocabulary = bytes_of v hv; pattern = bytes_of p hp; filling = bytes_of b hb }

-- What the type of a lent slice says.
pub lent_bytes : {v p b : List ℕ} → ((i : ℕ) → Fits w8 (byte_at v i)) → ((i : ℕ) → Fits w8 (byte_at p i)) → ((i : ℕ) → Fits w8 (byte_at b i)) → Bytes v p b
lent_bytes hv hp hb = bytes-all (λ i. (hv i).fits) (λ i. (hp i).fits) (λ i. (hb i).fits)

-- A refusal that is passed on.
pub passed_on : (r : Result ℕ FillRefusal) (why : FillingRefusal) → IsErrAnd r (λ e. e ≡ Inputs why) → r ≡ Err (Inputs why)
passed_on (Ok n) why h = absurd h
passed_on (Err e) why h = ap Err h

-- What a call is to show.
abbrev pub Shown : List ℕ → List ℕ → List ℕ → List ℕ → List ℕ → Reply → Type 0
Shown v p b out after r = FillPromise v p b out after r × HasEffect (filled v p b out) r after

-- The first value of a reply.
abbrev first_of : Reply → ℕ
first_of (accepted l) = get_or l 0 0
first_of (refused n i q) = 0

module _ {v p b : List ℕ} (bytes : Bytes v p b) (out : List ℕ) where
  promised : (r : Reply) (after : List ℕ) → filled v p b out ≡ record { reply = r; after = after } → Shown v p b out after r
  promised r after e = (
    subst (λ (x : Effect). FillPromise v p b out x.after x.reply) e
        (fill-keeps v p b out bytes.vocabulary bytes.pattern bytes.filling),
    record { reply = sym (ap (λ (x : Effect). x.reply) e); after = sym (ap (λ (x : Effect). x.after) e) },
  )

  pub fill-refused : {starts depths : List ℕ} {r : Result ℕ FillingRefusal} → FillingRead v p b starts depths r → (why : FillingRefusal) → r ≡ Err why →
      Shown v p b out out (filling_refused why)
  fill-refused read why e =
      promised (filling_refused why) out (go (fill_judged v p b) (sym (ap filling_numbers e) ∙ read.answer))
    where
      go : (j : FillJudged) → filling_refused why ≡ fill_clear j → filled_with out j ≡ record { reply = filling_refused why; after = out }
      go (fillable x) h = absurd (filling_never why (deepest x.pattern ∷ []) h)
      go (refusal n i q) h = ap (λ r. record { reply = r; after = out }) (sym h)

  module _ {starts depths : List ℕ} {deep : ℕ} {r : Result ℕ FillingRefusal} (read : FillingRead v p b starts depths r) (e : r ≡ Ok deep) where
    -- Inputs in order.
    pub clear : (x : FillInputs) × (fill_judged v p b ≡ fillable x) × (deep ≡ deepest x.pattern)
    clear = go (fill_judged v p b) refl (sym (ap filling_numbers e) ∙ read.answer)
      where
        go : (j : FillJudged) → fill_judged v p b ≡ j → accepted (deep ∷ []) ≡ fill_clear j →
            (x : FillInputs) × (fill_judged v p b ≡ fillable x) × (deep ≡ deepest x.pattern)
        go (fillable x) k h = (x, k, ap first_of h)
        go (refusal n i q) k h = absurd (not_accepted n i q (deep ∷ []) (sym h))

    abbrev pub known : Known p b starts depths deep
    known = record {
      ready = record {
        vocabulary = v;
        inputs = clear.0;
        held = fillable-held v p b out bytes.vocabulary bytes.pattern bytes.filling clear.0 clear.1;
        values = read.read clear.0 clear.1;
      };
      level = clear.2;
    }

    pub fill_known : {after : List ℕ} {reply : Reply} → FillsRead p b starts depths deep out after reply → Shown v p b out after reply
    fill_known {after} {reply} h =
        let done = h known in
        promised reply after
        (ap (filled_with out) clear.1 ∙ (λ i. record { reply = sym done.reply i; after = sym done.after i }))

-- ---- inputs that are read

module _ {p b starts depths : List ℕ} {deep : ℕ} (a : Known p b starts depths deep) (out : List ℕ) where
  abbrev x : FillInputs
  x = a.ready.inputs

  abbrev pub measurable : {most reach : ℕ} → MostLevels depths most → reach ≡ deep + most - 1 → Measurable p starts depths reach
  measurable m e = measurable_wider (measurable_reach {d = deep} a.ready m (omega (arith, a.level))) (omega arith)

  -- What is measured.
  abbrev pub length? : Option ℕ
  length? = cond (large x) None (Some (length (filled_bytes x)))

  pub size-known : {most reach : ℕ} {r : Option ℕ} → MostLevels depths most → reach ≡ deep + most - 1 → ((a : Measurable p starts depths reach) → r ≡ measured a) → r ≡ length?
  size-known m e h = h (measurable m e)

  -- What was measured tells whether the result is within the limits.
  over : None ≡ length? → large x ≡ true
  over e = go (large x) refl e
    where
      go : (c : Bool) → large x ≡ c → None ≡ cond c None (Some (length (filled_bytes x))) → large x ≡ true
      go true k e = k
      go false k e = cc

  pub under : (n : ℕ) → Some n ≡ length? → (large x ≡ false) × (n ≡ length (filled_bytes x))
  under n e = go (large x) refl e
    where
      go : (c : Bool) → large x ≡ c → Some n ≡ cond c None (Some (length (filled_bytes x))) → (large x ≡ false) × (n ≡ length (filled_bytes x))
      go true k e = absurd (cc)
      go false k e = (k, cc)

  -- What filling gives, where it is computed so.
  gives : {reply : Reply} {after : List ℕ} → filled_with out (fillable x) ≡ record { reply = reply; after = after } → HasEffect (filled_with out (fillable x)) reply after
  gives e = record { reply = sym (ap (λ (r : Effect). r.reply) e); after = sym (ap (λ (r : Effect). r.after) e) }

  pub fill-large : None ≡ length? → HasEffect (filled_with out (fillable x)) (refused 23 4 0) out
  fill-large e = gives (with_large out x (over e))

  pub fill-short : (n : ℕ) → Some n ≡ length? → length out < n → HasEffect (filled_with out (fillable x)) (refused 20 3 n) out
  fill-short n e short =
      let k = under n e in
      subst (λ m. HasEffect (filled_with out (fillable x)) (refused 20 3 m) out) (sym k.1)
      (gives (with_short out x k.0 (subst (λ m. length out < m) k.1 short)))

  abbrev pub writable : (n : ℕ) → Some n ≡ length? → n ≤ length out → Writable p b starts (length out)
  writable n e room = record { depths = depths; ready = a.ready; fits = subst (λ m. m ≤ length out) (under n e).1 room }

  pub fill-written : (n : ℕ) → Some n ≡ length? → n ≤ length out → (after : List ℕ) → WritesResult p b starts out after →
      HasEffect (filled_with out (fillable x)) (accepted (n ∷ [])) after
  fill-written n e room after writes =
      let k = under n e in
      subst₂ (λ m l. HasEffect (filled_with out (fillable x)) (accepted (m ∷ [])) l) (sym k.1) (sym (writes (writable n e room)))
      (gives (with_room out x k.0 (subst (λ m. m ≤ length out) k.1 room)))
