-- Calls: the whole call from its parts.
--
--   pattern_repeated, pattern-linear   an accepted pattern, where a name stands twice and where none does
--   refused-listed                     where the check of the term refuses, so does list, in the same way
--   list-refused                       the refusals of the call that reading the inputs gives
--   some_bytes                         an accepted vocabulary has a word count
--   patterned, list-pattern            the call where both are accepted
--
use mathlib.Core.Path.{◌≡◌, refl, sym, ap, ap₂, ◌∙◌, subst}
use mathlib.Core.List.{List, []}
use Prim.Native.Nat.{ℕ, ◌<◌, ◌≤◌}
use native.Mathlib.Omega.{arith}
use lib.ListN.{length, get_or}
use Rattle.wire.specs.Reply.{Reply, accepted, refused, IsBytes, Kinded, kinded}
use Rattle.wire.specs.Effect.{Effect, HasEffect}
use Rattle.wire.specs.Parser.{Reading, accept, refuse, read_vocabulary}
use Rattle.wire.specs.CheckComputed.{reply_of, checked_term, term_values, term_reply_under, term_reply}
use Rattle.wire.specs.Vocabulary.{Vocabulary, HoldsVocabulary}
use Rattle.wire.specs.VocabularyLines.{byte_at}
use Rattle.wire.specs.ListComputed.{repeated_in, linear_of, linear_in, listed_into, listed_pattern, listed_vocabulary, listed}
use Rattle.wire.specs.PatternLines.{sightings}
use Rattle.wire.specs.Leftovers.{ListPromise}
use Rattle.wire.proofs.Bytes.{bytes_of}
use Rattle.wire.proofs.Inputs.{checked_in}
use Rattle.wire.proofs.Leftovers.{list-keeps}
use Rattle.wire.proofs.Settling.{settled-count}
use Rattle.wire.proofs.VocabulariesInverse.{vocabularies_inverse}
use Rattle.repeats.specs.FirstRepeat.{first_repeat, repeat_of}
use Rattle.repeats.proofs.Passing.{pattern_repeats}
use Rattle.signature.specs.Answers.{vocabulary_refused}
use Rattle.signature.specs.Tables.{accepted_in, vocabulary_in}
use Rattle.std.specs.Prelude.{Option, Some, None}
use Rattle.std.specs.Prelude.{Result, Ok, Err, IsErrAnd}
use Rattle.reader.specs.Answers.{term_refused, check_refused}
use Rattle.reader.specs.declared.CheckRefusal.{CheckRefusal}
use Rattle.reader.specs.declared.CheckRefusal.TheVariants as C
use Rattle.reader.specs.Loaded.{without_values, SettledTable}
use Rattle.reader.proofs.Refused.{Refuses, vocabulary-refuses, term-refuses}
use Rattle.sizes.specs.declared.Size.{Size}
use Rattle.complement.specs.Answers.{refusal_of, list_numbers}
use Rattle.complement.specs.Sifting.{SettledPattern, left_of, left_bytes, ListsPattern}
use Rattle.complement.specs.declared.ListRefusal.{ListRefusal}

-- A refusal that is passed on.
pub passed_on : (r : Result Size ListRefusal) (why : CheckRefusal) → IsErrAnd r (λ e. e ≡ refusal_of why) → r ≡ Err (refusal_of why)
passed_on (Ok size) why h = absurd h
passed_on (Err e) why h = ap Err h

-- ---- a name that stands twice

module _ {p : List ℕ} {words : ℕ} {table : List ℕ} {k : Option ℕ} (h : SettledPattern p words table k) (before : List ℕ) where
  repeats : (r : Option ℕ) → repeat_of r ≡ first_repeat words p → repeat_of r ≡ repeated_in [] (sightings h.vocabulary h.term)
  repeats r e =
      e
      ∙ ap₂ first_repeat (h.settled.tabled.words ∙ settled-count h.vocabulary) h.held.written
      ∙ pattern_repeats h.vocabulary h.in_order h.kind h.term h.held.good

  judged : (r : Option ℕ) → repeat_of r ≡ first_repeat words p →
      listed_pattern h.vocabulary before (linear_in h.vocabulary (accept (kinded h.kind h.term)))
      ≡ listed_pattern h.vocabulary before (linear_of (kinded h.kind h.term) (repeat_of r))
  judged r e = ap (λ o. listed_pattern h.vocabulary before (linear_of (kinded h.kind h.term) o)) (sym (repeats r e))

  pub pattern_repeated : (r : Option ℕ) → repeat_of r ≡ first_repeat words p → (q : ℕ) → r ≡ Some q →
      HasEffect (listed_pattern h.vocabulary before (linear_in h.vocabulary (accept (kinded h.kind h.term)))) (refused 18 1 q) before
  pattern_repeated r e q f =
      let g = judged r e ∙ ap (λ r. listed_pattern h.vocabulary before (linear_of (kinded h.kind h.term) (repeat_of r))) f in
      record { reply = sym (ap (λ (l : Effect). l.reply) g); after = sym (ap (λ (l : Effect). l.after) g) }

  pub pattern-linear : (r : Option ℕ) → repeat_of r ≡ first_repeat words p → r ≡ None → {reply : Reply} {after : List ℕ} →
      HasEffect (listed_into before (length (left_of h)) (left_bytes h)) reply after →
      HasEffect (listed_pattern h.vocabulary before (linear_in h.vocabulary (accept (kinded h.kind h.term)))) reply after
  pattern-linear r e f {reply} {after} s =
      let g = judged r e ∙ ap (λ r. listed_pattern h.vocabulary before (linear_of (kinded h.kind h.term) (repeat_of r))) f in
      subst (λ l. HasEffect l reply after) (sym g) s

-- ---- refusals of the vocabulary and of the pattern

-- Where the check of the term refuses, so does list, in the same way.
refused-listed : (v p before : List ℕ) (r : Reply) → Refuses r → r ≡ without_values (term_reply v p) → HasEffect (listed v p before) r before
refused-listed v p before r k e = vocabulary (read_vocabulary v) e
  where
    pattern : (W : Vocabulary) (x : Reading Kinded) → r ≡ without_values (reply_of 1 (term_values W (length p)) x) →
        HasEffect (listed_pattern W before (linear_in W x)) r before
    pattern W (refuse n q) e = record { reply = e; after = refl }
    pattern W (accept x) e = absurd (subst Refuses e k)

    vocabulary : (x : Reading Vocabulary) → r ≡ without_values (term_reply_under p x) → HasEffect (listed_vocabulary p before x) r before
    vocabulary (refuse n q) e = record { reply = e; after = refl }
    vocabulary (accept W) e = pattern W (checked_term W p) e

-- ---- the whole call

module _ (v p before : List ℕ) (vocabularyBytes : (i : ℕ) → get_or v i 0 < 256) (patternBytes : (i : ℕ) → get_or p i 0 < 256) where
  bv : IsBytes v
  bv = bytes_of v vocabularyBytes

  bp : IsBytes p
  bp = bytes_of p patternBytes

  -- What list ensures of a reply and the lent slice.
  abbrev Ensured : Reply → List ℕ → Type 0
  Ensured r after = ListPromise v p before after r × HasEffect (listed v p before) r after

  promised : {r : Reply} {after : List ℕ} → HasEffect (listed v p before) r after → Ensured r after
  promised {r} {after} s = (
    subst (λ r. ListPromise v p before after r) (sym s.reply)
        (subst (λ a. ListPromise v p before a (listed v p before).reply) (sym s.after) (list-keeps v p before bv bp)),
    s,
  )

  -- The check of the pattern refuses.
  pub list-refused : (why : CheckRefusal) → check_refused why ≡ without_values (term_reply v p) → Ensured (list_numbers (Err (refusal_of why))) before
  list-refused (C.Vocabulary why) e = promised (refused-listed v p before (vocabulary_refused why) (vocabulary-refuses why) e)
  list-refused (C.Term why) e = promised (refused-listed v p before (term_refused 1 why) (term-refuses 1 0 why) e)

  -- Both are accepted.
  module _ (e : accepted [] ≡ without_values (term_reply v p)) where
    abbrev W : Vocabulary
    W = vocabulary_in v

    abbrev Found : Reading Kinded → Type 0
    Found r = (x : Kinded) × (r ≡ accept x)

    -- A reply that refuses is none that accepts.
    never : (n i q : ℕ) → accepted [] ≡ refused n i q → ⊥
    never n i q e = subst Refuses (sym e) tt

    read : read_vocabulary v ≡ accept W
    read = go (read_vocabulary v) e
      where
        go : (r : Reading Vocabulary) → accepted [] ≡ without_values (term_reply_under p r) → r ≡ accept (accepted_in r)
        go (accept W) e = refl
        go (refuse n q) e = absurd (never n 0 q e)

    found : Found (checked_term W p)
    found = go (checked_term W p) (e ∙ ap (λ r. without_values (term_reply_under p r)) read)
      where
        go : (r : Reading Kinded) → accepted [] ≡ without_values (reply_of 1 (term_values W (length p)) r) → Found r
        go (accept x) e = (x, refl)
        go (refuse n q) e = absurd (never n 1 q e)

    held : HoldsVocabulary v W
    held = (vocabularies_inverse v W bv).0 read

    pub some_bytes : 2 ≤ length v
    some_bytes = let e = ap length held.written in omega arith

    module _ {words : ℕ} {table : List ℕ} {k : Option ℕ} (counted : words ≡ byte_at v 1) (settles : SettledTable v table k) where
      pub patterned : SettledPattern p words table k
      patterned =
          let in_order = held.in_order in
          let x : Kinded = found.0 in
          record {
            vocabulary = W;
            kind = x.kind;
            term = x.term;
            in_order = in_order;
            settled = rw counted settles.of;
            held = checked_in W p x in_order bp found.1;
          }

      pub list-pattern : {r : Reply} {after : List ℕ} → ListsPattern p words table k before after r → Ensured r after
      unfolding patterned
      list-pattern {r} {after} s =
          promised
          (subst (λ l. HasEffect l r after)
          (sym (ap (listed_vocabulary p before) read ∙ ap (λ x. listed_pattern W before (linear_in W x)) found.1)) (s patterned))
