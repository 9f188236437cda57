-- Judging: the reply of judging a pattern and a situation, by what reading them gives.
--
--   never_accepted         a refusal is no acceptance
--   judged-refused         where reading the two refuses, judging them refuses so
--   Taken, taken           both are read, and the situation has no gap
--   first-apart, first-same    two first bytes compared
--   judged-other, judged-whole    the reply where both are read, by the kinds
--
use mathlib.Core.Path.{◌≡◌, refl, sym, ap, ◌∙◌}
use mathlib.Core.Bool.{Bool, true, false, cond, not, true≢false, false≢true}
use mathlib.Core.List.{List, []}
use mathlib.Core.Option as M
use mathlib.Core.Option.{some, none}
use Rattle.std.specs.Prelude.{Option, Some, None, slice_get, option_map}
use Rattle.std.specs.Option.{option_eq}
use Prim.Native.Nat.{ℕ, ◌<◌}
use lib.Dec.{eqb}
use lib.ListN.{length, get_or}
use borrow.Author.Tests.{eqb-true, eq-eqb, ne_eqb}
use Rattle.wire.specs.Reply.{Reply, accepted, refused, Kinded}
use Rattle.wire.specs.Vocabulary.{Vocabulary, InOrder}
use Rattle.wire.specs.TermBytes.{HoldsTerm}
use Rattle.wire.specs.Parser.{Reading, accept, refuse, read_vocabulary}
use Rattle.wire.specs.CheckComputed.{checked_term}
use Rattle.wire.specs.GapComputed.{first_gap, gap_or}
use Rattle.wire.specs.SituationComputed.{ground, situation_of, situation_in}
use Rattle.wire.specs.MatchComputed.{judged_situation, judged_pattern, judged_vocabulary, judged, clear_reply}
use Rattle.wire.proofs.Bytes.{bytes_of}
use Rattle.wire.proofs.Cond.{cond_true, cond_false}
use Rattle.wire.proofs.Inputs.{checked_in}
use Rattle.wire.proofs.Matching.{not_accepted}
use Rattle.wire.proofs.Theorems.{vocabularies_inverse}
use Rattle.reader.specs.Whole.{no_gap, extent_of, told_by}
use Rattle.reader.specs.Pairs.{both_told, pair_under, pair_reply}
use Rattle.reader.specs.Nodes.{number_of, place_of}
use Rattle.reader.proofs.Calls.{refused_never}
use Rattle.reader.proofs.Told.{refusal-reply}
use Rattle.inputs.specs.Answers.{inputs_refused}
use Rattle.inputs.specs.declared.InputsRefusal.{InputsRefusal}
use Rattle.inputs.specs.declared.InputsRefusal.TheVariants as I

-- ---- refusals

never_accepted : (why : InputsRefusal) (l : List ℕ) → inputs_refused why ≡ accepted l → ⊥
never_accepted (I.Vocabulary why) l e = refused_never why l e
never_accepted (I.Pattern why) l e = not_accepted (number_of why) 1 (place_of why) l (sym (refusal-reply 1 why) ∙ e)
never_accepted (I.Situation why) l e = not_accepted (number_of why) 2 (place_of why) l (sym (refusal-reply 2 why) ∙ e)
never_accepted (I.Incomplete q) l e = not_accepted 16 2 q l e
never_accepted I.KindsDiffer l e = not_accepted 17 2 0 l e

module _ (why : InputsRefusal) (p s : List ℕ) where
  abbrev a : Reply
  a = inputs_refused why

  by_gap : (W : Vocabulary) (k j : Kinded) (o : M.Option ℕ) → a ≡ cond (no_gap o) (accepted []) (refused 16 2 (gap_or (length s) o)) →
      a ≡ clear_reply (judged_situation W k (situation_of k.kind j o))
  by_gap W k j none e = absurd (never_accepted why [] e)
  by_gap W k j (some q) e = e

  by_situation : (W : Vocabulary) (k : Kinded) (y : Reading Kinded) → a ≡ both_told (accept (extent_of W (length p) k)) (told_by W (length s) y) →
      a ≡ clear_reply (judged_situation W k (situation_in W k.kind y))
  by_situation W k (refuse n q) e = e
  by_situation W k (accept j) e = by_gap W k j (first_gap W j.term) e

  by_pattern : (W : Vocabulary) (x : Reading Kinded) → a ≡ both_told (told_by W (length p) x) (told_by W (length s) (checked_term W s)) →
      a ≡ clear_reply (judged_pattern W s x)
  by_pattern W (refuse n q) e = e
  by_pattern W (accept k) e = by_situation W k (checked_term W s) e

  by_vocabulary : (r : Reading Vocabulary) → a ≡ pair_under p s r → a ≡ clear_reply (judged_vocabulary p s r)
  by_vocabulary (refuse n q) e = e
  by_vocabulary (accept W) e = by_pattern W (checked_term W p) e

pub judged-refused : (v p s : List ℕ) (why : InputsRefusal) → inputs_refused why ≡ pair_reply v p s → inputs_refused why ≡ clear_reply (judged v p s)
judged-refused v p s why e = by_vocabulary why p s (read_vocabulary v) e

-- ---- both are read

pub record Taken (v p s : List ℕ) : Type 0 where
  pub vocabulary : Vocabulary
  pub pattern : Kinded
  pub situation : Kinded
  pub pattern_held : HoldsTerm vocabulary p pattern.kind pattern.term
  pub situation_held : HoldsTerm vocabulary s situation.kind situation.term
  pub same : judged_situation vocabulary pattern (situation_of pattern.kind situation none) ≡ judged v p s

module _ (v p s : List ℕ) (lentV : (i : ℕ) → get_or v i 0 < 256) (lentP : (i : ℕ) → get_or p i 0 < 256) (lentS : (i : ℕ) → get_or s i 0 < 256) where
  taken_whole : (W : Vocabulary) → read_vocabulary v ≡ accept W → (k j : Kinded) → checked_term W p ≡ accept k → checked_term W s ≡ accept j →
      (o : M.Option ℕ) → first_gap W j.term ≡ o → accepted [] ≡ cond (no_gap o) (accepted []) (refused 16 2 (gap_or (length s) o)) → Taken v p s
  taken_whole W ev k j ep es (some q) h e = absurd (not_accepted 16 2 q [] (sym e))
  taken_whole W ev k j ep es none h e =
      let in_order : InOrder W = ((vocabularies_inverse v W (bytes_of v lentV)).0 ev).in_order in
      record {
        vocabulary = W;
        pattern = k;
        situation = j;
        pattern_held = checked_in W p k in_order (bytes_of p lentP) ep;
        situation_held = checked_in W s j in_order (bytes_of s lentS) es;
        same =
            ap (λ o. judged_situation W k (situation_of k.kind j o)) (sym h)
            ∙ ap (λ r. judged_situation W k (situation_in W k.kind r)) (sym es)
            ∙ ap (judged_pattern W s) (sym ep)
            ∙ ap (judged_vocabulary p s) (sym ev);
      }

  taken_second : (W : Vocabulary) → read_vocabulary v ≡ accept W → (k : Kinded) → checked_term W p ≡ accept k → (z : Reading Kinded) → checked_term W s ≡ z →
      accepted [] ≡ both_told (accept (extent_of W (length p) k)) (told_by W (length s) z) → Taken v p s
  taken_second W ev k ep (refuse n q) es e = absurd (not_accepted n 2 q [] (sym e))
  taken_second W ev k ep (accept j) es e = taken_whole W ev k j ep es (first_gap W j.term) refl e

  taken_first : (W : Vocabulary) → read_vocabulary v ≡ accept W → (z : Reading Kinded) → checked_term W p ≡ z →
      accepted [] ≡ both_told (told_by W (length p) z) (told_by W (length s) (checked_term W s)) → Taken v p s
  taken_first W ev (refuse n q) ep e = absurd (not_accepted n 1 q [] (sym e))
  taken_first W ev (accept k) ep e = taken_second W ev k ep (checked_term W s) refl e

  taken_under : (r : Reading Vocabulary) → read_vocabulary v ≡ r → accepted [] ≡ pair_under p s r → Taken v p s
  taken_under (refuse n q) ev e = absurd (not_accepted n 0 q [] (sym e))
  taken_under (accept W) ev e = taken_first W ev (checked_term W p) refl e

  pub taken : accepted [] ≡ pair_reply v p s → Taken v p s
  taken e = taken_under (read_vocabulary v) refl e

-- What a comparison of what stands in front of two slices says.
pub first-apart : {T : Type 0} (byte : T → ℕ) (o q : Option T) → true ≡ not (option_eq (λ x y. eqb (byte x) (byte y)) o q) → option_map byte o ≡ option_map byte q → ⊥
first-apart byte None None e h = true≢false e
first-apart byte None (Some y) e h = cc
first-apart byte (Some x) None e h = cc
first-apart byte (Some x) (Some y) e h = true≢false (e ∙ ap not (eq-eqb (byte x) (byte y) cc))

pub first-same : {T : Type 0} (byte : T → ℕ) (o q : Option T) → false ≡ not (option_eq (λ x y. eqb (byte x) (byte y)) o q) → option_map byte o ≡ option_map byte q
first-same byte None None e = refl
first-same byte None (Some y) e = absurd (false≢true e)
first-same byte (Some x) None e = absurd (false≢true e)
first-same byte (Some x) (Some y) e = ap Some (go (eqb (byte x) (byte y)) refl e)
  where
    go : (b : Bool) → eqb (byte x) (byte y) ≡ b → false ≡ not b → byte x ≡ byte y
    go true h e = eqb-true (byte x) (byte y) h
    go false h e = absurd (false≢true e)

module _ {v p s : List ℕ} (x : Taken v p s) where
  kind-situation : slice_get s 0 ≡ Some x.situation.kind
  kind-situation = ap (λ l. slice_get l 0) x.situation_held.written

  kind-pattern : slice_get p 0 ≡ Some x.pattern.kind
  kind-pattern = ap (λ l. slice_get l 0) x.pattern_held.written

  pub judged-other : (slice_get s 0 ≡ slice_get p 0 → ⊥) → refused 17 2 0 ≡ clear_reply (judged v p s)
  judged-other d =
      ap (λ r. clear_reply (judged_situation x.vocabulary x.pattern r))
      (sym (cond_false (eqb x.situation.kind x.pattern.kind) (accept (ground x.situation.term)) (refuse 17 0)
      (ne_eqb x.situation.kind x.pattern.kind (λ e. d (kind-situation ∙ ap Some e ∙ sym kind-pattern)))))
      ∙ ap clear_reply x.same

  pub judged-whole : slice_get s 0 ≡ slice_get p 0 → accepted [] ≡ clear_reply (judged v p s)
  judged-whole e =
      let same : Some x.situation.kind ≡ Some x.pattern.kind = sym kind-situation ∙ e ∙ kind-pattern in
      ap (λ r. clear_reply (judged_situation x.vocabulary x.pattern r))
      (sym (cond_true (eqb x.situation.kind x.pattern.kind) (accept (ground x.situation.term)) (refuse 17 0)
      (eq-eqb x.situation.kind x.pattern.kind cc)))
      ∙ ap clear_reply x.same
