-- Judging: what is computed of judging the inputs of match keeps its promise.
use mathlib.Core.Path.{◌≡◌, refl, sym, ap, ◌∙◌}
use mathlib.Core.List.{List, []}
use mathlib.Core.Logic.{◌↔◌}
use mathlib.Core.Option.{Option, some, none}
use Prim.Native.Nat.{ℕ}
use lib.ListN.{replicate}
use Rattle.terms.specs.Filling.{Filling}
use Rattle.terms.specs.Matcher.{matcher}
use Rattle.wire.specs.Reply.{accepted, refused}
use Rattle.wire.specs.Matching.{Inputs, table_length}
use Rattle.wire.specs.MatchComputed.{Judged, clear, refusal, judged, clear_reply, verdict, matched_with}
use Rattle.wire.specs.Laws.{JudgeKeeps}
use Rattle.wire.proofs.Inputs.{clear_is_held}
use Rattle.wire.proofs.Matching.{not_accepted, match_keeps}

abbrev blank : List ℕ
blank = replicate table_length 0

verdict-accepted : (x : Inputs) (o : Option Filling) (n i q : ℕ) → (verdict blank x o).reply ≡ refused n i q → ⊥
verdict-accepted x (some f) n i q e = not_accepted n i q _ (sym e)
verdict-accepted x none n i q e = not_accepted n i q _ (sym e)

-- With a table of the right length, match refuses what is not clear.
same-refusal : (j : Judged) (n i q : ℕ) → (clear_reply j ≡ refused n i q) ↔ ((matched_with blank j).reply ≡ refused n i q)
same-refusal (refusal m k r) n i q = ((λ e. e), (λ e. e))
same-refusal (clear x) n i q =
    ((λ e. absurd (not_accepted n i q _ (sym e))), (λ e. absurd (verdict-accepted x (matcher x.pattern x.situation) n i q e)))

accepted-clear : (j : Judged) (values : List ℕ) → clear_reply j ≡ accepted values → (x : Inputs) × (j ≡ clear x) × (values ≡ [])
accepted-clear (refusal m k r) values e = absurd (not_accepted m k r _ e)
accepted-clear (clear x) values e = (x, refl, cc)

pub judge_keeps : JudgeKeeps
judge_keeps v p s bv bp bs = record {
  refuses = λ n i q.
      let a = same-refusal (judged v p s) n i q in
      let b = (match_keeps v p s blank bv bp bs).refuses n i q in
      ((λ e. b.0 (a.0 e)), (λ d. a.1 (b.1 d)));
  accepts = λ values. (
    (λ e. let (x, c, z) = accepted-clear (judged v p s) values e in (x, (clear_is_held v p s x bv bp bs).0 c, z)),
    (λ (x, h, z). ap clear_reply ((clear_is_held v p s x bv bp bs).1 h) ∙ ap accepted (sym z)),
  );
}
