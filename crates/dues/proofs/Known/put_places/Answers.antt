-- `dues::Known::put_places` meets its contract.
use mathlib.Core.Path.{sym, ap, ◌∙◌}
use borrow.Author.Tests.{eq-eqb, ne_eqb}
use Rattle.wire.proofs.Cond.{cond_true, cond_false}
use Rattle.texts.specs.Lexemes.{lexemes_from, token_at}
use Rattle.texts.specs.Complaints.{commas_in, takes_text, over_text}
use Rattle.pages.proofs.Pages.{adds_is, adds_then}
use Rattle.dues.proofs.Known.put_places.Goals as goal

pub returns-then-why-eq-PLACES_OVER : goal.returns-then-why-eq-PLACES_OVER
returns-then-why-eq-PLACES_OVER c =
    let text = c.args.self.now.text.now in
    let over =
    ap (λ n. over_text (token_at text c.args.at) n (commas_in 0 (lexemes_from text c.args.at))) c.places_of-places.ensures
    ∙ sym (cond_true _ _ _ (eq-eqb _ _ c.if-why-eq-PLACES_OVER.true))
    in
    adds_then c.put_word.ensures (adds_then (adds_is (ap takes_text c.places_of-places.ensures) c.put_takes.ensures) (adds_is over c.put_over.ensures))

pub returns-else-why-eq-PLACES_OVER : goal.returns-else-why-eq-PLACES_OVER
returns-else-why-eq-PLACES_OVER c =
    adds_then c.put_word.ensures
    (adds_then (adds_is (ap takes_text c.places_of-places.ensures) c.put_takes.ensures) (adds_is (sym (cond_false _ _ _ (ne_eqb _ _ c.if-why-eq-PLACES_OVER.false))) c.put_missing.ensures))
