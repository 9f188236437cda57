-- `complement::list_settled` meets its contract.
use mathlib.Core.Path.{refl}
use Rattle.complement.proofs.Sifting.{fruitful-told, fruitful_patterned, fruitful-listed, inhabited-told, barren_listed}
use Rattle.complement.proofs.list_settled.Goals as goal

pub list_linear-requires : goal.list_linear-requires
list_linear-requires c =
    fruitful_patterned c.requires (fruitful-told c.requires c.fruitful.ensures c.if-fruitful.true)

pub returns-then-fruitful : goal.returns-then-fruitful
returns-then-fruitful c =
    λ h. fruitful-listed h (fruitful-told h c.fruitful.ensures c.if-fruitful.true) c.args.out.now c.list_linear.ensures

pub returns : goal.returns
returns c =
    λ h. barren_listed h (fruitful-told h c.fruitful.ensures c.if-fruitful.false) c.args.out.now (inhabited-told h refl c.inhabited-some.ensures) c.list_whole.ensures
