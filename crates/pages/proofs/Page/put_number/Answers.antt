-- `pages::Page::put_number` meets its contract.
use Rattle.pages.proofs.Pages.{adds_is}
use Rattle.pages.proofs.Digits.{number_is}
use Rattle.pages.proofs.Page.put_number.Goals as goal

pub returns : goal.returns
returns c =
    adds_is (number_is _ _ _ c.decimal-k.ensures.len c.decimal-k.ensures.digits) c.put.ensures
