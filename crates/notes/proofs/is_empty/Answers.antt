-- `notes::is_empty` meets its contract.
use Rattle.notes.proofs.Noting.{refused-told, loaded_told}
use Rattle.notes.proofs.is_empty.Goals as goal

pub returns-in-Err : goal.returns-in-Err
returns-in-Err c =
    refused-told (λ i. (c.type_inv.vocabulary i).fits) c.load_settled.ensures _ c.in-Err.is

pub returns-in-Ok : goal.returns-in-Ok
returns-in-Ok c =
    loaded_told (λ i. (c.type_inv.vocabulary i).fits) c.load_settled.ensures _ c.in-Ok.is
    c.from.ensures c.whole.ensures
