-- `files::put_file` meets its contract.
use Rattle.files.proofs.Putting.{file_puts}
use Rattle.files.proofs.put_file.Goals as goal

pub returns : goal.returns
returns c =
    file_puts c.encode-size.ensures.encoded c.places_of-places.ensures c.put.ensures c.put_tails.ensures
    c.put-2.ensures c.put_number.ensures c.put-3.ensures
