-- `encoder::put_word` meets its contract.
use Rattle.std.proofs.Common.{ap, ◌∙◌, min}
use Rattle.encoder.proofs.Words.{word-put}
use Rattle.encoder.proofs.put_word.Goals as goal

pub returns : goal.returns
returns c =
    word-put c.args.records.now c.args.out.now c.args.f c.args.at c.requires.inside c.told-records c.requires.room (c.min-m.ensures ∙ ap (λ n. min n 8) c.from.ensures) c.full_map.ensures c.copy_from_slice.ensures.after
