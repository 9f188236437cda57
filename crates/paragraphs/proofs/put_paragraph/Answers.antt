-- `paragraphs::put_paragraph` meets its contract.
use Rattle.paragraphs.proofs.Putting.{paragraph_puts}
use Rattle.paragraphs.proofs.put_paragraph.Goals as goal

pub returns : goal.returns
returns c = paragraph_puts c.requires c.put_phrase-head.ensures c.start-s.ensures c.put_questions.ensures
