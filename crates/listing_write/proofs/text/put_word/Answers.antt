-- A space, then the number.
use Rattle.listing_write.proofs.WrittenLaws.{then}
use Rattle.listing_write.proofs.text.put_word.Goals as goal

pub returns-clause-written : goal.returns-clause-written
returns-clause-written c = then c.put_text-a.ensures c.put_number.ensures.written
