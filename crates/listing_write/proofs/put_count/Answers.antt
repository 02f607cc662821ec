-- `put_count` meets its contract: the digits, and a line feed.
use Rattle.listing_write.proofs.WrittenLaws.{then}
use Rattle.listing_write.proofs.put_count.Goals as goal

pub returns-clause-written : goal.returns-clause-written
returns-clause-written c =
    let p = c.put_number-a.ensures in
    let t = c.put_text.ensures in
    then p.written t
