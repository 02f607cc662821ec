-- `put_end` meets its contract: its texts one after the other are the line of the definition.
use Rattle.listing_text.specs.Printing.{line_bytes, spaced}
use Rattle.listing_write.proofs.WrittenLaws.{then}
use Rattle.listing_write.proofs.put_end.Goals as goal

pub returns-clause-written : goal.returns-clause-written
unfolding line_bytes spaced
returns-clause-written c =
    let p = c.put_text-a.ensures in
    let q = c.put_word-b.ensures in
    let s = c.put_word-c.ensures in
    let t = c.put_text.ensures in
    then p (then q.written (then s.written t))
