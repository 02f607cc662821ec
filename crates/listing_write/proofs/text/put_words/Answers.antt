-- Four words, one after the other.
use Rattle.listing_write.proofs.WrittenLaws.{then}
use Rattle.listing_write.proofs.text.put_words.Goals as goal

pub returns-clause-written : goal.returns-clause-written
returns-clause-written c = then c.put_word-p.ensures.written (then c.put_word-q.ensures.written (then c.put_word-s.ensures.written c.put_word.ensures.written))
