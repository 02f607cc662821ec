-- Four words, each at its place.
use Rattle.calls.specs.Store.{target_at, field_of}
use Rattle.store_records.proofs.tr_records.stored_tr.Goals as goal

pub returns : goal.returns
unfolding target_at field_of
returns c = rw (c.word.ensures, c.word-2.ensures, c.word-3.ensures, c.word-4.ensures)
