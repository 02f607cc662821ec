-- What is used lies within the slice.
use Rattle.calls.specs.Store.{tr_size}
use Rattle.calls.proofs.RecordLaws.{room_words}
use Rattle.store_form.proofs.tr_form.trs_ok.Goals as goal

pub all_linked-requires : goal.all_linked-requires
all_linked-requires c = room_words tr_size c.args.trs.now c.args.used.trs c.requires
