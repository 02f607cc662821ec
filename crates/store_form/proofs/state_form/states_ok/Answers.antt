-- The triples, then the other words.
use Rattle.fst.proofs.Tests.{holds}
use Rattle.store_form.proofs.RecordForms.{states_both}
use Rattle.store_form.proofs.state_form.states_ok.Goals as goal

pub returns-then-tuples_ok : goal.returns-then-tuples_ok
returns-then-tuples_ok c = λ heads trs. rw (states_both, holds c.tuples_ok.ensures c.if-tuples_ok.true) (c.links_ok.ensures heads trs c.args.used.states)
