use Rattle.store_records.specs.Meaning.{store_in}
use Rattle.trim_call.proofs.TrimLaws.{numbered}
use Rattle.trim_call.proofs.marked.number_useful.Goals as goal

pub returns : goal.returns
returns c = λ heads k S1 S2 ok marks. numbered k (store_in heads c.args.states.now c.args.trs.now c.args.used) S1 S2 ok c.requires.0 c.requires.1 c.args.work.now c.requires.2 marks _ _ _ (c.find_useful.ensures heads) c.number_states.ensures.value c.number_states.ensures.words
