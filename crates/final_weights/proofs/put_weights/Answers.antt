use borrow.Author.Rules.{rules}
use Rattle.store_records.specs.Meaning.{memory_of}
use Rattle.final_weights.proofs.WordLaws.{words_start, words_again, words_done}
use Rattle.final_weights.proofs.put_weights.Goals as goal

pub loop-n-init : goal.loop-n-init
loop-n-init c = let sized = c.requires.sized in record { sized = sized; words = words_start _ _ _ _ _ sized }

pub loop-n-preserved : goal.loop-n-preserved
loop-n-preserved c =
    let a = c.args in
    let m = memory_of a.heads.now a.states.now a.trs.now in
    record {
      sized = search rules;
      words = words_again _ _ _ _ _ _ _ _ _ c.loop-n-test.true c.loop-n.invariant.words (c.put_weight.ensures m) c.trusted_final_weight-weight.ensures;
    }

pub returns : goal.returns
returns c = words_done _ _ _ _ _ _ _ c.loop-n-test.false c.loop-n.invariant.words
