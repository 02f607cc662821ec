-- A turn takes one record off each list.
use lib.Dec.{leb-suc-suc}
use Rattle.words.proofs.ListLaws.{link, list_turn}
use Rattle.match_input.proofs.not_longer.Goals as goal

pub loop-t1-preserved : goal.loop-t1-preserved
loop-t1-preserved c =
    let l = c.loop-t1.invariant in
    rw (c.next_tr-t1.ensures, c.next_tr-t2.ensures)
    ((link _ _).inside, (link _ _).inside, rw (list_turn _ _ c.loop-t1-test.true l.0, list_turn _ _ c.if-t2-eq0.false l.1, leb-suc-suc) at l.2)
