-- A next that does not rise, or is above the number of records, is read as 0.
use borrow.Author.Tests.{lt-ltb, le-ltb, le-leb, lt-leb}
use Rattle.words.proofs.ListLaws.{next_guarded}
use Rattle.fst.proofs.fst_traits.next_tr.Goals.{else-t-next-via-then-t-next+else-next-num_records, else-t-next-via-else-t-next}
use Rattle.fst.proofs.fst_traits.next_tr.Goals as goal

pub returns-then-next-num_records : goal.returns-then-next-num_records
returns-then-next-num_records c = simp (next_guarded, ← c.tr_word-next.ensures, ← c.num_records.ensures, lt-ltb _ _ c.if-t-next.true, le-leb _ _ c.if-next-num_records.true)

pub returns-else-t-next : goal.returns-else-t-next
returns-else-t-next c = elim c.else-t-next.branch [
  | else-t-next-via-then-t-next+else-next-num_records w ↦ simp (next_guarded, ← c.tr_word-next.ensures, ← w.num_records.ensures, lt-ltb _ _ w.if-t-next.true, lt-leb _ _ w.if-next-num_records.false)
  | else-t-next-via-else-t-next w ↦ simp (next_guarded, ← c.tr_word-next.ensures, le-ltb _ _ w.if-t-next.false)
]
