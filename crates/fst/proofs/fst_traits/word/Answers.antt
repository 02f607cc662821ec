-- A word past the end is the default of `get_or`.
use mathlib.Core.Path.{sym}
use lib.ListN.{get_or-eq_default}
use Rattle.fst.proofs.fst_traits.word.Goals as goal

pub returns-else-i-m : goal.returns-else-i-m
returns-else-i-m c = sym (get_or-eq_default c.args.m.now 0 c.if-i-m.false)
