-- A remainder is below what is divided by.
use Prim.Native.Nat.{◌+◌, ◌*◌, ◌%◌}
use native.Mathlib.Nat.{mod-lt}
use borrow.Author.Rules.{rules}
use Rattle.compose_count.proofs.notes.class_of.Goals as goal

pub overflow_cast-result-2 : goal.overflow_cast-result-2
overflow_cast-result-2 c =
    let t = c.args.tuple in
    search (rules, mod-lt ((40503 * t.s1.0 + 30011 * t.s2.0 + t.fs) % 65521) c.requires)
