-- The first match comes with the count; where none comes there was none to count.
use Rattle.matchers.specs.Cursors.{held_words}
use Rattle.counted_iter.proofs.Counts.{count_first}
use mathlib.Core.Path.{◌≡◌}
use borrow.Author.Rules.{rules}
use Rattle.std.specs.Prelude.{option_map}
use Rattle.counted_iter.proofs.counted.Goals as goal

pub returns-clause-result_value : goal.returns-clause-result_value
returns-clause-result_value c =
    let a = c.args in
    let r : c.map.result ≡ option_map (λ u. (c.count_left-n.result, u)) c.next_match-found.result.0 = search rules in
    rw r (count_first (held_words a.cursor a.ignored.now a.m.now) a.cursor _ _ _ c.count_left-n.ensures c.next_match-found.ensures.result_value)
