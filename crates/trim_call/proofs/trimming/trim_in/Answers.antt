use mathlib.Core.Path.{◌≡◌}
use lib.ListN.{length}
use Rattle.trim_call.proofs.TrimLaws.{cleared_whole, cleared_again}
use borrow.Author.Rules.{rules}
use Rattle.trim_call.proofs.trimming.trim_in.Goals as goal

pub trim_cleared-answer-requires-clause-clean : goal.trim_cleared-answer-requires-clause-clean
trim_cleared-answer-requires-clause-clean c = cleared_whole _ _ _ c.requires.sized c.clear.ensures

pub returns-clause-session : goal.returns-clause-session
returns-clause-session c =
    let same : length c.trim_cleared-answer.new.work ≡ length c.args.work.now = search rules in
    (c.trim_cleared-answer.ensures.session, cleared_again _ _ _ _ c.requires.sized same c.clear-2.ensures)
