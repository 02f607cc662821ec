-- The zeros, and what lies behind them.
use mathlib.Core.Path.{◌≡◌}
use native.Mathlib.Omega.{arith}
use lib.ListN.{length, take}
use lib.Seq.{length-take-le}
use Rattle.work_words.proofs.ClearLaws.{zeros_put}
use Rattle.work_words.proofs.clear.Goals as goal

pub returns : goal.returns
returns c =
    let work = c.args.work.now in
    let end = c.min-end.result in
    let k : length (take end work) ≡ end = length-take-le end work (omega arith) in
    rw (c.fill.ensures.after (λ y e. e), k) (zeros_put work c.args.count end c.min-end.ensures)
