-- Two words, one after the other.
use mathlib.Core.Path.{◌≡◌}
use Prim.Native.Nat.{suc, ◌+◌, ◌*◌}
use native.Mathlib.Omega.{arith}
use Rattle.lists.specs.Lists.{put}
use Rattle.calls.specs.Store.{state_size, expanded_place, mark_with}
use Rattle.calls.proofs.RecordLaws.{first_place}
use Rattle.store_records.proofs.state_records.mark_expanded.Goals as goal

pub returns : goal.returns
unfolding mark_with put
returns c =
    let n = c.args.n.0 in
    let e : state_size * n + first_place ≡ suc (state_size * n + expanded_place) = omega arith in
    λ heads trs u k. rw (c.store-2.ensures, c.store.ensures, e)
