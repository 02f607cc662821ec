use Prim.Native.Nat.{ℕ, ◌+◌, ◌<◌}
use mathlib.Core.Path.{◌≡◌}
use mathlib.Core.List.{List, ◌∷◌}
use native.Mathlib.Numerals.{add-one}
use lib.ListN.{length, get_or, drop, drop_of_length-le}
use lib.Seq.{drop-cons}
use borrow.Author.Tests.{eq-eqb, ne_eqb}
use Rattle.words.specs.Sigmas.{has}
use Rattle.fst.proofs.ignored.in_turn.Goals as goal

here : (list : List ℕ) (i : ℕ) → i < length list → drop i list ≡ get_or list i 0 ∷ drop (i + 1) list
here list i h = rw (add-one, drop-cons list i 0 h)

pub returns-then-x-label : goal.returns-then-x-label
unfolding has
returns-then-x-label c = rw (here c.args.list.now c.loop-x.x-index c.loop-x-test.true, eq-eqb _ _ c.if-x-label.true) at c.loop-x.invariant

pub loop-x-preserved : goal.loop-x-preserved
unfolding has
loop-x-preserved c = rw (here c.args.list.now c.loop-x.x-index c.loop-x-test.true, ne_eqb _ _ c.if-x-label.false) at c.loop-x.invariant

pub returns : goal.returns
unfolding has
returns c = rw (drop_of_length-le c.args.list.now c.loop-x-test.false) at c.loop-x.invariant
