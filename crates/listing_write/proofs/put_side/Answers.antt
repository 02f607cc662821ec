-- The text of each side is the line of the definition.
use mathlib.Core.Path.{◌≡◌}
use native.Mathlib.Omega.{arith}
use borrow.Author.Tests.{ne_eqb}
use Rattle.listing_text.specs.Printing.{line_bytes, spaced}
use Rattle.listing_write.proofs.put_side.Goals as goal

pub returns-in-0-clause-written : goal.returns-in-0-clause-written
unfolding line_bytes spaced
returns-in-0-clause-written c = rw c.in-0.is c.put_text.ensures

pub returns-in-1-clause-written : goal.returns-in-1-clause-written
unfolding line_bytes spaced
returns-in-1-clause-written c = rw c.in-1.is c.put_text-in-1.ensures

pub returns-in_default-clause-written : goal.returns-in_default-clause-written
unfolding line_bytes spaced
returns-in_default-clause-written c =
    let n0 : c.args.side ≡ 0 → ⊥ = λ e. omega arith in
    let n1 : c.args.side ≡ 1 → ⊥ = λ e. omega arith in
    rw (ne_eqb c.args.side 0 n0, ne_eqb c.args.side 1 n1) c.put_text-in_default.ensures
