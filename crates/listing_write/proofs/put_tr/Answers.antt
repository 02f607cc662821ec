-- `put_tr` meets its contract: its texts one after the other are the line of the definition.
use mathlib.Core.Path.{ap}
use mathlib.Core.List.{List, [], ◌∷◌}
use Prim.Native.Nat.{ℕ}
use Rattle.listing_text.specs.Printing.{decimal, line_bytes, spaced}
use Rattle.listing_write.proofs.WrittenLaws.{then, same_text, regroup}
use Rattle.listing_write.proofs.put_tr.Goals as goal

pub returns-clause-written : goal.returns-clause-written
unfolding line_bytes spaced
returns-clause-written c =
    let a = c.args in
    let p = c.put_text-a.ensures in
    let q = c.put_words-b.ensures in
    let t = c.put_text.ensures in
    same_text (ap (λ (x : List ℕ). 116 ∷ x) (regroup (32 ∷ decimal a.input) (32 ∷ decimal a.output) (32 ∷ decimal a.weight) (32 ∷ decimal a.target) (10 ∷ []))) (then p (then q.written t))
