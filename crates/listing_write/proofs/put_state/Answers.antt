-- `put_state` meets its contract: its texts one after the other are the line of the definition.
use mathlib.Core.Path.{ap}
use mathlib.Core.List.{List, [], ◌∷◌, ◌++◌}
use Prim.Native.Nat.{ℕ}
use Rattle.listing_text.specs.Printing.{decimal, final_word, line_bytes, spaced}
use Rattle.listing_write.proofs.WrittenLaws.{then, same_text, regroup}
use Rattle.listing_write.proofs.put_state.Goals as goal

pub returns-clause-written : goal.returns-clause-written
unfolding line_bytes spaced
returns-clause-written c =
    let a = c.args in
    let p = c.put_text-a.ensures in
    let q = c.put_words-b.ensures in
    let s = c.put_final-c.ensures in
    let t = c.put_text.ensures in
    same_text (ap (λ (x : List ℕ). 115 ∷ x) (regroup (32 ∷ decimal a.n) (32 ∷ decimal a.s1) (32 ∷ decimal a.s2) (32 ∷ decimal a.f) (32 ∷ final_word a.weight ++ (10 ∷ [])))) (then p (then q.written (then s.written t)))
