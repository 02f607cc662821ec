-- Every word of a state and of a record of a machine whose size is good is in range, and places stay small.
use mathlib.Core.Path.{◌≡◌}
use mathlib.Core.Bool.{true}
use mathlib.Core.List.{List}
use Prim.Native.Nat.{ℕ, ◌+◌, ◌*◌, ◌≤◌}
use lib.Dec.{leb}
use lib.ListN.{length}
use borrow.Author.Tests.{leb-true, eqb-true}
use Rattle.lists.proofs.Members.{and_left, and_right}
use Rattle.words.specs.Machines.{limit, state_count, tr_count, size_up_to, size_ok, well_formed_up_to, well_formed}

-- what a good size says
pub record Size (m : List ℕ) : Type 0 where
  pub words : length m ≡ 6 + 3 * state_count m + 5 * tr_count m
  pub states : state_count m ≤ 16777215
  pub trs : tr_count m ≤ 16777215

pub sized : (m : List ℕ) → size_ok m ≡ true → Size m
unfolding size_up_to
sized m e =
    let r = and_right (leb (state_count m) limit) _ e in
    record {
      words = eqb-true _ _ (and_right (leb (tr_count m) limit) _ r);
      states = leb-true _ _ (and_left (leb (state_count m) limit) _ e);
      trs = leb-true _ _ (and_left (leb (tr_count m) limit) _ r);
    }

-- a well-formed machine has a good size
pub well_sized : (m : List ℕ) → well_formed m ≡ true → size_ok m ≡ true
unfolding well_formed_up_to
well_sized m e = and_left (size_ok m) _ e

pub size : (m : List ℕ) → well_formed m ≡ true → Size m
size m e = sized m (well_sized m e)
