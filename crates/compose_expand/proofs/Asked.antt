-- What it says of labels that they are taken as they stand.
use mathlib.Core.Path.{◌≡◌}
use mathlib.Core.Bool.{true}
use mathlib.Core.List.{List}
use Prim.Native.Nat.{ℕ}
use lib.Dec.{eqb}
use lib.ListN.{length}
use borrow.Author.Tests.{eqb-true}
use Rattle.lists.proofs.Members.{and_left, and_right}
use Rattle.words.specs.Settings.{Settings}
use Rattle.compose_plan.specs.Serves.{no_sigma}
use Rattle.compose_expand.specs.Memos.{plain_labels}

-- where labels are taken as they stand, none is ignored and none is sigma
pub none_ignored : (s : Settings) (ignored : List ℕ) → plain_labels s ignored ≡ true → length ignored ≡ 0
unfolding plain_labels
none_ignored s ignored e = eqb-true _ _ (and_left (eqb (length ignored) 0) _ e)

pub none_sigma : (s : Settings) (ignored : List ℕ) → plain_labels s ignored ≡ true → no_sigma s ≡ true
unfolding plain_labels
none_sigma s ignored e = and_right (eqb (length ignored) 0) _ e
