-- The label of `inner_label`, tested as wanted.
use Rattle.std.specs.Prelude.{◌≡◌, Bool, true, false}
use mathlib.Core.Path.{refl, ap, ◌∙◌}
use mathlib.Core.Bool.{beq}
use Rattle.compose_filters.specs.Meaning.{as_wanted, wanted_eps}
use Rattle.compose_filters.proofs.eps_is.Goals as goal

equal_wanted : (b wanted : Bool) → beq b wanted ≡ as_wanted wanted b
equal_wanted true true = refl
equal_wanted true false = refl
equal_wanted false true = refl
equal_wanted false false = refl

pub returns : goal.returns
unfolding wanted_eps
returns c = rw (← c.inner_label.ensures) (equal_wanted c.eq.result c.args.wanted ∙ ap (as_wanted c.args.wanted) c.eq.ensures)
