-- The derived test goes by the fields as they stand, filter state first.
use Rattle.std.specs.Prelude.{◌≡◌, Bool, true, false, ◌&&◌, eqb}
use mathlib.Core.Path.{refl, ◌∙◌}
use Rattle.words.specs.Steps.{same_triple}
use Rattle.compose_state_tuple.proofs.same_tuple.Goals as goal

last_first : (f a b : Bool) → f && (a && b) ≡ a && (b && f)
last_first true true true = refl
last_first true true false = refl
last_first true false b = refl
last_first false true true = refl
last_first false true false = refl
last_first false false b = refl

pub returns : goal.returns
unfolding same_triple
returns c = let a = c.args.a in let b = c.args.b in c.eq.ensures ∙ last_first (eqb a.fs b.fs) (eqb a.s1.0 b.s1.0) (eqb a.s2.0 b.s2.0)
