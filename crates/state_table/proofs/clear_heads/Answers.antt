-- As many words 0 as there are heads.
use mathlib.Core.Path.{refl, ◌∙◌}
use Rattle.std.proofs.lemmas.Simd.{splat_is_map}
use Rattle.state_table.proofs.clear_heads.Goals as goal

pub returns : goal.returns
returns c = c.fill.ensures.after (λ y e. e) ∙ splat_is_map c.args.heads.now _ 0 refl
