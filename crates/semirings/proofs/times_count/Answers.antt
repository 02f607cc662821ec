-- A product is found where it is at most MAX.
use Rattle.semirings.proofs.KindLaws.{product_found}
use Rattle.semirings.proofs.times_count.Goals as goal

pub returns : goal.returns
returns c = product_found _ _ _ c.checked_mul.ensures
