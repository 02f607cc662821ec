-- The library's decimal form is that of the definition.
use mathlib.Core.Path.{sym, ◌∙◌}
use Rattle.listing_write.proofs.Decimals.{spelled}
use Rattle.listing_write.proofs.WrittenLaws.{same_text}
use Rattle.listing_write.proofs.text.put_number.Goals as goal

pub returns-clause-written : goal.returns-clause-written
returns-clause-written c = same_text (c.as_bytes.ensures.value ∙ c.format.ensures.text ∙ sym (spelled c.args.n c.ranges.n.fits)) c.put_text.ensures
