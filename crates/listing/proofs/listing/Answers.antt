-- Not of six words, or the stages in memory of the listing's size.
use mathlib.Core.Path.{sym, ap, ◌∙◌}
use Rattle.calls.specs.Listing.{refused_line}
use Rattle.lazy_fst.specs.Meaning.{lent_with}
use Rattle.listing_text.specs.Printing.{bytes_of}
use Rattle.listing_write.proofs.WrittenLaws.{same_text}
use Rattle.listing.proofs.LineLaws.{bytes_one}
use Rattle.listing.proofs.StageLaws.{not_six, six}
use Rattle.listing.proofs.listing.Goals as goal

pub returns-then-words-ne-SETTINGS_WORDS-clause-fact : goal.returns-then-words-ne-SETTINGS_WORDS-clause-fact
returns-then-words-ne-SETTINGS_WORDS-clause-fact c =
    let a = c.args in
    let l = lent_with a.m1.now a.m2.now a.allowed1.now a.allowed2.now a.ignored.now a.listed in
    same_text (sym (bytes_one (refused_line 1)) ∙ ap bytes_of (not_six a.words.now l c.if-words-ne-SETTINGS_WORDS.true)) (rw c.from.ensures at c.put_refused.ensures.written)

pub returns-clause-fact : goal.returns-clause-fact
returns-clause-fact c =
    let a = c.args in
    let l = lent_with a.m1.now a.m2.now a.allowed1.now a.allowed2.now a.ignored.now a.listed in
    same_text (ap bytes_of (six a.words.now l _ c.read_settings.ensures c.if-words-ne-SETTINGS_WORDS.false)) c.open_listing.ensures.fact
