-- One byte more at a time.
use mathlib.Core.Path.{refl}
use native.Mathlib.Omega.{arith}
use Rattle.listing_text.specs.Chunks.{read_bytes}
use Rattle.listing_read.specs.Meaning.{read_input, rooms_of}
use Rattle.listing_read.specs.Held.{held, held_bytes}
use Rattle.listing_read.proofs.InputLaws.{input_within, one_more}
use Rattle.listing_read.proofs.HeldLaws.{held_more}
use Rattle.listing_read.proofs.read_chunk.Goals as goal

pub loop-b-init : goal.loop-b-init
unfolding read_bytes held_bytes
loop-b-init c =
    let a = c.args in
    record { input_after = input_within a.start a.settings.now a.first.now a.second.now a.query.now; stored = refl }

pub loop-b-preserved : goal.loop-b-preserved
loop-b-preserved c =
    let a = c.args in
    let l = c.loop-b in
    let b = c.read_byte-r in
    let W = rooms_of a.settings.now a.first.now a.second.now a.query.now in
    let I = read_input a.start a.settings.now a.first.now a.second.now a.query.now in
    let H = held a.start a.settings.now a.first.now a.second.now a.query.now in
    record {
      input_after = one_more (rooms_of l.settings l.first l.second l.query) W I (read_input l.r l.settings l.first l.second l.query) (read_input b.result b.new.settings b.new.first b.new.second b.new.query) a.chunk.now l.b-index (cc) (omega arith) l.invariant.input_after b.ensures.input_after;
      stored = held_more H (held l.r l.settings l.first l.second l.query) (held b.result b.new.settings b.new.first b.new.second b.new.query) a.chunk.now l.b-index (omega arith) l.invariant.stored b.ensures.stored;
    }
