-- What `read_lines`'s loop keeps: the reader and the words stand for the reading of some bytes, those that came.
use mathlib.Core.Path.{◌≡◌}
use lib.ListN.{length}
use Rattle.listing_read.specs.Meaning.{read_input, rooms_of}
use Rattle.listing_input.specs.Read.{Reads}
use Rattle.listing_input.proofs.ReadLaws.{SoFar}
use Rattle.listing_input.proofs.read_lines.Given as goal

abbrev pub invariant-loop : goal.invariant-loop
invariant-loop g l =
    let rooms = rooms_of l.initial.settings l.initial.first l.initial.second l.initial.query in
    let input = read_input l.r l.settings l.first l.second l.query in
    record {
      chunk_len : 65536 ≡ length l.chunk;
      reads : Reads rooms input;
      so_far : SoFar (g.R.Read.remaining l.initial.input) (g.R.Read.remaining l.input) rooms input;
    }
