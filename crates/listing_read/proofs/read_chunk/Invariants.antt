-- What `read_chunk`'s loop keeps: the reader and the words stand for the reading of the bytes passed.
use mathlib.Core.Path.{◌≡◌}
use lib.ListN.{take}
use Rattle.listing_text.specs.Chunks.{in_rooms, read_bytes}
use Rattle.listing_read.specs.Meaning.{read_input, rooms_of}
use Rattle.listing_read.specs.Held.{held, held_bytes}
use Rattle.listing_read.proofs.read_chunk.Given as goal

abbrev pub invariant-loop-b : goal.invariant-loop-b
invariant-loop-b l =
    let s = l.initial.settings in
    let f = l.initial.first in
    let g = l.initial.second in
    let q = l.initial.query in
    record {
      input_after : read_input l.r l.settings l.first l.second l.query ≡ in_rooms (rooms_of s f g q) (read_bytes (read_input l.initial.r s f g q) (take l.b-index l.chunk));
      stored : held l.r l.settings l.first l.second l.query ≡ held_bytes (held l.initial.r s f g q) (take l.b-index l.chunk);
    }
