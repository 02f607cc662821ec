-- Each byte in turn: the place is the one after the bytes passed.
use mathlib.Core.Path.{◌≡◌}
use lib.ListN.{length, take}
use Rattle.replay.specs.Places.{place_after}
use Rattle.replay.proofs.cases.read_bytes.Given as goal

abbrev pub invariant-loop-b : goal.invariant-loop-b
invariant-loop-b l = l.place ≡ place_after (length l.initial.words) l.initial.place (take l.b-index l.chunk)
