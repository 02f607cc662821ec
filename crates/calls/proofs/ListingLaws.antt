-- The bounds of the listing, in digits, and odd lines.
use mathlib.Core.Path.{◌≡◌, refl}
use mathlib.Core.List.{List, [], ◌∷◌, Memᴰ as In}
use Prim.Native.Nat.{ℕ, ◌≤◌, ◌<◌}
use lib.ListN.{length}
use borrow.Author.Tests.{le-leb, lt-leb}
use Rattle.words.specs.Labels.{MAX}
use Rattle.calls.specs.Store.{state_room, tr_room, room_with, state_room_with, tr_room_with}
use Rattle.calls.specs.Listing.{refused_line, machine_most, machine_line, empty_memory}
use Rattle.calls.proofs.Cases.{Case, printing, Holds, AllHold, each_holds}
use Rattle.calls.proofs.StarCases.{plain, example1, example2}

-- "A machine line above 4096 words .. is malformed": one of 4096 words is taken as it is, a longer one stands for no words
pub line_taken : (m : List ℕ) → length m ≤ machine_most → machine_line m ≡ m
line_taken m h = rw (le-leb (length m) machine_most h)

pub line_too_long : (m : List ℕ) → machine_most < length m → machine_line m ≡ []
line_too_long m h = rw (lt-leb (length m) machine_most h)

-- "room is 1024 records of each sort and 64 heads"
pub rooms : (length empty_memory.heads ≡ 64) × (state_room empty_memory ≡ 1024) × (tr_room empty_memory ≡ 1024)
unfolding state_room_with tr_room_with room_with
rooms = (refl, refl, refl)

unfoldable pub odd_lines : List Case
odd_lines =
    -- "a settings line not of six such words is refused 1", before any fault of the machines
    printing [] [] [] (refused_line 1 ∷ [])
    ∷ printing (0 ∷ 0 ∷ MAX ∷ 0 ∷ MAX ∷ []) example1 example2 (refused_line 1 ∷ [])
    ∷ printing (0 ∷ 0 ∷ MAX ∷ 0 ∷ MAX ∷ 0 ∷ 0 ∷ []) example1 example2 (refused_line 1 ∷ [])
    -- an empty machine line
    ∷ printing (plain 0 0) [] [] (refused_line 2 ∷ [])
    ∷ printing (plain 0 0) example1 [] (refused_line 3 ∷ [])
    ∷ []

odd_lines_lem : AllHold odd_lines
unfolding AllHold Holds odd_lines
odd_lines_lem = (refl, (refl, (refl, (refl, (refl, tt)))))

pub odd_line : (c : Case) → In c odd_lines → Holds c
odd_line c i = each_holds odd_lines odd_lines_lem c i
