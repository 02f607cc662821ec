-- What the counts of a weighing tell.
use Rattle.std.specs.Prelude.{◌≡◌, ℕ, ◌<◌, ◌≤◌}
use Rattle.words.specs.Labels.{Checked, good, refused}
use Rattle.compose_count.specs.declared.Room.{Room}
use Rattle.compose_count.specs.declared.Room.TheVariants.{Suffices, Lacks, Unknown}

-- what is told of n new states where so many records are left
abbrev pub EnoughFor : (n left : ℕ) → Room → Type 0
EnoughFor n left Suffices = n ≤ left
EnoughFor n left Lacks = left < n
EnoughFor n left Unknown = Unit {0}

-- what is told is the answer x of the weighing: no refusal, or 13
abbrev pub RoomTells : Checked (Unit {0}) → Room → Type 0
RoomTells x Suffices = x ≡ good tt
RoomTells x Lacks = x ≡ refused 13
RoomTells x Unknown = Unit {0}
