-- What is asked of one transition record, and of the form of a machine.
use Rattle.std.specs.Prelude.{◌≡◌, Bool, not, ◌&&◌, ◌||◌, List, ℕ, eqb, leb}
use Rattle.lists.specs.Lists.{every, interval}
use Rattle.words.specs.Matches.{MatchType, inputs, outputs, label_on}
use Rattle.words.specs.Machines.{state_count, tr_count, start_word, tr_word, next_of, machine_of, state_ok, tr_ok, size_ok}
use Rattle.fst_reads.specs.Places.{record_base}
use Rattle.fst_properties.specs.declared.form.Asked.{Asked}
use Rattle.fst_properties.specs.declared.records.RecordTest.{RecordTest}
use Rattle.fst_properties.specs.declared.records.RecordTest.TheVariants.{SameLabels, Rises}

-- The label of record t does not fall to that of the record after it, if there is one. Where this holds of all records, no label falls within any list.
unfoldable pub rises : MatchType → List ℕ → ℕ → Bool
rises on m t = eqb (next_of m t) 0 || leb (label_on on (machine_of m) t) (label_on on (machine_of m) (next_of m t))

-- the tests by name: "input equals output"; no label falls
abbrev pub test_of : RecordTest → MatchType → List ℕ → ℕ → Bool
test_of SameLabels on m t = eqb (tr_word m t 0) (tr_word m t 1)
test_of Rises on m t = rises on m t

-- no label falls on a side, where that is asked
abbrev pub rises_if : Bool → MatchType → List ℕ → ℕ → Bool
rises_if asked on m t = not asked || rises on m t

-- a good form, and no label falls on the sides that are asked for
unfoldable pub fits : Bool → Bool → List ℕ → ℕ → Bool
fits asked1 asked2 m t = tr_ok m t && (rises_if asked1 inputs m t && rises_if asked2 outputs m t)

-- size, start, states and records, and no label falls from a record to its next on the sides that are asked for
unfoldable pub form_fits : Bool → Bool → List ℕ → Bool
form_fits asked1 asked2 m =
    size_ok m
    && (leb (start_word m) (state_count m)
    && (every (state_ok m) (interval 0 (state_count m))
    && every (fits asked1 asked2 m) (interval 1 (tr_count m))))

-- the numbers that a pass over the records goes by are those of the machine
abbrev pub AskedOf : List ℕ → Asked → Type 0
AskedOf m asked = (asked.base ≡ record_base m) × (asked.states ≡ state_count m) × (asked.records ≡ tr_count m)
