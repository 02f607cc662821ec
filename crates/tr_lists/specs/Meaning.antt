-- What a stored list of the code stands for.
use Rattle.calls.specs.Store.{Part}
use Rattle.tr_lists.specs.declared.Part.{Part as CodePart}

-- the first record and the number of records of a state's list
abbrev pub part_means : CodePart → Part
part_means p = record { first = p.first; count = p.count }
