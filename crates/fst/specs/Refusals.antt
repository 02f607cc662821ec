-- The refusals of the code by their numbers in 01's table of "Answers" (14: 02, 2.2; 18: 02, 2.7).
use Rattle.std.specs.Prelude.{ℕ, Result, Ok, Err}
use Rattle.words.specs.Labels.{Checked, good, refused}
use Rattle.fst.specs.declared.refusals.Refusal.{Refusal}
use Rattle.fst.specs.declared.refusals.Refusal.TheVariants.{Settings, Machine1, Machine2, SigmaEps, Unsorted1, Unsorted2, NoSide, Session, NotFound, BothMatch, WalkedSigma, TooLarge, NoRoom, NotExpanded, Ignored}

abbrev pub number_of : Refusal → ℕ
number_of Settings = 1
number_of Machine1 = 2
number_of Machine2 = 3
number_of SigmaEps = 4
number_of Unsorted1 = 5
number_of Unsorted2 = 6
number_of NoSide = 7
number_of Session = 8
number_of NotFound = 9
number_of BothMatch = 10
number_of WalkedSigma = 11
number_of TooLarge = 12
number_of NoRoom = 13
number_of NotExpanded = 14
number_of Ignored = 18

-- What a result of the code stands for: a value by its meaning, a refusal by its number.
abbrev pub checked_by : {A B : Type 0} → (A → B) → Result A Refusal → Checked B
checked_by means (Ok value) = good (means value)
checked_by means (Err refusal) = refused (number_of refusal)
