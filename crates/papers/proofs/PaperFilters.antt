-- The papers' three filters satisfy the laws of a filter: computed at each of their states, with the functions `live` and `pick` by which each does.
use mathlib.Core.Path.{◌≡◌, refl}
use mathlib.Core.Bool.{true}
use Prim.Native.Nat.{ℕ, zero, suc}
use Rattle.lists.specs.Finite.{both, implies, all_b}
use Rattle.papers.specs.Filter.{epsilon_sequencing, epsilon_sequencing_mirrored, epsilon_matching}
use Rattle.papers.specs.Pick.{sequence_pick, alternate_pick, matching_pick, sequence_live, mirrored_live, matching_live}
use Rattle.papers.specs.Laws.{Lawful}
use Rattle.papers.proofs.FilterLaws.{all_k, same_k, lawful, laws}

sequencing_lawful : (f : ℕ) → lawful epsilon_sequencing sequence_live sequence_pick f ≡ true
unfolding lawful both implies all_b all_k same_k
sequencing_lawful zero = refl
sequencing_lawful (suc f) = refl

pub sequencing_laws : Lawful epsilon_sequencing sequence_live sequence_pick
sequencing_laws = laws _ _ _ sequencing_lawful

mirrored_lawful : (f : ℕ) → lawful epsilon_sequencing_mirrored mirrored_live alternate_pick f ≡ true
unfolding lawful both implies all_b all_k same_k
mirrored_lawful zero = refl
mirrored_lawful (suc f) = refl

pub mirrored_laws : Lawful epsilon_sequencing_mirrored mirrored_live alternate_pick
mirrored_laws = laws _ _ _ mirrored_lawful

matching_lawful : (f : ℕ) → lawful epsilon_matching matching_live matching_pick f ≡ true
unfolding lawful both implies all_b all_k same_k
matching_lawful zero = refl
matching_lawful (suc zero) = refl
matching_lawful (suc (suc f)) = refl

pub epsilon_matching_laws : Lawful epsilon_matching matching_live matching_pick
epsilon_matching_laws = laws _ _ _ matching_lawful
