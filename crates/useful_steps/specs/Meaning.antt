-- What the code's types stand for in the search of `searches`.
use Rattle.std.specs.Prelude.{List, ℕ}
use Rattle.searches.specs.UsefulSearch.{Place, Found}
use Rattle.useful_steps.specs.declared.Place.{Place as CodePlace}
use Rattle.useful_steps.specs.declared.Found.{Found as CodeFound}

abbrev pub place_means : CodePlace → Place
place_means p = record { d = p.d; s = p.s; r = p.r; o = p.o; b = p.b }

-- the answer of a step, with the work words that it leaves
abbrev pub found_means : CodeFound → List ℕ → Found
found_means f w = record { work = w; at = place_means f.at; done = f.done }
