-- Every cell is OpenFst's, which is 0.
use mathlib.Core.Path.{sym}
use Rattle.words.proofs.TableLaws.{trivial_cells}
use Rattle.compose_filters.proofs.trivial_compose_filter.filter_tr.Goals as goal

pub returns : goal.returns
returns c = λ k φ f. sym (trivial_cells k φ f)
