-- The facts of a state's list say the same of it as one that is looked up.
use mathlib.Core.Path.{◌≡◌, sym, ◌∙◌, ap}
use mathlib.Core.List.{List}
use Prim.Native.Nat.{ℕ}
use lib.ListN.{length}
use Rattle.words.specs.Labels.{eps_label}
use Rattle.words.specs.Weights.{Kind}
use Rattle.words.specs.Matches.{MatchType}
use Rattle.words.specs.Machines.{first_of, list_from, list_of}
use Rattle.matchers.specs.Cursors.{with_label}
use Rattle.matchers.proofs.Seeks.{with_first}
use Rattle.list_facts.specs.declared.ListFacts.{ListFacts}
use Rattle.list_facts.specs.Facts.{TrueOf}
use Rattle.list_facts.proofs.FactLaws.{len_is, eps_is}

module _ {on : MatchType} {k : Kind} {m : List ℕ} {s : ℕ} {r : ListFacts} (f : TrueOf on k m s r) where
  pub len_from : r.len ≡ length (list_from m (first_of m s))
  unfolding list_of
  len_from = len_is f

  pub eps_from : r.eps ≡ length (with_label on m eps_label (first_of m s))
  eps_from = eps_is f ∙ ap length (sym (with_first on m eps_label s))
