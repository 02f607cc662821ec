-- "else 0" of the alternate filter; and what a filter sees does not depend on sigma.
use mathlib.Core.Path.{◌≡◌, refl, sym}
use Rattle.std.specs.Prelude.{Some}
use Prim.Native.Nat.{ℕ, zero, suc}
use Rattle.papers.specs.Filter.{lone2, Facts}
use Rattle.words.specs.Labels.{no_label}
use Rattle.words.specs.Matches.{inputs, outputs}
use Rattle.words.specs.Ignored.{words_read}
use Rattle.words.specs.Settings.{Settings, Lent, ignored_by, operand1, operand2}
use Rattle.words.specs.Filters.{none_at, all_at, facts_at, alternate}
use Rattle.words.proofs.ReplacedLaws.{operand_read}
use Rattle.fst.specs.Meaning.{as_operand}

pub alternate_else : (φ : Facts) (f : ℕ) → (f ≡ 1 → ⊥) → alternate lone2 φ f ≡ Some 0
alternate_else φ zero e = refl
alternate_else φ (suc zero) e = absurd (e refl)
alternate_else φ (suc (suc f)) e = refl

-- what a filter sees at a call's operands is what `facts_at` answers
pub facts_of_call : (s : Settings) (l : Lent) (s1 s2 : ℕ)
    → facts_at (operand1 s l) (operand2 s l) s1 s2
    ≡ facts_at (as_operand outputs (words_read outputs (ignored_by s l) l.m1) no_label) (as_operand inputs (words_read inputs (ignored_by s l) l.m2) no_label) s1 s2
unfolding none_at all_at
facts_of_call s l s1 s2 =
    let g = ignored_by s l in
    sym
    (λ i. facts_at
    (operand_read g outputs l.m1 s.sigma1 s.mode1 l.allowed1 i)
    (operand_read g inputs l.m2 s.sigma2 s.mode2 l.allowed2 i)
    s1
    s2)
