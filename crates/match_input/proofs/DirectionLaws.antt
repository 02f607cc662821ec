-- The direction does not depend on rewrite modes and allowed lists: what `direction_at` answers is `direction_at` of the operands of any call.
use mathlib.Core.Path.{◌≡◌, refl, sym, ◌∙◌}
use Prim.Native.Nat.{ℕ}
use Rattle.words.specs.Matches.{inputs, outputs}
use Rattle.words.specs.Ignored.{words_read}
use Rattle.words.specs.Sigmas.{sigma_trs}
use Rattle.words.specs.Sides.{Side, only, both, direction_at}
use Rattle.words.specs.Settings.{Settings, Lent, ignored_by, operand_of, operand1, operand2}
use Rattle.words.proofs.ReplacedLaws.{operand_read}
use Rattle.fst.specs.Meaning.{as_operand}

pub direction_of_call : (d : Side) (s : Settings) (l : Lent) (s1 s2 : ℕ)
    → direction_at d (operand1 s l) (operand2 s l) s1 s2
    ≡ direction_at d (as_operand outputs (words_read outputs (ignored_by s l) l.m1) s.sigma1) (as_operand inputs (words_read inputs (ignored_by s l) l.m2) s.sigma2) s1 s2
unfolding direction_at sigma_trs
direction_of_call d s l s1 s2 =
    sym (λ i. direction_at d (operand_read (ignored_by s l) outputs l.m1 s.sigma1 s.mode1 l.allowed1 i) (operand_read (ignored_by s l) inputs l.m2 s.sigma2 s.mode2 l.allowed2 i) s1 s2)
    ∙ plain d
  where
    plain : (d : Side)
        → direction_at d (operand_of outputs (words_read outputs (ignored_by s l) l.m1) s.sigma1 s.mode1 l.allowed1) (operand_of inputs (words_read inputs (ignored_by s l) l.m2) s.sigma2 s.mode2 l.allowed2) s1 s2
        ≡ direction_at d (as_operand outputs (words_read outputs (ignored_by s l) l.m1) s.sigma1) (as_operand inputs (words_read inputs (ignored_by s l) l.m2) s.sigma2) s1 s2
    plain (only on) = refl
    plain both = refl
