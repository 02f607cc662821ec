-- How many matches there are does not depend on how sigma is rewritten: the number is that of the definition's operand.
use mathlib.Core.Path.{◌≡◌}
use mathlib.Core.List.{List}
use Rattle.std.specs.Prelude.{Option}
use Prim.Native.Nat.{ℕ}
use Rattle.words.specs.Matches.{MatchType}
use Rattle.words.specs.Ignored.{Ignored, acceptor_read, words_read}
use Rattle.words.specs.Sigmas.{sigma_trs, sigma_matches, lookup}
use Rattle.words.specs.Settings.{operand_by, operand_under}
use Rattle.words.proofs.ReplacedLaws.{machine_read, read_mark}
use Rattle.matchers.specs.Meaning.{operand_in}
use Rattle.matchers.specs.declared.sigma_matcher.Sigma.{Sigma}
use Rattle.fan_outs.specs.FanOut.{fan_out}

pub count_read : (on : MatchType) (g : Ignored) (m : List ℕ) (σ : Sigma) (allowed : Option (List ℕ)) (q x : ℕ)
    → fan_out (operand_in on (words_read on g m) σ allowed) q x ≡ fan_out (operand_under g on m σ.label.0 σ.mode allowed) q x
unfolding fan_out lookup sigma_matches sigma_trs
count_read on g m σ allowed q x = λ i. fan_out (operand_by on (machine_read on g m i) (read_mark on g m i) (acceptor_read on g m) σ.label.0 σ.mode allowed) q x
