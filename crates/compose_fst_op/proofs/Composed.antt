-- The composition of two machines with ignored labels, by its settings, is the definition's.
use mathlib.Core.Path.{◌≡◌}
use mathlib.Core.Bool.{not, ◌&&◌}
use mathlib.Core.List.{List}
use Prim.Native.Nat.{ℕ}
use lib.Dec.{eqb}
use lib.ListN.{length}
use Rattle.words.specs.Labels.{no_label}
use Rattle.words.specs.Weights.{kind_of}
use Rattle.words.specs.Matches.{inputs, outputs}
use Rattle.words.specs.Filters.{filter_of}
use Rattle.words.specs.Ignored.{acceptor_read}
use Rattle.words.specs.Sigmas.{rewrites_both}
use Rattle.words.proofs.ReplacedLaws.{machine_read, read_mark, read_none}
use Rattle.match_type.specs.Chosen.{side_means}
use Rattle.matchers.specs.Meaning.{allowed_of}
use Rattle.matchers.specs.declared.sigma_matcher.Sigma.{Sigma}
use Rattle.compose_fst_op.specs.declared.ComposeFstOpOptions.{ComposeFstOpOptions}
use Rattle.compose_fst_op.specs.Composing.{composition_for, replacing, composing, composing_words}

-- the acceptor mark that comes with a sigma leads to the same rewriting as the one that is read
abbrev pub RewritesAs : Sigma → ℕ → Type 0
RewritesAs sigma mark = (not (eqb sigma.label.0 no_label) && rewrites_both sigma.mode sigma.acceptor) ≡ (not (eqb sigma.label.0 no_label) && rewrites_both sigma.mode mark)

module _ (o : ComposeFstOpOptions) (m1 m2 a1 a2 ignored : List ℕ) where
  pub composing_is : RewritesAs o.sigma1 (acceptor_read outputs (replacing o ignored) m1) → RewritesAs o.sigma2 (acceptor_read inputs (replacing o ignored) m2)
      → composing o m1 m2 a1 a2 ignored ≡ composition_for o m1 m2 a1 a2 ignored
  composing_is p q = λ i. record {
    kind = kind_of o.kind;
    filter = filter_of o.filter;
    side = side_means o.side;
    operand1 = record {
      machine = machine_read outputs (replacing o ignored) m1 i;
      on = outputs;
      mark = read_mark outputs (replacing o ignored) m1 i;
      sigma = record { label = o.sigma1.label.0; rewrite_both = p i; allowed = allowed_of o.sigma1.listed a1 };
    };
    operand2 = record {
      machine = machine_read inputs (replacing o ignored) m2 i;
      on = inputs;
      mark = read_mark inputs (replacing o ignored) m2 i;
      sigma = record { label = o.sigma2.label.0; rewrite_both = q i; allowed = allowed_of o.sigma2.listed a2 };
    };
  }

  -- without a list, of the words themselves
  pub composing_none : length ignored ≡ 0 → composing o m1 m2 a1 a2 ignored ≡ composing_words o m1 m2 a1 a2
  composing_none e = λ i. composing_words o (read_none outputs (replacing o ignored) m1 e i) (read_none inputs (replacing o ignored) m2 e i) a1 a2
