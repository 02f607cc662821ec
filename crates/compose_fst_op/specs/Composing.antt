-- What the code's settings and the lent slices stand for in `Settings`, `Lent` and `Composition` of `words`.
use Rattle.std.specs.Prelude.{List, ℕ}
use Rattle.words.specs.Weights.{kind_of}
use Rattle.words.specs.Matches.{inputs, outputs}
use Rattle.words.specs.Filters.{filter_of}
use Rattle.words.specs.Steps.{Composition}
use Rattle.words.specs.Ignored.{Ignored, words_read}
use Rattle.words.specs.Settings.{Settings, Lent, composition_of}
use Rattle.fst.specs.declared.Sigmas.{Sigmas}
use Rattle.fst.specs.Meaning.{ignored_under}
use Rattle.matchers.specs.Meaning.{allowed_of, operand_in}
use Rattle.match_type.specs.Chosen.{side_means}
use Rattle.compose_fst_op.specs.declared.ComposeFstOpOptions.{ComposeFstOpOptions}

-- "settings (kind, filter, sigma 1, mode 1, sigma 2, mode 2)"
abbrev pub option_settings : ComposeFstOpOptions → Settings
option_settings o = record {
  kind = o.kind;
  filter = o.filter;
  sigma1 = o.sigma1.label.0;
  mode1 = o.sigma1.mode;
  sigma2 = o.sigma2.label.0;
  mode2 = o.sigma2.mode;
}

-- the sigma labels of the two machines
abbrev pub sigmas_of : ComposeFstOpOptions → Sigmas
sigmas_of o = record { first = o.sigma1.label; second = o.sigma2.label }

-- The two machines' words, their allowed lists, and the list of ignored labels. "no list: all": the settings say whether a list is lent.
abbrev pub lent_of : ComposeFstOpOptions → (m1 m2 a1 a2 ignored : List ℕ) → Lent
lent_of o m1 m2 a1 a2 ignored = record { m1 = m1; m2 = m2; allowed1 = allowed_of o.sigma1.listed a1; allowed2 = allowed_of o.sigma2.listed a2; ignored = ignored }

-- the composition of the two machines by the definition
abbrev pub composition_for : ComposeFstOpOptions → (m1 m2 a1 a2 ignored : List ℕ) → Composition
composition_for o m1 m2 a1 a2 ignored = composition_of (option_settings o) (lent_of o m1 m2 a1 a2 ignored) (side_means o.side)

-- the composition of two machines' words with nothing replaced
abbrev pub composing_words : ComposeFstOpOptions → (m1 m2 a1 a2 : List ℕ) → Composition
composing_words o m1 m2 a1 a2 = record {
  kind = kind_of o.kind;
  filter = filter_of o.filter;
  side = side_means o.side;
  operand1 = operand_in outputs m1 o.sigma1 (allowed_of o.sigma1.listed a1);
  operand2 = operand_in inputs m2 o.sigma2 (allowed_of o.sigma2.listed a2);
}

-- what is replaced
abbrev pub replacing : ComposeFstOpOptions → List ℕ → Ignored
replacing o ignored = ignored_under (sigmas_of o) ignored

-- The composition of the two machines: of the words that they are read as, with the acceptor marks that the options hold. Where these are the ones that are read it is the definition's: `composing_is` in
-- proofs/Composed.
abbrev pub composing : ComposeFstOpOptions → (m1 m2 a1 a2 ignored : List ℕ) → Composition
composing o m1 m2 a1 a2 ignored = composing_words o (words_read outputs (replacing o ignored) m1) (words_read inputs (replacing o ignored) m2) a1 a2
