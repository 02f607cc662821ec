-- What a side of the code stands for in `side_of` of `words`.
use Rattle.words.specs.Sides.{Side, only, both}
use Rattle.fst.specs.Meaning.{on_of}
use Rattle.match_type.specs.declared.Side.{Side as CodeSide}
use Rattle.match_type.specs.declared.Side.TheVariants.{Only, Both}

-- "side: input, output or both"
abbrev pub side_means : CodeSide → Side
side_means (Only on) = only (on_of on)
side_means Both = both
