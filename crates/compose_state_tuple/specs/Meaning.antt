-- What a composed state of the code stands for.
use Rattle.words.specs.Steps.{Triple}
use Rattle.compose_state_tuple.specs.declared.ComposeStateTuple.{ComposeStateTuple}

-- (s1, s2, f)
abbrev pub tuple_means : ComposeStateTuple → Triple
tuple_means t = record { s1 = t.s1.0; s2 = t.s2.0; f = t.fs }
