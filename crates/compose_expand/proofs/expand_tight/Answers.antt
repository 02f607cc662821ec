-- The machines are well formed, and the state's two states are theirs.
use mathlib.Core.Path.{sym, subst}
use Prim.Native.Nat.{◌<◌}
use Rattle.words.specs.Machines.{state_count}
use Rattle.words.specs.Steps.{Triple}
use Rattle.store_records.specs.Meaning.{memory_of}
use Rattle.compose_expand.proofs.Found.{formed1, formed2, in_range}
use Rattle.compose_expand.proofs.expand_tight.Goals as goal

pub list_facts-facts1-requires : goal.list_facts-facts1-requires
list_facts-facts1-requires c =
    let a = c.args in
    let m = memory_of a.heads.now a.states.now a.trs.now in (
      formed1 a.options a.m1.now a.m2.now a.a1.now a.a2.now a.ignored.now a.used m c.requires.0,
      subst (λ (t : Triple). t.s1 < state_count a.m1.now) (sym c.get_tuple-tuple.ensures) (in_range a.options a.m1.now a.m2.now a.a1.now a.a2.now a.ignored.now a.used m c.requires.0 a.n.0 c.requires.1).s1,
    )

pub list_facts-facts2-requires : goal.list_facts-facts2-requires
list_facts-facts2-requires c =
    let a = c.args in
    let m = memory_of a.heads.now a.states.now a.trs.now in (
      formed2 a.options a.m1.now a.m2.now a.a1.now a.a2.now a.ignored.now a.used m c.requires.0,
      subst (λ (t : Triple). t.s2 < state_count a.m2.now) (sym c.get_tuple-tuple.ensures) (in_range a.options a.m1.now a.m2.now a.a1.now a.a2.now a.ignored.now a.used m c.requires.0 a.n.0 c.requires.1).s2,
    )
