-- The epsilon alone is noted where it is kept, and then the pairs.
use mathlib.Core.Path.{◌≡◌, sym, ◌∙◌, subst}
use mathlib.Core.List.{List}
use Rattle.std.specs.Prelude.{Some}
use Prim.Native.Nat.{ℕ}
use Rattle.words.specs.Labels.{eps_label}
use Rattle.words.specs.Weights.{kind_of}
use Rattle.words.specs.Matches.{Tr as Transition}
use Rattle.compose_state_tuple.specs.Meaning.{tuple_means}
use Rattle.stored_steps.specs.Storing.{AllGood}
use Rattle.compose_walk.specs.Plans.{with_labelled}
use Rattle.compose_walk.proofs.Edges.{no_pairs, alone_by, both_by, alone_none, both_is}
use Rattle.compose_count.specs.Notes.{notes_means, note_all}
use Rattle.compose_count.proofs.NoteLaws.{wanted_in, same_notes, good_split, note_none, as_noted, note_then}
use Rattle.compose_count.proofs.NoteEdges.{alone_noted}
use Rattle.compose_count.proofs.notes.note_eps.Goals as goal
use Rattle.compose_count.proofs.notes.note_eps.Goals.{in-Some, in_default, Joined-plan}

-- what the first part leaves
alone : (c : Joined-plan) →
    let a = c.args in
    let m = c.match-plan in
    (trs : List ℕ) (w : Transition) → w.target ≡ a.s.0 → AllGood (alone_by a.c.plan w)
    → notes_means m.chains m.records m.noted ≡ note_all (wanted_in a.heads.now a.states.now a.c trs) (notes_means a.chains.now a.records.now a.seen) (alone_by a.c.plan w)
alone c trs w e g =
    let a = c.args in
    let v = a.c.plan in
    let m = c.match-plan in
    let n = notes_means a.chains.now a.records.now a.seen in
    let P = wanted_in a.heads.now a.states.now a.c trs in
    elim c.match-plan.branch [
      | in-Some y ↦
          let x = y.note-noted.new in
          same_notes m.chains x.chains m.records x.records m.noted y.note-noted.result y.chains-is y.records-is y.noted-is
          ∙ alone_noted P n (notes_means x.chains x.records y.note-noted.result) v w y.in-Some.fs a.s.0 (tuple_means y.target-tuple.result) y.in-Some.is e
          y.target-tuple.ensures (y.note-noted.ensures trs) g
      | in_default y ↦
          same_notes m.chains a.chains.now m.records a.records.now m.noted a.seen y.chains-is y.records-is y.noted-is
          ∙ note_none P n (alone_by v w) (alone_none v w y.in_default.is)
    ]

pub returns-in-Some-both : goal.returns-in-Some-both
returns-in-Some-both c trs w e g =
    let a = c.args in
    let m = c.match-plan in
    let x = c.note_records in
    let v = a.c.plan in
    let o = notes_means m.chains m.records m.noted in
    let q = notes_means x.new.chains x.new.records x.result in
    let P = wanted_in a.heads.now a.states.now a.c trs in
    let h = good_split (alone_by v w) (both_by v a.mm.now w) g in
    let b = both_is v a.mm.now w c.in-Some-both.fs c.in-Some-both.is in
    note_then P (notes_means a.chains.now a.records.now a.seen) o q (alone_by v w) (both_by v a.mm.now w)
    (alone (goal.at.returns-in-Some-both c).Joined-plan trs w e h.0)
    (as_noted P o q (with_labelled v a.mm.now w (Some c.in-Some-both.fs) eps_label) (both_by v a.mm.now w) b (x.ensures trs (kind_of v.kind) w e (subst AllGood (sym b) h.1)))

pub returns-in-None : goal.returns-in-None
returns-in-None c trs w e g =
    let a = c.args in
    let m = c.match-plan in
    let v = a.c.plan in
    let o = notes_means m.chains m.records m.noted in
    let P = wanted_in a.heads.now a.states.now a.c trs in
    note_then P (notes_means a.chains.now a.records.now a.seen) o o (alone_by v w) (both_by v a.mm.now w)
    (alone (goal.at.returns-in-None c).Joined-plan trs w e (good_split (alone_by v w) (both_by v a.mm.now w) g).0)
    (note_none P o (both_by v a.mm.now w) (no_pairs _ _ _ _ _ _ c.in-None.is))
