-- The final weight in the session that the words hold, which stays.
use mathlib.Core.Path.{◌≡◌, sym, ◌∙◌, ap}
use Prim.Native.Nat.{ℕ}
use mathlib.Core.List.{List}
use Rattle.std.specs.Prelude.{Option}
use Rattle.lists.proofs.Members.{and_left}
use Rattle.fst.proofs.Tests.{holds}
use Rattle.calls.specs.Calls.{Outcome, final_weight_of}
use Rattle.calls.specs.Sequences.{weight}
use Rattle.store_records.specs.Meaning.{memory_of}
use Rattle.lazy_fst.specs.Meaning.{lent_with, weight_left}
use Rattle.rinkolza.specs.Exported.{leaves, in_words, session_words, session_at, lent_words, final_weight_words}
use Rattle.rinkolza.proofs.WordLaws.{both_sized, words_of_session, final_session}
use Rattle.rinkolza.proofs.trusted.rinkolza_trusted_final_weight.Goals as goal

pub returns : goal.returns
unfolding final_weight_words
returns c =
    let x = c.args in
    let m = memory_of x.heads.now x.states.now x.trs.now in
    let h = holds c.sized.ensures c.if-not-sized.false in
    let w = x.session.now in
    let done : weight_left c.trusted_final_weight-done.result m ≡ final_weight_of (lent_words x.m1.now x.m2.now x.allowed1.now x.has1 x.allowed2.now x.has2 x.ignored.now) (session_at w) m x.n
    = c.trusted_final_weight-done.ensures ∙ (λ i. final_weight_of (lent_with x.m1.now x.m2.now x.allowed1.now x.allowed2.now x.ignored.now (c.listed_by-listed.ensures i)) (c.read_session-given.ensures i) m x.n) in
    let same = ap (λ (o : Outcome (Option ℕ)). session_words o.session) done ∙ ap session_words (final_session _ (session_at w) m x.n) ∙ words_of_session w (both_sized w x.answer.now h).0 in
    rw h (ap (λ (s : List ℕ). leaves c.leave_weight.result s c.leave_weight.new.words m) (sym same) ∙ (c.leave_weight.ensures m ∙ ap (in_words weight x.answer.now) done))
