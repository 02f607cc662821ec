-- Demand 2b, whole: for every accepted opening, whatever memory held, and every list of calls in which each opening is refused, sigma set or not.
use mathlib.Core.Path.{◌≡◌, refl, sym, ◌∙◌, ap, subst}
use mathlib.Core.List.{[], append-nil}
use mathlib.Core.Logic.{◌↔◌}
use Rattle.std.specs.Prelude.{Some}
use Prim.Native.Nat.{◌<◌}
use Rattle.papers.specs.Composition.{Triple, Start}
use Rattle.words.specs.Labels.{good}
use Rattle.words.specs.Sides.{Side}
use Rattle.words.specs.Steps.{Composition}
use Rattle.words.specs.Settings.{Settings, Lent, composition_of}
use Rattle.words.specs.AsPapers.{exact, composed_of}
use Rattle.words.specs.Links.{FinalExactly}
use Rattle.words.proofs.PapersOpened.{sound_of}
use Rattle.words.proofs.PapersSteps.{start_as_papers}
use Rattle.words.proofs.PapersFinal.{final_as_papers}
use Rattle.calls.specs.Checks.{side_for}
use Rattle.calls.specs.Calls.{open_of, expand_of}
use Rattle.calls.specs.Sequences.{World, after}
use Rattle.calls.proofs.ExpandKept.{sided}
use Rattle.calls.proofs.OpenKept.{open_kept}
use Rattle.readings.specs.Listed.{pick_of}
use Rattle.readings.specs.Worlds.{world_of, OpeningsRefused, state_at, at_start, Sound}
use Rattle.readings.specs.Follows.{PapersList}
use Rattle.readings.specs.Demands.{Demand2, AfterCalls, Claim2}
use Rattle.readings.proofs.Filters.{filter_as_papers}
use Rattle.readings.proofs.PapersLists.{papers_list}
use Rattle.readings.proofs.Refused.{refused_for}
use Rattle.readings.proofs.PathEnds.{final_answer}
use Rattle.readings.proofs.StorePaths.{begins, papers_paths, store_paths, finished}
use Rattle.readings.proofs.WordPaths.{by_words}
use Rattle.readings.proofs.Grows.{KeptWorld}
use Rattle.readings.proofs.CallsKept.{expand_onto, expand_lists}
use Rattle.readings.proofs.Openings.{open_keeps}
use Rattle.readings.proofs.CallLists.{calls_onto}

-- state 0 is the start
begun : (l : Lent) (c : Composition) (w : World) → Sound l c w → (t : Triple) → Start (composed_of c) t ↔ ((0 < w.session.used.states) × (state_at w 0 ≡ t))
begun l c w S t = (
  λ h. let e = (start_as_papers c t).1 h in ((S.found 0).1 (at_start 0 t e refl), S.start t e),
  λ h. let r = begins l c w S h.0 in (start_as_papers c t).0 (r.1 ∙ ap Some (sym (S.start r.0 r.1) ∙ h.1)),
)

-- in every world that the calls keep
pub follows : (s : Settings) (l : Lent) (side : Side) → side_for s l ≡ good side → (w : World) → KeptWorld l (composition_of s l side) w → Demand2 s l (composition_of s l side) w
follows s l side rule w k =
    let c = composition_of s l side in
    let z = sided s l side rule in
    let P = sound_of s l side z.formed1 z.formed2 z.rule in
    let S = k.sound in
    record {
      start = begun l c w S;
      lists = λ n x. papers_list c P w n (S.lists n x);
      answers = λ n p e.
          let v = world_of (expand_of l w.session w.memory n) in
          let x = expand_lists l c w k n p e in
          subst (PapersList c v n) x.1 (papers_list c P v n ((expand_onto l c w k n).kept.sound.lists n x.0));
      refusals = λ n j u. refused_for s l side rule w S.enters n u j;
      finals = λ n u. subst (FinalExactly c (state_at w n)) (sym (final_answer l c w S.enters n u)) (final_as_papers c (state_at w n));
      paths = papers_paths s l side rule w S;
      filters = filter_as_papers c.kind (exact c.kind) (composed_of c) s.filter;
      words = λ h N x y. by_words l c (pick_of s.filter) w N.sigma2 S (store_paths s l side rule w S (finished s l side w N h)) x y;
    }

-- and so what holds in those worlds holds after every list of calls that demand 3 speaks of
pub after_calls : (P : Settings → Lent → Composition → World → Type 0)
    → ((s : Settings) (l : Lent) (side : Side) → side_for s l ≡ good side → (w : World) → KeptWorld l (composition_of s l side) w → P s l (composition_of s l side) w) → AfterCalls P
after_calls P f s l got m e =
    let o = open_kept s l got m tt e in
    let c = composition_of s l o.side in
    let w = world_of (open_of s l got m) in
    let k = open_keeps s l got m e o.side o.rule in
    (o.side, o.rule, λ cs r. f s l o.side o.rule (after l w cs) (calls_onto l c w cs [] k (subst (OpeningsRefused l w) (sym (append-nil cs)) r)).0.kept)

pub demand_2 : Claim2
demand_2 = after_calls Demand2 follows
