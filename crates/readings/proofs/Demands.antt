-- Demand 3, whole: for every accepted opening, whatever memory held, and every list of calls in which each opening is refused.
use mathlib.Core.Path.{◌≡◌, sym, subst}
use mathlib.Core.List.{List, [], ◌∷◌, ◌++◌, append-nil}
use Rattle.words.specs.Steps.{Composition}
use Rattle.words.specs.Settings.{Lent, composition_of}
use Rattle.calls.specs.Calls.{open_of}
use Rattle.calls.specs.Sequences.{World, Call, call_of, after, after_with}
use Rattle.calls.proofs.OpenKept.{open_kept}
use Rattle.readings.specs.Worlds.{world_of, OpeningsRefused}
use Rattle.readings.specs.Again.{reply_after, GivesAgain}
use Rattle.readings.specs.Listed.{pick_of}
use Rattle.readings.specs.StorePaths.{Finished, Paths}
use Rattle.readings.specs.Demands.{Claim}
use Rattle.readings.proofs.Grows.{KeptWorld}
use Rattle.readings.proofs.Openings.{open_keeps, open_unexpanded}
use Rattle.readings.proofs.CallLists.{after_append, openings_append, calls_onto, calls_kept, calls_again}
use Rattle.readings.proofs.Answered.{answers, expanded_by}
use Rattle.readings.proofs.GivenAgain.{gives_again}
use Rattle.readings.proofs.NeverEight.{never_eight}
use Rattle.readings.proofs.LargerMemory.{larger}
use Rattle.readings.proofs.StorePaths.{store_paths}
use Rattle.readings.proofs.LentPaths.{lent_paths}

-- two answers to one call of a list
given : (l : Lent) (c : Composition) (w : World) (cs : List Call) → KeptWorld l c w → OpeningsRefused l w cs → (before middle later : List Call) (x : Call)
    → before ++ (x ∷ (middle ++ (x ∷ later))) ≡ cs → GivesAgain (reply_after l w before x) (reply_after l w (before ++ (x ∷ middle)) x)
unfolding after_with
given l c w cs k r before middle later x e =
    let a = calls_onto l c w before (x ∷ (middle ++ (x ∷ later))) k (subst (OpeningsRefused l w) (sym e) r) in
    let v = after l w before in
    subst (λ (u : World). GivesAgain (call_of l v x).reply (call_of l u x).reply) (after_append l w before (x ∷ middle)) (gives_again l c v a.0.kept middle (x ∷ later) x a.1)

pub demand_3 : Claim
demand_3 s l got m e =
    let o = open_kept s l got m tt e in
    let c = composition_of s l o.side in
    let w = world_of (open_of s l got m) in
    let k = open_keeps s l got m e o.side o.rule in
    let paths : (cs : List Call) → OpeningsRefused l w cs → Finished s l c (after l w cs) → Paths l c (pick_of s.filter) (after l w cs) =
    λ cs r. store_paths s l o.side o.rule (after l w cs) (calls_kept l c w cs k r cs [] (append-nil cs)).sound
    in (
      o.side,
      o.rule,
      λ cs r. record {
        sound = λ before later d. (calls_kept l c w cs k r before later d).sound;
        answers = λ before later d. answers l c (after l w before) (calls_kept l c w cs k r before later d);
        expanded = λ before later d. expanded_by l c w before k (open_unexpanded s l got m e) ((openings_append l w before later).0 (subst (OpeningsRefused l w) (sym d) r)).0;
        eight = never_eight l c w cs k r;
        again = calls_again l c w cs k r;
        given = given l c w cs k r;
        larger = λ got2 big more. larger s l got got2 m big more e o.side o.rule cs r;
        paths = paths cs r;
        lent_paths = λ f. lent_paths s l o.side (pick_of s.filter) (after l w cs) (paths cs r f);
      },
    )
