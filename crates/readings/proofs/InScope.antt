-- The worlds to which a list of calls leads after an accepted opening: a further list leads to such a world again, and each of them has what the calls keep.
use mathlib.Core.Path.{◌≡◌, sym, ◌∙◌, ap, subst}
use mathlib.Core.List.{List, [], ◌++◌, append-nil}
use Rattle.words.specs.Labels.{good}
use Rattle.words.specs.Sides.{Side}
use Rattle.words.specs.Settings.{Settings, Lent, composition_of}
use Rattle.calls.specs.Checks.{side_for}
use Rattle.calls.specs.Calls.{open_of}
use Rattle.calls.specs.Sequences.{World, Call, after}
use Rattle.calls.proofs.OpenKept.{open_kept}
use Rattle.readings.specs.Worlds.{world_of, OpeningsRefused}
use Rattle.readings.specs.Owned.{InScope}
use Rattle.readings.proofs.Grows.{KeptWorld}
use Rattle.readings.proofs.Openings.{open_keeps}
use Rattle.readings.proofs.CallLists.{after_append, openings_append, calls_kept}

module _ (s : Settings) (l : Lent) (w : World) (r : InScope s l w) where
  abbrev o : World
  o = world_of (open_of s l r.got r.memory)

  -- the side that the rule gives
  pub scope_side : (side : Side) × (side_for s l ≡ good side)
  scope_side = let b = open_kept s l r.got r.memory tt r.opens in (b.side, b.rule)

  -- the further list stands after the one that led here
  pub scope_calls : (cs : List Call) → OpeningsRefused l w cs → InScope s l (after l w cs)
  scope_calls cs q = record {
    got = r.got;
    memory = r.memory;
    opens = r.opens;
    calls = r.calls ++ cs;
    refuses = (openings_append l o r.calls cs).1 (r.refuses, subst (λ (v : World). OpeningsRefused l v cs) (sym r.leads) q);
    leads = sym (after_append l o r.calls cs) ∙ ap (λ (v : World). after l v cs) r.leads;
  }

  -- with the composition of that side
  pub scope_kept : (side : Side) → side_for s l ≡ good side → KeptWorld l (composition_of s l side) w
  scope_kept side rule =
      subst (KeptWorld l (composition_of s l side)) r.leads
      (calls_kept l (composition_of s l side) o r.calls (open_keeps s l r.got r.memory r.opens side rule) r.refuses r.calls [] (append-nil r.calls))
