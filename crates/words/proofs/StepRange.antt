-- The targets of a state's steps are in range: a pair of states of the two machines, and a filter state of the table.
use mathlib.Core.Path.{◌≡◌, refl, sym, subst}
use mathlib.Core.Bool.{Bool, true, false}
use mathlib.Core.List.Memᴰ
use mathlib.Core.List.{List, Memᴰ as In}
use mathlib.Core.Logic.{⊎_elim}
use Rattle.std.specs.Prelude.{Option, None, Some}
use Prim.Native.Nat.{ℕ, zero, suc, ◌≤◌, ◌<◌}
use native.Mathlib.Omega.{arith}
use Rattle.lists.proofs.Places.{in_at}
use Rattle.papers.specs.Filter.{MoveKind, lone1, lone2, bothEpsilon, aLabel, Facts}
use Rattle.papers.specs.Composition.{Edge, rest, along, Leaves, next_state, Triple}
use Rattle.words.specs.Labels.{Checked, good, refused}
use Rattle.words.specs.Machines.{state_count, machine_of, well_formed}
use Rattle.words.specs.Matches.{MatchType, inputs, outputs}
use Rattle.words.specs.Sides.{Side, side_of}
use Rattle.words.specs.Filters.{all_first, none_first, filter_of}
use Rattle.words.specs.Steps.{Composition, Step, steps_at}
use Rattle.words.specs.Ignored.{Ignored, replaced}
use Rattle.words.specs.Settings.{Settings, Lent, ignored_by, operand1, operand2, composition_of}
use Rattle.words.specs.AsPapers.{edges_of, direction_of}
use Rattle.words.proofs.CheckedLaws.{good≢refused}
use Rattle.words.proofs.ListLaws.{list_member}
use Rattle.words.proofs.FormLaws.{form}
use Rattle.words.proofs.PapersOpened.{kept_refused}
use Rattle.words.proofs.PapersSteps.{opened_as_papers}

-- a triple whose pair is in range: S1 and S2 are the machines' numbers of states
pub record InRange (S1 S2 : ℕ) (t : Triple) : Type 0 where
  pub s1 : t.s1 < S1
  pub s2 : t.s2 < S2
  pub f : t.f ≤ 2

-- "f at most 2": every cell of the table gives such a one
abbrev Low : Option ℕ → Type 0
Low None = Unit {0}
Low (Some g) = g ≤ 2

all_low : (a n : Bool) (g : ℕ) → g ≤ 2 → Low (all_first a n g)
all_low true n g h = tt
all_low false true g h = omega arith
all_low false false g h = h

none_low : (n a : Bool) (g : ℕ) → g ≤ 2 → Low (none_first n a g)
none_low true a g h = omega arith
none_low false true g h = tt
none_low false false g h = h

low : (n : ℕ) (k : MoveKind) (φ : Facts) (f : ℕ) → Low (filter_of n k φ f)
low zero lone1 φ zero = omega arith
low zero lone1 φ (suc f) = tt
low zero lone2 φ f = all_low φ.all1 φ.none1 1 (omega arith)
low zero bothEpsilon φ f = tt
low zero aLabel φ f = omega arith
low (suc zero) lone1 φ f = all_low φ.all2 φ.none2 1 (omega arith)
low (suc zero) lone2 φ zero = omega arith
low (suc zero) lone2 φ (suc zero) = tt
low (suc zero) lone2 φ (suc (suc f)) = omega arith
low (suc zero) bothEpsilon φ f = tt
low (suc zero) aLabel φ f = omega arith
low (suc (suc zero)) lone1 φ zero = none_low φ.none2 φ.all2 1 (omega arith)
low (suc (suc zero)) lone1 φ (suc zero) = omega arith
low (suc (suc zero)) lone1 φ (suc (suc f)) = tt
low (suc (suc zero)) lone2 φ zero = none_low φ.none1 φ.all1 2 (omega arith)
low (suc (suc zero)) lone2 φ (suc zero) = tt
low (suc (suc zero)) lone2 φ (suc (suc f)) = omega arith
low (suc (suc zero)) bothEpsilon φ zero = omega arith
low (suc (suc zero)) bothEpsilon φ (suc f) = tt
low (suc (suc zero)) aLabel φ f = omega arith
low (suc (suc (suc zero))) lone1 φ f = tt
low (suc (suc (suc zero))) lone2 φ f = tt
low (suc (suc (suc zero))) bothEpsilon φ f = omega arith
low (suc (suc (suc zero))) aLabel φ f = omega arith
low (suc (suc (suc (suc zero)))) lone1 φ f = omega arith
low (suc (suc (suc (suc zero)))) lone2 φ f = omega arith
low (suc (suc (suc (suc zero)))) bothEpsilon φ f = omega arith
low (suc (suc (suc (suc zero)))) aLabel φ f = omega arith
low (suc (suc (suc (suc (suc n))))) lone1 φ f = omega arith
low (suc (suc (suc (suc (suc n))))) lone2 φ f = omega arith
low (suc (suc (suc (suc (suc n))))) bothEpsilon φ f = tt
low (suc (suc (suc (suc (suc n))))) aLabel φ f = omega arith

-- a machine rests in its state or takes a transition of its list, whose target is one of its states
next_below : (on : MatchType) (g : Ignored) (m : List ℕ) → well_formed m ≡ true → (q : ℕ) (e : Edge) → q < state_count m → Leaves (replaced on g (machine_of m)) q e
    → next_state (replaced on g (machine_of m)) q e < state_count m
next_below on g m w q rest h i = h
next_below inputs g m w q (along t) h i = let r = list_member m q i in ((form m w).tr t r.0 r.1).target
next_below outputs g m w q (along t) h i = let r = list_member m q i in ((form m w).tr t r.0 r.1).target

pub steps_in_range : (s : Settings) (l : Lent) (side : Side) → well_formed l.m1 ≡ true → well_formed l.m2 ≡ true → side_of (operand1 s l) (operand2 s l) ≡ good side
    → (t : Triple) → InRange (state_count l.m1) (state_count l.m2) t → (st : Step) → In (good st) (steps_at (composition_of s l side) t)
    → InRange (state_count l.m1) (state_count l.m2) st.to
unfolding steps_at
steps_in_range s l side w1 w2 e t h st i = go (direction_of (composition_of s l side) t) refl
  where
    c : Composition
    c = composition_of s l side

    go : (d : Checked MatchType) → direction_of c t ≡ d → InRange (state_count l.m1) (state_count l.m2) st.to
    go (refused n) p = absurd (⊎_elim good≢refused Memᴰ.not-nil (Memᴰ.cases_cons (rw (kept_refused c t n p) at i)))
    go (good d) p =
        let k = in_at i in
        let r = (opened_as_papers s l side w1 w2 e t d p).sound k.0 st k.1 in
        let v = r.0 in
        let leaves = r.2.1 in
        let kept = r.2.2 in
        subst (InRange (state_count l.m1) (state_count l.m2)) (sym r.3.to)
        (record {
          s1 = next_below outputs (ignored_by s l) l.m1 w1 t.s1 (edges_of v.move).first h.s1 leaves.0;
          s2 = next_below inputs (ignored_by s l) l.m2 w2 t.s2 (edges_of v.move).second h.s2 leaves.1;
          f = subst Low kept (low s.filter r.2.0 _ t.f);
        })
