-- After calls as in demand 3 the trimmed machine has labels and counts that a machine in words may have.
use mathlib.Core.Path.{◌≡◌, refl, sym, subst}
use mathlib.Core.List.Memᴰ
use mathlib.Core.List.{List, [], ◌∷◌, map, flat_map, Memᴰ as In}
use mathlib.Core.Logic.{⊎_elim}
use mathlib.Core.Bool.{true}
use Prim.Native.Nat.{ℕ, suc, ◌+◌, ◌-◌, ◌≤◌, ◌<◌}
use native.Mathlib.Omega.{arith}
use lib.ListN.{length, length-map, length-append}
use Rattle.lists.specs.Lists.{Distinct, interval}
use Rattle.lists.proofs.Members.{of_flat, of_keep, of_interval}
use Rattle.lists.proofs.Once.{distinct_keep, distinct_parts}
use Rattle.lists.proofs.Places.{at_in, at_place}
use Rattle.papers.specs.Machine.{Machine}
use Rattle.words.specs.Labels.{no_label, good}
use Rattle.words.specs.Machines.{limit, state_count, well_formed}
use Rattle.words.specs.Sides.{Side}
use Rattle.words.specs.Steps.{Composition}
use Rattle.words.specs.Settings.{Settings, Lent, composition_of}
use Rattle.calls.specs.Checks.{side_for}
use Rattle.calls.specs.Sequences.{World}
use Rattle.calls.proofs.ExpandKept.{sided}
use Rattle.graphs.specs.Walks.{useful}
use Rattle.graphs.proofs.Few.{few}
use Rattle.graphs.proofs.Entered.{within}
use Rattle.graphs.proofs.StoreLaws.{store_records, store_distinct}
use Rattle.machine_words.specs.MachineWords.{trs_in}
use Rattle.trims.specs.Trims.{useful_states, kept_records, kept_tr, row_of, rows_of, trimmed}
use Rattle.trims.proofs.Numbers.{states_once, states_few}
use Rattle.trims.proofs.Trimmed.{trimmed_formed}
use Rattle.readings.specs.Worlds.{UsedState, state_at, part_in, IsRecord, Sound}
use Rattle.trim_readings.specs.TrimClaims.{store_in, held_in, AllExpanded}
use Rattle.trim_readings.proofs.HeldPaths.{held_form, held_bounded}
use Rattle.trim_readings.proofs.StepLabels.{steps_labels}

-- distinct numbers from 1 to n are at most n
few_from_one : (n : ℕ) (l : List ℕ) → Distinct l → ((x : ℕ) → In x l → (0 < x) × (x ≤ n)) → length l ≤ n
few_from_one n l d h =
    let r = few (suc n) (0 ∷ l) (λ i. let z = (h 0 i).0 in omega (arith, z), d)
    (λ x i. ⊎_elim (λ e. omega (arith, e)) (λ j. let z = (h x j).1 in omega (arith, z)) (Memᴰ.cases_cons i)) in
    omega (arith, r)

-- the transitions of the rows are the kept records, one after another
trs_kept : (M : Machine) (l : List ℕ) → trs_in (map (row_of M) l) ≡ length (flat_map (kept_records M) l)
unfolding trs_in flat_map
trs_kept M [] = refl
trs_kept M (n ∷ ns) =
    let a = length-map (kept_records M n) (kept_tr M) in
    let b = trs_kept M ns in
    let c = length-append (kept_records M n) (flat_map (kept_records M) ns) in
    omega (arith, a, b, c)

module _ (s : Settings) (l : Lent) (side : Side) (rule : side_for s l ≡ good side) (w : World) (S : Sound l (composition_of s l side) w) where
  abbrev c : Composition
  c = composition_of s l side

  abbrev M : Machine
  M = held_in c w

  -- the used counts are within the limit
  pub used_within : (w.session.used.states ≤ limit) × (w.session.used.trs ≤ limit)
  used_within = let u = within l w.session w.memory c S.enters in (u.states, u.trs)

  module _ (all : AllExpanded w) where
    -- a record of a used state is that of a step, whose labels it has
    record_labels : (n r : ℕ) → UsedState w n → In r (M.list n) → (M.input r < no_label) × (M.output r < no_label)
    record_labels n r u i =
        let L = S.lists n (all n u) in
        let b = of_interval (part_in w n).first (part_in w n).count i in
        let k : ℕ = r - (part_in w n).first in
        let p = at_place L.steps k (omega (arith, b.0, b.1, L.count)) in
        let z : (part_in w n).first + k ≡ r = omega (arith, b.0) in
        let R = subst (λ (x : ℕ). IsRecord w x p.0) z (L.record_of k p.0 p.1) in
        let f = sided s l side rule in
        let among = subst (In (good p.0)) (sym L.moves) (Memᴰ.map good (at_in L.steps k p.1)) in
        let h = steps_labels s l side f.formed1 f.formed2 f.rule (state_at w n) p.0 among in
        (subst (λ (x : ℕ). x < no_label) (sym R.input) h.0, subst (λ (x : ℕ). x < no_label) (sym R.output) h.1)

    -- a kept state is used
    kept_used : (n : ℕ) → In n (useful_states M) → UsedState w n
    kept_used n i = let b = of_interval 0 M.states (of_keep (useful M) (interval 0 M.states) i).0 in omega (arith, b.1)

    -- a kept record of a used state stands in its list
    kept_listed : (n r : ℕ) → In r (kept_records M n) → In r (M.list n)
    kept_listed n r i = (of_keep (λ q. useful M (M.target q)) (M.list n) i).0

    -- no more transitions are written than are used: each stands in the list of one state
    pub trs_few : trs_in (rows_of M) ≤ w.session.used.trs
    trs_few =
        let once = distinct_parts (kept_records M) (useful_states M) (states_once M) (λ n. distinct_keep (λ q. useful M (M.target q)) (M.list n) (store_distinct c (store_in w) n))
        (λ a b r i j x y. S.alone r a b (all a (kept_used a i)) (all b (kept_used b j)) (kept_listed a r x) (kept_listed b r y)) in
        let h = few_from_one w.session.used.trs (flat_map (kept_records M) (useful_states M)) once
        (λ r i. let q = of_flat (kept_records M) (useful_states M) i in
        store_records c (store_in w) (state_count l.m1) (state_count l.m2) (held_form l c w S.enters) q.0 r (kept_used q.0 q.1) (kept_listed q.0 r q.2)) in
        omega (arith, h, trs_kept M (useful_states M))

    -- the trimmed machine is well formed
    pub formed : well_formed (trimmed M) ≡ true
    formed =
        let u = used_within in
        trimmed_formed M (held_bounded l c w S.enters) (omega (arith, states_few M, u.0)) (omega (arith, trs_few, u.1)) record_labels
