-- Where the facts of the two lists serve, the steps of a composed state fit.
use mathlib.Core.Path.{◌≡◌}
use mathlib.Core.Bool.{true}
use mathlib.Core.List.{List, map, Memᴰ as In}
use mathlib.Core.Logic.{◌⊎◌, inl, inr}
use Prim.Native.Nat.{ℕ, ◌+◌, ◌-◌, ◌≤◌, ◌<◌}
use native.Mathlib.Nat.{le_refl}
use native.Mathlib.Omega.{arith}
use lib.Dec.{leb}
use borrow.Author.Tests.{leb-true}
use Rattle.lists.proofs.Members.{and_left, and_right, every_in, in_interval}
use Rattle.words.specs.Labels.{MAX, no_label}
use Rattle.words.specs.Weights.{Kind, cost, count, zero_of, kind_of}
use Rattle.words.specs.Matches.{MatchType, inputs, outputs, label_on}
use Rattle.words.specs.Machines.{state_count, list_of, machine_of, no_fall, sorted}
use Rattle.words.specs.Sigmas.{Sigma}
use Rattle.words.specs.Steps.{Triple, steps_at}
use Rattle.calls.specs.Store.{Store, state_room, tr_room}
use Rattle.stored_steps.specs.Storing.{AllGood, Fits}
use Rattle.compose_bounds.specs.Serving.{Light, weights_fit, Bounded, Walks, plain_direction}
use Rattle.compose_bounds.proofs.Serves.{serves_steps, serves_fit}
use Rattle.compose_fst_op.specs.Composing.{option_settings, composing_words}
use Rattle.compose_fst_op.specs.declared.ComposeFstOpOptions.{ComposeFstOpOptions}
use Rattle.compose_moves.specs.Walks.{looked_words}
use Rattle.list_facts.specs.Facts.{TrueOf}
use Rattle.list_facts.specs.declared.ListFacts.{ListFacts}
use Rattle.list_facts.proofs.FactLaws.{most_holds, len_is, eps_is, most_is, run_is}
use Rattle.match_type.specs.Chosen.{side_means}
use Rattle.sorted_lists.proofs.Longest.{labelled_run}
use Rattle.compose_plan.specs.Serves.{no_sigma, most_moves, room_for, most_by, serves_of}
use Rattle.compose_plan.specs.Planning.{Present}
use Rattle.compose_plan.proofs.Plain.{operand_with, unset, direction_plain}
use Rattle.compose_plan.proofs.Sorted.{looked_sorted}

zero_word : (k : Kind) → zero_of k ≤ MAX
zero_word cost = omega arith
zero_word count = omega arith

-- a weight is the kind's zero, or at most the largest
light : {on : MatchType} {k : Kind} {m : List ℕ} {s : ℕ} {f : ListFacts} (σ : Sigma) → TrueOf on k m s f → f.most ≤ MAX → Light k (operand_with on m σ) s f.most
light {k = k} {m} {s} {f} σ true_of h = record { word = λ t i. small t (each t i); most = each }
  where
    each : (t : ℕ) → In t (list_of m s) → ((machine_of m).weight t ≡ zero_of k) ⊎ ((machine_of m).weight t ≤ f.most)
    each t i = rw (most_is true_of) (most_holds k (machine_of m).weight (list_of m s) t i)

    small : (t : ℕ) → ((machine_of m).weight t ≡ zero_of k) ⊎ ((machine_of m).weight t ≤ f.most) → (machine_of m).weight t ≤ MAX
    small t (inl e) = rw e (zero_word k)
    small t (inr l) = omega (arith, l, h)

-- what the test for room says
room_for_lem : (D : Store) (n : ℕ) → room_for D n ≡ true → (n ≤ state_room D.memory - D.used.states) × (n ≤ tr_room D.memory - D.used.trs)
unfolding room_for
room_for_lem D n e =
    let states = leb-true (D.used.states + n) (state_room D.memory) (and_left (leb (D.used.states + n) (state_room D.memory)) _ e) in
    let trs = leb-true (D.used.trs + n) (tr_room D.memory) (and_right (leb (D.used.states + n) (state_room D.memory)) _ e) in
    (omega (arith, states), omega (arith, trs))

-- the list of a state of a sorted machine
list_sorted_lem : (on : MatchType) (m : List ℕ) (s : ℕ) → sorted on (machine_of m) ≡ true → s < state_count m → no_fall 0 (map (label_on on (machine_of m)) (list_of m s)) ≡ true
unfolding sorted
list_sorted_lem on m s e h = every_in (λ q. no_fall 0 (map (label_on on (machine_of m)) (list_of m q))) e (in_interval 0 (state_count m) s (omega arith) (omega arith))

-- a walk of the one list, looked up in the other
bounded : {k : Kind} (side on : MatchType) (mw mm : List ℕ) (sw sm : ℕ) (fw fm : ListFacts) (σw σm : Sigma)
    → TrueOf side k mw sw fw → TrueOf on k mm sm fm → sorted on (machine_of mm) ≡ true → sm < state_count mm → σm.label ≡ no_label
    → Bounded (operand_with side mw σw) sw (operand_with on mm σm) sm fm.run (most_moves fw fm)
bounded side on mw mm sw sm fw fm σw σm tw tm e h z = record {
  unset = z;
  runs = λ x. rw (run_is tm) (labelled_run on (machine_of mm) sm no_label (list_sorted_lem on mm sm e h) x);
  few = rw (eps_is tm, len_is tw) (le_refl _);
}

module _ {o : ComposeFstOpOptions} {m1 m2 a1 a2 : List ℕ} {t : Triple} {f1 f2 : ListFacts} (p : Present o m1 m2 a1 a2 t f1 f2) where
  -- in either direction: machine 1 is walked, or machine 2
  walks : no_sigma (option_settings o) ≡ true → (d : MatchType) → sorted d (machine_of (looked_words d m1 m2)) ≡ true
      → (run : ℕ) × Walks d (composing_words o m1 m2 a1 a2).operand1 (composing_words o m1 m2 a1 a2).operand2 t.s1 t.s2 run (most_by d f1 f2)
  walks n inputs e = (f2.run, bounded outputs inputs m1 m2 t.s1 t.s2 f1 f2 _ _ p.facts1 p.facts2 e p.inside2 (unset (option_settings o) n).1)
  walks n outputs e = (f1.run, bounded inputs outputs m2 m1 t.s2 t.s1 f2 f1 _ _ p.facts2 p.facts1 e p.inside1 (unset (option_settings o) n).0)

  -- no step is a refusal, by the weights alone
  pub good_steps : no_sigma (option_settings o) ≡ true → weights_fit (kind_of o.kind) f1.most f2.most ≡ true → f1.most ≤ MAX → f2.most ≤ MAX → AllGood (steps_at (composing_words o m1 m2 a1 a2) t)
  good_steps n fit h1 h2 =
      let d = plain_direction (side_means o.side) f1.len f2.len in
      let w = walks n d (looked_sorted p) in
      (serves_steps (composing_words o m1 m2 a1 a2) t f1.most f2.most (light _ p.facts1 h1) (light _ p.facts2 h2) fit d w.0 (most_by d f1 f2) (direction_plain p n) w.1).0

  -- no refusal stands, and there is a record for each step
  pub serves_fits : (D : Store) → serves_of (option_settings o) (plain_direction (side_means o.side) f1.len f2.len) D f1 f2 ≡ true → f1.most ≤ MAX → f2.most ≤ MAX
      → Fits D (steps_at (composing_words o m1 m2 a1 a2) t)
  unfolding serves_of
  serves_fits D e h1 h2 =
      let d = plain_direction (side_means o.side) f1.len f2.len in
      let n = and_left (no_sigma (option_settings o)) _ e in
      let r = and_right (no_sigma (option_settings o)) _ e in
      let fit = and_left (weights_fit (kind_of o.kind) f1.most f2.most) _ r in
      let room = room_for_lem D (most_by d f1 f2) (and_right (weights_fit (kind_of o.kind) f1.most f2.most) _ r) in
      let w = walks n d (looked_sorted p) in
      serves_fit (composing_words o m1 m2 a1 a2) t f1.most f2.most (light _ p.facts1 h1) (light _ p.facts2 h2) fit
      d w.0 (most_by d f1 f2) (direction_plain p n) w.1 D room.0 room.1
