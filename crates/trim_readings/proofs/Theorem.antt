-- The accepting paths of a machine and those of the trimmed machine are one to one, with their weights and labels.
use mathlib.Core.Path.{◌≡◌, refl, sym, ◌∙◌, ap, subst}
use mathlib.Core.Bool.{Bool, true, false, cond}
use mathlib.Core.List.{List, [], map}
use Rattle.std.specs.Prelude.{Option, None, Some}
use Rattle.std.proofs.lemmas.Option.{none-some, same_Some}
use Prim.Native.Nat.{ℕ, suc}
use Rattle.lists.specs.Lists.{Distinct}
use Rattle.papers.specs.Machine.{Machine}
use Rattle.papers.specs.Weight.{Semiring}
use Rattle.papers.specs.Paths.{Accepting, AcceptingPath, path_weight}
use Rattle.words.specs.Machines.{machine_of, less_one}
use Rattle.graphs.specs.Walks.{Useful, useful, Bounded}
use Rattle.trims.specs.Trims.{number, new_start, trimmed}
use Rattle.trims.proofs.Numbers.{Kept}
use Rattle.trims.proofs.Trimmed.{trimmed_start}
use Rattle.trims.proofs.Walked.{KeptWalk, kept_walk, kept_start, start_new}
use Rattle.readings.specs.Correspondence.{OneToOne}
use Rattle.trim_readings.specs.TrimPaths.{start_or, to_new, to_old, new_path, old_path}
use Rattle.trim_readings.proofs.PathSteps.{walk_of, old_new, new_inputs, new_outputs, new_accepting, new_weight, Back, back}

-- where the trimmed machine starts: at the new number of a useful start
pub record Started (M : Machine) (k : ℕ) : Type 0 where
  pub old : ℕ
  pub starts : M.start ≡ Some old
  pub is_useful : useful M old ≡ true
  pub is : number M old ≡ k

pub started : (M : Machine) (k : ℕ) → (machine_of (trimmed M)).start ≡ Some k → Started M k
started M k e = go M.start refl (sym (trimmed_start M) ∙ e)
  where
    pick : (s : ℕ) → M.start ≡ Some s → (u : Bool) → useful M s ≡ u → less_one (cond u (suc (number M s)) 0) ≡ Some k → Started M k
    pick s st true u d = record { old = s; starts = st; is_useful = u; is = same_Some _ _ d }
    pick s st false u d = absurd (none-some _ d)

    go : (o : Option ℕ) → M.start ≡ o → less_one (new_start M o) ≡ Some k → Started M k
    go None st d = absurd (none-some _ d)
    go (Some s) st d = pick s st (useful M s) refl d

module _ (K : Semiring) (value : ℕ → K.Element) (M : Machine) (bound : Bounded M) where
  -- an accepting path keeps to kept states
  record OverKept (a : ℕ) (p : List ℕ) : Type 0 where
    state : Kept M a
    walk : KeptWalk M a p

  over_kept : (a : ℕ) → M.start ≡ Some a → (p : List ℕ) → Accepting K value M a p → OverKept a p
  over_kept a st p h =
      let w = walk_of M K value bound a p h in
      let u : Useful M a = record { start = a; starts = st; reached = ([], refl); end = w.0; leads = (p, w.1); final = w.2.0 } in
      record { state = kept_start M bound a u; walk = kept_walk M bound a st a ([], refl) p w.0 w.1 w.0 ([], refl) w.2.0 }

  -- where each list holds a record once, the paths are one to one
  pub trimmed_paths : ((n : ℕ) → Distinct (M.list n)) → OneToOne (AcceptingPath K value M) (AcceptingPath K value (machine_of (trimmed M))) (new_path M) (old_path M)
  trimmed_paths once = record {
    goes = λ p h.
        let o = over_kept h.0 h.1 p h.2 in (
          number M h.0,
          start_new M h.0 h.1 o.state.is_useful,
          subst (λ (a : ℕ). Accepting K value (machine_of (trimmed M)) (number M h.0) (to_new M a p)) (sym (ap start_or h.1)) (new_accepting M K value bound h.0 o.state p o.walk h.2),
        );
    comes = λ q h. let s = started M h.0 h.1 in
        (s.old, s.starts, subst (λ (a : ℕ). Accepting K value M s.old (to_old M a q)) (sym (ap start_or s.starts)) (from q h s).accepting);
    from_to = λ p h.
        let o = over_kept h.0 h.1 p h.2 in
        subst (λ (a : ℕ). to_old M a (to_new M a p) ≡ p) (sym (ap start_or h.1)) (old_new M h.0 p o.walk);
    to_from = λ q h. let s = started M h.0 h.1 in
        subst (λ (a : ℕ). to_new M a (to_old M a q) ≡ q) (sym (ap start_or s.starts)) (from q h s).again;
  }
    where
      from : (q : List ℕ) (h : AcceptingPath K value (machine_of (trimmed M)) q) (s : Started M h.0) → Back M K value bound s.old q
      from q h s =
          let k : Kept M s.old = record { is_useful = s.is_useful; is_state = bound.start_below s.old s.starts } in
          back M K value bound once s.old k q (subst (λ (x : ℕ). Accepting K value (machine_of (trimmed M)) x q) (sym s.is) h.2)

  -- a path weighs what it weighed
  pub trimmed_weights : (a : ℕ) → M.start ≡ Some a → (p : List ℕ) → Accepting K value M a p
      → path_weight K value M a p ≡ path_weight K value (machine_of (trimmed M)) (number M a) (to_new M a p)
  trimmed_weights a st p h = let o = over_kept a st p h in new_weight M K value bound a o.state p o.walk h

  -- its labels are what they were
  pub trimmed_inputs : (a : ℕ) → M.start ≡ Some a → (p : List ℕ) → Accepting K value M a p → map M.input p ≡ map (machine_of (trimmed M)).input (to_new M a p)
  trimmed_inputs a st p h = let o = over_kept a st p h in new_inputs M bound a o.state p o.walk

  pub trimmed_outputs : (a : ℕ) → M.start ≡ Some a → (p : List ℕ) → Accepting K value M a p → map M.output p ≡ map (machine_of (trimmed M)).output (to_new M a p)
  trimmed_outputs a st p h = let o = over_kept a st p h in new_outputs M bound a o.state p o.walk
