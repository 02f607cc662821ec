-- Walks to a final state stay among the kept states, so that every state of the trimmed machine is useful in it.
use mathlib.Core.Path.{◌≡◌, refl, sym, ◌∙◌, ap, subst}
use mathlib.Core.Bool.{Bool, true, cond}
use mathlib.Core.List.{List, [], ◌∷◌, Memᴰ as In}
use Rattle.std.specs.Prelude.{Option, Some}
use Prim.Native.Nat.{ℕ, suc, ◌+◌, ◌<◌}
use native.Mathlib.Omega.{arith}
use Rattle.lists.proofs.Members.{in_keep}
use Rattle.lists.proofs.Places.{in_at}
use Rattle.papers.specs.Machine.{Machine}
use Rattle.words.specs.Machines.{less_one, state_count, machine_of}
use Rattle.graphs.specs.Walks.{Walk, Reach, Useful, useful, Bounded}
use Rattle.graphs.proofs.Useful.{useful_is, reach_on}
use Rattle.machine_words.specs.MachineWords.{before}
use Rattle.trims.specs.Trims.{number, kept_records, rows_of, new_start, trimmed}
use Rattle.trims.proofs.Numbers.{Kept, number_injective, numbered}
use Rattle.trims.proofs.Trimmed.{trimmed_states, trimmed_start, trimmed_final, trimmed_target, trimmed_bounded, kept_on, in_list}

-- a walk over kept records alone
abbrev pub KeptWalk : Machine → ℕ → List ℕ → Type 0
KeptWalk M n [] = Unit {0}
KeptWalk M n (r ∷ rs) = In r (kept_records M n) × KeptWalk M (M.target r) rs

module _ (M : Machine) where
  -- a walk over kept records has a walk in the trimmed machine
  pub reach_new : Bounded M → (n : ℕ) → Kept M n → (rs : List ℕ) (b : ℕ) → KeptWalk M n rs → Walk M n rs b → Reach (machine_of (trimmed M)) (number M n) (number M b)
  reach_new bound n k [] b kw w = ([], ap (number M) w)
  reach_new bound n k (r ∷ rs) b kw w =
      let p = in_at kw.0 in
      let next = reach_new bound (M.target r) (kept_on M bound n r k kw.0) rs b kw.1 w.1 in
      let t = trimmed_target M n k p.0 r p.1 in (
        (before (rows_of M) (number M n) + p.0 + 1) ∷ next.0,
        (in_list M n k p.0 r p.1, subst (λ (x : ℕ). Walk (machine_of (trimmed M)) x next.0 (number M b)) (sym t) next.1),
      )

  -- such a walk ends at a kept state
  pub kept_end : Bounded M → (n : ℕ) → Kept M n → (rs : List ℕ) (b : ℕ) → KeptWalk M n rs → Walk M n rs b → Kept M b
  kept_end bound n k [] b kw w = subst (Kept M) w k
  kept_end bound n k (r ∷ rs) b kw w = kept_end bound (M.target r) (kept_on M bound n r k kw.0) rs b kw.1 w.1

  -- the trimmed machine starts at the start's new number, if the start is kept
  pub start_new : (a : ℕ) → M.start ≡ Some a → useful M a ≡ true → (machine_of (trimmed M)).start ≡ Some (number M a)
  start_new a st u = trimmed_start M ∙ ap (λ (o : Option ℕ). less_one (new_start M o)) st ∙ ap (λ (b : Bool). less_one (cond b (suc (number M a)) 0)) u

  -- every new state is the number of one kept state
  pub record Numbered (k : ℕ) : Type 0 where
    pub old : ℕ
    pub kept : Kept M old
    pub is : number M old ≡ k
    pub only : (n : ℕ) → Kept M n → number M n ≡ k → n ≡ old

  pub trimmed_numbered : (k : ℕ) → k < state_count (trimmed M) → Numbered k
  trimmed_numbered k h =
      let p = numbered M k (omega (arith, h, trimmed_states M)) in
      record { old = p.0; kept = p.1; is = sym p.2; only = λ n j e. number_injective M n p.0 j p.1 (e ∙ p.2) }

  module _ (bound : Bounded M) where
    -- what lies on a walk from the start to a final state is kept
    pub kept_walk : (s : ℕ) → M.start ≡ Some s → (n : ℕ) → Reach M s n → (rs : List ℕ) (b : ℕ) → Walk M n rs b → (e : ℕ) → Reach M b e → M.is_final e ≡ true → KeptWalk M n rs
    kept_walk s st n back [] b w e l f = tt
    kept_walk s st n back (r ∷ rs) b w e l f =
        let on : Reach M s (M.target r) = reach_on M s n (M.target r) back (r ∷ [], (w.0, refl)) in
        let u : Useful M (M.target r) = record { start = s; starts = st; reached = on; end = e; leads = reach_on M (M.target r) b e (rs, w.1) l; final = f } in
        (in_keep (λ q. useful M (M.target q)) w.0 ((useful_is M bound (M.target r)).1 u), kept_walk s st (M.target r) on rs b w.1 e l f)

    -- the start of a useful state is kept
    pub kept_start : (n : ℕ) (u : Useful M n) → Kept M u.start
    kept_start n u = record {
      is_useful = (useful_is M bound u.start).1 (record {
        start = u.start;
        starts = u.starts;
        reached = ([], refl);
        end = u.end;
        leads = reach_on M u.start n u.end u.reached u.leads;
        final = u.final;
      });
      is_state = bound.start_below u.start u.starts;
    }

    -- the new number of a useful state is a useful state of the trimmed machine
    pub number_useful : (n : ℕ) → Kept M n → Useful (machine_of (trimmed M)) (number M n)
    number_useful n k =
        let u = (useful_is M bound n).0 k.is_useful in
        let ks = kept_start n u in
        let before-it = kept_walk u.start u.starts u.start ([], refl) u.reached.0 n u.reached.1 u.end u.leads u.final in
        let after_it = kept_walk u.start u.starts n u.reached u.leads.0 u.end u.leads.1 u.end ([], refl) u.final in
        let ke = kept_end bound n k u.leads.0 u.end after_it u.leads.1 in
        record {
          start = number M u.start;
          starts = start_new u.start u.starts ks.is_useful;
          reached = reach_new bound u.start ks u.reached.0 n before-it u.reached.1;
          end = number M u.end;
          leads = reach_new bound n k u.leads.0 u.end after_it u.leads.1;
          final = trimmed_final M u.end ke ∙ u.final;
        }

    pub trimmed_useful : (k : ℕ) → k < state_count (trimmed M) → Useful (machine_of (trimmed M)) k
    trimmed_useful k h = let p = trimmed_numbered k h in subst (Useful (machine_of (trimmed M))) p.is (number_useful p.old p.kept)

    pub trimmed_found : (k : ℕ) → k < state_count (trimmed M) → useful (machine_of (trimmed M)) k ≡ true
    trimmed_found k h = (useful_is (machine_of (trimmed M)) (trimmed_bounded M bound) k).1 (trimmed_useful k h)
