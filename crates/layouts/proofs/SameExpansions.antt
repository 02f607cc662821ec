-- An expansion and a run in both layouts, where the checks 1 to 8 pass in both: the same, or refused by 13 in the old one alone.
use mathlib.Core.Path.{◌≡◌, sym, ◌∙◌, ap, subst}
use mathlib.Core.List.{List}
use mathlib.Core.Logic.{◌⊎◌, inl, inr, ◌≢◌}
use Prim.Native.Nat.{ℕ, ◌+◌, ◌≤◌, ◌<◌}
use native.Mathlib.Omega.{arith}
use native.Mathlib.Decide.{ℕ_discrete, dec_lt}
use lib.Dec.{eqb}
use lib.ListN.{length}
use borrow.Author.Tests.{eq-eqb, ne_eqb, le-leb, lt-leb}
use Rattle.lists.proofs.Put.{length_put}
use Rattle.words.specs.Labels.{Checked, good, refused}
use Rattle.words.specs.Machines.{state_count}
use Rattle.words.specs.Steps.{Composition, Triple, Step, steps_at}
use Rattle.words.specs.Settings.{Lent}
use Rattle.calls.specs.Store.{Memory, Store, triple_at, expanded_at, mark, Part, part_at, mark_with}
use Rattle.calls.specs.Checks.{Session, store_of, entered, entered_at_with, entered_with}
use Rattle.calls.specs.Calls.{Outcome, settle, store_steps, new_part, expand_of, expand_by_with, expand_with, expansion_with, store_steps_with}
use Rattle.calls.proofs.StepsKept.{longer}
use Rattle.calls.proofs.StepsStay.{steps_stay}
use Rattle.calls.proofs.ExpandKept.{Entered, entered_is, steps_range, expand_kept}
use Rattle.calls.proofs.Parts.{new_low}
use Rattle.calls.proofs.ExpandCases.{stayed, expand_late, expand_old, expand_stopped, expand_stored}
use Rattle.layouts.specs.Layout.{five}
use Rattle.layouts.specs.SameRecords.{Small}
use Rattle.layouts.proofs.SameStores.{beside, state_two, part_two, mark_two}
use Rattle.layouts.proofs.SameSteps.{Wide, Both, Steps2, steps_two}
use Rattle.layouts.proofs.SameChecks.{Pair, Low, enters_old}

-- the checks 1 to 8 pass in both
pub record Ready (K J : ℕ) (l : Lent) (c : Composition) (s : Session) (o m : Memory) : Type 0 where
  pub enters : entered l s m ≡ good c
  pub pair : Pair K J o m s.used
  pub low : Low s.used

-- what an expansion leaves in both: 13 in the old one alone, one refusal, or one part and a pair that is ready again
abbrev pub Expand2 : ℕ → ℕ → Lent → Composition → Session → Memory → Memory → Outcome Part → Outcome Part → Type 0
Expand2 K J l c s o m x y =
    ((x ≡ stayed s o (refused 13)) × Wide K J)
    ⊎ (((k : ℕ) × (x ≡ stayed s o (refused k)) × (y ≡ stayed s m (refused k)))
    ⊎ ((p : Part) × (t : Session) × (o' : Memory) × (m' : Memory) × (x ≡ stayed t o' (good p)) × (y ≡ stayed t m' (good p)) × Ready K J l c t o' m'))

module _ {K J : ℕ} (l : Lent) (small : Small l) (c : Composition) where
  module _ (s : Session) (o m : Memory) (h : Ready K J l c s o m) (n : ℕ) where
    abbrev d : Store
    d = store_of s m

    abbrev S1 : ℕ
    S1 = state_count l.m1

    abbrev S2 : ℕ
    S2 = state_count l.m2

    abbrev steps : List (Checked Step)
    steps = steps_at c (triple_at m.states n)

    checks : Entered l s m c
    checks = entered_is l s m c h.enters

    old : entered_with five l s o ≡ good c
    old = enters_old l small s o m h.pair c h.enters h.low

    abbrev Goal : Type 0
    Goal = Expand2 K J l c s o m (expand_with five l s o n) (expand_of l s m n)

    late : s.used.states ≤ n → Goal
    unfolding expand_with entered_at_with
    late i = inr (inl (9, rw (old, le-leb _ _ i), expand_late l s m c h.enters n i))

    module _ (found : n < s.used.states) where
      -- an expansion in the old layout, behind its checks
      old_expand : expand_with five l s o n ≡ settle s o (expand_by_with five c s o n (eqb (expanded_at m.states n) 1))
      unfolding expand_with entered_at_with
      old_expand = rw (old, lt-leb _ _ found, (state_two o d h.pair.same checks.form n found).expanded)

      again : expanded_at m.states n ≡ 1 → Goal
      again x =
          let p = part_two o d h.pair.same checks.form n found in
          inr (inr (part_at d n, s, o, m, old_expand ∙ (rw (eq-eqb _ _ x) (ap (λ q. stayed s o (good q)) p)), expand_old l s m c h.enters n found x, h))

      module _ (bare : expanded_at m.states n ≢ 1) where
        abbrev last : ℕ
        last = s.used.trs + length steps

        both : Both S1 S2 K J last o d
        both = record {
          form = longer d last checks.form (omega arith);
          same = h.pair.same;
          states = h.pair.states;
          trs = h.pair.trs;
          low_states = h.low.0;
          low_trs = h.low.1;
          any = omega (arith, found);
        }

        -- the old steps are those of the same triple
        old_steps : (x : Checked Store) → store_steps_with five (store_of s o) steps ≡ x → store_steps_with five (store_of s o) (steps_at c (five.triple_at o.states n)) ≡ x
        old_steps x = subst (λ (t : Triple). store_steps_with five (store_of s o) (steps_at c t) ≡ x) (sym (state_two o d h.pair.same checks.form n found).triple)

        old_stopped : (k : ℕ) → store_steps_with five (store_of s o) steps ≡ refused k → expand_with five l s o n ≡ stayed s o (refused k)
        unfolding expansion_with
        old_stopped k e = old_expand ∙ rw (ne_eqb _ _ bare, old_steps (refused k) e)

        goes : (o' : Memory) (e : Store) → store_steps_with five (store_of s o) steps ≡ good (beside o' e) → store_steps d steps ≡ good e → Both S1 S2 K J last o' e → Goal
        unfolding expansion_with mark_with
        goes o' e x y b =
            let more = steps_stay d steps e y in
            let p = new_part s.used e.used in
            let q = expand_stored l s m c h.enters n found bare e y in
            let r = mark_two o' e b.same b.form n p.first (omega (arith, found, more.states)) (new_low s.used e.used more.trs) in
            inr (inr (
              p,
              record { settings = s.settings; side = s.side; used = e.used },
              (mark_with five (beside o' e) n p.first).memory,
              (mark e n p.first).memory,
              old_expand ∙ rw (ne_eqb _ _ bare, old_steps (good (beside o' e)) x),
              q,
              record {
                enters = subst (λ (u : Outcome Part). entered l u.session u.memory ≡ good c) q (expand_kept l s m n c p h.enters (ap (λ (u : Outcome Part). u.answer) q));
                pair = record { same = r; states = simp length_put b.states; trs = b.trs };
                low = (b.low_states, b.low_trs);
              },
            ))

        new : Goal
        new = go (steps_two small.1.0 last steps o d both (steps_range l s m c h.enters n found) (omega arith))
          where
            go : Steps2 S1 S2 K J last (store_steps_with five (store_of s o) steps) (store_steps d steps) → Goal
            go (inl (x, w)) = inl (old_stopped 13 x, w)
            go (inr (inl (k, x, y))) = inr (inl (k, old_stopped k x, expand_stopped l s m c h.enters n found bare k y))
            go (inr (inr (o', e, x, y, b))) = goes o' e x y b

    pub expand_ready : Goal
    expand_ready = go (dec_lt n s.used.states) (ℕ_discrete (expanded_at m.states n) 1)
      where
        go : Dec (n < s.used.states) → Dec (expanded_at m.states n ≡ 1) → Goal
        go (no i) x = late (omega arith)
        go (yes i) (yes x) = again i x
        go (yes i) (no x) = new i x
