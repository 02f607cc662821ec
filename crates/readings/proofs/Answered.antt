-- What the next call answers in a world of a list, and which states are expanded there, by the calls made.
use mathlib.Core.Path.{◌≡◌, refl, sym, ◌∙◌, ap, subst}
use mathlib.Core.List.{List, [], ◌∷◌, append-nil}
use mathlib.Core.Logic.{◌⊎◌, inl, inr, ⊎_elim, ◌↔◌}
use Prim.Native.Nat.{ℕ, ◌+◌, ◌≤◌, ◌<◌}
use native.Mathlib.Omega.{arith}
use native.Mathlib.Decide.{dec_lt}
use Rattle.words.specs.Labels.{Checked, good, refused}
use Rattle.words.specs.Steps.{Composition}
use Rattle.words.specs.Settings.{Lent}
use Rattle.words.proofs.CheckedLaws.{good≢refused}
use Rattle.calls.specs.Store.{Part}
use Rattle.calls.specs.Calls.{Outcome}
use Rattle.calls.specs.Sequences.{World, Call, opening, expand, final_weight, records, run, call_of, after, after_with, call_with}
use Rattle.calls.proofs.ExpandCases.{expand_late}
use Rattle.readings.specs.Worlds.{world_of, expand_in, run_in, Accepted, OpeningsRefused, UsedState, Expanded}
use Rattle.readings.specs.Answers.{PassesBefore, ExpandedBy, by_expand, by-run, Answers}
use Rattle.readings.proofs.Grows.{KeptWorld}
use Rattle.readings.proofs.CallsKept.{expand_lists, expand_only, expand_numbers, final_numbers, final_late, final_stays, final_is, handed_or_none}
use Rattle.readings.proofs.Pieces.{Ran, run_onto}
use Rattle.readings.proofs.CallLists.{open_stays, one_call, calls_onto, after_append}
use Rattle.readings.proofs.Decided.{decides}

module _ (l : Lent) (c : Composition) where
  -- 9 just where a state is not found
  late : (w : World) → KeptWorld l c w → (n : ℕ) → (UsedState w n → ⊥) → (expand_in l w n).answer ≡ refused 9
  late w h n unused = ap (λ (o : Outcome Part). o.answer) (expand_late l w.session w.memory c h.sound.enters n (omega arith))

  pub answers : (w : World) → KeptWorld l c w → Answers l c w
  answers w h = record {
    expand-nine = λ n. (λ e i. let r = expand_numbers l c w h n i 9 e in omega (arith, r.0), late w h n);
    final-nine = λ n. (λ e i. let r = final_numbers l c w h n i 9 e in omega (arith, r), λ unused. final_late l c w h n (omega arith));
    expands = λ n i x. decides l c w h n i x;
    finals = final_is l c w h;
    hands_none = λ n x. ⊎_elim (λ y. absurd (x y)) (λ y. y) (handed_or_none l c w h n);
    runs = (run_onto l c w h).is;
  }

  -- a run that passes n does not stop before it
  passed : (w : World) → KeptWorld l c w → (n : ℕ) → PassesBefore l w (n + 1) → (r : Ran l c w) → n < r.is.stop
  passed w h n p r = go (dec_lt n r.is.stop) (run_in l w).answer refl
    where
      -- the expansion at which it stopped was refused
      stopped : (k : ℕ) → r.is.stop ≤ n → (expand_in l (world_of (run_in l w)) r.is.stop).answer ≡ refused k → ⊥
      stopped k i e =
          let a = subst (λ (v : World). Accepted (expand_in l v r.is.stop)) (sym r.is.leaves) (p r.is.stop (omega (arith, i))) in
          good≢refused (sym a.1 ∙ e)

      go : Dec (n < r.is.stop) → (a : Checked (Unit {0})) → (run_in l w).answer ≡ a → n < r.is.stop
      go (yes i) a e = i
      go (no i) (good u) e =
          let z = r.is.ends (u, e) in
          absurd (stopped 9 (omega arith) (late (world_of (run_in l w)) r.onto.kept r.is.stop (λ b. omega (arith, z, b))))
      go (no i) (refused k) e = absurd (stopped k (omega arith) (r.is.stops k e).1)

  -- a state that one call expands: by the first of a list
  one_expands : (w : World) → KeptWorld l c w → (x : Call) (cs : List Call) → OpeningsRefused l w (x ∷ cs) → (n : ℕ) → Expanded (call_of l w x).world n → Expanded w n ⊎ ExpandedBy l w (x ∷ cs) n
  unfolding call_with after_with
  one_expands w h (opening s k) cs o n x = inl (subst (λ (v : World). Expanded v n) (open_stays s k w o.0) x)
  one_expands w h (expand m) cs o n x =
      ⊎_elim inl
      (λ z. inr (by_expand [] cs (ap (λ (j : ℕ). expand j ∷ cs) z.0) (subst (λ j. Accepted (expand_in l w j)) (sym z.0) z.1)))
      (expand_only l c w h m n x)
  one_expands w h (final_weight m) cs o n x = inl (subst (λ (v : World). Expanded v n) (final_stays l c w m) x)
  one_expands w h (records m) cs o n x = inl x
  one_expands w h run cs o n x =
      let r = run_onto l c w h in
      ⊎_elim inl (λ z. inr (by-run [] cs refl (λ k i. r.is.passes k (omega (arith, z, i))))) (r.only n x)

  -- and by a later one
  later_expands : (w : World) (x : Call) (cs : List Call) (n : ℕ) → ExpandedBy l (call_of l w x).world cs n → ExpandedBy l w (x ∷ cs) n
  unfolding after_with
  later_expands w x cs n (by_expand before later e a) = by_expand (x ∷ before) later (ap (λ (y : List Call). x ∷ y) e) a
  later_expands w x cs n (by-run before later e a) = by-run (x ∷ before) later (ap (λ (y : List Call). x ∷ y) e) a

  was_expanded : (cs : List Call) (w : World) → KeptWorld l c w → OpeningsRefused l w cs → (n : ℕ) → Expanded (after l w cs) n → Expanded w n ⊎ ExpandedBy l w cs n
  unfolding after_with
  was_expanded [] w h o n x = inl x
  was_expanded (y ∷ cs) w h o n x =
      let a = one_call l c w y cs h o in
      ⊎_elim (one_expands w h y cs o n) (λ z. inr (later_expands w y cs n z)) (was_expanded cs (call_of l w y).world a.0.kept a.1 n x)

  -- what a call expanded stays expanded
  is_expanded : (w : World) (cs : List Call) → KeptWorld l c w → OpeningsRefused l w cs → (n : ℕ) → ExpandedBy l w cs n → Expanded (after l w cs) n
  unfolding after_with call_with
  is_expanded w cs h o n (by_expand before later e a) =
      let p = calls_onto l c w before (expand n ∷ later) h (subst (OpeningsRefused l w) (sym e) o) in
      let v = after l w before in
      let q = calls_onto l c (world_of (expand_in l v n)) later [] (one_call l c v (expand n) later p.0.kept p.1).0.kept (subst (OpeningsRefused l (world_of (expand_in l v n))) (sym (append-nil later)) p.1) in
      subst (λ (u : World). Expanded u n) (after_append l w before (expand n ∷ later) ∙ ap (after l w) e) (q.0.grows.expanded n (expand_lists l c v p.0.kept n a.0 a.1).0)
  is_expanded w cs h o n (by-run before later e a) =
      let p = calls_onto l c w before (run ∷ later) h (subst (OpeningsRefused l w) (sym e) o) in
      let v = after l w before in
      let r = run_onto l c v p.0.kept in
      let q = calls_onto l c (world_of (run_in l v)) later [] (one_call l c v run later p.0.kept p.1).0.kept (subst (OpeningsRefused l (world_of (run_in l v))) (sym (append-nil later)) p.1) in
      subst (λ (u : World). Expanded u n) (after_append l w before (run ∷ later) ∙ ap (after l w) e) (q.0.grows.expanded n (r.expanded n (passed v p.0.kept n a r)))

  -- the record says what the calls made say, where no state was expanded before them
  pub expanded_by : (w : World) (cs : List Call) → KeptWorld l c w → ((n : ℕ) → Expanded w n → ⊥) → OpeningsRefused l w cs → (n : ℕ) → Expanded (after l w cs) n ↔ ExpandedBy l w cs n
  expanded_by w cs h none o n = (λ x. ⊎_elim (λ z. absurd (none n z)) (λ z. z) (was_expanded cs w h o n x), is_expanded w cs h o n)
