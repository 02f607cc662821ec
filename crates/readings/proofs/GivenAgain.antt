-- 3a on the answers of one list: a call that is made twice gives the second time what it gave the first. After an accepted run nothing is left to expand, and no
-- call changes anything.
use mathlib.Core.Path.{◌≡◌, refl, sym, ◌∙◌, ap, subst}
use mathlib.Core.Bool.{Bool, true, false}
use mathlib.Core.List.{List, [], ◌∷◌, ◌++◌, nil≢cons}
use mathlib.Core.Logic.{⊎_elim}
use Rattle.std.specs.Prelude.{Option}
use Prim.Native.Nat.{ℕ, zero, suc}
use lib.Dec.{leb}
use borrow.Author.Tests.{leb-false}
use native.Mathlib.Omega.{arith}
use Rattle.words.specs.Labels.{Checked, good, refused}
use Rattle.words.specs.Steps.{Composition}
use Rattle.words.specs.Settings.{Settings, Lent}
use Rattle.calls.specs.Store.{Part}
use Rattle.calls.specs.Calls.{Outcome, onward, run_by, run_from, run_from_with, run_with}
use Rattle.calls.specs.Sequences.{World, Call, opening, expand, final_weight, records, run, accepted, part, weight, Reply, answered, handed, said_of, turn_of, call_of, after, after_with, call_with}
use Rattle.calls.proofs.ExpandCases.{stayed, by_expand}
use Rattle.readings.specs.Worlds.{world_of, open_in, expand_in, final_in, run_in, handed_in, Refused, OpeningsRefused, UsedState, Expanded}
use Rattle.readings.specs.Again.{Again, GivesAgain}
use Rattle.readings.proofs.Grows.{KeptWorld, grows_none}
use Rattle.readings.proofs.CallsKept.{Onto, expand_again, expand_lists, final_stays, handed_or_none, again_onto}
use Rattle.readings.proofs.Pieces.{run_onto}
use Rattle.readings.proofs.CallLists.{open_stays, one_call, calls_onto}

module _ (l : Lent) (c : Composition) where
  -- nothing is left to expand
  abbrev AllExpanded : World → Type 0
  AllExpanded w = (n : ℕ) → UsedState w n → Expanded w n

  module _ (w : World) (k : KeptWorld l c w) (all : AllExpanded w) where
    expand_idle : (n : ℕ) → world_of (expand_in l w n) ≡ w
    expand_idle n =
        by_expand l w.session w.memory c k.sound.enters n (λ o. world_of o ≡ w) (λ h. refl) (λ h x. refl) (λ h b j e. refl) (λ h b d g. absurd (b (all n h).1))

    run_idle_from : (j n : ℕ) → run_from l j n w.session w.memory ≡ stayed w.session w.memory (good tt)
    unfolding run_from_with
    run_idle_from zero n = refl
    run_idle_from (suc j) n = go (leb w.session.used.states n) refl (run_idle_from j (suc n))
      where
        go : (b : Bool) → leb w.session.used.states n ≡ b → run_from l j (suc n) w.session w.memory ≡ stayed w.session w.memory (good tt)
            → run_by b w.session w.memory (expand_in l w n) (run_from l j (suc n)) ≡ stayed w.session w.memory (good tt)
        go true e rec = refl
        go false e rec =
            ap (λ (o : Outcome Part). onward o.answer o.session o.memory (run_from l j (suc n))) (expand_again l c w k n (all n (leb-false _ _ e))) ∙ rec

    pub run_idle : run_in l w ≡ stayed w.session w.memory (good tt)
    unfolding run_with
    run_idle = rw k.sound.enters (run_idle_from _ 0)

    call_idle : (x : Call) (cs : List Call) → OpeningsRefused l w (x ∷ cs) → (call_of l w x).world ≡ w
    unfolding call_with
    call_idle (opening s h) cs r = open_stays s h w r.0
    call_idle (expand n) cs r = expand_idle n
    call_idle (final_weight n) cs r = final_stays l c w n
    call_idle (records n) cs r = refl
    call_idle run cs r = ap world_of run_idle

  -- so the world stays, whatever is called
  calls_idle : (cs later : List Call) (w : World) → KeptWorld l c w → AllExpanded w → OpeningsRefused l w (cs ++ later) → after l w cs ≡ w
  unfolding after_with
  calls_idle [] later w k all r = refl
  calls_idle (x ∷ cs) later w k all r =
      let e = call_idle w k all x (cs ++ later) r in
      ap (λ v. after l v cs) e ∙ calls_idle cs later w k all (subst (λ v. OpeningsRefused l v (cs ++ later)) e (one_call l c w x (cs ++ later) k r).1)

  -- words are handed back for expanded states alone
  handed_expanded : (w : World) → KeptWorld l c w → (n : ℕ) (x : ℕ) (xs : List ℕ) → handed_in l w n ≡ x ∷ xs → Expanded w n
  handed_expanded w k n x xs e = ⊎_elim (λ y. y) (λ y. absurd (nil≢cons (sym y ∙ e))) (handed_or_none l c w k n)

  -- the second of two replies to one call
  module _ (w : World) (k : KeptWorld l c w) (middle later : List Call) where
    -- u is the world after the first call, v the one in which the second is made
    on : (x : Call) → OpeningsRefused l w (x ∷ (middle ++ later)) → let u = (call_of l w x).world in let v = after l u middle in KeptWorld l c u × Onto l c u v × Again l w v × Again l u v
    unfolding after_with
    on x r =
        let a = one_call l c w x (middle ++ later) k r in
        let b = calls_onto l c (call_of l w x).world middle later a.0.kept a.1 in
        let a' = calls_onto l c w (x ∷ middle) later k r in
        (a.0.kept, b.0, again_onto l c w _ k a'.0, again_onto l c _ _ a.0.kept b.0)

    opening_again : (s : Settings) (h : Lent) (v : Reply) → Refused (open_in s h w).answer → GivesAgain (turn_of (λ u. accepted) (open_in s h w)).reply v
    opening_again s h v = go (open_in s h w).answer
      where
        go : (a : Checked (Unit {0})) → Refused a → GivesAgain (answered (said_of (λ u. accepted) a) (open_in s h w).session) v
        go (good u) r = absurd r
        go (refused j) r = tt

    expand_twice : (n : ℕ) → let u = world_of (expand_in l w n) in (v : World) → Again l u v → GivesAgain (turn_of part (expand_in l w n)).reply (turn_of part (expand_in l v n)).reply
    expand_twice n v a = go (expand_in l w n).answer refl
      where
        go : (q : Checked Part) → (expand_in l w n).answer ≡ q → GivesAgain (answered (said_of part q) (expand_in l w n).session) (turn_of part (expand_in l v n)).reply
        go (refused j) e = tt
        go (good p) e =
            let x = expand_lists l c w k n p e in
            (v.session, ap (λ (o : Outcome Part). (turn_of part o).reply) (a.list n x.0) ∙ ap (λ (q : Part). answered (part q) v.session) x.1)

    final_twice : (n : ℕ) (v : World) → Again l w v → GivesAgain (turn_of weight (final_in l w n)).reply (turn_of weight (final_in l v n)).reply
    final_twice n v a = go (final_in l w n).answer refl
      where
        go : (q : Checked (Option ℕ)) → (final_in l w n).answer ≡ q → GivesAgain (answered (said_of weight q) (final_in l w n).session) (turn_of weight (final_in l v n)).reply
        go (refused j) e = tt
        go (good x) e = ((final_in l v n).session, ap (λ (q : Checked (Option ℕ)). answered (said_of weight q) (final_in l v n).session) (a.weight n x e))

    records_twice : (n : ℕ) (v : World) → Again l w v → GivesAgain (handed (handed_in l w n)) (handed (handed_in l v n))
    records_twice n v a = go (handed_in l w n) refl
      where
        go : (ws : List ℕ) → handed_in l w n ≡ ws → GivesAgain (handed ws) (handed (handed_in l v n))
        go [] e = tt
        go (x ∷ xs) e =
            let y = handed_expanded w k n x xs e in
            ap handed (a.words n y ∙ sym ((again_onto l c w w k (record { kept = k; grows = grows_none w })).words n y) ∙ e)

    run_twice : OpeningsRefused l (world_of (run_in l w)) (middle ++ later) → GivesAgain (turn_of (λ u. accepted) (run_in l w)).reply (turn_of (λ u. accepted) (run_in l (after l (world_of (run_in l w)) middle))).reply
    run_twice r = go (run_in l w).answer refl
      where
        u : World
        u = world_of (run_in l w)

        go : (q : Checked (Unit {0})) → (run_in l w).answer ≡ q → GivesAgain (answered (said_of (λ u. accepted) q) (run_in l w).session) (turn_of (λ u. accepted) (run_in l (after l u middle))).reply
        go (refused j) e = tt
        go (good t) e =
            let x = run_onto l c w k in
            let all : AllExpanded u = λ n i. x.expanded n (omega (arith, i, x.is.ends (t, e))) in
            let same = calls_idle middle later u x.onto.kept all r in
            (u.session, ap (λ v. (turn_of (λ u. accepted) (run_in l v)).reply) same ∙ ap (λ (o : Outcome (Unit {0})). (turn_of (λ u. accepted) o).reply) (run_idle u x.onto.kept all))

    pub gives_again : (x : Call) → OpeningsRefused l w (x ∷ (middle ++ later)) → GivesAgain (call_of l w x).reply (call_of l (after l (call_of l w x).world middle) x).reply
    unfolding call_with
    gives_again (opening s h) r = opening_again s h _ r.0
    gives_again (expand n) r = expand_twice n _ (on (expand n) r).3
    gives_again (final_weight n) r = final_twice n _ (on (final_weight n) r).2
    gives_again (records n) r = records_twice n _ (on (records n) r).2
    gives_again run r = run_twice r
