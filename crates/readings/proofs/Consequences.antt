-- What the claim says of single calls, from the claim alone: an accepted expansion leaves the list that it answered and expands no other state; a run expands
-- just the states that it passes; an opening expands none.
use mathlib.Core.Path.{◌≡◌, refl, sym, ◌∙◌, ap, ap₂, subst}
use mathlib.Core.Bool.{true≢false}
use mathlib.Core.List.Memᴰ.{head as here}
use mathlib.Core.List.Memᴰ.{tail as there}
use mathlib.Core.List.{List, [], ◌∷◌, ◌++◌, Memᴰ as In, append-nil, append_assoc, nil≢cons, head-eq_of_cons-eq, tail-eq_of_cons-eq}
use mathlib.Core.Logic.{◌⊎◌, inl, inr, ⊎_elim}
use Prim.Native.Nat.{ℕ, ◌+◌, ◌<◌}
use native.Mathlib.Omega.{arith}
use native.Mathlib.Decide.{dec_lt}
use Rattle.words.specs.Labels.{Checked, good, refused}
use Rattle.words.specs.Steps.{Composition}
use Rattle.words.specs.Settings.{Settings, Lent}
use Rattle.words.proofs.CheckedLaws.{good≢refused}
use Rattle.calls.specs.Store.{Memory, Part}
use Rattle.calls.specs.Checks.{Session}
use Rattle.calls.specs.Calls.{Outcome}
use Rattle.calls.specs.Sequences.{World, Call, opening, expand, final_weight, records, run, part, Reply, answered, said_of, turn_of, call_of, replies, after, after_with, call_with, replies_with}
use Rattle.readings.specs.Worlds.{world_of, expand_in, run_in, Accepted, OpeningsRefused, UsedState, Expanded, part_in}
use Rattle.readings.specs.Answers.{PassesBefore, ExpandedBy, by_expand, by-run, RunIs}
use Rattle.readings.specs.Again.{Again, reply_after, GivesAgain}
use Rattle.readings.specs.Larger.{NoRoom, SameUntil}
use Rattle.readings.specs.Demands.{Demand3}
use Rattle.readings.proofs.CallLists.{after_append, openings_append}

-- one more call, which is no opening
abbrev NoOpening : Call → Type 0
NoOpening (opening s k) = ⊥
NoOpening (expand n) = Unit {0}
NoOpening (final_weight n) = Unit {0}
NoOpening (records n) = Unit {0}
NoOpening run = Unit {0}

no_more : (l : Lent) (w : World) (x : Call) → NoOpening x → OpeningsRefused l w (x ∷ [])
no_more l w (opening s k) h = absurd h
no_more l w (expand n) h = tt
no_more l w (final_weight n) h = tt
no_more l w (records n) h = tt
no_more l w run h = tt

openings_on : (l : Lent) (w : World) (cs : List Call) (x : Call) → OpeningsRefused l w cs → NoOpening x → OpeningsRefused l w (cs ++ (x ∷ []))
openings_on l w cs x r h = (openings_append l w cs (x ∷ [])).1 (r, no_more l (after l w cs) x h)

-- the world after one more call
after_one : (l : Lent) (w : World) (cs : List Call) (x : Call) → after l w (cs ++ (x ∷ [])) ≡ (call_of l (after l w cs) x).world
unfolding after_with
after_one l w cs x = sym (after_append l w cs (x ∷ []))

-- replies that say parts, and expansions, that are equal
part_said : {p q : Part} {s t : Session} → answered (part p) s ≡ answered (part q) t → p ≡ q
part_said e = cc

number_of : {j n : ℕ} → expand j ≡ expand n → j ≡ n
number_of e = cc

run_is_none : {n : ℕ} → run ≡ expand n → ⊥
run_is_none e = true≢false cc

-- a call of a longer list is one of the first, or the last
last_or_not : (before later cs : List Call) (y x : Call) → before ++ (y ∷ later) ≡ cs ++ (x ∷ [])
    → ((rest : List Call) × (before ++ (y ∷ rest) ≡ cs)) ⊎ ((before ≡ cs) × (y ≡ x))
last_or_not [] later [] y x e = inr (refl, head-eq_of_cons-eq e)
last_or_not [] later (z ∷ cs) y x e = inl (cs, ap (λ (u : Call). u ∷ cs) (head-eq_of_cons-eq e))
last_or_not (b ∷ before) later [] y x e = absurd (no_split before y later (tail-eq_of_cons-eq e))
  where
    no_split : (before : List Call) (y : Call) (later : List Call) → before ++ (y ∷ later) ≡ [] → ⊥
    no_split [] y later e = nil≢cons (sym e)
    no_split (b ∷ before) y later e = nil≢cons (sym e)
last_or_not (b ∷ before) later (z ∷ cs) y x e =
    let h = head-eq_of_cons-eq e in
    ⊎_elim
    (λ r. inl (r.0, ap₂ (λ (u : Call) (v : List Call). u ∷ v) h r.1))
    (λ r. inr (ap₂ (λ (u : Call) (v : List Call). u ∷ v) h r.0, r.1))
    (last_or_not before later cs y x (tail-eq_of_cons-eq e))

-- A run refused by k at a state, a found one: those before it are expanded, and no others by this run; its expansion is refused by k.
pub record Stops (l : Lent) (w : World) (k : ℕ) : Type 0 where
  pub at : ℕ
  pub found : UsedState (world_of (run_in l w)) at
  pub before : (j : ℕ) → j < at → Expanded (world_of (run_in l w)) j
  pub only : (j : ℕ) → Expanded (world_of (run_in l w)) j → (j < at) ⊎ Expanded w j
  pub refuses : (expand_in l (world_of (run_in l w)) at).answer ≡ refused k

-- What single calls leave, in a world of a list.
pub record CallLeaves (l : Lent) (w : World) : Type 0 where
  -- an accepted expansion: the state is expanded, and its list is the one that was answered
  pub expands : (n : ℕ) (p : Part) → (expand_in l w n).answer ≡ good p → Expanded (world_of (expand_in l w n)) n × (part_in (world_of (expand_in l w n)) n ≡ p)
  -- and no other state is expanded by it
  pub only : (n j : ℕ) → Expanded (world_of (expand_in l w n)) j → Expanded w j ⊎ ((j ≡ n) × Accepted (expand_in l w n))
  -- an accepted run: every found state is expanded
  pub runs : Accepted (run_in l w) → (n : ℕ) → UsedState (world_of (run_in l w)) n → Expanded (world_of (run_in l w)) n
  -- a refused one
  pub stops : (k : ℕ) → (run_in l w).answer ≡ refused k → Stops l w k

-- the claim after one opening
module _ (s : Settings) (l : Lent) (m : Memory) (c : Composition) (w : World) (D : (cs : List Call) → OpeningsRefused l w cs → Demand3 s l m c w cs) where
  -- no state is expanded by the opening
  pub unexpanded : (n : ℕ) → Expanded w n → ⊥
  unfolding after_with
  unexpanded n x = go (((D [] tt).expanded [] [] refl n).0 x)
    where
      none : (before later : List Call) (y : Call) → before ++ (y ∷ later) ≡ [] → ⊥
      none [] later y e = nil≢cons (sym e)
      none (b ∷ before) later y e = nil≢cons (sym e)

      go : ExpandedBy l w [] n → ⊥
      go (by_expand before later e a) = none before later (expand n) e
      go (by-run before later e a) = none before later run e

  module _ (cs : List Call) (r : OpeningsRefused l w cs) where
    abbrev v : World
    v = after l w cs

    -- a state is expanded after one more call just where the calls made say so
    after_it : (x : Call) → NoOpening x → (n : ℕ) → ExpandedBy l w (cs ++ (x ∷ [])) n → Expanded (call_of l v x).world n
    after_it x h n b = subst (λ (u : World). Expanded u n) (after_one l w cs x) (((D (cs ++ (x ∷ [])) (openings_on l w cs x r h)).expanded (cs ++ (x ∷ [])) [] (append-nil _) n).1 b)

    by_calls : (x : Call) → NoOpening x → (n : ℕ) → Expanded (call_of l v x).world n → ExpandedBy l w (cs ++ (x ∷ [])) n
    by_calls x h n b = ((D (cs ++ (x ∷ [])) (openings_on l w cs x r h)).expanded (cs ++ (x ∷ [])) [] (append-nil _) n).0 (subst (λ (u : World). Expanded u n) (sym (after_one l w cs x)) b)

    earlier : (n : ℕ) → ExpandedBy l w cs n → Expanded v n
    earlier n b = ((D cs r).expanded cs [] (append-nil cs) n).1 b

    ran : RunIs l v
    ran = ((D cs r).answers cs [] (append-nil cs)).runs

    -- the list that the expansion answered is the one that is stored
    part_kept : (n : ℕ) (p : Part) → (expand_in l v n).answer ≡ good p → Expanded (world_of (expand_in l v n)) n → part_in (world_of (expand_in l v n)) n ≡ p
    unfolding call_with
    part_kept n p e x =
        let twice = openings_on l w (cs ++ (expand n ∷ [])) (expand n) (openings_on l w cs (expand n) r tt) tt in
        let both : OpeningsRefused l w (cs ++ (expand n ∷ expand n ∷ [])) = subst (OpeningsRefused l w) (append_assoc cs (expand n ∷ []) (expand n ∷ [])) twice in
        let first : reply_after l w cs (expand n) ≡ answered (part p) (expand_in l v n).session = ap (λ (q : Checked Part). answered (said_of part q) (expand_in l v n).session) e in
        let g = subst (λ q. GivesAgain q (reply_after l w (cs ++ (expand n ∷ [])) (expand n))) first ((D _ both).given cs [] [] (expand n) refl) in
        let u = world_of (expand_in l v n) in
        let once = cs ++ (expand n ∷ []) in
        let stays : Again l (after l w once) (after l w once) =
        subst (λ (z : List Call). Again l (after l w once) (after l w z)) (append-nil once) ((D once (openings_on l w cs (expand n) r tt)).again once [] [] (append-nil once)) in
        let a = subst (λ (y : World). Again l y y) (after_one l w cs (expand n)) stays in
        let second : answered (part (part_in u n)) u.session ≡ answered (part p) g.0 =
        sym (ap (λ (y : World). (turn_of part (expand_in l y n)).reply) (after_one l w cs (expand n)) ∙ ap (λ (o : Outcome Part). (turn_of part o).reply) (a.list n x)) ∙ g.1 in
        part_said second

    pub leaves : CallLeaves l v
    unfolding call_with
    leaves = record {
      expands = λ n p e. let x = after_it (expand n) tt n (by_expand cs [] refl (p, e)) in (x, part_kept n p e x);
      only = λ n j x. by_last n j (by_calls (expand n) tt j x);
      runs = λ a n i. passed n (omega (arith, i, ran.ends a));
      stops = λ k e.
          let q = ran.stops k e in
          record { at = ran.stop; found = q.0; before = λ j i. passed j i; only = λ j x. in_run k q.1 j (by_calls run tt j x); refuses = q.1 };
    }
      where
        passed : (n : ℕ) → n < ran.stop → Expanded (world_of (run_in l v)) n
        passed n i = after_it run tt n (by-run cs [] refl (λ k h. ran.passes k (omega (arith, h, i))))

        by_last : (n j : ℕ) → ExpandedBy l w (cs ++ (expand n ∷ [])) j → Expanded v j ⊎ ((j ≡ n) × Accepted (expand_in l v n))
        by_last n j (by_expand before later e a) =
            ⊎_elim (λ z. inl (earlier j (by_expand before z.0 z.1 a)))
            (λ z.
            let same : j ≡ n = number_of z.1 in
            inr (same, subst (λ i. Accepted (expand_in l v i)) same (subst (λ (y : List Call). Accepted (expand_in l (after l w y) j)) z.0 a)))
            (last_or_not before later cs (expand j) (expand n) e)
        by_last n j (by-run before later e a) =
            ⊎_elim (λ z. inl (earlier j (by-run before z.0 z.1 a))) (λ z. absurd (run_is_none z.1)) (last_or_not before later cs run (expand n) e)

        in_run : (k : ℕ) → (expand_in l (world_of (run_in l v)) ran.stop).answer ≡ refused k → (j : ℕ) → ExpandedBy l w (cs ++ (run ∷ [])) j → (j < ran.stop) ⊎ Expanded v j
        in_run k q j (by_expand before later e a) =
            ⊎_elim (λ z. inr (earlier j (by_expand before z.0 z.1 a))) (λ z. absurd (run_is_none (sym z.1))) (last_or_not before later cs (expand j) run e)
        in_run k q j (by-run before later e a) =
            ⊎_elim (λ z. inr (earlier j (by-run before z.0 z.1 a))) (λ z. inl (go (dec_lt j ran.stop) (subst (λ (y : List Call). PassesBefore l (after l w y) (j + 1)) z.0 a)))
            (last_or_not before later cs run run e)
          where
            go : Dec (j < ran.stop) → PassesBefore l v (j + 1) → j < ran.stop
            go (yes i) p = i
            go (no i) p =
                let x = subst (λ (y : World). Accepted (expand_in l y ran.stop)) (sym ran.leaves) (p ran.stop (omega arith)) in
                absurd (good≢refused (sym x.1 ∙ q))

-- 3b at one point of a list: where none of the replies before it was a no-room refusal, a call is answered the same in the larger memory, or refused by 13 in the smaller
pub same_reply : (l : Lent) (w v : World) (cs : List Call) (x : Call) → SameUntil (replies l w (cs ++ (x ∷ []))) (replies l v (cs ++ (x ∷ [])))
    → ((r : Reply) → In r (replies l w cs) → NoRoom r → ⊥) → NoRoom (reply_after l w cs x) ⊎ (reply_after l w cs x ≡ reply_after l v cs x)
unfolding replies_with after_with
same_reply l w v [] x same none = ⊎_elim inl (λ e. inr e.0) same
same_reply l w v (y ∷ cs) x same none =
    ⊎_elim (λ e. absurd (none (call_of l w y).reply (here refl) e)) (λ e. same_reply l (call_of l w y).world (call_of l v y).world cs x e.1 (λ r i. none r (there i))) same
