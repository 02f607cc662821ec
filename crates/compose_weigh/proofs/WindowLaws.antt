-- A window of steps moves the weighing on by the new states that it needs, or lacks a record among them; and a step that the quick weighing passes.
use mathlib.Core.Path.{◌≡◌, refl, sym, ◌∙◌}
use mathlib.Core.Bool.{Bool, true, false, not, ◌&&◌, cond}
use mathlib.Core.List.{List, [], ◌∷◌}
use Prim.Native.Nat.{ℕ, zero, suc, ◌+◌, ◌-◌, ◌^◌, ◌≤◌, ◌<◌}
use native.Mathlib.Omega.{arith}
use native.Mathlib.Numerals.{add-one}
use lib.Dec.{ltb, leb}
use borrow.Author.Tests.{leb-true, leb-false, ltb-true, ltb-false, lt-leb, lt-ltb, le-ltb}
use Rattle.words.specs.Labels.{Checked, good, refused, refuse_if, and_then}
use Rattle.words.specs.Steps.{Step}
use Rattle.words.proofs.CheckedLaws.{good≢refused, good_is}
use Rattle.calls.specs.Store.{Store, tr_size, state_room, tr_room, find, tr_room_with}
use Rattle.calls.proofs.RecordLaws.{room_words}
use Rattle.compose_weigh.specs.Weigh.{reached_within, missing, is_new, count_state, weigh_from}
use Rattle.compose_weigh.specs.Windows.{new_within, Ahead}
use Rattle.compose_weigh.proofs.WeighLaws.{ahead_next, new_next}
use Rattle.compose_weigh.proofs.CountLaws.{one, but, new_same}

-- the weighing after n new states, where there are records for them
abbrev pub after_new : ℕ → ℕ → Checked (Unit {0}) → Checked (Unit {0})
after_new spare n rest = cond (ltb spare n) (refused 13) rest

pub ahead_more : (i k : ℕ) (all steps rest : List (Checked Step)) → Ahead i all steps → Ahead k steps rest → Ahead (i + k) all rest
ahead_more i zero all steps rest e f = let z : i + 0 ≡ i = omega arith in rw (z, ← f) e
ahead_more i (suc k) all [] rest e f = absurd f
ahead_more i (suc k) all (refused n ∷ steps) rest e f = absurd f
ahead_more i (suc k) all (good s ∷ steps) rest e f = let z : i + suc k ≡ suc i + k = omega arith in rw z (ahead_more (suc i) k all steps rest (ahead_next i all s steps e) f)

ltb_suc : (r u n : ℕ) → u < r → ltb (r - u) (1 + n) ≡ ltb (r - (u + 1)) n
ltb_suc r u n h = go (ltb (r - (u + 1)) n) refl
  where
    go : (b : Bool) → ltb (r - (u + 1)) n ≡ b → ltb (r - u) (1 + n) ≡ ltb (r - (u + 1)) n
    go true p = let l = ltb-true (r - (u + 1)) n p in lt-ltb (r - u) (1 + n) (omega (arith, l, h)) ∙ sym p
    go false p = let l = ltb-false (r - (u + 1)) n p in le-ltb (r - u) (1 + n) (omega (arith, l, h)) ∙ sym p

module _ (d : Store) (all : List (Checked Step)) where
  abbrev R : ℕ
  R = state_room d.memory

  -- one step of a window: it is new (b), and its record is there or not
  by_new : (b : Bool) (i u n j : ℕ) (others rest : List (Checked Step))
      → ((v : ℕ) → weigh_from d all (i + 1) v others ≡ after_new (R - v) n (weigh_from d all j (v + n) rest))
      → and_then (count_state b R u) (λ v. weigh_from d all (i + 1) v others) ≡ after_new (R - u) (one b + n) (weigh_from d all j (u + (one b + n)) rest)
  unfolding count_state
  by_new false i u n j others rest rec = let z : 0 + n ≡ n = omega arith in rw z (rec u)
  by_new true i u n j others rest rec = go (leb R u) refl
    where
      go : (b : Bool) → leb R u ≡ b → and_then (refuse_if b 13 (good (u + 1))) (λ v. weigh_from d all (i + 1) v others) ≡ after_new (R - u) (1 + n) (weigh_from d all j (u + (1 + n)) rest)
      go true p = let l = leb-true R u p in rw (lt-ltb (R - u) (1 + n) (omega (arith, l)))
      go false p =
          let l = leb-false R u p in
          let z : u + (1 + n) ≡ (u + 1) + n = omega arith in
          rw (z, ltb_suc R u n l) (rec (u + 1))

  pub weigh_window : (k i u : ℕ) (steps rest : List (Checked Step)) → Ahead i all steps → Ahead k steps rest → (0 < k → d.used.trs + (i + k) ≤ tr_room d.memory)
      → weigh_from d all i u steps ≡ after_new (R - u) (new_within (is_new d all i) k steps) (weigh_from d all (i + k) (u + new_within (is_new d all i) k steps) rest)
  unfolding weigh_from new_within
  weigh_window zero i u steps rest a f room =
      let z : i + 0 ≡ i = omega arith in
      let y : u + 0 ≡ u = omega arith in
      rw (z, y, le-ltb (R - u) 0 (omega arith), f)
  weigh_window (suc k) i u [] rest a f room = absurd f
  weigh_window (suc k) i u (refused n ∷ others) rest a f room = absurd f
  weigh_window (suc k) i u (good s ∷ others) rest a f room =
      let h = room (omega arith) in
      let z : i + suc k ≡ (i + 1) + k = omega arith in
      let a' = ahead_next i all s others a in
      let same = new_same (is_new d all (i + 1)) (but (is_new d all i) s.to) k others (λ t. rw (add-one i) (new_next d i all s others a t)) in
      rw (lt-leb (tr_room d.memory) (d.used.trs + i) (omega (arith, h)), z)
      (by_new (is_new d all i s.to) i u (new_within (but (is_new d all i) s.to) k others) ((i + 1) + k) others rest
      (λ v. rw (← same) (weigh_window k (i + 1) v others rest (rw (add-one i) a') f (λ l. omega (arith, h)))))

  abbrev onward : ℕ → List (Checked Step) → ℕ → Checked (Unit {0})
  onward i others v = weigh_from d all (i + 1) v others

  -- A step with its transition record, where each target that the table lacks has a state's record: the weighing goes on with no more states than the quick one counts.
  pub weigh_passed : (i u g v : ℕ) (s : Step) (others : List (Checked Step)) → d.used.trs + i < tr_room d.memory → u ≤ g → good v ≡ count_state (missing (find d s.to)) R g
      → (w : ℕ) × (w ≤ v) × (weigh_from d all i u (good s ∷ others) ≡ weigh_from d all (i + 1) w others)
  unfolding weigh_from is_new count_state
  weigh_passed i u g v s others room h e = rw (lt-leb (tr_room d.memory) (d.used.trs + i) room) (by_missing (missing (find d s.to)) (reached_within s.to i all) e)
    where
      by_earlier : (r : Bool) → g < R → g + 1 ≡ v → (w : ℕ) × (w ≤ v) × (and_then (count_state (not r) R u) (onward i others) ≡ onward i others w)
      by_earlier true l z = (u, omega (arith, h, z), refl)
      by_earlier false l z = (u + 1, omega (arith, h, z), rw (lt-leb R u (omega (arith, l, h))) refl)

      by_room : (b r : Bool) → leb R g ≡ b → good v ≡ refuse_if b 13 (good (g + 1)) → (w : ℕ) × (w ≤ v) × (and_then (count_state (not r) R u) (onward i others) ≡ onward i others w)
      by_room true r p q = absurd (good≢refused q)
      by_room false r p q = by_earlier r (leb-false R g p) (good_is (sym q))

      by_missing : (m r : Bool) → good v ≡ count_state m R g → (w : ℕ) × (w ≤ v) × (and_then (count_state (m && not r) R u) (onward i others) ≡ onward i others w)
      by_missing false r p = let z : g ≡ v = good_is (sym p) in (u, omega (arith, h, z), refl)
      by_missing true r p = by_room (leb R g) r refl p

-- a number of records is below 2 ^ 32
pub few_records : (d : Store) (n : ℕ) → n < tr_room d.memory → n + 1 < 2 ^ 32
unfolding tr_room_with
few_records d n h = let r = room_words tr_size d.memory.trs (suc n) h in omega (arith, r.0)
