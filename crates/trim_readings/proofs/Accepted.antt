-- What an accepted trimming passed and wrote, and what makes one refuse by 13.
use mathlib.Core.Path.{◌≡◌, refl, sym, ◌∙◌, ap, subst}
use mathlib.Core.Bool.{Bool, true, false, not, cond}
use mathlib.Core.List.{List}
use mathlib.Core.Logic.{◌⊎◌, inl, inr}
use Prim.Native.Nat.{ℕ, ◌<◌, ◌≤◌}
use native.Mathlib.Omega.{arith}
use lib.Dec.{ltb}
use lib.ListN.{length, replicate}
use borrow.Author.Tests.{ltb-true, ltb-false, not-false}
use Rattle.lists.specs.Lists.{put}
use Rattle.lists.proofs.Members.{or_false}
use Rattle.words.specs.Labels.{Checked, good, refused, refuse_if}
use Rattle.words.specs.Machines.{limit}
use Rattle.words.specs.Steps.{Composition}
use Rattle.words.specs.Settings.{Lent}
use Rattle.words.proofs.CheckedLaws.{good≢refused, good_is, refused_is, past_check}
use Rattle.calls.specs.Store.{Memory, Store}
use Rattle.calls.specs.Checks.{Session, store_of, entered}
use Rattle.graphs.specs.StoreMachine.{store_machine}
use Rattle.machine_words.specs.MachineWords.{trs_in}
use Rattle.trims.specs.Trims.{rows_of, trimmed, work_words, Trim, all_expanded, all_weighed, lacks_room, trimmed_of, written, trim_by, trim_of}

-- past 14, 12 and 13
pub record Passed (c : Composition) (d : Store) (out words : List ℕ) : Type 0 where
  pub expanded : all_expanded d ≡ true
  pub weighed : all_weighed c d ≡ true
  pub counted : trs_in (rows_of (store_machine c d)) ≤ limit
  pub fits : length (trimmed (store_machine c d)) ≤ length out
  pub is : words ≡ trimmed (store_machine c d)

pub passed : (c : Composition) (d : Store) (out words : List ℕ) → trimmed_of c d out ≡ good words → Passed c d out words
unfolding trimmed_of lacks_room
passed c d out words e =
    let M = store_machine c d in
    let x = past_check (not (all_expanded d)) 14 _ words e in
    let y = past_check (not (all_weighed c d)) 12 _ words x.1 in
    let z = past_check (lacks_room M out) 13 _ words y.1 in
    let o = or_false (ltb limit (trs_in (rows_of M))) (ltb (length out) (length (trimmed M))) z.0 in
    record {
      expanded = not-false (all_expanded d) x.0;
      weighed = not-false (all_weighed c d) y.0;
      counted = ltb-false _ _ o.0;
      fits = ltb-false _ _ o.1;
      is = sym (good_is z.1);
    }

-- an accepted call: its composition, the checks that it passed, the count that it answers and the words that it wrote
pub record Accepted (l : Lent) (s : Session) (m : Memory) (out work : List ℕ) (k : ℕ) : Type 0 where
  pub composition : Composition
  pub enters : entered l s m ≡ good composition
  pub past : Passed composition (store_of s m) out (trimmed (store_machine composition (store_of s m)))
  pub count : k ≡ length (trimmed (store_machine composition (store_of s m)))
  pub writes : (trim_of l s m out work).out ≡ put out 0 (trimmed (store_machine composition (store_of s m)))

module _ (l : Lent) (s : Session) (m : Memory) (out work : List ℕ) where
  abbrev d : Store
  d = store_of s m

  abbrev cleared : List ℕ
  cleared = put work 0 (replicate (work_words d) 0)

  -- what is written says what was answered
  abbrev Says : ℕ → Composition → Trim → Type 0
  Says k c t = Passed c d out (trimmed (store_machine c d)) × (k ≡ length (trimmed (store_machine c d))) × (t.out ≡ put out 0 (trimmed (store_machine c d)))

  by_words : (k : ℕ) (c : Composition) (r : Checked (List ℕ)) → trimmed_of c d out ≡ r → (written out cleared r).answer ≡ good k → Says k c (written out cleared r)
  by_words k c (refused j) p h = absurd (good≢refused (sym h))
  by_words k c (good words) p h =
      let x = passed c d out words p in (
        subst (Passed c d out) x.is x,
        sym (good_is h) ∙ ap length x.is,
        ap (put out 0) x.is,
      )

  by_room : (k : ℕ) (c : Composition) (b : Bool) → (cond b (written out work (refused 13)) (written out cleared (trimmed_of c d out))).answer ≡ good k
      → Says k c (cond b (written out work (refused 13)) (written out cleared (trimmed_of c d out)))
  by_room k c true h = absurd (good≢refused (sym h))
  by_room k c false h = by_words k c (trimmed_of c d out) refl h

  by_checks : (k : ℕ) (x : Checked Composition) → (trim_by x d out work).answer ≡ good k → (c : Composition) × (x ≡ good c) × Says k c (trim_by x d out work)
  by_checks k (refused j) h = absurd (good≢refused (sym h))
  by_checks k (good c) h = (c, refl, by_room k c (ltb (length work) (work_words d)) h)

  pub accepted : (k : ℕ) → (trim_of l s m out work).answer ≡ good k → Accepted l s m out work k
  unfolding trim_of
  accepted k e =
      let r = by_checks k (entered l s m) e in
      record { composition = r.0; enters = r.1; past = r.2.0; count = r.2.1; writes = r.2.2 }

  -- 13 past the checks 1 to 8: the work slice is short, or all is expanded and the output slice is short or a count too large
  pub lacking : (c : Composition) → entered l s m ≡ good c → (trim_of l s m out work).answer ≡ refused 13
      → (length work < work_words d) ⊎ ((all_expanded d ≡ true) × (lacks_room (store_machine c d) out ≡ true))
  unfolding trim_of trimmed_of
  lacking c p e = room (ltb (length work) (work_words d)) refl (rw p at e)
    where
      three : (x y z : Bool) → refuse_if (not x) 14 (refuse_if (not y) 12 (refuse_if z 13 (good (trimmed (store_machine c d))))) ≡ refused 13 → (x ≡ true) × (z ≡ true)
      three true true true h = (refl, refl)
      three true true false h = absurd (good≢refused h)
      three true false z h = let n : ◌≡◌ {A = ℕ} 12 13 = refused_is h in absurd (omega arith)
      three false y z h = let n : ◌≡◌ {A = ℕ} 14 13 = refused_is h in absurd (omega arith)

      same : (r : Checked (List ℕ)) → (written out cleared r).answer ≡ refused 13 → r ≡ refused 13
      same (good words) h = absurd (good≢refused h)
      same (refused j) h = ap refused (refused_is h)

      words : trimmed_of c d out ≡ refused 13 → (all_expanded d ≡ true) × (lacks_room (store_machine c d) out ≡ true)
      words h = three (all_expanded d) (all_weighed c d) (lacks_room (store_machine c d) out) h

      room : (b : Bool) → ltb (length work) (work_words d) ≡ b → (cond b (written out work (refused 13)) (written out cleared (trimmed_of c d out))).answer ≡ refused 13
          → (length work < work_words d) ⊎ ((all_expanded d ≡ true) × (lacks_room (store_machine c d) out ≡ true))
      room true q h = inl (ltb-true _ _ q)
      room false q h = inr (words (same (trimmed_of c d out) h))
