-- One split of an opening: refused by 1 to 7 or 18, which look at no memory; accepted without a start; 13; accepted with the start as state 0, which is then found by its triple. And the
-- numbers by which an opening can be refused.
use mathlib.Core.Path.{◌≡◌, refl, sym, ◌∙◌, ap, subst}
use mathlib.Core.Bool.{Bool, true, false, not, ◌&&◌, ◌||◌}
use mathlib.Core.List.{[], ◌∷◌, ◌++◌}
use mathlib.Core.Logic.{◌≢◌, ◌⊎◌, inl, inr, ⊎_elim}
use Rattle.std.specs.Prelude.{Option, None, Some}
use Prim.Native.Nat.{ℕ, ◌≤◌, ◌<◌}
use native.Mathlib.Omega.{arith}
use lib.Dec.{eqb}
use lib.ListN.{length, get_or, length-map}
use borrow.Author.Tests.{eqb-false, ne_eqb}
use Rattle.lists.specs.Lists.{first, linked}
use Rattle.words.specs.Labels.{eps_label, Checked, good, refused, refuse_if}
use Rattle.words.specs.Machines.{well_formed}
use Rattle.words.specs.Ignored.{ignored_ok}
use Rattle.words.specs.Sides.{Side, side_by, in_order, side_of, non_empty}
use Rattle.words.specs.Sigmas.{Operand, is_set}
use Rattle.words.specs.Steps.{Triple, start_at}
use Rattle.words.specs.Settings.{Settings, settings_ok, Lent, operand1, operand2, composition_of}
use Rattle.words.proofs.CheckedLaws.{good≢refused, refused_is, stop_if}
use Rattle.calls.specs.Store.{Memory, Store, state_room, state_field, triple_words, triple_at, head_of, add, chain_with, find_with, state_room_with}
use Rattle.calls.specs.Checks.{Session, side_number, side_for, side_for_with}
use Rattle.calls.specs.Calls.{Outcome, cleared, open_of, begun_with, open_with}
use Rattle.calls.proofs.StoreForms.{some_head, of_some_head}
use Rattle.calls.proofs.ChainLaws.{add_new, add_holds}
use Rattle.calls.proofs.OpenKept.{cleared_form}
use Rattle.calls.proofs.FindLaws.{Whole, whole_add}
use Rattle.calls.proofs.ExpandCases.{stayed}
use Rattle.calls.proofs.TwoStores.{new_words}
use Rattle.calls.proofs.RecordLaws.{next_place}

-- what an accepted opening leaves, with the store d
abbrev pub opened_as : Settings → Side → Store → Outcome (Unit {0})
opened_as s side d = record { answer = good tt; session = record { settings = s; side = side_number side; used = d.used }; memory = d.memory }

-- room for state 0, and a head
pub record Begins (m : Memory) : Type 0 where
  pub room : 0 < state_room m
  pub headed : 0 < length m.heads

module _ (s : Settings) (l : Lent) (got : Session) (m : Memory) where
  -- P holds of an opening where it holds in each case, with what is known there
  pub by_open : (P : Outcome (Unit {0}) → Type 0)
      → ((k : ℕ) → side_for s l ≡ refused k → P (stayed got m (refused k)))
      → ((side : Side) → side_for s l ≡ good side → start_at (composition_of s l side) ≡ None → P (opened_as s side (cleared m)))
      → ((side : Side) (t : Triple) → side_for s l ≡ good side → start_at (composition_of s l side) ≡ Some t → P (stayed got m (refused 13)))
      → ((side : Side) (t : Triple) → side_for s l ≡ good side → start_at (composition_of s l side) ≡ Some t → Begins m → P (opened_as s side (add (cleared m) t)))
      → P (open_of s l got m)
  unfolding open_with begun_with
  by_open P stop empty full new = go (side_for s l) refl
    where
      by_room : (side : Side) (t : Triple) (a b : Bool) → side_for s l ≡ good side → start_at (composition_of s l side) ≡ Some t → eqb (state_room m) 0 ≡ a → non_empty m.heads ≡ b → P (open_of s l got m)
      by_room side t true b e h x y = rw (e, h, x) (full side t e h)
      by_room side t false false e h x y = rw (e, h, x, y) (full side t e h)
      by_room side t false true e h x y =
          let some' : state_room m ≢ 0 = eqb-false _ _ x in
          rw (e, h, x, y) (new side t e h (record { room = omega (arith, some'); headed = some_head m.heads y }))

      by_start : (side : Side) (o : Option Triple) → side_for s l ≡ good side → start_at (composition_of s l side) ≡ o → P (open_of s l got m)
      by_start side None e h = rw (e, h) (empty side e h)
      by_start side (Some t) e h = by_room side t (eqb (state_room m) 0) (non_empty m.heads) e h refl refl

      go : (o : Checked Side) → side_for s l ≡ o → P (open_of s l got m)
      go (refused k) e = rw e (stop k e)
      go (good side) e = by_start side (start_at (composition_of s l side)) e refl

  -- and the accepted cases by themselves
  pub open_empty : (side : Side) → side_for s l ≡ good side → start_at (composition_of s l side) ≡ None → open_of s l got m ≡ opened_as s side (cleared m)
  unfolding open_with begun_with
  open_empty side e h = rw (e, h)

  pub open_begun : (side : Side) (t : Triple) → side_for s l ≡ good side → start_at (composition_of s l side) ≡ Some t → Begins m → open_of s l got m ≡ opened_as s side (add (cleared m) t)
  unfolding open_with begun_with
  open_begun side t e h b = rw (e, h, ne_eqb (state_room m) 0 (λ z. omega (arith, z, b.room)), of_some_head m.heads b.headed)

-- the numbers of the checks before a side is known: "1 to 7", and 18 "included wherever 1 to 7, 8 or 9 are named" (02, 2.7)
abbrev pub AtEntry : ℕ → Type 0
AtEntry k = (k ≤ 7) ⊎ (k ≡ 18)

pub side_refusals : (s : Settings) (l : Lent) (k : ℕ) → side_for s l ≡ refused k → AtEntry k
unfolding side_for_with side_of
side_refusals s l k e =
    check (not (settings_ok s)) 1 _ (inl (omega arith))
    (check (not (well_formed l.m1)) 2 _ (inl (omega arith))
    (check (not (well_formed l.m2)) 3 _ (inl (omega arith))
    (check (not (ignored_ok l.ignored)) 18 _ (inr refl)
    (check (eqb A.sigma.label eps_label || eqb B.sigma.label eps_label) 4 _ (inl (omega arith))
    (check (is_set A.sigma && not (in_order A)) 5 _ (inl (omega arith))
    (check (is_set B.sigma && not (in_order B)) 6 _ (inl (omega arith))
    (seven (eqb A.mark 1) (eqb B.mark 1) (in_order A) (in_order B)))))))) e
  where
    A : Operand
    A = operand1 s l

    B : Operand
    B = operand2 s l

    check : (b : Bool) (n : ℕ) (rest : Checked Side) → AtEntry n → (rest ≡ refused k → AtEntry k) → refuse_if b n rest ≡ refused k → AtEntry k
    check b n rest h go x = ⊎_elim (λ z. subst AtEntry (sym z) h) go (stop_if b n rest k x)

    seven : (a b c d : Bool) → side_by a b c d ≡ refused k → AtEntry k
    seven true true c d x = absurd (good≢refused x)
    seven true false c d x = absurd (good≢refused x)
    seven false true c d x = absurd (good≢refused x)
    seven false false true d x = absurd (good≢refused x)
    seven false false false true x = absurd (good≢refused x)
    seven false false false false x = let z : 7 ≡ k = refused_is x in inl (omega (arith, z))

-- "Opening checks 1 to 7, then 13"
pub open_refusals : (s : Settings) (l : Lent) (got : Session) (m : Memory) (k : ℕ) → (open_of s l got m).answer ≡ refused k → AtEntry k ⊎ (k ≡ 13)
open_refusals s l got m k =
    by_open s l got m (λ (o : Outcome (Unit {0})). o.answer ≡ refused k → AtEntry k ⊎ (k ≡ 13))
    (λ n e x. let z : n ≡ k = refused_is x in inl (side_refusals s l k (e ∙ ap refused z))) (λ side e h x. absurd (good≢refused x))
    (λ side t e h x. inr (refused_is (sym x))) (λ side t e h b x. absurd (good≢refused x))

-- where state 0 begins: its record, the triple found
module _ (t : Triple) (m : Memory) (begins : Begins m) where
  room : (cleared m).used.states < state_room (cleared m).memory
  unfolding cleared state_room_with
  room = begins.room

  headed : 0 < length (cleared m).memory.heads
  unfolding cleared
  headed = rw length-map begins.headed

  abbrev d : Store
  d = add (cleared m) t

  pub begun_triple : triple_at d.memory.states 0 ≡ t
  unfolding cleared
  begun_triple = add_holds (cleared m) (cleared_form 0 0 m) t room headed

  -- its words but for the link
  pub begun_field : (k : ℕ) → k < next_place → state_field d.memory.states 0 k ≡ get_or (triple_words t ++ (0 ∷ 0 ∷ [])) k 0
  unfolding cleared
  begun_field k h = add_new (cleared m) (cleared_form 0 0 m) t room headed k (omega arith) ∙ new_words t (head_of (cleared m).memory.heads t) k h

  pub begun_whole : Whole d
  unfolding find_with first chain_with linked cleared
  begun_whole = whole_add (cleared m) (cleared_form 0 0 m) (λ n h. absurd (omega arith)) t room headed refl
