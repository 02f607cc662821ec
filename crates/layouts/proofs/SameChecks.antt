-- The checks 1 to 9 in both layouts, on memories with the same records: refused by one number in both, passed in both, or 8 in the old one alone, where more records are used than
-- its limit.
use mathlib.Core.Path.{◌≡◌, refl, sym, ◌∙◌}
use mathlib.Core.Bool.{Bool, true, false, not, ◌&&◌, true≢false, and-false}
use mathlib.Core.List.{List}
use mathlib.Core.Logic.{◌⊎◌, inl, inr, ⊎_elim}
use Prim.Native.Nat.{ℕ, ◌≤◌, ◌<◌}
use native.Mathlib.Omega.{arith}
use native.Mathlib.Decide.{dec_lt}
use lib.Dec.{eqb, leb}
use borrow.Author.Tests.{le-leb, lt-leb}
use Rattle.words.specs.Labels.{Checked, good, refused, refuse_if, and_then}
use Rattle.words.specs.Machines.{state_count, well_formed, well_formed_up_to, limit, tr_count, size_up_to}
use Rattle.words.specs.Sides.{Side}
use Rattle.words.specs.Steps.{Composition}
use Rattle.words.specs.Settings.{Settings, settings_ok, Lent, composition_of}
use Rattle.words.proofs.CheckedLaws.{good≢refused}
use Rattle.calls.specs.Store.{Memory, Used, Store, state_room, tr_room, state_room_with, tr_room_with}
use Rattle.calls.specs.Forms.{fits, form_ok, fits_with, form_ok_with}
use Rattle.calls.specs.Checks.{Session, side_number, store_of, side_for, session_ok, entered, entered_with, session_ok_with, side_for_with}
use Rattle.layouts.specs.Layout.{five}
use Rattle.layouts.specs.SameRecords.{new_states, whole_trs, SameRecords, SmallMachine, Small, Large, LargeRefused, Above}
use Rattle.layouts.proofs.SameStores.{Rooms, rooms, form_two}
use Rattle.layouts.proofs.SameSteps.{Wide}

-- an old memory and a new one: the same records, and K and J whole ones of each sort
pub record Pair (K J : ℕ) (o m : Memory) (u : Used) : Type 0 where
  pub same : SameRecords o m u
  pub states : new_states m ≡ K
  pub trs : whole_trs m ≡ J

-- no more are used than the old limit
abbrev pub Low : Used → Type 0
Low u = (u.states ≤ 65535) × (u.trs ≤ 65535)

-- "machines within the old limit" are as well formed as before
formed_two : (m : List ℕ) → SmallMachine m → well_formed_up_to five.limit m ≡ well_formed m
unfolding well_formed_up_to size_up_to
formed_two m h = rw (le-leb _ _ h.0, le-leb _ _ h.1, le-leb (state_count m) limit (omega (arith, h.0)), le-leb (tr_count m) limit (omega (arith, h.1)))

pub side_two : (s : Settings) (l : Lent) → Small l → side_for_with five s l ≡ side_for s l
unfolding side_for_with
side_two s l h = rw (formed_two l.m1 h.0, formed_two l.m2 h.1)

-- and above it they were malformed
pub large_refused : LargeRefused
unfolding side_for_with well_formed_up_to size_up_to
large_refused s l h = go (settings_ok s) (well_formed_up_to five.limit l.m1) (well_formed_up_to five.limit l.m2) refl refl refl
  where
    malformed : (m : List ℕ) → Large m → well_formed_up_to five.limit m ≡ false
    malformed m (inl x) = rw (lt-leb _ _ x)
    malformed m (inr x) = rw (lt-leb _ _ x, and-false)

    go : (a b c : Bool) → settings_ok s ≡ a → well_formed_up_to five.limit l.m1 ≡ b → well_formed_up_to five.limit l.m2 ≡ c → (k : ℕ) × (0 < k) × (k ≤ 3) × (side_for_with five s l ≡ refused k)
    go false b c x y z = (1, omega arith, omega arith, rw x)
    go true false c x y z = (2, omega arith, omega arith, rw (x, y))
    go true true false x y z = (3, omega arith, omega arith, rw (x, y, z))
    go true true true x y z = absurd (⊎_elim (λ g. true≢false (sym y ∙ malformed l.m1 g)) (λ g. true≢false (sym z ∙ malformed l.m2 g)) h)

-- the used counts u and t fit the rooms a and b, or one of them does not
abbrev Fits : ℕ → ℕ → ℕ → ℕ → Type 0
Fits u t a b = ((leb u a && leb t b ≡ true) × (u ≤ a) × (t ≤ b)) ⊎ ((leb u a && leb t b ≡ false) × ((a < u) ⊎ (b < t)))

fit_split : (u t a b : ℕ) → Fits u t a b
fit_split u t a b = go (dec_lt a u) (dec_lt b t)
  where
    go : Dec (a < u) → Dec (b < t) → Fits u t a b
    go (yes x) y = inr (rw (lt-leb u a x), inl x)
    go (no x) (yes y) = inr (rw (lt-leb t b y) (and-false (leb u a)), inr y)
    go (no x) (no y) = inl (rw (le-leb u a (omega arith), le-leb t b (omega arith)), omega arith, omega arith)

-- the checks 1 to 8 in both
abbrev pub Entered2 : ℕ → ℕ → Used → Checked Composition → Checked Composition → Type 0
Entered2 K J u x y =
    ((k : ℕ) × (x ≡ refused k) × (y ≡ refused k)) ⊎ (((c : Composition) × (x ≡ good c) × (y ≡ good c) × Low u) ⊎ ((x ≡ refused 8) × Wide K J × Above u))

module _ {K J : ℕ} (l : Lent) (small : Small l) (s : Session) (o m : Memory) (pair : Pair K J o m s.used) where
  abbrev d : Store
  d = store_of s m

  r : Rooms o m
  r = rooms o d pair.same

  -- check 8 on a side, in both
  abbrev old_at : Side → Checked Composition
  old_at side = refuse_if (not (session_ok_with five l s o side)) 8 (good (composition_of s.settings l side))

  abbrev new_at : Side → Checked Composition
  new_at side = refuse_if (not (session_ok l s m side)) 8 (good (composition_of s.settings l side))

  abbrev S1 : ℕ
  S1 = state_count l.m1

  abbrev S2 : ℕ
  S2 = state_count l.m2

  -- the used counts fit both: form decides
  by_form : (side : Side) → Low s.used → form_ok_with five S1 S2 (store_of s o) ≡ form_ok S1 S2 d → fits_with five (store_of s o) ≡ true → fits d ≡ true
      → Entered2 K J s.used (old_at side) (new_at side)
  unfolding session_ok_with
  by_form side low f x y = go (eqb s.side (side_number side) && form_ok S1 S2 d) refl
    where
      go : (b : Bool) → eqb s.side (side_number side) && form_ok S1 S2 d ≡ b → Entered2 K J s.used (old_at side) (new_at side)
      go true e = inr (inl (composition_of s.settings l side, rw (x, f, e), rw (y, e), low))
      go false e = inl (8, rw (x, f, e), rw (y, e))

  at_side : (side : Side) → Entered2 K J s.used (old_at side) (new_at side)
  unfolding session_ok_with fits_with
  at_side side = go (fit_split s.used.states s.used.trs (state_room_with five o) (tr_room_with five o)) (fit_split s.used.states s.used.trs (state_room m) (tr_room m))
    where
      eight : (b : Bool) (c : Composition) → refuse_if (not (b && false)) 8 (good c) ≡ refused 8
      eight true c = refl
      eight false c = refl

      go : Fits s.used.states s.used.trs (state_room_with five o) (tr_room_with five o) → Fits s.used.states s.used.trs (state_room m) (tr_room m)
          → Entered2 K J s.used (old_at side) (new_at side)
      go (inl (x, u, t)) (inl (y, v, w)) =
          by_form side (omega (arith, u, r.old_states_lem), omega (arith, t, r.old_trs)) (form_two o d pair.same S1 S2 (omega (arith, u, r.old_states_lem)) (omega (arith, t, r.old_trs))) x y
      go (inl (x, u, t)) (inr (y, z)) = absurd (⊎_elim (λ a. omega (arith, a, u, r.old_states_lem, r.new_states_lem)) (λ a. omega (arith, a, t, r.old_trs, r.new_trs)) z)
      go (inr (x, z)) (inl (y, v, w)) = inr (inr (
        rw x (eight (eqb s.side (side_number side)) _),
        ⊎_elim (λ a. inl (omega (arith, a, v, r.old_states_lem, r.new_states_lem, pair.states))) (λ a. inr (omega (arith, a, w, r.old_trs, r.new_trs, pair.trs))) z,
        ⊎_elim (λ a. inl (omega (arith, a, v, r.old_states_lem, r.new_states_lem))) (λ a. inr (omega (arith, a, w, r.old_trs, r.new_trs))) z,
      ))
      go (inr (x, z)) (inr (y, v)) = inl (8, rw x (eight (eqb s.side (side_number side)) _), rw y (eight (eqb s.side (side_number side)) _))

  pub entered_two : Entered2 K J s.used (entered_with five l s o) (entered l s m)
  unfolding entered_with
  entered_two = rw (side_two s.settings l small) (go (side_for s.settings l))
    where
      go : (x : Checked Side) → Entered2 K J s.used (and_then x old_at) (and_then x new_at)
      go (refused k) = inl (k, refl, refl)
      go (good side) = at_side side

  -- where no more are used than the old limit, the old checks pass with the new ones
  pub enters_old : (c : Composition) → entered l s m ≡ good c → Low s.used → entered_with five l s o ≡ good c
  enters_old c e low = go entered_two
    where
      go : Entered2 K J s.used (entered_with five l s o) (entered l s m) → entered_with five l s o ≡ good c
      go (inl (k, x, y)) = absurd (good≢refused (sym e ∙ y))
      go (inr (inl (b, x, y, z))) = x ∙ (sym y ∙ e)
      go (inr (inr (x, y, z))) = absurd (⊎_elim (λ a. omega (arith, a, low.0)) (λ a. omega (arith, a, low.1)) z)
