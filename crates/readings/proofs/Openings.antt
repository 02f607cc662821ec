-- Whatever memory held, an accepted opening establishes what every call keeps: state 0 is the start, nothing is expanded, no transition is used.
use mathlib.Core.Path.{◌≡◌, refl, sym, ◌∙◌, ap, subst}
use mathlib.Core.Logic.{◌⊎◌, inl, inr, ⊎_elim}
use Rattle.std.specs.Prelude.{Option, None, Some}
use Rattle.std.proofs.lemmas.Option.{none-some, same_Some}
use Prim.Native.Nat.{ℕ, ◌<◌}
use native.Mathlib.Omega.{arith}
use native.Mathlib.Decide.{ℕ_discrete}
use lib.ListN.{length}
use Rattle.words.specs.Labels.{good, refused}
use Rattle.words.specs.Sides.{Side}
use Rattle.words.specs.Steps.{Composition, Triple, start_at}
use Rattle.words.specs.Settings.{Settings, Lent, composition_of}
use Rattle.words.proofs.CheckedLaws.{good≢refused, good_is, refused_is}
use Rattle.calls.specs.Store.{Memory, state_room, expanded_place, expanded_at, add, add_with, expanded_with}
use Rattle.calls.specs.Checks.{Session, side_for, entered}
use Rattle.calls.specs.Calls.{Outcome, cleared, open_of}
use Rattle.calls.specs.Sequences.{World}
use Rattle.calls.proofs.FindLaws.{whole_distinct}
use Rattle.calls.proofs.OpenKept.{open_kept}
use Rattle.calls.proofs.OpenCases.{opened_as, Begins, by_open, open_empty, open_begun, side_refusals, begun_triple, begun_field, begun_whole}
use Rattle.readings.specs.Worlds.{world_of, Expanded, Found, at_start, as_target}
use Rattle.readings.specs.Answers.{HasStart, Opens}
use Rattle.readings.proofs.Grows.{KeptWorld}

module _ (s : Settings) (l : Lent) (side : Side) (rule : side_for s l ≡ good side) (m : Memory) where
  abbrev c : Composition
  c = composition_of s l side

  -- without a start no state is found
  empty_kept : start_at c ≡ None → entered l (opened_as s side (cleared m)).session (opened_as s side (cleared m)).memory ≡ good c → KeptWorld l c (world_of (opened_as s side (cleared m)))
  unfolding cleared
  empty_kept h e = record {
    whole = λ n i. absurd (omega arith);
    sound = record {
      enters = e;
      found = λ n. (λ i. absurd (omega arith), none_found n);
      listed = λ r. (λ i. absurd (omega (arith, i.0, i.1)), λ a. absurd (omega (arith, a.1.0)));
      alone = λ r j k x y a b. absurd (omega (arith, x.0));
      distinct = λ i j p q z. absurd (omega arith);
      start = λ t z. absurd (none-some _ (sym h ∙ z));
      order = λ r n a b. absurd (omega arith);
      lists = λ n x. absurd (omega (arith, x.0));
    };
  }
    where
      none_found : (n : ℕ) → Found c (world_of (opened_as s side (cleared m))) n → n < 0
      none_found n (at_start _ t z k) = absurd (none-some _ (sym h ∙ z))
      none_found n (as_target _ k r f x i z) = absurd (omega (arith, x.0))

  module _ (t : Triple) (h : start_at c ≡ Some t) (begins : Begins m) where
    abbrev w : World
    w = world_of (opened_as s side (add (cleared m) t))

    bare : (n : ℕ) → Expanded w n → ⊥
    unfolding cleared add_with expanded_with
    bare n x =
        let z : n ≡ 0 = omega (arith, x.0) in
        let a = begun_field t m begins expanded_place (omega arith) in
        let b = subst (λ k. expanded_at w.memory.states k ≡ 1) z x.1 in
        omega (arith, a, b)

    start_kept : entered l w.session w.memory ≡ good c → KeptWorld l c w
    unfolding cleared add_with
    start_kept e =
        let whole = begun_whole t m begins in
        record {
          whole = whole;
          sound = record {
            enters = e;
            found = λ n. (λ i. at_start n t h (omega arith), only_start n);
            listed = λ r. (λ i. absurd (omega (arith, i.0, i.1)), λ a. absurd (bare a.0 a.1));
            alone = λ r j k x y a b. absurd (bare j x);
            distinct = whole_distinct (add (cleared m) t) whole;
            start = λ u z. begun_triple t m begins ∙ same_Some t u (sym h ∙ z);
            order = λ r n a b. absurd (omega arith);
            lists = λ n x. absurd (bare n x);
          };
        }
      where
        only_start : (n : ℕ) → Found c w n → n < w.session.used.states
        only_start n (at_start _ u z k) = omega (arith, k)
        only_start n (as_target _ k r f x i z) = absurd (bare k x)

-- the side is the one that the rule gives
pub open_keeps : (s : Settings) (l : Lent) (got : Session) (m : Memory) → (open_of s l got m).answer ≡ good tt → (side : Side) → side_for s l ≡ good side
    → KeptWorld l (composition_of s l side) (world_of (open_of s l got m))
open_keeps s l got m e side rule =
    let o = open_kept s l got m tt e in
    let q : entered l (open_of s l got m).session (open_of s l got m).memory ≡ good (composition_of s l side) = o.kept ∙ ap (λ x. good (composition_of s l x)) (good_is (sym o.rule ∙ rule)) in
    let r =
    by_open s l got m (λ (o : Outcome (Unit {0})). o.answer ≡ good tt → (x : Side) × (side_for s l ≡ good x) × (entered l o.session o.memory ≡ good (composition_of s l x) → KeptWorld l (composition_of s l x) (world_of o)))
    (λ k r z. absurd (good≢refused (sym z)))
    (λ x r h z. (x, r, empty_kept s l x r m h))
    (λ x t r h z. absurd (good≢refused (sym z)))
    (λ x t r h b z. (x, r, start_kept s l x r m t h b))
    e in
    subst (λ x. entered l (open_of s l got m).session (open_of s l got m).memory ≡ good (composition_of s l x) → KeptWorld l (composition_of s l x) (world_of (open_of s l got m))) (good_is (sym r.1 ∙ rule)) r.2 q

-- no state is expanded by an opening
pub open_unexpanded : (s : Settings) (l : Lent) (got : Session) (m : Memory) → (open_of s l got m).answer ≡ good tt → (n : ℕ) → Expanded (world_of (open_of s l got m)) n → ⊥
unfolding cleared
open_unexpanded s l got m =
    by_open s l got m (λ (o : Outcome (Unit {0})). o.answer ≡ good tt → (n : ℕ) → Expanded (world_of o) n → ⊥)
    (λ k r z. absurd (good≢refused (sym z)))
    (λ x r h z n y. omega (arith, y.0))
    (λ x t r h z. absurd (good≢refused (sym z)))
    (λ x t r h b z. bare s l x r m t h b)

-- an opening is accepted, or refused by 13, just where 01 says so
module _ (s : Settings) (l : Lent) (got : Session) (m : Memory) where
  abbrev Finds : Type 0
  Finds = (0 < length m.heads) × (0 < state_room m)

  finds_or_not : Finds ⊎ ((length m.heads ≡ 0) ⊎ (state_room m ≡ 0))
  finds_or_not = go (ℕ_discrete (length m.heads) 0) (ℕ_discrete (state_room m) 0)
    where
      go : Dec (length m.heads ≡ 0) → Dec (state_room m ≡ 0) → Finds ⊎ ((length m.heads ≡ 0) ⊎ (state_room m ≡ 0))
      go (yes a) b = inr (inl a)
      go (no a) (yes b) = inr (inr b)
      go (no a) (no b) = inl (omega (arith, a), omega (arith, b))

  begins : (side : Side) → side_for s l ≡ good side → HasStart s l side → Finds → (open_of s l got m).answer ≡ good tt
  begins side e h f = ap (λ (o : Outcome (Unit {0})). o.answer) (open_begun s l got m side h.0 e h.1 (record { room = f.1; headed = f.0 }))

  pub opens : Opens s l got m
  opens = record {
    accepts = (
      by_open s l got m (λ (o : Outcome (Unit {0})). o.answer ≡ good tt → (side : Side) × (side_for s l ≡ good side) × (HasStart s l side → Finds))
          (λ k e z. absurd (good≢refused (sym z)))
          (λ side e h z. (side, e, λ t. absurd (none-some _ (sym h ∙ t.1))))
          (λ side t e h z. absurd (good≢refused (sym z)))
          (λ side t e h b z. (side, e, λ u. (b.headed, b.room))),
      λ x. by_start x.0 x.1 x.2 (start_at (composition_of s l x.0)) refl,
    );
    full = (
      by_open s l got m
          (λ (o : Outcome (Unit {0})). open_of s l got m ≡ o → o.answer ≡ refused 13 → (side : Side) × (side_for s l ≡ good side) × HasStart s l side × ((length m.heads ≡ 0) ⊎ (state_room m ≡ 0)))
          (λ k e q z. absurd (⊎_elim (λ r. omega (arith, r, refused_is z)) (λ r. omega (arith, r, refused_is z)) (side_refusals s l k e)))
          (λ side e h q z. absurd (good≢refused z))
          (λ side t e h q z. (side, e, (t, h), ⊎_elim (λ f. absurd (good≢refused (sym (begins side e (t, h) f) ∙ ap (λ (o : Outcome (Unit {0})). o.answer) q))) (λ f. f) finds_or_not))
          (λ side t e h b q z. absurd (good≢refused z))
          refl,
      λ x.
          by_open s l got m (λ (o : Outcome (Unit {0})). o.answer ≡ refused 13)
          (λ k e. absurd (good≢refused (sym x.1 ∙ e)))
          (λ side e h. absurd (none-some _ (sym h ∙ subst (λ (y : Side). start_at (composition_of s l y) ≡ Some x.2.0) (good_is (sym x.1 ∙ e)) x.2.1)))
          (λ side t e h. refl)
          (λ side t e h b. absurd (⊎_elim (λ z. omega (arith, z, b.headed)) (λ z. omega (arith, z, b.room)) x.3)),
    );
  }
    where
      by_start : (side : Side) → side_for s l ≡ good side → (HasStart s l side → Finds) → (o : Option Triple) → start_at (composition_of s l side) ≡ o → (open_of s l got m).answer ≡ good tt
      by_start side e f None h = ap (λ (o : Outcome (Unit {0})). o.answer) (open_empty s l got m side e h)
      by_start side e f (Some t) h = begins side e (t, h) (f (t, h))
