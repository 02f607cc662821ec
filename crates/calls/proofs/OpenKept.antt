-- Whatever memory held, an accepted opening leaves a session and memory that pass the checks 1 to 8: its heads are cleared, and its state, if there is one, is in form.
use mathlib.Core.Path.{◌≡◌, refl, sym, subst}
use mathlib.Core.Bool.{not, ◌||◌}
use mathlib.Core.List.{map}
use mathlib.Core.Logic.{◌≢◌}
use Rattle.std.specs.Prelude.{Option, None, Some}
use Rattle.std.proofs.lemmas.Option.{none-some, same_Some}
use Prim.Native.Nat.{ℕ, zero, suc, ◌≤◌, ◌<◌}
use native.Mathlib.Omega.{arith}
use lib.Dec.{eqb}
use lib.ListN.{length, get_or-map, length-map}
use borrow.Author.Tests.{eqb-false, not-false}
use Rattle.lists.proofs.Members.{or_false}
use Rattle.words.specs.Labels.{Checked, good, refused, and_then}
use Rattle.words.specs.Machines.{state_count, start_word, less_one}
use Rattle.words.specs.Sides.{Side, non_empty}
use Rattle.words.specs.Steps.{Triple, start_of, start_at}
use Rattle.words.specs.Settings.{Settings, Lent, composition_of}
use Rattle.words.proofs.FormLaws.{form}
use Rattle.words.proofs.CheckedLaws.{good≢refused, good_is, past_check, past_then}
use Rattle.words.proofs.StepRange.{InRange}
use Rattle.calls.specs.Store.{Memory, Store, state_room, add_with, state_room_with}
use Rattle.calls.specs.Checks.{Session, side_for, entered}
use Rattle.calls.specs.Calls.{Outcome, Done, settle, cleared, begun, opened, open_of, begun_with, open_with}
use Rattle.calls.proofs.StoreForms.{Form, some_head}
use Rattle.calls.proofs.FormKept.{add_form}
use Rattle.calls.proofs.ExpandKept.{sided, is_entered}

-- a store of no used records is in form where its heads are 0
pub cleared_form : (S1 S2 : ℕ) (m : Memory) → Form S1 S2 (cleared m) 0
unfolding cleared
cleared_form S1 S2 m = record {
  states_fit = omega arith;
  trs_fit = omega arith;
  head = λ h. rw (get_or-map {B = ℕ} (λ (k : ℕ). 0) m.heads h 0) (omega arith);
  headed = λ h. absurd (omega arith);
  state = λ n h. absurd (omega arith);
  tr = λ i h. absurd (omega arith);
}

start_below : (w S s : ℕ) → w ≤ S → less_one w ≡ Some s → s < S
start_below zero S s h e = absurd (none-some _ e)
start_below (suc w) S s h e = let z = same_Some w s e in omega arith

-- the start pair is in range
start_range : (S1 S2 w1 w2 : ℕ) (t : Triple) (a b : Option ℕ) → w1 ≤ S1 → w2 ≤ S2 → less_one w1 ≡ a → less_one w2 ≡ b → start_of a b ≡ Some t → InRange S1 S2 t
start_range S1 S2 w1 w2 t None b h k p q e = absurd (none-some _ e)
start_range S1 S2 w1 w2 t (Some u) None h k p q e = absurd (none-some _ e)
start_range S1 S2 w1 w2 t (Some u) (Some v) h k p q e =
    subst (InRange S1 S2) (same_Some (record { s1 = u; s2 = v; f = 0 }) t e)
    (record { s1 = start_below w1 S1 u h p; s2 = start_below w2 S2 v k q; f = omega arith })

begun_kept : (S1 S2 : ℕ) (m : Memory) (o : Option Triple) (d : Store) → ((t : Triple) → o ≡ Some t → InRange S1 S2 t) → begun m o ≡ good d → Form S1 S2 d d.used.trs
unfolding begun_with cleared add_with state_room_with
begun_kept S1 S2 m None d h e = subst (λ (q : Store). Form S1 S2 q q.used.trs) (good_is e) (cleared_form S1 S2 m)
begun_kept S1 S2 m (Some t) d h e =
    let c = past_check (eqb (state_room m) 0 || not (non_empty m.heads)) 13 _ d e in
    let lacking = or_false (eqb (state_room m) 0) (not (non_empty m.heads)) c.0 in
    let none' : state_room m ≢ 0 = eqb-false _ _ lacking.0 in
    let any : 0 < length m.heads = some_head m.heads (not-false (non_empty m.heads) lacking.1) in
    let any' : 0 < length {A = ℕ} (map (λ (k : ℕ). 0) m.heads) = rw length-map any in
    subst (λ (q : Store). Form S1 S2 q q.used.trs) (good_is c.1) (add_form (cleared m) (cleared_form S1 S2 m) t (h t refl) (omega (arith, none')) any')

-- later calls take what an accepted opening leaves: the checks 1 to 8 pass, with the composition of its settings and of the side of the rule
pub record Opens (s : Settings) (l : Lent) (o : Outcome (Unit {0})) : Type 0 where
  pub side : Side
  pub rule : side_for s l ≡ good side
  pub fixed : o.session.settings ≡ s
  pub kept : entered l o.session o.memory ≡ good (composition_of s l side)

settled : (s : Settings) (l : Lent) (got : Session) (m : Memory) (x : Checked (Done (Unit {0}))) (u : Unit {0})
    → ((r : Done (Unit {0})) → x ≡ good r → Opens s l (record { answer = good r.value; session = r.session; memory = r.memory })) → (settle got m x).answer ≡ good u → Opens s l (settle got m x)
settled s l got m (good r) u h e = h r refl
settled s l got m (refused n) u h e = absurd (good≢refused (sym e))

pub open_kept : (s : Settings) (l : Lent) (got : Session) (m : Memory) (u : Unit {0}) → (open_of s l got m).answer ≡ good u → Opens s l (open_of s l got m)
unfolding open_with start_at
open_kept s l got m u = settled s l got m (and_then (side_for s l) (λ side. and_then (begun m (start_at (composition_of s l side))) (λ d. good (opened s side d)))) u done
  where
    done : (r : Done (Unit {0})) → and_then (side_for s l) (λ side. and_then (begun m (start_at (composition_of s l side))) (λ d. good (opened s side d))) ≡ good r
        → Opens s l (record { answer = good r.value; session = r.session; memory = r.memory })
    done r h =
        let x = past_then (side_for s l) _ r h in
        let y = past_then (begun m (start_at (composition_of s l x.0))) _ r x.2 in
        let z = sided s l x.0 x.1 in
        let f1 = form l.m1 z.formed1 in
        let f2 = form l.m2 z.formed2 in
        let d = y.0 in
        let S1 = state_count l.m1 in
        let S2 = state_count l.m2 in
        let k : Form S1 S2 d d.used.trs = begun_kept S1 S2 m (start_at (composition_of s l x.0)) d (λ t e. start_range S1 S2 (start_word l.m1) (start_word l.m2) t (less_one (start_word l.m1)) (less_one (start_word l.m2)) f1.start f2.start refl refl e) y.1 in
        let o = opened s x.0 d in
        let in' : entered l o.session o.memory ≡ good (composition_of s l x.0) = is_entered l o.session o.memory (composition_of s l x.0) (record { side = x.0; rule = x.1; same = refl; composition = refl; form = k }) in
        subst (λ (q : Done (Unit {0})). Opens s l (record { answer = good q.value; session = q.session; memory = q.memory })) (good_is y.2)
        (record { side = x.0; rule = x.1; fixed = refl; kept = in' })
