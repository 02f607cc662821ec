-- The number of a refusal is from 1 to 13, or 18: so 0 says that a call is accepted.
use mathlib.Core.Path.{◌≡◌, refl}
use mathlib.Core.Bool.{Bool, true, false, not, ◌&&◌, ◌||◌}
use Rattle.std.specs.Prelude.{Option, None, Some}
use Prim.Native.Nat.{ℕ, zero, suc, ◌≤◌}
use native.Mathlib.Omega.{arith}
use lib.Dec.{eqb, leb}
use Rattle.words.specs.Labels.{eps_label, Checked, good, refused, refuse_if, and_then}
use Rattle.words.specs.Machines.{well_formed}
use Rattle.words.specs.Ignored.{ignored_ok}
use Rattle.words.specs.Sides.{Side, side_by, in_order, side_of, non_empty}
use Rattle.words.specs.Sigmas.{Operand, is_set}
use Rattle.words.specs.Steps.{Composition, Triple, steps_at, start_at, final_at}
use Rattle.words.specs.Settings.{Settings, settings_ok, Lent, operand1, operand2, composition_of}
use Rattle.calls.specs.Store.{Memory, Part, state_room, triple_at, expanded_at}
use Rattle.calls.specs.Checks.{Session, store_of, side_for, session_ok, entered, entered_at, entered_at_with, entered_with, side_for_with}
use Rattle.calls.specs.Calls.{Done, settle, unchanged, begun, opened, open_of, store_steps, expand_by, expand_of, final_weight_of, onward, run_by, run_from, run_after, run_of, begun_with, expand_with, expansion_with, final_weight_with, open_with, run_from_with, run_with}
use Rattle.lazy_fst.proofs.CallLaws.{at_entered}
use Rattle.calls.proofs.ExpandCases.{store_refusals, final_refusals}

-- a value, or a refusal by a number of the table of "Answers"
abbrev pub Numbered : {A : Type 0} → Checked A → Type 0
Numbered (good a) = Unit {0}
Numbered (refused n) = (1 ≤ n) × (n ≤ 18)

-- where each refusal has such a number
by_number : {A : Type 0} (x : Checked A) → ((k : ℕ) → x ≡ refused k → (1 ≤ k) × (k ≤ 18)) → Numbered x
by_number (good a) h = tt
by_number (refused k) h = h k refl

checked : {A : Type 0} (b : Bool) (n : ℕ) (rest : Checked A) → (1 ≤ n) × (n ≤ 18) → Numbered rest → Numbered (refuse_if b n rest)
checked true n rest h r = h
checked false n rest h r = r

and_then_lem : {A B : Type 0} (x : Checked A) (g : A → Checked B) → Numbered x → ((a : A) → x ≡ good a → Numbered (g a)) → Numbered (and_then x g)
and_then_lem (good a) g h r = r a refl
and_then_lem (refused k) g h r = h

settled : {A : Type 0} (s : Session) (m : Memory) (x : Checked (Done A)) → Numbered x → Numbered (settle s m x).answer
settled s m (good d) h = tt
settled s m (refused k) h = h

side_by_lem : (a b c d : Bool) → Numbered (side_by a b c d)
side_by_lem true true c d = tt
side_by_lem true false c d = tt
side_by_lem false true c d = tt
side_by_lem false false true d = tt
side_by_lem false false false true = tt
side_by_lem false false false false = (omega arith, omega arith)

side_numbered_lem : (s : Settings) (l : Lent) → Numbered (side_for s l)
unfolding side_for_with side_of
side_numbered_lem s l =
    checked (not (settings_ok s)) 1 _ (omega arith, omega arith)
    (checked (not (well_formed l.m1)) 2 _ (omega arith, omega arith)
    (checked (not (well_formed l.m2)) 3 _ (omega arith, omega arith)
    (checked (not (ignored_ok l.ignored)) 18 _ (omega arith, omega arith)
    (checked (eqb A.sigma.label eps_label || eqb B.sigma.label eps_label) 4 _ (omega arith, omega arith)
    (checked (is_set A.sigma && not (in_order A)) 5 _ (omega arith, omega arith)
    (checked (is_set B.sigma && not (in_order B)) 6 _ (omega arith, omega arith)
    (side_by_lem (eqb A.mark 1) (eqb B.mark 1) (in_order A) (in_order B))))))))
  where
    A : Operand
    A = operand1 s l

    B : Operand
    B = operand2 s l

entered_numbered : (l : Lent) (s : Session) (m : Memory) → Numbered (entered l s m)
unfolding entered_with
entered_numbered l s m =
    and_then_lem (side_for s.settings l) _ (side_numbered_lem s.settings l) (λ side e. checked (not (session_ok l s m side)) 8 _ (omega arith, omega arith) tt)

at_numbered : (l : Lent) (s : Session) (m : Memory) (n : ℕ) → Numbered (entered_at l s m n)
unfolding entered_at_with
at_numbered l s m n = and_then_lem (entered l s m) _ (entered_numbered l s m) (λ c e. checked (leb s.used.states n) 9 _ (omega arith, omega arith) tt)

pub open_numbered : (s : Settings) (l : Lent) (got : Session) (m : Memory) → Numbered (open_of s l got m).answer
unfolding open_with begun_with
open_numbered s l got m =
    let after : Side → Checked (Done (Unit {0})) = λ side. and_then (begun m (start_at (composition_of s l side))) (λ d. good (opened s side d)) in
    settled got m (and_then (side_for s l) after)
    (and_then_lem (side_for s l) after (side_numbered_lem s l)
    (λ side e. and_then_lem (begun m (start_at (composition_of s l side))) (λ d. good (opened s side d)) (began (start_at (composition_of s l side))) (λ d x. tt)))
  where
    began : (o : Option Triple) → Numbered (begun m o)
    began None = tt
    began (Some t) = checked (eqb (state_room m) 0 || not (non_empty m.heads)) 13 _ (omega arith, omega arith) tt

pub expand_numbered : (l : Lent) (s : Session) (m : Memory) (n : ℕ) → Numbered (expand_of l s m n).answer
unfolding expand_with expansion_with
expand_numbered l s m n =
    let after : Composition → Checked (Done Part) = λ c. expand_by c s m n (eqb (expanded_at m.states n) 1) in
    settled s m (and_then (entered_at l s m n) after) (and_then_lem (entered_at l s m n) after (at_numbered l s m n) (λ c e. by_mark c (at_entered l s m n c e).0 (eqb (expanded_at m.states n) 1)))
  where
    t : Triple
    t = triple_at m.states n

    by_mark : (c : Composition) → entered l s m ≡ good c → (b : Bool) → Numbered (expand_by c s m n b)
    by_mark c e true = tt
    by_mark c e false =
        and_then_lem (store_steps (store_of s m) (steps_at c t)) _ (by_number (store_steps (store_of s m) (steps_at c t)) (λ k x. let z = store_refusals l s m c e (store_of s m) t k x in (omega (arith, z.0), omega (arith, z.1)))) (λ d x. tt)

pub final_numbered : (l : Lent) (s : Session) (m : Memory) (n : ℕ) → Numbered (final_weight_of l s m n).answer
unfolding final_weight_with
final_numbered l s m n =
    let t = triple_at m.states n in
    let after : Composition → Checked (Done (Option ℕ)) = λ c. and_then (final_at c t) (λ w. good (unchanged s m w)) in
    settled s m (and_then (entered_at l s m n) after)
    (and_then_lem (entered_at l s m n) after (at_numbered l s m n)
    (λ c e. and_then_lem (final_at c t) (λ w. good (unchanged s m w)) (by_number (final_at c t) (λ k x. let z = final_refusals c t k x in (omega (arith, z), omega (arith, z)))) (λ w x. tt)))

from_numbered : (l : Lent) (k n : ℕ) (s : Session) (m : Memory) → Numbered (run_from l k n s m).answer
unfolding run_from_with
from_numbered l zero n s m = tt
from_numbered l (suc k) n s m = go (leb s.used.states n) (λ s' m'. from_numbered l k (suc n) s' m')
  where
    on : (a : Checked Part) → Numbered a → ((s' : Session) (m' : Memory) → Numbered (run_from l k (suc n) s' m').answer) → Numbered (onward a (expand_of l s m n).session (expand_of l s m n).memory (run_from l k (suc n))).answer
    on (good p) h rest = rest (expand_of l s m n).session (expand_of l s m n).memory
    on (refused j) h rest = h

    go : (b : Bool) → ((s' : Session) (m' : Memory) → Numbered (run_from l k (suc n) s' m').answer) → Numbered (run_by b s m (expand_of l s m n) (run_from l k (suc n))).answer
    go true rest = tt
    go false rest = on (expand_of l s m n).answer (expand_numbered l s m n) rest

pub run_numbered : (l : Lent) (s : Session) (m : Memory) → Numbered (run_of l s m).answer
unfolding run_with
run_numbered l s m = go (entered l s m) (entered_numbered l s m)
  where
    go : (x : Checked Composition) → Numbered x → Numbered (run_after x l s m).answer
    go (good c) h = from_numbered l (state_room m) 0 s m
    go (refused k) h = h
