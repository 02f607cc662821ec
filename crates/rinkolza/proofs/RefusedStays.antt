-- Demand 1c in words: a refused call changes no lent word. A run that is refused at a state keeps the expansions before it; one that is refused by 1 to 8 kept none.
use mathlib.Core.Path.{◌≡◌, refl, ap}
use mathlib.Core.Bool.{Bool, true, false, ◌&&◌}
use mathlib.Core.List.{List, []}
use mathlib.Core.Logic.{◌≢◌}
use Prim.Native.Nat.{ℕ}
use lib.Dec.{eqb}
use lib.ListN.{length}
use borrow.Author.Tests.{eqb-true}
use Rattle.lists.proofs.Members.{and_left, and_right}
use Rattle.words.specs.Labels.{Checked, good, refused, and_then}
use Rattle.words.specs.Settings.{Lent, composition_of}
use Rattle.words.specs.Steps.{start_at, final_at}
use Rattle.calls.specs.Store.{Memory, triple_at, expanded_at}
use Rattle.calls.specs.Checks.{side_for, entered, entered_at}
use Rattle.calls.specs.Calls.{Done, settle, unchanged, begun, opened, expand_by, run_of, expand_with, final_weight_with, open_with, run_with}
use Rattle.calls.specs.Sequences.{Said, accepted, part, weight}
use Rattle.calls.specs.Listing.{settings_of}
use Rattle.rinkolza.specs.Exported.{session_at, six, nine, two, number_of, Left, leaves, in_words, if_sized, open_words, expand_words, final_weight_words, run_words}
use Rattle.rinkolza.proofs.WordLaws.{words_of_session}

-- what a call leaves that changed nothing
abbrev pub Stays : List ℕ → List ℕ → Memory → Left → Type 0
Stays session old m x = x ≡ leaves x.number session old m

-- a call that hands back the session and memory that it got, where it is refused
settled_stays : {A : Type 0} (say : A → Said) → ((a : A) → number_of (say a) ≡ 0) → (w old : List ℕ) (m : Memory) (y : Checked (Done A)) → length w ≡ 9
    → let x = in_words say old (settle (session_at w) m y) in x.number ≢ 0 → Stays w old m x
settled_stays say zeros w old m (good d) e n = absurd (n (zeros d.value))
settled_stays say zeros w old m (refused k) e n = ap (λ (s : List ℕ). leaves k s old m) (words_of_session w e)

-- slices of another length
sized_stays : (b : Bool) (w old : List ℕ) (m : Memory) (x : Left) → (b ≡ true → x.number ≢ 0 → Stays w old m x) → let y = if_sized b w old m x in y.number ≢ 0 → Stays w old m y
sized_stays true w old m x h n = h refl n
sized_stays false w old m x h n = refl

-- both at once
call_stays : {A : Type 0} (say : A → Said) → ((a : A) → number_of (say a) ≡ 0) → (b : Bool) (w old : List ℕ) (m : Memory) (y : Checked (Done A)) → (b ≡ true → length w ≡ 9)
    → let x = if_sized b w old m (in_words say old (settle (session_at w) m y)) in x.number ≢ 0 → Stays w old m x
call_stays say zeros b w old m y e = sized_stays b w old m (in_words say old (settle (session_at w) m y)) (λ h. settled_stays say zeros w old m y (e h))

pub open_stays : (settings : List ℕ) (l : Lent) (w : List ℕ) (m : Memory) → let x = open_words settings l w m in x.number ≢ 0 → Stays w [] m x
unfolding open_words open_with
open_stays settings l w m =
    let s = settings_of settings in
    call_stays (λ u. accepted) (λ u. refl) (six settings && nine w) w [] m (and_then (side_for s l) (λ side. and_then (begun m (start_at (composition_of s l side))) (λ d. good (opened s side d))))
    (λ h. eqb-true _ _ (and_right (six settings) (nine w) h))

pub expand_stays : (l : Lent) (w old : List ℕ) (m : Memory) (n : ℕ) → let x = expand_words l w old m n in x.number ≢ 0 → Stays w old m x
unfolding expand_words expand_with
expand_stays l w old m n =
    let s = session_at w in
    call_stays part (λ p. refl) (nine w && two old) w old m (and_then (entered_at l s m n) (λ c. expand_by c s m n (eqb (expanded_at m.states n) 1))) (λ h. eqb-true _ _ (and_left (nine w) (two old) h))

pub final_stays : (l : Lent) (w old : List ℕ) (m : Memory) (n : ℕ) → let x = final_weight_words l w old m n in x.number ≢ 0 → Stays w old m x
unfolding final_weight_words final_weight_with
final_stays l w old m n =
    let s = session_at w in
    call_stays weight (λ p. refl) (nine w && two old) w old m (and_then (entered_at l s m n) (λ c. and_then (final_at c (triple_at m.states n)) (λ x. good (unchanged s m x)))) (λ h. eqb-true _ _ (and_left (nine w) (two old) h))

-- a run with a session of another length, or which the checks 1 to 8 refuse
pub run_stays : (l : Lent) (w : List ℕ) (m : Memory) → (nine w ≡ true → (k : ℕ) × (entered l (session_at w) m ≡ refused k)) → let x = run_words l w m in x.number ≢ 0 → Stays w [] m x
unfolding run_words run_with
run_stays l w m e =
    sized_stays (nine w) w [] m (in_words (λ u. accepted) [] (run_of l (session_at w) m)) (λ h. rw (e h).1 (settled_stays {A = Unit {0}} (λ u. accepted) (λ u. refl) w [] m (refused (e h).0) (eqb-true _ _ h)))
