-- Lists of exported calls are lists of calls: the caller reads off the words what `call_of` replies, and the words left hold the session and memory of the world after it.
use mathlib.Core.Path.{◌≡◌, refl, sym, ap, ◌∙◌}
use mathlib.Core.Bool.{Bool, true, false, cond}
use mathlib.Core.List.{List, [], ◌∷◌, map}
use Rattle.std.specs.Prelude.{Option, None, Some}
use Prim.Native.Nat.{ℕ, zero, suc, ◌+◌, ◌-◌, ◌*◌, ◌≤◌}
use native.Mathlib.Omega.{arith}
use lib.Dec.{eqb}
use lib.ListN.{length, length-take, length-drop, take, drop}
use borrow.Author.Tests.{ne_eqb}
use Rattle.words.specs.Labels.{Checked, good, refused}
use Rattle.words.specs.Machines.{limit}
use Rattle.words.specs.Settings.{Lent}
use Rattle.words.specs.Steps.{Composition}
use Rattle.calls.specs.Store.{Memory, Store, Part, tr_size, room_of, first_at, expanded_at, part_at, part_with, room_with, tr_room_with}
use Rattle.calls.specs.Checks.{Session, store_of, entered_at}
use Rattle.calls.specs.Calls.{open_of, expand_of, final_weight_of, run_of, words_of_part, records_by, records_of, records_with}
use Rattle.calls.specs.Sequences.{World, Call, opening, expand, final_weight, records, run, Said, accepted, part, weight, answered, handed, said_of, call_of, replies, after, after_with, call_with, replies_with}
use Rattle.calls.proofs.RecordLaws.{room_words}
use Rattle.calls.proofs.ExpandKept.{entered_is}
use Rattle.calls.proofs.Parts.{part_within}
use Rattle.lazy_fst.proofs.CallLaws.{at_entered}
use Rattle.rinkolza.specs.Exported.{session_words, session_at, number_of, answer_of, handed_part, Left, open_words, expand_words, final_weight_words, run_words, records_words}
use Rattle.rinkolza.specs.Caller.{exported, part_of, weight_heard, said_by, heard, CallMade, lefts, heard_all, held_after}
use Rattle.rinkolza.proofs.WordLaws.{words_of_session}
use Rattle.rinkolza.proofs.Numbers.{Numbered, open_numbered, expand_numbered, final_numbered, run_numbered}

-- no words, no part
none_handed : (trs states : List ℕ) (n : ℕ) → words_of_part trs (handed_part states n []) ≡ []
unfolding room_with
none_handed trs states n = refl

pub room_of_lem : (trs : List ℕ) (a k : ℕ) → a + tr_size * k ≤ length trs → k ≤ limit → room_of tr_size (take (tr_size * k) (drop a trs)) ≡ k
unfolding room_with
room_of_lem trs a k h f = omega (arith, length-take (tr_size * k) (drop a trs), length-drop a trs, h, f)

-- the words of a part that lies within the slice name it
part_handed : (trs states : List ℕ) (n : ℕ) (p : Part) → p.first ≡ first_at states n → tr_size * (p.first - 1) + tr_size * p.count ≤ length trs → p.count ≤ limit
    → words_of_part trs (handed_part states n (words_of_part trs p)) ≡ words_of_part trs p
part_handed trs states n p e within few = go p.count refl (room_of_lem trs (tr_size * (p.first - 1)) p.count within few)
  where
    go : (k : ℕ) → p.count ≡ k → room_of tr_size (take (tr_size * p.count) (drop (tr_size * (p.first - 1)) trs)) ≡ p.count → words_of_part trs (handed_part states n (words_of_part trs p)) ≡ words_of_part trs p
    go zero z r = rw (r, z)
    go (suc k) z r = rw (r, z, ne_eqb (suc k) 0 (λ q. omega (arith, q)), ← e)

-- handing back in words: the part that the answer names holds the words that are handed back
pub handed_part_lem : (l : Lent) (s : Session) (m : Memory) (n : ℕ) → words_of_part m.trs (handed_part m.states n (records_of l s m n)) ≡ records_of l s m n
unfolding records_with tr_room_with part_with
handed_part_lem l s m n = go (entered_at l s m n) refl
  where
    d : Store
    d = store_of s m

    by_mark : (c : Composition) (b : Bool) → entered_at l s m n ≡ good c → let ws = cond b (words_of_part m.trs (part_at d n)) [] in words_of_part m.trs (handed_part m.states n ws) ≡ ws
    by_mark c false e = none_handed m.trs m.states n
    by_mark c true e =
        let a = at_entered l s m n c e in
        let form = (entered_is l s m c a.0).form in
        let fit = room_words tr_size m.trs s.used.trs form.trs_fit in
        let within = part_within d d form (omega arith) n a.1 in
        part_handed m.trs m.states n (part_at d n) refl (omega (arith, within, fit.1)) (omega (arith, within, fit.0))

    go : (x : Checked Composition) → entered_at l s m n ≡ x → words_of_part m.trs (handed_part m.states n (records_by x d n)) ≡ records_by x d n
    go (refused k) e = none_handed m.trs m.states n
    go (good c) e = by_mark c (eqb (expanded_at m.states n) 1) e

-- the number tells what was said: a refusal's is not 0
said_part : (old : List ℕ) (x : Checked Part) → Numbered x → let said = said_of part x in said_by (number_of said) (part (part_of (answer_of old said))) ≡ said
said_part old (good p) h = refl
said_part old (refused zero) h = absurd (omega (arith, h.0))
said_part old (refused (suc k)) h = refl

said_weight : (old : List ℕ) (x : Checked (Option ℕ)) → Numbered x → let said = said_of weight x in said_by (number_of said) (weight (weight_heard (answer_of old said))) ≡ said
said_weight old (good None) h = refl
said_weight old (good (Some w)) h = refl
said_weight old (refused zero) h = absurd (omega (arith, h.0))
said_weight old (refused (suc k)) h = refl

said_alone : (x : Checked (Unit {0})) → Numbered x → let said = said_of (λ u. accepted) x in said_by (number_of said) accepted ≡ said
said_alone (good u) h = refl
said_alone (refused zero) h = absurd (omega (arith, h.0))
said_alone (refused (suc k)) h = refl

-- What one exported call leaves: the caller reads off it what the call replies, and goes on with the world after it.
pub record Same (l : Lent) (w : World) (c : Call) (x : Left) : Type 0 where
  pub reply : heard c x ≡ (call_of l w c).reply
  pub session : x.session ≡ session_words (call_of l w c).world.session
  pub memory : x.memory ≡ (call_of l w c).world.memory

pub exported_same : (l : Lent) (s : Session) (m : Memory) (a b : ℕ) (c : Call) → Same l (record { session = s; memory = m }) c (exported l (session_words s) (a ∷ b ∷ []) m c)
unfolding call_with open_words expand_words final_weight_words run_words records_words
exported_same l s m a b (opening t k) = record { reply = ap (λ (x : Said). answered x (open_of t k s m).session) (said_alone (open_of t k s m).answer (open_numbered t k s m)); session = refl; memory = refl }
exported_same l s m a b (expand n) = record { reply = ap (λ (x : Said). answered x (expand_of l s m n).session) (said_part (a ∷ b ∷ []) (expand_of l s m n).answer (expand_numbered l s m n)); session = refl; memory = refl }
exported_same l s m a b (final_weight n) = record { reply = ap (λ (x : Said). answered x (final_weight_of l s m n).session) (said_weight (a ∷ b ∷ []) (final_weight_of l s m n).answer (final_numbered l s m n)); session = refl; memory = refl }
exported_same l s m a b (records n) = record { reply = ap handed (handed_part_lem l s m n); session = refl; memory = refl }
exported_same l s m a b run = record { reply = ap (λ (x : Said). answered x (run_of l s m).session) (said_alone (run_of l s m).answer (run_numbered l s m)); session = refl; memory = refl }

-- A list of exported calls: what the caller reads off is what the list of calls replies. So demand 3, a claim about those replies, carries over.
pub heard_all_lem : (l : Lent) (s : Session) (m : Memory) (ds : List CallMade) → heard_all ds (lefts l (session_words s) m ds) ≡ replies l (record { session = s; memory = m }) (map (λ d. d.call) ds)
unfolding lefts heard_all replies_with
heard_all_lem l s m [] = refl
heard_all_lem l s m (d ∷ ds) =
    let x = exported l (session_words s) (d.first ∷ d.second ∷ []) m d.call in
    let w = (call_of l (record { session = s; memory = m }) d.call).world in
    let same = exported_same l s m d.first d.second d.call in
    λ i. same.reply i ∷ ((λ j. heard_all ds (lefts l (same.session j) (same.memory j) ds)) ∙ heard_all_lem l w.session w.memory ds) i

-- and the words held after it are those of the world after it
pub held_after_lem : (l : Lent) (s : Session) (m : Memory) (ds : List CallMade)
    → let w = after l (record { session = s; memory = m }) (map (λ d. d.call) ds) in held_after l (session_words s) m ds ≡ record { session = session_words w.session; memory = w.memory }
unfolding held_after after_with
held_after_lem l s m [] = refl
held_after_lem l s m (d ∷ ds) =
    let w = (call_of l (record { session = s; memory = m }) d.call).world in
    let same = exported_same l s m d.first d.second d.call in
    (λ j. held_after l (same.session j) (same.memory j) ds) ∙ held_after_lem l w.session w.memory ds

-- the same for any nine words
pub heard_from : (l : Lent) (w : List ℕ) (m : Memory) (ds : List CallMade) → length w ≡ 9 → heard_all ds (lefts l w m ds) ≡ replies l (record { session = session_at w; memory = m }) (map (λ d. d.call) ds)
heard_from l w m ds e = ap (λ (v : List ℕ). heard_all ds (lefts l v m ds)) (sym (words_of_session w e)) ∙ heard_all_lem l (session_at w) m ds
