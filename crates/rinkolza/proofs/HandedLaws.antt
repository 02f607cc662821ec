-- Handing back in words: the first record and the count that `rinkolza_records` leaves are the part that expand answers. So where two worlds answer expand and
-- handing back alike, as a larger memory does (demand 3b), it leaves the same two words.
use mathlib.Core.Path.{◌≡◌, refl, sym, ap, ◌∙◌}
use mathlib.Core.Bool.{Bool, true, false}
use mathlib.Core.List.{List, [], ◌∷◌}
use mathlib.Core.Logic.{◌≢◌}
use Prim.Native.Nat.{ℕ, ◌-◌, ◌*◌}
use native.Mathlib.Omega.{arith}
use native.Mathlib.Decide.{ℕ_discrete}
use lib.Dec.{eqb}
use borrow.Author.Tests.{eq-eqb, ne_eqb}
use Rattle.words.specs.Labels.{Checked, good, refused}
use Rattle.words.specs.Settings.{Lent}
use Rattle.words.specs.Steps.{Composition}
use Rattle.calls.specs.Store.{Memory, Part, tr_size, room_of, expanded_at, first_at, part_at, part_with, room_with, tr_room_with}
use Rattle.calls.specs.Checks.{Session, store_of, entered_at}
use Rattle.calls.specs.Calls.{Outcome, words_of_part, expand_of, records_of, expand_with, records_with}
use Rattle.calls.specs.Sequences.{World, expand, records, part, answered, handed, turn_of, call_of, call_with}
use Rattle.calls.proofs.RecordLaws.{room_words}
use Rattle.calls.proofs.ExpandKept.{entered_is}
use Rattle.calls.proofs.Parts.{part_within}
use Rattle.lazy_fst.proofs.CallLaws.{at_entered}
use Rattle.rinkolza.specs.Exported.{session_words, part_words, handed_part, records_words}
use Rattle.rinkolza.proofs.CallerLaws.{room_of_lem}

none_room : room_of tr_size [] ≡ 0
unfolding room_with
none_room = refl

-- the words of an expanded state name its list
part_is : (l : Lent) (s : Session) (m : Memory) (n : ℕ) (c : Composition) → entered_at l s m n ≡ good c
    → let p = part_at (store_of s m) n in room_of tr_size (words_of_part m.trs p) ≢ 0 → handed_part m.states n (words_of_part m.trs p) ≡ p
unfolding tr_room_with part_with
part_is l s m n c e any =
    let d = store_of s m in
    let p = part_at d n in
    let a = at_entered l s m n c e in
    let form = (entered_is l s m c a.0).form in
    let fit = room_words tr_size m.trs s.used.trs form.trs_fit in
    let within = part_within d d form (omega arith) n a.1 in
    let count = room_of_lem m.trs (tr_size * (p.first - 1)) p.count (omega (arith, within, fit.1)) (omega (arith, within, fit.0)) in
    rw (ne_eqb (room_of tr_size (words_of_part m.trs p)) 0 any) (ap (λ (k : ℕ). record { first = first_at m.states n; count = k }) count)

-- where the part that is named has a record, expand answers it and changes nothing
pub names_part : (l : Lent) (s : Session) (m : Memory) (n : ℕ) → room_of tr_size (records_of l s m n) ≢ 0
    → expand_of l s m n ≡ record { answer = good (handed_part m.states n (records_of l s m n)); session = s; memory = m }
unfolding records_with expand_with
names_part l s m n = by_checks (entered_at l s m n) refl (eqb (expanded_at m.states n) 1) refl
  where
    by_checks : (x : Checked Composition) → entered_at l s m n ≡ x → (b : Bool) → eqb (expanded_at m.states n) 1 ≡ b → room_of tr_size (records_of l s m n) ≢ 0
        → expand_of l s m n ≡ record { answer = good (handed_part m.states n (records_of l s m n)); session = s; memory = m }
    by_checks (refused k) e b f h = absurd ((rw e at h) none_room)
    by_checks (good c) e false f h = absurd ((rw (e, f) at h) none_room)
    by_checks (good c) e true f h =
        rw (e, f) (ap (λ (p : Part). record { answer = good p; session = s; memory = m }) (sym (part_is l s m n c e (rw (e, f) at h))))

-- replies that hand back words, or say parts, that are equal
words_said : {ws vs : List ℕ} → handed ws ≡ handed vs → ws ≡ vs
words_said e = cc

part_said : {p q : Part} {s t : Session} → answered (part p) s ≡ answered (part q) t → p ≡ q
part_said e = cc

-- Two worlds that reply alike to handing back n, and to expand n where the first answers it by a list: the two words are the same, whatever the answers' slices held.
pub records_alike : (l : Lent) (w v : World) (n a b c d : ℕ) → (call_of l v (records n)).reply ≡ (call_of l w (records n)).reply
    → ((p : Part) → (call_of l w (expand n)).reply ≡ answered (part p) w.session → (call_of l v (expand n)).reply ≡ (call_of l w (expand n)).reply)
    → records_words l (session_words v.session) (c ∷ d ∷ []) v.memory n ≡ records_words l (session_words w.session) (a ∷ b ∷ []) w.memory n
unfolding call_with records_words
records_alike l w v n a b c d same again = ap part_words (go (ℕ_discrete (room_of tr_size (records_of l w.session w.memory n)) 0))
  where
    words : records_of l v.session v.memory n ≡ records_of l w.session w.memory n
    words = words_said same

    first : Part
    first = handed_part w.memory.states n (records_of l w.session w.memory n)

    go : Dec (room_of tr_size (records_of l w.session w.memory n) ≡ 0) → handed_part v.memory.states n (records_of l v.session v.memory n) ≡ first
    go (yes z) = rw (words, eq-eqb _ 0 z)
    go (no z) =
        let p = ap (λ (o : Outcome Part). (turn_of part o).reply) (names_part l w.session w.memory n z) in
        let q = ap (λ (o : Outcome Part). (turn_of part o).reply) (names_part l v.session v.memory n (λ y. z (sym (ap (room_of tr_size) words) ∙ y))) in
        part_said (sym q ∙ again first p ∙ p)
