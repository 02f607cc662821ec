-- What is found along the chain is what `find` finds; else the record has the old head for its next, and the head is new.
use mathlib.Core.Path.{◌≡◌, ◌∙◌}
use mathlib.Core.List.{List, []}
use Prim.Native.Nat.{ℕ}
use native.Mathlib.Omega.{arith}
use Rattle.std.proofs.Common.{get_or}
use Rattle.lists.specs.Lists.{first, linked}
use Rattle.words.specs.Steps.{Triple}
use Rattle.calls.specs.Store.{state_size, triple_at, next_at, same_triple, slot, head_of, find, add_with, state_room_with}
use Rattle.calls.proofs.RecordLaws.{room_words}
use Rattle.stored_steps.specs.Chains.{Chained}
use Rattle.stored_steps.proofs.Chains.{find_falling}
use Rattle.compose_state_tuple.specs.Meaning.{tuple_means}
use Rattle.store_records.specs.Meaning.{stored}
use Rattle.state_table.specs.Meaning.{link_means}
use Rattle.state_table.proofs.Placed.{placed_found, missing, placed_new}
use Rattle.state_table.proofs.placing.find_or_add.Goals as goal

-- the word that is read is the head of the triple's chain
head_is : (heads : List ℕ) (t : Triple) (at word : ℕ) → at ≡ slot heads t → word ≡ get_or heads at 0 → word ≡ head_of heads t
unfolding head_of
head_is heads t at word s e = rw (← s) e

-- what is found from there
found : (heads states trs : List ℕ) (used k head link : ℕ) (t : Triple) → Chained (stored heads states trs used k) → head ≡ head_of heads t
    → link_means link ≡ first (λ n. same_triple (triple_at states n) t) (linked (next_at states) head head) → link_means link ≡ find (stored heads states trs used k) t
found heads states trs used k head link t p h e = e ∙ find_falling (stored heads states trs used k) p t head h

pub link_along-link-requires : goal.link_along-link-requires
unfolding state_room_with head_of
link_along-link-requires c =
    let a = c.args in
    let p = (c.requires [] 0).0 in
    let h = head_is a.heads.now (tuple_means a.tuple) _ _ c.slot-at.ensures c.word-head.ensures in
    let low = rw (← h) at (p.head (slot a.heads.now (tuple_means a.tuple))) in
    (omega (arith, low, p.fit), λ n h. p.next n (omega (arith, low)))

pub returns-then-link-ne0 : goal.returns-then-link-ne0
returns-then-link-ne0 c =
    let a = c.args in
    let t = tuple_means a.tuple in
    let h = head_is a.heads.now t _ _ c.slot-at.ensures c.word-head.ensures in
    λ trs k. placed_found a.heads.now a.states.now trs a.used k _ t c.if-link-ne0.true (found a.heads.now a.states.now trs a.used k _ _ t (c.requires trs k).0 h c.link_along-link.ensures)

pub push_state-requires : goal.push_state-requires
push_state-requires c =
    let a = c.args in
    let t = tuple_means a.tuple in
    let h = head_is a.heads.now t _ _ c.slot-at.ensures c.word-head.ensures in
    (c.requires [] 0).1
    (missing _ (stored a.heads.now a.states.now [] a.used 0) t c.if-link-ne0.false (found a.heads.now a.states.now [] a.used 0 _ _ t (c.requires [] 0).0 h c.link_along-link.ensures))

pub overflow_add-used : goal.overflow_add-used
overflow_add-used c =
    let a = c.args in
    let t = tuple_means a.tuple in
    let h = head_is a.heads.now t _ _ c.slot-at.ensures c.word-head.ensures in
    let r = (c.requires [] 0).1
    (missing _ (stored a.heads.now a.states.now [] a.used 0) t c.if-link-ne0.false (found a.heads.now a.states.now [] a.used 0 _ _ t (c.requires [] 0).0 h c.link_along-link.ensures)) in
    omega (arith, r, (room_words state_size a.states.now _ r).0)

pub returns : goal.returns
unfolding add_with head_of
returns c =
    let a = c.args in
    let t = tuple_means a.tuple in
    let h = head_is a.heads.now t _ _ c.slot-at.ensures c.word-head.ensures in
    λ trs k.
    placed_new a.heads.now a.states.now _ _ trs a.used k t
    (missing _ (stored a.heads.now a.states.now trs a.used k) t c.if-link-ne0.false (found a.heads.now a.states.now trs a.used k _ _ t (c.requires trs k).0 h c.link_along-link.ensures))
    (rw (c.store.ensures, c.push_state.ensures, c.word-head.ensures, c.slot-at.ensures))
