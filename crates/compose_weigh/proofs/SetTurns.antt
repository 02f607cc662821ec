-- A set while it is filled, and the marks of its triples while the earlier steps are walked.
use mathlib.Core.Path.{◌≡◌, refl, sym, ◌∙◌, ap, subst}
use mathlib.Core.Bool.{Bool, true, false, not, ◌&&◌, ◌||◌, and-true, and-false, or-false, or-true, or_assoc, true≢false, false≢true}
use mathlib.Core.List.{List, ◌∷◌}
use Rattle.std.specs.Prelude.{Option, None, Some}
use Rattle.std.proofs.lemmas.Option.{none-some, same_Some}
use Prim.Native.Nat.{ℕ, suc, ◌+◌, ◌-◌, ◌*◌, ◌/◌, ◌≤◌, ◌<◌, min}
use native.Mathlib.Omega.{arith}
use lib.Dec.{eqb, leb}
use lib.ListN.{length, get_or, set, length-set, replicate, length-replicate}
use lib.Seq.{get_or-set_same, get_or-set_other}
use borrow.Author.Tests.{leb-true, leb-false}
use Rattle.lists.proofs.Put.{length_put}
use Rattle.lists.proofs.Places.{zeros}
use Rattle.words.specs.Labels.{Checked, good}
use Rattle.words.specs.Machines.{limit}
use Rattle.words.specs.Steps.{Triple, Step}
use Rattle.calls.specs.Store.{Store, state_size, room_of, state_room, tr_room, triple_at, head_of, same_triple, find, state_record, add, add_with, room_with, state_room_with}
use Rattle.calls.proofs.RecordLaws.{room_same}
use Rattle.calls.proofs.ChainLaws.{same_triple_lem, same_self}
use Rattle.triple_set.specs.Sets.{set_of, Headed, is_found, holds, take_if, take_of, mark_if, mark_at, mark_of, with_room}
use Rattle.triple_set.proofs.SetLaws.{set_sound, holds_none, holds_added, headed_added}
use Rattle.compose_moves.specs.Walks.{gives, asked}
use Rattle.compose_weigh.specs.Weigh.{reached_within, missing}
use Rattle.compose_weigh.specs.Windows.{set_room, new_within, Ahead, Filled}
use Rattle.compose_weigh.proofs.WeighLaws.{ahead_next, within_next, less}
use Rattle.compose_weigh.proofs.AskedLaws.{within_step}
use Rattle.compose_weigh.proofs.CountLaws.{one, but, and_swap, new_same, new_most, new_step, new_but}

once : (p r : Bool) → p && not (p && r) ≡ p && not r
once true r = refl
once false r = refl

all_earlier : (p r : Bool) → p && not r ≡ false → p && r ≡ p && true
all_earlier false r e = refl
all_earlier true true e = refl
all_earlier true false e = absurd (true≢false e)

and_first : (p q : Bool) → p && q ≡ true → true ≡ p
and_first true q e = refl
and_first false q e = absurd (false≢true e)

add_room : (d : Store) (t : Triple) → state_room (add d t).memory ≡ state_room d.memory
unfolding add_with state_room_with
add_room d t = room_same state_size d.memory.states (add d t).memory.states (length_put d.memory.states (state_size * d.used.states) (state_record t (head_of d.memory.heads t)))

module _ (P : Triple → Bool) (k : ℕ) (steps : List (Checked Step)) (room : ℕ) (d : Store) (fill : Filled P k steps room d) where
  -- no more triples than steps, so a set that is full has taken one
  pub held_most : d.used.states ≤ k
  held_most = let n = new_most P k steps in let e = fill.number in omega (arith, n, e)

  module _ (s : Step) (others : List (Checked Step)) (ahead : Ahead k steps (good s ∷ others)) where
    abbrev earlier : Bool
    earlier = reached_within s.to k steps

    within_other : (u : Triple) → same_triple s.to u ≡ false → reached_within u (suc k) steps ≡ reached_within u k steps
    within_other u p = within_next u k steps s others ahead ∙ (ap (λ b. reached_within u k steps || b) p ∙ or-false (reached_within u k steps))

    within_this : reached_within s.to (suc k) steps ≡ true
    within_this = within_next s.to k steps s others ahead ∙ (ap (λ b. earlier || b) (same_self s.to) ∙ or-true earlier)

    -- its target lacks P or was held before
    skipped : (P s.to && not earlier) ≡ false → Filled P (suc k) steps room d
    skipped e = record {
      chained = fill.chained;
      holding = λ u. by_same u (same_triple s.to u) refl;
      number = fill.number ∙ (let n = new_step P k steps s others ahead in let z = ap one e in omega (arith, n, z));
      fits = fill.fits;
      room_kept = fill.room_kept;
    }
      where
        by_same : (u : Triple) (b : Bool) → same_triple s.to u ≡ b → holds d u ≡ (P u && reached_within u (suc k) steps)
        by_same u false p = fill.holding u ∙ ap (λ x. P u && x) (sym (within_other u p))
        by_same u true p = subst (λ x. holds d x ≡ (P x && reached_within x (suc k) steps)) (same_triple_lem s.to u p) (fill.holding s.to ∙ (all_earlier (P s.to) earlier e ∙ ap (λ x. P s.to && x) (sym within_this)))

    -- it is added
    added : (P s.to && not earlier) ≡ true → d.used.states < state_room d.memory → Filled P (suc k) steps room (add d s.to)
    unfolding add_with
    added e l = record {
      chained = headed_added d fill.chained s.to l;
      holding = λ u. holds_added d fill.chained s.to l u ∙ by_same u (same_triple s.to u) refl;
      number = let m = fill.number in let n = new_step P k steps s others ahead in let z = ap one e in omega (arith, m, n, z);
      fits = let r = fill.room_kept in omega (arith, l, r);
      room_kept = add_room d s.to ∙ fill.room_kept;
    }
      where
        by_same : (u : Triple) (b : Bool) → same_triple s.to u ≡ b → (holds d u || same_triple s.to u) ≡ (P u && reached_within u (suc k) steps)
        by_same u false p = ap (λ b. holds d u || b) p ∙ (or-false (holds d u) ∙ (fill.holding u ∙ ap (λ x. P u && x) (sym (within_other u p))))
        by_same u true p = subst (λ x. (holds d x || same_triple s.to x) ≡ (P x && reached_within x (suc k) steps)) (same_triple_lem s.to u p)
            (ap (λ b. holds d s.to || b) (same_self s.to) ∙ (or-true (holds d s.to) ∙ and_first (P s.to) (not earlier) e ∙ sym (ap (λ x. P s.to && x) within_this ∙ and-true (P s.to))))

    abbrev Turn : Bool × Store → Type 0
    Turn x = (x.0 ≡ true → (x.1 ≡ d) × (room ≤ d.used.states)) × (x.0 ≡ false → Filled P (suc k) steps room x.1)

    by_room : (P s.to && not earlier) ≡ true → (b : Bool) → leb (state_room d.memory) d.used.states ≡ b → Turn (with_room b d s.to)
    by_room e true p = (λ q. (refl, let l = leb-true (state_room d.memory) d.used.states p in let r = fill.room_kept in omega (arith, l, r)), λ q. absurd (true≢false q))
    by_room e false p = (λ q. absurd (false≢true q), λ q. added e (leb-false _ _ p))

    by_wanted : (b : Bool) → (P s.to && not earlier) ≡ b → Turn (take_if b d s.to)
    by_wanted true e = by_room e (leb (state_room d.memory) d.used.states) refl
    by_wanted false e = (λ q. absurd (false≢true q), λ q. skipped e)

    -- the step's target is offered: the set was full for it, or holds what it should after it
    pub offered : (x : Bool × Store) → x ≡ take_of (P s.to) d s.to → Turn x
    unfolding take_of
    offered x e =
        let z : (P s.to && not (holds d s.to)) ≡ (P s.to && not earlier) = ap (λ b. P s.to && not b) (fill.holding s.to) ∙ once (P s.to) earlier in
        subst Turn (sym e) (subst (λ b. Turn (take_if b d s.to)) (sym z) (by_wanted (P s.to && not earlier) refl))

-- the marked records of a set are those whose triple has Q
abbrev pub Marked : Store → List ℕ → (Triple → Bool) → Type 0
Marked d marks Q = (t : Triple) (n : ℕ) → find d t ≡ Some n → eqb (get_or marks n 0) 0 ≡ not (Q t)

-- Q, or one triple more
abbrev pub or_this : (Triple → Bool) → Triple → Triple → Bool
or_this Q a t = Q t || same_triple a t

module _ (d : Store) (marks : List ℕ) (a : Triple) where
  mark_length : length (mark_of d marks a).1 ≡ length marks
  unfolding mark_of
  mark_length = by_found (find d a)
    where
      by_mark : (n : ℕ) (b : Bool) → length (mark_if b marks n).1 ≡ length marks
      by_mark n true = length-set marks n 1
      by_mark n false = refl

      by_found : (o : Option ℕ) → length (mark_at o marks).1 ≡ length marks
      by_found None = refl
      by_found (Some n) = by_mark n (eqb (get_or marks n 0) 0)

  mark_most : (mark_of d marks a).0 ≤ 1
  unfolding mark_of
  mark_most = by_found (find d a)
    where
      by_mark : (n : ℕ) (b : Bool) → (mark_if b marks n).0 ≤ 1
      by_mark n true = omega arith
      by_mark n false = omega arith

      by_found : (o : Option ℕ) → (mark_at o marks).0 ≤ 1
      by_found None = omega arith
      by_found (Some n) = by_mark n (eqb (get_or marks n 0) 0)

  -- at most one is marked, in as many words
  pub mark_small : (r : ℕ) (marks' : List ℕ) → (r, marks') ≡ mark_of d marks a → (r ≤ 1) × (length marks' ≡ length marks)
  mark_small r marks' p = (subst (λ x. x ≤ 1) (sym (ap (λ x. x.0) p)) mark_most, ap (λ x. length x.1) p ∙ mark_length)

module _ (d : Store) (marks : List ℕ) (Q : Triple → Bool) (a : Triple) (marked : Marked d marks Q) where
  -- another triple's mark says the same of it
  other_mark : (t : Triple) → same_triple a t ≡ false → not (Q t) ≡ not (or_this Q a t)
  other_mark t p = ap not (sym (ap (λ b. Q t || b) p ∙ or-false (Q t)))

  module _ (chained : Headed d) (long : d.used.states ≤ length marks) where
    pub mark_marks : Marked d (mark_of d marks a).1 (or_this Q a)
    unfolding mark_of
    mark_marks t m e = by_found (find d a) refl (same_triple a t) refl
      where
        this : Marked d marks Q → same_triple a t ≡ true → find d a ≡ Some m
        this h p = ap (find d) (same_triple_lem a t p) ∙ e

        by_mark : (n : ℕ) → find d a ≡ Some n → (b : Bool) → eqb (get_or marks n 0) 0 ≡ b → (c : Bool) → same_triple a t ≡ c → eqb (get_or (mark_if b marks n).1 m 0) 0 ≡ not (or_this Q a t)
        by_mark n f true p true q =
            let z : m ≡ n = same_Some m n (sym (this marked q) ∙ f) in
            let l = (set_sound d chained a n f).0 in
            let g : get_or (set marks n 1) n 0 ≡ 1 = get_or-set_same marks n 1 0 (omega (arith, l, long)) in
            rw (z, g, q, or-true (Q t)) refl
        by_mark n f true p false q =
            let apart : m ≡ n → ⊥ = λ z. true≢false (sym (ap (λ u. same_triple u t) (sym (set_sound d chained a n f).1 ∙ (ap (triple_at d.memory.states) (sym z) ∙ (set_sound d chained t m e).1)) ∙ same_self t) ∙ q) in
            ap (λ x. eqb x 0) (get_or-set_other marks n m 1 0 apart) ∙ (marked t m e ∙ other_mark t q)
        by_mark n f false p true q =
            let z : n ≡ m = same_Some n m (sym f ∙ this marked q) in
            rw (← z, p, q, or-true (Q t)) refl
        by_mark n f false p false q = marked t m e ∙ other_mark t q

        by_found : (o : Option ℕ) → find d a ≡ o → (c : Bool) → same_triple a t ≡ c → eqb (get_or (mark_at o marks).1 m 0) 0 ≡ not (or_this Q a t)
        by_found (Some n) f c q = by_mark n f (eqb (get_or marks n 0) 0) refl c q
        by_found None f true q = absurd (none-some m (sym f ∙ this marked q))
        by_found None f false q = marked t m e ∙ other_mark t q

  -- the triples without Q that the steps go to are as many less as were marked
  pub mark_count : (P : Triple → Bool) (k : ℕ) (steps : List (Checked Step)) (room : ℕ) → Filled P k steps room d
      → (mark_of d marks a).0 + new_within (λ t. P t && not (or_this Q a t)) k steps ≡ new_within (λ t. P t && not (Q t)) k steps
  unfolding mark_of holds
  mark_count P k steps room fill =
      let n = new_but (λ t. P t && not (Q t)) a k steps in
      let same = new_same (λ t. P t && not (or_this Q a t)) (but (λ t. P t && not (Q t)) a) k steps (λ t. less (P t) (Q t) (same_triple a t)) in
      let m = by_found (find d a) refl (fill.holding a) in
      omega (arith, n, same, m)
    where
      by_mark : (n : ℕ) → find d a ≡ Some n → true ≡ (P a && reached_within a k steps) → (b : Bool) → eqb (get_or marks n 0) 0 ≡ b → (mark_if b marks n).0 ≡ one ((P a && not (Q a)) && reached_within a k steps)
      by_mark n f h b p = told b ∙ sym (ap one (and_swap (P a) (not (Q a)) (reached_within a k steps) ∙ (ap (λ x. x && not (Q a)) (sym h) ∙ (sym (marked a n f) ∙ p))))
        where
          told : (b : Bool) → (mark_if b marks n).0 ≡ one b
          told true = refl
          told false = refl

      by_found : (o : Option ℕ) → find d a ≡ o → is_found (find d a) ≡ (P a && reached_within a k steps) → (mark_at o marks).0 ≡ one ((P a && not (Q a)) && reached_within a k steps)
      by_found None f h = sym (ap one (and_swap (P a) (not (Q a)) (reached_within a k steps) ∙ ap (λ x. x && not (Q a)) (sym h ∙ ap is_found f)))
      by_found (Some n) f h = by_mark n f (sym (ap is_found f) ∙ h) (eqb (get_or marks n 0) 0) refl

-- A window while it is filled: k steps from `before` on, of those that come from `steps` on, up to `count`, with `rest` after them; e holds their targets that d lacks.
pub record Filling (d : Store) (before : ℕ) (steps rest : List (Checked Step)) (count room : ℕ) (e : Store) : Type 0 where
  pub k : ℕ
  pub counts : before + k ≡ count
  pub ahead : Ahead k steps rest
  pub recorded : 0 < k → d.used.trs + count ≤ tr_room d.memory
  pub filled : Filled (λ t. missing (find d t)) k steps room e

pub filling_none : (d : Store) (before : ℕ) (steps : List (Checked Step)) (heads records : List ℕ) → Headed (set_of heads records 0)
    → Filling d before steps steps before (room_of state_size records) (set_of heads records 0)
unfolding new_within reached_within state_room_with
filling_none d before steps heads records h = record {
  k = 0;
  counts = omega arith;
  ahead = refl;
  recorded = λ l. absurd (omega arith);
  filled = record { chained = h; holding = λ t. holds_none heads records t ∙ sym (and-false (missing (find d t))); number = refl; fits = omega arith; room_kept = refl };
}

module _ (d : Store) (before : ℕ) (steps rest : List (Checked Step)) (count room : ℕ) (e : Store) (f : Filling d before steps rest count room e)
    (s : Step) (others : List (Checked Step)) (there : rest ≡ good s ∷ others) (x : Bool × Store) (taken : x ≡ take_of (missing (find d s.to)) e s.to) where
  at : Ahead f.k steps (good s ∷ others)
  at = subst (Ahead f.k steps) there f.ahead

  turn : (x.0 ≡ true → (x.1 ≡ e) × (room ≤ e.used.states)) × (x.0 ≡ false → Filled (λ t. missing (find d t)) (suc f.k) steps room x.1)
  turn = offered (λ t. missing (find d t)) f.k steps room e f.filled s others at x taken

  -- its target is in the set, and there was room
  pub filling_next : d.used.trs + count < tr_room d.memory → x.0 ≡ false → Filling d before steps others (count + 1) room x.1
  filling_next l h = record {
    k = suc f.k;
    counts = let z = f.counts in omega (arith, z);
    ahead = ahead_next f.k steps s others at;
    recorded = λ _. omega (arith, l);
    filled = turn.1 h;
  }

  -- the set was full: it is as it was, and some step was taken
  pub filling_full : 0 < room → x.0 ≡ true → (x.1 ≡ e) × (0 < f.k)
  filling_full l h =
      let r = turn.0 h in
      let m = held_most (λ t. missing (find d t)) f.k steps room e f.filled in
      (r.0, omega (arith, l, m, r.1))

-- The triples of the set d while `left` of the `count` steps from `all` on are still to be walked, those from `rest` on: `old` are marked, those with Q.
pub record Earlier (P : Triple → Bool) (k : ℕ) (steps : List (Checked Step)) (d : Store) (count : ℕ) (all : List (Checked Step)) (marks : List ℕ) (left : ℕ) (rest : List (Checked Step)) (old : ℕ) : Type 0 where
  pub Q : Triple → Bool
  pub reached : (t : Triple) → (Q t || reached_within t left rest) ≡ reached_within t count all
  pub marked : Marked d marks Q
  pub number : old + new_within (λ t. P t && not (Q t)) k steps ≡ d.used.states

module _ (P : Triple → Bool) (k : ℕ) (steps : List (Checked Step)) (room : ℕ) (d : Store) (fill : Filled P k steps room d) (count : ℕ) (all : List (Checked Step)) where
  pub earlier_none : (n : ℕ) → Earlier P k steps d count all (replicate n 0) count all 0
  earlier_none n = record {
    Q = λ t. false;
    reached = λ t. refl;
    marked = λ t i e. rw (zeros n i) refl;
    number = let e = fill.number in let z = new_same (λ t. P t && true) P k steps (λ t. and-true (P t)) in omega (arith, e, z);
  }

  module _ (marks : List ℕ) (left : ℕ) (rest : List (Checked Step)) (old : ℕ) (e : Earlier P k steps d count all marks left rest old) where
    pub earlier_next : room ≤ length marks → 0 < left → (s : Step) (others : List (Checked Step)) → gives s others ≡ asked rest
        → (r : ℕ) (marks' : List ℕ) → (r, marks') ≡ mark_of d marks s.to → Earlier P k steps d count all marks' (left - 1) others (old + r)
    earlier_next long more s others there r marks' p =
        let l = fill.fits in
        let m = mark_count d marks e.Q s.to e.marked P k steps room fill in
        let n = e.number in
        let z : r ≡ (mark_of d marks s.to).0 = ap (λ x. x.0) p in
        record {
          Q = or_this e.Q s.to;
          reached = λ t. or_assoc (e.Q t) (same_triple s.to t) (reached_within t (left - 1) others) ∙ (ap (λ b. e.Q t || b) (sym (within_step t left rest s others more there)) ∙ e.reached t);
          marked = subst (λ x. Marked d x (or_this e.Q s.to)) (sym (ap (λ x. x.1) p)) (mark_marks d marks e.Q s.to e.marked fill.chained (omega (arith, l, long)));
          number = omega (arith, m, n, z);
        }

    -- where no step is left, those with Q are all that the steps go to
    pub earlier_done : ((t : Triple) → reached_within t left rest ≡ false) → old + new_within (λ t. P t && not (reached_within t count all)) k steps ≡ d.used.states
    earlier_done ended =
        let n = e.number in
        let z = new_same (λ t. P t && not (reached_within t count all)) (λ t. P t && not (e.Q t)) k steps (λ t. ap (λ b. P t && not b) (sym (e.reached t) ∙ (ap (λ b. e.Q t || b) (ended t) ∙ or-false (e.Q t)))) in
        omega (arith, n, z)

-- the room of a set's records
zeros_room : (n : ℕ) → room_of state_size (replicate n 0) ≡ min limit (n / state_size)
unfolding room_with
zeros_room n = ap (λ (k : ℕ). min limit (k / state_size)) (length-replicate {A = ℕ} n 0)

pub set_room_lem : room_of state_size (replicate 12288 0) ≡ set_room
set_room_lem = zeros_room 12288
