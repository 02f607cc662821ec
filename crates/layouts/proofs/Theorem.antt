-- 02, 2.9: every earlier answer is the same, call by call and for every list of calls, up to the first that moves; none moves where the slices hold no more records than the old limit.
use mathlib.Core.Path.{◌≡◌, refl, sym, ap, ap₂, subst}
use mathlib.Core.List.{List, [], ◌∷◌}
use mathlib.Core.Logic.{◌⊎◌, inl, inr, ⊎_elim}
use Prim.Native.Nat.{ℕ, ◌≤◌}
use native.Mathlib.Omega.{arith}
use Rattle.words.specs.Settings.{Lent}
use Rattle.calls.specs.Store.{Memory}
use Rattle.calls.specs.Checks.{Session}
use Rattle.calls.specs.Calls.{Outcome, records_place, records_place_with}
use Rattle.calls.specs.Sequences.{World, Call, opening, expand, final_weight, records, run, Said, accepted, part, weight, answered, handed, Turn, said_of, turn_of, call_of, after_with, call_with, replies_with}
use Rattle.layouts.specs.Layout.{five}
use Rattle.layouts.specs.SameRecords.{new_states, whole_trs, SameWorld, Small, SmallCall, SmallCalls, Few, Many, Above, Moved, SameTurn, SameTurns, MovedAt, EarlierAnswers}
use Rattle.layouts.proofs.SameSteps.{Wide}
use Rattle.layouts.proofs.SameChecks.{Pair}
use Rattle.layouts.proofs.SameCalls.{Call2, expand_two, run_two, final_two, records_two, place_two}
use Rattle.layouts.proofs.SameOpenings.{open_two}

-- two worlds of one session, with K and J whole records of each sort
record Worlds (K J : ℕ) (o w : World) : Type 0 where
  session : o.session ≡ w.session
  pair : Pair K J o.memory w.memory w.session.used

same_world : {K J : ℕ} (o w : World) → Worlds K J o w → SameWorld o w
same_world o w h = record { session = h.session; memory = h.pair.same }

-- one call in both
record Turned (K J : ℕ) (t u : Turn) : Type 0 where
  reply : t.reply ≡ u.reply
  worlds : Worlds K J t.world u.world

abbrev Turn2 : ℕ → ℕ → World → Turn → Turn → Type 0
Turn2 K J o t u = Turned K J t u ⊎ Moved o t

module _ {K J : ℕ} (o m : Memory) where
  many : (s : Session) → Pair K J o m s.used → Wide K J → Many o
  many s h = ⊎_elim (λ x. inl (omega (arith, x, h.states, h.same.states))) (λ x. inr (omega (arith, x, h.trs, h.same.trs)))

  turned : {A : Type 0} (s : Session) (say : A → Said) (x y : Outcome A) → Pair K J o m s.used → Call2 K J s x y
      → Turn2 K J (record { session = s; memory = o }) (turn_of say x) (turn_of say y)
  turned s say x y h (inl a) = inl (record { reply = ap₂ (λ v t. answered (said_of say v) t) a.answer a.session; worlds = record { session = a.session; pair = a.pair } })
  turned s say x y h (inr v) = inr (record {
    many = many s h v.wide;
    refused = ⊎_elim (λ e. inl (x.session, ap (λ a. answered (said_of say a) x.session) e)) (λ e. inr (e.0, inl (ap₂ (λ a t. answered (said_of say a) t) e.1 e.2))) v.how;
  })

module _ {K J : ℕ} (l : Lent) (small : Small l) where
  -- on one session
  on_session : (s : Session) (o m : Memory) (c : Call) → SmallCall c → Pair K J o m s.used
      → Turn2 K J (record { session = s; memory = o }) (call_with five l (record { session = s; memory = o }) c) (call_of l (record { session = s; memory = m }) c)
  unfolding call_with
  on_session s o m (opening t k) few h = turned o m s (λ u. accepted) _ _ h (inl (open_two t k few s o m h))
  on_session s o m (expand n) few h = turned o m s part _ _ h (expand_two l small s o m h n)
  on_session s o m (final_weight n) few h = turned o m s weight _ _ h (final_two l small s o m h n)
  on_session s o m run few h = turned o m s (λ u. accepted) _ _ h (run_two l small s o m h)
  on_session s o m (records n) few h =
      ⊎_elim (λ e. inl (record { reply = ap handed e; worlds = record { session = refl; pair = h } }))
      (λ e. inr (record { many = many o m s h e.1; refused = inr (e.2, inr (ap handed e.0)) })) (records_two l small s o m h n)

  one_call : (o w : World) (c : Call) → SmallCall c → Worlds K J o w → Turn2 K J o (call_with five l o c) (call_of l w c)
  one_call o w c few h =
      subst (λ (s : Session). let v : World = record { session = s; memory = o.memory } in Turn2 K J v (call_with five l v c) (call_of l w c)) (sym h.session)
      (on_session w.session o.memory w.memory c few h.pair)

  -- lists of calls: the same, or up to the first call that moves
  all_calls : (cs : List Call) (o w : World) → SmallCalls cs → Worlds K J o w → SameTurns l o w cs ⊎ MovedAt l o w cs
  unfolding replies_with after_with
  all_calls [] o w few h = inl (record { replies = refl; world = same_world o w h })
  all_calls (c ∷ cs) o w few h = go (one_call o w c few.0 h) (λ x. all_calls cs (call_with five l o c).world (call_of l w c).world few.1 x)
    where
      o' : World
      o' = (call_with five l o c).world

      w' : World
      w' = (call_of l w c).world

      longer : (ds : List Call) → Turned K J (call_with five l o c) (call_of l w c) → SameTurns l o' w' ds → SameTurns l o w (c ∷ ds)
      longer ds t r = record { replies = ap₂ ◌∷◌ t.reply r.replies; world = r.world }

      go : Turn2 K J o (call_with five l o c) (call_of l w c) → (Worlds K J o' w' → SameTurns l o' w' cs ⊎ MovedAt l o' w' cs) → SameTurns l o w (c ∷ cs) ⊎ MovedAt l o w (c ∷ cs)
      go (inr v) rec = inr (record { before = []; call = c; rest = cs; split = refl; same = record { replies = refl; world = same_world o w h }; moved = v })
      go (inl t) rec =
          ⊎_elim (λ r. inl (longer cs t r))
          (λ r. inr (record {
            before = c ∷ r.before;
            call = r.call;
            rest = r.rest;
            split = ap (λ (ds : List Call). c ∷ ds) r.split;
            same = longer r.before t r.same;
            moved = r.moved;
          }))
          (rec t.worlds)

  -- no more whole records than the old limit: nothing moves
  module _ (few-states : K ≤ 65535) (few-trs : J ≤ 65535) where
    never : (o w : World) (t : Turn) → Worlds K J o w → Moved o t → ⊥
    never o w t h v = ⊎_elim (λ x. omega (arith, x, h.pair.states, h.pair.same.states, few-states)) (λ x. omega (arith, x, h.pair.trs, h.pair.same.trs, few-trs)) v.many

    one_few : (o w : World) (c : Call) → SmallCall c → Worlds K J o w → Turned K J (call_with five l o c) (call_of l w c)
    one_few o w c few h = ⊎_elim (λ t. t) (λ v. absurd (never o w (call_with five l o c) h v)) (one_call o w c few h)

    all_few : (cs : List Call) (o w : World) → SmallCalls cs → Worlds K J o w → SameTurns l o w cs
    unfolding replies_with after_with
    all_few [] o w few h = record { replies = refl; world = same_world o w h }
    all_few (c ∷ cs) o w few h =
        let t = one_few o w c few.0 h in
        let r = all_few cs (call_with five l o c).world (call_of l w c).world few.1 t.worlds in
        record { replies = ap₂ ◌∷◌ t.reply r.replies; world = r.world }

same_turn : {K J : ℕ} (t u : Turn) → Turned K J t u → SameTurn t u
same_turn t u h = record { reply = h.reply; world = same_world t.world u.world h.worlds }

-- "Every earlier answer for machines within the old limit, with room for the same number of records, is the same, except that 8, 13 and malformed sizes move."
pub earlier_answers : EarlierAnswers
earlier_answers l o w small h = record {
  call = λ c few. ⊎_elim (λ t. inl (same_turn (call_with five l o c) (call_of l w c) t)) inr (one_call l small o w c few worlds);
  calls = λ cs few. all_calls l small cs o w few worlds;
  call_few = λ c few x. same_turn (call_with five l o c) (call_of l w c) (one_few l small (states x) (trs x) o w c few worlds);
  calls_few = λ cs few x. all_few l small (states x) (trs x) cs o w few worlds;
  place = λ n. subst (λ (s : Session). (records_place_with five l s o.memory n ≡ records_place l w.session w.memory n) ⊎ (Many o.memory × Above s.used)) (sym h.session)
      (⊎_elim inl (λ v. inr (many o.memory w.memory w.session worlds.pair v.0, v.1)) (place_two l small w.session o.memory w.memory worlds.pair n));
}
  where
    worlds : Worlds (new_states w.memory) (whole_trs w.memory) o w
    worlds = record { session = h.session; pair = record { same = h.memory; states = refl; trs = refl } }

    states : Few o.memory → new_states w.memory ≤ 65535
    states x = omega (arith, x.0, h.memory.states)

    trs : Few o.memory → whole_trs w.memory ≤ 65535
    trs x = omega (arith, x.1, h.memory.trs)
