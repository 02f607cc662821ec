-- A caller that owns its memory, at the border to C: the words that exported calls leave after an accepted opening are those of a world of demand 3, and in each such world the
-- functions that do not check may be called, and leave what the exported calls leave.
use mathlib.Core.Path.{◌≡◌, refl, sym, ◌∙◌, ap, subst}
use mathlib.Core.Bool.{Bool, true, false, ◌&&◌}
use mathlib.Core.List.{List, [], ◌∷◌, flat_map, map}
use mathlib.Core.Logic.{◌≢◌}
use Rattle.std.specs.Prelude.{Option, None, Some}
use Rattle.std.proofs.lemmas.Option.{none-some, same_Some}
use Prim.Native.Nat.{ℕ, zero, suc, ◌+◌, ◌-◌, ◌*◌, ◌<◌}
use native.Mathlib.Numerals.{unary_clauses}
use native.Mathlib.Omega.{arith}
use lib.ListN.{length, get_or}
use borrow.Author.Tests.{eq-eqb}
use Rattle.lists.specs.Lists.{At, interval}
use Rattle.lists.proofs.Places.{at_place}
use Rattle.words.specs.Labels.{Checked, good, refused}
use Rattle.words.specs.Weights.{Kind, kind_of}
use Rattle.words.specs.Matches.{inputs, outputs}
use Rattle.words.specs.Settings.{Settings, Lent, composition_of}
use Rattle.words.specs.Steps.{Composition}
use Rattle.calls.specs.Store.{Memory, Part}
use Rattle.calls.specs.Calls.{Outcome, open_of}
use Rattle.calls.specs.Sequences.{World, Call, expand, Said, accepted, part, weight, said_of, after}
use Rattle.calls.specs.Listing.{settings_of}
use Rattle.calls.specs.Owned.{final_weights_of}
use Rattle.calls.proofs.ExpandKept.{entered_is}
use Rattle.list_facts.specs.Memo.{Remembers}
use Rattle.list_facts.proofs.Entries.{nothing_remembered}
use Rattle.final_weights.specs.Weights.{weight_words, weights_words}
use Rattle.readings.specs.Worlds.{world_of, expand_in, Accepted, OpeningsRefused}
use Rattle.readings.specs.Owned.{InScope, piece_in, next_in, up_to, PieceIs, WeightsAre, Later, at_once, by_calls, by_piece}
use Rattle.readings.proofs.InScope.{scope_side, scope_kept}
use Rattle.readings.proofs.Owned.{owned}
use Rattle.rinkolza.specs.Exported.{session_words, session_at, six, nine, Left, leaves, number_of, answer_of, in_words, if_sized, open_words, expand_words, final_weight_words}
use Rattle.rinkolza.specs.Trusted.{piece_words, final_weights_words}
use Rattle.rinkolza.specs.Caller.{CallMade, CallerHolds, held_after}
use Rattle.rinkolza.proofs.Numbers.{Numbered, open_numbered, expand_numbered}
use Rattle.rinkolza.proofs.CallerLaws.{held_after_lem}
use Rattle.c_readings.specs.Trusted.{holds_of, world_held, left_to, calls_of, held_from, Required, ServeAlso, expand_made, expands_made, piece_from, PieceLeaves, WeightsLeave, OwnsInWords}

-- a refusal's number is not 0: so 0 says that the call is accepted
zero_accepts : {A : Type 0} (say : A → Said) (x : Checked A) → Numbered x → number_of (said_of say x) ≡ 0 → (a : A) × (x ≡ good a)
zero_accepts say (good a) h e = (a, refl)
zero_accepts say (refused k) h e = absurd (omega (arith, h.0, e))

module _ (settings : List ℕ) (l : Lent) (session : List ℕ) (m : Memory) where
  abbrev left : Left
  left = open_words settings l session m

  abbrev o : Outcome (Unit {0})
  o = open_of (settings_of settings) l (session_at session) m

  -- an opening in words that returns 0 is an accepted opening, and leaves its world's words
  open_accepted : left.number ≡ 0 → (o.answer ≡ good tt) × (left_to left ≡ holds_of (world_of o))
  unfolding open_words
  open_accepted = by_size (six settings && nine session)
    where
      by_size : (b : Bool) → let x = if_sized b session [] m (in_words (λ u. accepted) [] o) in x.number ≡ 0 → (o.answer ≡ good tt) × (left_to x ≡ holds_of (world_of o))
      by_size true e = ((zero_accepts (λ u. accepted) o.answer (open_numbered (settings_of settings) l (session_at session) m) e).1, refl)
      by_size false e = absurd (omega (arith, e))

  -- so what a list of exported calls leaves after it are the words of a world of demand 3
  opened_in_words : left.number ≡ 0 → (ds : List CallMade) → OpeningsRefused l (world_held (left_to left)) (calls_of ds)
      → (w : World) × InScope (settings_of settings) l w × (held_after l left.session left.memory ds ≡ holds_of w)
  opened_in_words e ds refuses =
      let p = open_accepted e in (
        after l (world_of o) (calls_of ds),
        record {
          got = session_at session;
          memory = m;
          opens = p.0;
          calls = calls_of ds;
          refuses = subst (λ (h : CallerHolds). OpeningsRefused l (world_held h) (calls_of ds)) p.1 refuses;
          leads = refl;
        },
        ap (λ (h : CallerHolds). held_after l h.session h.memory ds) p.1 ∙ held_after_lem l o.session o.memory ds,
      )

  -- and the functions that do not check may be called there
  pub requires_met : left.number ≡ 0 → (ds : List CallMade) → OpeningsRefused l (world_held (left_to left)) (calls_of ds) → Required l (held_after l left.session left.memory ds)
  requires_met e ds refuses = let r = opened_in_words e ds refuses in subst (Required l) (sym r.2) (λ e. (owned (settings_of settings) l r.0 r.1).passes)

-- the calls of expansions are those of `up_to`
calls_made : (a b : ℕ) (ns : List ℕ) → calls_of (map (expand_made a b) ns) ≡ map expand ns
calls_made a b [] = refl
calls_made a b (n ∷ ns) = ap (λ (cs : List Call). expand n ∷ cs) (calls_made a b ns)

held_expands : (l : Lent) (w : World) (a b n j : ℕ) → held_from l w (expands_made a b n j) ≡ holds_of (up_to l w n j)
held_expands l w a b n j =
    held_after_lem l w.session w.memory (expands_made a b n j) ∙ ap (λ (cs : List Call). holds_of (after l w cs)) (calls_made a b (interval n (j - n)))

-- what an exported expansion returns, in the words of a world
expand_returns : (l : Lent) (w : World) (a b n : ℕ) (x : Checked Part) → (expand_in l w n).answer ≡ x
    → let h = holds_of w in (expand_words l h.session (a ∷ b ∷ []) h.memory n).number ≡ number_of (said_of part x)
unfolding expand_words
expand_returns l w a b n x e = ap (λ (y : Checked Part). number_of (said_of part y)) e

-- A piece of a run in words is a list of exported expansions, since in calls it is one.
pub trusted_same : (s : Settings) (l : Lent) (w : World) → InScope s l w → (n k a b : ℕ) → PieceLeaves l w n k (piece_from l w n k a b)
unfolding piece_words
trusted_same s l w r n k a b =
    record {
      leaves = λ c d. held_expands l w c d n (next_in l w n k) ∙ ap holds_of (sym p.leaves);
      passes = λ c d j i h.
          let q = p.passes j i h in
          subst (λ (x : CallerHolds). (expand_words l x.session (c ∷ d ∷ []) x.memory j).number ≡ 0) (sym (held_expands l w c d n j)) (expand_returns l (up_to l w n j) c d j (good q.0) q.1);
      answers = refl;
      accepts = (accepts, λ x. ap number x.1);
      ends = λ e. p.ends (accepts e);
      stops = stops o.answer refl;
    }
  where
    o : Outcome (Unit {0})
    o = piece_in l w n k

    p : PieceIs l w n k
    p = (owned s l w r).piece n k

    number : Checked (Unit {0}) → ℕ
    number x = number_of (said_of (λ u. accepted) x)

    -- a refusal is that of an expansion
    numbered : (x : Checked (Unit {0})) → o.answer ≡ x → Numbered x
    numbered (good u) e = tt
    numbered (refused j) e = subst Numbered (p.stops j e).1 (expand_numbered l o.session o.memory (next_in l w n k))

    accepts : number o.answer ≡ 0 → Accepted o
    accepts = zero_accepts (λ u. accepted) o.answer (numbered o.answer refl)

    stops : (x : Checked (Unit {0})) → o.answer ≡ x → number x ≢ 0
        → (next_in l w n k < o.session.used.states)
        × ((c d : ℕ) → (expand_words l (session_words o.session) (c ∷ d ∷ []) o.memory (next_in l w n k)).number ≡ number x)
    stops (good u) e h = absurd (h refl)
    stops (refused j) e h = let q = p.stops j e in (q.0, λ c d. expand_returns l (world_of o) c d (next_in l w n k) (refused j) q.1)

-- the two words of a weight stand at its place
words_at_lem : (ws : List (Option ℕ)) (n : ℕ) (x : Option ℕ) → At ws n x
    → weight_words x ≡ get_or (flat_map weight_words ws) (2 * n) 0 ∷ get_or (flat_map weight_words ws) (2 * n + 1) 0 ∷ []
unfolding flat_map
words_at_lem [] n x h = absurd (none-some _ h)
words_at_lem (None ∷ ws) zero x h = ap weight_words (sym (same_Some _ _ h))
words_at_lem (Some v ∷ ws) zero x h = ap weight_words (sym (same_Some _ _ h))
words_at_lem (None ∷ ws) (suc n) x h = simp unary_clauses (simp unary_clauses at (words_at_lem ws n x h))
words_at_lem (Some v ∷ ws) (suc n) x h = simp unary_clauses (simp unary_clauses at (words_at_lem ws n x h))

-- All final weights in one go leave the words that the exported final weights leave, since in calls they are those.
pub weights_same : (s : Settings) (l : Lent) (w : World) → InScope s l w
    → (old : List ℕ) → length old ≡ 2 * w.session.used.states → WeightsLeave l w old (final_weights_words l (session_words w.session) old w.memory)
unfolding final_weights_words final_weight_words
weights_same s l w r old h = rw (eq-eqb (length old) (2 * w.session.used.states) h) (go (final_weights_of l w.session w.memory) refl)
  where
    are : WeightsAre l w
    are = (owned s l w r).weights

    go : (ws : Checked (List (Option ℕ))) → final_weights_of l w.session w.memory ≡ ws
        → WeightsLeave l w old (leaves (number_of (said_of (λ x. accepted) ws)) (session_words w.session) (weights_words old ws) w.memory)
    go (good ws) e = record {
      each = λ z n a b i.
          let all = are.each ws e in
          let x = at_place ws n (omega (arith, all.0)) in
          let y = all.1 n x.0 x.1 in
          (ap (λ (q : Checked (Option ℕ)). number_of (said_of weight q)) y, ap (λ (q : Checked (Option ℕ)). answer_of (a ∷ b ∷ []) (said_of weight q)) y ∙ words_at_lem ws n x.0 x.1);
      stops = λ z. absurd (z refl);
    }
    go (refused k) e = let twelve = (are.stops k e).0 in record { each = λ z. absurd (omega arith); stops = λ z. (twelve, refl) }

-- A world of demand 3 has the kind of its opening, so that what is remembered under the one session is so under the other.
scope_kind : (s : Settings) (l : Lent) (w : World) → InScope s l w → kind_of w.session.settings.kind ≡ kind_of s.kind
scope_kind s l w r =
    let side = scope_side s l w r in
    let sound = (scope_kept s l w r side.0 side.1).sound in
    sym (ap (λ (c : Composition). c.kind) (entered_is l w.session w.memory (composition_of s l side.0) sound.enters).composition)

serve_also : (s : Settings) (l : Lent) (w u : World) → InScope s l w → InScope s l u → ServeAlso l (holds_of w) (holds_of u)
serve_also s l w u r q = λ memo1 memo2 h e.
    subst (λ (k : Kind). Remembers outputs k l.m1 memo1 × Remembers inputs k l.m2 memo2) (scope_kind s l w r ∙ sym (scope_kind s l u q)) (h refl)

-- Whole: the checks pass in every world of demand 3, and whatever such a caller does, it comes to such a world again.
pub owned_in_words : (s : Settings) (l : Lent) (w : World) → InScope s l w → OwnsInWords l w
unfolding piece_words
owned_in_words s l w r =
    let owns = owned s l w r in
    let later : (u : World) → Later l u w → Required l (holds_of u) = λ u x e. (owned s l u (owns.later u x).0).passes in
    let also : (u : World) → Later l u w → ServeAlso l (holds_of w) (holds_of u) = λ u x. serve_also s l w u r (owns.later u x).0 in
    record {
      required = λ e. owns.passes;
      later = later;
      calls = λ ds refuses. subst (Required l) (sym (held_after_lem l w.session w.memory ds)) (later _ (by_calls w (calls_of ds) refuses (at_once _ refl)));
      pieces = λ n k a b. later _ (by_piece w n k (at_once _ refl));
      zeros = λ e. (nothing_remembered _ _ _, nothing_remembered _ _ _);
      memos_later = also;
      memos_calls = λ ds refuses. subst (ServeAlso l (holds_of w)) (sym (held_after_lem l w.session w.memory ds)) (also _ (by_calls w (calls_of ds) refuses (at_once _ refl)));
      memos_pieces = λ n k a b. also _ (by_piece w n k (at_once _ refl));
      piece = trusted_same s l w r;
      weights = weights_same s l w r;
    }
