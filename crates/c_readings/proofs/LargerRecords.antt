-- Demand 3b at the border to C, where handing back is two words: a larger memory's `rinkolza_records` gives the same first record and count.
use mathlib.Core.Path.{◌≡◌, refl, sym, ◌∙◌, ap}
use mathlib.Core.Bool.{Bool, true, false, true≢false}
use mathlib.Core.List.{List, [], ◌∷◌, ◌++◌, Memᴰ as In}
use mathlib.Core.Logic.{⊎_elim}
use Prim.Native.Nat.{ℕ}
use Rattle.words.specs.Labels.{good}
use Rattle.words.specs.Settings.{Settings, Lent}
use Rattle.calls.specs.Store.{Memory}
use Rattle.calls.specs.Checks.{Session}
use Rattle.calls.specs.Calls.{open_of}
use Rattle.calls.specs.Sequences.{World, Call, opening, expand, final_weight, records, run, refusal, accepted, part, weight, Reply, answered, handed, call_of, replies, after, call_with}
use Rattle.readings.specs.Worlds.{world_of, OpeningsRefused}
use Rattle.readings.specs.Larger.{NoShorter, NoRoom, SameUntil}
use Rattle.readings.proofs.Demands.{demand_3}
use Rattle.readings.proofs.Consequences.{same_reply}
use Rattle.rinkolza.specs.Exported.{records_words, session_words}
use Rattle.rinkolza.proofs.HandedLaws.{records_alike}

-- a list of calls, and one more that opens nothing
one_more : (l : Lent) (w : World) (cs : List Call) (x : Call) → OpeningsRefused l w cs → ((v : World) → OpeningsRefused l v (x ∷ [])) → OpeningsRefused l w (cs ++ (x ∷ []))
one_more l w [] x h k = k w
one_more l w (opening s j ∷ cs) x h k = (h.0, one_more l (call_of l w (opening s j)).world cs x h.1 k)
one_more l w (expand n ∷ cs) x h k = one_more l (call_of l w (expand n)).world cs x h k
one_more l w (final_weight n ∷ cs) x h k = one_more l (call_of l w (final_weight n)).world cs x h k
one_more l w (records n ∷ cs) x h k = one_more l (call_of l w (records n)).world cs x h k
one_more l w (run ∷ cs) x h k = one_more l (call_of l w run).world cs x h k

-- no part that is handed back, and no list that is answered, is a no-room refusal
abbrev is_refusal : Reply → Bool
is_refusal (answered (refusal k) s) = true
is_refusal (answered accepted s) = false
is_refusal (answered (part p) s) = false
is_refusal (answered (weight x) s) = false
is_refusal (handed ws) = false

no_refusal : (r : Reply) → is_refusal r ≡ false → NoRoom r → ⊥
no_refusal r e h = true≢false (sym (ap is_refusal h.1) ∙ e)

-- after any list of calls, none of which was refused for lack of room in the smaller memory
pub larger_records : (s : Settings) (l : Lent) (got : Session) (m : Memory) → (open_of s l got m).answer ≡ good tt
    → (got' : Session) (big : Memory) → NoShorter m big
    → (cs : List Call) → OpeningsRefused l (world_of (open_of s l got m)) cs → ((r : Reply) → In r (replies l (world_of (open_of s l got m)) cs) → NoRoom r → ⊥)
    → (n a b c d : ℕ)
    → let w = after l (world_of (open_of s l got m)) cs in
    let v = after l (world_of (open_of s l got' big)) cs in
    records_words l (session_words v.session) (c ∷ d ∷ []) v.memory n ≡ records_words l (session_words w.session) (a ∷ b ∷ []) w.memory n
unfolding call_with
larger_records s l got m e got' big N cs R none n a b c d =
    records_alike l (after l w₀ cs) (after l v₀ cs) n a b c d
    (⊎_elim (λ h. absurd (no_refusal _ refl h)) sym (same_reply l w₀ v₀ cs (records n) (until (records n) (λ v. tt)) none))
    (λ p h. ⊎_elim (λ i. absurd (no_refusal _ (ap is_refusal h) i)) sym (same_reply l w₀ v₀ cs (expand n) (until (expand n) (λ v. tt)) none))
  where
    w₀ : World
    w₀ = world_of (open_of s l got m)

    v₀ : World
    v₀ = world_of (open_of s l got' big)

    until : (x : Call) → ((v : World) → OpeningsRefused l v (x ∷ [])) → SameUntil (replies l w₀ (cs ++ (x ∷ []))) (replies l v₀ (cs ++ (x ∷ [])))
    until x k = (((demand_3 s l got m e).2 (cs ++ (x ∷ [])) (one_more l w₀ cs x R k)).larger got' big N).same
