-- The place of a walk stays one: what is left of the matches holds what it held, and the walk goes on along its list.
use mathlib.Core.Path.{◌≡◌, refl, ap, ◌∙◌}
use mathlib.Core.Bool.{Bool, cond}
use mathlib.Core.List.{List, Memᴰ as In}
use mathlib.Core.Logic.{inl, inr}
use Prim.Native.Nat.{ℕ, zero, suc}
use native.Mathlib.Omega.{arith}
use Rattle.std.specs.Prelude.{None, Some, Ok, Err}
use Rattle.words.specs.Settings.{Lent}
use Rattle.words.specs.Labels.{no_label}
use Rattle.words.specs.Matches.{MatchType, inputs, outputs, label_on}
use Rattle.words.specs.Machines.{first_of, next_of, list_of, machine_of}
use Rattle.words.proofs.ListLaws.{list_member}
use Rattle.fst.specs.Meaning.{on_of, read_as}
use Rattle.fst.specs.declared.Label.{Label}
use Rattle.fst.specs.declared.MatchType.{MatchType as On}
use Rattle.fst.specs.declared.Sigmas.{Sigmas}
use Rattle.fst.specs.declared.StateId.{StateId}
use Rattle.compose_state_tuple.specs.Meaning.{tuple_means}
use Rattle.matchers.specs.declared.Cursor.{Cursor}
use Rattle.matchers.specs.Cursors.{held_words, cursor_after, first_cursor}
use Rattle.matchers.specs.Asking.{sorted_look_up, sigma_look_up, PlaceIn, Holds}
use Rattle.matchers.proofs.Asking.{side_in_lem}
use Rattle.matchers.proofs.Held.{place_first, place_next, after_holds, first_holds, place_from}
use Rattle.compose_fst_op.specs.declared.ComposeFstOpOptions.{ComposeFstOpOptions}
use Rattle.compose_fst_op.specs.Composing.{sigmas_of}
use Rattle.compose_moves.specs.Moves.{Present}
use Rattle.compose_moves.specs.Walks.{Walk, walk_means, walked_state, looked_state, looked_words, walked_side, edge_after, Along, Placed, PlacedBy}
use Rattle.compose_moves.specs.Cursors.{words1, words2, walk_in, present_in, cursor_walk, resumed, MovesPlaced, StaysPlaced}
use Rattle.compose_moves.specs.declared.moves.Walk.{Walk as Fixed}
use Rattle.compose_moves.specs.declared.MoveCursor.{MoveCursor}

-- after an asking of the matches, whose cursor reads the words as m
pub asked_placed : (W : Walk) (t : ℕ) (m : List ℕ) (c d : Cursor) → (Placed W t c → m ≡ W.looked) → d ≡ cursor_after m c → Placed W t c → Placed W t d
asked_placed W t m c d same e p = record { walked = p.walked; matches = rw (e, same p) (after_holds W.looked _ _ c p.matches) }

-- a cursor of the walk reads the words that are looked up as the walk does
pub placed_held : (w : Fixed) (mw mm am ignored : List ℕ) (t : ℕ) (c : Cursor) → Placed (walk_means w mw mm am ignored) t c → held_words c ignored mm ≡ (walk_means w mw mm am ignored).looked
placed_held w mw mm am ignored zero c p = ap (λ (x : Cursor). held_words x ignored mm) p.matches.whole ∙ ap (λ (o : On). read_as o w.labels ignored mm) (side_in_lem w.on)
placed_held w mw mm am ignored (suc t) c p = ap (λ (x : Cursor). held_words x ignored mm) p.matches.whole ∙ ap (λ (o : On). read_as o w.labels ignored mm) (side_in_lem w.on)

-- the record that is walked next has a place in the list, and the answer in hand its own
abbrev pub Standing : Walk → ℕ → Along → Type 0
Standing W t a = PlaceIn W.walked (walked_state W.on W.present.triple) t × PlacedBy W a

pub placed_in : (m : List ℕ) (s t : ℕ) → (t ≡ 0 → ⊥) → PlaceIn m s t → In t (list_of m s)
placed_in m s t n (inl z) = absurd (n z)
placed_in m s t n (inr i) = i

-- the record after one of the list
pub next_placed : (m : List ℕ) (s t u : ℕ) → (t ≡ 0 → ⊥) → u ≡ next_of m t → PlaceIn m s t → PlaceIn m s u
next_placed m s t u n e p = rw e (place_next m s (placed_in m s t n p))

-- the walked edge after a place of the list
pub after_placed : (m : List ℕ) (s t : ℕ) → PlaceIn m s t → PlaceIn m s (edge_after m s t)
after_placed m s zero p = place_first m s
after_placed m s (suc t) (inl e) = absurd (omega (arith, e))
after_placed m s (suc t) (inr i) = place_next m s i

-- the walk's answer as the cursor's
pub resumed_placed : (o : ComposeFstOpOptions) (l : Lent) (c : MoveCursor) (a : Along) → (Placed (cursor_walk o l c) c.walked c.matches → PlacedBy (cursor_walk o l c) a) → StaysPlaced o l c (resumed c a)
resumed_placed o l c (Ok (Some (r, t, d))) h = (refl, h)
resumed_placed o l c (Ok None) h = tt
resumed_placed o l c (Err r) h = tt

-- where the label of a walked record was looked up
pub found_placed : (W : Walk) (t : ℕ) (c : Cursor) (on : On) (labels : Sigmas) (s : StateId) (x sigma : Label) (both b : Bool) → In t (list_of W.walked (walked_state W.on W.present.triple))
    → record { on = on_of on; label = x.0; sigma = sigma.0; labels = labels; both = both } ≡ sigma_look_up W.operand W.labels (label_on (walked_side W.on) (machine_of W.walked) t)
    → s.0 ≡ looked_state W.on W.present.triple → c ≡ first_cursor W.looked on labels s x sigma both (cond b (first_of W.looked s.0) 0) → Placed W t c
found_placed W zero c on labels s x sigma both b i q e f = absurd (omega (arith, (list_member W.walked _ i).0))
found_placed W (suc t) c on labels s x sigma both b i q e f = record { walked = inr i; matches = rw (← q, ← e) (first_holds W.looked on labels s x sigma both _ c f (place_from W.looked s.0 b)) }

-- the matches of a machine that rests read its words as the walk does
pub rest_held : (o : ComposeFstOpOptions) (l : Lent) (p : Present) (d : MatchType) (m : List ℕ) (n : ℕ) (c : Cursor) → Holds m n (sorted_look_up d (sigmas_of o) no_label) c
    → (walk_in o l p d).held c ≡ looked_words d (words1 o l) (words2 o l)
rest_held o l p inputs m n c h = ap (λ (x : Cursor). held_words x l.ignored l.m2) h.whole
rest_held o l p outputs m n c h = ap (λ (x : Cursor). held_words x l.ignored l.m1) h.whole

-- at the start the walked machine rests
pub start_placed : (o : ComposeFstOpOptions) (l : Lent) (c : MoveCursor) → c.walked ≡ 0
    → Holds (looked_words (on_of c.on) (words1 o l) (words2 o l)) (looked_state (on_of c.on) (tuple_means c.tuple)) (sorted_look_up (on_of c.on) (sigmas_of o) no_label) c.matches → MovesPlaced o l c
start_placed o l c z h = rw z (go (on_of c.on) h)
  where
    go : (d : MatchType) → Holds (looked_words d (words1 o l) (words2 o l)) (looked_state d (tuple_means c.tuple)) (sorted_look_up d (sigmas_of o) no_label) c.matches → Placed (walk_in o l (present_in o c) d) 0 c.matches
    go inputs g = record { walked = inl refl; matches = g }
    go outputs g = record { walked = inl refl; matches = g }
