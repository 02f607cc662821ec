-- One asking of a cursor in each of its ways: the loop, an own transition, a sigma transition, the end. Each law that ends in `-place` says where the cursor stands then.
use mathlib.Core.Path.{◌≡◌, refl, sym, ap, ap₂, ◌∙◌}
use mathlib.Core.Bool.{Bool, true, false}
use mathlib.Core.List.{List, [], ◌∷◌, map}
use Rattle.std.specs.Prelude.{None, Some}
use Prim.Native.Nat.{ℕ}
use Rattle.lists.specs.Lists.{put_if}
use Rattle.words.specs.Matches.{Match, loop, viaSigma, Tr as Transition, tr_of}
use Rattle.words.specs.Machines.{next_of, machine_of}
use Rattle.words.specs.Sigmas.{rewrite}
use Rattle.fst.specs.Meaning.{on_of}
use Rattle.matchers.specs.Meaning.{Item, the_loop, whole}
use Rattle.matchers.specs.Cursors.{with_label, head0, looked, moved_to, sigma_left, own_left, in_phase, matches_left, items_of, items_left, Asked, asked, Step, cursor_of, step_means, moved_past, cursor_after}
use Rattle.matchers.specs.declared.Phase.{Phase}
use Rattle.matchers.specs.declared.Phase.TheVariants.{Own, Sigmas}
use Rattle.matchers.specs.declared.Cursor.{Cursor}
use Rattle.matchers.proofs.Seeks.{with_end, sought_none, sought_first}

-- an asking that gives the transition t and leaves what the cursor d has to give
abbrev gives : List ℕ → Transition → Cursor → Asked
gives m t d = record { given = Some (whole t); left = items_left m d }

pub same_gives : (m : List ℕ) {t u : Transition} {d e : Cursor} → t ≡ u → d ≡ e → gives m t d ≡ gives m u e
same_gives m p q = ap₂ (gives m) p q

-- the loop is due
pub loop_turn : (m : List ℕ) (c : Cursor) → c.loops ≡ true → record { given = Some the_loop; left = items_left m (moved_to c c.phase c.tr) } ≡ asked (items_left m c)
unfolding items_left matches_left own_left sigma_left
loop_turn m c e =
    ap (λ (is : List Item). record { given = Some the_loop; left = is }) (go c.phase)
    ∙ ap (λ (b : Bool). asked (items_of m c (put_if b loop (in_phase c.phase m c)))) (sym e)
  where
    go : (p : Phase) → items_of m c (in_phase p m (moved_to c c.phase c.tr)) ≡ items_of m c (in_phase p m c)
    go Own = refl
    go Sigmas = refl

pub loop_place : (m : List ℕ) (c : Cursor) → c.loops ≡ true → moved_to c c.phase c.tr ≡ cursor_after m c
unfolding matches_left
loop_place m c e = rw e

-- it is not: by the phase
pub in_own : (m : List ℕ) (c : Cursor) → c.loops ≡ false → c.phase ≡ Own → matches_left m c ≡ own_left m c c.tr
unfolding matches_left
in_own m c e p = rw (e, p)

pub in_sigmas : (m : List ℕ) (c : Cursor) → c.loops ≡ false → c.phase ≡ Sigmas → matches_left m c ≡ sigma_left m c c.tr
unfolding matches_left
in_sigmas m c e p = rw (e, p)

-- the two clauses of `next_match`, `next` and `ask` as one fact
abbrev pub Answers : List ℕ → Cursor → Step → Type 0
Answers m c r = (step_means m r ≡ asked (items_left m c)) × (cursor_of r ≡ cursor_after m c)

-- what answers the matches that are left answers the cursor
pub answers_all : (m : List ℕ) (c : Cursor) (us : List Match) (r : Step) → matches_left m c ≡ us → (step_means m r ≡ asked (items_of m c us)) × (cursor_of r ≡ moved_past m c us) → Answers m c r
unfolding items_left
answers_all m c us r e h = rw e h

-- the first sigma transition from the cursor's place on; 0: none
abbrev pub next_sigma : List ℕ → Cursor → ℕ
next_sigma m c = head0 (with_label (on_of c.on) m c.sigma.0 c.tr)

pub sigma_end : (m : List ℕ) (c : Cursor) → next_sigma m c ≡ 0 → record { given = None; left = items_left m (moved_to c Sigmas 0) } ≡ asked (items_of m c (sigma_left m c c.tr))
unfolding items_left matches_left sigma_left
sigma_end m c z = rw (sought_none (on_of c.on) m c.sigma.0 c.tr z, with_end (on_of c.on) m c.sigma.0 0)

pub sigma_end_place : (m : List ℕ) (c : Cursor) → next_sigma m c ≡ 0 → moved_to c Sigmas 0 ≡ moved_past m c (sigma_left m c c.tr)
unfolding sigma_left
sigma_end_place m c z = rw (sought_none (on_of c.on) m c.sigma.0 c.tr z)

pub sigma_turn : (m : List ℕ) (c : Cursor) → (next_sigma m c ≡ 0 → ⊥)
    → gives m (rewrite c.both (on_of c.on) c.sigma.0 c.label.0 (tr_of (machine_of m) (next_sigma m c))) (moved_to c Sigmas (next_of m (next_sigma m c)))
    ≡ asked (items_of m c (sigma_left m c c.tr))
unfolding items_left matches_left sigma_left
sigma_turn m c n = sym (rw (sought_first (on_of c.on) m c.sigma.0 c.tr n))

pub sigma_turn_place : (m : List ℕ) (c : Cursor) → (next_sigma m c ≡ 0 → ⊥) → moved_to c Sigmas (next_of m (next_sigma m c)) ≡ moved_past m c (sigma_left m c c.tr)
unfolding sigma_left
sigma_turn_place m c n = sym (rw (sought_first (on_of c.on) m c.sigma.0 c.tr n))

-- the first own transition from the cursor's place on; 0: none
abbrev pub next_own : List ℕ → Cursor → ℕ
next_own m c = head0 (with_label (on_of c.on) m (looked c.label.0) c.tr)

-- where there is none, the cursor d in phase Sigmas gives the same
pub own_end : (m : List ℕ) (c d : Cursor) → d ≡ moved_to c Sigmas c.sigmas → next_own m c ≡ 0 → asked (items_of m d (sigma_left m d d.tr)) ≡ asked (items_of m c (own_left m c c.tr))
unfolding own_left sigma_left
own_end m c d e z = rw (e, sought_none (on_of c.on) m (looked c.label.0) c.tr z)

pub own_end_place : (m : List ℕ) (c d : Cursor) → d ≡ moved_to c Sigmas c.sigmas → next_own m c ≡ 0 → moved_past m d (sigma_left m d d.tr) ≡ moved_past m c (own_left m c c.tr)
unfolding own_left sigma_left
own_end_place m c d e z = rw (e, sought_none (on_of c.on) m (looked c.label.0) c.tr z) (go (with_label (on_of c.on) m c.sigma.0 c.sigmas))
  where
    go : (l : List ℕ) → moved_past m (moved_to c Sigmas c.sigmas) (map viaSigma l) ≡ moved_past m c (map viaSigma l)
    go [] = refl
    go (t ∷ ts) = refl

pub own_turn : (m : List ℕ) (c : Cursor) → (next_own m c ≡ 0 → ⊥)
    → gives m (tr_of (machine_of m) (next_own m c)) (moved_to c Own (next_of m (next_own m c))) ≡ asked (items_of m c (own_left m c c.tr))
unfolding items_left matches_left own_left sigma_left
own_turn m c n = sym (rw (sought_first (on_of c.on) m (looked c.label.0) c.tr n))

pub own_turn_place : (m : List ℕ) (c : Cursor) → (next_own m c ≡ 0 → ⊥) → moved_to c Own (next_of m (next_own m c)) ≡ moved_past m c (own_left m c c.tr)
unfolding own_left
own_turn_place m c n = sym (rw (sought_first (on_of c.on) m (looked c.label.0) c.tr n))
