-- What a cursor holds stays: the settings of its look-up, and places in the list of its state.
use mathlib.Core.Path.{◌≡◌, refl, ap}
use mathlib.Core.Bool.{Bool, true, false, cond}
use mathlib.Core.List.Memᴰ
use mathlib.Core.List.Memᴰ.{head as here}
use mathlib.Core.List.Memᴰ.{tail as there}
use mathlib.Core.List.{List, [], ◌∷◌, map, Memᴰ as In}
use mathlib.Core.Logic.{◌⊎◌, inl, inr, ⊎_elim}
use Prim.Native.Nat.{ℕ, zero, suc, ◌≤◌}
use native.Mathlib.Omega.{arith}
use lib.ListN.{length}
use Rattle.lists.specs.Lists.{put_if}
use Rattle.lists.proofs.Members.{of_keep}
use Rattle.words.specs.Matches.{MatchType, Match, loop, own, viaSigma}
use Rattle.words.specs.Machines.{tr_count, first_of, next_of, list_from, list_of}
use Rattle.words.proofs.ListLaws.{link, first_inside, list_end_lem, list_turn, list_member}
use Rattle.fst.specs.Meaning.{on_of}
use Rattle.fst.specs.declared.Label.{Label}
use Rattle.fst.specs.declared.MatchType.{MatchType as On}
use Rattle.fst.specs.declared.MatchType.TheVariants.{MatchInput, MatchOutput}
use Rattle.fst.specs.declared.Sigmas.{Sigmas as Labels}
use Rattle.fst.specs.declared.StateId.{StateId}
use Rattle.matchers.specs.Cursors.{records_from, with_label, head0, looked, moved_to, sigma_left, own_left, in_phase, matches_left, moved_past, cursor_after, first_cursor}
use Rattle.matchers.specs.Asking.{LookUp, place_of, cursor_with, PlaceIn, Holds}
use Rattle.matchers.specs.declared.Phase.{Phase}
use Rattle.matchers.specs.declared.Phase.TheVariants.{Own, Sigmas}
use Rattle.matchers.specs.declared.Cursor.{Cursor}
use Rattle.matchers.proofs.Seeks.{records_inside}

-- the list from a record of a list is a part of it
list_part_lem : (m : List ℕ) (n t : ℕ) {u v : ℕ} → length (list_from m t) ≤ n → t ≤ tr_count m → In u (list_from m t) → In v (list_from m u) → In v (list_from m t)
list_part_lem m zero zero b h i j = absurd (Memᴰ.not-nil (rw (list_end_lem m 0 refl) at i))
list_part_lem m zero (suc t) b h i j = let e = ap length (list_turn m (suc t) (λ z. omega arith) h) in absurd (omega arith)
list_part_lem m (suc n) zero b h i j = absurd (Memᴰ.not-nil (rw (list_end_lem m 0 refl) at i))
list_part_lem m (suc n) (suc t) b h i j =
    let turn = list_turn m (suc t) (λ z. omega arith) h in
    let e = ap length turn in
    ⊎_elim
    (λ same. rw same at j)
    (λ k. rw turn (there (list_part_lem m n (next_of m (suc t)) (omega arith) (link m (suc t)).inside k j)))
    (Memᴰ.cases_cons (rw turn at i))

-- a record begins its own list
list_self : (m : List ℕ) (t : ℕ) → t ≤ tr_count m → (t ≡ 0) ⊎ In t (list_from m t)
list_self m zero h = inl refl
list_self m (suc t) h = inr (rw (list_turn m (suc t) (λ z. omega arith) h) (here refl))

in_list : (m : List ℕ) (s : ℕ) {u v : ℕ} → In u (list_of m s) → In v (list_from m u) → In v (list_of m s)
unfolding list_of
in_list m s i j = list_part_lem m (length (list_from m (first_of m s))) (first_of m s) (omega arith) (first_inside m s) i j

pub place_first : (m : List ℕ) (s : ℕ) → PlaceIn m s (first_of m s)
unfolding list_of
place_first m s = list_self m (first_of m s) (first_inside m s)

pub place_next : (m : List ℕ) (s : ℕ) {u : ℕ} → In u (list_of m s) → PlaceIn m s (next_of m u)
place_next m s {u} i =
    let r = list_member m s i in
    ⊎_elim inl (λ j. inr (in_list m s i (rw (list_turn m u (λ z. omega (arith, r.0)) r.1) (there j)))) (list_self m (next_of m u) (link m u).inside)

-- from a place along the list on, only records of the list
records_in_lem : (m : List ℕ) (s t : ℕ) {u : ℕ} → PlaceIn m s t → In u (records_from m t) → In u (list_of m s)
records_in_lem m s t (inl e) i = absurd (Memᴰ.not-nil (rw (e, records_inside m 0 (omega arith), list_end_lem m 0 refl) at i))
records_in_lem m s t (inr j) i = in_list m s j (rw (records_inside m t (list_member m s j).1) at i)

with_in : (on : MatchType) (m : List ℕ) (x s t : ℕ) {u : ℕ} → PlaceIn m s t → In u (with_label on m x t) → In u (list_of m s)
unfolding with_label
with_in on m x s t a i = records_in_lem m s t a (of_keep _ (records_from m t) i).0

-- the record of a match stands in the list
abbrev InList : List ℕ → ℕ → Match → Type 0
InList m s loop = Unit {0}
InList m s (own t) = In t (list_of m s)
InList m s (viaSigma t) = In t (list_of m s)

sigma_left_lem : (m : List ℕ) (s : ℕ) (c : Cursor) (t : ℕ) (u : Match) → PlaceIn m s t → In u (sigma_left m c t) → InList m s u
unfolding sigma_left
sigma_left_lem m s c t u a i = let r = Memᴰ.of_map viaSigma _ i in rw (← r.2) (with_in _ m _ s t a r.1)

own_left_lem : (m : List ℕ) (s : ℕ) (c : Cursor) (t : ℕ) (u : Match) → PlaceIn m s t → PlaceIn m s c.sigmas → In u (own_left m c t) → InList m s u
unfolding own_left
own_left_lem m s c t u a b i =
    ⊎_elim
    (λ j. let r = Memᴰ.of_map own _ j in rw (← r.2) (with_in _ m _ s t a r.1))
    (λ j. sigma_left_lem m s c c.sigmas u b j)
    (Memᴰ.append_cases (map own (with_label (on_of c.on) m (looked c.label.0) t)) i)

-- every match that a cursor has still to give is of the list
left_in : (m : List ℕ) (s : ℕ) (c : Cursor) (u : Match) → PlaceIn m s c.tr → PlaceIn m s c.sigmas → In u (matches_left m c) → InList m s u
unfolding matches_left
left_in m s c u a b i = due c.loops i
  where
    phase : (p : Phase) → In u (in_phase p m c) → InList m s u
    phase Own j = own_left_lem m s c c.tr u a b j
    phase Sigmas j = sigma_left_lem m s c c.tr u a j

    due : (l : Bool) → In u (put_if l loop (in_phase c.phase m c)) → InList m s u
    due true j = ⊎_elim (λ e. rw e tt) (phase c.phase) (Memᴰ.cases_cons j)
    due false j = phase c.phase j

-- what a cursor holds stays, in another phase, past the loop, at another place in the list
moved_holds : (m : List ℕ) (s : ℕ) (q : LookUp) (c : Cursor) (p : Phase) (t : ℕ) → Holds m s q c → PlaceIn m s t → Holds m s q (moved_to c p t)
moved_holds m s q c p t h a = record { whole = ap (λ d. moved_to d p t) h.whole; tr = a; sigmas = h.sigmas }

-- after an asking the cursor holds what it held, and places in the list
pub after_holds : (m : List ℕ) (s : ℕ) (q : LookUp) (c : Cursor) → Holds m s q c → Holds m s q (cursor_after m c)
after_holds m s q c h = go (matches_left m c) (λ u i. left_in m s c u h.tr h.sigmas i)
  where
    go : (us : List Match) → ((u : Match) → In u us → InList m s u) → Holds m s q (moved_past m c us)
    go [] f = moved_holds m s q c Sigmas 0 h (inl refl)
    go (loop ∷ us) f = moved_holds m s q c c.phase c.tr h h.tr
    go (own t ∷ us) f = moved_holds m s q c Own (next_of m t) h (place_next m s (f (own t) (here refl)))
    go (viaSigma t ∷ us) f = moved_holds m s q c Sigmas (next_of m t) h (place_next m s (f (viaSigma t) (here refl)))

-- so does the first cursor of a look-up
pub first_holds : (m : List ℕ) (on : On) (labels : Labels) (s : StateId) (x sigma : Label) (both : Bool) (from : ℕ) (c : Cursor) → c ≡ first_cursor m on labels s x sigma both from → PlaceIn m s.0 from
    → Holds m s.0 (record { on = on_of on; label = x.0; sigma = sigma.0; labels = labels; both = both }) c
first_holds m on labels s x sigma both from c e a =
    rw e (record {
      whole = whole on;
      tr = begun (with_label (on_of on) m (looked x.0) (first_of m s.0)) (λ u i. with_in _ m _ s.0 (first_of m s.0) (place_first m s.0) i);
      sigmas = a;
    })
  where
    whole : (o : On) → first_cursor m o labels s x sigma both from ≡ cursor_with (record { on = on_of o; label = x.0; sigma = sigma.0; labels = labels; both = both }) (place_of (first_cursor m o labels s x sigma both from))
    whole MatchInput = refl
    whole MatchOutput = refl

    begun : (l : List ℕ) → ((u : ℕ) → In u l → In u (list_of m s.0)) → PlaceIn m s.0 (head0 l)
    begun [] f = inl refl
    begun (t ∷ ts) f = inr (f t (here refl))

-- sigma transitions are sought from the first record on, or not at all
pub place_from : (m : List ℕ) (s : ℕ) (b : Bool) → PlaceIn m s (cond b (first_of m s) 0)
place_from m s true = place_first m s
place_from m s false = inl refl
