-- Paths from a kept state, old and new: the maps undo each other, and accepting, weights and labels stay.
use mathlib.Core.Path.{◌≡◌, refl, sym, ◌∙◌, ap, ap₂, subst}
use mathlib.Core.Bool.{Bool, true, false, cond}
use mathlib.Core.List.Memᴰ
use mathlib.Core.List.{List, [], ◌∷◌, map, Memᴰ as In}
use mathlib.Core.Logic.{◌≢◌, ⊎_elim}
use Rattle.std.specs.Prelude.{Option, Some, slice_get}
use Prim.Native.Nat.{ℕ, suc, ◌+◌, ◌-◌}
use native.Mathlib.Omega.{arith}
use lib.Dec.{eqb}
use borrow.Author.Tests.{eqb-true, eqb-false}
use Rattle.lists.specs.Lists.{At, Distinct}
use Rattle.lists.proofs.Members.{of_keep}
use Rattle.lists.proofs.Once.{one_place, distinct_keep}
use Rattle.lists.proofs.Places.{at_in}
use Rattle.papers.specs.Machine.{Machine}
use Rattle.papers.specs.Weight.{Semiring}
use Rattle.papers.specs.Paths.{Ends, Accepting, path_weight}
use Rattle.words.specs.Machines.{machine_of}
use Rattle.graphs.specs.Walks.{Walk, useful, Bounded}
use Rattle.trims.specs.Trims.{number, kept_records, trimmed}
use Rattle.trims.proofs.Numbers.{Kept}
use Rattle.trims.proofs.Trimmed.{trimmed_final, trimmed_final_weight, trimmed_input, trimmed_output, trimmed_weight, trimmed_target, kept_on, of_list, in_list}
use Rattle.trims.proofs.Walked.{KeptWalk}
use Rattle.trim_readings.specs.TrimPaths.{place_in, then_records, records_before, to_new, to_old}

-- a number of a list stands at its place
pub place_at : (x : ℕ) (l : List ℕ) → In x l → At l (place_in x l) x
unfolding place_in
place_at x [] i = absurd (Memᴰ.not-nil i)
place_at x (y ∷ ys) i = go (eqb x y) refl (λ j. place_at x ys j)
  where
    go : (b : Bool) → eqb x y ≡ b → (In x ys → At ys (place_in x ys) x) → At (y ∷ ys) (cond b 0 (suc (place_in x ys))) x
    go true e rec = ap Some (sym (eqb-true x y e))
    go false e rec = rec (⊎_elim (λ d. absurd (eqb-false x y e d)) (λ j. j) (Memᴰ.cases_cons i))

-- and where nothing stands twice at no other
pub place_is : (x : ℕ) (l : List ℕ) → Distinct l → (j : ℕ) → At l j x → place_in x l ≡ j
place_is x l d j h = one_place l d (place_in x l) j (place_at x l (at_in l j h)) h

module _ (M : Machine) where
  -- a turn back: the record at place j
  old_turn : (n j r q : ℕ) (qs : List ℕ) → At (kept_records M n) j r → q ≡ records_before M n + j + 1 → to_old M n (q ∷ qs) ≡ r ∷ to_old M (M.target r) qs
  unfolding to_old
  old_turn n j r q qs at e =
      let i : q - 1 - records_before M n ≡ j = omega arith in
      ap (λ (o : Option ℕ). then_records o (λ s. to_old M (M.target s) qs)) (ap (slice_get (kept_records M n)) i ∙ at)

  -- an old path is found again
  pub old_new : (n : ℕ) (p : List ℕ) → KeptWalk M n p → to_old M n (to_new M n p) ≡ p
  unfolding to_new to_old
  old_new n [] kw = refl
  old_new n (r ∷ rs) kw =
      old_turn n (place_in r (kept_records M n)) r _ (to_new M (M.target r) rs) (place_at r (kept_records M n) kw.0) refl
      ∙ ap (λ (l : List ℕ). r ∷ l) (old_new (M.target r) rs kw.1)

  -- labels stay
  pub new_inputs : Bounded M → (n : ℕ) → Kept M n → (p : List ℕ) → KeptWalk M n p → map M.input p ≡ map (machine_of (trimmed M)).input (to_new M n p)
  unfolding to_new
  new_inputs b n k [] kw = refl
  new_inputs b n k (r ∷ rs) kw =
      ap₂ ◌∷◌ (sym (trimmed_input M n k (place_in r (kept_records M n)) r (place_at r (kept_records M n) kw.0))) (new_inputs b (M.target r) (kept_on M b n r k kw.0) rs kw.1)

  pub new_outputs : Bounded M → (n : ℕ) → Kept M n → (p : List ℕ) → KeptWalk M n p → map M.output p ≡ map (machine_of (trimmed M)).output (to_new M n p)
  unfolding to_new
  new_outputs b n k [] kw = refl
  new_outputs b n k (r ∷ rs) kw =
      ap₂ ◌∷◌ (sym (trimmed_output M n k (place_in r (kept_records M n)) r (place_at r (kept_records M n) kw.0))) (new_outputs b (M.target r) (kept_on M b n r k kw.0) rs kw.1)

  module _ (K : Semiring) (value : ℕ → K.Element) (b : Bounded M) where
    -- an accepting path is a walk to its end
    pub walk_of : (n : ℕ) (p : List ℕ) → Accepting K value M n p → (e : ℕ) × Walk M n p e × Ends K value M e
    walk_of n [] h = (n, refl, h)
    walk_of n (r ∷ rs) h = let w = walk_of (M.target r) rs h.1 in (w.0, (h.0, w.1), w.2)

    -- an accepting path over kept records is accepting when it is new
    pub new_accepting : (n : ℕ) → Kept M n → (p : List ℕ) → KeptWalk M n p → Accepting K value M n p → Accepting K value (machine_of (trimmed M)) (number M n) (to_new M n p)
    unfolding to_new
    new_accepting n k [] kw h =
        (trimmed_final M n k ∙ h.0, subst (λ (w : ℕ). value w ≢ K.zero) (sym (trimmed_final_weight M n k h.0)) h.1)
    new_accepting n k (r ∷ rs) kw h =
        let at = place_at r (kept_records M n) kw.0 in (
          in_list M n k (place_in r (kept_records M n)) r at,
          subst (λ (x : ℕ). Accepting K value (machine_of (trimmed M)) x (to_new M (M.target r) rs)) (sym (trimmed_target M n k (place_in r (kept_records M n)) r at))
              (new_accepting (M.target r) (kept_on M b n r k kw.0) rs kw.1 h.1),
        )

    -- its weight stays
    pub new_weight : (n : ℕ) → Kept M n → (p : List ℕ) → KeptWalk M n p → Accepting K value M n p
        → path_weight K value M n p ≡ path_weight K value (machine_of (trimmed M)) (number M n) (to_new M n p)
    unfolding to_new
    new_weight n k [] kw h = ap value (sym (trimmed_final_weight M n k h.0))
    new_weight n k (r ∷ rs) kw h =
        let at = place_at r (kept_records M n) kw.0 in
        ap₂ K.times (ap value (sym (trimmed_weight M n k (place_in r (kept_records M n)) r at)))
        (new_weight (M.target r) (kept_on M b n r k kw.0) rs kw.1 h.1
        ∙ ap (λ (x : ℕ). path_weight K value (machine_of (trimmed M)) x (to_new M (M.target r) rs)) (sym (trimmed_target M n k (place_in r (kept_records M n)) r at)))

    -- what comes back from a new path
    pub record Back (n : ℕ) (q : List ℕ) : Type 0 where
      pub accepting : Accepting K value M n (to_old M n q)
      pub again : to_new M n (to_old M n q) ≡ q

    pub back : ((n : ℕ) → Distinct (M.list n)) → (n : ℕ) → Kept M n → (q : List ℕ) → Accepting K value (machine_of (trimmed M)) (number M n) q → Back n q
    unfolding to_new to_old
    back once n k [] h =
        let final : M.is_final n ≡ true = sym (trimmed_final M n k) ∙ h.0 in
        record { accepting = (final, subst (λ (w : ℕ). value w ≢ K.zero) (trimmed_final_weight M n k final) h.1); again = refl }
    back once n k (q ∷ qs) h =
        let p = of_list M n k q h.0 in
        let j : ℕ = p.0 in
        let r : ℕ = p.1 in
        let i = at_in (kept_records M n) j p.2 in
        let target : (machine_of (trimmed M)).target q ≡ number M (M.target r) = ap (machine_of (trimmed M)).target p.3 ∙ trimmed_target M n k j r p.2 in
        let rest = back once (M.target r) (kept_on M b n r k i) qs (subst (λ (x : ℕ). Accepting K value (machine_of (trimmed M)) x qs) target h.1) in
        let turn = old_turn n j r q qs p.2 p.3 in
        let place = place_is r (kept_records M n) (distinct_keep (λ s. useful M (M.target s)) (M.list n) (once n)) j p.2 in
        record {
          accepting = subst (Accepting K value M n) (sym turn) ((of_keep (λ s. useful M (M.target s)) (M.list n) i).0, rest.accepting);
          again = ap (to_new M n) turn ∙ ap₂ ◌∷◌ (ap (λ (x : ℕ). records_before M n + x + 1) place ∙ sym p.3) rest.again;
        }
