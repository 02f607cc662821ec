-- All final weights in one go: those that the calls give state by state, or the first refusal among them.
use mathlib.Core.Path.{◌≡◌, refl, sym, ◌∙◌, ap, subst}
use mathlib.Core.List.{List, ◌∷◌, map}
use mathlib.Core.Logic.{⊎_elim}
use Rattle.std.specs.Prelude.{Option}
use Prim.Native.Nat.{ℕ, zero, suc, ◌+◌, ◌≤◌, ◌<◌}
use native.Mathlib.Omega.{arith}
use native.Mathlib.Decide.{ℕ_discrete}
use lib.ListN.{length, length-map}
use Rattle.lists.specs.Lists.{At, interval}
use Rattle.lists.proofs.Places.{at_interval, at_map, of_at_map}
use Rattle.lists.proofs.Totals.{length_interval}
use Rattle.words.specs.Labels.{Checked, good, refused, collect}
use Rattle.words.specs.Steps.{Composition}
use Rattle.words.specs.Settings.{Lent}
use Rattle.words.proofs.CheckedLaws.{good≢refused, refused_is, stop_then}
use Rattle.words.proofs.PapersSteps.{collected}
use Rattle.calls.specs.Sequences.{World}
use Rattle.calls.specs.Owned.{weights_from}
use Rattle.readings.specs.Worlds.{final_in}
use Rattle.readings.specs.Owned.{WeightsAre}
use Rattle.readings.proofs.Grows.{KeptWorld}
use Rattle.readings.proofs.CallsKept.{final_numbers}

module _ {A : Type 0} (f : ℕ → Checked A) where
  -- all are given: at each place stands what its number gives
  all_given : (k : ℕ) (xs : List A) → collect (map f (interval 0 k)) ≡ good xs → (length xs ≡ k) × ((n : ℕ) (x : A) → At xs n x → f n ≡ good x)
  all_given k xs e =
      let same = collected (map f (interval 0 k)) xs e in (
        sym (length-map xs good) ∙ (ap length (sym same) ∙ (length-map (interval 0 k) f ∙ length_interval 0 k)),
        λ n x h.
            let r = of_at_map f (interval 0 k) n (subst (λ (l : List (Checked A)). At l n (good x)) (sym same) (at_map good xs n h)) in
            let i : r.0 ≡ n = omega (arith, at_interval 0 k n r.1) in
            ap f (sym i) ∙ sym r.2,
      )

  -- the first of the k numbers from s on that is refused, by j: those before it are given
  record First (s k j : ℕ) : Type 0 where
    pub number : ℕ
    pub from : s ≤ number
    pub most : number < s + k
    pub refuses : f number ≡ refused j
    pub before : (i : ℕ) → s ≤ i → i < number → (a : A) × (f i ≡ good a)

  first_refused : (k s j : ℕ) → collect (map f (interval s k)) ≡ refused j → First s k j
  unfolding collect interval
  first_refused zero s j e = absurd (good≢refused e)
  first_refused (suc k) s j e = go (f s) refl e (first_refused k (suc s) j)
    where
      go : (x : Checked A) → f s ≡ x → collect (x ∷ map f (interval (suc s) k)) ≡ refused j → (collect (map f (interval (suc s) k)) ≡ refused j → First (suc s) k j) → First s (suc k) j
      go (refused m) h d later = record { number = s; from = omega arith; most = omega arith; refuses = h ∙ ap refused (refused_is d); before = λ i p q. absurd (omega arith) }
      go (good a) h d later =
          ⊎_elim
          (λ z. let r = later z in record { number = r.number; from = omega arith; most = omega arith; refuses = r.refuses; before = λ i p q. before r.before i p q (ℕ_discrete s i) })
          (λ z. absurd (good≢refused z.2))
          (stop_then (collect (map f (interval (suc s) k))) (λ l. good (a ∷ l)) j d)
        where
          before : {n : ℕ} → ((i : ℕ) → suc s ≤ i → i < n → (x : A) × (f i ≡ good x)) → (i : ℕ) → s ≤ i → i < n → Dec (s ≡ i) → (x : A) × (f i ≡ good x)
          before rest i p q (yes y) = (a, ap f (sym y) ∙ h)
          before rest i p q (no y) = rest i (omega arith) q

-- a found state's final weight is refused by 12 alone
pub weights_are : (l : Lent) (c : Composition) (w : World) → KeptWorld l c w → WeightsAre l w
unfolding weights_from
weights_are l c w h = record {
  each = all_given weight w.session.used.states;
  stops = λ k e.
      let r = first_refused weight w.session.used.states 0 k e in
      let z = final_numbers l c w h r.number (omega arith) k r.refuses in
      (z, (r.number, omega arith, r.refuses ∙ ap refused z, λ j i. r.before j (omega arith) i));
}
  where
    weight : ℕ → Checked (Option ℕ)
    weight n = (final_in l w n).answer
