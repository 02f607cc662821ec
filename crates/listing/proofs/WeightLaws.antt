-- Whether all final weights were answered decides what is listed.
use mathlib.Core.Path.{◌≡◌, refl, sym, ap, ◌∙◌}
use mathlib.Core.List.{List, [], ◌∷◌, ◌++◌, map, flat_map}
use Prim.Native.Nat.{ℕ}
use Rattle.lists.specs.Lists.{interval}
use Rattle.words.specs.Labels.{Checked, good, refused, and_then, collect}
use Rattle.words.specs.Settings.{Lent}
use Rattle.calls.specs.Store.{Memory}
use Rattle.calls.specs.Checks.{Session}
use Rattle.calls.specs.Calls.{final_weight_of}
use Rattle.calls.specs.Listing.{Line, side_line, end_line, state_lines, joined, listed, printed, refused_line}
use Rattle.calls.specs.Owned.{weights_from}
use Rattle.final_weights.specs.Weights.{verdict, given_weight}
use Rattle.final_weights.proofs.WeightLaws.{then_verdict, verdict_cons}
use Rattle.listing.specs.Stages.{lines_at, lines_from}

-- what is made of each value, where all were answered
all_made : {A B : Type 0} (f : ℕ → Checked A) (given : Checked A → A) → ((a : A) → given (good a) ≡ a) → (g : ℕ → A → B) (xs : List ℕ) → verdict (collect (map f xs)) ≡ good tt
    → collect (map (λ n. and_then (f n) (λ w. good (g n w))) xs) ≡ good (map (λ n. g n (given (f n))) xs)
unfolding collect
all_made f given law g [] e = refl
all_made {A} {B} f given law g (x ∷ xs) e = go (f x) (sym (verdict_cons (f x) (map f xs)) ∙ e) (λ d. all_made f given law g xs d)
  where
    go : (y : Checked A) → then_verdict (verdict y) (verdict (collect (map f xs))) ≡ good tt
        → (verdict (collect (map f xs)) ≡ good tt → collect (map (λ n. and_then (f n) (λ w. good (g n w))) xs) ≡ good (map (λ n. g n (given (f n))) xs))
        → collect (and_then y (λ w. good (g x w)) ∷ map (λ n. and_then (f n) (λ w. good (g n w))) xs) ≡ good (g x (given y) ∷ map (λ n. g n (given (f n))) xs)
    go (refused n) d rec = cc
    go (good a) d rec = rw (rec d, law a)

-- the first refusal, where one was
first_refused : {A B : Type 0} (f : ℕ → Checked A) (g : ℕ → A → B) (xs : List ℕ) (k : ℕ) → verdict (collect (map f xs)) ≡ refused k → collect (map (λ n. and_then (f n) (λ w. good (g n w))) xs) ≡ refused k
unfolding collect
first_refused f g [] k e = cc
first_refused {A} {B} f g (x ∷ xs) k e = go (f x) (sym (verdict_cons (f x) (map f xs)) ∙ e) (λ d. first_refused f g xs k d)
  where
    go : (y : Checked A) → then_verdict (verdict y) (verdict (collect (map f xs))) ≡ refused k
        → (verdict (collect (map f xs)) ≡ refused k → collect (map (λ n. and_then (f n) (λ w. good (g n w))) xs) ≡ refused k)
        → collect (and_then y (λ w. good (g x w)) ∷ map (λ n. and_then (f n) (λ w. good (g n w))) xs) ≡ refused k
    go (refused n) d rec = let q : n ≡ k = cc in ap refused q
    go (good a) d rec = rw (rec d)

joined_map : (f : ℕ → List Line) (xs : List ℕ) → joined (map f xs) ≡ flat_map f xs
unfolding flat_map
joined_map f [] = refl
joined_map f (x ∷ xs) = ap (λ (t : List Line). f x ++ t) (joined_map f xs)

module _ (l : Lent) (s : Session) (m : Memory) where
  abbrev U : ℕ
  U = s.used.states

  -- all final weights were answered: the side, the lines of the states, the counts
  pub all_listed : verdict (weights_from l s m 0 U) ≡ good tt → printed (listed l s m) ≡ side_line s.side ∷ lines_from l s m 0 U ++ (end_line U s.used.trs ∷ [])
  unfolding weights_from lines_from
  all_listed e =
      rw (all_made (λ n. (final_weight_of l s m n).answer) given_weight (λ a. refl) (state_lines l s m) (interval 0 U) e)
      (ap (λ (t : List Line). side_line s.side ∷ t ++ (end_line U s.used.trs ∷ [])) (joined_map (lines_at l s m) (interval 0 U)))

  -- one was refused: that refusal and nothing more
  pub refused_listed : (k : ℕ) → verdict (weights_from l s m 0 U) ≡ refused k → printed (listed l s m) ≡ refused_line k ∷ []
  unfolding weights_from
  refused_listed k e = rw (first_refused (λ n. (final_weight_of l s m n).answer) (state_lines l s m) (interval 0 U) k e)
