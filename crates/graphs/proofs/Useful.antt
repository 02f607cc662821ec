-- The test of useful states decides their definition, and what makes states useful.
use mathlib.Core.Path.{◌≡◌, refl, sym, ◌∙◌, ap, subst}
use mathlib.Core.Bool.{Bool, true, ◌&&◌, false≢true, and-eq-true_iff}
use mathlib.Core.List.Memᴰ
use mathlib.Core.List.Memᴰ.{head as here}
use mathlib.Core.List.Memᴰ.{tail as there}
use mathlib.Core.List.{List, [], ◌∷◌, ◌++◌, Memᴰ as In}
use mathlib.Core.Logic.{⊎_elim, ◌↔◌, ◌≢◌}
use Rattle.std.specs.Prelude.{Option, None, Some}
use Prim.Native.Nat.{ℕ, zero, suc, ◌≤◌, ◌<◌}
use native.Mathlib.Omega.{arith}
use lib.Dec.{eqb}
use lib.ListN.{length}
use borrow.Author.Tests.{eqb-true, eq-eqb}
use Rattle.lists.proofs.Members.{and_left, and_right, or_cases, or_left, or_right}
use Rattle.papers.specs.Machine.{Machine}
use Rattle.papers.specs.Weight.{Semiring}
use Rattle.papers.specs.Paths.{Accepting}
use Rattle.graphs.specs.Walks.{Walk, Reach, Useful, exists, leads_within, starts_with, useful, Bounded}
use Rattle.graphs.proofs.Few.{few}
use Rattle.graphs.proofs.Shorten.{passed, straighten, passed_length}

-- the test over a list finds a member, and any member is found
pub exists_some : {A : Type 0} (P : A → Bool) (l : List A) → exists P l ≡ true → (x : A) × In x l × (P x ≡ true)
unfolding exists
exists_some P [] e = absurd (false≢true e)
exists_some P (x ∷ xs) e = ⊎_elim (λ h. (x, here refl, h)) (λ h. let r = exists_some P xs h in (r.0, there r.1, r.2)) (or_cases (P x) (exists P xs) e)

pub some_exists : {A : Type 0} (P : A → Bool) (l : List A) (x : A) → In x l → P x ≡ true → exists P l ≡ true
unfolding exists
some_exists P [] x i e = absurd (Memᴰ.not-nil i)
some_exists P (y ∷ ys) x i e = ⊎_elim (λ z. or_left (P y) _ (ap P (sym z) ∙ e)) (λ j. or_right (P y) _ (some_exists P ys x j e)) (Memᴰ.cases_cons i)

-- walks one after another
pub walk_append : (M : Machine) (a b c : ℕ) (rs qs : List ℕ) → Walk M a rs b → Walk M b qs c → Walk M a (rs ++ qs) c
walk_append M a b c [] qs w v = subst (λ x. Walk M x qs c) (sym w) v
walk_append M a b c (r ∷ rs) qs w v = (w.0, walk_append M (M.target r) b c rs qs w.1 v)

pub reach_on : (M : Machine) (a b c : ℕ) → Reach M a b → Reach M b c → Reach M a c
reach_on M a b c h k = (h.0 ++ k.0, walk_append M a b c h.0 k.0 h.1 k.1)

-- one transition is a walk
pub reach_step : (M : Machine) (a r : ℕ) → In r (M.list a) → Reach M a (M.target r)
reach_step M a r i = (r ∷ [], (i, refl))

-- what a state of the machine reaches is a state of it, and so is all that the walk passes
pub walk_below : (M : Machine) → Bounded M → (a b : ℕ) (rs : List ℕ) → a < M.states → Walk M a rs b → b < M.states
walk_below M B a b [] l w = subst (λ x. x < M.states) w l
walk_below M B a b (r ∷ rs) l w = walk_below M B (M.target r) b rs (B.target_below a r l w.0) w.1

pub passed_below : (M : Machine) → Bounded M → (a b : ℕ) (rs : List ℕ) → a < M.states → Walk M a rs b → (x : ℕ) → In x (passed M a rs) → x < M.states
passed_below M B a b [] l w x i = ⊎_elim (λ e. subst (λ y. y < M.states) (sym e) l) (λ j. absurd (Memᴰ.not-nil j)) (Memᴰ.cases_cons i)
passed_below M B a b (r ∷ rs) l w x i = ⊎_elim
    (λ e. subst (λ y. y < M.states) (sym e) l)
    (λ j. passed_below M B (M.target r) b rs (B.target_below a r l w.0) w.1 x j)
    (Memᴰ.cases_cons i)

-- a walk of at most k transitions to a state with P is found by the test
leads_found : (M : Machine) (P : ℕ → Bool) (k a b : ℕ) (rs : List ℕ) → Walk M a rs b → P b ≡ true → length rs ≤ k → leads_within M P k a ≡ true
unfolding leads_within
leads_found M P zero a b [] w e l = ap P w ∙ e
leads_found M P zero a b (r ∷ rs) w e l = absurd (omega arith)
leads_found M P (suc k) a b [] w e l = or_left (P a) _ (ap P w ∙ e)
leads_found M P (suc k) a b (r ∷ rs) w e l =
    or_right (P a) _ (some_exists (λ q. leads_within M P k (M.target q)) (M.list a) r w.0 (leads_found M P k (M.target r) b rs w.1 e (omega arith)))

-- what the test finds is there, whatever the machine is
pub leads_sound : (M : Machine) (P : ℕ → Bool) (k a : ℕ) → leads_within M P k a ≡ true → (b : ℕ) × Reach M a b × (P b ≡ true)
unfolding leads_within
leads_sound M P zero a e = (a, ([], refl), e)
leads_sound M P (suc k) a e = ⊎_elim
    (λ h. (a, ([], refl), h))
    (λ h. let x = exists_some (λ r. leads_within M P k (M.target r)) (M.list a) h in
    let z = leads_sound M P k (M.target x.0) x.2 in
    (z.0, (x.0 ∷ z.1.0, (x.1, z.1.1)), z.2))
    (or_cases (P a) (exists (λ r. leads_within M P k (M.target r)) (M.list a)) e)

-- as many transitions as there are states lead wherever any number leads
pub leads_is : (M : Machine) (P : ℕ → Bool) → Bounded M → (a : ℕ) → a < M.states → (leads_within M P M.states a ≡ true) ↔ ((b : ℕ) × Reach M a b × (P b ≡ true))
leads_is M P B a l = (
  leads_sound M P M.states a,
  λ h. let s = straighten M a h.0 h.1.0 h.1.1 in
      let m = few M.states (passed M a s.way) s.once (passed_below M B a h.0 s.way l s.walk) in
      let n = passed_length M a s.way in
      leads_found M P M.states a h.0 s.way s.walk h.2 (omega (arith, m, n)),
)

-- the test says the same as the definition, for every number
pub useful_is : (M : Machine) → Bounded M → (n : ℕ) → (useful M n ≡ true) ↔ Useful M n
unfolding useful
useful_is M B n = (λ e. there_is M.start refl e, λ u. (and-eq-true_iff _ _).1 (found u, lasts u))
  where
    there_is : (o : Option ℕ) → M.start ≡ o → starts_with o (leads_within M (λ b. eqb b n) M.states) && leads_within M M.is_final M.states n ≡ true → Useful M n
    there_is None s e = absurd (false≢true e)
    there_is (Some a) s e =
        let x = leads_sound M (λ b. eqb b n) M.states a (and_left (leads_within M (λ b. eqb b n) M.states a) _ e) in
        let y = leads_sound M M.is_final M.states n (and_right (leads_within M (λ b. eqb b n) M.states a) _ e) in
        record { start = a; starts = s; reached = subst (λ b. Reach M a b) (eqb-true x.0 n x.2) x.1; end = y.0; leads = y.1; final = y.2 }

    found : Useful M n → starts_with M.start (leads_within M (λ b. eqb b n) M.states) ≡ true
    found u = subst (λ o. starts_with o (leads_within M (λ b. eqb b n) M.states) ≡ true) (sym u.starts)
        ((leads_is M (λ b. eqb b n) B u.start (B.start_below u.start u.starts)).1 (n, u.reached, eq-eqb n n refl))

    lasts : Useful M n → leads_within M M.is_final M.states n ≡ true
    lasts u = (leads_is M M.is_final B n (walk_below M B u.start n u.reached.0 (B.start_below u.start u.starts) u.reached.1)).1 (u.end, u.leads, u.final)

-- a useful state is one of the machine's
pub useful_below : (M : Machine) → Bounded M → (n : ℕ) → useful M n ≡ true → n < M.states
useful_below M B n e =
    let u = (useful_is M B n).0 e in
    walk_below M B u.start n u.reached.0 (B.start_below u.start u.starts) u.reached.1

-- a transition of a useful state leads to a useful one where its target leads to a final state
pub useful_step : (M : Machine) (n r end : ℕ) → Useful M n → In r (M.list n) → Reach M (M.target r) end → M.is_final end ≡ true → Useful M (M.target r)
useful_step M n r end u i h f = record { start = u.start; starts = u.starts; reached = reach_on M u.start n (M.target r) u.reached (reach_step M n r i); end = end; leads = h; final = f }

-- an accepting path is a walk to a final state
pub accepting_leads : (K : Semiring) (value : ℕ → K.Element) (M : Machine) (q : ℕ) (p : List ℕ) → Accepting K value M q p → (b : ℕ) × Walk M q p b × (M.is_final b ≡ true)
accepting_leads K value M q [] h = (q, refl, h.0)
accepting_leads K value M q (t ∷ p) h = let r = accepting_leads K value M (M.target t) p h.1 in (r.0, (h.0, r.1), r.2)

-- a reached state with an accepting path is useful
pub accepting_useful : (K : Semiring) (value : ℕ → K.Element) (M : Machine) (a q : ℕ) (p : List ℕ) → M.start ≡ Some a → Reach M a q → Accepting K value M q p → Useful M q
accepting_useful K value M a q p s h k = let r = accepting_leads K value M q p k in record { start = a; starts = s; reached = h; end = r.0; leads = (p, r.1); final = r.2 }

-- and so is the target of the path's first transition
pub accepting_step : (K : Semiring) (value : ℕ → K.Element) (M : Machine) (q t : ℕ) (p : List ℕ) → Useful M q → Accepting K value M q (t ∷ p) → Useful M (M.target t)
accepting_step K value M q t p u h = let r = accepting_leads K value M (M.target t) p h.1 in useful_step M q t r.0 u h.0 (p, r.1) r.2

-- an accepting path from the start passes useful states alone
pub accepting_passes : (K : Semiring) (value : ℕ → K.Element) (M : Machine) (q : ℕ) (p : List ℕ) → Useful M q → Accepting K value M q p → (x : ℕ) → In x (passed M q p) → Useful M x
accepting_passes K value M q [] u h x i = ⊎_elim (λ e. subst (λ y. Useful M y) (sym e) u) (λ j. absurd (Memᴰ.not-nil j)) (Memᴰ.cases_cons i)
accepting_passes K value M q (t ∷ p) u h x i = ⊎_elim
    (λ e. subst (λ y. Useful M y) (sym e) u)
    (λ j. accepting_passes K value M (M.target t) p (accepting_step K value M q t p u h) h.1 x j)
    (Memᴰ.cases_cons i)

-- a walk to a final state is an accepting path, where no final weight is zero
pub walk_accepting : (K : Semiring) (value : ℕ → K.Element) (M : Machine) → ((n : ℕ) → M.is_final n ≡ true → value (M.final_weight n) ≢ K.zero) → (q b : ℕ) (p : List ℕ) → Walk M q p b → M.is_final b ≡ true → Accepting K value M q p
walk_accepting K value M z q b [] w f = let e : M.is_final q ≡ true = ap M.is_final w ∙ f in (e, z q e)
walk_accepting K value M z q b (t ∷ p) w f = (w.0, walk_accepting K value M z (M.target t) b p w.1 f)
