-- For closed instances of 3c: the accepting paths of a store without cycles, computed, and tests of "settled" and "finished".
use mathlib.Core.Path.{◌≡◌, refl, sym, ◌∙◌, subst}
use mathlib.Core.Bool.{Bool, true, false, not, ◌&&◌, ◌||◌, false≢true}
use mathlib.Core.List.Memᴰ
use mathlib.Core.List.Memᴰ.{head as here}
use mathlib.Core.List.{List, [], ◌∷◌, ◌++◌, map, flat_map, Memᴰ as In}
use mathlib.Core.Logic.{◌↔◌, ◌⊎◌, inl, inr, ⊎_elim}
use Rattle.std.specs.Prelude.{Option, None, Some}
use Prim.Native.Nat.{ℕ, zero, suc}
use native.Mathlib.Omega.{arith}
use lib.Dec.{eqb, ltb, leb}
use borrow.Author.Tests.{eqb-true, eqb-false, ltb-true, leb-true, not-true}
use Rattle.lists.specs.Lists.{every, interval}
use Rattle.lists.proofs.Members.{and_left, and_right, or_cases, in_flat, of_flat, every_in, in_interval}
use Rattle.words.specs.Labels.{no_label, Checked, good, refused}
use Rattle.words.specs.Matches.{inputs, outputs}
use Rattle.words.specs.Machines.{tr_count}
use Rattle.words.specs.Sigmas.{is_set}
use Rattle.words.specs.Sides.{Side, only, both}
use Rattle.words.specs.Settings.{Settings, Lent, operand1, composition_of}
use Rattle.calls.specs.Store.{expanded_at}
use Rattle.calls.specs.Sequences.{World}
use Rattle.readings.specs.Worlds.{final_in, UsedState, Expanded, records_in, target_of}
use Rattle.words.proofs.ListLaws.{list_member}
use Rattle.readings.specs.StorePaths.{AllRead, Settled, sigma2, SigmaOn2AtMost, Finished, AcceptingFrom, AcceptingRecords}

abbrev is_end : Checked (Option ℕ) → Bool
is_end (good (Some x)) = true
is_end (good None) = false
is_end (refused k) = false

abbrev is_good : Checked (Option ℕ) → Bool
is_good (good x) = true
is_good (refused k) = false

-- the empty path
abbrev ends_here : Bool → List (List ℕ)
ends_here true = [] ∷ []
ends_here false = []

end_is : (o : Checked (Option ℕ)) → is_end o ≡ true → (x : ℕ) × (o ≡ good (Some x))
end_is (good (Some x)) e = (x, refl)
end_is (good None) e = absurd (false≢true e)
end_is (refused k) e = absurd (false≢true e)

good_is : (o : Checked (Option ℕ)) → is_good o ≡ true → (x : Option ℕ) × (o ≡ good x)
good_is (good x) e = (x, refl)
good_is (refused k) e = absurd (false≢true e)

unfoldable pub expanded_test : World → ℕ → Bool
expanded_test w n = ltb n w.session.used.states && eqb (expanded_at w.memory.states n) 1

test_expanded : (w : World) (n : ℕ) → expanded_test w n ≡ true → Expanded w n
unfolding expanded_test
test_expanded w n e = (ltb-true _ _ (and_left (ltb n w.session.used.states) _ e), eqb-true _ _ (and_right (ltb n w.session.used.states) _ e))

-- all that is read, by a test
unfoldable read_test : Lent → World → Bool
unfolding expanded_test interval every
read_test l w = every (λ n. expanded_test w n && is_good (final_in l w n).answer) (interval 0 w.session.used.states)

test_read : (l : Lent) (w : World) → read_test l w ≡ true → AllRead l w
unfolding read_test
test_read l w e = record {
  expanded = λ n i. test_expanded w n (and_left (expanded_test w n) _ (each n i));
  weighed = λ n i. good_is (final_in l w n).answer (and_right (expanded_test w n) _ (each n i));
}
  where
    each : (n : ℕ) → UsedState w n → expanded_test w n && is_good (final_in l w n).answer ≡ true
    each n i = every_in (λ n. expanded_test w n && is_good (final_in l w n).answer) e (in_interval 0 w.session.used.states n (omega arith) (omega (arith, i)))

-- and no sigma
unfoldable pub settled_test : Settings → Lent → World → Bool
unfolding read_test
settled_test s l w = (eqb s.sigma1 no_label && eqb s.sigma2 no_label) && read_test l w

pub test_settled : (s : Settings) (l : Lent) (w : World) → settled_test s l w ≡ true → Settled s l w
unfolding settled_test
test_settled s l w e =
    let sigmas = and_left (eqb s.sigma1 no_label && eqb s.sigma2 no_label) _ e in
    record {
      sigma1 = eqb-true _ _ (and_left (eqb s.sigma1 no_label) _ sigmas);
      sigma2 = eqb-true _ _ (and_right (eqb s.sigma1 no_label) _ sigmas);
      read = test_read l w (and_right (eqb s.sigma1 no_label && eqb s.sigma2 no_label) _ e);
    }

-- sigma on machine 2 alone, or none, by a test
abbrev reads_letters : Side → Bool
reads_letters (only inputs) = true
reads_letters (only outputs) = false
reads_letters both = true

letters_side : (side : Side) → reads_letters side ≡ true → (side ≡ only inputs) ⊎ (side ≡ both)
letters_side (only inputs) e = inl refl
letters_side (only outputs) e = absurd (false≢true e)
letters_side both e = inr refl

-- a transition of machine 1 whose output, after replacement, is not the sigma label
abbrev not_sigma : Settings → Lent → ℕ → Bool
not_sigma s l t = not (eqb ((operand1 s l).machine.output t) s.sigma2)

unfoldable sigma_test : Settings → Lent → Side → Bool
unfolding interval every
sigma_test s l side = eqb s.sigma1 no_label && (eqb s.sigma2 no_label || (reads_letters side && every (not_sigma s l) (interval 1 (tr_count l.m1))))

test_sigma : (s : Settings) (l : Lent) (side : Side) → sigma_test s l side ≡ true → SigmaOn2AtMost (composition_of s l side)
unfolding sigma_test
test_sigma s l side e = record {
  alone = eqb-true _ _ (and_left (eqb s.sigma1 no_label) _ e);
  side = λ h. letters_side side (and_left (reads_letters side) _ (set h));
  letters = λ h q t i z.
      let r = list_member l.m1 q i in
      let test = every_in (not_sigma s l) (and_right (reads_letters side) _ (set h)) (in_interval 1 (tr_count l.m1) t (omega (arith, r.0)) (omega (arith, r.1))) in
      eqb-false _ _ (not-true _ test) z;
}
  where
    set : is_set (sigma2 (composition_of s l side)) ≡ true → reads_letters side && every (not_sigma s l) (interval 1 (tr_count l.m1)) ≡ true
    set h = ⊎_elim (λ z. absurd (false≢true (sym (not-true _ h) ∙ z))) (λ z. z) (or_cases (eqb s.sigma2 no_label) _ (and_right (eqb s.sigma1 no_label) _ e))

-- 3c's condition, by a test
unfoldable pub finished_test : Settings → Lent → Side → World → Bool
unfolding sigma_test read_test
finished_test s l side w = leb s.filter 2 && (sigma_test s l side && read_test l w)

pub test_finished : (s : Settings) (l : Lent) (side : Side) (w : World) → finished_test s l side w ≡ true → Finished s l (composition_of s l side) w
unfolding finished_test
test_finished s l side w e =
    let r = and_right (leb s.filter 2) _ e in
    record { filter = leb-true _ _ (and_left (leb s.filter 2) _ e); sigma = test_sigma s l side (and_left (sigma_test s l side) _ r); read = test_read l w (and_right (sigma_test s l side) _ r) }

module _ (l : Lent) (w : World) where
  -- the accepting paths of fewer than k records from state n on
  unfoldable pub walks : ℕ → ℕ → List (List ℕ)
  unfolding flat_map
  walks zero n = []
  walks (suc k) n = ends_here (is_end (final_in l w n).answer) ++ flat_map (λ r. map (λ q. r ∷ q) (walks k (target_of w r))) (records_in w n)

  -- no path from n on has k records, and its states are expanded
  unfoldable pub shallow : ℕ → ℕ → Bool
  unfolding expanded_test every
  shallow zero n = false
  shallow (suc k) n = expanded_test w n && every (λ r. shallow k (target_of w r)) (records_in w n)

  to_walks : (k n : ℕ) → shallow k n ≡ true → (rs : List ℕ) → AcceptingFrom l w n rs → In rs (walks k n)
  unfolding walks shallow
  to_walks zero n s rs h = absurd (false≢true s)
  to_walks (suc k) n s [] h = Memᴰ.append_left _ (subst (λ o. In [] (ends_here (is_end o))) (sym h.1) (here refl))
  to_walks (suc k) n s (r ∷ rs) h =
      let deep = every_in (λ r. shallow k (target_of w r)) (and_right (expanded_test w n) _ s) h.1 in
      Memᴰ.append_right (ends_here (is_end (final_in l w n).answer)) (in_flat (λ r. map (λ q. r ∷ q) (walks k (target_of w r))) h.1 (Memᴰ.map (λ q. r ∷ q) (to_walks k (target_of w r) deep rs h.2)))

  of_walks : (k n : ℕ) → shallow k n ≡ true → (rs : List ℕ) → In rs (walks k n) → AcceptingFrom l w n rs
  unfolding walks shallow
  of_walks zero n s rs h = absurd (false≢true s)
  of_walks (suc k) n s rs h =
      ⊎_elim ends
      (λ i.
      let a = of_flat (λ r. map (λ q. r ∷ q) (walks k (target_of w r))) (records_in w n) i in
      let b = Memᴰ.of_map (λ q. a.0 ∷ q) (walks k (target_of w a.0)) a.2 in
      let deep = every_in (λ r. shallow k (target_of w r)) (and_right (expanded_test w n) _ s) a.1 in
      subst (AcceptingFrom l w n) b.2 (test_expanded w n (and_left (expanded_test w n) _ s), a.1, of_walks k (target_of w a.0) deep b.0 b.1))
      (Memᴰ.append_cases (ends_here (is_end (final_in l w n).answer)) h)
    where
      empty : (b : Bool) → In rs (ends_here b) → (rs ≡ []) × (b ≡ true)
      empty true i = (⊎_elim (λ e. e) (λ j. absurd (Memᴰ.not-nil j)) (Memᴰ.cases_cons i), refl)
      empty false i = absurd (Memᴰ.not-nil i)

      ends : In rs (ends_here (is_end (final_in l w n).answer)) → AcceptingFrom l w n rs
      ends i = let z = empty (is_end (final_in l w n).answer) i in subst (AcceptingFrom l w n) (sym z.0) (end_is (final_in l w n).answer z.1)

  -- the accepting paths are these and no others
  pub just_walks : (k : ℕ) → shallow k 0 ≡ true → (rs : List ℕ) → AcceptingRecords l w rs ↔ In rs (walks k 0)
  unfolding shallow
  just_walks zero s rs = absurd (false≢true s)
  just_walks (suc k) s rs = (λ h. to_walks (suc k) 0 s rs h.1, λ i. ((test_expanded w 0 (and_left (expanded_test w 0) _ s)).0, of_walks (suc k) 0 s rs i))
