-- A look-up gives at most the loop, every transition as one with the label, and every transition as a sigma transition: so a count is a word for every machine that passes the checks.
use mathlib.Core.Path.{◌≡◌, ap}
use mathlib.Core.Bool.{Bool, true, false, cond, not, ◌&&◌}
use mathlib.Core.List.{List, [], ◌++◌, map}
use Rattle.std.specs.Prelude.{Option}
use Prim.Native.Nat.{ℕ, ◌+◌, ◌≤◌}
use native.Mathlib.Omega.{arith}
use lib.Dec.{eqb}
use lib.ListN.{length, length-append, length-map}
use Rattle.lists.proofs.Members.{keep_length}
use Rattle.words.specs.Labels.{MAX, eps_label, no_label, good}
use Rattle.words.specs.Machines.{limit, tr_count, first_of, list_of, machine_of}
use Rattle.words.specs.Matches.{MatchType, inputs, outputs, label_on, viaSigma, labelled, sorted_matches}
use Rattle.words.specs.Sigmas.{Operand, is_allowed, is_set, is_sigma, sigma_trs, sigma_matches, lookup}
use Rattle.words.specs.Ignored.{Ignored, replaced}
use Rattle.words.specs.Sides.{Side}
use Rattle.words.specs.Settings.{Settings, Lent, operand_under}
use Rattle.words.proofs.CheckedLaws.{good_is, past_check, past_then}
use Rattle.words.proofs.FormLaws.{form}
use Rattle.words.proofs.ListLaws.{list_length}
use Rattle.calls.specs.Checks.{side_for}
use Rattle.calls.proofs.ExpandKept.{sided}
use Rattle.compose_bounds.proofs.Lookups.{sorted_few}
use Rattle.fan_outs.specs.FanOut.{fan_out}

module _ (o : Operand) (q T : ℕ) (few : length (o.machine.list q) ≤ T) where
  labelled_length : (x : ℕ) → length (labelled o.on o.machine q x) ≤ T
  unfolding labelled
  labelled_length x = let a = keep_length (λ t. eqb (label_on o.on o.machine t) x) (o.machine.list q) in omega (arith, a, few)

  sigma_length : (x : ℕ) → length (sigma_matches o q x) ≤ T
  unfolding sigma_matches sigma_trs
  sigma_length x = go (not (eqb x eps_label) && (not (eqb x no_label) && is_allowed o.sigma.allowed x)) (is_set o.sigma)
    where
      sigmas : List ℕ
      sigmas = labelled o.on o.machine q o.sigma.label

      go : (a b : Bool) → length (cond a (map viaSigma (cond b sigmas [])) []) ≤ T
      go true true = let e = length-map sigmas viaSigma in let h = labelled_length o.sigma.label in omega (arith, e, h)
      go true false = omega arith
      go false b = omega arith

  pub fan_out_bound : (x n : ℕ) → fan_out o q x ≡ good n → n ≤ T + T + 1
  unfolding fan_out lookup
  fan_out_bound x n e =
      let r = past_then (lookup o q x) (λ ms. good (length ms)) n e in
      let k = past_check (is_sigma o.sigma x) 11 (good (sorted_matches o.on o.machine q x ++ sigma_matches o q x)) r.0 r.1 in
      let u = ap length (good_is k.1) in
      let v = length-append (sorted_matches o.on o.machine q x) (sigma_matches o q x) in
      let w = good_is r.2 in
      let a = sorted_few o q T labelled_length x in
      let b = sigma_length x in
      omega (arith, u, v, w, a, b)

-- a replaced machine has the lists of the one that was lent
few_listed : (g : Ignored) (on : MatchType) (m : List ℕ) (q : ℕ) → length ((replaced on g (machine_of m)).list q) ≤ tr_count m
unfolding list_of
few_listed g inputs m q = list_length m (first_of m q)
few_listed g outputs m q = list_length m (first_of m q)

-- a count of a machine within the limit is a word
pub fan_out_word : (g : Ignored) (on : MatchType) (m : List ℕ) (sigma mode : ℕ) (allowed : Option (List ℕ)) (q x : ℕ) → tr_count m ≤ limit
    → (n : ℕ) → fan_out (operand_under g on m sigma mode allowed) q x ≡ good n → n ≤ MAX
fan_out_word g on m sigma mode allowed q x h n e = omega (arith, h, fan_out_bound (operand_under g on m sigma mode allowed) q (tr_count m) (few_listed g on m q) x n e)

-- the checks 1 to 7 and 18 leave machines within the limit
pub within_limit : (s : Settings) (l : Lent) (side : Side) → side_for s l ≡ good side → (tr_count l.m1 ≤ limit) × (tr_count l.m2 ≤ limit)
within_limit s l side e = let h = sided s l side e in ((form l.m1 h.formed1).trs, (form l.m2 h.formed2).trs)
