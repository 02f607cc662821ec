-- A closed instance of demand 2 without sigma, under count: the store that an opening and a run leave for two machines of which the first has the paths 1:5, 1:5, 1:6 and the second
-- 5:9, 6:9, 6:9. The four composed paths 1:9 weigh 10, 15, 4 and 28, together 57; over the middle words, (2 + 3) × 5 + 4 × (1 + 7).
use mathlib.Core.Path.{◌≡◌, refl, sym, ◌∙◌, ap, subst}
use mathlib.Core.List.Memᴰ
use mathlib.Core.List.Memᴰ.{head as here}
use mathlib.Core.List.Memᴰ.{tail as there}
use mathlib.Core.List.{List, [], ◌∷◌, Memᴰ as In}
use mathlib.Core.Logic.{⊎_elim}
use Rattle.std.specs.Prelude.{None, Some}
use Rattle.std.proofs.lemmas.Option.{none-some}
use Prim.Native.Nat.{ℕ}
use native.Mathlib.Omega.{arith}
use lib.ListN.{replicate}
use Rattle.lists.specs.Lists.{Distinct, keep_if, Enumerates}
use Rattle.lists.proofs.Compare.{eq_list}
use Rattle.lists.proofs.Listed.{once, once_distinct}
use Rattle.papers.specs.Weight.{naturals, count}
use Rattle.papers.specs.Paths.{word}
use Rattle.papers.specs.Sums.{total, SumIs, PairOf, weight_of_pair, ComposedWeighs}
use Rattle.words.specs.Labels.{good}
use Rattle.words.specs.Matches.{outputs}
use Rattle.words.specs.Machines.{machine_of}
use Rattle.words.specs.Ignored.{heard}
use Rattle.words.specs.Sigmas.{has}
use Rattle.words.specs.Sides.{only}
use Rattle.words.specs.Steps.{Composition}
use Rattle.words.specs.Settings.{Settings, Lent, composition_of}
use Rattle.words.specs.AsPapers.{exact}
use Rattle.words.proofs.CheckedLaws.{good_is}
use Rattle.calls.specs.Store.{Memory}
use Rattle.calls.specs.Checks.{Session, side_for}
use Rattle.calls.specs.Calls.{open_of}
use Rattle.calls.specs.Sequences.{World, run, after}
use Rattle.calls.specs.Listing.{settings_of}
use Rattle.calls.proofs.Cases.{Holds}
use Rattle.calls.proofs.StarCases.{plain, lend, session, world}
use Rattle.readings.specs.Listed.{goods, listed_at}
use Rattle.readings.specs.Worlds.{world_of, target_of}
use Rattle.readings.specs.StorePaths.{AcceptingFrom, moves_of_records, pair_of_records, records_weight, Settled}
use Rattle.readings.specs.Follows.{ReadsAs}
use Rattle.readings.specs.Demands.{Demand2}
use Rattle.readings.proofs.Demand2.{demand_2}
use Rattle.readings.proofs.SigmaCase.{below_two}

abbrev words1 : List ℕ
words1 = 2 ∷ 3 ∷ 1 ∷ 0 ∷ 0 ∷ 0 ∷ 1 ∷ 0 ∷ 0 ∷ 0 ∷ 1 ∷ 1 ∷ 1 ∷ 5 ∷ 2 ∷ 1 ∷ 2 ∷ 1 ∷ 5 ∷ 3 ∷ 1 ∷ 3 ∷ 1 ∷ 6 ∷ 4 ∷ 1 ∷ 0 ∷ []

abbrev words2 : List ℕ
words2 = 2 ∷ 3 ∷ 1 ∷ 0 ∷ 0 ∷ 0 ∷ 1 ∷ 0 ∷ 0 ∷ 0 ∷ 1 ∷ 1 ∷ 5 ∷ 9 ∷ 5 ∷ 1 ∷ 2 ∷ 6 ∷ 9 ∷ 1 ∷ 1 ∷ 3 ∷ 6 ∷ 9 ∷ 7 ∷ 1 ∷ 0 ∷ []

abbrev lent : Lent
lent = lend words1 words2

abbrev set : Settings
set = settings_of (plain 1 0)

abbrev got : Session
got = session (plain 0 2) 7 8 9

abbrev memory : Memory
memory = record { heads = 9 ∷ 9 ∷ []; states = replicate 14 8; trs = replicate 23 8 }

abbrev left : World
left =
    world (session (plain 1 0) 1 2 4) (2 ∷ 0 ∷ [])
    (0 ∷ 0 ∷ 0 ∷ 1 ∷ 1 ∷ 0 ∷ 1 ∷ 1 ∷ 0 ∷ 1 ∷ 0 ∷ 1 ∷ 8 ∷ 8 ∷ [])
    (1 ∷ 9 ∷ 10 ∷ 1 ∷ 2 ∷ 1 ∷ 9 ∷ 15 ∷ 1 ∷ 3 ∷ 1 ∷ 9 ∷ 4 ∷ 1 ∷ 4 ∷ 1 ∷ 9 ∷ 28 ∷ 1 ∷ 0 ∷ 8 ∷ 8 ∷ 8 ∷ [])

opens : (open_of set lent got memory).answer ≡ good tt
unfolding Holds
opens = refl

runs : after lent (world_of (open_of set lent got memory)) (run ∷ []) ≡ left
unfolding Holds
runs = refl

rule : side_for set lent ≡ good (only outputs)
unfolding Holds
rule = refl

abbrev c : Composition
c = composition_of set lent (only outputs)

pub claimed2 : Demand2 set lent c left
claimed2 =
    let r = demand_2 set lent got memory opens in
    subst (Demand2 set lent c) runs
    (subst (λ x. Demand2 set lent (composition_of set lent x) (after lent (world_of (open_of set lent got memory)) (run ∷ []))) (good_is (sym r.1 ∙ rule)) (r.2 (run ∷ []) tt))

settled : Settled set lent left
unfolding Holds
settled = record { sigma1 = refl; sigma2 = refl; read = record { expanded = below_two _ (omega arith, refl) (omega arith, refl); weighed = below_two _ (None, refl) (Some 1, refl) } }

-- the paths 1:9, and no others
abbrev four : List (List ℕ)
four = (1 ∷ []) ∷ (2 ∷ []) ∷ (3 ∷ []) ∷ (4 ∷ []) ∷ []

abbrev Reads : List ℕ → Type 0
Reads rs = ReadsAs lent left (1 ∷ []) (9 ∷ []) rs

from1 : (rs : List ℕ) → AcceptingFrom lent left 1 rs → rs ≡ []
unfolding Holds
from1 [] h = refl
from1 (r ∷ rs) h = absurd (Memᴰ.not-nil h.1)

from0 : (rs : List ℕ) → AcceptingFrom lent left 0 rs → In rs four
unfolding Holds
from0 [] h = absurd (none-some _ (good_is h.1))
from0 (r ∷ rs) h =
    ⊎_elim (λ e. at 1 e refl (here refl))
    (λ i. ⊎_elim (λ e. at 2 e refl (there (here refl)))
    (λ i. ⊎_elim (λ e. at 3 e refl (there (there (here refl))))
    (λ i. ⊎_elim (λ e. at 4 e refl (there (there (there (here refl))))) (λ i. absurd (Memᴰ.not-nil i)) (Memᴰ.cases_cons i)) (Memᴰ.cases_cons i)) (Memᴰ.cases_cons i))
    (Memᴰ.cases_cons h.1)
  where
    at : (k : ℕ) → r ≡ k → target_of left k ≡ 1 → In (k ∷ []) four → In (r ∷ rs) four
    at k e t i = subst (λ (q : List ℕ). In q four) (λ j. sym e j ∷ sym (from1 rs (subst (λ (n : ℕ). AcceptingFrom lent left n rs) (ap (target_of left) e ∙ t) h.2)) j) i

-- what holds of each of the four
of_four : (P : List ℕ → Type 0) → P (1 ∷ []) → P (2 ∷ []) → P (3 ∷ []) → P (4 ∷ []) → (rs : List ℕ) → In rs four → P rs
of_four P a b d e rs i =
    ⊎_elim (λ q. subst P (sym q) a)
    (λ i. ⊎_elim (λ q. subst P (sym q) b)
    (λ i. ⊎_elim (λ q. subst P (sym q) d)
    (λ i. ⊎_elim (λ q. subst P (sym q) e) (λ i. absurd (Memᴰ.not-nil i)) (Memᴰ.cases_cons i)) (Memᴰ.cases_cons i)) (Memᴰ.cases_cons i))
    (Memᴰ.cases_cons i)

each_once : once four ≡ four
unfolding once keep_if eq_list
each_once = refl

just_these : Enumerates four Reads
unfolding Holds word
just_these = record {
  once = subst Distinct each_once (once_distinct four);
  exactly = λ rs. (
    of_four Reads
        ((omega arith, ((omega arith, refl), here refl, (1, refl))), refl, refl)
        ((omega arith, ((omega arith, refl), there (here refl), (1, refl))), refl, refl)
        ((omega arith, ((omega arith, refl), there (there (here refl)), (1, refl))), refl, refl)
        ((omega arith, ((omega arith, refl), there (there (there (here refl))), (1, refl))), refl, refl)
        rs,
    λ h. from0 rs h.0.1,
  );
}

-- together they weigh 57,
pub in_the_store : SumIs naturals Reads (records_weight count lent left 0) 57
unfolding Holds total
in_the_store = (four, just_these, refl)

-- which is Mohri, Pereira and Riley's sum over the middle words,
pub over_middle : ComposedWeighs naturals (exact count) (machine_of words1) (machine_of words2) (1 ∷ []) (9 ∷ []) 57
unfolding heard has
over_middle = ((claimed2.words (omega arith) settled (1 ∷ []) (9 ∷ [])).sum 57).0 in_the_store

-- and back
pub back_again : SumIs naturals Reads (records_weight count lent left 0) 57
unfolding heard has
back_again = ((claimed2.words (omega arith) settled (1 ∷ []) (9 ∷ [])).sum 57).1 over_middle

-- record 4 is the pair of the machines' records 3 and 3, and weighs the product of 4 and 7
pub its_pair : pair_of_records c left (4 ∷ []) ≡ (3 ∷ [], 3 ∷ [])
unfolding Holds moves_of_records listed_at goods
its_pair = refl

reads4 : Reads (4 ∷ [])
reads4 = (just_these.exactly (4 ∷ [])).0 (there (there (there (here refl))))

pub pairs_up : PairOf naturals (exact count) (machine_of words1) (machine_of words2) (1 ∷ []) (9 ∷ []) (3 ∷ [], 3 ∷ [])
unfolding heard has
pairs_up = subst (PairOf naturals (exact count) (machine_of words1) (machine_of words2) (1 ∷ []) (9 ∷ [])) its_pair ((claimed2.words (omega arith) settled (1 ∷ []) (9 ∷ [])).paths.goes (4 ∷ []) reads4)

pub multiplies : records_weight count lent left 0 (4 ∷ []) ≡ weight_of_pair naturals (exact count) (machine_of words1) (machine_of words2) (3 ∷ [], 3 ∷ [])
unfolding heard has
multiplies =
    (claimed2.words (omega arith) settled (1 ∷ []) (9 ∷ [])).weights (4 ∷ []) reads4 ∙ ap (weight_of_pair naturals (exact count) (machine_of words1) (machine_of words2)) its_pair
