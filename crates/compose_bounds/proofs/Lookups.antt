-- A look-up without sigma: its matches are the loop or records of the list, and they are few.
use mathlib.Core.Path.{sym, subst}
use mathlib.Core.Bool.{Bool, true, false, cond}
use mathlib.Core.List.Memᴰ
use mathlib.Core.List.{List, ◌∷◌, map, Memᴰ as In}
use mathlib.Core.Logic.{⊎_elim}
use Prim.Native.Nat.{ℕ, ◌+◌, ◌≤◌}
use native.Mathlib.Omega.{arith}
use lib.Dec.{eqb}
use lib.ListN.{length, length-map}
use Rattle.words.specs.Labels.{eps_label, no_label}
use Rattle.words.specs.Matches.{Match, loop, own, sorted_matches}
use Rattle.words.specs.Sigmas.{Operand}
use Rattle.words.proofs.PapersLookup.{of_labelled, owns}
use Rattle.compose_bounds.specs.Serving.{Listed, Runs}

pub own_listed : (l r : List ℕ) → ((t : ℕ) → In t r → In t l) → (m : Match) → In m (map own r) → Listed l m
own_listed l r h m i = let q = Memᴰ.of_map own r i in subst (Listed l) q.2 (h q.0 q.1)

module _ (o : Operand) (s : ℕ) where
  abbrev list : List ℕ
  list = o.machine.list s

  label_listed : (x : ℕ) (m : Match) → In m (map own (owns o s x)) → Listed list m
  label_listed x = own_listed list (owns o s x) (λ t i. (of_labelled o.on o.machine s x i).0)

  pub sorted_listed : (x : ℕ) (m : Match) → In m (sorted_matches o.on o.machine s x) → Listed list m
  unfolding sorted_matches
  sorted_listed x m = go (eqb x eps_label) (eqb x no_label)
    where
      go : (b c : Bool) → In m (cond b (loop ∷ map own (owns o s eps_label)) (cond c (map own (owns o s eps_label)) (map own (owns o s x)))) → Listed list m
      go true c i = ⊎_elim (λ e. subst (Listed list) (sym e) tt) (λ j. label_listed eps_label m j) (Memᴰ.cases_cons i)
      go false true i = label_listed eps_label m i
      go false false i = label_listed x m i

  module _ (run : ℕ) (runs : Runs o s run) where
    pub sorted_few : (x : ℕ) → length (sorted_matches o.on o.machine s x) ≤ run + 1
    unfolding sorted_matches
    sorted_few x = go (eqb x eps_label) (eqb x no_label)
      where
        go : (b c : Bool) → length (cond b (loop ∷ map own (owns o s eps_label)) (cond c (map own (owns o s eps_label)) (map own (owns o s x)))) ≤ run + 1
        go true c = omega (arith, length-map (owns o s eps_label) own, runs eps_label)
        go false true = omega (arith, length-map (owns o s eps_label) own, runs eps_label)
        go false false = omega (arith, length-map (owns o s x) own, runs x)
