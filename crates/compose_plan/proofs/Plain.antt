-- Compositions without sigma: labels, the direction by the facts, the look-up of a label.
use mathlib.Core.Path.{◌≡◌, sym, ◌∙◌, ap₂}
use mathlib.Core.Bool.{true}
use mathlib.Core.List.{List, map, Memᴰ as In}
use mathlib.Core.Logic.{◌≢◌}
use Prim.Native.Nat.{ℕ, ◌<◌}
use lib.Dec.{eqb}
use borrow.Author.Tests.{eqb-true, ne_eqb}
use Rattle.lists.proofs.Members.{and_left, and_right}
use Rattle.words.specs.Labels.{MAX, eps_label, no_label, good}
use Rattle.words.specs.Matches.{MatchType, inputs, outputs, label_on, own, sorted_matches}
use Rattle.words.specs.Machines.{side_mark, list_of, machine_of, well_formed}
use Rattle.words.specs.Sigmas.{Sigma, Operand, lookup}
use Rattle.words.specs.Sides.{direction_at}
use Rattle.words.specs.Settings.{Settings}
use Rattle.words.specs.Steps.{Triple}
use Rattle.words.proofs.PapersOpened.{listed_form}
use Rattle.words.proofs.PapersLookup.{owns}
use Rattle.words.proofs.WalkLaws.{lookup_unset}
use Rattle.compose_bounds.specs.Serving.{plain_direction}
use Rattle.compose_bounds.proofs.Plain.{plain_direction_lem}
use Rattle.compose_fst_op.specs.Composing.{option_settings, composing_words}
use Rattle.compose_fst_op.specs.declared.ComposeFstOpOptions.{ComposeFstOpOptions}
use Rattle.list_facts.specs.declared.ListFacts.{ListFacts}
use Rattle.list_facts.proofs.FactLaws.{len_is}
use Rattle.match_type.specs.Chosen.{side_means}
use Rattle.compose_plan.specs.Serves.{no_sigma}
use Rattle.compose_plan.specs.Planning.{Present}

-- a machine's words matched on a side, whatever its sigma
abbrev pub operand_with : MatchType → List ℕ → Sigma → Operand
operand_with on m σ = record { machine = machine_of m; on = on; mark = side_mark on m; sigma = σ }

-- no label of a list is MAX
pub label_below : (on : MatchType) (m : List ℕ) → well_formed m ≡ true → (s t : ℕ) → In t (list_of m s) → label_on on (machine_of m) t < MAX
label_below inputs m w s t i = (listed_form m w s t i).input
label_below outputs m w s t i = (listed_form m w s t i).output

-- no sigma label is set on either machine
pub unset : (s : Settings) → no_sigma s ≡ true → (s.sigma1 ≡ no_label) × (s.sigma2 ≡ no_label)
unset s e = (eqb-true _ _ (and_left (eqb s.sigma1 no_label) _ e), eqb-true _ _ (and_right (eqb s.sigma1 no_label) _ e))

-- so the direction is that of the facts
pub direction_plain : {o : ComposeFstOpOptions} {m1 m2 a1 a2 : List ℕ} {t : Triple} {f1 f2 : ListFacts} → Present o m1 m2 a1 a2 t f1 f2 → no_sigma (option_settings o) ≡ true
    → direction_at (side_means o.side) (composing_words o m1 m2 a1 a2).operand1 (composing_words o m1 m2 a1 a2).operand2 t.s1 t.s2
    ≡ good (plain_direction (side_means o.side) f1.len f2.len)
direction_plain {o} {m1} {m2} {a1} {a2} {t} p e =
    let n = unset (option_settings o) e in
    plain_direction_lem (composing_words o m1 m2 a1 a2) t n.0 n.1 ∙ ap₂ (λ (i j : ℕ). good (plain_direction (side_means o.side) i j)) (sym (len_is p.facts1)) (sym (len_is p.facts2))

-- the look-up of a label gives its own transitions alone
pub lookup_plain : (o : Operand) (s x : ℕ) → o.sigma.label ≡ no_label → x ≢ eps_label → x ≢ no_label → lookup o s x ≡ good (map own (owns o s x))
unfolding sorted_matches
lookup_plain o s x e nε nm = rw (lookup_unset o s x e, ne_eqb x eps_label nε, ne_eqb x no_label nm)
