-- The closed cases in tables, each table under one theorem that the checker computes.
use mathlib.Core.Path.{◌≡◌, refl}
use mathlib.Core.Bool.{true}
use mathlib.Core.List.{List, Memᴰ as In}
use Rattle.lists.specs.Lists.{every}
use Rattle.lists.proofs.Members.{and_right, every_in}
use Rattle.lists.proofs.Compare.{eq_list, eq_list_eq}
use Rattle.words.specs.Machines.{well_formed, state_ok, tr_ok, marks_ok, acceptor, size_up_to, well_formed_up_to}
use Rattle.words.specs.Settings.{settings_ok}
use Rattle.words.proofs.Cases.{Case, answer, holds}
use Rattle.words.proofs.RustCases.{rust_cases, our_cases}

-- a table that the checker has computed: each answer is the one wanted
pub in_table : (cs : List Case) → every holds cs ≡ true → (c : Case) → In c cs → answer c.settings c.lent c.at ≡ c.wants
unfolding holds
in_table cs e c i =
    eq_list_eq _ _ (and_right (well_formed c.lent.m2) _ (and_right (well_formed c.lent.m1) _ (and_right (settings_ok c.settings) _ (every_in holds e i))))

rust_hold : every holds rust_cases ≡ true
unfolding holds answer eq_list every settings_ok well_formed_up_to size_up_to state_ok tr_ok marks_ok acceptor rust_cases
rust_hold = refl

-- the answer at each of the Rust's cases is the Rust's
pub rust_answers : (c : Case) → In c rust_cases → answer c.settings c.lent c.at ≡ c.wants
rust_answers = in_table rust_cases rust_hold

our_hold : every holds our_cases ≡ true
unfolding holds answer eq_list every settings_ok well_formed_up_to size_up_to state_ok tr_ok marks_ok acceptor our_cases
our_hold = refl

-- and where a label has own and sigma matches, the one worked out from the text of 01 and 02
pub our_answers : (c : Case) → In c our_cases → answer c.settings c.lent c.at ≡ c.wants
our_answers = in_table our_cases our_hold
