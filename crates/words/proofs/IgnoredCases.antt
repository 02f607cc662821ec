-- 02, 2.7 and 2.8, on closed words: sides, refusals, acceptor marks, look-ups and words under a list of ignored labels.
use mathlib.Core.Path.{◌≡◌, refl}
use mathlib.Core.Bool.{true, false}
use mathlib.Core.List.{List, [], ◌∷◌, Memᴰ as In}
use Rattle.std.specs.Prelude.{None}
use Prim.Native.Nat.{ℕ}
use lib.ListN.{get_or, set}
use Rattle.lists.specs.Lists.{every, keep_if, interval}
use Rattle.words.specs.Labels.{MAX, Checked, good, refused}
use Rattle.words.specs.Matches.{Match, loop, own, viaSigma, inputs, outputs, labelled, sorted_matches}
use Rattle.words.specs.Machines.{state_count, tr_count, acceptor_mark, state_word, tr_word, first_ok, next_ok, first_of, next_of, list_by, list_from, list_of, state_ok, tr_ok, acceptor, marks_ok, size_up_to, well_formed_up_to}
use Rattle.words.specs.Sigmas.{has, sigma_trs, sigma_matches, lookup}
use Rattle.words.specs.Ignored.{Ignored, ignored_ok, heard, in_records, words_replaced}
use Rattle.words.specs.Settings.{Settings, settings_ok, operand1, operand2}
use Rattle.words.proofs.Cases.{Case, answer, holds}
use Rattle.words.proofs.Tables.{in_table}
use Rattle.lists.proofs.Compare.{eq_list}

-- "where it holds 0 or MAX", at any place; "any words in any order"
pub lists_refused :
    (ignored_ok (0 ∷ []) ≡ false)
    × (ignored_ok (MAX ∷ []) ≡ false)
    × (ignored_ok (5 ∷ 0 ∷ 7 ∷ []) ≡ false)
    × (ignored_ok (5 ∷ 7 ∷ MAX ∷ []) ≡ false)
    × (ignored_ok [] ≡ true)
    × (ignored_ok (9 ∷ 5 ∷ 9 ∷ 4294967294 ∷ 1 ∷ []) ≡ true)
unfolding ignored_ok has
lists_refused = (refl, refl, refl, refl, refl, refl)

abbrev set6 : List ℕ → Settings
set6 w = record { kind = get_or w 0 0; filter = get_or w 1 0; sigma1 = get_or w 2 0; mode1 = get_or w 3 0; sigma2 = get_or w 4 0; mode2 = get_or w 5 0 }

-- the settings, the machines, the list and the answer at the pair of starts
abbrev ignoring : List ℕ → List ℕ → List ℕ → List ℕ → List ℕ → Case
ignoring w m1 m2 xs wants = record {
  settings = set6 w;
  lent = record { m1 = m1; m2 = m2; allowed1 = None; allowed2 = None; ignored = xs };
  at = record { s1 = 0; s2 = 0; f = 0 };
  wants = wants;
}

-- sequence, costs; no sigma, sigma of machine 1, sigma of machine 2
abbrev plain : List ℕ
plain = 0 ∷ 0 ∷ MAX ∷ 0 ∷ MAX ∷ 0 ∷ []

abbrev sigma_on1 : ℕ → List ℕ
sigma_on1 x = 0 ∷ 0 ∷ x ∷ 0 ∷ MAX ∷ 0 ∷ []

abbrev sigma_on2 : ℕ → List ℕ
sigma_on2 x = 0 ∷ 0 ∷ MAX ∷ 0 ∷ x ∷ 0 ∷ []

-- and under the filter alternate
abbrev alternate2 : ℕ → List ℕ
alternate2 x = 0 ∷ 1 ∷ MAX ∷ 0 ∷ x ∷ 0 ∷ []

-- one state with the transitions x:y of weight 1 and z:u of weight 2
abbrev two : ℕ → ℕ → ℕ → ℕ → List ℕ
two x y z u = 1 ∷ 2 ∷ 1 ∷ 0 ∷ 0 ∷ 0 ∷ 1 ∷ 0 ∷ 0 ∷ x ∷ y ∷ 1 ∷ 0 ∷ 2 ∷ z ∷ u ∷ 2 ∷ 0 ∷ 0 ∷ []

-- the same with marks of its inputs, its outputs and of an acceptor
abbrev marked : ℕ → ℕ → ℕ → List ℕ → List ℕ
marked i o a m = set (set (set m 3 i) 4 o) 5 a

-- machine 1 with outputs 2 and 5, machine 2 with inputs 2 and 5
abbrev first : List ℕ
first = two 1 2 3 5

abbrev second : List ℕ
second = two 2 6 5 7

-- an acceptor whose state has the list 9:9; the record 5:5 stands in no list
abbrev unlisted : List ℕ
unlisted = 1 ∷ 2 ∷ 1 ∷ 0 ∷ 0 ∷ 1 ∷ 1 ∷ 0 ∷ 0 ∷ 9 ∷ 9 ∷ 1 ∷ 0 ∷ 0 ∷ 5 ∷ 5 ∷ 2 ∷ 0 ∷ 0 ∷ []

-- the side (1: input, 2: output, 3: both), the start, no final weight, and the steps; or 0 and the refusal
unfoldable pub ignored_cases : List Case
ignored_cases =
    -- 2 and 5 without a list: side output
    ignoring plain first second [] (2 ∷ 1 ∷ 0 ∷ 0 ∷ 0 ∷ 1 ∷ 0 ∷ 1 ∷ 1 ∷ 6 ∷ 2 ∷ 0 ∷ 0 ∷ 0 ∷ 3 ∷ 7 ∷ 4 ∷ 0 ∷ 0 ∷ 0 ∷ [])
    -- "sortedness judged after replacement": 2 0 falls, so side input where machine 2 is sorted; the outer label of 3:5 stays
    ∷ ignoring plain first (two 2 6 4 7) (5 ∷ []) (1 ∷ 1 ∷ 0 ∷ 0 ∷ 0 ∷ 1 ∷ 0 ∷ 1 ∷ 1 ∷ 6 ∷ 2 ∷ 0 ∷ 0 ∷ 0 ∷ 3 ∷ 0 ∷ 2 ∷ 0 ∷ 0 ∷ 0 ∷ [])
    -- both sides fall then: 7; with a sigma label 5, and 6
    ∷ ignoring plain first second (5 ∷ []) (0 ∷ 7 ∷ [])
    ∷ ignoring (sigma_on1 9) first (two 2 6 4 7) (5 ∷ []) (0 ∷ 5 ∷ [])
    ∷ ignoring (sigma_on1 9) first (two 2 6 4 7) [] (2 ∷ 1 ∷ 0 ∷ 0 ∷ 0 ∷ 1 ∷ 0 ∷ 1 ∷ 1 ∷ 6 ∷ 2 ∷ 0 ∷ 0 ∷ 0 ∷ [])
    ∷ ignoring (sigma_on2 9) (two 1 2 3 4) second (5 ∷ []) (0 ∷ 6 ∷ [])
    -- "side marks on the replaced sides read as 0", where nothing is replaced too: marks 1 give both, and output under any list; a mark of machine 2 alone gives input, and output
    ∷ ignoring plain (marked 0 1 0 first) (marked 1 0 0 second) [] (3 ∷ 1 ∷ 0 ∷ 0 ∷ 0 ∷ 1 ∷ 0 ∷ 1 ∷ 1 ∷ 6 ∷ 2 ∷ 0 ∷ 0 ∷ 0 ∷ 3 ∷ 7 ∷ 4 ∷ 0 ∷ 0 ∷ 0 ∷ [])
    ∷ ignoring plain (marked 0 1 0 first) (marked 1 0 0 second) (77 ∷ []) (2 ∷ 1 ∷ 0 ∷ 0 ∷ 0 ∷ 1 ∷ 0 ∷ 1 ∷ 1 ∷ 6 ∷ 2 ∷ 0 ∷ 0 ∷ 0 ∷ 3 ∷ 7 ∷ 4 ∷ 0 ∷ 0 ∷ 0 ∷ [])
    ∷ ignoring plain first (marked 1 0 0 second) [] (1 ∷ 1 ∷ 0 ∷ 0 ∷ 0 ∷ 1 ∷ 0 ∷ 1 ∷ 1 ∷ 6 ∷ 2 ∷ 0 ∷ 0 ∷ 0 ∷ 3 ∷ 7 ∷ 4 ∷ 0 ∷ 0 ∷ 0 ∷ [])
    ∷ ignoring plain first (marked 1 0 0 second) (77 ∷ []) (2 ∷ 1 ∷ 0 ∷ 0 ∷ 0 ∷ 1 ∷ 0 ∷ 1 ∷ 1 ∷ 6 ∷ 2 ∷ 0 ∷ 0 ∷ 0 ∷ 3 ∷ 7 ∷ 4 ∷ 0 ∷ 0 ∷ 0 ∷ [])
    -- the outer marks stay: a mark of machine 1's inputs and one of machine 2's outputs are not asked
    ∷ ignoring plain (marked 1 0 0 first) (marked 0 1 0 second) (77 ∷ []) (2 ∷ 1 ∷ 0 ∷ 0 ∷ 0 ∷ 1 ∷ 0 ∷ 1 ∷ 1 ∷ 6 ∷ 2 ∷ 0 ∷ 0 ∷ 0 ∷ 3 ∷ 7 ∷ 4 ∷ 0 ∷ 0 ∷ 0 ∷ [])
    -- so an unrelated list may change a total: with side output the sigma of machine 2 is a plain label
    ∷ ignoring (sigma_on2 9) (marked 0 1 0 (two 1 3 2 4)) (marked 1 0 0 (two 3 6 9 7)) [] (3 ∷ 1 ∷ 0 ∷ 0 ∷ 0 ∷ 1 ∷ 0 ∷ 1 ∷ 1 ∷ 6 ∷ 2 ∷ 0 ∷ 0 ∷ 0 ∷ 1 ∷ 7 ∷ 3 ∷ 0 ∷ 0 ∷ 0 ∷ 2 ∷ 7 ∷ 4 ∷ 0 ∷ 0 ∷ 0 ∷ [])
    ∷ ignoring (sigma_on2 9) (marked 0 1 0 (two 1 3 2 4)) (marked 1 0 0 (two 3 6 9 7)) (77 ∷ []) (2 ∷ 1 ∷ 0 ∷ 0 ∷ 0 ∷ 1 ∷ 0 ∷ 1 ∷ 1 ∷ 6 ∷ 2 ∷ 0 ∷ 0 ∷ 0 ∷ [])
    -- mark 2, true of 5 2 as lent, is read as 0: 0 2 is sorted
    ∷ ignoring plain (marked 0 2 0 (two 1 5 3 2)) (two 2 6 4 7) [] (1 ∷ 1 ∷ 0 ∷ 0 ∷ 0 ∷ 1 ∷ 0 ∷ 1 ∷ 3 ∷ 6 ∷ 3 ∷ 0 ∷ 0 ∷ 0 ∷ [])
    ∷ ignoring plain (marked 0 2 0 (two 1 5 3 2)) (two 2 6 4 7) (5 ∷ []) (2 ∷ 1 ∷ 0 ∷ 0 ∷ 0 ∷ 1 ∷ 0 ∷ 1 ∷ 1 ∷ 0 ∷ 1 ∷ 0 ∷ 0 ∷ 0 ∷ 3 ∷ 6 ∷ 3 ∷ 0 ∷ 0 ∷ 0 ∷ [])
    ∷ ignoring (sigma_on1 9) (marked 0 2 0 (two 1 5 3 2)) (two 2 6 4 7) (5 ∷ []) (2 ∷ 1 ∷ 0 ∷ 0 ∷ 0 ∷ 1 ∷ 0 ∷ 1 ∷ 1 ∷ 0 ∷ 1 ∷ 0 ∷ 0 ∷ 0 ∷ 3 ∷ 6 ∷ 3 ∷ 0 ∷ 0 ∷ 0 ∷ [])
    ∷ ignoring plain (two 3 3 2 2) (marked 2 0 0 (two 5 6 2 7)) (5 ∷ []) (1 ∷ 1 ∷ 0 ∷ 0 ∷ 0 ∷ 1 ∷ 0 ∷ 1 ∷ 0 ∷ 6 ∷ 1 ∷ 0 ∷ 0 ∷ 0 ∷ 2 ∷ 7 ∷ 4 ∷ 0 ∷ 0 ∷ 0 ∷ [])
    -- "An acceptor mark that replacement makes false is read as 0": mode 0 rewrites both sides of sigma without a list and with one that leaves it true, else the matched side alone
    ∷ ignoring (sigma_on1 9) (marked 0 0 1 (two 5 5 9 9)) (two 3 6 4 7) [] (2 ∷ 1 ∷ 0 ∷ 0 ∷ 0 ∷ 1 ∷ 0 ∷ 1 ∷ 3 ∷ 6 ∷ 3 ∷ 0 ∷ 0 ∷ 0 ∷ 4 ∷ 7 ∷ 4 ∷ 0 ∷ 0 ∷ 0 ∷ [])
    ∷ ignoring (sigma_on1 9) (marked 0 0 1 (two 5 5 9 9)) (two 3 6 4 7) (77 ∷ []) (2 ∷ 1 ∷ 0 ∷ 0 ∷ 0 ∷ 1 ∷ 0 ∷ 1 ∷ 3 ∷ 6 ∷ 3 ∷ 0 ∷ 0 ∷ 0 ∷ 4 ∷ 7 ∷ 4 ∷ 0 ∷ 0 ∷ 0 ∷ [])
    ∷ ignoring (sigma_on1 9) (marked 0 0 1 (two 5 5 9 9)) (two 3 6 4 7) (5 ∷ []) (2 ∷ 1 ∷ 0 ∷ 0 ∷ 0 ∷ 1 ∷ 0 ∷ 1 ∷ 5 ∷ 0 ∷ 1 ∷ 0 ∷ 0 ∷ 0 ∷ 9 ∷ 6 ∷ 3 ∷ 0 ∷ 0 ∷ 0 ∷ 9 ∷ 7 ∷ 4 ∷ 0 ∷ 0 ∷ 0 ∷ [])
    ∷ ignoring (sigma_on2 9) (two 3 3 2 2) (marked 0 0 1 (two 5 5 9 9)) [] (1 ∷ 1 ∷ 0 ∷ 0 ∷ 0 ∷ 1 ∷ 0 ∷ 1 ∷ 3 ∷ 3 ∷ 3 ∷ 0 ∷ 0 ∷ 0 ∷ 2 ∷ 2 ∷ 4 ∷ 0 ∷ 0 ∷ 0 ∷ [])
    ∷ ignoring (sigma_on2 9) (two 3 3 2 2) (marked 0 0 1 (two 5 5 9 9)) (5 ∷ []) (1 ∷ 1 ∷ 0 ∷ 0 ∷ 0 ∷ 1 ∷ 0 ∷ 1 ∷ 0 ∷ 5 ∷ 1 ∷ 0 ∷ 0 ∷ 0 ∷ 3 ∷ 9 ∷ 3 ∷ 0 ∷ 0 ∷ 0 ∷ 2 ∷ 9 ∷ 4 ∷ 0 ∷ 0 ∷ 0 ∷ [])
    -- mode 2 asks no mark
    ∷ ignoring (0 ∷ 0 ∷ 9 ∷ 2 ∷ MAX ∷ 0 ∷ []) (marked 0 0 1 (two 5 5 9 9)) (two 3 6 4 7) [] (2 ∷ 1 ∷ 0 ∷ 0 ∷ 0 ∷ 1 ∷ 0 ∷ 1 ∷ 9 ∷ 6 ∷ 3 ∷ 0 ∷ 0 ∷ 0 ∷ 9 ∷ 7 ∷ 4 ∷ 0 ∷ 0 ∷ 0 ∷ [])
    -- it is judged over all records, as well where a listed record is not in a list of a state: record 2 alone falls apart
    ∷ ignoring (sigma_on1 9) unlisted (two 3 6 4 7) (5 ∷ []) (2 ∷ 1 ∷ 0 ∷ 0 ∷ 0 ∷ 1 ∷ 0 ∷ 1 ∷ 9 ∷ 6 ∷ 2 ∷ 0 ∷ 0 ∷ 0 ∷ 9 ∷ 7 ∷ 3 ∷ 0 ∷ 0 ∷ 0 ∷ [])
    ∷ []

-- the same for sigma labels that stand in the list (02, 2.8)
unfoldable pub exempt_cases : List Case
exempt_cases =
    -- "such transitions match letters where their side is matched": without the exemption 5 0, and 0 5 on machine 2, fall, and 5 and 6 stand
    ignoring (sigma_on1 9) (two 5 5 9 9) (two 3 6 4 7) (9 ∷ []) (2 ∷ 1 ∷ 0 ∷ 0 ∷ 0 ∷ 1 ∷ 0 ∷ 1 ∷ 9 ∷ 6 ∷ 3 ∷ 0 ∷ 0 ∷ 0 ∷ 9 ∷ 7 ∷ 4 ∷ 0 ∷ 0 ∷ 0 ∷ [])
    ∷ ignoring (sigma_on2 9) (two 3 3 2 2) (two 5 6 9 7) (9 ∷ []) (1 ∷ 1 ∷ 0 ∷ 0 ∷ 0 ∷ 1 ∷ 0 ∷ 1 ∷ 3 ∷ 7 ∷ 3 ∷ 0 ∷ 0 ∷ 0 ∷ 2 ∷ 7 ∷ 4 ∷ 0 ∷ 0 ∷ 0 ∷ [])
    -- "refusals 5 to 7 .. may differ" the other way: 9 5 falls, where 0 5 is sorted. (7 stands where no sigma is set alone.)
    ∷ ignoring (sigma_on1 9) (two 9 9 5 5) (two 3 6 4 7) (9 ∷ []) (0 ∷ 5 ∷ [])
    ∷ ignoring (sigma_on2 9) (two 3 3 2 2) (two 9 6 5 7) (9 ∷ []) (0 ∷ 6 ∷ [])
    -- "sides": 3 9 is sorted on machine 1, so side output, where 3 0 falls, and the side is input; there sigma of machine 2 is a plain label
    ∷ ignoring (sigma_on2 9) (two 1 3 2 9) (two 9 6 9 7) (9 ∷ []) (2 ∷ 1 ∷ 0 ∷ 0 ∷ 0 ∷ 1 ∷ 0 ∷ 1 ∷ 2 ∷ 6 ∷ 3 ∷ 0 ∷ 0 ∷ 0 ∷ 2 ∷ 7 ∷ 4 ∷ 0 ∷ 0 ∷ 0 ∷ [])
    -- "side marks still read as 0", though nothing is replaced: marks 1 do not give both
    ∷ ignoring (sigma_on1 9) (marked 0 1 0 (two 1 2 2 9)) (marked 1 0 0 (two 2 6 5 7)) (9 ∷ []) (2 ∷ 1 ∷ 0 ∷ 0 ∷ 0 ∷ 1 ∷ 0 ∷ 1 ∷ 1 ∷ 6 ∷ 2 ∷ 0 ∷ 0 ∷ 0 ∷ 2 ∷ 6 ∷ 3 ∷ 0 ∷ 0 ∷ 0 ∷ 2 ∷ 7 ∷ 4 ∷ 0 ∷ 0 ∷ 0 ∷ [])
    -- "acceptor marks": 9:9 leaves a mark true, so mode 0 rewrites both sides, on either machine; 5 in the list makes it false
    ∷ ignoring (sigma_on1 9) (marked 0 0 1 (two 5 5 9 9)) (two 3 6 4 7) (9 ∷ []) (2 ∷ 1 ∷ 0 ∷ 0 ∷ 0 ∷ 1 ∷ 0 ∷ 1 ∷ 3 ∷ 6 ∷ 3 ∷ 0 ∷ 0 ∷ 0 ∷ 4 ∷ 7 ∷ 4 ∷ 0 ∷ 0 ∷ 0 ∷ [])
    ∷ ignoring (sigma_on1 9) (marked 0 0 1 (two 5 5 9 9)) (two 3 6 4 7) (9 ∷ 5 ∷ []) (2 ∷ 1 ∷ 0 ∷ 0 ∷ 0 ∷ 1 ∷ 0 ∷ 1 ∷ 5 ∷ 0 ∷ 1 ∷ 0 ∷ 0 ∷ 0 ∷ 9 ∷ 6 ∷ 3 ∷ 0 ∷ 0 ∷ 0 ∷ 9 ∷ 7 ∷ 4 ∷ 0 ∷ 0 ∷ 0 ∷ [])
    ∷ ignoring (sigma_on2 9) (two 3 3 2 2) (marked 0 0 1 (two 5 5 9 9)) (9 ∷ []) (1 ∷ 1 ∷ 0 ∷ 0 ∷ 0 ∷ 1 ∷ 0 ∷ 1 ∷ 3 ∷ 3 ∷ 3 ∷ 0 ∷ 0 ∷ 0 ∷ 2 ∷ 2 ∷ 4 ∷ 0 ∷ 0 ∷ 0 ∷ [])
    -- "none" of machine 1 counts no sigma transition: the filter keeps a move by an epsilon of machine 2 with f = 0; with an epsilon beside it f is 1. Else "all" would drop it.
    ∷ ignoring (sigma_on1 9) (two 1 9 2 9) (two 0 6 5 7) (9 ∷ []) (2 ∷ 1 ∷ 0 ∷ 0 ∷ 0 ∷ 1 ∷ 0 ∷ 1 ∷ 0 ∷ 6 ∷ 1 ∷ 0 ∷ 0 ∷ 0 ∷ 1 ∷ 7 ∷ 3 ∷ 0 ∷ 0 ∷ 0 ∷ 2 ∷ 7 ∷ 4 ∷ 0 ∷ 0 ∷ 0 ∷ [])
    ∷ ignoring (sigma_on1 9) (two 1 5 2 9) (two 0 6 5 7) (9 ∷ 5 ∷ []) (2 ∷ 1 ∷ 0 ∷ 0 ∷ 0 ∷ 1 ∷ 0 ∷ 1 ∷ 1 ∷ 0 ∷ 1 ∷ 0 ∷ 0 ∷ 0 ∷ 0 ∷ 6 ∷ 1 ∷ 0 ∷ 0 ∷ 1 ∷ 0 ∷ 7 ∷ 2 ∷ 0 ∷ 0 ∷ 1 ∷ [])
    -- and so on machine 2, whose side is matched where machine 1 is not sorted: the filter alternate, by epsilons of machine 1
    ∷ ignoring (alternate2 9) (two 1 5 2 0) (two 9 6 9 7) (9 ∷ []) (1 ∷ 1 ∷ 0 ∷ 0 ∷ 0 ∷ 1 ∷ 0 ∷ 1 ∷ 1 ∷ 6 ∷ 2 ∷ 0 ∷ 0 ∷ 0 ∷ 1 ∷ 7 ∷ 3 ∷ 0 ∷ 0 ∷ 0 ∷ 2 ∷ 0 ∷ 2 ∷ 0 ∷ 0 ∷ 0 ∷ [])
    ∷ ignoring (alternate2 9) (two 1 4 2 0) (two 5 6 9 7) (9 ∷ 5 ∷ []) (1 ∷ 1 ∷ 0 ∷ 0 ∷ 0 ∷ 1 ∷ 0 ∷ 1 ∷ 0 ∷ 6 ∷ 1 ∷ 0 ∷ 0 ∷ 0 ∷ 1 ∷ 7 ∷ 3 ∷ 0 ∷ 0 ∷ 0 ∷ 2 ∷ 0 ∷ 2 ∷ 0 ∷ 0 ∷ 1 ∷ [])
    -- "that label walked on the other machine gets 11", as without a list
    ∷ ignoring (sigma_on1 4) (two 4 4 5 5) (two 4 6 5 7) ([]) (2 ∷ 1 ∷ 0 ∷ 0 ∷ 0 ∷ 1 ∷ 0 ∷ 0 ∷ 11 ∷ [])
    ∷ ignoring (sigma_on1 4) (two 4 4 5 5) (two 4 6 5 7) (4 ∷ []) (2 ∷ 1 ∷ 0 ∷ 0 ∷ 0 ∷ 1 ∷ 0 ∷ 0 ∷ 11 ∷ [])
    ∷ ignoring (sigma_on2 9) (two 3 9 2 2) (two 5 6 9 7) (9 ∷ []) (1 ∷ 1 ∷ 0 ∷ 0 ∷ 0 ∷ 1 ∷ 0 ∷ 0 ∷ 11 ∷ [])
    ∷ []

ignored_hold : every holds ignored_cases ≡ true
unfolding holds answer eq_list every settings_ok well_formed_up_to size_up_to state_ok tr_ok marks_ok acceptor ignored_cases
ignored_hold = refl

-- each answer of the table
pub ignored_answers : (c : Case) → In c ignored_cases → answer c.settings c.lent c.at ≡ c.wants
ignored_answers = in_table ignored_cases ignored_hold

exempt_hold : every holds exempt_cases ≡ true
unfolding holds answer eq_list every settings_ok well_formed_up_to size_up_to state_ok tr_ok marks_ok acceptor exempt_cases
exempt_hold = refl

pub exempt_answers : (c : Case) → In c exempt_cases → answer c.settings c.lent c.at ≡ c.wants
exempt_answers = in_table exempt_cases exempt_hold

-- the matches of label x at state 0 of machine 1, and of machine 2, with a list
abbrev found1 : List ℕ → List ℕ → List ℕ → ℕ → Checked (List Match)
found1 w m xs x = lookup (operand1 (set6 w) (record { m1 = m; m2 = second; allowed1 = None; allowed2 = None; ignored = xs })) 0 x

abbrev found2 : List ℕ → List ℕ → List ℕ → ℕ → Checked (List Match)
found2 w m xs x = lookup (operand2 (set6 w) (record { m1 = first; m2 = m; allowed1 = None; allowed2 = None; ignored = xs })) 0 x

-- an ignored label that is looked up directly has no own matches, though a record has it: asked for 0 that record is given; sigma matches stay
pub looked_up_lem :
    (found1 plain first [] 5 ≡ good (own 2 ∷ []))
    × (found1 plain first (5 ∷ []) 5 ≡ good [])
    × (found1 plain first (5 ∷ []) 0 ≡ good (loop ∷ own 2 ∷ []))
    × (found2 plain second (5 ∷ []) 5 ≡ good [])
    × (found2 plain second (5 ∷ []) 0 ≡ good (loop ∷ own 2 ∷ []))
    × (found1 (sigma_on1 9) (two 5 5 9 9) (5 ∷ []) 5 ≡ good (viaSigma 2 ∷ []))
unfolding lookup sorted_matches sigma_matches sigma_trs labelled keep_if heard has state_count tr_count state_word tr_word first_ok next_ok first_of next_of list_by list_from list_of
looked_up_lem = (refl, refl, refl, refl, refl, refl)

-- a sigma label in the list matches letters and is no epsilon; asked for the label itself 11 stays. On the other machine it is a label like others.
pub sigma_listed :
    (found1 (sigma_on1 4) (two 4 4 5 5) (4 ∷ []) 3 ≡ good (viaSigma 1 ∷ []))
    × (found1 (sigma_on1 4) (two 4 4 5 5) (4 ∷ []) 0 ≡ good (loop ∷ []))
    × (found1 (sigma_on1 4) (two 4 4 5 5) (4 ∷ []) 4 ≡ refused 11)
    × (found2 (sigma_on2 5) second (5 ∷ 2 ∷ []) 3 ≡ good (viaSigma 2 ∷ []))
    × (found2 (sigma_on1 5) second (5 ∷ 2 ∷ []) 5 ≡ good (own 2 ∷ []))
    × (found1 (sigma_on2 5) first (5 ∷ 2 ∷ []) 5 ≡ good (own 2 ∷ []))
unfolding lookup sorted_matches sigma_matches sigma_trs labelled keep_if heard has state_count tr_count state_word tr_word first_ok next_ok first_of next_of list_by list_from list_of
sigma_listed = (refl, refl, refl, refl, refl, refl)

abbrev only : List ℕ → Ignored
only xs = record { list = xs; sigma1 = MAX; sigma2 = MAX }

abbrev beside : ℕ → ℕ → List ℕ → Ignored
beside σ τ xs = record { list = xs; sigma1 = σ; sigma2 = τ }

-- the words of an acceptor 5:5, 9:9 with all marks, replaced on either side; and where nothing is replaced, or sigma labels alone are listed
pub words_replaced_lem :
    (words_replaced outputs (only (5 ∷ [])) (marked 1 1 1 (two 5 5 9 9)) ≡ marked 1 0 0 (two 5 0 9 9))
    × (words_replaced inputs (only (5 ∷ [])) (marked 1 1 1 (two 5 5 9 9)) ≡ marked 0 1 0 (two 0 5 9 9))
    × (words_replaced inputs (only (77 ∷ [])) (marked 1 1 1 (two 5 5 9 9)) ≡ marked 0 1 1 (two 5 5 9 9))
    × (words_replaced outputs (beside 5 9 (5 ∷ 9 ∷ [])) (marked 1 1 1 (two 5 5 9 9)) ≡ marked 1 0 1 (two 5 5 9 9))
    × (words_replaced inputs (beside 9 MAX (5 ∷ 9 ∷ [])) (marked 1 1 1 (two 5 5 9 9)) ≡ marked 0 1 0 (two 0 5 9 9))
unfolding words_replaced in_records heard has every interval acceptor_mark state_count tr_count tr_word
words_replaced_lem = (refl, refl, refl, refl, refl)
