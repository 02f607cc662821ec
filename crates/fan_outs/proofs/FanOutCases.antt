-- The program's answers, and with allowed lists the call's, on closed words.
use mathlib.Core.Path.{◌≡◌, refl, sym, subst}
use mathlib.Core.List.Memᴰ
use mathlib.Core.List.{List, [], ◌∷◌, Memᴰ as In}
use mathlib.Core.Logic.{⊎_elim}
use Prim.Native.Nat.{ℕ}
use lib.ListN.{set}
use Rattle.lists.specs.Lists.{every, interval, keep_if, put}
use Rattle.words.specs.Labels.{MAX, Checked, good, refused}
use Rattle.words.specs.Machines.{state_count, tr_count, start_word, side_mark, acceptor_mark, state_word, tr_word, first_ok, next_ok, first_of, next_of, list_by, list_from, list_of, no_fall, sorted, state_ok, tr_ok, acceptor, marks_ok, size_up_to, well_formed_up_to}
use Rattle.words.specs.Matches.{labelled, sorted_matches}
use Rattle.words.specs.Sigmas.{has, sigma_trs, sigma_matches, lookup}
use Rattle.words.specs.Ignored.{heard, ignored_ok}
use Rattle.words.specs.Sides.{side_of}
use Rattle.words.specs.Settings.{settings_ok}
use Rattle.words.specs.Steps.{start_at}
use Rattle.calls.specs.Store.{add_with, chain_with, state_room_with, room_with, slot}
use Rattle.calls.specs.Checks.{side_for_with}
use Rattle.calls.specs.Calls.{begun_with, cleared, open_with}
use Rattle.calls.specs.Listing.{settings_of}
use Rattle.calls.proofs.StarCases.{plain, lend, lend_with, example1}
use Rattle.fan_outs.specs.FanOut.{fan_out, fan_out_at, fan_out_of, fan_out_line}

-- machine 1: one state with 1:3, 1:2 and 1:3, whose outputs are sorted by no mark and in no fact
abbrev pub falling : List ℕ
falling = 1 ∷ 3 ∷ 1 ∷ 0 ∷ 0 ∷ 0 ∷ 1 ∷ 0 ∷ 0 ∷ 1 ∷ 3 ∷ 0 ∷ 0 ∷ 2 ∷ 1 ∷ 2 ∷ 0 ∷ 0 ∷ 3 ∷ 1 ∷ 3 ∷ 0 ∷ 0 ∷ 0 ∷ []

-- machine 2: one state with 0:6, 4:6 and 9:9
abbrev pub rising : List ℕ
rising = 1 ∷ 3 ∷ 1 ∷ 0 ∷ 0 ∷ 0 ∷ 1 ∷ 0 ∷ 0 ∷ 0 ∷ 6 ∷ 1 ∷ 0 ∷ 2 ∷ 4 ∷ 6 ∷ 2 ∷ 0 ∷ 3 ∷ 9 ∷ 9 ∷ 3 ∷ 0 ∷ 0 ∷ []

-- sigma of machine 2 is 9
abbrev pub nine : List ℕ
nine = 0 ∷ 0 ∷ MAX ∷ 0 ∷ 9 ∷ 0 ∷ []

-- the lines of the program, and its answer
pub record Case : Type 0 where
  pub settings : List ℕ
  pub first : List ℕ
  pub second : List ℕ
  pub query : List ℕ
  pub wants : Checked ℕ

abbrev case : List ℕ → List ℕ → List ℕ → List ℕ → Checked ℕ → Case
case w m1 m2 query wants = record { settings = w; first = m1; second = m2; query = query; wants = wants }

abbrev asks : ℕ → ℕ → ℕ → Checked ℕ → Case
asks n q x wants = case nine falling rising (n ∷ q ∷ x ∷ []) wants

-- The case holds. Its own `unfolding` line opens all that the answer is made of: the table names `Holds` alone.
unfoldable pub Holds : Case → Type 0
unfolding fan_out_line fan_out_at fan_out open_with begun_with cleared side_for_with add_with chain_with state_room_with room_with put slot settings_ok well_formed_up_to size_up_to state_ok tr_ok marks_ok acceptor start_at lookup has sigma_trs sigma_matches labelled keep_if sorted_matches every side_of sorted no_fall interval side_mark acceptor_mark state_count tr_count start_word state_word tr_word first_ok next_ok first_of next_of list_by list_from list_of heard ignored_ok
Holds c = fan_out_line c.settings (lend c.first c.second) c.query ≡ c.wants

unfoldable pub cases : List Case
cases =
    -- "on an unsorted side every transition with the label counts"
    asks 1 0 3 (good 2)
    ∷ asks 1 0 2 (good 1)
    ∷ asks 1 0 4 (good 0)
    -- the loop alone; no epsilon transition
    ∷ asks 1 0 0 (good 1)
    ∷ asks 1 0 MAX (good 0)
    -- an own match and a sigma match; a sigma match alone
    ∷ asks 2 0 4 (good 2)
    ∷ asks 2 0 5 (good 1)
    -- the loop and an epsilon transition; without the loop; sigma stands for neither
    ∷ asks 2 0 0 (good 2)
    ∷ asks 2 0 MAX (good 1)
    -- the sigma label: 11; on the other machine it is a label like others; without sigma too
    ∷ asks 2 0 9 (refused 11)
    ∷ asks 1 0 9 (good 0)
    ∷ case (plain 0 0) falling rising (2 ∷ 0 ∷ 9 ∷ []) (good 1)
    -- "Label MAX with sigma none is not sigma"
    ∷ case (plain 0 0) falling rising (2 ∷ 0 ∷ MAX ∷ []) (good 1)
    -- another machine, a state not below S: 9, before 11
    ∷ asks 0 0 4 (refused 9)
    ∷ asks 3 0 4 (refused 9)
    ∷ asks MAX 0 4 (refused 9)
    ∷ asks 2 1 4 (refused 9)
    ∷ asks 1 1 4 (refused 9)
    ∷ asks 2 1 9 (refused 9)
    ∷ asks 2 2 4 (refused 9)
    -- each machine has its own states: three of machine 1, one of machine 2
    ∷ case (plain 0 0) example1 rising (1 ∷ 1 ∷ 5 ∷ []) (good 1)
    ∷ case (plain 0 0) example1 rising (1 ∷ 3 ∷ 5 ∷ []) (refused 9)
    ∷ case (plain 0 0) example1 rising (2 ∷ 1 ∷ 4 ∷ []) (refused 9)
    -- not of three words
    ∷ case nine falling rising [] (refused 9)
    ∷ case nine falling rising (2 ∷ 0 ∷ []) (refused 9)
    ∷ case nine falling rising (2 ∷ 0 ∷ 4 ∷ 4 ∷ []) (refused 9)
    -- a refused opening comes first; settings not of six words
    ∷ case [] falling rising [] (refused 1)
    ∷ case (0 ∷ 0 ∷ MAX ∷ 0 ∷ 9 ∷ []) falling rising (2 ∷ 0 ∷ 4 ∷ []) (refused 1)
    ∷ case (0 ∷ 0 ∷ MAX ∷ 0 ∷ 9 ∷ 0 ∷ 0 ∷ []) falling rising (2 ∷ 0 ∷ 4 ∷ []) (refused 1)
    ∷ case (0 ∷ 6 ∷ MAX ∷ 0 ∷ 9 ∷ 0 ∷ []) falling rising [] (refused 1)
    ∷ case nine [] rising [] (refused 2)
    ∷ case nine falling [] [] (refused 3)
    ∷ case (0 ∷ 0 ∷ MAX ∷ 0 ∷ 0 ∷ 0 ∷ []) falling rising [] (refused 4)
    ∷ case (0 ∷ 0 ∷ 9 ∷ 0 ∷ MAX ∷ 0 ∷ []) falling rising [] (refused 5)
    ∷ case (0 ∷ 0 ∷ MAX ∷ 0 ∷ 9 ∷ 0 ∷ []) falling (set rising 9 5) [] (refused 6)
    ∷ case (plain 0 0) falling (set rising 9 5) [] (refused 7)
    -- a machine without a start is opened, and looked up
    ∷ case nine falling (set rising 2 0) (2 ∷ 0 ∷ 4 ∷ []) (good 2)
    ∷ []

unfoldable AllHold : List Case → Type 0
AllHold [] = Unit {0}
AllHold (c ∷ cs) = Holds c × AllHold cs

each : (cs : List Case) → AllHold cs → (c : Case) → In c cs → Holds c
unfolding AllHold
each [] h c i = absurd (Memᴰ.not-nil i)
each (d ∷ ds) h c i = ⊎_elim (λ e. subst Holds (sym e) h.0) (λ j. each ds h.1 c j) (Memᴰ.cases_cons i)

all_hold : AllHold cases
unfolding AllHold Holds cases
all_hold = (refl, (refl, (refl, (refl, (refl, (refl, (refl, (refl, (refl, (refl, (refl, (refl, (refl, (refl, (refl, (refl, (refl, (refl, (refl, (refl, (refl, (refl, (refl, (refl, (refl, (refl, (refl, (refl, (refl, (refl, (refl, (refl, (refl, (refl, (refl, (refl, (refl, tt)))))))))))))))))))))))))))))))))))))

pub each_case : (c : Case) → In c cases → Holds c
each_case c i = each cases all_hold c i

-- the call with ignored labels, sigma of machine 2 being 9
abbrev counted : List ℕ → ℕ → ℕ → ℕ → Checked ℕ
counted xs n q x = fan_out_of (settings_of nine) (lend_with xs falling rising) n q x

-- 02, 2.7: an ignored label has no own matches, and its records are counted with 0; a list that holds 0 or MAX is 18, before 9
pub ignored_counted :
    (counted (4 ∷ []) 2 0 4 ≡ good 1)
    × (counted (4 ∷ []) 2 0 0 ≡ good 3)
    × (counted (3 ∷ []) 1 0 3 ≡ good 0)
    × (counted (3 ∷ []) 1 0 0 ≡ good 3)
    × (counted (77 ∷ []) 2 0 4 ≡ good 2)
    × (counted (4 ∷ 0 ∷ []) 3 0 4 ≡ refused 18)
    × (counted (MAX ∷ []) 2 0 9 ≡ refused 18)
unfolding Holds fan_out_of
ignored_counted = (refl, refl, refl, refl, refl, refl, refl)
