-- A state's list as first and count: in form it lies within the used records; it and its words stay where the used records do; after an expansion it is the part of the new records.
use mathlib.Core.Path.{◌≡◌, refl, ◌∙◌, ap}
use mathlib.Core.List.{List, [], ◌∷◌, Memᴰ as In}
use mathlib.Core.Logic.{◌≢◌}
use Prim.Native.Nat.{ℕ, zero, suc, ◌+◌, ◌-◌, ◌*◌, ◌≤◌, ◌<◌}
use native.Mathlib.Omega.{arith}
use native.Mathlib.Decide.{ℕ_discrete}
use lib.ListN.{length, get_or}
use borrow.Author.Tests.{eq-eqb, ne_eqb}
use Rattle.lists.specs.Lists.{interval, linked}
use Rattle.lists.proofs.Members.{in_interval, of_interval}
use Rattle.lists.proofs.Rising.{Rises, risen_same, risen_within, part_same}
use Rattle.words.specs.Steps.{Step}
use Rattle.calls.specs.Store.{Used, Store, tr_size, tr_room, first_at, tr_next_at, mark, Part, part_at, field_of, mark_with, part_with, tr_room_with}
use Rattle.calls.specs.Calls.{new_part, words_of_part}
use Rattle.calls.proofs.RecordLaws.{room_words}
use Rattle.calls.proofs.StoreForms.{Form}
use Rattle.calls.proofs.FormKept.{mark_first}
use Rattle.calls.proofs.StepsMade.{Written, written_length}

-- the same list in two stores: the second holds the used records of the first
module _ {S1 S2 : ℕ} (d e : Store) (form : Form S1 S2 d d.used.trs) (more : d.used.trs ≤ e.used.trs) (n : ℕ) (used : n < d.used.states) where
  rises : Rises (tr_next_at d.memory.trs) d.used.trs
  rises i h = (form.tr i h).next

  pub part_alike : ((i : ℕ) → i < tr_size * d.used.trs → get_or e.memory.trs i 0 ≡ get_or d.memory.trs i 0) → first_at e.memory.states n ≡ first_at d.memory.states n → part_at e n ≡ part_at d n
  unfolding part_with tr_next_at field_of
  part_alike same p =
      let next = tr_next_at d.memory.trs in
      let other = tr_next_at e.memory.trs in
      let low = (form.state n used).first in
      let T = d.used.trs in
      let q : linked other e.used.trs (first_at d.memory.states n) ≡ linked next T (first_at d.memory.states n)
      = risen_same next other T e.used.trs T (first_at d.memory.states n) rises (λ i h. same (tr_size * i + 4) (omega arith)) low (λ h. omega (arith, more, h)) (λ h. omega (arith, h)) in
      λ i. record { first = p i; count = length ((ap (linked other e.used.trs) p ∙ q) i) }

  -- within the used records
  pub part_within : tr_size * ((part_at d n).first - 1) + tr_size * (part_at d n).count ≤ tr_size * d.used.trs
  unfolding part_with
  part_within = let r = risen_within (tr_next_at d.memory.trs) d.used.trs d.used.trs (first_at d.memory.states n) rises (form.state n used).first in omega (arith, r)

  pub words_alike : d.used.trs ≤ tr_room e.memory → ((i : ℕ) → i < tr_size * d.used.trs → get_or e.memory.trs i 0 ≡ get_or d.memory.trs i 0) → words_of_part e.memory.trs (part_at d n) ≡ words_of_part d.memory.trs (part_at d n)
  unfolding tr_room_with
  words_alike room same =
      let a = room_words tr_size e.memory.trs d.used.trs room in
      let b = room_words tr_size d.memory.trs d.used.trs form.trs_fit in
      part_same e.memory.trs d.memory.trs (tr_size * d.used.trs) (tr_size * ((part_at d n).first - 1)) (tr_size * (part_at d n).count) part_within a.1 b.1 same

-- the new part: the records used after and not before
module _ (a b : Used) (more : a.trs ≤ b.trs) where
  abbrev p : Part
  p = new_part a b

  none_first : b.trs ≡ a.trs → p.first ≡ 0
  none_first e = rw (eq-eqb b.trs a.trs e)

  pub some_first : b.trs ≢ a.trs → p.first ≡ a.trs + 1
  some_first e = rw (ne_eqb b.trs a.trs e)

  -- the first of the new records is used, or there is none
  pub new_low : p.first ≤ b.trs
  new_low = go (ℕ_discrete b.trs a.trs)
    where
      go : Dec (b.trs ≡ a.trs) → p.first ≤ b.trs
      go (yes e) = let f = none_first e in omega (arith, f)
      go (no e) = let f = some_first e in omega (arith, f, e, more)

  pub in_new : (r : ℕ) → a.trs < r → r ≤ b.trs → In r (interval p.first p.count)
  in_new r h l =
      let f = some_first (λ e. omega (arith, e, h, l)) in
      in_interval p.first p.count r (omega (arith, f, h)) (omega (arith, f, h, l))

  pub of_new : {r : ℕ} → In r (interval p.first p.count) → (a.trs < r) × (r ≤ b.trs)
  of_new {r} i = go (ℕ_discrete b.trs a.trs) (of_interval p.first p.count i)
    where
      go : Dec (b.trs ≡ a.trs) → (p.first ≤ r) × (r < p.first + p.count) → (a.trs < r) × (r ≤ b.trs)
      go (yes e) k = let f = none_first e in absurd (omega (arith, f, e, k.0, k.1))
      go (no e) k = let f = some_first e in (omega (arith, f, k.0), omega (arith, f, k.1, more))

-- the list of the state that was expanded: one record for each step
module _ {S1 S2 : ℕ} (before : Used) (e : Store) (form : Form S1 S2 e e.used.trs) (n : ℕ) (used : n < e.used.states) where
  abbrev from : ℕ
  from = (new_part before e.used).first

  -- as many records as steps
  counted : (steps : List Step) → e.used.trs ≡ before.trs + length steps → Written e before.trs steps → length (linked (tr_next_at e.memory.trs) e.used.trs from) ≡ length steps
  unfolding linked
  counted [] h w = ap (λ k. length (linked (tr_next_at e.memory.trs) e.used.trs k)) (none_first before e.used (omega arith) (omega arith)) ∙ go e.used.trs
    where
      go : (k : ℕ) → length (linked (tr_next_at e.memory.trs) k 0) ≡ 0
      go zero = refl
      go (suc k) = refl
  counted (st ∷ others) h w =
      let f : from ≡ suc before.trs = some_first before e.used (omega arith) (λ z. omega (arith, z, h)) ∙ omega arith in
      ap (λ k. length (linked (tr_next_at e.memory.trs) e.used.trs k)) f ∙ written_length e before.trs st others e.used.trs (omega arith) w

  pub part_new : (steps : List Step) → e.used.trs ≡ before.trs + length steps → Written e before.trs steps → from ≤ e.used.trs → part_at (mark e n from) n ≡ new_part before e.used
  unfolding part_with mark_with
  part_new steps h w low =
      let f = mark_first e form n from used low in
      let c : length (linked (tr_next_at e.memory.trs) e.used.trs from) ≡ e.used.trs - before.trs = counted steps h w ∙ omega (arith, h) in
      λ i. record { first = f i; count = (ap (λ k. length (linked (tr_next_at e.memory.trs) e.used.trs k)) f ∙ c) i }
