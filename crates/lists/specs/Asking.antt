-- Asking on: what is asked again and again, each time with what the asking before handed back (02, 2.5, "Asked on").
use Rattle.std.specs.Prelude.{ℕ, zero, suc}

-- C: cursors; R: answers. Answers c r: r is an answer to one asking with the cursor c. onward c r: the cursor to ask with next, once c was answered by r.
-- r answers asking number k, counted from 0, of those that begin with the cursor c.
abbrev pub AskedOn : {C R : Type 0} → (C → R → Type 0) → (C → R → C) → C → ℕ → R → Type 0
AskedOn Answers onward c zero r = Answers c r
AskedOn {C} {R} Answers onward c (suc k) r = (q : R) × Answers c q × AskedOn Answers onward (onward c q) k r
