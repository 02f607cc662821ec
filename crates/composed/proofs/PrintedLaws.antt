-- What is printed of what is read of an input: no line after the third matters.
use mathlib.Core.Path.{◌≡◌, ap, ◌∙◌}
use mathlib.Core.List.{List, [], ◌∷◌, ◌++◌}
use mathlib.Core.Logic.{◌⊎◌, inl, inr}
use Prim.Native.Nat.{ℕ}
use Rattle.std.specs.Prelude.{IfSome, None, Some}
use Rattle.std.specs.declared.option.Option.{Option}
use Rattle.listing_text.specs.Chunks.{Input, Rooms, unread, read_bytes, in_rooms}
use Rattle.listing_text.specs.Printing.{printed_bytes}
use Rattle.listing_text.proofs.FirstLines.{SameLines, three_lines}
use Rattle.listing_input.specs.Read.{ReadsFrom}
use Rattle.listing_input.proofs.LinesRead.{lines_read}
use Rattle.listing_write.specs.Written.{Written}
use Rattle.listing_write.proofs.WrittenLaws.{same_text}
use Rattle.composed.specs.Prints.{PrintsOf}

pub printed_of : (known : Option (List ℕ)) (rooms : Rooms) (i : Input) (text out out' : List ℕ) (n : ℕ) → ((bytes : List ℕ) → i ≡ in_rooms rooms (read_bytes unread bytes) → text ≡ printed_bytes bytes)
    → Written out 0 text out' n → IfSome known (λ xs. ReadsFrom 3 xs rooms i) → IfSome known (λ xs. PrintsOf xs out out' n)
printed_of None rooms i text out out' n t w b = tt
printed_of (Some xs) rooms i text out out' n t w b = go (lines_read 3 xs b.0 b.1)
  where
    go : SameLines 3 b.0 xs ⊎ ((front : List ℕ) × (rest : List ℕ) × (xs ≡ front ++ rest) × (b.0 ≡ front ++ (33 ∷ []))) → PrintsOf xs out out' n
    go (inl h) = inl (same_text (t b.0 b.2 ∙ three_lines b.0 xs h) w)
    go (inr h) = inr (h.0, h.1, h.2, same_text (t b.0 b.2 ∙ ap printed_bytes h.3) w)
