-- `composed` meets its contract: what came is answered.
use mathlib.Core.Path.{◌≡◌, ◌∙◌}
use mathlib.Core.List.{List}
use Prim.Native.Nat.{ℕ}
use borrow.Author.Rules.{rules}
use lib.ListN.{length}
use Rattle.listing_text.specs.Chunks.{unread, read_bytes, in_rooms, line_words, listing_rooms}
use Rattle.listing_text.specs.Printing.{printed_bytes}
use Rattle.listing_text.specs.Ended.{ended_bytes}
use Rattle.listing_text.proofs.SameListing.{same_listing}
use Rattle.listing_read.specs.Meaning.{read_input, left_words}
use Rattle.composed.proofs.PrintedLaws.{printed_of}
use Rattle.listing_write.proofs.WrittenLaws.{same_text}
use Rattle.composed.proofs.composed.Goals as goal

pub returns : goal.returns
returns g c =
    let l = c.read_lines-r in
    let w = c.answer.ensures in
    let n = l.new in
    let i = read_input l.result n.settings n.first n.second n.query in
    let x : length n.settings ≡ 6 = search rules in
    let y : length n.first ≡ 4096 = search rules in
    let z : length n.second ≡ 4096 = search rules in
    let e : (bytes : List ℕ) → i ≡ in_rooms listing_rooms (read_bytes unread bytes) → ended_bytes (left_words n.settings l.result.settings) (left_words n.first l.result.first) (left_words n.second l.result.second) ≡ printed_bytes bytes
    = λ bytes h. (λ k. ended_bytes (line_words (x k) (h k).settings) (line_words (y k) (h k).first) (line_words (z k) (h k).second)) ∙ same_listing bytes in
    record { prints = (l.ensures.reads.0, same_text (e l.ensures.reads.0 l.ensures.reads.1) w.fact); bytes = printed_of _ _ i _ _ _ _ e w.fact l.ensures.bytes; counts = w.counts }
