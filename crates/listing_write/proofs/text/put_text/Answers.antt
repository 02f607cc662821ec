-- The part of the buffer that the text was copied over is the text.
use mathlib.Core.Path.{◌≡◌, refl, sym, ap, ◌∙◌}
use Prim.Native.Nat.{ℕ, ◌+◌, ◌-◌}
use native.Mathlib.Nat.{add-zero}
use native.Mathlib.Omega.{arith}
use lib.ListN.{length, length-take, length-drop}
use borrow.Rule.Slice.PartMut.{put_mid, mid_of}
use Rattle.lists.specs.Lists.{put}
use Rattle.lists.proofs.Put.{put_whole, put_part}
use Rattle.listing_write.proofs.text.put_text.Goals as goal

pub returns : goal.returns
returns c =
    let out = c.args.out.now in
    let to = c.args.to in
    let text = c.args.text.now in
    let k = (to + length text) - to in
    let len : length (mid_of to k out) ≡ length text = simp (length-take, length-drop) (omega arith) in
    record {
      stored =
          ap (put_mid to k out) (c.copy_from_slice.ensures.after ∙ sym (put_whole (mid_of to k out) text len))
          ∙ put_part to k 0 out text (omega arith)
          ∙ ap (λ (at : ℕ). put out at text) (add-zero to);
      after = refl;
    }
