-- `read_lines` meets its contract: what came after what was read.
use mathlib.Core.Path.{◌≡◌, sym, ◌∙◌}
use mathlib.Core.List.{[], ◌∷◌}
use Prim.Native.Nat.{◌<◌}
use native.Mathlib.Omega.{arith}
use lib.ListN.{length}
use borrow.Author.Rules.{rules}
use Rattle.listing_read.specs.Meaning.{read_input, rooms_of}
use Rattle.listing_input.specs.Read.{handed_on}
use Rattle.listing_input.proofs.ReadLaws.{none_came, more_came, none_so_far, more_so_far, spoiled, last_read}
use Rattle.listing_input.proofs.read_lines.Goals as goal

pub loop-init : goal.loop-init
loop-init g c =
    let a = c.args in
    let n = c.new_reader-r in
    record {
      chunk_len = c.large_buffer-chunk.ensures;
      reads = none_came n.result a.settings.now a.first.now a.second.now a.query.now n.ensures;
      so_far = none_so_far _ n.result a.settings.now a.first.now a.second.now a.query.now n.ensures;
    }

pub returns-then-not-reads_on : goal.returns-then-not-reads_on
returns-then-not-reads_on g c =
    let a = c.args in
    let l = c.loop in
    let d = c.read_some-got in
    let w = c.after_read-r in
    let W = rooms_of l.settings l.first l.second l.query in
    let W₀ = rooms_of a.settings.now a.first.now a.second.now a.query.now in
    let same : W ≡ W₀ = cc in
    let I = read_input l.r l.settings l.first l.second l.query in
    let I' = read_input w.result w.new.settings w.new.first w.new.second w.new.query in
    let len : length d.new.chunk ≡ length l.chunk = search rules in
    let room : 0 < length d.new.chunk = omega (arith, len, l.invariant.chunk_len) in
    record {
      reads = more_came W W₀ I I' (handed_on d.result d.new.chunk) l.invariant.reads same w.ensures.input_after;
      bytes = last_read _ _ _ W W₀ I I' a.lines d.result d.new.chunk room l.invariant.so_far d.ensures.took (sym c.reads_on.ensures ∙ c.if-not-reads_on.true) same w.ensures.input_after;
    }

pub loop-preserved : goal.loop-preserved
loop-preserved g c =
    let a = c.args in
    let l = c.loop in
    let d = c.read_some-got in
    let w = c.after_read-r in
    let W = rooms_of l.settings l.first l.second l.query in
    let W₀ = rooms_of a.settings.now a.first.now a.second.now a.query.now in
    let same : W ≡ W₀ = cc in
    let I = read_input l.r l.settings l.first l.second l.query in
    let I' = read_input w.result w.new.settings w.new.first w.new.second w.new.query in
    record {
      chunk_len = search (rules, l.invariant.chunk_len);
      reads = more_came W W₀ I I' (handed_on d.result d.new.chunk) l.invariant.reads same w.ensures.input_after;
      so_far = more_so_far _ _ _ W W₀ I I' a.lines w.result.at d.result d.new.chunk l.invariant.so_far d.ensures.took (sym c.reads_on.ensures ∙ c.if-not-reads_on.false) same w.ensures.input_after;
    }

pub returns : goal.returns
returns g c =
    let a = c.args in
    let l = c.loop in
    let w = c.spoil in
    let W = rooms_of l.settings l.first l.second l.query in
    let W₀ = rooms_of a.settings.now a.first.now a.second.now a.query.now in
    let same : W ≡ W₀ = cc in
    let I = read_input l.r l.settings l.first l.second l.query in
    let I' = read_input w.result w.new.settings w.new.first w.new.second w.new.query in
    record {
      reads = more_came W W₀ I I' (33 ∷ []) l.invariant.reads same w.ensures.input_after;
      bytes = spoiled _ _ W W₀ I I' a.lines l.invariant.so_far same w.ensures.input_after;
    }
