-- The lines beside the one that took the byte are within their slices.
use mathlib.Core.Path.{◌≡◌}
use native.Mathlib.Omega.{arith}
use borrow.Author.Tests.{lt-ltb, ne_eqb}
use Rattle.listing_text.specs.Chunks.{read_byte}
use Rattle.listing_read.proofs.ScanLaws.{scan_within}
use Rattle.listing_read.proofs.read_byte.Goals as goal

pub returns-in-0-clause-input_after : goal.returns-in-0-clause-input_after
unfolding read_byte
returns-in-0-clause-input_after c =
    let a = c.args in
    let F = scan_within a.first.now a.r.first in
    let G = scan_within a.second.now a.r.second in
    let Q = scan_within a.query.now a.r.query in
    rw (lt-ltb a.r.at 4 (omega arith), ne_eqb a.b 10 c.if-b-eq10.false, c.in-0.is) (cc)

pub returns-in-2-clause-input_after : goal.returns-in-2-clause-input_after
unfolding read_byte
returns-in-2-clause-input_after c =
    let a = c.args in
    let S = scan_within a.settings.now a.r.settings in
    let F = scan_within a.first.now a.r.first in
    let Q = scan_within a.query.now a.r.query in
    rw (ne_eqb a.b 10 c.if-b-eq10.false, c.in-2.is) (cc)

pub returns-in_default-clause-input_after : goal.returns-in_default-clause-input_after
unfolding read_byte
returns-in_default-clause-input_after c =
    let a = c.args in
    let S = scan_within a.settings.now a.r.settings in
    let F = scan_within a.first.now a.r.first in
    let G = scan_within a.second.now a.r.second in
    let n0 : a.r.at ≡ 0 → ⊥ = λ e. omega arith in
    let n1 : a.r.at ≡ 1 → ⊥ = λ e. omega arith in
    let n2 : a.r.at ≡ 2 → ⊥ = λ e. omega arith in
    rw (lt-ltb a.r.at 4 (omega arith), ne_eqb a.b 10 c.if-b-eq10.false, ne_eqb a.r.at 0 n0, ne_eqb a.r.at 1 n1, ne_eqb a.r.at 2 n2) (cc)
