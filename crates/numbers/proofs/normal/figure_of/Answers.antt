-- `figure_of` is its definition: nothing, less than a half, or the nearest whole number between 1 and the ceiling
use native.Mathlib.Omega.{arith}
use borrow.Author.Rules.{rules}
use Rattle.numbers.proofs.FigureBits.{figure_none, figure_least, rest_fits, whole_fits, figure_by}
use Rattle.numbers.proofs.normal.figure_of.Goals as goal

pub returns-then-n-eq0 : goal.returns-then-n-eq0
returns-then-n-eq0 c = figure_none c.args.n c.args.places c.if-n-eq0.true

pub returns-then-places-ge36 : goal.returns-then-places-ge36
returns-then-places-ge36 c =
    let a = c.args in
    figure_least a.n a.places (omega arith) c.requires c.if-places-ge36.true

-- ?? no goal for nonzero-div-whole
-- ?? div-whole c =
-- ??     let s = c.before.before.args.places in
-- ??     let e = one_shifted s (omega arith) in
-- ??     let p = pow_pos s in
-- ??     omega (arith, e, p)
-- ?? no goal for nonzero-rem-nearest-even
-- ?? rem-nearest-even = div-whole
pub overflow_mul-n : goal.overflow_mul-n
overflow_mul-n c = search (rules, rest_fits c.args.n c.args.places c.requires)

pub nearest_even-figure-requires : goal.nearest_even-figure-requires
nearest_even-figure-requires c = whole_fits c.args.n c.args.places c.requires

pub returns-then-figure-eq0 : goal.returns-then-figure-eq0
returns-then-figure-eq0 c =
    let a = c.args in
    let h = c.nearest_even-figure in
    let e = figure_by a.n a.places h.result (omega arith) h.ensures in
    omega (arith, e)

pub returns-then-figure : goal.returns-then-figure
returns-then-figure c =
    let a = c.args in
    let h = c.nearest_even-figure in
    let e = figure_by a.n a.places h.result (omega arith) h.ensures in
    omega (arith, e)

pub returns : goal.returns
returns c =
    let a = c.args in
    let h = c.nearest_even-figure in
    let e = figure_by a.n a.places h.result (omega arith) h.ensures in
    omega (arith, e)
