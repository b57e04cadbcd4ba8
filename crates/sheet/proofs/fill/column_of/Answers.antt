-- `fill::column_of` meets its contract: a column that a kind has starts at its place, inside the cells; any other is answered by their end.
-- Assumes nothing.
use native.Mathlib.Omega.{arith}
use Prim.Native.Nat.{ℕ, ◌+◌, ◌*◌, ◌≤◌, ◌<◌}
use mathlib.Core.Path.{◌≡◌, ap, ◌∙◌, subst⁻¹}
use borrow.Author.Tests.{lt-ltb, le-ltb}
use Rattle.sheet.specs.Kinds.{fields, limit, base, cell_count}
use Rattle.sheet.specs.Cells.{place, column_of}
use Rattle.sheet.proofs.KindLaws.{fields_past, base_fits, cells_small}
use Rattle.sheet.proofs.FillLaws.{place_fits}
use Rattle.sheet.proofs.fill.column_of.Goals as goal

inside : (c : goal.After-limit_of) → c.base_of.result + c.args.c * c.limit_of.result ≤ cell_count
inside c =
    let a = c.args in
    subst⁻¹ (λ (m : ℕ). c.base_of.result + a.c * m ≤ cell_count) c.limit_of.ensures
    (omega (
      arith,
      place_fits c.base_of.result (fields a.k) (limit a.k) a.c 0 cell_count
          (omega (arith, c.if-c-fields_of.false, c.fields_of.ensures)) (omega arith)
          (omega (arith, c.base_of.ensures, base_fits a.k c.if-k-ge-KINDS.false)),
    ))

-- a column that a kind has, and one that it has not
some_column : (k c : ℕ) → c < fields k → place k c ≡ column_of k c
unfolding column_of
some_column k c h = rw (lt-ltb c (fields k) h)

no_column : (k c : ℕ) → fields k ≤ c → cell_count ≡ column_of k c
unfolding column_of
no_column k c h = rw (le-ltb c (fields k) h)

pub returns-then-k-ge-KINDS : goal.returns-then-k-ge-KINDS
returns-then-k-ge-KINDS c =
    let a = c.args in
    let e = c.cells_needed.ensures in
    (e ∙ no_column a.k a.c (omega (arith, fields_past a.k c.if-k-ge-KINDS.true)), omega (arith, e))

pub returns-then-c-fields_of : goal.returns-then-c-fields_of
returns-then-c-fields_of c =
    let a = c.args in
    let e = c.cells_needed-then-c-fields_of.ensures in
    (e ∙ no_column a.k a.c (omega (arith, c.fields_of.ensures, c.if-c-fields_of.true)), omega (arith, e))

pub overflow_mul-result : goal.overflow_mul-result
overflow_mul-result c = omega (arith, inside c, cells_small)

pub overflow_add-result : goal.overflow_add-result
overflow_add-result c = omega (arith, inside c, cells_small)

pub returns : goal.returns
unfolding place
returns c =
    let a = c.args in (
      ap (λ (b : ℕ). b + a.c * c.limit_of.result) c.base_of.ensures
          ∙ ap (λ (m : ℕ). base a.k + a.c * m) c.limit_of.ensures
          ∙ some_column a.k a.c (omega (arith, c.fields_of.ensures, c.if-c-fields_of.false)),
      inside c,
    )
