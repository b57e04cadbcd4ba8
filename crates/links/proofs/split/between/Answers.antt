-- `between` sweeps from the block that its definition starts from, on the side that is preferred
use mathlib.Core.Path.{◌≡◌, sym, ap, ◌∙◌}
use mathlib.Core.Bool.{Bool}
use Prim.Native.Nat.{ℕ, ◌+◌, ◌-◌, ◌<◌}
use native.Mathlib.Omega.{arith}
use Rattle.links.specs.Blocks.{blocks_of}
use Rattle.links.specs.Split.{side_of, split_point}
use Rattle.links.specs.declared.lower.Side.TheVariants.{Previous, Next}
use Rattle.links.proofs.Columns.{searched, block_inside, block_found, swept_ends, swept_firsts, split_columns, split_neighbours}
use Rattle.links.proofs.split.between.Goals as goal

-- the instructions that the search starts from lie below `before`
below : (after before : ℕ) → after < before → (after + 1 ≡ before → ⊥) → after + 1 < before
below after before h n = omega arith

under : (after before : ℕ) → after < before → before - 1 < before
under after before h = omega arith

pub returns-then-early-before : goal.returns-then-early-before
returns-then-early-before c = split_neighbours _ _ _ _ c.if-early-before.true

pub block_of-b-requires : goal.block_of-b-requires
block_of-b-requires c =
    searched c.args.freq.now c.args.first.now c.args.end.now c.args.after.0 c.args.before.0 c.requires
    (c.args.after.0 + 1) (below c.args.after.0 c.args.before.0 c.requires.order c.if-early-before.false)

pub sweep-requires : goal.sweep-requires
sweep-requires c =
    swept_firsts c.args.freq.now c.args.first.now c.args.end.now c.args.after.0 c.args.before.0 c.requires
    c.block_of-b.result.0
    (block_inside c.args.freq.now c.args.first.now c.args.end.now c.args.after.0 c.args.before.0 c.requires
    (c.args.after.0 + 1) c.block_of-b.result.0
    (below c.args.after.0 c.args.before.0 c.requires.order c.if-early-before.false) c.block_of-b.ensures)

pub returns-then-prefer_early : goal.returns-then-prefer_early
returns-then-prefer_early c =
    c.sweep.ensures
    ∙ split_columns c.args.freq.now c.args.first.now c.args.end.now c.args.after.0 c.args.before.0 c.requires
    Next c.if-early-before.false c.block_of-b.result.0
    (block_found c.args.freq.now c.args.first.now c.args.end.now c.args.after.0 c.args.before.0 c.requires
    (c.args.after.0 + 1) c.block_of-b.result.0 c.block_of-b.ensures)
    ∙ ap
    (λ (e : Bool). split_point (side_of e) (blocks_of c.args.freq.now c.args.first.now c.args.end.now)
    c.args.after.0 c.args.before.0) (sym c.if-prefer_early.true)

pub block_of-b-requires-2 : goal.block_of-b-requires-2
block_of-b-requires-2 c =
    searched c.args.freq.now c.args.first.now c.args.end.now c.args.after.0 c.args.before.0 c.requires
    (c.args.before.0 - 1) (under c.args.after.0 c.args.before.0 c.requires.order)

pub sweep-requires-2 : goal.sweep-requires-2
sweep-requires-2 c =
    swept_ends c.args.freq.now c.args.first.now c.args.end.now c.args.after.0 c.args.before.0 c.requires
    c.block_of-b-2.result.0
    (block_inside c.args.freq.now c.args.first.now c.args.end.now c.args.after.0 c.args.before.0 c.requires
    (c.args.before.0 - 1) c.block_of-b-2.result.0 (under c.args.after.0 c.args.before.0 c.requires.order)
    c.block_of-b-2.ensures)

pub returns : goal.returns
returns c =
    c.sweep-2.ensures
    ∙ split_columns c.args.freq.now c.args.first.now c.args.end.now c.args.after.0 c.args.before.0 c.requires
    Previous c.if-early-before.false c.block_of-b-2.result.0
    (block_found c.args.freq.now c.args.first.now c.args.end.now c.args.after.0 c.args.before.0 c.requires
    (c.args.before.0 - 1) c.block_of-b-2.result.0 c.block_of-b-2.ensures)
    ∙ ap
    (λ (e : Bool). split_point (side_of e) (blocks_of c.args.freq.now c.args.first.now c.args.end.now)
    c.args.after.0 c.args.before.0) (sym c.if-prefer_early.false)
