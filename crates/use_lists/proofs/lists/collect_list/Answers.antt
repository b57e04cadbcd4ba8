-- `collect_list` adds the uses of a list one by one, in order
use mathlib.Core.Path.{refl, sym, ap, ap₂, ◌∙◌}
use Prim.Native.Nat.{ℕ}
use native.Mathlib.Nat.{lt_of_lt_of_le, lt_of_le_of_lt, le_of_eq}
use native.Mathlib.Numerals.{add-one}
use lib.Ieee.{Float}
use lib.ListN.{length}
use Rattle.numbers.specs.Cost.{reload_cost, move_cost, spill_cost, scaled}
use Rattle.jobs.specs.Checked.{plain_segment}
use Rattle.jobs.specs.declared.rows.Use.{Use}
use Rattle.links.proofs.Columns.{ends_inside}
use Rattle.use_rows.specs.Lent.{columns_in}
use Rattle.use_lists.specs.Steps.{number_before, block_in_use}
use Rattle.use_lists.specs.Collecting.{collecting, counted}
use Rattle.use_lists.proofs.ListWalk.{along_first, along_next}
use Rattle.use_lists.proofs.lists.collect_list.Goals as goal

pub loop-i-init : goal.loop-i-init
loop-i-init c = (refl, along_first _ _ _ _ _ _ _ c.requires.listing.forward c.requires.room, c.requires.near_value)

pub count_use-done-requires-clause-block_inside : goal.count_use-done-requires-clause-block_inside
count_use-done-requires-clause-block_inside c =
    let in_list = lt_of_lt_of_le c.loop-i-test.true c.requires.listing.inside in
    lt_of_le_of_lt (le_of_eq c.find_use-found.ensures.1) (ends_inside _ _ _ (c.requires.listing.blocked c.loop-i.i in_list))

pub loop-i-preserved : goal.loop-i-preserved
loop-i-preserved c =
    let a = c.args in
    let k = c.loop-i in
    let s = plain_segment a.s in
    let block = block_in_use a.end.now (length a.freq.now) a.uses.now in
    let now = collecting (columns_in k.table) k.done in
    let found = c.find_use-found in (
      c.count_use-done.ensures.same ∙ k.invariant.0,
      along_next a.uses.now a.freq.now a.end.now s a.code a.scales _ k.i now _ c.loop-i-test.true k.invariant.1
          (c.count_use-done.ensures.value
          ∙ ap (λ (x : Float). counted a.freq.now s found.result.row.position.0 found.result.block.0 x now) c.use_spill_cost-c.ensures
          ∙ ap₂
          (λ (x : Use) (b : ℕ). counted a.freq.now s x.position b
          (scaled a.code a.scales (spill_cost reload_cost move_cost x.kind x.cost)) now) found.ensures.0 found.ensures.1),
      found.ensures.1 ∙ ap (number_before block) (sym (add-one k.i)),
    )
