-- `figures_of` answers each field
use Rattle.sheet.specs.declared.write.Answer.TheVariants.{Proposal}
use Rattle.figures.proofs.figures.figures_of.Goals as goal

pub returns : goal.returns
returns c =
    λ i. Proposal (record {
      left = c.end_shown.ensures i;
      right = c.end_shown-2.ensures i;
      use_weight = c.bits_of.ensures i;
      live_insts = c.args.p.live_insts;
      interference_weight = c.bits_of-2.ensures i;
      split_cost = c.bits_of-3.ensures i;
      thousandths = c.thousandths_of.ensures i;
    })
