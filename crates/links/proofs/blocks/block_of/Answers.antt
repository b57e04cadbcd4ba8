-- `block_of` is a search by halves for the first end above the instruction
use mathlib.Core.Path.{◌≡◌, sym, ap, ◌∙◌}
use mathlib.Core.List.{List}
use Prim.Native.Nat.{ℕ, ◌+◌}
use native.Mathlib.Numerals.{add-one}
use lib.Dec.{leb}
use lib.ListN.{get_or}
use Rattle.columns.specs.First.{FirstIn}
use Rattle.columns.proofs.Firsts.{first_is}
use Rattle.links.specs.Blocks.{block_in}
use Rattle.links.proofs.blocks.block_of.Goals as goal

-- at least p + 1 is above p
above : (ends : List ℕ) (n p r : ℕ) → FirstIn (λ (k : ℕ). leb (p + 1) (get_or ends k 0)) 0 n r → r ≡ block_in ends n p
above ends n p r f =
    first_is (record {
      from = f.from;
      to = f.to;
      passed = λ k l m. ap (λ (x : ℕ). leb x (get_or ends k 0)) (sym (add-one p)) ∙ f.passed k l m;
      found = λ m. ap (λ (x : ℕ). leb x (get_or ends r 0)) (sym (add-one p)) ∙ f.found m;
    })

pub returns : goal.returns
returns c = above c.args.end.now c.args.n c.args.inst.0 _ (c.first_at_least-at.ensures.2 c.requires.searchable.rising)
