-- `normalize_spill_weight` is one division by the whole number, and each arm returns what the cap picks
use mathlib.Core.Path.{◌≡◌, sym, ap, ◌∙◌}
use mathlib.Core.Bool.{true, false}
use Prim.Native.Nat.{ℕ, ◌+◌}
use lib.IntN.{pos}
use lib.Ieee.{Float, binary32, div, lt, of_int, of_bits}
use Rattle.numbers.specs.Normal.{largest, normalised}
use Rattle.columns.proofs.Tests.{cond_true, cond_false}
use Rattle.numbers.proofs.normal.normalize_spill_weight.Goals as goal

module _ (w d : Float) (insts k : ℕ) (e : d ≡ of_int binary32 (pos (insts + k))) where
  above : lt largest (div binary32 w d) ≡ true → largest ≡ normalised w insts k
  unfolding normalised
  above t = sym (cond_true largest _ (ap (λ (x : Float). lt largest (div binary32 w x)) (sym e) ∙ t))

  within : lt largest (div binary32 w d) ≡ false → div binary32 w d ≡ normalised w insts k
  unfolding normalised
  within t = ap (div binary32 w) e ∙ sym (cond_false largest _ (ap (λ (x : Float). lt largest (div binary32 w x)) (sym e) ∙ t))

pub returns-then-weight : goal.returns-then-weight
unfolding of_bits
returns-then-weight c = above _ _ _ _ c.sum_as_f32.ensures c.if-weight.true

pub returns-else-weight : goal.returns-else-weight
unfolding of_bits
returns-else-weight c = within _ _ _ _ c.sum_as_f32.ensures c.if-weight.false
