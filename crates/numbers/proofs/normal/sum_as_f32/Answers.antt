-- `sum_as_f32` rounds the sum once: a cast is exact up to 2 to the power 24, and above that the two parts are
use Prim.Native.Nat.{◌+◌, ◌/◌, ◌%◌}
use native.Mathlib.Nat.{div-add-mod'}
use native.Mathlib.Omega.{arith}
use lib.Dec.{le→leb}
use lib.Ieee.{in_float}
use Rattle.numbers.proofs.Operations.{whole_parts}
use Rattle.numbers.proofs.normal.sum_as_f32.Goals as goal

pub int_to_float-result : goal.int_to_float-result
unfolding in_float
int_to_float-result c = le→leb (c.args.a + c.args.b) 16777216 c.if-n-le16777216.true

pub int_to_float-high : goal.int_to_float-high
unfolding in_float
int_to_float-high c = le→leb ((c.args.a + c.args.b) / 65536) 16777216 (omega arith)

pub int_to_float-low : goal.int_to_float-low
unfolding in_float
int_to_float-low c = le→leb ((c.args.a + c.args.b) % 65536) 16777216 (omega arith)

pub returns : goal.returns
returns c =
    let n = c.args.a + c.args.b in
    whole_parts n (n / 65536) (n % 65536) (omega arith) (omega arith) (div-add-mod' n 65536)
