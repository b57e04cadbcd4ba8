-- `find_optimal_split_point` answers each case of its definition: refused by the check, by 13, or the split point of the columns' rows
use mathlib.Core.Path.{◌≡◌, sym, ap, ◌∙◌, subst}
use mathlib.Core.List.{List}
use Prim.Native.Nat.{ℕ, ◌-◌, ◌≤◌, ◌<◌}
use native.Mathlib.Nat.{lt_of_lt_of_le, le_trans, le_of_eq}
use native.Mathlib.Omega.{arith}
use borrow.Author.Rules.{scaled_Fits}
use lib.ListN.{length, get_or}
use lib.Seq.{length-take-le}
use Rattle.std.proofs.lemmas.Result.{err_from_is_err_and}
use Rattle.links.specs.Blocks.{BlockRow, blocks_of, start_of, check_of, no_refusal}
use Rattle.links.specs.Split.{side_of, split_point}
use Rattle.links.proofs.Checks.{check_sound}
use Rattle.links.proofs.Answers.{answer_refused, answer_order, answer_outside, answer_split, in_freqs, in_firsts, in_ends, same_list, last_column}
use Rattle.links.proofs.Answers.{parts_between}
use Rattle.links.proofs.split.find_optimal_split_point.Goals as goal

less : (n : ℕ) → 1 ≤ n → n - 1 < n
less n h = omega arith

pub returns-in_err-check_blocks : goal.returns-in_err-check_blocks
returns-in_err-check_blocks c =
    let p = err_from_is_err_and c.from_residual.result c.from_residual.ensures.1 in
    rw (p.1, p.2) (answer_refused _ _ _ _ _ (sym c.check_blocks.ensures ∙ c.in_err-check_blocks.was))

pub overflow_sub-last : goal.overflow_sub-last
overflow_sub-last c =
    let list : List BlockRow = blocks_of c.args.freq.now c.args.first.now c.args.end.now in
    let passed : check_of list ≡ no_refusal = sym c.check_blocks.ensures ∙ c.in_ok-check_blocks.was in
    let some : 1 ≤ c.count-n.result = le_trans (check_sound list passed).some (le_of_eq (sym c.count-n.ensures)) in
    some

pub offset_bounds-end-n : goal.offset_bounds-end-n
offset_bounds-end-n c =
    let list : List BlockRow = blocks_of c.args.freq.now c.args.first.now c.args.end.now in
    let passed : check_of list ≡ no_refusal = sym c.check_blocks.ensures ∙ c.in_ok-check_blocks.was in
    let some : 1 ≤ c.count-n.result = le_trans (check_sound list passed).some (le_of_eq (sym c.count-n.ensures)) in
    let last_inside : c.count-n.result - 1 < length c.args.end.now = lt_of_lt_of_le (less c.count-n.result some)
    (in_ends c.args.freq.now c.args.first.now c.args.end.now c.count-n.result c.count-n.ensures) in
    scaled_Fits (c.count-n.result - 1) (length c.args.end.now) 4 last_inside c.well_formed.1.1.0.1

pub bounds-end-n : goal.bounds-end-n
bounds-end-n c =
    let list : List BlockRow = blocks_of c.args.freq.now c.args.first.now c.args.end.now in
    let passed : check_of list ≡ no_refusal = sym c.check_blocks.ensures ∙ c.in_ok-check_blocks.was in
    let some : 1 ≤ c.count-n.result = le_trans (check_sound list passed).some (le_of_eq (sym c.count-n.ensures)) in
    let last_inside : c.count-n.result - 1 < length c.args.end.now = lt_of_lt_of_le (less c.count-n.result some)
    (in_ends c.args.freq.now c.args.first.now c.args.end.now c.count-n.result c.count-n.ensures) in
    last_inside

pub returns-then-before-after : goal.returns-then-before-after
returns-then-before-after c =
    let list : List BlockRow = blocks_of c.args.freq.now c.args.first.now c.args.end.now in
    let passed : check_of list ≡ no_refusal = sym c.check_blocks.ensures ∙ c.in_ok-check_blocks.was in
    answer_order _ _ _ _ passed c.if-before-after.true

pub returns-then-last-before : goal.returns-then-last-before
returns-then-last-before c =
    let list : List BlockRow = blocks_of c.args.freq.now c.args.first.now c.args.end.now in
    let passed : check_of list ≡ no_refusal = sym c.check_blocks.ensures ∙ c.in_ok-check_blocks.was in
    let last : get_or c.args.end.now (c.count-n.result - 1) 0 ≡ start_of list (length list) = last_column c.args.freq.now c.args.first.now c.args.end.now c.count-n.result c.count-n.ensures
    (check_sound list passed).some in
    answer_outside _ _ _ _ passed c.if-before-after.false (subst (λ (x : ℕ). x < c.args.before.0) last c.if-last-before.true)

pub slice_bounds-between-end : goal.slice_bounds-between-end
slice_bounds-between-end c =
    sym
    (length-take-le c.count-n.result c.args.freq.now
    (in_freqs c.args.freq.now c.args.first.now c.args.end.now c.count-n.result c.count-n.ensures))

pub slice_bounds-between-end-2 : goal.slice_bounds-between-end-2
slice_bounds-between-end-2 c =
    sym
    (length-take-le c.count-n.result c.args.first.now
    (in_firsts c.args.freq.now c.args.first.now c.args.end.now c.count-n.result c.count-n.ensures))

pub between-split-requires : goal.between-split-requires
between-split-requires c =
    let list : List BlockRow = blocks_of c.args.freq.now c.args.first.now c.args.end.now in
    let passed : check_of list ≡ no_refusal = sym c.check_blocks.ensures ∙ c.in_ok-check_blocks.was in
    let last : get_or c.args.end.now (c.count-n.result - 1) 0 ≡ start_of list (length list) = last_column c.args.freq.now c.args.first.now c.args.end.now c.count-n.result c.count-n.ensures
    (check_sound list passed).some in
    parts_between c.args.freq.now c.args.first.now c.args.end.now c.count-n.result c.count-n.ensures
    c.args.after.0 c.args.before.0 (check_sound _ passed) c.if-before-after.false
    (subst (λ (x : ℕ). c.args.before.0 ≤ x) last c.if-last-before.false)

pub returns : goal.returns
returns c =
    let list : List BlockRow = blocks_of c.args.freq.now c.args.first.now c.args.end.now in
    let passed : check_of list ≡ no_refusal = sym c.check_blocks.ensures ∙ c.in_ok-check_blocks.was in
    let last : get_or c.args.end.now (c.count-n.result - 1) 0 ≡ start_of list (length list) = last_column c.args.freq.now c.args.first.now c.args.end.now c.count-n.result c.count-n.ensures
    (check_sound list passed).some in
    answer_split _ _ _ _ passed c.between-split.result.0 c.if-before-after.false
    (subst (λ (x : ℕ). c.args.before.0 ≤ x) last c.if-last-before.false)
    (c.between-split.ensures
    ∙ ap (λ (bs : List BlockRow). split_point (side_of c.args.prefer_early) bs c.args.after.0 c.args.before.0)
    (same_list c.args.freq.now c.args.first.now c.args.end.now c.count-n.result c.count-n.ensures))
