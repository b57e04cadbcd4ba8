-- `check::is_line` meets its contract, test by test.
-- Assumes nothing.
use native.Mathlib.Omega.{arith}
use Prim.Native.Nat.{ℕ, ◌-◌, ◌≤◌}
use mathlib.Core.Path.{◌≡◌, sym, ap, ◌∙◌}
use lib.ListN.{length, get_or, drop, take, length-drop}
use mathlib.Core.List.{List}
use lib.Seq.{take_all}
use Rattle.sheet.specs.Kinds.{width, letter, fields}
use Rattle.sheet.specs.Refusal.{are_fields}
use Rattle.sheet.proofs.KindLaws.{width_two}
use Rattle.sheet.proofs.LineLaws.{line_test, line_not_kind, line_not_long, line_not_letter, line_not_feed}
use Rattle.sheet.proofs.check.is_line.Goals as goal

pub returns-then-k-ge-KINDS : goal.returns-then-k-ge-KINDS
returns-then-k-ge-KINDS c =
    let a = c.args in
    sym (line_not_kind a.k a.s.now c.if-k-ge-KINDS.true)

pub returns-then-s-w : goal.returns-then-s-w
returns-then-s-w c =
    let a = c.args in
    sym (line_not_long a.k a.s.now (λ e. c.if-s-w.true (e ∙ sym c.width_of-w.ensures)))

pub bounds-s-0 : goal.bounds-s-0
bounds-s-0 c = omega (arith, c.if-s-w.false, c.width_of-w.ensures, width_two c.args.k)

pub returns-then-s-letter_of : goal.returns-then-s-letter_of
returns-then-s-letter_of c =
    let a = c.args in
    sym (line_not_letter a.k a.s.now (λ e. c.if-s-letter_of.true (e ∙ sym c.letter_of.ensures)))

pub overflow_sub-w : goal.overflow_sub-w
overflow_sub-w c = omega (arith, c.width_of-w.ensures, width_two c.args.k)

pub bounds-s-w : goal.bounds-s-w
bounds-s-w c = omega (arith, c.if-s-w.false, c.width_of-w.ensures, width_two c.args.k)

pub returns-then-s-w-ne10 : goal.returns-then-s-w-ne10
returns-then-s-w-ne10 c =
    let a = c.args in
    let w = c.width_of-w in
    sym (line_not_feed a.k a.s.now (λ e. c.if-s-w-ne10.true (ap (λ (n : ℕ). get_or a.s.now (n - 1) 0) w.ensures ∙ e)))

pub are_fields-requires : goal.are_fields-requires
unfolding width
are_fields-requires c =
    let s = c.args.s.now in
    let d : length (drop 1 s) ≡ length s - 1 = length-drop 1 s in
    let t : length (take (length s - 1) (drop 1 s)) ≡ length s - 1 = ap length (take_all (length s - 1) (drop 1 s) (omega arith)) ∙ d in
    omega (arith, c.fields_of.ensures)

pub returns : goal.returns
returns c =
    let s = c.args.s.now in
    let w = c.width_of-w in
    let n : length s ≡ width c.args.k = c.if-s-w.false ∙ w.ensures in
    let l : get_or s 0 0 ≡ letter c.args.k = c.if-s-letter_of.false ∙ c.letter_of.ensures in
    let f : get_or s (width c.args.k - 1) 0 ≡ 10 = ap (λ (j : ℕ). get_or s (j - 1) 0) (sym w.ensures) ∙ c.if-s-w-ne10.false in
    let d : length (drop 1 s) ≤ length s - 1 = omega (arith, length-drop 1 s) in
    c.are_fields.ensures
    ∙ ap (λ (j : ℕ). are_fields j (take (length s - 1) (drop 1 s))) c.fields_of.ensures
    ∙ ap (λ (x : List ℕ). are_fields (fields c.args.k) x) (take_all (length s - 1) (drop 1 s) d)
    ∙ sym (line_test c.args.k s (omega arith) n l f)
