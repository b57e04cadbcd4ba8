-- The gaps of a use table: they follow one another from the first instruction to the last, each carries the least frequency it meets, and
-- there are at most as many as uses and blocks together
use mathlib.Core.Path.{◌≡◌, refl, sym, ap, ◌∙◌, subst}
use mathlib.Core.Bool.{Bool, cond}
use mathlib.Core.List.{List, ◌∷◌}
use Prim.Native.Nat.{ℕ, zero, suc, ◌+◌, ◌-◌, ◌≤◌, ◌<◌}
use native.Mathlib.Omega.{arith}
use lib.ListN.{length, length-append}
use borrow.Author.Tests.{le-leb, lt-leb}
use Rattle.links.specs.Blocks.{BlockRow, block_of, start_of, end_limit, SoundBlocks}
use Rattle.links.proofs.Rows.{row_good}
use Rattle.links.proofs.Columns.{last_end}
use Rattle.overlaps.specs.Live.{Gaps}
use Rattle.links.specs.declared.lower.Side.{Side}
use Rattle.links.specs.declared.lower.Side.TheVariants.{Previous, Next}
use Rattle.columns.specs.Below.{joined}
use Rattle.use_rows.specs.declared.row.SplitUse.{SplitUse}
use Rattle.gaps.specs.Gaps.{Gap, gaps_between, own_gap, use_of, gaps_on, gaps_of}
use Rattle.columns.specs.Table.{Each}
use Rattle.gaps.specs.GapColumns.{froms_of, tos_of}
use Rattle.gaps.specs.Laws.{Run, Least, nearest_block}
use Rattle.links.proofs.Homes.{home_of}
use Rattle.gaps.proofs.Runs.{each_map, each_both, run_append, run_joined, run_within, run_gaps}
use Rattle.gaps.proofs.Chains.{each_append, Carried, between_run, between_carried, between_few, own_least}

pub each_joined : (P : Gap → Type 0) (lists : ℕ → List Gap) (i n : ℕ) → ((k : ℕ) → i ≤ k → k < i + n → Each P (lists k)) → Each P (joined lists i n)
unfolding joined
each_joined P lists i zero h = tt
each_joined P lists i (suc n) h =
    each_append P (lists i) (joined lists (suc i) n) (h i (omega arith) (omega arith))
    (each_joined P lists (suc i) n (λ k l m. h k (omega (arith, l)) (omega (arith, m))))

-- lists of at most one more than a rise
joined_few : (lists : ℕ → List Gap) (mark : ℕ → ℕ) (i n : ℕ) → ((k : ℕ) → i ≤ k → k < i + n → length (lists k) + mark k ≤ 1 + mark (k + 1))
    → length (joined lists i n) + mark i ≤ n + mark (i + n)
unfolding joined
joined_few lists mark i zero h = let z : i ≡ i + zero = omega arith in let m = ap mark z in omega (arith, m)
joined_few lists mark i (suc n) h =
    let a : i + 1 ≡ suc i = omega arith in
    let b : suc i + n ≡ i + suc n = omega arith in
    let here = h i (omega arith) (omega arith) in
    let there = joined_few lists mark (suc i) n (λ k l m. h k (omega (arith, l)) (omega (arith, m))) in
    let l = length-append (lists i) (joined lists (suc i) n) in
    let x = ap mark a in
    let y = ap mark b in
    omega (arith, here, there, l, x, y)

-- a use table whose instructions rise inside the blocks
pub record Rising (blocks : List BlockRow) (uses : List SplitUse) : Type 0 where
  pub sound : SoundBlocks blocks
  pub rises : (k : ℕ) → k + 1 < length uses → (use_of uses k).inst.0 < (use_of uses (k + 1)).inst.0
  pub inside : (k : ℕ) → k < length uses → (use_of uses k).inst.0 < start_of blocks (length blocks)

module _ (blocks : List BlockRow) (uses : List SplitUse) (r : Rising blocks uses) (best : ℕ) (h : best < length uses) where
  abbrev inst : ℕ → ℕ
  inst k = (use_of uses k).inst.0

  abbrev last : ℕ
  last = length uses - 1

  abbrev right : ℕ
  right = length uses - 1 - best

  to_last : best + right ≡ last
  to_last = omega (arith, h)

  -- those left of the best use, and those right of it, follow one another
  left_run : Run (inst 0) (inst best) (gaps_on Previous blocks uses 0 best)
  left_run =
      let z : 0 + best ≡ best = omega arith in
      subst (λ (x : ℕ). Run (inst 0) (inst x) (gaps_on Previous blocks uses 0 best)) z
      (run_joined (λ k. gaps_between Previous blocks (use_of uses k) (use_of uses (k + 1))) inst 0 best
      (λ k l m. between_run blocks r.sound Previous (use_of uses k) (use_of uses (k + 1)) (r.rises k (omega (arith, m, h)))
      (r.inside (k + 1) (omega (arith, m, h)))))

  right_run : Run (inst best + 1) (inst last + 1) (gaps_on Next blocks uses best right)
  right_run =
      subst (λ (x : ℕ). Run (inst best + 1) (inst x + 1) (gaps_on Next blocks uses best right)) to_last
      (run_joined (λ k. gaps_between Next blocks (use_of uses k) (use_of uses (k + 1))) (λ k. inst k + 1) best right
      (λ k l m. between_run blocks r.sound Next (use_of uses k) (use_of uses (k + 1)) (r.rises k (omega (arith, m, h)))
      (r.inside (k + 1) (omega (arith, m, h)))))

  -- all of them, from the first instruction to the last
  pub gaps_run : Run (use_of uses 0).inst.0 ((use_of uses (length uses - 1)).inst.0 + 1) (gaps_of blocks uses best)
  unfolding gaps_of
  gaps_run =
      run_append (inst 0) (inst best) (inst last + 1) (gaps_on Previous blocks uses 0 best)
      (own_gap blocks (use_of uses best) ∷ gaps_on Next blocks uses best right) left_run (refl, omega arith, right_run)

  -- on either side each gap's block carries the least frequency among those it meets, and is the nearest to the best use
  side_carried : (side : Side) (i n : ℕ) → i + n < length uses → Each (Carried blocks r.sound side) (gaps_on side blocks uses i n)
  side_carried side i n l =
      each_joined (Carried blocks r.sound side) (λ k. gaps_between side blocks (use_of uses k) (use_of uses (k + 1))) i n
      (λ k _ m. between_carried blocks r.sound side (use_of uses k) (use_of uses (k + 1)) (r.rises k (omega (arith, m, l)))
      (r.inside (k + 1) (omega (arith, m, l))))

  left_carried : Each (Carried blocks r.sound Previous) (gaps_on Previous blocks uses 0 best)
  left_carried = side_carried Previous 0 best (omega (arith, h))

  right_carried : Each (Carried blocks r.sound Next) (gaps_on Next blocks uses best right)
  right_carried = side_carried Next best right (omega (arith, h))

  -- each carries the least frequency among the blocks it meets
  pub gaps_least : Each (Least blocks) (gaps_of blocks uses best)
  unfolding gaps_of
  gaps_least =
      each_append (Least blocks) (gaps_on Previous blocks uses 0 best) (own_gap blocks (use_of uses best) ∷ gaps_on Next blocks uses best right)
      (each_map (Carried blocks r.sound Previous) (Least blocks) (λ g c. c.least) (gaps_on Previous blocks uses 0 best) left_carried) (
        own_least blocks r.sound (use_of uses best) (r.inside best h),
        each_map (Carried blocks r.sound Next) (Least blocks) (λ g c. c.least) (gaps_on Next blocks uses best right) right_carried,
      )

  -- that of its last block left of the best use, of its first one right of it
  pub gaps_nearest : Each (λ (g : Gap). g.block ≡ nearest_block blocks (use_of uses best).inst.0 g) (gaps_of blocks uses best)
  unfolding gaps_of
  gaps_nearest =
      each_append (λ (g : Gap). g.block ≡ nearest_block blocks (inst best) g) (gaps_on Previous blocks uses 0 best)
      (own_gap blocks (use_of uses best) ∷ gaps_on Next blocks uses best right)
      (each_both (λ g. (inst 0 ≤ g.from) × (g.from < g.to) × (g.to ≤ inst best)) (Carried blocks r.sound Previous)
      (λ g. g.block ≡ nearest_block blocks (inst best) g) (λ g w c. before g w.2 c.nearest) (gaps_on Previous blocks uses 0 best)
      (run_within (inst 0) (inst best) (gaps_on Previous blocks uses 0 best) left_run) left_carried) (
        after (own_gap blocks (use_of uses best)) (omega arith) refl,
        each_both (λ g. (inst best + 1 ≤ g.from) × (g.from < g.to) × (g.to ≤ inst last + 1)) (Carried blocks r.sound Next)
            (λ g. g.block ≡ nearest_block blocks (inst best) g)
            (λ g w c. let x = w.0 in let y = w.1 in after g (omega (arith, x, y)) c.nearest) (gaps_on Next blocks uses best right)
            (run_within (inst best + 1) (inst last + 1) (gaps_on Next blocks uses best right) right_run) right_carried,
      )
    where
      before : (g : Gap) → g.to ≤ inst best → g.block ≡ block_of blocks (g.to - 1) → g.block ≡ nearest_block blocks (inst best) g
      before g l e = e ∙ ap (λ (t : Bool). cond t (block_of blocks (g.to - 1)) (block_of blocks g.from)) (sym (le-leb g.to (inst best) l))

      after : (g : Gap) → inst best < g.to → g.block ≡ block_of blocks g.from → g.block ≡ nearest_block blocks (inst best) g
      after g l e = e ∙ ap (λ (t : Bool). cond t (block_of blocks (g.to - 1)) (block_of blocks g.from)) (sym (lt-leb g.to (inst best) l))

  -- there are fewer than uses and blocks together
  pub gaps_few : length (gaps_of blocks uses best) < length uses + length blocks
  unfolding gaps_of
  gaps_few =
      let z : 0 + best ≡ best = omega arith in
      let mark : ℕ → ℕ = λ k. block_of blocks (inst k) in
      let a = joined_few (λ k. gaps_between Previous blocks (use_of uses k) (use_of uses (k + 1))) mark 0 best
      (λ k l m. between_few blocks r.sound Previous (use_of uses k) (use_of uses (k + 1)) (r.rises k (omega (arith, m, h)))
      (r.inside (k + 1) (omega (arith, m, h)))) in
      let b = joined_few (λ k. gaps_between Next blocks (use_of uses k) (use_of uses (k + 1))) mark best right
      (λ k l m. between_few blocks r.sound Next (use_of uses k) (use_of uses (k + 1)) (r.rises k (omega (arith, m, h)))
      (r.inside (k + 1) (omega (arith, m, h)))) in
      let c = (home_of blocks r.sound (inst last) (r.inside last (omega (arith, h)))).inside in
      let l = length-append (gaps_on Previous blocks uses 0 best) (own_gap blocks (use_of uses best) ∷ gaps_on Next blocks uses best right) in
      let x = ap mark z in
      let y = ap mark to_last in
      let w = to_last in
      omega (arith, a, b, c, l, x, y, w, h)

  pub gaps_some : 0 < length (gaps_of blocks uses best)
  unfolding gaps_of
  gaps_some =
      let l = length-append (gaps_on Previous blocks uses 0 best) (own_gap blocks (use_of uses best) ∷ gaps_on Next blocks uses best right) in omega (arith, l)

  -- so, in columns, none is empty, each begins where the one before ends, and the last ends inside the blocks
  gaps_limited : (use_of uses (length uses - 1)).inst.0 + 1 ≤ end_limit
  gaps_limited =
      let a = r.inside (length uses - 1) (omega (arith, h)) in
      let s = r.sound.some in
      let c = (row_good blocks r.sound (length blocks - 1) (omega (arith, s))).limited in
      let d = last_end blocks s in
      omega (arith, a, c, d)

  pub gaps_tile : Gaps (froms_of (gaps_of blocks uses best)) (tos_of (gaps_of blocks uses best))
  gaps_tile = run_gaps (use_of uses 0).inst.0 ((use_of uses (length uses - 1)).inst.0 + 1) (gaps_of blocks uses best) gaps_limited gaps_run
