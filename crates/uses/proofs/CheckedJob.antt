-- What a checked job satisfies: its lists follow one another, its rows are as lines 5 to 8 say, and its first and last instruction hold its uses
use mathlib.Core.Path.{◌≡◌, refl, sym, ap, ◌∙◌, subst}
use mathlib.Core.Bool.{Bool, true, false, cond}
use mathlib.Core.List.{List}
use Prim.Native.Nat.{ℕ, zero, suc, ◌+◌, ◌-◌, ◌*◌, ◌/◌, ◌%◌, ◌≤◌, ◌<◌}
use native.Mathlib.Omega.{arith}
use lib.Dec.{eqb}
use lib.ListN.{length, get_or}
use borrow.Author.Tests.{eq-eqb}
use Rattle.numbers.specs.Point.{inst_of, round_up}
use Rattle.links.specs.Blocks.{start_of}
use Rattle.columns.specs.First.{first_below}
use Rattle.columns.proofs.Firsts.{first_all}
use Rattle.jobs.specs.declared.rows.Segment.{Segment}
use Rattle.jobs.specs.declared.rows.Limits.{Limits}
use Rattle.jobs.specs.Rows.{no_segment, no_use, live_out, fixed_def}
use Rattle.columns.specs.Table.{row_before}
use Rattle.jobs.specs.Lines.{Lists, list_of, bad_segment, bad_def_at, bad_use_at, bad_end, bad_end_at}
use Rattle.jobs.proofs.Sound.{Bounded, segment_bounded, segments_lists}
use Rattle.jobs.proofs.SoundUses.{Defined, defined, Fitting, fitting, LivesOut, lives_out, Ended, ended}
use Rattle.jobs.proofs.LastUse.{list_fitting}
use Rattle.use_rows.specs.Uses.{Source, first_inst, last_inst}
use Rattle.uses.specs.CheckedUses.{CheckedUses}
use Rattle.uses.specs.FirstLast.{Starting, Ending}
use Rattle.uses.proofs.UseOrder.{last_out, last_use, first_out, first_use_last}

-- the checks of lines 5 to 8 have answered the number of rows
pub checked_uses : (job : Source) (limits : Limits) → 0 < length job.segments → limits.end ≡ 4 * start_of job.blocks (length job.blocks)
    → limits.uses ≡ length job.uses → limits.values ≡ length job.codes
    → first_below (bad_segment limits job.segments) (length job.segments) ≡ length job.segments
    → first_below (bad_def_at job.uses job.segments) (length job.segments) ≡ length job.segments
    → first_below (bad_use_at limits job.uses job.segments) (length job.uses) ≡ length job.uses
    → first_below (bad_end_at job.uses job.segments) (length job.segments) ≡ length job.segments → CheckedUses job
checked_uses job limits some e f g l5 l6 l7 l8 =
    record {
      some = some;
      limits = limits;
      end = e;
      uses = f;
      values = g;
      line5 = first_all (bad_segment limits job.segments) (length job.segments) l5;
      line6 = first_all (bad_def_at job.uses job.segments) (length job.segments) l6;
      line7 = first_all (bad_use_at limits job.uses job.segments) (length job.uses) l7;
      line8 = first_all (bad_end_at job.uses job.segments) (length job.segments) l8;
    }

module _ (job : Source) (checked : CheckedUses job) where
  abbrev segs : List Segment
  segs = job.segments

  abbrev seg : ℕ → Segment
  seg i = get_or job.segments i no_segment

  abbrev at : ℕ → ℕ
  at u = (get_or job.uses u no_use).position

  abbrev blocks_end : ℕ
  blocks_end = start_of job.blocks (length job.blocks)

  -- lines 5, 6 and 7, row by row
  pub job_lists : Lists (length job.uses) job.segments
  job_lists = subst (λ (n : ℕ). Lists n job.segments) checked.uses (segments_lists checked.limits job.segments checked.line5 checked.some)

  pub job_bounded : (i : ℕ) → i < length job.segments → Bounded checked.limits (row_before job.segments no_segment i) (get_or job.segments i no_segment)
  job_bounded = segment_bounded checked.limits job.segments checked.line5

  pub job_defined : (i : ℕ) → i < length job.segments → fixed_def (get_or job.segments i no_segment).flags ≡ true
      → Defined job.uses (get_or job.segments i no_segment)
  job_defined i h f = defined job.uses (seg i) f (checked.line6 i h)

  -- a use in the list that has it
  use_fitting : (u : ℕ) → u < length job.uses → Fitting checked.limits (seg (list_of segs u)) (eqb u (seg (list_of segs u)).first_use)
      (row_before job.uses no_use u) (get_or job.uses u no_use)
  use_fitting u h =
      fitting checked.limits (seg (list_of segs u)) (eqb u (seg (list_of segs u)).first_use) (row_before job.uses no_use u) (get_or job.uses u no_use)
      (checked.line7 u h)

  pub job_fitting : (i u : ℕ) → i < length job.segments → (get_or job.segments i no_segment).first_use ≤ u → u < (get_or job.segments i no_segment).end_use
      → Fitting checked.limits (get_or job.segments i no_segment) (eqb u (get_or job.segments i no_segment).first_use) (row_before job.uses no_use u)
      (get_or job.uses u no_use)
  job_fitting i u h = list_fitting checked.limits job.uses segs job_lists checked.line7 i h u

  -- a use lies in a block
  pub use_in_blocks : (u : ℕ) → u < length job.uses → (get_or job.uses u no_use).position < start_of job.blocks (length job.blocks)
  use_in_blocks u h = below (at u) checked.limits.end blocks_end (use_fitting u h).blocked checked.end
    where
      below : (x y z : ℕ) → 4 * x < y → y ≡ 4 * z → x < z
      below x y z l e = omega (arith, l, e)

  -- ---- the last segment
  abbrev z : ℕ
  z = length job.segments - 1

  z_last : suc z ≡ length job.segments
  z_last = more (length job.segments) checked.some
    where
      more : (n : ℕ) → 0 < n → suc (n - 1) ≡ n
      more n h = omega (arith, h)

  z_inside : z < length job.segments
  z_inside = let e = z_last in omega (arith, e)

  -- line 8 of it
  out : live_out (seg z).flags ≡ true → LivesOut job.uses (seg z)
  out e = lives_out job.uses (eqb (z + 1) (length segs)) (seg z) e (checked.line8 z z_inside)

  used_last : live_out (seg z).flags ≡ false → Ended job.uses (seg z)
  used_last e =
      ended job.uses (seg z) e
      (ap (λ (b : Bool). bad_end job.uses b (seg z)) (sym (eq-eqb (z + 1) (length segs) (one (length segs) checked.some))) ∙ checked.line8 z z_inside)
    where
      one : (n : ℕ) → 0 < n → n - 1 + 1 ≡ n
      one n h = omega (arith, h)

  -- what holds of both of its ends holds of the last instruction
  by_end : (P : ℕ → Type 0) → (LivesOut job.uses (seg z) → P ((seg z).end / 4 - 1)) → (Ended job.uses (seg z) → P (at ((seg z).end_use - 1)))
      → P (last_inst job.uses job.segments)
  unfolding last_inst
  by_end P f g = by (live_out (seg z).flags) refl
    where
      by : (b : Bool) → live_out (seg z).flags ≡ b → P (cond (live_out (seg z).flags) ((seg z).end / 4 - 1) (at ((seg z).end_use - 1)))
      by true e = subst (λ (b : Bool). P (cond b ((seg z).end / 4 - 1) (at ((seg z).end_use - 1)))) (sym e) (f (out e))
      by false e = subst (λ (b : Bool). P (cond b ((seg z).end / 4 - 1) (at ((seg z).end_use - 1)))) (sym e) (g (used_last e))

  -- no use is after the last instruction, nor is the first one, and a block holds it
  pub uses_before : (u : ℕ) → u < length job.uses → (get_or job.uses u no_use).position ≤ last_inst job.uses job.segments
  uses_before u h =
      by_end (λ (p : ℕ). at u ≤ p) (λ o. last_out checked.limits job.uses segs job_lists job_bounded job_defined job_fitting z z_last o u h)
      (λ e. last_use checked.limits job.uses segs job_lists job_bounded job_defined job_fitting z z_last e u h)

  pub first_before : first_inst job.segments ≤ last_inst job.uses job.segments
  first_before =
      by_end (λ (p : ℕ). first_inst job.segments ≤ p) (first_out checked.limits job.uses segs job_lists job_bounded job_defined job_fitting z z_last)
      (first_use_last checked.limits job.uses segs job_lists job_bounded job_defined job_fitting z z_last)

  pub last_in_blocks : last_inst job.uses job.segments < start_of job.blocks (length job.blocks)
  last_in_blocks =
      by_end (λ (p : ℕ). p < blocks_end) (λ o. below (seg z).start (seg z).end checked.limits.end blocks_end (job_bounded z z_inside).nonempty
      o.boundary (job_bounded z z_inside).inside checked.end)
      (λ e. use_in_blocks ((seg z).end_use - 1) (let s = e.some in let l = job_lists.inside z z_inside in omega (arith, s, l)))
    where
      below : (s x y e : ℕ) → s < x → x % 4 ≡ 0 → x ≤ y → y ≡ 4 * e → x / 4 - 1 < e
      below s x y e n b l f = omega (arith, n, b, l, f)

  -- they hold all live instructions: segment i's lie from the first instruction to the last
  pub first_covers : (i : ℕ) → i < length job.segments → first_inst job.segments ≤ inst_of (get_or job.segments i no_segment).start
  unfolding first_inst
  first_covers zero h = omega arith
  first_covers (suc i) h =
      let before = first_covers i (omega (arith, h)) in
      let this = (job_bounded i (omega (arith, h))).nonempty in
      let next = (job_bounded (suc i) h).after in
      onward (seg i).start (seg i).end (seg (suc i)).start this next before
    where
      onward : {f : ℕ} (s e t : ℕ) → s < e → e ≤ t → f ≤ s / 4 → f ≤ t / 4
      onward s e t p q r = omega (arith, p, q, r)

  ends_before : (i k : ℕ) → i + k < length job.segments → (seg i).end ≤ (seg (i + k)).end
  ends_before i zero h = let z : i + zero ≡ i = omega arith in let e = ap (λ (x : ℕ). (seg x).end) z in omega (arith, e)
  ends_before i (suc k) h =
      let z : i + suc k ≡ suc (i + k) = omega arith in
      let l : suc (i + k) < length job.segments = omega (arith, h) in
      let before = ends_before i k (omega (arith, h)) in
      let next = (job_bounded (suc (i + k)) l).after in
      let that = (job_bounded (suc (i + k)) l).nonempty in
      let e = ap (λ (x : ℕ). (seg x).end) z in
      omega (arith, before, next, that, e)

  pub last_covers : (i : ℕ) → i < length job.segments → round_up (get_or job.segments i no_segment).end ≤ last_inst job.uses job.segments + 1
  last_covers i h =
      let e : i + (z - i) ≡ z = omega (arith, h) in
      let l = z_inside in
      let b = ends_before i (z - i) (omega (arith, e, l)) in
      let c = ap (λ (x : ℕ). (seg x).end) e in
      by_end (λ (p : ℕ). round_up (seg i).end ≤ p + 1) (λ o. out_covers (seg i).end (seg z).end (seg z).start (omega (arith, b, c)) o.boundary
      (job_bounded z z_inside).nonempty)
      (λ u. use_covers (seg i).end (seg z).end (omega (arith, b, c)) u.near)
    where
      out_covers : (x y s : ℕ) → x ≤ y → y % 4 ≡ 0 → s < y → (x + 3) / 4 ≤ y / 4 - 1 + 1
      out_covers x y s l m n = omega (arith, l, m, n)

      use_covers : {p : ℕ} (x y : ℕ) → x ≤ y → (y + 3) / 4 ≤ p → (x + 3) / 4 ≤ p
      use_covers x y l m = omega (arith, l, m)

  -- ---- what the code relies on
  pub job_starting : Starting (get_or job.segments 0 no_segment)
  job_starting f = (job_defined 0 checked.some f).later

  pub job_ending : Ending job.uses (get_or job.segments (length job.segments - 1) no_segment)
  job_ending =
      record {
        out = λ f. four (seg z).start (seg z).end (job_bounded z z_inside).nonempty (out f).boundary;
        used = λ f. let s = (used_last f).some in omega (arith, s);
        inside = job_lists.inside z z_inside;
      }
    where
      four : (s x : ℕ) → s < x → x % 4 ≡ 0 → 4 ≤ x
      four s x n b = omega (arith, n, b)
