-- The lists of uses, from the columns to the table: what `counted_lists` leaves is the table of all uses, all but its latest row
use mathlib.Core.Path.{◌≡◌, refl, sym, ap, ◌∙◌, subst}
use mathlib.Core.Bool.{Bool, true, false, not, ◌&&◌, ◌||◌, cond, true≢false}
use mathlib.Core.List.{List}
use Prim.Native.Nat.{ℕ, zero, suc, ◌+◌, ◌-◌, ◌≤◌, ◌<◌}
use native.Mathlib.Nat.{le_refl, add-zero, add-suc}
use native.Mathlib.Omega.{arith}
use lib.Dec.{eqb}
use lib.Ieee.{Float, binary32, eq, mul}
use lib.ListN.{length, get_or}
use borrow.Author.Tests.{eqb-true}
use Rattle.numbers.specs.Weight.{zero_weight, frequency_limit, value_of}
use Rattle.columns.proofs.Tests.{cond_true, cond_false}
use Rattle.links.specs.Blocks.{BlockRow, blocks_of, block_of, block_in, SoundBlocks}
use Rattle.links.proofs.Columns.{row_at, block_of_sound}
use Rattle.numbers.specs.Cost.{reload_cost, move_cost, spill_cost, scaled}
use Rattle.jobs.specs.declared.rows.Segment.{Segment}
use Rattle.jobs.specs.declared.rows.Limits.{Limits}
use Rattle.jobs.specs.Rows.{no_segment, no_use, fixed_def}
use Rattle.columns.specs.Table.{row_before}
use Rattle.jobs.specs.Lines.{Lists}
use Rattle.jobs.proofs.Sound.{Bounded}
use Rattle.jobs.proofs.SoundUses.{Defined, Fitting}
use Rattle.jobs.proofs.UseLists.{list_of_lem}
use Rattle.use_rows.specs.Uses.{Seen, counts_at, carries, has_row, frequency_at, Source, segment_of, cost_of, seen_of, first_inst}
use Rattle.use_rows.specs.UseColumns.{UseColumns, Inside}
use Rattle.use_lists.specs.Steps.{block_in_use}
use Rattle.use_lists.specs.Collecting.{Collecting, added, weight_in, counted, counted_list, counted_lists}
use Rattle.uses.proofs.Adding.{Stored, stored_skipped, stored_added}
use Rattle.use_rows.proofs.Rows.{inside_less}
use Rattle.uses.proofs.UseOrder.{use_near, use_inside}

-- a use that counts at an instruction
pub record Carrier (seen : Seen) (n p : ℕ) : Type 0 where
  pub one : ℕ
  pub seen_before : one < n
  pub there : seen.inst one ≡ p

pub carried : (seen : Seen) (n p : ℕ) → carries seen n p ≡ true → Carrier seen n p
unfolding carries
carried seen zero p e = absurd (true≢false (sym e))
carried seen (suc n) p e = by (carries seen n p) refl e (carried seen n p)
  where
    own : (a b : Bool) → (a && b) ≡ true → b ≡ true
    own true b f = f
    own false b f = absurd (true≢false (sym f))

    by : (a : Bool) → carries seen n p ≡ a → (a || counts_at seen p n) ≡ true → (carries seen n p ≡ true → Carrier seen n p) → Carrier seen (suc n) p
    by true c f later = let k = later c in record { one = k.one; seen_before = let h = k.seen_before in omega (arith, h); there = k.there }
    by false c f later = record { one = n; seen_before = le_refl (suc n); there = eqb-true (seen.inst n) p (own (seen.counts n) (eqb (seen.inst n) p) f) }

-- an instruction with a row is the first, or a use counts there
pub rows_near : (seen : Seen) (first n most : ℕ) → first ≤ most → ((m : ℕ) → m < n → seen.inst m ≤ most) → (p : ℕ) → has_row seen n first first p ≡ true
    → p ≤ most
rows_near seen first n most h uses p e = by (eqb p first) refl (carries seen n p) refl e
  where
    by : (a : Bool) → eqb p first ≡ a → (b : Bool) → carries seen n p ≡ b → (a || a || b) ≡ true → p ≤ most
    by true f b g t = let s : p ≡ first = eqb-true p first f in omega (arith, h, s)
    by false f true g t = let k = carried seen n p g in let l = uses k.one k.seen_before in let s = k.there in omega (arith, l, s)
    by false f false g t = absurd (true≢false (sym t))

-- a use's weight by the columns is its weight by the blocks
pub weight_blocks : (fs ss es : List ℕ) → length ss ≡ length fs → length es ≡ length fs → SoundBlocks (blocks_of fs ss es) → (cost : Float) (p : ℕ)
    → weight_in fs cost (block_in es (length fs) p) ≡ mul binary32 cost (frequency_at (blocks_of fs ss es) p)
unfolding weight_in frequency_at
weight_blocks fs ss es a b sound cost p =
    let found = block_of_sound fs ss es (record { firsts_long = a; ends_long = b; sound = sound }) p in
    ap (λ (i : ℕ). mul binary32 cost (value_of frequency_limit (get_or fs i 0))) found
    ∙ ap (λ (r : BlockRow). mul binary32 cost (value_of frequency_limit r.frequency)) (sym (row_at fs ss es a b (block_of (blocks_of fs ss es) p)))

-- ---- a checked job
module _ (limits : Limits) (job : Source) (lists : Lists (length job.uses) job.segments)
    (bounded : (i : ℕ) → i < length job.segments → Bounded limits (row_before job.segments no_segment i) (get_or job.segments i no_segment))
    (defined : (i : ℕ) → i < length job.segments → fixed_def (get_or job.segments i no_segment).flags ≡ true
    → Defined job.uses (get_or job.segments i no_segment))
    (fitting : (i u : ℕ) → i < length job.segments → (get_or job.segments i no_segment).first_use ≤ u → u < (get_or job.segments i no_segment).end_use
    → Fitting limits (get_or job.segments i no_segment) (eqb u (get_or job.segments i no_segment).first_use) (row_before job.uses no_use u)
    (get_or job.uses u no_use))
    (fs ss es : List ℕ) (as_long : length ss ≡ length fs) (as-long-too : length es ≡ length fs) (blocks : job.blocks ≡ blocks_of fs ss es)
    (sound : SoundBlocks (blocks_of fs ss es))
    (lent : UseColumns) (room : Inside (length job.uses) lent) where
  abbrev seg : ℕ → Segment
  seg i = get_or job.segments i no_segment

  abbrev code_of : Segment → ℕ
  code_of s = get_or job.codes s.value 0

  -- use n of segment i, added or ignored
  module _ (i n : ℕ) (h : i < length job.segments) (p : (seg i).first_use ≤ n) (q : n < (seg i).end_use) (c : Collecting)
      (known : Stored (seen_of job) (first_inst job.segments) n lent c) where
    own_segment : seg i ≡ segment_of job n
    own_segment = ap seg (list_of_lem (length job.uses) job.segments lists i n h p q)

    inside_uses : n < length job.uses
    inside_uses = let l = lists.inside i h in omega (arith, l, q)

    -- what the code adds is what the table sees of the use
    as_seen : counted fs (seg i) (get_or job.uses n no_use).position (block_in_use es (length fs) job.uses n)
        (scaled (code_of (seg i)) job.scales (spill_cost reload_cost move_cost (get_or job.uses n no_use).kind (get_or job.uses n no_use).cost)) c
        ≡ cond (eq (cost_of job n) zero_weight) c (added c ((seen_of job).inst n) ((seen_of job).part n) ((seen_of job).weight n))
    unfolding counted cost_of
    as_seen =
        ap (λ (s : Segment). counted fs s (get_or job.uses n no_use).position (block_in_use es (length fs) job.uses n)
        (scaled (code_of s) job.scales (spill_cost reload_cost move_cost (get_or job.uses n no_use).kind (get_or job.uses n no_use).cost)) c) own_segment
        ∙ ap (λ (w : Float). cond (eq (cost_of job n) zero_weight) c (added c ((seen_of job).inst n) ((seen_of job).part n) w))
        (weight_blocks fs ss es as_long as-long-too sound (cost_of job n) (get_or job.uses n no_use).position
        ∙ ap (λ (b : List BlockRow). mul binary32 (cost_of job n) (frequency_at b (get_or job.uses n no_use).position)) (sym blocks))

    use_stored : Stored (seen_of job) (first_inst job.segments) (suc n) lent
        (counted fs (seg i) (get_or job.uses n no_use).position (block_in_use es (length fs) job.uses n)
        (scaled (code_of (seg i)) job.scales (spill_cost reload_cost move_cost (get_or job.uses n no_use).kind (get_or job.uses n no_use).cost)) c)
    use_stored = by (eq (cost_of job n) zero_weight) refl
      where
        first_before : first_inst job.segments ≤ (seen_of job).inst n
        first_before = use_inside limits job.uses job.segments lists bounded defined fitting i n h p q

        by : (b : Bool) → eq (cost_of job n) zero_weight ≡ b → Stored (seen_of job) (first_inst job.segments) (suc n) lent
            (counted fs (seg i) (get_or job.uses n no_use).position (block_in_use es (length fs) job.uses n)
            (scaled (code_of (seg i)) job.scales (spill_cost reload_cost move_cost (get_or job.uses n no_use).kind (get_or job.uses n no_use).cost)) c)
        by true e =
            subst (Stored (seen_of job) (first_inst job.segments) (suc n) lent) (sym (as_seen ∙ cond_true _ _ e))
            (stored_skipped (seen_of job) (first_inst job.segments) lent n c known (ap not e))
        by false e =
            subst (Stored (seen_of job) (first_inst job.segments) (suc n) lent) (sym (as_seen ∙ cond_false _ _ e))
            (stored_added (seen_of job) (first_inst job.segments) lent n c known (ap not e) first_before
            (rows_near (seen_of job) (first_inst job.segments) n ((seen_of job).inst n + 1) (let f = first_before in omega (arith, f))
            (λ m l. use_near limits job.uses job.segments lists bounded defined fitting i m n h p q l))
            (inside_less n (length job.uses) lent (let l = inside_uses in omega (arith, l)) room))

  -- the first k uses of a list
  pub list_stored : (i k : ℕ) → i < length job.segments → (seg i).first_use + k ≤ (seg i).end_use → (c : Collecting)
      → Stored (seen_of job) (first_inst job.segments) (seg i).first_use lent c
      → Stored (seen_of job) (first_inst job.segments) ((seg i).first_use + k) lent (counted_list job.uses fs es (seg i) (code_of (seg i)) job.scales k c)
  unfolding counted_list
  list_stored i zero h l c known = subst (λ (n : ℕ). Stored (seen_of job) (first_inst job.segments) n lent c) (sym (add-zero (seg i).first_use)) known
  list_stored i (suc k) h l c known =
      let e = add-suc (seg i).first_use k in
      subst (λ (n : ℕ). Stored (seen_of job) (first_inst job.segments) n lent (counted_list job.uses fs es (seg i) (code_of (seg i)) job.scales (suc k) c))
      (sym e)
      (use_stored i ((seg i).first_use + k) h (omega arith) (omega (arith, e, l)) (counted_list job.uses fs es (seg i) (code_of (seg i)) job.scales k c)
      (list_stored i k h (omega (arith, e, l)) c known))

  -- the lists of the first n segments
  pub lists_stored : (n : ℕ) → n ≤ length job.segments → (c : Collecting) → Stored (seen_of job) (first_inst job.segments) 0 lent c
      → Stored (seen_of job) (first_inst job.segments) (row_before job.segments no_segment n).end_use lent
      (counted_lists job.uses fs es job.segments job.codes job.scales n c)
  unfolding counted_lists
  lists_stored zero h c known = known
  lists_stored (suc i) h c known =
      let f = lists.follows i h in
      let o = lists.forward i h in
      let whole : (seg i).first_use + ((seg i).end_use - (seg i).first_use) ≡ (seg i).end_use = omega (arith, o) in
      let before = counted_lists job.uses fs es job.segments job.codes job.scales i c in
      subst (λ (n : ℕ). Stored (seen_of job) (first_inst job.segments) n lent
      (counted_list job.uses fs es (seg i) (code_of (seg i)) job.scales ((seg i).end_use - (seg i).first_use) before)) whole
      (list_stored i ((seg i).end_use - (seg i).first_use) h (omega (arith, o)) before
      (subst (λ (n : ℕ). Stored (seen_of job) (first_inst job.segments) n lent before) (sym f) (lists_stored i (omega (arith, h)) c known)))

  -- all of them
  pub all_stored : (c : Collecting) → Stored (seen_of job) (first_inst job.segments) 0 lent c
      → Stored (seen_of job) (first_inst job.segments) (length job.uses) lent
      (counted_lists job.uses fs es job.segments job.codes job.scales (length job.segments) c)
  all_stored c known =
      subst (λ (n : ℕ). Stored (seen_of job) (first_inst job.segments) n lent
      (counted_lists job.uses fs es job.segments job.codes job.scales (length job.segments) c)) lists.all
      (lists_stored (length job.segments) (le_refl (length job.segments)) c known)
