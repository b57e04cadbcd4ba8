-- The use table: at most two rows more than uses; the instructions of a checked job's rise from the first to the last one, inside the blocks; weights
use mathlib.Core.Path.{◌≡◌, refl, sym, ap, ap₂, ◌∙◌, subst}
use mathlib.Core.Bool.{Bool, true, false, ◌||◌, cond}
use mathlib.Core.Logic.{◌⊎◌, inl, inr}
use mathlib.Core.List.{List, [], ◌∷◌, ◌++◌, map}
use Prim.Native.Nat.{ℕ, zero, suc, ◌+◌, ◌-◌, ◌≤◌, ◌<◌, zero-le}
use native.Mathlib.Nat.{not-suc-le-zero, le_refl, le_antisymm}
use native.Mathlib.Omega.{arith}
use lib.Dec.{eqb}
use lib.Ieee.{Float}
use lib.ListN.{length, get_or, take, length-append, length-map, get_or-map}
use borrow.Author.Tests.{eq-eqb, ne_eqb}
use Rattle.numbers.specs.Weight.{Weight, finite, zero_weight, frequency_limit}
use Rattle.columns.proofs.Tests.{cond_true, cond_false}
use Rattle.numbers.proofs.Units.{zero_finite}
use Rattle.numbers.proofs.Bits.{value_finite}
use Rattle.numbers.proofs.Operations.{sum_weight, product_weight}
use Rattle.numbers.proofs.UseCosts.{Scales, spill_cost_cost, reload_cost_lem, move_cost_lem, move_below_reload, scaled_finite}
use Rattle.links.specs.Blocks.{block_at, block_of, start_of}
use Rattle.columns.proofs.Firsts.{split}
use Rattle.columns.proofs.Counting.{count_never}
use Rattle.jobs.specs.Rows.{no_use}
use Rattle.columns.specs.Below.{count_below}
use Rattle.use_rows.specs.declared.row.Part.{Part}
use Rattle.use_rows.specs.declared.row.Part.TheVariants as Part·is
use Rattle.use_rows.specs.declared.row.SplitUse.{SplitUse}
use Rattle.use_rows.specs.Uses.{no_weights, added_to_row, Seen, counts_at, carries, split_use, has_row, rows_from, use_table, Source, segment_of, cost_of, frequency_at}
use Rattle.use_rows.specs.Uses.{seen_of, first_inst, last_inst, use_table_of, AllWeights}
use Rattle.use_rows.specs.UseColumns.{UseColumns, Holds}
use Rattle.uses.specs.CheckedUses.{CheckedUses}
use Rattle.uses.proofs.UseRows.{other_carries, rows_split, rows_none, rows_one}
use Rattle.uses.proofs.Pending.{row_inst}
use Rattle.uses.proofs.Adding.{one_more}
use Rattle.uses.proofs.CheckedJob.{first_before, last_in_blocks}

-- the column of instructions of rows
abbrev pub insts_of : List SplitUse → List ℕ
insts_of rows = map (λ (u : SplitUse). u.inst.0) rows

-- ---- numbers that rise, from one to before another
pub record Ordered (lo hi : ℕ) (xs : List ℕ) : Type 0 where
  pub low : (i : ℕ) → i < length xs → lo ≤ get_or xs i 0
  pub high : (i : ℕ) → i < length xs → get_or xs i 0 < hi
  pub rises : (i : ℕ) → suc i < length xs → get_or xs i 0 < get_or xs (suc i) 0

none : (lo hi : ℕ) → Ordered lo hi []
none lo hi = record { low = λ i h. absurd (not-suc-le-zero h); high = λ i h. absurd (not-suc-le-zero h); rises = λ i h. absurd (not-suc-le-zero h) }

one_before : (p hi : ℕ) (xs : List ℕ) → p < hi → Ordered (p + 1) hi xs → Ordered p hi (p ∷ xs)
one_before p hi xs h o = record { low = low; high = high; rises = rises }
  where
    low : (i : ℕ) → i < length (p ∷ xs) → p ≤ get_or (p ∷ xs) i 0
    low zero l = le_refl p
    low (suc i) l = let x = o.low i (omega (arith, l)) in omega (arith, x)

    high : (i : ℕ) → i < length (p ∷ xs) → get_or (p ∷ xs) i 0 < hi
    high zero l = h
    high (suc i) l = o.high i (omega (arith, l))

    rises : (i : ℕ) → suc i < length (p ∷ xs) → get_or (p ∷ xs) i 0 < get_or (p ∷ xs) (suc i) 0
    rises zero l = let x = o.low 0 (omega (arith, l)) in omega (arith, x)
    rises (suc i) l = o.rises i (omega (arith, l))

from_before : (p hi : ℕ) (xs : List ℕ) → Ordered (p + 1) hi xs → Ordered p hi xs
from_before p hi xs o = record { low = λ i l. let x = o.low i l in omega (arith, x); high = o.high; rises = o.rises }

-- an earlier one is smaller
pub ordered_far : (lo hi : ℕ) (xs : List ℕ) → Ordered lo hi xs → (i k : ℕ) → i < k → k < length xs → get_or xs i 0 < get_or xs k 0
ordered_far lo hi xs o i zero h l = absurd (not-suc-le-zero h)
ordered_far lo hi xs o i (suc k) h l = by (split i k) (ordered_far lo hi xs o i k)
  where
    by : (i < k) ⊎ (k ≤ i) → (i < k → k < length xs → get_or xs i 0 < get_or xs k 0) → get_or xs i 0 < get_or xs (suc k) 0
    by (inl m) before = let a = before m (omega (arith, l)) in let b = o.rises k l in omega (arith, a, b)
    by (inr m) before = let e : i ≡ k = omega (arith, h, m) in subst (λ (x : ℕ). get_or xs x 0 < get_or xs (suc k) 0) (sym e) (o.rises k l)

-- ---- a test that differs from another at one number alone holds at most once more
module _ (t other : ℕ → Bool) (x : ℕ) (same : (i : ℕ) → (i ≡ x → ⊥) → other i ≡ t i) where
  count_same : (k : ℕ) → k ≤ x → count_below other k ≡ count_below t k
  unfolding count_below
  count_same zero h = refl
  count_same (suc k) h = ap₂ (λ (a : ℕ) (b : Bool). a + cond b 1 0) (count_same k (omega (arith, h))) (same k (λ e. omega (arith, e, h)))

  count_step : (k : ℕ) → count_below other k ≤ count_below t k + 1
  unfolding count_below
  count_step zero = zero-le
  count_step (suc k) = by (split k x) (split x k) (count_step k)
    where
      at_most : (b : Bool) → cond b 1 0 ≤ 1
      at_most true = le_refl 1
      at_most false = zero-le

      apart : (k ≡ x → ⊥) → count_below other k ≤ count_below t k + 1 → count_below other k + cond (other k) 1 0 ≤ count_below t k + cond (t k) 1 0 + 1
      apart f before = let e = ap {B = ℕ} (λ (b : Bool). cond b 1 0) (same k f) in omega (arith, before, e)

      here : k ≡ x → count_below other k + cond (other k) 1 0 ≤ count_below t k + cond (t k) 1 0 + 1
      here f = let e = count_same k (omega (arith, f)) in let m = at_most (other k) in omega (arith, e, m)

      by : (k < x) ⊎ (x ≤ k) → (x < k) ⊎ (k ≤ x) → count_below other k ≤ count_below t k + 1
          → count_below other k + cond (other k) 1 0 ≤ count_below t k + cond (t k) 1 0 + 1
      by (inl a) b before = apart (λ e. omega (arith, a, e)) before
      by (inr a) (inl b) before = apart (λ e. omega (arith, b, e)) before
      by (inr a) (inr b) before = here (le_antisymm b a)

-- ---- the rows of k instructions from p on
module _ (seen : Seen) (n first last : ℕ) where
  abbrev rows : ℕ → ℕ → List SplitUse
  rows = rows_from seen n first last

  abbrev has : ℕ → Bool
  has = has_row seen n first last

  -- that of p, if it has one, and the others
  rows_cons : (p k : ℕ) → rows_from seen n first last p (suc k) ≡ cond (has_row seen n first last p) (split_use seen n p ∷ rows_from seen n first last (p + 1) k)
      (rows_from seen n first last (p + 1) k)
  rows_cons p k = ap (rows p) (one k) ∙ rows_split seen n first last p 1 k ∙ by (has p) refl
    where
      one : (x : ℕ) → suc x ≡ 1 + x
      one x = omega arith

      by : (b : Bool) → has p ≡ b → rows p 1 ++ rows (p + 1) k ≡ cond (has p) (split_use seen n p ∷ rows (p + 1) k) (rows (p + 1) k)
      by true e = ap (λ (r : List SplitUse). r ++ rows (p + 1) k) (rows_one seen n first last p e) ∙ sym (cond_true _ _ e)
      by false e =
          ap (λ (r : List SplitUse). r ++ rows (p + 1) k) (rows_none seen n first last p 1
          (λ q a b. let same : q ≡ p = omega (arith, a, b) in subst (λ (x : ℕ). has x ≡ false) (sym same) e))
          ∙ sym (cond_false _ _ e)

  rows_ordered : (p k : ℕ) → Ordered p (p + k) (insts_of (rows_from seen n first last p k))
  unfolding rows_from
  rows_ordered p zero = none p (p + 0)
  rows_ordered p (suc k) =
      subst (λ (r : List SplitUse). Ordered p (p + suc k) (insts_of r)) (sym (rows_cons p k))
      (by (has p) (subst (λ (h : ℕ). Ordered (p + 1) h (insts_of (rows (p + 1) k))) (same p k) (rows_ordered (p + 1) k)))
    where
      same : (a b : ℕ) → a + 1 + b ≡ a + suc b
      same a b = omega arith

      by : (b : Bool) → Ordered (p + 1) (p + suc k) (insts_of (rows (p + 1) k))
          → Ordered p (p + suc k) (insts_of (cond b (split_use seen n p ∷ rows (p + 1) k) (rows (p + 1) k)))
      by true o =
          subst (λ (x : ℕ). Ordered p (p + suc k) (x ∷ insts_of (rows (p + 1) k))) (sym (row_inst seen n p))
          (one_before p (p + suc k) (insts_of (rows (p + 1) k)) (omega arith) o)
      by false o = from_before p (p + suc k) (insts_of (rows (p + 1) k)) o

  -- what holds of each row's number holds of the column
  rows_all : (f : SplitUse → Float) → ((q : ℕ) → Weight (f (split_use seen n q))) → (p k : ℕ) → AllWeights (map f (rows_from seen n first last p k))
  unfolding rows_from
  rows_all f w p zero = λ i h. absurd (not-suc-le-zero h)
  rows_all f w p (suc k) = subst (λ (r : List SplitUse). AllWeights (map f r)) (sym (rows_cons p k)) (by (has p) (rows_all f w (p + 1) k))
    where
      by : (b : Bool) → AllWeights (map f (rows (p + 1) k)) → AllWeights (map f (cond b (split_use seen n p ∷ rows (p + 1) k) (rows (p + 1) k)))
      by true rest = λ i h. own i h
        where
          own : (i : ℕ) → i < length (map f (split_use seen n p ∷ rows (p + 1) k)) → Weight (get_or (map f (split_use seen n p ∷ rows (p + 1) k)) i zero_weight)
          own zero h = w p
          own (suc i) h = rest i (omega (arith, h))
      by false rest = rest

  -- how many there are
  rows_count : (p k : ℕ) → length (rows_from seen n first last p k) ≡ count_below (λ (i : ℕ). has_row seen n first last (p + i)) k
  unfolding rows_from count_below
  rows_count p zero = refl
  rows_count p (suc k) =
      length-append (rows p k) (cond (has (p + k)) (split_use seen n (p + k) ∷ []) []) ∙ ap₂ (λ (a b : ℕ). a + b) (rows_count p k) (by (has (p + k)))
    where
      by : (b : Bool) → length (cond b (split_use seen n (p + k) ∷ []) []) ≡ cond b 1 0
      by true = refl
      by false = refl

  -- the first and the last instruction have one
  first_has : has first ≡ true
  first_has = by (eqb first first) (eqb first last) (carries seen n first) (eq-eqb first first refl)
    where
      by : (a b c : Bool) → a ≡ true → (a || b || c) ≡ true
      by a b c e = rw e

  last_has : has last ≡ true
  last_has = by (eqb last first) (eqb last last) (carries seen n last) (eq-eqb last last refl)
    where
      by : (a b c : Bool) → b ≡ true → (a || b || c) ≡ true
      by true b c e = refl
      by false b c e = rw e

-- a use gives one row at most
carries_few : (seen : Seen) (p k n : ℕ) → count_below (λ (i : ℕ). carries seen n (p + i)) k ≤ n
unfolding carries
carries_few seen p k zero = subst (λ (x : ℕ). x ≤ 0) (sym (count_never k)) (le_refl 0)
carries_few seen p k (suc n) =
    let before = carries_few seen p k n in
    let step = count_step (λ (i : ℕ). carries seen n (p + i)) (λ (i : ℕ). carries seen (suc n) (p + i)) (seen.inst n - p)
    (λ i e. other_carries seen n (p + i) (λ f. e (omega (arith, f)))) k in
    omega (arith, before, step)

pub rows_few : (seen : Seen) (n first last p k : ℕ) → length (rows_from seen n first last p k) ≤ n + 2
rows_few seen n first last p k =
    let uses = carries_few seen p k n in
    let one = count_step (λ (i : ℕ). carries seen n (p + i)) (λ (i : ℕ). eqb (p + i) last || carries seen n (p + i)) (last - p)
    (λ i e. ap (λ (b : Bool). b || carries seen n (p + i)) (ne_eqb (p + i) last (λ f. e (omega (arith, f))))) k in
    let two = count_step (λ (i : ℕ). eqb (p + i) last || carries seen n (p + i)) (λ (i : ℕ). has_row seen n first last (p + i)) (first - p)
    (λ i e. ap (λ (b : Bool). b || eqb (p + i) last || carries seen n (p + i)) (ne_eqb (p + i) first (λ f. e (omega (arith, f))))) k in
    let all = rows_count seen n first last p k in
    omega (arith, uses, one, two, all)

-- ---- the table
-- the row at its end
at_end : (rows : List SplitUse) (u d : SplitUse) → get_or (rows ++ (u ∷ [])) (length (rows ++ (u ∷ [])) - 1) d ≡ u
at_end rows u d = ap (λ (n : ℕ). get_or (rows ++ (u ∷ [])) n d) (let m = one_more rows u in omega (arith, m)) ∙ go rows
  where
    go : (r : List SplitUse) → get_or (r ++ (u ∷ [])) (length r) d ≡ u
    go [] = refl
    go (v ∷ r) = go r

module _ (seen : Seen) (n first last : ℕ) (h : first ≤ last) where
  abbrev table : List SplitUse
  table = use_table seen n first last

  whole : last + 1 - first ≡ suc (last - first)
  whole = omega (arith, h)

  table_ordered : Ordered first (last + 1) (insts_of (use_table seen n first last))
  unfolding use_table
  table_ordered =
      subst (λ (x : ℕ). Ordered first x (insts_of (rows_from seen n first last first (last + 1 - first)))) (omega (arith, h))
      (rows_ordered seen n first last first (last + 1 - first))

  -- it begins with the first instruction
  table_head : table ≡ split_use seen n first ∷ rows_from seen n first last (first + 1) (last - first)
  unfolding use_table
  table_head = ap (rows_from seen n first last first) whole ∙ rows_cons seen n first last first (last - first) ∙ cond_true _ _ (first_has seen n first last)

  table_some : 0 < length table
  table_some = subst (λ (r : List SplitUse). 0 < length r) (sym table_head) (omega arith)

  table_first : get_or (insts_of table) 0 0 ≡ first
  table_first = ap (λ (r : List SplitUse). get_or (insts_of r) 0 0) table_head ∙ row_inst seen n first

  -- and ends with the last
  table_tail : table ≡ rows_from seen n first last first (last - first) ++ (split_use seen n last ∷ [])
  unfolding use_table rows_from
  table_tail =
      ap (rows_from seen n first last first) whole
      ∙ ap (λ (p : ℕ). rows_from seen n first last first (last - first) ++ cond (has_row seen n first last p) (split_use seen n p ∷ []) []) (omega (arith, h))
      ∙ ap (λ (r : List SplitUse). rows_from seen n first last first (last - first) ++ r) (cond_true _ _ (last_has seen n first last))

  -- these two rows
  pub table_first_row : get_or (use_table seen n first last) 0 (no_weights 0) ≡ split_use seen n first
  table_first_row = ap (λ (r : List SplitUse). get_or r 0 (no_weights 0)) table_head

  pub table_last_row : get_or (use_table seen n first last) (length (use_table seen n first last) - 1) (no_weights 0) ≡ split_use seen n last
  table_last_row =
      ap (λ (r : List SplitUse). get_or r (length r - 1) (no_weights 0)) table_tail
      ∙ at_end (rows_from seen n first last first (last - first)) (split_use seen n last) (no_weights 0)

  table_last : get_or (insts_of table) (length table - 1) 0 ≡ last
  table_last =
      get_or-map (λ (u : SplitUse). u.inst.0) table (length table - 1) (no_weights 0)
      ∙ ap (λ (u : SplitUse). u.inst.0) table_last_row ∙ row_inst seen n last

-- ---- its weights are weights if those of the uses are
record Weighed (u : SplitUse) : Type 0 where
  main : Weight u.weight
  left : Weight u.left_weight
  right : Weight u.right_weight

row_weighed : (seen : Seen) → ((u : ℕ) → Weight (seen.weight u)) → (n p : ℕ) → Weighed (split_use seen n p)
unfolding split_use added_to_row
row_weighed seen w zero p = record { main = finite zero_finite; left = finite zero_finite; right = finite zero_finite }
row_weighed seen w (suc n) p = by (counts_at seen p n) (row_weighed seen w n p)
  where
    more : (u : SplitUse) (t : Part) (x : Float) → Weight x → Weighed u → Weighed (added_to_row u t x)
    more u Part·is.Main x v o = record { main = sum_weight o.main v; left = o.left; right = o.right }
    more u Part·is.Left x v o = record { main = o.main; left = sum_weight o.left v; right = o.right }
    more u Part·is.Right x v o = record { main = o.main; left = o.left; right = sum_weight o.right v }

    by : (b : Bool) → Weighed (split_use seen n p) → Weighed (cond b (added_to_row (split_use seen n p) (seen.part n) (seen.weight n)) (split_use seen n p))
    by true o = more (split_use seen n p) (seen.part n) (seen.weight n) (w n) o
    by false o = o

-- ---- a job's table
module _ (job : Source) (scales : Scales job.scales) where
  use_weight : (u : ℕ) → Weight ((seen_of job).weight u)
  unfolding cost_of frequency_at
  use_weight u =
      product_weight (scaled_finite (get_or job.codes (segment_of job u).value 0) scales
      (spill_cost_cost reload_cost_lem move_cost_lem move_below_reload (get_or job.uses u no_use).kind (get_or job.uses u no_use).cost))
      (value_finite frequency_limit (block_at job.blocks (block_of job.blocks (get_or job.uses u no_use).position)).frequency (le_refl frequency_limit))

  row : (p : ℕ) → Weighed (split_use (seen_of job) (length job.uses) p)
  row = row_weighed (seen_of job) use_weight (length job.uses)

  all : (f : SplitUse → Float) → ((p : ℕ) → Weight (f (split_use (seen_of job) (length job.uses) p))) → AllWeights (map f (use_table_of job))
  unfolding use_table
  all f w =
      rows_all (seen_of job) (length job.uses) (first_inst job.segments) (last_inst job.uses job.segments) f w (first_inst job.segments)
      (last_inst job.uses job.segments + 1 - first_inst job.segments)

  pub use_table_weights : AllWeights (map (λ (u : SplitUse). u.weight) (use_table_of job))
  use_table_weights = all (λ (u : SplitUse). u.weight) (λ p. (row p).main)

  pub use_table_lefts : AllWeights (map (λ (u : SplitUse). u.left_weight) (use_table_of job))
  use_table_lefts = all (λ (u : SplitUse). u.left_weight) (λ p. (row p).left)

  pub use_table_rights : AllWeights (map (λ (u : SplitUse). u.right_weight) (use_table_of job))
  use_table_rights = all (λ (u : SplitUse). u.right_weight) (λ p. (row p).right)

pub use_table_few : (job : Source) → length (use_table_of job) ≤ length job.uses + 2
unfolding use_table
use_table_few job =
    rows_few (seen_of job) (length job.uses) (first_inst job.segments) (last_inst job.uses job.segments) (first_inst job.segments)
    (last_inst job.uses job.segments + 1 - first_inst job.segments)

module _ (job : Source) (checked : CheckedUses job) where
  abbrev seen : Seen
  seen = seen_of job

  abbrev uses : ℕ
  uses = length job.uses

  abbrev from : ℕ
  from = first_inst job.segments

  abbrev to : ℕ
  to = last_inst job.uses job.segments

  pub use_table_some : 0 < length (use_table_of job)
  use_table_some = table_some seen uses from to (first_before job checked)

  -- the instructions rise, from the first to the last
  pub use_table_ordered : Ordered (first_inst job.segments) (last_inst job.uses job.segments + 1) (insts_of (use_table_of job))
  use_table_ordered = table_ordered seen uses from to (first_before job checked)

  pub use_table_first : get_or (insts_of (use_table_of job)) 0 0 ≡ first_inst job.segments
  use_table_first = table_first seen uses from to (first_before job checked)

  pub use_table_last : get_or (insts_of (use_table_of job)) (length (use_table_of job) - 1) 0 ≡ last_inst job.uses job.segments
  use_table_last = table_last seen uses from to (first_before job checked)

  inside_column : {k : ℕ} → k < length (use_table_of job) → k < length (insts_of (use_table_of job))
  inside_column {k} h = subst (λ (n : ℕ). k < n) (sym (length-map (use_table_of job) (λ (u : SplitUse). u.inst.0))) h

  pub use_table_rises : (i k : ℕ) → i < k → k < length (use_table_of job) → get_or (insts_of (use_table_of job)) i 0 < get_or (insts_of (use_table_of job)) k 0
  use_table_rises i k h l = ordered_far from (to + 1) (insts_of (use_table_of job)) use_table_ordered i k h (inside_column l)

  -- and lie in blocks
  pub use_table_inside : (k : ℕ) → k < length (use_table_of job) → get_or (insts_of (use_table_of job)) k 0 < start_of job.blocks (length job.blocks)
  use_table_inside k l =
      let a = use_table_ordered.high k (inside_column l) in
      let b = last_in_blocks job checked in
      omega (arith, a, b)

-- ---- columns that hold a table, cut to the rows used, are its own
taken : {A B : Type 0} (f : A → B) (rows : List A) (more : List B) → take (length rows) (map f rows ++ more) ≡ map f rows
taken f [] more = refl
taken {A} {B} f (r ∷ rows) more = ap (λ (l : List B). f r ∷ l) (taken f rows more)

module _ (rows : List SplitUse) (lent now : UseColumns) (used : ℕ) (held : Holds rows lent now used) where
  cut : {B : Type 0} (f : SplitUse → B) (column : UseColumns → List B) (more : List B) → column now ≡ map f rows ++ more → take used (column now) ≡ map f rows
  cut {B} f column more e = ap₂ (λ (n : ℕ) (c : List B). take n c) held.count e ∙ taken f rows more

  pub held_insts : take used now.insts ≡ map (λ (u : SplitUse). u.inst.0) rows
  held_insts = cut (λ (u : SplitUse). u.inst.0) (λ (c : UseColumns). c.insts) _ (ap (λ (c : UseColumns). c.insts) held.cols)

  pub held_mains : take used now.mains ≡ map (λ (u : SplitUse). u.weight) rows
  held_mains = cut (λ (u : SplitUse). u.weight) (λ (c : UseColumns). c.mains) _ (ap (λ (c : UseColumns). c.mains) held.cols)

  pub held_lefts : take used now.lefts ≡ map (λ (u : SplitUse). u.left_weight) rows
  held_lefts = cut (λ (u : SplitUse). u.left_weight) (λ (c : UseColumns). c.lefts) _ (ap (λ (c : UseColumns). c.lefts) held.cols)

  pub held_rights : take used now.rights ≡ map (λ (u : SplitUse). u.right_weight) rows
  held_rights = cut (λ (u : SplitUse). u.right_weight) (λ (c : UseColumns). c.rights) _ (ap (λ (c : UseColumns). c.rights) held.cols)
