-- The rows of a block list, column by column; what a sound list's rows satisfy; and the block that holds an instruction
use mathlib.Core.Path.{◌≡◌, refl, sym, ap, ◌∙◌}
use mathlib.Core.Logic.{inl, inr}
use mathlib.Core.List.{List}
use Prim.Native.Nat.{ℕ, zero, suc, ◌+◌, ◌≤◌, ◌<◌, min, zero-le}
use native.Mathlib.Nat.{le_refl, le_trans, le_of_lt, le_of_eq, lt_of_lt_of_le, lt_of_le_of_lt, le_of_suc-le-suc}
use native.Mathlib.Numerals.{add-one}
use native.Mathlib.Omega.{arith}
use mathlib.Core.Bool.{Bool, true, false, not, ◌||◌}
use lib.Dec.{leb, ltb, eqb}
use lib.ListN.{length, get_or}
use borrow.Author.Tests.{ltb-false, leb-false, eqb-true, not-false, le-leb}
use Rattle.columns.proofs.Tests.{and_right, and_both}
use Rattle.numbers.specs.Weight.{frequency_limit}
use Rattle.columns.specs.First.{first_below}
use Rattle.links.specs.Blocks.{BlockRow, no_block, blocks_of, block_at, start_of, end_limit, is_bad, bad_block, SoundBlocks, holds, block_of}
use Rattle.columns.proofs.Firsts.{split, first_in, first_is}
use Rattle.columns.proofs.Tables.{table_length, table_at}

-- ---- rows from columns
-- a row of the columns
abbrev pub row_of : List ℕ → List ℕ → List ℕ → ℕ → BlockRow
row_of fs ss es i = record { frequency = get_or fs i 0; first = get_or ss i 0; end = get_or es i 0 }

pub blocks_length : (fs ss es : List ℕ) → length (blocks_of fs ss es) ≡ min (length fs) (min (length ss) (length es))
blocks_length fs ss es = table_length (row_of fs ss es) (min (length fs) (min (length ss) (length es)))

pub blocks_at : (fs ss es : List ℕ) (i : ℕ) → i < length (blocks_of fs ss es) → block_at (blocks_of fs ss es) i ≡ row_of fs ss es i
blocks_at fs ss es i h =
    table_at (row_of fs ss es) (min (length fs) (min (length ss) (length es))) i no_block (lt_of_lt_of_le h (le_of_eq (blocks_length fs ss es)))

-- a row's test, made of the columns, is the block's; and where the next block has to start is the row's end
pub bad_at : (fs ss es : List ℕ) (i start : ℕ) → i < length (blocks_of fs ss es) → start ≡ start_of (blocks_of fs ss es) i
    → is_bad start (record { frequency = get_or fs i 0; first = get_or ss i 0; end = get_or es i 0 }) ≡ bad_block (blocks_of fs ss es) i
bad_at fs ss es i start h e =
    ap (λ (s : ℕ). is_bad s (record { frequency = get_or fs i 0; first = get_or ss i 0; end = get_or es i 0 })) e
    ∙ ap (is_bad (start_of (blocks_of fs ss es) i)) (sym (blocks_at fs ss es i h))

pub next_start : (fs ss es : List ℕ) (i : ℕ) → i < length (blocks_of fs ss es) → get_or es i 0 ≡ start_of (blocks_of fs ss es) (i + 1)
next_start fs ss es i h = ap (λ (b : BlockRow). b.end) (sym (blocks_at fs ss es i h)) ∙ ap (start_of (blocks_of fs ss es)) (sym (add-one i))

-- a list's row numbers are inside each column
pub record Inside (n a b c : ℕ) : Type 0 where
  pub freqs : n ≤ a
  pub firsts : n ≤ b
  pub ends : n ≤ c

pub blocks_inside : (fs ss es : List ℕ) → Inside (length (blocks_of fs ss es)) (length fs) (length ss) (length es)
blocks_inside fs ss es = let e = blocks_length fs ss es in record { freqs = omega arith; firsts = omega arith; ends = omega arith }

-- ---- a row that is not bad
or_false : (a b : Bool) → (a || b) ≡ false → (a ≡ false) × (b ≡ false)
or_false true b e = (e, absurd (mathlib.Core.Bool.true≢false e))
or_false false b e = (refl, e)

pub record Good (start : ℕ) (b : BlockRow) : Type 0 where
  pub starts : b.first ≡ start
  pub nonempty : b.first < b.end
  pub limited : b.end ≤ end_limit
  pub weighted : b.frequency ≤ frequency_limit

pub good_of : (start : ℕ) (b : BlockRow) → is_bad start b ≡ false → Good start b
unfolding is_bad
good_of start b e =
    let p = or_false (not (eqb b.first start) || leb b.end b.first || ltb end_limit b.end) (ltb frequency_limit b.frequency) e in
    let q = or_false (not (eqb b.first start) || leb b.end b.first) (ltb end_limit b.end) p.0 in
    let r = or_false (not (eqb b.first start)) (leb b.end b.first) q.0 in
    record {
      starts = eqb-true b.first start (not-false (eqb b.first start) r.0);
      nonempty = leb-false b.end b.first r.1;
      limited = ltb-false end_limit b.end q.1;
      weighted = ltb-false frequency_limit b.frequency p.1;
    }

-- ---- a sound list
module _ (blocks : List BlockRow) (sound : SoundBlocks blocks) where
  pub row_good : (i : ℕ) → i < length blocks → Good (start_of blocks i) (block_at blocks i)
  row_good i h = good_of (start_of blocks i) (block_at blocks i) (sound.each i h)

  -- a block ends before the next one does
  ends_step : (i : ℕ) → suc i < length blocks → (block_at blocks i).end < (block_at blocks (suc i)).end
  ends_step i h = let g = row_good (suc i) h in lt_of_le_of_lt (le_of_eq (sym g.starts)) g.nonempty

  pub ends_rise : (i k : ℕ) → i ≤ k → k < length blocks → (block_at blocks i).end ≤ (block_at blocks k).end
  ends_rise i k h l = go k h l
    where
      go : (k : ℕ) → i ≤ k → k < length blocks → (block_at blocks i).end ≤ (block_at blocks k).end
      go zero h l = le_of_eq (ap (λ (x : ℕ). (block_at blocks x).end) (zero_only i h))
        where
          zero_only : (x : ℕ) → x ≤ 0 → x ≡ 0
          zero_only x h = omega arith
      go (suc k) h l =
          elim (split i (suc k)) [
            | inl m ↦ le_trans (go k (le_of_suc-le-suc m) (lt_pred k (length blocks) l)) (le_of_lt (ends_step k l))
            | inr m ↦ le_of_eq (ap (λ (x : ℕ). (block_at blocks x).end) (both i (suc k) h m))
          ]
        where
          lt_pred : (a n : ℕ) → suc a < n → a < n
          lt_pred a n h = omega arith

          both : (a b : ℕ) → a ≤ b → b ≤ a → a ≡ b
          both a b p q = omega arith

  -- a block starts no later than a later one
  pub firsts_rise : (i k : ℕ) → i ≤ k → k < length blocks → (block_at blocks i).first ≤ (block_at blocks k).first
  firsts_rise i zero h l = le_of_eq (ap (λ (x : ℕ). (block_at blocks x).first) (zero_only i h))
    where
      zero_only : (x : ℕ) → x ≤ 0 → x ≡ 0
      zero_only x h = omega arith
  firsts_rise i (suc k) h l =
      elim (split i (suc k)) [
        | inl m ↦ le_trans (le_of_lt (row_good i (lt_of_lt_of_le m (le_of_lt l))).nonempty)
            (le_trans (ends_rise i k (le_of_suc-le-suc m) (le_of_lt l)) (le_of_eq (sym (row_good (suc k) l).starts)))
        | inr m ↦ le_of_eq (ap (λ (x : ℕ). (block_at blocks x).first) (both i (suc k) h m))
      ]
    where
      both : (a b : ℕ) → a ≤ b → b ≤ a → a ≡ b
      both a b p q = omega arith

  -- the first block that ends after an instruction is the one that holds it
  starts_before : (inst i : ℕ) → i < length blocks → ((k : ℕ) → k < i → ltb inst (block_at blocks k).end ≡ false) → (block_at blocks i).first ≤ inst
  starts_before inst zero h p = le_trans (le_of_eq (row_good 0 h).starts) zero-le
  starts_before inst (suc i) h p = le_trans (le_of_eq (row_good (suc i) h).starts) (ltb-false inst (block_at blocks i).end (p i (le_refl (suc i))))

  pub block_of_holds : (inst : ℕ) → first_below (λ (i : ℕ). ltb inst (block_at blocks i).end) (length blocks) ≡ block_of blocks inst
  unfolding block_of
  block_of_holds inst =
      let n = length blocks in
      let f = first_in (λ (i : ℕ). ltb inst (block_at blocks i).end) n in
      let r = first_below (λ (i : ℕ). ltb inst (block_at blocks i).end) n in
      first_is {test = holds blocks inst} (record {
        from = zero-le;
        to = f.to;
        passed = λ k l m. and_right (leb (block_at blocks k).first inst) (ltb inst (block_at blocks k).end) (f.passed k l m);
        found =
            λ m. and_both (leb (block_at blocks r).first inst) (ltb inst (block_at blocks r).end)
            (le-leb (block_at blocks r).first inst (starts_before inst r m (λ k. f.passed k zero-le))) (f.found m);
      })
