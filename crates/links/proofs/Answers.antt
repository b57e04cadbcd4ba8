-- The answer to the call for a split point, case by case; and what its parts of the columns hold
use mathlib.Core.Path.{◌≡◌, sym, ap, ◌∙◌, subst}
use mathlib.Core.List.{List}
use Prim.Native.Nat.{ℕ, ◌-◌, ◌≤◌, ◌<◌}
use native.Mathlib.Nat.{le_trans, le_of_eq}
use native.Mathlib.Omega.{arith}
use mathlib.Core.Bool.{Bool, true, false, ◌||◌, cond}
use lib.Dec.{leb, ltb}
use lib.ListN.{length, get_or, take}
use lib.Seq.{length-take-le}
use borrow.Author.Tests.{le-leb, lt-leb, lt-ltb, le-ltb}
use Rattle.links.specs.Blocks.{BlockRow, blocks_of, block_at, start_of, check_of, SoundBlocks, Checked, no_refusal}
use Rattle.links.specs.Split.{if_sound, side_of, split_point, split_answer, Between, SplitPoint}
use Rattle.links.specs.declared.blocks.Refusal.{Refusal}
use Rattle.links.proofs.Rows.{blocks_at, blocks_inside}
use Rattle.links.proofs.Columns.{part_list, last_end}
use Rattle.std.specs.Prelude.{Err, Ok}

-- ---- the four cases
module _ (blocks : List BlockRow) (after before : ℕ) (early : Bool) where
  -- what a sound list is answered
  abbrev checked : SplitPoint
  checked =
      cond (leb before after || ltb (start_of blocks (length blocks)) before) (Err (record { number = 13; place = 0 }))
      (Ok (record { 0 = split_point (side_of early) blocks after before }))

  pub answer_refused : (r : Refusal) → check_of blocks ≡ Err r → Err r ≡ split_answer blocks after before early
  unfolding split_answer
  answer_refused r e = sym (ap (λ (x : Checked). if_sound x checked) e)

  module _ (sound : check_of blocks ≡ no_refusal) where
    accepted : (t : Bool) → (leb before after || ltb (start_of blocks (length blocks)) before) ≡ t
        → cond t (Err (record { number = 13; place = 0 })) (Ok (record { 0 = split_point (side_of early) blocks after before }))
        ≡ split_answer blocks after before early
    unfolding split_answer
    accepted t e =
        sym (ap (λ (x : Checked). if_sound x checked) sound
        ∙ ap (λ (s : Bool). cond s (Err (record { number = 13; place = 0 }))
        (Ok (record { 0 = split_point (side_of early) blocks after before }))) e)

    pub answer_order : before ≤ after → Err (record { number = 13; place = 0 }) ≡ split_answer blocks after before early
    answer_order h = accepted true (ap (λ (s : Bool). s || ltb (start_of blocks (length blocks)) before) (le-leb before after h))

    pub answer_outside : after < before → start_of blocks (length blocks) < before
        → Err (record { number = 13; place = 0 }) ≡ split_answer blocks after before early
    answer_outside h l =
        accepted true (ap (λ (s : Bool). s || ltb (start_of blocks (length blocks)) before) (lt-leb before after h)
        ∙ lt-ltb (start_of blocks (length blocks)) before l)

    pub answer_split : (x : ℕ) → after < before → before ≤ start_of blocks (length blocks) → x ≡ split_point (side_of early) blocks after before
        → Ok (record { 0 = x }) ≡ split_answer blocks after before early
    answer_split x h l e =
        ap (λ (y : ℕ). Ok (record { 0 = y })) e
        ∙ accepted false (ap (λ (s : Bool). s || ltb (start_of blocks (length blocks)) before) (lt-leb before after h)
        ∙ le-ltb (start_of blocks (length blocks)) before l)

-- ---- the first n rows of the columns, n being the list's length
module _ (fs ss es : List ℕ) (n : ℕ) (counted : n ≡ length (blocks_of fs ss es)) where
  abbrev blocks : List BlockRow
  blocks = blocks_of fs ss es

  pub in_freqs : n ≤ length fs
  in_freqs = le_trans (le_of_eq counted) (blocks_inside fs ss es).freqs

  pub in_firsts : n ≤ length ss
  in_firsts = le_trans (le_of_eq counted) (blocks_inside fs ss es).firsts

  pub in_ends : n ≤ length es
  in_ends = le_trans (le_of_eq counted) (blocks_inside fs ss es).ends

  pub same_list : blocks_of (take n fs) (take n ss) (take n es) ≡ blocks
  same_list = part_list fs ss es n counted

  less : (m : ℕ) → 0 < m → n ≡ m → n - 1 < m
  less m h e = omega arith

  pub last_column : 0 < length blocks → get_or es (n - 1) 0 ≡ start_of blocks (length blocks)
  last_column h =
      ap (λ (b : BlockRow). b.end) (sym (blocks_at fs ss es (n - 1) (less (length blocks) h counted)))
      ∙ ap (λ (m : ℕ). (block_at blocks (m - 1)).end) counted ∙ sym (last_end blocks h)

  pub parts_between : (after before : ℕ) → SoundBlocks blocks → after < before → before ≤ start_of blocks (length blocks)
      → Between (take n fs) (take n ss) (take n es) after before
  parts_between after before sound h l =
      record {
        firsts_long = length-take-le n ss in_firsts ∙ sym (length-take-le n fs in_freqs);
        ends_long = length-take-le n es in_ends ∙ sym (length-take-le n fs in_freqs);
        sound = subst SoundBlocks (sym same_list) sound;
        order = h;
        inside = subst (λ (bs : List BlockRow). before ≤ start_of bs (length bs)) (sym same_list) l;
      }
