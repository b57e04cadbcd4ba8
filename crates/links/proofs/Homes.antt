-- Where instructions lie in a sound block list: each has one block, a later one no earlier block, and the next one's is at most one further
use mathlib.Core.Path.{◌≡◌, sym, subst}
use mathlib.Core.Logic.{⊎_elim}
use mathlib.Core.Bool.{Bool, true, false, cond}
use mathlib.Core.List.{List}
use Prim.Native.Nat.{ℕ, suc, ◌+◌, ◌-◌, ◌≤◌, ◌<◌}
use native.Mathlib.Nat.{le_trans, le_of_eq}
use native.Mathlib.Omega.{arith}
use lib.Dec.{leb, ltb}
use lib.ListN.{length}
use borrow.Author.Tests.{ltb-true, leb-true, lt-ltb, le-leb, le-ltb}
use Rattle.columns.proofs.Tests.{and_right, and_both, and_parts}
use Rattle.columns.proofs.Firsts.{split, first_in, first_at_most, first_found}
use Rattle.links.specs.Blocks.{BlockRow, block_at, block_of, start_of, holds, SoundBlocks}
use Rattle.links.proofs.Rows.{row_good, firsts_rise, block_of_holds}
use Rattle.links.proofs.Columns.{last_end}

module _ (blocks : List BlockRow) (sound : SoundBlocks blocks) where
  abbrev total : ℕ
  total = start_of blocks (length blocks)

  -- block b holds an instruction
  pub record Home (inst b : ℕ) : Type 0 where
    pub inside : b < length blocks
    pub from : (block_at blocks b).first ≤ inst
    pub before : inst < (block_at blocks b).end

  -- an instruction before the last end has its block
  pub home_of : (inst : ℕ) → inst < total → Home inst (block_of blocks inst)
  unfolding block_of
  home_of inst h =
      let s = sound.some in
      let last : inst < (block_at blocks (length blocks - 1)).end = subst (λ (x : ℕ). inst < x) (last_end blocks sound.some) h in
      let m = first_at_most (λ (i : ℕ). ltb inst (block_at blocks i).end) (length blocks) (length blocks - 1)
      (lt-ltb inst (block_at blocks (length blocks - 1)).end last) in
      let e = block_of_holds blocks sound inst in
      let b : block_of blocks inst < length blocks = omega (arith, m, e, s) in
      let q = and_parts (leb (block_at blocks (block_of blocks inst)).first inst) (ltb inst (block_at blocks (block_of blocks inst)).end)
      ((first_in (holds blocks inst) (length blocks)).found b) in
      record {
        inside = b;
        from = leb-true (block_at blocks (block_of blocks inst)).first inst q.0;
        before =
            ltb-true inst (block_at blocks (block_of blocks inst)).end q.1;
      }

  -- a block ends by the start of a later one
  pub ends_by : (i k : ℕ) → i < k → k < length blocks → (block_at blocks i).end ≤ (block_at blocks k).first
  ends_by i k h l =
      let e = (row_good blocks sound (suc i) (omega (arith, h, l))).starts in
      le_trans (le_of_eq (sym e)) (firsts_rise blocks sound (suc i) k h l)

  -- an instruction has one block
  pub home_only : (inst b : ℕ) → Home inst b → b ≡ block_of blocks inst
  unfolding block_of
  home_only inst b h =
      first_found (holds blocks inst) (length blocks) b h.inside
      (λ k l. let e = ends_by k b l h.inside in let f = h.from in and_right (leb (block_at blocks k).first inst) (ltb inst (block_at blocks k).end)
      (le-ltb inst (block_at blocks k).end (omega (arith, e, f))))
      (and_both (leb (block_at blocks b).first inst) (ltb inst (block_at blocks b).end) (le-leb (block_at blocks b).first inst h.from)
      (lt-ltb inst (block_at blocks b).end h.before))

  -- a later instruction has no earlier block
  pub homes_rise : (p q a b : ℕ) → p ≤ q → Home p a → Home q b → a ≤ b
  homes_rise p q a b h x y =
      ⊎_elim (λ l. let e = ends_by b a l x.inside in let f = x.from in let g = y.before in absurd (omega (arith, h, e, f, g))) (λ l. l) (split b a)

  pub blocks_rise : (p q : ℕ) → p ≤ q → q < total → block_of blocks p ≤ block_of blocks q
  blocks_rise p q h l = homes_rise p q (block_of blocks p) (block_of blocks q) h (home_of p (omega (arith, h, l))) (home_of q l)

  -- one instruction later is at most one block later
  homes_near : (p q a b : ℕ) → p ≤ q + 1 → Home p a → Home q b → a ≤ b + 1
  homes_near p q a b h x y = ⊎_elim far (λ l. l) (split (b + 1) a)
    where
      far : b + 1 < a → a ≤ b + 1
      far l =
          let inside : b + 1 < length blocks = let i = x.inside in omega (arith, l, i) in
          let before = ends_by b (b + 1) (omega arith) inside in
          let behind = ends_by (b + 1) a l x.inside in
          let some = (row_good blocks sound (b + 1) inside).nonempty in
          let f = x.from in
          let g = y.before in
          absurd (omega (arith, h, before, behind, some, f, g))

  -- both at once
  pub blocks_near : (t : Bool) (p q : ℕ) → p ≤ q + cond t 1 0 → p < start_of blocks (length blocks) → q < start_of blocks (length blocks)
      → block_of blocks p ≤ block_of blocks q + cond t 1 0
  blocks_near true p q h k l = homes_near p q (block_of blocks p) (block_of blocks q) h (home_of p k) (home_of q l)
  blocks_near false p q h k l = let r = blocks_rise p q (omega (arith, h)) l in omega (arith, r)
