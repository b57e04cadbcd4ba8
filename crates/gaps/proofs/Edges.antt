-- Where the edges of blocks lie, and the space between two uses
use mathlib.Core.Path.{◌≡◌}
use mathlib.Core.List.{List}
use Prim.Native.Nat.{ℕ, ◌+◌, ◌-◌, ◌≤◌, ◌<◌}
use native.Mathlib.Nat.{le_refl}
use native.Mathlib.Omega.{arith}
use mathlib.Core.Bool.{true}
use lib.ListN.{length}
use borrow.Author.Tests.{leb-true, le-leb}
use Rattle.links.specs.Blocks.{BlockRow, block_at, block_of, start_of, SoundBlocks}
use Rattle.links.specs.Links.{LiesBeyond, on_side}
use Rattle.links.specs.Split.{edge, preferred, home, reaches}
use Rattle.links.specs.declared.lower.Side.{Side}
use Rattle.links.specs.declared.lower.Side.TheVariants.{Previous, Next}
use Rattle.links.proofs.Rows.{row_good, ends_rise, firsts_rise}
use Rattle.links.proofs.Homes.{Home, home_of, ends_by, blocks_rise}
use Rattle.gaps.specs.Gaps.{far_end}

module _ (blocks : List BlockRow) (sound : SoundBlocks blocks) where
  -- ---- edges: the gap from an edge away from the best use begins in block b
  abbrev pub At : Side → ℕ → ℕ → Type 0
  At Previous e b = ((block_at blocks b).first < e) × (e ≤ (block_at blocks b).end)
  At Next e b = ((block_at blocks b).first ≤ e) × (e < (block_at blocks b).end)

  pub at_home : (side : Side) (e b : ℕ) → b < length blocks → At side e b → Home blocks sound (on_side side (e - 1) e) b
  at_home Previous e b h a = let x = a.0 in let y = a.1 in record { inside = h; from = omega (arith, x); before = omega (arith, x, y) }
  at_home Next e b h a = record { inside = h; from = a.0; before = a.1 }

  -- so does the gap from a block's own edge
  pub at_edge : (side : Side) (c : ℕ) → c < length blocks → At side (edge side (block_at blocks c)) c
  at_edge Previous c h = ((row_good blocks sound c h).nonempty, le_refl (block_at blocks c).end)
  at_edge Next c h = (le_refl (block_at blocks c).first, (row_good blocks sound c h).nonempty)

  -- the edges of blocks beyond lie beyond
  pub at_beyond : (side : Side) (e b c : ℕ) → b < length blocks → c < length blocks → At side e b → LiesBeyond side b c
      → LiesBeyond side e (edge side (block_at blocks c))
  at_beyond Previous e b c h l a p = let x = a.0 in let y = ends_by blocks sound c b p h in omega (arith, x, y)
  at_beyond Next e b c h l a p = let x = a.1 in let y = ends_by blocks sound b c p l in omega (arith, x, y)

  -- ---- between two uses
  module _ (p q : ℕ) (order : p < q) (inside : q < start_of blocks (length blocks)) where
    pub home_block : (side : Side) → Home blocks sound (home side p q) (block_of blocks (home side p q))
    home_block Previous = home_of blocks sound (q - 1) (omega (arith, order, inside))
    home_block Next = home_of blocks sound (p + 1) (omega (arith, order, inside))

    pub target_block : (side : Side) → Home blocks sound (on_side side p q) (block_of blocks (on_side side p q))
    target_block Previous = home_of blocks sound p (omega (arith, order, inside))
    target_block Next = home_of blocks sound q inside

    -- the nearest gap begins in the block in which cutting begins
    pub at_start : (side : Side) → At side (preferred side p q) (block_of blocks (home side p q))
    at_start Previous = let h = home_block Previous in let x = h.from in let y = h.before in (omega (arith, x, order), omega (arith, y, order))
    at_start Next = let h = home_block Next in (h.from, h.before)

    pub start_beyond : (side : Side) → LiesBeyond side (preferred side p q) (far_end side p q)
    start_beyond Previous = order
    start_beyond Next = omega (arith, order)

    -- the edge of a block up to the farther use's lies before the end
    pub edge_beyond : (side : Side) (c : ℕ) → c < length blocks → reaches side (block_of blocks (on_side side p q)) c ≡ true
        → LiesBeyond side (edge side (block_at blocks c)) (far_end side p q)
    edge_beyond Previous c h e =
        let t = target_block Previous in
        let l = leb-true (block_of blocks p) c e in
        let r = ends_rise blocks sound (block_of blocks p) c l h in
        let x = t.before in
        omega (arith, r, x)
    edge_beyond Next c h e =
        let t = target_block Next in
        let l = leb-true c (block_of blocks q) e in
        let r = firsts_rise blocks sound c (block_of blocks q) l t.inside in
        let x = t.from in
        omega (arith, r, x)

    -- cutting begins no farther than the farther use's block
    pub home_reaches : (side : Side) → reaches side (block_of blocks (on_side side p q)) (block_of blocks (home side p q)) ≡ true
    home_reaches Previous =
        le-leb (block_of blocks p) (block_of blocks (q - 1)) (blocks_rise blocks sound p (q - 1) (omega (arith, order)) (omega (arith, order, inside)))
    home_reaches Next = le-leb (block_of blocks (p + 1)) (block_of blocks q) (blocks_rise blocks sound (p + 1) q (omega (arith, order)) inside)
