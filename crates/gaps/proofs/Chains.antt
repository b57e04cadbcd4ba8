-- The gaps between two uses: they follow one another from use to use; each has the least frequency among the blocks it meets, and that of
-- one of them; there are no more cuts than blocks between
use mathlib.Core.Path.{◌≡◌, refl, sym, ap, ◌∙◌, subst}
use mathlib.Core.Logic.{◌⊎◌, inl, inr, ⊎_elim}
use mathlib.Core.List.{List, [], ◌∷◌, ◌++◌, map}
use Prim.Native.Nat.{ℕ, zero, suc, ◌+◌, ◌-◌, ◌≤◌, ◌<◌}
use native.Mathlib.Nat.{le_refl, le_trans, le_of_eq, lt_of_lt_of_le}
use native.Mathlib.Omega.{arith}
use mathlib.Core.Bool.{Bool, true, false, ◌&&◌, true≢false}
use lib.Dec.{ltb, lit≤}
use lib.Ieee.{Float, lt}
use lib.ListN.{length, get_or, length-map}
use borrow.Author.Tests.{ltb-true, lt-ltb, le-ltb, leb-true, leb-false}
use lib.Ieee.Bits.{is_true, is_false}
use Rattle.numbers.specs.Weight.{finite, units_of, zero_weight, frequency_limit, value_of}
use Rattle.numbers.proofs.Units.{units_order}
use Rattle.numbers.proofs.Bits.{value_finite}
use Rattle.columns.proofs.Tests.{cond_both, and_parts}
use Rattle.links.specs.Blocks.{BlockRow, block_at, block_of, start_of, SoundBlocks}
use Rattle.links.specs.Links.{absent, beside, is_lower, lower_link, LiesBeyond, on_side}
use Rattle.links.specs.Split.{follow, edge, preferred, home, reaches}
use Rattle.links.specs.declared.lower.Side.{Side}
use Rattle.links.specs.declared.lower.Side.TheVariants.{Previous, Next}
use Rattle.columns.proofs.Firsts.{split}
use Rattle.links.proofs.Linking.{link_nearest}
use Rattle.links.proofs.Following.{fuel_left}
use Rattle.links.proofs.Rows.{ends_rise, firsts_rise}
use Rattle.use_rows.specs.Uses.{frequency_at}
use Rattle.use_rows.specs.declared.row.SplitUse.{SplitUse}
use Rattle.gaps.specs.Gaps.{Gap, near, far, near_weight, far_weights, far_end, spanned, in_order, cut_gaps, frequency_of, cuts, gaps_between, own_gap}
use Rattle.columns.specs.Table.{Each}
use Rattle.gaps.specs.Laws.{Run, Least}
use Rattle.gaps.proofs.Cuts.{all_enough}
use Rattle.gaps.proofs.Spaces.{cut_gaps_length}
use Rattle.links.proofs.Homes.{Home, home_of, home_only, homes_rise, blocks_rise}
use Rattle.gaps.proofs.Edges.{At, at_home, at_edge, at_beyond, home_block, target_block, at_start, start_beyond, edge_beyond, home_reaches}
use Rattle.gaps.proofs.Runs.{run_in_order, run_one}

-- ---- the blocks of the cuts, from block b on, up to block `last`: each is the link of the one before, and the last one's link is absent or leads too far
abbrev pub Chained : Side → List ℕ → ℕ → ℕ → List ℕ → Type 0
Chained side f last b [] = lower_link side f b < length f → reaches side last (lower_link side f b) ≡ false
Chained side f last b (c ∷ cs) = (c ≡ lower_link side f b) × (c < length f) × (reaches side last c ≡ true) × Chained side f last c cs

module _ (side : Side) (f : List ℕ) (few : length f ≤ absent) (last : ℕ) where
  pub follow_chained : (n b : ℕ) → b < length f → beside side (length f) b ≤ n → Chained side f last b (follow side f (reaches side last) n b)
  unfolding follow
  follow_chained zero b h e = λ l. absurd (none side (length f) b (lower_link side f b) h l e ((link_nearest side f b few h).found l).0)
    where
      none : (side : Side) (n b c : ℕ) → b < n → c < n → beside side n b ≤ 0 → LiesBeyond side b c → ⊥
      none Previous n b c h l e p = omega (arith, e, p)
      none Next n b c h l e p = omega (arith, e, p, l)
  follow_chained (suc n) b h e =
      let c = lower_link side f b in
      cond_both (λ (cs : List ℕ). Chained side f last b cs) (ltb c (length f) && reaches side last c) (c ∷ follow side f (reaches side last) n c) []
      (λ t.
      let q = and_parts (ltb c (length f)) (reaches side last c) (is_true (ltb c (length f) && reaches side last c) t) in
      let l = ltb-true c (length f) q.0 in
      let k = fuel_left side (length f) b c (suc n) h l ((link_nearest side f b few h).found l).0 e in
      let z : n ≡ k.0 = let w = k.1 in omega (arith, w) in
      (refl, l, q.1, follow_chained n c l (le_trans k.2 (le_of_eq (sym z)))))
      (λ t l. not_reached (ltb c (length f)) (reaches side last c) (lt-ltb c (length f) l) (is_false (ltb c (length f) && reaches side last c) t))
    where
      not_reached : (a b : Bool) → a ≡ true → (a && b) ≡ false → b ≡ false
      not_reached true b p q = q
      not_reached false b p q = absurd (true≢false (sym p))

-- ---- each gap of a list
pub each_append : (P : Gap → Type 0) (gs hs : List Gap) → Each P gs → Each P hs → Each P (gs ++ hs)
each_append P [] hs a b = b
each_append P (g ∷ gs) hs a b = (a.0, each_append P gs hs a.1 b)

pub each_in_order : (P : Gap → Type 0) (side : Side) (g : Gap) (gs : List Gap) → P g → Each P gs → Each P (in_order side g gs)
each_in_order P Previous g gs a b = each_append P gs (g ∷ []) b (a, tt)
each_in_order P Next g gs a b = (a, b)

-- ---- a gap's frequency is the least among the blocks that it meets, and one of theirs
module _ (blocks : List BlockRow) (sound : SoundBlocks blocks) where
  abbrev freqs : List ℕ
  freqs = map (λ (b : BlockRow). b.frequency) blocks

  freqs_long : length freqs ≡ length blocks
  freqs_long = length-map blocks (λ (b : BlockRow). b.frequency)

  few : length freqs ≤ absent
  few = le_trans (le_of_eq freqs_long) (le_trans sound.few (lit≤ tt))

  inside_freqs : {b : ℕ} → b < length blocks → b < length freqs
  inside_freqs h = lt_of_lt_of_le h (le_of_eq (sym freqs_long))

  inside_blocks : {b : ℕ} → b < length freqs → b < length blocks
  inside_blocks h = lt_of_lt_of_le h (le_of_eq freqs_long)

  freq_at : (b : ℕ) → get_or freqs b 0 ≡ (block_at blocks b).frequency
  freq_at b = map_at blocks b
    where
      map_at : (bs : List BlockRow) (b : ℕ) → get_or (map (λ (b : BlockRow). b.frequency) bs) b 0 ≡ (block_at bs b).frequency
      map_at [] b = refl
      map_at (x ∷ bs) zero = refl
      map_at (x ∷ bs) (suc b) = map_at bs b

  -- a block that is not lower
  not_lower : (b k : ℕ) → is_lower freqs b k ≡ false → lt (frequency_of blocks k) (frequency_of blocks b) ≡ false
  unfolding is_lower
  not_lower b k e =
      ap (λ (x : ℕ). lt (value_of frequency_limit x) (frequency_of blocks b)) (sym (freq_at k))
      ∙ ap (λ (x : ℕ). lt (value_of frequency_limit (get_or freqs k 0)) (value_of frequency_limit x)) (sym (freq_at b)) ∙ e

  itself : (b : ℕ) → is_lower freqs b b ≡ false
  unfolding is_lower
  itself b =
      let w = finite (value_finite frequency_limit (get_or freqs b 0) (lit≤ tt)) in
      units_order w w ∙ le-ltb (units_of (value_of frequency_limit (get_or freqs b 0))) (units_of (value_of frequency_limit (get_or freqs b 0)))
      (le_refl (units_of (value_of frequency_limit (get_or freqs b 0))))

  -- a gap's block has the least frequency of those that the gap meets, and is the one nearest to the best use
  pub record Carried (side : Side) (g : Gap) : Type 0 where
    pub least : Least blocks g
    pub nearest : g.block ≡ block_of blocks (on_side side (g.to - 1) g.from)

  -- a gap that begins in block b and ends before the block that b's link names
  module _ (side : Side) (e m b : ℕ) (ws : List Float) (h : b < length blocks) (a : At blocks sound side e b) (onward : LiesBeyond side e m)
      (stop : (i k : ℕ) → on_side side m e ≤ i → i < on_side side e m → Home blocks sound i k → lower_link side freqs b < length freqs
      → LiesBeyond side k (lower_link side freqs b)) where
    -- its instructions lie in block b or beyond
    where_at : (i k : ℕ) → on_side side m e ≤ i → i < on_side side e m → Home blocks sound i k → (k ≡ b) ⊎ LiesBeyond side b k
    where_at i k p q x = by side (at_home blocks sound side e b h a) p q
      where
        by : (side : Side) → Home blocks sound (on_side side (e - 1) e) b → on_side side m e ≤ i → i < on_side side e m → (k ≡ b) ⊎ LiesBeyond side b k
        by Previous y p q =
            let l = homes_rise blocks sound i (e - 1) k b (omega (arith, q)) x y in ⊎_elim (λ g. inr g) (λ g. inl (omega (arith, l, g))) (split k b)
        by Next y p q = let l = homes_rise blocks sound e i b k p y x in ⊎_elim (λ g. inr g) (λ g. inl (omega (arith, l, g))) (split b k)

    -- block b is the nearest that it meets, and none that it meets is lower
    gap_carried : Carried side (spanned side e m ws (frequency_of blocks b) b)
    gap_carried =
        let x = at_home blocks sound side e b h a in
        record {
          least =
              record {
                meets = record { block = h; inst = on_side side (e - 1) e; in_gap = within side onward; in_block = (x.from, x.before) };
                carries = refl;
                least = λ k z.
                    let i = z.inst in
                    let p = z.in_gap.0 in
                    let q = z.in_gap.1 in
                    let y : Home blocks sound i k = record { inside = z.block; from = z.in_block.0; before = z.in_block.1 } in
                    ⊎_elim (λ w. ap (λ (j : ℕ). lt (frequency_of blocks j) (frequency_of blocks b)) w ∙ not_lower b b (itself b))
                    (λ w. not_lower b k ((link_nearest side freqs b few (inside_freqs h)).passed k (inside_freqs z.block) w (stop i k p q y)))
                    (where_at i k p q y);
              };
          nearest = home_only blocks sound (on_side side (e - 1) e) b x ∙ ap (block_of blocks) (begins side);
        }
      where
        within : (side : Side) → LiesBeyond side e m → (on_side side m e ≤ on_side side (e - 1) e) × (on_side side (e - 1) e < on_side side e m)
        within Previous o = (omega (arith, o), omega (arith, o))
        within Next o = (le_refl e, o)

        begins : (side : Side) → on_side side (e - 1) e ≡ on_side side (on_side side e m - 1) (on_side side m e)
        begins Previous = refl
        begins Next = refl

  -- ---- the gaps between two uses
  module _ (side : Side) (p q : ℕ) (order : p < q) (inside : q < start_of blocks (length blocks)) (ws : List Float) where
    abbrev last : ℕ
    last = block_of blocks (on_side side p q)

    abbrev end : ℕ
    end = far_end side p q

    abbrev edge_at : ℕ → ℕ
    edge_at c = edge side (block_at blocks c)

    -- an edge at a block, before the end
    record From (e b : ℕ) : Type 0 where
      block : b < length blocks
      at : At blocks sound side e b
      onward : LiesBeyond side e end

    from_start : From (preferred side p q) (block_of blocks (home side p q))
    from_start =
        record {
          block = (home_block blocks sound p q order inside side).inside;
          at = at_start blocks sound p q order inside side;
          onward = start_beyond blocks sound p q order inside side;
        }

    from_edge : (c : ℕ) → c < length blocks → reaches side last c ≡ true → From (edge_at c) c
    from_edge c h r = record { block = h; at = at_edge blocks sound side c h; onward = edge_beyond blocks sound p q order inside side c h r }

    -- they follow one another
    cut_run : (e b : ℕ) (w : Float) (cs : List ℕ) → From e b → Chained side freqs last b cs
        → Run (on_side side end e) (on_side side e end) (cut_gaps side (λ b. frequency_of blocks b) edge_at end ws e w b cs)
    unfolding cut_gaps
    cut_run e b w [] f k = run_one side e end (w ∷ ws) (frequency_of blocks b) b f.onward
    cut_run e b w (c ∷ cs) f k =
        let h = inside_blocks k.1 in
        let link = link_nearest side freqs b few (inside_freqs f.block) in
        let on : LiesBeyond side b c = subst (LiesBeyond side b) (sym k.0) (link.found (subst (λ (x : ℕ). x < length freqs) k.0 k.1)).0 in
        run_in_order side e (edge_at c) end (w ∷ []) (frequency_of blocks b) b
        (cut_gaps side (λ b. frequency_of blocks b) edge_at end ws (edge_at c) zero_weight c cs)
        (at_beyond blocks sound side e b c f.block h f.at on)
        (cut_run (edge_at c) c zero_weight cs (from_edge c h k.2) k.3)

    -- where the instructions of the farthest gap lie
    end_stop : (e b : ℕ) → From e b → (i k : ℕ) → on_side side end e ≤ i → i < on_side side e end → Home blocks sound i k
        → (reaches side last (lower_link side freqs b) ≡ false) → LiesBeyond side k (lower_link side freqs b)
    end_stop e b f i k x y z r = by side (target_block blocks sound p q order inside side) x y r
      where
        by : (side : Side) → Home blocks sound (on_side side p q) (block_of blocks (on_side side p q)) → on_side side (far_end side p q) e ≤ i
            → i < on_side side e (far_end side p q)
            → reaches side (block_of blocks (on_side side p q)) (lower_link side freqs b) ≡ false → LiesBeyond side k (lower_link side freqs b)
        by Previous t x y r =
            let l = homes_rise blocks sound p i (block_of blocks p) k x t z in let g = leb-false (block_of blocks p) (lower_link Previous freqs b) r in
            omega (arith, l, g)
        by Next t x y r =
            let l = homes_rise blocks sound i q k (block_of blocks q) (omega (arith, y)) z t in
            let g = leb-false (lower_link Next freqs b) (block_of blocks q) r in omega (arith, l, g)

    -- and those of a gap up to a cut
    cut_stop : (e c i k : ℕ) → c < length blocks → on_side side (edge_at c) e ≤ i → i < on_side side e (edge_at c) → Home blocks sound i k → LiesBeyond side k c
    cut_stop e c i k h x y z = by side x y
      where
        by : (side : Side) → on_side side (edge side (block_at blocks c)) e ≤ i → i < on_side side e (edge side (block_at blocks c)) → LiesBeyond side k c
        by Previous x y = ⊎_elim (λ g. g) (λ g. let l = ends_rise blocks sound k c g h in let m = z.before in absurd (omega (arith, l, m, x))) (split c k)
        by Next x y =
            ⊎_elim (λ g. g) (λ g. let l = firsts_rise blocks sound c k g z.inside in let m = z.from in absurd (omega (arith, l, m, y))) (split k c)

    -- each has the least frequency among the blocks it meets, that of the nearest
    cut_carried : (e b : ℕ) (w : Float) (cs : List ℕ) → From e b → Chained side freqs last b cs
        → Each (Carried side) (cut_gaps side (λ b. frequency_of blocks b) edge_at end ws e w b cs)
    unfolding cut_gaps
    cut_carried e b w [] f k = (gap_carried side e end b (w ∷ ws) f.block f.at f.onward (λ i j x y z l. end_stop e b f i j x y z (k l)), tt)
    cut_carried e b w (c ∷ cs) f k =
        let h = inside_blocks k.1 in
        let link = link_nearest side freqs b few (inside_freqs f.block) in
        let on : LiesBeyond side b c = subst (LiesBeyond side b) (sym k.0) (link.found (subst (λ (x : ℕ). x < length freqs) k.0 k.1)).0 in
        each_in_order (Carried side) side (spanned side e (edge_at c) (w ∷ []) (frequency_of blocks b) b)
        (cut_gaps side (λ b. frequency_of blocks b) edge_at end ws (edge_at c) zero_weight c cs)
        (gap_carried side e (edge_at c) b (w ∷ []) f.block f.at (at_beyond blocks sound side e b c f.block h f.at on)
        (λ i j x y z _. subst (LiesBeyond side j) k.0 (cut_stop e c i j h x y z)))
        (cut_carried (edge_at c) c zero_weight cs (from_edge c h k.2) k.3)

    -- there are no more cuts than blocks from the first to the farther use's
    abbrev Between : Side → ℕ → ℕ → ℕ → Type 0
    Between Previous last b n = n + last ≤ b
    Between Next last b n = n + b ≤ last

    cut_few : (b : ℕ) (cs : List ℕ) → b < length blocks → reaches side last b ≡ true → Chained side freqs last b cs → Between side last b (length cs)
    cut_few b [] h r k = by side last b r
      where
        by : (side : Side) (l b : ℕ) → reaches side l b ≡ true → Between side l b 0
        by Previous l b r = let x = leb-true l b r in omega (arith, x)
        by Next l b r = let x = leb-true b l r in omega (arith, x)
    cut_few b (c ∷ cs) h r k =
        let link = link_nearest side freqs b few (inside_freqs h) in
        let on : LiesBeyond side b c = subst (LiesBeyond side b) (sym k.0) (link.found (subst (λ (x : ℕ). x < length freqs) k.0 k.1)).0 in
        by side last b c (length cs) on (cut_few c cs (inside_blocks k.1) k.2 k.3)
      where
        by : (side : Side) (l b c n : ℕ) → LiesBeyond side b c → Between side l c n → Between side l b (suc n)
        by Previous l b c n o m = omega (arith, o, m)
        by Next l b c n o m = omega (arith, o, m)

    -- the blocks of the cuts
    cuts_chained : Chained side freqs last (block_of blocks (home side p q)) (cuts side blocks p q)
    unfolding cuts
    cuts_chained =
        let h = inside_freqs from_start.block in
        follow_chained side freqs few last (length blocks) (block_of blocks (home side p q)) h
        (le_trans (all_enough side (length freqs) (block_of blocks (home side p q)) h) (le_of_eq freqs_long))

-- ---- of two uses
module _ (blocks : List BlockRow) (sound : SoundBlocks blocks) (side : Side) (u v : SplitUse) (order : u.inst.0 < v.inst.0)
    (inside : v.inst.0 < start_of blocks (length blocks)) where
  abbrev p : ℕ
  p = u.inst.0

  abbrev q : ℕ
  q = v.inst.0

  abbrev weights : List Float
  weights = far_weights side (far side u v)

  pub between_run : Run (on_side side p (p + 1)) (on_side side q (q + 1)) (gaps_between side blocks u v)
  unfolding gaps_between
  between_run =
      by side (gaps_between side blocks u v)
      (cut_run blocks sound side p q order inside weights (preferred side p q) (block_of blocks (home side p q)) (near_weight side (near side u v))
      (cuts side blocks p q) (from_start blocks sound side p q order inside weights) (cuts_chained blocks sound side p q order inside weights))
    where
      by : (side : Side) (gs : List Gap) → Run (on_side side (far_end side u.inst.0 v.inst.0) (preferred side u.inst.0 v.inst.0))
          (on_side side (preferred side u.inst.0 v.inst.0) (far_end side u.inst.0 v.inst.0)) gs
          → Run (on_side side u.inst.0 (u.inst.0 + 1)) (on_side side v.inst.0 (v.inst.0 + 1)) gs
      by Previous gs r = r
      by Next gs r = r

  pub between_carried : Each (Carried blocks sound side) (gaps_between side blocks u v)
  unfolding gaps_between
  between_carried =
      cut_carried blocks sound side p q order inside weights (preferred side p q) (block_of blocks (home side p q)) (near_weight side (near side u v))
      (cuts side blocks p q) (from_start blocks sound side p q order inside weights) (cuts_chained blocks sound side p q order inside weights)

  pub between_few : length (gaps_between side blocks u v) + block_of blocks p ≤ 1 + block_of blocks q
  unfolding gaps_between
  between_few =
      let l = cut_gaps_length side (λ b. frequency_of blocks b) (λ c. edge side (block_at blocks c)) (far_end side p q) weights (preferred side p q)
      (near_weight side (near side u v)) (block_of blocks (home side p q)) (cuts side blocks p q) in
      by side (cut_few blocks sound side p q order inside weights (block_of blocks (home side p q)) (cuts side blocks p q)
      (from_start blocks sound side p q order inside weights).block (home_reaches blocks sound p q order inside side)
      (cuts_chained blocks sound side p q order inside weights)) l
    where
      by : (side : Side) {n m : ℕ} → Between blocks sound side p q order inside weights side (block_of blocks (on_side side u.inst.0 v.inst.0))
          (block_of blocks (home side u.inst.0 v.inst.0)) n → m ≡ suc n → m + block_of blocks u.inst.0 ≤ 1 + block_of blocks v.inst.0
      by Previous c l = let r = blocks_rise blocks sound (v.inst.0 - 1) v.inst.0 (omega arith) inside in omega (arith, c, l, r)
      by Next c l = let r = blocks_rise blocks sound u.inst.0 (u.inst.0 + 1) (omega arith) (omega (arith, order, inside)) in omega (arith, c, l, r)

-- the best use's own gap lies in one block
pub own_least : (blocks : List BlockRow) → SoundBlocks blocks → (u : SplitUse) → u.inst.0 < start_of blocks (length blocks) → Least blocks (own_gap blocks u)
unfolding frequency_at
own_least blocks sound u h =
    let b = block_of blocks u.inst.0 in
    let x = home_of blocks sound u.inst.0 h in
    record {
      meets = record { block = x.inside; inst = u.inst.0; in_gap = (le_refl u.inst.0, omega arith); in_block = (x.from, x.before) };
      carries = refl;
      least = λ k z.
          let p = z.in_gap.0 in
          let q = z.in_gap.1 in
          let i : z.inst ≡ u.inst.0 = omega (arith, p, q) in
          let y : Home blocks sound z.inst k = record { inside = z.block; from = z.in_block.0; before = z.in_block.1 } in
          ap (λ (j : ℕ). lt (frequency_of blocks j) (frequency_of blocks b)) (home_only blocks sound z.inst k y ∙ ap (block_of blocks) i)
          ∙ not_lower blocks sound b b (itself blocks sound b);
    }
