-- The gaps that the columns give are the gaps of the block list: links, blocks, edges and frequencies are the same
use mathlib.Core.Path.{◌≡◌, refl, sym, ap, ap₂, ◌∙◌, subst, fun_ext}
use mathlib.Core.Logic.{inl, inr, ⊎_elim}
use mathlib.Core.List.{List, [], ◌∷◌, ◌++◌, map}
use Prim.Native.Nat.{ℕ, zero, suc, ◌+◌, ◌-◌, ◌≤◌, ◌<◌}
use native.Mathlib.Nat.{le_trans, le_of_eq, lt_of_lt_of_le}
use native.Mathlib.Omega.{arith}
use mathlib.Core.Bool.{Bool, true, false, ◌&&◌, cond}
use lib.Dec.{ltb, lit≤}
use lib.Ieee.{Float}
use lib.ListN.{length, get_or}
use borrow.Author.Tests.{ltb-true}
use Rattle.numbers.specs.Weight.{frequency_limit, value_of}
use Rattle.links.specs.Blocks.{BlockRow, blocks_of, block_at, item_limit, block_in, Ends, SoundColumns}
use Rattle.links.specs.Links.{lower_link, link_column, on_side, IsLink}
use Rattle.links.specs.Split.{follow, edge, preferred, home, reaches}
use Rattle.links.specs.declared.lower.Side.{Side}
use Rattle.links.specs.declared.lower.Side.TheVariants.{Previous, Next}
use Rattle.columns.proofs.Firsts.{split}
use Rattle.columns.proofs.Tables.{table_length, table_at}
use Rattle.links.proofs.Linking.{link_nearest}
use Rattle.links.proofs.Columns.{list_long, row_at, frequency_column, last_of_sound, ends_of_sound, block_of_sound, edges_of_sound, edges_of}
use Rattle.use_rows.specs.Uses.{no_weights, frequency_at}
use Rattle.use_rows.specs.UseColumns.{UseColumns, Inside, use_in}
use Rattle.columns.specs.Below.{joined}
use Rattle.use_rows.specs.declared.row.SplitUse.{SplitUse}
use Rattle.gaps.specs.Gaps.{near, far, near_weight, far_weights, far_end, cut_gaps, frequency_of, cuts, gaps_between, own_gap, use_of, gaps_on, uses_in}
use Rattle.gaps.specs.Gaps.{Cuttable}
use Rattle.columns.proofs.Tests.{and_parts}
use Rattle.gaps.proofs.Sides.{space_inside}
use Rattle.gaps.proofs.GapTable.{Rising}
use Rattle.gaps.specs.Cutting.{space_of, Leads, followed, cuts_in, freq_in, space_gaps, side_gaps, own_in, Alike, InOrder}

cond_same : {A : Type 0} (t : Bool) (a b d : A) → (t ≡ true → a ≡ b) → cond t a d ≡ cond t b d
cond_same true a b d h = h refl
cond_same false a b d h = refl

-- ---- stored links
module _ (side : Side) (freqs links : List ℕ) (few : length freqs ≤ item_limit) (is : links ≡ link_column side freqs) where
  pub links_long : length links ≡ length freqs
  links_long = ap length is ∙ table_length (lower_link side freqs) (length freqs)

  link_at : (b : ℕ) → b < length freqs → get_or links b 0 ≡ lower_link side freqs b
  link_at b h = ap (λ (l : List ℕ). get_or l b 0) is ∙ table_at (lower_link side freqs) (length freqs) b 0 h

  -- they lead on, or are absent
  pub links_lead : Leads side links
  links_lead =
      record {
        few = le_trans (le_of_eq links_long) few;
        each = λ b h.
            let l = lt_of_lt_of_le h (le_of_eq links_long) in
            let k = subst (IsLink side freqs b) (sym (link_at b l)) (link_nearest side freqs b (le_trans few (lit≤ tt)) l) in
            ⊎_elim (λ m. inr (lt_of_lt_of_le m (le_of_eq (sym links_long)), (k.found m).0)) (λ m. inl (k.gone m)) (split (get_or links b 0) (length freqs));
      }

  -- following them is following the links
  pub followed_is : (last n b : ℕ) → b < length freqs → followed side links last n b ≡ follow side freqs (reaches side last) n b
  unfolding followed follow
  followed_is last zero b h = refl
  followed_is last (suc n) b h =
      let c = lower_link side freqs b in
      ap (λ (x : ℕ). cond (ltb x (length links) && reaches side last x) (x ∷ followed side links last n x) []) (link_at b h)
      ∙ ap (λ (m : ℕ). cond (ltb c m && reaches side last c) (c ∷ followed side links last n c) []) links_long
      ∙ cond_same (ltb c (length freqs) && reaches side last c) (c ∷ followed side links last n c) (c ∷ follow side freqs (reaches side last) n c) []
      (λ e. ap (λ (l : List ℕ). c ∷ l) (followed_is last n c (ltb-true c (length freqs) (and_parts (ltb c (length freqs)) (reaches side last c) e).0)))

-- ---- one space
module _ (freqs firsts ends : List ℕ) (w : SoundColumns freqs firsts ends) where
  abbrev blocks : List BlockRow
  blocks = blocks_of freqs firsts ends

  freq_is : ◌≡◌ {A = ℕ → Float} (λ b. freq_in freqs b) (λ b. frequency_of blocks b)
  freq_is = fun_ext (λ b. ap (λ (r : BlockRow). value_of frequency_limit r.frequency) (sym (row_at freqs firsts ends w.firsts_long w.ends_long b)))

  n_is : length freqs ≡ length blocks
  n_is = sym (list_long freqs firsts ends w.firsts_long w.ends_long)

  pub own_is : (u : SplitUse) → own_in freqs ends u ≡ own_gap blocks u
  unfolding frequency_at
  own_is u =
      ap₂ (λ (f : ℕ → Float) (b : ℕ). record { from = u.inst.0; to = u.inst.0 + 1; weights = u.weight ∷ []; freq = f b; block = b })
      freq_is (block_of_sound freqs firsts ends w u.inst.0)

  module _ (side : Side) (links : List ℕ) (is : links ≡ link_column side freqs) where
    few : length freqs ≤ item_limit
    few = le_trans (le_of_eq n_is) w.sound.few

    cuts_are : (p q : ℕ) → block_in ends (length freqs) (home side p q) < length freqs
        → cuts_in side links (block_in ends (length freqs) (on_side side p q)) (block_in ends (length freqs) (home side p q)) ≡ cuts side blocks p q
    unfolding cuts
    cuts_are p q h =
        followed_is side freqs links few is (block_in ends (length freqs) (on_side side p q)) (length links) (block_in ends (length freqs) (home side p q)) h
        ∙ ap (λ (n : ℕ). follow side freqs (reaches side (block_in ends (length freqs) (on_side side p q))) n (block_in ends (length freqs) (home side p q)))
        (links_long side freqs links few is ∙ n_is)
        ∙ ap (λ (f : List ℕ). follow side f (reaches side (block_in ends (length freqs) (on_side side p q))) (length blocks)
        (block_in ends (length freqs) (home side p q))) (sym (frequency_column freqs firsts ends w.firsts_long w.ends_long))
        ∙ ap₂ (λ (a b : ℕ). follow side (map (λ (b : BlockRow). b.frequency) blocks) (reaches side a) (length blocks) b)
        (block_of_sound freqs firsts ends w (on_side side p q)) (block_of_sound freqs firsts ends w (home side p q))

    pub space_is : (u v : SplitUse) → block_in ends (length freqs) (home side u.inst.0 v.inst.0) < length freqs
        → space_gaps side freqs (edges_of side firsts ends) links (space_of side ends (length freqs) u v) ≡ gaps_between side blocks u v
    unfolding gaps_between
    space_is u v h =
        let p = u.inst.0 in
        let q = v.inst.0 in
        let ws = far_weights side (far side u v) in
        let near-w = near_weight side (near side u v) in
        let cs = cuts_in side links (block_in ends (length freqs) (on_side side p q)) (block_in ends (length freqs) (home side p q)) in
        let edges : ℕ → ℕ = λ c. get_or (edges_of side firsts ends) c 0 in
        ap (λ (f : ℕ → Float). cut_gaps side f edges (far_end side p q) ws (preferred side p q) near-w (block_in ends (length freqs) (home side p q)) cs) freq_is
        ∙ ap (λ (e : ℕ → ℕ). cut_gaps side (λ b. frequency_of blocks b) e (far_end side p q) ws (preferred side p q) near-w
        (block_in ends (length freqs) (home side p q)) cs) (sym (edges_of_sound freqs firsts ends w side))
        ∙ ap₂ (λ (b : ℕ) (l : List ℕ). cut_gaps side (λ b. frequency_of blocks b) (λ c. edge side (block_at blocks c)) (far_end side p q) ws (preferred side p q)
        near-w b l) (block_of_sound freqs firsts ends w (home side p q)) (cuts_are p q h)

-- ---- many
joined_same : {A : Type 0} (lists others : ℕ → List A) (i n : ℕ) → ((k : ℕ) → i ≤ k → k < i + n → lists k ≡ others k) → joined lists i n ≡ joined others i n
unfolding joined
joined_same lists others i zero h = refl
joined_same {A} lists others i (suc n) h =
    ap₂ (λ (a b : List A). a ++ b) (h i (omega arith) (omega arith)) (joined_same lists others (suc i) n (λ k l m. h k (omega (arith, l)) (omega (arith, m))))

module _ (freqs firsts ends prevs nexts : List ℕ) (uses : UseColumns) (best : ℕ) (c : Cuttable freqs firsts ends prevs nexts uses best) where
  use_is : (k : ℕ) → k < length uses.insts → use_of (uses_in uses) k ≡ use_in uses k
  use_is k h = table_at (use_in uses) (length uses.insts) k (no_weights 0) h

  -- the table rises
  pub cut_rising : Rising (blocks_of freqs firsts ends) (uses_in uses)
  cut_rising =
      let n = table_length (use_in uses) (length uses.insts) in
      record {
        sound = c.blocks.sound;
        rises = λ k h.
            let r = c.rises k (omega (arith, h, n)) in
            let a = ap (λ (u : SplitUse). u.inst.0) (use_is k (omega (arith, h, n))) in
            let b = ap (λ (u : SplitUse). u.inst.0) (use_is (k + 1) (omega (arith, h, n))) in
            omega (arith, r, a, b);
        inside = λ k h.
            let r = c.inside k (omega (arith, h, n)) in
            let a = ap (λ (u : SplitUse). u.inst.0) (use_is k (omega (arith, h, n))) in
            omega (arith, r, a);
      }

  before_end : (k : ℕ) → k < length uses.insts → get_or uses.insts k 0 < get_or ends (length freqs - 1) 0
  before_end k h = lt_of_lt_of_le (c.inside k h) (le_of_eq (last_of_sound freqs firsts ends c.blocks))

  use_ends : (k : ℕ) → k < length uses.insts → Ends ends (length freqs) (get_or uses.insts k 0)
  use_ends k h = ends_of_sound freqs firsts ends c.blocks (get_or uses.insts k 0) (before_end k h)

  pub own_ends : Ends ends (length freqs) (use_in uses best).inst.0
  own_ends = use_ends best c.best_inside

  row_inside : (k : ℕ) → k < length uses.insts → Inside k uses
  row_inside k h =
      let a = c.mains_long in let b = c.lefts_long in let d = c.rights_long in
      record { inst = h; main = omega (arith, h, a); left = omega (arith, h, b); right = omega (arith, h, d) }

  pub own_inside : Inside best uses
  own_inside = row_inside best c.best_inside

  -- the uses are in order
  pub in_order : (i last : ℕ) → last < length uses.insts → InOrder ends (length freqs) uses i last
  in_order i last h =
      record {
        inside = row_inside last h;
        each = λ k l m. (c.rises k (omega (arith, m, h)), use_ends (k + 1) (omega (arith, m, h)));
      }

  pub side_alike : (side : Side) (links : List ℕ) → links ≡ link_column side freqs → Alike freqs (edges_of side firsts ends) links
  side_alike side links is =
      record {
        edges_long = long side;
        links_long = links_long side freqs links
            (le_trans (le_of_eq (n_is freqs firsts ends c.blocks)) c.blocks.sound.few) is;
      }
    where
      long : (side : Side) → length (edges_of side firsts ends) ≡ length freqs
      long Previous = c.blocks.ends_long
      long Next = c.blocks.firsts_long

  pub side_leads : (side : Side) (links : List ℕ) → links ≡ link_column side freqs → Leads side links
  side_leads side links is = links_lead side freqs links (le_trans (le_of_eq (n_is freqs firsts ends c.blocks)) c.blocks.sound.few) is

  -- the gaps on a side
  pub side_is : (side : Side) (links : List ℕ) → links ≡ link_column side freqs → (i n : ℕ) → i + n < length uses.insts
      → side_gaps side freqs ends (edges_of side firsts ends) links uses i n ≡ gaps_on side (blocks_of freqs firsts ends) (uses_in uses) i n
  side_is side links is i n h =
      joined_same (λ k. space_gaps side freqs (edges_of side firsts ends) links (space_of side ends (length freqs) (use_in uses k) (use_in uses (k + 1))))
      (λ k. gaps_between side (blocks_of freqs firsts ends) (use_of (uses_in uses) k) (use_of (uses_in uses) (k + 1))) i n
      (λ k l m.
      let o = (in_order k (k + 1) (omega (arith, m, h))).each k (omega arith) (omega arith) in
      space_is freqs firsts ends c.blocks side links is (use_in uses k) (use_in uses (k + 1))
      (space_inside side ends (length freqs) (use_in uses k) (use_in uses (k + 1)) o)
      ∙ ap₂ (gaps_between side (blocks_of freqs firsts ends)) (sym (use_is k (omega (arith, m, h)))) (sym (use_is (k + 1) (omega (arith, m, h)))))

  pub own_gap_lem : own_in freqs ends (use_in uses best) ≡ own_gap (blocks_of freqs firsts ends) (use_of (uses_in uses) best)
  own_gap_lem = own_is freqs firsts ends c.blocks (use_in uses best) ∙ ap (own_gap (blocks_of freqs firsts ends)) (sym (use_is best c.best_inside))
