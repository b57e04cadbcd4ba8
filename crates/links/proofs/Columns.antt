-- The columns of a block list: those of one length are the list's own; a sound list's columns serve the search; a part as long as the list holds the same list
use mathlib.Core.Path.{◌≡◌, sym, ap, ◌∙◌, subst, fun_ext}
use mathlib.Core.Logic.{⊎_elim}
use mathlib.Core.List.{List, map}
use Prim.Native.Nat.{ℕ, zero, suc, ◌+◌, ◌-◌, ◌≤◌, ◌<◌, zero-le, min}
use native.Mathlib.Nat.{le_trans, le_of_eq, lt_of_lt_of_le, lt_of_le_of_lt, not-suc-le-zero}
use native.Mathlib.Omega.{arith}
use lib.Dec.{ltb}
use lib.ListN.{length, get_or, take, get_or-eq_default}
use lib.Seq.{get_or-take, length-take-le}
use borrow.Author.Tests.{lt-ltb, eq-eqb, ne_eqb}
use Rattle.columns.proofs.Tests.{cond_true, cond_false}
use Rattle.columns.specs.First.{first_below}
use Rattle.columns.specs.Table.{table}
use Rattle.links.specs.Blocks.{BlockRow, no_block, blocks_of, block_at, start_of, end_limit, SoundBlocks, SoundColumns, block_of, block_in, Ends}
use Rattle.links.specs.Links.{Frequencies}
use Rattle.links.specs.Split.{follow, last_or, edge, preferred, home, farthest, reaches, split_point, Swept, last_reached, Between}
use Rattle.links.specs.declared.lower.Side.{Side}
use Rattle.links.specs.declared.lower.Side.TheVariants.{Previous, Next}
use Rattle.columns.proofs.Firsts.{split, first_at_most, first_same}
use Rattle.columns.proofs.Tables.{table_past, table_same, table_map, table_of}
use Rattle.links.proofs.Rows.{row_of, blocks_length, blocks_at, blocks_inside, row_good, ends_rise, firsts_rise, block_of_holds}

-- ---- columns of one length
pub list_long : (fs ss es : List ℕ) → length ss ≡ length fs → length es ≡ length fs → length (blocks_of fs ss es) ≡ length fs
list_long fs ss es p q = blocks_length fs ss es ∙ all (length fs) (length ss) (length es) p q
  where
    all : (a b c : ℕ) → b ≡ a → c ≡ a → min a (min b c) ≡ a
    all a b c p q = omega arith

pub frequency_column : (fs ss es : List ℕ) → length ss ≡ length fs → length es ≡ length fs → map (λ (b : BlockRow). b.frequency) (blocks_of fs ss es) ≡ fs
frequency_column fs ss es p q =
    table_map (λ (b : BlockRow). b.frequency) (row_of fs ss es) (min (length fs) (min (length ss) (length es)))
    ∙ ap (table (λ (i : ℕ). get_or fs i 0)) (sym (blocks_length fs ss es) ∙ list_long fs ss es p q) ∙ table_of fs 0

-- a row, also past the end: there each column and the list give zero
pub row_at : (fs ss es : List ℕ) → length ss ≡ length fs → length es ≡ length fs → (c : ℕ) → block_at (blocks_of fs ss es) c ≡ row_of fs ss es c
row_at fs ss es p q c =
    ⊎_elim (λ h. blocks_at fs ss es c h)
    (λ h.
    let l = le_trans (le_of_eq (sym (list_long fs ss es p q))) h in
    table_past (row_of fs ss es) (min (length fs) (min (length ss) (length es))) c no_block (le_trans (le_of_eq (sym (blocks_length fs ss es))) h)
    ∙ (λ i. record {
      frequency = sym (get_or-eq_default fs 0 l) i;
      first = sym (get_or-eq_default ss 0 (le_trans (le_of_eq p) l)) i;
      end = sym (get_or-eq_default es 0 (le_trans (le_of_eq q) l)) i;
    }))
    (split c (length (blocks_of fs ss es)))

-- ---- a part of each column as long as the list
pub part_list : (fs ss es : List ℕ) (n : ℕ) → n ≡ length (blocks_of fs ss es) → blocks_of (take n fs) (take n ss) (take n es) ≡ blocks_of fs ss es
part_list fs ss es n e =
    let i = blocks_inside fs ss es in
    ap (table (row_of (take n fs) (take n ss) (take n es)))
    (all (length (take n fs)) (length (take n ss)) (length (take n es)) (length-take-le n fs (le_trans (le_of_eq e) i.freqs))
    (length-take-le n ss (le_trans (le_of_eq e) i.firsts)) (length-take-le n es (le_trans (le_of_eq e) i.ends)))
    ∙ table_same (row_of (take n fs) (take n ss) (take n es)) (row_of fs ss es) n
    (λ k l. λ i. record { frequency = get_or-take n fs k 0 l i; first = get_or-take n ss k 0 l i; end = get_or-take n es k 0 l i })
    ∙ ap (table (row_of fs ss es)) (e ∙ blocks_length fs ss es)
  where
    all : (a b c : ℕ) → a ≡ n → b ≡ n → c ≡ n → min a (min b c) ≡ n
    all a b c p q r = omega arith

-- ---- the last end
pub last_end : (blocks : List BlockRow) → 0 < length blocks → start_of blocks (length blocks) ≡ (block_at blocks (length blocks - 1)).end
last_end blocks h = go (length blocks) h
  where
    go : (n : ℕ) → 0 < n → start_of blocks n ≡ (block_at blocks (n - 1)).end
    go zero h = absurd (not-suc-le-zero h)
    go (suc n) h = ap (λ (x : ℕ). (block_at blocks x).end) (less n)
      where
        less : (n : ℕ) → n ≡ suc n - 1
        less n = omega arith

-- the end of the last block is limited
pub last_limited : (blocks : List BlockRow) → SoundBlocks blocks → start_of blocks (length blocks) ≤ end_limit
last_limited blocks sound =
    subst (λ (x : ℕ). x ≤ end_limit) (sym (last_end blocks sound.some))
    (row_good blocks sound (length blocks - 1) (less (length blocks) sound.some)).limited
  where
    less : (n : ℕ) → 0 < n → n - 1 < n
    less n h = omega arith

-- ---- a sound list's columns
-- the edges that a side's search takes
abbrev pub edges_of : Side → List ℕ → List ℕ → List ℕ
edges_of Previous ss es = es
edges_of Next ss es = ss

module _ (fs ss es : List ℕ) (w : SoundColumns fs ss es) where
  abbrev listed : List BlockRow
  listed = blocks_of fs ss es

  n_is : length listed ≡ length fs
  n_is = list_long fs ss es w.firsts_long w.ends_long

  end_at : (c : ℕ) → (block_at listed c).end ≡ get_or es c 0
  end_at c = ap (λ (b : BlockRow). b.end) (row_at fs ss es w.firsts_long w.ends_long c)

  first_at : (c : ℕ) → (block_at listed c).first ≡ get_or ss c 0
  first_at c = ap (λ (b : BlockRow). b.first) (row_at fs ss es w.firsts_long w.ends_long c)

  some : 0 < length fs
  some = lt_of_lt_of_le w.sound.some (le_of_eq n_is)

  inside_list : {k : ℕ} → k < length fs → k < length listed
  inside_list h = lt_of_lt_of_le h (le_of_eq (sym n_is))

  ends_order : (i k : ℕ) → i ≤ k → k < length fs → get_or es i 0 ≤ get_or es k 0
  ends_order i k h l = le_trans (le_of_eq (sym (end_at i))) (le_trans (ends_rise listed w.sound i k h (inside_list l)) (le_of_eq (end_at k)))

  firsts_order : (i k : ℕ) → i ≤ k → k < length fs → get_or ss i 0 ≤ get_or ss k 0
  firsts_order i k h l = le_trans (le_of_eq (sym (first_at i))) (le_trans (firsts_rise listed w.sound i k h (inside_list l)) (le_of_eq (first_at k)))

  pub last_of_sound : start_of listed (length listed) ≡ get_or es (length fs - 1) 0
  last_of_sound = last_end listed w.sound.some ∙ end_at (length listed - 1) ∙ ap (λ (x : ℕ). get_or es (x - 1) 0) n_is

  last_inside : length fs - 1 < length fs
  last_inside = less (length fs) some
    where
      less : (n : ℕ) → 0 < n → n - 1 < n
      less n h = omega arith

  column_limited : get_or es (length fs - 1) 0 ≤ end_limit
  column_limited = le_trans (le_of_eq (sym (end_at (length fs - 1)))) (row_good listed w.sound (length fs - 1) (inside_list last_inside)).limited

  -- its frequencies serve the links
  pub frequencies_of_sound : (room : ℕ) → length fs ≤ room → Frequencies fs room
  frequencies_of_sound room h =
      record {
        few = le_trans (le_of_eq (sym n_is)) w.sound.few;
        long = h;
        sound =
            λ k l. le_trans (le_of_eq (sym (ap (λ (b : BlockRow). b.frequency) (row_at fs ss es w.firsts_long w.ends_long k))))
            (row_good listed w.sound k (inside_list l)).weighted;
      }

  -- and its ends the search for the block of an instruction before the last end
  pub ends_of_sound : (inst : ℕ) → inst < get_or es (length fs - 1) 0 → Ends es (length fs) inst
  ends_of_sound inst h =
      record {
        some = some;
        few = le_trans (le_of_eq (sym n_is)) w.sound.few;
        searchable = record { order = zero-le; inside = le_of_eq (sym w.ends_long); rising = λ i k _ l m. ends_order i k l m };
        before = h;
        limited = lt_of_lt_of_le h column_limited;
      }

  -- so its blocks are found, and the edges of a side are its column
  pub block_of_sound : (inst : ℕ) → block_in es (length fs) inst ≡ block_of listed inst
  block_of_sound inst =
      first_same (λ (i : ℕ). ltb inst (get_or es i 0)) (λ (i : ℕ). ltb inst (block_at listed i).end) (length fs) (λ k _. ap (ltb inst) (sym (end_at k)))
      ∙ ap (first_below (λ (i : ℕ). ltb inst (block_at listed i).end)) (sym n_is) ∙ block_of_holds listed w.sound inst

  pub edges_of_sound : (side : Side) → ◌≡◌ {A = ℕ → ℕ} (λ c. edge side (block_at listed c)) (λ c. get_or (edges_of side ss es) c 0)
  edges_of_sound Previous = fun_ext end_at
  edges_of_sound Next = fun_ext first_at

-- ---- what the search relies on
module _ (fs ss es : List ℕ) (after before : ℕ) (w : Between fs ss es after before) where
  abbrev blocks : List BlockRow
  blocks = blocks_of fs ss es

  abbrev whole : SoundColumns fs ss es
  whole = record { firsts_long = w.firsts_long; ends_long = w.ends_long; sound = w.sound }

  before_last : before ≤ get_or es (length fs - 1) 0
  before_last = le_trans w.inside (le_of_eq (last_of_sound fs ss es whole))

  pub frequencies : (room : ℕ) → length fs ≤ room → Frequencies fs room
  frequencies = frequencies_of_sound fs ss es whole

  -- the block of an instruction below `before`
  pub searched : (inst : ℕ) → inst < before → Ends es (length fs) inst
  searched inst h = ends_of_sound fs ss es whole inst (lt_of_lt_of_le h before_last)

  pub block_inside : (inst b : ℕ) → inst < before → b ≡ block_in es (length fs) inst → b < length fs
  block_inside inst b h e =
      lt_of_le_of_lt (le_trans (le_of_eq e) (first_at_most (λ (i : ℕ). ltb inst (get_or es i 0)) (length fs) (length fs - 1)
      (lt-ltb inst (get_or es (length fs - 1) 0) (lt_of_lt_of_le h before_last)))) (last_inside fs ss es whole)

  pub block_found : (inst b : ℕ) → b ≡ block_in es (length fs) inst → b ≡ block_of blocks inst
  block_found inst b e = e ∙ block_of_sound fs ss es whole inst

  pub swept_ends : (b : ℕ) → b < length fs → Swept fs es b
  swept_ends b h = record { inside = h; given = frequencies (length es) (le_of_eq (sym w.ends_long)); rising = ends_order fs ss es whole }

  pub swept_firsts : (b : ℕ) → b < length fs → Swept fs ss b
  swept_firsts b h = record { inside = h; given = frequencies (length ss) (le_of_eq (sym w.firsts_long)); rising = firsts_order fs ss es whole }

  -- the split point, of the columns
  pub split_columns : (side : Side) → (after + 1 ≡ before → ⊥) → (b : ℕ) → b ≡ block_of blocks (home side after before)
      → last_reached side fs (edges_of side ss es) (farthest side after before) (preferred side after before) b ≡ split_point side blocks after before
  unfolding split_point
  split_columns side apart b e =
      sym (cond_false before _ (ne_eqb (after + 1) before apart)
      ∙ ap (λ (place : ℕ → ℕ). last_or (preferred side after before)
      (map place (follow side (map (λ (x : BlockRow). x.frequency) blocks) (λ (c : ℕ). reaches side (farthest side after before) (place c)) (length blocks)
      (block_of blocks (home side after before))))) (edges_of_sound fs ss es whole side)
      ∙ ap (λ (freqs : List ℕ). last_or (preferred side after before)
      (map (λ (c : ℕ). get_or (edges_of side ss es) c 0) (follow side freqs (λ (c : ℕ). reaches side (farthest side after before) (get_or (edges_of side ss es) c 0))
      (length blocks) (block_of blocks (home side after before))))) (frequency_column fs ss es w.firsts_long w.ends_long)
      ∙ ap (λ (n : ℕ). last_or (preferred side after before) (map (λ (c : ℕ). get_or (edges_of side ss es) c 0)
      (follow side fs (λ (c : ℕ). reaches side (farthest side after before) (get_or (edges_of side ss es) c 0)) n (block_of blocks (home side after before)))))
      (n_is fs ss es whole)
      ∙ ap (λ (x : ℕ). last_reached side fs (edges_of side ss es) (farthest side after before) (preferred side after before) x) (sym e))

-- between neighbours there is one point
pub split_neighbours : (side : Side) (blocks : List BlockRow) (after before : ℕ) → after + 1 ≡ before → before ≡ split_point side blocks after before
unfolding split_point
split_neighbours side _ after before e = sym (cond_true before _ (eq-eqb (after + 1) before e))

-- a search for the block of an instruction before the last end finds one
pub ends_inside : (ends : List ℕ) (n p : ℕ) → Ends ends n p → block_in ends n p < n
ends_inside ends n p known =
    let most = first_at_most (λ (i : ℕ). ltb p (get_or ends i 0)) n (n - 1) (lt-ltb p (get_or ends (n - 1) 0) known.before) in
    let some = known.some in
    omega (arith, most, some)
