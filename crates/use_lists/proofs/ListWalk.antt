-- The uses of one list added one by one: each takes at most one row, and no column changes its length
use mathlib.Core.Path.{◌≡◌, refl, sym, ap, ◌∙◌, subst}
use mathlib.Core.List.{List}
use Prim.Native.Nat.{ℕ, zero, suc, ◌+◌, ◌-◌, ◌≤◌, ◌<◌, zero-le}
use native.Mathlib.Omega.{arith}
use native.Mathlib.Numerals.{add-one}
use lib.Dec.{ltb, eqb}
use lib.Ieee.{Float, eq}
use lib.ListN.{length, get_or, length-set}
use Rattle.numbers.specs.Weight.{zero_weight}
use Rattle.numbers.specs.Cost.{reload_cost, move_cost, spill_cost, scaled}
use Rattle.numbers.specs.declared.costs.RematScales.{RematScales}
use Rattle.columns.proofs.Tests.{cond_both}
use Rattle.jobs.specs.Rows.{no_use, no_segment}
use Rattle.columns.specs.Table.{row_before}
use Rattle.jobs.specs.Lines.{Lists}
use Rattle.jobs.specs.declared.rows.Use.{Use}
use Rattle.jobs.proofs.Walk.{before_next}
use Rattle.use_rows.proofs.Rows.{inside_less}
use Rattle.jobs.specs.declared.rows.Segment.{Segment}
use Rattle.use_rows.specs.declared.row.Part.{Part}
use Rattle.use_rows.specs.declared.row.SplitUse.{SplitUse}
use Rattle.use_rows.specs.Uses.{no_weights, added_to_row, part_of}
use Rattle.use_rows.specs.UseColumns.{UseColumns, with_use, use_in}
use Rattle.use_lists.specs.Steps.{block_in_use}
use Rattle.use_lists.specs.Collecting.{Collecting, is_stored, added_before, added, weight_in, counted, counted_list, counted_lists, RowsLeft}

-- the same lengths
pub record Long (a b : UseColumns) : Type 0 where
  pub insts : length b.insts ≡ length a.insts
  pub mains : length b.mains ≡ length a.mains
  pub lefts : length b.lefts ≡ length a.lefts
  pub rights : length b.rights ≡ length a.rights

-- the same lengths, and at most one row more
record Grown (c d : Collecting) : Type 0 where
  long : Long c.cols d.cols
  rows : d.rows ≤ c.rows + 1

long_same : (a : UseColumns) → Long a a
long_same a = record { insts = refl; mains = refl; lefts = refl; rights = refl }

long_with : (a : UseColumns) (at : ℕ) (u : SplitUse) → Long a (with_use a at u)
long_with a at u =
    record {
      insts = length-set a.insts at u.inst.0;
      mains = length-set a.mains at u.weight;
      lefts = length-set a.lefts at u.left_weight;
      rights = length-set a.rights at u.right_weight;
    }

grown_added : (c : Collecting) (p : ℕ) (t : Part) (w : Float) → Grown c (added c p t w)
unfolding added added_before
grown_added c p t w =
    cond_both (Grown c) (ltb p c.latest.inst.0) _ _
    (λ _. cond_both (Grown c) (is_stored c.cols.insts c.rows p) _ _
    (λ _. record { long = long_with c.cols (c.rows - 1) (added_to_row (use_in c.cols (c.rows - 1)) t w); rows = omega arith })
    (λ _. record { long = long_with c.cols c.rows (added_to_row (no_weights p) t w); rows = omega arith }))
    (λ _. cond_both (Grown c) (eqb p c.latest.inst.0) _ _ (λ _. record { long = long_same c.cols; rows = omega arith })
    (λ _. record { long = long_with c.cols c.rows c.latest; rows = omega arith }))

grown_counted : (freqs : List ℕ) (s : Segment) (p b : ℕ) (cost : Float) (c : Collecting) → Grown c (counted freqs s p b cost c)
unfolding counted
grown_counted freqs s p b cost c =
    cond_both (Grown c) (eq cost zero_weight) _ _ (λ _. record { long = long_same c.cols; rows = omega arith })
    (λ _. grown_added c p (part_of s p) (weight_in freqs cost b))

-- ---- after the uses of a list up to use i
module _ (uses : List Use) (freqs ends : List ℕ) (s : Segment) (code : ℕ) (scales : RematScales) where
  pub record Along (lent : Collecting) (i : ℕ) (c : Collecting) : Type 0 where
    pub from : s.first_use ≤ i
    pub to : i ≤ s.end_use
    pub sofar : c ≡ counted_list uses freqs ends s code scales (i - s.first_use) lent
    pub room : RowsLeft (s.end_use - i) c
    pub long : Long lent.cols c.cols

  pub along_first : (lent : Collecting) → s.first_use ≤ s.end_use → RowsLeft (s.end_use - s.first_use) lent → Along lent s.first_use lent
  unfolding counted_list
  along_first lent h room =
      record {
        from = omega arith;
        to = h;
        sofar = ap (λ (n : ℕ). counted_list uses freqs ends s code scales n lent) (none s.first_use);
        room = room;
        long = long_same lent.cols;
      }
    where
      none : (x : ℕ) → 0 ≡ x - x
      none x = omega arith

  -- use i, and its block
  abbrev use_at : ℕ → Use
  use_at i = get_or uses i no_use

  abbrev block_at : ℕ → ℕ
  block_at = block_in_use ends (length freqs) uses

  pub along_next : (lent : Collecting) (i : ℕ) (c d : Collecting) → i < s.end_use → Along lent i c
      → d ≡ counted freqs s (use_at i).position (block_at i) (scaled code scales (spill_cost reload_cost move_cost (use_at i).kind (use_at i).cost)) c
      → Along lent (i + 1) d
  unfolding counted_list
  along_next lent i c d h known e =
      record {
        from = let f = known.from in omega (arith, f);
        to = omega (arith, h);
        sofar = whole;
        room = subst (RowsLeft (s.end_use - (i + 1))) (sym e) (less (grown_counted freqs s (use_at i).position (block_at i) cost c));
        long = subst (λ (x : Collecting). Long lent.cols x.cols) (sym e) (longer (grown_counted freqs s (use_at i).position (block_at i) cost c).long);
      }
    where
      cost : Float
      cost = scaled code scales (spill_cost reload_cost move_cost (use_at i).kind (use_at i).cost)

      before : ℕ
      before = i - s.first_use

      whole : d ≡ counted_list uses freqs ends s code scales (i + 1 - s.first_use) lent
      whole =
          let f = known.from in
          let here : i ≡ s.first_use + (i - s.first_use) = omega (arith, f) in
          let more : suc (i - s.first_use) ≡ i + 1 - s.first_use = omega (arith, f) in
          e
          ∙ ap (counted freqs s (use_at i).position (block_at i) cost) known.sofar
          ∙ ap (λ (j : ℕ). counted freqs s (use_at j).position (block_at j) (scaled code scales (spill_cost reload_cost move_cost (use_at j).kind (use_at j).cost))
          (counted_list uses freqs ends s code scales (i - s.first_use) lent)) here
          ∙ ap (λ (n : ℕ). counted_list uses freqs ends s code scales n lent) more

      less : {x : Collecting} → Grown c x → RowsLeft (s.end_use - (i + 1)) x
      less {x} g =
          let r = g.rows in
          record {
            inst = let a = known.room.inst in let l = g.long.insts in omega (arith, a, l, r, h);
            main = let a = known.room.main in let l = g.long.mains in omega (arith, a, l, r, h);
            left = let a = known.room.left in let l = g.long.lefts in omega (arith, a, l, r, h);
            right = let a = known.room.right in let l = g.long.rights in omega (arith, a, l, r, h);
          }

      longer : {x : UseColumns} → Long c.cols x → Long lent.cols x
      longer {x} l =
          record {
            insts = l.insts ∙ known.long.insts;
            mains = l.mains ∙ known.long.mains;
            lefts = l.lefts ∙ known.long.lefts;
            rights = l.rights
                ∙ known.long.rights;
          }

-- what a list of k uses takes
grown_list : (uses : List Use) (freqs ends : List ℕ) (s : Segment) (code : ℕ) (scales : RematScales) (k : ℕ) (c : Collecting)
    → Long c.cols (counted_list uses freqs ends s code scales k c).cols × ((counted_list uses freqs ends s code scales k c).rows ≤ c.rows + k)
unfolding counted_list
grown_list uses freqs ends s code scales zero c = (long_same c.cols, omega arith)
grown_list uses freqs ends s code scales (suc k) c =
    let before = grown_list uses freqs ends s code scales k c in
    let one = grown_counted freqs s (get_or uses (s.first_use + k) no_use).position (block_in_use ends (length freqs) uses (s.first_use + k))
    (scaled code scales (spill_cost reload_cost move_cost (get_or uses (s.first_use + k) no_use).kind (get_or uses (s.first_use + k) no_use).cost))
    (counted_list uses freqs ends s code scales k c) in
    let r = before.1 in
    let m = one.rows in (
      record {
        insts = one.long.insts ∙ before.0.insts;
        mains = one.long.mains ∙ before.0.mains;
        lefts = one.long.lefts ∙ before.0.lefts;
        rights =
            one.long.rights ∙ before.0.rights;
      },
      omega (arith, r, m),
    )

-- ---- after the lists of i segments
module _ (uses : List Use) (freqs ends : List ℕ) (segments : List Segment) (codes : List ℕ) (scales : RematScales) where
  pub record AlongAll (lent : Collecting) (i : ℕ) (c : Collecting) : Type 0 where
    pub to : i ≤ length segments
    pub sofar : c ≡ counted_lists uses freqs ends segments codes scales i lent
    pub room : RowsLeft (length uses - (row_before segments no_segment i).end_use) c
    pub long : Long lent.cols c.cols

  pub along_all_first : (lent : Collecting) → RowsLeft (length uses) lent → AlongAll lent 0 lent
  unfolding counted_lists
  along_all_first lent room =
      record { to = zero-le; sofar = refl; room = subst (λ (n : ℕ). RowsLeft n lent) (all (length uses)) room; long = long_same lent.cols }
    where
      all : (x : ℕ) → x ≡ x - 0
      all x = omega arith

-- of lists that follow one another
module _ (uses : List Use) (freqs ends : List ℕ) (segments : List Segment) (codes : List ℕ) (scales : RematScales) (lists : Lists (length uses) segments) where
  abbrev seg : ℕ → Segment
  seg i = get_or segments i no_segment

  -- a list begins where the one before ended, and has room
  pub list_room : (lent : Collecting) (i : ℕ) (c : Collecting) → i < length segments → AlongAll uses freqs ends segments codes scales lent i c
      → RowsLeft ((seg i).end_use - (seg i).first_use) c
  list_room lent i c h known =
      inside_less _ _ c.cols (let f = lists.follows i h in let g = lists.inside i h in let o = lists.forward i h in omega (arith, f, g, o)) known.room

  pub along_all_next : (lent : Collecting) (i : ℕ) (c d : Collecting) → i < length segments → AlongAll uses freqs ends segments codes scales lent i c
      → d ≡ counted_list uses freqs ends (seg i) (get_or codes (seg i).value 0) scales ((seg i).end_use - (seg i).first_use) c
      → AlongAll uses freqs ends segments codes scales lent (i + 1) d
  unfolding counted_lists
  along_all_next lent i c d h known e =
      record {
        to = omega (arith, h);
        sofar =
            e
            ∙ ap (counted_list uses freqs ends (seg i) (get_or codes (seg i).value 0) scales ((seg i).end_use - (seg i).first_use)) known.sofar
            ∙ ap (λ (n : ℕ). counted_lists uses freqs ends segments codes scales n lent) (sym (add-one i));
        room =
            subst (λ (x : Segment). RowsLeft (length uses - x.end_use) d) (before_next segments no_segment i)
            (subst (RowsLeft (length uses - (seg i).end_use)) (sym e)
            (less (counted_list uses freqs ends (seg i) (get_or codes (seg i).value 0) scales ((seg i).end_use - (seg i).first_use) c)
            (grown_list uses freqs ends (seg i) (get_or codes (seg i).value 0) scales ((seg i).end_use - (seg i).first_use) c)));
        long =
            subst (λ (x : Collecting). Long lent.cols x.cols) (sym e)
            (longer (grown_list uses freqs ends (seg i) (get_or codes (seg i).value 0) scales ((seg i).end_use - (seg i).first_use) c).0);
      }
    where
      less : (x : Collecting) → Long c.cols x.cols × (x.rows ≤ c.rows + ((seg i).end_use - (seg i).first_use))
          → RowsLeft (length uses - (seg i).end_use) x
      less x g =
          let r = g.1 in
          let f = lists.follows i h in
          let n = lists.inside i h in
          let o = lists.forward i h in
          record {
            inst = let a = known.room.inst in let l = g.0.insts in omega (arith, a, l, r, f, n, o);
            main = let a = known.room.main in let l = g.0.mains in omega (arith, a, l, r, f, n, o);
            left = let a = known.room.left in let l = g.0.lefts in omega (arith, a, l, r, f, n, o);
            right = let a = known.room.right in let l = g.0.rights in omega (arith, a, l, r, f, n, o);
          }

      longer : {x : UseColumns} → Long c.cols x → Long lent.cols x
      longer {x} l =
          record {
            insts = l.insts ∙ known.long.insts;
            mains = l.mains ∙ known.long.mains;
            lefts = l.lefts ∙ known.long.lefts;
            rights = l.rights
                ∙ known.long.rights;
          }
