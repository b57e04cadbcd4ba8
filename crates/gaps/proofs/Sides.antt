-- The gaps between many uses as they are stored: those left, stored into the columns as they are, give what all of them give
use mathlib.Core.Path.{◌≡◌, refl, sym, ap, ◌∙◌, subst}
use mathlib.Core.List.{List}
use Prim.Native.Nat.{ℕ, ◌+◌, ◌≤◌, ◌<◌}
use native.Mathlib.Omega.{arith}
use lib.ListN.{length, length-append}
use Rattle.columns.specs.Table.{stored_in}
use Rattle.links.specs.Blocks.{Ends}
use Rattle.links.specs.Split.{home}
use Rattle.links.specs.declared.lower.Side.{Side}
use Rattle.links.specs.declared.lower.Side.TheVariants.{Previous, Next}
use Rattle.use_rows.specs.declared.row.SplitUse.{SplitUse}
use Rattle.links.proofs.Columns.{ends_inside}
use Rattle.columns.proofs.Joining.{joined_next, from_on, from_on_end}
use Rattle.gaps.specs.Gaps.{Gap}
use Rattle.gaps.specs.Cutting.{space_of, Ordered}
use Rattle.gaps.specs.Cutting.{CutColumns, stored_gaps, CutRows}
use Rattle.gaps.proofs.StoredGaps.{stored_append, rows_stored, rows_fewer}
use Rattle.gaps.proofs.Spaces.{Same, same_itself, same_then, same_stored}

-- lists of gaps, from the first-th to before the last-th
module _ (lists : ℕ → List Gap) (first last n₀ : ℕ) (lent : CutColumns) where
  abbrev all : List Gap
  all = from_on lists last first

  pub record Siding (cols : CutColumns) (i n : ℕ) : Type 0 where
    pub from : first ≤ i
    pub used : n + length (from_on lists last i) ≡ n₀ + length all
    pub rows : CutRows (n₀ + length all) cols
    pub same : Same lent cols
    pub gives : stored_gaps n (from_on lists last i) cols ≡ stored_gaps n₀ all lent

  pub siding_starts : CutRows (n₀ + length all) lent → Siding lent first n₀
  siding_starts r = record { from = omega arith; used = refl; rows = r; same = same_itself lent; gives = refl }

  module _ (cols : CutColumns) (i n : ℕ) (k : Siding cols i n) where
    next_length : i < last → length (from_on lists last i) ≡ length (lists i) + length (from_on lists last (i + 1))
    next_length h = ap length (joined_next lists i last h) ∙ length-append (lists i) (from_on lists last (i + 1))

    -- the next list has room
    pub siding_room : i < last → CutRows (n + length (lists i)) cols
    siding_room h = let e = next_length h in let u = k.used in rows_fewer (n + length (lists i)) (n₀ + length all) cols (omega (arith, e, u)) k.rows

    -- and is stored
    pub siding_next : i < last → {cols' : CutColumns} {n' : ℕ} → (n' ≡ n + length (lists i)) × (cols' ≡ stored_gaps n (lists i) cols)
        → Siding cols' (i + 1) n'
    siding_next h {cols'} {n'} e =
        let l = next_length h in
        let u = k.used in
        let q = e.0 in
        record {
          from = omega (arith, k.from);
          used = omega (arith, l, u, q);
          rows = subst (CutRows (n₀ + length all)) (sym e.1) (rows_stored (n₀ + length all) n (lists i) cols k.rows);
          same = same_then lent cols cols' k.same (subst (Same cols) (sym e.1) (same_stored n (lists i) cols));
          gives = ap (λ (x : ℕ). stored_gaps x (from_on lists last (i + 1)) cols') q ∙ ap (stored_gaps (n + length (lists i)) (from_on lists last (i + 1))) e.1
              ∙ sym (stored_append n (lists i) (from_on lists last (i + 1)) cols)
              ∙ ap (λ (gs : List Gap). stored_gaps n gs cols) (sym (joined_next lists i last h)) ∙ k.gives;
        }

    -- none is left
    pub siding_ends : last ≤ i → (n ≡ n₀ + length all) × (cols ≡ stored_gaps n₀ all lent)
    unfolding stored_in
    siding_ends h =
        let z = from_on_end lists last i h in
        let u = k.used in
        let l : length (from_on lists last i) ≡ 0 = ap length z in (
          omega (arith, l, u),
          ap (λ (gs : List Gap). stored_gaps n gs cols) (sym z) ∙ k.gives,
        )

-- ---- the space between two uses in order: its blocks are blocks
ends_less : (ends : List ℕ) (n p q : ℕ) → q ≤ p → Ends ends n p → Ends ends n q
ends_less ends n p q h e =
    let b = e.before in let l = e.limited in record {
      some = e.some;
      few = e.few;
      searchable = e.searchable;
      before = omega (arith, h, b);
      limited =
          omega (arith, h, l);
    }

pub space_inside : (side : Side) (ends : List ℕ) (n : ℕ) (u v : SplitUse) → Ordered ends n u v → (space_of side ends n u v).block.0 < n
space_inside side ends n u v o =
    ends_inside ends n (home side u.inst.0 v.inst.0) (ends_less ends n v.inst.0 (home side u.inst.0 v.inst.0) (low side o.0) o.1)
  where
    low : (side : Side) → u.inst.0 < v.inst.0 → home side u.inst.0 v.inst.0 ≤ v.inst.0
    low Previous h = omega (arith, h)
    low Next h = omega (arith, h)
