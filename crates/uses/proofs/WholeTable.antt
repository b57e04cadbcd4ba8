-- The whole use table: with the latest row stored, and the last instruction's behind it where that comes later, the columns hold it
use mathlib.Core.Path.{◌≡◌, sym, ap, ap₂, ◌∙◌}
use mathlib.Core.List.{List, [], ◌∷◌, ◌++◌, append_assoc}
use Prim.Native.Nat.{ℕ, ◌+◌, ◌≤◌, ◌<◌}
use native.Mathlib.Nat.{le_antisymm}
use native.Mathlib.Omega.{arith}
use mathlib.Core.Logic.{◌⊎◌, inl, inr}
use lib.ListN.{length, length-append}
use Rattle.use_rows.specs.declared.row.SplitUse.{SplitUse}
use Rattle.use_rows.specs.Uses.{Seen, no_weights, use_table}
use Rattle.use_rows.specs.UseColumns.{UseColumns, Inside, with_use, filled_with}
use Rattle.use_lists.specs.Collecting.{Collecting}
use Rattle.uses.proofs.Pending.{pending_end, pending_end_later}
use Rattle.uses.proofs.Fills.{fill_more}
use Rattle.uses.proofs.Adding.{Stored, one_more, latest_at}
use Rattle.use_rows.proofs.Rows.{inside_less}
use Rattle.columns.proofs.Firsts.{split}

module _ (seen : Seen) (first last n : ℕ) (lent : UseColumns) (c : Collecting) (known : Stored seen first n lent c) (room : Inside (n + 1) lent)
    (within : known.at ≤ last) where
  abbrev latest_is : c.latest.inst.0 ≡ known.at
  latest_is = latest_at seen first lent n c known

  -- the latest row stored
  latest_stored : with_use c.cols c.rows c.latest ≡ filled_with (known.written ++ (c.latest ∷ [])) lent
  latest_stored =
      ap₂ (λ (x : UseColumns) (k : ℕ). with_use x k c.latest) known.cols known.count
      ∙ fill_more lent known.written (inside_less (length known.written) (n + 1) lent (let f = known.few in omega (arith, f)) room) c.latest

  -- it is the last instruction's
  pub whole_same : c.latest.inst.0 ≡ last → with_use c.cols c.rows c.latest ≡ filled_with (use_table seen n first last) lent
  whole_same e =
      latest_stored ∙ ap (λ (r : List SplitUse). filled_with r lent)
      (pending_end seen first n known.at known.written c.latest known.pending last (sym latest_is ∙ e))

  pub count_same : c.latest.inst.0 ≡ last → c.rows + 1 ≡ length (use_table seen n first last)
  count_same e =
      let k = known.count in
      let m = one_more known.written c.latest in
      let whole = ap length (pending_end seen first n known.at known.written c.latest known.pending last (sym latest_is ∙ e)) in
      omega (arith, k, m, whole)

  -- it isn't: that one is stored behind it
  later : (c.latest.inst.0 ≡ last → ⊥) → known.at < last
  later e = by (split known.at last)
    where
      by : (known.at < last) ⊎ (last ≤ known.at) → known.at < last
      by (inl h) = h
      by (inr h) = absurd (e (latest_is ∙ le_antisymm within h))

  pub whole_later : (c.latest.inst.0 ≡ last → ⊥) → with_use (with_use c.cols c.rows c.latest) (c.rows + 1) (no_weights last)
      ≡ filled_with (use_table seen n first last) lent
  whole_later e =
      let k = known.count in
      let m = one_more known.written c.latest in
      ap₂ (λ (x : UseColumns) (j : ℕ). with_use x j (no_weights last)) latest_stored (omega (arith, k, m))
      ∙ fill_more lent (known.written ++ (c.latest ∷ [])) (inside_less (length (known.written ++ (c.latest ∷ []))) (n + 1) lent
      (let f = known.few in omega (arith, f, m)) room) (no_weights last)
      ∙ ap (λ (r : List SplitUse). filled_with r lent) (append_assoc known.written (c.latest ∷ []) (no_weights last ∷ [])
      ∙ pending_end_later seen first n known.at known.written c.latest known.pending last (later e))

  pub count_later : (c.latest.inst.0 ≡ last → ⊥) → c.rows + 2 ≡ length (use_table seen n first last)
  count_later e =
      let k = known.count in
      let m = length-append known.written (c.latest ∷ no_weights last ∷ []) in
      let whole = ap length (pending_end_later seen first n known.at known.written c.latest known.pending last (later e)) in
      omega (arith, k, m, whole)
