-- What the columns hold in the end: the lists of a checked job collected from its first instruction on, and the last rows stored, are its use table
use mathlib.Core.Path.{◌≡◌, refl, sym, subst}
use mathlib.Core.Bool.{Bool, true, false}
use mathlib.Core.List.{List}
use Prim.Native.Nat.{ℕ, ◌+◌, ◌≤◌}
use native.Mathlib.Omega.{arith}
use lib.Dec.{eqb}
use lib.ListN.{length}
use borrow.Author.Tests.{eqb-true, eqb-false}
use Rattle.columns.proofs.Tests.{cond_true, cond_false}
use Rattle.links.specs.Blocks.{blocks_of, SoundColumns}
use Rattle.use_rows.specs.Uses.{Source, seen_of, no_weights, first_inst, last_inst, use_table_of}
use Rattle.use_rows.specs.UseColumns.{UseColumns, Inside, Holds}
use Rattle.uses.specs.CheckedUses.{CheckedUses}
use Rattle.use_lists.specs.Collecting.{Collecting, counted_lists, RowsLeft, StoredUses, with_last}
use Rattle.uses.proofs.Fills.{fill_inside}
use Rattle.uses.proofs.Adding.{Stored, stored_first}
use Rattle.use_rows.proofs.Rows.{inside_less}
use Rattle.uses.proofs.OneList.{all_stored, rows_near}
use Rattle.uses.proofs.WholeTable.{whole_same, whole_later, count_same, count_later}
use Rattle.uses.proofs.CheckedJob.{job_lists, job_bounded, job_defined, job_fitting, uses_before, first_before}

module _ (job : Source) (checked : CheckedUses job) (fs ss es : List ℕ) (w : SoundColumns fs ss es) (blocks : job.blocks ≡ blocks_of fs ss es)
    (lent : UseColumns) (room : Inside (length job.uses + 1) lent) where
  abbrev collected : Collecting
  collected =
      counted_lists job.uses fs es job.segments job.codes job.scales (length job.segments)
      (record { cols = lent; rows = 0; latest = no_weights (first_inst job.segments) })

  abbrev last : ℕ
  last = last_inst job.uses job.segments

  stored : Stored (seen_of job) (first_inst job.segments) (length job.uses) lent collected
  stored =
      all_stored checked.limits job (job_lists job checked) (job_bounded job checked) (job_defined job checked) (job_fitting job checked) fs ss es
      w.firsts_long w.ends_long blocks w.sound lent
      (inside_less (length job.uses) (length job.uses + 1) lent (omega arith) room)
      (record { cols = lent; rows = 0; latest = no_weights (first_inst job.segments) }) (stored_first (seen_of job) (first_inst job.segments) lent)

  -- the latest row's instruction is no later than the last one
  within : stored.at ≤ last
  within =
      rows_near (seen_of job) (first_inst job.segments) (length job.uses) last (first_before job checked) (uses_before job checked) stored.at
      stored.pending.has

  -- there is room for the last rows
  pub last_room : RowsLeft 1 collected
  last_room =
      let f = stored.few in
      let k = stored.count in
      subst (Inside (collected.rows + 1)) (sym stored.cols)
      (fill_inside lent stored.written (inside_less (length stored.written) (length job.uses + 1) lent (omega (arith, f)) room) (collected.rows + 1)
      (inside_less (collected.rows + 1) (length job.uses + 1) lent (omega (arith, f, k)) room))

  -- with them the columns hold the table
  pub last_held : Holds (use_table_of job) lent (with_last collected last).cols (with_last collected last).rows
  unfolding with_last
  last_held = by (eqb collected.latest.inst.0 last) refl
    where
      by : (b : Bool) → eqb collected.latest.inst.0 last ≡ b → Holds (use_table_of job) lent (with_last collected last).cols (with_last collected last).rows
      by true e =
          let f = eqb-true collected.latest.inst.0 last e in
          subst (λ (x : StoredUses). Holds (use_table_of job) lent x.cols x.rows) (sym (cond_true _ _ e))
          (record {
            cols = whole_same (seen_of job) (first_inst job.segments) last (length job.uses) lent collected stored room within f;
            count =
                count_same (seen_of job) (first_inst job.segments) last (length job.uses) lent collected stored room within f;
          })
      by false e =
          let f = eqb-false collected.latest.inst.0 last e in
          subst (λ (x : StoredUses). Holds (use_table_of job) lent x.cols x.rows) (sym (cond_false _ _ e))
          (record {
            cols = whole_later (seen_of job) (first_inst job.segments) last (length job.uses) lent collected stored room within f;
            count =
                count_later (seen_of job) (first_inst job.segments) last (length job.uses) lent collected stored room within f;
          })
