-- A refused job leaves each lent column as it was
use Rattle.std.specs.Prelude.{Ok}
use mathlib.Core.Path.{◌≡◌, refl, sym, ap, ◌∙◌, subst}
use Prim.Native.Nat.{ℕ}
use native.Mathlib.Omega.{arith}
use Rattle.links.specs.declared.blocks.Refusal.{Refusal}
use Rattle.filling.specs.UseTables.{best_of}
use Rattle.refusals.specs.Job.{Job, source_of_job}
use Rattle.rooms.specs.Rooms.{refusal_of}
use Rattle.proposer.specs.Answer.{IsProposed}
use Rattle.tables.specs.JobTables.{if_accepted, no_tables}
use Rattle.filling.specs.SourceTables.{Tables, tables_of_best, WorkColumns, rooms_of, FilledBy}
use Rattle.outcome.specs.Outcome.{refused, numbered}
use Rattle.outcome.specs.declared.grow.Proposed.{Proposed}
use Rattle.proposer.proofs.Answered.{refused_said}
use Rattle.links.specs.Blocks.{Checked}
use Rattle.std.specs.Prelude.{Err}

-- a refused job has no rows
refused_tables : (job : Job) (c : Checked) (x : Refusal) → c ≡ Err x
    → if_accepted c (tables_of_best (source_of_job job) (best_of (source_of_job job))) no_tables ≡ no_tables
refused_tables job (Err q) x e = refl
refused_tables job (Ok u) x e = absurd (let z : ◌≡◌ {A = ℕ} 0 1 = cc in omega arith)

-- columns in which no row is filled are as they were lent
none_filled : (lent now : WorkColumns) → FilledBy no_tables lent now → now ≡ lent
none_filled lent now f =
    λ i. record {
      prevs = f.prev i;
      nexts = f.next i;
      insts = f.inst i;
      mains = f.main i;
      lefts = f.left i;
      rights = f.right i;
      froms = f.from i;
      tos = f.to i;
      weights = f.weight i;
      lives = f.live i;
      freqs = f.freq i;
      blocks = f.block i;
      segment_froms = f.segment_from i;
      segment_tos = f.segment_to i;
      segment_values = f.segment_value i;
      segment_gaps = f.segment_gap i;
    }

-- a refused job leaves each lent column as it was
pub refused_kept : (job : Job) (lent now : WorkColumns) (r : Proposed) (n p : ℕ) → IsProposed job lent now r → numbered r.answer ≡ refused n p → now ≡ lent
refused_kept job lent now r n p given e =
    none_filled lent now
    (subst (λ (t : Tables). FilledBy t lent now)
    (refused_tables job (refusal_of job (rooms_of lent)) (record { number = n; place = p })
    (refused_said job (rooms_of lent) n p (ap numbered (sym given.answer) ∙ e))) given.tables)
