-- The links and the use table in their six lent columns, and the best use
use Rattle.std.specs.Prelude.{◌≡◌, ℕ, List, map, Option}
use Rattle.numbers.specs.Cost.{scales_of}
use Rattle.numbers.specs.declared.costs.RematScales.{RematScales}
use Rattle.columns.specs.Table.{filled}
use Rattle.links.specs.Links.{link_column}
use Rattle.links.specs.declared.lower.Side.TheVariants.{Previous, Next}
use Rattle.use_rows.specs.Uses.{Source, use_table_of, best_use}
use Rattle.use_rows.specs.UseColumns.{UseColumns, Holds}
use Rattle.use_rows.specs.declared.row.SplitUse.{SplitUse}

-- scales that some bits give
pub record FromBits (scales : RematScales) : Type 0 where
  pub move : ℕ
  pub load : ℕ
  pub indirectly : ℕ
  pub is : scales ≡ scales_of move load indirectly

-- the best use of a job's use table
abbrev pub best_of : Source → Option ℕ
best_of job = best_use (map (λ (u : SplitUse). u.weight) (use_table_of job))

-- the columns hold the links and the use table, and past them what was there; so many rows are used, and this is the best use
pub record UsesFilled (job : Source) (freqs prevs nexts : List ℕ) (lent : UseColumns)
    (prevs-now nexts-now : List ℕ) (now : UseColumns) (rows : ℕ) (best : Option ℕ) : Type 0 where
  pub prev : prevs-now ≡ filled (link_column Previous freqs) prevs
  pub next : nexts-now ≡ filled (link_column Next freqs) nexts
  pub uses : Holds (use_table_of job) lent now rows
  pub found : best ≡ best_of job
