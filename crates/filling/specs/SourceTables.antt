-- The work tables of a job that has passed its checks: their rows, and the sixteen lent columns
use Rattle.std.specs.Prelude.{◌≡◌, ℕ, ◌+◌, ◌≤◌, List, [], ◌∷◌, map, Float, length, Option, Some, None}
use Rattle.columns.specs.Table.{shortest, filled}
use Rattle.numbers.specs.declared.costs.RematScales.{RematScales}
use Rattle.links.specs.Blocks.{BlockRow, blocks_of}
use Rattle.links.specs.Links.{link_column}
use Rattle.links.specs.declared.lower.Side.TheVariants.{Previous, Next}
use Rattle.jobs.specs.Rows.{segments_of, uses_of}
use Rattle.jobs.specs.declared.rows.Segment.{Segment}
use Rattle.use_rows.specs.Uses.{Source, source_of, use_table_of}
use Rattle.use_rows.specs.declared.row.SplitUse.{SplitUse}
use Rattle.overlaps.specs.GapSegments.{Overlap, SegmentColumns, segment_columns}
use Rattle.gaps.specs.Gaps.{Gap, gap_weight, gaps_of}
use Rattle.gaps.specs.GapColumns.{froms_of, tos_of, lives_of, min_freqs_of, gap_blocks_of, gap_segments_of, GapColumns, gap_columns}
use Rattle.filling.specs.declared.lent.Rooms.{Rooms}

-- the thirteen columns that the work tables are made of, table by table: B (3), V (1), S (6), U (3)
pub record SourceColumns : Type 0 where
  pub freqs : List ℕ
  pub firsts : List ℕ
  pub ends : List ℕ
  pub codes : List ℕ
  pub starts : List ℕ
  pub stops : List ℕ
  pub values : List ℕ
  pub first_uses : List ℕ
  pub end_uses : List ℕ
  pub flags : List ℕ
  pub positions : List ℕ
  pub kinds : List ℕ
  pub costs : List ℕ

-- the thirteen as one
abbrev pub source_columns : List ℕ → List ℕ → List ℕ → List ℕ → List ℕ → List ℕ → List ℕ → List ℕ → List ℕ → List ℕ → List ℕ → List ℕ → List ℕ → SourceColumns
source_columns freqs firsts ends codes starts stops values first-uses end-uses flags positions kinds costs =
    record {
      freqs = freqs;
      firsts = firsts;
      ends = ends;
      codes = codes;
      starts = starts;
      stops = stops;
      values = values;
      first_uses = first-uses;
      end_uses = end-uses;
      flags = flags;
      positions = positions;
      kinds = kinds;
      costs = costs;
    }

-- the blocks, segments and uses that they hold
abbrev pub blocks_in : SourceColumns → List BlockRow
blocks_in c = blocks_of c.freqs c.firsts c.ends

abbrev pub source_in : SourceColumns → RematScales → Source
source_in c scales =
    source_of (uses_of c.positions c.kinds c.costs)
    (segments_of c.starts c.stops c.values c.first_uses c.end_uses c.flags) c.codes scales (blocks_in c)

-- the starts, ends and values of the segments
abbrev pub starts_of : Source → List ℕ
starts_of source = map (λ (s : Segment). s.start) source.segments

abbrev pub stops_of : Source → List ℕ
stops_of source = map (λ (s : Segment). s.end) source.segments

abbrev pub values_of : Source → List ℕ
values_of source = map (λ (s : Segment). s.value) source.segments

-- the gaps around a best use, their live instructions and their gap segments
abbrev pub gaps_from : Source → ℕ → List Gap
gaps_from source best = gaps_of source.blocks (use_table_of source) best

abbrev pub lives_from : Source → ℕ → List ℕ
lives_from source best = lives_of (gaps_from source best) (starts_of source) (stops_of source)

abbrev pub segments_from : Source → ℕ → List Overlap
segments_from source best = gap_segments_of (gaps_from source best) (starts_of source) (stops_of source) (values_of source)

-- the frequencies of the blocks
abbrev pub freqs_of : Source → List ℕ
freqs_of source = map (λ (b : BlockRow). b.frequency) source.blocks

-- the rows of the work tables
pub record Tables : Type 0 where
  pub prevs : List ℕ
  pub nexts : List ℕ
  pub uses : List SplitUse
  pub gaps : List Gap
  pub lives : List ℕ
  pub segments : List Overlap

-- with a best use all tables have rows, without one only links and the use table
abbrev pub tables_of_best : Source → Option ℕ → Tables
tables_of_best source (Some best) =
    record {
      prevs = link_column Previous (freqs_of source);
      nexts = link_column Next (freqs_of source);
      uses = use_table_of source;
      gaps = gaps_from source best;
      lives = lives_from source best;
      segments = segments_from source best;
    }
tables_of_best source None =
    record {
      prevs = link_column Previous (freqs_of source);
      nexts = link_column Next (freqs_of source);
      uses = use_table_of source;
      gaps = [];
      lives = [];
      segments = [];
    }

-- the sixteen lent columns
pub record WorkColumns : Type 0 where
  pub prevs : List ℕ
  pub nexts : List ℕ
  pub insts : List ℕ
  pub mains : List Float
  pub lefts : List Float
  pub rights : List Float
  pub froms : List ℕ
  pub tos : List ℕ
  pub weights : List Float
  pub lives : List ℕ
  pub freqs : List Float
  pub blocks : List ℕ
  pub segment_froms : List ℕ
  pub segment_tos : List ℕ
  pub segment_values : List ℕ
  pub segment_gaps : List ℕ

-- the sixteen as one
abbrev pub work_columns : List ℕ → List ℕ → List ℕ → List Float → List Float → List Float
    → List ℕ → List ℕ → List Float → List ℕ → List Float → List ℕ → List ℕ → List ℕ → List ℕ → List ℕ → WorkColumns
work_columns prevs nexts insts mains lefts rights froms tos weights lives freqs blocks segment_froms segment_tos segment_values segment_gaps =
    record {
      prevs = prevs;
      nexts = nexts;
      insts = insts;
      mains = mains;
      lefts = lefts;
      rights = rights;
      froms = froms;
      tos = tos;
      weights = weights;
      lives = lives;
      freqs = freqs;
      blocks = blocks;
      segment_froms = segment_froms;
      segment_tos = segment_tos;
      segment_values = segment_values;
      segment_gaps = segment_gaps;
    }

-- of them the gap table's, and those of the gap segments with so many rows used
abbrev pub gap_table : WorkColumns → GapColumns
gap_table c = gap_columns c.froms c.tos c.weights c.lives c.freqs c.blocks

abbrev pub segment_table : WorkColumns → ℕ → SegmentColumns
segment_table c used = segment_columns c.segment_froms c.segment_tos c.segment_values c.segment_gaps used

-- a table has as many rows as its shortest column
abbrev pub rooms_of : WorkColumns → Rooms
rooms_of c =
    record {
      uses = shortest (length c.insts ∷ length c.mains ∷ length c.lefts ∷ length c.rights ∷ []);
      gaps = shortest (length c.froms ∷ length c.tos ∷ length c.weights ∷ length c.lives ∷ length c.freqs ∷ length c.blocks ∷ []);
      gap_segments = shortest (length c.segment_froms ∷ length c.segment_tos ∷ length c.segment_values ∷ length c.segment_gaps ∷ []);
      links = shortest (length c.prevs ∷ length c.nexts ∷ []);
    }

-- the rows that filling asks for, of so many uses, blocks and segments
pub record Roomy (u b s : ℕ) (r : Rooms) : Type 0 where
  pub uses : u + 2 ≤ r.uses
  pub gaps : u + b + 2 ≤ r.gaps
  pub gap_segments : u + b + s + 2 ≤ r.gap_segments
  pub links : b ≤ r.links

-- the columns hold the rows from their first on, and past them what was there
pub record FilledBy (t : Tables) (lent now : WorkColumns) : Type 0 where
  pub prev : now.prevs ≡ filled t.prevs lent.prevs
  pub next : now.nexts ≡ filled t.nexts lent.nexts
  pub inst : now.insts ≡ filled (map (λ (u : SplitUse). u.inst.0) t.uses) lent.insts
  pub main : now.mains ≡ filled (map (λ (u : SplitUse). u.weight) t.uses) lent.mains
  pub left : now.lefts ≡ filled (map (λ (u : SplitUse). u.left_weight) t.uses) lent.lefts
  pub right : now.rights ≡ filled (map (λ (u : SplitUse). u.right_weight) t.uses) lent.rights
  pub from : now.froms ≡ filled (froms_of t.gaps) lent.froms
  pub to : now.tos ≡ filled (tos_of t.gaps) lent.tos
  pub weight : now.weights ≡ filled (map gap_weight t.gaps) lent.weights
  pub live : now.lives ≡ filled t.lives lent.lives
  pub freq : now.freqs ≡ filled (min_freqs_of t.gaps) lent.freqs
  pub block : now.blocks ≡ filled (gap_blocks_of t.gaps) lent.blocks
  pub segment_from : now.segment_froms ≡ filled (map (λ (s : Overlap). s.from) t.segments) lent.segment_froms
  pub segment_to : now.segment_tos ≡ filled (map (λ (s : Overlap). s.to) t.segments) lent.segment_tos
  pub segment_value : now.segment_values ≡ filled (map (λ (s : Overlap). s.value) t.segments) lent.segment_values
  pub segment_gap : now.segment_gaps ≡ filled (map (λ (s : Overlap). s.gap) t.segments) lent.segment_gaps
