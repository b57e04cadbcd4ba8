-- The text of the columns that a job's tables fill is the tables' text
use Prim.Native.Nat.{ℕ, zero, suc, ◌+◌, ◌<◌}
use mathlib.Core.Path.{◌≡◌, refl, ap, ◌∙◌}
use mathlib.Core.List.{List, [], ◌∷◌, ◌++◌, append_assoc}
use native.Mathlib.Omega.{arith}
use lib.Ieee.{Float, binary32, to_bits}
use lib.ListN.{length, get_or, drop, length-map, get_or-append}
use Rattle.columns.specs.Below.{joined}
use Rattle.sheet.specs.Sheet.{line_text}
use Rattle.numbers.specs.Weight.{zero_weight}
use Rattle.use_rows.specs.declared.row.SplitUse.{SplitUse}
use Rattle.overlaps.specs.GapSegments.{Overlap}
use Rattle.gaps.specs.Gaps.{Gap, gap_weight}
use Rattle.filling.specs.SourceTables.{Tables, WorkColumns, work_columns, FilledBy}
use Rattle.table_text.specs.TablesText.{number_in, bits_in, link_line, use_line, gap_line}
use Rattle.table_text.specs.TablesText.{gap_segment_line, columns_text, columns_of_tables, rows_of_tables, tables_text}

-- lists that are the same one by one, joined
joined_same : {A : Type 0} (f g : ℕ → List A) (i n : ℕ) → ((k : ℕ) → k < i + n → f k ≡ g k) → joined f i n ≡ joined g i n
unfolding joined
joined_same f g i zero h = refl
joined_same f g i (suc n) h = λ j. h i (omega arith) j ++ joined_same f g (suc i) n (λ k b. h k (omega arith)) j

-- a column that begins with rows has them at their places
pub record Begins {A : Type 0} (rows column : List A) : Type 0 where
  pub rest : List A
  pub is : column ≡ rows ++ rest

begins_at : {A : Type 0} {rows column : List A} → Begins rows column → (d : A) (n : ℕ) → length rows ≡ n → (k : ℕ) → k < n
    → get_or column k d ≡ get_or rows k d
begins_at {A} {rows} b d n long k h = ap (λ (x : List A). get_or x k d) b.is ∙ get_or-append rows b.rest d k (omega arith)

begins_on : {A : Type 0} {rows column : List A} (more : List A) → Begins rows column → Begins rows (column ++ more)
begins_on {A} {rows} more b =
    record { rest = b.rest ++ more; is = ap (λ (x : List A). x ++ more) b.is ∙ append_assoc rows b.rest more }

-- the columns begin with the rows of tables
pub record Begun (t : Tables) (now : WorkColumns) : Type 0 where
  pub prev : Begins (columns_of_tables t).prevs now.prevs
  pub next : Begins (columns_of_tables t).nexts now.nexts
  pub inst : Begins (columns_of_tables t).insts now.insts
  pub main : Begins (columns_of_tables t).mains now.mains
  pub left : Begins (columns_of_tables t).lefts now.lefts
  pub right : Begins (columns_of_tables t).rights now.rights
  pub from : Begins (columns_of_tables t).froms now.froms
  pub to : Begins (columns_of_tables t).tos now.tos
  pub weight : Begins (columns_of_tables t).weights now.weights
  pub live : Begins (columns_of_tables t).lives now.lives
  pub freq : Begins (columns_of_tables t).freqs now.freqs
  pub block : Begins (columns_of_tables t).blocks now.blocks
  pub segment_from : Begins (columns_of_tables t).segment_froms now.segment_froms
  pub segment_to : Begins (columns_of_tables t).segment_tos now.segment_tos
  pub segment_value : Begins (columns_of_tables t).segment_values now.segment_values
  pub segment_gap : Begins (columns_of_tables t).segment_gaps now.segment_gaps

-- so do columns that are filled, and longer columns
pub filled_begun : {t : Tables} (lent : WorkColumns) {now : WorkColumns} → FilledBy t lent now → Begun t now
filled_begun {t} lent f =
    record {
      prev = record { rest = drop (length (columns_of_tables t).prevs) lent.prevs; is = f.prev };
      next = record { rest = drop (length (columns_of_tables t).nexts) lent.nexts; is = f.next };
      inst = record { rest = drop (length (columns_of_tables t).insts) lent.insts; is = f.inst };
      main = record { rest = drop (length (columns_of_tables t).mains) lent.mains; is = f.main };
      left = record { rest = drop (length (columns_of_tables t).lefts) lent.lefts; is = f.left };
      right = record { rest = drop (length (columns_of_tables t).rights) lent.rights; is = f.right };
      from = record { rest = drop (length (columns_of_tables t).froms) lent.froms; is = f.from };
      to = record { rest = drop (length (columns_of_tables t).tos) lent.tos; is = f.to };
      weight = record { rest = drop (length (columns_of_tables t).weights) lent.weights; is = f.weight };
      live = record { rest = drop (length (columns_of_tables t).lives) lent.lives; is = f.live };
      freq = record { rest = drop (length (columns_of_tables t).freqs) lent.freqs; is = f.freq };
      block = record { rest = drop (length (columns_of_tables t).blocks) lent.blocks; is = f.block };
      segment_from = record { rest = drop (length (columns_of_tables t).segment_froms) lent.segment_froms; is = f.segment_from };
      segment_to = record { rest = drop (length (columns_of_tables t).segment_tos) lent.segment_tos; is = f.segment_to };
      segment_value = record { rest = drop (length (columns_of_tables t).segment_values) lent.segment_values; is = f.segment_value };
      segment_gap = record { rest = drop (length (columns_of_tables t).segment_gaps) lent.segment_gaps; is = f.segment_gap };
    }

abbrev pub longer : WorkColumns → WorkColumns → WorkColumns
longer now more =
    work_columns
    (now.prevs ++ more.prevs)
    (now.nexts ++ more.nexts)
    (now.insts ++ more.insts)
    (now.mains ++ more.mains)
    (now.lefts ++ more.lefts)
    (now.rights ++ more.rights)
    (now.froms ++ more.froms)
    (now.tos ++ more.tos)
    (now.weights ++ more.weights)
    (now.lives ++ more.lives)
    (now.freqs ++ more.freqs)
    (now.blocks ++ more.blocks)
    (now.segment_froms ++ more.segment_froms)
    (now.segment_tos ++ more.segment_tos)
    (now.segment_values ++ more.segment_values)
    (now.segment_gaps ++ more.segment_gaps)

pub longer_begun : {t : Tables} {now : WorkColumns} (more : WorkColumns) → Begun t now → Begun t (longer now more)
longer_begun more b =
    record {
      prev = begins_on more.prevs b.prev;
      next = begins_on more.nexts b.next;
      inst = begins_on more.insts b.inst;
      main = begins_on more.mains b.main;
      left = begins_on more.lefts b.left;
      right = begins_on more.rights b.right;
      from = begins_on more.froms b.from;
      to = begins_on more.tos b.to;
      weight = begins_on more.weights b.weight;
      live = begins_on more.lives b.live;
      freq = begins_on more.freqs b.freq;
      block = begins_on more.blocks b.block;
      segment_from = begins_on more.segment_froms b.segment_from;
      segment_to = begins_on more.segment_tos b.segment_to;
      segment_value = begins_on more.segment_values b.segment_value;
      segment_gap = begins_on more.segment_gaps b.segment_gap;
    }

-- a table's columns have as many rows
pub record Even (t : Tables) : Type 0 where
  pub links : length t.nexts ≡ length t.prevs
  pub lives : length t.lives ≡ length t.gaps

module _ {t : Tables} {now : WorkColumns} (f : Begun t now) (even : Even t) where
  number : {rows column : List ℕ} → Begins rows column → (n : ℕ) → length rows ≡ n → (k : ℕ) → k < n → number_in column k ≡ number_in rows k
  number b n l k h = begins_at b 0 n l k h

  bits : {rows column : List Float} → Begins rows column → (n : ℕ) → length rows ≡ n → (k : ℕ) → k < n → bits_in column k ≡ bits_in rows k
  bits b n l k h = ap (to_bits binary32) (begins_at b zero_weight n l k h)

  links_same : joined (link_line now.prevs now.nexts) 0 (length t.prevs) ≡ joined (link_line t.prevs t.nexts) 0 (length t.prevs)
  links_same =
      let n = length t.prevs in
      joined_same (link_line now.prevs now.nexts) (link_line t.prevs t.nexts) 0 n
      (λ k b. let h : k < n = omega arith in
      λ j. line_text 108 (number f.prev n refl k h j ∷ number f.next n even.links k h j ∷ []))

  abbrev c : WorkColumns
  c = columns_of_tables t

  uses_same : joined (use_line now.insts now.mains now.lefts now.rights) 0 (length t.uses)
      ≡ joined (use_line c.insts c.mains c.lefts c.rights) 0 (length t.uses)
  uses_same =
      let n = length t.uses in
      joined_same (use_line now.insts now.mains now.lefts now.rights) (use_line c.insts c.mains c.lefts c.rights) 0 n
      (λ k b. let h : k < n = omega arith in
      λ j. line_text 117
      (number f.inst n (length-map t.uses (λ (u : SplitUse). u.inst.0)) k h j
      ∷ bits f.main n (length-map t.uses (λ (u : SplitUse). u.weight)) k h j
      ∷ bits f.left n (length-map t.uses (λ (u : SplitUse). u.left_weight)) k h j
      ∷ bits f.right n (length-map t.uses (λ (u : SplitUse). u.right_weight)) k h j
      ∷ []))

  gaps_same : joined (gap_line now.froms now.tos now.weights now.lives now.freqs now.blocks) 0 (length t.gaps)
      ≡ joined (gap_line c.froms c.tos c.weights c.lives c.freqs c.blocks) 0 (length t.gaps)
  gaps_same =
      let n = length t.gaps in
      joined_same (gap_line now.froms now.tos now.weights now.lives now.freqs now.blocks)
      (gap_line c.froms c.tos c.weights c.lives c.freqs c.blocks) 0 n
      (λ k b. let h : k < n = omega arith in
      λ j. line_text 103
      (number f.from n (length-map t.gaps (λ (g : Gap). g.from)) k h j
      ∷ number f.to n (length-map t.gaps (λ (g : Gap). g.to)) k h j
      ∷ bits f.weight n (length-map t.gaps gap_weight) k h j
      ∷ number f.live n even.lives k h j
      ∷ bits f.freq n (length-map t.gaps (λ (g : Gap). g.freq)) k h j
      ∷ number f.block n (length-map t.gaps (λ (g : Gap). g.block)) k h j
      ∷ []))

  segments_same : joined (gap_segment_line now.segment_froms now.segment_tos now.segment_values now.segment_gaps) 0 (length t.segments)
      ≡ joined (gap_segment_line c.segment_froms c.segment_tos c.segment_values c.segment_gaps) 0 (length t.segments)
  segments_same =
      let n = length t.segments in
      joined_same (gap_segment_line now.segment_froms now.segment_tos now.segment_values now.segment_gaps)
      (gap_segment_line c.segment_froms c.segment_tos c.segment_values c.segment_gaps) 0 n
      (λ k b. let h : k < n = omega arith in
      λ j. line_text 111
      (number f.segment_from n (length-map t.segments (λ (s : Overlap). s.from)) k h j
      ∷ number f.segment_to n (length-map t.segments (λ (s : Overlap). s.to)) k h j
      ∷ number f.segment_value n (length-map t.segments (λ (s : Overlap). s.value)) k h j
      ∷ number f.segment_gap n (length-map t.segments (λ (s : Overlap). s.gap)) k h j
      ∷ []))

  pub begun_text : columns_text now (rows_of_tables t) ≡ tables_text t
  begun_text = λ j. links_same j ++ uses_same j ++ gaps_same j ++ segments_same j

-- columns that tables fill
pub filled_text : {t : Tables} (lent : WorkColumns) {now : WorkColumns} → FilledBy t lent now → Even t → columns_text now (rows_of_tables t) ≡ tables_text t
filled_text lent f even = begun_text (filled_begun lent f) even
