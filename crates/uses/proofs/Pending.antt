-- The use table as it is collected: all rows but the latest are written, and one more use makes one step
use mathlib.Core.Path.{◌≡◌, refl, sym, ap, ap₂, ◌∙◌, subst}
use mathlib.Core.Bool.{Bool, true, false, ◌||◌, cond}
use mathlib.Core.List.{List, [], ◌∷◌, ◌++◌, append-nil}
use Prim.Native.Nat.{ℕ, zero, suc, ◌+◌, ◌-◌, ◌≤◌, ◌<◌}
use native.Mathlib.Nat.{le_refl, lt_irrefl}
use native.Mathlib.Omega.{arith}
use lib.Dec.{eqb}
use borrow.Author.Tests.{eq-eqb, ne_eqb}
use Rattle.numbers.specs.declared.Inst.{Inst}
use lib.Ieee.{Float}
use Rattle.use_rows.specs.declared.row.Part.{Part}
use Rattle.use_rows.specs.declared.row.Part.TheVariants as Part·is
use Rattle.use_rows.specs.declared.row.SplitUse.{SplitUse}
use Rattle.use_rows.specs.Uses.{no_weights, added_to_row, Seen, counts_at, carries, split_use, has_row, rows_from, use_table}
use Rattle.jobs.proofs.Sound.{or_parts}
use Rattle.uses.proofs.UseRows.{skipped_carries, skipped_row, other_carries, other_row, own_carries, own_row, row_none, rows_split, rows_none, rows_one}
use Rattle.uses.proofs.UseRows.{rows_same, or_all}

-- n uses are seen: the rows before instruction p are written, `latest` is the row of p, and none is after it
pub record Pending (seen : Seen) (first n p : ℕ) (written : List SplitUse) (latest : SplitUse) : Type 0 where
  pub from : first ≤ p
  pub rows : written ≡ rows_from seen n first first first (p - first)
  pub row : latest ≡ split_use seen n p
  pub has : has_row seen n first first p ≡ true
  pub none : (q : ℕ) → p < q → has_row seen n first first q ≡ false

module _ (seen : Seen) (first : ℕ) where
  rows_to : ℕ → ℕ → List SplitUse
  rows_to n p = rows_from seen n first first first (p - first)

  -- before any use there is the first instruction's row
  pub pending_first : Pending seen first 0 first [] (no_weights first)
  unfolding split_use carries rows_from
  pending_first =
      record {
        from = le_refl first;
        rows = ap (rows_from seen 0 first first first) (nothing first);
        row = refl;
        has = start first;
        none = λ q h. later q (ne_eqb q first (λ e. lt_irrefl q (subst (λ (x : ℕ). x < q) (sym e) h)));
      }
    where
      nothing : (x : ℕ) → 0 ≡ x - x
      nothing x = omega arith

      start : (x : ℕ) → (eqb x x || eqb x x || false) ≡ true
      start x = rw (eq-eqb x x refl)

      later : (q : ℕ) → eqb q first ≡ false → (eqb q first || eqb q first || false) ≡ false
      later q e = rw e

  -- a use that does not count changes nothing
  module _ (n p : ℕ) (written : List SplitUse) (latest : SplitUse) (known : Pending seen first n p written latest) where
    pub pending_skipped : seen.counts n ≡ false → Pending seen first (suc n) p written latest
    pending_skipped e =
        record {
          from = known.from;
          rows = known.rows ∙ rows_same seen n (suc n) first first first first first (p - first) (λ q a b. (sym (has_same q), sym (skipped_row seen n e q)));
          row = known.row ∙ sym (skipped_row seen n e p);
          has = has_same p ∙ known.has;
          none = λ q h. has_same q ∙ known.none q h;
        }
      where
        has_same : (q : ℕ) → has_row seen (suc n) first first q ≡ has_row seen n first first q
        has_same q = ap (λ (b : Bool). eqb q first || eqb q first || b) (skipped_carries seen n e q)

    -- one that counts
    module _ (counted : seen.counts n ≡ true) where
      -- leaves the rows of other instructions
      other_has : (q : ℕ) → (seen.inst n ≡ q → ⊥) → has_row seen (suc n) first first q ≡ has_row seen n first first q
      other_has q e = ap (λ (b : Bool). eqb q first || eqb q first || b) (other_carries seen n q e)

      own_has : has_row seen (suc n) first first (seen.inst n) ≡ true
      own_has = or_all (eqb (seen.inst n) first || eqb (seen.inst n) first) (carries seen (suc n) (seen.inst n)) (own_carries seen n counted)

      others : (q c : ℕ) → ((x : ℕ) → q ≤ x → x < q + c → seen.inst n ≡ x → ⊥) → rows_from seen n first first q c ≡ rows_from seen (suc n) first first q c
      others q c h = rows_same seen n (suc n) first first first first q c (λ x a b. (sym (other_has x (h x a b)), sym (other_row seen n x (h x a b))))

      -- at the latest row's instruction: its weight is added there
      pub pending_same : seen.inst n ≡ p → Pending seen first (suc n) p written (added_to_row latest (seen.part n) (seen.weight n))
      pending_same e =
          record {
            from = known.from;
            rows = known.rows ∙ others first (p - first) (λ x a b f. let g = e in let h = known.from in omega (arith, a, b, f, g, h));
            row =
                ap (λ (u : SplitUse). added_to_row u (seen.part n) (seen.weight n)) (known.row ∙ ap (split_use seen n) (sym e))
                ∙ sym (own_row seen n counted)
                ∙ ap (split_use seen (suc n)) e;
            has = subst (λ (q : ℕ). has_row seen (suc n) first first q ≡ true) e own_has;
            none = λ q h. other_has q (λ f. let g = e in omega (arith, f, g, h)) ∙ known.none q h;
          }

      -- after it: that row is written, and the use's own is the latest
      pub pending_later : p < seen.inst n → Pending seen first (suc n) (seen.inst n) (written ++ (latest ∷ []))
          (added_to_row (no_weights (seen.inst n)) (seen.part n) (seen.weight n))
      pending_later h =
          record {
            from = let f = known.from in omega (arith, f, h);
            rows = all;
            row =
                ap (λ (u : SplitUse). added_to_row u (seen.part n) (seen.weight n))
                (sym (row_none seen n (seen.inst n) (or_parts (eqb (seen.inst n) first || eqb (seen.inst n) first) (carries seen n (seen.inst n))
                (known.none (seen.inst n) h)).1)) ∙ sym (own_row seen n counted);
            has = own_has;
            none = λ q l. other_has q (λ f. omega (arith, f, l)) ∙ known.none q (omega (arith, h, l));
          }
        where
          -- the rows up to the use: those written, the latest, and none between
          all : written ++ (latest ∷ []) ≡ rows_from seen (suc n) first first first (seen.inst n - first)
          all =
              let f = known.from in
              let count : seen.inst n - first ≡ (p - first) + (1 + (seen.inst n - p - 1)) = omega (arith, f, h) in
              let here : first + (p - first) ≡ p = omega (arith, f) in
              ap₂ (λ (a b : List SplitUse). a ++ b) known.rows
              (ap (λ (u : SplitUse). u ∷ []) known.row ∙ sym (rows_one seen n first first p known.has) ∙ sym (append-nil _)
              ∙ ap (λ (r : List SplitUse). rows_from seen n first first p 1 ++ r)
              (sym (rows_none seen n first first (p + 1) (seen.inst n - p - 1) (λ q a b. known.none q (omega (arith, a)))))
              ∙ sym (rows_split seen n first first p 1 (seen.inst n - p - 1))
              ∙ ap (λ (x : ℕ). rows_from seen n first first x (1 + (seen.inst n - p - 1))) (sym here))
              ∙ sym (rows_split seen n first first first (p - first) (1 + (seen.inst n - p - 1)))
              ∙ ap (rows_from seen n first first first) (sym count)
              ∙ others first (seen.inst n - first) (λ x a b e. omega (arith, a, b, e, f, h))

      -- just before it, as only a fixed def can be: its row goes between, and the latest stays
      module _ (before : seen.inst n + 1 ≡ p) (inside : first ≤ seen.inst n) where
        -- how many rows there are up to the use
        front_count : p - first ≡ (seen.inst n - first) + 1
        front_count = let e = before in let h = inside in omega (arith, e, h)

        here : first + (seen.inst n - first) ≡ seen.inst n
        here = let h = inside in omega (arith, h)

        abbrev front : ℕ → List SplitUse
        front m = rows_from seen m first first first (seen.inst n - first)

        -- the rows before the latest: those before the use, and its own
        cut : (m : ℕ) → rows_from seen m first first first (p - first) ≡ front m ++ rows_from seen m first first (seen.inst n) 1
        cut m =
            ap (rows_from seen m first first first) front_count ∙ rows_split seen m first first first (seen.inst n - first) 1
            ∙ ap (λ (x : ℕ). front m ++ rows_from seen m first first x 1) here

        front_same : front n ≡ front (suc n)
        front_same = others first (seen.inst n - first) (λ x a b e. let h = inside in omega (arith, a, b, e, h))

        own_after : rows_from seen (suc n) first first (seen.inst n) 1 ≡ added_to_row (split_use seen n (seen.inst n)) (seen.part n) (seen.weight n) ∷ []
        own_after = rows_one seen (suc n) first first (seen.inst n) own_has ∙ ap (λ (u : SplitUse). u ∷ []) (own_row seen n counted)

        step : (rows : List SplitUse) → rows ≡ front n ++ (added_to_row (split_use seen n (seen.inst n)) (seen.part n) (seen.weight n) ∷ [])
            → Pending seen first (suc n) p rows latest
        step rows e =
            record {
              from = known.from;
              rows = e ∙ ap₂ (λ (a b : List SplitUse). a ++ b) front_same (sym own_after) ∙ sym (cut (suc n));
              row = known.row ∙ sym (other_row seen n p (λ f. let g = before in omega (arith, f, g)));
              has = other_has p (λ f. let g = before in omega (arith, f, g)) ∙ known.has;
              none = λ q h. other_has q (λ f. let g = before in omega (arith, f, g, h)) ∙ known.none q h;
            }

        -- the use's instruction had no row: it is written behind the others
        pub written_front : has_row seen n first first (seen.inst n) ≡ false → written ≡ front n
        written_front e =
            known.rows
            ∙ cut n
            ∙ ap (λ (r : List SplitUse). front n ++ r) (rows_none seen n first first (seen.inst n) 1
            (λ q a b. let same : q ≡ seen.inst n = omega (arith, a, b) in subst (λ (x : ℕ). has_row seen n first first x ≡ false) (sym same) e))
            ∙ append-nil (front n)

        pub pending_before : has_row seen n first first (seen.inst n) ≡ false
            → Pending seen first (suc n) p (written ++ (added_to_row (no_weights (seen.inst n)) (seen.part n) (seen.weight n) ∷ [])) latest
        pending_before e =
            step _
            (ap₂ (λ (a b : List SplitUse). a ++ b) (written_front e)
            (ap (λ (u : SplitUse). added_to_row u (seen.part n) (seen.weight n) ∷ [])
            (sym (row_none seen n (seen.inst n) (or_parts (eqb (seen.inst n) first || eqb (seen.inst n) first) (carries seen n (seen.inst n)) e).1))))

        -- it had one: that is the last one written, and it changes
        pub written_own : has_row seen n first first (seen.inst n) ≡ true → written ≡ front n ++ (split_use seen n (seen.inst n) ∷ [])
        written_own e = known.rows ∙ cut n ∙ ap (λ (r : List SplitUse). front n ++ r) (rows_one seen n first first (seen.inst n) e)

        pub pending_own : Pending seen first (suc n) p (front n ++ (added_to_row (split_use seen n (seen.inst n)) (seen.part n) (seen.weight n) ∷ [])) latest
        pending_own = step _ refl

    -- the table of the uses seen, where the latest row is the last instruction's
    module _ (last : ℕ) where
      ends_has : (q : ℕ) → (q ≡ last → ⊥) → has_row seen n first first q ≡ has_row seen n first last q
      ends_has q e = by (eqb q first) (eqb q last) (carries seen n q) (ne_eqb q last e)
        where
          by : (a b c : Bool) → b ≡ false → (a || a || c) ≡ (a || b || c)
          by true b c f = refl
          by false b c f = rw f

      ends_same : (q c : ℕ) → ((x : ℕ) → q ≤ x → x < q + c → x ≡ last → ⊥) → rows_from seen n first first q c ≡ rows_from seen n first last q c
      ends_same q c h = rows_same seen n n first first first last q c (λ x a b. (ends_has x (h x a b), refl))

      last_has : has_row seen n first last last ≡ true
      last_has = by (eqb last first) (eqb last last) (carries seen n last) (eq-eqb last last refl)
        where
          by : (a b c : Bool) → b ≡ true → (a || b || c) ≡ true
          by true b c f = refl
          by false b c f = rw f

      pub pending_end : p ≡ last → written ++ (latest ∷ []) ≡ use_table seen n first last
      unfolding use_table
      pending_end e =
          let f = known.from in
          let here : first + (p - first) ≡ last = omega (arith, f, e) in
          let count : (p - first) + 1 ≡ last + 1 - first = omega (arith, f, e) in
          ap₂ (λ (a b : List SplitUse). a ++ b)
          (known.rows ∙ ends_same first (p - first) (λ x a b g. omega (arith, a, b, e, f, g)))
          (ap (λ (u : SplitUse). u ∷ []) (known.row ∙ ap (split_use seen n) e) ∙ sym (rows_one seen n first last last last_has)
          ∙ ap (λ (x : ℕ). rows_from seen n first last x 1) (sym here))
          ∙ sym (rows_split seen n first last first (p - first) 1)
          ∙ ap (rows_from seen n first last first) count

      -- where that comes later: its row is the last, with no weights
      pub pending_end_later : p < last → written ++ (latest ∷ no_weights last ∷ []) ≡ use_table seen n first last
      unfolding use_table
      pending_end_later h =
          let f = known.from in
          let here : first + (p - first) ≡ p = omega (arith, f) in
          let there : (p + 1) + (last - p - 1) ≡ last = omega (arith, h) in
          let count : (p - first) + (1 + ((last - p - 1) + 1)) ≡ last + 1 - first = omega (arith, f, h) in
          let absent : carries seen n last ≡ false = (or_parts (eqb last first || eqb last first) (carries seen n last) (known.none last h)).1 in
          let between : rows_from seen n first last (p + 1) (last - p - 1) ≡ [] =
          rows_none seen n first last (p + 1) (last - p - 1) (λ q a b. sym (ends_has q (λ g. omega (arith, a, b, g, h))) ∙ known.none q (omega (arith, a))) in
          let end : no_weights last ∷ [] ≡ rows_from seen n first last (p + 1) ((last - p - 1) + 1) =
          ap (λ (u : SplitUse). u ∷ []) (sym (row_none seen n last absent))
          ∙ sym (rows_one seen n first last last last_has)
          ∙ ap (λ (x : ℕ). rows_from seen n first last x 1) (sym there)
          ∙ ap (λ (r : List SplitUse). r ++ rows_from seen n first last ((p + 1) + (last - p - 1)) 1) (sym between)
          ∙ sym (rows_split seen n first last (p + 1) (last - p - 1) 1) in
          let own : latest ∷ [] ≡ rows_from seen n first last p 1 =
          ap (λ (u : SplitUse). u ∷ []) known.row ∙ sym (rows_one seen n first last p (sym (ends_has p (λ g. omega (arith, g, h))) ∙ known.has)) in
          ap₂ (λ (a b : List SplitUse). a ++ b)
          (known.rows ∙ ends_same first (p - first) (λ x a b g. omega (arith, a, b, f, g, h)))
          (ap₂ (λ (a b : List SplitUse). a ++ b) own end ∙ sym (rows_split seen n first last p 1 ((last - p - 1) + 1))
          ∙ ap (λ (x : ℕ). rows_from seen n first last x (1 + ((last - p - 1) + 1))) (sym here))
          ∙ sym (rows_split seen n first last first (p - first) (1 + ((last - p - 1) + 1)))
          ∙ ap (rows_from seen n first last first) count

-- a row names its instruction
pub row_inst : (seen : Seen) (n p : ℕ) → (split_use seen n p).inst.0 ≡ p
unfolding split_use added_to_row
row_inst seen zero p = refl
row_inst seen (suc n) p = by (counts_at seen p n) (row_inst seen n p)
  where
    kept : (u : SplitUse) (t : Part) (w : Float) → (added_to_row u t w).inst ≡ u.inst
    kept u Part·is.Main w = refl
    kept u Part·is.Left w = refl
    kept u Part·is.Right w = refl

    by : (b : Bool) → (split_use seen n p).inst.0 ≡ p → (cond b (added_to_row (split_use seen n p) (seen.part n) (seen.weight n)) (split_use seen n p)).inst.0 ≡ p
    by true e = ap (λ (i : Inst). i.0) (kept (split_use seen n p) (seen.part n) (seen.weight n)) ∙ e
    by false e = e
