-- One more use, from the columns to the table: what `added` leaves in the columns is the table of one use more, all but its latest row
use mathlib.Core.Path.{◌≡◌, refl, sym, ap, ap₂, ◌∙◌, subst}
use mathlib.Core.Bool.{Bool, true, false, cond}
use mathlib.Core.Logic.{◌⊎◌, inl, inr}
use mathlib.Core.List.{List, [], ◌∷◌, ◌++◌, append-nil}
use Prim.Native.Nat.{ℕ, zero, suc, ◌+◌, ◌-◌, ◌≤◌, ◌<◌}
use native.Mathlib.Nat.{le_refl, le_antisymm}
use native.Mathlib.Omega.{arith}
use lib.Dec.{ltb, eqb}
use lib.ListN.{length, length-append}
use borrow.Author.Tests.{lt-ltb, le-ltb, eq-eqb, ne_eqb}
use Rattle.columns.proofs.Tests.{cond_true, cond_false}
use Rattle.columns.proofs.Firsts.{split}
use Rattle.use_rows.specs.declared.row.SplitUse.{SplitUse}
use Rattle.use_rows.specs.Uses.{no_weights, added_to_row, Seen, split_use, has_row, rows_from}
use Rattle.use_rows.specs.UseColumns.{UseColumns, Inside, with_use, use_in, filled_with}
use Rattle.use_rows.proofs.Rows.{inside_less}
use Rattle.use_lists.specs.Collecting.{Collecting, is_stored, added_before, added}
use Rattle.uses.proofs.Pending.{Pending, pending_first, pending_skipped, pending_same, pending_later, pending_before, pending_own, written_own}
use Rattle.uses.proofs.Pending.{written_front, row_inst}
use Rattle.uses.proofs.Fills.{fill_more, fill_changed, fill_inst, fill_read}

-- n uses are seen: the columns hold the rows written, and there are no more of them than uses
pub record Stored (seen : Seen) (first n : ℕ) (lent : UseColumns) (c : Collecting) : Type 0 where
  pub at : ℕ
  pub written : List SplitUse
  pub cols : c.cols ≡ filled_with written lent
  pub count : c.rows ≡ length written
  pub few : length written ≤ n
  pub pending : Pending seen first n at written c.latest

pub one_more : (rows : List SplitUse) (u : SplitUse) → length (rows ++ (u ∷ [])) ≡ length rows + 1
one_more rows u = length-append rows (u ∷ [])

-- the row stored last
last_is : (lent : UseColumns) (rows : List SplitUse) (u : SplitUse) (q n : ℕ) → n ≡ length (rows ++ (u ∷ [])) → Inside (length rows) lent
    → is_stored (filled_with (rows ++ (u ∷ [])) lent).insts n q ≡ eqb u.inst.0 q
unfolding is_stored
last_is lent rows u q n e room =
    let s : n ≡ suc (length rows) = let m = one_more rows u in omega (arith, e, m) in
    ap (λ (k : ℕ). is_stored (filled_with (rows ++ (u ∷ [])) lent).insts k q) s
    ∙ ap (λ (x : ℕ). eqb x q) (fill_inst lent rows room u)

module _ (seen : Seen) (first : ℕ) (lent : UseColumns) where
  pub stored_first : Stored seen first 0 lent (record { cols = lent; rows = 0; latest = no_weights first })
  stored_first = record { at = first; written = []; cols = refl; count = refl; few = le_refl 0; pending = pending_first seen first }

  -- the last of the rows before q is not q's
  last_other : (n k q : ℕ) → first + k ≤ q → Inside (length (rows_from seen n first first first k)) lent
      → is_stored (filled_with (rows_from seen n first first first k) lent).insts (length (rows_from seen n first first first k)) q ≡ false
  unfolding rows_from is_stored
  last_other n zero q h room = refl
  last_other n (suc k) q h room = by (has_row seen n first first (first + k)) room (last_other n k q (omega (arith, h)))
    where
      rows : List SplitUse
      rows = rows_from seen n first first first k

      by : (b : Bool) → Inside (length (rows ++ cond b (split_use seen n (first + k) ∷ []) [])) lent
          → (Inside (length rows) lent → is_stored (filled_with rows lent).insts (length rows) q ≡ false)
          → is_stored (filled_with (rows ++ cond b (split_use seen n (first + k) ∷ []) []) lent).insts
          (length (rows ++ cond b (split_use seen n (first + k) ∷ []) [])) q ≡ false
      by true i before =
          last_is lent rows (split_use seen n (first + k)) q _ refl
          (inside_less (length rows) _ lent (let m = one_more rows (split_use seen n (first + k)) in omega (arith, m)) i)
          ∙ ap (λ (x : ℕ). eqb x q) (row_inst seen n (first + k))
          ∙ ne_eqb (first + k) q (λ e. omega (arith, e, h))
      by false i before =
          ap (λ (r : List SplitUse). is_stored (filled_with r lent).insts (length r) q) (append-nil rows)
          ∙ before (subst (λ (r : List SplitUse). Inside (length r) lent) (append-nil rows) i)

  module _ (n : ℕ) (c : Collecting) (known : Stored seen first n lent c) where
    pub latest_at : c.latest.inst.0 ≡ known.at
    latest_at = ap (λ (u : SplitUse). u.inst.0) known.pending.row ∙ row_inst seen n known.at

    -- a use that does not count
    pub stored_skipped : seen.counts n ≡ false → Stored seen first (suc n) lent c
    stored_skipped e =
        record {
          at = known.at;
          written = known.written;
          cols = known.cols;
          count = known.count;
          few = let f = known.few in omega (arith, f);
          pending = pending_skipped seen first n known.at known.written c.latest known.pending e;
        }

    -- one that counts: not before the first instruction, and at most one instruction before a row that is there
    module _ (counted : seen.counts n ≡ true) (inside : first ≤ seen.inst n) (near : (p : ℕ) → has_row seen n first first p ≡ true → p ≤ seen.inst n + 1)
        (room : Inside n lent) where
      fits : Inside (length known.written) lent
      fits = inside_less (length known.written) n lent known.few room

      -- a row more in the columns
      stored_row : (u : SplitUse) → with_use c.cols c.rows u ≡ filled_with (known.written ++ (u ∷ [])) lent
      stored_row u = ap₂ (λ (x : UseColumns) (k : ℕ). with_use x k u) known.cols known.count ∙ fill_more lent known.written fits u

      count_row : (u : SplitUse) → c.rows + 1 ≡ length (known.written ++ (u ∷ []))
      count_row u = let k = known.count in let m = one_more known.written u in omega (arith, k, m)

      few_row : (u : SplitUse) → length (known.written ++ (u ∷ [])) ≤ suc n
      few_row u = let k = known.few in let m = one_more known.written u in omega (arith, k, m)

      at_latest : seen.inst n ≡ known.at → Stored seen first (suc n) lent
          (record { cols = c.cols; rows = c.rows; latest = added_to_row c.latest (seen.part n) (seen.weight n) })
      at_latest e =
          record {
            at = known.at;
            written = known.written;
            cols = known.cols;
            count = known.count;
            few = let f = known.few in omega (arith, f);
            pending = pending_same seen first n known.at known.written c.latest known.pending counted e;
          }

      after_latest : known.at < seen.inst n → Stored seen first (suc n) lent
          (record {
            cols = with_use c.cols c.rows c.latest;
            rows = c.rows + 1;
            latest =
                added_to_row (no_weights (seen.inst n)) (seen.part n) (seen.weight n);
          })
      after_latest h =
          record {
            at = seen.inst n;
            written = known.written ++ (c.latest ∷ []);
            cols = stored_row c.latest;
            count = count_row c.latest;
            few = few_row c.latest;
            pending = pending_later seen first n known.at known.written c.latest known.pending counted h;
          }

      -- just before the latest row
      module _ (before : seen.inst n + 1 ≡ known.at) where
        front : List SplitUse
        front = rows_from seen n first first first (seen.inst n - first)

        -- its instruction has no row yet
        before_new : has_row seen n first first (seen.inst n) ≡ false → Stored seen first (suc n) lent
            (added_before c (seen.inst n) (seen.part n) (seen.weight n))
        unfolding added_before
        before_new none =
            let u = added_to_row (no_weights (seen.inst n)) (seen.part n) (seen.weight n) in
            subst (Stored seen first (suc n) lent)
            (sym (cond_false _ _ (ap₂ (λ (x : List ℕ) (k : ℕ). is_stored x k (seen.inst n)) (ap (λ (x : UseColumns). x.insts) known.cols) known.count
            ∙ absent)))
            (record {
              at = known.at;
              written = known.written ++ (u ∷ []);
              cols = stored_row u;
              count = count_row u;
              few = few_row u;
              pending = pending_before seen first n known.at known.written c.latest known.pending counted before inside none;
            })
          where
            absent : is_stored (filled_with known.written lent).insts (length known.written) (seen.inst n) ≡ false
            absent =
                let e = written_front seen first n known.at known.written c.latest known.pending counted before inside none in
                subst (λ (r : List SplitUse). is_stored (filled_with r lent).insts (length r) (seen.inst n) ≡ false) (sym e)
                (last_other n (seen.inst n - first) (seen.inst n) (let h = inside in omega (arith, h))
                (subst (λ (r : List SplitUse). Inside (length r) lent) e fits))

        -- its instruction's row is the last one stored
        module _ (has : has_row seen n first first (seen.inst n) ≡ true) where
          u : SplitUse
          u = split_use seen n (seen.inst n)

          v : SplitUse
          v = added_to_row u (seen.part n) (seen.weight n)

          written_is : known.written ≡ front ++ (u ∷ [])
          unfolding front u
          written_is = written_own seen first n known.at known.written c.latest known.pending counted before inside has

          cols_are : c.cols ≡ filled_with (front ++ (u ∷ [])) lent
          cols_are = known.cols ∙ ap (λ (r : List SplitUse). filled_with r lent) written_is

          rows_are : c.rows ≡ length (front ++ (u ∷ []))
          rows_are = known.count ∙ ap length written_is

          front_fits : Inside (length front) lent
          front_fits =
              inside_less (length front) (length known.written) lent (let m = one_more front u in let e = ap length written_is in omega (arith, e, m)) fits

          found : is_stored c.cols.insts c.rows (seen.inst n) ≡ true
          unfolding u
          found =
              ap (λ (x : UseColumns). is_stored x.insts c.rows (seen.inst n)) cols_are
              ∙ last_is lent front u (seen.inst n) c.rows rows_are front_fits
              ∙ ap (λ (x : ℕ). eqb x (seen.inst n)) (row_inst seen n (seen.inst n))
              ∙ eq-eqb (seen.inst n) (seen.inst n) refl

          cols_after : with_use c.cols (c.rows - 1) (added_to_row (use_in c.cols (c.rows - 1)) (seen.part n) (seen.weight n))
              ≡ filled_with (front ++ (v ∷ [])) lent
          unfolding v
          cols_after =
              ap₂ (λ (x : UseColumns) (k : ℕ). with_use x k (added_to_row (use_in x k) (seen.part n) (seen.weight n))) cols_are
              (let m = one_more front u in let e = rows_are in omega (arith, e, m))
              ∙ ap (λ (y : SplitUse). with_use (filled_with (front ++ (u ∷ [])) lent) (length front) (added_to_row y (seen.part n) (seen.weight n)))
              (fill_read lent front front_fits u)
              ∙ fill_changed lent front front_fits u v

          before_own : Stored seen first (suc n) lent (added_before c (seen.inst n) (seen.part n) (seen.weight n))
          unfolding added_before front u v
          before_own =
              subst (Stored seen first (suc n) lent) (sym (cond_true _ _ found))
              (record {
                at = known.at;
                written = front ++ (v ∷ []);
                cols = cols_after;
                count = rows_are ∙ one_more front u ∙ sym (one_more front v);
                few = let k = known.few in let e = ap length written_is in let m = one_more front u in let o = one_more front v in omega (arith, k, e, m, o);
                pending = pending_own seen first n known.at known.written c.latest known.pending counted before inside;
              })

      -- wherever it is
      pub stored_added : Stored seen first (suc n) lent (added c (seen.inst n) (seen.part n) (seen.weight n))
      unfolding added
      stored_added = by (split (seen.inst n) known.at)
        where
          chosen : (x : ℕ) → c.latest.inst.0 ≡ x → added c (seen.inst n) (seen.part n) (seen.weight n)
              ≡ cond (ltb (seen.inst n) x) (added_before c (seen.inst n) (seen.part n) (seen.weight n))
              (cond (eqb (seen.inst n) x) (record { cols = c.cols; rows = c.rows; latest = added_to_row c.latest (seen.part n) (seen.weight n) })
              (record {
                cols = with_use c.cols c.rows c.latest;
                rows = c.rows + 1;
                latest =
                    added_to_row (no_weights (seen.inst n)) (seen.part n) (seen.weight n);
              }))
          chosen x e =
              ap (λ (y : ℕ). cond (ltb (seen.inst n) y) (added_before c (seen.inst n) (seen.part n) (seen.weight n))
              (cond (eqb (seen.inst n) y) (record { cols = c.cols; rows = c.rows; latest = added_to_row c.latest (seen.part n) (seen.weight n) })
              (record {
                cols = with_use c.cols c.rows c.latest;
                rows = c.rows + 1;
                latest =
                    added_to_row (no_weights (seen.inst n)) (seen.part n) (seen.weight n);
              }))) e

          just_before : (b : Bool) → has_row seen n first first (seen.inst n) ≡ b → seen.inst n + 1 ≡ known.at
              → Stored seen first (suc n) lent (added_before c (seen.inst n) (seen.part n) (seen.weight n))
          just_before true has e = before_own e has
          just_before false none e = before_new e none

          not_before : known.at ≤ seen.inst n → (known.at < seen.inst n) ⊎ (seen.inst n ≤ known.at)
              → Stored seen first (suc n) lent (added c (seen.inst n) (seen.part n) (seen.weight n))
          not_before h (inl l) =
              subst (Stored seen first (suc n) lent)
              (sym (chosen known.at latest_at ∙ cond_false _ _ (le-ltb (seen.inst n) known.at h)
              ∙ cond_false _ _ (ne_eqb (seen.inst n) known.at (λ e. omega (arith, e, l))))) (after_latest l)
          not_before h (inr l) =
              let e : seen.inst n ≡ known.at = le_antisymm l h in
              subst (Stored seen first (suc n) lent)
              (sym (chosen known.at latest_at ∙ cond_false _ _ (le-ltb (seen.inst n) known.at h) ∙ cond_true _ _ (eq-eqb (seen.inst n) known.at e)))
              (at_latest e)

          by : (seen.inst n < known.at) ⊎ (known.at ≤ seen.inst n) → Stored seen first (suc n) lent (added c (seen.inst n) (seen.part n) (seen.weight n))
          by (inl h) =
              subst (Stored seen first (suc n) lent) (sym (chosen known.at latest_at ∙ cond_true _ _ (lt-ltb (seen.inst n) known.at h)))
              (just_before (has_row seen n first first (seen.inst n)) refl (let m = near known.at known.pending.has in omega (arith, h, m)))
          by (inr h) = not_before h (split known.at (seen.inst n))
