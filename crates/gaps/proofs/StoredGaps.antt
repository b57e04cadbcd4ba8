-- Gaps stored from a row on: in two parts, the last one first; how long the columns stay
use mathlib.Core.Path.{◌≡◌, refl, sym, ap, ◌∙◌}
use mathlib.Core.List.{List, [], ◌∷◌, ◌++◌, map}
use Prim.Native.Nat.{ℕ, suc, ◌+◌, ◌≤◌}
use native.Mathlib.Omega.{arith}
use lib.Ieee.{Float}
use lib.ListN.{length, set, length-set}
use lib.Seq.{set_comm}
use Rattle.columns.specs.Table.{filled, stored_in}
use Rattle.columns.proofs.Fillings.{stored_filled}
use Rattle.gaps.specs.Gaps.{Gap, gap_weight}
use Rattle.gaps.specs.Cutting.{CutColumns, with_row, with_gap, with_next, stored_gaps, CutRows}

-- ---- how long the columns are
pub rows_with : (n at from to : ℕ) (weight freq : Float) (block : ℕ) (cols : CutColumns) → CutRows n cols
    → CutRows n (with_row cols at from to weight freq block)
rows_with n at from to weight freq block cols r =
    let a = r.from in
    let b = r.to in
    let c = r.weight in
    let d = r.freq in
    let e = r.block in
    record { from = simp length-set a; to = simp length-set b; weight = simp length-set c; freq = simp length-set d; block = simp length-set e }

pub rows_fewer : (m n : ℕ) (cols : CutColumns) → m ≤ n → CutRows n cols → CutRows m cols
rows_fewer m n cols h r =
    let a = r.from in let b = r.to in let c = r.weight in let d = r.freq in let e = r.block in
    record { from = omega arith; to = omega arith; weight = omega arith; freq = omega arith; block = omega arith }

pub rows_stored : (n at : ℕ) (gs : List Gap) (cols : CutColumns) → CutRows n cols → CutRows n (stored_gaps at gs cols)
unfolding stored_in
rows_stored n at [] cols r = r
rows_stored n at (g ∷ gs) cols r =
    rows_stored n (suc at) gs (with_gap cols at g) (rows_with n at g.from g.to (gap_weight g) g.freq g.block cols r)

-- ---- stored in parts
pub stored_append : (at : ℕ) (gs hs : List Gap) (cols : CutColumns) → stored_gaps at (gs ++ hs) cols ≡ stored_gaps (at + length gs) hs (stored_gaps at gs cols)
unfolding stored_in
stored_append at [] hs cols = let z : at ≡ at + 0 = omega arith in ap (λ (n : ℕ). stored_gaps n hs cols) z
stored_append at (g ∷ gs) hs cols =
    let z : suc at + length gs ≡ at + suc (length gs) = omega arith in
    stored_append (suc at) gs hs (with_gap cols at g) ∙ ap (λ (n : ℕ). stored_gaps n hs (stored_gaps (suc at) gs (with_gap cols at g))) z

-- two rows stored, in either order
with_either : (i j : ℕ) (g h : Gap) (cols : CutColumns) → (i ≡ j → ⊥) → with_gap (with_gap cols i g) j h ≡ with_gap (with_gap cols j h) i g
with_either i j g h cols apart =
    λ k. record {
      froms = set_comm cols.froms i j g.from h.from apart k;
      tos = set_comm cols.tos i j g.to h.to apart k;
      weights = set_comm cols.weights i j (gap_weight g) (gap_weight h) apart k;
      freqs = set_comm cols.freqs i j g.freq h.freq apart k;
      blocks = set_comm cols.blocks i j g.block h.block apart k;
    }

-- the last one first
pub stored_last : (at : ℕ) (gs : List Gap) (g : Gap) (cols : CutColumns)
    → stored_gaps at (gs ++ (g ∷ [])) cols ≡ stored_gaps at gs (with_gap cols (at + length gs) g)
unfolding stored_in
stored_last at [] g cols = let z : at ≡ at + 0 = omega arith in ap (λ (n : ℕ). with_gap cols n g) z
stored_last at (x ∷ gs) g cols =
    let z : suc at + length gs ≡ at + suc (length gs) = omega arith in
    let e = with_either at (suc at + length gs) x g cols (λ q. absurd (omega (arith, q))) in
    stored_last (suc at) gs g (with_gap cols at x) ∙ ap (stored_gaps (suc at) gs) (e ∙ ap (λ (n : ℕ). with_gap (with_gap cols n g) at x) z)

-- ---- a column of stored gaps: filled with a field of the gaps
pub field_filled : {B : Type 0} (column : CutColumns → List B) (field : Gap → B)
    → ((at : ℕ) (g : Gap) (c : CutColumns) → column (with_gap c at g) ≡ set (column c) at (field g))
    → (gs : List Gap) (lent now : CutColumns) → length gs ≤ length (column lent) → now ≡ stored_gaps 0 gs lent → column now ≡ filled (map field gs) (column lent)
field_filled column field one gs lent now h e =
    ap column e
    ∙ stored_filled with_next (λ s. s.at) (λ r s. refl) (λ s. column s.cols) field (λ r s. one s.at r s.cols) gs
    (record { at = 0; cols = lent }) refl h

-- the gaps on the left, the own one and those on the right, stored one after the other
pub stored_three : (ls rs : List Gap) (own : Gap) (lent : CutColumns) → stored_gaps (length ls + 1) rs (with_gap (stored_gaps 0 ls lent) (length ls) own)
    ≡ stored_gaps 0 (ls ++ (own ∷ rs)) lent
unfolding stored_in
stored_three ls rs own lent =
    let a : 0 + length ls ≡ length ls = omega arith in
    let b : length ls + 1 ≡ suc (length ls) = omega arith in
    ap (λ (n : ℕ). stored_gaps n rs (with_gap (stored_gaps 0 ls lent) (length ls) own)) b
    ∙ ap (λ (n : ℕ). stored_gaps (suc n) rs (with_gap (stored_gaps 0 ls lent) n own)) (sym a)
    ∙ sym (stored_append 0 ls (own ∷ rs) lent)
