-- What is promised of sheets, in both directions: which texts are accepted, which are refused and where, and that what was read is what was written.
-- Assumes nothing.
use Prim.Native.Nat.{ℕ, zero, suc, ◌+◌, ◌≤◌, ◌<◌}
use mathlib.Core.Path.{◌≡◌, refl, sym, ap, ◌∙◌, subst}
use mathlib.Core.Bool.{Bool, true, false}
use mathlib.Core.List.{List, [], ◌∷◌, ◌++◌, append_assoc, append-nil}
use mathlib.Core.Logic.{◌⊎◌, inl, inr, ⊎_elim, ◌↔◌}
use native.Mathlib.Omega.{arith}
use lib.ListN.{length, get_or, take, drop}
use lib.Dec.{ltb}
use borrow.Author.Tests.{le-ltb, ltb-false}
use Rattle.sheet.specs.Kinds.{pick, kinds, kind_at, fields, limit, needed, base, cell_count}
use Rattle.sheet.specs.Sheet.{lines_text, Sheet, text_from, render, IsSheet, Within}
use Rattle.sheet.specs.Refusal.{lines_of, is_line, kind_of_line, latest, of_kind, is_in_order, fault, Verdict, refusal, judged, verdict_below, verdict, sheet_of}
use Rattle.sheet.specs.Refusal.{open_kind, none_needed, is_complete}
use Rattle.sheet.specs.Cells.{place, column, stored, cells_after, as_read, held, Read}
use Rattle.std.specs.Prelude.{Ok, Err}
use Rattle.sheet.specs.declared.check.BadLine.{BadLine}
use Rattle.sheet.specs.declared.fill.ReadError.{ReadError}
use Rattle.sheet.specs.declared.fill.ReadError.TheVariants.{NoRoom}
use Rattle.sheet.proofs.CheckLaws.{verdict_lines, passed}
use Rattle.sheet.proofs.SoundLaws.{AllPass, fault_none, sound_sheet}
use Rattle.sheet.proofs.CompleteLaws.{render_sound, render_held}
use Rattle.sheet.proofs.CellLaws.{Outside, cells_kept, sheet_held, column_held}
use Rattle.sheet.proofs.KindLaws.{base_fits}
use Rattle.sheet.proofs.FillLaws.{place_fits}

-- a text of a sheet within the limits
pub record Rendering (text : List ℕ) : Type 0 where
  pub sheet : Sheet
  pub is : IsSheet sheet
  pub within : Within sheet
  pub same : render sheet ≡ text

pub accepted_exactly : (text : List ℕ) → (verdict text ≡ Ok tt) ↔ Rendering text
accepted_exactly text = (
  (λ e. let t = sound_sheet text e in record { sheet = sheet_of text; is = t.sheet; within = t.within; same = t.same }),
  λ r. subst (λ (x : List ℕ). verdict x ≡ Ok tt) r.same (render_sound r.sheet r.is r.within),
)

-- the first bad line: those above it pass, and it has a fault
pub record FirstBad (top ls : List (List ℕ)) (n place : ℕ) : Type 0 where
  pub above : List (List ℕ)
  pub line : List ℕ
  pub below : List (List ℕ)
  pub split : ls ≡ above ++ line ∷ below
  pub pass : AllPass top above
  pub faulty : fault (top ++ above) line ≡ n
  pub some : 0 < n
  pub there : place ≡ length (top ++ above) + 1

-- no line is bad, and one that is needed is missing behind the last
pub record Missing (top ls : List (List ℕ)) (n place : ℕ) : Type 0 where
  pub pass : AllPass top ls
  pub incomplete : is_complete (length (top ++ ls)) (latest (top ++ ls)) ≡ false
  pub number : n ≡ 14
  pub there : place ≡ length (top ++ ls) + 1

refused_same : (m p n q : ℕ) → refusal m p ≡ refusal n q → (m ≡ n) × (p ≡ q)
refused_same m p n q e =
    let u : ◌≡◌ {A = BadLine} (record { number = m; line = p }) (record { number = n; line = q }) = cc in
    (ap (λ (b : BadLine). b.number) u, ap (λ (b : BadLine). b.line) u)

missing_by : (b : Bool) (m n p : ℕ) → pick b (Ok tt) (refusal 14 m) ≡ refusal n p → (b ≡ false) × (n ≡ 14) × (p ≡ m)
missing_by true m n p e = let z : ◌≡◌ {A = ℕ} 0 1 = cc in absurd (omega arith)
missing_by false m n p e = let s = refused_same 14 m n p e in (refl, sym s.0, sym s.1)

refused_first : (ls top : List (List ℕ)) (n p : ℕ) → verdict_below top ls ≡ refusal n p → FirstBad top ls n p ⊎ Missing top ls n p
unfolding verdict_below
refused_first [] top n p e =
    let q = missing_by (is_complete (length top) (latest top)) (length top + 1) n p e in
    let a : top ++ [] ≡ top = append-nil top in
    inr (record {
      pass = tt;
      incomplete = subst (λ (x : List (List ℕ)). is_complete (length x) (latest x) ≡ false) (sym a) q.0;
      number = q.1;
      there = subst (λ (x : List (List ℕ)). p ≡ length x + 1) (sym a) q.2;
    })
refused_first (l ∷ ls) top n p e = by (fault top l) refl e (refused_first ls (top ++ (l ∷ [])) n p)
  where
    by : (m : ℕ) → fault top l ≡ m → judged m (length top + 1) (verdict_below (top ++ (l ∷ [])) ls) ≡ refusal n p
        → (verdict_below (top ++ (l ∷ [])) ls ≡ refusal n p → FirstBad (top ++ (l ∷ [])) ls n p ⊎ Missing (top ++ (l ∷ [])) ls n p)
        → FirstBad top (l ∷ ls) n p ⊎ Missing top (l ∷ ls) n p
    by zero f q later = ⊎_elim (λ b. inl (bad b)) (λ b. inr (lacking b)) (later q)
      where
        bad : FirstBad (top ++ (l ∷ [])) ls n p → FirstBad top (l ∷ ls) n p
        bad b =
            let a : (top ++ (l ∷ [])) ++ b.above ≡ top ++ l ∷ b.above = append_assoc top (l ∷ []) b.above in
            record {
              above = l ∷ b.above;
              line = b.line;
              below = b.below;
              split = ap (λ (x : List (List ℕ)). l ∷ x) b.split;
              pass = (fault_none top l f, b.pass);
              faulty = subst (λ (x : List (List ℕ)). fault x b.line ≡ n) a b.faulty;
              some = b.some;
              there = subst (λ (x : List (List ℕ)). p ≡ length x + 1) a b.there;
            }

        lacking : Missing (top ++ (l ∷ [])) ls n p → Missing top (l ∷ ls) n p
        lacking b =
            let a : (top ++ (l ∷ [])) ++ ls ≡ top ++ l ∷ ls = append_assoc top (l ∷ []) ls in
            record {
              pass = (fault_none top l f, b.pass);
              incomplete = subst (λ (x : List (List ℕ)). is_complete (length x) (latest x) ≡ false) a b.incomplete;
              number = b.number;
              there = subst (λ (x : List (List ℕ)). p ≡ length x + 1) a b.there;
            }
    by (suc m) f q later =
        let s = refused_same (suc m) (length top + 1) n p q in
        let a : top ≡ top ++ [] = sym (append-nil top) in
        inl (record {
          above = [];
          line = l;
          below = ls;
          split = refl;
          pass = tt;
          faulty = subst (λ (x : List (List ℕ)). fault x l ≡ n) a (f ∙ s.0);
          some = omega (arith, s.0);
          there = subst (λ (x : List (List ℕ)). p ≡ length x + 1) a (sym s.1);
        })

first_refused : (above : List (List ℕ)) (top : List (List ℕ)) (l : List ℕ) (ls : List (List ℕ)) (n : ℕ) → AllPass top above → fault (top ++ above) l ≡ suc n
    → verdict_below top (above ++ l ∷ ls) ≡ refusal (suc n) (length (top ++ above) + 1)
unfolding verdict_below
first_refused [] top l ls n p f =
    let a : top ++ [] ≡ top = append-nil top in
    let g : fault top l ≡ suc n = subst (λ (x : List (List ℕ)). fault x l ≡ suc n) a f in
    ap (λ (m : ℕ). judged m (length top + 1) (verdict_below (top ++ (l ∷ [])) ls)) g
    ∙ ap (λ (x : List (List ℕ)). refusal (suc n) (length x + 1)) (sym a)
first_refused (b ∷ bs) top l ls n p f =
    let a : (top ++ (b ∷ [])) ++ bs ≡ top ++ b ∷ bs = append_assoc top (b ∷ []) bs in
    passed top b (bs ++ l ∷ ls) (kind_of_line b) refl p.0.good p.0.order p.0.room
    ∙ first_refused bs (top ++ (b ∷ [])) l ls n p.1 (subst (λ (x : List (List ℕ)). fault x l ≡ suc n) (sym a) f)
    ∙ ap (λ (x : List (List ℕ)). refusal (suc n) (length x + 1)) a

missing_refused : (ls top : List (List ℕ)) → AllPass top ls → is_complete (length (top ++ ls)) (latest (top ++ ls)) ≡ false
    → verdict_below top ls ≡ refusal 14 (length (top ++ ls) + 1)
unfolding verdict_below
missing_refused [] top p e = let a : top ++ [] ≡ top = append-nil top in rw (a, rw a at e)
missing_refused (l ∷ ls) top p e =
    let a : (top ++ (l ∷ [])) ++ ls ≡ top ++ l ∷ ls = append_assoc top (l ∷ []) ls in
    passed top l ls (kind_of_line l) refl p.0.good p.0.order p.0.room
    ∙ missing_refused ls (top ++ (l ∷ [])) p.1 (subst (λ (x : List (List ℕ)). is_complete (length x) (latest x) ≡ false) (sym a) e)
    ∙ ap (λ (x : List (List ℕ)). refusal 14 (length x + 1)) a

-- a text is refused exactly for its first bad line, or where none is bad for a line that is missing at its end: the P of an empty text
pub refused_exactly : (text : List ℕ) (n p : ℕ) → (verdict text ≡ refusal n p) ↔ (FirstBad [] (lines_of text) n p ⊎ Missing [] (lines_of text) n p)
refused_exactly text n p =
    ((λ e. refused_first (lines_of text) [] n p (sym (verdict_lines text) ∙ e)), ⊎_elim (back n) lacking)
  where
    back : (m : ℕ) → FirstBad [] (lines_of text) m p → verdict text ≡ refusal m p
    back zero b = absurd (omega (arith, b.some))
    back (suc m) b =
        verdict_lines text
        ∙ ap (verdict_below []) b.split
        ∙ first_refused b.above [] b.line b.below m b.pass b.faulty
        ∙ ap (refusal (suc m)) (sym b.there)

    lacking : Missing [] (lines_of text) n p → verdict text ≡ refusal n p
    lacking b =
        verdict_lines text
        ∙ missing_refused (lines_of text) [] b.pass b.incomplete
        ∙ ap (λ (j : ℕ). refusal 14 j) (sym b.there)
        ∙ ap (λ (j : ℕ). refusal j p) (sym b.number)

pub empty_exactly : verdict [] ≡ refusal 14 1
unfolding verdict verdict_below lines_of is_complete none_needed open_kind latest needed kind_at
empty_exactly = refl

-- on one line 14 comes before 15: it does not look at the limits
module _ (above : List (List ℕ)) (l : List ℕ) where
  pub fourteen : (is_line (kind_of_line l) l ≡ false) ⊎ (is_in_order (length above) (latest above) (kind_of_line l) ≡ false) → fault above l ≡ 14
  unfolding fault
  fourteen d =
      ⊎_elim (λ e. rw e) (λ e. by (is_line (kind_of_line l) l) (ltb (length (of_kind (kind_of_line l) above)) (limit (kind_of_line l))) e) d
    where
      by : (a c : Bool) → is_in_order (length above) (latest above) (kind_of_line l) ≡ false
          → ◌≡◌ {A = ℕ} (pick a (pick (is_in_order (length above) (latest above) (kind_of_line l)) (pick c 0 15) 14) 14) 14
      by true c e = rw e
      by false c e = refl

  pub fifteen : is_line (kind_of_line l) l ≡ true → is_in_order (length above) (latest above) (kind_of_line l) ≡ true
      → limit (kind_of_line l) ≤ length (of_kind (kind_of_line l) above) → fault above l ≡ 15
  unfolding fault
  fifteen a b h = rw (a, b, le-ltb (length (of_kind (kind_of_line l) above)) (limit (kind_of_line l)) h)

-- rendering depends on the rows of the kinds alone
render_same : (n k : ℕ) (s t : Sheet) → ((j : ℕ) → k ≤ j → j < k + n → s j ≡ t j) → text_from s k n ≡ text_from t k n
unfolding text_from
render_same zero k s t h = refl
render_same (suc n) k s t h =
    ap (λ (r : List (List ℕ)). lines_text k r ++ text_from s (suc k) n) (h k (omega arith) (omega arith))
    ∙ ap (λ (x : List ℕ). lines_text k (t k) ++ x) (render_same n (suc k) s t (λ j a b. h j (omega arith) (omega arith)))

-- what a sound reading left in the cells
module _ (text before after counts : List ℕ) (r : Read text before after (Ok counts)) where
  pub sound : verdict text ≡ Ok tt
  sound = by (ltb (length before) cell_count) (verdict text) r.answer
    where
      by : (b : Bool) (v : Verdict) → Ok tt ≡ pick b (Err NoRoom) (as_read v) → v ≡ Ok tt
      by true v e = let z : ◌≡◌ {A = ℕ} 0 1 = cc in absurd (omega arith)
      by false (Ok tt) e = refl
      by false (Err b) e = let z : ◌≡◌ {A = ℕ} 0 1 = cc in absurd (omega arith)

  pub read_room : cell_count ≤ length before
  read_room = by (ltb (length before) cell_count) refl r.answer
    where
      by : (b : Bool) → ltb (length before) cell_count ≡ b → Ok tt ≡ pick b (Err NoRoom) (as_read (verdict text)) → cell_count ≤ length before
      by true e q = let z : ◌≡◌ {A = ℕ} 0 1 = cc in absurd (omega arith)
      by false e q = ltb-false (length before) cell_count e

  -- the cells hold the sheet of the text
  pub read_held : (k : ℕ) → k < kinds → held after counts k ≡ sheet_of text k
  unfolding cells_after
  read_held k h =
      let t = sound_sheet text sound in
      ap (λ (x : List ℕ). held x counts k) r.cells
      ∙ sheet_held (sheet_of text) before counts t.within read_room k h (t.sheet.rows k h) (r.counted.rows k h)

  -- rendering what was read gives the text back, byte for byte
  pub read_back : render (held after counts) ≡ text
  unfolding render
  read_back = render_same kinds 0 (held after counts) (sheet_of text) (λ j a b. read_held j b) ∙ (sound_sheet text sound).same

  -- whatever sheet the text renders is the one that was read
  pub read_only : (s : Sheet) → IsSheet s → render s ≡ text → (k : ℕ) → k < kinds → held after counts k ≡ s k
  read_only s is e k h = read_held k h ∙ ap (λ (x : List ℕ). sheet_of x k) (sym e) ∙ render_held s is k h

  -- a column lies inside the cells
  pub read_inside : (k c : ℕ) → k < kinds → c < fields k → place k c + get_or counts k 0 ≤ cell_count
  unfolding place
  read_inside k c h f = place_fits (base k) (fields k) (limit k) c (get_or counts k 0) cell_count f (r.counted.within k h) (base_fits k h)

  -- the used cells of a column are that column of the sheet
  pub read_column : (k c : ℕ) → k < kinds → c < fields k → take (get_or counts k 0) (drop (place k c) after) ≡ column c (sheet_of text k)
  unfolding cells_after
  read_column k c h f =
      let t = sound_sheet text sound in
      ap (λ (x : List ℕ). take (get_or counts k 0) (drop (place k c) x)) r.cells
      ∙ ap (λ (n : ℕ). take n (drop (place k c) (stored (sheet_of text) before))) (r.counted.rows k h)
      ∙ column_held (sheet_of text) before t.within read_room k c h f

  -- a cell in no used row keeps what it held
  pub read_kept : (j : ℕ) → ((k c : ℕ) → k < kinds → c < fields k → Outside j (place k c) (get_or counts k 0)) → get_or after j 0 ≡ get_or before j 0
  unfolding cells_after
  read_kept j o =
      ap (λ (x : List ℕ). get_or x j 0) r.cells
      ∙ cells_kept (sheet_of text) before j (λ k c h f. subst (Outside j (place k c)) (r.counted.rows k h) (o k c h f))

-- where the text is refused, or there are too few cells, every cell keeps what it held
pub refused_kept : (text before after : List ℕ) (e : ReadError) → Read text before after (Err e) → after ≡ before
unfolding cells_after
refused_kept text before after e r = r.cells
