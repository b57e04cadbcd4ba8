-- A text whose verdict is sound is the text of the sheet that it holds, which has what is asked of each kind and is within the limits.
-- Assumes nothing.
use Prim.Native.Nat.{ℕ, zero, suc, ◌+◌, ◌-◌, ◌≤◌, ◌<◌}
use mathlib.Core.Path.{◌≡◌, refl, sym, ap, ◌∙◌, subst}
use mathlib.Core.Bool.{Bool, true, false}
use mathlib.Core.List.{List, [], ◌∷◌, ◌++◌, append_assoc, append-nil, map}
use mathlib.Core.Logic.{⊎_elim}
use native.Mathlib.Omega.{arith}
use native.Mathlib.Decide.{ℕ_discrete}
use lib.ListN.{length, length-append, length-map}
use lib.Dec.{eqb, ltb}
use borrow.Author.Tests.{eq-eqb, ne_eqb, eqb-true, ltb-true}
use Rattle.sheet.specs.Kinds.{pick, kinds, limit, once, needed}
use Rattle.sheet.specs.Sheet.{line, lines_text, Sheet, text_from, render, IsRow, AreRows, IsSheet, Within}
use Rattle.sheet.specs.Refusal.{join_first, lines_of, is_line, kind_of_line, latest, of_kind, is_in_order, fault, Verdict, refusal, judged, verdict_below, verdict, row_of, sheet_of}
use Rattle.sheet.specs.Refusal.{open_kind, none_needed, is_complete}
use Rattle.std.specs.Prelude.{Ok}
use Rattle.sheet.proofs.KindLaws.{split, needed_once}
use Rattle.sheet.proofs.FieldLaws.{not_both}
use Rattle.sheet.proofs.LineLaws.{LineIs, line_is}
use Rattle.sheet.proofs.CheckLaws.{passed, kind_more, kind_other, latest_more, open_of, order_open, order_latest, open_more, verdict_lines}

-- a line that passes below the lines above it, and lines that all pass
pub record Passes (above : List (List ℕ)) (l : List ℕ) : Type 0 where
  pub good : is_line (kind_of_line l) l ≡ true
  pub order : is_in_order (length above) (latest above) (kind_of_line l) ≡ true
  pub room : length (of_kind (kind_of_line l) above) < limit (kind_of_line l)

abbrev pub AllPass : List (List ℕ) → List (List ℕ) → Type 0
AllPass above [] = Unit {0}
AllPass above (l ∷ ls) = Passes above l × AllPass (above ++ (l ∷ [])) ls

-- and nothing is missing below them
abbrev pub Whole : List (List ℕ) → List (List ℕ) → Type 0
Whole above [] = is_complete (length above) (latest above) ≡ true
Whole above (l ∷ ls) = Passes above l × Whole (above ++ (l ∷ [])) ls

pub pass_sound : (ls above : List (List ℕ)) → Whole above ls → verdict_below above ls ≡ Ok tt
unfolding verdict_below
pass_sound [] above p = rw p
pass_sound (l ∷ ls) above p = passed above l ls (kind_of_line l) refl p.0.good p.0.order p.0.room ∙ pass_sound ls (above ++ (l ∷ [])) p.1

zero_by : (a b c : Bool) → ◌≡◌ {A = ℕ} (pick a (pick b (pick c 0 15) 14) 14) 0 → (a ≡ true) × (b ≡ true) × (c ≡ true)
zero_by true true true e = (refl, refl, refl)
zero_by true true false e = absurd (omega arith)
zero_by true false c e = absurd (omega arith)
zero_by false b c e = absurd (omega arith)

pub fault_none : (above : List (List ℕ)) (l : List ℕ) → fault above l ≡ 0 → Passes above l
unfolding fault
fault_none above l e =
    let p = zero_by (is_line (kind_of_line l) l) (is_in_order (length above) (latest above) (kind_of_line l))
    (ltb (length (of_kind (kind_of_line l) above)) (limit (kind_of_line l))) e in
    record { good = p.0; order = p.1; room = ltb-true (length (of_kind (kind_of_line l) above)) (limit (kind_of_line l)) p.2 }

judged_sound : (n place : ℕ) (v : Verdict) → judged n place v ≡ Ok tt → (n ≡ 0) × (v ≡ Ok tt)
judged_sound zero place v e = (refl, e)
judged_sound (suc n) place v e = let z : ◌≡◌ {A = ℕ} 0 1 = cc in absurd (omega arith)

complete_by : (b : Bool) (n : ℕ) → pick b (Ok tt) (refusal 14 n) ≡ Ok tt → b ≡ true
complete_by true n e = refl
complete_by false n e = let z : ◌≡◌ {A = ℕ} 0 1 = cc in absurd (omega arith)

pub sound_pass : (ls above : List (List ℕ)) → verdict_below above ls ≡ Ok tt → Whole above ls
unfolding verdict_below
sound_pass [] above e = complete_by (is_complete (length above) (latest above)) (length above + 1) e
sound_pass (l ∷ ls) above e =
    let p = judged_sound (fault above l) (length above + 1) (verdict_below (above ++ (l ∷ [])) ls) e in
    (fault_none above l p.0, sound_pass ls (above ++ (l ∷ [])) p.1)

pub whole_pass : (ls above : List (List ℕ)) → Whole above ls → AllPass above ls
whole_pass [] above w = tt
whole_pass (l ∷ ls) above w = (w.0, whole_pass ls (above ++ (l ∷ [])) w.1)

-- lines that are good and whose kinds rise from k on
abbrev Rising : ℕ → List (List ℕ) → Type 0
Rising k [] = Unit {0}
Rising k (l ∷ ls) = (k ≤ kind_of_line l) × LineIs (kind_of_line l) l × Rising (kind_of_line l) ls

rising_from : (ls : List (List ℕ)) (j k : ℕ) → k ≤ j → Rising j ls → Rising k ls
rising_from [] j k h r = tt
rising_from (l ∷ ls) j k h r = (omega arith, r.1, r.2)

pass_rising : (ls above : List (List ℕ)) (k : ℕ) → k ≤ latest above → AllPass above ls → Rising k ls
pass_rising [] above k h p = tt
pass_rising (l ∷ ls) above k h p = (
  omega (arith, order_latest above (kind_of_line l) p.0.order),
  line_is (kind_of_line l) l p.0.good,
  pass_rising ls (above ++ (l ∷ [])) (kind_of_line l) (omega (arith, latest_more above l)) p.1,
)

rising_none : (ls : List (List ℕ)) (j k : ℕ) → k < j → Rising j ls → of_kind k ls ≡ []
unfolding of_kind
rising_none [] j k h r = refl
rising_none (l ∷ ls) j k h r = rw (ne_eqb (kind_of_line l) k (omega arith)) (rising_none ls (kind_of_line l) k (omega arith) r.2)

-- the lines of each kind, kind after kind
gather : List (List ℕ) → ℕ → ℕ → List (List ℕ)
gather ls k zero = []
gather ls k (suc n) = of_kind k ls ++ gather ls (suc k) n

gather_none : (k n : ℕ) → gather [] k n ≡ []
unfolding gather of_kind
gather_none k zero = refl
gather_none k (suc n) = gather_none (suc k) n

gather_past : (l : List ℕ) (ls : List (List ℕ)) (k n : ℕ) → kind_of_line l < k → gather (l ∷ ls) k n ≡ gather ls k n
unfolding gather of_kind
gather_past l ls k zero h = refl
gather_past l ls k (suc n) h =
    rw (ne_eqb (kind_of_line l) k (omega arith)) (ap (λ (r : List (List ℕ)). of_kind k ls ++ r) (gather_past l ls (suc k) n (omega arith)))

gather_cons : (l : List ℕ) (ls : List (List ℕ)) (k n : ℕ) → k ≤ kind_of_line l → kind_of_line l < k + n → Rising (kind_of_line l) ls
    → gather (l ∷ ls) k n ≡ l ∷ gather ls k n
unfolding gather of_kind
gather_cons l ls k zero h g r = absurd (omega arith)
gather_cons l ls k (suc n) h g r = by (ℕ_discrete (kind_of_line l) k) (λ b. gather_cons l ls (suc k) n b (omega arith) r)
  where
    by : Dec (kind_of_line l ≡ k) → (suc k ≤ kind_of_line l → gather (l ∷ ls) (suc k) n ≡ l ∷ gather ls (suc k) n)
        → pick (eqb (kind_of_line l) k) (l ∷ of_kind k ls) (of_kind k ls) ++ gather (l ∷ ls) (suc k) n ≡ l ∷ (of_kind k ls ++ gather ls (suc k) n)
    by (yes e) later = rw (eq-eqb (kind_of_line l) k e) (ap (λ (t : List (List ℕ)). l ∷ (of_kind k ls ++ t)) (gather_past l ls (suc k) n (omega arith)))
    by (no e) later = rw (ne_eqb (kind_of_line l) k e, rising_none ls (kind_of_line l) k (omega arith) r) (later (omega arith))

gather_all : (ls : List (List ℕ)) (k n : ℕ) → Rising k ls → k + n ≡ kinds → gather ls k n ≡ ls
gather_all [] k n r e = gather_none k n
gather_all (l ∷ ls) k n r e =
    gather_cons l ls k n r.0 (omega (arith, r.1.kind)) r.2
    ∙ ap (λ (t : List (List ℕ)). l ∷ t) (gather_all ls k n (rising_from ls (kind_of_line l) k r.0 r.2) e)

-- the text of some lines
pub joined : List (List ℕ) → List ℕ
joined [] = []
joined (l ∷ ls) = l ++ joined ls

joined_append : (a b : List (List ℕ)) → joined (a ++ b) ≡ joined a ++ joined b
unfolding joined
joined_append [] b = refl
joined_append (l ∷ ls) b = ap (λ (t : List ℕ). l ++ t) (joined_append ls b) ∙ sym (append_assoc l (joined ls) (joined b))

join_first_lem : (c : ℕ) (ls : List (List ℕ)) → joined (join_first c ls) ≡ c ∷ joined ls
unfolding joined
join_first_lem c [] = refl
join_first_lem c (l ∷ ls) = refl

pub lines_joined : (text : List ℕ) → joined (lines_of text) ≡ text
unfolding lines_of joined
lines_joined [] = refl
lines_joined (c ∷ cs) = by (eqb c 10) refl (lines_joined cs)
  where
    by : (b : Bool) → eqb c 10 ≡ b → joined (lines_of cs) ≡ cs → joined (pick b ((10 ∷ []) ∷ lines_of cs) (join_first c (lines_of cs))) ≡ c ∷ cs
    by true e r = ap (λ (t : List ℕ). 10 ∷ t) r ∙ ap (λ (d : ℕ). d ∷ cs) (sym (eqb-true c 10 e))
    by false e r = join_first_lem c (lines_of cs) ∙ ap (λ (t : List ℕ). c ∷ t) r

rows_joined : (ls : List (List ℕ)) (j k : ℕ) → Rising j ls → lines_text k (map (row_of k) (of_kind k ls)) ≡ joined (of_kind k ls)
unfolding of_kind lines_text joined
rows_joined [] j k r = refl
rows_joined (l ∷ ls) j k r = by (ℕ_discrete (kind_of_line l) k) (rows_joined ls (kind_of_line l) k r.2)
  where
    by : Dec (kind_of_line l ≡ k) → lines_text k (map (row_of k) (of_kind k ls)) ≡ joined (of_kind k ls)
        → lines_text k (map (row_of k) (pick (eqb (kind_of_line l) k) (l ∷ of_kind k ls) (of_kind k ls)))
        ≡ joined (pick (eqb (kind_of_line l) k) (l ∷ of_kind k ls) (of_kind k ls))
    by (yes e) more =
        let t : l ≡ line k (row_of k l) = subst (λ (i : ℕ). l ≡ line i (row_of i l)) e r.1.text in
        rw (eq-eqb (kind_of_line l) k e) (ap (λ (x : List ℕ). x ++ lines_text k (map (row_of k) (of_kind k ls))) (sym t) ∙ ap (λ (x : List ℕ). l ++ x) more)
    by (no e) more = rw (ne_eqb (kind_of_line l) k e) more

text_gathered : (ls : List (List ℕ)) (j k n : ℕ) → Rising j ls → text_from (λ i. map (row_of i) (of_kind i ls)) k n ≡ joined (gather ls k n)
unfolding text_from gather joined
text_gathered ls j k zero r = refl
text_gathered ls j k (suc n) r =
    ap (λ (t : List ℕ). lines_text k (map (row_of k) (of_kind k ls)) ++ t) (text_gathered ls j (suc k) n r)
    ∙ ap (λ (t : List ℕ). t ++ joined (gather ls (suc k) n)) (rows_joined ls j k r)
    ∙ sym (joined_append (of_kind k ls) (gather ls (suc k) n))

rows_are : (ls : List (List ℕ)) (j k : ℕ) → Rising j ls → AreRows k (map (row_of k) (of_kind k ls))
unfolding of_kind
rows_are [] j k r = tt
rows_are (l ∷ ls) j k r = by (ℕ_discrete (kind_of_line l) k) (rows_are ls (kind_of_line l) k r.2)
  where
    by : Dec (kind_of_line l ≡ k) → AreRows k (map (row_of k) (of_kind k ls))
        → AreRows k (map (row_of k) (pick (eqb (kind_of_line l) k) (l ∷ of_kind k ls) (of_kind k ls)))
    by (yes e) more = rw (eq-eqb (kind_of_line l) k e) (subst (λ (i : ℕ). IsRow i (row_of i l)) e r.1.row, more)
    by (no e) more = rw (ne_eqb (kind_of_line l) k e) more

-- the limits hold
pass_within : (ls above : List (List ℕ)) (k : ℕ) → length (of_kind k above) ≤ limit k → AllPass above ls → length (of_kind k (above ++ ls)) ≤ limit k
pass_within [] above k h p = rw (append-nil above) h
pass_within (l ∷ ls) above k h p =
    let a : above ++ (l ∷ ls) ≡ (above ++ (l ∷ [])) ++ ls = sym (append_assoc above (l ∷ []) ls) in
    rw a (pass_within ls (above ++ (l ∷ [])) k (by (ℕ_discrete (kind_of_line l) k)) p.1)
  where
    by : Dec (kind_of_line l ≡ k) → length (of_kind k (above ++ (l ∷ []))) ≤ limit k
    by (yes e) =
        let m : length (of_kind k (above ++ (l ∷ []))) ≡ length (of_kind k above) + 1 = ap length (kind_more above l k e) ∙ simp length-append in
        let q : length (of_kind k above) < limit k = subst (λ (i : ℕ). length (of_kind i above) < limit i) e p.0.room in
        omega arith
    by (no e) = rw (kind_other above l k e) h

-- a kind of which a line is needed is not among those that were found free of such
pub none_at : (n a j : ℕ) → none_needed a n ≡ true → a ≤ j → j < a + n → needed j ≡ true → ⊥
unfolding none_needed
none_at zero a j e h l d = omega arith
none_at (suc n) a j e h l d = by (needed a) refl e (ℕ_discrete a j) (λ r k. none_at n (suc a) j r k (omega arith) d)
  where
    by : (b : Bool) → needed a ≡ b → pick b false (none_needed (suc a) n) ≡ true → Dec (a ≡ j) → (none_needed (suc a) n ≡ true → suc a ≤ j → ⊥) → ⊥
    by true q r c later = not_both (sym r)
    by false q r (yes c) later = not_both (sym d ∙ ap needed (sym c) ∙ q)
    by false q r (no c) later = later r (omega arith)

-- what is asked of each kind, of the lines passed: those before the open kind have their one, those from there on have none yet
pub record AskedSoFar (above : List (List ℕ)) : Type 0 where
  pub fresh : (j : ℕ) → open_of above ≤ j → once j ≡ true → length (of_kind j above) ≡ 0
  pub most : (j : ℕ) → once j ≡ true → length (of_kind j above) ≤ 1
  pub one : (j : ℕ) → j < open_of above → needed j ≡ true → length (of_kind j above) ≡ 1

asked_none : AskedSoFar []
unfolding of_kind open_kind
asked_none = record { fresh = λ j h e. refl; most = λ j e. omega arith; one = λ j h e. absurd (omega arith) }

module _ (above : List (List ℕ)) (l : List ℕ) (order : is_in_order (length above) (latest above) (kind_of_line l) ≡ true) (a : AskedSoFar above) where
  abbrev k : ℕ
  k = kind_of_line l

  abbrev then : List (List ℕ)
  then = above ++ (l ∷ [])

  -- the open kind is the line's own, or behind it where no second may stand
  open_low : k ≤ open_of then
  open_low = omega (arith, open_more above l order, by (once k))
    where
      by : (b : Bool) → k ≤ pick b (suc k) k
      by true = omega arith
      by false = omega arith

  open_past : (j : ℕ) → open_of then ≤ j → once j ≡ true → k ≡ j → ⊥
  open_past j h e q =
      let o : open_of then ≡ suc k = open_more above l order ∙ ap (λ (b : Bool). pick b (suc k) k) (ap once q ∙ e) in
      omega arith

  open_high : (j : ℕ) → j < open_of then → (k ≡ j → ⊥) → j < k
  open_high j h n = by (once k) refl
    where
      by : (b : Bool) → once k ≡ b → j < k
      by true e = omega (arith, open_more above l order ∙ ap (λ (b : Bool). pick b (suc k) k) e)
      by false e = omega (arith, open_more above l order ∙ ap (λ (b : Bool). pick b (suc k) k) e)

  first_here : once k ≡ true → length (of_kind k above) ≡ 0
  first_here e = a.fresh k (order_open above k order).0 e

  one_here : (j : ℕ) → k ≡ j → once j ≡ true → length (of_kind j then) ≡ 1
  one_here j q e =
      let m : length (of_kind j then) ≡ length (of_kind j above) + 1 = ap length (kind_more above l j q) ∙ simp length-append in
      omega (arith, a.fresh j (subst (λ (i : ℕ). open_of above ≤ i) q (order_open above k order).0) e)

  same_else : (j : ℕ) → (k ≡ j → ⊥) → length (of_kind j then) ≡ length (of_kind j above)
  same_else j n = ap length (kind_other above l j n)

  pub asked_more : AskedSoFar then
  asked_more =
      record {
        fresh = λ j h e. same_else j (open_past j h e) ∙ a.fresh j (omega (arith, (order_open above k order).0, open_low)) e;
        most = λ j e. most_by j e (ℕ_discrete k j);
        one = λ j h d. one_by j h d (ℕ_discrete k j);
      }
    where
      most_by : (j : ℕ) → once j ≡ true → Dec (k ≡ j) → length (of_kind j then) ≤ 1
      most_by j e (yes q) = omega (arith, one_here j q e)
      most_by j e (no q) = omega (arith, same_else j q, a.most j e)

      one_by : (j : ℕ) → j < open_of then → needed j ≡ true → Dec (k ≡ j) → length (of_kind j then) ≡ 1
      one_by j h d (yes q) = one_here j q (needed_once j d)
      one_by j h d (no q) =
          let o = order_open above k order in
          same_else j q
          ∙ ⊎_elim (λ i. a.one j i d)
          (λ i. absurd (none_at (k - open_of above) (open_of above) j o.1 i (omega (arith, o.0, open_high j h q)) d))
          (split j (open_of above))

-- so of all lines of a sound text
pub record AskedOf (ls : List (List ℕ)) : Type 0 where
  pub one : (k : ℕ) → k < kinds → needed k ≡ true → length (of_kind k ls) ≡ 1
  pub no_second : (k : ℕ) → once k ≡ true → length (of_kind k ls) ≤ 1

whole_asked : (ls above : List (List ℕ)) → AskedSoFar above → Whole above ls → AskedOf (above ++ ls)
unfolding is_complete
whole_asked [] above a w =
    rw (append-nil above)
    (record {
      one = λ k h d. ⊎_elim (λ i. a.one k i d)
          (λ i. absurd (none_at (kinds - open_of above) (open_of above) k w i (omega arith) d)) (split k (open_of above));
      no_second = a.most;
    })
whole_asked (l ∷ ls) above a w =
    let e : (above ++ (l ∷ [])) ++ ls ≡ above ++ (l ∷ ls) = append_assoc above (l ∷ []) ls in
    subst AskedOf e (whole_asked ls (above ++ (l ∷ [])) (asked_more above l w.0.order a) w.1)

-- what a sound verdict says of a text
pub record IsText (text : List ℕ) (s : Sheet) : Type 0 where
  pub same : render s ≡ text
  pub sheet : IsSheet s
  pub within : Within s

pub sound_sheet : (text : List ℕ) → verdict text ≡ Ok tt → IsText text (sheet_of text)
unfolding render sheet_of of_kind
sound_sheet text e =
    let ls = lines_of text in
    let w = sound_pass ls [] (sym (verdict_lines text) ∙ e) in
    let p = whole_pass ls [] w in
    let r = pass_rising ls [] 0 (omega arith) p in
    let a = whole_asked ls [] asked_none w in
    record {
      same = text_gathered ls 0 0 kinds r ∙ ap joined (gather_all ls 0 kinds r refl) ∙ lines_joined text;
      sheet = record {
        rows = λ k h. rows_are ls 0 k r;
        one = λ k h d. length-map (of_kind k ls) (row_of k) ∙ a.one k h d;
        no_second = λ k h d. omega (arith, length-map (of_kind k ls) (row_of k), a.no_second k d);
      };
      within = λ k h. subst (λ (j : ℕ). j ≤ limit k) (sym (length-map (of_kind k ls) (row_of k))) (pass_within ls [] k (omega arith) p);
    }
