-- Laws of the check: what one line does to the verdict, and what is known of the lines passed.
-- Assumes nothing.
use Prim.Native.Nat.{ℕ, zero, suc, ◌+◌, ◌-◌, ◌≤◌, ◌<◌, max}
use mathlib.Core.Path.{◌≡◌, refl, sym, ap, ◌∙◌, subst}
use mathlib.Core.Bool.{Bool, true, false}
use mathlib.Core.List.{List, [], ◌∷◌, ◌++◌, append_assoc, append-nil}
use mathlib.Core.Logic.{◌⊎◌, inl, inr, ⊎_elim}
use native.Mathlib.Omega.{arith}
use native.Mathlib.Nat.{add-zero}
use lib.ListN.{length, get_or, take, drop, set, replicate, length-append, length-drop, length-take, length-set, length-map, take-append-drop, drop_of_length-le}
use lib.ListN.{get_or-replicate}
use lib.Seq.{take_at, drop-drop, get_or-drop, get_or-set_same, get_or-set_other}
use lib.Dec.{eqb, leb}
use native.Mathlib.Decide.{ℕ_discrete}
use borrow.Author.Tests.{eq-eqb, ne_eqb, leb-true, lt-ltb, le-ltb}
use Rattle.sheet.specs.Kinds.{pick, kinds, limit, once, needed, width, kind_of, lines_to, most_lines}
use Rattle.sheet.specs.Refusal.{lines_of, is_line, kind_of_line, latest, of_kind, is_in_order, fault, refusal, judged, verdict_below, verdict, row_of, sheet_of}
use Rattle.sheet.specs.Refusal.{open_kind, none_needed, is_complete, Checked}
use Rattle.sheet.specs.Next.{line_to, next_at}
use Rattle.std.specs.Prelude.{Ok, Err, Some, None}
use Rattle.sheet.specs.declared.check.Line.{Line}
use Rattle.sheet.proofs.KindLaws.{lines_small}
use Rattle.sheet.proofs.FieldLaws.{not_both, pick_both}
use Rattle.sheet.proofs.LineLaws.{line_is, line_kind, line_lines, First, first_line}
use Rattle.sheet.proofs.NextLaws.{next_of_lem}

pub false_if : (b : Bool) → (b ≡ true → ⊥) → b ≡ false
false_if true h = absurd (h refl)
false_if false h = refl

-- a line that stands at the front of a text is the first of its lines
module _ (x : List ℕ) (k : ℕ) where
  pub known : is_line k (take (width k) x) ≡ true → lines_of x ≡ take (width k) x ∷ lines_of (drop (width k) x)
  known t =
      let i = line_is k (take (width k) x) t in
      ap lines_of (sym (take-append-drop (width k) x) ∙ ap (λ (l : List ℕ). l ++ drop (width k) x) i.text)
      ∙ line_lines k (row_of k (take (width k) x)) (drop (width k) x) i.kind
      ∙ ap (λ (l : List ℕ). l ∷ lines_of (drop (width k) x)) (sym i.text)

  pub known_kind : is_line k (take (width k) x) ≡ true → kind_of_line (take (width k) x) ≡ k
  known_kind t =
      let i = line_is k (take (width k) x) t in
      ap kind_of_line i.text ∙ line_kind k (row_of k (take (width k) x)) i.kind i.row

  pub known_inside : is_line k (take (width k) x) ≡ true → width k ≤ length x
  known_inside t = omega (arith, (line_is k (take (width k) x) t).long, length-take (width k) x)

  pub unknown : (f : First x) → is_line k (take (width k) x) ≡ false → is_line k f.line ≡ false
  unknown f n =
      false_if (is_line k f.line)
      (λ t.
      let e : take (width k) x ≡ f.line = ap (take (width k)) f.text ∙ take_at f.line f.rest (width k) (line_is k f.line t).long in
      not_both (sym (ap (is_line k) e ∙ t) ∙ n))

-- one line and the verdict
module _ (above : List (List ℕ)) (l : List ℕ) (ls : List (List ℕ)) (k : ℕ) (kind : kind_of_line l ≡ k) where
  refused : (n : ℕ) → fault above l ≡ suc n → verdict_below above (l ∷ ls) ≡ refusal (suc n) (length above + 1)
  unfolding verdict_below
  refused n e = ap (λ (m : ℕ). judged m (length above + 1) (verdict_below (above ++ (l ∷ [])) ls)) e

  pub malformed : is_line k l ≡ false → verdict_below above (l ∷ ls) ≡ refusal 14 (length above + 1)
  unfolding fault
  malformed n = refused 13 (rw (kind, n))

  module _ (good : is_line k l ≡ true) where
    pub disordered : is_in_order (length above) (latest above) k ≡ false → verdict_below above (l ∷ ls) ≡ refusal 14 (length above + 1)
    unfolding fault
    disordered n = refused 13 (rw (kind, good, n))

    module _ (order : is_in_order (length above) (latest above) k ≡ true) where
      pub too_many : limit k ≤ length (of_kind k above) → verdict_below above (l ∷ ls) ≡ refusal 15 (length above + 1)
      unfolding fault
      too_many h = refused 14 (rw (kind, good, order, le-ltb (length (of_kind k above)) (limit k) h))

      pub passed : length (of_kind k above) < limit k → verdict_below above (l ∷ ls) ≡ verdict_below (above ++ (l ∷ [])) ls
      unfolding fault verdict_below
      passed h =
          let e : fault above l ≡ 0 = rw (kind, good, order, lt-ltb (length (of_kind k above)) (limit k) h) in
          ap (λ (m : ℕ). judged m (length above + 1) (verdict_below (above ++ (l ∷ [])) ls)) e

-- one more line above
pub kind_more : (above : List (List ℕ)) (l : List ℕ) (k : ℕ) → kind_of_line l ≡ k → of_kind k (above ++ (l ∷ [])) ≡ of_kind k above ++ (l ∷ [])
unfolding of_kind
kind_more [] l k e = rw (eq-eqb (kind_of_line l) k e)
kind_more (a ∷ bs) l k e = pick_append (eqb (kind_of_line a) k) (kind_more bs l k e)
  where
    pick_append : (b : Bool) → of_kind k (bs ++ (l ∷ [])) ≡ of_kind k bs ++ (l ∷ [])
        → pick b (a ∷ of_kind k (bs ++ (l ∷ []))) (of_kind k (bs ++ (l ∷ []))) ≡ pick b (a ∷ of_kind k bs) (of_kind k bs) ++ (l ∷ [])
    pick_append true r = ap (λ (t : List (List ℕ)). a ∷ t) r
    pick_append false r = r

pub kind_other : (above : List (List ℕ)) (l : List ℕ) (k : ℕ) → (kind_of_line l ≡ k → ⊥) → of_kind k (above ++ (l ∷ [])) ≡ of_kind k above
unfolding of_kind
kind_other [] l k e = rw (ne_eqb (kind_of_line l) k e)
kind_other (a ∷ bs) l k e = let r = kind_other bs l k e in rw r

pub latest_more : (above : List (List ℕ)) (l : List ℕ) → latest (above ++ (l ∷ [])) ≡ max (latest above) (kind_of_line l)
unfolding latest
latest_more [] l = omega arith
latest_more (a ∷ bs) l = omega (arith, latest_more bs l)

-- a turn of the loop that looks for a kind that is needed
pub none_stop : (k b : ℕ) → k < b → needed k ≡ true → none_needed k (b - k) ≡ false
unfolding none_needed
none_stop k b h e = let z : b - k ≡ suc (b - suc k) = omega arith in rw (z, e)

pub none_step : (k b : ℕ) → k < b → needed k ≡ false → none_needed k (b - k) ≡ none_needed (k + 1) (b - (k + 1))
unfolding none_needed
none_step k b h e =
    let z : b - k ≡ suc (b - suc k) = omega arith in
    let y : k + 1 ≡ suc k = omega arith in
    rw (z, y, e)

pub none_end : (k b : ℕ) → b ≤ k → none_needed k (b - k) ≡ true
unfolding none_needed
none_end k b h = let z : b - k ≡ 0 = omega arith in rw z

-- the first kind that may stand below some lines
abbrev pub open_of : List (List ℕ) → ℕ
open_of above = open_kind (length above) (latest above)

-- what order says
pub order_open : (above : List (List ℕ)) (k : ℕ) → is_in_order (length above) (latest above) k ≡ true
    → (open_of above ≤ k) × (none_needed (open_of above) (k - open_of above) ≡ true)
unfolding is_in_order
order_open above k e =
    let p = pick_both (leb (open_of above) k) (none_needed (open_of above) (k - open_of above)) e in
    (leb-true (open_of above) k p.0, p.1)

latest_open : (above : List (List ℕ)) → latest above ≤ open_of above
unfolding open_kind latest
latest_open [] = omega arith
latest_open (a ∷ bs) = rw (ne_eqb (suc (length bs)) 0 (omega arith)) (by (once (latest (a ∷ bs))))
  where
    by : (b : Bool) → latest (a ∷ bs) ≤ pick b (suc (latest (a ∷ bs))) (latest (a ∷ bs))
    by true = omega arith
    by false = omega arith

pub order_latest : (above : List (List ℕ)) (k : ℕ) → is_in_order (length above) (latest above) k ≡ true → latest above ≤ k
order_latest above k e = omega (arith, (order_open above k e).0, latest_open above)

-- a line in order opens its kind again, or the one behind it where no second may stand
pub open_more : (above : List (List ℕ)) (l : List ℕ) → is_in_order (length above) (latest above) (kind_of_line l) ≡ true
    → open_of (above ++ (l ∷ [])) ≡ pick (once (kind_of_line l)) (suc (kind_of_line l)) (kind_of_line l)
unfolding open_kind
open_more above l e =
    let m : latest (above ++ (l ∷ [])) ≡ kind_of_line l = omega (arith, latest_more above l, order_latest above (kind_of_line l) e) in
    let n : length (above ++ (l ∷ [])) ≡ suc (length above) = omega (arith, length-append above (l ∷ [])) in
    rw (m, n, ne_eqb (suc (length above)) 0 (omega arith))

-- how many lines there are, by kinds
abbrev Kinded : List (List ℕ) → Type 0
Kinded [] = Unit {0}
Kinded (l ∷ ls) = (kind_of_line l < kinds) × Kinded ls

kinded_more : (above : List (List ℕ)) (l : List ℕ) → Kinded above → kind_of_line l < kinds → Kinded (above ++ (l ∷ []))
kinded_more [] l p h = (h, tt)
kinded_more (a ∷ bs) l p h = (p.0, kinded_more bs l p.1 h)

total : ℕ → List (List ℕ) → ℕ
total zero ls = 0
total (suc n) ls = length (of_kind n ls) + total n ls

total_none : (n : ℕ) → total n [] ≡ 0
unfolding total of_kind
total_none zero = refl
total_none (suc n) = omega (arith, total_none n)

total_same : (n : ℕ) (l : List ℕ) (ls : List (List ℕ)) → n ≤ kind_of_line l → total n (l ∷ ls) ≡ total n ls
unfolding total of_kind
total_same zero l ls h = refl
total_same (suc n) l ls h = rw (ne_eqb (kind_of_line l) n (omega arith)) (omega (arith, total_same n l ls (omega arith)))

total_more : (n : ℕ) (l : List ℕ) (ls : List (List ℕ)) → kind_of_line l < n → total n (l ∷ ls) ≡ suc (total n ls)
unfolding total of_kind
total_more zero l ls h = absurd (omega arith)
total_more (suc n) l ls h = by (ℕ_discrete (kind_of_line l) n) (total_more n l ls)
  where
    by : Dec (kind_of_line l ≡ n) → (kind_of_line l < n → total n (l ∷ ls) ≡ suc (total n ls))
        → length (of_kind n (l ∷ ls)) + total n (l ∷ ls) ≡ suc (length (of_kind n ls) + total n ls)
    by (yes e) m = rw (eq-eqb (kind_of_line l) n e) (omega (arith, total_same n l ls (omega arith)))
    by (no e) m = rw (ne_eqb (kind_of_line l) n e) (omega (arith, m (omega arith)))

total_all : (ls : List (List ℕ)) → Kinded ls → total kinds ls ≡ length ls
total_all [] p = total_none kinds
total_all (l ∷ ls) p = total_more kinds l ls p.0 ∙ ap suc (total_all ls p.1)

total_within : (n : ℕ) (ls : List (List ℕ)) → ((k : ℕ) → k < n → length (of_kind k ls) ≤ limit k) → total n ls ≤ lines_to n
unfolding total lines_to
total_within zero ls w = omega arith
total_within (suc n) ls w = omega (arith, total_within n ls (λ k h. w k (omega arith)), w n (omega arith))

few : (ls : List (List ℕ)) → Kinded ls → ((k : ℕ) → k < kinds → length (of_kind k ls) ≤ limit k) → length ls ≤ most_lines
unfolding most_lines
few ls p w = omega (arith, total_within kinds ls w, total_all ls p)

-- what is known of the lines passed: the verdict is that of the lines left below them
pub record Upto (text counts : List ℕ) (lines m at : ℕ) : Type 0 where
  pub above : List (List ℕ)
  pub inside : at ≤ length text
  pub whole : above ++ lines_of (drop at text) ≡ lines_of text
  pub left : verdict_below above (lines_of (drop at text)) ≡ verdict_below [] (lines_of text)
  pub counted : lines ≡ length above
  pub last : m ≡ latest above
  pub size : length counts ≡ kinds
  pub rows : (k : ℕ) → k < kinds → get_or counts k 0 ≡ length (of_kind k above)
  pub kinded : Kinded above
  pub within : (k : ℕ) → k < kinds → length (of_kind k above) ≤ limit k

pub upto_none : (text : List ℕ) → Upto text (replicate kinds 0) 0 0 0
unfolding latest of_kind
upto_none text =
    record {
      above = [];
      inside = omega arith;
      whole = refl;
      left = refl;
      counted = refl;
      last = refl;
      size = refl;
      rows = λ k h. get_or-replicate kinds k 0 0 h;
      kinded = tt;
      within = λ k h. omega arith;
    }

pub upto_few : (text counts : List ℕ) (lines m at : ℕ) → Upto text counts lines m at → lines < 4294967295
upto_few text counts lines m at u = omega (arith, u.counted, few u.above u.kinded u.within, lines_small)

pub verdict_lines : (text : List ℕ) → verdict text ≡ verdict_below [] (lines_of text)
unfolding verdict
verdict_lines text = refl

-- what the line at a place is, by what the check answers there
pub record Good (text : List ℕ) (lines m at k e : ℕ) : Type 0 where
  pub line : is_line k (take (width k) (drop at text)) ≡ true
  pub order : is_in_order lines m k ≡ true
  pub end : e ≡ at + width k

pub good_moved : (text : List ℕ) (lines m at k e : ℕ) → Good text lines m at k e → at < e
unfolding width
good_moved text lines m at k e g = omega (arith, g.end)

good_by : (a b : Bool) (j f k e : ℕ) → Some (line_to k e) ≡ pick a (pick b (Some (line_to j f)) None) None → (a ≡ true) × (b ≡ true) × (j ≡ k) × (f ≡ e)
good_by true true j f k e q = let u : line_to k e ≡ line_to j f = cc in (refl, refl, sym (ap (λ (l : Line). l.kind) u), sym (ap (λ (l : Line). l.end) u))
good_by true false j f k e q = let z : ◌≡◌ {A = ℕ} 0 1 = cc in absurd (omega arith)
good_by false b j f k e q = let z : ◌≡◌ {A = ℕ} 0 1 = cc in absurd (omega arith)

bad_by : (a b : Bool) (j f : ℕ) → None ≡ pick a (pick b (Some (line_to j f)) None) None → (a ≡ false) ⊎ ((a ≡ true) × (b ≡ false))
bad_by true true j f q = let z : ◌≡◌ {A = ℕ} 0 1 = cc in absurd (omega arith)
bad_by true false j f q = inr (refl, refl)
bad_by false b j f q = inl refl

module _ (text counts : List ℕ) (lines m at : ℕ) (u : Upto text counts lines m at) (h : at < length text) where
  here : ℕ
  here = kind_of (get_or text at 0)

  some_left : 0 < length (drop at text)
  some_left = omega (arith, length-drop at text)

  kind_of_head : (f : First (drop at text)) → kind_of_line f.line ≡ here
  unfolding here kind_of_line
  kind_of_head f = ap kind_of (f.head ∙ get_or-drop at text 0 0 ∙ ap (λ (j : ℕ). get_or text j 0) (add-zero at))

  pub next_good : (k e : ℕ) → Some (line_to k e) ≡ next_at text at lines m → Good text lines m at k e
  unfolding here
  next_good k e q =
      let p = good_by (is_line here (take (width here) (drop at text))) (is_in_order lines m here) here (at + width here) k e
      (q ∙ sym (next_of_lem text at lines m here refl)) in
      let z : here ≡ k = p.2 in
      record {
        line = subst (λ (j : ℕ). is_line j (take (width j) (drop at text)) ≡ true) z p.0;
        order = subst (λ (j : ℕ). is_in_order lines m j ≡ true) z p.1;
        end = sym p.3 ∙ ap (λ (j : ℕ). at + width j) z;
      }

  -- the verdict, from that of the lines left
  said : (n : ℕ) → verdict_below u.above (lines_of (drop at text)) ≡ refusal n (length u.above + 1) → verdict text ≡ refusal n (lines + 1)
  said n e = verdict_lines text ∙ sym u.left ∙ e ∙ ap (λ (j : ℕ). refusal n (j + 1)) (sym u.counted)

  order_there : (k : ℕ) (b : Bool) → is_in_order lines m k ≡ b → is_in_order (length u.above) (latest u.above) k ≡ b
  order_there k b e = rw (← u.counted, ← u.last) e

  pub next_bad : None ≡ next_at text at lines m → verdict text ≡ refusal 14 (lines + 1)
  unfolding here
  next_bad q =
      let x = drop at text in
      let f = first_line x some_left in
      let head : kind_of_line f.line ≡ here = kind_of_head f in
      ⊎_elim
      (λ n. said 14 (ap (verdict_below u.above) f.lines ∙ malformed u.above f.line f.others here head (unknown x here f n)))
      (λ p. said 14 (ap (verdict_below u.above) (known x here p.0)
      ∙ disordered u.above (take (width here) x) (lines_of (drop (width here) x)) here (known_kind x here p.0) p.0 (order_there here false p.1)))
      (bad_by (is_line here (take (width here) x)) (is_in_order lines m here) here (at + width here) (q ∙ sym (next_of_lem text at lines m here refl)))

  module _ (k e : ℕ) (g : Good text lines m at k e) where
    pub good_kind : k < kinds
    good_kind = (line_is k (take (width k) (drop at text)) g.line).kind

    rows_there : length (of_kind k u.above) ≡ get_or counts k 0
    rows_there = sym (u.rows k good_kind)

    pub next_many : limit k ≤ get_or counts k 0 → verdict text ≡ refusal 15 (lines + 1)
    next_many n =
        let x = drop at text in
        said 15
        (ap (verdict_below u.above) (known x k g.line)
        ∙ too_many u.above (take (width k) x) (lines_of (drop (width k) x)) k (known_kind x k g.line) g.line (order_there k true g.order)
        (omega (arith, rows_there)))

    rest_there : lines_of (drop at text) ≡ take (width k) (drop at text) ∷ lines_of (drop e text)
    rest_there =
        known (drop at text) k g.line
        ∙ ap (λ (r : List ℕ). take (width k) (drop at text) ∷ lines_of r) (drop-drop (width k) at text ∙ ap (λ (j : ℕ). drop j text) (sym g.end))

    -- the lines of each kind with one more above
    counts_then : (j : ℕ) → j < kinds → Dec (j ≡ k) → (get_or (set counts k (get_or counts k 0 + 1)) j 0
        ≡ length (of_kind j (u.above ++ (take (width k) (drop at text) ∷ []))))
        × (get_or counts k 0 < limit k → get_or (set counts k (get_or counts k 0 + 1)) j 0 ≤ limit j)
    counts_then j h (yes p) =
        let l = take (width k) (drop at text) in
        let kind : kind_of_line l ≡ j = known_kind (drop at text) k g.line ∙ sym p in
        let a : get_or (set counts k (get_or counts k 0 + 1)) j 0 ≡ get_or counts k 0 + 1 = ap (λ (i : ℕ). get_or (set counts k (get_or counts k 0 + 1)) i 0) p
        ∙ get_or-set_same counts k (get_or counts k 0 + 1) 0 (omega (arith, good_kind, u.size)) in
        let b : length (of_kind j (u.above ++ (l ∷ []))) ≡ length (of_kind j u.above) + 1 = ap length (kind_more u.above l j kind) ∙ simp length-append in
        let r : get_or counts k 0 ≡ length (of_kind j u.above) = ap (λ (i : ℕ). get_or counts i 0) (sym p) ∙ u.rows j h in
        let t : limit j ≡ limit k = ap limit p in
        (omega arith, λ n. omega arith)
    counts_then j h (no p) =
        let l = take (width k) (drop at text) in
        let a : get_or (set counts k (get_or counts k 0 + 1)) j 0 ≡ get_or counts j 0 = get_or-set_other counts k j (get_or counts k 0 + 1) 0 p in
        let b : length (of_kind j (u.above ++ (l ∷ []))) ≡ length (of_kind j u.above) =
        ap length (kind_other u.above l j (λ q. p (sym q ∙ known_kind (drop at text) k g.line))) in
        (omega (arith, u.rows j h), λ n. omega (arith, u.rows j h, u.within j h))

    pub next_pass : get_or counts k 0 < limit k → Upto text (set counts k (get_or counts k 0 + 1)) (lines + 1) k e
    next_pass n =
        let l = take (width k) (drop at text) in
        let kind : kind_of_line l ≡ k = known_kind (drop at text) k g.line in
        record {
          above = u.above ++ (l ∷ []);
          inside = omega (arith, known_inside (drop at text) k g.line, length-drop at text, g.end);
          whole = append_assoc u.above (l ∷ []) (lines_of (drop e text)) ∙ ap (λ (r : List (List ℕ)). u.above ++ r) (sym rest_there) ∙ u.whole;
          left =
              sym (ap (verdict_below u.above) rest_there ∙ passed u.above l (lines_of (drop e text)) k kind g.line (order_there k true g.order)
              (omega (arith, rows_there))) ∙ u.left;
          counted = simp length-append (omega (arith, u.counted));
          last = omega (arith, latest_more u.above l, kind, order_latest u.above k (order_there k true g.order));
          size = length-set counts k (get_or counts k 0 + 1) ∙ u.size;
          rows = λ j h. (counts_then j h (ℕ_discrete j k)).0;
          kinded = kinded_more u.above l u.kinded (subst (λ (j : ℕ). j < kinds) (sym kind) good_kind);
          within = λ j h. omega (arith, (counts_then j h (ℕ_discrete j k)).0, (counts_then j h (ℕ_discrete j k)).1 n);
        }

-- nothing is left: the text is sound, or a line is missing
module _ (text counts : List ℕ) (lines m at : ℕ) (u : Upto text counts lines m at) (h : length text ≤ at) where
  none_left : drop at text ≡ []
  none_left = drop_of_length-le text h

  ended : verdict text ≡ pick (is_complete (length u.above) (latest u.above)) (Ok tt) (refusal 14 (length u.above + 1))
  unfolding verdict_below lines_of
  ended = verdict_lines text ∙ sym u.left ∙ ap (λ (x : List ℕ). verdict_below u.above (lines_of x)) none_left

  end_there : (b : Bool) → b ≡ is_complete lines m → is_complete (length u.above) (latest u.above) ≡ b
  end_there b e = rw (← u.counted, ← u.last) (sym e)

  pub upto_missing : false ≡ is_complete lines m → verdict text ≡ refusal 14 (lines + 1)
  upto_missing e =
      ended
      ∙ ap (λ (b : Bool). pick b (Ok tt) (refusal 14 (length u.above + 1))) (end_there false e)
      ∙ ap (λ (j : ℕ). refusal 14 (j + 1)) (sym u.counted)

  pub upto_end : true ≡ is_complete lines m → Checked text (Ok counts)
  unfolding lines_of sheet_of
  upto_end t =
      let e : verdict text ≡ Ok tt = ended ∙ ap (λ (b : Bool). pick b (Ok tt) (refusal 14 (length u.above + 1))) (end_there true t) in
      let w : u.above ≡ lines_of text = sym (append-nil u.above) ∙ ap (λ (x : List ℕ). u.above ++ lines_of x) (sym none_left) ∙ u.whole in
      record {
        answer = sym e;
        counted = record {
          rows = λ k l. u.rows k l ∙ ap (λ (x : List (List ℕ)). length (of_kind k x)) w ∙ sym (length-map (of_kind k (lines_of text)) (row_of k));
          within = λ k l. omega (arith, u.rows k l, u.within k l);
        };
      }

-- a text that is refused
pub refused_checked : (text : List ℕ) (n p : ℕ) → verdict text ≡ refusal n p → Checked text (Err (record { number = n; line = p }))
refused_checked text n p e = record { answer = sym e; counted = tt }
