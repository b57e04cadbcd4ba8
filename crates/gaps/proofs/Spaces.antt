-- The gaps of a space as they are stored: what is left, stored into the columns as they are, gives what all of them give
use mathlib.Core.Path.{◌≡◌, refl, sym, ap, ◌∙◌, subst}
use mathlib.Core.List.{List, [], ◌∷◌}
use Prim.Native.Nat.{ℕ, suc, ◌+◌, ◌-◌, ◌≤◌, ◌<◌, max}
use native.Mathlib.Omega.{arith}
use lib.Ieee.{Float, binary32, add}
use lib.ListN.{length, get_or, length-set, length-append}
use Rattle.columns.specs.Table.{stored_in}
use Rattle.numbers.specs.Weight.{zero_weight}
use Rattle.links.specs.Links.{beside, on_side}
use Rattle.links.specs.declared.lower.Side.{Side}
use Rattle.links.specs.declared.lower.Side.TheVariants.{Previous, Next}
use Rattle.gaps.specs.Gaps.{Gap, gap_weight, spanned, in_order, cut_gaps}
use Rattle.numbers.specs.Sum.{plus}
use Rattle.gaps.specs.Cutting.{CutColumns, with_row, with_gap, stored_gaps, CutRows}
use Rattle.gaps.specs.Cutting.{Leads, followed, cuts_in, freq_in, space_gaps, Alike}
use Rattle.gaps.specs.declared.cutting.Space.{Space}
use Rattle.gaps.proofs.Cuts.{next_cut, one_more, followed_end, all_enough}
use Rattle.gaps.proofs.StoredGaps.{stored_last, rows_with, rows_fewer}
use Rattle.std.specs.Prelude.{Some, None}

-- ---- one gap more than cuts
order_length : (side : Side) (g : Gap) (gs : List Gap) → length (in_order side g gs) ≡ suc (length gs)
order_length Previous g gs = length-append gs (g ∷ []) ∙ omega arith
order_length Next g gs = refl

pub cut_gaps_length : (side : Side) (freqOf : ℕ → Float) (edge_of : ℕ → ℕ) (end : ℕ) (ws : List Float) (e : ℕ) (w : Float) (b : ℕ) (cs : List ℕ)
    → length (cut_gaps side freqOf edge_of end ws e w b cs) ≡ suc (length cs)
unfolding cut_gaps
cut_gaps_length side freqOf edge_of end ws e w b [] = refl
cut_gaps_length side freqOf edge_of end ws e w b (c ∷ cs) =
    order_length side (spanned side e (edge_of c) (w ∷ []) (freqOf b) b) (cut_gaps side freqOf edge_of end ws (edge_of c) zero_weight c cs)
    ∙ ap suc (cut_gaps_length side freqOf edge_of end ws (edge_of c) zero_weight c cs)

-- ---- the row of the next gap, of k + 1 that are left of all: the last of them on the left, the first on the right
pub Place : Side → ℕ → ℕ → ℕ → ℕ → Type 0
Place Previous n at k all = (at ≡ n + k) × (k < all)
Place Next n at k all = (at + k + 1 ≡ n + all) × (n ≤ at)

module _ (n : ℕ) where
  place_first : (side : Side) (k : ℕ) → Place side n (n + on_side side k 0) k (suc k)
  unfolding Place
  place_first Previous k = (refl, omega arith)
  place_first Next k = (omega arith, omega arith)

  place_inside : (side : Side) (at k all : ℕ) → Place side n at k all → at < n + all
  unfolding Place
  place_inside Previous at k all p = omega (arith, p.0, p.1)
  place_inside Next at k all p = omega (arith, p.0)

  place_next : (side : Side) (at k all : ℕ) → Place side n at (suc k) all → Place side n (on_side side (at - 1) (at + 1)) k all × (on_side side 1 0 ≤ at)
  unfolding Place
  place_next Previous at k all p = ((omega (arith, p.0), omega (arith, p.1)), omega (arith, p.0))
  place_next Next at k all p = ((omega (arith, p.0), omega (arith, p.1)), omega arith)

  place_used : (side : Side) (at k all : ℕ) → all ≡ suc k → Place side n at 0 all → max (n + on_side side k 0) at + 1 ≡ n + all
  unfolding Place
  place_used Previous at k all e p = omega (arith, e, p.0)
  place_used Next at k all e p = omega (arith, e, p.0)

  -- the next gap and those left, stored
  place_stored : (side : Side) (at : ℕ) (g : Gap) (gs : List Gap) (all : ℕ) (cols : CutColumns) → Place side n at (length gs) all
      → stored_gaps (on_side side n at) (in_order side g gs) cols ≡ stored_gaps (on_side side n (on_side side (at - 1) (at + 1))) gs (with_gap cols at g)
  unfolding stored_in Place
  place_stored Previous at g gs all cols p = stored_last n gs g cols ∙ ap (λ (x : ℕ). stored_gaps n gs (with_gap cols x g)) (sym p.0)
  place_stored Next at g gs all cols p = let z : suc at ≡ at + 1 = omega arith in ap (λ (x : ℕ). stored_gaps x gs (with_gap cols at g)) z

  place_one : (side : Side) (at : ℕ) (g : Gap) (all : ℕ) (cols : CutColumns) → Place side n at 0 all
      → stored_gaps (on_side side n at) (g ∷ []) cols ≡ with_gap cols at g
  unfolding stored_in Place
  place_one Previous at g all cols p = let z : n ≡ at = omega (arith, p.0) in ap (λ (x : ℕ). with_gap cols x g) z
  place_one Next at g all cols p = refl

  start_same : (side : Side) (k : ℕ) (gs : List Gap) (cols : CutColumns) → stored_gaps (on_side side n (n + on_side side k 0)) gs cols ≡ stored_gaps n gs cols
  start_same Previous k gs cols = refl
  start_same Next k gs cols = let z : n + 0 ≡ n = omega arith in ap (λ (x : ℕ). stored_gaps x gs cols) z

-- ---- the columns are as long as they were
pub record Same (lent cols : CutColumns) : Type 0 where
  pub from : length cols.froms ≡ length lent.froms
  pub to : length cols.tos ≡ length lent.tos
  pub weight : length cols.weights ≡ length lent.weights
  pub freq : length cols.freqs ≡ length lent.freqs
  pub block : length cols.blocks ≡ length lent.blocks

pub same_itself : (cols : CutColumns) → Same cols cols
same_itself cols = record { from = refl; to = refl; weight = refl; freq = refl; block = refl }

pub same_then : (lent cols after : CutColumns) → Same lent cols → Same cols after → Same lent after
same_then lent cols after s t =
    record {
      from = t.from ∙ s.from;
      to = t.to ∙ s.to;
      weight = t.weight ∙ s.weight;
      freq = t.freq ∙ s.freq;
      block = t.block ∙ s.block;
    }

pub same_with : (lent cols : CutColumns) (at from to : ℕ) (weight freq : Float) (block : ℕ) → Same lent cols
    → Same lent (with_row cols at from to weight freq block)
same_with lent cols at from to weight freq block s =
    let a = s.from in
    let b = s.to in
    let c = s.weight in
    let d = s.freq in
    let e = s.block in
    record { from = simp length-set a; to = simp length-set b; weight = simp length-set c; freq = simp length-set d; block = simp length-set e }

pub same_stored : (at : ℕ) (gs : List Gap) (cols : CutColumns) → Same cols (stored_gaps at gs cols)
unfolding stored_in
same_stored at [] cols = same_itself cols
same_stored at (g ∷ gs) cols =
    same_then cols (with_gap cols at g) (stored_gaps (suc at) gs (with_gap cols at g))
    (same_with cols cols at g.from g.to (gap_weight g) g.freq g.block (same_itself cols)) (same_stored (suc at) gs (with_gap cols at g))

-- ---- the storing of a space's gaps, before its next cut
module _ (side : Side) (freqs edges links : List ℕ) (s : Space) (n : ℕ) (lent : CutColumns) where
  abbrev edge_in : ℕ → ℕ
  edge_in c = get_or edges c 0

  abbrev all : List Gap
  all = space_gaps side freqs edges links s

  abbrev rest : ℕ → ℕ → Float → ℕ → List Gap
  rest fuel e w b = cut_gaps side (freq_in freqs) edge_in s.end.0 (s.far ∷ s.main ∷ []) e w b (followed side links s.last.0 fuel b)

  pub record Storing (cols : CutColumns) (b at e : ℕ) (w : Float) : Type 0 where
    pub leads : Leads side links
    pub alike : Alike freqs edges links
    pub inside : b < length links
    pub fuel : ℕ
    pub enough : beside side (length links) b ≤ fuel
    pub rows : CutRows (n + length all) cols
    pub same : Same lent cols
    pub place : Place side n at (length (followed side links s.last.0 fuel b)) (length all)
    pub gives : stored_gaps (on_side side n at) (rest fuel e w b) cols ≡ stored_gaps n all lent

  abbrev cuts_long : ℕ
  cuts_long = length (cuts_in side links s.last.0 s.block.0)

  all_length : length all ≡ suc cuts_long
  all_length =
      cut_gaps_length side (freq_in freqs) edge_in s.end.0 (s.far ∷ s.main ∷ []) s.edge.0 s.near s.block.0
      (cuts_in side links s.last.0 s.block.0)

  pub storing_starts : Leads side links → Alike freqs edges links → s.block.0 < length links → CutRows (n + length all) lent → (at : ℕ)
      → at ≡ n + on_side side cuts_long 0
      → Storing lent s.block.0 at s.edge.0 s.near
  storing_starts leads alike h rows at q =
      record {
        leads = leads;
        alike = alike;
        inside = h;
        fuel = length links;
        enough = all_enough side (length links) s.block.0 h;
        rows = rows;
        same = same_itself lent;
        place =
            subst (λ (x : ℕ). Place side n x cuts_long (length all)) (sym q)
            (subst (λ (x : ℕ). Place side n (n + on_side side cuts_long 0) cuts_long x) (sym all_length) (place_first n side cuts_long));
        gives = ap (λ (x : ℕ). stored_gaps (on_side side n x) all lent) q ∙ start_same n side cuts_long all lent;
      }

  pub first_inside : n + on_side side cuts_long 0 < n + length all
  first_inside =
      subst (λ (x : ℕ). n + on_side side cuts_long 0 < n + x) (sym all_length)
      (place_inside n side (n + on_side side cuts_long 0) cuts_long (suc cuts_long) (place_first n side cuts_long))

  module _ (cols : CutColumns) (b at e : ℕ) (w : Float) (k : Storing cols b at e w) where
    pub row_inside : CutRows (at + 1) cols
    row_inside =
        let r = k.rows in
        let p = place_inside n side at (length (followed side links s.last.0 k.fuel b)) (length all) k.place in
        rows_fewer (at + 1) (n + length all) cols (omega (arith, p)) r

    -- a cut: the gap up to it is stored
    pub storing_next : (c : ℕ) → next_cut side links s.last.0 b ≡ Some (record { 0 = c })
        → Storing (with_row cols at (on_side side (edge_in c) e) (on_side side e (edge_in c)) w (freq_in freqs b) b) c (on_side side (at - 1) (at + 1)) (edge_in c)
        zero_weight
        × (beside side (length links) c < beside side (length links) b) × (c < length links) × (on_side side 1 0 ≤ at)
    unfolding cut_gaps plus
    storing_next c q =
        let m = one_more side links k.leads s.last.0 b c k.fuel k.inside k.enough q in
        let g = spanned side e (edge_in c) (w ∷ []) (freq_in freqs b) b in
        let left = rest m.fuel_after (edge_in c) zero_weight c in
        let more = ap length m.more in
        let p : Place side n at (suc (length (followed side links s.last.0 m.fuel_after c))) (length all) =
        subst (λ (x : ℕ). Place side n at x (length all)) more k.place in
        let t = place_next n side at (length (followed side links s.last.0 m.fuel_after c)) (length all) p in
        let long =
        cut_gaps_length side (freq_in freqs) edge_in s.end.0 (s.far ∷ s.main ∷ []) (edge_in c) zero_weight c
        (followed side links s.last.0 m.fuel_after c) in (
          record {
            leads = k.leads;
            alike = k.alike;
            inside = m.inside;
            fuel = m.fuel_after;
            enough = m.enough;
            rows = rows_with (n + length all) at (on_side side (edge_in c) e) (on_side side e (edge_in c)) w (freq_in freqs b) b cols k.rows;
            same = same_with lent cols at (on_side side (edge_in c) e) (on_side side e (edge_in c)) w (freq_in freqs b) b k.same;
            place = t.0;
            gives = sym (place_stored n side at g left (length all) cols (subst (λ (x : ℕ). Place side n at x (length all)) (sym long) p))
                ∙ ap (λ (cs : List ℕ). stored_gaps (on_side side n at) (cut_gaps side (freq_in freqs) edge_in s.end.0 (s.far ∷ s.main ∷ []) e w b cs) cols)
                (sym m.more)
                ∙ k.gives;
          },
          m.fewer,
          m.inside,
          t.1,
        )

    -- no cut any more: with the gap up to the farther use all are stored
    pub storing_ends : next_cut side links s.last.0 b ≡ None
        → (with_row cols at (on_side side s.end.0 e) (on_side side e s.end.0) (add binary32 (add binary32 w s.far) s.main) (freq_in freqs b) b
        ≡ stored_gaps n all lent)
        × (max (n + on_side side cuts_long 0) at + 1 ≡ n + length all)
    unfolding cut_gaps plus
    storing_ends q =
        let f = followed_end side links s.last.0 b k.fuel q in
        let p : Place side n at 0 (length all) = subst (λ (cs : List ℕ). Place side n at (length cs) (length all)) f k.place in
        let g = spanned side e s.end.0 (w ∷ s.far ∷ s.main ∷ []) (freq_in freqs b) b in (
          sym (place_one n side at g (length all) cols p)
              ∙ ap (λ (cs : List ℕ). stored_gaps (on_side side n at)
              (cut_gaps side (freq_in freqs) edge_in s.end.0 (s.far ∷ s.main ∷ []) e w b cs) cols) (sym f)
              ∙ k.gives,
          place_used n side at cuts_long (length all) all_length p,
        )

    -- the same, of what the calls answer
    pub storing_step : (c : ℕ) → next_cut side links s.last.0 b ≡ Some (record { 0 = c }) → {cols' : CutColumns} {f : Float} {at' : ℕ} → f ≡ freq_in freqs b
        → cols' ≡ with_row cols at (on_side side (edge_in c) e) (on_side side e (edge_in c)) w f b → at' ≡ on_side side (at - 1) (at + 1)
        → Storing cols' c at' (edge_in c) zero_weight
    storing_step c q {cols'} {f} {at'} ef ec ea =
        subst (λ (x : ℕ). Storing cols' c x (edge_in c) zero_weight) (sym ea)
        (subst (λ (x : CutColumns). Storing x c (on_side side (at - 1) (at + 1)) (edge_in c) zero_weight)
        (sym (ec ∙ ap (λ (x : Float). with_row cols at (on_side side (edge_in c) e) (on_side side e (edge_in c)) w x b) ef)) (storing_next c q).0)

    pub storing_done : next_cut side links s.last.0 b ≡ None → {cols' : CutColumns} {f : Float} {first r : ℕ} → f ≡ freq_in freqs b
        → cols' ≡ with_row cols at (on_side side s.end.0 e) (on_side side e s.end.0) (add binary32 (add binary32 w s.far) s.main) f b
        → first ≡ n + on_side side cuts_long 0 → r ≡ max first at → (r + 1 ≡ n + length all) × (cols' ≡ stored_gaps n all lent)
    storing_done q ef ec e1 er = (
      ap (λ (x : ℕ). x + 1) (er ∙ ap (λ (x : ℕ). max x at) e1) ∙ (storing_ends q).1,
      ec ∙ ap (λ (x : Float). with_row cols at (on_side side s.end.0 e) (on_side side e s.end.0) (add binary32 (add binary32 w s.far) s.main) x b) ef
          ∙ (storing_ends q).0,
    )
