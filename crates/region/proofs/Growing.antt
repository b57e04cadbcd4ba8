-- Growth and its walkers from try to try: a try can be made, the walkers stand right after it, and in the end the region's proposal is the answer
use mathlib.Core.Path.{◌≡◌, refl, sym, ap, ◌∙◌, subst}
use mathlib.Core.Logic.{⊎_elim}
use Prim.Native.Nat.{ℕ, ◌+◌, ◌-◌, ◌≤◌, ◌<◌, max}
use native.Mathlib.Nat.{le_trans, le_of_eq}
use native.Mathlib.Omega.{arith}
use mathlib.Core.Bool.{false, true≢false}
use lib.Dec.{T, leb}
use lib.Ieee.{Float}
use lib.ListN.{length, get_or}
use borrow.Author.Tests.{lt-ltb, le-ltb, eq-eqb, ne_eqb}
use Rattle.numbers.specs.Weight.{Weight, finite, units_of, zero_weight, heavier}
use Rattle.columns.proofs.Tests.{cond_true, cond_false}
use Rattle.numbers.proofs.Units.{units_inj, zero_finite, zero_units}
use Rattle.numbers.proofs.Heaviest.{heavier_weight, heavier_units, heaviest_weight}
use Rattle.columns.specs.First.{FirstIn}
use Rattle.columns.proofs.Firsts.{split}
use Rattle.links.specs.declared.lower.Side.{Side}
use Rattle.links.specs.declared.lower.Side.TheVariants.{Previous, Next}
use Rattle.links.specs.Links.{on_side}
use Rattle.walks.specs.declared.meeting.Register.{Register}
use Rattle.walks.specs.declared.walk.Walk.{Walk}
use Rattle.walks.specs.declared.both.Walkers.{Walkers}
use Rattle.walks.specs.Meeting.{Reserved, fixed_met_any, weights_met_all}
use Rattle.walks.specs.Ways.{Upto, other_side, first_end, last_end, AnyAhead, row_ahead}
use Rattle.walks.specs.Standing.{StandsInUnits}
use Rattle.walks.specs.Gaps.{segments_of_gap, heaviest_in_gap, OrderedGaps, GapsFrom, begin_at, At, Walkable, walk_on}
use Rattle.overlaps.specs.GapSegments.{SegmentColumns}
use Rattle.walks.proofs.GapWalk.{begins, gaps_found}
use Rattle.walks.proofs.Sets.{all_weights}
use Rattle.growth.specs.Growth.{GapsSeen, gaps_in, weights_in, growth, is_open, tried, own_tried}
use Rattle.growth.specs.Columns.{number_at, float_at, span_of, state_of, InsideGaps, CountFits, turn_of, grown_with, tried_with, no_growth}
use Rattle.growth.specs.Columns.{after_with, after_tried, Going}
use Rattle.growth.specs.Proposal.{region_of}
use Rattle.growth.specs.declared.step.Came.{Came}
use Rattle.growth.specs.declared.step.Came.TheVariants as Came·is
use Rattle.growth.specs.declared.step.Grown.{Grown}
use Rattle.growth.specs.declared.step.Growth.{Growth}
use Rattle.growth.specs.declared.step.Tried.{Tried}
use Rattle.growth.proofs.Tries.{not_is, open_free, open_left, left_to_try}
use Rattle.growth.proofs.Proposals.{growth_met}
use Rattle.growth.proofs.Loop.{TurnOf, own_tried_lem, own_after, answer_nothing, going_start, going_open, going_inside, going_after, going_less, going_found}
use Rattle.growth.proofs.Loop.{going_tried, going_count_fits, going_gap, going_other}
use Rattle.region.specs.OneTry.{gap_on, insts_at, Triable, tried_on, Relies, Attempts}
use Rattle.region.specs.Find.{GapRows, seen_of, InRows, edge_on, barred_at, Due, own_try, its_turn, Reached, Answers, point_at}
use Rattle.region.specs.declared.one_try.Attempt.{Attempt}
use Rattle.std.specs.Prelude.{None, Option, Some}

-- ---- the ends of a region, side by side
-- the gap just outside begins at the region's end
near_edge : (side : Side) (now : Growth) → on_side side 1 0 ≤ now.region.left → first_end side (gap_on side now) (gap_on side now + 1) ≡ edge_on side now.region
near_edge Previous now h = omega (arith, h)
near_edge Next now h = refl

-- with it the region ends at the gap's far edge
far_edge : (side : Side) (gap : ℕ) (g : Grown) (w : Float) (n : ℕ) (h : Float) → last_end side gap (gap + 1) ≡ edge_on side (grown_with side gap g w n h)
far_edge Previous gap g w n h = refl
far_edge Next gap g w n h = refl

-- a side that is not barred by a try on it has grown
same_side : (c : Came) (side : Side) (r : Grown) (now : Growth) → barred_at side (after_with c side r now) ≡ false
    → edge_on side r ≡ edge_on side (after_with c side r now).region
same_side Came·is.Grown side r now e = refl
same_side Came·is.Fixed Previous r now e = absurd (true≢false e)
same_side Came·is.Fixed Next r now e = absurd (true≢false e)
same_side Came·is.Weight Previous r now e = absurd (true≢false e)
same_side Came·is.Weight Next r now e = absurd (true≢false e)

-- and the other side is as it was
other_barred : (c : Came) (side : Side) (r : Grown) (now : Growth) → barred_at (other_side side) (after_with c side r now) ≡ barred_at (other_side side) now
other_barred Came·is.Grown side r now = refl
other_barred Came·is.Fixed Previous r now = refl
other_barred Came·is.Fixed Next r now = refl
other_barred Came·is.Weight Previous r now = refl
other_barred Came·is.Weight Next r now = refl

other_edge : (c : Came) (side : Side) (gap : ℕ) (w : Float) (n : ℕ) (h : Float) (now : Growth)
    → edge_on (other_side side) now.region ≡ edge_on (other_side side) (after_with c side (grown_with side gap now.region w n h) now).region
other_edge Came·is.Grown Previous gap w n h now = refl
other_edge Came·is.Grown Next gap w n h now = refl
other_edge Came·is.Fixed side gap w n h now = refl
other_edge Came·is.Weight side gap w n h now = refl

-- what holds of a side and of the other holds of both
pub both_sides : (P : Side → Type 0) (side : Side) → P side → P (other_side side) → (s : Side) → P s
both_sides P Previous p q Previous = p
both_sides P Previous p q Next = q
both_sides P Next p q Previous = q
both_sides P Next p q Next = p

module _ (p : Register) (t : Reserved) (g : SegmentColumns) (gaps : GapRows) (own k : ℕ) (table : InRows p t g gaps own k) where
  abbrev seen : GapsSeen
  seen = seen_of p t g gaps own k

  -- the heavier of zero and a weight is that weight
  heavier_zero : {w : Float} → Weight w → heavier zero_weight w ≡ w
  heavier_zero {w} h =
      units_inj (heavier_weight (finite zero_finite) h) h (heavier_units (finite zero_finite) h ∙ none (units_of zero_weight) (units_of w) zero_units)
    where
      none : (a b : ℕ) → a ≡ 0 → max a b ≡ b
      none a b e = omega (arith, e)

  -- ---- a try that is due
  module _ (now : Growth) (side : Side) (due : Due seen now side) where
    -- can be made
    due_gap : gap_on side now < seen.count
    due_gap = by due
      where
        by : Due seen now side → gap_on side now < seen.count
        by (own_try e f) =
            subst (λ (x : Growth). gap_on side x < seen.count) (sym e)
            (subst (λ (s : Side). gap_on s (no_growth own) < seen.count) (sym f) table.sound.inside)
        by (its_turn going turn) = going_gap seen table.sound now side going turn

    due_some : on_side side 1 0 ≤ now.region.left
    due_some = by due
      where
        some : (s : Side) → T (is_open s seen (state_of now)) → on_side s 1 0 ≤ now.region.left
        some Previous o = open_left seen (state_of now) o
        some Next o = omega arith

        by : Due seen now side → on_side side 1 0 ≤ now.region.left
        by (own_try e f) = subst (λ (s : Side). on_side s 1 0 ≤ now.region.left) (sym f) (omega arith)
        by (its_turn going turn) = some side (going_open seen now side turn)

    pub due_triable : Triable side gaps.weights gaps.lives now
    due_triable =
        record {
          some = due_some;
          weight = le_trans due_gap (le_of_eq (sym table.weights_long));
          live = le_trans due_gap (le_of_eq (sym table.lives_long));
          few = let a = table.few in let b = due_gap in omega (arith, a, b);
        }

    -- the instructions that it adds
    going_insts : Going seen now → TurnOf seen now (Some side) → insts_at gaps.lives own (gap_on side now) ≡ number_at gaps.lives (gap_on side now)
    going_insts going turn = cond_false _ _ (ne_eqb (gap_on side now) own (going_other seen table.sound now side going turn))

    -- what it relies on
    due_heaviest : Weight now.region.heaviest
    due_heaviest = by due
      where
        by : Due seen now side → Weight now.region.heaviest
        by (own_try e f) = subst (λ (x : Growth). Weight x.region.heaviest) (sym e) (finite zero_finite)
        by (its_turn going turn) =
            subst (λ (x : Growth). Weight x.region.heaviest) (sym going.is_after)
            (heaviest_weight (weights_in seen.met (gaps_in (growth seen going.tries).region)) (growth_met seen table.sound going.tries))

    due_count : CountFits now.region (insts_at gaps.lives own (gap_on side now))
    due_count = by due
      where
        by : Due seen now side → CountFits now.region (insts_at gaps.lives own (gap_on side now))
        by (own_try e f) =
            subst (λ (x : Growth). CountFits x.region (insts_at gaps.lives own (gap_on side x))) (sym e)
            (subst (λ (s : Side). CountFits (no_growth own).region (insts_at gaps.lives own (gap_on s (no_growth own)))) (sym f)
            (subst (λ (n : ℕ). CountFits (no_growth own).region n) (sym (cond_true _ _ (eq-eqb own own refl))) (omega arith)))
        by (its_turn going turn) =
            subst (CountFits now.region) (sym (going_insts going turn)) (going_count_fits seen table.sound now side going turn)

    -- on its side the walk stands at the region's end
    due_free : barred_at side now ≡ false
    due_free = by due
      where
        by : Due seen now side → barred_at side now ≡ false
        by (own_try e f) = subst (λ (x : Growth). barred_at side x ≡ false) (sym e) (subst (λ (s : Side). barred_at s (no_growth own) ≡ false) (sym f) refl)
        by (its_turn going turn) = not_is (barred_at side now) (open_free seen side (state_of now) (going_open seen now side turn))

    module _ (ok : Walkable t g) (ws : Walkers) (reached : Reached p t g now ws) where
      pub due_relies : Relies side p t g gaps.lives own now ws
      due_relies =
          record {
            walkable = ok;
            heaviest = due_heaviest;
            count = due_count;
            at = subst (λ (e : ℕ). At side p t.rows g e (walk_on side ws)) (sym (near_edge side now due_some)) (reached.at side due_free);
          }

      -- after it the walkers stand right
      pub after_reached : (r : Attempt) → Attempts side gaps.weights gaps.lives own g t p k now ws r → Reached p t g (after_tried r.tried now) r.walkers
      after_reached r a =
          let right = a.right due_relies in
          let gap = gap_on side now in
          let tr = tried_on side p t g gaps.weights gaps.lives own k now in
          subst (λ (x : Tried). Reached p t g (after_tried x now) r.walkers) (sym right.tried)
          (record {
            fits = a.fits;
            at = both_sides (λ (s : Side). barred_at s (after_tried tr now) ≡ false
                → At s p t.rows g (edge_on s (after_tried tr now).region) (walk_on s r.walkers)) side
                (λ e. subst (λ (n : ℕ). At side p t.rows g n (walk_on side r.walkers))
                (far_edge side gap now.region (float_at gaps.weights gap) (insts_at gaps.lives own gap) (heaviest_in_gap p t g gap now.region.heaviest)
                ∙ same_side tr.came side tr.region now e) right.at)
                (λ e. subst (λ (n : ℕ). At (other_side side) p t.rows g n (walk_on (other_side side) r.walkers))
                (other_edge tr.came side gap (float_at gaps.weights gap) (insts_at gaps.lives own gap) (heaviest_in_gap p t g gap now.region.heaviest) now)
                (subst (At (other_side side) p t.rows g (edge_on (other_side side) now.region)) (sym a.stays)
                (reached.at (other_side side) (sym (other_barred tr.came side tr.region now) ∙ e))));
          })

    -- ---- what it is
    -- that of growth
    turn_tried : Going seen now → TurnOf seen now (Some side) → tried_on side p t g gaps.weights gaps.lives own k now ≡ tried side seen (span_of now.region)
    turn_tried going turn =
        ap (λ (n : ℕ). tried_with side (gap_on side now) now.region (float_at gaps.weights (gap_on side now)) n (fixed_met_any p t (segments_of_gap g (gap_on side now)))
        (heaviest_in_gap p t g (gap_on side now) now.region.heaviest) k) (going_insts going turn)
        ∙ going_tried seen table.sound refl now side going turn

  -- or that of the own gap
  own_is : tried_on Next p t g gaps.weights gaps.lives own k (no_growth own) ≡ own_tried seen
  own_is =
      ap (λ (n : ℕ). tried_with Next own (no_growth own).region (float_at gaps.weights own) n (fixed_met_any p t (segments_of_gap g own))
      (heaviest_in_gap p t g own zero_weight) k) (cond_true _ _ (eq-eqb own own refl))
      ∙ ap (λ (h : Float). tried_with Next own (no_growth own).region (float_at gaps.weights own) 1 (fixed_met_any p t (segments_of_gap g own)) h k)
      (heavier_zero (heaviest_weight (weights_met_all p t (segments_of_gap g own)) (all_weights p t (segments_of_gap g own))))
      ∙ own_tried_lem seen refl (table.sound.weights own table.sound.inside)

  -- ---- after it growth goes on, or the own gap has failed
  pub record Gone (now : Growth) : Type 0 where
    pub inside : now.region.left < now.region.right → InsideGaps seen.count now.region
    pub some : now.region.left < now.region.right → Going seen now
    pub none : now.region.right ≤ now.region.left → None ≡ region_of seen

  going_gone : (now : Growth) → Going seen now → Gone now
  going_gone now going =
      let i = going_inside seen table.sound.inside now going in
      record { inside = λ _. i; some = λ _. going; none = λ h. absurd (let s = i.some in omega (arith, s, h)) }

  pub due_gone : (now : Growth) (side : Side) (due : Due seen now side) (t' : Tried) → t' ≡ tried_on side p t g gaps.weights gaps.lives own k now
      → Gone (after_tried t' now)
  due_gone now side (own_try e f) t' is =
      subst (λ (x : Growth). Gone (after_tried t' x)) (sym e)
      (subst (λ (x : Tried). Gone (after_tried x (no_growth own)))
      (sym (is ∙ ap (tried_on side p t g gaps.weights gaps.lives own k) e ∙ ap (λ (s : Side). tried_on s p t g gaps.weights gaps.lives own k (no_growth own)) f ∙ own_is))
      (own_after seen Gone (λ pass. going_gone _ (going_start seen pass))
      (λ fail. record {
        inside = λ h. absurd (omega (arith, h));
        some = λ h. absurd (omega (arith, h));
        none = λ _. answer_nothing seen fail;
      })))
  due_gone now side (its_turn going turn) t' is =
      going_gone _ (going_after seen now side t' going turn (is ∙ turn_tried now side (its_turn going turn) going turn))

  -- with fewer left to try
  pub due_less : (now : Growth) (side : Side) (due : Due seen now side) (t' : Tried) → t' ≡ tried_on side p t g gaps.weights gaps.lives own k now
      → Gone (after_tried t' now) → (after_tried t' now).region.left < (after_tried t' now).region.right
      → left_to_try seen (state_of (after_tried t' now)) < left_to_try seen (state_of now)
  due_less now side (own_try e f) t' is gone h =
      subst (λ (x : Growth). left_to_try seen (state_of (after_tried t' x)) < left_to_try seen (state_of x)) (sym e)
      (subst (λ (x : Tried). left_to_try seen (state_of (after_tried x (no_growth own))) < left_to_try seen (state_of (no_growth own)))
      (sym (is ∙ ap (tried_on side p t g gaps.weights gaps.lives own k) e ∙ ap (λ (s : Side). tried_on s p t g gaps.weights gaps.lives own k (no_growth own)) f ∙ own_is))
      (own_after seen (λ (x : Growth). left_to_try seen (state_of x) < left_to_try seen (state_of (no_growth own)))
      (λ _. less own seen.count table.sound.inside) (λ _. fewer own seen.count)))
    where
      less : (o c : ℕ) → o < c → o + (c - (o + 1)) + (1 + 1) < o + (c - o) + (1 + 1)
      less o c h = omega arith

      fewer : (o c : ℕ) → o + (c - o) + (1 + 0) < o + (c - o) + (1 + 1)
      fewer o c = omega arith
  due_less now side (its_turn going turn) t' is gone h = going_less seen now side t' going turn (is ∙ turn_tried now side (its_turn going turn) going turn)

  -- behind a try, whatever the walkers are then
  module _ (now : Growth) (side : Side) (due : Due seen now side) (ok : Walkable t g) (ws : Walkers) (reached : Reached p t g now ws) (r : Attempt)
      (answer : Attempts side gaps.weights gaps.lives own g t p k now ws r) (after : Growth) (is : after ≡ after_tried r.tried now) where
    pub gone_behind : Gone after
    gone_behind = subst Gone (sym is) (due_gone now side due r.tried (answer.right (due_relies now side due ok ws reached)).tried)

    pub less_behind : after.region.left < after.region.right → left_to_try seen (state_of after) < left_to_try seen (state_of now)
    less_behind h =
        subst (λ (x : Growth). left_to_try seen (state_of x) < left_to_try seen (state_of now)) (sym is)
        (due_less now side due r.tried (answer.right (due_relies now side due ok ws reached)).tried (rw is at gone_behind) (rw is at h))

  -- ---- the turn after it
  turn_some : (now : Growth) (x : Option Side) → x ≡ turn_of seen.count seen.freq seen.live now → now.region.left < now.region.right → TurnOf seen now x
  unfolding turn_of
  turn_some now x e h = e ∙ cond_true _ _ (lt-ltb now.region.left now.region.right h)

  turn_none : (now : Growth) → now.region.right ≤ now.region.left → turn_of seen.count seen.freq seen.live now ≡ None
  unfolding turn_of
  turn_none now h = cond_false _ _ (le-ltb now.region.left now.region.right h)

  -- with a turn there is a region
  pub turn_region : (now : Growth) (side : Side) → Some side ≡ turn_of seen.count seen.freq seen.live now → now.region.left < now.region.right
  turn_region now side e = ⊎_elim (λ h. h) (λ h. absurd (never (e ∙ turn_none now h))) (split now.region.left now.region.right)
    where
      never : Some side ≡ None → ⊥
      never e = let z : ◌≡◌ {A = ℕ} 0 1 = cc in omega arith

  pub turn_due : (now : Growth) (side : Side) → Gone now → Some side ≡ turn_of seen.count seen.freq seen.live now → Due seen now side
  turn_due now side gone e = let h = turn_region now side e in its_turn (gone.some h) (turn_some now (Some side) e h)

  -- with none the region is the answer's
  pub end_answers : (now : Growth) → Gone now → None ≡ turn_of seen.count seen.freq seen.live now → Answers seen now.region
  end_answers now gone e =
      record {
        inside = gone.inside;
        found = λ h. going_found seen table.sound.inside now (gone.some h) (turn_some now None e h);
        nothing = gone.none;
      }

-- ---- the start
-- a walk stands at the own gap's left edge
module _ (p : Register) (t : Reserved) (g : SegmentColumns) (ordered : OrderedGaps g) (long : g.used ≡ length g.from) (own next : ℕ)
    (found : FirstIn (λ (k : ℕ). leb own (get_or g.gap k 0)) 0 g.used next) where
  abbrev point : ℕ
  point = point_at g.from next

  point_row : next < g.used → point ≡ get_or g.from next 0
  unfolding point_at
  point_row h = cond_true (get_or g.from next 0) 4294967295 (lt-ltb next (length g.from) (le_trans h (le_of_eq long)))

  point_past : g.used ≤ next → point ≡ 4294967295
  unfolding point_at
  point_past h = cond_false (get_or g.from next 0) 4294967295 (le-ltb next (length g.from) (le_trans (le_of_eq (sym long)) h))

  -- the gap segments ahead begin at the point or after it
  begin_after : ((k : ℕ) → get_or g.to k 0 ≤ 4294967295) → (side : Side) → AnyAhead side next g.used → Upto side point (begin_at side g (row_ahead side next))
  begin_after small Previous h =
      record {
        is = ⊎_elim (λ l. le_trans (ordered.apart (next - 1) next (let n = h.is in omega (arith, n)) l) (le_of_eq (sym (point_row l))))
            (λ l. le_trans (small (next - 1)) (le_of_eq (sym (point_past l)))) (split next g.used);
      }
  begin_after small Next h = record { is = le_of_eq (point_row h.is) }

  pub starts : ((k : ℕ) → get_or g.to k 0 ≤ 4294967295) → (side : Side) (w : Walk) → w.next ≡ next → StandsInUnits side p t.rows point w
      → At side p t.rows g own w
  starts small side w e s =
      begins side g own point w (subst (GapsFrom g own) (sym e) (gaps_found g ordered own next found))
      (λ h. subst (λ (n : ℕ). Upto side point (begin_at side g (row_ahead side n))) (sym e)
      (begin_after small side (subst (λ (n : ℕ). AnyAhead side n g.used) e h))) s
