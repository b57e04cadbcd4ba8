-- For the contracts of the steps: gaps in their lent columns, and a region as the code holds it
use Rattle.std.specs.Prelude.{ℕ, ◌+◌, ◌^◌, ◌≤◌, ◌<◌, ◌≡◌, Bool, true, false, not, ◌&&◌, cond, List, T, ltb, Float, get_or, Option, None}
use Rattle.std.specs.Float.{nan, binary32}
use Rattle.std.specs.Float.Ieee.{add}
use Rattle.numbers.specs.Weight.{zero_weight}
use Rattle.numbers.specs.Normal.{normalised, exceeds}
use Rattle.links.specs.Links.{on_side}
use Rattle.growth.specs.Growth.{GapsSeen, Span, State, own_span, passes, grown_of, side_tried, growth}
use Rattle.links.specs.declared.lower.Side.{Side}
use Rattle.growth.specs.declared.step.Grown.{Grown}
use Rattle.growth.specs.declared.step.Growth.{Growth}
use Rattle.growth.specs.declared.step.Tried.{Tried}
use Rattle.growth.specs.declared.step.Came.{Came}
use Rattle.growth.specs.declared.step.Came.TheVariants as Came·is

-- a column by row number
abbrev pub number_at : List ℕ → ℕ → ℕ
number_at xs g = get_or xs g 0

abbrev pub float_at : List Float → ℕ → Float
float_at xs g = get_or xs g nan

-- what growth sees of gaps in columns and of what they meet; the numerator is 2007
abbrev pub seen_in : List ℕ → List Float → List ℕ → List Float → ℕ → ℕ → (ℕ → Bool) → (ℕ → List Float) → ℕ → GapsSeen
seen_in froms weights lives freqs count own fixed met k =
    record {
      count = count;
      own = own;
      first = number_at froms;
      weight = float_at weights;
      live = number_at lives;
      freq = float_at freqs;
      fixed = fixed;
      met = met;
      k = k;
      numerator = 2007;
    }

-- the region that the code holds, without the heaviest weight
abbrev pub span_of : Grown → Span
span_of g = record { left = g.left; right = g.right; weight = g.weight; insts = g.insts }

-- growth as the code holds it
abbrev pub state_of : Growth → State
state_of growth = record { region = span_of growth.region; left_barred = growth.left_barred; right_barred = growth.right_barred }

-- a side is open
abbrev pub open_with : Bool → Bool → Bool
open_with barred used-up = not barred && not used-up

-- the code holds growth with the heaviest weight that its region meets
abbrev pub growth_of : GapsSeen → State → Growth
growth_of seen st = record { region = grown_of seen st.region; left_barred = st.left_barred; right_barred = st.right_barred }

-- a region of some of n gaps
pub record InsideGaps (n : ℕ) (g : Grown) : Type 0 where
  pub some : g.left < g.right
  pub inside : g.right ≤ n

-- a gap lies on each side of it
pub record HasNeighbours (n : ℕ) (g : Grown) : Type 0 where
  pub left : 0 < g.left
  pub order : g.left ≤ g.right
  pub right : g.right < n

-- the live instructions of a region and of one more gap are a 32-bit number together
abbrev pub CountFits : Grown → ℕ → Type 0
CountFits g insts = g.insts + insts < 2 ^ 32

-- the side whose turn it is; none for a region of no gap
unfoldable pub turn_of : ℕ → (ℕ → Float) → (ℕ → ℕ) → Growth → Option Side
turn_of n freq live growth = cond (ltb growth.region.left growth.region.right) (side_tried n freq live (state_of growth)) None

-- a region with one more gap on a side, of this weight and so many instructions, and the heaviest weight that it then meets
abbrev pub grown_with : Side → ℕ → Grown → Float → ℕ → Float → Grown
grown_with side gap g weight insts heaviest =
    record {
      left = on_side side gap g.left;
      right = on_side side g.right (gap + 1);
      weight = add binary32 g.weight weight;
      insts = g.insts + insts;
      heaviest = heaviest;
    }

-- what comes of a try, by whether the gap meets a fixed one, the normalised weight and the heaviest weight
unfoldable pub came_with : Bool → Float → Float → Came
came_with fixed normal heaviest = cond fixed Came·is.Fixed (cond (exceeds 2007 normal heaviest) Came·is.Grown Came·is.Weight)

-- a try of a gap with these
abbrev pub tried_with : Side → ℕ → Grown → Float → ℕ → Bool → Float → ℕ → Tried
tried_with side gap g weight insts fixed heaviest k =
    let r = grown_with side gap g weight insts heaviest in
    let normal = normalised r.weight r.insts k in
    record { side = side; gap = gap; region = r; normalised = normal; came = came_with fixed normal heaviest }

-- growth from a region of no gap, left of the own gap
abbrev pub no_growth : ℕ → Growth
no_growth own =
    record {
      region = record { left = own; right = own; weight = zero_weight; insts = 0; heaviest = zero_weight };
      left_barred = false;
      right_barred = false;
    }

-- growth after a try: the region with the gap, or the side barred
abbrev pub grown_to : Grown → Growth → Growth
grown_to g growth = record { region = g; left_barred = growth.left_barred; right_barred = growth.right_barred }

abbrev pub barred_on : Side → Growth → Growth
barred_on side growth =
    record { region = growth.region; left_barred = on_side side true growth.left_barred; right_barred = on_side side growth.right_barred true }

abbrev pub after_with : Came → Side → Grown → Growth → Growth
after_with Came·is.Grown side g growth = grown_to g growth
after_with Came·is.Fixed side g growth = barred_on side growth
after_with Came·is.Weight side g growth = barred_on side growth

abbrev pub after_tried : Tried → Growth → Growth
after_tried t growth = after_with t.came t.side t.region growth

-- growth with no side barred
abbrev pub start_at : Grown → Growth
start_at g = record { region = g; left_barred = false; right_barred = false }

-- the code's growth is that after some tries, and the own gap has passed
pub record Going (seen : GapsSeen) (now : Growth) : Type 0 where
  pub own_passes : T (passes seen seen.own (own_span seen))
  pub tries : ℕ
  pub is_after : now ≡ growth_of seen (growth seen tries)
