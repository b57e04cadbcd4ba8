-- Growth from the best use's gap, over what growth sees of a job's gaps
use Rattle.std.specs.Prelude.{ℕ, zero, suc, ◌+◌, ◌-◌, Bool, true, false, not, ◌&&◌, cond, List, [], ◌∷◌, ◌++◌, leb, eqb, Float, Option, Some, None}
use Rattle.std.specs.Float.{binary32}
use Rattle.std.specs.Float.Ieee.{add, lt}
use Rattle.numbers.specs.Weight.{heaviest}
use Rattle.numbers.specs.Normal.{normalised, exceeds}
use Rattle.links.specs.declared.lower.Side.{Side}
use Rattle.links.specs.declared.lower.Side.TheVariants.{Previous, Next}
use Rattle.links.specs.Links.{on_side}
use Rattle.growth.specs.declared.step.Grown.{Grown}
use Rattle.growth.specs.declared.step.Tried.{Tried}
use Rattle.growth.specs.declared.step.Came.{Came}
use Rattle.growth.specs.declared.step.Came.TheVariants as Came·is

-- what growth sees of a job's gaps
pub record GapsSeen : Type 0 where
  -- how many there are, and which is the best use's own
  pub count : ℕ
  pub own : ℕ
  -- of each gap its first instruction, weight, live instructions and frequency
  pub first : ℕ → ℕ
  pub weight : ℕ → Float
  pub live : ℕ → ℕ
  pub freq : ℕ → Float
  -- whether it meets something that counts as fixed, and the weights that it meets
  pub fixed : ℕ → Bool
  pub met : ℕ → List Float
  -- the adjustment k, and the weight test's numerator over 2048
  pub k : ℕ
  pub numerator : ℕ

-- a region: the gaps from left to before right, its use weight and its live instructions
pub record Span : Type 0 where
  pub left : ℕ
  pub right : ℕ
  pub weight : Float
  pub insts : ℕ

-- the region of the best use's own gap alone, with 1 instruction
abbrev pub own_span : GapsSeen → Span
own_span seen = record { left = seen.own; right = seen.own + 1; weight = seen.weight seen.own; insts = 1 }

-- n numbers from a on
unfoldable pub numbers_from : ℕ → ℕ → List ℕ
numbers_from a zero = []
numbers_from a (suc n) = a ∷ numbers_from (suc a) n

-- the numbers from a to before b
abbrev pub between : ℕ → ℕ → List ℕ
between a b = numbers_from a (b - a)

-- the gaps of a region
abbrev pub gaps_in : Span → List ℕ
gaps_in s = between s.left s.right

-- the weights that gaps meet
unfoldable pub weights_in : (ℕ → List Float) → List ℕ → List Float
weights_in met [] = []
weights_in met (g ∷ gs) = met g ++ weights_in met gs

-- the heaviest weight that a region meets, zero if none
abbrev pub heaviest_in : GapsSeen → Span → Float
heaviest_in seen s = heaviest (weights_in seen.met (gaps_in s))

-- the normalised weight of a region
abbrev pub normalised_of : GapsSeen → Span → Float
normalised_of seen s = normalised s.weight s.insts seen.k

-- the weight test of a region
unfoldable pub weight_test : GapsSeen → Span → Bool
weight_test seen s = exceeds seen.numerator (normalised_of seen s) (heaviest_in seen s)

-- the gap just outside a region on a side
abbrev pub gap_outside : Side → Span → ℕ
gap_outside side s = on_side side (s.left - 1) s.right

-- a side is used up: no gap of n is left there
abbrev pub used_up : Side → ℕ → Span → Bool
used_up side n s = on_side side (eqb s.left 0) (leb n s.right)

-- the region with one more gap on a side: its weight is added to the weight so far, its live instructions too
abbrev pub grown_by : Side → GapsSeen → Span → Span
grown_by side seen s =
    record {
      left = on_side side (s.left - 1) s.left;
      right = on_side side s.right (s.right + 1);
      weight = add binary32 s.weight (seen.weight (gap_outside side s));
      insts = s.insts + seen.live (gap_outside side s);
    }

-- a gap tried passes: it meets no fixed one, and the weight test holds of the region with it
unfoldable pub passes : GapsSeen → ℕ → Span → Bool
passes seen gap with_it = not (seen.fixed gap) && weight_test seen with_it

-- growth so far: the region, and whether the left and the right side are barred
pub record State : Type 0 where
  pub region : Span
  pub left_barred : Bool
  pub right_barred : Bool

-- growth starts at the best use's own gap, with no side barred
abbrev pub start : GapsSeen → State
start seen = record { region = own_span seen; left_barred = false; right_barred = false }

-- a side is open: neither barred nor used up
unfoldable pub side_open : Side → ℕ → State → Bool
side_open side n st = not (on_side side st.left_barred st.right_barred) && not (used_up side n st.region)

-- a side is open among the gaps seen
abbrev pub is_open : Side → GapsSeen → State → Bool
is_open side seen st = side_open side seen.count st

-- of two frequencies the higher is taken; on equal ones left if its live instructions are at least the right's
unfoldable pub left_first : Float → Float → ℕ → ℕ → Bool
left_first left_freq right_freq left-live right-live =
    cond (lt right_freq left_freq) true (cond (lt left_freq right_freq) false (leb right-live left-live))

-- with both sides open, whether left is taken
abbrev pub prefers_left : (ℕ → Float) → (ℕ → ℕ) → Span → Bool
prefers_left freq live s = left_first (freq (gap_outside Previous s)) (freq (gap_outside Next s)) (live (gap_outside Previous s)) (live (gap_outside Next s))

-- the side that is tried: the open one, with both open the one taken, none if none is open
unfoldable pub side_tried : ℕ → (ℕ → Float) → (ℕ → ℕ) → State → Option Side
side_tried n freq live st =
    cond (side_open Previous n st)
    (cond (side_open Next n st) (cond (prefers_left freq live st.region) (Some Previous) (Some Next)) (Some Previous))
    (cond (side_open Next n st) (Some Next) None)

-- growth with a side barred for good
abbrev pub barred : Side → State → State
barred side st = record { region = st.region; left_barred = on_side side true st.left_barred; right_barred = on_side side st.right_barred true }

-- growth with one more gap on a side
abbrev pub grows : Side → GapsSeen → State → State
grows side seen st = record { region = grown_by side seen st.region; left_barred = st.left_barred; right_barred = st.right_barred }

-- the gap on a side passes
abbrev pub passes_on : Side → GapsSeen → Span → Bool
passes_on side seen s = passes seen (gap_outside side s) (grown_by side seen s)

-- what comes of trying a gap: it meets a fixed one, or the weight test of the region with it decides
unfoldable pub came : GapsSeen → ℕ → Span → Came
came seen gap with_it = cond (seen.fixed gap) Came·is.Fixed (cond (weight_test seen with_it) Came·is.Grown Came·is.Weight)

-- what comes of trying the gap on a side
abbrev pub came_on : Side → GapsSeen → Span → Came
came_on side seen s = came seen (gap_outside side s) (grown_by side seen s)

-- a region with the heaviest weight that it meets
abbrev pub grown_of : GapsSeen → Span → Grown
grown_of seen s = record { left = s.left; right = s.right; weight = s.weight; insts = s.insts; heaviest = heaviest_in seen s }

-- a try on a side of a region: the gap, the region with it and the heaviest weight that this meets, its normalised weight, and what came of it
abbrev pub tried : Side → GapsSeen → Span → Tried
tried side seen s =
    record {
      side = side;
      gap = gap_outside side s;
      region = grown_of seen (grown_by side seen s);
      normalised = normalised_of seen (grown_by side seen s);
      came = came_on side seen s;
    }

-- the try of the own gap, from a region of no gap
abbrev pub own_tried : GapsSeen → Tried
own_tried seen =
    record {
      side = Next;
      gap = seen.own;
      region = grown_of seen (own_span seen);
      normalised = normalised_of seen (own_span seen);
      came = came seen seen.own (own_span seen);
    }

-- growth after a try on a side, by what came of it: it grows by the gap there, or the side is barred
abbrev pub after_came : Came → Side → GapsSeen → State → State
after_came Came·is.Grown side seen st = grows side seen st
after_came Came·is.Fixed side seen st = barred side st
after_came Came·is.Weight side seen st = barred side st

-- a try on a side
unfoldable pub try_on : Side → GapsSeen → State → State
try_on side seen st = after_came (came_on side seen st.region) side seen st

-- a try on the side whose turn it is; with none nothing changes
abbrev pub try_at : Option Side → GapsSeen → State → State
try_at (Some side) seen st = try_on side seen st
try_at None seen st = st

-- the side whose turn it is among the gaps seen
abbrev pub turn : GapsSeen → State → Option Side
turn seen st = side_tried seen.count seen.freq seen.live st

-- one try
unfoldable pub try : GapsSeen → State → State
try seen st = try_at (turn seen st) seen st

-- growth after n tries
unfoldable pub growth : GapsSeen → ℕ → State
growth seen zero = start seen
growth seen (suc n) = try seen (growth seen n)

-- growth where it ends: each gap is grown or bars a side at most once, so these tries suffice
abbrev pub end_of_growth : GapsSeen → State
end_of_growth seen = growth seen (seen.count + 1)

-- the region with which growth ends
unfoldable pub grown : GapsSeen → Span
grown seen = (end_of_growth seen).region
