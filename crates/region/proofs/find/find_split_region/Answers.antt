-- `find_split_region` makes the walkers at the own gap's left edge, and takes what growth answers
use mathlib.Core.Path.{◌≡◌, refl, ap, subst}
use mathlib.Core.List.{List}
use Prim.Native.Nat.{ℕ, ◌≤◌}
use native.Mathlib.Nat.{le_trans, le_of_eq}
use lib.Dec.{leb}
use lib.ListN.{length, get_or}
use Rattle.columns.specs.First.{FirstIn, Rising}
use Rattle.jobs.specs.declared.rows.Reservation.{Reservation}
use Rattle.links.specs.declared.lower.Side.{Side}
use Rattle.links.specs.declared.lower.Side.TheVariants.{Previous, Next}
use Rattle.overlaps.specs.GapSegments.{SegmentColumns}
use Rattle.walks.specs.declared.walk.Walk.{Walk}
use Rattle.walks.specs.declared.both.Walkers.{Walkers}
use Rattle.walks.specs.declared.meeting.Register.{Register}
use Rattle.walks.specs.Meeting.{Reserved}
use Rattle.walks.specs.Standing.{StandsInUnits, PlacesInside}
use Rattle.walks.specs.Gaps.{Fits, At, walk_on}
use Rattle.walks.proofs.GapWalk.{gaps_rise}
use Rattle.region.specs.Find.{Walking, Begun, point_at}
use Rattle.region.proofs.Growing.{both_sides, starts}
use Rattle.region.proofs.find.find_split_region.Goals as goal

-- among n rows of gap segments, that of the own gap's first and its point
record Start (g : SegmentColumns) (n own next point : ℕ) : Type 0 where
  inside : next ≤ n
  found : Rising g.gap 0 n → FirstIn (λ (k : ℕ). leb own (get_or g.gap k 0)) 0 n next
  at : point ≡ point_at g.from next

-- walkers that were made there
abbrev Made : Register → List Reservation → ℕ → ℕ → Walkers → Type 0
Made p rows next point ws =
    (ws.left.next ≡ next)
    × (ws.right.next ≡ next)
    × (PlacesInside p (length rows) ws.left × StandsInUnits Previous p rows point ws.left)
    × (PlacesInside p (length rows) ws.right × StandsInUnits Next p rows point ws.right)

begun : (p : Register) (t : Reserved) (g : SegmentColumns) (own next point : ℕ) (ws : Walkers) → Walking p t g → g.used ≡ length g.from
    → Start g g.used own next point → Made p t.rows next point ws → Begun p t g own ws
begun p t g own next point ws w long s e =
    let fits : (x : Walk) → x.next ≡ next → PlacesInside p (length t.rows) x → Fits p t g x =
    λ x n i. record { known = w.known; long = w.long; next = le_trans (le_of_eq n) s.inside; places = i } in
    let at : (side : Side) (x : Walk) → x.next ≡ next → StandsInUnits side p t.rows point x → At side p t.rows g own x =
    λ side x n u. starts p t g w.walkable.ordered long own next (s.found (gaps_rise g w.walkable.ordered)) w.small side x n
    (subst (λ (p' : ℕ). StandsInUnits side p t.rows p' x) s.at u) in
    record {
      walkable = w.walkable;
      fits = record { on = both_sides (λ (s : Side). Fits p t g (walk_on s ws)) Previous (fits ws.left e.0 e.2.0) (fits ws.right e.1 e.3.0) };
      at = both_sides (λ (s : Side). At s p t.rows g own (walk_on s ws)) Previous (at Previous ws.left e.0 e.2.1) (at Next ws.right e.1 e.3.1);
    }

-- the tables, as they are lent
pub grow-g-requires-clause-begun : goal.grow-g-requires-clause-begun
grow-g-requires-clause-begun c =
    let a = c.args in
    let g : SegmentColumns = a.segments.now in
    let next = c.first_at_least-next.result in
    let point = c.point_at-point.result.0 in
    let found = c.first_at_least-next.ensures in
    begun a.register a.reserved.now g a.initial next point c.new-walkers.result c.requires.walking
    (subst (λ (g : SegmentColumns). g.used ≡ length g.from) c.segments.view_is refl)
    (subst (λ (n : ℕ). Start g n a.initial next point) c.len.ensures
    (subst (λ (g : SegmentColumns). Start g c.len.result a.initial next point) c.segments.view_is
    (record { inside = found.1; found = found.2; at = c.point_at-point.ensures })))
    (subst (λ (rows : List Reservation). Made a.register rows next point c.new-walkers.result) (ap (λ (t : Reserved). t.rows) c.reserved.view_is)
    c.new-walkers.ensures)
