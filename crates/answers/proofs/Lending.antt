-- The arrays that the work tables are lent from: their first rows, and what stands behind those
use Prim.Native.Nat.{ℕ, ◌-◌, ◌≤◌, min}
use mathlib.Core.Path.{◌≡◌, sym, ap, ◌∙◌}
use mathlib.Core.List.{List, [], ◌∷◌, ◌++◌}
use native.Mathlib.Nat.{le_refl, min-eq_left, min-le_right}
use native.Mathlib.Omega.{arith}
use lib.Ieee.{Float, binary32, of_bits}
use lib.ListN.{length, take, drop, replicate, length-append, length-drop, length-replicate}
use lib.Seq.{length-take-le}
use Rattle.columns.specs.Table.{shortest}
use Rattle.filling.specs.SourceTables.{WorkColumns, work_columns, rooms_of}
use Rattle.filling.specs.declared.lent.Rooms.{Rooms}
use Rattle.answers.specs.SheetRooms.{sheet_rooms, rooms_within}

abbrev none : Float
none = of_bits binary32 0

-- a part of each array, by the rows that are lent
abbrev part_of : (ℕ → List ℕ → List ℕ) → (ℕ → List Float → List Float) → Rooms → WorkColumns
part_of part part-of-weights r =
    let links : List ℕ = part r.links (replicate sheet_rooms.links 0) in
    let uses : List ℕ = part r.uses (replicate sheet_rooms.uses 0) in
    let use_weights : List Float = part-of-weights r.uses (replicate sheet_rooms.uses none) in
    let gaps : List ℕ = part r.gaps (replicate sheet_rooms.gaps 0) in
    let gap_weights : List Float = part-of-weights r.gaps (replicate sheet_rooms.gaps none) in
    let segments : List ℕ = part r.gap_segments (replicate sheet_rooms.gap_segments 0) in
    work_columns links links uses use_weights use_weights use_weights gaps gaps gap_weights gaps gap_weights gaps segments segments segments segments

abbrev pub lent_of : Rooms → WorkColumns
lent_of r = part_of take take r

abbrev pub behind_of : Rooms → WorkColumns
behind_of r = part_of drop drop r

-- the first n of an array's items, and an array that is whole again
module _ {A : Type 0} (N n : ℕ) (a : A) (h : n ≤ N) where
  pub lent_long : n ≡ length (take n (replicate N a))
  lent_long = sym (length-take-le n (replicate N a) (omega (arith, length-replicate N a, h)))

  pub back_long : (last : List A) → length last ≡ length (take n (replicate N a)) → N ≡ length (last ++ drop n (replicate N a))
  back_long last e =
      let d : length (drop n (replicate N a)) ≡ N - n = length-drop n (replicate N a) ∙ ap (λ (m : ℕ). m - n) (length-replicate N a) in
      let l : length last ≡ n = e ∙ sym lent_long in
      sym (length-append last (drop n (replicate N a)) ∙ omega (arith, d, l, h))

-- the rows lent are few
module _ (asked : Rooms) {r : Rooms} (e : r ≡ rooms_within asked) where
  pub links_few : r.links ≤ sheet_rooms.links
  links_few = omega (arith, ap (λ (x : Rooms). x.links) e, min-le_right asked.links sheet_rooms.links)

  pub uses_few : r.uses ≤ sheet_rooms.uses
  uses_few = omega (arith, ap (λ (x : Rooms). x.uses) e, min-le_right asked.uses sheet_rooms.uses)

  pub gaps_few : r.gaps ≤ sheet_rooms.gaps
  gaps_few = omega (arith, ap (λ (x : Rooms). x.gaps) e, min-le_right asked.gaps sheet_rooms.gaps)

  pub segments_few : r.gap_segments ≤ sheet_rooms.gap_segments
  segments_few = omega (arith, ap (λ (x : Rooms). x.gap_segments) e, min-le_right asked.gap_segments sheet_rooms.gap_segments)

  -- each table has as many
  same : (n : ℕ) → min n n ≡ n
  same n = min-eq_left (le_refl n)

  four : (n : ℕ) → shortest (n ∷ n ∷ n ∷ n ∷ []) ≡ n
  four n = ap (λ (m : ℕ). min n (min n m)) (same n) ∙ ap (min n) (same n) ∙ same n

  six : (n : ℕ) → shortest (n ∷ n ∷ n ∷ n ∷ n ∷ n ∷ []) ≡ n
  six n = ap (λ (m : ℕ). min n (min n m)) (four n) ∙ ap (min n) (same n) ∙ same n

  rooms_own : rooms_of (lent_of r) ≡ r
  rooms_own =
      let l = sym (lent_long {A = ℕ} sheet_rooms.links r.links 0 links_few) in
      let u = sym (lent_long {A = ℕ} sheet_rooms.uses r.uses 0 uses_few) in
      let v = sym (lent_long {A = Float} sheet_rooms.uses r.uses none uses_few) in
      let g = sym (lent_long {A = ℕ} sheet_rooms.gaps r.gaps 0 gaps_few) in
      let w = sym (lent_long {A = Float} sheet_rooms.gaps r.gaps none gaps_few) in
      let s = sym (lent_long {A = ℕ} sheet_rooms.gap_segments r.gap_segments 0 segments_few) in
      let links : (rooms_of (lent_of r)).links ≡ r.links = (λ i. min (l i) (l i)) ∙ same r.links in
      let uses : (rooms_of (lent_of r)).uses ≡ r.uses = (λ i. shortest (u i ∷ v i ∷ v i ∷ v i ∷ [])) ∙ four r.uses in
      let gaps : (rooms_of (lent_of r)).gaps ≡ r.gaps = (λ i. shortest (g i ∷ g i ∷ w i ∷ g i ∷ w i ∷ g i ∷ [])) ∙ six r.gaps in
      let segments : (rooms_of (lent_of r)).gap_segments ≡ r.gap_segments = (λ i. shortest (s i ∷ s i ∷ s i ∷ s i ∷ [])) ∙ four r.gap_segments in
      λ i. record { uses = uses i; gaps = gaps i; gap_segments = segments i; links = links i }

  pub lent_rooms : rooms_of (lent_of r) ≡ rooms_within asked
  lent_rooms = rooms_own ∙ e
