-- Gaps that follow one another from one instruction to before another
use mathlib.Core.Path.{◌≡◌, refl, sym, ap, ◌∙◌, subst}
use mathlib.Core.List.{List, [], ◌∷◌, ◌++◌}
use Prim.Native.Nat.{ℕ, zero, suc, ◌+◌, ◌-◌, ◌≤◌, ◌<◌}
use native.Mathlib.Nat.{le_trans, le_of_eq, not-suc-le-zero, le_of_suc-le-suc}
use native.Mathlib.Omega.{arith}
use lib.Ieee.{Float}
use lib.ListN.{length, get_or, length-map}
use Rattle.links.specs.Blocks.{end_limit}
use Rattle.links.specs.Links.{LiesBeyond, on_side}
use Rattle.links.specs.declared.lower.Side.{Side}
use Rattle.links.specs.declared.lower.Side.TheVariants.{Previous, Next}
use Rattle.columns.specs.Table.{Each}
use Rattle.columns.specs.Below.{joined}
use Rattle.overlaps.specs.Live.{Gaps}
use Rattle.gaps.specs.Gaps.{Gap, spanned, in_order}
use Rattle.gaps.specs.GapColumns.{froms_of, tos_of}
use Rattle.gaps.specs.Laws.{Run}

-- what holds of each of them
pub each_map : (P Q : Gap → Type 0) → ((g : Gap) → P g → Q g) → (gs : List Gap) → Each P gs → Each Q gs
each_map P Q f [] e = tt
each_map P Q f (g ∷ gs) e = (f g e.0, each_map P Q f gs e.1)

pub each_both : (P Q R : Gap → Type 0) → ((g : Gap) → P g → Q g → R g) → (gs : List Gap) → Each P gs → Each Q gs → Each R gs
each_both P Q R f [] d e = tt
each_both P Q R f (g ∷ gs) d e = (f g d.0 e.0, each_both P Q R f gs d.1 e.1)

pub run_append : (lo mid hi : ℕ) (gs hs : List Gap) → Run lo mid gs → Run mid hi hs → Run lo hi (gs ++ hs)
run_append lo mid hi [] hs r s = subst (λ (x : ℕ). Run x hi hs) (sym r) s
run_append lo mid hi (g ∷ gs) hs r s = (r.0, r.1, run_append g.to mid hi gs hs r.2 s)

-- a gap and those farther from the best use
pub run_in_order : (side : Side) (e m end : ℕ) (ws : List Float) (f : Float) (b : ℕ) (gs : List Gap) → LiesBeyond side e m
    → Run (on_side side end m) (on_side side m end) gs → Run (on_side side end e) (on_side side e end) (in_order side (spanned side e m ws f b) gs)
run_in_order Previous e m end ws f b gs h r = run_append end m e gs (spanned Previous e m ws f b ∷ []) r (refl, h, refl)
run_in_order Next e m end ws f b gs h r = (refl, h, r)

pub run_one : (side : Side) (e end : ℕ) (ws : List Float) (f : Float) (b : ℕ) → LiesBeyond side e end
    → Run (on_side side end e) (on_side side e end) (spanned side e end ws f b ∷ [])
run_one Previous e end ws f b h = (refl, h, refl)
run_one Next e end ws f b h = (refl, h, refl)

-- runs joined
pub run_joined : (lists : ℕ → List Gap) (edges : ℕ → ℕ) (i n : ℕ) → ((k : ℕ) → i ≤ k → k < i + n → Run (edges k) (edges (k + 1)) (lists k))
    → Run (edges i) (edges (i + n)) (joined lists i n)
unfolding joined
run_joined lists edges i zero h = let z : i ≡ i + zero = omega arith in ap edges z
run_joined lists edges i (suc n) h =
    let a : i + 1 ≡ suc i = omega arith in
    let b : suc i + n ≡ i + suc n = omega arith in
    run_append (edges i) (edges (suc i)) (edges (i + suc n)) (lists i) (joined lists (suc i) n)
    (subst (λ (x : ℕ). Run (edges i) (edges x) (lists i)) a (h i (omega arith) (omega arith)))
    (subst (λ (x : ℕ). Run (edges (suc i)) (edges x) (joined lists (suc i) n)) b
    (run_joined lists edges (suc i) n (λ k l m. h k (omega (arith, l)) (omega (arith, m)))))

pub run_below : (lo hi : ℕ) (gs : List Gap) → Run lo hi gs → lo ≤ hi
run_below lo hi [] r = le_of_eq r
run_below lo hi (g ∷ gs) r = let a = r.0 in let b = r.1 in let c = run_below g.to hi gs r.2 in omega (arith, a, b, c)

-- where each of them lies
pub run_within : (lo hi : ℕ) (gs : List Gap) → Run lo hi gs → Each (λ (g : Gap). (lo ≤ g.from) × (g.from < g.to) × (g.to ≤ hi)) gs
run_within lo hi [] r = tt
run_within lo hi (g ∷ gs) r =
    let a = r.0 in
    let b = r.1 in
    let c = run_below g.to hi gs r.2 in (
      (omega (arith, a), b, c),
      each_map (λ (k : Gap). (g.to ≤ k.from) × (k.from < k.to) × (k.to ≤ hi)) (λ (k : Gap). (lo ≤ k.from) × (k.from < k.to) × (k.to ≤ hi))
          (λ k w. let x = w.0 in (omega (arith, a, b, x), w.1, w.2)) gs (run_within g.to hi gs r.2),
    )

-- ---- in columns
pub run_gaps : (lo hi : ℕ) (gs : List Gap) → hi ≤ end_limit → Run lo hi gs → Gaps (froms_of gs) (tos_of gs)
run_gaps lo hi gs limit r =
    record {
      long = length-map gs (λ (g : Gap). g.to) ∙ sym (length-map gs (λ (g : Gap). g.from));
      nonempty = λ i h. nonempty lo hi gs r i h;
      follows = λ i h. follows lo hi gs r i h;
      inside = λ i h. le_trans (ends lo hi gs r i h) limit;
    }
  where
    nonempty : (lo hi : ℕ) (gs : List Gap) → Run lo hi gs → (i : ℕ) → i < length (froms_of gs) → get_or (froms_of gs) i 0 < get_or (tos_of gs) i 0
    nonempty lo hi [] r i h = absurd (not-suc-le-zero h)
    nonempty lo hi (g ∷ gs) r zero h = r.1
    nonempty lo hi (g ∷ gs) r (suc i) h = nonempty g.to hi gs r.2 i (le_of_suc-le-suc h)

    follows : (lo hi : ℕ) (gs : List Gap) → Run lo hi gs → (i : ℕ) → i + 1 < length (froms_of gs) → get_or (froms_of gs) (i + 1) 0 ≡ get_or (tos_of gs) i 0
    follows lo hi [] r i h = absurd (omega (arith, h))
    follows lo hi (g ∷ []) r i h = absurd (omega (arith, h))
    follows lo hi (g ∷ k ∷ gs) r zero h = let a : zero + 1 ≡ 1 = omega arith in ap (λ (x : ℕ). get_or (froms_of (g ∷ k ∷ gs)) x 0) a ∙ r.2.0
    follows lo hi (g ∷ k ∷ gs) r (suc i) h =
        let a : suc i + 1 ≡ suc (i + 1) = omega arith in
        ap (λ (x : ℕ). get_or (froms_of (g ∷ k ∷ gs)) x 0) a ∙ follows g.to hi (k ∷ gs) r.2 i (omega (arith, h))

    ends : (lo hi : ℕ) (gs : List Gap) → Run lo hi gs → (i : ℕ) → i < length (froms_of gs) → get_or (tos_of gs) i 0 ≤ hi
    ends lo hi [] r i h = absurd (not-suc-le-zero h)
    ends lo hi (g ∷ gs) r zero h = run_below g.to hi gs r.2
    ends lo hi (g ∷ gs) r (suc i) h = ends g.to hi gs r.2 i (le_of_suc-le-suc h)

-- where the first begins and the last ends
pub run_first : (lo hi : ℕ) (gs : List Gap) → 0 < length gs → Run lo hi gs → get_or (froms_of gs) 0 0 ≡ lo
run_first lo hi [] h r = absurd (not-suc-le-zero h)
run_first lo hi (g ∷ gs) h r = r.0

pub run_last : (lo hi : ℕ) (gs : List Gap) → 0 < length gs → Run lo hi gs → get_or (tos_of gs) (length gs - 1) 0 ≡ hi
run_last lo hi [] h r = absurd (not-suc-le-zero h)
run_last lo hi (g ∷ []) h r = r.2
run_last lo hi (g ∷ k ∷ gs) h r =
    let a : length (g ∷ k ∷ gs) - 1 ≡ suc (length (k ∷ gs) - 1) = omega arith in
    ap (λ (x : ℕ). get_or (tos_of (g ∷ k ∷ gs)) x 0) a ∙ run_last g.to hi (k ∷ gs) (omega arith) r.2
