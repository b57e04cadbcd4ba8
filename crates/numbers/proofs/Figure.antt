-- The H figure: what it tells of a weight, that no other number does, that it rises with the weight
use mathlib.Core.Path.{◌≡◌, refl, sym, ap, ◌∙◌, subst}
use mathlib.Core.Logic.{◌⊎◌, inl, inr, ◌↔◌}
use Prim.Native.Nat.{ℕ, zero, suc, ◌-◌, ◌*◌, ◌%◌, ◌^◌, ◌≤◌, ◌<◌, min, max}
use native.Mathlib.Nat.{le_refl, le_trans, le_antisymm, lt_irrefl, lt_of_lt_of_le, not-suc-le-zero, mul-le-mul, mul-le-mul_right, suc-mul, zero-mul}
use native.Mathlib.Omega.{arith}
use lib.Dec.{lit≤, lit<}
use lib.Ieee.{Float}
use lib.Ieee.Nearest.{closest, closest_mono}
use Rattle.columns.proofs.Firsts.{split}
use Rattle.numbers.specs.Weight.{units_of}
use Rattle.numbers.specs.Figure.{ceiling, figure_of, figure, apart, Slight, Tells}
use Rattle.numbers.proofs.Nearest.{Near, closest_near, near_once}

-- what is shown where h is the nearest whole number to the thousandths: 1 in the place of 0, h itself, or the ceiling
data Shown (w h : ℕ) : ℕ → Type 0 where
  raised : h ≡ 0 → 0 < w → Shown w h 1
  plain : (h ≡ 0 → w ≡ 0) → h ≤ ceiling → Shown w h h
  capped : ceiling < h → Shown w h ceiling

shown : (w h : ℕ) → Shown w h (min (max (min (1000 * w) 1) h) ceiling)
shown w h = go w h (split ceiling h)
  where
    go : (w h : ℕ) → (ceiling < h) ⊎ (h ≤ ceiling) → Shown w h (min (max (min (1000 * w) 1) h) ceiling)
    go w h (inl l) = subst (Shown w h) (omega (arith, l)) (capped l)
    go zero h (inr g) = subst (Shown zero h) (omega (arith, g)) (plain (λ _. refl) (omega (arith, g)))
    go (suc w) zero (inr g) = subst (Shown (suc w) zero) (omega arith) (raised refl (omega arith))
    go (suc w) (suc h) (inr g) = subst (Shown (suc w) (suc h)) (omega (arith, g)) (plain (λ e. absurd (omega (arith, e))) (omega (arith, g)))

-- with what is one of the measure in the place of 2 to the power 149, which `omega` does not read
module _ (w one h : ℕ) (n : Near (1000 * w) one h) where
  half : 2 * apart (h * one) (1000 * w) ≤ one
  half = n.0

  nothing : h ≡ 0 → h * one ≡ 0
  nothing e = ap (λ (x : ℕ). x * one) e ∙ zero-mul one

  shown_near : (H : ℕ) → Shown w h H → ((0 < w) × (2000 * w < one) → ⊥) → H < ceiling → 2 * apart (H * one) (1000 * w) ≤ one
  shown_near H (raised e p) s l = go (split (2000 * w) one)
    where
      go : (2000 * w < one) ⊎ (one ≤ 2000 * w) → 2 * apart (1 * one) (1000 * w) ≤ one
      go (inl k) = absurd (s (p, k))
      go (inr k) = let z = nothing e in omega (arith, half, z, k)
  shown_near H (plain z l) s k = half
  shown_near H (capped l) s k = absurd (omega (arith, k))

  shown_even : (H : ℕ) → Shown w h H → (2000 * w ≡ one → ⊥) → H < ceiling → 2 * apart (H * one) (1000 * w) ≡ one → H % 2 ≡ 0
  shown_even H (raised e p) s l t =
      let z = nothing e in absurd (s (omega (arith, half, z, t)))
  shown_even H (plain z l) s k t = n.1 t
  shown_even H (capped l) s k t = absurd (omega (arith, k))

  -- a whole number above zero is not the nearest one to what is below a half
  shown_slight : (H : ℕ) → Shown w h H → (0 < w) × (2000 * w < one) → H ≡ 1
  shown_slight H (raised e p) s = refl
  shown_slight H (plain z l) s = absurd (go h half z)
    where
      go : (h : ℕ) → 2 * apart (h * one) (1000 * w) ≤ one → (h ≡ 0 → w ≡ 0) → ⊥
      go zero k z = let e = z refl in let p = s.0 in omega (arith, e, p)
      go (suc h) k z = let m = suc-mul h one in let q = s.1 in omega (arith, k, m, q)
  shown_slight H (capped l) s = absurd (let m = mul-le-mul_right one l in let q = s.1 in omega (arith, half, m, q))

  shown_zero : (H : ℕ) → 0 < one → Shown w h H → (H ≡ 0) ↔ (w ≡ 0)
  shown_zero H o (raised e p) = ((λ k. absurd (omega (arith, k))), (λ k. absurd (omega (arith, k, p))))
  shown_zero H o (plain z l) = (z, λ k. go h half k)
    where
      go : (h : ℕ) → 2 * apart (h * one) (1000 * w) ≤ one → w ≡ 0 → h ≡ 0
      go zero m k = refl
      go (suc h) m k = let x = suc-mul h one in absurd (omega (arith, m, x, k, o))
  shown_zero H o (capped l) = ((λ k. absurd (omega (arith, k))), (λ k. absurd (let m = mul-le-mul_right one l in omega (arith, half, m, k, o))))

  -- the ceiling is odd, so what is a half below it is shown by the even number there
  shown_full : (H : ℕ) → 0 < one → Shown w h H → (H ≡ ceiling) ↔ ((2 * ceiling - 1) * one < 2000 * w)
  shown_full H o (raised e p) =
      let z = nothing e in
      ((λ k. absurd (omega (arith, k))), (λ k. absurd (omega (arith, half, z, k, o))))
  shown_full H o (capped l) = ((λ _. let m = mul-le-mul_right one l in omega (arith, half, m, o)), (λ _. refl))
  shown_full H o (plain z l) = (
    (λ e. up e (split (1999999997 * one) (2000 * w))),
    (λ k. down k (split h ceiling)),
  )
    where
      up : h ≡ ceiling → (1999999997 * one < 2000 * w) ⊎ (2000 * w ≤ 1999999997 * one) → 1999999997 * one < 2000 * w
      up e (inl k) = k
      up e (inr k) =
          let m : h * one ≡ 999999999 * one = ap (λ (x : ℕ). x * one) e in
          let t : 2 * apart (h * one) (1000 * w) ≡ one = omega (arith, half, m, k) in
          let v = n.1 t in absurd (omega (arith, v, e))

      down : 1999999997 * one < 2000 * w → (h < ceiling) ⊎ (ceiling ≤ h) → h ≡ ceiling
      down k (inl m) = let x = mul-le-mul_right one m in let y = suc-mul h one in absurd (omega (arith, half, x, y, k))
      down k (inr m) = omega (arith, l, m)

-- no whole number of units is half a thousandth: 125 divides 2000 and not 2 to the power 149
no_half : (w : ℕ) → 2000 * w ≡ 2 ^ 149 → ⊥
no_half w e =
    let z : 2000 * w % 125 ≡ 0 = omega arith in
    let k : ◌≡◌ {A = ℕ} 0 62 = sym z ∙ ap (λ (x : ℕ). x % 125) e in
    omega (arith, k)

pub figure_tells : (w : Float) → Tells (units_of w) (figure w)
unfolding figure figure_of
figure_tells w =
    let u = units_of w in
    let h = closest (1000 * u) (2 ^ 149) in
    let n = closest_near (1000 * u) (2 ^ 149) (lit< tt) in
    let s = shown u h in
    record {
      near = shown_near u (2 ^ 149) h n (figure w) s;
      even = shown_even u (2 ^ 149) h n (figure w) s (no_half u);
      slight = shown_slight u (2 ^ 149) h n (figure w) s;
      most = most s;
      full = shown_full u (2 ^ 149) h n (figure w) (lit< tt) s;
      zero = shown_zero u (2 ^ 149) h n (figure w) (lit< tt) s;
    }
  where
    most : {w h H : ℕ} → Shown w h H → H ≤ ceiling
    most (raised e p) = lit≤ tt
    most (plain z l) = l
    most (capped l) = le_refl ceiling

-- so what the figure tells is told by no other number
pub tells_once : (w G H : ℕ) → Tells w G → Tells w H → G ≡ H
tells_once w G H g h = by (split 0 w) (split (2000 * w) (2 ^ 149))
  where
    below : (Slight w → ⊥) → (G < ceiling) ⊎ (ceiling ≤ G) → (H < ceiling) ⊎ (ceiling ≤ H) → (G < H) ⊎ (H ≤ G) → (H < G) ⊎ (G ≤ H) → G ≡ H
    below s (inl p) (inl q) (inl l) k = absurd (near_once (1000 * w) (2 ^ 149) G H (lit< tt) (g.near s p, g.even p) (h.near s q, h.even q) l)
    below s (inl p) (inl q) (inr l) (inl k) = absurd (near_once (1000 * w) (2 ^ 149) H G (lit< tt) (h.near s q, h.even q) (g.near s p, g.even p) k)
    below s (inl p) (inl q) (inr l) (inr k) = le_antisymm k l
    below s (inr p) q l k = let e = le_antisymm g.most p in e ∙ sym (h.full.1 (g.full.0 e))
    below s (inl p) (inr q) l k = let e = le_antisymm h.most q in g.full.1 (h.full.0 e) ∙ sym e

    others : (Slight w → ⊥) → G ≡ H
    others s = below s (split G ceiling) (split H ceiling) (split G H) (split H G)

    by : (0 < w) ⊎ (w ≤ 0) → (2000 * w < 2 ^ 149) ⊎ (2 ^ 149 ≤ 2000 * w) → G ≡ H
    by (inl p) (inl q) = g.slight (p, q) ∙ sym (h.slight (p, q))
    by (inr p) q = others (λ s. not-suc-le-zero (le_trans s.0 p))
    by (inl p) (inr q) = others (λ s. lt_irrefl (2000 * w) (lt_of_lt_of_le s.1 q))

-- it rises with the weight
pub figure_rises : (v w : Float) → units_of v ≤ units_of w → figure v ≤ figure w
unfolding figure figure_of
figure_rises v w h = go (1000 * units_of v) (1000 * units_of w) (mul-le-mul (le_refl 1000) h)
  where
    caps : (a b c d : ℕ) → a ≤ b → c ≤ d → min (max (min a 1) c) ceiling ≤ min (max (min b 1) d) ceiling
    caps a b c d k l = omega arith

    go : (a b : ℕ) → a ≤ b → min (max (min a 1) (closest a (2 ^ 149))) ceiling ≤ min (max (min b 1) (closest b (2 ^ 149))) ceiling
    go a b k =
        caps a b (closest a (2 ^ 149)) (closest b (2 ^ 149)) k
        (closest_mono a (2 ^ 149) b (2 ^ 149) (lit< tt) (lit< tt) (mul-le-mul_right (2 ^ 149) k))
