-- Laws of the line at a place: what the check answers there, by its tests.
-- Assumes nothing.
use Prim.Native.Nat.{ℕ, ◌+◌, ◌-◌, ◌≤◌}
use mathlib.Core.Path.{◌≡◌, refl, sym, ap, ◌∙◌, subst}
use mathlib.Core.Bool.{Bool, true, false, cond}
use mathlib.Core.List.{List}
use native.Mathlib.Omega.{arith}
use lib.Dec.{ltb}
use lib.ListN.{get_or, take, drop}
use borrow.Author.Tests.{ltb-false}
use Rattle.sheet.specs.Kinds.{pick, kinds, width, kind_of, as_kind}
use Rattle.sheet.specs.Refusal.{is_line, is_in_order}
use Rattle.std.specs.Prelude.{Option, Some, None}
use Rattle.sheet.specs.Next.{line_to, next_at}
use Rattle.sheet.specs.declared.check.Line.{Line}

-- the kind that a letter names, if it names one
pub kind_some : (c k : ℕ) → Some k ≡ as_kind c → k ≡ c
kind_some c k e = by (ltb c kinds) e
  where
    by : (b : Bool) → Some k ≡ cond b (Some c) None → k ≡ c
    by true q = cc
    by false q = let z : ◌≡◌ {A = ℕ} 0 1 = cc in absurd (omega arith)

pub kind_none : (c : ℕ) → None ≡ as_kind c → kinds ≤ c
kind_none c e = by (ltb c kinds) refl e
  where
    by : (b : Bool) → ltb c kinds ≡ b → None ≡ cond b (Some c) None → kinds ≤ c
    by true p q = let z : ◌≡◌ {A = ℕ} 0 1 = cc in absurd (omega arith)
    by false p q = ltb-false c kinds p

pub line_there : (text : List ℕ) (at k w : ℕ) (b : Bool) → w ≡ width k → is_line k (take (at + w - at) (drop at text)) ≡ b
    → is_line k (take (width k) (drop at text)) ≡ b
line_there text at k w b e t =
    let z : at + w - at ≡ width k = omega arith in
    subst (λ (j : ℕ). is_line k (take j (drop at text)) ≡ b) z t

module _ (text : List ℕ) (at n m : ℕ) where
  abbrev next_of : ℕ → Option Line
  next_of k = pick (is_line k (take (width k) (drop at text))) (pick (is_in_order n m k) (Some (line_to k (at + width k))) None) None

  pub next_of_lem : (k : ℕ) → k ≡ kind_of (get_or text at 0) → next_of k ≡ next_at text at n m
  unfolding next_at
  next_of_lem k e = ap next_of e

  pub next_not_line : (k : ℕ) → k ≡ kind_of (get_or text at 0) → is_line k (take (width k) (drop at text)) ≡ false → None ≡ next_at text at n m
  next_not_line k e f =
      let q : next_of k ≡ None = rw f in
      sym q ∙ next_of_lem k e

  order_or_not : (a b : Bool) (x : Option Line) → b ≡ false → pick a (pick b x None) None ≡ None
  order_or_not true b x e = rw e
  order_or_not false b x e = refl

  pub next_not_order : (k : ℕ) → k ≡ kind_of (get_or text at 0) → is_in_order n m k ≡ false → None ≡ next_at text at n m
  next_not_order k e f = sym (order_or_not (is_line k (take (width k) (drop at text))) (is_in_order n m k) (Some (line_to k (at + width k))) f) ∙ next_of_lem k e

  pub next_line : (k w : ℕ) → k ≡ kind_of (get_or text at 0) → w ≡ width k → is_line k (take (width k) (drop at text)) ≡ true → is_in_order n m k ≡ true
      → Some (line_to k (at + w)) ≡ next_at text at n m
  next_line k w e v f g =
      let q : next_of k ≡ Some (line_to k (at + width k)) = rw (f, g) in
      ap (λ (j : ℕ). Some (line_to k (at + j))) v ∙ sym q ∙ next_of_lem k e
