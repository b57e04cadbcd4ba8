-- Following stored links: one cut more, none left, how many there can be
use mathlib.Core.Path.{◌≡◌, refl, sym, ap, ◌∙◌, subst}
use mathlib.Core.Logic.{⊎_elim}
use mathlib.Core.List.{List, [], ◌∷◌}
use Prim.Native.Nat.{ℕ, zero, suc, ◌≤◌, ◌<◌, zero-le}
use native.Mathlib.Nat.{le_refl}
use native.Mathlib.Omega.{arith}
use mathlib.Core.Bool.{Bool, true, false, ◌&&◌, cond, true≢false}
use lib.Dec.{ltb, eqb}
use lib.ListN.{length, get_or}
use borrow.Author.Tests.{lt-ltb, le-ltb, ltb-true, eqb-true, eqb-false}
use Rattle.columns.proofs.Tests.{cond_true, cond_false, cond_both, and_left, and_right, and_both, and_parts}
use Rattle.links.specs.Links.{absent, link_answer, beside, LiesBeyond}
use Rattle.links.specs.Split.{reaches}
use Rattle.links.specs.declared.lower.Side.{Side}
use Rattle.links.specs.declared.lower.Side.TheVariants.{Previous, Next}
use Rattle.links.proofs.Following.{fuel_left}
use Rattle.gaps.specs.Cutting.{Leads, followed}
use Rattle.std.specs.Prelude.{Option, Some, None}
use Rattle.numbers.specs.declared.Block.{Block}

-- a block that is there
abbrev pub some_block : ℕ → Option Block
some_block b = Some (record { 0 = b })

-- the block at whose edge the next cut stands: a link, as long as it does not lead beyond the last block
unfoldable pub next_cut : Side → List ℕ → ℕ → ℕ → Option Block
next_cut side links last b =
    let c = get_or links b 0 in
    cond (ltb c (length links) && reaches side last c) (some_block c) None

-- ---- the answer to one link
-- an answered link, and the next cut
not_at : {c : ℕ} → None ≡ some_block c → ⊥
not_at e = true≢false (ap (λ (m : Option Block). elim m [ Some x ↦ false | None ↦ true ]) e)

link_gone_stored : (link : ℕ) → link_answer link ≡ None → link ≡ absent
link_gone_stored link e = go (eqb link absent) refl e
  where
    go : (t : Bool) → eqb link absent ≡ t → cond t None (some_block link) ≡ None → link ≡ absent
    go true q _ = eqb-true link absent q
    go false q r = cc

link_at_stored : (link c : ℕ) → link_answer link ≡ some_block c → (link ≡ c) × (link ≡ absent → ⊥)
link_at_stored link c e = go (eqb link absent) refl e
  where
    go : (t : Bool) → eqb link absent ≡ t → cond t None (some_block link) ≡ some_block c → (link ≡ c) × (link ≡ absent → ⊥)
    go true q r = absurd (not_at r)
    go false q r = (ap (λ (m : Option Block). elim m [ Some x ↦ x.0 | None ↦ link ]) r, eqb-false link absent q)

module _ (side : Side) (links : List ℕ) (leads : Leads side links) (last b : ℕ) (h : b < length links) where
  pub cut_gone : link_answer (get_or links b 0) ≡ None → None ≡ next_cut side links last b
  unfolding next_cut
  cut_gone e =
      let f = leads.few in
      let q = link_gone_stored (get_or links b 0) e in
      sym (cond_false _ _ (and_left _ (reaches side last (get_or links b 0)) (le-ltb (get_or links b 0) (length links) (omega (arith, q, f)))))

  inside_of : (c : ℕ) → link_answer (get_or links b 0) ≡ some_block c → get_or links b 0 < length links
  inside_of c e = ⊎_elim (λ q. absurd ((link_at_stored (get_or links b 0) c e).1 q)) (λ q. q.0) (leads.each b h)

  pub cut_at : (c : ℕ) → link_answer (get_or links b 0) ≡ some_block c → reaches side last c ≡ true → some_block c ≡ next_cut side links last b
  unfolding next_cut
  cut_at c e r =
      let q = (link_at_stored (get_or links b 0) c e).0 in
      ap (λ (x : ℕ). some_block x) (sym q)
      ∙ sym (cond_true _ _ (and_both _ _ (lt-ltb (get_or links b 0) (length links) (inside_of c e)) (ap (reaches side last) q ∙ r)))

  pub cut_stopped : (c : ℕ) → link_answer (get_or links b 0) ≡ some_block c → reaches side last c ≡ false → None ≡ next_cut side links last b
  unfolding next_cut
  cut_stopped c e r =
      let q = (link_at_stored (get_or links b 0) c e).0 in
      sym (cond_false _ _ (and_right (ltb (get_or links b 0) (length links)) _ (ap (reaches side last) q ∙ r)))

-- ---- the cuts from block b on
pub record NextCut (side : Side) (links : List ℕ) (last b c : ℕ) : Type 0 where
  pub is : c ≡ get_or links b 0
  pub inside : c < length links
  pub test : (ltb c (length links) && reaches side last c) ≡ true

pub next_at : (side : Side) (links : List ℕ) (last b c : ℕ) → next_cut side links last b ≡ some_block c → NextCut side links last b c
unfolding next_cut
next_at side links last b c e = go (ltb (get_or links b 0) (length links) && reaches side last (get_or links b 0)) refl e
  where
    go : (t : Bool) → (ltb (get_or links b 0) (length links) && reaches side last (get_or links b 0)) ≡ t
        → cond t (some_block (get_or links b 0)) None ≡ some_block c → NextCut side links last b c
    go true q r =
        let z : get_or links b 0 ≡ c = ap (λ (m : Option Block). elim m [ Some x ↦ x.0 | None ↦ c ]) r in
        subst (λ (x : ℕ). NextCut side links last b x) z (record
        { is = refl; inside = ltb-true (get_or links b 0) (length links) (and_parts _ _ q).0; test = q })
    go false q r = absurd (not_at r)

pub followed_more : (side : Side) (links : List ℕ) (last b c k : ℕ) → NextCut side links last b c
    → followed side links last (suc k) b ≡ c ∷ followed side links last k c
unfolding followed
followed_more side links last b c k n =
    let z = n.is in
    cond_true _ _ (subst (λ (x : ℕ). (ltb x (length links) && reaches side last x) ≡ true) z n.test)
    ∙ ap (λ (x : ℕ). x ∷ followed side links last k x) (sym z)

pub followed_end : (side : Side) (links : List ℕ) (last b k : ℕ) → next_cut side links last b ≡ None → followed side links last k b ≡ []
unfolding followed next_cut
followed_end side links last b zero e = refl
followed_end side links last b (suc k) e = go (ltb (get_or links b 0) (length links) && reaches side last (get_or links b 0)) e
  where
    go : (t : Bool) → cond t (some_block (get_or links b 0)) None ≡ None
        → cond t (get_or links b 0 ∷ followed side links last k (get_or links b 0)) [] ≡ []
    go true r = cc
    go false r = refl

pub followed_few : (side : Side) (links : List ℕ) (last k b : ℕ) → length (followed side links last k b) ≤ k
unfolding followed
followed_few side links last zero b = le_refl 0
followed_few side links last (suc k) b =
    cond_both (λ (cs : List ℕ). length cs ≤ suc k) (ltb (get_or links b 0) (length links) && reaches side last (get_or links b 0))
    (get_or links b 0 ∷ followed side links last k (get_or links b 0)) []
    (λ _. let h = followed_few side links last k (get_or links b 0) in omega (arith, h)) (λ _. zero-le)

-- one cut more: the steps left suffice for the block reached
pub record OneMore (side : Side) (links : List ℕ) (last b c fuel : ℕ) : Type 0 where
  pub inside : c < length links
  pub fuel_after : ℕ
  pub enough : beside side (length links) c ≤ fuel_after
  pub fewer : beside side (length links) c < beside side (length links) b
  pub more : followed side links last fuel b ≡ c ∷ followed side links last fuel_after c

pub one_more : (side : Side) (links : List ℕ) → Leads side links → (last b c fuel : ℕ) → b < length links → beside side (length links) b ≤ fuel
    → next_cut side links last b ≡ some_block c → OneMore side links last b c fuel
one_more side links leads last b c fuel h enough e =
    let n = next_at side links last b c e in
    let onward : LiesBeyond side b c = ⊎_elim (λ q. absurd (gone q n)) (λ q. subst (LiesBeyond side b) (sym n.is) q.1) (leads.each b h) in
    let f = fuel_left side (length links) b c fuel h n.inside onward enough in
    record {
      inside = n.inside;
      fuel_after = f.0;
      enough = f.2;
      fewer = less side (length links) b c h n.inside onward;
      more = ap (λ (x : ℕ). followed side links last x b) f.1 ∙ followed_more side links last b c f.0 n;
    }
  where
    gone : get_or links b 0 ≡ absent → NextCut side links last b c → ⊥
    gone q n = let f = leads.few in let z = n.is in let i = n.inside in omega (arith, q, f, z, i)

    less : (side : Side) (n b c : ℕ) → b < n → c < n → LiesBeyond side b c → beside side n c < beside side n b
    less Previous n b c p q r = omega arith
    less Next n b c p q r = omega arith

-- steps for all blocks suffice
pub all_enough : (side : Side) (n b : ℕ) → b < n → beside side n b ≤ n
all_enough Previous n b h = omega arith
all_enough Next n b h = omega arith
