-- Following lower links: where the chain goes on, where it ends, and that one sweep over the blocks reaches the same last block
use mathlib.Core.Path.{◌≡◌, refl, sym, ap, ◌∙◌, subst}
use mathlib.Core.Logic.{◌⊎◌, inl, inr, ⊎_elim}
use mathlib.Core.List.{List, [], ◌∷◌, map}
use Prim.Native.Nat.{ℕ, zero, suc, ◌+◌, ◌-◌, ◌≤◌, ◌<◌}
use native.Mathlib.Nat.{le_refl, lt_of_lt_of_le, lt_of_le_of_lt, not-le_of_lt, not-suc-le-zero}
use native.Mathlib.Omega.{arith}
use mathlib.Core.Bool.{Bool, true, false, ◌&&◌, cond, true≢false}
use lib.Dec.{ltb}
use lib.ListN.{length, get_or}
use borrow.Author.Tests.{lt-ltb, ltb-true, leb-false, lt-leb}
use Rattle.links.specs.Links.{beside, beyond, absent, is_lower, lower_link, LiesBeyond, IsLink}
use Rattle.links.specs.Split.{follow, last_or, reaches, last_reached}
use Rattle.links.specs.declared.lower.Side.{Side}
use Rattle.links.specs.declared.lower.Side.TheVariants.{Previous, Next}
use Rattle.columns.proofs.Tests.{and_both}
use Rattle.columns.proofs.Firsts.{split}
use Rattle.links.proofs.Linking.{beyond_further, beyond_inside, beyond_beyond, Distance, distance, nearer}
use Rattle.links.proofs.Linking.{link_nearest, link_is}

-- ---- one link
and_then : (a b : Bool) → (a ≡ true → b ≡ false) → (a && b) ≡ false
and_then true b h = h refl
and_then false b h = refl

pub follow_ends : (side : Side) (f : List ℕ) (within : ℕ → Bool) (fuel b : ℕ) → (lower_link side f b < length f → within (lower_link side f b) ≡ false)
    → follow side f within fuel b ≡ []
unfolding follow
follow_ends side f within zero b h = refl
follow_ends side f within (suc fuel) b h =
    let c = lower_link side f b in
    ap (λ (t : Bool). cond t (c ∷ follow side f within fuel c) []) (and_then (ltb c (length f)) (within c) (λ e. h (ltb-true c (length f) e)))

pub follow_goes_on : (side : Side) (f : List ℕ) (within : ℕ → Bool) (fuel b c : ℕ) → c ≡ lower_link side f b → c < length f → within c ≡ true
    → follow side f within (suc fuel) b ≡ c ∷ follow side f within fuel c
unfolding follow
follow_goes_on side f within fuel b c e l h =
    let d = lower_link side f b in
    ap (λ (t : Bool). cond t (d ∷ follow side f within fuel d) [])
    (and_both (ltb d (length f)) (within d) (subst (λ (x : ℕ). ltb x (length f) ≡ true) e (lt-ltb c (length f) l)) (subst (λ (x : ℕ). within x ≡ true) e h))
    ∙ ap (λ (x : ℕ). x ∷ follow side f within fuel x) (sym e)

-- steps that suffice for all blocks on a side of one suffice, but for one, on that side of a block there
pub fuel_left : (side : Side) (n a c fuel : ℕ) → a < n → c < n → LiesBeyond side a c → beside side n a ≤ fuel → (k : ℕ) × (fuel ≡ suc k) × (beside side n c ≤ k)
fuel_left side n a c zero an cn p q = absurd (none side an cn p q)
  where
    none : (side : Side) → a < n → c < n → LiesBeyond side a c → beside side n a ≤ 0 → ⊥
    none Previous an cn p q = omega arith
    none Next an cn p q = omega arith
fuel_left side n a c (suc k) an cn p q = (k, refl, less side an cn p q)
  where
    less : (side : Side) → a < n → c < n → LiesBeyond side a c → beside side n a ≤ suc k → beside side n c ≤ k
    less Previous an cn p q = omega arith
    less Next an cn p q = omega arith

-- ---- a sweep from block b, after t blocks on a side: block c was reached last
module _ (side : Side) (f edges : List ℕ) (limit start b : ℕ) where
  abbrev place : ℕ → ℕ
  place c = get_or edges c 0

  abbrev within : ℕ → Bool
  within c = reaches side limit (place c)

  pub record Sweep (t place-now least : ℕ) : Type 0 where
    pub last : ℕ
    pub fuel : ℕ
    pub inside : last < length f
    pub lowest : least ≡ get_or f last 0
    pub enough : beside side (length f) last ≤ fuel
    pub behind : (last ≡ b) ⊎ LiesBeyond side b last
    pub ahead : (s : ℕ) → t ≤ s → s < beside side (length f) b → LiesBeyond side last (beyond side b s)
    pub passed : (s : ℕ) → s < t → s < beside side (length f) b → LiesBeyond side last (beyond side b s) → is_lower f last (beyond side b s) ≡ false
    pub result : last_or place-now (map place (follow side f within fuel last)) ≡ last_reached side f edges limit start b

  pub sweep_starts : b < length f → Sweep 0 start (get_or f b 0)
  sweep_starts h =
      record {
        last = b;
        fuel = length f;
        inside = h;
        lowest = refl;
        enough = at_most side (length f) b h;
        behind = inl refl;
        ahead = λ s _ l. beyond_beyond side (length f) b s l;
        passed = λ s l. absurd (not-suc-le-zero l);
        result = refl;
      }
    where
      at_most : (side : Side) (n b : ℕ) → b < n → beside side n b ≤ n
      at_most Previous n b h = omega arith
      at_most Next n b h = omega arith

  module _ (few : length f ≤ absent) (h : b < length f) (t p l : ℕ) (s : Sweep t p l) where
    -- a block beyond the last one reached is at some distance from b
    at_distance : (k : ℕ) → k < length f → LiesBeyond side s.last k → Distance side (length f) b k
    at_distance k kn ck =
        distance side (length f) b k h kn
        (⊎_elim (λ e. subst (λ (x : ℕ). LiesBeyond side x k) e ck) (λ m. beyond_further side b s.last k m ck) s.behind)

    -- the next block is lower: it is the link of the last one reached
    module _ (inside : t < beside side (length f) b) where
      abbrev i : ℕ
      i = beyond side b t

      i_inside : i < length f
      i_inside = beyond_inside side (length f) b t h inside

      next_link : is_lower f s.last i ≡ true → IsLink side f s.last i
      next_link e =
          record {
            passed = λ k kn ck ki.
                let d = at_distance k kn ck in
                let v = ki (beyond_inside side (length f) b t h inside) in
                let m = nearer side (length f) b d.between t d.inside inside (subst (λ (x : ℕ). LiesBeyond side x (beyond side b t)) (sym d.is) v) in
                subst (λ (x : ℕ). is_lower f s.last x ≡ false) d.is
                (s.passed d.between m d.inside (subst (λ (x : ℕ). LiesBeyond side s.last x) (sym d.is) ck));
            found = λ _. (s.ahead t (le_refl t) inside, e);
            gone = λ g. absurd (not-le_of_lt (beyond_inside side (length f) b t h inside) g);
          }

      pub sweep_lower : is_lower f s.last i ≡ true → within i ≡ true → Sweep (t + 1) (place i) (get_or f i 0)
      sweep_lower e w =
          let c = beyond side b t in
          let k = fuel_left side (length f) s.last c s.fuel s.inside i_inside (s.ahead t (le_refl t) inside) s.enough in
          let g : follow side f within s.fuel s.last ≡ c ∷ follow side f within k.0 c =
          ap (λ (x : ℕ). follow side f within x s.last) k.1 ∙ follow_goes_on side f within k.0 s.last c
          (link_is side f s.last c few s.inside (next_link e)) i_inside w in
          record {
            last = c;
            fuel = k.0;
            inside = i_inside;
            lowest = refl;
            enough = k.2;
            behind = inr (beyond_beyond side (length f) b t inside);
            ahead = λ r m n. further side (length f) b t r m inside n;
            passed = λ r m n q. absurd (back side (length f) b t r m inside n q);
            result = sym (ap (λ (xs : List ℕ). last_or p (map place xs)) g) ∙ s.result;
          }
        where
          further : (side : Side) (n b t r : ℕ) → t + 1 ≤ r → t < beside side n b → r < beside side n b → LiesBeyond side (beyond side b t) (beyond side b r)
          further Previous n b t r m l q = omega arith
          further Next n b t r m l q = omega arith

          back : (side : Side) (n b t r : ℕ) → r < t + 1 → t < beside side n b → r < beside side n b → LiesBeyond side (beyond side b t) (beyond side b r) → ⊥
          back Previous n b t r m l q w = omega arith
          back Next n b t r m l q w = omega arith

      -- the next block is not lower: it is passed
      pub sweep_passes : is_lower f s.last i ≡ false → Sweep (t + 1) p l
      sweep_passes e =
          record {
            last = s.last;
            fuel = s.fuel;
            inside = s.inside;
            lowest = s.lowest;
            enough = s.enough;
            behind = s.behind;
            ahead = λ r m n. s.ahead r (weaker m) n;
            passed =
                λ r m n q. ⊎_elim (λ w. s.passed r w n q) (λ w. subst (λ (x : ℕ). is_lower f s.last (beyond side b x) ≡ false) (both r m w) e) (split r t);
            result = s.result;
          }
        where
          weaker : {r : ℕ} → t + 1 ≤ r → t ≤ r
          weaker m = omega arith

          both : (r : ℕ) → r < t + 1 → t ≤ r → t ≡ r
          both r m w = omega arith

    -- the links of the last one reached lie at distance t or beyond
    link_far : (v : ℕ) → IsLink side f s.last v → v < length f → (d : Distance side (length f) b v) × (t ≤ d.between)
    link_far v q vn =
        let w = q.found vn in
        let d = at_distance v vn w.0 in (
          d,
          ⊎_elim
              (λ m. absurd (true≢false (sym w.1 ∙ subst (λ (x : ℕ). is_lower f s.last x ≡ false) d.is
              (s.passed d.between m d.inside (subst (λ (x : ℕ). LiesBeyond side s.last x) (sym d.is) w.0)))))
              (λ m. m)
              (split d.between t),
        )

    -- where nothing at distance t or beyond is within, the sweep ends, and what it reached is the result
    pub sweep_ends : ((d : ℕ) → t ≤ d → d < beside side (length f) b → within (beyond side b d) ≡ false) → p ≡ last_reached side f edges limit start b
    sweep_ends none =
        sym (ap (λ (xs : List ℕ). last_or p (map place xs)) (follow_ends side f within s.fuel s.last (λ vn.
        let d = link_far (lower_link side f s.last) (link_nearest side f s.last few s.inside) vn in
        subst (λ (x : ℕ). within x ≡ false) d.0.is (none d.0.between d.1 d.0.inside))))
        ∙ s.result

-- past a place that the limit stops, every place is stopped
pub stopped : (side : Side) (edges : List ℕ) (n limit b t d : ℕ) → ((i k : ℕ) → i ≤ k → k < n → get_or edges i 0 ≤ get_or edges k 0) → b < n
    → t ≤ d → d < beside side n b → reaches side limit (get_or edges (beyond side b t) 0) ≡ false → reaches side limit (get_or edges (beyond side b d) 0) ≡ false
stopped Previous edges n limit b t d rising h m l e =
    let r = rising (b - (d + 1)) (b - (t + 1)) (omega arith) (omega arith) in
    let q = leb-false limit (get_or edges (b - (t + 1)) 0) e in
    lt-leb limit (get_or edges (b - (d + 1)) 0) (lt_of_le_of_lt r q)
stopped Next edges n limit b t d rising h m l e =
    let r = rising (b + 1 + t) (b + 1 + d) (omega arith) (omega arith) in
    let q = leb-false (get_or edges (b + 1 + t) 0) limit e in
    lt-leb (get_or edges (b + 1 + d) 0) limit (lt_of_lt_of_le q r)
