-- Lower links: the nearest block of strictly lower frequency on its side, and no other; absent exactly if none is lower. Every law takes the side
use mathlib.Core.Path.{◌≡◌, refl, sym, ◌∙◌, subst}
use mathlib.Core.Logic.{◌⊎◌, inl, inr, ⊎_elim}
use mathlib.Core.List.{List}
use Prim.Native.Nat.{ℕ, suc, ◌+◌, ◌-◌, ◌≤◌, ◌<◌, zero-le}
use native.Mathlib.Nat.{le_trans, lt_of_lt_of_le, lt_irrefl, not-le_of_lt}
use native.Mathlib.Omega.{arith}
use mathlib.Core.Bool.{Bool, true, false, cond, true≢false}
use lib.Dec.{ltb, ltb→lt, nltb→le, lit≤}
use lib.ListN.{length, get_or}
use borrow.Author.Tests.{ltb-true, ltb-false, lt-ltb, le-ltb}
use Rattle.numbers.specs.Weight.{finite, units_of, frequency_limit, value_of}
use Rattle.columns.proofs.Tests.{cond_both}
use Rattle.numbers.proofs.Units.{units_order}
use Rattle.numbers.proofs.Bits.{value_finite, value_order}
use Rattle.columns.specs.First.{first_below, FirstIn}
use Rattle.links.specs.Links.{beside, beyond, absent, is_lower, lower_link, LiesBeyond, IsLink, nth}
use Rattle.links.specs.declared.lower.Side.{Side}
use Rattle.links.specs.declared.lower.Side.TheVariants.{Previous, Next}
use Rattle.columns.proofs.Firsts.{split, first_in}

-- ---- sides
pub apart : (side : Side) (a b : ℕ) → LiesBeyond side a b ⊎ ((a ≡ b) ⊎ LiesBeyond side b a)
apart Previous a b = ⊎_elim (λ p. inl p) (λ q. inr (⊎_elim (λ r. inr r) (λ s. inl (omega arith)) (split a b))) (split b a)
apart Next a b = ⊎_elim (λ p. inl p) (λ q. inr (⊎_elim (λ r. inr r) (λ s. inl (omega arith)) (split b a))) (split a b)

pub not_itself : (side : Side) (a : ℕ) → LiesBeyond side a a → ⊥
not_itself Previous a h = lt_irrefl a h
not_itself Next a h = lt_irrefl a h

pub beyond_further : (side : Side) (a b c : ℕ) → LiesBeyond side a b → LiesBeyond side b c → LiesBeyond side a c
beyond_further Previous a b c p q = omega arith
beyond_further Next a b c p q = omega arith

pub beyond_inside : (side : Side) (n b t : ℕ) → b < n → t < beside side n b → beyond side b t < n
beyond_inside Previous n b t h l = omega arith
beyond_inside Next n b t h l = omega arith

pub beyond_beyond : (side : Side) (n b t : ℕ) → t < beside side n b → LiesBeyond side b (beyond side b t)
beyond_beyond Previous n b t l = omega arith
beyond_beyond Next n b t l = omega arith

-- a block beyond b has a distance
pub record Distance (side : Side) (n b k : ℕ) : Type 0 where
  pub between : ℕ
  pub inside : between < beside side n b
  pub is : beyond side b between ≡ k

pub distance : (side : Side) (n b k : ℕ) → b < n → k < n → LiesBeyond side b k → Distance side n b k
distance Previous n b k h l p = record { between = b - (k + 1); inside = omega arith; is = omega arith }
distance Next n b k h l p = record { between = k - (b + 1); inside = omega arith; is = omega arith }

pub nearer : (side : Side) (n b t s : ℕ) → t < beside side n b → s < beside side n b → LiesBeyond side (beyond side b t) (beyond side b s) → t < s
nearer Previous n b t s h l p = omega arith
nearer Next n b t s h l p = omega arith

-- ---- frequencies in order
frequency_units : List ℕ → ℕ → ℕ
frequency_units f k = units_of (value_of frequency_limit (get_or f k 0))

lower_is : (f : List ℕ) (b k : ℕ) → is_lower f b k ≡ ltb (frequency_units f k) (frequency_units f b)
unfolding is_lower frequency_units
lower_is f b k = units_order (finite (value_finite frequency_limit (get_or f k 0) (lit≤ tt))) (finite (value_finite frequency_limit (get_or f b 0) (lit≤ tt)))

not_lower : (f : List ℕ) (b k : ℕ) → is_lower f b k ≡ false → frequency_units f b ≤ frequency_units f k
not_lower f b k e = ltb-false (frequency_units f k) (frequency_units f b) (sym (lower_is f b k) ∙ e)

is_not_lower : (f : List ℕ) (b k : ℕ) → frequency_units f b ≤ frequency_units f k → is_lower f b k ≡ false
is_not_lower f b k h = lower_is f b k ∙ le-ltb (frequency_units f k) (frequency_units f b) h

-- what is not lower than a block that is not lower is not lower
pub lower_through : (f : List ℕ) (b j k : ℕ) → is_lower f b j ≡ false → is_lower f j k ≡ false → is_lower f b k ≡ false
lower_through f b j k p q = is_not_lower f b k (le_trans (not_lower f b j p) (not_lower f j k q))

-- what is not lower than a block is not lower than a lower one
pub lower_less : (f : List ℕ) (b j k : ℕ) → is_lower f b j ≡ true → is_lower f b k ≡ false → is_lower f j k ≡ false
lower_less f b j k p q =
    let l : frequency_units f j < frequency_units f b = ltb-true (frequency_units f j) (frequency_units f b) (sym (lower_is f b j) ∙ p) in
    let m = not_lower f b k q in
    is_not_lower f j k (omega arith)

-- sound frequencies compare as their bits do
pub lower_bits : (f : List ℕ) (b k : ℕ) → get_or f k 0 ≤ frequency_limit → get_or f b 0 ≤ frequency_limit → is_lower f b k ≡ ltb (get_or f k 0) (get_or f b 0)
unfolding is_lower
lower_bits f b k p q = value_order frequency_limit (get_or f k 0) (get_or f b 0) (lit≤ tt) p q

-- ---- links
-- the definition's link is one
pub link_nearest : (side : Side) (f : List ℕ) (b : ℕ) → length f ≤ absent → b < length f → IsLink side f b (lower_link side f b)
unfolding lower_link
link_nearest side f b few h =
    let n = beside side (length f) b in
    let test : ℕ → Bool = λ t. is_lower f b (beyond side b t) in
    cond_both (λ (v : ℕ). IsLink side f b v) (ltb (first_below test n) n) (beyond side b (first_below test n)) absent
    (λ t. hit (first_below test n) (ltb→lt (first_below test n) n t) (first_in test n))
    (λ t. miss (first_below test n) (nltb→le (first_below test n) n t) (first_in test n))
  where
    hit : (t : ℕ) → t < beside side (length f) b → FirstIn (λ (t : ℕ). is_lower f b (beyond side b t)) 0 (beside side (length f) b) t
        → IsLink side f b (beyond side b t)
    hit t l i =
        record {
          passed = λ k kn bk kv.
              let d = distance side (length f) b k h kn bk in
              let v = kv (beyond_inside side (length f) b t h l) in
              let m = nearer side (length f) b d.between t d.inside l (subst (λ (x : ℕ). LiesBeyond side x (beyond side b t)) (sym d.is) v) in
              subst (λ (x : ℕ). is_lower f b x ≡ false) d.is (i.passed d.between zero-le m);
          found = λ _. (beyond_beyond side (length f) b t l, i.found l);
          gone = λ g. absurd (not-le_of_lt (beyond_inside side (length f) b t h l) g);
        }

    miss : (t : ℕ) → beside side (length f) b ≤ t → FirstIn (λ (t : ℕ). is_lower f b (beyond side b t)) 0 (beside side (length f) b) t → IsLink side f b absent
    miss t l i =
        record {
          passed = λ k kn bk _.
              let d = distance side (length f) b k h kn bk in
              subst (λ (x : ℕ). is_lower f b x ≡ false) d.is (i.passed d.between zero-le (lt_of_lt_of_le d.inside l));
          found = λ g. absurd (not-le_of_lt g few);
          gone = λ _. refl;
        }

-- and there is only one
no_other : (side : Side) (f : List ℕ) (b v w : ℕ) → IsLink side f b v → IsLink side f b w → v < length f → (w < length f → LiesBeyond side v w) → ⊥
no_other side f b v w p q vn vw = true≢false (sym (p.found vn).1 ∙ q.passed v vn (p.found vn).0 vw)

pub link_only : (side : Side) (f : List ℕ) (b v w : ℕ) → IsLink side f b v → IsLink side f b w → v ≡ w
link_only side f b v w p q =
    ⊎_elim
    (λ vn. ⊎_elim
    (λ wn. ⊎_elim (λ vw. absurd (no_other side f b v w p q vn (λ _. vw))) (λ r. ⊎_elim (λ e. e) (λ wv. absurd (no_other side f b w v q p wn (λ _. wv))) r)
    (apart side v w))
    (λ wn. absurd (no_other side f b v w p q vn (λ l. absurd (not-le_of_lt l wn))))
    (split w (length f)))
    (λ vn. ⊎_elim
    (λ wn. absurd (no_other side f b w v q p wn (λ l. absurd (not-le_of_lt l vn))))
    (λ wn. p.gone vn ∙ sym (q.gone wn))
    (split w (length f)))
    (split v (length f))

pub link_is : (side : Side) (f : List ℕ) (b v : ℕ) → length f ≤ absent → b < length f → IsLink side f b v → v ≡ lower_link side f b
link_is side f b v few h p = link_only side f b v (lower_link side f b) p (link_nearest side f b few h)

-- ---- following: where everything up to block j is passed, and block j is not lower, everything up to j's own link is
pub link_jump : (side : Side) (f : List ℕ) (b j v : ℕ) → is_lower f b j ≡ false
    → ((k : ℕ) → k < length f → LiesBeyond side b k → LiesBeyond side k j → is_lower f b k ≡ false) → IsLink side f j v
    → (k : ℕ) → k < length f → LiesBeyond side b k → (v < length f → LiesBeyond side k v) → is_lower f b k ≡ false
link_jump side f b j v h p q k kn bk kv =
    ⊎_elim
    (λ kj. p k kn bk kj)
    (λ w. ⊎_elim (λ e. subst (λ (x : ℕ). is_lower f b x ≡ false) (sym e) h) (λ jk. lower_through f b j k h (q.passed k kn jk kv)) w)
    (apart side k j)

-- ---- how many blocks a walk has left on a side
unfoldable pub remaining : Side → ℕ → ℕ → ℕ
remaining side n j = cond (ltb j n) (suc (beside side n j)) 0

pub fewer : (side : Side) (n j v : ℕ) → j < n → (v < n → LiesBeyond side j v) → remaining side n v < remaining side n j
unfolding remaining
fewer side n j v h p =
    subst (λ (x : Bool). cond (ltb v n) (suc (beside side n v)) 0 < cond x (suc (beside side n j)) 0) (sym (lt-ltb j n h))
    (cond_both (λ (x : ℕ). x < suc (beside side n j)) (ltb v n) (suc (beside side n v)) 0 (λ t. step side (ltb→lt v n t) (p (ltb→lt v n t))) (λ _. omega arith))
  where
    step : (side : Side) → v < n → LiesBeyond side j v → suc (beside side n v) < suc (beside side n j)
    step Previous l q = omega arith
    step Next l q = omega arith

-- ---- the order of linking: after t blocks those beyond the next one are linked
unfoldable pub Done : Side → ℕ → ℕ → ℕ → Type 0
Done Previous n t k = k < t
Done Next n t k = n ≤ k + t

pub nth_inside : (side : Side) (n t : ℕ) → t < n → nth side n t < n
nth_inside Previous n t h = h
nth_inside Next n t h = omega arith

pub done_beyond : (side : Side) (n t k : ℕ) → t < n → LiesBeyond side (nth side n t) k → Done side n t k
unfolding Done
done_beyond Previous n t k h p = p
done_beyond Next n t k h p = omega arith

pub beyond_done : (side : Side) (n t k : ℕ) → t < n → Done side n t k → LiesBeyond side (nth side n t) k
unfolding Done
beyond_done Previous n t k h p = p
beyond_done Next n t k h p = omega arith

pub done_next : (side : Side) (n t k : ℕ) → t < n → Done side n (t + 1) k → (k ≡ nth side n t) ⊎ Done side n t k
unfolding Done
done_next Previous n t k h p = ⊎_elim (λ l. inr l) (λ l. inl (omega arith)) (split k t)
done_next Next n t k h p = ⊎_elim (λ l. inl (omega arith)) (λ l. inr l) (split (k + t) n)

pub done_none : (side : Side) (n k : ℕ) → k < n → Done side n 0 k → ⊥
unfolding Done
done_none Previous n k h p = omega arith
done_none Next n k h p = omega arith

pub done_all : (side : Side) (n t k : ℕ) → n ≤ t → k < n → Done side n t k
unfolding Done
done_all Previous n t k l h = omega arith
done_all Next n t k l h = omega arith
