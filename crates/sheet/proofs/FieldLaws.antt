-- Laws of fields: a field has 11 columns, the number that it makes is its own, and a text is a field exactly if it is some number's.
-- Assumes nothing.
use Prim.Native.Nat.{ℕ, zero, suc, ◌+◌, ◌*◌, ◌-◌, ◌/◌, ◌%◌, ◌^◌, ◌≤◌, ◌<◌}
use mathlib.Core.Path.{◌≡◌, refl, sym, ap, ◌∙◌, subst}
use mathlib.Core.Bool.{Bool, true, false}
use mathlib.Core.List.{List, [], ◌∷◌, ◌++◌}
use native.Mathlib.Omega.{arith}
use native.Mathlib.Numerals.{add-one}
use native.Mathlib.Nat.{pow-succ', pow-zero, pow-le-pow_right}
use lib.ListN.{length, get_or, set, drop, length-append}
use lib.Dec.{eqb, leb, lit<}
use borrow.Author.Tests.{eq-eqb, ne_eqb, le-leb, leb-true}
use Rattle.sheet.specs.Kinds.{pick}
use Rattle.sheet.specs.Field.{digit_or_blank, digits, field, value_behind, value, is_field}
use lib.Seq.{sets}
use Rattle.std.proofs.lemmas.Slice.Eq.{bytes_eq-Decides}
use Rattle.sheet.proofs.Lists.{drop_next, sets_snoc}

pub not_both : true ≡ false → ⊥
not_both e = subst (λ (b : Bool). lib.Dec.T b) e tt

pub pick_both : (a b : Bool) → pick a b false ≡ true → (a ≡ true) × (b ≡ true)
pick_both true b e = (refl, e)
pick_both false b e = absurd (not_both (sym e))

pub pick_false : (a b : Bool) → b ≡ false → pick a b false ≡ false
pick_false true b e = e
pick_false false b e = refl

-- a turn of the loop that reads a number
pub value_step : (s : List ℕ) (n i d v : ℕ) → i < length s → d ≡ get_or s i 0 - 48 → value_behind n (drop i s) ≡ v → value_behind (n * 10 + d) (drop (i + 1) s) ≡ v
unfolding value_behind
value_step s n i d v h e p = rw e (rw (drop_next s i h) at p)

pub value_end : (s : List ℕ) (n i v : ℕ) → length s ≤ i → value_behind n (drop i s) ≡ v → n ≡ v
unfolding value_behind
value_end s n i v h p = rw (lib.ListN.drop_of_length-le s h) at p

pub bound_step : (n d i : ℕ) → d ≤ 207 → n + 23 ≤ 23 * 10 ^ i → n * 10 + d + 23 ≤ 23 * 10 ^ (i + 1)
bound_step n d i h b = rw (add-one, pow-succ' 10 i) (omega arith)

pub bound_small : (n i : ℕ) → i ≤ 11 → n + 23 ≤ 23 * 10 ^ i → n ≤ 2300000000000
bound_small n i h b =
    let m : 10 ^ i ≤ 10 ^ 11 = pow-le-pow_right (lit< tt) h in
    omega arith

pub columns_length : (w n : ℕ) → length (digits w n) ≡ w
unfolding digits
columns_length zero n = refl
columns_length (suc w) n = simp length-append (omega (arith, columns_length w (n / 10)))

pub field_length : (n : ℕ) → length (field n) ≡ 11
unfolding field
field_length n = simp length-append (omega (arith, columns_length 10 (n / 10)))

-- a turn of the loop that writes a number, from its last column on
pub put_step : (out whole : List ℕ) (at i left d : ℕ) → 0 < i → d ≡ digit_or_blank left → sets out at (digits i left) ≡ whole
    → sets (set out (at + (i - 1)) d) at (digits (i - 1) (left / 10)) ≡ whole
unfolding digits
put_step out whole at i left d h e p =
    let j : i ≡ suc (i - 1) = omega arith in
    let q : sets out at (digits (suc (i - 1)) left) ≡ whole = subst (λ (w : ℕ). sets out at (digits w left) ≡ whole) j p in
    let t : sets (set out (at + (i - 1)) (digit_or_blank left)) at (digits (i - 1) (left / 10))
    ≡ sets out at (digits (i - 1) (left / 10) ++ (digit_or_blank left ∷ [])) =
    ap (λ (w : ℕ). sets (set out (at + w) (digit_or_blank left)) at (digits (i - 1) (left / 10))) (sym (columns_length (i - 1) (left / 10)))
    ∙ sym (sets_snoc (digits (i - 1) (left / 10)) out at (digit_or_blank left)) in
    rw e (t ∙ q)

pub put_end : (out whole : List ℕ) (at i left : ℕ) → i ≤ 0 → sets out at (digits i left) ≡ whole → out ≡ whole
unfolding digits
put_end out whole at i left h p =
    let z : i ≡ 0 = omega arith in
    subst (λ (w : ℕ). sets out at (digits w left) ≡ whole) z p

pub put_whole : (out : List ℕ) (at n : ℕ) → sets (set out (at + 10) (48 + n % 10)) at (digits 10 (n / 10)) ≡ sets out at (field n)
unfolding field
put_whole out at n =
    ap (λ (w : ℕ). sets (set out (at + w) (48 + n % 10)) at (digits 10 (n / 10))) (sym (columns_length 10 (n / 10)))
    ∙ sym (sets_snoc (digits 10 (n / 10)) out at (48 + n % 10))

-- the number that a field makes is its own
value_snoc : (xs : List ℕ) (m c : ℕ) → value_behind m (xs ++ (c ∷ [])) ≡ value_behind m xs * 10 + (c - 48)
unfolding value_behind
value_snoc [] m c = refl
value_snoc (x ∷ xs) m c = value_snoc xs (m * 10 + (x - 48)) c

digit_value : (n : ℕ) → digit_or_blank n - 48 ≡ n % 10
unfolding digit_or_blank
digit_value zero = refl
digit_value (suc n) = rw (ne_eqb (suc n) 0 (omega arith)) (omega arith)

columns_value : (w n : ℕ) → n < 10 ^ w → value_behind 0 (digits w n) ≡ n
unfolding digits value_behind
columns_value zero n h = let z : n < 1 = rw (← pow-zero 10) h in omega arith
columns_value (suc w) n h =
    let p : n < 10 * 10 ^ w = rw (← pow-succ' 10 w) h in
    value_snoc (digits w (n / 10)) 0 (digit_or_blank n)
    ∙ omega (arith, columns_value w (n / 10) (omega arith), digit_value n)

pub field_value : (n : ℕ) → n < 4294967296 → value (field n) ≡ n
unfolding value field
field_value n h = value_snoc (digits 10 (n / 10)) 0 (48 + n % 10) ∙ omega (arith, columns_value 10 (n / 10) (omega arith))

-- a text is a field exactly if it is the text of an unsigned 32-bit number
pub is_field_lem : (n : ℕ) → n < 4294967296 → is_field (field n) ≡ true
unfolding is_field
is_field_lem n h =
    rw (eq-eqb (length (field n)) 11 (field_length n), field_value n h, le-leb n 4294967295 (omega arith)) ((bytes_eq-Decides (field n) (field n)).1 refl)

pub record FieldIs (x : List ℕ) : Type 0 where
  pub text : x ≡ field (value x)
  pub small : value x < 4294967296

pub field_is : (x : List ℕ) → is_field x ≡ true → FieldIs x
unfolding is_field
field_is x e =
    let p = pick_both (eqb (length x) 11) _ e in
    let q = pick_both (leb (value x) 4294967295) _ p.1 in
    let b : value x ≤ 4294967295 = leb-true (value x) 4294967295 q.0 in
    record { text = (bytes_eq-Decides x (field (value x))).0 q.1; small = omega arith }

-- a field has no line feed in it
abbrev pub NoFeed : List ℕ → Type 0
NoFeed [] = Unit {0}
NoFeed (c ∷ cs) = (c ≡ 10 → ⊥) × NoFeed cs

pub no_feed_append : (xs ys : List ℕ) → NoFeed xs → NoFeed ys → NoFeed (xs ++ ys)
no_feed_append [] ys p q = q
no_feed_append (x ∷ xs) ys p q = (p.0, no_feed_append xs ys p.1 q)

digit_no_feed : (n : ℕ) → digit_or_blank n ≡ 10 → ⊥
unfolding digit_or_blank
digit_no_feed zero e = omega arith
digit_no_feed (suc n) e = let p : 48 + suc n % 10 ≡ 10 = rw (ne_eqb (suc n) 0 (omega arith)) at e in omega arith

columns_no_feed : (w n : ℕ) → NoFeed (digits w n)
unfolding digits
columns_no_feed zero n = tt
columns_no_feed (suc w) n = no_feed_append (digits w (n / 10)) (digit_or_blank n ∷ []) (columns_no_feed w (n / 10)) (digit_no_feed n, tt)

pub field_no_feed : (n : ℕ) → NoFeed (field n)
unfolding field
field_no_feed n = no_feed_append (digits 10 (n / 10)) ((48 + n % 10) ∷ []) (columns_no_feed 10 (n / 10)) ((λ e. omega arith), tt)
