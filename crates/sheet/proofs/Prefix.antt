-- The longest sheet, and a line more, decides any text: a longer text has the verdict of its front.
-- Assumes nothing.
use Prim.Native.Nat.{ℕ, zero, suc, ◌+◌, ◌*◌, ◌≤◌, ◌<◌}
use mathlib.Core.Path.{◌≡◌, refl, sym, ap, ◌∙◌}
use mathlib.Core.List.{List, [], ◌∷◌}
use mathlib.Core.Logic.{◌⊎◌, inl, inr, ⊎_elim}
use native.Mathlib.Omega.{arith}
use native.Mathlib.Nat.{mul-le-mul_right, add-mul, one-mul, add-zero}
use native.Mathlib.Decide.{ℕ_discrete}
use lib.ListN.{length, get_or, set, take, drop, replicate, length-append}
use lib.Seq.{take_all, take-take, get_or-take, length-take-le, get_or-set_same, get_or-set_other}
use Rattle.sheet.specs.Kinds.{kinds, kind_at, fields, limit, width, widest, kind_of, bytes, longest_text}
use Rattle.sheet.specs.Sheet.{lines_text, Sheet, text_from, render, IsSheet}
use Rattle.sheet.specs.Refusal.{verdict, sheet_of}
use Rattle.sheet.specs.Next.{line_to, next_at}
use Rattle.std.specs.Prelude.{Option, Some, None, Ok}
use Rattle.sheet.specs.declared.check.Line.{Line}
use Rattle.sheet.proofs.KindLaws.{split, width_most, widest_two}
use Rattle.sheet.proofs.SoundLaws.{sound_sheet}
use Rattle.sheet.proofs.FillLaws.{lines_length}
use Rattle.sheet.proofs.CheckLaws.{Upto, upto_none, good_moved, next_good, next_bad, next_many, next_pass, good_kind}

-- a piece of the front is that piece of the text
piece_same : (at w n : ℕ) (text : List ℕ) → at + w ≤ n → take w (drop at (take n text)) ≡ take w (drop at text)
piece_same zero w n text h = take-take w n text (omega arith)
piece_same (suc at) w zero text h = absurd (omega arith)
piece_same (suc at) w (suc n) [] h = refl
piece_same (suc at) w (suc n) (c ∷ cs) h = piece_same at w n cs (omega arith)

-- so the line that stands at a place is the same
line_same : (text : List ℕ) (at n lines m : ℕ) → at + widest ≤ n → next_at (take n text) at lines m ≡ next_at text at lines m
unfolding next_at
line_same text at n lines m h =
    let c = get_or-take n text at 0 (omega (arith, widest_two)) in
    rw (c, piece_same at (width (kind_of (get_or text at 0))) n text (omega (arith, width_most (kind_of (get_or text at 0)))))

bytes_most : (n : ℕ) (rows most : ℕ → ℕ) → ((k : ℕ) → k < n → rows k ≤ most k) → bytes n rows ≤ bytes n most
unfolding bytes
bytes_most zero rows most h = omega arith
bytes_most (suc n) rows most h =
    omega (arith, mul-le-mul_right (width n) (h n (omega arith)), bytes_most n rows most (λ k l. h k (omega arith)))

-- how many lines of each kind a list counts
abbrev rows_of : List ℕ → ℕ → ℕ
rows_of counts k = get_or counts k 0

-- one more line of kind k
module _ (counts : List ℕ) (k : ℕ) (inside : k < length counts) where
  abbrev more : List ℕ
  more = set counts k (get_or counts k 0 + 1)

  bytes_same : (n : ℕ) → n ≤ k → bytes n (rows_of more) ≡ bytes n (rows_of counts)
  unfolding bytes
  bytes_same zero h = refl
  bytes_same (suc n) h =
      let e : get_or more n 0 ≡ get_or counts n 0 = get_or-set_other counts k n (get_or counts k 0 + 1) 0 (λ q. omega arith) in
      ap (λ (j : ℕ). j * width n + bytes n (rows_of more)) e ∙ ap (λ (j : ℕ). get_or counts n 0 * width n + j) (bytes_same n (omega arith))

  bytes_more : (n : ℕ) → k < n → bytes n (rows_of more) ≡ bytes n (rows_of counts) + width k
  unfolding bytes
  bytes_more zero h = absurd (omega arith)
  bytes_more (suc n) h = by (ℕ_discrete n k) (bytes_more n)
    where
      by : Dec (n ≡ k) → (k < n → bytes n (rows_of more) ≡ bytes n (rows_of counts) + width k)
          → get_or more n 0 * width n + bytes n (rows_of more) ≡ get_or counts n 0 * width n + bytes n (rows_of counts) + width k
      by (yes q) later =
          let e : get_or more n 0 ≡ get_or counts n 0 + 1 = ap (λ (j : ℕ). get_or more j 0) q ∙ get_or-set_same counts k (get_or counts k 0 + 1) 0 inside
          ∙ ap (λ (j : ℕ). get_or counts j 0 + 1) (sym q) in
          let x : get_or more n 0 * width n ≡ (get_or counts n 0 + 1) * width n = ap (λ (j : ℕ). j * width n) e in
          let w : (get_or counts n 0 + 1) * width n ≡ get_or counts n 0 * width n + width n = add-mul (get_or counts n 0) 1 (width n)
          ∙ ap (λ (j : ℕ). get_or counts n 0 * width n + j) (one-mul (width n)) in
          omega (arith, bytes_same n (omega arith), ap width q)
      by (no q) later =
          let e : get_or more n 0 * width n ≡ get_or counts n 0 * width n = ap (λ (j : ℕ). j * width n) (get_or-set_other counts k n (get_or counts k 0 + 1) 0 q) in
          omega (arith, later (omega arith))

upto_most : (text counts : List ℕ) (lines m at : ℕ) → Upto text counts lines m at → bytes kinds (rows_of counts) ≤ longest_text
unfolding longest_text
upto_most text counts lines m at u =
    omega (arith, bytes_most kinds (rows_of counts) limit (λ k h. omega (arith, u.rows k h, u.within k h)))

-- the bytes of a sheet's text
module _ (s : Sheet) (is : IsSheet s) where
  abbrev rows : ℕ → ℕ
  rows k = length (s k)

  text_long : (n k : ℕ) → k + n ≤ kinds → bytes k rows + length (text_from s k n) ≡ bytes (k + n) rows
  unfolding bytes text_from
  text_long zero k h = omega (arith, ap (λ (j : ℕ). bytes j rows) (add-zero k))
  text_long (suc n) k h =
      let z : suc k + n ≡ k + suc n = omega arith in
      omega (
        arith,
        length-append (lines_text k (s k)) (text_from s (suc k) n),
        lines_length k (omega arith) (text_from s (suc k) n) (s k) (is.rows k (omega arith)),
        text_long n (suc k) (omega arith),
        ap (λ (j : ℕ). bytes j rows) z,
      )

-- a text that is a sheet within the limits has no more
pub sheet_short : (text : List ℕ) → verdict text ≡ Ok tt → length text ≤ longest_text
unfolding render bytes longest_text
sheet_short text e =
    let t = sound_sheet text e in
    omega (
      arith,
      ap length t.same,
      text_long (sheet_of text) t.sheet kinds 0 (omega arith),
      bytes_most kinds (λ (k : ℕ). length (sheet_of text k)) limit t.within,
    )

-- the front of a text has its verdict: line by line the same is said of both
module _ (text : List ℕ) (n : ℕ) (long : longest_text + widest ≤ n) (longer : n < length text) where
  front : List ℕ
  front = take n text

  front_long : length front ≡ n
  unfolding front
  front_long = length-take-le n text (omega arith)

  -- from any place on, where so many bytes more are past the longest sheet
  abbrev Same : ℕ → Type 0
  Same fuel =
      (counts : List ℕ) (lines m at : ℕ) → Upto text counts lines m at → Upto front counts lines m at → at ≡ bytes kinds (rows_of counts) →
      longest_text < at + fuel
      → verdict front ≡ verdict text

  go : (fuel : ℕ) → Same fuel
  unfolding front
  go zero counts lines m at u v spent f = absurd (omega (arith, upto_most text counts lines m at u))
  go (suc fuel) counts lines m at u v spent f =
      by (next_at text at lines m) refl (go fuel)
    where
      low : at ≤ longest_text
      low = omega (arith, upto_most text counts lines m at u)

      a : at < length text
      a = omega (arith, low)

      b : at < length front
      b = omega (arith, low, front_long, widest_two)

      same : next_at front at lines m ≡ next_at text at lines m
      same = line_same text at n lines m (omega (arith, low))

      count : (k e : ℕ) → Some (line_to k e) ≡ next_at text at lines m → (get_or counts k 0 < limit k) ⊎ (limit k ≤ get_or counts k 0) → Same fuel
          → verdict front ≡ verdict text
      count k e q (inr h) later =
          next_many front counts lines m at v b k e (next_good front counts lines m at v b k e (q ∙ sym same)) h
          ∙ sym (next_many text counts lines m at u a k e (next_good text counts lines m at u a k e q) h)
      count k e q (inl h) later =
          let g = next_good text counts lines m at u a k e q in
          let g' = next_good front counts lines m at v b k e (q ∙ sym same) in
          later (set counts k (get_or counts k 0 + 1)) (lines + 1) k e (next_pass text counts lines m at u a k e g h)
          (next_pass front counts lines m at v b k e g' h)
          (omega (
            arith,
            g.end,
            bytes_more counts k (omega (arith, u.size, good_kind text counts lines m at u a k e g)) kinds
                (good_kind text counts lines m at u a k e g),
          ))
          (omega (arith, good_moved text lines m at k e g))

      by : (x : Option Line) → x ≡ next_at text at lines m → Same fuel → verdict front ≡ verdict text
      by None q later = next_bad front counts lines m at v b (q ∙ sym same) ∙ sym (next_bad text counts lines m at u a q)
      by (Some l) q later = count l.kind l.end q (split (get_or counts l.kind 0) (limit l.kind)) later

-- the front of a text decides it
pub front_decides : (text : List ℕ) (n : ℕ) → longest_text + widest ≤ n → verdict (take n text) ≡ verdict text
unfolding front bytes width fields kind_at
front_decides text n h =
    ⊎_elim
    (λ l. go text n h l (suc longest_text) (replicate kinds 0) 0 0 0 (upto_none text) (upto_none (take n text)) refl (omega arith))
    (λ l. ap verdict (take_all n text l))
    (split n (length text))
