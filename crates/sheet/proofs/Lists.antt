-- Laws of lists and of runs of stores.
-- Assumes nothing.
use Prim.Native.Nat.{ℕ, suc, ◌+◌, ◌<◌, ◌≤◌}
use mathlib.Core.Path.{◌≡◌, sym, ap, ◌∙◌}
use mathlib.Core.List.{List, [], ◌∷◌, ◌++◌, append_assoc, append-nil}
use native.Mathlib.Omega.{arith}
use native.Mathlib.Numerals.{add-one}
use native.Mathlib.Nat.{add-zero}
use lib.ListN.{length, get_or, set, take, drop, length-take, length-drop}
use lib.Seq.{sets, sets-eq, drop-cons, set_comm, drop-drop, drop-length}
use borrow.Rule.Slice.PartMut.{put_mid}

pub drop_next : (s : List ℕ) (i : ℕ) → i < length s → drop i s ≡ get_or s i 0 ∷ drop (i + 1) s
drop_next s i h = rw (add-one, drop-cons s i 0)

-- a run of stores: its last one may come first, two runs in a row are one, and a run over the whole list is that run
pub sets_snoc : (xs l : List ℕ) (at c : ℕ) → sets l at (xs ++ (c ∷ [])) ≡ sets (set l (at + length xs) c) at xs
sets_snoc [] l at c = rw (add-zero at)
sets_snoc (x ∷ xs) l at c =
    let e : at + suc (length xs) ≡ suc at + length xs = omega arith in
    sets_snoc xs (set l at x) (suc at) c
    ∙ ap (λ (m : List ℕ). sets m (suc at) xs) (set_comm l at (suc at + length xs) x c (omega arith))
    ∙ ap (λ (j : ℕ). sets (set (set l j c) at x) (suc at) xs) (sym e)

pub sets_append : (xs ys l : List ℕ) (at : ℕ) → sets (sets l at xs) (at + length xs) ys ≡ sets l at (xs ++ ys)
sets_append [] ys l at = rw (add-zero at)
sets_append (x ∷ xs) ys l at =
    let e : at + suc (length xs) ≡ suc at + length xs = omega arith in
    rw e (sets_append xs ys (set l at x) (suc at))

pub sets_whole : (xs l : List ℕ) → length xs ≡ length l → sets l 0 xs ≡ xs
sets_whole xs l e =
    let z : 0 + length xs ≡ length l = omega arith in
    sets-eq xs l 0 (omega arith) ∙ ap (λ (n : ℕ). xs ++ drop n l) z ∙ ap (λ (t : List ℕ). xs ++ t) (drop-length l) ∙ append-nil xs

-- a part of a list, and what is stored to it
pub part_long : (l : List ℕ) (at k n : ℕ) → k ≡ n → at + n ≤ length l → length (take k (drop at l)) ≡ n
part_long l at k n e h = omega (arith, length-take k (drop at l), length-drop at l)

pub put_mid_sets : (l part : List ℕ) (at k : ℕ) → length part ≡ k → at + k ≤ length l → put_mid at k l part ≡ sets l at part
put_mid_sets l part at k e h =
    ap (λ (x : List ℕ). take at l ++ (part ++ x)) (drop-drop k at l ∙ ap (λ (j : ℕ). drop (at + j) l) (sym e))
    ∙ sym (append_assoc (take at l) part (drop (at + length part) l))
    ∙ sym (sets-eq part l at (omega arith))
