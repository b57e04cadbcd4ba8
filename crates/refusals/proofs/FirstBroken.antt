-- The first line broken, exactly: of any list of lines, what is answered names a line and a place if and only if the line is
-- first broken there and those before it have passed
use mathlib.Core.Path.{◌≡◌, refl, sym, ap, ◌∙◌, subst}
use mathlib.Core.Logic.{inl, inr}
use mathlib.Core.List.{List, [], ◌∷◌, ◌++◌}
use Prim.Native.Nat.{ℕ, zero, suc, ◌≤◌, ◌<◌, zero-le, suc-le-suc}
use native.Mathlib.Nat.{lt_of_lt_of_le, le_of_suc-le-suc, not-suc-le-zero}
use native.Mathlib.Omega.{arith}
use lib.ListN.{length, get_or}
use borrow.Author.Tests.{lt-ltb, le-ltb}
use Rattle.columns.proofs.Tests.{cond_true, cond_false}
use Rattle.columns.specs.First.{first_below}
use Rattle.links.specs.Blocks.{refusal, Checked, no_refusal}
use Rattle.links.specs.declared.blocks.Refusal.{Refusal}
use Rattle.columns.proofs.Firsts.{split, first_in, first_found, first_none}
use Rattle.refusals.specs.Refusals.{Line, no_line, first_broken, Passed, FirstAt, Reported, SomeReported}
use Rattle.std.specs.Prelude.{Err, Ok}

-- the first bad place of a line
abbrev bad_place : Line → ℕ
bad_place l = first_below l.broken l.places

-- ---- one line
-- it has one first place, or has passed
pub line_first : (l : Line) → first_below l.broken l.places < l.places → FirstAt l (first_below l.broken l.places)
line_first l h = let f = first_in l.broken l.places in record { inside = h; broken = f.found h; before = λ q k. f.passed q zero-le k }

pub line_passed : (l : Line) → l.places ≤ first_below l.broken l.places → Passed l
line_passed l h p k = (first_in l.broken l.places).passed p zero-le (lt_of_lt_of_le k h)

first_is_bad : (l : Line) (p : ℕ) → FirstAt l p → p ≡ bad_place l
first_is_bad l p f = first_found l.broken l.places p f.inside f.before f.broken

passed_none : (l : Line) → Passed l → l.places ≡ bad_place l
passed_none l f = first_none l.broken l.places f

-- ---- a list: what its first line makes of the answer
pub answer_here : (l : Line) (ls : List Line) → first_below l.broken l.places < l.places
    → first_broken (l ∷ ls) ≡ refusal l.number (first_below l.broken l.places)
unfolding first_broken
answer_here l ls h = cond_true _ _ (lt-ltb (bad_place l) l.places h)

pub answer_on : (l : Line) (ls : List Line) → l.places ≤ first_below l.broken l.places → first_broken (l ∷ ls) ≡ first_broken ls
unfolding first_broken
answer_on l ls h = cond_false _ _ (le-ltb (bad_place l) l.places h)

pub answer_at : (l : Line) (ls : List Line) (p : ℕ) → FirstAt l p → first_broken (l ∷ ls) ≡ refusal l.number p
answer_at l ls p f =
    let e = first_is_bad l p f in
    answer_here l ls (subst (λ (x : ℕ). x < l.places) e f.inside) ∙ ap (refusal l.number) (sym e)

pub answer_passed : (l : Line) (ls : List Line) → Passed l → first_broken (l ∷ ls) ≡ first_broken ls
answer_passed l ls f = answer_on l ls (let e = passed_none l f in omega (arith, e))

-- ---- a list behind another
pub empty_sound : first_broken [] ≡ no_refusal
unfolding first_broken
empty_sound = refl

not_sound : (r : Refusal) → Err r ≡ no_refusal → ⊥
not_sound r e = let z : ◌≡◌ {A = ℕ} 0 1 = cc in omega arith

pub refused_stays : (ls ms : List Line) (r : Refusal) → first_broken ls ≡ Err r → first_broken (ls ++ ms) ≡ Err r
refused_stays [] ms r e = absurd (not_sound r (sym e ∙ empty_sound))
refused_stays (l ∷ ls) ms r e =
    elim (split (bad_place l) l.places) [
      | inl h ↦ answer_here l (ls ++ ms) h ∙ sym (answer_here l ls h) ∙ e
      | inr h ↦ answer_on l (ls ++ ms) h ∙ refused_stays ls ms r (sym (answer_on l ls h) ∙ e)
    ]

pub sound_goes_on : (ls ms : List Line) → first_broken ls ≡ no_refusal → first_broken (ls ++ ms) ≡ first_broken ms
sound_goes_on [] ms e = refl
sound_goes_on (l ∷ ls) ms e =
    elim (split (bad_place l) l.places) [
      | inl h ↦ absurd (not_sound _ (sym (answer_here l ls h) ∙ e))
      | inr h ↦ answer_on l (ls ++ ms) h ∙ sound_goes_on ls ms (sym (answer_on l ls h) ∙ e)
    ]

-- ---- accepted exactly if no line is broken at any place
pub accepted_passed : (ls : List Line) → first_broken ls ≡ no_refusal → (i : ℕ) → i < length ls → Passed (get_or ls i no_line)
accepted_passed [] e i h = absurd (not-suc-le-zero h)
accepted_passed (l ∷ ls) e i h =
    elim (split (bad_place l) l.places) [
      | inl k ↦ absurd (not_sound _ (sym (answer_here l ls k) ∙ e))
      | inr k ↦ each i h (line_passed l k) (accepted_passed ls (sym (answer_on l ls k) ∙ e))
    ]
  where
    each : (i : ℕ) → i < suc (length ls) → Passed l → ((j : ℕ) → j < length ls → Passed (get_or ls j no_line)) → Passed (get_or (l ∷ ls) i no_line)
    each zero h f g = f
    each (suc i) h f g = g i (le_of_suc-le-suc h)

pub passed_accepted : (ls : List Line) → ((i : ℕ) → i < length ls → Passed (get_or ls i no_line)) → first_broken ls ≡ no_refusal
passed_accepted [] f = empty_sound
passed_accepted (l ∷ ls) f = answer_passed l ls (f 0 (suc-le-suc zero-le)) ∙ passed_accepted ls (λ i h. f (suc i) (suc-le-suc h))

pub accepted_exactly : (ls : List Line) → (first_broken ls ≡ no_refusal → (i : ℕ) → i < length ls → Passed (get_or ls i no_line))
    × (((i : ℕ) → i < length ls → Passed (get_or ls i no_line)) → first_broken ls ≡ no_refusal)
accepted_exactly ls = (accepted_passed ls, passed_accepted ls)

-- ---- refused with a number and a place exactly if some line of that number is first broken there, and those before it have passed
-- the same of a list behind one more line
later : (l : Line) (ls : List Line) (n p i : ℕ) → Passed l → Reported ls n p i → Reported (l ∷ ls) n p (suc i)
later l ls n p i f r =
    record { inside = suc-le-suc r.inside; number = r.number; here = r.here; before = each }
  where
    each : (j : ℕ) → j < suc i → Passed (get_or (l ∷ ls) j no_line)
    each zero h = f
    each (suc j) h = r.before j (le_of_suc-le-suc h)

-- the number and the place of an answer
abbrev number_of : Checked → ℕ
number_of (Ok u) = 0
number_of (Err r) = r.number

abbrev place_of : Checked → ℕ
place_of (Ok u) = 0
place_of (Err r) = r.place

pub refused_reported : (ls : List Line) (n p : ℕ) → first_broken ls ≡ refusal n p → SomeReported ls n p
refused_reported [] n p e = absurd (not_sound _ (sym e ∙ empty_sound))
refused_reported (l ∷ ls) n p e =
    elim (split (bad_place l) l.places) [
      | inl h ↦ first (sym (answer_here l ls h) ∙ e) h
      | inr h ↦ let r =
          refused_reported ls n p (sym (answer_on l ls h) ∙ e) in record { at = suc r.at; reported = later l ls n p r.at (line_passed l h) r.reported }
    ]
  where
    first : refusal l.number (bad_place l) ≡ refusal n p → bad_place l < l.places → SomeReported (l ∷ ls) n p
    first e h =
        let m : l.number ≡ n = ap number_of e in
        let q : bad_place l ≡ p = ap place_of e in
        record {
          at = 0;
          reported =
              record { inside = suc-le-suc zero-le; number = m; here = subst (FirstAt l) q (line_first l h); before = λ j k. absurd (not-suc-le-zero k) };
        }

pub reported_refused : (ls : List Line) (n p i : ℕ) → Reported ls n p i → first_broken ls ≡ refusal n p
reported_refused [] n p i r = absurd (not-suc-le-zero r.inside)
reported_refused (l ∷ ls) n p zero r = answer_at l ls p r.here ∙ ap (λ (m : ℕ). refusal m p) r.number
reported_refused (l ∷ ls) n p (suc i) r =
    answer_passed l ls (r.before 0 (suc-le-suc zero-le))
    ∙ reported_refused ls n p i
    (record { inside = le_of_suc-le-suc r.inside; number = r.number; here = r.here; before = λ j h. r.before (suc j) (suc-le-suc h) })

pub refused_exactly : (ls : List Line) (n p : ℕ) → (first_broken ls ≡ refusal n p → SomeReported ls n p) × (SomeReported ls n p → first_broken ls ≡ refusal n p)
refused_exactly ls n p = (refused_reported ls n p, λ r. reported_refused ls n p r.at r.reported)

-- ---- in a list whose lines are numbered from 1, line n + 1 stands at place n
pub refused_by_number : (ls : List Line) → ((i : ℕ) → i < length ls → (get_or ls i no_line).number ≡ suc i) → (n p : ℕ)
    → (first_broken ls ≡ refusal (suc n) p → Reported ls (suc n) p n) × (Reported ls (suc n) p n → first_broken ls ≡ refusal (suc n) p)
refused_by_number ls numbered n p = (there, reported_refused ls (suc n) p n)
  where
    there : first_broken ls ≡ refusal (suc n) p → Reported ls (suc n) p n
    there e =
        let r = refused_reported ls (suc n) p e in
        let same : r.at ≡ n = same_suc r.at n (sym (numbered r.at r.reported.inside) ∙ r.reported.number) in
        subst (Reported ls (suc n) p) same r.reported
      where
        same_suc : (a b : ℕ) → suc a ≡ suc b → a ≡ b
        same_suc a b e = omega (arith, e)

-- ---- a list with more behind it
pub sound_before : (ls ms : List Line) → first_broken (ls ++ ms) ≡ no_refusal → first_broken ls ≡ no_refusal
sound_before [] ms e = empty_sound
sound_before (l ∷ ls) ms e =
    elim (split (bad_place l) l.places) [
      | inl h ↦ absurd (not_sound _ (sym (answer_here l (ls ++ ms) h) ∙ e))
      | inr h ↦ answer_on l ls h ∙ sound_before ls ms (sym (answer_on l (ls ++ ms) h) ∙ e)
    ]

pub sound_behind : (ls ms : List Line) → first_broken (ls ++ ms) ≡ no_refusal → first_broken ms ≡ no_refusal
sound_behind ls ms e = sym (sound_goes_on ls ms (sound_before ls ms e)) ∙ e
