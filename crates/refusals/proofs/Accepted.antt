-- What an accepted job satisfies, and lines by their numbers
use mathlib.Core.Path.{◌≡◌, refl, sym, ◌∙◌, subst}
use mathlib.Core.Bool.{Bool, true, false, ◌&&◌}
use mathlib.Core.List.{List, [], ◌∷◌}
use Prim.Native.Nat.{ℕ, zero, suc, ◌+◌, ◌*◌, ◌≤◌, ◌<◌}
use native.Mathlib.Nat.{not-suc-le-zero, le_of_suc-le-suc}
use native.Mathlib.Omega.{arith}
use lib.Dec.{T, eqb, lit≤}
use lib.Ieee.Bits.{is_true}
use lib.Ieee.Fits.{and_l, and_r}
use lib.ListN.{length, get_or, take}
use lib.Seq.{length-take-le}
use borrow.Author.Tests.{ltb-false, eqb-true}
use Rattle.numbers.specs.Weight.{weight_limit}
use Rattle.numbers.proofs.UseCosts.{Scales, value_cost}
use Rattle.links.specs.Blocks.{blocks_of, end_limit, SoundBlocks, SoundColumns, no_refusal}
use Rattle.links.proofs.Answers.{in_freqs, in_firsts, in_ends}
use Rattle.links.proofs.Columns.{part_list, last_limited}
use Rattle.jobs.specs.Lines.{bad_value, bad_segment, bad_def_at, bad_use_at, bad_end_at, bad_weight, bad_reservation, bad_fixed_use_at}
use Rattle.uses.specs.CheckedUses.{CheckedUses}
use Rattle.walks.specs.Standing.{Ready, Known}
use Rattle.walks.proofs.Checked.{checked_ready}
use Rattle.refusals.specs.Job.{Job, sizes_of, last_end, limits_of, scales_of_job, source_of_job, reserved_of_job, register_of}
use Rattle.refusals.specs.Refusals.{Line, no_line, job_lines, table_refusal_of, Passed}
use Rattle.refusals.proofs.FirstBroken.{accepted_passed}
use Rattle.refusals.proofs.Sizes.{Limited, limited, Sized, sized}

-- ---- line n + 1 stands at place n
-- lines are numbered one after the other, from n + 1 on
abbrev pub numbered_from : ℕ → List Line → Bool
numbered_from n [] = true
numbered_from n (l ∷ ls) = eqb l.number (suc n) && numbered_from (suc n) ls

pub numbered_at : (n : ℕ) (ls : List Line) → T (numbered_from n ls) → (i : ℕ) → i < length ls → (get_or ls i no_line).number ≡ suc (n + i)
numbered_at n [] t i h = absurd (not-suc-le-zero h)
numbered_at n (l ∷ ls) t zero h = eqb-true l.number (suc n) (is_true _ (and_l (eqb l.number (suc n)) (numbered_from (suc n) ls) t)) ∙ here n
  where
    here : (n : ℕ) → suc n ≡ suc (n + 0)
    here n = omega arith
numbered_at n (l ∷ ls) t (suc i) h = numbered_at (suc n) ls (and_r (eqb l.number (suc n)) (numbered_from (suc n) ls) t) i (le_of_suc-le-suc h) ∙ moved n i
  where
    moved : (n i : ℕ) → suc (suc n + i) ≡ suc (n + suc i)
    moved n i = omega arith

-- ---- block columns of any lengths, cut to as many rows as there are blocks
pub cut_columns : (freqs firsts ends : List ℕ) (n : ℕ) → n ≡ length (blocks_of freqs firsts ends) → SoundBlocks (blocks_of freqs firsts ends)
    → SoundColumns (take n freqs) (take n firsts) (take n ends)
cut_columns freqs firsts ends n e sound =
    let f = length-take-le n freqs (in_freqs freqs firsts ends n e) in
    record {
      firsts_long = length-take-le n firsts (in_firsts freqs firsts ends n e) ∙ sym f;
      ends_long = length-take-le n ends (in_ends freqs firsts ends n e) ∙ sym f;
      sound = subst SoundBlocks (sym (part_list freqs firsts ends n e)) sound;
    }

-- ---- what a job satisfies that has passed lines 1 to 11
pub record Accepted (job : Job) : Type 0 where
  pub parameters : Limited job.k job.cheaper_than_move job.cheaper_than_load job.indirect
  pub scales : Scales (scales_of_job job)
  pub sizes : Sized job.units (sizes_of job)
  pub blocks : SoundBlocks job.blocks
  pub line4 : (i : ℕ) → i < length job.codes → bad_value job.codes i ≡ false
  pub line5 : (i : ℕ) → i < length job.segments → bad_segment (limits_of job) job.segments i ≡ false
  pub line6 : (i : ℕ) → i < length job.segments → bad_def_at job.uses job.segments i ≡ false
  pub line7 : (u : ℕ) → u < length job.uses → bad_use_at (limits_of job) job.uses job.segments u ≡ false
  pub line8 : (i : ℕ) → i < length job.segments → bad_end_at job.uses job.segments i ≡ false
  pub line9 : (i : ℕ) → i < length job.weights → bad_weight job.weights i ≡ false
  pub line10 : (i : ℕ) → i < length job.reservations → bad_reservation (limits_of job) job.fixed_uses job.reservations i ≡ false
  pub line11 : (i : ℕ) → i < length job.fixed_uses → bad_fixed_use_at (limits_of job) job.fixed_uses i ≡ false
  pub codes : (i : ℕ) → i < length job.codes → get_or job.codes i 0 ≤ 3
  pub weights : (i : ℕ) → i < length job.weights → get_or job.weights i 0 ≤ weight_limit
  pub uses : CheckedUses (source_of_job job)
  pub reserved : Ready (reserved_of_job job)
  pub register : Known (register_of job)
  pub end_limited : (limits_of job).end ≤ 4 * end_limit

pub tables_accepted : (job : Job) → table_refusal_of job ≡ no_refusal → Accepted job
tables_accepted job e =
    record {
      parameters = limited job.k job.cheaper_than_move job.cheaper_than_load job.indirect (line 0 (lit≤ tt) 0 (lit≤ tt));
      scales = record { move = value_cost job.cheaper_than_move; load = value_cost job.cheaper_than_load; indirectly = value_cost job.indirect };
      sizes = size;
      blocks = sound;
      line4 = line 3 (lit≤ tt);
      line5 = line 4 (lit≤ tt);
      line6 = line 5 (lit≤ tt);
      line7 = line 6 (lit≤ tt);
      line8 = line 7 (lit≤ tt);
      line9 = line 8 (lit≤ tt);
      line10 = line 9 (lit≤ tt);
      line11 = line 10 (lit≤ tt);
      codes = λ i h. ltb-false 3 (get_or job.codes i 0) (line 3 (lit≤ tt) i h);
      weights = λ i h. ltb-false weight_limit (get_or job.weights i 0) (line 8 (lit≤ tt) i h);
      uses = record {
        some = size.some_segments;
        limits = limits_of job;
        end = refl;
        uses = refl;
        values = refl;
        line5 = line 4 (lit≤ tt);
        line6 = line 5 (lit≤ tt);
        line7 = line 6 (lit≤ tt);
        line8 = line 7 (lit≤ tt);
      };
      reserved = checked_ready (limits_of job) (reserved_of_job job) (line 9 (lit≤ tt)) (line 10 (lit≤ tt));
      register = record { few = size.few_units; fits = small job.units size.few_units };
      end_limited = four (last_end job) end_limit (last_limited job.blocks sound);
    }
  where
    line : (i : ℕ) → i < length (job_lines job) → Passed (get_or (job_lines job) i no_line)
    line = accepted_passed (job_lines job) e

    size : Sized job.units (sizes_of job)
    size = sized job.units (sizes_of job) (line 1 (lit≤ tt) 0 (lit≤ tt))

    sound : SoundBlocks job.blocks
    sound = record { some = size.some_blocks; few = size.items.blocks; each = line 2 (lit≤ tt) }

    small : (n : ℕ) → n ≤ 8 → 0 + n ≤ 4294967295
    small n h = omega (arith, h)

    four : (a b : ℕ) → a ≤ b → 4 * a ≤ 4 * b
    four a b h = omega (arith, h)
