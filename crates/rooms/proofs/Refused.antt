-- The twelve lines by their numbers, and what a job and its lent tables satisfy that have passed them
use mathlib.Core.Path.{◌≡◌, ◌∙◌}
use mathlib.Core.List.{[], ◌∷◌}
use Prim.Native.Nat.{ℕ, suc, ◌+◌, ◌<◌}
use native.Mathlib.Omega.{arith}
use lib.Dec.{lit≤}
use lib.ListN.{length, get_or}
use borrow.Author.Tests.{ltb-false}
use Rattle.links.specs.Blocks.{refusal, no_refusal}
use Rattle.filling.specs.SourceTables.{Roomy}
use Rattle.filling.specs.declared.lent.Rooms.{Rooms}
use Rattle.refusals.specs.declared.job.Sizes.{Sizes}
use Rattle.refusals.specs.Job.{Job, sizes_of}
use Rattle.refusals.specs.Refusals.{no_line, first_broken, job_lines, Passed, Reported}
use Rattle.refusals.proofs.FirstBroken.{accepted_passed, passed_accepted, refused_by_number, sound_before, sound_behind}
use Rattle.refusals.proofs.Sizes.{Sized, sized}
use Rattle.refusals.proofs.Accepted.{Accepted, numbered_at, tables_accepted}
use Rattle.rooms.specs.Rooms.{line12, lines, refusal_of, FewItems}

-- ---- the twelve lines: line n + 1 stands at place n
pub lines_numbered : (job : Job) (rooms : Rooms) (i : ℕ) → i < length (lines job rooms) → (get_or (lines job rooms) i no_line).number ≡ suc i
lines_numbered job rooms i h = numbered_at 0 (lines job rooms) tt i h ∙ from_zero i
  where
    from_zero : (i : ℕ) → suc (0 + i) ≡ suc i
    from_zero i = omega arith

-- a job is refused by line n + 1 at place p exactly if that line is first broken there and lines 1 to n have passed
pub job_refused_exactly : (job : Job) (rooms : Rooms) (n p : ℕ)
    → (refusal_of job rooms ≡ refusal (suc n) p → Reported (lines job rooms) (suc n) p n)
    × (Reported (lines job rooms) (suc n) p n → refusal_of job rooms ≡ refusal (suc n) p)
job_refused_exactly job rooms n p = refused_by_number (lines job rooms) (lines_numbered job rooms) n p

-- it is accepted exactly if all twelve have passed
pub job_accepted_exactly : (job : Job) (rooms : Rooms)
    → (refusal_of job rooms ≡ no_refusal → (i : ℕ) → i < length (lines job rooms) → Passed (get_or (lines job rooms) i no_line))
    × (((i : ℕ) → i < length (lines job rooms) → Passed (get_or (lines job rooms) i no_line)) → refusal_of job rooms ≡ no_refusal)
job_accepted_exactly job rooms = (accepted_passed (lines job rooms), passed_accepted (lines job rooms))

-- ---- line 12
pub few_items : (units : ℕ) (t : Sizes) → Sized units t → FewItems t
few_items units t s = record { blocks = s.items.blocks; segments = s.items.segments; uses = s.items.uses }

-- what line 12 relies on: line 2 has passed
pub accepted_few : (job : Job) → first_broken (job_lines job) ≡ no_refusal → FewItems (sizes_of job)
accepted_few job e = few_items job.units (sizes_of job) (sized job.units (sizes_of job) (accepted_passed (job_lines job) e 1 (lit≤ tt) 0 (lit≤ tt)))

-- each work table has its rows
pub roomy : (t : Sizes) (r : Rooms) → Passed (line12 t r) → Roomy t.uses t.blocks t.segments r
roomy t r f =
    record {
      uses = ltb-false r.uses (t.uses + 2) (f 0 (lit≤ tt));
      gaps = ltb-false r.gaps (t.uses + t.blocks + 2) (f 1 (lit≤ tt));
      gap_segments = ltb-false r.gap_segments (t.uses + t.blocks + t.segments + 2) (f 2 (lit≤ tt));
      links = ltb-false r.links t.blocks (f 3 (lit≤ tt));
    }

-- ---- what a job and its lent tables satisfy that have passed lines 1 to 12
pub job_accepted : (job : Job) (rooms : Rooms) → refusal_of job rooms ≡ no_refusal → Accepted job
job_accepted job rooms e = tables_accepted job (sound_before (job_lines job) (line12 (sizes_of job) rooms ∷ []) e)

pub job_roomy : (job : Job) (rooms : Rooms) → refusal_of job rooms ≡ no_refusal → Roomy (length job.uses) (length job.blocks) (length job.segments) rooms
job_roomy job rooms e =
    roomy (sizes_of job) rooms (accepted_passed (line12 (sizes_of job) rooms ∷ []) (sound_behind (job_lines job) (line12 (sizes_of job) rooms ∷ []) e) 0 (lit≤ tt))
