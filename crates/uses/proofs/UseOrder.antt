-- The order of a checked job's uses: none is before the first instruction, and none before an earlier one, but a fixed def by one instruction
use mathlib.Core.Path.{◌≡◌, refl, sym, ap, ◌∙◌, subst}
use mathlib.Core.Bool.{Bool, true, false, ◌&&◌, cond, true≢false}
use mathlib.Core.Logic.{⊎_elim}
use mathlib.Core.List.{List}
use Prim.Native.Nat.{ℕ, zero, suc, ◌+◌, ◌-◌, ◌*◌, ◌/◌, ◌%◌, ◌≤◌, ◌<◌}
use native.Mathlib.Nat.{not-suc-le-zero, le_of_eq}
use native.Mathlib.Omega.{arith}
use lib.Dec.{eqb}
use lib.ListN.{length, get_or}
use borrow.Author.Tests.{eqb-true}
use Rattle.columns.proofs.Tests.{and_both}
use Rattle.columns.proofs.Firsts.{split}
use Rattle.jobs.specs.declared.rows.Segment.{Segment}
use Rattle.jobs.specs.declared.rows.Use.{Use}
use Rattle.jobs.specs.declared.rows.Limits.{Limits}
use Rattle.jobs.specs.Rows.{no_segment, no_use, fixed_def}
use Rattle.columns.specs.Table.{row_before}
use Rattle.jobs.specs.Lines.{Lists}
use Rattle.jobs.proofs.Sound.{Bounded}
use Rattle.jobs.proofs.SoundUses.{Defined, Fitting, LivesOut, Ended}
use Rattle.jobs.proofs.LastUse.{list_rises, last_highest}
use Rattle.use_rows.specs.Uses.{first_inst}
use Rattle.uses.specs.UseSteps.{is_def_of}

module _ (limits : Limits) (uses : List Use) (segments : List Segment) (lists : Lists (length uses) segments)
    (bounded : (i : ℕ) → i < length segments → Bounded limits (row_before segments no_segment i) (get_or segments i no_segment))
    (defined : (i : ℕ) → i < length segments → fixed_def (get_or segments i no_segment).flags ≡ true → Defined uses (get_or segments i no_segment))
    (fitting : (i u : ℕ) → i < length segments → (get_or segments i no_segment).first_use ≤ u → u < (get_or segments i no_segment).end_use
    → Fitting limits (get_or segments i no_segment) (eqb u (get_or segments i no_segment).first_use) (row_before uses no_use u) (get_or uses u no_use)) where
  abbrev seg : ℕ → Segment
  seg i = get_or segments i no_segment

  abbrev at : ℕ → ℕ
  at u = (get_or uses u no_use).position

  -- a use of segment i: where it is the fixed def, and where it isn't
  record Placed (s : Segment) (u : ℕ) : Type 0 where
    low : s.start ≤ 4 * (at u + 1)
    plain : is_def_of s u ≡ false → s.start < 4 * (at u + 1)
    high : 4 * at u ≤ s.end

  placed : (i u : ℕ) → i < length segments → (seg i).first_use ≤ u → u < (seg i).end_use → Placed (seg i) u
  placed i u h p q = by (eqb u (seg i).first_use) refl (fixed_def (seg i).flags) refl
    where
      -- a use to which the rule of the range applies
      ranged : (eqb u (seg i).first_use && fixed_def (seg i).flags) ≡ false → Placed (seg i) u
      ranged e = let r = (fitting i u h p q).inside e in record { low = let x = r.0 in omega (arith, x); plain = λ _. r.0; high = r.1 }

      by : (a : Bool) → eqb u (seg i).first_use ≡ a → (b : Bool) → fixed_def (seg i).flags ≡ b → Placed (seg i) u
      by false e b f = ranged (ap (λ (x : Bool). x && fixed_def (seg i).flags) e)
      by true e false f = ranged (ap (λ (x : Bool). eqb u (seg i).first_use && x) f ∙ ap (λ (x : Bool). x && false) e)
      by true e true f =
          let d = defined i h f in
          let same : u ≡ (seg i).first_use = eqb-true u (seg i).first_use e in
          let there : at u ≡ (seg i).start / 4 - 1 = ap at same ∙ d.before in
          let b = d.boundary in
          let l = d.later in
          let n = (bounded i h).nonempty in
          record {
            low = omega (arith, there, b, l);
            plain = λ g. absurd (true≢false (sym (and_both (eqb u (seg i).first_use) (fixed_def (seg i).flags) e f) ∙ g));
            high = omega (arith, there, b, l, n);
          }

  -- the uses listed before segment i are before the end of the segment before it
  ended : (i u : ℕ) → i ≤ length segments → u < (row_before segments no_segment i).end_use → 4 * at u ≤ (row_before segments no_segment i).end
  ended zero u h l = absurd (not-suc-le-zero l)
  ended (suc i) u h l =
      ⊎_elim (λ m. earlier (ended i u (omega (arith, h)) (subst (λ (x : ℕ). u < x) (lists.follows i h) m))) (λ m. (placed i u h m l).high)
      (split u (seg i).first_use)
    where
      earlier : 4 * at u ≤ (row_before segments no_segment i).end → 4 * at u ≤ (seg i).end
      earlier a = let b = (bounded i h).after in let n = (bounded i h).nonempty in omega (arith, a, b, n)

  -- an earlier use is not after a later one, but by one instruction after a fixed def
  pub use_order : (i m n : ℕ) → i < length segments → (seg i).first_use ≤ n → n < (seg i).end_use → m < n → at m ≤ at n + cond (is_def_of (seg i) n) 1 0
  use_order i m n h p q l = ⊎_elim other same (split m (seg i).first_use)
    where
      other : m < (seg i).first_use → at m ≤ at n + cond (is_def_of (seg i) n) 1 0
      other b = by (is_def_of (seg i) n) refl
        where
          before : 4 * at m ≤ (seg i).start
          before =
              let e = ended i m (omega (arith, h)) (subst (λ (x : ℕ). m < x) (lists.follows i h) b) in
              let a = (bounded i h).after in
              omega (arith, e, a)

          by : (t : Bool) → is_def_of (seg i) n ≡ t → at m ≤ at n + cond t 1 0
          by true e = let a = before in let w = (placed i n h p q).low in omega (arith, a, w)
          by false e = let a = before in let w = (placed i n h p q).plain e in omega (arith, a, w)

      same : (seg i).first_use ≤ m → at m ≤ at n + cond (is_def_of (seg i) n) 1 0
      same b =
          let k : m + (n - m) ≡ n = omega (arith, l) in
          let r = subst (λ (x : ℕ). at m ≤ at x) k (list_rises limits uses (seg i) (λ u. fitting i u h) m (n - m) b (omega (arith, l, q))) in
          omega (arith, r)

  -- so by at most one instruction
  pub use_near : (i m n : ℕ) → i < length segments → (seg i).first_use ≤ n → n < (seg i).end_use → m < n → at m ≤ at n + 1
  use_near i m n h p q l = at_most (is_def_of (seg i) n) (use_order i m n h p q l)
    where
      at_most : (t : Bool) → at m ≤ at n + cond t 1 0 → at m ≤ at n + 1
      at_most true a = a
      at_most false a = omega (arith, a)

  -- a later segment starts after the first one
  starts_after : (i : ℕ) → suc i < length segments → (seg 0).start < (seg (suc i)).start
  starts_after zero h = let n = (bounded 0 (omega (arith, h))).nonempty in let a = (bounded 1 h).after in omega (arith, a, n)
  starts_after (suc i) h =
      let before = starts_after i (omega (arith, h)) in
      let n = (bounded (suc i) (omega (arith, h))).nonempty in
      let a = (bounded (suc (suc i)) h).after in
      omega (arith, a, before, n)

  -- no use is before the first instruction
  pub use_inside : (i u : ℕ) → i < length segments → (seg i).first_use ≤ u → u < (seg i).end_use → first_inst segments ≤ at u
  unfolding first_inst
  use_inside (suc i) u h p q =
      let w = (placed (suc i) u h p q).low in
      let s = starts_after i h in
      least (fixed_def (seg 0).flags) (omega (arith, s, w))
    where
      least : (b : Bool) → (seg 0).start < 4 * (at u + 1) → (seg 0).start / 4 - cond b 1 0 ≤ at u
      least true x = omega (arith, x)
      least false x = omega (arith, x)
  use_inside zero u h p q = by (eqb u (seg 0).first_use) refl (fixed_def (seg 0).flags) refl
    where
      ranged : (b : Bool) → (eqb u (seg 0).first_use && fixed_def (seg 0).flags) ≡ false → (seg 0).start / 4 - cond b 1 0 ≤ at u
      ranged true e = let x = ((fitting 0 u h p q).inside e).0 in omega (arith, x)
      ranged false e = let x = ((fitting 0 u h p q).inside e).0 in omega (arith, x)

      by : (a : Bool) → eqb u (seg 0).first_use ≡ a → (b : Bool) → fixed_def (seg 0).flags ≡ b → (seg 0).start / 4 - cond (fixed_def (seg 0).flags) 1 0 ≤ at u
      by false e b f = ranged (fixed_def (seg 0).flags) (ap (λ (x : Bool). x && fixed_def (seg 0).flags) e)
      by true e false f = ranged (fixed_def (seg 0).flags) (ap (λ (x : Bool). eqb u (seg 0).first_use && x) f ∙ ap (λ (x : Bool). x && false) e)
      by true e true f =
          let d = defined 0 h f in
          let there : at u ≡ (seg 0).start / 4 - 1 = ap at (eqb-true u (seg 0).first_use e) ∙ d.before in
          subst (λ (b : Bool). (seg 0).start / 4 - cond b 1 0 ≤ at u) (sym f) (le_of_eq (sym there))

  -- a segment starts no later than the last one ends
  starts_before : (i k : ℕ) → i + k < length segments → (seg i).start < (seg (i + k)).end
  starts_before i zero h = subst (λ (x : ℕ). (seg i).start < (seg x).end) (same i) (bounded i (subst (λ (x : ℕ). x < length segments) (sym (same i)) h)).nonempty
    where
      same : (x : ℕ) → x ≡ x + 0
      same x = omega arith
  starts_before i (suc k) h =
      let e : suc (i + k) ≡ i + suc k = omega arith in
      let next : suc (i + k) < length segments = omega (arith, h) in
      let before = starts_before i k (omega (arith, h)) in
      let a = (bounded (suc (i + k)) next).after in
      let n = (bounded (suc (i + k)) next).nonempty in
      subst (λ (x : ℕ). (seg i).start < (seg x).end) e (omega (arith, a, before, n))

  -- the last segment z: no use, and not the first instruction, is after the last instruction
  module _ (z : ℕ) (last : suc z ≡ length segments) where
    z_inside : z < length segments
    z_inside = le_of_eq last

    listed_before : (u : ℕ) → u < (seg z).first_use → 4 * at u ≤ (seg z).start
    listed_before u l =
        let e = ended z u (let i = z_inside in omega (arith, i)) (subst (λ (x : ℕ). u < x) (lists.follows z z_inside) l) in
        let a = (bounded z z_inside).after in
        omega (arith, a, e)

    -- a use of its list is no later than the list's last
    listed_last : (u : ℕ) → (seg z).first_use ≤ u → u < (seg z).end_use → at u ≤ at ((seg z).end_use - 1)
    listed_last = last_highest limits uses (seg z) (λ u. fitting z u z_inside)

    all_listed : (u : ℕ) → u < length uses → u < (seg z).end_use
    all_listed u h = subst (λ (x : ℕ). u < x) (sym lists.all ∙ ap (λ (n : ℕ). (row_before segments no_segment n).end_use) (sym last)) h

    -- live-out: all are before its end
    pub last_out : LivesOut uses (seg z) → (u : ℕ) → u < length uses → at u ≤ (seg z).end / 4 - 1
    last_out out u h = ⊎_elim early own (split u (seg z).first_use)
      where
        early : u < (seg z).first_use → at u ≤ (seg z).end / 4 - 1
        early l = let a = listed_before u l in let n = (bounded z z_inside).nonempty in let b = out.boundary in omega (arith, a, n, b)

        below : (x y e : ℕ) → x ≤ y → 4 * y ≤ e → e % 4 ≡ 0 → (y ≡ e / 4 → ⊥) → x ≤ e / 4 - 1
        below x y e a b c f = ⊎_elim (λ l. omega (arith, a, l)) (λ l. absurd (f (omega (arith, b, c, l)))) (split y (e / 4))

        own : (seg z).first_use ≤ u → at u ≤ (seg z).end / 4 - 1
        own p =
            let q = all_listed u h in
            let some : (seg z).first_use < (seg z).end_use = omega (arith, p, q) in
            let r = listed_last u p q in
            let w = (placed z ((seg z).end_use - 1) z_inside (omega (arith, some)) (omega (arith, some))).high in
            let b = out.boundary in
            below (at u) (at ((seg z).end_use - 1)) (seg z).end r w b (out.apart ((seg z).end_use - 1) (omega (arith, some)) (omega (arith, some)))

    -- not live-out: the last use is the last instruction
    pub last_use : Ended uses (seg z) → (u : ℕ) → u < length uses → at u ≤ at ((seg z).end_use - 1)
    last_use end u h = ⊎_elim early (λ p. listed_last u p (all_listed u h)) (split u (seg z).first_use)
      where
        early : u < (seg z).first_use → at u ≤ at ((seg z).end_use - 1)
        early l = let a = listed_before u l in let n = (bounded z z_inside).nonempty in let r = end.near in omega (arith, a, n, r)

    -- nor is the first instruction
    pub first_out : LivesOut uses (seg z) → first_inst segments ≤ (seg z).end / 4 - 1
    unfolding first_inst
    first_out out = by (fixed_def (seg 0).flags) (starts_before 0 z (let i = z_inside in omega (arith, i)))
      where
        none : (x : ℕ) → 0 + x ≡ x
        none x = omega arith

        either : (b : Bool) → (seg 0).start < (seg z).end → (seg z).end % 4 ≡ 0 → (seg 0).start / 4 - cond b 1 0 ≤ (seg z).end / 4 - 1
        either true m c = omega (arith, m, c)
        either false m c = omega (arith, m, c)

        by : (b : Bool) → (seg 0).start < (seg (0 + z)).end → (seg 0).start / 4 - cond b 1 0 ≤ (seg z).end / 4 - 1
        by b l = either b (subst (λ (x : ℕ). (seg 0).start < (seg x).end) (none z) l) out.boundary

    pub first_use_last : Ended uses (seg z) → first_inst segments ≤ at ((seg z).end_use - 1)
    first_use_last end = let s = end.some in use_inside z ((seg z).end_use - 1) z_inside (omega (arith, s)) (omega (arith, s))
