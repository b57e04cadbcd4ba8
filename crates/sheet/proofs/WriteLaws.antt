-- Laws of writing: pieces that are written one behind the other are one text.
-- Assumes nothing.
use Prim.Native.Nat.{ℕ, ◌+◌, ◌*◌, ◌≤◌, ◌<◌}
use mathlib.Core.Path.{◌≡◌, refl, sym, ap, ◌∙◌}
use mathlib.Core.List.{List, [], ◌∷◌, ◌++◌, append_assoc, append-nil}
use native.Mathlib.Omega.{arith}
use lib.ListN.{length, get_or, set, drop, replicate, length-append, drop_of_length-le}
use lib.Seq.{sets, sets-eq, set-set}
use lib.Dec.{ltb}
use mathlib.Core.Bool.{true, false}
use borrow.Author.Tests.{lt-ltb, le-ltb}
use Rattle.sheet.specs.Field.{digit_or_blank, digits, field}
use Rattle.sheet.specs.Sheet.{fields_text, line_text}
use Rattle.sheet.specs.Answer.{no_room, end_text, ends_text, weights_text, figures_text, answer_text, Wrote}
use Rattle.std.specs.Prelude.{Option, Some, None, Ok, Err}
use Rattle.sheet.specs.declared.write.Figures.{Figures}
use Rattle.sheet.specs.declared.write.Answer.{Answer}
use Rattle.sheet.specs.declared.write.Answer.TheVariants.{Proposal, NoneOf, Refused}
use Rattle.sheet.proofs.Lists.{drop_next, sets_append}
use Rattle.sheet.proofs.FieldLaws.{field_length}

-- a buffer with m bytes of text written from a place on
pub record Put (before after : List ℕ) (at : ℕ) (text : List ℕ) (m : ℕ) : Type 0 where
  pub stored : after ≡ sets before at text
  pub size : length text ≡ m

pub put_none : (out : List ℕ) (at : ℕ) → Put out out at [] 0
put_none out at = record { stored = refl; size = refl }

pub put_more : (before out after : List ℕ) (at : ℕ) (text more : List ℕ) (m n p : ℕ) → Put before out at text m → p ≡ at + m → length more ≡ n
    → after ≡ sets out p more → Put before after at (text ++ more) (m + n)
put_more before out after at text more m n p u e l q =
    let f : p ≡ at + length text = e ∙ ap (λ (j : ℕ). at + j) (sym u.size) in
    record {
      stored = q ∙ ap (λ (j : ℕ). sets out j more) f ∙ ap (λ (o : List ℕ). sets o (at + length text) more) u.stored ∙ sets_append text more before at;
      size = simp length-append (omega (arith, u.size));
    }

pub put_as : (before after : List ℕ) (at : ℕ) (text whole : List ℕ) (m : ℕ) → Put before after at text m → text ≡ whole → after ≡ sets before at whole
put_as before after at text whole m u e = u.stored ∙ ap (sets before at) e

-- an absent end
blank_end : digits 10 0 ≡ replicate 10 32
unfolding digits digit_or_blank
blank_end = refl

pub end_absent : (out : List ℕ) (at : ℕ) → set (sets out at (field 0)) (at + 10) 45 ≡ sets out at (end_text None)
unfolding field end_text
end_absent out at =
    ap (λ (b : List ℕ). set (sets out at (b ++ (48 ∷ []))) (at + 10) 45) blank_end
    ∙ ap (λ (o : List ℕ). set o (at + 10) 45) (sym (sets_append (replicate 10 32) (48 ∷ []) out at))
    ∙ set-set (sets out at (replicate 10 32)) (at + 10) 48 45
    ∙ sets_append (replicate 10 32) (45 ∷ []) out at

pub end_length : (e : Option ℕ) → length (end_text e) ≡ 11
unfolding end_text
end_length (Some n) = field_length n
end_length None = refl

-- the texts that the code puts together
pub ends_text_lem : (left right : Option ℕ) → ((81 ∷ []) ++ end_text left) ++ end_text right ≡ ends_text left right
unfolding ends_text
ends_text_lem left right = simp append_assoc

pub weights_text_lem : (a b c d : ℕ) → (((field a ++ field b) ++ field c) ++ field d) ++ (10 ∷ []) ≡ weights_text a b c d
unfolding weights_text fields_text
weights_text_lem a b c d = simp (append_assoc, append-nil)

pub ends_length : (left right : Option ℕ) → length (ends_text left right) ≡ 23
unfolding ends_text
ends_length left right = simp length-append (omega (arith, end_length left, end_length right))

pub weights_length : (a b c d : ℕ) → length (weights_text a b c d) ≡ 45
unfolding weights_text fields_text
weights_length a b c d = simp (length-append, field_length)

pub line_length_one : (c n : ℕ) → length (line_text c (n ∷ [])) ≡ 13
unfolding line_text fields_text
line_length_one c n = simp (length-append, field_length)

-- what was written, by the room that there was
pub wrote_none : (text before : List ℕ) (m : ℕ) → length text ≡ m → length before < m → Wrote text before before (Err no_room)
wrote_none text before m e h =
    let t : ltb (length before) (length text) ≡ true = lt-ltb (length before) (length text) (omega arith) in
    record { answer = rw t; bytes = rw t }

pub wrote_all : (text before after : List ℕ) (m : ℕ) → length text ≡ m → m ≤ length before → after ≡ sets before 0 text → Wrote text before after (Ok m)
wrote_all text before after m e h q =
    let t : ltb (length before) (length text) ≡ false = le-ltb (length before) (length text) (omega arith) in
    let z : 0 + length text ≡ length text = omega arith in
    record {
      answer = rw (t, e);
      bytes = rw t (q ∙ sets-eq text before 0 (omega arith) ∙ ap (λ (j : ℕ). text ++ drop j before) z);
    }

-- how long each answer's text is
module _ (a : Answer) where
  pub proposal_text : (f : Figures) → a ≡ Proposal f → answer_text a ≡ figures_text f
  unfolding answer_text
  proposal_text f e = ap answer_text e

  pub none_text : (n : ℕ) → a ≡ NoneOf n → answer_text a ≡ line_text 78 (n ∷ [])
  unfolding answer_text
  none_text n e = ap answer_text e

  pub refusal_text : (n p : ℕ) → a ≡ Refused n p → answer_text a ≡ line_text 82 (n ∷ p ∷ [])
  unfolding answer_text
  refusal_text n p e = ap answer_text e

pub figures_length : (f : Figures) → length (figures_text f) ≡ 81
unfolding figures_text
figures_length f =
    simp length-append
    (omega (
      arith,
      ends_length f.left f.right,
      weights_length f.use_weight f.live_insts f.interference_weight f.split_cost,
      line_length_one 72 f.thousandths,
    ))

pub line_length_two : (c n p : ℕ) → length (line_text c (n ∷ p ∷ [])) ≡ 24
unfolding line_text fields_text
line_length_two c n p = simp (length-append, field_length)

-- a field written, and the fields left behind it
pub fields_step : (fields out after : List ℕ) (p i : ℕ) → i < length fields → after ≡ sets out p (field (get_or fields i 0))
    → sets after (p + 11) (fields_text (drop (i + 1) fields)) ≡ sets out p (fields_text (drop i fields))
unfolding fields_text
fields_step fields out after p i h e =
    let f = field (get_or fields i 0) in
    let rest = fields_text (drop (i + 1) fields) in
    let w : p + 11 ≡ p + length f = ap (λ (j : ℕ). p + j) (sym (field_length (get_or fields i 0))) in
    ap (λ (o : List ℕ). sets o (p + 11) rest) e
    ∙ ap (λ (j : ℕ). sets (sets out p f) j rest) w
    ∙ sets_append f rest out p
    ∙ ap (λ (t : List ℕ). sets out p (fields_text t)) (sym (drop_next fields i h))

pub fields_end : (fields out : List ℕ) (p i : ℕ) → length fields ≤ i → sets out p (fields_text (drop i fields)) ≡ out
unfolding fields_text
fields_end fields out p i h = ap (λ (t : List ℕ). sets out p (fields_text t)) (drop_of_length-le fields h)

pub fields_length : (fields : List ℕ) → length (fields_text fields) ≡ 11 * length fields
unfolding fields_text
fields_length [] = refl
fields_length (n ∷ ns) = simp length-append (omega (arith, field_length n, fields_length ns))

pub line_length : (c : ℕ) (fields : List ℕ) → length (line_text c fields) ≡ 1 + 11 * length fields + 1
unfolding line_text
line_length c fields = simp length-append (omega (arith, fields_length fields))

pub line_text_lem : (c : ℕ) (fields : List ℕ) → ((c ∷ []) ++ fields_text fields) ++ (10 ∷ []) ≡ line_text c fields
unfolding line_text
line_text_lem c fields = refl
