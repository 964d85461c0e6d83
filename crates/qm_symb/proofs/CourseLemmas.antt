-- What a batch run does from a line on, and how far a step of it came.
use Rattle.std.proofs.Common.{◌≡◌, ℕ, zero, suc, ◌+◌, ◌-◌, ◌<◌, ◌≤◌, ◌^◌, min, true, false, Ok, Err, List, [], ◌∷◌, ◌++◌, length, length-append, take, refl, sym, ◌∙◌, ap, subst, arith, append_assoc, nat_le, if◌then◌else◌, Result, OnOk, OnErr, is_err}
use Rattle.std.proofs.lemmas.List.{take_at, append-nil, map-append}
use Rattle.qm_kinds.specs.declared.entry.JobKind.TheVariants.{Batch}
use Rattle.qm_model.specs.Common.{Work, Place, Report, lines}
use Rattle.qm_kinds.specs.declared.work.Report.TheVariants.{Done}
use Rattle.qm_model.specs.Batch.{BatchMove, move_at, normal_status, line_limit_status}
use Rattle.qm_model.specs.Reports.{Step, Handed, Reported, line_limit, steps_of, batch_steps, course_of, course, next_report, blocks_before_report}
use Rattle.qm_symb.specs.Device.{Meaning, Takes, OneFailed, IsQuiet, handed_by}
use Rattle.qm_symb.specs.Symbiont.{GoesOn, Fails}

-- ---- the course from a line on, move by move

-- what a run does from a line on that has read so many
unfoldable pub steps_from : Work → ℕ → ℕ → List Step
steps_from w used line = batch_steps (line_limit - used) (lines w.text) w.again w.mark line

pub course_from : (w : Work) (p : Place) (line : ℕ) → w.kind ≡ Batch → line ≡ p.at - 1 → course w p ≡ steps_from w p.used line
unfolding steps_from
course_from w p line kind is = ap (λ k. course_of k w p) kind ∙ ap (batch_steps (line_limit - p.used) (lines w.text) w.again w.mark) (sym is)

-- one line less may be read
room_for : (used : ℕ) → used < line_limit → line_limit - used ≡ suc (line_limit - (used + 1))
room_for used h = omega (arith, h)

one_more_read : (used : ℕ) → used < line_limit → line_limit - (line_limit - (used + 1)) ≡ used + 1
one_more_read used h = omega (arith, h)

pub by_move : (w : Work) (used line : ℕ) (move : BatchMove) → used < line_limit → move ≡ move_at (lines w.text) w.again w.mark line
    → steps_from w used line ≡ steps_of move (used + 1) (λ next. steps_from w (used + 1) next)
unfolding steps_from
by_move w used line move room is =
    let onward : ℕ → List Step = λ next. batch_steps (line_limit - (used + 1)) (lines w.text) w.again w.mark next in
    ap (λ n. batch_steps n (lines w.text) w.again w.mark line) (room_for used room)
    ∙ ap (λ n. steps_of (move_at (lines w.text) w.again w.mark line) n onward) (one_more_read used room)
    ∙ ap (λ m. steps_of m (used + 1) onward) (sym is)

no_room : (used : ℕ) → line_limit ≤ used → line_limit - used ≡ zero
no_room used h = omega (arith, h)

pub at_limit : (w : Work) (used line : ℕ) → line_limit ≤ used
    → steps_from w used line ≡ Reported (Done (if nat_le (length (lines w.text)) line then normal_status else line_limit_status)) ∷ []
unfolding steps_from
at_limit w used line full = ap (λ n. batch_steps n (lines w.text) w.again w.mark line) (no_room used full)

-- ---- how far a step came

module _ {D : Type 0} (m : Meaning D) where
  -- so much of a run's course is left, and the blocks before that were handed over, but no report was given
  pub record Passed (w : Work) (at : Place) (left : List Step) (old new : D) : Type 0 where
    pub handed : List (List ℕ)
    pub report : next_report (course w at) ≡ next_report left
    pub blocks : blocks_before_report (course w at) ≡ handed ++ blocks_before_report left
    pub took : Takes m w.run w.device handed old new
    pub quiet : IsQuiet m old new

  pub nothing_passed : (w : Work) (at : Place) (left : List Step) (old : D) → course w at ≡ left → Passed w at left old old
  nothing_passed w at left old is = record {
    handed = [];
    report = ap next_report is;
    blocks = ap blocks_before_report is;
    took = λ tells. sym (append-nil (m.taken old));
    quiet = refl;
  }

  module _ (w : Work) (at : Place) (old : D) where
    pub passed_same : (left other : List Step) (new : D) → Passed w at left old new → left ≡ other → Passed w at other old new
    passed_same left other new p is = subst (λ l. Passed w at l old new) is p

    -- one more block was handed over
    pub passed_block : (left rest : List Step) (block given : List ℕ) (mid new : D) → Passed w at left old mid → left ≡ Handed block ∷ rest
        → given ≡ block → Takes m w.run w.device (given ∷ []) mid new → IsQuiet m mid new → Passed w at rest old new
    passed_block left rest block given mid new p is same taken quiet = record {
      handed = p.handed ++ block ∷ [];
      report = p.report ∙ ap next_report is;
      blocks = p.blocks ∙ ap (λ l. p.handed ++ blocks_before_report l) is ∙ sym (append_assoc p.handed (block ∷ []) (blocks_before_report rest));
      took = λ tells. taken tells
          ∙ ap (λ b. m.taken mid ++ handed_by w.run w.device (b ∷ [])) same
          ∙ ap (λ l. l ++ handed_by w.run w.device (block ∷ [])) (p.took tells)
          ∙ append_assoc (m.taken old) (handed_by w.run w.device p.handed) (handed_by w.run w.device (block ∷ []))
          ∙ ap (λ l. m.taken old ++ l) (sym (map-append (λ (b : List ℕ). record { run = w.run; device = w.device; block = b }) p.handed (block ∷ [])));
      quiet = quiet ∙ p.quiet;
    }

    -- the next report is given
    pub comes_to_report : (left rest : List Step) (told due : Report) (new : D) → Passed w at left old new → left ≡ Reported due ∷ rest → told ≡ due → GoesOn m w at told old new
    comes_to_report left rest told due new p is same =
        let handed : blocks_before_report (course w at) ≡ p.handed = p.blocks ∙ ap (λ l. p.handed ++ blocks_before_report l) is ∙ append-nil p.handed in
        record {
          next = same ∙ sym (p.report ∙ ap next_report is);
          blocks = λ tells. p.took tells ∙ ap (λ l. m.taken old ++ handed_by w.run w.device l) (sym handed);
          quiet = p.quiet;
        }

    front_handed : (left : List Step) (new : D) (p : Passed w at left old new) → take (length p.handed) (blocks_before_report (course w at)) ≡ p.handed
    front_handed left new p = ap (take (length p.handed)) p.blocks ∙ take_at p.handed (blocks_before_report left) (length p.handed) refl

    -- the device fails at a block
    pub fails_at_block : (left rest : List Step) (block : List ℕ) (mid new : D) → Passed w at left old mid → left ≡ Handed block ∷ rest
        → Takes m w.run w.device [] mid new → OneFailed m mid new → Fails m w at (Done 1028) old new
    fails_at_block left rest block mid new p is taken failed = record {
      ended = refl;
      blocks = (
        length p.handed,
        omega (arith, ap length p.blocks, length-append p.handed (blocks_before_report left), ap (λ l. length (blocks_before_report l)) is),
        λ tells. taken tells ∙ append-nil (m.taken mid) ∙ p.took tells ∙ ap (λ l. m.taken old ++ handed_by w.run w.device l) (sym (front_handed left mid p)),
      );
      rose = failed ∙ ap (λ n. min (n + 1) (2 ^ 64 - 1)) p.quiet;
    }

-- ---- what calls answered

pub of_ok : {T E Q : Type 0} (r : Result T E) → is_err r ≡ false → OnOk r Q → Q
of_ok (Ok x) none h = h
of_ok (Err e) none h = absurd (cc)

pub of_err : {T E Q : Type 0} (r : Result T E) → is_err r ≡ true → OnErr r Q → Q
of_err (Ok x) some h = absurd (cc)
of_err (Err e) some h = h
