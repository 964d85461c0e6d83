-- Lines that are read as they are served, and STEP lines.
use Rattle.std.proofs.Common.{◌≡◌, ℕ, Bool, true, false, List, refl, sym, ◌∙◌, ap, subst, Option, None, Some, codes, if◌then◌else◌, option_and_then, bytes_eq}
use Rattle.std.proofs.lemmas.Slice.Eq.{bytes_eq-Decides}
use Rattle.qm_history.specs.Common.{Input, cut_at_blank, read, text_asked, scans_of, Visit}
use Rattle.qm_kinds.specs.declared.input.Input.TheVariants as input
use Rattle.qm_kinds.specs.Names.{system_user}
use Rattle.qm_model.specs.Script as served
use Rattle.qm_model.specs.Script.{act_of, act_from, is_act_word, step_number, steps_in}
use Rattle.qm_history.specs.Acts.{act_asked, act_with, word_act, step_act}
use Rattle.qm_history.specs.Script.{UserLine, LineSort, Command, Items, Act, line_by_system, sort_served, steps_asked}

yes : {A : Type 0} (b : Bool) (x y : A) → b ≡ true → (if b then x else y) ≡ x
yes true x y is = refl
yes false x y is = cc

no_more : {A : Type 0} (b : Bool) (x y : A) → b ≡ false → (if b then x else y) ≡ y
no_more true x y is = cc
no_more false x y is = refl

module _ (items_mean : ℕ → List ℕ → List ℕ → Input) (command_means : List ℕ → ℕ → List ℕ → Input) where
  pub commands_same : (l : served.ScriptLine) (reading : ℕ) (earlier : List Visit) (known : List ℕ) → l.sort ≡ served.Command
      → read items_mean command_means (line_by_system l) reading earlier known ≡ command_means system_user reading l.text
  commands_same l reading earlier known is = same l.sort is
    where
      same : (sort : served.Sort) → sort ≡ served.Command
          → text_asked items_mean command_means (sort_served sort) system_user reading l.text (scans_of earlier) known ≡ command_means system_user reading l.text
      same served.Command is = refl
      same served.Site is = cc

pub acts_same : (known text word rest : List ℕ) → cut_at_blank text ≡ Some (word, rest) → is_act_word word ≡ true → bytes_eq word (codes "STEP") ≡ false → act_asked known text ≡ act_of text
acts_same known text word rest cut is other =
    ap (act_with known text) cut ∙ no_more (bytes_eq word (codes "STEP")) (step_act known (steps_in text)) _ other ∙ yes (is_act_word word) (act_of text) _ is

-- a word alone that is served is none of those that aren't
other_word : (text word : List ℕ) → is_act_word text ≡ true → is_act_word word ≡ false → bytes_eq text word ≡ false
other_word text word served not_served = by_test (bytes_eq text word) refl
  where
    by_test : (b : Bool) → bytes_eq text word ≡ b → b ≡ false
    by_test true same = let is : text ≡ word = (bytes_eq-Decides text word).0 same in
        let moved : is_act_word word ≡ true = subst (λ (w : List ℕ). is_act_word w ≡ true) is served in cc
    by_test false same = refl

alone_by : (text : List ℕ) (tick : Bool) → bytes_eq text (codes "TICK") ≡ tick → is_act_word text ≡ true → word_act text ≡ act_from text None
alone_by text true is served = yes (bytes_eq text (codes "TICK")) _ _ is ∙ sym (yes (bytes_eq text (codes "TICK")) _ _ is)
alone_by text false is served =
    no_more (bytes_eq text (codes "TICK")) _ _ is
    ∙ no_more (bytes_eq text (codes "COMPACT")) _ _ (other_word text (codes "COMPACT") served refl)
    ∙ no_more (bytes_eq text (codes "STOP")) _ _ (other_word text (codes "STOP") served refl)
    ∙ no_more (bytes_eq text (codes "START")) _ _ (other_word text (codes "START") served refl)
    ∙ sym (no_more (bytes_eq text (codes "TICK")) _ _ is ∙ yes (is_act_word text) _ _ served)

pub alone_same : (known text : List ℕ) → cut_at_blank text ≡ None → is_act_word text ≡ true → act_asked known text ≡ act_of text
alone_same known text cut served =
    ap (act_with known text) cut ∙ alone_by text (bytes_eq text (codes "TICK")) refl served ∙ sym (ap (act_from text) cut)

step_cut : (known text : List ℕ) (steps : ℕ) (o : Option (List ℕ × List ℕ)) → steps_in text ≡ Some steps
    → option_and_then (λ (parts : List ℕ × List ℕ). if bytes_eq parts.0 (codes "STEP") then step_number parts.1 else None) o ≡ Some steps
    → act_with known text o ≡ input.Fetch known
step_cut known text steps None in_text is = cc
step_cut known text steps (Some parts) in_text is = by_word (bytes_eq parts.0 (codes "STEP")) refl
  where
    by_word : (b : Bool) → bytes_eq parts.0 (codes "STEP") ≡ b → act_with known text (Some parts) ≡ input.Fetch known
    by_word true same = yes (bytes_eq parts.0 (codes "STEP")) (step_act known (steps_in text)) _ same ∙ ap (step_act known) in_text
    by_word false same =
        let none : None ≡ Some steps = sym (no_more (bytes_eq parts.0 (codes "STEP")) (step_number parts.1) None same) ∙ is in cc

pub steps_fetch : (items_mean : ℕ → List ℕ → List ℕ → Input) (command_means : List ℕ → ℕ → List ℕ → Input) (l : UserLine) (reading : ℕ) (earlier : List Visit) (known : List ℕ) (steps : ℕ) → steps_asked l.line.sort l.line.text ≡ Some steps
    → read items_mean command_means l reading earlier known ≡ input.Fetch known
steps_fetch items_mean command_means l reading earlier known steps is = by_sort l.line.sort is
  where
    by_sort : (sort : LineSort) → steps_asked sort l.line.text ≡ Some steps → text_asked items_mean command_means sort l.user reading l.line.text (scans_of earlier) known ≡ input.Fetch known
    by_sort Command is = cc
    by_sort Items is = cc
    by_sort Act is = step_cut known l.line.text steps (cut_at_blank l.line.text) is is
