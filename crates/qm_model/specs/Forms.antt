-- Forms are defined and deleted.
-- DCL Dictionary, DEFINE/FORM and DELETE/FORM.
-- This site's own: the numbers 0 to 999, and the refusal of a taken name or number.
use Rattle.std.specs.Prelude.{ℕ, ◌+◌, nat_lt, nat_le, Bool, false, not, ◌||◌, is_some, is_none, List, [], ◌∷◌, filter, Option, bytes_eq}
use Rattle.std.specs.Option.{option_map_or}
use Rattle.qm_kinds.specs.declared.form.Form.{Form}
use Rattle.qm_kinds.specs.declared.limits.TheConstants.{LAST_FORM}
use Rattle.qm_kinds.specs.declared.refusal.Holder.TheVariants.{Always}
use Rattle.qm_kinds.specs.declared.refusal.Refusal.{Refusal}
use Rattle.qm_kinds.specs.declared.refusal.Refusal.TheVariants.{BadValue, DuplicateForm, NoSuchForm, Referenced}
use Rattle.qm_kinds.specs.declared.reply.Act.TheVariants.{FormDefined, FormDeleted}
use Rattle.qm_kinds.specs.declared.request.NameOrNumber.TheVariants.{Name, Number}
use Rattle.qm_kinds.specs.declared.system.System.{System}
use Rattle.qm_kinds.specs.Names.{default_form}
use Rattle.qm_model.specs.Find.{form_wanted}
use Rattle.qm_model.specs.Outcome.{Accepted, refused_where, first_refusal}
use Rattle.qm_model.specs.Referring.{refused_by_queue, refused_by_entry}
use Rattle.qm_model.specs.Inserting.{with_form}
use Rattle.qm_model.specs.Replying.{replied}

-- the margins leave no room, or the number is too great
abbrev pub is_bad_form : Form → Bool
is_bad_form f =
    nat_le f.shape.length (f.shape.top + f.shape.bottom) || nat_le f.shape.width (f.shape.left + f.shape.right) || nat_lt LAST_FORM f.number

-- a form has the name or the number
abbrev pub is_form_taken : List Form → Form → Bool
is_form_taken forms f = is_some (form_wanted (Name f.name) forms) || is_some (form_wanted (Number f.number) forms)

-- why a form can't be defined
abbrev pub define_form_refusal : System → Form → Option Refusal
define_form_refusal s form = first_refusal
    (refused_where (is_bad_form form) BadValue
    ∷ refused_where (is_form_taken s.forms form) DuplicateForm
    ∷ [])

-- one more form
abbrev pub form_defined : System → Form → Accepted
form_defined s form = replied (record s { forms = with_form form s.forms }) (FormDefined form.name)

-- the form is the one of the name
abbrev pub is_named : List ℕ → Option (List ℕ) → Bool
is_named name form = option_map_or (bytes_eq name) form false

-- the form DEFAULT always stays, and another one while it is mounted or a job has it
abbrev pub delete_form_refusal : System → List ℕ → Option Refusal
delete_form_refusal s name = first_refusal
    (refused_where (is_none (form_wanted (Name name) s.forms)) (NoSuchForm (Name name))
    ∷ refused_where (bytes_eq name default_form) (Referenced Always)
    ∷ refused_by_queue (λ q. is_named name q.mounted) s.queues
    ∷ refused_by_entry (λ e. is_named name e.form) s.entries
    ∷ [])

-- the form of the name goes
abbrev pub form_deleted : System → List ℕ → Accepted
form_deleted s name = replied (record s { forms = filter (λ f. not (bytes_eq f.name name)) s.forms }) (FormDeleted name)
