-- What follows where nothing refuses a request.
use Rattle.std.proofs.Common.{◌≡◌, ◌∙◌, ◌≤◌, ℕ, nat_lt, Bool, true, false, not, ◌&&◌, List, [], ◌∷◌, Option, None, Some, refl, arith, is_none}
use Rattle.std.proofs.lemmas.Bool.Decides.{nat_tests}
use Rattle.std.specs.Option.{option_map_or}
use Rattle.qm_model.specs.Common.{Entry, Characteristic, Form, LAST_CHARACTERISTIC, Queue, Refusal, System, queue_named, is_generic, first_refusal, refused_where}
use Rattle.qm_kinds.specs.declared.refusal.Refusal.TheVariants.{NoSuchQueue, WrongKind, NotRunning, NotRestartable, BadValue, DuplicateForm, DuplicateCharacteristic}
use Rattle.qm_model.specs.Characteristics.{is_characteristic_taken, define_characteristic_refusal}
use Rattle.qm_model.specs.Forms.{is_bad_form, is_form_taken, define_form_refusal}
use Rattle.qm_model.specs.Stopping.{job_to_abort, abort_refusal}

pub none_first : (o : Option Refusal) (os : List (Option Refusal)) → first_refusal (o ∷ os) ≡ None → (o ≡ None) × (first_refusal os ≡ None)
none_first None os h = (refl, h)
none_first (Some refusal) os h = cc

pub none_where : (b : Bool) (r : Refusal) → refused_where b r ≡ None → b ≡ false
none_where true r h = cc
none_where false r h = refl

-- a form that nothing refuses has a name and a number of its own
pub form_is_free : (s : System) (form : Form) → define_form_refusal s form ≡ None → is_form_taken s.forms form ≡ false
form_is_free s form clear =
    let r1 = none_first (refused_where (is_bad_form form) BadValue) _ clear in
    let r2 = none_first (refused_where (is_form_taken s.forms form) DuplicateForm) _ r1.1 in
    none_where (is_form_taken s.forms form) DuplicateForm r2.0

-- and so has a characteristic, whose number isn't too great
at_most : (n : ℕ) → nat_lt LAST_CHARACTERISTIC n ≡ false → n ≤ LAST_CHARACTERISTIC
at_most n h = grind (arith, nat_tests)

pub characteristic_is_free : (s : System) (c : Characteristic) → define_characteristic_refusal s c ≡ None → (c.number ≤ LAST_CHARACTERISTIC) × (is_characteristic_taken s.characteristics c ≡ false)
characteristic_is_free s c clear =
    let r1 = none_first (refused_where (nat_lt LAST_CHARACTERISTIC c.number) BadValue) _ clear in
    let r2 = none_first (refused_where (is_characteristic_taken s.characteristics c) DuplicateCharacteristic) _ r1.1 in
    (at_most c.number (none_where (nat_lt LAST_CHARACTERISTIC c.number) BadValue r1.0), none_where (is_characteristic_taken s.characteristics c) DuplicateCharacteristic r2.0)

-- a job that runs in an execution queue is cut short, and goes back into it where it may restart
pub aborts : (s : System) (queue : List ℕ) (number : Option ℕ) (requeue : Bool) (q : Queue) (e : Entry) → queue_named queue s.queues ≡ Some q → is_generic q.kind ≡ false
    → job_to_abort s queue number ≡ Some e → (requeue && not e.restart) ≡ false → abort_refusal s queue number requeue ≡ None
aborts s queue number requeue q e found execution meant may =
    (λ t. first_refusal
    (refused_where (is_none (found t)) (NoSuchQueue queue)
    ∷ refused_where (option_map_or (λ (x : Queue). is_generic x.kind) (found t) false) WrongKind
    ∷ refused_where (is_none (meant t)) NotRunning
    ∷ refused_where (requeue && option_map_or (λ (x : Entry). not x.restart) (meant t) false) NotRestartable
    ∷ []))
    ∙ (λ t. first_refusal (None ∷ refused_where (execution t) WrongKind ∷ None ∷ refused_where (may t) NotRestartable ∷ []))
