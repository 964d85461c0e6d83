-- A list in order, with one more element in its place.
-- OpenVMS System Services Reference Manual, $GETQUI, on the order in which objects are displayed.
-- This site's own: the layout of listings.
use Rattle.std.specs.Prelude.{nat_lt, Bool, if◌then◌else◌, List, [], ◌∷◌}
use Rattle.std.specs.Ordering.{is_lt}
use Rattle.qm_kinds.specs.declared.form.Form.{Form}
use Rattle.qm_kinds.specs.declared.form.Characteristic.{Characteristic}
use Rattle.qm_kinds.specs.declared.queue.Queue.{Queue}
use Rattle.qm_model.specs.Find.{name_cmp}

-- in front of the first element that it stands before
abbrev pub inserted : {X : Type 0} → (X → X → Bool) → X → List X → List X
inserted stands_before x [] = x ∷ []
inserted stands_before x (y ∷ ys) = if stands_before x y then x ∷ y ∷ ys else y ∷ inserted stands_before x ys

-- one more form, in its place by number
abbrev pub with_form : Form → List Form → List Form
with_form form forms = inserted (λ f g. nat_lt f.number g.number) form forms

-- one more characteristic, in its place by number
abbrev pub with_characteristic_defined : Characteristic → List Characteristic → List Characteristic
with_characteristic_defined characteristic defined = inserted (λ c d. nat_lt c.number d.number) characteristic defined

-- one more queue, in its place by name
abbrev pub with_new_queue : Queue → List Queue → List Queue
with_new_queue queue queues = inserted (λ p q. is_lt (name_cmp p.name q.name)) queue queues
