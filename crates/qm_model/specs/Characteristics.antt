-- Characteristics are defined and deleted.
-- DCL Dictionary, DEFINE/CHARACTERISTIC and DELETE/CHARACTERISTIC.
-- This site's own: the refusal of a taken name or number.
use Rattle.std.specs.Prelude.{ℕ, ◌^◌, ◌==◌, nat_lt, Bool, false, not, ◌||◌, is_some, is_none, List, [], ◌∷◌, filter, Option, bit_and, bytes_eq}
use Rattle.std.specs.Option.{option_map_or}
use Rattle.qm_kinds.specs.declared.form.Characteristic.{Characteristic}
use Rattle.qm_kinds.specs.declared.limits.TheConstants.{LAST_CHARACTERISTIC}
use Rattle.qm_kinds.specs.declared.refusal.Refusal.{Refusal}
use Rattle.qm_kinds.specs.declared.refusal.Refusal.TheVariants.{BadValue, DuplicateCharacteristic, NoSuchCharacteristic}
use Rattle.qm_kinds.specs.declared.reply.Act.TheVariants.{CharacteristicDefined, CharacteristicDeleted}
use Rattle.qm_kinds.specs.declared.request.NameOrNumber.TheVariants.{Name, Number}
use Rattle.qm_kinds.specs.declared.system.System.{System}
use Rattle.qm_model.specs.Find.{characteristic_wanted}
use Rattle.qm_model.specs.Outcome.{Accepted, refused_where, first_refusal}
use Rattle.qm_model.specs.Referring.{refused_by_queue, refused_by_entry}
use Rattle.qm_model.specs.Inserting.{with_characteristic_defined}
use Rattle.qm_model.specs.Replying.{replied}

-- a characteristic has the name or the number
abbrev pub is_characteristic_taken : List Characteristic → Characteristic → Bool
is_characteristic_taken defined c = is_some (characteristic_wanted (Name c.name) defined) || is_some (characteristic_wanted (Number c.number) defined)

-- why a characteristic can't be defined
abbrev pub define_characteristic_refusal : System → Characteristic → Option Refusal
define_characteristic_refusal s characteristic = first_refusal
    (refused_where (nat_lt LAST_CHARACTERISTIC characteristic.number) BadValue
    ∷ refused_where (is_characteristic_taken s.characteristics characteristic) DuplicateCharacteristic
    ∷ [])

-- one more characteristic
abbrev pub characteristic_defined : System → Characteristic → Accepted
characteristic_defined s characteristic =
    replied (record s { characteristics = with_characteristic_defined characteristic s.characteristics }) (CharacteristicDefined characteristic.name)

-- the set has the characteristic
abbrev pub has_number : ℕ → ℕ → Bool
has_number number set = not (bit_and set (2 ^ number) == 0)

-- the set has the characteristic of this name
abbrev pub has_named : List Characteristic → List ℕ → ℕ → Bool
has_named defined name set = option_map_or (λ c. has_number c.number set) (characteristic_wanted (Name name) defined) false

-- a characteristic stays while a queue or a job has it
abbrev pub delete_characteristic_refusal : System → List ℕ → Option Refusal
delete_characteristic_refusal s name = first_refusal
    (refused_where (is_none (characteristic_wanted (Name name) s.characteristics)) (NoSuchCharacteristic (Name name))
    ∷ refused_by_queue (λ q. has_named s.characteristics name q.characteristics.0) s.queues
    ∷ refused_by_entry (λ e. has_named s.characteristics name e.characteristics.0) s.entries
    ∷ [])

-- the characteristic of the name goes
abbrev pub characteristic_deleted : System → List ℕ → Accepted
characteristic_deleted s name =
    replied (record s { characteristics = filter (λ c. not (bytes_eq c.name name)) s.characteristics }) (CharacteristicDeleted name)
