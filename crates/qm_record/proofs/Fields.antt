-- Each reader of a field reads the field's spelling.
use Rattle.std.proofs.Common.{◌≡◌, ℕ, zero, suc, ◌^◌, ◌<◌, ◌≤◌, Bool, true, false, cond, eqb, List, [], ◌∷◌, Option, None, Some, refl, arith}
use Rattle.qm_model.specs.Common.{NameOrNumber, Name, Number, JobRetain}
use Rattle.qm_kinds.specs.declared.entry.JobRetain.TheVariants as retain
use Rattle.qm_bytes.specs.Reading.{Reader, between, number_at}
use Rattle.qm_bytes.specs.Laws.{Spells, IsReader}
use Rattle.qm_bytes.specs.Spelling.{low_first, byte, short_bytes, moment, IsName, IsMoment, AllOf}
use Rattle.qm_bytes.proofs.Readers.{Then, Made, Last, Passes, made, after, last, said, byte_reader}
use Rattle.qm_bytes.proofs.Products.{◌&◌, ◌⊗◌, composed, ends, of_fields}
use Rattle.qm_bytes.proofs.Fields.{lies_between, passes_between, number_reader, truth_reader, optional_reader, list_reader, name_reader, file_name_reader, set_reader, moment_reader}
use Rattle.qm_record.specs.Spelling.{IsByte, job_retain, name_or_number, node, shape, form, characteristic, queue, queue_retain, limits, queue_change, new_queue, entry_change, job_text, RetainFits, NameOrNumberFits, NodeFits, ShapeFits, FormFits, CharacteristicFits, QueueFits, LimitsFit, ChangeFits, NewQueueFits, EntryChangeFits, JobFits}
use Rattle.qm_record.specs.Reading.{byte_at, plain_retain_of, job_retain_at, name_or_number_at, node_at, shape_at, form_at, characteristic_at, queue_at, queue_retain_at, limits_at, change_at, new_queue_at, entry_change_at, job_at}
use Rattle.qm_record.proofs.Codes.{job_kind_reader, queue_kind_reader, queue_state_reader, queue_retain_reader}

-- ---- numbers

pub one_byte_reader : IsReader (Spells IsByte byte) byte_at
one_byte_reader =
    said (byte_reader (between 0 255) 0 refl)
    (λ n text h. record { fits = omega (arith, (lies_between 0 255 n h.fits).1); is = h.is })
    (λ n text h. record { fits = passes_between 0 255 n (omega arith) (omega (arith, h.fits)); is = h.is })

pub u16_reader : IsReader (Spells (λ n. n < 2 ^ 16) (low_first 2)) (number_at 2)
u16_reader =
    said
    (number_reader 2)
    (λ n text h. record { fits = omega (arith, h.fits); is = h.is })
    (λ n text h. record { fits = omega (arith, h.fits); is = h.is })

pub u32_reader : IsReader (Spells (λ n. n < 2 ^ 32) (low_first 4)) (number_at 4)
u32_reader =
    said
    (number_reader 4)
    (λ n text h. record { fits = omega (arith, h.fits); is = h.is })
    (λ n text h. record { fits = omega (arith, h.fits); is = h.is })

pub u64_reader : IsReader (Spells (λ n. n < 2 ^ 64) (low_first 8)) (number_at 8)
u64_reader =
    said
    (number_reader 8)
    (λ n text h. record { fits = omega (arith, h.fits); is = h.is })
    (λ n text h. record { fits = omega (arith, h.fits); is = h.is })

-- ---- one of two

abbrev pub Either : {T : Type 0} → (T → List ℕ → Type 0) → (T → List ℕ → Type 0) → Bool → T → List ℕ → Type 0
Either First Second true = First
Either First Second false = Second

pub either : {T : Type 0} {First Second : T → List ℕ → Type 0} {first second : Reader T} → IsReader First first
    → IsReader Second second → (b : Bool) → IsReader (Either First Second b) (cond b first second)
either f s true = f
either f s false = s

abbrev NameNext : NameOrNumber → List ℕ → Type 0
NameNext = Last IsName short_bytes (λ name. Name name)

abbrev NumberNext : NameOrNumber → List ℕ → Type 0
NumberNext = Last (λ n. n < 2 ^ 16) (low_first 2) (λ number. Number number)

name_or_number_to : (b : ℕ) (x : NameOrNumber) (others text : List ℕ) → b ≤ 1 → Either NameNext NumberNext (eqb b 0) x others
    → text ≡ b ∷ others → Spells NameOrNumberFits name_or_number x text
name_or_number_to zero x others text le h e = rw h.same (record { fits = h.fits; is = rw (e, h.parts) refl })
name_or_number_to (suc zero) x others text le h e = rw h.same (record { fits = h.fits; is = rw (e, h.parts) refl })
name_or_number_to (suc (suc b)) x others text le h e = absurd (omega (arith, le))

name_or_number_from : (x : NameOrNumber) (text : List ℕ) → Spells NameOrNumberFits name_or_number x text
    → Then (Passes (between 0 1)) byte (λ b. Either NameNext NumberNext (eqb b 0)) x text
name_or_number_from (Name name) text s =
    record { first = 0; fits = refl; others = short_bytes name; parts = s.is; next = record { first = name; fits = s.fits; same = refl; parts = refl } }
name_or_number_from (Number n) text s =
    record { first = 1; fits = refl; others = low_first 2 n; parts = s.is; next = record { first = n; fits = s.fits; same = refl; parts = refl } }

pub name_or_number_reader : IsReader (Spells NameOrNumberFits name_or_number) name_or_number_at
unfolding name_or_number_at
name_or_number_reader =
    said (after (byte_reader (between 0 1) 0 refl) (λ b fits. either (last name_reader) (last u16_reader) (eqb b 0)))
    (λ x text h. name_or_number_to h.first x h.others text (lies_between 0 1 h.first h.fits).1 h.next h.parts)
    (λ x text s. name_or_number_from x text s)

abbrev UntilNext : JobRetain → List ℕ → Type 0
UntilNext = Last IsMoment moment (λ m. retain.Until m)

job_retain_to : (b : ℕ) (x : JobRetain) (others text : List ℕ) → b ≤ 3
    → Either UntilNext (Made (plain_retain_of b)) (eqb b 3) x others → text ≡ b ∷ others → Spells RetainFits job_retain x text
job_retain_to zero x others text le h e = rw h.same (record { fits = tt; is = rw (e, h.nothing) refl })
job_retain_to (suc zero) x others text le h e = rw h.same (record { fits = tt; is = rw (e, h.nothing) refl })
job_retain_to (suc (suc zero)) x others text le h e = rw h.same (record { fits = tt; is = rw (e, h.nothing) refl })
job_retain_to (suc (suc (suc zero))) x others text le h e = rw h.same (record { fits = h.fits; is = rw (e, h.parts) refl })
job_retain_to (suc (suc (suc (suc b)))) x others text le h e = absurd (omega (arith, le))

job_retain_from : (x : JobRetain) (text : List ℕ) → Spells RetainFits job_retain x text
    → Then (Passes (between 0 3)) byte (λ b. Either UntilNext (Made (plain_retain_of b)) (eqb b 3)) x text
job_retain_from retain.Default text s =
    record { first = 0; fits = refl; others = []; next = record { same = refl; nothing = refl }; parts = s.is }
job_retain_from retain.Always text s =
    record { first = 1; fits = refl; others = []; next = record { same = refl; nothing = refl }; parts = s.is }
job_retain_from retain.Failed text s =
    record { first = 2; fits = refl; others = []; next = record { same = refl; nothing = refl }; parts = s.is }
job_retain_from (retain.Until m) text s =
    record { first = 3; fits = refl; others = moment m; parts = s.is; next = record { first = m; fits = s.fits; same = refl; parts = refl } }

pub job_retain_reader : IsReader (Spells RetainFits job_retain) job_retain_at
unfolding job_retain_at
job_retain_reader =
    said (after (byte_reader (between 0 3) 0 refl) (λ b fits. either (last moment_reader) (made (plain_retain_of b)) (eqb b 3)))
    (λ x text h. job_retain_to h.first x h.others text (lies_between 0 3 h.first h.fits).1 h.next h.parts)
    (λ x text s. job_retain_from x text s)

-- ---- several fields

pub node_reader : IsReader (Spells NodeFits node) node_at
unfolding node_at
node_reader =
    of_fields (λ n. n.name & n.up) (name_reader ⊗ λ name name_fits. ends truth_reader (λ up up_fits. name_fits))
    (λ n. refl) (λ p fits. refl) (λ n fits. fits & tt)

pub shape_reader : IsReader (Spells ShapeFits shape) shape_at
unfolding shape_at
shape_reader =
    of_fields
    (λ s. s.length & s.width & s.top & s.bottom & s.left & s.right & s.wrap & tt)
    (one_byte_reader ⊗ λ length length_fits. one_byte_reader ⊗ λ width width_fits. one_byte_reader ⊗ λ top top_fits.
    one_byte_reader ⊗ λ bottom bottom_fits. one_byte_reader ⊗ λ left left_fits. one_byte_reader ⊗ λ right right_fits.
    truth_reader ⊗ λ wrap wrap_fits.
    composed (record {
      length_fits = length_fits;
      width_fits = width_fits;
      top_fits = top_fits;
      bottom_fits = bottom_fits;
      left_fits = left_fits;
      right_fits = right_fits;
    }))
    (λ s. refl) (λ p fits. refl)
    (λ s fits. fits.length_fits & fits.width_fits & fits.top_fits & fits.bottom_fits & fits.left_fits & fits.right_fits & tt & tt)

pub form_reader : IsReader (Spells FormFits form) form_at
unfolding form_at
form_reader =
    of_fields
    (λ f. f.name & f.number & f.stock & f.shape & tt)
    (name_reader ⊗ λ name name_fits. u16_reader ⊗ λ number number_fits. name_reader ⊗ λ stock stock_fits.
    shape_reader ⊗ λ lines shape_fits.
    composed (record { name_fits = name_fits; number_fits = number_fits; stock_fits = stock_fits; shape_fits = shape_fits }))
    (λ f. refl) (λ p fits. refl)
    (λ f fits. fits.name_fits & fits.number_fits & fits.stock_fits & fits.shape_fits & tt)

pub characteristic_reader : IsReader (Spells CharacteristicFits characteristic) characteristic_at
unfolding characteristic_at
characteristic_reader =
    of_fields
    (λ c. c.name & c.number)
    (name_reader ⊗ λ name name_fits. ends one_byte_reader (λ number fits. record { name_fits = name_fits; number_fits = fits }))
    (λ c. refl) (λ p fits. refl) (λ c fits. fits.name_fits & fits.number_fits)

pub queue_reader : IsReader (Spells QueueFits queue) queue_at
unfolding queue_at
queue_reader =
    of_fields
    (λ q. q.name & q.kind & q.state & q.node & q.device & q.limit & q.characteristics & q.mounted
    & q.lower & q.upper & q.by_size & q.retain & q.targets & tt)
    (name_reader ⊗ λ name name_fits. queue_kind_reader ⊗ λ kind kind_fits. queue_state_reader ⊗ λ state state_fits.
    optional_reader name_reader ⊗ λ on node_fits. optional_reader name_reader ⊗ λ device device_fits.
    one_byte_reader ⊗ λ limit limit_fits. set_reader ⊗ λ characteristics characteristics_fit.
    optional_reader name_reader ⊗ λ mounted mounted_fits. u32_reader ⊗ λ lower lower_fits. u32_reader ⊗ λ upper upper_fits.
    truth_reader ⊗ λ by_size by_size_fits. queue_retain_reader ⊗ λ kept retain_fits.
    list_reader name_reader ⊗ λ targets targets_fit.
    composed (record {
      name_fits = name_fits;
      node_fits = node_fits;
      device_fits = device_fits;
      limit_fits = limit_fits;
      characteristics_fit = characteristics_fit;
      mounted_fits = mounted_fits;
      lower_fits = lower_fits;
      upper_fits = upper_fits;
      targets_fit = targets_fit;
    }))
    (λ q. refl) (λ p fits. refl)
    (λ q fits. fits.name_fits & tt & tt & fits.node_fits & fits.device_fits & fits.limit_fits & fits.characteristics_fit
    & fits.mounted_fits & fits.lower_fits & fits.upper_fits & tt & tt & fits.targets_fit & tt)

-- ---- settings of queues

pub limits_reader : IsReader (Spells LimitsFit limits) limits_at
unfolding limits_at
limits_reader =
    of_fields (λ l. l) (u32_reader ⊗ λ lower lower_fits. ends u32_reader (λ upper upper_fits. lower_fits & upper_fits))
    (λ l. refl) (λ p fits. refl) (λ l fits. fits)

retain_reader : IsReader (Spells (λ x. Unit {0}) queue_retain) queue_retain_at
retain_reader = queue_retain_reader

-- each value fits where nothing is asked
anything : {A : Type 0} (x : Option A) → AllOf (λ y. Unit {0}) x
anything None = tt
anything (Some x) = tt

pub change_reader : IsReader (Spells ChangeFits queue_change) change_at
unfolding change_at
change_reader =
    of_fields
    (λ c. c.limit & c.characteristics & c.form & c.blocks & c.by_size & c.retain & tt)
    (optional_reader one_byte_reader ⊗ λ limit limit_fits.
    optional_reader (list_reader name_or_number_reader) ⊗ λ characteristics characteristics_fit.
    optional_reader name_or_number_reader ⊗ λ stock form_fits. optional_reader limits_reader ⊗ λ blocks blocks_fit.
    optional_reader truth_reader ⊗ λ by_size by_size_fits. optional_reader retain_reader ⊗ λ kept retain_fits.
    composed (record {
      limit_fits = limit_fits;
      characteristics_fit = characteristics_fit;
      form_fits = form_fits;
      blocks_fit = blocks_fit;
    }))
    (λ c. refl) (λ p fits. refl)
    (λ c fits. fits.limit_fits & fits.characteristics_fit & fits.form_fits & fits.blocks_fit
    & anything c.by_size & anything c.retain & tt)

pub new_queue_reader : IsReader (Spells NewQueueFits new_queue) new_queue_at
unfolding new_queue_at
new_queue_reader =
    of_fields
    (λ n. n.name & n.kind & n.node & n.device & n.targets & n.change & n.start & tt)
    (name_reader ⊗ λ name name_fits. queue_kind_reader ⊗ λ kind kind_fits. optional_reader name_reader ⊗ λ on node_fits.
    optional_reader name_reader ⊗ λ device device_fits. list_reader name_reader ⊗ λ targets targets_fit.
    change_reader ⊗ λ change change_fits. truth_reader ⊗ λ start start_fits.
    composed (record {
      name_fits = name_fits;
      node_fits = node_fits;
      device_fits = device_fits;
      targets_fit = targets_fit;
      change_fits = change_fits;
    }))
    (λ n. refl) (λ p fits. refl)
    (λ n fits. fits.name_fits & tt & fits.node_fits & fits.device_fits & fits.targets_fit & fits.change_fits & tt & tt)

-- ---- jobs

pub job_reader : IsReader (Spells JobFits job_text) job_at
unfolding job_at
job_reader =
    of_fields
    (λ j. j.user & j.kind & j.queue & j.file & j.name & j.priority & j.after & j.hold & j.retain
    & j.restart & j.characteristics & j.form & j.copies & j.flag & tt)
    (name_reader ⊗ λ user user_fits. job_kind_reader ⊗ λ kind kind_fits. name_reader ⊗ λ to queue_fits.
    file_name_reader ⊗ λ file file_fits. name_reader ⊗ λ name name_fits. one_byte_reader ⊗ λ priority priority_fits.
    optional_reader moment_reader ⊗ λ not_before after_fits. truth_reader ⊗ λ hold hold_fits.
    job_retain_reader ⊗ λ kept retain_fits. truth_reader ⊗ λ restart restart_fits.
    list_reader name_or_number_reader ⊗ λ characteristics characteristics_fit.
    optional_reader name_or_number_reader ⊗ λ stock form_fits. one_byte_reader ⊗ λ copies copies_fits.
    truth_reader ⊗ λ flag flag_fits.
    composed (record {
      user_fits = user_fits;
      queue_fits = queue_fits;
      file_fits = file_fits;
      name_fits = name_fits;
      priority_fits = priority_fits;
      after_fits = after_fits;
      retain_fits = retain_fits;
      characteristics_fit = characteristics_fit;
      form_fits = form_fits;
      copies_fits = copies_fits;
    }))
    (λ j. refl) (λ p fits. refl)
    (λ j fits. fits.user_fits & tt & fits.queue_fits & fits.file_fits & fits.name_fits & fits.priority_fits & fits.after_fits & tt
    & fits.retain_fits & tt & fits.characteristics_fit & fits.form_fits & fits.copies_fits & tt & tt)

-- ---- what is changed of entries

pub entry_change_reader : IsReader (Spells EntryChangeFits entry_change) entry_change_at
unfolding entry_change_at
entry_change_reader =
    of_fields
    (λ c. c.release & c.hold & c.after & c.priority & c.name & c.characteristics & c.form & c.queue & c.restart & c.retain & tt)
    (truth_reader ⊗ λ release release_fits. truth_reader ⊗ λ hold hold_fits.
    optional_reader (optional_reader moment_reader) ⊗ λ not_before after_fits.
    optional_reader one_byte_reader ⊗ λ priority priority_fits. optional_reader name_reader ⊗ λ name name_fits.
    optional_reader (list_reader name_or_number_reader) ⊗ λ characteristics characteristics_fit.
    optional_reader name_or_number_reader ⊗ λ stock form_fits. optional_reader name_reader ⊗ λ home queue_fits.
    optional_reader truth_reader ⊗ λ restart restart_fits. optional_reader job_retain_reader ⊗ λ kept retain_fits.
    composed (record {
      after_fits = after_fits;
      priority_fits = priority_fits;
      name_fits = name_fits;
      characteristics_fit = characteristics_fit;
      form_fits = form_fits;
      queue_fits = queue_fits;
      retain_fits = retain_fits;
    }))
    (λ c. refl) (λ p fits. refl)
    (λ c fits. tt & tt & fits.after_fits & fits.priority_fits & fits.name_fits & fits.characteristics_fit & fits.form_fits
    & fits.queue_fits & anything c.restart & fits.retain_fits & tt)
