-- What holds of each request that item lists can make, and of listings and faults, holds of all that they ask for.
use Rattle.std.proofs.Common.{◌≡◌, ◌<◌, ◌≤◌, ◌+◌, ◌^◌, lit<, ℕ, length, Bool, true, false, cond, ◌==◌, ◌&&◌, List, [], ◌∷◌, ◌++◌, Option, None, Some, Result, Ok, Err, refl, sym, ◌∙◌, ap, subst, IfSome, arith, nat_le, filter_map, ok_or, option_map, option_and_then, unwrap_or, append_assoc, append-nil}
use Rattle.std.specs.List.{cons_option, list_any}
use Rattle.std.specs.Option.{option_map_or, option_or}
use Rattle.std.proofs.lemmas.Bool.Decides.{nat_tests}
use Rattle.std.proofs.lemmas.List.Sums.{sum_by-append}
use Rattle.qm_model.specs.Common.{file_name_of, name_of, JobKind, FileName, Characteristic, Form, Input, Query, NewQueue, QueueChange, QueueKind, ParseKind, EntryChange, Job, NameOrNumber, Request, StopMode, is_built, is_definable, is_short}
use Rattle.qm_kinds.specs.declared.input.Input.TheVariants.{Ask, Show, Fault as AFault}
use Rattle.qm_kinds.specs.declared.refusal.ParseKind.TheVariants as parse
use Rattle.qm_kinds.specs.declared.request.Request.TheVariants as request
use Rattle.qm_values.specs.declared.items.item.Item.{Item}
use Rattle.qm_values.specs.declared.codes.TheConstants.{CHARACTERISTIC, DEVICE, FILE, KIND, LINES, NAME, NUMBER, QUEUE, STOCK, TARGET, TO_QUEUE}
use Rattle.qm_sjc.specs.declared.fault.Fault.{Fault}
use Rattle.qm_values.specs.declared.holds.Holds.{Holds}
use Rattle.qm_kinds.specs.declared.request_kind.RequestKind.TheVariants as requests
use Rattle.qm_values.specs.declared.function.Function.{Function}
use Rattle.qm_values.specs.declared.function.Function.TheVariants as function
use Rattle.qm_values.specs.declared.looking.Lists.{Lists}
use Rattle.qm_values.specs.Asked.{asked, change_of, entry_change, form_of, has_more, job_of, new_queue, read_in}
use Rattle.qm_sjc.specs.Calls.{at_once, called, judged}
use Rattle.qm_values.specs.Functions.{function_of}
use Rattle.qm_sjc.specs.Judging.{count_in, fault_behind, fault_in, field_in, first_fault, is_repeatable, is_spent, kind_of}
use Rattle.qm_values.specs.Looking.{characteristic_of, characteristics_in, is_given, lists_in, target_of, targets_in, value_in}
use Rattle.qm_sjc.specs.Meant.{items_mean, items_read, meant, or_fault}
use Rattle.qm_values.specs.Values.{definable_name_said, if_passes, job_kind_said, queue_kind_said, reference_said, short_name_said, short_said, small_said}

-- ---- how many items of a code there are

one_or_none : {X : Type 0} (o : Option X) (xs : List X) (n : ℕ) → length xs ≤ n → length (cons_option o xs) ≤ n + 1
one_or_none None xs n few = omega (arith, few)
one_or_none (Some x) xs n few = omega (arith, few)

count_first : (code : ℕ) (item : Item) (items : List Item) → count_in code (item ∷ items) ≡ cond (item.code == code) 1 0 + count_in code items
count_first code item items =
    let whole : count_in code (item ∷ items) ≡ (0 + cond (item.code == code) 1 0) + count_in code items = sum_by-append (λ (x : Item). cond (x.code == code) 1 0) (item ∷ []) items in
    omega (arith, whole)

count_last : (code : ℕ) (item : Item) (before : List Item) → count_in code (before ++ item ∷ []) ≡ count_in code before + cond (item.code == code) 1 0
count_last code item before =
    let whole : count_in code (before ++ item ∷ []) ≡ count_in code before + (0 + cond (item.code == code) 1 0) = sum_by-append (λ (x : Item). cond (x.code == code) 1 0) before (item ∷ []) in
    omega (arith, whole)

-- what is read of items of a code alone is no more than they
module _ {X : Type 0} (code : ℕ) (read : Item → Option X) (each : (item : Item) → (item.code == code) ≡ false → read item ≡ None) where
  read_few : (items : List Item) → length (filter_map read items) ≤ count_in code items
  read_few [] = omega arith
  read_few (item ∷ items) = by (item.code == code) refl (read_few items)
    where
      by : (b : Bool) → (item.code == code) ≡ b → length (filter_map read items) ≤ count_in code items → length (cons_option (read item) (filter_map read items)) ≤ count_in code (item ∷ items)
      by true is rest =
          let first = count_first code item items in
          let one : ◌≡◌ {A = ℕ} (cond (item.code == code) 1 0) 1 = ap (λ (b : Bool). cond b 1 0) is in
          let more = one_or_none (read item) (filter_map read items) (count_in code items) rest in
          omega (arith, first, one, more)
      by false is rest =
          let first = count_first code item items in
          let one : ◌≡◌ {A = ℕ} (cond (item.code == code) 1 0) 0 = ap (λ (b : Bool). cond b 1 0) is in
          let same : length (cons_option (read item) (filter_map read items)) ≡ length (filter_map read items) = ap (λ (o : Option X). length (cons_option o (filter_map read items))) (each item is) in
          omega (arith, first, one, same, rest)

below_most : (n : ℕ) → nat_le 65535 n ≡ false → n + 1 ≤ 65535
below_most n few = grind (arith, nat_tests)

same_code : (a b : ℕ) → (a == b) ≡ true → a ≡ b
same_code a b is = grind (arith, nat_tests)

-- ---- where no item is at fault

no_kind : (made : ParseKind → Fault) (o : Option ParseKind) → option_map made o ≡ None → o ≡ None
no_kind made None is = refl
no_kind made (Some kind) is = cc

not_spent_by : (bad spent : Bool) → cond bad (Some parse.Value) (cond spent (Some parse.Repeated) None) ≡ None → spent ≡ false
not_spent_by true spent is = cc
not_spent_by false true is = cc
not_spent_by false false is = refl

not_spent : (all before : List Item) (item : Item) (field : Option Holds) → kind_of all before item field ≡ None → is_spent before item.code ≡ false
not_spent all before item None is = cc
not_spent all before item (Some form) is = not_spent_by _ _ is

first_none : (a b : Option Fault) → option_or a b ≡ None → a ≡ None
first_none None b is = refl
first_none (Some f) b is = cc

second_none : (a b : Option Fault) → option_or a b ≡ None → b ≡ None
second_none None b is = is
second_none (Some f) b is = cc

module _ (f : Function) (code : ℕ) (again : is_repeatable code ≡ true) (all : List Item) where
  few_before : (before : List Item) (item : Item) → item.code ≡ code → fault_in f all before item ≡ None → nat_le 65535 (count_in code before) ≡ false
  few_before before item same none =
      ap (λ (b : Bool). cond b (nat_le 65535 (count_in code before)) (list_any (λ (x : Item). x.code == code) before)) (sym again)
      ∙ ap (is_spent before) (sym same)
      ∙ not_spent all before item (field_in f item.code) (no_kind _ _ none)

  one_more : (before : List Item) (item : Item) (b : Bool) → (item.code == code) ≡ b → fault_in f all before item ≡ None → count_in code before ≤ 65535
      → count_in code (before ++ item ∷ []) ≤ 65535
  one_more before item true is none few =
      let last = count_last code item before in
      let one : ◌≡◌ {A = ℕ} (cond (item.code == code) 1 0) 1 = ap (λ (b : Bool). cond b 1 0) is in
      let less = below_most (count_in code before) (few_before before item (same_code item.code code is) none) in
      omega (arith, last, one, less)
  one_more before item false is none few =
      let last = count_last code item before in
      let one : ◌≡◌ {A = ℕ} (cond (item.code == code) 1 0) 0 = ap (λ (b : Bool). cond b 1 0) is in
      omega (arith, last, one, few)

  few_behind : (before items : List Item) → fault_behind f all before items ≡ None → count_in code before ≤ 65535 → count_in code (before ++ items) ≤ 65535
  few_behind before [] none few = subst (λ (l : List Item). count_in code l ≤ 65535) (sym (append-nil before)) few
  few_behind before (item ∷ items) none few =
      subst (λ (l : List Item). count_in code l ≤ 65535) (append_assoc before (item ∷ []) items)
      (few_behind (before ++ item ∷ []) items (second_none _ _ none) (one_more before item (item.code == code) refl (first_none _ _ none) few))

few_of : (f : Function) (items : List Item) (code : ℕ) → is_repeatable code ≡ true → first_fault f items ≡ None → count_in code items ≤ 65535
few_of f items code again none = few_behind f code again items [] items none (omega arith)

-- ---- the lists that are given

-- a list whose count has 16 bits
abbrev pub HasFew : {X : Type 0} → List X → Type 0
HasFew xs = length xs < 2 ^ 16

few_named : {X : Type 0} (code : ℕ) (read : Item → Option X) → ((item : Item) → (item.code == code) ≡ false → read item ≡ None) → is_repeatable code ≡ true
    → (f : Function) (items : List Item) → first_fault f items ≡ None → HasFew (filter_map read items)
few_named code read each again f items none = let a = read_few code read each items in let b = few_of f items code again none in omega (arith, a, b)

few_characteristics : (f : Function) (items : List Item) → first_fault f items ≡ None → HasFew (characteristics_in items)
few_characteristics f items none = few_named CHARACTERISTIC characteristic_of (λ item is. ap (λ (b : Bool). cond b (reference_said item.value) None) is) refl f items none

few_targets : (f : Function) (items : List Item) → first_fault f items ≡ None → HasFew (targets_in items)
few_targets f items none = few_named TARGET target_of (λ item is. ap (λ (b : Bool). cond b (short_name_said item.value) None) is) refl f items none

-- no list that is given has more values than its count can say
abbrev pub HasFewIfGiven : {X : Type 0} → Option (List X) → Type 0
HasFewIfGiven given = IfSome given HasFew

if_given : (given : Bool) (xs : List NameOrNumber) → HasFew xs → HasFewIfGiven (cond given (Some xs) None)
if_given true xs few = few
if_given false xs few = tt

or_empty : (given : Option (List NameOrNumber)) → HasFewIfGiven given → HasFew (unwrap_or given [])
or_empty None few = lit< tt
or_empty (Some xs) few = few

-- it holds of each request that item lists can make: what is new has a name that it can have, and no list is too long
pub record OfEach (P : Input → Type 0) : Type 0 where
  pub shows : (query : Query) → P (Show query)
  pub faults : (place : ℕ) (kind : ParseKind) → P (AFault place kind)
  pub appends : (file : FileName) (bytes : List ℕ) → P (Ask (request.Append file bytes))
  pub fills : (file : FileName) (lines : ℕ) → P (Ask (request.Fill file lines))
  pub drops : (file : FileName) → P (Ask (request.Drop file))
  pub defines_form : (form : Form) → is_built (request.DefineForm form) ≡ true → P (Ask (request.DefineForm form))
  pub deletes_form : (name : List ℕ) → P (Ask (request.DeleteForm name))
  pub defines_characteristic : (c : Characteristic) → is_built (request.DefineCharacteristic c) ≡ true → P (Ask (request.DefineCharacteristic c))
  pub deletes_characteristic : (name : List ℕ) → P (Ask (request.DeleteCharacteristic name))
  pub initializes : (new : NewQueue) → is_built (request.InitializeQueue new) ≡ true → HasFew new.targets → HasFewIfGiven new.change.characteristics
      → P (Ask (request.InitializeQueue new))
  pub sets : (name : List ℕ) (change : QueueChange) → HasFewIfGiven change.characteristics → P (Ask (request.SetQueue name change))
  pub starts : (name : List ℕ) (change : QueueChange) → HasFewIfGiven change.characteristics → P (Ask (request.StartQueue name change))
  pub stops : (name : List ℕ) (how : StopMode) → P (Ask (request.StopQueue name how))
  pub aborts : (name : List ℕ) (entry : Option ℕ) (requeue : Bool) → P (Ask (request.AbortJob name entry requeue))
  pub deletes_queue : (name : List ℕ) → P (Ask (request.DeleteQueue name))
  pub merges : (to from : List ℕ) → P (Ask (request.Merge to from))
  pub submits : (job : Job) → HasFew job.characteristics → P (Ask (request.Submit job))
  pub sets_entry : (number : ℕ) (change : EntryChange) → HasFewIfGiven change.characteristics → P (Ask (request.SetEntry number change))
  pub deletes_entry : (number : ℕ) → P (Ask (request.DeleteEntry number))

-- ---- names that can be had

passing : (passes : List ℕ → Bool) (name : List ℕ) (b : Bool) → passes name ≡ b → IfSome (cond b (Some name) None) (λ n. passes n ≡ true)
passing passes name true is = is
passing passes name false is = tt

if_passing : (passes : List ℕ → Bool) (name : Option (List ℕ)) → IfSome (option_and_then (if_passes passes) name) (λ n. passes n ≡ true)
if_passing passes None = tt
if_passing passes (Some name) = passing passes name (passes name) refl

-- the item of a code says a name that passes, if it says one
name_in : (passes : List ℕ → Bool) (value : Option (List ℕ)) → IfSome (option_and_then (λ (v : List ℕ). option_and_then (if_passes passes) (name_of v)) value) (λ n. passes n ≡ true)
name_in passes None = tt
name_in passes (Some value) = if_passing passes (name_of value)

both : (a b : Bool) → a ≡ true → b ≡ true → (a && b) ≡ true
both true b left right = right
both false b left right = left

first_of_both : (a b : Bool) → (a && b) ≡ true → a ≡ true
first_of_both true b h = refl
first_of_both false b h = h

or_short : (name : List ℕ) (given : Option (List ℕ)) → is_short name ≡ true → IfSome given (λ n. is_short n ≡ true) → is_short (unwrap_or given name) ≡ true
or_short name None own short = own
or_short name (Some stock) own short = short

given_short : (device : Option (List ℕ)) → IfSome device (λ n. is_short n ≡ true) → option_map_or is_short device true ≡ true
given_short None short = refl
given_short (Some name) short = short

-- ---- function by function

module _ (P : Input → Type 0) where
  -- what asks for no more than its one part
  one_part : {X : Type 0} (asks : X → Request) (part : Option X) → ((x : X) → P (Ask (asks x))) → IfSome (option_map Ask (option_map asks part)) P
  one_part asks None each = tt
  one_part asks (Some x) each = each x

  -- and of its two parts, of which the first one passes
  two_parts : {X Z : Type 0} (Passes : X → Type 0) (asks : X → Z → Request) (first : Option X) (second : Option Z) → IfSome first Passes → ((x : X) (z : Z) → Passes x → P (Ask (asks x z)))
      → IfSome (option_map Ask (option_and_then (λ (x : X). option_map (asks x) second) first)) P
  two_parts Passes asks None second passes each = tt
  two_parts Passes asks (Some x) None passes each = tt
  two_parts Passes asks (Some x) (Some z) passes each = each x z passes

  -- where more is given than what is to be changed
  if_more : {X : Type 0} (more : Bool) (asks : X → Request) (part : Option X) → ((x : X) → P (Ask (asks x))) → IfSome (option_map Ask (cond more (option_map asks part) None)) P
  if_more true asks part each = one_part asks part each
  if_more false asks part each = tt

-- whatever it is
any : {X : Type 0} (o : Option X) → IfSome o (λ (x : X). Unit {0})
any None = tt
any (Some x) = tt

module _ {P : Input → Type 0} (each : OfEach P) (user : List ℕ) (items : List Item) (lists : Lists) (few : HasFewIfGiven lists.characteristics) (few_of_targets : HasFew lists.targets) where
  of_form : (name : List ℕ) (number : ℕ) → is_definable name ≡ true → P (Ask (request.DefineForm (form_of items name number)))
  of_form name number is = each.defines_form (form_of items name number) (both _ _ is (or_short name (read_in short_name_said STOCK items) (first_of_both _ _ is) (name_in is_short (value_in STOCK items))))

  of_queue : (name : List ℕ) (kind : QueueKind) → is_short name ≡ true → P (Ask (request.InitializeQueue (new_queue items lists name kind)))
  of_queue name kind is = each.initializes (new_queue items lists name kind) (both _ _ is (given_short (read_in short_name_said DEVICE items) (name_in is_short (value_in DEVICE items)))) few_of_targets few

  of_function : (f : Function) → IfSome (asked user f items lists) P
  of_function (function.Request requests.Append) = two_parts P (λ (file : FileName). Unit {0}) request.Append (read_in file_name_of FILE items) lists.bytes (any _) (λ file bytes is. each.appends file bytes)
  of_function (function.Request requests.Fill) = two_parts P (λ (file : FileName). Unit {0}) request.Fill (read_in file_name_of FILE items) (read_in short_said LINES items) (any _) (λ file lines is. each.fills file lines)
  of_function (function.Request requests.Drop) = one_part P request.Drop _ each.drops
  of_function (function.Request requests.DefineForm) =
      two_parts P (λ (name : List ℕ). is_definable name ≡ true) (λ (name : List ℕ) (number : ℕ). request.DefineForm (form_of items name number)) (read_in definable_name_said NAME items)
      (read_in short_said NUMBER items) (name_in is_definable (value_in NAME items)) of_form
  of_function (function.Request requests.DeleteForm) = one_part P request.DeleteForm _ each.deletes_form
  of_function (function.Request requests.DefineCharacteristic) =
      two_parts P (λ (name : List ℕ). is_definable name ≡ true) (λ (name : List ℕ) (number : ℕ). request.DefineCharacteristic (record { name = name; number = number }))
      (read_in definable_name_said NAME items) (read_in small_said NUMBER items) (name_in is_definable (value_in NAME items))
      (λ name number is. each.defines_characteristic (record { name = name; number = number }) is)
  of_function (function.Request requests.DeleteCharacteristic) = one_part P request.DeleteCharacteristic _ each.deletes_characteristic
  of_function (function.Request requests.InitializeQueue) =
      two_parts P (λ (name : List ℕ). is_short name ≡ true) (λ (name : List ℕ) (kind : QueueKind). request.InitializeQueue (new_queue items lists name kind)) (read_in short_name_said QUEUE items)
      (read_in queue_kind_said KIND items) (name_in is_short (value_in QUEUE items)) of_queue
  of_function (function.Request requests.SetQueue) =
      if_more P (has_more items) (λ (name : List ℕ). request.SetQueue name (change_of items lists.characteristics)) _ (λ name. each.sets name (change_of items lists.characteristics) few)
  of_function (function.Request requests.StartQueue) =
      one_part P (λ (name : List ℕ). request.StartQueue name (change_of items lists.characteristics)) _ (λ name. each.starts name (change_of items lists.characteristics) few)
  of_function (function.Request requests.StopQueue) = one_part P _ _ (λ name. each.stops name _)
  of_function (function.Request requests.AbortJob) = one_part P _ _ (λ name. each.aborts name _ _)
  of_function (function.Request requests.DeleteQueue) = one_part P request.DeleteQueue _ each.deletes_queue
  of_function (function.Request requests.Merge) = two_parts P (λ (to : List ℕ). Unit {0}) request.Merge (read_in short_name_said TO_QUEUE items) (read_in short_name_said QUEUE items) (any _) (λ to from is. each.merges to from)
  of_function (function.Request requests.Submit) =
      two_parts P (λ (kind : JobKind). Unit {0}) (λ (kind : JobKind) (file : FileName). request.Submit (job_of user items lists kind file)) (read_in job_kind_said KIND items)
      (read_in file_name_of FILE items) (any _)
      (λ kind file is. each.submits (job_of user items lists kind file) (or_empty lists.characteristics few))
  of_function (function.Request requests.SetEntry) =
      if_more P (has_more items) (λ (number : ℕ). request.SetEntry number (entry_change items lists)) _ (λ number. each.sets_entry number (entry_change items lists) few)
  of_function (function.Request requests.DeleteEntry) = one_part P request.DeleteEntry _ each.deletes_entry
  of_function function.DisplayQueue = each.shows _
  of_function function.DisplayJob = each.shows _
  of_function function.DisplayEntry = each.shows _
  of_function function.DisplayForm = each.shows _
  of_function function.DisplayCharacteristic = each.shows _
  of_function function.DisplayManager = each.shows _
  of_function function.CancelOperation = each.shows _

-- ---- a call

module _ {P : Input → Type 0} (each : OfEach P) (user : List ℕ) where
  or_missing : (o : Option Input) → IfSome o P → P (or_fault (ok_or o (at_once parse.Missing)))
  or_missing None is = each.faults 0 parse.Missing
  or_missing (Some asked) is = is

  of_judged : (f : Function) (items : List Item) (fault : Option Fault) → first_fault f items ≡ fault → P (or_fault (judged user f items fault))
  of_judged f items None none =
      or_missing (asked user f items (lists_in items))
      (of_function each user items (lists_in items) (if_given (is_given CHARACTERISTIC items) (characteristics_in items) (few_characteristics f items none)) (few_targets f items none) f)
  of_judged f items (Some fault) found = each.faults fault.place fault.kind

  of_called : (items : List Item) (f : Option Function) → P (or_fault (called user items f))
  of_called items None = each.faults 0 parse.Form
  of_called items (Some f) = of_judged f items (first_fault f items) refl

  of_meant : (number : ℕ) (read : Result (List Item) Fault) → P (meant number user read)
  of_meant number (Ok items) = of_called items (function_of number)
  of_meant number (Err f) = each.faults f.place f.kind

  pub of_items : (number : ℕ) (bytes : List ℕ) → P (items_mean number bytes user)
  of_items number bytes = of_meant number (items_read bytes)
