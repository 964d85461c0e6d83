-- An entry that is changed: it is found as the moment finds it, and what it becomes takes its place.
use Rattle.std.proofs.Common.{◌≡◌, ◌∙◌, ℕ, ◌==◌, Bool, true, false, cond, not, ◌&&◌, List, [], ◌∷◌, filter, find, map, Option, None, Some, Ok, Err, nat_le, ◌<◌, refl, sym, ap, subst, is_none, IfSome, IsSome, All, nat_cmp}
use Rattle.std.specs.Option.{option_map_or, option_and_then}
use Rattle.std.proofs.lemmas.List.Elements.{All-weaker}
use Rattle.std.proofs.lemmas.Option.{same_Some}
use Rattle.qm_model.specs.Common.{Entry, EntryState, Pending, Holding, Timed, Running, Aborting, Retained, Refusal, EntryIs, EntryChange, System, IsInOrder, is_over, state_at, entry_at, entry_numbered, is_pending, is_waiting, first_refusal, refused_where, replied, refused_form, refused_characteristics}
use Rattle.qm_kinds.specs.declared.refusal.Refusal.TheVariants.{NoSuchEntry, EntryBusy, NotHeld, WrongKind}
use Rattle.qm_kinds.specs.declared.request.Request.TheVariants as request
use Rattle.qm_model.specs.Entries.{refused_queue, is_entry_of_other_kind, entry_change_refusal, set_entry_refusal, changed_entry, entry_set_to, entry_set}
use Rattle.qm_parts.specs.Rooms.{HavePlacesFor}
use Rattle.qm_parts.specs.Tables.{Tables}
use Rattle.qm_parts.proofs.Ordered.{each_found}
use Rattle.qm_image.proofs.Accepting.{waits_at_first}
use Rattle.qm_image.proofs.Found.{found_all}
use Rattle.qm_image.proofs.Numbered.{number_found}
use Rattle.qm_image.proofs.Reached.{NamesItsFile}
use Rattle.qm_rules.proofs.Refusing.{none_first, none_where}
use Rattle.qm_image.specs.declared.image.Image.{Image}
use Rattle.qm_image.specs.declared.prepared.Change.TheVariants.{ReplaceEntry}
use Rattle.qm_image.specs.declared.refused.Refused.TheVariants.{NoMemory}
use Rattle.qm_image.specs.Deciding.{PreparesAt}
use Rattle.qm_image.specs.Image.{system_of}
use Rattle.qm_image.specs.Preparing.{found, IsWaiting, CanReplace}

abbrev numbered : ℕ → Entry → Bool
numbered n e = e.number == n

abbrev stays : ℕ → Entry → Bool
stays now e = not (is_over now e.state)

-- ---- what is found under a number

-- a job that isn't over is there at the moment too
left_at : (n now : ℕ) (e x : Entry) (es : List Entry) (over b : Bool) → is_over now x.state ≡ over → numbered n x ≡ b → is_over now e.state ≡ false → cond b (Some x) (find (numbered n) es) ≡ Some e
    → (find (numbered n) es ≡ Some e → find (numbered n) (map (entry_at now) (filter (stays now) es)) ≡ Some (entry_at now e))
    → find (numbered n) (map (entry_at now) (cond (not over) (x ∷ filter (stays now) es) (filter (stays now) es))) ≡ Some (entry_at now e)
left_at n now e x es true true gone is there found later =
    let same : x ≡ e = same_Some x e found in
    absurd (no (sym gone ∙ ap (λ (y : Entry). is_over now y.state) same ∙ there))
  where
    no : true ≡ false → ⊥
    no h = cc
left_at n now e x es true false gone is there found later = later found
left_at n now e x es false true gone is there found later =
    ap (λ (b : Bool). cond b (Some (entry_at now x)) (find (numbered n) (map (entry_at now) (filter (stays now) es)))) is
    ∙ ap (λ (y : Entry). Some (entry_at now y)) (same_Some x e found)
left_at n now e x es false false gone is there found later =
    ap (λ (b : Bool). cond b (Some (entry_at now x)) (find (numbered n) (map (entry_at now) (filter (stays now) es)))) is ∙ later found

pub entry_left : (n now : ℕ) (e : Entry) (es : List Entry) → is_over now e.state ≡ false → entry_numbered n es ≡ Some e
    → entry_numbered n (map (entry_at now) (filter (λ x. not (is_over now x.state)) es)) ≡ Some (entry_at now e)
entry_left n now e [] there found = absurd cc
entry_left n now e (x ∷ es) there found = left_at n now e x es (is_over now x.state) (numbered n x) refl refl there found (entry_left n now e es there)

-- ---- an entry that nothing refuses to change

is_not_false : (b : Bool) → not b ≡ false → b ≡ true
is_not_false true h = refl
is_not_false false h = cc

-- it waits
waits : (s : System) (change : EntryChange) (e : Entry) → entry_change_refusal s change e ≡ None → is_waiting e.state ≡ true
waits s change e clear =
    let r1 = none_first (refused_where (not (is_waiting e.state)) (EntryBusy e.state)) _ clear in
    is_not_false (is_waiting e.state) (none_where (not (is_waiting e.state)) (EntryBusy e.state) r1.0)

-- so it isn't over at any moment,
pub waiting_is_left : (now : ℕ) (state : EntryState) → is_waiting state ≡ true → is_over now state ≡ false
waiting_is_left now Pending h = refl
waiting_is_left now Holding h = refl
waiting_is_left now (Timed at) h = refl
waiting_is_left now (Running queue node run) h = refl
waiting_is_left now (Aborting queue node run fate) h = refl
waiting_is_left now (Retained status until) h = cc

-- and waits still
waits_still : (now : ℕ) (state : EntryState) → is_waiting state ≡ true → is_waiting (state_at now state) ≡ true
waits_still now Pending h = refl
waits_still now Holding h = refl
waits_still now (Timed at) h = either (nat_le at now)
  where
    either : (b : Bool) → is_waiting (cond b Pending (Timed at)) ≡ true
    either true = refl
    either false = refl
waits_still now (Running queue node run) h = cc
waits_still now (Aborting queue node run fate) h = cc
waits_still now (Retained status until) h = cc

abbrev waits_if : Option Entry → Bool
waits_if o = option_map_or (λ (e : Entry). is_waiting e.state) o false

waiting_at : (n now : ℕ) (es : List Entry) (o : Option Entry) → entry_numbered n es ≡ o → waits_if o ≡ true → IsWaiting n (map (entry_at now) (filter (λ x. not (is_over now x.state)) es))
waiting_at n now es None found waits = absurd (cc)
waiting_at n now es (Some e) found waits = ap waits_if (entry_left n now e es (waiting_is_left now e.state waits) found) ∙ waits_still now e.state waits

pub waiting_found : (n now : ℕ) (es : List Entry) → IsWaiting n es → IsWaiting n (map (entry_at now) (filter (λ x. not (is_over now x.state)) es))
waiting_found n now es waits = waiting_at n now es (entry_numbered n es) refl waits

there_at : (o : Option Entry) → waits_if o ≡ true → IsSome o
there_at None h = cc
there_at (Some e) h = refl

pub waiting_there : (n : ℕ) (es : List Entry) → IsWaiting n es → IsSome (entry_numbered n es)
waiting_there n es waits = there_at (entry_numbered n es) waits

-- each entry of its number is the entry itself
same_entry : (e x : Entry) (es : List Entry) → entry_numbered e.number es ≡ Some e → find (λ (y : Entry). y.number == x.number) es ≡ Some x → x.number ≡ e.number → x ≡ e
same_entry e x es found back same = same_Some x e (sym back ∙ ap (λ (n : ℕ). entry_numbered n es) same ∙ found)

keeps_file : (e : Entry) (es : List Entry) → IsInOrder nat_cmp (λ (x : Entry). x.number) es → entry_numbered e.number es ≡ Some e → All (NamesItsFile e) es
keeps_file e es order found =
    All-weaker (λ (x : Entry). find (λ (y : Entry). y.number == x.number) es ≡ Some x) (NamesItsFile e)
    (λ x back same. ap (λ (y : Entry). y.file) (same_entry e x es found back same)) es (each_found (λ (x : Entry). x.number) es order)

-- what the model makes of it is what becomes of it before the moment
becomes : (s : System) (now number : ℕ) (change : EntryChange) (e : Entry) → entry_numbered number s.entries ≡ Some e → is_over now e.state ≡ false
    → entry_set (found now s) now number change ≡ entry_set_to (found now s) number (changed_entry s now change e)
becomes s now number change e there left =
    let then : System = found now s in
    ap (λ (o : Option Entry). option_map_or (λ x. entry_set_to then number (changed_entry then now change x)) o (replied then (EntryIs number Pending)))
    (entry_left number now e s.entries left there)

replaced : (s : System) (now number : ℕ) (change : EntryChange) (e new : Entry) → entry_numbered number s.entries ≡ Some e → is_over now e.state ≡ false → new ≡ changed_entry s now change e
    → entry_set_to (found now s) new.number new ≡ entry_set (found now s) now number change
replaced s now number change e new there left is =
    ap (λ (x : Entry). entry_set_to (found now s) x.number x) is
    ∙ ap (λ (n : ℕ). entry_set_to (found now s) n (changed_entry s now change e)) (number_found number e s.entries there)
    ∙ sym (becomes s now number change e there left)

decided : (s : System) (number : ℕ) (change : EntryChange) (e : Entry) → entry_numbered number s.entries ≡ Some e → entry_change_refusal s change e ≡ None → set_entry_refusal s number change ≡ None
decided s number change e there clear =
    (λ t. first_refusal (refused_where (is_none (there t)) (NoSuchEntry number) ∷ option_and_then (entry_change_refusal s change) (there t) ∷ []))
    ∙ ap (λ (o : Option Refusal). first_refusal (o ∷ [])) clear

can_replace : (image : Image) (s : System) (now number : ℕ) (change : EntryChange) (e new : Entry) → IsInOrder nat_cmp (λ (x : Entry). x.number) image.parts.entries
    → entry_numbered number image.parts.entries ≡ Some e → is_waiting e.state ≡ true → new ≡ changed_entry s now change e → 0 < image.parts.spare_timers → HavePlacesFor new.home 1 image.parts → CanReplace image new
can_replace image s now number change e new order there waiting is room places =
    let after : Entry = changed_entry s now change e in
    let itself : entry_numbered e.number image.parts.entries ≡ Some e = ap (λ (n : ℕ). entry_numbered n image.parts.entries) (number_found number e image.parts.entries there) ∙ there in
    subst (CanReplace image) (sym is) (record {
      idle = waits_at_first after.held after.after now;
      waits = ap waits_if itself ∙ waiting;
      places = subst (λ (x : Entry). HavePlacesFor x.home 1 image.parts) is places;
      timer = room;
      file = keeps_file e image.parts.entries order itself;
    })

-- what becomes of it can take its place, and is what the model makes of it, where there is room for it and for a timer
pub entry_prepared : (image reserved : Image) (now number : ℕ) (node : List ℕ) (change : EntryChange) (e new : Entry) → IsInOrder nat_cmp (λ (x : Entry). x.number) image.parts.entries
    → entry_numbered number image.parts.entries ≡ Some e → entry_change_refusal (system_of image) change e ≡ None → new ≡ changed_entry (system_of image) now change e
    → system_of reserved ≡ system_of image → reserved.parts ≡ record image.parts { spare_timers = reserved.parts.spare_timers; rooms = reserved.parts.rooms } → 0 < reserved.parts.spare_timers → HavePlacesFor new.home 1 reserved.parts → PreparesAt now node (request.SetEntry number change) image reserved (Ok (ReplaceEntry new))
unfolding system_of
entry_prepared image reserved now number node change e new order there clear is rows same room places =
    let s : System = system_of image in
    record {
      decided = decided s number change e there clear;
      untouched = tt;
      takes = record {
        rows = rows;
        ready =
            can_replace reserved s now number change e new (subst (λ (t : Tables). IsInOrder nat_cmp (λ (x : Entry). x.number) t.entries) (sym same) order)
            (subst (λ (t : Tables). entry_numbered number t.entries ≡ Some e) (sym same) there) (waits s change e clear) is room places;
        made = replaced s now number change e new there (waiting_is_left now e.state (waits s change e clear)) is;
      };
    }

-- and where there is no memory for one, nothing refuses the request
pub entry_unprepared : (image reserved : Image) (now number : ℕ) (node : List ℕ) (change : EntryChange) (e : Entry)
    → entry_numbered number image.parts.entries ≡ Some e → entry_change_refusal (system_of image) change e ≡ None
    → system_of reserved ≡ system_of image → PreparesAt now node (request.SetEntry number change) image reserved (Err NoMemory)
unfolding system_of
entry_unprepared image reserved now number node change e there clear rows = record {
  decided = decided (system_of image) number change e there clear;
  untouched = tt;
  takes = record { rows = rows; ready = tt; made = tt };
}

-- an entry that is replaced is the one whose file is kept
pub file_is_kept : (entry : Entry) (es : List Entry) (o : Option Entry) → entry_numbered entry.number es ≡ o → All (NamesItsFile entry) es → IfSome o (λ e. e.file ≡ entry.file)
file_is_kept entry es None found all = tt
file_is_kept entry es (Some e) found all = found_all (NamesItsFile entry) (numbered entry.number) es e all found (number_found entry.number e es found)

-- ---- the refusals that were found, in the model's order
