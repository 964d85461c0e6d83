-- What a node gets of its jobs can be carried out.
use Rattle.std.proofs.Common.{ℕ, ◌≤◌, ◌==◌, Bool, true, false, cond, List, [], ◌∷◌, length, map, filter, find, arith, Option, None, Some, All}
use Rattle.std.specs.List.{list_any}
use Rattle.std.specs.Option.{IfSome, option_map_or}
use Rattle.std.proofs.lemmas.List.Elements.{All-cons, All-nil, All-head, All-tail}
use Rattle.qm_model.specs.Common.{Entry, File, Form, FILE_LIMIT, Name, System, is_form, same_file_name, form_wanted, file_named, first_form, is_run_on}
use Rattle.qm_model.specs.Consistent.{HasRoom, IsProperForm, IsConsistent}
use Rattle.qm_model.specs.Duties.{run_number, work_of, duty_of, by_run, duties, form_that_shapes, IsProperWork, HasProperWork}

module _ {X : Type 0} (p : X → Bool) (P : X → Type 0) where
  found_at : (x : X) (xs : List X) (b : Bool) → P x → IfSome (find p xs) P → IfSome (cond b (Some x) (find p xs)) P
  found_at x xs true here later = here
  found_at x xs false here later = later

  -- what holds of each holds of the one that is found
  pub found_of_all : (xs : List X) → All P xs → IfSome (find p xs) P
  found_of_all [] all = tt
  found_of_all (x ∷ xs) all = found_at x xs (p x) (All-head P x xs all) (found_of_all xs (All-tail P x xs all))

room_in : (o : Option Form) → IfSome o IsProperForm → HasRoom (option_map_or (λ f. f.shape) o first_form.shape)
room_in None proper = record { lines = omega arith; columns = omega arith }
room_in (Some form) proper = proper.shape

short_text : (o : Option File) → IfSome o (λ f. length f.bytes ≤ FILE_LIMIT) → length (option_map_or (λ (f : File). f.bytes) o []) ≤ FILE_LIMIT
short_text None short = omega arith
short_text (Some file) short = short

proper_work : (s : System) (e : Entry) → IsConsistent s → IsProperWork (work_of s e)
proper_work s e sound = record {
  shape = room_in (form_wanted (Name (form_that_shapes e.kind e.form)) s.forms) (found_of_all (is_form (Name (form_that_shapes e.kind e.form))) IsProperForm s.forms sound.forms.each);
  text = short_text (file_named e.file s.files) (found_of_all (λ (f : File). same_file_name f.name e.file) (λ (f : File). length f.bytes ≤ FILE_LIMIT) s.files sound.files.each);
}

proper_duty : (s : System) (e : Entry) (b : Bool) → IsConsistent s → IfSome (cond b None (Some (work_of s e))) IsProperWork
proper_duty s e true sound = tt
proper_duty s e false sound = proper_work s e sound

all_proper : (s : System) (known : List ℕ) (es : List Entry) → IsConsistent s → All HasProperWork (map (duty_of s known) es)
all_proper s known [] sound = All-nil HasProperWork
all_proper s known (e ∷ es) sound =
    All-cons HasProperWork (duty_of s known e) (map (duty_of s known) es) (proper_duty s e (list_any (λ run. run == run_number e) known) sound) (all_proper s known es sound)

pub proper_duties : (s : System) (node known : List ℕ) → IsConsistent s → All HasProperWork (duties s node known)
proper_duties s node known sound = all_proper s known (by_run (filter (is_run_on node) s.entries)) sound
