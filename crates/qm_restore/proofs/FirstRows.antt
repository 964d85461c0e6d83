-- The rows of a new site: they can be written, and they have spellings.
use Rattle.std.proofs.Common.{◌≡◌, ◌<◌, ◌^◌, ℕ, List, [], ◌∷◌, length, refl, arith, lit<}
use Rattle.std.specs.List.{All, AllByRecursion}
use Rattle.std.proofs.lemmas.List.Elements.{All-from_recursion, All-same}
use Rattle.std.proofs.lemmas.List.{length-map}
use Rattle.qm_history.specs.Common.{Record, Body, Head, Node, first_name, first_form, first_queue}
use Rattle.qm_kinds.specs.Names.{default_form, batch_queue}
use Rattle.qm_bytes.specs.Spelling.{IsName}
use Rattle.qm_record.specs.Spelling.{HasSpelling, CanBeWritten, BodyFits, NodeFits, FormFits, QueueFits}
use Rattle.qm_restore.specs.Restoring.{named_by}
use Rattle.qm_restore.specs.Site.{names_of, new_rows}

few_names : (nodes : List Node) → length nodes < 2 ^ 16 → length (names_of nodes) < 2 ^ 16
few_names nodes few = omega (arith, length-map nodes (λ (n : Node). n.name))

rows_can_be_written : (nodes : List Node) → length nodes < 2 ^ 16 → All CanBeWritten (new_rows nodes)
rows_can_be_written nodes few = All-from_recursion CanBeWritten (new_rows nodes) (
  record { short = (few, few_names nodes few); row_moment = λ _. refl; row_node = λ _. refl },
  (
    record { short = tt; row_moment = λ _. refl; row_node = λ _. refl },
    (
      record { short = lit< tt; row_moment = λ _. refl; row_node = λ _. refl },
      tt,
    ),
  ),
)

pub rows_lawful : (rows : List Record) (nodes : List Node) → length nodes < 2 ^ 16 → rows ≡ new_rows nodes → All CanBeWritten rows
rows_lawful rows nodes few same = All-same CanBeWritten rows (new_rows nodes) same (rows_can_be_written nodes few)

default_form_is_name : IsName default_form
default_form_is_name = record { some = lit< tt; few = omega arith; lawful = refl }

batch_queue_is_name : IsName batch_queue
batch_queue_is_name = record { some = lit< tt; few = omega arith; lawful = refl }

first_form_fits : FormFits first_form
first_form_fits = record {
  name_fits = default_form_is_name;
  number_fits = lit< tt;
  stock_fits = default_form_is_name;
  shape_fits = record { length_fits = lit< tt; width_fits = lit< tt; top_fits = lit< tt; bottom_fits = lit< tt; left_fits = lit< tt; right_fits = lit< tt };
}

first_queue_fits : (node : List ℕ) → IsName node → QueueFits (first_queue node)
first_queue_fits node name = record {
  name_fits = batch_queue_is_name;
  node_fits = name;
  device_fits = batch_queue_is_name;
  limit_fits = lit< tt;
  characteristics_fit = lit< tt;
  mounted_fits = tt;
  lower_fits = lit< tt;
  upper_fits = lit< tt;
  targets_fit = record { few = lit< tt; each = tt };
}

each_name : (nodes : List Node) → AllByRecursion NodeFits nodes → AllByRecursion IsName (names_of nodes)
each_name [] fit = tt
each_name (node ∷ nodes) fit = (fit.0, each_name nodes fit.1)

first_is_name : (nodes : List Node) → 0 < length nodes → AllByRecursion NodeFits nodes → IsName (first_name (names_of nodes))
first_is_name [] some fit = absurd (omega arith)
first_is_name (node ∷ nodes) some fit = fit.0

-- the rows of a new site whose nodes have names
pub rows_fit : (nodes : List Node) → 0 < length nodes → length nodes < 2 ^ 16 → AllByRecursion NodeFits nodes → AllByRecursion HasSpelling (new_rows nodes)
rows_fit nodes some few fit = (
  record {
    moment_fits = omega arith;
    node_fits = lit< tt;
    body_fits = (record { few = few; each = fit }, record { few = few_names nodes few; each = each_name nodes fit }, lit< tt, lit< tt, omega arith);
    row_moment = λ _. refl;
    row_node = λ _. refl;
  },
  (
    record { moment_fits = omega arith; node_fits = lit< tt; body_fits = first_form_fits; row_moment = λ _. refl; row_node = λ _. refl },
    (
      record { moment_fits = omega arith; node_fits = lit< tt; body_fits = first_queue_fits (first_name (names_of nodes)) (first_is_name nodes some fit); row_moment = λ _. refl; row_node = λ _. refl },
      tt,
    ),
  ),
)

-- the nodes that a spelled head names have names
pub named_fit : (b : Body) → BodyFits b → AllByRecursion NodeFits (named_by b)
named_fit (Head nodes may next_entry next_run last) fits = fits.0.each
named_fit _ fits = tt
