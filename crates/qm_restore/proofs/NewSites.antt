-- The system of a new site is consistent.
use Rattle.std.proofs.Common.{◌≡◌, ◌<◌, ◌≤◌, ◌^◌, ℕ, Bool, true, false, List, [], ◌∷◌, length, map, get_or, refl, sym, ap, arith, lit<, lit≤, All, filter, bytes_eq}
use Rattle.std.specs.List.{AllByRecursion, list_any}
use Rattle.std.specs.Int.Bits.{and_zero_l}
use Rattle.std.proofs.lemmas.List.Elements.{All-from_recursion, recursion_from_All}
use Rattle.std.proofs.lemmas.List.Folds.{list_any_at}
use Rattle.std.proofs.lemmas.Slice.Eq.{bytes_eq-Decides}
use Rattle.qm_history.specs.Common.{first_name, site_of, Node, System, first_form, first_queue}
use Rattle.qm_model.specs.Consistent.{IsConsistent, AreNodes, IsProperForm, IsQueue, AreDefined}
use Rattle.qm_restore.specs.Site.{names_of, new_system}

all_of_none : {X : Type 0} (P : X → Type 0) → All P []
all_of_none P = All-from_recursion P [] tt

all_of_one : {X : Type 0} (P : X → Type 0) (x : X) → P x → All P (x ∷ [])
all_of_one P x h = All-from_recursion P (x ∷ []) (h, tt)

never : (i j n : ℕ) → n ≤ 1 → i < j → j < n → ⊥
never i j n few below within = omega (arith, few, below, within)

itself : (name : List ℕ) → bytes_eq name name ≡ true
itself name = (bytes_eq-Decides name name).1 refl

form : IsProperForm first_form
form = record {
  number = lit≤ tt;
  name = (lit≤ tt, refl);
  stock = lit≤ tt;
  shape = record { lines = lit< tt; columns = lit< tt };
}

none_defined : AreDefined 0 []
none_defined n set = absurd (set (and_zero_l (2 ^ n)))

queue : (nodes : List Node) → 0 < length nodes → IsQueue (new_system nodes) (first_queue (first_name (names_of nodes)))
queue [] some = absurd (omega arith)
queue (node ∷ nodes) some = record {
  name = lit≤ tt;
  placed = ((0, omega arith, refl), refl, lit≤ tt, refl, refl);
  mounted = refl;
  characteristics = none_defined;
  limit = lit< tt;
  sizes = (lit< tt, lit≤ tt);
  stopping = λ e. cc;
}

all_pass : {X : Type 0} (p : X → Bool) (xs : List X) → AllByRecursion (λ x. p x ≡ true) xs → filter p xs ≡ xs
all_pass p [] h = refl
all_pass p (x ∷ xs) h = rw h.0 (ap (λ l. x ∷ l) (all_pass p xs h.1))

-- each of the names is among them
each_among : (names : List (List ℕ)) → filter (λ (name : List ℕ). list_any (bytes_eq name) names) names ≡ names
each_among names = all_pass (λ (name : List ℕ). list_any (bytes_eq name) names) names
    (recursion_from_All (λ (name : List ℕ). list_any (bytes_eq name) names ≡ true) names (λ k d within. list_any_at (bytes_eq (get_or names k d)) names k d within (itself (get_or names k d))))

pub new_is_consistent : (nodes : List Node) → AreNodes nodes → IsConsistent (new_system nodes)
new_is_consistent nodes proper = record {
  nodes = proper;
  may = sym (each_among (names_of nodes));
  forms = record {
    each = all_of_one IsProperForm first_form form;
    order = λ i j d below within. absurd (never i j 1 (lit≤ tt) below within);
    distinct = λ i j d below within. absurd (never i j 1 (lit≤ tt) below within);
    default = (refl, refl);
  };
  characteristics = record { numbers = all_of_none _; names = all_of_none _; order = λ i j d below within. absurd (never i j 0 (lit≤ tt) below within); distinct = λ i j d below within. absurd (never i j 0 (lit≤ tt) below within) };
  files = record { few = lit≤ tt; each = all_of_none _; total = lit≤ tt; order = λ i j d below within. absurd (never i j 0 (lit≤ tt) below within) };
  queues = record {
    few = lit≤ tt;
    each = all_of_one (IsQueue (new_system nodes)) (first_queue (first_name (names_of nodes))) (queue nodes proper.some);
    order = λ i j d below within. absurd (never i j 1 (lit≤ tt) below within);
  };
  entries = record { few = lit≤ tt; each = all_of_none _; order = λ i j d below within. absurd (never i j 0 (lit≤ tt) below within); runs = λ i j d below within. absurd (never i j 0 (lit≤ tt) below within) };
  next_entry = lit< tt;
  next_run = (lit< tt, lit≤ tt);
}

-- a node of this name that is down
abbrev down : List ℕ → Node
down name = record { name = name; up = false }

names_down : (names : List (List ℕ)) → names_of (map down names) ≡ names
names_down [] = refl
names_down (name ∷ names) = ap (λ (l : List (List ℕ)). name ∷ l) (names_down names)

-- a new site whose nodes have these names
abbrev named_site : List Node → List (List ℕ) → System
named_site nodes names = record (new_system nodes) { may = names; queues = first_queue (first_name names) ∷ [] }

pub new_of_names : (names : List (List ℕ)) → new_system (map (λ (name : List ℕ). record { name = name; up = false }) names) ≡ site_of names
new_of_names names = ap (named_site (map down names)) (names_down names)
