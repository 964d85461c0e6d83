-- The system of a new site is consistent.
use Rattle.std.proofs.Common.{◌≡◌, ◌<◌, ◌≤◌, ◌^◌, ℕ, true, List, [], ◌∷◌, length, refl, arith, lit<, lit≤, All, bytes_eq}
use Rattle.std.specs.Int.Bits.{and_zero_l}
use Rattle.std.proofs.lemmas.List.Elements.{All-from_recursion}
use Rattle.std.proofs.lemmas.Slice.Eq.{bytes_eq-Decides}
use Rattle.qm_model.specs.Common.{Node, first_system, first_form, first_queue}
use Rattle.qm_model.specs.Consistent.{IsConsistent, AreNodes, IsProperForm, IsQueue, AreDefined}

pub all_of_none : {X : Type 0} (P : X → Type 0) → All P []
all_of_none P = All-from_recursion P [] tt

pub all_of_one : {X : Type 0} (P : X → Type 0) (x : X) → P x → All P (x ∷ [])
all_of_one P x h = All-from_recursion P (x ∷ []) (h, tt)

pub never : (i j n : ℕ) → n ≤ 1 → i < j → j < n → ⊥
never i j n few below within = omega (arith, few, below, within)

pub itself : (name : List ℕ) → bytes_eq name name ≡ true
itself name = (bytes_eq-Decides name name).1 refl

nodes : (node : List ℕ) → length node ≤ 6 → AreNodes (first_system node).nodes
nodes node short = record {
  some = lit< tt;
  few = lit≤ tt;
  short = all_of_one (λ (n : Node). length n.name ≤ 6) _ short;
  distinct = λ i j d below within. absurd (never i j 1 (lit≤ tt) below within);
}

pub form : IsProperForm first_form
form = record {
  number = lit≤ tt;
  name = (lit≤ tt, refl);
  stock = lit≤ tt;
  shape = record { lines = lit< tt; columns = lit< tt };
}

none_defined : AreDefined 0 []
none_defined n set = absurd (set (and_zero_l (2 ^ n)))

queue : (node : List ℕ) → IsQueue (first_system node) (first_queue node)
queue node = record {
  name = lit≤ tt;
  placed = ((0, lit< tt, refl), refl, lit≤ tt, refl, refl);
  mounted = refl;
  characteristics = none_defined;
  limit = lit< tt;
  sizes = (lit< tt, lit≤ tt);
  stopping = λ e. cc;
}

pub first_is_consistent : (node : List ℕ) → length node ≤ 6 → IsConsistent (first_system node)
first_is_consistent node short = record {
  nodes = nodes node short;
  may = rw (itself node) refl;
  forms = record {
    each = all_of_one IsProperForm first_form form;
    order = λ i j d below within. absurd (never i j 1 (lit≤ tt) below within);
    distinct = λ i j d below within. absurd (never i j 1 (lit≤ tt) below within);
    default = (refl, refl);
  };
  characteristics = record { numbers = all_of_none _; names = all_of_none _; order = λ i j d below within. absurd (never i j 0 (lit≤ tt) below within); distinct = λ i j d below within. absurd (never i j 0 (lit≤ tt) below within) };
  files = record { few = lit≤ tt; each = all_of_none _; total = lit≤ tt; order = λ i j d below within. absurd (never i j 0 (lit≤ tt) below within) };
  queues = record {
    few = lit≤ tt;
    each = all_of_one (IsQueue (first_system node)) (first_queue node) (queue node);
    order = λ i j d below within. absurd (never i j 1 (lit≤ tt) below within);
  };
  entries = record { few = lit≤ tt; each = all_of_none _; order = λ i j d below within. absurd (never i j 0 (lit≤ tt) below within); runs = λ i j d below within. absurd (never i j 0 (lit≤ tt) below within) };
  next_entry = lit< tt;
  next_run = (lit< tt, lit≤ tt);
}
