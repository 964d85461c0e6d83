-- What a place by name says of queues, for the proofs of the crates above.
use Rattle.std.proofs.Common.{◌≡◌, ℕ, List, get_or, set, sym, bytes_eq}
use Rattle.std.specs.Cmp.Lexicographic.{texts_ties}
use Rattle.qm_model.specs.Common.{Queue, name_cmp, with_queue}
use Rattle.qm_keyed.specs.Places.{StandsAt}
use Rattle.qm_keyed.proofs.Rows.{passes, map_at}
use Rattle.qm_tables.specs.Queues.{Kept}

abbrev pub name_of : Queue → List ℕ
name_of q = q.name

-- a queue that is changed where it stands
pub changed : (queues : List Queue) (name : List ℕ) (i : ℕ) (change : Queue → Queue) (d : Queue) → StandsAt name_cmp name_of name queues i
    → set queues i (change (get_or queues i d)) ≡ with_queue name change queues
changed queues name i change d stands =
    sym (map_at (λ (q : Queue). bytes_eq q.name name) change queues i d (passes name_of name (λ (q : Queue). bytes_eq q.name name) (λ q. texts_ties q.name name) queues i stands))

-- what is seen of queues, by its parts
abbrev pub kept_as : List Queue → ℕ → Kept
kept_as queues spare = record { queues = queues; spare = spare }
