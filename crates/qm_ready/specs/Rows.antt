-- The keys of the jobs that a queue can take, in the order of starts: what callers see, and what the calls make of it.
use Rattle.std.specs.Prelude.{◌≡◌, ◌≢◌, ℕ, ◌+◌, ◌==◌, Bool, true, false, not, ◌&&◌, List, [], ◌∷◌, length, Option, None, Some, find, filter, AllPairs}
use Rattle.std.specs.Option.{option_map, option_map_or}
use Rattle.qm_match.specs.declared.order.Key.{Key}
use Rattle.qm_match.specs.declared.order.Schedule.{Schedule}
use Rattle.qm_match.specs.Keys.{comes_before}
use Rattle.qm_model.specs.Inserting.{inserted}

-- how the queue chooses, the keys, and how many more have room
pub record Row : Type 0 where
  pub schedule : Schedule
  pub keys : List Key
  pub spare : ℕ

-- no two keys have one number
abbrev pub HasNumbersOnce : List Key → Type 0
HasNumbersOnce keys = AllPairs (λ a b. a.number ≢ b.number) keys

-- each key comes before all that stand behind it, and no number stands twice
pub record IsRow (schedule : Schedule) (keys : List Key) : Type 0 where
  pub order : AllPairs (λ a b. comes_before schedule a b ≡ true) keys
  pub once : HasNumbersOnce keys

-- the key of a number, if it is among these
abbrev pub key_numbered : ℕ → List Key → Option Key
key_numbered number keys = find (λ k. k.number == number) keys

-- each number has the same key among both
abbrev pub HaveSameKeys : List Key → List Key → Type 0
HaveSameKeys old new = (number : ℕ) → key_numbered number new ≡ key_numbered number old

-- both have room for as many keys, those that are there among them
abbrev pub HasSameRoom : Row → Row → Type 0
HasSameRoom old new = length new.keys + new.spare ≡ length old.keys + old.spare

-- both are the same key
abbrev pub is_key : Key → Key → Bool
is_key a b = a.priority == b.priority && a.size == b.size && a.number == b.number

-- just this key is among these
abbrev pub has_key : Key → List Key → Bool
has_key key keys = option_map_or (is_key key) (key_numbered key.number keys) false

-- one key more, in front of the first that it comes before
abbrev pub with_key : Schedule → Key → List Key → List Key
with_key schedule key keys = inserted (comes_before schedule) key keys

-- the keys but that of a number
abbrev pub without : ℕ → List Key → List Key
without number keys = filter (λ k. not (k.number == number)) keys

-- the key in front
abbrev pub first_key : List Key → Option Key
first_key [] = None
first_key (k ∷ keys) = Some k

-- its number: that of the job which starts first
abbrev pub first_number : List Key → Option ℕ
first_number keys = option_map (λ k. k.number) (first_key keys)
