-- Whether a disk failed in turns.
use Rattle.std.proofs.Common.{◌≡◌, ℕ, ◌+◌, ◌-◌, ◌<◌, ◌≤◌, ◌||◌, Bool, true, false, List, [], ◌∷◌, ◌++◌, length, take, drop, get_or, refl, sym, ◌∙◌, ap, arith}
use Rattle.std.proofs.lemmas.List.{take-append-drop, take_all, take_more}
use Rattle.qm_history.specs.declared.event.Event.{Event}
use Rattle.qm_history.specs.declared.turn.Turn.{Turn}
use Rattle.qm_history.specs.Faults.{is_disk_fault, tells_disk_fault}
use Rattle.qm_cluster.specs.Ends.{some_disk_failed}

last_tells : (events : List Event) (last : Event) → tells_disk_fault (events ++ last ∷ []) ≡ is_disk_fault last
last_tells [] last = refl
last_tells (e ∷ []) last = refl
last_tells (e ∷ next ∷ events) last = last_tells (next ∷ events) last

-- what the last event tells
pub last_is : (events : List Event) (last : Event) → 1 ≤ length events → last ≡ get_or events (length events - 1) last → is_disk_fault last ≡ tells_disk_fault events
last_is events last some is =
    let i : ℕ = length events - 1 in
    let whole : take (i + 1) events ≡ events = take_all (i + 1) events (omega (arith, some)) in
    sym (last_tells (take i events) last)
    ∙ ap (λ (e : Event). tells_disk_fault (take i events ++ e ∷ [])) is
    ∙ ap tells_disk_fault (sym (take_more events i last (omega (arith, some))) ∙ whole)

or_behind : (a b c rest : Bool) → rest ≡ (b || c) → (a || rest) ≡ ((a || b) || c)
or_behind true b c rest is = refl
or_behind false b c rest is = is

both_false : (a b : Bool) → a ≡ false → b ≡ false → (a || (b || false)) ≡ false
both_false true b first second = cc
both_false false true first second = cc
both_false false false first second = refl

second_true : (a b : Bool) → b ≡ true → (a || (b || false)) ≡ true
second_true true b second = refl
second_true false true second = refl
second_true false false second = cc

first_true : (a b : Bool) → a ≡ true → (a || b) ≡ true
first_true true b first = refl
first_true false b first = cc

some_append : (a b : List Turn) → some_disk_failed (a ++ b) ≡ some_disk_failed a || some_disk_failed b
some_append [] b = refl
some_append (t ∷ a) b = or_behind (tells_disk_fault t.events) (some_disk_failed a) (some_disk_failed b) (some_disk_failed (a ++ b)) (some_append a b)

pub none_more : (turns : List Turn) (i : ℕ) (t : Turn) → i < length turns → get_or turns i t ≡ t → some_disk_failed (take i turns) ≡ false → tells_disk_fault t.events ≡ false
    → some_disk_failed (take (i + 1) turns) ≡ false
none_more turns i t within at none quiet =
    ap some_disk_failed (take_more turns i t within ∙ ap (λ (x : Turn). take i turns ++ x ∷ []) at)
    ∙ some_append (take i turns) (t ∷ [])
    ∙ both_false (some_disk_failed (take i turns)) (tells_disk_fault t.events) none quiet

pub one_there : (turns : List Turn) (i : ℕ) (t : Turn) → i < length turns → get_or turns i t ≡ t → tells_disk_fault t.events ≡ true → some_disk_failed turns ≡ true
one_there turns i t within at failed =
    let begun : some_disk_failed (take (i + 1) turns) ≡ true =
    ap some_disk_failed (take_more turns i t within ∙ ap (λ (x : Turn). take i turns ++ x ∷ []) at)
    ∙ some_append (take i turns) (t ∷ [])
    ∙ second_true (some_disk_failed (take i turns)) (tells_disk_fault t.events) failed in
    ap some_disk_failed (sym (take-append-drop (i + 1) turns))
    ∙ some_append (take (i + 1) turns) (drop (i + 1) turns)
    ∙ first_true (some_disk_failed (take (i + 1) turns)) (some_disk_failed (drop (i + 1) turns)) begun
