-- What is answered where a disk failed, and where a file has no room.
use Rattle.std.proofs.Common.{◌≡◌, ◌⊎◌, inl, inr, ℕ, ◌+◌, Bool, true, false, List, [], ◌∷◌, refl, ◌∙◌, subst, arith, cond, Option, None, Some, ◌<◌, ◌≤◌, ◌==◌, if◌then◌else◌}
use Rattle.std.specs.List.{AllByRecursion}
use Rattle.std.proofs.lemmas.List.Sums.{sum_by-cons}
use Rattle.qm_history.specs.Common.{Input, MayAnswer, answer_of, events_answer, event_answer, shown_answer, taken_answer, takeover_of, last_moment, answered, is_disk_fault, tells_disk_fault, faults_told, is_journal, after_turn, IsLegalTurn, after_event, Visit, visits}
use Rattle.qm_kinds.specs.declared.input.Input.TheVariants as input
use Rattle.qm_history.specs.declared.call.Answer.{Answer}
use Rattle.qm_history.specs.declared.call.Answer.TheVariants as answer
use Rattle.qm_history.specs.declared.call.Call.{Call}
use Rattle.qm_history.specs.declared.call.Takeover.{Takeover}
use Rattle.qm_history.specs.declared.event.Event.{Event}
use Rattle.qm_history.specs.declared.event.Event.TheVariants as event
use Rattle.qm_history.specs.declared.turn.Turn.{Turn}
use Rattle.qm_history.specs.declared.turn.Why.{Why}
use Rattle.qm_history.specs.declared.turn.Why.TheVariants as why
use Rattle.qm_history.specs.declared.world.World.{World}
use Rattle.qm_history.specs.Room.{Room, Lacks, IsAboveCap, LacksBehind, LacksForOwn, LacksForTakeover, HasRoom, HaveRoom, room_after, failed_by}

shown_no_journal : (w : World) (node : ℕ) (took : Option Takeover) (moment : ℕ) (asked : Input) → is_journal (shown_answer w node took moment asked) ≡ false
shown_no_journal w node took moment (input.Show query) = refl
shown_no_journal w node took moment _ = refl

taken_no_journal : (took : Option Takeover) (moment : ℕ) (name : List ℕ) (epoch : ℕ) (because : Why) → is_journal (taken_answer took moment name epoch because) ≡ false
taken_no_journal took moment name epoch (why.Line line) = refl
taken_no_journal took moment name epoch _ = refl

one_journal : (w : World) (took : Option Takeover) (because : Why) (moment : ℕ) (e : Event) → is_journal (event_answer w took because moment e) ≡ is_disk_fault e
one_journal w took because moment (event.Shown node acted asked) = shown_no_journal w node took moment asked
one_journal w took because moment (event.Took node acted epoch gone up may kept) = taken_no_journal took moment _ epoch because
one_journal w took because moment _ = refl

all_journal : (w : World) (took : Option Takeover) (because : Why) (moment : ℕ) (events : List Event) → is_journal (events_answer w took because moment events) ≡ tells_disk_fault events
all_journal w took because moment [] = refl
all_journal w took because moment (e ∷ []) = one_journal w took because moment e
all_journal w took because moment (e ∷ next ∷ events) = all_journal (after_event w e) took because moment (next ∷ events)

pub turn_journal : (w : World) (t : Turn) → is_journal (answer_of w t) ≡ tells_disk_fault t.events
turn_journal w t = all_journal w (takeover_of w t.events) t.why (last_moment t.moment t.events) t.events

none_told : (b : Bool) (others all : ℕ) → all ≡ cond b 1 0 + others → all ≡ 0 → (b ≡ false) × (others ≡ 0)
none_told true others all is none = absurd (omega (arith, is, none))
none_told false others all is none = (refl, omega (arith, is, none))

pub never_journal : (w : World) (turns : List Turn) → faults_told turns ≡ 0 → AllByRecursion (λ (v : Visit). is_journal (answered v) ≡ false) (visits w turns)
never_journal w [] none = tt
never_journal w (t ∷ turns) none =
    let parts =
    none_told (tells_disk_fault t.events) (faults_told turns) (faults_told (t ∷ turns))
    (sum_by-cons (λ (x : Turn). cond (tells_disk_fault x.events) 1 0) t turns) none in
    (turn_journal w t ∙ parts.0, never_journal (after_turn w t) turns parts.1)

pub answers_legal : (w : World) (asked : Call) (t : Turn) (told : Answer) → MayAnswer w asked t told → IsLegalTurn w t
answers_legal w asked t (answer.NoMemory took) may = (asked, inr may.0)
answers_legal w asked t answer.HistoryFull may = absurd may
answers_legal w asked t _ may = (asked, inl may.0)

-- ---- room

queue_file : (m : Room) (wanted node need cap : ℕ) → Lacks wanted m.cap (event.Full node need cap) → IsAboveCap m.cap (event.Full node need cap)
queue_file m wanted node need cap h = let a : need ≡ wanted = h.0 in let b : cap ≡ m.cap = h.1 in let c : m.cap < wanted = h.2 in (omega (arith, a, b, c), inl b)

master : (m : Room) (wanted node need cap : ℕ) → Lacks wanted 1048576 (event.Full node need cap) → IsAboveCap m.cap (event.Full node need cap)
master m wanted node need cap h = let a : need ≡ wanted = h.0 in let b : cap ≡ 1048576 = h.1 in let c : 1048576 < wanted = h.2 in (omega (arith, a, b, c), inr b)

image_above : (m : Room) (epoch : ℕ) (size node need cap : ℕ) (live : ℕ)
    → Lacks size m.cap (event.Full node need cap) ⊎ ((size ≤ m.cap) × Lacks live 1048576 (event.Full node need cap)) → IsAboveCap m.cap (event.Full node need cap)
image_above m epoch size node need cap live (inl h) = queue_file m size node need cap h
image_above m epoch size node need cap live (inr h) = master m live node need cap h.1

own_above : (w : World) (m : Room) (by reading : ℕ) (asked : Input) (node need cap : ℕ) → LacksForOwn w m by reading asked (event.Full node need cap)
    → IsAboveCap m.cap (event.Full node need cap)
own_above w m by reading input.Compact node need cap h = image_above m w.greatest _ node need cap _ h
own_above w m by reading (input.Ask asked) node need cap h = queue_file m _ node need cap h
own_above w m by reading input.StartNode node need cap h = queue_file m _ node need cap h
own_above w m by reading input.StopNode node need cap h = queue_file m _ node need cap h
own_above w m by reading _ node need cap h = absurd h

takeover_above : (w : World) (m : Room) (by reading : ℕ) (asked : Input) (node need cap : ℕ) → LacksForTakeover w m by reading asked (event.Full node need cap)
    → IsAboveCap m.cap (event.Full node need cap)
takeover_above w m by reading input.Compact node need cap h = image_above m w.greatest _ node need cap _ h.1
takeover_above w m by reading _ node need cap h = queue_file m _ node need cap h

behind_above : (failed : Option Bool) (w : World) (m : Room) (by reading : ℕ) (asked : Input) (node need cap : ℕ)
    → LacksBehind failed w m by reading asked (event.Full node need cap) → IsAboveCap m.cap (event.Full node need cap)
behind_above None w m by reading asked node need cap h = own_above w m by reading asked node need cap h
behind_above (Some false) w m by reading asked node need cap h = master m _ node need cap h
behind_above (Some true) w m by reading asked node need cap h = takeover_above w m by reading asked node need cap h

one_above : (failed : Option Bool) (w : World) (m : Room) (reading : ℕ) (asked : Input) (e : Event) (events : List Event)
    → HasRoom failed w m reading asked e events → IsAboveCap m.cap e
one_above failed w m reading asked (event.Full node need cap) events h = behind_above failed w m node reading asked node need cap h
one_above failed w m reading asked _ events h = tt

same_cap : (m : Room) (master : ℕ) (b : Bool) → (if b then m else record m { master = master }).cap ≡ m.cap
same_cap m master true = refl
same_cap m master false = refl

cap_stays : (w : World) (m : Room) (e : Event) → (room_after w m e).cap ≡ m.cap
cap_stays w m (event.TakeDoubt node tried kept) = same_cap m _ (tried == w.greatest)
cap_stays w m _ = refl

pub all_above : (failed : Option Bool) (w : World) (m : Room) (reading : ℕ) (asked : Input) (events : List Event)
    → HaveRoom failed w m reading asked events → AllByRecursion (IsAboveCap m.cap) events
all_above failed w m reading asked [] h = tt
all_above failed w m reading asked (e ∷ events) h = (
  one_above failed w m reading asked e events h.0,
  subst (λ (cap : ℕ). AllByRecursion (IsAboveCap cap) events) (cap_stays w m e)
      (all_above (failed_by w e) (after_event w e) (room_after w m e) reading asked events h.1),
)
