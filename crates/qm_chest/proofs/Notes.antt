-- What a chest stands for behind one note more.
use Rattle.std.proofs.Common.{◌≡◌, inl, inr, ⊎_elim, ℕ, ◌+◌, ◌-◌, ◌^◌, Bool, true, false, cond, List, [], ◌∷◌, ◌++◌, refl, sym, ◌∙◌, ap, subst, arith, Option, None, Some, ◌&&◌, min, count_by, option_to_list, is_some, option_map}
use Rattle.std.specs.List.{AllByRecursion}
use Rattle.std.proofs.lemmas.List.Elements.{filter_map-append}
use Rattle.std.proofs.lemmas.List.Sums.{sum_by_push}
use Rattle.qm_history.specs.Common.{CrashState, Meaning, TellsFaults, Record, HoldIn, HoldWithin, HoldWorld, Keeps, is_journal, tells_disk_fault, after_turn, after_turns, system_in}
use Rattle.qm_acting.specs.Standing.{standing_of}
use Rattle.qm_store.specs.Recorded.{Recorded}
use Rattle.qm_history.specs.declared.call.Answer.{Answer}
use Rattle.qm_history.specs.declared.call.Answer.TheVariants as answer
use Rattle.qm_history.specs.declared.turn.Turn.{Turn}
use Rattle.qm_history.specs.declared.world.Role.{Role}
use Rattle.qm_history.specs.declared.world.World.{World}
use Rattle.qm_history.specs.Chest.{AreNoted, AreRoomTold, IsNoted, IsNotedInRoom, MayLeaveNone, Note, TellsWorld, hides_events, image_in, turns_noted}
use Rattle.qm_history.specs.Leaving.{MayBeLeft, MayBeLeftBehind, MayBeLeftIn}
use Rattle.qm_history.specs.Room.{AreAboveCap, IsAboveCap, Room, UnlessFailed, room_after_events}
use Rattle.qm_chest.specs.At.{IsStateAt}
use Rattle.qm_chest.specs.Work.{IsWorkAt, work_disk}
use Rattle.qm_chest.specs.Holding.{IsFound}
use Rattle.qm_chest.specs.Noting.{AreQuiet, chest_told, doubts_at, image_at, role_at, room_behind}
use Rattle.qm_chest.specs.declared.chest.Chest.{Chest}
use Rattle.qm_chest.specs.declared.work.Work.{Work}
use Rattle.qm_chest.specs.declared.work.Work.TheVariants.{Up, Down}
use Rattle.qm_chest.specs.declared.place.Place.{Place}
use Rattle.qm_chest.proofs.Holding.{SiteFilesAreAccepted, epoch_of_none, holds_world}
use Rattle.qm_chest.proofs.Steps.{epoch_of_role}
use Rattle.qm_chest.proofs.Whole.{work_crash}

-- ---- what is kept in memory is the world's

found_tells : (doubt : Option Record) (place : Option Place) (before log : List Record) (r : Recorded) → IsFound doubt place before log r → is_some place ≡ is_some doubt
found_tells None None before log r found = refl
found_tells None (Some place) before log r found = absurd found
found_tells (Some d) None before log r found = absurd found
found_tells (Some d) (Some place) before log r found = refl

module _ {D : Type 0} (m : Meaning D) (cap : ℕ) (w : World) where
  role_told : (work : Work D) → IsWorkAt m cap w work → role_at work ≡ w.manager
  role_told (Up manager node) up = ap (λ (epoch : ℕ). Some (record { node = node; epoch = epoch })) up.epoch ∙ sym up.role
  role_told (Down files place) down = sym down.none

  image_told : (work : Work D) → IsWorkAt m cap w work → image_at work ≡ image_in w
  image_told (Up manager node) up = ap Some up.system ∙ sym (ap (option_map (λ (role : Role). system_in w)) up.role)
  image_told (Down files place) down = sym (ap (option_map (λ (role : Role). system_in w)) down.none)

  doubt_told : (work : Work D) → IsWorkAt m cap w work → doubts_at work ≡ is_some w.doubt
  doubt_told (Up manager node) up = sym (ap is_some up.sure)
  doubt_told (Down files place) down =
      let reads = down.holds.reads in found_tells w.doubt place w.log reads.is.log reads.recorded reads.is.found

  pub world_told : (chest : Chest D) (failed : ℕ) → IsStateAt m cap w chest.state → TellsWorld w (chest_told chest failed)
  world_told chest failed at = record {
    manager = role_told chest.state.work at.work;
    image = image_told chest.state.work at.work;
    greatest = at.members.greatest;
    doubt = doubt_told chest.state.work at.work;
    live = at.members.live;
    held = at.members.held;
  }

  -- ---- and so is what the disks hold

  module _ (accepted : SiteFilesAreAccepted) where
    work_world : (work : Work D) → IsWorkAt m cap w work → HoldWorld (m.seen (work_disk work)) w
    work_world (Up manager node) up =
        holds_world accepted cap w None (m.seen (work_disk (Up manager node))) (standing_of manager).recorded up.at_rest.holds up.may
        (epoch_of_role w (standing_of manager).recorded.says.epoch w.manager (record { node = node; epoch = w.greatest }) up.role up.epoch)
    work_world (Down files place) down =
        let some = down.holds.reads in
        holds_world accepted cap w place (m.seen (work_disk (Down files place))) some.recorded some.holds some.is (epoch_of_none w some.recorded.says.epoch w.manager down.none some.is.epoch)

    pub work_keeps : (work : Work D) → IsWorkAt m cap w work → Keeps m w (work_disk work)
    work_keeps work at = record { reads = work_world work at; crash = λ crashed left. work_crash accepted m cap w work at crashed left }

-- ---- one note more

skipped : (n : Note) → n.turn ≡ None → turns_noted (n ∷ []) ≡ []
skipped n none = grind (arith, none)

kept : (n : Note) (t : Turn) → n.turn ≡ Some t → turns_noted (n ∷ []) ≡ t ∷ []
kept n t some = grind (arith, some)

single : (n : Note) (turn : Option Turn) → n.turn ≡ turn → turns_noted (n ∷ []) ≡ option_to_list turn
single n None is = skipped n is
single n (Some t) is = kept n t is

pub noted_with : (notes : List Note) (n : Note) → turns_noted (notes ++ n ∷ []) ≡ turns_noted notes ++ option_to_list n.turn
noted_with notes n = filter_map-append (λ (k : Note). k.turn) notes (n ∷ []) ∙ ap (λ (l : List Turn). turns_noted notes ++ l) (single n n.turn refl)

first_skipped : (n : Note) (notes : List Note) → n.turn ≡ None → turns_noted (n ∷ notes) ≡ turns_noted notes
first_skipped n notes none = grind (arith, none)

first_kept : (n : Note) (notes : List Note) (t : Turn) → n.turn ≡ Some t → turns_noted (n ∷ notes) ≡ t ∷ turns_noted notes
first_kept n notes t some = grind (arith, some)

-- each noted turn is one of its call
abbrev pub IsNotedLast : World → Note → Type 0
IsNotedLast w n = IsNoted w n.asked n.turn (λ after. Unit {0})

module _ (last : Note) where
  noted_on : (k : Note) (notes : List Note) (w : World) (turn : Option Turn) → k.turn ≡ turn
      → ((v : World) → AreNoted v notes → IsNotedLast (after_turns v (turns_noted notes)) last → AreNoted v (notes ++ last ∷ []))
      → IsNoted w k.asked turn (λ after. AreNoted after notes) → IsNotedLast (after_turns w (turns_noted (k ∷ notes))) last
      → IsNoted w k.asked turn (λ after. AreNoted after (notes ++ last ∷ []))
  noted_on k notes w None is rest h there = rest w h (subst (λ (turns : List Turn). IsNotedLast (after_turns w turns) last) (first_skipped k notes is) there)
  noted_on k notes w (Some t) is rest h there =
      (h.0, rest (after_turn w t) h.1 (subst (λ (turns : List Turn). IsNotedLast (after_turns w turns) last) (first_kept k notes t is) there))

  pub noted_more : (notes : List Note) (w : World) → AreNoted w notes → IsNotedLast (after_turns w (turns_noted notes)) last → AreNoted w (notes ++ last ∷ [])
  noted_more [] w h there = there
  noted_more (k ∷ notes) w h there = noted_on k notes w k.turn refl (λ v so this. noted_more notes v so this) h there

-- what is told of room
abbrev pub IsInRoomLast : World → Room → Note → Type 0
IsInRoomLast w room n = IsNotedInRoom w room n.asked n.turn (λ after then. Unit {0})

abbrev pub LastFits : World → Room → List Turn → Note → Type 0
LastFits w room turns last = AreQuiet turns → IsInRoomLast (after_turns w turns) (room_behind w room turns) last

unless_more : (failed : Bool) (A B : Type 0) → (failed ≡ false → A → B) → UnlessFailed failed A → UnlessFailed failed B
unless_more true A B goes h = h
unless_more false A B goes h = goes refl h

module _ (last : Note) where
  room_on : (k : Note) (notes : List Note) (w : World) (room : Room) (turn : Option Turn) → k.turn ≡ turn
      → ((v : World) (then : Room) → AreRoomTold v then notes → LastFits v then (turns_noted notes) last → AreRoomTold v then (notes ++ last ∷ []))
      → IsNotedInRoom w room k.asked turn (λ after then. AreRoomTold after then notes) → LastFits w room (turns_noted (k ∷ notes)) last
      → IsNotedInRoom w room k.asked turn (λ after then. AreRoomTold after then (notes ++ last ∷ []))
  room_on k notes w room None is rest h there = rest w room h (subst (λ (turns : List Turn). LastFits w room turns last) (first_skipped k notes is) there)
  room_on k notes w room (Some t) is rest h there =
      let fits : LastFits w room (t ∷ turns_noted notes) last = subst (λ (turns : List Turn). LastFits w room turns last) (first_kept k notes t is) there in
      let after : World = after_turn w t in
      let then : Room = room_after_events w room t.events in (
        h.0,
        unless_more (tells_disk_fault t.events) (AreRoomTold after then notes) (AreRoomTold after then (notes ++ last ∷ []))
            (λ quiet told. rest after then told (λ others. fits (quiet, others))) h.1,
      )

  room_last : (w : World) (room : Room) (turn : Option Turn) → IsNotedInRoom w room last.asked turn (λ after then. Unit {0})
      → IsNotedInRoom w room last.asked turn (λ after then. AreRoomTold after then [])
  room_last w room None h = tt
  room_last w room (Some t) h = h

  pub room_more : (notes : List Note) (w : World) (room : Room) → AreRoomTold w room notes → LastFits w room (turns_noted notes) last → AreRoomTold w room (notes ++ last ∷ [])
  room_more [] w room h there = room_last w room last.turn (there tt)
  room_more (k ∷ notes) w room h there = room_on k notes w room k.turn refl (λ v then so this. room_more notes v then so this) h there

-- ---- one turn more

pub quiet_more : (turns : List Turn) (t : Turn) → AreQuiet (turns ++ t ∷ []) → AreQuiet turns × (tells_disk_fault t.events ≡ false)
quiet_more [] t h = (tt, h.0)
quiet_more (s ∷ turns) t h = let rest = quiet_more turns t h.1 in ((h.0, rest.0), rest.1)

pub reach_more : (w : World) (room : Room) (turns : List Turn) (t : Turn) → room_behind w room (turns ++ t ∷ []) ≡ room_after_events (after_turns w turns) (room_behind w room turns) t.events
reach_more w room [] t = refl
reach_more w room (s ∷ turns) t = reach_more (after_turn w s) (room_after_events w room s.events) turns t

pub above_more : (cap : ℕ) (turns : List Turn) (t : Turn) → AreAboveCap cap turns → AllByRecursion (IsAboveCap cap) t.events → AreAboveCap cap (turns ++ t ∷ [])
above_more cap [] t all one = (one, tt)
above_more cap (s ∷ turns) t all one = (all.0, above_more cap turns t all.1 one)

left_longer : (w : World) (turns : List Turn) (t : Turn) (log : List Record) → MayBeLeftIn w turns log → MayBeLeftIn w (turns ++ t ∷ []) log
left_longer w [] t log left = inl (⊎_elim (λ a. inl a) (λ b. inr (inl b)) left)
left_longer w (s ∷ turns) t log left = ⊎_elim (λ a. inl a) (λ b. inr (left_longer (after_turn w s) turns t log b)) left

left_last : (w : World) (turns : List Turn) (t : Turn) (log : List Record) → MayBeLeft (after_turns w turns) t log → MayBeLeftIn w (turns ++ t ∷ []) log
left_last w [] t log left = inl left
left_last w (s ∷ turns) t log left = inr (left_last (after_turn w s) turns t log left)

left_behind : (w : World) (turns : List Turn) (log : List Record) → MayBeLeftBehind (after_turns w turns) log → MayBeLeftIn w turns log
left_behind w [] log left = left
left_behind w (s ∷ turns) log left = inr (left_behind (after_turn w s) turns log left)

abbrev pub HoldsIn : World → List Turn → CrashState → Type 0
HoldsIn w turns crashed = HoldIn crashed w turns

pub in_longer : (w : World) (turns : List Turn) (t : Turn) (crashed : CrashState) → HoldsIn w turns crashed → HoldsIn w (turns ++ t ∷ []) crashed
in_longer w turns t crashed h = record { log = h.log; left = left_longer w turns t h.log h.left; holds = h.holds }

pub in_last : (w : World) (turns : List Turn) (t : Turn) (crashed : CrashState) → HoldWithin crashed (after_turns w turns) t → HoldsIn w (turns ++ t ∷ []) crashed
in_last w turns t crashed h = record { log = h.log; left = left_last w turns t h.log h.left; holds = h.holds }

pub in_behind : (w : World) (turns : List Turn) (crashed : CrashState) → HoldWorld crashed (after_turns w turns) → HoldsIn w turns crashed
in_behind w turns crashed h = record { log = h.log; left = left_behind w turns h.log h.left; holds = h.holds }

-- ---- how many disks failed

pub count_more : {X : Type 0} (p : X → Bool) (xs : List X) (x : X) → count_by p (xs ++ x ∷ []) ≡ count_by p xs + cond (p x) 1 0
count_more p xs x = sum_by_push (λ y. cond (p y) 1 0) xs x

module _ {D : Type 0} (m : Meaning D) (old new : D) (began failed : ℕ) where
  pub failed_count : (journal : Bool) → TellsFaults m old new (journal ≡ true) → m.faults old ≡ min (began + failed) (2 ^ 64 - 1) → m.faults new ≡ min (began + cond journal (failed + 1) failed) (2 ^ 64 - 1)
  failed_count true tells is = let one = tells.fault refl in omega (arith, one, is)
  failed_count false tells is = tells.quiet (λ no. cc) ∙ is

-- of a turn a fault is told, or noted as one that wasn't
pub told_or_noted : (fault hides journal : Bool) → (hides ≡ false → journal ≡ fault) → (hides ≡ true → journal ≡ false) → cond fault 1 0 ≡ cond journal 1 0 + cond (fault && hides) 1 0
told_or_noted true true true says quiet = let no : true ≡ false = quiet refl in cc
told_or_noted true true false says quiet = refl
told_or_noted true false true says quiet = refl
told_or_noted true false false says quiet = let no : false ≡ true = says refl in cc
told_or_noted false true true says quiet = let no : true ≡ false = quiet refl in cc
told_or_noted false true false says quiet = refl
told_or_noted false false true says quiet = let no : true ≡ false = says refl in cc
told_or_noted false false false says quiet = refl

pub hidden_quiet : (told : Answer) → hides_events told ≡ true → is_journal told ≡ false
hidden_quiet (answer.NoMemory took) hides = refl
hidden_quiet (answer.Damaged file place) hides = refl
hidden_quiet (answer.Done took moment reply) hides = refl
hidden_quiet (answer.Shown took moment rows) hides = refl
hidden_quiet (answer.Duties took moment duties) hides = refl
hidden_quiet (answer.Refused took refusal) hides = refl
hidden_quiet (answer.Full took need cap) hides = refl
hidden_quiet (answer.Journal took live) hides = cc
hidden_quiet (answer.Fenced held current) hides = refl
hidden_quiet (answer.NoManager took name) hides = refl
hidden_quiet answer.HistoryFull hides = refl

pub none_quiet : (turns : List Turn) (told : Answer) → MayLeaveNone turns told → is_journal told ≡ false
none_quiet turns told why = ⊎_elim (λ full. ap is_journal full.0) (λ short. ap is_journal short) why
