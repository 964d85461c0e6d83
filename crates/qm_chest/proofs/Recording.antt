-- A request whose record is written, has no room, or is in doubt: what comes of it, and what the files then hold.
use Rattle.std.proofs.Common.{◌≡◌, ◌⊎◌, inl, inr, ℕ, ◌+◌, ◌-◌, ◌^◌, ◌<◌, ◌≤◌, Bool, true, false, List, [], ◌∷◌, ◌++◌, length, take, refl, sym, ◌∙◌, ap, subst, arith, Option, None, Some, IsSome, max, length-append}
use Rattle.std.specs.List.{cons_option}
use Rattle.qm_disk.specs.Disk.{CrashState, Meaning, IsLeft, LeavesOnly}
use Rattle.qm_disk.proofs.Moments.{weaker, holds_now}
use Rattle.qm_history.specs.Common.{need_of, size_of, Input, Record, Reply, Request, acting, applied, system_of, request_record, record_text, CanFollow, record_of, CanBeInDoubt, IsReply, after_event, system_in, log_read}
use Rattle.qm_kinds.specs.declared.input.Input.TheVariants as input
use Rattle.qm_store.specs.Recorded.{Recorded, Holds, HoldsEither, with_body}
use Rattle.qm_restore.specs.QueueFile.{IsSiteFile}
use Rattle.qm_history.specs.declared.event.Event.{Event}
use Rattle.qm_history.specs.declared.event.Event.TheVariants as event
use Rattle.qm_history.specs.declared.world.World.{World}
use Rattle.qm_history.specs.Happening.{told_of_doubt}
use Rattle.qm_history.specs.Room.{Room, HasRoomInDoubt, LacksForOwn, LacksForRecord, Lacks, own_request, record_need, room_after}
use Rattle.qm_chest.specs.Holding.{IsFound, MayHold, SomeHold, AllHold}
use Rattle.qm_chest.specs.Parts.{HoldsWithin, Part}
use Rattle.qm_chest.proofs.Holding.{SiteFilesAreAccepted, room_of, grows, room_is, holds_log}

-- ---- room

-- how many bytes a record more takes
pub one_larger : (bodies : List (List ℕ)) (body : List ℕ) → size_of (bodies ++ body ∷ []) ≡ size_of bodies + (5 + length body)
one_larger [] body = omega arith
one_larger (b ∷ bodies) body =
    let more = one_larger bodies body in
    omega (arith, more)

-- a need that is within a cap below the end of its type is the whole need
pub whole_need : (bodies : List (List ℕ)) (body : List ℕ) (cap : ℕ) → cap < 2 ^ 64 - 1 → need_of bodies body ≤ cap → size_of bodies + (5 + length body) + 1 ≤ cap
whole_need bodies body cap small within = omega (arith, small, within)

-- what a call's own request lacks, and what has room in doubt
pub lacks_own : (w : World) (room : Room) (node reading : ℕ) (asked : Input) (request : Request) (e : Event) → own_request w node asked ≡ Some request
    → Lacks (record_need room (request_record (acting reading (system_in w)) node request)) room.cap e → LacksForOwn w room node reading asked e
lacks_own w room node reading input.Compact request e is h = cc
lacks_own w room node reading (input.Ask asked) request e is h = subst (λ (o : Option Request). LacksForRecord w room node reading o e) (sym is) h
lacks_own w room node reading input.StartNode request e is h = subst (λ (o : Option Request). LacksForRecord w room node reading o e) (sym is) h
lacks_own w room node reading input.StopNode request e is h = subst (λ (o : Option Request). LacksForRecord w room node reading o e) (sym is) h
lacks_own w room node reading (input.Show query) request e is h = cc
lacks_own w room node reading (input.Fetch known) request e is h = cc
lacks_own w room node reading (input.TakeManager on) request e is h = cc
lacks_own w room node reading (input.Fault place kind) request e is h = cc

pub room_in_doubt : (w : World) (room : Room) (node : ℕ) (asked : Input) (request : Request) (r : Record) → own_request w node asked ≡ Some request → record_need room r ≤ room.cap
    → HasRoomInDoubt w room asked r
room_in_doubt w room node input.Compact request r is h = cc
room_in_doubt w room node (input.Ask asked) request r is h = h
room_in_doubt w room node input.StartNode request r is h = h
room_in_doubt w room node input.StopNode request r is h = h
room_in_doubt w room node (input.Show query) request r is h = cc
room_in_doubt w room node (input.Fetch known) request r is h = cc
room_in_doubt w room node (input.TakeManager on) request r is h = cc
room_in_doubt w room node (input.Fault place kind) request r is h = cc

-- ---- a record that is written, while nothing is in doubt

pub found_sure : (before log : List Record) (r : Recorded) (doubt : Option Record) → doubt ≡ None → IsFound doubt None before log r → log ≡ before
found_sure before log r None none found = found
found_sure before log r (Some d) none found = absurd found

found_none : (doubt : Option Record) → doubt ≡ None → (log : List Record) (r : Recorded) → IsFound doubt None log log r
found_none None none log r = refl
found_none (Some d) none log r = cc

-- one record is the first one of those that an event writes
written_one : (w : World) (e : Event) (r : Record) → record_of e ≡ Some r → told_of_doubt e ≡ None → w.log ++ r ∷ [] ≡ log_read w (told_of_doubt e) ++ take 1 (cons_option (record_of e) [])
written_one w e r writes plain =
    ap (λ (o : Option Record). w.log ++ take 1 (cons_option o [])) (sym writes) ∙ ap (λ (told : Option Bool). log_read w told ++ take 1 (cons_option (record_of e) [])) (sym plain)

module _ (accepted : SiteFilesAreAccepted) {D : Type 0} (m : Meaning D) (cap : ℕ) (w : World) (node moment : ℕ) (request : Request) (r : Recorded) (sure : w.doubt ≡ None) (may : MayHold cap w None r)
    (grown : IsSiteFile (r.bodies ++ record_text (request_record moment node request) ∷ []) (system_of (w.log ++ request_record moment node request ∷ [])))
    (within : size_of r.bodies + (5 + length (record_text (request_record moment node request))) + 1 ≤ cap)
  where
    abbrev rec : Record
    rec = request_record moment node request

    abbrev more : Recorded
    more = with_body r (record_text rec)

    log_is : may.log ≡ w.log
    log_is = found_sure w.log may.log r w.doubt sure may.found

    site_is : IsSiteFile r.bodies (system_of w.log)
    site_is = subst (λ (log : List Record). IsSiteFile r.bodies (system_of log)) log_is may.site

    more_fits : size_of more.bodies ≤ max cap (2 ^ 62)
    more_fits = let larger = one_larger r.bodies (record_text rec) in omega (arith, larger, within)

    -- what a crash leaves within an event that writes this record
    within_write : (e : Event) → record_of e ≡ Some rec → told_of_doubt e ≡ None → (files : CrashState) → (Holds files r ⊎ Holds files more) → HoldsWithin w (e ∷ []) files
    within_write e writes plain files (inl old) = record { log = w.log; left = inl refl; holds = holds_log accepted files r w.log old site_is; recorded = may.recorded }
    within_write e writes plain files (inr new) = record {
      log = w.log ++ rec ∷ [];
      left = inr (inr (1, written_one w e rec writes plain));
      holds = holds_log accepted files more (w.log ++ rec ∷ []) new grown;
      recorded = may.recorded;
    }

    pub moments : (old new : D) (e : Event) → record_of e ≡ Some rec → told_of_doubt e ≡ None → LeavesOnly m old new (HoldsEither (m.may_leave old) r.says.live r more) → LeavesOnly m old new (HoldsWithin w (e ∷ []))
    moments old new e writes plain run =
        weaker m old new (HoldsEither (m.may_leave old) r.says.live r more) (HoldsWithin w (e ∷ [])) run (λ crashed either. within_write e writes plain crashed either.either)

    -- behind it the files may hold one record more, in the log or in doubt
    pub one_more_holds : (reply : Reply) → MayHold cap (after_event w (event.Done node moment request reply)) None more
    one_more_holds reply = record {
      log = w.log ++ rec ∷ [];
      found = found_none w.doubt sure (w.log ++ rec ∷ []) more;
      site = grown;
      cap_is = may.cap_is;
      fits = more_fits;
      epoch = may.epoch;
      recorded = may.recorded;
    }

    in_doubt : (files : CrashState) → (Holds files r ⊎ Holds files more) → SomeHold (MayHold cap (after_event w (event.Doubt node moment request)) (Some (record { file = r.says.live; before = length r.bodies }))) files
    in_doubt files (inl old) = record {
      recorded = r;
      holds = old;
      is = record { log = w.log; found = (refl, inl (refl, refl)); site = site_is; cap_is = may.cap_is; fits = may.fits; epoch = may.epoch; recorded = may.recorded };
    }
    in_doubt files (inr new) = record {
      recorded = more;
      holds = new;
      is = record {
        log = w.log ++ rec ∷ [];
        found = (refl, inr (length-append r.bodies (record_text rec ∷ []), refl));
        site = grown;
        cap_is = may.cap_is;
        fits = more_fits;
        epoch = may.epoch;
        recorded = may.recorded;
      };
    }

    pub doubt_holds : (old new : D) → ((t : ℕ) (crashed : CrashState) → t ≤ m.moment new → IsLeft (m.may_leave new) crashed → m.left_since new t crashed) → IsLeft (m.may_leave new) (m.seen new)
        → LeavesOnly m old new (HoldsEither (m.may_leave old) r.says.live r more)
        → AllHold m (MayHold cap (after_event w (event.Doubt node moment request)) (Some (record { file = r.says.live; before = length r.bodies }))) new
    doubt_holds old new counts_now reads run = record {
      reads = in_doubt (m.seen new) (holds_now m old new (HoldsEither (m.may_leave old) r.says.live r more) run counts_now (m.seen new) reads).either;
      crash = λ crashed left. in_doubt crashed (holds_now m old new (HoldsEither (m.may_leave old) r.says.live r more) run counts_now crashed left).either;
    }

    -- ---- the part of the call

    module _ (reading : ℕ) (asked : Input) (own : own_request w node asked ≡ Some request) (old new : D) (holds : Holds (m.seen old) r) (small : r.says.cap < 2 ^ 64 - 1) (managed : IsSome w.manager)
        (follows : CanFollow (system_in w) moment node request) (run : LeavesOnly m old new (HoldsEither (m.may_leave old) r.says.live r more)) (has : need_of r.bodies (record_text rec) ≤ r.says.cap)
      where
        pub done_part : (reply : Reply) → IsReply reply (applied (system_in w) moment node request) → Holds (m.seen new) more → Part m None w reading asked false (event.Done node moment request reply ∷ []) old new
        done_part reply replies then_holds = record {
          comes = ((managed, follows, replies), tt);
          moments = moments old new (event.Done node moment request reply) refl refl run;
          files = tt;
          reaches = λ quiet. grows m (m.seen old) (m.seen new) r more (λ room. room_after w room (event.Done node moment request reply)) holds then_holds
              (λ i. record { master = size_of r.master; live = one_larger r.bodies (record_text rec) i; file = r.says.live; cap = r.says.cap });
          room = λ says records h. (subst (λ (room : Room). record_need room rec ≤ room.cap) (sym (room_is (m.seen old) says records h r holds)) (whole_need r.bodies (record_text rec) r.says.cap small has), tt);
        }

        pub doubt_part : CanBeInDoubt w node moment request → Part m None w reading asked true (event.Doubt node moment request ∷ []) old new
        doubt_part can = record {
          comes = (can, tt);
          moments = moments old new (event.Doubt node moment request) refl refl run;
          files = tt;
          reaches = λ quiet. cc;
          room = λ says records h. (
            subst (λ (room : Room). HasRoomInDoubt w room asked rec) (sym (room_is (m.seen old) says records h r holds))
                (room_in_doubt w (room_of r) node asked request rec own (whole_need r.bodies (record_text rec) r.says.cap small has)),
            tt,
          );
        }
