-- What a record that follows makes of a world, and of the system for which its log stands.
use Rattle.std.proofs.Common.{◌≡◌, ◌∙◌, ◌+◌, ◌<◌, ℕ, Bool, List, [], ◌∷◌, ◌++◌, length, map, take, get_or, refl, sym, ap, subst, Option, None, Some, Ok, IfSome, option_to_list, slice_set}
use Rattle.std.proofs.lemmas.List.{take_more}
use Rattle.std.proofs.lemmas.Option.{slice_get-get_or}
use Rattle.qm_history.specs.Common.{Record, Reply, Request, Took, System, applied, IsConsistent, after_record, system_after, system_of, IsLawful, request_record, Accepted, CanFollow, IsNext, CanAllCome, CanBeInDoubt, CanCome, IsReply, NamesNodes, after_event, after_events, system_in, log_read, IsSound}
use Rattle.qm_history.specs.declared.event.Event.{Event}
use Rattle.qm_history.specs.declared.world.Role.{Role}
use Rattle.qm_history.specs.declared.world.World.{World}
use Rattle.qm_history.proofs.LogLemmas.{accepted_consistent, one_more}
use Rattle.qm_history.proofs.SoundLemmas.{as_many, read_log}
use Rattle.qm_world.specs.declared.following.Followed.{Followed}
use Rattle.qm_world.specs.Following.{HasFollowed}
use Rattle.qm_world.specs.Nodes.{MayBeInDoubt}
use Rattle.qm_world.specs.Walking.{IsFirstIllegal, LeadTo}

-- ---- a request that follows a log

module _ (log : List Record) (s t : System) (moment node : ℕ) (asked : Request) (f : Followed) (is : s ≡ system_of log) (h : HasFollowed s t moment node asked f) where
  there : HasFollowed (system_of log) t moment node asked f
  there = subst (λ (x : System). HasFollowed x t moment node asked f) is h

  pub follows : CanFollow (system_of log) moment node asked
  follows = there.follows

  pub replies : (reply : Reply) → reply ≡ f.reply → IsReply reply (applied (system_of log) moment node asked)
  replies reply same = subst (λ o. IsReply reply o) (sym there.accepted) same

  pub log_is : (list : List Record) → list ≡ log ++ f.record ∷ [] → list ≡ log ++ request_record moment node asked ∷ []
  log_is list put = put ∙ ap (λ (r : Record). log ++ r ∷ []) h.record_is

  pub system_is : (list : List Record) → list ≡ log ++ f.record ∷ [] → t ≡ system_of list
  system_is list put =
      sym (ap (λ o. system_after (system_of log) o) there.accepted) ∙ sym (one_more log (request_record moment node asked)) ∙ ap system_of (sym (log_is list put))

-- ---- the record in doubt is read

pub kept_log : (log list : List Record) (doubt : Option Record) (r : Record) → Some r ≡ doubt → list ≡ log ++ r ∷ [] → list ≡ log ++ option_to_list doubt
kept_log log list doubt r is put = put ∙ ap (λ (d : Option Record). log ++ option_to_list d) is

pub kept_system : (log : List Record) (s t : System) (doubt : Option Record) (r : Record) → Some r ≡ doubt → s ≡ system_of log → t ≡ after_record s r
    → t ≡ system_of (log ++ option_to_list doubt)
kept_system log s t doubt r is at made =
    made ∙ ap (λ (x : System). after_record x r) at ∙ sym (one_more log r) ∙ ap (λ (d : Option Record). system_of (log ++ option_to_list d)) is

pub doubt_is_next : (w : World) (r : Record) (s : System) → Some r ≡ w.doubt → s ≡ system_in w → IsSound w → IsNext s r
doubt_is_next w r s is at sound =
    let next : IfSome (Some r) (IsNext (system_in w)) = subst (λ (d : Option Record). IfSome d (IsNext (system_in w))) (sym is) sound.doubt in
    subst (λ (x : System). IsNext x r) (sym at) next

module _ (keeps : (s : System) (now node : ℕ) (asked : Request) (a : Accepted) → IsConsistent s → IsLawful s node asked → applied s now node asked ≡ Ok a → IsConsistent a.system)
    (names : (s : System) (now node : ℕ) (asked : Request) (a : Accepted) → applied s now node asked ≡ Ok a → map (λ n. n.name) a.system.nodes ≡ map (λ n. n.name) s.nodes)
    (w : World) (kept : Option Bool) (h : IsSound w) (s : System) (is : s ≡ system_of (log_read w kept))
  where
    pub read_consistent : IsConsistent s
    read_consistent = subst IsConsistent (sym is) (accepted_consistent keeps (log_read w kept) (read_log names w kept h).accepted)

    pub read_live : length w.live ≡ length s.nodes
    read_live = h.live ∙ sym (as_many names (system_in w) (system_of (log_read w kept)) (read_log names w kept h).same) ∙ ap (λ (x : System). length x.nodes) (sym is)

-- the lists of a takeover speak of nothing that reading changes
pub names_read : (w v : World) (log : List Record) (doubt : Option Record) (s t : System) (node : ℕ) (gone up may : List (List ℕ)) → v ≡ record w { log = log; doubt = doubt } → s ≡ t
    → NamesNodes v s node gone up may → NamesNodes w t node gone up may
names_read w v log doubt s t node gone up may is same names =
    let there : NamesNodes (record w { log = log; doubt = doubt }) t node gone up may =
    subst (λ (x : System). NamesNodes (record w { log = log; doubt = doubt }) x node gone up may) same
    (subst (λ (x : World). NamesNodes x s node gone up may) is names) in
    record { gone_is = there.gone_is; up_is = there.up_is; named = there.named }

-- and back
pub names_of_read : (w v : World) (log : List Record) (doubt : Option Record) (s t : System) (node : ℕ) (gone up may : List (List ℕ)) → v ≡ record w { log = log; doubt = doubt } → s ≡ t
    → NamesNodes w t node gone up may → NamesNodes v s node gone up may
names_of_read w v log doubt s t node gone up may is same names =
    let there : NamesNodes (record w { log = log; doubt = doubt }) t node gone up may = record { gone_is = names.gone_is; up_is = names.up_is; named = names.named } in
    subst (λ (x : World). NamesNodes x s node gone up may) (sym is)
    (subst (λ (x : System). NamesNodes (record w { log = log; doubt = doubt }) x node gone up may) (sym same) there)

-- the world behind a takeover, by the parts that change
pub taken_world : (w v : World) (log list : List Record) (doubt : Option Record) (r : Record) (held : List ℕ) (node epoch : ℕ) → v ≡ record w { log = log; doubt = doubt }
    → list ≡ log ++ r ∷ [] → held ≡ slice_set v.held node epoch
    → record v { log = list; doubt = None; manager = Some (record { node = node; epoch = epoch }); greatest = epoch; held = held }
    ≡ record w { log = log ++ r ∷ []; doubt = None; manager = Some (record { node = node; epoch = epoch }); greatest = epoch; held = slice_set w.held node epoch }
taken_world w v log list doubt r held node epoch is put set =
    let role : Role = record { node = node; epoch = epoch } in
    ap (λ (x : World). record x { log = list; doubt = None; manager = Some role; greatest = epoch; held = held }) is
    ∙ ap (λ (x : List Record). record w { log = x; doubt = None; manager = Some role; greatest = epoch; held = held }) put
    ∙ ap (λ (x : List ℕ). record w { log = log ++ r ∷ []; doubt = None; manager = Some role; greatest = epoch; held = x })
    (set ∙ ap (λ (x : World). slice_set x.held node epoch) is)

-- ---- records in doubt

pub doubt_can : (w : World) (node moment : ℕ) (asked : Request) → MayBeInDoubt w (system_in w) node asked → CanFollow (system_in w) moment node asked
    → CanBeInDoubt w node moment asked
doubt_can w node moment (Took epoch gone up may) can f = record { no_manager = can.0; no_doubt = can.1; epoch_is = can.2; nodes = can.3; follows = f }
doubt_can w node moment _ can f = (can, f)

pub doubt_may : (w : World) (node moment : ℕ) (asked : Request) → CanBeInDoubt w node moment asked → MayBeInDoubt w (system_in w) node asked
doubt_may w node moment (Took epoch gone up may) can = (can.no_manager, can.no_doubt, can.epoch_is, can.nodes)
doubt_may w node moment _ can = can.0

pub doubt_follows : (w : World) (node moment : ℕ) (asked : Request) → CanBeInDoubt w node moment asked → CanFollow (system_in w) moment node asked
doubt_follows w node moment (Took epoch gone up may) can = can.follows
doubt_follows w node moment _ can = can.1

-- ---- one event more

come_behind : (w : World) (events : List Event) (e : Event) → CanAllCome w events → CanCome (after_events w events) e → CanAllCome w (events ++ e ∷ [])
come_behind w [] e come can = (can, tt)
come_behind w (x ∷ events) e come can = (come.0, come_behind (after_event w x) events e come.1 can)

after_behind : (w : World) (events : List Event) (e : Event) → after_events w (events ++ e ∷ []) ≡ after_event (after_events w events) e
after_behind w [] e = refl
after_behind w (x ∷ events) e = after_behind (after_event w x) events e

-- the walk leads along the next event too
pub leads_on : (start : World) (events : List Event) (i : ℕ) (e : Event) (w after : World) → i < length events → e ≡ get_or events i e → LeadTo start (take i events) w
    → CanCome w e → after ≡ after_event w e → LeadTo start (take (i + 1) events) after
leads_on start events i e w after within is led can made =
    let more : take (i + 1) events ≡ take i events ++ e ∷ [] = take_more events i e within ∙ ap (λ (x : Event). take i events ++ x ∷ []) (sym is) in
    record {
      come =
          subst (λ (es : List Event). CanAllCome start es) (sym more)
          (come_behind start (take i events) e led.come (subst (λ (x : World). CanCome x e) led.is can));
      is = made ∙ ap (λ (x : World). after_event x e) led.is ∙ sym (after_behind start (take i events) e) ∙ ap (λ (es : List Event). after_events start es) (sym more);
    }

-- the next event is the first that can't come
pub stops_here : (start : World) (events : List Event) (i : ℕ) (e : Event) (w : World) → i < length events → e ≡ get_or events i e → LeadTo start (take i events) w
    → (CanCome w e → ⊥) → IsFirstIllegal start events i
stops_here start events i e w within is led cannot = record {
  come = led.come;
  event = e;
  there = slice_get-get_or events i e within ∙ ap (λ (x : Event). Some x) (sym is);
  cannot = λ can. cannot (subst (λ (x : World). CanCome x e) (sym led.is) can);
}
