-- A turn at which serving stopped, as what it leaves at each world and over any disk.
use Rattle.std.proofs.Common.{◌≡◌, ◌≢◌, ◌⊎◌, inl, inr, ◌≤◌, lit≤, ℕ, Bool, true, false, List, [], ◌∷◌, ◌++◌, refl, sym, ◌∙◌, ap, subst, Option, None, Some, zero-add, arith, IsTrue, slice_get, option_to_list, append-nil}
use Rattle.std.specs.Io.KnownBytes.{Appends}
use Rattle.qm_history.specs.Common.{Tells, MayAnswer, failed_steps, next_at, faults_told, is_journal, tells_disk_fault, text, IsTurnOf, IsCutShort, Visit}
use Rattle.qm_symb.specs.Device as symb
use Rattle.qm_history.specs.declared.call.Answer.{Answer}
use Rattle.qm_history.specs.declared.call.Answer.TheVariants as answer
use Rattle.qm_history.specs.declared.call.Call.{Call}
use Rattle.qm_history.specs.declared.call.Call.TheVariants as call
use Rattle.qm_history.specs.declared.turn.Turn.{Turn}
use Rattle.qm_history.specs.declared.world.World.{World}
use Rattle.qm_history.specs.Chest.{IsMadeFor, LeavesTurn}
use Rattle.qm_sjc.specs.Printed.{items_line}
use Rattle.qm_node.specs.Node.{HeldNode, IsCallOf, IsTurn}
use Rattle.qm_node.specs.declared.course.Asked.{Asked}
use Rattle.qm_node.specs.declared.course.Next.{Next}
use Rattle.qm_node.specs.Answered.{EndsAt, EndsBy, printed_of, stop_of}
use Rattle.qm_node.specs.Asking.{built_call}
use Rattle.qm_node.specs.Seats.{HeldSeat, standing_of}
use Rattle.qm_history.specs.Serving.{Meaning, Serves, ServesAt, TellsDisk}
use Rattle.qm_node.specs.Outside.{Outside, outside}
use Rattle.qm_cluster.specs.Turning.{IsFullAt, IsToldTo, MayHide, StopsAt, StopsOnce, TakesUpTo}
use Rattle.qm_node.specs.Coming.{why_next}
use Rattle.qm_node.specs.Ends.{IsUndamaged, TakesFront}
use Rattle.qm_node.specs.declared.turn.TurnEnd.{TurnEnd}
use Rattle.qm_node.specs.declared.turn.TurnEnd.TheVariants as end
use Rattle.qm_cluster.proofs.Breaking.{BrokenOff, broken_next, last_one, nothing_broken}
use Rattle.qm_cluster.proofs.Counting.{appends_none}
use Rattle.qm_node.proofs.Ends.{printing_undamaged, sound_end}
use Rattle.qm_cluster.proofs.Making.{failed_once, hides_none, none_left, says, serves_of, answer_printed, told_once, why_comes}

-- ---- what an answer behind which nothing comes tells

-- it isn't that a disk failed
not_journal : (told : Answer) (stopped : TurnEnd) → stop_of told ≡ Some stopped → is_journal told ≡ false
not_journal (answer.NoMemory took) stopped is = refl
not_journal (answer.Damaged file place) stopped is = refl
not_journal answer.HistoryFull stopped is = refl
not_journal (answer.Done took moment reply) stopped is = refl
not_journal (answer.Shown took moment rows) stopped is = refl
not_journal (answer.Duties took moment duties) stopped is = refl
not_journal (answer.Refused took refusal) stopped is = refl
not_journal (answer.Full took need cap) stopped is = refl
not_journal (answer.Journal took live) stopped is = cc
not_journal (answer.Fenced held current) stopped is = refl
not_journal (answer.NoManager took name) stopped is = refl

none_failed : (told : Answer) (old new : ℕ) → is_journal told ≡ false → Tells old new (is_journal told ≡ true) → new ≡ old
none_failed told old new is h = h.quiet (λ bad. cc)

-- a turn of it was served whole, or cut short
served_or_cut : (w : World) (asked : Call) (t : Turn) (told : Answer) (stopped : TurnEnd) → stop_of told ≡ Some stopped → MayAnswer w asked t told
    → IsTurnOf w asked t ⊎ IsCutShort w asked t
served_or_cut w asked t (answer.NoMemory took) stopped is h = inr h.0
served_or_cut w asked t (answer.Damaged file place) stopped is h = inl h.0
served_or_cut w asked t answer.HistoryFull stopped is h = absurd h
served_or_cut w asked t (answer.Done took moment reply) stopped is h = cc
served_or_cut w asked t (answer.Shown took moment rows) stopped is h = cc
served_or_cut w asked t (answer.Duties took moment duties) stopped is h = cc
served_or_cut w asked t (answer.Refused took refusal) stopped is h = cc
served_or_cut w asked t (answer.Full took need cap) stopped is h = cc
served_or_cut w asked t (answer.Journal took live) stopped is h = cc
served_or_cut w asked t (answer.Fenced held current) stopped is h = cc
served_or_cut w asked t (answer.NoManager took name) stopped is h = cc

front_none : (taken : Option (List ℕ)) (bytes : List ℕ) → TakesFront taken taken bytes
front_none taken bytes = ([], bytes, refl, appends_none taken)

-- nothing was printed where there was no turn
none_printed : (stopped : TurnEnd) (taken : Option (List ℕ)) → TakesUpTo stopped taken taken []
none_printed end.HistoryFull taken = appends_none taken
none_printed end.Write taken = front_none taken []
none_printed (end.Damaged file place) taken = front_none taken []
none_printed end.NoMemory taken = front_none taken []

none_hidden : (stopped : TurnEnd) → MayHide stopped 0
none_hidden end.HistoryFull = refl
none_hidden end.Write = refl
none_hidden (end.Damaged file place) = lit≤ tt
none_hidden end.NoMemory = lit≤ tt

-- the end that is told behind a turn isn't that no more are kept
abbrev IsHidden : Option TurnEnd → Type 0
IsHidden None = ⊥
IsHidden (Some stopped) =
    ((unread : ℕ) → unread ≤ 1 → MayHide stopped unread) × ((taken : Option (List ℕ)) (bytes : List ℕ) → TakesUpTo stopped taken taken bytes) × ((turns : List Turn) → IsFullAt stopped turns)

hidden_by : (told : Answer) (stopped : TurnEnd) → stop_of told ≡ Some stopped → told ≢ answer.HistoryFull → IsHidden (stop_of told)
hidden_by (answer.NoMemory took) stopped is other = (λ unread few. few, front_none, λ turns. tt)
hidden_by (answer.Damaged file place) stopped is other = (λ unread few. few, front_none, λ turns. tt)
hidden_by answer.HistoryFull stopped is other = absurd (other refl)
hidden_by (answer.Done took moment reply) stopped is other = cc
hidden_by (answer.Shown took moment rows) stopped is other = cc
hidden_by (answer.Duties took moment duties) stopped is other = cc
hidden_by (answer.Refused took refusal) stopped is other = cc
hidden_by (answer.Full took need cap) stopped is other = cc
hidden_by (answer.Journal took live) stopped is other = cc
hidden_by (answer.Fenced held current) stopped is other = cc
hidden_by (answer.NoManager took name) stopped is other = cc

hidden_so : (told : Answer) (stopped : TurnEnd) → stop_of told ≡ Some stopped → told ≢ answer.HistoryFull → IsHidden (Some stopped)
hidden_so told stopped is other = subst IsHidden is (hidden_by told stopped is other)

-- the sink failed, or memory was short, behind an answer
front_taken : (stopped : TurnEnd) (taken then : Option (List ℕ)) (bytes : List ℕ) → (stopped ≡ end.Write) ⊎ (stopped ≡ end.NoMemory) → TakesFront taken then bytes → TakesUpTo stopped taken then bytes
front_taken stopped taken then bytes (inl is) h = subst (λ (e : TurnEnd). TakesUpTo e taken then bytes) (sym is) h
front_taken stopped taken then bytes (inr is) h = subst (λ (e : TurnEnd). TakesUpTo e taken then bytes) (sym is) h

full_taken : (stopped : TurnEnd) (turns : List Turn) → (stopped ≡ end.Write) ⊎ (stopped ≡ end.NoMemory) → IsFullAt stopped turns
full_taken stopped turns (inl is) = subst (λ (e : TurnEnd). IsFullAt e turns) (sym is) tt
full_taken stopped turns (inr is) = subst (λ (e : TurnEnd). IsFullAt e turns) (sym is) tt

-- where no turn is left, no more are kept, or memory was short
abbrev IsFullOr : Option TurnEnd → List Turn → Type 0
IsFullOr None turns = ⊥
IsFullOr (Some stopped) turns = IsFullAt stopped turns

full_so : (turns : List Turn) (told : Answer) → LeavesTurn turns None told → IsFullOr (stop_of told) turns
full_so turns told (inl (is, full)) = subst (λ (a : Answer). IsFullOr (stop_of a) turns) (sym is) full
full_so turns told (inr is) = subst (λ (a : Answer). IsFullOr (stop_of a) turns) (sym is) tt

-- no answer told of damage
ended_undamaged : (told : Answer) (stopped : TurnEnd) (name : List ℕ) (asked : Call) (taken then : Option (List ℕ)) → ((file place : ℕ) → told ≡ answer.Damaged file place → ⊥)
    → EndsBy name stopped asked told taken then → IsUndamaged stopped
ended_undamaged told stopped name asked taken then isnt (inl (stop, same)) = sound_end told stopped stop isnt
ended_undamaged told stopped name asked taken then isnt (inr (on, front, which)) = printing_undamaged stopped which

few_told : (t : Turn) (b : Bool) → tells_disk_fault t.events ≡ b → faults_told (t ∷ []) ≤ 1
few_told t true is = subst (λ (n : ℕ). n ≤ 1) (sym (told_once t true is)) (lit≤ tt)
few_told t false is = subst (λ (n : ℕ). n ≤ 1) (sym (told_once t false is)) (lit≤ tt)

module _ {S Y : Type 0} (m : Meaning S) (y : symb.Meaning Y) (node : ℕ) (comes : Next) (here : HeldSeat) (stopped : TurnEnd) where
  abbrev Stopped : Outside S Y → Outside S Y → Type 0
  Stopped old new = StopsOnce m y (λ why. why ≡ why_next comes) node (standing_of here) old new stopped

  -- memory was short before anything was asked for
  not_asked : (value : S) (symbiont now : Y) (taken before after : Option (List ℕ)) (moment : ℕ) → now ≡ symbiont → Appends before after (moment ∷ []) → IsFullAt stopped (m.turns value)
      → Stopped (record { value = value; taken = taken; told = before; symbiont = symbiont }) (record { value = value; taken = taken; told = after; symbiont = now })
  not_asked value symbiont now taken before after moment same clock full =
      let off : BrokenOff y here.node.state here.live (record { moment = 0; call = call.Leave }) here.node symbiont now = nothing_broken y here.node.state here.live (record { moment = 0; call = call.Leave }) here.node symbiont now same in (
        record {
          turns = [];
          kept = sym (append-nil (m.turns value));
          of_node = tt;
          full = full;
          nodes = refl;
          failed = record { failed = 0; unread = 0; told = refl; rose = refl; hidden = none_hidden stopped };
          at = λ w stands live. record {
            next = value;
            made = refl;
            last = inl refl;
            steps = [];
            broken = off.broken;
            goes_on = λ earlier behind. off.leads earlier;
            printed = none_printed stopped taken;
            told = record { told = moment ∷ []; appended = clock; are = (moment ∷ [], refl, lit≤ tt) };
            faults = off.faults;
            rose = off.rose;
            few_faults = omega arith;
            overs = λ over. tt;
            taken = off.taken;
          };
        },
        lit≤ tt,
      )

  module _ (called : HeldNode) (a : Asked) (was now : Y) (old new : S) (taken then before after : Option (List ℕ))
      (is_next : IsTurn (next_at here.live here.node.state here.node.state.stage) (Some comes)) (by : IsCallOf y here.begun comes here.node.state a called was now)
      (clock : Appends before after (a.moment ∷ [])) (name : slice_get (m.nodes old) node ≡ Some here.name)
    where
      abbrev asked : Call
      asked = built_call a.call

      abbrev from : Outside S Y
      from = record { value = old; taken = taken; told = before; symbiont = was }

      abbrev to : Outside S Y
      to = record { value = new; taken = then; told = after; symbiont = now }

      -- the call left no turn
      without_turn : (told : Answer) (sv : Serves m node a.moment asked old new told) → sv.turn ≡ None → stop_of told ≡ Some stopped → then ≡ taken → Stopped from to
      without_turn told sv is stop same =
          let off = broken_next y here.node.state here.live a called was now here.begun comes (next_at here.live here.node.state here.node.state.stage) refl is_next by in (
            record {
              turns = [];
              kept = sv.turns ∙ ap (λ (o : Option Turn). m.turns old ++ option_to_list o) is;
              of_node = tt;
              full = subst (λ (l : List Turn). IsFullAt stopped l) (sym (sv.turns ∙ ap (λ (o : Option Turn). m.turns old ++ option_to_list o) is ∙ append-nil (m.turns old)))
                  (subst (λ (o : Option TurnEnd). IsFullOr o (m.turns old)) stop (full_so (m.turns old) told (subst (λ (o : Option Turn). LeavesTurn (m.turns old) o told) is sv.leaves)));
              nodes = sv.nodes;
              failed = record { failed = 0; unread = 0; told = refl; rose = none_failed told (m.failed old) (m.failed new) (not_journal told stopped stop) sv.faults; hidden = none_hidden stopped };
              at = λ w stands live. record {
                next = old;
                made = refl;
                last = inr (asked, told, subst (λ (o : Option Turn). m.does w old new asked o told) is (sv.at w stands).does);
                steps = [];
                broken = off.broken;
                goes_on = λ earlier behind. off.leads earlier;
                printed = subst (λ (x : Option (List ℕ)). TakesUpTo stopped taken x []) (sym same) (none_printed stopped taken);
                told = record { told = a.moment ∷ []; appended = clock; are = (a.moment ∷ [], refl, lit≤ tt) };
                faults = off.faults;
                rose = off.rose;
                few_faults = omega arith;
                overs = λ over. tt;
                taken = off.taken;
              };
            },
            lit≤ tt,
          )

      -- what is so where it left this turn, whatever it was answered
      module _ (t : Turn) (told : Answer) (sv : Serves m node a.moment asked old new told) (is : sv.turn ≡ Some t) (made : IsMadeFor node a.moment asked (Some t)) where
        stops_at : (w : World) → ServesAt m w asked old new (Some t) told → IsTurnOf w asked t ⊎ IsCutShort w asked t
            → TakesUpTo stopped taken then (text items_line w (t ∷ [])) → StopsAt m y w node (standing_of here) (t ∷ []) from to stopped
        stops_at w s served printed =
            let v : Visit = record { before = w; turn = t } in
            let one = last_one y here.node.state here.live here.begun a called was now v served made.1 comes (next_at here.live here.node.state here.node.state.stage) refl is_next by in
            record {
              next = new;
              made = (asked, told, new, s.answers, s.does, refl);
              last = inl refl;
              steps = one.steps;
              broken = None;
              goes_on = λ earlier behind. one.leads earlier behind.begun;
              printed = printed;
              told = record { told = a.moment ∷ []; appended = clock; are = ([], ap (λ (x : ℕ). x ∷ []) (sym made.1), lit≤ tt) };
              faults = failed_steps one.steps;
              rose = one.rose;
              few_faults = omega arith;
              overs = λ over. (over, tt);
              taken = one.taken;
            }

        with_turn : IsFullAt stopped (m.turns new) → IsToldTo stopped (t ∷ []) (m.failed old) (m.failed new)
            → ((w : World) → ServesAt m w asked old new (Some t) told → (IsTurnOf w asked t ⊎ IsCutShort w asked t) × TakesUpTo stopped taken then (text items_line w (t ∷ [])))
            → Stopped from to
        with_turn full failed at = (
          record {
            turns = t ∷ [];
            kept = sv.turns ∙ ap (λ (o : Option Turn). m.turns old ++ option_to_list o) is;
            of_node = ((made.0, made.2 ∙ why_comes y here.begun comes here.node a called was now by), tt);
            full = full;
            nodes = sv.nodes;
            failed = failed;
            at = λ w stands live.
                let s = subst (λ (o : Option Turn). ServesAt m w asked old new o told) is (sv.at w stands) in
                let both = at w s in
                stops_at w s both.0 both.1;
          },
          lit≤ tt,
        )

        -- it was told an end
        told_end : stop_of told ≡ Some stopped → told ≢ answer.HistoryFull → then ≡ taken → Stopped from to
        told_end stop other same =
            let hidden = hidden_so told stopped stop other in
            with_turn (hidden.2 (m.turns new))
            (record {
              failed = 0;
              unread = faults_told (t ∷ []);
              told = sym (zero-add (faults_told (t ∷ [])));
              rose = none_failed told (m.failed old) (m.failed new) (not_journal told stopped stop) sv.faults;
              hidden = hidden.0 (faults_told (t ∷ [])) (few_told t (tells_disk_fault t.events) refl);
            })
            (λ w s. (served_or_cut w asked t told stopped stop s.answers, subst (λ (x : Option (List ℕ)). TakesUpTo stopped taken x (text items_line w (t ∷ []))) (sym same) (hidden.1 taken (text items_line w (t ∷ [])))))

        -- or it was answered
        told_more : stop_of told ≡ None → TakesFront taken then (printed_of here.name asked told) → (stopped ≡ end.Write) ⊎ (stopped ≡ end.NoMemory) → Stopped from to
        told_more on front which =
            with_turn (full_taken stopped (m.turns new) which)
            (record {
              failed = faults_told (t ∷ []);
              unread = 0;
              told = omega arith;
              rose = failed_once t told (m.failed old) (m.failed new) (subst (λ (o : Option Turn). TellsDisk o told) is sv.tells (hides_none told on)) sv.faults;
              hidden = none_hidden stopped;
            })
            (λ w s. let served = says w asked t told on s.answers in (
              inl served.0,
              subst (λ (l : List ℕ). TakesUpTo stopped taken then l)
                  (sym (answer_printed m node comes here a old t told made name w served.0 served.1 s.names)) (front_taken stopped taken then _ which front),
            ))

      ends_by : (turn : Option Turn) (told : Answer) (sv : Serves m node a.moment asked old new told) → sv.turn ≡ turn
          → EndsBy here.name stopped asked told taken then → Stopped from to
      ends_by None told sv is (inl (stop, same)) = without_turn told sv is stop same
      ends_by None told sv is (inr (on, front, which)) = absurd (none_left (m.turns old) told on (subst (λ (o : Option Turn). LeavesTurn (m.turns old) o told) is sv.leaves))
      ends_by (Some t) told sv is (inl (stop, same)) =
          told_end t told sv is (subst (λ (o : Option Turn). IsMadeFor node a.moment asked o) is sv.made) stop (subst (λ (o : Option Turn). LeavesTurn (m.turns old) o told) is sv.leaves) same
      ends_by (Some t) told sv is (inr (on, front, which)) =
          told_more t told sv is (subst (λ (o : Option Turn). IsMadeFor node a.moment asked o) is sv.made) on front which

  -- ---- a turn that ended

  module _ (was now : Y) (before after : Option (List ℕ)) (old new : S) (taken then : Option (List ℕ)) where
    pub turn_stops : IsTurn (next_at here.live here.node.state here.node.state.stage) (Some comes) → slice_get (m.nodes old) node ≡ Some here.name
        → EndsAt (serves_of m) y node stopped comes here was now before after old new taken then → Stopped (outside old taken before was) (outside new then after now)
    turn_stops is_next name (inl ended) =
        let a = ended.asked in
        let plain : Asked = record { moment = a.asked.moment; call = a.call.plain } in
        let serves = subst (λ (c : Call). Serves m node a.asked.moment c old new a.answer) a.call.asked_is a.asks_it in
        ends_by a.made plain was now old new taken then before after is_next a.call.by a.clock name serves.turn a.answer serves refl
        (subst (λ (c : Call). EndsBy here.name stopped c a.answer taken then) a.call.asked_is ended.ends)
    turn_stops is_next name (inr ended) =
        subst (λ (value : S). Stopped (outside old taken before was) (outside value then after now)) (sym ended.none_asked)
        (subst (λ (given : Option (List ℕ)). Stopped (outside old taken before was) (outside old given after now)) (sym ended.none_printed)
        (not_asked old was now taken before after ended.clock.0 ended.quiet ended.clock.1 (full_taken stopped (m.turns old) (inr ended.memory))))

    pub turn_undamaged : EndsAt (serves_of m) y node stopped comes here was now before after old new taken then → IsTrue m.tells → IsUndamaged stopped
    turn_undamaged (inl ended) tells = ended_undamaged ended.asked.answer stopped here.name ended.asked.asked.call taken then (ended.asked.asks_it.undamaged tells) ended.ends
    turn_undamaged (inr ended) tells = printing_undamaged stopped (inr ended.memory)
