-- A turn of a node, as what it leaves at each world and over any disk.
use Rattle.std.proofs.Common.{◌≡◌, inl, inr, ℕ, Bool, true, false, cond, List, [], ◌∷◌, ◌++◌, map, refl, sym, ◌∙◌, ap, subst, Option, None, Some, zero-add, slice_get, option_to_list, append-nil}
use Rattle.std.specs.Option.{option_map, option_map_or}
use Rattle.std.specs.Io.KnownBytes.{Appends}
use Rattle.std.proofs.lemmas.Option.{slice_get-map}
use Rattle.qm_history.specs.Common.{Tells, Node, node_at, MayAnswer, answer_of, why_of, faults_told, is_journal, tells_disk_fault, after_turn, Reaches, Scans, IsTurnOf, Visit, is_live, system_in}
use Rattle.qm_symb.specs.Device as symb
use Rattle.qm_history.specs.declared.call.Answer.{Answer}
use Rattle.qm_history.specs.declared.call.Answer.TheVariants as answer
use Rattle.qm_history.specs.declared.call.Call.{Call}
use Rattle.qm_history.specs.declared.call.Call.TheVariants as call
use Rattle.qm_history.specs.declared.turn.Turn.{Turn}
use Rattle.qm_history.specs.declared.world.World.{World}
use Rattle.qm_history.specs.Chest.{IsMadeFor, LeavesTurn, hides_events}
use Rattle.qm_history.specs.Course.{Over, next_at}
use Rattle.qm_history.specs.Text.{behind as lines_behind, prefix_of, text, turn_lines, visit_text}
use Rattle.qm_node.specs.Living.{presence_of, live_behind}
use Rattle.qm_node.proofs.Lives.{answer_tells, others_whole, who_left}
use Rattle.qm_scans.specs.Behind.{behind_answer, step_of}
use Rattle.qm_scans.proofs.Tells.{turn_tells}
use Rattle.qm_sjc.specs.Printed.{items_line}
use Rattle.qm_node.specs.Node.{HeldNode, IsCallOf, IsTurn}
use Rattle.qm_node.specs.declared.course.Asked.{Asked}
use Rattle.qm_node.specs.declared.course.Next.{Next}
use Rattle.qm_node.specs.declared.course.Next.TheVariants as next
use Rattle.qm_node.specs.Answered.{MakesTurn, MovesOn, TakesIn, printed_of, stop_of}
use Rattle.qm_node.specs.Asking.{built_call, read_built}
use Rattle.qm_node.specs.Seats.{HeldSeat, standing_of}
use Rattle.qm_history.specs.Serving.{Meaning, Serves, ServesAt, TellsDisk}
use Rattle.qm_node.specs.Outside.{Outside, outside}
use Rattle.qm_node.specs.Taken.{RoseBy}
use Rattle.qm_cluster.specs.Turning.{Goes, GoesAt}
use Rattle.qm_node.specs.Coming.{why_next}
use Rattle.qm_node.proofs.Called.{called_state, moves_on, over_leaves}
use Rattle.qm_cluster.proofs.Behind.{behind_one}
use Rattle.qm_cluster.proofs.Printing.{lines_printed}
use Rattle.qm_cluster.proofs.Stepping.{made_next}

-- whom the nodes ask is the queue manager itself
abbrev pub serves_of : {S : Type 0} → Meaning S → S → S → ℕ → ℕ → Call → Answer → Type 0
serves_of m old new node now asked told = Serves m node now asked old new told

-- an answer behind which serving goes on is what the events say
pub says : (w : World) (asked : Call) (t : Turn) (told : Answer) → stop_of told ≡ None → MayAnswer w asked t told → IsTurnOf w asked t × (told ≡ answer_of w t)
says w asked t (answer.NoMemory took) on h = cc
says w asked t (answer.Damaged file place) on h = cc
says w asked t answer.HistoryFull on h = cc
says w asked t (answer.Done took moment reply) on h = h
says w asked t (answer.Shown took moment rows) on h = h
says w asked t (answer.Duties took moment duties) on h = h
says w asked t (answer.Refused took refusal) on h = h
says w asked t (answer.Full took need cap) on h = h
says w asked t (answer.Journal took live) on h = h
says w asked t (answer.Fenced held current) on h = h
says w asked t (answer.NoManager took name) on h = h

-- and hides nothing
pub hides_none : (told : Answer) → stop_of told ≡ None → hides_events told ≡ false
hides_none (answer.NoMemory took) on = cc
hides_none (answer.Damaged file place) on = cc
hides_none answer.HistoryFull on = cc
hides_none (answer.Done took moment reply) on = refl
hides_none (answer.Shown took moment rows) on = refl
hides_none (answer.Duties took moment duties) on = refl
hides_none (answer.Refused took refusal) on = refl
hides_none (answer.Full took need cap) on = refl
hides_none (answer.Journal took live) on = refl
hides_none (answer.Fenced held current) on = refl
hides_none (answer.NoManager took name) on = refl

-- without a turn there is none
pub none_left : (turns : List Turn) (told : Answer) → stop_of told ≡ None → LeavesTurn turns None told → ⊥
none_left turns told on (inl full) = let bad : stop_of answer.HistoryFull ≡ None = subst (λ (a : Answer). stop_of a ≡ None) full.0 on in cc
none_left turns told on (inr short) = let bad : stop_of (answer.NoMemory None) ≡ None = subst (λ (a : Answer). stop_of a ≡ None) short on in cc

-- the name of a node
found_name : (found : Option Node) (name : List ℕ) → option_map (λ (n : Node). n.name) found ≡ Some name → option_map_or (λ (n : Node). n.name) found [] ≡ name
found_name None name is = cc
found_name (Some n) name is = cc

pub name_there : (nodes : List Node) (names : List (List ℕ)) (node : ℕ) (name : List ℕ) → map (λ (n : Node). n.name) nodes ≡ names → slice_get names node ≡ Some name → node_at node nodes ≡ name
name_there nodes names node name are is =
    found_name (slice_get nodes node) name
    (sym (slice_get-map (λ (n : Node). n.name) nodes node) ∙ ap (λ (l : List (List ℕ)). slice_get l node) are ∙ is)

-- how often a disk failed in one turn
pub told_once : (t : Turn) (b : Bool) → tells_disk_fault t.events ≡ b → faults_told (t ∷ []) ≡ cond b 1 0
told_once t b is = zero-add (cond (tells_disk_fault t.events) 1 0) ∙ ap (λ (b : Bool). cond b 1 0) is

once : (b : Bool) (old new : ℕ) → Tells old new (b ≡ true) → RoseBy (cond b 1 0) old new
once true old new h = h.fault refl
once false old new h = h.quiet (λ bad. cc)

pub failed_once : (t : Turn) (told : Answer) (old new : ℕ) → is_journal told ≡ tells_disk_fault t.events → Tells old new (is_journal told ≡ true) → RoseBy (faults_told (t ∷ [])) old new
failed_once t told old new same h =
    subst (λ (n : ℕ). RoseBy n old new) (sym (told_once t (tells_disk_fault t.events) refl)) (once (tells_disk_fault t.events) old new (subst (λ (b : Bool). Tells old new (b ≡ true)) same h))

-- why the call of what comes next is made
pub why_comes : {Y : Type 0} (y : symb.Meaning Y) (begun : Scans) (comes : Next) (n : HeldNode) (a : Asked) (called : HeldNode) (was now : Y) → IsCallOf y begun comes n.state a called was now → why_of (built_call a.call) ≡ why_next comes
why_comes y begun (next.Line line) n a called was now h = ap (λ (c : Call). why_of (built_call c)) h.0
why_comes y begun (next.Step run) n a called was now h = ap (λ (c : Call). why_of (built_call c)) h.1
why_comes y begun next.Fetch n a called was now h = ap (λ (c : Call). why_of (built_call c)) h.0
why_comes y begun next.Leave n a called was now h = ap (λ (c : Call). why_of (built_call c)) h.0

-- ---- what is printed of a turn

module _ {S : Type 0} (m : Meaning S) (node : ℕ) (comes : Next) (here : HeldSeat) (a : Asked) (old : S) (t : Turn) (told : Answer) (made : IsMadeFor node a.moment (built_call a.call) (Some t))
    (name : slice_get (m.nodes old) node ≡ Some here.name)
  where
    name_is : (w : World) → map (λ (n : Node). n.name) (system_in w).nodes ≡ m.nodes old → node_at t.node (system_in w).nodes ≡ here.name
    name_is w are = ap (λ (k : ℕ). node_at k (system_in w).nodes) made.0 ∙ name_there (system_in w).nodes (m.nodes old) node here.name are name

    pub answer_printed : (w : World) → IsTurnOf w (built_call a.call) t → told ≡ answer_of w t → map (λ (n : Node). n.name) (system_in w).nodes ≡ m.nodes old
        → text items_line w (t ∷ []) ≡ printed_of here.name (built_call a.call) told
    answer_printed w turn is are =
        append-nil (visit_text items_line (record { before = w; turn = t }))
        ∙ ap (λ (n : List ℕ). lines_behind (prefix_of n t.why) (turn_lines items_line w t)) (name_is w are)
        ∙ lines_printed w (built_call a.call) t turn here.name told made.2 is

-- ---- a turn that was answered

module _ {S Y : Type 0} (m : Meaning S) (y : symb.Meaning Y) (node : ℕ) (comes : Next) (here there : HeldSeat) (called : HeldNode) (a : Asked) (was now : Y) (old new : S)
    (taken then before after : Option (List ℕ))
    (is_next : IsTurn (next_at here.live here.node.state here.node.state.stage) (Some comes)) (by : IsCallOf y here.begun comes here.node.state a called was now)
    (clock : Appends before after (a.moment ∷ [])) (name : slice_get (m.nodes old) node ≡ Some here.name)
  where
    abbrev asked : Call
    asked = built_call a.call

    abbrev from : Outside S Y
    from = record { value = old; taken = taken; told = before; symbiont = was }

    abbrev to : Outside S Y
    to = record { value = new; taken = then; told = after; symbiont = now }

    module _ (t : Turn) (told : Answer) (goes_on : stop_of told ≡ None) (made : IsMadeFor node a.moment asked (Some t)) (takes : TakesIn comes asked told (record here { node = called }) there) where
      live_is : (w : World) → (s : ServesAt m w asked old new (Some t) told) → IsTurnOf w asked t → told ≡ answer_of w t → here.live ≡ is_live w node → there.live ≡ is_live (after_turn w t) node
      live_is w s turn is live =
          takes.live
          ∙ ap (λ (b : Bool). live_behind b (presence_of asked) told) (live ∙ ap (is_live w) (sym made.0))
          ∙ ap (λ (r : Answer). live_behind (is_live w t.node) (presence_of asked) r) is
          ∙ sym (answer_tells w asked t s.sound turn)
          ∙ ap (is_live (after_turn w t)) made.0

      asked_leave : comes ≡ next.Leave → asked ≡ call.Leave
      asked_leave is = ap built_call (subst (λ (x : Next). IsCallOf y here.begun x here.node.state a called was now) is by).0

      down_is : (w : World) → IsTurnOf w asked t → there.live ≡ is_live (after_turn w t) node → there.node.state.stage ≡ Over → there.live ≡ false
      down_is w turn live over =
          live ∙ ap (is_live (after_turn w t)) (sym made.0)
          ∙ who_left w t (subst (λ (c : Call). IsTurnOf w c t)
          (asked_leave (over_leaves here.count here.live here.node.state called there.node told comes (called_state y here.begun here.node.state a called was now comes by) is_next takes.heard over)) turn)

      goes_at : (w : World) → ServesAt m w asked old new (Some t) told → Appends taken then (printed_of here.name asked told) → here.live ≡ is_live w node
          → GoesAt m y w node (standing_of here) (standing_of there) (t ∷ []) from to
      goes_at w s printed live =
          let served = says w asked t told goes_on s.answers in
          let v : Visit = record { before = w; turn = t } in
          let turn = made_next y here.node.state here.live here.count here.begun a called there.node was now v told served.0 made.1 served.1 comes
          (next_at here.live here.node.state here.node.state.stage) refl is_next by takes.heard in
          record {
            made = (asked, told, new, s.answers, s.does, refl);
            stands = s.stands;
            steps = turn.steps;
            reaches = λ earlier before_it. subst (λ (b : Bool). Reaches read_built here.node.state earlier here.live (v ∷ []) turn.steps there.node.state b)
                (ap (is_live (after_turn w t)) made.0 ∙ sym (live_is w s served.0 served.1 live)) (turn.leads earlier before_it);
            behind = λ earlier before_it. behind_one earlier v (standing_of here) (standing_of there) before_it takes.count
                (takes.begun ∙ ap (behind_answer here.begun (step_of asked)) served.1 ∙ sym ((turn_tells w asked t served.0).scans here.begun));
            live = live_is w s served.0 served.1 live;
            others = λ other differs. others_whole w asked t other s.sound (λ same. differs (same ∙ made.0)) served.0;
            down = λ was_down. down_is w served.0 (live_is w s served.0 served.1 live);
            overs = λ over. (over, tt);
            printed = subst (λ (l : List ℕ). Appends taken then l) (sym (answer_printed m node comes here a old t told made name w served.0 served.1 s.names)) printed;
            told = record { told = a.moment ∷ []; appended = clock; are = ap (λ (x : ℕ). x ∷ []) (sym made.1) };
            rose = turn.rose;
            taken = turn.taken;
          }

      goes_by : (sv : Serves m node a.moment asked old new told) → sv.turn ≡ Some t → Appends taken then (printed_of here.name asked told)
          → Goes m y (λ why. why ≡ why_next comes) node (standing_of here) (standing_of there) from to
      goes_by sv is printed =
          record {
            turns = t ∷ [];
            kept = sv.turns ∙ ap (λ (o : Option Turn). m.turns old ++ option_to_list o) is;
            of_node = ((made.0, made.2 ∙ why_comes y here.begun comes here.node a called was now by), tt);
            few = sv.few;
            count = takes.count;
            nodes = sv.nodes;
            serves = sv.serves;
            failed = failed_once t told (m.failed old) (m.failed new) (subst (λ (o : Option Turn). TellsDisk o told) is sv.tells (hides_none told goes_on)) sv.faults;
            at = λ w stands live. goes_at w (subst (λ (o : Option Turn). ServesAt m w asked old new o told) is (sv.at w stands)) printed live;
          }

    goes_at_turn : (turn : Option Turn) (told : Answer) (sv : Serves m node a.moment asked old new told) → sv.turn ≡ turn → stop_of told ≡ None → TakesIn comes asked told (record here { node = called }) there
        → Appends taken then (printed_of here.name asked told) → Goes m y (λ why. why ≡ why_next comes) node (standing_of here) (standing_of there) from to
    goes_at_turn None told sv is goes_on takes printed = absurd (none_left (m.turns old) told goes_on (subst (λ (o : Option Turn). LeavesTurn (m.turns old) o told) is sv.leaves))
    goes_at_turn (Some t) told sv is goes_on takes printed = goes_by t told goes_on (subst (λ (o : Option Turn). IsMadeFor node a.moment asked o) is sv.made) takes sv is printed

-- ---- a turn that was made

module _ {S Y : Type 0} (m : Meaning S) (y : symb.Meaning Y) (node : ℕ) (comes : Next) (here there : HeldSeat) (was now : Y) (before after : Option (List ℕ)) (old new : S) (taken then : Option (List ℕ)) where
  abbrev pub Makes : Type 0
  Makes = MakesTurn (serves_of m) y node comes here there was now before after old new taken then

  pub turn_goes : IsTurn (next_at here.live here.node.state here.node.state.stage) (Some comes) → slice_get (m.nodes old) node ≡ Some here.name → Makes
      → Goes m y (λ why. why ≡ why_next comes) node (standing_of here) (standing_of there) (outside old taken before was) (outside new then after now)
  turn_goes is_next name makes =
      let a = makes.asked in
      let plain : Asked = record { moment = a.asked.moment; call = a.call.plain } in
      let serves = subst (λ (c : Call). Serves m node a.asked.moment c old new a.answer) a.call.asked_is a.asks_it in
      goes_at_turn m y node comes here there a.made plain was now old new taken then before after is_next a.call.by a.clock name serves.turn a.answer serves refl makes.goes_on
      (subst (λ (c : Call). TakesIn comes c a.answer (record here { node = a.made }) there) a.call.asked_is makes.takes_in)
      (subst (λ (c : Call). Appends taken then (printed_of here.name c a.answer)) a.call.asked_is makes.prints)

  pub turn_moves : Makes → MovesOn comes here there
  turn_moves makes =
      let a = makes.asked in
      let plain : Asked = record { moment = a.asked.moment; call = a.call.plain } in
      moves_on y comes here (record here { node = a.made }) there plain was now a.asked.call a.answer a.call.by refl makes.takes_in
