-- A node on its way through its course, from its beginning to its end.
use Rattle.std.proofs.Common.{◌≡◌, ◌⊎◌, ℕ, ◌+◌, ◌≤◌, inl, inr, Bool, true, List, [], ◌∷◌, ◌++◌, length, refl, sym, ◌∙◌, ap, subst, arith, append_assoc, Option, None, Some, Err, IfSome, IsTrue, option_to_list, unwrap_or, append-nil}
use Rattle.std.specs.List.{AllByRecursion}
use Rattle.std.specs.Io.KnownBytes.{Appends}
use Rattle.std.proofs.lemmas.Grind.{flat_map-append}
use Rattle.qm_symb.specs.Device.{Meaning}
use Rattle.qm_history.specs.declared.call.Answer.{Answer}
use Rattle.qm_history.specs.declared.call.Answer.TheVariants as answer
use Rattle.qm_history.specs.declared.call.Call.{Call}
use Rattle.qm_history.specs.declared.turn.Turn.{Turn}
use Rattle.qm_history.specs.declared.world.World.{World}
use Rattle.qm_history.specs.Common.{MayAnswer, KeptRun, NodeState, Whole, Begun, MadeStep, GoesOn, IsCourse, at_first, failed_steps, next_at, IsLegal, after_turns, Reaches, no_scans, scans_of, UserLine, Visit, visits_of, IsSound, is_live, IsAnswered, IsTurnOf, IsCutShort}
use Rattle.qm_history.specs.Chest.{IsMadeFor}
use Rattle.qm_history.specs.declared.call.Call.TheVariants as call
use Rattle.qm_history.specs.Ends.{Ended, TurnsSpent, BeginsWith, HasPrinted}
use Rattle.qm_history.proofs.ReachingLemmas.{one_visit}
use Rattle.qm_node.specs.Answered.{EndsAsked, EndsAt, EndsBy, EndsUnasked, MakesTurn, printed_of, stop_of}
use Rattle.qm_node.specs.Asking.{built_call, read_built}
use Rattle.qm_node.specs.Seats.{HeldSeat}
use Rattle.qm_node.specs.Taken.{AreTaken, Rises}
use Rattle.qm_cluster.proofs.Breaking.{BrokenOff, LastOne, broken_next, last_one, nothing_broken}
use Rattle.qm_cluster.proofs.Counting.{appends_none, appends_on, rose_on}
use Rattle.qm_cluster.proofs.Going.{nothing_next}
use Rattle.qm_cluster.proofs.Joining.{rises_on, taken_on}
use Rattle.qm_cluster.proofs.Printing.{lines_printed}
use Rattle.qm_cluster.proofs.Reached.{goes_on, reached_is}
use Rattle.qm_cluster.proofs.Stepping.{none_taken}
use Rattle.qm_node.specs.declared.course.Asked.{Asked}
use Rattle.qm_node.specs.declared.course.Next.{Next}
use Rattle.qm_node.specs.Node.{IsTurn}
use Rattle.qm_turn.specs.History.{notes_by}
use Rattle.qm_turn.specs.Turns.{Known}
use Rattle.qm_node.specs.declared.turn.TurnEnd.{TurnEnd}
use Rattle.qm_node.specs.declared.turn.TurnEnd.TheVariants as end
use Rattle.qm_cluster.specs.declared.noted.Noted.{Noted}
use Rattle.qm_cluster.specs.Driving.{HasCome, HasDriven, HasMade, IsDriven, IsHeard, IsLastOf, node_end, readings, text_told, visit_told}
use Rattle.qm_cluster.specs.Passes.{turns_in, AreOwn}
use Rattle.qm_cluster.specs.CallServing.{LeavesTurn}
use Rattle.qm_cluster.specs.Passing.{IsTurnMade}
use Rattle.qm_cluster.proofs.Hearing.{last_call, none_ends, says, whole_or_cut}
use Rattle.qm_cluster.proofs.Onward.{come_on, made_on, mine_seen, own_found, readings_more, readings_none, seen_turns, visits_found}
use Rattle.qm_cluster.proofs.Owning.{all_front}

-- the text so far is the whole, or a beginning of it, as the end says
printed_all : (stopped : TurnEnd) (text : List ℕ) → HasPrinted (node_end (Err stopped)) text text
printed_all end.Write text = ([], sym (append-nil text))
printed_all end.HistoryFull text = refl
printed_all (end.Damaged file place) text = ([], sym (append-nil text))
printed_all end.NoMemory text = ([], sym (append-nil text))

printed_begun : (stopped : TurnEnd) (text printed : List ℕ) → (stopped ≡ end.HistoryFull → ⊥) → BeginsWith text printed → HasPrinted (node_end (Err stopped)) text printed
printed_begun end.Write text printed other h = h
printed_begun end.HistoryFull text printed other h = absurd (other refl)
printed_begun (end.Damaged file place) text printed other h = h
printed_begun end.NoMemory text printed other h = h

-- a sink that took nothing more has the same text
same_text : (text printed : List ℕ) → Some printed ≡ Some text → printed ≡ text
same_text text printed is = ap (λ (o : Option (List ℕ)). unwrap_or o text) is

not_full : (most : ℕ) (turns : List Turn) (t : Turn) (told : Answer) → LeavesTurn most turns (Some t) told → stop_of told ≡ Some end.HistoryFull → ⊥
not_full most turns t answer.HistoryFull leaves h = leaves refl
not_full most turns t told leaves h = cc

-- what was reached, and what goes on from there, is a course that was begun
abbrev course_begun : (first : World) (node : ℕ) (lines : List UserLine) (turns all : List Turn) (others : List Visit) (steps more : List MadeStep) (n : NodeState) (live : Bool) (broken : Option KeptRun) (faults : ℕ)
    → failed_steps (steps ++ more) ≤ faults → Reaches read_built (at_first lines) [] (is_live first node) (visits_of node first turns) steps n live
    → GoesOn read_built Begun broken n (visits_of node first turns) live others more → visits_of node first all ≡ visits_of node first turns ++ others
    → IsCourse read_built Begun first all node lines faults
course_begun first node lines turns all others steps more n live broken faults few reached next is = record {
  steps = steps ++ more;
  broken = broken;
  turns_are =
      subst (λ vs. GoesOn read_built Begun broken (at_first lines) [] (is_live first node) vs (steps ++ more)) (sym is)
      (goes_on Begun broken others more n live (visits_of node first turns) [] (at_first lines) (is_live first node) steps reached next);
  few_faults = few;
}

few_so_far : (steps : List MadeStep) (more : ℕ) → failed_steps (steps ++ []) ≤ failed_steps steps + more
few_so_far steps more = let same : failed_steps (steps ++ []) ≡ failed_steps steps = ap failed_steps (append-nil steps) in omega (arith, same)

-- a course that was only begun, as the end of the node's turns says
module _ {Y : Type 0} (y : Meaning Y) (first : World) (node : ℕ) (name : List ℕ) (lines : List UserLine) (turns : List Turn) (was now : Y) (start text : List ℕ) (faults : ℕ)
    (rose : Rises y faults was now) (course : IsCourse read_built Begun first turns node lines faults) (taken : AreTaken y course.steps course.broken was now)
    (printed : List ℕ) (appended : text ≡ start ++ printed)
  where
    driven_by : (stopped : TurnEnd) → HasPrinted (node_end (Err stopped)) (text_told name (visits_of node first turns)) printed → IsDriven y first node name lines (node_end (Err stopped)) turns was now start text
    driven_by end.Write is = record { faults = faults; rose = rose; course = course; taken = taken; printed = printed; appended = appended; text = is }
    driven_by end.HistoryFull is = record { faults = faults; rose = rose; course = course; taken = taken; printed = printed; appended = appended; text = is }
    driven_by (end.Damaged file place) is = record { faults = faults; rose = rose; course = course; taken = taken; printed = printed; appended = appended; text = is }
    driven_by end.NoMemory is = record { faults = faults; rose = rose; course = course; taken = taken; printed = printed; appended = appended; text = is }

module _ {Y : Type 0} (y : Meaning Y) (tells : Bool) (may_begin : World → Type 0) (most : ℕ) (node : ℕ) (name : List ℕ) (lines : List UserLine) (was : Y) (start : List ℕ) (old : Known Noted) (told : Option (List ℕ)) where
  -- what holds between two turns of the node
  pub record IsUnderWay (seat : HeldSeat) (now : Y) (new : Known Noted) (then : Option (List ℕ)) (text : List ℕ) : Type 0 where
    pub made : HasMade most node name old told seat new then
    pub came : IsTrue tells → (first : World) → may_begin first → AreOwn node new.seen → HasCome y first node name lines was start (turns_in new.seen) seat now text

  abbrev begins : HeldSeat
  begins = record { name = name; node = record { state = at_first lines; made = None }; live = true; count = 0; begun = no_scans }

  come_first : (first : World) → is_live first node ≡ true → HasCome y first node name lines was start [] begins was start
  come_first first live = record {
    live = sym live;
    steps = [];
    reached = (refl, refl, sym live);
    rose = refl;
    taken = none_taken y was;
    behind = record { count = refl; begun = refl };
    text = sym (append-nil start);
  }

  pub under_way : old.number ≡ node → old.seen ≡ [] → old.mine ≡ [] → (IsTrue tells → (first : World) → may_begin first → is_live first node ≡ true) → IsUnderWay begins was old told start
  under_way number none none_mine live = record {
    made = record {
      heard = subst (AllByRecursion (IsHeard node)) (sym none_mine) tt;
      all_mine = ap (notes_by node) none ∙ sym none_mine;
      number = (refl, number);
      took = refl;
      place = refl;
      count = ap length none_mine;
      few = omega arith;
      clock = subst (Appends told told) (sym (ap readings none_mine)) (appends_none told);
      none_made = refl;
      named = refl;
    };
    came = λ sure first may own. subst (λ l. HasCome y first node name lines was start (turns_in l) begins was start) (sym none) (come_first first (live sure first may));
  }

  module _ (sound_on : (w : World) (turns : List Turn) → IsSound w → IsLegal w turns → IsSound (after_turns w turns)) (sound : IsTrue tells → (first : World) → may_begin first → IsSound first)
      (seat : HeldSeat) (now : Y) (before : Known Noted) (then : Option (List ℕ)) (text : List ℕ) (u : IsUnderWay seat now before then text)
    where
      pub onward : (next : Next) (seat' : HeldSeat) (now' : Y) (then' : Option (List ℕ)) (after : Known Noted) (text' : List ℕ) → IsTurn (next_at seat.live seat.node.state seat.node.state.stage) (Some next)
          → MakesTurn (IsTurnMade tells may_begin most) y node next seat seat' now now' then then' before after (Some text) (Some text') → IsUnderWay seat' now' after then' text'
      onward next seat' now' then' after text' is m = record {
        made = made_on y tells may_begin most node name lines was start old told next seat seat' now now' then then' before after text text' is m u.made;
        came =
            λ sure first may own. (
            let found = own_found tells may_begin most node m.asked.asked.moment m.asked.asked.call m.asked.answer before after u.made.number.1 u.made.all_mine m.asked.asks_it own in
            let own_before : AreOwn node before.seen =
            all_front (λ (e : ℕ × Noted). IfSome e.1.turn (λ (t : Turn). t.node ≡ node → e.0 ≡ node)) before.seen m.asked.asks_it.between found in
            come_on y tells may_begin most node name lines was start old told next seat seat' now now' then then' before after text text' is m u.made sound_on first may (sound sure first may) sure own (u.came sure first may own_before)
            );
      }

      -- ---- the end of the course

      pub driven_whole : HasDriven most node Ended old before told then
      driven_whole = record {
        front = before.mine;
        last = [];
        mine = sym (append-nil before.mine);
        heard = u.made.heard;
        ends = refl;
        all_mine = u.made.all_mine;
        number = u.made.number.0;
        took = u.made.took;
        place = u.made.place;
        more = [];
        clock = subst (Appends told then) (sym (append-nil (readings before.mine))) u.made.clock;
        few = omega arith;
        none_more = λ end. refl;
        spent = λ bad. cc;
      }

      pub is_driven_whole : IsTurn (next_at seat.live seat.node.state seat.node.state.stage) None → IsTrue tells → (first : World) → may_begin first → AreOwn node before.seen
          → IsDriven y first node name lines Ended (turns_in before.seen) was now start text
      is_driven_whole none sure first may own =
          let c : HasCome y first node name lines was start (turns_in before.seen) seat now text = u.came sure first may own in record {
            faults = failed_steps c.steps;
            rose = c.rose;
            course = record {
              steps = c.steps;
              broken = None;
              turns_are =
                  reached_is Whole (visits_of node first (turns_in before.seen)) [] (at_first lines) (is_live first node) c.steps seat.node.state seat.live c.reached
                  (nothing_next (next_at seat.live seat.node.state seat.node.state.stage) none);
              few_faults = omega arith;
            };
            taken = c.taken;
            printed = text_told name (visits_of node first (turns_in before.seen));
            appended = c.text;
            text = refl;
          }

      -- ---- an end without a call

      module _ (stopped : TurnEnd) (now' : Y) (then' : Option (List ℕ)) (after : Known Noted) (text' : List ℕ) (e : EndsUnasked (IsTurnMade tells may_begin most) y node stopped now now' then then' before after (Some text) (Some text')) where
        driven_unasked : HasDriven most node (node_end (Err stopped)) old after told then'
        driven_unasked =
            subst (λ p. HasDriven most node (node_end (Err stopped)) old p told then') (sym e.none_asked)
            (subst (λ s. HasDriven most node (node_end (Err s)) old before told then') (sym e.memory)
            (record {
              front = before.mine;
              last = [];
              mine = sym (append-nil before.mine);
              heard = u.made.heard;
              ends = inl refl;
              all_mine = u.made.all_mine;
              number = u.made.number.0;
              took = u.made.took;
              place = u.made.place;
              more = e.clock.0 ∷ [];
              clock = appends_on (readings before.mine) (e.clock.0 ∷ []) told then then' u.made.clock e.clock.1;
              few = omega arith;
              none_more = λ bad. cc;
              spent = λ bad. cc;
            }))

        is_driven_unasked : IsTrue tells → (first : World) → may_begin first → AreOwn node after.seen → IsDriven y first node name lines (node_end (Err stopped)) (turns_in after.seen) was now' start text'
        is_driven_unasked sure first may own =
            subst (λ (p : Known Noted). IsDriven y first node name lines (node_end (Err stopped)) (turns_in p.seen) was now' start text') (sym e.none_asked)
            (subst (λ s. IsDriven y first node name lines (node_end (Err s)) (turns_in before.seen) was now' start text') (sym e.memory) (begun (subst (λ (p : Known Noted). AreOwn node p.seen) e.none_asked own)))
          where
            begun : AreOwn node before.seen → IsDriven y first node name lines (node_end (Err end.NoMemory)) (turns_in before.seen) was now' start text'
            begun own_before =
                let c : HasCome y first node name lines was start (turns_in before.seen) seat now text = u.came sure first may own_before in
                let off : BrokenOff y seat.node.state seat.live (record { moment = 0; call = call.Leave }) seat.node now now' =
                nothing_broken y seat.node.state seat.live (record { moment = 0; call = call.Leave }) seat.node now now' e.quiet in record {
                  faults = failed_steps c.steps + off.faults;
                  rose = rose_on (failed_steps c.steps) off.faults (y.faults was) (y.faults now) (y.faults now') c.rose off.rose;
                  course =
                      course_begun first node lines (turns_in before.seen) (turns_in before.seen) [] c.steps [] seat.node.state seat.live off.broken (failed_steps c.steps + off.faults)
                      (few_so_far c.steps off.faults) c.reached (off.leads (visits_of node first (turns_in before.seen))) (sym (append-nil (visits_of node first (turns_in before.seen))));
                  taken = taken_on y c.steps [] off.broken was now now' c.taken off.taken;
                  printed = text_told name (visits_of node first (turns_in before.seen));
                  appended = same_text text text' e.none_printed ∙ c.text;
                  text = printed_all end.NoMemory (text_told name (visits_of node first (turns_in before.seen)));
                }

      -- ---- an end with a call

      module _ (stopped : TurnEnd) (next : Next) (now' : Y) (then' : Option (List ℕ)) (after : Known Noted) (text' : List ℕ) (is : IsTurn (next_at seat.live seat.node.state seat.node.state.stage) (Some next))
          (e : EndsAsked (IsTurnMade tells may_begin most) y node stopped next seat now now' then then' before after (Some text) (Some text'))
        where
          abbrev turn : IsTurnMade tells may_begin most before after node e.asked.asked.moment e.asked.asked.call e.asked.answer
          turn = e.asked.asks_it

          abbrev here : List Turn
          here = turns_in (before.seen ++ turn.between)

          abbrev plain : Asked
          plain = record { moment = e.asked.asked.moment; call = e.asked.call.plain }

          there : turns_in after.seen ≡ here ++ option_to_list turn.note.turn
          there = seen_turns tells may_begin most node e.asked.asked.moment e.asked.asked.call e.asked.answer before after u.made.number.1 u.made.all_mine turn

          last : IsLastOf node (node_end (Err stopped)) (turn.note ∷ []) × (node_end (Err stopped) ≡ TurnsSpent → (turn.note.turn ≡ None) × (length here ≡ most))
          last = last_call most node e.asked.asked.moment e.asked.asked.call here turn.note seat.name (Some text) (Some text') e.asked.answer stopped e.ends turn.unread turn.made turn.leaves

          told_one : (o : Option Turn) → turn.note.turn ≡ o → IsMadeFor node e.asked.asked.moment e.asked.asked.call o
              → (more : List ℕ) × Appends told then' (readings after.mine ++ more) × (length more ≤ 1)
          told_one None none made = (
            e.asked.asked.moment ∷ [],
            subst (λ l. Appends told then' (l ++ e.asked.asked.moment ∷ [])) (sym (ap readings turn.mine ∙ readings_none before.mine turn.note none))
                (appends_on (readings before.mine) (e.asked.asked.moment ∷ []) told then then' u.made.clock e.asked.clock),
            omega arith,
          )
          told_one (Some t) some made = (
            [],
            subst (Appends told then') (sym (append-nil (readings after.mine) ∙ ap readings turn.mine ∙ readings_more before.mine turn.note t some ∙ ap (λ k. readings before.mine ++ k ∷ []) made.1))
                (appends_on (readings before.mine) (e.asked.asked.moment ∷ []) told then then' u.made.clock e.asked.clock),
            omega arith,
          )

          one : (more : List ℕ) × Appends told then' (readings after.mine ++ more) × (length more ≤ 1)
          one = told_one turn.note.turn refl turn.made

          not_whole : node_end (Err stopped) ≡ Ended → one.0 ≡ []
          not_whole bad = by_end stopped bad
            where
              by_end : (s : TurnEnd) → node_end (Err s) ≡ Ended → one.0 ≡ []
              by_end end.Write bad = cc
              by_end end.HistoryFull bad = cc
              by_end (end.Damaged file place) bad = cc
              by_end end.NoMemory bad = cc

          driven_asked : HasDriven most node (node_end (Err stopped)) old after told then'
          driven_asked = record {
            front = before.mine;
            last = turn.note ∷ [];
            mine = turn.mine;
            heard = u.made.heard;
            ends = last.0;
            all_mine = mine_seen tells may_begin most node e.asked.asked.moment e.asked.asked.call e.asked.answer before after u.made.number.1 u.made.all_mine turn;
            number = turn.number ∙ u.made.number.0;
            took = turn.took ∙ u.made.took;
            place = turn.place ∙ u.made.place;
            more = one.0;
            clock = one.1;
            few = one.2;
            none_more = not_whole;
            spent = λ full. ap length (there ∙ ap (λ o. here ++ option_to_list o) (last.1 full).0 ∙ append-nil here) ∙ (last.1 full).1;
          }

          module _ (sure : IsTrue tells) (first : World) (begun : may_begin first) (own : AreOwn node after.seen) where
            same_visits : visits_of node first here ≡ visits_of node first (turns_in before.seen)
            same_visits = visits_found tells may_begin most node e.asked.asked.moment e.asked.asked.call e.asked.answer before after u.made.number.1 u.made.all_mine turn first own

            c : HasCome y first node name lines was start (turns_in before.seen) seat now text
            c =
                let found = own_found tells may_begin most node e.asked.asked.moment e.asked.asked.call e.asked.answer before after u.made.number.1 u.made.all_mine turn own in
                u.came sure first begun (all_front (λ (x : ℕ × Noted). IfSome x.1.turn (λ (t : Turn). t.node ≡ node → x.0 ≡ node)) before.seen turn.between found)

            abbrev Driven : List Turn → Type 0
            Driven turns = IsDriven y first node name lines (node_end (Err stopped)) turns was now' start text'

            -- the call left no turn
            text_same : turn.note.turn ≡ None → EndsBy seat.name stopped e.asked.asked.call e.asked.answer (Some text) (Some text') → text' ≡ text
            text_same none (inl h) = same_text text text' h.1
            text_same none (inr h) = absurd (none_ends most here e.asked.answer (subst (λ o. LeavesTurn most here o e.asked.answer) none turn.leaves) h.0)

            driven_none : turn.note.turn ≡ None → Driven here
            driven_none none =
                let off : BrokenOff y seat.node.state seat.live plain e.asked.made now now' =
                broken_next y seat.node.state seat.live plain e.asked.made now now' seat.begun next (next_at seat.live seat.node.state seat.node.state.stage) refl is e.asked.call.by in
                driven_by y first node name lines here was now' start text' (failed_steps c.steps + off.faults)
                (rose_on (failed_steps c.steps) off.faults (y.faults was) (y.faults now) (y.faults now') c.rose off.rose)
                (course_begun first node lines here here [] c.steps [] seat.node.state seat.live off.broken (failed_steps c.steps + off.faults) (few_so_far c.steps off.faults)
                (subst (λ vs. Reaches read_built (at_first lines) [] (is_live first node) vs c.steps seat.node.state seat.live) (sym same_visits) c.reached)
                (off.leads (visits_of node first here)) (sym (append-nil (visits_of node first here))))
                (taken_on y c.steps [] off.broken was now now' c.taken off.taken) (text_told name (visits_of node first here))
                (text_same none e.ends ∙ c.text ∙ ap (λ vs. start ++ text_told name vs) (sym same_visits)) stopped (printed_all stopped (text_told name (visits_of node first here)))

            -- the call left a turn
            module _ (t : Turn) (some : turn.note.turn ≡ Some t) where
              abbrev w : World
              w = after_turns first here

              abbrev v : Visit
              v = record { before = w; turn = t }

              made : IsMadeFor node e.asked.asked.moment e.asked.asked.call (Some t)
              made = subst (IsMadeFor node e.asked.asked.moment e.asked.asked.call) some turn.made

              may : MayAnswer w e.asked.asked.call t e.asked.answer
              may = subst (λ o. IsAnswered w e.asked.asked.call o e.asked.answer) some (turn.answered sure first begun)

              served : IsTurnOf w (built_call e.asked.call.plain) t ⊎ IsCutShort w (built_call e.asked.call.plain) t
              served = subst (λ (x : Call). IsTurnOf w x t ⊎ IsCutShort w x t) e.asked.call.asked_is (whole_or_cut w e.asked.asked.call t e.asked.answer may)

              moves : LastOne y seat.node.state seat.live seat.begun plain e.asked.made now now' v served made.1
              moves =
                  last_one y seat.node.state seat.live seat.begun plain e.asked.made now now' v served made.1 next (next_at seat.live seat.node.state seat.node.state.stage) refl is e.asked.call.by

              one_more : visits_of node first (here ++ t ∷ []) ≡ visits_of node first here ++ v ∷ []
              one_more = one_visit read_built node first here t made.0

              abbrev said : List ℕ
              said = visit_told name v

              told_more : text_told name (visits_of node first (here ++ t ∷ [])) ≡ text_told name (visits_of node first here) ++ said
              told_more =
                  ap (text_told name) one_more ∙ flat_map-append (visit_told name) (visits_of node first here) (v ∷ [])
                  ∙ ap (λ l. text_told name (visits_of node first here) ++ l) (append-nil said)

              so_far : text ≡ start ++ text_told name (visits_of node first here)
              so_far = c.text ∙ ap (λ vs. start ++ text_told name vs) (sym same_visits)

              other_end : (told : Answer) → LeavesTurn most here (Some t) told → (stop_of told ≡ Some stopped) → stopped ≡ end.HistoryFull → ⊥
              other_end told leaves h full = not_full most here t told leaves (h ∙ ap Some full)

              leaves : LeavesTurn most here (Some t) e.asked.answer
              leaves = subst (λ o. LeavesTurn most here o e.asked.answer) some turn.leaves

              -- what was printed of it
              abbrev PrintedSome : Type 0
              PrintedSome = (printed : List ℕ) × (text' ≡ start ++ printed) × HasPrinted (node_end (Err stopped)) (text_told name (visits_of node first (here ++ t ∷ []))) printed

              short_end : (stopped ≡ end.Write) ⊎ (stopped ≡ end.NoMemory) → stopped ≡ end.HistoryFull → ⊥
              short_end (inl short) full = let bad : end.Write ≡ end.HistoryFull = sym short ∙ full in cc
              short_end (inr short) full = let bad : end.NoMemory ≡ end.HistoryFull = sym short ∙ full in cc

              printed_some : EndsBy seat.name stopped e.asked.asked.call e.asked.answer (Some text) (Some text') → PrintedSome
              printed_some (inl h) = (
                text_told name (visits_of node first here),
                same_text text text' h.1 ∙ so_far,
                printed_begun stopped (text_told name (visits_of node first (here ++ t ∷ []))) (text_told name (visits_of node first here)) (other_end e.asked.answer leaves h.0) (said, told_more),
              )
              printed_some (inr (goes, (front, rest, split, took), which)) =
                  let whole = says w e.asked.asked.call t e.asked.answer goes may in
                  let is_said : said ≡ front ++ rest =
                  lines_printed w e.asked.asked.call t whole.0 name e.asked.answer made.2 whole.1 ∙ ap (λ n. printed_of n e.asked.asked.call e.asked.answer) (sym u.made.named) ∙ split in (
                    text_told name (visits_of node first here) ++ front,
                    took ∙ ap (λ l. l ++ front) so_far ∙ append_assoc start (text_told name (visits_of node first here)) front,
                    printed_begun stopped (text_told name (visits_of node first (here ++ t ∷ []))) (text_told name (visits_of node first here) ++ front) (short_end which)
                        (rest, told_more ∙ ap (λ l. text_told name (visits_of node first here) ++ l) is_said ∙ sym (append_assoc (text_told name (visits_of node first here)) front rest)),
                  )

              driven_some : Driven (here ++ t ∷ [])
              driven_some =
                  let shown : PrintedSome = printed_some e.ends in
                  driven_by y first node name lines (here ++ t ∷ []) was now' start text' (failed_steps (c.steps ++ moves.steps)) (rises_on y c.steps moves.steps was now now' c.rose moves.rose)
                  (course_begun first node lines here (here ++ t ∷ []) (v ∷ []) c.steps moves.steps seat.node.state seat.live None (failed_steps (c.steps ++ moves.steps)) (omega arith)
                  (subst (λ vs. Reaches read_built (at_first lines) [] (is_live first node) vs c.steps seat.node.state seat.live) (sym same_visits) c.reached)
                  (moves.leads (visits_of node first here) (ap scans_of same_visits ∙ c.behind.begun)) one_more)
                  (taken_on y c.steps moves.steps None was now now' c.taken moves.taken) shown.0 shown.1 stopped shown.2

            by_turn : (o : Option Turn) → turn.note.turn ≡ o → Driven (turns_in after.seen)
            by_turn None none = subst Driven (sym (there ∙ ap (λ o. here ++ option_to_list o) none ∙ append-nil here)) (driven_none none)
            by_turn (Some t) some = subst Driven (sym (there ∙ ap (λ o. here ++ option_to_list o) some)) (driven_some t some)

            is_driven_asked : Driven (turns_in after.seen)
            is_driven_asked = by_turn turn.note.turn refl

      -- ---- either end

      module _ (stopped : TurnEnd) (next : Next) (now' : Y) (then' : Option (List ℕ)) (after : Known Noted) (text' : List ℕ) (is : IsTurn (next_at seat.live seat.node.state seat.node.state.stage) (Some next)) where
        pub driven_at : EndsAt (IsTurnMade tells may_begin most) y node stopped next seat now now' then then' before after (Some text) (Some text') → HasDriven most node (node_end (Err stopped)) old after told then'
        driven_at (inl e) = driven_asked stopped next now' then' after text' is e
        driven_at (inr e) = driven_unasked stopped now' then' after text' e

        pub is_driven_at : EndsAt (IsTurnMade tells may_begin most) y node stopped next seat now now' then then' before after (Some text) (Some text') → IsTrue tells → (first : World) → may_begin first → AreOwn node after.seen
            → IsDriven y first node name lines (node_end (Err stopped)) (turns_in after.seen) was now' start text'
        is_driven_at (inl e) sure first may own = is_driven_asked stopped next now' then' after text' is e sure first may own
        is_driven_at (inr e) sure first may own = is_driven_unasked stopped now' then' after text' e sure first may own
