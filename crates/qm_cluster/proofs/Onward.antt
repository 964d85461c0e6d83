-- A node goes on by one turn: what its pass, its clock and its own state are then.
use Rattle.std.proofs.Common.{◌≡◌, ℕ, ◌+◌, ◌≤◌, Bool, false, List, [], ◌∷◌, ◌++◌, length, map, refl, sym, ◌∙◌, ap, subst, arith, append_assoc, Option, None, Some, IfSome, IsTrue, option_to_list}
use Rattle.std.specs.List.{AllByRecursion}
use Rattle.std.specs.Io.KnownBytes.{Appends}
use Rattle.std.proofs.lemmas.List.{append-nil, length-append, map-append}
use Rattle.std.proofs.lemmas.Grind.{flat_map-append}
use Rattle.qm_symb.specs.Device.{Meaning}
use Rattle.qm_history.specs.declared.call.Answer.{Answer}
use Rattle.qm_history.specs.declared.call.Call.{Call}
use Rattle.qm_history.specs.declared.turn.Turn.{Turn}
use Rattle.qm_history.specs.declared.world.World.{World}
use Rattle.qm_history.specs.Common.{MayAnswer, answer_of, why_of, IsLegal, after_turn, after_turns, Reaches, UserLine, IsTurnOf, Visit, visits_of, IsSound, is_live, IsAnswered}
use Rattle.qm_history.specs.Course.{at_first, is_live_behind, next_at}
use Rattle.qm_history.proofs.ReachingLemmas.{course_reaches_on, one_visit}
use Rattle.qm_node.specs.Living.{presence_of, live_behind}
use Rattle.qm_node.proofs.Called.{moves_on}
use Rattle.qm_node.proofs.Lives.{answer_tells}
use Rattle.qm_scans.specs.Behind.{behind_answer, step_of}
use Rattle.qm_scans.proofs.Tells.{turn_tells}
use Rattle.qm_node.specs.Answered.{MakesTurn, MovesOn, printed_of}
use Rattle.qm_node.specs.Asking.{built_call, read_built}
use Rattle.qm_node.specs.Seats.{HeldSeat, standing_of}
use Rattle.qm_node.specs.Standing.{IsBehind}
use Rattle.qm_cluster.proofs.Behind.{behind_one}
use Rattle.qm_cluster.proofs.Counting.{appends_on}
use Rattle.qm_cluster.proofs.Joining.{rises_on, taken_on}
use Rattle.qm_cluster.proofs.Printing.{lines_printed}
use Rattle.qm_cluster.proofs.Stepping.{Made, made_next}
use Rattle.qm_node.specs.declared.course.Asked.{Asked}
use Rattle.qm_node.specs.declared.course.Next.{Next}
use Rattle.qm_node.specs.Node.{IsTurn}
use Rattle.qm_turn.specs.History.{notes_by}
use Rattle.qm_turn.specs.Turns.{Known}
use Rattle.qm_turn.proofs.Histories.{notes_by-append, notes_by_same}
use Rattle.qm_cluster.specs.declared.noted.Noted.{Noted}
use Rattle.qm_cluster.specs.Driving.{HasCome, HasMade, IsHeard, readings, text_told, visit_told}
use Rattle.qm_cluster.specs.Passes.{turns_in, AreOwn}
use Rattle.qm_cluster.specs.Sharing.{turns_of}
use Rattle.qm_cluster.specs.Passing.{IsTurnMade}
use Rattle.qm_cluster.proofs.Hearing.{fewer, heard_turn, says}
use Rattle.qm_cluster.proofs.Lives.{after_both, legal_back, legal_front, lives_on}
use Rattle.qm_cluster.proofs.Owning.{all_front, all_back, turns_in_append, visits_begin}
use Rattle.qm_cluster.proofs.Standing.{turns_of_append}

-- ---- lists

all_more : {X : Type 0} (P : X → Type 0) (xs : List X) (x : X) → AllByRecursion P xs → P x → AllByRecursion P (xs ++ x ∷ [])
all_more P [] x h p = (p, tt)
all_more P (y ∷ xs) x h p = (h.0, all_more P xs x h.1 p)

nothing_more : (xs ys : List Noted) → length (xs ++ ys) ≡ length xs → ys ≡ []
nothing_more xs [] h = refl
nothing_more xs (y ∷ ys) h = absurd (omega (arith, h, length-append xs (y ∷ ys)))

-- ---- what the pass knows behind a turn

module _ (tells : Bool) (may_begin : World → Type 0) (most : ℕ) (node now : ℕ) (asked : Call) (told : Answer) (before after : Known Noted) (number : before.number ≡ node) (all_mine : notes_by node before.seen ≡ before.mine)
    (turn : IsTurnMade tells may_begin most before after node now asked told)
  where
    abbrev pub found : List Turn
    found = turns_in (before.seen ++ turn.between)

    pub seen_turns : turns_in after.seen ≡ found ++ option_to_list turn.note.turn
    seen_turns =
        ap turns_in turn.seen ∙ turns_in_append (before.seen ++ turn.between) ((before.number, turn.note) ∷ [])
        ∙ ap (λ l. found ++ l) (one_turn turn.note.turn refl)
      where
        one_turn : (o : Option Turn) → turn.note.turn ≡ o → turns_in ((before.number, turn.note) ∷ []) ≡ option_to_list o
        one_turn None is = grind (arith, is)
        one_turn (Some t) is = grind (arith, is)

    pub mine_seen : notes_by node after.seen ≡ after.mine
    mine_seen = subst (λ k. notes_by k after.seen ≡ after.mine) (turn.number ∙ number) turn.all_mine

    -- between two turns of its own the node's pass made none
    pub none_between : notes_by node turn.between ≡ []
    none_between =
        let whole : notes_by node (before.seen ++ turn.between) ++ turn.note ∷ [] ≡ before.mine ++ turn.note ∷ [] =
        sym (notes_by_same (before.seen ++ turn.between) node turn.note) ∙ ap (λ k. notes_by node ((before.seen ++ turn.between) ++ (k, turn.note) ∷ [])) (sym number)
        ∙ ap (notes_by node) (sym turn.seen) ∙ mine_seen ∙ turn.mine in
        let split : notes_by node (before.seen ++ turn.between) ≡ before.mine ++ notes_by node turn.between =
        notes_by-append node before.seen turn.between ∙ ap (λ l. l ++ notes_by node turn.between) all_mine in
        let sizes : length ((before.mine ++ notes_by node turn.between) ++ turn.note ∷ []) ≡ length (before.mine ++ turn.note ∷ []) =
        ap (λ l. length (l ++ turn.note ∷ [])) (sym split) ∙ ap length whole in
        let a = length-append (before.mine ++ notes_by node turn.between) (turn.note ∷ []) in
        let b = length-append before.mine (turn.note ∷ []) in
        nothing_more before.mine (notes_by node turn.between) (omega (arith, sizes, a, b))

    pub own_found : AreOwn node after.seen → AreOwn node (before.seen ++ turn.between)
    own_found own =
        all_front (λ (e : ℕ × Noted). IfSome e.1.turn (λ (t : Turn). t.node ≡ node → e.0 ≡ node)) (before.seen ++ turn.between) ((before.number, turn.note) ∷ []) (subst (AreOwn node) turn.seen own)

    pub visits_found : (first : World) → AreOwn node after.seen → visits_of node first found ≡ visits_of node first (turns_in before.seen)
    visits_found first own = visits_begin node first before.seen turn.between (own_found own) none_between

    pub live_found : (first : World) → may_begin first → ((w : World) (turns : List Turn) → IsSound w → IsLegal w turns → IsSound (after_turns w turns))
        → IsSound first → IsTrue tells → AreOwn node after.seen → is_live (after_turns first found) node ≡ is_live (after_turns first (turns_in before.seen)) node
    live_found first begins sound_on sound sure own =
        let parts : found ≡ turns_in before.seen ++ turns_in turn.between = turns_in_append before.seen turn.between in
        let legal : IsLegal first (turns_in before.seen ++ turns_in turn.between) = subst (IsLegal first) parts (turn.legal sure first begins) in
        let mid : World = after_turns first (turns_in before.seen) in
        ap (λ ts. is_live (after_turns first ts) node) parts
        ∙ ap (λ w. is_live w node) (after_both first (turns_in before.seen) (turns_in turn.between))
        ∙ lives_on node sound_on turn.between mid
        (all_back (λ (e : ℕ × Noted). IfSome e.1.turn (λ (t : Turn). t.node ≡ node → e.0 ≡ node)) before.seen turn.between (own_found own)) none_between
        (sound_on first (turns_in before.seen) sound (legal_front first (turns_in before.seen) (turns_in turn.between) legal))
        (legal_back first (turns_in before.seen) (turns_in turn.between) legal)

pub readings_more : (ns : List Noted) (n : Noted) (t : Turn) → n.turn ≡ Some t → readings (ns ++ n ∷ []) ≡ readings ns ++ t.moment ∷ []
readings_more ns n t is =
    ap (map (λ (x : Turn). x.moment)) (turns_of_append ns n ∙ ap (λ o. turns_of ns ++ option_to_list o) is) ∙ map-append (λ (x : Turn). x.moment) (turns_of ns) (t ∷ [])

pub readings_none : (ns : List Noted) (n : Noted) → n.turn ≡ None → readings (ns ++ n ∷ []) ≡ readings ns
readings_none ns n is = ap (map (λ (x : Turn). x.moment)) (turns_of_append ns n ∙ ap (λ o. turns_of ns ++ option_to_list o) is ∙ append-nil (turns_of ns))

module _ {Y : Type 0} (y : Meaning Y) (tells : Bool) (may_begin : World → Type 0) (most : ℕ) (node : ℕ) (name : List ℕ) (lines : List UserLine) (was : Y) (start : List ℕ) (old : Known Noted) (told : Option (List ℕ))
    (next : Next) (seat seat' : HeldSeat) (now now' : Y) (then then' : Option (List ℕ)) (before after : Known Noted) (text text' : List ℕ)
    (is : IsTurn (next_at seat.live seat.node.state seat.node.state.stage) (Some next))
    (m : MakesTurn (IsTurnMade tells may_begin most) y node next seat seat' now now' then then' before after (Some text) (Some text'))
    (h : HasMade most node name old told seat before then)
  where
    abbrev turn : IsTurnMade tells may_begin most before after node m.asked.asked.moment m.asked.asked.call m.asked.answer
    turn = m.asked.asks_it

    left : (t : Turn) × (turn.note.turn ≡ Some t) × (t.node ≡ node) × (t.moment ≡ m.asked.asked.moment) × (t.why ≡ why_of m.asked.asked.call) × (turn.note.unread ≡ false)
    left = heard_turn most node m.asked.asked.moment m.asked.asked.call (turns_in (before.seen ++ turn.between)) turn.note turn.note.turn m.asked.answer refl turn.unread turn.made turn.leaves m.goes_on

    heard : AllByRecursion (IsHeard node) after.mine
    heard = subst (AllByRecursion (IsHeard node)) (sym turn.mine) (all_more (IsHeard node) before.mine turn.note h.heard (left.0, left.1, left.2, left.5))

    mine : notes_by node after.seen ≡ after.mine
    mine = mine_seen tells may_begin most node m.asked.asked.moment m.asked.asked.call m.asked.answer before after h.number.1 h.all_mine turn

    counted : length after.mine ≡ seat'.count
    counted =
        let size = length-append before.mine (turn.note ∷ []) in
        ap length turn.mine ∙ size ∙ ap (λ k. k + 1) h.count ∙ sym m.takes_in.count

    few : seat'.count ≤ most
    few =
        let own : length (notes_by node after.seen) ≤ length (turns_in after.seen) = fewer node after.seen (subst (AllByRecursion (IsHeard node)) (sym mine) heard) in
        let all : length (turns_in after.seen) ≤ most =
        subst (λ ts. length ts ≤ most) (sym (seen_turns tells may_begin most node m.asked.asked.moment m.asked.asked.call m.asked.answer before after h.number.1 h.all_mine turn)) turn.few in
        let same : length (notes_by node after.seen) ≡ seat'.count = ap length mine ∙ counted in
        omega (arith, own, all, same)

    moves : MovesOn next seat seat'
    moves =
        moves_on y next seat (record seat { node = m.asked.made }) seat' (record { moment = m.asked.asked.moment; call = m.asked.call.plain }) now now' m.asked.asked.call m.asked.answer m.asked.call.by refl
        m.takes_in

    pub made_on : HasMade most node name old told seat' after then'
    made_on = record {
      heard = heard;
      all_mine = mine;
      number = (turn.number ∙ h.number.0, turn.number ∙ h.number.1);
      took = turn.took ∙ h.took;
      place = turn.place ∙ h.place;
      count = counted;
      few = few;
      clock =
          subst (Appends told then') (sym (ap readings turn.mine ∙ readings_more before.mine turn.note left.0 left.1 ∙ ap (λ k. readings before.mine ++ k ∷ []) left.3))
          (appends_on (readings before.mine) (m.asked.asked.moment ∷ []) told then then' h.clock m.asked.clock);
      none_made = moves.ready;
      named = moves.name ∙ h.named;
    }

    module _ (sound_on : (w : World) (turns : List Turn) → IsSound w → IsLegal w turns → IsSound (after_turns w turns)) (first : World) (begins : may_begin first) (sound : IsSound first)
        (sure : IsTrue tells) (own : AreOwn node after.seen) (c : HasCome y first node name lines was start (turns_in before.seen) seat now text)
      where
        abbrev here : List Turn
        here = turns_in (before.seen ++ turn.between)

        abbrev w : World
        w = after_turns first here

        abbrev v : Visit
        v = record { before = w; turn = left.0 }

        may : MayAnswer w m.asked.asked.call left.0 m.asked.answer
        may = subst (λ o. IsAnswered w m.asked.asked.call o m.asked.answer) left.1 (turn.answered sure first begins)

        served : IsTurnOf w m.asked.asked.call left.0 × (m.asked.answer ≡ answer_of w left.0)
        served = says w m.asked.asked.call left.0 m.asked.answer m.goes_on may

        same_visits : visits_of node first here ≡ visits_of node first (turns_in before.seen)
        same_visits = visits_found tells may_begin most node m.asked.asked.moment m.asked.asked.call m.asked.answer before after h.number.1 h.all_mine turn first own

        live : is_live w node ≡ seat.live
        live = live_found tells may_begin most node m.asked.asked.moment m.asked.asked.call m.asked.answer before after h.number.1 h.all_mine turn first begins sound_on sound sure own ∙ sym c.live

        then_live : seat'.live ≡ is_live_behind v
        then_live =
            let sound_here : IsSound w = sound_on first here sound (turn.legal sure first begins) in
            m.takes_in.live
            ∙ ap (λ l. live_behind l (presence_of m.asked.asked.call) m.asked.answer) (sym live ∙ ap (is_live w) (sym left.2))
            ∙ ap (live_behind (is_live w left.0.node) (presence_of m.asked.asked.call)) served.1
            ∙ sym (answer_tells w m.asked.asked.call left.0 sound_here served.0)

        abbrev plain : Asked
        plain = record { moment = m.asked.asked.moment; call = m.asked.call.plain }

        served_plain : IsTurnOf w (built_call m.asked.call.plain) left.0
        served_plain = subst (λ (c : Call). IsTurnOf w c left.0) m.asked.call.asked_is served.0

        leads_on : Made y seat.node.state seat.live seat.count seat.begun plain m.asked.made seat'.node now now' v m.asked.answer served_plain left.3 served.1
        leads_on =
            made_next y seat.node.state seat.live seat.count seat.begun plain m.asked.made seat'.node now now' v m.asked.answer served_plain left.3 served.1 next
            (next_at seat.live seat.node.state seat.node.state.stage) refl is m.asked.call.by m.takes_in.heard

        there : turns_in after.seen ≡ here ++ left.0 ∷ []
        there = seen_turns tells may_begin most node m.asked.asked.moment m.asked.asked.call m.asked.answer before after h.number.1 h.all_mine turn ∙ ap (λ o. here ++ option_to_list o) left.1

        one_more : visits_of node first (here ++ left.0 ∷ []) ≡ visits_of node first (turns_in before.seen) ++ v ∷ []
        one_more = one_visit read_built node first here left.0 left.2 ∙ ap (λ vs. vs ++ v ∷ []) same_visits

        told_more : text_told name (visits_of node first (turns_in before.seen) ++ v ∷ []) ≡ text_told name (visits_of node first (turns_in before.seen)) ++ printed_of name m.asked.asked.call m.asked.answer
        told_more =
            flat_map-append (visit_told name) (visits_of node first (turns_in before.seen)) (v ∷ [])
            ∙ ap (λ l. text_told name (visits_of node first (turns_in before.seen)) ++ l)
            (append-nil (visit_told name v) ∙ lines_printed w m.asked.asked.call left.0 served.0 name m.asked.answer left.4 served.1)

        came : HasCome y first node name lines was start (here ++ left.0 ∷ []) seat' now' text'
        came = record {
          live = then_live ∙ ap (is_live (after_turn w left.0)) left.2 ∙ ap (λ x. is_live x node) (sym (after_both first here (left.0 ∷ [])));
          steps = c.steps ++ leads_on.steps;
          reached =
              subst (λ b. Reaches read_built (at_first lines) [] (is_live first node) (visits_of node first (here ++ left.0 ∷ [])) (c.steps ++ leads_on.steps) seat'.node.state b) (sym then_live)
              (course_reaches_on read_built first here left.0 node lines c.steps leads_on.steps seat.node.state seat'.node.state seat.live (is_live_behind v) left.2
              (subst (λ vs. Reaches read_built (at_first lines) [] (is_live first node) vs c.steps seat.node.state seat.live) (sym same_visits) c.reached) (leads_on.leads (visits_of node first here)
              (subst (λ vs. IsBehind vs (standing_of seat)) (sym same_visits) c.behind)));
          rose = rises_on y c.steps leads_on.steps was now now' c.rose leads_on.rose;
          taken = taken_on y c.steps leads_on.steps None was now now' c.taken leads_on.taken;
          behind =
              subst (λ vs. IsBehind vs (standing_of seat')) (sym one_more)
              (behind_one (visits_of node first (turns_in before.seen)) v (standing_of seat) (standing_of seat') c.behind m.takes_in.count
              (m.takes_in.begun ∙ ap (behind_answer seat.begun (step_of m.asked.asked.call)) served.1 ∙ sym ((turn_tells w m.asked.asked.call left.0 served.0).scans seat.begun)));
          text =
              m.prints ∙ ap (λ n. text ++ printed_of n m.asked.asked.call m.asked.answer) h.named
              ∙ ap (λ l. l ++ printed_of name m.asked.asked.call m.asked.answer) c.text
              ∙ append_assoc start (text_told name (visits_of node first (turns_in before.seen))) (printed_of name m.asked.asked.call m.asked.answer)
              ∙ ap (λ l. start ++ l) (sym told_more ∙ ap (text_told name) (sym one_more));
        }

        pub come_on : HasCome y first node name lines was start (turns_in after.seen) seat' now' text'
        come_on = subst (λ ts. HasCome y first node name lines was start ts seat' now' text') (sym there) came
