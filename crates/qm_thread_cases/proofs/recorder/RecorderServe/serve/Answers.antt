use Rattle.std.proofs.Common.{◌≤◌, ◌≡◌, ◌∙◌, List, [], ◌∷◌, length, refl, sym, ap, arith, true, false, Some, length-append}
use Rattle.qm_history.specs.declared.turn.Turn.{Turn}
use Rattle.qm_history.specs.Common.{turns_kept, tells_disk_fault}
use Rattle.qm_thread_cases.proofs.recorder.RecorderServe.serve.Goals as goal

pub returns-in-Ok : goal.returns-in-Ok
returns-in-Ok c =
    let found : List Turn = c.args.self.now.asked.items in
    let turn : Turn = record { node = c.args.node; why = c.why_of.result; moment = c.args.now; events = c.new.result } in
    let few : length c.push.new.self.items ≤ turns_kept =
    (let less = c.if-len-eq-TURNS.false in let size = c.len.ensures in let serves : length found ≤ turns_kept = c.requires.serves in
    let more = ap length c.in-Ok.ensures.items ∙ length-append found (turn ∷ []) in omega (arith, less, size, serves, more)) in
    record {
      turn = Some turn;
      turns = c.in-Ok.ensures.items;
      made = (refl, refl, c.why_of.ensures);
      leaves = c.answer_to.ensures.kept;
      tells = λ shown. c.answer_to.ensures.quiet ∙ sym (ap tells_disk_fault c.new.ensures);
      few = few;
      nodes = refl;
      faults = record { fault = λ told. (let no : false ≡ true = sym c.answer_to.ensures.quiet ∙ told in cc); quiet = λ none. refl };
      undamaged = λ sure. (let no : false ≡ true = sure in cc);
      duties = c.answer_to.ensures.duties;
      serves = few;
      at = λ w stands. absurd stands;
    }
