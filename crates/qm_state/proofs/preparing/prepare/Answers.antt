use Rattle.std.proofs.Common.{◌≡◌, ◌∙◌, ◌≤◌, length, vec_capacity, sym, subst, ap}
use Rattle.qm_model.specs.Common.{QUEUES_LIMIT, System}
use Rattle.qm_image.specs.declared.image.Image.{Image}
use Rattle.qm_image.specs.Deciding.{PreparesAt}
use Rattle.qm_image.specs.Image.{system_of}
use Rattle.qm_image.specs.Preparing.{changed, made, starts_behind}
use Rattle.qm_state.proofs.Asking.{accepted, sound_after}
use Rattle.qm_state.proofs.Ready.{ready_with_runs}
use Rattle.qm_state.proofs.preparing.prepare.Goals as goal

pub reserve_starts-requires : goal.reserve_starts-requires
unfolding system_of
reserve_starts-requires c = subst (λ (s : System). length s.queues ≤ QUEUES_LIMIT) (sym c.prepare_change.ensures.takes.rows) c.requires.sound.queues.few

pub returns-in-Ok-reserve_starts-clause-rows : goal.returns-in-Ok-reserve_starts-clause-rows
unfolding system_of
returns-in-Ok-reserve_starts-clause-rows c = ap (λ (i : Image). system_of i) c.reserve_starts.ensures.rest ∙ c.prepare_change.ensures.takes.rows

pub returns-in-Ok-reserve_starts-clause-ready : goal.returns-in-Ok-reserve_starts-clause-ready
unfolding system_of made changed
returns-in-Ok-reserve_starts-clause-ready c =
    let left = sym c.are_numbers_spent.ensures ∙ c.if-are_numbers_spent.false in
    let taken = subst (PreparesAt c.args.now c.node_name-name.result c.args.request.now c.args.image.now c.prepare_change.new.image) c.in-Ok.is c.prepare_change.ensures in
    let rows : system_of c.reserve_starts.new.image ≡ system_of c.prepare_change.new.image = ap (λ (i : Image). system_of i) c.reserve_starts.ensures.rest in
    record {
      ready = ready_with_runs c.prepare_change.new.image c.reserve_starts.new.image c.reserve_starts.new.image.parts.spare_runs c.reserve_starts.ensures.rest c.in-Ok.change taken.takes.ready;
      sound = sound_after c.args.image.now c.prepare_change.new.image (system_of c.reserve_starts.new.image) c.args.node c.args.request.now c.in-Ok.change
          (rows ∙ taken.takes.rows) c.node_name-name.ensures c.requires.sound c.requires.lawful left taken;
      none_yet = c.in-Ok-reserve_starts.ensures.empty;
      started_room = subst (λ (s : System). starts_behind c.in-Ok.change c.args.now c.node_name-name.result s ≤ vec_capacity c.in-Ok-reserve_starts.started) (sym rows) (c.in-Ok-reserve_starts.ensures.room c.args.now c.node_name-name.result);
      run_room = subst (λ (s : System). starts_behind c.in-Ok.change c.args.now c.node_name-name.result s ≤ c.reserve_starts.new.image.parts.spare_runs) (sym rows) (c.in-Ok-reserve_starts.ensures.runs c.args.now c.node_name-name.result);
    }

pub returns-in-Ok-reserve_starts-clause-accepted : goal.returns-in-Ok-reserve_starts-clause-accepted
unfolding system_of made changed
returns-in-Ok-reserve_starts-clause-accepted c =
    let left = sym c.are_numbers_spent.ensures ∙ c.if-are_numbers_spent.false in
    let taken = subst (PreparesAt c.args.now c.node_name-name.result c.args.request.now c.args.image.now c.prepare_change.new.image) c.in-Ok.is c.prepare_change.ensures in
    accepted c.args.image.now c.prepare_change.new.image c.args.node c.args.request.now c.in-Ok.change c.node_name-name.ensures left taken

pub returns-clause-rows : goal.returns-clause-rows
unfolding system_of
returns-clause-rows c = ap (λ (i : Image). system_of i) c.reserve_starts.ensures.rest ∙ c.prepare_change.ensures.takes.rows
