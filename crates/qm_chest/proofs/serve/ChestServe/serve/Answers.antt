use Rattle.std.proofs.Common.{◌∙◌, ◌≤◌, ℕ, inr, length, refl, sym, subst, None}
use Rattle.qm_history.specs.Calls.{input_of}
use Rattle.qm_history.specs.declared.call.Answer.TheVariants as answer
use Rattle.qm_chest.specs.Serving.{CanServe, Serving}
use Rattle.qm_chest.specs.Whole.{both}
use Rattle.qm_chest.specs.declared.wanted.Wanted.{Wanted}
use Rattle.qm_chest.proofs.Called.{none_call, one_call}
use Rattle.qm_chest.proofs.Recordable.{askable_can}
use Rattle.qm_chest.proofs.Served.{can_serve, kept_so}
use Rattle.qm_chest.proofs.serve.ChestServe.serve.Goals as goal

pub returns-in_default : goal.returns-in_default
returns-in_default g c =
    none_call g.D.Disk.meaning c.args.self.now _ c.args.node c.args.now c.args.call c.site_files_are_accepted.ensures g.met.D.Disk.only_now refl refl (answer.NoMemory None) (inr refl) c.requires.serves

pub returns-in-Err : goal.returns-in-Err
returns-in-Err g c =
    let e = c.in-Err.ensures in
    none_call g.D.Disk.meaning c.args.self.now _ c.args.node c.args.now c.args.call c.site_files_are_accepted.ensures g.met.D.Disk.only_now refl e.turns c.in-Err.told e.why c.requires.serves

pub serve-first-requires : goal.serve-first-requires
serve-first-requires g c =
    subst (λ (wanted : Wanted). CanServe g.D.Disk.meaning wanted c.args.self.now.state) (sym c.in-Ok.ensures)
    (can_serve g.D.Disk.meaning c.args.node c.args.now c.args.call c.args.self.now c.requires.serves c.requires.there (askable_can c.args.node (input_of c.args.call) c.requires.askable) c.in-Ok-room_for.ensures.few)

pub keep-requires-clause-room : goal.keep-requires-clause-room
keep-requires-clause-room g c =
    let out = c.serve-first.result in
    subst (λ (n : ℕ). length (both out.first out.second) ≤ n) (sym (c.in-Ok-room_for.ensures.events.1 ∙ c.most_events-most.ensures)) c.serve-first.ensures.few

pub returns-in-Ok-room_for : goal.returns-in-Ok-room_for
returns-in-Ok-room_for g c =
    let old = c.args.self.now in
    let out = c.serve-first.result in
    let served = subst (λ (wanted : Wanted). Serving g.D.Disk.meaning wanted old.state c.serve-first.new.self out) c.in-Ok.ensures c.serve-first.ensures.serving in
    let kept = kept_so old.turns.items c.room_for.new.turns.items c.keep.new.turns.items c.in-Ok.wanted c.args.node c.args.now c.args.call (both out.first out.second)
    c.in-Ok.ensures c.in-Ok-room_for.ensures.turns c.keep.ensures in
    one_call g.D.Disk.meaning old _ c.args.node c.args.now c.args.call out served kept c.worlds_stay_sound.ensures.events c.in-Ok-room_for.ensures.few c.requires.serves
