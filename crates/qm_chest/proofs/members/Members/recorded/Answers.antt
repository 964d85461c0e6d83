use Rattle.std.proofs.Common.{arith, ◌∙◌, ap, sym, subst, None}
use Rattle.qm_history.specs.declared.call.Answer.TheVariants as answer
use Rattle.qm_kinds.specs.declared.request.Request.{Request}
use Rattle.qm_acting.specs.Asking.{CanBeAsked}
use Rattle.qm_acting.specs.Standing.{restored_disk, restored_standing}
use Rattle.qm_chest.specs.Taking.{IsTook, failed, request_of, told_of_failed}
use Rattle.qm_chest.proofs.Failed as failing
use Rattle.qm_chest.proofs.Lists.{request_read, took_can_be_asked}
use Rattle.qm_chest.proofs.Names.{node_within}
use Rattle.qm_chest.proofs.Outcomes.{served_as}
use Rattle.qm_chest.proofs.members.Members.recorded.Goals as goal

pub written-requires-clause-asks : goal.written-requires-clause-asks
written-requires-clause-asks g c =
    let st = restored_standing c.args.restored in
    let can = c.requires.can in
    subst (λ (x : Request). CanBeAsked st.system c.acting-moment.result c.args.node x)
    (sym (c.in-Ok.ensures ∙ request_read c.args.self.now st.system c.args.node c.args.input.now c.next_epoch-epoch.result c.nodes.result.now c.may.result.now c.nodes.ensures c.may.ensures))
    (took_can_be_asked st.system (c.site_files_are_consistent.ensures st.recorded.bodies st.system can.restored.file) c.args.self.now c.args.node c.args.input.now
    c.acting-moment.result c.next_epoch-epoch.result (node_within st.system c.args.self.now.names.items c.args.node can.nodes can.there) (omega (arith, c.acting-moment.ensures)))

pub written-requires-clause-took : goal.written-requires-clause-took
written-requires-clause-took g c = subst IsTook (sym c.in-Ok.ensures) tt

pub returns-in_default-clause-takes : goal.returns-in_default-clause-takes
returns-in_default-clause-takes g c = λ tells cap w asked old taking read.
    let m = g.D.Disk.meaning in
    let can = c.requires.can in
    served_as m cap w c.args.node c.args.now asked old _ c.short.result (failed c.close.result None c.args.node c.args.self.now.greatest c.args.kept None (answer.NoMemory (told_of_failed c.args.self.now.greatest c.args.kept)))
    c.short.ensures
    (failing.short_served c.site_files_are_accepted.ensures m g.met.D.Disk.only_now g.met.D.Disk.counts_now (λ disk f le. g.met.D.Disk.reads_a_crash_state disk f tells le) cap w asked c.args.kept old
    (restored_disk c.args.restored) (restored_standing c.args.restored) read c.args.self.now c.args.node c.args.now c.args.input.now taking can.there c.requires.asks can.nodes c.close.result c.close.ensures)

pub returns-clause-takes : goal.returns-clause-takes
returns-clause-takes g c =
    let st = restored_standing c.args.restored in
    c.written.ensures.takes c.args.now c.args.input.now c.requires.asks (record {
      named = c.requires.named;
      moment_is = c.acting-moment.ensures;
      is = c.in-Ok.ensures ∙ request_read c.args.self.now st.system c.args.node c.args.input.now c.next_epoch-epoch.result c.nodes.result.now c.may.result.now c.nodes.ensures c.may.ensures
          ∙ ap (request_of c.args.self.now st.system c.args.node c.args.input.now) c.next_epoch-epoch.ensures;
    })
