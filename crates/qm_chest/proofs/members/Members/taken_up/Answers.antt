use Rattle.std.proofs.Common.{◌≡◌, ◌∙◌, List, true, false, map, refl, sym, ap, subst, slice_get, unwrap_or}
use Rattle.qm_store.specs.Database.{disk_of as closed_disk}
use Rattle.qm_glog.specs.declared.fault.OpenFault.TheVariants.{Damaged}
use Rattle.qm_history.specs.Common.{Node, system_of, cluster}
use Rattle.qm_acting.specs.Files.{files_disk}
use Rattle.qm_acting.specs.Reading.{IsRestoreFault}
use Rattle.qm_acting.proofs.Spare.{keeps_to, looks_keep}
use Rattle.qm_acting.specs.Standing.{restored_disk, restored_standing}
use Rattle.qm_chest.proofs.Begun.{leaves_behind, leaves_taken}
use Rattle.qm_chest.proofs.Lists.{are_so, called_so}
use Rattle.qm_chest.proofs.Reading.{nodes_read, was_read}
use Rattle.qm_chest.proofs.Unread.{damaged_faults, early_of, unread_leaves, unread_served}
use Rattle.qm_chest.proofs.members.Members.taken_up.Goals as goal

pub returns-in-Err-clause-leaves : goal.returns-in-Err-clause-leaves
returns-in-Err-clause-leaves g c =
    let m = g.D.Disk.meaning in
    let old = files_disk c.args.files in
    unread_leaves m c.args.self.now old c.in-Err.closed c.args.place c.args.node (unwrap_or (slice_get c.args.self.now.live.items c.args.node) false) c.in-Err.fault c.unread.result c.in-Err.ensures.faults
    (λ tells. looks_keep m old (closed_disk c.in-Err.closed) c.in-Err.ensures.looks) c.unread.ensures

pub returns-in-Err-clause-serves : goal.returns-in-Err-clause-serves
returns-in-Err-clause-serves g c = λ tells cap w asked taking all.
    let m = g.D.Disk.meaning in
    let files = m.seen (files_disk c.args.files) in
    let some = all.reads in
    unread_served c.site_files_are_accepted.ensures m cap w asked c.args.self.now c.args.node c.args.now c.args.input taking c.requires.there c.requires.can c.args.place (files_disk c.args.files) all c.in-Err.closed
    c.in-Err.ensures.looks c.in-Err.fault (unwrap_or (slice_get c.args.self.now.live.items c.args.node) false) c.unread.result refl
    (λ file at is. c.sites_can_be_read.ensures.undamaged files some.recorded (system_of some.is.log) file at some.holds some.is.site (subst (IsRestoreFault files) is (c.in-Err.ensures.found tells)))
    (λ byte is. c.sites_can_be_read.ensures.formatted files some.recorded byte some.holds (subst (IsRestoreFault files) is (c.in-Err.ensures.found tells)))
    c.unread.ensures

pub returns-then-not-are_nodes-clause-leaves : goal.returns-then-not-are_nodes-clause-leaves
returns-then-not-are_nodes-clause-leaves g c =
    let m = g.D.Disk.meaning in
    let old = files_disk c.args.files in
    let read = restored_disk c.in-Ok.restored in
    unread_leaves m c.args.self.now old c.close.result c.args.place c.args.node (unwrap_or (slice_get c.args.self.now.live.items c.args.node) false) (Damaged c.live.result 0) c.unread-then-not-are_nodes.result
    (damaged_faults m old (closed_disk c.close.result) c.live.result 0 (ap m.faults c.close.ensures ∙ c.in-Ok.ensures.faults.quiet (λ no. no)))
    (λ tells. keeps_to m old read (closed_disk c.close.result) (looks_keep m old read c.in-Ok.ensures.looks) c.close.ensures) c.unread-then-not-are_nodes.ensures

pub returns-then-not-are_nodes-clause-serves : goal.returns-then-not-are_nodes-clause-serves
returns-then-not-are_nodes-clause-serves g c = λ tells cap w asked taking all.
    let m = g.D.Disk.meaning in
    let st = restored_standing c.in-Ok.restored in
    let read = was_read c.site_files_are_accepted.ensures m cap w c.args.place c.found-kept.result (files_disk c.args.files) (restored_disk c.in-Ok.restored) st all (c.in-Ok.ensures.found tells) c.in-Ok.ensures.restored.file
    (c.in-Ok.ensures.restored.at_rest tells) c.in-Ok.ensures.looks c.found-kept.ensures in
    let named : map (λ (n : Node). n.name) c.nodes.result.now ≡ c.args.self.now.names.items =
    ap (λ (l : List Node). map (λ (n : Node). n.name) l) c.nodes.ensures ∙ ap cluster read.system ∙ nodes_read c.nodes_keep_their_names.ensures.names w c.found-kept.result taking.asks.3 ∙ taking.members.names in
    let yes_ : c.are_nodes.result ≡ true = c.are_nodes.ensures ∙ are_so c.nodes.result.now c.args.self.now.names.items named in
    let both_ : true ≡ false = sym yes_ ∙ c.if-not-are_nodes.true in
    absurd cc

pub take-requires-clause-can : goal.take-requires-clause-can
take-requires-clause-can g c = record {
  restored = c.in-Ok.ensures.restored;
  nodes = ap (λ (l : List Node). map (λ (n : Node). n.name) l) (sym c.nodes.ensures) ∙ called_so c.nodes.result.now c.args.self.now.names.items (sym c.are_nodes.ensures ∙ c.if-not-are_nodes.false);
  there = c.requires.there;
  epochs = c.requires.epochs;
  early = λ tells. early_of g.D.Disk.meaning c.args.self.now (files_disk c.args.files) c.args.place (restored_standing c.in-Ok.restored).recorded (c.requires.early tells) (c.in-Ok.ensures.found tells);
}

pub returns-in-Ok-take-clause-leaves : goal.returns-in-Ok-take-clause-leaves
returns-in-Ok-take-clause-leaves g c =
    leaves_behind g.D.Disk.meaning c.args.self.now (files_disk c.args.files) (restored_disk c.in-Ok.restored) _ _ c.behind.result (c.in-Ok.ensures.faults.quiet (λ no. no))
    (λ tells. looks_keep g.D.Disk.meaning (files_disk c.args.files) (restored_disk c.in-Ok.restored) c.in-Ok.ensures.looks)
    (leaves_taken g.D.Disk.meaning c.args.self.now _ _ (restored_disk c.in-Ok.restored) c.args.node c.in-Ok-take.taken c.behind.result c.in-Ok-take.ensures.leaves c.behind.ensures.leaves)

pub returns-in-Ok-take-clause-serves : goal.returns-in-Ok-take-clause-serves
returns-in-Ok-take-clause-serves g c = λ tells cap w asked taking all.
    let m = g.D.Disk.meaning in
    let read = was_read c.site_files_are_accepted.ensures m cap w c.args.place c.found-kept.result (files_disk c.args.files) (restored_disk c.in-Ok.restored) (restored_standing c.in-Ok.restored) all (c.in-Ok.ensures.found tells)
    c.in-Ok.ensures.restored.file (c.in-Ok.ensures.restored.at_rest tells) c.in-Ok.ensures.looks c.found-kept.ensures in
    c.behind.ensures.follows tells cap w asked (files_disk c.args.files) c.args.self.now (sym c.in-Ok-take.ensures.leaves.names) taking (c.in-Ok-take.ensures.takes tells cap w asked (files_disk c.args.files) taking read)

pub returns-in-Err-take-clause-leaves : goal.returns-in-Err-take-clause-leaves
returns-in-Err-take-clause-leaves g c =
    leaves_behind g.D.Disk.meaning c.args.self.now (files_disk c.args.files) (restored_disk c.in-Ok.restored) _ _ c.in-Err-take.served (c.in-Ok.ensures.faults.quiet (λ no. no))
    (λ tells. looks_keep g.D.Disk.meaning (files_disk c.args.files) (restored_disk c.in-Ok.restored) c.in-Ok.ensures.looks) c.in-Err-take.ensures.leaves

pub returns-in-Err-take-clause-serves : goal.returns-in-Err-take-clause-serves
returns-in-Err-take-clause-serves g c = λ tells cap w asked taking all.
    let m = g.D.Disk.meaning in
    let read = was_read c.site_files_are_accepted.ensures m cap w c.args.place c.found-kept.result (files_disk c.args.files) (restored_disk c.in-Ok.restored) (restored_standing c.in-Ok.restored) all (c.in-Ok.ensures.found tells)
    c.in-Ok.ensures.restored.file (c.in-Ok.ensures.restored.at_rest tells) c.in-Ok.ensures.looks c.found-kept.ensures in
    c.in-Err-take.ensures.takes tells cap w asked (files_disk c.args.files) taking read
