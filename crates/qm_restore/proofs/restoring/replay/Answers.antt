use Rattle.std.proofs.Common.{◌∙◌, sym, ap, subst}
use Rattle.qm_history.specs.Common.{System, IsConsistent, Accepted}
use Rattle.qm_image.specs.Image.{system_of}
use Rattle.qm_image.specs.Preparing.{made}
use Rattle.qm_restore.proofs.Beginning.{not_both}
use Rattle.qm_restore.proofs.Next.{cannot_act, goes_to, is_next, is_refused}
use Rattle.qm_restore.proofs.restoring.replay.Goals as goal

pub returns-in-Ok-clause-done : goal.returns-in-Ok-clause-done
returns-in-Ok-clause-done c =
    let s : System = system_of c.args.image.now in
    goes_to s c.args.what.now c.in-Ask.request c.in-Ask.is (made c.in-Ok.prepared s) (system_of c.commit.new.image) c.requires.spelled (c.can_act.ensures.0 c.if-not-can_act.false) c.in-Ok.ensures.accepted
    (ap (λ (t : System). (made c.in-Ok.prepared t).system) (sym c.prepare.ensures.rows) ∙ ap (λ (x : Accepted). x.system) c.commit.ensures.done)

pub returns-in-Ok-clause-sound : goal.returns-in-Ok-clause-sound
returns-in-Ok-clause-sound c =
    let s : System = system_of c.args.image.now in
    subst IsConsistent (ap (λ (t : System). (made c.in-Ok.prepared t).system) (sym c.prepare.ensures.rows) ∙ ap (λ (x : Accepted). x.system) c.commit.ensures.done)
    (c.requests_keep_consistent.ensures s c.args.what.now.moment c.args.what.now.node c.in-Ask.request (made c.in-Ok.prepared s) c.requires.sound (c.can_act.ensures.0 c.if-not-can_act.false).names c.in-Ok.ensures.accepted)

pub prepare-requires-clause-sound : goal.prepare-requires-clause-sound
prepare-requires-clause-sound c = c.requires.sound

pub prepare-requires-clause-later : goal.prepare-requires-clause-later
prepare-requires-clause-later c = (c.can_act.ensures.0 c.if-not-can_act.false).not_earlier

pub prepare-requires-clause-serves : goal.prepare-requires-clause-serves
prepare-requires-clause-serves c = (c.can_act.ensures.0 c.if-not-can_act.false).node_there

pub prepare-requires-clause-lawful : goal.prepare-requires-clause-lawful
prepare-requires-clause-lawful c = (c.can_act.ensures.0 c.if-not-can_act.false).names

pub commit-requires-clause-sound : goal.commit-requires-clause-sound
commit-requires-clause-sound c = subst IsConsistent (sym c.prepare.ensures.rows) c.requires.sound

pub commit-requires-clause-prepared : goal.commit-requires-clause-prepared
commit-requires-clause-prepared c = c.in-Ok.ensures.ready

pub returns-in_default-clause-sound : goal.returns-in_default-clause-sound
returns-in_default-clause-sound c = c.requires.sound

pub returns-then-not-can_act-clause-sound : goal.returns-then-not-can_act-clause-sound
returns-then-not-can_act-clause-sound c = c.requires.sound

pub returns-then-not-can_act-clause-done : goal.returns-then-not-can_act-clause-done
returns-then-not-can_act-clause-done c =
    cannot_act (system_of c.args.image.now) c.args.what.now c.in-Ask.request c.in-Ask.is (λ can. not_both c.can_act.result (c.can_act.ensures.1 can) c.if-not-can_act.true)

pub returns-in-Err-By-clause-sound : goal.returns-in-Err-By-clause-sound
returns-in-Err-By-clause-sound c = subst IsConsistent (sym c.prepare.ensures.rows) c.requires.sound

pub returns-in-Err-By-clause-done : goal.returns-in-Err-By-clause-done
returns-in-Err-By-clause-done c =
    let e = rw c.in-Err-By.field-0-is at c.in-Err-By.ensures in
    is_refused (system_of c.args.image.now) c.args.what.now c.in-Ask.request c.in-Ask.is _ e.refused

pub returns-in-Err-NoMemory-clause-sound : goal.returns-in-Err-NoMemory-clause-sound
returns-in-Err-NoMemory-clause-sound c = subst IsConsistent (sym c.prepare.ensures.rows) c.requires.sound

pub returns-in-Err-NoMemory-clause-no_memory : goal.returns-in-Err-NoMemory-clause-no_memory
returns-in-Err-NoMemory-clause-no_memory c = λ err.
    let e = rw c.in-Err-NoMemory.field-0-is at c.in-Err-NoMemory.ensures in
    is_next (system_of c.args.image.now) c.args.what.now c.in-Ask.request c.in-Ask.is c.requires.spelled (c.can_act.ensures.0 c.if-not-can_act.false) e.refused
