use Rattle.std.proofs.Common.{◌≡◌, ◌+◌, ◌∙◌, ap, subst, drop, take, ◌++◌, ◌∷◌, [], Ok, List, ℕ, IsTrue, arith}
use Rattle.qm_glog.specs.Records.{text, size_of, Fit}
use Rattle.qm_glog.specs.Bodies.{list_of}
use Rattle.qm_disk.proofs.Moments.{looks_on}
use Rattle.qm_glog.specs.Found.{HeadAt, EndsWithin}
use Rattle.qm_glog.specs.declared.reading.Head.{Head}
use Rattle.qm_glog.proofs.Walk.{record_on, begins_with_record, out_of_memory}
use Rattle.qm_glog.proofs.reading.read_records.Goals as goal

pub records-preserved : goal.records-preserved
records-preserved g c =
    let m = g.D.Disk.meaning in
    let was = c.records.invariant in
    let place = c.records.place in
    let n = c.in-Open.length in
    let old = c.args.disk.now in
    let file = c.args.file in
    let same = was.looks.reads c.args.file c.requires.file in
    let kept = c.read_head.ensures.looks.reads c.args.file c.requires.file in
    let list_is = c.reserve.ensures.list in
    let sames = kept ∙ same in
    let ends = subst (EndsWithin c.records.place c.args.size) c.in-Open.is c.in_ok-length.ensures.within in
    let long = c.from.ensures in
    let on : IsTrue g.D.Disk.meaning.tells → (g.D.Disk.meaning.seen c.args.disk.now c.args.file ≡ text (list_of c.read.new.self) ++ drop (c.records.place + (5 + c.from.result)) (g.D.Disk.meaning.seen c.args.disk.now c.args.file)) × Fit (list_of c.read.new.self) = λ told.
    let head = subst (λ (h : Head). HeadAt c.args.file (drop c.records.place (g.D.Disk.meaning.seen c.args.disk.now c.args.file)) c.records.place (Ok h)) c.in-Open.is
    (subst (λ (s : List ℕ). HeadAt c.args.file (drop c.records.place s) c.records.place (Ok c.in_ok-length.field-0)) same (c.in_ok-length.ensures.head told)) in
    record_on (m.seen old file) (list_of c.records.bodies) (list_of c.read.new.self) place (place + (5 + c.from.result)) n was.place (was.split told) (was.fit told) c.args.file
    head (omega (arith, ends, c.requires.size told))
    (c.in_ok-read.ensures.added told ∙ (λ k. list_is k ++ take n (drop (c.records.place + 5) (sames k)) ∷ []))
    (omega (arith, long)) in
    record {
      place = omega (arith, was.place, long, c.in_ok-read.ensures.size, ap size_of list_is);
      within = omega (arith, long, ends);
      split = λ told. (on told).0;
      fit = λ told. (on told).1;
      looks = looks_on m old c.read_head.new.disk c.read.new.disk
          (looks_on m old c.records.disk c.read_head.new.disk was.looks c.read_head.ensures.looks) c.read.ensures.looks;
      quiet = c.in_ok-read.ensures.faults.quiet (λ e. cc e) ∙ (c.in_ok-length.ensures.faults.quiet (λ e. cc e) ∙ was.quiet);
    }

pub returns-in_err-reserve-clause-found : goal.returns-in_err-reserve-clause-found
returns-in_err-reserve-clause-found g c = λ told.
    let m = g.D.Disk.meaning in
    let was = c.records.invariant in
    let seen = m.seen c.args.disk.now c.args.file in
    let same = was.looks.reads c.args.file c.requires.file in
    let ends = subst (EndsWithin c.records.place c.args.size) c.in-Open.is (c.in_ok-length.ensures.within) in
    let head = subst (λ (h : Head). HeadAt c.args.file (drop c.records.place (g.D.Disk.meaning.seen c.args.disk.now c.args.file)) c.records.place (Ok h)) c.in-Open.is
    (subst (λ (s : List ℕ). HeadAt c.args.file (drop c.records.place s) c.records.place (Ok c.in_ok-length.field-0)) same (c.in_ok-length.ensures.head told)) in
    out_of_memory c.args.file seen c.from_residual-in_err-reserve.result c.from_residual-in_err-reserve.ensures.1
    (begins_with_record seen (list_of c.records.bodies) c.records.place c.in-Open.length was.place (was.split told) (was.fit told) c.args.file head (omega (arith, ends, c.requires.size told)))
