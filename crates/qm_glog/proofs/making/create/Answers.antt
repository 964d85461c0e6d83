use Rattle.std.proofs.Common.{◌≡◌, ◌∙◌, ap, ◌++◌, ◌∷◌, [], ◌^◌, ◌<◌, List, ℕ, length, vec_len, arith}
use Rattle.qm_glog.specs.Records.{size_of}
use Rattle.qm_glog.proofs.Texts.{length-text}
use Rattle.qm_glog.specs.Bodies.{contents}
use Rattle.qm_glog.proofs.Made.{is_made, is_left}
use Rattle.qm_glog.proofs.making.create.Goals as goal

pub of-requires-clause-end : goal.of-requires-clause-end
of-requires-clause-end g c =
    let rows : List (List ℕ) = contents c.args.rows.now in
    let long : vec_len c.in_ok-text.text ≡ length c.in_ok-text.text.items = omega arith in
    omega (arith, long, c.len-end.ensures, ap (λ (l : List ℕ). length l) c.in_ok-text.ensures, length-text (contents c.args.rows.now), ap size_of c.in_ok-bodies.ensures)

pub returns-clause-left : goal.returns-clause-left
returns-clause-left g c = λ told.
    let m = g.D.Disk.meaning in
    let bodies : List (List ℕ) = contents c.args.rows.now in
    let short : size_of (contents c.args.rows.now) < 2 ^ 32 = omega arith in
    let file = c.in_ok-replace.ensures.holds told ∙ c.deref.ensures.value ∙ c.in_ok-extend_from_slice.ensures.items ∙ ap (λ (l : List ℕ). l ++ 0 ∷ []) c.in_ok-text.ensures in
    is_left m c.args.file c.args.cap c.of.result c.replace.new.disk bodies c.of.ensures.place (c.of.ensures.bodies ∙ c.in_ok-bodies.ensures)
    (is_made (m.seen c.replace.new.disk c.args.file) bodies short file) (c.in_ok-replace.ensures.durable told)
