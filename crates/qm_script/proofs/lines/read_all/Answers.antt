use Rattle.std.proofs.Common.{◌+◌, ◌≤◌, ◌<◌, ◌++◌, ◌&&◌, Bool, List, [], is_ok, arith, sym, ◌∙◌, ap, subst, length, IfOk, Result, option_copied, option_map, option_to_list}
use Rattle.qm_history.specs.Common.{ScriptKind, UserLine}
use Rattle.qm_script.specs.declared.lines.Taken.{Taken}
use Rattle.qm_script.specs.ClusterLines.{user_line_view, user_lines_view}
use Rattle.qm_script.specs.Heads.{TakesLine}
use Rattle.qm_script.proofs.Taking.{all_read, behind_none, line_wrong, lines_taken, none_put, ok, some_put}
use Rattle.qm_script.proofs.lines.read_all.Goals as goal

pub loop-step-init : goal.loop-step-init
loop-step-init c = record {
  so_far = [];
  lines = behind_none _;
  all = λ e. ap user_lines_view c.new-lines.ensures.items;
  number = omega arith;
  short = omega arith;
}

pub next_line-requires-clause-few : goal.next_line-requires-clause-few
next_line-requires-clause-few c = omega (arith, c.requires, c.loop-step.invariant.number, c.loop-step.invariant.short)

pub loop-step-preserved-in-None : goal.loop-step-preserved-in-None
loop-step-preserved-in-None c =
    let inv = c.loop-step.invariant in
    let names = option_copied c.args.nodes in
    let number = c.loop-step.number in
    let rest = c.loop-step.rest.now in
    let line = subst (λ (r : Result Taken ScriptKind). TakesLine names number rest r) c.in-Ok.is c.in-Some.ensures.line in
    let behind = subst (λ (r : Result Taken ScriptKind). IfOk r (λ (t : Taken). t.next + length t.rest.now ≤ number + length rest)) c.in-Ok.is c.in-Some.ensures.behind in
    let less = subst (λ (r : Result Taken ScriptKind). IfOk r (λ (t : Taken). length t.rest.now < length rest)) c.in-Ok.is c.in-Some.ensures.less in
    record {
      so_far = inv.so_far ++ option_to_list (option_map user_line_view c.in-Ok.taken.line);
      lines = lines_taken names number rest inv.so_far _ inv.lines (option_to_list (option_map user_line_view c.in-Ok.taken.line)) c.in-Ok.taken.next c.in-Ok.taken.rest.now line;
      all = none_put c.loop-step.are_all c.loop-step.lines.items c.in-Ok.taken.line inv.so_far c.in-None.is inv.all;
      number = omega (arith, inv.number, behind);
      short = omega (arith, inv.short, less);
    }

pub loop-step-preserved : goal.loop-step-preserved
loop-step-preserved c =
    let inv = c.loop-step.invariant in
    let names = option_copied c.args.nodes in
    let number = c.loop-step.number in
    let rest = c.loop-step.rest.now in
    let line = subst (λ (r : Result Taken ScriptKind). TakesLine names number rest r) c.in-Ok.is c.in-Some.ensures.line in
    let behind = subst (λ (r : Result Taken ScriptKind). IfOk r (λ (t : Taken). t.next + length t.rest.now ≤ number + length rest)) c.in-Ok.is c.in-Some.ensures.behind in
    let less = subst (λ (r : Result Taken ScriptKind). IfOk r (λ (t : Taken). length t.rest.now < length rest)) c.in-Ok.is c.in-Some.ensures.less in
    record {
      so_far = inv.so_far ++ option_to_list (option_map user_line_view c.in-Ok.taken.line);
      lines = lines_taken names number rest inv.so_far _ inv.lines (option_to_list (option_map user_line_view c.in-Ok.taken.line)) c.in-Ok.taken.next c.in-Ok.taken.rest.now line;
      all = some_put c.loop-step.are_all (is_ok c.push.result) (c.loop-step.are_all && c.is_ok-are_all.result) _ _ c.in-Ok.taken.line _ inv.so_far c.in-Some-line.is (ap (λ (put : Bool). c.loop-step.are_all && put) c.is_ok-are_all.ensures.value) c.push.ensures.items inv.all;
      number = omega (arith, inv.number, behind);
      short = omega (arith, inv.short, less);
    }

pub returns-in-Err : goal.returns-in-Err
returns-in-Err c =
    let inv = c.loop-step.invariant in
    let names = option_copied c.args.nodes in
    line_wrong names c.loop-step.number c.loop-step.rest.now inv.so_far _ inv.lines (record { line = c.loop-step.number; kind = c.in-Err.kind })
    (subst (λ (r : Result Taken ScriptKind). TakesLine names c.loop-step.number c.loop-step.rest.now r) c.in-Err.is c.in-Some.ensures.line)

pub returns-then-are_all : goal.returns-then-are_all
returns-then-are_all c =
    let inv = c.loop-step.invariant in
    all_read (option_copied c.args.nodes) c.loop-step.number c.loop-step.rest.now inv.so_far _ inv.lines c.in_default.ensures.line
    ∙ ap (λ (lines : List UserLine). ok lines) (sym (inv.all c.if-are_all.true))
